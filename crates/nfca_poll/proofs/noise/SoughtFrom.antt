-- A resolution of a round, whatever noise it meets: what is known of the cards at each point, and where it ends.
use Rattle.std.proofs.Common.{◌≡◌, ◌⊎◌, ℕ, ◌+◌, ◌*◌, ◌<◌, ◌≤◌, List, [], ◌∷◌, ◌++◌, length, map, filter_map, Bool, true, false, nat_lt, if◌then◌else◌, inl, inr, refl, sym, ◌∙◌, ap, subst, arith, None}
use Rattle.nfc_base.specs.declared.event.Heard.{Heard}
use Rattle.nfc_base.specs.declared.event.Heard.TheVariants.{Silent}
use Rattle.nfc_base.specs.Signal.{Signal}
use Rattle.nfc_base.specs.Trace.{Turn}
use Rattle.air_core.specs.Joint.{joint}
use Rattle.nfca_poll.specs.declared.kind.Kind.{Kind}
use Rattle.nfca_poll.specs.Ident.{IsIdent}
use Rattle.nfca_poll.specs.Levels.{levels}
use Rattle.nfca_poll.specs.Calls.{Reading, Calls, Sens, Sdd, Sel, call_of, call_frame}
use Rattle.nfca_poll.specs.Front.{Front, Off, Idle, Sleep, Ready, Active, sens_res}
use Rattle.nfca_poll.specs.Poll.{Seek, Calling, Asking, Selecting, Ended, Outcome, Nobody, Disturbed, seek_step}
use Rattle.nfca_poll.specs.Crowd.{Card, Each, is_idle, is_rest, AreDistinct}
use Rattle.nfca_poll.proofs.quiet.CrowdParts.{IsFirst}
use Rattle.nfca_poll.proofs.quiet.Clashes.{wrong, wrong_back, Has}
use Rattle.nfca_poll.proofs.quiet.Eaches.{each_map, each_has, has_middle, said_none, said_has}
use Rattle.nfca_poll.proofs.identifiers.HeardBits.{heard_of}
use Rattle.nfca_poll.proofs.identifiers.LevelFacts.{IsLevel, IsLevels, levels_are}
use Rattle.nfca_poll.proofs.identifiers.CallsRead.{sdd_read, sel_read}
use Rattle.nfca_poll.proofs.identifiers.Fitting.{card_next, card_says, card_at, sdd_at, sel_at, fits_in}
use Rattle.nfca_poll.proofs.quiet.Choosing.{hears, Seeks, IsCard, heard_some, calls_idle, asking_turn}
use Rattle.nfca_poll.proofs.quiet.Selects.{selecting_turn}
use Rattle.nfca_poll.proofs.noise.NobodyIdle.{Sleeps}
use Rattle.nfca_poll.proofs.noise.NoisyTurns.{TurnWas, passed, unheard, damaged, lost}
use Rattle.nfca_poll.proofs.noise.ThroughNoise.{is_calling, asking_on, selecting_on, asked_first, at_least}
use Rattle.nfca_poll.proofs.quiet.Causes as causes
use Rattle.nfca_poll.proofs.quiet.Causes.{Leads, leads}
use Rattle.nfca_poll.proofs.quiet.RoundParts.{noisy_count}
use Rattle.nfca_poll.proofs.noise.Standing.{Stands, cast, Shades, called, third_call, first_shades, second_shades, first_answers, second_answers, third_answers, cast_cards, cast_distinct, sdd_unmoved}
use Rattle.nfca_poll.proofs.noise.Standing.{sel_unmoved, shades_next, shades_say}

-- One of a group is picked from: m is the first of it.
pub record Plays (start : List Card) (s : Seek) (v : List Card) : Type 0 where
  pub idle : Bool
  pub a : List Card
  pub m : Card
  pub b : List Card
  pub parts : map (cast idle) start ≡ a ++ m ∷ b
  pub first : IsFirst a m b
  pub played : List Card
  pub seeks : Seeks a m b s played
  pub shades : Shades idle start played v

abbrev pub NoneIdle : List Card → Type 0
NoneIdle start = Each (λ c. is_idle c.front ≡ false) start

-- somebody idle has been missed by noise alone
abbrev pub Spares : List Card → ℕ → ℕ → Type 0
Spares start k n = NoneIdle start ⊎ (k ≤ 2 * n)

-- While it calls: no call has passed; or an odd number, or an even one.
pub data Stage (start : List Card) (k n : ℕ) : List Card → Type 0 where
  none : Spares start k n → Stage start k n start
  odd : Spares start (k + 1) n → Stage start k n (map called start)
  even : Spares start k n → Stage start k n (map called (map called start))

-- it ended with a device, was disturbed by noise, or found nobody
abbrev pub EndsWith : List Card → Outcome → List Card → List Turn → ℕ → Type 0
EndsWith start o v ts n = Plays start (Ended o) v ⊎ (((o ≡ Disturbed) × (0 < n)) ⊎ ((o ≡ Nobody) × (NoneIdle start ⊎ ((length ts ≡ 4) × (2 ≤ noisy_count ts)))))

-- What is known, by the turns of SENS_REQ in it and the noise of its round.
abbrev pub SoughtFrom : List Card → Seek → List Card → List Turn → ℕ → Type 0
SoughtFrom start (Calling k) v ts n = (length ts ≡ k) × (k ≤ 3) × Stage start k (noisy_count ts) v
SoughtFrom start (Asking done known) v ts n = Plays start (Asking done known) v
SoughtFrom start (Selecting done l) v ts n = Plays start (Selecting done l) v
SoughtFrom start (Ended o) v ts n = EndsWith start o v ts n

plays_on : (start : List Card) (s : Seek) (v : List Card) (ts : List Turn) (n : ℕ) → is_calling s ≡ false → Plays start s v → SoughtFrom start s v ts n
plays_on start (Calling k) v ts n h p = wrong_back h
plays_on start (Asking done known) v ts n h p = p
plays_on start (Selecting done l) v ts n h p = p
plays_on start (Ended o) v ts n h p = inl p

module _ (start : List Card) (stand : Each Stands start) (apart : AreDistinct start) where
  silent_by : (id : List ℕ) (k : Kind) (f : Front) → is_rest f ≡ true → is_idle f ≡ false → card_says (Calls Sens) (record { id = id; kind = k; front = f }) ≡ None
  silent_by id k Off r i = refl
  silent_by id k Idle r i = wrong_back i
  silent_by id k Sleep r i = refl
  silent_by id k (Ready j s) r i = wrong r
  silent_by id k (Active s) r i = wrong r

  -- a group in which none is idle says nothing
  group_silent : (w : List Card) → Each Sleeps w → filter_map (card_says (Calls Sens)) w ≡ []
  group_silent w s = said_none (card_says (Calls Sens)) w (each_map Sleeps (λ c. card_says (Calls Sens) c ≡ None) (λ c h. silent_by c.id c.kind c.front h.0 h.1) w s)

  none_idle : (w : List Card) → Each Sleeps (map (cast true) w) → NoneIdle w
  none_idle [] e = tt
  none_idle (c ∷ cs) e = (was c.front e.0.1, none_idle cs e.1)
    where
      was : (f : Front) → is_idle (cast true (record { id = c.id; kind = c.kind; front = f })).front ≡ false → is_idle f ≡ false
      was Off h = refl
      was Idle h = wrong_back h
      was Sleep h = refl
      was (Ready j s) h = refl
      was (Active s) h = refl

  -- The group whose turn it is answers, and is asked from now on; or it has nobody who is idle.
  abbrev Group : Bool → List Card → Type 0
  Group idle v = (filter_map (card_says (Calls Sens)) v ≡ filter_map (card_says (Calls Sens)) (map (cast idle) start)) × Shades idle start (map (card_at [] []) (map (cast idle) start)) (map called v)

  abbrev Answers : Bool → List Card → Type 0
  Answers idle v = (Plays start (Asking [] []) (map called v) × ((k : ℕ) → seek_step (Calling k) (hears (Calls Sens) v) ≡ Asking [] []))
      ⊎ ((filter_map (card_says (Calls Sens)) v ≡ []) × Each Sleeps (map (cast idle) start))

  group_answers : (idle : Bool) (v : List Card) → Group idle v → Answers idle v
  group_answers idle v g = by_lead (map (cast idle) start) refl (leads (map (cast idle) start) (cast_cards idle start stand) (cast_distinct idle start apart))
    where
      by_lead : (w : List Card) → map (cast idle) start ≡ w → Leads w → Answers idle v
      by_lead _ e (causes.none w s) =
          let S : List Card → Type 0 = λ x. Each Sleeps x in
          inr (g.0 ∙ ap (filter_map (card_says (Calls Sens))) e ∙ group_silent w s, subst S (sym e) s)
      by_lead _ e (causes.some a m b F) =
          let w : List Card = a ++ m ∷ b in
          let answer : Has (sens_res (length (levels m.id))) (filter_map (card_says (Calls Sens)) w) =
          said_has (card_says (Calls Sens)) m (sens_res (length (levels m.id))) w (has_middle m a b) (calls_idle m F.idle) in
          let P : List Card → Type 0 = λ x. Shades idle start (map (card_at [] []) x) (map called v) in
          inl (
            record {
              idle = idle;
              a = a;
              m = m;
              b = b;
              parts = e;
              first = F;
              played = map (card_at [] []) (a ++ m ∷ b);
              seeks = asked_first a m b F;
              shades = subst P e g.1;
            },
            (λ k. ap (λ t. seek_step (Calling k) (heard_of (joint t))) (g.0 ∙ ap (filter_map (card_says (Calls Sens))) e)
                ∙ heard_some (sens_res (length (levels m.id))) (filter_map (card_says (Calls Sens)) w) k answer),
          )

  stage_spares : (k n : ℕ) (v : List Card) → Stage start k n v → Spares start k n
  stage_spares k n _ (none h) = h
  stage_spares k n _ (odd h) = elim h [ inl e ↦ inl e | inr l ↦ inr (omega (arith, l)) ]
  stage_spares k n _ (even h) = h

  at_end : (k n : ℕ) → Spares start (k + 1) n → 3 ≤ k → NoneIdle start ⊎ (2 ≤ n)
  at_end k n (inl e) l = inl e
  at_end k n (inr h) l = inr (omega (arith, h, l))

  below : (k : ℕ) → nat_lt k 3 ≡ true → k < 3
  below k h = grind arith

  -- one silence more
  silence : (k : ℕ) (v : List Card) (ts : List Turn) (n : ℕ) → length ts ≡ k + 1 → k ≤ 3 → Stage start (k + 1) (noisy_count ts) v → SoughtFrom start (seek_step (Calling k) Silent) v ts n
  silence k v ts n count few stage = by_count (nat_lt k 3) refl
    where
      by_count : (t : Bool) → nat_lt k 3 ≡ t → SoughtFrom start (if t then Calling (k + 1) else Ended Nobody) v ts n
      by_count true q = let l : k < 3 = below k q in (count, omega (arith, l), stage)
      by_count false q =
          let l : 3 ≤ k = at_least k q in
          let four : length ts ≡ 4 = omega (arith, count, few, l) in
          inr (inr (refl, elim (at_end k (noisy_count ts) (stage_spares (k + 1) (noisy_count ts) v stage) l) [ inl e ↦ inl e | inr m ↦ inr (four, m) ]))

  -- a call in one stage: the group is heard, or it is silent, or it isn't asked, or it isn't heard
  step_at : (idle : Bool) (k : ℕ) (v v' : List Card) (h : Heard) (t : ℕ) (ts ts' : List Turn) (n : ℕ) → Group idle v → length ts' ≡ k + 1 → k ≤ 3
      → (Each Sleeps (map (cast idle) start) → Stage start (k + 1) (noisy_count ts) (map called v)) → Stage start (k + 1) (noisy_count ts + 1) v
      → Stage start (k + 1) (noisy_count ts + 1) (map called v)
      → noisy_count ts' ≡ noisy_count ts + t → TurnWas (Calls Sens) v v' h t → SoughtFrom start (seek_step (Calling k) h) v' ts' (n + t)
  step_at idle k v _ _ _ ts ts' n g count few quiet miss lose more passed = by_group (group_answers idle v g)
    where
      same : noisy_count ts ≡ noisy_count ts'
      same = omega (arith, more)

      by_group : Answers idle v → SoughtFrom start (seek_step (Calling k) (hears (Calls Sens) v)) (map called v) ts' (n + 0)
      by_group (inl p) = let Q : Seek → Type 0 = λ s. SoughtFrom start s (map called v) ts' (n + 0) in subst Q (sym (p.1 k)) p.0
      by_group (inr e) =
          let Q : Heard → Type 0 = λ x. SoughtFrom start (seek_step (Calling k) x) (map called v) ts' (n + 0) in
          let S : ℕ → Type 0 = λ j. Stage start (k + 1) j (map called v) in
          subst Q (sym (ap (λ x. heard_of (joint x)) e.0)) (silence k (map called v) ts' (n + 0) count few (subst S same (quiet e.1)))
  step_at idle k v _ _ _ ts ts' n g count few quiet miss lose more unheard =
      let S : ℕ → Type 0 = λ j. Stage start (k + 1) j v in
      silence k v ts' (n + 1) count few (subst S (sym more) miss)
  step_at idle k v _ _ _ ts ts' n g count few quiet miss lose more (damaged x h) = by_group (group_answers idle v g)
    where
      by_group : Answers idle v → SoughtFrom start (Asking [] []) (map called v) ts' (n + 1)
      by_group (inl p) = p.0
      by_group (inr e) = let H : List Signal → Type 0 = λ gs. Has x gs in absurd (subst H e.0 h)
  step_at idle k v _ _ _ ts ts' n g count few quiet miss lose more (lost x h) =
      let S : ℕ → Type 0 = λ j. Stage start (k + 1) j (map called v) in
      silence k (map called v) ts' (n + 1) count few (subst S (sym more) lose)

  calling_step : (k : ℕ) (v v' : List Card) (h : Heard) (t : ℕ) (ts ts' : List Turn) (n : ℕ) → length ts' ≡ k + 1 → k ≤ 3 → Stage start k (noisy_count ts) v
      → noisy_count ts' ≡ noisy_count ts + t → TurnWas (Calls Sens) v v' h t → SoughtFrom start (seek_step (Calling k) h) v' ts' (n + t)
  calling_step k _ v' h t ts ts' n count few (none s) more was =
      step_at true k start v' h t ts ts' n (first_answers start stand, first_shades start stand) count few
      (λ e. odd (inl (none_idle start e)))
      (none (elim s [ inl e ↦ inl e | inr l ↦ inr (omega (arith, l)) ]))
      (odd (elim s [ inl e ↦ inl e | inr l ↦ inr (omega (arith, l)) ]))
      more was
  calling_step k _ v' h t ts ts' n count few (odd s) more was =
      step_at false k (map called start) v' h t ts ts' n (second_answers start stand, second_shades start stand) count few
      (λ e. even s)
      (odd (elim s [ inl e ↦ inl e | inr l ↦ inr (omega (arith, l)) ]))
      (even (elim s [ inl e ↦ inl e | inr l ↦ inr (omega (arith, l)) ]))
      more was
  calling_step k _ v' h t ts ts' n count few (even s) more was =
      let again : map called (map called (map called start)) ≡ map called start = third_call start stand in
      let P : List Card → Type 0 = λ x. Shades true start (map (card_at [] []) (map (cast true) start)) x in
      let S : List Card → Type 0 = λ x. Stage start (k + 1) (noisy_count ts + 1) x in
      let Q : List Card → Type 0 = λ x. Stage start (k + 1) (noisy_count ts) x in
      step_at true k (map called (map called start)) v' h t ts ts' n (third_answers start stand, subst P (sym again) (first_shades start stand)) count few
      (λ e. subst Q (sym again) (odd (inl (none_idle start e))))
      (even (elim s [ inl e ↦ inl e | inr l ↦ inr (omega (arith, l)) ]))
      (subst S (sym again) (odd (elim s [ inl e ↦ inl e | inr l ↦ inr (omega (arith, l)) ])))
      more was

  -- SENS_REQ
  pub sens_step : (k : ℕ) (v v' : List Card) (h : Heard) (t : ℕ) (ts ts' : List Turn) (n : ℕ) → SoughtFrom start (Calling k) v ts n → length ts' ≡ length ts + 1 → noisy_count ts' ≡ noisy_count ts + t
      → TurnWas (Calls Sens) v v' h t → SoughtFrom start (seek_step (Calling k) h) v' ts' (n + t)
  sens_step k v v' h t ts ts' n s count more was = calling_step k v v' h t ts ts' n (count ∙ ap (λ j. j + 1) s.0) s.1 s.2 more was

  disturbed : (s : Seek) (v : List Card) (ts : List Turn) (n : ℕ) → s ≡ Ended Disturbed → SoughtFrom start s v ts (n + 1)
  disturbed s v ts n e = let P : Seek → Type 0 = λ x. SoughtFrom start x v ts (n + 1) in subst P (sym e) (inr (inl (refl, omega arith)))

  -- SDD_REQ
  asking_on_parts : (done : List (List ℕ)) (known : List Bool) (v : List Card) → Plays start (Asking done known) v
      → Plays start (seek_step (Asking done known) (hears (sdd_at done known) v)) (map (card_next (sdd_at done known)) v)
  asking_on_parts done known v p =
      let r : Reading = sdd_at done known in
      let heard : hears r p.played ≡ hears r v = ap (λ t. heard_of (joint t)) (sym (shades_say r (sdd_unmoved (length done + 1) known) p.idle start p.played v p.shades)) in
      let Q : Heard → Type 0 = λ h. Seeks p.a p.m p.b (seek_step (Asking done known) h) (map (card_next r) p.played) in
      record {
        idle = p.idle;
        a = p.a;
        m = p.m;
        b = p.b;
        parts = p.parts;
        first = p.first;
        played = map (card_next r) p.played;
        seeks = subst Q heard (asking_turn p.a p.m p.b done known p.played p.first p.seeks);
        shades = shades_next r (sdd_unmoved (length done + 1) known) p.idle start p.played v p.shades;
      }

  pub sdd_step : (done : List (List ℕ)) (known : List Bool) (v v' : List Card) (h : Heard) (t : ℕ) (ts : List Turn) (n : ℕ) → Plays start (Asking done known) v
      → TurnWas (sdd_at done known) v v' h t → SoughtFrom start (seek_step (Asking done known) h) v' ts (n + t)
  sdd_step done known v _ _ _ ts n p passed =
      plays_on start (seek_step (Asking done known) (hears (sdd_at done known) v)) (map (card_next (sdd_at done known)) v) ts (n + 0) (asking_on done known (hears (sdd_at done known) v))
      (asking_on_parts done known v p)
  sdd_step done known v _ _ _ ts n p unheard = disturbed (Ended Disturbed) v ts n refl
  sdd_step done known v _ _ _ ts n p (damaged x h) = disturbed (Ended Disturbed) (map (card_next (sdd_at done known)) v) ts n refl
  sdd_step done known v _ _ _ ts n p (lost x h) = disturbed (Ended Disturbed) (map (card_next (sdd_at done known)) v) ts n refl

  -- SEL_REQ
  selecting_on_parts : (done : List (List ℕ)) (l : List ℕ) (v : List Card) → Plays start (Selecting done l) v
      → Plays start (seek_step (Selecting done l) (hears (sel_at done l) v)) (map (card_next (sel_at done l)) v)
  selecting_on_parts done l v p =
      let r : Reading = sel_at done l in
      let heard : hears r p.played ≡ hears r v = ap (λ t. heard_of (joint t)) (sym (shades_say r (sel_unmoved (length done + 1) l) p.idle start p.played v p.shades)) in
      let Q : Heard → Type 0 = λ h. Seeks p.a p.m p.b (seek_step (Selecting done l) h) (map (card_next r) p.played) in
      record {
        idle = p.idle;
        a = p.a;
        m = p.m;
        b = p.b;
        parts = p.parts;
        first = p.first;
        played = map (card_next r) p.played;
        seeks = subst Q heard (selecting_turn p.a p.m p.b done l p.played p.first p.seeks);
        shades = shades_next r (sel_unmoved (length done + 1) l) p.idle start p.played v p.shades;
      }

  pub sel_step : (done : List (List ℕ)) (l : List ℕ) (v v' : List Card) (h : Heard) (t : ℕ) (ts : List Turn) (n : ℕ) → Plays start (Selecting done l) v
      → TurnWas (sel_at done l) v v' h t → SoughtFrom start (seek_step (Selecting done l) h) v' ts (n + t)
  sel_step done l v _ _ _ ts n p passed =
      plays_on start (seek_step (Selecting done l) (hears (sel_at done l) v)) (map (card_next (sel_at done l)) v) ts (n + 0) (selecting_on done l (hears (sel_at done l) v))
      (selecting_on_parts done l v p)
  sel_step done l v _ _ _ ts n p unheard = disturbed (Ended Disturbed) v ts n refl
  sel_step done l v _ _ _ ts n p (damaged x h) = disturbed (Ended Disturbed) (map (card_next (sel_at done l)) v) ts n refl
  sel_step done l v _ _ _ ts n p (lost x h) = disturbed (Ended Disturbed) (map (card_next (sel_at done l)) v) ts n refl

-- the frames of such requests are read as what they are
played_ident : (start : List Card) (s : Seek) (v : List Card) (p : Plays start s v) → IsIdent p.m.id
played_ident start s v p = (each_has IsCard p.m (p.a ++ p.m ∷ p.b) p.first.cards (has_middle p.m p.a p.b)).0

pub sdd_is_read : (start : List Card) (done : List (List ℕ)) (known : List Bool) (v : List Card) → Plays start (Asking done known) v
    → call_of (call_frame (Sdd (length done + 1) known)) ≡ sdd_at done known
sdd_is_read start done known v p =
    let ls : IsLevels (levels p.m.id) = levels_are p.m.id (played_ident start (Asking done known) v p) in
    let few : length done < length (levels p.m.id) = fits_in done known (levels p.m.id) p.seeks.3 in
    let three : length (levels p.m.id) ≤ 3 = ls.few in
    let size : length known ≤ 32 = p.seeks.4 in
    sdd_read (length done + 1) known (omega arith) (omega (arith, few, three)) (omega (arith, size))

pub sel_is_read : (start : List Card) (done : List (List ℕ)) (l : List ℕ) (v : List Card) → Plays start (Selecting done l) v → call_of (call_frame (Sel (length done + 1) l)) ≡ sel_at done l
sel_is_read start done l v p =
    let ls : IsLevels (levels p.m.id) = levels_are p.m.id (played_ident start (Selecting done l) v p) in
    let few : length done < length (levels p.m.id) = fits_in done _ (levels p.m.id) p.seeks.1 in
    let three : length (levels p.m.id) ≤ 3 = ls.few in
    let i : IsLevel l = p.seeks.2 in
    sel_read (length done + 1) l (omega arith) (omega (arith, few, three)) i.size
