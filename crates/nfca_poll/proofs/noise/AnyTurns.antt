-- Each turn of a resolution over this project's listeners in any state, and how it ends.
use Rattle.std.proofs.Common.{◌≡◌, ◌⊎◌, ℕ, ◌+◌, ◌≤◌, List, [], ◌∷◌, ◌++◌, length, drop, map, Bool, true, false, inl, inr, refl, sym, ◌∙◌, ap, subst, arith, Result, Ok, Err}
use Rattle.nfc_base.specs.declared.frame.Tech.TheVariants.{A}
use Rattle.nfc_base.specs.declared.event.Heard.{Heard}
use Rattle.nfc_base.specs.declared.event.Heard.TheVariants.{Damaged, Silent}
use Rattle.nfc_base.specs.Signal.{Signal}
use Rattle.nfc_base.specs.Bits.{bits_of}
use Rattle.nfc_base.specs.Trace.{noise}
use Rattle.air_core.specs.Joint.{joint}
use Rattle.air_core.specs.World.{Machine}
use Rattle.air_core.specs.Turn.{Air}
use Rattle.nfca_poll.specs.declared.fault.Picked.{Picked}
use Rattle.nfca_poll.specs.declared.fault.PollFault.{PollFault}
use Rattle.nfca_poll.specs.declared.fault.PollFault.TheVariants as faults
use Rattle.nfca_poll.specs.declared.seeking.Seeking.{Seeking}
use Rattle.nfca_poll.specs.declared.seeking.Seeking.TheVariants as seeks
use Rattle.nfca_poll.specs.Ident.{IsIdent}
use Rattle.nfca_poll.specs.Levels.{levels}
use Rattle.nfca_poll.specs.Calls.{Call, Calls, Reading, Sens, Sdd, Sel, call_of}
use Rattle.nfca_poll.specs.Front.{Front, Off, Idle, Sleep, Ready, Active, is_ready, is_active}
use Rattle.nfca_poll.specs.Poll.{Seek, Calling, Asking, Selecting, Ended, Outcome, Disturbed, Found, seek_step}
use Rattle.nfca_poll.specs.Muted.{AskEnds}
use Rattle.nfca_poll.specs.Seeking.{resolution, seek_of, request_of, outcome, levels_of}
use Rattle.nfca_poll.specs.Crowd.{Card, Each, with_front, is_rest, StepsByFront, AreOurs, cards}
use Rattle.nfca_poll.proofs.quiet.CrowdParts.{IsFirst}
use Rattle.nfca_poll.specs.AnyStart.{StaysActive, YieldsToCalls, HaveOwnIdents, Pairs, Keeps, EndsFromAny, PicksFromAny}
use Rattle.nfca_poll.proofs.quiet.Clashes.{wrong, wrong_back}
use Rattle.nfca_poll.proofs.quiet.Eaches.{each_map, each_has, each_front, each_back, has_middle}
use Rattle.nfca_poll.proofs.identifiers.HeardBits.{heard_of}
use Rattle.nfca_poll.proofs.identifiers.CallsRead.{sdd_read, sel_read}
use Rattle.nfca_poll.proofs.identifiers.LevelFacts.{IsLevel}
use Rattle.nfca_poll.proofs.enquiries.Enquiring.{Reached}
use Rattle.nfca_poll.proofs.identifiers.Fitting.{card_next, card_at}
use Rattle.nfca_poll.proofs.quiet.Choosing.{hears, Seeks, IsCard}
use Rattle.nfca_poll.proofs.quiet.Selects.{quiet_turn, identifier_of, few_done}
use Rattle.nfca_poll.proofs.quiet.Crowding.{events_of}
use Rattle.nfca_poll.proofs.quiet.CardsAtRest.{rest_inactive, at_inactive, each_mapped, request_a}
use Rattle.nfca_poll.proofs.noise.ThroughNoise.{is_calling, asking_on, selecting_on, noise_so_far, due}
use Rattle.nfca_poll.proofs.noise.Moves.{Moves, YieldsAt, TurnOf, passed, unheard, damaged, lost, turn_of}
use Rattle.nfca_poll.proofs.quiet.Twins.{pairs_map, pairs_with, each_onward, kept_start, kept_turn, asks_ready, ready_polls, Twin, twins_say, twins_move, twins_wake}
use Rattle.nfca_poll.proofs.noise.FromAny.{IsQuiet, IsAlone, Stays, CallsInVain, Behind, Mixed, each_around, due_start, stay_start, turn_start, calling_turn}

-- which of a crowd at rest are active while a resolution goes on, and at its end
asked_quiet : (a : List Card) (m : Card) (b : List Card) (done : List (List ℕ)) (p : List Bool) → IsFirst a m b → Each IsQuiet (map (card_at done p) (a ++ m ∷ b))
asked_quiet a m b done p F = each_mapped (card_at done p) IsQuiet (a ++ m ∷ b) (each_map IsCard (λ c. IsQuiet (card_at done p c)) (λ c i. at_inactive done p c i.1) (a ++ m ∷ b) F.cards)

picked_wakes : (a : List Card) (m : Card) (b : List Card) → IsFirst a m b → Each (λ c. is_active c.front ≡ true → c.id ≡ m.id) (a ++ with_front m (Active false) ∷ b)
picked_wakes a m b F =
    let W : Card → Type 0 = λ c. is_active c.front ≡ true → c.id ≡ m.id in
    let rest : (c : Card) → IsCard c → W c = λ c i v. wrong (sym (rest_inactive c.front i.1) ∙ v) in
    each_around W a (with_front m (Active false)) b (each_map IsCard W rest a (each_front IsCard a (m ∷ b) F.cards)) (λ v. refl)
    (each_map IsCard W rest b (let e : IsCard m × Each IsCard b = each_back IsCard a (m ∷ b) F.cards in e.1))

rest_unready : (f : Front) → is_rest f ≡ true → is_ready f ≡ false
rest_unready Off i = refl
rest_unready Idle i = refl
rest_unready Sleep i = refl
rest_unready (Ready j s) i = wrong i
rest_unready (Active s) i = wrong i

picked_unready : (a : List Card) (m : Card) (b : List Card) → IsFirst a m b → Each (λ c. is_ready c.front ≡ false) (a ++ with_front m (Active false) ∷ b)
picked_unready a m b F =
    let U : Card → Type 0 = λ c. is_ready c.front ≡ false in
    each_around U a (with_front m (Active false)) b (each_map IsCard U (λ c i. rest_unready c.front i.1) a (each_front IsCard a (m ∷ b) F.cards)) refl
    (each_map IsCard U (λ c i. rest_unready c.front i.1) b (let e : IsCard m × Each IsCard b = each_back IsCard a (m ∷ b) F.cards in e.1))

twin_unready : (x y : Card) → Twin x y → is_ready x.front ≡ false → is_ready y.front ≡ false
twin_unready x y (inl e) h = let C : Card → Bool = λ c. is_ready c.front in sym (ap C e) ∙ h
twin_unready x y (inr t) h = t.3

-- the twin of a device that is active is that device
record Place (m : Card) (v : List Card) : Type 0 where
  before : List Card
  behind : List Card
  place : v ≡ before ++ m ∷ behind

twin_place : (a : List Card) (m : Card) (b v : List Card) → is_rest m.front ≡ false → Pairs Twin (a ++ m ∷ b) v → Place m v
twin_place [] m b [] i t = absurd t
twin_place [] m b (y ∷ v) i t = by_twin t.0
  where
    by_twin : Twin m y → Place m (y ∷ v)
    by_twin (inl e) = record { before = []; behind = v; place = ap (λ x. x ∷ v) (sym e) }
    by_twin (inr s) = wrong (sym i ∙ s.2.0)
twin_place (c ∷ a) m b [] i t = absurd t
twin_place (c ∷ a) m b (y ∷ v) i t =
    let p : Place m v = twin_place a m b v i t.1 in
    record { before = y ∷ p.before; behind = p.behind; place = ap (λ x. y ∷ x) p.place }

module _ (may : Bool) (w : List Card) (s : Seek) (v u : List Card) (r : Reading) (asks : asks_ready r ≡ true) (k : Behind may w s v) (still : Each IsQuiet k.crowd) (m : Pairs (Moves may r) v u) where
  abbrev crowd_next : List Card
  crowd_next = map (card_next r) k.crowd

  kept : Pairs Keeps w u
  kept = kept_turn may r (ready_polls r asks) w v u k.kept m

  twins : Pairs Twin crowd_next u
  twins = twins_move r asks may k.crowd v u k.twins still m

  -- only those become active that do at rest
  wakes : (P : Card → Type 0) → Each (λ c. is_active c.front ≡ true → P c) crowd_next → Pairs (λ c z. is_active z.front ≡ true → (is_active c.front ≡ true) ⊎ P z) w u
  wakes P e =
      pairs_with Stays (λ y z. is_active z.front ≡ true → (is_active y.front ≡ true) ⊎ P z) (λ c z. is_active z.front ≡ true → (is_active c.front ≡ true) ⊎ P z)
      (λ c y z h f x. by_either c y z h (f x)) w v u k.stay (twins_wake r asks may P k.crowd v u k.twins still m e)
    where
      by_either : (c y z : Card) → Stays c y → (is_active y.front ≡ true) ⊎ P z → (is_active c.front ≡ true) ⊎ P z
      by_either c y z h (inl x) = inl (h x)
      by_either c y z h (inr x) = inr x

  stay : Each IsQuiet crowd_next → Pairs Stays w u
  stay q =
      pairs_map (λ c z. is_active z.front ≡ true → (is_active c.front ≡ true) ⊎ ⊥) Stays (λ c z f x. or_none (is_active c.front ≡ true) (f x)) w u
      (wakes (λ c. ⊥) (each_map IsQuiet (λ c. is_active c.front ≡ true → ⊥) (λ c h x. wrong (sym h ∙ x)) crowd_next q))
    where
      or_none : (P : Type 0) → P ⊎ ⊥ → P
      or_none P (inl x) = x
      or_none P (inr x) = absurd x

  -- where none may stay active, only those are that are so at rest
  active_as : may ≡ false → (P : Card → Type 0) → Each (λ c. is_active c.front ≡ true → P c) crowd_next → Each (λ z. is_active z.front ≡ true → P z) u
  active_as q P e =
      each_onward (λ y z. is_active z.front ≡ true → (is_active y.front ≡ true) ⊎ P z) IsQuiet (λ z. is_active z.front ≡ true → P z)
      (λ y z f i x. or_that y z i (f x)) v u (twins_wake r asks may P k.crowd v u k.twins still m e) (k.quiet q)
    where
      or_that : (y z : Card) → IsQuiet y → (is_active y.front ≡ true) ⊎ P z → P z
      or_that y z i (inl x) = wrong (sym i ∙ x)
      or_that y z i (inr x) = x

  quiet : Each IsQuiet crowd_next → may ≡ false → Each IsQuiet u
  quiet e q =
      each_map (λ z. is_active z.front ≡ true → ⊥) IsQuiet (λ z f. unless (is_active z.front) f) u
      (active_as q (λ z. ⊥) (each_map IsQuiet (λ c. is_active c.front ≡ true → ⊥) (λ c h x. wrong (sym h ∙ x)) crowd_next e))
    where
      unless : (b : Bool) → (b ≡ true → ⊥) → b ≡ false
      unless true f = absurd (f refl)
      unless false f = refl

  goes : (t : Seek) → Seeks k.before k.first k.behind t crowd_next → Each IsQuiet crowd_next → Behind may w t u
  goes t q e = record {
    kept = kept;
    stay = stay e;
    quiet = quiet e;
    before = k.before;
    first = k.first;
    behind = k.behind;
    leads = k.leads;
    order = k.order;
    crowd = crowd_next;
    seeks = q;
    twins = twins;
  }

  ends : (o : Outcome) (n : ℕ) → (o ≡ Found (levels k.first.id) k.first.kind) × (crowd_next ≡ k.before ++ with_front k.first (Active false) ∷ k.behind) → EndsFromAny w (outcome o) u n
  ends o n q =
      let c : Card = k.first in
      let own : IsIdent c.id = (each_has IsCard c (k.before ++ c ∷ k.behind) k.leads.cards (has_middle c k.before k.behind)).0 in
      let T : List Card → Type 0 = λ x. Pairs Twin x u in
      let E : List Card → Type 0 = λ x. Each (λ (y : Card). is_active y.front ≡ true → y.id ≡ c.id) x in
      let U : List Card → Type 0 = λ x. Each (λ (y : Card). is_ready y.front ≡ false) x in
      let p : Place (with_front c (Active false)) u = twin_place k.before (with_front c (Active false)) k.behind u refl (subst T q.1 twins) in
      let P : Outcome → Type 0 = λ x. EndsFromAny w (outcome x) u n in
      let R : List ℕ → Type 0 = λ i. EndsFromAny w (Ok (record { id = i; kind = c.kind })) u n in
      subst P (sym q.0)
      (subst R (sym (identifier_of c.id own))
      (record {
        kept = kept;
        before = p.before;
        behind = p.behind;
        place = p.place;
        alone = wakes (λ z. z.id ≡ c.id) (subst E (sym q.1) (picked_wakes k.before c k.behind k.leads));
        none_ready = each_onward Twin (λ x. is_ready x.front ≡ false) (λ y. is_ready y.front ≡ false) twin_unready crowd_next u twins (subst U (sym q.1) (picked_unready k.before c k.behind k.leads));
        first = k.order;
      }))

  id_in : Result Picked PollFault → List ℕ
  id_in (Ok p) = p.id
  id_in (Err f) = []

  alone : (o : Outcome) → (o ≡ Found (levels k.first.id) k.first.kind) × (crowd_next ≡ k.before ++ with_front k.first (Active false) ∷ k.behind) → may ≡ false → IsAlone (outcome o) u
  unfolding id_in
  alone o q free p e =
      let c : Card = k.first in
      let own : IsIdent c.id = (each_has IsCard c (k.before ++ c ∷ k.behind) k.leads.cards (has_middle c k.before k.behind)).0 in
      let E : List Card → Type 0 = λ x. Each (λ (y : Card). is_active y.front ≡ true → y.id ≡ c.id) x in
      let same : c.id ≡ p.id = sym (identifier_of c.id own) ∙ sym (ap (λ x. id_in (outcome x)) q.0) ∙ ap id_in e in
      let I : List ℕ → Type 0 = λ i. Each (λ (d : Card). is_active d.front ≡ true → d.id ≡ i) u in
      subst I same (active_as free (λ z. z.id ≡ c.id) (subst E (sym q.1) (picked_wakes k.before c k.behind k.leads)))

  lands : (t : Seek) (n : ℕ) → is_calling t ≡ false → Seeks k.before k.first k.behind t crowd_next → Mixed may w t u n
  lands (Calling j) n h q = wrong_back h
  lands (Asking done known) n h q =
      let E : List Card → Type 0 = λ x. Each IsQuiet x in
      goes (Asking done known) q (subst E (sym q.1) (asked_quiet k.before k.first k.behind done q.0 k.leads))
  lands (Selecting done l) n h q =
      let E : List Card → Type 0 = λ x. Each IsQuiet x in
      goes (Selecting done l) q (subst E (sym q.0) (asked_quiet k.before k.first k.behind done (bits_of l) k.leads))
  lands (Ended o) n h q = (ends o n q, alone o q)

later_turn : (may : Bool) (w : List Card) (q : Seeking) (v u : List Card) (h : Heard) (n t : ℕ) → asks_ready (due q) ≡ true → (k : Behind may w (seek_of q) v) → Each IsQuiet k.crowd
    → ((x : Heard) → is_calling (seek_step (seek_of q) x) ≡ false) → seek_step (seek_of q) Silent ≡ Ended Disturbed → seek_step (seek_of q) Damaged ≡ Ended Disturbed
    → TurnOf may (due q) v u h t → Mixed may w (seek_step (seek_of q) h) u (n + t)
later_turn may w q v u _ n _ a k e on s d (passed m) =
    let r : Reading = due q in
    let heard : hears r k.crowd ≡ hears r v = ap (λ x. heard_of (joint x)) (twins_say r a k.crowd v k.twins) in
    let Q : Heard → Type 0 = λ x. Seeks k.before k.first k.behind (seek_step (seek_of q) x) (map (card_next r) k.crowd) in
    lands may w (seek_of q) v u r a k e m (seek_step (seek_of q) (hears r v)) (n + 0) (on (hears r v)) (subst Q heard (quiet_turn k.before k.first k.behind q k.crowd k.leads k.seeks))
later_turn may w q v u _ n _ a k e on s d (unheard x) =
    let P : Seek → Type 0 = λ y. Mixed may w y u (n + 1) in
    let K : List Card → Type 0 = λ y. Pairs Keeps w y in
    subst P (sym s) ((subst K (sym x) k.kept, omega arith), (λ f i j. absurd cc))
later_turn may w q v u _ n _ a k e on s d (damaged m g h) = let P : Seek → Type 0 = λ y. Mixed may w y u (n + 1) in
    subst P (sym d) ((kept_turn may (due q) (ready_polls (due q) a) w v u k.kept m, omega arith), (λ f i j. absurd cc))
later_turn may w q v u _ n _ a k e on s d (lost m g h) = let P : Seek → Type 0 = λ y. Mixed may w y u (n + 1) in
    subst P (sym s) ((kept_turn may (due q) (ready_polls (due q) a) w v u k.kept m, omega arith), (λ f i j. absurd cc))

pub any_turn : (may : Bool) (w : List Card) (q : Seeking) (v u : List Card) (h : Heard) (n t : ℕ) → HaveOwnIdents w → Mixed may w (seek_of q) v n → TurnOf may (call_of (request_of q)) v u h t
    → Mixed may w (seek_step (seek_of q) h) u (n + t)
any_turn may w (seeks.Calling k) v u h n t own c was = calling_turn may w k v u h n t own c was
any_turn may w (seeks.Asking d known) v u h n t own k was =
    let done : List (List ℕ) = levels_of d in
    let S : _ = k.seeks in
    let few : length known ≤ 32 = S.4 in
    let E : List Card → Type 0 = λ x. Each IsQuiet x in
    later_turn may w (seeks.Asking d known) v u h n t (ap asks_ready (sdd_read (length done + 1) known (omega arith) (few_done d) (omega (arith, few)))) k
    (subst E (sym S.1) (asked_quiet k.before k.first k.behind done S.0 k.leads)) (asking_on done known) refl refl was
any_turn may w (seeks.Selecting d l) v u h n t own k was =
    let done : List (List ℕ) = levels_of d in
    let S : _ = k.seeks in
    let i : IsLevel l = S.2 in
    let E : List Card → Type 0 = λ x. Each IsQuiet x in
    later_turn may w (seeks.Selecting d l) v u h n t (ap asks_ready (sel_read (length done + 1) l (omega arith) (few_done d) i.size)) k
    (subst E (sym S.0) (asked_quiet k.before k.first k.behind done (bits_of l) k.leads)) (selecting_on done l) refl refl was

-- nothing has happened to identifiers, kinds and homes while it goes on
pub kept_so_far : (may : Bool) (w : List Card) (q : Seeking) (v : List Card) (n : ℕ) → Mixed may w (seek_of q) v n → Pairs Keeps w v
kept_so_far may w (seeks.Calling k) v n c = c.kept
kept_so_far may w (seeks.Asking d known) v n k = k.kept
kept_so_far may w (seeks.Selecting d l) v n k = k.kept

-- which call is due
pub due_call : (may : Bool) (w : List Card) (q : Seeking) (v : List Card) (n : ℕ) → Mixed may w (seek_of q) v n → (c : Call) × (call_of (request_of q) ≡ Calls c)
due_call may w (seeks.Calling k) v n c = (Sens, refl)
due_call may w (seeks.Asking d known) v n k =
    let S : _ = k.seeks in
    let few : length known ≤ 32 = S.4 in
    (Sdd (length (levels_of d) + 1) known, sdd_read (length (levels_of d) + 1) known (omega arith) (few_done d) (omega (arith, few)))
due_call may w (seeks.Selecting d l) v n k =
    let S : _ = k.seeks in
    let i : IsLevel l = S.2 in
    (Sel (length (levels_of d) + 1) l, sel_read (length (levels_of d) + 1) l (omega arith) (few_done d) i.size)

each_any : {X : Type 0} (P : X → Type 0) → ((x : X) → P x) → (xs : List X) → Each P xs
each_any P f [] = tt
each_any P f (x ∷ xs) = (f x, each_any P f xs)

module _ {L : Type 0} (m : Machine L) (identifier' : L → List ℕ) where
  -- no noise at the start
  pub no_noise : (a : Air L) → 0 ≡ noise (drop (length a.trace) a.trace)
  no_noise a = sym (ap noise (none_left a.trace))
    where
      none_left : {X : Type 0} (xs : List X) → drop (length xs) xs ≡ []
      none_left [] = refl
      none_left (x ∷ xs) = none_left xs

  pub mixed_start : (may : Bool) (ours : AreOurs m identifier') (old : Air L) → Mixed may (cards ours old.listeners) (Calling 0) (cards ours old.listeners) (noise (drop (length old.trace) old.trace))
  mixed_start may ours old =
      let w : List Card = cards ours old.listeners in
      let N : ℕ → Type 0 = λ n. CallsInVain w 0 w n in
      subst N (no_noise old) (record { kept = kept_start w; stay = stay_start w; due = due_start w; ready = false; turn = turn_start w })

  -- a turn of any listeners that yield at it
  pub mixed_turn : (may : Bool) (ours : AreOurs m identifier') (w : List Card) (old now new : Air L) (q : Seeking) (f : Signal) (h : Heard) → HaveOwnIdents w
      → Mixed may w (seek_of q) (cards ours now.listeners) (noise (drop (length old.trace) now.trace)) → Each (YieldsAt ours may f) now.listeners
      → Reached resolution m old now (seek_of q) → f ≡ request_of q → AskEnds m now f (Ok h) new
      → Mixed may w (seek_step (seek_of q) h) (cards ours new.listeners) (noise (drop (length old.trace) new.trace))
  mixed_turn may ours w old now new q f h own k yields r e t =
      let n : ℕ = noise (drop (length old.trace) now.trace) in
      let tech : f.tech ≡ A = ap (λ (x : Signal). x.tech) e ∙ request_a q in
      let was = turn_of m ours may f tech now new h yields t.0 in
      let W : Signal → Type 0 = λ x. TurnOf may (call_of x) (cards ours now.listeners) (cards ours new.listeners) h (noise (events_of m now f)) in
      let N : ℕ → Type 0 = λ x. Mixed may w (seek_step (seek_of q) h) (cards ours new.listeners) x in
      subst N (noise_so_far m identifier' old now new (seek_of q) f h r t.0) (any_turn may w q (cards ours now.listeners) (cards ours new.listeners) h n (noise (events_of m now f)) own k
      (subst W e was))

  -- So far, whatever noise was met, this is known of the cards.
  abbrev pub Mixes : Air L → Air L → Seek → Type 0
  Mixes old now s =
      (ours : AreOurs m identifier') → YieldsToCalls ours → HaveOwnIdents (cards ours old.listeners)
      → Mixed true (cards ours old.listeners) s (cards ours now.listeners) (noise (drop (length old.trace) now.trace))

  pub mixes_start : (old : Air L) → Mixes old old (Calling 0)
  mixes_start old ours yields own = mixed_start true ours old

  pub mixes_turn : (old now new : Air L) (q : Seeking) (f : Signal) (h : Heard) → Mixes old now (seek_of q) → Reached resolution m old now (seek_of q) → f ≡ request_of q → AskEnds m now f (Ok h) new
      → Mixes old new (seek_step (seek_of q) h)
  mixes_turn old now new q f h mixes r e t ours yields own =
      let w : List Card = cards ours old.listeners in
      let k = mixes ours yields own in
      let c = due_call true w q (cards ours now.listeners) (noise (drop (length old.trace) now.trace)) k in
      mixed_turn true ours w old now new q f h own k (each_any (YieldsAt ours true f) (λ l t i. or_stays l (yields l f c.0 t i (ap call_of e ∙ c.1))) now.listeners) r e t
    where
      or_stays : (l : L) → StepsByFront m identifier' ours.kind ours.front l f ⊎ StaysActive m identifier' ours.kind ours.front l f
          → StepsByFront m identifier' ours.kind ours.front l f ⊎ ((true ≡ true) × StaysActive m identifier' ours.kind ours.front l f)
      or_stays l (inl s) = inl s
      or_stays l (inr s) = inr (refl, s)

  pub mixes_end : (old new : Air L) (s : Seek) (o : Outcome) (r : Result Picked PollFault) → Mixes old new s → s ≡ Ended o → r ≡ outcome o → (ours : AreOurs m identifier') → YieldsToCalls ours
      → PicksFromAny ours old r new
  mixes_end old new s o r mixes e end ours yields own =
      let w : List Card = cards ours old.listeners in
      let n : ℕ = noise (drop (length old.trace) new.trace) in
      let P : Seek → Type 0 = λ x. Mixed true w x (cards ours new.listeners) n in
      let k : EndsFromAny w (outcome o) (cards ours new.listeners) n × (true ≡ false → IsAlone (outcome o) (cards ours new.listeners)) = subst P e (mixes ours yields own) in
      let R : Result Picked PollFault → Type 0 = λ x. EndsFromAny w x (cards ours new.listeners) n in
      subst R (sym end) k.0

  pub mixes_err : (old now new : Air L) (q : Seeking) (f : Signal) (fault : PollFault) → Mixes old now (seek_of q) → AskEnds m now f (Err fault) new → (ours : AreOurs m identifier')
      → YieldsToCalls ours
      → PicksFromAny ours old (Err fault) new
  mixes_err old now new q f faults.Nobody k t ours yields own = absurd t
  mixes_err old now new q f faults.Disturbed k t ours yields own = absurd t
  mixes_err old now new q f faults.FieldLost k t ours yields own = tt
  mixes_err old now new q f faults.Memory k t ours yields own =
      let w : List Card = cards ours old.listeners in
      let n : ℕ = noise (drop (length old.trace) now.trace) in
      let P : Air L → Type 0 = λ x. Pairs Keeps w (cards ours x.listeners) in
      subst P (sym t) (kept_so_far true w q (cards ours now.listeners) n (k ours yields own))
  mixes_err old now new q f faults.NotFound k t ours yields own = absurd t
  mixes_err old now new q f faults.BadAnswer k t ours yields own = absurd t
