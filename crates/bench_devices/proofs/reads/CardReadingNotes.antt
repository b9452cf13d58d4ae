-- What a reader hears while it reads a Type 4 tag: something is due before each note, so that nothing is known behind the loss of the
-- field or the sixth bad reception of a wait.
use Rattle.std.proofs.Common.{◌≡◌, ℕ, zero, suc, ◌<◌, List, [], ◌∷◌, ◌++◌, Bool, true, false, nat_lt, if◌then◌else◌, Some, refl, sym, ◌∙◌, ap, subst, append_assoc, append-nil}
use Rattle.nfc_base.specs.declared.event.Event.{Event}
use Rattle.nfc_base.specs.declared.event.Event.TheVariants.{Reset}
use Rattle.nfc_base.specs.declared.event.Fate.{Fate}
use Rattle.nfc_base.specs.declared.event.Heard.TheVariants.{Whole, Collided, Damaged, Silent}
use Rattle.nfc_base.specs.declared.tag_link.AskFault.{AskFault}
use Rattle.nfc_base.specs.declared.tag_link.AskFault.TheVariants.{FieldLost, SixBad}
use Rattle.nfc_base.specs.Signal.{Signal}
use Rattle.nfc_base.specs.Trace.{back_of, breaks}
use Rattle.nfc_base.specs.Trace as backs
use Rattle.air_core.specs.World.{Machine, World, quiet_air}
use Rattle.air_core.specs.Conversation.{AirModel, Note, Lit, Got, Lost, note, Next, Over, LightUp, Asks, IsDemand, EachDue, replay, turn_events, turn_heard, Move, Light, Ask, trace_of, Moment, Going}
use Rattle.air_core.specs.Conversation.{receptions}
use Rattle.air_core.specs.laws.Turning.{receptions-append}
use Rattle.air_core.specs.Waits as waits
use Rattle.air_core.specs.Waits.{waits_from}
use Rattle.isodep_link.specs.Asking.{IsoStanding, Waits, Rests, Broken, Astray, asks, noted, stand, due_at, iso_next}
use Rattle.isodep_link.specs.laws.IsoMoving.{more, asks_more, noted_more, astray_stays, front_due}
use Rattle.isodep_link.specs.IsoLinks.{bytes_of}
use Rattle.isodep_link.specs.Reader.{ReaderState, waiting}
use Rattle.isodep_link.specs.Activating.{rats, ats_code, TellsCode}
use Rattle.bench_devices.specs.Answering.{IsUnbrokenExchange}
use Rattle.bench_devices.specs.CardAsking.{CardStanding, Activates, Exchanges, told_code, card_noted, card_stand, card_due, card_stands, card_next}
use Rattle.air_core.proofs.Following.{turn_known, trace_first, turn_split, turn_first}
use Rattle.air_core.proofs.LostField.{HasLost, going_lost}

-- something was due before each of these notes, which stand behind others
abbrev pub Driven : (List Note → Next) → List Note → List Note → Type 0
Driven next before [] = Unit {0}
Driven next before (n ∷ ns) = IsDemand (next before) × Driven next (before ++ n ∷ []) ns

demanded : (n m : Next) → n ≡ m → IsDemand m → IsDemand n
demanded n m e d = subst IsDemand (sym e) d

module _ {W : Type 0} (m : AirModel W) (next : List Note → Next) where
  turn_notes : (w : W) (f : Signal) (x y : Fate) → receptions (turn_events m w f x y) ≡ note (turn_heard m w f x y) ∷ []
  turn_notes w f x y = ap receptions (sym (append-nil (turn_events m w f x y))) ∙ turn_known m w f x y [] refl

  turn_fresh : (w : W) (f : Signal) (x y : Fate) → back_of (turn_events m w f x y) ≡ backs.Nothing
  turn_fresh w f x y = ap back_of (sym (append-nil (turn_events m w f x y))) ∙ turn_first m w f x y []

  abbrev Goes : List Event → List Event → Type 0
  Goes before es = EachDue next before es → Driven next (receptions before) (receptions es)

  -- a turn whose request was due, and what follows
  driven_turn : (before : List Event) (w : W) (f : Signal) (x y : Fate) (rest : List Event) → back_of rest ≡ backs.Nothing
      → (EachDue next (before ++ turn_events m w f x y) rest → Driven next (receptions (before ++ turn_events m w f x y)) (receptions rest))
      → EachDue next before (turn_events m w f x y ++ rest) → Driven next (receptions before) (receptions (turn_events m w f x y ++ rest))
  driven_turn before w f x y rest fresh later q =
      let parts = turn_split m next before w f x y rest q in
      let known : receptions (before ++ turn_events m w f x y) ≡ receptions before ++ note (turn_heard m w f x y) ∷ [] =
      receptions-append before (turn_events m w f x y) (turn_fresh w f x y) ∙ ap (λ ns. receptions before ++ ns) (turn_notes w f x y) in
      subst (Driven next (receptions before)) (sym (turn_known m w f x y rest fresh))
      (demanded (next (receptions before)) (Asks f) parts.0 tt, subst (λ ns. Driven next ns (receptions rest)) known (later parts.1))

  driven_from : (ks : List (Move m)) (w : W) (before : List Event) → EachDue next before (trace_of m w ks) → Driven next (receptions before) (receptions (trace_of m w ks))
  driven_from [] w before q = tt
  driven_from (Light ∷ ks) w before q = (
    demanded (next (receptions before)) LightUp q.0 tt,
    subst (λ ns. Driven next ns (receptions (trace_of m (m.happens w Reset) ks))) (receptions-append before (Reset ∷ []) refl)
        (driven_from ks (m.happens w Reset) (before ++ Reset ∷ []) q.1),
  )
  driven_from (Ask f x y ∷ ks) w before q =
      by_light (m.lit w) (driven_from ks w before)
      (driven_turn before w f x y (trace_of m (replay m w (turn_events m w f x y)) ks) (trace_first m (replay m w (turn_events m w f x y)) ks)
      (driven_from ks (replay m w (turn_events m w f x y)) (before ++ turn_events m w f x y))) q
    where
      by_light : (v : Bool) → Goes before (trace_of m w ks) → Goes before (turn_events m w f x y ++ trace_of m (replay m w (turn_events m w f x y)) ks)
          → Goes before ((if v then turn_events m w f x y else []) ++ trace_of m (replay m w (if v then turn_events m w f x y else [])) ks)
      by_light false same turn = same
      by_light true same turn = turn

  -- something was due before each note of turns that were due
  pub driven : (a b : Moment W) (ns : List Note) → Going m next a b ns → Driven next [] ns
  driven a b ns g =
      let P : List Event → Type 0 = λ es. EachDue next [] es → Driven next [] (receptions es) in
      subst (Driven next []) g.known (subst P (sym g.turns.made) (driven_from g.turns.moves a.world []) g.each)

-- Where a reader stands with a Type 4 tag.
module _ (commands : List (List ℕ)) where
  abbrev pub DrivenAt : CardStanding → List Note → Type 0
  DrivenAt s [] = Unit {0}
  DrivenAt s (n ∷ ns) = IsDemand (card_due s) × DrivenAt (card_noted commands s n) ns

  card_more : (s : CardStanding) (ns ms : List Note) → card_stand commands s (ns ++ ms) ≡ card_stand commands (card_stand commands s ns) ms
  card_more s [] ms = refl
  card_more s (n ∷ ns) ms = card_more (card_noted commands s n) ns ms

  -- something is due where it stands before each note
  driven_on : (next : List Note → Next) (s : CardStanding) → ((ks : List Note) → next ks ≡ card_due (card_stand commands s ks)) → (before ns : List Note) → Driven next before ns
      → DrivenAt (card_stand commands s before) ns
  driven_on next s same before [] q = tt
  driven_on next s same before (n ∷ ns) q = (
    subst IsDemand (same before) q.0,
    subst (λ t. DrivenAt t ns) (card_more s before (n ∷ [])) (driven_on next s same (before ++ n ∷ []) ns q.1),
  )

  pub driven_at : (next : List Note → Next) (s : CardStanding) → ((ks : List Note) → next ks ≡ card_due (card_stand commands s ks)) → (ns : List Note) → Driven next [] ns → DrivenAt s ns
  driven_at next s same ns q = driven_on next s same [] ns q

  -- while commands are asked it stands as an exchange does
  pub exchanges_stand : (s : IsoStanding) (ns : List Note) → card_stand commands (Exchanges s) ns ≡ Exchanges (stand s ns)
  exchanges_stand s [] = refl
  exchanges_stand s (n ∷ ns) = exchanges_stand (noted s n) ns

  -- nothing is known behind an end
  ends_there : (e : AskFault) (ns : List Note) → DrivenAt (Exchanges (Broken e)) ns → card_stand commands (Exchanges (Broken e)) ns ≡ Exchanges (Broken e)
  ends_there e [] q = refl
  ends_there e (n ∷ ns) q = absurd q.0

  -- the loss of the field ends the reading
  pub lost_at : (s : CardStanding) (ns : List Note) → DrivenAt s ns → HasLost ns → card_stand commands s ns ≡ Exchanges (Broken FieldLost)
  lost_at s [] q lost = absurd lost
  lost_at s (Lit ∷ ns) q lost = lost_at (card_noted commands s Lit) ns q.1 lost
  lost_at s (Got h ∷ ns) q lost = lost_at (card_noted commands s (Got h)) ns q.1 lost
  lost_at (Activates bad) (Lost ∷ ns) q lost = ends_there FieldLost ns q.1
  lost_at (Exchanges (Waits i f cs)) (Lost ∷ ns) q lost = ends_there FieldLost ns q.1
  lost_at (Exchanges (Rests i)) (Lost ∷ ns) q lost = absurd q.0
  lost_at (Exchanges (Broken e)) (Lost ∷ ns) q lost = absurd q.0
  lost_at (Exchanges Astray) (Lost ∷ ns) q lost = absurd q.0

  -- where RATS is due in its wait it is due in the reading
  none_due : {A : Type 0} (n : Next) → Over ≡ n → IsDemand n → A
  none_due n e d = absurd (subst IsDemand (sym e) d)

  never_more : (ns : List Note) (n : Next) → waits_from 0 [] ns ≡ n → IsDemand n → ⊥
  never_more [] n e d = none_due n e d
  never_more (k ∷ ns) n e d = none_due n e d

  again_due : (bad : ℕ) (ns : List Note) (n : Next) (v : Bool) → IsDemand n
      → (waits_from (suc bad) (rats ∷ []) ns ≡ n → card_due (card_stand commands (Activates (suc bad)) ns) ≡ n)
      → waits.due_at (if v then waits.stand (suc bad) (rats ∷ []) ns else waits.Broken SixBad (rats ∷ [])) ≡ n
      → card_due (card_stand commands (if v then Activates (suc bad) else Exchanges (Broken SixBad)) ns) ≡ n
  again_due bad ns n true d on e = on e
  again_due bad ns n false d on e = none_due n e d

  pub rats_due : (bad : ℕ) (ns : List Note) (n : Next) → waits_from bad (rats ∷ []) ns ≡ n → IsDemand n → card_due (card_stand commands (Activates bad) ns) ≡ n
  rats_due bad [] n e d = e
  rats_due bad (Lit ∷ ns) n e d = none_due n e d
  rats_due bad (Lost ∷ ns) n e d = none_due n e d
  rats_due bad (Got (Whole f) ∷ ns) n e d = absurd (never_more ns n e d)
  rats_due bad (Got (Collided f) ∷ ns) n e d = again_due bad ns n (nat_lt bad 5) d (λ h. rats_due (suc bad) ns n h d) e
  rats_due bad (Got Damaged ∷ ns) n e d = again_due bad ns n (nat_lt bad 5) d (λ h. rats_due (suc bad) ns n h d) e
  rats_due bad (Got Silent ∷ ns) n e d = again_due bad ns n (nat_lt bad 5) d (λ h. rats_due (suc bad) ns n h d) e

  -- behind the answer to RATS the commands are asked
  not_done : (before : List Note) (n : Note) → waits.stand 0 [] (before ++ n ∷ []) ≡ waits.Asking 0 [] → ⊥
  not_done [] n e = cc
  not_done (k ∷ before) n e = cc

  again_told : (bad : ℕ) (ns ms : List Note) (s : CardStanding) (v : Bool)
      → (waits.stand (suc bad) (rats ∷ []) ns ≡ waits.Asking 0 [] → card_stand commands (Activates (suc bad)) ms ≡ s)
      → (if v then waits.stand (suc bad) (rats ∷ []) ns else waits.Broken SixBad (rats ∷ [])) ≡ waits.Asking 0 []
      → card_stand commands (if v then Activates (suc bad) else Exchanges (Broken SixBad)) ms ≡ s
  again_told bad ns ms s true on e = on e
  again_told bad ns ms s false on e = absurd cc

  told_behind : (bad : ℕ) (before : List Note) (f : Signal) (code : ℕ) (ms : List Note) → ats_code f ≡ Some code
      → waits.stand bad (rats ∷ []) (before ++ Got (Whole f) ∷ []) ≡ waits.Asking 0 []
      → card_stand commands (Activates bad) (before ++ Got (Whole f) ∷ ms) ≡ Exchanges (stand (asks (waiting code) commands) ms)
  told_behind bad [] f code ms tells e = ap (λ o. card_stand commands (told_code commands o) ms) tells ∙ exchanges_stand (asks (waiting code) commands) ms
  told_behind bad (Lit ∷ before) f code ms tells e = absurd cc
  told_behind bad (Lost ∷ before) f code ms tells e = absurd cc
  told_behind bad (Got (Whole g) ∷ before) f code ms tells e = absurd (not_done before (Got (Whole f)) e)
  told_behind bad (Got (Collided g) ∷ before) f code ms tells e =
      again_told bad (before ++ Got (Whole f) ∷ []) (before ++ Got (Whole f) ∷ ms) (Exchanges (stand (asks (waiting code) commands) ms)) (nat_lt bad 5)
      (λ h. told_behind (suc bad) before f code ms tells h) e
  told_behind bad (Got Damaged ∷ before) f code ms tells e =
      again_told bad (before ++ Got (Whole f) ∷ []) (before ++ Got (Whole f) ∷ ms) (Exchanges (stand (asks (waiting code) commands) ms)) (nat_lt bad 5)
      (λ h. told_behind (suc bad) before f code ms tells h) e
  told_behind bad (Got Silent ∷ before) f code ms tells e =
      again_told bad (before ++ Got (Whole f) ∷ []) (before ++ Got (Whole f) ∷ ms) (Exchanges (stand (asks (waiting code) commands) ms)) (nat_lt bad 5)
      (λ h. told_behind (suc bad) before f code ms tells h) e

  pub rats_told : (hs ms : List Note) (code : ℕ) → waits.stand 0 (rats ∷ []) hs ≡ waits.Asking 0 [] → TellsCode hs code
      → card_stand commands (Activates zero) (hs ++ ms) ≡ Exchanges (stand (asks (waiting code) commands) ms)
  rats_told hs ms code done (before, f, last, tells) =
      ap (λ ns. card_stand commands (Activates zero) (ns ++ ms)) last
      ∙ ap (card_stand commands (Activates zero)) (append_assoc before (Got (Whole f) ∷ []) ms)
      ∙ told_behind 0 before f code ms tells (ap (waits.stand 0 (rats ∷ [])) (sym last) ∙ done)

  -- while RATS is asked again nothing else is
  never_waits : (ns : List Note) (b : ℕ) → waits.stand 0 [] ns ≡ waits.Asking b (rats ∷ []) → ⊥
  never_waits [] b e = cc
  never_waits (n ∷ ns) b e = cc

  again_waits : (bad : ℕ) (ns : List Note) (b : ℕ) (v : Bool)
      → (waits.stand (suc bad) (rats ∷ []) ns ≡ waits.Asking b (rats ∷ []) → card_stand commands (Activates (suc bad)) ns ≡ Activates b)
      → (if v then waits.stand (suc bad) (rats ∷ []) ns else waits.Broken SixBad (rats ∷ [])) ≡ waits.Asking b (rats ∷ [])
      → card_stand commands (if v then Activates (suc bad) else Exchanges (Broken SixBad)) ns ≡ Activates b
  again_waits bad ns b true on e = on e
  again_waits bad ns b false on e = absurd cc

  pub rats_waits : (bad : ℕ) (ns : List Note) (b : ℕ) → waits.stand bad (rats ∷ []) ns ≡ waits.Asking b (rats ∷ []) → card_stand commands (Activates bad) ns ≡ Activates b
  rats_waits bad [] b e = (let same : bad ≡ b = cc in ap Activates same)
  rats_waits bad (Lit ∷ ns) b e = absurd cc
  rats_waits bad (Lost ∷ ns) b e = absurd cc
  rats_waits bad (Got (Whole f) ∷ ns) b e = absurd (never_waits ns b e)
  rats_waits bad (Got (Collided f) ∷ ns) b e = again_waits bad ns b (nat_lt bad 5) (λ h. rats_waits (suc bad) ns b h) e
  rats_waits bad (Got Damaged ∷ ns) b e = again_waits bad ns b (nat_lt bad 5) (λ h. rats_waits (suc bad) ns b h) e
  rats_waits bad (Got Silent ∷ ns) b e = again_waits bad ns b (nat_lt bad 5) (λ h. rats_waits (suc bad) ns b h) e

  -- Six bad receptions of RATS end the reading.
  never_six : (ns : List Note) (left : List Signal) → waits.stand 0 [] ns ≡ waits.Broken SixBad left → ⊥
  never_six [] left e = cc
  never_six (n ∷ ns) left e = cc

  again_six : (bad : ℕ) (ns : List Note) (left : List Signal) (v : Bool)
      → (DrivenAt (Activates (suc bad)) ns → waits.stand (suc bad) (rats ∷ []) ns ≡ waits.Broken SixBad left → card_stand commands (Activates (suc bad)) ns ≡ Exchanges (Broken SixBad))
      → DrivenAt (if v then Activates (suc bad) else Exchanges (Broken SixBad)) ns
      → (if v then waits.stand (suc bad) (rats ∷ []) ns else waits.Broken SixBad (rats ∷ [])) ≡ waits.Broken SixBad left
      → card_stand commands (if v then Activates (suc bad) else Exchanges (Broken SixBad)) ns ≡ Exchanges (Broken SixBad)
  again_six bad ns left true on q e = on q e
  again_six bad ns left false on q e = ends_there SixBad ns q

  pub rats_six : (bad : ℕ) (ns : List Note) (left : List Signal) → DrivenAt (Activates bad) ns → waits.stand bad (rats ∷ []) ns ≡ waits.Broken SixBad left
      → card_stand commands (Activates bad) ns ≡ Exchanges (Broken SixBad)
  rats_six bad [] left q e = absurd cc
  rats_six bad (Lit ∷ ns) left q e = absurd cc
  rats_six bad (Lost ∷ ns) left q e = absurd cc
  rats_six bad (Got (Whole f) ∷ ns) left q e = absurd (never_six ns left e)
  rats_six bad (Got (Collided f) ∷ ns) left q e = again_six bad ns left (nat_lt bad 5) (λ p h. rats_six (suc bad) ns left p h) q.1 e
  rats_six bad (Got Damaged ∷ ns) left q e = again_six bad ns left (nat_lt bad 5) (λ p h. rats_six (suc bad) ns left p h) q.1 e
  rats_six bad (Got Silent ∷ ns) left q e = again_six bad ns left (nat_lt bad 5) (λ p h. rats_six (suc bad) ns left p h) q.1 e

-- where a wait ended so, the field was lost
lost_again : (bad : ℕ) (c : Signal) (cs : List Signal) (ns : List Note) (left : List Signal) (v w : Bool)
    → (waits.stand (suc bad) (c ∷ cs) ns ≡ waits.Broken FieldLost left → HasLost ns) → (waits.stand 0 cs ns ≡ waits.Broken FieldLost left → HasLost ns)
    → (if v then (if w then waits.stand (suc bad) (c ∷ cs) ns else waits.Broken SixBad (c ∷ cs)) else waits.stand 0 cs ns) ≡ waits.Broken FieldLost left → HasLost ns
lost_again bad c cs ns left true true more whole e = more e
lost_again bad c cs ns left true false more whole e = absurd cc
lost_again bad c cs ns left false w more whole e = whole e

pub lost_wait : (bad : ℕ) (cs : List Signal) (ns : List Note) (left : List Signal) → waits.stand bad cs ns ≡ waits.Broken FieldLost left → HasLost ns
lost_wait bad cs [] left e = absurd cc
lost_wait bad [] (n ∷ ns) left e = absurd cc
lost_wait bad (c ∷ cs) (Lit ∷ ns) left e = absurd cc
lost_wait bad (c ∷ cs) (Lost ∷ ns) left e = tt
lost_wait bad (c ∷ cs) (Got h ∷ ns) left e =
    lost_again bad c cs ns left (backs.is_bad_in_wait h) (nat_lt bad 5) (λ k. lost_wait (suc bad) (c ∷ cs) ns left k) (λ k. lost_wait 0 cs ns left k) e

-- an exchange that ended by a fault ends so with more commands behind
none_astray : (ns : List Note) (e : AskFault) → stand Astray ns ≡ Broken e → ⊥
none_astray ns e is = (let clash : Astray ≡ Broken e = sym (astray_stays ns) ∙ is in cc)

broken_on : (s : IsoStanding) (ys : List (List ℕ)) (ns : List Note) (e : AskFault) → stand s ns ≡ Broken e → stand (more ys s) ns ≡ Broken e
broken_on (Waits i f cs) ys [] e is = absurd cc
broken_on (Rests i) ys [] e is = absurd cc
broken_on (Broken x) ys [] e is = is
broken_on Astray ys [] e is = absurd cc
broken_on (Waits i f cs) ys (n ∷ ns) e is = ap (λ (s : IsoStanding). stand s ns) (noted_more i f cs ys n) ∙ broken_on (noted (Waits i f cs) n) ys ns e is
broken_on (Rests i) ys (n ∷ ns) e is = absurd (none_astray ns e is)
broken_on (Broken x) ys (n ∷ ns) e is = absurd (none_astray ns e is)
broken_on Astray ys (n ∷ ns) e is = absurd (none_astray ns e is)

pub broken_more : (i : ReaderState) (xs ys : List (List ℕ)) (ns : List Note) (e : AskFault) → stand (asks i xs) ns ≡ Broken e → stand (asks i (xs ++ ys)) ns ≡ Broken e
broken_more i xs ys ns e is = ap (λ (s : IsoStanding). stand s ns) (asks_more i xs ys) ∙ broken_on (asks i xs) ys ns e is

-- and one that didn't goes on with more commands behind
unbroken_asks : (i : ReaderState) (ys : List (List ℕ)) → IsUnbrokenExchange (asks i ys)
unbroken_asks i [] = tt
unbroken_asks i (y ∷ ys) = tt

unbroken_on : (s : IsoStanding) (ys : List (List ℕ)) (ns : List Note) → IsUnbrokenExchange (stand s ns) → IsUnbrokenExchange (stand (more ys s) ns)
unbroken_on (Waits i f cs) ys [] is = tt
unbroken_on (Rests i) ys [] is = unbroken_asks i ys
unbroken_on (Broken x) ys [] is = absurd is
unbroken_on Astray ys [] is = absurd is
unbroken_on (Waits i f cs) ys (n ∷ ns) is =
    subst (λ (s : IsoStanding). IsUnbrokenExchange (stand s ns)) (sym (noted_more i f cs ys n)) (unbroken_on (noted (Waits i f cs) n) ys ns is)
unbroken_on (Rests i) ys (n ∷ ns) is = absurd (subst IsUnbrokenExchange (astray_stays ns) is)
unbroken_on (Broken x) ys (n ∷ ns) is = absurd (subst IsUnbrokenExchange (astray_stays ns) is)
unbroken_on Astray ys (n ∷ ns) is = absurd (subst IsUnbrokenExchange (astray_stays ns) is)

pub unbroken_more : (i : ReaderState) (xs ys : List (List ℕ)) (ns : List Note) → IsUnbrokenExchange (stand (asks i xs) ns) → IsUnbrokenExchange (stand (asks i (xs ++ ys)) ns)
unbroken_more i xs ys ns is = subst (λ (s : IsoStanding). IsUnbrokenExchange (stand s ns)) (sym (asks_more i xs ys)) (unbroken_on (asks i xs) ys ns is)

-- what is due for some commands is due with more of them behind
pub due_front : (i : ReaderState) (xs ys : List (List ℕ)) (ns : List Note) (n : Next) → iso_next i xs ns ≡ n → IsDemand n → iso_next i (xs ++ ys) ns ≡ n
due_front i xs ys ns n e d = ap (λ (s : IsoStanding). due_at (stand s ns)) (asks_more i xs ys) ∙ front_due (asks i xs) ys ns n e d

-- A Break ends the exchanges as the loss of the field.
pub exchange_lost : {L : Type 0} (m : Machine L) (i : ReaderState) (cs : List (List ℕ)) (a b : Moment (World L)) (ns : List Note) (g : Going (quiet_air m) (iso_next i cs) a b ns)
    → 0 < breaks g.events → stand (asks i cs) ns ≡ Broken FieldLost
exchange_lost m i cs a b ns g some =
    let start : CardStanding = Exchanges (asks i cs) in
    let due : (ks : List Note) → iso_next i cs ks ≡ card_due (card_stand cs start ks) = λ ks. sym (ap card_due (exchanges_stand cs (asks i cs) ks)) in
    let lost : card_stand cs start ns ≡ Exchanges (Broken FieldLost) =
    lost_at cs start ns (driven_at cs (iso_next i cs) start due ns (driven (quiet_air m) (iso_next i cs) a b ns g)) (going_lost m (iso_next i cs) a b ns g some) in
    let same : Exchanges (stand (asks i cs) ns) ≡ Exchanges (Broken FieldLost) = sym (exchanges_stand cs (asks i cs) ns) ∙ lost in
    cc

-- the loss of the field ends a reading, from RATS on
pub reading_lost : {L : Type 0} (m : Machine L) (commands : List Signal) (a b : Moment (World L)) (ns : List Note) → Going (quiet_air m) (card_next commands) a b ns → HasLost ns
    → card_stands commands ns ≡ Exchanges (Broken FieldLost)
reading_lost m commands a b ns g lost =
    lost_at (bytes_of commands) (Activates zero) ns (driven_at (bytes_of commands) (card_next commands) (Activates zero) (λ ks. refl) ns (driven (quiet_air m) (card_next commands) a b ns g)) lost

-- so do six bad receptions of RATS
pub reading_six : {L : Type 0} (m : Machine L) (commands : List Signal) (a b : Moment (World L)) (ns : List Note) (left : List Signal) → Going (quiet_air m) (card_next commands) a b ns
    → waits.stand 0 (rats ∷ []) ns ≡ waits.Broken SixBad left → card_stands commands ns ≡ Exchanges (Broken SixBad)
reading_six m commands a b ns left g six =
    rats_six (bytes_of commands) 0 ns left (driven_at (bytes_of commands) (card_next commands) (Activates zero) (λ ks. refl) ns (driven (quiet_air m) (card_next commands) a b ns g)) six
