-- Listeners that are aside hand nothing over at frames of whole bytes of NFC-A, and stay aside.
use Rattle.std.proofs.Common.{◌≡◌, ℕ, zero, suc, List, [], ◌∷◌, ◌++◌, Bool, Option, None, sym, ◌∙◌, ap, subst}
use Rattle.std.specs.Prelude.{map}
use Rattle.std.specs.List.{AllByRecursion}
use Rattle.nfc_base.specs.Signal.{Signal, whole_a}
use Rattle.nfc_base.specs.Far.{FarUse, FarDid}
use Rattle.nfc_base.specs.Choosing.{Choosing}
use Rattle.nfc_base.specs.declared.frame.Tech.TheVariants.{A}
use Rattle.nfc_base.specs.declared.event.Fate.{Fate}
use Rattle.nfc_base.specs.declared.event.Fate.TheVariants.{Pass, Damage, Lose, Break}
use Rattle.nfc_base.specs.declared.event.Heard.{Heard}
use Rattle.air_core.specs.Joint.{Joint, Nothing, Single, Clashing, joint}
use Rattle.air_core.specs.World.{stepped_by}
use Rattle.air_core.specs.Conversation.{Note, Next, Asks, first_fate, later_fates}
use Rattle.air_core.specs.PlainTags.{IsAside}
use Rattle.air_core.specs.Quiet.{EachQuiet}
use Rattle.air_core.specs.Speaking.{DueTurns}
use Rattle.air_core.specs.Turn.{Air, brought, Meets, HearAll, TurnBy}
use Rattle.air_core.specs.declared.listener.Listener.{Ghosts}
use Rattle.air_core.proofs.PlainAside.{Laws, IsUnmoved, aside_silent}
use Rattle.far_air.specs.FarEnds.{FarTable}
use Rattle.far_air.specs.FarTurns.{QuietBut, AllQuietBut}
use Rattle.far_air.proofs.FarTurns.{speaks_far}
use Rattle.peer_air.specs.Aside.{AsideBut, AsideTurns, SpeaksAside}

module _ {L : Type 0} (k : Ghosts L) (laws : Laws k) (own : List ℕ) where
  -- the field goes dark
  dark_aside : (l : L) → IsAside k own l → IsAside k own (k.machine.darkened l)
  dark_aside l a = record { rests = λ h. laws.dark_rests l; other = λ e. a.other (e ∙ (laws.dark_keeps l).0.identifier') }

  all_dark : (ls : List L) → AllByRecursion (IsAside k own) ls → AllByRecursion (IsAside k own) (map k.machine.darkened ls)
  all_dark [] a = tt
  all_dark (l ∷ ls) a = (dark_aside l a.0, all_dark ls a.1)

  but_dark : (place : ℕ) (ls : List L) → AsideBut k own place ls → AsideBut k own place (map k.machine.darkened ls)
  but_dark place [] a = tt
  but_dark zero (l ∷ ls) a = all_dark ls a
  but_dark (suc place) (l ∷ ls) a = (dark_aside l a.0, but_dark place ls a.1)

  module _ (f : Signal) (whole : f ≡ whole_a f.bytes) where
    unmoved : (l : L) → IsAside k own l → IsUnmoved k laws own f l
    unmoved l a = aside_silent k laws own A f whole tt l a

    all_quiet : (ls : List L) → AllByRecursion (IsAside k own) ls → EachQuiet k.machine f ls
    all_quiet [] a = tt
    all_quiet (l ∷ ls) a = ((unmoved l a.0).quiet, all_quiet ls a.1)

    but_quiet : (place : ℕ) (ls : List L) → AsideBut k own place ls → QuietBut k.machine f place ls
    but_quiet place [] a = tt
    but_quiet zero (l ∷ ls) a = all_quiet ls a
    but_quiet (suc place) (l ∷ ls) a = ((unmoved l a.0).quiet, but_quiet place ls a.1)

    module _ {F : Type 0} (restarts : F → List ℕ → F → Type 0) (steps : F → List ℕ → List ℕ → F → Type 0) where
      met_aside : (l : L) (far : F) (answer : Option Signal) (l' : L) (mid : F) → IsAside k own l → Meets k.machine restarts steps f l far answer l' mid → IsAside k own l'
      met_aside l far answer l' mid a step =
          let u = unmoved l a in
          let P : FarUse → Type 0 = λ z. FarDid restarts steps z far step.reply mid in
          let none : step.reply ≡ None = (subst P u.quiet step.far).1 in
          let Q : L → Type 0 = IsAside k own in subst Q (sym (step.left ∙ ap (stepped_by k.machine l f) none)) u.aside

      all_met : (ls : List L) (far : F) (said : List Signal) (ls' : List L) (far' : F) → AllByRecursion (IsAside k own) ls → HearAll k.machine restarts steps f ls far said ls' far'
          → AllByRecursion (IsAside k own) ls'
      all_met [] far said ls' far' a h = let P : List L → Type 0 = AllByRecursion (IsAside k own) in subst P (sym h.1) tt
      all_met (l ∷ ls) far said ls' far' a h =
          let P : List L → Type 0 = AllByRecursion (IsAside k own) in subst P (sym h.8) (met_aside l far h.0 h.2 h.3 a.0 h.5, all_met ls h.3 h.1 h.4 far' a.1 h.6)

      but_met : (place : ℕ) (ls : List L) (far : F) (said : List Signal) (ls' : List L) (far' : F) → AsideBut k own place ls → HearAll k.machine restarts steps f ls far said ls' far'
          → AsideBut k own place ls'
      but_met place [] far said ls' far' a h = let P : List L → Type 0 = AsideBut k own place in subst P (sym h.1) tt
      but_met zero (l ∷ ls) far said ls' far' a h = let P : List L → Type 0 = AsideBut k own zero in subst P (sym h.8) (all_met ls h.3 h.1 h.4 far' a h.6)
      but_met (suc place) (l ∷ ls) far said ls' far' a h =
          let P : List L → Type 0 = AsideBut k own (suc place) in subst P (sym h.8) (met_aside l far h.0 h.2 h.3 a.0 h.5, but_met place ls h.3 h.1 h.4 far' a.1 h.6)

      but_brought : (place : ℕ) (a : Air L) (j : Joint) (y : Fate) → AsideBut k own place a.listeners → AsideBut k own place (brought k.machine a j y).listeners
      but_brought place a Nothing y s = s
      but_brought place a (Single g) Pass s = s
      but_brought place a (Single g) Damage s = s
      but_brought place a (Single g) Lose s = s
      but_brought place a (Single g) Break s = but_dark place a.listeners s
      but_brought place a (Clashing g) Pass s = s
      but_brought place a (Clashing g) Damage s = s
      but_brought place a (Clashing g) Lose s = s
      but_brought place a (Clashing g) Break s = but_dark place a.listeners s

      but_turned : (place : ℕ) (x : Fate) (old new : Air L) (heard : Option Heard) (far after : F) → AsideBut k own place old.listeners → TurnBy k.machine restarts steps x old f far heard new after
          → AsideBut k own place new.listeners
      but_turned place Pass old new heard far after a t =
          let P : Air L → Type 0 = λ z. AsideBut k own place z.listeners in
          subst P (sym t.left) (but_brought place _ (joint t.answers) (first_fate (later_fates old.fates)) (but_met place old.listeners far t.answers t.listeners after a t.all))
      but_turned place Damage old new heard far after a t = let P : Air L → Type 0 = λ z. AsideBut k own place z.listeners in subst P (sym t.left) a
      but_turned place Lose old new heard far after a t = let P : Air L → Type 0 = λ z. AsideBut k own place z.listeners in subst P (sym t.left) a
      but_turned place Break old new heard far after a t = let P : Air L → Type 0 = λ z. AsideBut k own place z.listeners in subst P (sym t.left) (but_dark place old.listeners a)

pub aside_turns : {L F : Type 0} (k : Ghosts L) → Laws k → (restarts : F → List ℕ → F → Type 0) (steps : F → List ℕ → List ℕ → F → Type 0) → AsideTurns k restarts steps
aside_turns k laws restarts steps own place old new f heard far after whole a turn =
    (but_quiet k laws own f whole place old.listeners a, but_turned k laws own f whole restarts steps place (first_fate old.fates) old new heard far after a turn.by)

module _ {L F E : Type 0} (k : Ghosts L) (laws : Laws k) (linked : L → Bool) (t : FarTable E) (restarts : F → List ℕ → F → Type 0) (steps : F → List ℕ → List ℕ → F → Type 0) (next : List Note → Next)
    (own : List ℕ) (place : ℕ) (whole : (seen : List Note) (f : Signal) → next seen ≡ Asks f → f ≡ whole_a f.bytes) where
  all_aside : (ns seen : List Note) (old : Air L) (far : F) (new : Air L) (after : F) (d : DueTurns k.machine restarts steps next seen old far ns new after) → AsideBut k own place old.listeners
      → AllQuietBut k.machine linked t restarts steps next place seen old far ns new after d
  all_aside [] seen old far new after d a = tt
  all_aside (n ∷ ns) seen old far new after (f, h, mid, half, due, known, turn, rest) a =
      let z = aside_turns k laws restarts steps own place old mid f h far half (whole seen f due) a turn in
      (z.0, all_aside ns (seen ++ n ∷ []) mid half new after rest z.1)

pub speaks_aside : {L F E : Type 0} (k : Ghosts L) → Laws k → (restarts : F → List ℕ → F → Type 0) (steps : F → List ℕ → List ℕ → F → Type 0) (linked : L → Bool) (t : FarTable E)
    (view : F → Choosing E)
    → SpeaksAside k restarts steps linked t view
speaks_aside k laws restarts steps linked t view links fars kind next own place old new far after notes whole a s os =
    speaks_far k.machine linked t restarts steps next place view links fars kind old new far after notes s
    (all_aside k laws linked t restarts steps next own place whole notes [] old far new after s.turns a) os
