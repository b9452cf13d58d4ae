-- A closing: a call, and RLS_REQ behind it.
use Rattle.std.proofs.Common.{◌≡◌, ℕ, List, [], ◌∷◌, ◌++◌, length, Bool, Option, refl, sym, ◌∙◌, ap, subst, append-nil}
use Rattle.std.specs.List.{AllByRecursion}
use Rattle.nfc_base.specs.Choosing.{Choosing}
use Rattle.nfc_base.specs.declared.event.Heard.{Heard}
use Rattle.air_core.specs.Conversation.{Note, Next, IsDemand, note}
use Rattle.air_core.specs.Turn.{Air, moment, TurnIs}
use Rattle.air_core.specs.laws.Turning.{going_start}
use Rattle.air_core.specs.PlainTags.{IsAside, IsAlone}
use Rattle.air_core.specs.declared.listener.Listener.{Ghosts}
use Rattle.air_core.proofs.PlainAside.{Laws}
use Rattle.dep_link.specs.Target.{TargetState}
use Rattle.dep_link.specs.Initiator.{InitState}
use Rattle.dep_link.specs.Asking.{noted}
use Rattle.dep_link.specs.Releasing.{rls_frame}
use Rattle.far_air.specs.FarEnds.{FarTable}
use Rattle.far_air.specs.FarWorld.{far_air}
use Rattle.far_air.specs.FarLaws.{IsFarTable, IsLinked, IsOfTable, seen_with}
use Rattle.far_air.specs.FarTurns.{FarGoing, QuietBut}
use Rattle.far_air.proofs.FarTurns.{far_turns, far_goes_on, far_goes_then}
use Rattle.peer_air.specs.Aside.{AsideBut}
use Rattle.peer_air.specs.SwapTurns.{Stands}
use Rattle.peer_air.proofs.Aside.{aside_turns}
use Rattle.snep_core.specs.Talk.{Step}
use Rattle.link_calls.specs.CallDue.{CallStanding, Carries, Comes, BrokenBy, Strays, by_client, call_at, call_on, call_due, call_due_at, call_stand}
use Rattle.link_calls.specs.Walk.{walk_carried}
use Rattle.link_calls.specs.CallTurns.{CallTurns}
use Rattle.link_calls.specs.ClosingDue.{ClosingStanding, Releasing, closing_at, closing_noted, closing_on, closing_due, closing_due_at}
use Rattle.link_calls.specs.Closing.{ClosingTurns}

strays : (ns : List Note) → call_on Strays ns ≡ Strays
strays [] = refl
strays (n ∷ ns) = strays ns

-- while its call goes on a closing stands by it
follows : (c : CallStanding) (ns : List Note) (s : CallStanding) → call_on c ns ≡ s → (s ≡ Strays → ⊥) → closing_on (closing_at c) ns ≡ closing_at s
follows c [] s e never = ap closing_at e
follows (Carries w q) (n ∷ ns) s e never = follows (walk_carried by_client w (noted q n)) ns s e never
follows (Comes to i) (n ∷ ns) s e never = absurd (never (sym e ∙ strays ns))
follows (BrokenBy c) (n ∷ ns) s e never = absurd (never (sym e ∙ strays ns))
follows Strays (n ∷ ns) s e never = absurd (never (sym e ∙ strays ns))

closing_append : (c : ClosingStanding) (xs ys : List Note) → closing_on c (xs ++ ys) ≡ closing_on (closing_on c xs) ys
closing_append c [] ys = refl
closing_append c (x ∷ xs) ys = closing_append (closing_noted c x) xs ys

-- what the call asks, the closing asks
asks_same : (numbers : List ℕ) (from : Step) (i : InitState) (ns : List Note) (d : Next) → call_due numbers from i ns ≡ d → IsDemand d → closing_due numbers from i ns ≡ d
asks_same numbers from i ns d e demand = go (call_stand numbers from i ns) refl e
  where
    go : (q : CallStanding) → call_stand numbers from i ns ≡ q → call_due_at q ≡ d → closing_due numbers from i ns ≡ d
    go (Carries w s) at due = ap closing_due_at (follows (call_at numbers from i) ns (Carries w s) at (λ z. cc)) ∙ due
    go (Comes to j) at due = absurd (subst IsDemand (sym due) demand)
    go (BrokenBy c) at due = absurd (subst IsDemand (sym due) demand)
    go Strays at due = absurd (subst IsDemand (sym due) demand)

module _ {L : Type 0} (k : Ghosts L) (own : List ℕ) where
  -- all but one that is alone are aside
  but_alone : (before : List L) (l : L) (behind : List L) → AllByRecursion (IsAside k own) before → AllByRecursion (IsAside k own) behind → AsideBut k own (length before) (before ++ l ∷ behind)
  but_alone [] l behind a b = b
  but_alone (x ∷ before) l behind a b = (a.0, but_alone before l behind a.1 b)

  pub aside_of : (listeners : List L) (place : ℕ) (l : L) → IsAlone k own listeners place l → AsideBut k own place listeners
  aside_of listeners place l a =
      let P : ℕ → Type 0 = λ n. AsideBut k own n listeners in
      let Q : List L → Type 0 = λ ls. AsideBut k own (length a.before) ls in
      subst P a.stands (subst Q (sym a.split) (but_alone a.before l a.behind a.first a.later))

module _ {L F : Type 0} (k : Ghosts L) (linked : L → Bool) (t : FarTable F) (place : ℕ) (os : List (Option F)) (numbers : List ℕ) (from : Step) (i : InitState) (old : Air L) (far : Choosing F) where
  abbrev Turns : Air L → Choosing F → ClosingStanding → Type 0
  Turns new after s = ClosingTurns k linked t numbers from i old new place os far after s

  -- the turns of its call
  pub of_call : (new : Air L) (after : Choosing F) (target : L → TargetState) (s : CallStanding) → CallTurns k target linked t numbers from i old new place os far after s → (s ≡ Strays → ⊥)
      → Turns new after (closing_at s)
  of_call new after target s c never =
      let next : List Note → Next = closing_due numbers from i in
      let rest : List Note → Next = λ ns. next (c.notes ++ ns) in
      let N : List Note → Type 0 = λ z. FarGoing k.machine linked t next (moment old) (moment new) z place os far after in
      let none : FarGoing k.machine linked t rest (moment new) (moment new) [] place os after after =
      going_start (far_air k.machine linked t) rest (seen_with linked t (moment new) os place after) in
      record {
        notes = c.notes;
        going = subst N (append-nil c.notes)
            (far_goes_then k.machine linked t next (call_due numbers from i) rest (moment old) (moment new) (moment new) c.notes [] place os far after after (asks_same numbers from i) (λ ns. refl)
            c.going none);
        stands = follows (call_at numbers from i) c.notes s c.stands never;
      }

  -- and RLS_REQ behind it
  pub with_release : (laws : Laws k) (target : L → TargetState) {A : Type 0} (restarts : A → List ℕ → A → Type 0) (steps : A → List ℕ → List ℕ → A → Type 0) (view : A → Choosing F)
      → IsLinked k.machine linked → IsFarTable t → IsOfTable restarts steps t view → (mid new : Air L) (half after : A) (to : Step) → Turns mid (view half) (Releasing to)
      → Stands k target linked t mid place → (heard : Option Heard) → TurnIs k.machine restarts steps mid rls_frame half heard new after
      → Turns new (view after) (closing_noted (Releasing to) (note heard))
  with_release laws target restarts steps view links fars kind mid new half after to c there heard turn =
      let s = there turn.lit in
      let own : List ℕ = k.identifier s.0 in
      let quiet : QuietBut k.machine rls_frame place mid.listeners =
      (aside_turns k laws restarts steps own place mid new rls_frame heard half after refl (aside_of k own mid.listeners place s.0 s.2) turn).0 in
      record {
        notes = c.notes ++ note heard ∷ [];
        going = far_goes_on k.machine linked t (closing_due numbers from i) (moment old) (moment mid) (moment new) rls_frame heard c.notes place os far (view half) (view after) c.going
            (ap closing_due_at c.stands)
            (far_turns k.machine linked t restarts steps view links fars kind mid new rls_frame heard half after place os quiet turn);
        stands = closing_append (closing_at (call_at numbers from i)) c.notes (note heard ∷ []) ∙ ap (λ z. closing_noted z (note heard)) c.stands;
      }
