-- What is asked on an open link goes the same way by the numbers that its own frames show: the same is due, and the same is told of it.
use Rattle.std.proofs.Common.{◌≡◌, ℕ, List, [], ◌∷◌, ◌++◌, Option, Some, None, refl, sym, ◌∙◌, ap, subst}
use Rattle.nfc_base.specs.Signal.{Signal}
use Rattle.nfc_base.specs.declared.event.Event.{Event}
use Rattle.nfc_base.specs.declared.event.Event.TheVariants.{Request}
use Rattle.nfc_base.specs.declared.event.Fate.{Fate}
use Rattle.air_core.specs.Conversation.{Over, Asks, EachDue, receptions}
use Rattle.snep_core.specs.Talk.{closes}
use Rattle.link_calls.specs.Asking.{LinkAsking, Does, Closes, Call, call_begins}
use Rattle.link_numbers.specs.OwnShows.{Rested, IsWithin}
use Rattle.link_numbers.specs.Shown.{own_shown}
use Rattle.link_numbers.proofs.own.OwnShown.{own_shows, own_shows_closing}
use Rattle.bench_world.specs.declared.entry.Answer.{Answer}
use Rattle.bench_world.specs.Calls.{IfLinked, asked_behind, due_asked, link_behind, told_asked, told_call, told_closing}
use Rattle.bench_world.specs.Legal.{State}
use Rattle.bench_world.specs.Links.{OpenLink}
use Rattle.bench_world.specs.Opened.{IsOpen}
use Rattle.bench_world.specs.Cutting.{LinkCuts}
use Rattle.bench_world.specs.Showing.{IsBetweenCommands}
use Rattle.link_numbers.proofs.own.Resting.{call_within, closes_within}

-- What was asked on a link goes the same way by these numbers as by those: the same is due, it is over at once, and the same is told then.
pub record OwnSame (asked : LinkAsking) (l : OpenLink) (js ks : List ℕ) (turned more : List Event) : Type 0 where
  pub each : EachDue (due_asked asked l ks) [] turned
  pub asks : (f : Signal) (x : Fate) (tail : List Event) → more ≡ Request f x ∷ tail → due_asked asked l js (receptions turned) ≡ Asks f
      → due_asked asked l ks (receptions turned) ≡ Asks f
  pub over : due_asked asked l js (receptions turned) ≡ Over → due_asked asked l ks (receptions turned) ≡ Over
  pub over_back : due_asked asked l ks (receptions turned) ≡ Over → due_asked asked l js (receptions turned) ≡ Over
  pub told : due_asked asked l js (receptions turned) ≡ Over → told_asked asked l ks turned ≡ told_asked asked l js turned
  pub behind : (answer : Option Answer) → due_asked asked l js (receptions turned) ≡ Over → asked_behind asked answer (Some l) ks turned ≡ asked_behind asked answer (Some l) js turned

-- the link that a call leaves goes by where it stands
behind_stands : (answer : Option Answer) (l : OpenLink) (call : Call) (js ks : List ℕ) (turned : List Event)
    → ((a : Answer) → asked_behind (Does call) (Some a) (Some l) ks turned ≡ asked_behind (Does call) (Some a) (Some l) js turned)
    → asked_behind (Does call) answer (Some l) ks turned ≡ asked_behind (Does call) answer (Some l) js turned
behind_stands None l call js ks turned e = refl
behind_stands (Some a) l call js ks turned e = e a

pub own_same : (asked : LinkAsking) (l : OpenLink) (js : List ℕ) (turned more : List Event) → Rested l.initiator.core → IsWithin l.client → EachDue (due_asked asked l js) [] turned
    → OwnSame asked l js (own_shown l.initiator.core.number (turned ++ more)) turned more
own_same (Does call) l js turned more rested within each =
    let ks : List ℕ = own_shown l.initiator.core.number (turned ++ more) in
    let k = own_shows js (call_begins l.client call) l.initiator turned more rested (call_within l.client call within) each in
    record {
      each = k.each;
      asks = k.asks;
      over = k.over;
      over_back = k.over_back;
      told = λ e. ap (told_call call) (k.stands e);
      behind = λ answer e. behind_stands answer l call js ks turned (λ a. ap (link_behind l call) (k.stands e));
    }
own_same Closes l js turned more rested within each =
    let k = own_shows_closing js (closes l.client) l.initiator turned more rested (closes_within l.client within) each in
    record { each = k.each; asks = k.asks; over = k.over; over_back = k.over_back; told = λ e. ap told_closing (k.stands e); behind = λ answer e. refl }

-- The link that is open between two commands: it stands as an open link does, and its initiator rests.
pub opened_at : (s : State) (l : OpenLink) (b : IsBetweenCommands s) → s.link ≡ Some l → IsOpen b.machines.air b.machines.ends b.machines.peers l
opened_at s l b open_ =
    subst (λ o. IfLinked o (λ k. IsOpen b.machines.air b.machines.ends b.machines.peers k) (Unit {0})) (sym (ap (λ (t : State). t.link) b.is) ∙ open_) b.settled.link

pub link_cuts : (s : State) (l : OpenLink) → IsBetweenCommands s → s.link ≡ Some l → LinkCuts l
link_cuts s l b open_ = subst (λ o. IfLinked o LinkCuts (Unit {0})) open_ b.cuts.link
