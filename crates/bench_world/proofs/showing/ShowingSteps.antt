-- Of a command that has no numbers of PDUs all steps from one state have the same events; of one that is asked on the open link they begin with those
-- that show the numbers.
use Rattle.std.proofs.Common.{◌≡◌, ◌⊎◌, inl, inr, List, ◌++◌, Option, Some, None, refl, sym, ◌∙◌, ap, subst}
use Rattle.std.proofs.lemmas.List.Elements.{recursion_from_All}
use Rattle.nfc_base.specs.declared.event.Event.{Event}
use Rattle.air_core.specs.Conversation.{Over, receptions}
use Rattle.link_calls.specs.Asking.{LinkAsking}
use Rattle.bench_script.specs.declared.command.Command.{Command}
use Rattle.bench_script.specs.declared.command.Command.TheVariants.{Forge}
use Rattle.bench_world.specs.declared.entry.Answer.{Answer}
use Rattle.bench_world.specs.Asked.{asked_on_link}
use Rattle.bench_world.specs.Legal.{FrontOf, Given, IsPayload, State, due}
use Rattle.bench_world.specs.Links.{OpenLink}
use Rattle.bench_world.specs.Showing.{BeginsSame, IsBetweenCommands, MayShow, NumbersShow, shown_of}
use Rattle.bench_world.proofs.showing.ShowingAlone.{IsForge, IsNumberless, alone_events, numberless}
use Rattle.bench_world.proofs.showing.ShowingForge.{begins_forged}
use Rattle.bench_world.proofs.showing.ShowingLink.{begins_on_link, none_happens}

-- the same events
begins_all : (es rest fs : List Event) → fs ≡ es ++ rest → BeginsSame es rest fs
begins_all es rest fs is = record { other = rest; begins = is; ends = λ none. none; ended = λ none fresh. none }

module _ (s t u : State) (g h : Given) (c : Command) (es rest more fs : List Event) (a b : Answer) (between : IsBetweenCommands s) (swapped : MayShow s c)
    (p : FrontOf s g c (es ++ rest) (Some a) t) (done : due s g c (receptions (es ++ rest)) ≡ Over) (q : FrontOf s h c fs (Some b) u) (over : due s h c (receptions fs) ≡ Over)
    (shown : h.joins ≡ shown_of s c (es ++ more)) where
  by_link : (asked : LinkAsking) → asked_on_link c ≡ Some asked → (o : Option OpenLink) → s.link ≡ o → BeginsSame es rest fs
  by_link asked on None none =
      begins_all es rest fs (none_happens s c asked on none h fs (Some b) u q ∙ sym (none_happens s c asked on none g (es ++ rest) (Some a) t p))
  by_link asked on (Some l) open_ = begins_on_link s c asked on l open_ between g h es rest fs more (Some a) (Some b) t u shown p done q over

  -- payloads that are written by hand
  by_hand : IsForge c → BeginsSame es rest fs
  by_hand (id, payloads, is) =
      let F : Command → Type 0 = λ x. FrontOf s g x (es ++ rest) (Some a) t in
      let H : Command → Type 0 = λ x. FrontOf s h x fs (Some b) u in
      let front : F (Forge id payloads) = subst F is p in
      begins_forged s between g id payloads (recursion_from_All IsPayload payloads front.accepted.each) h es rest fs more (Some a) (Some b) t u (shown ∙ ap (λ x. shown_of s x (es ++ more)) is)
      front (ap (λ x. due s g x (receptions (es ++ rest))) (sym is) ∙ done) (subst H is q) (ap (λ x. due s h x (receptions fs)) (sym is) ∙ over)

  by_kind : IsForge c ⊎ IsNumberless s c → BeginsSame es rest fs
  by_kind (inl f) = by_hand f
  by_kind (inr k) = begins_all es rest fs (sym (alone_events s c k g h (es ++ rest) fs a b t u p done q over))

  by_asked : (o : Option LinkAsking) → asked_on_link c ≡ o → BeginsSame es rest fs
  by_asked None off = by_kind (numberless s c off swapped)
  by_asked (Some asked) on = by_link asked on s.link refl

  pub begins_so : BeginsSame es rest fs
  begins_so = by_asked (asked_on_link c) refl

pub numbers_show : NumbersShow
numbers_show s t u g h e f es rest more between swapped step split step_by same shown =
    let F : List Event → Type 0 = λ xs. FrontOf s g e.command xs (Some e.answer) t in
    let H : Command → Type 0 = λ c. FrontOf s h c f.events (Some f.answer) u in
    begins_so s t u g h e.command es rest more f.events e.answer f.answer between swapped (subst F split step.front) (ap (λ xs. due s g e.command (receptions xs)) (sym split) ∙ step.over)
    (subst H same step_by.front) (ap (λ c. due s h c (receptions f.events)) (sym same) ∙ step_by.over) shown
