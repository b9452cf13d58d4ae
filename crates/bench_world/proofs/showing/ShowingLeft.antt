-- What happened in a step decides what is told of it and what stays of it, by whatever numbers of PDUs.
use Rattle.std.proofs.Common.{◌≡◌, ◌⊎◌, inl, inr, List, [], ◌++◌, Option, Some, None, refl, sym, ◌∙◌, subst}
use Rattle.std.specs.List.{AllByRecursion}
use Rattle.std.proofs.lemmas.List.Elements.{recursion_from_All}
use Rattle.nfc_base.specs.declared.event.Event.{Event}
use Rattle.air_core.specs.Conversation.{Over, receptions}
use Rattle.link_calls.specs.Asking.{LinkAsking}
use Rattle.bench_script.specs.declared.command.Command.{Command}
use Rattle.bench_script.specs.declared.command.Command.TheVariants.{Forge}
use Rattle.bench_world.specs.declared.entry.Answer.{Answer}
use Rattle.bench_world.specs.declared.entry.Entry.{Entry}
use Rattle.bench_world.specs.Asked.{asked_on_link}
use Rattle.bench_world.specs.Calls.{told_asked}
use Rattle.bench_world.specs.Legal.{FrontOf, Given, IsPayload, Joins, LegalStep, State, due, state_after}
use Rattle.bench_world.specs.Links.{OpenLink}
use Rattle.bench_world.specs.Alike.{Alike}
use Rattle.bench_world.specs.Showing.{EntriesLeaveAlike, EventsTell, IsBetweenCommands, MayShow, shown_of}
use Rattle.bench_world.proofs.showing.ShowingAlike.{alike_back, alike_on, alike_same, alike_shown, same_none, told_shown}
use Rattle.bench_world.specs.ShownForged.{forged_shown}
use Rattle.bench_world.proofs.showing.ShowingAlone.{IsForge, IsNumberless, alone_left, numberless}
use Rattle.bench_world.proofs.showing.ShowingForged.{forged_alike}
use Rattle.bench_world.proofs.showing.ShowingLink.{none_happens}

-- a front that is over, by some numbers
told_by_shown : (s t : State) (g : Given) (c : Command) (es : List Event) (a : Answer) → IsBetweenCommands s → FrontOf s g c es (Some a) t → due s g c (receptions es) ≡ Over
    → (asked : LinkAsking) (l : OpenLink) → asked_on_link c ≡ Some asked → s.link ≡ Some l → told_asked asked l (shown_of s c (es ++ [])).own es ≡ told_asked asked l g.joins.own es
told_by_shown s t g c es a b front over asked l on open_ = told_shown s c asked on l open_ b g es a front.turns front.each over

pub events_tell : EventsTell
events_tell s t u g h e f between step step_by same events asked l on open_ =
    let H : Command → List Event → Type 0 = λ c es. FrontOf s h c es (Some f.answer) u in
    let D : Command → List Event → Type 0 = λ c es. due s h c (receptions es) ≡ Over in
    let front : H e.command e.events = subst (λ es. H e.command es) events (subst (λ c. H c f.events) same step_by.front) in
    let over : D e.command e.events = subst (λ es. D e.command es) events (subst (λ c. D c f.events) same step_by.over) in
    sym (told_by_shown s t g e.command e.events e.answer between step.front step.over asked l on open_)
    ∙ told_by_shown s u h e.command e.events f.answer between front over asked l on open_

module _ (s t u : State) (g h : Given) (e : Entry) (between : IsBetweenCommands s) (swapped : MayShow s e.command) (p : LegalStep s g e t) (q : LegalStep s h e u) where
  abbrev after : Joins → State
  after joins = state_after s joins e.command e.events (Some e.answer)

  both : Alike (after g.joins) (after h.joins) → Alike t u
  both a = subst (λ x. Alike x u) (sym p.front.after) (subst (Alike (after g.joins)) (sym q.front.after) a)

  by_link : (asked : LinkAsking) → asked_on_link e.command ≡ Some asked → (o : Option OpenLink) → s.link ≡ o → Alike (after g.joins) (after h.joins)
  by_link asked on None none =
      alike_same (after g.joins) (after h.joins)
      (same_none s e.command asked on none e.answer g.joins h.joins e.events (none_happens s e.command asked on none g e.events (Some e.answer) t p.front))
  by_link asked on (Some l) open_ =
      let k : Joins = shown_of s e.command (e.events ++ []) in
      alike_on (after g.joins) (after k) (after h.joins)
      (alike_shown s e.command asked on l open_ between g e.events e.answer p.front.turns p.front.each p.over p.front.accepted)
      (alike_back (after h.joins) (after k) (alike_shown s e.command asked on l open_ between h e.events e.answer q.front.turns q.front.each q.over q.front.accepted))

  -- payloads that are written by hand
  by_hand : IsForge e.command → Alike (after g.joins) (after h.joins)
  by_hand (id, payloads, is) =
      let A : Command → Type 0 = λ x. Alike (state_after s g.joins x e.events (Some e.answer)) (state_after s h.joins x e.events (Some e.answer)) in
      let c : Command = Forge id payloads in
      let front : FrontOf s g c e.events (Some e.answer) t = subst (λ x. FrontOf s g x e.events (Some e.answer) t) is p.front in
      let front_by : FrontOf s h c e.events (Some e.answer) u = subst (λ x. FrontOf s h x e.events (Some e.answer) u) is q.front in
      let may : AllByRecursion IsPayload payloads = recursion_from_All IsPayload payloads front.accepted.each in
      let k : Joins = forged_shown (e.events ++ []) in
      subst A (sym is)
      (alike_on (state_after s g.joins c e.events (Some e.answer)) (state_after s k c e.events (Some e.answer)) (state_after s h.joins c e.events (Some e.answer))
      (forged_alike s between g id payloads may e.events e.answer front.turns front.each front.fates)
      (alike_back (state_after s h.joins c e.events (Some e.answer)) (state_after s k c e.events (Some e.answer))
      (forged_alike s between h id payloads may e.events e.answer front_by.turns front_by.each front_by.fates)))

  by_kind : IsForge e.command ⊎ IsNumberless s e.command → Alike (after g.joins) (after h.joins)
  by_kind (inl f) = by_hand f
  by_kind (inr k) = alike_same (after g.joins) (after h.joins) (alone_left s e.command k g h e.events e.events e.answer e.answer t u p.front p.over q.front q.over)

  by_asked : (o : Option LinkAsking) → asked_on_link e.command ≡ o → Alike (after g.joins) (after h.joins)
  by_asked None off = by_kind (numberless s e.command off swapped)
  by_asked (Some asked) on = by_link asked on s.link refl

  pub leaves_alike : Alike t u
  leaves_alike = both (by_asked (asked_on_link e.command) refl)

pub entries_leave_alike : EntriesLeaveAlike
entries_leave_alike s t u g h e between swapped p q = leaves_alike s t u g h e between swapped p q
