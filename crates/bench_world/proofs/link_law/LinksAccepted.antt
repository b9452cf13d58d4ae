-- What inboxes tell, and the law of links of a journal.
use Rattle.std.proofs.Common.{◌≡◌, ℕ, List, [], ◌∷◌, ◌++◌, map, Option, Some, None, sym, ◌∙◌, ap, subst}
use Rattle.std.specs.List.{AllByRecursion}
use Rattle.std.proofs.lemmas.List.{append-nil}
use Rattle.bench_script.specs.declared.command.Command.TheVariants.{Inbox}
use Rattle.bench_script.specs.declared.command.DeviceId.{DeviceId}
use Rattle.bench_script.specs.DeviceIds.{bytes_of}
use Rattle.bench_devices.specs.declared.device.Device.{Device}
use Rattle.bench_world.specs.declared.entry.Answer.TheVariants as answers
use Rattle.bench_world.specs.declared.entry.Entry.{Entry}
use Rattle.bench_world.specs.declared.inbox.LinkRange.{LinkRange}
use Rattle.bench_world.specs.World.{FarEnd}
use Rattle.bench_world.specs.Inbox.{inbox_at, inbox_of, came_on_link, chosen, received_on}
use Rattle.bench_world.specs.Legal.{State, Given, Joins, Accepts, IsPeerPlaced, AnswerLaw, LegalStep, EachLegal, first_state, inbox_now}
use Rattle.std.specs.Prelude.{get_or, not}
use Rattle.bench_world.specs.LinkLaw.{gained_aside, AreCounted, KeepsLinkLaw, LinksAccept, LinkLaw, TellsInbox, numbers_by_link, told_by_stories, peer_under}
use Rattle.bench_world.specs.Links.{OpenLink, end_numbered}
use Rattle.bench_world.specs.Peers.{next_number, placed_under}
use Rattle.bench_world.specs.Stories.{Story, state_from, stretch_of, stories_of}
use Rattle.bench_world.proofs.devices.AtNumbers.{Held, held, held_at, held_under, at_own_place}
use Rattle.bench_world.proofs.link_law.Covered.{accepted_as, nothing_aside}
use Rattle.bench_world.proofs.link_law.LinkLaw.{all_keep, all_numbers, all_openers, along, first_stand, step}
use Rattle.bench_world.proofs.link_law.PayloadsKept.{steps_kept}
use Rattle.bench_world.proofs.devices.PeersNumbered.{number_under}
use Rattle.bench_world.proofs.link_law.StoriesHere.{Stand, StandBy, view_of}
use Rattle.bench_world.proofs.link_law.StoriesStand.{View, at, closed_told, open_told}
use Rattle.bench_world.proofs.link_law.StoriesStep.{base_held}
use Rattle.bench_world.proofs.link_law.Tales.{stories_behind, stories_from}
use Rattle.bench_world.specs.ByPayloads.{IfPayloads, IsByPayloads}
use Rattle.bench_world.proofs.link_law.SameStories.{same_from}

-- An inbox on the way.
inbox_so : (v : View) (o : Option OpenLink) (ys : List Story) → StandBy v o ys → (peer : ℕ) (k : Held) → at v peer ≡ Some k
    → inbox_of v.links peer k.accepted ≡ received_on 0 (chosen (λ n. not (came_on_link v.links peer n)) 0 k.accepted) ++ told_by_stories ys peer
inbox_so v None ys stand peer k found = closed_told v peer k found ys stand
inbox_so v (Some l) ys stand peer k found = open_told v peer k found l.peer ys stand

end_there : (links : List LinkRange) (peer : ℕ) (k : Held) (x : Option FarEnd) → held x ≡ Some k → inbox_at links (Some peer) x ≡ inbox_of links peer k.accepted
end_there links peer k None is = absurd cc
end_there links peer k (Some end) is =
    let same : record { limit = end.service.limit; accepted = end.service.accepted } ≡ k = cc in
    ap (λ (h : Held). inbox_of links peer h.accepted) same

inbox_told : (s : State) (ys : List Story) (id : DeviceId) (peer : ℕ) → Stand s ys → peer_under id s ≡ Some peer → inbox_now s id ≡ received_on 0 (gained_aside s peer) ++ told_by_stories ys peer
inbox_told s ys id peer stand is =
    let ds : List Device = s.world.field.listeners in
    let both = base_held (view_of s) s.link ys stand.stand in
    let there = at_own_place peer (next_number s.peers) (bytes_of id) ds s.peers.numbers (map held s.world.fars) both.0 both.1 is in
    let end : Option FarEnd = placed_under (bytes_of id) ds s.world.fars in
    ap (λ n. inbox_at s.peers.links n end) is ∙ end_there s.peers.links peer there.0 end (sym (held_under (bytes_of id) ds s.world.fars) ∙ there.2)
    ∙ inbox_so (view_of s) s.link ys stand.stand peer there.0 there.1
    ∙ ap (λ xs. received_on 0 (chosen (λ n. not (came_on_link s.peers.links peer n)) 0 xs) ++ told_by_stories ys peer)
    (sym (accepted_as (end_numbered peer s.peers.numbers s.world.fars) (get_or s.peers.gone peer None) there.0 (held_at peer s.peers.numbers s.world.fars ∙ there.1)))

inbox_here : (s t : State) (g : Given) (e : Entry) (ys : List Story) (id : DeviceId) → Stand s ys → LegalStep s g e t → e.command ≡ Inbox id → TellsInbox s ys id e.answer
inbox_here s t g e ys id stand legal is =
    let answered : e.answer ≡ answers.Inbox (inbox_now s id) = subst (λ c. AnswerLaw s g c e.events e.answer) is legal.answered in
    let placed : IsPeerPlaced s id = subst (Accepts s) is legal.front.accepted in
    let number = number_under (bytes_of id) s.world.field.listeners s.peers.numbers stand.places.numbers placed in
    record { peer = number.0; placed = number.1; told = answered ∙ ap answers.Inbox (inbox_told s ys id number.0 stand number.1) }

inbox_along : (s t : State) (gs : List Given) (before : List Entry) (e : Entry) (behind : List Entry) (ys : List Story) (id : DeviceId) → Stand s ys → EachLegal s gs (before ++ e ∷ behind) t
    → e.command ≡ Inbox id → TellsInbox (state_from s (map (λ (g : Given). g.joins) gs) before) (stories_from s ys (map (λ (g : Given). g.joins) gs) before) id e.answer
inbox_along s t [] [] e behind ys id stand legal is = absurd legal
inbox_along s t [] (b ∷ before) e behind ys id stand legal is = absurd legal
inbox_along s t (g ∷ gs) [] e behind ys id stand legal is = inbox_here s legal.0 g e ys id stand legal.1 is
inbox_along s t (g ∷ gs) (b ∷ before) e behind ys id stand legal is =
    let mid : State = legal.0 in
    let ns : List Joins = map (λ (h : Given). h.joins) gs in
    subst (λ x. TellsInbox (state_from x ns before) (stories_from x (stories_behind s (stretch_of g.joins b) x ys) ns before) id e.answer) legal.1.front.after
    (inbox_along mid t gs before e behind (stories_behind s (stretch_of g.joins b) mid ys) id (step s mid g b ys stand legal.1) legal.2 is)

pub link_law : LinkLaw
link_law lines numbers journal last leads =
    subst (λ ns. LinksAccept ns journal) leads.joins
    (let ns : List Joins = map (λ (g : Given). g.joins) leads.given in
    let ys : List Story = stories_from first_state [] ns journal in
    let stand = along first_state last leads.given journal [] first_stand leads.steps in
    let all = all_keep (view_of last) last.link ys stand.stand in
    let whole : stories_of ns journal ≡ ys =
    same_from step first_state last leads.given journal [] [] first_stand (subst (λ es. EachLegal first_state leads.given es last) (sym (append-nil journal)) leads.steps) in
    record {
      accept = subst (AllByRecursion KeepsLinkLaw) (sym whole) all.0;
      arrived = subst (AllByRecursion (IfPayloads IsByPayloads)) (sym whole) (steps_kept first_state leads.given journal last [] (record { all = tt; going = tt }) leads.steps);
      opened = ap (map (λ (y : Story). y.opener)) whole ∙ all_openers first_state last leads.given journal first_stand leads.steps;
      linked = ap numbers_by_link whole ∙ all_numbers first_state last leads.given journal first_stand leads.steps;
      counted = subst (AreCounted 1) (sym whole) all.1;
      inboxes = λ before e behind id split is.
          let steps : EachLegal first_state leads.given (before ++ e ∷ behind) last = subst (λ es. EachLegal first_state leads.given es last) split leads.steps in
          subst (λ zs. TellsInbox (state_from first_state ns before) zs id e.answer) (sym (same_from step first_state last leads.given before (e ∷ behind) [] first_stand steps))
          (inbox_along first_state last leads.given before e behind [] id first_stand steps is);
      aside = λ before behind id peer split none placed.
          nothing_aside first_state last leads.given before behind [] id peer first_stand (λ p. tt)
          (subst (λ es. EachLegal first_state leads.given es last) split leads.steps) none placed;
    })
