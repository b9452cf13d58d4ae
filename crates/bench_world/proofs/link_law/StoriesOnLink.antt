-- What a legal step does to the stories of links where it opens one, and where it goes on with the one that is open.
use Rattle.std.proofs.Common.{◌≡◌, ℕ, ◌+◌, Bool, true, false, if◌then◌else◌, List, [], ◌∷◌, ◌++◌, map, length, Option, Some, None, Result, Ok, Err, refl, sym, ◌∙◌, ap, subst}
use Rattle.std.proofs.lemmas.List.{append-nil}
use Rattle.nfc_base.specs.declared.event.Event.{Event}
use Rattle.nfc_base.specs.declared.event.Fate.{Fate}
use Rattle.nfc_base.specs.declared.tag_link.AskFault.{AskFault}
use Rattle.nfc_base.specs.declared.tag_link.AskFault.TheVariants as asking
use Rattle.air_core.specs.Conversation.{Note}
use Rattle.air_core.specs.Waits.{Standing, Asking, Broken, Astray, stand}
use Rattle.dep_link.specs.Activating.{atr_frame}
use Rattle.nfca_poll.specs.declared.fault.PollFault.{PollFault}
use Rattle.nfca_poll.specs.declared.fault.PollFault.TheVariants as faults
use Rattle.link_calls.specs.CallDue.{CallStanding, Carries, Comes, BrokenBy, Strays}
use Rattle.snep_core.specs.Server.{Received as Accepted}
use Rattle.snep_core.specs.declared.slot.Outcome.{Outcome}
use Rattle.snep_core.specs.declared.slot.Outcome.TheVariants as outcomes
use Rattle.snep_core.specs.Links.{Told, Success, Rejected, Unanswered}
use Rattle.snep_core.specs.Payloads.{accepted_from}
use Rattle.snep_core.specs.declared.job.OnSap.{OnSap}
use Rattle.snep_core.specs.Talk.{Goes, Ends, GivesUp}
use Rattle.link_calls.specs.Asking.{LinkAsking, Call, Does, Closes, Finding, Getting, Putting}
use Rattle.link_calls.specs.AtOnce.{AreApart, is_from, told_on}
use Rattle.link_calls.specs.declared.request.SlotMessage.{SlotMessage}
use Rattle.bench_script.specs.declared.command.DeviceId.{DeviceId}
use Rattle.bench_devices.specs.declared.device.Device.{Device}
use Rattle.bench_devices.specs.declared.polling.SeenKind.{SeenKind}
use Rattle.bench_devices.specs.declared.polling.SeenKind.TheVariants as seen
use Rattle.bench_devices.specs.Answering.{TellsStanding}
use Rattle.bench_world.specs.declared.entry.Answer.{Answer}
use Rattle.bench_world.specs.declared.entry.Answer.TheVariants as answers
use Rattle.bench_world.specs.World.{FarEnd, WholeWorld}
use Rattle.bench_world.specs.Answering.{poll_answer}
use Rattle.bench_world.specs.declared.entry.SlotDone.{SlotDone}
use Rattle.bench_world.specs.Calls.{AllAdd, EachAdds, OfEnd, all_done, asked_behind, link_behind, slots_behind, stands_on, told_asked, told_at_once, told_call, told_done, told_each, told_jobs}
use Rattle.bench_world.specs.Calls.{told_one, told_several}
use Rattle.bench_world.specs.Legal.{State, peer_end_of}
use Rattle.bench_world.specs.Linking.{LinkTells, LinkEnds, TellsLoss, link_if}
use Rattle.bench_world.specs.Links.{OpenLink, ended_unless, begun_if, end_numbered, accepted_at}
use Rattle.bench_world.specs.Peers.{Peers, next_number, placed_under}
use Rattle.bench_world.specs.LinkLaw.{KeepsLinkLaw}
use Rattle.bench_world.specs.Stories.{LinkPut, Story, Stretch, arrived_by, puts_in, puts_told, last_goes_on, story_of, story_if, told_in_order}
use Rattle.bench_world.proofs.devices.AtNumbers.{Held, held, held_at, at_number, at_own_place, with_held}
use Rattle.bench_world.proofs.devices.PeersNumbered.{HavePlaces}
use Rattle.bench_world.proofs.link_law.StoriesHere.{view_at, view_of, Stand, adds_so, gain, over_closed, count_is, taken_by, put_to, puts_keep, puts_step}
use Rattle.bench_world.proofs.link_law.PutsTold.{AreTold}
use Rattle.bench_world.proofs.link_law.StoriesStand.{at, Closed, Opened, Open, IsInStep, opened_more, view_more, open_here, view_begun, found_after}
use Rattle.bench_world.proofs.link_law.Tales.{gained_by, goes_on}

-- What a call came to that was told of tells of each message that it put; and only then is the link still open, to the same peer.
abbrev pub messages_of : LinkAsking → List SlotMessage
messages_of (Does (Putting ws)) = ws
messages_of asked = []

abbrev pub tolds_of : LinkAsking → Option Answer → List Told
tolds_of (Does (Putting ws)) told = told_in_order ws told
tolds_of asked told = []

done_told : (ds : List SlotDone) → AreTold (map told_done ds)
done_told [] = tt
done_told (d ∷ ds) = (by d.success, done_told ds)
  where
    by : (v : Bool) → (if v then Success else Rejected) ≡ Unanswered → ⊥
    by true e = cc
    by false e = cc

one_told : (w : SlotMessage) (o : Outcome) (a : Answer) → told_one o ≡ Some a → AreTold (told_each (w ∷ []) a)
one_told w outcomes.Success a e = let same : answers.Success ≡ a = cc in subst (λ x. AreTold (told_each (w ∷ []) x)) same ((λ q. cc), tt)
one_told w outcomes.Rejected a e = let same : answers.Reject ≡ a = cc in subst (λ x. AreTold (told_each (w ∷ []) x)) same ((λ q. cc), tt)
one_told w outcomes.Staged a e = absurd cc
one_told w outcomes.NoMessage a e = absurd cc

several_told : (ws : List SlotMessage) (r : Option (List SlotDone)) (a : Answer) → told_several r ≡ Some a → AreTold (told_each ws a)
several_told ws None a e = absurd cc
several_told ws (Some ds) a e = let same : answers.Puts ds ≡ a = cc in subst (λ x. AreTold (told_each ws x)) same (done_told ds)

at_once_told : (ws : List SlotMessage) (jobs : List OnSap) (a : Answer) → told_at_once ws jobs ≡ Some a → AreTold (told_each ws a)
at_once_told [] jobs a e = several_told [] (all_done [] jobs) a e
at_once_told (w ∷ []) jobs a e = one_told w (told_on jobs w.slot) a e
at_once_told (w ∷ v ∷ ws) jobs a e = several_told (w ∷ v ∷ ws) (all_done (w ∷ v ∷ ws) jobs) a e

pub jobs_told : (call : Call) (jobs : List OnSap) (a : Answer) → told_jobs call jobs ≡ Some a → AreTold (tolds_of (Does call) (Some a))
jobs_told (Putting ws) jobs a e = at_once_told ws jobs a e
jobs_told (Getting sap most key) jobs a e = tt
jobs_told (Finding name) jobs a e = tt

came_to_end : (call : Call) (l : OpenLink) (s : CallStanding) (a : Answer) (m : OpenLink) → told_call call s ≡ Some a → link_behind l call s ≡ Some m
    → (m.peer ≡ l.peer) × AreTold (tolds_of (Does call) (Some a))
came_to_end call l (Comes (Ends jobs k) i) a m told is =
    let same : record { peer = l.peer; initiator = i; client = k; slots = slots_behind call jobs l.slots } ≡ m = cc in
    (sym (ap (λ (o : OpenLink). o.peer) same), jobs_told call jobs a told)
came_to_end call l (Comes (Goes w) i) a m told is = absurd cc
came_to_end call l (Comes (GivesUp k) i) a m told is = absurd cc
came_to_end call l (Carries (w, ns) s) a m told is = absurd cc
came_to_end call l (BrokenBy why) a m told is = absurd cc
came_to_end call l Strays a m told is = absurd cc

-- so behind whatever was asked, or cut off
pub left_open : (asked : LinkAsking) (told : Option Answer) (l m : OpenLink) (joins : List ℕ) (es : List Event) → ((a : Answer) → told ≡ Some a → told_asked asked l joins es ≡ Some a)
    → asked_behind asked told (Some l) joins es ≡ Some m → (m.peer ≡ l.peer) × AreTold (tolds_of asked told)
left_open (Does call) None l m joins es tells is = absurd cc
left_open (Does call) (Some a) l m joins es tells is = came_to_end call l (stands_on l joins call es) a m (tells a refl) is
left_open Closes told l m joins es tells is = absurd cc

-- Behind a call the link is open still, and all was told on it as it is, or it ended.
pub call_over : (w : WholeWorld) (q : List Fate) (p : Peers) (l : OpenLink) (ys : List Story) (o : Opened (view_at p w.fars) l.peer ys) (left : Option OpenLink)
    → HavePlaces w.field.listeners p.numbers w.fars → ((m : OpenLink) → left ≡ Some m → (m.peer ≡ l.peer) × IsInStep o.now.story)
    → Stand (record { world = w; queue = q; peers = ended_unless left (Some l) w.fars p; link = left }) ys
call_over w q p l ys o None places in_step = record { places = places; stand = over_closed p w.fars l.peer ys o }
call_over w q p l ys o (Some m) places in_step =
    let s = in_step m refl in record { places = places; stand = subst (λ n. Open (view_at p w.fars) n ys) (sym s.0) (record { opened = o; step = s.1 }) }

-- A command on it, which puts these messages, told of so.
module _ (s t : State) (l : OpenLink) (ys : List Story) (o : Open (view_of s) l.peer ys) (x : Stretch) (ws : List SlotMessage) (apart : AreApart ws) (ts : List Told)
    (puts : puts_in x.command x.told ≡ puts_told ws ts)
    (more : List Accepted) (adds : OfEnd (λ end. AllAdd ws end ts more) (peer_end_of s l)) (numbers : t.peers.numbers ≡ s.peers.numbers)
    (accepted : map held t.world.fars ≡ with_held more l.peer s.peers.numbers (map held s.world.fars)) where
  abbrev y : Story
  y = o.opened.now.story

  both : EachAdds ws y.begun.service.limit ts more × ((c : ℕ) → is_from c ws ≡ false → accepted_from c more ≡ [])
  both =
      let h = adds_so ws (peer_end_of s l) o.opened.going.there ts more (held_at l.peer s.peers.numbers s.world.fars ∙ o.opened.going.found) adds in
      (subst (λ n. EachAdds ws n ts more) o.opened.going.limit h.0, h.1)

  abbrev grown : Held
  grown = record { limit = o.opened.going.there.limit; accepted = o.opened.going.there.accepted ++ more }

  there_now : at (view_of t) l.peer ≡ Some grown
  there_now =
      ap (λ ns. at_number l.peer ns (map held t.world.fars)) numbers ∙ ap (at_number l.peer s.peers.numbers) accepted
      ∙ found_after (view_of s) l.peer ys o.opened more

  goes : goes_on s x t y ≡ put_to y x.events (arrived_by s x y) ws ts more
  goes =
      let gained : gained_by y.peer s t ≡ more =
      ap (λ n. gained_by n s t) o.opened.going.own ∙ gain l.peer s t o.opened.going.there grown more o.opened.going.found there_now refl in
      let S : List LinkPut → List Accepted → Story = λ ps gs. record y { events = y.events ++ x.events; arrivals = y.arrivals ++ arrived_by s x y; puts = y.puts ++ ps; gained = y.gained ++ gs } in
      ap (λ ps. S ps (gained_by y.peer s t)) puts ∙ ap (S (puts_told ws ts)) gained

  pub talk_over : (z : Opened (view_more (view_of s) l.peer more) l.peer (last_goes_on (goes_on s x t) ys)) × (AreTold ts → IsInStep z.now.story)
  talk_over =
      let keeps : KeepsLinkLaw (put_to y x.events (arrived_by s x y) ws ts more) = puts_keep y o.step x.events (arrived_by s x y) ws apart ts more both.0 both.1 in
      let z = opened_more (view_of s) l.peer ys o.opened more (goes_on s x t) x.events (arrived_by s x y) (puts_told ws ts) goes (subst KeepsLinkLaw (sym goes) keeps) in
      (z.0, λ told. subst IsInStep (sym (z.1 ∙ goes)) (puts_step y o.step x.events (arrived_by s x y) ws apart ts more both.0 both.1 told))

-- `linked` tells the next number.
polled_unlinked : (e : PollFault) (n : ℕ) → poll_answer e ≡ Some (answers.Linked n) → ⊥
polled_unlinked faults.Nobody n h = cc
polled_unlinked faults.Disturbed n h = cc
polled_unlinked faults.FieldLost n h = cc
polled_unlinked faults.Memory n h = cc
polled_unlinked faults.NotFound n h = cc
polled_unlinked faults.BadAnswer n h = cc

lost_unlinked : (e : AskFault) (n : ℕ) → TellsLoss e (answers.Linked n) → ⊥
lost_unlinked asking.FieldLost n h = cc
lost_unlinked asking.SixBad n h = cc
lost_unlinked asking.Memory n h = h
lost_unlinked asking.Protocol n h = h

waited : (n k : ℕ) (s : Standing) → TellsStanding (λ a. a ≡ answers.Linked n) TellsLoss s (answers.Linked k) → k ≡ n
waited n k (Asking bad []) h = cc
waited n k (Asking bad (c ∷ cs)) h = absurd h
waited n k (Broken e cs) h = absurd (lost_unlinked e k h)
waited n k Astray h = absurd h

number_told : (n k : ℕ) (general : List ℕ) (r : Result SeenKind PollFault) (behind : List Note) → LinkEnds n general r behind (answers.Linked k) → k ≡ n
number_told n k general (Ok seen.Peer) behind h = waited n k (stand 0 (atr_frame general ∷ []) behind) h
number_told n k general (Ok seen.T2) behind h = absurd (let clash : answers.Linked k ≡ answers.WrongKind = h in cc)
number_told n k general (Ok seen.T4) behind h = absurd (let clash : answers.Linked k ≡ answers.WrongKind = h in cc)
number_told n k general (Ok seen.T5) behind h = absurd (let clash : answers.Linked k ≡ answers.WrongKind = h in cc)
number_told n k general (Err e) behind h = absurd (polled_unlinked e k h)

pub linked_number : (id : DeviceId) (ds : List Device) (n k : ℕ) (general : List ℕ) (events : List Event) → LinkTells id ds n general events (answers.Linked k) → k ≡ n
linked_number id ds n k general events tells = number_told n k general tells.polled tells.behind tells.ends

-- The link that is open then is to a peer that is placed.
pub linked_peer : (place : Option ℕ) (d : Option Device) (miu window : ℕ) (l : OpenLink) → link_if place d miu window ≡ Some l → place ≡ Some l.peer
linked_peer (Some peer) (Some d) miu window l is = ap Some (ap (λ (o : OpenLink). o.peer) (one is))
  where
    one : {a b : OpenLink} → ◌≡◌ {A = Option OpenLink} (Some a) (Some b) → a ≡ b
    one e = cc
linked_peer (Some peer) None miu window l is = absurd cc
linked_peer None d miu window l is = absurd cc

-- so a story begins with it, to whatever end stands there
module _ (w : WholeWorld) (q : List Fate) (p : Peers) (id : List ℕ) (ds : List Device) (before : List (Option FarEnd)) (same : map held w.fars ≡ map held before)
    (places : HavePlaces w.field.listeners p.numbers w.fars) (ys : List Story) (c : Closed (view_at p w.fars) ys) (number : ℕ) (general : List ℕ) (next : number ≡ length p.links + 1) where
  abbrev behind_link : Option OpenLink → State
  behind_link left = record { world = w; queue = q; peers = begun_if left before p; link = left }

  first_story : (l : OpenLink) (k : Held) (o : Option FarEnd) → at (view_at p w.fars) l.peer ≡ Some k → held o ≡ Some k
      → Open (view_begun (view_at p w.fars) l.peer (length k.accepted)) l.peer (ys ++ story_of number general l.peer o)
  first_story l k None found is = absurd cc
  first_story l k (Some end) found is =
      let same_end : record { limit = end.service.limit; accepted = end.service.accepted } ≡ k = cc in
      let limit : k.limit ≡ end.service.limit = sym (ap (λ (h : Held). h.limit) same_end) in
      open_here (view_at p w.fars) l.peer ys c k found _ next refl limit refl refl

  pub link_begins : (left : Option OpenLink) → ((l : OpenLink) → left ≡ Some l → placed_under id ds p.numbers ≡ Some l.peer)
      → Stand (behind_link left) (ys ++ story_if number general left (behind_link left))
  link_begins None peer = subst (Stand (behind_link None)) (sym (append-nil ys)) (record { places = places; stand = c })
  link_begins (Some l) peer =
      let there = at_own_place l.peer (next_number p) id ds p.numbers (map held w.fars) c.base.held c.base.apart (peer l refl) in
      let k : Held = there.0 in
      let count : length k.accepted ≡ accepted_at l.peer p before =
      sym (count_is (end_numbered l.peer p.numbers before)
      ∙ ap (λ x. length (taken_by x)) (held_at l.peer p.numbers before ∙ ap (at_number l.peer p.numbers) (sym same) ∙ there.1)) in
      let begins : Open (view_begun (view_at p w.fars) l.peer (length k.accepted)) l.peer (ys ++ story_of number general l.peer (end_numbered l.peer p.numbers w.fars)) =
      first_story l k (end_numbered l.peer p.numbers w.fars) there.1 (held_at l.peer p.numbers w.fars ∙ there.1) in
      record {
        places = places;
        stand = subst (λ n. Open (view_begun (view_at p w.fars) l.peer n) l.peer (ys ++ story_of number general l.peer (end_numbered l.peer p.numbers w.fars))) count begins;
      }
