-- A link was opened, or it was not: the peer wasn't found, it was a tag, or no answer came.
use Rattle.std.proofs.Common.{◌≡◌, inl, inr, ℕ, zero, suc, ◌+◌, ◌<◌, List, [], ◌∷◌, ◌++◌, map, length, true, false, Option, Some, None, IsSome, Result, Ok, Err, refl, sym, ◌∙◌, ap, subst, arith}
use Rattle.std.specs.Prelude.{get_or, slice_set, IfOk}
use Rattle.std.specs.List.{AllByRecursion}
use Rattle.std.proofs.lemmas.Bool.{cases_lt}
use Rattle.std.proofs.lemmas.List.{append-nil, length-map, length-set}
use Rattle.nfc_base.specs.Choosing.{Choosing}
use Rattle.nfc_base.specs.declared.event.Event.{Event}
use Rattle.nfc_base.specs.declared.event.Event.TheVariants.{Reset, Request, Answer, Clash}
use Rattle.nfc_base.specs.declared.event.Fate.{Fate}
use Rattle.nfc_base.specs.declared.carrier.EndCause.{EndCause}
use Rattle.nfc_base.specs.declared.carrier.EndCause.TheVariants as causes
use Rattle.nfc_base.specs.declared.tag_link.AskFault.TheVariants as asking
use Rattle.nfc_base.specs.Trace.{back_of, noise, breaks}
use Rattle.nfc_base.specs.Trace as backs
use Rattle.air_core.specs.World.{World}
use Rattle.air_core.specs.Turn.{Air, moment}
use Rattle.air_core.specs.Conversation.{Moment, Note, Over, LightUp, Asks, Going, AreTurns, EachDue, receptions, replay, queue_after}
use Rattle.air_core.specs.laws.Turning.{due_weaker}
use Rattle.air_core.specs.Waits.{Standing, Asking, Broken, Astray, stand, due_at}
use Rattle.air_core.proofs.LostField.{breaks-append}
use Rattle.air_core.proofs.PlainTurns.{noise_append}
use Rattle.arrayvec.specs.ArrayVec.{ArrayVec}
use Rattle.nfca_poll.specs.declared.fault.PollFault.{PollFault}
use Rattle.nfca_poll.specs.declared.fault.PollFault.TheVariants as faults
use Rattle.bench_world.specs.declared.bench.ObeyFault.{ObeyFault}
use Rattle.bench_world.specs.declared.bench.ObeyFault.TheVariants as obey_faults
use Rattle.dep_link.specs.DepLinks.{over_at}
use Rattle.dep_link.specs.Initiator.{InitState, waiting}
use Rattle.dep_link.specs.Target.{TargetState}
use Rattle.llcp_conn.specs.Conn.{IsWindow}
use Rattle.llcp_link.specs.Names.{is_bound}
use Rattle.llcp_link.specs.State.{fresh_end, readable_by, restarted}
use Rattle.llcp_pdu.specs.General.{IsMiu, general}
use Rattle.snep_core.specs.Slots.{fresh_slots}
use Rattle.snep_core.specs.Accord.{Accords}
use Rattle.snep_core.specs.Talk.{server_sap}
use Rattle.snep_core.proofs.accord.Ends.{begun_accords}
use Rattle.bench_devices.specs.Choosing.{StandsAt}
use Rattle.bench_devices.specs.Placed.{device_with}
use Rattle.dep_link.specs.Activating.{atr_frame}
use Rattle.dep_link.specs.AnyTarget.{AnswersAtr, atr_next, told_initiator}
use Rattle.llcp_link.specs.Answering.{Answers}
use Rattle.far_air.specs.FarEnds.{by_link, rests}
use Rattle.far_air.specs.FarWorld.{with_numbers}
use Rattle.far_air.specs.FarLaws.{seen, shown}
use Rattle.far_air.specs.FarTurns.{FarGoing}
use Rattle.far_air.specs.Quietly.{NoneHands}
use Rattle.far_air.proofs.Quietly.{unlinked_stay}
use Rattle.peer_air.specs.PeerFars.{peer_ends}
use Rattle.peer_air.proofs.PeerEnds.{ends_step}
use Rattle.snep_core.specs.Server.{serving}
use Rattle.bench_script.specs.declared.command.Command.TheVariants.{Link}
use Rattle.bench_script.specs.declared.command.DeviceId.{DeviceId}
use Rattle.bench_script.specs.declared.command.DeviceId.TheVariants.{A, V}
use Rattle.bench_devices.specs.declared.device.Device.{Device}
use Rattle.bench_devices.specs.declared.device.Device.TheVariants.{T2, T4, Peer, T5, T3}
use Rattle.bench_devices.specs.declared.polling.SeenKind.{SeenKind}
use Rattle.bench_devices.specs.declared.polling.SeenKind.TheVariants as kinds
use Rattle.bench_devices.specs.Answering.{TellsStanding}
use Rattle.bench_devices.specs.Hearing.{IsAnswered}
use Rattle.bench_devices.specs.Kinds.{DeviceKind, seen_by}
use Rattle.bench_devices.specs.Device.{air, devices, device_linked, device_target, seen_of, is_tag, stable_of, StablePart}
use Rattle.bench_devices.specs.Keeping.{Kept, kept, AreSound, AreTame, NoStore}
use Rattle.bench_devices.specs.Opening.{linking, peer_next, Opens, Opened, OpeningEnds}
use Rattle.bench_devices.specs.Phases.{Selects, SelectsAt, SelectionCut, IsIdle}
use Rattle.bench_devices.specs.Polling.{Told, asks, selecting}
use Rattle.bench_devices.proofs.turns.CalmDues.{calm_selecting}
use Rattle.bench_devices.proofs.far_ends.LinkFar.{opens_far}
use Rattle.bench_devices.proofs.far_ends.LinkingNotes.{link_asks}
use Rattle.bench_devices.proofs.kinds.PeerLinks.{devices_link}
use Rattle.bench_devices.proofs.kinds.TagOrPeer.{peer_kind, same_tag}
use Rattle.bench_devices.proofs.kinds.Tidy.{going_tidy}
use Rattle.bench_world.specs.declared.entry.Answer.{Answer as Told_answer}
use Rattle.bench_world.specs.declared.entry.Answer.TheVariants as answers
use Rattle.bench_world.specs.declared.entry.Loss.TheVariants as losses
use Rattle.bench_world.specs.Answering.{poll_answer}
use Rattle.bench_world.specs.World.{FarEnd, WholeWorld, bench_air, Stable, stable}
use Rattle.bench_world.specs.Linking.{LinkEnds, LinkTells, IsFieldLost, TellsLoss, link_to, link_if, no_service, own_general, new_client}
use Rattle.bench_world.specs.declared.inbox.LinkRange.{LinkRange}
use Rattle.bench_world.specs.Arriving.{BeginsAt}
use Rattle.bench_world.specs.Calls.{IfLinked, OfEnd}
use Rattle.bench_world.specs.Links.{OpenLink, accepted_at, accepted_by, end_numbered, with_link, begun_if}
use Rattle.bench_world.specs.Opened.{IsServed, AreServed, AreNumbered, IsFirstWith, IsOpen}
use Rattle.bench_world.specs.Peers.{Peers, placed_under, next_number}
use Rattle.bench_world.specs.private.LinkedAt.{restarts, NotOpened}
use Rattle.bench_world.specs.Legal.{State, Given, Joins, no_joins, MayLink, FrontOf, CutFront, LinkingLaw, world_after, peers_after, link_after, state_after}
use Rattle.bench_world.specs.Obeying.{Machines, linked_at, state_at, under, HasPlaces, KeepsLink, Obeyed}
use Rattle.bench_world.proofs.tags.Fronts.{Ends, ends_table, rests_alike, stable_behind}
use Rattle.bench_world.proofs.devices.Placed.{Upon}
use Rattle.bench_world.proofs.devices.Locking.{has_id}
use Rattle.bench_world.proofs.devices.Removing.{under_at}
use Rattle.bench_world.proofs.devices.PlacesKept.{served_as, kinds_of, first_end}
use Rattle.bench_world.proofs.open_link.OnLink.{end_shown, end_there, linked_in}
use Rattle.bench_world.proofs.open_link.Restarted.{KeepsEnd, begun_anew, times_keep, last_begun, far_there, far_set, set_there, set_rests, set_served, served_at, first_of, readable_said}
use Rattle.bench_world.proofs.open_link.Unlinking.{accepted_shown}
use Rattle.bench_world.proofs.calm.WholeNotes.{whole_notes}
use Rattle.bench_world.proofs.tags.Legality.{selecting_more, told_lost, poll_lost, asks_for, above, front_so, asks_so, plain_after, part_stays, stores_stay, stores_kept, stable_in}
use Rattle.std.specs.Prelude.{◌-◌, Bool}
use Rattle.air_core.proofs.BrokenWaits.{never_light}

-- no answer but that of a link that is open opens one
plain_so : (s : State) (id : List ℕ) (miu rw : ℕ) (es : List Event) (a : Told_answer) → ((n : ℕ) → a ≡ answers.Linked n → ⊥)
    → state_after s no_joins (Link id miu rw) es (Some a) ≡ plain_after s (Link id miu rw) es
plain_so s id miu rw es (answers.Linked n) other = absurd (other n refl)
plain_so s id miu rw es a other = refl

none_begins : (P : OpenLink → Type 0) (s : State) (joins : Joins) (id : List ℕ) (miu rw : ℕ) (es : List Event) (a : Told_answer) → ((n : ℕ) → a ≡ answers.Linked n → ⊥)
    → IfLinked (link_after s joins (Link id miu rw) es (Some a)) P (Unit {0})
none_begins P s joins id miu rw es (answers.Linked n) other = absurd (other n refl)
none_begins P s joins id miu rw es a other = tt

-- While a device is selected none hands anything over.
begins_so : (id : DeviceId) → asks (selecting id []) ≡ LightUp
begins_so (A i) = refl
begins_so (V i) = refl

pub none_selecting : (id : DeviceId) (es : List Event) → EachDue (λ ns. asks (selecting id ns)) [] es → back_of es ≡ backs.Nothing → (w : World Device) → NoneHands devices w es
none_selecting id [] each fresh w = tt
none_selecting id (Reset ∷ es) each fresh w = ((unlinked_stay devices device_linked devices_link).1 w es (calm_selecting id (Reset ∷ es) each)).none
none_selecting id (Request f x ∷ es) each fresh w = absurd (let clash : LightUp ≡ Asks f = sym (begins_so id) ∙ each.0 in cc)
none_selecting id (Answer f x ∷ es) each fresh w = absurd cc
none_selecting id (Clash f x ∷ es) each fresh w = absurd cc

-- what selecting asks, opening a link asks
abbrev linking_of : (id : List ℕ) (general : List ℕ) (a b : Moment (World Device)) (ns : List Note) → Going air (λ ks. asks (selecting (A id) ks)) a b ns → Going air (linking (A id) general) a b ns
linking_of id general a b ns g = record {
  events = g.events;
  moment = g.moment;
  turns = g.turns;
  each = due_weaker (linking (A id) general) (λ ks. asks (selecting (A id) ks)) (λ ks n h d. link_asks.first (A id) general ks n h d) [] g.events g.each;
  fates = g.fates;
  fresh = g.fresh;
  known = g.known;
}

-- a fault of polling opens no link, and tells of no link that ended
poll_not_linked : (e : PollFault) (answer : Told_answer) → poll_answer e ≡ Some answer → (n : ℕ) → answer ≡ answers.Linked n → ⊥
poll_not_linked faults.Nobody answer is n linked = cc
poll_not_linked faults.Disturbed answer is n linked = cc
poll_not_linked faults.FieldLost answer is n linked = cc
poll_not_linked faults.Memory answer is n linked = cc
poll_not_linked faults.NotFound answer is n linked = cc
poll_not_linked faults.BadAnswer answer is n linked = cc

poll_not_ended : (e : PollFault) (answer : Told_answer) → poll_answer e ≡ Some answer → (loss : _) → answer ≡ answers.LinkEnded loss → ⊥
poll_not_ended faults.Nobody answer is loss ended = cc
poll_not_ended faults.Disturbed answer is loss ended = cc
poll_not_ended faults.FieldLost answer is loss ended = cc
poll_not_ended faults.Memory answer is loss ended = cc
poll_not_ended faults.NotFound answer is loss ended = cc
poll_not_ended faults.BadAnswer answer is loss ended = cc

-- How the wait of ATR_REQ stands at each end, and that nothing more is due there.
opened_ends : (n : ℕ) (ns : List Note) (s : Standing) (p : InitState × ArrayVec ℕ) → AnswersAtr true ns s (Ok p)
    → TellsStanding (λ a. a ≡ answers.Linked n) TellsLoss s (answers.Linked n) × (due_at s ≡ Over)
opened_ends n ns (Asking bad []) p h = (refl, refl)
opened_ends n ns (Asking bad (c ∷ cs)) p h = absurd cc
opened_ends n ns (Broken fault cs) p h = absurd cc
opened_ends n ns Astray p h = absurd h

no_lost : (x : Option (ℕ × ArrayVec ℕ)) → Err causes.FieldLost ≡ told_initiator x → ⊥
no_lost None e = cc
no_lost (Some p) e = cc

no_six : (x : Option (ℕ × ArrayVec ℕ)) → Err causes.SixBad ≡ told_initiator x → ⊥
no_six None e = cc
no_six (Some p) e = cc

lost_ends : (n : ℕ) (ns : List Note) (s : Standing) → AnswersAtr true ns s (Err causes.FieldLost)
    → TellsStanding (λ a. a ≡ answers.Linked n) TellsLoss s (answers.LinkEnded losses.FieldLost) × (due_at s ≡ Over)
lost_ends n ns (Asking bad []) h = absurd (no_lost _ h.3)
lost_ends n ns (Asking bad (c ∷ cs)) h = absurd cc
lost_ends n ns (Broken asking.FieldLost cs) h = (refl, refl)
lost_ends n ns (Broken asking.SixBad cs) h = absurd cc
lost_ends n ns (Broken asking.Memory cs) h = absurd cc
lost_ends n ns (Broken asking.Protocol cs) h = absurd cc
lost_ends n ns Astray h = absurd h

six_ends : (n : ℕ) (ns : List Note) (s : Standing) → AnswersAtr true ns s (Err causes.SixBad)
    → TellsStanding (λ a. a ≡ answers.Linked n) TellsLoss s (answers.LinkEnded losses.SixBad) × (due_at s ≡ Over)
six_ends n ns (Asking bad []) h = absurd (no_six _ h.3)
six_ends n ns (Asking bad (c ∷ cs)) h = absurd cc
six_ends n ns (Broken asking.FieldLost cs) h = absurd cc
six_ends n ns (Broken asking.SixBad cs) h = (refl, refl)
six_ends n ns (Broken asking.Memory cs) h = absurd cc
six_ends n ns (Broken asking.Protocol cs) h = absurd cc
six_ends n ns Astray h = absurd h

-- what both parts used
more_breaks : (first rest : List Event) → 0 < breaks rest → 0 < breaks (first ++ rest)
more_breaks first rest some = omega (arith, some, breaks-append first rest)

rest_breaks : (first rest : List Event) → (0 < breaks first → ⊥) → 0 < breaks (first ++ rest) → 0 < breaks rest
rest_breaks first rest none all = elim (cases_lt 0 (breaks first)) [ inl some ↦ absurd (none some) | inr still ↦ omega (arith, all, still, breaks-append first rest) ]

no_more_noise : (first rest : List Event) → noise (first ++ rest) ≡ 0 → noise rest ≡ 0
no_more_noise first rest none = omega (arith, none, noise_append first rest)

more_noise : (first rest : List Event) → 0 < noise rest → 0 < noise (first ++ rest)
more_noise first rest some = omega (arith, some, noise_append first rest)

-- A device of these stands at the place of one that is kept as it is.
pub record OldAt (ls : List Device) (place : ℕ) (d : Device) : Type 0 where
  pub before : List Device
  pub device : Device
  pub behind : List Device
  pub split : ls ≡ before ++ device ∷ behind
  pub at : length before ≡ place
  pub same : kept device ≡ kept d

pub old_stands : (ls before : List Device) (d : Device) (behind : List Device) (place : ℕ) → map kept ls ≡ map kept (before ++ d ∷ behind) → length before ≡ place → OldAt ls place d
old_stands [] [] d behind place same at = absurd cc
old_stands [] (b ∷ before) d behind place same at = absurd cc
old_stands (x ∷ ls) [] d behind place same at = record { before = []; device = x; behind = ls; split = refl; at = at; same = (let one : kept x ≡ kept d = cc in one) }
old_stands (x ∷ ls) (b ∷ before) d behind zero same at = absurd cc
old_stands (x ∷ ls) (b ∷ before) d behind (suc place) same at =
    let rest : map kept ls ≡ map kept (before ++ d ∷ behind) = cc in
    let more : OldAt ls place d = old_stands ls before d behind place rest cc in
    record { before = x ∷ more.before; device = more.device; behind = more.behind; split = ap (λ xs. x ∷ xs) more.split; at = ap suc more.at; same = more.same }

module _ (ends : Ends) (peers : Peers) (old : Air Device) (id : List ℕ) (miu rw : ℕ) (idle : IsIdle old) (places : HasPlaces (under ends peers None old)) (may : MayLink miu rw) where
  abbrev os : Upon
  os = record { ends = ends; peers = peers; link = None }

  abbrev st : State
  st = above os old

  abbrev count : ℕ
  count = length peers.links + 1

  -- it wasn't found
  pub missed_link : (new : Air Device) (e : PollFault) (answer : Told_answer) → Selects (A id) (Err e) (moment old) (moment new) → poll_answer e ≡ Some answer
      → Obeyed (under ends peers None old) (under ends peers None new) (Link id miu rw) answer
  missed_link new e answer s is =
      let hs : List Note = s.asked.notes in
      let g : Going air (linking (A id) (own_general miu)) (moment old) (moment new) hs = linking_of id (own_general miu) (moment old) (moment new) hs s.asked.going in
      let none : NoneHands devices (moment old).world g.events = none_selecting (A id) g.events s.asked.going.each s.asked.going.fresh (moment old).world in
      let world : (moment new).world ≡ replay air (moment old).world g.events = ap (λ (t : Moment (World Device)). t.world) g.moment in
      let over : linking (A id) (own_general miu) hs ≡ Over = ap (linking (A id) (own_general miu)) (sym (append-nil hs)) ∙ link_asks.missed (A id) (own_general miu) e hs [] s.told in
      let law : LinkingLaw st no_joins id miu rw g.events answer = record {
        tells = record {
          polled = Err e;
          behind = [];
          selected = ap (selecting (A id)) s.asked.going.known ∙ s.told;
          cause = s.cause;
          ends = is;
          lost = (
            λ lost. elim lost [ inl dark ↦ s.lost.0 (told_lost e answer is dark) | inr ended ↦ absurd (poll_not_ended e answer is losses.FieldLost ended) ],
            λ broken. inl (poll_lost e answer is (s.lost.1 broken)),
          );
          noisy = λ six. absurd (poll_not_ended e answer is losses.SixBad six);
          calm = λ none. tt;
        };
        begins = none_begins _ st no_joins id miu rw g.events answer (poll_not_linked e answer is);
        stays = stable_behind (moment old).world g.events ends none (stores_stay old new g.events world s.asked.same);
        opens = λ n linked. absurd (poll_not_linked e answer is n linked);
      } in
      asks_so NoStore os old new (Link id miu rw) [] hs answer idle places tt may refl g over refl none (plain_so st id miu rw g.events answer (poll_not_linked e answer is)) law s.asked.same

  -- or selecting it was cut off
  pub selection_cut_link : (new : Air Device) → SelectionCut (A id) (moment old) (moment new) → CutFront no_joins st (Link id miu rw) new.trace (state_at (under ends peers None new))
  selection_cut_link new part =
      let g : Going air (linking (A id) (own_general miu)) (moment old) (moment new) part.notes = linking_of id (own_general miu) (moment old) (moment new) part.notes part.going in
      let none : NoneHands devices (moment old).world g.events = none_selecting (A id) g.events part.going.each part.going.fresh (moment old).world in (
        asks_for [],
        refl,
        front_so None os old new (Link id miu rw) [] part.notes idle may refl g refl none refl,
        part_stays ends old new g.events idle g.moment part.same none,
      )

  -- it was a tag
  module _ (mid : Air Device) (place : ℕ) (s : SelectsAt (A id) place (moment old) (moment mid)) where
    abbrev hs : List Note
    hs = s.selects.asked.notes

    tag_over : (d : Device) → is_tag d ≡ true → (general : List ℕ) → peer_next (seen_of d) general [] ≡ Over
    tag_over (T2 d) tag general = refl
    tag_over (T4 d) tag general = refl
    tag_over (Peer d) tag general = absurd cc
    tag_over (T5 p) tag general = refl
    tag_over (T3 p) tag general = refl

    tag_ends : (d : Device) → is_tag d ≡ true → (general : List ℕ) → LinkEnds count general (Ok (seen_of d)) [] answers.WrongKind
    tag_ends (T2 d) tag general = refl
    tag_ends (T4 d) tag general = refl
    tag_ends (Peer d) tag general = absurd cc
    tag_ends (T5 p) tag general = refl
    tag_ends (T3 p) tag general = refl

    no_break : 0 < breaks s.selects.asked.going.events → ⊥
    no_break some = let is : ◌≡◌ {A = Result SeenKind PollFault} (Ok (seen_of s.device)) (Err faults.FieldLost) = s.selects.lost.1 some in cc

    pub tag_link : is_tag s.device ≡ true → Obeyed (under ends peers None old) (under ends peers None mid) (Link id miu rw) answers.WrongKind
    tag_link tag =
        let g : Going air (linking (A id) (own_general miu)) (moment old) (moment mid) hs = linking_of id (own_general miu) (moment old) (moment mid) hs s.selects.asked.going in
        let none : NoneHands devices (moment old).world g.events = none_selecting (A id) g.events s.selects.asked.going.each s.selects.asked.going.fresh (moment old).world in
        let world : (moment mid).world ≡ replay air (moment old).world g.events = ap (λ (t : Moment (World Device)). t.world) g.moment in
        let over : linking (A id) (own_general miu) hs ≡ Over =
        ap (linking (A id) (own_general miu)) (sym (append-nil hs)) ∙ link_asks.behind (A id) (own_general miu) (seen_of s.device) hs [] s.selects.told ∙ tag_over s.device tag (own_general miu) in
        let law : LinkingLaw st no_joins id miu rw g.events answers.WrongKind = record {
          tells = record {
            polled = Ok (seen_of s.device);
            behind = [];
            selected = ap (selecting (A id)) s.selects.asked.going.known ∙ s.selects.told;
            cause = tt;
            ends = tag_ends s.device tag (own_general miu);
            lost = (
              λ lost. absurd
                  (elim lost [
                    | inl dark ↦ (let clash : answers.WrongKind ≡ answers.FieldLost = dark in cc)
                    | inr ended ↦
                        (let clash : answers.WrongKind ≡ answers.LinkEnded losses.FieldLost = ended in cc)
                  ]),
              λ broken. absurd (no_break broken),
            );
            noisy = λ six. absurd (let clash : answers.WrongKind ≡ answers.LinkEnded losses.SixBad = six in cc);
            calm = λ none. tt;
          };
          begins = tt;
          stays = stable_behind (moment old).world g.events ends none (stores_stay old mid g.events world s.selects.asked.same);
          opens = λ n linked. absurd (let clash : answers.WrongKind ≡ answers.Linked n = linked in cc);
        } in
        asks_so NoStore os old mid (Link id miu rw) [] hs answers.WrongKind idle places tt may refl g over refl none (plain_so st id miu rw g.events answers.WrongKind (λ n linked. cc)) law
        s.selects.asked.same

    abbrev old_at : OldAt old.listeners place s.device
    old_at =
        old_stands old.listeners s.stands.before s.device s.stands.behind place
        (sym s.selects.asked.same ∙ ap (λ (w : World Device). map kept w.listeners) s.stands.world) s.stands.at

    abbrev stands : StandsAt id old.listeners place
    stands = record { before = old_at.before; device = old_at.device; behind = old_at.behind; split = old_at.split; at = old_at.at; named = ap (λ (k : Kept). k.fixed.id) old_at.same ∙ s.named }

    pub served_there : is_tag s.device ≡ false → IsServed (get_or peers.numbers place None) (get_or ends place None)
    served_there peer =
        subst (λ k. IsServed (get_or peers.numbers k None) (get_or ends k None)) stands.at
        (served_at stands.before stands.device stands.behind peers.numbers ends (sym (same_tag s.device stands.device (ap (λ (k : Kept). k.fixed.kind) (sym old_at.same))) ∙ peer)
        (subst (λ ls. AreServed ls peers.numbers ends) stands.split places.served))

    -- an end that gives as many PDUs as fit
    abbrev most : FarEnd → Choosing FarEnd
    most end = record { end = end; numbers = [] }

    -- It was a peer, and ATR_REQ was asked of it.
    module _ (peer : is_tag s.device ≡ false) (far after : FarEnd) (there : get_or ends place None ≡ Some far) (new : Air Device) (result : Result (InitState × ArrayVec ℕ) EndCause)
        (o : Opens restarts (Answers serving 0) mid far new after (own_general miu) place s.device result) where
      told : selecting (A id) hs ≡ Told (Ok kinds.Peer) []
      told = s.selects.told ∙ ap (λ (k : DeviceKind). Told (Ok (seen_by k)) []) (peer_kind s.device peer)

      pub fg : FarGoing devices device_linked peer_ends (linking (A id) (own_general miu)) (moment old) (moment new) (hs ++ o.notes) place ends (most far) (most after)
      fg =
          (opens_far restarts (Answers serving 0) peer_ends most ends_table (ends_step serving) (A id) (own_general miu) place s.device result old mid new far after hs s.selects.asked.going told
          s.stands peer o ends).0

      abbrev pub given : Given
      given = record { asked = []; joins = no_joins }

      abbrev es : List Event
      es = fg.events

      trace : new.trace ≡ es
      trace = ap (λ (m : Moment WholeWorld). m.trace) fg.moment ∙ ap (λ t. t ++ es) idle.quiet

      abbrev pub ends_then : Ends
      ends_then = slice_set ends place (Some after)

      -- the world behind it
      world : world_after st no_joins (Link id miu rw) es ≡ seen device_linked peer_ends (moment new).world ends_then []
      world =
          let W : Ends → WholeWorld = λ xs. with_numbers (replay bench_air (seen device_linked peer_ends (moment old).world xs []) es) [] in
          ap W (sym (far_there ends place far there)) ∙ sym (ap (λ (m : Moment WholeWorld). with_numbers m.world []) fg.moment)
          ∙ ap (λ xs. seen device_linked peer_ends (moment new).world xs []) (far_set ends place far after there)

      front_at : (told_so : Option Told_answer) (p : Peers) (l : Option OpenLink) → p ≡ peers_after st no_joins (Link id miu rw) es told_so → l ≡ link_after st no_joins (Link id miu rw) es told_so
          → FrontOf st given (Link id miu rw) es told_so (state_at (record { air = new; ends = ends_then; peers = p; link = l }))
      front_at told_so p l peers_so link_so =
          let T : Ends → Type 0 = λ xs. AreTurns bench_air (seen device_linked peer_ends (moment old).world xs []) es in
          let S : WholeWorld → List Fate → Peers → Option OpenLink → State = λ w q x y. record { world = w; queue = q; peers = x; link = y } in
          let w : WholeWorld = world_after st no_joins (Link id miu rw) es in
          record {
            accepted = may;
            asks = refl;
            takes = refl;
            turns = subst T (far_there ends place far there) fg.turns;
            fates = fg.fates;
            each = fg.each;
            after = ap (λ x. S x new.fates p l) (sym world) ∙ ap (λ q. S w q p l) (ap (λ (m : Moment WholeWorld). m.queue) fg.moment) ∙ ap (λ x. S w (queue_after old.fates es) x l) peers_so
                ∙ ap (S w (queue_after old.fates es) (peers_after st no_joins (Link id miu rw) es told_so)) link_so;
          }

      same : map kept new.listeners ≡ map kept old.listeners
      same = o.leaves.same ∙ s.selects.asked.same

      as_many : length old.listeners ≡ length new.listeners
      as_many = sym (length-map old.listeners kept) ∙ sym (ap length same) ∙ length-map new.listeners kept

      keeps_end : KeepsEnd far after
      keeps_end = times_keep (own_general miu) o.times far after o.restarted

      -- nothing that stays changed
      stays : stable (world_after st no_joins (Link id miu rw) es) ≡ stable st.world
      stays =
          let S : List StablePart → Ends → Stable = λ ds xs. record { devices = ds; ends = xs } in
          ap stable world ∙ ap (λ ds. S ds (map (rests peer_ends) (shown device_linked peer_ends new.listeners ends_then)))
          (stores_kept new.listeners ∙ ap (map stable_in) same ∙ sym (stores_kept old.listeners))
          ∙ ap (S (map stable_of old.listeners)) (set_rests new.listeners ends place far after there keeps_end.rests ∙ rests_alike new.listeners old.listeners ends (sym as_many))

      places_at : (p : Peers) (l : Option OpenLink) → p.numbers ≡ peers.numbers → p.gone ≡ peers.gone → HasPlaces (record { air = new; ends = ends_then; peers = p; link = l })
      places_at p l numbers placed = record {
        ends = length-set ends place (Some after) ∙ places.ends ∙ as_many;
        numbers = ap length numbers ∙ places.numbers ∙ as_many;
        served = subst (λ ps. AreServed new.listeners ps ends_then) (sym numbers) (served_as old.listeners new.listeners peers.numbers ends_then (kinds_of new.listeners old.listeners same)
            (set_served old.listeners peers.numbers ends place far after there keeps_end places.served));
        apart = subst (λ gs. AreNumbered (length gs) p.numbers) (sym placed) (subst (AreNumbered (next_number peers)) (sym numbers) places.apart);
      }

      -- what happened is the selection and what came behind it
      parts : es ≡ s.selects.asked.going.events ++ o.speaks.events
      parts =
          sym trace ∙ o.speaks.trace
          ∙ ap (λ t. t ++ o.speaks.events) (ap (λ (m : Moment (World Device)). m.trace) s.selects.asked.going.moment ∙ ap (λ t. t ++ s.selects.asked.going.events) idle.quiet)

      -- where all passed ATR_REQ was answered
      heard_whole : noise o.speaks.events ≡ 0 → AllByRecursion IsAnswered o.notes
      heard_whole none =
          subst (AllByRecursion IsAnswered) o.speaks.known
          (whole_notes (atr_next (own_general miu)) (λ ns e. never_light (stand 0 (atr_frame (own_general miu) ∷ []) ns) e) [] o.speaks.events o.speaks.each none (o.calm none))

      tells_by : (answer : Told_answer) → (IsFieldLost answer → result ≡ Err causes.FieldLost) → (result ≡ Err causes.FieldLost → IsFieldLost answer)
          → (answer ≡ answers.LinkEnded losses.SixBad → result ≡ Err causes.SixBad)
          → TellsStanding (λ a. a ≡ answers.Linked count) TellsLoss (stand 0 (atr_frame (own_general miu) ∷ []) o.notes) answer → LinkTells (A id) old.listeners count (own_general miu) es answer
      tells_by answer lost by six e =
          let first : List Event = s.selects.asked.going.events in
          record {
            polled = Ok kinds.Peer;
            behind = o.notes;
            selected = ap (selecting (A id)) fg.known ∙ selecting_more (A id) hs o.notes (Ok kinds.Peer) told;
            cause = tt;
            ends = e;
            lost = (
              λ l. subst (λ xs. 0 < breaks xs) (sym parts) (more_breaks first o.speaks.events (o.lost.0 (lost l))),
              λ some. by (o.lost.1 (rest_breaks first o.speaks.events no_break (subst (λ xs. 0 < breaks xs) parts some))),
            );
            noisy = λ is. subst (λ xs. 0 < noise xs) (sym parts) (more_noise first o.speaks.events (o.noisy (six is)));
            calm = λ none. heard_whole (no_more_noise first o.speaks.events (subst (λ xs. noise xs ≡ 0) parts none));
          }

      abbrev Begins : OpenLink → Type 0
      Begins l = BeginsAt l (own_general miu) peers.numbers st.world.fars (world_after st no_joins (Link id miu rw) es).fars

      obeyed_at : (answer : Told_answer) (p : Peers) (l : Option OpenLink) → p ≡ peers_after st no_joins (Link id miu rw) es (Some answer)
          → l ≡ link_after st no_joins (Link id miu rw) es (Some answer)
          → p.numbers ≡ peers.numbers → p.gone ≡ peers.gone → LinkTells (A id) old.listeners count (own_general miu) es answer → due_at (stand 0 (atr_frame (own_general miu) ∷ []) o.notes) ≡ Over
          → IfLinked (link_after st no_joins (Link id miu rw) es (Some answer)) Begins (Unit {0}) → ((n : ℕ) → answer ≡ answers.Linked n → IsSome l)
          → KeepsLink (record { air = new; ends = ends_then; peers = p; link = l }) → Obeyed (under ends peers None old) (record { air = new; ends = ends_then; peers = p; link = l }) (Link id miu rw)
          answer
      obeyed_at answer p l peers_so link_so numbers placed tells done begins opens keeps =
          let N : Machines = record { air = new; ends = ends_then; peers = p; link = l } in
          let F : List Event → Type 0 = λ xs. FrontOf st given (Link id miu rw) xs (Some answer) (state_at N) in
          let L : List Event → Type 0 = λ xs. LinkingLaw st no_joins id miu rw xs answer in
          let law : L es = record { tells = tells; begins = begins; stays = stays; opens = λ n linked. subst (λ o. IsSome o) link_so (opens n linked) } in
          record {
            given = given;
            joined = refl;
            front = subst F (sym trace) (front_at (Some answer) p l peers_so link_so);
            over = ap (λ xs. linking (A id) (own_general miu) (receptions xs)) trace ∙ ap (linking (A id) (own_general miu)) fg.known
                ∙ link_asks.behind (A id) (own_general miu) kinds.Peer hs o.notes told ∙ done;
            answered = subst L (sym trace) law;
            tame = subst AreTame (sym same) idle.tame;
            tidy = o.leaves.tidy (going_tidy (λ ks. asks (selecting (A id) ks)) (moment old) (moment mid) hs s.selects.asked.going idle.tidy);
            places = places_at p l numbers placed;
            link = keeps;
          }

      -- no answer came
      pub ended_link : (cause : EndCause) (loss : _) → result ≡ Err cause → NotOpened cause (Ok (answers.LinkEnded loss))
          → Obeyed (under ends peers None old) (record { air = new; ends = ends_then; peers = peers; link = None }) (Link id miu rw) (answers.LinkEnded loss)
      ended_link causes.FieldLost loss is answer =
          let same : ◌≡◌ {A = Result Told_answer ObeyFault} (Ok (answers.LinkEnded loss)) (Ok (answers.LinkEnded losses.FieldLost)) = answer in
          let same_loss : loss ≡ losses.FieldLost = cc in
          let e = lost_ends count o.notes (stand 0 (atr_frame (own_general miu) ∷ []) o.notes) (subst (AnswersAtr true o.notes (stand 0 (atr_frame (own_general miu) ∷ []) o.notes)) is o.answers) in
          let P : _ → Type 0 = λ x. Obeyed (under ends peers None old) (record { air = new; ends = ends_then; peers = peers; link = None }) (Link id miu rw) (answers.LinkEnded x) in
          subst P (sym same_loss)
          (obeyed_at (answers.LinkEnded losses.FieldLost) peers None refl refl refl refl
          (tells_by (answers.LinkEnded losses.FieldLost) (λ l. is) (λ r. inr refl) (λ six. absurd (let clash : answers.LinkEnded losses.FieldLost ≡ answers.LinkEnded losses.SixBad = six in cc)) e.0)
          e.1 tt (λ n linked. absurd (let clash : answers.LinkEnded losses.FieldLost ≡ answers.Linked n = linked in cc)) tt)
      ended_link causes.SixBad loss is answer =
          let same : ◌≡◌ {A = Result Told_answer ObeyFault} (Ok (answers.LinkEnded loss)) (Ok (answers.LinkEnded losses.SixBad)) = answer in
          let same_loss : loss ≡ losses.SixBad = cc in
          let e = six_ends count o.notes (stand 0 (atr_frame (own_general miu) ∷ []) o.notes) (subst (AnswersAtr true o.notes (stand 0 (atr_frame (own_general miu) ∷ []) o.notes)) is o.answers) in
          let P : _ → Type 0 = λ x. Obeyed (under ends peers None old) (record { air = new; ends = ends_then; peers = peers; link = None }) (Link id miu rw) (answers.LinkEnded x) in
          subst P (sym same_loss)
          (obeyed_at (answers.LinkEnded losses.SixBad) peers None refl refl refl refl
          (tells_by (answers.LinkEnded losses.SixBad)
          (λ l. absurd
          (elim l [
            | inl dark ↦ (let clash : answers.LinkEnded losses.SixBad ≡ answers.FieldLost = dark in cc)
            | inr ended ↦
                (let clash : answers.LinkEnded losses.SixBad ≡ answers.LinkEnded losses.FieldLost = ended in cc)
          ]))
          (λ r. absurd (let clash : ◌≡◌ {A = Result (InitState × ArrayVec ℕ) EndCause} (Err causes.SixBad) (Err causes.FieldLost) = sym is ∙ r in cc)) (λ six. is) e.0) e.1 tt
          (λ n linked. absurd (let clash : answers.LinkEnded losses.SixBad ≡ answers.Linked n = linked in cc)) tt)
      ended_link causes.Protocol loss is answer = absurd answer
      ended_link causes.Memory loss is answer = absurd (let clash : ◌≡◌ {A = Result Told_answer ObeyFault} (Ok (answers.LinkEnded loss)) (Err obey_faults.Memory) = answer in cc)

      -- memory was wanting
      pub cut_link : CutFront no_joins st (Link id miu rw) new.trace (state_at (record { air = new; ends = ends_then; peers = peers; link = None }))
      cut_link =
          let N : Machines = record { air = new; ends = ends_then; peers = peers; link = None } in
          let C : List Event → Type 0 = λ xs. CutFront no_joins st (Link id miu rw) xs (state_at N) in
          let cut : C es = (given, refl, front_at None peers None refl refl, stays) in
          subst C (sym trace) cut

      -- ATR_RES came, and the link is open
      module _ (n : ℕ) (numbered : get_or peers.numbers place None ≡ Some n) (p : InitState × ArrayVec ℕ) (is : result ≡ Ok p) where
        opened_so : Opened new place s.device p.0 p.1.items
        opened_so = subst (OpeningEnds new place s.device) is o.ends

        abbrev link_now : OpenLink
        link_now = record { peer = n; initiator = p.0; client = new_client miu rw p.1.items; slots = fresh_slots }

        sound : AreSound (map kept (stands.before ++ stands.device ∷ stands.behind))
        sound = subst (λ xs. AreSound (map kept xs)) stands.split idle.tame.sound

        under_id : placed_under id old.listeners peers.numbers ≡ Some n
        under_id =
            let many : length peers.numbers ≡ length (stands.before ++ stands.device ∷ stands.behind) = places.numbers ∙ ap length stands.split in
            ap (λ ls. placed_under id ls peers.numbers) stands.split ∙ under_at stands.before stands.device stands.behind id peers.numbers stands.named sound many
            ∙ ap (λ k. get_or peers.numbers k None) stands.at ∙ numbered

        with_id : device_with id old.listeners ≡ Some stands.device
        with_id = has_id old (A id) place idle stands

        link_so : Some link_now ≡ link_after st no_joins (Link id miu rw) es (Some (answers.Linked count))
        link_so =
            let target : device_target s.device ≡ device_target stands.device = ap (λ (k : Kept). k.fixed.target) (sym old_at.same) in
            let L : InitState → List ℕ → Option OpenLink = λ i told_bytes. Some (record { peer = n; initiator = i; client = new_client miu rw told_bytes; slots = fresh_slots }) in
            ap (λ i. L i p.1.items) opened_so.initiator ∙ ap (L (waiting (device_target s.device).lr)) opened_so.general ∙ ap (λ t. Some (link_to n t miu rw)) target
            ∙ sym (ap (λ x. link_if x (device_with id old.listeners) miu rw) under_id ∙ ap (λ x. link_if (Some n) x miu rw) with_id)

        abbrev range : LinkRange
        range = record { peer = n; start = length far.service.accepted; end = None }

        first_at : IsFirstWith n place peers.numbers
        first_at = first_of (next_number peers) n place peers.numbers places.apart numbered

        counted : accepted_at n peers (shown device_linked peer_ends old.listeners ends) ≡ length far.service.accepted
        counted = accepted_shown n peers.numbers old.listeners ends places.numbers ∙ ap accepted_by (first_end n place peers.numbers first_at ends ∙ there)

        peers_so : with_link range peers ≡ peers_after st no_joins (Link id miu rw) es (Some (answers.Linked count))
        peers_so =
            let fars : Ends = shown device_linked peer_ends old.listeners ends in
            ap (λ k. with_link (record { peer = n; start = k; end = None }) peers) (sym counted) ∙ ap (λ l. begun_if l fars peers) link_so

        -- both ends have just begun
        accords : Accords link_now.client after
        accords =
            let some : 0 < o.times = subst (λ r. IfOk r (λ q. 0 < o.times)) is o.begun in
            let begun_by = last_begun (own_general miu) o.times far after o.restarted some in
            let one : IsServed (get_or peers.numbers place None) (get_or ends place None) = served_there peer in
            let it : one.end ≡ far = (let both : Some one.end ≡ Some far = sym one.stands ∙ there in cc) in
            let made = opened_so.made in
            begun_accords link_now.client after (record {
              client_before = fresh_end miu rw no_service;
              client_general = p.1.items;
              client_is = refl;
              client_readable = ap (λ b. readable_by (general b)) (opened_so.general ∙ ap (λ (t : TargetState). t.general) made.made) ∙ readable_said made.miu 0x0013;
              client_miu = may.size;
              client_window = may.window;
              peer_before = begun_by.0;
              peer_general = own_general miu;
              peer_is = begun_by.1;
              peer_readable = ap (λ (l : FarEnd). l.readable) begun_by.1 ∙ readable_said miu 0x0003;
              peer_miu = subst IsMiu (ap (λ (l : FarEnd). l.miu) it ∙ sym keeps_end.miu) one.miu;
              peer_window = subst IsWindow (ap (λ (l : FarEnd). l.window) it ∙ sym keeps_end.window) one.window;
              bound = ap (λ b. is_bound server_sap b) (keeps_end.bound ∙ sym (ap (λ (l : FarEnd). l.bound) it)) ∙ one.bound;
            })

        -- its peer's end began a new link, whether the state had all of it or what stays
        end_now : end_numbered n peers.numbers (world_after st no_joins (Link id miu rw) es).fars ≡ Some after
        end_now =
            ap (λ (w : WholeWorld). end_numbered n peers.numbers w.fars) world
            ∙ end_there n place peers.numbers new.listeners ends_then after first_at (places.numbers ∙ as_many) (linked_in new place p.0 opened_so.here) (set_there ends place far after there)

        begun_now : after ≡ restarted serving far (own_general miu)
        begun_now = begun_anew (own_general miu) o.times far after o.restarted (subst (λ r. IfOk r (λ q. 0 < o.times)) is o.begun)

        abbrev BegunFrom : FarEnd → Type 0
        BegunFrom e = end_numbered n peers.numbers (world_after st no_joins (Link id miu rw) es).fars ≡ Some (restarted serving e (own_general miu))

        begins_now : Begins link_now
        begins_now =
            subst (OfEnd BegunFrom) (sym (end_shown n place peers.numbers old.listeners ends far first_at places.numbers there)) (by_state (linked_at place old.listeners))
          where
            by_state : (v : Bool) → OfEnd BegunFrom (by_link peer_ends v (Some far))
            by_state true = end_now ∙ ap Some begun_now
            by_state false = end_now ∙ ap Some (begun_now ∙ sym (ends_table.anew far (own_general miu)))

        pub opened_link : Obeyed (under ends peers None old) (record { air = new; ends = ends_then; peers = with_link range peers; link = Some link_now }) (Link id miu rw) (answers.Linked count)
        opened_link =
            let e = opened_ends count o.notes (stand 0 (atr_frame (own_general miu) ∷ []) o.notes) p
            (subst (AnswersAtr true o.notes (stand 0 (atr_frame (own_general miu) ∷ []) o.notes)) is o.answers) in
            let stands_open : IsOpen new ends_then (with_link range peers) link_now = record {
              place = place;
              number = first_at;
              step = opened_so.here;
              going = ap (λ (i : InitState). over_at i.phase true) opened_so.initiator;
              end = after;
              above = set_there ends place far after there;
              accords = accords;
            } in
            obeyed_at (answers.Linked count) (with_link range peers) (Some link_now) peers_so link_so refl refl
            (tells_by (answers.Linked count)
            (λ l. absurd
            (elim l [
              | inl dark ↦ (let clash : answers.Linked count ≡ answers.FieldLost = dark in cc)
              | inr ended ↦
                  (let clash : answers.Linked count ≡ answers.LinkEnded losses.FieldLost = ended in cc)
            ]))
            (λ r. absurd (let clash : ◌≡◌ {A = Result (InitState × ArrayVec ℕ) EndCause} (Ok p) (Err causes.FieldLost) = sym is ∙ r in cc))
            (λ six. absurd (let clash : answers.Linked count ≡ answers.LinkEnded losses.SixBad = six in cc)) e.0) e.1 (subst (λ x. IfLinked x Begins (Unit {0})) link_so begins_now) (λ n linked. refl)
            stands_open
