-- What is due while devices are found, selected, read or written is no ATR_REQ, so no device without a link hands anything over.
use Rattle.std.proofs.Common.{◌≡◌, ℕ, suc, nat_lt, List, [], ◌∷◌, Bool, true, false, if◌then◌else◌, Option, Some, None, Ok, Err, refl, sym, ◌∙◌, ap, subst}
use Rattle.std.specs.List.{AllByRecursion}
use Rattle.nfc_base.specs.declared.event.Event.{Event}
use Rattle.nfc_base.specs.declared.event.Event.TheVariants.{Reset, Request, Answer, Clash}
use Rattle.nfc_base.specs.declared.event.Heard.{Heard}
use Rattle.nfc_base.specs.declared.event.Heard.TheVariants.{Whole, Collided, Damaged, Silent}
use Rattle.nfc_base.specs.declared.tag_link.AskFault.TheVariants.{SixBad}
use Rattle.nfc_base.specs.Signal.{Signal}
use Rattle.air_core.specs.Conversation.{Note, Lit, Got, Lost, Next, Asks}
use Rattle.air_core.proofs.DueWaits.{due_all}
use Rattle.air_core.proofs.Following.{same_asked, over_is_no_request}
use Rattle.far_air.specs.Quietly.{AreCalm}
use Rattle.isodep_link.specs.Asking as exchange
use Rattle.isodep_link.specs.Asking.{IsoStanding, Waits, Rests, Broken, Astray, goes_by}
use Rattle.isodep_link.specs.Activating.{rats, ats_code}
use Rattle.isodep_link.specs.IsoLinks.{bytes_of}
use Rattle.isodep_link.specs.Reader as reader
use Rattle.isodep_link.specs.Reader.{ReaderState, ReaderDoes, framed_next, block_next, reception, begun, request, waiting}
use Rattle.nfca_poll.specs.declared.fault.Picked.{Picked}
use Rattle.nfca_poll.specs.Enquiry.{enquiring}
use Rattle.nfca_poll.specs.Inventory.{inventory}
use Rattle.nfca_poll.specs.Rounds.{all_devices, device_of, finding, picking}
use Rattle.bench_script.specs.declared.command.DeviceId.{DeviceId}
use Rattle.bench_script.specs.declared.command.DeviceId.TheVariants as ids
use Rattle.bench_devices.specs.declared.polling.SeenKind.{SeenKind}
use Rattle.bench_devices.specs.declared.polling.SeenKind.TheVariants as seen
use Rattle.bench_devices.specs.Calm.{IsCalmDue, CalmFinding, CalmCrowding, CalmSelecting, IsCalmAsking, CalmReading, CalmWriting, CalmUnasked}
use Rattle.bench_devices.specs.CardAsking.{CardStanding, Activates, Exchanges, heard_ats, told_code, bad_again, card_noted, card_stand, card_due, tag_next}
use Rattle.bench_devices.specs.Crowding.{crowding}
use Rattle.bench_devices.specs.Device.{devices, device_linked}
use Rattle.bench_devices.specs.Keeping.{EachAsked}
use Rattle.bench_devices.specs.Polling as polls
use Rattle.bench_devices.specs.Polling.{Followed, Told, follows, selecting, finding_all, then_inventory, then_others, kind_by, seen_kind, asks}
use Rattle.bench_devices.specs.laws.PeerUpper.{no_atr_req}
use Rattle.bench_devices.specs.TagAsking.{then_asks, tag_due}
use Rattle.bench_devices.proofs.turns.CalmFrames.{IsOther, other_tech, block_other, read_other, write_other}
use Rattle.bench_devices.proofs.finding.CrowdSteps.{of_nfc_v}
use Rattle.bench_devices.proofs.finding.Following.{kind_asks, asks_same}
use Rattle.bench_devices.proofs.finding.FoundAll.{others_ask}
use Rattle.bench_devices.proofs.finding.Inventoried.{inventory_closes, inventory_other}
use Rattle.bench_devices.proofs.kinds.PeerLinks.{calm_frame}
use Rattle.bench_devices.proofs.finding.Searching.{IsCall, asks_calls, search_closes}
use Rattle.bench_devices.proofs.finding.SelectingKept.{due_asked}
use Rattle.bench_devices.proofs.finding.SelectingV.{next_inventory}

-- each request that is due is another frame
abbrev pub AsksOther : (List Note → Next) → Type 0
AsksOther due = (ns : List Note) (f : Signal) → due ns ≡ Asks f → IsOther f

are_calm : (es : List Event) → EachAsked IsOther es → AreCalm devices device_linked es
are_calm [] h = tt
are_calm (Reset ∷ es) h = are_calm es h
are_calm (Request f x ∷ es) h = (calm_frame f h.0, are_calm es h.1)
are_calm (Answer g x ∷ es) h = are_calm es h
are_calm (Clash g x ∷ es) h = are_calm es h

pub calm_due : (due : List Note → Next) → AsksOther due → IsCalmDue due
calm_due due other es each = are_calm es (due_asked IsOther due other [] es each)

-- calls
call_other : (f : Signal) → IsCall f → IsOther f
call_other f is = no_atr_req f is.begins

-- a search of all devices
find_by : (p : Followed (List Picked)) (f : Signal) → (asks p ≡ Asks f → IsOther f) → ((ks : List Note) → asks (follows inventory ks) ≡ Asks f → IsOther f) → asks (then_inventory p) ≡ Asks f
    → IsOther f
find_by (polls.Asks n) f first later e = first e
find_by (Told (Ok cards) ks) f first later e = later ks (sym (others_ask cards (follows inventory ks)) ∙ e)
find_by (Told (Err x) ks) f first later e = absurd (over_is_no_request f e)

find_other : AsksOther (λ ns. asks (finding_all ns))
find_other ns f e =
    find_by (follows finding ns) f (λ q. call_other f (asks_calls all_devices ns f (sym (asks_same finding (search_closes all_devices) ns) ∙ q)))
    (λ ks q. other_tech f (inventory_other ks f (sym (asks_same inventory inventory_closes ks) ∙ q))) e

pub calm_finding : CalmFinding
calm_finding = calm_due (λ ns. asks (finding_all ns)) find_other

-- a search of all Type 5 tags
pub calm_crowding : CalmCrowding
calm_crowding = calm_due crowding (λ ns f e. other_tech f (of_nfc_v ns f e))

-- selecting a device
select_other : (id : DeviceId) → AsksOther (λ ns. asks (selecting id ns))
select_other (ids.A i) ns f e =
    let same : asks (selecting (ids.A i) ns) ≡ enquiring (picking i) ns = kind_asks seen_kind (follows (picking i) ns) ∙ asks_same (picking i) (search_closes (device_of i)) ns in
    call_other f (asks_calls (device_of i) ns f (sym same ∙ e))
select_other (ids.V i) ns f e = other_tech f (ap (λ (g : Signal). g.tech) (next_inventory i ns f e))

pub calm_selecting : CalmSelecting
calm_selecting id = calm_due (λ ns. asks (selecting id ns)) (select_other id)

-- What is sent to a Type 4 tag is RATS, and blocks.
abbrev SendsOther : CardStanding → Type 0
SendsOther (Activates bad) = Unit {0}
SendsOther (Exchanges (Waits i f cs)) = IsOther f
SendsOther (Exchanges (Rests i)) = Unit {0}
SendsOther (Exchanges (Broken e)) = Unit {0}
SendsOther (Exchanges Astray) = Unit {0}

asks_blocks : (i : ReaderState) (cs : List (List ℕ)) → SendsOther (Exchanges (exchange.asks i cs))
asks_blocks i [] = tt
asks_blocks i (c ∷ cs) = block_other (request (begun i c).core)

goes_blocks : (i : ReaderState) (does : ReaderDoes) (cs : List (List ℕ)) → SendsOther (Exchanges (goes_by i (framed_next does) cs))
goes_blocks i (reader.Asks b) cs = block_other b
goes_blocks i (reader.Gives xs) cs = asks_blocks i cs
goes_blocks i reader.GivesUp cs = tt
goes_blocks i reader.Refuses cs = tt

module _ (commands : List (List ℕ)) where
  told_sends : (o : Option ℕ) → SendsOther (told_code commands o)
  told_sends None = tt
  told_sends (Some code) = asks_blocks (waiting code) commands

  bad_sends : (bad : ℕ) → SendsOther (bad_again bad)
  bad_sends bad = by_count (nat_lt bad 5)
    where
      by_count : (v : Bool) → SendsOther (if v then Activates (suc bad) else Exchanges (Broken SixBad))
      by_count true = tt
      by_count false = tt

  heard_sends : (bad : ℕ) (h : Heard) → SendsOther (heard_ats commands bad h)
  heard_sends bad (Whole f) = told_sends (ats_code f)
  heard_sends bad (Collided f) = bad_sends bad
  heard_sends bad Damaged = bad_sends bad
  heard_sends bad Silent = bad_sends bad

  noted_sends : (s : CardStanding) (n : Note) → SendsOther s → SendsOther (card_noted commands s n)
  noted_sends (Activates bad) Lit h = tt
  noted_sends (Activates bad) (Got g) h = heard_sends bad g
  noted_sends (Activates bad) Lost h = tt
  noted_sends (Exchanges (Waits i f cs)) Lit h = tt
  noted_sends (Exchanges (Waits i f cs)) (Got g) h = goes_blocks (block_next i (reception g)).state (block_next i (reception g)).does cs
  noted_sends (Exchanges (Waits i f cs)) Lost h = tt
  noted_sends (Exchanges (Rests i)) n h = tt
  noted_sends (Exchanges (Broken e)) n h = tt
  noted_sends (Exchanges Astray) n h = tt

  stand_sends : (ns : List Note) (s : CardStanding) → SendsOther s → SendsOther (card_stand commands s ns)
  stand_sends [] s h = h
  stand_sends (n ∷ ns) s h = stand_sends ns (card_noted commands s n) (noted_sends s n h)

rats_other : IsOther rats
rats_other = refl

card_other : (s : CardStanding) (f : Signal) → SendsOther s → card_due s ≡ Asks f → IsOther f
card_other (Activates bad) f h e = subst IsOther (same_asked rats f e) rats_other
card_other (Exchanges (Waits i g cs)) f h e = subst IsOther (same_asked g f e) h
card_other (Exchanges (Rests i)) f h e = absurd (over_is_no_request f e)
card_other (Exchanges (Broken x)) f h e = absurd (over_is_no_request f e)
card_other (Exchanges Astray) f h e = absurd (over_is_no_request f e)

-- what is asked of a device, whatever it is seen to be
tag_other : (kind : SeenKind) (commands : List Signal) → AllByRecursion IsOther commands → AsksOther (tag_next kind commands)
tag_other seen.T2 commands all ns f e = due_all IsOther commands all ns f e
tag_other seen.T4 commands all ns f e = card_other (card_stand (bytes_of commands) (Activates 0) ns) f (stand_sends (bytes_of commands) ns (Activates 0) tt) e
tag_other seen.T5 commands all ns f e = due_all IsOther commands all ns f e
tag_other seen.Peer commands all ns f e = absurd (over_is_no_request f e)

-- behind its selection
behind_other : (commands : List Signal) → AllByRecursion IsOther commands → (p : Followed SeenKind) (f : Signal) → (asks p ≡ Asks f → IsOther f) → then_asks commands p ≡ Asks f → IsOther f
behind_other commands all (polls.Asks n) f first e = first e
behind_other commands all (Told (Ok kind) ks) f first e = tag_other kind commands all ks f e
behind_other commands all (Told (Err x) ks) f first e = absurd (over_is_no_request f e)

due_other : (id : DeviceId) (commands : List Signal) → AllByRecursion IsOther commands → AsksOther (tag_due id commands)
due_other id commands all ns f e = behind_other commands all (selecting id ns) f (λ q. select_other id ns f q) e

calm_asking : (commands : List Signal) → AllByRecursion IsOther commands → IsCalmAsking commands
calm_asking commands all = ((λ kind. calm_due (tag_next kind commands) (tag_other kind commands all)), (λ id. calm_due (tag_due id commands) (due_other id commands all)))

pub calm_reading : CalmReading
calm_reading d commands is = calm_asking commands (read_other d commands is)

pub calm_writing : CalmWriting
calm_writing message d commands is = calm_asking commands (write_other message d commands is)

pub calm_unasked : CalmUnasked
calm_unasked = calm_asking [] tt
