-- What happened decides what a command that polls answers.
use Rattle.bench_world.specs.Forging.{ForgeEnds, ForgeTells}
use Rattle.bench_world.specs.Rawing.{RawEnds, RawTells}
use Rattle.std.proofs.Common.{◌≡◌, ℕ, List, [], ◌∷◌, Option, Some, None, Result, Ok, Err, refl, sym, ◌∙◌, ap, subst}
use Rattle.nfc_base.specs.Signal.{Signal}
use Rattle.nfc_base.specs.declared.event.Event.{Event}
use Rattle.nfc_base.specs.declared.tag_link.AskFault.TheVariants as asking
use Rattle.air_core.specs.Conversation.{Note}
use Rattle.air_core.specs.Waits.{Standing, Asking, Broken, Astray, stand}
use Rattle.nfca_poll.specs.declared.fault.Picked.{Picked}
use Rattle.nfca_poll.specs.declared.fault.PollFault.{PollFault}
use Rattle.nfca_poll.specs.declared.fault.PollFault.TheVariants as faults
use Rattle.nfca_poll.specs.declared.inventory.Vcrowd.{Vcrowd}
use Rattle.bench_script.specs.declared.command.DeviceId.{DeviceId}
use Rattle.bench_devices.specs.declared.device.Device.{Device}
use Rattle.bench_world.specs.declared.entry.Answer.{Answer}
use Rattle.bench_world.specs.declared.entry.Answer.TheVariants as answers
use Rattle.bench_devices.specs.Device.{device_store, how_of, size_of, kind_of}
use Rattle.bench_devices.proofs.kinds.TagOrPeer.{one_if}
use Rattle.bench_script.specs.DeviceIds.{bytes_of}
use Rattle.bench_devices.specs.Polling.{Told}
use Rattle.bench_devices.specs.Placed.{device_with, OfPlaced}
use Rattle.bench_world.specs.Reading.{Tells, TellsOf}
use Rattle.bench_world.specs.Writing.{TellsWrite}
use Rattle.isodep_link.specs.Asking as exchange
use Rattle.bench_devices.specs.declared.polling.SeenKind.{SeenKind}
use Rattle.bench_devices.specs.declared.polling.SeenKind.TheVariants as seen
use Rattle.bench_devices.specs.CardAsking.{CardStanding, Activates, Exchanges, card_stands}
use Rattle.bench_world.specs.Answering.{TellsFault, TagEnds, TagTells, TellsFound, TagsTell, tags_answer, ThreesTell, sensed_answer}
use Rattle.bench_devices.specs.Answering.{TellsStanding, TellsExchange, TellsCard, TellsBy, InventoryEnds, FindEnds, FindTells}
use Rattle.dep_link.specs.Activating.{atr_frame}
use Rattle.bench_devices.specs.Sensing.{found_if, has_three}
use Rattle.bench_world.specs.Threes.{ThreeEnds, ThreeTells}
use Rattle.bench_world.specs.Calls.{IfLinked, IsTold}
use Rattle.bench_world.specs.Links.{OpenLink}
use Rattle.bench_world.specs.Linking.{TellsLoss, LinkEnds, LinkTells}
use Rattle.bench_world.proofs.lines.OneForm.{one_telling}
use Rattle.bench_world.proofs.tags.WriteTelling.{one_written}

-- at most one answer is so
abbrev AtMostOne : (Answer → Type 0) → Type 0
AtMostOne is = (a b : Answer) → is a → is b → a ≡ b

-- by where the waits stand
one_standing : (Tells : Answer → Type 0) → AtMostOne Tells → (s : Standing) → AtMostOne (TellsStanding Tells TellsFault s)
one_standing Tells one (Asking bad []) a b p q = one a b p q
one_standing Tells one (Asking bad (c ∷ cs)) a b p q = absurd p
one_standing Tells one (Broken asking.FieldLost cs) a b p q = p ∙ sym q
one_standing Tells one (Broken asking.SixBad cs) a b p q = p ∙ sym q
one_standing Tells one (Broken asking.Memory cs) a b p q = absurd p
one_standing Tells one (Broken asking.Protocol cs) a b p q = absurd p
one_standing Tells one Astray a b p q = absurd p

-- and of a Type 4 tag, by where its activation and its exchanges stand
one_exchange : (Tells : Answer → Type 0) → AtMostOne Tells → (s : exchange.IsoStanding) → AtMostOne (TellsExchange Tells TellsFault s)
one_exchange Tells one (exchange.Waits i f cs) a b p q = absurd p
one_exchange Tells one (exchange.Rests i) a b p q = one a b p q
one_exchange Tells one (exchange.Broken asking.FieldLost) a b p q = p ∙ sym q
one_exchange Tells one (exchange.Broken asking.SixBad) a b p q = p ∙ sym q
one_exchange Tells one (exchange.Broken asking.Memory) a b p q = absurd p
one_exchange Tells one (exchange.Broken asking.Protocol) a b p q = absurd p
one_exchange Tells one exchange.Astray a b p q = absurd p

one_card : (Tells : Answer → Type 0) → AtMostOne Tells → (s : CardStanding) → AtMostOne (TellsCard Tells TellsFault s)
one_card Tells one (Activates bad) a b p q = absurd p
one_card Tells one (Exchanges s) a b p q = one_exchange Tells one s a b p q

one_told : (kind : SeenKind) (Tells : Answer → Type 0) → AtMostOne Tells → (asked : List Signal) (ns : List Note) → AtMostOne (TellsBy kind Tells TellsFault asked ns)
one_told seen.T2 Tells one asked ns a b p q = one_standing Tells one (stand 0 asked ns) a b p q
one_told seen.T4 Tells one asked ns a b p q = one_card Tells one (card_stands asked ns) a b p q
one_told seen.T5 Tells one asked ns a b p q = one_standing Tells one (stand 0 asked ns) a b p q
one_told seen.Peer Tells one asked ns a b p q = one a b p q

same_some : (a b : Answer) → ◌≡◌ {A = Option Answer} (Some a) (Some b) → a ≡ b
same_some a b e = cc

-- what was told is one thing
pub one_end : {X : Type 0} (r q : Result X PollFault) (ns ks : List Note) → Told r ns ≡ Told q ks → (r ≡ q) × (ns ≡ ks)
one_end r q ns ks e = (cc, cc)

-- A command of a tag has one answer, where what it tells of a device is one thing.
module _ (Tells : Device → Answer → Type 0) (one : (d : Device) → AtMostOne (Tells d)) (id : DeviceId) (ds : List Device) (asked : List Signal) where
  one_placed : (o : Option Device) → AtMostOne (λ answer. OfPlaced (λ d. Tells d answer) o)
  one_placed None a b p q = absurd p
  one_placed (Some d) a b p q = one d a b p q

  one_tag_end : (r : Result SeenKind PollFault) (behind : List Note) → AtMostOne (TagEnds Tells id ds asked r behind)
  one_tag_end (Ok kind) behind a b p q =
      one_told kind (λ answer. OfPlaced (λ d. Tells d answer) (device_with (bytes_of id) ds)) (one_placed (device_with (bytes_of id) ds)) asked behind a b p q
  one_tag_end (Err e) behind a b p q = same_some a b (sym p ∙ q)

  pub one_tag : (events : List Event) (a b : Answer) → TagTells Tells id ds asked events a → TagTells Tells id ds asked events b → a ≡ b
  one_tag events a b p q =
      let same = one_end q.polled p.polled q.behind p.behind (sym q.selected ∙ p.selected) in
      let ends : TagEnds Tells id ds asked p.polled p.behind b =
      subst (λ ns. TagEnds Tells id ds asked p.polled ns b) same.1 (subst (λ r. TagEnds Tells id ds asked r q.behind b) same.0 q.ends) in
      one_tag_end p.polled p.behind a b p.ends ends

-- A read has one answer.
one_telling_of : (d : Device) → AtMostOne (TellsOf d)
one_telling_of d a b p q =
    one_if (kind_of d) (Tells (how_of d) (size_of d) (device_store d)) answers.WrongKind (one_telling (how_of d) (size_of d) (device_store d)) a b p q

pub one_read : (id : DeviceId) (ds : List Device) (asked : List Signal) (events : List Event) (a b : Answer) → TagTells TellsOf id ds asked events a → TagTells TellsOf id ds asked events b → a ≡ b
one_read id ds asked events a b p q = one_tag TellsOf one_telling_of id ds asked events a b p q

-- A write has one answer.
pub one_write : (id : DeviceId) (ds : List Device) (message : List ℕ) (asked : List Signal) (events : List Event) (a b : Answer) → TagTells (TellsWrite message) id ds asked events a
    → TagTells (TellsWrite message) id ds asked events b → a ≡ b
one_write id ds message asked events a b p q = one_tag (TellsWrite message) (one_written message) id ds asked events a b p q

-- A search has one answer.
module _ (ds : List Device) where
  one_inventory_end : (cards : List Picked) (others : Result Vcrowd PollFault) (es : List Event) → AtMostOne (InventoryEnds TellsFound ds cards others es)
  one_inventory_end cards (Ok others) es a b p q = p.1 ∙ sym q.1
  one_inventory_end cards (Err faults.Nobody) es a b p q = absurd p
  one_inventory_end cards (Err faults.Disturbed) es a b p q = p.0 ∙ sym q.0
  one_inventory_end cards (Err faults.FieldLost) es a b p q = p ∙ sym q
  one_inventory_end cards (Err faults.Memory) es a b p q = absurd p
  one_inventory_end cards (Err faults.NotFound) es a b p q = absurd p
  one_inventory_end cards (Err faults.BadAnswer) es a b p q = absurd p

  one_find_end : (found : Result (List Picked) PollFault) (behind : List Note) (es : List Event) → AtMostOne (FindEnds TellsFound ds found behind es)
  one_find_end (Ok cards) behind es a b p q =
      let same : q.2 ≡ p.2 = (one_end q.2 p.2 [] [] (sym q.3 ∙ p.3)).0 in
      one_inventory_end cards p.2 es a b p.4 (subst (λ o. InventoryEnds TellsFound ds cards o es b) same q.4)
  one_find_end (Err faults.Nobody) behind es a b p q = absurd p
  one_find_end (Err faults.Disturbed) behind es a b p q = p.0 ∙ sym q.0
  one_find_end (Err faults.FieldLost) behind es a b p q = p ∙ sym q
  one_find_end (Err faults.Memory) behind es a b p q = absurd p
  one_find_end (Err faults.NotFound) behind es a b p q = absurd p
  one_find_end (Err faults.BadAnswer) behind es a b p q = absurd p

  pub one_find : (events : List Event) (a b : Answer) → FindTells TellsFound ds events a → FindTells TellsFound ds events b → a ≡ b
  one_find events a b p q =
      let same = one_end q.found p.found q.behind p.behind (sym q.searched ∙ p.searched) in
      let ends : FindEnds TellsFound ds p.found p.behind events b =
      subst (λ ns. FindEnds TellsFound ds p.found ns events b) same.1 (subst (λ r. FindEnds TellsFound ds r q.behind events b) same.0 q.ends) in
      one_find_end p.found p.behind events a b p.ends ends

-- A search for Type 5 tags has one answer.
pub one_tags : (ds : List Device) (events : List Event) (a b : Answer) → TagsTell ds events a → TagsTell ds events b → a ≡ b
one_tags ds events a b p q =
    let same : p.found ≡ q.found = p.tells.told ∙ sym q.tells.told in
    one_some a b (sym p.answered ∙ ap tags_answer same ∙ q.answered)
  where
    one_some : (a b : Answer) → ◌≡◌ {A = Option Answer} (Some a) (Some b) → a ≡ b
    one_some a b e = cc

-- A search for Type 3 tags has one answer.
pub one_threes : (ds : List Device) (events : List Event) (a b : Answer) → ThreesTell ds events a → ThreesTell ds events b → a ≡ b
one_threes ds events a b p q =
    let same : p.found ≡ q.found = (one_end p.found q.found [] [] (sym p.told ∙ q.told)).0 in
    same_some a b (sym p.answered ∙ ap sensed_answer same ∙ q.answered)

-- A command of a Type 3 tag has one answer, where what it tells of a device is one thing.
module _ (Tells : Device → Answer → Type 0) (one : (d : Device) → AtMostOne (Tells d)) (id : List ℕ) (ds : List Device) (asked : List Signal) where
  one_three_placed : (o : Option Device) → AtMostOne (λ answer. OfPlaced (λ d. Tells d answer) o)
  one_three_placed None a b p q = absurd p
  one_three_placed (Some d) a b p q = one d a b p q

  one_three_end : (r : Result (Unit {0}) PollFault) (behind : List Note) → AtMostOne (ThreeEnds Tells id ds asked r behind)
  one_three_end (Ok x) behind a b p q =
      one_standing (λ answer. OfPlaced (λ d. Tells d answer) (device_with id ds)) (one_three_placed (device_with id ds)) (stand 0 asked behind) a b p q
  one_three_end (Err e) behind a b p q = same_some a b (sym p ∙ q)

  pub one_three : (events : List Event) (a b : Answer) → ThreeTells Tells id ds asked events a → ThreeTells Tells id ds asked events b → a ≡ b
  one_three events a b p q =
      let same = one_end q.heard p.heard q.behind p.behind (sym q.sought ∙ p.sought) in
      let r : Result (Unit {0}) PollFault = found_if (has_three id ds) p.heard in
      let ends : ThreeEnds Tells id ds asked r p.behind b =
      subst (λ ns. ThreeEnds Tells id ds asked r ns b) same.1 (subst (λ h. ThreeEnds Tells id ds asked (found_if (has_three id ds) h) q.behind b) same.0 q.ends) in
      one_three_end r p.behind a b p.ends ends

-- An opening of a link has one answer.
one_opened : (n : ℕ) (s : Standing) → AtMostOne (TellsStanding (λ answer. answer ≡ answers.Linked n) TellsLoss s)
one_opened n (Asking bad []) a b p q = p ∙ sym q
one_opened n (Asking bad (c ∷ cs)) a b p q = absurd p
one_opened n (Broken asking.FieldLost cs) a b p q = p ∙ sym q
one_opened n (Broken asking.SixBad cs) a b p q = p ∙ sym q
one_opened n (Broken asking.Memory cs) a b p q = absurd p
one_opened n (Broken asking.Protocol cs) a b p q = absurd p
one_opened n Astray a b p q = absurd p

one_link_end : (n : ℕ) (general : List ℕ) (r : Result SeenKind PollFault) (behind : List Note) → AtMostOne (LinkEnds n general r behind)
one_link_end n general (Ok seen.Peer) behind a b p q = one_opened n (stand 0 (atr_frame general ∷ []) behind) a b p q
one_link_end n general (Ok seen.T2) behind a b p q = p ∙ sym q
one_link_end n general (Ok seen.T4) behind a b p q = p ∙ sym q
one_link_end n general (Ok seen.T5) behind a b p q = p ∙ sym q
one_link_end n general (Err e) behind a b p q = same_some a b (sym p ∙ q)

pub one_link : (id : DeviceId) (ds : List Device) (n : ℕ) (general : List ℕ) (events : List Event) (a b : Answer) → LinkTells id ds n general events a → LinkTells id ds n general events b → a ≡ b
one_link id ds n general events a b p q =
    let same = one_end q.polled p.polled q.behind p.behind (sym q.selected ∙ p.selected) in
    let ends : LinkEnds n general p.polled p.behind b = subst (λ ns. LinkEnds n general p.polled ns b) same.1 (subst (λ r. LinkEnds n general r q.behind b) same.0 q.ends) in
    one_link_end n general p.polled p.behind a b p.ends ends

-- So has a sending of payloads.
one_forge_end : (payloads : List (List ℕ)) (r : Result SeenKind PollFault) (behind : List Note) → AtMostOne (ForgeEnds payloads r behind)
one_forge_end payloads (Ok seen.Peer) behind a b p q = same_some a b (sym p ∙ q)
one_forge_end payloads (Ok seen.T2) behind a b p q = p ∙ sym q
one_forge_end payloads (Ok seen.T4) behind a b p q = p ∙ sym q
one_forge_end payloads (Ok seen.T5) behind a b p q = p ∙ sym q
one_forge_end payloads (Err e) behind a b p q = same_some a b (sym p ∙ q)

one_raw_end : (frames : List Signal) (r : Result SeenKind PollFault) (behind : List Note) → AtMostOne (RawEnds frames r behind)
one_raw_end frames (Ok kind) behind a b p q = same_some a b (sym p ∙ q)
one_raw_end frames (Err e) behind a b p q = same_some a b (sym p ∙ q)

pub one_raw : (id : DeviceId) (ds : List Device) (frames : List Signal) (events : List Event) (a b : Answer) → RawTells id ds frames events a → RawTells id ds frames events b → a ≡ b
one_raw id ds frames events a b p q =
    let same = one_end p.polled q.polled p.behind q.behind (sym p.selected ∙ q.selected) in
    let ends : RawEnds frames p.polled p.behind b = subst (λ ns. RawEnds frames p.polled ns b) (sym same.1) (subst (λ r. RawEnds frames r q.behind b) (sym same.0) q.ends) in
    one_raw_end frames p.polled p.behind a b p.ends ends

pub one_forge : (id : List ℕ) (ds : List Device) (payloads : List (List ℕ)) (events : List Event) (a b : Answer) → ForgeTells id ds payloads events a → ForgeTells id ds payloads events b → a ≡ b
one_forge id ds payloads events a b p q =
    let same = one_end q.polled p.polled q.behind p.behind (sym q.selected ∙ p.selected) in
    let ends : ForgeEnds payloads p.polled p.behind b = subst (λ ns. ForgeEnds payloads p.polled ns b) same.1 (subst (λ r. ForgeEnds payloads r q.behind b) same.0 q.ends) in
    one_forge_end payloads p.polled p.behind a b p.ends ends

-- So has a command on the open link, by where it stands.
pub one_told_so : (told : Option Answer) (events : List Event) (a b : Answer) → IsTold told events a → IsTold told events b → a ≡ b
one_told_so told events a b p q = same_some a b (sym p.tells ∙ q.tells)

pub one_linked : (o : Option OpenLink) (P Q : OpenLink → Type 0) (a b : Answer) → ((l : OpenLink) → o ≡ Some l → P l → Q l → a ≡ b) → IfLinked o P (a ≡ answers.NoLink)
    → IfLinked o Q (b ≡ answers.NoLink) → a ≡ b
one_linked None P Q a b says p q = p ∙ sym q
one_linked (Some l) P Q a b says p q = says l refl p q
