-- Finding the Type 3 tags of the bench: what is asked, and what is told of it (NFC Forum Digital Protocol; JIS X
-- 6319-4). That a reset stands before the first request is this project's own.
use Rattle.std.specs.Prelude.{◌≡◌, ◌↔◌, ◌⊎◌, ◌<◌, ◌≤◌, ℕ, List, [], ◌∷◌, filter_map, nat_eq, Bool, true, false, Option}
use Rattle.std.specs.Prelude.{Some, None, Result, Ok, Err}
use Rattle.std.specs.Cmp.Lexicographic.{pointwise}
use Rattle.std.specs.List.{AllByRecursion, list_any}
use Rattle.nfc_base.specs.Trace.{breaks, turns}
use Rattle.nfc_base.specs.declared.frame.Tech.TheVariants as techs
use Rattle.nfc_base.specs.declared.event.Event.{Event}
use Rattle.air_core.specs.World.{World}
use Rattle.air_core.specs.Conversation.{Note, Lit, Got, Lost, Over, LightUp, Moment}
use Rattle.nfca_poll.specs.declared.fault.PollFault.{PollFault}
use Rattle.nfca_poll.specs.declared.fault.PollFault.TheVariants as polling
use Rattle.nfca_poll.specs.Enquiry.{Enquiry}
use Rattle.nfca_poll.specs.Inventory.{tries}
use Rattle.t3t_access.specs.declared.polling.Fcrowd.{Fcrowd}
use Rattle.t3t_access.specs.declared.polling.Fcrowd.TheVariants as crowds
use Rattle.t3t_access.specs.Polling.{sensf_req, polling_f, picking_f, TellsPolledF, TellsPickedF}
use Rattle.bench_devices.specs.declared.device.Device.{Device}
use Rattle.bench_devices.specs.declared.device.Device.TheVariants.{T2, T4, Peer, T5, T3}
use Rattle.bench_devices.specs.declared.polling.Selection.{Selection}
use Rattle.bench_devices.specs.declared.polling.Selection.TheVariants.{Place, Missed}
use Rattle.bench_devices.specs.Choosing.{StandsAt}
use Rattle.bench_devices.specs.Device.{device_tech, device_id}
use Rattle.bench_devices.specs.Keeping.{NoStore}
use Rattle.bench_devices.specs.Noise.{noisy_tries}
use Rattle.bench_devices.specs.Phases.{Asked, AskedPart, Stands}
use Rattle.bench_devices.specs.Polling.{Followed, Asks, Told, follows, asks}

-- An enquiry from a reset on. What would be heard before the reset belongs to no request: nothing is due then.
abbrev pub from_reset : {S X : Type 0} → Enquiry S X → List Note → Followed X
from_reset e [] = Asks LightUp
from_reset e (Lit ∷ ns) = follows e ns
from_reset e (Got h ∷ ns) = Asks Over
from_reset e (Lost ∷ ns) = Told (Err polling.FieldLost) ns

-- which Type 3 tags are there, and whether the one with this identifier is
abbrev pub sensing : List Note → Followed Fcrowd
sensing ns = from_reset polling_f ns

abbrev pub seeking : List ℕ → List Note → Followed (Unit {0})
seeking id ns = from_reset (picking_f id) ns

-- the identifier of a Type 3 tag
abbrev pub f_if : Device → Option (List ℕ)
f_if (T2 d) = None
f_if (T4 d) = None
f_if (Peer d) = None
f_if (T5 p) = None
f_if (T3 p) = Some p.tag.id

-- what polling tells of these identifiers
abbrev pub sensed : List (List ℕ) → Fcrowd
sensed [] = crowds.Nobody
sensed (id ∷ []) = crowds.One id
sensed (id ∷ other ∷ more) = crowds.Crowd

abbrev pub sensed_of : List Device → Fcrowd
sensed_of ds = sensed (filter_map f_if ds)

-- Each of the tries had noise.
abbrev pub AreNoisy : List Event → Type 0
AreNoisy es = tries ≤ noisy_tries sensf_req es

-- Why a search told so, by the devices that are placed: what it told is so, or it heard nothing of them, each of its
-- tries having noise.
abbrev pub HasSensed : List Device → Result Fcrowd PollFault → List Event → Type 0
HasSensed ds (Ok x) es = (x ≡ sensed_of ds) ⊎ ((x ≡ crowds.Nobody) × AreNoisy es)
HasSensed ds (Err polling.Nobody) es = ⊥
HasSensed ds (Err polling.Disturbed) es = AreNoisy es
HasSensed ds (Err polling.FieldLost) es = Unit {0}
HasSensed ds (Err polling.Memory) es = ⊥
HasSensed ds (Err polling.NotFound) es = ⊥
HasSensed ds (Err polling.BadAnswer) es = ⊥

-- A search for Type 3 tags asked what was due, and tells of what was heard, and of the tags that are placed. The field
-- is lost exactly where a Break was used.
pub record Senses (old new : Moment (World Device)) (r : Result Fcrowd PollFault) : Type 0 where
  pub asked : Asked NoStore (λ ns. asks (sensing ns)) old new
  pub told : sensing asked.notes ≡ Told r []
  pub heard : TellsPolledF (turns asked.going.events) r
  pub cause : HasSensed old.world.listeners r asked.going.events
  pub lost : (r ≡ Err polling.FieldLost) ↔ (0 < breaks asked.going.events)

-- So the field was searched, unless memory was wanting; then a front of it was.
abbrev pub SensesField : Moment (World Device) → Moment (World Device) → Result Fcrowd PollFault → Type 0
SensesField old new r = (r ≡ Err polling.Memory → ⊥) → Senses old new r

abbrev pub SensingCut : Moment (World Device) → Moment (World Device) → Result Fcrowd PollFault → Type 0
SensingCut old new r = r ≡ Err polling.Memory → AskedPart NoStore (λ ns. asks (sensing ns)) old new

-- the Type 3 tag with an identifier
abbrev pub IsThree : List ℕ → Device → Type 0
IsThree id d = (device_tech d ≡ techs.F) × (device_id d ≡ id)

-- none of these devices is it
abbrev pub IsNoThree : List ℕ → List Device → Type 0
IsNoThree id ds = AllByRecursion (λ d. IsThree id d → ⊥) ds

-- whether a device is, and whether one of some devices is
abbrev pub is_three : List ℕ → Device → Bool
is_three id (T2 d) = false
is_three id (T4 d) = false
is_three id (Peer d) = false
is_three id (T5 p) = false
is_three id (T3 p) = pointwise nat_eq p.tag.id id

abbrev pub has_three : List ℕ → List Device → Bool
has_three id ds = list_any (is_three id) ds

-- A clash and a damaged answer may be of the tag that is sought. Where it isn't placed, they were of others, and it
-- isn't found.
abbrev pub found_if : Bool → Result (Unit {0}) PollFault → Result (Unit {0}) PollFault
found_if true r = r
found_if false (Ok x) = Err polling.NotFound
found_if false (Err e) = Err e

-- why selecting a Type 3 tag ended so
abbrev pub HasSought : List ℕ → List Device → Result (Unit {0}) PollFault → List Event → Type 0
HasSought id ds (Ok x) es = Unit {0}
HasSought id ds (Err polling.Nobody) es = ⊥
HasSought id ds (Err polling.Disturbed) es = ⊥
HasSought id ds (Err polling.FieldLost) es = Unit {0}
HasSought id ds (Err polling.Memory) es = ⊥
HasSought id ds (Err polling.NotFound) es = IsNoThree id ds ⊎ AreNoisy es
HasSought id ds (Err polling.BadAnswer) es = ⊥

-- Selecting a Type 3 tag ended so. What was heard tells whether some tag may be it, and the devices whether it is
-- placed.
pub record Seeks (id : List ℕ) (r : Result (Unit {0}) PollFault) (old new : Moment (World Device)) : Type 0 where
  pub heard : Result (Unit {0}) PollFault
  pub asked : Asked NoStore (λ ns. asks (seeking id ns)) old new
  pub told : seeking id asked.notes ≡ Told heard []
  pub by_turns : TellsPickedF id (turns asked.going.events) heard
  pub is : r ≡ found_if (has_three id old.world.listeners) heard
  pub cause : HasSought id old.world.listeners r asked.going.events
  pub lost : (r ≡ Err polling.FieldLost) ↔ (0 < breaks asked.going.events)

-- The Type 3 tag with this identifier stands at this place of the lit field.
pub record SeeksAt (id : List ℕ) (place : ℕ) (old new : Moment (World Device)) : Type 0 where
  pub device : Device
  pub seeks : Seeks id (Ok tt) old new
  pub three : IsThree id device
  pub stands : Stands new place device

-- what selecting a Type 3 tag came to
abbrev pub SeeksTo : List ℕ → Selection → Moment (World Device) → Moment (World Device) → Type 0
SeeksTo id (Place place) old new = SeeksAt id place old new
SeeksTo id (Missed e) old new = Seeks id (Err e) old new

-- it was cut off by want of memory
abbrev pub SeekingCut : List ℕ → Moment (World Device) → Moment (World Device) → Type 0
SeekingCut id old new = AskedPart NoStore (λ ns. asks (seeking id ns)) old new

-- where the Type 3 tag with an identifier stands, or that none is it
pub record IsThreeAt (id : List ℕ) (listeners : List Device) (place : ℕ) : Type 0 where
  pub at : StandsAt id listeners place
  pub three : device_tech at.device ≡ techs.F

abbrev pub FindsThree : List ℕ → List Device → Selection → Type 0
FindsThree id listeners (Place place) = IsThreeAt id listeners place
FindsThree id listeners (Missed e) = (e ≡ polling.NotFound) × IsNoThree id listeners
