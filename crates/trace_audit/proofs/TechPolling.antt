-- What polling asks is of the technology that its command tells: calls are of NFC-A, inventories of NFC-V, and SENSF_REQ is of NFC-F. No
-- call is a whole frame that asks for all of NFC-V.
use Rattle.std.proofs.Common.{◌≡◌, ℕ, ◌≤◌, ◌==◌, ◌&&◌, nat_lt, List, [], ◌∷◌, slice_index, Bool, true, false, if◌then◌else◌, Ok, Err, refl, sym, ◌∙◌, ap, subst, arith}
use Rattle.nfc_base.specs.Signal.{Signal}
use Rattle.nfc_base.specs.declared.frame.Tech.{Tech}
use Rattle.nfc_base.specs.declared.frame.Tech.TheVariants as techs
use Rattle.air_core.specs.Conversation.{Note, Lit, Got, Lost, Next, Asks}
use Rattle.air_core.proofs.Following.{light_is_no_request, over_is_no_request}
use Rattle.nfca_poll.specs.laws.OwnFrames.{BeginsAsCalls}
use Rattle.nfca_poll.specs.declared.fault.Picked.{Picked}
use Rattle.nfca_poll.specs.declared.inventory.Vcrowd.{Vcrowd}
use Rattle.nfca_poll.specs.Enquiry.{Enquiry, Progress, Reaches, Loses, due_of, enquiring, progress}
use Rattle.nfca_poll.specs.Inventory.{Inventory, Tries, Told as Came, inventory, inventory_all, tries}
use Rattle.nfca_poll.specs.Rounds.{all_devices, device_of, finding, picking}
use Rattle.t3t_access.specs.Polling.{sensf_req, polling_f, picking_f}
use Rattle.bench_script.specs.declared.command.Command.TheVariants.{Find}
use Rattle.bench_script.specs.declared.command.DeviceId.{DeviceId}
use Rattle.bench_script.specs.declared.command.DeviceId.TheVariants as ids
use Rattle.bench_script.specs.DeviceIds.{tech_for}
use Rattle.bench_devices.specs.Polling as polls
use Rattle.bench_devices.specs.Polling.{Followed, Told, asks, finding_all, follows, seen_kind, selecting, then_inventory}
use Rattle.bench_devices.specs.Sensing.{from_reset, seeking, sensing}
use Rattle.bench_devices.proofs.finding.Following.{Closes, asks_same, kind_asks}
use Rattle.bench_devices.proofs.finding.FoundAll.{others_ask}
use Rattle.bench_devices.proofs.finding.Inventoried.{inventory_closes, tries_ask}
use Rattle.bench_devices.proofs.finding.Searching.{IsCall, asks_calls, search_closes}
use Rattle.bench_devices.proofs.finding.SeekingOne.{seeking_closes, seeks_one}
use Rattle.bench_devices.proofs.finding.SelectingV.{next_inventory}
use Rattle.bench_devices.proofs.finding.SensingAll.{sensing_closes, senses_one}
use Rattle.trace_audit.specs.Reading.{is_inventory}
use Rattle.trace_audit.proofs.TechTurns.{IsOf, IsSentBy}

-- each request that is due is one of a technology
abbrev pub AsksOf : Tech → (List Note → Next) → Type 0
AsksOf t due = (ns : List Note) (f : Signal) → due ns ≡ Asks f → IsOf t f

-- selecting a device
pub select_tech : (id : DeviceId) → AsksOf (tech_for id) (λ ns. asks (selecting id ns))
select_tech (ids.A i) ns f e =
    let same : asks (selecting (ids.A i) ns) ≡ enquiring (picking i) ns = kind_asks seen_kind (follows (picking i) ns) ∙ asks_same (picking i) (search_closes (device_of i)) ns in
    let is : IsCall f = asks_calls (device_of i) ns f (sym same ∙ e) in
    is.of_a
select_tech (ids.V i) ns f e = ap (λ (g : Signal). g.tech) (next_inventory i ns f e)

-- A call is no inventory of all: where its bits end with a whole byte it begins with another one.
none_partly : (x y z : Bool) → (x && y && z && false) ≡ false
none_partly true true true = refl
none_partly true true false = refl
none_partly true false z = refl
none_partly false y z = refl

other_first : (a : ℕ) → 0x50 ≤ a → (a == 0x26) ≡ false
other_first a h = grind arith

other_three : (a b c tail : ℕ) → (tail ≡ 0 → 0x50 ≤ a) → ((a == 0x26) && (b == 0x01) && (c == 0x00) && (tail == 0)) ≡ false
other_three a b c tail begins = by_tail (tail == 0) refl
  where
    whole : (tail == 0) ≡ true → tail ≡ 0
    whole e = grind arith

    by_tail : (v : Bool) → (tail == 0) ≡ v → ((a == 0x26) && (b == 0x01) && (c == 0x00) && v) ≡ false
    by_tail true e = ap (λ x. x && (b == 0x01) && (c == 0x00) && true) (other_first a (begins (whole e)))
    by_tail false e = none_partly (a == 0x26) (b == 0x01) (c == 0x00)

no_inventory : (bytes : List ℕ) (tail : ℕ) → (tail ≡ 0 → 0x50 ≤ slice_index bytes 0) → is_inventory bytes tail ≡ false
no_inventory [] tail begins = refl
no_inventory (a ∷ []) tail begins = refl
no_inventory (a ∷ b ∷ []) tail begins = refl
no_inventory (a ∷ b ∷ c ∷ []) tail begins = other_three a b c tail begins
no_inventory (a ∷ b ∷ c ∷ d ∷ more) tail begins = refl

call_sent : (f : Signal) → IsCall f → IsSentBy Find f
call_sent f is =
    let begins : BeginsAsCalls f = is.begins in
    is.of_a ∙ ap (λ v. if v then techs.V else techs.A) (sym (no_inventory f.bytes f.tail (λ whole. (begins whole).0)))

-- the inventory of all is the one request of NFC-V
due_all : (p : Progress (Inventory Vcrowd)) (f : Signal) → due_of inventory p ≡ Asks f → f ≡ inventory_all
due_all (Reaches (Tries n d)) f e = tries_ask inventory_all f (nat_lt n tries) e
due_all (Reaches (Came r)) f e = absurd (over_is_no_request f e)
due_all Loses f e = absurd (over_is_no_request f e)

all_sent : IsSentBy Find inventory_all
all_sent = refl

inventory_sent : (ns : List Note) (f : Signal) → asks (follows inventory ns) ≡ Asks f → IsSentBy Find f
inventory_sent ns f e =
    let is : f ≡ inventory_all = due_all (progress inventory (Tries 0 false) ns) f (sym (asks_same inventory inventory_closes ns) ∙ e) in
    subst (IsSentBy Find) (sym is) all_sent

-- a search for all devices
find_by : (p : Followed (List Picked)) (f : Signal) → (asks p ≡ Asks f → IsSentBy Find f) → ((ks : List Note) → asks (follows inventory ks) ≡ Asks f → IsSentBy Find f)
    → asks (then_inventory p) ≡ Asks f → IsSentBy Find f
find_by (polls.Asks n) f first later e = first e
find_by (Told (Ok cards) ks) f first later e = later ks (sym (others_ask cards (follows inventory ks)) ∙ e)
find_by (Told (Err x) ks) f first later e = absurd (over_is_no_request f e)

pub find_sent : (ns : List Note) (f : Signal) → asks (finding_all ns) ≡ Asks f → IsSentBy Find f
find_sent ns f e =
    find_by (follows finding ns) f (λ q. call_sent f (asks_calls all_devices ns f (sym (asks_same finding (search_closes all_devices) ns) ∙ q)))
    (λ ks q. inventory_sent ks f q) e

-- searches for Type 3 tags, and for one of them
from_reset_tech : {S X : Type 0} (e : Enquiry S X) → Closes e → ((ns : List Note) (f : Signal) → enquiring e ns ≡ Asks f → f ≡ sensf_req) → AsksOf techs.F (λ ns. asks (from_reset e ns))
from_reset_tech e closes one [] f due = absurd (light_is_no_request f due)
from_reset_tech e closes one (Lit ∷ ns) f due = ap (λ (g : Signal). g.tech) (one ns f (sym (asks_same e closes ns) ∙ due))
from_reset_tech e closes one (Got h ∷ ns) f due = absurd (over_is_no_request f due)
from_reset_tech e closes one (Lost ∷ ns) f due = absurd (over_is_no_request f due)

pub sensing_tech : AsksOf techs.F (λ ns. asks (sensing ns))
sensing_tech = from_reset_tech polling_f sensing_closes senses_one

pub seeking_tech : (id : List ℕ) → AsksOf techs.F (λ ns. asks (seeking id ns))
seeking_tech id = from_reset_tech (picking_f id) (seeking_closes id) (seeks_one id)
