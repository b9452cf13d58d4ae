-- What is asked of a Type 3 tag is of NFC-F: SENSF_REQ, Checks and Updates.
use Rattle.std.proofs.Common.{◌≡◌, ℕ, zero, suc, List, [], Option, Some, None, Ok, Err, refl, sym, subst}
use Rattle.std.specs.List.{AllByRecursion}
use Rattle.nfc_base.specs.Signal.{Signal}
use Rattle.nfc_base.specs.declared.frame.Tech.TheVariants as techs
use Rattle.air_core.specs.Conversation.{Asks}
use Rattle.air_core.proofs.DueWaits.{due_all}
use Rattle.air_core.proofs.Following.{over_is_no_request}
use Rattle.t3t_access.specs.Reading.{check_at, first_checks}
use Rattle.t3t_access.specs.Writing.{command_at, first_asked}
use Rattle.t3t_tag.specs.Store.{attributes}
use Rattle.bench_devices.specs.declared.device.Device.{Device}
use Rattle.bench_devices.specs.declared.device.Device.TheVariants.{T2, T4, Peer, T5, T3}
use Rattle.bench_devices.specs.Placed.{IfPlaced}
use Rattle.bench_devices.specs.Polling as polls
use Rattle.bench_devices.specs.Polling.{Followed, Told, asks}
use Rattle.bench_devices.specs.Sensing.{seeking}
use Rattle.bench_devices.specs.ThreeAsking.{then_three, three_due}
use Rattle.bench_devices.proofs.type3.ThreeLists.{all_more}
use Rattle.bench_world.specs.Threes.{ReadAsks3, WriteAsks3}
use Rattle.trace_audit.proofs.TechPolling.{AsksOf, seeking_tech}
use Rattle.trace_audit.proofs.TechTurns.{IsOf}

abbrev pub AreOfF : List Signal → Type 0
AreOfF commands = AllByRecursion (IsOf techs.F) commands

check_tech : (id own : List ℕ) (n : ℕ) → IsOf techs.F (check_at id own n)
check_tech id own zero = refl
check_tech id own (suc n) = refl

checks_tech : (id own : List ℕ) (n : ℕ) → AreOfF (first_checks id own n)
checks_tech id own zero = tt
checks_tech id own (suc n) = all_more (IsOf techs.F) (first_checks id own n) (check_at id own n) (checks_tech id own n) (check_tech id own n)

asked_tech : (id own message : List ℕ) (n : ℕ) → AreOfF (first_asked id own message n)
asked_tech id own message zero = checks_tech id own 1
asked_tech id own message (suc n) = all_more (IsOf techs.F) (first_asked id own message n) (command_at id own message n) (asked_tech id own message n) refl

none_tech : (xs : List Signal) → xs ≡ [] → AreOfF xs
none_tech xs none = subst AreOfF (sym none) tt

-- the commands of reads and writes, whatever device they are asked of
reads_tech : (id : List ℕ) (d : Device) (xs : List Signal) → ReadAsks3 id d xs → AreOfF xs
reads_tech id (T2 d) xs is = none_tech xs is
reads_tech id (T4 d) xs is = none_tech xs is
reads_tech id (Peer d) xs is = none_tech xs is
reads_tech id (T5 p) xs is = none_tech xs is
reads_tech id (T3 p) xs is = subst AreOfF (sym is.list) (checks_tech id (attributes p.tag.store) is.count)

writes_tech : (id message : List ℕ) (d : Device) (xs : List Signal) → WriteAsks3 id message d xs → AreOfF xs
writes_tech id message (T2 d) xs is = none_tech xs is
writes_tech id message (T4 d) xs is = none_tech xs is
writes_tech id message (Peer d) xs is = none_tech xs is
writes_tech id message (T5 p) xs is = none_tech xs is
writes_tech id message (T3 p) xs is = subst AreOfF (sym is.list) (asked_tech id (attributes p.tag.store) message is.count)

pub read3_tech : (id : List ℕ) (xs : List Signal) (o : Option Device) → IfPlaced (λ d. ReadAsks3 id d xs) (xs ≡ []) o → AreOfF xs
read3_tech id xs None is = none_tech xs is
read3_tech id xs (Some d) is = reads_tech id d xs is

pub write3_tech : (id message : List ℕ) (xs : List Signal) (o : Option Device) → IfPlaced (λ d. WriteAsks3 id message d xs) (xs ≡ []) o → AreOfF xs
write3_tech id message xs None is = none_tech xs is
write3_tech id message xs (Some d) is = writes_tech id message d xs is

-- what is due, behind the selection of a tag too
behind_tech : (commands : List Signal) → AreOfF commands → (p : Followed (Unit {0})) (f : Signal) → (asks p ≡ Asks f → IsOf techs.F f) → then_three commands p ≡ Asks f → IsOf techs.F f
behind_tech commands all (polls.Asks n) f first e = first e
behind_tech commands all (Told (Ok x) ks) f first e = due_all (IsOf techs.F) commands all ks f e
behind_tech commands all (Told (Err x) ks) f first e = absurd (over_is_no_request f e)

pub three_tech : (id : List ℕ) (commands : List Signal) → AreOfF commands → AsksOf techs.F (three_due id commands)
three_tech id commands all ns f e = behind_tech commands all (seeking id ns) f (seeking_tech id ns f) e
