-- What is due while Type 3 tags are found, read or written is of NFC-F, so no device without a link hands anything over.
use Rattle.std.proofs.Common.{◌≡◌, ℕ, zero, suc, List, [], ◌∷◌, Ok, Err, refl, sym, ◌∙◌, subst}
use Rattle.std.specs.List.{AllByRecursion}
use Rattle.nfc_base.specs.Signal.{Signal}
use Rattle.air_core.specs.Conversation.{Note, Lit, Got, Lost, Asks}
use Rattle.air_core.proofs.DueWaits.{due_all}
use Rattle.air_core.proofs.Following.{light_is_no_request, over_is_no_request}
use Rattle.nfca_poll.specs.Enquiry.{Enquiry, enquiring}
use Rattle.t3t_tag.specs.Store.{attributes}
use Rattle.t3t_access.specs.Answers.{update_of}
use Rattle.t3t_access.specs.Polling.{sensf_req, polling_f, picking_f}
use Rattle.t3t_access.specs.Reading.{check_at, first_checks}
use Rattle.t3t_access.specs.Writing.{command_at, first_asked, put_at}
use Rattle.bench_devices.specs.Calm.{CalmSensing, CalmReadingThree, CalmWritingThree, CalmUnaskedThree}
use Rattle.bench_devices.specs.Polling as polls
use Rattle.bench_devices.specs.Polling.{Followed, Told, asks}
use Rattle.bench_devices.specs.Sensing.{from_reset, sensing, seeking}
use Rattle.bench_devices.specs.ThreeAsking.{then_three, three_due}
use Rattle.bench_devices.proofs.turns.CalmDues.{AsksOther, calm_due}
use Rattle.bench_devices.proofs.turns.CalmFrames.{IsOther, other_f}
use Rattle.bench_devices.proofs.finding.Following.{Closes, asks_same}
use Rattle.bench_devices.proofs.finding.SeekingOne.{seeking_closes, seeks_one}
use Rattle.bench_devices.proofs.finding.SensingAll.{sensing_closes, senses_one}
use Rattle.bench_devices.proofs.type3.ThreeLists.{all_more}

sensf_other : IsOther sensf_req
sensf_other = other_f sensf_req refl

-- an enquiry that sends SENSF_REQ alone, from a reset on
from_reset_other : {S X : Type 0} (e : Enquiry S X) → Closes e → ((ns : List Note) (f : Signal) → enquiring e ns ≡ Asks f → f ≡ sensf_req) → AsksOther (λ ns. asks (from_reset e ns))
from_reset_other e closes one [] f due = absurd (light_is_no_request f due)
from_reset_other e closes one (Lit ∷ ns) f due = subst IsOther (sym (one ns f (sym (asks_same e closes ns) ∙ due))) sensf_other
from_reset_other e closes one (Got h ∷ ns) f due = absurd (over_is_no_request f due)
from_reset_other e closes one (Lost ∷ ns) f due = absurd (over_is_no_request f due)

pub calm_sensing : CalmSensing
calm_sensing = calm_due (λ ns. asks (sensing ns)) (from_reset_other polling_f sensing_closes senses_one)

-- commands of a tag, behind its selection
behind_other : (commands : List Signal) → AllByRecursion IsOther commands → (p : Followed (Unit {0})) (f : Signal) → (asks p ≡ Asks f → IsOther f) → then_three commands p ≡ Asks f → IsOther f
behind_other commands all (polls.Asks n) f first e = first e
behind_other commands all (Told (Ok x) ks) f first e = due_all IsOther commands all ks f e
behind_other commands all (Told (Err x) ks) f first e = absurd (over_is_no_request f e)

three_other : (id : List ℕ) (commands : List Signal) → AllByRecursion IsOther commands → AsksOther (three_due id commands)
three_other id commands all ns f e = behind_other commands all (seeking id ns) f (from_reset_other (picking_f id) (seeking_closes id) (seeks_one id) ns f) e

-- Checks and Updates
check_other : (id own : List ℕ) (n : ℕ) → IsOther (check_at id own n)
check_other id own zero = other_f (check_at id own zero) refl
check_other id own (suc n) = other_f (check_at id own (suc n)) refl

checks_other : (id own : List ℕ) (n : ℕ) → AllByRecursion IsOther (first_checks id own n)
checks_other id own zero = tt
checks_other id own (suc n) = all_more IsOther (first_checks id own n) (check_at id own n) (checks_other id own n) (check_other id own n)

asked_other : (id own message : List ℕ) (n : ℕ) → AllByRecursion IsOther (first_asked id own message n)
asked_other id own message zero = checks_other id own 1
asked_other id own message (suc n) =
    all_more IsOther (first_asked id own message n) (command_at id own message n) (asked_other id own message n)
    (other_f (update_of id (put_at own message n).block (put_at own message n).content) refl)

pub calm_reading_three : CalmReadingThree
calm_reading_three id store commands is =
    calm_due (three_due id commands) (three_other id commands (subst (AllByRecursion IsOther) (sym is.list) (checks_other id (attributes store) is.count)))

pub calm_writing_three : CalmWritingThree
calm_writing_three id store locked message commands is =
    calm_due (three_due id commands) (three_other id commands (subst (AllByRecursion IsOther) (sym is.list) (asked_other id (attributes store) message is.count)))

pub calm_unasked_three : CalmUnaskedThree
calm_unasked_three id = calm_due (three_due id []) (three_other id [] tt)
