-- What the law of the answers gives where there is little noise: a read and a search that meet no Break, of which no wait has
-- six bad receptions, and whose polling has one round or try without noise, answer what they are asked for.
use Rattle.std.proofs.Common.{◌≡◌, ◌⊎◌, inl, inr, ℕ, ◌<◌, ◌≤◌, List, [], ◌∷◌, Bool, true, false, if◌then◌else◌, nat_eq, Option, Some, Result, Ok, Err, refl, ◌∙◌, ap, subst, arith}
use Rattle.nfc_base.specs.Signal.{Signal}
use Rattle.nfc_base.specs.Trace.{breaks}
use Rattle.nfc_base.specs.declared.event.Event.{Event}
use Rattle.nfc_base.specs.declared.tag_link.AskFault.TheVariants as asking
use Rattle.air_core.specs.Conversation.{Note}
use Rattle.air_core.specs.Waits.{Standing, Asking, Broken, Astray, stand}
use Rattle.nfca_poll.specs.declared.fault.Picked.{Picked}
use Rattle.nfca_poll.specs.declared.fault.PollFault.{PollFault}
use Rattle.nfca_poll.specs.declared.fault.PollFault.TheVariants as faults
use Rattle.nfca_poll.specs.declared.inventory.Vcrowd.{Vcrowd}
use Rattle.nfca_poll.specs.Inventory.{tries, inventory_all, inventory_of}
use Rattle.nfca_poll.specs.RoundTrace.{rounds}
use Rattle.bench_devices.specs.Noise.{noisy_tries, AreDisturbed, MissedRound}
use Rattle.bench_devices.specs.Device.{device_id}
use Rattle.std.specs.List.{AllByRecursion}
use Rattle.std.specs.Cmp.Lexicographic.{pointwise}
use Rattle.bench_script.specs.declared.command.DeviceId.{DeviceId}
use Rattle.bench_script.specs.declared.command.DeviceId.TheVariants.{A, V}
use Rattle.bench_devices.specs.declared.device.Device.{Device}
use Rattle.bench_world.specs.declared.entry.Answer.{Answer}
use Rattle.bench_world.specs.declared.entry.Answer.TheVariants as answers
use Rattle.bench_devices.specs.declared.polling.SeenKind.{SeenKind}
use Rattle.bench_devices.specs.declared.polling.SeenKind.TheVariants as seen
use Rattle.isodep_link.specs.Asking as exchange
use Rattle.bench_devices.specs.CardAsking.{CardStanding, Activates, Exchanges, card_stands}
use Rattle.bench_script.specs.DeviceIds.{bytes_of}
use Rattle.bench_world.specs.Crowded.{seen_all, is_crowd}
use Rattle.bench_devices.specs.Crowded.{crowd_of, others_of}
use Rattle.bench_devices.specs.Placed.{device_with, OfPlaced}
use Rattle.bench_world.specs.Reading.{TellsOf}
use Rattle.bench_world.specs.Completing.{IsQuietOnce, HadSixBad, IsUndisturbed, ReadsComplete, WritesComplete, FindsComplete}
use Rattle.bench_world.specs.Legal.{AnswerLaw, ReadLaw, WritingLaw, FindLaw}
use Rattle.bench_world.specs.Writing.{TellsWrite}
use Rattle.bench_script.specs.Messages.{message_of}
use Rattle.bench_script.specs.declared.command.Command.{Command}
use Rattle.bench_devices.specs.Polling.{Told}
use Rattle.bench_world.specs.Answering.{TellsFault, TagEnds, TagTells, TellsFound}
use Rattle.bench_devices.specs.Answering.{IsNamed, MissedBy, IsGivenUp, HasPollCause, TellsStanding, TellsExchange, TellsCard, TellsBy, AreOthers, InventoryEnds, FindEnds, FindTells}

pub told_once : (a b : Answer) → ◌≡◌ {A = Option Answer} (Some a) (Some b) → b ≡ a
told_once a b e = cc

pub no_lost : (n : ℕ) → n ≡ 0 → 0 < n → ⊥
no_lost n e h = omega (arith, e, h)

few_tries : (n : ℕ) → n < tries → tries ≤ n → ⊥
few_tries n a b = omega (arith, a, b)

-- what holds of all holds of the first that has an identifier
pub of_first : (P : Device → Type 0) (id : List ℕ) (ds : List Device) (d : Device) → AllByRecursion P ds → device_with id ds ≡ Some d → P d
of_first P id [] d all e = absurd cc
of_first P id (x ∷ ds) d all e = by_name (pointwise nat_eq (device_id x) id) e (λ q. of_first P id ds d all.1 q)
  where
    by_name : (v : Bool) → (if v then Some x else device_with id ds) ≡ Some d → (device_with id ds ≡ Some d → P d) → P d
    by_name true q more = subst P (let k : x ≡ d = cc in k) all.0
    by_name false q more = more q

module _ (id : DeviceId) (ds : List Device) (d : Device) (placed : device_with (bytes_of id) ds ≡ Some d) (named : IsNamed id d) where
  pub missed : (i : DeviceId) (es : List Event) → device_with (bytes_of i) ds ≡ Some d → IsNamed i d → IsQuietOnce i es → MissedBy i ds es → ⊥
  missed (A x) es p n q (inl none) = of_first (λ e. IsNamed (A x) e → ⊥) x ds d none p n
  missed (A x) es p n q (inr m) = q m.noisy
  missed (V x) es p n q (inl none) = of_first (λ e. IsNamed (V x) e → ⊥) x ds d none p n
  missed (V x) es p n q (inr m) = few_tries (noisy_tries (inventory_of x) es) q m

  pub given_up : (i : DeviceId) (es : List Event) → IsQuietOnce i es → IsGivenUp i es → ⊥
  given_up (A x) es q g = q g.noisy
  given_up (V x) es q g = g

  module _ (Tells : Device → Answer → Type 0) (asked : List Signal) (answer : Answer) (lit : answer ≡ answers.FieldLost → ⊥) where
    abbrev PlacedTells : Answer → Type 0
    PlacedTells a = OfPlaced (λ e. Tells e a) (device_with (bytes_of id) ds)

    of_placed : PlacedTells answer → Tells d answer
    of_placed t = let P : Option Device → Type 0 = λ o. OfPlaced (λ e. Tells e answer) o in subst P placed t

    standing : (s : Standing) → ((left : List Signal) → s ≡ Broken asking.SixBad left → ⊥) → TellsStanding PlacedTells TellsFault s answer → Tells d answer
    standing (Asking bad []) none t = of_placed t
    standing (Asking bad (c ∷ cs)) none t = absurd t
    standing (Broken asking.FieldLost cs) none t = absurd (lit t)
    standing (Broken asking.SixBad cs) none t = absurd (none cs refl)
    standing (Broken asking.Memory cs) none t = absurd t
    standing (Broken asking.Protocol cs) none t = absurd t
    standing Astray none t = absurd t

    exchanged : (s : exchange.IsoStanding) → (s ≡ exchange.Broken asking.SixBad → ⊥) → TellsExchange PlacedTells TellsFault s answer → Tells d answer
    exchanged (exchange.Waits i f cs) none t = absurd t
    exchanged (exchange.Rests i) none t = of_placed t
    exchanged (exchange.Broken asking.FieldLost) none t = absurd (lit t)
    exchanged (exchange.Broken asking.SixBad) none t = absurd (none refl)
    exchanged (exchange.Broken asking.Memory) none t = absurd t
    exchanged (exchange.Broken asking.Protocol) none t = absurd t
    exchanged exchange.Astray none t = absurd t

    activated : (s : CardStanding) → (s ≡ Exchanges (exchange.Broken asking.SixBad) → ⊥) → TellsCard PlacedTells TellsFault s answer → Tells d answer
    activated (Activates bad) none t = absurd t
    activated (Exchanges s) none t = exchanged s (λ e. none (ap Exchanges e)) t

    told_by : (kind : SeenKind) (ns : List Note) → (HadSixBad kind asked ns → ⊥) → TellsBy kind PlacedTells TellsFault asked ns answer → Tells d answer
    told_by seen.T2 ns none t = standing (stand 0 asked ns) (λ left e. none (left, e)) t
    told_by seen.T4 ns none t = activated (card_stands asked ns) none t
    told_by seen.T5 ns none t = standing (stand 0 asked ns) (λ left e. none (left, e)) t
    told_by seen.Peer ns none t = of_placed t

    tag_ends : (r : Result SeenKind PollFault) (behind : List Note) (es : List Event) → IsQuietOnce id es → ((kind : SeenKind) → r ≡ Ok kind → HadSixBad kind asked behind → ⊥)
        → HasPollCause id ds r es → TagEnds Tells id ds asked r behind answer → Tells d answer
    tag_ends (Ok kind) behind es q none c e = told_by kind behind (none kind refl) e
    tag_ends (Err faults.Nobody) behind es q none c e = absurd c
    tag_ends (Err faults.Disturbed) behind es q none c e = absurd (given_up id es q c)
    tag_ends (Err faults.FieldLost) behind es q none c e = absurd (lit (told_once answers.FieldLost answer e))
    tag_ends (Err faults.Memory) behind es q none c e = absurd c
    tag_ends (Err faults.NotFound) behind es q none c e = absurd (missed id es placed named q c)
    tag_ends (Err faults.BadAnswer) behind es q none c e = absurd c

  -- A command of a placed tag tells what it tells of the device.
  tag_completes : (Tells : Device → Answer → Type 0) (asked : List Signal) (events : List Event) (answer : Answer) → TagTells Tells id ds asked events answer → IsUndisturbed id asked events
      → Tells d answer
  tag_completes Tells asked events answer t calm =
      tag_ends Tells asked answer (λ e. no_lost (breaks events) calm.lit (t.lost.0 e)) t.polled t.behind events calm.round
      (λ kind e bad. calm.waits kind t.behind (t.selected ∙ ap (λ r. Told r t.behind) e) bad) t.cause t.ends

-- A search lists the whole field: the crowd in its order, and the Type 5 tag or that there are several.
module _ (ds : List Device) (answer : Answer) (lit : answer ≡ answers.FieldLost → ⊥) where
  abbrev listed : List Picked → Vcrowd → Answer
  listed cards others = answers.Found (seen_all (record { cards = cards; others = others })) (is_crowd others)

  others_end : (cards : List Picked) (o : Result Vcrowd PollFault) (es : List Event) → noisy_tries inventory_all es < tries → InventoryEnds TellsFound ds cards o es answer
      → answer ≡ listed cards (others_of ds)
  others_end cards (Ok others) es n e = told e.0
    where
      told : AreOthers ds others es → answer ≡ listed cards (others_of ds)
      told (inl same) = e.1 ∙ ap (listed cards) same
      told (inr few) = absurd (few_tries (noisy_tries inventory_all es) n few.1)
  others_end cards (Err faults.Nobody) es n e = absurd e
  others_end cards (Err faults.Disturbed) es n e = absurd (few_tries (noisy_tries inventory_all es) n e.1)
  others_end cards (Err faults.FieldLost) es n e = absurd (lit e)
  others_end cards (Err faults.Memory) es n e = absurd e
  others_end cards (Err faults.NotFound) es n e = absurd e
  others_end cards (Err faults.BadAnswer) es n e = absurd e

  find_ends : (r : Result (List Picked) PollFault) (behind : List Note) (es : List Event) → (AreDisturbed (rounds es) → ⊥) → noisy_tries inventory_all es < tries
      → FindEnds TellsFound ds r behind es answer
      → answer ≡ listed (crowd_of ds) (others_of ds)
  find_ends (Ok cards) behind es q n e = others_end cards e.2 es n e.4 ∙ ap (λ c. listed c (others_of ds)) (whole e.1)
    where
      whole : (cards ≡ crowd_of ds) ⊎ MissedRound es → cards ≡ crowd_of ds
      whole (inl w) = w
      whole (inr m) = absurd (q m.noisy)
  find_ends (Err faults.Nobody) behind es q n e = absurd e
  find_ends (Err faults.Disturbed) behind es q n e = absurd (q (e.1).noisy)
  find_ends (Err faults.FieldLost) behind es q n e = absurd (lit e)
  find_ends (Err faults.Memory) behind es q n e = absurd e
  find_ends (Err faults.NotFound) behind es q n e = absurd e
  find_ends (Err faults.BadAnswer) behind es q n e = absurd e

find_completes : (ds : List Device) (events : List Event) (answer : Answer) → FindTells TellsFound ds events answer
    → (AreDisturbed (rounds events) → ⊥) → noisy_tries inventory_all events < tries → breaks events ≡ 0
    → answer ≡ answers.Found (seen_all (record { cards = crowd_of ds; others = others_of ds })) (is_crowd (others_of ds))
find_completes ds events answer t q n b = find_ends ds answer (λ e. no_lost (breaks events) b (t.lost.0 e)) t.found t.behind events q n t.ends

-- So do legal entries.
pub reads_complete : ReadsComplete
reads_complete s t g e id d step is placed named calm =
    let L : Command → Type 0 = λ c. AnswerLaw s g c e.events e.answer in
    let law : ReadLaw s g.joins id g.asked e.events e.answer = subst L is step.answered in
    tag_completes id s.world.field.listeners d placed named TellsOf g.asked e.events e.answer law.tells calm

pub writes_complete : WritesComplete
writes_complete s t g e id m d step is placed named calm =
    let L : Command → Type 0 = λ c. AnswerLaw s g c e.events e.answer in
    let law : WritingLaw s g.joins id m g.asked e.events e.answer = subst L is step.answered in
    tag_completes id s.world.field.listeners d placed named (TellsWrite (message_of m)) g.asked e.events e.answer law.tells calm

pub finds_complete : FindsComplete
finds_complete s t g e step is lit round once =
    let L : Command → Type 0 = λ c. AnswerLaw s g c e.events e.answer in
    let law : FindLaw s g.joins e.events e.answer = subst L is step.answered in
    find_completes s.world.field.listeners e.events e.answer law.tells round once lit
