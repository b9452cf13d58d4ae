-- On quiet air noise keeps no command from its answer.
use Rattle.std.proofs.Common.{◌≡◌, ℕ, ◌+◌, ◌<◌, List, [], ◌∷◌, Bool, Ok, refl, sym, ◌∙◌, ap, subst, arith}
use Rattle.nfc_base.specs.Signal.{Signal}
use Rattle.nfc_base.specs.Trace.{turns, back_of, noise, breaks, other_than_pass}
use Rattle.nfc_base.specs.Trace as backs
use Rattle.nfc_base.specs.declared.event.Event.{Event}
use Rattle.nfc_base.specs.declared.event.Event.TheVariants.{Reset, Request, Answer as Answers, Clash}
use Rattle.nfc_base.specs.declared.event.Fate.{Fate}
use Rattle.nfc_base.specs.declared.event.Fate.TheVariants.{Pass, Damage, Lose, Break}
use Rattle.air_core.specs.Conversation.{AirModel, Note, Next, Over, LightUp, AreTurns, EachDue, FatesFrom, first_fate, later_fates, queue_after, receptions}
use Rattle.air_core.proofs.Following.{trace_first}
use Rattle.nfca_poll.specs.RoundTrace.{rounds, up_to_reset, back_noise}
use Rattle.nfca_poll.specs.Inventory.{tries, inventory_all, inventory_of}
use Rattle.bench_script.specs.declared.command.Command.{Command}
use Rattle.bench_script.specs.declared.command.Command.TheVariants.{Find, Crowd, Poll3, Read, Write}
use Rattle.bench_script.specs.declared.command.DeviceId.{DeviceId}
use Rattle.bench_script.specs.declared.command.DeviceId.TheVariants.{A, V}
use Rattle.bench_script.specs.DeviceIds.{bytes_of}
use Rattle.bench_devices.specs.declared.device.Device.{Device}
use Rattle.bench_devices.specs.declared.polling.SeenKind.{SeenKind}
use Rattle.bench_devices.specs.declared.polling.SeenKind.TheVariants as seen
use Rattle.bench_devices.specs.Answering.{TellsBy, TellsStanding, TellsCard}
use Rattle.bench_devices.specs.Device.{BenchWorld, air}
use Rattle.bench_devices.specs.Noise.{noisy_turns, noisy_tries, is_call, AreDisturbed}
use Rattle.bench_devices.specs.Placed.{device_with, OfPlaced}
use Rattle.bench_devices.specs.Polling.{Told, selecting}
use Rattle.bench_world.specs.declared.entry.Answer.{Answer}
use Rattle.bench_world.specs.declared.entry.Answer.TheVariants.{SixBad}
use Rattle.bench_world.specs.declared.entry.Entry.{Entry}
use Rattle.bench_world.specs.Answering.{TagEnds, TagTells, TellsFault}
use Rattle.bench_world.specs.Completing.{IsQuietOnce, HadSixBad, IsUndisturbed}
use Rattle.bench_world.specs.Legal.{State, Given, LegalStep, AnswerLaw, ReadLaw, CrowdLaw, WritingLaw, changed, due}
use Rattle.bench_world.specs.Quiet.{AllPass, QuietStays, QuietReads, QuietWrites, QuietFinds, QuietTags, QuietThrees}
use Rattle.bench_world.specs.Reading.{TellsOf}
use Rattle.bench_world.specs.Writing.{TellsWrite}
use Rattle.bench_script.specs.Messages.{message_of}
use Rattle.bench_script.specs.declared.message.Msg.{Msg}
use Rattle.bench_world.proofs.tags.Numbers.{UsesFars}
use Rattle.bench_world.proofs.calm.Complete.{reads_complete, writes_complete, finds_complete}
use Rattle.bench_world.proofs.calm.CompleteTags.{tells_quietly}
use Rattle.bench_world.proofs.calm.CompleteThrees.{threes_complete}
use Rattle.t3t_access.specs.Polling.{sensf_req}
use Rattle.bench_world.proofs.lines.OneAnswer.{one_end}
use Rattle.bench_world.proofs.tags.Fronts.{on_field}

-- Where no fate is left but Pass, the next one is Pass, and so are those behind it.
next_passes : (q : List Fate) → AllPass q → first_fate q ≡ Pass
next_passes [] h = refl
next_passes (x ∷ q) h = h.0

later_pass : (q : List Fate) → AllPass q → AllPass (later_fates q)
later_pass [] h = tt
later_pass (x ∷ q) h = h.1

passes : (q : List Fate) (x : Fate) (n : ℕ) → AllPass q → x ≡ first_fate q → n ≡ 0 → other_than_pass x + n ≡ 0
passes q x n h e z = let a : other_than_pass x ≡ 0 = ap other_than_pass (e ∙ next_passes q h) in omega (arith, a, z)

no_noise : (q : List Fate) (es : List Event) → AllPass q → FatesFrom q es → noise es ≡ 0
no_noise q [] h f = refl
no_noise q (Reset ∷ es) h f = no_noise q es h f
no_noise q (Request g x ∷ es) h f = passes q x (noise es) h f.0 (no_noise (later_fates q) es (later_pass q h) f.1)
no_noise q (Answers g x ∷ es) h f = passes q x (noise es) h f.0 (no_noise (later_fates q) es (later_pass q h) f.1)
no_noise q (Clash g x ∷ es) h f = passes q x (noise es) h f.0 (no_noise (later_fates q) es (later_pass q h) f.1)

left_pass : (q : List Fate) (es : List Event) → AllPass q → AllPass (queue_after q es)
left_pass q [] h = h
left_pass q (Reset ∷ es) h = left_pass q es h
left_pass q (Request g x ∷ es) h = left_pass (later_fates q) es (later_pass q h)
left_pass q (Answers g x ∷ es) h = left_pass (later_fates q) es (later_pass q h)
left_pass q (Clash g x ∷ es) h = left_pass (later_fates q) es (later_pass q h)

-- Without noise no field is lost, no try has noise, and no round.
none_lost : (x : Fate) (n m : ℕ) → (n ≡ 0 → m ≡ 0) → other_than_pass x + n ≡ 0 → backs.of_break x + m ≡ 0
none_lost Pass n m more e = let z : n ≡ 0 = omega (arith, e) in let y : m ≡ 0 = more z in omega (arith, y)
none_lost Damage n m more e = absurd (omega (arith, e))
none_lost Lose n m more e = absurd (omega (arith, e))
none_lost Break n m more e = absurd (omega (arith, e))

pub no_breaks : (es : List Event) → noise es ≡ 0 → breaks es ≡ 0
no_breaks [] z = refl
no_breaks (Reset ∷ es) z = no_breaks es z
no_breaks (Request g x ∷ es) z = none_lost x (noise es) (breaks es) (λ y. no_breaks es y) z
no_breaks (Answers g x ∷ es) z = none_lost x (noise es) (breaks es) (λ y. no_breaks es y) z
no_breaks (Clash g x ∷ es) z = none_lost x (noise es) (breaks es) (λ y. no_breaks es y) z

back_passes : (es : List Event) → noise es ≡ 0 → back_noise (back_of es) ≡ 0
back_passes [] z = refl
back_passes (Reset ∷ es) z = refl
back_passes (Request g x ∷ es) z = refl
back_passes (Answers g x ∷ es) z = omega (arith, z)
back_passes (Clash g x ∷ es) z = omega (arith, z)

pub behind : (x : Fate) (n : ℕ) → other_than_pass x + n ≡ 0 → n ≡ 0
behind x n z = omega (arith, z)

pub no_noisy : (is_one : Signal → Bool) (es : List Event) → noise es ≡ 0 → noisy_turns is_one es ≡ 0
no_noisy is_one [] z = refl
no_noisy is_one (Reset ∷ es) z = no_noisy is_one es z
no_noisy is_one (Request g x ∷ es) z =
    let rest : noise es ≡ 0 = behind x (noise es) z in
    let back : back_noise (back_of es) ≡ 0 = back_passes es rest in
    let sum : other_than_pass x + back_noise (back_of es) ≡ 0 = omega (arith, z, back) in
    rw sum (no_noisy is_one es rest)
no_noisy is_one (Answers g x ∷ es) z = no_noisy is_one es (behind x (noise es) z)
no_noisy is_one (Clash g x ∷ es) z = no_noisy is_one es (behind x (noise es) z)

up_passes : (es : List Event) → noise es ≡ 0 → noise (up_to_reset es) ≡ 0
up_passes [] z = refl
up_passes (Reset ∷ es) z = refl
up_passes (Request g x ∷ es) z = let n : noise (up_to_reset es) ≡ 0 = up_passes es (behind x (noise es) z) in omega (arith, z, n)
up_passes (Answers g x ∷ es) z = let n : noise (up_to_reset es) ≡ 0 = up_passes es (behind x (noise es) z) in omega (arith, z, n)
up_passes (Clash g x ∷ es) z = let n : noise (up_to_reset es) ≡ 0 = up_passes es (behind x (noise es) z) in omega (arith, z, n)

-- A command that polls begins with a reset, and its first round isn't disturbed.
module _ {W : Type 0} (m : AirModel W) where
  pub first_round : (w : W) (next : List Note → Next) (es : List Event) → AreTurns m w es → EachDue next [] es → next [] ≡ LightUp → next (receptions es) ≡ Over → noise es ≡ 0
      → AreDisturbed (rounds es) → ⊥
  first_round w next [] turns each lit over z d = absurd (let clash : LightUp ≡ Over = sym lit ∙ over in cc)
  first_round w next (Reset ∷ es) turns each lit over z d =
      let none : noisy_turns is_call (up_to_reset es) ≡ 0 = no_noisy is_call (up_to_reset es) (up_passes es z) in
      let some : 0 < noisy_turns is_call (up_to_reset es) = d.0 in
      omega (arith, none, some)
  first_round w next (Request g x ∷ es) turns each lit over z d = absurd (let clash : LightUp ≡ _ = sym lit ∙ each.0 in cc)
  first_round w next (Answers g x ∷ es) turns each lit over z d = absurd (let clash : back_of (Answers g x ∷ es) ≡ backs.Nothing = ap back_of turns.made ∙ trace_first m w turns.moves in cc)
  first_round w next (Clash g x ∷ es) turns each lit over z d = absurd (let clash : back_of (Clash g x ∷ es) ≡ backs.Nothing = ap back_of turns.made ∙ trace_first m w turns.moves in cc)

pub few_noisy : (n : ℕ) → n ≡ 0 → n < tries
few_noisy n z = omega (arith, z)

pub quiet_stays : QuietStays
quiet_stays s t g e step pass =
    let none : noise e.events ≡ 0 = no_noise (changed s e.command).queue e.events pass step.front.fates in
    (none, subst (λ (x : State). AllPass x.queue) (sym step.front.after) (left_pass (changed s e.command).queue e.events pass))

-- the events of a command that changes no fate have no noise
pub quiet_of : (s t : State) (g : Given) (e : Entry) (c : Command) → LegalStep s g e t → e.command ≡ c → (changed s c).queue ≡ s.queue → AllPass s.queue → noise e.events ≡ 0
quiet_of s t g e c step is same pass =
    let there : (changed s e.command).queue ≡ s.queue = ap (λ k. (changed s k).queue) is ∙ same in
    (quiet_stays s t g e step (subst (λ q. AllPass q) (sym there) pass)).0

-- its first round isn't disturbed, where it begins with a reset
round_of : (s t : State) (g : Given) (e : Entry) (c : Command) → LegalStep s g e t → e.command ≡ c → (changed s c).world.field ≡ s.world.field → (UsesFars c → ⊥) → due s g c [] ≡ LightUp
    → noise e.events ≡ 0 → AreDisturbed (rounds e.events) → ⊥
round_of s t g e c step is same quiet lit none =
    let there : (changed s e.command).world.field ≡ s.world.field = ap (λ k. (changed s k).world.field) is ∙ same in
    first_round air s.world.field (due s g c) e.events (subst (λ (w : BenchWorld). AreTurns air w e.events) there
    (on_field s t g e.command e.events (λ h. quiet (subst UsesFars is h)) step.front).turns) (subst (λ k. EachDue (due s g k) [] e.events) is step.front.each) lit
    (ap (λ k. due s g k (receptions e.events)) (sym is) ∙ step.over) none

pub quiet_finds : QuietFinds
quiet_finds s t g e step is pass =
    let none : noise e.events ≡ 0 = quiet_of s t g e Find step is refl pass in
    finds_complete s t g e step is (no_breaks e.events none) (round_of s t g e Find step is refl (λ h. h) refl none) (few_noisy (noisy_tries inventory_all e.events) (no_noisy _ e.events none))

pub quiet_tags : QuietTags
quiet_tags s t g e step is pass =
    let none : noise e.events ≡ 0 = quiet_of s t g e Crowd step is refl pass in
    let law : CrowdLaw s g.joins e.events e.answer = subst (λ c. AnswerLaw s g c e.events e.answer) is step.answered in
    tells_quietly s.world.field.listeners e.events e.answer law.tells none (no_breaks e.events none)

pub quiet_threes : QuietThrees
quiet_threes s t g e step is pass =
    let none : noise e.events ≡ 0 = quiet_of s t g e Poll3 step is refl pass in
    threes_complete s t g e step is (no_breaks e.events none) (few_noisy (noisy_tries sensf_req e.events) (no_noisy _ e.events none))

-- six bad receptions of a wait are what the command tells
told_six : (Tells : Answer → Type 0) (kind : SeenKind) (asked : List Signal) (ns : List Note) (answer : Answer) → TellsBy kind Tells TellsFault asked ns answer → HadSixBad kind asked ns
    → answer ≡ SixBad
told_six Tells seen.T2 asked ns answer tells six = subst (λ x. TellsStanding Tells TellsFault x answer) six.1 tells
told_six Tells seen.T4 asked ns answer tells six = subst (λ x. TellsCard Tells TellsFault x answer) six tells
told_six Tells seen.T5 asked ns answer tells six = subst (λ x. TellsStanding Tells TellsFault x answer) six.1 tells
told_six Tells seen.Peer asked ns answer tells six = absurd six

no_six : (Tells : Device → Answer → Type 0) (id : DeviceId) (ds : List Device) (asked : List Signal) (es : List Event) (answer : Answer) → TagTells Tells id ds asked es answer → noise es ≡ 0
    → (kind : SeenKind) (behind : List Note) → selecting id (receptions es) ≡ Told (Ok kind) behind → HadSixBad kind asked behind → ⊥
no_six Tells id ds asked es answer t none kind behind told six =
    let same = one_end t.polled (Ok kind) t.behind behind (sym t.selected ∙ told) in
    let ends : TagEnds Tells id ds asked (Ok kind) behind answer = subst (λ ns. TagEnds Tells id ds asked (Ok kind) ns answer) same.1
    (subst (λ r. TagEnds Tells id ds asked r t.behind answer) same.0 t.ends) in
    let some : 0 < noise es = t.noisy (told_six (λ a. OfPlaced (λ d. Tells d a) (device_with (bytes_of id) ds)) kind asked behind answer ends six) in
    omega (arith, none, some)

-- a command that asks a tag begins with a reset, and its first round isn't disturbed
once_read : (s t : State) (g : Given) (e : Entry) (id : DeviceId) → LegalStep s g e t → e.command ≡ Read id → noise e.events ≡ 0 → IsQuietOnce id e.events
once_read s t g e (A id) step is none = round_of s t g e (Read (A id)) step is refl (λ h. h) refl none
once_read s t g e (V id) step is none = few_noisy (noisy_tries (inventory_of id) e.events) (no_noisy _ e.events none)

once_written : (s t : State) (g : Given) (e : Entry) (id : DeviceId) (m : Msg) → LegalStep s g e t → e.command ≡ Write id m → noise e.events ≡ 0 → IsQuietOnce id e.events
once_written s t g e (A id) m step is none = round_of s t g e (Write (A id) m) step is refl (λ h. h) refl none
once_written s t g e (V id) m step is none = few_noisy (noisy_tries (inventory_of id) e.events) (no_noisy _ e.events none)

-- so nothing keeps it from its answer
quiet_tag : (Tells : Device → Answer → Type 0) (id : DeviceId) (ds : List Device) (asked : List Signal) (es : List Event) (answer : Answer) → TagTells Tells id ds asked es answer → noise es ≡ 0
    → IsQuietOnce id es → IsUndisturbed id asked es
quiet_tag Tells id ds asked es answer tells none once = record {
  lit = no_breaks es none;
  round = once;
  waits = λ kind behind told six. no_six Tells id ds asked es answer tells none kind behind told six;
}

pub quiet_reads : QuietReads
quiet_reads s t g e id d step is placed named pass =
    let none : noise e.events ≡ 0 = quiet_of s t g e (Read id) step is refl pass in
    let L : Command → Type 0 = λ c. AnswerLaw s g c e.events e.answer in
    let law : ReadLaw s g.joins id g.asked e.events e.answer = subst L is step.answered in
    reads_complete s t g e id d step is placed named (quiet_tag TellsOf id s.world.field.listeners g.asked e.events e.answer law.tells none (once_read s t g e id step is none))

pub quiet_writes : QuietWrites
quiet_writes s t g e id m d step is placed named pass =
    let none : noise e.events ≡ 0 = quiet_of s t g e (Write id m) step is refl pass in
    let L : Command → Type 0 = λ c. AnswerLaw s g c e.events e.answer in
    let law : WritingLaw s g.joins id m g.asked e.events e.answer = subst L is step.answered in
    writes_complete s t g e id m d step is placed named
    (quiet_tag (TellsWrite (message_of m)) id s.world.field.listeners g.asked e.events e.answer law.tells none (once_written s t g e id m step is none))
