-- A command that finds a Type 3 tag and asks it something: where all passes, each note behind the search is a whole answer.
use Rattle.std.proofs.Common.{◌≡◌, ◌⊎◌, inl, inr, ℕ, List, [], length, true, Option, Some, None, refl, ◌∙◌, ap, subst}
use Rattle.std.specs.List.{AllByRecursion}
use Rattle.air_core.specs.Conversation.{AreTurns, EachDue, FatesFrom, Moment}
use Rattle.t3t_tag.specs.Store.{IsT3Store}
use Rattle.bench_script.specs.declared.command.Command.{Command}
use Rattle.bench_script.specs.declared.command.Command.TheVariants.{Read3, Write3}
use Rattle.bench_script.specs.declared.message.Msg.{Msg}
use Rattle.bench_script.specs.Messages.{message_of}
use Rattle.bench_script.specs.Script.{Spells}
use Rattle.bench_devices.specs.declared.device.Device.{Device}
use Rattle.bench_devices.specs.Device.{BenchWorld, air, device_locks, device_store, kind_of}
use Rattle.bench_devices.specs.Kinds.{DeviceKind, T2Kind, T3Kind, T4Kind, PeerKind, T5Kind}
use Rattle.bench_devices.specs.Placed.{IfPlaced, device_with}
use Rattle.bench_devices.specs.Sensing.{has_three}
use Rattle.bench_devices.specs.ThreeAsking.{three_due}
use Rattle.bench_devices.specs.Threes.{ReadAsksThree, WriteAsksThreeOf}
use Rattle.bench_devices.proofs.type3.ThreesHeard.{IsHeeded, reads_heeded, three_hears, writes_heeded}
use Rattle.bench_world.specs.declared.entry.Entry.{Entry}
use Rattle.bench_world.specs.Legal.{Given, IsAskedBy, LegalStep, State, changed, due}
use Rattle.bench_world.specs.Quiet.{AllPass}
use Rattle.bench_world.specs.QuietHearing.{AnswersSought, sought_by}
use Rattle.bench_world.specs.Threes.{AreWellStored, IfThree, IsWellStored}
use Rattle.bench_world.proofs.tags.Fronts.{on_field}
use Rattle.bench_world.proofs.tags.Numbers.{UsesFars}
use Rattle.bench_world.proofs.devices.Reached.{IsReady}
use Rattle.bench_world.proofs.tags.ThreeLegality.{of_three}
use Rattle.bench_world.proofs.calm.ThreesComplete.{is_there}
use Rattle.bench_world.proofs.devices.WellStored.{with_all}

-- where the air of the devices stands before it
abbrev start : State → Moment BenchWorld
start s = record { world = s.world.field; queue = s.queue; trace = [] }

module _ (s t : State) (g : Given) (line : List ℕ) (e : Entry) (r : IsReady s.world.field.listeners) (well : AreWellStored s.world.field.listeners) (sp : Spells line e.command)
    (step : LegalStep s g e t)
    (pass : AllPass (changed s e.command).queue) where
  abbrev ds : List Device
  ds = s.world.field.listeners

  abbrev Heeds : List ℕ → Type 0
  Heeds id = ((has_three id ds ≡ true) × AllByRecursion (IsHeeded id) g.asked) ⊎ (g.asked ≡ [])

  -- the tag that is placed heeds what is asked of it, and nothing is asked of what is none
  heeds : (id : List ℕ) (P : Device → Type 0) → ((d : Device) → device_with id ds ≡ Some d → kind_of d ≡ T3Kind → P d → AllByRecursion (IsHeeded id) g.asked) → (o : Option Device)
      → device_with id ds ≡ o
      → IfPlaced (λ d. IfThree (kind_of d) (P d) (g.asked ≡ [])) (g.asked ≡ []) o → Heeds id
  heeds id P each None found asks = inr asks
  heeds id P each (Some d) found asks = by_kind (kind_of d) refl asks
    where
      by_kind : (k : DeviceKind) → kind_of d ≡ k → IfThree k (P d) (g.asked ≡ []) → Heeds id
      by_kind T2Kind is h = inr h
      by_kind T3Kind is h = inl (is_there id ds d found is, each d found is h)
      by_kind T4Kind is h = inr h
      by_kind PeerKind is h = inr h
      by_kind T5Kind is h = inr h

  stored : (id : List ℕ) (d : Device) → device_with id ds ≡ Some d → kind_of d ≡ T3Kind → IsT3Store (device_store d)
  stored id d found kind = of_three (kind_of d) kind _ (Unit {0}) (with_all IsWellStored id ds d well found)

  three_answered : (id : List ℕ) → length id ≡ 8 → (UsesFars e.command → ⊥) → (changed s e.command).queue ≡ s.queue → (changed s e.command).world.field ≡ s.world.field
      → due s g e.command ≡ three_due id g.asked → Heeds id
      → AnswersSought id e
  three_answered id size quiet queue same next heeded behind told =
      three_hears id size g.asked (start s) r.tame.sound heeded e.events (subst (λ q. AllPass q) queue pass)
      (subst (λ (w : BenchWorld). AreTurns air w e.events) same (on_field s t g e.command e.events quiet step.front).turns)
      (subst (λ q. FatesFrom q e.events) queue step.front.fates) (subst (λ d. EachDue d [] e.events) next step.front.each) behind told

  read_sought : (id : List ℕ) → e.command ≡ Read3 id → AnswersSought id e
  read_sought id is =
      let spelled : Spells line (Read3 id) = let C : Command → Type 0 = λ c. Spells line c in subst C is sp in
      let size : length id ≡ 8 = spelled.2.1 in
      three_answered id size (λ h. subst UsesFars is h) (ap (λ c. (changed s c).queue) is) (ap (λ c. (changed s c).world.field) is) (ap (λ c. due s g c) is)
      (heeds id (λ d. ReadAsksThree id (device_store d) g.asked) (λ d found kind asks. reads_heeded id (device_store d) size (stored id d found kind) g.asked asks) (device_with id ds) refl
      (subst (λ c. IsAskedBy s c g.asked) is step.front.asks))

  write_sought : (id : List ℕ) (m : Msg) → e.command ≡ Write3 id m → AnswersSought id e
  write_sought id m is =
      let spelled : Spells line (Write3 id m) = let C : Command → Type 0 = λ c. Spells line c in subst C is sp in
      let size : length id ≡ 8 = spelled.3.1 in
      three_answered id size (λ h. subst UsesFars is h) (ap (λ c. (changed s c).queue) is) (ap (λ c. (changed s c).world.field) is) (ap (λ c. due s g c) is)
      (heeds id (λ d. WriteAsksThreeOf id (message_of m) d g.asked)
      (λ d found kind asks. writes_heeded id (device_store d) size (stored id d found kind) (device_locks d) (message_of m) g.asked asks) (device_with id ds) refl
      (subst (λ c. IsAskedBy s c g.asked) is step.front.asks))

  by_sought : (c : Command) → e.command ≡ c → (id : List ℕ) → sought_by c ≡ Some id → AnswersSought id e
  by_sought (Read3 i) is id of = let same : i ≡ id = cc in read_sought id (is ∙ ap Read3 same)
  by_sought (Write3 i m) is id of = let same : i ≡ id = cc in write_sought id m (is ∙ ap (λ x. Write3 x m) same)
  by_sought c is id of = absurd (let clash : ◌≡◌ {A = Option (List ℕ)} None (Some id) = of in cc)

  pub sought_answered : (id : List ℕ) → sought_by e.command ≡ Some id → AnswersSought id e
  sought_answered id of = by_sought e.command refl id of
