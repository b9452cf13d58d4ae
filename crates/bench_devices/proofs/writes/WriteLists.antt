-- The list of what a write asks of a device: there is one, and a tag that takes commands as they are sent may be asked each of it.
use Rattle.std.proofs.Common.{◌≡◌, ℕ, zero, suc, inl, inr, ◌⊎◌, List, [], ◌∷◌, ◌++◌, Bool, true, false, if◌then◌else◌, refl, sym, subst}
use Rattle.std.specs.Prelude.{is_some}
use Rattle.std.specs.List.{AllByRecursion}
use Rattle.nfc_base.specs.Signal.{Signal}
use Rattle.nfc_base.specs.TagLinks.{TagState, TagStep, MayAsk, plain_state}
use Rattle.air_core.specs.PlainTags.{plain_kind}
use Rattle.tlv_area.specs.declared.step.Step.{Step}
use Rattle.tlv_area.specs.declared.space.Space.{Space}
use Rattle.tlv_area.specs.Writing.{made, steps_of}
use Rattle.tag_reader.specs.declared.how.How.{How}
use Rattle.tag_reader.specs.declared.how.How.TheVariants as hows
use Rattle.tag_reader.specs.Kinds.{command, first}
use Rattle.tag_reader.specs.Blocks.{ask_at, progress_at}
use Rattle.tag_reader.specs.Asked.{ToWrite, IsAskedFor}
use Rattle.tag_reader.specs.Survey.{surveyed}
use Rattle.tag_reader.proofs.BlockTurns.{may_ask}
use Rattle.tag_writer.specs.Place.{Place, Takes, TakesNot}
use Rattle.tag_writer.specs.Puts.{Put, commands_of, block_command, block_puts}
use Rattle.tag_writer.specs.WriteAsked.{Parts, all_puts, AreAreaPuts, ArePuts, AreWrites, refusal_in, up_to_refused}
use Rattle.tag_writer.proofs.Doing.{t2_may, t5_may}
use Rattle.tag_writer.proofs.Jobs.{all_rest}
use Rattle.bench_devices.specs.declared.device.Device.{Device}
use Rattle.bench_devices.specs.declared.device.Device.TheVariants.{T2, T4, Peer, T5, T3}
use Rattle.bench_devices.specs.Device.{device_tech, device_id, device_store, device_commands, how_of, size_of, may_be_read}
use Rattle.bench_devices.specs.Keeping.{kept, IsSound}
use Rattle.bench_devices.specs.private.Linking.{IsPlain}
use Rattle.bench_devices.specs.Writing.{AsksWriteOf}
use Rattle.bench_devices.proofs.reads.ReadingTags.{no_tag}
use Rattle.bench_devices.proofs.writes.SurveyLists.{two_surveyed, four_surveyed, five_surveyed}
use Rattle.tag_writer.proofs.SomeParts.{IsBlocks}
use Rattle.bench_devices.proofs.writes.WriteParts.{takes_decided, some_writes}

some_surveyed : (d : Device) → may_be_read d ≡ true → IsSound (kept d) → (xs : List Signal) × IsAskedFor ToWrite (how_of d) (size_of d) (device_store d) xs
some_surveyed (T2 d) tag is = two_surveyed 16 d.upper.store refl
some_surveyed (T4 d) tag is = four_surveyed 0 (device_store (T4 d))
some_surveyed (Peer d) tag is = absurd cc
some_surveyed (T3 p) tag is = absurd cc
some_surveyed (T5 p) tag is = five_surveyed p.tag.id p.tag.size p.tag.store is.3

of_blocks : (d : Device) → may_be_read d ≡ true → IsSound (kept d) → IsBlocks (how_of d) (size_of d) (device_store d)
of_blocks (T2 d) tag is = is.2
of_blocks (T4 d) tag is = tt
of_blocks (Peer d) tag is = absurd cc
of_blocks (T5 p) tag is = tt
of_blocks (T3 p) tag is = absurd cc

pub some_write : (message : List ℕ) (d : Device) → may_be_read d ≡ true → IsSound (kept d) → (xs : List Signal) × AsksWriteOf message d xs
some_write message d tag is =
    let read = some_surveyed d tag is in
    let parts = some_writes (how_of d) (size_of d) (device_store d) message (of_blocks d tag is) in
    let behind : List Signal = up_to_refused (how_of d) (device_commands d) (surveyed (how_of d) (plain_state (device_store d))) (commands_of (all_puts parts.0)) in
    (read.0 ++ behind, record { read = read.0; all = read.1; parts = parts.0; writes = parts.1; list = refl })

-- what holds of all holds of a front, and of two parts
pub front_all : {A : Type 0} (P : A → Type 0) (xs ys : List A) → AllByRecursion P (xs ++ ys) → AllByRecursion P xs
front_all P [] ys all = tt
front_all P (x ∷ xs) ys all = (all.0, front_all P xs ys all.1)

pub both_all : {A : Type 0} (P : A → Type 0) (xs ys : List A) → AllByRecursion P xs → AllByRecursion P ys → AllByRecursion P (xs ++ ys)
both_all P [] ys p q = q
both_all P (x ∷ xs) ys p q = (p.0, both_all P xs ys p.1 q)

pub up_to_all : (P : Signal → Type 0) (how : How) (step : TagState → Signal → TagStep) (s : TagState) (cs : List Signal) → AllByRecursion P cs → AllByRecursion P (up_to_refused how step s cs)
up_to_all P how step s [] all = tt
up_to_all P how step s (c ∷ cs) all = (all.0, by_refusal (is_some (refusal_in how (step s c).answer)) (up_to_all P how step (step s c).after cs all.1))
  where
    by_refusal : (v : Bool) → AllByRecursion P (up_to_refused how step (step s c).after cs) → AllByRecursion P (if v then [] else up_to_refused how step (step s c).after cs)
    by_refusal true more = tt
    by_refusal false more = more

pub first_all : (P : Signal → Type 0) (how : How) (size : ℕ) (store : List ℕ) → ((k : ℕ) → P (command how size store k)) → (n : ℕ) → AllByRecursion P (first how size store n)
first_all P how size store each zero = tt
first_all P how size store each (suc n) = both_all P (first how size store n) (command how size store n ∷ []) (first_all P how size store each n) (each n, tt)

-- The commands of writes, of blocks and of all parts.
module _ (P : Signal → Type 0) (how : How) (size : ℕ) where
  abbrev pub AllPuts : List Put → Type 0
  AllPuts ps = AllByRecursion P (commands_of ps)

  pub puts_both : (ps qs : List Put) → AllPuts ps → AllPuts qs → AllPuts (ps ++ qs)
  puts_both [] qs p q = q
  puts_both (x ∷ ps) qs p q = (p.0, puts_both ps qs p.1 q)

  steps_all : (ss : List Step) → AllByRecursion (λ s. P (block_command how s)) ss → AllPuts (block_puts how size ss)
  steps_all [] all = tt
  steps_all (s ∷ ss) all = (all.0, steps_all ss all.1)

  -- those of an area are the steps of its plan
  pub area_all : (space : Space) (store message : List ℕ) (p : Parts) → (are : AreAreaPuts how size space store message p) → AllByRecursion (λ s. P (block_command how s)) (steps_of are.plan)
      → AllPuts (all_puts p)
  area_all space store message p are all =
      let Q : Step → Type 0 = λ s. P (block_command how s) in
      let front = front_all Q (made are.plan.close ++ are.plan.fill) (made are.plan.last) all in
      puts_both (p.close ++ p.fill) p.last
      (puts_both p.close p.fill (subst AllPuts (sym are.close) (steps_all (made are.plan.close) (front_all Q (made are.plan.close) are.plan.fill front)))
      (subst AllPuts (sym are.fill) (steps_all are.plan.fill (all_rest Q (made are.plan.close) are.plan.fill front))))
      (subst AllPuts (sym are.last) (steps_all (made are.plan.last) (all_rest Q (made are.plan.close ++ are.plan.fill) (made are.plan.last) all)))

-- where the store takes the message; else there are none
pub writes_all : (P : Signal → Type 0) (how : How) (size : ℕ) (store message : List ℕ) (p : Parts) → AreWrites how size store message p
    → ((place : Place) → Takes how size store message place → ArePuts how size store message p → AllByRecursion P (commands_of (all_puts p))) → AllByRecursion P (commands_of (all_puts p))
writes_all P how size store message p w each = by_takes (takes_decided how size store message)
  where
    by_takes : ((place : Place) × Takes how size store message place) ⊎ TakesNot how size store message → AllByRecursion P (commands_of (all_puts p))
    by_takes (inl t) = each t.0 t.1 (w.takes t.0 t.1)
    by_takes (inr n) = subst (λ ps. AllByRecursion P (commands_of ps)) (sym (w.none n)) tt

pub always : (P : Step → Type 0) → ((s : Step) → P s) → (ss : List Step) → AllByRecursion P ss
always P each [] = tt
always P each (s ∷ ss) = (each s, always P each ss)

pub may_all : (message : List ℕ) (d : Device) → IsPlain d → (xs : List Signal) → AsksWriteOf message d xs → AllByRecursion (MayAsk (plain_kind (device_tech d)) (device_id d)) xs
may_all message (T2 d) plain xs is =
    let P : Signal → Type 0 = MayAsk (plain_kind (device_tech (T2 d))) (device_id (T2 d)) in
    let store : List ℕ = d.upper.store in
    let step : TagState → Signal → TagStep = device_commands (T2 d) in
    subst (AllByRecursion P) (sym is.list)
    (both_all P is.read (up_to_refused hows.T2 step (plain_state store) (commands_of (all_puts is.parts)))
    (subst (AllByRecursion P) (sym is.all.list) (first_all P hows.T2 16 store (λ k. refl) is.all.count))
    (up_to_all P hows.T2 step (plain_state store) (commands_of (all_puts is.parts))
    (writes_all P hows.T2 16 store message is.parts is.writes (λ place takes are. area_all P hows.T2 16 are.0 store message is.parts are.2
    (always (λ s. P (block_command hows.T2 s)) (t2_may (device_id (T2 d))) (steps_of are.2.plan))))))
may_all message (T4 d) plain xs is = absurd plain.0
may_all message (Peer d) plain xs is = absurd (no_tag plain.1)
may_all message (T3 p) plain xs is = absurd (no_tag plain.1)
may_all message (T5 p) plain xs is =
    let P : Signal → Type 0 = MayAsk (plain_kind (device_tech (T5 p))) (device_id (T5 p)) in
    let how : How = hows.T5 p.tag.id in
    let store : List ℕ = p.tag.store in
    let step : TagState → Signal → TagStep = device_commands (T5 p) in
    subst (AllByRecursion P) (sym is.list)
    (both_all P is.read (up_to_refused how step (plain_state store) (commands_of (all_puts is.parts)))
    (subst (AllByRecursion P) (sym is.all.list) (first_all P how p.tag.size store (λ k. may_ask p.tag.id (ask_at p.tag.size store (progress_at p.tag.size store k))) is.all.count))
    (up_to_all P how step (plain_state store) (commands_of (all_puts is.parts))
    (writes_all P how p.tag.size store message is.parts is.writes (λ place takes are. area_all P how p.tag.size are.0 store message is.parts are.2
    (always (λ s. P (block_command how s)) (t5_may p.tag.id) (steps_of are.2.plan))))))
