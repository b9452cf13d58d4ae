-- The commands of a work: the k-th of them, those of a job's writes, and that each can be spelled.
use Rattle.std.proofs.Common.{◌≡◌, ℕ, zero, suc, ◌+◌, ◌*◌, ◌<◌, ◌≤◌, ◌==◌, not, Bool, true, false, if◌then◌else◌, List, [], ◌∷◌, ◌++◌, length, take, drop, map, refl, sym, ◌∙◌, ap, subst, arith}
use Rattle.std.specs.Int.{div_ceil}
use Rattle.std.specs.List.{range_with_len, AllByRecursion}
use Rattle.std.proofs.lemmas.List.{length-take}
use Rattle.std.proofs.lemmas.List.FromFn.{length-map-range_with_len}
use Rattle.nfc_base.specs.Signal.{Signal}
use Rattle.nfc_base.specs.TagLinks.{LinkView, MayAsk, Type5}
use Rattle.t4t_tag.specs.Spelling.{offset_end, high_first}
use Rattle.tlv_area.specs.declared.step.Step.{Step}
use Rattle.tlv_area.specs.declared.step.Plan.{Plan}
use Rattle.tlv_area.specs.Writing.{made, steps_of}
use Rattle.tag_reader.specs.declared.how.How.{How}
use Rattle.tag_reader.specs.declared.how.How.TheVariants.{T2, T4, T5}
use Rattle.tag_reader.specs.Files.{file_in, message_length}
use Rattle.tag_reader.specs.Heard.{IsOf}
use Rattle.tag_writer.specs.declared.phase.Phase.{Phase}
use Rattle.tag_writer.specs.declared.phase.Phase.TheVariants.{Prepared, Emptied, Filled}
use Rattle.tag_writer.specs.declared.work.Work.{Work}
use Rattle.tag_writer.specs.declared.work.Work.TheVariants.{Blocks, File}
use Rattle.tag_writer.specs.Puts.{Put, commands_of, block_puts, block_command, most_brought, update_command, update_put, piece_of, file_puts}
use Rattle.tag_writer.specs.Puttings.{signal_at}
use Rattle.tag_writer.specs.Phases.{WriteJob, IsWork, how_of, next_at}
use Rattle.tag_writer.specs.Works.{IsStepFor, steps_at, IsPieceAt}
use Rattle.tag_writer.specs.Commands.{updates_in, commands_at, command_at, IsFit}
use Rattle.tag_writer.proofs.Doing.{t2_may, t5_may}
use Rattle.tag_writer.proofs.Jobs.{all_front, all_rest}
use Rattle.tag_writer.proofs.Steps.{next_steps}
use Rattle.tag_writer.proofs.FileSteps.{next_updates}
use Rattle.tag_writer.proofs.Updates.{piece_low}

-- the k-th of some commands
pub record HasCommand (cs : List Signal) (k : ℕ) : Type 0 where
  pub rest : List Signal
  pub split : cs ≡ take k cs ++ command_at cs k ∷ rest
  pub more : take (k + 1) cs ≡ take k cs ++ command_at cs k ∷ []

pub nth_command : (cs : List Signal) (k : ℕ) → k < length cs → HasCommand cs k
nth_command [] k low = absurd (omega (arith, low))
nth_command (c ∷ cs) zero low = record { rest = cs; split = refl; more = refl }
nth_command (c ∷ cs) (suc k) low =
    let tail = nth_command cs k (omega (arith, low)) in
    let next : suc k + 1 ≡ suc (k + 1) = omega arith in
    record {
      rest = tail.rest;
      split = ap (λ xs. c ∷ xs) tail.split;
      more = ap (λ n. take n (c ∷ cs)) next ∙ ap (λ xs. c ∷ xs) tail.more;
    }

-- the steps of a plan
pub steps_commands : (how : How) (size : ℕ) (steps : List Step) (k : ℕ) → signal_at (block_puts how size steps) k ≡ command_at (map (block_command how) steps) k
steps_commands how size [] k = refl
steps_commands how size (s ∷ steps) zero = refl
steps_commands how size (s ∷ steps) (suc k) = steps_commands how size steps k

pub length_commands : (how : How) (steps : List Step) → length (map (block_command how) steps) ≡ length steps
length_commands how [] = refl
length_commands how (s ∷ steps) = ap suc (length_commands how steps)

-- each can be asked for
pub fit_at : (phase : Phase) (how : How) (plan : Plan) → AllByRecursion (IsStepFor how) (steps_of plan) → AllByRecursion (IsStepFor how) (steps_at phase plan)
fit_at Prepared how plan fit = all_front (IsStepFor how) (made plan.close) plan.fill (all_front (IsStepFor how) (made plan.close ++ plan.fill) (made plan.last) fit)
fit_at Emptied how plan fit = all_rest (IsStepFor how) (made plan.close) plan.fill (all_front (IsStepFor how) (made plan.close ++ plan.fill) (made plan.last) fit)
fit_at Filled how plan fit = all_rest (IsStepFor how) (made plan.close ++ plan.fill) (made plan.last) fit

-- the pieces of a message
nth_of_run : (f : ℕ → Signal) (a n k : ℕ) → k < n → command_at (map f (range_with_len a n)) k ≡ f (a + k)
nth_of_run f a zero k low = absurd (omega (arith, low))
nth_of_run f a (suc n) zero low = (let here : a ≡ a + 0 = omega arith in ap f here)
nth_of_run f a (suc n) (suc k) low = (let next : a + 1 + k ≡ a + suc k = omega arith in nth_of_run f (a + 1) n k (omega (arith, low)) ∙ ap f next)

pub count_of : (message : List ℕ) (most : ℕ) (close : Bool) → length (updates_in Emptied message most close) ≡ div_ceil (length message) most
count_of message most close = length-map-range_with_len (piece_of update_command message most) 0 (div_ceil (length message) most)

pub piece_is : (message : List ℕ) (most k : ℕ) (close : Bool) → k < length (updates_in Emptied message most close)
    → piece_of update_command message most k ≡ command_at (updates_in Emptied message most close) k
piece_is message most k close low =
    let here : 0 + k ≡ k = omega arith in
    sym (nth_of_run (piece_of update_command message most) 0 (div_ceil (length message) most) k (omega (arith, low, count_of message most close)) ∙ ap (piece_of update_command message most) here)

pub piece_fits : (message : List ℕ) (most k : ℕ) (close : Bool) → 1 ≤ most → most ≤ 255 → 2 + length message ≤ offset_end → k < length (updates_in Emptied message most close)
    → IsPieceAt message most k
piece_fits message most k close some few small low = record {
  some = some;
  most' = few;
  begins = piece_low most (length message) k some (omega (arith, low, count_of message most close));
  small = small;
}

pub close_is : (message : List ℕ) (most k : ℕ) (close : Bool) → k < length (updates_in Prepared message most close)
    → update_command 0 (0 ∷ 0 ∷ []) ≡ command_at (updates_in Prepared message most close) k
close_is message most zero true low = refl
close_is message most (suc k) true low = absurd (omega (arith, low))
close_is message most k false low = absurd (omega (arith, low))

pub last_is : (message : List ℕ) (most k : ℕ) (close : Bool) → k < length (updates_in Filled message most close)
    → update_command 0 (high_first (length message)) ≡ command_at (updates_in Filled message most close) k
last_is message most k close low = by_length (length message == 0) k low
  where
    by_length : (v : Bool) (i : ℕ) → i < length (if v then [] else update_command 0 (high_first (length message)) ∷ []) →
        update_command 0 (high_first (length message)) ≡ command_at (if v then [] else update_command 0 (high_first (length message)) ∷ []) i
    by_length true i less = absurd (omega (arith, less))
    by_length false zero less = refl
    by_length false (suc i) less = absurd (omega (arith, less))

-- they are those of a job's writes
commands_block : (how : How) (size : ℕ) (steps : List Step) → commands_of (block_puts how size steps) ≡ map (block_command how) steps
commands_block how size [] = refl
commands_block how size (s ∷ steps) = ap (λ cs. block_command how s ∷ cs) (commands_block how size steps)

commands_run : (f : ℕ → Put) (g : ℕ → Signal) (xs : List ℕ) → ((k : ℕ) → (f k).command ≡ g k) → commands_of (map f xs) ≡ map g xs
commands_run f g [] same = refl
commands_run f g (x ∷ xs) same = ap (λ c. c ∷ commands_of (map f xs)) (same x) ∙ ap (λ cs. g x ∷ cs) (commands_run f g xs same)

file_commands : (phase : Phase) (store message : List ℕ) (most : ℕ) (close : Bool) → most ≡ most_brought store → close ≡ not (message_length (file_in store) == 0) →
    commands_of (file_puts phase store message) ≡ updates_in phase message most close
file_commands Prepared store message most close brings closes = by_length (message_length (file_in store) == 0) ∙ ap (λ v. updates_in Prepared message most v) (sym closes)
  where
    by_length : (v : Bool) → commands_of (if v then [] else update_put store 0 (0 ∷ 0 ∷ []) ∷ []) ≡ updates_in Prepared message most (not v)
    by_length true = refl
    by_length false = refl
file_commands Emptied store message most close brings closes =
    commands_run (piece_of (update_put store) message (most_brought store)) (piece_of update_command message (most_brought store)) (range_with_len 0 (div_ceil (length message) (most_brought store)))
    (λ k. refl)
    ∙ ap (λ m. updates_in Emptied message m close) (sym brings)
file_commands Filled store message most close brings closes = by_length (length message == 0)
  where
    by_length : (v : Bool) → commands_of (if v then [] else update_put store 0 (high_first (length message)) ∷ []) ≡ (if v then [] else update_command 0 (high_first (length message)) ∷ [])
    by_length true = refl
    by_length false = refl

pub commands_are : (phase : Phase) (j : WriteJob) (work : Work) → IsWork j work → commands_of (next_at phase j) ≡ commands_at phase work
commands_are phase j (Blocks how plan) is = ap commands_of (next_steps phase j how plan is) ∙ commands_block how j.size (steps_at phase plan)
commands_are phase j (File message most close) is =
    ap commands_of (next_updates phase j message most close is) ∙ file_commands phase j.store message most close is.parts.most' is.parts.close'

signals_commands : (ps : List Put) (k : ℕ) → signal_at ps k ≡ command_at (commands_of ps) k
signals_commands [] k = refl
signals_commands (p ∷ ps) zero = refl
signals_commands (p ∷ ps) (suc k) = signals_commands ps k

length_of : (ps : List Put) → length (commands_of ps) ≡ length ps
length_of [] = refl
length_of (p ∷ ps) = ap suc (length_of ps)

pub counted_as : (phase : Phase) (j : WriteJob) (work : Work) (n : ℕ) → IsWork j work → n ≡ length (commands_at phase work) → n ≡ length (next_at phase j)
counted_as phase j work n is count = count ∙ ap length (sym (commands_are phase j work is)) ∙ length_of (next_at phase j)

pub commanded_as : (phase : Phase) (j : WriteJob) (work : Work) (k : ℕ) (c : Signal) → IsWork j work → c ≡ command_at (commands_at phase work) k → c ≡ signal_at (next_at phase j) k
commanded_as phase j work k c is asks = asks ∙ ap (λ cs. command_at cs k) (sym (commands_are phase j work is)) ∙ sym (signals_commands (next_at phase j) k)

-- what a tag of the work's kind may be asked
block_may : (how : How) (v : LinkView) (s : Step) → IsOf how v → IsStepFor how s → MayAsk v.kind v.identifier (block_command how s)
block_may T2 v s of fit = subst (λ k. MayAsk k v.identifier (block_command T2 s)) (sym of.kind) (t2_may v.identifier s)
block_may T4 v s of fit = absurd fit
block_may (T5 id) v s of fit =
    subst (λ k. MayAsk k v.identifier (block_command (T5 id) s)) (sym of.kind) (subst (λ i. MayAsk Type5 i (block_command (T5 id) s)) (sym of.named.0) (t5_may id s))

steps_may : (how : How) (v : LinkView) (steps : List Step) (k : ℕ) → IsOf how v → AllByRecursion (IsStepFor how) steps → k < length (map (block_command how) steps) →
    MayAsk v.kind v.identifier (command_at (map (block_command how) steps) k)
steps_may how v [] k of fit low = absurd (omega (arith, low))
steps_may how v (s ∷ steps) zero of fit low = block_may how v s of fit.0
steps_may how v (s ∷ steps) (suc k) of fit low = steps_may how v steps k of fit.1 (omega (arith, low))

update_may : (v : LinkView) (offset : ℕ) (bytes : List ℕ) → IsOf T4 v → length bytes ≤ 255 → MayAsk v.kind v.identifier (update_command offset bytes)
update_may v offset bytes of short = subst (λ k. MayAsk k v.identifier (update_command offset bytes)) (sym of.kind) (refl, omega (arith, short))

updates_may : (phase : Phase) (v : LinkView) (message : List ℕ) (most : ℕ) (close : Bool) (k : ℕ) → IsOf T4 v → most ≤ 255 → k < length (updates_in phase message most close) →
    MayAsk v.kind v.identifier (command_at (updates_in phase message most close) k)
updates_may Prepared v message most close k of few low =
    subst (λ c. MayAsk v.kind v.identifier c) (close_is message most k close low) (update_may v 0 (0 ∷ 0 ∷ []) of (omega arith))
updates_may Emptied v message most close k of few low =
    subst (λ c. MayAsk v.kind v.identifier c) (piece_is message most k close low)
    (update_may v (2 + most * k) (take most (drop (most * k) message)) of (omega (arith, length-take most (drop (most * k) message), few)))
updates_may Filled v message most close k of few low =
    subst (λ c. MayAsk v.kind v.identifier c) (last_is message most k close low) (update_may v 0 (high_first (length message)) of (omega arith))

pub work_may : (phase : Phase) (work : Work) (v : LinkView) (k : ℕ) → IsOf (how_of work) v → IsFit work → k < length (commands_at phase work)
    → MayAsk v.kind v.identifier (command_at (commands_at phase work) k)
work_may phase (Blocks how plan) v k of fit low = steps_may how v (steps_at phase plan) k of (fit_at phase how plan fit) low
work_may phase (File message most close) v k of fit low = updates_may phase v message most close k of fit.1.0 low
