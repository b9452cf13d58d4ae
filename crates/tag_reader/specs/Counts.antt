-- How few commands a reading or a survey of a Type 5 tag takes.
use Rattle.std.specs.Prelude.{◌≡◌, ℕ, zero, suc, ◌+◌, ◌<◌, ◌≤◌, ◌/◌, ◌%◌, ◌⊎◌, Bool, true, false, List, [], ◌∷◌, ◌++◌}
use Rattle.std.specs.Prelude.{length, map, filter, slice_index}
use Rattle.std.specs.List.{sum_by}
use Rattle.std.specs.Int.{div_ceil}
use Rattle.nfc_base.specs.TagLinks.{LinkView}
use Rattle.t5t_tag.specs.Store.{blocks_in}
use Rattle.tlv_area.specs.Containers.{t5_is_open}
use Rattle.t5t_tag.specs.Spelling.{short_numbers, most_content}
use Rattle.tag_reader.specs.declared.how.How.{How}
use Rattle.tag_reader.specs.declared.how.How.TheVariants.{T2, T4, T5}
use Rattle.tag_reader.specs.declared.ask.Ask.{Ask}
use Rattle.tag_reader.specs.declared.ask.Ask.TheVariants.{One, Many}
use Rattle.tag_reader.specs.Blocks.{IsOne, ask_frame, ask_count, known_at, ask_at, progress_at}
use Rattle.tag_reader.specs.Kinds.{OfTag, first}
use Rattle.tag_reader.specs.Asked.{Aim, AreDueFor}

-- several blocks of which a store doesn't have the last
abbrev pub IsRefused : ℕ → List ℕ → Ask → Type 0
IsRefused size store (One block) = ⊥
IsRefused size store (Many block more) = blocks_in size store ≤ block + more

-- the k-th command of a reading, counted from 0, is refused
abbrev pub IsRefusedAt : ℕ → List ℕ → ℕ → Type 0
IsRefusedAt size store k = IsRefused size store (ask_at size store (progress_at size store k))

-- what the first n commands of a reading ask for
abbrev pub first_asks : ℕ → List ℕ → ℕ → List Ask
first_asks size store zero = []
first_asks size store (suc n) = first_asks size store n ++ ask_at size store (progress_at size store n) ∷ []

-- those for several blocks at once (READ MULTIPLE BLOCKS), and how many blocks some ask for
abbrev pub is_many : Ask → Bool
is_many (One block) = false
is_many (Many block more) = true

abbrev pub several : List Ask → List Ask
several asks = filter is_many asks

abbrev pub blocks_asked : List Ask → ℕ
blocks_asked asks = sum_by ask_count asks

-- Of the first n commands of a reading, which ask for these blocks, at most one is refused. Where none is, each block
-- is asked for once; and where bit 0 of byte 3 allows several at once too, blocks are asked for alone only until the
-- container is whole, and from block 256 on. Besides, several at once are asked for at most once for each 256 bytes,
-- rounded up, of the blocks that are asked for so.
pub record IsFew (id : List ℕ) (size : ℕ) (store : List ℕ) (n : ℕ) : Type 0 where
  pub list : first (T5 id) size store n ≡ map (λ a. ask_frame id a) (first_asks size store n)
  pub refused : (j k : ℕ) → j < n → k < n → IsRefusedAt size store j → IsRefusedAt size store k → j ≡ k
  pub once : ((k : ℕ) → k < n → IsRefusedAt size store k → ⊥)
      → blocks_asked (first_asks size store n) ≡ (progress_at size store n).blocks
  pub singles : slice_index store 3 % 2 ≡ 1 → ((k : ℕ) → k < n → IsRefusedAt size store k → ⊥) →
      (k : ℕ) → k < n → IsOne (ask_at size store (progress_at size store k)) →
      (t5_is_open (known_at size store (progress_at size store k)) ≡ true)
      ⊎ (short_numbers ≤ (progress_at size store k).blocks)
  pub seldom : length (several (first_asks size store n))
      ≤ div_ceil (blocks_asked (several (first_asks size store n))) (most_content / size)

abbrev pub IsFewOf : How → ℕ → List ℕ → ℕ → Type 0
IsFewOf T2 size store n = Unit {0}
IsFewOf T4 size store n = Unit {0}
IsFewOf (T5 id) size store n = IsFew id size store n

-- whatever the number of commands that are answered
abbrev pub AsksFew : Aim → How → LinkView → Type 0
AsksFew aim how a = OfTag how a (λ size. (n : ℕ) → AreDueFor aim how size a.state.store n
    → IsFewOf how size a.state.store n)
