-- A reading under way: what the Checks so far brought.
use Rattle.std.proofs.Common.{◌≡◌, ℕ, suc, ◌+◌, ◌-◌, ◌<◌, inr, List, [], ◌++◌, take, drop, min, Bool, ◌==◌, Result, Ok, Err, refl, sym, ◌∙◌, ap, subst}
use Rattle.nfc_base.specs.Signal.{Signal}
use Rattle.nfc_base.specs.TagLinks.{LinkView}
use Rattle.t3t_tag.specs.Attributes.{write_flag, access_flag, message_length}
use Rattle.t3t_tag.specs.Store.{attributes}
use Rattle.t3t_tag.specs.Form.{IsSized}
use Rattle.t3t_access.specs.declared.fault.T3Fault.{T3Fault}
use Rattle.t3t_access.specs.declared.fault.T3Fault.TheVariants as fault
use Rattle.t3t_access.specs.Talk.{Answered}
use Rattle.t3t_access.specs.Answers.{TellsCheck}
use Rattle.t3t_access.specs.Reading.{needed, most_at_once, taken_at, count_at, first_checks, Reads, Stops, Whole, Holds, FaultTold}

-- so many blocks behind block 0 are read
pub record IsUnder (id : List ℕ) (a b : LinkView) (block bytes : List ℕ) (taken : ℕ) : Type 0 where
  pub number : ℕ
  pub is : taken ≡ taken_at block number
  pub reads : Reads id a b block (suc number) bytes

-- what is told of the next Check, of so many blocks
abbrev pub NextTold : List ℕ → LinkView → LinkView → List Signal → ℕ → ℕ → Result (List ℕ) T3Fault → Type 0
NextTold id a b cs first count result = TellsCheck id first count a b cs result

-- one Check more is answered
pub goes_on : (id : List ℕ) (a m b : LinkView) (block bytes : List ℕ) (taken count : ℕ) (x : List ℕ) → IsSized block → write_flag block ≡ 0 → IsUnder id a m block bytes taken → taken < needed block
    → count ≡ min (most_at_once block) (needed block - taken)
    → take 16 (bytes ++ x) ≡ block → ((cs : List Signal) → Answered a m cs → NextTold id a b cs (1 + taken) count (Ok x)) → IsUnder id a b block (bytes ++ x) (taken + count)
goes_on id a m b block bytes taken count x sized flag under less is head told =
    let n : ℕ = under.number in
    let same : count ≡ count_at block (suc n) = is ∙ ap (λ t. min (most_at_once block) (needed block - t)) under.is in
    let P : ℕ → ℕ → Type 0 = λ t k. NextTold id a b (first_checks id block (suc n)) (1 + t) k (Ok x) in
    let next : P (taken_at block n) (count_at block (suc n)) =
    subst (λ k. P (taken_at block n) k) same (subst (λ t. P t count) under.is (told (first_checks id block (suc n)) under.reads.answered)) in
    record {
      number = suc n;
      is = ap (λ t. t + count) under.is ∙ ap (λ k. taken_at block n + k) same;
      reads = record {
        answered = next.answered;
        brought = (bytes, x, refl, under.reads.brought, (sized, flag, subst (λ t. t < needed block) under.is less), next.reply, next.says, next.holds);
        head = head;
      };
    }

-- what stops a reading is told
pub fault_of : (id : List ℕ) (a b : LinkView) (e : T3Fault) → Stops id a b e → FaultTold id a b e
fault_of id a b fault.NotNdef s = absurd s.told
fault_of id a b fault.Version s = absurd s.told
fault_of id a b fault.BadSize s = absurd s.told
fault_of id a b (fault.Refused status) s = s
fault_of id a b fault.FieldLost s = s
fault_of id a b fault.SixBad s = s
fault_of id a b fault.Memory s = inr s
fault_of id a b fault.ReadOnly s = absurd s.told
fault_of id a b (fault.TooLong most) s = absurd s.told
fault_of id a b fault.Protocol s = s
fault_of id a b fault.Unfinished s = absurd s.told

-- or it stops the reading
pub stops : (id : List ℕ) (a m b : LinkView) (block bytes : List ℕ) (taken count : ℕ) (e : T3Fault) → IsSized block → write_flag block ≡ 0 → IsUnder id a m block bytes taken → taken < needed block
    → count ≡ min (most_at_once block) (needed block - taken) → ((cs : List Signal) → Answered a m cs → NextTold id a b cs (1 + taken) count (Err e)) → FaultTold id a b e
stops id a m b block bytes taken count e sized flag under less is told =
    let n : ℕ = under.number in
    let same : count ≡ count_at block (suc n) = is ∙ ap (λ t. min (most_at_once block) (needed block - t)) under.is in
    let P : ℕ → ℕ → Type 0 = λ t k. NextTold id a b (first_checks id block (suc n)) (1 + t) k (Err e) in
    let next : P (taken_at block n) (count_at block (suc n)) =
    subst (λ k. P (taken_at block n) k) same (subst (λ t. P t count) under.is (told (first_checks id block (suc n)) under.reads.answered)) in
    fault_of id a b e (record {
      block = block;
      number = suc n;
      bytes = bytes;
      brought = under.reads.brought;
      head = under.reads.head;
      due = (sized, flag, subst (λ t. t < needed block) under.is less);
      told = next;
    })

-- the first Check
pub begins : (id : List ℕ) (a b : LinkView) (x : List ℕ) → take 16 x ≡ x → NextTold id a b [] 0 1 (Ok x) → Reads id a b x 1 x
begins id a b x head told = record { answered = told.answered; brought = ([], x, refl, refl, tt, told.reply, told.says, told.holds); head = head }

pub begins_not : (id : List ℕ) (a b : LinkView) (e : T3Fault) → NextTold id a b [] 0 1 (Err e) → FaultTold id a b e
begins_not id a b e told = fault_of id a b e (record { block = []; number = 0; bytes = []; brought = refl; head = tt; due = tt; told = told })

-- the blocks are read, and say this message
pub holds_of : (id : List ℕ) (a b : LinkView) (block bytes m : List ℕ) (w : Bool) → Whole id a b block bytes → take 16 bytes ≡ block → IsSized block → write_flag block ≡ 0
    → m ≡ take (message_length block) (drop 16 bytes) → w ≡ (access_flag block == 1) → Holds id a b m w
holds_of id a b block bytes m w whole head sized flag message access =
    let at : block ≡ attributes bytes = sym head in
    record {
      bytes = bytes;
      number = whole.number;
      reads = subst (λ x. Reads id a b x (suc whole.number) bytes) at whole.reads;
      whole = subst (λ x. taken_at x whole.number ≡ needed x) at whole.whole;
      is = (subst IsSized at sized, subst (λ x. write_flag x ≡ 0) at flag, message ∙ ap (λ x. take (message_length x) (drop 16 bytes)) at);
      access = access ∙ ap (λ x. access_flag x == 1) at;
    }
