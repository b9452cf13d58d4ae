-- A reading of a Type 5 tag under way: what the tag answers, and how far each answer brings it.
use Rattle.std.proofs.Common.{◌≡◌, ℕ, zero, suc, ◌+◌, ◌-◌, ◌*◌, ◌/◌, ◌%◌, ◌<◌, ◌≤◌, inl, inr, ◌⊎◌, List, [], ◌∷◌, ◌++◌, length, take, drop, Bool, true, false, not, nat_le, if◌then◌else◌, append_assoc}
use Rattle.std.proofs.Common.{refl, sym, ◌∙◌, ap, subst, arith}
use Rattle.std.specs.Prelude.{◌&&◌, ◌==◌, nat_lt, Option, Some, Result, Ok, Err}
use Rattle.std.proofs.lemmas.Bool.{cases_Bool, cases_lt, leb-true, leb-false, le-leb}
use Rattle.std.proofs.lemmas.List.{length-take-le}
use Rattle.std.proofs.Math.Seq.{take-add}
use Rattle.std.proofs.Math.Nat.{mul-div_cancel_left, mul-div-le, zero-div, div-zero, mul-le-mul_left, lt_of_mul-lt-mul_left}
use Rattle.nfc_base.specs.Signal.{Signal}
use Rattle.nfc_base.specs.Blocks.{block_of}
use Rattle.nfc_base.specs.TagLinks.{TagState, TagStep, LinkView, MayAsk, Type5}
use Rattle.t5t_tag.specs.Store.{T5State, IsT5Shape, IsT5Store, block_count, blocks_in}
use Rattle.t5t_tag.specs.Step.{refuses, tells, not_supported, no_block, blocks_of, read_turn, read_many_turn, out_of_round, sent, t5_answer, t5_after}
use Rattle.t5t_tag.specs.Spelling as t5
use Rattle.t5t_tag.specs.declared.answer.T5Answer.{T5Answer}
use Rattle.t5t_tag.specs.declared.answer.T5Answer.TheVariants as t5_says
use Rattle.t5t_tag.proofs.Steps.{read_turns, read_many_turns, read_wide_turns, read_leaves, read_many_leaves}
use Rattle.t5t_tag.proofs.Stores.{block_room, blocks_room, length_block, length_blocks}
use Rattle.tlv_area.specs.declared.container.ContainerFault.{ContainerFault}
use Rattle.tlv_area.specs.declared.container.T5Container.{T5Container}
use Rattle.tlv_area.specs.declared.container.T5Container.TheVariants.{Ready, More}
use Rattle.tlv_area.specs.Containers.{t5_front}
use Rattle.tag_reader.specs.declared.how.How.TheVariants.{T5}
use Rattle.tag_reader.specs.declared.ask.Ask.{Ask}
use Rattle.tag_reader.specs.declared.ask.Ask.TheVariants.{One, Many}
use Rattle.tag_reader.specs.declared.known.Known.{Known}
use Rattle.tag_reader.specs.declared.fault.ReadFault.{ReadFault}
use Rattle.tag_reader.specs.declared.fault.ReadFault.TheVariants as fault
use Rattle.tag_reader.specs.declared.told.BlocksTold.TheVariants.{Single, Ended}
use Rattle.tag_reader.specs.Blocks.{ask_frame, ask_count, IsOne, IsMany, most_blocks, ask_by, next_ask, Progress, known_at, ask_at, ask_answer, progress_behind, progress_at}
use Rattle.tag_reader.specs.Kinds.{IsTag, command, first, t5_memory}
use Rattle.tag_reader.specs.Asked.{Aim, ToRead, ToWrite, IsNextFor, IsDueFor, AreDueFor}
use Rattle.tag_reader.specs.Heard.{HasContent, IsBlocks}
use Rattle.tag_reader.specs.Steps.{Answers, Fails, Asks, Reads}
use Rattle.tag_reader.specs.private.BlockSteps.{TellsBlocks, Reached, size_at, IsReading, HasRunOut}
use Rattle.tag_reader.proofs.Links.{Keeps}
use Rattle.tag_reader.proofs.Knowing.{due_more_for, after_more, stays_on, goes_on_on}
use Rattle.tag_reader.proofs.Endings.{ends_first, ends_asks}
use Rattle.tag_reader.proofs.BlockLists.{sizes}

-- several blocks that are asked for have at most 256 bytes
abbrev pub IsSmall : ℕ → Ask → Type 0
IsSmall size (One block) = Unit {0}
IsSmall size (Many block more) = size * (more + 1) ≤ 256

-- what a tag does at a command: it answers, and stays as it is
told_by : (t : T5State) (v : Bool) (x : T5Answer) → sent (if v then refuses t no_block else tells t x).answer ≡ Some (t5.answer_frame (if v then t5_says.Error no_block else x))
told_by t true x = refl
told_by t false x = refl

one_told : (t : T5State) (block : ℕ) → sent (read_turn t block).answer ≡ Some (t5.answer_frame (ask_answer t.size t.store (One block)))
one_told t block = told_by t (nat_le (block_count t) block) (t5_says.Content (record { items = block_of t.size t.store block }))

many_told : (t : T5State) (block more : ℕ) → t.size * (more + 1) ≤ 256 → sent (read_many_turn t block more).answer ≡ Some (t5.answer_frame (ask_answer t.size t.store (Many block more)))
many_told t block more small =
    let fits : nat_le (t.size * (more + 1)) 256 ≡ true = le-leb (t.size * (more + 1)) 256 small in
    let content : T5Answer = t5_says.Content (record { items = blocks_of t.size t.store block (more + 1) }) in
    ap (λ v. sent (if nat_le (block_count t) (block + more) then refuses t no_block else if not v then refuses t not_supported else tells t content).answer) fits
    ∙ told_by t (nat_le (block_count t) (block + more)) content

record Turns (t : T5State) (a : Ask) (f : Signal) : Type 0 where
  answer : t5_answer t f ≡ Some (t5.answer_frame (ask_answer t.size t.store a))
  store : (t5_after t f).store ≡ t.store

turns : (t : T5State) (a : Ask) → IsT5Shape t → IsSmall t.size a → Turns t a (ask_frame t.id a)
turns t (One block) is small = elim (cases_Bool (nat_lt block 256)) [
  | inl short ↦ rw short (record {
    answer = ap (λ r. sent r.answer) (read_turns t is block) ∙ one_told (out_of_round t) block;
    store = ap (λ r. r.after.store) (read_turns t is block) ∙ (read_leaves (out_of_round t) block).store;
  })
  | inr wide ↦ rw wide (record {
    answer = ap (λ r. sent r.answer) (read_wide_turns t is block) ∙ one_told (out_of_round t) block;
    store = ap (λ r. r.after.store) (read_wide_turns t is block) ∙ (read_leaves (out_of_round t) block).store;
  })
]
turns t (Many block more) is small = record {
  answer = ap (λ r. sent r.answer) (read_many_turns t is block more) ∙ many_told (out_of_round t) block more small;
  store = ap (λ r. r.after.store) (read_many_turns t is block more) ∙ (read_many_leaves (out_of_round t) block more).store;
}

may_code : (id : List ℕ) (a : Ask) → MayAsk Type5 id (ask_frame id a)
may_code id (One block) = elim (cases_Bool (nat_lt block 256)) [
  | inl short ↦ rw short (record { code = 32; rest = block ∷ []; frame = refl })
  | inr wide ↦ rw wide (record { code = 48; rest = block % 256 ∷ block / 256 ∷ []; frame = refl })
]
may_code id (Many block more) = record { code = 35; rest = block ∷ more ∷ []; frame = refl }

pub may_ask : (id : List ℕ) (a : Ask) → MayAsk Type5 id (ask_frame id a)
may_ask id a = may_code id a

same_step : (r q : Option Signal) (s t : List ℕ) (st : TagState) → r ≡ q → s ≡ t → ◌≡◌ {A = TagStep} (record { answer = r; after = record st { store = s } })
    (record { answer = q; after = record st { store = t } })
same_step r q s t st one two = rw (one, two) refl

pub keeps_blocks : (id : List ℕ) (size : ℕ) (v : LinkView) (a : Ask) → IsTag (T5 id) size v → IsSmall size a →
    Keeps v (ask_frame id a) (t5.answer_frame (ask_answer size v.state.store a)) v.state
keeps_blocks id size v a is small =
    let t : T5State = t5_memory id size is.steps.0 is.steps.1 v.state in
    let tag : IsT5Shape t = record { id = is.named.1; bytes = is.named.2; store = is.store } in
    let turn = turns t a tag small in
    record {
      step = is.steps.2 v.state (ask_frame id a) is.store (may_ask id a)
          ∙ same_step (t5_answer t (ask_frame id a)) (Some (t5.answer_frame (ask_answer size v.state.store a))) (t5_after t (ask_frame id a)).store v.state.store v.state turn.answer turn.store;
      store = refl;
    }

-- the tag at a later view
tag_by : (id : List ℕ) (size : ℕ) (a b : LinkView) → IsTag (T5 id) size a → b.kind ≡ a.kind → b.identifier ≡ a.identifier → b.step ≡ a.step → b.state ≡ a.state → IsTag (T5 id) size b
tag_by id size a b is kind identifier step state = record {
  kind = kind ∙ is.kind;
  named = (identifier ∙ is.named.0, is.named.1, is.named.2);
  store = subst (λ s. IsT5Store size s) (sym (ap (λ s. s.store) state)) is.store;
  steps = (is.steps.0, is.steps.1, λ t c store may. ap (λ st. st t c) step ∙ is.steps.2 t c store may);
}

pub tag_at : {aim : Aim} (id : List ℕ) (size n : ℕ) (a b : LinkView) (known : Known) → IsReading aim id size a b known n → IsTag (T5 id) size b
tag_at id size zero a b known r = subst (λ v. IsTag (T5 id) size v) (sym r.reached) r.tag
tag_at id size (suc n) a b known r = tag_by id size a b r.tag r.reached.stays.leads.kind r.reached.stays.leads.identifier r.reached.stays.leads.step r.state

-- how many bytes are known
pub known_long : {aim : Aim} (id : List ℕ) (size n : ℕ) (a b : LinkView) (known : Known) → IsReading aim id size a b known n
    → length known.bytes.items ≡ size * (progress_at size a.state.store n).blocks
known_long id size n a b known r = ap length r.bytes ∙ length-take-le (size * (progress_at size a.state.store n).blocks) a.state.store r.within

-- what is asked is what the store's list has
first_ask : (single : Bool) (size : ℕ) (known : List ℕ) → known ≡ [] → next_ask 0 single known ≡ next_ask size single known
first_ask single size known none =
    let zero' : length known / 0 ≡ length known / size = div-zero (length known) ∙ sym (ap (λ xs. length xs / size) none ∙ zero-div size) in
    rw none (let e : 0 / 0 ≡ 0 / size = div-zero 0 ∙ sym (zero-div size) in ap (λ b. One b) e)

pub asks_is : {aim : Aim} (id : List ℕ) (size n : ℕ) (a b : LinkView) (known : Known) → IsReading aim id size a b known n
    → next_ask known.size known.single known.bytes.items ≡ ask_at size a.state.store (progress_at size a.state.store n)
asks_is id size zero a b known r =
    let none : size * 0 ≡ 0 = omega arith in
    let empty : known.bytes.items ≡ [] = r.bytes ∙ ap (λ m. take m a.state.store) none in
    ap (λ m. next_ask m known.single known.bytes.items) r.size' ∙ first_ask known.single size known.bytes.items empty
    ∙ ap (λ v. next_ask size v known.bytes.items) r.single ∙ ap (λ xs. next_ask size false xs) r.bytes
asks_is id size (suc n) a b known r =
    ap (λ m. next_ask m known.single known.bytes.items) r.size' ∙ ap (λ v. next_ask size v known.bytes.items) r.single
    ∙ ap (λ xs. next_ask size (progress_at size a.state.store (suc n)).single xs) r.bytes

-- it is of the block behind those that are known, and small
pub record IsFrom (size block : ℕ) (a : Ask) : Type 0 where
  pub place : (b : ℕ) → a ≡ One b → b ≡ block
  pub places : (b more : ℕ) → a ≡ Many b more → b ≡ block
  pub small : IsSmall size a

few : (size n block : ℕ) → size ≤ 32 → 4 ≤ size → size * (most_blocks size n block - 1 + 1) ≤ 256
few size n block most least =
    let bytes : size * (256 / size) ≤ 256 = mul-div-le 256 size in
    let low : most_blocks size n block ≤ 256 / size = omega arith in
    let grown : size * most_blocks size n block ≤ size * (256 / size) = mul-le-mul_left size low in
    elim (cases_lt 0 (most_blocks size n block)) [
      | inl some ↦ (let e : most_blocks size n block - 1 + 1 ≡ most_blocks size n block = omega (arith, some) in rw e (omega (arith, grown, bytes)))
      | inr none ↦ (let e : most_blocks size n block - 1 + 1 ≡ 1 = omega (arith, none) in rw e (omega (arith, most)))
    ]

one_from : (size block : ℕ) → IsFrom size block (One block)
one_from size block = record { place = λ b e. cc; places = λ b more e. absurd (cc); small = tt }

from_by : (size : ℕ) (single : Bool) (block : ℕ) (r : Result T5Container ContainerFault) → size ≤ 32 → 4 ≤ size → IsFrom size block (ask_by size single block r)
from_by size single block (Ok More) most least = one_from size block
from_by size single block (Err f) most least = one_from size block
from_by size single block (Ok (Ready space wide many)) most least = by_flag (many && not single && nat_lt block 256)
  where
    by_flag : (v : Bool) → IsFrom size block (if v then Many block (most_blocks size space.end block - 1) else One block)
    by_flag false = one_from size block
    by_flag true = record { place = λ b e. absurd (cc); places = λ b more e. cc; small = few size space.end block most least }

pub asks_from : (size : ℕ) (store : List ℕ) (p : Progress) → IsT5Store size store → size * p.blocks ≤ length store → IsFrom size p.blocks (ask_at size store p)
asks_from size store p is within =
    let facts = sizes size store is in
    let long : length (known_at size store p) ≡ size * p.blocks = length-take-le (size * p.blocks) store within in
    let block : length (known_at size store p) / size ≡ p.blocks = ap (λ m. m / size) long ∙ mul-div_cancel_left p.blocks (omega (arith, facts.least)) in
    subst (λ b. IsFrom size b (ask_at size store p)) block (from_by size p.single (length (known_at size store p) / size) (t5_front (known_at size store p)) facts.most facts.least)

-- a command more is answered
due_after : (aim : Aim) (id : List ℕ) (size n : ℕ) (store : List ℕ) → AreDueFor aim (T5 id) size store n → IsDueFor aim (T5 id) size store n → AreDueFor aim (T5 id) size store (suc n)
due_after aim id size n store before here = (let e : n + 1 ≡ suc n = omega arith in subst (λ m. AreDueFor aim (T5 id) size store m) e (due_more_for aim (T5 id) size store n before here))

pub reaches : (aim : Aim) (id : List ℕ) (size n : ℕ) (a b c : LinkView) → Reached aim (T5 id) size a b n → IsDueFor aim (T5 id) size a.state.store n
    → Answers (command (T5 id) size a.state.store n) b c → Asks aim (T5 id) size a c (suc n)
reaches aim id size zero a b c reached due answer =
    let here : Answers (command (T5 id) size a.state.store 0) a c = subst (λ v. Answers (command (T5 id) size a.state.store 0) v c) reached answer in
    record { stays = here.stays; before = here.before; goes_on = here.goes_on; each = λ k low. inl (omega arith); answered = here.answered; last = here.last; after = here.after }
reaches aim id size (suc n) a b c asks due answer = record {
  stays = stays_on a b c asks.stays answer.stays;
  before = asks.before;
  goes_on = goes_on_on a b c asks.goes_on answer.goes_on;
  each = due_after aim id size (suc n) a.state.store asks.each due;
  answered = answer.answered ∙ ap (λ xs. xs ++ command (T5 id) size a.state.store (suc n) ∷ []) asks.answered
      ∙ append_assoc a.answered (first (T5 id) size a.state.store (suc n)) (command (T5 id) size a.state.store (suc n) ∷ []);
  last = answer.last;
  after = after_more a b c (first (T5 id) size a.state.store (suc n)) (command (T5 id) size a.state.store (suc n)) asks.stays.leads.step asks.after answer.after;
}

-- or it fails
pub fails : (aim : Aim) (id : List ℕ) (size n : ℕ) (a b c : LinkView) (e : ReadFault) → Reached aim (T5 id) size a b n → IsDueFor aim (T5 id) size a.state.store n
    → Fails (command (T5 id) size a.state.store n) b c e →
    Reads aim (T5 id) size a c [] (Err e)
fails aim id size zero a b c e reached due f = ends_first aim (T5 id) size a c [] e (subst (λ v. Fails (command (T5 id) size a.state.store 0) v c e) reached f)
fails aim id size (suc n) a b c e asks due f = ends_asks aim (T5 id) size a b c [] (suc n) e asks due f

-- what the answer tells
pub content_is : (id p q : List ℕ) (r : Signal) → HasContent (T5 id) r p → r ≡ t5.answer_frame (t5_says.Content (record { items = q })) → p ≡ q
content_is id p q r is e = ap (λ f. drop 1 f.bytes) (sym is.frame ∙ e)

pub content_error : (id p : List ℕ) (r : Signal) (code : ℕ) → HasContent (T5 id) r p → r ≡ t5.answer_frame (t5_says.Error code) → ⊥
content_error id p r code is e = (let clash : 0 ∷ p ≡ 1 ∷ code ∷ [] = ap (λ f. f.bytes) (sym is.frame ∙ e) in cc)

-- the bytes that are known grow by the content
take_blocks : (size : ℕ) (store : List ℕ) (b count : ℕ) → take (size * (b + count)) store ≡ take (size * b) store ++ take (size * count) (drop (size * b) store)
take_blocks size store b count = (let sum : size * (b + count) ≡ size * b + size * count = grind arith in ap (λ m. take m store) sum ∙ take-add (size * b) (size * count) store)

one_block : (size : ℕ) (store : List ℕ) (b : ℕ) → take (size * (b + 1)) store ≡ take (size * b) store ++ block_of size store b
one_block size store b = (let e : size * 1 ≡ size = omega arith in take_blocks size store b 1 ∙ ap (λ m. take (size * b) store ++ take m (drop (size * b) store)) e)

-- several that it has, or one
pub record Learned (size : ℕ) (store : List ℕ) (p q : Progress) (a : Ask) (content : List ℕ) : Type 0 where
  pub bytes : known_at size store q ≡ known_at size store p ++ content
  pub single : q.single ≡ p.single
  pub within : size * q.blocks ≤ length store
  pub long : length content ≡ size * ask_count a

one_learned : (size : ℕ) (store : List ℕ) (p : Progress) (b : ℕ) → b ≡ p.blocks → b < blocks_in size store → Learned size store p (record p { blocks = p.blocks + 1 }) (One b) (block_of size store b)
one_learned size store p b place low =
    let room = block_room size store b low in
    let next : size * (p.blocks + 1) ≡ size * p.blocks + size = omega arith in
    let same : size * b ≡ size * p.blocks = ap (λ m. size * m) place in
    record {
      bytes = one_block size store p.blocks ∙ ap (λ m. take (size * p.blocks) store ++ block_of size store m) (sym place);
      single = refl;
      within = omega (arith, room, next, same);
      long = length_block size store b low ∙ (let e : size ≡ size * 1 = omega arith in e);
    }

many_learned : (size : ℕ) (store : List ℕ) (p : Progress) (b more : ℕ) → b ≡ p.blocks → b + more < blocks_in size store →
    Learned size store p (record p { blocks = p.blocks + (more + 1) }) (Many b more) (blocks_of size store b (more + 1))
many_learned size store p b more place low =
    let room = blocks_room size store b (more + 1) (omega (arith, low)) in
    let next : size * (p.blocks + (more + 1)) ≡ size * p.blocks + size * (more + 1) = grind arith in
    let same : size * b ≡ size * p.blocks = ap (λ m. size * m) place in
    record {
      bytes = take_blocks size store p.blocks (more + 1) ∙ ap (λ m. take (size * p.blocks) store ++ blocks_of size store m (more + 1)) (sym place);
      single = refl;
      within = omega (arith, room, next, same);
      long = length_blocks size store b (more + 1) (omega (arith, low));
    }

pub learned : (id content : List ℕ) (r : Signal) (size : ℕ) (store : List ℕ) (p : Progress) (a : Ask) → IsFrom size p.blocks a → HasContent (T5 id) r content
    → r ≡ t5.answer_frame (ask_answer size store a) →
    Learned size store p (progress_behind size store p a) a content
learned id content r size store p (One b) from is e = by_end (nat_le (blocks_in size store) b) refl e
  where
    by_end : (v : Bool) → nat_le (blocks_in size store) b ≡ v → r ≡ t5.answer_frame (if v then t5_says.Error no_block else t5_says.Content (record { items = block_of size store b })) →
        Learned size store p (record p { blocks = p.blocks + 1 }) (One b) content
    by_end true past same = absurd (content_error id content r no_block is same)
    by_end false low same =
        subst (λ c. Learned size store p (record p { blocks = p.blocks + 1 }) (One b) c) (sym (content_is id content (block_of size store b) r is same))
        (one_learned size store p b (from.place b refl) (leb-false (blocks_in size store) b low))
learned id content r size store p (Many b more) from is e = by_end (nat_le (blocks_in size store) (b + more)) refl e
  where
    by_end : (v : Bool) → nat_le (blocks_in size store) (b + more) ≡ v →
        r ≡ t5.answer_frame (if v then t5_says.Error no_block else t5_says.Content (record { items = blocks_of size store b (more + 1) })) →
        Learned size store p (if v then record p { single = true } else record p { blocks = p.blocks + (more + 1) }) (Many b more) content
    by_end true past same = absurd (content_error id content r no_block is same)
    by_end false low same =
        subst (λ c. Learned size store p (record p { blocks = p.blocks + (more + 1) }) (Many b more) c) (sym (content_is id content (blocks_of size store b (more + 1)) r is same))
        (many_learned size store p b more (from.places b more refl) (leb-false (blocks_in size store) (b + more) low))

-- a refusal of several
pub refused : (r : Signal) (code size : ℕ) (store : List ℕ) (p : Progress) (a : Ask) → IsMany a → r ≡ t5.answer_frame (t5_says.Error code) → r ≡ t5.answer_frame (ask_answer size store a) →
    progress_behind size store p a ≡ record p { single = true }
refused r code size store p (One b) many error e = absurd many
refused r code size store p (Many b more) many error e = by_end (nat_le (blocks_in size store) (b + more)) e
  where
    by_end : (v : Bool) → r ≡ t5.answer_frame (if v then t5_says.Error no_block else t5_says.Content (record { items = blocks_of size store b (more + 1) })) →
        (if v then record p { single = true } else record p { blocks = p.blocks + (more + 1) }) ≡ record p { single = true }
    by_end true same = refl
    by_end false same = (let clash : 1 ∷ code ∷ [] ≡ 0 ∷ blocks_of size store b (more + 1) = ap (λ f. f.bytes) (sym error ∙ same) in absurd (cc))

-- an error of one block: the store ends before it
pub one_error : (r : Signal) (code size : ℕ) (store : List ℕ) (a : Ask) → IsOne a → r ≡ t5.answer_frame (t5_says.Error code) → r ≡ t5.answer_frame (ask_answer size store a) →
    (b : ℕ) × (a ≡ One b) × (blocks_in size store ≤ b) × (code ≡ no_block)
one_error r code size store (Many b more) one error e = absurd one
one_error r code size store (One b) one error e = by_end (nat_le (blocks_in size store) b) refl e
  where
    by_end : (v : Bool) → nat_le (blocks_in size store) b ≡ v → r ≡ t5.answer_frame (if v then t5_says.Error no_block else t5_says.Content (record { items = block_of size store b })) →
        (c : ℕ) × (One b ≡ One c) × (blocks_in size store ≤ c) × (code ≡ no_block)
    by_end true past same = (b, refl, leb-true (blocks_in size store) b past, (let both : 1 ∷ code ∷ [] ≡ 1 ∷ no_block ∷ [] = ap (λ f. f.bytes) (sym error ∙ same) in cc))
    by_end false low same = (let clash : 1 ∷ code ∷ [] ≡ 0 ∷ block_of size store b = ap (λ f. f.bytes) (sym error ∙ same) in absurd (cc))

-- all of the store is known then
pub runs_out : (size : ℕ) (store : List ℕ) (p : Progress) (a : Ask) (b : ℕ) → IsT5Store size store → size * p.blocks ≤ length store → IsFrom size p.blocks a → a ≡ One b → blocks_in size store ≤ b →
    length store ≡ size * p.blocks
runs_out size store p a b is within from e past =
    let facts = sizes size store is in
    let place : b ≡ p.blocks = from.place b e in
    let grown : size * blocks_in size store ≤ size * p.blocks = mul-le-mul_left size (omega (arith, place, past)) in
    omega (arith, grown, facts.blocks, within)

-- the first block is asked for alone
pub first_one : (size : ℕ) (store : List ℕ) → IsOne (ask_at size store (progress_at size store zero))
first_one size store =
    let none : size * 0 ≡ 0 = omega arith in
    let empty : take (size * 0) store ≡ [] = ap (λ m. take m store) none in
    subst (λ xs. IsOne (next_ask size false xs)) (sym empty) tt

pub first_is : (size : ℕ) (store : List ℕ) (b : ℕ) → IsT5Store size store → ask_at size store (progress_at size store zero) ≡ One b → blocks_in size store ≤ b → ⊥
first_is size store b is e past =
    let facts = sizes size store is in
    let none : size * 0 ≡ 0 = omega arith in
    let from = asks_from size store (progress_at size store zero) is (omega (arith, none)) in
    omega (arith, from.place b e, past, facts.some)

count_one : (a : Ask) → IsOne a → ask_count a ≡ 1
count_one (One b) one = refl
count_one (Many b more) one = absurd one

pub blocks_fit : (size : ℕ) (a : Ask) (p : List ℕ) → 0 < size → length p ≡ size * ask_count a → IsBlocks size a p
blocks_fit zero a p some same = absurd (omega (arith, some))
blocks_fit (suc size) a p some same = same

-- what this tag brings is as long as it was asked for
content_of : (size : ℕ) (store : List ℕ) (a : Ask) → IsT5Store size store → IsSmall size a →
    ((code : ℕ) × (ask_answer size store a ≡ t5_says.Error code)) ⊎ ((content : List ℕ) × (ask_answer size store a ≡ t5_says.Content (record { items = content }))
    × (length content ≡ size * ask_count a))
content_of size store (One b) is small = by_end (nat_le (blocks_in size store) b) refl
  where
    by_end : (v : Bool) → nat_le (blocks_in size store) b ≡ v → ((code : ℕ) × ((if v then t5_says.Error no_block else t5_says.Content (record { items = block_of size store b })) ≡ t5_says.Error code))
        ⊎ ((content : List ℕ) × ((if v then t5_says.Error no_block else t5_says.Content (record { items = block_of size store b })) ≡ t5_says.Content (record { items = content }))
        × (length content ≡ size * 1))
    by_end true past = inl (no_block, refl)
    by_end false low = inr (block_of size store b, refl, length_block size store b (leb-false (blocks_in size store) b low) ∙ (let e : size ≡ size * 1 = omega arith in e))
content_of size store (Many b more) is small = by_end (nat_le (blocks_in size store) (b + more)) refl
  where
    by_end : (v : Bool) → nat_le (blocks_in size store) (b + more) ≡ v
        → ((code : ℕ) × ((if v then t5_says.Error no_block else t5_says.Content (record { items = blocks_of size store b (more + 1) })) ≡ t5_says.Error code))
        ⊎ ((content : List ℕ) × ((if v then t5_says.Error no_block else t5_says.Content (record { items = blocks_of size store b (more + 1) })) ≡ t5_says.Content (record { items = content }))
        × (length content ≡ size * (more + 1)))
    by_end true past = inl (no_block, refl)
    by_end false low = inr (blocks_of size store b (more + 1), refl, length_blocks size store b (more + 1) (let within = leb-false (blocks_in size store) (b + more) low in omega (arith, within)))

fours : (m n : ℕ) → m % 4 ≡ 0 → (m * n) % 4 ≡ 0
fours m n h = sym (Rattle.std.proofs.lemmas.Nat.mul-mod_first m n 4) ∙ ap (λ k. (k * n) % 4) h ∙ ap (λ k. k % 4) (Rattle.std.proofs.Math.Nat.zero-mul n)

small_bytes : (size : ℕ) (a : Ask) → IsSmall size a → size ≤ 32 → size * ask_count a ≤ 256
small_bytes size (One b) small most = (let e : size * 1 ≡ size = omega arith in omega (arith, e, most))
small_bytes size (Many b more) small most = small

-- so it is told no fault
first_long : (size n : ℕ) (store : List ℕ) (content : List ℕ) → length content ≡ size * ask_count (ask_at size store (progress_at size store n)) → IsT5Store size store →
    IsBlocks (size_at size n) (ask_at size store (progress_at size store n)) content
first_long size zero store content long is =
    let facts = sizes size store is in
    let one : ask_count (ask_at size store (progress_at size store zero)) ≡ 1 = count_one (ask_at size store (progress_at size store zero)) (first_one size store) in
    let e : size * ask_count (ask_at size store (progress_at size store zero)) ≡ size * 1 = ap (λ m. size * m) one in
    let f : size * 1 ≡ size = omega arith in
    omega (arith, long, e, f, facts.least)
first_long size (suc n) store content long is =
    (let facts = sizes size store is in blocks_fit size (ask_at size store (progress_at size store (suc n))) content (omega (arith, facts.least)) long)

pub no_fault : (id : List ℕ) (size n : ℕ) (store : List ℕ) (a : Ask) (known r' : ℕ) (r : Signal) (e : ReadFault) → IsT5Store size store → size * (progress_at size store n).blocks ≤ length store →
    a ≡ ask_at size store (progress_at size store n) → known ≡ size_at size n → r ≡ t5.answer_frame (ask_answer size store (ask_at size store (progress_at size store n)))
    → TellsBlocks id a known r (Err e) → ⊥
no_fault id size n store a known r' r e is within same known_is answer tells = by_fault e
    (subst (λ k. TellsBlocks id (ask_at size store (progress_at size store n)) k r (Err e)) known_is (subst (λ x. TellsBlocks id x known r (Err e)) same tells))
  where
    by_fault : (f : ReadFault) → TellsBlocks id (ask_at size store (progress_at size store n)) (size_at size n) r (Err f) → ⊥
    by_fault fault.Protocol told = elim (content_of size store (ask_at size store (progress_at size store n)) is (asks_from size store (progress_at size store n) is within).small) [
      | inl error ↦ told.1 error.0 (answer ∙ ap (λ x. t5.answer_frame x) error.1)
      | inr content ↦
          (let facts = sizes size store is in
          let small = small_bytes size (ask_at size store (progress_at size store n)) (asks_from size store (progress_at size store n) is within).small facts.most in
          let frame = answer ∙ ap (λ x. t5.answer_frame x) content.1 in
          let multiple : length content.0 % 4 ≡ 0 = ap (λ m. m % 4) content.2 ∙ fours size (ask_count (ask_at size store (progress_at size store n))) facts.multiple in
          told.0 content.0 (record { range = (omega (arith, content.2, small), multiple); frame = frame }) (first_long size n store content.0 content.2 is))
    ]
    by_fault (fault.Refused code) told = by_number n refl
      where
        by_number : (m : ℕ) → m ≡ n → ⊥
        by_number m e' = (let ended = one_error r code size store (ask_at size store (progress_at size store n)) told.0 told.1 answer in by_first n told ended)
          where
            by_first : (k : ℕ) → TellsBlocks id (ask_at size store (progress_at size store k)) (size_at size k) r (Err (fault.Refused code)) →
                (b : ℕ) × (ask_at size store (progress_at size store k) ≡ One b) × (blocks_in size store ≤ b) × (code ≡ no_block) → ⊥
            by_first zero t ended = first_is size store ended.0 is ended.1 ended.2
            by_first (suc k) t ended = (let facts = sizes size store is in t.2 (omega (arith, facts.least)) ended.3)
    by_fault fault.NotNdef told = told
    by_fault fault.Version told = told
    by_fault fault.NoRead told = told
    by_fault fault.Sectors told = told
    by_fault fault.BadSize told = told
    by_fault fault.NoMessageTlv told = told
    by_fault fault.BadTlv told = told
    by_fault fault.FieldLost told = told
    by_fault fault.SixBad told = told
    by_fault fault.Memory told = told

-- the tag answers what is asked
pub keeps_next : {aim : Aim} (id : List ℕ) (size n : ℕ) (a b : LinkView) (known : Known) → IsReading aim id size a b known n →
    Keeps b (command (T5 id) size a.state.store n) (t5.answer_frame (ask_answer size a.state.store (ask_at size a.state.store (progress_at size a.state.store n)))) b.state
keeps_next id size n a b known r =
    let from = asks_from size a.state.store (progress_at size a.state.store n) r.tag.store r.within in
    subst (λ s. Keeps b (command (T5 id) size a.state.store n) (t5.answer_frame (ask_answer size s (ask_at size a.state.store (progress_at size a.state.store n)))) b.state)
    (ap (λ s. s.store) r.state) (keeps_blocks id size b (ask_at size a.state.store (progress_at size a.state.store n)) (tag_at id size n a b known r) from.small)

first_size_is : (size n : ℕ) (store content : List ℕ) (new : ℕ) → IsT5Store size store → length content ≡ size * ask_count (ask_at size store (progress_at size store n)) →
    new ≡ (if size_at size n == 0 then length content else size_at size n) → new ≡ size
first_size_is size zero store content new is long e =
    let one : ask_count (ask_at size store (progress_at size store zero)) ≡ 1 = count_one (ask_at size store (progress_at size store zero)) (first_one size store) in
    let a : size * ask_count (ask_at size store (progress_at size store zero)) ≡ size * 1 = ap (λ m. size * m) one in
    let b : size * 1 ≡ size = omega arith in
    e ∙ long ∙ a ∙ b
first_size_is size (suc n) store content new is long e =
    let facts = sizes size store is in
    let some : (size == 0) ≡ false = grind (arith, facts.least) in
    rw some at e

-- what it brings is known then
pub learns_next : (aim : Aim) (id : List ℕ) (size n : ℕ) (a b c : LinkView) (known new : Known) (x : Ask) (r : Signal) (content : List ℕ) → IsReading aim id size a b known n
    → IsDueFor aim (T5 id) size a.state.store n →
    x ≡ ask_at size a.state.store (progress_at size a.state.store n) → r ≡ t5.answer_frame (ask_answer size a.state.store (ask_at size a.state.store (progress_at size a.state.store n))) →
    Answers (command (T5 id) size a.state.store n) b c → c.state ≡ b.state → HasContent (T5 id) r content × IsBlocks known.size x content →
    new.size ≡ (if known.size == 0 then length content else known.size) → new.single ≡ known.single → new.bytes.items ≡ known.bytes.items ++ content → IsReading aim id size a c new (suc n)
learns_next aim id size n a b c known new x r content reading due same answer answers state tells sized single bytes =
    let store : List ℕ = a.state.store in
    let p : Progress = progress_at size store n in
    let from = asks_from size store p reading.tag.store reading.within in
    let more = learned id content r size store p (ask_at size store p) from tells.0 answer in
    record {
      tag = reading.tag;
      reached = reaches aim id size n a b c reading.reached due answers;
      state = state ∙ reading.state;
      size' = first_size_is size n store content new.size reading.tag.store more.long (sized ∙ ap (λ k. if k == 0 then length content else k) reading.size');
      single = single ∙ reading.single ∙ sym more.single;
      bytes = bytes ∙ ap (λ xs. xs ++ content) reading.bytes ∙ sym more.bytes;
      within = more.within;
    }

-- or that it gives no several blocks
pub single_next : (aim : Aim) (id : List ℕ) (size n : ℕ) (a b c : LinkView) (known : Known) (x : Ask) (r : Signal) → IsReading aim id size a b known n → IsDueFor aim (T5 id) size a.state.store n →
    x ≡ ask_at size a.state.store (progress_at size a.state.store n) → r ≡ t5.answer_frame (ask_answer size a.state.store (ask_at size a.state.store (progress_at size a.state.store n))) →
    Answers (command (T5 id) size a.state.store n) b c → c.state ≡ b.state → TellsBlocks id x known.size r (Ok Single) → IsReading aim id size a c (record known { single = true }) (suc n)
single_next aim id size n a b c known x r reading due same answer answers state tells =
    let store : List ℕ = a.state.store in
    let p : Progress = progress_at size store n in
    let many : IsMany (ask_at size store p) = subst IsMany same tells.0 in
    let behind : progress_behind size store p (ask_at size store p) ≡ record p { single = true } = refused r tells.1 size store p (ask_at size store p) many tells.2 answer in
    let blocks : (progress_behind size store p (ask_at size store p)).blocks ≡ p.blocks = ap (λ q. q.blocks) behind in
    record {
      tag = reading.tag;
      reached = reaches aim id size n a b c reading.reached due answers;
      state = state ∙ reading.state;
      size' = by_number n many reading.size';
      single = sym (ap (λ q. q.single) behind);
      bytes = reading.bytes ∙ ap (λ m. take (size * m) store) (sym blocks);
      within = subst (λ m. size * m ≤ length store) (sym blocks) reading.within;
    }
  where
    not_one : (y : Ask) → IsOne y → IsMany y → ⊥
    not_one (One b) one many = many
    not_one (Many b more) one many = one

    by_number : (m : ℕ) → IsMany (ask_at size a.state.store (progress_at size a.state.store m)) → known.size ≡ size_at size m → known.size ≡ size
    by_number zero many e = absurd (not_one (ask_at size a.state.store (progress_at size a.state.store zero)) (first_one size a.state.store) many)
    by_number (suc m) many e = e

-- what is due is due only where the tag hasn't ended
left_within : (aim : Aim) (id : List ℕ) (size : ℕ) (store : List ℕ) (n : ℕ) → IsNextFor aim (T5 id) size store n → size * (progress_at size store n).blocks ≤ length store
left_within ToRead id size store n due = due.within
left_within ToWrite id size store n due = due.within

-- or that it has ended
pub ended_next : (aim : Aim) (id : List ℕ) (size n : ℕ) (a b c : LinkView) (known : Known) (x : Ask) (r : Signal) → IsReading aim id size a b known n → IsDueFor aim (T5 id) size a.state.store n →
    x ≡ ask_at size a.state.store (progress_at size a.state.store n) → r ≡ t5.answer_frame (ask_answer size a.state.store (ask_at size a.state.store (progress_at size a.state.store n))) →
    Answers (command (T5 id) size a.state.store n) b c → c.state ≡ b.state → TellsBlocks id x known.size r (Ok Ended) → HasRunOut aim id size a c known known n
ended_next aim id size n a b c known x r reading due same answer answers state tells =
    let store : List ℕ = a.state.store in
    let p : Progress = progress_at size store n in
    let from = asks_from size store p reading.tag.store reading.within in
    let ended = one_error r no_block size store (ask_at size store p) (subst IsOne same tells.0) tells.2 answer in
    record {
      asks = reaches aim id size n a b c reading.reached due answers;
      end = runs_out size store p (ask_at size store p) ended.0 reading.tag.store reading.within from ended.1 ended.2;
      no_more = past (runs_out size store p (ask_at size store p) ended.0 reading.tag.store reading.within from ended.1 ended.2) (ap (λ y. progress_behind size store p y) ended.1);
      state = state ∙ reading.state;
      same = refl;
    }
  where
    past : length a.state.store ≡ size * (progress_at size a.state.store n).blocks →
        progress_at size a.state.store (suc n) ≡ record (progress_at size a.state.store n) { blocks = (progress_at size a.state.store n).blocks + 1 } → IsDueFor aim (T5 id) size a.state.store (suc n)
        → ⊥
    past end behind (inl first) = omega arith
    past end behind (inr due') =
        let facts = sizes size a.state.store reading.tag.store in
        let within : size * ((progress_at size a.state.store n).blocks + 1) ≤ length a.state.store =
        subst (λ q. size * q.blocks ≤ length a.state.store) behind (left_within aim id size a.state.store (suc n) due') in
        let next : size * ((progress_at size a.state.store n).blocks + 1) ≡ size * (progress_at size a.state.store n).blocks + size = omega arith in
        omega (arith, within, next, end, facts.least)
