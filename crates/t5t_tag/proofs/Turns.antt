-- What holds of each kind of turn holds of the turn of every frame.
use Rattle.std.proofs.Common.{◌≡◌, ℕ, ◌+◌, ◌*◌, ◌<◌, ◌≤◌, List, [], ◌∷◌, length, drop, Bool, true, false, not, nat_le, ◌==◌, ◌&&◌, if◌then◌else◌, Option, Some, None, refl, arith}
use Rattle.nfc_base.specs.Signal.{Signal}
use Rattle.nfc_base.specs.Blocks.{block_of}
use Rattle.t5t_tag.specs.declared.answer.T5Answer.TheVariants.{Present, Content}
use Rattle.t5t_tag.specs.Store.{T5State, id_size, block_count, is_locked}
use Rattle.t5t_tag.specs.declared.round.Round.{Round}
use Rattle.t5t_tag.specs.Mask.{asks_for}
use Rattle.t5t_tag.specs.Slots.{slot_of, asks_in_slots, begun}
use Rattle.t5t_tag.specs.Spelling.{addressed_flags, plain_flags, inventory_flags, slots_flags, inventory_code, quiet_code, most_content}
use Rattle.t5t_tag.specs.Step.{T5Turn, silent, tells, refuses, not_supported, no_block, block_locked, blocks_of, read_turn, read_many_turn, write_turn, rewritten, Asked, Reads, ReadsMany, Writes}
use Rattle.t5t_tag.specs.Step.{Unknown, asked, asked_turn, obeyed, names, addressed, plain, inventory, out_of_round, in_slot, slots, next_round, flagged_turn, bytes_turn, is_nfc_v, t5_turn}

-- a turn in which a block was written, and one that made the tag quiet
abbrev pub writes : T5State → ℕ → List ℕ → T5Turn
writes t block content = record { answer = Some (Content (record { items = [] })); after = rewritten t block content }

abbrev pub hushes : T5State → T5Turn
hushes t = record { answer = None; after = record t { quiet = true } }

-- a fact holds of each kind of turn on a command
pub record OnCommands (t : T5State) (P : T5Turn → Type 0) : Type 0 where
  pub error : (code : ℕ) → P (refuses t code)
  pub read : (block : ℕ) → block < block_count t → P (tells t (Content (record { items = block_of t.size t.store block })))
  pub many : (first more : ℕ) → first + more < block_count t → t.size * (more + 1) ≤ most_content
      → P (tells t (Content (record { items = blocks_of t.size t.store first (more + 1) })))
  pub written : (block : ℕ) (content : List ℕ) → block < block_count t → length content ≡ t.size → P (writes t block content)

-- a fact holds of each kind of turn of a tag at what is no empty frame
pub record OnFlagged (t : T5State) (P : T5Turn → Type 0) : Type 0 where
  pub commands : OnCommands t P
  pub none : P (silent t)
  pub hushed : P (hushes t)
  pub present : P (tells t (Present t.id))
  pub begins : (r : Round) → P (in_slot t (Some r))

-- a fact holds of each kind of turn
pub record OnTurns (t : T5State) (P : T5Turn → Type 0) : Type 0 where
  pub flagged : OnFlagged (out_of_round t) P
  pub unheard : P (silent t)
  pub moves : (r : Option Round) → P (in_slot t r)

pub by_test : (P : T5Turn → Type 0) (v : Bool) (x y : T5Turn) → (v ≡ true → P x) → (v ≡ false → P y) → P (if v then x else y)
by_test P true x y yes_case no_case = yes_case refl
by_test P false x y yes_case no_case = no_case refl

pub less_of : (m n : ℕ) → nat_le m n ≡ false → n < m
less_of m n h = grind arith

pub same_of : (m n : ℕ) → not (m == n) ≡ false → m ≡ n
same_of m n h = grind arith

on_read : (t : T5State) (P : T5Turn → Type 0) → OnCommands t P → (block : ℕ) → P (read_turn t block)
on_read t P on block =
    by_test P (nat_le (block_count t) block) (refuses t no_block) (tells t (Content (record { items = block_of t.size t.store block })))
    (λ h. on.error no_block)
    (λ h. on.read block (less_of (block_count t) block h))

pub few_of : (m n : ℕ) → not (nat_le m n) ≡ false → m ≤ n
few_of m n h = grind arith

on_read_many : (t : T5State) (P : T5Turn → Type 0) → OnCommands t P → (first more : ℕ) → P (read_many_turn t first more)
on_read_many t P on first more =
    let told : T5Turn = tells t (Content (record { items = blocks_of t.size t.store first (more + 1) })) in
    let few : Bool = not (nat_le (t.size * (more + 1)) most_content) in
    by_test P (nat_le (block_count t) (first + more)) (refuses t no_block) (if few then refuses t not_supported else told)
    (λ h. on.error no_block)
    (λ h. by_test P few (refuses t not_supported) told
    (λ k. on.error not_supported)
    (λ k. on.many first more (less_of (block_count t) (first + more) h) (few_of (t.size * (more + 1)) most_content k)))

pub on_write : (t : T5State) (P : T5Turn → Type 0) → OnCommands t P → (block : ℕ) (content : List ℕ) → P (write_turn t block content)
on_write t P on block content =
    let locked : T5Turn = if is_locked t block then refuses t block_locked else writes t block content in
    let sized : T5Turn = if not (length content == t.size) then refuses t not_supported else locked in
    by_test P (nat_le (block_count t) block) (refuses t no_block) sized
    (λ h. on.error no_block)
    (λ h. by_test P (not (length content == t.size)) (refuses t not_supported) locked
    (λ k. on.error not_supported)
    (λ k. by_test P (is_locked t block) (refuses t block_locked) (writes t block content)
    (λ l. on.error block_locked)
    (λ l. on.written block content (less_of (block_count t) block h) (same_of (length content) t.size k))))

on_asked : (t : T5State) (P : T5Turn → Type 0) → OnCommands t P → (what : Asked) → P (asked_turn t what)
on_asked t P on (Reads block) = on_read t P on block
on_asked t P on (ReadsMany first more) = on_read_many t P on first more
on_asked t P on (Writes block content) = on_write t P on block content
on_asked t P on Unknown = on.error not_supported

pub on_obeyed : (t : T5State) (P : T5Turn → Type 0) → OnCommands t P → (code : ℕ) (rest : List ℕ) → P (obeyed t code rest)
on_obeyed t P on code rest = on_asked t P on (asked code rest)

on_addressed : (t : T5State) (P : T5Turn → Type 0) → OnFlagged t P → (rest : List ℕ) → P (addressed t rest)
on_addressed t P on [] = on.none
on_addressed t P on (code ∷ rest) =
    let heard : T5Turn = if (code == quiet_code) && (length rest == id_size) then hushes t else obeyed t code (drop id_size rest) in
    by_test P (not (names t rest)) (silent t) heard
    (λ h. on.none)
    (λ h. by_test P ((code == quiet_code) && (length rest == id_size)) (hushes t) (obeyed t code (drop id_size rest))
    (λ k. on.hushed)
    (λ k. on_obeyed t P on.commands code (drop id_size rest)))

on_plain : (t : T5State) (P : T5Turn → Type 0) → OnFlagged t P → (rest : List ℕ) → P (plain t rest)
on_plain t P on [] = by_test P t.quiet (silent t) (refuses t not_supported) (λ h. on.none) (λ h. on.commands.error not_supported)
on_plain t P on (code ∷ rest) = by_test P t.quiet (silent t) (obeyed t code rest) (λ h. on.none) (λ h. on_obeyed t P on.commands code rest)

on_inventory : (t : T5State) (P : T5Turn → Type 0) → OnFlagged t P → (rest : List ℕ) → P (inventory t rest)
on_inventory t P on [] = on.none
on_inventory t P on (code ∷ []) = on.none
on_inventory t P on (code ∷ bits ∷ mask) =
    by_test P ((code == inventory_code) && not t.quiet && asks_for t.id bits mask) (tells t (Present t.id)) (silent t) (λ h. on.present) (λ h. on.none)

on_slots : (t : T5State) (P : T5Turn → Type 0) → OnFlagged t P → (rest : List ℕ) → P (slots t rest)
on_slots t P on [] = on.none
on_slots t P on (code ∷ []) = on.none
on_slots t P on (code ∷ bits ∷ mask) =
    let begins : Round = begun (slot_of t.id bits) in
    by_test P ((code == inventory_code) && not t.quiet && asks_in_slots t.id bits mask) (in_slot t (Some begins)) (silent t) (λ h. on.begins begins) (λ h. on.none)

on_flagged : (t : T5State) (P : T5Turn → Type 0) → OnFlagged t P → (flags : ℕ) (rest : List ℕ) → P (flagged_turn t flags rest)
on_flagged t P on flags rest =
    let fourth : T5Turn = if flags == slots_flags then slots t rest else silent t in
    let third : T5Turn = if flags == inventory_flags then inventory t rest else fourth in
    let other : T5Turn = if flags == plain_flags then plain t rest else third in
    by_test P (flags == addressed_flags) (addressed t rest) other
    (λ h. on_addressed t P on rest)
    (λ h. by_test P (flags == plain_flags) (plain t rest) third
    (λ k. on_plain t P on rest)
    (λ k. by_test P (flags == inventory_flags) (inventory t rest) fourth
    (λ l. on_inventory t P on rest)
    (λ l. by_test P (flags == slots_flags) (slots t rest) (silent t)
    (λ m. on_slots t P on rest)
    (λ m. on.none))))

on_bytes : (t : T5State) (P : T5Turn → Type 0) → OnTurns t P → (bytes : List ℕ) → P (bytes_turn t bytes)
on_bytes t P on [] = on.moves (next_round t.round)
on_bytes t P on (flags ∷ rest) = on_flagged (out_of_round t) P on.flagged flags rest

pub on_turn : (t : T5State) (P : T5Turn → Type 0) → OnTurns t P → (f : Signal) → P (t5_turn t f)
on_turn t P on f =
    by_test P (is_nfc_v f.tech && (f.tail == 0)) (bytes_turn t f.bytes) (silent t) (λ h. on_bytes t P on f.bytes) (λ h. on.unheard)
