-- Neither whether a tag is quiet nor its round changes what it does at an addressed command; nor does its round at other commands.
use Rattle.std.proofs.Common.{◌≡◌, ℕ, ◌+◌, ◌*◌, List, [], ◌∷◌, length, drop, Bool, true, false, not, nat_le, ◌==◌, ◌&&◌, if◌then◌else◌, Option, None, refl}
use Rattle.nfc_base.specs.Blocks.{block_of}
use Rattle.nfc_base.specs.Signal.{whole_v}
use Rattle.t5t_tag.specs.declared.round.Round.{Round}
use Rattle.t5t_tag.specs.declared.answer.T5Answer.TheVariants.{Content}
use Rattle.t5t_tag.specs.Store.{T5State, id_size, block_count, is_locked}
use Rattle.t5t_tag.specs.Spelling.{addressed_flags, quiet_code, most_content}
use Rattle.t5t_tag.specs.Step.{T5Turn, silent, tells, refuses, not_supported, no_block, block_locked, blocks_of, read_turn, read_many_turn, write_turn, Asked, Reads, ReadsMany, Writes, Unknown, asked}
use Rattle.t5t_tag.specs.Step.{asked_turn, obeyed, names, addressed, plain, out_of_round, t5_turn}
use Rattle.t5t_tag.proofs.Turns.{writes, hushes}

-- a tag that may be quiet, and in a round
abbrev pub in_state : Bool → Option Round → T5State → T5State
in_state q r t = record t { quiet = q; round = r }

-- two turns have the same answer and leave the same store
pub record IsAlike (r s : T5Turn) : Type 0 where
  pub answer : r.answer ≡ s.answer
  pub store : r.after.store ≡ s.after.store

by_both : (v : Bool) (r s r' s' : T5Turn) → IsAlike r r' → IsAlike s s' → IsAlike (if v then r else s) (if v then r' else s')
by_both true r s r' s' p q = p
by_both false r s r' s' p q = q

error_alike : (t : T5State) (q : Bool) (r : Option Round) (code : ℕ) → IsAlike (refuses (in_state q r t) code) (refuses t code)
error_alike t q r code = record { answer = refl; store = refl }

read_alike : (t : T5State) (q : Bool) (r : Option Round) (block : ℕ) → IsAlike (read_turn (in_state q r t) block) (read_turn t block)
read_alike t q r block =
    let told : T5State → T5Turn = λ s. tells s (Content (record { items = block_of s.size s.store block })) in
    let u : T5State = in_state q r t in
    by_both (nat_le (block_count t) block) (refuses u no_block) (told u) (refuses t no_block) (told t)
    (error_alike t q r no_block)
    (record { answer = refl; store = refl })

read_many_alike : (t : T5State) (q : Bool) (r : Option Round) (first more : ℕ) → IsAlike (read_many_turn (in_state q r t) first more) (read_many_turn t first more)
read_many_alike t q r first more =
    let told : T5State → T5Turn = λ s. tells s (Content (record { items = blocks_of s.size s.store first (more + 1) })) in
    let large : Bool = not (nat_le (t.size * (more + 1)) most_content) in
    let few : T5State → T5Turn = λ s. if large then refuses s not_supported else told s in
    let u : T5State = in_state q r t in
    by_both (nat_le (block_count t) (first + more)) (refuses u no_block) (few u) (refuses t no_block) (few t)
    (error_alike t q r no_block)
    (by_both large (refuses u not_supported) (told u) (refuses t not_supported) (told t)
    (error_alike t q r not_supported)
    (record { answer = refl; store = refl }))

write_alike : (t : T5State) (q : Bool) (r : Option Round) (block : ℕ) (content : List ℕ) → IsAlike (write_turn (in_state q r t) block content) (write_turn t block content)
write_alike t q r block content =
    let locked : T5State → T5Turn = λ s. if is_locked s block then refuses s block_locked else writes s block content in
    let sized : T5State → T5Turn = λ s. if not (length content == s.size) then refuses s not_supported else locked s in
    let u : T5State = in_state q r t in
    by_both (nat_le (block_count t) block) (refuses u no_block) (sized u) (refuses t no_block) (sized t)
    (error_alike t q r no_block)
    (by_both (not (length content == t.size)) (refuses u not_supported) (locked u) (refuses t not_supported) (locked t)
    (error_alike t q r not_supported)
    (by_both (is_locked t block) (refuses u block_locked) (writes u block content) (refuses t block_locked) (writes t block content)
    (error_alike t q r block_locked)
    (record { answer = refl; store = refl })))

asked_alike : (t : T5State) (q : Bool) (r : Option Round) (what : Asked) → IsAlike (asked_turn (in_state q r t) what) (asked_turn t what)
asked_alike t q r (Reads block) = read_alike t q r block
asked_alike t q r (ReadsMany first more) = read_many_alike t q r first more
asked_alike t q r (Writes block content) = write_alike t q r block content
asked_alike t q r Unknown = error_alike t q r not_supported

obeyed_alike : (t : T5State) (q : Bool) (r : Option Round) (code : ℕ) (rest : List ℕ) → IsAlike (obeyed (in_state q r t) code rest) (obeyed t code rest)
obeyed_alike t q r code rest = asked_alike t q r (asked code rest)

pub addressed_alike : (t : T5State) (q : Bool) (r : Option Round) (rest : List ℕ) → IsAlike (addressed (in_state q r t) rest) (addressed t rest)
addressed_alike t q r [] = record { answer = refl; store = refl }
addressed_alike t q r (code ∷ rest) =
    let u : T5State = in_state q r t in
    let v : Bool = (code == quiet_code) && (length rest == id_size) in
    let heard : T5State → T5Turn = λ s. if v then hushes s else obeyed s code (drop id_size rest) in
    by_both (not (names t rest)) (silent u) (heard u) (silent t) (heard t)
    (record { answer = refl; store = refl })
    (by_both v (hushes u) (obeyed u code (drop id_size rest)) (hushes t) (obeyed t code (drop id_size rest))
    (record { answer = refl; store = refl })
    (obeyed_alike t q r code (drop id_size rest)))

pub frame_alike : (t : T5State) (q : Bool) (r : Option Round) (rest : List ℕ) → IsAlike (t5_turn (in_state q r t) (whole_v (addressed_flags ∷ rest))) (t5_turn t (whole_v (addressed_flags ∷ rest)))
frame_alike t q r rest = addressed_alike (out_of_round t) q None rest

-- what is said to each tag that isn't quiet
pub plain_alike : (t : T5State) (r : Option Round) (rest : List ℕ) → IsAlike (plain (record t { round = r }) rest) (plain t rest)
plain_alike t r [] =
    let u : T5State = record t { round = r } in
    by_both t.quiet (silent u) (refuses u not_supported) (silent t) (refuses t not_supported) (record { answer = refl; store = refl }) (record { answer = refl; store = refl })
plain_alike t r (code ∷ rest) =
    let u : T5State = record t { round = r } in
    by_both t.quiet (silent u) (obeyed u code rest) (silent t) (obeyed t code rest) (record { answer = refl; store = refl }) (obeyed_alike t t.quiet r code rest)
