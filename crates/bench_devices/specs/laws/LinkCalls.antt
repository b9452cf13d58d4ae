-- What a reader calls devices with while it polls is no frame for a tag: it spells no command of a Type 2 tag, isn't
-- RATS, and spells no block of a link.
use Rattle.std.proofs.Common.{◌≡◌, ℕ, ◌+◌, ◌-◌, ◌/◌, ◌%◌, ◌≤◌, List, length, drop, slice_index, Bool, true, false, ◌==◌}
use Rattle.std.proofs.Common.{◌&&◌, if◌then◌else◌, nat_lt, Option, Some, None, refl, ◌∙◌, ap, arith}
use Rattle.nfc_base.specs.Signal.{Signal, is_nfc_a}
use Rattle.nfc_base.specs.Headed.{is_headed, is_rats}
use Rattle.nfca_poll.specs.laws.OwnFrames.{BeginsAsCalls, is_zero, no_read, no_write, no_rats}
use Rattle.nfca_poll.specs.declared.upper.UpStep.{UpStep}
use Rattle.nfca_poll.specs.declared.upper.UpStep.TheVariants as steps
use Rattle.t2t_tag.specs.declared.command.T2Command.{T2Command}
use Rattle.t2t_tag.specs.declared.command.T2Command.TheVariants.{Read, Write}
use Rattle.t2t_tag.specs.Spelling.{spelled_command}
use Rattle.t4t_tag.specs.Store.{T4State}
use Rattle.isodep_link.specs.declared.block.Block.{Block}
use Rattle.isodep_link.specs.declared.block.Block.TheVariants.{Ack, Nak, Deselect, Extend}
use Rattle.isodep_link.specs.Blocks.{block_of, sort_block, short_block, long_block, spelled_block, info_block}
use Rattle.isodep_link.specs.Card.{CardState, CardTurn, card_table, framed, stays, heeded}
use Rattle.bench_devices.specs.Cards.{T4Near}
use Rattle.bench_devices.specs.Device.{by_card, did_if, t4_did}

-- no command of a Type 2 tag begins so
either_none : (v w : Bool) (c d : T2Command) → v ≡ false → w ≡ false
    → (if v then Some c else (if w then Some d else None)) ≡ None
either_none true w c d h k = absurd cc
either_none false true c d h k = absurd cc
either_none false false c d h k = refl

pub no_command : (f : Signal) → BeginsAsCalls f → spelled_command f ≡ None
no_command f h = either_none (is_headed 2 0x30 f) (is_headed 6 0xA2 f) (Read (slice_index f.bytes 1))
    (Write (slice_index f.bytes 1) (drop 2 f.bytes)) (no_read f h) (no_write f h)

-- no block begins so
sort_of : (b : ℕ) (s : ℕ) → 0x50 ≤ b → s ≤ 0x12 → (b - b % 2 == s) ≡ false
sort_of b s h k = grind arith

high_sort : (b : ℕ) (s : ℕ) → b ≤ 0x97 → 0xA2 ≤ s → (b - b % 2 == s) ≡ false
high_sort b s h k = grind arith

whole_sort : (b : ℕ) → b ≤ 0x97 → (b - b % 2 + b % 2 == 0xC2) ≡ false
whole_sort b h = grind arith

long_sort : (b : ℕ) → b ≤ 0x97 → (b - b % 2 + b % 2 == 0xF2) ≡ false
long_sort b h = grind arith

none_either : (v : Bool) → ◌≡◌ {A = Option Block} (if v then None else None) None
none_either true = refl
none_either false = refl

short_none : (b : ℕ) → b ≤ 0x97 → short_block (b - b % 2) (b % 2) ≡ None
short_none b h =
    let sort : ℕ = b - b % 2 in
    let n : ℕ = b % 2 in
    ap (λ v. if v then Some (Ack n) else (if sort == 0xB2 then Some (Nak n)
    else (if sort + n == 0xC2 then Some Deselect else None))) (high_sort b 0xA2 h (omega arith))
    ∙ ap (λ v. if v then Some (Nak n) else (if sort + n == 0xC2 then Some Deselect else None))
    (high_sort b 0xB2 h (omega arith))
    ∙ ap (λ v. if v then Some Deselect else None) (whole_sort b h)

sort_none : (b : ℕ) (bytes : List ℕ) → 0x50 ≤ b → b ≤ 0x97 → sort_block (b - b % 2) (b % 2) bytes ≡ None
sort_none b bytes l h =
    let sort : ℕ = b - b % 2 in
    let n : ℕ = b % 2 in
    let long : Option Block = if length bytes == 2 then long_block sort n (slice_index bytes 1) else None in
    let short : Option Block = if length bytes == 1 then short_block sort n else long in
    ap (λ v. if v then Some (info_block false n (drop 1 bytes))
    else (if sort == 0x12 then Some (info_block true n (drop 1 bytes)) else short)) (sort_of b 0x02 l (omega arith))
    ∙ ap (λ v. if v then Some (info_block true n (drop 1 bytes)) else short) (sort_of b 0x12 l (omega arith))
    ∙ ap (λ o. if length bytes == 1 then o else long) (short_none b h)
    ∙ ap (λ v. if length bytes == 1 then None else (if length bytes == 2
    then (if v then Some (Extend (slice_index bytes 1)) else None) else None)) (long_sort b h)
    ∙ ap (λ o. if length bytes == 1 then None else o) (none_either (length bytes == 2))
    ∙ none_either (length bytes == 1)

whole_none : (v w : Bool) (bytes : List ℕ) → (v ≡ true → (0x50 ≤ slice_index bytes 0) × (slice_index bytes 0 ≤ 0x97))
    → (if w && v then block_of bytes else None) ≡ None
whole_none true true bytes h =
    let k = h refl in
    ap (λ o. if nat_lt 0 (length bytes) then o else None) (sort_none (slice_index bytes 0) bytes k.0 k.1)
    ∙ none_either (nat_lt 0 (length bytes))
whole_none true false bytes h = refl
whole_none false true bytes h = refl
whole_none false false bytes h = refl

pub no_block : (f : Signal) → BeginsAsCalls f → spelled_block f ≡ None
no_block f h = whole_none (f.tail == 0) (is_nfc_a f.tech) f.bytes (λ t. h (is_zero f.tail t))

-- Such a frame is foreign to a card without a link, and with one it is silent; either stays as it is.
same_either : {X : Type 0} (v : Bool) (x : X) → (if v then x else x) ≡ x
same_either true x = refl
same_either false x = refl

silent : (t : CardState) (f : Signal) → is_rats f ≡ false → spelled_block f ≡ None → card_table t f ≡ framed (stays t)
silent t f r b =
    ap (λ v. if t.mute then framed (stays t) else heeded t (if v then Some (slice_index f.bytes 1 / 16) else None)
    (spelled_block f)) r
    ∙ ap (λ o. if t.mute then framed (stays t) else heeded t None o) b ∙ same_either t.mute (framed (stays t))

abbrev pub says_at : Bool → UpStep
says_at linked = if linked then steps.Quiet else steps.Foreign

did_where : (tag : T4State) (t : CardState) (linked : Bool) (f : Signal) → BeginsAsCalls f
    → t4_did (record { tag = tag; card = t; linked = linked }) f
    ≡ record { says = says_at linked; after = record { tag = tag; card = t; linked = linked } }
did_where tag t false f h = ap (λ v. did_if v (record { tag = tag; card = t; linked = false }) f) (no_rats f h)
did_where tag t true f h = ap (λ (x : CardTurn). by_card tag x.state x.does) (silent t f (no_rats f h) (no_block f h))

pub did_at_call : (u : T4Near) (f : Signal) → BeginsAsCalls f
    → t4_did u f ≡ record { says = says_at u.linked; after = u }
did_at_call u f h = did_where u.tag u.card u.linked f h
