use Rattle.std.proofs.Common.{◌≡◌, ℕ, ◌≤◌, ◌-◌, ◌+◌, ◌*◌, drop, length, get_or, ◌∙◌, arith}
use Rattle.nfc_base.specs.Signal.{Signal}
use Rattle.nfc_base.specs.Bits.{bits_of, bit_count}
use Rattle.nfca_poll.specs.Calls.{known_count}
use Rattle.nfca_poll.proofs.identifiers.KnownBits.{SddFacts, sdd_facts, known_at}
use Rattle.nfca_poll.proofs.level.known_len.Goals as goal

pub returns-clause-count : goal.returns-clause-count
returns-clause-count c =
    let f : Signal = c.args.frame.now in
    let n : ℕ = known_count (get_or f.bytes 1 0) in
    let s : SddFacts f n = sdd_facts f c.requires in
    let w : bit_count f ≤ 8 * length f.bytes = omega (arith, c.bit_len.ensures.count, c.bit_len.ensures.bound) in
    let e : bit_count f ≡ 16 + n = s.count in
    (known_at f n s w).1 ∙ (let q : n ≡ c.bit_len.result - 16 = omega (arith, e, c.bit_len.ensures.count) in q)

pub returns-clause-held : goal.returns-clause-held
returns-clause-held c =
    let f : Signal = c.args.frame.now in
    let n : ℕ = known_count (get_or f.bytes 1 0) in
    let s : SddFacts f n = sdd_facts f c.requires in
    let w : bit_count f ≤ 8 * length f.bytes = omega (arith, c.bit_len.ensures.count, c.bit_len.ensures.bound) in
    let l : n ≤ length (bits_of (drop 2 f.bytes)) = (known_at f n s w).2 in
    let e : bit_count f ≡ 16 + n = s.count in
    omega (arith, e, c.bit_len.ensures.count, l)
