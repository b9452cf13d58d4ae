-- What a reader calls devices with while it polls begins with other bytes than the frames that open a machine above a
-- front, so none of it is such a frame.
use Rattle.std.proofs.Common.{◌≡◌, ◌⊎◌, inl, inr, ℕ, ◌+◌, ◌<◌, ◌≤◌, length, slice_index, Bool, true, false, ◌==◌, ◌&&◌}
use Rattle.std.proofs.Common.{◌||◌, nat_le, if◌then◌else◌, refl, arith}
use Rattle.nfc_base.specs.Signal.{Signal, is_nfc_a}
use Rattle.nfc_base.specs.Bits.{bit_count}
use Rattle.nfc_base.specs.Headed.{is_headed, is_rats}
use Rattle.nfca_poll.specs.declared.kind.Kind.{Kind}
use Rattle.nfca_poll.specs.declared.kind.Kind.TheVariants.{T2, T4, Peer}
use Rattle.nfca_poll.specs.Calls.{Call, Calls, Other, Sens, All, Slp, Sdd, Sel, call_of, is_short, is_slp, is_sdd}
use Rattle.nfca_poll.specs.Calls.{is_sel, is_sel_cmd, is_sdd_par, known_count, known_bits, cmd_level, named_level}
use Rattle.nfca_poll.specs.Calls.{all_known}
use Rattle.nfca_poll.specs.Upper.{is_own}

-- If this is a frame of whole bytes, it begins with 50h to 97h. So do calls; a frame for a tag begins with another
-- byte.
abbrev pub BeginsAsCalls : Signal → Type 0
BeginsAsCalls f = f.tail ≡ 0 → (0x50 ≤ slice_index f.bytes 0) × (slice_index f.bytes 0 ≤ 0x97)

-- Each frame that is read as a call begins so.
no_seven : (n : ℕ) → n ≡ 0 → (n == 7) ≡ false
no_seven n h = grind arith

none_short : (t l b : Bool) → t ≡ false → (t && l && b) ≡ false
none_short true l b h = absurd cc
none_short false l b h = refl

none_slp : (t l b z : Bool) → b ≡ false → (t && l && b && z) ≡ false
none_slp t l true z h = absurd cc
none_slp true true false z h = refl
none_slp true false false z h = refl
none_slp false l false z h = refl

none_sdd : (l b p n : Bool) → b ≡ false → (l && b && p && n) ≡ false
none_sdd l true p n h = absurd cc
none_sdd true false p n h = refl
none_sdd false false p n h = refl

none_of : (a b c d e : Bool) (s l : Call) → a ≡ false → b ≡ false → c ≡ false → d ≡ false → e ≡ false
    → (if a then Calls Sens else if b then Calls All else if c then Calls Slp else if d then Calls s else if e
    then Calls l else Other) ≡ Other
none_of true b c d e s l ha hb hc hd he = absurd cc
none_of false true c d e s l ha hb hc hd he = absurd cc
none_of false false true d e s l ha hb hc hd he = absurd cc
none_of false false false true e s l ha hb hc hd he = absurd cc
none_of false false false false true s l ha hb hc hd he = absurd cc
none_of false false false false false s l ha hb hc hd he = refl

other_call : (f : Signal) → f.tail ≡ 0 → (slice_index f.bytes 0 == 0x50) ≡ false
    → is_sel_cmd (slice_index f.bytes 0) ≡ false → call_of f ≡ Other
other_call f t b c =
    let code : ℕ = slice_index f.bytes 0 in
    let par : ℕ = slice_index f.bytes 1 in
    none_of (is_short f 0x26) (is_short f 0x52) (is_slp f) (is_sdd f) (is_sel f) (Sdd (cmd_level code) (known_bits f))
    (Sel (cmd_level code) (named_level f))
    (none_short (f.tail == 7) (length f.bytes == 1) (code == 0x26) (no_seven f.tail t))
    (none_short (f.tail == 7) (length f.bytes == 1) (code == 0x52) (no_seven f.tail t))
    (none_slp (f.tail == 0) (length f.bytes == 2) (code == 0x50) (par == 0) b)
    (none_sdd (nat_le 2 (length f.bytes)) (is_sel_cmd code) (is_sdd_par par) (bit_count f == 16 + known_count par) c)
    (none_slp (f.tail == 0) (length f.bytes == 7) (is_sel_cmd code) (par == all_known) c)

sel_range : (n : ℕ) → is_sel_cmd n ≡ true → (0x50 ≤ n) × (n ≤ 0x97)
sel_range n h = (grind arith, grind arith)

slp_range : (n : ℕ) → (n == 0x50) ≡ true → (0x50 ≤ n) × (n ≤ 0x97)
slp_range n h = (grind arith, grind arith)

pub call_begins : (f : Signal) (c : Call) → call_of f ≡ Calls c → BeginsAsCalls f
call_begins f c e t = by_code (slice_index f.bytes 0 == 0x50) (is_sel_cmd (slice_index f.bytes 0)) refl refl
  where
    by_code : (v w : Bool) → (slice_index f.bytes 0 == 0x50) ≡ v → is_sel_cmd (slice_index f.bytes 0) ≡ w
        → (0x50 ≤ slice_index f.bytes 0) × (slice_index f.bytes 0 ≤ 0x97)
    by_code true w p q = slp_range (slice_index f.bytes 0) p
    by_code false true p q = sel_range (slice_index f.bytes 0) q
    by_code false false p q = absurd (let other : call_of f ≡ Other = other_call f t p q in cc)

pub is_zero : (n : ℕ) → (n == 0) ≡ true → n ≡ 0
is_zero n h = grind arith

last_false : (a t l b : Bool) → (t ≡ true → b ≡ false) → ((a && t) && l && b) ≡ false
last_false true true true b h = h refl
last_false true true false b h = refl
last_false true false l b h = refl
last_false false t l b h = refl

other_head : (i head : ℕ) → (head < 0x50) ⊎ (0x97 < head) → 0x50 ≤ i → i ≤ 0x97 → (i == head) ≡ false
other_head i head (inl low) l h = grind arith
other_head i head (inr high) l h = grind arith

-- no frame that begins so is known by another head
pub no_headed : (size head : ℕ) (f : Signal) → (head < 0x50) ⊎ (0x97 < head) → BeginsAsCalls f
    → is_headed size head f ≡ false
no_headed size head f out h =
    last_false (is_nfc_a f.tech) (f.tail == 0) (length f.bytes == size) (slice_index f.bytes 0 == head)
    (λ t. let k = h (is_zero f.tail t) in other_head (slice_index f.bytes 0) head out k.0 k.1)

-- neither the commands of a Type 2 tag nor RATS
pub no_read : (f : Signal) → BeginsAsCalls f → is_headed 2 0x30 f ≡ false
no_read f h = no_headed 2 0x30 f (inl (omega arith)) h

pub no_write : (f : Signal) → BeginsAsCalls f → is_headed 6 0xA2 f ≡ false
no_write f h = no_headed 6 0xA2 f (inr (omega arith)) h

pub no_rats : (f : Signal) → BeginsAsCalls f → is_rats f ≡ false
no_rats f h = no_headed 2 0xE0 f (inr (omega arith)) h

neither : (v w : Bool) → v ≡ false → w ≡ false → (v || w) ≡ false
neither v w a b = grind (arith, a, b)

pub own_no_call : (kind : Kind) (is_open attributes : Bool) (f : Signal) → BeginsAsCalls f → is_open ≡ false
    → attributes ≡ false → is_own kind is_open attributes f ≡ false
own_no_call T2 is_open attributes f h o a =
    neither (is_headed 2 0x30 f) (is_headed 6 0xA2 f) (no_read f h) (no_write f h)
own_no_call T4 is_open attributes f h o a = neither is_open (is_rats f) o (no_rats f h)
own_no_call Peer is_open attributes f h o a = neither is_open attributes o a
