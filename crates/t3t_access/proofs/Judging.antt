-- What the Check of block 0 tells.
use Rattle.std.proofs.Common.{◌≡◌, ◌≢◌, ℕ, ◌*◌, ◌<◌, inl, inr, ◌⊎◌, List, [], ◌∷◌, length, take, Bool, true, false, not, nat_lt, ◌==◌, ◌||◌, if◌then◌else◌, Result, Ok, Err, IfOk, IfErr, refl, sym}
use Rattle.std.proofs.Common.{◌∙◌, ap, subst, arith}
use Rattle.arrayvec.specs.ArrayVec.{ArrayVec}
use Rattle.nfc_base.specs.TagLinks.{LinkView}
use Rattle.t3t_tag.specs.Attributes.{most_checked, most_updated, message_blocks, message_length, major_version, is_summed}
use Rattle.t3t_tag.specs.Store.{attributes}
use Rattle.t3t_tag.specs.Form.{known_version, IsKnown, IsBadSize}
use Rattle.t3t_tag.proofs.Bytes.{equal_of, other_of}
use Rattle.t3t_access.specs.declared.fault.T3Fault.{T3Fault}
use Rattle.t3t_access.specs.declared.fault.T3Fault.TheVariants as fault
use Rattle.t3t_access.specs.Answers.{TellsCheck, found}
use Rattle.t3t_access.specs.Reading.{Reads, StartTold, AttributesTold, is_bad_size, judged, judged_as}
use Rattle.t3t_access.proofs.Growing.{begins, begins_not}

either : (a b : Bool) → (a || b) ≡ true → (a ≡ true) ⊎ (b ≡ true)
either true b h = inl refl
either false b h = inr h

neither : (a b : Bool) → (a || b) ≡ false → (a ≡ false) × (b ≡ false)
neither true b h = absurd cc
neither false b h = (refl, h)

is_more : (m n : ℕ) → nat_lt m n ≡ true → m < n
is_more m n h = grind arith

no_more : (m n : ℕ) → nat_lt m n ≡ false → m < n → ⊥
no_more m n h k = absurd (let e : nat_lt m n ≡ true = (grind arith) in cc)

bad_told : (block : List ℕ) → is_bad_size block ≡ true → IsBadSize block
bad_told block h =
    let a : Bool = most_checked block == 0 in
    let b : Bool = most_updated block == 0 in
    let c : Bool = message_blocks block == 0 in
    let d : Bool = nat_lt 255 (message_blocks block) in
    let e : Bool = nat_lt (16 * message_blocks block) (message_length block) in
    elim (either (a || b || c || d) e h) [
      | inl abcd ↦ elim (either (a || b || c) d abcd) [
        | inl abc ↦ elim (either (a || b) c abc) [
          | inl ab ↦ elim (either a b ab) [
            | inl x ↦ inl (inl (equal_of (most_checked block) 0 x))
            | inr x ↦ inl (inr (inl (equal_of (most_updated block) 0 x)))
          ]
          | inr x ↦ inl (inr (inr (equal_of (message_blocks block) 0 x)))
        ]
        | inr x ↦ inr (inl (is_more 255 (message_blocks block) x))
      ]
      | inr x ↦ inr (inr (is_more (16 * message_blocks block) (message_length block) x))
    ]

good_told : (block : List ℕ) → is_bad_size block ≡ false → IsBadSize block → ⊥
good_told block h bad =
    let a : Bool = most_checked block == 0 in
    let b : Bool = most_updated block == 0 in
    let c : Bool = message_blocks block == 0 in
    let d : Bool = nat_lt 255 (message_blocks block) in
    let e : Bool = nat_lt (16 * message_blocks block) (message_length block) in
    let all = neither (a || b || c || d) e h in
    let abcd = neither (a || b || c) d all.0 in
    let abc = neither (a || b) c abcd.0 in
    let ab = neither a b abc.0 in
    by_size ab.0 ab.1 abc.1 abcd.1 all.1 bad
  where
    by_size : (most_checked block == 0) ≡ false → (most_updated block == 0) ≡ false → (message_blocks block == 0) ≡ false → nat_lt 255 (message_blocks block) ≡ false
        → nat_lt (16 * message_blocks block) (message_length block) ≡ false → IsBadSize block → ⊥
    by_size a b c d e (inl (inl x)) = other_of (most_checked block) 0 a x
    by_size a b c d e (inl (inr (inl x))) = other_of (most_updated block) 0 b x
    by_size a b c d e (inl (inr (inr x))) = other_of (message_blocks block) 0 c x
    by_size a b c d e (inr (inl x)) = no_more 255 (message_blocks block) d x
    by_size a b c d e (inr (inr x)) = no_more (16 * message_blocks block) (message_length block) e x

take_all : (xs : List ℕ) → take (length xs) xs ≡ xs
take_all [] = refl
take_all (x ∷ xs) = ap (λ t. x ∷ t) (take_all xs)

pub whole_of : (xs : List ℕ) → length xs ≡ 16 → take 16 xs ≡ xs
whole_of xs long = ap (λ n. take n xs) (sym long) ∙ take_all xs

by_test : (P : Result (Unit {0}) T3Fault → Type 0) (v : Bool) (x y : Result (Unit {0}) T3Fault) → (v ≡ true → P x) → (v ≡ false → P y) → P (if v then x else y)
by_test P true x y p q = p refl
by_test P false x y p q = q refl

not_true : (v : Bool) → not v ≡ true → v ≡ false
not_true false h = refl
not_true true h = absurd cc

not_false : (v : Bool) → not v ≡ false → v ≡ true
not_false true h = refl
not_false false h = absurd cc

judges : (id : List ℕ) (a b : LinkView) (x : ArrayVec ℕ) → length x.items ≡ 16 → Reads id a b x.items 1 x.items → AttributesTold id a b (judged_as x (judged x.items))
judges id a b x long reads =
    let block : List ℕ = x.items in
    let P : Result (Unit {0}) T3Fault → Type 0 = λ j. AttributesTold id a b (judged_as x j) in
    let same : block ≡ attributes block = sym (whole_of block long) in
    let sized : Result (Unit {0}) T3Fault = if is_bad_size block then Err fault.BadSize else Ok tt in
    let known : Result (Unit {0}) T3Fault = if not (major_version block == 1) then Err fault.Version else sized in
    by_test P (not (is_summed block)) (Err fault.NotNdef) known
    (λ h. record { block = block; reads = reads; size = long; is = subst (λ t. is_summed t ≡ false) same (not_true (is_summed block) h) })
    (λ h.
    let sum : is_summed block ≡ true = not_false (is_summed block) h in
    by_test P (not (major_version block == 1)) (Err fault.Version) sized
    (λ k. record {
      block = block;
      reads = reads;
      size = long;
      is = subst (λ t. (is_summed t ≡ true) × (major_version t ≢ known_version)) same (sum, other_of (major_version block) 1 (not_true (major_version block == 1) k));
    })
    (λ k.
    let is : IsKnown block = record { summed = sum; version = equal_of (major_version block) 1 (not_false (major_version block == 1) k) } in
    by_test P (is_bad_size block) (Err fault.BadSize) (Ok tt)
    (λ l. record { block = block; reads = reads; size = long; is = subst (λ t. IsKnown t × IsBadSize t) same (is, bad_told block l) })
    (λ l. (reads, record { known = is; sized = good_told block l }))))

pub attributes_told : (id : List ℕ) (a b : LinkView) (told result : Result (ArrayVec ℕ) T3Fault) → ((xs : Result (List ℕ) T3Fault) → told ≡ found xs → TellsCheck id 0 1 a b [] xs)
    → IfOk told (λ x. length x.items ≡ 16) → IfErr told (λ e. result ≡ Err e) → IfOk told (λ x. result ≡ judged_as x (judged x.items)) → AttributesTold id a b result
attributes_told id a b (Err e) result next size err ok = subst (AttributesTold id a b) (sym err) (begins_not id a b e (next (Err e) refl))
attributes_told id a b (Ok x) result next size err ok =
    subst (AttributesTold id a b) (sym ok) (judges id a b x size (begins id a b x.items (whole_of x.items size) (next (Ok x.items) refl)))

-- and why there is none
abbrev IsOfForm : T3Fault → Type 0
IsOfForm fault.NotNdef = Unit {0}
IsOfForm fault.Version = Unit {0}
IsOfForm fault.BadSize = Unit {0}
IsOfForm e = ⊥

of_form : (block : List ℕ) → IfErr (judged block) IsOfForm
of_form block =
    let P : Result (Unit {0}) T3Fault → Type 0 = λ j. IfErr j IsOfForm in
    let sized : Result (Unit {0}) T3Fault = if is_bad_size block then Err fault.BadSize else Ok tt in
    let known : Result (Unit {0}) T3Fault = if not (major_version block == 1) then Err fault.Version else sized in
    by_test P (not (is_summed block)) (Err fault.NotNdef) known (λ h. tt)
    (λ h. by_test P (not (major_version block == 1)) (Err fault.Version) sized (λ k. tt) (λ k. by_test P (is_bad_size block) (Err fault.BadSize) (Ok tt) (λ l. tt) (λ l. tt)))

start_of : (id : List ℕ) (a b : LinkView) (e : T3Fault) → IsOfForm e → AttributesTold id a b (Err e) → StartTold id a b e
start_of id a b fault.NotNdef is h = h
start_of id a b fault.Version is h = h
start_of id a b fault.BadSize is h = h
start_of id a b (fault.Refused status) is h = absurd is
start_of id a b fault.FieldLost is h = absurd is
start_of id a b fault.SixBad is h = absurd is
start_of id a b fault.Memory is h = absurd is
start_of id a b fault.ReadOnly is h = absurd is
start_of id a b (fault.TooLong most) is h = absurd is
start_of id a b fault.Protocol is h = absurd is
start_of id a b fault.Unfinished is h = absurd is

starts_not : (id : List ℕ) (a b : LinkView) (e : T3Fault) → TellsCheck id 0 1 a b [] (Err e) → StartTold id a b e
starts_not id a b fault.NotNdef h = absurd h
starts_not id a b fault.Version h = absurd h
starts_not id a b fault.BadSize h = absurd h
starts_not id a b (fault.Refused status) h = h
starts_not id a b fault.FieldLost h = h
starts_not id a b fault.SixBad h = h
starts_not id a b fault.Memory h = h
starts_not id a b fault.ReadOnly h = absurd h
starts_not id a b (fault.TooLong most) h = absurd h
starts_not id a b fault.Protocol h = h
starts_not id a b fault.Unfinished h = absurd h

pub start_told : (id : List ℕ) (a b : LinkView) (told result : Result (ArrayVec ℕ) T3Fault) → ((xs : Result (List ℕ) T3Fault) → told ≡ found xs → TellsCheck id 0 1 a b [] xs)
    → IfOk told (λ x. length x.items ≡ 16) → IfErr told (λ e. result ≡ Err e) → IfOk told (λ x. result ≡ judged_as x (judged x.items)) → IfErr result (StartTold id a b)
start_told id a b (Err e) result next size err ok = subst (λ (r : Result (ArrayVec ℕ) T3Fault). IfErr r (StartTold id a b)) (sym err) (starts_not id a b e (next (Err e) refl))
start_told id a b (Ok x) result next size err ok =
    let told : AttributesTold id a b (judged_as x (judged x.items)) = judges id a b x size (begins id a b x.items (whole_of x.items size) (next (Ok x.items) refl)) in
    subst (λ (r : Result (ArrayVec ℕ) T3Fault). IfErr r (StartTold id a b)) (sym ok) (by_judged (judged x.items) (of_form x.items) told)
  where
    by_judged : (j : Result (Unit {0}) T3Fault) → IfErr j IsOfForm → AttributesTold id a b (judged_as x j) → IfErr (judged_as x j) (StartTold id a b)
    by_judged (Ok done') is h = tt
    by_judged (Err e) is h = start_of id a b e is h
