-- What a step of a tag in C's memory shows, with room for its answer and without; and what a step keeps of a Type 5 tag.
use Rattle.std.proofs.Common.{◌≡◌, ℕ, suc, ◌<◌, ◌≤◌, ◌==◌, List, [], ◌∷◌, length, Bool, true, false, nat_le, if◌then◌else◌, Option, Some, refl, sym, ap, subst, ◌∙◌}
use Rattle.std.proofs.lemmas.Bool.{le-leb, lt-leb}
use Rattle.nfc_base.specs.Signal.{Signal}
use Rattle.t5t_tag.specs.Store.{T5State, fresh, locked_too}
use Rattle.t5t_tag.specs.Step.{t5_after}
use Rattle.t5t_tag.proofs.Steps.{same_tag}
use Rattle.zevlodek_c.specs.declared.showing.Told.{Told}
use Rattle.zevlodek_c.specs.declared.t5_tags.T5Standing.{T5Standing}
use Rattle.zevlodek_c.specs.Codes.{done}
use Rattle.zevlodek_c.specs.Showing.{Seen, shows}
use Rattle.zevlodek_c.specs.Tags.{answered, locked_from}
use Rattle.zevlodek_c.specs.T5Tags.{t5_held}

pick : {K : Type 0} (b : Bool) (x y : K) → b ≡ true → x ≡ (if b then x else y)
pick b x y e = subst (λ (v : Bool). x ≡ (if v then x else y)) (sym e) refl

skip : {K : Type 0} (b : Bool) (x y : K) → b ≡ false → y ≡ (if b then x else y)
skip b x y e = subst (λ (v : Bool). y ≡ (if v then x else y)) (sym e) refl

pub without_place : {K : Type 0} (o : Option Signal) (f : Signal) (before after : K) (out : List ℕ) (told : Told) (seen : Seen) → o ≡ Some f
    → length out < length f.bytes → seen ≡ shows done f.bytes out (record told { bits = f.tail })
    → record { kept = before; seen = seen } ≡ answered o before after out told
without_place {K} o f before after out told seen e low is =
    subst (λ (x : Option Signal). record { kept = before; seen = seen } ≡ answered x before after out told) (sym e)
    (ap (λ (s : Seen). record { kept = before; seen = s }) is
    ∙ ap (λ (k : K). record { kept = k; seen = shows done f.bytes out (record told { bits = f.tail }) })
    (skip (nat_le (length f.bytes) (length out)) after before (lt-leb (length f.bytes) (length out) low)))

pub with_place : {K : Type 0} (o : Option Signal) (f : Signal) (before after : K) (out : List ℕ) (told : Told) (seen : Seen) → o ≡ Some f
    → length f.bytes ≤ length out → seen ≡ shows done f.bytes out (record told { bits = f.tail })
    → record { kept = after; seen = seen } ≡ answered o before after out told
with_place {K} o f before after out told seen e low is =
    subst (λ (x : Option Signal). record { kept = after; seen = seen } ≡ answered x before after out told) (sym e)
    (ap (λ (s : Seen). record { kept = after; seen = s }) is
    ∙ ap (λ (k : K). record { kept = k; seen = shows done f.bytes out (record told { bits = f.tail }) })
    (pick (nat_le (length f.bytes) (length out)) after before (le-leb (length f.bytes) (length out) low)))

one_lock : (t : T5State) (block : ℕ) (free : Bool) → (if free then t else locked_too t block).store ≡ t.store
one_lock t block true = refl
one_lock t block false = refl

same_store : (t : T5State) (block : ℕ) (bs : List ℕ) → (locked_from locked_too t block bs).store ≡ t.store
same_store t block [] = refl
same_store t block (b ∷ bs) = same_store (if b == 0 then t else locked_too t block) (suc block) bs ∙ one_lock t block (b == 0)

pub same_size : (id : List ℕ) (size : ℕ) (memory locks : List ℕ) (s : T5Standing) (t : T5State) (f : Signal) → t ≡ t5_held id size memory locks s
    → length memory ≡ length (t5_after t f).store
same_size id size memory locks s t f e =
    sym ((same_tag t f).length ∙ ap (λ (u : T5State). length u.store) e ∙ ap length (same_store (fresh id size memory) 0 locks))
