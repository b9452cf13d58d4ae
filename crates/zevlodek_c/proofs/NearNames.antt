-- Which bytes are the name of a service.
use Rattle.std.proofs.Common.{◌≡◌, ◌≤◌, ℕ, ◌&&◌, List, length, Bool, true, false, nat_le, refl, ap, ◌∙◌}
use Rattle.std.proofs.lemmas.Bool.{le-leb}
use Rattle.std.proofs.lemmas.Str.{IsUtf8-from_is_utf8, is_utf8-from_IsUtf8}
use Rattle.std.specs.Str.{IsUtf8, is_utf8}
use Rattle.zevlodek_c.specs.Near.{is_name}

pub name_is : (bytes : List ℕ) → length bytes ≤ 64 → IsUtf8 bytes → is_name bytes ≡ true
name_is bytes fits text =
    ap (λ (b : Bool). b && is_utf8 bytes) (le-leb (length bytes) 64 fits) ∙ is_utf8-from_IsUtf8 bytes text

no_text : (fits text : Bool) → (text ≡ true → ⊥) → (fits && text) ≡ false
no_text true true never = absurd (never refl)
no_text true false never = refl
no_text false text never = refl

pub name_isnt : (bytes : List ℕ) → (IsUtf8 bytes → ⊥) → is_name bytes ≡ false
name_isnt bytes never = no_text (nat_le (length bytes) 64) (is_utf8 bytes) (λ e. never (IsUtf8-from_is_utf8 bytes e))
