-- What the answers of several listeners come to: equal answers are heard as one, different ones as a clash of which
-- the longest common first bits are heard (this project's own air, after the bit-wise collisions of ISO/IEC 14443-3).
use Rattle.std.specs.Prelude.{List, [], ◌∷◌, map, Bool, true, false, ◌==◌, ◌&&◌, nat_eq, if◌then◌else◌}
use Rattle.std.specs.Cmp.Lexicographic.{pointwise}
use Rattle.nfc_base.specs.declared.frame.Tech.{Tech}
use Rattle.nfc_base.specs.declared.frame.Tech.TheVariants.{A, V, F}
use Rattle.nfc_base.specs.Signal.{Signal}
use Rattle.nfc_base.specs.Bits.{bits, of_bits}

abbrev pub same_tech : Tech → Tech → Bool
same_tech A A = true
same_tech A V = false
same_tech A F = false
same_tech V A = false
same_tech V V = true
same_tech V F = false
same_tech F A = false
same_tech F V = false
same_tech F F = true

-- whether two frames are the same
abbrev pub same_signal : Signal → Signal → Bool
same_signal f g = (same_tech f.tech g.tech && (f.tail == g.tail)) && pointwise nat_eq f.bytes g.bytes

abbrev pub same_bit : Bool → Bool → Bool
same_bit true true = true
same_bit true false = false
same_bit false true = false
same_bit false false = true

-- the longest common first bits of two lists
abbrev pub common : List Bool → List Bool → List Bool
common [] y = []
common (a ∷ x) [] = []
common (a ∷ x) (b ∷ y) = if same_bit a b then a ∷ common x y else []

-- the longest common first bits of one list and others
abbrev pub common_all : List Bool → List (List Bool) → List Bool
common_all x [] = x
common_all x (y ∷ ys) = common_all (common x y) ys

-- nothing, one frame, or a clash with the common first bits
pub data Joint : Type 0 where
  Nothing : Joint
  Single : Signal → Joint
  Clashing : Signal → Joint

abbrev pub all_same : Signal → List Signal → Bool
all_same g [] = true
all_same g (h ∷ hs) = same_signal g h && all_same g hs

abbrev pub joint : List Signal → Joint
joint [] = Nothing
joint (g ∷ gs) = if all_same g gs then Single g else Clashing (of_bits g.tech (common_all (bits g) (map bits gs)))
