-- What answers come to that are heard one by one.
use Rattle.std.specs.Prelude.{◌*◌, ◌≤◌, List, ◌∷◌, length, map, take}
use Rattle.nfc_base.specs.Signal.{Signal}
use Rattle.nfc_base.specs.Bits.{bits, bits_of, of_bits}
use Rattle.air_core.specs.Joint.{Joint, Clashing, joint, common_all}
use Rattle.air_core.specs.declared.answers.Answers.{Answers}
use Rattle.air_core.specs.declared.answers.Joined.{Joined}
use Rattle.air_core.specs.declared.answers.Joined.TheVariants.{Nothing, Alike, Differing}

-- the bits in common are bits of the first answer
abbrev pub AreOf : Joined → Signal → Type 0
AreOf Nothing f = Unit {0}
AreOf Alike f = Unit {0}
AreOf (Differing n) f = n ≤ 8 * length f.bytes

abbrev pub IsJoined : Answers → Type 0
IsJoined a = AreOf a.joined a.first

-- what the answers so far come to, with some more
abbrev pub joined_with : Joined → Signal → List Signal → Joint
joined_with Nothing f more = joint more
joined_with Alike f more = joint (f ∷ more)
joined_with (Differing n) f more = Clashing (of_bits f.tech (common_all (take n (bits_of f.bytes)) (map bits more)))

abbrev pub joint_with : Answers → List Signal → Joint
joint_with a more = joined_with a.joined a.first more
