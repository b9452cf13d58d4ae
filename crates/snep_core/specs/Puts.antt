-- The messages that the units of a connection put, without a server's state (NFC Forum SNEP 1.0; the limit is this
-- project's own).
use Rattle.std.specs.Prelude.{◌≡◌, ◌<◌, ◌≤◌, ℕ, ◌+◌, ◌/◌, List, [], ◌∷◌, ◌++◌, length, ◌⊎◌}
use Rattle.std.specs.List.{concat}
use Rattle.snep_core.specs.declared.first.First.{First}
use Rattle.snep_core.specs.declared.first.First.TheVariants.{Partly}
use Rattle.snep_core.specs.Message.{put_code, number}
use Rattle.snep_core.specs.First.{info_of, first_of}

-- how long the information is that a first unit says
abbrev pub length_of : List ℕ → ℕ
length_of (v ∷ code ∷ a ∷ b ∷ c ∷ d ∷ info) = number a b c d
length_of _ = 0

-- it has at least six bytes, a first byte with high nibble 1, and the code of a put
abbrev pub IsPut : List ℕ → Type 0
IsPut (v ∷ code ∷ a ∷ b ∷ c ∷ d ∷ info) = (v / 16 ≡ 1) × (code ≡ put_code)
IsPut _ = ⊥

-- a first unit that is answered by a continue
abbrev pub IsPartly : First → Type 0
IsPartly (Partly request left) = Unit {0}
IsPartly _ = ⊥

-- the last of these units, and none before it, reaches or passes the length
abbrev pub Reaches : ℕ → ℕ → List (List ℕ) → Type 0
Reaches n have [] = ⊥
Reaches n have (u ∷ []) = (have < n) × (n ≤ have + length u)
Reaches n have (u ∷ v ∷ us) = (have + length u < n) × Reaches n (have + length u) (v ∷ us)

-- A group is one unit that is answered at once or dropped, or a run from one that is answered by a continue to the one
-- with which its information reaches or passes the length.
abbrev pub IsGroup : ℕ → List (List ℕ) → Type 0
IsGroup limit [] = ⊥
IsGroup limit (u ∷ us) =
    ((us ≡ []) × (IsPartly (first_of limit u) → ⊥))
    ⊎ (IsPartly (first_of limit u) × Reaches (length_of u) (length (info_of u)) us)

-- the last group may be a run that is unfinished
abbrev pub IsUnfinished : ℕ → List (List ℕ) → Type 0
IsUnfinished limit [] = Unit {0}
IsUnfinished limit (u ∷ us) = IsPartly (first_of limit u) × (length (info_of u) + length (concat us) < length_of u)

-- what a group puts: its information where it is a put, exactly as long as it says and at most the limit
abbrev pub GroupPuts : ℕ → List (List ℕ) → List (List ℕ) → Type 0
GroupPuts limit [] ms = ms ≡ []
GroupPuts limit (u ∷ us) ms =
    (IsPut u × (length (info_of u ++ concat us) ≡ length_of u) × (length_of u ≤ limit)
    × (ms ≡ (info_of u ++ concat us) ∷ []))
    ⊎ ((IsPut u → length (info_of u ++ concat us) ≡ length_of u → length_of u ≤ limit → ⊥) × (ms ≡ []))

abbrev pub grouped : List (List (List ℕ)) → List (List ℕ)
grouped [] = []
grouped (g ∷ gs) = g ++ grouped gs

abbrev pub Groups : ℕ → List (List (List ℕ)) → List (List ℕ) → Type 0
Groups limit [] ms = ms ≡ []
Groups limit (g ∷ gs) ms =
    (one : List (List ℕ)) × (rest : List (List ℕ)) × (ms ≡ one ++ rest) × IsGroup limit g × GroupPuts limit g one
    × Groups limit gs rest

-- These units of a connection are groups, maybe with an unfinished run behind them, and put these messages.
abbrev pub Puts : ℕ → List (List ℕ) → List (List ℕ) → Type 0
Puts limit us ms =
    (gs : List (List (List ℕ))) × (run : List (List ℕ)) × (us ≡ grouped gs ++ run) × Groups limit gs ms
    × IsUnfinished limit run

-- units put one list of messages
abbrev pub PutsOne : Type 0
PutsOne = (limit : ℕ) (us a b : List (List ℕ)) → Puts limit us a → Puts limit us b → a ≡ b
