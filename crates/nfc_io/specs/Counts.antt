-- What the counts of faults and of calls do. This project's own.
use Rattle.std.specs.Prelude.{◌≡◌, ℕ, ◌+◌, ◌-◌, ◌^◌, ◌<◌, ◌⊎◌, min}

-- the last value of a count that is a u64
abbrev pub last_count : ℕ
last_count = 2 ^ 64 - 1

-- a count that goes up by one, and stays at its last value
abbrev pub count_up : ℕ → ℕ
count_up count = min (count + 1) last_count

-- a count has risen, or stands at its last value
abbrev pub HasRisen : ℕ → ℕ → Type 0
HasRisen old new = (old < new) ⊎ (new ≡ last_count)
