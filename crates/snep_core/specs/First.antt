-- What the first unit of a request is to a server, whatever it did before (NFC Forum SNEP 1.0; the limit and the
-- answers to malformed requests are this project's own).
use Rattle.std.specs.Prelude.{ℕ, ◌-◌, ◌/◌, ◌==◌, nat_lt, List, ◌∷◌, length, drop, if◌then◌else◌}
use Rattle.snep_core.specs.declared.message.Answer.TheVariants as answers
use Rattle.snep_core.specs.declared.message.Request.{Request}
use Rattle.snep_core.specs.declared.message.Request.TheVariants.{Get, Put}
use Rattle.snep_core.specs.declared.first.First.{First}
use Rattle.snep_core.specs.declared.first.First.TheVariants.{Says, GoesOn, Drops, Whole, Partly}
use Rattle.snep_core.specs.Message.{header_size, continue_code, get_code, put_code, reject_code, number}

-- the information in a first unit
abbrev pub info_of : List ℕ → List ℕ
info_of unit = drop header_size unit

-- A request that carries information, by how long this is said to be and how much of it is there. Where some is still
-- to come, it is said how much.
abbrev pub by_size : Request → ℕ → ℕ → First
by_size request said there =
    if nat_lt said there then Says answers.BadRequest
    else if said == there then Whole request
    else Partly request (said - there)

-- a request without information: none may be said, and none may be there
abbrev pub bare : ℕ → ℕ → First → First
bare said there first =
    if said == 0 then (if there == 0 then first else Says answers.BadRequest)
    else Says answers.BadRequest

-- the rows by the code, in order
abbrev pub by_code : ℕ → ℕ → ℕ → ℕ → First
by_code limit code said there =
    if code == continue_code then bare said there GoesOn
    else if code == get_code then
    (if nat_lt said 4 then Says answers.BadRequest
    else if nat_lt limit (said - 4) then Says answers.Reject
    else by_size Get said there)
    else if code == put_code then (if nat_lt limit said then Says answers.Reject else by_size Put said there)
    else if code == reject_code then bare said there Drops
    else Says answers.NotImplemented

-- the rows on a first unit, in order
abbrev pub first_of : ℕ → List ℕ → First
first_of limit (v ∷ code ∷ a ∷ b ∷ c ∷ d ∷ info) =
    if v / 16 == 1 then by_code limit code (number a b c d) (length info) else Says answers.UnsupportedVersion
first_of limit _ = Says answers.BadRequest
