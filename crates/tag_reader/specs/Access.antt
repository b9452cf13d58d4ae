-- Whether writing to a tag is free (NFC Forum Type 2, Type 4 and Type 5 Tag).
use Rattle.std.specs.Prelude.{◌≡◌, ℕ, List, Bool, Result, Ok, Err}
use Rattle.tlv_area.specs.declared.space.Space.{Space}
use Rattle.tlv_area.specs.declared.container.ContainerFault.{ContainerFault}
use Rattle.tlv_area.specs.declared.container.FileMap.{FileMap}
use Rattle.tag_reader.specs.declared.how.How.{How}
use Rattle.tag_reader.specs.declared.how.How.TheVariants.{T2, T4, T5}
use Rattle.tag_reader.specs.Files.{NamesFile}
use Rattle.tag_reader.specs.Kinds.{area_of}

-- by the container's area or, of a Type 4 tag, by its file
abbrev pub AccessBy : Result Space ContainerFault → Bool → Type 0
AccessBy (Err fault) free = ⊥
AccessBy (Ok space) free = free ≡ space.writable

abbrev pub IsAccess : How → ℕ → List ℕ → Bool → Type 0
IsAccess T2 size store free = AccessBy (area_of T2 size store) free
IsAccess T4 size store free = (map' : FileMap) × NamesFile store map' × (free ≡ map'.writable)
IsAccess (T5 id) size store free = AccessBy (area_of (T5 id) size store) free
