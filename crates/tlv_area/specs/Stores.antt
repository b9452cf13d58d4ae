-- The form of a tag's store: its container and, where that isn't faulty, its area.
use Rattle.std.specs.Prelude.{◌≡◌, ℕ, ◌+◌, ◌*◌, min, if◌then◌else◌, Bool, List, [], ◌∷◌, length, slice_index, Result}
use Rattle.std.specs.Prelude.{Ok, Err}
use Rattle.tlv_area.specs.declared.space.Space.{Space}
use Rattle.tlv_area.specs.declared.container.ContainerFault.{ContainerFault}
use Rattle.tlv_area.specs.declared.container.T5Container.{T5Container}
use Rattle.tlv_area.specs.declared.container.T5Container.TheVariants.{Ready, More}
use Rattle.tlv_area.specs.Layout.{IsArea}
use Rattle.tlv_area.specs.Containers.{t2_container, T5Area, t5_container}
use Rattle.tlv_area.specs.Form.{Form, Faulty, IsForm}

-- four bytes from one on
abbrev pub four_bytes : List ℕ → ℕ → List ℕ
four_bytes store i = slice_index store i ∷ slice_index store (i + 1) ∷ slice_index store (i + 2)
    ∷ slice_index store (i + 3) ∷ []

-- the container's fault, or the form of the area that it names
abbrev pub IsFormBy : Result Space ContainerFault → List ℕ → Form → Type 0
IsFormBy (Err fault) store f = f ≡ Faulty fault
IsFormBy (Ok space) store f = IsForm space store f

-- the area of a tag that ends at an address
abbrev pub cut : Space → ℕ → Space
cut space end = record space { end = min space.end end }

abbrev pub cut_by : Result Space ContainerFault → ℕ → Result Space ContainerFault
cut_by (Err fault) end = Err fault
cut_by (Ok space) end = Ok (cut space end)

-- A Type 2 store has its container in block 3.
abbrev pub IsT2Form : List ℕ → Form → Type 0
IsT2Form store f = IsFormBy (t2_container (four_bytes store 12)) store f

-- How many blocks the numbers of a Type 5 tag can name: they have one byte, or two where the container begins with E2h.
abbrev pub named_blocks : Bool → ℕ
named_blocks wide = if wide then 65536 else 256

-- The area that the container of a Type 5 store of blocks of so many bytes names. It ends where block numbers do at the
-- latest.
abbrev pub t5_reach : ℕ → T5Area → Space
t5_reach size area = cut area.space (named_blocks area.wide * size)

abbrev pub t5_area_by : ℕ → Result T5Area ContainerFault → Result Space ContainerFault
t5_area_by size (Err fault) = Err fault
t5_area_by size (Ok area) = Ok (t5_reach size area)

abbrev pub t5_area : ℕ → List ℕ → Result Space ContainerFault
t5_area size store = t5_area_by size (t5_container store)

-- a container that is whole names an area
abbrev pub IsReadyArea : T5Container → Type 0
IsReadyArea (Ready space wide many) = IsArea space
IsReadyArea More = Unit {0}

-- A Type 5 store begins with its container, and its area ends at the tag's end at the latest.
abbrev pub IsT5Form : ℕ → List ℕ → Form → Type 0
IsT5Form size store f = IsFormBy (cut_by (t5_area size store) (length store)) store f

-- a store has no two forms
abbrev pub IsOneForm : (Form → Type 0) → Type 0
IsOneForm is = (f g : Form) → is f → is g → f ≡ g
