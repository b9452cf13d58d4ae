-- The pieces that a tag brought say one form, so a reading that finds memory tells it.
use Rattle.std.proofs.Common.{◌≡◌, ℕ, ◌<◌, ◌≤◌, ◌⊎◌, inl, inr, List, [], ◌∷◌, length, Bool, true, false, refl, sym, ◌∙◌, ap, subst, arith}
use Rattle.std.specs.Prelude.{nat_lt, slice_index, if◌then◌else◌, not, ◌==◌, Option, Some, None, Result, Ok, Err, IfOk}
use Rattle.std.proofs.lemmas.Bool.{cases_Bool, ltb-false}
use Rattle.nfc_base.specs.Signal.{Signal}
use Rattle.nfc_base.specs.declared.tag_link.AskFault.TheVariants as ask
use Rattle.nfc_base.specs.TagLinks.{TagState, TagStep, LinkView}
use Rattle.tlv_area.specs.declared.container.ContainerFault.{ContainerFault}
use Rattle.tlv_area.specs.declared.container.ContainerFault.TheVariants as container
use Rattle.tlv_area.specs.declared.container.FileMap.{FileMap}
use Rattle.tlv_area.specs.Layout.{IsArea}
use Rattle.tlv_area.specs.Form as form
use Rattle.tlv_area.specs.Containers.{first_fault, unless, high_nibble, t2_faults, t2_space, t2_container, t4_container}
use Rattle.tlv_area.specs.Stores.{four_bytes, cut_by, t5_area, IsT5Form}
use Rattle.tlv_area.proofs.OneNext.{one_form_by}
use Rattle.tlv_area.proofs.FrontContainers.{area_in_reach, area_of_five}
use Rattle.tag_reader.specs.declared.how.How.{How}
use Rattle.tag_reader.specs.declared.how.How.TheVariants.{T2, T4, T5}
use Rattle.tag_reader.specs.declared.fault.ReadFault.{ReadFault}
use Rattle.tag_reader.specs.declared.fault.ReadFault.TheVariants as fault
use Rattle.tag_reader.specs.declared.found.Found.{Found}
use Rattle.tag_reader.specs.Kinds.{area_of}
use Rattle.tag_reader.specs.Files.{message_length}
use Rattle.tag_reader.specs.Heard.{Brings, EndsTag, IsBroughtBy, IsBrought, HasHead, HasFile, FileSays, Says, IsSaid, IsCutOff, IsNone, IsRefused, IsOddly, IsToldBy, IsFormTold, joined, first_size}
use Rattle.tag_reader.proofs.Bringing.{brings_free, brings_ends}
use Rattle.tag_reader.proofs.Exact.{two_brought, brought_stopped, two_stopped, ends_code, over_cut}

-- the area of a Type 2 tag ends behind its start
big_area : (x y z : Bool) (b : List ℕ)
    → IfOk (unless (if x then Some container.NotNdef else if y then Some container.Version else if z then Some container.NoRead else Some container.Sectors) (t2_space b)) IsArea
big_area true y z b = tt
big_area false true z b = tt
big_area false false true b = tt
big_area false false false b = tt

pub t2_is_area : (b : List ℕ) → IfOk (t2_container b) IsArea
t2_is_area b = elim (cases_Bool (nat_lt 0x7E (slice_index b 2))) [
  | inl big ↦ rw big (big_area (not (slice_index b 0 == 0xE1)) (not (high_nibble (slice_index b 1) == 1)) (not (high_nibble (slice_index b 3) == 0)) b)
  | inr fits ↦ by_fault (first_fault (t2_faults b)) (ltb-false 126 (slice_index b 2) fits)
]
  where
    by_fault : (f : Option ContainerFault) → slice_index b 2 ≤ 126 → IfOk (unless f (t2_space b)) IsArea
    by_fault None low = record { order = omega arith; small = λ control. omega (arith, low) }
    by_fault (Some f) low = tt

-- the first block of a Type 5 tag has room for the container
pub first_block : {id : List ℕ} {r : Signal} (p : List ℕ) → Brings (T5 id) [] r p → 4 ≤ length p
first_block p (inl is) = is.piece
first_block p (inr falls) = absurd falls.many

pub five_least : (id : List ℕ) (step : TagState → Signal → TagStep) (s : TagState) (ps : List (List ℕ)) → IsBroughtBy (T5 id) step s [] ps → 0 < length ps → 4 ≤ first_size ps
five_least id step s [] is some = absurd (omega (arith, some))
five_least id step s (p ∷ ps) is some = first_block p is.2

-- the pieces of a Type 4 tag
two_heads : (ps : List (List ℕ)) (head head' : List ℕ) → HasHead ps head → HasHead ps head' → head ≡ head'
two_heads ps head head' is other =
    (let both : is.application ∷ is.container ∷ head ∷ [] ≡ other.application ∷ other.container ∷ head' ∷ [] = sym is.pieces ∙ other.pieces in cc)

head_file : (ps : List (List ℕ)) (head : List ℕ) (map' : FileMap) (n : ℕ) (parts : List (List ℕ)) → HasHead ps head → HasFile ps map' n parts → ⊥
head_file ps head map' n parts is other = omega (arith, ap length is.pieces, ap length other.pieces)

pub record SameFile (map' map'' : FileMap) (n m : ℕ) (parts parts' : List (List ℕ)) : Type 0 where
  pub file : map' ≡ map''
  pub size : n ≡ m
  pub rest : parts ≡ parts'

two_files : (ps : List (List ℕ)) (map' map'' : FileMap) (n m : ℕ) (parts parts' : List (List ℕ)) → HasFile ps map' n parts → HasFile ps map'' m parts' → SameFile map' map'' n m parts parts'
two_files ps map' map'' n m parts parts' is other =
    let both : is.application ∷ is.container ∷ is.head ∷ is.file ∷ is.size ∷ parts ≡ other.application ∷ other.container ∷ other.head ∷ other.file ∷ other.size ∷ parts' =
    sym is.pieces ∙ other.pieces in
    let head : is.head ≡ other.head = cc in
    let size : is.size ≡ other.size = cc in
    let rest : parts ≡ parts' = cc in
    let names : Ok map' ≡ Ok map'' = sym is.names ∙ ap (λ h. t4_container h) head ∙ other.names in
    record { file = cc; size = is.length' ∙ ap (λ s. message_length s) size ∙ sym other.length'; rest = rest }

file_one : (ps : List (List ℕ)) (f g : form.Form) → FileSays ps f → FileSays ps g → f ≡ g
file_one ps (form.Faulty f) (form.Faulty g) is other =
    let head = two_heads ps is.0 other.0 is.1 other.1 in
    let both : Err f ≡ Err g = sym is.2 ∙ ap (λ h. t4_container h) head ∙ other.2 in
    ap (λ x. form.Faulty x) (let same : f ≡ g = cc in same)
file_one ps (form.Faulty f) (form.Message m) is other = absurd (head_file ps is.0 other.0 other.1 other.2 is.1 other.3)
file_one ps (form.Faulty f) form.NoMessageTlv is other = absurd other
file_one ps (form.Faulty f) form.BadTlv is other = absurd (head_file ps is.0 other.0 other.1 [] is.1 other.2)
file_one ps (form.Message m) (form.Faulty g) is other = absurd (head_file ps other.0 is.0 is.1 is.2 other.1 is.3)
file_one ps (form.Message m) (form.Message m') is other =
    let same = two_files ps is.0 other.0 is.1 other.1 is.2 other.2 is.3 other.3 in
    ap (λ x. form.Message x) (is.5.bytes ∙ ap (λ x. joined x) same.rest ∙ sym other.5.bytes)
file_one ps (form.Message m) form.NoMessageTlv is other = absurd other
file_one ps (form.Message m) form.BadTlv is other =
    let same = two_files ps is.0 other.0 is.1 other.1 is.2 [] is.3 other.2 in
    absurd (omega (arith, is.4, other.3, same.size, ap (λ x. x.size) same.file))
file_one ps form.NoMessageTlv g is other = absurd is
file_one ps form.BadTlv (form.Faulty g) is other = absurd (head_file ps other.0 is.0 is.1 [] other.1 is.2)
file_one ps form.BadTlv (form.Message m) is other =
    let same = two_files ps is.0 other.0 is.1 other.1 [] other.2 is.2 other.3 in
    absurd (omega (arith, is.3, other.4, same.size, ap (λ x. x.size) same.file))
file_one ps form.BadTlv form.NoMessageTlv is other = absurd other
file_one ps form.BadTlv form.BadTlv is other = refl

-- what the pieces say is one form
one_says : (how : How) (step : TagState → Signal → TagStep) (s : TagState) (ps : List (List ℕ)) (f g : form.Form) → IsBroughtBy how step s [] ps → Says how ps f → Says how ps g → f ≡ g
one_says T2 step s ps f g brought is other =
    one_form_by (area_of T2 (first_size ps) (joined ps)) (joined ps) (t2_is_area (four_bytes (joined ps) 12)) f g is.form other.form
one_says T4 step s ps f g brought is other = file_one ps f g is other
one_says (T5 id) step s ps f g brought is other =
    let least : 4 ≤ first_size ps = five_least id step s ps brought is.some in
    one_form_by (area_of (T5 id) (first_size ps) (joined ps)) (joined ps) (area_in_reach (first_size ps) (joined ps) (omega (arith, least))) f g is.form other.form

cut_least : (how : How) (step : TagState → Signal → TagStep) (s : TagState) (ps : List (List ℕ)) (r : Signal) → IsBroughtBy how step s [] ps → EndsTag how ps r → 1 ≤ first_size ps
cut_least T2 step s ps r brought ends = absurd ends
cut_least T4 step s ps r brought ends = absurd ends
cut_least (T5 id) step s ps r brought ends = (let least = five_least id step s ps brought ends.0 in omega (arith, least))

cut_one : (how : How) (a b : LinkView) (f g : form.Form) → IsCutOff how a b f → IsCutOff how a b g → f ≡ g
cut_one how a b f g is other =
    let same = two_stopped how a b is.ps other.ps is.r other.r is.stopped other.stopped in
    let least = cut_least how a.step a.state other.ps other.r other.stopped.pieces other.ends in
    one_form_by (cut_by (t5_area (first_size other.ps) (joined other.ps)) (length (joined other.ps))) (joined other.ps)
    (area_of_five (first_size other.ps) (length (joined other.ps)) (joined other.ps) least (omega arith)) f g
    (subst (λ x. IsT5Form (first_size x) (joined x) f) same.0 is.form) other.form

said_one : (how : How) (a b : LinkView) (f g : form.Form) → IsSaid how a b f → IsSaid how a b g → f ≡ g
said_one how a b f g is other =
    one_says how a.step a.state other.ps f g other.brought.pieces (subst (λ x. Says how x f) (two_brought how a b is.ps other.ps is.brought other.brought) is.says) other.says

brought_cut : (how : How) (a b : LinkView) (ps : List (List ℕ)) (f : form.Form) → IsBrought how a b ps → IsCutOff how a b f → ⊥
brought_cut how a b ps f is other =
    let more = brought_stopped how a b ps other.ps other.r is other.stopped in
    brings_ends how other.ps other.r more.0 more.1 other.ends

one_none : (how : How) (a b : LinkView) (f g : form.Form) → IsNone how a b f → IsNone how a b g → f ≡ g
one_none how a b f g (inl is) (inl other) = said_one how a b f g is other
one_none how a b f g (inl is) (inr other) = absurd (brought_cut how a b is.ps g is.brought other)
one_none how a b f g (inr is) (inl other) = absurd (brought_cut how a b other.ps f other.brought is)
one_none how a b f g (inr is) (inr other) = cut_one how a b f g is other

-- and no answer refuses or may not come then
none_refused : (how : How) (a b : LinkView) (f : form.Form) (code : ℕ) → IsNone how a b f → IsRefused how a b code → ⊥
none_refused how a b f code (inl is) other =
    let more = brought_stopped how a b is.ps other.ps other.r is.brought other.stopped in
    brings_free how other.ps other.r more.0 code more.1 other.last other.refuses
none_refused how a b f code (inr is) other =
    let same = two_stopped how a b is.ps other.ps is.r other.r is.stopped other.stopped in
    other.ends (subst (λ x. EndsTag how x other.r) same.0 (subst (λ x. EndsTag how is.ps x) same.1 is.ends))

none_odd : (how : How) (a b : LinkView) (f : form.Form) → IsNone how a b f → IsOddly how a b → ⊥
none_odd how a b f (inl is) other =
    let more = brought_stopped how a b is.ps other.ps other.r is.brought other.stopped in
    other.odd.no_piece more.0 more.1
none_odd how a b f (inr is) other =
    let same = two_stopped how a b is.ps other.ps is.r other.r is.stopped other.stopped in
    let code = ends_code how other.ps other.r (subst (λ x. EndsTag how x other.r) same.0 (subst (λ x. EndsTag how is.ps x) same.1 is.ends)) in
    other.odd.no_refusal code.0 code.1

-- a reading tells a form that the pieces say, or finds no memory where they are all that was answered
tells : (how : How) (a b : LinkView) (f : form.Form) (result : Result Found ReadFault) → IsNone how a b f → IsToldBy how a b result →
    ((g : form.Form) × IsNone how a b g × IsFormTold g result) ⊎ ((result ≡ Err fault.Memory) × (ps : List (List ℕ)) × IsBrought how a b ps)
tells how a b f (Ok found) is told = inl (form.Message found.message, inl (record { ps = told.ps; brought = told.brought; over = told.over; says = told.held }), refl)
tells how a b f (Err fault.NotNdef) is told = inl (form.Faulty container.NotNdef, told, refl)
tells how a b f (Err fault.Version) is told = inl (form.Faulty container.Version, told, refl)
tells how a b f (Err fault.NoRead) is told = inl (form.Faulty container.NoRead, told, refl)
tells how a b f (Err fault.Sectors) is told = inl (form.Faulty container.Sectors, told, refl)
tells how a b f (Err fault.BadSize) is told = inl (form.Faulty container.BadSize, told, refl)
tells how a b f (Err fault.NoMessageTlv) is told = inl (form.NoMessageTlv, told, refl)
tells how a b f (Err fault.BadTlv) is told = inl (form.BadTlv, told, refl)
tells how a b f (Err (fault.Refused code)) is told = absurd (none_refused how a b f code is told)
tells how a b f (Err fault.Protocol) is (inl told) = absurd (none_odd how a b f is told)
tells how a b f (Err fault.Protocol) is (inr told) = over_cut how a b f ask.Protocol _ told.ends'.0 is
tells how a b f (Err fault.FieldLost) is told = over_cut how a b f ask.FieldLost _ told.ends'.0 is
tells how a b f (Err fault.SixBad) is told = over_cut how a b f ask.SixBad _ told.ends'.0 is
tells how a b f (Err fault.Memory) is told = inr (refl, told.ps, told.brought)

pub said_told : (how : How) (a b : LinkView) (f : form.Form) (result : Result Found ReadFault) → IsToldBy how a b result → IsSaid how a b f → IsFormTold f result ⊎ (result ≡ Err fault.Memory)
said_told how a b f result told is = elim (tells how a b f result (inl is) told) [
  | inl other ↦ inl (subst (λ x. IsFormTold x result) (one_none how a b other.0 f other.1 (inl is)) other.2)
  | inr memory ↦ inr memory.0
]

pub cut_told : (how : How) (a b : LinkView) (f : form.Form) (result : Result Found ReadFault) → IsToldBy how a b result → IsCutOff how a b f → IsFormTold f result
cut_told how a b f result told is = elim (tells how a b f result (inr is) told) [
  | inl other ↦ subst (λ x. IsFormTold x result) (one_none how a b other.0 f other.1 (inr is)) other.2
  | inr memory ↦ absurd (brought_cut how a b memory.1 f memory.2 is)
]
