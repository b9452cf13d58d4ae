-- A survey asks for nothing that it doesn't need: where the link is over, what was answered says no ground.
use Rattle.std.proofs.Common.{◌≡◌, ℕ, ◌<◌, ◌≤◌, inl, inr, List, [], ◌∷◌, ◌++◌, length, true, false, sym, ◌∙◌, ap, subst, arith}
use Rattle.std.specs.Prelude.{Result, Ok, Err, OnErr}
use Rattle.std.proofs.lemmas.List.{length-append, length-take}
use Rattle.nfc_base.specs.TagLinks.{LinkView}
use Rattle.tlv_area.specs.declared.container.ContainerFault.{ContainerFault}
use Rattle.tlv_area.specs.declared.container.ContainerFault.TheVariants as container
use Rattle.tlv_area.specs.declared.container.FileMap.{FileMap}
use Rattle.tlv_area.specs.declared.space.Space.{Space}
use Rattle.tlv_area.specs.Containers.{t5_is_open}
use Rattle.tlv_area.specs.Form.{Form}
use Rattle.tag_reader.specs.declared.how.How.{How}
use Rattle.tag_reader.specs.declared.how.How.TheVariants.{T2, T4, T5}
use Rattle.tag_reader.specs.declared.ground.Ground.{Ground}
use Rattle.tag_reader.specs.declared.ground.Ground.TheVariants.{Area, File}
use Rattle.tag_reader.specs.declared.known.Known.{Known}
use Rattle.tag_reader.specs.Kinds.{area_of}
use Rattle.tag_reader.specs.Heard.{IsBrought, IsFaultBy, IsNone, joined, first_size}
use Rattle.tag_reader.specs.HeardSteps.{IsCut, Under, Looks, Opened}
use Rattle.tag_reader.specs.private.BlockSteps.{LooksBlocks, Names}
use Rattle.tag_reader.specs.SurveyHeard.{AsksWhatItNeeds, IsGroundHeard, SaysGround, area_heard, known_heard}
use Rattle.tag_reader.specs.Steps.{of_container}
use Rattle.tag_reader.proofs.Exact.{none_over, two_brought}
use Rattle.tag_reader.proofs.Surveys.{area_named}

pub on_err : {A E : Type 0} (X : Type 0) (r : Result A E) → X → OnErr r X
on_err X (Ok x) is = tt
on_err X (Err e) is = is

-- a command was cut off behind pieces that say no ground
pub cut_needs : (how : How) (a b c : LinkView) (ps : List (List ℕ)) → Under how a b ps → (SaysGround how ps → ⊥) → IsCut b c → AsksWhatItNeeds how a c
cut_needs how a b c ps u none (inl over) qs brought says = over
cut_needs how a b c ps u none (inr same) qs brought says =
    let own : IsBrought how a c ps = record { pieces = u.brought.pieces; answered = same ∙ u.brought.answered } in
    absurd (none (subst (λ x. SaysGround how x) (two_brought how a c qs ps brought own) says))

-- the link isn't over where the pieces say a fault
pub none_needs : (how : How) (a b : LinkView) (f : Form) → IsNone how a b f → AsksWhatItNeeds how a b
none_needs how a b f is ps brought says = none_over how a b f is

pub container_needs : (how : How) (a b : LinkView) (f : ContainerFault) → IsFaultBy how a b (of_container f) → AsksWhatItNeeds how a b
container_needs how a b container.NotNdef none = none_needs how a b _ none
container_needs how a b container.Version none = none_needs how a b _ none
container_needs how a b container.NoRead none = none_needs how a b _ none
container_needs how a b container.Sectors none = none_needs how a b _ none
container_needs how a b container.BadSize none = none_needs how a b _ none

-- before the first piece nothing is said
pub nothing_unsaid : SaysGround T2 [] → ⊥
nothing_unsaid says = by_ground says.0 says.1
  where
    by_ground : (g : Ground) → IsGroundHeard T2 [] false g → ⊥
    by_ground (Area known block m) is = omega (arith, is.some)
    by_ground (File m n) is = (let clash = is.kind in cc)

-- an area that isn't known to its end
heard_short : (how : How) (end : ℕ) (bytes : List ℕ) → length (known_heard how end bytes) ≤ length bytes
heard_short T2 end bytes = omega (arith, length-take end bytes)
heard_short T4 end bytes = omega arith
heard_short (T5 id) end bytes = omega arith

pub short_unsaid : (how : How) (ps : List (List ℕ)) (known : List ℕ) (space : Space) → (how ≡ T4 → ⊥) → known ≡ joined ps → area_heard how ps false ≡ Ok space →
    length known < space.end → SaysGround how ps → ⊥
short_unsaid how ps known space other same area short says = by_ground says.0 says.1
  where
    by_ground : (g : Ground) → IsGroundHeard how ps false g → ⊥
    by_ground (Area bytes block m) is =
        let both : Ok m.space ≡ Ok space = sym is.area ∙ area in
        let one : m.space ≡ space = cc in
        omega (arith, is.whole, ap length is.bytes, heard_short how m.space.end (joined ps), ap (λ s. s.end) one, ap length same, short)
    by_ground (File m n) is = other is.kind

pub looks_needs : (a b c : LinkView) (known : List ℕ) (space : Space) (n : ℕ) → Looks a b known space n → length known < space.end → IsCut b c → AsksWhatItNeeds T2 a c
looks_needs a b c known space n l short cut =
    let area : area_heard T2 l.ps false ≡ Ok space = ap (λ xs. area_of T2 (first_size l.ps) xs) (sym l.known') ∙ l.area in
    cut_needs T2 a b c l.ps l.under (short_unsaid T2 l.ps known space (λ e. cc) l.known' area short) cut

pub blocks_needs : (id : List ℕ) (a b c : LinkView) (known : Known) (space : Space) → LooksBlocks id a b known → Names known space → length known.bytes.items < space.end →
    IsCut b c → AsksWhatItNeeds (T5 id) a c
blocks_needs id a b c known space l names short cut =
    let area : area_heard (T5 id) l.ps false ≡ Ok space = area_named known space names l.ps l.known' in
    cut_needs (T5 id) a b c l.ps l.under (short_unsaid (T5 id) l.ps known.bytes.items space (λ e. cc) l.known'.bytes area short) cut

-- a container that isn't whole
pub open_needs : (id : List ℕ) (a b c : LinkView) (known : Known) → LooksBlocks id a b known → t5_is_open known.bytes.items ≡ true → IsCut b c → AsksWhatItNeeds (T5 id) a c
open_needs id a b c known l open' cut = cut_needs (T5 id) a b c l.ps l.under (λ says. by_ground says.0 says.1) cut
  where
    by_ground : (g : Ground) → IsGroundHeard (T5 id) l.ps false g → ⊥
    by_ground (Area bytes block m) is = (let clash : true ≡ false = sym open' ∙ ap t5_is_open l.known'.bytes ∙ is.container in cc)
    by_ground (File m n) is = (let clash = is.kind in cc)

-- fewer than the five pieces that the length of a file's message takes
pub few_unsaid : (ps : List (List ℕ)) → length ps < 5 → SaysGround T4 ps → ⊥
few_unsaid ps few says = by_ground says.0 says.1
  where
    by_ground : (g : Ground) → IsGroundHeard T4 ps false g → ⊥
    by_ground (Area known block m) is = (let no_area = is.area in cc)
    by_ground (File m n) is = omega (arith, few, ap length is.file.pieces)

pub few_needs : (a b c : LinkView) (ps : List (List ℕ)) → Under T4 a b ps → length ps < 5 → IsCut b c → AsksWhatItNeeds T4 a c
few_needs a b c ps u few cut = cut_needs T4 a b c ps u (few_unsaid ps few) cut

-- so it is before the length is read
pub opened_needs : (a b c : LinkView) (map' : FileMap) → Opened a b map' → IsCut b c → AsksWhatItNeeds T4 a c
opened_needs a b c map' o cut = few_needs a b c o.ps o.under (omega (arith, ap length o.pieces.pieces)) cut

pub selected_needs : (a b c : LinkView) (map' : FileMap) (file : List ℕ) → (o : Opened a b map') → (d : LinkView) → Under T4 a d (o.ps ++ file ∷ []) → IsCut d c → AsksWhatItNeeds T4 a c
selected_needs a b c map' file o d u cut = few_needs a d c (o.ps ++ file ∷ []) u (omega (arith, ap length o.pieces.pieces, length-append o.ps (file ∷ []))) cut
