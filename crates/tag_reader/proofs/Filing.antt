-- A reading of a Type 4 tag under way, whatever the tag does.
use Rattle.std.proofs.Common.{◌≡◌, ℕ, zero, suc, ◌+◌, ◌-◌, ◌*◌, ◌/◌, ◌%◌, ◌<◌, ◌≤◌, inl, List, [], ◌∷◌, ◌++◌, length, drop, refl, sym, ◌∙◌, ap, subst, append-nil, arith}
use Rattle.std.specs.Prelude.{Result, Ok, Err, min}
use Rattle.std.proofs.lemmas.List.{length-append, length-take-le, length-drop}
use Rattle.std.proofs.lemmas.Grind.{flat_map-append, div_ceil_times}
use Rattle.std.proofs.Math.Nat.{mul-le-mul_right}
use Rattle.nfc_base.specs.TagLinks.{LinkView}
use Rattle.t4t_tag.specs.Store.{IsT4Store, file_id}
use Rattle.t4t_tag.specs.declared.command.T4Command.TheVariants.{SelectFile, ReadBinary}
use Rattle.tlv_area.specs.declared.container.ContainerFault.{ContainerFault}
use Rattle.tlv_area.specs.declared.container.FileMap.{FileMap}
use Rattle.tlv_area.specs.Containers.{t4_container}
use Rattle.tag_reader.specs.declared.how.How.{How}
use Rattle.tag_reader.specs.declared.how.How.TheVariants.{T4}
use Rattle.tag_reader.specs.declared.fault.ReadFault.{ReadFault}
use Rattle.tag_reader.specs.declared.fault.ReadFault.TheVariants as fault
use Rattle.tag_reader.specs.declared.found.Found.{Found}
use Rattle.tag_reader.specs.declared.found.Site.TheVariants.{File}
use Rattle.tag_reader.specs.Files.{container_in, file_in, message_length, most_of, most_asked, file_command, IsFileDue}
use Rattle.tag_reader.specs.Asked.{Aim}
use Rattle.tag_reader.specs.private.FileSteps.{content_at, EndsBy, OrEnds}
use Rattle.tag_reader.specs.Steps.{of_container}
use Rattle.tag_reader.specs.Heard.{HasSize, HasFile, IsFaultBy, IsFoundBy, file_next, joined}
use Rattle.tag_reader.specs.HeardSteps.{Under, OrFault, Opened, HasParts, Measured, HasRead, ReadAll}
use Rattle.tag_reader.proofs.Bringing.{went_of, memory_ends}
use Rattle.tag_reader.proofs.Looking.{container_none}
use Rattle.tag_reader.proofs.Files.{named}

-- an exit by a fault
pub or_fault : {A : Type 0} (P : A → Type 0) (how : How) (a b : LinkView) (r : Result A ReadFault) (e : ReadFault) → r ≡ Err e → IsFaultBy how a b e → OrFault P how a b r
or_fault P how a b r e same is = subst (λ x. OrFault P how a b x) (sym same) is

pub or_ends : {A : Type 0} (aim : Aim) (P : A → Type 0) (size : ℕ) (a b : LinkView) (r : Result A ReadFault) (e : ReadFault) → r ≡ Err e → EndsBy aim size a b e → OrEnds aim P size a b r
or_ends aim P size a b r e same is = subst (λ x. OrEnds aim P size a b x) (sym same) is

-- a fault is no content
pub fault_brings : {A : Type 0} (e : ReadFault) (x : A) → Err e ≡ Ok x → ⊥
fault_brings e x h = cc

-- a tag of this kind brings as many bytes as its command needs
pub content_fits : (code : ℕ) (store : List ℕ) (n : ℕ) → IsT4Store code (container_in store) (file_in store) → IsFileDue store n → HasSize (file_command store n) (content_at store n)
content_fits code store zero is due = omega arith
content_fits code store (suc zero) is due = refl
content_fits code store (suc (suc zero)) is due = length-take-le 15 (container_in store) is.least
content_fits code store (suc (suc (suc zero))) is due = refl
content_fits code store (suc (suc (suc (suc zero)))) is due =
    (let facts = named (container_in store) due.0 due.1 in length-take-le 2 (file_in store) (omega (arith, facts.least, is.whole)))
content_fits code store (suc (suc (suc (suc (suc k))))) is due =
    let facts = named (container_in store) due.map' due.names in
    let size = ap (λ m. m.size) facts.file in
    length-take-le _ (drop (2 + most_asked store * k) (file_in store))
    (omega (arith, length-drop (2 + most_asked store * k) (file_in store), due.left, due.fits, size, is.whole, facts.least))

-- the container is read
pub opens : (a b : LinkView) (application container head slice : List ℕ) (map' : FileMap) → Under T4 a b (application ∷ container ∷ head ∷ []) → slice ≡ head → Ok map' ≡ t4_container slice
    → Opened a b map'
opens a b application container head slice map' u same is = record {
  head = head;
  ps = application ∷ container ∷ head ∷ [];
  under = u;
  pieces = record { application = application; container = container; pieces = refl };
  names = sym (is ∙ ap (λ xs. t4_container xs) same);
}

pub no_file : (a b : LinkView) (application container head slice : List ℕ) (f : ContainerFault) (e : ReadFault) → Under T4 a b (application ∷ container ∷ head ∷ []) → slice ≡ head →
    Err f ≡ t4_container slice → e ≡ of_container f → IsFaultBy T4 a b e
no_file a b application container head slice f e u same is told =
    subst (λ x. IsFaultBy T4 a b x) (sym told) (container_none T4 a b f (inl (record {
      ps = application ∷ container ∷ head ∷ [];
      brought = u.brought;
      over = (went_of T4 a b (application ∷ container ∷ head ∷ []) u (omega arith)).over;
      says = (head, record { application = application; container = container; pieces = refl }, sym (is ∙ ap (λ xs. t4_container xs) same));
    })))

-- the file is selected, and the length of its message is read
file_names : (head : List ℕ) (map' : FileMap) → t4_container head ≡ Ok map' → SelectFile map'.id ≡ SelectFile (file_id head)
file_names head map' names = ap (λ m. SelectFile m.id) (named head map' names).file

pub selects : (a b : LinkView) (map' : FileMap) → (o : Opened a b map') → SelectFile map'.id ≡ file_next o.ps
selects a b map' o = file_names o.head map' o.names ∙ ap (λ ps. file_next ps) (sym o.pieces.pieces)

-- what is known of the file
pub record FileRoom (map' : FileMap) : Type 0 where
  pub most : 15 ≤ map'.mle
  pub least : 2 ≤ map'.size
  pub size : map'.size ≤ 0x7FFF

pub room : (head : List ℕ) (map' : FileMap) → t4_container head ≡ Ok map' → FileRoom map'
room head map' names =
    let facts = named head map' names in
    let size = ap (λ m. m.size) facts.file in
    record { most = omega (arith, facts.most, ap (λ m. m.mle) facts.file); least = omega (arith, facts.least, size); size = omega (arith, facts.high, size) }

pub opened_room : (a b : LinkView) (map' : FileMap) → Opened a b map' → FileRoom map'
opened_room a b map' o = room o.head map' o.names

pub measures : (a b : LinkView) (map' : FileMap) (file : List ℕ) → (o : Opened a b map') → ReadBinary 0 2 ≡ file_next (o.ps ++ file ∷ [])
measures a b map' file o = ap (λ ps. file_next (ps ++ file ∷ [])) (sym o.pieces.pieces)

has_file : (a b : LinkView) (map' : FileMap) (file size slice : List ℕ) (n : ℕ) → (o : Opened a b map') → slice ≡ size → n ≡ message_length slice →
    HasFile (o.ps ++ file ∷ [] ++ size ∷ []) map' n []
has_file a b map' file size slice n o same is = record {
  application = o.pieces.application;
  container = o.pieces.container;
  head = o.head;
  file = file;
  size = size;
  pieces = ap (λ ps. ps ++ file ∷ [] ++ size ∷ []) o.pieces.pieces;
  names = o.names;
  length' = is ∙ ap (λ xs. message_length xs) same;
}

pub measured : (a b c : LinkView) (map' : FileMap) (file size slice : List ℕ) (n : ℕ) → (o : Opened a b map') → Under T4 a c (o.ps ++ file ∷ [] ++ size ∷ []) → slice ≡ size →
    n ≡ message_length slice → n ≤ map'.size - 2 → Measured a c map' n
measured a b c map' file size slice n o u same is fits = record {
  ps = o.ps ++ file ∷ [] ++ size ∷ [];
  under = u;
  file = has_file a b map' file size slice n o same is;
  fits = fits;
}

file_some : (ps : List (List ℕ)) (map' : FileMap) (n : ℕ) (parts : List (List ℕ)) → HasFile ps map' n parts → 0 < length ps
file_some ps map' n parts f = subst (λ xs. 0 < length xs) (sym f.pieces) (omega arith)

pub file_too_long : (a b c : LinkView) (map' : FileMap) (file size slice : List ℕ) (n : ℕ) → (o : Opened a b map') → Under T4 a c (o.ps ++ file ∷ [] ++ size ∷ []) → slice ≡ size →
    n ≡ message_length slice → map'.size - 2 < n → IsFaultBy T4 a c fault.BadTlv
file_too_long a b c map' file size slice n o u same is long =
    let ps : List (List ℕ) = o.ps ++ file ∷ [] ++ size ∷ [] in
    let has = has_file a b map' file size slice n o same is in
    inl (record { ps = ps; brought = u.brought; over = (went_of T4 a c ps u (file_some ps map' n [] has)).over; says = (map', n, has, long) })

-- the parts of the message
pub parts_room : (a b : LinkView) (map' : FileMap) (n : ℕ) (parts : List (List ℕ)) → (h : HasParts a b map' n parts) → FileRoom map'
parts_room a b map' n parts h = room h.file.head map' h.file.names

pub parts_low : (a b : LinkView) (map' : FileMap) (n : ℕ) (parts : List (List ℕ)) → HasParts a b map' n parts → n ≤ 0x7FFD
parts_low a b map' n parts h = let r = parts_room a b map' n parts h in omega (arith, r.size, r.least, h.fits)

pub parts_some : (a b : LinkView) (map' : FileMap) (n most : ℕ) (parts : List (List ℕ)) → HasParts a b map' n parts → most ≡ min map'.mle 255 → 15 ≤ most
parts_some a b map' n most parts h same = let r = parts_room a b map' n parts h in omega (arith, r.most, same)

pub none_read : (a b : LinkView) (map' : FileMap) (n most : ℕ) → Measured a b map' n → HasRead a b map' n most [] 0
none_read a b map' n most h = record { parts = []; has = h; count = refl; bytes = refl; size = omega arith }

pub part_command : (a b : LinkView) (map' : FileMap) (n most k count : ℕ) (message : List ℕ) → (h : HasRead a b map' n most message k) → most ≡ min map'.mle 255 →
    count ≡ min most (n - most * k) → ReadBinary (2 + most * k) count ≡ file_next h.has.ps
part_command a b map' n most k count message h same here =
    let f = h.has.file in
    let m : most ≡ most_of f.head = same ∙ ap (λ x. min x.mle 255) (named f.head map' f.names).file in
    here_is f.head f.size (length h.parts) m h.count f.length' ∙ ap (λ ps. file_next ps) (sym f.pieces)
  where
    here_is : (head size : List ℕ) (i : ℕ) → most ≡ most_of head → i ≡ k → n ≡ message_length size →
        ReadBinary (2 + most * k) count ≡ ReadBinary (2 + most_of head * i) (min (most_of head) (message_length size - most_of head * i))
    here_is head size i m c l = rw (sym m, c, sym l, here) refl

parts_more : (a b c : LinkView) (map' : FileMap) (n : ℕ) (parts : List (List ℕ)) (p : List ℕ) → (h : HasParts a b map' n parts) → Under T4 a c (h.ps ++ p ∷ []) → HasParts a c map' n (parts ++ p ∷ [])
parts_more a b c map' n parts p h u = record {
  ps = h.ps ++ p ∷ [];
  under = u;
  file = record {
    application = h.file.application;
    container = h.file.container;
    head = h.file.head;
    file = h.file.file;
    size = h.file.size;
    pieces = ap (λ ps. ps ++ p ∷ []) h.file.pieces;
    names = h.file.names;
    length' = h.file.length';
  };
  fits = h.fits;
}

pub read_more : (a b c : LinkView) (map' : FileMap) (n most k : ℕ) (message message' p : List ℕ) → (h : HasRead a b map' n most message k) → Under T4 a c (h.has.ps ++ p ∷ []) →
    message' ≡ message ++ p → length p ≡ min most (n - most * k) → most * k < n → HasRead a c map' n most message' (k + 1)
read_more a b c map' n most k message message' p h u grown size left =
    let next : most * (k + 1) ≡ most * k + most = omega arith in
    record {
      parts = h.parts ++ p ∷ [];
      has = parts_more a b c map' n h.parts p h.has u;
      count = length-append h.parts (p ∷ []) ∙ ap (λ m. m + 1) h.count;
      bytes = grown ∙ ap (λ xs. xs ++ p) h.bytes ∙ ap (λ xs. joined h.parts ++ xs) (sym (append-nil p)) ∙ sym (flat_map-append (λ x. x) h.parts (p ∷ []));
      size = omega (arith, ap length grown, length-append message p, h.size, size, next, left);
    }

pub read_lost : (a b c : LinkView) (map' : FileMap) (n most k : ℕ) (message p : List ℕ) → (h : HasRead a b map' n most message k) → Under T4 a c (h.has.ps ++ p ∷ []) → IsFaultBy T4 a c fault.Memory
read_lost a b c map' n most k message p h u =
    memory_ends T4 a c (h.has.ps ++ p ∷ []) u.brought (went_of T4 a c (h.has.ps ++ p ∷ []) u (omega (arith, length-append h.has.ps (p ∷ [])))).over

pub read_all : (a b : LinkView) (map' : FileMap) (n most k : ℕ) (message : List ℕ) → HasRead a b map' n most message k → n ≤ most * k → ReadAll a b map' n message
read_all a b map' n most k message h high = record { parts = h.parts; has = h.has; whole = record { bytes = h.bytes; size = omega (arith, h.size, high) } }

pub found_file : (a b : LinkView) (map' : FileMap) (n : ℕ) (found : Found) → ReadAll a b map' n found.message → found.site ≡ File map' → found.writable ≡ map'.writable → IsFoundBy T4 a b found
found_file a b map' n found r site writable = record {
  ps = r.has.ps;
  brought = r.has.under.brought;
  over = (went_of T4 a b r.has.ps r.has.under (file_some r.has.ps map' n r.parts r.has.file)).over;
  held = (map', n, r.parts, r.has.file, r.has.fits, r.whole);
  site = (map', n, r.parts, r.has.file, site, writable);
}

pub pieces_high : (n most q k : ℕ) → 0 < most → q ≡ n / most + min 1 (n % most) → q ≤ k → n ≤ most * k
pieces_high n most q k some count past =
    let whole = (div_ceil_times n most some).0 in
    let covered : n ≤ q * most = rw count whole in
    let more : q * most ≤ k * most = mul-le-mul_right most past in
    omega (arith, covered, more)
