-- A reading of a Type 4 tag under way, and how it ends.
use Rattle.std.proofs.Common.{◌≡◌, ℕ, zero, suc, ◌+◌, ◌-◌, ◌*◌, ◌/◌, ◌%◌, ◌<◌, ◌≤◌, min, inl, inr, true, false, nat_lt, if◌then◌else◌, List, [], ◌∷◌, ◌++◌, length, take, drop, refl, sym, ◌∙◌, ap}
use Rattle.std.proofs.Common.{subst, append_assoc, arith}
use Rattle.std.specs.Prelude.{Result, Ok, Err}
use Rattle.std.proofs.lemmas.List.{length-take, take_all, take-take, drop-take, drop-drop}
use Rattle.std.proofs.Math.Seq.{take-add}
use Rattle.std.proofs.Math.Nat.{mul-le-mul_right}
use Rattle.std.proofs.lemmas.Grind.{div_ceil_times}
use Rattle.std.proofs.lemmas.Bool.{cases_lt, lt-ltb}
use Rattle.nfc_base.specs.Signal.{Signal, whole_a}
use Rattle.nfc_base.specs.TagLinks.{TagState, TagStep, LinkView, MayAsk, Type4}
use Rattle.t4t_tag.specs.Store.{IsT4Store}
use Rattle.t4t_tag.specs.declared.command.T4Command.TheVariants.{SelectFile, ReadBinary}
use Rattle.t4t_tag.specs.Step.{done}
use Rattle.tlv_area.specs.declared.container.ContainerFault.{ContainerFault}
use Rattle.tlv_area.specs.declared.container.FileMap.{FileMap}
use Rattle.tlv_area.specs.Containers.{t4_container}
use Rattle.tlv_area.specs.Form as form
use Rattle.tag_reader.specs.declared.how.How.TheVariants.{T4}
use Rattle.tag_reader.specs.declared.fault.ReadFault.{ReadFault}
use Rattle.tag_reader.specs.declared.fault.ReadFault.TheVariants as fault
use Rattle.tag_reader.specs.declared.found.Found.{Found}
use Rattle.tag_reader.specs.declared.found.Site.TheVariants.{File}
use Rattle.tag_reader.specs.Files.{container_in, file_in, message_length, message_in, most_asked, HasPiece, file_command, file_frame, file_form, t4_form, NamesFile, IsFileDue}
use Rattle.tag_reader.specs.Kinds.{IsTag, command, first}
use Rattle.tag_reader.specs.Asked.{Aim, ToRead, ToWrite, IsNextFor, IsDueFor, AreDueFor}
use Rattle.tag_reader.specs.Calls.{HasAskedFor, HasAskedAllFor}
use Rattle.tag_reader.specs.Reading.{IsReadFault, is_told}
use Rattle.tag_reader.specs.Steps.{Answers, Fails, Asks, Reads, Concludes, IsRead, of_container}
use Rattle.tag_reader.specs.private.FileSteps.{state_at, content_at, piece_at, Reached, IsUnder, EndsBy, IsOpen, IsMeasured, IsWhole, HasPieces}
use Rattle.tag_reader.proofs.Links.{Keeps}
use Rattle.tag_reader.proofs.Knowing.{due_more_for, after_more, stays_on, goes_on_on}
use Rattle.tag_reader.proofs.Endings.{ends_first, ends_asks, container_fault, container_told, read_ended}
use Rattle.tag_reader.proofs.Files.{t4_front, named, state_store, turn_at}

-- a command that is due is due by what the container and the length say
pub file_due : (aim : Aim) (size : ℕ) (store : List ℕ) (n : ℕ) → IsNextFor aim T4 size store n → IsFileDue store n
file_due ToRead size store n next = next
file_due ToWrite size store n next = next.0

pub head_due : (aim : Aim) (size : ℕ) (store : List ℕ) (n : ℕ) → n < 5 → IsFileDue store n → IsNextFor aim T4 size store n
head_due ToRead size store n low due = due
head_due ToWrite size store n low due = (due, low)

-- the link leads to the same tag
leads_to : (aim : Aim) (size n : ℕ) (a b : LinkView) → Reached aim size a b n → (b.step ≡ a.step) × (b.kind ≡ a.kind)
leads_to aim size zero a b here = (ap (λ v. v.step) here, ap (λ v. v.kind) here)
leads_to aim size (suc n) a b asks = (asks.stays.leads.step, asks.stays.leads.kind)

-- a tag's code is one that a tag may have
pub tag_store : (size : ℕ) (a : LinkView) (is : IsTag T4 size a) → IsT4Store is.steps.0 (container_in a.state.store) (file_in a.state.store)
tag_store size a is = record {
  coded = is.steps.1;
  least = is.store.1.least;
  most = is.store.1.most;
  other = is.store.1.other;
  size = is.store.1.size;
  whole = is.store.1.whole;
}

-- it answers the command that is due
pub keeps_at : {aim : Aim} (size n : ℕ) (a b : LinkView) → IsUnder aim size a b n → IsFileDue a.state.store n →
    Keeps b (file_frame (file_command a.state.store n)) (whole_a (content_at a.state.store n ++ done)) (state_at a.state (suc n))
keeps_at size n a b u due =
    let c : Signal = file_frame (file_command a.state.store n) in
    let here : (s : TagState) → TagStep = λ s. a.step s c in
    let store : IsT4Store u.tag.steps.0 (container_in (state_at a.state n).store) (file_in (state_at a.state n).store) =
    subst (λ st. IsT4Store u.tag.steps.0 (container_in st) (file_in st)) (sym (state_store a.state n)) (tag_store size a u.tag) in
    record {
      step = ap (λ st. st b.state c) (leads_to _ size n a b u.reached).0 ∙ ap here u.state ∙ u.tag.steps.2 (state_at a.state n) c (u.tag.steps.0, store) may
          ∙ turn_at u.tag.steps.0 a.state n (tag_store size a u.tag) due;
      store = state_store a.state (suc n) ∙ sym (state_store a.state n) ∙ sym (ap (λ t. t.store) u.state);
    }
  where
    may : MayAsk Type4 a.identifier (file_frame (file_command a.state.store n))
    may = (refl, short n)
      where
        short : (m : ℕ) → length (file_frame (file_command a.state.store m)).bytes ≤ 264
        short zero = omega arith
        short (suc zero) = omega arith
        short (suc (suc zero)) = omega arith
        short (suc (suc (suc zero))) = omega arith
        short (suc (suc (suc (suc zero)))) = omega arith
        short (suc (suc (suc (suc (suc k))))) = omega arith

-- nothing is asked yet
pub begins : (aim : Aim) (size : ℕ) (a : LinkView) → IsTag T4 size a → IsUnder aim size a a 0
begins aim size a is = record { tag = is; reached = refl; state = refl }

due_after : (aim : Aim) (size n : ℕ) (store : List ℕ) → AreDueFor aim T4 size store n → IsDueFor aim T4 size store n → AreDueFor aim T4 size store (suc n)
due_after aim size n store before here = (let e : n + 1 ≡ suc n = omega arith in subst (λ m. AreDueFor aim T4 size store m) e (due_more_for aim T4 size store n before here))

asks_first : (aim : Aim) (size : ℕ) (a c : LinkView) → Answers (command T4 size a.state.store 0) a c → Asks aim T4 size a c 1
asks_first aim size a c answer = record {
  stays = answer.stays;
  before = answer.before;
  goes_on = answer.goes_on;
  each = λ k low. inl (omega arith);
  answered = answer.answered;
  last = answer.last;
  after = answer.after;
}

asks_more : (aim : Aim) (size n : ℕ) (a b c : LinkView) → Asks aim T4 size a b n → IsDueFor aim T4 size a.state.store n → Answers (command T4 size a.state.store n) b c → Asks aim T4 size a c (suc n)
asks_more aim size n a b c asks due answer = record {
  stays = stays_on a b c asks.stays answer.stays;
  before = asks.before;
  goes_on = goes_on_on a b c asks.goes_on answer.goes_on;
  each = due_after aim size n a.state.store asks.each due;
  answered = answer.answered ∙ ap (λ xs. xs ++ command T4 size a.state.store n ∷ []) asks.answered
      ∙ append_assoc a.answered (first T4 size a.state.store n) (command T4 size a.state.store n ∷ []);
  last = answer.last;
  after = after_more a b c (first T4 size a.state.store n) (command T4 size a.state.store n) asks.stays.leads.step asks.after answer.after;
}

-- it was answered
pub under_next : (aim : Aim) (size n : ℕ) (a b c : LinkView) → IsUnder aim size a b n → IsNextFor aim T4 size a.state.store n → Answers (file_frame (file_command a.state.store n)) b c →
    c.state ≡ state_at a.state (suc n) → IsUnder aim size a c (suc n)
under_next aim size zero a b c u due answer state =
    record { tag = u.tag; reached = asks_first aim size a c (subst (λ v. Answers (command T4 size a.state.store 0) v c) u.reached answer); state = state }
under_next aim size (suc n) a b c u due answer state =
    record { tag = u.tag; reached = asks_more aim size (suc n) a b c u.reached (inr due) answer; state = state }

-- it wasn't
pub under_fails : (aim : Aim) (size n : ℕ) (a b c : LinkView) (e : ReadFault) → IsUnder aim size a b n → IsNextFor aim T4 size a.state.store n → Fails (file_frame (file_command a.state.store n)) b c e
    →
    EndsBy aim size a c e
under_fails aim size zero a b c e u due f = ends_first aim T4 size a c [] e (subst (λ v. Fails (command T4 size a.state.store 0) v c e) u.reached f)
under_fails aim size (suc n) a b c e u due f = ends_asks aim T4 size a b c [] (suc n) e u.reached (inr due) f

pub has_asked : {aim : Aim} (size n : ℕ) (a b : LinkView) → Asks aim T4 size a b n → HasAskedFor aim T4 size a.state.store a b
has_asked size n a b asks = record { count = n; each = asks.each; answered = asks.answered; last = inl (asks.last, asks.goes_on.over ∙ sym asks.before) }

pub has_all : {aim : Aim} (size n : ℕ) (a b : LinkView) → Asks aim T4 size a b n → (IsDueFor aim T4 size a.state.store n → ⊥) → HasAskedAllFor aim T4 size a.state.store a b
has_all size n a b asks no_more = record {
  commands = first T4 size a.state.store n;
  all = record { count = n; list = refl; each = asks.each; no_more = no_more };
  answered = asks.answered;
  state = asks.after;
}

-- own growth found no memory
pub under_lost : {aim : Aim} (size n : ℕ) (a b : LinkView) → IsUnder aim size a b (suc n) → EndsBy aim size a b fault.Memory
under_lost size n a b u = record {
  stays = u.reached.stays;
  asked = has_asked size (suc n) a b u.reached;
  whole = λ told. absurd (let clash : false ≡ true = told in cc);
  goes_on = λ told. absurd (let clash : false ≡ true = told in cc);
  tells = inl u.reached.goes_on.over;
  calm = λ begun lit quiet. inr refl;
}

-- the store has a fault
under_told : {aim : Aim} (size n : ℕ) (a b : LinkView) (e : ReadFault) → IsUnder aim size a b (suc n) → (IsDueFor aim T4 size a.state.store (suc n) → ⊥) → is_told e ≡ true →
    IsReadFault T4 size a.state.store a b e → EndsBy aim size a b e
under_told size n a b e u no_more told is = record {
  stays = u.reached.stays;
  asked = has_asked size (suc n) a b u.reached;
  whole = λ t. has_all size (suc n) a b u.reached no_more;
  goes_on = λ t. u.reached.goes_on;
  tells = is;
  calm = λ begun lit quiet. inl told;
}

pub no_file : {aim : Aim} (size : ℕ) (a b : LinkView) (f : ContainerFault) → IsUnder aim size a b 3 → t4_container (container_in a.state.store) ≡ Err f → EndsBy aim size a b (of_container f)
no_file {aim = aim} size a b f u has =
    under_told size 2 a b (of_container f) u none (container_told f)
    (container_fault T4 size a.state.store a b f (sym (ap (λ r. file_form r (file_in a.state.store)) has)))
  where
    none : IsDueFor aim T4 size a.state.store 3 → ⊥
    none (inl e) = (omega arith)
    none (inr next) = (let due = file_due aim size a.state.store 3 next in let clash : Ok due.0 ≡ Err f = sym due.1 ∙ has in cc)

-- what the container says, by its first bytes
named_by : (a : LinkView) (head : List ℕ) (r : Result FileMap ContainerFault) → head ≡ content_at a.state.store 2 → r ≡ t4_container head → t4_container (container_in a.state.store) ≡ r
named_by a head r brought is = sym (is ∙ ap (λ b. t4_container b) brought ∙ t4_front (container_in a.state.store))

pub no_file_by : {aim : Aim} (size : ℕ) (a b : LinkView) (head : List ℕ) (f : ContainerFault) → IsUnder aim size a b 3 → head ≡ content_at a.state.store 2 → Err f ≡ t4_container head →
    EndsBy aim size a b (of_container f)
no_file_by size a b head f u brought is = no_file size a b f u (named_by a head (Err f) brought is)

pub opens_file : {aim : Aim} (size : ℕ) (a b : LinkView) (head : List ℕ) (map' : FileMap) → IsUnder aim size a b 3 → head ≡ content_at a.state.store 2 → Ok map' ≡ t4_container head →
    IsOpen aim size a b map'
opens_file size a b head map' u brought is = record { under = u; names = named_by a head (Ok map') brought is }

-- the file that is selected is the one that the container names
pub selected_file : (a : LinkView) (map' : FileMap) → NamesFile a.state.store map' → SelectFile map'.id ≡ file_command a.state.store 3
selected_file a map' names = ap (λ m. SelectFile m.id) (named (container_in a.state.store) map' names).file

front_length : (file : List ℕ) → message_length (take 2 file) ≡ message_length file
front_length [] = refl
front_length (a ∷ []) = refl
front_length (a ∷ b ∷ rest) = refl

pub length_told : (a : LinkView) (bytes : List ℕ) (n : ℕ) → bytes ≡ content_at a.state.store 4 → n ≡ message_length bytes → n ≡ message_length (file_in a.state.store)
length_told a bytes n brought is = is ∙ ap (λ b. message_length b) brought ∙ front_length (file_in a.state.store)

-- the form of a store whose container names a file
file_is : (store : List ℕ) (map' : FileMap) → NamesFile store map' →
    t4_form store ≡ (if nat_lt (map'.size - 2) (message_length (file_in store)) then form.BadTlv else form.Message (message_in (file_in store)))
file_is store map' names = ap (λ r. file_form r (file_in store)) names

pub too_long : {aim : Aim} (size : ℕ) (a b : LinkView) (map' : FileMap) → IsUnder aim size a b 5 → NamesFile a.state.store map' → map'.size - 2 < message_length (file_in a.state.store) →
    EndsBy aim size a b fault.BadTlv
too_long {aim = aim} size a b map' u names long =
    under_told size 4 a b fault.BadTlv u none refl
    (sym (file_is a.state.store map' names ∙ ap (λ v. if v then form.BadTlv else form.Message (message_in (file_in a.state.store)))
    (lt-ltb (map'.size - 2) (message_length (file_in a.state.store)) long)))
  where
    none : IsDueFor aim T4 size a.state.store 5 → ⊥
    none (inl e) = (omega arith)
    none (inr next) =
        (let due = file_due aim size a.state.store 5 next in
        let both : Ok due.map' ≡ Ok map' = sym due.names ∙ names in
        let same : due.map' ≡ map' = cc in
        omega (arith, due.fits, ap (λ m. m.size) same, long))

not_less : (m n : ℕ) → n ≤ m → nat_lt m n ≡ false
not_less m n h = grind arith

-- the message is read
pub is_read : (size : ℕ) (a b : LinkView) (map' : FileMap) (found : Found) → IsWhole size a b found.message → NamesFile a.state.store map' →
    message_length (file_in a.state.store) ≤ map'.size - 2 → found.site ≡ File map' → found.writable ≡ map'.writable → IsRead T4 size a b (Ok found)
is_read size a b map' found w names fits site writable = record {
  stays = w.under.reached.stays;
  asked = has_asked size (suc w.count) a b w.under.reached;
  whole = has_all size (suc w.count) a b w.under.reached w.no_more;
  goes_on = w.under.reached.goes_on;
  ok = record {
    held = ap form.Message w.bytes ∙ sym (file_is a.state.store map' names
        ∙ ap (λ v. if v then form.BadTlv else form.Message (message_in (file_in a.state.store))) (not_less (map'.size - 2) (message_length (file_in a.state.store)) fits));
    site = rw site (names, writable);
  };
  err = tt;
  calm = λ is. tt;
}

pub is_ended : {A : Type 0} {aim : Aim} {gives : A → Type 0} (size : ℕ) (a b : LinkView) (e : ReadFault) → Reads aim T4 size a b [] (Err e) → Concludes aim gives T4 size a b (Err e)
is_ended size a b e r = read_ended T4 size a b [] e r

-- The message, piece by piece.
cut_both : (m r : ℕ) (ys : List ℕ) → take m (take r ys) ≡ take (min m r) ys
cut_both m r ys = elim (cases_lt r m) [
  | inl less ↦ (let same : min m r ≡ r = omega arith in take_all m (take r ys) (omega (arith, less, length-take r ys)) ∙ ap (λ n. take n ys) (sym same))
  | inr more ↦ (let same : min m r ≡ m = omega arith in take-take m r ys more ∙ ap (λ n. take n ys) (sym same))
]

-- so many bytes of the message from a place on are those of the file
part_of : (file : List ℕ) (at most : ℕ) → at < message_length file → take most (drop at (message_in file)) ≡ take (min most (message_length file - at)) (drop (2 + at) file)
part_of file at most within =
    let rest : ℕ = message_length file - at in
    let all : at + rest ≡ message_length file = omega arith in
    ap (λ n. take most (drop at (take n (drop 2 file)))) (sym all)
    ∙ ap (λ ys. take most ys) (drop-take at rest (drop 2 file))
    ∙ cut_both most rest (drop at (drop 2 file))
    ∙ ap (λ ys. take (min most rest) ys) (drop-drop at 2 file)

pub no_pieces : (size : ℕ) (a b : LinkView) (map' : FileMap) (n : ℕ) → IsMeasured ToRead size a b map' n → HasPieces size a b [] 0
no_pieces size a b map' n is =
    let none : most_asked a.state.store * 0 ≡ 0 = omega arith in
    record { under = is.under; bytes = sym (ap (λ m. take m (message_in (file_in a.state.store))) none) }

-- how many bytes the pieces before the last have
pub low_piece : (n most k : ℕ) → 0 < most → k < n / most + min 1 (n % most) → most * k < n
low_piece n most k some low =
    let bound = (div_ceil_times n most some).1 in
    let next : (k + 1) * most ≤ (n / most + min 1 (n % most)) * most = mul-le-mul_right most (omega arith) in
    omega (arith, bound, next)

pub most_some : (a : LinkView) (map' : FileMap) → NamesFile a.state.store map' → 15 ≤ most_asked a.state.store
most_some a map' names = let facts = named (container_in a.state.store) map' names in omega (arith, facts.most)

pub piece_due : (size : ℕ) (a b : LinkView) (map' : FileMap) (n most q k : ℕ) → IsMeasured ToRead size a b map' n → most ≡ most_asked a.state.store → q ≡ n / most + min 1 (n % most) → k < q →
    HasPiece a.state.store k
piece_due size a b map' n most q k is same count low =
    let some = most_some a map' is.names in
    let here : k < n / most_asked a.state.store + min 1 (n % most_asked a.state.store) = rw (sym same, sym count) low in
    let left = low_piece n (most_asked a.state.store) k (omega (arith, some)) here in
    record { map' = map'; names = is.names; fits = omega (arith, is.length', is.fits); left = omega (arith, left, is.length') }

-- the code's numbers are those of the command that is due
pub piece_command : (size : ℕ) (a b : LinkView) (map' : FileMap) (n most k count : ℕ) → IsMeasured ToRead size a b map' n → most ≡ most_asked a.state.store → count ≡ min most (n - most * k) →
    ReadBinary (2 + most * k) count ≡ file_command a.state.store (piece_at k)
piece_command size a b map' n most k count is same here = rw (here, is.length', same) refl

-- the next piece
pub pieces_more : (size : ℕ) (a b c : LinkView) (message piece : List ℕ) (k : ℕ) → HasPieces size a b message k → HasPiece a.state.store k → IsUnder ToRead size a c (piece_at (suc k)) →
    piece ≡ content_at a.state.store (piece_at k) → HasPieces size a c (message ++ piece) (k + 1)
pieces_more size a b c message piece k h p u brought =
    let most : ℕ = most_asked a.state.store in
    let file : List ℕ = file_in a.state.store in
    let e : k + 1 ≡ suc k = omega arith in
    let next : most * (k + 1) ≡ most * k + most = omega arith in
    record {
      under = subst (λ m. IsUnder ToRead size a c (piece_at m)) (sym e) u;
      bytes = ap (λ xs. xs ++ piece) h.bytes ∙ ap (λ xs. take (most * k) (message_in file) ++ xs) (brought ∙ sym (part_of file (most * k) most p.left))
          ∙ sym (take-add (most * k) most (message_in file)) ∙ ap (λ m. take m (message_in file)) (sym next);
    }

-- all of them
pub all_pieces : (size : ℕ) (a b c : LinkView) (map' : FileMap) (n most q k : ℕ) (message : List ℕ) → IsMeasured ToRead size a b map' n → most ≡ most_asked a.state.store →
    q ≡ n / most + min 1 (n % most) → q ≤ k → HasPieces size a c message k → IsWhole size a c message
all_pieces size a b c map' n most q k message is same count past h = record {
  count = suc (suc (suc (suc k)));
  under = h.under;
  no_more = none;
  bytes = h.bytes ∙ take_all (most_asked a.state.store * k) (message_in (file_in a.state.store))
      (omega (arith, high, is.length', length-take (message_length (file_in a.state.store)) (drop 2 (file_in a.state.store))));
}
  where
    high : n ≤ most_asked a.state.store * k
    high = (let some = most_some a map' is.names in
        let whole = (div_ceil_times n most (omega (arith, some, same))).0 in
        let covered : n ≤ q * most = rw count whole in
        let more : q * most ≤ k * most = mul-le-mul_right most past in
        let all : n ≤ most * k = omega (arith, covered, more) in
        rw (sym same) all)

    none : IsDueFor ToRead T4 size a.state.store (piece_at k) → ⊥
    none (inl e) = omega arith
    none (inr next) = (let left = next.left in omega (arith, left, high, is.length'))

pub most_is : (a : LinkView) (map' : FileMap) (n : ℕ) → NamesFile a.state.store map' → n ≡ min map'.mle 255 → n ≡ most_asked a.state.store
most_is a map' n names is = is ∙ ap (λ m. min m.mle 255) (named (container_in a.state.store) map' names).file
