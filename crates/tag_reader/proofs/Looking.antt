-- A reading of a Type 2 tag under way, whatever the tag does.
use Rattle.std.proofs.Common.{◌≡◌, ℕ, ◌+◌, ◌*◌, ◌<◌, ◌≤◌, inl, inr, List, [], ◌∷◌, ◌++◌, length, take, drop, refl, sym, ◌∙◌, ap, subst, append-nil, arith}
use Rattle.std.specs.Prelude.{Ok, Err, Option, Some, None}
use Rattle.std.proofs.lemmas.Bool.{cases_lt}
use Rattle.std.proofs.lemmas.List.{length-append, length-take-le, get_or_append_left}
use Rattle.std.proofs.lemmas.Grind.{flat_map-append}
use Rattle.nfc_base.specs.TagLinks.{LinkView}
use Rattle.tlv_area.specs.declared.space.Space.{Space}
use Rattle.tlv_area.specs.declared.space.AreaMap.{AreaMap}
use Rattle.tlv_area.specs.declared.container.ContainerFault.{ContainerFault}
use Rattle.tlv_area.specs.declared.container.ContainerFault.TheVariants as container
use Rattle.tlv_area.specs.declared.walk.Walk.TheVariants as walk
use Rattle.tlv_area.specs.Layout.{IsArea}
use Rattle.tlv_area.specs.Form as form
use Rattle.tlv_area.specs.Containers.{first_fault, unless, t2_faults, t2_space, t2_container}
use Rattle.tlv_area.specs.Stores.{four_bytes, IsFormBy}
use Rattle.tlv_area.specs.Map.{IsWalk, TellsForm, IsPlacedIn}
use Rattle.tag_reader.specs.declared.how.How.{How}
use Rattle.tag_reader.specs.declared.how.How.TheVariants.{T2}
use Rattle.tag_reader.specs.declared.fault.ReadFault.{ReadFault}
use Rattle.tag_reader.specs.declared.fault.ReadFault.TheVariants as fault
use Rattle.tag_reader.specs.Kinds.{IsNamed, area_of}
use Rattle.tag_reader.specs.Steps.{of_container}
use Rattle.tag_reader.specs.Heard.{IsOf, AreaSays, IsNone, IsFaultBy, joined, first_size}
use Rattle.tag_reader.specs.HeardSteps.{Under, Gains, Looks, Sees}
use Rattle.tag_reader.proofs.Knowing.{store_goes_on}
use Rattle.tag_reader.proofs.Bringing.{went_of}

-- the link stays one of its kind
pub of_under : (how : How) (a b : LinkView) (ps : List (List ℕ)) → IsOf how a → Under how a b ps → IsOf how b
of_under how a b ps is u = record { kind = u.kind ∙ is.kind; named = subst (λ i. IsNamed how i) (sym u.identifier) is.named }

-- the first piece is what is known
first_known : (a b : LinkView) (before known slice : List ℕ) → before ≡ [] → (g : Gains a b [] before known) → slice ≡ known → slice ≡ g.piece
first_known a b before known slice none g same = same ∙ g.grown ∙ ap (λ xs. xs ++ g.piece) none

pub first_holds : (a b : LinkView) (before known slice : List ℕ) → before ≡ [] → Gains a b [] before known → slice ≡ known → length slice ≡ 16
first_holds a b before known slice none g same = ap length (first_known a b before known slice none g same) ∙ g.size

pub first_looks : (a b : LinkView) (before known slice : List ℕ) (space : Space) → before ≡ [] → Gains a b [] before known → slice ≡ known → Ok space ≡ area_of T2 16 slice → Looks a b known space 0
first_looks a b before known slice space none g same has =
    let all : known ≡ g.piece = first_known a b before known known none g refl in
    record {
      ps = g.piece ∷ [];
      under = g.under;
      known' = all ∙ sym (append-nil g.piece);
      count = refl;
      whole = ap length all ∙ g.size;
      area = ap (λ xs. area_of T2 16 xs) (sym same) ∙ sym has;
    }

lacks : (a b : LinkView) (ps : List (List ℕ)) (f : form.Form) → Under T2 a b ps → AreaSays T2 ps f → IsNone T2 a b f
lacks a b ps f u is = inl (record { ps = ps; brought = u.brought; over = (went_of T2 a b ps u is.some).over; says = is })

pub container_none : (how : How) (a b : LinkView) (f : ContainerFault) → IsNone how a b (form.Faulty f) → IsFaultBy how a b (of_container f)
container_none how a b container.NotNdef is = is
container_none how a b container.Version is = is
container_none how a b container.NoRead is = is
container_none how a b container.Sectors is = is
container_none how a b container.BadSize is = is

pub first_faulty : (a b : LinkView) (before known slice : List ℕ) (f : ContainerFault) (e : ReadFault) → before ≡ [] → Gains a b [] before known → slice ≡ known →
    Err f ≡ area_of T2 16 slice → e ≡ of_container f → IsFaultBy T2 a b e
first_faulty a b before known slice f e none g same has told =
    let all : joined (g.piece ∷ []) ≡ slice = append-nil g.piece ∙ sym (first_known a b before known slice none g same) in
    let area : area_of T2 (length g.piece) (joined (g.piece ∷ [])) ≡ Err f = ap (λ xs. area_of T2 16 xs) all ∙ sym has in
    subst (λ x. IsFaultBy T2 a b x) (sym told)
    (container_none T2 a b f (lacks a b (g.piece ∷ []) (form.Faulty f) g.under (record {
      some = omega arith;
      whole = tt;
      form = subst (λ r. IsFormBy r (joined (g.piece ∷ [])) (form.Faulty f)) (sym area) refl;
    })))

-- what a walk over what is known settles
some_pieces : (a b : LinkView) (known : List ℕ) (space : Space) (n : ℕ) → (l : Looks a b known space n) → 0 < length l.ps
some_pieces a b known space n l = omega (arith, l.count)

known_form : (a b : LinkView) (known front : List ℕ) (space : Space) (n : ℕ) (f : form.Form) → (l : Looks a b known space n) → front ≡ take space.end known →
    ((more : List ℕ) → form.IsForm space (front ++ more) f) → AreaSays T2 l.ps f
known_form a b known front space n f l e settled =
    let here : form.IsForm space known f = subst (λ xs. form.IsForm space xs f) (sym (store_goes_on known front space.end e)) (settled (drop space.end known)) in
    let area : area_of T2 (first_size l.ps) (joined l.ps) ≡ Ok space = ap (λ xs. area_of T2 (first_size l.ps) xs) (sym l.known') ∙ l.area in
    record {
      some = some_pieces a b known space n l;
      whole = tt;
      form = subst (λ r. IsFormBy r (joined l.ps) f) (sym area) (subst (λ xs. form.IsForm space xs f) l.known' here);
    }

pub looks_none : (a b : LinkView) (known front : List ℕ) (space : Space) (n : ℕ) → Looks a b known space n → front ≡ take space.end known →
    ((more : List ℕ) → TellsForm space (front ++ more) walk.NoMessageTlv) → IsFaultBy T2 a b fault.NoMessageTlv
looks_none a b known front space n l e settled = lacks a b l.ps form.NoMessageTlv l.under (known_form a b known front space n form.NoMessageTlv l e settled)

pub looks_bad : (a b : LinkView) (known front : List ℕ) (space : Space) (n : ℕ) → Looks a b known space n → front ≡ take space.end known →
    ((more : List ℕ) → TellsForm space (front ++ more) walk.BadTlv) → IsFaultBy T2 a b fault.BadTlv
looks_bad a b known front space n l e settled = lacks a b l.ps form.BadTlv l.under (known_form a b known front space n form.BadTlv l e settled)

pub looks_held : (a b : LinkView) (known front : List ℕ) (space : Space) (n : ℕ) (m : AreaMap) → Looks a b known space n → front ≡ take space.end known →
    ((more : List ℕ) → IsWalk space (front ++ more) (walk.Held m)) → ((more : List ℕ) → TellsForm space (front ++ more) (walk.Held m)) → IsPlacedIn front m →
    Sees T2 a b known m
looks_held a b known front space n m l e there settled places =
    let read : known ≡ front ++ drop space.end known = store_goes_on known front space.end e in
    let walked : IsWalk space known (walk.Held m) = subst (λ xs. IsWalk space xs (walk.Held m)) (sym read) (there (drop space.end known)) in
    let told : TellsForm space known (walk.Held m) = subst (λ xs. TellsForm space xs (walk.Held m)) (sym read) (settled (drop space.end known)) in
    let longer : length known ≡ length front + length (drop space.end known) = ap length read ∙ length-append front (drop space.end known) in
    record {
      ps = l.ps;
      brought = l.under.brought;
      over = (went_of T2 a b l.ps l.under (some_pieces a b known space n l)).over;
      known' = l.known';
      some = some_pieces a b known space n l;
      area = l.area ∙ ap (λ s. Ok s) (sym walked.0);
      whole = tt;
      walk = (refl, walked.1, walked.2, walked.3, walked.4);
      placed = record { placed = places.placed; below = λ i low. omega (arith, places.below i low, longer) };
      held = subst (λ s. TellsForm s known (walk.Held m)) (sym walked.0) told;
    }

-- the walk needs more
pub known_short : (known front : List ℕ) (end : ℕ) → front ≡ take end known → length front < end → length known < end
known_short known front end e short = elim (cases_lt (length known) end) [
  | inl less ↦ less
  | inr whole ↦ (let all : length front ≡ end = ap length e ∙ length-take-le end known whole in absurd (omega (arith, all, short)))
]

ok_is : (o : Option ContainerFault) (x y : Space) → unless o x ≡ Ok y → x ≡ y
ok_is None x y has = cc
ok_is (Some f) x y has = absurd (cc)

two_start : (bytes : List ℕ) (space : Space) → t2_container bytes ≡ Ok space → IsArea space → space.end ≤ 1024
two_start bytes space has area =
    let is : t2_space bytes ≡ space = ok_is (first_fault (t2_faults bytes)) (t2_space bytes) space has in
    let start : 16 ≡ space.start = ap (λ s. s.start) is in
    let small = area.small (sym (ap (λ s. s.control) is)) in
    omega (arith, start, small)

-- so the next READ has a number
pub next_number : (a b : LinkView) (known : List ℕ) (space : Space) (n : ℕ) → Looks a b known space n → IsArea space → length known < space.end → 4 * (n + 1) < 256
next_number a b known space n l area short = omega (arith, two_start (four_bytes known 12) space l.area area, l.whole, short)

-- it gives more
joined_more : (ps : List (List ℕ)) (p : List ℕ) → joined (ps ++ p ∷ []) ≡ joined ps ++ p
joined_more ps p = flat_map-append (λ x. x) ps (p ∷ []) ∙ ap (λ xs. joined ps ++ xs) (append-nil p)

four_more : (known p : List ℕ) (i : ℕ) → i + 3 < length known → four_bytes (known ++ p) i ≡ four_bytes known i
four_more known p i low =
    rw (get_or_append_left known p 0 i (omega arith), get_or_append_left known p 0 (i + 1) (omega arith), get_or_append_left known p 0 (i + 2) (omega arith), get_or_append_left known p 0 (i + 3) low)
    refl

pub looks_more : (a b c : LinkView) (known known' : List ℕ) (space : Space) (n : ℕ) → (l : Looks a b known space n) → Gains a c l.ps known known' → Looks a c known' space (n + 1)
looks_more a b c known known' space n l g = record {
  ps = l.ps ++ g.piece ∷ [];
  under = g.under;
  known' = g.grown ∙ ap (λ xs. xs ++ g.piece) l.known' ∙ sym (joined_more l.ps g.piece);
  count = length-append l.ps (g.piece ∷ []) ∙ ap (λ m. m + 1) l.count;
  whole = omega (arith, ap length g.grown, length-append known g.piece, l.whole, g.size);
  area = ap (λ xs. area_of T2 16 xs) g.grown ∙ ap (λ x. t2_container x) (four_more known g.piece 12 (omega (arith, l.whole))) ∙ l.area;
}
