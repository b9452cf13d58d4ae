-- How a reading ends.
use Rattle.std.proofs.Common.{◌≡◌, ℕ, suc, ◌+◌, ◌*◌, ◌<◌, ◌≤◌, inl, inr, ◌⊎◌, true, false, List, [], ◌∷◌, ◌++◌, length, take, drop, refl, sym, ◌∙◌, ap, subst, append-nil, arith}
use Rattle.std.specs.Prelude.{min, slice_index, Some, None, Ok, Err}
use Rattle.std.proofs.lemmas.List.{length-append, length-take-le, length-take, get_or_append_left}
use Rattle.nfc_base.specs.TagLinks.{LinkView, AskCause}
use Rattle.nfc_base.specs.declared.tag_link.AskFault.{AskFault}
use Rattle.nfc_base.specs.declared.tag_link.AskFault.TheVariants as ask
use Rattle.nfc_base.proofs.Leading.{cause_on}
use Rattle.tlv_area.specs.declared.space.Space.{Space}
use Rattle.tlv_area.specs.declared.space.AreaMap.{AreaMap}
use Rattle.tlv_area.specs.declared.container.ContainerFault.{ContainerFault}
use Rattle.tlv_area.specs.declared.container.ContainerFault.TheVariants as container
use Rattle.tlv_area.specs.declared.walk.Walk.{Walk}
use Rattle.tlv_area.specs.declared.walk.Walk.TheVariants as walk
use Rattle.tlv_area.specs.Layout.{bytes_at}
use Rattle.tlv_area.specs.Form as form
use Rattle.tlv_area.specs.Stores.{IsFormBy}
use Rattle.tlv_area.specs.Map.{IsWalk, IsSettled, TellsForm, IsPlacedIn, message_cells, message_place, map_cells}
use Rattle.tlv_area.proofs.Cuts.{settled_form}
use Rattle.tlv_area.proofs.OneNext.{needs_more}
use Rattle.tag_reader.specs.declared.how.How.{How}
use Rattle.tag_reader.specs.declared.how.How.TheVariants.{T2}
use Rattle.tag_reader.specs.declared.fault.ReadFault.{ReadFault}
use Rattle.tag_reader.specs.declared.fault.ReadFault.TheVariants as fault
use Rattle.tag_reader.specs.Kinds.{IsStoreForm, area_of, command, first}
use Rattle.tag_reader.specs.Asked.{Aim, ToRead, IsDueFor, IsDue, NeedsMore}
use Rattle.tag_reader.specs.Calls.{Stays, HasAskedFor, HasAskedAllFor, GoesOn, ByLink}
use Rattle.tag_reader.specs.Reading.{IsReadFault, is_told, IsToldOrMemory, IsCalm}
use Rattle.tag_reader.specs.Steps.{Fails, Asks, Knows, Walks, IsLinkFault, IsMapFound, Concludes, Reads, IsCutFault, of_link, of_container}
use Rattle.tag_reader.proofs.Areas.{next_area}
use Rattle.tag_reader.proofs.Knowing.{last_more, due_more_for, answered_more, stays_on, walk_front, store_goes_on, read_goes_on}

-- what a settled walk over a Type 2 tag's store tells of it
abbrev pub TellsStore : ℕ → List ℕ → Walk → Type 0
TellsStore size store (walk.Held m) = IsStoreForm T2 size store (form.Message (bytes_at store (message_cells m)))
TellsStore size store walk.NoMessageTlv = IsStoreForm T2 size store form.NoMessageTlv
TellsStore size store walk.BadTlv = IsStoreForm T2 size store form.BadTlv
TellsStore size store walk.More = ⊥

-- the form of an area is that of the store whose container names it
named_form : (size : ℕ) (store : List ℕ) (space : Space) (w : Walk) → area_of T2 size store ≡ Ok space → TellsForm space store w → TellsStore size store w
named_form size store space (walk.Held m) has is = subst (λ r. IsFormBy r store (form.Message (bytes_at store (message_cells m)))) (sym has) is
named_form size store space walk.NoMessageTlv has is = subst (λ r. IsFormBy r store form.NoMessageTlv) (sym has) is
named_form size store space walk.BadTlv has is = subst (λ r. IsFormBy r store form.BadTlv) (sym has) is
named_form size store space walk.More has is = is

-- a container's fault is the store's
container_form : (size : ℕ) (store : List ℕ) (f : ContainerFault) → area_of T2 size store ≡ Err f → IsStoreForm T2 size store (form.Faulty f)
container_form size store f has = subst (λ r. IsFormBy r store (form.Faulty f)) (sym has) refl

pub container_fault : (how : How) (size : ℕ) (store : List ℕ) (a b : LinkView) (f : ContainerFault) → IsStoreForm how size store (form.Faulty f) → IsReadFault how size store a b (of_container f)
container_fault how size store a b container.NotNdef is = is
container_fault how size store a b container.Version is = is
container_fault how size store a b container.NoRead is = is
container_fault how size store a b container.Sectors is = is
container_fault how size store a b container.BadSize is = is

pub container_told : (f : ContainerFault) → is_told (of_container f) ≡ true
container_told container.NotNdef = refl
container_told container.Version = refl
container_told container.NoRead = refl
container_told container.Sectors = refl
container_told container.BadSize = refl

-- what was asked, where all of it was answered
pub knows_asked : {aim : Aim} (size : ℕ) (a b : LinkView) (known : List ℕ) (n : ℕ) → Knows aim size a b known n → HasAskedFor aim T2 size a.state.store a b
knows_asked size a b known n k = record { count = n + 1; each = k.each; answered = k.answered; last = inl (k.last ∙ sym (last_more T2 size a.state.store a n), k.goes_on.over ∙ sym k.before) }

pub knows_all : {aim : Aim} (size : ℕ) (a b : LinkView) (known : List ℕ) (n : ℕ) → Knows aim size a b known n → (IsDueFor aim T2 size a.state.store (n + 1) → ⊥) →
    HasAskedAllFor aim T2 size a.state.store a b
knows_all size a b known n k ends = record {
  commands = first T2 size a.state.store (n + 1);
  all = record { count = n + 1; list = refl; each = k.each; no_more = ends };
  answered = k.answered;
  state = k.after;
}

-- the container has a fault
pub ends_container : (aim : Aim) (size : ℕ) (a b : LinkView) (known : List ℕ) (f : ContainerFault) → Knows aim size a b known 0 → area_of T2 size a.state.store ≡ Err f →
    Reads aim T2 size a b known (Err (of_container f))
ends_container aim size a b known f k has = record {
  stays = k.stays;
  asked = knows_asked size a b known 0 k;
  whole = λ told. knows_all size a b known 0 k none;
  goes_on = λ told. k.goes_on;
  tells = container_fault T2 size a.state.store a b f (container_form size a.state.store f has);
  calm = λ begun lit quiet. inl (container_told f);
}
  where
    none : IsDueFor aim T2 size a.state.store 1 → ⊥
    none (inl e) = omega arith
    none (inr next) = (let area = next_area aim size a.state.store 1 next in let clash : Ok area.0 ≡ Err f = sym area.1 ∙ has in cc)

module _ (size : ℕ) (a b : LinkView) (known front : List ℕ) (space : Space) (n : ℕ) (w : Walk)
    (walks : Walks ToRead size a b known space n) (e : front ≡ take space.end known)
    (settled : IsSettled w) (there : (more : List ℕ) → IsWalk space (front ++ more) w) where
  at_store : IsWalk space a.state.store w
  at_store = subst (λ xs. IsWalk space xs w) (sym (store_goes_on a.state.store front (min space.end (size * (n + 1))) (walk_front size a b known front space n walks e)))
      (there (drop (min space.end (size * (n + 1))) a.state.store))

  at_read : IsWalk space (take (size * (n + 1)) a.state.store) w
  at_read = subst (λ xs. IsWalk space xs w) (sym (read_goes_on a.state.store front space.end (size * (n + 1)) (walk_front size a b known front space n walks e)))
      (there (drop (min space.end (size * (n + 1))) (take (size * (n + 1)) a.state.store)))

  no_more : IsDue T2 size a.state.store (n + 1) → ⊥
  no_more (inl zero') = omega arith
  no_more (inr m) =
      let same : m.space ≡ space = let both : Ok m.space ≡ Ok space = sym m.area ∙ walks.area in cc in
      let more = subst (λ s. form.NeedsMore s (take (size * (n + 1)) a.state.store)) same m.more in
      subst IsSettled (needs_more space (take (size * (n + 1)) a.state.store) w walks.order at_read more) settled

  pub settles : TellsStore size a.state.store w
  settles = named_form size a.state.store space w walks.area (settled_form space a.state.store w settled at_store)

  pub settled_walk : IsWalk space a.state.store w
  settled_walk = at_store

  pub settled_all : HasAskedAllFor ToRead T2 size a.state.store a b
  settled_all = knows_all size a b known n walks.knows no_more

-- bytes that lie in a front
pub bytes_front : (front more cells : List ℕ) → ((i : ℕ) → i < length cells → slice_index cells i < length front) → bytes_at (front ++ more) cells ≡ bytes_at front cells
bytes_front front more [] below = refl
bytes_front front more (c ∷ cells) below =
    let here : slice_index (front ++ more) c ≡ slice_index front c = get_or_append_left front more 0 c (below 0 (omega arith)) in
    let rest = bytes_front front more cells (λ i low. below (suc i) (omega arith)) in
    ap (λ b. b ∷ bytes_at (front ++ more) cells) here ∙ ap (λ bs. slice_index front c ∷ bs) rest

pub cells_below : (front : List ℕ) (m : AreaMap) → IsPlacedIn front m → (i : ℕ) → i < length (message_cells m) → slice_index (message_cells m) i < length front
cells_below front m places i low = places.below i (omega (arith, length-take m.length (drop (message_place m) (map_cells m))))

-- a message is found
pub map_found : (size : ℕ) (a b : LinkView) (known front : List ℕ) (space : Space) (n : ℕ) (m : AreaMap) →
    Walks ToRead size a b known space n → front ≡ take space.end known → ((more : List ℕ) → IsWalk space (front ++ more) (walk.Held m)) → IsPlacedIn front m →
    IsMapFound T2 size a.state.store known m
map_found size a b known front space n m walks e there places =
    let store : List ℕ = a.state.store in
    let cells : List ℕ = message_cells m in
    let walked = settled_walk size a b known front space n (walk.Held m) walks e tt there in
    let form' = settles size a b known front space n (walk.Held m) walks e tt there in
    let below = cells_below front m places in
    let whole : store ≡ front ++ drop (min space.end (size * (n + 1))) store =
    store_goes_on store front (min space.end (size * (n + 1))) (walk_front size a b known front space n walks e) in
    let read : known ≡ front ++ drop space.end known = store_goes_on known front space.end e in
    let bytes : bytes_at store cells ≡ bytes_at known cells =
    ap (λ xs. bytes_at xs cells) whole ∙ bytes_front front (drop (min space.end (size * (n + 1))) store) cells below
    ∙ sym (ap (λ xs. bytes_at xs cells) read ∙ bytes_front front (drop space.end known) cells below) in
    let longer : length known ≡ length front + length (drop space.end known) = ap length read ∙ length-append front (drop space.end known) in
    record {
      area = walks.area ∙ ap (λ s. Ok s) (sym walked.0);
      found = (refl, walked.1, walked.2, walked.3, walked.4);
      placed = record { placed = places.placed; below = λ i low. omega (arith, places.below i low, longer) };
      held = subst (λ bs. IsStoreForm T2 size store (form.Message bs)) bytes form';
    }

-- a fault of the link
fault_on : (a b c : LinkView) (e : ReadFault) → Stays a b → b.over ≡ None → b.dark ≡ false → IsLinkFault b c e → IsLinkFault a c e
fault_on a b c e stays over lit (inl memory) = inl memory
fault_on a b c e stays over lit (inr by) = inr (by.0, by.1, (by.2.0, by_link by.2.1))
  where
    by_link : (b.over ≡ Some by.0) ⊎ AskCause b c by.0 → (a.over ≡ Some by.0) ⊎ AskCause a c by.0
    by_link (inl was) = (let clash : None ≡ Some by.0 = sym over ∙ was in absurd (cc))
    by_link (inr cause) = inr (cause_on a b c by.0 stays.rises lit cause)

link_fault : (how : How) (size : ℕ) (store : List ℕ) (a b : LinkView) (e : ReadFault) → IsLinkFault a b e → IsReadFault how size store a b e
link_fault how size store a b e (inl memory) = subst (λ x. IsReadFault how size store a b x) (sym memory.0) (inl memory.1)
link_fault how size store a b e (inr by) = subst (λ x. IsReadFault how size store a b x) (sym by.1) (go by.0 by.2)
  where
    go : (f : AskFault) → ByLink a b f → IsReadFault how size store a b (of_link f)
    go ask.FieldLost is = is
    go ask.SixBad is = is
    go ask.Memory is = inr is
    go ask.Protocol is = is

link_untold : (a b : LinkView) (e : ReadFault) → IsLinkFault a b e → is_told e ≡ false
link_untold a b e (inl memory) = ap is_told memory.0
link_untold a b e (inr by) = ap is_told by.1 ∙ go by.0
  where
    go : (f : AskFault) → is_told (of_link f) ≡ false
    go ask.FieldLost = refl
    go ask.SixBad = refl
    go ask.Memory = refl
    go ask.Protocol = refl

untold : (e : ReadFault) (P : Type 0) → is_told e ≡ false → is_told e ≡ true → P
untold e P not_told is = (let clash : false ≡ true = sym not_told ∙ is in absurd (cc))

-- the first READ isn't answered, or its answer finds no memory
pub ends_first : (aim : Aim) (how : How) (size : ℕ) (a b : LinkView) (known : List ℕ) (e : ReadFault) → Fails (command how size a.state.store 0) a b e → Reads aim how size a b known (Err e)
ends_first aim how size a b known e f = record {
  stays = f.stays;
  asked = elim f.asked [
    | inl none ↦ record {
      count = 0;
      each = λ k low. absurd (omega arith);
      answered = none.0 ∙ sym (append-nil a.answered);
      last = elim none.1 [ inl same ↦ inl same | inr next ↦ inr (next, inl refl) ];
    }
    | inr one ↦ record { count = 1; each = λ k low. inl (omega arith); answered = one.0; last = inl (one.1, one.2) }
  ];
  whole = untold e (HasAskedAllFor aim how size a.state.store a b) (link_untold a b e f.fault');
  goes_on = untold e (GoesOn a b) (link_untold a b e f.fault');
  tells = link_fault how size a.state.store a b e f.fault';
  calm = λ begun lit quiet. inr (f.calm begun lit quiet);
}

-- READs that are answered are commands that are
knows_asks : {aim : Aim} (size : ℕ) (a b : LinkView) (known : List ℕ) (n : ℕ) → Knows aim size a b known n → Asks aim T2 size a b (n + 1)
knows_asks size a b known n k = record {
  stays = k.stays;
  before = k.before;
  goes_on = k.goes_on;
  each = k.each;
  answered = k.answered;
  last = k.last ∙ sym (last_more T2 size a.state.store a n);
  after = k.after;
}

-- a later one
pub ends_asks : (aim : Aim) (how : How) (size : ℕ) (a b c : LinkView) (known : List ℕ) (n : ℕ) (e : ReadFault) → Asks aim how size a b n →
    IsDueFor aim how size a.state.store n → Fails (command how size a.state.store n) b c e → Reads aim how size a c known (Err e)
ends_asks aim how size a b c known n e k due f =
    let fault' = fault_on a b c e k.stays k.goes_on.over k.goes_on.lit f.fault' in
    let open' : b.over ≡ a.over = k.goes_on.over ∙ sym k.before in
    record {
      stays = stays_on a b c k.stays f.stays;
      asked = elim f.asked [
        | inl none ↦ record {
          count = n;
          each = k.each;
          answered = none.0 ∙ k.answered;
          last = elim none.1 [ inl same ↦ inl (same.0 ∙ k.last, same.1 ∙ open') | inr next ↦ inr (next, due) ];
        }
        | inr one ↦ record {
          count = n + 1;
          each = due_more_for aim how size a.state.store n k.each due;
          answered = answered_more how size a.state.store a.answered b.answered c.answered n k.answered one.0;
          last = inl (one.1 ∙ sym (last_more how size a.state.store a n), one.2 ∙ open');
        }
      ];
      whole = untold e (HasAskedAllFor aim how size a.state.store a c) (link_untold a c e fault');
      goes_on = untold e (GoesOn a c) (link_untold a c e fault');
      tells = link_fault how size a.state.store a c e fault';
      calm = λ begun lit quiet. inr (f.calm k.goes_on.over k.goes_on.lit (omega (arith, quiet, k.stays.rises.noise, f.stays.rises.noise)));
    }

pub ends_later : (aim : Aim) (size : ℕ) (a b c : LinkView) (known known' : List ℕ) (n : ℕ) (e : ReadFault) → Knows aim size a b known n →
    IsDueFor aim T2 size a.state.store (n + 1) → Fails (command T2 size b.state.store (n + 1)) b c e → Reads aim T2 size a c known' (Err e)
ends_later aim size a b c known known' n e k due f =
    ends_asks aim T2 size a b c known' (n + 1) e (knows_asks size a b known n k) due (subst (λ s. Fails (command T2 size s (n + 1)) b c e) k.stays.store f)

-- the walk over what is known needs more
pub due_next : (size : ℕ) (a b : LinkView) (known front : List ℕ) (space : Space) (n : ℕ) → Walks ToRead size a b known space n → front ≡ take space.end known →
    length front < space.end → form.NeedsMore space front → NeedsMore size a.state.store (n + 1)
due_next size a b known front space n walks e short more =
    let store : List ℕ = a.state.store in
    let m : ℕ = size * (n + 1) in
    let same : front ≡ take (min space.end m) store = walk_front size a b known front space n walks e in
    let within : min space.end m ≤ length store = omega (arith, walks.within) in
    let size' : length front ≡ min space.end m = ap length same ∙ length-take-le (min space.end m) store within in
    let least : min space.end m ≡ m = omega arith in
    record {
      space = space;
      area = walks.area;
      within = omega arith;
      more = subst (λ xs. form.NeedsMore space xs) (same ∙ ap (λ p. take p store) least) more;
    }

pub cut_is_told : (space : Space) (known : List ℕ) (e : ReadFault) → IsCutFault space known e → is_told e ≡ true
cut_is_told space known e (inl none) = ap is_told none.0
cut_is_told space known e (inr bad) = ap is_told bad.0

-- where no count rose, the link didn't end by one
pub counts_calm : (how : How) (size : ℕ) (store : List ℕ) (a b : LinkView) (e : ReadFault) → a.over ≡ None → a.dark ≡ false → b.counts ≡ a.counts → IsReadFault how size store a b e →
    IsToldOrMemory e
counts_calm how size store a b fault.NotNdef begun lit same is = inl refl
counts_calm how size store a b fault.Version begun lit same is = inl refl
counts_calm how size store a b fault.NoRead begun lit same is = inl refl
counts_calm how size store a b fault.Sectors begun lit same is = inl refl
counts_calm how size store a b fault.BadSize begun lit same is = inl refl
counts_calm how size store a b fault.NoMessageTlv begun lit same is = inl refl
counts_calm how size store a b fault.BadTlv begun lit same is = inl refl
counts_calm how size store a b (fault.Refused code) begun lit same is = inl refl
counts_calm how size store a b fault.Memory begun lit same is = inr refl
counts_calm how size store a b fault.FieldLost begun lit same is = absurd (by_link is.1)
  where
    by_link : (a.over ≡ Some ask.FieldLost) ⊎ AskCause a b ask.FieldLost → ⊥
    by_link (inl was) = (let clash : None ≡ Some ask.FieldLost = sym begun ∙ was in cc)
    by_link (inr (inl rose)) = omega (arith, ap (λ n. n.breaks) same)
    by_link (inr (inr dark)) = (let clash : false ≡ true = sym lit ∙ dark in cc)
counts_calm how size store a b fault.SixBad begun lit same is = absurd (by_link is.1)
  where
    by_link : (a.over ≡ Some ask.SixBad) ⊎ AskCause a b ask.SixBad → ⊥
    by_link (inl was) = (let clash : None ≡ Some ask.SixBad = sym begun ∙ was in cc)
    by_link (inr rose) = omega (arith, ap (λ n. n.six_bad) same)
counts_calm how size store a b fault.Protocol begun lit same is = absurd (by_link is.1)
  where
    by_link : (a.over ≡ Some ask.Protocol) ⊎ AskCause a b ask.Protocol → ⊥
    by_link (inl was) = (let clash : None ≡ Some ask.Protocol = sym begun ∙ was in cc)
    by_link (inr rose) = omega (arith, ap (λ n. n.odd) same)

-- a reading that ends by a fault on a calm link
pub calm_end : {aim : Aim} (how : How) (size : ℕ) (a b : LinkView) (known : List ℕ) (e : ReadFault) → Reads aim how size a b known (Err e) → IsCalm a b → IsToldOrMemory e
calm_end how size a b known e reads is = elim is.calm [
  | inl quiet ↦ reads.calm is.begun is.lit quiet
  | inr same ↦ counts_calm how size a.state.store a b e is.begun is.lit same reads.tells
]

-- a reading or a survey that a fault ended
pub read_ended : {A : Type 0} {aim : Aim} {gives : A → Type 0} (how : How) (size : ℕ) (a b : LinkView) (known : List ℕ) (e : ReadFault) → Reads aim how size a b known (Err e) →
    Concludes aim gives how size a b (Err e)
read_ended how size a b known e r = record {
  stays = r.stays;
  asked = r.asked;
  whole = r.whole;
  goes_on = r.goes_on;
  ok = tt;
  err = r.tells;
  calm = λ is. calm_end how size a b known e r is;
}
