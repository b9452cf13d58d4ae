-- How a reading of a Type 5 tag ends.
use Rattle.std.proofs.Common.{◌≡◌, ℕ, zero, suc, ◌+◌, ◌-◌, ◌*◌, ◌<◌, ◌≤◌, min, inl, inr, List, [], ◌∷◌, ◌++◌, length, take, drop, Bool, true, false, append_assoc, append-nil, refl, sym, ◌∙◌, ap}
use Rattle.std.proofs.Common.{subst, arith}
use Rattle.std.specs.Prelude.{Ok, Err}
use Rattle.std.proofs.lemmas.List.{length-append, take_all}
use Rattle.nfc_base.specs.TagLinks.{LinkView}
use Rattle.tlv_area.specs.declared.space.Space.{Space}
use Rattle.tlv_area.specs.declared.space.AreaMap.{AreaMap}
use Rattle.tlv_area.specs.declared.container.ContainerFault.{ContainerFault}
use Rattle.tlv_area.specs.declared.container.ContainerFault.TheVariants as container
use Rattle.tlv_area.specs.declared.container.T5Container.TheVariants.{Ready, More}
use Rattle.tlv_area.specs.declared.walk.Walk.{Walk}
use Rattle.tlv_area.specs.declared.walk.Walk.TheVariants as walk
use Rattle.tlv_area.specs.Layout.{bytes_at, IsArea}
use Rattle.tlv_area.specs.Form as form
use Rattle.tlv_area.specs.Containers.{t5_container, t5_front, t5_is_open}
use Rattle.tlv_area.specs.Stores.{cut, cut_by, t5_reach, t5_area_by, t5_area, IsFormBy, IsT5Form}
use Rattle.tlv_area.specs.Map.{IsWalk, IsSettled, TellsForm, IsPlacedIn, message_cells}
use Rattle.tlv_area.proofs.Cuts.{cuts_settle}
use Rattle.tlv_area.proofs.OneNext.{needs_more}
use Rattle.tlv_area.proofs.FrontContainers.{front_ready, front_fault, front_more, is_named, reach_area, IsNamed}
use Rattle.tag_reader.specs.declared.how.How.TheVariants.{T5}
use Rattle.tag_reader.specs.declared.known.Known.{Known}
use Rattle.tag_reader.specs.declared.fault.ReadFault.{ReadFault}
use Rattle.tag_reader.specs.declared.fault.ReadFault.TheVariants as fault
use Rattle.tag_reader.specs.Blocks.{NeedsBlocks, AreaGoesOn, known_at, progress_at}
use Rattle.tag_reader.specs.Kinds.{IsStoreForm, area_of, first}
use Rattle.tag_reader.specs.Asked.{Aim, ToRead, ToWrite, IsNextFor, IsDueFor, IsDue}
use Rattle.tag_reader.specs.Calls.{HasAskedFor, HasAskedAllFor}
use Rattle.tag_reader.specs.Reading.{IsReadFault, is_told}
use Rattle.tag_reader.specs.Heard.{Brings, IsBroughtBy, AreaSays, IsNone, IsFaultBy, joined, first_size}
use Rattle.tag_reader.specs.HeardSteps.{Under, Sees}
use Rattle.tag_reader.specs.Steps.{Asks, Reads, IsMapFound, IsCutFault, of_container}
use Rattle.tag_reader.specs.private.BlockSteps.{IsKnown, GainsBlocks, EndsBlocks, Names, IsReading, HasRunOut}
use Rattle.tag_reader.proofs.Bringing.{went_of}
use Rattle.tag_reader.proofs.Knowing.{store_goes_on}
use Rattle.tag_reader.proofs.Endings.{container_fault, container_told, bytes_front, cells_below, cut_is_told}
use Rattle.tag_reader.proofs.Looking.{container_none, known_short}
use Rattle.tag_reader.proofs.OneForm.{first_block}
use Rattle.tag_reader.proofs.BlockLists.{sizes}
use Rattle.tag_reader.proofs.BlockAsking.{joined_more, size_kept}

-- how long blocks are
pub data KnownSize (known : Known) : Type 0 where
  Unread : known.size ≡ 0 → known.bytes.items ≡ [] → KnownSize known
  Sized : 4 ≤ known.size → known.size ≤ 256 → KnownSize known

first_most : {id : List ℕ} (r : _) (p : List ℕ) → Brings (T5 id) [] r p → length p ≤ 256
first_most r p (inl is) = is.content.range.0
first_most r p (inr falls) = absurd falls.many

pub known_size : (id : List ℕ) (a b : LinkView) (ps : List (List ℕ)) (known : Known) → Under (T5 id) a b ps → IsKnown ps known → KnownSize known
known_size id a b ps known u is = by_pieces ps u.brought.pieces is
  where
    by_pieces : (qs : List (List ℕ)) → IsBroughtBy (T5 id) a.step a.state [] qs → IsKnown qs known → KnownSize known
    by_pieces [] brought k = Unread k.size k.bytes
    by_pieces (q ∷ qs) brought k = Sized (omega (arith, k.size, first_block q brought.2)) (omega (arith, k.size, first_most brought.0 q brought.2))

pub open_front : (bytes : List ℕ) → t5_is_open bytes ≡ true → t5_front bytes ≡ Ok More
open_front bytes is = rw is refl

-- the container and what it names
module _ (known : Known) (space : Space) (names : Names known space) where
  pub ready_here : t5_front known.bytes.items ≡ Ok (Ready names.area.space names.area.wide names.area.many)
  ready_here = ap (λ xs. t5_front xs) (sym (append-nil known.bytes.items)) ∙ names.front []

  pub named_here : IsNamed known.bytes.items names.area
  named_here = is_named known.bytes.items names.area (front_ready known.bytes.items names.area.space names.area.wide names.area.many ready_here)

  pub names_area : IsArea space
  names_area = subst IsArea (sym names.reach) (reach_area known.size known.bytes.items names.area (let least = names.least in omega (arith, least)) named_here)

  pub names_begins : space.start ≤ length known.bytes.items
  names_begins =
      (let start : names.area.space.start ≡ _ = ap (λ a. a.space.start) (sym named_here.is) in
      omega (arith, ap (λ s. s.start) names.reach, start, named_here.within))

  -- each memory that begins so has this area
  pub names_store : (more : List ℕ) → t5_area known.size (known.bytes.items ++ more) ≡ Ok space
  names_store more =
      ap (λ r. t5_area_by known.size r) (front_ready (known.bytes.items ++ more) names.area.space names.area.wide names.area.many (names.front more)) ∙ ap (λ s. Ok s) (sym names.reach)

  not_open : t5_is_open known.bytes.items ≡ false
  not_open = by_open (t5_is_open known.bytes.items) refl
    where
      by_open : (v : Bool) → t5_is_open known.bytes.items ≡ v → v ≡ false
      by_open false is = refl
      by_open true is = (let clash : Ok (Ready names.area.space names.area.wide names.area.many) ≡ Ok More = sym ready_here ∙ open_front known.bytes.items is in absurd (cc))

  pub closed_here : t5_is_open known.bytes.items ≡ false
  closed_here = not_open

  -- what is needed is what the walk needs
  pub needs_here : (size : ℕ) → known.size ≡ size → NeedsBlocks size known.bytes.items (t5_front known.bytes.items) → form.NeedsMore space known.bytes.items
  needs_here size same needs =
      let here : NeedsBlocks size known.bytes.items (Ok (Ready names.area.space names.area.wide names.area.many)) = subst (λ r. NeedsBlocks size known.bytes.items r) ready_here needs in
      subst (λ s. form.NeedsMore s known.bytes.items) (sym (names.reach ∙ ap (λ n. t5_reach n names.area) same)) here

  pub needs_there : (size : ℕ) → known.size ≡ size → form.NeedsMore space known.bytes.items → NeedsBlocks size known.bytes.items (t5_front known.bytes.items)
  needs_there size same more =
      subst (λ r. NeedsBlocks size known.bytes.items r) (sym ready_here) (subst (λ s. form.NeedsMore s known.bytes.items) (names.reach ∙ ap (λ n. t5_reach n names.area) same) more)

-- more is known
pub grown_by : (ps : List (List ℕ)) (piece : List ℕ) (known new : Known) → IsKnown ps known → IsKnown (ps ++ piece ∷ []) new → new.bytes.items ≡ known.bytes.items ++ piece
grown_by ps piece known new is grown = grown.bytes ∙ joined_more ps piece ∙ ap (λ xs. xs ++ piece) (sym is.bytes)

sized_some : (ps : List (List ℕ)) → 4 ≤ first_size ps → 0 < length ps
sized_some [] least = absurd (omega (arith, least))
sized_some (p ∷ ps) least = omega arith

pub some_known : (ps : List (List ℕ)) (known : Known) → IsKnown ps known → 4 ≤ known.size → 0 < length ps
some_known ps known is least = sized_some ps (omega (arith, is.size, least))

pub names_more : (id : List ℕ) (a b : LinkView) (ps : List (List ℕ)) (known new : Known) (space : Space) → IsKnown ps known → Names known space → GainsBlocks id a b ps new → Names new space
names_more id a b ps known new space is names gains =
    let some = some_known ps known is names.least in
    let size : new.size ≡ known.size = gains.known'.size ∙ size_kept ps gains.piece some ∙ sym is.size in
    let bytes : new.bytes.items ≡ known.bytes.items ++ gains.piece = gains.known'.bytes ∙ joined_more ps gains.piece ∙ ap (λ xs. xs ++ gains.piece) (sym is.bytes) in
    record {
      area = names.area;
      front = λ more. ap (λ xs. t5_front (xs ++ more)) bytes ∙ ap (λ xs. t5_front xs) (append_assoc known.bytes.items gains.piece more) ∙ names.front (gains.piece ++ more);
      reach = names.reach ∙ ap (λ n. t5_reach n names.area) (sym size);
      least = omega (arith, size, names.least);
      most = omega (arith, size, names.most);
    }

-- a container with a fault, whatever the tag does
pub faulty_blocks : (id : List ℕ) (a b : LinkView) (ps : List (List ℕ)) (known : Known) (f : ContainerFault) → Under (T5 id) a b ps → IsKnown ps known → 0 < length ps
    → t5_is_open known.bytes.items ≡ false →
    t5_front known.bytes.items ≡ Err f → IsFaultBy (T5 id) a b (of_container f)
faulty_blocks id a b ps known f u is some closed front = container_none (T5 id) a b f (inl (record {
  ps = ps;
  brought = u.brought;
  over = (went_of (T5 id) a b ps u some).over;
  says = record {
    some = some;
    whole = subst (λ xs. t5_is_open xs ≡ false) is.bytes closed;
    form = subst (λ xs. IsFormBy (t5_area (first_size ps) xs) xs (form.Faulty f)) is.bytes
        (subst (λ r. IsFormBy (t5_area_by (first_size ps) r) known.bytes.items (form.Faulty f)) (sym (front_fault known.bytes.items f front)) refl);
  };
}))

-- a tag that ends before its container does
pub short_blocks : (id : List ℕ) (a b : LinkView) (ps : List (List ℕ)) (known known' : Known) → IsKnown ps known → t5_is_open known.bytes.items ≡ true → EndsBlocks id a b ps known known' →
    IsFaultBy (T5 id) a b fault.BadSize
short_blocks id a b ps known known' is open' ends = inr (record {
  ps = ps;
  r = ends.r;
  stopped = ends.stopped;
  ends = ends.ends;
  form = subst (λ xs. IsFormBy (cut_by (t5_area (first_size ps) xs) (length xs)) xs (form.Faulty container.BadSize)) is.bytes
      (subst (λ r. IsFormBy (cut_by (t5_area_by (first_size ps) r) (length known.bytes.items)) known.bytes.items (form.Faulty container.BadSize))
      (sym (front_more known.bytes.items least (open_front known.bytes.items open'))) refl);
})
  where
    joined_least : (qs : List (List ℕ)) → 0 < length qs → IsBroughtBy (T5 id) a.step a.state [] qs → 4 ≤ length (joined qs)
    joined_least [] some brought = absurd (omega (arith, some))
    joined_least (q ∷ qs) some brought = omega (arith, first_block q brought.2, length-append q (joined qs))

    least : 4 ≤ length known.bytes.items
    least = (let long = joined_least ps ends.ends.0 ends.stopped.pieces in omega (arith, ap length is.bytes, long))

-- what was asked, where all of it was answered
pub has_asked : {aim : Aim} (id : List ℕ) (size n : ℕ) (a b : LinkView) → Asks aim (T5 id) size a b n → HasAskedFor aim (T5 id) size a.state.store a b
has_asked id size n a b asks = record { count = n; each = asks.each; answered = asks.answered; last = inl (asks.last, asks.goes_on.over ∙ sym asks.before) }

pub has_all : {aim : Aim} (id : List ℕ) (size n : ℕ) (a b : LinkView) → Asks aim (T5 id) size a b n → (IsDueFor aim (T5 id) size a.state.store n → ⊥)
    → HasAskedAllFor aim (T5 id) size a.state.store a b
has_all id size n a b asks no_more = record {
  commands = first (T5 id) size a.state.store n;
  all = record { count = n; list = refl; each = asks.each; no_more = no_more };
  answered = asks.answered;
  state = asks.after;
}

pub reads_told : {aim : Aim} (id : List ℕ) (size n : ℕ) (a b : LinkView) (known : List ℕ) (e : ReadFault) → Asks aim (T5 id) size a b n → (IsDueFor aim (T5 id) size a.state.store n → ⊥)
    → is_told e ≡ true →
    IsReadFault (T5 id) size a.state.store a b e → Reads aim (T5 id) size a b known (Err e)
reads_told id size n a b known e asks no_more told is = record {
  stays = asks.stays;
  asked = has_asked id size n a b asks;
  whole = λ _. has_all id size n a b asks no_more;
  goes_on = λ _. asks.goes_on;
  tells = is;
  calm = λ begun lit quiet. inl told;
}

pub reads_map : (id : List ℕ) (size n : ℕ) (a b : LinkView) (known : List ℕ) (m : AreaMap) → Asks ToRead (T5 id) size a b n → (IsDue (T5 id) size a.state.store n → ⊥) →
    IsMapFound (T5 id) size a.state.store known m → Reads ToRead (T5 id) size a b known (Ok m)
reads_map id size n a b known m asks no_more is = record {
  stays = asks.stays;
  asked = has_asked id size n a b asks;
  whole = has_all id size n a b asks no_more;
  goes_on = asks.goes_on;
  tells = is;
  calm = tt;
}

pub any_known : {aim : Aim} (id : List ℕ) (size : ℕ) (a b : LinkView) (known known' : List ℕ) (e : ReadFault) → Reads aim (T5 id) size a b known (Err e) → Reads aim (T5 id) size a b known' (Err e)
any_known id size a b known known' e r = record { stays = r.stays; asked = r.asked; whole = r.whole; goes_on = r.goes_on; tells = r.tells; calm = r.calm }

-- a container with a fault
pub reads_faulty : (aim : Aim) (id : List ℕ) (size n : ℕ) (a b : LinkView) (known : Known) (f : ContainerFault) → IsReading aim id size a b known (suc n)
    → ((more : List ℕ) → t5_front (known.bytes.items ++ more) ≡ Err f) →
    Reads aim (T5 id) size a b [] (Err (of_container f))
reads_faulty aim id size n a b known f r front =
    let store : List ℕ = a.state.store in
    let m : ℕ = size * (progress_at size store (suc n)).blocks in
    let whole : store ≡ known.bytes.items ++ drop m store = store_goes_on store known.bytes.items m r.bytes in
    let at_store : t5_container store ≡ Err f = front_fault store f (ap (λ xs. t5_front xs) whole ∙ front (drop m store)) in
    reads_told id size (suc n) a b [] (of_container f) r.reached none (container_told f)
    (container_fault (T5 id) size store a b f (subst (λ x. IsFormBy (cut_by (t5_area_by size x) (length store)) store (form.Faulty f)) (sym at_store) refl))
  where
    here : t5_front (known_at size a.state.store (progress_at size a.state.store (suc n))) ≡ Err f
    here = ap (λ xs. t5_front xs) (sym (append-nil known.bytes.items ∙ r.bytes)) ∙ front []

    next : (goal : Aim) → IsNextFor goal (T5 id) size a.state.store (suc n) → ⊥
    next ToRead due = subst (λ x. NeedsBlocks size (known_at size a.state.store (progress_at size a.state.store (suc n))) x) here due.needs
    next ToWrite due = subst (λ x. AreaGoesOn size (size * (progress_at size a.state.store (suc n)).blocks) x) here due.more

    none : IsDueFor aim (T5 id) size a.state.store (suc n) → ⊥
    none (inl e) = omega arith
    none (inr due) = next aim due

-- all of the store is known
pub all_known : {aim : Aim} (id : List ℕ) (size n : ℕ) (a b c : LinkView) (known known' : Known) → IsReading aim id size a b known n → HasRunOut aim id size a c known known' n
    → known.bytes.items ≡ a.state.store
all_known id size n a b c known known' r ends =
    r.bytes ∙ ap (λ m. take m a.state.store) (sym ends.end) ∙ take_all (length a.state.store) a.state.store (omega arith)

-- the tag ends before its container does
pub reads_short : {aim : Aim} (id : List ℕ) (size n : ℕ) (a b c : LinkView) (known known' : Known) → IsReading aim id size a b known n → t5_is_open known.bytes.items ≡ true
    → HasRunOut aim id size a c known known' n →
    Reads aim (T5 id) size a c [] (Err fault.BadSize)
reads_short id size n a b c known known' r open' ends =
    let store : List ℕ = a.state.store in
    let whole = all_known id size n a b c known known' r ends in
    let facts = sizes size store r.tag.store in
    let front : t5_front store ≡ Ok More = open_front store (subst (λ xs. t5_is_open xs ≡ true) whole open') in
    reads_told id size (suc n) a c [] fault.BadSize ends.asks ends.no_more refl
    (subst (λ x. IsFormBy (cut_by (t5_area_by size x) (length store)) store (form.Faulty container.BadSize)) (sym (front_more store (omega (arith, facts.one, facts.least)) front)) refl)

-- a walk that is settled over what is known
module _ (id : List ℕ) (size n : ℕ) (a b : LinkView) (known : Known) (space : Space) (front : List ℕ) (w : Walk)
    (r : IsReading ToRead id size a b known (suc n)) (names : Names known space) (e : front ≡ take space.end known.bytes.items)
    (settled : IsSettled w) (there : (more : List ℕ) → IsWalk space (front ++ more) w) where
  abbrev past : List ℕ
  past = drop (size * (progress_at size a.state.store (suc n)).blocks) a.state.store

  whole : a.state.store ≡ known.bytes.items ++ past
  whole = store_goes_on a.state.store known.bytes.items (size * (progress_at size a.state.store (suc n)).blocks) r.bytes

  read : known.bytes.items ≡ front ++ drop space.end known.bytes.items
  read = store_goes_on known.bytes.items front space.end e

  at_read : IsWalk space known.bytes.items w
  at_read = subst (λ xs. IsWalk space xs w) (sym read) (there (drop space.end known.bytes.items))

  store_is : a.state.store ≡ front ++ (drop space.end known.bytes.items ++ past)
  store_is = whole ∙ ap (λ xs. xs ++ past) read ∙ append_assoc front (drop space.end known.bytes.items) past

  pub at_store : IsWalk space a.state.store w
  at_store = subst (λ xs. IsWalk space xs w) (sym store_is) (there (drop space.end known.bytes.items ++ past))

  pub area_here : area_of (T5 id) size a.state.store ≡ Ok space
  area_here = ap (λ xs. t5_area size xs) whole ∙ ap (λ m. t5_area m (known.bytes.items ++ past)) (sym r.size') ∙ names_store known space names past

  pub none_due : IsDue (T5 id) size a.state.store (suc n) → ⊥
  none_due (inl zero') = omega arith
  none_due (inr due) =
      let needs : NeedsBlocks size known.bytes.items (t5_front known.bytes.items) = subst (λ xs. NeedsBlocks size xs (t5_front xs)) (sym r.bytes) due.needs in
      let more = needs_here known space names size r.size' needs in
      subst IsSettled (needs_more space known.bytes.items w (names_area known space names).order at_read more) settled

  begins : space.start ≤ length a.state.store
  begins = (let low = names_begins known space names in let long = ap length whole in omega (arith, low, long, length-append known.bytes.items past))

  pub cut_told : TellsForm (cut space (length a.state.store)) a.state.store w
  cut_told = cuts_settle space a.state.store w begins settled at_store

  pub form_here : (f : form.Form) → form.IsForm (cut space (length a.state.store)) a.state.store f → IsStoreForm (T5 id) size a.state.store f
  form_here f is = subst (λ x. IsFormBy (cut_by x (length a.state.store)) a.state.store f) (sym area_here) is

pub blocks_none : (id : List ℕ) (size n : ℕ) (a b : LinkView) (known : Known) (space : Space) (front : List ℕ) → IsReading ToRead id size a b known (suc n) → Names known space →
    front ≡ take space.end known.bytes.items → ((more : List ℕ) → IsWalk space (front ++ more) walk.NoMessageTlv) → Reads ToRead (T5 id) size a b known.bytes.items (Err fault.NoMessageTlv)
blocks_none id size n a b known space front r names e there =
    reads_told id size (suc n) a b known.bytes.items fault.NoMessageTlv r.reached (none_due id size n a b known space front walk.NoMessageTlv r names e tt there) refl
    (form_here id size n a b known space front walk.NoMessageTlv r names e tt there form.NoMessageTlv (cut_told id size n a b known space front walk.NoMessageTlv r names e tt there))

pub blocks_bad : (id : List ℕ) (size n : ℕ) (a b : LinkView) (known : Known) (space : Space) (front : List ℕ) → IsReading ToRead id size a b known (suc n) → Names known space →
    front ≡ take space.end known.bytes.items → ((more : List ℕ) → IsWalk space (front ++ more) walk.BadTlv) → Reads ToRead (T5 id) size a b known.bytes.items (Err fault.BadTlv)
blocks_bad id size n a b known space front r names e there =
    reads_told id size (suc n) a b known.bytes.items fault.BadTlv r.reached (none_due id size n a b known space front walk.BadTlv r names e tt there) refl
    (form_here id size n a b known space front walk.BadTlv r names e tt there form.BadTlv (cut_told id size n a b known space front walk.BadTlv r names e tt there))

pub blocks_held : (id : List ℕ) (size n : ℕ) (a b : LinkView) (known : Known) (space : Space) (front : List ℕ) (m : AreaMap) → IsReading ToRead id size a b known (suc n) → Names known space →
    front ≡ take space.end known.bytes.items → ((more : List ℕ) → IsWalk space (front ++ more) (walk.Held m)) → IsPlacedIn front m → Reads ToRead (T5 id) size a b known.bytes.items (Ok m)
blocks_held id size n a b known space front m r names e there places =
    let store : List ℕ = a.state.store in
    let cells : List ℕ = message_cells m in
    let walked = at_store id size n a b known space front (walk.Held m) r names e tt there in
    let form' = form_here id size n a b known space front (walk.Held m) r names e tt there (form.Message (bytes_at store cells))
    (cut_told id size n a b known space front (walk.Held m) r names e tt there) in
    let below = cells_below front m places in
    let past : List ℕ = drop (size * (progress_at size store (suc n)).blocks) store in
    let read : known.bytes.items ≡ front ++ drop space.end known.bytes.items = store_goes_on known.bytes.items front space.end e in
    let whole : store ≡ front ++ (drop space.end known.bytes.items ++ past) =
    store_goes_on store known.bytes.items (size * (progress_at size store (suc n)).blocks) r.bytes ∙ ap (λ xs. xs ++ past) read ∙ append_assoc front (drop space.end known.bytes.items) past in
    let bytes : bytes_at store cells ≡ bytes_at known.bytes.items cells =
    ap (λ xs. bytes_at xs cells) whole ∙ bytes_front front (drop space.end known.bytes.items ++ past) cells below
    ∙ sym (ap (λ xs. bytes_at xs cells) read ∙ bytes_front front (drop space.end known.bytes.items) cells below) in
    let longer : length known.bytes.items ≡ length front + length (drop space.end known.bytes.items) = ap length read ∙ length-append front (drop space.end known.bytes.items) in
    reads_map id size (suc n) a b known.bytes.items m r.reached (none_due id size n a b known space front (walk.Held m) r names e tt there) (record {
      area = area_here id size n a b known space front (walk.Held m) r names e tt there ∙ ap (λ s. Ok s) (sym walked.0);
      found = (refl, walked.1, walked.2, walked.3, walked.4);
      placed = record { placed = places.placed; below = λ i low. omega (arith, places.below i low, longer) };
      held = subst (λ bs. IsStoreForm (T5 id) size store (form.Message bs)) bytes form';
    })

-- the walk needs more: another command is due
pub blocks_due : (id : List ℕ) (size n : ℕ) (a b : LinkView) (known : Known) (space : Space) (front : List ℕ) → IsReading ToRead id size a b known (suc n) → Names known space →
    front ≡ take space.end known.bytes.items → length front < space.end → form.NeedsMore space front → IsDue (T5 id) size a.state.store (suc n)
blocks_due id size n a b known space front r names e short more =
    let less = known_short known.bytes.items front space.end e short in
    let same : front ≡ known.bytes.items = e ∙ take_all space.end known.bytes.items (omega (arith, less)) in
    let needs = needs_there known space names size r.size' (subst (λ xs. form.NeedsMore space xs) same more) in
    inr (record { within = r.within; needs = subst (λ xs. NeedsBlocks size xs (t5_front xs)) r.bytes needs })

-- so it is where the container is open
pub open_due : (aim : Aim) (id : List ℕ) (size n : ℕ) (a b : LinkView) (known : Known) → IsReading aim id size a b known n → t5_is_open known.bytes.items ≡ true
    → IsDueFor aim (T5 id) size a.state.store n
open_due ToRead id size n a b known r open' =
    let front : t5_front (known_at size a.state.store (progress_at size a.state.store n)) ≡ Ok More =
    open_front (known_at size a.state.store (progress_at size a.state.store n)) (subst (λ xs. t5_is_open xs ≡ true) r.bytes open') in
    inr (record { within = r.within; needs = subst (λ x. NeedsBlocks size (known_at size a.state.store (progress_at size a.state.store n)) x) (sym front) tt })
open_due ToWrite id size n a b known r open' =
    let front : t5_front (known_at size a.state.store (progress_at size a.state.store n)) ≡ Ok More =
    open_front (known_at size a.state.store (progress_at size a.state.store n)) (subst (λ xs. t5_is_open xs ≡ true) r.bytes open') in
    inr (record { within = r.within; more = subst (λ x. AreaGoesOn size (size * (progress_at size a.state.store n).blocks) x) (sym front) tt })

-- the tag ends before its area
pub blocks_cut : (id : List ℕ) (size n : ℕ) (a b c : LinkView) (known known' : Known) (space : Space) (e : ReadFault) → IsReading ToRead id size a b known (suc n) → Names known space →
    length known.bytes.items < space.end → HasRunOut ToRead id size a c known known' (suc n) → IsCutFault space known.bytes.items e → Reads ToRead (T5 id) size a c known'.bytes.items (Err e)
blocks_cut id size n a b c known known' space e r names short ends cut' =
    reads_told id size (suc (suc n)) a c known'.bytes.items e ends.asks ends.no_more (cut_is_told space known.bytes.items e cut') (by_fault cut')
  where
    all : known.bytes.items ≡ a.state.store
    all = all_known id size (suc n) a b c known known' r ends

    area : t5_area size a.state.store ≡ Ok space
    area = ap (λ xs. t5_area size xs) (sym (append-nil known.bytes.items ∙ all)) ∙ ap (λ m. t5_area m (known.bytes.items ++ [])) (sym r.size') ∙ names_store known space names []

    least : length a.state.store ≡ min space.end (length a.state.store)
    least = omega (arith, ap length all, short)

    told : (f : form.Form) → form.IsForm (record space { end = length known.bytes.items }) known.bytes.items f → IsStoreForm (T5 id) size a.state.store f
    told f is =
        subst (λ x. IsFormBy (cut_by x (length a.state.store)) a.state.store f) (sym area)
        (subst (λ m. form.IsForm (record space { end = m }) a.state.store f) least (subst (λ xs. form.IsForm (record space { end = length xs }) xs f) all is))

    by_fault : IsCutFault space known.bytes.items e → IsReadFault (T5 id) size a.state.store a c e
    by_fault (inl none) = subst (λ x. IsReadFault (T5 id) size a.state.store a c x) (sym none.0) (told form.NoMessageTlv none.1)
    by_fault (inr bad) = subst (λ x. IsReadFault (T5 id) size a.state.store a c x) (sym bad.0) (told form.BadTlv bad.1)

-- a container that is whole lies behind a first block
pub closed_sized : (known : Known) → KnownSize known → t5_is_open known.bytes.items ≡ false → (4 ≤ known.size) × (known.size ≤ 256)
closed_sized known (Sized least most) closed = (least, most)
closed_sized known (Unread none begun) closed = (let clash : true ≡ false = sym (ap (λ xs. t5_is_open xs) begun) ∙ closed in absurd (cc))

pub names_ready : (known : Known) (slice : List ℕ) (space result : Space) (wide many : Bool) → KnownSize known → t5_is_open known.bytes.items ≡ false → slice ≡ known.bytes.items →
    ((more : List ℕ) → t5_front (slice ++ more) ≡ Ok (Ready space wide many)) → result ≡ t5_reach known.size (record { space = space; wide = wide; many = many }) → Names known result
names_ready known slice space result wide many sized closed same front reach =
    let sizes' = closed_sized known sized closed in
    record {
      area = record { space = space; wide = wide; many = many };
      front = λ more. ap (λ xs. t5_front (xs ++ more)) (sym same) ∙ front more;
      reach = reach;
      least = sizes'.0;
      most = sizes'.1;
    }

pub later : {aim : Aim} (id : List ℕ) (size n : ℕ) (a b : LinkView) (known : Known) → IsReading aim id size a b known n → t5_is_open known.bytes.items ≡ false
    → (m : ℕ) × IsReading aim id size a b known (suc m)
later id size (suc n) a b known r closed = (n, r)
later id size zero a b known r closed =
    let none : size * 0 ≡ 0 = omega arith in
    let empty : known.bytes.items ≡ [] = r.bytes ∙ ap (λ m. take m a.state.store) none in
    let clash : true ≡ false = sym (ap (λ xs. t5_is_open xs) empty) ∙ closed in
    absurd (cc)

-- what the pieces say, whatever the tag does
module _ (id : List ℕ) (a b : LinkView) (ps : List (List ℕ)) (known : Known) (space : Space) (u : Under (T5 id) a b ps) (is : IsKnown ps known) (names : Names known space) where
  some_here : 0 < length ps
  some_here = some_known ps known is names.least

  area_by : t5_area (first_size ps) (joined ps) ≡ Ok space
  area_by =
      ap (λ m. t5_area m (joined ps)) (sym is.size) ∙ ap (λ xs. t5_area known.size xs) (sym (append-nil known.bytes.items ∙ is.bytes)) ∙ names_store known space names []

  says_here : (f : form.Form) → form.IsForm space known.bytes.items f → AreaSays (T5 id) ps f
  says_here f told = record {
    some = some_here;
    whole = subst (λ xs. t5_is_open xs ≡ false) is.bytes (closed_here known space names);
    form = subst (λ r. IsFormBy r (joined ps) f) (sym area_by) (subst (λ xs. form.IsForm space xs f) is.bytes told);
  }

  pub lacks_here : (f : form.Form) → form.IsForm space known.bytes.items f → IsNone (T5 id) a b f
  lacks_here f told = inl (record { ps = ps; brought = u.brought; over = (went_of (T5 id) a b ps u some_here).over; says = says_here f told })

  pub sees_here : (front : List ℕ) (m : AreaMap) → front ≡ take space.end known.bytes.items → ((more : List ℕ) → IsWalk space (front ++ more) (walk.Held m)) →
      ((more : List ℕ) → TellsForm space (front ++ more) (walk.Held m)) → IsPlacedIn front m → Sees (T5 id) a b known.bytes.items m
  sees_here front m e there settled places =
      let read : known.bytes.items ≡ front ++ drop space.end known.bytes.items = store_goes_on known.bytes.items front space.end e in
      let walked : IsWalk space known.bytes.items (walk.Held m) = subst (λ xs. IsWalk space xs (walk.Held m)) (sym read) (there (drop space.end known.bytes.items)) in
      let told : TellsForm space known.bytes.items (walk.Held m) = subst (λ xs. TellsForm space xs (walk.Held m)) (sym read) (settled (drop space.end known.bytes.items)) in
      let longer : length known.bytes.items ≡ length front + length (drop space.end known.bytes.items) = ap length read ∙ length-append front (drop space.end known.bytes.items) in
      record {
        ps = ps;
        brought = u.brought;
        over = (went_of (T5 id) a b ps u some_here).over;
        known' = is.bytes;
        some = some_here;
        area = ap (λ xs. t5_area (first_size ps) xs) is.bytes ∙ area_by ∙ ap (λ s. Ok s) (sym walked.0);
        whole = closed_here known space names;
        walk = (refl, walked.1, walked.2, walked.3, walked.4);
        placed = record { placed = places.placed; below = λ i low. omega (arith, places.below i low, longer) };
        held = subst (λ s. TellsForm s known.bytes.items (walk.Held m)) (sym walked.0) told;
      }

  pub read_form : (front : List ℕ) (w : Walk) → front ≡ take space.end known.bytes.items → ((more : List ℕ) → TellsForm space (front ++ more) w) → TellsForm space known.bytes.items w
  read_form front w e settled =
      subst (λ xs. TellsForm space xs w) (sym (store_goes_on known.bytes.items front space.end e)) (settled (drop space.end known.bytes.items))

-- the tag ends before its area
pub cut_here : (id : List ℕ) (a b c : LinkView) (ps : List (List ℕ)) (known known' : Known) (space : Space) (e : ReadFault) → Under (T5 id) a b ps → IsKnown ps known → Names known space →
    length known.bytes.items < space.end → EndsBlocks id a c ps known known' → IsCutFault space known.bytes.items e → IsFaultBy (T5 id) a c e
cut_here id a b c ps known known' space e u is names short ends cut' = by_fault cut'
  where
    least : length known.bytes.items ≡ min space.end (length known.bytes.items)
    least = omega (arith, short)

    told : (f : form.Form) → form.IsForm (record space { end = length known.bytes.items }) known.bytes.items f → IsNone (T5 id) a c f
    told f here = inr (record {
      ps = ps;
      r = ends.r;
      stopped = ends.stopped;
      ends = ends.ends;
      form = subst (λ xs. IsT5Form (first_size ps) xs f) is.bytes
          (subst (λ r. IsFormBy (cut_by r (length known.bytes.items)) known.bytes.items f)
          (sym (ap (λ xs. t5_area (first_size ps) xs) is.bytes ∙ area_by id a b ps known space u is names))
          (subst (λ m. form.IsForm (record space { end = m }) known.bytes.items f) least here));
    })

    by_fault : IsCutFault space known.bytes.items e → IsFaultBy (T5 id) a c e
    by_fault (inl none) = subst (λ x. IsFaultBy (T5 id) a c x) (sym none.0) (told form.NoMessageTlv none.1)
    by_fault (inr bad) = subst (λ x. IsFaultBy (T5 id) a c x) (sym bad.0) (told form.BadTlv bad.1)
