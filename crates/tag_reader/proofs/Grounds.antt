-- What a survey ends with.
use Rattle.std.proofs.Common.{◌≡◌, ℕ, suc, ◌+◌, ◌*◌, ◌/◌, ◌<◌, ◌≤◌, inl, inr, List, [], ◌++◌, append-nil, length, take, drop, refl, sym, ◌∙◌, ap, subst, arith}
use Rattle.std.specs.Prelude.{min, Result, Ok, Err}
use Rattle.std.proofs.lemmas.List.{length-take, length-take-le}
use Rattle.std.proofs.Math.Nat.{mul-le-mul_left, mul-div-le, lt_of_mul-lt-mul_left}
use Rattle.nfc_base.specs.TagLinks.{LinkView}
use Rattle.tlv_area.specs.declared.space.Space.{Space}
use Rattle.tlv_area.specs.declared.space.AreaMap.{AreaMap}
use Rattle.tlv_area.specs.declared.container.FileMap.{FileMap}
use Rattle.tlv_area.specs.declared.walk.Walk.TheVariants as walk
use Rattle.tlv_area.specs.Layout.{bytes_at}
use Rattle.tlv_area.specs.Form as form
use Rattle.tlv_area.specs.Map.{IsWalk, TellsForm, message_cells}
use Rattle.tlv_area.specs.Stores.{cut_by, t5_area, IsFormBy}
use Rattle.tlv_area.specs.Writing.{HasBlocks}
use Rattle.tag_reader.specs.declared.how.How.{How}
use Rattle.tag_reader.specs.declared.how.How.TheVariants.{T2, T4, T5}
use Rattle.tag_reader.specs.declared.fault.ReadFault.{ReadFault}
use Rattle.tag_reader.specs.declared.fault.ReadFault.TheVariants as fault
use Rattle.tag_reader.specs.declared.ground.Ground.{Ground}
use Rattle.tag_reader.specs.declared.ground.Ground.TheVariants.{Area, File}
use Rattle.tag_reader.specs.declared.known.Known.{Known}
use Rattle.tag_reader.specs.Kinds.{IsStoreForm, IsTag}
use Rattle.tag_reader.specs.Asked.{ToWrite, IsSurveyed}
use Rattle.tag_reader.specs.Calls.{Stays, HasSurveyed, HasSurveyedAll, GoesOn}
use Rattle.tag_reader.specs.Survey.{block_size, written_area, IsKnownArea, surveyed}
use Rattle.tag_reader.specs.private.FileSteps.{IsMeasured}
use Rattle.tag_reader.specs.private.SurveySteps.{IsSettledOver, GroundIn, IsAllRead, IsAllKnown, IsSurveyMade}
use Rattle.tag_reader.proofs.Areas.{t2_area}
use Rattle.tag_reader.proofs.Knowing.{walk_front, store_goes_on}
use Rattle.tag_reader.proofs.Endings.{knows_asked, knows_all, bytes_front, cells_below}
use Rattle.tag_reader.proofs.BlockEndings as blocks
use Rattle.tag_reader.proofs.FileReading as files

-- An area is known, and all was answered.
pub record Grounded (how : How) (size : ℕ) (a b : LinkView) (space : Space) (block : ℕ) (known : List ℕ) : Type 0 where
  pub stays : Stays a b
  pub asked : HasSurveyed how size a.state.store a b
  pub whole : HasSurveyedAll how size a.state.store a b
  pub goes_on : GoesOn a b
  pub state : b.state ≡ surveyed how a.state
  pub area : written_area how size a.state.store ≡ Ok space
  pub front : known ≡ take (length known) a.state.store
  pub size' : block ≡ block_size how size
  pub blocks : HasBlocks block space known
  pub ends : space.end ≤ length known
  pub form' : (f : form.Form) → form.IsForm space a.state.store f → IsStoreForm how size a.state.store f

module _ (how : How) (size : ℕ) (a b : LinkView) (space : Space) (block : ℕ) (known : List ℕ) (g : Grounded how size a b space block known) where
  abbrev past : List ℕ
  past = drop (length known) a.state.store

  whole : a.state.store ≡ known ++ past
  whole = store_goes_on a.state.store known (length known) g.front

  known_area : (m : AreaMap) → IsSettledOver space known (walk.Held m) → IsKnownArea how size a.state.store known block m
  known_area m is =
      let store : List ℕ = a.state.store in
      let seen : IsWalk space known (walk.Held m) = subst (λ xs. IsWalk space xs (walk.Held m)) (append-nil known) (is.front []) in
      let found : IsWalk space store (walk.Held m) = subst (λ xs. IsWalk space xs (walk.Held m)) (sym whole) (is.front past) in
      let told : TellsForm space store (walk.Held m) = subst (λ xs. TellsForm space xs (walk.Held m)) (sym whole) (is.form past) in
      let cells : List ℕ = message_cells m in
      let bytes : bytes_at store cells ≡ bytes_at known cells = ap (λ xs. bytes_at xs cells) whole ∙ bytes_front known past cells (cells_below known m is.places) in
      let same : m.space ≡ space = seen.0 in
      record {
        area = g.area ∙ ap (λ s. Ok s) (sym same);
        front = g.front;
        size' = g.size';
        blocks = subst (λ s. HasBlocks block s known) (sym same) g.blocks;
        whole = subst (λ s. s.end ≤ length known) (sym same) g.ends;
        seen = (refl, seen.1, seen.2, seen.3, seen.4);
        found = (refl, found.1, found.2, found.3, found.4);
        placed = is.places.placed;
        held = subst (λ bs. IsStoreForm how size store (form.Message bs)) bytes (g.form' (form.Message (bytes_at store cells)) told);
      }

  pub made : (result : Result Ground ReadFault) → GroundIn space block known result → IsSurveyMade how size a b result
  made (Ok (Area known' block' map')) is = record {
    stays = g.stays;
    asked = g.asked;
    whole = g.whole;
    goes_on = g.goes_on;
    ok = record {
      ground' = subst (λ xs. IsKnownArea how size a.state.store xs block' map') (sym is.0) (subst (λ n. IsKnownArea how size a.state.store known n map') (sym is.1) (known_area map' is.2));
      state = g.state;
    };
    err = tt;
    calm = λ calm. tt;
  }
  made (Ok (File map' length')) is = absurd is
  made (Err fault.NoMessageTlv) is = record {
    stays = g.stays;
    asked = g.asked;
    whole = λ told. g.whole;
    goes_on = λ told. g.goes_on;
    ok = tt;
    err = g.form' form.NoMessageTlv (subst (λ xs. TellsForm space xs walk.NoMessageTlv) (sym whole) (is.form past));
    calm = λ calm. inl refl;
  }
  made (Err fault.BadTlv) is = record {
    stays = g.stays;
    asked = g.asked;
    whole = λ told. g.whole;
    goes_on = λ told. g.goes_on;
    ok = tt;
    err = g.form' form.BadTlv (subst (λ xs. TellsForm space xs walk.BadTlv) (sym whole) (is.form past));
    calm = λ calm. inl refl;
  }
  made (Err fault.NotNdef) is = absurd is
  made (Err fault.Version) is = absurd is
  made (Err fault.NoRead) is = absurd is
  made (Err fault.Sectors) is = absurd is
  made (Err fault.BadSize) is = absurd is
  made (Err (fault.Refused code)) is = absurd is
  made (Err fault.FieldLost) is = absurd is
  made (Err fault.SixBad) is = absurd is
  made (Err fault.Memory) is = absurd is
  made (Err fault.Protocol) is = absurd is

-- each address before the end of whole blocks lies in one of them
pub whole_block : (size count a : ℕ) → a < size * count → size * (a / size) + size ≤ size * count
whole_block size count a low =
    let less : size * (a / size) ≤ a = mul-div-le a size in
    let block : a / size < count = lt_of_mul-lt-mul_left size (omega (arith, less, low)) in
    let next : size * suc (a / size) ≡ size * (a / size) + size = omega arith in
    let within : size * suc (a / size) ≤ size * count = mul-le-mul_left size block in
    omega (arith, next, within)

-- the area of a Type 2 tag is known
pub area_grounded : (size : ℕ) (a b : LinkView) (known known' : List ℕ) (space : Space) → IsTag T2 size a → IsAllRead size a b known space → known' ≡ take space.end known →
    Grounded T2 size a b space 4 known'
area_grounded size a b known known' space tag is cut' =
    let store : List ℕ = a.state.store in
    let k = is.walks.knows in
    let read : ℕ = size * (is.n + 1) in
    let fits = t2_area store space tag.store.1 is.walks.area in
    let most = ap length k.bytes ∙ length-take read (store ++ store) in
    let least : min space.end read ≡ space.end = omega (arith, is.whole, most) in
    let long : length known' ≡ space.end = ap length cut' ∙ length-take-le space.end known is.whole in
    let bytes : known' ≡ take space.end store = walk_front size a b known known' space is.n is.walks cut' ∙ ap (λ m. take m store) least in
    record {
      stays = k.stays;
      asked = knows_asked size a b known is.n k;
      whole = knows_all size a b known is.n k none;
      goes_on = k.goes_on;
      state = k.state;
      area = is.walks.area;
      front = bytes ∙ ap (λ m. take m store) (sym long);
      size' = refl;
      blocks = λ x low high. (let inside = whole_block 4 (space.end / 4) x (omega (arith, high, fits.fours)) in omega (arith, inside, long, fits.fours));
      ends = omega (arith, long);
      form' = λ f told. subst (λ r. IsFormBy r store f) (sym is.walks.area) told;
    }
  where
    none : IsSurveyed T2 size a.state.store (is.n + 1) → ⊥
    none (inl zero') = omega arith
    none (inr due) =
        let both : Ok due.space ≡ Ok space = sym due.area ∙ is.walks.area in
        let same : due.space ≡ space = cc in
        let most = ap length is.walks.knows.bytes ∙ length-take (size * (is.n + 1)) (a.state.store ++ a.state.store) in
        omega (arith, due.more, ap (λ s. s.end) same, is.whole, most)

-- the area of a Type 5 tag is known, as far as the tag goes
pub blocks_grounded : (id : List ℕ) (size block : ℕ) (a b : LinkView) (known : Known) (end : Space) → IsAllKnown id size a b known end → end.end ≤ length known.bytes.items → block ≡ known.size →
    Grounded (T5 id) size a b end block known.bytes.items
blocks_grounded id size block a b known end is whole same =
    let store : List ℕ = a.state.store in
    let long : length known.bytes.items ≡ size * is.count = ap length is.bytes ∙ length-take-le (size * is.count) store is.within in
    let area : cut_by (t5_area size store) (length store) ≡ Ok end = ap (λ r. cut_by r (length store)) is.area ∙ ap (λ s. Ok s) (sym is.end') in
    let sized : block ≡ size = same ∙ is.size' in
    record {
      stays = is.asks.stays;
      asked = blocks.has_asked id size is.n a b is.asks;
      whole = blocks.has_all id size is.n a b is.asks is.no_more;
      goes_on = is.asks.goes_on;
      state = is.state;
      area = area;
      front = is.bytes ∙ ap (λ m. take m store) (sym long);
      size' = sized;
      blocks = λ x low high. subst (λ m. m * (x / m) + m ≤ length known.bytes.items) (sym sized)
          (let inside = whole_block size is.count x (omega (arith, high, whole, long)) in omega (arith, inside, long));
      ends = whole;
      form' = λ f told. subst (λ r. IsFormBy r store f) (sym area) told;
    }

-- the length of a file's message is read
pub file_made : (size : ℕ) (a b : LinkView) (map' : FileMap) (n : ℕ) → IsMeasured ToWrite size a b map' n → IsSurveyMade T4 size a b (Ok (File map' n))
file_made size a b map' n is = record {
  stays = is.under.reached.stays;
  asked = files.has_asked size 5 a b is.under.reached;
  whole = files.has_all size 5 a b is.under.reached none;
  goes_on = is.under.reached.goes_on;
  ok = record { ground' = record { names = is.names; counts = is.length'; fits = is.fits }; state = is.under.state };
  err = tt;
  calm = λ calm. tt;
}
  where
    none : IsSurveyed T4 size a.state.store 5 → ⊥
    none (inl zero') = omega arith
    none (inr due) = omega (arith, due.1)
