-- What a survey hears, whatever the tag does.
use Rattle.std.proofs.Common.{◌≡◌, ℕ, suc, ◌+◌, ◌-◌, ◌*◌, ◌/◌, ◌<◌, ◌≤◌, inl, inr, List, [], ◌∷◌, ◌++◌, length, drop, Bool, true, false, append-nil, refl, sym, ◌∙◌, ap, subst, arith}
use Rattle.std.specs.Prelude.{min, Option, Some, None, Result, Ok, Err}
use Rattle.std.proofs.lemmas.List.{length-append, length-take}
use Rattle.std.proofs.Math.Nat.{mul-le-mul_right, mul-add}
use Rattle.nfc_base.specs.Signal.{Signal}
use Rattle.nfc_base.specs.TagLinks.{LinkView, TagState, TagStep}
use Rattle.tlv_area.specs.declared.space.Space.{Space}
use Rattle.tlv_area.specs.declared.space.AreaMap.{AreaMap}
use Rattle.tlv_area.specs.declared.container.ContainerFault.{ContainerFault}
use Rattle.tlv_area.specs.declared.container.FileMap.{FileMap}
use Rattle.tlv_area.specs.declared.walk.Walk.{Walk}
use Rattle.tlv_area.specs.declared.walk.Walk.TheVariants as walk
use Rattle.tlv_area.specs.Layout.{IsArea}
use Rattle.tlv_area.specs.Form as form
use Rattle.tlv_area.specs.Containers.{T5Area, first_fault, unless, t2_faults, t2_space, t2_container, t5_container}
use Rattle.tlv_area.specs.Stores.{cut, cut_by, four_bytes, named_blocks, t5_reach, t5_area_by, t5_area, IsFormBy}
use Rattle.tlv_area.specs.Map.{IsWalk, TellsForm}
use Rattle.tlv_area.specs.Writing.{HasBlocks}
use Rattle.tag_reader.specs.declared.how.How.{How}
use Rattle.tag_reader.specs.declared.how.How.TheVariants.{T2, T4, T5}
use Rattle.tag_reader.specs.declared.fault.ReadFault.{ReadFault}
use Rattle.tag_reader.specs.declared.fault.ReadFault.TheVariants as fault
use Rattle.tag_reader.specs.declared.ground.Ground.{Ground}
use Rattle.tag_reader.specs.declared.ground.Ground.TheVariants.{Area, File}
use Rattle.tag_reader.specs.declared.known.Known.{Known}
use Rattle.tag_reader.specs.Blocks.{ask_count}
use Rattle.tag_reader.specs.Kinds.{area_of}
use Rattle.tag_reader.specs.Survey.{block_size}
use Rattle.tag_reader.specs.Heard.{IsBlocks, Brings, HasContainer, IsBroughtBy, IsFaultBy, IsNone, joined, first_size, ask_behind, next_command}
use Rattle.tag_reader.specs.HeardSteps.{Under, Looks, Measured}
use Rattle.tag_reader.specs.private.BlockSteps.{IsKnown, EndsBlocks, Names, LooksBlocks}
use Rattle.tag_reader.specs.SurveyHeard.{surveyed_by, IsHeard, IsLeftBy, area_heard, known_heard, IsAreaHeard, IsSurveyedBy, IsUnsurveyedBy, IsGroundToldBy}
use Rattle.tag_reader.specs.private.SurveySteps.{HearsAll, IsSettledOver, GroundIn}
use Rattle.tag_reader.proofs.Knowing.{store_goes_on}
use Rattle.tag_reader.proofs.Bringing.{went_of}
use Rattle.tag_reader.proofs.Exact.{none_over}
use Rattle.tag_reader.proofs.OneForm.{first_block}
use Rattle.tag_reader.proofs.BlockEndings.{closed_here, names_store, some_known}
use Rattle.tag_reader.proofs.Grounds.{whole_block}

-- the link as the pieces left it
pub left_under : (how : How) (a b : LinkView) (ps : List (List ℕ)) → Under how a b ps → IsLeftBy a b (surveyed_by how ps false)
left_under how a b ps u = record { kind = u.kind; identifier = u.identifier; step = u.step; state = u.state }

pieces_of : (how : How) (a b : LinkView) (ps : List (List ℕ)) (ended : Bool) → IsHeard how a b ps ended → IsBroughtBy how a.step a.state [] ps
pieces_of how a b ps false h = h.0.pieces
pieces_of how a b ps true h = h.1.pieces

-- READs brought all of an area
pub looks_all : (a b : LinkView) (known : List ℕ) (space : Space) (n : ℕ) → Looks a b known space n → (size : ℕ) × HearsAll T2 a b size known space
looks_all a b known space n l =
    let some : 0 < length l.ps = omega (arith, l.count) in (
      first_size l.ps,
      record {
        ps = l.ps;
        ended = false;
        heard = (l.under.brought, (went_of T2 a b l.ps l.under some).over);
        left = left_under T2 a b l.ps l.under;
        some = some;
        first = refl;
        known' = l.known';
        container = tt;
        area = ap (λ xs. area_of T2 (first_size l.ps) xs) (sym l.known') ∙ l.area;
      },
    )

-- blocks have all of an area
pub area_named : (known : Known) (space : Space) → Names known space → (ps : List (List ℕ)) → IsKnown ps known → t5_area (first_size ps) (joined ps) ≡ Ok space
area_named known space names ps is =
    ap (λ n. t5_area n (joined ps)) (sym is.size) ∙ ap (λ xs. t5_area known.size xs) (sym is.bytes ∙ sym (append-nil known.bytes.items)) ∙ names_store known space names []

pub blocks_all : (id : List ℕ) (a b : LinkView) (known : Known) (space : Space) → LooksBlocks id a b known → Names known space → HearsAll (T5 id) a b known.size known.bytes.items space
blocks_all id a b known space l names =
    let some : 0 < length l.ps = some_known l.ps known l.known' names.least in
    record {
      ps = l.ps;
      ended = false;
      heard = (l.under.brought, (went_of (T5 id) a b l.ps l.under some).over);
      left = left_under (T5 id) a b l.ps l.under;
      some = some;
      first = l.known'.size;
      known' = l.known'.bytes;
      container = closed_here known space names;
      area = area_named known space names l.ps l.known';
    }

-- or all of the tag
pub blocks_ended : (id : List ℕ) (a b c : LinkView) (known known' : Known) (space : Space) (end : ℕ) → (l : LooksBlocks id a b known) → Names known space → EndsBlocks id a c l.ps known known' →
    length known.bytes.items < space.end → end ≡ length known'.bytes.items → HearsAll (T5 id) a c known'.size known'.bytes.items (record space { end = end })
blocks_ended id a b c known known' space end l names ends short same =
    let bytes : known'.bytes.items ≡ known.bytes.items = ap (λ k. k.bytes.items) ends.same in
    let some : 0 < length l.ps = some_known l.ps known l.known' names.least in
    let area : t5_area (first_size l.ps) (joined l.ps) ≡ Ok space = area_named known space names l.ps l.known' in
    let long : length (joined l.ps) ≡ length known.bytes.items = ap length (sym l.known'.bytes) in
    let least : min space.end (length (joined l.ps)) ≡ end = omega (arith, long, short, same, ap length bytes) in
    record {
      ps = l.ps;
      ended = true;
      heard = (ends.r, ends.stopped, ends.ends);
      left = ends.left;
      some = some;
      first = ap (λ k. k.size) ends.same ∙ l.known'.size;
      known' = bytes ∙ l.known'.bytes;
      container = subst (λ xs. HasContainer (T5 id) xs) (sym bytes) (closed_here known space names);
      area = ap (λ r. cut_by r (length (joined l.ps))) area ∙ ap (λ e. Ok (record space { end = e })) least;
    }

-- the area of a Type 2 tag is of whole blocks
is_space : (o : Option ContainerFault) (x y : Space) → unless o x ≡ Ok y → x ≡ y
is_space None x y has = cc
is_space (Some f) x y has = absurd (cc)

t2_is : (bytes : List ℕ) (space : Space) → t2_container bytes ≡ Ok space → t2_space bytes ≡ space
t2_is bytes space has = is_space (first_fault (t2_faults bytes)) (t2_space bytes) space has

pub record FourBlocks (space : Space) : Type 0 where
  pub count : ℕ
  pub fours : space.end ≡ 4 * count
  pub low : space.end ≤ 1024

pub four_blocks : (a b : LinkView) (size : ℕ) (known : List ℕ) (space : Space) → IsArea space → HearsAll T2 a b size known space → FourBlocks space
four_blocks a b size known space area h = by_end h.ended h.heard h.area
  where
    named : (bytes : List ℕ) → t2_container bytes ≡ Ok space → FourBlocks space
    named bytes has =
        let is : t2_space bytes ≡ space = t2_is bytes space has in
        let start : 16 ≡ space.start = ap (λ s. s.start) is in
        let small = area.small (sym (ap (λ s. s.control) is)) in
        let end = ap (λ s. s.end) is in
        record { count = space.end / 4; fours = omega (arith, end); low = omega (arith, start, small) }

    by_end : (ended : Bool) → IsHeard T2 a b h.ps ended → area_heard T2 h.ps ended ≡ Ok space → FourBlocks space
    by_end false heard has = named (four_bytes (joined h.ps) 12) has
    by_end true heard has = absurd heard.2

pub t2_blocks : (space : Space) (known : List ℕ) → FourBlocks space → space.end ≤ length known → HasBlocks 4 space known
t2_blocks space known f whole a low high = let inside = whole_block 4 f.count a (omega (arith, high, f.fours)) in omega (arith, inside, whole, f.fours)

-- pieces of blocks are whole blocks
pub record Multiple (size n : ℕ) : Type 0 where
  pub count : ℕ
  pub is : n ≡ size * count

sum_multiple : (size m n : ℕ) → Multiple size m → Multiple size n → Multiple size (m + n)
sum_multiple size m n x y = record { count = x.count + y.count; is = omega (arith, x.is, y.is, mul-add size x.count y.count) }

kept_first : (before : List (List ℕ)) (p : List ℕ) (size : ℕ) → first_size before ≡ suc size → first_size (before ++ p ∷ []) ≡ suc size
kept_first [] p size same = absurd (omega (arith, same))
kept_first (q ∷ qs) p size same = same

later_multiple : (id : List ℕ) (step : TagState → Signal → TagStep) (s : TagState) (before ps : List (List ℕ)) (size : ℕ) → first_size before ≡ suc size → IsBroughtBy (T5 id) step s before ps
    → Multiple (suc size) (length (joined ps))
later_multiple id step s before [] size same is = record { count = 0; is = omega arith }
later_multiple id step s before (p ∷ ps) size same is =
    let rest = later_multiple id step (step s (next_command (T5 id) before)).after (before ++ p ∷ []) ps size (kept_first before p size same) is.3 in
    let here : Multiple (suc size) (length p) = one is.2 in
    subst (Multiple (suc size)) (sym (length-append p (joined ps))) (sum_multiple (suc size) (length p) (length (joined ps)) here rest)
  where
    one : Brings (T5 id) before is.0 p → Multiple (suc size) (length p)
    one (inl brings) = record { count = ask_count (ask_behind before); is = subst (λ n. IsBlocks n (ask_behind before) p) same brings.piece }
    one (inr falls) = record { count = 0; is = ap length falls.none ∙ omega arith }

pub whole_pieces : (id : List ℕ) (step : TagState → Signal → TagStep) (s : TagState) (ps : List (List ℕ)) → 0 < length ps → IsBroughtBy (T5 id) step s [] ps
    → (4 ≤ first_size ps) × Multiple (first_size ps) (length (joined ps))
whole_pieces id step s [] some is = absurd (omega (arith, some))
whole_pieces id step s (p ∷ ps) some is =
    let least : 4 ≤ length p = first_block p is.2 in
    let size : length p ≡ suc (length p - 1) = omega (arith, least) in
    let rest = later_multiple id step (step s (next_command (T5 id) [])).after (p ∷ []) ps (length p - 1) size is.3 in
    let own : Multiple (length p) (length p) = record { count = 1; is = omega arith } in (
      least,
      subst (Multiple (length p)) (sym (length-append p (joined ps))) (sum_multiple (length p) (length p) (length (joined ps)) own
          (subst (λ n. Multiple n (length (joined ps))) (sym size) rest)),
    )

-- and their area ends where block numbers do
most_named : (wide : Bool) → named_blocks wide ≤ 65536
most_named true = omega arith
most_named false = omega arith

reach_most : (size : ℕ) (r : Result T5Area ContainerFault) (space : Space) → t5_area_by size r ≡ Ok space → space.end ≤ 65536 * size
reach_most size (Err f) space e = absurd (cc)
reach_most size (Ok area) space e =
    let same : t5_reach size area ≡ space = cc in
    let most = mul-le-mul_right size (most_named area.wide) in
    omega (arith, ap (λ s. s.end) same, most)

cut_most : (r : Result Space ContainerFault) (end most : ℕ) (space : Space) → ((s : Space) → r ≡ Ok s → s.end ≤ most) → cut_by r end ≡ Ok space → space.end ≤ most
cut_most (Err f) end most space all e = absurd (cc)
cut_most (Ok s) end most space all e = (let same : cut s end ≡ space = cc in let low = all s refl in omega (arith, ap (λ x. x.end) same, low))

heard_most : (id : List ℕ) (ps : List (List ℕ)) (ended : Bool) (space : Space) → area_heard (T5 id) ps ended ≡ Ok space → space.end ≤ 65536 * first_size ps
heard_most id ps false space e = reach_most (first_size ps) (t5_container (joined ps)) space e
heard_most id ps true space e =
    cut_most (t5_area (first_size ps) (joined ps)) (length (joined ps)) (65536 * first_size ps) space (λ s has. reach_most (first_size ps) (t5_container (joined ps)) s has) e

pub record BlocksHeard (size : ℕ) (known : List ℕ) (space : Space) : Type 0 where
  pub some : 0 < size
  pub end : space.end ≤ 65536 * size
  pub blocks : space.end ≤ length known → HasBlocks size space known

pub t5_blocks : (id : List ℕ) (a b : LinkView) (size : ℕ) (known : List ℕ) (space : Space) → HearsAll (T5 id) a b size known space → BlocksHeard size known space
t5_blocks id a b size known space h =
    let whole = whole_pieces id a.step a.state h.ps h.some (pieces_of (T5 id) a b h.ps h.ended h.heard) in
    let long : length known ≡ size * whole.1.count = ap length h.known' ∙ whole.1.is ∙ ap (λ n. n * whole.1.count) (sym h.first) in
    let least = whole.0 in
    record {
      some = omega (arith, least, h.first);
      end = omega (arith, heard_most id h.ps h.ended space h.area, ap (λ n. 65536 * n) h.first);
      blocks = λ all x low high. (let inside = whole_block size whole.1.count x (omega (arith, high, all, long)) in omega (arith, inside, long));
    }

-- the ground in an area of which all is heard
module _ (how : How) (a b : LinkView) (size : ℕ) (known slice : List ℕ) (space : Space) (block : ℕ) (h : HearsAll how a b size known space) (e : slice ≡ known_heard how space.end known)
    (sized : block ≡ block_size how size) (ends : space.end ≤ length slice) where
  known_on : (k : How) → slice ≡ known_heard k space.end known → (more : List ℕ) × (known ≡ slice ++ more)
  known_on T2 is = (drop space.end known, store_goes_on known slice space.end is)
  known_on T4 is = ([], sym is ∙ sym (append-nil slice))
  known_on (T5 id) is = ([], sym is ∙ sym (append-nil slice))

  -- a form is said of all the pieces' bytes
  said_form : (w : Walk) → IsSettledOver space slice w → TellsForm space (joined h.ps) w
  said_form w is = let on = known_on how e in subst (λ xs. TellsForm space xs w) (sym on.1 ∙ h.known') (is.form on.0)

  none_by : (k : How) (f : form.Form) (ended : Bool) → IsHeard k a b h.ps ended → area_heard k h.ps ended ≡ Ok space → HasContainer k known → form.IsForm space (joined h.ps) f → IsNone k a b f
  none_by T2 f false heard area container is =
      inl (record { ps = h.ps; brought = heard.0; over = heard.1; says = record { some = h.some; whole = tt; form = subst (λ r. IsFormBy r (joined h.ps) f) (sym area) is } })
  none_by T2 f true heard area container is = absurd heard.2
  none_by T4 f false heard area container is = absurd (let no_area = area in cc)
  none_by T4 f true heard area container is = absurd heard.2
  none_by (T5 id) f false heard area container is = inl (record {
    ps = h.ps;
    brought = heard.0;
    over = heard.1;
    says = record { some = h.some; whole = subst (λ xs. HasContainer (T5 id) xs) h.known' container; form = subst (λ r. IsFormBy r (joined h.ps) f) (sym area) is };
  })
  none_by (T5 id) f true heard area container is =
      inr (record { ps = h.ps; r = heard.0; stopped = heard.1; ends = heard.2; form = subst (λ r. IsFormBy r (joined h.ps) f) (sym area) is })

  -- a fault that the pieces say
  said_none : (f : form.Form) → form.IsForm space (joined h.ps) f → (e : ReadFault) → (IsNone how a b f → IsFaultBy how a b e) → IsUnsurveyedBy how a b e
  said_none f is e told =
      let none = none_by how f h.ended h.heard h.area h.container is in
      record { by = told none; needs = λ ps brought says. none_over how a b f none }

  pub ground_told : (result : Result Ground ReadFault) → GroundIn space block slice result → IsGroundToldBy how a b result
  ground_told (Ok (Area known' block' m)) is =
      let seen : IsWalk space slice (walk.Held m) = subst (λ xs. IsWalk space xs (walk.Held m)) (append-nil slice) (is.2.front []) in
      let same : m.space ≡ space = seen.0 in
      let ground' : IsAreaHeard how h.ps h.ended slice block m = record {
        some = h.some;
        container = subst (λ xs. HasContainer how xs) h.known' h.container;
        area = h.area ∙ ap (λ s. Ok s) (sym same);
        size' = sized ∙ ap (λ n. block_size how n) h.first;
        bytes = e ∙ ap (λ n. known_heard how n known) (ap (λ s. s.end) (sym same)) ∙ ap (λ xs. known_heard how m.space.end xs) h.known';
        whole = subst (λ s. s.end ≤ length slice) (sym same) ends;
        seen = (refl, seen.1, seen.2, seen.3, seen.4);
      } in
      record {
        ps = h.ps;
        ended = h.ended;
        heard = h.heard;
        left = h.left;
        ground' = subst (λ xs. IsAreaHeard how h.ps h.ended xs block' m) (sym is.0) (subst (λ n. IsAreaHeard how h.ps h.ended slice n m) (sym is.1) ground');
      }
  ground_told (Ok (File map' length')) is = absurd is
  ground_told (Err fault.NoMessageTlv) is = said_none form.NoMessageTlv (said_form walk.NoMessageTlv is) fault.NoMessageTlv (λ none. none)
  ground_told (Err fault.BadTlv) is = said_none form.BadTlv (said_form walk.BadTlv is) fault.BadTlv (λ none. none)
  ground_told (Err fault.NotNdef) is = absurd is
  ground_told (Err fault.Version) is = absurd is
  ground_told (Err fault.NoRead) is = absurd is
  ground_told (Err fault.Sectors) is = absurd is
  ground_told (Err fault.BadSize) is = absurd is
  ground_told (Err (fault.Refused code)) is = absurd is
  ground_told (Err fault.FieldLost) is = absurd is
  ground_told (Err fault.SixBad) is = absurd is
  ground_told (Err fault.Memory) is = absurd is
  ground_told (Err fault.Protocol) is = absurd is

-- the ground that is heard of a Type 2 tag is low
pub two_low : (a b : LinkView) (ps : List (List ℕ)) (ended : Bool) (known : List ℕ) (block : ℕ) (m : AreaMap) → IsHeard T2 a b ps ended → IsArea m.space → IsAreaHeard T2 ps ended known block m
    → length known ≤ 1024
two_low a b ps false known block m heard area is =
    let same : t2_space (four_bytes (joined ps) 12) ≡ m.space = t2_is (four_bytes (joined ps) 12) m.space is.area in
    let start : 16 ≡ m.space.start = ap (λ s. s.start) same in
    let small = area.small (sym (ap (λ s. s.control) same)) in
    omega (arith, start, small, ap length is.bytes, length-take m.space.end (joined ps))
two_low a b ps true known block m heard area is = absurd heard.2

-- the length of a file is read
pub file_told : (a b : LinkView) (map' : FileMap) (n : ℕ) → Measured a b map' n → IsSurveyedBy T4 a b (File map' n)
file_told a b map' n m =
    let some : 0 < length m.ps = (let long = ap length m.file.pieces in omega (arith, long)) in
    record {
      ps = m.ps;
      ended = false;
      heard = (m.under.brought, (went_of T4 a b m.ps m.under some).over);
      left = left_under T4 a b m.ps m.under;
      ground' = record { kind = refl; goes_on = refl; file = m.file; fits = m.fits };
    }
