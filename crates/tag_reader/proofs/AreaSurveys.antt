-- A survey of an area: READs to its end, or blocks to its end or the tag's.
use Rattle.std.proofs.Common.{◌≡◌, ℕ, suc, ◌+◌, ◌*◌, ◌<◌, ◌≤◌, inl, inr, List, ◌++◌, length, drop, sym, ◌∙◌, ap, subst, arith}
use Rattle.std.specs.Prelude.{min, Ok}
use Rattle.std.proofs.lemmas.List.{length-append, length-take}
use Rattle.nfc_base.specs.TagLinks.{LinkView}
use Rattle.tlv_area.specs.declared.space.Space.{Space}
use Rattle.tlv_area.specs.declared.container.T5Container.TheVariants.{Ready}
use Rattle.tlv_area.specs.Containers.{t5_front}
use Rattle.tlv_area.specs.Layout.{IsArea}
use Rattle.tlv_area.specs.Stores.{cut, t5_reach, t5_area}
use Rattle.tag_reader.specs.declared.how.How.TheVariants.{T2, T5}
use Rattle.tag_reader.specs.declared.known.Known.{Known}
use Rattle.tag_reader.specs.Blocks.{AreaGoesOn, progress_at}
use Rattle.tag_reader.specs.Asked.{ToWrite, IsLeft, IsSurveyed}
use Rattle.tag_reader.specs.Kinds.{IsTag, IsStore}
use Rattle.tag_reader.specs.Steps.{IsInReach, Learns, Walks}
use Rattle.tag_reader.specs.private.BlockSteps.{Names, IsReading, HasRunOut}
use Rattle.tag_reader.specs.Heard.{IsOf}
use Rattle.tag_reader.specs.HeardSteps.{Under}
use Rattle.tag_reader.specs.private.SurveySteps.{IsAllKnown}
use Rattle.tag_reader.proofs.Areas.{left_reach}
use Rattle.tag_reader.proofs.Knowing.{knows_more, walks_at, store_goes_on}
use Rattle.tag_reader.proofs.BlockEndings.{ready_here, names_store}
use Rattle.tag_reader.proofs.BlockTurns.{known_long}

-- The next READ is due, where the area goes on behind what is known.
pub record Left (size : ℕ) (a b : LinkView) (n : ℕ) : Type 0 where
  pub due : IsLeft T2 size a.state.store (n + 1)
  pub tag : IsTag T2 size b
  pub reach : IsInReach b.state.store (n + 1)

pub left : (size : ℕ) (a b : LinkView) (known : List ℕ) (space : Space) (n : ℕ) → IsStore T2 size a.state.store → Walks ToWrite size a b known space n → length known < space.end → Left size a b n
left size a b known space n is w short =
    let long = ap length w.knows.bytes ∙ length-take (size * (n + 1)) (a.state.store ++ a.state.store) in
    let twice = length-append a.state.store a.state.store in
    let due : IsLeft T2 size a.state.store (n + 1) = record { space = space; area = w.area; more = omega (arith, long, twice, short, w.within) } in
    record { due = due; tag = w.knows.tag; reach = subst (λ s. IsInReach s (n + 1)) (sym w.knows.stays.store) (left_reach size a.state.store (n + 1) is due) }

-- it brings more
pub brings_more : (size : ℕ) (a b c : LinkView) (known known' : List ℕ) (space : Space) (n : ℕ) → IsStore T2 size a.state.store → Walks ToWrite size a b known space n →
    Left size a b n → Learns size (n + 1) b c known known' → Walks ToWrite size a c known' space (n + 1)
brings_more size a b c known known' space n is w l learns = walks_at size a c known' space (n + 1) is (knows_more ToWrite size a b c known known' n w.knows (inr l.due) learns) w.area

-- The blocks that are asked for next, where the area goes on behind those that are known.
pub area_due : (id : List ℕ) (size n : ℕ) (a b : LinkView) (known : Known) (space : Space) → IsReading ToWrite id size a b known (suc n) → Names known space → length known.bytes.items < space.end →
    IsSurveyed (T5 id) size a.state.store (suc n)
area_due id size n a b known space r names short =
    let bytes : ℕ = size * (progress_at size a.state.store (suc n)).blocks in
    let long = known_long id size (suc n) a b known r in
    let end : space.end ≡ (t5_reach size names.area).end = ap (λ s. s.end) names.reach ∙ ap (λ m. (t5_reach m names.area).end) r.size' in
    inr (record {
      within = r.within;
      more = subst (λ xs. AreaGoesOn size bytes (t5_front xs)) r.bytes (subst (λ x. AreaGoesOn size bytes x) (sym (ready_here known space names)) (omega (arith, long, end, short)));
    })

-- none, where all of it is known
pub area_known : (id : List ℕ) (size n : ℕ) (a b : LinkView) (known : Known) (space : Space) → IsReading ToWrite id size a b known (suc n) → Names known space → space.end ≤ length known.bytes.items →
    IsSurveyed (T5 id) size a.state.store (suc n) → ⊥
area_known id size n a b known space r names whole (inl zero') = omega arith
area_known id size n a b known space r names whole (inr due) =
    let bytes : ℕ = size * (progress_at size a.state.store (suc n)).blocks in
    let long = known_long id size (suc n) a b known r in
    let end : space.end ≡ (t5_reach size names.area).end = ap (λ s. s.end) names.reach ∙ ap (λ m. (t5_reach m names.area).end) r.size' in
    let more : AreaGoesOn size bytes (Ok (Ready names.area.space names.area.wide names.area.many)) =
    subst (λ x. AreaGoesOn size bytes x) (ready_here known space names) (subst (λ xs. AreaGoesOn size bytes (t5_front xs)) (sym r.bytes) due.more) in
    omega (arith, long, end, whole, more)

-- the area that the store's container names
pub area_named : (id : List ℕ) (size n : ℕ) (a b : LinkView) (known : Known) (space : Space) → IsReading ToWrite id size a b known (suc n) → Names known space → t5_area size a.state.store ≡ Ok space
area_named id size n a b known space r names =
    let m : ℕ = size * (progress_at size a.state.store (suc n)).blocks in
    let past : List ℕ = drop m a.state.store in
    let whole : a.state.store ≡ known.bytes.items ++ past = store_goes_on a.state.store known.bytes.items m r.bytes in
    ap (λ xs. t5_area size xs) whole ∙ ap (λ k. t5_area k (known.bytes.items ++ past)) (sym r.size') ∙ names_store known space names past

abbrev ending : Space → ℕ → Space
ending space e = record space { end = e }

cut_same : (space : Space) (n : ℕ) → space.end ≤ n → space ≡ cut space n
cut_same space n low = (let least : space.end ≡ min space.end n = omega (arith, low) in ap (λ e. ending space e) least)

pub all_is_known : (id : List ℕ) (size n : ℕ) (a b : LinkView) (known : Known) (space : Space) → IsReading ToWrite id size a b known (suc n) → Names known space → space.end ≤ length known.bytes.items
    →
    IsAllKnown id size a b known space
all_is_known id size n a b known space r names whole =
    let long = known_long id size (suc n) a b known r in
    record {
      n = suc n;
      asks = r.reached;
      no_more = area_known id size n a b known space r names whole;
      state = r.state;
      size' = r.size';
      count = (progress_at size a.state.store (suc n)).blocks;
      bytes = r.bytes;
      within = r.within;
      space = space;
      area = area_named id size n a b known space r names;
      end' = cut_same space (length a.state.store) (omega (arith, whole, long, r.within));
    }

-- or all of the tag
pub tag_is_known : (id : List ℕ) (size n : ℕ) (a b c : LinkView) (known known' : Known) (space : Space) (end : ℕ) → IsReading ToWrite id size a b known (suc n) → Names known space →
    length known.bytes.items < space.end → HasRunOut ToWrite id size a c known known' (suc n) → end ≡ length known'.bytes.items → IsAllKnown id size a c known' (record space { end = end })
tag_is_known id size n a b c known known' space end r names short out same =
    let store : List ℕ = a.state.store in
    let long = known_long id size (suc n) a b known r in
    let bytes : known'.bytes.items ≡ known.bytes.items = ap (λ k. k.bytes.items) out.same in
    let least : end ≡ min space.end (length store) = (let l = ap length bytes in let e = out.end in omega (arith, same, l, long, e, short)) in
    record {
      n = suc (suc n);
      asks = out.asks;
      no_more = out.no_more;
      state = out.state;
      size' = ap (λ k. k.size) out.same ∙ r.size';
      count = (progress_at size store (suc n)).blocks;
      bytes = bytes ∙ r.bytes;
      within = r.within;
      space = space;
      area = area_named id size n a b known space r names;
      end' = ap (λ e. ending space e) least;
    }

-- the area as far as the tag goes is one
pub cut_area : (space : Space) (end : ℕ) → IsArea space → space.start ≤ end → end < space.end → IsArea (record space { end = end })
cut_area space end is begins short = record { order = begins; small = λ control. (let most = is.small control in omega (arith, most, short)) }

-- the link leads to the same tag
pub still_of : (id : List ℕ) (a b c : LinkView) (ps qs : List (List ℕ)) → IsOf (T5 id) b → Under (T5 id) a b ps → Under (T5 id) a c qs → IsOf (T5 id) c
still_of id a b c ps qs is u v =
    record { kind = v.kind ∙ sym u.kind ∙ is.kind; named = ((v.identifier ∙ sym u.identifier) ∙ is.named.0, is.named.1, is.named.2) }
