-- The turns of a reading of a Type 2 tag: the first READ, the walk over what is known, and the next READ.
use Rattle.std.proofs.Common.{◌≡◌, ℕ, ◌+◌, ◌*◌, ◌<◌, inl, inr, List, [], ◌++◌, length, take, refl, sym, ◌∙◌, ap, subst, arith}
use Rattle.std.specs.Prelude.{Ok, Err}
use Rattle.std.proofs.lemmas.List.{take-append-le}
use Rattle.nfc_base.specs.TagLinks.{LinkView}
use Rattle.tlv_area.specs.declared.space.Space.{Space}
use Rattle.tlv_area.specs.declared.space.AreaMap.{AreaMap}
use Rattle.tlv_area.specs.declared.container.ContainerFault.{ContainerFault}
use Rattle.tlv_area.specs.declared.walk.Walk.TheVariants as walk
use Rattle.tlv_area.specs.Form as form
use Rattle.tlv_area.specs.Map.{IsWalk, IsPlacedIn}
use Rattle.tag_reader.specs.declared.how.How.TheVariants.{T2}
use Rattle.tag_reader.specs.declared.fault.ReadFault.{ReadFault}
use Rattle.tag_reader.specs.declared.fault.ReadFault.TheVariants as fault
use Rattle.tag_reader.specs.Kinds.{IsTag, IsStore, area_of}
use Rattle.tag_reader.specs.Asked.{Aim, ToRead, NeedsMore}
use Rattle.tag_reader.specs.Steps.{IsInReach, rolling, Learns, Knows, Walks, Reads, of_container}
use Rattle.tag_reader.proofs.Areas.{first_within, front_area, due_reach}
use Rattle.tag_reader.proofs.Knowing.{knows_first, knows_more, walks_at}
use Rattle.tag_reader.proofs.Endings.{knows_asked, settles, settled_all, map_found, ends_container, due_next}

-- the first READ is in reach
pub first_reach : (size : ℕ) (store : List ℕ) → IsStore T2 size store → IsInReach store 0
first_reach size store is = due_reach size store 0 is (inl refl)

-- it gave something
pub begun : (aim : Aim) (size : ℕ) (a b : LinkView) (before known : List ℕ) → IsTag T2 size a → before ≡ [] → Learns size 0 a b before known → Knows aim size a b known 0
begun aim size a b before known is none learns = knows_first aim size a b known is (subst (λ xs. Learns size 0 a b xs known) none learns)

-- what it gave
first_bytes : {aim : Aim} (size : ℕ) (a b : LinkView) (known : List ℕ) → IsStore T2 size a.state.store → Knows aim size a b known 0 → known ≡ take size a.state.store
first_bytes size a b known is k =
    let one : size * (0 + 1) ≡ size = omega arith in
    k.bytes ∙ ap (λ n. take n (rolling a.state.store)) one ∙ take-append-le size a.state.store a.state.store (first_within size a.state.store is)

first_area : {aim : Aim} (size : ℕ) (a b : LinkView) (known slice : List ℕ) → IsStore T2 size a.state.store → Knows aim size a b known 0 → slice ≡ known →
    area_of T2 16 slice ≡ area_of T2 size a.state.store
first_area size a b known slice is k same = ap (λ xs. area_of T2 size xs) (same ∙ first_bytes size a b known is k) ∙ front_area size a.state.store is

pub first_fault : (aim : Aim) (size : ℕ) (a b : LinkView) (known slice : List ℕ) (f : ContainerFault) (e : ReadFault) → IsStore T2 size a.state.store → Knows aim size a b known 0 →
    slice ≡ known → Err f ≡ area_of T2 16 slice → e ≡ of_container f → Reads aim T2 size a b known (Err e)
first_fault aim size a b known slice f e is k same has told =
    subst (λ x. Reads aim T2 size a b known (Err x)) (sym told) (ends_container aim size a b known f k (sym (has ∙ first_area size a b known slice is k same)))

pub first_walk : {aim : Aim} (size : ℕ) (a b : LinkView) (known slice : List ℕ) (space : Space) → IsStore T2 size a.state.store → Knows aim size a b known 0 →
    slice ≡ known → Ok space ≡ area_of T2 16 slice → Walks aim size a b known space 0
first_walk size a b known slice space is k same has = walks_at size a b known space 0 is k (sym (has ∙ first_area size a b known slice is k same))

-- the walk is settled
pub held : (size : ℕ) (a b : LinkView) (known front : List ℕ) (space : Space) (n : ℕ) (m : AreaMap) →
    Walks ToRead size a b known space n → front ≡ take space.end known → ((more : List ℕ) → IsWalk space (front ++ more) (walk.Held m)) → IsPlacedIn front m →
    Reads ToRead T2 size a b known (Ok m)
held size a b known front space n m walks e there places = record {
  stays = walks.knows.stays;
  asked = knows_asked size a b known n walks.knows;
  whole = settled_all size a b known front space n (walk.Held m) walks e tt there;
  goes_on = walks.knows.goes_on;
  tells = map_found size a b known front space n m walks e there places;
  calm = tt;
}

pub none : (size : ℕ) (a b : LinkView) (known front : List ℕ) (space : Space) (n : ℕ) →
    Walks ToRead size a b known space n → front ≡ take space.end known → ((more : List ℕ) → IsWalk space (front ++ more) walk.NoMessageTlv) →
    Reads ToRead T2 size a b known (Err fault.NoMessageTlv)
none size a b known front space n walks e there = record {
  stays = walks.knows.stays;
  asked = knows_asked size a b known n walks.knows;
  whole = λ told. settled_all size a b known front space n walk.NoMessageTlv walks e tt there;
  goes_on = λ told. walks.knows.goes_on;
  tells = settles size a b known front space n walk.NoMessageTlv walks e tt there;
  calm = λ begun lit quiet. inl refl;
}

pub bad : (size : ℕ) (a b : LinkView) (known front : List ℕ) (space : Space) (n : ℕ) →
    Walks ToRead size a b known space n → front ≡ take space.end known → ((more : List ℕ) → IsWalk space (front ++ more) walk.BadTlv) →
    Reads ToRead T2 size a b known (Err fault.BadTlv)
bad size a b known front space n walks e there = record {
  stays = walks.knows.stays;
  asked = knows_asked size a b known n walks.knows;
  whole = λ told. settled_all size a b known front space n walk.BadTlv walks e tt there;
  goes_on = λ told. walks.knows.goes_on;
  tells = settles size a b known front space n walk.BadTlv walks e tt there;
  calm = λ begun lit quiet. inl refl;
}

-- it isn't: the next READ is due, and what it needs
pub record Next (size : ℕ) (a b : LinkView) (n : ℕ) : Type 0 where
  pub due : NeedsMore size a.state.store (n + 1)
  pub tag : IsTag T2 size b
  pub reach : IsInReach b.state.store (n + 1)

pub next : (size : ℕ) (a b : LinkView) (known front : List ℕ) (space : Space) (n : ℕ) → IsStore T2 size a.state.store → Walks ToRead size a b known space n →
    front ≡ take space.end known → length front < space.end → form.NeedsMore space front → Next size a b n
next size a b known front space n is walks e short more =
    let due = due_next size a b known front space n walks e short more in
    record {
      due = due;
      tag = walks.knows.tag;
      reach = subst (λ s. IsInReach s (n + 1)) (sym walks.knows.stays.store) (due_reach size a.state.store (n + 1) is (inr due));
    }

-- it gives more
pub goes_on : (size : ℕ) (a b c : LinkView) (known known' : List ℕ) (space : Space) (n : ℕ) → IsStore T2 size a.state.store →
    Walks ToRead size a b known space n → Next size a b n → Learns size (n + 1) b c known known' → Walks ToRead size a c known' space (n + 1)
goes_on size a b c known known' space n is walks due learns =
    walks_at size a c known' space (n + 1) is (knows_more ToRead size a b c known known' n walks.knows (inr due.due) learns) walks.area
