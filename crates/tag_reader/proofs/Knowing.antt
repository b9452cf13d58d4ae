-- A reading under way.
use Rattle.std.proofs.Common.{◌≡◌, ℕ, suc, ◌+◌, ◌*◌, inl, inr, List, [], ◌∷◌, ◌++◌, take, drop, sym, ◌∙◌, ap, subst, append_assoc, arith}
use Rattle.std.specs.Prelude.{min, Some, Ok}
use Rattle.std.proofs.lemmas.Bool.{cases_lt}
use Rattle.std.proofs.lemmas.List.{take-append-drop, take-take}
use Rattle.nfc_base.specs.Signal.{Signal}
use Rattle.nfc_base.specs.TagLinks.{LinkView, MayAsk, Type2, after_all}
use Rattle.nfc_base.proofs.Leading.{after_append, all_map, leads_on, all_on, rises_on}
use Rattle.tlv_area.specs.declared.space.Space.{Space}
use Rattle.tag_reader.specs.declared.how.How.{How}
use Rattle.tag_reader.specs.declared.how.How.TheVariants.{T2}
use Rattle.tag_reader.specs.Kinds.{IsTag, IsStore, area_of, command, first}
use Rattle.tag_reader.specs.Asked.{Aim, ToRead, IsDueFor, AreDueFor, IsDue, AreDue}
use Rattle.tag_reader.specs.Calls.{Stays, GoesOn, last_of}
use Rattle.tag_reader.specs.Steps.{rolling, Learns, Knows, Walks}
use Rattle.tag_reader.proofs.Bytes.{front_is, more_known}
use Rattle.tag_reader.proofs.Areas.{named}

-- one more
pub first_more : (how : How) (size : ℕ) (store : List ℕ) (n : ℕ) → first how size store (n + 1) ≡ first how size store n ++ command how size store n ∷ []
first_more how size store n = let e : n + 1 ≡ suc n = omega arith in ap (λ m. first how size store m) e

pub last_more : (how : How) (size : ℕ) (store : List ℕ) (a : LinkView) (n : ℕ) → last_of how size store a (n + 1) ≡ Some (command how size store n)
last_more how size store a n = let e : n + 1 ≡ suc n = omega arith in ap (λ m. last_of how size store a m) e

pub due_more_for : (aim : Aim) (how : How) (size : ℕ) (store : List ℕ) (n : ℕ) → AreDueFor aim how size store n → IsDueFor aim how size store n → AreDueFor aim how size store (n + 1)
due_more_for aim how size store n before here k low = elim (cases_lt k n) [
  | inl less ↦ before k less
  | inr last ↦ (let same : n ≡ k = omega arith in subst (λ m. IsDueFor aim how size store m) same here)
]

pub due_more : (how : How) (size : ℕ) (store : List ℕ) (n : ℕ) → AreDue how size store n → IsDue how size store n → AreDue how size store (n + 1)
due_more how size store n before here = due_more_for ToRead how size store n before here

-- the tag is what the commands leave
pub after_more : (a b c : LinkView) (xs : List Signal) (command' : Signal) → b.step ≡ a.step → b.state ≡ after_all a.step a.state xs → c.state ≡ (b.step b.state command').after →
    c.state ≡ after_all a.step a.state (xs ++ command' ∷ [])
after_more a b c xs command' step state here =
    here ∙ ap (λ st. (st b.state command').after) step ∙ ap (λ s. (a.step s command').after) state ∙ sym (after_append a.step a.state xs (command' ∷ []))

pub answered_more : (how : How) (size : ℕ) (store : List ℕ) (front xs ys : List Signal) (n : ℕ) → xs ≡ front ++ first how size store n → ys ≡ xs ++ command how size store n ∷ [] →
    ys ≡ front ++ first how size store (n + 1)
answered_more how size store front xs ys n before here =
    here ∙ ap (λ zs. zs ++ command how size store n ∷ []) before ∙ append_assoc front (first how size store n) (command how size store n ∷ [])
    ∙ ap (λ zs. front ++ zs) (sym (first_more how size store n))

pub stays_on : (a b c : LinkView) → Stays a b → Stays b c → Stays a c
stays_on a b c p q = record {
  more = p.more ++ q.more;
  leads = leads_on a b c p.more q.more p.leads q.leads;
  images = all_on (λ s. s ≡ a.state.store) a b c p.more q.more p.leads q.leads p.images
      (all_map (λ s. s ≡ b.state.store) (λ s. s ≡ a.state.store) _ (λ s e. e ∙ p.store) q.images);
  store = q.store ∙ p.store;
  rises = rises_on a b c p.rises q.rises;
}

pub goes_on_on : (a b c : LinkView) → GoesOn a b → GoesOn b c → GoesOn a c
goes_on_on a b c p q = record { over = q.over; lit = q.lit; counts = q.counts ∙ p.counts }

-- the tag stays one of its kind
pub tag_stays : (size : ℕ) (a b : LinkView) → IsTag T2 size a → Stays a b → IsTag T2 size b
tag_stays size a b is s = record {
  kind = s.leads.kind ∙ is.kind;
  named = tt;
  store = subst (λ t. IsStore T2 size t) (sym s.store) is.store;
  steps = (is.steps.0, λ t c store may. ap (λ st. st t c) s.leads.step ∙ is.steps.1 t c store (subst (λ i. MayAsk Type2 i c) s.leads.identifier may));
}

pub knows_first : (aim : Aim) (size : ℕ) (a b : LinkView) (known : List ℕ) → IsTag T2 size a → Learns size 0 a b [] known → Knows aim size a b known 0
knows_first aim size a b known is learns =
    let none : size * 0 ≡ 0 = omega arith in
    let rest : List ℕ = take size (drop (size * 0) (rolling a.state.store)) in
    record {
      stays = learns.answers.stays;
      before = learns.answers.before;
      goes_on = learns.answers.goes_on;
      each = λ k low. inl (omega arith);
      answered = learns.answers.answered;
      last = learns.answers.last;
      after = learns.answers.after;
      state = learns.state;
      bytes = learns.grown ∙ sym (ap (λ n. take n (rolling a.state.store) ++ rest) none) ∙ more_known a.state.store size 0;
      tag = tag_stays size a b is learns.answers.stays;
    }

pub knows_more : (aim : Aim) (size : ℕ) (a b c : LinkView) (known known' : List ℕ) (n : ℕ) → Knows aim size a b known n → IsDueFor aim T2 size a.state.store (n + 1) →
    Learns size (n + 1) b c known known' → Knows aim size a c known' (n + 1)
knows_more aim size a b c known known' n k due learns =
    let stays = stays_on a b c k.stays learns.answers.stays in
    let store : b.state.store ≡ a.state.store = k.stays.store in
    record {
      stays = stays;
      before = k.before;
      goes_on = goes_on_on a b c k.goes_on learns.answers.goes_on;
      each = due_more_for aim T2 size a.state.store (n + 1) k.each due;
      answered = answered_more T2 size a.state.store a.answered b.answered c.answered (n + 1) k.answered
          (learns.answers.answered ∙ ap (λ s. b.answered ++ command T2 size s (n + 1) ∷ []) store);
      last = learns.answers.last ∙ ap (λ s. Some (command T2 size s (n + 1))) store;
      after = after_more a b c (first T2 size a.state.store (n + 1)) (command T2 size b.state.store (n + 1)) k.stays.leads.step k.after learns.answers.after
          ∙ ap (λ s. after_all a.step a.state (first T2 size a.state.store (n + 1) ++ command T2 size s (n + 1) ∷ [])) store
          ∙ ap (λ xs. after_all a.step a.state xs) (sym (first_more T2 size a.state.store (n + 1)));
      state = learns.state ∙ k.state;
      bytes = learns.grown ∙ ap (λ s. known ++ take size (drop (size * (n + 1)) (rolling s))) store
          ∙ ap (λ xs. xs ++ take size (drop (size * (n + 1)) (rolling a.state.store))) k.bytes ∙ more_known a.state.store size (n + 1);
      tag = tag_stays size b c k.tag learns.answers.stays;
    }

pub walks_at : {aim : Aim} (size : ℕ) (a b : LinkView) (known : List ℕ) (space : Space) (n : ℕ) → IsStore T2 size a.state.store → Knows aim size a b known n →
    area_of T2 size a.state.store ≡ Ok space → Walks aim size a b known space n
walks_at size a b known space n is k has =
    let area = named size a.state.store space is has in
    record { knows = k; area = has; order = area.area.order; within = area.within }

-- the walk goes over a front of the store
pub walk_front : {aim : Aim} (size : ℕ) (a b : LinkView) (known front : List ℕ) (space : Space) (n : ℕ) → Walks aim size a b known space n →
    front ≡ take space.end known → front ≡ take (min space.end (size * (n + 1))) a.state.store
walk_front size a b known front space n w e =
    e ∙ ap (λ xs. take space.end xs) w.knows.bytes ∙ front_is a.state.store space.end (size * (n + 1)) w.within

-- what the store has behind it, and what all that was read has
pub store_goes_on : (store front : List ℕ) (p : ℕ) → front ≡ take p store → store ≡ front ++ drop p store
store_goes_on store front p e = sym (ap (λ xs. xs ++ drop p store) e ∙ take-append-drop p store)

pub read_goes_on : (store front : List ℕ) (end m : ℕ) → front ≡ take (min end m) store → take m store ≡ front ++ drop (min end m) (take m store)
read_goes_on store front end m e =
    let part : take (min end m) (take m store) ≡ take (min end m) store = take-take (min end m) m store (omega arith) in
    sym (ap (λ xs. xs ++ drop (min end m) (take m store)) (e ∙ sym part) ∙ take-append-drop (min end m) (take m store))
