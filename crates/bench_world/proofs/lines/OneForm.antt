-- A store has one form, so it is told in one way.
use Rattle.std.proofs.Common.{◌≡◌, inl, inr, ℕ, ◌-◌, ◌<◌, List, [], ◌∷◌, ◌++◌, length, Bool, false, Result, Ok, Err, refl, sym, ◌∙◌, ap, subst, arith}
use Rattle.std.specs.List.{flat_map}
use Rattle.std.proofs.lemmas.Bool.{cases_lt}
use Rattle.tlv_area.specs.declared.space.Space.{Space}
use Rattle.tlv_area.specs.declared.container.ContainerFault.{ContainerFault}
use Rattle.tlv_area.specs.declared.container.ContainerFault.TheVariants as container
use Rattle.tlv_area.specs.Containers.{t2_container}
use Rattle.tlv_area.specs.Layout.{Tlv, Layout, free, reserved_by}
use Rattle.tlv_area.specs.Form.{Form, Faulty, Message, NoMessageTlv, BadTlv, Next, End, Fault, Comes, Holds, IsForm, next}
use Rattle.tlv_area.specs.Stores.{four_bytes, cut_by, t5_area, IsFormBy, IsOneForm}
use Rattle.tlv_area.proofs.OneForm.{nonempty}
use Rattle.tlv_area.proofs.OneNext.{one_form}
use Rattle.tag_reader.specs.declared.how.How.{How}
use Rattle.tag_reader.specs.declared.how.How.TheVariants.{T2, T4, T5}
use Rattle.tag_reader.specs.Kinds.{IsStoreForm}
use Rattle.tag_reader.specs.Access.{IsAccess}
use Rattle.tag_reader.proofs.Accesses.{one_access}
use Rattle.bench_world.specs.declared.entry.Answer.{Answer}
use Rattle.bench_world.specs.declared.entry.Answer.TheVariants as answers
use Rattle.bench_world.specs.Reading.{Tells}

nil_behind : (a b : List ℕ) → a ++ b ≡ [] → b ≡ []
nil_behind [] b none = none
nil_behind (x ∷ a) b none = absurd cc

-- An area whose end is before its start has no address, so nothing is left behind a layout of it.
short_free : (r : ℕ → Bool) (at end : ℕ) → end < at → free r at end ≡ []
short_free r at end low = let none : end - at ≡ 0 = omega arith in rw none refl

module _ (space : Space) (memory : List ℕ) (low : space.end < space.start) where
  short_rest : (ts : List Tlv) (rest : List ℕ) → Layout space memory ts rest → rest ≡ []
  short_rest ts rest l = nil_behind (flat_map (λ t. t.at) ts) rest (l.addresses ∙ short_free (reserved_by space.control ts) space.start space.end low)

  short_next : (what : Next) → Comes space memory what → what ≡ End
  unfolding next
  short_next what is = sym is.3 ∙ ap (λ cells. next memory cells) (short_rest is.0 is.1 is.2)

  short_held : (message : List ℕ) → Holds space memory message → ⊥
  short_held message is =
      let some = nonempty memory is.1 is.4 in
      let none : some.0 ∷ (some.1 ++ is.2) ≡ [] = sym (ap (λ cells. cells ++ is.2) some.2) ∙ short_rest is.0 ((is.1).at ++ is.2) is.3 in
      cc

  short_form : (f : Form) → IsForm space memory f → f ≡ NoMessageTlv
  short_form (Faulty e) is = absurd is
  short_form (Message m) is = absurd (short_held m is)
  short_form NoMessageTlv is = refl
  short_form BadTlv is = absurd (let clash : Fault ≡ End = short_next Fault is in cc)

-- An area has one form, wherever its end is.
one_area_form : (space : Space) (memory : List ℕ) → IsOneForm (IsForm space memory)
one_area_form space memory f g one two = elim (cases_lt space.end space.start) [
  | inl low ↦ short_form space memory low f one ∙ sym (short_form space memory low g two)
  | inr order ↦ one_form space memory order f g one two
]

one_form_by : (container : Result Space ContainerFault) (store : List ℕ) → IsOneForm (IsFormBy container store)
one_form_by (Err fault) store f g one two = one ∙ sym two
one_form_by (Ok space) store f g one two = one_area_form space store f g one two

-- a store has one form
pub one_store_form : (how : How) (size : ℕ) (store : List ℕ) → IsOneForm (IsStoreForm how size store)
one_store_form T2 size store f g one two = one_form_by (t2_container (four_bytes store 12)) store f g one two
one_store_form T4 size store f g one two = one ∙ sym two
one_store_form (T5 id) size store f g one two = one_form_by (cut_by (t5_area size store) (length store)) store f g one two

-- the answer that tells of a form, and of whether writing is free
abbrev answer_by : Form → Bool → Answer
answer_by (Faulty container.NotNdef) writable = answers.NotNdef
answer_by (Faulty container.Version) writable = answers.Version
answer_by (Faulty container.NoRead) writable = answers.NoRead
answer_by (Faulty container.Sectors) writable = answers.Sectors
answer_by (Faulty container.BadSize) writable = answers.BadSize
answer_by (Message message) writable = answers.Message message writable
answer_by NoMessageTlv writable = answers.NoMessageTlv
answer_by BadTlv writable = answers.BadTlv

module _ (how : How) (size : ℕ) (store : List ℕ) where
  -- whether writing is free is told of a message alone
  abbrev AccessIf : Form → Bool → Type 0
  AccessIf (Message message) writable = IsAccess how size store writable
  AccessIf f writable = Unit {0}

  same_answer : (f : Form) (v w : Bool) → AccessIf f v → AccessIf f w → answer_by f v ≡ answer_by f w
  same_answer (Faulty container.NotNdef) v w p q = refl
  same_answer (Faulty container.Version) v w p q = refl
  same_answer (Faulty container.NoRead) v w p q = refl
  same_answer (Faulty container.Sectors) v w p q = refl
  same_answer (Faulty container.BadSize) v w p q = refl
  same_answer (Message message) v w p q = ap (λ x. answers.Message message x) (one_access how size store v w p q)
  same_answer NoMessageTlv v w p q = refl
  same_answer BadTlv v w p q = refl

  -- The answer tells of a form that the store has.
  record TellsForm (answer : Answer) : Type 0 where
    pub form : Form
    pub writable : Bool
    pub is : IsStoreForm how size store form
    pub access : AccessIf form writable
    pub same : answer ≡ answer_by form writable

  tells_fault : (fault : ContainerFault) → IsStoreForm how size store (Faulty fault) → TellsForm (answer_by (Faulty fault) false)
  tells_fault fault is = record { form = Faulty fault; writable = false; is = is; access = tt; same = refl }

  tells_form : (answer : Answer) → Tells how size store answer → TellsForm answer
  tells_form (answers.Message message writable) t = record { form = Message message; writable = writable; is = t.0; access = t.1; same = refl }
  tells_form answers.NotNdef t = tells_fault container.NotNdef t
  tells_form answers.Version t = tells_fault container.Version t
  tells_form answers.NoRead t = tells_fault container.NoRead t
  tells_form answers.Sectors t = tells_fault container.Sectors t
  tells_form answers.BadSize t = tells_fault container.BadSize t
  tells_form answers.NoMessageTlv t = record { form = NoMessageTlv; writable = false; is = t; access = tt; same = refl }
  tells_form answers.BadTlv t = record { form = BadTlv; writable = false; is = t; access = tt; same = refl }
  tells_form answers.Done t = absurd t
  tells_form (answers.Store bytes) t = absurd t
  tells_form (answers.Inbox messages) t = absurd t
  tells_form (answers.Found devices crowd) t = absurd t
  tells_form (answers.Crowd tags) t = absurd t
  tells_form answers.T3None t = absurd t
  tells_form (answers.T3One id) t = absurd t
  tells_form answers.T3Crowd t = absurd t
  tells_form answers.Unfinished t = absurd t
  tells_form answers.Disturbed t = absurd t
  tells_form answers.FieldLost t = absurd t
  tells_form answers.NotFound t = absurd t
  tells_form answers.SixBad t = absurd t
  tells_form answers.Written t = absurd t
  tells_form (answers.Refused code) t = absurd t
  tells_form answers.ReadOnly t = absurd t
  tells_form (answers.TooLong room) t = absurd t
  tells_form answers.ShortMlc t = absurd t
  tells_form answers.WrongKind t = absurd t
  tells_form (answers.Linked link) t = absurd t
  tells_form answers.Success t = absurd t
  tells_form answers.Reject t = absurd t
  tells_form (answers.Value value) t = absurd t
  tells_form answers.NoValue t = absurd t
  tells_form answers.Excess t = absurd t
  tells_form answers.NotImplemented t = absurd t
  tells_form (answers.Sap sap) t = absurd t
  tells_form (answers.LinkEnded loss) t = absurd t
  tells_form (answers.Replies replies) t = absurd t
  tells_form (answers.Heard all) t = absurd t
  tells_form (answers.Puts done) t = absurd t
  tells_form answers.Unlinked t = absurd t
  tells_form answers.NoLink t = absurd t

  -- of a store that holds a message that one is told
  pub tells_held : (answer : Answer) (message : List ℕ) → IsStoreForm how size store (Message message) → Tells how size store answer → (writable : Bool) × (answer ≡ answers.Message message writable)
  tells_held answer message held t =
      let f = tells_form answer t in (f.writable, f.same ∙ ap (λ x. answer_by x f.writable) (one_store_form how size store f.form (Message message) f.is held))

  -- A store is told in one way.
  pub one_telling : (a b : Answer) → Tells how size store a → Tells how size store b → a ≡ b
  one_telling a b p q =
      let one = tells_form a p in
      let two = tells_form b q in
      let same : two.form ≡ one.form = one_store_form how size store two.form one.form two.is one.is in
      let access : AccessIf one.form two.writable = subst (λ f. AccessIf f two.writable) same two.access in
      one.same ∙ same_answer one.form one.writable two.writable one.access access ∙ sym (ap (λ f. answer_by f two.writable) same) ∙ sym two.same
