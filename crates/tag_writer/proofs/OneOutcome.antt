-- A write has one outcome that isn't its link's, and a store that holds a message has one place for another.
use Rattle.std.proofs.Common.{◌≡◌, ℕ, ◌-◌, ◌≤◌, Bool, true, false, nat_lt, if◌then◌else◌, List, length, Option, Some, None, refl, sym, ◌∙◌, ap, arith}
use Rattle.std.specs.Prelude.{Result, Ok, Err}
use Rattle.nfc_base.specs.Signal.{Signal}
use Rattle.nfc_base.specs.TagLinks.{TagState, TagStep, LinkView}
use Rattle.t5t_tag.proofs.Stores.{size_of_block}
use Rattle.tlv_area.specs.declared.space.Space.{Space}
use Rattle.tlv_area.specs.declared.container.ContainerFault.{ContainerFault}
use Rattle.tlv_area.specs.declared.container.ContainerFault.TheVariants as container
use Rattle.tlv_area.specs.declared.container.FileMap.{FileMap}
use Rattle.tlv_area.specs.Containers.{t2_container, t4_container}
use Rattle.tlv_area.specs.Form.{Form, Faulty, Message, NoMessageTlv, BadTlv}
use Rattle.tlv_area.specs.Stores.{four_bytes, cut_by, t5_area, IsFormBy, IsOneForm}
use Rattle.tlv_area.specs.Tail.{message_tail}
use Rattle.tlv_area.proofs.FrontContainers.{area_of_five}
use Rattle.tlv_area.proofs.OneNext.{one_form_by}
use Rattle.tag_reader.specs.declared.how.How.{How}
use Rattle.tag_reader.specs.declared.how.How.TheVariants.{T2, T4, T5}
use Rattle.tag_reader.specs.Files.{container_in, file_in, message_length, message_in, file_form}
use Rattle.tag_reader.specs.Kinds.{IsStore, IsStoreForm}
use Rattle.tag_reader.specs.Survey.{written_area}
use Rattle.tag_reader.proofs.OneForm.{t2_is_area}
use Rattle.tag_writer.specs.declared.fault.WriteFault.{WriteFault}
use Rattle.tag_writer.specs.declared.fault.WriteFault.TheVariants as fault
use Rattle.tag_writer.specs.Place.{Place, IsFilePlace, IsPlaceBy, IsPlaceIn, tail_place, file_place}
use Rattle.tag_writer.specs.WriteAsked.{Writes}
use Rattle.tag_writer.specs.Faults.{IsWriteFault, is_told}
use Rattle.tag_writer.specs.Outcome.{IsReadOnly, IsTooLong, IsShort, IsOutcome}
use Rattle.tag_writer.proofs.OnePlace.{one_place, file_message, no_form, bad_form, faulty_form, access_once}
use Rattle.tag_writer.proofs.OneWrite.{one_refusal}

-- a store has one form
pub one_store_form : (how : How) (size : ℕ) (store : List ℕ) → IsStore how size store → IsOneForm (IsStoreForm how size store)
one_store_form T2 size store is = one_form_by (t2_container (four_bytes store 12)) store (t2_is_area (four_bytes store 12))
one_store_form T4 size store is = λ f g a b. a ∙ sym b
one_store_form (T5 id) size store is =
    let sized = size_of_block size is.sized in
    one_form_by (cut_by (t5_area size store) (length store)) store (area_of_five size (length store) store (omega (arith, sized.2)) (omega arith))

-- a form other than a message's
abbrev pub IsBare : Form → Type 0
IsBare (Message m) = ⊥
IsBare f = Unit {0}

by_area : (r : Result Space ContainerFault) (store message : List ℕ) (p : Place) (f : Form) → IsPlaceBy r store message p → IsBare f → IsFormBy r store f → ⊥
by_area r store message p (Faulty e) there bare form = faulty_form r store message p e there form
by_area r store message p NoMessageTlv there bare form = no_form r store message p there form
by_area r store message p BadTlv there bare form = bad_form r store message p there form
by_area r store message p (Message m) there bare form = bare

not_message : (f : Form) (m : List ℕ) → IsBare f → f ≡ Message m → ⊥
not_message (Message n) m bare e = bare
not_message (Faulty f) m bare e = cc
not_message NoMessageTlv m bare e = cc
not_message BadTlv m bare e = cc

pub bare_form : (how : How) (size : ℕ) (store message : List ℕ) (p : Place) (f : Form) → IsPlaceIn how size store message p → IsBare f → IsStoreForm how size store f → ⊥
bare_form T2 size store message p f there bare form = by_area (written_area T2 size store) store message p f there bare form
bare_form T4 size store message p f there bare form = not_message f (message_in (file_in store)) bare (form ∙ file_message store message p there)
bare_form (T5 id) size store message p f there bare form = by_area (written_area (T5 id) size store) store message p f there bare form

-- where there is a message there is a place for another, and the other way round
placed_by : (r : Result Space ContainerFault) (store old message : List ℕ) → IsFormBy r store (Message old) → (place : Place) × IsPlaceBy r store message place
placed_by (Err f) store old message form = absurd cc
placed_by (Ok space) store old message form = (
  tail_place (message_tail (form.1).at form.2) message,
  record { ts = form.0; t = form.1; after = form.2; layout = form.3; lies = form.4; kind = form.5; place' = refl },
)

file_by : (r : Result FileMap ContainerFault) (store old message : List ℕ) → t4_container (container_in store) ≡ r → Message old ≡ file_form r (file_in store)
    → (place : Place) × IsFilePlace store message place
file_by (Err f) store old message names form = absurd cc
file_by (Ok map') store old message names form = (
  file_place store message,
  record { map' = map'; names = names; held = by_test (nat_lt (map'.size - 2) (message_length (file_in store))) refl form; place' = refl },
)
  where
    by_test : (v : Bool) → nat_lt (map'.size - 2) (message_length (file_in store)) ≡ v → Message old ≡ (if v then BadTlv else Message (message_in (file_in store)))
        → message_length (file_in store) ≤ map'.size - 2
    by_test true e f = absurd cc
    by_test false e f = grind (arith, e)

pub some_place : (how : How) (size : ℕ) (store old message : List ℕ) → IsStoreForm how size store (Message old) → (place : Place) × IsPlaceIn how size store message place
some_place T2 size store old message form = placed_by (written_area T2 size store) store old message form
some_place T4 size store old message form = file_by (t4_container (container_in store)) store old message refl form
some_place (T5 id) size store old message form = placed_by (written_area (T5 id) size store) store old message form

held_by : (r : Result Space ContainerFault) (store message : List ℕ) (p : Place) → IsPlaceBy r store message p → (old : List ℕ) × IsFormBy r store (Message old)
held_by (Err f) store message p there = absurd there
held_by (Ok space) store message p there = (there.t.value, (there.ts, there.t, there.after, there.layout, there.lies, there.kind, refl))

pub held_there : (how : How) (size : ℕ) (store message : List ℕ) (p : Place) → IsPlaceIn how size store message p → (old : List ℕ) × IsStoreForm how size store (Message old)
held_there T2 size store message p there = held_by (written_area T2 size store) store message p there
held_there T4 size store message p there = (message_in (file_in store), sym (file_message store message p there))
held_there (T5 id) size store message p there = held_by (written_area (T5 id) size store) store message p there

-- why a write ends so
data Why : Type 0 where
  ByForm : Form → Why
  Closed : Why
  Long : ℕ → Why
  Short : Why
  Made : Option ℕ → Why

module _ (how : How) (size : ℕ) (step : TagState → Signal → TagStep) (s : TagState) (message : List ℕ) where
  abbrev IsWhy : Why → Type 0
  IsWhy (ByForm f) = IsStoreForm how size s.store f × IsBare f
  IsWhy Closed = IsReadOnly how size s.store message
  IsWhy (Long n) = IsTooLong how size s.store message n
  IsWhy Short = IsShort how size s.store message
  IsWhy (Made code) = Writes how size step s message code

  -- a place, and the form of a store without one
  clash : (f : Form) (p : Place) → IsWhy (ByForm f) → IsPlaceIn how size s.store message p → ⊥
  clash f p form there = bare_form how size s.store message p f there form.1 form.0

  rooms : (p q : Place) → IsPlaceIn how size s.store message p → IsPlaceIn how size s.store message q → p.room ≡ q.room
  rooms p q a b = ap (λ x. x.room) (one_place how size s.store message p q a b)

  one_why : IsOneForm (IsStoreForm how size s.store) → (a b : Why) → IsWhy a → IsWhy b → a ≡ b
  one_why is (ByForm f) (ByForm g) x y = ap ByForm (is f g x.0 y.0)
  one_why is (ByForm f) Closed x y = absurd (clash f y.0.0 x y.0.1)
  one_why is (ByForm f) (Long n) x y = absurd (clash f y.0 x y.1)
  one_why is (ByForm f) Short x y = absurd (clash f y.0 x y.1)
  one_why is (ByForm f) (Made c) x y = absurd (clash f y.place x y.takes.holds)
  one_why is Closed (ByForm f) x y = absurd (clash f x.0.0 y x.0.1)
  one_why is (Long n) (ByForm f) x y = absurd (clash f x.0 y x.1)
  one_why is Short (ByForm f) x y = absurd (clash f x.0 y x.1)
  one_why is (Made c) (ByForm f) x y = absurd (clash f x.place y x.takes.holds)
  one_why is Closed Closed x y = refl
  one_why is Closed (Long n) x y = absurd (access_once how size s.store y.2 x.1)
  one_why is Closed Short x y = absurd (access_once how size s.store y.2 x.1)
  one_why is Closed (Made c) x y = absurd (access_once how size s.store y.takes.free x.1)
  one_why is (Long n) Closed x y = absurd (access_once how size s.store x.2 y.1)
  one_why is Short Closed x y = absurd (access_once how size s.store x.2 y.1)
  one_why is (Made c) Closed x y = absurd (access_once how size s.store x.takes.free y.1)
  one_why is (Long n) (Long m) x y = ap Long (x.3 ∙ rooms x.0 y.0 x.1 y.1 ∙ sym y.3)
  one_why is (Long n) Short x y = absurd (let same = rooms x.0 y.0 x.1 y.1 in omega (arith, x.3, x.4, y.3, same))
  one_why is (Long n) (Made c) x y = absurd (let same = rooms x.0 y.place x.1 y.takes.holds in omega (arith, x.3, x.4, y.takes.fits, same))
  one_why is Short (Long n) x y = absurd (let same = rooms x.0 y.0 x.1 y.1 in omega (arith, y.3, y.4, x.3, same))
  one_why is (Made c) (Long n) x y = absurd (let same = rooms x.place y.0 x.takes.holds y.1 in omega (arith, y.3, y.4, x.takes.fits, same))
  one_why is Short Short x y = refl
  one_why is Short (Made c) x y = absurd (x.4 y.takes.pieces)
  one_why is (Made c) Short x y = absurd (y.4 x.takes.pieces)
  one_why is (Made c) (Made d) x y = ap Made (one_refusal how size step s message c d x y)

  -- what is told then
  abbrev told_by : Why → Result Unit WriteFault
  told_by (ByForm (Faulty container.NotNdef)) = Err fault.NotNdef
  told_by (ByForm (Faulty container.Version)) = Err fault.Version
  told_by (ByForm (Faulty container.NoRead)) = Err fault.NoRead
  told_by (ByForm (Faulty container.Sectors)) = Err fault.Sectors
  told_by (ByForm (Faulty container.BadSize)) = Err fault.BadSize
  told_by (ByForm NoMessageTlv) = Err fault.NoMessageTlv
  told_by (ByForm BadTlv) = Err fault.BadTlv
  told_by (ByForm (Message m)) = Ok tt
  told_by Closed = Err fault.ReadOnly
  told_by (Long n) = Err (fault.TooLong n)
  told_by Short = Err fault.ShortMlc
  told_by (Made None) = Ok tt
  told_by (Made (Some code)) = Err (fault.Refused code)

  why_of : (r : Result Unit WriteFault) → IsOutcome how size step s message r → (w : Why) × IsWhy w × (r ≡ told_by w)
  why_of (Ok done) is = (Made None, is, refl)
  why_of (Err fault.NotNdef) is = (ByForm (Faulty container.NotNdef), (is, tt), refl)
  why_of (Err fault.Version) is = (ByForm (Faulty container.Version), (is, tt), refl)
  why_of (Err fault.NoRead) is = (ByForm (Faulty container.NoRead), (is, tt), refl)
  why_of (Err fault.Sectors) is = (ByForm (Faulty container.Sectors), (is, tt), refl)
  why_of (Err fault.BadSize) is = (ByForm (Faulty container.BadSize), (is, tt), refl)
  why_of (Err fault.NoMessageTlv) is = (ByForm NoMessageTlv, (is, tt), refl)
  why_of (Err fault.BadTlv) is = (ByForm BadTlv, (is, tt), refl)
  why_of (Err (fault.Refused code)) is = (Made (Some code), is, refl)
  why_of (Err fault.ReadOnly) is = (Closed, is, refl)
  why_of (Err (fault.TooLong n)) is = (Long n, is, refl)
  why_of (Err fault.ShortMlc) is = (Short, is, refl)
  why_of (Err fault.FieldLost) is = absurd is
  why_of (Err fault.SixBad) is = absurd is
  why_of (Err fault.Memory) is = absurd is
  why_of (Err fault.Protocol) is = absurd is

  -- where the store has one form
  pub one_outcome_by : (r q : Result Unit WriteFault) → IsOneForm (IsStoreForm how size s.store) → IsOutcome how size step s message r → IsOutcome how size step s message q → r ≡ q
  one_outcome_by r q is a b =
      let x = why_of r a in
      let y = why_of q b in
      x.2 ∙ ap told_by (one_why is x.0 y.0 x.1 y.1) ∙ sym y.2

  pub one_outcome : (r q : Result Unit WriteFault) → IsStore how size s.store → IsOutcome how size step s message r → IsOutcome how size step s message q → r ≡ q
  one_outcome r q is a b = one_outcome_by r q (one_store_form how size s.store is) a b

-- what a write tells that isn't its link's is its outcome
pub told_outcome : (how : How) (size : ℕ) (message : List ℕ) (a b : LinkView) (e : WriteFault) → is_told e ≡ true → IsWriteFault how size message a b e
    → IsOutcome how size a.step a.state message (Err e)
told_outcome how size message a b fault.NotNdef t is = is
told_outcome how size message a b fault.Version t is = is
told_outcome how size message a b fault.NoRead t is = is
told_outcome how size message a b fault.Sectors t is = is
told_outcome how size message a b fault.BadSize t is = is
told_outcome how size message a b fault.NoMessageTlv t is = is
told_outcome how size message a b fault.BadTlv t is = is
told_outcome how size message a b (fault.Refused code) t is = is
told_outcome how size message a b fault.ReadOnly t is = is
told_outcome how size message a b (fault.TooLong n) t is = is
told_outcome how size message a b fault.ShortMlc t is = is
told_outcome how size message a b fault.FieldLost t is = absurd cc
told_outcome how size message a b fault.SixBad t is = absurd cc
told_outcome how size message a b fault.Memory t is = absurd cc
told_outcome how size message a b fault.Protocol t is = absurd cc
