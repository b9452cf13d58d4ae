-- A store has one place for a message, and none where its form is another or it doesn't take the message.
use Rattle.std.proofs.Common.{◌≡◌, inl, inr, ℕ, ◌-◌, ◌≤◌, Bool, drop, List, [], ◌++◌, length, true, false, nat_lt, if◌then◌else◌, Ok, Err, refl, sym, ◌∙◌, ap, subst, arith}
use Rattle.std.specs.Prelude.{Result}
use Rattle.std.specs.List.{flat_map}
use Rattle.std.proofs.lemmas.Bool.{cases_lt}
use Rattle.std.proofs.lemmas.List.{length-append}
use Rattle.nfc_base.specs.TagLinks.{LinkView}
use Rattle.tlv_area.specs.declared.space.Space.{Space}
use Rattle.tlv_area.specs.declared.container.ContainerFault.{ContainerFault}
use Rattle.tlv_area.specs.Layout.{Tlv, LiesIn, reserved_by, free, ndef_message}
use Rattle.tlv_area.specs.Form.{Form, Message, Faulty, NoMessageTlv, BadTlv, Comes, Next, End, Fault, Item, Stops, next}
use Rattle.tlv_area.specs.Stores.{IsFormBy}
use Rattle.tlv_area.proofs.OneForm.{one_layout, next_there, nonempty}
use Rattle.tag_reader.specs.declared.how.How.{How}
use Rattle.tag_reader.specs.declared.how.How.TheVariants.{T2, T4, T5}
use Rattle.tag_reader.specs.declared.fault.ReadFault.{ReadFault}
use Rattle.tag_reader.specs.declared.fault.ReadFault.TheVariants as read
use Rattle.tag_reader.specs.Files.{file_in, message_length, message_in, file_form, t4_form}
use Rattle.tag_reader.specs.Kinds.{IsStoreForm}
use Rattle.tag_reader.specs.Access.{IsAccess}
use Rattle.tag_reader.specs.Reading.{IsReadFault}
use Rattle.tag_reader.specs.Survey.{written_area}
use Rattle.tag_reader.proofs.Accesses.{one_access}
use Rattle.tag_writer.specs.declared.fault.WriteFault.{WriteFault}
use Rattle.tag_writer.specs.declared.fault.WriteFault.TheVariants as fault
use Rattle.tag_writer.specs.Place.{Place, IsAreaPlace, IsFilePlace, IsPlaceBy, IsPlaceIn, TakesNot, tail_place}
use Rattle.tag_writer.specs.Faults.{is_told}
use Rattle.tag_writer.specs.Planning.{of_read, IsDeclined}

-- an area with a TLV isn't empty
no_room : (r : ℕ → Bool) (at end : ℕ) → end ≤ at → free r at end ≡ []
no_room r at end low = let none : end - at ≡ 0 = omega (arith, low) in rw none refl

pub order_of : (space : Space) (store message : List ℕ) (place : Place) → IsAreaPlace space store message place → space.start ≤ space.end
order_of space store message place p = elim (cases_lt space.start space.end) [
  | inl up ↦ omega (arith, up)
  | inr down ↦
      absurd (let first = nonempty store p.t p.lies in
      let none : flat_map (λ u. u.at) p.ts ++ (p.t.at ++ p.after) ≡ [] = p.layout.addresses ∙ no_room (reserved_by space.control p.ts) space.start space.end (omega (arith, down)) in
      let long = length-append (flat_map (λ u. u.at) p.ts) (p.t.at ++ p.after) in
      let more = length-append p.t.at p.after in
      omega (arith, ap length none, long, more, ap length first.2))
]

pub stops_here : (store : List ℕ) (t : Tlv) (after : List ℕ) → LiesIn store t → t.kind ≡ ndef_message → Stops (next store (t.at ++ after))
stops_here store t after lies kind = subst Stops (sym (next_there store t after lies)) kind

by_area : (r : Result Space ContainerFault) (store message : List ℕ) (p q : Place) → IsPlaceBy r store message p → IsPlaceBy r store message q → p ≡ q
by_area (Err f) store message p q a b = absurd a
by_area (Ok space) store message p q a b =
    let one = one_layout space store (order_of space store message p a) a.ts b.ts (a.t.at ++ a.after) (b.t.at ++ b.after) a.layout (stops_here store a.t a.after a.lies a.kind) b.layout
    (stops_here store b.t b.after b.lies b.kind) in
    a.place' ∙ ap (λ rest. tail_place (drop 1 rest) message) one.1 ∙ sym b.place'

pub one_place : (how : How) (size : ℕ) (store message : List ℕ) (p q : Place) → IsPlaceIn how size store message p → IsPlaceIn how size store message q → p ≡ q
one_place T2 size store message p q a b = by_area (written_area T2 size store) store message p q a b
one_place T4 size store message p q a b = a.place' ∙ sym b.place'
one_place (T5 id) size store message p q a b = by_area (written_area (T5 id) size store) store message p q a b

-- where the area ends or is faulty before a message, there is no place for one
not_there : (space : Space) (store message : List ℕ) (p : Place) (what : Next) → IsAreaPlace space store message p → Stops what → ((t : Tlv) → what ≡ Item t → ⊥) → Comes space store what → ⊥
not_there space store message p what a stops other c =
    let one = one_layout space store (order_of space store message p a) a.ts c.0 (a.t.at ++ a.after) c.1 a.layout (stops_here store a.t a.after a.lies a.kind) c.2 (subst Stops (sym c.3) stops) in
    other a.t (sym c.3 ∙ ap (next store) (sym one.1) ∙ next_there store a.t a.after a.lies)

pub no_form : (r : Result Space ContainerFault) (store message : List ℕ) (p : Place) → IsPlaceBy r store message p → IsFormBy r store NoMessageTlv → ⊥
no_form (Err f) store message p a b = a
no_form (Ok space) store message p a b = not_there space store message p End a tt (λ t e. cc) b

pub bad_form : (r : Result Space ContainerFault) (store message : List ℕ) (p : Place) → IsPlaceBy r store message p → IsFormBy r store BadTlv → ⊥
bad_form (Err f) store message p a b = a
bad_form (Ok space) store message p a b = not_there space store message p Fault a tt (λ t e. cc) b

pub faulty_form : (r : Result Space ContainerFault) (store message : List ℕ) (p : Place) (f : ContainerFault) → IsPlaceBy r store message p → IsFormBy r store (Faulty f) → ⊥
faulty_form (Err e) store message p f a b = a
faulty_form (Ok space) store message p f a b = b

-- a file in which a message has a place holds one
pub file_message : (store message : List ℕ) (p : Place) → IsFilePlace store message p → t4_form store ≡ Message (message_in (file_in store))
file_message store message p is =
    let fits : nat_lt (is.map'.size - 2) (message_length (file_in store)) ≡ false = grind (arith, is.held) in
    ap (λ r. file_form r (file_in store)) is.names ∙ ap {B = Form} (λ (v : Bool). if v then BadTlv else Message (message_in (file_in store))) fits

-- what a form excludes
pub record Excludes (how : How) (size : ℕ) (store message : List ℕ) : Type 0 where
  pub none : IsStoreForm how size store NoMessageTlv → TakesNot how size store message
  pub bad : IsStoreForm how size store BadTlv → TakesNot how size store message
  pub faulty : (f : ContainerFault) → IsStoreForm how size store (Faulty f) → TakesNot how size store message

pub excludes : (how : How) (size : ℕ) (store message : List ℕ) → Excludes how size store message
excludes T2 size store message = record {
  none = λ form p t. no_form (written_area T2 size store) store message p t.holds form;
  bad = λ form p t. bad_form (written_area T2 size store) store message p t.holds form;
  faulty = λ f form p t. faulty_form (written_area T2 size store) store message p f t.holds form;
}
excludes T4 size store message = record {
  none = λ form p t. (let other : NoMessageTlv ≡ Message (message_in (file_in store)) = form ∙ file_message store message p t.holds in cc);
  bad = λ form p t. (let other : BadTlv ≡ Message (message_in (file_in store)) = form ∙ file_message store message p t.holds in cc);
  faulty = λ f form p t. (let other : Faulty f ≡ Message (message_in (file_in store)) = form ∙ file_message store message p t.holds in cc);
}
excludes (T5 id) size store message = record {
  none = λ form p t. no_form (written_area (T5 id) size store) store message p t.holds form;
  bad = λ form p t. bad_form (written_area (T5 id) size store) store message p t.holds form;
  faulty = λ f form p t. faulty_form (written_area (T5 id) size store) store message p f t.holds form;
}

pub access_once : (how : How) (size : ℕ) (store : List ℕ) → IsAccess how size store true → IsAccess how size store false → ⊥
access_once how size store a b = let no_ : true ≡ false = one_access how size store true false a b in cc

-- a fault that a survey tells
pub read_takes_not : (how : How) (size : ℕ) (message : List ℕ) (a b : LinkView) (e : ReadFault) → IsReadFault how size a.state.store a b e → is_told (of_read e) ≡ true
    → TakesNot how size a.state.store message
read_takes_not how size message a b read.NotNdef is t = (excludes how size a.state.store message).faulty _ is
read_takes_not how size message a b read.Version is t = (excludes how size a.state.store message).faulty _ is
read_takes_not how size message a b read.NoRead is t = (excludes how size a.state.store message).faulty _ is
read_takes_not how size message a b read.Sectors is t = (excludes how size a.state.store message).faulty _ is
read_takes_not how size message a b read.BadSize is t = (excludes how size a.state.store message).faulty _ is
read_takes_not how size message a b read.NoMessageTlv is t = (excludes how size a.state.store message).none is
read_takes_not how size message a b read.BadTlv is t = (excludes how size a.state.store message).bad is
read_takes_not how size message a b (read.Refused code) is t = absurd is
read_takes_not how size message a b read.FieldLost is t = absurd cc
read_takes_not how size message a b read.SixBad is t = absurd cc
read_takes_not how size message a b read.Memory is t = absurd cc
read_takes_not how size message a b read.Protocol is t = absurd cc

-- a fault of planning
pub declined_takes_not : (how : How) (size : ℕ) (store message : List ℕ) (e : WriteFault) → IsDeclined how size store message e → is_told e ≡ true → TakesNot how size store message
declined_takes_not how size store message fault.ReadOnly is t = λ p takes. access_once how size store takes.free is.1
declined_takes_not how size store message (fault.TooLong n) is t =
    λ p takes. (let room = ap (λ q. q.room) (one_place how size store message p is.0 takes.holds is.1) in omega (arith, takes.fits, room, is.3, is.4))
declined_takes_not how size store message fault.ShortMlc is t = λ p takes. is.4 takes.pieces
declined_takes_not how size store message fault.Memory is t = absurd cc
declined_takes_not how size store message fault.NotNdef is t = absurd is
declined_takes_not how size store message fault.Version is t = absurd is
declined_takes_not how size store message fault.NoRead is t = absurd is
declined_takes_not how size store message fault.Sectors is t = absurd is
declined_takes_not how size store message fault.BadSize is t = absurd is
declined_takes_not how size store message fault.NoMessageTlv is t = absurd is
declined_takes_not how size store message fault.BadTlv is t = absurd is
declined_takes_not how size store message (fault.Refused code) is t = absurd is
declined_takes_not how size store message fault.FieldLost is t = absurd is
declined_takes_not how size store message fault.SixBad is t = absurd is
declined_takes_not how size store message fault.Protocol is t = absurd is
