-- What a read and a write of a Type 3 tag came to, and the answers that tell it.
use Rattle.std.proofs.Common.{◌≡◌, inl, inr, ℕ, ◌<◌, List, Bool, true, false, Option, Some, Ok, Err, refl, sym, ◌∙◌, ap, subst, arith}
use Rattle.std.specs.Prelude.{◌≤◌, ◌*◌, ◌==◌, get_or, length}
use Rattle.nfc_base.specs.declared.tag_link.AskFault.{AskFault}
use Rattle.nfc_base.specs.declared.tag_link.AskFault.TheVariants as asking
use Rattle.air_core.specs.World.{World}
use Rattle.air_core.specs.Conversation.{Moment}
use Rattle.t3t_tag.specs.Form as form
use Rattle.t3t_tag.specs.Attributes.{message_blocks}
use Rattle.t3t_tag.specs.Form.{IsSized, IsT3Form, T3Form, is_writable}
use Rattle.t3t_tag.specs.Store.{attributes}
use Rattle.t3t_tag.proofs.Forms.{has_one_form}
use Rattle.t3t_access.specs.declared.fault.T3Fault.TheVariants as fault
use Rattle.t3t_access.specs.declared.found.Found3.{Found3}
use Rattle.t3t_access.specs.OwnWriting.{IsTooSmall}
use Rattle.t3t_access.specs.Writing.{Takes, put_at}
use Rattle.bench_devices.specs.declared.device.Device.{Device}
use Rattle.bench_devices.specs.declared.polling.SeenKind.TheVariants as seen
use Rattle.bench_devices.specs.Device.{device_locks, device_store, kind_of}
use Rattle.bench_devices.specs.Kinds.{DeviceKind, T2Kind, T3Kind, T4Kind, PeerKind, T5Kind}
use Rattle.bench_devices.specs.Threes.{FailsThree, LeavesThree, ReadsThree, ShowsThree, ShowsThreeWrite, ShowsThreeWriteOf, Write3Law, WritesThree}
use Rattle.bench_world.specs.declared.entry.Answer.{Answer}
use Rattle.bench_world.specs.declared.entry.Answer.TheVariants as answers
use Rattle.bench_world.specs.Answering.{TellsFault}
use Rattle.bench_world.specs.Threes.{IfThree, MayEnd3, MayEndWrite3, ReadEnd3, TellsEnd3, TellsForm3, TellsRead3, TellsWrite3, WriteEnd3, end_told, told_three, written_three}
use Rattle.bench_world.proofs.tags.Telling.{tells_either, no_answer}

some_answer : (a b : Answer) → ◌≡◌ {A = Option Answer} (Some a) (Some b) → a ≡ b
some_answer a b e = cc

-- Where an answer tells of it, memory wasn't wanting.
pub read_fed : (r : ReadEnd3) (answer : Answer) → told_three r ≡ Some answer → r ≡ Err fault.Memory → ⊥
read_fed r answer told m = no_answer answer (sym (ap told_three m) ∙ told)

pub write_fed : (r : WriteEnd3) (answer : Answer) → written_three r ≡ Some answer → r ≡ Err fault.Memory → ⊥
write_fed r answer told m = no_answer answer (sym (ap written_three m) ∙ told)

-- The answer tells of the fault of a wait, ...
pub fails_read : (r : ReadEnd3) (answer : Answer) → told_three r ≡ Some answer → (e : AskFault) → FailsThree e r → TellsFault e answer
fails_read r answer told asking.FieldLost is = some_answer answer answers.FieldLost (sym told ∙ ap told_three is)
fails_read r answer told asking.SixBad is = some_answer answer answers.SixBad (sym told ∙ ap told_three is)
fails_read r answer told asking.Memory is = absurd is
fails_read r answer told asking.Protocol is = absurd is

pub fails_write : (r : WriteEnd3) (answer : Answer) → written_three r ≡ Some answer → (e : AskFault) → FailsThree e r → TellsFault e answer
fails_write r answer told asking.FieldLost is = some_answer answer answers.FieldLost (sym told ∙ ap written_three is)
fails_write r answer told asking.SixBad is = some_answer answer answers.SixBad (sym told ∙ ap written_three is)
fails_write r answer told asking.Memory is = absurd is
fails_write r answer told asking.Protocol is = absurd is

-- ... and only of such.
lost_read_at : (r : ReadEnd3) → told_three r ≡ Some answers.FieldLost → r ≡ Err fault.FieldLost
lost_read_at (Ok found) e = absurd cc
lost_read_at (Err fault.NotNdef) e = absurd cc
lost_read_at (Err fault.Version) e = absurd cc
lost_read_at (Err fault.BadSize) e = absurd cc
lost_read_at (Err (fault.Refused status)) e = absurd cc
lost_read_at (Err fault.FieldLost) e = refl
lost_read_at (Err fault.SixBad) e = absurd cc
lost_read_at (Err fault.Memory) e = absurd cc
lost_read_at (Err fault.ReadOnly) e = absurd cc
lost_read_at (Err (fault.TooLong most)) e = absurd cc
lost_read_at (Err fault.Protocol) e = absurd cc
lost_read_at (Err fault.Unfinished) e = absurd cc

pub lost_read : (r : ReadEnd3) (answer : Answer) → told_three r ≡ Some answer → answer ≡ answers.FieldLost → r ≡ Err fault.FieldLost
lost_read r answer told is = lost_read_at r (told ∙ ap Some is)

six_read_at : (r : ReadEnd3) → told_three r ≡ Some answers.SixBad → r ≡ Err fault.SixBad
six_read_at (Ok found) e = absurd cc
six_read_at (Err fault.NotNdef) e = absurd cc
six_read_at (Err fault.Version) e = absurd cc
six_read_at (Err fault.BadSize) e = absurd cc
six_read_at (Err (fault.Refused status)) e = absurd cc
six_read_at (Err fault.FieldLost) e = absurd cc
six_read_at (Err fault.SixBad) e = refl
six_read_at (Err fault.Memory) e = absurd cc
six_read_at (Err fault.ReadOnly) e = absurd cc
six_read_at (Err (fault.TooLong most)) e = absurd cc
six_read_at (Err fault.Protocol) e = absurd cc
six_read_at (Err fault.Unfinished) e = absurd cc

pub six_read : (r : ReadEnd3) (answer : Answer) → told_three r ≡ Some answer → answer ≡ answers.SixBad → r ≡ Err fault.SixBad
six_read r answer told is = six_read_at r (told ∙ ap Some is)

lost_write_at : (r : WriteEnd3) → written_three r ≡ Some answers.FieldLost → r ≡ Err fault.FieldLost
lost_write_at (Ok x) e = absurd cc
lost_write_at (Err fault.NotNdef) e = absurd cc
lost_write_at (Err fault.Version) e = absurd cc
lost_write_at (Err fault.BadSize) e = absurd cc
lost_write_at (Err (fault.Refused status)) e = absurd cc
lost_write_at (Err fault.FieldLost) e = refl
lost_write_at (Err fault.SixBad) e = absurd cc
lost_write_at (Err fault.Memory) e = absurd cc
lost_write_at (Err fault.ReadOnly) e = absurd cc
lost_write_at (Err (fault.TooLong most)) e = absurd cc
lost_write_at (Err fault.Protocol) e = absurd cc
lost_write_at (Err fault.Unfinished) e = absurd cc

pub lost_write : (r : WriteEnd3) (answer : Answer) → written_three r ≡ Some answer → answer ≡ answers.FieldLost → r ≡ Err fault.FieldLost
lost_write r answer told is = lost_write_at r (told ∙ ap Some is)

six_write_at : (r : WriteEnd3) → written_three r ≡ Some answers.SixBad → r ≡ Err fault.SixBad
six_write_at (Ok x) e = absurd cc
six_write_at (Err fault.NotNdef) e = absurd cc
six_write_at (Err fault.Version) e = absurd cc
six_write_at (Err fault.BadSize) e = absurd cc
six_write_at (Err (fault.Refused status)) e = absurd cc
six_write_at (Err fault.FieldLost) e = absurd cc
six_write_at (Err fault.SixBad) e = refl
six_write_at (Err fault.Memory) e = absurd cc
six_write_at (Err fault.ReadOnly) e = absurd cc
six_write_at (Err (fault.TooLong most)) e = absurd cc
six_write_at (Err fault.Protocol) e = absurd cc
six_write_at (Err fault.Unfinished) e = absurd cc

pub six_write : (r : WriteEnd3) (answer : Answer) → written_three r ≡ Some answer → answer ≡ answers.SixBad → r ≡ Err fault.SixBad
six_write r answer told is = six_write_at r (told ∙ ap Some is)

-- no other fault is one of a wait
read_refused : (status : ℕ) (e : AskFault) → FailsThree {X = Found3} e (Err (fault.Refused status)) → ⊥
read_refused status asking.FieldLost h = cc
read_refused status asking.SixBad h = cc
read_refused status asking.Memory h = h
read_refused status asking.Protocol h = h

read_protocol : (e : AskFault) → FailsThree {X = Found3} e (Err fault.Protocol) → ⊥
read_protocol asking.FieldLost h = cc
read_protocol asking.SixBad h = cc
read_protocol asking.Memory h = h
read_protocol asking.Protocol h = h

read_readonly : (e : AskFault) → FailsThree {X = Found3} e (Err fault.ReadOnly) → ⊥
read_readonly asking.FieldLost h = cc
read_readonly asking.SixBad h = cc
read_readonly asking.Memory h = h
read_readonly asking.Protocol h = h

read_toolong : (most : ℕ) (e : AskFault) → FailsThree {X = Found3} e (Err (fault.TooLong most)) → ⊥
read_toolong most asking.FieldLost h = cc
read_toolong most asking.SixBad h = cc
read_toolong most asking.Memory h = h
read_toolong most asking.Protocol h = h

write_protocol : (e : AskFault) → FailsThree {X = Unit {0}} e (Err fault.Protocol) → ⊥
write_protocol asking.FieldLost h = cc
write_protocol asking.SixBad h = cc
write_protocol asking.Memory h = h
write_protocol asking.Protocol h = h

write_unfinished : (e : AskFault) → FailsThree {X = Unit {0}} e (Err fault.Unfinished) → ⊥
write_unfinished asking.FieldLost h = cc
write_unfinished asking.SixBad h = cc
write_unfinished asking.Memory h = h
write_unfinished asking.Protocol h = h

-- So an answer tells of each read, ...
pub may_read : (id : List ℕ) (old new : Moment (World Device)) (d : Device) (r : ReadEnd3) → ((r ≡ Err fault.Memory → ⊥) → ReadsThree id old new d r) → MayEnd3 r
may_read id old new d (Ok found) reads = inl refl
may_read id old new d (Err fault.NotNdef) reads = inl refl
may_read id old new d (Err fault.Version) reads = inl refl
may_read id old new d (Err fault.BadSize) reads = inl refl
may_read id old new d (Err (fault.Refused status)) reads =
    absurd (let r = reads (λ e. cc) in tells_either (ShowsThree (device_store d)) FailsThree (Err (fault.Refused status)) ⊥ (λ s. s) (read_refused status) seen.T2 r.commands r.asked.notes r.ends)
may_read id old new d (Err fault.FieldLost) reads = inl refl
may_read id old new d (Err fault.SixBad) reads = inl refl
may_read id old new d (Err fault.Memory) reads = inr refl
may_read id old new d (Err fault.ReadOnly) reads =
    absurd (let r = reads (λ e. cc) in tells_either (ShowsThree (device_store d)) FailsThree (Err fault.ReadOnly) ⊥ (λ s. s) (read_readonly) seen.T2 r.commands r.asked.notes r.ends)
may_read id old new d (Err (fault.TooLong most)) reads =
    absurd (let r = reads (λ e. cc) in tells_either (ShowsThree (device_store d)) FailsThree (Err (fault.TooLong most)) ⊥ (λ s. s) (read_toolong most) seen.T2 r.commands r.asked.notes r.ends)
may_read id old new d (Err fault.Protocol) reads =
    absurd (let r = reads (λ e. cc) in tells_either (ShowsThree (device_store d)) FailsThree (Err fault.Protocol) ⊥ (λ s. s) (read_protocol) seen.T2 r.commands r.asked.notes r.ends)
may_read id old new d (Err fault.Unfinished) reads = inl refl

-- ... and of each write.
pub may_write : (id : List ℕ) (old new : Moment (World Device)) (d : Device) (message : List ℕ) (r : WriteEnd3) → ((r ≡ Err fault.Memory → ⊥) → WritesThree id old new d message r) → MayEndWrite3 r
may_write id old new d message (Ok x) writes = inl refl
may_write id old new d message (Err fault.NotNdef) writes = inl refl
may_write id old new d message (Err fault.Version) writes = inl refl
may_write id old new d message (Err fault.BadSize) writes = inl refl
may_write id old new d message (Err (fault.Refused status)) writes = inl refl
may_write id old new d message (Err fault.FieldLost) writes = inl refl
may_write id old new d message (Err fault.SixBad) writes = inl refl
may_write id old new d message (Err fault.Memory) writes = inr refl
may_write id old new d message (Err fault.ReadOnly) writes = inl refl
may_write id old new d message (Err (fault.TooLong most)) writes = inl refl
may_write id old new d message (Err fault.Protocol) writes =
    absurd (let w = writes (λ e. cc) in tells_either (ShowsThreeWriteOf message d) FailsThree (Err fault.Protocol) ⊥ (λ s. s) write_protocol seen.T2 w.told.commands w.told.asked.notes w.told.ends)
may_write id old new d message (Err fault.Unfinished) writes =
    absurd (let w = writes (λ e. cc) in tells_either (ShowsThreeWriteOf message d) FailsThree (Err fault.Unfinished) ⊥ (λ s. s) write_unfinished seen.T2 w.told.commands w.told.asked.notes w.told.ends)

-- What the law of a write leaves is told alike.
leaves_as : (message old : List ℕ) (stores : List (List ℕ)) (r : WriteEnd3) (answer : Answer) → written_three r ≡ Some answer → LeavesThree message old stores r
    → LeavesThree message old stores (end_told answer)
leaves_as message old stores (Ok x) answer t h = subst (λ a. LeavesThree message old stores (end_told a)) (some_answer answers.Written answer t) h
leaves_as message old stores (Err fault.NotNdef) answer t h = subst (λ a. LeavesThree message old stores (end_told a)) (some_answer answers.NotNdef answer t) h
leaves_as message old stores (Err fault.Version) answer t h = subst (λ a. LeavesThree message old stores (end_told a)) (some_answer answers.Version answer t) h
leaves_as message old stores (Err fault.BadSize) answer t h = subst (λ a. LeavesThree message old stores (end_told a)) (some_answer answers.BadSize answer t) h
leaves_as message old stores (Err (fault.Refused status)) answer t h = subst (λ a. LeavesThree message old stores (end_told a)) (some_answer (answers.Refused status) answer t) h
leaves_as message old stores (Err fault.FieldLost) answer t h = subst (λ a. LeavesThree message old stores (end_told a)) (some_answer answers.FieldLost answer t) tt
leaves_as message old stores (Err fault.SixBad) answer t h = subst (λ a. LeavesThree message old stores (end_told a)) (some_answer answers.SixBad answer t) tt
leaves_as message old stores (Err fault.Memory) answer t h = absurd (no_answer answer t)
leaves_as message old stores (Err fault.ReadOnly) answer t h = subst (λ a. LeavesThree message old stores (end_told a)) (some_answer answers.ReadOnly answer t) h
leaves_as message old stores (Err (fault.TooLong most)) answer t h = subst (λ a. LeavesThree message old stores (end_told a)) (some_answer (answers.TooLong most) answer t) h
leaves_as message old stores (Err fault.Protocol) answer t h = absurd (no_answer answer t)
leaves_as message old stores (Err fault.Unfinished) answer t h = absurd (no_answer answer t)

pub law_as : (message old : List ℕ) (stores : List (List ℕ)) (r : WriteEnd3) (answer : Answer) → written_three r ≡ Some answer → Write3Law message old r stores
    → Write3Law message old (end_told answer) stores
law_as message old stores r answer t law = record { three = law.three; leaves = leaves_as message old stores r answer t law.leaves }

-- A store is told in one way: it has one form.
pub same_form : (store : List ℕ) (f g : T3Form) → IsT3Form store f → IsT3Form store g → f ≡ g
same_form store f g p q = (has_one_form store).one f p ∙ sym ((has_one_form store).one g q)

form_told : T3Form → Bool → Option Answer
form_told form.NotNdef writable = Some answers.NotNdef
form_told form.Version writable = Some answers.Version
form_told form.BadSize writable = Some answers.BadSize
form_told form.Unfinished writable = Some answers.Unfinished
form_told (form.Message m) writable = Some (answers.Message m writable)

record ToldForm (store : List ℕ) (answer : Answer) : Type 0 where
  pub form : T3Form
  pub is : IsT3Form store form
  pub told : form_told form (is_writable store) ≡ Some answer

form_of : (store : List ℕ) (r : ReadEnd3) (answer : Answer) → ShowsThree store r → told_three r ≡ Some answer → ToldForm store answer
unfolding form_told
form_of store (Ok found) answer shows told = record { form = form.Message found.message.items; is = shows.0; told = ap (λ w. Some (answers.Message found.message.items w)) (sym shows.1) ∙ told }
form_of store (Err fault.NotNdef) answer shows told = record { form = form.NotNdef; is = shows; told = told }
form_of store (Err fault.Version) answer shows told = record { form = form.Version; is = shows; told = told }
form_of store (Err fault.BadSize) answer shows told = record { form = form.BadSize; is = shows; told = told }
form_of store (Err (fault.Refused status)) answer shows told = absurd shows
form_of store (Err fault.FieldLost) answer shows told = absurd shows
form_of store (Err fault.SixBad) answer shows told = absurd shows
form_of store (Err fault.Memory) answer shows told = absurd shows
form_of store (Err fault.ReadOnly) answer shows told = absurd shows
form_of store (Err (fault.TooLong most)) answer shows told = absurd shows
form_of store (Err fault.Protocol) answer shows told = absurd shows
form_of store (Err fault.Unfinished) answer shows told = record { form = form.Unfinished; is = shows; told = told }

-- the form that a message tells, and what an unfinished write does
pub message_form : (store m : List ℕ) (w : Bool) → TellsForm3 store (answers.Message m w) → IsT3Form store (form.Message m)
unfolding form_told
message_form store m w t = by_form (form_of store t.end (answers.Message m w) t.shows t.told).form (form_of store t.end (answers.Message m w) t.shows t.told).is
    (form_of store t.end (answers.Message m w) t.shows t.told).told
  where
    by_form : (f : T3Form) → IsT3Form store f → form_told f (is_writable store) ≡ Some (answers.Message m w) → IsT3Form store (form.Message m)
    by_form form.NotNdef is e = absurd cc
    by_form form.Version is e = absurd cc
    by_form form.BadSize is e = absurd cc
    by_form form.Unfinished is e = absurd cc
    by_form (form.Message n) is e = let same : n ≡ m = cc in subst (λ k. IsT3Form store (form.Message k)) same is

pub begun_form : (store : List ℕ) → TellsForm3 store answers.Unfinished → IsT3Form store form.Unfinished
unfolding form_told
begun_form store t = by_form (form_of store t.end answers.Unfinished t.shows t.told).form (form_of store t.end answers.Unfinished t.shows t.told).is
    (form_of store t.end answers.Unfinished t.shows t.told).told
  where
    by_form : (f : T3Form) → IsT3Form store f → form_told f (is_writable store) ≡ Some answers.Unfinished → IsT3Form store form.Unfinished
    by_form form.NotNdef is e = absurd cc
    by_form form.Version is e = absurd cc
    by_form form.BadSize is e = absurd cc
    by_form form.Unfinished is e = is
    by_form (form.Message n) is e = absurd cc

-- a store that holds a message tells it
pub held_form : (store m : List ℕ) (answer : Answer) → IsT3Form store (form.Message m) → TellsForm3 store answer → (w : Bool) × (answer ≡ answers.Message m w)
unfolding form_told
held_form store m answer holds t =
    let x = form_of store t.end answer t.shows t.told in
    let told : form_told (form.Message m) (is_writable store) ≡ Some answer = ap (λ f. form_told f (is_writable store)) (same_form store (form.Message m) x.form holds x.is) ∙ x.told in
    (is_writable store, some_answer answer (answers.Message m (is_writable store)) (sym told))

one_form_told : (store : List ℕ) (a b : Answer) → TellsForm3 store a → TellsForm3 store b → a ≡ b
one_form_told store a b p q =
    let x = form_of store p.end a p.shows p.told in
    let y = form_of store q.end b q.shows q.told in
    some_answer a b (sym x.told ∙ ap (λ f. form_told f (is_writable store)) (same_form store x.form y.form x.is y.is) ∙ y.told)

pub one_read_told : (d : Device) (a b : Answer) → TellsRead3 d a → TellsRead3 d b → a ≡ b
one_read_told d a b p q = by_kind (kind_of d) p q
  where
    by_kind : (k : DeviceKind) → IfThree k (TellsForm3 (device_store d) a) ⊥ → IfThree k (TellsForm3 (device_store d) b) ⊥ → a ≡ b
    by_kind T2Kind x y = absurd x
    by_kind T3Kind x y = one_form_told (device_store d) a b x y
    by_kind T4Kind x y = absurd x
    by_kind PeerKind x y = absurd x
    by_kind T5Kind x y = absurd x

-- So is what a write of it comes to: by the form, else by whether a message may be written, and by its length, else by the first block
-- that is locked.
module _ (store : List ℕ) (locked : List Bool) (message : List ℕ) where
  abbrev Shows : WriteEnd3 → Type 0
  Shows r = ShowsThreeWrite store locked message r

  not_ndef : IsSized (attributes store) → IsT3Form store form.NotNdef → ⊥
  not_ndef sized is = let sum = sized.known.summed in cc

  not_version : IsSized (attributes store) → IsT3Form store form.Version → ⊥
  not_version sized is = is.1 sized.known.version

  not_size : IsSized (attributes store) → IsT3Form store form.BadSize → ⊥
  not_size sized is = sized.sized is.1

  free_of : Takes (attributes store) message → is_writable store ≡ true
  free_of t = ap (λ n. n == 1) t.free

  free_or_not : (v : Bool) → v ≡ true → v ≡ false → ⊥
  free_or_not v p q = cc

  not_long : (most : ℕ) → Takes (attributes store) message → IsTooSmall store message most → ⊥
  not_long most t s =
      let long : most < length message = s.long in
      let most' : most ≡ 16 * message_blocks (attributes store) = s.most' in
      let room : length message ≤ 16 * message_blocks (attributes store) = t.room in
      omega (arith, long, most', room)

  one_end : (r q : WriteEnd3) → Shows r → Shows q → r ≡ q
  one_end (Ok x) (Ok y) p q = refl
  one_end (Ok x) (Err fault.NotNdef) p q = absurd (not_ndef p.0.sized q)
  one_end (Ok x) (Err fault.Version) p q = absurd (not_version p.0.sized q)
  one_end (Ok x) (Err fault.BadSize) p q = absurd (not_size p.0.sized q)
  one_end (Ok x) (Err fault.ReadOnly) p q = absurd (free_or_not (is_writable store) (free_of p.0) q.1)
  one_end (Ok x) (Err (fault.TooLong n)) p q = absurd (not_long n p.0 q)
  one_end (Ok x) (Err (fault.Refused n)) p q = absurd (free_or_not (get_or locked (put_at (attributes store) message q.2).block false) q.4 (p.1 q.2 q.3))
  one_end (Err fault.NotNdef) (Ok y) p q = absurd (not_ndef q.0.sized p)
  one_end (Err fault.NotNdef) (Err fault.NotNdef) p q = refl
  one_end (Err fault.NotNdef) (Err fault.Version) p q = absurd (let clash : form.NotNdef ≡ form.Version = same_form store form.NotNdef form.Version p q in cc)
  one_end (Err fault.NotNdef) (Err fault.BadSize) p q = absurd (let clash : form.NotNdef ≡ form.BadSize = same_form store form.NotNdef form.BadSize p q in cc)
  one_end (Err fault.NotNdef) (Err fault.ReadOnly) p q = absurd (not_ndef q.0 p)
  one_end (Err fault.NotNdef) (Err (fault.TooLong n)) p q = absurd (not_ndef q.sized p)
  one_end (Err fault.NotNdef) (Err (fault.Refused n)) p q = absurd (not_ndef q.1.sized p)
  one_end (Err fault.Version) (Ok y) p q = absurd (not_version q.0.sized p)
  one_end (Err fault.Version) (Err fault.NotNdef) p q = absurd (let clash : form.Version ≡ form.NotNdef = same_form store form.Version form.NotNdef p q in cc)
  one_end (Err fault.Version) (Err fault.Version) p q = refl
  one_end (Err fault.Version) (Err fault.BadSize) p q = absurd (let clash : form.Version ≡ form.BadSize = same_form store form.Version form.BadSize p q in cc)
  one_end (Err fault.Version) (Err fault.ReadOnly) p q = absurd (not_version q.0 p)
  one_end (Err fault.Version) (Err (fault.TooLong n)) p q = absurd (not_version q.sized p)
  one_end (Err fault.Version) (Err (fault.Refused n)) p q = absurd (not_version q.1.sized p)
  one_end (Err fault.BadSize) (Ok y) p q = absurd (not_size q.0.sized p)
  one_end (Err fault.BadSize) (Err fault.NotNdef) p q = absurd (let clash : form.BadSize ≡ form.NotNdef = same_form store form.BadSize form.NotNdef p q in cc)
  one_end (Err fault.BadSize) (Err fault.Version) p q = absurd (let clash : form.BadSize ≡ form.Version = same_form store form.BadSize form.Version p q in cc)
  one_end (Err fault.BadSize) (Err fault.BadSize) p q = refl
  one_end (Err fault.BadSize) (Err fault.ReadOnly) p q = absurd (not_size q.0 p)
  one_end (Err fault.BadSize) (Err (fault.TooLong n)) p q = absurd (not_size q.sized p)
  one_end (Err fault.BadSize) (Err (fault.Refused n)) p q = absurd (not_size q.1.sized p)
  one_end (Err fault.ReadOnly) (Ok y) p q = absurd (free_or_not (is_writable store) (free_of q.0) p.1)
  one_end (Err fault.ReadOnly) (Err fault.NotNdef) p q = absurd (not_ndef p.0 q)
  one_end (Err fault.ReadOnly) (Err fault.Version) p q = absurd (not_version p.0 q)
  one_end (Err fault.ReadOnly) (Err fault.BadSize) p q = absurd (not_size p.0 q)
  one_end (Err fault.ReadOnly) (Err fault.ReadOnly) p q = refl
  one_end (Err fault.ReadOnly) (Err (fault.TooLong n)) p q = absurd (free_or_not (is_writable store) q.free p.1)
  one_end (Err fault.ReadOnly) (Err (fault.Refused n)) p q = absurd (free_or_not (is_writable store) (free_of q.1) p.1)
  one_end (Err (fault.TooLong m)) (Ok y) p q = absurd (not_long m q.0 p)
  one_end (Err (fault.TooLong m)) (Err fault.NotNdef) p q = absurd (not_ndef p.sized q)
  one_end (Err (fault.TooLong m)) (Err fault.Version) p q = absurd (not_version p.sized q)
  one_end (Err (fault.TooLong m)) (Err fault.BadSize) p q = absurd (not_size p.sized q)
  one_end (Err (fault.TooLong m)) (Err fault.ReadOnly) p q = absurd (free_or_not (is_writable store) p.free q.1)
  one_end (Err (fault.TooLong m)) (Err (fault.TooLong n)) p q = ap (λ k. Err (fault.TooLong k)) (p.most' ∙ sym q.most')
  one_end (Err (fault.TooLong m)) (Err (fault.Refused n)) p q = absurd (not_long m q.1 p)
  one_end (Err (fault.Refused m)) (Ok y) p q = absurd (free_or_not (get_or locked (put_at (attributes store) message p.2).block false) p.4 (q.1 p.2 p.3))
  one_end (Err (fault.Refused m)) (Err fault.NotNdef) p q = absurd (not_ndef p.1.sized q)
  one_end (Err (fault.Refused m)) (Err fault.Version) p q = absurd (not_version p.1.sized q)
  one_end (Err (fault.Refused m)) (Err fault.BadSize) p q = absurd (not_size p.1.sized q)
  one_end (Err (fault.Refused m)) (Err fault.ReadOnly) p q = absurd (free_or_not (is_writable store) (free_of p.1) q.1)
  one_end (Err (fault.Refused m)) (Err (fault.TooLong n)) p q = absurd (not_long n p.1 q)
  one_end (Err (fault.Refused m)) (Err (fault.Refused n)) p q = ap (λ k. Err (fault.Refused k)) (p.0 ∙ sym q.0)
  one_end (Err fault.FieldLost) q p s = absurd p
  one_end (Err fault.SixBad) q p s = absurd p
  one_end (Err fault.Memory) q p s = absurd p
  one_end (Err fault.Protocol) q p s = absurd p
  one_end (Err fault.Unfinished) q p s = absurd p
  one_end r (Err fault.FieldLost) p s = absurd s
  one_end r (Err fault.SixBad) p s = absurd s
  one_end r (Err fault.Memory) p s = absurd s
  one_end r (Err fault.Protocol) p s = absurd s
  one_end r (Err fault.Unfinished) p s = absurd s

  one_end_told : (a b : Answer) → TellsEnd3 message store locked a → TellsEnd3 message store locked b → a ≡ b
  one_end_told a b p q = some_answer a b (sym p.told ∙ ap written_three (one_end p.end q.end p.shows q.shows) ∙ q.told)

pub one_write_told : (message : List ℕ) (d : Device) (a b : Answer) → TellsWrite3 message d a → TellsWrite3 message d b → a ≡ b
one_write_told message d a b p q = by_kind (kind_of d) p q
  where
    by_kind : (k : DeviceKind) → IfThree k (TellsEnd3 message (device_store d) (device_locks d) a) ⊥ → IfThree k (TellsEnd3 message (device_store d) (device_locks d) b) ⊥ → a ≡ b
    by_kind T2Kind x y = absurd x
    by_kind T3Kind x y = one_end_told (device_store d) (device_locks d) message a b x y
    by_kind T4Kind x y = absurd x
    by_kind PeerKind x y = absurd x
    by_kind T5Kind x y = absurd x
