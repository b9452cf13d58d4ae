-- A write as a whole: what a job that was carried out, or stopped, says of it.
use Rattle.std.proofs.Common.{◌≡◌, inl, inr, ℕ, List, [], true, refl, sym, ◌∙◌, subst, append-nil}
use Rattle.std.specs.List.{AllByRecursion}
use Rattle.nfc_base.specs.Signal.{Signal}
use Rattle.nfc_base.specs.TagLinks.{LinkView, images}
use Rattle.tag_reader.specs.declared.how.How.{How}
use Rattle.tag_reader.specs.Asked.{ToWrite, IsAskedFor}
use Rattle.tag_reader.specs.Calls.{Stays, GoesOn, HasSurveyed, HasSurveyedAll}
use Rattle.tag_writer.specs.declared.fault.WriteFault.{WriteFault}
use Rattle.tag_writer.specs.declared.fault.WriteFault.TheVariants as fault
use Rattle.tag_writer.specs.Place.{Place, Takes, TakesNot}
use Rattle.tag_writer.specs.WriteAsked.{Parts, ArePuts, AreWrites, IsWriteAsked}
use Rattle.tag_writer.specs.Law.{Ending, Written, LeavesStore, last_store, Passes, WriteLaw, IsWritten}
use Rattle.tag_writer.specs.Faults.{IsWriteFault, ending_by, is_told}
use Rattle.tag_writer.specs.Phases.{WriteJob, Serves}
use Rattle.tag_writer.specs.Ends.{StopsSince, IsOpened, AsksJob, AsksAllOf, asked_for}
use Rattle.tag_writer.specs.Writing.{Keeps, HasWritten, TakesFew, HasFew, HasWrittenAll, HasSucceeded}
use Rattle.tag_writer.proofs.Going.{last_image}
use Rattle.tag_writer.proofs.OnePlace.{one_place}

-- a write that stopped
pub record Stops (how : How) (size : ℕ) (message : List ℕ) (a b : LinkView) (e : WriteFault) : Type 0 where
  pub keeps : Keeps how size message (ending_by e) a b
  pub asked : HasWritten how size message a b
  pub few : HasFew how size message a b
  pub whole : is_told e ≡ true → HasWrittenAll how size message a b
  pub goes_on : is_told e ≡ true → GoesOn a b
  pub cause : IsWriteFault how size message a b e

-- one that succeeded
pub record Succeeds (how : How) (size : ℕ) (message : List ℕ) (a b : LinkView) : Type 0 where
  pub keeps : Keeps how size message Written a b
  pub asked : HasWritten how size message a b
  pub few : HasFew how size message a b
  pub whole : HasWrittenAll how size message a b
  pub goes_on : GoesOn a b
  pub succeeded : HasSucceeded how size message a b

module _ (j : WriteJob) (a b : LinkView) (serves : Serves j) (store : a.state.store ≡ j.store) where
  law_of : (ending : Ending) (xs : List (List ℕ)) → Passes j.how j.size j.store j.message j.place ending xs → WriteLaw j.how j.size a.state.store j.message ending xs
  law_of ending xs passes = subst (λ s. WriteLaw j.how j.size s j.message ending xs) (sym store) (record {
    takes = λ p t. subst (λ q. Passes j.how j.size j.store j.message q ending xs) (one_place j.how j.size j.store j.message j.place p serves.takes.holds t.holds) passes;
    stays = λ none. absurd (none j.place serves.takes);
  })

  asked_of : (read : List Signal) → IsAskedFor ToWrite j.how j.size j.store read → IsWriteAsked j.how j.size a.step a.state j.message (asked_for j a read)
  asked_of read all = record {
    read = read;
    all = subst (λ s. IsAskedFor ToWrite j.how j.size s read) (sym store) all;
    parts = j.parts;
    writes = subst (λ s. AreWrites j.how j.size s j.message j.parts) (sym store) (record { takes = λ p t. serves.are; none = λ none. absurd (none j.place serves.takes) });
    list = refl;
  }

  written_of : AsksJob j a b → HasWritten j.how j.size j.message a b
  written_of asks = inr (record { commands = asked_for j a asks.read; asked = asked_of asks.read asks.all; has = asks.has })

  all_of : AsksAllOf j a b → HasWrittenAll j.how j.size j.message a b
  all_of asks = record { commands = asked_for j a asks.read; asked = asked_of asks.read asks.all; answered = asks.answered }

  few_of : HasFew j.how j.size j.message a b
  few_of = inr (subst (λ s. TakesFew j.how j.size s j.message) (sym store) (record { place = j.place; takes = serves.takes; parts = j.parts; are = serves.are; few = serves.few }))

  pub stops : (e : WriteFault) → StopsSince j a b e → Stops j.how j.size j.message a b e
  stops e s = record {
    keeps = record { more = s.more; leads = s.leads; law = law_of (ending_by e) (images a s.more) s.passes; rises = s.rises };
    asked = written_of s.asked;
    few = few_of;
    whole = λ t. all_of (s.told t).0;
    goes_on = λ t. (s.told t).1;
    cause = s.cause;
  }

  pub succeeds : IsOpened j a b → IsWritten j.how j.size j.message j.place j.store b.state.store → Succeeds j.how j.size j.message a b
  succeeds s holds = record {
    keeps = record { more = s.more; leads = s.leads; law = law_of Written (images a s.more) s.passes; rises = s.rises };
    asked = written_of s.asked;
    few = few_of;
    whole = all_of s.whole;
    goes_on = s.goes_on;
    succeeded = record {
      writes = record {
        place = j.place;
        takes = subst (λ t. Takes j.how j.size t j.message j.place) (sym store) serves.takes;
        parts = j.parts;
        are = subst (λ t. ArePuts j.how j.size t j.message j.parts) (sym store) serves.are;
        refused = s.accepted;
      };
      holds = subst (λ t. IsWritten j.how j.size j.message j.place t b.state.store) (sym store) holds;
    };
  }

-- The job is that of a message.
pub stops_for : (j : WriteJob) (how : How) (size : ℕ) (message : List ℕ) (a b : LinkView) (e : WriteFault) → j.how ≡ how → j.size ≡ size → j.message ≡ message → Serves j → a.state.store ≡ j.store
    → StopsSince j a b e → Stops how size message a b e
stops_for j how size message a b e kind sized new serves store s =
    subst (λ h. Stops h size message a b e) kind (subst (λ n. Stops j.how n message a b e) sized (subst (λ m. Stops j.how j.size m a b e) new (stops j a b serves store e s)))

pub succeeds_for : (j : WriteJob) (how : How) (size : ℕ) (message : List ℕ) (a b : LinkView) → j.how ≡ how → j.size ≡ size → j.message ≡ message → Serves j → a.state.store ≡ j.store → IsOpened j a b →
    IsWritten j.how j.size j.message j.place j.store b.state.store → Succeeds how size message a b
succeeds_for j how size message a b kind sized new serves store s holds =
    subst (λ h. Succeeds h size message a b) kind (subst (λ n. Succeeds j.how n message a b) sized (subst (λ m. Succeeds j.how j.size m a b) new (succeeds j a b serves store s holds)))

-- Nothing was written.
old_left : (how : How) (size : ℕ) (message : List ℕ) (place : Place) (store s : List ℕ) (e : WriteFault) → s ≡ store → LeavesStore how size message place store (ending_by e) s
old_left how size message place store s fault.NotNdef is = tt
old_left how size message place store s fault.Version is = tt
old_left how size message place store s fault.NoRead is = tt
old_left how size message place store s fault.Sectors is = tt
old_left how size message place store s fault.BadSize is = tt
old_left how size message place store s fault.NoMessageTlv is = tt
old_left how size message place store s fault.BadTlv is = tt
old_left how size message place store s (fault.Refused code) is = inl is
old_left how size message place store s fault.FieldLost is = tt
old_left how size message place store s fault.SixBad is = tt
old_left how size message place store s fault.Memory is = tt
old_left how size message place store s fault.ReadOnly is = tt
old_left how size message place store s (fault.TooLong n) is = tt
old_left how size message place store s fault.ShortMlc is = tt
old_left how size message place store s fault.Protocol is = tt

abbrev no_parts : Parts
no_parts = record { close = []; fill = []; last = [] }

pub unwritten : (how : How) (size : ℕ) (message : List ℕ) (a b : LinkView) (e : WriteFault) → Stays a b → HasSurveyed how size a.state.store a b
    → (is_told e ≡ true → HasSurveyedAll how size a.state.store a b) → (is_told e ≡ true → GoesOn a b) →
    (is_told e ≡ true → TakesNot how size a.state.store message) → IsWriteFault how size message a b e → Stops how size message a b e
unwritten how size message a b e stays asked whole goes_on untaken cause =
    let xs : List (List ℕ) = images a stays.more in
    let olds : AllByRecursion (λ s. s ≡ a.state.store) xs = (refl, stays.images) in
    record {
      keeps = record {
        more = stays.more;
        leads = stays.leads;
        law = record {
          takes = λ p t. record {
            three = record { before = xs; during = []; behind = []; joined = sym (append-nil xs); olds = olds; empties = tt; news = tt };
            leaves = old_left how size message p a.state.store (last_store a.state.store xs) e (last_image a b a.state.store stays.more stays.leads ∙ stays.store);
          };
          stays = λ none. olds;
        };
        rises = stays.rises;
      };
      asked = inl asked;
      few = inl asked;
      whole = λ t.
          (let w = whole t in
          let none = untaken t in
          record {
            commands = w.commands;
            asked = record {
              read = w.commands;
              all = w.all;
              parts = no_parts;
              writes = record { takes = λ p x. absurd (none p x); none = λ n. refl };
              list = sym (append-nil w.commands);
            };
            answered = w.answered;
          });
      goes_on = goes_on;
      cause = cause;
    }
