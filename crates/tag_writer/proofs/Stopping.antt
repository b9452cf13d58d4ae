-- How a phase stops.
use Rattle.std.proofs.Common.{◌≡◌, ◌⊎◌, inl, inr, ℕ, suc, List, [], ◌∷◌, ◌++◌, take, true, Option, Some, None, refl, sym, ◌∙◌, ap, subst, append_assoc, append-nil}
use Rattle.std.specs.List.{AllByRecursion}
use Rattle.nfc_base.specs.Signal.{Signal}
use Rattle.nfc_base.specs.TagLinks.{LinkView, TagState, Leads, after_all, images}
use Rattle.nfc_base.specs.declared.tag_link.AskFault.{AskFault}
use Rattle.nfc_base.specs.declared.tag_link.AskFault.TheVariants as ask
use Rattle.nfc_base.proofs.Leading.{leads_on, rises_on}
use Rattle.tag_reader.specs.Calls.{GoesOn, ByLink}
use Rattle.tag_reader.specs.Survey.{surveyed}
use Rattle.tag_writer.specs.declared.fault.WriteFault.{WriteFault}
use Rattle.tag_writer.specs.declared.fault.WriteFault.TheVariants as fault
use Rattle.tag_writer.specs.declared.phase.Phase.{Phase}
use Rattle.tag_writer.specs.declared.work.Work.{Work}
use Rattle.tag_writer.specs.Puts.{Put, put_into, after_puts, commands_of}
use Rattle.tag_writer.specs.Place.{Takes}
use Rattle.tag_writer.specs.WriteAsked.{ArePuts, all_puts, refusal_in, refused_by, up_to_refused}
use Rattle.tag_writer.specs.Law.{IsEmptied, last_store, LeavesStore}
use Rattle.tag_writer.specs.Faults.{IsWriteFault, IsRefusal, is_told, ending_by}
use Rattle.tag_writer.specs.Puttings.{of_link, IsPutOf, Rejects, Loses, FailsBy, BreaksOff}
use Rattle.tag_writer.specs.Phases.{WriteJob, Since, IsAt, made_at, next_at}
use Rattle.tag_writer.specs.Ends.{asked_for, StopsSince, StopsAt, Stands}
use Rattle.tag_writer.proofs.Calming.{went_makes, link_on, Left, left_makes}
use Rattle.tag_writer.proofs.Asking.{last_snoc, up_to_at, refused_at, commands_append, asked_behind}
use Rattle.tag_writer.proofs.Doing.{Does}
use Rattle.tag_writer.proofs.Places.{after_append}
use Rattle.tag_writer.proofs.Tags.{IsUnder, under_makes, store_makes, can_do}
use Rattle.tag_writer.proofs.Jobs.{all_front, all_rest, next_all, under_at, phase_split}
use Rattle.tag_writer.proofs.Going.{since_makes, three_on, Kinds, Same, last_image, answer_at}
use Rattle.tag_writer.proofs.Fronts.{front_empty, kind_next, front_stands}

-- A part of the writes was made, and the next failed.
pub record Stop (phase : Phase) (j : WriteJob) (old new : LinkView) (e : WriteFault) (off : BreaksOff j.how old (next_at phase j) new e) : Type 0 where
  pub under : IsUnder j.how j.size j.store off.at
  pub does : Does j.how off.at.state off.next (off.at.step off.at.state off.next.command)
  pub store : off.at.state.store ≡ after_puts j.store (made_at phase j ++ off.front)

pub stop_at : (phase : Phase) (j : WriteJob) (work : Work) (old new : LinkView) (e : WriteFault) → IsAt phase j work old → (off : BreaksOff j.how old (next_at phase j) new e)
    → Stop phase j old new e off
stop_at phase j work old new e at off =
    let P : Put → Type 0 = IsPutOf j.how j.size j.store in
    let all : AllByRecursion P (off.front ++ off.next ∷ off.rest) = subst (AllByRecursion P) off.split (next_all phase j at.serves) in
    let front : AllByRecursion P off.front = all_front P off.front (off.next ∷ off.rest) all in
    let before : IsUnder j.how j.size j.store old = under_at phase j work old at in
    let under : IsUnder j.how j.size j.store off.at = under_makes j.how j.size j.store old off.at off.front before front off.makes in
    record {
      under = under;
      does = (can_do j.how j.size j.store off.at off.next under.tag under.near under.like (all_rest P off.front (off.next ∷ off.rest) all).0).does;
      store = store_makes j.how j.size j.store old off.at off.front before front off.makes ∙ ap (λ s. after_puts s off.front) at.store
          ∙ sym (after_append j.store (made_at phase j) off.front);
    }

-- the store that the next write leaves, done or not
put_store : (phase : Phase) (j : WriteJob) (old new : LinkView) (e : WriteFault) (off : BreaksOff j.how old (next_at phase j) new e) → Stop phase j old new e off
    → put_into off.at.state.store off.next ≡ after_puts j.store (made_at phase j ++ off.front ++ off.next ∷ [])
put_store phase j old new e off s =
    ap (λ t. put_into t off.next) s.store
    ∙ sym (after_append j.store (made_at phase j ++ off.front) (off.next ∷ []))

lost_store : (phase : Phase) (j : WriteJob) (old new : LinkView) (e : WriteFault) (off : BreaksOff j.how old (next_at phase j) new e) → Stop phase j old new e off →
    ((off.at.step off.at.state off.next.command).after.store ≡ off.at.state.store)
    ⊎ ((off.at.step off.at.state off.next.command).after.store ≡ put_into off.at.state.store off.next)
lost_store phase j old new e off s = by_refusal (refusal_in j.how (off.at.step off.at.state off.next.command).answer) refl
  where
    by_refusal : (o : Option ℕ) → refusal_in j.how (off.at.step off.at.state off.next.command).answer ≡ o →
        ((off.at.step off.at.state off.next.command).after.store ≡ off.at.state.store)
        ⊎ ((off.at.step off.at.state off.next.command).after.store ≡ put_into off.at.state.store off.next)
    by_refusal None h = inr (ap (λ t. t.store) (s.does.done h))
    by_refusal (Some code) h = inl (ap (λ t. t.store) (s.does.refused code h))

no_refusal : (f : AskFault) → IsRefusal (of_link f) → ⊥
no_refusal ask.FieldLost r = r
no_refusal ask.SixBad r = r
no_refusal ask.Memory r = r
no_refusal ask.Protocol r = r

-- what is left
pub stops_at : (phase : Phase) (j : WriteJob) (work : Work) (old new : LinkView) (e : WriteFault) → IsAt phase j work old → BreaksOff j.how old (next_at phase j) new e → StopsAt phase j old new e
stops_at phase j work old new e at off = by_fault off.fails
  where
    s : Stop phase j old new e off
    s = stop_at phase j work old new e at off

    left : Left j.how old off.at off.front
    left = left_makes j.how old off.at off.front off.makes

    refuses : (code : ℕ) → Rejects j.how off.at new off.next.command code → refusal_in j.how (old.step (after_all old.step old.state (commands_of off.front)) off.next.command).answer ≡ Some code
    refuses code r =
        sym (ap (λ st. refusal_in j.how (st off.at.state off.next.command).answer) left.step ∙ ap (λ t. refusal_in j.how (old.step t off.next.command).answer) left.state) ∙ r.1

    by_fault : FailsBy j.how off.at new off.next.command e → StopsAt phase j old new e
    by_fault (inl r) =
        let state : new.state ≡ off.at.state = r.2.0.state ∙ s.does.refused r.0 r.2.1 in
        let store : new.state.store ≡ after_puts j.store (made_at phase j ++ off.front) = ap (λ t. t.store) state ∙ s.store in
        record {
          front = off.front;
          next = off.next;
          rest = off.rest;
          split = off.split;
          accepted = left.accepted;
          cause = inl (r.0, r.1, refuses r.0 r.2);
          refused = λ is. (store, subst (Stands phase j) (sym store) (front_stands phase j at.serves off.front off.rest off.next off.split));
          lost = inl store;
        }
    by_fault (inr l) = record {
      front = off.front;
      next = off.next;
      rest = off.rest;
      split = off.split;
      accepted = left.accepted;
      cause = inr (l.0, l.1, link_on old off.at new l.0 (went_makes j.how old off.at off.front off.makes) l.2.by);
      refused = λ is. absurd (no_refusal l.0 (subst IsRefusal l.1 is));
      lost = elim l.2.store [
        | inl same ↦ inl (same ∙ s.store)
        | inr behind ↦ elim (lost_store phase j old new e off s) [ inl same ↦ inl (behind ∙ same ∙ s.store) | inr put ↦ inr (behind ∙ put ∙ put_store phase j old new e off s) ]
      ];
    }

-- Since the writing began.
module _ (phase : Phase) (j : WriteJob) (work : Work) (a old new : LinkView) (e : WriteFault) (at : IsAt phase j work old) (since : Since j a old (made_at phase j))
    (off : BreaksOff j.how old (next_at phase j) new e) where
  s : Stop phase j old new e off
  s = stop_at phase j work old new e at off

  abbrev v : LinkView
  v = off.at

  abbrev made : List Put
  made = made_at phase j ++ off.front

  abbrev c : Signal
  c = off.next.command

  until : Since j a v made
  until =
      let P : Put → Type 0 = IsPutOf j.how j.size j.store in
      let all : AllByRecursion P (off.front ++ off.next ∷ off.rest) = subst (AllByRecursion P) off.split (next_all phase j at.serves) in
      since_makes j a old v (made_at phase j) off.front since (under_at phase j work old at) (all_front P off.front (off.next ∷ off.rest) all) off.makes
      (λ n low. subst (λ t. IsEmptied j.how j.size j.place j.store (after_puts t (take (suc n) off.front))) (sym at.store) (front_empty phase j at.serves off.front off.rest off.next off.split n low))

  -- all writes, from those that were made on
  split_all : (rest : List Put) × (all_puts j.parts ≡ made ++ off.next ∷ rest)
  split_all =
      let h = phase_split phase j in (
        off.rest ++ h.0,
        h.1 ∙ ap (λ ps. (made_at phase j ++ ps) ++ h.0) off.split ∙ ap (λ ps. ps ++ h.0) (sym (append_assoc (made_at phase j) off.front (off.next ∷ off.rest)))
            ∙ append_assoc made (off.next ∷ off.rest) h.0,
      )

  abbrev later : List Signal
  later = commands_of split_all.0

  whole : commands_of (all_puts j.parts) ≡ commands_of made ++ c ∷ later
  whole = ap commands_of split_all.1 ∙ commands_append made (off.next ∷ split_all.0)

  abbrev reached : TagState
  reached = after_all a.step (surveyed j.how a.state) (commands_of made)

  list : asked_for j a until.read ≡ (until.read ++ commands_of made) ++ c ∷ asked_behind j.how a.step reached c later
  list =
      ap (λ cs. until.read ++ up_to_refused j.how a.step (surveyed j.how a.state) cs) whole
      ∙ ap (λ cs. until.read ++ cs) (up_to_at j.how a.step (surveyed j.how a.state) (commands_of made) c later until.accepted)
      ∙ sym (append_assoc until.read (commands_of made) (c ∷ asked_behind j.how a.step reached c later))

  store_now : a.state.store ≡ j.store
  store_now = until.store

  kinds : Kinds j v.state.store (v.step v.state c).after.store
  kinds = elim (lost_store phase j old new e off s) [
    | inl same ↦ Same same
    | inr put ↦ subst (Kinds j v.state.store)
        (sym (put ∙ put_store phase j old new e off s ∙ ap (after_puts j.store) (append_assoc (made_at phase j) off.front (off.next ∷ []))
        ∙ after_append j.store (made_at phase j) (off.front ++ off.next ∷ [])))
        (kind_next phase j v.state.store at.serves off.front off.rest off.next off.split)
  ]

  -- a refusal
  by_reject : (code : ℕ) → Rejects j.how v new c code → StopsSince j a new (fault.Refused code)
  by_reject code x =
      let state : new.state ≡ v.state = x.0.state ∙ s.does.refused code x.1 in
      let more : List Signal = until.more ++ x.0.obeyed.more in
      let leads : Leads a new more = leads_on a v new until.more x.0.obeyed.more until.leads x.0.obeyed.leads in
      let told : refusal_in j.how (a.step reached c).answer ≡ Some code = ap (refusal_in j.how) (sym (answer_at j a v made c until)) ∙ x.1 in
      let ends : asked_for j a until.read ≡ (until.read ++ commands_of made) ++ c ∷ [] = list ∙ rw told refl in
      let answered : new.answered ≡ a.answered ++ ((until.read ++ commands_of made) ++ c ∷ []) =
      x.0.answered ∙ ap (λ ys. ys ++ c ∷ []) until.answered ∙ append_assoc a.answered (until.read ++ commands_of made) (c ∷ []) in
      let goes_on : GoesOn a new = record { over = x.0.goes_on.over; lit = x.0.goes_on.lit; counts = x.0.goes_on.counts ∙ until.goes_on.counts } in
      let final : last_store j.store (images a more) ≡ v.state.store = last_image a new j.store more leads ∙ ap (λ t. t.store) state in
      record {
        more = more;
        leads = leads;
        passes = record {
          three = three_on j a v new made c until x.0.obeyed kinds;
          leaves = elim until.now [
            | inl was ↦ inl (final ∙ was.0)
            | inr empty ↦ inr (subst (IsEmptied j.how j.size j.place j.store) (sym final) empty)
          ];
        };
        rises = rises_on a v new until.rises x.0.obeyed.rises;
        asked = record {
          read = until.read;
          all = until.all;
          has = record {
            asked = (until.read ++ commands_of made) ++ c ∷ [];
            rest = [];
            split = ends ∙ sym (append-nil ((until.read ++ commands_of made) ++ c ∷ []));
            answered = answered;
            last = inl (x.0.last ∙ sym (last_snoc a.last (until.read ++ commands_of made) c), goes_on.over ∙ sym until.begun);
          };
        };
        told = λ t. (record { read = until.read; all = until.all; answered = answered ∙ ap (λ ys. a.answered ++ ys) (sym ends) }, goes_on);
        cause = record {
          place = j.place;
          takes = subst (λ t. Takes j.how j.size t j.message j.place) (sym store_now) at.serves.takes;
          parts = j.parts;
          are = subst (λ t. ArePuts j.how j.size t j.message j.parts) (sym store_now) at.serves.are;
          refused = ap (refused_by j.how a.step (surveyed j.how a.state)) whole ∙ refused_at j.how a.step (surveyed j.how a.state) (commands_of made) c later until.accepted ∙ rw told refl;
        };
      }

  -- the link ended
  caused : (f : AskFault) → ByLink v new f → ByLink a new f
  caused f by = link_on a v new f (record { rises = until.rises; link = inr until.goes_on }) by

  fault_of : (f : AskFault) → ByLink a new f → IsWriteFault j.how j.size j.message a new (of_link f)
  fault_of ask.FieldLost by = by
  fault_of ask.SixBad by = by
  fault_of ask.Memory by = inr by
  fault_of ask.Protocol by = by

  never_told : (f : AskFault) → {A : Type 0} → is_told (of_link f) ≡ true → A
  never_told ask.FieldLost t = absurd cc
  never_told ask.SixBad t = absurd cc
  never_told ask.Memory t = absurd cc
  never_told ask.Protocol t = absurd cc

  stopped_by : (f : AskFault) → (xs : List (List ℕ)) → LeavesStore j.how j.size j.message j.place j.store (ending_by (of_link f)) (last_store j.store xs)
  stopped_by ask.FieldLost xs = tt
  stopped_by ask.SixBad xs = tt
  stopped_by ask.Memory xs = tt
  stopped_by ask.Protocol xs = tt

  by_lost : (f : AskFault) → Loses v new c f → StopsSince j a new (of_link f)
  by_lost f x =
      let more : List Signal = until.more ++ x.obeyed.more in
      record {
        more = more;
        leads = leads_on a v new until.more x.obeyed.more until.leads x.obeyed.leads;
        passes = record { three = three_on j a v new made c until x.obeyed kinds; leaves = stopped_by f (images a more) };
        rises = rises_on a v new until.rises x.obeyed.rises;
        asked = record {
          read = until.read;
          all = until.all;
          has = record {
            asked = until.read ++ commands_of made;
            rest = c ∷ asked_behind j.how a.step reached c later;
            split = list;
            answered = x.answered ∙ until.answered;
            last = elim x.last [
              | inl same ↦ inl (same.0 ∙ until.last, same.1 ∙ until.goes_on.over ∙ sym until.begun)
              | inr next ↦ inr (c, asked_behind j.how a.step reached c later, refl, next)
            ];
          };
        };
        told = λ t. never_told f t;
        cause = fault_of f (caused f x.by);
      }

  pub stops_since : StopsSince j a new e
  stops_since = elim off.fails [
    | inl r ↦ subst (StopsSince j a new) (sym r.1) (by_reject r.0 r.2)
    | inr l ↦ subst (StopsSince j a new) (sym l.1) (by_lost l.0 l.2)
  ]
