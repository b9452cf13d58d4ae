-- An enquiry over any field, turn by turn.
use Rattle.std.proofs.Common.{◌≡◌, List, [], ◌∷◌, ◌++◌, Some, None, Result, Ok, Err, refl, sym, ◌∙◌, ap, subst}
use Rattle.nfc_base.specs.Signal.{Signal}
use Rattle.nfc_base.specs.declared.event.Heard.{Heard}
use Rattle.nfc_base.specs.declared.event.Event.TheVariants.{Reset}
use Rattle.air_core.specs.World.{Machine, reset_by}
use Rattle.air_core.specs.Turn.{Air, moment, world, after_event}
use Rattle.air_core.specs.Conversation as air
use Rattle.air_core.specs.Conversation.{Note, Lit, Got, Lost, Next, Going, TurnsTo}
use Rattle.air_core.proofs.Turns.{going_start, going_reset, going_turn}
use Rattle.nfca_poll.specs.declared.fault.Picked.{Picked}
use Rattle.nfca_poll.specs.declared.fault.PollFault.{PollFault}
use Rattle.nfca_poll.specs.declared.fault.PollFault.TheVariants.{Nobody, Disturbed, FieldLost, Memory, NotFound, BadAnswer}
use Rattle.nfca_poll.specs.declared.seeking.Seeking.{Seeking}
use Rattle.nfca_poll.specs.declared.seeking.Seeking.TheVariants as seeks
use Rattle.nfca_poll.specs.Poll.{Seek, Ended, Outcome, seek_next}
use Rattle.nfca_poll.specs.Muted.{mute_air, AskEnds}
use Rattle.nfca_poll.specs.Enquiry.{Enquiry, Progress, Reaches, Loses, progress, due_of, enquiring, or_memory, answer_of, Enquires}
use Rattle.nfca_poll.specs.Seeking.{seek_of, request_of, seek_ended, outcome}

-- the request of a resolution
due_is : (q : Seeking) → seek_next (seek_of q) ≡ air.Asks (request_of q)
due_is (seeks.Calling n) = refl
due_is (seeks.Asking done known) = refl
due_is (seeks.Selecting done l) = refl

pub due_of_request : (q : Seeking) (f : Signal) → f ≡ request_of q → seek_next (seek_of q) ≡ air.Asks f
due_of_request q f e = due_is q ∙ ap air.Asks (sym e)

pub ended_is : (s : Seek) (o : Outcome) (r : Result Picked PollFault) → s ≡ Ended o → r ≡ outcome o → seek_ended s ≡ Some r
ended_is s o r e c = ap seek_ended e ∙ ap Some (sym c)

pub goes_on : (q : Seeking) → seek_ended (seek_of q) ≡ None
goes_on (seeks.Calling n) = refl
goes_on (seeks.Asking done known) = refl
goes_on (seeks.Selecting done l) = refl

module _ {S X : Type 0} (e : Enquiry S X) where
  no_state : (s : S) → ◌≡◌ {A = Progress S} Loses (Reaches s) → ⊥
  no_state s q = cc

  abbrev state_in : S → Progress S → S
  state_in d (Reaches s) = s
  state_in d Loses = d

  pub progress_got : (a : S) (ns : List Note) (s : S) (h : Heard) → progress e a ns ≡ Reaches s → progress e a (ns ++ Got h ∷ []) ≡ Reaches (e.step s h)
  progress_got a [] s h q = ap (λ r. Reaches (e.step (state_in a r) h)) q
  progress_got a (Lit ∷ ns) s h q = progress_got (e.light a) ns s h q
  progress_got a (Got g ∷ ns) s h q = progress_got (e.step a g) ns s h q
  progress_got a (Lost ∷ ns) s h q = absurd (no_state s q)

  pub progress_lit : (a : S) (ns : List Note) (s : S) → progress e a ns ≡ Reaches s → progress e a (ns ++ Lit ∷ []) ≡ Reaches (e.light s)
  progress_lit a [] s q = ap (λ r. Reaches (e.light (state_in a r))) q
  progress_lit a (Lit ∷ ns) s q = progress_lit (e.light a) ns s q
  progress_lit a (Got h ∷ ns) s q = progress_lit (e.step a h) ns s q
  progress_lit a (Lost ∷ ns) s q = absurd (no_state s q)

  pub progress_lost : (a : S) (ns : List Note) (s : S) → progress e a ns ≡ Reaches s → progress e a (ns ++ Lost ∷ []) ≡ Loses
  progress_lost a [] s q = refl
  progress_lost a (Lit ∷ ns) s q = progress_lost (e.light a) ns s q
  progress_lost a (Got g ∷ ns) s q = progress_lost (e.step a g) ns s q
  progress_lost a (Lost ∷ ns) s q = absurd (no_state s q)

  module _ {L : Type 0} (m : Machine L) where
    -- so far, from this field on, an enquiry has come
    pub record Reached (old now : Air L) (s : S) : Type 0 where
      pub notes : List Note
      pub going : Going (mute_air m) (enquiring e) (moment old) (moment now) notes
      pub at : progress e e.start notes ≡ Reaches s

    pub reached_start : (a : Air L) → Reached a a e.start
    reached_start a = record { notes = []; going = going_start (mute_air m) (enquiring e) (moment a); at = refl }

    pub reached_turn : (old now new : Air L) (s : S) (f : Signal) (h : Heard) → Reached old now s → e.next s ≡ air.Asks f → AskEnds m now f (Ok h) new → Reached old new (e.step s h)
    reached_turn old now new s f h r due t = record {
      notes = r.notes ++ Got h ∷ [];
      going = going_turn (mute_air m) (enquiring e) (moment old) (moment now) (moment new) f (Some h) r.notes r.going (ap (due_of e) r.at ∙ due) t.0;
      at = progress_got e.start r.notes s h r.at;
    }

    lost : (old now new : Air L) (s : S) (f : Signal) → Reached old now s → e.next s ≡ air.Asks f → TurnsTo (mute_air m) (moment now) (moment new) f None → Enquires e m old (Err FieldLost) new
    lost old now new s f r due t = record {
      notes = r.notes ++ Lost ∷ [];
      going = going_turn (mute_air m) (enquiring e) (moment old) (moment now) (moment new) f None r.notes r.going (ap (due_of e) r.at ∙ due) t;
      comes = ap (answer_of e) (sym (progress_lost e.start r.notes s r.at));
    }

    starved : (old now new : Air L) (s : S) → Reached old now s → e.ended s ≡ None → new ≡ now → Enquires e m old (Err Memory) new
    starved old now new s r more same =
        let G : Air L → Type 0 = λ a. Going (mute_air m) (enquiring e) (moment old) (moment a) r.notes in
        record { notes = r.notes; going = subst G (sym same) r.going; comes = sym (ap (answer_of e) r.at ∙ ap or_memory more) }

    -- a turn that came to nothing ends the enquiry
    pub enquires_err : (old now new : Air L) (s : S) (f : Signal) (fault : PollFault) → Reached old now s → e.next s ≡ air.Asks f → e.ended s ≡ None → AskEnds m now f (Err fault) new
        → Enquires e m old (Err fault) new
    enquires_err old now new s f Nobody r due more t = absurd t
    enquires_err old now new s f Disturbed r due more t = absurd t
    enquires_err old now new s f FieldLost r due more t = lost old now new s f r due t
    enquires_err old now new s f Memory r due more t = starved old now new s r more t
    enquires_err old now new s f NotFound r due more t = absurd t
    enquires_err old now new s f BadAnswer r due more t = absurd t

    pub enquires_end : (old new : Air L) (s : S) (r : Result X PollFault) → Reached old new s → e.ended s ≡ Some r → Enquires e m old r new
    enquires_end old new s r k end = record { notes = k.notes; going = k.going; comes = sym (ap (answer_of e) k.at ∙ ap or_memory end) }

    -- the field is reset
    pub reached_reset : (old now new : Air L) (s : S) → Reached old now s → e.next s ≡ air.LightUp → new ≡ after_event now Reset now.fates (reset_by m (world now)) → Reached old new (e.light s)
    reached_reset old now new s r due same = record {
      notes = r.notes ++ Lit ∷ [];
      going = going_reset (mute_air m) (enquiring e) (moment old) (moment now) (moment new) r.notes r.going (ap (due_of e) r.at ∙ due) (ap moment same);
      at = progress_lit e.start r.notes s r.at;
    }

    pub enquires_so : (old new : Air L) (s : S) (r : Result X PollFault) → Reached old new s → r ≡ or_memory (e.ended s) → Enquires e m old r new
    enquires_so old new s r k q = record { notes = k.notes; going = k.going; comes = q ∙ sym (ap (answer_of e) k.at) }
