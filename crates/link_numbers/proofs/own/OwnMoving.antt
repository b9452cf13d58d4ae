-- What an initiator does at something heard while it carries a payload: where pieces follow the one that is under way it depends on no byte
-- of the payload; where none does, the payload is whole.
use Rattle.std.proofs.Common.{◌≡◌, ◌≤◌, ℕ, ◌+◌, ◌==◌, nat_lt, Bool, true, false, List, [], ◌++◌, drop, Option, Some, None, if◌then◌else◌, refl, ap, ◌∙◌}
use Rattle.std.proofs.lemmas.Bool.{ltb-true, ltb-false}
use Rattle.std.specs.Prelude.{IfSome}
use Rattle.nfc_base.specs.Signal.{Signal}
use Rattle.nfc_base.specs.declared.carrier.EndCause.{EndCause}
use Rattle.nfc_base.specs.declared.carrier.EndCause.TheVariants.{FieldLost, SixBad, Protocol}
use Rattle.nfc_base.specs.declared.event.Heard.{Heard}
use Rattle.nfc_base.specs.declared.event.Heard.TheVariants.{Whole, Collided, Damaged, Silent}
use Rattle.air_core.specs.Conversation.{Note, Lit, Got, Lost}
use Rattle.dep_pdu.specs.declared.frame.DepFrame.{DepFrame}
use Rattle.dep_pdu.specs.declared.frame.DepFrame.TheVariants.{AtrReq, AtrRes, Info, Ack, Nack, Attention, Extend, DslReq, DslRes, RlsReq, RlsRes}
use Rattle.dep_link.specs.declared.initiator.Phase.{Phase}
use Rattle.dep_link.specs.declared.initiator.Phase.TheVariants.{Asked, Nacked, Attending, Free, EndedSixBad, EndedProtocol}
use Rattle.dep_link.specs.Frames.{air_frame, spelled, after}
use Rattle.dep_link.specs.Sizes.{limit}
use Rattle.nfc_base.specs.Pieces.{Core, is_refused, longest_extension, may_extend, more_follows, most_bads, most_extensions, turned}
use Rattle.dep_link.specs.Initiator.{InitState, InitMove, GivesUp, acked, attending, bad, brought, damaged, extended, framed_next, received, refuses, sends, sent, silent, waited, whole}
use Rattle.dep_link.specs.Asking.{Standing, Waits, Rests, Broken, Astray, goes_by, noted}

-- the frame that is due where an initiator stands so
abbrev pub frame_due : InitState → Signal
frame_due i = air_frame (sent i.phase i.core)

-- where a move leads
abbrev stands : InitMove → Standing
stands m = goes_by m.state (framed_next m.does)

-- What is heard, where pieces follow: the same piece is under way again, by what is sent then and the bad receptions so far; the next one is;
-- or the exchange ends.
pub data Kind : Type 0 where
  Again : Phase → ℕ → Kind
  Onward : Kind
  Fails : EndCause → Kind
  Wanders : Kind

abbrev pub onward : InitState → InitState
onward i = record i { core = turned i.core (after i.core.number) (drop i.core.most i.core.rest) false i.core.got; phase = Asked; bads = 0 }

abbrev pub again : InitState → Phase → ℕ → InitState
again i phase bads = record i { phase = phase; bads = bads }

abbrev pub made : InitState → Kind → Standing
made i (Again phase bads) = Waits (again i phase bads) (frame_due (again i phase bads))
made i Onward = Waits (onward i) (frame_due (onward i))
made i (Fails cause) = Broken cause
made i Wanders = Astray

abbrev bad_kind : ℕ → Phase → Kind
bad_kind bads phase = if nat_lt bads most_bads then Again phase (bads + 1) else Fails SixBad

abbrev answered_kind : ℕ → DepFrame → Kind
answered_kind n (Ack true pni) = if pni == n then Onward else Fails Protocol
answered_kind n _ = Fails Protocol

abbrev attended_kind : ℕ → DepFrame → Kind
attended_kind bads (Attention true) = Again Asked bads
attended_kind bads _ = Fails Protocol

abbrev waited_kind : ℕ → Option DepFrame → Kind
waited_kind n None = Fails Protocol
waited_kind n (Some v) = answered_kind n v

abbrev attending_kind : ℕ → Option DepFrame → Kind
attending_kind bads None = Fails Protocol
attending_kind bads (Some v) = attended_kind bads v

abbrev whole_kind : Phase → ℕ → ℕ → Option DepFrame → Kind
whole_kind Asked n bads o = waited_kind n o
whole_kind Nacked n bads o = waited_kind n o
whole_kind Attending n bads o = attending_kind bads o
whole_kind Free n bads o = Fails Protocol
whole_kind EndedSixBad n bads o = Fails SixBad
whole_kind EndedProtocol n bads o = Fails Protocol

abbrev damaged_kind : Phase → ℕ → Kind
damaged_kind Asked bads = bad_kind bads Nacked
damaged_kind Nacked bads = bad_kind bads Nacked
damaged_kind Attending bads = bad_kind bads Attending
damaged_kind Free bads = bad_kind bads Free
damaged_kind EndedSixBad bads = Fails SixBad
damaged_kind EndedProtocol bads = Fails Protocol

abbrev silent_kind : Phase → ℕ → Kind
silent_kind Asked bads = bad_kind bads Attending
silent_kind Nacked bads = bad_kind bads Attending
silent_kind Attending bads = bad_kind bads Attending
silent_kind Free bads = bad_kind bads Free
silent_kind EndedSixBad bads = Fails SixBad
silent_kind EndedProtocol bads = Fails Protocol

abbrev heard_kind : Phase → ℕ → ℕ → Heard → Kind
heard_kind phase n bads (Whole f) = whole_kind phase n bads (spelled f)
heard_kind phase n bads (Collided f) = damaged_kind phase bads
heard_kind phase n bads Damaged = damaged_kind phase bads
heard_kind phase n bads Silent = silent_kind phase bads

abbrev note_kind : Phase → ℕ → ℕ → Note → Kind
note_kind phase n bads Lit = Wanders
note_kind phase n bads Lost = Fails FieldLost
note_kind phase n bads (Got h) = heard_kind phase n bads h

abbrev pub kind_of : InitState → Note → Kind
kind_of i n = note_kind i.phase i.core.number i.bads n

-- initiators with the same number, phase and bad receptions take the same way
pub same_kind : (i j : InitState) (n : Note) → j.phase ≡ i.phase → j.core.number ≡ i.core.number → j.bads ≡ i.bads → kind_of j n ≡ kind_of i n
same_kind i j n p q r = ap (λ x. note_kind x j.core.number j.bads n) p ∙ ap (λ x. note_kind i.phase x j.bads n) q ∙ ap (λ x. note_kind i.phase i.core.number x n) r

module _ (i : InitState) where
  bad_so : (phase : Phase) → stands (bad i phase) ≡ made i (bad_kind i.bads phase)
  bad_so phase = go (nat_lt i.bads most_bads)
    where
      go : (t : Bool) → stands (if t then sends i i.core phase (i.bads + 1) else record { state = record i { phase = EndedSixBad }; does = GivesUp })
          ≡ made i (if t then Again phase (i.bads + 1) else Fails SixBad)
      go true = refl
      go false = refl

  damaged_so : (phase : Phase) → stands (damaged i phase) ≡ made i (damaged_kind phase i.bads)
  damaged_so Asked = bad_so Nacked
  damaged_so Nacked = bad_so Nacked
  damaged_so Attending = bad_so Attending
  damaged_so Free = bad_so Free
  damaged_so EndedSixBad = refl
  damaged_so EndedProtocol = refl

  silent_so : (phase : Phase) → stands (silent i phase) ≡ made i (silent_kind phase i.bads)
  silent_so Asked = bad_so Attending
  silent_so Nacked = bad_so Attending
  silent_so Attending = bad_so Attending
  silent_so Free = bad_so Free
  silent_so EndedSixBad = refl
  silent_so EndedProtocol = refl

  attended_so : (o : Option DepFrame) → stands (attending i o) ≡ made i (attending_kind i.bads o)
  attended_so None = refl
  attended_so (Some (Attention true)) = refl
  attended_so (Some (Attention false)) = refl
  attended_so (Some (Info up more pni content)) = refl
  attended_so (Some (Ack up pni)) = refl
  attended_so (Some (Nack pni)) = refl
  attended_so (Some (Extend up times)) = refl
  attended_so (Some (AtrReq id lr general)) = refl
  attended_so (Some (AtrRes id timeout lr general)) = refl
  attended_so (Some DslReq) = refl
  attended_so (Some DslRes) = refl
  attended_so (Some RlsReq) = refl
  attended_so (Some RlsRes) = refl

  -- pieces follow the one that is under way
  module _ (more : more_follows i.core ≡ true) where
    acked_so : (pni : ℕ) → stands (acked i pni) ≡ made i (if pni == i.core.number then Onward else Fails Protocol)
    acked_so pni =
        ap (λ (t : Bool). stands (if (if t then pni == i.core.number else false)
        then sends i (turned i.core (after i.core.number) (drop i.core.most i.core.rest) false i.core.got) Asked 0 else refuses i)) more
        ∙ go (pni == i.core.number)
      where
        go : (t : Bool) → stands (if t then sends i (turned i.core (after i.core.number) (drop i.core.most i.core.rest) false i.core.got) Asked 0 else refuses i)
            ≡ made i (if t then Onward else Fails Protocol)
        go true = refl
        go false = refl

    abbrev extended_by : Bool → Bool → ℕ → InitMove
    extended_by drawing follows times =
        if (if drawing then false else (if follows then false else (if nat_lt 0 times then (if nat_lt longest_extension times then false else nat_lt i.core.granted most_extensions) else false)))
        then sends i (record i.core { extension = Some times; granted = i.core.granted + 1 }) Asked i.bads
        else refuses i

    none_extended : (times : ℕ) → stands (extended i times) ≡ Broken Protocol
    none_extended times = ap (λ (t : Bool). stands (extended_by i.core.drawing t times)) more ∙ go i.core.drawing
      where
        go : (d : Bool) → stands (extended_by d true times) ≡ Broken Protocol
        go true = refl
        go false = refl

    none_brought : (xs : List ℕ) (m : Bool) (pni : ℕ) → stands (if (if more_follows i.core then false else pni == i.core.number) then brought i m xs else refuses i) ≡ Broken Protocol
    none_brought xs m pni = ap (λ (t : Bool). stands (if (if t then false else pni == i.core.number) then brought i m xs else refuses i)) more

    answered_so : (o : Option DepFrame) → stands (waited i o) ≡ made i (waited_kind i.core.number o)
    answered_so None = refl
    answered_so (Some (Ack true pni)) = acked_so pni
    answered_so (Some (Ack false pni)) = refl
    answered_so (Some (Info true m pni content)) = none_brought content.items m pni
    answered_so (Some (Info false m pni content)) = refl
    answered_so (Some (Extend true times)) = none_extended times
    answered_so (Some (Extend false times)) = refl
    answered_so (Some (Nack pni)) = refl
    answered_so (Some (Attention up)) = refl
    answered_so (Some (AtrReq id lr general)) = refl
    answered_so (Some (AtrRes id timeout lr general)) = refl
    answered_so (Some DslReq) = refl
    answered_so (Some DslRes) = refl
    answered_so (Some RlsReq) = refl
    answered_so (Some RlsRes) = refl

    whole_so : (phase : Phase) (f : Signal) → stands (whole i phase f) ≡ made i (whole_kind phase i.core.number i.bads (spelled f))
    whole_so Asked f = answered_so (spelled f)
    whole_so Nacked f = answered_so (spelled f)
    whole_so Attending f = attended_so (spelled f)
    whole_so Free f = refl
    whole_so EndedSixBad f = refl
    whole_so EndedProtocol f = refl

    pub hears_more : (f : Signal) (n : Note) → noted (Waits i f) n ≡ made i (kind_of i n)
    hears_more f Lit = refl
    hears_more f Lost = refl
    hears_more f (Got (Whole g)) = whole_so i.phase g
    hears_more f (Got (Collided g)) = damaged_so i.phase
    hears_more f (Got Damaged) = damaged_so i.phase
    hears_more f (Got Silent) = silent_so i.phase

-- a time extension that may be granted is in its range
abbrev pub InTimes : Option ℕ → Type 0
InTimes o = IfSome o (λ times. (1 ≤ times) × (times ≤ longest_extension))

may_times : (c : Core) (times : ℕ) → may_extend c times ≡ true → (1 ≤ times) × (times ≤ longest_extension)
may_times c times e = go c.drawing (more_follows c) (nat_lt 0 times) (nat_lt longest_extension times) (nat_lt c.granted most_extensions) refl refl e
  where
    go : (a b d f v : Bool) → nat_lt 0 times ≡ d → nat_lt longest_extension times ≡ f
        → (if a then false else (if b then false else (if d then (if f then false else v) else false))) ≡ true → (1 ≤ times) × (times ≤ longest_extension)
    go true b d f v p q e = absurd (cc)
    go false true d f v p q e = absurd (cc)
    go false false false f v p q e = absurd (cc)
    go false false true true v p q e = absurd (cc)
    go false false true false v p q e = (ltb-true 0 times p, ltb-false longest_extension times q)

-- What is heard where no piece follows: it waits for the reply again, or asks for the next piece of it; the reply came; or the exchange ends.
pub data Behind (i : InitState) (s : Standing) : Type 0 where
  waits : (j : InitState) → s ≡ Waits j (frame_due j) → j.core.number ≡ i.core.number → j.core.most ≡ i.core.most
      → more_follows j.core ≡ false → InTimes j.core.extension → Behind i s
  draws : (j : InitState) (xs : List ℕ) → s ≡ Waits j (frame_due j) → j.core ≡ turned i.core (after i.core.number) [] true xs → j.phase ≡ Asked → Behind i s
  rests : (j : InitState) (reply : List ℕ) → s ≡ Rests j reply → j.core ≡ turned i.core (after i.core.number) [] false [] → Behind i s
  fails : (cause : EndCause) → s ≡ Broken cause → Behind i s
  wanders : s ≡ Astray → Behind i s

module _ (i : InitState) (none : more_follows i.core ≡ false) (times : InTimes i.core.extension) where
  abbrev Goes : InitMove → Type 0
  Goes m = Behind i (stands m)

  again_goes : (phase : Phase) (bads : ℕ) → Goes (sends i i.core phase bads)
  again_goes phase bads = waits (again i phase bads) refl refl refl none times

  bad_goes : (phase : Phase) → Goes (bad i phase)
  bad_goes phase = go (nat_lt i.bads most_bads)
    where
      go : (t : Bool) → Goes (if t then sends i i.core phase (i.bads + 1) else record { state = record i { phase = EndedSixBad }; does = GivesUp })
      go true = again_goes phase (i.bads + 1)
      go false = fails SixBad refl

  refuses_goes : Goes (refuses i)
  refuses_goes = fails Protocol refl

  acked_goes : (pni : ℕ) → Goes (acked i pni)
  acked_goes pni = go (more_follows i.core) none
    where
      go : (t : Bool) → t ≡ false
          → Goes (if (if t then pni == i.core.number else false) then sends i (turned i.core (after i.core.number) (drop i.core.most i.core.rest) false i.core.got) Asked 0 else refuses i)
      go true e = absurd (cc)
      go false e = refuses_goes

  received_goes : (more : Bool) (xs : List ℕ) → Goes (received i more xs)
  received_goes true xs = draws (record i { core = turned i.core (after i.core.number) [] true xs; phase = Asked; bads = 0 }) xs refl refl refl
  received_goes false xs = rests (record i { core = turned i.core (after i.core.number) [] false []; phase = Free; bads = 0 }) xs refl refl

  brought_goes : (more : Bool) (xs : List ℕ) → Goes (brought i more xs)
  brought_goes more xs = go (is_refused limit more xs (i.core.got ++ xs))
    where
      go : (t : Bool) → Goes (if t then refuses i else received i more (i.core.got ++ xs))
      go true = refuses_goes
      go false = received_goes more (i.core.got ++ xs)

  info_goes : (t more : Bool) (xs : List ℕ) → Goes (if t then brought i more xs else refuses i)
  info_goes true more xs = brought_goes more xs
  info_goes false more xs = refuses_goes

  extended_goes : (times : ℕ) → Goes (extended i times)
  extended_goes times = go (may_extend i.core times) refl
    where
      go : (t : Bool) → may_extend i.core times ≡ t → Goes (if t then sends i (record i.core { extension = Some times; granted = i.core.granted + 1 }) Asked i.bads else refuses i)
      go true e = waits (record i { core = record i.core { extension = Some times; granted = i.core.granted + 1 }; phase = Asked }) refl refl refl none (may_times i.core times e)
      go false e = refuses_goes

  answered_goes : (o : Option DepFrame) → Goes (waited i o)
  answered_goes None = refuses_goes
  answered_goes (Some (Ack true pni)) = acked_goes pni
  answered_goes (Some (Ack false pni)) = refuses_goes
  answered_goes (Some (Info true m pni content)) = info_goes (if more_follows i.core then false else pni == i.core.number) m content.items
  answered_goes (Some (Info false m pni content)) = refuses_goes
  answered_goes (Some (Extend true times)) = extended_goes times
  answered_goes (Some (Extend false times)) = refuses_goes
  answered_goes (Some (Nack pni)) = refuses_goes
  answered_goes (Some (Attention up)) = refuses_goes
  answered_goes (Some (AtrReq id lr general)) = refuses_goes
  answered_goes (Some (AtrRes id timeout lr general)) = refuses_goes
  answered_goes (Some DslReq) = refuses_goes
  answered_goes (Some DslRes) = refuses_goes
  answered_goes (Some RlsReq) = refuses_goes
  answered_goes (Some RlsRes) = refuses_goes

  attended_goes : (o : Option DepFrame) → Goes (attending i o)
  attended_goes None = refuses_goes
  attended_goes (Some (Attention true)) = again_goes Asked i.bads
  attended_goes (Some (Attention false)) = refuses_goes
  attended_goes (Some (Info up more pni content)) = refuses_goes
  attended_goes (Some (Ack up pni)) = refuses_goes
  attended_goes (Some (Nack pni)) = refuses_goes
  attended_goes (Some (Extend up times)) = refuses_goes
  attended_goes (Some (AtrReq id lr general)) = refuses_goes
  attended_goes (Some (AtrRes id timeout lr general)) = refuses_goes
  attended_goes (Some DslReq) = refuses_goes
  attended_goes (Some DslRes) = refuses_goes
  attended_goes (Some RlsReq) = refuses_goes
  attended_goes (Some RlsRes) = refuses_goes

  whole_goes : (phase : Phase) (f : Signal) → Goes (whole i phase f)
  whole_goes Asked f = answered_goes (spelled f)
  whole_goes Nacked f = answered_goes (spelled f)
  whole_goes Attending f = attended_goes (spelled f)
  whole_goes Free f = refuses_goes
  whole_goes EndedSixBad f = fails SixBad refl
  whole_goes EndedProtocol f = fails Protocol refl

  damaged_goes : (phase : Phase) → Goes (damaged i phase)
  damaged_goes Asked = bad_goes Nacked
  damaged_goes Nacked = bad_goes Nacked
  damaged_goes Attending = bad_goes Attending
  damaged_goes Free = bad_goes Free
  damaged_goes EndedSixBad = fails SixBad refl
  damaged_goes EndedProtocol = fails Protocol refl

  silent_goes : (phase : Phase) → Goes (silent i phase)
  silent_goes Asked = bad_goes Attending
  silent_goes Nacked = bad_goes Attending
  silent_goes Attending = bad_goes Attending
  silent_goes Free = bad_goes Free
  silent_goes EndedSixBad = fails SixBad refl
  silent_goes EndedProtocol = fails Protocol refl

  pub hears_last : (f : Signal) (n : Note) → Behind i (noted (Waits i f) n)
  hears_last f Lit = wanders refl
  hears_last f Lost = fails FieldLost refl
  hears_last f (Got (Whole g)) = whole_goes i.phase g
  hears_last f (Got (Collided g)) = damaged_goes i.phase
  hears_last f (Got Damaged) = damaged_goes i.phase
  hears_last f (Got Silent) = silent_goes i.phase
