-- Writes that a tag acknowledges, whatever it does, and why one isn't.
use Rattle.std.proofs.Common.{◌≡◌, ℕ, inl, inr, List, [], ◌∷◌, ◌++◌, take, append_assoc, append-nil, Some, None, Result, Ok, Err, refl, sym, ◌∙◌, ap, subst}
use Rattle.nfc_base.specs.Signal.{Signal}
use Rattle.nfc_base.specs.TagLinks.{TagState, TagStep, LinkView, after_all, Obeys, Rises, IsAnswer, IsFault, AskCause, IsEnded}
use Rattle.nfc_base.specs.declared.tag_link.AskFault.{AskFault}
use Rattle.nfc_base.specs.declared.tag_link.AskFault.TheVariants as ask
use Rattle.nfc_base.proofs.Leading.{after_append, cause_on}
use Rattle.tag_reader.specs.declared.how.How.{How}
use Rattle.tag_reader.specs.declared.how.How.TheVariants.{T2, T4, T5}
use Rattle.tag_reader.specs.Kinds.{IsNamed}
use Rattle.tag_reader.specs.Calls.{ByLink}
use Rattle.tag_reader.specs.Heard.{IsOf, refusal_of}
use Rattle.tag_reader.specs.SurveyHeard.{IsLeftBy}
use Rattle.tag_reader.proofs.Links.{began, began_by}
use Rattle.tag_writer.specs.declared.fault.WriteFault.{WriteFault}
use Rattle.tag_writer.specs.declared.fault.WriteFault.TheVariants as fault
use Rattle.tag_writer.specs.WriteAsked.{refusal_in}
use Rattle.tag_writer.specs.WriteHeard.{Acknowledges, IsOddAnswer, AreAcknowledgedBy, AreAcknowledged, IsAnsweredBy, IsUnanswered, IsWhy, StopsAmong}
use Rattle.tag_writer.specs.Puttings.{of_link, IsAnswerOf, AnswersAs, Answers, Puts, AnswerTells, PutTells}
use Rattle.tag_writer.specs.Commands.{command_at}
use Rattle.tag_writer.proofs.Commanding.{HasCommand}

-- one after another
by_append : (how : How) (step : TagState → Signal → TagStep) (s : TagState) (cs ds : List Signal) → AreAcknowledgedBy how step s cs → AreAcknowledgedBy how step (after_all step s cs) ds
    → AreAcknowledgedBy how step s (cs ++ ds)
by_append how step s [] ds x y = y
by_append how step s (c ∷ cs) ds x y = (x.0, x.1, x.2, by_append how step (step s c).after cs ds x.3 y)

by_left : (how : How) (a b : LinkView) (cs ds : List Signal) → IsLeftBy a b cs → AreAcknowledgedBy how b.step b.state ds → AreAcknowledgedBy how a.step (after_all a.step a.state cs) ds
by_left how a b cs ds l y = subst (λ s. AreAcknowledgedBy how a.step s ds) l.state (subst (λ st. AreAcknowledgedBy how st b.state ds) l.step y)

state_on : (a b : LinkView) (cs ds : List Signal) → IsLeftBy a b cs → after_all b.step b.state ds ≡ after_all a.step a.state (cs ++ ds)
state_on a b cs ds l = ap (λ st. after_all st b.state ds) l.step ∙ ap (λ s. after_all a.step s ds) l.state ∙ sym (after_append a.step a.state cs ds)

left_on : (a b c : LinkView) (cs ds : List Signal) → IsLeftBy a b cs → IsLeftBy b c ds → IsLeftBy a c (cs ++ ds)
left_on a b c cs ds l m = record {
  kind = m.kind ∙ l.kind;
  identifier = m.identifier ∙ l.identifier;
  step = m.step ∙ l.step;
  state = m.state ∙ state_on a b cs ds l;
}

pub acknowledged_on : (how : How) (a b c : LinkView) (cs ds : List Signal) → AreAcknowledged how a b cs → AreAcknowledged how b c ds → AreAcknowledged how a c (cs ++ ds)
acknowledged_on how a b c cs ds x y = record {
  by = by_append how a.step a.state cs ds x.by (by_left how a b cs ds x.left y.by);
  answered = y.answered ∙ ap (λ xs. xs ++ ds) x.answered ∙ append_assoc a.answered cs ds;
  left = left_on a b c cs ds x.left y.left;
  link = elim y.link [
    | inl none ↦ elim x.link [
      | inl same ↦ inl (ap (λ xs. xs ++ ds) same.0 ∙ none.0, none.1 ∙ same.1)
      | inr went ↦ inr (ap (λ v. v.over) none.1 ∙ went.0, ap (λ v. v.dark) none.1 ∙ went.1)
    ]
    | inr went ↦ inr went
  ];
}

-- the link stays one of its kind
pub of_left : (how : How) (a b : LinkView) (cs : List Signal) → IsOf how a → IsLeftBy a b cs → IsOf how b
of_left how a b cs is l = record { kind = l.kind ∙ is.kind; named = subst (λ i. IsNamed how i) (sym l.identifier) is.named }

-- why the write behind them isn't
by_behind : (how : How) (a b c : LinkView) (cs : List Signal) (e : AskFault) → AreAcknowledged how a b cs → Rises a b → ByLink b c e → ByLink a c e
by_behind how a b c cs e x rises by = elim x.link [
  | inl same ↦ subst (λ v. ByLink v c e) same.1 by
  | inr went ↦ (
    by.0,
    elim by.1 [
      | inl was ↦ (let clash : None ≡ Some e = sym went.0 ∙ was in absurd (cc))
      | inr cause ↦ inr (cause_on a b c e rises went.1 cause)
    ],
  )
]

unanswered_behind : (how : How) (a b c : LinkView) (cs front : List Signal) (next : Signal) (e : AskFault) → AreAcknowledged how a b cs → Rises a b → IsUnanswered b c front next e
    → IsUnanswered a c (cs ++ front) next e
unanswered_behind how a b c cs front next e x rises u = record {
  answered = u.answered ∙ ap (λ xs. xs ++ front) x.answered ∙ append_assoc a.answered cs front;
  by = by_behind how a b c cs e x rises u.by;
  asked = λ begun. u.asked (elim x.link [ inl same ↦ ap (λ v. v.over) same.1 ∙ begun | inr went ↦ went.0 ]);
}

answered_behind : (how : How) (a b c : LinkView) (cs front : List Signal) (next r : Signal) → AreAcknowledged how a b cs → IsAnsweredBy b c front next r → IsAnsweredBy a c (cs ++ front) next r
answered_behind how a b c cs front next r x y = record {
  answer = sym (ap (λ t. t.answer) (ap (λ st. st (after_all b.step b.state front) next) x.left.step ∙ ap (λ s. a.step s next) (state_on a b cs front x.left))) ∙ y.answer;
  answered = y.answered ∙ ap (λ xs. xs ++ (front ++ next ∷ [])) x.answered ∙ append_assoc a.answered cs (front ++ next ∷ [])
      ∙ ap (λ xs. a.answered ++ xs) (sym (append_assoc cs front (next ∷ [])));
  over = y.over;
}

why_behind : (how : How) (a b c : LinkView) (cs front : List Signal) (next : Signal) (e : WriteFault) → AreAcknowledged how a b cs → Rises a b → IsWhy how b c front next e
    → IsWhy how a c (cs ++ front) next e
why_behind how a b c cs front next (fault.Refused code) x rises why = (why.0, answered_behind how a b c cs front next why.0 x why.1, why.2)
why_behind how a b c cs front next fault.Protocol x rises (inl odd) = inl (odd.0, answered_behind how a b c cs front next odd.0 x odd.1, odd.2)
why_behind how a b c cs front next fault.Protocol x rises (inr lost) = inr (unanswered_behind how a b c cs front next ask.Protocol x rises lost)
why_behind how a b c cs front next fault.FieldLost x rises why = unanswered_behind how a b c cs front next ask.FieldLost x rises why
why_behind how a b c cs front next fault.SixBad x rises why = unanswered_behind how a b c cs front next ask.SixBad x rises why
why_behind how a b c cs front next fault.Memory x rises why = unanswered_behind how a b c cs front next ask.Memory x rises why
why_behind how a b c cs front next fault.NotNdef x rises why = why
why_behind how a b c cs front next fault.Version x rises why = why
why_behind how a b c cs front next fault.NoRead x rises why = why
why_behind how a b c cs front next fault.Sectors x rises why = why
why_behind how a b c cs front next fault.BadSize x rises why = why
why_behind how a b c cs front next fault.NoMessageTlv x rises why = why
why_behind how a b c cs front next fault.BadTlv x rises why = why
why_behind how a b c cs front next fault.ReadOnly x rises why = why
why_behind how a b c cs front next (fault.TooLong n) x rises why = why
why_behind how a b c cs front next fault.ShortMlc x rises why = why

pub stops_behind : (how : How) (a b c : LinkView) (cs ds : List Signal) (e : WriteFault) → AreAcknowledged how a b cs → Rises a b → StopsAmong how b c ds e → StopsAmong how a c (cs ++ ds) e
stops_behind how a b c cs ds e x rises s = record {
  front = cs ++ s.front;
  next = s.next;
  rest = s.rest;
  split = ap (λ xs. cs ++ xs) s.split ∙ sym (append_assoc cs s.front (s.next ∷ s.rest));
  by = by_append how a.step a.state cs s.front x.by (by_left how a b cs s.front x.left s.by);
  why = why_behind how a b c cs s.front s.next e x rises s.why;
}

pub stops_before : (how : How) (a c : LinkView) (cs ds : List Signal) (e : WriteFault) → StopsAmong how a c cs e → StopsAmong how a c (cs ++ ds) e
stops_before how a c cs ds e s = record {
  front = s.front;
  next = s.next;
  rest = s.rest ++ ds;
  split = ap (λ xs. xs ++ ds) s.split ∙ append_assoc s.front (s.next ∷ s.rest) ds;
  by = s.by;
  why = s.why;
}

pub stops_at_command : (how : How) (a b c : LinkView) (cs : List Signal) (k : ℕ) (e : WriteFault) → HasCommand cs k → AreAcknowledged how a b (take k cs) → Rises a b
    → IsWhy how b c [] (command_at cs k) e → StopsAmong how a c cs e
stops_at_command how a b c cs k e h x rises why = record {
  front = take k cs;
  next = command_at cs k;
  rest = h.rest;
  split = h.split;
  by = x.by;
  why = subst (λ f. IsWhy how a c f (command_at cs k) e) (append-nil (take k cs)) (why_behind how a b c (take k cs) [] (command_at cs k) e x rises why);
}

-- one write
module _ (how : How) (a b : LinkView) (c r : Signal) (obeys : Obeys a b c) (rises : Rises a b) (last : a.over ≡ None → b.last ≡ Some c) (answer : IsAnswer a b c r) where
  answers : Answers a b c
  answers = record {
    obeyed = record { more = obeys.more; leads = obeys.leads; images' = obeys.steady.same; rises = rises };
    begun = answer.begun;
    goes_on = record { over = answer.stays; lit = answer.lit; counts = answer.counts };
    state = answer.after;
    answered = answer.answered;
    last = last answer.begun;
  }

  here : IsAnsweredBy a b [] c r
  here = record { answer = answer.answer; answered = answer.answered; over = answer.stays }

  accepted : (h : How) → Acknowledges h r → refusal_of h r ≡ None
  accepted T2 is = ap (refusal_of T2) is
  accepted T4 is = ap (refusal_of T4) is
  accepted (T5 id) is = ap (refusal_of (T5 id)) is

  never_odd : (h : How) → IsAnswerOf h r → IsOddAnswer h r → ⊥
  never_odd T2 (inl is) odd = odd.no_acknowledgement is
  never_odd T2 (inr is) odd = odd.no_refusal is.0 is.1
  never_odd T4 is odd = odd.no_acknowledgement is
  never_odd (T5 id) (inl is) odd = odd.no_acknowledgement is
  never_odd (T5 id) (inr is) odd = odd.no_refusal is.0 is.1

  of_step : AnswersAs how (a.step a.state c).answer → IsAnswerOf how r
  of_step is = subst (AnswersAs how) answer.answer is

  pub put_by : (result : Result Unit WriteFault) → AnswerTells how r result → AnswersAs how (a.step a.state c).answer → Puts how a b c result
  put_by (Ok done') tells is = (answers, ap (refusal_in how) answer.answer ∙ accepted how tells)
  put_by (Err (fault.Refused code)) tells is = inl (code, refl, (answers, ap (refusal_in how) answer.answer ∙ tells))
  put_by (Err fault.Protocol) tells is = absurd (never_odd how (of_step is) tells)
  put_by (Err fault.NotNdef) tells is = absurd tells
  put_by (Err fault.Version) tells is = absurd tells
  put_by (Err fault.NoRead) tells is = absurd tells
  put_by (Err fault.Sectors) tells is = absurd tells
  put_by (Err fault.BadSize) tells is = absurd tells
  put_by (Err fault.NoMessageTlv) tells is = absurd tells
  put_by (Err fault.BadTlv) tells is = absurd tells
  put_by (Err fault.FieldLost) tells is = absurd tells
  put_by (Err fault.SixBad) tells is = absurd tells
  put_by (Err fault.Memory) tells is = absurd tells
  put_by (Err fault.ReadOnly) tells is = absurd tells
  put_by (Err (fault.TooLong n)) tells is = absurd tells
  put_by (Err fault.ShortMlc) tells is = absurd tells

  pub put_told : (result : Result Unit WriteFault) → AnswerTells how r result → PutTells how a b c result
  put_told (Ok done') tells = record {
    by = (r, answer.answer, tells, tt);
    answered = answer.answered;
    left = record { kind = obeys.leads.kind; identifier = obeys.leads.identifier; step = obeys.leads.step; state = answer.after };
    link = inr (answer.stays, answer.lit);
  }
  put_told (Err (fault.Refused code)) tells = (r, here, tells)
  put_told (Err fault.Protocol) tells = inl (r, here, tells)
  put_told (Err fault.NotNdef) tells = absurd tells
  put_told (Err fault.Version) tells = absurd tells
  put_told (Err fault.NoRead) tells = absurd tells
  put_told (Err fault.Sectors) tells = absurd tells
  put_told (Err fault.BadSize) tells = absurd tells
  put_told (Err fault.NoMessageTlv) tells = absurd tells
  put_told (Err fault.BadTlv) tells = absurd tells
  put_told (Err fault.FieldLost) tells = absurd tells
  put_told (Err fault.SixBad) tells = absurd tells
  put_told (Err fault.Memory) tells = absurd tells
  put_told (Err fault.ReadOnly) tells = absurd tells
  put_told (Err (fault.TooLong n)) tells = absurd tells
  put_told (Err fault.ShortMlc) tells = absurd tells

-- no answer
pub put_lost : (how : How) (a b : LinkView) (c : Signal) (f : AskFault) → IsFault a b c f → (a.over ≡ None → AskCause a b f) → ((e : AskFault) → a.over ≡ Some e → IsEnded a b e (Err f))
    → (a.over ≡ None → b.last ≡ Some c)
    → IsWhy how a b [] c (of_link f)
put_lost how a b c f fails cause ended last =
    by_fault f (record { answered = fails.answered ∙ sym (append-nil a.answered); by = began_by a b f fails.over cause (began a b f (Err f) refl ended); asked = last })
  where
    by_fault : (e : AskFault) → IsUnanswered a b [] c e → IsWhy how a b [] c (of_link e)
    by_fault ask.FieldLost u = u
    by_fault ask.SixBad u = u
    by_fault ask.Memory u = u
    by_fault ask.Protocol u = inr u
