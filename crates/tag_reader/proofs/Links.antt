-- One command on a link.
use Rattle.std.proofs.Common.{◌≡◌, ◌≢◌, inl, inr, ◌⊎◌, false, refl, sym, ◌∙◌, ap, subst}
use Rattle.std.specs.Prelude.{Option, Some, None, Result, Err}
use Rattle.nfc_base.specs.Signal.{Signal}
use Rattle.nfc_base.specs.declared.tag_link.AskFault.{AskFault}
use Rattle.nfc_base.specs.declared.tag_link.AskFault.TheVariants as ask
use Rattle.nfc_base.specs.TagLinks.{TagState, LinkView, passed, Obeys, Rises, IsAnswer, IsFault, AskCause, IsEnded}
use Rattle.nfc_base.proofs.Leading.{all_map}
use Rattle.tag_reader.specs.declared.fault.ReadFault.TheVariants as fault
use Rattle.tag_reader.specs.Calls.{Stays, ByLink}
use Rattle.tag_reader.specs.Steps.{of_link, Answers, Fails}

-- the tag answers a command, is this then, and keeps its store
pub record Keeps (a : LinkView) (c r : Signal) (after : TagState) : Type 0 where
  pub step : a.step a.state c ≡ record { answer = Some r; after = after }
  pub store : after.store ≡ a.state.store

after_is : (a : LinkView) (c r : Signal) (after : TagState) → Keeps a c r after → (a.step a.state c).after ≡ after
after_is a c r after k = ap (λ t. t.after) k.step

ask_stays : (a b : LinkView) (c r : Signal) (after : TagState) → Keeps a c r after → Obeys a b c → Rises a b → b.state.store ≡ a.state.store → Stays a b
ask_stays a b c r after k obeys rises store = record {
  more = obeys.more;
  leads = obeys.leads;
  images = all_map (λ s. s ≡ (a.step a.state c).after.store) (λ s. s ≡ a.state.store) (passed a.step a.state obeys.more)
      (λ s e. e ∙ ap (λ t. t.store) (after_is a c r after k) ∙ k.store) obeys.steady.same;
  store = store;
  rises = rises;
}

-- the answer is the tag's
answer_is : (a b : LinkView) (c r s : Signal) (after : TagState) → Keeps a c r after → IsAnswer a b c s → s ≡ r
answer_is a b c r s after k answer =
    let same : Some s ≡ Some r = sym answer.answer ∙ ap (λ t. t.answer) k.step in
    cc

-- the tag is what it is behind its step
state_is : (a b : LinkView) (c r s : Signal) (after : TagState) → Keeps a c r after → IsAnswer a b c s → b.state ≡ after
state_is a b c r s after k answer = answer.after ∙ after_is a c r after k

ask_answers : (a b : LinkView) (c r s : Signal) (after : TagState) → Keeps a c r after → Obeys a b c → Rises a b → (a.over ≡ None → b.last ≡ Some c) →
    IsAnswer a b c s → Answers c a b
ask_answers a b c r s after k obeys rises last answer = record {
  stays = ask_stays a b c r after k obeys rises (ap (λ t. t.store) (state_is a b c r s after k answer) ∙ k.store);
  before = answer.begun;
  goes_on = record { over = answer.stays; lit = answer.lit; counts = answer.counts };
  answered = answer.answered;
  last = last answer.begun;
  after = answer.after;
}

-- an answer that found no memory
pub answer_lost : (c : Signal) (a b : LinkView) → Answers c a b → Fails c a b fault.Memory
answer_lost c a b answer = record {
  stays = answer.stays;
  fault' = inl (refl, answer.goes_on.over);
  asked = inr (answer.answered, answer.last, answer.goes_on.over ∙ sym answer.before);
  calm = λ begun lit quiet. refl;
}

-- what a call that fails says of the link: it wasn't over before, or the call changed nothing
pub data Began (a b : LinkView) (e : AskFault) : Type 0 where
  Open : a.over ≡ None → Began a b e
  Over : a.over ≡ Some e → b ≡ a → Began a b e

pub began : (a b : LinkView) (e : AskFault) (result : Result Signal AskFault) → result ≡ Err e →
    ((f : AskFault) → a.over ≡ Some f → IsEnded a b f result) → Began a b e
began a b e result is ended = by_over a.over refl
  where
    by_over : (o : Option AskFault) → a.over ≡ o → Began a b e
    by_over None was = Open was
    by_over (Some f) was =
        let end = ended f was in
        let same : f ≡ e = let clash : Err f ≡ Err e = sym end.fault ∙ is in cc in
        Over (was ∙ ap (λ g. Some g) same) end.same

pub began_by : (a b : LinkView) (e : AskFault) → b.over ≡ Some e → (a.over ≡ None → AskCause a b e) → Began a b e → ByLink a b e
began_by a b e over cause (Open was) = (over, inr (cause was))
began_by a b e over cause (Over was same) = (over, inl was)

began_last : (a b : LinkView) (e : AskFault) (c : Signal) → (a.over ≡ None → b.last ≡ Some c) → Began a b e → ((b.last ≡ a.last) × (b.over ≡ a.over)) ⊎ (b.last ≡ Some c)
began_last a b e c last (Open was) = inr (last was)
began_last a b e c last (Over was same) = inl (ap (λ v. v.last) same, ap (λ v. v.over) same)

-- where all passes, a command that the tag answers is answered
abbrev pub IsAnswered : LinkView → LinkView → Signal → AskFault → Type 0
IsAnswered a b c e = a.over ≡ None → a.dark ≡ false → b.noise ≡ a.noise → (a.step a.state c).answer ≢ None → e ≡ ask.Memory

ask_fails : (a b : LinkView) (c r : Signal) (after : TagState) (e : AskFault) → Keeps a c r after → Obeys a b c → Rises a b → (a.over ≡ None → b.last ≡ Some c) →
    IsFault a b c e → (a.over ≡ None → AskCause a b e) → ((f : AskFault) → a.over ≡ Some f → IsEnded a b f (Err e)) → IsAnswered a b c e → Fails c a b (of_link e)
ask_fails a b c r after e k obeys rises last fails cause ended calm =
    let start = began a b e (Err e) refl ended in
    record {
      stays = ask_stays a b c r after k obeys rises (elim fails.store [
        | inl same ↦ same
        | inr done ↦ done ∙ ap (λ t. t.store) (after_is a c r after k) ∙ k.store
      ]);
      fault' = inr (e, refl, began_by a b e fails.over cause start);
      asked = inl (fails.answered, began_last a b e c last start);
      calm = λ begun lit quiet. ap of_link (calm begun lit quiet answers);
    }
  where
    answers : (a.step a.state c).answer ≢ None
    answers silent = (let clash : None ≡ Some r = sym silent ∙ ap (λ t. t.answer) k.step in cc)

-- the same of a frame that is the command
pub asked_ok : (a b : LinkView) (c r s f : Signal) (after : TagState) → f ≡ c → Keeps a c r after →
    Rises a b → Obeys a b f → (a.over ≡ None → b.last ≡ Some f) → IsAnswer a b f s → Answers c a b × (s ≡ r) × (b.state ≡ after)
asked_ok a b c r s f after e k rises =
    let P : Signal → Type 0 = λ g. Obeys a b g → (a.over ≡ None → b.last ≡ Some g) → IsAnswer a b g s → Answers c a b × (s ≡ r) × (b.state ≡ after) in
    subst P (sym e) (λ obeys last answer. (ask_answers a b c r s after k obeys rises last answer, answer_is a b c r s after k answer, state_is a b c r s after k answer))

pub asked_err : (a b : LinkView) (c r f : Signal) (after : TagState) (e : AskFault) → f ≡ c → Keeps a c r after →
    Rises a b → Obeys a b f → (a.over ≡ None → b.last ≡ Some f) → IsFault a b f e → (a.over ≡ None → AskCause a b e) →
    ((g : AskFault) → a.over ≡ Some g → IsEnded a b g (Err e)) → IsAnswered a b f e → Fails c a b (of_link e)
asked_err a b c r f after e is_f k rises =
    let P : Signal → Type 0 = λ g. Obeys a b g → (a.over ≡ None → b.last ≡ Some g) → IsFault a b g e → (a.over ≡ None → AskCause a b e) →
    ((h : AskFault) → a.over ≡ Some h → IsEnded a b h (Err e)) → IsAnswered a b g e → Fails c a b (of_link e) in
    subst P (sym is_f) (λ obeys last fails cause ended calm. ask_fails a b c r after e k obeys rises last fails cause ended calm)
