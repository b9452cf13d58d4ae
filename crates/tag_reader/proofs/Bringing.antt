-- The pieces that a tag brings, whatever it does, and how a reading of it ends.
use Rattle.std.proofs.Common.{◌≡◌, ◌⊎◌, ℕ, ◌<◌, inl, inr, List, [], ◌∷◌, ◌++◌, length, drop, true, None, Some, Err, refl, sym, ◌∙◌, ap, subst, append_assoc, append-nil, arith}
use Rattle.std.proofs.lemmas.List.{append_cancel_right}
use Rattle.nfc_base.specs.Signal.{Signal}
use Rattle.nfc_base.specs.declared.tag_link.AskFault.{AskFault}
use Rattle.nfc_base.specs.declared.tag_link.AskFault.TheVariants as ask
use Rattle.nfc_base.specs.TagLinks.{TagState, TagStep, LinkView, after_all, Obeys, Rises, IsAnswer, IsFault, AskCause, IsEnded}
use Rattle.nfc_base.proofs.Leading.{after_append, rises_on, cause_on}
use Rattle.t4t_tag.specs.Step.{done}
use Rattle.tag_reader.specs.declared.how.How.{How}
use Rattle.tag_reader.specs.declared.how.How.TheVariants.{T2, T4, T5}
use Rattle.tag_reader.specs.declared.fault.ReadFault.TheVariants as fault
use Rattle.tag_reader.specs.Calls.{ByLink}
use Rattle.tag_reader.specs.Steps.{of_link}
use Rattle.t5t_tag.specs.Step.{no_block}
use Rattle.tag_reader.specs.declared.ask.Ask.{Ask}
use Rattle.tag_reader.specs.declared.ask.Ask.TheVariants.{One, Many}
use Rattle.tag_reader.specs.Blocks.{IsOne, IsMany}
use Rattle.tag_reader.specs.Heard.{ask_behind, BringsPiece, EndsTag, IsLast, next_command, asked_for, HasContent, IsPiece, Brings, Refuses, IsOdd, IsBroughtBy, tag_after, IsBrought, IsStopped}
use Rattle.tag_reader.specs.Heard.{IsFaultBy}
use Rattle.tag_reader.specs.HeardSteps.{HasNoForm, Went, Under}
use Rattle.tag_reader.specs.SurveyHeard.{surveyed_by, IsLeftBy}
use Rattle.tag_reader.proofs.Links.{began, began_by}
use Rattle.tag_reader.proofs.Refusals.{refuses_t2, done_t4, error_refuses, refuses_t5}

-- one piece more
pub before_more : (before : List (List ℕ)) (q : List ℕ) (qs : List (List ℕ)) → (before ++ q ∷ []) ++ qs ≡ before ++ (q ∷ qs)
before_more before q qs = append_assoc before (q ∷ []) qs

asked_more : (how : How) (before ps : List (List ℕ)) (p : List ℕ) → asked_for how before (ps ++ p ∷ []) ≡ asked_for how before ps ++ next_command how (before ++ ps) ∷ []
asked_more how before [] p = ap (λ b. next_command how b ∷ []) (sym (append-nil before))
asked_more how before (q ∷ qs) p =
    ap (λ xs. next_command how before ∷ xs) (asked_more how (before ++ q ∷ []) qs p
    ∙ ap (λ b. asked_for how (before ++ q ∷ []) qs ++ next_command how b ∷ []) (before_more before q qs))

brought_more : (how : How) (step : TagState → Signal → TagStep) (s : TagState) (before ps : List (List ℕ)) (p : List ℕ) (r : Signal) → IsBroughtBy how step s before ps →
    (step (after_all step s (asked_for how before ps)) (next_command how (before ++ ps))).answer ≡ Some r → Brings how (before ++ ps) r p →
    IsBroughtBy how step s before (ps ++ p ∷ [])
brought_more how step s before [] p r is answer brings =
    let e : before ++ [] ≡ before = append-nil before in
    (r, subst (λ b. (step s (next_command how b)).answer ≡ Some r) e answer, subst (λ b. Brings how b r p) e brings, tt)
brought_more how step s before (q ∷ qs) p r is answer brings =
    let e : before ++ (q ∷ qs) ≡ (before ++ q ∷ []) ++ qs = sym (before_more before q qs) in
    let t : TagState = (step s (next_command how before)).after in (
      is.0,
      is.1,
      is.2,
      brought_more how step t (before ++ q ∷ []) qs p r is.3
          (subst (λ b. (step (after_all step t (asked_for how (before ++ q ∷ []) qs)) (next_command how b)).answer ≡ Some r) e answer)
          (subst (λ b. Brings how b r p) e brings),
    )

-- the tag's step at the next command
step_is : (how : How) (a b : LinkView) (ps : List (List ℕ)) (f : Signal) → Under how a b ps → f ≡ next_command how ps →
    b.step b.state f ≡ a.step (tag_after how a ps) (next_command how ps)
step_is how a b ps f u e =
    ap (λ st. st b.state f) u.step ∙ ap (λ s. a.step s f) u.state ∙ ap (λ g. a.step (tag_after how a ps) g) e

answered_is : (how : How) (a b c : LinkView) (ps : List (List ℕ)) (f : Signal) → Under how a b ps → f ≡ next_command how ps → c.answered ≡ b.answered ++ f ∷ [] →
    c.answered ≡ a.answered ++ (asked_for how [] ps ++ next_command how ps ∷ [])
answered_is how a b c ps f u e is =
    is ∙ ap (λ g. b.answered ++ g ∷ []) e ∙ ap (λ xs. xs ++ next_command how ps ∷ []) u.brought.answered
    ∙ append_assoc a.answered (asked_for how [] ps) (next_command how ps ∷ [])

went_on : (how : How) (a b c : LinkView) (ps : List (List ℕ)) (f r : Signal) → Under how a b ps → Rises b c → IsAnswer b c f r → Went a c
went_on how a b c ps f r u rises answer = elim u.link [
  | inl same ↦ record { over = answer.stays; lit = answer.lit; rises = subst (λ v. Rises v c) same.1 rises }
  | inr went ↦ record { over = answer.stays; lit = answer.lit; rises = rises_on a b c went.rises rises }
]

pub under_brings : (how : How) (a b c : LinkView) (ps : List (List ℕ)) (p : List ℕ) (f r : Signal) → Under how a b ps → f ≡ next_command how ps → Obeys b c f → Rises b c →
    IsAnswer b c f r → Brings how ps r p → Under how a c (ps ++ p ∷ [])
under_brings how a b c ps p f r u e obeys rises answer brings =
    let here = step_is how a b ps f u e in
    let more = asked_more how [] ps p in
    record {
      kind = obeys.leads.kind ∙ u.kind;
      identifier = obeys.leads.identifier ∙ u.identifier;
      step = obeys.leads.step ∙ u.step;
      state = answer.after ∙ ap (λ t. t.after) here
          ∙ sym (after_append a.step a.state (asked_for how [] ps) (next_command how ps ∷ [])) ∙ ap (λ cs. after_all a.step a.state cs) (sym more);
      brought = record {
        pieces = brought_more how a.step a.state [] ps p r u.brought.pieces (sym (ap (λ t. t.answer) here) ∙ answer.answer) brings;
        answered = answered_is how a b c ps f u e answer.answered ∙ ap (λ cs. a.answered ++ cs) (sym more);
      };
      link = inr (went_on how a b c ps f r u rises answer);
    }

-- the last answer
pub under_stops : (how : How) (a b c : LinkView) (ps : List (List ℕ)) (f r : Signal) → Under how a b ps → f ≡ next_command how ps → IsAnswer b c f r → IsStopped how a c ps r
under_stops how a b c ps f r u e answer = record {
  pieces = u.brought.pieces;
  answer = sym (ap (λ t. t.answer) (step_is how a b ps f u e)) ∙ answer.answer;
  answered = answered_is how a b c ps f u e answer.answered;
  over = answer.stays;
}

-- what it leaves
pub under_left : (how : How) (a b c : LinkView) (ps : List (List ℕ)) (f r : Signal) → Under how a b ps → f ≡ next_command how ps → Obeys b c f → IsAnswer b c f r
    → IsLeftBy a c (surveyed_by how ps true)
under_left how a b c ps f r u e obeys answer = record {
  kind = obeys.leads.kind ∙ u.kind;
  identifier = obeys.leads.identifier ∙ u.identifier;
  step = obeys.leads.step ∙ u.step;
  state = answer.after ∙ ap (λ t. t.after) (step_is how a b ps f u e) ∙ sym (after_append a.step a.state (asked_for how [] ps) (next_command how ps ∷ []));
}

-- no answer
by_link_on : (how : How) (a b c : LinkView) (ps : List (List ℕ)) (e : AskFault) → Under how a b ps → ByLink b c e → ByLink a c e
by_link_on how a b c ps e u by = elim u.link [
  | inl same ↦ subst (λ v. ByLink v c e) same.1 by
  | inr went ↦ (
    by.0,
    elim by.1 [
      | inl was ↦ (let clash : None ≡ Some e = sym went.over ∙ was in absurd (cc))
      | inr cause ↦ inr (cause_on a b c e went.rises went.lit cause)
    ],
  )
]

-- the command that follows the pieces was asked last
asked_last : (how : How) (a b c : LinkView) (ps : List (List ℕ)) (f : Signal) → Under how a b ps → f ≡ next_command how ps → (b.over ≡ None → c.last ≡ Some f)
    → a.over ≡ None → (c.over ≡ None) ⊎ (c.last ≡ Some (next_command how ps))
asked_last how a b c ps f u e last begun =
    inr (last (elim u.link [ inl same ↦ ap (λ v. v.over) same.1 ∙ begun | inr went ↦ went.over ]) ∙ ap Some e)

link_ends : (how : How) (a b : LinkView) (ps : List (List ℕ)) (e : AskFault) → IsBrought how a b ps → ByLink a b e
    → (a.over ≡ None → (b.over ≡ None) ⊎ (b.last ≡ Some (next_command how ps))) → IsFaultBy how a b (of_link e)
link_ends how a b ps ask.FieldLost is by asked = record { ps = ps; brought = is; ends' = by; asked = asked }
link_ends how a b ps ask.SixBad is by asked = record { ps = ps; brought = is; ends' = by; asked = asked }
link_ends how a b ps ask.Memory is by asked = record { ps = ps; brought = is; ends' = inr by; asked = asked }
link_ends how a b ps ask.Protocol is by asked = inr (record { ps = ps; brought = is; ends' = by; asked = asked })

pub under_fault : (how : How) (a b c : LinkView) (ps : List (List ℕ)) (f : Signal) (e : AskFault) → Under how a b ps → f ≡ next_command how ps → IsFault b c f e → (b.over ≡ None → AskCause b c e)
    → ((g : AskFault) → b.over ≡ Some g → IsEnded b c g (Err e)) → (b.over ≡ None → c.last ≡ Some f) → IsFaultBy how a c (of_link e)
under_fault how a b c ps f e u due fails cause ended last =
    link_ends how a c ps e (record { pieces = u.brought.pieces; answered = fails.answered ∙ u.brought.answered })
    (by_link_on how a b c ps e u (began_by b c e fails.over cause (began b c e (Err e) refl ended))) (asked_last how a b c ps f u due last)

-- own want of memory
pub memory_ends : (how : How) (a b : LinkView) (ps : List (List ℕ)) → IsBrought how a b ps → b.over ≡ None → IsFaultBy how a b fault.Memory
memory_ends how a b ps is over = record { ps = ps; brought = is; ends' = inl over; asked = λ begun. inl over }

pub went_of : (how : How) (a b : LinkView) (ps : List (List ℕ)) → Under how a b ps → 0 < length ps → Went a b
went_of how a b ps u some = elim u.link [
  | inl none ↦ absurd (let low : 0 < length {A = List ℕ} [] = subst (λ xs. 0 < length xs) none.0 some in omega (arith, low))
  | inr went ↦ went
]

-- nothing is brought yet
pub under_none : (how : How) (a : LinkView) → Under how a a []
under_none how a = record {
  kind = refl;
  identifier = refl;
  step = refl;
  state = refl;
  brought = record { pieces = tt; answered = sym (append-nil a.answered) };
  link = inl (refl, refl);
}

-- an answer has one content, and none that has content refuses
pub content_one : (how : How) (r : Signal) (p q : List ℕ) → HasContent how r p → HasContent how r q → q ≡ p
content_one T2 r p q is other = ap (λ f. f.bytes) (sym other.1 ∙ is.1)
content_one T4 r p q is other = append_cancel_right q p done (ap (λ f. f.bytes) (sym other.0 ∙ is.0))
content_one (T5 id) r p q is other = ap (λ f. drop 1 f.bytes) (sym other.frame ∙ is.frame)

pub content_free : (how : How) (r : Signal) (p : List ℕ) (code : ℕ) → HasContent how r p → Refuses how r code → ⊥
content_free T2 r p code is refuses = (let clash : 0 ≡ 4 = ap (λ f. f.tail) (sym is.1 ∙ (refuses_t2 r code refuses).0) in omega (arith, clash))
content_free T4 r p code is refuses = (let none : None ≡ Some code = sym (done_t4 r p is.0) ∙ refuses in cc)
content_free (T5 id) r p code is refuses =
    (let clash : 0 ∷ p ≡ 1 ∷ code ∷ [] = ap (λ f. f.bytes) (sym is.frame ∙ refuses_t5 id r code refuses) in cc)

-- an answer that is no piece
pub no_piece : (how : How) (ps : List (List ℕ)) (r : Signal) (p : List ℕ) → HasContent how r p → (IsPiece how ps p → ⊥) → IsOdd how ps r
no_piece how ps r p is none = record { no_piece = λ q brings. by_kind how is none q brings; no_refusal = λ code refuses. content_free how r p code is refuses }
  where
    other : (h : How) → HasContent h r p → (IsPiece h ps p → ⊥) → (q : List ℕ) → BringsPiece h ps r q → ⊥
    other h has free q brings = free (subst (λ x. IsPiece h ps x) (sym (content_one h r q p brings.content has)) brings.piece)

    by_kind : (h : How) → HasContent h r p → (IsPiece h ps p → ⊥) → (q : List ℕ) → Brings h ps r q → ⊥
    by_kind T2 has free q brings = other T2 has free q brings
    by_kind T4 has free q brings = other T4 has free q brings
    by_kind (T5 id) has free q (inl brings) = other (T5 id) has free q brings
    by_kind (T5 id) has free q (inr falls) = content_free (T5 id) r p falls.code has (error_refuses id r falls.code falls.error)

pub no_form : (how : How) (ps : List (List ℕ)) (r : Signal) → HasNoForm how r → IsOdd how ps r
no_form how ps r is = record { no_piece = λ p brings. by_kind how is p brings; no_refusal = is.no_refusal }
  where
    by_kind : (h : How) → HasNoForm h r → (q : List ℕ) → Brings h ps r q → ⊥
    by_kind T2 none q brings = none.no_content q brings.content
    by_kind T4 none q brings = none.no_content q brings.content
    by_kind (T5 id) none q (inl brings) = none.no_content q brings.content
    by_kind (T5 id) none q (inr falls) = none.no_refusal falls.code (error_refuses id r falls.code falls.error)

-- an answer brings one piece, and none that does refuses the last command or ends the tag
pub brings_one : (how : How) (ps : List (List ℕ)) (r : Signal) (p q : List ℕ) → Brings how ps r p → Brings how ps r q → q ≡ p
brings_one T2 ps r p q is other = content_one T2 r p q is.content other.content
brings_one T4 ps r p q is other = content_one T4 r p q is.content other.content
brings_one (T5 id) ps r p q (inl is) (inl other) = content_one (T5 id) r p q is.content other.content
brings_one (T5 id) ps r p q (inl is) (inr other) = absurd (content_free (T5 id) r p other.code is.content (error_refuses id r other.code other.error))
brings_one (T5 id) ps r p q (inr is) (inl other) = absurd (content_free (T5 id) r q is.code other.content (error_refuses id r is.code is.error))
brings_one (T5 id) ps r p q (inr is) (inr other) = other.none ∙ sym is.none

not_both : (a : Ask) → IsOne a → IsMany a → ⊥
not_both (One block) one many = many
not_both (Many block more) one many = one

pub brings_free : (how : How) (ps : List (List ℕ)) (r : Signal) (p : List ℕ) (code : ℕ) → Brings how ps r p → IsLast how ps → Refuses how r code → ⊥
brings_free T2 ps r p code is last refuses = content_free T2 r p code is.content refuses
brings_free T4 ps r p code is last refuses = content_free T4 r p code is.content refuses
brings_free (T5 id) ps r p code (inl is) last refuses = content_free (T5 id) r p code is.content refuses
brings_free (T5 id) ps r p code (inr is) last refuses = not_both (ask_behind ps) last is.many

pub brings_ends : (how : How) (ps : List (List ℕ)) (r : Signal) (p : List ℕ) → Brings how ps r p → EndsTag how ps r → ⊥
brings_ends T2 ps r p is ends = ends
brings_ends T4 ps r p is ends = ends
brings_ends (T5 id) ps r p (inl is) ends = content_free (T5 id) r p no_block is.content (error_refuses id r no_block ends.2)
brings_ends (T5 id) ps r p (inr is) ends = not_both (ask_behind ps) ends.1 is.many
