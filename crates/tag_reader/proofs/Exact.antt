-- What was answered between two views of a link has one description, so a reading tells each fault exactly where it stands.
use Rattle.std.proofs.Common.{◌≡◌, ℕ, suc, ◌+◌, ◌⊎◌, inl, inr, List, [], ◌∷◌, ◌++◌, length, refl, sym, ◌∙◌, ap, subst, append-nil, arith}
use Rattle.std.specs.Prelude.{Option, Some, None, Result, Ok, Err}
use Rattle.std.proofs.lemmas.List.{length-append}
use Rattle.nfc_base.specs.Signal.{Signal}
use Rattle.nfc_base.specs.declared.tag_link.AskFault.{AskFault}
use Rattle.nfc_base.specs.declared.tag_link.AskFault.TheVariants as ask
use Rattle.nfc_base.specs.TagLinks.{TagState, TagStep, LinkView, after_all}
use Rattle.t5t_tag.specs.Step.{no_block}
use Rattle.tlv_area.specs.Form as form
use Rattle.tag_reader.specs.declared.how.How.{How}
use Rattle.tag_reader.specs.declared.how.How.TheVariants.{T2, T4, T5}
use Rattle.tag_reader.specs.declared.fault.ReadFault.{ReadFault}
use Rattle.tag_reader.specs.declared.fault.ReadFault.TheVariants as fault
use Rattle.tag_reader.specs.declared.found.Found.{Found}
use Rattle.tag_reader.specs.Steps.{of_link}
use Rattle.tag_reader.specs.Heard.{next_command, asked_for, Brings, Refuses, EndsTag, IsOdd, IsBroughtBy, IsBrought, IsStopped, IsNone, IsRefused, IsOddly, IsToldBy, TellsExactly}
use Rattle.tag_reader.proofs.Bringing.{before_more, brings_one, brings_free}
use Rattle.tag_reader.proofs.Refusals.{error_refuses}

-- an answer is one
some_one : (o : Option Signal) (r q : Signal) → o ≡ Some r → o ≡ Some q → q ≡ r
some_one o r q one two = (let both : Some q ≡ Some r = sym two ∙ one in cc)

-- and so is its piece
one_piece : (how : How) (before : List (List ℕ)) (o : Option Signal) (r t : Signal) (p q : List ℕ) → o ≡ Some r → o ≡ Some t → Brings how before r p → Brings how before t q → p ≡ q
one_piece how before o r t p q one two is other =
    brings_one how before t q p other (subst (λ x. Brings how before x p) (some_one o t r two one) is)

-- as many pieces of one tag are the same
same_pieces : (how : How) (step : TagState → Signal → TagStep) (s : TagState) (before ps qs : List (List ℕ)) → IsBroughtBy how step s before ps → IsBroughtBy how step s before qs →
    length ps ≡ length qs → ps ≡ qs
same_pieces how step s before [] [] is other long = refl
same_pieces how step s before [] (q ∷ qs) is other long = absurd (omega (arith, long))
same_pieces how step s before (p ∷ ps) [] is other long = absurd (omega (arith, long))
same_pieces how step s before (p ∷ ps) (q ∷ qs) is other long =
    let c : Signal = next_command how before in
    let one : p ≡ q = one_piece how before (step s c).answer is.0 other.0 p q is.1 other.1 is.2 other.2 in
    let rest : IsBroughtBy how step (step s c).after (before ++ q ∷ []) ps = subst (λ x. IsBroughtBy how step (step s c).after (before ++ x ∷ []) ps) one is.3 in
    let same : ps ≡ qs = same_pieces how step (step s c).after (before ++ q ∷ []) ps qs rest other.3 (omega (arith, long)) in
    cc

-- with one piece more the answer behind the fewer brings it
has_more : (how : How) (step : TagState → Signal → TagStep) (s : TagState) (before ps qs : List (List ℕ)) (r : Signal) → IsBroughtBy how step s before ps →
    IsBroughtBy how step s before qs → length ps ≡ suc (length qs) → (step (after_all step s (asked_for how before qs)) (next_command how (before ++ qs))).answer ≡ Some r →
    (p : List ℕ) × Brings how (before ++ qs) r p
has_more how step s before [] qs r is other long answer = absurd (omega (arith, long))
has_more how step s before (p ∷ ps) [] r is other long answer =
    let none : before ++ [] ≡ before = append-nil before in
    let here : (step s (next_command how before)).answer ≡ Some r = subst (λ b. (step s (next_command how b)).answer ≡ Some r) none answer in
    let same : is.0 ≡ r = some_one (step s (next_command how before)).answer r is.0 here is.1 in
    (p, subst (λ b. Brings how b r p) (sym none) (subst (λ x. Brings how before x p) same is.2))
has_more how step s before (p ∷ ps) (q ∷ qs) r is other long answer =
    let c : Signal = next_command how before in
    let t : TagState = (step s c).after in
    let one : p ≡ q = one_piece how before (step s c).answer is.0 other.0 p q is.1 other.1 is.2 other.2 in
    let rest : IsBroughtBy how step t (before ++ q ∷ []) ps = subst (λ x. IsBroughtBy how step t (before ++ x ∷ []) ps) one is.3 in
    let e : (before ++ q ∷ []) ++ qs ≡ before ++ (q ∷ qs) = before_more before q qs in
    let more = has_more how step t (before ++ q ∷ []) ps qs r rest other.3 (omega (arith, long))
    (subst (λ b. (step (after_all step t (asked_for how (before ++ q ∷ []) qs)) (next_command how b)).answer ≡ Some r) (sym e) answer) in
    (more.0, subst (λ b. Brings how b r more.0) e more.1)

asked_length : (how : How) (before ps : List (List ℕ)) → length (asked_for how before ps) ≡ length ps
asked_length how before [] = refl
asked_length how before (p ∷ ps) = ap (λ n. suc n) (asked_length how (before ++ p ∷ []) ps)

-- two descriptions of what was answered between two views
brought_length : (how : How) (a b : LinkView) (ps : List (List ℕ)) → IsBrought how a b ps → length b.answered ≡ length a.answered + length ps
brought_length how a b ps is = omega (arith, ap length is.answered, length-append a.answered (asked_for how [] ps), asked_length how [] ps)

stopped_length : (how : How) (a b : LinkView) (ps : List (List ℕ)) (r : Signal) → IsStopped how a b ps r → length b.answered ≡ length a.answered + suc (length ps)
stopped_length how a b ps r is =
    let asked : List Signal = asked_for how [] ps in
    let last : List Signal = next_command how ps ∷ [] in
    omega (arith, ap length is.answered, length-append a.answered (asked ++ last), length-append asked last, asked_length how [] ps)

pub two_brought : (how : How) (a b : LinkView) (ps qs : List (List ℕ)) → IsBrought how a b ps → IsBrought how a b qs → ps ≡ qs
two_brought how a b ps qs is other =
    same_pieces how a.step a.state [] ps qs is.pieces other.pieces (omega (arith, brought_length how a b ps is, brought_length how a b qs other))

pub brought_stopped : (how : How) (a b : LinkView) (ps qs : List (List ℕ)) (r : Signal) → IsBrought how a b ps → IsStopped how a b qs r → (p : List ℕ) × Brings how qs r p
brought_stopped how a b ps qs r is other =
    has_more how a.step a.state [] ps qs r is.pieces other.pieces (omega (arith, brought_length how a b ps is, stopped_length how a b qs r other)) other.answer

pub two_stopped : (how : How) (a b : LinkView) (ps qs : List (List ℕ)) (r t : Signal) → IsStopped how a b ps r → IsStopped how a b qs t → (ps ≡ qs) × (r ≡ t)
two_stopped how a b ps qs r t is other =
    let same = same_pieces how a.step a.state [] ps qs is.pieces other.pieces (omega (arith, stopped_length how a b ps r is, stopped_length how a b qs t other)) in
    let here : (a.step (after_all a.step a.state (asked_for how [] qs)) (next_command how qs)).answer ≡ Some r =
    subst (λ x. (a.step (after_all a.step a.state (asked_for how [] x)) (next_command how x)).answer ≡ Some r) same is.answer in
    (same, some_one (a.step (after_all a.step a.state (asked_for how [] qs)) (next_command how qs)).answer t r other.answer here)

-- an answer refuses with one code
one_code : (how : How) (r : Signal) (c d : ℕ) → Refuses how r c → Refuses how r d → c ≡ d
one_code how r c d is other = (let both : Some c ≡ Some d = sym is ∙ other in cc)

-- the error that ends a tag has a code
pub ends_code : (how : How) (ps : List (List ℕ)) (r : Signal) → EndsTag how ps r → (code : ℕ) × Refuses how r code
ends_code T2 ps r ends = absurd ends
ends_code T4 ps r ends = absurd ends
ends_code (T5 id) ps r ends = (no_block, error_refuses id r no_block ends.2)

-- what a reading told where the last answer brings no piece
abbrev Last : How → List (List ℕ) → Signal → Result Found ReadFault → Type 0
Last how ps r result =
    ((code : ℕ) × (result ≡ Err (fault.Refused code)) × Refuses how r code) ⊎ (((result ≡ Err fault.Protocol) × IsOdd how ps r) ⊎ EndsTag how ps r)

last_cut : (how : How) (a b : LinkView) (ps : List (List ℕ)) (r : Signal) (f : form.Form) (result : Result Found ReadFault) → IsStopped how a b ps r →
    ((p : List ℕ) → Brings how ps r p → ⊥) → IsNone how a b f → Last how ps r result
last_cut how a b ps r f result stopped none (inl is) = (let more = brought_stopped how a b is.ps ps r is.brought stopped in absurd (none more.0 more.1))
last_cut how a b ps r f result stopped none (inr is) =
    let same = two_stopped how a b is.ps ps is.r r is.stopped stopped in
    inr (inr (subst (λ x. EndsTag how x r) same.0 (subst (λ x. EndsTag how is.ps x) same.1 is.ends)))

over_none : (b : LinkView) (e : AskFault) (P : Type 0) → b.over ≡ None → b.over ≡ Some e → P
over_none b e P none some = (let clash : None ≡ Some e = sym none ∙ some in absurd (cc))

told_last : (how : How) (a b : LinkView) (ps : List (List ℕ)) (r : Signal) (result : Result Found ReadFault) → IsStopped how a b ps r →
    ((p : List ℕ) → Brings how ps r p → ⊥) → IsToldBy how a b result → Last how ps r result
told_last how a b ps r (Ok found) stopped none told = (let more = brought_stopped how a b told.ps ps r told.brought stopped in absurd (none more.0 more.1))
told_last how a b ps r (Err fault.NotNdef) stopped none told = last_cut how a b ps r _ _ stopped none told
told_last how a b ps r (Err fault.Version) stopped none told = last_cut how a b ps r _ _ stopped none told
told_last how a b ps r (Err fault.NoRead) stopped none told = last_cut how a b ps r _ _ stopped none told
told_last how a b ps r (Err fault.Sectors) stopped none told = last_cut how a b ps r _ _ stopped none told
told_last how a b ps r (Err fault.BadSize) stopped none told = last_cut how a b ps r _ _ stopped none told
told_last how a b ps r (Err fault.NoMessageTlv) stopped none told = last_cut how a b ps r _ _ stopped none told
told_last how a b ps r (Err fault.BadTlv) stopped none told = last_cut how a b ps r _ _ stopped none told
told_last how a b ps r (Err (fault.Refused code)) stopped none told =
    let same = two_stopped how a b told.ps ps told.r r told.stopped stopped in
    inl (code, refl, subst (λ x. Refuses how x code) same.1 told.refuses)
told_last how a b ps r (Err fault.Protocol) stopped none (inl told) =
    let same = two_stopped how a b told.ps ps told.r r told.stopped stopped in
    inr (inl (refl, subst (λ x. IsOdd how x r) same.0 (subst (λ x. IsOdd how told.ps x) same.1 told.odd)))
told_last how a b ps r (Err fault.Protocol) stopped none (inr told) = over_none b ask.Protocol _ stopped.over told.ends'.0
told_last how a b ps r (Err fault.FieldLost) stopped none told = over_none b ask.FieldLost _ stopped.over told.ends'.0
told_last how a b ps r (Err fault.SixBad) stopped none told = over_none b ask.SixBad _ stopped.over told.ends'.0
told_last how a b ps r (Err fault.Memory) stopped none told = (let more = brought_stopped how a b told.ps ps r told.brought stopped in absurd (none more.0 more.1))

-- the last answer refuses
pub exactly_refused : (how : How) (a b : LinkView) (code : ℕ) (result : Result Found ReadFault) → IsToldBy how a b result → IsRefused how a b code → result ≡ Err (fault.Refused code)
exactly_refused how a b code result told is =
    elim (told_last how a b is.ps is.r result is.stopped (λ p brings. brings_free how is.ps is.r p code brings is.last is.refuses) told) [
      | inl other ↦ other.1 ∙ ap (λ c. Err (fault.Refused c)) (one_code how is.r other.0 code other.2 is.refuses)
      | inr rest ↦ elim rest [ inl odd ↦ absurd (odd.1.no_refusal code is.refuses) | inr ends ↦ absurd (is.ends ends) ]
    ]

-- the last answer has no form that is asked for
pub exactly_odd : (how : How) (a b : LinkView) (result : Result Found ReadFault) → IsToldBy how a b result → IsOddly how a b → result ≡ Err fault.Protocol
exactly_odd how a b result told is =
    elim (told_last how a b is.ps is.r result is.stopped (λ p brings. is.odd.no_piece p brings) told) [
      | inl other ↦ absurd (is.odd.no_refusal other.0 other.2)
      | inr rest ↦ elim rest [ inl odd ↦ odd.0 | inr ends ↦ (let code = ends_code how is.ps is.r ends in absurd (is.odd.no_refusal code.0 code.1)) ]
    ]

-- the link is over
over_same : (b : LinkView) (e f : AskFault) (result : Result Found ReadFault) → b.over ≡ Some e → b.over ≡ Some f → result ≡ Err (of_link f) → result ≡ Err (of_link e)
over_same b e f result one two told = (let both : Some f ≡ Some e = sym two ∙ one in let same : f ≡ e = cc in told ∙ ap (λ g. Err (of_link g)) same)

pub none_over : (how : How) (a b : LinkView) (f : form.Form) → IsNone how a b f → b.over ≡ None
none_over how a b f (inl is) = is.over
none_over how a b f (inr is) = is.stopped.over

pub over_cut : (how : How) (a b : LinkView) (f : form.Form) (e : AskFault) (P : Type 0) → b.over ≡ Some e → IsNone how a b f → P
over_cut how a b f e P over is = over_none b e P (none_over how a b f is) over

pub exactly_over : (how : How) (a b : LinkView) (e : AskFault) (result : Result Found ReadFault) → IsToldBy how a b result → b.over ≡ Some e → result ≡ Err (of_link e)
exactly_over how a b e (Ok found) told over = over_none b e _ told.over over
exactly_over how a b e (Err fault.NotNdef) told over = over_cut how a b _ e _ over told
exactly_over how a b e (Err fault.Version) told over = over_cut how a b _ e _ over told
exactly_over how a b e (Err fault.NoRead) told over = over_cut how a b _ e _ over told
exactly_over how a b e (Err fault.Sectors) told over = over_cut how a b _ e _ over told
exactly_over how a b e (Err fault.BadSize) told over = over_cut how a b _ e _ over told
exactly_over how a b e (Err fault.NoMessageTlv) told over = over_cut how a b _ e _ over told
exactly_over how a b e (Err fault.BadTlv) told over = over_cut how a b _ e _ over told
exactly_over how a b e (Err (fault.Refused code)) told over = over_none b e _ told.stopped.over over
exactly_over how a b e (Err fault.Protocol) (inl told) over = over_none b e _ told.stopped.over over
exactly_over how a b e (Err fault.Protocol) (inr told) over = over_same b e ask.Protocol _ over told.ends'.0 refl
exactly_over how a b e (Err fault.FieldLost) told over = over_same b e ask.FieldLost _ over told.ends'.0 refl
exactly_over how a b e (Err fault.SixBad) told over = over_same b e ask.SixBad _ over told.ends'.0 refl
exactly_over how a b e (Err fault.Memory) told over = elim told.ends' [ inl none ↦ over_none b e _ none over | inr by ↦ over_same b e ask.Memory (Err fault.Memory) over by.0 refl ]

-- the clauses
pub tells_refused : (how : How) (a b : LinkView) (code : ℕ) (result : Result Found ReadFault) → IsToldBy how a b result → TellsExactly how a b result (fault.Refused code)
tells_refused how a b code result told = (λ e. subst (λ r. IsToldBy how a b r) e told, λ is. exactly_refused how a b code result told is)

pub tells_protocol : (how : How) (a b : LinkView) (result : Result Found ReadFault) → IsToldBy how a b result → TellsExactly how a b result fault.Protocol
tells_protocol how a b result told =
    (λ e. subst (λ r. IsToldBy how a b r) e told, λ is. elim is [ inl odd ↦ exactly_odd how a b result told odd | inr ended ↦ exactly_over how a b ask.Protocol result told ended.ends'.0 ])
