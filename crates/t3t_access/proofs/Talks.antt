-- One command more, behind those that were answered.
use Rattle.std.proofs.Common.{◌≡◌, ◌≢◌, ℕ, inl, inr, ◌⊎◌, List, [], ◌∷◌, ◌++◌, Option, Some, None, Result, Ok, Err, IfOk, IfErr, false, refl, sym, ◌∙◌, ap, subst, append_assoc, append-nil, arith}
use Rattle.std.specs.List.{AllByRecursion}
use Rattle.nfc_base.specs.Signal.{Signal}
use Rattle.nfc_base.specs.TagLinks.{LinkView, TagState, TagStep, Rises, Obeys, AskCause, IsAnswer, IsFault, IsEnded, after_all, passed}
use Rattle.nfc_base.specs.declared.tag_link.AskFault.{AskFault}
use Rattle.nfc_base.specs.declared.tag_link.AskFault.TheVariants.{FieldLost, SixBad, Memory, Protocol}
use Rattle.nfc_base.proofs.Leading.{after_append, passed_on, leads_again, leads_on, rises_again, rises_on, cause_on}
use Rattle.t3t_access.specs.Talk.{Spread, Calls, GoesOn, last_of, Answered, Says, Fails, AskedNext}

-- some stores more, behind one command more
spread_more : (step : TagState → Signal → TagStep) (s : TagState) (cs : List Signal) (c : Signal) (stores more : List (List ℕ))
    → Spread step s cs stores → AllByRecursion (λ t. t ≡ (step (after_all step s cs) c).after.store) more → Spread step s (cs ++ c ∷ []) (stores ++ more)
spread_more step s [] c stores more is all =
    (more, [], ap (λ xs. xs ++ more) is ∙ sym (append-nil more), all, refl)
spread_more step s (d ∷ cs) c stores more (xs, ys, joined, these, rest) all =
    (xs, ys ++ more, ap (λ zs. zs ++ more) joined ∙ append_assoc xs ys more, these, spread_more step (step s d).after cs c ys more rest all)

pub last_more : (before : Option Signal) (cs : List Signal) (c : Signal) → last_of before (cs ++ c ∷ []) ≡ Some c
last_more before [] c = refl
last_more before (d ∷ cs) c = last_more (Some d) cs c

pub answered_none : (a : LinkView) → Answered a a []
answered_none a = record {
  calls = record { more = []; leads = leads_again a; spread = refl; rises = rises_again a };
  answered = sym (append-nil a.answered);
  last = refl;
  state = refl;
  over = refl;
  link = inl refl;
}

-- what the tag obeyed in one call more
calls_more : (a m b : LinkView) (cs : List Signal) (c : Signal) → Answered a m cs → Obeys m b c → Rises m b → Calls a b (cs ++ c ∷ [])
calls_more a m b cs c is obeys rises =
    let xs : List Signal = is.calls.more in
    let ys : List Signal = obeys.more in
    let step : m.step ≡ a.step = is.calls.leads.step in
    let store : (m.step m.state c).after.store ≡ (a.step (after_all a.step a.state cs) c).after.store =
    ap (λ f. (f m.state c).after.store) step ∙ ap (λ s. (a.step s c).after.store) is.state in
    let all : AllByRecursion (λ t. t ≡ (a.step (after_all a.step a.state cs) c).after.store) (passed m.step m.state ys) =
    subst (λ n. AllByRecursion (λ t. t ≡ n) (passed m.step m.state ys)) store obeys.steady.same in
    record {
      more = xs ++ ys;
      leads = leads_on a m b xs ys is.calls.leads obeys.leads;
      spread = subst (Spread a.step a.state (cs ++ c ∷ [])) (sym (passed_on a m b xs ys is.calls.leads obeys.leads))
          (spread_more a.step a.state cs c (passed a.step a.state xs) (passed m.step m.state ys) is.calls.spread all);
      rises = rises_on a m b is.calls.rises rises;
    }

counts_kept : (a m : LinkView) → (m ≡ a) ⊎ GoesOn a m → m.counts ≡ a.counts
counts_kept a m (inl e) = ap (λ (v : LinkView). v.counts) e
counts_kept a m (inr on) = on.counts

says_now : (a m : LinkView) (cs : List Signal) (c : Signal) → Answered a m cs → (m.step m.state c).answer ≡ (a.step (after_all a.step a.state cs) c).answer
says_now a m cs c is = ap (λ f. (f m.state c).answer) is.calls.leads.step ∙ ap (λ s. (a.step s c).answer) is.state

pub answered_more : (a m b : LinkView) (cs : List Signal) (c r : Signal) → Answered a m cs → Obeys m b c → Rises m b → (m.over ≡ None → b.last ≡ Some c)
    → IsAnswer m b c r → AskedNext a b cs c (Ok r)
answered_more a m b cs c r is obeys rises last answer = (
  record {
    calls = calls_more a m b cs c is obeys rises;
    answered = answer.answered ∙ ap (λ xs. xs ++ c ∷ []) is.answered ∙ append_assoc a.answered cs (c ∷ []);
    last = last answer.begun ∙ sym (last_more a.last cs c);
    state = answer.after ∙ ap (λ f. (f m.state c).after) is.calls.leads.step ∙ ap (λ s. (a.step s c).after) is.state ∙ sym (after_append a.step a.state cs (c ∷ []));
    over = answer.stays ∙ sym answer.begun ∙ is.over;
    link = inr (record { over = answer.stays; lit = answer.lit; counts = answer.counts ∙ counts_kept a m is.link });
  },
  sym (says_now a m cs c is) ∙ answer.answer,
)

cause_since : (a m b : LinkView) (e : AskFault) → Rises a m → (m ≡ a) ⊎ GoesOn a m → AskCause m b e → AskCause a b e
cause_since a m b e rises (inl same) cause = subst (λ v. AskCause v b e) same cause
cause_since a m b e rises (inr on) cause = cause_on a m b e rises on.lit cause

-- in calm only want of memory ends a link
lit_now : (a m : LinkView) → a.dark ≡ false → (m ≡ a) ⊎ GoesOn a m → m.dark ≡ false
lit_now a m lit (inl e) = ap (λ (v : LinkView). v.dark) e ∙ lit
lit_now a m lit (inr on) = on.lit

in_calm : (a m b : LinkView) (e : AskFault) → a.dark ≡ false → Rises a m → Rises m b → (b.noise ≡ a.noise) ⊎ (b.counts ≡ a.counts)
    → AskCause a b e → (b.noise ≡ m.noise → e ≡ Memory) → e ≡ Memory
in_calm a m b e lit p q (inl noise) cause quiet = quiet (omega (arith, p.noise, q.noise, noise))
in_calm a m b Memory lit p q (inr counts) cause quiet = refl
in_calm a m b FieldLost lit p q (inr counts) (inl rose) quiet =
    let n : b.counts.breaks ≡ a.counts.breaks = ap (λ x. x.breaks) counts in absurd (omega (arith, n, rose))
in_calm a m b FieldLost lit p q (inr counts) (inr dark) quiet = absurd (grind (arith, lit, dark))
in_calm a m b SixBad lit p q (inr counts) rose quiet =
    let n : b.counts.six_bad ≡ a.counts.six_bad = ap (λ x. x.six_bad) counts in absurd (omega (arith, n, rose))
in_calm a m b Protocol lit p q (inr counts) rose quiet =
    let n : b.counts.odd ≡ a.counts.odd = ap (λ x. x.odd) counts in absurd (omega (arith, n, rose))

-- What a call says of its fault.
pub record Faults (m b : LinkView) (c : Signal) (e : AskFault) : Type 0 where
  pub obeys : Obeys m b c
  pub rises : Rises m b
  pub last : m.over ≡ None → b.last ≡ Some c
  pub fault : IsFault m b c e
  pub cause : m.over ≡ None → AskCause m b e
  pub ended : (f : AskFault) → m.over ≡ Some f → b ≡ m
  pub calm : m.over ≡ None → m.dark ≡ false → b.noise ≡ m.noise → (m.step m.state c).answer ≢ None → e ≡ Memory

pub fails_more : (a m b : LinkView) (cs : List Signal) (c : Signal) (e : AskFault) → Answered a m cs → Faults m b c e → AskedNext a b cs c (Err e)
fails_more a m b cs c e is f = by_over m.over refl
  where
    calls : Calls a b (cs ++ c ∷ [])
    calls = calls_more a m b cs c is f.obeys f.rises

    answered : b.answered ≡ a.answered ++ cs
    answered = f.fault.answered ∙ is.answered

    some : (r : Signal) → Says a cs c r → (m.step m.state c).answer ≢ None
    some r says none =
        let x : (a.step (after_all a.step a.state cs) c).answer ≡ None = sym (says_now a m cs c is) ∙ none in
        let y : Some r ≡ None = sym says ∙ x in
        cc

    by_over : (o : Option AskFault) → m.over ≡ o → Fails a b cs c e
    by_over None going =
        let cause : AskCause a b e = cause_since a m b e is.calls.rises is.link (f.cause going) in
        record {
          calls = calls;
          answered = answered;
          last = inr (f.last going);
          by = (f.fault.over, inr cause);
          calm = λ calm r says. in_calm a m b e calm.lit is.calls.rises f.rises calm.calm cause
              (λ noise. f.calm going (lit_now a m calm.lit is.link) noise (some r says));
        }
    by_over (Some g) over =
        let same : b ≡ m = f.ended g over in
        let mine : m.over ≡ Some e = sym (ap (λ (v : LinkView). v.over) same) ∙ f.fault.over in
        let before : a.over ≡ Some e = sym is.over ∙ mine in
        record {
          calls = calls;
          answered = answered;
          last = inl (ap (λ (v : LinkView). v.last) same ∙ is.last, f.fault.over ∙ sym before);
          by = (f.fault.over, inl before);
          calm = λ calm r says. absurd (let x : None ≡ Some e = sym calm.begun ∙ before in cc);
        }

-- what a call says of its result
pub next_of : (a m b : LinkView) (cs : List Signal) (c : Signal) (result : Result Signal AskFault) → Answered a m cs → Obeys m b c → Rises m b → (m.over ≡ None → b.last ≡ Some c)
    → IfOk result (λ r. IsAnswer m b c r) → IfErr result (λ e. IsFault m b c e) → (m.over ≡ None → IfErr result (λ e. AskCause m b e)) → ((f : AskFault) → m.over ≡ Some f → IsEnded m b f result)
    → (m.over ≡ None → m.dark ≡ false → b.noise ≡ m.noise → (m.step m.state c).answer ≢ None → IfErr result (λ e. e ≡ Memory)) → AskedNext a b cs c result
next_of a m b cs c (Ok r) is obeys rises last ok err cause ended calm = answered_more a m b cs c r is obeys rises last ok
next_of a m b cs c (Err e) is obeys rises last ok err cause ended calm =
    fails_more a m b cs c e is (record { obeys = obeys; rises = rises; last = last; fault = err; cause = cause; ended = λ f over. (ended f over).same; calm = calm })
