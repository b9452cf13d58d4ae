-- A link that ends in a write.
use Rattle.std.proofs.Common.{◌≡◌, ◌≢◌, inl, inr, Option, Some, None, false, true, refl, sym, ◌∙◌, ap, arith}
use Rattle.std.specs.Prelude.{Result, Err}
use Rattle.nfc_base.specs.Signal.{Signal}
use Rattle.nfc_base.specs.TagLinks.{LinkView, Obeys, Rises, IsFault, AskCause, IsEnded}
use Rattle.nfc_base.specs.declared.tag_link.AskFault.{AskFault}
use Rattle.nfc_base.specs.declared.tag_link.AskFault.TheVariants.{FieldLost, SixBad, Memory, Protocol}
use Rattle.tag_reader.specs.Reading.{IsCalm}
use Rattle.tag_reader.specs.declared.how.How.{How}
use Rattle.tag_writer.specs.Puttings.{AnswersAs, Loses}

pub some_answer : (how : How) (o : Option Signal) → AnswersAs how o → o ≢ None
some_answer how None is = absurd is
some_answer how (Some f) is = λ e. absurd cc

same_fault : (e f : AskFault) → ◌≡◌ {A = Result Signal AskFault} (Err f) (Err e) → e ≡ f
same_fault e f is = cc

-- where no count rose and the field was lit, memory alone is a cause
no_cause : (a b : LinkView) (f : AskFault) → a.dark ≡ false → b.counts ≡ a.counts → AskCause a b f → f ≡ Memory
no_cause a b FieldLost lit same (inl rose) = absurd (let e = ap (λ n. n.breaks) same in omega (arith, e, rose))
no_cause a b FieldLost lit same (inr dark) = absurd (let no : false ≡ true = sym lit ∙ dark in cc)
no_cause a b SixBad lit same rose = absurd (let e = ap (λ n. n.six_bad) same in omega (arith, e, rose))
no_cause a b Protocol lit same rose = absurd (let e = ap (λ n. n.odd) same in omega (arith, e, rose))
no_cause a b Memory lit same rose = refl

pub loses : (a b : LinkView) (c : Signal) (f : AskFault) → Obeys a b c → Rises a b → (a.over ≡ None → b.last ≡ Some c) → IsFault a b c f →
    (a.over ≡ None → AskCause a b f) → ((e : AskFault) → a.over ≡ Some e → IsEnded a b e (Err f)) →
    (a.over ≡ None → a.dark ≡ false → b.noise ≡ a.noise → (a.step a.state c).answer ≢ None → f ≡ Memory) → (a.step a.state c).answer ≢ None → Loses a b c f
loses a b c f obeys rises last fault cause ended calm answers = by_over a.over refl
  where
    quiet : IsCalm a b → f ≡ Memory
    quiet q = elim q.calm [
      | inl still ↦ calm q.begun q.lit still answers
      | inr same ↦ no_cause a b f q.lit same (cause q.begun)
    ]

    by_over : (o : Option AskFault) → a.over ≡ o → Loses a b c f
    by_over None e = record {
      obeyed = record { more = obeys.more; leads = obeys.leads; images' = obeys.steady.same; rises = rises };
      by = (fault.over, inr (cause e));
      store = fault.store;
      answered = fault.answered;
      last = inr (last e);
      calm = quiet;
    }
    by_over (Some g) e =
        let end = ended g e in
        record {
          obeyed = record { more = obeys.more; leads = obeys.leads; images' = obeys.steady.same; rises = rises };
          by = (fault.over, inl (e ∙ ap (λ x. Some x) (same_fault g f end.fault)));
          store = fault.store;
          answered = fault.answered;
          last = inl (ap (λ v. v.last) end.same, ap (λ v. v.over) end.same);
          calm = quiet;
        }
