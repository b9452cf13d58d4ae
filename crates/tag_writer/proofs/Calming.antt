-- Writes that were made, and the link behind them: how it ends the next one, and that in calm it ends none.
use Rattle.std.proofs.Common.{◌≡◌, inl, inr, List, [], ◌∷◌, false, Some, None, refl, sym, ◌∙◌, ap, subst, arith}
use Rattle.std.specs.Prelude.{◌⊎◌, is_some, if◌then◌else◌}
use Rattle.nfc_base.specs.TagLinks.{LinkView, after_all, Rises, AskCause}
use Rattle.nfc_base.specs.declared.tag_link.AskFault.{AskFault}
use Rattle.nfc_base.specs.declared.tag_link.AskFault.TheVariants as ask
use Rattle.nfc_base.proofs.Leading.{rises_on, rises_again, cause_on}
use Rattle.tag_reader.specs.declared.how.How.{How}
use Rattle.tag_reader.specs.Calls.{GoesOn, ByLink}
use Rattle.tag_reader.specs.Reading.{IsCalm}
use Rattle.tag_writer.specs.declared.fault.WriteFault.{WriteFault}
use Rattle.tag_writer.specs.declared.fault.WriteFault.TheVariants as fault
use Rattle.tag_writer.specs.Puts.{Put, commands_of}
use Rattle.tag_writer.specs.WriteAsked.{refused_by}
use Rattle.tag_writer.specs.Faults.{IsToldOrMemory}
use Rattle.tag_writer.specs.Puttings.{of_link, Makes, FailsBy, BreaksOff}

-- from one view on a link went on, or nothing was asked
pub record Went (a b : LinkView) : Type 0 where
  pub rises : Rises a b
  pub link : (b ≡ a) ⊎ GoesOn a b

pub went_makes : (how : How) (a b : LinkView) (ps : List Put) → Makes how a ps b → Went a b
went_makes how a b [] m = record { rises = subst (Rises a) (sym m) (rises_again a); link = inl m }
went_makes how a b (p ∷ ps) m =
    let rest = went_makes how m.0 b ps m.2 in
    let first = m.1.0 in
    record {
      rises = rises_on a m.0 b first.obeyed.rises rest.rises;
      link = inr (elim rest.link [
        | inl same ↦ subst (λ v. GoesOn a v) (sym same) first.goes_on
        | inr on ↦ record { over = on.over; lit = on.lit; counts = on.counts ∙ first.goes_on.counts }
      ]);
    }

-- a link that ends then ends by a cause of the whole
pub link_on : (a b c : LinkView) (f : AskFault) → Went a b → ByLink b c f → ByLink a c f
link_on a b c f went by = (by.0, by_link went.link)
  where
    by_link : (b ≡ a) ⊎ GoesOn a b → (a.over ≡ Some f) ⊎ AskCause a c f
    by_link (inl same) = subst (λ v. (v.over ≡ Some f) ⊎ AskCause v c f) same by.1
    by_link (inr on) = elim by.1 [
      | inl before ↦ absurd (let no : Some f ≡ None = sym before ∙ on.over in cc)
      | inr here ↦ inr (cause_on a b c f went.rises on.lit here)
    ]

-- the tag behind them, by its step and state at the first view
pub record Left (how : How) (a b : LinkView) (ps : List Put) : Type 0 where
  pub step : b.step ≡ a.step
  pub state : b.state ≡ after_all a.step a.state (commands_of ps)
  pub accepted : refused_by how a.step a.state (commands_of ps) ≡ None

pub left_makes : (how : How) (a b : LinkView) (ps : List Put) → Makes how a ps b → Left how a b ps
left_makes how a b [] m = record { step = ap (λ v. v.step) m; state = ap (λ v. v.state) m; accepted = refl }
left_makes how a b (p ∷ ps) m =
    let v : LinkView = m.0 in
    let rest = left_makes how v b ps m.2 in
    let step : v.step ≡ a.step = m.1.0.obeyed.leads.step in
    let state : v.state ≡ (a.step a.state p.command).after = m.1.0.state in
    record {
      step = rest.step ∙ step;
      state = rest.state ∙ ap (λ st. after_all st v.state (commands_of ps)) step ∙ ap (λ s. after_all a.step s (commands_of ps)) state;
      accepted = ap (λ o. if is_some o then o else refused_by how a.step (a.step a.state p.command).after (commands_of ps)) m.1.1
          ∙ sym (ap (λ st. refused_by how st v.state (commands_of ps)) step ∙ ap (λ s. refused_by how a.step s (commands_of ps)) state) ∙ rest.accepted;
    }

-- a part of what was calm was calm
pub calm_on : (a b c : LinkView) → Went a b → Rises b c → IsCalm a c → IsCalm b c
calm_on a b c went rises calm = by_link went.link
  where
    still : (b.over ≡ None) → (b.dark ≡ false) → b.counts ≡ a.counts → IsCalm b c
    still over lit same = record {
      begun = over;
      lit = lit;
      calm = elim calm.calm [
        | inl quiet ↦ inl (omega (arith, quiet, went.rises.noise, rises.noise))
        | inr counts ↦ inr (counts ∙ sym same)
      ];
    }

    by_link : (b ≡ a) ⊎ GoesOn a b → IsCalm b c
    by_link (inl e) = still (ap (λ v. v.over) e ∙ calm.begun) (ap (λ v. v.dark) e ∙ calm.lit) (ap (λ v. v.counts) e)
    by_link (inr on) = still on.over on.lit on.counts

told_memory : (f : AskFault) → f ≡ ask.Memory → of_link f ≡ fault.Memory
told_memory f e = ap of_link e

pub calm_fault : (how : How) (a c : LinkView) (ps : List Put) (e : WriteFault) → BreaksOff how a ps c e → IsCalm a c → IsToldOrMemory e
calm_fault how a c ps e off calm = by_fault off.fails
  where
    went : Went a off.at
    went = went_makes how a off.at off.front off.makes

    by_fault : FailsBy how off.at c off.next.command e → IsToldOrMemory e
    by_fault (inl r) = subst IsToldOrMemory (sym r.1) (inl refl)
    by_fault (inr l) = inr (l.1 ∙ told_memory l.0 (l.2.calm (calm_on a off.at c went l.2.obeyed.rises calm)))
