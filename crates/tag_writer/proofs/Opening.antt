-- The phases of a write, one after another.
use Rattle.std.proofs.Common.{List, [], ◌++◌, Result, Ok, Err, inr}
use Rattle.nfc_base.specs.Signal.{Signal}
use Rattle.nfc_base.specs.TagLinks.{LinkView, Rises}
use Rattle.nfc_base.proofs.Leading.{rises_on}
use Rattle.tag_reader.specs.Heard.{IsOf}
use Rattle.tag_reader.specs.Reading.{IsCalm}
use Rattle.tag_reader.specs.declared.how.How.{How}
use Rattle.tag_writer.specs.declared.phase.Phase.TheVariants.{Prepared, Emptied, Filled}
use Rattle.tag_writer.specs.declared.phase.Stopped.{Stopped}
use Rattle.tag_writer.specs.declared.work.Work.{Work}
use Rattle.tag_writer.specs.Commands.{commands_at}
use Rattle.tag_writer.specs.Ends.{HasReached, HasStopped, EndsPhase, HasFailed, EndsWork}
use Rattle.tag_writer.specs.Phases.{WriteJob, Since, how_of}
use Rattle.tag_writer.specs.Puts.{Put}
use Rattle.tag_writer.specs.WriteHeard.{AreAcknowledged}
use Rattle.tag_writer.proofs.Acknowledging.{acknowledged_on, of_left, stops_before, stops_behind}
use Rattle.tag_writer.proofs.Calming.{calm_on}

-- in calm since the view at which the writing began
still : (j : WriteJob) (a b c : LinkView) (puts : List Put) → Since j a b puts → Rises b c → IsCalm a c → IsCalm b c
still j a b c puts s rises calm = calm_on a b c (record { rises = s.rises; link = inr s.goes_on }) rises calm

-- behind a phase that is reached the link leads to a tag of the same kind
pub of_reached : (work : Work) (a b : LinkView) (commands : List Signal) → IsOf (how_of work) a → AreAcknowledged (how_of work) a b commands → IsOf (how_of work) b
of_reached work a b commands of told = of_left (how_of work) a b commands of told.left

module _ (work : Work) where
  abbrev how : How
  how = how_of work

  abbrev first : List Signal
  first = commands_at Prepared work

  abbrev second : List Signal
  second = commands_at Emptied work

  abbrev third : List Signal
  third = commands_at Filled work

  pub fails_first : (a b : LinkView) (s : Stopped) → HasStopped Prepared work a b s → HasFailed work a b s.cause
  fails_first a b s h = record {
    told = stops_before how a b (first ++ second) third s.cause (stops_before how a b first second s.cause h.told);
    err = h.law;
    calm = λ j v at since calm. h.calm j at (still j v a b [] since h.rises calm);
  }

  pub fails_second : (a v b : LinkView) (s : Stopped) → HasReached Prepared work a v → HasStopped Emptied work v b s → HasFailed work a b s.cause
  fails_second a v b s r h = record {
    told = stops_before how a b (first ++ second) third s.cause (stops_behind how a v b first second s.cause r.told r.rises h.told);
    err = λ j x at since. h.law j x (r.ok j at) (r.since j x at since);
    calm = λ j x at since calm. h.calm j (r.ok j at) (still j x v b j.parts.close (r.since j x at since) h.rises calm);
  }

  pub ends_third : {A : Type 0} (a v x b : LinkView) (result : Result A Stopped) → HasReached Prepared work a v → HasReached Emptied work v x → EndsPhase Filled work x b result
      → EndsWork work a b result
  ends_third a v x b (Ok y) p q h = record {
    told = acknowledged_on how a x b (first ++ second) third (acknowledged_on how a v x first second p.told q.told) h.told;
    ok = λ j w at since. h.since j w (q.ok j (p.ok j at)).0 (q.since j w (p.ok j at) (p.since j w at since));
    new = λ j at. h.ok j (q.ok j (p.ok j at)).0;
  }
  ends_third a v x b (Err s) p q h = record {
    told = stops_behind how a x b (first ++ second) third s.cause (acknowledged_on how a v x first second p.told q.told) (rises_on a v x p.rises q.rises) h.told;
    err = λ j w at since. h.law j w (q.ok j (p.ok j at)).0 (q.since j w (p.ok j at) (p.since j w at since));
    calm = λ j w at since calm. h.calm j (q.ok j (p.ok j at)).0
        (still j w x b (j.parts.close ++ j.parts.fill) (q.since j w (p.ok j at) (p.since j w at since)) h.rises calm);
  }
