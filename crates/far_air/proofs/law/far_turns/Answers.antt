use Rattle.far_air.proofs.FarTurns.{far_turns, far_resets, speaks_far, far_goes_on, far_goes_then}
use Rattle.far_air.proofs.law.far_turns.Goals as goal

pub returns-clause-reset : goal.returns-clause-reset
returns-clause-reset g c = λ m linked t. far_resets m linked t

pub returns-clause-turn : goal.returns-clause-turn
returns-clause-turn g c = λ m linked t view. far_turns m linked t _ _ view

pub returns-clause-speaks : goal.returns-clause-speaks
returns-clause-speaks g c = λ m linked t next place view. speaks_far m linked t _ _ next place view

pub returns-clause-on : goal.returns-clause-on
returns-clause-on g c = λ m linked t. far_goes_on m linked t

pub returns-clause-then : goal.returns-clause-then
returns-clause-then g c = λ m linked t. far_goes_then m linked t
