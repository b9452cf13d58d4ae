use Rattle.link_numbers.proofs.own.OwnShown as shown
use Rattle.link_numbers.proofs.law.calls_show.Goals as goal

pub returns-clause-own : goal.returns-clause-own
returns-clause-own c = shown.own_shows

pub returns-clause-closing : goal.returns-clause-closing
returns-clause-closing c = shown.own_shows_closing
