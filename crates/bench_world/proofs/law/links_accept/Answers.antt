use Rattle.bench_world.proofs.link_law.CutLinks.{cut_arrival_law, cut_link_law}
use Rattle.bench_world.proofs.link_law.LinksAccepted.{link_law}
use Rattle.bench_world.proofs.law.links_accept.Goals as goal

pub returns-clause-whole : goal.returns-clause-whole
returns-clause-whole c = link_law

pub returns-clause-cut : goal.returns-clause-cut
returns-clause-cut c = cut_link_law

pub returns-clause-stopped : goal.returns-clause-stopped
returns-clause-stopped c = cut_arrival_law
