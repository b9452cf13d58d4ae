use Rattle.bench_world.proofs.calm.CompleteForging.{forged_kinds, forgings_complete}
use Rattle.link_calls.specs.Asking.{Does, Closes, Finding, Getting, Putting, put_from}
use Rattle.bench_world.proofs.calm.CompleteRaws.{raws_complete}
use Rattle.bench_world.proofs.calm.CompleteLinks.{asked_complete, valid_is_ok}
use Rattle.bench_world.proofs.calm.CompleteLinkings.{kinds_told, linkings_complete}
use Rattle.bench_world.proofs.law.links_complete.Goals as goal

pub returns-clause-asked : goal.returns-clause-asked
returns-clause-asked c = asked_complete

pub returns-clause-puts : goal.returns-clause-puts
returns-clause-puts c = λ slot m. asked_complete (Does (put_from slot m))

pub returns-clause-several : goal.returns-clause-several
returns-clause-several c = λ ws. asked_complete (Does (Putting ws))

pub returns-clause-gets : goal.returns-clause-gets
returns-clause-gets c = λ sap most key. asked_complete (Does (Getting sap most key))

pub returns-clause-lookups : goal.returns-clause-lookups
returns-clause-lookups c = λ name. asked_complete (Does (Finding name))

pub returns-clause-unlinks : goal.returns-clause-unlinks
returns-clause-unlinks c = asked_complete Closes

pub returns-clause-valid : goal.returns-clause-valid
returns-clause-valid c = valid_is_ok

pub returns-clause-linkings : goal.returns-clause-linkings
returns-clause-linkings c = linkings_complete

pub returns-clause-kinds : goal.returns-clause-kinds
returns-clause-kinds c = kinds_told

pub returns-clause-forgings : goal.returns-clause-forgings
returns-clause-forgings c = forgings_complete

pub returns-clause-forged : goal.returns-clause-forged
returns-clause-forged c = forged_kinds

pub returns-clause-raws : goal.returns-clause-raws
returns-clause-raws c = raws_complete
