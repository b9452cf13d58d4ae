use Rattle.nfc_io.proofs.Behind.{gives_all}
use Rattle.nfc_io.proofs.law.rest_behind_lines.Goals as goal

pub returns : goal.returns
returns c = gives_all
