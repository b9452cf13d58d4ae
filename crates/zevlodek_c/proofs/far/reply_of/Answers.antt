use Rattle.std.proofs.Common.{rules}
use Rattle.zevlodek_c.specs.Entries.{a_reply}
use Rattle.zevlodek_c.proofs.far.reply_of.Goals as goal

-- src/far.rt:30:33
pub returns-in_err-kind-clause-none : goal.returns-in_err-kind-clause-none
returns-in_err-kind-clause-none c is reply rest s =
    c.entry_of.ensures.none (search rules) (record { kind = a_reply; content = reply }) rest s.spelled
