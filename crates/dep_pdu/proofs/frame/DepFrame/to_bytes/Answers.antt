use Rattle.std.proofs.Common.{List, ℕ, sym, subst, Some, ◌≡◌}
use Rattle.dep_pdu.specs.Spelling.{DepSpelling}
use Rattle.dep_pdu.specs.Reading.{spelled_frame}
use Rattle.dep_pdu.proofs.Spelled.{written_spells, written_back}
use Rattle.dep_pdu.proofs.frame.DepFrame.to_bytes.Goals as goal

pub returns-clause-exact : goal.returns-clause-exact
returns-clause-exact c = λ range. subst (DepSpelling c.args.self.now) (sym c.write_frame.ensures) (written_spells c.args.self.now range)

pub returns-clause-back : goal.returns-clause-back
returns-clause-back c = λ range.
    let P : List ℕ → Type 0 = λ b. spelled_frame b ≡ Some c.args.self.now in
    subst P (sym c.write_frame.ensures) (written_back c.args.self.now range)
