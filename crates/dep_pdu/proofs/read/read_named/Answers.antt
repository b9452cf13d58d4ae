use Rattle.std.proofs.Common.{◌≡◌, List, ℕ, length, nat_lt, not, slice_index, None, Option, subst}
use Rattle.dep_pdu.specs.Refusal.{head, fault, is_direction}
use Rattle.dep_pdu.specs.Reading.{TellsNamed}
use Rattle.dep_pdu.specs.declared.head.Head.{Head}
use Rattle.dep_pdu.specs.declared.refusal.DepKind.TheVariants.{Direction, Trailing}
use Rattle.dep_pdu.proofs.Rows.{unnamed}
use Rattle.dep_pdu.proofs.read.read_named.Goals as goal

pub returns-in-None : goal.returns-in-None
returns-in-None c =
    let b : List ℕ = c.args.bytes.now in
    let h : None ≡ head b = c.in-None.ensures.reads in
    let P : Option Head → Type 0 = λ o. TellsNamed c.unnamed.result o b in
    subst P h
    (unnamed c.unnamed.result (length b) (fault (not (is_direction (slice_index b 2))) 2 Direction) (fault (nat_lt 4 (length b)) 4 Trailing)
    c.requires.whole (c.unnamed.ensures None))
