use Rattle.std.proofs.Common.{◌≡◌, ◌∷◌, ◌++◌, [], ℕ, List, get_or, true, false, arith}
use Rattle.std.proofs.lemmas.Grind.{common_steps}
use Rattle.nfca_poll.specs.Poll.{Found, kind_of, has_bit, goes_on, is_one_byte}
use Rattle.nfca_poll.specs.Seeking.{levels_of}
use Rattle.nfca_poll.proofs.enquiries.SeekSteps.{is_found, found_is}
use Rattle.nfca_poll.proofs.seeking.select.Goals as goal

pub returns : goal.returns
returns c =
    let done : List (List ℕ) = levels_of c.args.done in
    let res : ℕ = get_or c.args.answer.now.bytes 0 0 in
    let one : is_one_byte c.args.answer.now ≡ true = grind (arith, common_steps) in
    let last : has_bit res 0x04 ≡ false = grind (arith, common_steps) in
    let whole : goes_on done c.args.level ≡ false = grind (arith, common_steps) in
    let kind : c.kind_of.result ≡ kind_of res = grind (arith, common_steps) in (
      Found (done ++ c.args.level ∷ []) (kind_of res),
      is_found done c.args.level c.args.answer.now one last whole,
      found_is done c.args.level res c.identifier.result c.kind_of.result c.identifier.ensures kind,
    )
