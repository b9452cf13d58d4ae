use Rattle.std.proofs.Common.{◌≡◌, ℕ, ◌%◌, List, ◌∷◌, length, Bool, ◌∙◌, arith}
use Rattle.std.proofs.lemmas.Grind.{common_steps}
use Rattle.nfc_base.specs.Bits.{packed}
use Rattle.nfca_poll.specs.Calls.{sel_cmd, sel_par}
use Rattle.nfca_poll.proofs.identifiers.KnownPacks.{sdd_tail, sdd_signal}
use Rattle.nfca_poll.proofs.requests.sdd_req.Goals as goal

pub unwrap-requires-2 : goal.unwrap-requires-2
unwrap-requires-2 c =
    let known : List Bool = c.args.known.now in
    let a : ℕ = sel_cmd c.args.level in
    let p : ℕ = sel_par (length known) in
    let bytes : c.deref-2.result.now ≡ a ∷ p ∷ packed known = grind (arith, common_steps) in
    let tail : length known % 8 ≡ length known % 8 = omega arith in
    c.part.ensures.fits.1 (omega (arith, c.deref-2.ensures.1), λ bad. sdd_tail a p known c.deref-2.result.now (length known % 8) (omega arith) (omega arith) bytes tail (grind (arith, common_steps)))

pub returns : goal.returns
returns c =
    let known : List Bool = c.args.known.now in
    let a : ℕ = sel_cmd c.args.level in
    let p : ℕ = sel_par (length known) in
    let bytes : c.deref-2.result.now ≡ a ∷ p ∷ packed known = grind (arith, common_steps) in
    grind (arith, common_steps) ∙ sdd_signal a p known c.deref-2.result.now (length known % 8) (omega arith) (omega arith) bytes (omega arith)
