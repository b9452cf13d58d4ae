use Rattle.std.proofs.Common.{◌≡◌, IsTrue, ◌↔◌, subst, rules}
use Rattle.nfc_base.specs.Signal.{Signal, IsSignal}
use Rattle.nfc_base.proofs.Deciding.{tests_bits}
use Rattle.nfc_base.proofs.frame.Frame.is_same.Goals as goal

pub returns-then-self-other-clause-bits : goal.returns-then-self-other-clause-bits
returns-then-self-other-clause-bits c =
    let P : Signal → Type 0 = IsSignal in
    let test : IsTrue c.eq-then-self-other.result ↔ (c.args.self.now ≡ c.args.other.now) = search rules in
    tests_bits c.args.self.now c.args.other.now c.eq-then-self-other.result (subst P c.self.view_is c.self.invariant) (subst P c.other.view_is c.other.invariant) test

pub returns-else-self-other-clause-bits : goal.returns-else-self-other-clause-bits
returns-else-self-other-clause-bits c =
    let P : Signal → Type 0 = IsSignal in
    let test : IsTrue c.if-eq.value ↔ (c.args.self.now ≡ c.args.other.now) = search rules in
    tests_bits c.args.self.now c.args.other.now c.if-eq.value (subst P c.self.view_is c.self.invariant) (subst P c.other.view_is c.other.invariant) test
