use Rattle.std.proofs.Common.{ℕ, ◌+◌, ◌++◌, [], ◌∷◌, List, length, take, refl, sym, ap, arith, subst}
use Rattle.std.specs.List.{All}
use Rattle.tlv_area.specs.Walking.{IsPassed}
use Rattle.tlv_area.proofs.Walks.{three_here, fits_here, size_bound, passed_past, stands_past}
use Rattle.tlv_area.proofs.walk.Walker.pass.Goals as goal

pub reserve-requires-clause-three : goal.reserve-requires-clause-three
reserve-requires-clause-three c =
    three_here c.args.self.now c.args.known.now c.requires.come.0 c.requires.come.1 (λ i. omega (arith, c.type_inv.known i)) c.args.found.now c.requires.found.0 c.requires.found.1

pub size_of-requires : goal.size_of-requires
size_of-requires c =
    fits_here c.args.self.now c.args.known.now c.requires.come.0 c.requires.come.1 (λ i. omega (arith, c.type_inv.known i)) c.args.found.now c.requires.found.0 c.requires.found.1

pub overflow_add-self : goal.overflow_add-self
overflow_add-self c =
    omega (
      arith,
      c.size_of.ensures.value,
      c.requires.come.1.place_low,
      c.fits-self,
      size_bound c.args.self.now c.args.known.now c.requires.come.0 c.requires.come.1 (λ i. omega (arith, c.type_inv.known i)) c.args.found.now c.requires.found.0 c.requires.found.1,
    )

pub returns-clause-come : goal.returns-clause-come
returns-clause-come c =
    let come = c.requires.come in
    let rs : List (ℕ × ℕ) = c.reserve.new.reserved.items in
    let passed = rw c.as_slice.ensures.value at c.count_passed-self.ensures.passed in (
      come.0 ++ c.requires.found.0 ∷ [],
      stands_past c.args.self.now c.args.known.now come.0 come.1 (λ i. omega (arith, c.type_inv.known i)) c.args.found.now c.requires.found.0 c.requires.found.1
          (record { space = c.args.self.now.space; reserved = c.reserve.new.reserved; passed = c.count_passed-self.result; at = c.args.found.now.past; tlv = c.args.self.now.tlv + c.size_of.result })
          refl refl (ap (λ n. c.args.self.now.tlv + n) c.size_of.ensures.value) c.requires.plain c.reserve.ensures.ranges c.reserve.ensures.ordered c.reserve.ensures.count
          (omega (arith, c.count_passed-self.ensures.counted, ap length c.as_slice.ensures.value)) passed,
    )

pub count_passed-self-requires-clause-passed : goal.count_passed-self-requires-clause-passed
count_passed-self-requires-clause-passed c =
    subst (λ rs. All (IsPassed c.args.found.now.past) (take c.args.self.now.passed rs)) (sym c.as_slice.ensures.value)
    (passed_past c.args.self.now c.args.known.now c.requires.come.0 c.requires.come.1 (λ i. omega (arith, c.type_inv.known i)) c.args.found.now c.requires.found.0 c.requires.found.1
    c.reserve.new.reserved.items c.reserve.ensures.front)
