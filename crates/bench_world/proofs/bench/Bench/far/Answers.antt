use Rattle.std.proofs.Common.{◌≡◌, ◌<◌, ℕ, length, Option, Some, None, Bor, rules, refl, sym, ap, subst}
use Rattle.std.specs.Prelude.{get_or, option_copied, IfSome}
use Rattle.bench_world.specs.Legal.{State}
use Rattle.bench_world.specs.Obeying.{Machines, Benched, FarAt, state_at}
use Rattle.bench_world.proofs.tags.Benches.{seen}
use Rattle.bench_world.proofs.devices.Peering.{far_in_state}
use Rattle.bench_world.proofs.bench.Bench.far.Goals as goal

-- what is lent is what stands there, and nothing is where nothing does
lent_of : {X : Type 0} (r : Option (Bor X)) (o : Option X) → IfSome r (λ l. o ≡ Some l.now) → (r ≡ None → o ≡ None) → o ≡ option_copied r
lent_of None o some none = none refl
lent_of (Some l) o some none = some

pub returns : goal.returns
returns c =
    let m : Machines = c.self.inside.machines in
    let place : ℕ = c.args.place in
    let view : c.args.self.now ≡ seen c.self.inside.finished.items c.self.inside.journal.items m c.self.inside.spoiled = search rules in
    let is : c.args.self.now.state ≡ state_at m = ap (λ (b : Benched). b.state) view in
    let end : get_or m.ends place None ≡ option_copied c.far.result = lent_of c.far.result (get_or m.ends place None) c.far.ensures.some c.far.ensures.none in
    λ within. subst (λ (s : State). FarAt s place (option_copied c.far.result)) (sym is)
    (far_in_state m place (option_copied c.far.result) (subst (λ (s : State). place < length s.world.field.listeners) is within) end)
