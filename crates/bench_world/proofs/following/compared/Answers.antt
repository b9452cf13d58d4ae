use Rattle.std.proofs.Common.{◌≡◌, ◌⊎◌, length, inl, inr}
use Rattle.bench_world.proofs.tags.Strays.{not_other}
use Rattle.bench_world.proofs.following.compared.Goals as goal

pub returns-else-good-made : goal.returns-else-good-made
returns-else-good-made c = (
  c.begin_alike-good.ensures,
  λ same. not_other c.args.made.now c.args.told.now c.begin_alike-good.result c.begin_alike-good.ensures (which c.else-good-made.either) same,
)
  where
    which : (c.begin_alike-good.result ≡ length c.args.made.now × (c.begin_alike-good.result ≡ length c.args.told.now → ⊥)) ⊎ (c.begin_alike-good.result ≡ length c.args.made.now → ⊥)
        → (c.begin_alike-good.result ≡ length c.args.made.now → ⊥) ⊎ (c.begin_alike-good.result ≡ length c.args.told.now → ⊥)
    which (inl parts) = inr parts.1
    which (inr other) = inl other
