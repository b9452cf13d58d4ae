-- Which commands have to do with far ends, and so may take numbers of PDUs.
use Rattle.std.proofs.Common.{◌≡◌, [], Option, Some, None, refl, ap}
use Rattle.link_calls.specs.Asking.{LinkAsking}
use Rattle.bench_script.specs.declared.command.Command.{Command}
use Rattle.bench_script.specs.declared.command.Command.TheVariants.{Forge, Link, Raw}
use Rattle.bench_world.specs.Asked.{asked_on_link}
use Rattle.bench_world.specs.Legal.{Joins, joins_alone, joins_by, joins_for, no_joins}

-- Where a link is opened and on the open link far ends have a part.
abbrev pub HasPart : Option LinkAsking → Type 0
HasPart None = ⊥
HasPart (Some asked) = Unit {0}

abbrev pub UsesFars : Command → Type 0
UsesFars (Link id miu window) = Unit {0}
UsesFars (Forge id payloads) = Unit {0}
UsesFars (Raw id frames) = Unit {0}
UsesFars c = HasPart (asked_on_link c)

-- no numbers are some that any command takes
pub none_taken : (c : Command) → no_joins ≡ joins_for c no_joins
none_taken c = by (asked_on_link c)
  where
    alone : (x : Command) → no_joins ≡ joins_alone x no_joins
    alone (Forge id payloads) = refl
    alone (Raw id frames) = refl
    alone x = refl

    by : (o : Option LinkAsking) → no_joins ≡ joins_by o c no_joins
    by None = alone c
    by (Some asked) = refl

-- where as many PDUs as fit are joined a command takes no numbers
pub none_for : (c : Command) (joins : Joins) → joins ≡ no_joins → joins_for c joins ≡ no_joins
none_for c joins e = by (asked_on_link c)
  where
    alone : (x : Command) → joins_alone x joins ≡ no_joins
    alone (Forge id payloads) = ap (λ (j : Joins). let k : Joins = record { own = []; far = j.far } in k) e
    alone (Raw id frames) = ap (λ (j : Joins). let k : Joins = record { own = []; far = j.far } in k) e
    alone x = refl

    by : (o : Option LinkAsking) → joins_by o c joins ≡ no_joins
    by None = alone c
    by (Some asked) = e
