use Rattle.std.proofs.Common.{◌≡◌, ◌+◌, ◌≤◌, length}
use Rattle.link_numbers.specs.Shown.{counted}
use Rattle.link_numbers.proofs.number.count_parts.Given as goal

abbrev pub invariant-parts : goal.invariant-parts
invariant-parts l = record {
  counted : counted l.count l.rest 0 ≡ counted 0 l.inner 0;
  few : l.count + length l.rest ≤ length l.inner;
}

abbrev pub decreases-parts : goal.decreases-parts
decreases-parts l = length l.rest
