use Rattle.std.proofs.Common.{◌≡◌, ◌+◌, drop, option_map}
use Rattle.llcp_link.specs.Places.{place_by}
use Rattle.llcp_link.proofs.numbered.place_of.Given as goal

abbrev pub invariant-list : goal.invariant-list
invariant-list g l = record {
  left : option_map (λ n. l.place + n) (place_by g.T.Numbered.number l.number (drop l.one-index l.list)) ≡ place_by g.T.Numbered.number l.number l.list;
  here : l.place ≡ l.one-index;
}
