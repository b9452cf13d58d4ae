use Rattle.std.proofs.Common.{◌≡◌, ◌+◌, ◌-◌, ◌%◌, ◌≤◌, ℕ, List, length, take, drop, refl, sym, ◌∙◌, ap, subst, false}
use Rattle.circular_buffer.specs.Buffer.{Buffer}
use Rattle.llcp_conn.specs.Conn.{ConnState, acks, acknowledged, is_outside, count_end}
use Rattle.llcp_conn.specs.contracts.conn.Conn.{the_view}
use Rattle.llcp_conn.proofs.Fronts.{acks_held, acknowledged_is}
use Rattle.llcp_conn.proofs.conn.Conn.acknowledge.Goals as goal

pub returns : goal.returns
returns c =
    let v : ConnState = the_view c.self.inside in
    let n : ℕ = c.acks-count.result in
    let us : List (List ℕ) = c.self.inside.units.items in
    let m : n ≡ acks v c.args.nr = c.acks-count.ensures ∙ ap (λ (s : ConnState). acks s c.args.nr) (sym c.self.view_is) in
    let o : is_outside v c.args.nr ≡ false = ap (λ (s : ConnState). is_outside s c.args.nr) c.self.view_is ∙ c.requires.inside in
    let l : acks v c.args.nr ≤ c.self.inside.given = acks_held v c.self.inside.given us c.args.nr refl c.self.invariant.given o in
    let k : n ≤ c.self.inside.given = subst (λ (x : ℕ). x ≤ c.self.inside.given) (sym m) l in
    ap (λ (b : Buffer (List ℕ)). record v {
      window = b.capacity;
      queue = drop (c.self.inside.given - n) b.items;
      flight = take (c.self.inside.given - n) b.items;
      vsa = c.args.nr;
      acked = (v.acked + n) % count_end;
    }) c.drop_first.ensures
    ∙ acknowledged_is v c.self.inside.given n us c.args.nr refl refl m k
    ∙ ap (λ (s : ConnState). acknowledged s c.args.nr) c.self.view_is
