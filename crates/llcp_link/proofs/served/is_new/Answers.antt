use Rattle.std.proofs.Common.{rules, ◌≡◌, ap, sym, is_none, Option, Some, None, ℕ, List}
use Rattle.llcp_conn.specs.Conn.{ConnState}
use Rattle.llcp_link.specs.State.{conn_from}
use Rattle.llcp_link.specs.Places.{IsPlaceOf}
use Rattle.llcp_link.proofs.Places.{found_there}
use Rattle.llcp_link.proofs.served.is_new.Goals as goal

is_none_as : (s : ℕ) (cs : List ConnState) (o : Option ℕ) → IsPlaceOf s cs o → is_none o ≡ is_none (conn_from s cs)
is_none_as s cs None h = ap is_none (sym h)
is_none_as s cs (Some place) p = ap is_none (sym (found_there s cs place p))

pub returns : goal.returns
returns c =
    let k = is_none_as c.args.client c.args.served.now c.place_of.result c.place_of.ensures in
    search rules
