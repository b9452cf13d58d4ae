use Rattle.std.proofs.Common.{rules, ◌≡◌, ◌∷◌, [], ◌++◌, ◌∙◌, suc, take, drop, false, List, ℕ, Some, sym, ap}
use Rattle.llcp_pdu.specs.declared.part.Part.TheVariants.{Info}
use Rattle.llcp_conn.specs.Conn.{ConnState, first, gave, gives_from, vs}
use Rattle.llcp_conn.specs.contracts.conn.Conn.{the_view}
use Rattle.llcp_conn.proofs.Fronts.{first_given, after}
use Rattle.llcp_conn.proofs.conn.Conn.give_unit.Goals as goal

pub returns-clause-ok : goal.returns-clause-ok
returns-clause-ok c =
    let v : ConnState = the_view c.self.inside in
    let us : List (List ℕ) = c.self.inside.units.items in
    let k : ℕ = c.self.inside.given in
    let u : List ℕ = c.in_ok-info.info in
    let s : ℕ = c.numbers-ns.result.vs in
    let e : first v.queue ≡ Some u = search rules in
    let g = first_given us k u e in
    let n : s ≡ vs v = ap (λ m. m.vs) c.numbers-ns.ensures ∙ ap vs (sym c.self.view_is) in
    ap (λ x. gave (record v { queue = drop x us; flight = take x us; vra = v.vr; owed = false }) (Some (Info v.there v.here s v.vr u))) (after k)
    ∙ ap (λ x. gave (record v { queue = drop (suc k) us; flight = x; vra = v.vr; owed = false }) (Some (Info v.there v.here s v.vr u))) g.1
    ∙ ap (λ x. gave (record v { queue = drop (suc k) us; flight = take k us ++ u ∷ []; vra = v.vr; owed = false }) (Some (Info v.there v.here x v.vr u))) n
    ∙ ap (gives_from v) (sym g.0)
    ∙ ap (λ t. gives_from t t.queue) c.self.view_is
