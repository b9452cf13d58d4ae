use Rattle.std.proofs.Common.{rules, ◌≡◌, ◌==◌, false, ap, sym, ◌∙◌, if◌then◌else◌}
use Rattle.llcp_link.specs.State.{Nobody, Served, served_holder}
use Rattle.llcp_link.specs.Places.{IsPlace}
use Rattle.llcp_link.proofs.Places.{found_there, read_at}
use Rattle.llcp_link.proofs.served.place_between.Goals as goal

pub returns-then-here : goal.returns-then-here
returns-then-here c =
    let p : IsPlace c.args.client c.args.served.now c.in_ok-place.place = search rules in
    let is : c.index-served-place.result ≡ p.conn = c.index-served-place.is ∙ read_at c.args.client c.args.served.now c.in_ok-place.place p c.index-served-place.result in
    let h : c.index-served-place.result.here ≡ c.args.here = search rules in
    (p, ap (λ x. x.here) (sym is) ∙ h)

pub returns-else-here : goal.returns-else-here
returns-else-here c =
    let p : IsPlace c.args.client c.args.served.now c.in_ok-place.place = search rules in
    let is : c.index-served-place.result ≡ p.conn = c.index-served-place.is ∙ read_at c.args.client c.args.served.now c.in_ok-place.place p c.index-served-place.result in
    let h : (c.index-served-place.result.here == c.args.here) ≡ false = search rules in
    ap (λ o. served_holder c.args.here o Nobody) (found_there c.args.client c.args.served.now c.in_ok-place.place p)
    ∙ ap (λ b. if b then Served p.conn else Nobody) (ap (λ x. x.here == c.args.here) (sym is) ∙ h)
