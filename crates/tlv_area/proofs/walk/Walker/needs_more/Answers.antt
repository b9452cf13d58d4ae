use Rattle.std.proofs.Common.{◌<◌, length, refl, sym, arith, subst}
use Rattle.tlv_area.specs.declared.walk.Walk.TheVariants as walk
use Rattle.tlv_area.specs.Form.{NeedsMore, Unknown}
use Rattle.tlv_area.proofs.Walks.{comes_here, stands_grown, no_more, short_front}
use Rattle.tlv_area.proofs.walk.Walker.needs_more.Goals as goal

pub returns-in-Unknown-clause-more : goal.returns-in-Unknown-clause-more
returns-in-Unknown-clause-more c =
    let come = c.advance.ensures.come in
    let more = comes_here c.advance.new.self c.args.known.now come.0 come.1 Unknown c.in-Unknown.ensures.stops in
    (λ _. subst (λ s. NeedsMore s c.args.known.now) c.advance.ensures.space more, λ _. refl)

pub returns-in-Unknown-clause-short : goal.returns-in-Unknown-clause-short
returns-in-Unknown-clause-short c _ =
    let come = c.advance.ensures.come in
    let more = comes_here c.advance.new.self c.args.known.now come.0 come.1 Unknown c.in-Unknown.ensures.stops in
    subst (λ s. length c.args.known.now < s.end) c.advance.ensures.space
    (short_front c.advance.new.self.space c.args.known.now walk.More come.1.area.order refl more)

pub returns-in-Unknown-clause-come : goal.returns-in-Unknown-clause-come
returns-in-Unknown-clause-come c more =
    let come = c.advance.ensures.come in (come.0, stands_grown c.advance.new.self c.args.known.now come.0 come.1 more)

pub returns-in_default : goal.returns-in_default
returns-in_default c =
    let come = c.advance.ensures.come in
    record {
      more = (
        λ e. cc e,
        λ more. absurd (no_more c.advance.new.self c.args.known.now come.0 come.1 (λ i. omega (arith, c.type_inv.known i)) c.advance.result c.advance.ensures.stops
            c.in_default.not-Unknown (subst (λ s. NeedsMore s c.args.known.now) (sym c.advance.ensures.space) more)),
      );
      short = λ e. cc e;
      space = c.advance.ensures.space;
      come = λ more. (come.0, stands_grown c.advance.new.self c.args.known.now come.0 come.1 more);
    }
