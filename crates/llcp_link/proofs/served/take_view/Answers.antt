use Rattle.std.proofs.Common.{rules, ◌≡◌, Some, refl, sym, subst, ◌∙◌, slice_index_or, slice_set, remove}
use Rattle.llcp_conn.specs.declared.conn.Taken.TheVariants as taking
use Rattle.llcp_conn.specs.Conn.{took, takes_view}
use Rattle.llcp_link.specs.Kept.{AllServed, IsServed}
use Rattle.llcp_link.specs.Places.{IsBetweenOf, IsNumbered}
use Rattle.llcp_link.proofs.Places.{read_at}
use Rattle.llcp_link.proofs.Held.{Fine, fine, served_there, taken_there, broken_there, all_set, all_changed_gone}
use Rattle.llcp_link.proofs.served.take_view.Goals as goal

pub take_view-requires-clause-open : goal.take_view-requires-clause-open
take_view-requires-clause-open c =
    let old = c.args.served.now.items in
    let place = c.in-Some.place in
    let p : IsBetweenOf c.args.here c.args.client old (Some place) =
    subst (λ xs. IsBetweenOf c.args.here c.args.client xs (Some place)) c.deref.ensures.value c.in-Some.ensures in
    let all : AllServed old = search rules in
    let conn = c.index_mut.result.now in
    let is : conn ≡ slice_index_or old place conn = search rules in
    let was : conn ≡ p.0.conn = is ∙ read_at c.args.client old place p.0 conn in
    (subst IsServed (sym was) (served_there c.args.here c.args.client old place p.0 p.1 all)).live

pub returns-in-Ok-Nothing-clause-taken : goal.returns-in-Ok-Nothing-clause-taken
returns-in-Ok-Nothing-clause-taken c =
    let old = c.args.served.now.items in
    let place = c.in-Some.place in
    let p : IsBetweenOf c.args.here c.args.client old (Some place) =
    subst (λ xs. IsBetweenOf c.args.here c.args.client xs (Some place)) c.deref.ensures.value c.in-Some.ensures in
    let all : AllServed old = search rules in
    let conn = c.index_mut.result.now in
    let now = c.take_view.new.self in
    let is : conn ≡ slice_index_or old place conn = search rules in
    let was : conn ≡ p.0.conn = is ∙ read_at c.args.client old place p.0 conn in
    let served : IsServed conn = subst IsServed (sym was) (served_there c.args.here c.args.client old place p.0 p.1 all) in
    let does : took now taking.Nothing ≡ takes_view conn c.args.pdu.now = search rules in
    let pdu : IsNumbered c.args.here c.args.client c.args.pdu.now = search rules in
    let good : Fine conn (took now taking.Nothing) = subst (Fine conn) (sym does) (fine conn c.args.here c.args.client c.args.pdu.now pdu served) in
    taken_there c.args.here c.args.client old place p.0 p.1 all c.args.pdu.now conn now taking.Nothing (slice_set old place now) is does good refl refl

pub returns-in-Ok-Nothing-clause-all : goal.returns-in-Ok-Nothing-clause-all
returns-in-Ok-Nothing-clause-all c =
    let old = c.args.served.now.items in
    let place = c.in-Some.place in
    let p : IsBetweenOf c.args.here c.args.client old (Some place) =
    subst (λ xs. IsBetweenOf c.args.here c.args.client xs (Some place)) c.deref.ensures.value c.in-Some.ensures in
    let all : AllServed old = search rules in
    let conn = c.index_mut.result.now in
    let now = c.take_view.new.self in
    let is : conn ≡ slice_index_or old place conn = search rules in
    let was : conn ≡ p.0.conn = is ∙ read_at c.args.client old place p.0 conn in
    let served : IsServed conn = subst IsServed (sym was) (served_there c.args.here c.args.client old place p.0 p.1 all) in
    let does : took now taking.Nothing ≡ takes_view conn c.args.pdu.now = search rules in
    let pdu : IsNumbered c.args.here c.args.client c.args.pdu.now = search rules in
    let good : Fine conn (took now taking.Nothing) = subst (Fine conn) (sym does) (fine conn c.args.here c.args.client c.args.pdu.now pdu served) in
    all_set c.args.here c.args.client old place p.0 p.1 all now good.stays

pub returns-in-Ok-Unit-clause-taken : goal.returns-in-Ok-Unit-clause-taken
returns-in-Ok-Unit-clause-taken c =
    let old = c.args.served.now.items in
    let place = c.in-Some.place in
    let p : IsBetweenOf c.args.here c.args.client old (Some place) =
    subst (λ xs. IsBetweenOf c.args.here c.args.client xs (Some place)) c.deref.ensures.value c.in-Some.ensures in
    let all : AllServed old = search rules in
    let conn = c.index_mut.result.now in
    let now = c.take_view.new.self in
    let is : conn ≡ slice_index_or old place conn = search rules in
    let was : conn ≡ p.0.conn = is ∙ read_at c.args.client old place p.0 conn in
    let served : IsServed conn = subst IsServed (sym was) (served_there c.args.here c.args.client old place p.0 p.1 all) in
    let does : took now (taking.Unit c.in-Ok-Unit.unit) ≡ takes_view conn c.args.pdu.now = search rules in
    let pdu : IsNumbered c.args.here c.args.client c.args.pdu.now = search rules in
    let good : Fine conn (took now (taking.Unit c.in-Ok-Unit.unit)) = subst (Fine conn) (sym does) (fine conn c.args.here c.args.client c.args.pdu.now pdu served) in
    taken_there c.args.here c.args.client old place p.0 p.1 all c.args.pdu.now conn now (taking.Unit c.in-Ok-Unit.unit) (slice_set old place now) is does good refl refl

pub returns-in-Ok-Unit-clause-all : goal.returns-in-Ok-Unit-clause-all
returns-in-Ok-Unit-clause-all c =
    let old = c.args.served.now.items in
    let place = c.in-Some.place in
    let p : IsBetweenOf c.args.here c.args.client old (Some place) =
    subst (λ xs. IsBetweenOf c.args.here c.args.client xs (Some place)) c.deref.ensures.value c.in-Some.ensures in
    let all : AllServed old = search rules in
    let conn = c.index_mut.result.now in
    let now = c.take_view.new.self in
    let is : conn ≡ slice_index_or old place conn = search rules in
    let was : conn ≡ p.0.conn = is ∙ read_at c.args.client old place p.0 conn in
    let served : IsServed conn = subst IsServed (sym was) (served_there c.args.here c.args.client old place p.0 p.1 all) in
    let does : took now (taking.Unit c.in-Ok-Unit.unit) ≡ takes_view conn c.args.pdu.now = search rules in
    let pdu : IsNumbered c.args.here c.args.client c.args.pdu.now = search rules in
    let good : Fine conn (took now (taking.Unit c.in-Ok-Unit.unit)) = subst (Fine conn) (sym does) (fine conn c.args.here c.args.client c.args.pdu.now pdu served) in
    all_set c.args.here c.args.client old place p.0 p.1 all now good.stays

pub returns-in-Ok-Closed-clause-taken : goal.returns-in-Ok-Closed-clause-taken
returns-in-Ok-Closed-clause-taken c =
    let old = c.args.served.now.items in
    let place = c.in-Some.place in
    let p : IsBetweenOf c.args.here c.args.client old (Some place) =
    subst (λ xs. IsBetweenOf c.args.here c.args.client xs (Some place)) c.deref.ensures.value c.in-Some.ensures in
    let all : AllServed old = search rules in
    let conn = c.index_mut.result.now in
    let now = c.take_view.new.self in
    let is : conn ≡ slice_index_or old place conn = search rules in
    let was : conn ≡ p.0.conn = is ∙ read_at c.args.client old place p.0 conn in
    let served : IsServed conn = subst IsServed (sym was) (served_there c.args.here c.args.client old place p.0 p.1 all) in
    let does : took now (taking.Closed c.in-Ok-Closed.report) ≡ takes_view conn c.args.pdu.now = search rules in
    let pdu : IsNumbered c.args.here c.args.client c.args.pdu.now = search rules in
    let good : Fine conn (took now (taking.Closed c.in-Ok-Closed.report)) = subst (Fine conn) (sym does) (fine conn c.args.here c.args.client c.args.pdu.now pdu served) in
    let new : c.remove.new.self.items ≡ remove (slice_set old place now) place = search rules in
    broken_there c.args.here c.args.client old place p.0 p.1 all c.args.pdu.now conn now (taking.Closed c.in-Ok-Closed.report) c.remove.new.self.items is does good new refl

pub returns-in-Ok-Closed-clause-all : goal.returns-in-Ok-Closed-clause-all
returns-in-Ok-Closed-clause-all c =
    let old = c.args.served.now.items in
    let place = c.in-Some.place in
    let p : IsBetweenOf c.args.here c.args.client old (Some place) =
    subst (λ xs. IsBetweenOf c.args.here c.args.client xs (Some place)) c.deref.ensures.value c.in-Some.ensures in
    let all : AllServed old = search rules in
    let conn = c.index_mut.result.now in
    let now = c.take_view.new.self in
    let is : conn ≡ slice_index_or old place conn = search rules in
    let was : conn ≡ p.0.conn = is ∙ read_at c.args.client old place p.0 conn in
    let served : IsServed conn = subst IsServed (sym was) (served_there c.args.here c.args.client old place p.0 p.1 all) in
    let does : took now (taking.Closed c.in-Ok-Closed.report) ≡ takes_view conn c.args.pdu.now = search rules in
    let pdu : IsNumbered c.args.here c.args.client c.args.pdu.now = search rules in
    let good : Fine conn (took now (taking.Closed c.in-Ok-Closed.report)) = subst (Fine conn) (sym does) (fine conn c.args.here c.args.client c.args.pdu.now pdu served) in
    let new : c.remove.new.self.items ≡ remove (slice_set old place now) place = search rules in
    subst AllServed (sym new) (all_changed_gone c.args.here c.args.client old place p.0 p.1 all now)
