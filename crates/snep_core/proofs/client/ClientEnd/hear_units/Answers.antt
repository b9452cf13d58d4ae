use Rattle.std.proofs.Common.{rules, ◌≡◌, true, false, Some, None, sym, ap, ◌∙◌}
use Rattle.llcp_link.specs.Asking.{unit_of, unit_taken_by}
use Rattle.snep_core.specs.Jobs.{told}
use Rattle.snep_core.specs.Talk.{own_of}
use Rattle.snep_core.proofs.connections.Owned.{hears_early, hears_fault, hears_on, hears_one}
use Rattle.snep_core.proofs.client.ClientEnd.hear_units.Goals as goal

pub units-preserved : goal.units-preserved
units-preserved c =
    let there : unit_of (own_of c.args.sap c.units.self.llc) ≡ Some c.in-Some.unit = search rules in
    let taken : c.unit.new.self ≡ unit_taken_by c.units.self.llc (own_of c.args.sap c.units.self.llc) = search rules in
    let one = hears_one c.args.sap c.units.self.llc c.unit.new.self c.units.job c.in-Some.unit c.units.some there taken in
    let same : c.as_slice-bytes.result.now ≡ c.in-Some.unit = search rules in
    let next : told c.units.job c.in-Some.unit ≡ Some c.in-Ok-Some.next =
    ap (told c.units.job) (sym same) ∙ sym c.in-Ok-Some.ensures ∙ c.in-Ok-Some.field-0-is in
    let free : c.args.waiting ≡ false = search rules in record {
      spent = search rules;
      told = c.units.invariant.told ∙ hears_on c.args.sap c.units.self.llc c.unit.new.self c.units.job c.in-Some.unit c.units.some one c.args.waiting c.in-Ok-Some.next free next;
      some = search (rules, c.units.invariant.some, one.some_is, same);
      emptied_is = one.emptied_is ∙ c.units.invariant.emptied_is;
      forgotten_is = one.forgotten_is ∙ c.units.invariant.forgotten_is;
    }

pub units-smaller : goal.units-smaller
units-smaller c =
    let there : unit_of (own_of c.args.sap c.units.self.llc) ≡ Some c.in-Some.unit = search rules in
    let taken : c.unit.new.self ≡ unit_taken_by c.units.self.llc (own_of c.args.sap c.units.self.llc) = search rules in
    (hears_one c.args.sap c.units.self.llc c.unit.new.self c.units.job c.in-Some.unit c.units.some there taken).fewer

pub returns-in-Ok-None-clause-ok : goal.returns-in-Ok-None-clause-ok
returns-in-Ok-None-clause-ok c =
    let there : unit_of (own_of c.args.sap c.units.self.llc) ≡ Some c.in-Some.unit = search rules in
    let taken : c.unit.new.self ≡ unit_taken_by c.units.self.llc (own_of c.args.sap c.units.self.llc) = search rules in
    let one = hears_one c.args.sap c.units.self.llc c.unit.new.self c.units.job c.in-Some.unit c.units.some there taken in
    let same : c.as_slice-bytes.result.now ≡ c.in-Some.unit = search rules in
    let next : told c.units.job c.in-Some.unit ≡ None =
    ap (told c.units.job) (sym same) ∙ sym c.in-Ok-None.ensures ∙ c.in-Ok-None.field-0-is in
    let free : c.args.waiting ≡ false = search rules in (
      c.units.invariant.told ∙ hears_fault c.args.sap c.units.self.llc c.unit.new.self c.units.job c.in-Some.unit c.units.some one c.args.waiting free next,
      one.forgotten_is ∙ c.units.invariant.forgotten_is,
    )

pub returns-then-waiting-clause-ok : goal.returns-then-waiting-clause-ok
returns-then-waiting-clause-ok c =
    let there : unit_of (own_of c.args.sap c.units.self.llc) ≡ Some c.in-Some.unit = search rules in
    let taken : c.unit.new.self ≡ unit_taken_by c.units.self.llc (own_of c.args.sap c.units.self.llc) = search rules in
    let one = hears_one c.args.sap c.units.self.llc c.unit.new.self c.units.job c.in-Some.unit c.units.some there taken in
    let early : c.args.waiting ≡ true = search rules in (
      c.units.invariant.told ∙ hears_early c.args.sap c.units.self.llc c.unit.new.self c.units.job c.in-Some.unit c.units.some one c.args.waiting early,
      one.forgotten_is ∙ c.units.invariant.forgotten_is,
    )
