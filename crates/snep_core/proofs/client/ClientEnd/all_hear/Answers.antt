use Rattle.std.proofs.Common.{rules, ◌≡◌, ◌∷◌, ◌++◌, ◌||◌, [], List, Option, sym, subst}
use Rattle.snep_core.specs.declared.job.Awaiting.{Awaiting}
use Rattle.snep_core.specs.declared.job.Heard.{Heard}
use Rattle.snep_core.specs.Listening.{Hears}
use Rattle.snep_core.specs.Talk.{OnSap, gave_between, own_of, stands_of}
use Rattle.snep_core.proofs.accord.AllJobs.{Hearing, hearing_fault, hearing_on}
use Rattle.snep_core.proofs.client.ClientEnd.all_hear.Goals as goal

pub returns-in-Ok-None-clause-ok : goal.returns-in-Ok-None-clause-ok
returns-in-Ok-None-clause-ok c =
    let x = c.in-Some.one in
    let left = c.next.new.self.rest.items in
    let same : c.all.one-iterator.rest.items ≡ x ∷ left = search rules in
    let before : Hearing c.args.self.now.llc c.args.all.items c.all.self.llc c.all.jobs.items c.all.gave (x ∷ left) =
    subst (λ (xs : List Awaiting). Hearing c.args.self.now.llc c.args.all.items c.all.self.llc c.all.jobs.items c.all.gave xs) same c.all.invariant.hearing in
    let none =
    subst (λ (o : Option Heard). Hears x.sap x.waiting c.all.self.llc x.job o c.hear.new.self.llc) c.in-Ok-None.field-0-is c.in-Ok-None.ensures.ok in
    hearing_fault c.args.self.now.llc c.args.all.items c.all.self.llc c.all.jobs.items c.all.gave x left c.hear.new.self.llc before none.0 none.1

pub all-preserved : goal.all-preserved
all-preserved c =
    let x = c.in-Some.one in
    let left = c.next.new.self.rest.items in
    let heard = c.in-Ok-Some.heard in
    let same : c.all.one-iterator.rest.items ≡ x ∷ left = search rules in
    let before : Hearing c.args.self.now.llc c.args.all.items c.all.self.llc c.all.jobs.items c.all.gave (x ∷ left) =
    subst (λ (xs : List Awaiting). Hearing c.args.self.now.llc c.args.all.items c.all.self.llc c.all.jobs.items c.all.gave xs) same c.all.invariant.hearing in
    let some =
    subst (λ (o : Option Heard). Hears x.sap x.waiting c.all.self.llc x.job o c.hear.new.self.llc) c.in-Ok-Some.field-0-is c.in-Ok-Some.ensures.ok in
    let given : c.gave_between-given.result ≡ gave_between x.before (stands_of (own_of x.sap c.all.self.llc)) = search rules in
    let pushed : c.push.new.self.items ≡ c.all.jobs.items ++ record { sap = x.sap; job = heard.job } ∷ [] = search rules in
    let on =
    hearing_on c.args.self.now.llc c.args.all.items c.all.self.llc c.all.jobs.items c.all.gave x left heard.job c.hear.new.self.llc c.gave_between-given.result
    heard.some before some.0 given some.1 some.2 in
    let told =
    subst (λ (js : List OnSap). Hearing c.args.self.now.llc c.args.all.items c.hear.new.self.llc js ((c.all.gave || c.gave_between-given.result) || heard.some) left)
    (sym pushed) on in record {
      spent = search rules;
      hearing = search (rules, told);
    }
