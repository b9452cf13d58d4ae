use Rattle.std.proofs.Common.{◌≡◌, List, Result, Ok, Err, true, rules, sym, ◌∙◌, ap, subst}
use Rattle.air_core.specs.Turn.{moment}
use Rattle.nfca_poll.specs.declared.fault.Picked.{Picked}
use Rattle.nfca_poll.specs.declared.fault.PollFault.{PollFault}
use Rattle.nfca_poll.specs.declared.fault.PollFault.TheVariants as faults
use Rattle.nfca_poll.specs.declared.inventory.Vcrowd.{Vcrowd}
use Rattle.nfca_poll.specs.Rounds.{listed, LeavesLit}
use Rattle.bench_devices.specs.declared.sweeping.Everybody.{Everybody}
use Rattle.bench_devices.specs.Phases.{Searches}
use Rattle.bench_devices.proofs.finding.FoundAll.{quiet_find, quiet_inventory, together, searches_one, searches_both, cut_one, cut_both}
use Rattle.bench_devices.proofs.sweeping.sweep_field.Goals as goal

pub returns-in_err-find_all-clause-tells : goal.returns-in_err-find_all-clause-tells
returns-in_err-find_all-clause-tells c fed =
    let e : PollFault = c.in_err-find_all.field-0.0 in
    let same : c.from_residual.result ≡ Err e = search rules in
    let S : Result Everybody PollFault → Type 0 = λ r. Searches (moment c.args.field.now) (moment c.find_all.new.field) r in
    subst S (sym same)
    (searches_one c.args.field.now c.find_all.new.field (listed c.find_all.result) c.requires.idle.tame c.requires.idle.tidy
    (quiet_find c.args.field.now c.find_all.new.field (listed c.find_all.result) c.find_all.ensures.turns) c.find_all.ensures.crowd c.find_all.ensures.lost
    e (ap listed (c.in_err-find_all.was)) (λ m. fed (same ∙ ap Err m)))

pub returns-in_err-others-clause-tells : goal.returns-in_err-others-clause-tells
returns-in_err-others-clause-tells c fed =
    let well : listed c.find_all.result ≡ Ok c.in_ok-find_all.field-0.items = ap listed (c.in_ok-find_all.was) in
    let lit : c.find_all.new.field.lit ≡ true = let P : Result (List Picked) PollFault → Type 0 = λ r. LeavesLit r c.find_all.new.field in subst P well c.find_all.ensures.lit in
    let e : PollFault = c.in_err-others.field-0.0 in
    let is : c.inventory_one.result ≡ Err e = c.in_err-others.was in
    let same : c.from_residual-in_err-others.result ≡ Err e = search rules in
    let S : Result Everybody PollFault → Type 0 = λ r. Searches (moment c.args.field.now) (moment c.inventory_one.new.field) r in
    let T : Result Vcrowd PollFault → Type 0 = λ r. S (together c.in_ok-find_all.field-0.items r) in
    subst S (sym same) (subst T is
    (searches_both c.args.field.now c.find_all.new.field (listed c.find_all.result) c.requires.idle.tame c.requires.idle.tidy
    (quiet_find c.args.field.now c.find_all.new.field (listed c.find_all.result) c.find_all.ensures.turns) c.find_all.ensures.crowd c.find_all.ensures.lost
    c.in_ok-find_all.field-0.items well c.inventory_one.new.field c.inventory_one.result (quiet_inventory c.find_all.new.field c.inventory_one.new.field c.inventory_one.result
    (c.inventory_one.ensures.turns lit)) (c.inventory_one.ensures.cause lit) c.inventory_one.ensures.lost lit
    (λ m. fed (same ∙ ap Err (let starved : e ≡ faults.Memory = let k : ◌≡◌ {A = Result Vcrowd PollFault} (Err e) (Err faults.Memory) = sym is ∙ m in cc in starved)))))

pub returns-clause-tells : goal.returns-clause-tells
returns-clause-tells c fed =
    let well : listed c.find_all.result ≡ Ok c.in_ok-find_all.field-0.items = ap listed (c.in_ok-find_all.was) in
    let lit : c.find_all.new.field.lit ≡ true = let P : Result (List Picked) PollFault → Type 0 = λ r. LeavesLit r c.find_all.new.field in subst P well c.find_all.ensures.lit in
    let is : c.inventory_one.result ≡ Ok c.in_ok-others.others = c.in_ok-others.was in
    let S : Result Everybody PollFault → Type 0 = λ r. Searches (moment c.args.field.now) (moment c.inventory_one.new.field) r in
    let T : Result Vcrowd PollFault → Type 0 = λ r. S (together c.in_ok-find_all.field-0.items r) in
    let C : List Picked → Type 0 = λ cards. S (Ok (record { cards = cards; others = c.in_ok-others.others })) in
    subst C (sym c.new-cards.ensures) (subst T is
    (searches_both c.args.field.now c.find_all.new.field (listed c.find_all.result) c.requires.idle.tame c.requires.idle.tidy
    (quiet_find c.args.field.now c.find_all.new.field (listed c.find_all.result) c.find_all.ensures.turns) c.find_all.ensures.crowd c.find_all.ensures.lost
    c.in_ok-find_all.field-0.items well c.inventory_one.new.field c.inventory_one.result (quiet_inventory c.find_all.new.field c.inventory_one.new.field c.inventory_one.result
    (c.inventory_one.ensures.turns lit)) (c.inventory_one.ensures.cause lit) c.inventory_one.ensures.lost lit
    (λ m. (let k : ◌≡◌ {A = Result Vcrowd PollFault} (Ok c.in_ok-others.others) (Err faults.Memory) = sym is ∙ m in cc))))

pub returns-in_err-find_all-clause-cut : goal.returns-in_err-find_all-clause-cut
returns-in_err-find_all-clause-cut c starved =
    cut_one c.args.field.now c.find_all.new.field (listed c.find_all.result) c.requires.idle.tame c.requires.idle.tidy
    (quiet_find c.args.field.now c.find_all.new.field (listed c.find_all.result) c.find_all.ensures.turns) c.find_all.ensures.crowd c.find_all.ensures.lost

pub returns-in_err-others-clause-cut : goal.returns-in_err-others-clause-cut
returns-in_err-others-clause-cut c starved =
    let well : listed c.find_all.result ≡ Ok c.in_ok-find_all.field-0.items = ap listed (c.in_ok-find_all.was) in
    let lit : c.find_all.new.field.lit ≡ true = let P : Result (List Picked) PollFault → Type 0 = λ r. LeavesLit r c.find_all.new.field in subst P well c.find_all.ensures.lit in
    cut_both c.args.field.now c.find_all.new.field (listed c.find_all.result) c.requires.idle.tame c.requires.idle.tidy
    (quiet_find c.args.field.now c.find_all.new.field (listed c.find_all.result) c.find_all.ensures.turns) c.find_all.ensures.crowd c.find_all.ensures.lost
    c.in_ok-find_all.field-0.items well c.inventory_one.new.field c.inventory_one.result (quiet_inventory c.find_all.new.field c.inventory_one.new.field c.inventory_one.result
    (c.inventory_one.ensures.turns lit)) (c.inventory_one.ensures.cause lit) c.inventory_one.ensures.lost lit
