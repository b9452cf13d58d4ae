use Rattle.std.proofs.Common.{rules, ◌≡◌, slice_index_or}
use Rattle.llcp_pdu.specs.Views.{params_in}
use Rattle.llcp_link.specs.Names.{miu_of, rw_of}
use Rattle.llcp_link.specs.Places.{StandsAt}
use Rattle.llcp_link.proofs.OwnHeard.{cc_heard}
use Rattle.llcp_link.proofs.Ranges.{miux_below, rw_below}
use Rattle.llcp_link.proofs.llc.Llc.take_cc.Goals as goal

pub miu_said-far_miu-requires : goal.miu_said-far_miu-requires
miu_said-far_miu-requires g c = miux_below (params_in c.args.params.now) c.new-said.result.miux c.requires.range c.new-said.ensures.miux

pub window_said-rw-requires : goal.window_said-rw-requires
window_said-rw-requires g c = rw_below (params_in c.args.params.now) c.new-said.result.rw c.requires.range c.new-said.ensures.rw

pub returns-clause-ok : goal.returns-clause-ok
returns-clause-ok g c =
    let l = c.args.self.now in
    let ps = params_in c.args.params.now in
    let p : StandsAt c.args.dsap l.own c.in-Some.place = search rules in
    let miu : c.miu_said-far_miu.result ≡ miu_of ps = search rules in
    let rw_ : c.window_said-rw.result ≡ rw_of ps = search rules in
    let old = c.index_mut.result.now in
    let is : old ≡ slice_index_or l.own c.in-Some.place old = search rules in
    let k = cc_heard l c.args.dsap c.args.ssap ps c.in-Some.place p old c.hear_cc.new.self c.miu_said-far_miu.result c.window_said-rw.result is miu rw_ in
    search rules
