use Rattle.std.proofs.Common.{◌≡◌, ◌≤◌, ℕ, List, length, drop, Bool, false, Option, Some, Ok, Err, refl, sym, ◌∙◌, ap, subst, arith, rules}
use Rattle.nfc_base.specs.LinkTurns.{arrived}
use Rattle.nfc_base.specs.declared.carrier.EndCause.{EndCause}
use Rattle.nfc_base.specs.declared.carrier.EndCause.TheVariants.{Memory}
use Rattle.nfc_base.specs.declared.carrier.LinkEnd.{LinkEnd}
use Rattle.dep_link.specs.declared.pair.DepPair.{DepPair}
use Rattle.dep_link.specs.Initiator.{InitState}
use Rattle.dep_link.specs.Payloads.{brings_payload}
use Rattle.dep_link.specs.Exchange.{frames_of}
use Rattle.dep_link.specs.Asking.{EndsBy}
use Rattle.dep_link.specs.DepLinks.{seen_pair, since, brought, Carries}
use Rattle.dep_link.specs.AnyPeer.{IsBegun, CarriesPayload, Swaps}
use Rattle.dep_link.proofs.Carrying.{carried, no_room, fault_carried}
use Rattle.dep_link.proofs.AnyPeer.{trace_grows, swaps_none, swaps_reply, swaps_fault}
use Rattle.dep_link.proofs.pair.DepPair.carry.Goals as goal

pub returns-in_default-clause-carries : goal.returns-in_default-clause-carries
returns-in_default-clause-carries g c =
    λ r.
    let P : LinkEnd → Type 0 = λ e. Carries g.L.Listener g.L.PeerListener.target g.A.Answerer.steps g.A.Answerer.stops (seen_pair c.args.self.now) (seen_pair c.end.new.self) c.args.out.now
    c.args.far.now c.args.far.now (Err e) in
    let Q : DepPair _ → Type 0 = λ p. Carries g.L.Listener g.L.PeerListener.target g.A.Answerer.steps g.A.Answerer.stops (seen_pair c.args.self.now) (seen_pair p) c.args.out.now c.args.far.now
    c.args.far.now (Err (record { cause = Memory; answered = false })) in
    let R : InitState → Type 0 = λ i. Carries g.L.Listener g.L.PeerListener.target g.A.Answerer.steps g.A.Answerer.stops (seen_pair c.args.self.now)
    (record { air = c.args.self.now.field.now; initiator = i; first = c.args.self.now.first; start = c.args.self.now.start; over = Some Memory }) c.args.out.now c.args.far.now c.args.far.now
    (Err (record { cause = Memory; answered = false })) in
    subst P (sym c.end.ensures.told)
    (subst Q (sym c.end.ensures.over)
    (subst R (sym c.begin-request.ensures.step)
    (no_room g.L.Listener g.L.PeerListener.target g.A.Answerer.steps g.A.Answerer.stops (seen_pair c.args.self.now) c.requires.open r c.args.out.now c.requires.bound
    (λ i. omega (arith, c.type_inv.out i)) c.args.far.now c.args.far.now refl)))

pub end_by-requires-clause-place : goal.end_by-requires-clause-place
end_by-requires-clause-place g c =
    let begun : IsBegun c.args.self.now.initiator.now c.args.out.now c.begin-request.new.self c.begin-request.result =
    record { now_is = c.begin-request.ensures.step; sent_is = c.begin-request.ensures.request } in
    let l = trace_grows g.L.Listener.machine g.A.Answerer.restarts g.A.Answerer.steps g.A.Answerer.stops g.A.Answerer.is_stuck c.args.self.now.field.now c.args.far.now c.ask_peer.new.field
    c.ask_peer.new.far c.args.self.now.initiator.now c.args.out.now c.ask_peer.new.initiator (Err c.in-Err.why)
    (c.in-Err.ensures.turns c.args.self.now.initiator.now c.args.out.now begun) in
    subst (λ (n : ℕ). n ≤ length c.ask_peer.new.field.trace) (sym (ap length c.trace-start.ensures)) l

pub returns-in-Ok-ask_peer-clause-carries : goal.returns-in-Ok-ask_peer-clause-carries
returns-in-Ok-ask_peer-clause-carries g c =
    λ r.
    let q : c.extend_from_slice.new.self.items ≡ c.in-Ok-ask_peer.got.items = search rules in
    let E : List ℕ → Type 0 = λ xs. EndsBy g.L.Listener g.L.PeerListener.target g.A.Answerer.steps g.A.Answerer.stops c.args.self.now.field.now c.ask_peer.new.field r.peer.listener
    c.args.self.now.initiator.now c.ask_peer.new.initiator
    c.args.self.now.first (brought c.args.self.now.first (since (seen_pair c.args.self.now))) (arrived (since (seen_pair c.args.self.now))) c.args.out.now c.args.far.now c.ask_peer.new.far
    (Ok (record { items = xs })) in
    let P : Option EndCause → Type 0 = λ o. Carries g.L.Listener g.L.PeerListener.target g.A.Answerer.steps g.A.Answerer.stops (seen_pair c.args.self.now)
    (record { air = c.ask_peer.new.field; initiator = c.ask_peer.new.initiator; first = c.args.self.now.first; start = c.args.self.now.start; over = o }) c.args.out.now c.args.far.now
    c.ask_peer.new.far (Ok c.extend_from_slice.new.self) in
    subst P (sym c.requires.open)
    (carried g.L.Listener g.L.PeerListener.target g.A.Answerer.steps g.A.Answerer.stops (seen_pair c.args.self.now) c.requires.open r c.args.out.now c.requires.bound
    (λ i. omega (arith, c.type_inv.out i)) c.args.far.now c.ask_peer.new.far c.ask_peer.new.field c.ask_peer.new.initiator
    (c.ask_peer.ensures.out ∙ ap (λ i. i.out) c.begin-request.ensures.step) c.extend_from_slice.new.self
    (subst E (sym q)
    (c.in-Ok-ask_peer.ensures.ends c.args.self.now.initiator.now c.args.out.now c.begin-request.ensures.step c.begin-request.ensures.request c.requires.bound r.lit c.args.self.now.first
    (brought c.args.self.now.first (since (seen_pair c.args.self.now))) (arrived (since (seen_pair c.args.self.now))) r.peer)))

pub returns-in-Err-clause-carries : goal.returns-in-Err-clause-carries
returns-in-Err-clause-carries g c =
    λ r.
    let came : Bool = brings_payload c.pni-number.result (frames_of (arrived (drop (length c.trace-start.result.now) c.ask_peer.new.field.trace))) in
    let number : came ≡ brings_payload c.args.self.now.initiator.now.core.number (frames_of (arrived (drop (length c.args.self.now.field.now.trace) c.ask_peer.new.field.trace))) =
    ap (λ n. brings_payload n (frames_of (arrived (drop (length c.trace-start.result.now) c.ask_peer.new.field.trace))))
    (c.pni-number.ensures.number ∙ ap (λ i. i.core.number) c.begin-request.ensures.step)
    ∙ ap (λ es. brings_payload c.args.self.now.initiator.now.core.number (frames_of (arrived (drop (length es) c.ask_peer.new.field.trace)))) c.trace-start.ensures in
    let P : LinkEnd → Type 0 = λ e. Carries g.L.Listener g.L.PeerListener.target g.A.Answerer.steps g.A.Answerer.stops (seen_pair c.args.self.now)
    (record { air = c.ask_peer.new.field; initiator = c.ask_peer.new.initiator; first = c.args.self.now.first; start = c.args.self.now.start; over = Some e.cause }) c.args.out.now c.args.far.now
    c.ask_peer.new.far (Err e) in
    let Q : DepPair _ → Type 0 = λ p. Carries g.L.Listener g.L.PeerListener.target g.A.Answerer.steps g.A.Answerer.stops (seen_pair c.args.self.now) (seen_pair p) c.args.out.now c.args.far.now
    c.ask_peer.new.far (Err c.end_by.result) in
    subst Q (sym c.end_by.ensures.over)
    (subst P (sym c.end_by.ensures.told)
    (fault_carried g.L.Listener g.L.PeerListener.target g.A.Answerer.steps g.A.Answerer.stops (seen_pair c.args.self.now) c.requires.open r c.args.out.now c.requires.bound
    (λ i. omega (arith, c.type_inv.out i)) c.args.far.now c.ask_peer.new.far c.ask_peer.new.field c.ask_peer.new.initiator
    (c.ask_peer.ensures.out ∙ ap (λ i. i.out) c.begin-request.ensures.step) c.in-Err.why
    (c.in-Err.ensures.ends c.args.self.now.initiator.now c.args.out.now c.begin-request.ensures.step c.begin-request.ensures.request c.requires.bound r.lit c.args.self.now.first
    (brought c.args.self.now.first (since (seen_pair c.args.self.now))) (arrived (since (seen_pair c.args.self.now))) r.peer) came number))

pub returns-in_default-clause-turns : goal.returns-in_default-clause-turns
returns-in_default-clause-turns g c =
    let P : LinkEnd → Type 0 = λ e. Swaps g.L.Listener.machine g.A.Answerer.restarts g.A.Answerer.steps g.A.Answerer.stops g.A.Answerer.is_stuck (seen_pair c.args.self.now) c.args.far.now
    (seen_pair c.end.new.self) c.args.far.now c.args.out.now (Err e) in
    let Q : DepPair _ → Type 0 = λ p. Swaps g.L.Listener.machine g.A.Answerer.restarts g.A.Answerer.steps g.A.Answerer.stops g.A.Answerer.is_stuck (seen_pair c.args.self.now) c.args.far.now
    (seen_pair p) c.args.far.now c.args.out.now (Err (record { cause = Memory; answered = false })) in
    let R : InitState → Type 0 = λ i. Swaps g.L.Listener.machine g.A.Answerer.restarts g.A.Answerer.steps g.A.Answerer.stops g.A.Answerer.is_stuck (seen_pair c.args.self.now) c.args.far.now
    (record { air = c.args.self.now.field.now; initiator = i; first = c.args.self.now.first; start = c.args.self.now.start; over = Some Memory }) c.args.far.now c.args.out.now
    (Err (record { cause = Memory; answered = false })) in
    subst P (sym c.end.ensures.told)
    (subst Q (sym c.end.ensures.over)
    (subst R (sym c.begin-request.ensures.step) (swaps_none g.L.Listener.machine g.A.Answerer.restarts g.A.Answerer.steps g.A.Answerer.stops g.A.Answerer.is_stuck (seen_pair c.args.self.now)
    c.args.far.now c.args.out.now)))

pub returns-in-Ok-ask_peer-clause-turns : goal.returns-in-Ok-ask_peer-clause-turns
returns-in-Ok-ask_peer-clause-turns g c =
    let begun : IsBegun c.args.self.now.initiator.now c.args.out.now c.begin-request.new.self c.begin-request.result =
    record { now_is = c.begin-request.ensures.step; sent_is = c.begin-request.ensures.request } in
    let q : c.extend_from_slice.new.self.items ≡ c.in-Ok-ask_peer.got.items = search rules in
    let E : List ℕ → Type 0 = λ xs. CarriesPayload g.L.Listener.machine g.A.Answerer.restarts g.A.Answerer.steps g.A.Answerer.stops g.A.Answerer.is_stuck c.args.self.now.field.now c.args.far.now
    c.ask_peer.new.field c.ask_peer.new.far c.args.self.now.initiator.now c.args.out.now c.ask_peer.new.initiator (Ok (record { items = xs })) in
    let P : Option EndCause → Type 0 = λ o. Swaps g.L.Listener.machine g.A.Answerer.restarts g.A.Answerer.steps g.A.Answerer.stops g.A.Answerer.is_stuck (seen_pair c.args.self.now) c.args.far.now
    (record { air = c.ask_peer.new.field; initiator = c.ask_peer.new.initiator; first = c.args.self.now.first; start = c.args.self.now.start; over = o }) c.ask_peer.new.far c.args.out.now
    (Ok c.extend_from_slice.new.self) in
    subst P (sym c.requires.open)
    (swaps_reply g.L.Listener.machine g.A.Answerer.restarts g.A.Answerer.steps g.A.Answerer.stops g.A.Answerer.is_stuck (seen_pair c.args.self.now) c.args.far.now c.args.out.now c.ask_peer.new.field
    c.ask_peer.new.initiator c.ask_peer.new.far c.extend_from_slice.new.self
    (subst E (sym q) (c.in-Ok-ask_peer.ensures.turns c.args.self.now.initiator.now c.args.out.now begun)))

pub returns-in-Err-clause-turns : goal.returns-in-Err-clause-turns
returns-in-Err-clause-turns g c =
    let begun : IsBegun c.args.self.now.initiator.now c.args.out.now c.begin-request.new.self c.begin-request.result =
    record { now_is = c.begin-request.ensures.step; sent_is = c.begin-request.ensures.request } in
    let came : Bool = brings_payload c.pni-number.result (frames_of (arrived (drop (length c.trace-start.result.now) c.ask_peer.new.field.trace))) in
    let number : came ≡ brings_payload c.args.self.now.initiator.now.core.number (frames_of (arrived (drop (length c.args.self.now.field.now.trace) c.ask_peer.new.field.trace))) =
    ap (λ n. brings_payload n (frames_of (arrived (drop (length c.trace-start.result.now) c.ask_peer.new.field.trace))))
    (c.pni-number.ensures.number ∙ ap (λ i. i.core.number) c.begin-request.ensures.step)
    ∙ ap (λ es. brings_payload c.args.self.now.initiator.now.core.number (frames_of (arrived (drop (length es) c.ask_peer.new.field.trace)))) c.trace-start.ensures in
    let P : LinkEnd → Type 0 = λ e. Swaps g.L.Listener.machine g.A.Answerer.restarts g.A.Answerer.steps g.A.Answerer.stops g.A.Answerer.is_stuck (seen_pair c.args.self.now) c.args.far.now
    (record { air = c.ask_peer.new.field; initiator = c.ask_peer.new.initiator; first = c.args.self.now.first; start = c.args.self.now.start; over = Some e.cause }) c.ask_peer.new.far c.args.out.now
    (Err e) in
    let Q : DepPair _ → Type 0 = λ p. Swaps g.L.Listener.machine g.A.Answerer.restarts g.A.Answerer.steps g.A.Answerer.stops g.A.Answerer.is_stuck (seen_pair c.args.self.now) c.args.far.now
    (seen_pair p) c.ask_peer.new.far c.args.out.now (Err c.end_by.result) in
    subst Q (sym c.end_by.ensures.over)
    (subst P (sym c.end_by.ensures.told)
    (swaps_fault g.L.Listener.machine g.A.Answerer.restarts g.A.Answerer.steps g.A.Answerer.stops g.A.Answerer.is_stuck (seen_pair c.args.self.now) c.args.far.now c.args.out.now c.ask_peer.new.field
    c.ask_peer.new.initiator c.ask_peer.new.far c.in-Err.why
    (c.in-Err.ensures.turns c.args.self.now.initiator.now c.args.out.now begun) came number))
