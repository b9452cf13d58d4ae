use Rattle.std.proofs.Common.{rules, ◌≡◌, ◌<◌, ◌++◌, ◌+◌, ℕ, List, [], ◌∷◌, drop, get_or, length, None, refl, sym, ◌∙◌, ap, subst, arith}
use Rattle.std.proofs.lemmas.List.{drop_more}
use Rattle.link_calls.specs.Walk.{Course}
use Rattle.link_calls.specs.Exchanging.{Sending, by_hand, sending}
use Rattle.link_calls.specs.private.Walking.{Walks}
use Rattle.link_calls.proofs.Swapping.{walk_begins, walk_then, walk_fails, walk_unread}
use Rattle.link_calls.proofs.exchanging.swap_each.Goals as goal

-- what is left begins with the payload under way
left_so : (payloads : List (List ℕ)) (i : ℕ) (x p : List ℕ) → i < length payloads → x ≡ get_or payloads i x → x ≡ p → drop i payloads ≡ p ∷ drop (i + 1) payloads
left_so payloads i x p within is same = drop_more payloads i x within ∙ ap (λ z. z ∷ drop (i + 1) payloads) (sym is ∙ same)

pub loop-payload-init : goal.loop-payload-init
loop-payload-init g c =
    let none : [] ≡ c.new-replies.result.items = search rules in
    let from : Course Sending (List (List ℕ)) = sending c.args.payloads.now [] in
    record {
      ready = c.requires.ready;
      same = refl;
      walks = subst (λ rs. Walks by_hand g.C.Carrier.seen g.C.Carrier.swaps g.A.Answerer.steps g.A.Answerer.stops from c.args.carrier.now c.args.far.now (sending c.args.payloads.now rs)
          c.args.carrier.now c.args.far.now) none
          (walk_begins by_hand g.C.Carrier.seen g.C.Carrier.swaps g.A.Answerer.steps g.A.Answerer.stops from c.args.carrier.now c.args.far.now);
    }

pub returns-then-is_err-clause-err : goal.returns-then-is_err-clause-err
returns-then-is_err-clause-err g c =
    let p : List ℕ = c.as_slice.result.now in
    let i : ℕ = c.loop-payload.payload-index in
    let ps : List (List ℕ) = c.args.payloads.now in
    let rs : List (List ℕ) = c.loop-payload.replies.items in
    let from : Course Sending (List (List ℕ)) = sending ps [] in
    let within : i < length ps = omega (arith, c.loop-payload-test.true) in
    let is : c.payload-item.result ≡ p = search rules in
    let base = subst (λ left. Walks by_hand g.C.Carrier.seen g.C.Carrier.swaps g.A.Answerer.steps g.A.Answerer.stops from c.args.carrier.now c.args.far.now (sending left rs) c.loop-payload.carrier
    c.loop-payload.far)
    (left_so ps i c.payload-item.result p within c.payload-item.is is) c.loop-payload.invariant.walks in
    walk_unread by_hand g.C.Carrier.seen g.C.Carrier.swaps g.A.Answerer.steps g.A.Answerer.stops from (record { payload = p; later = drop (i + 1) ps; replies = rs }) c.in-Ok.reply.items
    c.args.carrier.now c.loop-payload.carrier c.swap.new.self c.args.far.now c.loop-payload.far c.swap.new.far base c.in-Ok.ensures.ok c.in-Ok.ensures.swapped

pub returns-in-Err-clause-err : goal.returns-in-Err-clause-err
returns-in-Err-clause-err g c =
    let p : List ℕ = c.as_slice.result.now in
    let i : ℕ = c.loop-payload.payload-index in
    let ps : List (List ℕ) = c.args.payloads.now in
    let rs : List (List ℕ) = c.loop-payload.replies.items in
    let from : Course Sending (List (List ℕ)) = sending ps [] in
    let within : i < length ps = omega (arith, c.loop-payload-test.true) in
    let is : c.payload-item.result ≡ p = search rules in
    let open_ : (g.C.Carrier.seen c.loop-payload.carrier).over ≡ None = c.loop-payload.invariant.walks.over ∙ c.requires.going in
    let base = subst (λ left. Walks by_hand g.C.Carrier.seen g.C.Carrier.swaps g.A.Answerer.steps g.A.Answerer.stops from c.args.carrier.now c.args.far.now (sending left rs) c.loop-payload.carrier
    c.loop-payload.far)
    (left_so ps i c.payload-item.result p within c.payload-item.is is) c.loop-payload.invariant.walks in
    walk_fails by_hand g.C.Carrier.seen g.C.Carrier.swaps g.A.Answerer.steps g.A.Answerer.stops from (record { payload = p; later = drop (i + 1) ps; replies = rs }) c.in-Err.end
    c.args.carrier.now c.loop-payload.carrier c.swap.new.self c.args.far.now c.loop-payload.far c.swap.new.far base (c.in-Err.ensures.err open_) (c.in-Err.ensures.failed open_)

pub loop-payload-preserved : goal.loop-payload-preserved
loop-payload-preserved g c =
    let p : List ℕ = c.as_slice.result.now in
    let i : ℕ = c.loop-payload.payload-index in
    let ps : List (List ℕ) = c.args.payloads.now in
    let rs : List (List ℕ) = c.loop-payload.replies.items in
    let from : Course Sending (List (List ℕ)) = sending ps [] in
    let within : i < length ps = omega (arith, c.loop-payload-test.true) in
    let is : c.payload-item.result ≡ p = search rules in
    let same : rs ++ c.in-Ok.reply.items ∷ [] ≡ c.push.new.self.items = search rules in
    let base = subst (λ left. Walks by_hand g.C.Carrier.seen g.C.Carrier.swaps g.A.Answerer.steps g.A.Answerer.stops from c.args.carrier.now c.args.far.now (sending left rs) c.loop-payload.carrier
    c.loop-payload.far)
    (left_so ps i c.payload-item.result p within c.payload-item.is is) c.loop-payload.invariant.walks in
    record {
      ready = c.swap.ensures.ready;
      same = c.swap.ensures.same ∙ c.loop-payload.invariant.same;
      walks = subst (λ more. Walks by_hand g.C.Carrier.seen g.C.Carrier.swaps g.A.Answerer.steps g.A.Answerer.stops from c.args.carrier.now c.args.far.now (sending (drop (i + 1) ps) more)
          c.swap.new.self c.swap.new.far) same
          (walk_then by_hand g.C.Carrier.seen g.C.Carrier.swaps g.A.Answerer.steps g.A.Answerer.stops from (record { payload = p; later = drop (i + 1) ps; replies = rs }) c.in-Ok.reply.items
          c.args.carrier.now c.loop-payload.carrier c.swap.new.self c.args.far.now c.loop-payload.far c.swap.new.far c.requires.going base c.in-Ok.ensures.ok c.in-Ok.ensures.swapped);
    }
