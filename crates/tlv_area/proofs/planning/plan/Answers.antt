use Rattle.std.proofs.Common.{◌+◌, ◌-◌, ◌*◌, ◌<◌, ◌≤◌, ◌++◌, ℕ, List, Bool, true, false, cond, length, arith, Result, Ok, Err}
use Rattle.std.specs.Prelude.{IfOk, OnOk}
use Rattle.std.proofs.lemmas.List.{length-append, length-drop}
use Rattle.tlv_area.specs.declared.space.AreaMap.{AreaMap}
use Rattle.tlv_area.specs.declared.planning.PlanFault.{PlanFault}
use Rattle.tlv_area.specs.declared.step.Plan.{Plan}
use Rattle.tlv_area.specs.Map.{in_ranges, map_cells, IsPlaced}
use Rattle.tlv_area.specs.Tail.{map_tail, map_room, capacity_of}
use Rattle.tlv_area.specs.Writing.{HasBlocks, blocks_below, GivesPlan, KeepsPlan, KeepsKinds}
use Rattle.tlv_area.proofs.Blocks.{blocks_within}
use Rattle.tlv_area.proofs.Trails.{length-free_le}
use Rattle.tlv_area.proofs.Images.{plan_keeps}
use Rattle.tlv_area.proofs.Grown.{plan_of_more}
use Rattle.tlv_area.proofs.StoreForms.{kind_kept}
use Rattle.tlv_area.proofs.planning.plan.Goals as goal

header_low : (b : Bool) → 2 ≤ cond b 4 2
header_low true = omega arith
header_low false = omega arith

-- the blocks up to the area's end are whole
all_blocks : (size : ℕ) (m : AreaMap) (store : List ℕ) → 0 < size → IsPlaced m → HasBlocks size m.space store →
    size * blocks_below size m.space.end ≤ length store
all_blocks size m store some placed within =
    let bound = length-free_le (in_ranges m.reserved.items) m.space.start m.space.end in
    let up : m.space.start < m.space.end = omega (arith, bound, placed.fits, header_low m.long) in
    blocks_within m.space.end size (length store) some (omega arith) (within (m.space.end - 1) (omega arith) (omega arith))

-- what holds of each plan of a message that fits
all_keep : {P : Plan → Type 0} (size : ℕ) (m : AreaMap) (old message : List ℕ) (r : Result Plan PlanFault) →
    ((p : Plan) → length message ≤ capacity_of (map_room m) → GivesPlan size m old message p → P p) →
    OnOk r (length message ≤ capacity_of (map_room m)) → IfOk r (λ p. GivesPlan size m old message p) → IfOk r (λ p. P p)
all_keep size m old message (Ok p) law fits gives = law p fits gives
all_keep size m old message (Err e) law fits gives = tt

module _ (size : ℕ) (m : AreaMap) (store message : List ℕ) (some : 0 < size) (placed : IsPlaced m) (within : HasBlocks size m.space store) where
  room : size * blocks_below size m.space.end ≤ length store
  room = all_blocks size m store some placed within

  keeps_of : (more : List ℕ) (p : Plan) → length message ≤ capacity_of (map_room m) → size * blocks_below size m.space.end ≤ length more →
      GivesPlan size m more message p → KeepsPlan size m more message p
  keeps_of more p fits large gives ts t after is =
      plan_keeps size m more message gives.0 p ts t after some placed.order large is fits gives.1 gives.2

  grown : (more : List ℕ) → size * blocks_below size m.space.end ≤ length (store ++ more)
  grown more = omega (arith, room, length-append store more)

  tail_some : 1 ≤ length (map_tail m)
  tail_some = omega (arith, placed.fits, header_low m.long, length-drop (m.tlv + 1) (map_cells m))

  more_of : (more : List ℕ) (p : Plan) → length message ≤ capacity_of (map_room m) → GivesPlan size m store message p →
      GivesPlan size m (store ++ more) message p × KeepsPlan size m (store ++ more) message p
  more_of more p fits gives =
      let given = plan_of_more size m store message more p some placed.order room tail_some gives in
      (given, keeps_of (store ++ more) p fits (grown more) given)

  kinds_of : (more : List ℕ) (p : Plan) → length message ≤ capacity_of (map_room m) → GivesPlan size m store message p →
      KeepsKinds size m (store ++ more) message p
  kinds_of more p fits gives ts t after is = kind_kept size m ts _ (store ++ more) message p ((more_of more p fits gives).1 ts t after is)

pub plan_steps-requires-clause-within : goal.plan_steps-requires-clause-within
plan_steps-requires-clause-within c =
    all_blocks c.args.block c.args.map.now c.args.store.now c.requires.some c.requires.placed c.requires.within

pub returns-clause-keeps : goal.returns-clause-keeps
returns-clause-keeps c =
    all_keep c.args.block c.args.map.now c.args.store.now c.args.message.now c.plan_steps.result
    (λ p fits gives. keeps_of c.args.block c.args.map.now c.args.store.now c.args.message.now c.requires.some c.requires.placed c.requires.within
    c.args.store.now p fits (all_blocks c.args.block c.args.map.now c.args.store.now c.requires.some c.requires.placed c.requires.within) gives)
    c.plan_steps.ensures.fits c.plan_steps.ensures.plan

pub returns-clause-front : goal.returns-clause-front
returns-clause-front c more =
    all_keep c.args.block c.args.map.now c.args.store.now c.args.message.now c.plan_steps.result
    (λ p fits gives. more_of c.args.block c.args.map.now c.args.store.now c.args.message.now c.requires.some c.requires.placed c.requires.within more p fits gives)
    c.plan_steps.ensures.fits c.plan_steps.ensures.plan

pub returns-clause-form : goal.returns-clause-form
returns-clause-form c more =
    all_keep c.args.block c.args.map.now c.args.store.now c.args.message.now c.plan_steps.result
    (λ p fits gives. kinds_of c.args.block c.args.map.now c.args.store.now c.args.message.now c.requires.some c.requires.placed c.requires.within more p fits gives)
    c.plan_steps.ensures.fits c.plan_steps.ensures.plan
