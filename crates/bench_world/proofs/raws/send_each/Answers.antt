use Rattle.std.proofs.Common.{rules, ◌≡◌, ◌<◌, ◌++◌, ◌+◌, ℕ, List, [], ◌∷◌, drop, get_or, length, Err, sym, ◌∙◌, ap, subst, arith}
use Rattle.std.proofs.lemmas.List.{drop_all, drop_more}
use Rattle.nfc_base.specs.Signal.{Signal}
use Rattle.air_core.specs.Turn.{Transmits}
use Rattle.bench_devices.specs.Device.{devices}
use Rattle.bench_world.specs.Rawing.{raw_heard}
use Rattle.bench_world.proofs.by_hand.RawSending.{Sending, sending_begins, sending_lost, sending_over, sending_rests, sending_then, sending_wanting}
use Rattle.bench_world.proofs.raws.send_each.Goals as goal

-- what is left begins with the frame under way
left_so : (frames : List Signal) (i : ℕ) (x : Signal) → i < length frames → x ≡ get_or frames i x → drop i frames ≡ x ∷ drop (i + 1) frames
left_so frames i x within is = drop_more frames i x within ∙ ap (λ z. z ∷ drop (i + 1) frames) (sym is)

pub loop-frame-init : goal.loop-frame-init
loop-frame-init g c =
    let none : [] ≡ c.new-told.result.items = search rules in
    let fs : List Signal = c.args.frames.now in
    subst (λ hs. Sending g.A.Answerer.restarts g.A.Answerer.steps c.args.field.now c.args.far.now fs fs c.args.field.now c.args.far.now hs) none
    (sending_begins g.A.Answerer.restarts g.A.Answerer.steps g.A.Answerer.stops g.A.Answerer.is_stuck c.args.field.now c.args.far.now fs c.requires)

pub returns-then-is_err : goal.returns-then-is_err
returns-then-is_err g c =
    let fs : List Signal = c.args.frames.now in
    sending_rests g.A.Answerer.restarts g.A.Answerer.steps g.A.Answerer.stops g.A.Answerer.is_stuck c.args.field.now c.args.far.now fs c.requires
    (drop c.loop-frame.frame-index fs) c.loop-frame.field c.loop-frame.far c.loop-frame.told.items c.loop-frame.invariant

pub returns-in-Err-FieldLost : goal.returns-in-Err-FieldLost
returns-in-Err-FieldLost g c =
    let fs : List Signal = c.args.frames.now in
    let i : ℕ = c.loop-frame.frame-index in
    let f : Signal = c.frame-item.result in
    let within : i < length fs = omega (arith, c.loop-frame-test.true) in
    let on : Sending g.A.Answerer.restarts g.A.Answerer.steps c.args.field.now c.args.far.now fs (f ∷ drop (i + 1) fs) c.loop-frame.field c.loop-frame.far c.loop-frame.told.items =
    subst (λ left. Sending g.A.Answerer.restarts g.A.Answerer.steps c.args.field.now c.args.far.now fs left c.loop-frame.field c.loop-frame.far c.loop-frame.told.items)
    (left_so fs i f within c.frame-item.is) c.loop-frame.invariant in
    sending_lost g.A.Answerer.restarts g.A.Answerer.steps g.A.Answerer.stops g.A.Answerer.is_stuck c.args.field.now c.args.far.now fs c.requires f (drop (i + 1) fs)
    c.loop-frame.field c.transmit.new.self c.loop-frame.far c.transmit.new.far c.loop-frame.told.items on
    (subst (λ x. Transmits devices g.A.Answerer.restarts g.A.Answerer.steps g.A.Answerer.stops g.A.Answerer.is_stuck c.loop-frame.field f c.loop-frame.far (Err x) c.transmit.new.self
    c.transmit.new.far)
    c.in-Err-FieldLost.field-0-is c.in-Err-FieldLost.ensures.turn)

pub returns-in-Err-Memory : goal.returns-in-Err-Memory
returns-in-Err-Memory g c =
    let fs : List Signal = c.args.frames.now in
    let i : ℕ = c.loop-frame.frame-index in
    let f : Signal = c.frame-item.result in
    let within : i < length fs = omega (arith, c.loop-frame-test.true) in
    let on : Sending g.A.Answerer.restarts g.A.Answerer.steps c.args.field.now c.args.far.now fs (f ∷ drop (i + 1) fs) c.loop-frame.field c.loop-frame.far c.loop-frame.told.items =
    subst (λ left. Sending g.A.Answerer.restarts g.A.Answerer.steps c.args.field.now c.args.far.now fs left c.loop-frame.field c.loop-frame.far c.loop-frame.told.items)
    (left_so fs i f within c.frame-item.is) c.loop-frame.invariant in
    sending_wanting g.A.Answerer.restarts g.A.Answerer.steps g.A.Answerer.stops g.A.Answerer.is_stuck c.args.field.now c.args.far.now fs c.requires f (drop (i + 1) fs)
    c.loop-frame.field c.transmit.new.self c.loop-frame.far c.transmit.new.far c.loop-frame.told.items on
    (subst (λ x. Transmits devices g.A.Answerer.restarts g.A.Answerer.steps g.A.Answerer.stops g.A.Answerer.is_stuck c.loop-frame.field f c.loop-frame.far (Err x) c.transmit.new.self
    c.transmit.new.far)
    c.in-Err-Memory.field-0-is c.in-Err-Memory.ensures.turn)

pub loop-frame-preserved : goal.loop-frame-preserved
loop-frame-preserved g c =
    let fs : List Signal = c.args.frames.now in
    let i : ℕ = c.loop-frame.frame-index in
    let f : Signal = c.frame-item.result in
    let within : i < length fs = omega (arith, c.loop-frame-test.true) in
    let on : Sending g.A.Answerer.restarts g.A.Answerer.steps c.args.field.now c.args.far.now fs (f ∷ drop (i + 1) fs) c.loop-frame.field c.loop-frame.far c.loop-frame.told.items =
    subst (λ left. Sending g.A.Answerer.restarts g.A.Answerer.steps c.args.field.now c.args.far.now fs left c.loop-frame.field c.loop-frame.far c.loop-frame.told.items)
    (left_so fs i f within c.frame-item.is) c.loop-frame.invariant in
    let same : c.loop-frame.told.items ++ raw_heard c.in-Ok.heard ∷ [] ≡ c.add_heard.new.told.items = search rules in
    subst (λ hs. Sending g.A.Answerer.restarts g.A.Answerer.steps c.args.field.now c.args.far.now fs (drop (i + 1) fs) c.transmit.new.self c.transmit.new.far hs) same
    (sending_then g.A.Answerer.restarts g.A.Answerer.steps g.A.Answerer.stops g.A.Answerer.is_stuck c.args.field.now c.args.far.now fs c.requires f (drop (i + 1) fs)
    c.loop-frame.field c.transmit.new.self c.loop-frame.far c.transmit.new.far c.loop-frame.told.items on c.in-Ok.heard
    (subst (λ r. Transmits devices g.A.Answerer.restarts g.A.Answerer.steps g.A.Answerer.stops g.A.Answerer.is_stuck c.loop-frame.field f c.loop-frame.far r c.transmit.new.self c.transmit.new.far)
    c.in-Ok.is c.transmit.ensures.turn))

pub returns : goal.returns
returns g c =
    let fs : List Signal = c.args.frames.now in
    let i : ℕ = c.loop-frame.frame-index in
    let over : drop i fs ≡ [] = drop_all i fs (omega (arith, c.loop-frame-test.false)) in
    let same : c.loop-frame.told.items ≡ c.new.result = sym c.new.ensures in
    let on : Sending g.A.Answerer.restarts g.A.Answerer.steps c.args.field.now c.args.far.now fs [] c.loop-frame.field c.loop-frame.far c.new.result =
    subst (λ left. Sending g.A.Answerer.restarts g.A.Answerer.steps c.args.field.now c.args.far.now fs left c.loop-frame.field c.loop-frame.far c.new.result) over
    (subst (λ hs. Sending g.A.Answerer.restarts g.A.Answerer.steps c.args.field.now c.args.far.now fs (drop i fs) c.loop-frame.field c.loop-frame.far hs) same c.loop-frame.invariant) in
    sending_over g.A.Answerer.restarts g.A.Answerer.steps g.A.Answerer.stops g.A.Answerer.is_stuck c.args.field.now c.args.far.now fs c.requires c.loop-frame.field c.loop-frame.far c.new.result on
