-- Whatever it hears, a target cuts its replies into pieces that are none too small, and so does an initiator its payloads.
use Rattle.std.proofs.Common.{◌-◌, ◌==◌, nat_lt, ℕ, Bool, true, false, List, ◌++◌, length, Option, Some, None, if◌then◌else◌, arith}
use Rattle.nfc_base.specs.Signal.{Signal}
use Rattle.dep_pdu.specs.declared.frame.DepFrame.{DepFrame}
use Rattle.dep_pdu.specs.declared.frame.DepFrame.TheVariants.{AtrReq, Info, Ack, Nack, Attention, Extend}
use Rattle.dep_link.specs.Frames.{after, spelled}
use Rattle.dep_link.specs.Sizes.{limit, piece_size}
use Rattle.dep_link.specs.Target as t
use Rattle.dep_link.specs.Target.{TargetMove, TargetState, frame_table, heeded, obeyed, replied, target_table}
use Rattle.llcp_link.proofs.Ranged.{either}
use Rattle.bench_world.specs.Cutting.{IsPiece}

-- what an LR code says, also one that stands for none
pub piece_fits : (code : ℕ) → IsPiece (piece_size code)
piece_fits code =
    either {X = ℕ} (λ n. IsPiece (n - 3)) (code == 0) 64 (if code == 1 then 128 else (if code == 2 then 192 else 254)) (λ e. (omega arith, omega arith))
    (λ e. either {X = ℕ} (λ n. IsPiece (n - 3)) (code == 1) 128 (if code == 2 then 192 else 254) (λ e. (omega arith, omega arith))
    (λ e. either {X = ℕ} (λ n. IsPiece (n - 3)) (code == 2) 192 254 (λ e. (omega arith, omega arith)) (λ e. (omega arith, omega arith))))

abbrev Cuts : TargetState → Type 0
Cuts s = IsPiece s.most

again_cuts : (s : TargetState) (o : Option DepFrame) → Cuts s → Cuts (t.again s o).state
again_cuts s None h = h
again_cuts s (Some a) h = h

repeated_cuts : (s : TargetState) (pni : ℕ) → Cuts s → Cuts (t.repeated s pni).state
repeated_cuts s pni h = either {X = TargetMove} (λ m. Cuts m.state) (after pni == s.expected) (t.again s s.last) (t.stays s) (λ e. again_cuts s s.last h) (λ e. h)

grown_cuts : (s : TargetState) (more : Bool) (pni : ℕ) (xs : List ℕ) → Cuts s → Cuts (t.grown s more pni xs).state
grown_cuts s true pni xs h = h
grown_cuts s false pni xs h = h

gathered_cuts : (s : TargetState) (more : Bool) (pni : ℕ) (xs : List ℕ) → Cuts s → Cuts (t.gathered s more pni xs).state
gathered_cuts s more pni xs h =
    either {X = TargetMove} (λ m. Cuts m.state) (nat_lt limit (length xs)) (t.stays (record s { mute = true })) (t.grown s more pni xs) (λ e. h) (λ e. grown_cuts s more pni xs h)

drawn_cuts : (s : TargetState) (pni : ℕ) → Cuts s → Cuts (t.drawn s pni).state
drawn_cuts s pni h = either {X = TargetMove} (λ m. Cuts m.state) (if nat_lt 0 s.due then false else s.unsent) _ (t.stays s) (λ e. h) (λ e. h)

granted_cuts : (s : TargetState) → Cuts s → Cuts (t.granted s).state
granted_cuts s h = either {X = TargetMove} (λ m. Cuts m.state) (nat_lt 1 s.due) _ _ (λ e. h) (λ e. h)

extended_cuts : (s : TargetState) (times : ℕ) → Cuts s → Cuts (t.extended s times).state
extended_cuts s times h =
    either {X = TargetMove} (λ m. Cuts m.state) (nat_lt 0 s.due) (if times == s.times then t.granted s else t.stays s) (if s.followed then t.again s s.last else t.stays s)
    (λ e. either {X = TargetMove} (λ m. Cuts m.state) (times == s.times) (t.granted s) (t.stays s) (λ e. granted_cuts s h) (λ e. h))
    (λ e. either {X = TargetMove} (λ m. Cuts m.state) s.followed (t.again s s.last) (t.stays s) (λ e. again_cuts s s.last h) (λ e. h))

frame_cuts : (s : TargetState) (v : DepFrame) → Cuts s → Cuts (frame_table s v).state
frame_cuts s (Info false more pni content) h =
    either {X = TargetMove} (λ m. Cuts m.state) (pni == s.expected) (t.gathered s more pni (s.chain ++ content.items)) (t.repeated s pni)
    (λ e. gathered_cuts s more pni (s.chain ++ content.items) h) (λ e. repeated_cuts s pni h)
frame_cuts s (Info true more pni content) h = h
frame_cuts s (Ack false pni) h = either {X = TargetMove} (λ m. Cuts m.state) (pni == s.expected) (t.drawn s pni) (t.repeated s pni) (λ e. drawn_cuts s pni h) (λ e. repeated_cuts s pni h)
frame_cuts s (Ack true pni) h = h
frame_cuts s (Nack pni) h = repeated_cuts s pni h
frame_cuts s (Attention true) h = h
frame_cuts s (Attention false) h = h
frame_cuts s (Extend false times) h = extended_cuts s times h
frame_cuts s (Extend true times) h = h
frame_cuts s v h = h

-- but for ATR_REQ nothing changes it
heard_cuts : (s : TargetState) (v : DepFrame) → Cuts s → Cuts (if s.mute then t.stays s else frame_table s v).state
heard_cuts s v h = either {X = TargetMove} (λ m. Cuts m.state) s.mute (t.stays s) (frame_table s v) (λ e. h) (λ e. frame_cuts s v h)

heeded_cuts : (s : TargetState) (v : DepFrame) → Cuts s → Cuts (heeded s v).state
heeded_cuts s (AtrReq id code general) h = piece_fits code
heeded_cuts s v h = heard_cuts s v h

obeyed_cuts : (s : TargetState) (o : Option DepFrame) → Cuts s → Cuts (obeyed s o).state
obeyed_cuts s None h = h
obeyed_cuts s (Some v) h = heeded_cuts s v h

pub target_cuts : (s : TargetState) (f : Signal) → Cuts s → Cuts (target_table s f).state
target_cuts s f h = obeyed_cuts s (spelled f) h

pub replied_cuts : (s : TargetState) (r : List ℕ) → Cuts s → Cuts (replied s r)
replied_cuts s r h = either {X = TargetState} Cuts (nat_lt 0 s.busy) _ _ (λ e. h) (λ e. h)
