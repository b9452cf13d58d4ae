-- ATR_REQ is sent to a selected peer that stands alone: it begins a link there whenever the frame passes, and hands no payload over.
use Rattle.std.proofs.Common.{◌≡◌, ℕ, ◌≤◌, ◌||◌, Bool, true, false, if◌then◌else◌, List, [], ◌∷◌, ◌++◌, length, Option, Some, None, refl, sym, ◌∙◌, ap, subst, arith}
use Rattle.std.specs.Prelude.{get_or, ◌-◌, ◌==◌}
use Rattle.nfc_base.specs.Far.{FarUse, Untouched, Restarts, Hands}
use Rattle.nfc_base.specs.Trace.{heard_by}
use Rattle.nfc_base.specs.declared.event.Fate.{Fate}
use Rattle.nfc_base.specs.declared.event.Fate.TheVariants.{Pass, Damage, Lose, Break}
use Rattle.nfc_base.specs.declared.event.Heard.{Heard}
use Rattle.nfc_base.specs.declared.event.Heard.TheVariants.{Whole, Collided, Damaged, Silent}
use Rattle.nfc_base.specs.Choosing.{first_number}
use Rattle.air_core.specs.Joint.{Joint, Nothing, Single, Clashing}
use Rattle.air_core.specs.World.{answered_by, hands_over, hears, stepped_by}
use Rattle.air_core.specs.Conversation.{joint_back, joint_events, replay, turn_events, turn_heard}
use Rattle.nfca_poll.specs.Front.{Front, Off, Idle, Sleep, Ready, Active}
use Rattle.nfca_poll.specs.Fronted.{Fronted, active_after, handed_by}
use Rattle.dep_link.specs.Activating.{atr_req}
use Rattle.dep_link.specs.Exchange.{InStep}
use Rattle.dep_link.specs.Frames.{is_atr_req}
use Rattle.nfc_base.specs.Pieces.{longest_extension, most_busy}
use Rattle.dep_link.specs.Initiator.{waiting}
use Rattle.dep_link.specs.Peers.{target_use}
use Rattle.dep_link.specs.Sizes.{initiator_lr, piece_size}
use Rattle.dep_link.specs.Target.{TargetState, TargetTurn, framed, heeded, restarted, target_table}
use Rattle.dep_link.proofs.Wire.{target_heeds}
use Rattle.far_air.specs.FarEnds.{by_link, moved, numbers_left, reply_to}
use Rattle.far_air.specs.FarWorld.{AllMet, far_stepped, met_first}
use Rattle.far_air.specs.Staying.{NoPayload}
use Rattle.peer_air.specs.PeerFars.{peer_ends}
use Rattle.link_numbers.proofs.far.FarAlone.{Around, AreAround, IsAmid, alone, amid, around_all, is_placed, same_joint, turned}
use Rattle.link_numbers.proofs.far.FarCourse.{Made, made_events, made_world}
use Rattle.bench_devices.specs.declared.device.Device.{Device}
use Rattle.bench_devices.specs.declared.device.Device.TheVariants.{T2, T4, Peer, T5, T3}
use Rattle.bench_devices.specs.Device.{device_linked, devices}
use Rattle.bench_devices.specs.Keeping.{ghosts}
use Rattle.bench_devices.specs.Peers.{PeerDid, PeerNear, asked_if, by_turn, peer_did, peer_if, peer_machine, takes_frame}
use Rattle.bench_devices.proofs.kinds.OpenPeer.{atr_range, is_atr, peer_in}
use Rattle.air_core.specs.PlainTags.{IsAside}
use Rattle.bench_world.specs.Forging.{forged_general}
use Rattle.bench_world.specs.World.{FarEnd, WholeWorld, bench_air}
use Rattle.bench_world.proofs.devices.FarDevices.{TalksTo, aside_darkened, aside_quiet}
use Rattle.bench_world.proofs.forged.ForgeNotes.{atr}
use Rattle.link_numbers.proofs.far.FarWalk.{IsWhole}

short : length forged_general ≤ 48
short = omega arith

pub atr_is : is_atr_req atr ≡ true
atr_is = is_atr forged_general short

heeds : (t : TargetState) → target_table t atr ≡ framed (heeded t (atr_req forged_general))
heeds t = target_heeds t (atr_req forged_general) (atr_range forged_general short)

-- No device hands a payload over at it.
target_none : (t : TargetState) (payload : List ℕ) → target_use (target_table t atr).does ≡ Hands payload → ⊥
target_none t payload e = subst (λ (x : TargetTurn). target_use x.does ≡ Hands payload → ⊥) (sym (heeds t)) (λ h. absurd cc) e

asked_none : (v : Bool) (u : PeerNear) (payload : List ℕ) → asked_if v u atr ≡ Hands payload → ⊥
asked_none true u payload e = target_none u.target payload e
asked_none false u payload e = absurd cc

peer_none : (front : Front) (d : Fronted PeerNear) (payload : List ℕ) → handed_by peer_machine front d atr ≡ Hands payload → ⊥
peer_none Off d payload e = absurd cc
peer_none Idle d payload e = absurd cc
peer_none Sleep d payload e = absurd cc
peer_none (Ready k starred) d payload e = absurd cc
peer_none (Active starred) d payload e = asked_none (takes_frame d.upper atr) d.upper payload e

handed_none : (l : Device) (payload : List ℕ) → devices.handed l atr ≡ Hands payload → ⊥
handed_none (T2 d) payload e = absurd cc
handed_none (T4 d) payload e = absurd cc
handed_none (Peer d) payload e = peer_none d.front d payload e
handed_none (T5 p) payload e = absurd cc
handed_none (T3 p) payload e = absurd cc

heard_none : (v : Bool) (l : Device) (payload : List ℕ) → (if v then devices.handed l atr else Untouched) ≡ Hands payload → ⊥
heard_none true l payload e = handed_none l payload e
heard_none false l payload e = absurd cc

pub atr_payless : (ds : List Device) → NoPayload devices device_linked peer_ends atr ds
atr_payless [] = tt
atr_payless (d ∷ ds) = ((λ payload e. heard_none (hears devices d atr) d payload e), atr_payless ds)

-- One selected peer, with a link or without one, once it has heard it.
module _ (id : List ℕ) (starred linked : Bool) (t : TargetState) (far : FarEnd) (ns : List ℕ) where
  abbrev u : PeerNear
  u = record { target = t; linked = linked }

  abbrev d : Fronted PeerNear
  d = peer_in id starred linked t

  abbrev begun : Device
  begun = Peer (peer_in id starred true (restarted t initiator_lr))

  abbrev end : FarEnd
  end = peer_ends.restarted far forged_general

  taken_at : (v w : Bool) → w ≡ true → (v || w) ≡ true
  taken_at true w e = refl
  taken_at false w e = e

  taken : takes_frame u atr ≡ true
  taken = taken_at linked (is_atr_req atr) atr_is

  did : peer_did u atr None ≡ by_turn (framed (heeded t (atr_req forged_general))) None
  did = ap (λ v. peer_if v u atr None) taken ∙ ap (λ z. by_turn z None) (heeds t)

  steps : stepped_by devices (Peer d) atr None ≡ begun
  steps = ap (λ (z : PeerDid). Peer (active_after peer_machine z.says z.after d atr)) did

  hands : hands_over devices (Peer d) atr ≡ Restarts forged_general
  hands = ap (λ v. asked_if v u atr) taken ∙ ap (λ (z : TargetTurn). target_use z.does) (heeds t)

  abbrev met_by : FarUse → AllMet Device FarEnd
  met_by how =
      let r : Option (List ℕ) = reply_to peer_ends how (Some far) (first_number ns) in
      let e : Device = stepped_by devices (Peer d) atr r in
      met_first e (by_link peer_ends (device_linked e) (moved peer_ends how (Some far) (first_number ns))) (answered_by devices (Peer d) atr r)
      (record { listeners = []; fars = []; answers = []; numbers = numbers_left r ns })

  abbrev before : WholeWorld
  before = alone devices device_linked peer_ends true (Peer d) (Some far) ns

  abbrev behind : WholeWorld
  behind = alone devices device_linked peer_ends true begun (Some end) ns

  world_of : AllMet Device FarEnd → WholeWorld
  world_of y = record { field = record { lit = true; listeners = y.listeners }; fars = y.fars; numbers = y.numbers }

  pub passes : far_stepped devices device_linked peer_ends before atr ≡ behind
  unfolding world_of
  passes =
      ap (λ z. world_of (met_by z)) hands
      ∙ ap (λ z. alone devices device_linked peer_ends true z (by_link peer_ends (device_linked z) (Some end)) ns) steps

-- A selected peer stands so, alone, in a lit field, with its far end above it.
pub record AwaitsAtr (w : WholeWorld) : Type 0 where
  pub x : Around Device FarEnd
  pub id : List ℕ
  pub starred : Bool
  pub linked : Bool
  pub target : TargetState
  pub far : FarEnd
  pub numbers : List ℕ
  pub here : w ≡ amid devices device_linked peer_ends x true (Peer (peer_in id starred linked target)) (Some far) numbers
  pub around : AreAround devices device_linked peer_ends (IsAside ghosts id) IsWhole x
  pub few : target.busy ≤ most_busy
  pub times : (1 ≤ target.times) × (target.times ≤ longest_extension)

-- It heard ATR_REQ just now: a link begins there.
pub record BeginsLink (w : WholeWorld) : Type 0 where
  pub awaits : AwaitsAtr w
  pub linked : awaits.linked ≡ true
  pub begun : awaits.target ≡ restarted awaits.target initiator_lr

-- So it is behind a turn, by what was heard: if the field wasn't lost it awaits the frame again, and where a whole answer came a link begins.
abbrev pub Behind : WholeWorld → Option Heard → Type 0
Behind w None = Unit {0}
Behind w (Some (Whole g)) = BeginsLink w
Behind w (Some (Collided g)) = AwaitsAtr w
Behind w (Some Damaged) = AwaitsAtr w
Behind w (Some Silent) = AwaitsAtr w

module _ (w : WholeWorld) (a : AwaitsAtr w) where
  abbrev one : WholeWorld
  one = before a.id a.starred a.linked a.target a.far a.numbers

  abbrev next : WholeWorld
  next = behind a.id a.starred a.linked a.target a.far a.numbers

  abbrev Amid : Around Device FarEnd → WholeWorld → WholeWorld → Type 0
  Amid x v z = IsAmid devices device_linked peer_ends (IsAside ghosts a.id) IsWhole (aside_quiet a.id) (aside_darkened a.id) x v z

  am : Amid a.x w one
  am = record { lit = true; device = Peer (peer_in a.id a.starred a.linked a.target); far = Some a.far; numbers = a.numbers; here = a.here; apart = refl; others = a.around }

  -- a link begins
  begins : (x : Around Device FarEnd) (v : WholeWorld) → Amid x v next → BeginsLink v
  begins x v k = record {
    awaits = record {
      x = x;
      id = a.id;
      starred = a.starred;
      linked = true;
      target = restarted a.target initiator_lr;
      far = end a.id a.starred a.linked a.target a.far a.numbers;
      numbers = a.numbers;
      here = is_placed devices device_linked peer_ends (IsAside ghosts a.id) IsWhole (aside_quiet a.id) (aside_darkened a.id) x v next k;
      around = k.others;
      few = a.few;
      times = a.times;
    };
    linked = refl;
    begun = refl;
  }

  abbrev Pure : Joint → Fate → Type 0
  Pure j y = (x : Around Device FarEnd) (v : WholeWorld) → Amid x v (replay bench_air next (joint_events j y)) → Behind v (heard_by Pass (joint_back j y))

  came : (j : Joint) (y : Fate) → Pure j y
  came Nothing y x v k = (begins x v k).awaits
  came (Single g) Pass x v k = begins x v k
  came (Single g) Damage x v k = (begins x v k).awaits
  came (Single g) Lose x v k = (begins x v k).awaits
  came (Single g) Break x v k = tt
  came (Clashing g) Pass x v k = (begins x v k).awaits
  came (Clashing g) Damage x v k = (begins x v k).awaits
  came (Clashing g) Lose x v k = (begins x v k).awaits
  came (Clashing g) Break x v k = tt

  abbrev made : Fate → Made
  made y = record { frame = atr; fate = Pass; back = y }

  passed : (y : Fate) → Behind (replay bench_air w (turn_events bench_air w atr Pass y)) (turn_heard bench_air w atr Pass y)
  passed y =
      let v : WholeWorld = made_world bench_air w (made y) in
      let k = turned devices device_linked peer_ends (IsAside ghosts a.id) IsWhole (aside_quiet a.id) (aside_darkened a.id) a.x w one (made y) refl am in
      let same : bench_air.joint w atr ≡ bench_air.joint one atr =
      same_joint devices device_linked peer_ends (IsAside ghosts a.id) IsWhole (aside_quiet a.id) (aside_darkened a.id) a.x w one atr refl am in
      let j : Joint = bench_air.joint one atr in
      let x : Around Device FarEnd = around_all devices device_linked peer_ends a.x (made_events bench_air one (made y)) in
      let there : Amid x v (replay bench_air next (joint_events j y)) =
      subst (λ z. Amid x v (replay bench_air z (joint_events j y))) (passes a.id a.starred a.linked a.target a.far a.numbers) k in
      subst (λ i. Behind v (heard_by Pass (joint_back i y))) (sym same) (came j y x v there)

  -- One turn of it.
  pub atr_turn : (x y : Fate) → Behind (replay bench_air w (turn_events bench_air w atr x y)) (turn_heard bench_air w atr x y)
  atr_turn Pass y = passed y
  atr_turn Damage y = a
  atr_turn Lose y = a
  atr_turn Break y = tt

-- Once a link begins both ends of it are in step, whatever LR code was told.
piece_some : (code : ℕ) → (1 ≤ piece_size code) × (piece_size code ≤ 251)
piece_some code = by (code == 0) (code == 1) (code == 2)
  where
    by : (p q r : Bool) → (1 ≤ (if p then 64 else (if q then 128 else (if r then 192 else 254))) - 3) × ((if p then 64 else (if q then 128 else (if r then 192 else 254))) - 3 ≤ 251)
    by true q r = (omega arith, omega arith)
    by false true r = (omega arith, omega arith)
    by false false true = (omega arith, omega arith)
    by false false false = (omega arith, omega arith)

in_step : (code : ℕ) (t : TargetState) → t.busy ≤ most_busy → (1 ≤ t.times) × (t.times ≤ longest_extension) → InStep (waiting code) (restarted t initiator_lr)
in_step code t few times = record {
  heeds = refl;
  number = omega arith;
  expects = refl;
  no_chain = refl;
  no_left = refl;
  all_sent = refl;
  asks = piece_some code;
  answers = (omega arith, omega arith);
  busy = few;
  times = times;
}

at_place : (firsts : List (Option FarEnd)) (before : List Device) (o : Option FarEnd) (lasts : List (Option FarEnd)) → length firsts ≡ length before
    → get_or (firsts ++ o ∷ lasts) (length before) None ≡ o
at_place [] [] o lasts e = refl
at_place [] (b ∷ before) o lasts e = absurd cc
at_place (f ∷ firsts) [] o lasts e = absurd cc
at_place (f ∷ firsts) (b ∷ before) o lasts e = let less : length firsts ≡ length before = cc in at_place firsts before o lasts less

pub talks_then : (w : WholeWorld) (b : BeginsLink w) (code : ℕ) → TalksTo w (length b.awaits.x.before) (waiting code) b.awaits.far
talks_then w b code =
    let a : AwaitsAtr w = b.awaits in
    let l : Device = Peer (peer_in a.id a.starred a.linked a.target) in
    record {
      lit = ap (λ (z : WholeWorld). z.field.lit) a.here;
      device = l;
      selected = refl;
      has_link = b.linked;
      alone = record {
        before = a.x.before;
        behind = a.x.behind;
        split = ap (λ (z : WholeWorld). z.field.listeners) a.here;
        stands = refl;
        first = a.around.first;
        later = a.around.later;
      };
      step = subst (InStep (waiting code)) (sym b.begun) (in_step code a.target a.few a.times);
      above = ap (λ (z : WholeWorld). get_or z.fars (length a.x.before) None) a.here ∙ at_place a.x.firsts a.x.before (Some a.far) a.x.lasts a.around.places;
    }
