-- A peer of the bench that is selected takes ATR_REQ, which opens a link to it, and from then on each frame of an exchange: it does what
-- its target's table says, and stays selected.
use Rattle.std.proofs.Common.{◌≡◌, ◌==◌, ◌||◌, inl, inr, nat_lt, ℕ, zero, suc, ◌+◌, ◌-◌, ◌<◌, ◌≤◌, List, [], ◌∷◌, length, replicate, ◌++◌, Bool, true, false, if◌then◌else◌, Option, Some, None, refl}
use Rattle.std.proofs.Common.{sym, ◌∙◌, ap, subst, arith}
use Rattle.std.specs.List.{AllByRecursion}
use Rattle.std.proofs.lemmas.List.{length-append, length-replicate}
use Rattle.nfc_base.specs.declared.frame.Tech.TheVariants.{A}
use Rattle.nfc_base.specs.Signal.{Signal}
use Rattle.nfca_poll.specs.Ident.{IsIdent, IsIdentLength}
use Rattle.llcp_pdu.specs.declared.param.Param.TheVariants.{Version, Miux, Wks}
use Rattle.llcp_pdu.specs.Wire.{magic, least_miu}
use Rattle.llcp_pdu.specs.Writing.{params_bytes}
use Rattle.nfca_poll.specs.Front.{Front, Off, Idle, Sleep, Ready, Active, is_active}
use Rattle.nfca_poll.specs.Fronted.{Fronted, active_answer, active_after}
use Rattle.dep_pdu.specs.declared.frame.DepFrame.{DepFrame}
use Rattle.dep_pdu.specs.declared.frame.DepFrame.TheVariants.{AtrReq, AtrRes, Info, Ack, Nack, Attention, Extend, DslReq, DslRes, RlsReq, RlsRes}
use Rattle.dep_pdu.specs.Spelling.{IsDepFrame}
use Rattle.dep_link.specs.declared.target.TargetStep.{TargetStep}
use Rattle.dep_link.specs.declared.target.TargetStep.TheVariants as steps
use Rattle.dep_link.specs.Sizes.{limit}
use Rattle.dep_link.specs.Frames.{after, names_atr, is_atr_req, spelled}
use Rattle.dep_link.specs.Target.{TargetState, TargetTurn, TargetMove, Does, Stays, Answers, Begins, Delivers, Sleeps, Frees, again, repeated, grown, gathered, drawn, extended, heeded, framed}
use Rattle.dep_link.specs.Target.{framed_does, target_table, fresh, darkened, made_busy, atr_res}
use Rattle.dep_link.specs.laws.Moves.{SameSelf, same_self}
use Rattle.dep_link.specs.laws.Delivering.{obeyed_same, then_same}
use Rattle.dep_link.specs.Answering.{reply_for}
use Rattle.dep_link.specs.Sessions.{IsBusy}
use Rattle.dep_link.specs.Peers.{target_use, answered_with, left_with, IsAskedFrame, IsAsked, Hearing, IsHearing, heard_with, reached, StepsByTarget, IsPeer}
use Rattle.dep_link.specs.Activating.{atr_req, atr_frame, sent_times, TakesAtr}
use Rattle.dep_link.proofs.Wire.{written_read, target_heeds}
use Rattle.bench_devices.specs.declared.device.Device.{Device}
use Rattle.bench_devices.specs.declared.device.Device.TheVariants.{T2, T4, Peer, T5, T3}
use Rattle.bench_devices.specs.Device.{device_end, device_selected, is_tag}
use Rattle.bench_devices.specs.Keeping.{ghosts, kept, IsSound}
use Rattle.bench_devices.specs.Peers.{PeerNear, by_target, peer_if, asked_if, takes_frame, peer_machine, id3_of, peer_general, made_near, IsMadePeer}

-- a step of a target behind which its link goes on
abbrev pub StaysAwake : TargetStep → Type 0
StaysAwake steps.Quiet = Unit {0}
StaysAwake (steps.Reply f) = Unit {0}
StaysAwake (steps.Restart general f) = Unit {0}
StaysAwake (steps.Deliver payload) = Unit {0}
StaysAwake (steps.Asleep f) = ⊥
StaysAwake (steps.Released f) = ⊥

-- a selected peer with this end
abbrev pub peer_in : List ℕ → Bool → Bool → TargetState → Fronted PeerNear
peer_in id starred linked t = record { id = id; front = Active starred; upper = record { target = t; linked = linked } }

module _ (id : List ℕ) (starred linked : Bool) (own t : TargetState) (f : Signal) (r : List ℕ) where
  abbrev d : Fronted PeerNear
  d = peer_in id starred linked own

  answers_so : (does : TargetStep) → active_answer peer_machine (by_target t (reply_for r (target_use does)) does).says d f ≡ answered_with t r does
  answers_so steps.Quiet = refl
  answers_so (steps.Reply g) = refl
  answers_so (steps.Restart general g) = refl
  answers_so (steps.Deliver payload) = refl
  answers_so (steps.Asleep g) = refl
  answers_so (steps.Released g) = refl

  leaves_so : (does : TargetStep) → StaysAwake does
      → active_after peer_machine (by_target t (reply_for r (target_use does)) does).says (by_target t (reply_for r (target_use does)) does).after d f ≡ peer_in id starred true (left_with t r does)
  leaves_so steps.Quiet a = refl
  leaves_so (steps.Reply g) a = refl
  leaves_so (steps.Restart general g) a = refl
  leaves_so (steps.Deliver payload) a = refl
  leaves_so (steps.Asleep g) a = absurd a
  leaves_so (steps.Released g) a = absurd a

-- a peer that takes a frame has a link then
pub record Takes (id : List ℕ) (starred linked : Bool) (t : TargetState) (f : Signal) (r : List ℕ) : Type 0 where
  pub steps : StepsByTarget ghosts device_end (Peer (peer_in id starred linked t)) f r
  pub left : heard_with ghosts (Peer (peer_in id starred linked t)) f r ≡ Peer (peer_in id starred true (left_with (target_table t f).state r (target_table t f).does))

takes : (id : List ℕ) (starred linked : Bool) (t : TargetState) (f : Signal) (r : List ℕ) → takes_frame (record { target = t; linked = linked }) f ≡ true → StaysAwake (target_table t f).does
    → Takes id starred linked t f r
takes id starred linked t f r taken awake =
    let u : PeerNear = record { target = t; linked = linked } in
    let e : Fronted PeerNear = peer_in id starred linked t in
    let x : TargetTurn = target_table t f in
    let left : heard_with ghosts (Peer e) f r ≡ Peer (peer_in id starred true (left_with x.state r x.does)) =
    ap (λ v. Peer (active_after peer_machine (peer_if v u f (reply_for r (asked_if v u f))).says (peer_if v u f (reply_for r (asked_if v u f))).after e f)) taken
    ∙ ap Peer (leaves_so id starred linked t x.state f r x.does awake) in
    record {
      steps = record {
        asks = ap (λ v. asked_if v u f) taken;
        answer = ap (λ v. active_answer peer_machine (peer_if v u f (reply_for r (asked_if v u f))).says e f) taken ∙ answers_so id starred linked t x.state f r x.does;
        target_is = ap device_end left;
        selected = ap device_selected left;
      };
      left = left;
    }

-- No frame of an exchange puts a target to sleep or frees it.
abbrev Wakes : Does → Type 0
Wakes Stays = Unit {0}
Wakes (Answers v) = Unit {0}
Wakes (Begins general v) = Unit {0}
Wakes (Delivers xs) = Unit {0}
Wakes (Sleeps v) = ⊥
Wakes (Frees v) = ⊥

abbrev Wakens : TargetMove → Type 0
Wakens m = Wakes m.does

if_wakens : (b : Bool) (m n : TargetMove) → Wakens m → Wakens n → Wakens (if b then m else n)
if_wakens true m n p q = p
if_wakens false m n p q = q

again_wakens : (t : TargetState) (o : Option DepFrame) → Wakens (again t o)
again_wakens t None = tt
again_wakens t (Some a) = tt

grown_wakens : (t : TargetState) (more : Bool) (pni : ℕ) (xs : List ℕ) → Wakens (grown t more pni xs)
grown_wakens t true pni xs = tt
grown_wakens t false pni xs = tt

repeated_wakens : (t : TargetState) (pni : ℕ) → Wakens (repeated t pni)
repeated_wakens t pni = if_wakens (after pni == t.expected) _ _ (again_wakens t t.last) tt

gathered_wakens : (t : TargetState) (more : Bool) (pni : ℕ) (xs : List ℕ) → Wakens (gathered t more pni xs)
gathered_wakens t more pni xs = if_wakens (nat_lt limit (length xs)) _ _ tt (grown_wakens t more pni xs)

drawn_wakens : (t : TargetState) (pni : ℕ) → Wakens (drawn t pni)
drawn_wakens t pni = if_wakens (if nat_lt 0 t.due then false else t.unsent) _ _ tt tt

extended_wakens : (t : TargetState) (times : ℕ) → Wakens (extended t times)
extended_wakens t times =
    if_wakens (nat_lt 0 t.due) _ _ (if_wakens (times == t.times) _ _ (if_wakens (nat_lt 1 t.due) _ _ tt tt) tt) (if_wakens t.followed _ _ (again_wakens t t.last) tt)

asked_wakens : (t : TargetState) (v : DepFrame) → IsAskedFrame v → Wakens (heeded t v)
asked_wakens t (Info false more pni content) a =
    if_wakens t.mute _ _ tt (if_wakens (pni == t.expected) _ _ (gathered_wakens t more pni (t.chain ++ content.items)) (repeated_wakens t pni))
asked_wakens t (Ack false pni) a = if_wakens t.mute _ _ tt (if_wakens (pni == t.expected) _ _ (drawn_wakens t pni) (repeated_wakens t pni))
asked_wakens t (Nack pni) a = if_wakens t.mute _ _ tt (repeated_wakens t pni)
asked_wakens t (Attention false) a = if_wakens t.mute _ _ tt tt
asked_wakens t (Extend false times) a = if_wakens t.mute _ _ tt (extended_wakens t times)
asked_wakens t (Info true more pni content) a = absurd a
asked_wakens t (Ack true pni) a = absurd a
asked_wakens t (Attention true) a = absurd a
asked_wakens t (AtrReq id lr general) a = absurd a
asked_wakens t (AtrRes id timeout lr general) a = absurd a
asked_wakens t (Extend true times) a = absurd a
asked_wakens t DslReq a = absurd a
asked_wakens t DslRes a = absurd a
asked_wakens t RlsReq a = absurd a
asked_wakens t RlsRes a = absurd a

asked_range : (v : DepFrame) → IsAskedFrame v → IsDepFrame v
asked_range (Info false more pni content) a = a
asked_range (Ack false pni) a = a
asked_range (Nack pni) a = a
asked_range (Attention false) a = tt
asked_range (Extend false times) a = a
asked_range (Info true more pni content) a = absurd a
asked_range (Ack true pni) a = absurd a
asked_range (Attention true) a = absurd a
asked_range (AtrReq id lr general) a = absurd a
asked_range (AtrRes id timeout lr general) a = absurd a
asked_range (Extend true times) a = absurd a
asked_range DslReq a = absurd a
asked_range DslRes a = absurd a
asked_range RlsReq a = absurd a
asked_range RlsRes a = absurd a

framed_awake : (d : Does) → Wakes d → StaysAwake (framed_does d)
framed_awake Stays a = tt
framed_awake (Answers v) a = tt
framed_awake (Begins general v) a = tt
framed_awake (Delivers xs) a = tt
framed_awake (Sleeps v) a = absurd a
framed_awake (Frees v) a = absurd a

move_awake : (t : TargetState) (f : Signal) (m : TargetMove) → target_table t f ≡ framed m → Wakens m → StaysAwake (target_table t f).does
move_awake t f m e a = subst (λ (x : TargetTurn). StaysAwake x.does) (sym e) (framed_awake m.does a)

asked_awake : (t : TargetState) (f : Signal) → IsAsked f → StaysAwake (target_table t f).does
asked_awake t f a = move_awake t f (heeded t a.value) (ap (target_table t) a.frame ∙ target_heeds t a.value (asked_range a.value a.asked)) (asked_wakens t a.value a.asked)

-- ATR_REQ is in range
pub atr_range : (general : List ℕ) → length general ≤ 48 → IsDepFrame (atr_req general)
atr_range general short = (refl, omega arith, short)

pub is_atr : (general : List ℕ) → length general ≤ 48 → is_atr_req (atr_frame general) ≡ true
is_atr general short = ap names_atr (written_read (atr_req general) (atr_range general short))

atr_awake : (t : TargetState) (general : List ℕ) → length general ≤ 48 → StaysAwake (target_table t (atr_frame general)).does
atr_awake t general short = move_awake t (atr_frame general) (heeded t (atr_req general)) (target_heeds t (atr_req general) (atr_range general short)) tt

joins : (t u v : TargetState) → SameSelf t u → SameSelf u v → SameSelf t v
joins t u v a b = record {
  named = b.named ∙ a.named;
  code = b.code ∙ a.code;
  says = b.says ∙ a.says;
  asks = b.asks ∙ a.asks;
  longer = b.longer ∙ a.longer;
}

-- what a target says of itself stays in its step
table_same : (t : TargetState) (f : Signal) (r : List ℕ) → SameSelf t (left_with (target_table t f).state r (target_table t f).does)
table_same t f r = then_same t (target_table t f).state r (target_table t f).does (obeyed_same t (spelled f))

-- a selected peer with a link, which says of itself what this end says
pub record IsOpenPeer (start : TargetState) (l : Device) : Type 0 where
  pub id : List ℕ
  pub starred : Bool
  pub now : TargetState
  pub is : l ≡ Peer (peer_in id starred true now)
  pub self : SameSelf start now

module _ (start : TargetState) where
  open_behind : (id : List ℕ) (starred linked : Bool) (t : TargetState) (f : Signal) (r : List ℕ) → SameSelf start t → Takes id starred linked t f r
      → IsOpenPeer start (heard_with ghosts (Peer (peer_in id starred linked t)) f r)
  open_behind id starred linked t f r self x = record {
    id = id;
    starred = starred;
    now = left_with (target_table t f).state r (target_table t f).does;
    is = x.left;
    self = joins start t _ self (table_same t f r);
  }

  abbrev StepsOn : Device → Signal → List ℕ → Type 0
  StepsOn l f r = StepsByTarget ghosts device_end l f r × IsOpenPeer start (heard_with ghosts l f r)

  open_steps : (l : Device) → (o : IsOpenPeer start l) → (f : Signal) (r : List ℕ) → StaysAwake (target_table o.now f).does → StepsOn l f r
  open_steps l o f r awake =
      let x : Takes o.id o.starred true o.now f r = takes o.id o.starred true o.now f r refl awake in
      subst (λ m. StepsOn m f r) (sym o.is) (x.steps, open_behind o.id o.starred true o.now f r o.self x)

  reached_open : (hs : List Hearing) → AllByRecursion IsHearing hs → (l : Device) → IsOpenPeer start l → IsOpenPeer start (reached ghosts l hs)
  reached_open [] a l o = o
  reached_open (h ∷ hs) a l o =
      reached_open hs a.1 (heard_with ghosts l h.frame h.reply) (open_steps l o h.frame h.reply (asked_awake o.now h.frame a.0.asked)).1

  -- it is a peer
  pub is_peer : (l : Device) → IsOpenPeer start l → IsPeer ghosts device_end l
  is_peer l o = record {
    tech = let P : Device → Type 0 = λ m. ghosts.machine.tech m ≡ A in subst P (sym o.is) refl;
    steps_on = λ hs a f q r b.
        let here : IsOpenPeer start (reached ghosts l hs) = reached_open hs a l o in
        (open_steps (reached ghosts l hs) here f r (asked_awake here.now f q)).0;
    cleared = λ hs a.
        let here : IsOpenPeer start (reached ghosts l hs) = reached_open hs a l o in
        let P : Device → Type 0 = λ m. device_end (ghosts.machine.darkened m) ≡ darkened (device_end m) in
        subst P (sym here.is) refl;
  }

-- A selected peer that says of itself what is in range takes ATR_REQ, however often.
module _ (id : List ℕ) (starred linked : Bool) (t : TargetState) (general : List ℕ) (short : length general ≤ 48) where
  abbrev l : Device
  l = Peer (peer_in id starred linked t)

  abbrev f : Signal
  f = atr_frame general

  taken_at : (v w : Bool) → w ≡ true → (v || w) ≡ true
  taken_at true w e = refl
  taken_at false w e = e

  first : Takes id starred linked t f []
  first = takes id starred linked t f [] (taken_at linked (is_atr_req f) (is_atr general short)) (atr_awake t general short)

  sent_open : (n : ℕ) → IsOpenPeer t (sent_times ghosts device_end l f (suc n))
  sent_open zero = open_behind t id starred linked t f [] (same_self t) first
  sent_open (suc n) =
      let here = sent_open n in
      (open_steps t (sent_times ghosts device_end l f (suc n)) here f [] (atr_awake here.now general short)).1

  sent_steps : (n : ℕ) → StepsByTarget ghosts device_end (sent_times ghosts device_end l f n) f []
  sent_steps zero = first.steps
  sent_steps (suc n) =
      let here = sent_open n in
      (open_steps t (sent_times ghosts device_end l f (suc n)) here f [] (atr_awake here.now general short)).0

  takes_first : IsDepFrame (atr_res t) → IsBusy t → TakesAtr ghosts device_end l general
  takes_first says busy = record {
    tech = refl;
    says = says;
    busy = busy;
    steps = sent_steps;
    is = λ n. is_peer t (sent_times ghosts device_end l f (suc n)) (sent_open n);
  }

-- what a peer that may be made says of itself
ident_long : (n : ℕ) → IsIdentLength n → n ≤ 10
ident_long n (inl e) = omega (arith, e)
ident_long n (inr (inl e)) = omega (arith, e)
ident_long n (inr (inr e)) = omega (arith, e)

id_long : (id : List ℕ) → IsIdent id → length (id3_of id) ≡ 10
id_long id is =
    let sum : length (id3_of id) ≡ length id + length (replicate (10 - length id) 0) = length-append id (replicate (10 - length id) 0) in
    let zeros : length (replicate (10 - length id) 0) ≡ 10 - length id = length-replicate {A = ℕ} (10 - length id) 0 in
    let few : length id ≤ 10 = ident_long (length id) is.size in
    omega (arith, sum, zeros, few)

general_short : (miu : ℕ) → length (peer_general miu) ≤ 47
general_short miu = by_miu (miu == least_miu)
  where
    by_miu : (v : Bool) → length (magic ++ params_bytes (Version 0x13 ∷ ((if v then [] else Miux (miu - least_miu) ∷ []) ++ Wks 0x0013 ∷ []))) ≤ 47
    by_miu true = omega arith
    by_miu false = omega arith

made_says : (id : List ℕ) (u : PeerNear) → IsIdent id → IsMadePeer id (made_near u) → IsDepFrame (atr_res u.target)
made_says id u named m =
    let E : TargetState = made_busy (fresh (id3_of id) m.lr (peer_general m.miu)) u.target.busy u.target.times in
    let own : u.target.id ≡ id3_of id = ap (λ (t : TargetState). t.id) m.made in
    let code : u.target.lr ≡ m.lr = ap (λ (t : TargetState). t.lr) m.made in
    let says : u.target.general ≡ peer_general m.miu = ap (λ (t : TargetState). t.general) m.made in
    let long = general_short m.miu in
    (ap length own ∙ id_long id named, subst (λ n. n < 4) (sym code) m.code, subst (λ xs. length xs ≤ 47) (sym says) long)

made_busies : (id : List ℕ) (u : PeerNear) → IsMadePeer id (made_near u) → IsBusy u.target
made_busies id u m = record { count = m.few; times = (m.some, m.longest) }

takes_at : (id : List ℕ) (front : Front) (u : PeerNear) → is_active front ≡ true → IsIdent id → IsMadePeer id (made_near u) → (general : List ℕ) → length general ≤ 48
    → TakesAtr ghosts device_end (Peer (record { id = id; front = front; upper = u })) general
takes_at id Off u a named m general short = absurd cc
takes_at id Idle u a named m general short = absurd cc
takes_at id Sleep u a named m general short = absurd cc
takes_at id (Ready k starred) u a named m general short = absurd cc
takes_at id (Active starred) u a named m general short = takes_first id starred u.linked u.target general short (made_says id u named m) (made_busies id u m)

-- A selected peer takes ATR_REQ.
pub takes_atr : (d : Device) → IsSound (kept d) → device_selected d ≡ true → is_tag d ≡ false → (general : List ℕ) → length general ≤ 48 → TakesAtr ghosts device_end d general
takes_atr (T2 d) sound a tag general short = absurd cc
takes_atr (T4 d) sound a tag general short = absurd cc
takes_atr (Peer d) sound a tag general short = takes_at d.id d.front d.upper a sound.0 sound.2 general short
takes_atr (T5 p) sound a tag general short = absurd cc
takes_atr (T3 p) sound a tag general short = absurd cc
