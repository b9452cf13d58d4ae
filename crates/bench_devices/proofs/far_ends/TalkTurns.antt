-- What a turn leaves in which a peer is talked to, over whatever far end, and what the release of a link leaves.
use Rattle.std.proofs.Common.{◌≡◌, inl, inr, ℕ, zero, suc, List, [], ◌∷◌, map, Bool, Option, Some, None, refl, sym, ◌∙◌, ap, subst}
use Rattle.std.specs.Prelude.{Result, Ok, Err}
use Rattle.std.specs.List.{AllByRecursion}
use Rattle.nfc_base.specs.Signal.{Signal, whole_a}
use Rattle.nfc_base.specs.Far.{FarUse, FarDid}
use Rattle.nfc_base.specs.declared.frame.Tech.TheVariants.{A}
use Rattle.nfc_base.specs.declared.event.Fate.{Fate}
use Rattle.nfc_base.specs.declared.event.Fate.TheVariants.{Pass, Damage, Lose, Break}
use Rattle.nfc_base.specs.declared.event.Heard.{Heard}
use Rattle.nfc_base.specs.declared.carrier.EndCause.{EndCause}
use Rattle.nfc_base.specs.declared.carrier.EndCause.TheVariants as causes
use Rattle.nfc_base.specs.declared.carrier.LinkEnd.{LinkEnd}
use Rattle.air_core.specs.Joint.{Joint, Nothing, Single, Clashing, joint}
use Rattle.air_core.specs.World.{stepped_by}
use Rattle.air_core.specs.Conversation.{first_fate, later_fates}
use Rattle.air_core.specs.PlainTags.{IsAside}
use Rattle.air_core.specs.Turn.{Air, brought, Meets, HearAll, HearSome, TurnBy, TurnIs, Stops}
use Rattle.air_core.proofs.PlainAside.{aside_silent}
use Rattle.dep_link.specs.Releasing.{rls_frame, ReleaseFails, Releases}
use Rattle.dep_link.specs.Stopping.{HeardUpTo}
use Rattle.bench_devices.specs.declared.device.Device.{Device}
use Rattle.bench_devices.specs.declared.device.Device.TheVariants.{T2, T4, Peer, T5, T3}
use Rattle.bench_devices.specs.Beside.{PeerAt, TalkLeaves}
use Rattle.bench_devices.specs.Kinds.{PeerKind}
use Rattle.bench_devices.specs.Device.{devices, kind_of}
use Rattle.bench_devices.specs.Keeping.{Kept, ghosts, kept}
use Rattle.bench_devices.specs.LinkLaws.{TurnLeaves, ReleaseLeaves}
use Rattle.bench_devices.specs.Phases.{IsTidy, AreTidy}
use Rattle.bench_devices.proofs.far_ends.BesideLink.{leaves_all, leaves_both, dark_leaves}
use Rattle.bench_devices.proofs.kinds.EveryFrame.{aside_keeps}
use Rattle.bench_devices.proofs.kinds.PeerMade.{peer_kept}
use Rattle.bench_devices.proofs.turns.QuietRats.{laws}
use Rattle.bench_devices.proofs.kinds.Tidy.{stepped_tidy}

-- what one device is behind a frame
pub record OneLeaves (l m : Device) : Type 0 where
  pub same : kept m ≡ kept l
  pub tidy : IsTidy l → IsTidy m

module _ (own : List ℕ) (f : Signal) (whole : f ≡ whole_a f.bytes) where
  pub aside_left : (l : Device) → IsAside ghosts own l → OneLeaves l (stepped_by devices l f None) × IsAside ghosts own (stepped_by devices l f None)
  aside_left l a = (record { same = aside_keeps own A f l whole tt a; tidy = stepped_tidy f None l }, (aside_silent ghosts laws own A f whole tt l a).aside)

  pub peer_left : (l : Device) (reply : Option (List ℕ)) → kind_of l ≡ PeerKind → OneLeaves l (stepped_by devices l f reply)
  peer_left (T2 d) reply is = absurd cc
  peer_left (T4 d) reply is = absurd cc
  peer_left (Peer d) reply is = record { same = peer_kept d f reply; tidy = stepped_tidy f reply (Peer d) }
  peer_left (T5 p) reply is = absurd cc
  peer_left (T3 p) reply is = absurd cc

  -- all beside the peer
  pub record AllLeave (old new : List Device) : Type 0 where
    pub same : map kept new ≡ map kept old
    pub aside : AllByRecursion (IsAside ghosts own) new
    pub tidy : AreTidy old → AreTidy new

  pub all_same : (ls : List Device) → AllByRecursion (IsAside ghosts own) ls → AllLeave ls ls
  all_same ls a = record { same = refl; aside = a; tidy = λ t. t }

  one_more : (l m : Device) (ls ms : List Device) → OneLeaves l m → map kept ms ≡ map kept ls → map kept (m ∷ ms) ≡ map kept (l ∷ ls)
  one_more l m ls ms one same = ap (λ x. x ∷ map kept ms) one.same ∙ ap (λ xs. kept l ∷ xs) same

  pub all_more : (l m : Device) (ls ms : List Device) → OneLeaves l m × IsAside ghosts own m → AllLeave ls ms → AllLeave (l ∷ ls) (m ∷ ms)
  all_more l m ls ms one all = record { same = one_more l m ls ms one.0 all.same; aside = (one.1, all.aside); tidy = λ t. (one.0.tidy t.0, all.tidy t.1) }

  pub at_more : (l m : Device) (place : ℕ) (ls ms : List Device) → OneLeaves l m × IsAside ghosts own m → TalkLeaves own place ls ms → TalkLeaves own (suc place) (l ∷ ls) (m ∷ ms)
  at_more l m place ls ms one all = record { same = one_more l m ls ms one.0 all.same; at = (one.1, all.at); tidy = λ t. (one.0.tidy t.0, all.tidy t.1) }

  pub at_first : (l m : Device) (ls ms : List Device) → kind_of l ≡ PeerKind → OneLeaves l m → AllLeave ls ms → TalkLeaves own zero (l ∷ ls) (m ∷ ms)
  at_first l m ls ms is one all = record {
    same = one_more l m ls ms one all.same;
    at = (ap (λ (k : Kept). k.fixed.kind) one.same ∙ is, all.aside);
    tidy = λ t. (one.tidy t.0, all.tidy t.1);
  }

  -- a request that was heard up to the peer
  aside_heard : (payload : List ℕ) (ls ms : List Device) → AllByRecursion (IsAside ghosts own) ls → HeardUpTo devices f payload ls ms → AllLeave ls ms
  aside_heard payload [] ms a h = absurd h
  aside_heard payload (l ∷ ls) ms a (later, left, inl (hands, same)) =
      subst (AllLeave (l ∷ ls)) (sym left) (all_more l (stepped_by devices l f None) ls later (aside_left l a.0) (subst (AllLeave ls) (sym same) (all_same ls a.1)))
  aside_heard payload (l ∷ ls) ms a (later, left, inr (quiet, more)) =
      subst (AllLeave (l ∷ ls)) (sym left) (all_more l (stepped_by devices l f None) ls later (aside_left l a.0) (aside_heard payload ls later a.1 more))

  pub heard_leaves : (payload : List ℕ) (place : ℕ) (ls ms : List Device) → PeerAt own place ls → HeardUpTo devices f payload ls ms → TalkLeaves own place ls ms
  heard_leaves payload place [] ms a h = absurd h
  heard_leaves payload zero (l ∷ ls) ms a (later, left, inl (hands, same)) =
      subst (TalkLeaves own zero (l ∷ ls)) (sym left)
      (at_first l (stepped_by devices l f None) ls later a.0 (peer_left l None a.0) (subst (AllLeave ls) (sym same) (all_same ls a.1)))
  heard_leaves payload zero (l ∷ ls) ms a (later, left, inr (quiet, more)) =
      subst (TalkLeaves own zero (l ∷ ls)) (sym left)
      (at_first l (stepped_by devices l f None) ls later a.0 (peer_left l None a.0) (aside_heard payload ls later a.1 more))
  heard_leaves payload (suc place) (l ∷ ls) ms a (later, left, inl (hands, same)) =
      subst (TalkLeaves own (suc place) (l ∷ ls)) (sym left)
      (at_more l (stepped_by devices l f None) place ls later (aside_left l a.0) (subst (TalkLeaves own place ls) (sym same) (leaves_all own place ls a.1)))
  heard_leaves payload (suc place) (l ∷ ls) ms a (later, left, inr (quiet, more)) =
      subst (TalkLeaves own (suc place) (l ∷ ls)) (sym left)
      (at_more l (stepped_by devices l f None) place ls later (aside_left l a.0) (heard_leaves payload place ls later a.1 more))

  module _ {F : Type 0} (restarts : F → List ℕ → F → Type 0) (steps : F → List ℕ → List ℕ → F → Type 0) where
    aside_met : (l : Device) (far : F) (answer : Option Signal) (m : Device) (mid : F) → IsAside ghosts own l → Meets devices restarts steps f l far answer m mid → OneLeaves l m × IsAside ghosts own m
    aside_met l far answer m mid a step =
        let P : FarUse → Type 0 = λ z. FarDid restarts steps z far step.reply mid in
        let none : step.reply ≡ None = (subst P (aside_silent ghosts laws own A f whole tt l a).quiet step.far).1 in
        let left : m ≡ stepped_by devices l f None = step.left ∙ ap (stepped_by devices l f) none in
        subst (λ x. OneLeaves l x × IsAside ghosts own x) (sym left) (aside_left l a)

    peer_met : (l : Device) (far : F) (answer : Option Signal) (m : Device) (mid : F) → kind_of l ≡ PeerKind → Meets devices restarts steps f l far answer m mid → OneLeaves l m
    peer_met l far answer m mid is step = subst (OneLeaves l) (sym step.left) (peer_left l step.reply is)

    all_met : (ls : List Device) (far : F) (said : List Signal) (ms : List Device) (after : F) → AllByRecursion (IsAside ghosts own) ls → HearAll devices restarts steps f ls far said ms after
        → AllLeave ls ms
    all_met [] far said ms after a h = subst (AllLeave []) (sym h.1) (all_same [] tt)
    all_met (l ∷ ls) far said ms after a h =
        subst (AllLeave (l ∷ ls)) (sym h.8) (all_more l h.2 ls h.4 (aside_met l far h.0 h.2 h.3 a.0 h.5) (all_met ls h.3 h.1 h.4 after a.1 h.6))

    at_met : (place : ℕ) (ls : List Device) (far : F) (said : List Signal) (ms : List Device) (after : F) → PeerAt own place ls → HearAll devices restarts steps f ls far said ms after
        → TalkLeaves own place ls ms
    at_met place [] far said ms after a h = absurd a
    at_met zero (l ∷ ls) far said ms after a h =
        subst (TalkLeaves own zero (l ∷ ls)) (sym h.8) (at_first l h.2 ls h.4 a.0 (peer_met l far h.0 h.2 h.3 a.0 h.5) (all_met ls h.3 h.1 h.4 after a.1 h.6))
    at_met (suc place) (l ∷ ls) far said ms after a h =
        subst (TalkLeaves own (suc place) (l ∷ ls)) (sym h.8) (at_more l h.2 place ls h.4 (aside_met l far h.0 h.2 h.3 a.0 h.5) (at_met place ls h.3 h.1 h.4 after a.1 h.6))

    brought_leaves : (place : ℕ) (a : Air Device) (j : Joint) (y : Fate) → PeerAt own place a.listeners → TalkLeaves own place a.listeners (brought devices a j y).listeners
    brought_leaves place a Nothing y s = leaves_all own place a.listeners s
    brought_leaves place a (Single g) Pass s = leaves_all own place a.listeners s
    brought_leaves place a (Single g) Damage s = leaves_all own place a.listeners s
    brought_leaves place a (Single g) Lose s = leaves_all own place a.listeners s
    brought_leaves place a (Single g) Break s = dark_leaves own place a.listeners s
    brought_leaves place a (Clashing g) Pass s = leaves_all own place a.listeners s
    brought_leaves place a (Clashing g) Damage s = leaves_all own place a.listeners s
    brought_leaves place a (Clashing g) Lose s = leaves_all own place a.listeners s
    brought_leaves place a (Clashing g) Break s = dark_leaves own place a.listeners s

    turn_by : (place : ℕ) (x : Fate) (old new : Air Device) (heard : Option Heard) (far after : F) → PeerAt own place old.listeners → TurnBy devices restarts steps x old f far heard new after
        → TalkLeaves own place old.listeners new.listeners
    turn_by place Pass old new heard far after a t =
        let P : Air Device → Type 0 = λ z. TalkLeaves own place old.listeners z.listeners in
        let met : TalkLeaves own place old.listeners t.listeners = at_met place old.listeners far t.answers t.listeners after a t.all in
        subst P (sym t.left)
        (leaves_both own place old.listeners t.listeners _ met (brought_leaves place _ (joint t.answers) (first_fate (later_fates old.fates)) met.at))
    turn_by place Damage old new heard far after a t = let P : Air Device → Type 0 = λ z. TalkLeaves own place old.listeners z.listeners in subst P (sym t.left) (leaves_all own place old.listeners a)
    turn_by place Lose old new heard far after a t = let P : Air Device → Type 0 = λ z. TalkLeaves own place old.listeners z.listeners in subst P (sym t.left) (leaves_all own place old.listeners a)
    turn_by place Break old new heard far after a t = let P : Air Device → Type 0 = λ z. TalkLeaves own place old.listeners z.listeners in subst P (sym t.left) (dark_leaves own place old.listeners a)

    -- a turn that a far end broke off
    module _ (stops : F → List ℕ → F → Type 0) (is_stuck : F → Bool) where
      all_some : (ls : List Device) (far : F) (ms : List Device) (after : F) → AllByRecursion (IsAside ghosts own) ls → HearSome devices restarts steps stops is_stuck f ls far ms after
          → AllLeave ls ms
      all_some [] far ms after a h = absurd h
      all_some (l ∷ ls) far ms after a (m, later, left, inl (stop, same)) =
          let one : OneLeaves l m × IsAside ghosts own m = subst (λ x. OneLeaves l x × IsAside ghosts own x) (sym stop.left) (aside_left l a.0) in
          subst (AllLeave (l ∷ ls)) (sym left) (all_more l m ls later one (subst (AllLeave ls) (sym same) (all_same ls a.1)))
      all_some (l ∷ ls) far ms after a (m, later, left, inr (answer, mid, meets, more)) =
          subst (AllLeave (l ∷ ls)) (sym left) (all_more l m ls later (aside_met l far answer m mid a.0 meets) (all_some ls mid later after a.1 more))

      at_some : (place : ℕ) (ls : List Device) (far : F) (ms : List Device) (after : F) → PeerAt own place ls → HearSome devices restarts steps stops is_stuck f ls far ms after
          → TalkLeaves own place ls ms
      at_some place [] far ms after a h = absurd a
      at_some zero (l ∷ ls) far ms after a (m, later, left, inl (stop, same)) =
          subst (TalkLeaves own zero (l ∷ ls)) (sym left)
          (at_first l m ls later a.0 (subst (OneLeaves l) (sym stop.left) (peer_left l None a.0)) (subst (AllLeave ls) (sym same) (all_same ls a.1)))
      at_some zero (l ∷ ls) far ms after a (m, later, left, inr (answer, mid, meets, more)) =
          subst (TalkLeaves own zero (l ∷ ls)) (sym left) (at_first l m ls later a.0 (peer_met l far answer m mid a.0 meets) (all_some ls mid later after a.1 more))
      at_some (suc place) (l ∷ ls) far ms after a (m, later, left, inl (stop, same)) =
          let one : OneLeaves l m × IsAside ghosts own m = subst (λ x. OneLeaves l x × IsAside ghosts own x) (sym stop.left) (aside_left l a.0) in
          subst (TalkLeaves own (suc place) (l ∷ ls)) (sym left) (at_more l m place ls later one (subst (TalkLeaves own place ls) (sym same) (leaves_all own place ls a.1)))
      at_some (suc place) (l ∷ ls) far ms after a (m, later, left, inr (answer, mid, meets, more)) =
          subst (TalkLeaves own (suc place) (l ∷ ls)) (sym left) (at_more l m place ls later (aside_met l far answer m mid a.0 meets) (at_some place ls mid later after a.1 more))

      stops_leave : (place : ℕ) (old new : Air Device) (far after : F) → PeerAt own place old.listeners → Stops devices restarts steps stops is_stuck old f far new after
          → TalkLeaves own place old.listeners new.listeners
      stops_leave place old new far after a s =
          let P : Air Device → Type 0 = λ z. TalkLeaves own place old.listeners z.listeners in
          subst P (sym s.left) (at_some place old.listeners far s.listeners after a s.some)

pub turn_leaves : {F : Type 0} (restarts : F → List ℕ → F → Type 0) (steps : F → List ℕ → List ℕ → F → Type 0) → TurnLeaves restarts steps
turn_leaves restarts steps own place old new f heard far after whole at turn = turn_by own f whole restarts steps place (first_fate old.fates) old new heard far after at turn.by

module _ {F : Type 0} (restarts : F → List ℕ → F → Type 0) (steps : F → List ℕ → List ℕ → F → Type 0) (stops : F → List ℕ → F → Type 0) (is_stuck : F → Bool) (own : List ℕ) (place : ℕ)
    (old new : Air Device) (far after : F) (at : PeerAt own place old.listeners) where
  same_leaves : new ≡ old → TalkLeaves own place old.listeners new.listeners
  same_leaves e = let P : Air Device → Type 0 = λ z. TalkLeaves own place old.listeners z.listeners in subst P (sym e) (leaves_all own place old.listeners at)

  one_turn : (heard : Option Heard) → TurnIs devices restarts steps old rls_frame far heard new after → TalkLeaves own place old.listeners new.listeners
  one_turn heard t = turn_leaves restarts steps own place old new rls_frame heard far after refl at t

  fails_leave : (cause : EndCause) → ReleaseFails devices restarts steps stops is_stuck old far new after cause → TalkLeaves own place old.listeners new.listeners
  fails_leave causes.FieldLost (inl (dark, same, ends)) = same_leaves same
  fails_leave causes.FieldLost (inr t) = one_turn None t
  fails_leave causes.Memory (lit, inl (same, ends)) = same_leaves same
  fails_leave causes.Memory (lit, inr s) = stops_leave own rls_frame refl restarts steps stops is_stuck place old new far after at s
  fails_leave causes.SixBad h = absurd h
  fails_leave causes.Protocol h = absurd h

  by_result : (result : Result (Unit {0}) LinkEnd) → Releases devices restarts steps stops is_stuck old far result new after → TalkLeaves own place old.listeners new.listeners
  by_result (Ok u) (h, t) = one_turn (Some h) t
  by_result (Err e) (none, h) = fails_leave e.cause h

pub release_leaves : {F : Type 0} (restarts : F → List ℕ → F → Type 0) (steps : F → List ℕ → List ℕ → F → Type 0) (stops : F → List ℕ → F → Type 0) (is_stuck : F → Bool)
    → ReleaseLeaves restarts steps stops is_stuck
release_leaves restarts steps stops is_stuck own place old new far after result at r = by_result restarts steps stops is_stuck own place old new far after at result r
