-- The bench's peer is a machine above a listener front: which frames are its own, and what stays.
use Rattle.std.proofs.Common.{◌≡◌, ◌≤◌, ℕ, List, [], length, drop, slice_index, Bool, true, false, not, ◌||◌, ◌&&◌}
use Rattle.std.proofs.Common.{◌==◌, if◌then◌else◌, Option, Some, None, unwrap_or, refl, sym, ◌∙◌, ap, subst, arith}
use Rattle.nfc_base.specs.declared.frame.Tech.TheVariants.{A}
use Rattle.nfc_base.specs.Signal.{Signal, is_nfc_a}
use Rattle.nfc_base.specs.Far.{Untouched, Hands}
use Rattle.nfc_base.specs.TagLinks.{TagState, TagStep}
use Rattle.nfca_poll.specs.declared.upper.UpStep.{UpStep}
use Rattle.nfca_poll.specs.declared.upper.UpStep.TheVariants as steps
use Rattle.air_core.specs.Listening.{Stop}
use Rattle.nfca_poll.specs.Upper.{is_taken, answer_in, IsUpper, UpperStep}
use Rattle.nfca_poll.specs.laws.OwnFrames.{BeginsAsCalls, call_begins, is_zero}
use Rattle.dep_pdu.specs.declared.refusal.DepKind.TheVariants.{Start}
use Rattle.dep_pdu.specs.Numbers.{start_byte}
use Rattle.dep_pdu.specs.Refusal.{first, head, dep_faults}
use Rattle.dep_pdu.specs.Reading.{frame_of, unless, spelled_frame}
use Rattle.dep_link.specs.declared.target.TargetStep.{TargetStep}
use Rattle.dep_link.specs.declared.target.TargetStep.TheVariants as target
use Rattle.dep_link.specs.Frames.{spelled, names_atr, is_atr_req}
use Rattle.dep_link.specs.Target.{TargetState, target_table, obeyed}
use Rattle.dep_link.specs.Peers.{target_use, answered_with}
use Rattle.dep_link.specs.laws.Delivering.{handed_short, answered_tech}
use Rattle.bench_devices.specs.Peers.{PeerNear, by_target, by_turn, takes_frame, peer_if, peer_did, asked_if}
use Rattle.bench_devices.specs.Peers.{no_commands, peer_machine, Handles, Halts}

abbrev pub peer_commands : PeerNear → TagState → Signal → TagStep
peer_commands u = no_commands

abbrev pub is_peer_linked : PeerNear → Bool
is_peer_linked u = u.linked

-- no frame of NFC-DEP begins as the calls of a reader do
other_start : (n : ℕ) → n ≤ 0x97 → (n == start_byte) ≡ false
other_start n h = grind arith

pub refused : (b : List ℕ) → (slice_index b 0 == start_byte) ≡ false → spelled_frame b ≡ None
refused b e =
    ap (λ v. unless (if not v then Some (record { place = 0; kind = Start }) else first (drop 1 (dep_faults b)))
    (frame_of (head b) b)) e

none_of : (v w : Bool) (b : List ℕ) → (w ≡ true → spelled_frame b ≡ None)
    → (if v && w then spelled_frame b else None) ≡ None
none_of true true b h = h refl
none_of true false b h = refl
none_of false w b h = refl

pub no_frame : (f : Signal) → BeginsAsCalls f → spelled f ≡ None
no_frame f h = none_of (is_nfc_a f.tech) (f.tail == 0) f.bytes
    (λ z. refused f.bytes (other_start (slice_index f.bytes 0) (h (is_zero f.tail z)).1))

pub no_atr_req : (f : Signal) → BeginsAsCalls f → is_atr_req f ≡ false
no_atr_req f h = ap names_atr (no_frame f h)

-- A link takes every frame, and stays.
link_takes : (t : TargetState) (reply : Option (List ℕ)) (does : TargetStep)
    → is_taken (by_target t reply does).says ≡ true
link_takes t reply target.Quiet = refl
link_takes t reply (target.Reply f) = refl
link_takes t reply (target.Restart general f) = refl
link_takes t None (target.Deliver payload) = refl
link_takes t (Some r) (target.Deliver payload) = refl
link_takes t reply (target.Asleep f) = refl
link_takes t reply (target.Released f) = refl

link_stays : (t : TargetState) (reply : Option (List ℕ)) (does : TargetStep)
    → is_peer_linked (by_target t reply does).after ≡ true
link_stays t reply target.Quiet = refl
link_stays t reply (target.Reply f) = refl
link_stays t reply (target.Restart general f) = refl
link_stays t None (target.Deliver payload) = refl
link_stays t (Some r) (target.Deliver payload) = refl
link_stays t reply (target.Asleep f) = refl
link_stays t reply (target.Released f) = refl

takes_if : (u : PeerNear) (f : Signal) (reply : Option (List ℕ)) (v : Bool) → is_taken (peer_if v u f reply).says ≡ v
takes_if u f reply true = link_takes (target_table u.target f).state reply (target_table u.target f).does
takes_if u f reply false = refl

not_foreign : (s : UpStep) → is_taken s ≡ true → s ≡ steps.Foreign → ⊥
not_foreign steps.Foreign t h = cc
not_foreign steps.Quiet t h = cc
not_foreign (steps.Reply g) t h = cc
not_foreign (steps.Sleep g) t h = cc
not_foreign (steps.Idle g) t h = cc

foreign_if : (u : PeerNear) (f : Signal) (reply : Option (List ℕ)) (v : Bool)
    → (peer_if v u f reply).says ≡ steps.Foreign
    → (asked_if v u f ≡ Untouched) × ((peer_if v u f reply).after ≡ u)
foreign_if u f reply true h =
    absurd (not_foreign (by_turn (target_table u.target f) reply).says (takes_if u f reply true) h)
foreign_if u f reply false h = (refl, refl)

opens_if : (u : PeerNear) (f : Signal) (reply : Option (List ℕ)) (v : Bool) → is_taken (peer_if v u f reply).says ≡ true
    → is_peer_linked (peer_if v u f reply).after ≡ true
opens_if u f reply true h = link_stays (target_table u.target f).state reply (target_table u.target f).does
opens_if u f reply false h = absurd cc

-- at what is no frame of NFC-DEP nothing happens
pub asks_none : (u : PeerNear) (f : Signal) (v : Bool) → spelled f ≡ None → asked_if v u f ≡ Untouched
asks_none u f true e = ap (λ o. target_use (obeyed u.target o).does) e
asks_none u f false e = refl

says_none : (u : PeerNear) (f : Signal) → u.linked ≡ true → spelled f ≡ None → (peer_did u f None).says ≡ steps.Quiet
says_none u f l e = ap (λ v. (peer_if (v || is_atr_req f) u f None).says) l
    ∙ ap (λ o. (by_turn (obeyed u.target o) None).says) e

-- without a reply it says nothing
waits_at : (t : TargetState) (does : TargetStep) (payload : List ℕ) → target_use does ≡ Hands payload
    → (by_target t None does).says ≡ steps.Quiet
waits_at t target.Quiet payload h = refl
waits_at t (target.Reply f) payload h = absurd cc
waits_at t (target.Restart general f) payload h = absurd cc
waits_at t (target.Deliver handed) payload h = refl
waits_at t (target.Asleep f) payload h = absurd cc
waits_at t (target.Released f) payload h = absurd cc

waits_if : (u : PeerNear) (f : Signal) (payload : List ℕ) (v : Bool) → asked_if v u f ≡ Hands payload
    → (peer_if v u f None).says ≡ steps.Quiet
waits_if u f payload true h = waits_at (target_table u.target f).state (target_table u.target f).does payload h
waits_if u f payload false h = absurd cc

short_if : (u : PeerNear) (f : Signal) (payload : List ℕ) (v : Bool) → asked_if v u f ≡ Hands payload
    → length payload ≤ 2178
short_if u f payload true h = handed_short u.target f payload h
short_if u f payload false h = absurd cc

-- what a peer says, its target's table says under that reply
says_by : (t : TargetState) (reply : Option (List ℕ)) (does : TargetStep) (g : Signal)
    → answer_in (by_target t reply does).says ≡ Some g → answered_with t (unwrap_or reply []) does ≡ Some g
says_by t reply target.Quiet g e = absurd cc
says_by t reply (target.Reply f) g e = e
says_by t reply (target.Restart general f) g e = e
says_by t None (target.Deliver payload) g e = absurd cc
says_by t (Some r) (target.Deliver payload) g e = e
says_by t reply (target.Asleep f) g e = e
says_by t reply (target.Released f) g e = e

tech_if : (u : PeerNear) (f g : Signal) (reply : Option (List ℕ)) (v : Bool)
    → answer_in (peer_if v u f reply).says ≡ Some g → g.tech ≡ A
tech_if u f g reply true e =
    answered_tech u.target f (unwrap_or reply []) g (says_by (target_table u.target f).state reply
    (target_table u.target f).does g e)
tech_if u f g reply false e = absurd cc

-- so a peer without a link leaves it to the front
unlinked_if : (linked taken : Bool) → not linked ≡ true → taken ≡ false → (linked || taken) ≡ false
unlinked_if true taken n a = absurd cc
unlinked_if false taken n a = a

pub foreign_peer : (u : PeerNear) (f : Signal) (reply : Option (List ℕ)) → BeginsAsCalls f → not u.linked ≡ true
    → peer_did u f reply ≡ record { says = steps.Foreign; after = u }
foreign_peer u f reply h n = ap (λ v. peer_if v u f reply) (unlinked_if u.linked (is_atr_req f) n (no_atr_req f h))

pub peer_upper : IsUpper peer_machine (λ u. []) peer_commands is_peer_linked is_atr_req
peer_upper = record {
  takes = λ u f reply. takes_if u f reply (takes_frame u f);
  foreign = λ u f reply h. foreign_if u f reply (takes_frame u f) h;
  opens = λ u f reply k h. opens_if u f reply (takes_frame u f) h;
  closes = λ u. refl;
  no_call = λ f c e. no_atr_req f (call_begins f c e);
  silent = λ u f c o e. (
    asks_none u f (takes_frame u f) (no_frame f (call_begins f c e)),
    says_none u f o (no_frame f (call_begins f c e)),
  );
  waits = λ u f payload h. waits_if u f payload (takes_frame u f) h;
  bounded = λ u f payload h. short_if u f payload (takes_frame u f) h;
  own_tech = λ u f g reply e. tech_if u f g reply (takes_frame u f) e;
  step_keeps = λ u f reply. record { same_kind = refl; same_commands = refl };
  clear_keeps = λ u. (record { same_kind = refl; same_commands = refl }, refl);
}

-- What the link does with the far end is what the machine says, hands over and is afterwards.
abbrev AsMachine : {A : Type 0} → (A → List ℕ → A → Type 0) → (A → List ℕ → List ℕ → A → Type 0) → TargetState
    → TargetStep → A → UpStep → TargetState → A → Type 0
AsMachine restarts obeys t does far s u after =
    UpperStep restarts obeys (target_use does) (λ reply. (by_target t reply does).says)
    (λ reply. (by_target t reply does).after) far s (record { target = u; linked = true }) after

handles_step : {A : Type 0} (restarts : A → List ℕ → A → Type 0) (obeys : A → List ℕ → List ℕ → A → Type 0)
    (t : TargetState) (does : TargetStep) (far : A) (s : UpStep) (u : TargetState) (after : A)
    → Handles restarts obeys t does far s u after → AsMachine restarts obeys t does far s u after
handles_step restarts obeys t target.Quiet far s u after h =
    record { reply = None; far = (h.2, refl); says = h.0; left = ap (λ x. record { target = x; linked = true }) h.1 }
handles_step restarts obeys t (target.Reply f) far s u after h =
    record { reply = None; far = (h.2, refl); says = h.0; left = ap (λ x. record { target = x; linked = true }) h.1 }
handles_step restarts obeys t (target.Restart general f) far s u after h =
    record { reply = None; far = (h.2, refl); says = h.0; left = ap (λ x. record { target = x; linked = true }) h.1 }
handles_step restarts obeys t (target.Deliver payload) far s u after h =
    record {
      reply = Some h.0;
      far = (h.0, h.1, h.2, refl);
      says = h.3;
      left = ap (λ x. record { target = x; linked = true }) h.4;
    }
handles_step restarts obeys t (target.Asleep f) far s u after h =
    record { reply = None; far = (h.2, refl); says = h.0; left = ap (λ x. record { target = x; linked = true }) h.1 }
handles_step restarts obeys t (target.Released f) far s u after h =
    record { reply = None; far = (h.2, refl); says = h.0; left = ap (λ x. record { target = x; linked = true }) h.1 }

-- so where it takes the frame
pub taken_step : {A : Type 0} (restarts : A → List ℕ → A → Type 0) (obeys : A → List ℕ → List ℕ → A → Type 0)
    (u : PeerNear) (f : Signal) (far : A) (s : UpStep) (t : TargetState) (after : A)
    → takes_frame u f ≡ true → (own : TargetState) → own ≡ u.target
    → Handles restarts obeys (target_table own f).state (target_table own f).does far s t after
    → UpperStep restarts obeys (peer_machine.handed u f) (peer_machine.says u f) (peer_machine.after u f) far s
    (record { target = t; linked = true }) after
taken_step restarts obeys u f far s t after taken own same h =
    subst (λ v. UpperStep restarts obeys (asked_if v u f) (λ reply. (peer_if v u f reply).says)
    (λ reply. (peer_if v u f reply).after) far s (record { target = t; linked = true }) after) (sym taken)
    (handles_step restarts obeys (target_table u.target f).state (target_table u.target f).does far s t after
    (subst (λ o. Handles restarts obeys (target_table o f).state (target_table o f).does far s t after) same h))

-- and where the far end stopped
left_waiting : (t : TargetState) (does : TargetStep) (payload : List ℕ) → target_use does ≡ Hands payload
    → (by_target t None does).after ≡ record { target = t; linked = true }
left_waiting t target.Quiet payload h = refl
left_waiting t (target.Reply f) payload h = absurd cc
left_waiting t (target.Restart general f) payload h = absurd cc
left_waiting t (target.Deliver handed) payload h = refl
left_waiting t (target.Asleep f) payload h = absurd cc
left_waiting t (target.Released f) payload h = absurd cc

pub taken_stop : {A : Type 0} (stops : A → List ℕ → A → Type 0) (is_stuck : A → Bool) (u : PeerNear) (f : Signal)
    (far : A) (t : TargetState) (after : A)
    → takes_frame u f ≡ true → (own : TargetState) → own ≡ u.target
    → Halts stops is_stuck (target_table own f).state (target_table own f).does far t after
    → Stop stops is_stuck (peer_machine.handed u f) (peer_machine.after u f) far (record { target = t; linked = true })
    after
taken_stop stops is_stuck u f far t after taken own same halts =
    let h : Halts stops is_stuck (target_table u.target f).state (target_table u.target f).does far t after =
    subst (λ o. Halts stops is_stuck (target_table o f).state (target_table o f).does far t after) same halts in
    subst (λ v. Stop stops is_stuck (asked_if v u f) (λ reply. (peer_if v u f reply).after) far
    (record { target = t; linked = true }) after) (sym taken)
    (record {
      payload = h.payload;
      handed = h.handed;
      far = h.stopped;
      stuck = h.stuck;
      left = ap (λ x. record { target = x; linked = true }) h.left
          ∙ sym (left_waiting (target_table u.target f).state (target_table u.target f).does h.payload h.handed);
    })
