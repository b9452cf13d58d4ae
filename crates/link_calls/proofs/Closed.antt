-- What ending a connection and releasing its link comes to.
use Rattle.std.proofs.Common.{◌≡◌, ◌≤◌, ◌⊎◌, ℕ, List, [], ◌∷◌, length, drop, Bool, true, false, if◌then◌else◌, Option, Some, None, Ok, Err, refl, sym, ◌∙◌, ap, subst, inl, inr}
use Rattle.std.specs.List.{AllByRecursion}
use Rattle.nfc_base.specs.Choosing.{Choosing}
use Rattle.nfc_base.specs.Signal.{Signal}
use Rattle.nfc_base.specs.Far.{Untouched}
use Rattle.nfc_base.specs.declared.carrier.EndCause.{EndCause}
use Rattle.nfc_base.specs.declared.carrier.EndCause.TheVariants as cause
use Rattle.nfc_base.specs.declared.event.Heard.{Heard}
use Rattle.air_core.specs.Conversation.{Next, Asks}
use Rattle.air_core.specs.Quiet.{EachQuiet}
use Rattle.air_core.specs.World.{Machine, hears}
use Rattle.air_core.specs.Turn.{Air, HearSome, TurnIs}
use Rattle.air_core.proofs.Quiet.{quiet_goes_on}
use Rattle.air_core.specs.declared.listener.Listener.{Ghosts}
use Rattle.air_core.proofs.PlainAside.{Laws}
use Rattle.dep_link.specs.Target.{TargetState}
use Rattle.dep_link.specs.Initiator.{InitState}
use Rattle.dep_link.specs.DepLinks.{DepSeen, IsDepReady, first_seen}
use Rattle.dep_link.specs.Releasing.{Releases, rls_frame}
use Rattle.llcp_link.specs.Counting.{AnswersCounted, RestartsCounted, StopsCounted}
use Rattle.llcp_link.specs.Running.{AreBytes}
use Rattle.far_air.specs.FarLaws.{IsLinked}
use Rattle.peer_air.specs.PeerFars.{peer_ends}
use Rattle.peer_air.specs.SwapTurns.{Stands}
use Rattle.snep_core.specs.declared.fault.SnepFault.{SnepFault}
use Rattle.snep_core.specs.declared.fault.SnepFault.TheVariants.{BadPeer, Excess, LinkEnded, Memory, NotFound, NotImplemented, Reject, SlotBusy}
use Rattle.snep_core.specs.Accord.{PeerState}
use Rattle.snep_core.specs.Server.{serving}
use Rattle.snep_core.specs.Calling.{Talks, FailsBy, fault_of, gives_up}
use Rattle.snep_core.specs.Talk.{EndState, Step, Ends}
use Rattle.link_calls.specs.CallDue.{CallStanding, Carries, Comes, BrokenBy, Strays, call_due_at}
use Rattle.link_calls.specs.CallTurns.{HaltsInCall, sees, swaps}
use Rattle.link_calls.specs.Arriving.{Arrives, all_answered}
use Rattle.link_calls.specs.Calls.{IsOpen, IsCutOff}
use Rattle.link_calls.specs.ClosingDue.{Releasing, closing_at, closing_due_at}
use Rattle.link_calls.specs.Closing.{ClosingTurns, ClosingFails, HaltsAtRls, SendsRls, IsReleased}
use Rattle.link_calls.specs.Staying.{setting_of}
use Rattle.link_calls.proofs.Arriving.{release_brings}
use Rattle.link_calls.proofs.Walked.{peer_table, peer_kind}
use Rattle.link_calls.proofs.Made.{reaches, made, cut_off, within}
use Rattle.link_calls.proofs.Closes.{of_call, with_release}

due_same : (s : CallStanding) (f : Signal) → call_due_at s ≡ Asks f → closing_due_at (closing_at s) ≡ Asks f
due_same (Carries w q) f e = e
due_same (Comes to i) f e = absurd cc
due_same (BrokenBy c) f e = absurd cc
due_same Strays f e = absurd cc

-- how a call was left off, so was the closing
module _ {L : Type 0} (k : Ghosts L) (target : L → TargetState) (linked : L → Bool) (new : Air L) (after : Choosing PeerState) (mid : Air L) (half : Choosing PeerState) where
  abbrev HaltsBy : Next → Type 0
  HaltsBy due = HaltsInCall k target linked peer_ends (StopsCounted serving) due mid new half after

  left_so : (s : CallStanding) → ((new ≡ mid) × (after ≡ half)) ⊎ HaltsBy (call_due_at s)
      → ((new ≡ mid) × (after ≡ half)) ⊎ (HaltsBy (closing_due_at (closing_at s)) ⊎ HaltsAtRls k linked peer_ends (closing_at s) mid new)
  left_so s (inl e) = inl e
  left_so s (inr h) =
      inr (inl (record { sent = h.sent; asked = due_same s h.sent h.asked; passes = h.passes; payload = h.payload; listeners = h.listeners; heard = h.heard; left = h.left; halted = h.halted }))

module _ {L A : Type 0} (m : Machine L) (restarts : A → List ℕ → A → Type 0) (steps : A → List ℕ → List ℕ → A → Type 0) (stops : A → List ℕ → A → Type 0) (is_stuck : A → Bool)
    (quiet : (l : L) → m.handed l rls_frame ≡ Untouched) where
  over_by : (v : Bool) (l : L) → (if v then m.handed l rls_frame else Untouched) ≡ Untouched
  over_by true l = quiet l
  over_by false l = refl

  each_at_rls : (ls : List L) → EachQuiet m rls_frame ls
  each_at_rls [] = tt
  each_at_rls (l ∷ ls) = (over_by (hears m l rls_frame) l, each_at_rls ls)

  -- no far end stops where nothing is handed over
  none_stops : (ls : List L) (far : A) (ls' : List L) (far' : A) → HearSome m restarts steps stops is_stuck rls_frame ls far ls' far' → ⊥
  none_stops ls far ls' far' some = quiet_goes_on m restarts steps stops is_stuck rls_frame ls far ls' far' (each_at_rls ls) some

module _ {L C : Type 0} (k : Ghosts L) (target : L → TargetState) (see : C → DepSeen L) (laws : Laws k) (a b : C) (far half : Choosing PeerState) (old : Air L) (i : InitState)
    (is : see a ≡ first_seen old i)
    (open_ : IsOpen k target old i) (ready : (see b).over ≡ None → IsDepReady k target (see b)) (ns : List ℕ) (from : Step) where
  abbrev Fails : EndState → Air L → Choosing PeerState → SnepFault → Type 0
  Fails client new after e = ClosingFails k target ns from old i far new after client (see b).initiator e

  -- the call was cut off
  cut_closing : (client : EndState) (e : SnepFault) → IsCutOff k target ns from old i far (see b).air (see b).initiator half e → Fails client (see b).air half e
  cut_closing client Reject c = absurd c
  cut_closing client NotFound c = absurd c
  cut_closing client Excess c = absurd c
  cut_closing client NotImplemented c = absurd c
  cut_closing client BadPeer c = absurd c
  cut_closing client SlotBusy c = absurd c
  cut_closing client (LinkEnded cause.Protocol) c = absurd c
  cut_closing client (LinkEnded cause.Memory) c = absurd c
  cut_closing client (LinkEnded cause.FieldLost) c = record {
    turns = λ linked links place there os.
        of_call k linked peer_ends place os ns from i old far (see b).air half target (BrokenBy cause.FieldLost) (c.turns linked links place there os) (λ q. cc);
    how = inl c.carried;
    noisy = c.noisy;
  }
  cut_closing client (LinkEnded cause.SixBad) c = record {
    turns = λ linked links place there os.
        of_call k linked peer_ends place os ns from i old far (see b).air half target (BrokenBy cause.SixBad) (c.turns linked links place there os) (λ q. cc);
    how = inl c.carried;
    noisy = c.noisy;
  }
  cut_closing client Memory c = record {
    front = λ linked links place there os.
        let z = c.front linked links place there os in
        record {
          standing = closing_at z.standing;
          mid = z.mid;
          half = z.half;
          turns = of_call k linked peer_ends place os ns from i old far z.mid z.half target z.standing z.turns z.under_way;
          left = left_so k target linked (see b).air half z.mid z.half z.standing z.left;
        };
    arrives = λ quiet. c.arrives;
    setting = λ quiet. c.setting;
  }

  pub closing_failed : (client : EndState) (e : SnepFault) → FailsBy (sees see) (swaps k target see) (AnswersCounted serving) (StopsCounted serving) ns from a far e client b half
      → Fails client (see b).air half e
  closing_failed client e (inl (bad, came, talk)) =
      subst (Fails client (see b).air half) (sym bad) (
        came,
        λ linked links place there os.
            of_call k linked peer_ends place os ns from i old far (see b).air half target (Comes (gives_up came client) (see b).initiator)
            (reaches k target see laws a b far half old i is open_ ready ns from (gives_up came client) talk (λ left. refl) linked links place there os).0 (λ q. cc),
      )
  closing_failed client e (inr broke) = cut_closing client e (cut_off k target see laws a b far half old i is open_ ready ns from e client broke)

  module _ (jobs : _) (client : EndState) (talk : Talks (sees see) (swaps k target see) (AnswersCounted serving) (StopsCounted serving) ns from a far (Ends jobs client) b half)
      (is_stuck : Choosing PeerState → Bool) (new : Air L)
      (after : Choosing PeerState)
      (same : ((l : L) → k.machine.handed l rls_frame ≡ Untouched) → after ≡ half) where
    -- RLS_REQ is due
    due_rls : (linked : L → Bool) → IsLinked k.machine linked → (place : ℕ) → Stands k target linked peer_ends old place → (os : List (Option PeerState))
        → ClosingTurns k linked peer_ends ns from i old (see b).air place os far half (Releasing (Ends jobs client)) × Stands k target linked peer_ends (see b).air place
    due_rls linked links place there os =
        let z = reaches k target see laws a b far half old i is open_ ready ns from (Ends jobs client) talk (λ left. refl) linked links place there os in
        (of_call k linked peer_ends place os ns from i old far (see b).air half target (Comes (Ends jobs client) (see b).initiator) z.0 (λ q. cc), z.1)

    set_still : ((l : L) → k.machine.handed l rls_frame ≡ Untouched) → setting_of after.end ≡ setting_of far.end
    set_still quiet =
        ap (λ (p : Choosing PeerState). setting_of p.end) (same quiet) ∙ (made k target see laws a b far half old i is open_ ready ns from (Ends jobs client) talk (λ left. refl)).carried.setting

    call_arrives : Arrives i.core.number (drop (length old.trace) (see b).air.trace) far half
    call_arrives = (made k target see laws a b far half old i is open_ ready ns from (Ends jobs client) talk (λ left. refl)).carried.arrives

    sends_rls : (heard : Option Heard) → TurnIs k.machine (RestartsCounted serving) (AnswersCounted serving) (see b).air rls_frame half heard new after
        → SendsRls k target ns from old i far new after heard
    sends_rls heard turn =
        let call = made k target see laws a b far half old i is open_ ready ns from (Ends jobs client) talk (λ left. refl) in
        let carried = call.carried in
        let came = carried.arrives in
        let start : length old.trace ≤ length (see b).air.trace = within k target see laws a b far half old i is open_ ready ns from (Ends jobs client) talk in
        record {
          mid = (see b).air;
          rest = (see b).initiator;
          half = half;
          carried = carried;
          to = Ends jobs client;
          made = call;
          turn = turn;
          same = same;
          arrives = λ quiet.
              let brings = release_brings k.machine (RestartsCounted serving) (AnswersCounted serving) i.core.number (length old.trace) (see b).air new half after heard start turn in
              record {
                bytes = subst (AllByRecursion AreBytes) (sym brings) came.bytes;
                after_is = same quiet ∙ came.after_is ∙ ap (λ ps. all_answered ps far) (sym brings);
              };
        }

    pub released : Releases k.machine (RestartsCounted serving) (AnswersCounted serving) (StopsCounted serving) is_stuck (see b).air half (Ok tt) new after
        → IsReleased k target ns from old i far new after (Ends jobs client)
    released (heard, turn) = record {
      turns = λ linked links place there os.
          let z = due_rls linked links place there os in
          with_release k linked peer_ends place os ns from i old far laws target (RestartsCounted serving) (AnswersCounted serving) (λ c. c) links peer_table peer_kind (see b).air new half after
          (Ends jobs client) z.0 z.1 (Some heard) turn;
      heard = heard;
      sent = sends_rls (Some heard) turn;
    }

    pub release_failed : (answered : Bool) (c : EndCause) → Releases k.machine (RestartsCounted serving) (AnswersCounted serving) (StopsCounted serving) is_stuck (see b).air half
        (Err (record { cause = c; answered = answered })) new after
        → Fails client new after (fault_of c)
    release_failed answered cause.FieldLost (q, inl d) = absurd (let lit = (made k target see laws a b far half old i is open_ ready ns from (Ends jobs client) talk (λ left. refl)).open_.in_step.0 in
        let dark = d.0 in cc)
    release_failed answered cause.FieldLost (q, inr turn) = record {
      turns = λ linked links place there os.
          let z = due_rls linked links place there os in
          with_release k linked peer_ends place os ns from i old far laws target (RestartsCounted serving) (AnswersCounted serving) (λ c. c) links peer_table peer_kind (see b).air new half after
          (Ends jobs client) z.0 z.1 None turn;
      how = inr (refl, sends_rls None turn);
      noisy = λ n. absurd cc;
    }
    release_failed answered cause.Memory (q, (lit, inl rests)) = record {
      front = λ linked links place there os.
          let z = due_rls linked links place there os in
          record { standing = Releasing (Ends jobs client); mid = (see b).air; half = half; turns = z.0; left = inl rests };
      arrives = λ quiet.
          let A : Air L → Choosing PeerState → Type 0 = λ x y. Arrives i.core.number (drop (length old.trace) x.trace) far y in
          inl (subst (A new) (sym rests.1) (subst (λ x. A x half) (sym rests.0) call_arrives));
      setting = set_still;
    }
    release_failed answered cause.Memory (q, (lit, inr stops)) = record {
      front = λ linked links place there os.
          let z = due_rls linked links place there os in
          record {
            standing = Releasing (Ends jobs client);
            mid = (see b).air;
            half = half;
            turns = z.0;
            left = inr (inr (record {
              asked = refl;
              passes = stops.fate;
              listeners = stops.listeners;
              left = stops.left;
              hands = λ quiet. none_stops k.machine (RestartsCounted serving) (AnswersCounted serving) (StopsCounted serving) is_stuck quiet (see b).air.listeners half stops.listeners after
                  stops.some;
            }));
          };
      arrives = λ quiet. absurd (none_stops k.machine (RestartsCounted serving) (AnswersCounted serving) (StopsCounted serving) is_stuck quiet (see b).air.listeners half stops.listeners after
          stops.some);
      setting = set_still;
    }
    release_failed answered cause.SixBad (q, never) = absurd never
    release_failed answered cause.Protocol (q, never) = absurd never
