-- What payloads come to that are carried over the open link of a field.
use Rattle.std.proofs.Common.{◌≡◌, ◌⊎◌, ◌≤◌, ◌<◌, ℕ, zero, suc, List, [], ◌∷◌, ◌++◌, length, drop, Bool, true, false, Option, Some, None, refl, sym, ◌∙◌, ap, subst, inl, inr, arith, append_assoc}
use Rattle.std.proofs.Common.{append-nil}
use Rattle.nfc_base.specs.Choosing.{Choosing}
use Rattle.nfc_base.specs.Trace.{noise}
use Rattle.nfc_base.specs.Links.{AskedBy, BySwaps, FarMoved, FarStep, Stepped, Stopped, step_payload}
use Rattle.nfc_base.specs.declared.carrier.EndCause.{EndCause}
use Rattle.nfc_base.specs.declared.carrier.EndCause.TheVariants as cause
use Rattle.air_core.specs.Turn.{Air}
use Rattle.air_core.specs.declared.listener.Listener.{Ghosts}
use Rattle.air_core.proofs.PlainAside.{Laws}
use Rattle.dep_link.specs.Target.{TargetState}
use Rattle.dep_link.specs.Initiator.{InitState}
use Rattle.dep_link.specs.Asking.{Standing}
use Rattle.dep_link.specs.DepLinks.{DepSeen, Swap, Chained, IsDepReady, StandsAt, brought, dep_swaps, dep_view, first_seen, over_at, since}
use Rattle.dep_link.proofs.Swapped.{handed_of, handed_on}
use Rattle.llcp_link.specs.Counting.{AnswersCounted, RestartsCounted, StopsCounted, counted_fit}
use Rattle.far_air.specs.FarLaws.{IsFarTable, IsLinked, IsOfTable}
use Rattle.peer_air.specs.PeerFars.{peer_ends}
use Rattle.peer_air.specs.SwapTurns.{Stands}
use Rattle.peer_air.proofs.PeerEnds.{are_far_ends, counted_step}
use Rattle.peer_air.proofs.Wholly.{swaps_far, stops_far}
use Rattle.snep_core.specs.Accord.{PeerState}
use Rattle.snep_core.specs.Server.{serving}
use Rattle.snep_core.specs.Calling.{payloads}
use Rattle.link_calls.specs.Arriving.{Arrives, ArrivesCut}
use Rattle.link_calls.specs.Walk.{Course, Giver, Underway, Through, Comes, walk_at}
use Rattle.link_calls.specs.WalkTurns.{WalkTurns, WalkCut}
use Rattle.link_calls.specs.private.Walking.{ToldSo, Walks, WalkBreaks, WalkRests, WalkFails, WalkUnread}
use Rattle.link_calls.specs.Carrying.{IsOpen, IsCarried, IsWalked, IsWalkCut}
use Rattle.link_calls.specs.Staying.{setting_of}
use Rattle.link_calls.proofs.Arriving.{AreWhole, Ran, arrives_so, counted_so, none_yet, ran, ran_then, stops_so}
use Rattle.link_calls.proofs.Walk.{walked, cut}
use Rattle.link_calls.proofs.Open.{in_step, swap_open}
use Rattle.link_calls.proofs.Settings.{set_still}

-- an end with a server as a far end of the world
abbrev pub peer_table : IsFarTable peer_ends
peer_table = are_far_ends serving (λ s. refl)

abbrev pub peer_kind : IsOfTable (RestartsCounted serving) (AnswersCounted serving) peer_ends (λ c. c)
peer_kind = counted_step serving

-- what a count is that isn't the one before
more_than : (x y : ℕ) → x ≤ y → (y ≡ x → ⊥) → 0 < y
more_than x zero h n = absurd (n (let z : 0 ≡ x = omega (arith, h) in z))
more_than x (suc y) h n = omega arith

module _ {L C : Type 0} (k : Ghosts L) (target : L → TargetState) (see : C → DepSeen L) where
  abbrev Swaps : C → List ℕ → List FarStep → C → Type 0
  Swaps a out did b = dep_swaps k target (see a) out did (see b)

  -- swaps one by one are a chain of them
  chain : (did : List FarStep) (a b : C) → BySwaps Swaps did a b → (ss : List Swap) × Chained k target ss (see a) (see b)
  chain [] a b e = ([], ap see e)
  chain (x ∷ did) a b (mid, one, rest) = let z = chain did mid b rest in (record { out = step_payload x; did = x ∷ [] } ∷ z.0, (see mid, one, z.1))

  -- and one more behind them
  chain_to : (did more : List FarStep) (out : List ℕ) (a m b : C) → BySwaps Swaps did a m → Swaps m out more b → (ss : List Swap) × Chained k target ss (see a) (see b)
  chain_to [] more out a m b e one =
      (record { out = out; did = more } ∷ [], (see b, subst (λ z. Swaps z out more b) e one, refl))
  chain_to (x ∷ did) more out a m b (mid, first, rest) one =
      let z = chain_to did more out mid m b rest one in (record { out = step_payload x; did = x ∷ [] } ∷ z.0, (see mid, first, z.1))

  starts : (did : List FarStep) (a b : C) → BySwaps Swaps did a b → (see b).start ≡ (see a).start
  starts [] a b e = ap (λ z. (see z).start) e
  starts (x ∷ did) a b (mid, one, rest) = starts did mid b rest ∙ one.same.1

  firsts : (did : List FarStep) (a b : C) → BySwaps Swaps did a b → (see b).first ≡ (see a).first
  firsts [] a b e = ap (λ z. (see z).first) e
  firsts (x ∷ did) a b (mid, one, rest) = firsts did mid b rest ∙ one.same.0

  open_at : (did : List FarStep) (a b : C) → BySwaps Swaps did a b → (see b).over ≡ None → (see a).over ≡ None
  open_at [] a b e goes = subst (λ z. (see z).over ≡ None) e goes
  open_at (x ∷ did) a b (mid, one, rest) goes = one.begins

  module _ {W E : Type 0} (g : Giver W E) where
    -- the initiator rests behind each swap that was answered
    going_on : (did : List FarStep) (from to : Course W E) (a b : C) → ToldSo g from did to → BySwaps Swaps did a b → (see b).over ≡ None
        → over_at (see a).initiator.phase true ≡ None → over_at (see b).initiator.phase true ≡ None
    going_on [] from to a b told e goes p = subst (λ z. over_at (see z).initiator.phase true ≡ None) (sym e) p
    going_on (x ∷ did) (Through q) to a b told by goes p = absurd told
    going_on (Stopped out ∷ did) (Underway w) to a b told by goes p = absurd told
    going_on (Stepped out reply ∷ did) (Underway w) to a b (o, told) (mid, one, by) goes p =
        going_on did (g.told w reply) to mid b told by goes (swap_open k target (see a) (see mid) out reply one (open_at did mid b by goes))

    -- its steps are whole, and what they handed over was brought
    told_whole : (did : List FarStep) (from to : Course W E) (a b : C) → ToldSo g from did to → BySwaps Swaps did a b → AreWhole did
    told_whole [] from to a b told by = tt
    told_whole (x ∷ did) (Through q) to a b told by = absurd told
    told_whole (Stopped out ∷ did) (Underway w) to a b told by = absurd told
    told_whole (Stepped out reply ∷ did) (Underway w) to a b (o, told) (mid, one, by) = (one.bytes, told_whole did (g.told w reply) to mid b told by)

    handed_all : (did : List FarStep) (from to : Course W E) (a b : C) → ToldSo g from did to → BySwaps Swaps did a b
        → brought (see b).first (since (see b)) ≡ brought (see a).first (since (see a)) ++ payloads did
    handed_all [] from to a b told e = ap (λ z. brought (see z).first (since (see z))) e ∙ sym (append-nil (brought (see a).first (since (see a))))
    handed_all (x ∷ did) (Through q) to a b told by = absurd told
    handed_all (Stopped out ∷ did) (Underway w) to a b told by = absurd told
    handed_all (Stepped out reply ∷ did) (Underway w) to a b (o, told) (mid, one, by) =
        handed_all did (g.told w reply) to mid b told by ∙ ap (λ ps. ps ++ payloads did) (handed_on k target (see a) (see mid) out (Stepped out reply ∷ []) one)
        ∙ append_assoc (brought (see a).first (since (see a))) (out ∷ []) (payloads did)

    module _ (laws : Laws k) (a b : C) (far after : Choosing PeerState) (old : Air L) (i : InitState) (is : see a ≡ first_seen old i) (open_ : IsOpen k target old i)
        (ready : (see b).over ≡ None → IsDepReady k target (see b)) where
      pub opened : (see a).over ≡ None
      opened = ap (λ (p : DepSeen L). p.over) is ∙ ap (λ lit. over_at i.phase lit) open_.in_step.0 ∙ open_.going

      abbrev Walked : Course W E → Course W E → C → Choosing PeerState → Type 0
      Walked from to m half = Walks g (λ c. dep_view (see c)) Swaps (AnswersCounted serving) (StopsCounted serving) from a far to m half

      -- in the world, at whatever place the peer stands; it stands there behind it
      reaches : (from to : Course W E) (m : C) (half : Choosing PeerState) → Walked from to m half → (linked : L → Bool) → IsLinked k.machine linked → (place : ℕ)
          → Stands k target linked peer_ends old place → (os : List (Option PeerState))
          → WalkTurns k linked peer_ends g from (see a).initiator (see a).air (see m).air place os far half (walk_at g to (see m).initiator) × Stands k target linked peer_ends (see m).air place
      reaches from to m half walk linked links place there os =
          let A : DepSeen L → Type 0 = λ s. Stands k target linked peer_ends s.air place in
          walked k target linked peer_ends place os g see (RestartsCounted serving) (AnswersCounted serving) (StopsCounted serving) (λ c. c)
          links peer_table peer_kind
          (swaps_far k laws target linked peer_ends (RestartsCounted serving) (AnswersCounted serving) (StopsCounted serving) (λ c. c) (counted_fit serving))
          (stops_far k laws target linked peer_ends (RestartsCounted serving) (AnswersCounted serving) (StopsCounted serving) (λ c. c))
          walk.did from to a m far half walk.told walk.swapped (walk.over ∙ opened) walk.far_moved (subst A (sym is) there)

      -- counted from where the link was made
      first_is : (did : List FarStep) (m : C) → BySwaps Swaps did a m → (see m).first ≡ i.core.number
      first_is did m by = firsts did a m by ∙ ap (λ (p : DepSeen L). p.first) is

      start_is : (did : List FarStep) (m : C) → BySwaps Swaps did a m → (see m).start ≡ length old.trace
      start_is did m by = starts did a m by ∙ ap (λ (p : DepSeen L). p.start) is

      carried : (from to : Course W E) → Walked from to b after → IsCarried k target old i far (see b).air (see b).initiator after None
      carried from to walk =
          let first : (see b).first ≡ i.core.number = first_is walk.did b walk.swapped in
          let start : (see b).start ≡ length old.trace = start_is walk.did b walk.swapped in
          let handed : brought (see b).first (since (see b)) ≡ payloads walk.did = handed_all walk.did from to a b walk.told walk.swapped
          ∙ ap (λ ps. ps ++ payloads walk.did) (none_yet k target (see a) old i is) in
          record {
            at = see b;
            left = (refl, refl, walk.over ∙ opened);
            swaps = (chain walk.did a b walk.swapped).0;
            chain = subst (λ (p : DepSeen L). Chained k target (chain walk.did a b walk.swapped).0 p (see b)) is (chain walk.did a b walk.swapped).1;
            arrives = arrives_so k target old i (see b) first start (payloads walk.did) far after handed
                (ran walk.did (told_whole walk.did from to a b walk.told walk.swapped) far after walk.far_moved);
            counted = λ e. counted_so k target old i (see b) first start (ready (walk.over ∙ opened)).peer;
            setting = set_still walk.did far after walk.far_moved;
          }

      -- so it reaches its end, wherever the link began
      pub reached : (from : Course W E) (to : E) → Walked from (Through to) b after → (linked : L → Bool) → IsLinked k.machine linked → (place : ℕ)
          → Stands k target linked peer_ends old place → (os : List (Option PeerState))
          → WalkTurns k linked peer_ends g from i old (see b).air place os far after (Comes to (see b).initiator) × Stands k target linked peer_ends (see b).air place
      reached from to walk linked links place there os =
          let P : DepSeen L → Type 0 = λ s. WalkTurns k linked peer_ends g from s.initiator s.air (see b).air place os far after (Comes to (see b).initiator) in
          let z = reaches from (Through to) b after walk linked links place there os in
          (subst P is z.0, z.1)

      pub within_by : (from to : Course W E) → Walked from to b after → length old.trace ≤ length (see b).air.trace
      within_by from to walk = subst (λ n. n ≤ length (see b).air.trace) (start_is walk.did b walk.swapped) (ready (walk.over ∙ opened)).start

      pub came : (from : Course W E) (to : E) → Walked from (Through to) b after → IsWalked k target g from old i far (see b).air (see b).initiator after to
      came from to walk =
          let open_b : (see b).over ≡ None = walk.over ∙ opened in
          let phase : over_at (see a).initiator.phase true ≡ None = ap (λ (p : DepSeen L). over_at p.initiator.phase true) is ∙ open_.going in
          record {
            open_ = record { in_step = in_step k target (see b) (ready open_b); going = going_on walk.did from (Through to) a b walk.told walk.swapped open_b phase };
            turns = λ linked links place there os. (reached from to walk linked links place there os).0;
            there = λ linked links place there. (reached from to walk linked links place there []).1;
            carried = carried from (Through to) walk;
          }

      abbrev Breaking : Course W E → EndCause → Type 0
      Breaking from c = WalkBreaks g (λ c. dep_view (see c)) Swaps (AnswersCounted serving) (StopsCounted serving) from a far c b after

      abbrev Cut : Course W E → EndCause → Type 0
      Cut from c = IsWalkCut k target g from old i far (see b).air (see b).initiator after c

      -- in the world, by whatever cause
      broken : (from : Course W E) (c : EndCause) → Breaking from c → (linked : L → Bool) → IsLinked k.machine linked → (place : ℕ) → Stands k target linked peer_ends old place
          → (os : List (Option PeerState)) → WalkCut k linked peer_ends (StopsCounted serving) g from i old (see b).air place os far after c
      broken from c broke linked links place there os =
          let P : DepSeen L → Type 0 = λ s. WalkCut k linked peer_ends (StopsCounted serving) g from s.initiator s.air (see b).air place os far after c in
          let z = reaches from (Underway broke.at) broke.mid broke.mid_far broke.walks linked links place there os in
          subst P is
          (cut k target linked peer_ends place os g see (RestartsCounted serving) (AnswersCounted serving) (StopsCounted serving) (λ c. c)
          links peer_table peer_kind
          (swaps_far k laws target linked peer_ends (RestartsCounted serving) (AnswersCounted serving) (StopsCounted serving) (λ c. c) (counted_fit serving))
          (stops_far k laws target linked peer_ends (RestartsCounted serving) (AnswersCounted serving) (StopsCounted serving) (λ c. c))
          (StopsCounted serving) (λ u payload v stop. stop) from broke.at a broke.mid b far broke.mid_far after z.0 z.1 c broke.cut)

      -- what arrived until want of memory cut it off
      abbrev Came : Type 0
      Came = ArrivesCut i.core.number (drop (length old.trace) (see b).air.trace) far after

      -- what its swaps left, where the last one failed by this cause
      abbrev Left : EndCause → Type 0
      Left c = IsCarried k target old i far (see b).air (see b).initiator after (Some c) × (c ≡ cause.SixBad → 0 < noise (drop (length old.trace) (see b).air.trace))

      by_cause : (from : Course W E) (c : EndCause) → Breaking from c → (c ≡ cause.Protocol → ⊥) → ((c ≡ cause.Memory → ⊥) → Left c) → (c ≡ cause.Memory → Came)
          → setting_of after.end ≡ setting_of far.end → Cut from c
      by_cause from cause.FieldLost broke never left came set =
          let z = left (λ m. cc) in
          record { turns = λ linked links place there os. broken from cause.FieldLost broke linked links place there os; carried = z.0; noisy = z.1 }
      by_cause from cause.SixBad broke never left came set =
          let z = left (λ m. cc) in
          record { turns = λ linked links place there os. broken from cause.SixBad broke linked links place there os; carried = z.0; noisy = z.1 }
      by_cause from cause.Memory broke never left came set =
          record { front = λ linked links place there os. broken from cause.Memory broke linked links place there os; arrives = came refl; setting = set }
      by_cause from cause.Protocol broke never left came set = absurd (never refl)

      -- a peer in step never sends a frame that isn't allowed
      never_so : (o : Option EndCause) (given : Option (List ℕ)) (j : InitState) (s : Standing) → StandsAt o given j s → o ≡ Some cause.Protocol → ⊥
      never_so None given j s st e = cc
      never_so (Some cause.FieldLost) given j s st e = cc
      never_so (Some cause.SixBad) given j s st e = cc
      never_so (Some cause.Memory) given j s st e = cc
      never_so (Some cause.Protocol) given j s st e = st

      never_odd : (m : C) (out : List ℕ) (did : List FarStep) → Swaps m out did b → (see b).over ≡ Some cause.Protocol → ⊥
      never_odd m out [] x e = let t = x.exchange in never_so (see b).over None (see b).initiator t.0 t.2 e
      never_odd m out (Stepped payload reply ∷ []) x e = let t = x.exchange.1 in never_so (see b).over (Some reply) (see b).initiator t.0 t.2 e
      never_odd m out (Stopped payload ∷ []) x e = let o = x.exchange.2 in cc
      never_odd m out (d ∷ f ∷ did) x e = absurd x.exchange

      -- the steps of a swap that didn't fail for want of memory are whole
      asked_whole : (mid : C) (answered : Bool) (c : EndCause) (out : List ℕ) (did : List FarStep) → Swaps mid out did b → AskedBy answered c out did → (c ≡ cause.Memory → ⊥)
          → AreWhole did × (handed_of out did ≡ payloads did)
      asked_whole mid true c out did one (reply, e) calm =
          let P : List FarStep → Type 0 = λ ds. AreWhole ds × (handed_of out ds ≡ payloads ds) in
          subst P (sym e) ((one.bytes, tt), refl)
      asked_whole mid false c out did one (inl e) calm = let P : List FarStep → Type 0 = λ ds. AreWhole ds × (handed_of out ds ≡ payloads ds) in subst P (sym e) (tt, refl)
      asked_whole mid false c out did one (inr (memory, e)) calm = absurd (calm memory)

      -- swaps, and one more, of which the far end made each step whole
      module _ (from to : Course W E) (mid : C) (half : Choosing PeerState) (walk : Walked from to mid half) where
        came_before : brought (see mid).first (since (see mid)) ≡ payloads walk.did
        came_before = handed_all walk.did from to a mid walk.told walk.swapped ∙ ap (λ ps. ps ++ payloads walk.did) (none_yet k target (see a) old i is)

        ran_before : Ran (payloads walk.did) far half
        ran_before = ran walk.did (told_whole walk.did from to a mid walk.told walk.swapped) far half walk.far_moved

        rests_arrives : Arrives i.core.number (drop (length old.trace) (see mid).air.trace) far half
        rests_arrives = arrives_so k target old i (see mid) (first_is walk.did mid walk.swapped) (start_is walk.did mid walk.swapped) (payloads walk.did) far half came_before ran_before

        module _ (out : List ℕ) (more : List FarStep) (one : Swaps mid out more b) (last : FarMoved (AnswersCounted serving) (StopsCounted serving) more half after) where
          came_all : brought (see b).first (since (see b)) ≡ payloads walk.did ++ handed_of out more
          came_all = handed_on k target (see mid) (see b) out more one ∙ ap (λ ps. ps ++ handed_of out more) came_before

          whole_arrives : AreWhole more × (handed_of out more ≡ payloads more) → Arrives i.core.number (drop (length old.trace) (see b).air.trace) far after
          whole_arrives whole =
              arrives_so k target old i (see b) (one.same.0 ∙ first_is walk.did mid walk.swapped) (one.same.1 ∙ start_is walk.did mid walk.swapped) (payloads walk.did ++ payloads more) far after
              (came_all ∙ ap (λ ps. payloads walk.did ++ ps) whole.1) (ran_then (payloads walk.did) (payloads more) far half after ran_before (ran more whole.0 half after last))

          last_arrives : (answered : Bool) (c : EndCause) → AskedBy answered c out more → (c ≡ cause.Memory → ⊥) → Arrives i.core.number (drop (length old.trace) (see b).air.trace) far after
          last_arrives answered c asked calm = whole_arrives (asked_whole mid answered c out more one asked calm)

          -- for want of memory it may have stopped
          cut_arrives : (answered : Bool) (c : EndCause) → AskedBy answered c out more → Came
          cut_arrives true c (reply, e) = inl (let P : List FarStep → Type 0 = λ ds. AreWhole ds × (handed_of out ds ≡ payloads ds) in whole_arrives (subst P (sym e) ((one.bytes, tt), refl)))
          cut_arrives false c (inl e) = inl (let P : List FarStep → Type 0 = λ ds. AreWhole ds × (handed_of out ds ≡ payloads ds) in whole_arrives (subst P (sym e) (tt, refl)))
          cut_arrives false c (inr (memory, e)) =
              let M : List FarStep → Type 0 = λ ds. FarMoved (AnswersCounted serving) (StopsCounted serving) ds half after in
              inr (stops_so k target old i (see b) (one.same.0 ∙ first_is walk.did mid walk.swapped) (one.same.1 ∙ start_is walk.did mid walk.swapped) (payloads walk.did) out far half after
              (came_all ∙ ap (λ ds. payloads walk.did ++ handed_of out ds) e) ran_before one.bytes (subst M e last).0)

        -- the last swap failed
        last_left : (c : EndCause) (out : List ℕ) → (f : WalkFails (λ c. dep_view (see c)) Swaps (AnswersCounted serving) (StopsCounted serving) out mid half c b after) → (c ≡ cause.Memory → ⊥)
            → Left c
        last_left c out f calm = (
          record {
            at = see b;
            left = (refl, refl, f.over);
            swaps = (chain_to walk.did f.swapped.did out a mid b walk.swapped f.swapped.link).0;
            chain = subst (λ (p : DepSeen L). Chained k target (chain_to walk.did f.swapped.did out a mid b walk.swapped f.swapped.link).0 p (see b)) is
                (chain_to walk.did f.swapped.did out a mid b walk.swapped f.swapped.link).1;
            arrives = last_arrives out f.swapped.did f.swapped.link f.swapped.far_moved f.answered c f.swapped.tells calm;
            counted = λ none. absurd (let over = f.over in cc);
            setting = set_still f.swapped.did half after f.swapped.far_moved ∙ set_still walk.did far half walk.far_moved;
          },
          λ six.
              let start : (see b).start ≡ length old.trace = f.swapped.link.same.1 ∙ starts walk.did a mid walk.swapped ∙ ap (λ (p : DepSeen L). p.start) is in
              subst (λ (n : ℕ). 0 < noise (drop n (see b).air.trace)) start (more_than _ _ f.noise (f.swapped.link.noisy (f.over ∙ ap Some six))),
        )

      cut_so : (from : Course W E) (c : EndCause) (broke : Breaking from c)
          → WalkRests (λ c. dep_view (see c)) Swaps (AnswersCounted serving) (StopsCounted serving) broke.mid broke.mid_far c b after
          ⊎ (WalkFails (λ c. dep_view (see c)) Swaps (AnswersCounted serving) (StopsCounted serving) (g.gives broke.at) broke.mid broke.mid_far c b after
          ⊎ WalkUnread (λ c. dep_view (see c)) Swaps (AnswersCounted serving) (StopsCounted serving) (g.gives broke.at) broke.mid broke.mid_far c b after)
          → Cut from c
      cut_so from c broke (inl r) =
          let A : C → Choosing PeerState → Type 0 = λ x y. Arrives i.core.number (drop (length old.trace) (see x).air.trace) far y in
          let before : A broke.mid broke.mid_far = rests_arrives from (Underway broke.at) broke.mid broke.mid_far broke.walks in
          by_cause from c broke (λ q. let e = r.fault in cc) (λ n. absurd (n r.fault)) (λ m. inl (subst (A b) (sym r.far_is) (subst (λ x. A x broke.mid_far) (sym r.link_is) before)))
          (ap (λ (p : Choosing PeerState). setting_of p.end) r.far_is ∙ set_still broke.walks.did far broke.mid_far broke.walks.far_moved)
      cut_so from c broke (inr (inl f)) =
          by_cause from c broke (λ q. never_odd broke.mid (g.gives broke.at) f.swapped.did f.swapped.link (f.over ∙ ap Some q))
          (λ n. last_left from (Underway broke.at) broke.mid broke.mid_far broke.walks c (g.gives broke.at) f n)
          (λ m. cut_arrives from (Underway broke.at) broke.mid broke.mid_far broke.walks (g.gives broke.at) f.swapped.did f.swapped.link f.swapped.far_moved f.answered c f.swapped.tells)
          (set_still f.swapped.did broke.mid_far after f.swapped.far_moved ∙ set_still broke.walks.did far broke.mid_far broke.walks.far_moved)
      cut_so from c broke (inr (inr u)) =
          let P : List FarStep → Type 0 = λ ds. AreWhole ds × (handed_of (g.gives broke.at) ds ≡ payloads ds) in
          by_cause from c broke (λ q. let e = u.fault in cc) (λ n. absurd (n u.fault))
          (λ m. inl (whole_arrives from (Underway broke.at) broke.mid broke.mid_far broke.walks (g.gives broke.at) u.swapped.did u.swapped.link u.swapped.far_moved
          (subst P (sym u.swapped.tells) ((u.swapped.link.bytes, tt), refl))))
          (set_still u.swapped.did broke.mid_far after u.swapped.far_moved ∙ set_still broke.walks.did far broke.mid_far broke.walks.far_moved)

      pub cut_off_by : (from : Course W E) (c : EndCause) → Breaking from c → Cut from c
      cut_off_by from c broke = cut_so from c broke broke.cut
