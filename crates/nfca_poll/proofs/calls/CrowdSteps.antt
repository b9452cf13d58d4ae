-- A call by rounds keeps what is known of it, at each reset and each turn.
use Rattle.std.proofs.Common.{◌≡◌, ℕ, ◌+◌, ◌≤◌, List, [], ◌∷◌, ◌++◌, length, map, Bool, true, false, nat_lt, if◌then◌else◌, inr, refl, sym, ◌∙◌, ap, subst, append_assoc, arith, Some}
use Rattle.std.proofs.lemmas.List.{append-nil, length-append}
use Rattle.nfc_base.specs.declared.frame.Tech.TheVariants.{A}
use Rattle.nfc_base.specs.Signal.{Signal}
use Rattle.nfc_base.specs.Trace.{Turn, noise}
use Rattle.nfc_base.specs.declared.event.Event.{Event}
use Rattle.nfc_base.specs.declared.event.Event.TheVariants.{Reset}
use Rattle.nfc_base.specs.declared.event.Fate.{Fate}
use Rattle.nfc_base.specs.declared.event.Heard.{Heard}
use Rattle.air_core.specs.World.{Machine, World, reset_by}
use Rattle.air_core.specs.Conversation as air
use Rattle.air_core.specs.Conversation.{Next, Over, LightUp, replay, turn_events, turn_heard}
use Rattle.nfca_poll.specs.declared.fault.Picked.{Picked}
use Rattle.nfca_poll.specs.Calls.{Call, Calls, Reading, Sens, Slp, Sdd, Sel, call_of, call_frame}
use Rattle.nfca_poll.specs.Front.{Idle}
use Rattle.nfca_poll.specs.Poll.{Seek, Calling, Asking, Selecting, Ended, seek_step}
use Rattle.nfca_poll.specs.Muted.{muted, mute_air}
use Rattle.nfca_poll.specs.Counting.{is_sens_req}
use Rattle.nfca_poll.specs.Crowd.{Card, Each, with_front, cards}
use Rattle.nfca_poll.specs.Rounds.{Aim, Search, Begins, Seeks, Sends, Told, next_round, sought, search_step, search_lit, search_next, searching}
use Rattle.nfca_poll.specs.AnyStart.{AreUnlinked, HaveOwnIdents}
use Rattle.nfca_poll.specs.Polled.{ArePolled}
use Rattle.nfca_poll.specs.Crowd.{picked_of, crowd}
use Rattle.nfca_poll.proofs.quiet.Eaches.{map_twice}
use Rattle.nfca_poll.proofs.quiet.Crowding.{noise-append}
use Rattle.nfca_poll.proofs.noise.NoisyTurns.{TurnWas, passed, unheard, damaged, lost, by_fates}
use Rattle.nfca_poll.proofs.enquiries.EnquiryLaws.{Keeps}
use Rattle.nfca_poll.proofs.noise.PolledTurns.{reset_cards, reset_unlinked, call_turn}
use Rattle.nfca_poll.proofs.quiet.RoundParts.{no_reset-append, turn_whole, turn_fresh, calls, calls-append, noisy_count, count-append, sens_turn, counted_turn}
use Rattle.nfca_poll.proofs.noise.Standing.{Stands}
use Rattle.nfca_poll.proofs.noise.SoughtFrom.{SoughtFrom, none, sens_step, sdd_step, sel_step, sdd_is_read, sel_is_read}
use Rattle.nfca_poll.proofs.calls.RoundCards.{FitsRound, fits_later, fits_reset, fits_stand, fits_slp, told_turn}
use Rattle.nfca_poll.proofs.calls.RoundHolds.{Resolves, Rounds, InSeek, InSend, AtReset, Holds, same_idents, same_distinct, lands}

asks_same : (f g : Signal) → ◌≡◌ {A = Next} (air.Asks f) (air.Asks g) → f ≡ g
asks_same f g e = cc

asks_light : (f : Signal) → ◌≡◌ {A = Next} (air.Asks f) LightUp → ⊥
asks_light f e = cc

light_asks : (f : Signal) → ◌≡◌ {A = Next} LightUp (air.Asks f) → ⊥
light_asks f e = cc

over_light : ◌≡◌ {A = Next} Over LightUp → ⊥
over_light e = cc

over_asks : (f : Signal) → ◌≡◌ {A = Next} Over (air.Asks f) → ⊥
over_asks f e = cc

-- the noise of one turn is none or one
was_small : (r : Reading) (v v' : List Card) (h : Heard) (t : ℕ) → TurnWas r v v' h t → (if nat_lt 0 t then 1 else 0) ≡ t
was_small r v _ _ _ passed = refl
was_small r v _ _ _ unheard = refl
was_small r v _ _ _ (damaged g h) = refl
was_small r v _ _ _ (lost g h) = refl

module _ {L : Type 0} (m : Machine L) {identifier' : L → List ℕ} (polled : ArePolled m identifier') {X : Type 0} (aim : Aim X) (w : List Card) (field : HaveOwnIdents w) where
  abbrev At : Search X → World L → List Event → Type 0
  At s a es = Holds m polled aim w field s a es

  abbrev of : World L → List Card
  of a = cards polled.ours a.listeners

  -- a reset begins a round
  lit : (round : ℕ) (a : World L) (es : List Event) → AtReset m polled aim w field round a es → InSeek m polled aim w field round [] (Calling 0) (reset_by (muted m) a) (es ++ Reset ∷ [])
  lit round a es r =
      let b : World L = reset_by (muted m) a in
      let idle : of b ≡ map (λ c. with_front c Idle) (of a) = reset_cards m polled a.listeners r.tidy in
      let same : map picked_of (of b) ≡ map picked_of w = ap (map picked_of) idle ∙ map_twice picked_of (λ c. with_front c Idle) (of a) ∙ r.same in
      let F : List Card → Type 0 = λ t. Each (FitsRound false 0 []) t in
      record {
        now = [];
        common = record {
          few = r.few;
          here = record { before = es; made = refl; whole = tt; noisy = r.noisy; count = r.count };
          unlinked = reset_unlinked m polled a.listeners r.tidy;
          same = same;
          rest = crowd w;
          known = refl;
          others = tt;
        };
        start = of b;
        ts = [];
        resolves = record { same = same; fits = subst F (sym idle) (fits_reset (of a)); earlier = []; all = refl; few = omega arith };
        sought = (refl, omega arith, none (inr (omega arith)));
      }

  lights : (s : Search X) (a : World L) (es : List Event) → At s a es → search_next aim s ≡ LightUp → At (search_lit aim s) (reset_by (muted m) a) (es ++ Reset ∷ [])
  lights (Begins round) a es k d = lit round a es k
  lights (Seeks round found (Calling n)) a es k d = absurd (asks_light _ d)
  lights (Seeks round found (Asking done known)) a es k d = absurd (asks_light _ d)
  lights (Seeks round found (Selecting done l)) a es k d = absurd (asks_light _ d)
  lights (Seeks round found (Ended o)) a es k d = absurd (over_light d)
  lights (Sends round found) a es k d = absurd (asks_light _ d)
  lights (Told r) a es k d = absurd (over_light d)

  -- one turn, by its request and its fates
  module _ (a : World L) (es : List Event) (f : Signal) (x y : Fate) (h : Heard) (heard : Some h ≡ turn_heard (mute_air m) a f x y) where
    abbrev te : List Event
    te = turn_events (mute_air m) a f x y

    abbrev b : World L
    b = replay (mute_air m) a te

    more_noise : (now : List Event) → noise now + noise te ≡ noise (now ++ te)
    more_noise now = sym (noise-append now te)

    rounds_turn : (round : ℕ) (found : List Picked) (now : List Event) → Rounds m polled aim w field round found now a es → map picked_of (of b) ≡ map picked_of (of a)
        → AreUnlinked m polled.unlinked b.listeners
        → Rounds m polled aim w field round found (now ++ te) b (es ++ te)
    rounds_turn round found now c same fresh = record {
      few = c.few;
      here = record {
        before = c.here.before;
        made = ap (λ t. t ++ te) c.here.made ∙ append_assoc c.here.before (Reset ∷ now) te;
        whole = no_reset-append now te c.here.whole (turn_whole (mute_air m) a f x y);
        noisy = c.here.noisy;
        count = c.here.count;
      };
      unlinked = fresh;
      same = same ∙ c.same;
      rest = c.rest;
      known = c.known;
      others = c.others;
    }

    resolves_turn : (found : List Picked) (start : List Card) (ts : List Turn) (now : List Event) → Resolves w found start ts now → Resolves w found start (ts ++ calls te) (now ++ te)
    resolves_turn found start ts now r =
        let n : noise (now ++ te) ≡ noise now + noise te = noise-append now te in
        let k : noisy_count (ts ++ calls te) ≡ noisy_count ts + noisy_count (calls te) = count-append ts (calls te) in
        let l : noisy_count ts ≤ noise now = r.few in
        let j : noisy_count (calls te) ≤ noise te = counted_turn (mute_air m) a f x y in
        record {
          same = r.same;
          fits = fits_later false (noise now) (noise (now ++ te)) found start (omega (arith, n)) r.fits;
          earlier = r.earlier;
          all = calls-append now te (turn_fresh (mute_air m) a f x y) ∙ ap (λ t. t ++ calls te) r.all ∙ append_assoc r.earlier ts (calls te);
          few = omega (arith, n, k, l, j);
        }

    -- what the cards see of it
    was : (c : Call) → f.tech ≡ A → call_of f ≡ Calls c → AreUnlinked m polled.unlinked a.listeners → TurnWas (Calls c) (of a) (of b) h (noise te) × AreUnlinked m polled.unlinked b.listeners
    was c tech call fresh =
        let t = call_turn m polled f tech c call a b h (noise te) fresh (by_fates m a f x y h heard) in
        let W : Reading → Type 0 = λ r. TurnWas r (of a) (of b) h (noise te) in
        (subst W call t.0, t.1)

    seek_turn : (round : ℕ) (found : List Picked) (s : Seek) (c : Call) → f.tech ≡ A → call_of f ≡ Calls c → (k : InSeek m polled aim w field round found s a es)
        → (TurnWas (Calls c) (of a) (of b) h (noise te) → SoughtFrom k.start (seek_step s h) (of b) (k.ts ++ calls te) (noise k.now + noise te))
        → At (sought aim next_round round found (seek_step s h)) b (es ++ te)
    seek_turn round found s c tech call k step =
        let t = was c tech call k.common.unlinked in
        let N : ℕ → Type 0 = λ n. SoughtFrom k.start (seek_step s h) (of b) (k.ts ++ calls te) n in
        lands m polled aim w field (seek_step s h) round found (k.now ++ te) b (es ++ te) k.start (k.ts ++ calls te)
        (rounds_turn round found k.now k.common (told_turn (Calls c) (of a) (of b) h (noise te) t.0) t.1)
        (resolves_turn found k.start k.ts k.now k.resolves)
        (subst N (more_noise k.now) (step t.0))

    stand : (round : ℕ) (found : List Picked) (s : Seek) (k : InSeek m polled aim w field round found s a es) → Each Stands k.start
    stand round found s k = fits_stand (noise k.now) found k.start (same_idents m polled aim w field k.start k.resolves.same) k.resolves.fits

    calling : (round : ℕ) (found : List Picked) (n : ℕ) → InSeek m polled aim w field round found (Calling n) a es → call_frame Sens ≡ f
        → At (sought aim next_round round found (seek_step (Calling n) h)) b (es ++ te)
    calling round found n k e =
        let sens : is_sens_req f ≡ true = ap is_sens_req (sym e) in
        let one = sens_turn (mute_air m) a f x y sens in
        seek_turn round found (Calling n) Sens (ap (λ (g : Signal). g.tech) (sym e)) (ap call_of (sym e)) k
        (λ t. sens_step k.start (stand round found (Calling n) k) (same_distinct m polled aim w field k.start k.resolves.same) n (of a) (of b) h (noise te) k.ts (k.ts ++ calls te) (noise k.now)
        k.sought
        (length-append k.ts (calls te) ∙ ap (λ i. length k.ts + i) one.0)
        (count-append k.ts (calls te) ∙ ap (λ i. noisy_count k.ts + i) (one.1 ∙ was_small (Calls Sens) (of a) (of b) h (noise te) t)) t)

    asking : (round : ℕ) (found : List Picked) (done : List (List ℕ)) (known : List Bool) → InSeek m polled aim w field round found (Asking done known) a es
        → call_frame (Sdd (length done + 1) known) ≡ f
        → At (sought aim next_round round found (seek_step (Asking done known) h)) b (es ++ te)
    asking round found done known k e =
        seek_turn round found (Asking done known) (Sdd (length done + 1) known) (ap (λ (g : Signal). g.tech) (sym e)) (ap call_of (sym e) ∙ sdd_is_read k.start done known (of a) k.sought) k
        (λ t. sdd_step k.start (stand round found (Asking done known) k) (same_distinct m polled aim w field k.start k.resolves.same) done known (of a) (of b) h (noise te) (k.ts ++ calls te)
        (noise k.now) k.sought t)

    selecting : (round : ℕ) (found : List Picked) (done : List (List ℕ)) (l : List ℕ) → InSeek m polled aim w field round found (Selecting done l) a es → call_frame (Sel (length done + 1) l) ≡ f
        → At (sought aim next_round round found (seek_step (Selecting done l) h)) b (es ++ te)
    selecting round found done l k e =
        seek_turn round found (Selecting done l) (Sel (length done + 1) l) (ap (λ (g : Signal). g.tech) (sym e)) (ap call_of (sym e) ∙ sel_is_read k.start done l (of a) k.sought) k
        (λ t. sel_step k.start (stand round found (Selecting done l) k) (same_distinct m polled aim w field k.start k.resolves.same) done l (of a) (of b) h (noise te) (k.ts ++ calls te) (noise k.now)
        k.sought t)

    -- SLP_REQ, and the next resolution begins
    sends : (round : ℕ) (found : List Picked) → InSend m polled aim w field round found a es → call_frame Slp ≡ f → InSeek m polled aim w field round found (Calling 0) b (es ++ te)
    sends round found k e =
        let t = was Slp (ap (λ (g : Signal). g.tech) (sym e)) (ap call_of (sym e)) k.common.unlinked in
        let c : Rounds m polled aim w field round found (k.now ++ te) b (es ++ te) = rounds_turn round found k.now k.common (told_turn (Calls Slp) (of a) (of b) h (noise te) t.0) t.1 in
        let N : ℕ → Type 0 = λ n. Each (FitsRound false n found) (of b) in
        record {
          now = k.now ++ te;
          common = c;
          start = of b;
          ts = [];
          resolves = record {
            same = c.same;
            fits = subst N (more_noise k.now) (fits_slp (noise k.now) (noise te) found (of a) (of b) h k.fits t.0);
            earlier = calls (k.now ++ te);
            all = sym (append-nil (calls (k.now ++ te)));
            few = omega arith;
          };
          sought = (refl, omega arith, none (inr (omega arith)));
        }

    asks : (s : Search X) → At s a es → search_next aim s ≡ air.Asks f → At (search_step aim next_round s h) b (es ++ te)
    asks (Begins round) k d = absurd (light_asks f d)
    asks (Seeks round found (Calling n)) k d = calling round found n k (asks_same (call_frame Sens) f d)
    asks (Seeks round found (Asking done known)) k d = asking round found done known k (asks_same (call_frame (Sdd (length done + 1) known)) f d)
    asks (Seeks round found (Selecting done l)) k d = selecting round found done l k (asks_same (call_frame (Sel (length done + 1) l)) f d)
    asks (Seeks round found (Ended o)) k d = absurd (over_asks f d)
    asks (Sends round found) k d = sends round found k (asks_same (call_frame Slp) f d)
    asks (Told r) k d = absurd (over_asks f d)

  pub keeps : Keeps (searching aim) (mute_air m) (Holds m polled aim w field)
  keeps = record { lights = lights; asks = λ s a es f x y h k d g. asks a es f x y h g s k d }
