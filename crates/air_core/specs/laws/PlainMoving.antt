-- Calls on a plain link, one after another.
use Rattle.std.proofs.Common.{◌≡◌, ℕ, ◌+◌, List, [], ◌∷◌, ◌++◌, length, drop, Bool, Option, Some, None, refl, sym, ◌∙◌}
use Rattle.std.proofs.Common.{ap, subst, append_assoc, append-nil, arith}
use Rattle.std.proofs.lemmas.List.{length-append}
use Rattle.std.proofs.Math.Seq.{drop-append_seam}
use Rattle.nfc_base.specs.Signal.{Signal}
use Rattle.nfc_base.specs.declared.tag_link.AskFault.{AskFault}
use Rattle.nfc_base.specs.declared.event.Event.{Event}
use Rattle.nfc_base.specs.TagLinks.{passed}
use Rattle.nfc_base.proofs.Leading.{leads_again, leads_on, passed_on}
use Rattle.air_core.specs.World.{World, quiet_air}
use Rattle.air_core.specs.Turn.{Air, world, moment}
use Rattle.air_core.specs.Conversation.{Note, Next, Moment, Going, replay}
use Rattle.air_core.specs.laws.Following.{last_of, last_passed, follows_on, stores_append}
use Rattle.air_core.specs.Waits.{Standing, Asking, stand, waits_next}
use Rattle.air_core.specs.laws.Waiting.{stand_on, waits_then}
use Rattle.air_core.specs.PlainLinks.{PlainSeen, PlainMoves, StandsAt, Follows, stores_after, between, plain_view}
use Rattle.air_core.specs.PlainLinks.{asked_on}
use Rattle.air_core.specs.declared.listener.Listener.{Ghosts}
use Rattle.air_core.specs.laws.Turning.{going_start}

module _ {L : Type 0} (k : Ghosts L) where
  again_stands : (o : Option AskFault) (lit : Bool) → o ≡ None → StandsAt o lit (Asking 0 [])
  again_stands None lit e = refl
  again_stands (Some f) lit e = absurd cc

  -- the events between are those that the trace gained, and lead from one world to the other
  pub events_between : (a b : Air L) (next : List Note → Next) (hs : List Note)
      (g : Going (quiet_air k.machine) next (moment a) (moment b) hs) →
      (drop (length a.trace) b.trace ≡ g.events) × (b.trace ≡ a.trace ++ g.events)
      × (world b ≡ replay (quiet_air k.machine) (world a) g.events)
  events_between a b next hs g =
      let trace : b.trace ≡ a.trace ++ g.events = ap (λ (m : Moment (World L)). m.trace) g.moment in (
        ap (drop (length a.trace)) trace ∙ drop-append_seam a.trace g.events,
        trace,
        ap (λ (m : Moment (World L)). m.world) g.moment,
      )

  no_more : (xs : List Event) → drop (length xs) xs ≡ []
  no_more [] = refl
  no_more (x ∷ xs) = no_more xs

  pub moves_again : (a : PlainSeen L) → PlainMoves k a a
  moves_again a = record {
    same = (refl, refl);
    ended = λ e h. refl;
    asked = record {
      commands = [];
      notes = [];
      going = going_start (quiet_air k.machine) (waits_next []) (moment a.air);
      stands = λ h. again_stands a.over a.air.lit h;
      told = sym (append-nil (asked_on k a));
      most = omega arith;
    };
    obeyed = record {
      commands = [];
      leads = leads_again (plain_view k a);
      images =
          let P : List Event → Type 0 = λ es. Follows (plain_view k a).state.store
          (stores_after k a.place (world a.air) es) [] in
          subst P (sym (no_more a.air.trace)) tt;
    };
  }

  -- the stores of two stretches
  images_on : (a b c : PlainSeen L) (p : PlainMoves k a b) (q : PlainMoves k b c)
      → Follows (plain_view k a).state.store (stores_after k a.place (world a.air) (between k a c))
      (passed (plain_view k a).step (plain_view k a).state (p.obeyed.commands ++ q.obeyed.commands))
  images_on a b c p q =
      let e = events_between a.air b.air (waits_next p.asked.commands) p.asked.notes p.asked.going in
      let f = events_between b.air c.air (waits_next q.asked.commands) q.asked.notes q.asked.going in
      let xs : List Event = p.asked.going.events in
      let ys : List Event = q.asked.going.events in
      let now : List ℕ = (plain_view k a).state.store in
      let step = (plain_view k a).step in
      let trace : c.air.trace ≡ a.air.trace ++ (xs ++ ys) =
      f.1 ∙ ap (λ t. t ++ ys) e.1 ∙ append_assoc a.air.trace xs ys in
      let all : between k a c ≡ xs ++ ys = ap (drop (length a.air.trace)) trace
      ∙ drop-append_seam a.air.trace (xs ++ ys) in
      let S : List (List ℕ) = stores_after k a.place (world a.air) xs in
      let T : List (List ℕ) = stores_after k b.place (world b.air) ys in
      let stores : stores_after k a.place (world a.air) (between k a c) ≡ S ++ T =
      ap (stores_after k a.place (world a.air)) all ∙ stores_append k a.place (world a.air) xs ys
      ∙ ap (λ w. S ++ stores_after k a.place w ys) (sym e.2)
      ∙ ap (λ i. S ++ stores_after k i (world b.air) ys) (sym p.same.0) in
      let P1 : List Event → Type 0 = λ es. Follows now (stores_after k a.place (world a.air) es)
      (passed step (plain_view k a).state p.obeyed.commands) in
      let first : P1 xs = subst P1 e.0 p.obeyed.images in
      let P2 : List Event → Type 0 = λ es. Follows (plain_view k b).state.store
      (stores_after k b.place (world b.air) es) (passed (plain_view k b).step (plain_view k b).state
      q.obeyed.commands) in
      let second : P2 ys = subst P2 f.0 q.obeyed.images in
      let last : (plain_view k b).state.store ≡ last_of now (passed step (plain_view k a).state p.obeyed.commands) =
      p.obeyed.leads.store ∙ sym (last_passed step (plain_view k a).state p.obeyed.commands) in
      let P3 : List ℕ → Type 0 =
      λ s. Follows s T (passed (plain_view k b).step (plain_view k b).state q.obeyed.commands) in
      let P4 : List (List ℕ) → Type 0 = λ zs. Follows now zs
      (passed step (plain_view k a).state (p.obeyed.commands ++ q.obeyed.commands)) in
      let P5 : List (List ℕ) → Type 0 = λ zs. Follows now (S ++ T) zs in
      subst P4 (sym stores)
      (subst P5 (sym (passed_on (plain_view k a) (plain_view k b) (plain_view k c) p.obeyed.commands
      q.obeyed.commands p.obeyed.leads q.obeyed.leads))
      (follows_on now S (passed step (plain_view k a).state p.obeyed.commands) T
      (passed (plain_view k b).step (plain_view k b).state q.obeyed.commands) first (subst P3 last second)))

  both : (a b c : PlainSeen L) → a.over ≡ None → b.over ≡ None → PlainMoves k a b → PlainMoves k b c → PlainMoves k a c
  both a b c ha hb p q =
      let xs : List Signal = p.asked.commands in
      let ys : List Signal = q.asked.commands in
      let done : stand 0 xs p.asked.notes ≡ Asking 0 [] =
      (let P : Option AskFault → Type 0 = λ o. StandsAt o b.air.lit (stand 0 xs p.asked.notes) in
      subst P hb (p.asked.stands ha)) in
      let sum : length (xs ++ ys) ≡ length xs + length ys = length-append xs ys in
      record {
        same = (q.same.0 ∙ p.same.0, q.same.1 ∙ p.same.1);
        ended = λ e h. absurd cc;
        asked = record {
          commands = xs ++ ys;
          notes = p.asked.notes ++ q.asked.notes;
          going = waits_then (quiet_air k.machine) (moment a.air) (moment b.air) (moment c.air) xs ys p.asked.notes
              q.asked.notes done p.asked.going q.asked.going;
          stands = λ h. (let P : Standing → Type 0 = StandsAt c.over c.air.lit in
              subst P (sym (stand_on 0 xs p.asked.notes 0 [] done ys q.asked.notes)) (q.asked.stands hb));
          told = q.asked.told ∙ ap (λ t. t ++ ys) p.asked.told ∙ append_assoc (asked_on k a) xs ys;
          most = omega (arith, p.asked.most, q.asked.most, sum);
        };
        obeyed = record {
          commands = p.obeyed.commands ++ q.obeyed.commands;
          leads = leads_on (plain_view k a) (plain_view k b) (plain_view k c) p.obeyed.commands q.obeyed.commands
              p.obeyed.leads q.obeyed.leads;
          images = images_on a b c p q;
        };
      }

  pub moves_on : (a b c : PlainSeen L) → PlainMoves k a b → PlainMoves k b c → PlainMoves k a c
  moves_on a b c p q = by_first a.over refl
    where
      by_second : a.over ≡ None → (o : Option AskFault) → b.over ≡ o → PlainMoves k a c
      by_second ha None hb = both a b c ha hb p q
      by_second ha (Some e) hb = let P : PlainSeen L → Type 0 = λ t. PlainMoves k a t in let same : c ≡ b =
          q.ended e hb in subst P (sym same) p

      by_first : (o : Option AskFault) → a.over ≡ o → PlainMoves k a c
      by_first None ha = by_second ha b.over refl
      by_first (Some e) ha = let P : PlainSeen L → Type 0 = λ t. PlainMoves k t c in let same : b ≡ a = p.ended e ha in
          subst P same q
