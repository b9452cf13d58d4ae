-- A resolution over listeners without links leaves the device that it picks active alone.
use Rattle.std.proofs.Common.{◌≡◌, ℕ, List, [], ◌∷◌, length, drop, map, Bool, true, false, if◌then◌else◌, inl, inr, refl, sym, ◌∙◌, ap, subst, None, Result, Ok, Err}
use Rattle.nfc_base.specs.declared.frame.Tech.{Tech}
use Rattle.nfc_base.specs.declared.frame.Tech.TheVariants.{A, V, F}
use Rattle.nfc_base.specs.declared.event.Heard.{Heard}
use Rattle.nfc_base.specs.Signal.{Signal}
use Rattle.nfc_base.specs.Trace.{noise}
use Rattle.air_core.specs.Joint.{same_tech}
use Rattle.air_core.specs.World.{Machine, World}
use Rattle.air_core.specs.Turn.{Air, moment}
use Rattle.nfca_poll.specs.declared.fault.Picked.{Picked}
use Rattle.nfca_poll.specs.declared.fault.PollFault.{PollFault}
use Rattle.nfca_poll.specs.declared.fault.PollFault.TheVariants as faults
use Rattle.nfca_poll.specs.declared.seeking.Seeking.{Seeking}
use Rattle.nfca_poll.specs.Calls.{Call, Calls, call_of}
use Rattle.nfca_poll.specs.Front.{is_active}
use Rattle.nfca_poll.specs.Poll.{Seek, Calling, Ended, Outcome, seek_step}
use Rattle.nfca_poll.specs.Muted.{AskEnds, mute_reply}
use Rattle.nfca_poll.specs.Seeking.{resolution, seek_of, request_of, outcome}
use Rattle.nfca_poll.specs.Crowd.{Card, Each, StepsByFront, AreOurs, cards}
use Rattle.nfca_poll.specs.AnyStart.{HaveOwnIdents, EndsFromAny, LeavesAtCalls, AreUnlinked, PicksAlone}
use Rattle.nfca_poll.proofs.quiet.Eaches.{each_map}
use Rattle.nfca_poll.proofs.enquiries.Enquiring.{Reached}
use Rattle.nfca_poll.proofs.quiet.Crowding.{events_of, step, heard_by_it, not_heard}
use Rattle.nfca_poll.proofs.quiet.CardsAtRest.{request_a}
use Rattle.nfca_poll.proofs.noise.NoisyTurns.{WorldWas, passed, unheard, damaged, lost, world_was}
use Rattle.nfca_poll.proofs.noise.Moves.{YieldsAt}
use Rattle.nfca_poll.proofs.noise.FromAny.{IsAlone, Mixed}
use Rattle.nfca_poll.proofs.noise.AnyTurns.{due_call, mixed_start, mixed_turn}

module _ {L : Type 0} (m : Machine L) (identifier' : L → List ℕ) (ours : AreOurs m identifier') (unlinked : L → Bool) (leaves : LeavesAtCalls ours unlinked) where
  abbrev IsUnlinked : L → Type 0
  IsUnlinked l = m.tech l ≡ A → unlinked l ≡ true

  module _ (f : Signal) (request : f.tech ≡ A) (c : Call) (reads : call_of f ≡ Calls c) where
    -- each listener steps by its front's table, and has no link then
    by_front : (l : L) → m.tech l ≡ A → unlinked l ≡ true → StepsByFront m identifier' ours.kind ours.front l f
    by_front l t u = by_state (is_active (ours.front l)) refl
      where
        by_state : (v : Bool) → is_active (ours.front l) ≡ v → StepsByFront m identifier' ours.kind ours.front l f
        by_state true i = (leaves l f c t u reads).0 i
        by_state false i = ours.steps l f t i

    one_unlinked : (l : L) → IsUnlinked l → IsUnlinked (step m ours f request l)
    one_unlinked l u = by_tech (m.tech l) refl
      where
        by_other : (other : Tech) → same_tech other A ≡ false → m.tech l ≡ other → IsUnlinked (step m ours f request l)
        by_other other apart t =
            let goes : step m ours f request l ≡ l = ap (λ v. if v then m.after l f (mute_reply (m.handed l f)) else l) (not_heard m ours f request l other apart t) in
            subst IsUnlinked (sym goes) u

        by_tech : (t : Tech) → m.tech l ≡ t → IsUnlinked (step m ours f request l)
        by_tech A t =
            let s : StepsByFront m identifier' ours.kind ours.front l f = by_front l t (u t) in
            let goes : step m ours f request l ≡ m.after l f None =
            ap (λ v. if v then m.after l f (mute_reply (m.handed l f)) else l) (heard_by_it m ours f request l t) ∙ ap (λ h. m.after l f (mute_reply h)) s.untouched in
            (λ z. ap unlinked goes ∙ (leaves l f c t (u t) reads).1)
        by_tech V t = by_other V refl t
        by_tech F t = by_other F refl t

    all_unlinked : (ls : List L) → Each IsUnlinked ls → Each IsUnlinked (map (step m ours f request) ls)
    all_unlinked [] u = tt
    all_unlinked (l ∷ ls) u = (one_unlinked l u.0, all_unlinked ls u.1)

    unlinked_on : (w v : World L) (h : Heard) (n : ℕ) → Each IsUnlinked w.listeners → WorldWas m w f v h n → Each IsUnlinked v.listeners
    unlinked_on w _ _ _ u passed = all_unlinked w.listeners u
    unlinked_on w _ _ _ u unheard = u
    unlinked_on w _ _ _ u (damaged g h) = all_unlinked w.listeners u
    unlinked_on w _ _ _ u (lost g h) = all_unlinked w.listeners u

module _ {L : Type 0} (m : Machine L) (identifier' : L → List ℕ) where
  -- So far none has a link, and this is known of the cards.
  abbrev pub Frees : Air L → Air L → Seek → Type 0
  Frees old now s =
      (ours : AreOurs m identifier') (unlinked : L → Bool) → LeavesAtCalls ours unlinked → HaveOwnIdents (cards ours old.listeners) → AreUnlinked m unlinked old.listeners
      → AreUnlinked m unlinked now.listeners × Mixed false (cards ours old.listeners) s (cards ours now.listeners) (noise (drop (length old.trace) now.trace))

  pub frees_start : (old : Air L) → Frees old old (Calling 0)
  frees_start old ours unlinked leaves own u = (u, mixed_start m identifier' false ours old)

  pub frees_turn : (old now new : Air L) (q : Seeking) (f : Signal) (h : Heard) → Frees old now (seek_of q) → Reached resolution m old now (seek_of q) → f ≡ request_of q → AskEnds m now f (Ok h) new
      → Frees old new (seek_step (seek_of q) h)
  frees_turn old now new q f h frees r e t ours unlinked leaves own u =
      let w : List Card = cards ours old.listeners in
      let k = frees ours unlinked leaves own u in
      let tech : f.tech ≡ A = ap (λ (x : Signal). x.tech) e ∙ request_a q in
      let c = due_call false w q (cards ours now.listeners) (noise (drop (length old.trace) now.trace)) k.1 in
      let reads : call_of f ≡ Calls c.0 = ap call_of e ∙ c.1 in (
        unlinked_on m identifier' ours unlinked leaves f tech c.0 reads (moment now).world (moment new).world h (noise (events_of m now f)) k.0 (world_was m now new f h t.0),
        mixed_turn m identifier' false ours w old now new q f h own k.1
            (each_map (λ l. m.tech l ≡ A → unlinked l ≡ true) (YieldsAt ours false f) (λ l a x i. inl ((leaves l f c.0 x (a x) reads).0 i)) now.listeners k.0) r e t,
      )

  pub frees_end : (old new : Air L) (s : Seek) (o : Outcome) (r : Result Picked PollFault) → Frees old new s → s ≡ Ended o → r ≡ outcome o → (ours : AreOurs m identifier') (unlinked : L → Bool)
      → LeavesAtCalls ours unlinked
      → PicksAlone ours unlinked old r new
  frees_end old new s o r frees e end ours unlinked leaves own u =
      let w : List Card = cards ours old.listeners in
      let n : ℕ = noise (drop (length old.trace) new.trace) in
      let k = frees ours unlinked leaves own u in
      let P : Seek → Type 0 = λ x. Mixed false w x (cards ours new.listeners) n in
      let a : EndsFromAny w (outcome o) (cards ours new.listeners) n × (false ≡ false → IsAlone (outcome o) (cards ours new.listeners)) = subst P e k.1 in
      (inr k.0, (λ p i. a.1 refl p (sym end ∙ i)))

  pub frees_err : (old now new : Air L) (q : Seeking) (f : Signal) (fault : PollFault) → Frees old now (seek_of q) → AskEnds m now f (Err fault) new
      → (ours : AreOurs m identifier') (unlinked : L → Bool) → LeavesAtCalls ours unlinked
      → PicksAlone ours unlinked old (Err fault) new
  frees_err old now new q f faults.Nobody k t ours unlinked leaves own u = absurd t
  frees_err old now new q f faults.Disturbed k t ours unlinked leaves own u = absurd t
  frees_err old now new q f faults.FieldLost k t ours unlinked leaves own u = (inl refl, (λ p i. absurd cc))
  frees_err old now new q f faults.Memory k t ours unlinked leaves own u =
      let P : Air L → Type 0 = λ x. AreUnlinked m unlinked x.listeners in
      (inr (subst P (sym t) (k ours unlinked leaves own u).0), (λ p i. absurd cc))
  frees_err old now new q f faults.NotFound k t ours unlinked leaves own u = absurd t
  frees_err old now new q f faults.BadAnswer k t ours unlinked leaves own u = absurd t
