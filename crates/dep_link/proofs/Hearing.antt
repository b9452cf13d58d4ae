-- The initiator at the target's answers, and at bad receptions, while an exchange is under way.
use Rattle.std.proofs.Common.{◌≡◌, ◌⊎◌, ℕ, ◌+◌, ◌-◌, ◌*◌, ◌<◌, ◌≤◌, nat_lt, Bool, true, false, List, [], ◌++◌, length, take, drop, Option, Some, None, inl, inr, refl, sym, ◌∙◌, ap, subst, arith}
use Rattle.std.proofs.Common.{take_all}
use Rattle.std.proofs.lemmas.Bool.{lt-ltb, ltb-true}
use Rattle.std.proofs.lemmas.List.{drop_all}
use Rattle.nfc_base.specs.Signal.{Signal}
use Rattle.nfc_base.specs.StopAndWait.{Whole, Damaged, Silent}
use Rattle.nfc_base.specs.LinkTurns.{heard_of}
use Rattle.nfc_base.proofs.ExactlyOnce.{Goes}
use Rattle.dep_pdu.specs.declared.frame.DepFrame.{DepFrame}
use Rattle.dep_pdu.specs.declared.frame.DepFrame.TheVariants.{Ack, Extend}
use Rattle.dep_pdu.specs.Spelling.{IsDepFrame}
use Rattle.dep_link.specs.declared.initiator.Phase.{Phase}
use Rattle.dep_link.specs.declared.initiator.Phase.TheVariants.{Asked, Nacked, Attending, Free, EndedSixBad, EndedProtocol}
use Rattle.dep_link.specs.Sizes.{limit}
use Rattle.dep_link.specs.Frames.{air_frame, spelled, piece, after}
use Rattle.dep_link.specs.Target.{TargetState}
use Rattle.nfc_base.specs.Pieces.{Core, most_bads, most_extensions, longest_extension, turned, more_follows, pieces}
use Rattle.dep_link.specs.Initiator.{InitState, InitMove, InitTurn, Gives, sent, sends, bad, answered, waited, whole, damaged, silent, framed, framed_next, init_table}
use Rattle.dep_link.specs.Exchange.{nfc_dep, initiator_does, InStep}
use Rattle.dep_link.proofs.Wire.{written_read, is_piece}
use Rattle.nfc_base.proofs.Chains.{same, not_lt, le_from_not, pieces_drop, not_refused, Acked, Answered, Held, of_chain, of_reply, of_time, held_left, worse, held_worse, held_more, longer}
use Rattle.nfc_base.proofs.Chains.{time_granted, sent_on, ack_heard, got_on, piece_heard}
use Rattle.dep_link.proofs.Standing.{after_small, dep_ends, Stands, asking, drawing, granting, held, granted, Ask, asks, nacks, attends, HasAsked, Wait, has, stays_up}

module _ (first m k : ℕ) (out : List ℕ) where
  -- a bad reception: the initiator sends something, of which two transmissions more are left, or gives up
  abbrev Survives : InitState → TargetState → Option (List ℕ) → ℕ → InitMove → Type 0
  Survives i t g n x = Goes (λ z. (q : ℕ) × Ask m k out x.state t g z q × (q ≤ n + 2)) (λ _. ⊥) (Unit {0}) (initiator_does (framed_next x.does))

  bad_goes : (i : InitState) (t : TargetState) (g : Option (List ℕ)) (n : ℕ) (p : Phase)
      → (i.bads < most_bads → Ask m k out (record i { phase = p; bads = i.bads + 1 }) t g (air_frame (sent p i.core)) (n + 2)) → Survives i t g n (bad i p)
  bad_goes i t g n p h = go (nat_lt i.bads most_bads) refl
    where
      go : (v : Bool) → nat_lt i.bads most_bads ≡ v → Survives i t g n (bad i p)
      go true v = let a = h (ltb-true i.bads most_bads v) in rw v (n + 2, a, omega arith)
      go false v = rw v tt

  worse_stands : (c : Core) (bads : ℕ) (t : TargetState) (g : Option (List ℕ)) (n : ℕ) → bads < most_bads → Stands m k out c bads t g n → Stands m k out c (bads + 1) t g n
  worse_stands c bads t g n l (asking z h q) = asking (omega arith) h q
  worse_stands c bads t g n l (drawing h q) = drawing h q
  worse_stands c bads t g n l (granting z w h q) = granting (omega arith) w (worse dep_ends m k out c t g (bads + 1) h) q
  worse_stands c bads t g n l (held w h) = held w (held_worse dep_ends m k out c t g n bads l h)
  worse_stands c bads t g n l (granted bytes w x h q) = granted bytes w x h q

  -- where a NACK was sent, the request would be sent again
  stands_held : (c : Core) (bads : ℕ) (t : TargetState) (g : Option (List ℕ)) (n : ℕ) → Held dep_ends m k out c t g n bads → Stands m k out c bads t g n
  stands_held c bads t g n (of_chain h q) = held h.plain (of_chain h q)
  stands_held c bads t g n (of_reply bytes h q) = go h.asked_by
    where
      go : ((c.extension ≡ None) ⊎ ((c.extension ≡ Some t.times) × (t.followed ≡ true))) → Stands m k out c bads t g n
      go (inl w) = held w (of_reply bytes h q)
      go (inr (w, x)) = granted bytes w x h q
  stands_held c bads t g n (of_time z h q) = go h.asked_by
    where
      go : ((c.extension ≡ None) ⊎ (c.extension ≡ Some t.times)) → Stands m k out c bads t g n
      go (inl w) = held w (of_time z h q)
      go (inr w) = granting z w (worse dep_ends m k out c t g bads h) (omega arith)

  abbrev IsLive : Phase → Type 0
  IsLive Asked = Unit {0}
  IsLive Nacked = Unit {0}
  IsLive Attending = Unit {0}
  IsLive _ = ⊥

  silent_bad : (i : InitState) (p : Phase) → i.phase ≡ p → IsLive p → silent i i.phase ≡ bad i Attending
  silent_bad i Asked e l = rw e refl
  silent_bad i Nacked e l = rw e refl
  silent_bad i Attending e l = rw e refl
  silent_bad i Free e l = absurd l
  silent_bad i EndedSixBad e l = absurd l
  silent_bad i EndedProtocol e l = absurd l

  silent_goes : (i : InitState) (t : TargetState) (g : Option (List ℕ)) (n q : ℕ) → IsLive i.phase → Stands m k out i.core i.bads t g q → q ≤ n → Survives i t g n (silent i i.phase)
  silent_goes i t g n q l s b =
      subst (λ (x : InitMove). Survives i t g n x) (sym (silent_bad i i.phase refl l)) (bad_goes i t g n Attending (λ few. attends refl refl q (worse_stands i.core i.bads t g q few s) (omega arith)))

  ask_live : (i : InitState) (t : TargetState) (g : Option (List ℕ)) (f : Signal) (n : ℕ) → Ask m k out i t g f n → IsLive i.phase × ((q : ℕ) × Stands m k out i.core i.bads t g q × (q ≤ n))
  ask_live i t g f n (asks p e s) = (rw p tt, (n, s, omega arith))
  ask_live i t g f n (nacks p e h) = (rw p tt, (n, stands_held i.core i.bads t g n h, omega arith))
  ask_live i t g f n (attends p e q s l) = (rw p tt, (q, s, omega arith))

  wait_live : (i : InitState) (t : TargetState) (g : Option (List ℕ)) (a : Signal) (n : ℕ) → Wait m k out i t g a n → IsLive i.phase × ((q : ℕ) × Stands m k out i.core i.bads t g q × (q ≤ n))
  wait_live i t g a n (has (inl p) v e l h) = (rw p tt, (n, stands_held i.core i.bads t g n h, omega arith))
  wait_live i t g a n (has (inr p) v e l h) = (rw p tt, (n, stands_held i.core i.bads t g n h, omega arith))
  wait_live i t g a n (stays_up p e q s l) = (rw p tt, (q, s, omega arith))

  pub unheard_at : (i : InitState) (t : TargetState) (g : Option (List ℕ)) (f : Signal) (n : ℕ) → Ask m k out i t g f n
      → Goes (λ z. (q : ℕ) × Ask m k out ((nfc_dep first).next i Silent) t g z q × (q ≤ n + 2)) (λ _. ⊥) (Unit {0}) ((nfc_dep first).acts i Silent)
  unheard_at i t g f n a = let s = ask_live i t g f n a in silent_goes i t g n s.1.0 s.0 s.1.1 s.1.2

  pub lost_at : (i : InitState) (t : TargetState) (g : Option (List ℕ)) (a : Signal) (n : ℕ) → Wait m k out i t g a n
      → Goes (λ z. (q : ℕ) × Ask m k out ((nfc_dep first).next i Silent) t g z q × (q ≤ n + 2)) (λ _. ⊥) (Unit {0}) ((nfc_dep first).acts i Silent)
  lost_at i t g a n w = let s = wait_live i t g a n w in silent_goes i t g n s.1.0 s.0 s.1.1 s.1.2

  damaged_asked : (i : InitState) → HasAsked m k out i → damaged i i.phase ≡ bad i Nacked
  damaged_asked i (inl e) = rw e refl
  damaged_asked i (inr e) = rw e refl

  pub damaged_at : (i : InitState) (t : TargetState) (g : Option (List ℕ)) (a : Signal) (n : ℕ) → Wait m k out i t g a n
      → Goes (λ z. (q : ℕ) × Ask m k out ((nfc_dep first).next i Damaged) t g z q × (q ≤ n + 2)) (λ _. ⊥) (Unit {0}) ((nfc_dep first).acts i Damaged)
  damaged_at i t g a n (has p v e l h) =
      subst (λ (x : InitMove). Survives i t g n x) (sym (damaged_asked i p)) (bad_goes i t g n Nacked (λ few. nacks refl refl
      (held_worse dep_ends m k out i.core t g (n + 2) i.bads few (held_more dep_ends m k out i.core t g n i.bads h))))
  damaged_at i t g a n (stays_up p e q s l) =
      let e : damaged i i.phase ≡ bad i Attending = rw p refl in
      subst (λ (x : InitMove). Survives i t g n x) (sym e) (bad_goes i t g n Attending (λ few. attends refl refl q (worse_stands i.core i.bads t g q few s) (omega arith)))

  -- a whole answer is heard
  abbrev Accepted : InitState → TargetState → Option (List ℕ) → ℕ → InitMove → Type 0
  Accepted i t g n x = Goes (λ z. (q : ℕ) × Ask m k out x.state t g z q × (q + 2 ≤ n)) (λ r. (g ≡ Some r) × InStep x.state t) ⊥ (initiator_does (framed_next x.does))

  abbrev AcceptedAt : InitState → TargetState → Option (List ℕ) → Signal → ℕ → Type 0
  AcceptedAt i t g a n =
      Goes (λ z. (q : ℕ) × Ask m k out ((nfc_dep first).next i (Whole a)) t g z q × (q + 2 ≤ n)) (λ r. (g ≡ Some r) × InStep ((nfc_dep first).next i (Whole a)) t) ⊥ ((nfc_dep first).acts i (Whole a))

  whole_asked : (i : InitState) (f : Signal) → HasAsked m k out i → whole i i.phase f ≡ waited i (spelled f)
  whole_asked i f (inl e) = rw e refl
  whole_asked i f (inr e) = rw e refl

  accepts_by : (i : InitState) (t : TargetState) (g : Option (List ℕ)) (a : Signal) (n : ℕ) (x : InitMove) → whole i i.phase a ≡ x → Accepted i t g n x → AcceptedAt i t g a n
  accepts_by i t g a n x e h =
      let q : init_table i (heard_of (Whole a)) ≡ framed x = ap framed e in
      subst (λ (y : InitTurn). Goes (λ z. (q : ℕ) × Ask m k out y.state t g z q × (q + 2 ≤ n)) (λ r. (g ≡ Some r) × InStep y.state t) ⊥ (initiator_does y.does)) (sym q) h

  accepted_by : (i : InitState) (t : TargetState) (g : Option (List ℕ)) (a : Signal) (v : DepFrame) (n : ℕ) (x : InitMove)
      → HasAsked m k out i → a ≡ air_frame v → IsDepFrame v → answered i v ≡ x → Accepted i t g n x → AcceptedAt i t g a n
  accepted_by i t g a v n x l e r q h =
      accepts_by i t g a n x (whole_asked i a l ∙ ap (waited i) (ap spelled e ∙ written_read v r) ∙ q) h

  acked_next : (i : InitState) (t : TargetState) (g : Option (List ℕ)) → Acked dep_ends m k out i.core t g
      → answered i (Ack true i.core.number) ≡ sends i (sent_on dep_ends m k out i.core) Asked 0
  acked_next i t g h = rw (h.sending, lt-ltb i.core.most (length i.core.rest) h.more, same i.core.number) refl

  -- a piece of the reply that isn't the last
  piece_next : (i : InitState) (t : TargetState) (g : Option (List ℕ)) (bytes : List ℕ) → Answered dep_ends m k out i.core t g bytes → t.most < length bytes
      → answered i (piece true t.most i.core.number bytes) ≡ sends i (got_on dep_ends m k out i.core (take t.most bytes)) Asked 0
  piece_next i t g bytes h l =
      rw (h.no_more, same i.core.number, not_refused limit i.core.got bytes t.most h.bounds.some_back h.short_back, lt-ltb t.most (length bytes) l) refl

  abbrev ended : InitState → InitState
  ended i = record i { core = turned i.core (after i.core.number) [] false []; phase = Free; bads = 0 }

  last_heard : (i : InitState) (t : TargetState) (g : Option (List ℕ)) (bytes : List ℕ) → Answered dep_ends m k out i.core t g bytes → length bytes ≤ t.most
      → answered i (piece true t.most i.core.number bytes) ≡ record { state = ended i; does = Gives (i.core.got ++ bytes) }
  last_heard i t g bytes h l =
      let e : take t.most bytes ≡ bytes = take_all t.most bytes l in
      rw (h.no_more, same i.core.number, not_refused limit i.core.got bytes t.most h.bounds.some_back h.short_back, not_lt t.most (length bytes) l, e) refl

  reply_heard : (i : InitState) (t : TargetState) (g : Option (List ℕ)) (a : Signal) (n : ℕ) (bytes : List ℕ) → HasAsked m k out i
      → a ≡ air_frame (piece true t.most i.core.number bytes) → Answered dep_ends m k out i.core t g bytes → 2 * pieces t.most bytes ≤ n → AcceptedAt i t g a n
  reply_heard i t g a n bytes p e h b = go (nat_lt t.most (length bytes)) refl
    where
      r : IsDepFrame (piece true t.most i.core.number bytes)
      r = is_piece true t.most i.core.number bytes h.number h.bounds.fits_back

      go : (d : Bool) → nat_lt t.most (length bytes) ≡ d → AcceptedAt i t g a n
      go true d =
          let l = ltb-true t.most (length bytes) d in
          let z = pieces_drop t.most bytes h.bounds.some_back l in
          accepted_by i t g a (piece true t.most i.core.number bytes) n _ p e r (piece_next i t g bytes h l)
          (2 * pieces t.most (drop t.most bytes), asks refl refl (drawing (piece_heard dep_ends m k out i.core t g bytes h l) (rw h.left (omega arith))), omega arith)
      go false d =
          let l = le_from_not t.most (length bytes) d in
          accepted_by i t g a (piece true t.most i.core.number bytes) n _ p e r (last_heard i t g bytes h l) (
            h.reply,
            record {
              heeds = h.bounds.heeds;
              number = after_small i.core.number;
              expects = h.expects;
              no_chain = h.no_chain;
              no_left = rw (h.left, drop_all t.most bytes l) refl;
              all_sent = h.unsent ∙ not_lt t.most (length bytes) l;
              asks = (h.bounds.some, h.bounds.fits);
              answers = (h.bounds.some_back, h.bounds.fits_back);
              busy = rw h.bounds.asks h.bounds.few;
              times = (h.bounds.long, h.bounds.longest);
            },
          )

  -- the target asks for more time
  time_heard : (i : InitState) (times : ℕ) → i.core.drawing ≡ false → more_follows i.core ≡ false → 1 ≤ times → times ≤ longest_extension → i.core.granted < most_extensions
      → answered i (Extend true times) ≡ sends i (longer dep_ends m k out i.core times) Asked i.bads
  time_heard i times d f l1 l2 l3 =
      rw (f, d, lt-ltb 0 times (omega arith), not_lt longest_extension times l2, lt-ltb i.core.granted most_extensions l3) refl

  pub answered_at : (i : InitState) (t : TargetState) (g : Option (List ℕ)) (a : Signal) (n : ℕ) → Wait m k out i t g a n → (2 ≤ n) × AcceptedAt i t g a n
  answered_at i t g a n (stays_up p e q s l) = (
    omega arith,
    accepts_by i t g a n (sends i i.core Asked i.bads) (rw (p, e) refl) (q, asks refl refl s, l),
  )
  answered_at i t g a n (has p x e l (of_chain h b)) =
      let q : x ≡ Ack true i.core.number = (let y = h.last in cc) in
      let s = ack_heard dep_ends m k out i.core t g h in
      let z = pieces_drop i.core.most i.core.rest h.bounds.some h.more in (
        omega arith,
        accepted_by i t g a (Ack true i.core.number) n _ p (e ∙ ap air_frame q) h.number (acked_next i t g h)
            (2 * pieces i.core.most (drop i.core.most i.core.rest), asks refl refl (asking (omega arith) s (omega arith)), omega arith),
      )
  answered_at i t g a n (has p x e l (of_time z h b)) =
      let q : x ≡ Extend true t.times = (let y = h.last in cc) in
      let c = h.count in
      let f = h.bounds.few in
      let d = h.due in (
        omega arith,
        accepted_by i t g a (Extend true t.times) n _ p (e ∙ ap air_frame q) (h.bounds.long, h.bounds.longest)
            (time_heard i t.times h.sending h.no_more h.bounds.long h.bounds.longest (omega arith))
            (2 * (t.due + pieces t.most t.left) - 2, asks refl refl (granting z refl (time_granted dep_ends m k out i.core t g i.bads t.times h (inr refl)) (omega arith)), omega arith),
      )
  answered_at i t g a n (has p x e l (of_reply bytes h b)) =
      let q : x ≡ piece true t.most i.core.number bytes = (let y = h.last in cc) in
      (omega arith, reply_heard i t g a n bytes p (e ∙ ap air_frame q) h b)

  pub ask_left : (i : InitState) (t : TargetState) (g : Option (List ℕ)) (f : Signal) (n : ℕ) → Ask m k out i t g f n → 1 ≤ n
  ask_left i t g f n (asks p e (asking z h b)) = omega arith
  ask_left i t g f n (asks p e (drawing h b)) = omega arith
  ask_left i t g f n (asks p e (granting z w h b)) = (let d = h.due in omega arith)
  ask_left i t g f n (asks p e (held w h)) = held_left dep_ends m k out i.core t g n i.bads h
  ask_left i t g f n (asks p e (granted bytes w x h b)) = omega arith
  ask_left i t g f n (nacks p e h) = held_left dep_ends m k out i.core t g n i.bads h
  ask_left i t g f n (attends p e q s l) = omega arith
