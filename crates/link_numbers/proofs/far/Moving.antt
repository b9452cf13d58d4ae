-- Which move a target makes at each frame of an exchange.
use Rattle.std.proofs.Common.{◌≡◌, ℕ, nat_lt, Bool, true, false, List, ◌++◌, length, take, Option, Some, None, refl, ap, ◌∙◌, arith, take_all}
use Rattle.std.proofs.lemmas.Bool.{lt-ltb, ltb-true}
use Rattle.nfc_base.specs.Signal.{Signal}
use Rattle.dep_pdu.specs.declared.frame.DepFrame.{DepFrame}
use Rattle.dep_pdu.specs.declared.frame.DepFrame.TheVariants.{Ack, Nack, Attention, Extend}
use Rattle.dep_pdu.specs.Spelling.{IsDepFrame}
use Rattle.dep_link.specs.Sizes.{limit}
use Rattle.dep_link.specs.Frames.{air_frame, after, piece}
use Rattle.nfc_base.specs.Pieces.{Core}
use Rattle.dep_link.specs.Initiator.{InitState, asked, request}
use Rattle.nfc_base.proofs.Chains.{le_from_not, last_of, same, not_lt, chain_fits, Asking, Held, of_chain, of_reply, of_time}
use Rattle.dep_link.specs.Payloads.{Cut}
use Rattle.dep_link.specs.Replies.{taken_up}
use Rattle.dep_link.specs.Target.{TargetState, Answers, target_table, heeded, framed}
use Rattle.dep_link.proofs.Landing.{stands_heeds, is_request, request_again, nack_again, attention_answered}
use Rattle.dep_link.proofs.Standing.{dep_ends, not_after, after_small, Stands, asking, drawing, granting, held, granted, Ask, asks, nacks, attends}
use Rattle.dep_link.proofs.Wire.{target_heeds, is_piece}
use Rattle.link_numbers.proofs.far.Spoken as spoken
use Rattle.link_numbers.proofs.far.Spoken.{Speaks, none_said, some_said, all_said, Spoken, Kind, move_of, IsOld, Fits, InRange, cut_at, said_none}

-- The move that is made, and when.
abbrev pub Turn : TargetState → Option (List ℕ) → Signal → Type 0
Turn t g f = (k : Kind) × Fits t g k × (target_table t f ≡ framed (move_of t k))

turns_by : (t : TargetState) (g : Option (List ℕ)) (f : Signal) (v : DepFrame) (k : Kind) → f ≡ air_frame v → IsDepFrame v → heeded t v ≡ move_of t k → Fits t g k → Turn t g f
turns_by t g f v k e r q h = (k, h, ap (target_table t) e ∙ target_heeds t v r ∙ ap framed q)

-- which PNI comes next in the cut
next_none : (t : TargetState) (g : Option (List ℕ)) (past : List (List ℕ)) (U : Cut) → g ≡ None → Spoken t past g U → U.next ≡ t.expected
next_none t g past U e s = ap (λ (c : Cut). c.next) (said_none t past U g e s)

next_reply : (t : TargetState) (g : Option (List ℕ)) (past : List (List ℕ)) (U : Cut) → t.due ≡ 0 → Spoken t past g U → U.next ≡ t.expected
next_reply t None past U d s = ap (λ (c : Cut). c.next) s
next_reply t (Some r) past U d (none_said due unsent left is) = absurd (omega (arith, d, due))
next_reply t (Some r) past U d (some_said due unsent xs whole size rest is) = ap (λ (c : Cut). c.next) is
next_reply t (Some r) past U d (all_said due unsent left is) = ap (λ (c : Cut). c.next) is

old_ack : (U : Cut) (n e : ℕ) → U.next ≡ e → e ≡ after n → taken_up U (Ack true n) ≡ U
old_ack U n e h k = let q : U.next ≡ after n = h ∙ k in rw (q, not_after n) refl

old_piece : (U : Cut) (n e most : ℕ) (bytes : List ℕ) → U.next ≡ e → e ≡ after n → taken_up U (piece true most n bytes) ≡ U
old_piece U n e most bytes h k = let q : U.next ≡ after n = h ∙ k in rw (q, not_after n) refl

module _ (m k : ℕ) (out : List ℕ) where
  -- a target that has what the initiator asks said it before
  pub held_old : (c : Core) (t : TargetState) (g : Option (List ℕ)) (n bads : ℕ) (v : DepFrame) → Held dep_ends m k out c t g n bads → t.last ≡ Some v → IsDepFrame v × IsOld t g v
  held_old c t g n bads v (of_chain h l) e =
      let q : v ≡ Ack true c.number = (let y = h.last in cc) in
      rw q (h.number, λ past U s. old_ack U c.number t.expected (next_none t g past U h.none s) h.expects)
  held_old c t g n bads v (of_reply bytes h l) e =
      let q : v ≡ piece true t.most c.number bytes = (let y = h.last in cc) in
      rw q (is_piece true t.most c.number bytes h.number h.bounds.fits_back, λ past U s. old_piece U c.number t.expected t.most bytes (next_reply t g past U h.none_due s) h.expects)
  held_old c t g n bads v (of_time z h l) e =
      let q : v ≡ Extend true t.times = (let y = h.last in cc) in
      rw q ((h.bounds.long, h.bounds.longest), λ past U s. refl)

  again_turn : (c : Core) (t : TargetState) (g : Option (List ℕ)) (f : Signal) (n bads : ℕ) (v w : DepFrame) → Held dep_ends m k out c t g n bads → t.last ≡ Some v
      → f ≡ air_frame w → IsDepFrame w → heeded t w ≡ record { state = t; does = Answers v } → Turn t g f
  again_turn c t g f n bads v w h l e r q = turns_by t g f w (spoken.repeats v) e r q (let o = held_old c t g n bads v h l in (l, o.0, o.1))

  -- a piece of the payload comes
  asking_turn : (c : Core) (t : TargetState) (g : Option (List ℕ)) (f : Signal) → f ≡ air_frame (request c) → Asking dep_ends m k out c t g → Turn t g f
  asking_turn c t g f e h = go (nat_lt c.most (length c.rest)) refl
    where
      r : IsDepFrame (request c)
      r = is_request 0 m k out c h.plain h.number h.bounds.fits

      go : (d : Bool) → nat_lt c.most (length c.rest) ≡ d → Turn t g f
      go true d =
          turns_by t g f (request c) (spoken.chains (t.chain ++ take c.most c.rest)) e r
          (let fits : nat_lt limit (length (t.chain ++ take c.most c.rest)) ≡ false =
          not_lt limit (length (t.chain ++ take c.most c.rest)) (chain_fits limit t.chain c.rest out c.most h.joins h.bounds.short) in
          rw (h.plain, h.sending, h.bounds.heeds, h.expects, same c.number, d, fits) refl) h.none
      go false d =
          let w : t.chain ++ take c.most c.rest ≡ out = rw (take_all c.most c.rest (le_from_not c.most (length c.rest) d)) h.joins in
          turns_by t g f (request c) (spoken.hands out) e r
          (rw (h.plain, h.sending, h.bounds.heeds, h.expects, same c.number, d, w, not_lt limit (length out) h.bounds.short) refl) h.none

  request_turn : (c : Core) (bads : ℕ) (t : TargetState) (g : Option (List ℕ)) (f : Signal) (n : ℕ) → f ≡ air_frame (request c) → Stands m k out c bads t g n → Turn t g f
  request_turn c bads t g f n e (asking z h b) = asking_turn c t g f e h
  request_turn c bads t g f n e (drawing h b) =
      turns_by t g f (request c) spoken.draws e (is_request 0 m k out c h.plain h.number h.bounds.fits)
      (rw (h.plain, h.receiving, h.bounds.heeds, h.expects, same c.number, h.none_due, h.unsent) refl) (h.none_due, h.unsent, (c.got ++ t.left, h.reply))
  request_turn c bads t g f n e (held w h) =
      let a = last_of dep_ends m k out c t g n bads h in
      again_turn c t g f n bads a.value (request c) h a.last e (is_request 0 m k out c w a.number a.fits) (request_again 0 m k out c t a.value a.heeds w a.expects a.last)
  request_turn c bads t g f n e (granting z w h b) = go (nat_lt 1 t.due) refl
    where
      y : f ≡ air_frame (Extend false t.times)
      y = e ∙ ap (λ (o : Option ℕ). air_frame (asked c o)) w

      r : IsDepFrame (Extend false t.times)
      r = (h.bounds.long, h.bounds.longest)

      go : (d : Bool) → nat_lt 1 t.due ≡ d → Turn t g f
      go true d = turns_by t g f (Extend false t.times) spoken.asks_again y r (rw (h.bounds.heeds, lt-ltb 0 t.due h.due, same t.times, d) refl) (ltb-true 1 t.due d)
      go false d =
          turns_by t g f (Extend false t.times) spoken.has_time y r (rw (h.bounds.heeds, lt-ltb 0 t.due h.due, same t.times, d) refl) (h.due, le_from_not 1 t.due d, (t.left, h.reply))
  request_turn c bads t g f n e (granted bytes w x h b) =
      again_turn c t g f n bads (piece true t.most c.number bytes) (Extend false t.times) (of_reply bytes h b) h.last
      (e ∙ ap (λ (o : Option ℕ). air_frame (asked c o)) w) (h.bounds.long, h.bounds.longest) (rw (h.bounds.heeds, h.none_due, x, h.last) refl)

  -- the move at the frame that is due
  pub turn_at : (i : InitState) (t : TargetState) (g : Option (List ℕ)) (f : Signal) (n : ℕ) → Ask m k out i t g f n → Turn t g f
  turn_at i t g f n (asks p e s) = request_turn i.core i.bads t g f n e s
  turn_at i t g f n (nacks p e h) =
      let a = last_of dep_ends m k out i.core t g n i.bads h in
      again_turn i.core t g f n i.bads a.value (Nack i.core.number) h a.last e a.number (nack_again 0 m k out i.core t a.value a.heeds a.expects a.last)
  turn_at i t g f n (attends p e q s l) =
      turns_by t g f (Attention false) spoken.attends e tt (attention_answered 0 m k out t (stands_heeds 0 m k out i.core i.bads t g q s)) tt

  -- what stays in range
  held_range : (c : Core) (t : TargetState) (g : Option (List ℕ)) (n bads : ℕ) → Held dep_ends m k out c t g n bads → InRange t
  held_range c t g n bads (of_chain h l) =
      record { number = rw h.expects (after_small c.number); some = h.bounds.some_back; most_fits = h.bounds.fits_back; asks = h.bounds.long; longest = h.bounds.longest }
  held_range c t g n bads (of_reply bytes h l) =
      record { number = rw h.expects (after_small c.number); some = h.bounds.some_back; most_fits = h.bounds.fits_back; asks = h.bounds.long; longest = h.bounds.longest }
  held_range c t g n bads (of_time z h l) =
      record { number = rw h.expects (after_small c.number); some = h.bounds.some_back; most_fits = h.bounds.fits_back; asks = h.bounds.long; longest = h.bounds.longest }

  stands_range : (c : Core) (bads : ℕ) (t : TargetState) (g : Option (List ℕ)) (n : ℕ) → Stands m k out c bads t g n → InRange t
  stands_range c bads t g n (asking z h b) =
      record { number = rw h.expects h.number; some = h.bounds.some_back; most_fits = h.bounds.fits_back; asks = h.bounds.long; longest = h.bounds.longest }
  stands_range c bads t g n (drawing h b) =
      record { number = rw h.expects h.number; some = h.bounds.some_back; most_fits = h.bounds.fits_back; asks = h.bounds.long; longest = h.bounds.longest }
  stands_range c bads t g n (held w h) = held_range c t g n bads h
  stands_range c bads t g n (granting z w h b) =
      record { number = rw h.expects (after_small c.number); some = h.bounds.some_back; most_fits = h.bounds.fits_back; asks = h.bounds.long; longest = h.bounds.longest }
  stands_range c bads t g n (granted bytes w x h b) =
      record { number = rw h.expects (after_small c.number); some = h.bounds.some_back; most_fits = h.bounds.fits_back; asks = h.bounds.long; longest = h.bounds.longest }

  pub range_at : (i : InitState) (t : TargetState) (g : Option (List ℕ)) (f : Signal) (n : ℕ) → Ask m k out i t g f n → InRange t
  range_at i t g f n (asks p e s) = stands_range i.core i.bads t g n s
  range_at i t g f n (nacks p e h) = held_range i.core t g n i.bads h
  range_at i t g f n (attends p e q s l) = stands_range i.core i.bads t g q s
