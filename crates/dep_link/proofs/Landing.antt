-- The target at the initiator's frames, while an exchange is under way: it answers what it has, takes the next piece, or hands the
-- whole payload over for the first time.
use Rattle.std.proofs.Common.{◌≡◌, ℕ, ◌+◌, ◌-◌, ◌*◌, ◌<◌, ◌≤◌, nat_lt, Bool, true, false, List, [], ◌∷◌, ◌++◌, length, take, drop, Option, Some, None, inl, inr, refl, sym, ◌∙◌, ap, subst, arith}
use Rattle.std.proofs.Common.{take_all}
use Rattle.std.proofs.lemmas.Bool.{lt-ltb, ltb-true}
use Rattle.nfc_base.specs.Signal.{Signal}
use Rattle.nfc_base.specs.StopAndWait.{Quiet, Deliver}
use Rattle.nfc_base.specs.StopAndWait as steps
use Rattle.nfc_base.proofs.ExactlyOnce.{Lands, Tallies}
use Rattle.dep_pdu.specs.declared.frame.DepFrame.{DepFrame}
use Rattle.dep_pdu.specs.declared.frame.DepFrame.TheVariants.{Ack, Nack, Attention, Extend}
use Rattle.dep_pdu.specs.Spelling.{IsDepFrame}
use Rattle.dep_link.specs.declared.initiator.Phase.TheVariants.{Asked}
use Rattle.dep_link.specs.Sizes.{limit}
use Rattle.dep_link.specs.Frames.{air_frame, after, before, piece}
use Rattle.dep_link.specs.Target.{TargetState, TargetMove, TargetTurn, Does, Stays, Answers, Begins, Delivers, Sleeps, Frees, framed, framed_does, target_table, heeded, first_piece, replied}
use Rattle.dep_link.specs.Target.{reply_frame}
use Rattle.nfc_base.specs.Pieces.{Core, most_bads, pieces}
use Rattle.dep_link.specs.Initiator.{InitState, asked, request}
use Rattle.dep_link.specs.Payloads.{taken}
use Rattle.dep_link.specs.Exchange.{nfc_dep, target_does, IsCut}
use Rattle.dep_link.proofs.Wire.{target_heeds, is_piece, cut_of, cuts_on, cuts_same}
use Rattle.nfc_base.proofs.Chains.{same, not_lt, le_from_not, chain_fits, Asking, Drawing, Acked, Answered, Extending, of_chain, of_reply, of_time, last_of, piece_taken, time_asked, first_sent}
use Rattle.nfc_base.proofs.Chains.{reply_drawn, time_again, time_over, more, Fits}
use Rattle.dep_link.proofs.Standing.{not_after, before_after, dep_ends, Stands, asking, drawing, granting, held, granted, HasAsked, Ask, asks, nacks, attends, Wait, has, stays_up}

module _ (first m k : ℕ) (out : List ℕ) where
  -- the initiator's frame f lands, at which the target makes that move
  abbrev Landed : InitState → TargetState → Option (List ℕ) → Signal → ℕ → TargetMove → Type 0
  Landed i t g f n x =
      Lands (nfc_dep first) out (Ask m k out) (Wait m k out) (more dep_ends m k out) (Fits dep_ends m k out) (IsCut first) i t g f n x.state (target_does (framed_does x.does))

  abbrev LandsAt : InitState → TargetState → Option (List ℕ) → Signal → ℕ → Type 0
  LandsAt i t g f n =
      Lands (nfc_dep first) out (Ask m k out) (Wait m k out) (more dep_ends m k out) (Fits dep_ends m k out) (IsCut first) i t g f n ((nfc_dep first).heard t f) ((nfc_dep first).does t f)

  lands_by : (i : InitState) (t : TargetState) (g : Option (List ℕ)) (f : Signal) (v : DepFrame) (n : ℕ) (x : TargetMove)
      → f ≡ air_frame v → IsDepFrame v → heeded t v ≡ x → Landed i t g f n x → LandsAt i t g f n
  lands_by i t g f v n x e r q l =
      let z : target_table t f ≡ framed x = ap (target_table t) e ∙ target_heeds t v r ∙ ap framed q in
      subst (λ (y : TargetTurn). Lands (nfc_dep first) out (Ask m k out) (Wait m k out) (more dep_ends m k out) (Fits dep_ends m k out) (IsCut first) i t g f n y.state (target_does y.does)) (sym z) l

  -- the target takes a piece that isn't the last
  abbrev took : TargetState → Core → TargetState
  took t c =
      record t { expected = after t.expected; last = Some (Ack true c.number); chain = t.chain ++ take c.most c.rest; due = 0; followed = false }

  -- it hands the payload over
  abbrev handing : TargetState → TargetState
  handing t = record t { expected = after t.expected; last = None; chain = []; due = 0; followed = false }

  -- it sends the next piece of its reply
  abbrev drew : TargetState → Core → TargetState
  drew t c =
      record t { expected = after t.expected; last = Some (piece true t.most c.number t.left); left = drop t.most t.left; unsent = nat_lt t.most (length t.left); followed = false }

  takes : (c : Core) (t : TargetState) (g : Option (List ℕ)) → Asking dep_ends m k out c t g → c.most < length c.rest
      → (heeded t (request c) ≡ record { state = took t c; does = Answers (Ack true c.number) }) × Acked dep_ends m k out c (took t c) g
  takes c t g h l = (
    rw (
      h.plain,
      h.sending,
      h.bounds.heeds,
      h.expects,
      same c.number,
      lt-ltb c.most (length c.rest) l,
      not_lt limit (length (t.chain ++ take c.most c.rest)) (chain_fits limit t.chain c.rest out c.most h.joins h.bounds.short),
    ) refl,
    piece_taken dep_ends m k out c t (took t c) g (ap after h.expects) h l refl,
  )

  handed_over : (c : Core) (t : TargetState) (g : Option (List ℕ)) → Asking dep_ends m k out c t g → length c.rest ≤ c.most
      → (heeded t (request c) ≡ record { state = handing t; does = Delivers out }) × (t.chain ++ take c.most c.rest ≡ out)
  handed_over c t g h l =
      let w : t.chain ++ take c.most c.rest ≡ out = rw (take_all c.most c.rest l) h.joins in
      (rw (h.plain, h.sending, h.bounds.heeds, h.expects, same c.number, not_lt c.most (length c.rest) l, w, not_lt limit (length out) h.bounds.short) refl, w)

  -- The owner replied, and the target asks for more time first or doesn't.
  abbrev asking_time : TargetState → List ℕ → TargetState
  asking_time t r = record (handing t) { last = Some (Extend true t.times); left = r; unsent = true; due = t.busy; followed = false }

  abbrev sending_first : TargetState → List ℕ → TargetState
  sending_first t r =
      record (handing t) { last = Some (piece true t.most (before (after t.expected)) r); left = drop t.most r; unsent = nat_lt t.most (length r); due = 0; followed = false }

  first_piece_sent : (c : Core) (t : TargetState) (g : Option (List ℕ)) → Asking dep_ends m k out c t g → length c.rest ≤ c.most
      → (r : List ℕ) → length r ≤ limit → Answered dep_ends m k out c (sending_first t r) (Some r) r
  first_piece_sent c t g h l r f =
      let w : before (after t.expected) ≡ c.number = rw h.expects (before_after c.number h.number) in
      first_sent dep_ends m k out c t (sending_first t r) g (ap after h.expects) r h l f (inl h.plain) (rw w refl)

  replies : (i : InitState) (t : TargetState) (g : Option (List ℕ)) (n : ℕ) → i.bads ≤ most_bads → HasAsked m k out i → Asking dep_ends m k out i.core t g
      → length i.core.rest ≤ i.core.most → 2 ≤ n → (r : List ℕ) → length r ≤ limit
      → Wait m k out i (replied (handing t) r) (Some r) (air_frame (reply_frame (handing t) r)) (n + 2 * more dep_ends m k out r)
  replies i t g n z p h l nn r f = go (nat_lt 0 t.busy) refl
    where
      Waits : TargetState → DepFrame → Type 0
      Waits x v = Wait m k out i x (Some r) (air_frame v) (n + 2 * more dep_ends m k out r)

      go : (b : Bool) → nat_lt 0 t.busy ≡ b → Waits (replied (handing t) r) (reply_frame (handing t) r)
      go true b =
          let q : replied (handing t) r ≡ asking_time t r = rw b refl in
          let u : reply_frame (handing t) r ≡ Extend true t.times = rw b refl in
          let e = time_asked dep_ends m k out i.core t (asking_time t r) g (ap after h.expects) r i.bads h l (ltb-true 0 t.busy b) f (inl h.plain) refl in
          let w : Waits (asking_time t r) (Extend true t.times) =
          has p (Extend true t.times) refl refl (of_time z e (rw (h.bounds.asks, h.bounds.sizes) (omega arith))) in
          subst (λ (x : TargetState). Waits x (reply_frame (handing t) r)) (sym q) (subst (λ (v : DepFrame). Waits (asking_time t r) v) (sym u) w)
      go false b =
          let q : replied (handing t) r ≡ sending_first t r = rw b refl in
          let u : reply_frame (handing t) r ≡ piece true t.most (before (after t.expected)) r = rw b refl in
          let w : Waits (sending_first t r) (piece true t.most (before (after t.expected)) r) =
          has p (piece true t.most (before (after t.expected)) r) refl refl (of_reply r (first_piece_sent i.core t g h l r f) (rw h.bounds.sizes (omega arith))) in
          subst (λ (x : TargetState). Waits x (reply_frame (handing t) r)) (sym q) (subst (λ (v : DepFrame). Waits (sending_first t r) v) (sym u) w)

  draws_on : (c : Core) (t : TargetState) (g : Option (List ℕ)) → Drawing dep_ends m k out c t g
      → (heeded t (request c) ≡ record { state = drew t c; does = Answers (piece true t.most c.number t.left) }) × Answered dep_ends m k out c (drew t c) g t.left
  draws_on c t g h = (
    rw (h.plain, h.receiving, h.bounds.heeds, h.expects, same c.number, h.none_due, h.unsent) refl,
    reply_drawn dep_ends m k out c t (drew t c) g (ap after h.expects) h (inl h.plain) refl,
  )

  -- the time is granted, and the target asks again, or sends its reply
  abbrev given_time : TargetState → TargetState
  given_time t = record t { due = 0; last = Some (first_piece t t.left); left = drop t.most t.left; unsent = nat_lt t.most (length t.left); followed = true }

  asks_again : (t : TargetState) → t.mute ≡ false → 0 < t.due → 1 < t.due
      → heeded t (Extend false t.times) ≡ record { state = record t { due = t.due - 1 }; does = Answers (Extend true t.times) }
  asks_again t e l p = rw (e, lt-ltb 0 t.due l, same t.times, lt-ltb 1 t.due p) refl

  has_time : (t : TargetState) → t.mute ≡ false → 0 < t.due → t.due ≤ 1
      → heeded t (Extend false t.times) ≡ record { state = given_time t; does = Answers (first_piece t t.left) }
  has_time t e l p = rw (e, lt-ltb 0 t.due l, same t.times, not_lt 1 t.due p) refl

  reply_again : (t : TargetState) (v : DepFrame) → t.mute ≡ false → t.due ≡ 0 → t.followed ≡ true → t.last ≡ Some v
      → heeded t (Extend false t.times) ≡ record { state = t; does = Answers v }
  reply_again t v e d f l = rw (e, d, f, l) refl

  pub request_again : (c : Core) (t : TargetState) (v : DepFrame) → t.mute ≡ false → c.extension ≡ None → t.expected ≡ after c.number → t.last ≡ Some v
      → heeded t (request c) ≡ record { state = t; does = Answers v }
  request_again c t v e1 e0 e2 e3 = go c.drawing refl
    where
      go : (d : Bool) → c.drawing ≡ d → heeded t (request c) ≡ record { state = t; does = Answers v }
      go true d = rw (e0, d, e1, e2, not_after c.number, same (after c.number), e3) refl
      go false d = rw (e0, d, e1, e2, not_after c.number, same (after c.number), e3) refl

  pub nack_again : (c : Core) (t : TargetState) (v : DepFrame) → t.mute ≡ false → t.expected ≡ after c.number → t.last ≡ Some v
      → heeded t (Nack c.number) ≡ record { state = t; does = Answers v }
  nack_again c t v e1 e2 e3 = rw (e1, e2, same (after c.number), e3) refl

  pub attention_answered : (t : TargetState) → t.mute ≡ false → heeded t (Attention false) ≡ record { state = t; does = Answers (Attention true) }
  attention_answered t e = rw e refl

  -- the initiator's request is in range, and so is an extension that it grants
  pub is_request : (c : Core) → c.extension ≡ None → c.number < 4 → c.most ≤ 251 → IsDepFrame (request c)
  is_request c z p q = go c.drawing refl
    where
      go : (d : Bool) → c.drawing ≡ d → IsDepFrame (request c)
      go true e = rw (z, e) p
      go false e = rw (z, e) (is_piece false c.most c.number c.rest p q)

  -- what a frame brings
  same_cut : (c : Core) (t : TargetState) (ps : List (List ℕ)) → c.extension ≡ None → t.expected ≡ after c.number → taken (cut_of t ps) (request c) ≡ cut_of t ps
  same_cut c t ps z e = go c.drawing refl
    where
      go : (d : Bool) → c.drawing ≡ d → taken (cut_of t ps) (request c) ≡ cut_of t ps
      go true d = rw (z, d, e, not_after c.number) refl
      go false d = rw (z, d, e, not_after c.number) refl

  chained_cut : (c : Core) (t : TargetState) (g : Option (List ℕ)) (ps : List (List ℕ)) → Asking dep_ends m k out c t g → nat_lt c.most (length c.rest) ≡ true
      → taken (cut_of t ps) (request c) ≡ cut_of (took t c) ps
  chained_cut c t g ps h d = rw (h.plain, h.sending, d, h.expects, same c.number) refl

  last_cut : (c : Core) (t : TargetState) (g : Option (List ℕ)) (r : List ℕ) (ps : List (List ℕ)) → Asking dep_ends m k out c t g → nat_lt c.most (length c.rest) ≡ false
      → t.chain ++ take c.most c.rest ≡ out → taken (cut_of t ps) (request c) ≡ cut_of (replied (handing t) r) (ps ++ out ∷ [])
  last_cut c t g r ps h d w = go (nat_lt 0 t.busy) refl
    where
      go : (b : Bool) → nat_lt 0 t.busy ≡ b → taken (cut_of t ps) (request c) ≡ cut_of (replied (handing t) r) (ps ++ out ∷ [])
      go true b = rw (h.plain, h.sending, d, h.expects, same c.number, w, b) refl
      go false b = rw (h.plain, h.sending, d, h.expects, same c.number, w, b) refl

  drawn_cut : (c : Core) (t : TargetState) (g : Option (List ℕ)) (ps : List (List ℕ)) → Drawing dep_ends m k out c t g → taken (cut_of t ps) (request c) ≡ cut_of (drew t c) ps
  drawn_cut c t g ps h = rw (h.plain, h.receiving, h.expects, same c.number) refl

  -- an extension that is granted
  is_extension : (c : Core) (t : TargetState) (f : Signal) → c.extension ≡ Some t.times → f ≡ air_frame (request c) → f ≡ air_frame (Extend false t.times)
  is_extension c t f w e = e ∙ ap (λ (o : Option ℕ). air_frame (asked c o)) w

  time_lands : (i : InitState) (t : TargetState) (g : Option (List ℕ)) (f : Signal) (n : ℕ) → i.phase ≡ Asked → f ≡ air_frame (Extend false t.times)
      → i.bads ≤ most_bads → i.core.extension ≡ Some t.times → Extending dep_ends m k out i.core t g (i.bads + 1) → 2 * (t.due + pieces t.most t.left) ≤ n + 2 → LandsAt i t g f n
  time_lands i t g f n p y z w h b = go (nat_lt 1 t.due) refl
    where
      r : IsDepFrame (Extend false t.times)
      r = (h.bounds.long, h.bounds.longest)

      go : (d : Bool) → nat_lt 1 t.due ≡ d → LandsAt i t g f n
      go true d =
          let l = ltb-true 1 t.due d in
          let e = time_again dep_ends m k out i.core t (record t { due = t.due - 1 }) g h.expects i.bads h l (inr w) refl in
          lands_by i t g f (Extend false t.times) n _ y r (asks_again t h.bounds.heeds h.due l) (
            has (inl p) (Extend true t.times) refl h.last (of_time z e (omega arith)),
            cuts_same first t (record t { due = t.due - 1 }) f (Extend false t.times) y r (λ ps. refl),
          )
      go false d =
          let l = le_from_not 1 t.due d in
          let v : before t.expected ≡ i.core.number = rw h.expects (before_after i.core.number h.number) in
          let e = time_over dep_ends m k out i.core t (given_time t) g h.expects (i.bads + 1) h (inr (w, refl)) (rw v refl) in
          lands_by i t g f (Extend false t.times) n _ y r (has_time t h.bounds.heeds h.due l) (
            has (inl p) (first_piece t t.left) refl refl (of_reply t.left e (let a = h.due in omega arith)),
            cuts_same first t (given_time t) f (Extend false t.times) y r (λ ps. refl),
          )

  request_lands : (i : InitState) (t : TargetState) (g : Option (List ℕ)) (f : Signal) (n : ℕ) → i.phase ≡ Asked → f ≡ air_frame (request i.core)
      → Stands m k out i.core i.bads t g n → LandsAt i t g f n
  request_lands i t g f n p e (asking z h b) = go (nat_lt i.core.most (length i.core.rest)) refl
    where
      r : IsDepFrame (request i.core)
      r = is_request i.core h.plain h.number h.bounds.fits

      go : (d : Bool) → nat_lt i.core.most (length i.core.rest) ≡ d → LandsAt i t g f n
      go true d =
          let q = takes i.core t g h (ltb-true i.core.most (length i.core.rest) d) in
          lands_by i t g f (request i.core) n _ e r q.0 (
            has (inl p) (Ack true i.core.number) refl refl (of_chain q.1 b),
            cuts_same first t (took t i.core) f (request i.core) e r (λ ps. chained_cut i.core t g ps h d),
          )
      go false d =
          let l = le_from_not i.core.most (length i.core.rest) d in
          let q = handed_over i.core t g h l in
          lands_by i t g f (request i.core) n _ e r q.0 (
            refl,
            h.none,
            λ x s. (
              replies i t g n z (inl p) h l (omega arith) x s,
              cuts_on first t (replied (handing t) x) f (request i.core) (out ∷ []) e r (λ ps. last_cut i.core t g x ps h d q.1),
            ),
          )
  request_lands i t g f n p e (drawing h b) =
      let q = draws_on i.core t g h in
      let r = is_request i.core h.plain h.number h.bounds.fits in
      lands_by i t g f (request i.core) n _ e r q.0 (
        has (inl p) (piece true t.most i.core.number t.left) refl refl (of_reply t.left q.1 b),
        cuts_same first t (drew t i.core) f (request i.core) e r (λ ps. drawn_cut i.core t g ps h),
      )
  request_lands i t g f n p e (held w h) =
      let a = last_of dep_ends m k out i.core t g n i.bads h in
      let r = is_request i.core w a.number a.fits in
      lands_by i t g f (request i.core) n (record { state = t; does = Answers a.value }) e r (request_again i.core t a.value a.heeds w a.expects a.last)
      (has (inl p) a.value refl a.last h, cuts_same first t t f (request i.core) e r (λ ps. same_cut i.core t ps w a.expects))
  request_lands i t g f n p e (granting z w h b) = time_lands i t g f n p (is_extension i.core t f w e) z w h b
  request_lands i t g f n p e (granted bytes w x h b) =
      let y = is_extension i.core t f w e in
      let r : IsDepFrame (Extend false t.times) = (h.bounds.long, h.bounds.longest) in
      lands_by i t g f (Extend false t.times) n (record { state = t; does = Answers (piece true t.most i.core.number bytes) }) y r
      (reply_again t (piece true t.most i.core.number bytes) h.bounds.heeds h.none_due x h.last)
      (has (inl p) (piece true t.most i.core.number bytes) refl h.last (of_reply bytes h b), cuts_same first t t f (Extend false t.times) y r (λ ps. refl))

  pub stands_heeds : (c : Core) (bads : ℕ) (t : TargetState) (g : Option (List ℕ)) (n : ℕ) → Stands m k out c bads t g n → t.mute ≡ false
  stands_heeds c bads t g n (asking z h b) = h.bounds.heeds
  stands_heeds c bads t g n (drawing h b) = h.bounds.heeds
  stands_heeds c bads t g n (held w h) = (last_of dep_ends m k out c t g n bads h).heeds
  stands_heeds c bads t g n (granting z w h b) = h.bounds.heeds
  stands_heeds c bads t g n (granted bytes w x h b) = h.bounds.heeds

  pub lands_at : (i : InitState) (t : TargetState) (g : Option (List ℕ)) (f : Signal) (n : ℕ) → Ask m k out i t g f n → LandsAt i t g f n
  lands_at i t g f n (asks p e s) = request_lands i t g f n p e s
  lands_at i t g f n (nacks p e h) =
      let a = last_of dep_ends m k out i.core t g n i.bads h in
      lands_by i t g f (Nack i.core.number) n (record { state = t; does = Answers a.value }) e a.number (nack_again i.core t a.value a.heeds a.expects a.last)
      (has (inr p) a.value refl a.last h, cuts_same first t t f (Nack i.core.number) e a.number (λ ps. refl))
  lands_at i t g f n (attends p e q s l) =
      lands_by i t g f (Attention false) n (record { state = t; does = Answers (Attention true) }) e tt (attention_answered t (stands_heeds i.core i.bads t g q s))
      (stays_up p refl q s l, cuts_same first t t f (Attention false) e tt (λ ps. refl))

  -- a target at such a frame isn't silent
  abbrev Says : Does → Type 0
  Says Stays = ⊥
  Says (Answers v) = Unit {0}
  Says (Begins general v) = Unit {0}
  Says (Delivers xs) = Unit {0}
  Says (Sleeps v) = Unit {0}
  Says (Frees v) = Unit {0}

  not_quiet : (d : Does) → Says d → target_does (framed_does d) ≡ Quiet → ⊥
  not_quiet Stays s e = s
  not_quiet (Answers v) s e = absurd (cc)
  not_quiet (Begins general v) s e = absurd (cc)
  not_quiet (Delivers xs) s e = absurd (cc)
  not_quiet (Sleeps v) s e = absurd (cc)
  not_quiet (Frees v) s e = absurd (cc)

  speaks_by : (t : TargetState) (f : Signal) (v : DepFrame) (x : TargetMove) → f ≡ air_frame v → IsDepFrame v → heeded t v ≡ x → Says x.does → (nfc_dep first).does t f ≡ Quiet → ⊥
  speaks_by t f v x e r q s n =
      let z : target_table t f ≡ framed x = ap (target_table t) e ∙ target_heeds t v r ∙ ap framed q in
      not_quiet x.does s (sym (ap (λ (y : TargetTurn). target_does y.does) z) ∙ n)

  abbrev Speaks : TargetState → Signal → Type 0
  Speaks t f = (nfc_dep first).does t f ≡ Quiet → ⊥

  request_speaks : (i : InitState) (t : TargetState) (g : Option (List ℕ)) (f : Signal) (n : ℕ) → f ≡ air_frame (request i.core) → Stands m k out i.core i.bads t g n → Speaks t f
  request_speaks i t g f n e (asking z h b) = go (nat_lt i.core.most (length i.core.rest)) refl
    where
      r : IsDepFrame (request i.core)
      r = is_request i.core h.plain h.number h.bounds.fits

      go : (d : Bool) → nat_lt i.core.most (length i.core.rest) ≡ d → Speaks t f
      go true d = speaks_by t f (request i.core) _ e r (takes i.core t g h (ltb-true i.core.most (length i.core.rest) d)).0 tt
      go false d = speaks_by t f (request i.core) _ e r (handed_over i.core t g h (le_from_not i.core.most (length i.core.rest) d)).0 tt
  request_speaks i t g f n e (drawing h b) = speaks_by t f (request i.core) _ e (is_request i.core h.plain h.number h.bounds.fits) (draws_on i.core t g h).0 tt
  request_speaks i t g f n e (held w h) =
      let a = last_of dep_ends m k out i.core t g n i.bads h in
      speaks_by t f (request i.core) (record { state = t; does = Answers a.value }) e (is_request i.core w a.number a.fits) (request_again i.core t a.value a.heeds w a.expects a.last) tt
  request_speaks i t g f n e (granting z w h b) = go (nat_lt 1 t.due) refl
    where
      r : IsDepFrame (Extend false t.times)
      r = (h.bounds.long, h.bounds.longest)

      go : (d : Bool) → nat_lt 1 t.due ≡ d → Speaks t f
      go true d = speaks_by t f (Extend false t.times) _ (is_extension i.core t f w e) r (asks_again t h.bounds.heeds h.due (ltb-true 1 t.due d)) tt
      go false d = speaks_by t f (Extend false t.times) _ (is_extension i.core t f w e) r (has_time t h.bounds.heeds h.due (le_from_not 1 t.due d)) tt
  request_speaks i t g f n e (granted bytes w x h b) =
      speaks_by t f (Extend false t.times) (record { state = t; does = Answers (piece true t.most i.core.number bytes) }) (is_extension i.core t f w e) (h.bounds.long, h.bounds.longest)
      (reply_again t (piece true t.most i.core.number bytes) h.bounds.heeds h.none_due x h.last) tt

  pub speaks_at : (i : InitState) (t : TargetState) (g : Option (List ℕ)) (f : Signal) (n : ℕ) → Ask m k out i t g f n → (nfc_dep first).does t f ≡ Quiet → ⊥
  speaks_at i t g f n (asks p e s) = request_speaks i t g f n e s
  speaks_at i t g f n (nacks p e h) =
      let a = last_of dep_ends m k out i.core t g n i.bads h in
      speaks_by t f (Nack i.core.number) (record { state = t; does = Answers a.value }) e a.number (nack_again i.core t a.value a.heeds a.expects a.last) tt
  speaks_at i t g f n (attends p e q s l) =
      speaks_by t f (Attention false) (record { state = t; does = Answers (Attention true) }) e tt (attention_answered t (stands_heeds i.core i.bads t g q s)) tt

  -- where a payload is handed over it is the one of the exchange, for the first time
  pub hands_at : (i : InitState) (t : TargetState) (g : Option (List ℕ)) (f : Signal) (n : ℕ) → Ask m k out i t g f n → (xs : List ℕ) → (nfc_dep first).does t f ≡ Deliver xs
      → (xs ≡ out) × (g ≡ None) × (Tallies (nfc_dep first) (IsCut first) t f (replied ((nfc_dep first).heard t f) []) (xs ∷ []))
  hands_at i t g f n a xs e =
      let d = subst (λ (y : steps.Does Signal). Lands (nfc_dep first) out (Ask m k out) (Wait m k out) (more dep_ends m k out) (Fits dep_ends m k out) (IsCut first) i t g f n
      ((nfc_dep first).heard t f) y) e (lands_at i t g f n a) in
      (d.0, d.1, (d.2 [] (omega arith)).1)
