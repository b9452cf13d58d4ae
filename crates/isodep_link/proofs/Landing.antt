-- The card at the reader's frames, while an exchange is under way: it answers what it has, takes the next piece, or obeys the
-- whole command for the first time.
use Rattle.std.proofs.Common.{◌≡◌, ℕ, ◌+◌, ◌-◌, ◌*◌, ◌<◌, ◌≤◌, nat_lt, Bool, true, false, List, [], ◌∷◌, ◌++◌, length, take, drop, Option, Some, None, inl, inr, refl, sym, ◌∙◌, ap, subst, arith}
use Rattle.std.proofs.Common.{take_all}
use Rattle.std.proofs.lemmas.Bool.{lt-ltb, ltb-true}
use Rattle.nfc_base.specs.Signal.{Signal}
use Rattle.nfc_base.specs.StopAndWait.{Quiet}
use Rattle.nfc_base.proofs.ExactlyOnce.{Lands}
use Rattle.isodep_link.specs.declared.block.Block.{Block}
use Rattle.isodep_link.specs.declared.block.Block.TheVariants.{Ack, Nak, Extend}
use Rattle.isodep_link.specs.declared.reader.Phase.TheVariants.{Asked}
use Rattle.isodep_link.specs.Blocks.{toggled, IsBlock, block_frame, piece}
use Rattle.isodep_link.specs.Sizes.{limit}
use Rattle.isodep_link.specs.Card.{CardState, CardMove, CardTurn, Answers, Delivers, framed, framed_does, card_table, block_table, replied, reply_block}
use Rattle.nfc_base.specs.Pieces.{Core, most_bads, pieces}
use Rattle.isodep_link.specs.Reader.{ReaderState, request, asked}
use Rattle.isodep_link.specs.Commands.{taken}
use Rattle.isodep_link.specs.Exchange.{iso_dep, card_does, IsCut}
use Rattle.isodep_link.proofs.Wire.{card_heeds, is_piece, cut_of, cuts_on, cuts_same}
use Rattle.nfc_base.proofs.Chains.{same, not_lt, le_from_not, chain_fits, Asking, Drawing, Acked, Answered, Extending, of_chain, of_reply, of_time, last_of, piece_taken, time_asked, first_sent}
use Rattle.nfc_base.proofs.Chains.{reply_drawn, time_again, time_over, more, Fits}
use Rattle.isodep_link.proofs.Standing.{not_toggled, toggled_twice, iso_ends, Ask, asks, draws, draws_again, naks, naks_held, grants, IsLive, Wait, has, misses}

module _ (m k : ℕ) (out : List ℕ) where
  -- the reader's frame f lands, at which the card makes that move
  abbrev Landed : ReaderState → CardState → Option (List ℕ) → Signal → ℕ → CardMove → Type 0
  Landed i t g f n x = Lands iso_dep out (Ask m k out) (Wait m k out) (more iso_ends m k out) (Fits iso_ends m k out) IsCut i t g f n x.state (card_does (framed_does x.does))

  lands_by : (i : ReaderState) (t : CardState) (g : Option (List ℕ)) (f : Signal) (b : Block) (n : ℕ) (x : CardMove)
      → f ≡ block_frame b → t.mute ≡ false → IsBlock b → block_table t b ≡ x → Landed i t g f n x
      → Lands iso_dep out (Ask m k out) (Wait m k out) (more iso_ends m k out) (Fits iso_ends m k out) IsCut i t g f n (iso_dep.heard t f) (iso_dep.does t f)
  lands_by i t g f b n x e h r q l =
      let y : card_table t f ≡ framed x = ap (card_table t) e ∙ card_heeds t b h r ∙ ap framed q in
      subst (λ (z : CardTurn). Lands iso_dep out (Ask m k out) (Wait m k out) (more iso_ends m k out) (Fits iso_ends m k out) IsCut i t g f n z.state (card_does z.does)) (sym y) l

  -- the card takes a piece that isn't the last
  abbrev took : CardState → Core → CardState
  took t c = record t { number = toggled t.number; last = Some (Ack (toggled t.number)); chain = t.chain ++ take c.most c.rest; begun = true; due = 0 }

  -- it obeys the command
  abbrev handing : CardState → CardState
  handing t = record t { number = toggled t.number; chain = []; begun = true; due = 0 }

  -- it sends the next piece of its answer
  abbrev drew : CardState → CardState
  drew t =
      record t { number = toggled t.number; last = Some (piece t.most (toggled t.number) t.left); left = drop t.most t.left; unsent = nat_lt t.most (length t.left) }

  -- where the card lacks a piece, its number toggled is the piece's
  now_has : (c : Core) (n : ℕ) → c.number < 2 → n ≡ toggled c.number → toggled n ≡ c.number
  now_has c n l e = ap toggled e ∙ toggled_twice c.number l

  takes : (c : Core) (t : CardState) (g : Option (List ℕ)) → Asking iso_ends m k out c t g → c.most < length c.rest
      → (block_table t (request c) ≡ record { state = took t c; does = Answers (Ack (toggled t.number)) }) × Acked iso_ends m k out c (took t c) g
  takes c t g h l =
      let q = now_has c t.number h.number h.expects in (
        rw (h.plain, h.sending, lt-ltb c.most (length c.rest) l, not_lt limit (length (t.chain ++ take c.most c.rest)) (chain_fits limit t.chain c.rest out c.most h.joins h.bounds.short)) refl,
        piece_taken iso_ends m k out c t (took t c) g q h l (rw q refl),
      )

  handed_over : (c : Core) (t : CardState) (g : Option (List ℕ)) → Asking iso_ends m k out c t g → length c.rest ≤ c.most
      → (block_table t (request c) ≡ record { state = handing t; does = Delivers out }) × (t.chain ++ take c.most c.rest ≡ out)
  handed_over c t g h l =
      let w : t.chain ++ take c.most c.rest ≡ out = rw (take_all c.most c.rest l) h.joins in
      (rw (h.plain, h.sending, not_lt c.most (length c.rest) l, w, not_lt limit (length out) h.bounds.short) refl, w)

  -- The owner answered, and the card asks for more time first or doesn't.
  abbrev asking_time : CardState → List ℕ → CardState
  asking_time t r = record (handing t) { last = Some (Extend t.times); left = r; unsent = true; due = t.busy }

  abbrev sending_first : CardState → List ℕ → CardState
  sending_first t r = record (handing t) { last = Some (piece t.most (toggled t.number) r); left = drop t.most r; unsent = nat_lt t.most (length r); due = 0 }

  first_piece : (c : Core) (t : CardState) (g : Option (List ℕ)) → Asking iso_ends m k out c t g → length c.rest ≤ c.most
      → (r : List ℕ) → length r ≤ limit → Answered iso_ends m k out c (sending_first t r) (Some r) r
  first_piece c t g h l r f =
      let q = now_has c t.number h.number h.expects in first_sent iso_ends m k out c t (sending_first t r) g q r h l f (λ d. h.plain) (rw q refl)

  replies : (i : ReaderState) (t : CardState) (g : Option (List ℕ)) (n : ℕ) → i.bads ≤ most_bads → IsLive m k out i.phase → Asking iso_ends m k out i.core t g
      → length i.core.rest ≤ i.core.most → 2 ≤ n → (r : List ℕ) → length r ≤ limit
      → Wait m k out i (replied (handing t) r) (Some r) (block_frame (reply_block (handing t) r)) (n + 2 * more iso_ends m k out r)
  replies i t g n z p h l nn r f = go (nat_lt 0 t.busy) refl
    where
      Waits : CardState → Block → Type 0
      Waits x v = Wait m k out i x (Some r) (block_frame v) (n + 2 * more iso_ends m k out r)

      go : (b : Bool) → nat_lt 0 t.busy ≡ b → Waits (replied (handing t) r) (reply_block (handing t) r)
      go true b =
          let q : replied (handing t) r ≡ asking_time t r = rw b refl in
          let u : reply_block (handing t) r ≡ Extend t.times = rw b refl in
          let e = time_asked iso_ends m k out i.core t (asking_time t r) g (now_has i.core t.number h.number h.expects) r i.bads h l (ltb-true 0 t.busy b) f tt refl in
          let w : Waits (asking_time t r) (Extend t.times) =
          has p (Extend t.times) refl refl (of_time z e (rw (h.bounds.asks, h.bounds.sizes) (omega arith))) in
          subst (λ (x : CardState). Waits x (reply_block (handing t) r)) (sym q) (subst (λ (v : Block). Waits (asking_time t r) v) (sym u) w)
      go false b =
          let q : replied (handing t) r ≡ sending_first t r = rw b refl in
          let u : reply_block (handing t) r ≡ piece t.most (toggled t.number) r = rw b refl in
          let w : Waits (sending_first t r) (piece t.most (toggled t.number) r) =
          has p (piece t.most (toggled t.number) r) refl refl (of_reply r (first_piece i.core t g h l r f) (rw h.bounds.sizes (omega arith))) in
          subst (λ (x : CardState). Waits x (reply_block (handing t) r)) (sym q) (subst (λ (v : Block). Waits (sending_first t r) v) (sym u) w)

  draws_on : (c : Core) (t : CardState) (g : Option (List ℕ)) → Drawing iso_ends m k out c t g
      → (block_table t (request c) ≡ record { state = drew t; does = Answers (piece t.most (toggled t.number) t.left) }) × Answered iso_ends m k out c (drew t) g t.left
  draws_on c t g h =
      let q = now_has c t.number h.number h.expects in (
        rw (h.plain, h.receiving, h.expects, not_toggled c.number h.number, h.none_due, h.unsent) refl,
        reply_drawn iso_ends m k out c t (drew t) g q h (λ d. h.plain) (rw q refl),
      )

  request_again : (c : Core) (t : CardState) (b : Block) → c.extension ≡ None → c.drawing ≡ true → t.number ≡ c.number → t.last ≡ Some b
      → block_table t (request c) ≡ record { state = t; does = Answers b }
  request_again c t b e0 e1 e2 e3 = rw (e0, e1, e2, same c.number, e3) refl

  nak_again : (c : Core) (t : CardState) (b : Block) → t.number ≡ c.number → t.last ≡ Some b → block_table t (Nak c.number) ≡ record { state = t; does = Answers b }
  nak_again c t b e1 e2 = rw (e1, same c.number, e2) refl

  nak_missed : (c : Core) (t : CardState) → t.number ≡ toggled c.number → c.number < 2 → block_table t (Nak c.number) ≡ record { state = t; does = Answers (Ack t.number) }
  nak_missed c t e l = rw (e, not_toggled c.number l) refl

  -- the reader's block is in range
  is_request : (c : Core) → c.extension ≡ None → c.number < 2 → c.most ≤ 253 → IsBlock (request c)
  is_request c z p q = go c.drawing refl
    where
      go : (d : Bool) → c.drawing ≡ d → IsBlock (request c)
      go true e = rw (z, e) p
      go false e = rw (z, e) (is_piece c.most c.number c.rest p q)

  -- what a block brings
  ack_cut : (c : Core) (t : CardState) (ps : List (List ℕ)) → c.extension ≡ None → c.drawing ≡ true → taken (cut_of t ps) (request c) ≡ cut_of t ps
  ack_cut c t ps z e = rw (z, e) refl

  chained_cut : (c : Core) (t : CardState) (ps : List (List ℕ)) → c.extension ≡ None → c.drawing ≡ false → nat_lt c.most (length c.rest) ≡ true
      → taken (cut_of t ps) (request c) ≡ cut_of (took t c) ps
  chained_cut c t ps z e d = rw (z, e, d) refl

  last_cut : (c : Core) (t : CardState) (r : List ℕ) (ps : List (List ℕ)) → c.extension ≡ None → c.drawing ≡ false → nat_lt c.most (length c.rest) ≡ false → t.chain ++ take c.most c.rest ≡ out
      → taken (cut_of t ps) (request c) ≡ cut_of (replied (handing t) r) (ps ++ out ∷ [])
  last_cut c t r ps z e d w = go (nat_lt 0 t.busy) refl
    where
      go : (b : Bool) → nat_lt 0 t.busy ≡ b → taken (cut_of t ps) (request c) ≡ cut_of (replied (handing t) r) (ps ++ out ∷ [])
      go true b = rw (z, e, d, w, b) refl
      go false b = rw (z, e, d, w, b) refl

  -- the time is granted, and the card asks again, or sends its answer
  abbrev given_time : CardState → CardState
  given_time t = record t { due = 0; last = Some (piece t.most t.number t.left); left = drop t.most t.left; unsent = nat_lt t.most (length t.left) }

  asks_again : (t : CardState) → 0 < t.due → 1 < t.due
      → block_table t (Extend t.times) ≡ record { state = record t { due = t.due - 1 }; does = Answers (Extend t.times) }
  asks_again t l p = rw (lt-ltb 0 t.due l, same t.times, lt-ltb 1 t.due p) refl

  has_time : (t : CardState) → 0 < t.due → t.due ≤ 1 → block_table t (Extend t.times) ≡ record { state = given_time t; does = Answers (piece t.most t.number t.left) }
  has_time t l p = rw (lt-ltb 0 t.due l, same t.times, not_lt 1 t.due p) refl

  time_lands : (i : ReaderState) (t : CardState) (g : Option (List ℕ)) (f : Signal) (n : ℕ) → i.phase ≡ Asked → f ≡ block_frame (Extend t.times)
      → i.core.extension ≡ Some t.times → i.bads ≤ most_bads → Extending iso_ends m k out i.core t g (i.bads + 1) → 2 * (t.due + pieces t.most t.left) ≤ n + 2
      → Lands iso_dep out (Ask m k out) (Wait m k out) (more iso_ends m k out) (Fits iso_ends m k out) IsCut i t g f n (iso_dep.heard t f) (iso_dep.does t f)
  time_lands i t g f n p y w z h b = go (nat_lt 1 t.due) refl
    where
      go : (d : Bool) → nat_lt 1 t.due ≡ d → Lands iso_dep out (Ask m k out) (Wait m k out) (more iso_ends m k out) (Fits iso_ends m k out) IsCut i t g f n (iso_dep.heard t f) (iso_dep.does t f)
      go true d =
          let l = ltb-true 1 t.due d in
          let e = time_again iso_ends m k out i.core t (record t { due = t.due - 1 }) g h.expects i.bads h l tt refl in
          lands_by i t g f (Extend t.times) n _ y h.bounds.heeds tt (asks_again t h.due l) (
            has (inl p) (Extend t.times) refl h.last (of_time z e (omega arith)),
            cuts_same t (record t { due = t.due - 1 }) f (Extend t.times) y tt (λ ps. refl),
          )
      go false d =
          let l = le_from_not 1 t.due d in
          let e = time_over iso_ends m k out i.core t (given_time t) g h.expects (i.bads + 1) h (λ d. absurd (let s = h.sending in cc)) (rw h.expects refl) in
          lands_by i t g f (Extend t.times) n _ y h.bounds.heeds tt (has_time t h.due l) (
            has (inl p) (piece t.most t.number t.left) refl refl (of_reply t.left e (let a = h.due in omega arith)),
            cuts_same t (given_time t) f (Extend t.times) y tt (λ ps. refl),
          )

  -- an extension that is granted
  pub is_extension : (c : Core) (t : CardState) (f : Signal) → c.extension ≡ Some t.times → f ≡ block_frame (request c) → f ≡ block_frame (Extend t.times)
  is_extension c t f w e = e ∙ ap (λ (o : Option ℕ). block_frame (asked c o)) w

  pub lands_at : (i : ReaderState) (t : CardState) (g : Option (List ℕ)) (f : Signal) (n : ℕ) → Ask m k out i t g f n
      → Lands iso_dep out (Ask m k out) (Wait m k out) (more iso_ends m k out) (Fits iso_ends m k out) IsCut i t g f n (iso_dep.heard t f) (iso_dep.does t f)
  lands_at i t g f n (asks p e z h b) = go (nat_lt i.core.most (length i.core.rest)) refl
    where
      r : IsBlock (request i.core)
      r = is_request i.core h.plain h.number h.bounds.fits

      go : (d : Bool) → nat_lt i.core.most (length i.core.rest) ≡ d
          → Lands iso_dep out (Ask m k out) (Wait m k out) (more iso_ends m k out) (Fits iso_ends m k out) IsCut i t g f n (iso_dep.heard t f) (iso_dep.does t f)
      go true d =
          let q = takes i.core t g h (ltb-true i.core.most (length i.core.rest) d) in
          lands_by i t g f (request i.core) n _ e h.bounds.heeds r q.0 (
            has (inl p) (Ack (toggled t.number)) refl refl (of_chain q.1 b),
            cuts_same t (took t i.core) f (request i.core) e r (λ ps. chained_cut i.core t ps h.plain h.sending d),
          )
      go false d =
          let l = le_from_not i.core.most (length i.core.rest) d in
          let q = handed_over i.core t g h l in
          lands_by i t g f (request i.core) n _ e h.bounds.heeds r q.0 (
            refl,
            h.none,
            λ x s. (
              replies i t g n z (inl p) h l (omega arith) x s,
              cuts_on t (replied (handing t) x) f (request i.core) (out ∷ []) e r (λ ps. last_cut i.core t x ps h.plain h.sending d q.1),
            ),
          )
  lands_at i t g f n (draws p e h b) =
      let q = draws_on i.core t g h in
      let r = is_request i.core h.plain h.number h.bounds.fits in
      lands_by i t g f (request i.core) n _ e h.bounds.heeds r q.0 (
        has (inl p) (piece t.most (toggled t.number) t.left) refl refl (of_reply t.left q.1 b),
        cuts_same t (drew t) f (request i.core) e r (λ ps. ack_cut i.core t ps h.plain h.receiving),
      )
  lands_at i t g f n (grants p e w z h b) = time_lands i t g f n p (is_extension i.core t f w e) w z h b
  lands_at i t g f n (draws_again p e d w h) =
      let a = last_of iso_ends m k out i.core t g n i.bads h in
      let r = is_request i.core w a.number a.fits in
      lands_by i t g f (request i.core) n (record { state = t; does = Answers a.value }) e a.heeds r (request_again i.core t a.value w d a.expects a.last)
      (has (inl p) a.value refl a.last h, cuts_same t t f (request i.core) e r (λ ps. ack_cut i.core t ps w d))
  lands_at i t g f n (naks p e z h b) =
      lands_by i t g f (Nak i.core.number) n (record { state = t; does = Answers (Ack t.number) }) e h.bounds.heeds h.number (nak_missed i.core t h.expects h.number)
      (misses p refl z h b, cuts_same t t f (Nak i.core.number) e h.number (λ ps. refl))
  lands_at i t g f n (naks_held p e d h) =
      let a = last_of iso_ends m k out i.core t g n i.bads h in
      lands_by i t g f (Nak i.core.number) n (record { state = t; does = Answers a.value }) e a.heeds a.number (nak_again i.core t a.value a.expects a.last)
      (has (inr p) a.value refl a.last h, cuts_same t t f (Nak i.core.number) e a.number (λ ps. refl))

  -- the card is never silent at what is asked of it
  speaks_by : (t : CardState) (f : Signal) (b : Block) (x : CardMove) → f ≡ block_frame b → t.mute ≡ false → IsBlock b → block_table t b ≡ x
      → (card_does (framed_does x.does) ≡ Quiet → ⊥) → iso_dep.does t f ≡ Quiet → ⊥
  speaks_by t f b x e h r q never d =
      let y : card_table t f ≡ framed x = ap (card_table t) e ∙ card_heeds t b h r ∙ ap framed q in
      never (sym (ap (λ (z : CardTurn). card_does z.does) y) ∙ d)

  pub speaks_at : (i : ReaderState) (t : CardState) (g : Option (List ℕ)) (f : Signal) (n : ℕ) → Ask m k out i t g f n → iso_dep.does t f ≡ Quiet → ⊥
  speaks_at i t g f n (asks p e z h b) = go (nat_lt i.core.most (length i.core.rest)) refl
    where
      r : IsBlock (request i.core)
      r = is_request i.core h.plain h.number h.bounds.fits

      go : (d : Bool) → nat_lt i.core.most (length i.core.rest) ≡ d → iso_dep.does t f ≡ Quiet → ⊥
      go true d = speaks_by t f (request i.core) _ e h.bounds.heeds r (takes i.core t g h (ltb-true i.core.most (length i.core.rest) d)).0 (λ z. absurd (cc))
      go false d = speaks_by t f (request i.core) _ e h.bounds.heeds r (handed_over i.core t g h (le_from_not i.core.most (length i.core.rest) d)).0 (λ z. absurd (cc))
  speaks_at i t g f n (draws p e h b) = speaks_by t f (request i.core) _ e h.bounds.heeds (is_request i.core h.plain h.number h.bounds.fits) (draws_on i.core t g h).0 (λ z. absurd (cc))
  speaks_at i t g f n (grants p e w z h b) = go (nat_lt 1 t.due) refl
    where
      go : (d : Bool) → nat_lt 1 t.due ≡ d → iso_dep.does t f ≡ Quiet → ⊥
      go true d = speaks_by t f (Extend t.times) _ (is_extension i.core t f w e) h.bounds.heeds tt (asks_again t h.due (ltb-true 1 t.due d)) (λ z. absurd (cc))
      go false d = speaks_by t f (Extend t.times) _ (is_extension i.core t f w e) h.bounds.heeds tt (has_time t h.due (le_from_not 1 t.due d)) (λ z. absurd (cc))
  speaks_at i t g f n (draws_again p e d w h) =
      let a = last_of iso_ends m k out i.core t g n i.bads h in
      speaks_by t f (request i.core) (record { state = t; does = Answers a.value }) e a.heeds (is_request i.core w a.number a.fits)
      (request_again i.core t a.value w d a.expects a.last) (λ z. absurd (cc))
  speaks_at i t g f n (naks p e z h b) =
      speaks_by t f (Nak i.core.number) (record { state = t; does = Answers (Ack t.number) }) e h.bounds.heeds h.number (nak_missed i.core t h.expects h.number) (λ z. absurd (cc))
  speaks_at i t g f n (naks_held p e d h) =
      let a = last_of iso_ends m k out i.core t g n i.bads h in
      speaks_by t f (Nak i.core.number) (record { state = t; does = Answers a.value }) e a.heeds a.number (nak_again i.core t a.value a.expects a.last) (λ z. absurd (cc))
