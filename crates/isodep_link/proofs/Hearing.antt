-- The reader at the card's answers, and at bad receptions, while an exchange is under way.
use Rattle.std.proofs.Common.{◌≡◌, ℕ, ◌+◌, ◌-◌, ◌*◌, ◌<◌, ◌≤◌, nat_lt, if◌then◌else◌, Bool, true, false, List, [], ◌++◌, length, take, drop, Option, Some, None, inl, inr, refl, sym, ◌∙◌, ap, subst}
use Rattle.std.proofs.Common.{arith, take_all}
use Rattle.std.proofs.lemmas.Bool.{lt-ltb, ltb-true}
use Rattle.nfc_base.specs.Signal.{Signal}
use Rattle.nfc_base.specs.StopAndWait.{Whole, Damaged, Silent}
use Rattle.nfc_base.proofs.ExactlyOnce.{Goes}
use Rattle.isodep_link.specs.declared.block.Block.{Block}
use Rattle.isodep_link.specs.declared.block.Block.TheVariants.{Ack, Extend}
use Rattle.isodep_link.specs.declared.reader.Phase.{Phase}
use Rattle.isodep_link.specs.declared.reader.Phase.TheVariants.{Asked, Nacked, Free, EndedSixBad, EndedProtocol}
use Rattle.isodep_link.specs.Blocks.{toggled, IsBlock, block_frame, piece}
use Rattle.isodep_link.specs.Sizes.{limit}
use Rattle.isodep_link.specs.Card.{CardState}
use Rattle.isodep_link.specs.Reader as reader
use Rattle.nfc_base.specs.Pieces.{Core, most_bads, most_extensions, longest_extension, turned, more_follows, pieces}
use Rattle.isodep_link.specs.Reader.{ReaderState, ReaderMove, ReaderTurn, Asks, Gives, GivesUp, Refuses, request, sent, sends, after_bad, bad, answered, block_next, framed, framed_next, reader_table}
use Rattle.nfc_base.specs.LinkTurns.{heard_of}
use Rattle.isodep_link.specs.Exchange.{iso_dep, reader_does, InStep}
use Rattle.isodep_link.proofs.Wire.{reader_heeds, is_piece}
use Rattle.nfc_base.proofs.Chains.{same, not_lt, le_from_not, pieces_drop, not_refused, Asking, Drawing, Acked, Answered, Extending, Held, of_chain, of_reply, of_time, held_left, held_worse}
use Rattle.nfc_base.proofs.Chains.{held_more, longer, time_granted, sent_on, ack_heard, got_on, piece_heard}
use Rattle.isodep_link.proofs.Standing.{toggled_not, toggled_small, iso_ends, Ask, asks, draws, draws_again, naks, naks_held, grants, IsLive, Wait, has, misses}

module _ (m k : ℕ) (out : List ℕ) where
  -- a bad reception: the reader sends something, of which two transmissions more are left, or gives up
  abbrev Survives : ReaderState → CardState → Option (List ℕ) → ℕ → ReaderMove → Type 0
  Survives i t g n x = Goes (λ z. (q : ℕ) × Ask m k out x.state t g z q × (q ≤ n + 2)) (λ _. ⊥) (Unit {0}) (reader_does (framed_next x.does))

  live_bad : (i : ReaderState) (p : Phase) → i.phase ≡ p → IsLive m k out p → block_next i reader.Bad ≡ bad i
  live_bad i Asked e l = rw e refl
  live_bad i Nacked e l = rw e refl
  live_bad i Free e (inl z) = absurd (cc)
  live_bad i Free e (inr z) = absurd (cc)
  live_bad i EndedSixBad e (inl z) = absurd (cc)
  live_bad i EndedSixBad e (inr z) = absurd (cc)
  live_bad i EndedProtocol e (inl z) = absurd (cc)
  live_bad i EndedProtocol e (inr z) = absurd (cc)

  live_after : (p : Phase) (c : Core) → IsLive m k out p → after_bad p c ≡ (if c.drawing then Asked else Nacked)
  live_after Asked c l = refl
  live_after Nacked c l = refl
  live_after Free c (inl z) = absurd (cc)
  live_after Free c (inr z) = absurd (cc)
  live_after EndedSixBad c (inl z) = absurd (cc)
  live_after EndedSixBad c (inr z) = absurd (cc)
  live_after EndedProtocol c (inl z) = absurd (cc)
  live_after EndedProtocol c (inr z) = absurd (cc)

  -- how both ends stand at a reception
  data Either (i : ReaderState) (t : CardState) (g : Option (List ℕ)) (n : ℕ) : Type 0 where
    sending : i.bads ≤ most_bads → Asking iso_ends m k out i.core t g → 2 * pieces i.core.most i.core.rest ≤ n → Either i t g n
    drawing : Drawing iso_ends m k out i.core t g → 2 * pieces t.most t.left ≤ n → Either i t g n
    held : (i.core.drawing ≡ true → i.core.extension ≡ None) → Held iso_ends m k out i.core t g n i.bads → Either i t g n
    granting : i.bads ≤ most_bads → i.core.extension ≡ Some t.times → Extending iso_ends m k out i.core t g (i.bads + 1) → 2 * (t.due + pieces t.most t.left) ≤ n + 2 → Either i t g n

  held_again : (c : Core) (t : CardState) (g : Option (List ℕ)) (n bads : ℕ) → bads < most_bads → Held iso_ends m k out c t g n bads → Held iso_ends m k out c t g (n + 2) (bads + 1)
  held_again c t g n bads few h = held_more iso_ends m k out c t g n (bads + 1) (held_worse iso_ends m k out c t g n bads few h)

  held_plain : (c : Core) (t : CardState) (g : Option (List ℕ)) (n bads : ℕ) → Held iso_ends m k out c t g n bads → c.drawing ≡ true → c.extension ≡ None
  held_plain c t g n bads (of_chain h l) d = absurd (let z = h.sending in cc)
  held_plain c t g n bads (of_reply bytes h l) d = h.asked_by d
  held_plain c t g n bads (of_time z h l) d = absurd (let z = h.sending in cc)

  asks_again : (i : ReaderState) (t : CardState) (g : Option (List ℕ)) (n : ℕ) → i.bads < most_bads → Either i t g n → (d : Bool) → i.core.drawing ≡ d
      → Ask m k out (record { core = i.core; phase = (if d then Asked else Nacked); bads = i.bads + 1 }) t g (block_frame (sent (if d then Asked else Nacked) i.core)) (n + 2)
  asks_again i t g n few (sending z h b) true d = absurd (let z = h.sending in cc)
  asks_again i t g n few (sending z h b) false d = naks refl refl (omega arith) h (omega arith)
  asks_again i t g n few (drawing h b) true d = draws refl refl h (omega arith)
  asks_again i t g n few (drawing h b) false d = absurd (let z = h.receiving in cc)
  asks_again i t g n few (held w h) true d = draws_again refl refl d (w d) (held_again i.core t g n i.bads few h)
  asks_again i t g n few (held w h) false d = naks_held refl refl d (held_again i.core t g n i.bads few h)
  asks_again i t g n few (granting z w h b) true d = absurd (let z = h.sending in cc)
  asks_again i t g n few (granting z w h b) false d = naks_held refl refl d (of_time (omega arith) h b)

  bad_goes : (i : ReaderState) (t : CardState) (g : Option (List ℕ)) (n : ℕ) → Either i t g n → IsLive m k out i.phase → Survives i t g n (bad i)
  bad_goes i t g n e l = go (nat_lt i.bads most_bads) refl
    where
      p : Phase
      p = if i.core.drawing then Asked else Nacked

      go : (v : Bool) → nat_lt i.bads most_bads ≡ v → Survives i t g n (bad i)
      go true v =
          let q : bad i ≡ sends i.core p (i.bads + 1) = rw v (ap (λ x. sends i.core x (i.bads + 1)) (live_after i.phase i.core l)) in
          subst (λ (x : ReaderMove). Survives i t g n x) (sym q) (n + 2, asks_again i t g n (ltb-true i.bads most_bads v) e i.core.drawing refl, omega arith)
      go false v = rw v tt

  -- silence and damage are the same bad reception
  bad_at : (i : ReaderState) (t : CardState) (g : Option (List ℕ)) (n : ℕ) → Either i t g n → IsLive m k out i.phase → Survives i t g n (block_next i reader.Bad)
  bad_at i t g n e l = subst (λ (x : ReaderMove). Survives i t g n x) (sym (live_bad i i.phase refl l)) (bad_goes i t g n e l)

  ask_stands : (i : ReaderState) (t : CardState) (g : Option (List ℕ)) (f : Signal) (n : ℕ) → Ask m k out i t g f n → Either i t g n × IsLive m k out i.phase
  ask_stands i t g f n (asks p e z h b) = (sending z h b, inl p)
  ask_stands i t g f n (draws p e h b) = (drawing h b, inl p)
  ask_stands i t g f n (draws_again p e d w h) = (held (λ x. w) h, inl p)
  ask_stands i t g f n (naks p e z h b) = (sending z h (omega arith), inr p)
  ask_stands i t g f n (naks_held p e d h) = (held (held_plain i.core t g n i.bads h) h, inr p)
  ask_stands i t g f n (grants p e w z h b) = (granting z w h b, inl p)

  wait_stands : (i : ReaderState) (t : CardState) (g : Option (List ℕ)) (a : Signal) (n : ℕ) → Wait m k out i t g a n → Either i t g n × IsLive m k out i.phase
  wait_stands i t g a n (has p b e l h) = (held (held_plain i.core t g n i.bads h) h, p)
  wait_stands i t g a n (misses p e z h b) = (sending z h (omega arith), inr p)

  pub unheard_at : (i : ReaderState) (t : CardState) (g : Option (List ℕ)) (f : Signal) (n : ℕ) → Ask m k out i t g f n
      → Goes (λ z. (q : ℕ) × Ask m k out (iso_dep.next i Silent) t g z q × (q ≤ n + 2)) (λ _. ⊥) (Unit {0}) (iso_dep.acts i Silent)
  unheard_at i t g f n a = let s = ask_stands i t g f n a in bad_at i t g n s.0 s.1

  pub lost_at : (i : ReaderState) (t : CardState) (g : Option (List ℕ)) (a : Signal) (n : ℕ) → Wait m k out i t g a n
      → Goes (λ z. (q : ℕ) × Ask m k out (iso_dep.next i Silent) t g z q × (q ≤ n + 2)) (λ _. ⊥) (Unit {0}) (iso_dep.acts i Silent)
  lost_at i t g a n w = let s = wait_stands i t g a n w in bad_at i t g n s.0 s.1

  pub damaged_at : (i : ReaderState) (t : CardState) (g : Option (List ℕ)) (a : Signal) (n : ℕ) → Wait m k out i t g a n
      → Goes (λ z. (q : ℕ) × Ask m k out (iso_dep.next i Damaged) t g z q × (q ≤ n + 2)) (λ _. ⊥) (Unit {0}) (iso_dep.acts i Damaged)
  damaged_at i t g a n w = let s = wait_stands i t g a n w in bad_at i t g n s.0 s.1

  -- an answer is heard: two transmissions fewer are left, or the exchange ends with the reply
  abbrev Accepted : ReaderState → CardState → Option (List ℕ) → ℕ → ReaderMove → Type 0
  Accepted i t g n x = Goes (λ z. (q : ℕ) × Ask m k out x.state t g z q × (q + 2 ≤ n)) (λ r. (g ≡ Some r) × InStep x.state t) ⊥ (reader_does (framed_next x.does))

  live_heard : (i : ReaderState) (b : Block) → IsLive m k out i.phase → block_next i (reader.Hears b) ≡ answered i b
  live_heard i b (inl e) = rw e refl
  live_heard i b (inr e) = rw e refl

  abbrev AcceptedAt : ReaderState → CardState → Option (List ℕ) → Signal → ℕ → Type 0
  AcceptedAt i t g a n =
      Goes (λ z. (q : ℕ) × Ask m k out (iso_dep.next i (Whole a)) t g z q × (q + 2 ≤ n)) (λ r. (g ≡ Some r) × InStep (iso_dep.next i (Whole a)) t) ⊥ (iso_dep.acts i (Whole a))

  accepted_by : (i : ReaderState) (t : CardState) (g : Option (List ℕ)) (a : Signal) (b : Block) (n : ℕ) (x : ReaderMove)
      → IsLive m k out i.phase → a ≡ block_frame b → IsBlock b → answered i b ≡ x → Accepted i t g n x → AcceptedAt i t g a n
  accepted_by i t g a b n x l e r q h =
      let y : reader_table i (heard_of (Whole a)) ≡ framed x = ap (λ z. reader_table i (heard_of (Whole z))) e ∙ reader_heeds i b r ∙ ap framed (live_heard i b l ∙ q) in
      subst (λ (u : ReaderTurn). Goes (λ z. (q : ℕ) × Ask m k out u.state t g z q × (q + 2 ≤ n)) (λ r. (g ≡ Some r) × InStep u.state t) ⊥ (reader_does u.does)) (sym y) h

  acked_next : (i : ReaderState) (t : CardState) (g : Option (List ℕ)) → Acked iso_ends m k out i.core t g
      → answered i (Ack i.core.number) ≡ sends (sent_on iso_ends m k out i.core) Asked 0
  acked_next i t g h = rw (same i.core.number, h.sending, lt-ltb i.core.most (length i.core.rest) h.more) refl

  -- a piece of the answer that isn't the last
  piece_next : (i : ReaderState) (t : CardState) (g : Option (List ℕ)) (bytes : List ℕ) → Answered iso_ends m k out i.core t g bytes → t.most < length bytes
      → answered i (piece t.most i.core.number bytes) ≡ sends (got_on iso_ends m k out i.core (take t.most bytes)) Asked 0
  piece_next i t g bytes h l =
      rw (h.no_more, same i.core.number, not_refused limit i.core.got bytes t.most h.bounds.some_back h.short_back, lt-ltb t.most (length bytes) l) refl

  abbrev ended : Core → ReaderState
  ended c = record { core = turned c (toggled c.number) [] false []; phase = Free; bads = 0 }

  last_heard : (i : ReaderState) (t : CardState) (g : Option (List ℕ)) (bytes : List ℕ) → Answered iso_ends m k out i.core t g bytes → length bytes ≤ t.most
      → answered i (piece t.most i.core.number bytes) ≡ record { state = ended i.core; does = Gives (i.core.got ++ bytes) }
  last_heard i t g bytes h l =
      let e : take t.most bytes ≡ bytes = take_all t.most bytes l in
      rw (h.no_more, same i.core.number, not_refused limit i.core.got bytes t.most h.bounds.some_back h.short_back, not_lt t.most (length bytes) l, e) refl

  -- the last I-block again
  abbrev unextended : Core → Core
  unextended c = record c { extension = None }

  missed_heard : (i : ReaderState) (t : CardState) → i.phase ≡ Nacked → t.number ≡ toggled i.core.number → i.core.number < 2
      → answered i (Ack t.number) ≡ sends (unextended i.core) Asked i.bads
  missed_heard i t p e l = rw (p, e, toggled_not i.core.number l) refl

  still_asking : (c : Core) (t : CardState) (g : Option (List ℕ)) → Asking iso_ends m k out c t g → Asking iso_ends m k out (unextended c) t g
  still_asking c t g h =
      record {
        bounds = h.bounds;
        number = h.number;
        plain = refl;
        none_yet = h.none_yet;
        sending = h.sending;
        empty = h.empty;
        expects = h.expects;
        joins = h.joins;
        none = h.none;
      }

  -- the card asks for more time
  time_heard : (i : ReaderState) (times : ℕ) → i.core.drawing ≡ false → more_follows i.core ≡ false → 1 ≤ times → times ≤ longest_extension → i.core.granted < most_extensions
      → answered i (Extend times) ≡ sends (longer iso_ends m k out i.core times) Asked i.bads
  time_heard i times d f l1 l2 l3 =
      rw (f, d, lt-ltb 0 times (omega arith), not_lt longest_extension times l2, lt-ltb i.core.granted most_extensions l3) refl

  answer_heard : (i : ReaderState) (t : CardState) (g : Option (List ℕ)) (a : Signal) (n : ℕ) (bytes : List ℕ) → IsLive m k out i.phase
      → a ≡ block_frame (piece t.most i.core.number bytes) → Answered iso_ends m k out i.core t g bytes → 2 * pieces t.most bytes ≤ n → AcceptedAt i t g a n
  answer_heard i t g a n bytes p e h b = go (nat_lt t.most (length bytes)) refl
    where
      r : IsBlock (piece t.most i.core.number bytes)
      r = is_piece t.most i.core.number bytes h.number h.bounds.fits_back

      go : (d : Bool) → nat_lt t.most (length bytes) ≡ d → AcceptedAt i t g a n
      go true d =
          let l = ltb-true t.most (length bytes) d in
          let z = pieces_drop t.most bytes h.bounds.some_back l in
          accepted_by i t g a (piece t.most i.core.number bytes) n _ p e r (piece_next i t g bytes h l)
          (2 * pieces t.most (drop t.most bytes), draws refl refl (piece_heard iso_ends m k out i.core t g bytes h l) (rw h.left (omega arith)), omega arith)
      go false d =
          let l = le_from_not t.most (length bytes) d in
          accepted_by i t g a (piece t.most i.core.number bytes) n _ p e r (last_heard i t g bytes h l) (
            h.reply,
            record {
              heeds = h.bounds.heeds;
              number = toggled_small i.core.number;
              other = iso_ends.goes_on t i.core.number h.number h.expects;
              no_chain = h.no_chain;
              all_sent = h.unsent ∙ not_lt t.most (length bytes) l;
              asks = (h.bounds.some, h.bounds.fits);
              answers = (h.bounds.some_back, h.bounds.fits_back);
              busy = rw h.bounds.asks h.bounds.few;
              times = (h.bounds.long, h.bounds.longest);
            },
          )

  pub answered_at : (i : ReaderState) (t : CardState) (g : Option (List ℕ)) (a : Signal) (n : ℕ) → Wait m k out i t g a n → (2 ≤ n) × AcceptedAt i t g a n
  answered_at i t g a n (misses p e z h b) =
      let r : IsBlock (Ack t.number) = rw h.expects (toggled_small i.core.number) in (
        omega arith,
        accepted_by i t g a (Ack t.number) n _ (inr p) e r (missed_heard i t p h.expects h.number) (2 * pieces i.core.most i.core.rest, asks refl refl z (still_asking i.core t g h) (omega arith), b),
      )
  answered_at i t g a n (has p x e l (of_chain h b)) =
      let q : x ≡ Ack i.core.number = (let y = h.last in cc) in
      let s = ack_heard iso_ends m k out i.core t g h in
      let z = pieces_drop i.core.most i.core.rest h.bounds.some h.more in (
        omega arith,
        accepted_by i t g a (Ack i.core.number) n _ p (e ∙ ap block_frame q) h.number (acked_next i t g h)
            (2 * pieces i.core.most (drop i.core.most i.core.rest), asks refl refl (omega arith) s (omega arith), omega arith),
      )
  answered_at i t g a n (has p x e l (of_time z h b)) =
      let q : x ≡ Extend t.times = (let y = h.last in cc) in
      let c = h.count in
      let f = h.bounds.few in
      let d = h.due in (
        omega arith,
        accepted_by i t g a (Extend t.times) n _ p (e ∙ ap block_frame q) tt
            (time_heard i t.times h.sending h.no_more h.bounds.long h.bounds.longest (omega arith))
            (2 * (t.due + pieces t.most t.left) - 2, grants refl refl refl z (time_granted iso_ends m k out i.core t g i.bads t.times h tt) (omega arith), omega arith),
      )
  answered_at i t g a n (has p x e l (of_reply bytes h b)) =
      let q : x ≡ piece t.most i.core.number bytes = (let y = h.last in cc) in
      (omega arith, answer_heard i t g a n bytes p (e ∙ ap block_frame q) h b)

  pub ask_left : (i : ReaderState) (t : CardState) (g : Option (List ℕ)) (f : Signal) (n : ℕ) → Ask m k out i t g f n → 1 ≤ n
  ask_left i t g f n (asks p e z h b) = omega arith
  ask_left i t g f n (draws p e h b) = omega arith
  ask_left i t g f n (draws_again p e d w h) = held_left iso_ends m k out i.core t g n i.bads h
  ask_left i t g f n (naks p e z h b) = omega arith
  ask_left i t g f n (naks_held p e d h) = held_left iso_ends m k out i.core t g n i.bads h
  ask_left i t g f n (grants p e w z h b) = (let d = h.due in omega arith)
