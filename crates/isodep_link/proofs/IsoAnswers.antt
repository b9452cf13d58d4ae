-- What `ask` of a link to a Type 4 tag answers.
use Rattle.std.proofs.Common.{◌≡◌, ℕ, ◌+◌, ◌*◌, ◌<◌, ◌≤◌, ◌⊎◌, inl, inr, List, [], ◌∷◌, ◌++◌, length, drop, true, false, Option, Some, None, Result, Ok, Err, IfOk, IfErr, refl, sym, ◌∙◌, ap, subst}
use Rattle.std.proofs.Common.{arith, append-nil}
use Rattle.std.specs.Prelude.{not}
use Rattle.std.proofs.lemmas.List.{length-append}
use Rattle.nfc_base.specs.Signal.{Signal, whole_a}
use Rattle.nfc_base.specs.Trace.{noise}
use Rattle.nfc_base.specs.Links.{CountsOn}
use Rattle.nfc_base.specs.LinkTurns.{arrived, bad_receptions}
use Rattle.nfc_base.specs.TagLinks.{TagState, TagStep, passed, Leads, Obeys, Rises, IsAnswer, IsFault, AskCause}
use Rattle.nfc_base.specs.declared.tag_link.AskFault.{AskFault}
use Rattle.nfc_base.specs.declared.tag_link.AskFault.TheVariants.{FieldLost, SixBad, Memory, Protocol}
use Rattle.air_core.specs.World.{quiet_air}
use Rattle.air_core.specs.Turn.{Air, world, moment}
use Rattle.air_core.specs.laws.Turning.{going_start}
use Rattle.air_core.specs.Conversation.{Note, Going}
use Rattle.air_core.specs.PlainTags.{reached}
use Rattle.air_core.specs.PlainLinks.{counts_of, Follows, stores_after}
use Rattle.nfc_base.specs.declared.event.Event.{Event}
use Rattle.air_core.specs.declared.listener.Listener.{Ghosts}
use Rattle.air_core.proofs.PlainAside.{Laws}
use Rattle.air_core.proofs.PlainStores.{place_is}
use Rattle.air_core.proofs.LostField.{breaks_noise}
use Rattle.isodep_link.specs.Blocks.{block_frame}
use Rattle.isodep_link.specs.Card.{CardState}
use Rattle.isodep_link.specs.Reader.{ReaderState, request, begun}
use Rattle.isodep_link.specs.Commands.{iso_commands}
use Rattle.isodep_link.specs.Exchange.{blocks_of, IsCut, backs_of}
use Rattle.isodep_link.specs.Asking.{IsoStanding, Rests, asks, stand, iso_next, HasCardTag, CommandTurns, EndsBy, Exchanges}
use Rattle.isodep_link.specs.IsoLinks.{IsoSeen, commands_of, IsoStandsAt, most_sent, since, card_backs, iso_view, IsIsoReady, EachOnce, IsoAsks, IsoObeys, IsoMoves, link_after, CommandExchanged}
use Rattle.isodep_link.specs.laws.IsoMoving.{none_between, moves_again}
use Rattle.nfc_base.proofs.Leading.{leads_again, rises_again}
use Rattle.isodep_link.proofs.CardTurns.{Holds}
use Rattle.isodep_link.proofs.CutSizes.{rests_cut, reached_cuts}
use Rattle.nfc_base.proofs.LinkTurns.{arrived_append}
use Rattle.isodep_link.proofs.IsoViews.{handed, leads, shown_images, no_more, before, shown_obeyed, shown_held, obeys, shown_noise, shown_step, shown_within, either_store, still_answered}
use Rattle.isodep_link.proofs.IsoViews.{all_answered, answered_before, since_new}
use Rattle.air_core.proofs.PlainAnswers.{counts_rise, none_left}

counts_stay : (o : Option AskFault) → CountsOn (counts_of o) (counts_of o)
counts_stay o = record { breaks = omega arith; six_bad = omega arith; odd = omega arith }

module _ {L : Type 0} (k : Ghosts L) (laws : Laws k) (card : L → CardState) (tag : L → TagState) (holds : Holds k tag) (old : Air L) (place start told : ℕ) (i : ReaderState) (last : Option Signal)
    (over : Option AskFault)
    (c : Signal) (begun_ : over ≡ None) (ready : over ≡ None → IsIsoReady k card tag (before k laws card tag holds old place start told i last over)) (may : c ≡ whole_a c.bytes) where
  abbrev was : IsoSeen L
  was = before k laws card tag holds old place start told i last over

  abbrev r : IsIsoReady k card tag was
  r = ready begun_

  abbrev l : L
  l = r.has.listener

  -- an answer
  module _ (new : Air L) (i' : ReaderState) (reply : Signal) (h : EndsBy k card tag old new place l i i' (commands_of (since k card tag was)) (arrived (since k card tag was)) c.bytes (Ok reply)) where
    abbrev after_ok : IsoSeen L
    after_ok = record { air = new; place = place; start = start; told = length new.trace; reader = i'; last = Some c; over = over }

    abbrev w : CommandTurns k card tag old new place l i (commands_of (since k card tag was)) (arrived (since k card tag was)) c.bytes (Some h.0) (Rests i')
    w = h.1

    abbrev ready_tag : HasCardTag k card tag new place i' (commands_of (since k card tag was) ++ c.bytes ∷ []) (arrived (since k card tag was) ++ arrived w.events)
    ready_tag = h.4

    obeyed_one : (iso_view k card tag after_ok).obeyed ≡ (iso_view k card tag was).obeyed ++ c ∷ []
    obeyed_one =
        shown_obeyed k laws card tag holds old place start told i last over r new (length new.trace) i' (Some c) over c may (Some h.0) (Rests i') w
        ∙ ap (λ (d : Signal). (iso_view k card tag was).obeyed ++ d ∷ []) (sym may)

    noise_ok : (iso_view k card tag after_ok).noise ≡ (iso_view k card tag was).noise + noise w.events
    noise_ok = shown_noise k laws card tag holds old place start told i last over r new (length new.trace) i' (Some c) over c may (Some h.0) (Rests i') w

    step_ok : (iso_view k card tag was).step (iso_view k card tag was).state c ≡ k.commands l (tag l) (whole_a c.bytes)
    step_ok = shown_step k laws card tag holds old place start told i last over r new (length new.trace) i' (Some c) over c may (Some h.0) (Rests i') w

    answered_one : (iso_view k card tag after_ok).answered ≡ (iso_view k card tag was).answered ++ c ∷ []
    answered_one =
        all_answered k laws card tag holds old place start told i last over r new (length new.trace) i' (Some c) over c may (Some h.0) (Rests i') w
        ∙ obeyed_one ∙ ap (λ (xs : List Signal). xs ++ c ∷ []) (sym (answered_before k laws card tag holds old place start told i last over r))

    pub ok_obeys : Obeys (iso_view k card tag was) (iso_view k card tag after_ok) c
    ok_obeys = obeys k laws card tag holds old place start told i last over r new (length new.trace) i' (Some c) over c may (Some h.0) (Rests i') w begun_ (λ e. h.3)

    pub ok_rises : Rises (iso_view k card tag was) (iso_view k card tag after_ok)
    ok_rises = record { counts = counts_stay over; noise = (let e = noise_ok in omega (arith, e)) }

    pub ok_answer : IsAnswer (iso_view k card tag was) (iso_view k card tag after_ok) c reply
    ok_answer = record {
      begun = begun_;
      stays = begun_;
      lit = ap not h.3;
      answer = ap (λ (x : TagStep). x.answer) step_ok ∙ w.given_by.0 ∙ ap (λ (x : Signal). Some x) (sym h.2);
      after =
          shown_held k laws card tag holds old place start told i last over r new (length new.trace) i' (Some c) over c may (Some h.0) (Rests i') w h.3
          ∙ w.given_by.1 ∙ sym (ap (λ (x : TagStep). x.after) step_ok);
      answered = answered_one;
      counts = refl;
      least =
          (let n : length (iso_view k card tag after_ok).obeyed ≡ length (iso_view k card tag was).obeyed + 1 =
          ap length obeyed_one ∙ length-append (iso_view k card tag was).obeyed (c ∷ []) in omega (arith, n));
      once = λ e. obeyed_one;
    }

    left_lit : ((new.lit ≡ true) × (w.after.left ≡ reached k l w.after.frames)) ⊎ ((new.lit ≡ false) × (w.after.left ≡ k.machine.darkened (reached k l w.after.frames)))
        → w.after.left ≡ reached k l w.after.frames
    left_lit (inl e) = e.1
    left_lit (inr e) = absurd (let z : new.lit ≡ true = h.3 in let y : new.lit ≡ false = e.0 in cc)

    pub ok_ready : over ≡ None → IsIsoReady k card tag after_ok
    ok_ready e =
        let fs : arrived (since k card tag was) ++ arrived w.events ≡ arrived (since k card tag after_ok) =
        sym (arrived_append (since k card tag was) w.events)
        ∙ ap arrived (sym (since_new k laws card tag holds old place start told i last over r new (length new.trace) i' (Some c) over c may (Some h.0) (Rests i') w)) in
        let cs : commands_of (since k card tag was) ++ c.bytes ∷ [] ≡ commands_of (since k card tag after_ok) = sym w.obeyed ∙ ap (λ (x : List Signal). iso_commands (blocks_of x)) fs in
        let Q : List (List ℕ) → List Signal → Type 0 = IsCut (card ready_tag.listener) in
        record {
          start = (let n : length new.trace ≡ length old.trace + length w.events = ap length w.trace ∙ length-append old.trace w.events in let m = r.start in omega (arith, n, m));
          told = refl;
          has = record {
            listener = ready_tag.listener;
            selected = ready_tag.selected;
            alone = ready_tag.alone;
            is = ready_tag.is;
            step = ready_tag.step;
            cut = subst (λ (x : List Signal). Q (commands_of (since k card tag after_ok)) x) fs (subst (λ (x : List (List ℕ)). Q x (arrived (since k card tag was) ++ arrived w.events)) cs
                ready_tag.cut);
          };
        }

    -- the tag cuts its answers as before
    same_card_backs : card_backs k card tag after_ok ≡ card_backs k card tag was
    same_card_backs =
        place_is k (λ (x : L). backs_of (card x)) (record { most = 0; busy = 0 }) (k.identifier l) new.listeners place w.after.left w.after.alone
        ∙ ap (λ (x : L). backs_of (card x)) (left_lit w.after.is)
        ∙ reached_cuts k laws card tag holds l w.after.frames w.after.asked r.has.is
        ∙ sym (place_is k (λ (x : L). backs_of (card x)) (record { most = 0; busy = 0 }) (k.identifier l) old.listeners place l r.has.alone)

    stands_ok : (o : Option AskFault) → o ≡ None → IsoStandsAt o new.lit i' (stand (asks i (c.bytes ∷ [])) w.notes)
    stands_ok None e = w.stands
    stands_ok (Some x) e = absurd cc

    abbrev ok_asks : IsoAsks k card tag was after_ok
    ok_asks = record {
      asked = c ∷ [];
      notes = w.notes;
      going = w.going;
      same = (refl, refl);
      stands = λ e. stands_ok over e;
      told = λ e. ap (λ (xs : List Signal). (iso_view k card tag after_ok).answered ++ xs) (none_left over (Some c) e) ∙ append-nil (iso_view k card tag after_ok).answered ∙ answered_one;
      within = shown_within k laws card tag holds old place start told i last over r new (length new.trace) i' (Some c) over c may (Some h.0) (Rests i') w;
      ended = λ x e. absurd cc;
    }

    ok_obeyed : IsoObeys k card tag was after_ok (c ∷ [])
    ok_obeyed = record {
      obeyed = handed c (Some h.0);
      once = inl (ap (λ (d : Signal). d ∷ []) (sym may));
      cuts = λ e. (rests_cut i i' (c.bytes ∷ []) w.notes w.stands, same_card_backs);
      leads = leads k laws card tag holds old place start told i last over r new (length new.trace) i' (Some c) over c may (Some h.0) (Rests i') w begun_ (λ e. h.3);
      images = shown_images k laws card tag holds old place start told i last over r new (length new.trace) i' (Some c) over c may (Some h.0) (Rests i') w;
    }

    pub ok_moves : IsoMoves k card tag was after_ok
    ok_moves = record { asks = ok_asks; obeys = ok_obeyed }

  -- a fault
  abbrev pub after_err : Air L → ReaderState → AskFault → IsoSeen L
  after_err new i' o = record { air = new; place = place; start = start; told = told; reader = i'; last = Some c; over = Some o }

  pub record Failed (new : Air L) (i' : ReaderState) (o : AskFault) : Type 0 where
    pub obeyed : Obeys (iso_view k card tag was) (iso_view k card tag (after_err new i' o)) c
    pub noise : (iso_view k card tag was).noise ≤ (iso_view k card tag (after_err new i' o)).noise
    pub either : ((iso_view k card tag (after_err new i' o)).state.store ≡ (iso_view k card tag was).state.store)
        ⊎ ((iso_view k card tag (after_err new i' o)).state.store ≡ ((iso_view k card tag was).step (iso_view k card tag was).state c).after.store)
    pub answered : (iso_view k card tag (after_err new i' o)).answered ≡ (iso_view k card tag was).answered
    pub calm : (o ≡ Memory) ⊎ ((old.lit ≡ false) ⊎ ((iso_view k card tag was).noise < (iso_view k card tag (after_err new i' o)).noise))
    pub more : List Signal
    pub once : EachOnce (Some o) (c ∷ []) more
    pub leads_to : Leads (iso_view k card tag was) (iso_view k card tag (after_err new i' o)) more
    pub images : Follows (iso_view k card tag was).state.store (stores_after k place (world old) (drop (length old.trace) new.trace))
        (passed (iso_view k card tag was).step (iso_view k card tag was).state more)
    pub notes : List Note
    pub going : Going (quiet_air k.machine) (iso_next i (c.bytes ∷ [])) (moment old) (moment new) notes
    pub stands : IsoStandsAt (Some o) new.lit i' (stand (asks i (c.bytes ∷ [])) notes)
    pub within : length going.events ≤ most_sent i.core.most (card_backs k card tag was) (iso_view k card tag was).step (iso_view k card tag was).state (c ∷ []) + 4 * bad_receptions going.events

  -- nothing was sent, since the field was dark
  dark_leads : (i' : ReaderState) → Leads (iso_view k card tag was) (iso_view k card tag (after_err old i' FieldLost)) []
  dark_leads i' = record {
    kind = refl;
    identifier = refl;
    step = refl;
    obeyed = sym (append-nil (iso_view k card tag was).obeyed);
    store = refl;
    state = λ e. absurd cc;
    ended = λ e h. absurd (let none : over ≡ None = begun_ in cc);
  }

  failed_dark : (i' : ReaderState) → old.lit ≡ false → Failed old i' FieldLost
  failed_dark i' dim = record {
    obeyed = record {
      more = [];
      leads = dark_leads i';
      steady = record { only = tt; same = tt; most = λ e. omega arith };
    };
    noise = omega arith;
    either = inl refl;
    answered = refl;
    calm = inr (inl dim);
    more = [];
    once = inr (λ e. absurd cc, c, refl);
    leads_to = dark_leads i';
    images =
        (let P : List Event → Type 0 = λ es. Follows (iso_view k card tag was).state.store (stores_after k place (world old) es) [] in
        subst P (sym (no_more old.trace)) tt);
    notes = [];
    going = going_start (quiet_air k.machine) (iso_next i (c.bytes ∷ [])) (moment old);
    stands = (dim, inr (block_frame (request (begun i c.bytes).core), begun i c.bytes, refl));
    within =
        (let none = ap length (none_between k old (iso_next i (c.bytes ∷ [])) [] (going_start (quiet_air k.machine) (iso_next i (c.bytes ∷ [])) (moment old))) in omega (arith, none));
  }

  -- the command was obeyed once, or not at all
  handed_once : (x : Option (List ℕ)) (o : AskFault) → EachOnce (Some o) (c ∷ []) (handed c x)
  handed_once None o = inr (λ e. absurd cc, c, refl)
  handed_once (Some r) o = inl (ap (λ (d : Signal). d ∷ []) (sym may))

  told_before : told ≤ length old.trace
  told_before = (let e = r.told in omega (arith, e))

  failed_by : (new : Air L) (i' : ReaderState) (o : AskFault) (x : Option (List ℕ)) (s : IsoStanding)
      (a : CommandTurns k card tag old new place l i (commands_of (since k card tag was)) (arrived (since k card tag was)) c.bytes x s)
      → ((o ≡ Memory) ⊎ (0 < noise a.events)) → IsoStandsAt (Some o) new.lit i' s → Failed new i' o
  failed_by new i' o x s a calm stands =
      let n = shown_noise k laws card tag holds old place start told i last over r new told i' (Some c) (Some o) c may x s a in
      record {
        obeyed = obeys k laws card tag holds old place start told i last over r new told i' (Some c) (Some o) c may x s a begun_ (λ e. absurd cc);
        noise = omega (arith, n);
        either = either_store k laws card tag holds old place start told i last over r new told i' (Some c) (Some o) c may x s a x refl;
        answered = still_answered k laws card tag holds old place start told i last over r new told i' (Some c) (Some o) c may x s a told_before;
        calm = by_calm calm n;
        more = handed c x;
        once = handed_once x o;
        leads_to = leads k laws card tag holds old place start told i last over r new told i' (Some c) (Some o) c may x s a begun_ (λ e. absurd cc);
        images = shown_images k laws card tag holds old place start told i last over r new told i' (Some c) (Some o) c may x s a;
        notes = a.notes;
        going = a.going;
        stands = subst (λ (z : IsoStanding). IsoStandsAt (Some o) new.lit i' z) (sym a.stands) stands;
        within = shown_within k laws card tag holds old place start told i last over r new told i' (Some c) (Some o) c may x s a;
      }
    where
      by_calm : {p q z : ℕ} → (o ≡ Memory) ⊎ (0 < z) → q ≡ p + z → (o ≡ Memory) ⊎ ((old.lit ≡ false) ⊎ (p < q))
      by_calm (inl m) e = inl m
      by_calm (inr b) e = inr (inr (omega (arith, b, e)))

  pub failed : (new : Air L) (i' : ReaderState) (o : AskFault)
      → EndsBy k card tag old new place l i i' (commands_of (since k card tag was)) (arrived (since k card tag was)) c.bytes (Err o) → Failed new i' o
  failed new i' FieldLost (inl d) = subst (λ (a : Air L). Failed a i' FieldLost) (sym d.1) (failed_dark i' d.0)
  failed new i' FieldLost (inr (x, s, a, p)) =
      let some : 0 < noise a.events = let b = p.2 in let l = breaks_noise a.events in omega (arith, b, l) in
      failed_by new i' FieldLost x s a (inr some) (p.1, inl p.0)
  failed new i' SixBad (x, s, a, p) = failed_by new i' SixBad x s a (inr p.2) p.0
  failed new i' Memory (x, s, a, p) = failed_by new i' Memory x s a (inl refl) (p.0, p.1)
  failed new i' Protocol h = absurd h

  module _ (new : Air L) (i' : ReaderState) (o : AskFault) (h : EndsBy k card tag old new place l i i' (commands_of (since k card tag was)) (arrived (since k card tag was)) c.bytes (Err o)) where
    x : Failed new i' o
    x = failed new i' o h

    pub err_obeys : Obeys (iso_view k card tag was) (iso_view k card tag (after_err new i' o)) c
    err_obeys = x.obeyed

    pub err_rises : Rises (iso_view k card tag was) (iso_view k card tag (after_err new i' o))
    err_rises = record { counts = counts_rise over (Some o) begun_; noise = x.noise }

    pub err_fault : IsFault (iso_view k card tag was) (iso_view k card tag (after_err new i' o)) c o
    err_fault = record { over = refl; store = x.either; answered = x.answered }

    abbrev err_asks : IsoAsks k card tag was (after_err new i' o)
    err_asks = record {
      asked = c ∷ [];
      notes = x.notes;
      going = x.going;
      same = (refl, refl);
      stands = λ e. x.stands;
      told = λ e. ap (λ (ys : List Signal). ys ++ c ∷ []) x.answered;
      within = x.within;
      ended = λ y e. absurd cc;
    }

    pub err_moves : IsoMoves k card tag was (after_err new i' o)
    err_moves = record {
      asks = err_asks;
      obeys = record {
        obeyed = x.more;
        once = x.once;
        cuts = λ e. absurd cc;
        leads = x.leads_to;
        images = x.images;
      };
    }

    -- where all transmissions passed the answer came
    pub err_calm : not old.lit ≡ false → (iso_view k card tag (after_err new i' o)).noise ≡ (iso_view k card tag was).noise → o ≡ Memory
    err_calm lit quiet = by_calm x.calm
      where
        by_calm : (o ≡ Memory) ⊎ ((old.lit ≡ false) ⊎ ((iso_view k card tag was).noise < (iso_view k card tag (after_err new i' o)).noise)) → o ≡ Memory
        by_calm (inl memory) = memory
        by_calm (inr (inl dim)) = absurd (let bright : not old.lit ≡ true = ap not dim in cc)
        by_calm (inr (inr noisy)) = absurd (omega (arith, quiet, noisy))

    -- the count of its cause rose
    pub err_cause : AskCause (iso_view k card tag was) (iso_view k card tag (after_err new i' o)) o
    err_cause = by_fault o
      where
        by_fault : (e : AskFault) → AskCause (iso_view k card tag was) (iso_view k card tag (after_err new i' e)) e
        by_fault FieldLost = inl (subst (λ (z : Option AskFault). (counts_of z).breaks < 1) (sym begun_) (omega arith))
        by_fault SixBad = subst (λ (z : Option AskFault). (counts_of z).six_bad < 1) (sym begun_) (omega arith)
        by_fault Memory = tt
        by_fault Protocol = subst (λ (z : Option AskFault). (counts_of z).odd < 1) (sym begun_) (omega arith)

-- all that an `ask` answers
pub record Answers {L : Type 0} (k : Ghosts L) (card : L → CardState) (tag : L → TagState) (a b : IsoSeen L) (c : Signal) (r : Result Signal AskFault) : Type 0 where
  pub obeys : Obeys (iso_view k card tag a) (iso_view k card tag b) c
  pub rises : Rises (iso_view k card tag a) (iso_view k card tag b)
  pub last : a.over ≡ None → b.last ≡ Some c
  pub ok : IfOk r (λ reply. IsAnswer (iso_view k card tag a) (iso_view k card tag b) c reply)
  pub err : IfErr r (λ e. IsFault (iso_view k card tag a) (iso_view k card tag b) c e)
  pub cause : a.over ≡ None → IfErr r (λ e. AskCause (iso_view k card tag a) (iso_view k card tag b) e)
  pub calm : a.over ≡ None → not a.air.lit ≡ false → (iso_view k card tag b).noise ≡ (iso_view k card tag a).noise → IfErr r (λ e. e ≡ Memory)
  pub ready : b.over ≡ None → IsIsoReady k card tag b
  pub moves : IsoMoves k card tag a b

module _ {L : Type 0} (k : Ghosts L) (laws : Laws k) (card : L → CardState) (tag : L → TagState) (holds : Holds k tag) (old : Air L) (place start told : ℕ) (i : ReaderState) (last : Option Signal)
    (over : Option AskFault)
    (c : Signal) (ready : over ≡ None → IsIsoReady k card tag (before k laws card tag holds old place start told i last over)) (may : c ≡ whole_a c.bytes) (q : IsoSeen L) where
  abbrev from : IsoSeen L
  from = before k laws card tag holds old place start told i last over

  -- on a link that isn't over
  open_answers : (e : over ≡ None) (r : Result Signal AskFault) → q ≡ link_after from q.air q.reader c r
      → EndsBy k card tag old q.air place (ready e).has.listener i q.reader (commands_of (since k card tag from)) (arrived (since k card tag from)) c.bytes r → Answers k card tag from q c r
  open_answers e (Ok reply) left h =
      let P : IsoSeen L → Type 0 = λ z. Answers k card tag from z c (Ok reply) in
      subst P (sym left) (record {
        obeys = ok_obeys k laws card tag holds old place start told i last over c e ready may q.air q.reader reply h;
        rises = ok_rises k laws card tag holds old place start told i last over c e ready may q.air q.reader reply h;
        last = λ n. refl;
        ok = ok_answer k laws card tag holds old place start told i last over c e ready may q.air q.reader reply h;
        err = tt;
        cause = λ n. tt;
        calm = λ n lit quiet. tt;
        ready = ok_ready k laws card tag holds old place start told i last over c e ready may q.air q.reader reply h;
        moves = ok_moves k laws card tag holds old place start told i last over c e ready may q.air q.reader reply h;
      })
  open_answers e (Err o) left h =
      let P : IsoSeen L → Type 0 = λ z. Answers k card tag from z c (Err o) in
      subst P (sym left) (record {
        obeys = err_obeys k laws card tag holds old place start told i last over c e ready may q.air q.reader o h;
        rises = err_rises k laws card tag holds old place start told i last over c e ready may q.air q.reader o h;
        last = λ n. refl;
        ok = tt;
        err = err_fault k laws card tag holds old place start told i last over c e ready may q.air q.reader o h;
        cause = λ n. err_cause k laws card tag holds old place start told i last over c e ready may q.air q.reader o h;
        calm = λ n lit quiet. err_calm k laws card tag holds old place start told i last over c e ready may q.air q.reader o h lit quiet;
        ready = λ n. absurd cc;
        moves = err_moves k laws card tag holds old place start told i last over c e ready may q.air q.reader o h;
      })

  -- on one that is over
  over_answers : (e : AskFault) → over ≡ Some e → Answers k card tag from from c (Err e)
  over_answers e h = record {
    obeys = record {
      more = [];
      leads = leads_again (iso_view k card tag from);
      steady = record { only = tt; same = tt; most = λ n. omega arith };
    };
    rises = rises_again (iso_view k card tag from);
    last = λ n. absurd cc;
    ok = tt;
    err = record { over = h; store = inl refl; answered = refl };
    cause = λ n. absurd cc;
    calm = λ n lit quiet. absurd cc;
    ready = ready;
    moves = moves_again k card tag from;
  }

  pub all_answers : (r : Result Signal AskFault) → (over ≡ None → CommandExchanged k.machine from q c r) → (over ≡ None → Exchanges k card tag old q.air place i q.reader c.bytes r)
      → ((e : AskFault) → over ≡ Some e → (r ≡ Err e) × (q ≡ from)) → Answers k card tag from q c r
  all_answers r turns does ended = by_over over refl
    where
      by_over : (o : Option AskFault) → over ≡ o → Answers k card tag from q c r
      by_over None e = open_answers e r (turns e).left (does e (commands_of (since k card tag from)) (arrived (since k card tag from)) (ready e).has)
      by_over (Some o) e =
          subst (λ (z : IsoSeen L). Answers k card tag from z c r) (sym (ended o e).1)
          (subst (λ (z : Result Signal AskFault). Answers k card tag from from c z) (sym (ended o e).0) (over_answers o e))
