-- What a link to a Type 4 tag shows once a command was asked.
use Rattle.std.proofs.Common.{◌≡◌, ℕ, ◌+◌, ◌-◌, ◌*◌, ◌/◌, ◌≤◌, ◌⊎◌, inl, inr, List, [], ◌∷◌, ◌++◌, length, take, drop, map, true, false, Option, Some, None, Ok, refl, sym, ◌∙◌, ap, subst, arith}
use Rattle.std.proofs.Common.{take_all}
use Rattle.std.proofs.lemmas.List.{drop-append-le, take-append-le, map-append}
use Rattle.std.specs.List.{AllByRecursion}
use Rattle.nfc_base.specs.Signal.{Signal, whole_a}
use Rattle.nfc_base.specs.Trace.{noise}
use Rattle.nfc_base.specs.StopAndWait.{delivered_of, pieces_back}
use Rattle.nfc_base.specs.LinkTurns.{arrived, GivenBy, bad_receptions}
use Rattle.nfc_base.specs.TagLinks.{TagState, TagStep, after_all, passed, Leads, Obeys}
use Rattle.nfc_base.specs.declared.event.Event.{Event}
use Rattle.nfc_base.specs.declared.tag_link.AskFault.{AskFault}
use Rattle.air_core.specs.World.{Machine}
use Rattle.air_core.specs.Turn.{Air, world}
use Rattle.air_core.specs.PlainTags.{reached}
use Rattle.air_core.specs.PlainLinks.{at_place, Follows, stores_after}
use Rattle.air_core.specs.laws.PlainMoving.{events_between}
use Rattle.std.proofs.Math.Seq.{drop-append_seam}
use Rattle.air_core.specs.declared.listener.Listener.{Ghosts}
use Rattle.air_core.proofs.PlainAside.{Laws}
use Rattle.air_core.proofs.PlainStores.{place_is}
use Rattle.air_core.proofs.PlainTurns.{noise_append}
use Rattle.isodep_link.specs.Card.{CardState}
use Rattle.isodep_link.specs.Reader.{ReaderState, waiting}
use Rattle.isodep_link.specs.Commands.{iso_commands}
use Rattle.nfc_base.specs.Pieces.{pieces}
use Rattle.isodep_link.specs.Exchange.{blocks_of, IsCut, Backs, backs_of, blocks_back}
use Rattle.isodep_link.specs.Activating.{first_link, AsksRats, Opens, IsActivated, RatsEnds, IsActivatedLink}
use Rattle.isodep_link.specs.CardTags as tags
use Rattle.isodep_link.specs.Asking.{IsoStanding, iso_next, CommandTurns}
use Rattle.isodep_link.specs.IsoLinks.{IsoSeen, commands_of, obeyed_in, answer_pieces, most_sent, since, card_backs, iso_view, IsIsoReady}
use Rattle.nfc_base.proofs.LinkTurns.{arrived_append}
use Rattle.isodep_link.proofs.CardTurns.{Holds}
use Rattle.isodep_link.proofs.AskingLaw.{reached_same}

-- the command, where something was given
abbrev pub handed : Signal → Option (List ℕ) → List Signal
handed c g = map whole_a (delivered_of c.bytes g)

-- an answer takes a piece at least
some_pieces : (n : Backs) (o : Option Signal) → 1 ≤ answer_pieces n o
some_pieces n None = omega arith
some_pieces n (Some f) = one_more n.busy ((length f.bytes - 1) / n.most)
  where
    one_more : (b m : ℕ) → 1 ≤ b + (1 + m)
    one_more b m = omega arith

-- what was given takes as many pieces as the answer of the tag's step, or none was given
given_pieces : (n : Backs) (step : TagState → Signal → TagStep) (s held : TagState) (c : List ℕ) (o : Option (List ℕ)) → GivenBy (tags.TagDoes step) s c o held
    → pieces_back (λ r. n.busy + pieces n.most r) o ≤ answer_pieces n (step s (whole_a c)).answer
given_pieces n step s held c None h = some_pieces n (step s (whole_a c)).answer
given_pieces n step s held c (Some r) h = let P : Option Signal → Type 0 = λ x. n.busy + pieces n.most r ≤ answer_pieces n x in subst P (sym h.0) (omega arith)

-- a bound by fewer blocks back is one by more
more_back : (n x p q b : ℕ) → n ≤ 2 * (x + p - 1) + 4 * b → p ≤ q → n ≤ 2 * (x + q - 1) + 0 + 4 * b
more_back n x p q b h l = omega (arith, h, l)

module _ {L : Type 0} (k : Ghosts L) (laws : Laws k) (card : L → CardState) (tag : L → TagState) (holds : Holds k tag) (old : Air L) (place start told : ℕ) (i : ReaderState) (last : Option Signal)
    (over : Option AskFault) where
  abbrev pub before : IsoSeen L
  before = record { air = old; place = place; start = start; told = told; reader = i; last = last; over = over }

  module _ (r : IsIsoReady k card tag before) where
    abbrev l : L
    l = r.has.listener

    was : {B : Type 0} (g : L → B) (d : B) → at_place g d old.listeners place ≡ g l
    was g d = place_is k g d (k.identifier l) old.listeners place l r.has.alone

    shown_state : (iso_view k card tag before).state ≡ tag l
    shown_state = was tag _

    -- a command was asked
    module _ (new : Air L) (told' : ℕ) (i' : ReaderState) (last' : Option Signal) (over' : Option AskFault) (c : Signal) (may : c ≡ whole_a c.bytes) (g : Option (List ℕ)) (s : IsoStanding)
        (w : CommandTurns k card tag old new place l i (commands_of (since k card tag before)) (arrived (since k card tag before)) c.bytes g s) where
      abbrev pub behind : IsoSeen L
      behind = record { air = new; place = place; start = start; told = told'; reader = i'; last = last'; over = over' }

      abbrev left : L
      left = w.after.left

      now : {B : Type 0} (g : L → B) (d : B) → at_place g d new.listeners place ≡ g left
      now g d = place_is k g d (k.identifier l) new.listeners place left w.after.alone

      abbrev IsLeft : Type 0
      IsLeft = ((new.lit ≡ true) × (left ≡ reached k l w.after.frames)) ⊎ ((new.lit ≡ false) × (left ≡ k.machine.darkened (reached k l w.after.frames)))

      left_commands : IsLeft → k.commands left ≡ k.commands l
      left_commands (inl e) = ap k.commands e.1 ∙ (reached_same k laws l w.after.frames).commands'
      left_commands (inr e) = ap k.commands e.1 ∙ (laws.dark_keeps (reached k l w.after.frames)).0.commands' ∙ (reached_same k laws l w.after.frames).commands'

      left_identifier : IsLeft → k.identifier left ≡ k.identifier l
      left_identifier (inl e) = ap k.identifier e.1 ∙ (reached_same k laws l w.after.frames).identifier'
      left_identifier (inr e) = ap k.identifier e.1 ∙ (laws.dark_keeps (reached k l w.after.frames)).0.identifier' ∙ (reached_same k laws l w.after.frames).identifier'

      reached_store : k.store (reached k l w.after.frames) ≡ w.held.store
      reached_store = sym (holds (reached k l w.after.frames)) ∙ ap (λ (t : TagState). t.store) w.after.holds

      left_store : IsLeft → k.store left ≡ w.held.store
      left_store (inl e) = ap k.store e.1 ∙ reached_store
      left_store (inr e) = ap k.store e.1 ∙ (laws.dark_keeps (reached k l w.after.frames)).1 ∙ reached_store

      same_step : (iso_view k card tag behind).step ≡ (iso_view k card tag before).step
      same_step = now k.commands _ ∙ left_commands w.after.is ∙ sym (was k.commands _)

      pub since_new : drop start new.trace ≡ drop start old.trace ++ w.events
      since_new = ap (drop start) w.trace ∙ drop-append-le start old.trace w.events r.start

      pub shown_obeyed : (iso_view k card tag behind).obeyed ≡ (iso_view k card tag before).obeyed ++ handed c g
      shown_obeyed =
          ap obeyed_in since_new ∙ ap (λ fs. map whole_a (iso_commands (blocks_of fs))) (arrived_append (drop start old.trace) w.events) ∙ ap (map whole_a) w.obeyed
          ∙ map-append whole_a (commands_of (drop start old.trace)) (delivered_of c.bytes g)

      -- the step of the command where something was given
      after_given : (o : Option (List ℕ)) (held : TagState) → GivenBy (tags.TagDoes (k.commands l)) (tag l) c.bytes o held → held ≡ after_all (k.commands l) (tag l) (handed c o)
      after_given None held h = h
      after_given (Some x) held h = h.1

      pub held_after : w.held ≡ after_all (k.commands l) (tag l) (handed c g)
      held_after = after_given g w.held w.given_by

      -- where the field is lit, the link shows what the tag holds; in the dark its store alone
      pub shown_held : new.lit ≡ true → (iso_view k card tag behind).state ≡ w.held
      shown_held lit = now tag _ ∙ by_light w.after.is
        where
          by_light : IsLeft → tag left ≡ w.held
          by_light (inl e) = ap tag e.1 ∙ w.after.holds
          by_light (inr e) = absurd (let dim : new.lit ≡ false = e.0 in cc)

      pub shown_store : (iso_view k card tag behind).state.store ≡ w.held.store
      shown_store = ap (λ (t : TagState). t.store) (now tag _) ∙ holds left ∙ left_store w.after.is

      held_by : (o : Option (List ℕ)) → o ≡ g → w.held ≡ after_all (k.commands l) (tag l) (handed c o)
      held_by o e = held_after ∙ ap (λ (z : Option (List ℕ)). after_all (k.commands l) (tag l) (handed c z)) (sym e)

      after_shown : after_all (k.commands l) (tag l) (handed c g) ≡ after_all (iso_view k card tag before).step (iso_view k card tag before).state (handed c g)
      after_shown =
          ap (λ (t : TagState). after_all (k.commands l) t (handed c g)) (sym shown_state)
          ∙ ap (λ (z : TagState → Signal → TagStep). after_all z (iso_view k card tag before).state (handed c g)) (sym (was k.commands _))

      pub leads : over ≡ None → (over' ≡ None → new.lit ≡ true) → Leads (iso_view k card tag before) (iso_view k card tag behind) (handed c g)
      leads begun_ stays_lit = record {
        kind = refl;
        identifier = now k.identifier [] ∙ left_identifier w.after.is ∙ sym (was k.identifier []);
        step = same_step;
        obeyed = shown_obeyed;
        store = shown_store ∙ ap (λ (t : TagState). t.store) (held_after ∙ after_shown);
        state = λ e. shown_held (stays_lit e) ∙ held_after ∙ after_shown;
        ended = λ e h. absurd (let none : over ≡ None = begun_ in cc);
      }

      only_handed : (o : Option (List ℕ)) → AllByRecursion (λ d. d ≡ c) (handed c o)
      only_handed None = tt
      only_handed (Some x) = (sym may, tt)

      same_handed : (o : Option (List ℕ)) (step : TagState → Signal → TagStep) (t : TagState) → AllByRecursion (λ z. z ≡ (step t c).after.store) (passed step t (handed c o))
      same_handed None step t = tt
      same_handed (Some x) step t = (ap (λ (d : Signal). (step t d).after.store) (sym may), tt)

      most_handed : (o : Option (List ℕ)) → length (handed c o) ≤ 1
      most_handed None = omega arith
      most_handed (Some x) = omega arith

      pub obeys : over ≡ None → (over' ≡ None → new.lit ≡ true) → Obeys (iso_view k card tag before) (iso_view k card tag behind) c
      obeys begun_ stays_lit = record {
        more = handed c g;
        leads = leads begun_ stays_lit;
        steady = record {
          only = only_handed g;
          same = same_handed g (iso_view k card tag before).step (iso_view k card tag before).state;
          most = λ e. most_handed g;
        };
      }

      -- the stores that the tag passed, as the link shows them
      pub shown_images : Follows (iso_view k card tag before).state.store (stores_after k place (world old) (drop (length old.trace) new.trace))
          (passed (iso_view k card tag before).step (iso_view k card tag before).state (handed c g))
      shown_images =
          let now_is : (iso_view k card tag before).state.store ≡ k.store l = ap (λ (t : TagState). t.store) shown_state ∙ holds l in
          let es : drop (length old.trace) new.trace ≡ w.events = ap (drop (length old.trace)) w.trace ∙ drop-append_seam old.trace w.events in
          let P : List Event → Type 0 = λ xs. Follows (iso_view k card tag before).state.store (stores_after k place (world old) xs)
          (passed (iso_view k card tag before).step (iso_view k card tag before).state (handed c g)) in
          let Q : List ℕ → Type 0 = λ z. Follows z (stores_after k place (world old) w.events) (passed (iso_view k card tag before).step (iso_view k card tag before).state (handed c g)) in
          let R : TagState → Type 0 = λ z. Follows (k.store l) (stores_after k place (world old) w.events) (passed (iso_view k card tag before).step z (handed c g)) in
          let S : (TagState → Signal → TagStep) → Type 0 = λ z. Follows (k.store l) (stores_after k place (world old) w.events) (passed z (tag l) (handed c g)) in
          subst P (sym es) (subst Q (sym now_is) (subst R (sym shown_state) (subst S (sym (was k.commands _)) w.images)))

      pub shown_noise : (iso_view k card tag behind).noise ≡ (iso_view k card tag before).noise + noise w.events
      shown_noise = ap noise since_new ∙ noise_append (drop start old.trace) w.events

      -- what the tag does with the command, as the link shows it
      pub shown_step : (iso_view k card tag before).step (iso_view k card tag before).state c ≡ k.commands l (tag l) (whole_a c.bytes)
      shown_step =
          let S : TagState → TagStep = λ x. (iso_view k card tag before).step x c in
          let T : (TagState → Signal → TagStep) → TagStep = λ z. z (tag l) c in
          ap S shown_state ∙ ap T (was k.commands _) ∙ ap (λ (d : Signal). k.commands l (tag l) d) may

      -- how many transmissions the command took at most, as the link shows it
      pub shown_within : length w.going.events
          ≤ most_sent i.core.most (card_backs k card tag before) (iso_view k card tag before).step (iso_view k card tag before).state (c ∷ []) + 4 * bad_receptions w.going.events
      shown_within =
          let e = (events_between k old new (iso_next i (c.bytes ∷ [])) w.notes w.going).0 in
          let es : w.events ≡ w.going.events = sym (drop-append_seam old.trace w.events) ∙ sym (ap (drop (length old.trace)) w.trace) ∙ e in
          let P : TagStep → Type 0 = λ x. pieces_back (blocks_back (card l)) g ≤ answer_pieces (backs_of (card l)) x.answer in
          let Q : Backs → Type 0 = λ n. pieces_back (blocks_back (card l)) g ≤ answer_pieces n ((iso_view k card tag before).step (iso_view k card tag before).state c).answer in
          let back : Q (card_backs k card tag before) =
          subst Q (sym (was (λ (x : L). backs_of (card x)) (record { most = 0; busy = 0 }))) (subst P (sym shown_step)
          (given_pieces (backs_of (card l)) (k.commands l) (tag l) w.held c.bytes g w.given_by)) in
          let R : List Event → Type 0 = λ xs. length xs ≤ 2 * (pieces i.core.most c.bytes + pieces_back (blocks_back (card l)) g - 1) + 4 * bad_receptions xs in
          more_back _ _ _ _ _ (subst R es w.within) back

      -- the tag holds what it held before the command or what it holds after it
      pub either_store : (o : Option (List ℕ)) → o ≡ g
          → ((iso_view k card tag behind).state.store ≡ (iso_view k card tag before).state.store)
          ⊎ ((iso_view k card tag behind).state.store ≡ ((iso_view k card tag before).step (iso_view k card tag before).state c).after.store)
      either_store None e = inl (shown_store ∙ ap (λ (t : TagState). t.store) (held_by None e ∙ sym shown_state))
      either_store (Some x) e =
          inr (shown_store ∙ ap (λ (t : TagState). t.store) (held_by (Some x) e ∙ sym (ap (λ (z : TagStep). z.after) shown_step)))

      -- what was answered before stays answered
      pub still_answered : told ≤ length old.trace → obeyed_in (drop start (take told new.trace)) ≡ (iso_view k card tag before).answered
      still_answered h = ap (λ (es : List Event). obeyed_in (drop start (take told es))) w.trace ∙ ap (λ (es : List Event). obeyed_in (drop start es)) (take-append-le told old.trace w.events h)

      pub all_answered : obeyed_in (drop start (take (length new.trace) new.trace)) ≡ (iso_view k card tag behind).obeyed
      all_answered = ap (λ (es : List Event). obeyed_in (drop start es)) (take_all (length new.trace) new.trace (omega arith))

    -- before it all that was obeyed was answered
    pub answered_before : (iso_view k card tag before).answered ≡ (iso_view k card tag before).obeyed
    answered_before = ap (λ (es : List Event). obeyed_in (drop start es)) (take_all told old.trace (let e = r.told in omega (arith, e)))

pub no_more : (xs : List Event) → drop (length xs) xs ≡ []
no_more [] = refl
no_more (x ∷ xs) = no_more xs

-- a link that is made where a tag was activated is ready
ready_on : {L : Type 0} (k : Ghosts L) (card : L → CardState) (tag : L → TagState) (air : Air L) (place : ℕ) (i : ReaderState) → IsActivated k card tag air place i
    → IsIsoReady k card tag (record { air = air; place = place; start = length air.trace; told = length air.trace; reader = i; last = None; over = None })
ready_on k card tag air place i a =
    let none : drop (length air.trace) air.trace ≡ [] = no_more air.trace in
    let Q : List Event → Type 0 = λ es. IsCut (card a.has.listener) (commands_of es) (arrived es) in
    record {
      start = omega arith;
      told = refl;
      has = record {
        listener = a.has.listener;
        selected = a.has.selected;
        alone = a.has.alone;
        is = a.has.is;
        step = a.has.step;
        cut = subst Q (sym none) a.has.cut;
      };
    }

-- the first link to what answered RATS
pub opens : {L : Type 0} (m : Machine L) (old new : Air L) (place code : ℕ) (p : IsoSeen L) → p ≡ first_link new place code → AsksRats m old new (Ok code) → Opens m old place p
opens m old new place code p e asks =
    let P : IsoSeen _ → Type 0 = λ q. Opens m old place q in
    subst P (sym e) (record { code = code; asks = asks; first = refl })

-- the first link to a tag whose answer to RATS came is one to a tag that was activated
pub activated_link : {L : Type 0} (k : Ghosts L) (card : L → CardState) (tag : L → TagState) (old new : Air L) (place code : ℕ) (p : IsoSeen L) → p ≡ first_link new place code
    → RatsEnds k card tag old new place (Ok code) → IsActivatedLink k card tag old p
activated_link k card tag old new place code p e (sent, lit, is, tells) =
    let P : IsoSeen _ → Type 0 = λ q. IsActivatedLink k card tag old q in
    subst P (sym e) (record { code = code; sent = sent; tells = tells; lit = lit; activated = is; reader = refl; ready = ready_on k card tag new place (waiting code) is })
