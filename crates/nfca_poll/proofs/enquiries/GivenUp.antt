-- A call by rounds that is disturbed gave up each of its rounds, over any listeners: by what was heard, or since an identifier came again.
use Rattle.std.proofs.Common.{◌≡◌, inl, inr, ◌<◌, ◌≤◌, ℕ, ◌+◌, ◌-◌, List, [], ◌∷◌, ◌++◌, length, drop, take, map, slice_index, Bool, true, false, not, ◌&&◌, ◌||◌, nat_lt, nat_le, if◌then◌else◌}
use Rattle.std.proofs.Common.{Option, Some, None, Result, Err, refl, sym, ◌∙◌, ap, subst, append_assoc, arith, take_all}
use Rattle.std.specs.List.{list_any}
use Rattle.std.proofs.lemmas.List.{append-nil, length-append}
use Rattle.std.proofs.lemmas.List.Folds.{list_any-append}
use Rattle.nfc_base.specs.Signal.{Signal}
use Rattle.nfc_base.specs.Bits.{bits, packed}
use Rattle.nfc_base.specs.Trace.{Turn, turns, heard}
use Rattle.nfc_base.specs.declared.event.Event.{Event}
use Rattle.nfc_base.specs.declared.event.Event.TheVariants.{Reset}
use Rattle.nfc_base.specs.declared.event.Fate.{Fate}
use Rattle.nfc_base.specs.declared.event.Heard.{Heard}
use Rattle.nfc_base.specs.declared.event.Heard.TheVariants.{Whole, Collided, Damaged, Silent}
use Rattle.air_core.specs.World.{Machine, World}
use Rattle.air_core.specs.Turn.{Air, moment}
use Rattle.air_core.specs.Conversation.{LightUp, Asks, note, replay, turn_events, turn_heard}
use Rattle.nfca_poll.specs.declared.kind.Kind.{Kind}
use Rattle.nfca_poll.specs.declared.fault.Picked.{Picked}
use Rattle.nfca_poll.specs.declared.fault.PollFault.{PollFault}
use Rattle.nfca_poll.specs.declared.fault.PollFault.TheVariants as faults
use Rattle.nfca_poll.specs.Muted.{mute_air}
use Rattle.nfca_poll.specs.Levels.{identifier}
use Rattle.nfca_poll.specs.Calls.{Reading, Calls, Sens, Slp, Sdd, Sel, call_of, call_frame}
use Rattle.nfca_poll.specs.Crowd.{Each}
use Rattle.nfca_poll.specs.Enquiry.{Progress, Reaches, Loses, progress, answer_of, Enquires}
use Rattle.nfca_poll.specs.Poll.{Seek, Calling, Asking, Selecting, Ended, Nobody, Disturbed, BadAnswer, Found, seek_step, seek_next, selected, goes_on, kind_of, has_bit, is_one_byte, is_level}
use Rattle.nfca_poll.specs.Poll.{collision_bits}
use Rattle.nfca_poll.specs.Seeking.{resolution}
use Rattle.nfca_poll.specs.Rounds.{Aim, Search, Begins, Seeks, Sends, Told, most_rounds, most_found, next_round, has_found, is_same, met_or_taken, sought, searching, search_lit, search_next, finding}
use Rattle.nfca_poll.specs.Rounds.{picking, all_devices, device_of}
use Rattle.nfca_poll.specs.RoundTrace.{rounds}
use Rattle.nfca_poll.specs.ByHeard.{has_missed}
use Rattle.nfca_poll.specs.Twice.{Named, named_by, named_after, with_levels, is_last, selected_ids, IsGivenUp, AllGivenUp}
use Rattle.nfca_poll.proofs.enquiries.EnquiryWalks.{after, holds, turn_fresh}
use Rattle.nfca_poll.proofs.enquiries.EnquiryEnds.{events_gained}
use Rattle.nfca_poll.proofs.enquiries.TurnWalks.{turns-append, IsTurn, turn_of}
use Rattle.nfca_poll.proofs.identifiers.CallsRead.{sdd_read, sel_read}
use Rattle.nfca_poll.proofs.quiet.RoundParts.{NoReset, no_reset-append, one_more_round, turn_whole}
use Rattle.nfca_poll.proofs.enquiries.TellingResolution as resolving
use Rattle.nfca_poll.proofs.enquiries.TellingResolution.{due}

abbrev pub from_here : Named
from_here = record { levels = []; ids = [] }

abbrev pub ids_of : List Picked → List (List ℕ)
ids_of found = map (λ (p : Picked). p.id) found

-- a turn more
named_more : (n : Named) (ts : List Turn) (t : Turn) → named_after n (ts ++ t ∷ []) ≡ named_by (named_after n ts) (call_of t.request) (heard t)
named_more n [] t = refl
named_more n (u ∷ ts) t = named_more (named_by n (call_of u.request) (heard u)) ts t

-- how the identifiers that were selected stand to those that were found, where a resolution is so far
abbrev Stands : List Picked → Seek → Named → Type 0
Stands found (Calling k) n = n.ids ≡ ids_of found
Stands found (Asking done known) n = (n.ids ≡ ids_of found) × (take (length done) n.levels ≡ done)
Stands found (Selecting done l) n = (n.ids ≡ ids_of found) × (take (length done) n.levels ≡ done)
Stands found (Ended Nobody) n = Unit {0}
Stands found (Ended Disturbed) n = Unit {0}
Stands found (Ended BadAnswer) n = Unit {0}
Stands found (Ended (Found ls kind)) n = n.ids ≡ ids_of found ++ identifier ls ∷ []

module _ (found : List Picked) where
  called : (k : ℕ) (n : Named) → n.ids ≡ ids_of found → (v : Bool) → Stands found (if v then Calling (k + 1) else Ended Nobody) n
  called k n e true = e
  called k n e false = tt

  presence_heard : (k : ℕ) (n : Named) (h : Heard) → n.ids ≡ ids_of found → Stands found (seek_step (Calling k) h) n
  presence_heard k n (Whole g) e = (e, refl)
  presence_heard k n (Collided g) e = (e, refl)
  presence_heard k n Damaged e = (e, refl)
  presence_heard k n Silent e = called k n e (nat_lt k 3)

  completes : (done : List (List ℕ)) (known : List Bool) (n : Named) → Stands found (Asking done known) n → (v : Bool) → Stands found (if v then Selecting done (packed known) else Ended BadAnswer) n
  completes done known n s true = s
  completes done known n s false = tt

  narrows : (done : List (List ℕ)) (known : List Bool) (n : Named) → Stands found (Asking done known) n → (v : Bool) → Stands found (if v then Ended BadAnswer else Asking done (known ++ true ∷ [])) n
  narrows done known n s true = tt
  narrows done known n s false = s

  level_heard : (done : List (List ℕ)) (known : List Bool) (n : Named) (h : Heard) → Stands found (Asking done known) n → Stands found (seek_step (Asking done known) h) n
  level_heard done known n (Whole g) s = completes done (known ++ bits g) n s (is_level (known ++ bits g))
  level_heard done known n (Collided g) s = narrows done (known ++ bits g) n s (nat_le collision_bits (length (known ++ bits g)))
  level_heard done known n Damaged s = tt
  level_heard done known n Silent s = tt

  -- SEL_REQ of a level
  module _ (done : List (List ℕ)) (l : List ℕ) (n : Named) (s : Stands found (Selecting done l) n) where
    abbrev there : List (List ℕ)
    there = take (length done + 1 - 1) n.levels ++ l ∷ []

    there_is : there ≡ done ++ l ∷ []
    there_is =
        let less : length done + 1 - 1 ≡ length done = omega arith in
        ap (λ k. take k n.levels ++ l ∷ []) less ∙ ap (λ ls. ls ++ l ∷ []) s.1

    goes : take (length (done ++ l ∷ [])) there ≡ done ++ l ∷ []
    goes = ap (take (length (done ++ l ∷ []))) there_is ∙ take_all (length (done ++ l ∷ [])) (done ++ l ∷ []) (omega arith)

    last : n.ids ++ identifier there ∷ [] ≡ ids_of found ++ identifier (done ++ l ∷ []) ∷ []
    last = ap (λ ids. ids ++ identifier there ∷ []) s.0 ∙ ap (λ ls. ids_of found ++ identifier ls ∷ []) there_is

    res_heard : (res : ℕ) (v g : Bool) → Stands found (if v then (if g then Asking (done ++ l ∷ []) [] else Ended BadAnswer)
        else (if g then Ended BadAnswer else Ended (Found (done ++ l ∷ []) (kind_of res)))) (with_levels n there (not v))
    res_heard res true true = (s.0, goes)
    res_heard res true false = tt
    res_heard res false true = tt
    res_heard res false false = last

    byte_heard : (res : ℕ) (v : Bool) → Stands found (if v then selected done l res else Ended BadAnswer) (with_levels n there (v && not (has_bit res 0x04)))
    byte_heard res true = res_heard res (has_bit res 0x04) (goes_on done l)
    byte_heard res false = tt

    sel_heard : (h : Heard) → Stands found (seek_step (Selecting done l) h) (with_levels n there (is_last (Some h)))
    sel_heard (Whole g) = byte_heard (slice_index g.bytes 0) (is_one_byte g)
    sel_heard (Collided g) = tt
    sel_heard Damaged = tt
    sel_heard Silent = tt

sens_read : call_of (call_frame Sens) ≡ Calls Sens
sens_read = refl

slp_read : call_of (call_frame Slp) ≡ Calls Slp
slp_read = refl

-- a resolution goes on by a turn
seeks_on : (found : List Picked) (s : Seek) (n : Named) (own : List Turn) (t : Turn) (h : Heard) → heard t ≡ Some h → resolving.At (Reaches s) own → Stands found s n → seek_next s ≡ Asks t.request
    → Stands found (seek_step s h) (named_by n (call_of t.request) (heard t))
seeks_on found (Calling k) n own t h q a s e =
    let c : call_of t.request ≡ Calls Sens = ap call_of (due (call_frame Sens) t.request e) ∙ sens_read in
    let P : Reading → Type 0 = λ r. Stands found (seek_step (Calling k) h) (named_by n r (heard t)) in
    subst P (sym c) (presence_heard found k n h s)
seeks_on found (Asking done known) n own t h q a s e =
    let i : ℕ = length done + 1 in
    let c : call_of t.request ≡ Calls (Sdd i known) = ap call_of (due (call_frame (Sdd i known)) t.request e) ∙ sdd_read i known (omega arith) (omega (arith, a.2)) (omega (arith, a.3)) in
    let P : Reading → Type 0 = λ r. Stands found (seek_step (Asking done known) h) (named_by n r (heard t)) in
    subst P (sym c) (level_heard found done known n h s)
seeks_on found (Selecting done l) n own t h q a s e =
    let i : ℕ = length done + 1 in
    let c : call_of t.request ≡ Calls (Sel i l) = ap call_of (due (call_frame (Sel i l)) t.request e) ∙ sel_read i l (omega arith) (omega (arith, a.2)) a.3 in
    let P : Reading → Type 0 = λ r. Stands found (seek_step (Selecting done l) h) (named_by n r (heard t)) in
    let H : Option Heard → Type 0 = λ o. Stands found (seek_step (Selecting done l) h) (named_by n (Calls (Sel i l)) o) in
    subst P (sym c) (subst H (sym q) (sel_heard found done l n s h))
seeks_on found (Ended o) n own t h q a s e = absurd cc

each_snoc : {X : Type 0} (P : X → Type 0) (xs : List X) (x : X) → Each P xs → P x → Each P (xs ++ x ∷ [])
each_snoc P [] x p q = (q, tt)
each_snoc P (y ∷ xs) x p q = (p.0, each_snoc P xs x p.1 q)

pub or_right : (v w : Bool) → w ≡ true → (v || w) ≡ true
or_right true w e = refl
or_right false w e = e

-- How the rounds before this one went, and what happened in this one.
record InRound (es : List Event) (round : ℕ) (now : List Event) : Type 0 where
  before : List Event
  made : es ≡ before ++ Reset ∷ now
  whole : NoReset now
  given : Each IsGivenUp (rounds before)
  count : length (rounds before) + 1 ≡ round
  few : round ≤ most_rounds

record InSeek (es : List Event) (round : ℕ) (found : List Picked) (s : Seek) : Type 0 where
  now : List Event
  here : InRound es round now
  earlier : List Turn
  own : List Turn
  split : turns now ≡ earlier ++ own
  at : resolving.At (Reaches s) own
  stands : Stands found s (named_after from_here (turns now))

record InSend (es : List Event) (round : ℕ) (found : List Picked) : Type 0 where
  now : List Event
  here : InRound es round now
  ids : selected_ids (turns now) ≡ ids_of found

module _ {X : Type 0} (aim : Aim X) where
  abbrev At : Progress (Search X) → List Event → Type 0
  At (Reaches (Begins n)) es = Each IsGivenUp (rounds es) × (length (rounds es) + 1 ≡ n) × (n ≤ most_rounds)
  At (Reaches (Seeks n found s)) es = InSeek es n found s
  At (Reaches (Sends n found)) es = InSend es n found
  At (Reaches (Told r)) es = r ≡ Err faults.Disturbed → AllGivenUp es
  At Loses es = Unit {0}

  -- a round is given up
  gives_up : (es now : List Event) (n : ℕ) → InRound es n now → IsGivenUp now → At (Reaches (next_round n)) es
  gives_up es now n i g = by_count (nat_lt n most_rounds) refl
    where
      r : rounds es ≡ rounds i.before ++ now ∷ []
      r = ap rounds i.made ∙ one_more_round i.before now i.whole

      all : Each IsGivenUp (rounds es)
      all = let P : List (List Event) → Type 0 = λ rs. Each IsGivenUp rs in subst P (sym r) (each_snoc IsGivenUp (rounds i.before) now i.given g)

      count : length (rounds es) ≡ n
      count = ap length r ∙ length-append (rounds i.before) (now ∷ []) ∙ i.count

      by_count : (v : Bool) → nat_lt n most_rounds ≡ v → At (Reaches (if v then Begins (n + 1) else Told (Err faults.Disturbed))) es
      by_count true q = let less : n < 4 = grind arith in (all, ap (λ k. k + 1) count, omega (arith, less))
      by_count false q = λ e. let far : 4 ≤ n = grind arith in record { all = let f = i.few in omega (arith, count, far, f); each = all }

  same_found : (found : List Picked) (id : List ℕ) → list_any (λ i. is_same i id) (ids_of found) ≡ has_found found id
  same_found [] id = refl
  same_found (p ∷ ps) id = ap (λ v. is_same p.id id || v) (same_found ps id)

  -- a device was found
  module _ (es now : List Event) (n : ℕ) (found : List Picked) (p : Picked) (i : InRound es n now) (ids : selected_ids (turns now) ≡ ids_of found ++ p.id ∷ []) where
    full_at : (v : Bool) → At (Reaches (if v then Sends n (found ++ p ∷ []) else Told (Err faults.BadAnswer))) es
    full_at true = record { now = now; here = i; ids = ids ∙ sym (mapped found) }
      where
        mapped : (qs : List Picked) → ids_of (qs ++ p ∷ []) ≡ ids_of qs ++ p.id ∷ []
        mapped [] = refl
        mapped (q ∷ qs) = ap (λ xs. q.id ∷ xs) (mapped qs)
    full_at false = λ e. absurd cc

    met_at : (v : Bool) → has_found found p.id ≡ v → At (Reaches (if v then next_round n else if nat_lt (length found) most_found then Sends n (found ++ p ∷ []) else Told (Err faults.BadAnswer))) es
    met_at true e = gives_up es now n i (inr (record { before = ids_of found; id = p.id; all = ids; again = same_found found p.id ∙ e }))
    met_at false e = full_at (nat_lt (length found) most_found)

    taken_at : (o : Option X) → At (Reaches (met_or_taken aim next_round n found p o)) es
    taken_at (Some x) = λ e. absurd cc
    taken_at None = met_at (has_found found p.id) refl

  module _ (no_disturbed : (found : List Picked) → aim.nobody found ≡ Err faults.Disturbed → ⊥) where
    -- what a resolution has come to
    sought_at : (es : List Event) (n : ℕ) (found : List Picked) (s : Seek) → InSeek es n found s → At (Reaches (sought aim next_round n found s)) es
    sought_at es n found (Calling k) x = x
    sought_at es n found (Asking done known) x = x
    sought_at es n found (Selecting done l) x = x
    sought_at es n found (Ended Nobody) x = λ e. absurd (no_disturbed found e)
    sought_at es n found (Ended Disturbed) x =
        let missed : has_missed (turns x.now) ≡ true = ap has_missed x.split ∙ list_any-append _ x.earlier x.own ∙ or_right (has_missed x.earlier) (has_missed x.own) (x.at.disturbed.0 refl) in
        gives_up es x.now n x.here (inl missed)
    sought_at es n found (Ended BadAnswer) x = λ e. absurd cc
    sought_at es n found (Ended (Found ls kind)) x =
        let p : Picked = record { id = identifier ls; kind = kind } in taken_at es x.now n found p x.here x.stands (aim.takes p)

    lit_at : (s : Search X) (es : List Event) → At (Reaches s) es → search_next aim s ≡ LightUp → At (Reaches (search_lit aim s)) (es ++ Reset ∷ [])
    lit_at (Begins n) es k e = record {
      now = [];
      here = record { before = es; made = refl; whole = tt; given = k.0; count = k.1; few = k.2 };
      earlier = [];
      own = [];
      split = refl;
      at = resolving.begins;
      stands = refl;
    }
    lit_at (Seeks n found (Calling j)) es k e = absurd cc
    lit_at (Seeks n found (Asking done known)) es k e = absurd cc
    lit_at (Seeks n found (Selecting done l)) es k e = absurd cc
    lit_at (Seeks n found (Ended o)) es k e = absurd cc
    lit_at (Sends n found) es k e = absurd cc
    lit_at (Told r) es k e = absurd cc

    module _ {L : Type 0} (m : Machine L) (w : World L) (es : List Event) (f : Signal) (x y : Fate) where
      abbrev fs : List Event
      fs = turn_events (mute_air m) w f x y

      i : IsTurn (mute_air m) w f x y
      i = turn_of (mute_air m) w f x y

      round_on : (n : ℕ) (now : List Event) → InRound es n now → InRound (es ++ fs) n (now ++ fs)
      round_on n now r = record {
        before = r.before;
        made = ap (λ xs. xs ++ fs) r.made ∙ append_assoc r.before (Reset ∷ now) fs;
        whole = no_reset-append now fs r.whole (turn_whole (mute_air m) w f x y);
        given = r.given;
        count = r.count;
        few = r.few;
      }

      turns_on : (now : List Event) → turns (now ++ fs) ≡ turns now ++ i.turn ∷ []
      turns_on now = turns-append now fs (turn_fresh (mute_air m) w f x y) ∙ ap (λ ts. turns now ++ ts) i.made

      seek_on : (n : ℕ) (found : List Picked) (s : Seek) (h : Heard) → turn_heard (mute_air m) w f x y ≡ Some h → InSeek es n found s → seek_next s ≡ Asks f → InSeek (es ++ fs) n found (seek_step s h)
      seek_on n found s h q k e =
          let heard_is : heard i.turn ≡ Some h = i.hears ∙ q in
          let e' : seek_next s ≡ Asks i.turn.request = e ∙ ap Asks (sym i.request) in
          let R : Option Heard → Type 0 = λ o. resolving.At (after resolution (Reaches s) (note o)) (k.own ++ i.turn ∷ []) in
          let N : List Turn → Type 0 = λ ts. Stands found (seek_step s h) (named_after from_here ts) in
          let P : Named → Type 0 = λ z. Stands found (seek_step s h) z in
          record {
            now = k.now ++ fs;
            here = round_on n k.now k.here;
            earlier = k.earlier;
            own = k.own ++ i.turn ∷ [];
            split = turns_on k.now ∙ ap (λ ts. ts ++ i.turn ∷ []) k.split ∙ append_assoc k.earlier k.own (i.turn ∷ []);
            at = subst R heard_is (resolving.asked s k.own i.turn k.at e');
            stands =
                subst N (sym (turns_on k.now))
                (subst P (sym (named_more from_here (turns k.now) i.turn)) (seeks_on found s (named_after from_here (turns k.now)) k.own i.turn h heard_is k.at k.stands e'));
          }

      slept : (n : ℕ) (found : List Picked) → InSend es n found → Asks (call_frame Slp) ≡ Asks f → InSeek (es ++ fs) n found (Calling 0)
      slept n found k e =
          let c : call_of i.turn.request ≡ Calls Slp = ap call_of (i.request ∙ due (call_frame Slp) f e) ∙ slp_read in
          let same : named_after from_here (turns (k.now ++ fs)) ≡ named_after from_here (turns k.now) =
          ap (named_after from_here) (turns_on k.now) ∙ named_more from_here (turns k.now) i.turn ∙ ap (λ r. named_by (named_after from_here (turns k.now)) r (heard i.turn)) c in
          record {
            now = k.now ++ fs;
            here = round_on n k.now k.here;
            earlier = turns (k.now ++ fs);
            own = [];
            split = sym (append-nil (turns (k.now ++ fs)));
            at = resolving.begins;
            stands = ap (λ (z : Named). z.ids) same ∙ k.ids;
          }

      asked_by : (s : Search X) (o : Option Heard) → turn_heard (mute_air m) w f x y ≡ o → At (Reaches s) es → search_next aim s ≡ Asks f → At (after (searching aim) (Reaches s) (note o)) (es ++ fs)
      asked_by (Begins n) o q k e = absurd cc
      asked_by (Seeks n found s) None q k e = tt
      asked_by (Seeks n found s) (Some h) q k e = sought_at (es ++ fs) n found (seek_step s h) (seek_on n found s h q k e)
      asked_by (Sends n found) None q k e = tt
      asked_by (Sends n found) (Some h) q k e = slept n found k e
      asked_by (Told r) o q k e = absurd cc

    tells : (p : Progress (Search X)) (es : List Event) → At p es → answer_of (searching aim) p ≡ Err faults.Disturbed → AllGivenUp es
    tells (Reaches (Begins n)) es k e = absurd cc
    tells (Reaches (Seeks n found s)) es k e = absurd cc
    tells (Reaches (Sends n found)) es k e = absurd cc
    tells (Reaches (Told r)) es k e = k e
    tells Loses es k e = absurd cc

    -- a call that is disturbed gave each of four rounds up
    call_given_up : {L : Type 0} (m : Machine L) (old new : Air L) (r : Result X PollFault) → Enquires (searching aim) m old r new → r ≡ Err faults.Disturbed
        → AllGivenUp (drop (length old.trace) new.trace)
    call_given_up m old new r q e =
        let G : List Event → Type 0 = λ es. AllGivenUp es in
        subst G (sym (events_gained (searching aim) m old new r q))
        (tells (progress (searching aim) (Begins 1) q.notes) q.going.events
        (holds (searching aim) (mute_air m) (moment old).world At (tt, refl, omega arith) lit_at
        (λ s es f x y k due lit. asked_by m (replay (mute_air m) (moment old).world es) es f x y s (turn_heard (mute_air m) (replay (mute_air m) (moment old).world es) f x y) refl k due) (moment old)
        (moment new) q.notes refl q.going)
        (sym q.comes ∙ e))

pub find_given_up : {L : Type 0} (m : Machine L) (old new : Air L) (r : Result (List Picked) PollFault) → Enquires finding m old r new → r ≡ Err faults.Disturbed
    → AllGivenUp (drop (length old.trace) new.trace)
find_given_up m old new r q = call_given_up all_devices (λ found e. cc) m old new r q

pub pick_given_up : {L : Type 0} (m : Machine L) (id : List ℕ) (old new : Air L) (r : Result Kind PollFault) → Enquires (picking id) m old r new → r ≡ Err faults.Disturbed
    → AllGivenUp (drop (length old.trace) new.trace)
pick_given_up m id old new r q = call_given_up (device_of id) (λ found e. cc) m old new r q
