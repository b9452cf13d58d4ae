-- A call goes the same way by the numbers that its own frames show, whatever stands behind them.
use Rattle.std.proofs.Common.{◌≡◌, ◌<◌, ◌≤◌, ◌⊎◌, inl, inr, ℕ, nat_lt, Bool, true, false, List, [], ◌∷◌, ◌++◌, length, map, take, if◌then◌else◌, refl, sym, ap, subst, ◌∙◌, arith}
use Rattle.std.proofs.lemmas.Bool.{cases_lt}
use Rattle.nfc_base.specs.Signal.{Signal}
use Rattle.nfc_base.specs.Choosing.{first_number, later_numbers}
use Rattle.air_core.specs.Conversation.{Note}
use Rattle.llcp_pdu.specs.declared.part.Part.{Part}
use Rattle.llcp_pdu.specs.declared.part.Part.TheVariants.{Symm}
use Rattle.dep_link.specs.Frames.{after}
use Rattle.dep_link.specs.Payloads.{Cut}
use Rattle.nfc_base.specs.Pieces.{Core, more_follows, turned}
use Rattle.dep_link.specs.Initiator.{InitState, begun}
use Rattle.dep_link.specs.Asking.{Standing, Waits, Rests, Broken, Astray, asks, noted}
use Rattle.nfc_base.proofs.Chains.{not_lt}
use Rattle.dep_link.proofs.Standing.{after_small}
use Rattle.llcp_link.specs.Fronts.{IsProperPrefix}
use Rattle.llcp_link.specs.Giving.{given, given_parts, payload_of}
use Rattle.snep_core.specs.Talk.{EndState, Ends, GivesUp, Goes, Step, Working, payload, ready, replied, silent}
use Rattle.link_calls.specs.Walk.{Carries, Comes, BrokenBy, Strays, walk_at, walk_carried}
use Rattle.link_calls.specs.CallDue.{by_client, next_of}
use Rattle.link_numbers.specs.OwnShows.{AtEnd, IsWithin, Rested}
use Rattle.link_numbers.specs.Shown.{cut_off, number, numbers}
use Rattle.link_numbers.proofs.own.OwnCuts.{Grows, open_, closed, at, cuts, cuts_behind, cuts_then, grown, numbers_behind}
use Rattle.link_numbers.proofs.own.OwnTurns.{Turn, asked_in}
use Rattle.link_numbers.proofs.own.OwnMoving.{Again, Behind, Fails, Kind, Onward, Wanders, again, draws, fails, frame_due, hears_last, hears_more, kind_of, made, onward, rests, waits, wanders}
use Rattle.link_numbers.proofs.own.OwnPlaces.{Drawing, Fit, Follows, Midst, Outcome, Unsent, again_midst, cut, midst_follows, midst_from, onward_fit, onward_unsent, outcome, sent_ack, sent_again}
use Rattle.link_numbers.proofs.own.OwnPlaces.{sent_last, sent_more, two_came, whole}
use Rattle.link_numbers.proofs.own.OwnBegun.{both_due}
use Rattle.link_numbers.proofs.payloads.Payload.{cut_shown, later_shown, whole_shown}
use Rattle.link_numbers.proofs.own.CallKeeps.{Unread, none_by, ready_unread, ready_within, reply_by, reply_unread, reply_within, told_by}
use Rattle.link_numbers.proofs.own.CallTurns.{Alike, CallAlong, asks_one, both_go, calls_alike, follows_of, over_alike, turn_alike}
use Rattle.link_numbers.proofs.far.FarPayloads.{part_some}
use Rattle.link_numbers.proofs.far.FarShows.{begun_front, behind}

some_payload : (ps : List Part) → 0 < length (payload_of ps)
some_payload [] = part_some Symm
some_payload (p ∷ []) = part_some p
some_payload (p ∷ q ∷ ps) = omega arith

some_given : (n : ℕ) (l : EndState) → l.readable ≡ true → 0 < length (given silent n l)
some_given n l e = subst (λ xs. 0 < length xs) (sym (ap (λ (t : Bool). if t then payload_of (given_parts silent n l).parts else []) e)) (some_payload (given_parts silent n l).parts)

-- The number that is read of what came of a payload, whatever comes behind it, gives a payload that begins so too.
pub front_shown : (l : EndState) (n m : ℕ) (xs : List ℕ) (fs : List Signal) → l.readable ≡ true → 2 ≤ length xs → IsProperPrefix xs (given silent n l)
    → IsProperPrefix xs (given silent (first_number (numbers (cuts (at m xs) fs))) l)
front_shown l n m xs fs r two front = by (cuts (at m xs) fs) (grown m xs fs)
  where
    by : (c : Cut) → Grows xs c → IsProperPrefix xs (given silent (first_number (numbers c)) l)
    by c (open_ ys e more) =
        let k = cut_shown silent l n xs r two front in
        let is : numbers c ≡ k.0 ∷ [] = ap (λ ps. map number ps ++ cut_off c.chain) e ∙ ap cut_off more ∙ begun_front xs ys two ∙ k.1 in
        subst (λ ns. IsProperPrefix xs (given silent (first_number ns) l)) (sym is) k.2
    by c (closed z zs ps e) =
        let is : first_number (numbers c) ≡ number (xs ++ z ∷ zs) = ap (λ qs. first_number (map number qs ++ cut_off c.chain)) e in
        subst (λ k. IsProperPrefix xs (given silent k l)) (sym is) (later_shown silent l n xs z zs r two front)

-- Where a payload is carried by the true number: its piece wasn't sent yet; or it was, and others follow; or the payload is whole, and so or so far its
-- reply came. These numbers are read of what is still ahead.
data Place (ks : List ℕ) (fs : List Signal) (i : InitState) : Type 0 where
  unsent : (chain : List ℕ) → Unsent i → ks ≡ numbers (cuts (at i.core.number chain) fs) → Place ks fs i
  midst : (chain xs ys : List ℕ) → Midst i xs ys → ks ≡ numbers (cuts (at (after i.core.number) chain) fs) → Place ks fs i
  last : more_follows i.core ≡ false → later_numbers ks ≡ numbers (cuts (at (after i.core.number) []) fs) → Place ks fs i
  drawing : Drawing i → later_numbers ks ≡ numbers (cuts (at i.core.number []) fs) → Place ks fs i

data Sent (ks : List ℕ) (fs : List Signal) (i : InitState) : Type 0 where
  in_midst : (chain xs ys : List ℕ) → Midst i xs ys → ks ≡ numbers (cuts (at (after i.core.number) chain) fs) → Sent ks fs i
  at_last : more_follows i.core ≡ false → later_numbers ks ≡ numbers (cuts (at (after i.core.number) []) fs) → Sent ks fs i

none_drawn : (c : Core) → c.drawing ≡ true → more_follows c ≡ false
none_drawn c e = ap (λ (d : Bool). if d then false else nat_lt c.most (length c.rest)) e

none_left : (c : Core) → c.drawing ≡ false → length c.rest ≤ c.most → more_follows c ≡ false
none_left c e h = ap (λ (d : Bool). if d then false else nat_lt c.most (length c.rest)) e ∙ not_lt c.most (length c.rest) h

-- its request is sent
sent_at : (ks : List ℕ) (fs : List Signal) (i : InitState) → Fit i.core → Place ks (frame_due i ∷ fs) i → Sent ks fs i
sent_at ks fs i fit (unsent chain u e) = go (cases_lt i.core.most (length i.core.rest))
  where
    go : (i.core.most < length i.core.rest) ⊎ (length i.core.rest ≤ i.core.most) → Sent ks fs i
    go (inl h) = in_midst (chain ++ take i.core.most i.core.rest) _ _ (midst_from i u h) (e ∙ ap numbers (sent_more i fit chain fs u h))
    go (inr h) =
        at_last (none_left i.core u.sending h)
        (ap later_numbers (e ∙ ap numbers (sent_last i fit chain fs u h) ∙ numbers_behind (chain ++ i.core.rest) (cuts (at (after i.core.number) []) fs)))
sent_at ks fs i fit (midst chain xs ys m e) = in_midst chain xs ys m (e ∙ ap numbers (sent_again i fit chain fs))
sent_at ks fs i fit (last none e) = at_last none (e ∙ ap numbers (sent_again i fit [] fs))
sent_at ks fs i fit (drawing d e) = at_last (none_drawn i.core d.receiving) (e ∙ ap numbers (sent_ack i fit [] fs d))

-- By these numbers a call does with each reply what it does by those.
abbrev Tells : List ℕ → List ℕ → Working → Type 0
Tells ns ks w = (reply : List ℕ) → replied (first_number ks) w reply ≡ replied (first_number ns) w reply

-- what the frames behind these turns may be
module _ (tail : List Signal) where
  abbrev ahead : List Turn → List Signal
  ahead ts = asked_in ts ++ tail

  -- an exchange by the true number
  abbrev OfSame : List Turn → Type 0
  OfSame ts = (w : Working) (ns ks : List ℕ) (i : InitState) → Fit i.core → Place ks (ahead ts) i → Tells ns ks w → IsWithin w.llc
      → CallAlong (Carries (w, ns) (Waits i (frame_due i))) ts → Alike ts (Carries (w, ns) (Waits i (frame_due i))) (Carries (w, ks) (Waits i (frame_due i)))

  -- a call that begins, or goes on with its next payload
  abbrev OfStart : List Turn → Type 0
  OfStart ts = (from : Step) (ns ks : List ℕ) (i : InitState) → Rested i.core → AtEnd IsWithin from → ks ≡ numbers (cuts (at i.core.number []) (ahead ts))
      → CallAlong (walk_at by_client (next_of ns from) i) ts → Alike ts (walk_at by_client (next_of ns from) i) (walk_at by_client (next_of ks from) i)

  module _ (ts : List Turn) (same : OfSame ts) (start : OfStart ts) (w : Working) (ns ks : List ℕ) (i : InitState) (fit : Fit i.core)
      (tells : Tells ns ks w) (within : IsWithin w.llc) (n : Note) where
    abbrev Heard : Standing → Type 0
    Heard s = CallAlong (walk_carried by_client (w, ns) s) ts → Alike ts (walk_carried by_client (w, ns) s) (walk_carried by_client (w, ks) s)

    heard_midst : (chain xs ys : List ℕ) → Midst i xs ys → ks ≡ numbers (cuts (at (after i.core.number) chain) (ahead ts)) → (k : Kind) → Heard (made i k)
    heard_midst chain xs ys m e (Again phase bads) along =
        same w ns ks (again i phase bads) (record { number = fit.number; some = fit.some; fits = fit.fits; times = fit.times })
        (midst chain xs ys (again_midst i xs ys m phase bads) e) tells within along
    heard_midst chain xs ys m e Onward along = same w ns ks (onward i) (onward_fit i fit) (unsent chain (onward_unsent i xs ys m) e) tells within along
    heard_midst chain xs ys m e (Fails cause) along = over_alike ts (BrokenBy cause) refl along
    heard_midst chain xs ys m e Wanders along = over_alike ts Strays refl along

    next_fit : (j : InitState) (drawn : Bool) (xs : List ℕ) → j.core ≡ turned i.core (after i.core.number) [] drawn xs → Fit j.core
    next_fit j drawn xs e = subst Fit (sym e) (record { number = after_small i.core.number; some = fit.some; fits = fit.fits; times = tt })

    heard_rests : (j : InitState) (reply : List ℕ) → j.core ≡ turned i.core (after i.core.number) [] false []
        → later_numbers ks ≡ numbers (cuts (at (after i.core.number) []) (ahead ts)) → Heard (Rests j reply)
    heard_rests j reply core e along =
        let to : Step = replied (first_number ns) w reply in
        let f : Fit j.core = next_fit j false [] core in
        let at_next : later_numbers ks ≡ numbers (cuts (at j.core.number []) (ahead ts)) = e ∙ ap (λ (c : Core). numbers (cuts (at c.number []) (ahead ts))) (sym core) in
        subst (λ (z : Step). Alike ts (walk_at by_client (next_of (later_numbers ns) to) j) (walk_at by_client (next_of (later_numbers ks) z) j)) (sym (tells reply))
        (start to (later_numbers ns) (later_numbers ks) j (record { number = f.number; some = f.some; fits = f.fits }) (reply_within (first_number ns) w reply within) at_next along)

    heard_last : later_numbers ks ≡ numbers (cuts (at (after i.core.number) []) (ahead ts)) → (s : Standing) → Behind i s → Heard s
    heard_last e s (waits j is number most none times) =
        subst Heard (sym is) (same w ns ks j
        (record { number = subst (λ x. x < 4) (sym number) fit.number; some = subst (λ x. 2 ≤ x) (sym most) fit.some; fits = subst (λ x. x ≤ 251) (sym most) fit.fits; times = times })
        (last none (e ∙ ap (λ x. numbers (cuts (at (after x) []) (ahead ts))) (sym number))) tells within)
    heard_last e s (draws j xs is core phase) =
        subst Heard (sym is) (same w ns ks j (next_fit j true xs core)
        (drawing (record { phase = phase; plain = ap (λ (c : Core). c.extension) core; receiving = ap (λ (c : Core). c.drawing) core })
        (e ∙ ap (λ (c : Core). numbers (cuts (at c.number []) (ahead ts))) (sym core))) tells within)
    heard_last e s (rests j reply is core) = subst Heard (sym is) (heard_rests j reply core e)
    heard_last e s (fails cause is) = subst Heard (sym is) (over_alike ts (BrokenBy cause) refl)
    heard_last e s (wanders is) = subst Heard (sym is) (over_alike ts Strays refl)

    heard_sent : Sent ks (ahead ts) i → Heard (noted (Waits i (frame_due i)) n)
    heard_sent (in_midst chain xs ys m e) = subst Heard (sym (hears_more i (midst_follows i xs ys m) (frame_due i) n)) (heard_midst chain xs ys m e (kind_of i n))
    heard_sent (at_last none e) = heard_last e (noted (Waits i (frame_due i)) n) (hears_last i none fit.times (frame_due i) n)

  -- An end that couldn't read general bytes gives nothing by any numbers.
  abbrev OfUnread : List Turn → Type 0
  OfUnread ts = (w : Working) (ns ks : List ℕ) (i : InitState) (f : Signal) → Unread (ready w).llc → CallAlong (Carries (w, ns) (Waits i f)) ts
      → Alike ts (Carries (w, ns) (Waits i f)) (Carries (w, ks) (Waits i f))

  unread_next : (ts : List Turn) → OfUnread ts → (from : Step) (ns ks : List ℕ) (i : InitState) → AtEnd Unread from → CallAlong (walk_at by_client (next_of ns from) i) ts
      → Alike ts (walk_at by_client (next_of ns from) i) (walk_at by_client (next_of ks from) i)
  unread_next ts unread (Goes w) ns ks i h along =
      let r : Unread (ready w).llc = ready_unread w h in
      subst (λ p. Alike ts (Carries (w, ns) (asks i (payload (first_number ns) w))) (Carries (w, ks) (asks i p))) (none_by (first_number ns) (first_number ks) w r)
      (unread w ns ks (begun i (payload (first_number ns) w)) (frame_due (begun i (payload (first_number ns) w))) r along)
  unread_next ts unread (Ends jobs l) ns ks i h along = over_alike ts (Comes (Ends jobs l) i) refl along
  unread_next ts unread (GivesUp l) ns ks i h along = over_alike ts (Comes (GivesUp l) i) refl along

  unread_heard : (ts : List Turn) → OfUnread ts → (w : Working) (ns ks : List ℕ) (s : Standing) → Unread (ready w).llc → CallAlong (walk_carried by_client (w, ns) s) ts
      → Alike ts (walk_carried by_client (w, ns) s) (walk_carried by_client (w, ks) s)
  unread_heard ts unread w ns ks (Waits i f) r along = unread w ns ks i f r along
  unread_heard ts unread w ns ks (Rests i reply) r along =
      let to : Step = replied (first_number ns) w reply in
      subst (λ (z : Step). Alike ts (walk_at by_client (next_of (later_numbers ns) to) i) (walk_at by_client (next_of (later_numbers ks) z) i)) (told_by (first_number ns) (first_number ks) w reply r)
      (unread_next ts unread to (later_numbers ns) (later_numbers ks) i (reply_unread (first_number ns) w reply r) along)
  unread_heard ts unread w ns ks (Broken cause) r along = over_alike ts (BrokenBy cause) refl along
  unread_heard ts unread w ns ks Astray r along = over_alike ts Strays refl along

  unread_alike : (ts : List Turn) → OfUnread ts
  unread_alike [] w ns ks i f r along = record { due = tt; ends = both_go f f refl refl }
  unread_alike (t ∷ ts) w ns ks i f r along =
      turn_alike t ts (Carries (w, ns) (Waits i f)) (Carries (w, ks) (Waits i f)) along.0 (unread_heard ts (unread_alike ts) w ns ks (noted (Waits i f) t.heard) r along.1)

  -- a payload begins
  module _ (ts : List Turn) (same : OfSame ts) (w : Working) (ns ks : List ℕ) (i : InitState) (rested : Rested i.core) (within : IsWithin w.llc)
      (shows : ks ≡ numbers (cuts (at i.core.number []) (ahead ts))) (along : CallAlong (Carries (w, ns) (asks i (payload (first_number ns) w))) ts)
      (readable : (ready w).llc.readable ≡ true) where
    abbrev out : List ℕ
    out = payload (first_number ns) w

    abbrev other : List ℕ
    other = payload (first_number ks) w

    abbrev Begins : Type 0
    Begins = Alike ts (Carries (w, ns) (asks i out)) (Carries (w, ks) (asks i other))

    abbrev so_far : Cut
    so_far = cuts (at i.core.number []) (asked_in ts)

    begun_fit : (xs : List ℕ) → Fit (begun i xs).core
    begun_fit xs = record { number = rested.number; some = rested.some; fits = rested.fits; times = tt }

    begun_unsent : (n : ℕ) → Unsent (begun i (payload n w))
    begun_unsent n = record { phase = refl; plain = refl; sending = refl; some = some_given n (ready w).llc readable }

    follows : Follows (asks i out) ts
    follows = follows_of ts (w, ns) (asks i out) along

    then_shows : ks ≡ numbers (cuts so_far tail)
    then_shows = shows ∙ ap numbers (cuts_then (at i.core.number []) (asked_in ts) tail)

    -- all of it came
    begins_whole : (ps : List (List ℕ)) → so_far.payloads ≡ out ∷ ps → Begins
    begins_whole ps e =
        let l : EndState = (ready w).llc in
        let rest : Cut = record { next = so_far.next; chain = so_far.chain; payloads = ps } in
        let is : so_far ≡ behind (out ∷ []) rest = ap (λ qs. record { next = so_far.next; chain = so_far.chain; payloads = qs }) e in
        let first : first_number ks ≡ number out =
        ap first_number (then_shows ∙ ap (λ c. numbers (cuts c tail)) is ∙ ap numbers (cuts_behind (out ∷ []) rest tail) ∙ numbers_behind out (cuts rest tail)) in
        let shown = whole_shown silent l (first_number ns) (ready_within w within) in
        let same_out : other ≡ out = ap (λ k. payload k w) first ∙ shown.0 in
        let tells : Tells ns ks w = λ reply. ap (λ k. replied k w reply) first ∙ reply_by (number out) (first_number ns) w reply shown.1 in
        subst (λ p. Alike ts (Carries (w, ns) (asks i out)) (Carries (w, ks) (asks i p))) (sym same_out)
        (same w ns ks (begun i out) (begun_fit out) (unsent [] (begun_unsent (first_number ns)) shows) tells within along)

    -- some of it did
    begins_cut : (xs : List ℕ) → so_far.payloads ≡ [] → so_far.chain ≡ xs → IsProperPrefix xs out → 2 ≤ length xs → Begins
    begins_cut xs none chain front two =
        let is : so_far ≡ at so_far.next xs =
        ap (λ qs. record { next = so_far.next; chain = so_far.chain; payloads = qs }) none ∙ ap (λ ys. record { next = so_far.next; chain = ys; payloads = [] }) chain in
        let shown : IsProperPrefix xs other =
        subst (λ ms. IsProperPrefix xs (given silent (first_number ms) (ready w).llc)) (sym (then_shows ∙ ap (λ c. numbers (cuts c tail)) is))
        (front_shown (ready w).llc (first_number ns) so_far.next xs tail readable two front) in
        calls_alike ts (w, ns) (w, ks) (asks i out) (asks i other)
        (both_due ts (begun i out) (begun i other) (begun_fit out) (record { number = refl; most = refl; plain = refl; phase = refl; bads = refl })
        (inl (record {
          chain = [];
          ahead = xs;
          first_at = begun_unsent (first_number ns);
          second_at = begun_unsent (first_number ks);
          none = none;
          brings = chain;
          first_has = front;
          second_has = shown;
        })) follows)

  begins_so : (ts : List Turn) → OfSame ts → (w : Working) (ns ks : List ℕ) (i : InitState) → Rested i.core → IsWithin w.llc → ks ≡ numbers (cuts (at i.core.number []) (ahead ts))
      → CallAlong (Carries (w, ns) (asks i (payload (first_number ns) w))) ts → (ready w).llc.readable ≡ true
      → Alike ts (Carries (w, ns) (asks i (payload (first_number ns) w))) (Carries (w, ks) (asks i (payload (first_number ks) w)))
  begins_so [] same w ns ks i rested within shows along r = record {
    due = tt;
    ends = both_go (frame_due (begun i (payload (first_number ns) w))) (frame_due (begun i (payload (first_number ks) w))) refl refl;
  }
  begins_so (t ∷ ts) same w ns ks i rested within shows along r = by (outcome (t ∷ ts) here [] fit u f)
    where
      here : InitState
      here = begun i (payload (first_number ns) w)

      fit : Fit here.core
      fit = begun_fit (t ∷ ts) same w ns ks i rested within shows along r (payload (first_number ns) w)

      u : Unsent here
      u = begun_unsent (t ∷ ts) same w ns ks i rested within shows along r (first_number ns)

      f : Follows (asks i (payload (first_number ns) w)) (t ∷ ts)
      f = follows (t ∷ ts) same w ns ks i rested within shows along r

      by : Outcome [] (payload (first_number ns) w) (cuts (at i.core.number []) (t.request ∷ asked_in ts))
          → Alike (t ∷ ts) (Carries (w, ns) (asks i (payload (first_number ns) w))) (Carries (w, ks) (asks i (payload (first_number ks) w)))
      by (whole ps e) = begins_whole (t ∷ ts) same w ns ks i rested within shows along r ps e
      by (cut xs none chain front) =
          begins_cut (t ∷ ts) same w ns ks i rested within shows along r xs none chain front
          (subst (λ ys. 2 ≤ length ys) chain (two_came here t (asked_in ts) fit u f.0 none))

  start_of : (ts : List Turn) → OfSame ts → OfStart ts
  start_of ts same (Goes w) ns ks i rested within shows along = go (ready w).llc.readable refl
    where
      go : (r : Bool) → (ready w).llc.readable ≡ r → Alike ts (Carries (w, ns) (asks i (payload (first_number ns) w))) (Carries (w, ks) (asks i (payload (first_number ks) w)))
      go true r = begins_so ts same w ns ks i rested within shows along r
      go false r =
          subst (λ p. Alike ts (Carries (w, ns) (asks i (payload (first_number ns) w))) (Carries (w, ks) (asks i p))) (none_by (first_number ns) (first_number ks) w r)
          (unread_alike ts w ns ks (begun i (payload (first_number ns) w)) (frame_due (begun i (payload (first_number ns) w))) r along)
  start_of ts same (Ends jobs l) ns ks i rested within shows along = over_alike ts (Comes (Ends jobs l) i) refl along
  start_of ts same (GivesUp l) ns ks i rested within shows along = over_alike ts (Comes (GivesUp l) i) refl along

  same_alike : (ts : List Turn) → OfSame ts
  same_alike [] w ns ks i fit place tells within along = record { due = tt; ends = both_go (frame_due i) (frame_due i) refl refl }
  same_alike (t ∷ ts) w ns ks i fit place tells within along =
      let sent : Sent ks (ahead ts) i = sent_at ks (ahead ts) i fit (subst (λ f. Place ks (f ∷ ahead ts) i) (sym (asks_one (frame_due i) t.request along.0)) place) in
      turn_alike t ts (Carries (w, ns) (Waits i (frame_due i))) (Carries (w, ks) (Waits i (frame_due i))) along.0
      (heard_sent ts (same_alike ts) (start_of ts (same_alike ts)) w ns ks i fit tells within t.heard sent along.1)

  -- Whatever a call's turns are, by the numbers that they show the same turns are due, and it ends alike.
  pub call_alike : (ts : List Turn) → OfStart ts
  call_alike ts = start_of ts (same_alike ts)
