-- What the end of all connections comes to at a peer that its client accords with.
use Rattle.std.proofs.Common.{◌≡◌, ◌≤◌, ℕ, zero, suc, ◌+◌, ◌-◌, ◌==◌, ◌||◌, ◌&&◌, not, Bool, true, false, List, [], ◌∷◌, ◌++◌, append-nil, append_assoc, length, map, Option, Some, None, refl, sym}
use Rattle.std.proofs.Common.{◌∙◌, ap, subst, inl, inr, arith, if◌then◌else◌}
use Rattle.std.proofs.lemmas.Bool.{eqb-true}
use Rattle.std.proofs.lemmas.List.{map-append}
use Rattle.nfc_base.specs.Links.{CarrierView, FarStep}
use Rattle.nfc_base.specs.declared.carrier.EndCause.{EndCause}
use Rattle.nfc_base.specs.declared.carrier.EndCause.TheVariants as cause
use Rattle.llcp_conn.specs.Conn.{ConnState, first}
use Rattle.llcp_link.specs.Asking.{acked_of, disconnected_by, has_waiting_of, is_open, is_open_by, is_there, standing_of, standing_on, unit_of}
use Rattle.llcp_link.specs.Giving.{after_giving, gave, given}
use Rattle.llcp_link.specs.State.{Bound, OwnState, conn_from, own_from, with_own}
use Rattle.llcp_link.specs.declared.own.OwnIs.{OwnIs}
use Rattle.llcp_link.specs.declared.own.OwnIs.TheVariants.{Asking, Closed, Leaving, Open, Refused}
use Rattle.llcp_link.specs.Taking.{taken_from}
use Rattle.snep_core.specs.declared.fault.SnepFault.{SnepFault}
use Rattle.snep_core.specs.Accord.{Accords, AsideFails, IsClientSap, IsClosed, IsOver, IsPeer, PeerState, PeerSteps, is_in}
use Rattle.snep_core.specs.Calling.{FailsBy, Talks, fault_of, gives_up}
use Rattle.snep_core.specs.Jobs.{Closes, Done, Job, Over, has_byte, told_in}
use Rattle.snep_core.specs.Server.{Received, ServerState, serving}
use Rattle.snep_core.specs.Talk.{AllReady, CameTo, EndState, Ends, GivesUp, Goes, OnSap, Step, Working, all_closed, all_emptied, all_heard, all_opening, all_over, all_readied, all_well, as_they_came}
use Rattle.snep_core.specs.Talk.{begun, client_saps, closes, emptied, gave_any, gave_something, goes_on, heard, heard_so, heard_with, idle_after, is_over, is_waiting, leave_from, leaving, own_of}
use Rattle.snep_core.specs.Talk.{payload, readied, ready, ready_so, replied, replied_ready, settled, silent, call_behind, took, units_of, with_job}
use Rattle.snep_core.proofs.connections.Asides.{AllRested, Quiet, Rested, accord_at, client_queues, sides_at, sides_by}
use Rattle.snep_core.proofs.connections.Carrying.{AtFronts, FirstSo, HopSo, at_front, handed, handed_first}
use Rattle.snep_core.proofs.jobs.Courses.{Course, IsSafe, breaks_off, came}
use Rattle.snep_core.proofs.accord.Ends.{sizes_of}
use Rattle.snep_core.proofs.connections.Meets.{AreUnlike}
use Rattle.snep_core.proofs.connections.Opening.{amid, in_both, in_last, in_last_other, in_other, in_self, neither, or_true}
use Rattle.snep_core.proofs.connections.Owned.{emptied_none}
use Rattle.snep_core.proofs.accord.Partings.{ByQueues, Giving, Gone, Parting, Stands, client_first, client_gives, disc, given_up, peer_first, peer_gives}
use Rattle.snep_core.proofs.connections.Sides.{Place, Sides, Sizes, sides_own}

-- one that is over isn't open, and nothing is awaited on it
shut : (is : OwnIs) → is_there is ≡ false → (is_open is ≡ false) × (is_waiting (standing_on is) ≡ false)
shut Asking h = absurd cc
shut (Open c) h = absurd cc
shut Refused h = (refl, refl)
shut Leaving h = absurd cc
shut Closed h = (refl, refl)

over_shut : (o : Option OwnState) → IsOver o → (is_open_by o ≡ false) × (is_waiting (standing_of o) ≡ false)
over_shut None h = (refl, refl)
over_shut (Some o) h = shut o.is h.0

over_none : (o : Option OwnState) → IsOver o → unit_of o ≡ None
over_none None h = refl
over_none (Some o) h = ap first h.1

-- The jobs from these SAPs, where the connections from those are still to end.
abbrev closer : Bool → Job
closer true = Closes
closer false = Over Done

abbrev closers : List ℕ → List ℕ → List OnSap
closers q [] = []
closers q (s ∷ ss) = record { sap = s; job = closer (is_in s q) } ∷ closers q ss

closer_ready : (b : Bool) (l : EndState) (s : ℕ) → readied l s (closer b) ≡ ready_so l (closer b)
closer_ready true l s = refl
closer_ready false l s = refl

closers_ready : (q ss : List ℕ) (l : EndState) → all_readied (closers q ss) l ≡ record { llc = l; jobs = closers q ss }
closers_ready q [] l = refl
closers_ready q (s ∷ ss) l =
    ap (λ r. with_job s r (all_readied (closers q ss))) (closer_ready (is_in s q) l s)
    ∙ ap (λ (x : AllReady). with_job s (ready_so l (closer (is_in s q))) (λ e. x)) (closers_ready q ss l)

-- how such an end stands at a SAP
record Quiet_ (l : EndState) (s : ℕ) (w : Bool) : Type 0 where
  pub units : units_of (own_from s l.own) ≡ []
  pub empty : emptied l s ≡ l
  pub waits : is_waiting (standing_of (own_from s l.own)) ≡ w

closer_heard : (waiting : Bool) (l : EndState) (s : ℕ) (b w : Bool) → Quiet_ l s w → (w ≡ true → b ≡ true) → heard waiting l s (closer b) ≡ Some (closer w)
closer_heard waiting l s b w h to =
    ap (λ us. heard_so (emptied l s) s (told_in waiting (closer b) us)) h.units ∙ ap (λ (e : EndState). heard_so e s (Some (closer b))) h.empty ∙ go b w h.waits to
  where
    go : (c v : Bool) → is_waiting (standing_of (own_from s l.own)) ≡ v → (v ≡ true → c ≡ true) → heard_so l s (Some (closer c)) ≡ Some (closer v)
    go true true e k = ap (λ x. Some (if x then Closes else Over Done)) e
    go true false e k = ap (λ x. Some (if x then Closes else Over Done)) e
    go false true e k = absurd (let z : false ≡ true = k refl in cc)
    go false false e k = refl

module _ (old l : EndState) (q now : List ℕ) (quiet : (s : ℕ) → Quiet_ l s (is_in s now)) (fewer : (s : ℕ) → is_in s now ≡ true → is_in s q ≡ true) where
  closers_heard : (ss : List ℕ) → all_heard old l (closers q ss) ≡ as_they_came (closers now ss)
  closers_heard [] = refl
  closers_heard (s ∷ ss) =
      ap (λ o. record { sap = s; job = o } ∷ all_heard old l (closers q ss)) (closer_heard (has_waiting_of (own_from s old.own)) l s (is_in s q) (is_in s now) (quiet s) (fewer s))
      ∙ ap (λ (xs : List CameTo). record { sap = s; job = Some (closer (is_in s now)) } ∷ xs) (closers_heard ss)

  closers_emptied : (ss : List ℕ) → all_emptied (closers q ss) l ≡ l
  closers_emptied [] = refl
  closers_emptied (s ∷ ss) = ap (all_emptied (closers q ss)) (quiet s).empty ∙ closers_emptied ss

all_came : (xs : List OnSap) → all_well (as_they_came xs) ≡ Some xs
all_came [] = refl
all_came (x ∷ xs) = ap (heard_with x.sap (Some x.job)) (all_came xs)

closers_gave : (old l : EndState) (q : List ℕ) (g : ℕ) → gave_something (own_from g old.own) (own_from g l.own) ≡ true → (ss : List ℕ) → is_in g ss ≡ true
    → gave_any old l (closers q ss) ≡ true
closers_gave old l q g h [] i = absurd cc
closers_gave old l q g h (s ∷ ss) i = go (s == g) refl i (closers_gave old l q g h ss)
  where
    go : (b : Bool) → (s == g) ≡ b → (b || is_in g ss) ≡ true → (is_in g ss ≡ true → gave_any old l (closers q ss) ≡ true) → gave_any old l (closers q (s ∷ ss)) ≡ true
    go true e k more =
        ap (λ b. (b || has_byte (units_of (own_from s l.own))) || gave_any old l (closers q ss))
        (subst (λ t. gave_something (own_from t old.own) (own_from t l.own) ≡ true) (sym (eqb-true s g e)) h)
    go false e k more =
        ap (λ b. (gave_something (own_from s old.own) (own_from s l.own) || has_byte (units_of (own_from s l.own))) || b) (more k)
        ∙ or_true (gave_something (own_from s old.own) (own_from s l.own) || has_byte (units_of (own_from s l.own)))

closers_on : (q : List ℕ) (g : ℕ) → is_in g q ≡ true → (ss : List ℕ) → is_in g ss ≡ true → all_over (closers q ss) ≡ false
closers_on q g h [] i = absurd cc
closers_on q g h (s ∷ ss) i = go (s == g) refl i (closers_on q g h ss)
  where
    and_false : (b : Bool) → (b && false) ≡ false
    and_false true = refl
    and_false false = refl

    go : (b : Bool) → (s == g) ≡ b → (b || is_in g ss) ≡ true → (is_in g ss ≡ true → all_over (closers q ss) ≡ false) → all_over (closers q (s ∷ ss)) ≡ false
    go true e k more = ap (λ b. is_over (closer b) && all_over (closers q ss)) (subst (λ t. is_in t q ≡ true) (sym (eqb-true s g e)) h)
    go false e k more = ap (λ b. is_over (closer (is_in s q)) && b) (more k) ∙ and_false (is_over (closer (is_in s q)))

-- a DM that was awaited came
gave_then : (a b : Option OwnState) → is_waiting (standing_of a) ≡ true → is_waiting (standing_of b) ≡ false → gave_something a b ≡ true
gave_then a b e f =
    let rest = if is_open_by a && is_open_by b then not (acked_of b == acked_of a) else false in
    ap (λ x. if x && not (is_waiting (standing_of b)) then true else rest) e ∙ ap (λ y. if not y then true else rest) f

-- SAPs of clients
saps_by : (k : ℕ) → k ≤ 7 → is_in (32 + k) client_saps ≡ true
saps_by zero h = refl
saps_by (suc zero) h = refl
saps_by (suc (suc zero)) h = refl
saps_by (suc (suc (suc zero))) h = refl
saps_by (suc (suc (suc (suc zero)))) h = refl
saps_by (suc (suc (suc (suc (suc zero))))) h = refl
saps_by (suc (suc (suc (suc (suc (suc zero)))))) h = refl
saps_by (suc (suc (suc (suc (suc (suc (suc zero))))))) h = refl
saps_by (suc (suc (suc (suc (suc (suc (suc (suc k)))))))) h = absurd (omega (arith, h))

in_saps : (s : ℕ) → IsClientSap s → is_in s client_saps ≡ true
in_saps s r =
    let low = r.0 in let high = r.1 in
    let k : ℕ = s - 32 in
    let e : 32 + k ≡ s = omega (arith, low) in
    subst (λ t. is_in t client_saps ≡ true) e (saps_by k (omega (arith, high)))

module _ (names : List Bound) (s : ServerState) (z : Sizes) where
  abbrev Stand_ : List ℕ → List ℕ → EndState → PeerState → Type 0
  Stand_ told waits l p = Stands names s z told waits l p

  -- These SAPs' connections are still to end.
  abbrev Before : List ℕ → EndState → PeerState → Type 0
  Before q l p = (told : List ℕ) × (waits : List ℕ) × (q ≡ told ++ waits) × Stand_ told waits l p

  abbrev Between : List ℕ → EndState → PeerState → Type 0
  Between q l p = (t : ℕ) × (told : List ℕ) × (waits : List ℕ) × (q ≡ (t ∷ told) ++ waits) × Stand_ (t ∷ told) waits l p

  -- at least one of them ended
  abbrev After : List ℕ → EndState → PeerState → Type 0
  After q l p = (g : ℕ) × (gone : List ℕ) × (told : List ℕ) × (waits : List ℕ) × (q ≡ g ∷ (gone ++ (told ++ waits))) × Stand_ told waits l p

  more_told : (q told waits : List ℕ) (sap : ℕ) (rest : List ℕ) → waits ≡ sap ∷ rest → q ≡ told ++ waits → q ≡ (told ++ sap ∷ []) ++ rest
  more_told q told waits sap rest e i = i ∙ ap (λ w. told ++ w) e ∙ sym (append_assoc told (sap ∷ []) rest)

  told_now : (q told waits : List ℕ) (sap : ℕ) (rest : List ℕ) (l : EndState) (p : PeerState) → waits ≡ sap ∷ rest → q ≡ told ++ waits → Stand_ (told ++ sap ∷ []) rest l p → Between q l p
  told_now q [] waits sap rest l p e i h = (sap, [], rest, more_told q [] waits sap rest e i, h)
  told_now q (t ∷ told) waits sap rest l p e i h = (t, told ++ sap ∷ [], rest, more_told q (t ∷ told) waits sap rest e i, h)

  first_out : (q : List ℕ) (l : EndState) (p : PeerState) → Before q l p → (q ≡ [] → ⊥) → FirstSo silent serving (Between q) l p (gave silent l)
  first_out q l p (told, waits, i, h) some =
      client_first names s z (Between q) l p told waits h (λ sap rest e new r k. told_now q told waits sap rest new r e i k) (λ e. go told e i h)
    where
      go : (ts : List ℕ) → waits ≡ [] → q ≡ ts ++ waits → Stand_ ts waits l p → Between q l p
      go [] e j k = absurd (some (j ∙ e))
      go (t ∷ ts) e j k = (t, ts, waits, j, k)

  on_out : (q : List ℕ) (l : EndState) (p : PeerState) → Between q l p → HopSo silent serving (Between q) p (gave silent l)
  on_out q l p (t, told, waits, i, h) =
      client_gives names s z (Between q) l p (t ∷ told) waits h (λ sap rest e new r k. told_now q (t ∷ told) waits sap rest new r e i k)

  any_out : (q : List ℕ) (l : EndState) (p : PeerState) → Before q l p → HopSo silent serving (Before q) p (gave silent l)
  any_out q l p (told, waits, i, h) =
      client_gives names s z (Before q) l p told waits h (λ sap rest e new r k. (told ++ sap ∷ [], rest, more_told q told waits sap rest e i, k))

  first_back : (q : List ℕ) (p : PeerState) (l : EndState) → Between q l p → FirstSo serving silent (λ p l. After q l p) p l (gave serving p)
  first_back q p l (t, told, waits, i, h) = peer_first names s z (λ p l. After q l p) l p t told waits h (λ new r k. (t, [], told, waits, i, k))

  on_back : (q : List ℕ) (p : PeerState) (l : EndState) → After q l p → HopSo serving silent (λ p l. After q l p) l (gave serving p)
  on_back q p l (g, gone, told, waits, i, h) =
      peer_gives names s z (λ p l. After q l p) l p told waits h (λ sap rest e new r k.
      (g, gone ++ sap ∷ [], rest, waits, i ∙ ap (λ ts. g ∷ (gone ++ (ts ++ waits))) e ∙ ap (λ xs. g ∷ xs) (sym (append_assoc gone (sap ∷ []) (rest ++ waits))), k))

  -- what such an end is at each SAP
  module _ (told waits : List ℕ) (l : EndState) (p : PeerState) (h : Stand_ told waits l p) where
    quiet_at : (t : ℕ) → Quiet_ l t (is_in t (told ++ waits))
    quiet_at t = subst (Quiet_ l t) (sym (in_both t told waits)) (go (is_in t told) (is_in t waits) (h.sides.at t))
      where
        left : own_from t l.own ≡ Some (given_up t Leaving) → Quiet_ l t true
        left e =
            let n = emptied_none t l (ap unit_of e) in record { units = n.0; empty = n.1; waits = ap (λ o. is_waiting (standing_of o)) e }

        go : (a b : Bool) → ByQueues a b t (own_from t l.own) (conn_from t p.served) p.service → Quiet_ l t (a || b)
        go true true y = left y.own
        go true false y = left y.own
        go false true y = left y.own
        go false false y =
            let n = emptied_none t l (over_none (own_from t l.own) y.own) in record { units = n.0; empty = n.1; waits = (over_shut (own_from t l.own) y.own).1 }

  -- These are SAPs of the client.
  abbrev AreOurs : List ℕ → Type 0
  AreOurs q = (t : ℕ) → is_in t q ≡ true → is_in t client_saps ≡ true

  abbrev pub Same : List Received → Type 0
  Same now = now ≡ s.accepted

  -- where a call is
  abbrev pub StepSo : Step → PeerState → Type 0
  StepSo (Goes w) p =
      (l : EndState) × (q : List ℕ) × (w ≡ record { llc = l; jobs = closers q client_saps; idle = 0 }) × (q ≡ [] → ⊥) × AreOurs q × Before q l p
  StepSo (Ends jobs l) p = (jobs ≡ all_closed) × Stand_ [] [] l p
  StepSo (GivesUp g) p = ⊥

  module _ (l : EndState) (q : List ℕ) (p : PeerState) (some : q ≡ [] → ⊥) (ours : AreOurs q) (h : Before q l p) where
    sides_of_ : (told waits : List ℕ) (e : EndState) (r : PeerState) → Stand_ told waits e r → (e.readable ≡ true) × (r.readable ≡ true)
    sides_of_ told waits e r k = (k.sides.client_readable, k.sides.peer_readable)

    asked : (k : ℕ) → Between q (after_giving silent k l) (taken_from serving p (given silent k l))
    asked k = (let r = sides_of_ h.0 h.1 l p h.3 in handed_first silent serving (Between q) (on_out q) k l p r.0 r.1 (first_out q l p h some))

    answered : (k count : ℕ) → After q (taken_from silent (after_giving silent k l) (given serving count (taken_from serving p (given silent k l))))
        (after_giving serving count (taken_from serving p (given silent k l)))
    answered k count =
        let mid = after_giving silent k l in
        let there = taken_from serving p (given silent k l) in
        let b = asked k in
        let r = sides_of_ (b.0 ∷ b.1) b.2 mid there b.4 in
        handed_first serving silent (λ p l. After q l p) (on_back q) count there mid r.1 r.0 (first_back q there mid b)

    before_safe : IsSafe Same l p
    before_safe = record {
      here = ap (λ (x : ServerState). x.accepted) h.3.service_is;
      stepped = λ k count. (let a = answered k count in ap (λ (x : ServerState). x.accepted) a.5.service_is);
      fronts = λ k front behind split.
          (let r = sides_of_ h.0 h.1 l p h.3 in
          let f = handed silent serving (Before q) (any_out q) k l p r.0 r.1 h in
          let t = at_front silent serving (Before q) front behind p (subst (λ is. AtFronts silent serving (Before q) p is) split f.fronts) in
          ap (λ (x : ServerState). x.accepted) t.1.3.service_is);
    }

    -- the jobs behind a reply
    settles : (k : ℕ) (mid new : EndState) (r there : PeerState) → Between q mid there → After q new r → StepSo (took mid new (closers q client_saps) 0) r
    settles k mid new r there b (g, gone, told, waits, i, a) = subst (λ w. StepSo w r) (sym took_is) (go now refl)
      where
        now : List ℕ
        now = told ++ waits

        fewer : (t : ℕ) → is_in t now ≡ true → is_in t q ≡ true
        fewer t e =
            ap (is_in t) i ∙ ap (λ x. (g == t) || x) (in_both t gone now ∙ ap (λ x. is_in t gone || x) e ∙ or_true (is_in t gone)) ∙ or_true (g == t)

        mine : is_in g q ≡ true
        mine = ap (is_in g) i ∙ in_self g (gone ++ now)

        left : is_in g now ≡ false
        left =
            let u = subst AreUnlike (sym b.3 ∙ i) b.4.unlike in
            (neither (is_in g gone) (is_in g now) (sym (in_both g gone now) ∙ u.0)).1

        was : Quiet_ mid g true
        was = subst (Quiet_ mid g) (ap (is_in g) (sym b.3) ∙ mine) (quiet_at (b.0 ∷ b.1) b.2 mid there b.4 g)

        is : Quiet_ new g false
        is = subst (Quiet_ new g) left (quiet_at told waits new r a g)

        gave_ : gave_something (own_from g mid.own) (own_from g new.own) ≡ true
        gave_ = gave_then (own_from g mid.own) (own_from g new.own) was.waits is.waits

        jobs : List OnSap
        jobs = closers q client_saps

        took_is : took mid new jobs 0 ≡ settled new (closers now client_saps) 0
        took_is =
            ap (λ o. call_behind new jobs (all_heard mid new jobs) (idle_after (gave_any mid new jobs) 0) o)
            (ap all_well (closers_heard mid new q now (quiet_at told waits new r a) fewer client_saps) ∙ all_came (closers now client_saps))
            ∙ ap (λ b. settled (all_emptied jobs new) (closers now client_saps) (idle_after b 0)) (closers_gave mid new q g gave_ client_saps (ours g mine))
            ∙ ap (λ (e : EndState). settled e (closers now client_saps) 0) (closers_emptied mid new q now (quiet_at told waits new r a) fewer client_saps)

        go : (xs : List ℕ) → now ≡ xs → StepSo (settled new (closers now client_saps) 0) r
        go [] e =
            subst (λ xs. StepSo (settled new (closers xs client_saps) 0) r) (sym e)
            (refl, (let n = nothing told waits e in subst (λ xs. Stand_ xs [] new r) n.0 (subst (λ xs. Stand_ told xs new r) n.1 a)))
          where
            nothing : (xs ys : List ℕ) → xs ++ ys ≡ [] → (xs ≡ []) × (ys ≡ [])
            nothing [] ys e = (refl, e)
            nothing (x ∷ xs) ys e = absurd cc
        go (t ∷ ts) e =
            let i_ : is_in t now ≡ true = ap (is_in t) e ∙ in_self t ts in
            subst (λ b. StepSo (if b then Ends (closers now client_saps) new else goes_on new (closers now client_saps) 0) r)
            (sym (closers_on now t i_ client_saps (ours t (fewer t i_))))
            (new, now, refl, (λ n. (let z : t ∷ ts ≡ [] = sym e ∙ n in cc)), (λ u m. ours u (fewer u m)), (told, waits, refl, a))

    ready_is : ready (record { llc = l; jobs = closers q client_saps; idle = 0 }) ≡ record { llc = l; jobs = closers q client_saps; idle = 0 }
    ready_is = ap (λ (x : AllReady). let w : Working = record { llc = x.llc; jobs = x.jobs; idle = 0 } in w) (closers_ready q client_saps l)

    turned : (k : ℕ) (reply : List ℕ) (r : PeerState) → PeerSteps p (given silent k l) reply r → StepSo (replied_ready k (record { llc = l; jobs = closers q client_saps; idle = 0 }) reply) r
    turned k reply r x =
        let mid = after_giving silent k l in
        let there = taken_from serving p (given silent k l) in
        let now : After q (taken_from silent mid reply) r =
        subst (λ b. After q (taken_from silent mid b) r) (sym x.reply_is)
        (subst (λ b. After q (taken_from silent mid (given serving x.count there)) b) (sym x.left) (answered k x.count)) in
        settles k mid (taken_from silent mid reply) r there (asked k) now

  pub turns_so : (w : Working) (p : PeerState) → StepSo (Goes w) p → (k : ℕ) (reply : List ℕ) (r : PeerState) → PeerSteps p (payload k w) reply r → StepSo (replied k w reply) r
  turns_so w p (l, q, e, some, ours, h) k reply r x =
      let same : ready w ≡ record { llc = l; jobs = closers q client_saps; idle = 0 } = ap ready e ∙ ready_is l q p some ours h in
      subst (λ v. StepSo (replied_ready k v reply) r) (sym same)
      (turned l q p some ours h k reply r (subst (λ (v : Working). PeerSteps p (given silent k v.llc) reply r) same x))

  pub safe_so : (w : Working) (p : PeerState) → StepSo (Goes w) p → IsSafe Same (ready w).llc p
  safe_so w p (l, q, e, some, ours, h) =
      subst (λ (v : Working). IsSafe Same v.llc p) (sym (ap ready e ∙ ready_is l q p some ours h)) (before_safe l q p some ours h)

  abbrev pub course : Course Same
  course = record { At = StepSo; turns = turns_so; safe = safe_so }

unlike_without : (xs : List ℕ) (s : ℕ) (ys : List ℕ) → AreUnlike (xs ++ s ∷ ys) → AreUnlike (xs ++ ys)
unlike_without [] s ys u = u.1
unlike_without (x ∷ xs) s ys u =
    let e = neither (is_in x xs) (is_in x (s ∷ ys)) (sym (in_both x xs (s ∷ ys)) ∙ u.0) in
    let n = neither (s == x) (is_in x ys) e.1 in
    (in_both x xs ys ∙ ap (λ b. b || is_in x ys) e.0 ∙ n.1, unlike_without xs s ys u.1)

saps_unlike : AreUnlike client_saps
saps_unlike = (refl, (refl, (refl, (refl, (refl, (refl, (refl, (refl, tt))))))))

-- While connections are given up one after the other: the DISC of a SAP waits; it is still to come to; or there is none.
abbrev ByTurn : Bool → Bool → Place
ByTurn true b t o c x = Giving t o c x
ByTurn false true t o c x = Rested x t o c
ByTurn false false t o c x = Gone o c

abbrev Turning : List ℕ → List ℕ → Place
Turning waits ss t o c x = ByTurn (is_in t waits) (is_in t ss) t o c x

module _ (names : List Bound) (s : ServerState) (z : Sizes) (p : PeerState) where
  abbrev Side_ : List ℕ → List ℕ → EndState → Type 0
  Side_ waits ss l = Sides s.limit s.table names s.accepted z (Turning waits ss) (map disc waits) [] l p

  record Opened (waits ss : List ℕ) (r : AllReady) : Type 0 where
    pub more : List ℕ
    pub within : (t : ℕ) → is_in t more ≡ true → is_in t ss ≡ true
    pub unlike : AreUnlike (waits ++ more)
    pub few : length more ≤ length ss
    pub jobs : r.jobs ≡ closers (waits ++ more) ss
    pub sides : Side_ (waits ++ more) [] r.llc

  in_more : (t a : ℕ) (xs : List ℕ) → is_in t xs ≡ true → is_in t (a ∷ xs) ≡ true
  in_more t a xs e = ap (λ b. (a == t) || b) e ∙ or_true (a == t)

  -- there is none at the next SAP
  module _ (waits : List ℕ) (t : ℕ) (ss : List ℕ) (l : EndState) (u : AreUnlike (waits ++ t ∷ ss)) (h : Side_ waits (t ∷ ss) l) where
    around : (is_in t waits ≡ false) × (is_in t ss ≡ false)
    around = amid t waits ss u

    rested : Rested p.service t (own_from t l.own) (conn_from t p.served)
    rested =
        subst (λ b. ByTurn b true t (own_from t l.own) (conn_from t p.served) p.service) around.0
        (subst (λ b. ByTurn (is_in t waits) b t (own_from t l.own) (conn_from t p.served) p.service) (in_self t ss) (h.at t))

    abbrev By_ : Bool → Type 0
    By_ b = Opened waits (t ∷ ss) (with_job t (leaving l t b) (all_opening (leave_from ss)))

    passed : (y : IsOver (own_from t l.own) × (conn_from t p.served ≡ None)) → Side_ waits ss l
    passed y = sides_by s.limit s.table names s.accepted z (Turning waits (t ∷ ss)) (map disc waits) [] l p h (Turning waits ss) (λ r k. go r (t == r) refl k)
      where
        go : (r : ℕ) (b : Bool) → (t == r) ≡ b → Turning waits (t ∷ ss) r (own_from r l.own) (conn_from r p.served) p.service → Turning waits ss r (own_from r l.own) (conn_from r p.served) p.service
        go r false e k = subst (λ b. ByTurn (is_in r waits) b r (own_from r l.own) (conn_from r p.served) p.service) (in_other t r ss e) k
        go r true e k =
            subst (λ v. Turning waits ss v (own_from v l.own) (conn_from v p.served) p.service) (eqb-true t r e)
            (subst (λ b. ByTurn b (is_in t ss) t (own_from t l.own) (conn_from t p.served) p.service) (sym around.0)
            (subst (λ b. ByTurn false b t (own_from t l.own) (conn_from t p.served) p.service) (sym around.1) (record { own = y.0; served = y.1 })))

    none_there : Opened waits ss (all_opening (leave_from ss) l) → By_ false
    none_there o = record {
      more = o.more;
      within = λ r e. in_more r t ss (o.within r e);
      unlike = o.unlike;
      few = (let f = o.few in omega (arith, f));
      jobs = ap (λ js. record { sap = t; job = Over Done } ∷ js) o.jobs ∙ ap (λ b. record { sap = t; job = closer b } ∷ closers (waits ++ o.more) ss) (sym not_there);
      sides = o.sides;
    }
      where
        not_more : (b : Bool) → is_in t o.more ≡ b → is_in t o.more ≡ false
        not_more false e = e
        not_more true e = absurd (let k : true ≡ false = sym (o.within t e) ∙ around.1 in cc)

        not_there : is_in t (waits ++ o.more) ≡ false
        not_there = in_both t waits o.more ∙ ap (λ b. b || is_in t o.more) around.0 ∙ not_more (is_in t o.more) refl

    -- one is open there
    module _ (q : Quiet p.service t (own_from t l.own) (conn_from t p.served)) where
      abbrev gave_up : EndState
      gave_up = record l { own = with_own (given_up t Leaving) l.own }

      abbrev left_ : EndState
      left_ = record gave_up { queue = l.queue ++ disc t ∷ [] }

      others : (r : ℕ) → (t == r) ≡ false → (o : Option OwnState) (k : Option ConnState) → Turning waits (t ∷ ss) r o k p.service → Turning (waits ++ t ∷ []) ss r o k p.service
      others r n o k a =
          subst (λ b. ByTurn b (is_in r ss) r o k p.service) (sym (in_last_other t r waits n)) (subst (λ b. ByTurn (is_in r waits) b r o k p.service) (in_other t r ss n) a)

      here : Turning (waits ++ t ∷ []) ss t (Some (given_up t Leaving)) (conn_from t p.served) p.service
      here =
          subst (λ b. ByTurn b (is_in t ss) t (Some (given_up t Leaving)) (conn_from t p.served) p.service) (sym (in_last t waits))
          (record { range = q.range; own = refl; n = q.n; settled = q.settled; served = q.served; session = q.session })

      left_sides : Side_ (waits ++ t ∷ []) ss left_
      left_sides =
          subst (λ w. Sides s.limit s.table names s.accepted z (Turning (waits ++ t ∷ []) ss) w [] left_ p) (ap (λ w. w ++ disc t ∷ []) h.client_queue ∙ sym (map-append disc waits (t ∷ [])))
          (client_queues s.limit s.table names s.accepted z (Turning (waits ++ t ∷ []) ss) (map disc waits) [] gave_up p
          (sides_own s.limit s.table names s.accepted z (Turning waits (t ∷ ss)) (Turning (waits ++ t ∷ []) ss) (map disc waits) [] l p h t (given_up t Leaving) _ q.own refl others here)
          (l.queue ++ disc t ∷ []) l.lookups l.asked)

      left_is : disconnected_by l (own_of t l) ≡ left_
      left_is = ap (disconnected_by l) q.own

      one_there : Opened (waits ++ t ∷ []) ss (all_opening (leave_from ss) left_) → By_ true
      one_there o = subst (λ e. Opened waits (t ∷ ss) (with_job t (ready_so e Closes) (all_opening (leave_from ss)))) (sym left_is) (record {
        more = t ∷ o.more;
        within = λ r e. within_ r (t == r) e;
        unlike = subst AreUnlike same o.unlike;
        few = (let f = o.few in omega (arith, f));
        jobs = ap (λ js. record { sap = t; job = Closes } ∷ js) (o.jobs ∙ ap (λ ws. closers ws ss) same)
            ∙ ap (λ b. record { sap = t; job = closer b } ∷ closers (waits ++ t ∷ o.more) ss) (sym there);
        sides = subst (λ ws. Side_ ws [] (all_opening (leave_from ss) left_).llc) same o.sides;
      })
        where
          same : (waits ++ t ∷ []) ++ o.more ≡ waits ++ t ∷ o.more
          same = append_assoc waits (t ∷ []) o.more

          there : is_in t (waits ++ t ∷ o.more) ≡ true
          there = in_both t waits (t ∷ o.more) ∙ ap (λ b. is_in t waits || b) (in_self t o.more) ∙ or_true (is_in t waits)

          within_ : (r : ℕ) (b : Bool) → (b || is_in r o.more) ≡ true → (b || is_in r ss) ≡ true
          within_ r true e = refl
          within_ r false e = o.within r e

  opens : (ss waits : List ℕ) (l : EndState) → AreUnlike (waits ++ ss) → Side_ waits ss l → Opened waits ss (all_opening (leave_from ss) l)
  opens [] waits l u h = record {
    more = [];
    within = λ t e. e;
    unlike = u;
    few = omega arith;
    jobs = refl;
    sides = subst (λ ws. Side_ ws [] l) (sym (append-nil waits)) h;
  }
  opens (t ∷ ss) waits l u h = go (rested waits t ss l u h) (λ e k v. opens ss waits e k v) (λ e k v. opens ss (waits ++ t ∷ []) e k v)
    where
      go : Rested p.service t (own_from t l.own) (conn_from t p.served) → ((e : EndState) → AreUnlike (waits ++ ss) → Side_ waits ss e → Opened waits ss (all_opening (leave_from ss) e))
          → ((e : EndState) → AreUnlike ((waits ++ t ∷ []) ++ ss) → Side_ (waits ++ t ∷ []) ss e → Opened (waits ++ t ∷ []) ss (all_opening (leave_from ss) e))
          → Opened waits (t ∷ ss) (all_opening (leave_from (t ∷ ss)) l)
      go (inl y) none some =
          subst (By_ waits t ss l u h) (sym (over_shut (own_of t l) y.0).0) (none_there waits t ss l u h (none l (unlike_without waits t ss u) (passed waits t ss l u h y)))
      go (inr q) none some =
          subst (By_ waits t ss l u h) (sym (ap is_open_by q.own))
          (one_there waits t ss l u h q (some (left_ waits t ss l u h q) (subst AreUnlike (sym (append_assoc waits (t ∷ []) ss)) u) (left_sides waits t ss l u h q)))

module _ {C A : Type 0} (seen : C → CarrierView) (swaps : C → List ℕ → List FarStep → C → Type 0) (steps : A → List ℕ → List ℕ → A → Type 0) (stops : A → List ℕ → A → Type 0)
    (view : A → PeerState) (peer : IsPeer steps stops view) (client : EndState) (link : C) (far : A) (a : Accords client (view far)) (numbers : List ℕ) where
  abbrev p : PeerState
  p = view far

  abbrev z_ : Sizes
  z_ = sizes_of client p

  abbrev AtStep : Step → PeerState → Type 0
  AtStep = (course p.bound p.service z_).At

  first_sides : Sides p.service.limit p.service.table p.bound p.service.accepted z_ (Turning [] client_saps) [] [] client p
  first_sides = sides_by p.service.limit p.service.table p.bound p.service.accepted z_ (AllRested p.service) [] [] client p (sides_at client p a) (Turning [] client_saps)
      (λ t y. go t (is_in t client_saps) refl y)
    where
      go : (t : ℕ) (b : Bool) → is_in t client_saps ≡ b → Rested p.service t (own_from t client.own) (conn_from t p.served) → ByTurn false b t (own_from t client.own) (conn_from t p.served) p.service
      go t true e y = y
      go t false e (inl y) = record { own = y.0; served = y.1 }
      go t false e (inr q) = absurd (let k : true ≡ false = sym (in_saps t q.range) ∙ e in cc)

  abbrev r_ : AllReady
  r_ = all_opening (leave_from client_saps) client

  opened : Opened p.bound p.service z_ p [] client_saps r_
  opened = opens p.bound p.service z_ p client_saps [] client saps_unlike first_sides

  abbrev q_ : List ℕ
  q_ = opened.more

  begun_stands : Stands p.bound p.service z_ [] q_ r_.llc p
  begun_stands = record {
    sides = sides_by p.service.limit p.service.table p.bound p.service.accepted z_ (Turning q_ []) (map disc q_) [] r_.llc p opened.sides (Parting [] q_) (λ t y. go t (is_in t q_) y);
    service_is = refl;
    unlike = opened.unlike;
    few = (let f = opened.few in omega (arith, f));
  }
    where
      go : (t : ℕ) (b : Bool) → ByTurn b false t (own_from t r_.llc.own) (conn_from t p.served) p.service → ByQueues false b t (own_from t r_.llc.own) (conn_from t p.served) p.service
      go t true y = y
      go t false y = y

  begins_so : AtStep (closes client) p
  begins_so = subst (λ js. AtStep (if all_over js then Ends js r_.llc else begun r_.llc js) p) (sym opened.jobs) (go q_ refl)
    where
      go : (xs : List ℕ) → q_ ≡ xs → AtStep (if all_over (closers q_ client_saps) then Ends (closers q_ client_saps) r_.llc else begun r_.llc (closers q_ client_saps)) p
      go [] e =
          subst (λ xs. AtStep (if all_over (closers xs client_saps) then Ends (closers xs client_saps) r_.llc else begun r_.llc (closers xs client_saps)) p) (sym e)
          (refl, subst (λ xs. Stands p.bound p.service z_ [] xs r_.llc p) e begun_stands)
      go (t ∷ ts) e =
          let i : is_in t q_ ≡ true = ap (is_in t) e ∙ in_self t ts in
          subst (λ b. AtStep (if b then Ends (closers q_ client_saps) r_.llc else begun r_.llc (closers q_ client_saps)) p)
          (sym (closers_on q_ t i client_saps (opened.within t i)))
          (r_.llc, q_, refl, (λ n. (let k : t ∷ ts ≡ [] = sym e ∙ n in cc)), opened.within, ([], q_, refl, begun_stands))

  -- all ended
  pub close_ends : (new : EndState) (now : C) (after : A) → Talks seen swaps steps stops numbers (closes client) link far (Ends all_closed new) now after → IsClosed p new (view after)
  close_ends new now after t =
      let y = came (Same p.bound p.service z_) (course p.bound p.service z_) seen swaps steps stops view peer numbers (closes client) (Ends all_closed new) link now far after begins_so t in
      let h = y.1 in record {
        apart = λ s. (let g = h.sides.at s in record { own = g.own; served = g.served });
        aside = record {
          service = h.service_is;
          bound = h.sides.reached.0;
          accords = accord_at p.bound p.service z_ new (view after)
              (sides_by p.service.limit p.service.table p.bound p.service.accepted z_ (Parting [] []) [] [] new (view after) h.sides (AllRested p.service) (λ t k. inl (k.own, k.served))) h.service_is;
        };
      }

  aside_by : (q : PeerState) → q.service.accepted ≡ p.service.accepted → (c : EndCause) → AsideFails p (fault_of c) q
  aside_by q h cause.FieldLost = h
  aside_by q h cause.SixBad = h
  aside_by q h cause.Protocol = h
  aside_by q h cause.Memory = h

  -- it failed
  pub close_fails : (e : SnepFault) (new : EndState) (now : C) (after : A) → FailsBy seen swaps steps stops numbers (closes client) link far e new now after → AsideFails p e (view after)
  close_fails e new now after (inl (f, k, t)) =
      absurd (came (Same p.bound p.service z_) (course p.bound p.service z_) seen swaps steps stops view peer numbers (closes client) (gives_up k new) link now far after begins_so t)
  close_fails e new now after (inr b) =
      let k = breaks_off (Same p.bound p.service z_) (course p.bound p.service z_) seen swaps steps stops view peer numbers (closes client) link far e new now after begins_so b in
      subst (λ f. AsideFails p f (view after)) (sym k.fault) (aside_by (view after) k.added k.why)
