-- What came to a server's end on one link: what was accepted stays, and messages are accepted in order.
use Rattle.std.proofs.Common.{◌≡◌, ℕ, ◌<◌, List, [], ◌∷◌, ◌++◌, Bool, true, false, if◌then◌else◌, refl, sym, ◌∙◌, ap, subst, arith}
use Rattle.std.specs.List.{AllByRecursion}
use Rattle.nfc_base.specs.Choosing.{first_number, later_numbers}
use Rattle.llcp_link.specs.Running.{Acted, AreBytes, Else, Gives, Takes, end_after_acts, marks_of}
use Rattle.llcp_link.specs.State.{restarted}
use Rattle.llcp_link.specs.Taking.{brought, items, steps, taken_from}
use Rattle.llcp_link.specs.Units.{Mark, marks}
use Rattle.llcp_link.proofs.StepsSoFar.{steps_more}
use Rattle.snep_core.specs.Payloads.{AcceptsPuts, AcceptsThere, IsServerRun}
use Rattle.nfc_base.specs.Prefix.{IsPrefix}
use Rattle.snep_core.specs.Server.{ServerState, serving}
use Rattle.llcp_pdu.specs.Wire.{sap_count}
use Rattle.snep_core.specs.Session.{Offer}
use Rattle.snep_core.proofs.sessions.PayloadLaw.{accepted_in_order, payloads_accepted}
use Rattle.link_calls.specs.Arriving.{all_answered}
use Rattle.link_calls.specs.Staying.{Setting}
use Rattle.link_calls.proofs.Settings.{answered_set}
use Rattle.bench_world.specs.Arrivals.{Arrival, arrival_marks, arrivals_of, end_after, end_at, end_behind, giving_values, payloads_of}
use Rattle.bench_world.specs.ByPayloads.{PlaceInArrivals, end_there, marks_there}
use Rattle.bench_world.specs.World.{FarEnd}

-- all payloads that came are bytes
abbrev pub AreOfBytes : List Arrival → Type 0
AreOfBytes arrivals = AllByRecursion (λ (a : Arrival). AreBytes a.payload) arrivals

-- An arrival as a run of the end: other values are given, the payload is taken, and one is given.
abbrev offers : FarEnd → Arrival → Acted ServerState
offers l a = record { act = Else; after = end_at l a }

abbrev takes : FarEnd → Arrival → Acted ServerState
takes l a = record { act = Takes a.payload; after = taken_from serving (end_at l a) a.payload }

abbrev gives : FarEnd → Arrival → Acted ServerState
gives l a = record { act = Gives a.count; after = end_after l a }

abbrev run_of : FarEnd → List Arrival → List (Acted ServerState)
run_of l [] = []
run_of l (a ∷ more) = offers l a ∷ takes l a ∷ gives l a ∷ run_of (end_after l a) more

-- up to where the next one finds the end
abbrev run_to : FarEnd → List Arrival → Arrival → List (Acted ServerState)
run_to l [] next = offers l next ∷ []
run_to l (a ∷ more) next = offers l a ∷ takes l a ∷ gives l a ∷ run_to (end_after l a) more next

run_does : (l : FarEnd) (xs : List Arrival) → AreOfBytes xs → IsServerRun l (run_of l xs)
run_does l [] bytes = tt
run_does l (a ∷ more) bytes =
    (record { miu = refl; served = refl; service = (a.table, refl) }, ((bytes.0, refl), (refl, run_does (end_after l a) more bytes.1)))

run_end : (l : FarEnd) (xs : List Arrival) → end_after_acts l (run_of l xs) ≡ end_behind l xs
run_end l [] = refl
run_end l (a ∷ more) = run_end (end_after l a) more

run_marks : (c : ℕ) (l : FarEnd) (xs : List Arrival) → marks_of serving c l (run_of l xs) ≡ arrival_marks c l xs
run_marks c l [] = refl
run_marks c l (a ∷ more) = ap (λ ms. marks serving c (end_at l a) (brought (end_at l a) a.payload) ++ ms) (run_marks c (end_after l a) more)

to_does : (l : FarEnd) (xs : List Arrival) (next : Arrival) → AreOfBytes xs → IsServerRun l (run_to l xs next)
to_does l [] next bytes = (record { miu = refl; served = refl; service = (next.table, refl) }, tt)
to_does l (a ∷ more) next bytes =
    (record { miu = refl; served = refl; service = (a.table, refl) }, ((bytes.0, refl), (refl, to_does (end_after l a) more next bytes.1)))

to_end : (l : FarEnd) (xs : List Arrival) (next : Arrival) → end_after_acts l (run_to l xs next) ≡ end_at (end_behind l xs) next
to_end l [] next = refl
to_end l (a ∷ more) next = to_end (end_after l a) more next

to_marks : (c : ℕ) (l : FarEnd) (xs : List Arrival) (next : Arrival) → marks_of serving c l (run_to l xs next) ≡ arrival_marks c l xs
to_marks c l [] next = refl
to_marks c l (a ∷ more) next = ap (λ ms. marks serving c (end_at l a) (brought (end_at l a) a.payload) ++ ms) (to_marks c (end_after l a) more next)

-- some arrivals behind others
pub behind_then : (l : FarEnd) (xs bs : List Arrival) → end_behind l (xs ++ bs) ≡ end_behind (end_behind l xs) bs
behind_then l [] bs = refl
behind_then l (a ∷ xs) bs = behind_then (end_after l a) xs bs

pub bytes_then : (xs bs : List Arrival) → AreOfBytes xs → AreOfBytes bs → AreOfBytes (xs ++ bs)
bytes_then [] bs h k = k
bytes_then (a ∷ xs) bs h k = (h.0, bytes_then xs bs h.1 k)

bytes_before : (xs bs : List Arrival) → AreOfBytes (xs ++ bs) → AreOfBytes xs
bytes_before [] bs h = tt
bytes_before (a ∷ xs) bs h = (h.0, bytes_before xs bs h.1)

bytes_behind : (xs bs : List Arrival) → AreOfBytes (xs ++ bs) → AreOfBytes bs
bytes_behind [] bs h = h
bytes_behind (a ∷ xs) bs h = bytes_behind xs bs h.1

pub payloads_then : (xs bs : List Arrival) → payloads_of (xs ++ bs) ≡ payloads_of xs ++ payloads_of bs
payloads_then [] bs = refl
payloads_then (a ∷ xs) bs = ap (λ ps. a.payload ∷ ps) (payloads_then xs bs)

pub payloads_are : (table : List Offer) (ns : List ℕ) (ps : List (List ℕ)) → payloads_of (arrivals_of table ns ps) ≡ ps
payloads_are table ns [] = refl
payloads_are table ns (p ∷ ps) = ap (λ qs. p ∷ qs) (payloads_are table (later_numbers ns) ps)

pub bytes_are : (table : List Offer) (ns : List ℕ) (ps : List (List ℕ)) → AllByRecursion AreBytes ps → AreOfBytes (arrivals_of table ns ps)
bytes_are table ns [] bytes = tt
bytes_are table ns (p ∷ ps) bytes = (bytes.0, bytes_are table (later_numbers ns) ps bytes.1)

-- an end that answers payloads gives the same values all along
pub answered_is : (ps : List (List ℕ)) (ns : List ℕ) (table : List Offer) (l : FarEnd)
    → (all_answered ps (record { end = giving_values table l; numbers = ns })).end ≡ giving_values table (end_behind l (arrivals_of table ns ps))
answered_is [] ns table l = refl
answered_is (p ∷ ps) ns table l =
    let a : Arrival = record { payload = p; count = first_number ns; table = table } in
    let next : FarEnd = end_after l a in
    let kept : next.service.table ≡ table = ap (λ (z : Setting). z.table) (answered_set p (first_number ns) (giving_values table l)) in
    let same : next ≡ giving_values table next = ap (λ t. giving_values t next) kept in
    ap (λ e. (all_answered ps (record { end = e; numbers = later_numbers ns })).end) same ∙ answered_is ps (later_numbers ns) table next

-- an empty payload has no PDUs
nothing_in : (v : Bool) → (if v then items [] else []) ≡ []
nothing_in true = refl
nothing_in false = refl

module _ (old : FarEnd) (general : List ℕ) where
  abbrev begin : FarEnd
  begin = restarted serving old general

  -- of each client's SAP, what is accepted is what the payloads put
  pub arrivals_put : (xs : List Arrival) → AreOfBytes xs → (c : ℕ) → c < sap_count
      → AcceptsPuts c old.service.limit old.miu (arrival_marks c begin xs) old.service.accepted (end_behind begin xs).service.accepted
  arrivals_put xs bytes c few =
      let P : List Mark → FarEnd → Type 0 = λ ms e. AcceptsPuts c old.service.limit old.miu ms old.service.accepted e.service.accepted in
      subst (P (arrival_marks c begin xs)) (run_end begin xs)
      (subst (λ ms. P ms (end_after_acts begin (run_of begin xs))) (run_marks c begin xs) (payloads_accepted old general (run_of begin xs) (run_does begin xs bytes) c few))

  -- what was accepted stays, and more is accepted behind it
  pub arrivals_front : (xs more : List Arrival) → AreOfBytes xs → AreOfBytes more
      → IsPrefix (end_behind begin xs).service.accepted (end_behind (end_behind begin xs) more).service.accepted
  arrivals_front xs more bytes then_ =
      let here : FarEnd = end_after_acts begin (run_of begin xs) in
      let law : AcceptsThere old begin _ = accepted_in_order old general (record {
        before = run_of begin xs;
        run = run_does begin xs bytes;
        payload = [];
        bytes = λ i. omega arith;
        came = [];
        behind = [];
        split = nothing_in here.readable;
      }) in
      let front : IsPrefix here.service.accepted (end_after_acts here (run_of here more)).service.accepted = law.front (run_of here more) (run_does here more then_) in
      let P : FarEnd → Type 0 = λ e. IsPrefix e.service.accepted (end_behind e more).service.accepted in
      subst P (run_end begin xs) (subst (λ (e : FarEnd). IsPrefix here.service.accepted e.service.accepted) (run_end here more) front)

  -- so it is at each place on the way
  module _ (xs : List Arrival) (bytes : AreOfBytes xs) (p : PlaceInArrivals begin xs) where
    abbrev until : FarEnd
    until = end_behind begin p.before

    abbrev there : FarEnd
    there = end_at until p.next

    abbrev run : List (Acted ServerState)
    run = run_to begin p.before p.next

    abbrev here : FarEnd
    here = end_after_acts begin run

    here_is : here ≡ there
    here_is = to_end begin p.before p.next

    parted : AreOfBytes (p.before ++ p.next ∷ p.more)
    parted = subst AreOfBytes p.split bytes

    last : AreOfBytes (p.next ∷ p.more)
    last = bytes_behind p.before (p.next ∷ p.more) parted

    split_here : brought here p.next.payload ≡ p.came ++ p.behind
    split_here = ap (λ l. brought l p.next.payload) here_is ∙ p.parts

    law : AcceptsThere old begin (record {
      before = run;
      run = to_does begin p.before p.next (bytes_before p.before (p.next ∷ p.more) parted);
      payload = p.next.payload;
      bytes = last.0;
      came = p.came;
      behind = p.behind;
      split = split_here;
    })
    law = accepted_in_order old general (record {
      before = run;
      run = to_does begin p.before p.next (bytes_before p.before (p.next ∷ p.more) parted);
      payload = p.next.payload;
      bytes = last.0;
      came = p.came;
      behind = p.behind;
      split = split_here;
    })

    pub place_puts : (c : ℕ) → c < sap_count → AcceptsPuts c old.service.limit old.miu (marks_there p c) old.service.accepted (end_there p).service.accepted
    place_puts c few =
        let P : List Mark → FarEnd → Type 0 = λ ms e. AcceptsPuts c old.service.limit old.miu (ms ++ marks serving c e p.came) old.service.accepted (steps serving e p.came).service.accepted in
        subst (P (arrival_marks c begin p.before)) here_is (subst (λ ms. P ms here) (to_marks c begin p.before p.next) (law.puts c few))

    -- the rest of the payload, the reply, and what came then
    abbrev left : FarEnd
    left = steps serving (steps serving here p.came) p.behind

    left_is : left ≡ taken_from serving there p.next.payload
    left_is =
        sym (steps_more serving here p.came p.behind) ∙ ap (steps serving here) (sym split_here)
        ∙ ap (λ l. taken_from serving l p.next.payload) here_is

    abbrev rest : List (Acted ServerState)
    rest = gives until p.next ∷ run_of (end_after until p.next) p.more

    rest_does : IsServerRun left rest
    rest_does = subst (λ l. IsServerRun l rest) (sym left_is) (refl, run_does (end_after until p.next) p.more last.1)

    rest_end : end_after_acts left rest ≡ end_behind begin xs
    rest_end =
        run_end (end_after until p.next) p.more ∙ sym (behind_then begin p.before (p.next ∷ p.more))
        ∙ ap (end_behind begin) (sym p.split)

    pub place_front : IsPrefix (end_there p).service.accepted (end_behind begin xs).service.accepted
    place_front =
        let front : IsPrefix (steps serving here p.came).service.accepted (end_after_acts left rest).service.accepted = law.front rest rest_does in
        subst (λ (e : FarEnd). IsPrefix (steps serving e p.came).service.accepted (end_behind begin xs).service.accepted) here_is
        (subst (λ (e : FarEnd). IsPrefix (steps serving here p.came).service.accepted e.service.accepted) rest_end front)
