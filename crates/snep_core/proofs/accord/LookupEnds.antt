-- What a lookup comes to at a peer that its client accords with.
use Rattle.std.proofs.Common.{◌≡◌, ◌≤◌, nat_le, ℕ, ◌+◌, ◌/◌, ◌%◌, ◌==◌, Bool, true, false, List, [], ◌∷◌, ◌++◌, length, Some, refl, sym, ◌∙◌, ap, subst, arith, append-nil, if◌then◌else◌}
use Rattle.std.proofs.Math.Seq.{take-nil}
use Rattle.std.proofs.lemmas.Bool.{eq-eqb}
use Rattle.std.proofs.lemmas.List.{take_all}
use Rattle.nfc_base.specs.Links.{CarrierView, FarStep}
use Rattle.llcp_pdu.specs.declared.param.Param.TheVariants.{SdReq, SdRes}
use Rattle.llcp_pdu.specs.declared.part.Part.TheVariants.{Snl}
use Rattle.llcp_pdu.specs.Wire.{least_miu}
use Rattle.llcp_link.specs.Asking.{found_in, looked_up, put_lookup, request}
use Rattle.llcp_link.specs.Giving.{gave, gave_from}
use Rattle.llcp_link.specs.Names.{answers_to, found, told_one}
use Rattle.llcp_link.specs.State.{Bound, Lookup, Queued, answer, conn_from, most_answers, own_from}
use Rattle.llcp_link.specs.Taking.{answers_in, steps_part, tells}
use Rattle.snep_core.specs.declared.fault.SnepFault.{SnepFault}
use Rattle.snep_core.specs.Accord.{Accords, AsideFails, IsFound, IsPeer, PeerState}
use Rattle.snep_core.specs.Calling.{FailsBy, Talks}
use Rattle.snep_core.specs.Jobs.{Job, Looks, Over, Sap, told_in}
use Rattle.snep_core.specs.Server.{ServerState, serving}
use Rattle.snep_core.specs.Talk.{EndState, Ends, Finds, OnSap, alone, begins, client_sap, emptied, found_so, heard, heard_so, silent}
use Rattle.snep_core.proofs.connections.Asides.{AllRested, Calm, Rested, accord_at, client_hop, client_queues, peer_hop, peer_queues, rested_emptied, rested_splits, rested_units, sides_at}
use Rattle.snep_core.proofs.connections.Carrying.{FirstSo, IsShort}
use Rattle.snep_core.proofs.jobs.Courses.{came}
use Rattle.snep_core.proofs.accord.Ends.{sizes_of}
use Rattle.snep_core.proofs.jobs.OneExchange.{OneExchange, Same, course, fails_so}
use Rattle.snep_core.proofs.connections.Sides.{Sides, Sizes}

-- a number that was told is found
told_found : (tid sap : ℕ) (xs : List Lookup) → found_in tid (told_one tid sap (put_lookup tid xs)) ≡ Some sap
told_found tid sap [] = rw (eq-eqb tid tid refl, eq-eqb tid tid refl) refl
told_found tid sap (x ∷ xs) = go (x.tid == tid) refl (told_found tid sap xs)
  where
    go : (b : Bool) → (x.tid == tid) ≡ b → found_in tid (told_one tid sap (put_lookup tid xs)) ≡ Some sap → found_in tid (told_one tid sap (put_lookup tid (x ∷ xs))) ≡ Some sap
    go true t more = rw (t, eq-eqb tid tid refl, eq-eqb tid tid refl) refl
    go false t more = rw (t, t, t) more

-- one answer, where at least one fits
one_answer : (bound : List Bound) (most tid : ℕ) (name : List ℕ) → 1 ≤ most → answers_to bound most (SdReq tid name ∷ []) ≡ SdRes tid (found bound name) ∷ []
one_answer bound most tid name h = take_all most (SdRes tid (found bound name) ∷ []) (omega arith)

-- the peer takes the SNL
snl_taken : (p : PeerState) (tid : ℕ) (name : List ℕ) → least_miu ≤ p.far_miu → p.queue ≡ []
    → steps_part serving p (Snl (SdReq tid name ∷ [])) ≡ record p { queue = answer (Snl (SdRes tid (found p.bound name) ∷ [])) ∷ [] }
snl_taken p tid name h e =
    ap (λ ps. tells p ps) (one_answer p.bound (p.far_miu / 4) tid name (omega (arith, h)))
    ∙ ap (λ q. if nat_le most_answers (answers_in q) then p else record p { queue = q ++ answer (Snl (SdRes tid (found p.bound name) ∷ [])) ∷ [] }) e

-- the client takes the answer
answer_taken : (l : EndState) (tid sap : ℕ) → steps_part silent l (Snl (SdRes tid sap ∷ [])) ≡ record l { lookups = told_one tid sap l.lookups }
answer_taken l tid sap = ap (λ ps. tells (record l { lookups = told_one tid sap l.lookups }) ps) (take-nil (l.far_miu / 4))

module _ (tid : ℕ) (name : List ℕ) (short : length name ≤ 64) (names : List Bound) (s : ServerState) (z : Sizes) where
  abbrev sap : ℕ
  sap = found names name

  abbrev snl : Queued
  snl = request (Snl (SdReq tid name ∷ []))

  abbrev told_ : Queued
  told_ = answer (Snl (SdRes tid sap ∷ []))

  -- once its number is told, it is found; and it was told
  abbrev ReadyTo : List Lookup → Type 0
  ReadyTo k = found_in tid (told_one tid sap k) ≡ Some sap

  abbrev WasTold : List Lookup → Type 0
  WasTold k = found_in tid k ≡ Some sap

  abbrev Waits : (List Lookup → Type 0) → List Queued → List Queued → EndState → PeerState → Type 0
  Waits Found client_waits peer_waits l p = Calm Found z.there names s z (AllRested s) (rested_splits s) client_waits peer_waits l p

  -- the SNL waits at the client; its answer waits at the peer; nothing waits
  abbrev Before : EndState → PeerState → Type 0
  Before l p = Waits ReadyTo (snl ∷ []) [] l p

  abbrev Between : EndState → PeerState → Type 0
  Between l p = Waits ReadyTo [] (told_ ∷ []) l p

  abbrev After : EndState → PeerState → Type 0
  After l p = Waits WasTold [] [] l p

  snl_short : IsShort (Snl (SdReq tid name ∷ []))
  snl_short = (((omega (arith, short)), tt), (let e = ap (λ (k : List ℕ). length k) (append-nil name) in omega (arith, short, e)))

  -- the client gives the SNL
  pub first_out : (l : EndState) (p : PeerState) → Before l p → FirstSo silent serving Between l p (gave silent l)
  first_out l p h =
      let taken = snl_taken p tid name h.sides.reached.2 h.sides.peer_queue
      ∙ ap (λ (b : List Bound). record p { queue = answer (Snl (SdRes tid (found b name) ∷ [])) ∷ [] }) h.sides.reached.0 in
      let out = client_queues s.limit s.table names s.accepted z (AllRested s) (snl ∷ []) [] l p h.sides [] l.lookups l.asked in
      subst (λ q. FirstSo silent serving Between l p (gave_from silent l q)) (sym h.sides.client_queue) (
        snl_short,
        subst (λ (q : PeerState). Between (record l { queue = [] }) q) (sym taken) (record {
          sides = peer_queues s.limit s.table names s.accepted z (AllRested s) [] [] (record l { queue = [] }) p out (told_ ∷ []);
          service_is = h.service_is;
          found = h.found;
          stays = h.stays;
        }),
      )

  -- the peer gives its answer
  pub first_back : (p : PeerState) (l : EndState) → Between l p → FirstSo serving silent (λ q e. After e q) p l (gave serving p)
  first_back p l h =
      let back = peer_queues s.limit s.table names s.accepted z (AllRested s) [] (told_ ∷ []) l p h.sides [] in
      subst (λ q. FirstSo serving silent (λ q e. After e q) p l (gave_from serving p q)) (sym h.sides.peer_queue) (
        ((tt, tt), omega arith),
        subst (λ (e : EndState). After e (record p { queue = [] })) (sym (answer_taken l tid sap)) (record {
          sides = subst (λ q. Sides s.limit s.table names s.accepted z (AllRested s) q [] (record l { lookups = told_one tid sap l.lookups }) (record p { queue = [] })) h.sides.client_queue
              (client_queues s.limit s.table names s.accepted z (AllRested s) [] [] l (record p { queue = [] }) back l.queue (told_one tid sap l.lookups) l.asked);
          service_is = h.service_is;
          found = h.found;
          stays = h.stays;
        }),
      )

  abbrev rest_at : (l : EndState) (p : PeerState) → After l p → Rested s client_sap (own_from client_sap l.own) (conn_from client_sap p.served)
  rest_at l p h = h.sides.at client_sap

  pub was_told : (waiting : Bool) (l : EndState) (p : PeerState) → After l p → heard waiting l client_sap (Looks tid) ≡ Some (Over (Sap sap))
  was_told waiting l p h =
      ap (λ us. heard_so (emptied l client_sap) client_sap (told_in waiting (Looks tid) us)) (rested_units s l (conn_from client_sap p.served) (rest_at l p h))
      ∙ ap (λ (e : EndState). Some (found_so tid (found_in tid e.lookups))) (rested_emptied s l (conn_from client_sap p.served) (rest_at l p h))
      ∙ ap (λ o. Some (found_so tid o)) h.found

  abbrev pub looks : OneExchange s (Looks tid) (Sap sap)
  looks = record {
    Before = Before;
    Between = Between;
    After = After;
    first = first_out;
    on = client_hop ReadyTo z.there names s z (AllRested s) (rested_splits s) (told_ ∷ []);
    back = first_back;
    back_on = peer_hop WasTold z.there names s z (AllRested s) (rested_splits s);
    before_readable = λ l p h. (h.sides.client_readable, h.sides.peer_readable);
    between_readable = λ l p h. (h.sides.client_readable, h.sides.peer_readable);
    before_kept = λ l p h. h.service_is;
    between_kept = λ l p h. h.service_is;
    after_kept = λ l p h. h.service_is;
    plain = λ l. refl;
    over = was_told;
    emptied_is = λ l p h. rested_emptied s l (conn_from client_sap p.served) (rest_at l p h);
  }

abbrev sap_of : Job → ℕ
sap_of (Over (Sap sap)) = sap
sap_of job = 0

abbrev sap_in : List OnSap → ℕ
sap_in [] = 0
sap_in (o ∷ os) = sap_of o.job

sap_is : (x y : ℕ) → alone (Over (Sap x)) ≡ alone (Over (Sap y)) → x ≡ y
sap_is x y e = ap sap_in e

module _ {C A : Type 0} (seen : C → CarrierView) (swaps : C → List ℕ → List FarStep → C → Type 0) (steps : A → List ℕ → List ℕ → A → Type 0) (stops : A → List ℕ → A → Type 0)
    (view : A → PeerState) (peer : IsPeer steps stops view) (name : List ℕ) (short : length name ≤ 64) (client : EndState) (link : C) (far : A)
    (a : Accords client (view far)) (numbers : List ℕ) where
  abbrev p : PeerState
  p = view far

  abbrev tid : ℕ
  tid = client.asked

  abbrev told_sap : ℕ
  told_sap = found p.bound name

  abbrev z_ : Sizes
  z_ = sizes_of client p

  abbrev looking : OneExchange p.service (Looks tid) (Sap told_sap)
  looking = looks tid name short p.bound p.service z_

  begins_at : Before tid name short p.bound p.service z_ (looked_up client name) p
  begins_at =
      let snl_ = request (Snl (SdReq tid name ∷ [])) in
      let k = put_lookup tid client.lookups in
      record {
        sides = subst (λ q. Sides p.service.limit p.service.table p.bound p.service.accepted z_ (AllRested p.service) q [] (looked_up client name) p)
            (ap (λ q. q ++ snl_ ∷ []) a.calm.client_queue)
            (client_queues p.service.limit p.service.table p.bound p.service.accepted z_ (AllRested p.service) [] [] client p (sides_at client p a) (client.queue ++ snl_ ∷ []) k ((tid + 1) % 256));
        service_is = refl;
        found = told_found tid told_sap client.lookups;
        stays = λ t. refl;
      }

  begins_so : (course p.service (Looks tid) (Sap told_sap) looking).At (begins client (Finds name)) p
  begins_so = (looked_up client name, 0, refl, begins_at)

  -- it was told
  pub lookup_found : (sap : ℕ) (new : EndState) (now : C) (after : A) → Talks seen swaps steps stops numbers (begins client (Finds name)) link far (Ends (alone (Over (Sap sap))) new) now after
      → IsFound name p sap new (view after)
  lookup_found sap new now after t =
      let y = came (Same p.service (Looks tid) (Sap told_sap) looking) (course p.service (Looks tid) (Sap told_sap) looking) seen swaps steps stops view peer
      numbers (begins client (Finds name)) (Ends (alone (Over (Sap sap))) new) link now far after begins_so t in
      let h = y.1 in record {
        told = sap_is sap told_sap y.0;
        all = h.stays;
        aside = record {
          service = h.service_is;
          bound = h.sides.reached.0;
          accords = accord_at p.bound p.service z_ new (view after) h.sides h.service_is;
        };
      }

  -- it failed
  pub lookup_fails : (e : SnepFault) (new : EndState) (now : C) (after : A) → FailsBy seen swaps steps stops numbers (begins client (Finds name)) link far e new now after → AsideFails p e (view after)
  lookup_fails e new now after h =
      fails_so p.service (Looks tid) (Sap told_sap) looking seen swaps steps stops view peer link far refl numbers (begins client (Finds name)) e new now after begins_so h
