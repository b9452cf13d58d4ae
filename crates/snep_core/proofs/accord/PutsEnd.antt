-- What puts from several SAPs come to at a peer that their client accords with, from each SAP.
use Rattle.std.proofs.Common.{◌≡◌, ◌<◌, ◌≤◌, ◌⊎◌, ℕ, ◌^◌, Bool, true, false, List, [], ◌∷◌, ◌++◌, length, Option, sym, ◌∙◌, ap, subst, inl, inr, if◌then◌else◌}
use Rattle.llcp_pdu.specs.General.{IsMiu}
use Rattle.llcp_link.proofs.Clients.{is_self}
use Rattle.llcp_link.specs.State.{conn_from, own_from}
use Rattle.snep_core.specs.declared.job.Refusal.TheVariants as refusals
use Rattle.snep_core.specs.Accord.{AddsFrom, EndedFrom, IsClientSap, PeerState, from_sap}
use Rattle.snep_core.specs.Jobs.{Begins, Done, Ending, Job, Over, Refused}
use Rattle.snep_core.specs.Payloads.{accepted_from}
use Rattle.snep_core.specs.Server.{Received}
use Rattle.snep_core.specs.Session.{Offer, fresh_session}
use Rattle.snep_core.specs.Talk.{EndState}
use Rattle.snep_core.proofs.requests.Conversations.{Conversation, Converses, Starts}
use Rattle.snep_core.proofs.connections.Meets.{Meets, is_in}
use Rattle.snep_core.proofs.connections.Places.{Plan, StandsBy, Talking}
use Rattle.snep_core.proofs.requests.PutPhases.{ask, is_read, put_outcome}
use Rattle.snep_core.proofs.accord.RequestEnds.{at_phase, fate_at, laws, over_at, starts}
use Rattle.snep_core.proofs.requests.RequestPhases.{IsRead, Outcome, bytes_of, conversation}
use Rattle.snep_core.proofs.accord.Requests.{plan, plan_by}
use Rattle.snep_core.proofs.sessions.Shares.{accepted_more}
use Rattle.snep_core.proofs.connections.Sides.{Sizes}

-- one message more from a SAP
pub and_one : (sap : ℕ) (m : List ℕ) (old : List Received) → accepted_from sap (old ++ from_sap sap m ∷ []) ≡ accepted_from sap old ++ m ∷ []
and_one sap m old = accepted_more sap old (from_sap sap m ∷ []) ∙ ap (λ b. accepted_from sap old ++ (if b then m ∷ [] else [])) (is_self sap)

module _ (p : PeerState) (z : Sizes) (ours : List ℕ) (ranges : (s : ℕ) → is_in s ours ≡ true → IsClientSap s) (message : ℕ → List ℕ)
    (short : (s : ℕ) → is_in s ours ≡ true → length (message s) < 2 ^ 32) where
  abbrev limit : ℕ
  limit = p.service.limit

  abbrev table : List Offer
  table = p.service.table

  abbrev old : List Received
  old = p.service.accepted

  abbrev outcome : (s : ℕ) → Outcome s limit table (ask (message s)) old Done (old ++ from_sap s (message s) ∷ [])
  outcome s = put_outcome s limit table (message s) old

  read : (s : ℕ) → is_in s ours ≡ true → IsRead limit (ask (message s))
  read s i = is_read limit (message s) (short s i)

  abbrev pub conv_ : ℕ → ℕ → ℕ → Conversation
  conv_ s miu size = conversation miu limit table (ask (message s)) old ((outcome s).later size)

  abbrev pub most_ : ℕ → Option ℕ
  most_ s = (ask (message s)).most

  abbrev pub bytes_ : ℕ → List ℕ
  bytes_ s = bytes_of (ask (message s))

  pub laws_ : (s : ℕ) → is_in s ours ≡ true → (miu size : ℕ) → IsMiu miu → IsMiu size → Converses s limit table (conv_ s miu size) miu size
  laws_ s i = laws s (ranges s i) (ask (message s)) p (read s i) (outcome s) z

  pub starts_ : (s : ℕ) → is_in s ours ≡ true → (miu size : ℕ) → Starts s limit table (conv_ s miu size) (Begins (most_ s) (bytes_ s)) old
  starts_ s i = starts s (ranges s i) (ask (message s)) p (read s i) (outcome s) z

  abbrev pub plan_ : ℕ → Plan
  plan_ s = plan limit table p.bound old z ours conv_ most_ bytes_ laws_ s

  module _ (job : ℕ → Job) (l : EndState) (q : PeerState) (h : Meets limit table p.bound old z plan_ job l q) (s : ℕ) (i : is_in s ours ≡ true) where
    abbrev StoodBy : Bool → Bool → Bool → Type 0
    StoodBy b a w = StandsBy limit table old z s (plan_by limit table p.bound old z ours conv_ most_ bytes_ laws_ s b) (job s) a w (own_from s l.own) (conn_from s q.served) q.service

    here : StoodBy true (is_in s h.asked) (is_in s h.awaited)
    here = subst (λ b. StoodBy b (is_in s h.asked) (is_in s h.awaited)) i (h.sides.at s)

    adds_as : (now : List Received) → accepted_from s q.service.accepted ≡ accepted_from s now
        → ((now ≡ old) ⊎ ((now ≡ old ++ from_sap s (message s) ∷ []) × (length (message s) ≤ limit))) → AddsFrom s (message s) p q.service.accepted
    adds_as now g (inl e) = inl (g ∙ ap (accepted_from s) e)
    adds_as now g (inr (e, w)) = inr (g ∙ ap (accepted_from s) e ∙ and_one s (message s) old, w)

    -- step by step
    pub adds_from : AddsFrom s (message s) p q.service.accepted
    adds_from = go (is_in s h.asked) (is_in s h.awaited) here
      where
        go : (a w : Bool) → StoodBy true a w → AddsFrom s (message s) p q.service.accepted
        go true w y = inl y.got
        go false true y = inl y.serves.got
        go false false (inl y) = absurd (let n = y.none in cc)
        go false false (inr t) =
            adds_as ((conv_ s t.n.server_miu t.n.client_miu).accepted_at t.phase) t.serves.got
            (at_phase s (ranges s i) (ask (message s)) p (read s i) (outcome s) z t.n.server_miu t.n.client_miu t.phase t.holds)

    ends_as : (e : Ending) (now : List Received) → accepted_from s q.service.accepted ≡ accepted_from s now
        → ((e ≡ Done) × (length (message s) ≤ limit) × (now ≡ old ++ from_sap s (message s) ∷ []))
        ⊎ ((e ≡ Refused refusals.Reject) × (limit < length (message s)) × (now ≡ old)) → EndedFrom s (message s) p e q.service.accepted
    ends_as e now g (inl (k, w, a)) = inl (k, (w, g ∙ ap (accepted_from s) a ∙ and_one s (message s) old))
    ends_as e now g (inr (k, w, a)) = inr (k, (w, g ∙ ap (accepted_from s) a))

    -- at its end
    pub ended_from : (e : Ending) → job s ≡ Over e → EndedFrom s (message s) p e q.service.accepted
    ended_from e is = go (is_in s h.asked) (is_in s h.awaited) here
      where
        go : (a w : Bool) → StoodBy true a w → EndedFrom s (message s) p e q.service.accepted
        go true w y = absurd (let k = sym is ∙ y.job_is in cc)
        go false true y = absurd (let k = sym is ∙ y.job_is in cc)
        go false false (inl y) = absurd (let n = y.none in cc)
        go false false (inr t) =
            ends_as e ((conv_ s t.n.server_miu t.n.client_miu).accepted_at t.phase) t.serves.got
            (fate_at s (ranges s i) (ask (message s)) p (read s i) (outcome s) z t.n.server_miu t.n.client_miu e t.phase (sym is ∙ t.job_is) t.holds)

    -- and nothing of it is left
    abbrev DoneBy : Bool → Type 0
    DoneBy b =
        (t : Talking limit table old z s (plan_by limit table p.bound old z ours conv_ most_ bytes_ laws_ s b) (job s) (own_from s l.own) (conn_from s q.served) q.service)
        → (((plan_by limit table p.bound old z ours conv_ most_ bytes_ laws_ s b).conv t.n.server_miu t.n.client_miu).queue_at t.phase ≡ [])
        × (((plan_by limit table p.bound old z ours conv_ most_ bytes_ laws_ s b).conv t.n.server_miu t.n.client_miu).units_at t.phase ≡ [])
        × (((plan_by limit table p.bound old z ours conv_ most_ bytes_ laws_ s b).conv t.n.server_miu t.n.client_miu).session_at t.phase ≡ fresh_session)

    done_here : (e : Ending) → job s ≡ Over e → DoneBy true
    done_here e is t = over_at s (ranges s i) (ask (message s)) p (read s i) (outcome s) z t.n.server_miu t.n.client_miu e t.phase (sym is ∙ t.job_is) t.holds

    pub done_from : (e : Ending) → job s ≡ Over e → DoneBy (is_in s ours)
    done_from e is = subst DoneBy (sym i) (done_here e is)
