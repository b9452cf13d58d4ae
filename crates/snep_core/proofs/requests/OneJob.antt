-- A call of one job: its conversation at its SAP, and nothing at all others.
use Rattle.std.proofs.Common.{◌≡◌, ℕ, ◌==◌, ◌||◌, Bool, true, false, List, [], ◌∷◌, Option, refl, sym, ◌∙◌, ap, subst}
use Rattle.std.proofs.lemmas.Bool.{eqb-true}
use Rattle.llcp_pdu.specs.General.{IsMiu}
use Rattle.llcp_link.proofs.Clients.{is_self}
use Rattle.llcp_link.specs.State.{Bound}
use Rattle.snep_core.specs.Accord.{IsClientSap, PeerState}
use Rattle.snep_core.specs.Jobs.{Done, Job, Over}
use Rattle.snep_core.specs.Server.{Received}
use Rattle.snep_core.specs.Session.{Offer, fresh_session}
use Rattle.snep_core.specs.Talk.{EndState, is_over}
use Rattle.snep_core.proofs.requests.Conversations.{Conversation, Converses}
use Rattle.snep_core.proofs.requests.Idling.{idle_converses, no_job}
use Rattle.snep_core.proofs.connections.Meets.{AreUnlike, Keeps, Meets, is_in}
use Rattle.snep_core.proofs.connections.Places.{Plan}
use Rattle.snep_core.proofs.connections.Sides.{Sizes}
use Rattle.snep_core.proofs.jobs.Turns.{Rests}

module _ (limit : ℕ) (table : List Offer) (names : List Bound) (old : List Received) (z : Sizes) (sap : ℕ) (conv : ℕ → ℕ → Conversation) (most : Option ℕ) (bytes : List ℕ)
    (range : IsClientSap sap) (laws : (miu size : ℕ) → IsMiu miu → IsMiu size → Converses sap limit table (conv miu size) miu size) where
  abbrev pub plan_by : Bool → Plan
  plan_by true = record { is_job = true; conv = conv; most = most; bytes = bytes }
  plan_by false = no_job old

  abbrev pub plan : ℕ → Plan
  plan s = plan_by (sap == s)

  abbrev pub job_by : Job → Bool → Job
  job_by job true = job
  job_by job false = Over Done

  abbrev pub jobs : Job → ℕ → Job
  jobs job s = job_by job (sap == s)

  pub job_here : (job : Job) → jobs job sap ≡ job
  job_here job = ap (job_by job) (is_self sap)

  pub keeps : Keeps limit table names old z plan
  keeps s miu size r f = go (sap == s) refl
    where
      go : (b : Bool) → (sap == s) ≡ b → Converses s limit table ((plan_by b).conv miu size) miu size
      go true e = subst (λ t. Converses t limit table (conv miu size) miu size) (eqb-true sap s e) (laws miu size r f)
      go false e = idle_converses s limit table old miu size

  rests_by : (miu size : ℕ) (b : Bool) → (plan_by b).is_job ≡ false → (ph : ((plan_by b).conv miu size).Phase) → ((plan_by b).conv miu size).Holds ph
      → (((plan_by b).conv miu size).queue_at ph ≡ []) × (((plan_by b).conv miu size).session_at ph ≡ fresh_session)
  rests_by miu size true m ph h = absurd cc
  rests_by miu size false m ph h = (refl, refl)

  pub rests : (s miu size : ℕ) → (plan s).is_job ≡ false → (ph : ((plan s).conv miu size).Phase) → ((plan s).conv miu size).Holds ph
      → (((plan s).conv miu size).queue_at ph ≡ []) × (((plan s).conv miu size).session_at ph ≡ fresh_session)
  rests s miu size m = rests_by miu size (sap == s) m

  idles_by : (miu size : ℕ) (b : Bool) → (plan_by b).is_job ≡ false → (ph : ((plan_by b).conv miu size).Phase)
      → (((plan_by b).conv miu size).units_at ph ≡ []) × (((plan_by b).conv miu size).accepted_at ph ≡ old) × (is_over (((plan_by b).conv miu size).job_at ph) ≡ true)
  idles_by miu size true m ph = absurd cc
  idles_by miu size false m ph = (refl, refl, refl)

  pub idles : (s miu size : ℕ) → (plan s).is_job ≡ false → (ph : ((plan s).conv miu size).Phase)
      → (((plan s).conv miu size).units_at ph ≡ []) × (((plan s).conv miu size).accepted_at ph ≡ old) × (is_over (((plan s).conv miu size).job_at ph) ≡ true)
  idles s miu size m = idles_by miu size (sap == s) m

  -- its SAP is the only one of the call
  abbrev pub ours : List ℕ
  ours = sap ∷ []

  pub is_ours : is_in sap ours ≡ true
  is_ours = ap (λ b. b || false) (is_self sap)

  pub is_it : (s : ℕ) → is_in s ours ≡ true → sap ≡ s
  is_it s i = go (sap == s) refl i
    where
      go : (b : Bool) → (sap == s) ≡ b → (b || false) ≡ true → sap ≡ s
      go true e k = eqb-true sap s e
      go false e k = absurd cc

  pub unlike : AreUnlike ours
  unlike = (refl, tt)

  pub ranges : (s : ℕ) → is_in s ours ≡ true → IsClientSap s
  ranges s i = subst IsClientSap (is_it s i) range

  pub mine : (s : ℕ) → (plan s).is_job ≡ is_in s ours
  mine s = go (sap == s)
    where
      go : (b : Bool) → (plan_by b).is_job ≡ (b || false)
      go true = refl
      go false = refl

  pub only_mine : (s : ℕ) → (plan s).is_job ≡ true → s ≡ sap
  only_mine s m = sym (is_it s (sym (mine s) ∙ m))

  -- both ends, between two turns, and step by step
  abbrev pub OneMeets : (ℕ → Job) → EndState → PeerState → Type 0
  OneMeets job l p = Meets limit table names old z plan job l p

  abbrev pub OneRests : (ℕ → Job) → EndState → PeerState → Type 0
  OneRests job l p = Rests limit table names old z plan keeps rests ours unlike ranges mine job l p
