-- A call of any requests, each on the connection from a SAP of its own: their conversations at these SAPs, and nothing at all others.
use Rattle.std.proofs.Common.{◌≡◌, ℕ, Bool, true, false, List, [], Option, refl}
use Rattle.llcp_pdu.specs.General.{IsMiu}
use Rattle.llcp_link.specs.State.{Bound}
use Rattle.snep_core.specs.Jobs.{Begins, Done, Job, Over}
use Rattle.snep_core.specs.Server.{Received}
use Rattle.snep_core.specs.Session.{Offer, fresh_session}
use Rattle.snep_core.specs.Talk.{is_over}
use Rattle.snep_core.proofs.requests.Conversations.{Conversation, Converses}
use Rattle.snep_core.proofs.requests.Idling.{idle_converses, no_job}
use Rattle.snep_core.proofs.connections.Meets.{Keeps, is_in}
use Rattle.snep_core.proofs.connections.Places.{Plan}
use Rattle.snep_core.proofs.connections.Sides.{Sizes}

module _ (limit : ℕ) (table : List Offer) (names : List Bound) (old : List Received) (z : Sizes) (ours : List ℕ) (conv : ℕ → ℕ → ℕ → Conversation) (most : ℕ → Option ℕ)
    (bytes : ℕ → List ℕ) (laws : (s : ℕ) → is_in s ours ≡ true → (miu size : ℕ) → IsMiu miu → IsMiu size → Converses s limit table (conv s miu size) miu size) where
  abbrev pub plan_by : ℕ → Bool → Plan
  plan_by s true = record { is_job = true; conv = conv s; most = most s; bytes = bytes s }
  plan_by s false = no_job old

  abbrev pub plan : ℕ → Plan
  plan s = plan_by s (is_in s ours)

  -- what each begins with
  abbrev pub first_by : ℕ → Bool → Job
  first_by s true = Begins (most s) (bytes s)
  first_by s false = Over Done

  abbrev pub firsts : ℕ → Job
  firsts s = first_by s (is_in s ours)

  pub keeps : Keeps limit table names old z plan
  keeps s miu size r f = go (is_in s ours) refl
    where
      go : (b : Bool) → is_in s ours ≡ b → Converses s limit table ((plan_by s b).conv miu size) miu size
      go true e = laws s e miu size r f
      go false e = idle_converses s limit table old miu size

  rests_by : (s miu size : ℕ) (b : Bool) → (plan_by s b).is_job ≡ false → (ph : ((plan_by s b).conv miu size).Phase) → ((plan_by s b).conv miu size).Holds ph
      → (((plan_by s b).conv miu size).queue_at ph ≡ []) × (((plan_by s b).conv miu size).session_at ph ≡ fresh_session)
  rests_by s miu size true m ph h = absurd cc
  rests_by s miu size false m ph h = (refl, refl)

  pub rests : (s miu size : ℕ) → (plan s).is_job ≡ false → (ph : ((plan s).conv miu size).Phase) → ((plan s).conv miu size).Holds ph
      → (((plan s).conv miu size).queue_at ph ≡ []) × (((plan s).conv miu size).session_at ph ≡ fresh_session)
  rests s miu size m = rests_by s miu size (is_in s ours) m

  idles_by : (s miu size : ℕ) (b : Bool) → (plan_by s b).is_job ≡ false → (ph : ((plan_by s b).conv miu size).Phase)
      → (((plan_by s b).conv miu size).units_at ph ≡ []) × (((plan_by s b).conv miu size).accepted_at ph ≡ old) × (is_over (((plan_by s b).conv miu size).job_at ph) ≡ true)
  idles_by s miu size true m ph = absurd cc
  idles_by s miu size false m ph = (refl, refl, refl)

  pub idles : (s miu size : ℕ) → (plan s).is_job ≡ false → (ph : ((plan s).conv miu size).Phase)
      → (((plan s).conv miu size).units_at ph ≡ []) × (((plan s).conv miu size).accepted_at ph ≡ old) × (is_over (((plan s).conv miu size).job_at ph) ≡ true)
  idles s miu size m = idles_by s miu size (is_in s ours) m

  pub mine : (s : ℕ) → (plan s).is_job ≡ is_in s ours
  mine s = go (is_in s ours)
    where
      go : (b : Bool) → (plan_by s b).is_job ≡ b
      go true = refl
      go false = refl
