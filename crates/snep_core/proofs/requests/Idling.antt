-- A connection on which nothing goes on: it is a conversation of one phase.
use Rattle.std.proofs.Common.{ℕ, false, List, [], None, refl, ap, inl}
use Rattle.snep_core.specs.Jobs.{Done, Over}
use Rattle.snep_core.specs.Server.{Received}
use Rattle.snep_core.specs.Session.{Offer, fresh_session, sent}
use Rattle.snep_core.proofs.requests.Conversations.{Conversation, Converses, hears_nothing, no_unit, stays}
use Rattle.snep_core.proofs.connections.Places.{Plan}

pub data Idle : Type 0 where
  Idles : Idle

abbrev pub idle_conv : List Received → Conversation
idle_conv old = record {
  Phase = Idle;
  job_at = λ ph. Over Done;
  queue_at = λ ph. [];
  units_at = λ ph. [];
  session_at = λ ph. fresh_session;
  accepted_at = λ ph. old;
  Holds = λ ph. Unit {0};
}

-- no job of a call
abbrev pub no_job : List Received → Plan
no_job old = record { is_job = false; conv = λ miu size. idle_conv old; most = None; bytes = [] }

pub idle_converses : (sap limit : ℕ) (table : List Offer) (old : List Received) (miu size : ℕ) → Converses sap limit table (idle_conv old) miu size
idle_converses sap limit table old miu size = record {
  within = λ ph h. tt;
  comes = λ ph u queue e h s v. absurd (no_unit u queue e);
  tells = λ ph h s v. inl (ap (λ q. (sent size q).unit) v.session);
  hears = λ ph h. hears_nothing sap limit table (idle_conv old) ph h refl;
  done = λ ph h o. refl;
  plain = λ ph l. refl;
  readies = λ ph h n e paired. stays sap limit table (idle_conv old) ph h size n paired refl (λ u o. absurd cc);
}
