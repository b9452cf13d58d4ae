-- A request that the server answers without information: where the two stand once all of it came.
use Rattle.std.proofs.Common.{◌≡◌, ◌<◌, ◌≤◌, ℕ, List, [], ◌∷◌, ◌++◌, length, Option, Some, refl, sym, inr, arith}
use Rattle.llcp_pdu.specs.General.{IsMiu}
use Rattle.snep_core.specs.declared.message.Answer.{Answer}
use Rattle.snep_core.specs.Accord.{IsPaired, Numbers}
use Rattle.snep_core.specs.Jobs.{Ending, Job, Over, Sends, job_told}
use Rattle.snep_core.specs.Message.{message}
use Rattle.snep_core.specs.Server.{Received, ServerState, received}
use Rattle.snep_core.specs.Session.{Gathering, Offer, Session, fresh_session, obeys, sent}
use Rattle.snep_core.specs.Talk.{EndState, finished}
use Rattle.snep_core.proofs.requests.Conversations.{Conversation, Converses, Hears, MayTell, Readies, StandsAt, Tells, hears_nothing, no_unit, stays}
use Rattle.snep_core.proofs.requests.RequestAnswers.{behind_stays, quiet, says}
use Rattle.snep_core.proofs.requests.RequestPhases.{Asked, IsLast, Outcome, answering}

-- the answer waits at the server; it was heard; it was taken up
data Later : Type 0 where
  Answering : Later
  AnswerHeard : Later
  Answered : Later

-- a server answers so, and this is accepted then; its client hears it as an end
module _ (limit : ℕ) (ask : Asked) (answer : Answer) (end : Ending) (now : List Received) where
  abbrev job_at : Later → Job
  job_at Answering = Sends ask.most []
  job_at AnswerHeard = Sends ask.most []
  job_at Answered = Over end

  abbrev units_at : Later → List (List ℕ)
  units_at AnswerHeard = message answer [] ∷ []
  units_at _ = []

  abbrev session_at : Later → Session
  session_at Answering = answering answer
  session_at _ = fresh_session

  abbrev later : Conversation
  later = record {
    Phase = Later;
    job_at = job_at;
    queue_at = λ ph. [];
    units_at = units_at;
    session_at = session_at;
    accepted_at = λ ph. now;
    Holds = λ ph. ask.size ≤ limit;
  }

  ends_so : (ph : Later) (e : Ending) → Over e ≡ job_at ph → IsLast later end ph e
  ends_so Answering e q = absurd cc
  ends_so AnswerHeard e q = absurd cc
  ends_so Answered e q = record { end_is = cc; queue_is = refl; units_is = refl; session_is = refl }

  module _ (sap : ℕ) (six : length (message answer []) ≡ 6) (ended : job_told (Sends ask.most []) (message answer [] ∷ []) ≡ Some (Over end)) where
    module _ (miu size : ℕ) (table : List Offer) where
      answers : IsMiu size → ask.size ≤ limit → (s : ServerState) → StandsAt sap limit table later Answering s → Tells sap limit table later size Answering s
      answers fits k s h = says sap size limit table later fits Answering AnswerHeard answer six refl refl refl refl k refl refl refl s h

      later_tells : IsMiu size → (ph : Later) → ask.size ≤ limit → (s : ServerState) → StandsAt sap limit table later ph s → MayTell sap limit table later size ph s
      later_tells fits Answering k s h = inr (answers fits k s h)
      later_tells fits AnswerHeard k s h = quiet sap size limit table later AnswerHeard s h (sent size fresh_session) refl refl
      later_tells fits Answered k s h = quiet sap size limit table later Answered s h (sent size fresh_session) refl refl

      later_hears : (ph : Later) → ask.size ≤ limit → Hears sap limit table later ph
      later_hears Answering k = hears_nothing sap limit table later Answering k refl
      later_hears Answered k = hears_nothing sap limit table later Answered k refl
      later_hears AnswerHeard k = record { to = Answered; holds = k; told = ended; apart = λ w. absurd cc; queue_is = refl; units_is = refl; session_is = refl; accepted_is = refl }

      later_plain : (ph : Later) (l : EndState) → finished l sap (job_at ph) ≡ job_at ph
      later_plain Answering l = refl
      later_plain AnswerHeard l = refl
      later_plain Answered l = refl

      later_readies : IsMiu size → (ph : Later) → ask.size ≤ limit → 0 < miu → (n : Numbers) → n.server_miu ≡ miu → IsPaired n 0 → Readies sap limit table later size n ph
      later_readies fits Answering k low n is r =
          stays sap limit table later Answering k size n r (behind_stays sap n ask.most miu is [] [] [] low) (λ u o q s h. answers fits k s h)
      later_readies fits AnswerHeard k low n is r =
          stays sap limit table later AnswerHeard k size n r (behind_stays sap n ask.most miu is [] (message answer [] ∷ []) [] low) (λ u o q s h. absurd (no_unit _ _ (sym u)))
      later_readies fits Answered k low n is r = stays sap limit table later Answered k size n r refl (λ u o q s h. absurd cc)

      later_converses : IsMiu miu → IsMiu size → Converses sap limit table later miu size
      later_converses range fits = record {
        within = λ ph k. tt;
        comes = λ ph u queue e k s h. absurd (no_unit u queue e);
        tells = later_tells fits;
        hears = later_hears;
        done = λ ph k o. refl;
        plain = later_plain;
        readies = λ ph k n is r. later_readies fits ph k (let z = range.0 in omega arith) n is r;
      }

    -- so it comes to this end
    pub answered : (table : List Offer) (old : List Received) (accepts : Option (List ℕ))
        → ((g : Option Gathering) → obeys table (record fresh_session { gathered = g }) ask.request ask.info ≡ record { session = answering answer; accepts = accepts })
        → now ≡ old ++ received sap accepts → Outcome sap limit table ask old end now
    answered table old accepts does same = record {
      later = λ size. later;
      whole = λ miu size. record {
        at = Answering;
        holds = λ few. few;
        job_is = refl;
        queue_is = refl;
        units_is = refl;
        accepts = accepts;
        does = does;
        accepted_is = same;
      };
      converses = λ miu size range fits. later_converses miu size table range fits;
      within = λ size ph k. k;
      adds = λ size ph. refl;
      ends = λ size ph e q. ends_so ph e q;
    }
