-- A put at a server that awaits a request: how it is read, and what comes of it.
use Rattle.std.proofs.Common.{◌≡◌, ◌<◌, ℕ, ◌^◌, ◌==◌, false, List, [], ◌∷◌, ◌++◌, length, Some, None, refl, arith}
use Rattle.std.proofs.lemmas.Bool.{eq-eqb, le-ltb, lt-ltb}
use Rattle.std.proofs.lemmas.Bool.Decides.{nat_tests}
use Rattle.snep_core.specs.declared.message.Answer.TheVariants as answers
use Rattle.snep_core.specs.declared.message.Request.TheVariants.{Put}
use Rattle.snep_core.specs.Jobs.{Done}
use Rattle.snep_core.specs.Message.{put_code}
use Rattle.snep_core.specs.Server.{Received}
use Rattle.snep_core.specs.Session.{Offer}
use Rattle.snep_core.proofs.requests.AnswerPhases.{answered}
use Rattle.snep_core.proofs.requests.RequestPhases.{Asked, IsRead, Outcome}

-- a put
abbrev pub ask : List ℕ → Asked
ask m = record { request = Put; code = put_code; most = None; info = m; size = length m }

pub is_read : (limit : ℕ) (m : List ℕ) → length m < 2 ^ 32 → IsRead limit (ask m)
is_read limit m short = record {
  short = short;
  over = λ long k h. rw (lt-ltb limit (length m) long) refl;
  whole = λ few. rw (le-ltb limit (length m) few, le-ltb (length m) (length m) (omega arith), eq-eqb (length m) (length m) refl) refl;
  partly = λ few k h.
      (let e : (length m == k) ≡ false = grind (arith, nat_tests) in
      rw (le-ltb limit (length m) few, le-ltb (length m) k (omega arith), e) refl);
}

-- its message is accepted, once, and its client is told so
pub put_outcome : (sap limit : ℕ) (table : List Offer) (m : List ℕ) (old : List Received) → Outcome sap limit table (ask m) old Done (old ++ record { source = sap; message = m } ∷ [])
put_outcome sap limit table m old = answered limit (ask m) answers.Success Done (old ++ record { source = sap; message = m } ∷ []) sap refl refl table old (Some m) (λ g. refl) refl
