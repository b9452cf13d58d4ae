-- What a client of a server put on a link and was told, and what the server accepted there from its SAP.
use Rattle.std.specs.Prelude.{◌≡◌, ◌⊎◌, ℕ, nat_lt, List, [], ◌∷◌, ◌++◌, length, if◌then◌else◌}
use Rattle.nfc_base.specs.Prefix.{IsPrefix}
use Rattle.snep_core.specs.Cuts.{PutInUnits, AreJobs, IsJob, units_of_puts}
use Rattle.snep_core.specs.Puts.{Puts}

-- how a put was answered: by success, by a reject, or not at all, since the link ended or memory was wanting
pub data Told : Type 0 where
  Success : Told
  Rejected : Told
  Unanswered : Told

-- a put: its message, and how it was told
pub record Put : Type 0 where
  pub message : List ℕ
  pub told : Told

-- the messages within the limit, and those of them that were told to be taken
abbrev pub fitting : ℕ → List Put → List (List ℕ)
fitting limit [] = []
fitting limit (p ∷ ps) = if nat_lt limit (length p.message) then fitting limit ps else p.message ∷ fitting limit ps

abbrev pub put_before : List ℕ → Told → List (List ℕ) → List (List ℕ)
put_before m Success ms = m ∷ ms
put_before m Rejected ms = ms
put_before m Unanswered ms = ms

abbrev pub told_taken : ℕ → List Put → List (List ℕ)
told_taken limit [] = []
told_taken limit (p ∷ ps) =
    if nat_lt limit (length p.message) then told_taken limit ps else put_before p.message p.told (told_taken limit ps)

-- The last put wasn't answered, and its message is the one more that was accepted.
pub record OneMore (limit : ℕ) (puts : List Put) (accepted : List (List ℕ)) : Type 0 where
  pub before : List Put
  pub message : List ℕ
  pub last : puts ≡ before ++ record { message = message; told = Unanswered } ∷ []
  pub more : accepted ≡ told_taken limit puts ++ message ∷ []

-- What is accepted is the first of the messages that were put and are within the limit, and covers all that were told
-- to be taken, by at most one more.
pub record LinkAccepts (limit : ℕ) (puts : List Put) (accepted : List (List ℕ)) : Type 0 where
  pub fits : IsPrefix accepted (fitting limit puts)
  pub covers : IsPrefix (told_taken limit puts) accepted
  pub exact : (accepted ≡ told_taken limit puts) ⊎ OneMore limit puts accepted

-- a put with the units that the client submitted for it, and how it was told
pub record Answered : Type 0 where
  pub job : PutInUnits
  pub told : Told

abbrev pub put_of : Answered → Put
put_of a = record { message = a.job.message; told = a.told }

abbrev pub puts_of : List Answered → List Put
puts_of [] = []
puts_of (a ∷ more) = put_of a ∷ puts_of more

abbrev pub jobs_of : List Answered → List PutInUnits
jobs_of [] = []
jobs_of (a ∷ more) = a.job ∷ jobs_of more

-- success where the message is within the limit, a reject where it isn't
abbrev pub IsToldRight : ℕ → Answered → Type 0
IsToldRight limit a = a.told ≡ (if nat_lt limit (length a.job.message) then Rejected else Success)

abbrev pub AreToldRight : ℕ → List Answered → Type 0
AreToldRight limit [] = Unit {0}
AreToldRight limit (a ∷ more) = IsToldRight limit a × AreToldRight limit more

-- it was answered so once all its units came, or it wasn't answered
abbrev pub IsToldSo : ℕ → Answered → List (List ℕ) → Type 0
IsToldSo limit a more = ((more ≡ []) × IsToldRight limit a) ⊎ (a.told ≡ Unanswered)

-- A client puts one message after the other, the next once the one before was told as it is. Whichever first units of
-- the last one came: what the units put that came is what a server may accept on such a link.
abbrev pub ClientLinkLaw : Type 0
ClientLinkLaw =
    (limit : ℕ) (done : List Answered) (last : Answered) (part more accepted : List (List ℕ))
    → AreJobs limit (jobs_of done)
    → IsJob limit last.job → AreToldRight limit done → last.job.units ≡ part ++ more → IsToldSo limit last more
    → Puts limit (units_of_puts (jobs_of done) ++ part) accepted
    → LinkAccepts limit (puts_of done ++ put_of last ∷ []) accepted
