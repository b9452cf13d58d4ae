-- What units make of a job: it serves the same aim, and less is still to come.
use Rattle.std.proofs.Common.{◌≡◌, ◌<◌, ◌≤◌, ℕ, ◌-◌, ◌==◌, nat_lt, Bool, true, false, List, [], ◌∷◌, ◌++◌, length, Option, Some, None, option_map, refl, sym, ap, subst, ◌∙◌, arith, length-append}
use Rattle.std.proofs.lemmas.Bool.{ltb-false}
use Rattle.std.proofs.lemmas.Bool.Decides.{nat_tests}
use Rattle.llcp_link.proofs.Ranged.{either}
use Rattle.snep_core.specs.declared.hearing.Head.{Head}
use Rattle.snep_core.specs.declared.job.Refusal.{Refusal}
use Rattle.snep_core.specs.declared.message.Answer.TheVariants as answers
use Rattle.snep_core.specs.Message.{answer_code}
use Rattle.snep_core.specs.First.{info_of}
use Rattle.snep_core.specs.Jobs.{Job, Begins, Waits, Sends, Asks, Collects, Looks, Closes, Over, Done, Value, Sap, Refused, ended_by, has_byte, head_of, is_bare, refusal_by_code, sent_told}
use Rattle.snep_core.specs.Jobs.{success_told, told, job_told, told_in, told_on, value_told, waiting_told}
use Rattle.snep_core.specs.Talk.{EndState, emptied, finished, found_so, heard, heard_so, is_lost, is_waiting, units_of}
use Rattle.llcp_link.specs.Asking.{found_in, standing_of}
use Rattle.llcp_link.specs.State.{own_from}
use Rattle.snep_core.specs.RepliesLeft.{answer_left, job_left}
use Rattle.snep_core.specs.private.Waning.{Aim, Finding, Getting, IsOf, LessensTo, Putting, Serves, aim_by, aim_of}

-- A unit that ends what is awaited leaves less.
pub record Follows (aim : Aim) (old new : Job) : Type 0 where
  pub serves : Serves aim old → Serves aim new
  pub left : job_left new < job_left old

abbrev FollowsIf : Aim → Job → Option Job → Type 0
FollowsIf aim old o = (new : Job) → o ≡ Some new → Follows aim old new

follows_one : (aim : Aim) (old now : Job) → Follows aim old now → FollowsIf aim old (Some now)
follows_one aim old now f new e = let same : now ≡ new = cc in subst (Follows aim old) same f

follows_none : (aim : Aim) (old : Job) → FollowsIf aim old None
follows_none aim old new e = absurd cc

refused_is_of : (aim : Aim) (most : Option ℕ) (r : Refusal) → aim ≡ aim_by most → IsOf aim (Refused r)
refused_is_of aim None r e = subst (λ a. IsOf a (Refused r)) (sym e) tt
refused_is_of aim (Some n) r e = subst (λ a. IsOf a (Refused r)) (sym e) tt

done_is_of : (aim : Aim) → aim ≡ Putting → IsOf aim Done
done_is_of aim e = subst (λ a. IsOf a Done) (sym e) tt

value_is_of : (aim : Aim) (v : List ℕ) → aim ≡ Getting → IsOf aim (Value v)
value_is_of aim v e = subst (λ a. IsOf a (Value v)) (sym e) tt

some_left : (most : Option ℕ) → 0 < answer_left most
some_left None = omega arith
some_left (Some n) = omega arith

refused_follows : (aim : Aim) (old : Job) (most : Option ℕ) → (Serves aim old → aim ≡ aim_by most) → 0 < job_left old → (r : Option Refusal)
    → FollowsIf aim old (option_map ended_by r)
refused_follows aim old most s l None = follows_none aim old
refused_follows aim old most s l (Some r) = follows_one aim old (Over (Refused r)) (record { serves = λ x. refused_is_of aim most r (s x); left = l })

waiting_follows : (aim : Aim) (most : Option ℕ) (rest unit : List ℕ) (h : Option Head) → FollowsIf aim (Waits most rest) (waiting_told most rest unit h)
waiting_follows aim most rest unit None = follows_none aim (Waits most rest)
waiting_follows aim most rest unit (Some h) =
    either {X = Option Job} (FollowsIf aim (Waits most rest)) (is_bare h unit) _ None
    (λ b. either {X = Option Job} (FollowsIf aim (Waits most rest)) (h.code == answer_code answers.Continue) (Some (Sends most rest)) _
    (λ c. follows_one aim (Waits most rest) (Sends most rest) (record { serves = λ x. x; left = omega arith }))
    (λ c. refused_follows aim (Waits most rest) most (λ x. x) (let z = some_left most in omega arith) (refusal_by_code most h.code)))
    (λ b. follows_none aim (Waits most rest))

success_follows : (aim : Aim) (most : Option ℕ) (h : Head) (unit : List ℕ) → FollowsIf aim (Sends most []) (success_told most h unit)
success_follows aim None h unit =
    either {X = Option Job} (FollowsIf aim (Sends None [])) (is_bare h unit) (Some (Over Done)) None
    (λ b. follows_one aim (Sends None []) (Over Done) (record { serves = λ x. done_is_of aim x; left = omega arith })) (λ b. follows_none aim (Sends None []))
success_follows aim (Some most) h unit =
    either {X = Option Job} (FollowsIf aim (Sends (Some most) [])) (nat_lt most h.said) None _ (λ b. follows_none aim (Sends (Some most) []))
    (λ b. either {X = Option Job} (FollowsIf aim (Sends (Some most) [])) (nat_lt h.said (length (info_of unit))) None _
    (λ c. follows_none aim (Sends (Some most) []))
    (λ c. either {X = Option Job} (FollowsIf aim (Sends (Some most) [])) (length (info_of unit) == h.said) (Some (Over (Value (info_of unit)))) (Some (Asks h.said (info_of unit)))
    (λ d. follows_one aim (Sends (Some most) []) (Over (Value (info_of unit))) (record { serves = λ x. value_is_of aim (info_of unit) x; left = omega arith }))
    (λ d. follows_one aim (Sends (Some most) []) (Asks h.said (info_of unit))
    (record { serves = λ x. x; left = (let z = ltb-false most h.said b in omega arith) }))))

sent_follows : (aim : Aim) (most : Option ℕ) (unit : List ℕ) (h : Option Head) → FollowsIf aim (Sends most []) (sent_told most unit h)
sent_follows aim most unit None = follows_none aim (Sends most [])
sent_follows aim most unit (Some h) =
    either {X = Option Job} (FollowsIf aim (Sends most [])) (h.code == answer_code answers.Success) (success_told most h unit) _
    (λ b. success_follows aim most h unit)
    (λ b. either {X = Option Job} (FollowsIf aim (Sends most [])) (is_bare h unit) _ None
    (λ c. refused_follows aim (Sends most []) most (λ x. x) (let z = some_left most in omega arith) (refusal_by_code most h.code))
    (λ c. follows_none aim (Sends most [])))

-- What a unit makes of a job: the same aim, and less to come where it has a byte.
pub record Lets (aim : Aim) (some : Bool) (old new : Job) : Type 0 where
  pub serves : Serves aim old → Serves aim new
  pub left : LessensTo some (job_left old) (job_left new)

lets_by : (aim : Aim) (some : Bool) (old new : Job) → Follows aim old new → Lets aim some old new
lets_by aim true old new f = record { serves = f.serves; left = f.left }
lets_by aim false old new f = record { serves = f.serves; left = (let z = f.left in omega arith) }

same_length : (m n : ℕ) → (m == n) ≡ true → m ≡ n
same_length m n e = grind (arith, nat_tests)

module _ (aim : Aim) (size : ℕ) (have : List ℕ) where
  abbrev LetsIf : Bool → Option Job → Type 0
  LetsIf some o = (new : Job) → o ≡ Some new → Lets aim some (Collects size have) new

  lets_one : (some : Bool) (now : Job) → Lets aim some (Collects size have) now → LetsIf some (Some now)
  lets_one some now f new e = let same : now ≡ new = cc in subst (Lets aim some (Collects size have)) same f

  lets_none : (some : Bool) → LetsIf some None
  lets_none some new e = absurd cc

  collects_left : (u : List ℕ) → length (have ++ u) ≤ size → LessensTo (has_byte (u ∷ [])) (size - length have) (size - length (have ++ u))
  collects_left [] k = (let z = length-append have [] in omega arith)
  collects_left (b ∷ bs) k = (let z = length-append have (b ∷ bs) in omega arith)

  whole_left : (u : List ℕ) → length (have ++ u) ≡ size → LessensTo (has_byte (u ∷ [])) (size - length have) 0
  whole_left [] k = omega arith
  whole_left (b ∷ bs) k = (let z = length-append have (b ∷ bs) in omega arith)

  value_lets : (u : List ℕ) → LetsIf (has_byte (u ∷ [])) (value_told size (have ++ u) (Collects size (have ++ u)))
  value_lets u =
      either {X = Option Job} (LetsIf (has_byte (u ∷ []))) (nat_lt size (length (have ++ u))) None _ (λ b. lets_none (has_byte (u ∷ [])))
      (λ b. either {X = Option Job} (LetsIf (has_byte (u ∷ []))) (length (have ++ u) == size) (Some (Over (Value (have ++ u)))) (Some (Collects size (have ++ u)))
      (λ c. lets_one (has_byte (u ∷ [])) (Over (Value (have ++ u)))
      (record { serves = λ x. value_is_of aim (have ++ u) x; left = whole_left u (same_length (length (have ++ u)) size c) }))
      (λ c. lets_one (has_byte (u ∷ [])) (Collects size (have ++ u))
      (record { serves = λ x. x; left = collects_left u (ltb-false size (length (have ++ u)) b) })))

told_lets : (aim : Aim) (job : Job) (u : List ℕ) (new : Job) → told job u ≡ Some new → Lets aim (has_byte (u ∷ [])) job new
told_lets aim (Begins most bytes) u new e = absurd cc
told_lets aim (Waits most rest) u new e = lets_by aim (has_byte (u ∷ [])) (Waits most rest) new (waiting_follows aim most rest u (head_of u) new e)
told_lets aim (Sends most []) u new e = lets_by aim (has_byte (u ∷ [])) (Sends most []) new (sent_follows aim most u (head_of u) new e)
told_lets aim (Sends most (b ∷ bs)) u new e = absurd cc
told_lets aim (Asks size have) u new e = absurd cc
told_lets aim (Collects size have) u new e = value_lets aim size have u new e
told_lets aim (Looks tid) u new e = absurd cc
told_lets aim Closes u new e = absurd cc
told_lets aim (Over o) u new e = absurd cc

at_most : (some : Bool) (x y : ℕ) → LessensTo some x y → y ≤ x
at_most true x y h = omega arith
at_most false x y h = h

then_lets : (aim : Aim) (u : List ℕ) (us : List (List ℕ)) (a b c : Job) → Lets aim (has_byte (u ∷ [])) a b → Lets aim (has_byte us) b c
    → Lets aim (has_byte (u ∷ us)) a c
then_lets aim [] us a b c x y = record { serves = λ s. y.serves (x.serves s); left = go (has_byte us) y.left }
  where
    go : (some : Bool) → LessensTo some (job_left b) (job_left c) → LessensTo some (job_left a) (job_left c)
    go true h = (let z : job_left b ≤ job_left a = x.left in omega arith)
    go false h = (let z : job_left b ≤ job_left a = x.left in omega arith)
then_lets aim (v ∷ vs) us a b c x y = record {
  serves = λ s. y.serves (x.serves s);
  left = (let z : job_left b < job_left a = x.left in let w = at_most (has_byte us) (job_left b) (job_left c) y.left in omega arith);
}

lets_all : (aim : Aim) (us : List (List ℕ)) (job new : Job) → told_on (Some job) us ≡ Some new → Lets aim (has_byte us) job new
lets_all aim [] job new e =
    let same : job ≡ new = cc in record {
      serves = λ s. subst (Serves aim) same s;
      left = (let z = ap job_left same in omega arith);
    }
lets_all aim (u ∷ us) job new e = go (told job u) refl (λ mid k. lets_all aim us mid new k) e
  where
    go : (o : Option Job) → told job u ≡ o → ((mid : Job) → told_on (Some mid) us ≡ Some new → Lets aim (has_byte us) mid new)
        → told_on o us ≡ Some new → Lets aim (has_byte (u ∷ us)) job new
    go None i more k = absurd cc
    go (Some mid) i more k = then_lets aim u us job mid new (told_lets aim job u mid i) (more mid k)

found_serves : (aim : Aim) (tid : ℕ) (o : Option ℕ) → aim ≡ Finding → Serves aim (found_so tid o)
found_serves aim tid None e = e
found_serves aim tid (Some sap) e = subst (λ a. IsOf a (Sap sap)) (sym e) tt

found_left : (tid : ℕ) (o : Option ℕ) → job_left (found_so tid o) ≡ 0
found_left tid None = refl
found_left tid (Some sap) = refl

finished_serves : (aim : Aim) (l : EndState) (sap : ℕ) (job : Job) → Serves aim job → Serves aim (finished l sap job)
finished_serves aim l sap (Looks tid) s = found_serves aim tid (found_in tid l.lookups) s
finished_serves aim l sap Closes s =
    either {X = Job} (Serves aim) (is_waiting (standing_of (own_from sap l.own))) Closes (Over Done) (λ b. s)
    (λ b. subst (λ a. IsOf a Done) (sym s) tt)
finished_serves aim l sap (Begins most bytes) s = s
finished_serves aim l sap (Waits most rest) s = s
finished_serves aim l sap (Sends most rest) s = s
finished_serves aim l sap (Asks size have) s = s
finished_serves aim l sap (Collects size have) s = s
finished_serves aim l sap (Over o) s = s

finished_left : (l : EndState) (sap : ℕ) (job : Job) → job_left (finished l sap job) ≡ job_left job
finished_left l sap (Looks tid) = found_left tid (found_in tid l.lookups)
finished_left l sap Closes =
    either {X = Job} (λ j. job_left j ≡ 0) (is_waiting (standing_of (own_from sap l.own))) Closes (Over Done) (λ b. refl) (λ b. refl)
finished_left l sap (Begins most bytes) = refl
finished_left l sap (Waits most rest) = refl
finished_left l sap (Sends most rest) = refl
finished_left l sap (Asks size have) = refl
finished_left l sap (Collects size have) = refl
finished_left l sap (Over o) = refl

told_so : (waiting : Bool) (job mid : Job) (us : List (List ℕ)) → told_in waiting job us ≡ Some mid → job_told job us ≡ Some mid
told_so waiting job mid [] e = e
told_so true job mid (u ∷ us) e = absurd cc
told_so false job mid (u ∷ us) e = e

-- what was heard leaves a job with the same aim, and less to come where a unit had a byte
pub heard_lets : (aim : Aim) (waiting : Bool) (l : EndState) (sap : ℕ) (job new : Job) → heard waiting l sap job ≡ Some new
    → Lets aim (has_byte (units_of (own_from sap l.own))) job new
heard_lets aim waiting l sap job new e = go (told_in waiting job (units_of (own_from sap l.own))) refl e
  where
    some : Bool
    some = has_byte (units_of (own_from sap l.own))

    go : (o : Option Job) → told_in waiting job (units_of (own_from sap l.own)) ≡ o → heard_so (emptied l sap) sap o ≡ Some new → Lets aim some job new
    go None i k = absurd cc
    go (Some mid) i k =
        either {X = Option Job} (λ o. o ≡ Some new → Lets aim some job new) (is_lost (emptied l sap) sap mid) None (Some (finished (emptied l sap) sap mid))
        (λ b q. absurd cc)
        (λ b q. (let h = lets_all aim (units_of (own_from sap l.own)) job mid (told_so waiting job mid (units_of (own_from sap l.own)) i) in
        let same : finished (emptied l sap) sap mid ≡ new = cc in
        record {
          serves = λ s. subst (Serves aim) same (finished_serves aim (emptied l sap) sap mid (h.serves s));
          left = subst (λ n. LessensTo some (job_left job) n) (sym (finished_left (emptied l sap) sap mid) ∙ ap job_left same) h.left;
        })) k

-- a job serves its own aim
pub serves_own : (job : Job) → Serves (aim_of job) job
serves_own (Begins most bytes) = refl
serves_own (Waits most rest) = refl
serves_own (Sends most rest) = refl
serves_own (Asks size have) = refl
serves_own (Collects size have) = refl
serves_own (Looks tid) = refl
serves_own Closes = refl
serves_own (Over Done) = tt
serves_own (Over (Value v)) = tt
serves_own (Over (Sap sap)) = tt
serves_own (Over (Refused r)) = tt
