-- What a client put and was told, by what the units put that came.
use Rattle.std.proofs.Common.{◌≡◌, ℕ, nat_lt, Bool, true, false, List, [], ◌∷◌, ◌++◌, length, refl, sym, ap, ◌∙◌, inl, inr, append-nil, if◌then◌else◌}
use Rattle.snep_core.specs.Cuts.{fit, units_of_puts}
use Rattle.snep_core.specs.Links.{Answered, AreToldRight, IsToldRight, IsToldSo, LinkAccepts, ClientLinkLaw, Put, Rejected, Success, Told, Unanswered, fitting, jobs_of, put_before, put_of, puts_of}
use Rattle.snep_core.specs.Links.{told_taken}
use Rattle.snep_core.proofs.sessions.Cuts.{last_puts, puts_one}

module _ (limit : ℕ) where
  -- one put more
  more_by : (b : Bool) (m : List ℕ) (xs ys zs : List (List ℕ)) → zs ≡ xs ++ ys → (if b then zs else m ∷ zs) ≡ (if b then xs else m ∷ xs) ++ ys
  more_by true m xs ys zs e = e
  more_by false m xs ys zs e = ap (λ z. m ∷ z) e

  fitting_more : (done : List Answered) (a : Answered) → fitting limit (puts_of done ++ put_of a ∷ []) ≡ fit limit (jobs_of done) ++ fit limit (a.job ∷ [])
  fitting_more [] a = refl
  fitting_more (d ∷ done) a =
      more_by (nat_lt limit (length d.job.message)) d.job.message (fit limit (jobs_of done)) (fit limit (a.job ∷ []))
      (fitting limit (puts_of done ++ put_of a ∷ [])) (fitting_more done a)

  told_by : (b : Bool) (t : Told) (m : List ℕ) (xs ys zs : List (List ℕ)) → t ≡ (if b then Rejected else Success) → zs ≡ xs ++ ys
      → (if b then zs else put_before m t zs) ≡ (if b then xs else m ∷ xs) ++ ys
  told_by true t m xs ys zs e i = i
  told_by false t m xs ys zs e i = ap (λ x. put_before m x zs) e ∙ ap (λ z. m ∷ z) i

  told_more : (done : List Answered) (a : Answered) → AreToldRight limit done
      → told_taken limit (puts_of done ++ put_of a ∷ []) ≡ fit limit (jobs_of done) ++ told_taken limit (put_of a ∷ [])
  told_more [] a h = refl
  told_more (d ∷ done) a (h, more) =
      told_by (nat_lt limit (length d.job.message)) d.told d.job.message (fit limit (jobs_of done)) (told_taken limit (put_of a ∷ []))
      (told_taken limit (puts_of done ++ put_of a ∷ [])) h (told_more done a more)

  right_by : (b : Bool) (t : Told) (m : List ℕ) → t ≡ (if b then Rejected else Success)
      → (if b then [] else put_before m t []) ≡ (if b then [] else m ∷ [])
  right_by true t m e = refl
  right_by false t m e = ap (λ x. put_before m x []) e

  none_by : (b : Bool) (t : Told) (m : List ℕ) → t ≡ Unanswered → (if b then [] else put_before m t []) ≡ []
  none_by true t m e = refl
  none_by false t m e = ap (λ x. put_before m x []) e

  module _ (done : List Answered) (a : Answered) (h : AreToldRight limit done) where
    abbrev all : List Put
    all = puts_of done ++ put_of a ∷ []

    abbrev fits : List (List ℕ)
    fits = fit limit (jobs_of done)

    unanswered : a.told ≡ Unanswered → told_taken limit all ≡ fits
    unanswered e = told_more done a h ∙ ap (λ x. fits ++ x) (none_by (nat_lt limit (length a.job.message)) a.told a.job.message e) ∙ append-nil fits

    -- none of it was put
    nothing_more : (accepted : List (List ℕ)) → a.told ≡ Unanswered → accepted ≡ fits → LinkAccepts limit all accepted
    nothing_more accepted e i = record {
      fits = (fit limit (a.job ∷ []), fitting_more done a ∙ ap (λ x. x ++ fit limit (a.job ∷ [])) (sym i));
      covers = ([], i ∙ sym (unanswered e) ∙ sym (append-nil (told_taken limit all)));
      exact = inl (i ∙ sym (unanswered e));
    }

    -- it was told as it is
    told_right : (accepted : List (List ℕ)) → IsToldRight limit a → accepted ≡ fits ++ fit limit (a.job ∷ []) → LinkAccepts limit all accepted
    told_right accepted e i =
        let t : told_taken limit all ≡ fits ++ fit limit (a.job ∷ []) =
        told_more done a h ∙ ap (λ x. fits ++ x) (right_by (nat_lt limit (length a.job.message)) a.told a.job.message e) in record {
          fits = ([], fitting_more done a ∙ sym i ∙ sym (append-nil accepted));
          covers = ([], i ∙ sym t ∙ sym (append-nil (told_taken limit all)));
          exact = inl (i ∙ sym t);
        }

    last_is : a.told ≡ Unanswered → all ≡ puts_of done ++ record { message = a.job.message; told = Unanswered } ∷ []
    last_is e = ap (λ t. puts_of done ++ record { message = a.job.message; told = t } ∷ []) e

    -- it came whole, and wasn't answered
    whole : (accepted : List (List ℕ)) (b : Bool) → nat_lt limit (length a.job.message) ≡ b → a.told ≡ Unanswered
        → accepted ≡ fits ++ (if b then [] else a.job.message ∷ []) → LinkAccepts limit all accepted
    whole accepted true s e i = nothing_more accepted e (i ∙ append-nil fits)
    whole accepted false s e i =
        let f : fit limit (a.job ∷ []) ≡ a.job.message ∷ [] = ap (λ b. if b then [] else a.job.message ∷ []) s in record {
          fits = ([], fitting_more done a ∙ ap (λ x. fits ++ x) f ∙ sym i ∙ sym (append-nil accepted));
          covers = (a.job.message ∷ [], i ∙ ap (λ x. x ++ a.job.message ∷ []) (sym (unanswered e)));
          exact = inr (record {
            before = puts_of done;
            message = a.job.message;
            last = last_is e;
            more = i ∙ ap (λ x. x ++ a.job.message ∷ []) (sym (unanswered e));
          });
        }

pub link_law : ClientLinkLaw
link_law limit done last part [] accepted jobs job right units told p = go told
  where
    accepts : accepted ≡ fit limit (jobs_of done) ++ fit limit (last.job ∷ [])
    accepts = puts_one limit (units_of_puts (jobs_of done) ++ part) accepted _ p (last_puts limit (jobs_of done) last.job part [] jobs job units)

    go : IsToldSo limit last [] → LinkAccepts limit (puts_of done ++ put_of last ∷ []) accepted
    go (inl (e, t)) = told_right limit done last right accepted t accepts
    go (inr t) = whole limit done last right accepted (nat_lt limit (length last.job.message)) refl t accepts
link_law limit done last part (v ∷ more) accepted jobs job right units told p = go told
  where
    accepts : accepted ≡ fit limit (jobs_of done)
    accepts = puts_one limit (units_of_puts (jobs_of done) ++ part) accepted _ p (last_puts limit (jobs_of done) last.job part (v ∷ more) jobs job units)

    go : IsToldSo limit last (v ∷ more) → LinkAccepts limit (puts_of done ++ put_of last ∷ []) accepted
    go (inl (e, t)) = cc
    go (inr t) = nothing_more limit done last right accepted t accepts
