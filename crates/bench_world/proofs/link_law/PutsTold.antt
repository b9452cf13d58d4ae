-- Puts more on a link: what a peer accepts stays the first of what fits, and covers all that was told to be taken, by one more at most.
use Rattle.std.proofs.Common.{◌≡◌, ◌⊎◌, inl, inr, ℕ, ◌<◌, ◌≤◌, ◌==◌, ◌||◌, nat_lt, Bool, true, false, List, [], ◌∷◌, ◌++◌, length, if◌then◌else◌, refl, sym, ◌∙◌, ap, subst}
use Rattle.std.proofs.lemmas.Bool.{eqb-true, le-ltb, lt-ltb}
use Rattle.std.proofs.lemmas.List.{append-nil}
use Rattle.snep_core.specs.Links.{LinkAccepts, Put, Rejected, Success, Told, Unanswered, fitting, put_before, told_taken}
use Rattle.snep_core.specs.Payloads.{accepted_from}
use Rattle.snep_core.specs.Server.{Received as Accepted}
use Rattle.snep_core.specs.Talk.{sap_of_slot}
use Rattle.link_calls.specs.AtOnce.{AreApart, is_from}
use Rattle.link_calls.specs.declared.request.SlotMessage.{SlotMessage}
use Rattle.link_calls.proofs.AtOnce.{two_false}
use Rattle.bench_world.specs.Calls.{EachAdds, MessageAdds}
use Rattle.bench_world.specs.LinkLaw.{puts_from}
use Rattle.bench_world.specs.Stories.{LinkPut, puts_told}

-- Each put was told as it is: what was told to be taken is what fits, and that was accepted.
pub record InStep (limit : ℕ) (puts : List Put) (accepted : List (List ℕ)) : Type 0 where
  pub told : told_taken limit puts ≡ fitting limit puts
  pub taken : accepted ≡ fitting limit puts

-- this is one of them; and each was told of
abbrev pub IsAmong : Told → List Told → Type 0
IsAmong t [] = ⊥
IsAmong t (u ∷ us) = (u ≡ t) ⊎ IsAmong t us

abbrev pub AreTold : List Told → Type 0
AreTold [] = Unit {0}
AreTold (t ∷ ts) = (t ≡ Unanswered → ⊥) × AreTold ts

pub among_told : (t : Told) (ts : List Told) → AreTold ts → IsAmong t ts → t ≡ Unanswered → ⊥
among_told t [] told among e = among
among_told t (u ∷ us) told (inl same) e = told.0 (same ∙ e)
among_told t (u ∷ us) told (inr rest) e = among_told t us told.1 rest e

pub none_put : (limit : ℕ) → InStep limit [] []
none_put limit = record { told = refl; taken = refl }

pub in_step_accepts : (limit : ℕ) (puts : List Put) (accepted : List (List ℕ)) → InStep limit puts accepted → LinkAccepts limit puts accepted
in_step_accepts limit puts accepted s = record {
  fits = ([], sym s.taken ∙ sym (append-nil accepted));
  covers = ([], s.taken ∙ sym s.told ∙ sym (append-nil (told_taken limit puts)));
  exact = inl (s.taken ∙ sym s.told);
}

module _ (limit : ℕ) where
  fitting_more : (ps qs : List Put) → fitting limit (ps ++ qs) ≡ fitting limit ps ++ fitting limit qs
  fitting_more [] qs = refl
  fitting_more (p ∷ ps) qs = by (nat_lt limit (length p.message)) (fitting_more ps qs)
    where
      by : (v : Bool) → fitting limit (ps ++ qs) ≡ fitting limit ps ++ fitting limit qs
          → (if v then fitting limit (ps ++ qs) else p.message ∷ fitting limit (ps ++ qs)) ≡ (if v then fitting limit ps else p.message ∷ fitting limit ps) ++ fitting limit qs
      by true e = e
      by false e = ap (λ ms. p.message ∷ ms) e

  before_more : (m : List ℕ) (t : Told) (xs ys : List (List ℕ)) → put_before m t (xs ++ ys) ≡ put_before m t xs ++ ys
  before_more m Success xs ys = refl
  before_more m Rejected xs ys = refl
  before_more m Unanswered xs ys = refl

  told_more : (ps qs : List Put) → told_taken limit (ps ++ qs) ≡ told_taken limit ps ++ told_taken limit qs
  told_more [] qs = refl
  told_more (p ∷ ps) qs = by (nat_lt limit (length p.message)) (told_more ps qs)
    where
      by : (v : Bool) → told_taken limit (ps ++ qs) ≡ told_taken limit ps ++ told_taken limit qs
          → (if v then told_taken limit (ps ++ qs) else put_before p.message p.told (told_taken limit (ps ++ qs)))
          ≡ (if v then told_taken limit ps else put_before p.message p.told (told_taken limit ps)) ++ told_taken limit qs
      by true e = e
      by false e = ap (put_before p.message p.told) e ∙ before_more p.message p.told (told_taken limit ps) (told_taken limit qs)

  module _ (ps : List Put) (accepted : List (List ℕ)) (s : InStep limit ps accepted) (m : List ℕ) where
    abbrev put_so : Told → Put
    put_so t = record { message = m; told = t }

    one_fits : length m ≤ limit → (t : Told) → fitting limit (put_so t ∷ []) ≡ m ∷ []
    one_fits within t = ap (λ v. if v then [] else m ∷ []) (le-ltb limit (length m) within)

    -- it was taken, or refused
    pub taken_more : length m ≤ limit → InStep limit (ps ++ put_so Success ∷ []) (accepted ++ m ∷ [])
    taken_more within =
        let one : told_taken limit (put_so Success ∷ []) ≡ m ∷ [] = ap (λ v. if v then [] else m ∷ []) (le-ltb limit (length m) within) in
        let fits : fitting limit (ps ++ put_so Success ∷ []) ≡ fitting limit ps ++ m ∷ [] =
        fitting_more ps (put_so Success ∷ []) ∙ ap (λ x. fitting limit ps ++ x) (one_fits within Success) in record {
          told = told_more ps (put_so Success ∷ []) ∙ ap (λ x. told_taken limit ps ++ x) one ∙ ap (λ x. x ++ m ∷ []) s.told ∙ sym fits;
          taken = ap (λ x. x ++ m ∷ []) s.taken ∙ sym fits;
        }

    pub refused_more : limit < length m → InStep limit (ps ++ put_so Rejected ∷ []) (accepted ++ [])
    refused_more beyond =
        let long : nat_lt limit (length m) ≡ true = lt-ltb limit (length m) beyond in
        let one : told_taken limit (put_so Rejected ∷ []) ≡ [] = ap (λ v. if v then [] else []) long in
        let none : fitting limit (put_so Rejected ∷ []) ≡ [] = ap (λ v. if v then [] else m ∷ []) long in
        let fits : fitting limit (ps ++ put_so Rejected ∷ []) ≡ fitting limit ps =
        fitting_more ps (put_so Rejected ∷ []) ∙ ap (λ x. fitting limit ps ++ x) none ∙ append-nil (fitting limit ps) in record {
          told = told_more ps (put_so Rejected ∷ []) ∙ ap (λ x. told_taken limit ps ++ x) one ∙ append-nil (told_taken limit ps) ∙ s.told ∙ sym fits;
          taken = append-nil accepted ∙ s.taken ∙ sym fits;
        }

    -- it wasn't answered
    abbrev all : List Put
    all = ps ++ put_so Unanswered ∷ []

    same_told : told_taken limit all ≡ told_taken limit ps
    same_told = told_more ps (put_so Unanswered ∷ []) ∙ ap (λ x. told_taken limit ps ++ x) (none (nat_lt limit (length m))) ∙ append-nil (told_taken limit ps)
      where
        nothing : List (List ℕ)
        nothing = []

        none : (v : Bool) → (if v then nothing else nothing) ≡ nothing
        none true = refl
        none false = refl

    covered : accepted ≡ told_taken limit all
    covered = s.taken ∙ sym s.told ∙ sym same_told

    pub none_more : LinkAccepts limit all (accepted ++ [])
    none_more =
        let same : accepted ++ [] ≡ accepted = append-nil accepted in record {
          fits = (fitting limit (put_so Unanswered ∷ []), fitting_more ps (put_so Unanswered ∷ []) ∙ ap (λ x. x ++ fitting limit (put_so Unanswered ∷ [])) (sym s.taken ∙ sym same));
          covers = ([], ap (λ x. x ++ []) covered);
          exact = inl (same ∙ covered);
        }

    pub one_more : length m ≤ limit → LinkAccepts limit all (accepted ++ m ∷ [])
    one_more within = record {
      fits = (
        [],
        fitting_more ps (put_so Unanswered ∷ []) ∙ ap (λ x. fitting limit ps ++ x) (one_fits within Unanswered) ∙ ap (λ x. x ++ m ∷ []) (sym s.taken)
            ∙ sym (append-nil (accepted ++ m ∷ [])),
      );
      covers = (m ∷ [], ap (λ x. x ++ m ∷ []) covered);
      exact = inr (record { before = ps; message = m; last = refl; more = ap (λ x. x ++ m ∷ []) covered });
    }

-- Of each client's SAP the same, where one of them put it.
pub puts_more : (client : ℕ) (ps qs : List LinkPut) → puts_from client (ps ++ qs) ≡ puts_from client ps ++ puts_from client qs
puts_more client [] qs = refl
puts_more client (p ∷ ps) qs = by (p.source == client) (puts_more client ps qs)
  where
    by : (v : Bool) → puts_from client (ps ++ qs) ≡ puts_from client ps ++ puts_from client qs
        → (if v then p.put ∷ puts_from client (ps ++ qs) else puts_from client (ps ++ qs)) ≡ (if v then p.put ∷ puts_from client ps else puts_from client ps) ++ puts_from client qs
    by true e = ap (λ xs. p.put ∷ xs) e
    by false e = e

pub accepted_more : (client : ℕ) (xs ys : List Accepted) → accepted_from client (xs ++ ys) ≡ accepted_from client xs ++ accepted_from client ys
accepted_more client [] ys = refl
accepted_more client (x ∷ xs) ys = by (x.source == client) (accepted_more client xs ys)
  where
    by : (v : Bool) → accepted_from client (xs ++ ys) ≡ accepted_from client xs ++ accepted_from client ys
        → (if v then x.message ∷ accepted_from client (xs ++ ys) else accepted_from client (xs ++ ys))
        ≡ (if v then x.message ∷ accepted_from client xs else accepted_from client xs) ++ accepted_from client ys
    by true e = ap (λ ms. x.message ∷ ms) e
    by false e = e

-- a relation of what was put and accepted, where messages were put too, and the peer accepted these
module _ (Holds Then : List Put → List (List ℕ) → Type 0) (puts : List LinkPut) (gained : List Accepted) (each : (client : ℕ) → Holds (puts_from client puts) (accepted_from client gained))
    (qs : List LinkPut) (more : List Accepted) where
  pub with_all : ((client : ℕ) (ps : List Put) (xs : List (List ℕ)) → Holds ps xs → Then (ps ++ puts_from client qs) (xs ++ accepted_from client more))
      → (client : ℕ) → Then (puts_from client (puts ++ qs)) (accepted_from client (gained ++ more))
  with_all next client =
      subst (λ ps. Then ps (accepted_from client (gained ++ more))) (sym (puts_more client puts qs))
      (subst (Then (puts_from client puts ++ puts_from client qs)) (sym (accepted_more client gained more))
      (next client (puts_from client puts) (accepted_from client gained) (each client)))

-- one put more, told so, of which this was accepted
module _ (limit : ℕ) (ps : List Put) (accepted : List (List ℕ)) (s : InStep limit ps accepted) (m : List ℕ) where
  pub one_in_step : (t : Told) (xs : List (List ℕ)) → MessageAdds m limit t xs → (t ≡ Unanswered → ⊥) → InStep limit (ps ++ record { message = m; told = t } ∷ []) (accepted ++ xs)
  one_in_step Success xs h some = subst (λ ys. InStep limit (ps ++ record { message = m; told = Success } ∷ []) (accepted ++ ys)) (sym h.1) (taken_more limit ps accepted s m h.0)
  one_in_step Rejected xs h some = subst (λ ys. InStep limit (ps ++ record { message = m; told = Rejected } ∷ []) (accepted ++ ys)) (sym h.1) (refused_more limit ps accepted s m h.0)
  one_in_step Unanswered xs h some = absurd (some refl)

  pub one_accepts : (t : Told) (xs : List (List ℕ)) → MessageAdds m limit t xs → LinkAccepts limit (ps ++ record { message = m; told = t } ∷ []) (accepted ++ xs)
  one_accepts Success xs h = in_step_accepts limit (ps ++ record { message = m; told = Success } ∷ []) (accepted ++ xs) (one_in_step Success xs h (λ e. cc))
  one_accepts Rejected xs h = in_step_accepts limit (ps ++ record { message = m; told = Rejected } ∷ []) (accepted ++ xs) (one_in_step Rejected xs h (λ e. cc))
  one_accepts Unanswered xs (inl none) = subst (λ ys. LinkAccepts limit (ps ++ record { message = m; told = Unanswered } ∷ []) (accepted ++ ys)) (sym none) (none_more limit ps accepted s m)
  one_accepts Unanswered xs (inr one) = subst (λ ys. LinkAccepts limit (ps ++ record { message = m; told = Unanswered } ∷ []) (accepted ++ ys)) (sym one.1) (one_more limit ps accepted s m one.0)

-- Of messages that were put at once a client's SAP put one, told so, or none.
none_put_from : (client : ℕ) (ws : List SlotMessage) (ts : List Told) → is_from client ws ≡ false → puts_from client (puts_told ws ts) ≡ []
none_put_from client [] ts none = refl
none_put_from client (w ∷ ws) [] none = refl
none_put_from client (w ∷ ws) (t ∷ ts) none =
    let both = two_false (sap_of_slot w.slot == client) (is_from client ws) none in
    ap (λ v. if v then record { message = w.message; told = t } ∷ puts_from client (puts_told ws ts) else puts_from client (puts_told ws ts)) both.0 ∙ none_put_from client ws ts both.1

pub record OneFrom (client : ℕ) (limit : ℕ) (ws : List SlotMessage) (ts : List Told) (xs : List (List ℕ)) : Type 0 where
  pub message : List ℕ
  pub told : Told
  pub put : puts_from client (puts_told ws ts) ≡ record { message = message; told = told } ∷ []
  pub adds : MessageAdds message limit told xs
  pub among : IsAmong told ts

one_put_from : (client limit : ℕ) (ws : List SlotMessage) (ts : List Told) (more : List Accepted) → AreApart ws → EachAdds ws limit ts more → is_from client ws ≡ true
    → OneFrom client limit ws ts (accepted_from client more)
one_put_from client limit [] ts more apart adds from = absurd cc
one_put_from client limit (w ∷ ws) [] more apart adds from = absurd adds
one_put_from client limit (w ∷ ws) (t ∷ ts) more apart adds from = by (sap_of_slot w.slot == client) refl from (one_put_from client limit ws ts more apart.3 adds.1)
  where
    by : (v : Bool) → (sap_of_slot w.slot == client) ≡ v → (v || is_from client ws) ≡ true → (is_from client ws ≡ true → OneFrom client limit ws ts (accepted_from client more))
        → OneFrom client limit (w ∷ ws) (t ∷ ts) (accepted_from client more)
    by true e f more_so =
        let same : sap_of_slot w.slot ≡ client = eqb-true (sap_of_slot w.slot) client e in
        record {
          message = w.message;
          told = t;
          put = ap (λ v. if v then record { message = w.message; told = t } ∷ puts_from client (puts_told ws ts) else puts_from client (puts_told ws ts)) e
              ∙ ap (λ ps. record { message = w.message; told = t } ∷ ps) (none_put_from client ws ts (subst (λ c. is_from c ws ≡ false) same apart.2));
          adds = subst (λ c. MessageAdds w.message limit t (accepted_from c more)) same adds.0;
          among = inl refl;
        }
    by false e f more_so =
        let rest = more_so f in
        record {
          message = rest.message;
          told = rest.told;
          put = ap (λ v. if v then record { message = w.message; told = t } ∷ puts_from client (puts_told ws ts) else puts_from client (puts_told ws ts)) e ∙ rest.put;
          adds = rest.adds;
          among = inr rest.among;
        }

-- what all of them add, by what a client's SAP adds
module _ (ws : List SlotMessage) (apart : AreApart ws) (limit : ℕ) (ts : List Told) (more : List Accepted) (adds : EachAdds ws limit ts more)
    (others : (s : ℕ) → is_from s ws ≡ false → accepted_from s more ≡ []) where
  by_client : (P : List Put → List (List ℕ) → Type 0) (client : ℕ) → P [] [] → ((m : List ℕ) (t : Told) (xs : List (List ℕ)) → MessageAdds m limit t xs → IsAmong t ts
      → P (record { message = m; told = t } ∷ []) xs)
      → P (puts_from client (puts_told ws ts)) (accepted_from client more)
  by_client P client none one = by (is_from client ws) refl
    where
      by : (v : Bool) → is_from client ws ≡ v → P (puts_from client (puts_told ws ts)) (accepted_from client more)
      by true e =
          let z = one_put_from client limit ws ts more apart adds e in
          subst (λ ps. P ps (accepted_from client more)) (sym z.put) (one z.message z.told (accepted_from client more) z.adds z.among)
      by false e = subst (λ ps. P ps (accepted_from client more)) (sym (none_put_from client ws ts e)) (subst (P []) (sym (others client e)) none)

  pub all_in_step : AreTold ts → (client : ℕ) (ps : List Put) (xs : List (List ℕ)) → InStep limit ps xs → InStep limit (ps ++ puts_from client (puts_told ws ts)) (xs ++ accepted_from client more)
  all_in_step told client ps xs s =
      by_client (λ qs ys. InStep limit (ps ++ qs) (xs ++ ys)) client
      (subst (λ qs. InStep limit qs (xs ++ [])) (sym (append-nil ps)) (subst (InStep limit ps) (sym (append-nil xs)) s))
      (λ m t ys h among. one_in_step limit ps xs s m t ys h (among_told t ts told among))

  pub all_accept : (client : ℕ) (ps : List Put) (xs : List (List ℕ)) → InStep limit ps xs → LinkAccepts limit (ps ++ puts_from client (puts_told ws ts)) (xs ++ accepted_from client more)
  all_accept client ps xs s =
      by_client (λ qs ys. LinkAccepts limit (ps ++ qs) (xs ++ ys)) client
      (subst (λ qs. LinkAccepts limit qs (xs ++ [])) (sym (append-nil ps)) (subst (LinkAccepts limit ps) (sym (append-nil xs)) (in_step_accepts limit ps xs s)))
      (λ m t ys h among. one_accepts limit ps xs s m t ys h)
