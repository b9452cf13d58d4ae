-- What was accepted in all, by what was accepted from each SAP.
use Rattle.std.proofs.Common.{◌≡◌, ℕ, ◌==◌, Bool, true, false, List, [], ◌∷◌, ◌++◌, map, drop, Option, Some, None, refl, sym, ◌∙◌, ap, append-nil, if◌then◌else◌}
use Rattle.std.proofs.lemmas.Bool.{eqb-true}
use Rattle.llcp_link.proofs.Clients.{is_self}
use Rattle.snep_core.specs.Accord.{from_sap}
use Rattle.snep_core.specs.Payloads.{accepted_from}
use Rattle.snep_core.specs.Server.{Received, received}

pub accepted_more : (c : ℕ) (xs ys : List Received) → accepted_from c (xs ++ ys) ≡ accepted_from c xs ++ accepted_from c ys
accepted_more c [] ys = refl
accepted_more c (x ∷ xs) ys = go (x.source == c) (accepted_more c xs ys)
  where
    go : (b : Bool) → accepted_from c (xs ++ ys) ≡ accepted_from c xs ++ accepted_from c ys
        → (if b then x.message ∷ accepted_from c (xs ++ ys) else accepted_from c (xs ++ ys))
        ≡ (if b then x.message ∷ accepted_from c xs else accepted_from c xs) ++ accepted_from c ys
    go true e = ap (λ w. x.message ∷ w) e
    go false e = e

cancel : (xs ys zs : List (List ℕ)) → xs ++ ys ≡ xs ++ zs → ys ≡ zs
cancel [] ys zs e = e
cancel (x ∷ xs) ys zs e = cancel xs ys zs (ap (drop 1) e)

module _ (sap : ℕ) where
  -- nothing is from another SAP
  abbrev OnlyFrom : List Received → Type 0
  OnlyFrom rs = (t : ℕ) → (sap == t) ≡ false → accepted_from t rs ≡ []

  later_only : (r : Received) (rs : List Received) → OnlyFrom (r ∷ rs) → OnlyFrom rs
  later_only r rs h t n = go (r.source == t) (h t n)
    where
      go : (b : Bool) → (if b then r.message ∷ accepted_from t rs else accepted_from t rs) ≡ [] → accepted_from t rs ≡ []
      go true e = absurd cc
      go false e = e

  first_from : (r : Received) (rs : List Received) → OnlyFrom (r ∷ rs) → (sap == r.source) ≡ true
  first_from r rs h = go (sap == r.source) refl
    where
      go : (b : Bool) → (sap == r.source) ≡ b → b ≡ true
      go true e = refl
      go false e = absurd (let n = sym (ap (λ b. if b then r.message ∷ accepted_from r.source rs else accepted_from r.source rs) (is_self r.source)) ∙ h r.source e in cc)

  all_from : (rs : List Received) → OnlyFrom rs → rs ≡ map (from_sap sap) (accepted_from sap rs)
  all_from [] h = refl
  all_from (r ∷ rs) h =
      let e : sap ≡ r.source = eqb-true sap r.source (first_from r rs h) in
      ap (λ s. record { source = s; message = r.message } ∷ rs) (sym e)
      ∙ ap (λ xs. from_sap sap r.message ∷ xs) (all_from rs (later_only r rs h))
      ∙ sym (ap (λ b. map (from_sap sap) (if b then r.message ∷ accepted_from sap rs else accepted_from sap rs)) (ap (λ s. r.source == s) e ∙ is_self r.source))

  of_received : (m : Option (List ℕ)) → received sap m ≡ map (from_sap sap) (accepted_from sap (received sap m))
  of_received None = refl
  of_received (Some m) = sym (ap (λ b. map (from_sap sap) (if b then m ∷ [] else [])) (is_self sap))

  module _ (old now more : List Received) (m : Option (List ℕ)) (grew : now ≡ old ++ more) (others : (t : ℕ) → (sap == t) ≡ false → accepted_from t now ≡ accepted_from t old) where
    only : OnlyFrom more
    only t n =
        cancel (accepted_from t old) (accepted_from t more) []
        (sym (accepted_more t old more) ∙ sym (ap (accepted_from t) grew) ∙ others t n ∙ sym (append-nil (accepted_from t old)))

    -- what was accepted from one SAP, and nothing from the others
    pub whole_of : accepted_from sap now ≡ accepted_from sap (old ++ received sap m) → now ≡ old ++ received sap m
    whole_of e =
        let here : accepted_from sap more ≡ accepted_from sap (received sap m) =
        cancel (accepted_from sap old) (accepted_from sap more) (accepted_from sap (received sap m))
        (sym (accepted_more sap old more) ∙ sym (ap (accepted_from sap) grew) ∙ e ∙ accepted_more sap old (received sap m)) in
        grew ∙ ap (λ xs. old ++ xs) (all_from more only ∙ ap (map (from_sap sap)) here ∙ sym (of_received m))
