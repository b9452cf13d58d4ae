-- The sessions of all SAPs, of which a front is there, and what was accepted.
use Rattle.std.proofs.Common.{◌≡◌, ◌<◌, ◌≤◌, ℕ, zero, suc, ◌+◌, ◌-◌, List, [], ◌∷◌, ◌++◌, length, replicate, set, get_or, refl, sym, ◌∙◌, ap, append_assoc, arith}
use Rattle.std.proofs.lemmas.List.{length-append, length-set, set-append_left, set-append_right, get_or_append_left}
use Rattle.snep_core.specs.Session.{Session, fresh_session}
use Rattle.snep_core.specs.Server.{padded, from_sources, messages_of, sources_of}
use Rattle.llcp_pdu.specs.Wire.{sap_count}

-- one more that is as at first
pub padded_more : (xs : List Session) → length xs < sap_count → padded (xs ++ fresh_session ∷ []) ≡ padded xs
padded_more xs few =
    let long : length (xs ++ fresh_session ∷ []) ≡ length xs + 1 = length-append xs (fresh_session ∷ []) in
    let left : sap_count - length (xs ++ fresh_session ∷ []) ≡ sap_count - suc (length xs) = omega (arith, long) in
    let one : suc (sap_count - suc (length xs)) ≡ sap_count - length xs = omega (arith, few) in
    ap (λ n. (xs ++ fresh_session ∷ []) ++ replicate n fresh_session) left
    ∙ append_assoc xs (fresh_session ∷ []) (replicate (sap_count - suc (length xs)) fresh_session)
    ∙ ap (λ n. xs ++ replicate n fresh_session) one

-- one that is there
pub padded_set : (xs : List Session) (i : ℕ) (x : Session) → i < length xs → padded (set xs i x) ≡ set (padded xs) i x
padded_set xs i x there =
    ap (λ n. set xs i x ++ replicate (sap_count - n) fresh_session) (length-set xs i x)
    ∙ sym (set-append_left xs (replicate (sap_count - length xs) fresh_session) i x there)

pub padded_get : (xs : List Session) (i : ℕ) → i < length xs → get_or (padded xs) i fresh_session ≡ get_or xs i fresh_session
padded_get xs i there = get_or_append_left xs (replicate (sap_count - length xs) fresh_session) fresh_session i there

set_replicate : {X : Type 0} (n i : ℕ) (x : X) → set (replicate n x) i x ≡ replicate n x
set_replicate zero i x = refl
set_replicate (suc n) zero x = refl
set_replicate (suc n) (suc i) x = ap (λ t. x ∷ t) (set_replicate n i x)

pub padded_still : (xs : List Session) (i : ℕ) → length xs ≤ i → set (padded xs) i fresh_session ≡ padded xs
padded_still xs i past =
    set-append_right xs (replicate (sap_count - length xs) fresh_session) (length xs) i fresh_session refl past
    ∙ ap (λ t. xs ++ t) (set_replicate (sap_count - length xs) (i - length xs) fresh_session)

-- messages and their sources
pub told_messages : (sources : List ℕ) (messages : List (List ℕ)) → length sources ≡ length messages → messages_of (from_sources sources messages) ≡ messages
told_messages [] [] same = refl
told_messages [] (m ∷ messages) same = absurd (omega (arith, same))
told_messages (s ∷ sources) [] same = absurd (omega (arith, same))
told_messages (s ∷ sources) (m ∷ messages) same = ap (λ t. m ∷ t) (told_messages sources messages (omega (arith, same)))

pub told_sources : (sources : List ℕ) (messages : List (List ℕ)) → length sources ≡ length messages → sources_of (from_sources sources messages) ≡ sources
told_sources [] [] same = refl
told_sources [] (m ∷ messages) same = absurd (omega (arith, same))
told_sources (s ∷ sources) [] same = absurd (omega (arith, same))
told_sources (s ∷ sources) (m ∷ messages) same = ap (λ t. s ∷ t) (told_sources sources messages (omega (arith, same)))

pub one_more : (sources : List ℕ) (messages : List (List ℕ)) (source : ℕ) (message : List ℕ) → length sources ≡ length messages
    → from_sources (sources ++ source ∷ []) (messages ++ message ∷ []) ≡ from_sources sources messages ++ record { source = source; message = message } ∷ []
one_more [] [] source message same = refl
one_more [] (m ∷ messages) source message same = absurd (omega (arith, same))
one_more (s ∷ sources) [] source message same = absurd (omega (arith, same))
one_more (s ∷ sources) (m ∷ messages) source message same =
    ap (λ t. record { source = s; message = m } ∷ t) (one_more sources messages source message (omega (arith, same)))
