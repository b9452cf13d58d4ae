-- What a peer's server accepted, by the ranges of its links, place for place.
use Rattle.std.proofs.Common.{◌≡◌, ℕ, zero, suc, ◌+◌, ◌<◌, List, [], ◌∷◌, ◌++◌, length, Bool, true, false, if◌then◌else◌, sym, ◌∙◌, ap, arith}
use Rattle.std.specs.Prelude.{drop, slice_index, slice_index_or}
use Rattle.std.proofs.lemmas.List.{append_assoc, drop-drop}
use Rattle.snep_core.specs.Server.{Received as Accepted, messages_of, sources_of}
use Rattle.bench_world.specs.declared.entry.Received.{Received}
use Rattle.bench_world.specs.Inbox.{chosen, received_on}

-- the message at a place, as it is told of a link, stands before those behind it
told_from : (link : ℕ) (ms : List Accepted) (i : ℕ) (m : List ℕ) (s : ℕ) → i < length ms → m ≡ slice_index_or (messages_of ms) i m → s ≡ slice_index (sources_of ms) i
    → received_on link (drop i ms) ≡ record { link = link; source = s; message = m } ∷ received_on link (drop (suc i) ms)
told_from link [] i m s within at from = absurd (omega (arith, within))
told_from link (x ∷ ms) zero m s within at from =
    let R : ℕ → List ℕ → Received = λ y k. record { link = link; source = y; message = k } in
    ap (λ r. r ∷ received_on link ms) (ap (λ y. R y x.message) (sym from) ∙ ap (R s) (sym at))
told_from link (x ∷ ms) (suc i) m s within at from = told_from link ms i m s (omega (arith, within)) at from

pub told_at : (link : ℕ) (ms : List Accepted) (i : ℕ) (m : List ℕ) (s : ℕ) → i < length ms → m ≡ slice_index_or (messages_of ms) i m → s ≡ slice_index (sources_of ms) i
    → received_on link (drop i ms) ≡ record { link = link; source = s; message = m } ∷ received_on link (drop (i + 1) ms)
told_at link ms i m s within at from =
    let one : Received = record { link = link; source = s; message = m } in
    let next : suc i ≡ i + 1 = omega arith in
    told_from link ms i m s within at from ∙ ap (λ n. one ∷ received_on link (drop n ms)) next

-- a place that is chosen is told, and another isn't
chosen_first : (choose : ℕ → Bool) (link i : ℕ) (xs ys : List Accepted) (r : Received) → choose i ≡ true → received_on link xs ≡ r ∷ received_on link ys → ys ≡ drop 1 xs
    → received_on link (chosen choose i xs) ≡ r ∷ received_on link (chosen choose (i + 1) ys)
chosen_first choose link i [] ys r is_so one is = absurd cc
chosen_first choose link i (x ∷ xs) ys r is_so one is =
    let here : Received = record { link = link; source = x.source; message = x.message } in
    let same : here ≡ r = cc in
    ap (λ v. received_on link (if v then x ∷ chosen choose (i + 1) xs else chosen choose (i + 1) xs)) is_so
    ∙ ap (λ q. q ∷ received_on link (chosen choose (i + 1) xs)) same
    ∙ ap (λ zs. r ∷ received_on link (chosen choose (i + 1) zs)) (sym is)

chosen_later : (choose : ℕ → Bool) (link i : ℕ) (xs ys : List Accepted) → choose i ≡ false → ys ≡ drop 1 xs
    → received_on link (chosen choose i xs) ≡ received_on link (chosen choose (i + 1) ys)
chosen_later choose link i [] ys isnt is = ap (λ zs. received_on link (chosen choose (i + 1) zs)) (sym is)
chosen_later choose link i (x ∷ xs) ys isnt is =
    ap (λ v. received_on link (if v then x ∷ chosen choose (i + 1) xs else chosen choose (i + 1) xs)) isnt
    ∙ ap (λ zs. received_on link (chosen choose (i + 1) zs)) (sym is)

behind : (i : ℕ) (ms : List Accepted) → drop (i + 1) ms ≡ drop 1 (drop i ms)
behind i ms = sym (drop-drop 1 i ms)

pub told_chosen : (choose : ℕ → Bool) (link i : ℕ) (ms : List Accepted) (told all : List Received) (r : Received) → choose i ≡ true
    → received_on link (drop i ms) ≡ r ∷ received_on link (drop (i + 1) ms) → told ++ received_on link (chosen choose i (drop i ms)) ≡ all
    → (told ++ r ∷ []) ++ received_on link (chosen choose (i + 1) (drop (i + 1) ms)) ≡ all
told_chosen choose link i ms told all r is_so one is =
    append_assoc told (r ∷ []) (received_on link (chosen choose (i + 1) (drop (i + 1) ms)))
    ∙ sym (ap (λ xs. told ++ xs) (chosen_first choose link i (drop i ms) (drop (i + 1) ms) r is_so one (behind i ms))) ∙ is

pub told_later : (choose : ℕ → Bool) (link i : ℕ) (ms : List Accepted) (told all : List Received) → choose i ≡ false
    → told ++ received_on link (chosen choose i (drop i ms)) ≡ all → told ++ received_on link (chosen choose (i + 1) (drop (i + 1) ms)) ≡ all
told_later choose link i ms told all isnt is =
    sym (ap (λ xs. told ++ xs) (chosen_later choose link i (drop i ms) (drop (i + 1) ms) isnt (behind i ms))) ∙ is
