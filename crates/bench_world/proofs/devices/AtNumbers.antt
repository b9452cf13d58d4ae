-- What stands of the peer with a number: its limit and what it accepted, through what commands change of peers.
use Rattle.std.proofs.Common.{◌≡◌, ℕ, ◌<◌, List, [], ◌∷◌, ◌++◌, map, length, Bool, true, false, nat_eq, if◌then◌else◌, Option, Some, None, refl, sym, ◌∙◌, ap, subst, arith, append-nil}
use Rattle.std.specs.Cmp.Lexicographic.{pointwise}
use Rattle.std.specs.List.{AllByRecursion}
use Rattle.std.specs.Prelude.{option_map}
use Rattle.std.proofs.lemmas.Bool.{ne_eqb, eq-eqb, eqb-true}
use Rattle.far_air.specs.FarEnds.{first_far, later_fars, rests}
use Rattle.peer_air.specs.PeerFars.{peer_ends}
use Rattle.snep_core.specs.Server.{Received as Accepted}
use Rattle.bench_devices.specs.declared.device.Device.{Device}
use Rattle.bench_devices.specs.Device.{device_id}
use Rattle.bench_world.specs.World.{FarEnd, WholeWorld, stable}
use Rattle.bench_world.specs.Calls.{accepting_if, with_accepted}
use Rattle.bench_world.specs.Links.{is_number, end_numbered}
use Rattle.bench_world.specs.Opened.{IsBelow, IsOther, AreNumbered}
use Rattle.bench_world.specs.Peers.{without_place, placed_under, with_place_changed, end_offered}

-- of a far end: its server's limit, and what that accepted
pub record Held : Type 0 where
  pub limit : ℕ
  pub accepted : List Accepted

abbrev pub held : Option FarEnd → Option Held
held None = None
held (Some l) = Some (record { limit = l.service.limit; accepted = l.service.accepted })

abbrev pub IfHeld : (Held → Type 0) → Option Held → Type 0
IfHeld Is None = Unit {0}
IfHeld Is (Some k) = Is k

abbrev pub at_number : ℕ → List (Option ℕ) → List (Option Held) → Option Held
at_number n [] ks = None
at_number n (p ∷ ps) ks = if is_number n p then first_far ks else at_number n ps (later_fars ks)

-- who has a number has a far end
abbrev pub HasHeld : Option ℕ → Option Held → Type 0
HasHeld None k = Unit {0}
HasHeld (Some p) None = ⊥
HasHeld (Some p) (Some k) = Unit {0}

abbrev pub AreHeld : List (Option ℕ) → List (Option Held) → Type 0
AreHeld [] [] = Unit {0}
AreHeld [] (k ∷ ks) = ⊥
AreHeld (p ∷ ps) [] = ⊥
AreHeld (p ∷ ps) (k ∷ ks) = HasHeld p k × AreHeld ps ks

pub held_at : (n : ℕ) (ps : List (Option ℕ)) (os : List (Option FarEnd)) → held (end_numbered n ps os) ≡ at_number n ps (map held os)
held_at n [] os = refl
held_at n (p ∷ ps) [] = by (is_number n p) (held_at n ps [])
  where
    by : (v : Bool) → held (end_numbered n ps []) ≡ at_number n ps [] → held (if v then None else end_numbered n ps []) ≡ (if v then None else at_number n ps [])
    by true e = refl
    by false e = e
held_at n (p ∷ ps) (o ∷ os) = by (is_number n p) (held_at n ps os)
  where
    by : (v : Bool) → held (end_numbered n ps os) ≡ at_number n ps (map held os) → held (if v then o else end_numbered n ps os) ≡ (if v then held o else at_number n ps (map held os))
    by true e = refl
    by false e = e

-- what stays of far ends keeps it
pub held_rests : (o : Option FarEnd) → held (rests peer_ends o) ≡ held o
held_rests None = refl
held_rests (Some l) = refl

pub all_rests : (os : List (Option FarEnd)) → map held (map (rests peer_ends) os) ≡ map held os
all_rests [] = refl
all_rests (o ∷ os) = ap (λ k. k ∷ map held (map (rests peer_ends) os)) (held_rests o) ∙ ap (λ ks. held o ∷ ks) (all_rests os)

pub same_held : (v w : WholeWorld) → (stable v).ends ≡ (stable w).ends → map held v.fars ≡ map held w.fars
same_held v w same = sym (all_rests v.fars) ∙ ap (map held) same ∙ all_rests w.fars

-- one accepted more
abbrev pub adding : List Accepted → Option Held → Option Held
adding more None = None
adding more (Some k) = Some (record { limit = k.limit; accepted = k.accepted ++ more })

abbrev pub with_held : List Accepted → ℕ → List (Option ℕ) → List (Option Held) → List (Option Held)
with_held more n [] ks = ks
with_held more n (p ∷ ps) [] = []
with_held more n (p ∷ ps) (k ∷ ks) = if is_number n p then adding more k ∷ ks else k ∷ with_held more n ps ks

held_adding : (more : List Accepted) (o : Option FarEnd) → held (accepting_if more o) ≡ adding more (held o)
held_adding more None = refl
held_adding more (Some l) = refl

adding_held : (more : List Accepted) (n : ℕ) (ps : List (Option ℕ)) (os : List (Option FarEnd)) → map held (with_accepted more n ps os) ≡ with_held more n ps (map held os)
adding_held more n [] os = refl
adding_held more n (p ∷ ps) [] = refl
adding_held more n (p ∷ ps) (o ∷ os) = by (is_number n p) (adding_held more n ps os)
  where
    by : (v : Bool) → map held (with_accepted more n ps os) ≡ with_held more n ps (map held os)
        → map held (if v then accepting_if more o ∷ os else o ∷ with_accepted more n ps os) ≡ (if v then adding more (held o) ∷ map held os else held o ∷ with_held more n ps (map held os))
    by true e = ap (λ k. k ∷ map held os) (held_adding more o)
    by false e = ap (λ ks. held o ∷ ks) e

pub more_held : (v w : WholeWorld) (more : List Accepted) (n : ℕ) (ps : List (Option ℕ)) → (stable v).ends ≡ with_accepted more n ps (stable w).ends
    → map held v.fars ≡ with_held more n ps (map held w.fars)
more_held v w more n ps same =
    sym (all_rests v.fars) ∙ ap (map held) same ∙ adding_held more n ps (map (rests peer_ends) w.fars) ∙ ap (with_held more n ps) (all_rests w.fars)

pub held_more : (more : List Accepted) (n : ℕ) (ps : List (Option ℕ)) (ks : List (Option Held)) → AreHeld ps ks → AreHeld ps (with_held more n ps ks)
held_more more n [] [] all = tt
held_more more n [] (k ∷ ks) all = absurd all
held_more more n (p ∷ ps) [] all = absurd all
held_more more n (p ∷ ps) (k ∷ ks) all = by (is_number n p) (held_more more n ps ks all.1)
  where
    one : (q : Option ℕ) (x : Option Held) → HasHeld q x → HasHeld q (adding more x)
    one None x h = tt
    one (Some q) None h = h
    one (Some q) (Some x) h = tt

    by : (v : Bool) → AreHeld ps (with_held more n ps ks) → AreHeld (p ∷ ps) (if v then adding more k ∷ ks else k ∷ with_held more n ps ks)
    by true rest = (one p k all.0, all.1)
    by false rest = (all.0, rest)

-- nothing more
pub adding_none : (k : Option Held) → adding [] k ≡ k
adding_none None = refl
adding_none (Some k) = ap (λ xs. Some (record { limit = k.limit; accepted = xs })) (append-nil k.accepted)

at_none : (n : ℕ) (ps : List (Option ℕ)) → at_number n ps [] ≡ None
at_none n [] = refl
at_none n (p ∷ ps) = by (is_number n p) (at_none n ps)
  where
    by : (v : Bool) → at_number n ps [] ≡ None → (if v then None else at_number n ps []) ≡ None
    by true e = refl
    by false e = e

-- the one with the number gained it, and the others nothing
pub at_own : (more : List Accepted) (n : ℕ) (ps : List (Option ℕ)) (ks : List (Option Held)) → at_number n ps (with_held more n ps ks) ≡ adding more (at_number n ps ks)
at_own more n [] ks = refl
at_own more n (p ∷ ps) [] = at_none n (p ∷ ps) ∙ ap (adding more) (sym (at_none n (p ∷ ps)))
at_own more n (p ∷ ps) (k ∷ ks) = by (is_number n p) (at_own more n ps ks)
  where
    by : (v : Bool) → at_number n ps (with_held more n ps ks) ≡ adding more (at_number n ps ks)
        → (if v then first_far (if v then adding more k ∷ ks else k ∷ with_held more n ps ks) else at_number n ps (later_fars (if v then adding more k ∷ ks else k ∷ with_held more n ps ks)))
        ≡ adding more (if v then k else at_number n ps ks)
    by true e = refl
    by false e = e

pub at_other : (more : List Accepted) (n m : ℕ) → nat_eq n m ≡ false → (ps : List (Option ℕ)) (ks : List (Option Held)) → at_number m ps (with_held more n ps ks) ≡ at_number m ps ks
at_other more n m apart [] ks = refl
at_other more n m apart (p ∷ ps) [] = refl
at_other more n m apart (p ∷ ps) (k ∷ ks) = by (is_number n p) (is_number m p) (not_both p) (at_other more n m apart ps ks)
  where
    not_both : (q : Option ℕ) → is_number n q ≡ true → is_number m q ≡ true → ⊥
    not_both None a b = cc
    not_both (Some q) a b = let clash : nat_eq n m ≡ true = eq-eqb n m (sym (eqb-true q n a) ∙ eqb-true q m b) in cc

    by : (v w : Bool) → (v ≡ true → w ≡ true → ⊥) → at_number m ps (with_held more n ps ks) ≡ at_number m ps ks
        → (if w then first_far (if v then adding more k ∷ ks else k ∷ with_held more n ps ks) else at_number m ps (later_fars (if v then adding more k ∷ ks else k ∷ with_held more n ps ks)))
        ≡ (if w then k else at_number m ps ks)
    by true true never e = absurd (never refl refl)
    by true false never e = refl
    by false true never e = refl
    by false false never e = e

-- one device more
pub held_placed : (ps : List (Option ℕ)) (ks : List (Option Held)) (p : Option ℕ) (k : Option Held) → AreHeld ps ks → HasHeld p k → AreHeld (ps ++ p ∷ []) (ks ++ k ∷ [])
held_placed [] [] p k all one = (one, tt)
held_placed [] (x ∷ ks) p k all one = absurd all
held_placed (q ∷ ps) [] p k all one = absurd all
held_placed (q ∷ ps) (x ∷ ks) p k all one = (all.0, held_placed ps ks p k all.1 one)

pub at_placed : (n : ℕ) (ps : List (Option ℕ)) (ks : List (Option Held)) (p : Option ℕ) (k : Option Held) → AreHeld ps ks → is_number n p ≡ false
    → at_number n (ps ++ p ∷ []) (ks ++ k ∷ []) ≡ at_number n ps ks
at_placed n [] [] p k all other = ap (λ v. if v then k else None) other
at_placed n [] (x ∷ ks) p k all other = absurd all
at_placed n (q ∷ ps) [] p k all other = absurd all
at_placed n (q ∷ ps) (x ∷ ks) p k all other = ap (λ o. if is_number n q then x else o) (at_placed n ps ks p k all.1 other)

-- one less
none_placed : {X : Type 0} (id : List ℕ) (ds : List Device) → placed_under {X = X} id ds [] ≡ None
none_placed id [] = refl
none_placed {X = X} id (d ∷ ds) = by (pointwise nat_eq (device_id d) id) (none_placed {X = X} id ds)
  where
    by : (v : Bool) → placed_under {X = X} id ds [] ≡ None → (if v then first_far {F = X} [] else placed_under {X = X} id ds []) ≡ None
    by true e = refl
    by false e = e

gap_held : (id : List ℕ) (ds : List Device) → AreHeld (without_place id ds []) (without_place id ds [])
gap_held id [] = tt
gap_held id (d ∷ ds) = by (pointwise nat_eq (device_id d) id) (gap_held id ds)
  where
    by : (v : Bool) → AreHeld (without_place id ds []) (without_place id ds []) → AreHeld (if v then [] else None ∷ without_place id ds []) (if v then [] else None ∷ without_place id ds [])
    by true e = tt
    by false e = (tt, e)

pub held_without : (id : List ℕ) (ds : List Device) (ps : List (Option ℕ)) (ks : List (Option Held)) → AreHeld ps ks → AreHeld (without_place id ds ps) (without_place id ds ks)
held_without id [] ps ks all = all
held_without id (d ∷ ds) [] [] all = gap_held id (d ∷ ds)
held_without id (d ∷ ds) [] (k ∷ ks) all = absurd all
held_without id (d ∷ ds) (p ∷ ps) [] all = absurd all
held_without id (d ∷ ds) (p ∷ ps) (k ∷ ks) all = by (pointwise nat_eq (device_id d) id) (held_without id ds ps ks all.1)
  where
    by : (v : Bool) → AreHeld (without_place id ds ps) (without_place id ds ks) → AreHeld (if v then ps else p ∷ without_place id ds ps) (if v then ks else k ∷ without_place id ds ks)
    by true rest = all.1
    by false rest = (all.0, rest)

-- the far ends go as what is held of them
pub held_gone : (id : List ℕ) (ds : List Device) (os : List (Option FarEnd)) → map held (without_place id ds os) ≡ without_place id ds (map held os)
held_gone id [] os = refl
held_gone id (d ∷ ds) [] = by (pointwise nat_eq (device_id d) id) (held_gone id ds [])
  where
    by : (v : Bool) → map held (without_place id ds []) ≡ without_place id ds [] → map held (if v then [] else None ∷ without_place id ds []) ≡ (if v then [] else None ∷ without_place id ds [])
    by true e = refl
    by false e = ap (λ ks. None ∷ ks) e
held_gone id (d ∷ ds) (o ∷ os) = by (pointwise nat_eq (device_id d) id) (held_gone id ds os)
  where
    by : (v : Bool) → map held (without_place id ds os) ≡ without_place id ds (map held os)
        → map held (if v then os else o ∷ without_place id ds os) ≡ (if v then map held os else held o ∷ without_place id ds (map held os))
    by true e = refl
    by false e = ap (λ ks. held o ∷ ks) e

-- what holds of all numbers holds of those that are left
others_left : (P : Option ℕ → Type 0) → P None → (id : List ℕ) (ds : List Device) (ps : List (Option ℕ)) → AllByRecursion P ps → AllByRecursion P (without_place id ds ps)
others_left P none id [] ps all = all
others_left P none id (d ∷ ds) [] all = by (pointwise nat_eq (device_id d) id) (others_left P none id ds [] tt)
  where
    by : (v : Bool) → AllByRecursion P (without_place id ds []) → AllByRecursion P (if v then [] else None ∷ without_place id ds [])
    by true rest = tt
    by false rest = (none, rest)
others_left P none id (d ∷ ds) (p ∷ ps) all = by (pointwise nat_eq (device_id d) id) (others_left P none id ds ps all.1)
  where
    by : (v : Bool) → AllByRecursion P (without_place id ds ps) → AllByRecursion P (if v then ps else p ∷ without_place id ds ps)
    by true rest = all.1
    by false rest = (all.0, rest)

none_other : (p : Option ℕ) → IsOther p None
none_other None = tt
none_other (Some p) = refl

pub numbered_without : (n : ℕ) (id : List ℕ) (ds : List Device) (ps : List (Option ℕ)) → AreNumbered n ps → AreNumbered n (without_place id ds ps)
numbered_without n id [] ps all = all
numbered_without n id (d ∷ ds) [] all = by (pointwise nat_eq (device_id d) id) (numbered_without n id ds [] tt)
  where
    all_none : (es : List Device) → AllByRecursion (IsOther None) (without_place id es [])
    all_none es = others_left (IsOther None) tt id es [] tt

    by : (v : Bool) → AreNumbered n (without_place id ds []) → AreNumbered n (if v then [] else None ∷ without_place id ds [])
    by true rest = tt
    by false rest = (tt, all_none ds, rest)
numbered_without n id (d ∷ ds) (p ∷ ps) all = by (pointwise nat_eq (device_id d) id) (numbered_without n id ds ps all.2)
  where
    by : (v : Bool) → AreNumbered n (without_place id ds ps) → AreNumbered n (if v then ps else p ∷ without_place id ds ps)
    by true rest = all.2
    by false rest = (all.0, others_left (IsOther p) (none_other p) id ds ps all.1, rest)

-- where another number went, a number stands as before
pub at_left : (n : ℕ) (id : List ℕ) (ds : List Device) (ps : List (Option ℕ)) (ks : List (Option Held)) → AreHeld ps ks → is_number n (placed_under id ds ps) ≡ false
    → at_number n (without_place id ds ps) (without_place id ds ks) ≡ at_number n ps ks
at_left n id [] ps ks all other = refl
at_left n id (d ∷ ds) [] [] all other = none_there (d ∷ ds)
  where
    none_there : (es : List Device) → at_number n (without_place id es []) (without_place id es []) ≡ None
    none_there [] = refl
    none_there (e ∷ es) = by (pointwise nat_eq (device_id e) id) (none_there es)
      where
        by : (v : Bool) → at_number n (without_place id es []) (without_place id es []) ≡ None
            → at_number n (if v then [] else None ∷ without_place id es []) (if v then [] else None ∷ without_place id es []) ≡ None
        by true e = refl
        by false e = e
at_left n id (d ∷ ds) [] (k ∷ ks) all other = absurd all
at_left n id (d ∷ ds) (p ∷ ps) [] all other = absurd all
at_left n id (d ∷ ds) (p ∷ ps) (k ∷ ks) all other = by (pointwise nat_eq (device_id d) id) other (at_left n id ds ps ks all.1)
  where
    by : (v : Bool) → is_number n (if v then p else placed_under id ds ps) ≡ false
        → (is_number n (placed_under id ds ps) ≡ false → at_number n (without_place id ds ps) (without_place id ds ks) ≡ at_number n ps ks)
        → at_number n (if v then ps else p ∷ without_place id ds ps) (if v then ks else k ∷ without_place id ds ks) ≡ (if is_number n p then k else at_number n ps ks)
    by true e rest = sym (ap (λ v. if v then k else at_number n ps ks) e)
    by false e rest = ap (λ o. if is_number n p then k else o) (rest e)

-- where it went itself, it stands nowhere
other_numbers : (p n : ℕ) (ps : List (Option ℕ)) (ks : List (Option Held)) → AllByRecursion (IsOther (Some p)) ps → nat_eq p n ≡ true → at_number n ps ks ≡ None
other_numbers p n [] ks all same = refl
other_numbers p n (q ∷ ps) ks all same =
    let other : is_number n q ≡ false = subst (λ m. is_number m q ≡ false) (eqb-true p n same) all.0 in
    ap (λ v. if v then first_far ks else at_number n ps (later_fars ks)) other ∙ other_numbers p n ps (later_fars ks) all.1 same

placed_other : (q n : ℕ) (id : List ℕ) (ds : List Device) (ps : List (Option ℕ)) → AllByRecursion (IsOther (Some q)) ps → is_number n (placed_under id ds ps) ≡ true → nat_eq q n ≡ false
placed_other q n id [] ps all named = absurd cc
placed_other q n id (d ∷ ds) [] all named = absurd (let clash : false ≡ true = sym (ap (is_number n) (none_placed {X = ℕ} id (d ∷ ds))) ∙ named in cc)
placed_other q n id (d ∷ ds) (p ∷ ps) all named = by (pointwise nat_eq (device_id d) id) named (placed_other q n id ds ps all.1)
  where
    here : (x : Option ℕ) → IsOther (Some q) x → is_number n x ≡ true → nat_eq q n ≡ false
    here None o e = absurd cc
    here (Some x) o e =
        let same : x ≡ n = eqb-true x n e in
        ne_eqb q n (λ e2. let clash : true ≡ false = sym (eq-eqb x q (same ∙ sym e2)) ∙ o in cc)

    by : (v : Bool) → is_number n (if v then p else placed_under id ds ps) ≡ true → (is_number n (placed_under id ds ps) ≡ true → nat_eq q n ≡ false) → nat_eq q n ≡ false
    by true e rest = here p all.0 e
    by false e rest = rest e

not_first : (n : ℕ) (p : Option ℕ) (id : List ℕ) (ds : List Device) (ps : List (Option ℕ)) → AllByRecursion (IsOther p) ps → is_number n (placed_under id ds ps) ≡ true → is_number n p ≡ false
not_first n None id ds ps all named = refl
not_first n (Some q) id ds ps all named = placed_other q n id ds ps all named

pub none_left : (n m : ℕ) (id : List ℕ) (ds : List Device) (ps : List (Option ℕ)) (ks : List (Option Held)) → AreHeld ps ks → AreNumbered m ps → is_number n (placed_under id ds ps) ≡ true
    → at_number n (without_place id ds ps) (without_place id ds ks) ≡ None
none_left n m id [] ps ks all apart named = absurd cc
none_left n m id (d ∷ ds) [] ks all apart named = absurd (let clash : false ≡ true = sym (ap (is_number n) (none_placed {X = ℕ} id (d ∷ ds))) ∙ named in cc)
none_left n m id (d ∷ ds) (p ∷ ps) [] all apart named = absurd all
none_left n m id (d ∷ ds) (p ∷ ps) (k ∷ ks) all apart named = by (pointwise nat_eq (device_id d) id) named (none_left n m id ds ps ks all.1 apart.2)
  where
    first : (q : Option ℕ) → AllByRecursion (IsOther q) ps → is_number n q ≡ true → at_number n ps ks ≡ None
    first None others e = absurd cc
    first (Some q) others e = other_numbers q n ps ks others e

    by : (v : Bool) → is_number n (if v then p else placed_under id ds ps) ≡ true
        → (is_number n (placed_under id ds ps) ≡ true → at_number n (without_place id ds ps) (without_place id ds ks) ≡ None)
        → at_number n (if v then ps else p ∷ without_place id ds ps) (if v then ks else k ∷ without_place id ds ks) ≡ None
    by true e rest = first p apart.1 e
    by false e rest =
        ap (λ v. if v then k else at_number n (without_place id ds ps) (without_place id ds ks)) (not_first n p id ds ps apart.1 e) ∙ rest e

-- what holds of the one with a number, if it is there, holds where another one went or itself
pub still_held : (P : Held → Type 0) (n m : ℕ) (id : List ℕ) (ds : List Device) (ps : List (Option ℕ)) (ks : List (Option Held)) → AreHeld ps ks → AreNumbered m ps
    → IfHeld P (at_number n ps ks) → IfHeld P (at_number n (without_place id ds ps) (without_place id ds ks))
still_held P n m id ds ps ks all apart h = by (is_number n (placed_under id ds ps)) refl
  where
    by : (v : Bool) → is_number n (placed_under id ds ps) ≡ v → IfHeld P (at_number n (without_place id ds ps) (without_place id ds ks))
    by true e = subst (IfHeld P) (sym (none_left n m id ds ps ks all apart e)) tt
    by false e = subst (IfHeld P) (sym (at_left n id ds ps ks all e)) h

-- the peer with an identifier is the one with its number, and is there
pub at_own_place : (p m : ℕ) (id : List ℕ) (ds : List Device) (ps : List (Option ℕ)) (ks : List (Option Held)) → AreHeld ps ks → AreNumbered m ps → placed_under id ds ps ≡ Some p
    → (k : Held) × (at_number p ps ks ≡ Some k) × (placed_under id ds ks ≡ Some k)
at_own_place p m id [] ps ks all apart named = absurd cc
at_own_place p m id (d ∷ ds) [] ks all apart named = absurd (let clash : None ≡ Some p = sym (none_placed {X = ℕ} id (d ∷ ds)) ∙ named in cc)
at_own_place p m id (d ∷ ds) (q ∷ ps) [] all apart named = absurd all
at_own_place p m id (d ∷ ds) (q ∷ ps) (k ∷ ks) all apart named = by (pointwise nat_eq (device_id d) id) named (at_own_place p m id ds ps ks all.1 apart.2)
  where
    first : (x : Option ℕ) (y : Option Held) → HasHeld x y → x ≡ Some p → (h : Held) × ((if is_number p x then y else at_number p ps ks) ≡ Some h) × (y ≡ Some h)
    first None y has e = absurd cc
    first (Some x) None has e = absurd has
    first (Some x) (Some y) has e =
        let same : x ≡ p = cc in
        (y, ap (λ v. if v then Some y else at_number p ps ks) (eq-eqb x p same), refl)

    by : (v : Bool) → (if v then q else placed_under id ds ps) ≡ Some p → (placed_under id ds ps ≡ Some p → (h : Held) × (at_number p ps ks ≡ Some h) × (placed_under id ds ks ≡ Some h))
        → (h : Held) × ((if is_number p q then k else at_number p ps ks) ≡ Some h) × ((if v then k else placed_under id ds ks) ≡ Some h)
    by true e later = first q k all.0 e
    by false e later =
        let rest = later e in
        let named_there : is_number p (placed_under id ds ps) ≡ true = ap (is_number p) e ∙ eq-eqb p p refl in (
          rest.0,
          ap (λ v. if v then k else at_number p ps ks) (not_first p q id ds ps apart.1 named_there) ∙ rest.1,
          rest.2,
        )

pub held_under : (id : List ℕ) (ds : List Device) (os : List (Option FarEnd)) → placed_under id ds (map held os) ≡ held (placed_under id ds os)
held_under id [] os = refl
held_under id (d ∷ ds) [] = by (pointwise nat_eq (device_id d) id) (held_under id ds [])
  where
    by : (v : Bool) → placed_under id ds [] ≡ held (placed_under id ds []) → (if v then None else placed_under id ds []) ≡ held (if v then None else placed_under id ds [])
    by true e = refl
    by false e = e
held_under id (d ∷ ds) (o ∷ os) = by (pointwise nat_eq (device_id d) id) (held_under id ds os)
  where
    by : (v : Bool) → placed_under id ds (map held os) ≡ held (placed_under id ds os) → (if v then held o else placed_under id ds (map held os)) ≡ held (if v then o else placed_under id ds os)
    by true e = refl
    by false e = e

-- a value that is offered changes neither
offered_one : (key value : List ℕ) (o : Option FarEnd) → held (option_map (end_offered key value) o) ≡ held o
offered_one key value None = refl
offered_one key value (Some l) = refl

pub held_offered : (key value id : List ℕ) (ds : List Device) (os : List (Option FarEnd)) → length os ≡ length ds
    → map held (with_place_changed (end_offered key value) id ds os) ≡ map held os
held_offered key value id [] os many = refl
held_offered key value id (d ∷ ds) [] many = absurd cc
held_offered key value id (d ∷ ds) (o ∷ os) many = by (pointwise nat_eq (device_id d) id) (held_offered key value id ds os cc)
  where
    by : (v : Bool) → map held (with_place_changed (end_offered key value) id ds os) ≡ map held os
        → map held (if v then option_map (end_offered key value) o ∷ os else o ∷ with_place_changed (end_offered key value) id ds os) ≡ map held (o ∷ os)
    by true e = ap (λ k. k ∷ map held os) (offered_one key value o)
    by false e = ap (λ ks. held o ∷ ks) e

-- a number that stands is below the next one
pub at_below : (n m : ℕ) (ps : List (Option ℕ)) (ks : List (Option Held)) (k : Held) → AreNumbered m ps → at_number n ps ks ≡ Some k → n < m
at_below n m [] ks k apart found = absurd cc
at_below n m (p ∷ ps) ks k apart found = by (is_number n p) refl found (at_below n m ps (later_fars ks) k apart.2)
  where
    own : (q : Option ℕ) → IsBelow m q → is_number n q ≡ true → n < m
    own None below e = absurd cc
    own (Some q) below e = subst (λ i. i < m) (eqb-true q n e) below

    by : (v : Bool) → is_number n p ≡ v → (if v then first_far ks else at_number n ps (later_fars ks)) ≡ Some k → (at_number n ps (later_fars ks) ≡ Some k → n < m) → n < m
    by true e f rest = own p apart.0 e
    by false e f rest = rest f

-- the next number is new
pub at_new : (m : ℕ) (ps : List (Option ℕ)) (ks : List (Option Held)) (k : Option Held) → AreHeld ps ks → AreNumbered m ps → at_number m (ps ++ Some m ∷ []) (ks ++ k ∷ []) ≡ k
at_new m [] [] k all apart = ap (λ v. if v then k else None) (eq-eqb m m refl)
at_new m [] (x ∷ ks) k all apart = absurd all
at_new m (p ∷ ps) [] k all apart = absurd all
at_new m (p ∷ ps) (x ∷ ks) k all apart =
    ap (λ v. if v then x else at_number m (ps ++ Some m ∷ []) (ks ++ k ∷ [])) (not_yet p apart.0) ∙ at_new m ps ks k all.1 apart.2
  where
    not_yet : (q : Option ℕ) → IsBelow m q → is_number m q ≡ false
    not_yet None below = refl
    not_yet (Some q) below = ne_eqb q m (λ same. omega (arith, below, same))
