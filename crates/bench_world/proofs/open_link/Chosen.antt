-- The far end that a command on the open link takes stands at the place of the link's peer.
use Rattle.std.proofs.Common.{◌≡◌, ℕ, zero, suc, List, [], ◌∷◌, if◌then◌else◌, Bool, true, false, Option, Some, None, sym, ◌∙◌, ap, subst}
use Rattle.std.specs.Prelude.{get_or}
use Rattle.bench_world.specs.World.{FarEnd}
use Rattle.bench_world.specs.Links.{OpenLink, end_numbered, is_number}
use Rattle.bench_world.specs.Obeying.{Machines, IsSettled, under}
use Rattle.bench_world.specs.Opened.{IsFirstWith}
use Rattle.bench_world.proofs.tags.Fronts.{Ends as FarEnds}
use Rattle.bench_world.proofs.open_link.OnLink.{one_place, opened}

-- what stands at a place, whatever else would
there : (os : FarEnds) (p : ℕ) (e : FarEnd) (w : Option FarEnd) → get_or os p None ≡ Some e → get_or os p w ≡ Some e
there [] p e w is = absurd cc
there (o ∷ os) zero e w is = is
there (o ∷ os) (suc p) e w is = there os p e w is

is_by : (n : ℕ) (p : Option ℕ) (v : Bool) (x y : Option FarEnd) → is_number n p ≡ v → (if is_number n p then x else y) ≡ (if v then x else y)
is_by n p v x y e = ap (λ b. if b then x else y) e

-- a number that some place has is found
numbered_some : (n : ℕ) (ps : List (Option ℕ)) (p : ℕ) (e : FarEnd) → IsFirstWith n p ps → ((os : FarEnds) → end_numbered n ps os ≡ None) → ⊥
numbered_some n [] p e first none = first
numbered_some n (x ∷ ps) zero e first none = (let clash : Some e ≡ None = sym (is_by n x true (Some e) (end_numbered n ps []) first) ∙ none (Some e ∷ []) in cc)
numbered_some n (x ∷ ps) (suc p) e first none = numbered_some n ps p e first.1 (λ os. sym (is_by n x false None (end_numbered n ps os) first.0) ∙ none (None ∷ os))

module _ (old : Machines) (settled : IsSettled old) (l : OpenLink) (linked : old.link ≡ Some l) where
  abbrev so : IsSettled (under old.ends old.peers (Some l) old.air)
  so = subst (λ (o : Option OpenLink). IsSettled (under old.ends old.peers o old.air)) linked settled

  abbrev spot : ℕ
  spot = (opened old.air old.ends old.peers l so).place

  abbrev its : FarEnd
  its = (opened old.air old.ends old.peers l so).end

  -- a place is found
  pub found : ((os : FarEnds) → end_numbered l.peer old.peers.numbers os ≡ None) → ⊥
  found none = numbered_some l.peer old.peers.numbers spot its (opened old.air old.ends old.peers l so).number none

  -- and a far end stands there
  pub is_there : (q : ℕ) → ((os : FarEnds) → end_numbered l.peer old.peers.numbers os ≡ get_or os q None) → (w : Option FarEnd) → w ≡ get_or old.ends q w → w ≡ None → ⊥
  is_there q at w e none =
      let place : q ≡ spot = one_place l.peer old.peers.numbers spot q its (opened old.air old.ends old.peers l so).number at in
      let clash : Some its ≡ None =
      sym (e ∙ ap (λ n. get_or old.ends n w) place ∙ there old.ends spot its w (opened old.air old.ends old.peers l so).above) ∙ none in cc
