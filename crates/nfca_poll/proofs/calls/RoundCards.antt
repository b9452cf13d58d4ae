-- The cards of a round: those that it found sleep, or are awake by noise; the others are idle.
use Rattle.std.proofs.Common.{◌≡◌, ◌⊎◌, ℕ, ◌+◌, ◌<◌, ◌≤◌, List, [], ◌∷◌, ◌++◌, map, Bool, true, false, if◌then◌else◌, inl, inr, refl, sym, ap, subst, arith}
use Rattle.nfc_base.specs.declared.event.Heard.{Heard}
use Rattle.nfca_poll.specs.declared.kind.Kind.{Kind}
use Rattle.nfca_poll.specs.declared.fault.Picked.{Picked}
use Rattle.nfca_poll.specs.Ident.{IsIdent}
use Rattle.nfca_poll.specs.Levels.{levels}
use Rattle.nfca_poll.specs.Calls.{Reading, Calls, Slp}
use Rattle.nfca_poll.specs.Front.{Front, Off, Idle, Sleep, Ready, Active, front_next, is_active}
use Rattle.nfca_poll.specs.Crowd.{Card, Each, with_front, is_idle, ahead, crowd_bits}
use Rattle.nfca_poll.specs.Crowd.{picked_of}
use Rattle.nfca_poll.proofs.quiet.Clashes.{wrong, Has}
use Rattle.nfca_poll.proofs.quiet.Eaches.{each_map, each_has, each_front, each_back, map_twice}
use Rattle.nfca_poll.proofs.identifiers.Fitting.{card_next}
use Rattle.nfca_poll.proofs.noise.NoisyTurns.{TurnWas, passed, unheard, damaged, lost}
use Rattle.nfca_poll.proofs.quiet.CrowdOrder.{mapped_has, has_front, has_back, has_either}
use Rattle.nfca_poll.proofs.noise.Standing.{is_standing, Stands, part_of, cast, Shade, Shades}
use Rattle.nfca_poll.proofs.noise.PickedFrom.{PickedFrom}

-- How a device stands, by the noise of the round so far and what was found: at a SLP_REQ that is due one may be active
-- without noise.
abbrev pub FitsBy : Bool → ℕ → List Picked → Picked → Front → Type 0
FitsBy due n found p Off = ⊥
FitsBy due n found p Idle = (Has p found → ⊥) ⊎ (0 < n)
FitsBy due n found p Sleep = Has p found
FitsBy due n found p (Ready k starred) = ⊥
FitsBy due n found p (Active starred) = (starred ≡ false) × Has p found × ((due ≡ true) ⊎ (0 < n))

abbrev pub FitsRound : Bool → ℕ → List Picked → Card → Type 0
FitsRound due n found c = FitsBy due n found (picked_of c) c.front

more_by : (due : Bool) (n n' : ℕ) (found : List Picked) (p : Picked) (f : Front) → n ≤ n' → FitsBy due n found p f → FitsBy due n' found p f
more_by due n n' found p Off l h = h
more_by due n n' found p Idle l (inl h) = inl h
more_by due n n' found p Idle l (inr h) = inr (omega (arith, l, h))
more_by due n n' found p Sleep l h = h
more_by due n n' found p (Ready k s) l h = h
more_by due n n' found p (Active s) l h = (h.0, h.1, elim h.2 [ inl e ↦ inl e | inr k ↦ inr (omega (arith, l, k)) ])

-- more noise changes nothing of it
pub fits_later : (due : Bool) (n n' : ℕ) (found : List Picked) (w : List Card) → n ≤ n' → Each (FitsRound due n found) w → Each (FitsRound due n' found) w
fits_later due n n' found w l e = each_map (FitsRound due n found) (FitsRound due n' found) (λ c h. more_by due n n' found (picked_of c) c.front l h) w e

-- a round begins
pub fits_reset : (w : List Card) → Each (FitsRound false 0 []) (map (λ c. with_front c Idle) w)
fits_reset [] = tt
fits_reset (c ∷ cs) = (inl (λ h. h), fits_reset cs)

stands_by : (n : ℕ) (found : List Picked) (p : Picked) (f : Front) → FitsBy false n found p f → is_standing f ≡ true
stands_by n found p Off h = absurd h
stands_by n found p Idle h = refl
stands_by n found p Sleep h = refl
stands_by n found p (Ready k s) h = absurd h
stands_by n found p (Active s) h = ap (λ v. if v then false else true) h.0

pub fits_stand : (n : ℕ) (found : List Picked) (w : List Card) → Each (λ c. IsIdent c.id) w → Each (FitsRound false n found) w → Each Stands w
fits_stand n found [] i e = tt
fits_stand n found (c ∷ cs) i e = ((i.0, stands_by n found (picked_of c) c.front e.0), fits_stand n found cs i.1 e.1)

-- SLP_REQ
slept_by : (n : ℕ) (found : List Picked) (p : Picked) (ls : List (List ℕ)) (f : Front) → FitsBy true n found p f → FitsBy false n found p (front_next ls f (Calls Slp))
slept_by n found p ls Off h = h
slept_by n found p ls Idle h = h
slept_by n found p ls Sleep h = h
slept_by n found p ls (Ready k s) h = absurd h
slept_by n found p ls (Active s) h = h.1

slept : (n : ℕ) (found : List Picked) (w : List Card) → Each (FitsRound true n found) w → Each (FitsRound false n found) (map (card_next (Calls Slp)) w)
slept n found [] e = tt
slept n found (c ∷ cs) e = (slept_by n found (picked_of c) (levels c.id) c.front e.0, slept n found cs e.1)

awake_by : (n : ℕ) (found : List Picked) (p : Picked) (f : Front) → 0 < n → FitsBy true n found p f → FitsBy false n found p f
awake_by n found p Off l h = h
awake_by n found p Idle l h = h
awake_by n found p Sleep l h = h
awake_by n found p (Ready k s) l h = h
awake_by n found p (Active s) l h = (h.0, h.1, inr l)

-- whatever becomes of SLP_REQ, all stand as they may
pub fits_slp : (n t : ℕ) (found : List Picked) (v v' : List Card) (h : Heard) → Each (FitsRound true n found) v → TurnWas (Calls Slp) v v' h t → Each (FitsRound false (n + t) found) v'
fits_slp n _ found v _ _ e passed = fits_later false n (n + 0) found (map (card_next (Calls Slp)) v) (omega arith) (slept n found v e)
fits_slp n _ found v _ _ e unheard =
    each_map (FitsRound true (n + 1) found) (FitsRound false (n + 1) found) (λ c h. awake_by (n + 1) found (picked_of c) c.front (omega arith) h) v (fits_later true n (n + 1) found v (omega arith) e)
fits_slp n _ found v _ _ e (damaged x h) = fits_later false n (n + 1) found (map (card_next (Calls Slp)) v) (omega arith) (slept n found v e)
fits_slp n _ found v _ _ e (lost x h) = fits_later false n (n + 1) found (map (card_next (Calls Slp)) v) (omega arith) (slept n found v e)

-- no turn changes what can be told
pub told_turn : (r : Reading) (v v' : List Card) (h : Heard) (t : ℕ) → TurnWas r v v' h t → map picked_of v' ≡ map picked_of v
told_turn r v _ _ _ passed = map_twice picked_of (card_next r) v
told_turn r v _ _ _ unheard = refl
told_turn r v _ _ _ (damaged x h) = map_twice picked_of (card_next r) v
told_turn r v _ _ _ (lost x h) = map_twice picked_of (card_next r) v

-- the device that was picked
sleeps_not : ◌≡◌ {A = Front} Sleep Idle → ⊥
sleeps_not e = cc

-- one that was found before was awake, by noise
again_by : (idle : Bool) (n : ℕ) (found : List Picked) (p : Picked) (f : Front) → part_of idle f ≡ Idle → FitsBy false n found p f → Has p found → 0 < n
again_by idle n found p Off e h k = absurd h
again_by idle n found p Idle e (inl new) k = absurd (new k)
again_by idle n found p Idle e (inr l) k = l
again_by idle n found p Sleep e h k = absurd (sleeps_not e)
again_by idle n found p (Ready j s) e h k = absurd h
again_by idle n found p (Active s) e h k = elim h.2 [ inl w ↦ wrong w | inr l ↦ l ]

-- one that wasn't found before was idle, and so the first of those that were
new_by : (idle : Bool) (n : ℕ) (found : List Picked) (p : Picked) (f : Front) → part_of idle f ≡ Idle → FitsBy false n found p f → (Has p found → ⊥) → idle ≡ true
new_by true n found p f e h new = refl
new_by false n found p Off e h new = absurd h
new_by false n found p Idle e h new = absurd (sleeps_not e)
new_by false n found p Sleep e h new = absurd (sleeps_not e)
new_by false n found p (Ready j s) e h new = absurd h
new_by false n found p (Active s) e h new = absurd (new h.1)

-- who isn't found is idle
unfound_by : (n : ℕ) (found : List Picked) (p : Picked) (f : Front) → FitsBy false n found p f → (Has p found → ⊥) → is_idle f ≡ true
unfound_by n found p Off h new = absurd h
unfound_by n found p Idle h new = refl
unfound_by n found p Sleep h new = absurd (new h)
unfound_by n found p (Ready j s) h new = absurd h
unfound_by n found p (Active s) h new = absurd (new h.1)

pub unfound_idle : (n : ℕ) (found : List Picked) (w : List Card) (c : Card) → Each (FitsRound false n found) w → Has c w → (Has (picked_of c) found → ⊥) → is_idle c.front ≡ true
unfound_idle n found w c e h new = unfound_by n found (picked_of c) c.front (each_has (FitsRound false n found) c w e h) new

-- the others, where one more is found
still_new : (found : List Picked) (p q : Picked) → (q.id ≡ p.id → ⊥) → (Has q found → ⊥) → Has q (found ++ p ∷ []) → ⊥
still_new found p q ne new h =
    elim (has_either q found (p ∷ []) h) [
      | inl k ↦ new k
      | inr k ↦ elim k [ inl e ↦ ne (ap (λ (r : Picked). r.id) e) | inr n ↦ n ]
    ]

other_by : (n : ℕ) (found : List Picked) (p q : Picked) (f : Front) → (q.id ≡ p.id → ⊥) → FitsBy false n found q f → FitsBy true n (found ++ p ∷ []) q (part_of true f)
other_by n found p q Off ne h = absurd h
other_by n found p q Idle ne (inl new) = inl (λ k. still_new found p q ne new k)
other_by n found p q Idle ne (inr l) = inr l
other_by n found p q Sleep ne h = has_front q found (p ∷ []) h
other_by n found p q (Ready k s) ne h = absurd h
other_by n found p q (Active s) ne h = has_front q found (p ∷ []) h.1

awake_aside : (n : ℕ) (found : List Picked) (q : Picked) (f : Front) → is_active f ≡ true → FitsBy false n found q f → 0 < n
awake_aside n found q Off e h = absurd h
awake_aside n found q Idle e h = wrong e
awake_aside n found q Sleep e h = wrong e
awake_aside n found q (Ready k s) e h = absurd h
awake_aside n found q (Active s) e h = elim h.2 [ inl w ↦ wrong w | inr l ↦ l ]

shade_fits : (n : ℕ) (found : List Picked) (p : Picked) (c v : Card) → (c.id ≡ p.id → ⊥) → FitsRound false n found c → Shade true c (cast true c) v → FitsRound true n (found ++ p ∷ []) v
shade_fits n found p c v ne h (inl e) =
    let P : Card → Type 0 = λ x. FitsRound true n (found ++ p ∷ []) x in
    subst P (sym e) (other_by n found p (picked_of c) c.front ne h)
shade_fits n found p c v ne h (inr k) =
    let P : Card → Type 0 = λ x. FitsRound true n (found ++ p ∷ []) x in
    subst P (sym k.2) (inr (awake_aside n found (picked_of c) c.front k.0 h))

shades_fit : (n : ℕ) (found : List Picked) (p : Picked) (cs vs : List Card) → Each (λ (c : Card). c.id ≡ p.id → ⊥) cs → Each (FitsRound false n found) cs → Shades true cs (map (cast true) cs) vs
    → Each (FitsRound true n (found ++ p ∷ [])) vs
shades_fit n found p [] [] ne e s = tt
shades_fit n found p [] (v ∷ vs) ne e s = absurd s
shades_fit n found p (c ∷ cs) [] ne e s = absurd s
shades_fit n found p (c ∷ cs) (v ∷ vs) ne e s = (shade_fits n found p c v ne.0 e.0 s.0, shades_fit n found p cs vs ne.1 e.1 s.1)

each_join : {X : Type 0} (P : X → Type 0) (a : List X) (x : X) (b : List X) → Each P a → P x → Each P b → Each P (a ++ x ∷ b)
each_join P [] x b p q r = (q, r)
each_join P (y ∷ a) x b p q r = (p.0, each_join P a x b p.1 q r)

-- A device was picked from these.
module _ (n : ℕ) (found : List Picked) (start : List Card) (ls : List (List ℕ)) (kind : Kind) (v : List Card) (fits : Each (FitsRound false n found) start) (k : PickedFrom start ls kind v) where
  abbrev pub the_picked : Picked
  the_picked = picked_of k.picked

  fits_parts : Each (FitsRound false n found) (k.before ++ k.picked ∷ k.behind)
  fits_parts = let P : List Card → Type 0 = λ t. Each (FitsRound false n found) t in subst P k.parts fits

  picked_fits : FitsRound false n found k.picked
  picked_fits = (each_back (FitsRound false n found) k.before (k.picked ∷ k.behind) fits_parts).0

  -- found before: by noise
  pub picked_again : Has the_picked found → 0 < n
  picked_again h = again_by k.idle n found the_picked k.picked.front k.part picked_fits h

  pub picked_new : (Has the_picked found → ⊥) → k.idle ≡ true
  picked_new new = new_by k.idle n found the_picked k.picked.front k.part picked_fits new

  -- not found before: SLP_REQ is due to it
  pub picked_sends : (Has the_picked found → ⊥) → Each (FitsRound true n (found ++ the_picked ∷ [])) v
  picked_sends new =
      let B : Bool → Type 0 = λ i. Shades i k.before (map (cast i) k.before) k.before' in
      let C : Bool → Type 0 = λ i. Shades i k.behind (map (cast i) k.behind) k.behind' in
      let P : List Card → Type 0 = λ t. Each (FitsRound true n (found ++ the_picked ∷ [])) t in
      let front : Each (FitsRound false n found) k.before = each_front (FitsRound false n found) k.before (k.picked ∷ k.behind) fits_parts in
      let back : Each (FitsRound false n found) k.behind = (each_back (FitsRound false n found) k.before (k.picked ∷ k.behind) fits_parts).1 in
      subst P (sym k.left)
      (each_join (FitsRound true n (found ++ the_picked ∷ [])) k.before' (record { id = k.picked.id; kind = k.picked.kind; front = Active false }) k.behind'
      (shades_fit n found the_picked k.before k.before' k.apart_before front (subst B (picked_new new) k.shades_before))
      (refl, has_back the_picked found (the_picked ∷ []) (inl refl), inl refl)
      (shades_fit n found the_picked k.behind k.behind' k.apart_behind back (subst C (picked_new new) k.shades_behind)))

  -- it stands before all others that aren't found
  pub picked_first : (Has the_picked found → ⊥) → (z : Picked) → Has z (map picked_of start) → (Has z found → ⊥) → ahead (crowd_bits k.picked.id) (crowd_bits z.id) ≡ true
  picked_first new z h unfound =
      let c : (c : Card) × Has c start × (z ≡ picked_of c) = mapped_has picked_of z start h in
      let N : Picked → Type 0 = λ q. Has q found → ⊥ in
      let idle : is_idle c.0.front ≡ true = unfound_idle n found start c.0 fits c.1 (subst N c.2 unfound) in
      let F : Card → Type 0 = λ d. is_idle (part_of k.idle d.front) ≡ true → ahead (crowd_bits k.picked.id) (crowd_bits d.id) ≡ true in
      let H : List Card → Type 0 = λ t. Has c.0 t in
      let ahead_it : F c.0 = each_has F c.0 (k.before ++ k.picked ∷ k.behind) k.first (subst H k.parts c.1) in
      let A : Picked → Type 0 = λ q. ahead (crowd_bits k.picked.id) (crowd_bits q.id) ≡ true in
      subst A (sym c.2) (ahead_it (plays k.idle c.0.front (picked_new new) idle))
    where
      plays_idle : (f : Front) → is_idle f ≡ true → is_idle (part_of true f) ≡ true
      plays_idle Off e = wrong e
      plays_idle Idle e = refl
      plays_idle Sleep e = wrong e
      plays_idle (Ready j s) e = wrong e
      plays_idle (Active s) e = wrong e

      plays : (i : Bool) (f : Front) → i ≡ true → is_idle f ≡ true → is_idle (part_of i f) ≡ true
      plays i f e h = let P : Bool → Type 0 = λ t. is_idle (part_of t f) ≡ true in subst P (sym e) (plays_idle f h)
