-- A crowd at rest has a first device that is idle, or none.
use Rattle.std.proofs.Common.{◌≡◌, ◌≢◌, List, [], ◌∷◌, ◌++◌, Bool, true, false, refl, sym, ◌∙◌}
use Rattle.nfca_poll.specs.Front.{Front, Off, Idle, Sleep, Ready, Active}
use Rattle.nfca_poll.specs.Crowd.{Card, Each, ahead, crowd_bits, is_idle, AreDistinct}
use Rattle.nfca_poll.proofs.quiet.CrowdParts.{IsFirst}
use Rattle.nfca_poll.proofs.quiet.Clashes.{wrong, wrong_back}
use Rattle.nfca_poll.proofs.quiet.Eaches.{each_map, each_has, has_middle}
use Rattle.nfca_poll.proofs.quiet.Choosing.{IsCard}
use Rattle.nfca_poll.proofs.noise.NobodyIdle.{Sleeps}

pub ahead_same : (x : List Bool) → ahead x x ≡ true
ahead_same [] = refl
ahead_same (true ∷ x) = ahead_same x
ahead_same (false ∷ x) = ahead_same x

pub ahead_else : (x y : List Bool) → ahead x y ≡ false → ahead y x ≡ true
ahead_else x [] h = wrong_back h
ahead_else [] (b ∷ y) h = refl
ahead_else (true ∷ x) (true ∷ y) h = ahead_else x y h
ahead_else (true ∷ x) (false ∷ y) h = wrong_back h
ahead_else (false ∷ x) (true ∷ y) h = refl
ahead_else (false ∷ x) (false ∷ y) h = ahead_else x y h

pub ahead_on : (x y z : List Bool) → ahead x y ≡ true → ahead y z ≡ true → ahead x z ≡ true
ahead_on x y [] h k = refl
ahead_on x [] (c ∷ z) h k = wrong k
ahead_on [] (b ∷ y) (c ∷ z) h k = wrong h
ahead_on (true ∷ x) (true ∷ y) (true ∷ z) h k = ahead_on x y z h k
ahead_on (true ∷ x) (true ∷ y) (false ∷ z) h k = refl
ahead_on (true ∷ x) (false ∷ y) (true ∷ z) h k = wrong k
ahead_on (true ∷ x) (false ∷ y) (false ∷ z) h k = refl
ahead_on (false ∷ x) (true ∷ y) (c ∷ z) h k = wrong h
ahead_on (false ∷ x) (false ∷ y) (true ∷ z) h k = wrong k
ahead_on (false ∷ x) (false ∷ y) (false ∷ z) h k = ahead_on x y z h k

-- either nobody is idle, or there is a first
pub data Leads : List Card → Type 0 where
  none : (w : List Card) → Each Sleeps w → Leads w
  some : (a : List Card) (m : Card) (b : List Card) → IsFirst a m b → Leads (a ++ m ∷ b)

pub idle_is : (f : Front) → is_idle f ≡ true → f ≡ Idle
idle_is Off h = wrong h
idle_is Idle h = refl
idle_is Sleep h = wrong h
idle_is (Ready j s) h = wrong h
idle_is (Active s) h = wrong h

lead_more : (c : Card) (w : List Card) → IsCard c → Each IsCard w → Each (λ d. d.id ≢ c.id) w → Leads w → Leads (c ∷ w)
lead_more c _ i cs d (none w q) = by_front (is_idle c.front) refl
  where
    by_front : (v : Bool) → is_idle c.front ≡ v → Leads (c ∷ w)
    by_front false h = none (c ∷ w) ((i.1, h), q)
    by_front true h = some [] c w (record {
      cards = (i, cs);
      idle = idle_is c.front h;
      first = ((λ x. ahead_same (crowd_bits c.id)), each_map Sleeps (λ x. is_idle x.front ≡ true → ahead (crowd_bits c.id) (crowd_bits x.id) ≡ true) (λ x k y. wrong_back (sym y ∙ k.1)) w q);
      distinct_before = tt;
      distinct_after = d;
    })
lead_more c _ i cs d (some a m b F) = by_front (is_idle c.front) refl (ahead (crowd_bits c.id) (crowd_bits m.id)) refl
  where
    other : c.id ≢ m.id
    other e = each_has (λ x. x.id ≢ c.id) m (a ++ m ∷ b) d (has_middle m a b) (sym e)

    later : (is_idle c.front ≡ true → ahead (crowd_bits m.id) (crowd_bits c.id) ≡ true) → Leads (c ∷ (a ++ m ∷ b))
    later f = some (c ∷ a) m b (record {
      cards = (i, F.cards);
      idle = F.idle;
      first = (f, F.first);
      distinct_before = (other, F.distinct_before);
      distinct_after = F.distinct_after;
    })

    by_front : (v : Bool) → is_idle c.front ≡ v → (u : Bool) → ahead (crowd_bits c.id) (crowd_bits m.id) ≡ u → Leads (c ∷ (a ++ m ∷ b))
    by_front false h u k = later (λ y. wrong (sym h ∙ y))
    by_front true h false k = later (λ y. ahead_else (crowd_bits c.id) (crowd_bits m.id) k)
    by_front true h true k = some [] c (a ++ m ∷ b) (record {
      cards = (i, cs);
      idle = idle_is c.front h;
      first = (
        (λ x. ahead_same (crowd_bits c.id)),
        each_map (λ x. is_idle x.front ≡ true → ahead (crowd_bits m.id) (crowd_bits x.id) ≡ true) (λ x. is_idle x.front ≡ true → ahead (crowd_bits c.id) (crowd_bits x.id) ≡ true)
            (λ x f y. ahead_on (crowd_bits c.id) (crowd_bits m.id) (crowd_bits x.id) k (f y)) (a ++ m ∷ b) F.first,
      );
      distinct_before = tt;
      distinct_after = d;
    })

pub leads : (w : List Card) → Each IsCard w → AreDistinct w → Leads w
leads [] e d = none [] tt
leads (c ∷ w) e d = lead_more c w e.0 e.1 d.0 (leads w e.1 d.1)
