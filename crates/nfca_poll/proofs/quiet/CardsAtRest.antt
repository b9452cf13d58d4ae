-- Devices at rest while a resolution goes on: none of them is active, and each request is of NFC-A.
use Rattle.std.proofs.Common.{◌≡◌, ℕ, ◌+◌, List, [], ◌∷◌, ◌++◌, length, map, Bool, true, false, ◌&&◌, if◌then◌else◌, refl, sym, subst}
use Rattle.nfc_base.specs.declared.frame.Tech.TheVariants.{A}
use Rattle.nfca_poll.specs.declared.seeking.Seeking.{Seeking}
use Rattle.nfca_poll.specs.declared.seeking.Seeking.TheVariants as seeks
use Rattle.nfca_poll.specs.Levels.{levels}
use Rattle.nfca_poll.specs.Front.{Front, Off, Idle, Sleep, Ready, Active, is_active}
use Rattle.nfca_poll.specs.Seeking.{seek_of, request_of, levels_of}
use Rattle.nfca_poll.specs.Crowd.{Card, Each, with_front, is_idle, is_rest}
use Rattle.nfca_poll.proofs.quiet.CrowdParts.{IsFirst}
use Rattle.nfca_poll.proofs.quiet.Clashes.{wrong}
use Rattle.nfca_poll.proofs.quiet.Eaches.{each_map}
use Rattle.nfca_poll.proofs.identifiers.Fitting.{card_at, fits}
use Rattle.nfca_poll.proofs.quiet.Choosing.{Seeks, IsCard}

pub rest_inactive : (f : Front) → is_rest f ≡ true → is_active f ≡ false
rest_inactive Off r = refl
rest_inactive Idle r = refl
rest_inactive Sleep r = refl
rest_inactive (Ready k s) r = wrong r
rest_inactive (Active s) r = wrong r

pub at_inactive : (done : List (List ℕ)) (p : List Bool) (c : Card) → is_rest c.front ≡ true → is_active (card_at done p c).front ≡ false
at_inactive done p c r = by_fit (is_idle c.front && fits done p (levels c.id))
  where
    by_fit : (v : Bool) → is_active (if v then with_front c (Ready (length done + 1) false) else c).front ≡ false
    by_fit true = refl
    by_fit false = rest_inactive c.front r

pub each_mapped : (g : Card → Card) (P : Card → Type 0) (cs : List Card) → Each (λ c. P (g c)) cs → Each P (map g cs)
each_mapped g P [] e = tt
each_mapped g P (c ∷ cs) e = (e.0, each_mapped g P cs e.1)

-- nobody is active while the resolution goes on
pub none_active : (a : List Card) (c : Card) (b : List Card) (q : Seeking) (v : List Card) → IsFirst a c b → Seeks a c b (seek_of q) v → Each (λ x. is_active x.front ≡ false) v
none_active a c b (seeks.Calling n) v F k =
    let P : List Card → Type 0 = λ w. Each (λ x. is_active x.front ≡ false) w in
    subst P (sym k) (each_map IsCard (λ x. is_active x.front ≡ false) (λ x i. rest_inactive x.front i.1) (a ++ c ∷ b) F.cards)
none_active a c b (seeks.Asking d known) v F k =
    let P : List Card → Type 0 = λ w. Each (λ x. is_active x.front ≡ false) w in
    subst P (sym k.1) (each_mapped (card_at (levels_of d) k.0) (λ x. is_active x.front ≡ false) (a ++ c ∷ b)
    (each_map IsCard (λ x. is_active (card_at (levels_of d) k.0 x).front ≡ false) (λ x i. at_inactive (levels_of d) k.0 x i.1) (a ++ c ∷ b) F.cards))
none_active a c b (seeks.Selecting d l) v F k =
    let P : List Card → Type 0 = λ w. Each (λ x. is_active x.front ≡ false) w in
    subst P (sym k.0) (each_mapped (card_at (levels_of d) _) (λ x. is_active x.front ≡ false) (a ++ c ∷ b)
    (each_map IsCard (λ x. is_active (card_at (levels_of d) _ x).front ≡ false) (λ x i. at_inactive (levels_of d) _ x i.1) (a ++ c ∷ b) F.cards))

pub request_a : (q : Seeking) → (request_of q).tech ≡ A
request_a (seeks.Calling n) = refl
request_a (seeks.Asking d known) = refl
request_a (seeks.Selecting d l) = refl
