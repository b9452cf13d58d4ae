-- Questions which devices are there, and inventory of NFC-V devices, try by try.
use Rattle.std.proofs.Common.{◌≡◌, ℕ, ◌<◌, ◌≤◌, List, [], ◌∷◌, length, get_or, reverse, Bool, true, false, nat_lt, if◌then◌else◌, Some, None, Ok, Err, refl, sym, ◌∙◌, ap, arith}
use Rattle.nfc_base.specs.Signal.{Signal}
use Rattle.nfc_base.specs.declared.event.Heard.TheVariants.{Whole}
use Rattle.air_core.specs.Conversation.{Asks, Over}
use Rattle.nfca_poll.specs.declared.fault.PollFault.TheVariants as faults
use Rattle.nfca_poll.specs.Inventory.{Tries, Told, tries, Presence, presence_step, presence_ended, asks_for, is_present, pick_step, pick_ended}

-- a list of eight, turned
pub turned_eight : (id : List ℕ) → length id ≡ 8
    → (get_or id 7 0 ∷ get_or id 6 0 ∷ get_or id 5 0 ∷ get_or id 4 0 ∷ get_or id 3 0 ∷ get_or id 2 0 ∷ get_or id 1 0 ∷ get_or id 0 0 ∷ []) ≡ reverse id
turned_eight [] h = absurd (omega (arith, h))
turned_eight (a ∷ []) h = absurd (omega (arith, h))
turned_eight (a ∷ b ∷ []) h = absurd (omega (arith, h))
turned_eight (a ∷ b ∷ c ∷ []) h = absurd (omega (arith, h))
turned_eight (a ∷ b ∷ c ∷ d ∷ []) h = absurd (omega (arith, h))
turned_eight (a ∷ b ∷ c ∷ d ∷ e ∷ []) h = absurd (omega (arith, h))
turned_eight (a ∷ b ∷ c ∷ d ∷ e ∷ f ∷ []) h = absurd (omega (arith, h))
turned_eight (a ∷ b ∷ c ∷ d ∷ e ∷ f ∷ g ∷ []) h = absurd (omega (arith, h))
turned_eight (a ∷ b ∷ c ∷ d ∷ e ∷ f ∷ g ∷ i ∷ []) h = refl
turned_eight (a ∷ b ∷ c ∷ d ∷ e ∷ f ∷ g ∷ i ∷ j ∷ id) h = absurd (omega (arith, h))

less : (n : ℕ) → n < 4 → nat_lt n tries ≡ true
less n h = grind arith

not_less : (n : ℕ) → 4 ≤ n → nat_lt n tries ≡ false
not_less n h = grind arith

pub asks_again : (X : Type 0) (f g : Signal) (n : ℕ) (damaged : Bool) → n < 4 → g ≡ f → asks_for {X = X} f (Tries n damaged) ≡ Asks g
asks_again X f g n damaged h e = ap (λ v. if v then Asks f else Over) (less n h) ∙ ap Asks (sym e)

-- a question which devices are there
module _ {X : Type 0} (p : Presence X) where
  pub one_again : (n : ℕ) (damaged : Bool) → n < 4 → presence_ended p (Tries n damaged) ≡ None
  one_again n damaged h = ap (λ v. if v then None else Some (if damaged then Err faults.Disturbed else Ok p.nobody)) (less n h)

  pub one_over : (n : ℕ) (damaged : Bool) → 4 ≤ n → presence_ended p (Tries n damaged) ≡ Some (if damaged then Err faults.Disturbed else Ok p.nobody)
  one_over n damaged h = ap (λ v. if v then None else Some (if damaged then Err faults.Disturbed else Ok p.nobody)) (not_less n h)

  -- a whole answer
  pub one_present : (n : ℕ) (damaged : Bool) (g : Signal) (x : X) → p.shows g ≡ true → x ≡ p.one g → presence_ended p (presence_step p (Tries n damaged) (Whole g)) ≡ Some (Ok x)
  one_present n damaged g x h e = ap (λ v. presence_ended p (if v then Told (Ok (p.one g)) else Told (Err faults.BadAnswer))) h ∙ ap (λ i. Some (Ok i)) (sym e)

  pub one_strange : (n : ℕ) (damaged : Bool) (g : Signal) → p.shows g ≡ false → presence_ended p (presence_step p (Tries n damaged) (Whole g)) ≡ Some (Err faults.BadAnswer)
  one_strange n damaged g h = ap (λ v. presence_ended p (if v then Told (Ok (p.one g)) else Told (Err faults.BadAnswer))) h

pub pick_again : (n : ℕ) (damaged : Bool) → n < 4 → pick_ended (Tries n damaged) ≡ None
pick_again n damaged h = ap (λ v. if v then None else Some (Err faults.NotFound)) (less n h)

pub pick_over : (n : ℕ) (damaged : Bool) → 4 ≤ n → pick_ended (Tries n damaged) ≡ Some (Err faults.NotFound)
pick_over n damaged h = ap (λ v. if v then None else Some (Err faults.NotFound)) (not_less n h)

pub pick_present : (n : ℕ) (damaged : Bool) (g : Signal) → is_present g ≡ true → pick_ended (pick_step (Tries n damaged) (Whole g)) ≡ Some (Ok tt)
pick_present n damaged g h = ap (λ v. pick_ended (if v then Told (Ok tt) else Told (Err faults.BadAnswer))) h

pub pick_strange : (n : ℕ) (damaged : Bool) (g : Signal) → is_present g ≡ false → pick_ended (pick_step (Tries n damaged) (Whole g)) ≡ Some (Err faults.BadAnswer)
pick_strange n damaged g h = ap (λ v. pick_ended (if v then Told (Ok tt) else Told (Err faults.BadAnswer))) h

pub not_true : (v : Bool) → (v ≡ true → ⊥) → v ≡ false
not_true true h = absurd (h refl)
not_true false h = refl
