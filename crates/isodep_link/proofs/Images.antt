-- The stores that a Type 4 tag shows while a command is asked of it: the one before it, and then the one after it.
use Rattle.std.proofs.Common.{◌≡◌, ℕ, ◌+◌, inr, List, [], ◌∷◌, ◌++◌, length, true, false, Option, Some, None, refl, sym, ◌∙◌, ap, subst, arith, append_assoc, append-nil}
use Rattle.std.proofs.lemmas.List.{length-append}
use Rattle.std.specs.List.{AllByRecursion}
use Rattle.nfc_base.specs.Signal.{Signal}
use Rattle.nfc_base.specs.StopAndWait.{delivered_of}
use Rattle.air_core.specs.PlainLinks.{Follows}
use Rattle.air_core.specs.laws.Following.{follows_on}
use Rattle.isodep_link.specs.declared.block.Block.{Block}
use Rattle.isodep_link.specs.declared.block.Block.TheVariants.{Info, Ack, Nak, Deselect, Extend}
use Rattle.isodep_link.specs.Commands.{Cut, taken, cut_by, iso_commands}
use Rattle.isodep_link.specs.Exchange.{blocks_of}
use Rattle.isodep_link.proofs.Wire.{blocks_append}
use Rattle.isodep_link.proofs.CardTurns.{Shows}

-- the store after the command, where it was obeyed
abbrev pub after_it : Option (List ℕ) → List ℕ → List (List ℕ)
after_it None s = []
after_it (Some r) s = s ∷ []

all_follow : (z : List ℕ) (xs : List (List ℕ)) → AllByRecursion (λ s. s ≡ z) xs → Follows z xs []
all_follow z [] a = tt
all_follow z (x ∷ xs) a = (a.0, all_follow z xs a.1)

shown_follow : (z : List ℕ) (xs : List (List ℕ)) → Shows z xs → Follows z xs []
shown_follow z [] a = absurd a
shown_follow z (x ∷ xs) a = (a.0, all_follow z xs a.1)

shown_next : (now z : List ℕ) (xs : List (List ℕ)) → Shows z xs → Follows now xs (z ∷ [])
shown_next now z [] a = absurd a
shown_next now z (x ∷ xs) a = inr (a.0, all_follow z xs a.1)

-- what the two stores are, by what was given before a turn and after it
abbrev pub Stores : List ℕ → Option (List ℕ) → List ℕ → Option (List ℕ) → List ℕ → Type 0
Stores now None s None t = t ≡ now
Stores now None s (Some b) t = Unit {0}
Stores now (Some a) s (Some b) t = s ≡ t
Stores now (Some a) s None t = ⊥

-- one turn more
pub images_grow : (now : List ℕ) (xs ys : List (List ℕ)) (g h : Option (List ℕ)) (s t : List ℕ)
    → Follows now xs (after_it g s) → Shows t ys → Stores now g s h t → Follows now (xs ++ ys) (after_it h t)
images_grow now xs ys None None s t p a e = follows_on now xs [] ys [] p (subst (λ (z : List ℕ). Follows z ys []) e (shown_follow t ys a))
images_grow now xs ys None (Some b) s t p a e = follows_on now xs [] ys (t ∷ []) p (shown_next now t ys a)
images_grow now xs ys (Some c) (Some b) s t p a e =
    subst (λ (z : List ℕ). Follows now (xs ++ ys) (z ∷ [])) e
    (follows_on now xs (s ∷ []) ys [] p (subst (λ (z : List ℕ). Follows z ys []) (sym e) (shown_follow t ys a)))
images_grow now xs ys (Some c) None s t p a e = absurd e

-- frames that arrive later bring no fewer commands
taken_grows : (c : Cut) (b : Block) → (zs : List (List ℕ)) × ((taken c b).commands ≡ c.commands ++ zs)
taken_grows c (Info true n x) = ([], sym (append-nil c.commands))
taken_grows c (Info false n x) = ((c.chain ++ x.items) ∷ [], refl)
taken_grows c (Ack n) = ([], sym (append-nil c.commands))
taken_grows c (Nak n) = ([], sym (append-nil c.commands))
taken_grows c Deselect = ([], sym (append-nil c.commands))
taken_grows c (Extend times) = ([], sym (append-nil c.commands))

cut_grows : (c : Cut) (bs : List Block) → (zs : List (List ℕ)) × ((cut_by c bs).commands ≡ c.commands ++ zs)
cut_grows c [] = ([], sym (append-nil c.commands))
cut_grows c (b ∷ bs) =
    let first = taken_grows c b in
    let rest = cut_grows (taken c b) bs in
    (first.0 ++ rest.0, rest.1 ∙ ap (λ (xs : List (List ℕ)). xs ++ rest.0) first.1 ∙ append_assoc c.commands first.0 rest.0)

cut_on : (c : Cut) (xs ys : List Block) → cut_by c (xs ++ ys) ≡ cut_by (cut_by c xs) ys
cut_on c [] ys = refl
cut_on c (x ∷ xs) ys = cut_on (taken c x) xs ys

pub commands_grow : (fs gs : List Signal) → (zs : List (List ℕ)) × (iso_commands (blocks_of (fs ++ gs)) ≡ iso_commands (blocks_of fs) ++ zs)
commands_grow fs gs =
    let z : Cut = record { chain = []; commands = [] } in
    let more = cut_grows (cut_by z (blocks_of fs)) (blocks_of gs) in
    (more.0, ap (λ (bs : List Block). (cut_by z bs).commands) (blocks_append fs gs) ∙ ap (λ (c : Cut). c.commands) (cut_on z (blocks_of fs) (blocks_of gs)) ∙ more.1)

-- what was given stays given
pub given_stays : {A : Type 0} (before : List (List ℕ)) (c : List ℕ) (g h : Option (List ℕ)) (zs : List (List ℕ)) → before ++ delivered_of c h ≡ (before ++ delivered_of c g) ++ zs
    → (r : List ℕ) → g ≡ Some r → h ≡ None → A
given_stays before c g h zs e r p q =
    let one : length (before ++ delivered_of c g) ≡ length before + 1 = ap (λ (x : Option (List ℕ)). length (before ++ delivered_of c x)) p ∙ length-append before (c ∷ []) in
    let none : length (before ++ delivered_of c h) ≡ length before = ap (λ (x : Option (List ℕ)). length (before ++ delivered_of c x)) q ∙ ap length (append-nil before) in
    let all : length (before ++ delivered_of c h) ≡ length (before ++ delivered_of c g) + length zs = ap length e ∙ length-append (before ++ delivered_of c g) zs in
    absurd (omega (arith, one, none, all))
