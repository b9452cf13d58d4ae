use Rattle.std.proofs.Common.{◌≡◌, ℕ, zero, suc, ◌/◌, ◌||◌, false, List, [], ◌∷◌, replicate, refl, ◌∙◌, ap}
use Rattle.std.specs.Prelude.{get_or}
use Rattle.nfc_base.specs.TagLinks.{plain_state}
use Rattle.tag_reader.specs.declared.how.How.{How}
use Rattle.tag_reader.specs.declared.how.How.TheVariants.{T2, T4, T5}
use Rattle.tag_writer.specs.Locks.{has_locked}
use Rattle.tag_writer.specs.Puts.{Put}
use Rattle.tag_writer.specs.WriteAsked.{all_puts}
use Rattle.tag_tests.proofs.lock_tests.is_done_as_made.Goals as goal

-- none of many blocks is locked
not_locked : (n i : ℕ) → get_or (replicate n false) i false ≡ false
not_locked zero i = refl
not_locked (suc n) zero = refl
not_locked (suc n) (suc i) = not_locked n i

none_locked : (how : How) (size n : ℕ) (ps : List Put) → has_locked how size (replicate n false) ps ≡ false
none_locked how size n [] = refl
none_locked T2 size n (p ∷ ps) = ap (λ v. v || has_locked T2 size (replicate n false) ps) (not_locked n (p.at / 4)) ∙ none_locked T2 size n ps
none_locked T4 size n (p ∷ ps) = none_locked T4 size n ps
none_locked (T5 id) size n (p ∷ ps) = ap (λ v. v || has_locked (T5 id) size (replicate n false) ps) (not_locked n (p.at / size)) ∙ none_locked (T5 id) size n ps

pub returns-clause-t2 : goal.returns-clause-t2
returns-clause-t2 c store message place is takes =
    c.unlocked_is_done.ensures.done T2 16 (replicate 256 false) _ (plain_state store) message (λ s f st may. refl) (refl, is)
    (record { place = place; takes = takes; free = λ parts are. none_locked T2 16 256 (all_puts parts) })

pub returns-clause-t4 : goal.returns-clause-t4
returns-clause-t4 c code store message place low is takes =
    c.unlocked_is_done.ensures.done T4 0 [] _ (plain_state store) message (code, low, λ s f st may. refl) is
    (record { place = place; takes = takes; free = λ parts are. none_locked T4 0 0 (all_puts parts) })

pub returns-clause-t5 : goal.returns-clause-t5
returns-clause-t5 c id size store message place named is takes =
    c.unlocked_is_done.ensures.done (T5 id) size (replicate 16384 false) _ (plain_state store) message (named, false, λ s f st may. refl) is
    (record { place = place; takes = takes; free = λ parts are. none_locked (T5 id) size 16384 (all_puts parts) })
