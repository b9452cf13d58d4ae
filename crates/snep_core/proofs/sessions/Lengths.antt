-- How long the unit is that goes out next.
use Rattle.std.proofs.Common.{◌≡◌, ℕ, suc, ◌==◌, min, Bool, true, false, List, [], ◌∷◌, length, take, if◌then◌else◌, Some, option_map, refl, ◌∙◌, ap, arith}
use Rattle.std.proofs.lemmas.List.{length-take}
use Rattle.snep_core.specs.declared.message.Answer.TheVariants as answers
use Rattle.snep_core.specs.declared.session.Due.{Due}
use Rattle.snep_core.specs.declared.session.Due.TheVariants.{Tells, Forgets}
use Rattle.snep_core.specs.declared.session.Word.{Word}
use Rattle.snep_core.specs.declared.session.Word.TheVariants.{Answers, Offers, Resumes}
use Rattle.snep_core.specs.Message.{header_size, message}
use Rattle.snep_core.specs.Session.{Session, goes, word_len, due_len, sent_word, sent_due, sent_from, sent}

cut_len : (miu : ℕ) (bytes : List ℕ) → length (take miu bytes) ≡ min (length bytes) miu
cut_len miu bytes = length-take miu bytes ∙ omega arith

word_cut : (miu : ℕ) (x : Session) (word : Word) → option_map length (sent_word miu x word).unit ≡ Some (min (word_len (length x.waiting) word) miu)
word_cut miu x (Answers answer) = ap Some (cut_len miu (message answer []))
word_cut miu x (Offers bytes) = ap Some (cut_len miu bytes)
word_cut miu x Resumes = by_waiting (length x.waiting == 0)
  where
    by_waiting : (v : Bool) → option_map length (if v then goes miu x (message answers.BadRequest []) else goes miu (record x { waiting = [] }) x.waiting).unit
        ≡ Some (min (if v then header_size else length x.waiting) miu)
    by_waiting true = ap Some (cut_len miu (message answers.BadRequest []))
    by_waiting false = ap Some (cut_len miu x.waiting)

due_cut : (miu : ℕ) (x : Session) (due : List Due) → option_map length (sent_due miu x due).unit ≡ option_map (λ n. min n miu) (due_len (length x.waiting) due)
due_cut miu x [] = refl
due_cut miu x (Tells word ∷ more) = word_cut miu (record x { due = more }) word
due_cut miu x (Forgets ∷ more) = due_cut miu (record x { waiting = [] }) more

not_none : (n : ℕ) → (suc n == 0) ≡ true → ⊥
not_none n h = grind arith

pub none_going : (miu : ℕ) (x : Session) → (length x.going == 0) ≡ true → option_map length (sent miu x).unit ≡ option_map (λ n. min n miu) (due_len (length x.waiting) x.due)
none_going miu x none = by_going x.going refl none
  where
    by_going : (going : List ℕ) → x.going ≡ going → (length going == 0) ≡ true
        → option_map length (sent miu x).unit ≡ option_map (λ n. min n miu) (due_len (length x.waiting) x.due)
    by_going [] is h = ap (λ t. option_map length (sent_from miu x t).unit) is ∙ due_cut miu x x.due
    by_going (b ∷ bs) is h = absurd (not_none (length bs) h)

pub none_here : (xs : List ℕ) → (length xs == 0) ≡ true → xs ≡ []
none_here [] h = refl
none_here (x ∷ xs) h = absurd (not_none (length xs) h)
