-- What was asked over a link, by what the link tells: what was answered, and the command that the link ended with.
use Rattle.std.proofs.Common.{◌≡◌, inl, inr, ◌⊎◌, ℕ, suc, ◌+◌, List, [], ◌∷◌, ◌++◌, Some, None, refl, sym, ◌∙◌, ap, subst, arith, append-nil}
use Rattle.std.specs.Prelude.{Option}
use Rattle.nfc_base.specs.declared.tag_link.AskFault.{AskFault}
use Rattle.nfc_base.specs.Signal.{Signal}
use Rattle.nfc_base.specs.TagLinks.{LinkView}
use Rattle.air_core.specs.PlainLinks.{unanswered}
use Rattle.tag_reader.specs.declared.how.How.{How}
use Rattle.tag_reader.specs.Kinds.{command, first}
use Rattle.tag_reader.specs.Asked.{Aim, IsDueFor, AreDueFor, IsAskedFor}
use Rattle.tag_reader.specs.Calls.{HasAskedFor, last_of}
use Rattle.tag_reader.proofs.Knowing.{due_more_for}
use Rattle.tag_reader.proofs.Lists.{asked_front_for}

-- What was asked, where each of the first so many commands is asked: these.
pub record AskedSome (aim : Aim) (how : How) (size : ℕ) (store : List ℕ) (asked : List Signal) : Type 0 where
  pub count : ℕ
  pub list : asked ≡ first how size store count
  pub each : AreDueFor aim how size store count

-- they are a front of the whole list
pub left_of : (aim : Aim) (how : How) (size : ℕ) (store : List ℕ) (asked xs : List Signal) → AskedSome aim how size store asked → IsAskedFor aim how size store xs
    → (rest : List Signal) × (xs ≡ asked ++ rest)
left_of aim how size store asked xs some all =
    let front = asked_front_for aim how size store some.count xs some.each all in
    (front.0, front.1 ∙ ap (λ ys. ys ++ front.0) (sym some.list))

-- Nothing was answered before, and the link wasn't over.
module _ (from to : LinkView) (asked : List Signal) (none : from.answered ≡ []) (begun : from.over ≡ None) (told : to.answered ++ unanswered to.over to.last ≡ asked) where
  -- where the link isn't over, what was asked was answered
  pub asked_whole : (cs : List Signal) → to.answered ≡ from.answered ++ cs → to.over ≡ None → asked ≡ cs
  asked_whole cs answered open' =
      sym told ∙ ap (λ o. to.answered ++ unanswered o to.last) open' ∙ append-nil to.answered ∙ answered ∙ ap (λ xs. xs ++ cs) none

  -- with the one that the link ended with
  asked_over : (cs : List Signal) (c : Signal) (e : AskFault) → to.answered ≡ from.answered ++ cs → to.last ≡ Some c → to.over ≡ Some e → asked ≡ cs ++ c ∷ []
  asked_over cs c e answered last over =
      sym told ∙ ap (λ o. to.answered ++ unanswered o to.last) over ∙ ap (λ o. to.answered ++ unanswered (Some e) o) last
      ∙ ap (λ xs. xs ++ c ∷ []) (answered ∙ ap (λ xs. xs ++ cs) none)

  -- What was asked is what was answered; or, where the link is over, the last of it is a command of which this is known.
  pub asked_front : (P : Signal → Type 0) (cs : List Signal) → to.answered ≡ from.answered ++ cs → (to.over ≡ from.over) ⊎ ((c : Signal) × (to.last ≡ Some c) × P c)
      → (asked ≡ cs) ⊎ ((c : Signal) × P c × (asked ≡ cs ++ c ∷ []))
  asked_front P cs answered last = by_over to.over refl
    where
      by_last : (e : AskFault) → to.over ≡ Some e → (to.over ≡ from.over) ⊎ ((c : Signal) × (to.last ≡ Some c) × P c) → (asked ≡ cs) ⊎ ((c : Signal) × P c × (asked ≡ cs ++ c ∷ []))
      by_last e over (inl same) = absurd (let clash : None ≡ Some e = sym begun ∙ sym same ∙ over in cc)
      by_last e over (inr next) = inr (next.0, next.2, asked_over cs next.0 e answered next.1 over)

      by_over : (o : Option AskFault) → to.over ≡ o → (asked ≡ cs) ⊎ ((c : Signal) × P c × (asked ≡ cs ++ c ∷ []))
      by_over None open' = inl (asked_whole cs answered open')
      by_over (Some e) over = by_last e over last

  -- What was asked of a tag with this store, by a reader or a writer that reads first.
  module _ (aim : Aim) (how : How) (size : ℕ) (store : List ℕ) where
    abbrev IsNextIn : ℕ → Signal → Type 0
    IsNextIn n c = (c ≡ command how size store n) × IsDueFor aim how size store n

    pub asked_some : HasAskedFor aim how size store from to → AskedSome aim how size store asked
    asked_some h = by_front (asked_front (IsNextIn h.count) (first how size store h.count) h.answered (by_last h.last))
      where
        by_last : ((to.last ≡ last_of how size store from h.count) × (to.over ≡ from.over)) ⊎ ((to.last ≡ Some (command how size store h.count)) × IsDueFor aim how size store h.count)
            → (to.over ≡ from.over) ⊎ ((c : Signal) × (to.last ≡ Some c) × IsNextIn h.count c)
        by_last (inl (last, open')) = inl open'
        by_last (inr (last, due)) = inr (command how size store h.count, last, (refl, due))

        by_front : (asked ≡ first how size store h.count) ⊎ ((c : Signal) × IsNextIn h.count c × (asked ≡ first how size store h.count ++ c ∷ [])) → AskedSome aim how size store asked
        by_front (inl same) = record { count = h.count; list = same; each = h.each }
        by_front (inr (c, next, same)) =
            let one : h.count + 1 ≡ suc h.count = omega arith in
            record {
              count = suc h.count;
              list = same ∙ ap (λ d. first how size store h.count ++ d ∷ []) next.0;
              each = subst (AreDueFor aim how size store) one (due_more_for aim how size store h.count h.each next.1);
            }
