-- Tags that are in no round: behind a reset, and behind a question that reaches them.
use Rattle.std.proofs.Common.{◌≡◌, ℕ, List, [], ◌∷◌, map, replicate, Bool, None, refl, sym, ◌∙◌, ap, subst}
use Rattle.nfc_base.specs.declared.frame.Tech.{Tech}
use Rattle.nfc_base.specs.declared.frame.Tech.TheVariants.{A, V, F}
use Rattle.nfc_base.specs.Signal.{Signal}
use Rattle.air_core.specs.World.{Machine, stepped_by}
use Rattle.nfca_poll.specs.Muted.{muted}
use Rattle.t5t_tag.specs.declared.command.T5Command.TheVariants.{Inventory}
use Rattle.t5t_tag.specs.Spelling.{command_frame}
use Rattle.t5t_tag.specs.Store.{T5State, id_size}
use Rattle.nfcv_poll.specs.declared.mask.Mask.{Mask}
use Rattle.nfcv_poll.specs.Tags.{StepAsTags}
use Rattle.nfcv_poll.proofs.Clashing.{AreWith, IsWith}
use Rattle.nfcv_poll.proofs.Paths.{mask_by}
use Rattle.nfcv_poll.proofs.Standing.{IsPlaced, ArePlaced, relit, stepped_tag, stepped_other}
use Rattle.nfcv_poll.proofs.Together.{InRound, ends_together}

-- the question who is left
abbrev pub question_frame : Signal
question_frame = command_frame (Inventory 0 (replicate id_size 0))

module _ {L : Type 0} (m : Machine L) (tag : L → T5State) (lit : L → Bool) (are : StepAsTags m tag lit) (ids : List (List ℕ)) where
  -- no tag is in a round
  in_none : (n : Mask) (current : ℕ) (t : T5State) → t.round ≡ None → InRound n current t t.round
  in_none n current t e = subst (InRound n current t) (sym e) tt

  -- behind a reset
  pub none_lit : (ls : List L) → AreWith m tag lit are ids (mask_by []) 0 (map (relit m tag lit are ids) ls)
  none_lit [] = tt
  none_lit (l ∷ ls) = ((λ e. one (sym (are.woken_tech l) ∙ e)), none_lit ls)
    where
      one : m.tech l ≡ V → IsWith m tag lit are ids (mask_by []) 0 (relit m tag lit are ids l)
      one e =
          let w = are.woken l e in
          record { lit' = w.0; at = in_none (mask_by []) 0 (tag (relit m tag lit are ids l)) (ap (λ (t : T5State). t.round) w.1) }

  -- behind a question that reaches the tags
  abbrev next : L → L
  next l = stepped_by (muted m) l question_frame None

  pub none_asked : (found : List (List ℕ)) (ls : List L) → ArePlaced m tag lit are ids found ls → AreWith m tag lit are ids (mask_by []) 0 (map next ls)
  none_asked found [] h = tt
  none_asked found (l ∷ ls) h = (one (m.tech l) refl, none_asked found ls h.1)
    where
      on : IsPlaced m tag lit are ids found l → m.tech l ≡ V → IsWith m tag lit are ids (mask_by []) 0 (m.after l question_frame None)
      on p e =
          let g = are.goes l question_frame e p.lit' in
          let out : (tag (m.after l question_frame None)).round ≡ None = ap (λ (t : T5State). t.round) g.1 ∙ ends_together (tag l) (replicate id_size 0) in
          record { lit' = g.0; at = in_none (mask_by []) 0 (tag (m.after l question_frame None)) out }

      one : (t : Tech) → m.tech l ≡ t → m.tech (next l) ≡ V → IsWith m tag lit are ids (mask_by []) 0 (next l)
      one A e v = absurd (let no_ : A ≡ V = sym e ∙ ap m.tech (sym (stepped_other m tag lit are ids question_frame refl l A refl e)) ∙ v in cc)
      one F e v = absurd (let no_ : F ≡ V = sym e ∙ ap m.tech (sym (stepped_other m tag lit are ids question_frame refl l F refl e)) ∙ v in cc)
      one V e v = subst (IsWith m tag lit are ids (mask_by []) 0) (sym (stepped_tag m tag lit are ids question_frame refl l e)) (on (h.0 e) e)
