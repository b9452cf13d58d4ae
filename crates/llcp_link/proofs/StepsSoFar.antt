-- The PDUs of an AGF, one after the other.
use Rattle.std.proofs.Common.{◌≡◌, List, [], ◌∷◌, ◌++◌, map, refl, sym, ap, inl, ◌∙◌}
use Rattle.std.proofs.lemmas.List.{append_assoc, map-append}
use Rattle.llcp_pdu.specs.declared.part.Part.{Part}
use Rattle.llcp_pdu.specs.declared.pdu.Pdu.{Pdu}
use Rattle.llcp_pdu.specs.declared.pdu.Pdu.TheVariants.{One}
use Rattle.llcp_link.specs.Serving.{Serving}
use Rattle.llcp_link.specs.State.{LlcState}
use Rattle.llcp_link.specs.Taking.{Item, Good, step, steps, steps_part}
use Rattle.llcp_link.specs.private.Stepping.{stepped}
use Rattle.llcp_link.specs.Halting.{IsSame, Halts}

pub steps_more : {S : Type 0} (m : Serving S) (l : LlcState S) (xs ys : List Item) → steps m l (xs ++ ys) ≡ steps m (steps m l xs) ys
steps_more m l [] ys = refl
steps_more m l (x ∷ xs) ys = steps_more m (step m l x) xs ys

-- some first of the PDUs were taken, and these are left
pub record SoFar {S : Type 0} (m : Serving S) (old : LlcState S) (all left : List Part) (now : LlcState S) : Type 0 where
  pub front : List Part
  pub split : all ≡ front ++ left
  pub steps : steps m old (map Good front) ≡ now

pub goes_on : {S : Type 0} (m : Serving S) (old : LlcState S) (all left ps : List Part) (p : Part) (now next : LlcState S) (pdu : Pdu) → SoFar m old all left now
    → left ≡ p ∷ ps → pdu ≡ One p → next ≡ stepped m now pdu → SoFar m old all ps next
goes_on m old all left ps p now next pdu s e i n = record {
  front = s.front ++ p ∷ [];
  split = s.split ∙ ap (λ xs. s.front ++ xs) e ∙ sym (append_assoc s.front (p ∷ []) ps);
  steps =
      ap (steps m old) (map-append Good s.front (p ∷ [])) ∙ steps_more m old (map Good s.front) (Good p ∷ []) ∙ ap (λ l. steps_part m l p) s.steps
      ∙ sym (n ∙ ap (stepped m now) i);
}

pub same_on : {S : Type 0} (a b c : LlcState S) → IsSame a b → IsSame b c → IsSame a c
same_on a b c h k = record {
  miu = k.miu ∙ h.miu;
  window = k.window ∙ h.window;
  bound = k.bound ∙ h.bound;
  readable = k.readable ∙ h.readable;
  far_miu = k.far_miu ∙ h.far_miu;
  stuck = k.stuck ∙ h.stuck;
}

pub stands_still : {S : Type 0} (m : Serving S) (old : LlcState S) (items : List Item) → Halts m old items old
stands_still m old items = record { front = []; behind = items; split = refl; service = inl refl }
