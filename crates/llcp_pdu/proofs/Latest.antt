-- Of what is said repeatedly, the last counts.
use Rattle.std.proofs.Common.{◌≡◌, List, ◌∷◌, Option, Some, None, refl, sym, ◌∙◌, ap}
use Rattle.llcp_pdu.specs.declared.param.Param.{Param}
use Rattle.llcp_pdu.specs.Params.{later, last_of}

pub later_none : {A : Type 0} (o : Option A) → later o None ≡ o
later_none None = refl
later_none (Some x) = refl

pub later_joins : {A : Type 0} (a b c : Option A) → later a (later b c) ≡ later (later a b) c
later_joins None b c = refl
later_joins (Some x) b c = refl

-- one more parameter is heard, in front of those that are left
pub later_heard : {A : Type 0} (pick : Param → Option A) (all left behind : List Param) (p : Param) (old new : Option A) → later (last_of pick left) old ≡ last_of pick all → left ≡ p ∷ behind
    → new ≡ later (pick p) old
    → later (last_of pick behind) new ≡ last_of pick all
later_heard pick all left behind p old new e i h =
    ap (later (last_of pick behind)) h ∙ later_joins (last_of pick behind) (pick p) old ∙ ap (λ z. later (last_of pick z) old) (sym i) ∙ e
