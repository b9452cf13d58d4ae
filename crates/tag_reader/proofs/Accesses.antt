-- Writing to a tag is free or it isn't, and an area that is cut where the tag ends says the same.
use Rattle.std.proofs.Common.{◌≡◌, ℕ, List, length, Bool, refl, sym, ◌∙◌, ap, subst}
use Rattle.std.specs.Prelude.{Result, Ok, Err}
use Rattle.tlv_area.specs.declared.space.Space.{Space}
use Rattle.tlv_area.specs.declared.container.ContainerFault.{ContainerFault}
use Rattle.tlv_area.specs.declared.container.FileMap.{FileMap}
use Rattle.tlv_area.specs.Stores.{cut, cut_by}
use Rattle.tag_reader.specs.declared.how.How.{How}
use Rattle.tag_reader.specs.declared.how.How.TheVariants.{T2, T4, T5}
use Rattle.tag_reader.specs.Kinds.{area_of}
use Rattle.tag_reader.specs.Survey.{written_area}
use Rattle.tag_reader.specs.Access.{AccessBy, IsAccess}

same_file : (a b : FileMap) → ◌≡◌ {A = Result FileMap ContainerFault} (Ok a) (Ok b) → a ≡ b
same_file a b e = cc

one_area_access : (r : Result Space ContainerFault) (v w : Bool) → AccessBy r v → AccessBy r w → v ≡ w
one_area_access (Err f) v w p q = absurd p
one_area_access (Ok space) v w p q = p ∙ sym q

pub one_access : (how : How) (size : ℕ) (store : List ℕ) (v w : Bool) → IsAccess how size store v → IsAccess how size store w → v ≡ w
one_access T2 size store v w p q = one_area_access (area_of T2 size store) v w p q
one_access T4 size store v w p q = p.2 ∙ ap (λ (f : FileMap). f.writable) (same_file p.0 q.0 (sym p.1 ∙ q.1)) ∙ sym q.2
one_access (T5 id) size store v w p q = one_area_access (area_of (T5 id) size store) v w p q

cut_access : (r : Result Space ContainerFault) (end : ℕ) (space : Space) → cut_by r end ≡ Ok space → AccessBy r space.writable
cut_access (Err f) end space e = absurd (cc)
cut_access (Ok s) end space e = let same : cut s end ≡ space = cc in sym (ap (λ (x : Space). x.writable) same)

pub written_access : (how : How) (size : ℕ) (store : List ℕ) (space : Space) → written_area how size store ≡ Ok space → IsAccess how size store space.writable
written_access T2 size store space e = subst (λ r. AccessBy r space.writable) (sym e) refl
written_access T4 size store space e = absurd (cc)
written_access (T5 id) size store space e = cut_access (area_of (T5 id) size store) (length store) space e
