-- Which frame leaves a store that no new tag has.
use Rattle.std.proofs.Common.{◌≡◌, ℕ, zero, suc, ◌/◌, ◌<◌, List, length, Bool, true, false, nat_le, ◌&&◌, ◌↔◌, refl, sym, ap, subst}
use Rattle.nfc_base.specs.Blocks.{with_block}
use Rattle.nfc_base.specs.Signal.{Signal, whole_f}
use Rattle.t3t_tag.specs.Attributes.{is_summed, message_blocks}
use Rattle.t3t_tag.specs.Store.{T3State, IsT3Store, IsOverlong, block_size, id_size, block_count, attributes, most_message_blocks}
use Rattle.t3t_tag.specs.Step.{T3Turn, t3_turn, t3_after, SpoilsStore}
use Rattle.t3t_tag.proofs.Bytes.{at_most, left_of, right_of, AreBytes, is_at_most, both_of}
use Rattle.t3t_tag.proofs.Stores.{length_with_block, still_blocks, attributes_changed, attributes_kept}
use Rattle.t3t_tag.proofs.Turns.{writes, IsUpdate, on_turn}
use Rattle.t3t_tag.proofs.Steps.{update_writes}

-- whether an attribute block names too many blocks can be told
abbrev overlong_test : ℕ → List ℕ → Bool
overlong_test count block = is_summed block && nat_le (message_blocks block) most_message_blocks && nat_le count (message_blocks block)

told_overlong : (count : ℕ) (block : List ℕ) → overlong_test count block ≡ true → IsOverlong count block
told_overlong count block h =
    let summed : Bool = is_summed block in
    let named : Bool = nat_le (message_blocks block) most_message_blocks in
    let lacking : Bool = nat_le count (message_blocks block) in
    let both : (summed && named) ≡ true = left_of (summed && named) lacking h in
    record {
      summed = left_of summed named both;
      named = at_most (message_blocks block) most_message_blocks (right_of summed named both);
      lacking = at_most count (message_blocks block) (right_of (summed && named) lacking h);
    }

tests_overlong : (count : ℕ) (block : List ℕ) → IsOverlong count block → overlong_test count block ≡ true
tests_overlong count block is =
    both_of (is_summed block && nat_le (message_blocks block) most_message_blocks) (nat_le count (message_blocks block))
    (both_of (is_summed block) (nat_le (message_blocks block) most_message_blocks) is.summed (is_at_most (message_blocks block) most_message_blocks is.named))
    (is_at_most count (message_blocks block) is.lacking)

overlong_of : (count : ℕ) (block : List ℕ) → ((IsOverlong count block → ⊥) → ⊥) → IsOverlong count block
overlong_of count block h = by_value (overlong_test count block) refl
  where
    by_value : (v : Bool) → overlong_test count block ≡ v → IsOverlong count block
    by_value true e = told_overlong count block e
    by_value false e = absurd (h (λ is. absurd (let t : overlong_test count block ≡ true = tests_overlong count block is in cc)))

-- a changed store is one of a new tag where its attribute block isn't overlong
changed_store : (t : T3State) (block : ℕ) (content : List ℕ) → IsT3Store t.store → block < block_count t.store → length content ≡ block_size
    → (IsOverlong (block_count t.store) (attributes (with_block block_size t.store block content)) → ⊥) → IsT3Store (with_block block_size t.store block content)
changed_store t block content is within size fits =
    let long : length (with_block block_size t.store block content) ≡ length t.store = length_with_block t.store block content within size in
    let count : block_count (with_block block_size t.store block content) ≡ block_count t.store = ap (λ n. n / 16) long in
    record {
      blocks = still_blocks t.store (with_block block_size t.store block content) long is.blocks;
      room = λ over. fits (subst (λ n. IsOverlong n (attributes (with_block block_size t.store block content))) count over);
    }

-- an Update after which the store isn't one
ruined : (t : T3State) (f : Signal) → IsT3Store t.store → (block : ℕ) (content : List ℕ) → IsUpdate t f block content
    → (IsT3Store (with_block block_size t.store block content) → ⊥) → SpoilsStore t f
ruined t f is zero content u none = record {
  content = content;
  frame = u.frame;
  size = u.size;
  free = u.free;
  overlong = overlong_of (block_count t.store) content (λ fits. none (changed_store t 0 content is u.within u.size
      (λ over. fits (subst (λ x. IsOverlong (block_count t.store) x) (attributes_changed t.store content u.size) over))));
}
ruined t f is (suc block) content u none =
    absurd (none (changed_store t (suc block) content is u.within u.size
    (λ over. is.room (subst (λ x. IsOverlong (block_count t.store) x) (attributes_kept t.store block content u.within) over))))

ruins : (t : T3State) (f : Signal) → length t.id ≡ id_size → IsT3Store t.store → SpoilsStore t f → IsT3Store (t3_after t f).store → ⊥
ruins t f size is u after =
    let within : 0 < block_count t.store = is.blocks.least in
    let turn : t3_turn t f ≡ writes t 0 u.content = update_writes t size f 0 u.content (record { frame = u.frame; within = within; size = u.size; free = u.free }) in
    let changed : IsT3Store (with_block block_size t.store 0 u.content) = subst (λ (r : T3Turn). IsT3Store r.after.store) turn after in
    let count : block_count (with_block block_size t.store 0 u.content) ≡ block_count t.store = ap (λ n. n / 16) (length_with_block t.store 0 u.content within u.size) in
    changed.room (subst (λ n. IsOverlong n (attributes (with_block block_size t.store 0 u.content))) (sym count)
    (subst (λ x. IsOverlong (block_count t.store) x) (sym (attributes_changed t.store u.content u.size)) u.overlong))

pub store_ruined : (t : T3State) (f : Signal) → length t.id ≡ id_size → AreBytes f.bytes → IsT3Store t.store → (IsT3Store (t3_after t f).store → ⊥) ↔ SpoilsStore t f
store_ruined t f size small is = (
  on_turn t f (λ r. (IsT3Store r.after.store → ⊥) → SpoilsStore t f) small (record {
    none = λ none. absurd (none is);
    polled = λ none. absurd (none is);
    refused_check = λ status h none. absurd (none is);
    content = λ blocks least most there none. absurd (none is);
    refused_update = λ status h none. absurd (none is);
    written = λ block content u none. ruined t f is block content u none;
  }),
  (λ u after. ruins t f size is u after),
)
