use Rattle.std.proofs.Common.{◌≡◌, ℕ, ◌+◌, ◌++◌, List, [], ◌∷◌, cond, sym, ◌∙◌, ap, map, not, true, false, Bool, refl, arith}
use Rattle.std.specs.Prelude.{◌&&◌, ◌==◌}
use Rattle.std.proofs.lemmas.List.{map_push, append-nil}
use Rattle.tlv_area.specs.Layout.{free}
use Rattle.tlv_area.specs.Map.{in_ranges}
use Rattle.tlv_area.specs.Writing.{blocks_changed, blocks_below, changes, touches, write_of, block_in}
use Rattle.tlv_area.proofs.Blocks.{blocks_more}
use Rattle.tlv_area.proofs.Changing.{changes_not, changes_so}
use Rattle.tlv_area.proofs.planning.fill_steps.Goals as goal
use Rattle.tlv_area.proofs.planning.fill_steps.Goals.{then-is_filled+in-Some+in_ok-push, then-is_filled+in_default, else-is_filled}

both : (a b c d : Bool) → a ≡ c → b ≡ d → (a && b) ≡ (c && d)
both a b c d e f = rw (e, f) refl

pub loop-block-preserved : goal.loop-block-preserved
loop-block-preserved c =
    let test = rw c.as_slice.ensures.value at c.is_filled.ensures in
    let size : ℕ = c.args.size in
    let old : List ℕ = c.args.old.now in
    let new : List ℕ = c.args.new.now in
    let k : ℕ = c.loop-block.block in
    let cells : List ℕ = free (in_ranges c.args.map.now.reserved.items) c.args.from c.args.to in
    let so_far : List ℕ = blocks_changed size cells c.args.home old new k in
    let more = blocks_more size cells c.args.home old new k in
    let seen : ℕ → ℕ × List ℕ = λ j. block_in size new j in
    let stays : ((not (k == c.args.home) && touches size cells k) && changes size old new k) ≡ false →
    blocks_changed size cells c.args.home old new (k + 1) ≡ so_far = λ e.
    more ∙ ap (λ b. so_far ++ cond b (k ∷ []) []) e ∙ append-nil so_far in
    elim c.if-is_filled.branch [
      | then-is_filled+in-Some+in_ok-push w ↦
          (let is = w.in-Some.ensures in
          let items : c.if-is_filled.fill.items ≡ c.loop-block.fill.items ++ w.in-Some.step ∷ [] = ap (λ v. v.items) w.fill-is ∙ (w.in_ok-push.ensures).items in
          let other : changes size old new k ≡ true = changes_so size old new k (λ e. is.1 (w.block_bytes-now.ensures ∙ e ∙ sym w.block_bytes.ensures)) in
          let one : blocks_changed size cells c.args.home old new (k + 1) ≡ so_far ++ k ∷ [] =
          more ∙ ap (λ b. so_far ++ cond b (k ∷ []) []) (both _ _ true true (sym test ∙ w.if-is_filled.true) other) in
          let wrote : write_of w.in-Some.step ≡ block_in size new k = is.0 ∙ ap (λ (c : List ℕ). (k, c)) w.block_bytes.ensures in
          ap (λ ss. map write_of ss) items ∙ map_push write_of c.loop-block.fill.items w.in-Some.step
          ∙ ap (λ ws. ws ++ write_of w.in-Some.step ∷ []) c.loop-block.invariant
          ∙ ap (λ (x : ℕ × List ℕ). map seen so_far ++ x ∷ []) wrote
          ∙ sym (map_push seen so_far k) ∙ ap (λ ks. map seen ks) (sym one))
      | then-is_filled+in_default w ↦
          (let same : changes size old new k ≡ false = changes_not size old new k (sym w.block_bytes-now.ensures ∙ w.in_default.ensures ∙ w.block_bytes.ensures) in
          rw w.fill-is (c.loop-block.invariant ∙ ap (λ ks. map seen ks) (sym (stays (both _ _ true false (sym test ∙ w.if-is_filled.true) same)))))
      | else-is_filled w ↦
          rw w.fill-is (c.loop-block.invariant ∙ ap (λ ks. map seen ks) (sym (stays (ap (λ b. b && changes size old new k) (sym test ∙ w.if-is_filled.false)))))
    ]

pub returns : goal.returns
returns c =
    let reached : c.loop-block.block ≡ blocks_below c.args.size c.args.map.now.space.end =
    omega (arith, c.loop-block-test.false, c.loop-block.auto.block-end) in
    c.loop-block.invariant ∙ ap (λ n. map (λ k. block_in c.args.size c.args.new.now k)
    (blocks_changed c.args.size (free (in_ranges c.args.map.now.reserved.items) c.args.from c.args.to) c.args.home c.args.old.now c.args.new.now n)) reached
