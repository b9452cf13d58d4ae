-- What is still to come falls by each reply that gives something.
use Rattle.std.proofs.Common.{◌≡◌, ◌<◌, ◌≤◌, ℕ, ◌==◌, ◌&&◌, ◌||◌, ◌+◌, ◌-◌, ◌*◌, not, Bool, true, false, Option, refl, sym, ap, arith, if◌then◌else◌}
use Rattle.std.proofs.lemmas.Bool.Decides.{nat_tests}
use Rattle.llcp_link.specs.State.{OwnState}
use Rattle.llcp_link.specs.declared.standing.Standing.{Standing}
use Rattle.llcp_link.specs.declared.standing.Standing.TheVariants as stands
use Rattle.llcp_link.specs.Asking.{acked_of, is_open_by, standing_of}
use Rattle.llcp_link.specs.Waning.{pending}
use Rattle.llcp_link.proofs.Waning.{Wanes, is_of, acknowledged_falls, answer_falls, pending_wanes}
use Rattle.snep_core.specs.private.Waning.{LessensTo}
use Rattle.snep_core.specs.Talk.{gave_something, idle_after, is_waiting, most_idle}

both : (a b : Bool) → (a && b) ≡ true → (a ≡ true) × (b ≡ true)
both true b e = (refl, e)
both false b e = absurd cc

not_true : (b : Bool) → not b ≡ true → b ≡ false
not_true true e = absurd cc
not_true false e = refl

waits : (s : Standing) → is_waiting s ≡ true → s ≡ stands.Waiting
waits stands.Nothing e = absurd cc
waits stands.Waiting e = refl
waits (stands.Open miu) e = absurd cc
waits stands.Refused e = absurd cc
waits stands.Closed e = absurd cc

rests : (s : Standing) → is_waiting s ≡ false → s ≡ stands.Waiting → ⊥
rests s e i = (let z : is_waiting s ≡ true = ap is_waiting i in absurd cc)

other_count : (m n : ℕ) → (m == n) ≡ false → m ≡ n → ⊥
other_count m n e i = absurd (grind (arith, nat_tests, e, i))

module _ (sap : ℕ) (a b : Option OwnState) (w : Wanes (is_of sap a) (is_of sap b)) (few : acked_of a < 4294967296) where
  gave_falls : gave_something a b ≡ true → pending b < pending a
  gave_falls e = go (is_waiting (standing_of a) && not (is_waiting (standing_of b))) refl e
    where
      rest : (c : Bool) → (is_open_by a && is_open_by b) ≡ c → (if c then not (acked_of b == acked_of a) else false) ≡ true → pending b < pending a
      rest true i k =
          (let o = both (is_open_by a) (is_open_by b) i in
          acknowledged_falls sap a b w o.0 o.1 few (other_count (acked_of b) (acked_of a) (not_true (acked_of b == acked_of a) k)))
      rest false i k = absurd cc

      go : (c : Bool) → (is_waiting (standing_of a) && not (is_waiting (standing_of b))) ≡ c
          → (if c then true else (if is_open_by a && is_open_by b then not (acked_of b == acked_of a) else false)) ≡ true → pending b < pending a
      go true i k =
          (let o = both (is_waiting (standing_of a)) (not (is_waiting (standing_of b))) i in
          answer_falls sap a b w (waits (standing_of a) o.0) (rests (standing_of b) (not_true (is_waiting (standing_of b)) o.1)))
      go false i k = rest (is_open_by a && is_open_by b) refl k

  -- one connection, as a payload is taken
  pub gave_lessens : (gave : Bool) → gave ≡ gave_something a b → LessensTo gave (pending a) (pending b)
  gave_lessens true e = gave_falls (sym e)
  gave_lessens false e = pending_wanes sap a b w

-- each of two leaves less where it gave something
pub both_lessen : (a b : Bool) (x y u v : ℕ) → LessensTo a x y → LessensTo b u v → LessensTo (a || b) (x + u) (y + v)
both_lessen true true x y u v g s = omega arith
both_lessen true false x y u v g s = omega arith
both_lessen false true x y u v g s = omega arith
both_lessen false false x y u v g s = omega arith

-- A call that goes on has fewer replies left.
pub turn_falls : (old between new idle : ℕ) (gave : Bool) → between ≤ old → LessensTo gave between new → idle_after gave idle < most_idle
    → 17 * new + (most_idle - idle_after gave idle) < 17 * old + (most_idle - idle)
turn_falls old between new idle true r g n = omega arith
turn_falls old between new idle false r g n = omega arith
