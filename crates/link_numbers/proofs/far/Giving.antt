-- How a reply of which only a front comes begins: a target that is given another reply of that front answers the same.
use Rattle.std.proofs.Common.{◌≡◌, ℕ, ◌<◌, ◌≤◌, nat_lt, Bool, true, false, List, [], ◌++◌, length, take, drop, Option, Some, None, refl, sym, ap, ◌∙◌, subst, arith, length-append}
use Rattle.std.proofs.Math.Seq.{drop-append_seam}
use Rattle.std.proofs.lemmas.Bool.{ltb-true}
use Rattle.std.proofs.lemmas.Bool.Decides.{nat_tests}
use Rattle.std.proofs.lemmas.List.{take-append-drop, length-take-le, append_cancel_right}
use Rattle.arrayvec.specs.ArrayVec.{ArrayVec}
use Rattle.nfc_base.specs.Signal.{Signal}
use Rattle.dep_pdu.specs.declared.frame.DepFrame.{DepFrame}
use Rattle.dep_link.specs.declared.target.TargetStep.{TargetStep}
use Rattle.dep_link.specs.declared.target.TargetStep.TheVariants as steps
use Rattle.dep_link.specs.Exchange.{before_frames}
use Rattle.dep_link.specs.Frames.{air_frame, spelled}
use Rattle.dep_link.specs.Initiator.{InitState}
use Rattle.dep_link.specs.Payloads.{Cut}
use Rattle.dep_link.specs.Replies.{cut_up}
use Rattle.dep_link.specs.Sizes.{limit}
use Rattle.dep_link.specs.Target.{TargetState, TargetTurn, replied, reply_frame, target_table}
use Rattle.link_numbers.proofs.far.Spoken.{Speaks, none_said, some_said, all_said, Kind, attends, repeats, chains, hands, draws, asks_again, has_time, move_of}
use Rattle.link_numbers.proofs.far.Moving.{turn_at, range_at}
use Rattle.link_numbers.proofs.far.Paired.{Paired, Answering, Passed, passed}
use Rattle.link_numbers.proofs.far.Growing.{chain_grows}
use Rattle.link_numbers.proofs.far.SameSo.{Alike, same_asking, same_first}
use Rattle.link_numbers.proofs.far.Begun.{Begun, cut_up_then, said_left, not_all}

-- the most content of a frame stays
move_most : (t : TargetState) (k : Kind) → (move_of t k).state.most ≡ t.most
move_most t attends = refl
move_most t (repeats v) = refl
move_most t (chains xs) = refl
move_most t (hands xs) = refl
move_most t draws = refl
move_most t asks_again = refl
move_most t has_time = refl

some_most : (i : InitState) (f : Signal) (t : TargetState) (U : Cut) (past : List (List ℕ)) (g : Option (List ℕ)) → Paired i f t U past g → 0 < (target_table t f).state.most
some_most i f t U past g p =
    let turn = turn_at p.most p.busy p.out i t g f p.ahead p.ask in
    let range = range_at p.most p.busy p.out i t g f p.ahead p.ask in
    let same : (target_table t f).state.most ≡ t.most = ap (λ (y : TargetTurn). y.state.most) turn.2 ∙ move_most t turn.0 in
    subst (λ (k : ℕ). 0 < k) (sym same) range.some

-- no chain while time is due
no_chain : (t : TargetState) (r : List ℕ) (past : List (List ℕ)) (W : Cut) → 0 < t.due → Speaks t r past W → W.chain ≡ []
no_chain t r past W d (none_said due unsent left is) = ap (λ (c : Cut). c.chain) is
no_chain t r past W d (some_said due unsent xs whole size rest is) = absurd (omega (arith, d, due))
no_chain t r past W d (all_said due unsent left is) = absurd (omega (arith, d, due))

busy_none : (n : ℕ) → nat_lt 0 n ≡ false → n ≡ 0
busy_none n e = grind (arith, nat_tests)

-- the target t was given the reply r, W is the cut with its first answer
module _ (t : TargetState) (r s : List ℕ) (past : List (List ℕ)) (W : Cut) (vs : List DepFrame) (xs ys zs : List ℕ) (some : 0 < t.most) (said : Speaks (replied t r) r past W)
    (none_whole : length (cut_up W vs).payloads ≡ length past) (chain : (cut_up W vs).chain ≡ xs) (all : r ≡ xs ++ ys) (other : s ≡ xs ++ zs)
    (more : 0 < length xs → 0 < length ys) (more_other : 0 < length xs → 0 < length zs) where
  abbrev Goal : Type 0
  Goal = (reply_frame t r ≡ reply_frame t s) × Begun vs (replied t r) (replied t s) W past

  -- as it is with those replies
  as_cut : (reply_frame t (xs ++ ys) ≡ reply_frame t (xs ++ zs)) → (ws : List ℕ) → (cut_up W vs).chain ≡ W.chain ++ ws → Alike ws (replied t (xs ++ ys)) (replied t (xs ++ zs)) → Goal
  as_cut e ws ahead a = (
    ap (reply_frame t) all ∙ e ∙ ap (reply_frame t) (sym other),
    record {
      none_whole = none_whole;
      xs = ws;
      ahead = ahead;
      alike = subst (λ bs. Alike ws (replied t bs) (replied t s)) (sym all) (subst (λ bs. Alike ws (replied t (xs ++ ys)) (replied t bs)) (sym other) a);
    },
  )

  asked : 0 < t.busy → (replied t r).due ≡ t.busy → Goal
  asked b e =
      let w = same_asking t xs ys zs more more_other some b in
      let empty : W.chain ≡ [] = no_chain (replied t r) r past W (subst (λ (n : ℕ). 0 < n) (sym e) b) said in
      as_cut w.0 xs (chain ∙ ap (λ bs. bs ++ xs) (sym empty)) w.1

  first : t.busy ≡ 0 → (replied t r).left ≡ drop t.most r → (replied t r).unsent ≡ nat_lt t.most (length r) → Goal
  first b l n =
      let unsent : (replied t r).unsent ≡ true = not_all (replied t r) r past W vs said none_whole in
      let now = said_left (replied t r) r past W said unsent in
      let longer : t.most < length r = ltb-true t.most (length r) (sym n ∙ unsent) in
      let size : length (take t.most r) ≡ t.most = length-take-le t.most r (omega (arith, longer)) in
      let halves : take t.most r ++ drop t.most r ≡ W.chain ++ drop t.most r = take-append-drop t.most r ∙ now.0 ∙ ap (λ bs. W.chain ++ bs) l in
      let front : take t.most r ≡ W.chain = append_cancel_right (take t.most r) W.chain (drop t.most r) halves in
      let ws = chain_grows W vs (none_whole ∙ ap length (sym now.1)) in
      let bytes : xs ≡ take t.most r ++ ws.0 = sym chain ∙ ws.1 ∙ ap (λ bs. bs ++ ws.0) (sym front) in
      let long = ap length bytes in
      let sum = length-append (take t.most r) ws.0 in
      let fits : t.most ≤ length xs = omega (arith, long, sum, size) in
      let there : 0 < length xs = omega (arith, fits, some) in
      let w = same_first t xs ys zs (more there) (more_other there) some b fits in
      let rest : drop t.most xs ≡ ws.0 = ap (drop t.most) bytes ∙ ap (λ k. drop k (take t.most r ++ ws.0)) (sym size) ∙ drop-append_seam (take t.most r) ws.0 in
      as_cut w.0 ws.0 ws.1 (subst (λ bs. Alike bs (replied t (xs ++ ys)) (replied t (xs ++ zs))) rest w.1)

  given_so : Goal
  given_so = go (nat_lt 0 t.busy) refl
    where
      go : (b : Bool) → nat_lt 0 t.busy ≡ b → Goal
      go true b = asked (ltb-true 0 t.busy b) (rw b refl)
      go false b = first (busy_none t.busy b) (rw b refl) (rw b refl)

module _ (i : InitState) (f : Signal) (t : TargetState) (U : Cut) (past : List (List ℕ)) (p : Paired i f t U past None) (payload : ArrayVec ℕ)
    (does : (target_table t f).does ≡ steps.Deliver payload) (r s : List ℕ) (fits : length r ≤ limit) (vs : List DepFrame) where
  abbrev t1 : TargetState
  t1 = (target_table t f).state

  -- the frame that the target answers
  abbrev said : Option DepFrame
  said = spelled (air_frame (reply_frame t1 r))

  -- The payload is handed over, and of the reply r a front xs comes. A target that is given another reply s of that front does the same.
  pub begun_given : length (cut_up U (before_frames said vs)).payloads ≡ length past → (xs ys zs : List ℕ) → (cut_up U (before_frames said vs)).chain ≡ xs
      → r ≡ xs ++ ys → s ≡ xs ++ zs → (0 < length xs → 0 < length ys) → (0 < length xs → 0 < length zs)
      → (reply_frame t1 r ≡ reply_frame t1 s) × Begun vs (replied t1 r) (replied t1 s) (cut_up U (before_frames said [])) past
  begun_given none xs ys zs chain all other more more_other =
      let W : Cut = cut_up U (before_frames said []) in
      let then : cut_up U (before_frames said vs) ≡ cut_up W vs = cut_up_then U said vs in
      let a : Answering i (air_frame (reply_frame t1 r)) (replied t1 r) W past (Some r) = (subst (λ (d : TargetStep). Passed i t1 U past None d) does (passed i f t U past None p)).1 r fits in
      given_so t1 r s past W vs xs ys zs (some_most i f t U past None p) a.said (ap (λ (c : Cut). length c.payloads) (sym then) ∙ none) (ap (λ (c : Cut). c.chain) (sym then) ∙ chain)
      all other more more_other
