-- Payloads that are carried over any link, and one more.
use Rattle.std.proofs.Common.{◌≡◌, inl, inr, ℕ, List, [], ◌∷◌, ◌++◌, None, refl, sym, ◌∙◌, subst}
use Rattle.nfc_base.specs.Links.{AskedBy, BySwaps, CarrierView, FarMoved, FarStep, Stepped, Stopped, SwapDone, SwapFailed, Swapped}
use Rattle.nfc_base.specs.declared.carrier.LinkEnd.{LinkEnd}
use Rattle.nfc_base.specs.declared.carrier.EndCause.TheVariants.{Memory}
use Rattle.link_calls.specs.Walk.{Course, Giver, Underway, Through}
use Rattle.link_calls.specs.private.Walking.{ToldSo, Walks, WalkBreaks}

module _ {W E : Type 0} (g : Giver W E) {C A : Type 0} (seen : C → CarrierView) (swaps : C → List ℕ → List FarStep → C → Type 0)
    (steps : A → List ℕ → List ℕ → A → Type 0) (stops : A → List ℕ → A → Type 0) where
  told_then : (did : List FarStep) (from : Course W E) (w : W) (reply : List ℕ) → ToldSo g from did (Underway w) → ToldSo g from (did ++ Stepped (g.gives w) reply ∷ []) (g.told w reply)
  told_then [] from w reply e = subst (λ z. ToldSo g z (Stepped (g.gives w) reply ∷ []) (g.told w reply)) e (refl, refl)
  told_then (d ∷ did) (Through q) w reply told = absurd told
  told_then (Stopped out ∷ did) (Underway v) w reply told = absurd told
  told_then (Stepped out back ∷ did) (Underway v) w reply (o, told) = (o, told_then did (g.told v back) w reply told)

  swaps_then : (did : List FarStep) (a m b : C) (out reply : List ℕ) → BySwaps swaps did a m → swaps m out (Stepped out reply ∷ []) b → BySwaps swaps (did ++ Stepped out reply ∷ []) a b
  swaps_then [] a m b out reply e one = (b, subst (λ z. swaps z out (Stepped out reply ∷ []) b) e one, refl)
  swaps_then (d ∷ did) a m b out reply (mid, first, by) one = (mid, first, swaps_then did mid m b out reply by one)

  moved_then : (did : List FarStep) (from to : Course W E) (x y z : A) (out reply : List ℕ) → ToldSo g from did to → FarMoved steps stops did x y → FarMoved steps stops (Stepped out reply ∷ []) y z
      → FarMoved steps stops (did ++ Stepped out reply ∷ []) x z
  moved_then [] from to x y z out reply told e one = subst (λ u. FarMoved steps stops (Stepped out reply ∷ []) u z) e one
  moved_then (d ∷ did) (Through q) to x y z out reply told moved one = absurd told
  moved_then (Stopped payload ∷ did) (Underway v) to x y z out reply told moved one = absurd told
  moved_then (Stepped payload back ∷ did) (Underway v) to x y z out reply (o, told) (half, step, moved) one =
      (half, step, moved_then did (g.told v back) to half y z out reply told moved one)

  abbrev Went : Course W E → C → A → Course W E → C → A → Type 0
  Went from a x to b y = Walks g seen swaps steps stops from a x to b y

  pub walk_begins : (from : Course W E) (a : C) (x : A) → Went from a x from a x
  walk_begins from a x = record { did = []; told = refl; over = refl; swapped = refl; far_moved = refl }

  pub walk_then : (from : Course W E) (w : W) (reply : List ℕ) (a m b : C) (x y z : A) → (seen a).over ≡ None → Went from a x (Underway w) m y
      → SwapDone steps (seen m) (seen b) (g.gives w) reply y z → Swapped swaps steps stops m (g.gives w) y b z (λ did. did ≡ Stepped (g.gives w) reply ∷ [])
      → Went from a x (g.told w reply) b z
  walk_then from w reply a m b x y z open_ walk done one =
      let X : List FarStep → Type 0 = λ d. swaps m (g.gives w) d b in
      let M : List FarStep → Type 0 = λ d. FarMoved steps stops d y z in
      record {
        did = walk.did ++ Stepped (g.gives w) reply ∷ [];
        told = told_then walk.did from w reply walk.told;
        over = done.stays ∙ sym open_;
        swapped = swaps_then walk.did a m b (g.gives w) reply walk.swapped (subst X one.tells one.link);
        far_moved = moved_then walk.did from (Underway w) x y z (g.gives w) reply walk.told walk.far_moved (subst M one.tells one.far_moved);
      }

  pub walk_fails : (from : Course W E) (w : W) (end : LinkEnd) (a m b : C) (x y z : A) → Went from a x (Underway w) m y
      → SwapFailed steps stops (seen m) (seen b) (g.gives w) end y z → Swapped swaps steps stops m (g.gives w) y b z (AskedBy end.answered end.cause (g.gives w))
      → WalkBreaks g seen swaps steps stops from a x end.cause b z
  walk_fails from w end a m b x y z walk failed one =
      record { at = w; mid = m; mid_far = y; walks = walk; cut = inr (inl (record { answered = end.answered; over = failed.over; noise = failed.swaps.noise; swapped = one })) }

  pub walk_unread : (from : Course W E) (w : W) (reply : List ℕ) (a m b : C) (x y z : A) → Went from a x (Underway w) m y
      → SwapDone steps (seen m) (seen b) (g.gives w) reply y z → Swapped swaps steps stops m (g.gives w) y b z (λ did. did ≡ Stepped (g.gives w) reply ∷ [])
      → WalkBreaks g seen swaps steps stops from a x Memory b z
  walk_unread from w reply a m b x y z walk done one =
      record { at = w; mid = m; mid_far = y; walks = walk; cut = inr (inr (record { fault = refl; reply = reply; stays = done.stays; swapped = one })) }
