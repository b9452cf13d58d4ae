-- Units that are submitted one after another.
use Rattle.std.proofs.Common.{◌≡◌, ◌<◌, ◌≤◌, ℕ, zero, suc, Bool, true, false, List, [], ◌∷◌, length, take, drop, Option, Some, None, refl, sym, ap, subst, ◌∙◌, arith, if◌then◌else◌, length-drop}
use Rattle.llcp_link.proofs.Ranged.{either}
use Rattle.llcp_link.specs.Asking.{standing_of}
use Rattle.llcp_link.specs.State.{own_from}
use Rattle.snep_core.specs.Jobs.{Job, Begins, Waits, Sends, Asks, Collects, Looks, Closes, Over}
use Rattle.snep_core.specs.Listening.{Offered}
use Rattle.snep_core.specs.Talk.{EndState, Ready, behind_first, begins_on, continue_bytes, miu_of, readied, ready_so, sends_on, sends_some, submits, takes_more}
use Rattle.snep_core.specs.private.Waning.{Aim, Serves, aim_by}

none_there : (xs : List ℕ) → length xs ≤ 0 → xs ≡ []
none_there [] e = refl
none_there (x ∷ xs) e = absurd (omega arith)

shorter : (miu : ℕ) (b : ℕ) (bs : List ℕ) (n : ℕ) → 0 < miu → length (b ∷ bs) ≤ suc n → length (drop miu (b ∷ bs)) ≤ n
shorter miu b bs n i k = let z = length-drop miu (b ∷ bs) in omega arith

module _ (miu sap : ℕ) (most : Option ℕ) (low : 0 < miu) where
  abbrev sent : ℕ → EndState → List ℕ → Ready
  sent n l rest = sends_some n miu l sap most rest

  -- nothing is left
  ends : (n : ℕ) (l : EndState) (rest : List ℕ) → rest ≡ [] → sent n l rest ≡ ready_so l (Sends most rest)
  ends zero l rest e = refl
  ends (suc n) l [] e = refl
  ends (suc n) l (b ∷ bs) e = absurd cc

  -- any number of units that is enough will do
  enough : (n m : ℕ) (l : EndState) (rest : List ℕ) → length rest ≤ n → length rest ≤ m → sent n l rest ≡ sent m l rest
  enough zero m l rest i j = let z = none_there rest i in ends zero l rest z ∙ sym (ends m l rest z)
  enough (suc n) zero l rest i j = let z = none_there rest j in ends (suc n) l rest z ∙ sym (ends zero l rest z)
  enough (suc n) (suc m) l [] i j = refl
  enough (suc n) (suc m) l (b ∷ bs) i j =
      ap (λ x. if takes_more l sap (take miu (b ∷ bs)) then x else ready_so l (Sends most (b ∷ bs)))
      (enough n m (submits l sap (take miu (b ∷ bs))) (drop miu (b ∷ bs)) (shorter miu b bs n low i) (shorter miu b bs m low j))

  -- one unit is submitted, and the rest follows
  pub sends_step : (l : EndState) (rest : List ℕ) → 0 < length rest → takes_more l sap (take miu rest) ≡ true
      → sent (length rest) l rest ≡ sent (length (drop miu rest)) (submits l sap (take miu rest)) (drop miu rest)
  sends_step l [] k t = absurd (omega arith)
  sends_step l (b ∷ bs) k t =
      ap (λ x. if x then sent (length bs) (submits l sap (take miu (b ∷ bs))) (drop miu (b ∷ bs)) else ready_so l (Sends most (b ∷ bs))) t
      ∙ enough (length bs) (length (drop miu (b ∷ bs))) (submits l sap (take miu (b ∷ bs))) (drop miu (b ∷ bs))
      (shorter miu b bs (length bs) low (omega arith)) (omega arith)

  -- no more may be submitted now
  pub sends_stop : (l : EndState) (rest : List ℕ) → takes_more l sap (take miu rest) ≡ false → sent (length rest) l rest ≡ ready_so l (Sends most rest)
  sends_stop l [] t = refl
  sends_stop l (b ∷ bs) t =
      ap (λ x. if x then sent (length bs) (submits l sap (take miu (b ∷ bs))) (drop miu (b ∷ bs)) else ready_so l (Sends most (b ∷ bs))) t

  -- all was submitted
  pub sends_end : (l : EndState) (rest : List ℕ) → length rest ≡ 0 → sent (length rest) l rest ≡ ready_so l (Sends most rest)
  sends_end l rest e = ends (length rest) l rest (none_there rest (omega arith))

-- an offer that was taken, or wasn't
pub offered_true : (sap : ℕ) (l : EndState) (u : List ℕ) (new : EndState) → Offered sap l u true new
    → (takes_more l sap u ≡ true) × (new ≡ submits l sap u)
offered_true sap l u new o = (sym o.test, o.kept)

pub offered_false : (sap : ℕ) (l : EndState) (u : List ℕ) (new : EndState) → Offered sap l u false new → (takes_more l sap u ≡ false) × (new ≡ l)
offered_false sap l u new o = (sym o.test, o.kept)

-- What is left once the first bytes were offered as a unit.
abbrev pub IsLeft : ℕ → List ℕ → Bool → List ℕ → Type 0
IsLeft miu bytes taken rest = rest ≡ (if taken then drop miu bytes else bytes)

pub sent_one : (sap miu : ℕ) (most : Option ℕ) (l new : EndState) (bytes rest : List ℕ) (taken : Bool) → 0 < miu → 0 < length bytes → taken ≡ true
    → Offered sap l (take miu bytes) taken new → IsLeft miu bytes taken rest
    → sends_some (length bytes) miu l sap most bytes ≡ sends_some (length rest) miu new sap most rest
sent_one sap miu most l new bytes rest taken low some is o left =
    let t = offered_true sap l (take miu bytes) new (subst (λ b. Offered sap l (take miu bytes) b new) is o) in
    let r : rest ≡ drop miu bytes = subst (λ b. IsLeft miu bytes b rest) is left in
    sends_step miu sap most low l bytes some t.0
    ∙ ap (λ z. sends_some (length (drop miu bytes)) miu z sap most (drop miu bytes)) (sym t.1)
    ∙ ap (λ z. sends_some (length z) miu new sap most z) (sym r)

pub sent_none : (sap miu : ℕ) (most : Option ℕ) (l new : EndState) (bytes rest : List ℕ) (taken : Bool) → 0 < miu → taken ≡ false
    → Offered sap l (take miu bytes) taken new → IsLeft miu bytes taken rest
    → sends_some (length bytes) miu l sap most bytes ≡ ready_so new (Sends most rest)
sent_none sap miu most l new bytes rest taken low is o left =
    let t = offered_false sap l (take miu bytes) new (subst (λ b. Offered sap l (take miu bytes) b new) is o) in
    let r : rest ≡ bytes = subst (λ b. IsLeft miu bytes b rest) is left in
    sends_stop miu sap most low l bytes t.0 ∙ ap (λ z. ready_so z (Sends most bytes)) (sym t.1)
    ∙ ap (λ z. ready_so new (Sends most z)) (sym r)

-- the first unit of a request
module _ (sap : ℕ) (l new : EndState) (most : Option ℕ) (miu : ℕ) (bytes : List ℕ) where
  begun_so : (rest : List ℕ) → drop miu bytes ≡ rest → Offered sap l (take miu bytes) true new
      → begins_on l sap most bytes (Some miu) ≡ ready_so new (behind_first most rest)
  begun_so rest e o =
      let t = offered_true sap l (take miu bytes) new o in
      ap (λ b. if b then ready_so (submits l sap (take miu bytes)) (behind_first most (drop miu bytes)) else ready_so l (Begins most bytes)) t.0
      ∙ ap (λ z. ready_so z (behind_first most (drop miu bytes))) (sym t.1) ∙ ap (λ z. ready_so new (behind_first most z)) e

  pub begins_whole : (rest : List ℕ) → rest ≡ drop miu bytes → length rest ≡ 0 → Offered sap l (take miu bytes) true new
      → begins_on l sap most bytes (Some miu) ≡ ready_so new (Sends most rest)
  begins_whole [] e k o = begun_so [] (sym e) o
  begins_whole (b ∷ bs) e k o = absurd (omega arith)

  pub begins_part : (rest : List ℕ) → rest ≡ drop miu bytes → 0 < length rest → Offered sap l (take miu bytes) true new
      → begins_on l sap most bytes (Some miu) ≡ ready_so new (Waits most rest)
  begins_part [] e k o = absurd (omega arith)
  begins_part (b ∷ bs) e k o = begun_so (b ∷ bs) (sym e) o

  pub begins_not : Offered sap l (take miu bytes) false new → begins_on l sap most bytes (Some miu) ≡ ready_so new (Begins most bytes)
  begins_not o =
      let t = offered_false sap l (take miu bytes) new o in
      ap (λ b. if b then ready_so (submits l sap (take miu bytes)) (behind_first most (drop miu bytes)) else ready_so l (Begins most bytes)) t.0
      ∙ ap (λ z. ready_so z (Begins most bytes)) (sym t.1)

-- the same by what was offered
module _ (sap miu : ℕ) (most : Option ℕ) (l new : EndState) (bytes rest : List ℕ) (taken : Bool) (o : Offered sap l (take miu bytes) taken new)
    (left : IsLeft miu bytes taken rest) where
  pub begin_whole : taken ≡ true → length rest ≡ 0 → begins_on l sap most bytes (Some miu) ≡ ready_so new (Sends most rest)
  begin_whole is none =
      begins_whole sap l new most miu bytes rest (subst (λ b. IsLeft miu bytes b rest) is left) none (subst (λ b. Offered sap l (take miu bytes) b new) is o)

  pub begin_part : taken ≡ true → 0 < length rest → begins_on l sap most bytes (Some miu) ≡ ready_so new (Waits most rest)
  begin_part is some =
      begins_part sap l new most miu bytes rest (subst (λ b. IsLeft miu bytes b rest) is left) some (subst (λ b. Offered sap l (take miu bytes) b new) is o)

  pub begin_not : taken ≡ false → begins_on l sap most bytes (Some miu) ≡ ready_so new (Begins most rest)
  begin_not is =
      let r : rest ≡ bytes = subst (λ b. IsLeft miu bytes b rest) is left in
      begins_not sap l new most miu bytes (subst (λ b. Offered sap l (take miu bytes) b new) is o) ∙ ap (λ z. ready_so new (Begins most z)) (sym r)

-- what a job submits leaves it its aim
some_serves : (aim : Aim) (n miu : ℕ) (l : EndState) (sap : ℕ) (most : Option ℕ) (rest : List ℕ) → aim ≡ aim_by most
    → Serves aim (sends_some n miu l sap most rest).job
some_serves aim zero miu l sap most rest s = s
some_serves aim (suc n) miu l sap most [] s = s
some_serves aim (suc n) miu l sap most (b ∷ bs) s =
    either {X = Ready} (λ r. Serves aim r.job) (takes_more l sap (take miu (b ∷ bs)))
    (sends_some n miu (submits l sap (take miu (b ∷ bs))) sap most (drop miu (b ∷ bs))) (ready_so l (Sends most (b ∷ bs)))
    (λ t. some_serves aim n miu (submits l sap (take miu (b ∷ bs))) sap most (drop miu (b ∷ bs)) s) (λ t. s)

behind_serves : (aim : Aim) (most : Option ℕ) (rest : List ℕ) → aim ≡ aim_by most → Serves aim (behind_first most rest)
behind_serves aim most [] s = s
behind_serves aim most (b ∷ bs) s = s

begins_serves : (aim : Aim) (l : EndState) (sap : ℕ) (most : Option ℕ) (bytes : List ℕ) (o : Option ℕ) → aim ≡ aim_by most
    → Serves aim (begins_on l sap most bytes o).job
begins_serves aim l sap most bytes None s = s
begins_serves aim l sap most bytes (Some miu) s =
    either {X = Ready} (λ r. Serves aim r.job) (takes_more l sap (take miu bytes))
    (ready_so (submits l sap (take miu bytes)) (behind_first most (drop miu bytes))) (ready_so l (Begins most bytes))
    (λ t. behind_serves aim most (drop miu bytes) s) (λ t. s)

sends_serves : (aim : Aim) (l : EndState) (sap : ℕ) (most : Option ℕ) (rest : List ℕ) (o : Option ℕ) → aim ≡ aim_by most
    → Serves aim (sends_on l sap most rest o).job
sends_serves aim l sap most rest None s = s
sends_serves aim l sap most rest (Some miu) s = some_serves aim (length rest) miu l sap most rest s

pub ready_serves : (aim : Aim) (l : EndState) (sap : ℕ) (job : Job) → Serves aim job → Serves aim (readied l sap job).job
ready_serves aim l sap (Begins most bytes) s = begins_serves aim l sap most bytes (miu_of (standing_of (own_from sap l.own))) s
ready_serves aim l sap (Sends most rest) s = sends_serves aim l sap most rest (miu_of (standing_of (own_from sap l.own))) s
ready_serves aim l sap (Asks size have) s =
    either {X = Ready} (λ r. Serves aim r.job) (takes_more l sap continue_bytes) (ready_so (submits l sap continue_bytes) (Collects size have))
    (ready_so l (Asks size have)) (λ t. s) (λ t. s)
ready_serves aim l sap (Waits most rest) s = s
ready_serves aim l sap (Collects size have) s = s
ready_serves aim l sap (Looks tid) s = s
ready_serves aim l sap Closes s = s
ready_serves aim l sap (Over e) s = s
