-- A session accepts what the units of its connection put.
use Rattle.std.proofs.Common.{◌≡◌, ◌<◌, ◌≤◌, nat_lt, ℕ, ◌+◌, ◌-◌, ◌==◌, false, List, [], ◌∷◌, ◌++◌, length, Option, Some, None, inl, inr, refl, sym, ◌∙◌, ap, subst, arith, append_assoc, append-nil}
use Rattle.std.proofs.Common.{length-append}
use Rattle.std.specs.List.{concat}
use Rattle.std.proofs.lemmas.Bool.{eqb-true, ltb-true}
use Rattle.llcp_link.proofs.Clients.{not_equal}
use Rattle.llcp_link.proofs.Ranged.{either}
use Rattle.snep_core.specs.declared.message.Answer.TheVariants as answers
use Rattle.snep_core.specs.declared.message.Request.{Request}
use Rattle.snep_core.specs.declared.message.Request.TheVariants.{Get, Put}
use Rattle.snep_core.specs.declared.first.First.{First}
use Rattle.snep_core.specs.declared.first.First.TheVariants.{Says, GoesOn, Drops, Whole, Partly}
use Rattle.snep_core.specs.declared.session.Due.TheVariants.{Tells, Forgets}
use Rattle.snep_core.specs.declared.session.Word.TheVariants.{Answers, Resumes}
use Rattle.snep_core.specs.First.{info_of, first_of}
use Rattle.snep_core.specs.Puts.{GroupPuts, Groups, IsGroup, IsPartly, Puts, Reaches, grouped, length_of}
use Rattle.snep_core.specs.Session.{Did, Gathering, Offer, Session, did, did_by, first_did, later_did, obeys, says}
use Rattle.snep_core.proofs.sessions.FirstUnits.{Lacks, Look, PutsNothing, look, not_less}

abbrev pub kept : Option (List ℕ) → List (List ℕ)
kept None = []
kept (Some m) = m ∷ []

-- the units of a run that isn't whole
abbrev pub Run : ℕ → List (List ℕ) → Gathering → Type 0
Run limit [] g = ⊥
Run limit (u ∷ later) g =
    (n : ℕ) × (first_of limit u ≡ Partly g.request n) × (g.info ≡ info_of u ++ concat later) × (g.left + length g.info ≡ length_of u) × (0 < g.left)

-- after these units a session gathers so, and they put these messages
abbrev pub Heard : ℕ → List (List ℕ) → Option Gathering → List (List ℕ) → Type 0
Heard limit us None ms = (gs : List (List (List ℕ))) × (us ≡ grouped gs) × Groups limit gs ms
Heard limit us (Some g) ms =
    (gs : List (List (List ℕ))) × (run : List (List ℕ)) × (us ≡ grouped gs ++ run) × Groups limit gs ms × Run limit run g

-- what a step on a unit leaves
abbrev pub Hears : ℕ → List (List ℕ) → List (List ℕ) → Did → Type 0
Hears limit us ms d = Heard limit us d.session.gathered (ms ++ kept d.accepts)

grouped_more : (gs : List (List (List ℕ))) (g : List (List ℕ)) → grouped (gs ++ g ∷ []) ≡ grouped gs ++ g
grouped_more [] g = append-nil g
grouped_more (h ∷ gs) g = ap (λ z. h ++ z) (grouped_more gs g) ∙ sym (append_assoc h (grouped gs) g)

groups_more : (limit : ℕ) (gs : List (List (List ℕ))) (g ms one : List (List ℕ)) → Groups limit gs ms → IsGroup limit g → GroupPuts limit g one
    → Groups limit (gs ++ g ∷ []) (ms ++ one)
groups_more limit [] g ms one h i p = (one, [], ap (λ z. z ++ one) h ∙ sym (append-nil one), i, p, refl)
groups_more limit (f ∷ gs) g ms one (a, rest, e, i, p, more) j q =
    (a, rest ++ one, ap (λ z. z ++ one) e ∙ append_assoc a rest one, i, p, groups_more limit gs g rest one more j q)

concat_more : (us : List (List ℕ)) (u : List ℕ) → concat (us ++ u ∷ []) ≡ concat us ++ u
concat_more [] u = append-nil u
concat_more (v ∷ us) u = ap (λ z. v ++ z) (concat_more us u) ∙ sym (append_assoc v (concat us) u)

reaches_more : (n have : ℕ) (us : List (List ℕ)) (u : List ℕ) → have + length (concat us) < n → n ≤ have + length (concat us) + length u
    → Reaches n have (us ++ u ∷ [])
reaches_more n have [] u h k = (omega arith, omega arith)
reaches_more n have (v ∷ []) u h k =
    let e = length-append v (concat []) in
    (omega arith, (omega arith, omega arith))
reaches_more n have (v ∷ w ∷ us) u h k =
    let e : length (concat (v ∷ w ∷ us)) ≡ length v + length (concat (w ∷ us)) = length-append v (concat (w ∷ us)) in
    (omega arith, reaches_more n (have + length v) (w ∷ us) u (omega arith) (omega arith))

-- a group ends
module _ (limit : ℕ) (gs : List (List (List ℕ))) (us g ms : List (List ℕ)) (split : us ≡ grouped gs ++ g) (groups : Groups limit gs ms) (group : IsGroup limit g) where
  group_ends : (d : Did) → d.session.gathered ≡ None → GroupPuts limit g (kept d.accepts) → Hears limit us ms d
  group_ends d q p =
      subst (λ z. Heard limit us z (ms ++ kept d.accepts)) (sym q)
      (gs ++ g ∷ [], split ∙ sym (grouped_more gs g), groups_more limit gs g ms (kept d.accepts) groups group p)

-- one unit that is a group
alone : (limit : ℕ) (u : List ℕ) (f : First) → first_of limit u ≡ f → (IsPartly f → ⊥) → IsGroup limit (u ∷ [])
alone limit u f e h = inl (refl, (λ p. h (subst IsPartly e p)))

alone_quiet : (limit : ℕ) (u : List ℕ) → PutsNothing limit u → GroupPuts limit (u ∷ []) []
alone_quiet limit u h = inr ((λ p e l. h p (sym (ap length (append-nil (info_of u))) ∙ e) l), refl)

alone_put : (limit : ℕ) (u : List ℕ) → Look limit u (Whole Put) → GroupPuts limit (u ∷ []) (info_of u ∷ [])
alone_put limit u k =
    inl (k.0, ap length (append-nil (info_of u)) ∙ k.1, k.2, ap (λ z. z ∷ []) (sym (append-nil (info_of u))))

partly_run : (limit : ℕ) (u : List ℕ) (r : Request) (n : ℕ) → first_of limit u ≡ Partly r n → Lacks u n
    → Run limit (u ∷ []) (record { request = r; left = n; info = info_of u })
partly_run limit u r n e k = (n, e, sym (append-nil (info_of u)), k.0, k.1)

lacks : (limit : ℕ) (u : List ℕ) (r : Request) (n : ℕ) → Look limit u (Partly r n) → Lacks u n
lacks limit u Put n k = k.1
lacks limit u Get n k = k.1

first_hears : (limit : ℕ) (table : List Offer) (x : Session) (us ms : List (List ℕ)) (u : List ℕ) (f : First) → first_of limit u ≡ f
    → Look limit u f → Heard limit us None ms → Hears limit (us ++ u ∷ []) ms (first_did table x f (info_of u))
first_hears limit table x us ms u (Says answer) e k (gs, q, h) =
    group_ends limit gs (us ++ u ∷ []) (u ∷ []) ms (ap (λ z. z ++ u ∷ []) q) h (alone limit u _ e (λ z. z)) (says x (Tells (Answers answer))) refl (alone_quiet limit u k)
first_hears limit table x us ms u GoesOn e k (gs, q, h) =
    group_ends limit gs (us ++ u ∷ []) (u ∷ []) ms (ap (λ z. z ++ u ∷ []) q) h (alone limit u _ e (λ z. z)) (says x (Tells Resumes)) refl (alone_quiet limit u k)
first_hears limit table x us ms u Drops e k (gs, q, h) =
    group_ends limit gs (us ++ u ∷ []) (u ∷ []) ms (ap (λ z. z ++ u ∷ []) q) h (alone limit u _ e (λ z. z)) (says x Forgets) refl (alone_quiet limit u k)
first_hears limit table x us ms u (Whole Put) e k (gs, q, h) =
    group_ends limit gs (us ++ u ∷ []) (u ∷ []) ms (ap (λ z. z ++ u ∷ []) q) h (alone limit u _ e (λ z. z)) (obeys table x Put (info_of u)) refl (alone_put limit u k)
first_hears limit table x us ms u (Whole Get) e k (gs, q, h) =
    group_ends limit gs (us ++ u ∷ []) (u ∷ []) ms (ap (λ z. z ++ u ∷ []) q) h (alone limit u _ e (λ z. z)) (obeys table x Get (info_of u)) refl (alone_quiet limit u k)
first_hears limit table x us ms u (Partly r n) e k (gs, q, h) =
    (gs, u ∷ [], ap (λ z. z ++ u ∷ []) q, subst (Groups limit gs) (sym (append-nil ms)) h, partly_run limit u r n e (lacks limit u r n k))

-- a later unit
module _ (limit : ℕ) (u : List ℕ) (later : List (List ℕ)) (v : List ℕ) (g : Gathering) (r : Run limit (u ∷ later) g) where
  run_info : info_of u ++ concat (later ++ v ∷ []) ≡ g.info ++ v
  run_info =
      ap (λ z. info_of u ++ z) (concat_more later v) ∙ sym (append_assoc (info_of u) (concat later) v) ∙ ap (λ z. z ++ v) (sym r.2)

  run_group : g.left ≤ length v → IsGroup limit (u ∷ later ++ v ∷ [])
  run_group h =
      let a : length g.info ≡ length (info_of u) + length (concat later) = ap length r.2 ∙ length-append (info_of u) (concat later) in
      let b = r.3 in
      let d = r.4 in
      inr (subst IsPartly (sym r.1) tt, reaches_more (length_of u) (length (info_of u)) later v (omega arith) (omega arith))

  run_long : length (g.info ++ v) ≡ length g.info + length v
  run_long = length-append g.info v

  -- more than was missing
  run_passes : g.left < length v → GroupPuts limit (u ∷ later ++ v ∷ []) []
  run_passes h =
      inr (
        (λ p e l. (let a : length (g.info ++ v) ≡ length_of u = sym (ap length run_info) ∙ e in
            let b = run_long in let d = r.3 in omega arith)),
        refl,
      )

  -- what was missing
  run_puts : g.request ≡ Put → g.left ≡ length v → GroupPuts limit (u ∷ later ++ v ∷ []) ((g.info ++ v) ∷ [])
  run_puts q h =
      let k : Look limit u (Partly Put r.0) = subst (Look limit u) (r.1 ∙ ap (λ z. Partly z r.0) q) (look limit u) in
      let n : length (g.info ++ v) ≡ length_of u = (let b = run_long in let d = r.3 in omega arith) in
      inl (k.0.0, ap length run_info ∙ n, k.0.1, ap (λ z. z ∷ []) (sym run_info))

  run_gets : g.request ≡ Get → GroupPuts limit (u ∷ later ++ v ∷ []) []
  run_gets q =
      let k : Look limit u (Partly Get r.0) = subst (Look limit u) (r.1 ∙ ap (λ z. Partly z r.0) q) (look limit u) in
      inr ((λ p e l. k.0 p), refl)

  -- a part of what was missing
  run_more : nat_lt g.left (length v) ≡ false → (g.left == length v) ≡ false
      → Run limit (u ∷ later ++ v ∷ []) (record { request = g.request; left = g.left - length v; info = g.info ++ v })
  run_more h k =
      let a : length v ≤ g.left = not_less g.left (length v) h in
      let b : g.left ≡ length v → ⊥ = not_equal g.left (length v) k in
      let d : length v < g.left = grind arith in
      let n = run_long in
      let w = r.3 in
      (r.0, r.1, sym run_info, omega arith, omega arith)

module _ (limit : ℕ) (table : List Offer) (x : Session) (us ms : List (List ℕ)) (v : List ℕ) (g : Gathering) (gs : List (List (List ℕ))) (u : List ℕ) (later : List (List ℕ))
    (q : us ≡ grouped gs ++ (u ∷ later)) (h : Groups limit gs ms) (r : Run limit (u ∷ later) g) where
  split : us ++ v ∷ [] ≡ grouped gs ++ (u ∷ later ++ v ∷ [])
  split = ap (λ z. z ++ v ∷ []) q ∙ append_assoc (grouped gs) (u ∷ later) (v ∷ [])

  obeyed : (k : Request) → g.request ≡ k → g.left ≡ length v → Hears limit (us ++ v ∷ []) ms (obeys table x k (g.info ++ v))
  obeyed Put e w =
      group_ends limit gs (us ++ v ∷ []) (u ∷ later ++ v ∷ []) ms split h (run_group limit u later v g r (omega arith)) (obeys table x Put (g.info ++ v)) refl
      (run_puts limit u later v g r e w)
  obeyed Get e w =
      group_ends limit gs (us ++ v ∷ []) (u ∷ later ++ v ∷ []) ms split h (run_group limit u later v g r (omega arith)) (obeys table x Get (g.info ++ v)) refl
      (run_gets limit u later v g r e)

  later_hears : Hears limit (us ++ v ∷ []) ms (later_did table x g v)
  later_hears =
      either (Hears limit (us ++ v ∷ []) ms) (nat_lt g.left (length v)) _ _
      (λ t. (let lt : g.left < length v = ltb-true g.left (length v) t in
      group_ends limit gs (us ++ v ∷ []) (u ∷ later ++ v ∷ []) ms split h (run_group limit u later v g r (omega arith)) (says x (Tells (Answers answers.BadRequest))) refl
      (run_passes limit u later v g r lt)))
      (λ t. either (Hears limit (us ++ v ∷ []) ms) (g.left == length v) _ _
      (λ w. obeyed g.request refl (eqb-true g.left (length v) w))
      (λ w. (gs, u ∷ later ++ v ∷ [], split, subst (Groups limit gs) (sym (append-nil ms)) h, run_more limit u later v g r t w)))

pub unit_hears : (limit : ℕ) (table : List Offer) (x : Session) (us ms : List (List ℕ)) (u : List ℕ) → Heard limit us x.gathered ms
    → Hears limit (us ++ u ∷ []) ms (did limit table x u)
unit_hears limit table x us ms u h = go x.gathered h
  where
    go : (g : Option Gathering) → Heard limit us g ms → Hears limit (us ++ u ∷ []) ms (did_by limit table x g u)
    go None h = first_hears limit table x us ms u (first_of limit u) refl (look limit u) h
    go (Some g) (gs, [], q, h, r) = absurd r
    go (Some g) (gs, v ∷ later, q, h, r) = later_hears limit table x us ms u g gs v later q h r

-- at the end of a connection
pub heard_puts : (limit : ℕ) (us : List (List ℕ)) (g : Option Gathering) (ms : List (List ℕ)) → Heard limit us g ms → Puts limit us ms
heard_puts limit us None ms (gs, q, h) = (gs, [], q ∙ sym (append-nil (grouped gs)), h, tt)
heard_puts limit us (Some g) ms (gs, [], q, h, r) = absurd r
heard_puts limit us (Some g) ms (gs, u ∷ later, q, h, (n, e, i, l, less)) =
    let a : length g.info ≡ length (info_of u) + length (concat later) = ap length i ∙ length-append (info_of u) (concat later) in
    (gs, u ∷ later, q, h, (subst IsPartly (sym e) tt, omega arith))
