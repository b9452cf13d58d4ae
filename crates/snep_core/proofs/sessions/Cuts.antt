-- What a front of a client's units puts, and that units put one list.
use Rattle.std.proofs.Common.{◌≡◌, ◌<◌, ◌≤◌, nat_lt, ℕ, ◌+◌, ◌-◌, ◌/◌, ◌%◌, ◌^◌, ◌==◌, false, List, [], ◌∷◌, ◌++◌, length, ◌⊎◌, inl, inr, refl, sym, ◌∙◌, ap, subst, arith, append_assoc, length-append}
use Rattle.std.specs.List.{concat}
use Rattle.std.proofs.lemmas.Bool.{lt-ltb, eq-eqb}
use Rattle.std.proofs.lemmas.Bool.Decides.{nat_tests}
use Rattle.std.proofs.lemmas.List.{append-nil}
use Rattle.snep_core.specs.declared.message.Answer.TheVariants as answers
use Rattle.snep_core.specs.declared.message.Request.TheVariants.{Put}
use Rattle.snep_core.specs.declared.first.First.TheVariants.{Says, Whole, Partly}
use Rattle.snep_core.specs.Message.{put_code}
use Rattle.snep_core.specs.First.{info_of, by_code, first_of}
use Rattle.snep_core.specs.Puts.{length_of, IsPut, IsPartly, Reaches, IsGroup, IsUnfinished, GroupPuts, grouped, Groups, Puts, PutsOne}
use Rattle.snep_core.specs.Cuts.{put_bytes, NoneEmpty, IsCut, PutInUnits, IsJob, AreJobs, units_of_puts, fit, PutsFront, FrontsPut, LastPut}
use Rattle.snep_core.proofs.requests.RequestPhases.{number_is}

not_lt : (m n : ℕ) → n ≤ m → nat_lt m n ≡ false
not_lt m n h = grind (arith, nat_tests)

-- a list of at least 6 bytes that begins a put
pub record Begins (m u : List ℕ) (rest : List ℕ) : Type 0 where
  pub info : List ℕ
  pub is : u ≡ 16 ∷ 2 ∷ (length m / 16777216) ∷ (length m / 65536 % 256) ∷ (length m / 256 % 256) ∷ (length m % 256) ∷ info
  pub message : m ≡ info ++ rest

pub begins : (m u rest : List ℕ) → 6 ≤ length u → put_bytes m ≡ u ++ rest → Begins m u rest
begins m [] rest h e = absurd (omega arith)
begins m (a ∷ []) rest h e = absurd (omega arith)
begins m (a ∷ b ∷ []) rest h e = absurd (omega arith)
begins m (a ∷ b ∷ c ∷ []) rest h e = absurd (omega arith)
begins m (a ∷ b ∷ c ∷ d ∷ []) rest h e = absurd (omega arith)
begins m (a ∷ b ∷ c ∷ d ∷ f ∷ []) rest h e = absurd (omega arith)
begins m (a ∷ b ∷ c ∷ d ∷ f ∷ g ∷ info) rest h e =
    let e0 : a ≡ 16 = cc in
    let e1 : b ≡ 2 = cc in
    let e2 : c ≡ length m / 16777216 = cc in
    let e3 : d ≡ length m / 65536 % 256 = cc in
    let e4 : f ≡ length m / 256 % 256 = cc in
    let e5 : g ≡ length m % 256 = cc in
    record { info = info; is = rw (e0, e1, e2, e3, e4, e5) refl; message = cc }

pub record FirstOf (limit : ℕ) (m u info : List ℕ) : Type 0 where
  pub is_put : IsPut u
  pub length_is : length_of u ≡ length m
  pub info_is : info_of u ≡ info
  pub first : first_of limit u ≡ by_code limit put_code (length m) (length info)

pub first_is : (limit : ℕ) (m u rest : List ℕ) → length m < 2 ^ 32 → (b : Begins m u rest) → FirstOf limit m u b.info
first_is limit m u rest h b = rw b.is (record {
  is_put = (refl, refl);
  length_is = number_is (length m) h;
  info_is = refl;
  first = rw (number_is (length m) h) refl;
})

pub partly_is : (limit n : ℕ) (info : List ℕ) → n ≤ limit → length info < n → by_code limit put_code n (length info) ≡ Partly Put (n - length info)
partly_is limit n info h k =
    let e : (n == length info) ≡ false = grind (arith, nat_tests) in
    rw (not_lt limit n h, not_lt n (length info) (omega arith), e) refl

pub whole_is : (limit n : ℕ) (info : List ℕ) → n ≡ length info → n ≤ limit → by_code limit put_code n (length info) ≡ Whole Put
whole_is limit n info e h = rw (not_lt limit n h, not_lt n (length info) (omega arith), eq-eqb n (length info) e) refl

pub over_is : (limit n : ℕ) (info : List ℕ) → limit < n → by_code limit put_code n (length info) ≡ Says answers.Reject
over_is limit n info h = rw (lt-ltb limit n h) refl

-- later units that aren't empty reach the length with the last alone
reaches : (n have : ℕ) (us : List (List ℕ)) → NoneEmpty us → have < n → have + length (concat us) ≡ n → Reaches n have us
reaches n have [] h k e = omega arith
reaches n have (v ∷ []) h k e = (k, (let z = length-append v (concat []) in omega arith))
reaches n have (v ∷ w ∷ us) h k e =
    let a = length-append v (concat (w ∷ us)) in
    let b = length-append w (concat us) in
    let c = h.1.0 in
    (omega arith, reaches n (have + length v) (w ∷ us) h.1 (omega arith) (omega arith))

cut_groups : (limit : ℕ) (m : List ℕ) (us : List (List ℕ)) → length m < 2 ^ 32 → length m ≤ limit → IsCut (put_bytes m) us
    → IsGroup limit us × GroupPuts limit us (m ∷ [])
cut_groups limit m [] h k c = absurd c
cut_groups limit m (u ∷ us) h k (six, full, e) =
    let b = begins m u (concat us) six e in
    let f = first_is limit m u (concat us) h b in
    let whole : info_of u ++ concat us ≡ m = rw f.info_is (sym b.message) in
    let total : length m ≡ length b.info + length (concat us) = ap length b.message ∙ length-append b.info (concat us) in (
      go us full e b f whole total,
      inl (f.is_put, (rw (whole, f.length_is) refl), (rw f.length_is k), (rw whole refl)),
    )
  where
    go : (us : List (List ℕ)) → NoneEmpty us → put_bytes m ≡ u ++ concat us → (b : Begins m u (concat us)) → FirstOf limit m u b.info
        → info_of u ++ concat us ≡ m → length m ≡ length b.info + length (concat us) → IsGroup limit (u ∷ us)
    go [] full e b f w t =
        let s : m ≡ b.info = b.message ∙ append-nil b.info in
        inl (refl, (rw (f.first ∙ whole_is limit (length m) b.info (ap length s) k) (λ z. z)))
    go (v ∷ vs) full e b f w t =
        let one = full.0 in
        let a = length-append v (concat vs) in
        inr (
          (rw (f.first ∙ partly_is limit (length m) b.info k (omega arith)) tt),
          (let li : length_of u ≡ length m = f.length_is in let ii : length (info_of u) ≡ length b.info = ap length f.info_is in
              reaches (length_of u) (length (info_of u)) (v ∷ vs) full (omega arith) (omega arith)),
        )

-- a front of a cut that isn't all of it
front_open : (limit : ℕ) (m u : List ℕ) (came : List (List ℕ)) (v : List ℕ) (more : List (List ℕ)) → length m < 2 ^ 32 → length m ≤ limit
    → IsCut (put_bytes m) (u ∷ came ++ v ∷ more) → IsUnfinished limit (u ∷ came)
front_open limit m u came v more h k (six, full, e) =
    let b = begins m u (concat (came ++ v ∷ more)) six e in
    let f = first_is limit m u (concat (came ++ v ∷ more)) h b in
    let total : length m ≡ length b.info + length (concat (came ++ v ∷ more)) = ap length b.message ∙ length-append b.info (concat (came ++ v ∷ more)) in
    let less = shorter came full in (
      (rw (f.first ∙ partly_is limit (length m) b.info k (omega arith)) tt),
      (rw (f.length_is, f.info_is) (omega arith)),
    )
  where
    shorter : (came : List (List ℕ)) → NoneEmpty (came ++ v ∷ more) → length (concat came) < length (concat (came ++ v ∷ more))
    shorter [] full = (let z = full.0 in let y = length-append v (concat more) in omega arith)
    shorter (w ∷ came) full =
        (let r = shorter came full.1 in let a = length-append w (concat came) in let b = length-append w (concat (came ++ v ∷ more)) in omega arith)

-- a message that is too long: its first unit is a group that puts nothing
long_group : (limit : ℕ) (m u : List ℕ) (later : List (List ℕ)) → length m < 2 ^ 32 → limit < length m → IsCut (put_bytes m) (u ∷ later)
    → IsGroup limit (u ∷ []) × GroupPuts limit (u ∷ []) []
long_group limit m u later h k (six, full, e) =
    let b = begins m u (concat later) six e in
    let f = first_is limit m u (concat later) h b in
    (inl (refl, (rw (f.first ∙ over_is limit (length m) b.info k) (λ z. z))), inr ((λ x y z. (let w = f.length_is in omega arith)), refl))

puts_after : (limit : ℕ) (g came put one : List (List ℕ)) → IsGroup limit g → GroupPuts limit g one → Puts limit came put → Puts limit (g ++ came) (one ++ put)
puts_after limit g came put one i p (gs, run, e, h, u) =
    (g ∷ gs, run, (rw (e, append_assoc) refl), (one, put, refl, i, p, h), u)

puts_open : (limit : ℕ) (run : List (List ℕ)) → IsUnfinished limit run → Puts limit run []
puts_open limit run u = ([], run, refl, refl, u)

-- two fronts of one list: the first is within the second, or goes past it
split : (xs ys cs ds : List (List ℕ)) → xs ++ cs ≡ ys ++ ds
    → ((rest : List (List ℕ)) × (ys ≡ xs ++ rest) × (cs ≡ rest ++ ds)) ⊎ ((v : List ℕ) × (rest : List (List ℕ)) × (xs ≡ ys ++ v ∷ rest))
split [] ys cs ds e = inl (ys, refl, e)
split (x ∷ xs) [] cs ds e = inr (x, xs, refl)
split (x ∷ xs) (y ∷ ys) cs ds e =
    let t : xs ++ cs ≡ ys ++ ds = cc in
    let z : y ≡ x = cc in
    elim (split xs ys cs ds t) [
      | inl r ↦ inl (r.0, ap (λ q. q ∷ ys) z ∙ ap (λ q. x ∷ q) r.1, r.2)
      | inr r ↦ inr (r.0, r.1, ap (λ q. q ∷ xs) (sym z) ∙ ap (λ q. y ∷ q) r.2)
    ]

fit_more : (limit : ℕ) (j : PutInUnits) (js : List PutInUnits) → length j.message ≤ limit → fit limit (j ∷ js) ≡ j.message ∷ fit limit js
fit_more limit j js h = rw (not_lt limit (length j.message) h) refl

fit_less : (limit : ℕ) (j : PutInUnits) (js : List PutInUnits) → limit < length j.message → fit limit (j ∷ js) ≡ fit limit js
fit_less limit j js h = rw (lt-ltb limit (length j.message) h) refl

-- a front that ends within a message that fits
inside : (limit : ℕ) (m : List ℕ) (came : List (List ℕ)) (v : List ℕ) (rest us : List (List ℕ)) → length m < 2 ^ 32 → length m ≤ limit → IsCut (put_bytes m) us
    → us ≡ came ++ v ∷ rest → IsUnfinished limit came
inside limit m [] v rest us h k c e = tt
inside limit m (u ∷ came) v rest us h k c e = front_open limit m u came v rest h k (rw e at c)

job_front : (limit : ℕ) (j : PutInUnits) (js : List PutInUnits) (came more : List (List ℕ)) → length j.message < 2 ^ 32
    → ((length j.message ≤ limit) × IsCut (put_bytes j.message) j.units)
    ⊎ ((limit < length j.message) × ((u : List ℕ) × (later : List (List ℕ)) × (j.units ≡ u ∷ []) × IsCut (put_bytes j.message) (u ∷ later)))
    → ((rest : List (List ℕ)) → units_of_puts js ≡ rest ++ more → PutsFront limit js rest)
    → ((rest : List (List ℕ)) × (came ≡ j.units ++ rest) × (units_of_puts js ≡ rest ++ more)) ⊎ ((v : List ℕ) × (rest : List (List ℕ)) × (j.units ≡ came ++ v ∷ rest))
    → PutsFront limit (j ∷ js) came
job_front limit j js came more size (inl (short, cut)) later (inl (rest, c, f)) =
    let r = later rest f in
    let g = cut_groups limit j.message j.units size short cut in
    record {
      put = j.message ∷ r.put;
      rest = r.rest;
      front = fit_more limit j js short ∙ ap (λ z. j.message ∷ z) r.front;
      puts = rw c (puts_after limit j.units rest r.put (j.message ∷ []) g.0 g.1 r.puts);
    }
job_front limit j js came more size (inr (long, (u, after, one, cut))) later (inl (rest, c, f)) =
    let r = later rest f in
    let g = long_group limit j.message u after size long cut in
    record {
      put = r.put;
      rest = r.rest;
      front = fit_less limit j js long ∙ r.front;
      puts = rw (c, one) (puts_after limit (u ∷ []) rest r.put [] g.0 g.1 r.puts);
    }
job_front limit j js came more size (inl (short, cut)) later (inr (v, rest, c)) = record {
  put = [];
  rest = fit limit (j ∷ js);
  front = refl;
  puts = puts_open limit came (inside limit j.message came v rest j.units size short cut c);
}
job_front limit j js came more size (inr (long, (u, after, one, cut))) later (inr (v, rest, c)) = record {
  put = [];
  rest = fit limit (j ∷ js);
  front = refl;
  puts = puts_open limit came (first_none came (sym one ∙ c));
}
  where
    first_none : (came : List (List ℕ)) → u ∷ [] ≡ came ++ v ∷ rest → IsUnfinished limit came
    first_none [] e = tt
    first_none (x ∷ []) e = cc
    first_none (x ∷ y ∷ came) e = cc

pub fronts_put : FrontsPut
fronts_put limit [] came more h e = none came e
  where
    none : (came : List (List ℕ)) → [] ≡ came ++ more → PutsFront limit [] came
    none [] e = record { put = []; rest = []; front = refl; puts = puts_open limit [] tt }
    none (u ∷ came) e = cc
fronts_put limit (j ∷ js) came more ((size, job), jobs) e =
    job_front limit j js came more size job (λ rest f. fronts_put limit js rest more jobs f) (split j.units came (units_of_puts js) more e)

-- jobs that came whole
jobs_before : (limit : ℕ) (done : List PutInUnits) (came put : List (List ℕ)) → AreJobs limit done → Puts limit came put
    → Puts limit (units_of_puts done ++ came) (fit limit done ++ put)
jobs_before limit [] came put h p = p
jobs_before limit (j ∷ js) came put ((size, inl (short, cut)), jobs) p =
    let g = cut_groups limit j.message j.units size short cut in
    rw (append_assoc j.units (units_of_puts js) came, fit_more limit j js short)
    (puts_after limit j.units (units_of_puts js ++ came) (fit limit js ++ put) (j.message ∷ []) g.0 g.1 (jobs_before limit js came put jobs p))
jobs_before limit (j ∷ js) came put ((size, inr (long, (u, after, one, cut))), jobs) p =
    let g = long_group limit j.message u after size long cut in
    rw (append_assoc j.units (units_of_puts js) came, fit_less limit j js long, one)
    (puts_after limit (u ∷ []) (units_of_puts js ++ came) (fit limit js ++ put) [] g.0 g.1 (jobs_before limit js came put jobs p))

first_none : (limit : ℕ) (u v : List ℕ) (came rest : List (List ℕ)) → u ∷ [] ≡ came ++ v ∷ rest → IsUnfinished limit came
first_none limit u v [] rest e = tt
first_none limit u v (x ∷ []) rest e = cc
first_none limit u v (x ∷ y ∷ came) rest e = cc

part_open : (limit : ℕ) (last : PutInUnits) (part : List (List ℕ)) (v : List ℕ) (rest : List (List ℕ)) → IsJob limit last → last.units ≡ part ++ v ∷ rest
    → Puts limit part []
part_open limit last part v rest (size, inl (short, cut)) e = puts_open limit part (inside limit last.message part v rest last.units size short cut e)
part_open limit last part v rest (size, inr (long, (u, after, one, cut))) e = puts_open limit part (first_none limit u v part rest (sym one ∙ e))

pub last_puts : LastPut
last_puts limit done last part [] jobs job e =
    let s : last.units ≡ part = e ∙ append-nil part in
    let p = jobs_before limit (last ∷ []) [] [] (job, tt) (puts_open limit [] tt) in
    jobs_before limit done part (fit limit (last ∷ [])) jobs (rw (append-nil, append-nil, s, append-nil) at p)
last_puts limit done last part (v ∷ rest) jobs job e = rw append-nil at (jobs_before limit done part [] jobs (part_open limit last part v rest job e))

-- one list of messages: where two runs end
reaches_same : (n have : ℕ) (xs ys cs ds : List (List ℕ)) → Reaches n have xs → Reaches n have ys → xs ++ cs ≡ ys ++ ds → xs ≡ ys
reaches_same n have [] ys cs ds h k e = absurd h
reaches_same n have (x ∷ xs) [] cs ds h k e = absurd k
reaches_same n have (x ∷ []) (y ∷ []) cs ds h k e = cc
reaches_same n have (x ∷ []) (y ∷ z ∷ ys) cs ds h k e =
    (let q : x ≡ y = cc in let l : length x ≡ length y = ap length q in let a = h.1 in let b = k.0 in absurd (omega arith))
reaches_same n have (x ∷ w ∷ xs) (y ∷ []) cs ds h k e =
    (let q : x ≡ y = cc in let l : length x ≡ length y = ap length q in let a = h.0 in let b = k.1 in absurd (omega arith))
reaches_same n have (x ∷ w ∷ xs) (y ∷ z ∷ ys) cs ds h k e =
    let q : x ≡ y = cc in
    let t : (w ∷ xs) ++ cs ≡ (z ∷ ys) ++ ds = cc in
    let r : Reaches n (have + length x) (z ∷ ys) = rw q k.1 in
    ap (λ g. g ∷ w ∷ xs) q ∙ ap (λ g. y ∷ g) (reaches_same n (have + length x) (w ∷ xs) (z ∷ ys) cs ds h.1 r t)

reaches_long : (n have : ℕ) (xs cs : List (List ℕ)) → Reaches n have xs → n ≤ have + length (concat (xs ++ cs))
reaches_long n have [] cs h = absurd h
reaches_long n have (x ∷ []) cs h = (let a = h.1 in let z = length-append x (concat cs) in omega arith)
reaches_long n have (x ∷ w ∷ xs) cs h =
    (let r = reaches_long n (have + length x) (w ∷ xs) cs h.1 in let z = length-append x (concat ((w ∷ xs) ++ cs)) in omega arith)

group_same : (limit : ℕ) (g f cs ds : List (List ℕ)) → IsGroup limit g → IsGroup limit f → g ++ cs ≡ f ++ ds → g ≡ f
group_same limit [] f cs ds h k e = absurd h
group_same limit (u ∷ us) [] cs ds h k e = absurd k
group_same limit (u ∷ us) (v ∷ vs) cs ds h k e = go h k
  where
    q : u ≡ v
    q = cc

    t : us ++ cs ≡ vs ++ ds
    t = cc

    go : ((us ≡ []) × (IsPartly (first_of limit u) → ⊥)) ⊎ (IsPartly (first_of limit u) × Reaches (length_of u) (length (info_of u)) us)
        → ((vs ≡ []) × (IsPartly (first_of limit v) → ⊥)) ⊎ (IsPartly (first_of limit v) × Reaches (length_of v) (length (info_of v)) vs)
        → u ∷ us ≡ v ∷ vs
    go (inl (a, b)) (inl (c, d)) = rw (a, c, q) refl
    go (inl (a, b)) (inr (c, d)) = absurd (b (rw q c))
    go (inr (a, b)) (inl (c, d)) = absurd (d (rw (← q) a))
    go (inr (a, b)) (inr (c, d)) =
        let r : Reaches (length_of u) (length (info_of u)) vs = rw q d in
        rw (q, reaches_same (length_of u) (length (info_of u)) us vs cs ds b r t) refl

cancel : (g xs ys : List (List ℕ)) → g ++ xs ≡ g ++ ys → xs ≡ ys
cancel [] xs ys e = e
cancel (u ∷ g) xs ys e = (let t : g ++ xs ≡ g ++ ys = cc in cancel g xs ys t)

group_puts_same : (limit : ℕ) (g a b : List (List ℕ)) → GroupPuts limit g a → GroupPuts limit g b → a ≡ b
group_puts_same limit [] a b h k = h ∙ sym k
group_puts_same limit (u ∷ us) a b (inl (p, l, s, e)) (inl (q, m, t, f)) = e ∙ sym f
group_puts_same limit (u ∷ us) a b (inl (p, l, s, e)) (inr (q, f)) = absurd (q p l s)
group_puts_same limit (u ∷ us) a b (inr (q, f)) (inl (p, l, s, e)) = absurd (q p l s)
group_puts_same limit (u ∷ us) a b (inr (p, e)) (inr (q, f)) = e ∙ sym f

-- an unfinished run doesn't begin with a group
no_group : (limit : ℕ) (g cs : List (List ℕ)) → IsGroup limit g → IsUnfinished limit (g ++ cs) → ⊥
no_group limit [] cs h k = h
no_group limit (u ∷ us) cs (inl (a, b)) (p, l) = b p
no_group limit (u ∷ us) cs (inr (a, b)) (p, l) =
    (let r = reaches_long (length_of u) (length (info_of u)) us cs b in omega arith)

one_from : (limit : ℕ) (gs fs : List (List (List ℕ))) (run ran a b : List (List ℕ)) → grouped gs ++ run ≡ grouped fs ++ ran
    → Groups limit gs a → Groups limit fs b → IsUnfinished limit run → IsUnfinished limit ran → a ≡ b
one_from limit [] [] run ran a b e h k u v = h ∙ sym k
one_from limit [] (f ∷ fs) run ran a b e h (one, rest, q, i, p, more) u v =
    absurd (no_group limit f (grouped fs ++ ran) i (subst (IsUnfinished limit) (e ∙ append_assoc f (grouped fs) ran) u))
one_from limit (g ∷ gs) [] run ran a b e (one, rest, q, i, p, more) k u v =
    absurd (no_group limit g (grouped gs ++ run) i (subst (IsUnfinished limit) (sym e ∙ append_assoc g (grouped gs) run) v))
one_from limit (g ∷ gs) (f ∷ fs) run ran a b e (one, rest, q, i, p, more) (one2, rest2, q2, i2, p2, more2) u v =
    let w : g ++ (grouped gs ++ run) ≡ f ++ (grouped fs ++ ran) = sym (append_assoc g (grouped gs) run) ∙ e ∙ append_assoc f (grouped fs) ran in
    let s = group_same limit g f (grouped gs ++ run) (grouped fs ++ ran) i i2 w in
    let t : grouped gs ++ run ≡ grouped fs ++ ran = cancel g (grouped gs ++ run) (grouped fs ++ ran) (rw (← s) at w) in
    let x : one ≡ one2 = group_puts_same limit g one one2 p (rw (← s) at p2) in
    let y : rest ≡ rest2 = one_from limit gs fs run ran rest rest2 t more more2 u v in
    q ∙ ap (λ z. z ++ rest) x ∙ ap (λ z. one2 ++ z) y ∙ sym q2

pub puts_one : PutsOne
puts_one limit us a b (gs, run, e, h, u) (fs, ran, f, k, v) = one_from limit gs fs run ran a b (sym e ∙ f) h k u v
