-- How much of a reply a target's answers brought, told by where the target stands.
use Rattle.std.proofs.Common.{◌≡◌, ℕ, ◌+◌, ◌-◌, ◌<◌, ◌≤◌, nat_lt, Bool, true, false, List, [], ◌∷◌, ◌++◌, length, take, drop, Option, Some, None, refl, sym, ap, ◌∙◌, subst, arith, append_assoc}
use Rattle.std.proofs.Common.{take_all, length-append, length-drop, length-take, IfSome}
use Rattle.std.proofs.lemmas.Bool.{ltb-true}
use Rattle.std.proofs.lemmas.List.{take-append-drop, length-take-le, drop_all}
use Rattle.dep_pdu.specs.declared.frame.DepFrame.{DepFrame}
use Rattle.dep_pdu.specs.declared.frame.DepFrame.TheVariants.{Info, Ack, Attention, Extend}
use Rattle.dep_pdu.specs.Spelling.{IsDepFrame}
use Rattle.dep_link.specs.Frames.{after, before, piece}
use Rattle.nfc_base.proofs.Chains.{le_from_not, same}
use Rattle.dep_link.specs.Payloads.{Cut, joined}
use Rattle.dep_link.specs.Replies.{taken_up}
use Rattle.dep_link.specs.Target.{TargetState, TargetMove, Does, Stays, Answers, Begins, Delivers, Sleeps, Frees, grown, first_piece, replied, reply_frame}
use Rattle.dep_link.proofs.Standing.{before_after}
use Rattle.dep_link.proofs.Wire.{is_piece}

abbrev pub cut_at : ℕ → List ℕ → List (List ℕ) → Cut
cut_at n chain ps = record { next = n; chain = chain; payloads = ps }

-- How much of the reply r a target's answers brought, of which U is the cut, behind these replies of earlier exchanges: nothing, as time
-- is due; some, and what is left isn't sent; or all of it.
pub data Speaks (t : TargetState) (r : List ℕ) (past : List (List ℕ)) (U : Cut) : Type 0 where
  none_said : 0 < t.due → t.unsent ≡ true → t.left ≡ r → U ≡ cut_at (before t.expected) [] past → Speaks t r past U
  some_said : t.due ≡ 0 → t.unsent ≡ true → (xs : List ℕ) → r ≡ xs ++ t.left → t.most ≤ length xs → 0 < length t.left → U ≡ cut_at t.expected xs past
      → Speaks t r past U
  all_said : t.due ≡ 0 → t.unsent ≡ false → t.left ≡ [] → U ≡ cut_at t.expected [] (past ++ r ∷ []) → Speaks t r past U

-- the same, where the reply may not be given yet
abbrev pub Spoken : TargetState → List (List ℕ) → Option (List ℕ) → Cut → Type 0
Spoken t past None U = U ≡ cut_at t.expected [] past
Spoken t past (Some r) U = Speaks t r past U

-- What a target does at a frame of an exchange: it answers attention, says its last answer again, acknowledges a piece of the payload, hands
-- the payload over, sends the next piece of its reply, asks for time once more, or has its reply after it had time.
pub data Kind : Type 0 where
  attends : Kind
  repeats : DepFrame → Kind
  chains : List ℕ → Kind
  hands : List ℕ → Kind
  draws : Kind
  asks_again : Kind
  has_time : Kind

abbrev pub drew : TargetState → TargetState
drew t =
    record t { expected = after t.expected; last = Some (piece true t.most t.expected t.left); left = drop t.most t.left; unsent = nat_lt t.most (length t.left); followed = false }

abbrev pub given_time : TargetState → TargetState
given_time t = record t { due = 0; last = Some (first_piece t t.left); left = drop t.most t.left; unsent = nat_lt t.most (length t.left); followed = true }

abbrev pub move_of : TargetState → Kind → TargetMove
move_of t attends = record { state = t; does = Answers (Attention true) }
move_of t (repeats v) = record { state = t; does = Answers v }
move_of t (chains xs) = grown t true t.expected xs
move_of t (hands xs) = grown t false t.expected xs
move_of t draws = record { state = drew t; does = Answers (piece true t.most t.expected t.left) }
move_of t asks_again = record { state = record t { due = t.due - 1 }; does = Answers (Extend true t.times) }
move_of t has_time = record { state = given_time t; does = Answers (first_piece t t.left) }

-- An answer that was said before brings nothing.
abbrev pub IsOld : TargetState → Option (List ℕ) → DepFrame → Type 0
IsOld t given v = (past : List (List ℕ)) (U : Cut) → Spoken t past given U → taken_up U v ≡ U

-- when it does so
abbrev pub Fits : TargetState → Option (List ℕ) → Kind → Type 0
Fits t given attends = Unit {0}
Fits t given (repeats v) = (t.last ≡ Some v) × IsDepFrame v × IsOld t given v
Fits t given (chains xs) = given ≡ None
Fits t given (hands xs) = given ≡ None
Fits t given draws = (t.due ≡ 0) × (t.unsent ≡ true) × ((r : List ℕ) × (given ≡ Some r))
Fits t given asks_again = 1 < t.due
Fits t given has_time = (0 < t.due) × (t.due ≤ 1) × ((r : List ℕ) × (given ≡ Some r))

-- what of it stays in range
pub record InRange (t : TargetState) : Type 0 where
  pub number : t.expected < 4
  pub some : 0 < t.most
  pub most_fits : t.most ≤ 251
  pub asks : 1 ≤ t.times
  pub longest : t.times ≤ 59

before_small : (n : ℕ) → before n < 4
before_small n = omega arith

after_before : (n : ℕ) → n < 4 → after (before n) ≡ n
after_before n h = omega arith

-- a piece that comes next is taken
takes : (n : ℕ) (xs bytes : List ℕ) (past : List (List ℕ)) (most : ℕ)
    → taken_up (cut_at n xs past) (piece true most n bytes) ≡ joined (cut_at n xs past) (nat_lt most (length bytes)) (xs ++ take most bytes)
takes n xs bytes past most = rw (same n) refl

-- A piece of the reply is sent behind what was said, and u is the target then.
piece_said : (u : TargetState) (n : ℕ) (xs bytes r : List ℕ) (past : List (List ℕ)) (U : Cut) → U ≡ cut_at n xs past → r ≡ xs ++ bytes
    → u.expected ≡ after n → u.due ≡ 0 → u.unsent ≡ nat_lt u.most (length bytes) → u.left ≡ drop u.most bytes → Speaks u r past (taken_up U (piece true u.most n bytes))
piece_said u n xs bytes r past U is all next due unsent left = go (nat_lt u.most (length bytes)) refl
  where
    taken : taken_up U (piece true u.most n bytes) ≡ joined (cut_at n xs past) (nat_lt u.most (length bytes)) (xs ++ take u.most bytes)
    taken = ap (λ (c : Cut). taken_up c (piece true u.most n bytes)) is ∙ takes n xs bytes past u.most

    go : (b : Bool) → nat_lt u.most (length bytes) ≡ b → Speaks u r past (taken_up U (piece true u.most n bytes))
    go true b =
        let l = ltb-true u.most (length bytes) b in
        let size : length (take u.most bytes) ≡ u.most = length-take-le u.most bytes (omega arith) in
        let cut : xs ++ bytes ≡ xs ++ (take u.most bytes ++ drop u.most bytes) = ap (λ zs. xs ++ zs) (sym (take-append-drop u.most bytes)) in
        let whole : r ≡ (xs ++ take u.most bytes) ++ u.left =
        all ∙ cut ∙ sym (append_assoc xs (take u.most bytes) (drop u.most bytes)) ∙ ap (λ zs. (xs ++ take u.most bytes) ++ zs) (sym left) in
        let long : length (xs ++ take u.most bytes) ≡ length xs + length (take u.most bytes) = length-append xs (take u.most bytes) in
        let rest : length u.left ≡ length bytes - u.most = ap length left ∙ length-drop u.most bytes in
        some_said due (unsent ∙ b) (xs ++ take u.most bytes) whole (omega (arith, long, size)) (omega (arith, rest, l))
        (taken ∙ ap (λ (t : Bool). joined (cut_at n xs past) t (xs ++ take u.most bytes)) b ∙ ap (λ (k : ℕ). cut_at k (xs ++ take u.most bytes) past) (sym next))
    go false b =
        let l = le_from_not u.most (length bytes) b in
        let content : take u.most bytes ≡ bytes = take_all u.most bytes l in
        all_said due (unsent ∙ b) (left ∙ drop_all u.most bytes l)
        (taken ∙ ap (λ (t : Bool). joined (cut_at n xs past) t (xs ++ take u.most bytes)) b ∙ ap (λ (k : ℕ). cut_at k [] (past ++ (xs ++ take u.most bytes) ∷ [])) (sym next)
        ∙ ap (λ (zs : List ℕ). cut_at u.expected [] (past ++ zs ∷ [])) (ap (λ zs. xs ++ zs) content ∙ sym all))

-- what is so of a target behind its move, where U was the cut before
abbrev pub Said : TargetState → Option (List ℕ) → List (List ℕ) → Cut → Does → Type 0
Said u given past U Stays = ⊥
Said u given past U (Answers v) = IsDepFrame v × Spoken u past given (taken_up U v)
Said u given past U (Begins general v) = ⊥
Said u given past U (Delivers xs) = (given ≡ None) × ((r : List ℕ) → IsDepFrame (reply_frame u r) × Spoken (replied u r) past (Some r) (taken_up U (reply_frame u r)))
Said u given past U (Sleeps v) = ⊥
Said u given past U (Frees v) = ⊥

pub said_none : (t : TargetState) (past : List (List ℕ)) (U : Cut) (g : Option (List ℕ)) → g ≡ None → Spoken t past g U → U ≡ cut_at t.expected [] past
said_none t past U None e s = s
said_none t past U (Some r) e s = absurd (cc)

said_again : (t : TargetState) (g : Option (List ℕ)) (past : List (List ℕ)) (U : Cut) → g ≡ None → U ≡ cut_at t.expected [] past → Spoken t past g U
said_again t None past U e s = s
said_again t (Some r) past U e s = absurd (cc)

-- the owner replied
replied_said : (t : TargetState) (r : List ℕ) (past : List (List ℕ)) (U : Cut) (xs : List ℕ) → InRange t → U ≡ cut_at t.expected [] past
    → let u = (grown t false t.expected xs).state in IsDepFrame (reply_frame u r) × Speaks (replied u r) r past (taken_up U (reply_frame u r))
replied_said t r past U xs h s = go (nat_lt 0 t.busy) refl
  where
    u : TargetState
    u = (grown t false t.expected xs).state

    number : before (after t.expected) ≡ t.expected
    number = before_after t.expected h.number

    go : (b : Bool) → nat_lt 0 t.busy ≡ b → IsDepFrame (reply_frame u r) × Speaks (replied u r) r past (taken_up U (reply_frame u r))
    go true b = rw b ((h.asks, h.longest), none_said (ltb-true 0 t.busy b) refl refl (s ∙ ap (λ (n : ℕ). cut_at n [] past) (sym number)))
    go false b =
        let at : U ≡ cut_at (before (after t.expected)) [] past = s ∙ ap (λ (n : ℕ). cut_at n [] past) (sym number) in
        let w : TargetState = record u { last = Some (first_piece u r); left = drop t.most r; unsent = nat_lt t.most (length r); due = 0; followed = false } in
        let first = is_piece true t.most (before (after t.expected)) r (before_small (after t.expected)) h.most_fits in
        rw b (first, piece_said w (before (after t.expected)) [] r r past U at refl (ap after (sym number)) refl refl refl)

drawn_said : (t : TargetState) (r : List ℕ) (past : List (List ℕ)) (U : Cut) → t.due ≡ 0 → t.unsent ≡ true → Speaks t r past U
    → Speaks (drew t) r past (taken_up U (piece true t.most t.expected t.left))
drawn_said t r past U d n (none_said due unsent left is) = absurd (omega (arith, d, due))
drawn_said t r past U d n (some_said due unsent xs whole size rest is) = piece_said (drew t) t.expected xs t.left r past U is whole refl d refl refl
drawn_said t r past U d n (all_said due unsent left is) = absurd (let e : true ≡ false = sym n ∙ unsent in cc)

asked_said : (t : TargetState) (r : List ℕ) (past : List (List ℕ)) (U : Cut) → 1 < t.due → Speaks t r past U → Speaks (record t { due = t.due - 1 }) r past U
asked_said t r past U h (none_said due unsent left is) = none_said (omega arith) unsent left is
asked_said t r past U h (some_said due unsent xs whole size rest is) = absurd (omega (arith, h, due))
asked_said t r past U h (all_said due unsent left is) = absurd (omega (arith, h, due))

had_time_said : (t : TargetState) (r : List ℕ) (past : List (List ℕ)) (U : Cut) → t.expected < 4 → 0 < t.due → Speaks t r past U
    → Speaks (given_time t) r past (taken_up U (first_piece t t.left))
had_time_said t r past U h d (none_said due unsent left is) =
    piece_said (given_time t) (before t.expected) [] t.left r past U is (sym left) (sym (after_before t.expected h)) refl refl refl
had_time_said t r past U h d (some_said due unsent xs whole size rest is) = absurd (omega (arith, d, due))
had_time_said t r past U h d (all_said due unsent left is) = absurd (omega (arith, d, due))

-- behind each move
pub move_said : (t : TargetState) (g : Option (List ℕ)) (k : Kind) (past : List (List ℕ)) (U : Cut) → InRange t → Fits t g k → Spoken t past g U
    → Said (move_of t k).state g past U (move_of t k).does
move_said t g attends past U h f s = (tt, s)
move_said t g (repeats v) past U h f s = (f.1, subst (λ (c : Cut). Spoken t past g c) (sym (f.2 past U s)) s)
move_said t g (chains xs) past U h f s =
    let e = said_none t past U g f s in
    (h.number, said_again _ g past _ f (ap (λ (c : Cut). taken_up c (Ack true t.expected)) e ∙ rw (same t.expected) refl))
move_said t g (hands xs) past U h f s = (f, λ r. replied_said t r past U xs h (said_none t past U g f s))
move_said t None draws past U h f s = absurd (let e = f.2.1 in cc)
move_said t (Some r) draws past U h f s = (is_piece true t.most t.expected t.left h.number h.most_fits, drawn_said t r past U f.0 f.1 s)
move_said t None asks_again past U h f s = ((h.asks, h.longest), s)
move_said t (Some r) asks_again past U h f s = ((h.asks, h.longest), asked_said t r past U f s)
move_said t None has_time past U h f s = absurd (let e = f.2.1 in cc)
move_said t (Some r) has_time past U h f s = (is_piece true t.most (before t.expected) t.left (before_small t.expected) h.most_fits, had_time_said t r past U h.number f.0 s)

-- A piece of a reply has some content.
abbrev pub IsFilled : DepFrame → Type 0
IsFilled (Info up more pni content) = 0 < length content.items
IsFilled _ = Unit {0}

-- What a target said last of a reply that isn't empty has content.
abbrev pub Full : TargetState → Option (List ℕ) → Type 0
Full t None = Unit {0}
Full t (Some r) = 0 < length r → IfSome t.last IsFilled

abbrev pub FullSaid : TargetState → Option (List ℕ) → Does → Type 0
FullSaid u given (Delivers xs) = (r : List ℕ) → Full (replied u r) (Some r)
FullSaid u given _ = Full u given

filled : (most pni : ℕ) (bytes : List ℕ) → 0 < most → 0 < length bytes → IsFilled (piece true most pni bytes)
filled most pni bytes h k = let size = length-take most bytes in omega (arith, size)

full_replied : (u : TargetState) (r : List ℕ) → 0 < u.most → Full (replied u r) (Some r)
full_replied u r h = go (nat_lt 0 u.busy) refl
  where
    go : (b : Bool) → nat_lt 0 u.busy ≡ b → Full (replied u r) (Some r)
    go true b = rw b (λ k. tt)
    go false b = rw b (λ k. filled u.most (before u.expected) r h k)

full_none : (u : TargetState) (g : Option (List ℕ)) → g ≡ None → Full u g
full_none u None e = tt
full_none u (Some r) e = absurd (cc)

full_drawn : (t : TargetState) (r : List ℕ) (past : List (List ℕ)) (U : Cut) → 0 < t.most → t.due ≡ 0 → t.unsent ≡ true → Speaks t r past U → Full (drew t) (Some r)
full_drawn t r past U h d n (none_said due unsent left is) = absurd (omega (arith, d, due))
full_drawn t r past U h d n (some_said due unsent xs whole size rest is) = λ k. filled t.most t.expected t.left h rest
full_drawn t r past U h d n (all_said due unsent left is) = absurd (let e : true ≡ false = sym n ∙ unsent in cc)

full_timed : (t : TargetState) (r : List ℕ) (past : List (List ℕ)) (U : Cut) → 0 < t.most → 0 < t.due → Speaks t r past U → Full (given_time t) (Some r)
full_timed t r past U h d (none_said due unsent left is) = λ k. filled t.most (before t.expected) t.left h (subst (λ zs. 0 < length zs) (sym left) k)
full_timed t r past U h d (some_said due unsent xs whole size rest is) = absurd (omega (arith, d, due))
full_timed t r past U h d (all_said due unsent left is) = absurd (omega (arith, d, due))

pub move_full : (t : TargetState) (g : Option (List ℕ)) (k : Kind) (past : List (List ℕ)) (U : Cut) → InRange t → Fits t g k → Spoken t past g U → Full t g
    → FullSaid (move_of t k).state g (move_of t k).does
move_full t g attends past U h f s q = q
move_full t g (repeats v) past U h f s q = q
move_full t g (chains xs) past U h f s q = full_none (grown t true t.expected xs).state g f
move_full t g (hands xs) past U h f s q = λ r. full_replied (grown t false t.expected xs).state r h.some
move_full t None draws past U h f s q = tt
move_full t (Some r) draws past U h f s q = full_drawn t r past U h.some f.0 f.1 s
move_full t None asks_again past U h f s q = tt
move_full t (Some r) asks_again past U h f s q = q
move_full t None has_time past U h f s q = tt
move_full t (Some r) has_time past U h f s q = full_timed t r past U h.some f.0 s
