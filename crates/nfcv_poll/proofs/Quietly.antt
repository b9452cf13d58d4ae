-- What the requests of a pass without noise do to all tags: they look for each, and then tell each to stay quiet.
use Rattle.std.proofs.Common.{◌≡◌, ◌⊎◌, inl, inr, ◌≤◌, ◌<◌, ℕ, zero, suc, ◌+◌, List, [], ◌∷◌, length, map, filter_map, replicate, take, drop, Bool, true, false, not, ◌==◌, ◌&&◌, nat_eq, if◌then◌else◌}
use Rattle.std.proofs.Common.{Option, Some, None, refl, sym, ◌∙◌, ap, subst, arith}
use Rattle.std.specs.Cmp.Lexicographic.{pointwise}
use Rattle.std.proofs.lemmas.List.{length-reverse}
use Rattle.std.proofs.Math.Seq.{take-length}
use Rattle.nfc_base.specs.declared.event.Fate.{Fate}
use Rattle.nfc_base.specs.declared.event.Fate.TheVariants.{Pass, Damage, Lose, Break}
use Rattle.nfc_base.specs.declared.event.Heard.{Heard}
use Rattle.nfc_base.specs.declared.event.Heard.TheVariants.{Whole, Collided}
use Rattle.nfc_base.specs.declared.frame.Tech.{Tech}
use Rattle.nfc_base.specs.declared.frame.Tech.TheVariants.{A, V, F}
use Rattle.nfc_base.specs.Bits.{bits, of_bits}
use Rattle.nfc_base.specs.Signal.{Signal}
use Rattle.nfc_base.specs.Trace.{heard_by}
use Rattle.air_core.specs.Conversation.{joint_back}
use Rattle.air_core.specs.Joint.{Single, Clashing, joint, all_same, same_signal, same_tech, common_all}
use Rattle.air_core.specs.World.{Machine, answered_by, stepped_by}
use Rattle.nfca_poll.specs.Crowd.{Each}
use Rattle.nfca_poll.specs.Muted.{muted}
use Rattle.nfca_poll.proofs.quiet.Eaches.{IfSaid, each_said, said_none}
use Rattle.t5t_tag.specs.declared.answer.T5Answer.TheVariants.{Present}
use Rattle.t5t_tag.specs.declared.command.T5Command.TheVariants.{Quiet}
use Rattle.t5t_tag.specs.Mask.{low_first, asks_for}
use Rattle.t5t_tag.specs.Spelling.{quiet_code, command_frame}
use Rattle.t5t_tag.specs.Step.{silent, tells, sent, obeyed, names, out_of_round, t5_turn, t5_answer, t5_after}
use Rattle.t5t_tag.specs.Store.{T5State, id_size}
use Rattle.t5t_tag.proofs.Bytes.{left_of, right_of, equal_of, equal_bytes, bytes_self}
use Rattle.t5t_tag.proofs.Turns.{hushes}
use Rattle.nfcv_poll.specs.Crowd.{AreCrowd}
use Rattle.nfcv_poll.specs.Search.{said, id_at}
use Rattle.nfcv_poll.specs.Tags.{IsOneOf, StepAsTags, noise_back}
use Rattle.nfcv_poll.proofs.Members.{each_one}
use Rattle.nfcv_poll.proofs.Paths.{IsPath}
use Rattle.nfcv_poll.proofs.Sought.{Sought, Learns, ToldOf, due_frame, goes_sought}
use Rattle.nfcv_poll.proofs.Standing.{Fares, ArePlaced, said_tag, said_other, stepped_tag, stepped_other}
use Rattle.nfcv_poll.proofs.TagSteps.{at_question, at_quiet}
use Rattle.nfcv_poll.proofs.NoRound.{question_frame}

techs : (t u : Tech) → same_tech t u ≡ true → t ≡ u
techs A A e = refl
techs A V e = absurd cc
techs V A e = absurd cc
techs V V e = refl
techs A F e = absurd cc
techs V F e = absurd cc
techs F A e = absurd cc
techs F V e = absurd cc
techs F F e = refl

same_frame : (g k : Signal) → same_signal g k ≡ true → k ≡ g
same_frame g k e =
    let head : (same_tech g.tech k.tech && (g.tail == k.tail)) ≡ true = left_of (same_tech g.tech k.tech && (g.tail == k.tail)) (pointwise nat_eq g.bytes k.bytes) e in
    let t : g.tech ≡ k.tech = techs g.tech k.tech (left_of (same_tech g.tech k.tech) (g.tail == k.tail) head) in
    let n : g.tail ≡ k.tail = equal_of g.tail k.tail (right_of (same_tech g.tech k.tech) (g.tail == k.tail) head) in
    let b : g.bytes ≡ k.bytes = equal_bytes g.bytes k.bytes (right_of (same_tech g.tech k.tech && (g.tail == k.tail)) (pointwise nat_eq g.bytes k.bytes) e) in
    ap (λ z. record { tech = z; bytes = k.bytes; tail = k.tail }) (sym t)
    ∙ ap (λ z. record { tech = g.tech; bytes = z; tail = k.tail }) (sym b)
    ∙ ap (λ z. record { tech = g.tech; bytes = g.bytes; tail = z }) (sym n)

all_one : (g : Signal) (P : Signal → Type 0) → P g → (gs : List Signal) → all_same g gs ≡ true → Each P gs
all_one g P p [] e = tt
all_one g P p (k ∷ gs) e =
    (subst P (sym (same_frame g k (left_of (same_signal g k) (all_same g gs) e))) p, all_one g P p gs (right_of (same_signal g k) (all_same g gs) e))

-- answers that meet no noise are heard, alone or in a clash
pub told_all : (gs : List Signal) (y : Fate) (h : Heard) → noise_back (joint_back (joint gs) y) ≡ 0 → Some h ≡ heard_by Pass (joint_back (joint gs) y) → Each (ToldOf h) gs
told_all [] y h quiet e = tt
told_all (g ∷ gs) y h quiet e = by_same (all_same g gs) refl quiet e
  where
    clash : Signal
    clash = of_bits g.tech (common_all (bits g) (map bits gs))

    one_alone : all_same g gs ≡ true → (z : Fate) → noise_back (joint_back (Single g) z) ≡ 0 → Some h ≡ heard_by Pass (joint_back (Single g) z) → Each (ToldOf h) (g ∷ gs)
    one_alone s Pass q e =
        let whole : h ≡ Whole g = cc in
        (inr whole, all_one g (ToldOf h) (inr whole) gs s)
    one_alone s Damage q e = absurd cc
    one_alone s Lose q e = absurd cc
    one_alone s Break q e = absurd cc

    every : (ks : List Signal) → h ≡ Collided clash → Each (ToldOf h) ks
    every [] c = tt
    every (k ∷ ks) c = (inl (ap said c), every ks c)

    in_clash : (z : Fate) → noise_back (joint_back (Clashing clash) z) ≡ 0 → Some h ≡ heard_by Pass (joint_back (Clashing clash) z) → Each (ToldOf h) (g ∷ gs)
    in_clash Pass q e = let c : h ≡ Collided clash = cc in every (g ∷ gs) c
    in_clash Damage q e = absurd cc
    in_clash Lose q e = absurd cc
    in_clash Break q e = absurd cc

    by_same : (v : Bool) → all_same g gs ≡ v → noise_back (joint_back (if v then Single g else Clashing clash) y) ≡ 0 → Some h ≡ heard_by Pass (joint_back (if v then Single g else Clashing clash) y)
        → Each (ToldOf h) (g ∷ gs)
    by_same true s q e = one_alone s y q e
    by_same false s q e = in_clash y q e

-- a tag is quiet, or it is still to be told, by its place among those that were found
abbrev pub Still : List (List ℕ) → ℕ → T5State → Type 0
Still found n t = (t.quiet ≡ true) ⊎ ((j : ℕ) × (n ≤ j) × (id_at found j ≡ Some t.id))

-- each that was found has a place
pub place_of : (found : List (List ℕ)) (i : List ℕ) → IsOneOf i found → (j : ℕ) × (0 ≤ j) × (id_at found j ≡ Some i)
place_of [] i h = absurd h
place_of (k ∷ found) i (inl e) = (0, omega arith, ap Some e)
place_of (k ∷ found) i (inr h) = let p = place_of found i h in (suc p.0, omega arith, p.2)

-- behind the last place there is none
none_behind : (found : List (List ℕ)) (n j : ℕ) (i : List ℕ) → id_at found n ≡ None → n ≤ j → id_at found j ≡ Some i → ⊥
none_behind [] n j i none h e = cc
none_behind (k ∷ found) zero j i none h e = cc
none_behind (k ∷ found) (suc n) zero i none h e = omega (arith, h)
none_behind (k ∷ found) (suc n) (suc j) i none h e = none_behind found n j i none (omega (arith, h)) e

pub quiet_at_last : (found : List (List ℕ)) (n : ℕ) (t : T5State) → id_at found n ≡ None → Still found n t → t.quiet ≡ true
quiet_at_last found n t none (inl q) = q
quiet_at_last found n t none (inr p) = absurd (none_behind found n p.0 t.id none p.1 p.2)

-- who is named is quiet then, and who was quiet is so still
hush_quiets : (t : T5State) (id : List ℕ) → length id ≡ id_size → (t.quiet ≡ true) ⊎ (t.id ≡ id) → (t5_after t (command_frame (Quiet id))).quiet ≡ true
hush_quiets t id eight why = by_names (names u (low_first id)) refl
  where
    u : T5State
    u = out_of_round t

    long : length (low_first id) ≡ id_size
    long = length-reverse id ∙ eight

    whole : take id_size (low_first id) ≡ low_first id
    whole = ap (λ n. take n (low_first id)) (sym long) ∙ take-length (low_first id)

    named : t.id ≡ id → names u (low_first id) ≡ true
    named e = ap (λ x. pointwise nat_eq x (low_first t.id)) whole ∙ ap (λ i. pointwise nat_eq (low_first id) (low_first i)) e ∙ bytes_self (low_first id)

    unnamed : names u (low_first id) ≡ false → (t.quiet ≡ true) ⊎ (t.id ≡ id) → t.quiet ≡ true
    unnamed n (inl q) = q
    unnamed n (inr e) = absurd (let no_ : true ≡ false = sym (named e) ∙ n in cc)

    by_names : (v : Bool) → names u (low_first id) ≡ v
        → (if not v then silent u else if (quiet_code == quiet_code) && (length (low_first id) == id_size) then hushes u else obeyed u quiet_code (drop id_size (low_first id))).after.quiet ≡ true
    by_names false n = unnamed n why
    by_names true n = rw long refl

pub still_next : (found : List (List ℕ)) (n : ℕ) (id : List ℕ) (t : T5State) → length id ≡ id_size → id_at found n ≡ Some id → Still found n t
    → Still found (n + 1) (t5_after t (command_frame (Quiet id)))
still_next found n id t eight at (inl q) = inl (hush_quiets t id eight (inl q))
still_next found n id t eight at (inr p) = by_place (nat_eq n p.0) refl
  where
    same : (a b : ℕ) → nat_eq a b ≡ true → a ≡ b
    same a b h = grind arith

    more : (a b : ℕ) → nat_eq a b ≡ false → a ≤ b → a + 1 ≤ b
    more a b h k = grind (arith, h, k)

    by_place : (v : Bool) → nat_eq n p.0 ≡ v → Still found (n + 1) (t5_after t (command_frame (Quiet id)))
    by_place true e =
        let here_ : Some id ≡ Some t.id = sym at ∙ ap (id_at found) (same n p.0 e) ∙ p.2 in
        let its : t.id ≡ id = cc in
        inl (hush_quiets t id eight (inr its))
    by_place false e = inr (p.0, more n p.0 e p.1, p.2 ∙ ap Some (sym (at_quiet t id eight).id'))

pub quiet_silent : (t : T5State) → t.quiet ≡ true → t5_answer t question_frame ≡ None
quiet_silent t q =
    let u : T5State = out_of_round t in
    ap (λ v. sent (if not v && asks_for u.id 0 [] then tells u (Present u.id) else silent u).answer) q

pub quiet_still : (t : T5State) → t.quiet ≡ true → (t5_after t question_frame).quiet ≡ true
quiet_still t q = (at_question t (replicate id_size 0)).quiet ∙ q

module _ {L : Type 0} (m : Machine L) (tag : L → T5State) (lit : L → Bool) (are : StepAsTags m tag lit) (ids : List (List ℕ)) (crowd : AreCrowd ids) where
  -- A frame of NFC-V that tags in the light hear.
  module _ (f : Signal) (of_v : f.tech ≡ V) (found : List (List ℕ)) where
    abbrev next : L → L
    next l = stepped_by (muted m) l f None

    abbrev saying : L → Option Signal
    saying l = answered_by (muted m) l f None

    not_other : (l : L) (t : Tech) → same_tech V t ≡ false → m.tech l ≡ t → m.tech (next l) ≡ V → ⊥
    not_other l t apart e v =
        let is : V ≡ t = sym v ∙ ap m.tech (stepped_other m tag lit are ids f of_v l t apart e) ∙ e in
        let no_ : true ≡ false = ap (same_tech V) is ∙ apart in cc

    -- what it makes of each tag it makes of the listeners
    pub each_goes : (P Q : T5State → Type 0) → ((t : T5State) → P t → Q (t5_after t f)) → (ls : List L) → ArePlaced m tag lit are ids found ls → Each (λ l. m.tech l ≡ V → P (tag l)) ls
        → Each (λ l. m.tech l ≡ V → Q (tag l)) (map next ls)
    each_goes P Q go [] p h = tt
    each_goes P Q go (l ∷ ls) p h = (one (m.tech l) refl, each_goes P Q go ls p.1 h.1)
      where
        one : (t : Tech) → m.tech l ≡ t → m.tech (next l) ≡ V → Q (tag (next l))
        one A e v = absurd (not_other l A refl e v)
        one F e v = absurd (not_other l F refl e v)
        one V e v =
            let g = are.goes l f e (p.0 e).lit' in
            subst (λ z. Q (tag z)) (sym (stepped_tag m tag lit are ids f of_v l e)) (subst Q (sym g.1) (go (tag l) (h.0 e)))

    -- those that say nothing are heard as nothing
    pub none_says : (ls : List L) → ArePlaced m tag lit are ids found ls → Each (λ l. m.tech l ≡ V → t5_answer (tag l) f ≡ None) ls → filter_map saying ls ≡ []
    none_says ls p h = said_none saying ls (each_none ls p h)
      where
        each_none : (ks : List L) → ArePlaced m tag lit are ids found ks → Each (λ l. m.tech l ≡ V → t5_answer (tag l) f ≡ None) ks → Each (λ l. saying l ≡ None) ks
        each_none [] p h = tt
        each_none (k ∷ ks) p h = (one (m.tech k) refl, each_none ks p.1 h.1)
          where
            one : (t : Tech) → m.tech k ≡ t → saying k ≡ None
            one A e = said_other m tag lit are ids f of_v k A refl e
            one F e = said_other m tag lit are ids f of_v k F refl e
            one V e = said_tag m tag lit are ids f of_v k e ∙ are.answers k f e (p.0 e).lit' ∙ h.0 e

  due_of_v : (path : List ℕ) (v : Bool) → (due_frame path v).tech ≡ V
  due_of_v path true = refl
  due_of_v path false = refl

  abbrev pub AreSought : List (List ℕ) → List ℕ → ℕ → List (List ℕ) → List (List ℕ) → List L → Type 0
  AreSought found path slot cs ws ls = Each (λ l. m.tech l ≡ V → Sought found path slot cs ws (tag l)) ls

  -- a slot
  module _ (found : List (List ℕ)) (path : List ℕ) (slot : ℕ) (cs ws : List (List ℕ)) (h : Heard) (found' cs' ws' : List (List ℕ)) (learns : Learns ids found path slot cs ws h found' cs' ws')
      (is : IsPath path) (less : slot < 16)
      (fares : (t : T5State) → Fares found t (due_frame path (nat_eq slot 0))) where
    abbrev f : Signal
    f = due_frame path (nat_eq slot 0)

    of_v : f.tech ≡ V
    of_v = due_of_v path (nat_eq slot 0)

    abbrev step : L → L
    step l = stepped_by (muted m) l f None

    all_go : (ls : List L) → ArePlaced m tag lit are ids found ls → Each (λ l. IfSaid (ToldOf h) (answered_by (muted m) l f None)) ls → AreSought found path slot cs ws ls
        → AreSought found' path (slot + 1) cs' ws' (map step ls)
    all_go [] p t k = tt
    all_go (l ∷ ls) p t k = (one (m.tech l) refl, all_go ls p.1 t.1 k.1)
      where
        on : m.tech l ≡ V → Sought found' path (slot + 1) cs' ws' (tag (m.after l f None))
        on e =
            let q = p.0 e in
            let long : length (tag l).id ≡ id_size = each_one (λ i. length i ≡ id_size) ids (tag l).id crowd.long q.own in
            let small : Each (λ b. b < 256) (tag l).id = each_one (λ i. Each (λ b. b < 256) i) ids (tag l).id crowd.bytes q.own in
            let heard : IfSaid (ToldOf h) (sent (t5_turn (tag l) f).answer) = subst (IfSaid (ToldOf h)) (said_tag m tag lit are ids f of_v l e ∙ are.answers l f e q.lit') t.0 in
            subst (Sought found' path (slot + 1) cs' ws') (sym (are.goes l f e q.lit').1)
            (goes_sought ids found path slot cs ws h found' cs' ws' learns is less (tag l) long small (fares (tag l)) heard (k.0 e))

        one : (t : Tech) → m.tech l ≡ t → m.tech (step l) ≡ V → Sought found' path (slot + 1) cs' ws' (tag (step l))
        one A e v = absurd (not_other f of_v found l A refl e v)
        one F e v = absurd (not_other f of_v found l F refl e v)
        one V e v = subst (λ z. Sought found' path (slot + 1) cs' ws' (tag z)) (sym (stepped_tag m tag lit are ids f of_v l e)) (on e)

    pub sought_on : (ls : List L) → ArePlaced m tag lit are ids found ls → Each (ToldOf h) (filter_map (λ l. answered_by (muted m) l f None) ls) → AreSought found path slot cs ws ls
        → AreSought found' path (slot + 1) cs' ws' (map step ls)
    sought_on ls p t k = all_go ls p (each_said (ToldOf h) (λ l. answered_by (muted m) l f None) ls t) k
