-- Questions among listeners that answer the same however often they are asked.
use Rattle.std.proofs.Common.{◌≡◌, ◌⊎◌, ℕ, zero, suc, ◌+◌, ◌≤◌, List, [], ◌∷◌, ◌++◌, length, drop, map, filter_map, Bool, true, false, ◌&&◌, ◌==◌, nat_eq, if◌then◌else◌, inl, inr, refl, sym, ◌∙◌, ap}
use Rattle.std.proofs.Common.{subst, append_assoc, arith, Option, Some, None}
use Rattle.std.specs.List.{cons_option}
use Rattle.std.specs.Cmp.Lexicographic.{pointwise}
use Rattle.nfc_base.specs.declared.frame.Tech.{Tech}
use Rattle.nfc_base.specs.declared.frame.Tech.TheVariants.{A, V, F}
use Rattle.nfc_base.specs.declared.event.Event.{Event}
use Rattle.nfc_base.specs.declared.event.Heard.{Heard}
use Rattle.nfc_base.specs.declared.event.Heard.TheVariants.{Whole, Damaged, Silent}
use Rattle.nfc_base.specs.Far.{Untouched}
use Rattle.nfc_base.specs.Signal.{Signal}
use Rattle.nfc_base.specs.Bits.{bits, of_bits}
use Rattle.nfc_base.specs.Trace.{noise}
use Rattle.air_core.specs.Joint.{Single, Clashing, joint, all_same, common_all, same_tech, same_signal}
use Rattle.air_core.specs.World.{Machine, World, hears, hands_over, stepped_by, answered_by}
use Rattle.air_core.specs.Turn.{Air, moment}
use Rattle.air_core.specs.Conversation.{Moment, TurnsTo}
use Rattle.nfca_poll.specs.Muted.{mute_reply, muted, mute_air}
use Rattle.nfca_poll.specs.Enquiry.{Enquiry}
use Rattle.nfca_poll.specs.Inventory.{heard_again, IsSteady, NoneAnswers, AnswersBy}
use Rattle.nfca_poll.specs.Crowd.{Each}
use Rattle.nfca_poll.proofs.quiet.Clashes.{Has, and_both}
use Rattle.nfca_poll.proofs.quiet.Eaches.{none_in, each_map, IfSaid, each_said}
use Rattle.nfca_poll.proofs.identifiers.HeardBits.{heard_of, pointwise_path}
use Rattle.nfca_poll.proofs.enquiries.Enquiring.{Reached}
use Rattle.nfca_poll.proofs.quiet.Crowding.{noise-append, drop-front, events_of, turn_trace}
use Rattle.nfca_poll.proofs.noise.NoisyTurns.{WorldWas, passed, unheard, damaged, lost, world_was}

-- answers are heard
heard_some : (g : Signal) (gs : List Signal) (h : Heard) → h ≡ heard_of (joint (g ∷ gs)) → (h ≡ Silent) ⊎ (h ≡ Damaged) → ⊥
heard_some g gs h e s = by_same (all_same g gs) e s
  where
    by_same : (v : Bool) → h ≡ heard_of (if v then Single g else Clashing (of_bits g.tech (common_all (bits g) (map bits gs)))) → (h ≡ Silent) ⊎ (h ≡ Damaged) → ⊥
    by_same true q (inl s) = cc
    by_same true q (inr s) = cc
    by_same false q (inl s) = cc
    by_same false q (inr s) = cc

-- What is known once so many tries were in vain: where nobody answers none was damaged, else each met noise.
abbrev pub Vain : List Signal → ℕ → Bool → ℕ → Type 0
Vain [] n d k = d ≡ false
Vain (g ∷ gs) n d k = n ≤ k

module _ {L : Type 0} (m : Machine L) (f : Signal) where
  abbrev step : L → L
  step l = stepped_by (muted m) l f None

  abbrev says : L → Option Signal
  says l = answered_by (muted m) l f None

  abbrev pub answer_of : L → Option Signal
  answer_of l = answered_by m l f None

  abbrev again : ℕ → L → L
  again n l = heard_again m f l n

  -- what hands nothing over does the same under a mute far end
  mute_same : (l : L) (v : Bool) → hears m l f ≡ v → hands_over m l f ≡ Untouched → (step l ≡ stepped_by m l f None) × (says l ≡ answer_of l)
  mute_same l true h u =
      let none : mute_reply (m.handed l f) ≡ None = ap mute_reply (ap (λ v. if v then m.handed l f else Untouched) (sym h) ∙ u) in (
        ap (λ v. if v then m.after l f (mute_reply (m.handed l f)) else l) h ∙ ap (m.after l f) none ∙ ap (λ v. if v then m.after l f None else l) (sym h),
        ap (λ v. if v then m.answer l f (mute_reply (m.handed l f)) else None) h ∙ ap (m.answer l f) none ∙ ap (λ v. if v then m.answer l f None else None) (sym h),
      )
  mute_same l false h u = (
    ap (λ v. if v then m.after l f (mute_reply (m.handed l f)) else l) h ∙ ap (λ v. if v then m.after l f None else l) (sym h),
    ap (λ v. if v then m.answer l f (mute_reply (m.handed l f)) else None) h ∙ ap (λ v. if v then m.answer l f None else None) (sym h),
  )

  -- what doesn't hear it stays
  deaf : (l : L) → hears m l f ≡ false → (n : ℕ) → again n l ≡ l
  deaf l h zero = refl
  deaf l h (suc n) = ap (λ x. stepped_by m x f None) (deaf l h n) ∙ ap (λ v. if v then m.after l f None else l) h

  one_tech : (t u : Tech) → same_tech t u ≡ true → t ≡ u
  one_tech A A e = refl
  one_tech A V e = absurd cc
  one_tech A F e = absurd cc
  one_tech V A e = absurd cc
  one_tech V V e = refl
  one_tech V F e = absurd cc
  one_tech F A e = absurd cc
  one_tech F V e = absurd cc
  one_tech F F e = refl

  -- whether it hears it or not, a steady listener hands nothing over and answers the same
  holds_still : (l : L) → IsSteady m f l → (n : ℕ) (v : Bool) → hears m l f ≡ v → (hands_over m (again n l) f ≡ Untouched) × (answer_of (again n l) ≡ answer_of l)
  holds_still l s n true h = s (one_tech (m.tech l) f.tech h) n
  holds_still l s n false h = (ap (λ x. hands_over m x f) (deaf l h n) ∙ ap (λ v. if v then m.handed l f else Untouched) h, ap answer_of (deaf l h n))

  steady_one : (l : L) → IsSteady m f l → (n : ℕ) → (step (again n l) ≡ again (suc n) l) × (says (again n l) ≡ answer_of l)
  steady_one l s n =
      let k = holds_still l s n (hears m l f) refl in
      let q = mute_same (again n l) (hears m (again n l) f) refl k.0 in (q.0, q.1 ∙ k.1)

  steady_all : (ls : List L) → Each (IsSteady m f) ls → (n : ℕ) → (map step (map (again n) ls) ≡ map (again (suc n)) ls) × (filter_map says (map (again n) ls) ≡ filter_map answer_of ls)
  steady_all [] s n = (refl, refl)
  steady_all (l ∷ ls) s n =
      let one = steady_one l s.0 n in
      let rest = steady_all ls s.1 n in (
        ap (λ x. x ∷ map step (map (again n) ls)) one.0 ∙ ap (λ xs. again (suc n) l ∷ xs) rest.0,
        ap (λ o. cons_option o (filter_map says (map (again n) ls))) one.1 ∙ ap (cons_option (answer_of l)) rest.1,
      )

  all_zero : (ls : List L) → map (again 0) ls ≡ ls
  all_zero [] = refl
  all_zero (l ∷ ls) = ap (λ xs. l ∷ xs) (all_zero ls)

  -- each has heard it so many times
  abbrev pub Again : List L → List L → Type 0
  Again ls ws = (j : ℕ) × (ws ≡ map (again j) ls)

  heard_all : (ls ws : List L) → Each (IsSteady m f) ls → Again ls ws → (Again ls (map step ws)) × (filter_map says ws ≡ filter_map answer_of ls)
  heard_all ls ws s (j, e) =
      let all = steady_all ls s j in ((suc j, ap (map step) e ∙ all.0), ap (filter_map says) e ∙ all.1)

  -- a try that was in vain
  one_vain : (gs : List Signal) (ls : List L) (w v : World L) (h : Heard) (t n k : ℕ) (d e : Bool) → Each (IsSteady m f) ls → Again ls w.listeners → filter_map answer_of ls ≡ gs → WorldWas m w f v h t
      → ((h ≡ Silent) × (e ≡ d)) ⊎ ((h ≡ Damaged) × (e ≡ true)) → Vain gs n d k → Again ls v.listeners × Vain gs (n + 1) e (k + t)
  one_vain gs ls w _ h _ n k d e s j q passed i a =
      let all = heard_all ls w.listeners s j in (all.0, still gs i (ap (λ x. heard_of (joint x)) (all.1 ∙ q)) a)
    where
      still : (xs : List Signal) → ((h ≡ Silent) × (e ≡ d)) ⊎ ((h ≡ Damaged) × (e ≡ true)) → h ≡ heard_of (joint xs) → Vain xs n d k → Vain xs (n + 1) e (k + 0)
      still [] (inl j) z b = j.1 ∙ b
      still [] (inr j) z b = absurd cc
      still (g ∷ xs) (inl j) z b = absurd (heard_some g xs h z (inl j.0))
      still (g ∷ xs) (inr j) z b = absurd (heard_some g xs h z (inr j.0))
  one_vain gs ls w _ _ _ n k d e s j q unheard i a = (j, more gs i a)
    where
      more : (xs : List Signal) → ((Silent ≡ Silent) × (e ≡ d)) ⊎ ((Silent ≡ Damaged) × (e ≡ true)) → Vain xs n d k → Vain xs (n + 1) e (k + 1)
      more [] (inl j) b = j.1 ∙ b
      more [] (inr j) b = absurd cc
      more (g ∷ xs) j b = omega (arith, b)
  one_vain gs ls w _ _ _ n k d e s j q (damaged g h) i a = let all = heard_all ls w.listeners s j in (all.0, met gs (let H : List Signal → Type 0 = λ x. Has g x in subst H (all.1 ∙ q) h) a)
    where
      met : (xs : List Signal) → Has g xs → Vain xs n d k → Vain xs (n + 1) e (k + 1)
      met [] z b = absurd z
      met (x ∷ xs) z b = omega (arith, b)
  one_vain gs ls w _ _ _ n k d e s j q (lost g h) i a = let all = heard_all ls w.listeners s j in (all.0, met gs (let H : List Signal → Type 0 = λ x. Has g x in subst H (all.1 ∙ q) h) a)
    where
      met : (xs : List Signal) → Has g xs → Vain xs n d k → Vain xs (n + 1) e (k + 1)
      met [] z b = absurd z
      met (x ∷ xs) z b = omega (arith, b)

  -- a whole answer is one of theirs
  joint_in : (g : Signal) (gs : List Signal) → Whole g ≡ heard_of (joint gs) → Has g gs
  joint_in g [] e = absurd cc
  joint_in g (x ∷ gs) e = by_same (all_same x gs) e
    where
      by_same : (v : Bool) → Whole g ≡ heard_of (if v then Single x else Clashing (of_bits x.tech (common_all (bits x) (map bits gs)))) → Has g (x ∷ gs)
      by_same true q = inl (whole_same g x q)
        where
          whole_same : (a b : Signal) → Whole a ≡ Whole b → a ≡ b
          whole_same a b z = cc
      by_same false q = absurd cc

  -- it's the answer of each
  single_each : (g : Signal) (gs : List Signal) → all_same g gs ≡ true → Each (λ x. x.bytes ≡ g.bytes) gs
  single_each g [] e = tt
  single_each g (x ∷ gs) e =
      let p : _ × _ = and_both (same_signal g x) (all_same g gs) e in
      (sym (pointwise_path g.bytes x.bytes (and_both (same_tech g.tech x.tech && (g.tail == x.tail)) (pointwise nat_eq g.bytes x.bytes) p.0).1), single_each g gs p.1)

  joint_each : (g : Signal) (gs : List Signal) → Whole g ≡ heard_of (joint gs) → Each (λ x. x.bytes ≡ g.bytes) gs
  joint_each g [] e = tt
  joint_each g (x ∷ gs) e = by_same (all_same x gs) refl e
    where
      by_same : (v : Bool) → all_same x gs ≡ v → Whole g ≡ heard_of (if v then Single x else Clashing (of_bits x.tech (common_all (bits x) (map bits gs)))) → Each (λ y. y.bytes ≡ g.bytes) (x ∷ gs)
      by_same true o q = let same : x.bytes ≡ g.bytes = whole_bytes g x q in (same, each_map (λ y. y.bytes ≡ x.bytes) (λ y. y.bytes ≡ g.bytes) (λ y k. k ∙ same) gs (single_each x gs o))
        where
          whole_bytes : (a b : Signal) → Whole a ≡ Whole b → b.bytes ≡ a.bytes
          whole_bytes a b z = cc
      by_same false o q = absurd cc

  abbrev pub AnswersThat : Signal → L → Type 0
  AnswersThat g l = (x : Signal) → answer_of l ≡ Some x → x.bytes ≡ g.bytes

  that_each : (g : Signal) (ls : List L) → Each (λ x. x.bytes ≡ g.bytes) (filter_map answer_of ls) → Each (AnswersThat g) ls
  that_each g ls e =
      let P : Signal → Type 0 = λ x. x.bytes ≡ g.bytes in
      each_map (λ l. IfSaid P (answer_of l)) (AnswersThat g) (λ l k x z. subst (IfSaid P) z k) ls (each_said P answer_of ls e)

  that_was : (g : Signal) (ls : List L) (w v : World L) (h : Heard) (t : ℕ) → Each (IsSteady m f) ls → Again ls w.listeners → WorldWas m w f v h t → h ≡ Whole g → Each (AnswersThat g) ls
  that_was g ls w _ h _ s j passed e =
      let all = heard_all ls w.listeners s j in that_each g ls (joint_each g (filter_map answer_of ls) (sym e ∙ ap (λ x. heard_of (joint x)) all.1))
  that_was g ls w _ _ _ s j unheard e = absurd cc
  that_was g ls w _ _ _ s j (damaged x h) e = absurd cc
  that_was g ls w _ _ _ s j (lost x h) e = absurd cc

  module _ (shows : Signal → Bool) where
    well_in : (g : Signal) (ls : List L) → Each (AnswersBy shows m f) ls → Has g (filter_map answer_of ls) → shows g ≡ true
    well_in g [] w h = absurd h
    well_in g (l ∷ ls) w h = by_one (λ k. well_in g ls w.1 k) (answer_of l) refl h
      where
        by_one : (Has g (filter_map answer_of ls) → shows g ≡ true) → (o : Option Signal) → answer_of l ≡ o → Has g (cons_option o (filter_map answer_of ls)) → shows g ≡ true
        by_one rest None q k = rest k
        by_one rest (Some x) q (inl k) = w.0 g (q ∙ ap Some (sym k))
        by_one rest (Some x) q (inr k) = rest k

    well_was : (g : Signal) (ls : List L) (w v : World L) (h : Heard) (t : ℕ) → Each (IsSteady m f) ls → Again ls w.listeners → Each (AnswersBy shows m f) ls → WorldWas m w f v h t → h ≡ Whole g
        → shows g ≡ true
    well_was g ls w _ h _ s j well passed e =
        let all = heard_all ls w.listeners s j in well_in g ls well (joint_in g (filter_map answer_of ls) (sym e ∙ ap (λ x. heard_of (joint x)) all.1))
    well_was g ls w _ _ _ s j well unheard e = absurd cc
    well_was g ls w _ _ _ s j well (damaged x h) e = absurd cc
    well_was g ls w _ _ _ s j well (lost x h) e = absurd cc

  -- so many tries were in vain, and the listeners have heard each that passed
  abbrev pub InVain : Air L → Air L → ℕ → Bool → Type 0
  InVain old now n d =
      Each (IsSteady m f) old.listeners → Again old.listeners now.listeners × Vain (filter_map answer_of old.listeners) n d (noise (drop (length old.trace) now.trace))

  start_vain : (gs : List Signal) (k : ℕ) → Vain gs 0 false k
  start_vain [] k = refl
  start_vain (g ∷ gs) k = omega arith

  pub vain_start : (old : Air L) → InVain old old 0 false
  vain_start old s = ((0, sym (all_zero old.listeners)), start_vain (filter_map answer_of old.listeners) (noise (drop (length old.trace) old.trace)))

  module _ {S X : Type 0} (e : Enquiry S X) where
    noise_so_far : (old now new : Air L) (s : S) (h : Heard) → Reached e m old now s → TurnsTo (mute_air m) (moment now) (moment new) f (Some h)
        → noise (drop (length old.trace) now.trace) + noise (events_of m now f) ≡ noise (drop (length old.trace) new.trace)
    noise_so_far old now new s h r t =
        let M : Moment (World L) → List Event = λ x. x.trace in
        let es : List Event = r.going.events in
        let ts : List Event = events_of m now f in
        let before : now.trace ≡ old.trace ++ es = ap M r.going.moment in
        let all : new.trace ≡ old.trace ++ (es ++ ts) = turn_trace m now new f (Some h) t ∙ ap (λ x. x ++ ts) before ∙ append_assoc old.trace es ts in
        let left : drop (length old.trace) new.trace ≡ es ++ ts = ap (drop (length old.trace)) all ∙ drop-front old.trace (es ++ ts) in
        let first : drop (length old.trace) now.trace ≡ es = ap (drop (length old.trace)) before ∙ drop-front old.trace es in
        ap (λ x. noise x + noise ts) first ∙ sym (ap noise left ∙ noise-append es ts)

    pub vain_turn : (old now new : Air L) (st : S) (n : ℕ) (d d' : Bool) (h : Heard) → InVain old now n d → Reached e m old now st → TurnsTo (mute_air m) (moment now) (moment new) f (Some h)
        → ((h ≡ Silent) × (d' ≡ d)) ⊎ ((h ≡ Damaged) × (d' ≡ true)) → InVain old new (n + 1) d'
    vain_turn old now new st n d d' h vain r t i s =
        let k = vain s in
        let gs : List Signal = filter_map answer_of old.listeners in
        let one = one_vain gs old.listeners (moment now).world (moment new).world h (noise (events_of m now f)) n (noise (drop (length old.trace) now.trace)) d d' s k.0 refl
        (world_was m now new f h t) i k.1 in
        let N : ℕ → Type 0 = λ x. Vain gs (n + 1) d' x in
        (one.0, subst N (noise_so_far old now new st h r t) one.1)

    -- where each answers well, so does what is heard whole
    pub well_heard : (shows : Signal → Bool) (old now new : Air L) (n : ℕ) (d : Bool) (h : Heard) (g : Signal) → InVain old now n d → TurnsTo (mute_air m) (moment now) (moment new) f (Some h)
        → h ≡ Whole g
        → Each (IsSteady m f) old.listeners → Each (AnswersBy shows m f) old.listeners → shows g ≡ true
    well_heard shows old now new n d h g vain t whole s well =
        well_was shows g old.listeners (moment now).world (moment new).world h (noise (events_of m now f)) s (vain s).0 well (world_was m now new f h t) whole

    -- what is heard whole is the answer of each that answers
    pub alone_heard : (old now new : Air L) (n : ℕ) (d : Bool) (h : Heard) (g : Signal) → InVain old now n d → TurnsTo (mute_air m) (moment now) (moment new) f (Some h) → h ≡ Whole g
        → Each (IsSteady m f) old.listeners → Each (AnswersThat g) old.listeners
    alone_heard old now new n d h g vain t whole s =
        that_was g old.listeners (moment now).world (moment new).world h (noise (events_of m now f)) s (vain s).0 (world_was m now new f h t) whole

  missed : (gs : List Signal) (ls : List L) (n k : ℕ) (d : Bool) → filter_map answer_of ls ≡ gs → Vain gs n d k → NoneAnswers m f ls ⊎ (n ≤ k)
  missed [] ls n k d e v = inl (none_in answer_of ls e)
  missed (g ∷ gs) ls n k d e v = inr v

  pub vain_missed : (old new : Air L) (n : ℕ) (d : Bool) → InVain old new n d → Each (IsSteady m f) old.listeners → NoneAnswers m f old.listeners ⊎ (n ≤ noise (drop (length old.trace) new.trace))
  vain_missed old new n d vain s = missed (filter_map answer_of old.listeners) old.listeners n (noise (drop (length old.trace) new.trace)) d refl (vain s).1

  all_noisy : (gs : List Signal) (n k : ℕ) → Vain gs n true k → n ≤ k
  all_noisy [] n k v = absurd cc
  all_noisy (g ∷ gs) n k v = v

  pub vain_noisy : (old new : Air L) (n : ℕ) → InVain old new n true → Each (IsSteady m f) old.listeners → n ≤ noise (drop (length old.trace) new.trace)
  vain_noisy old new n vain s = all_noisy (filter_map answer_of old.listeners) n (noise (drop (length old.trace) new.trace)) (vain s).1

  far : (ls : List L) (n k : ℕ) → 4 ≤ n → NoneAnswers m f ls ⊎ (n ≤ k) → NoneAnswers m f ls ⊎ (4 ≤ k)
  far ls n k a (inl x) = inl x
  far ls n k a (inr y) = inr (omega (arith, a, y))

  pub far_missed : (old new : Air L) (n : ℕ) (d : Bool) → 4 ≤ n → InVain old new n d → Each (IsSteady m f) old.listeners
      → NoneAnswers m f old.listeners ⊎ (4 ≤ noise (drop (length old.trace) new.trace))
  far_missed old new n d a vain s = far old.listeners n (noise (drop (length old.trace) new.trace)) a (vain_missed old new n d vain s)
