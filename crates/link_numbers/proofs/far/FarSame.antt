-- A peer alone whose replies have the numbers that its answers show does the same as by the true ones.
use Rattle.std.proofs.Common.{◌≡◌, ◌⊎◌, inl, inr, ℕ, ◌<◌, ◌≤◌, List, [], ◌∷◌, ◌++◌, length, if◌then◌else◌, Bool, true, false, Option, Some, None, IfSome, refl, sym, ◌∙◌, ap, subst, arith}
use Rattle.std.proofs.Common.{length-append}
use Rattle.std.specs.List.{filter}
use Rattle.arrayvec.specs.ArrayVec.{ArrayVec}
use Rattle.nfc_base.specs.Choosing.{first_number, later_numbers}
use Rattle.nfc_base.specs.Signal.{Signal, whole_a}
use Rattle.nfc_base.specs.declared.event.Fate.{Fate}
use Rattle.nfc_base.specs.declared.event.Fate.TheVariants.{Pass, Damage, Lose, Break}
use Rattle.nfc_base.specs.declared.event.Heard.TheVariants as heards
use Rattle.air_core.specs.Conversation.{AirModel, Note, Got, Lost, Next}
use Rattle.air_core.specs.World.{Machine}
use Rattle.dep_pdu.specs.declared.frame.DepFrame.{DepFrame}
use Rattle.dep_link.specs.declared.target.TargetStep.TheVariants as steps
use Rattle.dep_link.specs.Asking.{Standing, Waits, Rests, Broken, Astray}
use Rattle.dep_link.specs.Asking as carrying
use Rattle.dep_link.specs.Exchange.{InStep, before_frames, frames_of}
use Rattle.dep_link.specs.Frames.{air_frame, spelled}
use Rattle.dep_link.specs.Initiator.{InitState, begun, request}
use Rattle.dep_link.specs.Payloads.{Cut, begins}
use Rattle.dep_link.specs.Replies.{cut_up}
use Rattle.dep_link.specs.Sizes.{limit}
use Rattle.dep_link.specs.Target.{TargetState, target_table, replied, reply_frame}
use Rattle.far_air.specs.FarEnds.{FarTable, reply_to}
use Rattle.dep_link.specs.Peers.{target_use}
use Rattle.far_air.specs.FarWorld.{FarWorld, far_dark, far_came_back, far_air}
use Rattle.llcp_link.specs.Fronts.{IsProperPrefix}
use Rattle.link_numbers.specs.Shown.{answers_of, cut_off, has_content, number, numbers, pieces_of}
use Rattle.link_numbers.proofs.far.Begun.{Begun, begun_turn, cut_up_then}
use Rattle.link_numbers.proofs.far.FarCourse.{Made, all_events, made_note, made_world}
use Rattle.link_numbers.proofs.far.FarFit.{DuesFit, FitsAt}
use Rattle.link_numbers.proofs.far.FarRun as run
use Rattle.link_numbers.proofs.far.FarRun.{Outcome, Steps, says, hands, steps_of, asks_whole, most_stays, most_replied}
use Rattle.link_numbers.proofs.far.FarShown.{SameDark, Shown, dark_same, left_dark, same_dark, shown_more, shown_none}
use Rattle.link_numbers.proofs.far.FarShows.{ReadOff, of_begun, of_whole, cut_append, first_read, first_whole, shows, shows_behind}
use Rattle.link_numbers.proofs.far.FarSolo.{DoesSo, Stepped, here, step_events, step_hands, step_note, step_says, step_world}
use Rattle.link_numbers.proofs.far.Filled.{answer_pieces}
use Rattle.link_numbers.proofs.far.Giving.{begun_given}
use Rattle.link_numbers.proofs.far.Growing.{payloads_grow}
use Rattle.link_numbers.proofs.far.Paired.{Answering, Comes, Paired, begins_paired, damaged, heard, lost, unheard}
use Rattle.link_numbers.proofs.far.Spoken.{cut_at}

-- What is asked of far ends. A whole reply is given by the number that it shows, and leaves the end the same. A front of a reply, of two bytes or more,
-- begins also what is given by the number of any payload that goes on behind it, and by the one that it shows where no more came. An end that can't
-- read gives nothing, for good. What stays of an end is the same by each number.
pub record IsNumbered {F : Type 0} (t : FarTable F) (Good : F → Type 0) (reads : F → List ℕ → Bool) : Type 0 where
  pub good : (a : F) (p : List ℕ) (n : ℕ) → Good a → Good (t.left a p n)
  pub whole : (a : F) (p : List ℕ) (n : ℕ) → Good a → (t.reply a p (number (t.reply a p n)) ≡ t.reply a p n) × (t.left a p (number (t.reply a p n)) ≡ t.left a p n)
  pub further : (a : F) (p : List ℕ) (n : ℕ) (xs b : List ℕ) → reads a p ≡ true → 2 ≤ length xs → IsProperPrefix xs (t.reply a p n) → IsProperPrefix xs b → IsProperPrefix xs (t.reply a p (number b))
  pub cut : (a : F) (p : List ℕ) (n : ℕ) (xs ys : List ℕ) → reads a p ≡ true → 2 ≤ length xs → IsProperPrefix xs (t.reply a p n) → IsProperPrefix xs (t.reply a p (first_number (cut_off (xs ++ ys))))
  pub some : (a : F) (p : List ℕ) (n : ℕ) → reads a p ≡ true → 0 < length (t.reply a p n)
  pub silent : (a : F) (p : List ℕ) (n k : ℕ) → reads a p ≡ false → (t.reply a p n ≡ []) × (t.left a p k ≡ t.left a p n)
  pub silent_on : (a : F) (p : List ℕ) (n : ℕ) (q : List ℕ) → reads a p ≡ false → reads (t.left a p n) q ≡ false
  pub rests : (a : F) (p : List ℕ) (n k : ℕ) → t.rested (t.left a p k) ≡ t.rested (t.left a p n)

-- the pieces of an answer before others
pieces_first : (g : Signal) (fs : List Signal) → pieces_of (g ∷ []) ≡ before_frames (spelled g) [] → pieces_of (g ∷ fs) ≡ before_frames (spelled g) (pieces_of fs)
pieces_first g fs e = go (spelled g) e
  where
    kept : (v : DepFrame) (b : Bool) → (if b then v ∷ [] else []) ≡ v ∷ [] → (if b then v ∷ pieces_of fs else pieces_of fs) ≡ v ∷ pieces_of fs
    kept v true e = refl
    kept v false e = absurd cc

    go : (o : Option DepFrame) → filter has_content (before_frames o []) ≡ before_frames o [] → filter has_content (before_frames o (frames_of fs)) ≡ before_frames o (pieces_of fs)
    go None e = refl
    go (Some v) e = kept v (has_content v) e

-- the first of some bytes
front_split : (xs many : List ℕ) → IsProperPrefix xs many → (ys : List ℕ) × (many ≡ xs ++ ys) × (0 < length ys)
front_split xs many f = (f.byte ∷ f.more, f.is, omega arith)

front_none : (many : List ℕ) → 0 < length many → IsProperPrefix [] many
front_none [] h = absurd (omega arith)
front_none (x ∷ many) h = record { byte = x; more = many; is = refl }

module _ {L F : Type 0} (m : Machine L) (linked : L → Bool) (t : FarTable F) (dev : TargetState → L) (does : DoesSo m linked t dev) {C : Type 0} (due : C → Next) (noted : C → Note → C)
    (Busy : C → InitState → Signal → Type 0) (Done : C → InitState → Type 0) (Off : C → Type 0) (Outs : C → Type 0) (laws : run.IsCarrying m linked t dev does due noted Busy Done Off Outs)
    (Good : F → Type 0) (reads : F → List ℕ → Bool) (numbered : IsNumbered t Good reads) (End : C → Type 0)
    (busy_goes_on : (c : C) (i : InitState) (f : Signal) → Busy c i f → End c → ⊥) (off_is_no_end : (c : C) → Off c → End c → ⊥) where
  abbrev W : Type 0
  W = FarWorld L F

  abbrev air : AirModel W
  air = far_air m linked t

  abbrev solo : TargetState → F → List ℕ → W
  solo s a ns = here m linked t dev s a ns

  abbrev DuesOf : W → C → List Made → Type 0
  DuesOf w c qs = DuesFit m linked t due noted Outs w c qs

  abbrev ShownOf : W → W → C → List Made → Type 0
  ShownOf w v c qs = Shown m linked t due noted End w v c qs

  abbrev answers : W → List Made → List Signal
  answers w qs = answers_of (all_events air w qs)

  abbrev back : W → Fate → W
  back w y = far_came_back m linked t w y

  abbrev made_of : Signal → Fate → Fate → Made
  made_of f x y = record { frame = f; fate = x; back = y }

  abbrev back_note : Fate → Signal → Note
  back_note y g = run.back_note m linked t dev does due noted Busy Done Off Outs y g

  abbrev GoesTo : Standing → C → Type 0
  GoesTo S d = run.Goes m linked t dev does due noted Busy Done Off Outs S d

  none_made : (qs : List Made) (w : W) (d : C) → Off d → DuesOf w d qs → qs ≡ []
  none_made qs w d o k = run.none_made m linked t dev does due noted Busy Done Off Outs laws qs w d o k

  -- nothing more is made
  shown_off : (qs : List Made) (w v : W) (d : C) → Off d → DuesOf w d qs → SameDark m linked t w v → ShownOf w v d qs
  shown_off qs w v d o k e = shown_none m linked t due noted End w v d qs (none_made qs w d o k) e (λ x. absurd (off_is_no_end d o x))

  -- a turn that passed in both, with the same answer
  shown_step : (w v w' v' : W) (c : C) (f g : Signal) (y : Fate) (qs : List Made) → v.field.lit ≡ true → Stepped m linked t dev w f w' g → Stepped m linked t dev v f v' g
      → ShownOf (back w' y) (back v' y) (noted c (back_note y g)) qs → ShownOf w v c (made_of f Pass y ∷ qs)
  shown_step w v w' v' c f g y qs lit k l h =
      shown_more m linked t due noted End w v (back w' y) (back v' y) c (noted c (back_note y g)) (made_of f Pass y) qs lit
      (step_events m linked t dev v v' f g y l ∙ sym (step_events m linked t dev w w' f g y k)) (step_world m linked t dev w w' f g y k) (step_world m linked t dev v v' f g y l)
      (ap (noted c) (step_note m linked t dev w w' f g y k)) h

  -- one whose request didn't pass
  shown_missed : (w v : W) (c : C) (f : Signal) (y : Fate) (qs : List Made) → v.field.lit ≡ true → ShownOf w v (noted c (Got heards.Silent)) qs
      → ShownOf w v c (made_of f Damage y ∷ qs) × ShownOf w v c (made_of f Lose y ∷ qs)
  shown_missed w v c f y qs lit h = (
    shown_more m linked t due noted End w v w v c (noted c (Got heards.Silent)) (made_of f Damage y) qs lit refl refl refl refl h,
    shown_more m linked t due noted End w v w v c (noted c (Got heards.Silent)) (made_of f Lose y) qs lit refl refl refl refl h,
  )

  shown_broken : (w v : W) (c : C) (f : Signal) (y : Fate) (qs : List Made) → v.field.lit ≡ true → ShownOf (far_dark m linked t w) (far_dark m linked t v) (noted c Lost) qs
      → ShownOf w v c (made_of f Break y ∷ qs)
  shown_broken w v c f y qs lit h =
      shown_more m linked t due noted End w v (far_dark m linked t w) (far_dark m linked t v) c (noted c Lost) (made_of f Break y) qs lit refl refl refl refl h

  -- While of a reply only a front comes, whose peer has another one of that front.
  abbrev Cuts : List Made → Type 0
  Cuts qs =
      (c : C) (i : InitState) (f : Signal) (s u : TargetState) (U : Cut) (r : List ℕ) (a b : F) (ns ks : List ℕ) → Busy c i f → Paired i f s U [] (Some r) → 0 < length r
      → Begun (pieces_of (answers (solo s a ns) qs)) s u U [] → t.rested b ≡ t.rested a → DuesOf (solo s a ns) c qs → ShownOf (solo s a ns) (solo u b ks) c qs

  begun_dark : (vs : List DepFrame) (s u : TargetState) (U : Cut) (a b : F) (ns ks : List ℕ) → Begun vs s u U [] → t.rested b ≡ t.rested a → SameDark m linked t (solo s a ns) (solo u b ks)
  begun_dark vs s u U a b ns ks h e =
      subst (λ z. SameDark m linked t (solo s a ns) (solo z b ks)) (sym h.alike.same) (left_dark m linked t dev does s u.left a b ns ks e)

  cuts_on : (qs : List Made) → Cuts qs → (S : Standing) (d : C) (s u : TargetState) (U : Cut) (r : List ℕ) (a b : F) (ns ks : List ℕ) → GoesTo S d → Comes S s U [] (Some r) → 0 < length r
      → Begun (pieces_of (answers (solo s a ns) qs)) s u U [] → t.rested b ≡ t.rested a → DuesOf (solo s a ns) d qs → ShownOf (solo s a ns) (solo u b ks) d qs
  cuts_on qs more (Waits j g) d s u U r a b ns ks o p some h e k = more d j g s u U r a b ns ks o p some h e k
  cuts_on qs more (Rests j reply) d s u U r a b ns ks o p some h e k =
      let P = payloads_grow U (pieces_of (answers (solo s a ns) qs)) in
      let all = ap length P.1 in
      let sum = length-append U.payloads P.0 in
      let one = ap (λ (c : Cut). length c.payloads) p.2 in
      let none = h.none_whole in
      absurd (omega (arith, all, sum, one, none))
  cuts_on qs more (Broken x) d s u U r a b ns ks o p some h e k = shown_off qs (solo s a ns) (solo u b ks) d o k (begun_dark _ s u U a b ns ks h e)
  cuts_on qs more Astray d s u U r a b ns ks o p some h e k = absurd p

  cuts_back : (qs : List Made) → Cuts qs → (y : Fate) (c : C) (i : InitState) (f g : Signal) (s u : TargetState) (U : Cut) (r : List ℕ) (a b : F) (ns ks : List ℕ) → Busy c i f
      → Answering i g s U [] (Some r) → 0 < length r → Begun (pieces_of (answers (back (solo s a ns) y) qs)) s u U [] → t.rested b ≡ t.rested a
      → DuesOf (back (solo s a ns) y) (noted c (back_note y g)) qs → ShownOf (back (solo s a ns) y) (back (solo u b ks) y) (noted c (back_note y g)) qs
  cuts_back qs more Pass c i f g s u U r a b ns ks o p some h e k =
      cuts_on qs more (carrying.noted (Waits i f) (Got (heards.Whole g))) (noted c (Got (heards.Whole g))) s u U r a b ns ks (laws.goes c i f o (Got (heards.Whole g)))
      (heard i g s U [] (Some r) p f) some h e k
  cuts_back qs more Damage c i f g s u U r a b ns ks o p some h e k =
      cuts_on qs more (carrying.noted (Waits i f) (Got heards.Damaged)) (noted c (Got heards.Damaged)) s u U r a b ns ks (laws.goes c i f o (Got heards.Damaged))
      (damaged i g s U [] (Some r) p f) some h e k
  cuts_back qs more Lose c i f g s u U r a b ns ks o p some h e k =
      cuts_on qs more (carrying.noted (Waits i f) (Got heards.Silent)) (noted c (Got heards.Silent)) s u U r a b ns ks (laws.goes c i f o (Got heards.Silent))
      (lost i g s U [] (Some r) p f) some h e k
  cuts_back qs more Break c i f g s u U r a b ns ks o p some h e k =
      shown_off qs (far_dark m linked t (solo s a ns)) (far_dark m linked t (solo u b ks)) (noted c Lost) (laws.goes c i f o Lost) k
      (dark_same m linked t (solo s a ns) (solo u b ks) (begun_dark _ s u U a b ns ks h e))

  cuts_turn : (qs : List Made) → Cuts qs → (x y : Fate) (c : C) (i : InitState) (f : Signal) (s u : TargetState) (U : Cut) (r : List ℕ) (a b : F) (ns ks : List ℕ) → Busy c i f
      → Paired i f s U [] (Some r) → 0 < length r → Begun (pieces_of (answers (solo s a ns) (made_of f x y ∷ qs))) s u U [] → t.rested b ≡ t.rested a
      → DuesOf (made_world air (solo s a ns) (made_of f x y)) (noted c (made_note air (solo s a ns) (made_of f x y))) qs → ShownOf (solo s a ns) (solo u b ks) c (made_of f x y ∷ qs)
  cuts_turn qs more Pass y c i f s u U r a b ns ks o p some h e k = go (steps_of i f s U (Some r) p)
    where
      go : Steps i f s U (Some r) → ShownOf (solo s a ns) (solo u b ks) c (made_of f Pass y ∷ qs)
      go (says g at q) =
          let s' : TargetState = (target_table s f).state in
          let u' : TargetState = (target_table u f).state in
          let whole : f ≡ whole_a f.bytes = asks_whole i f s U (Some r) p in
          let step : Stepped m linked t dev (solo s a ns) f (solo s' a ns) g = step_says m linked t dev does s a ns f whole g at in
          let fs : List Signal = answers (back (solo s' a ns) y) qs in
          let V : Cut = cut_up U (before_frames (spelled g) []) in
          let said : answers (solo s a ns) (made_of f Pass y ∷ qs) ≡ g ∷ fs = ap answers_of (run.step_all m linked t dev does due noted Busy Done Off Outs laws (solo s a ns)
          (solo s' a ns) f g y qs step) in
          let pieces : pieces_of (answers (solo s a ns) (made_of f Pass y ∷ qs)) ≡ before_frames (spelled g) (pieces_of fs) =
          ap pieces_of said ∙ pieces_first g fs (answer_pieces i g s' V [] (Some r) q some) in
          let next = begun_turn i f s u U [] r g (pieces_of fs) p (subst (λ vs. Begun vs s u U []) pieces h) at in
          shown_step (solo s a ns) (solo u b ks) (solo s' a ns) (solo u' b ks) c f g y qs refl step (step_says m linked t dev does u b ks f whole g next.0)
          (cuts_back qs more y c i f g s' u' V r a b ns ks o q some next.1 e (run.step_dues m linked t dev does due noted Busy Done Off Outs laws (solo s a ns) (solo s' a ns) c f g y qs step k))
      go (hands x at none q) = absurd (let z : Some r ≡ None = none in cc)
  cuts_turn qs more Damage y c i f s u U r a b ns ks o p some h e k =
      (shown_missed (solo s a ns) (solo u b ks) c f y qs refl
      (cuts_on qs more (carrying.noted (Waits i f) (Got heards.Silent)) (noted c (Got heards.Silent)) s u U r a b ns ks (laws.goes c i f o (Got heards.Silent)) (unheard i f s U []
      (Some r) p) some h e k)).0
  cuts_turn qs more Lose y c i f s u U r a b ns ks o p some h e k =
      (shown_missed (solo s a ns) (solo u b ks) c f y qs refl
      (cuts_on qs more (carrying.noted (Waits i f) (Got heards.Silent)) (noted c (Got heards.Silent)) s u U r a b ns ks (laws.goes c i f o (Got heards.Silent)) (unheard i f s U []
      (Some r) p) some h e k)).1
  cuts_turn qs more Break y c i f s u U r a b ns ks o p some h e k =
      shown_broken (solo s a ns) (solo u b ks) c f y qs refl
      (shown_off qs (far_dark m linked t (solo s a ns)) (far_dark m linked t (solo u b ks)) (noted c Lost) (laws.goes c i f o Lost) k
      (dark_same m linked t (solo s a ns) (solo u b ks) (begun_dark _ s u U a b ns ks h e)))

  cuts : (qs : List Made) → Cuts qs
  cuts [] c i f s u U r a b ns ks o p some h e k =
      shown_none m linked t due noted End (solo s a ns) (solo u b ks) c [] refl (begun_dark _ s u U a b ns ks h e) (λ x. absurd (busy_goes_on c i f o x))
  cuts (q ∷ qs) c i f s u U r a b ns ks o p some h e k =
      let z : f ≡ q.frame = run.same_frame m linked t dev does due noted Busy Done Off Outs laws c i f q o k.1 in
      cuts_turn qs (cuts qs) q.fate q.back c i q.frame s u U r a b ns ks (subst (λ x. Busy c i x) z o) (subst (λ x. Paired i x s U [] (Some r)) z p) some h e k.2

  -- How the numbers that are left stand to what the answers ahead show: an end that reads nothing gives nothing by any; before a payload is delivered they
  -- are those that are shown; behind it they are those without the first.
  pub data Aligned (given : Option (List ℕ)) (U : Cut) (a : F) (ks : List ℕ) (ahead : List Signal) : Type 0 where
    mute : ((p : List ℕ) → reads a p ≡ false) → Aligned given U a ks ahead
    asked : given ≡ None → ks ≡ shows U ahead → Aligned given U a ks ahead
    gave : (r : List ℕ) → given ≡ Some r → 0 < length r → ks ≡ later_numbers (shows U ahead) → Aligned given U a ks ahead

  -- one answer more
  aligned_more : (i : InitState) (g : Signal) (s : TargetState) (U : Cut) (given : Option (List ℕ)) (a : F) (ks : List ℕ) (fs : List Signal)
      → Answering i g s (cut_up U (before_frames (spelled g) [])) [] given
      → Aligned given U a ks (g ∷ fs) → Aligned given (cut_up U (before_frames (spelled g) [])) a ks fs
  aligned_more i g s U given a ks fs h (mute none) = mute none
  aligned_more i g s U given a ks fs h (asked e shown) =
      asked e (shown ∙ ap numbers (run.answer_cut m linked t dev does due noted Busy Done Off Outs laws i g s U given fs h (subst (λ o. IfSome o (λ r. 0 < length r)) (sym e) tt)))
  aligned_more i g s U given a ks fs h (gave r e some shown) =
      gave r e some (shown ∙ ap (λ c. later_numbers (numbers c))
      (run.answer_cut m linked t dev does due noted Busy Done Off Outs laws i g s U given fs h (subst (λ o. IfSome o (λ r. 0 < length r)) (sym e) some)))

  -- the reply came whole, and the next exchange begins
  aligned_rests : (U : Cut) (n : ℕ) (reply : List ℕ) (given : Option (List ℕ)) (a : F) (ks : List ℕ) (fs : List Signal) → given ≡ Some reply → U ≡ cut_at n [] (reply ∷ [])
      → Aligned given U a ks fs → Aligned None (begins n) a ks fs
  aligned_rests U n reply given a ks fs e is (mute none) = mute none
  aligned_rests U n reply given a ks fs e is (asked none shown) = absurd (let z : Some reply ≡ None = sym e ∙ none in cc)
  aligned_rests U n reply given a ks fs e is (gave r z some shown) =
      asked refl (shown ∙ ap (λ c. later_numbers (shows c fs)) is ∙ ap later_numbers (shows_behind n reply fs))

  module _ (tail : (d : C) (j : InitState) (qs : List Made) (s : TargetState) (a : F) (ns ks : List ℕ) → Done d j → InStep j s → DuesOf (solo s a ns) d qs
      → ShownOf (solo s a ns) (solo s a ks) d qs) where
    -- The peer stands the same in both worlds.
    abbrev Sames : List Made → Type 0
    Sames qs =
        (c : C) (i : InitState) (f : Signal) (s : TargetState) (U : Cut) (given : Option (List ℕ)) (a : F) (ns ks : List ℕ) (more : List Signal) → Busy c i f → Paired i f s U [] given → 2 ≤ s.most
        → Good a → Aligned given U a ks (answers (solo s a ns) qs ++ more) → DuesOf (solo s a ns) c qs → ShownOf (solo s a ns) (solo s a ks) c qs

    -- an exchange begins
    sames_begin : (qs : List Made) → Sames qs → (d : C) (j : InitState) (s : TargetState) (a : F) (ns ks : List ℕ) (more : List Signal)
        → ((out : List ℕ) × (Outs d → length out ≤ limit) × Busy d (begun j out) (air_frame (request (begun j out).core))) ⊎ Done d j → InStep j s → 2 ≤ s.most → Good a
        → Aligned None (begins j.core.number) a ks (answers (solo s a ns) qs ++ more) → DuesOf (solo s a ns) d qs → ShownOf (solo s a ns) (solo s a ks) d qs
    sames_begin qs same d j s a ns ks more (inr done) step most ok l k = tail d j qs s a ns ks done step k
    sames_begin [] same d j s a ns ks more (inl (out, short, busy)) step most ok l k =
        shown_none m linked t due noted End (solo s a ns) (solo s a ks) d [] refl (same_dark m linked t dev does s a ns ks)
        (λ e. absurd (busy_goes_on d (begun j out) (air_frame (request (begun j out).core)) busy e))
    sames_begin (q ∷ qs) same d j s a ns ks more (inl (out, short, busy)) step most ok l k =
        same d (begun j out) (air_frame (request (begun j out).core)) s (begins j.core.number) None a ns ks more busy
        (begins_paired j s out [] (begins j.core.number) (short k.0.2) step refl) most ok l k

    sames_on : (qs : List Made) → Sames qs → (S : Standing) (d : C) (s : TargetState) (U : Cut) (given : Option (List ℕ)) (a : F) (ns ks : List ℕ) (more : List Signal) → GoesTo S d
        → Comes S s U [] given
        → 2 ≤ s.most → Good a → Aligned given U a ks (answers (solo s a ns) qs ++ more) → DuesOf (solo s a ns) d qs → ShownOf (solo s a ns) (solo s a ks) d qs
    sames_on qs same (Waits j g) d s U given a ns ks more o p most ok l k = same d j g s U given a ns ks more o p most ok l k
    sames_on qs same (Rests j reply) d s U given a ns ks more o p most ok l k = sames_begin qs same d j s a ns ks more o p.1 most ok (aligned_rests U j.core.number reply given a ks (answers
        (solo s a ns) qs ++ more) p.0 p.2 l) k
    sames_on qs same (Broken x) d s U given a ns ks more o p most ok l k = shown_off qs (solo s a ns) (solo s a ks) d o k (same_dark m linked t dev does s a ns ks)
    sames_on qs same Astray d s U given a ns ks more o p most ok l k = absurd p

    sames_back : (qs : List Made) → Sames qs → (y : Fate) (c : C) (i : InitState) (f g : Signal) (s : TargetState) (U : Cut) (given : Option (List ℕ)) (a : F) (ns ks : List ℕ) (more : List Signal)
        → Busy c i f → Answering i g s U [] given → 2 ≤ s.most → Good a → Aligned given U a ks (answers (back (solo s a ns) y) qs ++ more)
        → DuesOf (back (solo s a ns) y) (noted c (back_note y g)) qs → ShownOf (back (solo s a ns) y) (back (solo s a ks) y) (noted c (back_note y g)) qs
    sames_back qs same Pass c i f g s U given a ns ks more o p most ok l k =
        sames_on qs same (carrying.noted (Waits i f) (Got (heards.Whole g))) (noted c (Got (heards.Whole g))) s U given a ns ks more (laws.goes c i f o (Got (heards.Whole g)))
        (heard i g s U [] given p f) most ok l k
    sames_back qs same Damage c i f g s U given a ns ks more o p most ok l k =
        sames_on qs same (carrying.noted (Waits i f) (Got heards.Damaged)) (noted c (Got heards.Damaged)) s U given a ns ks more (laws.goes c i f o (Got heards.Damaged))
        (damaged i g s U [] given p f) most ok l k
    sames_back qs same Lose c i f g s U given a ns ks more o p most ok l k =
        sames_on qs same (carrying.noted (Waits i f) (Got heards.Silent)) (noted c (Got heards.Silent)) s U given a ns ks more (laws.goes c i f o (Got heards.Silent))
        (lost i g s U [] given p f) most ok l k
    sames_back qs same Break c i f g s U given a ns ks more o p most ok l k =
        shown_off qs (far_dark m linked t (solo s a ns)) (far_dark m linked t (solo s a ks)) (noted c Lost) (laws.goes c i f o Lost) k
        (dark_same m linked t (solo s a ns) (solo s a ks) (same_dark m linked t dev does s a ns ks))

    -- the payload is handed over
    module _ (qs : List Made) (same : Sames qs) (y : Fate) (c : C) (i : InitState) (f : Signal) (s : TargetState) (U : Cut) (given : Option (List ℕ)) (a : F) (ns ks : List ℕ) (more : List Signal)
        (o : Busy c i f) (p : Paired i f s U [] given) (most : 2 ≤ s.most) (ok : Good a) (fit : FitsAt m linked t Pass f (solo s a ns)) (l : Aligned given U a ks (answers (solo s a ns)
        (made_of f Pass y ∷ qs) ++ more))
        (k : DuesOf (made_world air (solo s a ns) (made_of f Pass y)) (noted c (made_note air (solo s a ns) (made_of f Pass y))) qs)
        (x : ArrayVec ℕ) (at : (target_table s f).does ≡ steps.Deliver x) (none : given ≡ None)
        (h : (r : List ℕ) → length r ≤ limit → Answering i (air_frame (reply_frame (target_table s f).state r)) (replied (target_table s f).state r)
        (cut_up U (before_frames (spelled (air_frame (reply_frame (target_table s f).state r))) [])) [] (Some r)) where
      abbrev d1 : TargetState
      d1 = (target_table s f).state

      abbrev n : ℕ
      n = first_number ns

      abbrev kn : ℕ
      kn = first_number ks

      abbrev r : List ℕ
      r = t.reply a x.items n

      abbrev q : List ℕ
      q = t.reply a x.items kn

      abbrev s' : TargetState
      s' = replied d1 r

      abbrev a' : F
      a' = t.left a x.items n

      abbrev g : Signal
      g = air_frame (reply_frame d1 r)

      abbrev V : Cut
      V = cut_up U (before_frames (spelled g) [])

      abbrev fs : List Signal
      fs = answers (back (solo s' a' (later_numbers ns)) y) qs

      whole : f ≡ whole_a f.bytes
      whole = asks_whole i f s U given p

      step : Stepped m linked t dev (solo s a ns) f (solo s' a' (later_numbers ns)) g
      step = step_hands m linked t dev does s a ns f whole x r at refl

      -- the reply is as long as a payload may be
      fits : length r ≤ limit
      fits = fit.0 r (ap (λ u. reply_to t u (Some a) n) (does.hands s f whole ∙ ap target_use at))

      here_now : Answering i g s' V [] (Some r)
      here_now = h r fits

      most_now : 2 ≤ s'.most
      most_now = subst (λ z. 2 ≤ z) (sym (most_replied d1 r ∙ most_stays i f s U given p)) most

      dues : DuesOf (back (solo s' a' (later_numbers ns)) y) (noted c (back_note y g)) qs
      dues = run.step_dues m linked t dev does due noted Busy Done Off Outs laws (solo s a ns) (solo s' a' (later_numbers ns)) c f g y qs step k

      -- the same reply, which leaves the end the same
      same_reply : r ≡ q → t.left a x.items kn ≡ a' → Aligned (Some r) V a' (later_numbers ks) (fs ++ more) → ShownOf (solo s a ns) (solo s a ks) c (made_of f Pass y ∷ qs)
      same_reply e left aligned =
          let twin : Stepped m linked t dev (solo s a ks) f (solo s' a' (later_numbers ks)) g =
          subst (λ z. Stepped m linked t dev (solo s a ks) f (solo s' z (later_numbers ks)) g) left (step_hands m linked t dev does s a ks f whole x r at e) in
          shown_step (solo s a ns) (solo s a ks) (solo s' a' (later_numbers ns)) (solo s' a' (later_numbers ks)) c f g y qs refl step twin
          (sames_back qs same y c i f g s' V (Some r) a' (later_numbers ns) (later_numbers ks) more o here_now most_now (numbered.good a x.items n ok) aligned dues)

      unread : reads a x.items ≡ false → ShownOf (solo s a ns) (solo s a ks) c (made_of f Pass y ∷ qs)
      unread e =
          same_reply ((numbered.silent a x.items n n e).0 ∙ sym (numbered.silent a x.items kn n e).0) (numbered.silent a x.items n kn e).1
          (mute (λ z. numbered.silent_on a x.items n z e))

      -- the numbers are those that the answers show
      module _ (e : reads a x.items ≡ true) (shown : ks ≡ shows U (answers (solo s a ns) (made_of f Pass y ∷ qs) ++ more)) where
        some : 0 < length r
        some = numbered.some a x.items n e

        abbrev D : Cut
        D = cut_up V (pieces_of fs)

        shown_now : ks ≡ shows V (fs ++ more)
        shown_now =
            shown
            ∙ ap (λ es. shows U (answers_of es ++ more)) (run.step_all m linked t dev does due noted Busy Done Off Outs laws (solo s a ns) (solo s' a' (later_numbers ns)) f g y qs step)
            ∙ ap numbers (run.answer_cut m linked t dev does due noted Busy Done Off Outs laws i g s' U (Some r) (fs ++ more) here_now some)

        shown_end : ks ≡ numbers (cut_up D (pieces_of more))
        shown_end = shown_now ∙ ap numbers (cut_append V fs more)

        -- the reply becomes whole
        becomes_whole : (rs : List (List ℕ)) → D.payloads ≡ r ∷ rs → ShownOf (solo s a ns) (solo s a ks) c (made_of f Pass y ∷ qs)
        becomes_whole rs z =
            let is : kn ≡ number r = ap first_number shown_end ∙ first_whole D (pieces_of more) r rs z in
            let w = numbered.whole a x.items n ok in
            same_reply (sym (ap (t.reply a x.items) is ∙ w.0)) (ap (t.left a x.items) is ∙ w.1) (gave r refl some (ap later_numbers shown_now))

        -- or it is cut off
        other_front : D.payloads ≡ [] → IsProperPrefix D.chain r → ((D.chain ≡ []) ⊎ (2 ≤ length D.chain)) → IsProperPrefix D.chain q
        other_front z front (inl nil) = subst (λ xs. IsProperPrefix xs q) (sym nil) (front_none q (numbered.some a x.items kn e))
        other_front z front (inr two) = go (first_read (frames_of more) D z)
          where
            go : ReadOff D.chain (first_number (numbers (cut_up D (pieces_of more)))) → IsProperPrefix D.chain q
            go (of_whole b f' is) =
                subst (λ v. IsProperPrefix D.chain (t.reply a x.items v)) (sym (ap first_number shown_end ∙ is)) (numbered.further a x.items n D.chain b e two front f')
            go (of_begun ys is) =
                subst (λ v. IsProperPrefix D.chain (t.reply a x.items v)) (sym (ap first_number shown_end ∙ is)) (numbered.cut a x.items n D.chain ys e two front)

        is_cut : D.payloads ≡ [] → IsProperPrefix D.chain r → IsProperPrefix D.chain q → ShownOf (solo s a ns) (solo s a ks) c (made_of f Pass y ∷ qs)
        is_cut z front other =
            let pair : Paired i f s U [] None = subst (λ v. Paired i f s U [] v) none p in
            let cut_now : cut_up U (before_frames (spelled g) (pieces_of fs)) ≡ D = cut_up_then U (spelled g) (pieces_of fs) in
            let first = front_split D.chain r front in
            let second = front_split D.chain q other in
            let b = begun_given i f s U [] pair x at r q fits (pieces_of fs) (ap (λ (v : Cut). length v.payloads) cut_now ∙ ap length z)
            D.chain first.0 second.0 (ap (λ (v : Cut). v.chain) cut_now) first.1 second.1 (λ v. first.2) (λ v. second.2) in
            let twin : Stepped m linked t dev (solo s a ks) f (solo (replied d1 q) (t.left a x.items kn) (later_numbers ks)) g =
            subst (λ v. Stepped m linked t dev (solo s a ks) f (solo (replied d1 q) (t.left a x.items kn) (later_numbers ks)) (air_frame v)) (sym b.0)
            (step_hands m linked t dev does s a ks f whole x q at refl) in
            shown_step (solo s a ns) (solo s a ks) (solo s' a' (later_numbers ns)) (solo (replied d1 q) (t.left a x.items kn) (later_numbers ks)) c f g y qs refl step twin
            (cuts_back qs (cuts qs) y c i f g s' (replied d1 q) V r a' (t.left a x.items kn) (later_numbers ns) (later_numbers ks) o here_now some b.1 (numbered.rests a x.items n kn) dues)

        by_outcome : Outcome r D → ShownOf (solo s a ns) (solo s a ks) c (made_of f Pass y ∷ qs)
        by_outcome (inl (rs, z)) = becomes_whole rs z
        by_outcome (inr (z, front, size)) = is_cut z front (other_front z front size)

        read : ShownOf (solo s a ns) (solo s a ks) c (made_of f Pass y ∷ qs)
        read =
            by_outcome (run.outs_back m linked t dev does due noted Busy Done Off Outs laws qs (run.outcome m linked t dev does due noted Busy Done Off Outs laws qs) y c i f g s' V r a'
            (later_numbers ns)
            o here_now most_now some dues)

      by_aligned : reads a x.items ≡ true → Aligned given U a ks (answers (solo s a ns) (made_of f Pass y ∷ qs) ++ more) → ShownOf (solo s a ns) (solo s a ks) c (made_of f Pass y ∷ qs)
      by_aligned e (mute all) = absurd (let z : true ≡ false = sym e ∙ all x.items in cc)
      by_aligned e (asked z shown) = read e shown
      by_aligned e (gave v z some shown) = absurd (let w : Some v ≡ None = sym z ∙ none in cc)

      handed : ShownOf (solo s a ns) (solo s a ks) c (made_of f Pass y ∷ qs)
      handed = go (reads a x.items) refl
        where
          go : (b : Bool) → reads a x.items ≡ b → ShownOf (solo s a ns) (solo s a ks) c (made_of f Pass y ∷ qs)
          go true e = by_aligned e l
          go false e = unread e

    sames_turn : (qs : List Made) → Sames qs → (v y : Fate) (c : C) (i : InitState) (f : Signal) (s : TargetState) (U : Cut) (given : Option (List ℕ)) (a : F) (ns ks : List ℕ) (more : List Signal)
        → Busy c i f → Paired i f s U [] given → 2 ≤ s.most → Good a → FitsAt m linked t v f (solo s a ns) → Aligned given U a ks (answers (solo s a ns) (made_of f v y ∷ qs) ++ more)
        → DuesOf (made_world air (solo s a ns) (made_of f v y)) (noted c (made_note air (solo s a ns) (made_of f v y))) qs → ShownOf (solo s a ns) (solo s a ks) c (made_of f v y ∷ qs)
    sames_turn qs same Pass y c i f s U given a ns ks more o p most ok fit l k = go (steps_of i f s U given p)
      where
        go : Steps i f s U given → ShownOf (solo s a ns) (solo s a ks) c (made_of f Pass y ∷ qs)
        go (says g at h) =
            let s' : TargetState = (target_table s f).state in
            let whole : f ≡ whole_a f.bytes = asks_whole i f s U given p in
            let step : Stepped m linked t dev (solo s a ns) f (solo s' a ns) g = step_says m linked t dev does s a ns f whole g at in
            let fs : List Signal = answers (back (solo s' a ns) y) qs in
            let said : answers (solo s a ns) (made_of f Pass y ∷ qs) ≡ g ∷ fs = ap answers_of (run.step_all m linked t dev does due noted Busy Done Off Outs laws (solo s a ns)
            (solo s' a ns) f g y qs step) in
            shown_step (solo s a ns) (solo s a ks) (solo s' a ns) (solo s' a ks) c f g y qs refl step (step_says m linked t dev does s a ks f whole g at)
            (sames_back qs same y c i f g s' (cut_up U (before_frames (spelled g) [])) given a ns ks more o h (subst (λ z. 2 ≤ z) (sym (most_stays i f s U given p)) most) ok
            (aligned_more i g s' U given a ks (fs ++ more) h (subst (λ z. Aligned given U a ks (z ++ more)) said l))
            (run.step_dues m linked t dev does due noted Busy Done Off Outs laws (solo s a ns) (solo s' a ns) c f g y qs step k))
        go (hands x at none h) = handed qs same y c i f s U given a ns ks more o p most ok fit l k x at none h
    sames_turn qs same Damage y c i f s U given a ns ks more o p most ok fit l k =
        (shown_missed (solo s a ns) (solo s a ks) c f y qs refl
        (sames_on qs same (carrying.noted (Waits i f) (Got heards.Silent)) (noted c (Got heards.Silent)) s U given a ns ks more (laws.goes c i f o (Got heards.Silent))
        (unheard i f s U [] given p) most ok l k)).0
    sames_turn qs same Lose y c i f s U given a ns ks more o p most ok fit l k =
        (shown_missed (solo s a ns) (solo s a ks) c f y qs refl
        (sames_on qs same (carrying.noted (Waits i f) (Got heards.Silent)) (noted c (Got heards.Silent)) s U given a ns ks more (laws.goes c i f o (Got heards.Silent))
        (unheard i f s U [] given p) most ok l k)).1
    sames_turn qs same Break y c i f s U given a ns ks more o p most ok fit l k =
        shown_broken (solo s a ns) (solo s a ks) c f y qs refl
        (shown_off qs (far_dark m linked t (solo s a ns)) (far_dark m linked t (solo s a ks)) (noted c Lost) (laws.goes c i f o Lost) k
        (dark_same m linked t (solo s a ns) (solo s a ks) (same_dark m linked t dev does s a ns ks)))

    -- By the numbers that the answers show, whatever stands behind them, the same turns are made.
    pub sames : (qs : List Made) → Sames qs
    sames [] c i f s U given a ns ks more o p most ok l k =
        shown_none m linked t due noted End (solo s a ns) (solo s a ks) c [] refl (same_dark m linked t dev does s a ns ks) (λ x. absurd (busy_goes_on c i f o x))
    sames (q ∷ qs) c i f s U given a ns ks more o p most ok l k =
        let z : f ≡ q.frame = run.same_frame m linked t dev does due noted Busy Done Off Outs laws c i f q o k.1 in
        sames_turn qs (sames qs) q.fate q.back c i q.frame s U given a ns ks more (subst (λ x. Busy c i x) z o) (subst (λ x. Paired i x s U [] given) z p) most ok k.0.1 l k.2

    -- So it is where exchanges begin, or none does.
    pub begins_same : (qs : List Made) (d : C) (j : InitState) (reply : List ℕ) (s : TargetState) (a : F) (ns ks : List ℕ) (more : List Signal) → GoesTo (Rests j reply) d → InStep j s → 2 ≤ s.most
        → Good a → ks ≡ shows (begins j.core.number) (answers (solo s a ns) qs ++ more) → DuesOf (solo s a ns) d qs → ShownOf (solo s a ns) (solo s a ks) d qs
    begins_same qs d j reply s a ns ks more o step most ok shown k = sames_begin qs (sames qs) d j s a ns ks more o step most ok (asked refl shown) k
