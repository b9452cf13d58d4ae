-- The run of a peer that is alone, turn by turn, while an initiator carries payloads to it: whether the reply that was given becomes whole.
use Rattle.std.proofs.Common.{◌≡◌, ◌⊎◌, inl, inr, ℕ, ◌<◌, ◌≤◌, List, [], ◌∷◌, ◌++◌, length, drop, nat_lt, if◌then◌else◌, Bool, true, false, Option, Some, None, IfSome, refl, sym, ◌∙◌, ap, subst}
use Rattle.std.proofs.Common.{arith}
use Rattle.arrayvec.specs.ArrayVec.{ArrayVec}
use Rattle.nfc_base.specs.Signal.{Signal, whole_a}
use Rattle.nfc_base.specs.Trace.{heard_at}
use Rattle.nfc_base.specs.declared.event.Event.TheVariants.{Request, Answer}
use Rattle.nfc_base.specs.declared.event.Fate.{Fate}
use Rattle.nfc_base.specs.declared.event.Fate.TheVariants.{Pass, Damage, Lose, Break}
use Rattle.nfc_base.specs.declared.event.Heard.TheVariants as heards
use Rattle.air_core.specs.Conversation.{Note, Got, Lost, note, AirModel, Next, Asks}
use Rattle.air_core.specs.World.{Machine}
use Rattle.dep_link.specs.declared.target.TargetStep.{TargetStep}
use Rattle.dep_link.specs.declared.target.TargetStep.TheVariants as steps
use Rattle.dep_link.specs.Asking.{Standing, Waits, Rests, Broken, Astray}
use Rattle.dep_link.specs.Asking as carrying
use Rattle.dep_link.specs.Exchange.{before_frames}
use Rattle.dep_link.specs.Frames.{air_frame, spelled}
use Rattle.dep_link.specs.Initiator.{InitState, begun, request}
use Rattle.dep_link.specs.Payloads.{Cut}
use Rattle.dep_link.specs.Replies.{cut_up}
use Rattle.dep_link.specs.Sizes.{limit}
use Rattle.dep_link.specs.Target.{TargetState, TargetTurn, first_piece, target_table, replied, reply_frame}
use Rattle.dep_pdu.specs.declared.frame.DepFrame.TheVariants.{Extend}
use Rattle.dep_link.proofs.Standing.{Ask, asks, nacks, attends}
use Rattle.far_air.specs.FarEnds.{FarTable}
use Rattle.far_air.specs.FarWorld.{FarWorld, far_dark, far_came_back, far_air}
use Rattle.llcp_link.specs.Fronts.{IsProperPrefix}
use Rattle.link_numbers.specs.Shown.{answers_of, pieces_of}
use Rattle.link_numbers.proofs.far.FarCourse.{Made, all_events, made_note, made_world}
use Rattle.link_numbers.proofs.far.FarFit.{DuesFit}
use Rattle.link_numbers.proofs.far.FarShows.{cut_first}
use Rattle.link_numbers.proofs.far.FarSolo.{DoesSo, Stepped, here, passing, step_events, step_note, step_says, step_world}
use Rattle.link_numbers.proofs.far.Filled.{answer_pieces}
use Rattle.link_numbers.proofs.far.Growing.{payloads_grow}
use Rattle.link_numbers.proofs.far.Moving.{Turn, turn_at}
use Rattle.link_numbers.proofs.far.Paired.{Answering, Comes, Paired, Passed, damaged, heard, lost, passed, unheard}
use Rattle.link_numbers.proofs.far.Spoken.{Kind, Speaks, all_said, cut_at, move_of, none_said, some_said}
use Rattle.link_numbers.proofs.far.Spoken as kinds

-- Whether a reply became whole, by the cut D of the answers up to the end: it did; or not, and what came begins it, or nothing did.
abbrev pub Outcome : List ℕ → Cut → Type 0
Outcome r D =
    ((rs : List (List ℕ)) × (D.payloads ≡ r ∷ rs))
    ⊎ ((D.payloads ≡ []) × IsProperPrefix D.chain r × ((D.chain ≡ []) ⊎ (2 ≤ length D.chain)))

some_left : (xs left r : List ℕ) → r ≡ xs ++ left → 0 < length left → IsProperPrefix xs r
some_left xs [] r e h = absurd (omega arith)
some_left xs (x ∷ left) r e h = record { byte = x; more = left; is = e }

pub said_outcome : (s : TargetState) (r : List ℕ) (U : Cut) → 2 ≤ s.most → 0 < length r → Speaks s r [] U → Outcome r U
said_outcome s r U most some (none_said due unsent left is) =
    inr (ap (λ (c : Cut). c.payloads) is, subst (λ xs. IsProperPrefix xs r) (sym (ap (λ (c : Cut). c.chain) is)) (some_left [] r r refl some), inl (ap (λ (c : Cut). c.chain) is))
said_outcome s r U most some (some_said due unsent xs whole size rest is) =
    let chain : U.chain ≡ xs = ap (λ (c : Cut). c.chain) is in
    inr (
      ap (λ (c : Cut). c.payloads) is,
      subst (λ zs. IsProperPrefix zs r) (sym chain) (some_left xs s.left r whole rest),
      inr (let e : length U.chain ≡ length xs = ap length chain in omega (arith, most, size, e)),
    )
said_outcome s r U most some (all_said due unsent left is) = inl ([], ap (λ (c : Cut). c.payloads) is)

pub whole_outcome : (r : List ℕ) (U : Cut) (fs : List Signal) → U.payloads ≡ r ∷ [] → Outcome r (cut_up U (pieces_of fs))
whole_outcome r U fs e = let p = payloads_grow U (pieces_of fs) in inl (p.0, p.1 ∙ ap (λ ps. ps ++ p.0) e)

-- what a target does at a frame of an exchange
pub data Steps (i : InitState) (f : Signal) (s : TargetState) (U : Cut) (given : Option (List ℕ)) : Type 0 where
  says : (g : Signal) → (target_table s f).does ≡ steps.Reply g → Answering i g (target_table s f).state (cut_up U (before_frames (spelled g) [])) [] given → Steps i f s U given
  hands : (p : ArrayVec ℕ) → (target_table s f).does ≡ steps.Deliver p → given ≡ None
      → ((r : List ℕ) → length r ≤ limit → Answering i (air_frame (reply_frame (target_table s f).state r)) (replied (target_table s f).state r)
      (cut_up U (before_frames (spelled (air_frame (reply_frame (target_table s f).state r))) [])) [] (Some r)) → Steps i f s U given

pub steps_of : (i : InitState) (f : Signal) (s : TargetState) (U : Cut) (given : Option (List ℕ)) → Paired i f s U [] given → Steps i f s U given
steps_of i f s U given p = go (target_table s f).does refl (passed i f s U [] given p)
  where
    go : (d : TargetStep) → (target_table s f).does ≡ d → Passed i (target_table s f).state U [] given d → Steps i f s U given
    go steps.Quiet e h = absurd h
    go (steps.Reply g) e h = says g e h
    go (steps.Restart general g) e h = absurd h
    go (steps.Deliver payload) e h = hands payload e h.0 h.1
    go (steps.Asleep g) e h = absurd h
    go (steps.Released g) e h = absurd h

-- each frame of an exchange is one of whole bytes
pub asks_whole : (i : InitState) (f : Signal) (s : TargetState) (U : Cut) (given : Option (List ℕ)) → Paired i f s U [] given → f ≡ whole_a f.bytes
asks_whole i f s U given p = go p.ask
  where
    go : Ask p.most p.busy p.out i s given f p.ahead → f ≡ whole_a f.bytes
    go (asks a e h) = e ∙ ap (λ (x : Signal). whole_a x.bytes) (sym e)
    go (nacks a e h) = e ∙ ap (λ (x : Signal). whole_a x.bytes) (sym e)
    go (attends a e q h l) = e ∙ ap (λ (x : Signal). whole_a x.bytes) (sym e)

-- the pieces that a target sends stay as long
kind_most : (s : TargetState) (k : Kind) → (move_of s k).state.most ≡ s.most
kind_most s kinds.attends = refl
kind_most s (kinds.repeats v) = refl
kind_most s (kinds.chains xs) = refl
kind_most s (kinds.hands xs) = refl
kind_most s kinds.draws = refl
kind_most s kinds.asks_again = refl
kind_most s kinds.has_time = refl

pub most_stays : (i : InitState) (f : Signal) (s : TargetState) (U : Cut) (given : Option (List ℕ)) → Paired i f s U [] given → (target_table s f).state.most ≡ s.most
most_stays i f s U given p =
    let turn : Turn s given f = turn_at p.most p.busy p.out i s given f p.ahead p.ask in
    ap (λ (x : TargetTurn). x.state.most) turn.2 ∙ kind_most s turn.0

pub most_replied : (s : TargetState) (r : List ℕ) → (replied s r).most ≡ s.most
most_replied s r = go (nat_lt 0 s.busy)
  where
    go : (b : Bool)
        → (if b then record s { last = Some (Extend true s.times); left = r; unsent = true; due = s.busy; followed = false }
        else record s { last = Some (first_piece s r); left = drop s.most r; unsent = nat_lt s.most (length r); due = 0; followed = false }).most ≡ s.most
    go true = refl
    go false = refl

module _ {L F : Type 0} (m : Machine L) (linked : L → Bool) (t : FarTable F) (dev : TargetState → L) (does : DoesSo m linked t dev) {C : Type 0} (due : C → Next) (noted : C → Note → C)
    (Busy : C → InitState → Signal → Type 0) (Done : C → InitState → Type 0) (Off : C → Type 0) (Outs : C → Type 0) where
  -- where somebody stands that carries payloads, by where the exchange of one stands
  abbrev pub Goes : Standing → C → Type 0
  Goes (Waits j g) d = Busy d j g
  Goes (Rests j reply) d = ((out : List ℕ) × (Outs d → length out ≤ limit) × Busy d (begun j out) (air_frame (request (begun j out).core))) ⊎ Done d j
  Goes (Broken e) d = Off d
  Goes Astray d = Unit {0}

  -- It waits in an exchange and asks what is due there, and goes on by that; where it is off nothing is due.
  pub record IsCarrying : Type 0 where
    pub asks : (c : C) (i : InitState) (f : Signal) → Busy c i f → due c ≡ Asks f
    pub goes : (c : C) (i : InitState) (f : Signal) → Busy c i f → (n : Note) → Goes (carrying.noted (Waits i f) n) (noted c n)
    pub off : (c : C) (f : Signal) → Off c → due c ≡ Asks f → ⊥

  abbrev W : Type 0
  W = FarWorld L F

  abbrev pub air : AirModel W
  air = far_air m linked t

  abbrev pub solo : TargetState → F → List ℕ → W
  solo s a ns = here m linked t dev s a ns

  abbrev pub DuesOf : W → C → List Made → Type 0
  DuesOf w c qs = DuesFit m linked t due noted Outs w c qs

  abbrev pub back_note : Fate → Signal → Note
  back_note y g = note (heard_at y (heards.Whole g))

  module _ (laws : IsCarrying) where
    -- nothing more is made where nothing is due
    pub none_made : (qs : List Made) (w : W) (d : C) → Off d → DuesOf w d qs → qs ≡ []
    none_made [] w d o k = refl
    none_made (q ∷ qs) w d o k = absurd (laws.off d q.frame o k.1)

    -- the frame that is due is the one that is made
    pub same_frame : (c : C) (i : InitState) (f : Signal) (q : Made) → Busy c i f → due c ≡ Asks q.frame → f ≡ q.frame
    same_frame c i f q b e = let k : Asks f ≡ Asks q.frame = sym (laws.asks c i f b) ∙ e in cc

    -- what came of the answers, up to the end
    abbrev pub cut_of : Cut → W → List Made → Cut
    cut_of U w qs = cut_up U (pieces_of (answers_of (all_events air w qs)))

    abbrev Runs : List Made → Type 0
    Runs qs =
        (c : C) (i : InitState) (f : Signal) (s : TargetState) (U : Cut) (r : List ℕ) (a : F) (ns : List ℕ) → Busy c i f → Paired i f s U [] (Some r) → 2 ≤ s.most → 0 < length r
        → DuesOf (solo s a ns) c qs → Outcome r (cut_of U (solo s a ns) qs)

    none_of : (U : Cut) (w : W) (qs : List Made) → qs ≡ [] → cut_of U w qs ≡ U
    none_of U w qs e = ap (cut_of U w) e

    -- behind a turn, by where the exchange stands then
    outs_on : (qs : List Made) → Runs qs → (S : Standing) (d : C) (s : TargetState) (U : Cut) (r : List ℕ) (a : F) (ns : List ℕ) → Goes S d → Comes S s U [] (Some r)
        → Speaks s r [] U → 2 ≤ s.most → 0 < length r → DuesOf (solo s a ns) d qs → Outcome r (cut_of U (solo s a ns) qs)
    outs_on qs more (Waits j g) d s U r a ns b p said most some k = more d j g s U r a ns b p most some k
    outs_on qs more (Rests j reply) d s U r a ns b p said most some k =
        let same : r ≡ reply = (let e : Some r ≡ Some reply = p.0 in cc) in
        whole_outcome r U (answers_of (all_events air (solo s a ns) qs)) (ap (λ (c : Cut). c.payloads) p.2 ∙ ap (λ x. x ∷ []) (sym same))
    outs_on qs more (Broken e) d s U r a ns b p said most some k =
        subst (Outcome r) (sym (none_of U (solo s a ns) qs (none_made qs (solo s a ns) d b k))) (said_outcome s r U most some said)
    outs_on qs more Astray d s U r a ns b p said most some k = absurd p

    outs_off : (qs : List Made) (w : W) (d : C) (s : TargetState) (U : Cut) (r : List ℕ) → Off d → DuesOf w d qs → Speaks s r [] U → 2 ≤ s.most → 0 < length r
        → Outcome r (cut_of U w qs)
    outs_off qs w d s U r o k said most some = subst (Outcome r) (sym (none_of U w qs (none_made qs w d o k))) (said_outcome s r U most some said)

    -- behind an answer, by its fate
    pub outs_back : (qs : List Made) → Runs qs → (y : Fate) (c : C) (i : InitState) (f g : Signal) (s : TargetState) (U : Cut) (r : List ℕ) (a : F) (ns : List ℕ) → Busy c i f
        → Answering i g s U [] (Some r) → 2 ≤ s.most → 0 < length r → DuesOf (far_came_back m linked t (solo s a ns) y) (noted c (back_note y g)) qs
        → Outcome r (cut_of U (far_came_back m linked t (solo s a ns) y) qs)
    outs_back qs more Pass c i f g s U r a ns b h most some k =
        outs_on qs more (carrying.noted (Waits i f) (Got (heards.Whole g))) (noted c (Got (heards.Whole g))) s U r a ns (laws.goes c i f b (Got (heards.Whole g)))
        (heard i g s U [] (Some r) h f) h.said most some k
    outs_back qs more Damage c i f g s U r a ns b h most some k =
        outs_on qs more (carrying.noted (Waits i f) (Got heards.Damaged)) (noted c (Got heards.Damaged)) s U r a ns (laws.goes c i f b (Got heards.Damaged))
        (damaged i g s U [] (Some r) h f) h.said most some k
    outs_back qs more Lose c i f g s U r a ns b h most some k =
        outs_on qs more (carrying.noted (Waits i f) (Got heards.Silent)) (noted c (Got heards.Silent)) s U r a ns (laws.goes c i f b (Got heards.Silent))
        (lost i g s U [] (Some r) h f) h.said most some k
    outs_back qs more Break c i f g s U r a ns b h most some k =
        outs_off qs (far_dark m linked t (solo s a ns)) (noted c Lost) s U r (laws.goes c i f b Lost) k h.said most some

    -- a request that passed
    pub step_all : (w v : W) (f g : Signal) (y : Fate) (qs : List Made) → Stepped m linked t dev w f v g
        → all_events air w (passing m linked t dev f y ∷ qs) ≡ Request f Pass ∷ Answer g y ∷ all_events air (far_came_back m linked t v y) qs
    step_all w v f g y qs k =
        ap (λ es. es ++ all_events air (made_world air w (passing m linked t dev f y)) qs) (step_events m linked t dev w v f g y k)
        ∙ ap (λ z. Request f Pass ∷ Answer g y ∷ all_events air z qs) (step_world m linked t dev w v f g y k)

    pub step_dues : (w v : W) (c : C) (f g : Signal) (y : Fate) (qs : List Made) → Stepped m linked t dev w f v g
        → DuesOf (made_world air w (passing m linked t dev f y)) (noted c (made_note air w (passing m linked t dev f y))) qs → DuesOf (far_came_back m linked t v y) (noted c (back_note y g)) qs
    step_dues w v c f g y qs k d =
        subst (λ z. DuesOf z (noted c (back_note y g)) qs) (step_world m linked t dev w v f g y k)
        (subst (λ n. DuesOf (made_world air w (passing m linked t dev f y)) (noted c n) qs) (step_note m linked t dev w v f g y k) d)

    -- the answer is in the cut
    pub answer_cut : (i : InitState) (g : Signal) (s : TargetState) (U : Cut) (given : Option (List ℕ)) (fs : List Signal)
        → Answering i g s (cut_up U (before_frames (spelled g) [])) [] given → IfSome given (λ r. 0 < length r)
        → cut_up U (pieces_of (g ∷ fs)) ≡ cut_up (cut_up U (before_frames (spelled g) [])) (pieces_of fs)
    answer_cut i g s U given fs h some =
        cut_first U g fs ∙ ap (λ vs. cut_up (cut_up U vs) (pieces_of fs)) (answer_pieces i g s (cut_up U (before_frames (spelled g) [])) [] given h some)

    pub step_cut : (w v : W) (f g : Signal) (y : Fate) (qs : List Made) → Stepped m linked t dev w f v g → (i : InitState) (s : TargetState) (U : Cut) (given : Option (List ℕ))
        → Answering i g s (cut_up U (before_frames (spelled g) [])) [] given → IfSome given (λ r. 0 < length r)
        → cut_of U w (passing m linked t dev f y ∷ qs) ≡ cut_of (cut_up U (before_frames (spelled g) [])) (far_came_back m linked t v y) qs
    step_cut w v f g y qs k i s U given h some =
        ap (λ es. cut_up U (pieces_of (answers_of es))) (step_all w v f g y qs k) ∙ answer_cut i g s U given (answers_of (all_events air (far_came_back m linked t v y) qs)) h some

    abbrev pub made_of : Signal → Fate → Fate → Made
    made_of f x y = record { frame = f; fate = x; back = y }

    outs_turn : (qs : List Made) → Runs qs → (x y : Fate) (c : C) (i : InitState) (f : Signal) (s : TargetState) (U : Cut) (r : List ℕ) (a : F) (ns : List ℕ) → Busy c i f
        → Paired i f s U [] (Some r) → 2 ≤ s.most → 0 < length r
        → DuesOf (made_world air (solo s a ns) (made_of f x y)) (noted c (made_note air (solo s a ns) (made_of f x y))) qs → Outcome r (cut_of U (solo s a ns) (made_of f x y ∷ qs))
    outs_turn qs more Pass y c i f s U r a ns b p most some k = go (steps_of i f s U (Some r) p)
      where
        go : Steps i f s U (Some r) → Outcome r (cut_of U (solo s a ns) (made_of f Pass y ∷ qs))
        go (says g e h) =
            let s' : TargetState = (target_table s f).state in
            let step : Stepped m linked t dev (solo s a ns) f (solo s' a ns) g = step_says m linked t dev does s a ns f (asks_whole i f s U (Some r) p) g e in
            let U' : Cut = cut_up U (before_frames (spelled g) []) in
            subst (Outcome r) (sym (step_cut (solo s a ns) (solo s' a ns) f g y qs step i s' U (Some r) h some))
            (outs_back qs more y c i f g s' U' r a ns b h (subst (λ n. 2 ≤ n) (sym (most_stays i f s U (Some r) p)) most) some
            (step_dues (solo s a ns) (solo s' a ns) c f g y qs step k))
        go (hands x e none h) = absurd (let z : Some r ≡ None = none in cc)
    outs_turn qs more Damage y c i f s U r a ns b p most some k =
        outs_on qs more (carrying.noted (Waits i f) (Got heards.Silent)) (noted c (Got heards.Silent)) s U r a ns (laws.goes c i f b (Got heards.Silent))
        (unheard i f s U [] (Some r) p) p.said most some k
    outs_turn qs more Lose y c i f s U r a ns b p most some k =
        outs_on qs more (carrying.noted (Waits i f) (Got heards.Silent)) (noted c (Got heards.Silent)) s U r a ns (laws.goes c i f b (Got heards.Silent))
        (unheard i f s U [] (Some r) p) p.said most some k
    outs_turn qs more Break y c i f s U r a ns b p most some k =
        outs_off qs (far_dark m linked t (solo s a ns)) (noted c Lost) s U r (laws.goes c i f b Lost) k p.said most some

    -- Where the reply was given it becomes whole, or what comes of it begins it.
    pub outcome : (qs : List Made) → Runs qs
    outcome [] c i f s U r a ns b p most some k = said_outcome s r U most some p.said
    outcome (q ∷ qs) c i f s U r a ns b p most some k =
        let e : f ≡ q.frame = same_frame c i f q b k.1 in
        outs_turn qs (outcome qs) q.fate q.back c i q.frame s U r a ns (subst (λ z. Busy c i z) e b) (subst (λ z. Paired i z s U [] (Some r)) e p) most some k.2
