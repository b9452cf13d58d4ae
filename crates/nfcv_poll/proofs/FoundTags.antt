-- A search finds tags that are there, and misses one only where noise met each of the last four questions.
use Rattle.std.proofs.Common.{◌≡◌, ◌⊎◌, inl, inr, ◌≤◌, ◌<◌, ℕ, ◌+◌, List, [], ◌∷◌, ◌++◌, length, map, filter_map, replicate, Bool, true, false, ◌||◌, nat_eq, nat_lt, if◌then◌else◌, Option, Some, None}
use Rattle.std.proofs.Common.{Result, Err, append_assoc, refl, sym, ◌∙◌, ap, subst, arith}
use Rattle.std.specs.List.{list_any}
use Rattle.std.proofs.lemmas.List.{append-nil, length-append}
use Rattle.nfc_base.specs.declared.event.Event.{Event}
use Rattle.nfc_base.specs.declared.event.Event.TheVariants.{Reset}
use Rattle.nfc_base.specs.declared.event.Fate.{Fate}
use Rattle.nfc_base.specs.declared.event.Fate.TheVariants.{Pass, Damage, Lose, Break}
use Rattle.nfc_base.specs.declared.event.Heard.{Heard}
use Rattle.nfc_base.specs.declared.event.Heard.TheVariants.{Whole, Collided, Damaged, Silent}
use Rattle.nfc_base.specs.declared.frame.Tech.TheVariants.{V}
use Rattle.nfc_base.specs.Signal.{Signal}
use Rattle.nfc_base.specs.Trace.{Turn, turns, other_than_pass, heard_by, by_heard}
use Rattle.nfc_base.specs.Trace as backs
use Rattle.air_core.specs.Conversation.{LightUp, Asks, replay, turn_events, turn_heard, joint_events, joint_back}
use Rattle.nfc_base.specs.Bits.{bits, of_bits}
use Rattle.air_core.specs.Joint.{Joint, Nothing, Single, Clashing, joint, all_same, common_all}
use Rattle.air_core.specs.Turn.{Air, moment}
use Rattle.air_core.specs.World.{Machine, World, answered_by, stepped, reset_by}
use Rattle.nfca_poll.specs.Crowd.{Each}
use Rattle.nfca_poll.specs.Enquiry.{Enquires, or_memory}
use Rattle.nfca_poll.specs.Inventory.{inventory_all}
use Rattle.nfca_poll.specs.Muted.{muted, mute_air}
use Rattle.nfca_poll.specs.declared.fault.PollFault.{PollFault}
use Rattle.nfca_poll.specs.declared.fault.PollFault.TheVariants as faults
use Rattle.nfca_poll.proofs.quiet.Eaches.{each_map, none_in}
use Rattle.nfca_poll.proofs.enquiries.EnquiryEnds.{events_gained}
use Rattle.nfca_poll.proofs.enquiries.EnquiryLaws.{Keeps, Ending, comes, loses, ending}
use Rattle.nfca_poll.proofs.enquiries.EnquiryWalks.{turn_fresh}
use Rattle.nfca_poll.proofs.enquiries.TurnWalks.{turns-append, joint_turns}
use Rattle.t5t_tag.specs.declared.answer.T5Answer.{T5Answer}
use Rattle.t5t_tag.specs.declared.answer.T5Answer.TheVariants.{Present, Content, Error}
use Rattle.t5t_tag.specs.Reading.{spelled_answer}
use Rattle.t5t_tag.specs.declared.command.T5Command.TheVariants.{Inventory, NextSlot, Quiet}
use Rattle.t5t_tag.specs.Spelling.{answer_frame, command_frame}
use Rattle.t5t_tag.specs.Step.{t5_answer, sent}
use Rattle.t5t_tag.specs.Store.{T5State, id_size}
use Rattle.t5t_tag.proofs.Inventories.{counted}
use Rattle.t5t_tag.proofs.SpelledAnswers.{answer_reads}
use Rattle.nfcv_poll.specs.declared.mask.Mask.{Mask}
use Rattle.nfcv_poll.specs.Masks.{slots_frame}
use Rattle.nfcv_poll.specs.Finding.{is_strange_said, is_strange, rounds_begun}
use Rattle.nfcv_poll.specs.Search.{most_passes, most_rounds, questions, with_id, said_by, said, begins_pass, fresh, fails, hushes, takes, is_silence, answers_left, hears_at, stage_request}
use Rattle.nfcv_poll.specs.Search.{due_request, over_at, Course, Begins, Runs, asked_for, course_step, course_next, finding_all}
use Rattle.nfcv_poll.specs.Tags.{IsOneOf, StepAsTags, tag_ids, noise_back, IsNoisyQuestion, AreNoisyAtLast, FoundIf, FindsTags}
use Rattle.nfcv_poll.specs.declared.search.Said.TheVariants as told
use Rattle.nfcv_poll.specs.declared.search.Search.{Search}
use Rattle.nfcv_poll.specs.declared.search.Stage.{Stage}
use Rattle.nfcv_poll.specs.declared.search.Stage.TheVariants as stages
use Rattle.nfcv_poll.proofs.Causes.{has_causes}
use Rattle.nfcv_poll.proofs.Stages.{IsEarly, Early, hush_early, Taken, Same, More, takes_early}
use Rattle.nfcv_poll.proofs.Members.{each_with, each_one, each_id, their_own}
use Rattle.nfcv_poll.proofs.TagSteps.{at_slots, at_next, at_question, at_quiet}
use Rattle.nfcv_poll.proofs.Standing.{TellsOne, Fares, fares_on, fares_hushed, IsPlaced, ArePlaced, placed_more, placed_reset, ids_reset, same_ids, still_placed, answers_tell, said_tag}

-- it is asked who is left
abbrev pub IsAsking : Stage → Type 0
IsAsking (stages.Slot m slot) = ⊥
IsAsking (stages.Hush id next) = ⊥
IsAsking (stages.WhoIsLeft asked) = Unit {0}
IsAsking stages.Over = ⊥
IsAsking (stages.Fails fault) = ⊥

-- what was told of a tag was a whole answer
told_whole : (h : Heard) (id : List ℕ) → said h ≡ told.Tag id → (g : Signal) × ((h ≡ Whole g) × (spelled_answer g ≡ Some (Present id)))
told_whole (Whole g) id e = (g, (refl, by_answer (spelled_answer g) e))
  where
    by_answer : (o : Option T5Answer) → said_by o ≡ told.Tag id → o ≡ Some (Present id)
    by_answer None e = absurd cc
    by_answer (Some (Present i)) e = ap (λ j. Some (Present j)) (let d : i ≡ id = cc in d)
    by_answer (Some (Content content)) e = absurd cc
    by_answer (Some (Error code)) e = absurd cc
told_whole (Collided g) id e = absurd cc
told_whole Damaged id e = absurd cc
told_whole Silent id e = absurd cc

single_first : (gs : List Signal) (g : Signal) (P : Signal → Type 0) → joint gs ≡ Single g → Each P gs → P g
single_first [] g P e h = absurd cc
single_first (k ∷ ks) g P e h = by_same (all_same k ks) (of_bits k.tech (common_all (bits k) (map bits ks))) e
  where
    by_same : (v : Bool) (c : Signal) → (if v then Single k else Clashing c) ≡ Single g → P g
    by_same true c e = subst P (let d : k ≡ g = cc in d) h.0
    by_same false c e = absurd cc

same_number : (m n : ℕ) → nat_lt m n ≡ true → m < n
same_number m n h = grind arith

far_number : (m n : ℕ) → nat_lt m n ≡ false → n ≤ m
far_number m n h = grind arith

-- one more of a list of which none is so
none_more : (test : Turn → Bool) (ts : List Turn) (t : Turn) → list_any test ts ≡ false → test t ≡ false → list_any test (ts ++ t ∷ []) ≡ false
none_more test [] t h here = ap (λ v. v || false) here
none_more test (u ∷ us) t h here = by_first (test u) (λ k. none_more test us t k here) h
  where
    by_first : (v : Bool) → (list_any test us ≡ false → list_any test (us ++ t ∷ []) ≡ false) → (v || list_any test us) ≡ false → (v || list_any test (us ++ t ∷ [])) ≡ false
    by_first true more k = absurd cc
    by_first false more k = more k

module _ {L : Type 0} (m : Machine L) (tag : L → T5State) (lit : L → Bool) (are : StepAsTags m tag lit) (ids : List (List ℕ)) (eight : Each (λ i. length i ≡ id_size) ids) where
  -- it was asked who is left, and nothing was heard: all are found, or noise met it
  pub record IsQuestion (found : List (List ℕ)) (t : Turn) : Type 0 where
    pub asks : t.request ≡ inventory_all
    pub missed : Each (λ i. IsOneOf i found) ids ⊎ (1 ≤ other_than_pass t.fate + noise_back t.back)

  -- so it was asked so often at last
  pub record Asked (found : List (List ℕ)) (n : ℕ) (ts : List Turn) : Type 0 where
    pub before : List Turn
    pub last : List Turn
    pub parts : ts ≡ before ++ last
    pub count : length last ≡ n
    pub each : Each (IsQuestion found) last

  abbrev pub AtStage : List (List ℕ) → Stage → List Turn → Type 0
  AtStage found (stages.Slot m slot) ts = Unit {0}
  AtStage found (stages.Hush id next) ts = IsOneOf id found
  AtStage found (stages.WhoIsLeft asked) ts = (asked < 4) × Asked found asked ts
  AtStage found stages.Over ts = Asked found 4 ts
  AtStage found (stages.Fails fault) ts = Unit {0}

  pub record Stands (s : Search) (w : World L) (ts : List Turn) : Type 0 where
    pub same : tag_ids m tag w.listeners ≡ ids
    pub placed : ArePlaced m tag lit are ids s.found w.listeners
    pub known : Each (λ i. IsOneOf i ids) s.found
    pub at : AtStage s.found s.stage ts
    pub plain : list_any is_strange ts ≡ false

  abbrev pub Inv : Course → World L → List Event → Type 0
  Inv Begins w es = (tag_ids m tag w.listeners ≡ ids) × (list_any is_strange (turns es) ≡ false)
  Inv (Runs s) w es = Stands s w (turns es)

  none_asked : (found : List (List ℕ)) (ts : List Turn) → Asked found 0 ts
  none_asked found ts = record { before = ts; last = []; parts = sym (append-nil ts); count = refl; each = tt }

  early_at : (found : List (List ℕ)) (stage : Stage) (ts : List Turn) → IsEarly found stage → AtStage found stage ts
  early_at found (stages.Slot m slot) ts h = tt
  early_at found (stages.Hush id next) ts h = h
  early_at found (stages.WhoIsLeft asked) ts h = (omega (arith, h), subst (λ n. Asked found n ts) (sym h) (none_asked found ts))
  early_at found stages.Over ts h = absurd h
  early_at found (stages.Fails fault) ts h = tt

  -- a search at an early stage, over tags that stand so
  stands_early : (found : List (List ℕ)) (r : Search) (w : World L) (ts : List Turn) → Early found r → tag_ids m tag w.listeners ≡ ids → ArePlaced m tag lit are ids found w.listeners
      → Each (λ i. IsOneOf i ids) found → list_any is_strange ts ≡ false → Stands r w ts
  stands_early found r w ts e same placed known plain = record {
    same = same;
    placed = subst (λ k. ArePlaced m tag lit are ids k w.listeners) (sym e.found') placed;
    known = subst (Each (λ i. IsOneOf i ids)) (sym e.found') known;
    at = subst (λ k. AtStage k r.stage ts) (sym e.found') (early_at found r.stage ts e.early);
    plain = plain;
  }

  -- a reset
  pub no_light : (o : Option Signal) → asked_for o ≡ LightUp → ⊥
  no_light None e = cc
  no_light (Some f) e = cc

  pub lights : (s : Course) (w : World L) (es : List Event) → Inv s w es → course_next s ≡ LightUp → Inv (finding_all.light s) (reset_by (muted m) w) (es ++ Reset ∷ [])
  lights Begins w es h due =
      stands_early [] fresh (reset_by (muted m) w) (turns (es ++ Reset ∷ [])) (record { found' = refl; early = tt }) (ids_reset m tag lit are ids w.listeners ∙ h.0)
      (placed_reset m tag lit are ids [] w.listeners (subst (λ is. Each (λ l. m.tech l ≡ V → IsOneOf (tag l).id is) w.listeners) h.0 (their_own m tag w.listeners))) tt
      (ap (list_any is_strange) (turns-append es (Reset ∷ []) refl ∙ append-nil (turns es)) ∙ h.1)
  lights (Runs s) w es h due = absurd (no_light (due_request s) due)

  -- what a turn of which something was heard leaves
  heard_none : (h : Heard) → Some h ≡ None → ⊥
  heard_none h e = cc

  pub back_same : (P : World L → Type 0) (w : World L) (j : Joint) (y : Fate) (h : Heard) → Some h ≡ heard_by Pass (joint_back j y) → P w → P (replay (mute_air m) w (joint_events j y))
  back_same P w Nothing y h e p = p
  back_same P w (Single g) Pass h e p = p
  back_same P w (Single g) Damage h e p = p
  back_same P w (Single g) Lose h e p = p
  back_same P w (Single g) Break h e p = absurd (heard_none h e)
  back_same P w (Clashing g) Pass h e p = p
  back_same P w (Clashing g) Damage h e p = p
  back_same P w (Clashing g) Lose h e p = p
  back_same P w (Clashing g) Break h e p = absurd (heard_none h e)

  turn_leaves : (P : World L → Type 0) (w : World L) (f : Signal) (x y : Fate) (h : Heard) → Some h ≡ turn_heard (mute_air m) w f x y → P (stepped (muted m) w f) → P w
      → P (replay (mute_air m) w (turn_events (mute_air m) w f x y))
  turn_leaves P w f Pass y h e s p = back_same P (stepped (muted m) w f) ((mute_air m).joint w f) y h e s
  turn_leaves P w f Damage y h e s p = p
  turn_leaves P w f Lose y h e s p = p
  turn_leaves P w f Break y h e s p = absurd (heard_none h e)

  -- a whole answer is the one that the listeners gave
  no_whole : (g : Signal) (h : Heard) → Some (Whole g) ≡ Some h → (h ≡ Damaged) ⊎ ((h ≡ Silent) ⊎ ((k : Signal) × (h ≡ Collided k))) → ⊥
  no_whole g (Whole k) e (inl d) = cc
  no_whole g (Whole k) e (inr (inl d)) = cc
  no_whole g (Whole k) e (inr (inr d)) = let q = d.1 in cc
  no_whole g (Collided k) e d = cc
  no_whole g Damaged e d = cc
  no_whole g Silent e d = cc

  whole_back : (j : Joint) (y : Fate) (g : Signal) → Some (Whole g) ≡ heard_by Pass (joint_back j y) → j ≡ Single g
  whole_back Nothing y g e = absurd (no_whole g Silent e (inr (inl refl)))
  whole_back (Single k) Pass g e = ap Single (let d : k ≡ g = cc in d)
  whole_back (Single k) Damage g e = absurd (no_whole g Damaged e (inl refl))
  whole_back (Single k) Lose g e = absurd (no_whole g Silent e (inr (inl refl)))
  whole_back (Single k) Break g e = absurd (heard_none (Whole g) e)
  whole_back (Clashing k) Pass g e = absurd (no_whole g (Collided k) e (inr (inr (k, refl))))
  whole_back (Clashing k) Damage g e = absurd (no_whole g Damaged e (inl refl))
  whole_back (Clashing k) Lose g e = absurd (no_whole g Silent e (inr (inl refl)))
  whole_back (Clashing k) Break g e = absurd (heard_none (Whole g) e)

  pub whole_turn : (w : World L) (f : Signal) (x y : Fate) (g : Signal) → Some (Whole g) ≡ turn_heard (mute_air m) w f x y → (mute_air m).joint w f ≡ Single g
  whole_turn w f Pass y g e = whole_back ((mute_air m).joint w f) y g e
  whole_turn w f Damage y g e = absurd (no_whole g Silent e (inr (inl refl)))
  whole_turn w f Lose y g e = absurd (no_whole g Silent e (inr (inl refl)))
  whole_turn w f Break y g e = absurd (heard_none (Whole g) e)

  abbrev pub question_frame : Signal
  question_frame = command_frame (Inventory 0 (replicate id_size 0))

  abbrev pub saying : Signal → L → Option Signal
  saying f l = answered_by (muted m) l f None

  -- a request of a search, at which each tag fares well
  pub record IsHeeded (found : List (List ℕ)) (f : Signal) : Type 0 where
    pub of_v : f.tech ≡ V
    pub fares : (t : T5State) → Fares found t f

  pub request_heeded : (found : List (List ℕ)) (stage : Stage) (f : Signal) → Each (λ i. IsOneOf i ids) found → IsEarly found stage ⊎ IsAsking stage → stage_request stage ≡ Some f → IsHeeded found f
  request_heeded found (stages.Slot n slot) f known e due = by_slot (nat_eq slot 0) due
    where
      by_slot : (v : Bool) → Some (if v then slots_frame n else command_frame NextSlot) ≡ Some f → IsHeeded found f
      by_slot true d = let q : slots_frame n ≡ f = cc in subst (IsHeeded found) q (record { of_v = refl; fares = λ t. fares_on found t (slots_frame n) (at_slots t n) })
      by_slot false d = let q : command_frame NextSlot ≡ f = cc in subst (IsHeeded found) q (record { of_v = refl; fares = λ t. fares_on found t (command_frame NextSlot) (at_next t) })
  request_heeded found (stages.Hush id next) f known (inl one) due =
      let q : command_frame (Quiet id) ≡ f = cc in
      subst (IsHeeded found) q (record {
        of_v = refl;
        fares = λ t. fares_hushed found id t (command_frame (Quiet id)) one (at_quiet t id (each_one (λ i. length i ≡ id_size) ids id eight (each_one (λ i. IsOneOf i ids) found id known one)));
      })
  request_heeded found (stages.Hush id next) f known (inr e) due = absurd e
  request_heeded found (stages.WhoIsLeft asked) f known e due =
      let q : question_frame ≡ f = cc in
      subst (IsHeeded found) q (record { of_v = refl; fares = λ t. fares_on found t question_frame (at_question t (replicate id_size 0)) })
  request_heeded found stages.Over f known e due = absurd cc
  request_heeded found (stages.Fails fault) f known e due = absurd cc

  -- behind a turn the tags stand as before
  pub record Stay (found : List (List ℕ)) (w : World L) : Type 0 where
    pub same : tag_ids m tag w.listeners ≡ ids
    pub placed : ArePlaced m tag lit are ids found w.listeners

  pub stay_on : (found : List (List ℕ)) (w : World L) (f : Signal) (x y : Fate) (h : Heard) → IsHeeded found f → Some h ≡ turn_heard (mute_air m) w f x y → Stay found w
      → Stay found (replay (mute_air m) w (turn_events (mute_air m) w f x y))
  stay_on found w f x y h heeded e s =
      turn_leaves (Stay found) w f x y h e (record {
        same = same_ids m tag lit are ids f heeded.of_v found heeded.fares w.listeners s.placed ∙ s.same;
        placed = still_placed m tag lit are ids f heeded.of_v found heeded.fares w.listeners s.placed;
      }) s

  -- what was told in a slot is the identifier of a tag
  pub told_there : (found : List (List ℕ)) (w : World L) (f : Signal) (x y : Fate) (h : Heard) (id : List ℕ) → IsHeeded found f → Some h ≡ turn_heard (mute_air m) w f x y → Stay found w
      → said h ≡ told.Tag id → IsOneOf id ids
  told_there found w f x y h id heeded e s is =
      let whole = told_whole h id is in
      let single : (mute_air m).joint w f ≡ Single whole.0 = whole_turn w f x y whole.0 (ap Some (sym whole.1.0) ∙ e) in
      let tells : TellsOne ids whole.0 = single_first (filter_map (saying f) w.listeners) whole.0 (TellsOne ids) single
      (answers_tell m tag lit are ids f heeded.of_v found heeded.fares w.listeners s.placed) in
      let reads : spelled_answer whole.0 ≡ Some (Present tells.0) = ap spelled_answer tells.2 ∙ answer_reads (Present tells.0) (each_one (λ i. length i ≡ id_size) ids tells.0 eight tells.1) in
      subst (λ i. IsOneOf i ids) (let d : Some (Present tells.0) ≡ Some (Present id) = sym reads ∙ whole.1.1 in cc) tells.1

  -- a whole frame that is heard is a tag's answer
  pub not_strange : (found : List (List ℕ)) (w : World L) (f : Signal) (x y : Fate) (h : Heard) → IsHeeded found f → Some h ≡ turn_heard (mute_air m) w f x y → Stay found w
      → by_heard (Some h) (λ g. is_strange_said (said_by (spelled_answer g))) (λ g. false) false false false ≡ false
  not_strange found w f x y (Whole g) heeded e s =
      let single : (mute_air m).joint w f ≡ Single g = whole_turn w f x y g e in
      let tells : TellsOne ids g = single_first (filter_map (saying f) w.listeners) g (TellsOne ids) single (answers_tell m tag lit are ids f heeded.of_v found heeded.fares w.listeners s.placed) in
      let reads : spelled_answer g ≡ Some (Present tells.0) = ap spelled_answer tells.2 ∙ answer_reads (Present tells.0) (each_one (λ i. length i ≡ id_size) ids tells.0 eight tells.1) in
      ap (λ o. is_strange_said (said_by o)) reads
  not_strange found w f x y (Collided g) heeded e s = refl
  not_strange found w f x y Damaged heeded e s = refl
  not_strange found w f x y Silent heeded e s = refl

  -- the turn that a request makes
  abbrev pub turn_at : World L → Signal → Fate → Fate → Turn
  turn_at w f Pass y = record { request = f; fate = Pass; back = joint_back ((mute_air m).joint w f) y }
  turn_at w f Damage y = record { request = f; fate = Damage; back = backs.Nothing }
  turn_at w f Lose y = record { request = f; fate = Lose; back = backs.Nothing }
  turn_at w f Break y = record { request = f; fate = Break; back = backs.Nothing }

  pub turn_made : (w : World L) (f : Signal) (x y : Fate) → turns (turn_events (mute_air m) w f x y) ≡ turn_at w f x y ∷ []
  turn_made w f Pass y = joint_turns f Pass ((mute_air m).joint w f) y
  turn_made w f Damage y = refl
  turn_made w f Lose y = refl
  turn_made w f Break y = refl

  pub turn_request : (w : World L) (f : Signal) (x y : Fate) → (turn_at w f x y).request ≡ f
  turn_request w f Pass y = refl
  turn_request w f Damage y = refl
  turn_request w f Lose y = refl
  turn_request w f Break y = refl

  pub turn_hears : (w : World L) (f : Signal) (x y : Fate) → backs.heard (turn_at w f x y) ≡ turn_heard (mute_air m) w f x y
  turn_hears w f Pass y = refl
  turn_hears w f Damage y = refl
  turn_hears w f Lose y = refl
  turn_hears w f Break y = refl

  -- a question to which nothing was heard: where no noise met it, each tag is quiet, and so found
  silent_question : (found : List (List ℕ)) (w : World L) (x y : Fate) → IsHeeded found inventory_all → Stay found w → Some Silent ≡ turn_heard (mute_air m) w inventory_all x y
      → Each (λ i. IsOneOf i found) ids ⊎ (1 ≤ other_than_pass (turn_at w inventory_all x y).fate + noise_back (turn_at w inventory_all x y).back)
  silent_question found w Damage y heeded s e = inr (omega arith)
  silent_question found w Lose y heeded s e = inr (omega arith)
  silent_question found w Break y heeded s e = inr (omega arith)
  silent_question found w Pass y heeded s e = by_joint ((mute_air m).joint w inventory_all) refl e
    where
      all_found : (mute_air m).joint w inventory_all ≡ Nothing → Each (λ i. IsOneOf i found) ids
      all_found none =
          subst (Each (λ i. IsOneOf i found)) s.same
          (each_id m tag (λ i. IsOneOf i found) w.listeners
          (quiet_ones w.listeners s.placed (none_in (saying inventory_all) w.listeners (nothing_said (filter_map (saying inventory_all) w.listeners) none))))
        where
          nothing_said : (gs : List Signal) → joint gs ≡ Nothing → gs ≡ []
          nothing_said [] k = refl
          nothing_said (g ∷ gs) k = by_same (all_same g gs) (of_bits g.tech (common_all (bits g) (map bits gs))) k
            where
              by_same : (v : Bool) (c : Signal) → (if v then Single g else Clashing c) ≡ Nothing → g ∷ gs ≡ []
              by_same true c q = absurd cc
              by_same false c q = absurd cc

          quiet_one : (l : L) → IsPlaced m tag lit are ids found l → m.tech l ≡ V → t5_answer (tag l) inventory_all ≡ None → (v : Bool) → (tag l).quiet ≡ v → IsOneOf (tag l).id found
          quiet_one l p e k true q = p.quiet q
          quiet_one l p e k false q = absurd (let no_ : Some (answer_frame (Present (tag l).id)) ≡ None = sym (ap (λ r. sent r.answer) (counted (tag l) q)) ∙ k in cc)

          quiet_ones : (ls : List L) → ArePlaced m tag lit are ids found ls → Each (λ l. saying inventory_all l ≡ None) ls → Each (λ l. m.tech l ≡ V → IsOneOf (tag l).id found) ls
          quiet_ones [] p n = tt
          quiet_ones (l ∷ ls) p n = (
            (λ v. quiet_one l (p.0 v) v (sym (are.answers l inventory_all v (p.0 v).lit') ∙ sym (said_tag m tag lit are ids inventory_all refl l v) ∙ n.0) (tag l).quiet refl),
            quiet_ones ls p.1 n.1,
          )

      by_joint : (j : Joint) → (mute_air m).joint w inventory_all ≡ j → Some Silent ≡ heard_by Pass (joint_back j y)
          → Each (λ i. IsOneOf i found) ids ⊎ (1 ≤ 0 + noise_back (joint_back j y))
      by_joint Nothing k q = inl (all_found k)
      by_joint (Single g) k q = by_fate y q
        where
          by_fate : (z : Fate) → Some Silent ≡ heard_by Pass (joint_back (Single g) z) → Each (λ i. IsOneOf i found) ids ⊎ (1 ≤ 0 + other_than_pass z)
          by_fate Pass q = absurd cc
          by_fate Damage q = inr (omega arith)
          by_fate Lose q = inr (omega arith)
          by_fate Break q = inr (omega arith)
      by_joint (Clashing g) k q = by_fate y q
        where
          by_fate : (z : Fate) → Some Silent ≡ heard_by Pass (joint_back (Clashing g) z) → Each (λ i. IsOneOf i found) ids ⊎ (1 ≤ 0 + other_than_pass z)
          by_fate Pass q = absurd cc
          by_fate Damage q = inr (omega arith)
          by_fate Lose q = inr (omega arith)
          by_fate Break q = inr (omega arith)

  -- one question more
  question_more : (found : List (List ℕ)) (n : ℕ) (ts : List Turn) (t : Turn) → Asked found n ts → IsQuestion found t → Asked found (n + 1) (ts ++ t ∷ [])
  question_more found n ts t a q = record {
    before = a.before;
    last = a.last ++ t ∷ [];
    parts = ap (λ us. us ++ t ∷ []) a.parts ∙ append_assoc a.before a.last (t ∷ []);
    count = length-append a.last (t ∷ []) ∙ ap (λ k. k + 1) a.count;
    each = each_end a.last a.each;
  }
    where
      each_end : (us : List Turn) → Each (IsQuestion found) us → Each (IsQuestion found) (us ++ t ∷ [])
      each_end [] h = (q, tt)
      each_end (u ∷ us) h = (h.0, each_end us h.1)

  silent_of : (h : Heard) → is_silence h ≡ true → h ≡ Silent
  silent_of (Whole g) e = absurd cc
  silent_of (Collided g) e = absurd cc
  silent_of Damaged e = absurd cc
  silent_of Silent e = refl

  -- the events of a turn, behind others, are one turn more
  module _ (w : World L) (f : Signal) (x y : Fate) where
    abbrev pub fs : List Event
    fs = turn_events (mute_air m) w f x y

    abbrev pub turn : Turn
    turn = turn_at w f x y

    pub turns_more : (es : List Event) → turns (es ++ fs) ≡ turns es ++ turn ∷ []
    turns_more es = turns-append es fs (turn_fresh (mute_air m) w f x y) ∙ ap (λ ts. turns es ++ ts) (turn_made w f x y)

  -- A search goes on by what was heard of a request, and the tags stand as it says.
  module _ (s : Search) (w : World L) (es : List Event) (f : Signal) (x y : Fate) (h : Heard) (k : Stands s w (turns es)) (heard : Some h ≡ turn_heard (mute_air m) w f x y) where
    abbrev after : World L
    after = replay (mute_air m) w (fs w f x y)

    abbrev later : List Event
    later = es ++ fs w f x y

    -- and no frame was heard that no tag gives
    plain_at : IsHeeded s.found f → list_any is_strange (turns later) ≡ false
    plain_at heeded =
        let O : Option Heard → Bool = λ o. by_heard o (λ g. is_strange_said (said_by (spelled_answer g))) (λ g. false) false false false in
        let here : is_strange (turn w f x y) ≡ false =
        ap O (turn_hears w f x y ∙ sym heard) ∙ not_strange s.found w f x y h heeded heard (record { same = k.same; placed = k.placed }) in
        ap (list_any is_strange) (turns_more w f x y es) ∙ none_more is_strange (turns es) (turn w f x y) k.plain here

    stays_at : IsHeeded s.found f → Stay s.found after
    stays_at heeded = stay_on s.found w f x y h heeded heard (record { same = k.same; placed = k.placed })

    by_slot : (n : Mask) (slot : ℕ) → stage_request (stages.Slot n slot) ≡ Some f → Stands (takes s n slot (said h)) after (turns later)
    by_slot n slot due = by_taken (takes_early s n slot (said h))
      where
        heeded : IsHeeded s.found f
        heeded = request_heeded s.found (stages.Slot n slot) f k.known (inl tt) due

        by_taken : Taken s (takes s n slot (said h)) (said h) → Stands (takes s n slot (said h)) after (turns later)
        by_taken (Same e) = (let t = stays_at heeded in stands_early s.found (takes s n slot (said h)) after (turns later) e t.same t.placed k.known (plain_at heeded))
        by_taken (More id is e) =
            let t = stays_at heeded in
            let own : IsOneOf id ids = told_there s.found w f x y h id heeded heard (record { same = k.same; placed = k.placed }) is in
            stands_early (with_id s.found id) (takes s n slot (said h)) after (turns later) e t.same (placed_more m tag lit are ids s.found id after.listeners t.placed)
            (each_with (λ i. IsOneOf i ids) s.found id k.known own) (plain_at heeded)

    by_hush : (id : List ℕ) (next : ℕ) → IsOneOf id s.found → stage_request (stages.Hush id next) ≡ Some f → Stands (hushes s next) after (turns later)
    by_hush id next one due =
        let heeded = request_heeded s.found (stages.Hush id next) f k.known (inl one) due in
        let t = stays_at heeded in
        stands_early s.found (hushes s next) after (turns later) (hush_early s next) t.same t.placed k.known (plain_at heeded)

    by_question : (asked : ℕ) → asked < 4 → Asked s.found asked (turns es) → stage_request (stages.WhoIsLeft asked) ≡ Some f → Stands (answers_left s asked (is_silence h)) after (turns later)
    by_question asked few so due = by_silence (is_silence h) refl
      where
        heeded : IsHeeded s.found f
        heeded = request_heeded s.found (stages.WhoIsLeft asked) f k.known (inr tt) due

        inventory : inventory_all ≡ f
        inventory = let q : Some inventory_all ≡ Some f = due in let d : inventory_all ≡ f = cc in d

        question : is_silence h ≡ true → IsQuestion s.found (turn w f x y)
        question q =
            let silent : Some Silent ≡ turn_heard (mute_air m) w f x y = ap Some (sym (silent_of h q)) ∙ heard in
            record {
              asks = turn_request w f x y ∙ sym inventory;
              missed = missed_by f (sym inventory) heeded silent;
            }
          where
            missed_by : (g : Signal) → g ≡ inventory_all → IsHeeded s.found g → Some Silent ≡ turn_heard (mute_air m) w g x y
                → Each (λ i. IsOneOf i s.found) ids ⊎ (1 ≤ other_than_pass (turn w g x y).fate + noise_back (turn w g x y).back)
            missed_by g e heed silent =
                let G : Signal → Type 0 = λ g. Each (λ i. IsOneOf i s.found) ids ⊎ (1 ≤ other_than_pass (turn w g x y).fate + noise_back (turn w g x y).back) in
                let S : Signal → Type 0 = λ g. Some Silent ≡ turn_heard (mute_air m) w g x y in
                subst G (sym e) (silent_question s.found w x y (subst (IsHeeded s.found) e heed) (record { same = k.same; placed = k.placed }) (subst S e silent))

        stands_silent : is_silence h ≡ true → (v : Bool) → nat_lt (asked + 1) questions ≡ v → Stands (record s { stage = if v then stages.WhoIsLeft (asked + 1) else stages.Over }) after (turns later)
        stands_silent q v e =
            let t = stays_at heeded in
            record { same = t.same; placed = t.placed; known = k.known; at = by_count v e; plain = plain_at heeded }
          where
            one_more : Asked s.found (asked + 1) (turns later)
            one_more = subst (Asked s.found (asked + 1)) (sym (turns_more w f x y es)) (question_more s.found asked (turns es) (turn w f x y) so (question q))

            by_count : (v : Bool) → nat_lt (asked + 1) questions ≡ v → AtStage s.found (if v then stages.WhoIsLeft (asked + 1) else stages.Over) (turns later)
            by_count true e = (same_number (asked + 1) 4 e, one_more)
            by_count false e = subst (λ n. Asked s.found n (turns later)) (omega (arith, few, far_number (asked + 1) 4 e)) one_more

        stands_next : (v : Bool) → Stands (if v then begins_pass (s.pass + 1) s else fails s faults.Disturbed) after (turns later)
        stands_next true =
            (let t = stays_at heeded in stands_early s.found (begins_pass (s.pass + 1) s) after (turns later) (record { found' = refl; early = tt }) t.same t.placed k.known (plain_at heeded))
        stands_next false =
            (let t = stays_at heeded in stands_early s.found (fails s faults.Disturbed) after (turns later) (record { found' = refl; early = tt }) t.same t.placed k.known (plain_at heeded))

        by_silence : (v : Bool) → is_silence h ≡ v → Stands (answers_left s asked v) after (turns later)
        by_silence true q = stands_silent q (nat_lt (asked + 1) questions) refl
        by_silence false q = stands_next (nat_lt s.pass most_passes)

    by_stage : (stage : Stage) → AtStage s.found stage (turns es) → stage_request stage ≡ Some f → Stands (hears_at s stage h) after (turns later)
    by_stage (stages.Slot n slot) at due = by_slot n slot due
    by_stage (stages.Hush id next) at due = by_hush id next at due
    by_stage (stages.WhoIsLeft asked) at due = by_question asked at.0 at.1 due
    by_stage stages.Over at due = absurd cc
    by_stage (stages.Fails fault) at due = absurd cc

  pub due_some : (o : Option Signal) (f : Signal) → asked_for o ≡ Asks f → o ≡ Some f
  due_some None f e = absurd cc
  due_some (Some g) f e = ap Some (let d : g ≡ f = cc in d)

  pub asks : (s : Course) (w : World L) (es : List Event) (f : Signal) (x y : Fate) (h : Heard) → Inv s w es → course_next s ≡ Asks f → Some h ≡ turn_heard (mute_air m) w f x y
      → Inv (course_step s h) (replay (mute_air m) w (turn_events (mute_air m) w f x y)) (es ++ turn_events (mute_air m) w f x y)
  asks Begins w es f x y h k due heard = absurd cc
  asks (Runs s) w es f x y h k due heard = by_stage s w es f x y h k heard s.stage k.at (due_some (due_request s) f due)

  keeps : Keeps finding_all (mute_air m) Inv
  keeps = record { lights = lights; asks = asks }

  -- what the end of a search says
  missed_of : (found : List (List ℕ)) (ts : List Turn) → Asked found 4 ts → Each (λ i. IsOneOf i found ⊎ AreNoisyAtLast ts) ids
  missed_of found ts a = by_last a.last a.each (λ h. each_map (λ i. IsOneOf i found) (λ i. IsOneOf i found ⊎ AreNoisyAtLast ts) (λ i k. inl k) ids h)
      (λ h. every ids (record { before = a.before; last = a.last; parts = a.parts; four = a.count; each = h }))
    where
      every : (is : List (List ℕ)) → AreNoisyAtLast ts → Each (λ i. IsOneOf i found ⊎ AreNoisyAtLast ts) is
      every [] n = tt
      every (i ∷ is) n = (inr n, every is n)

      G : Type 0
      G = Each (λ i. IsOneOf i found ⊎ AreNoisyAtLast ts) ids

      by_last : (us : List Turn) → Each (IsQuestion found) us → (Each (λ i. IsOneOf i found) ids → G) → (Each IsNoisyQuestion us → G) → G
      by_last [] h all noisy = noisy tt
      by_last (u ∷ us) h all noisy = elim h.0.missed [
        | inl k ↦ all k
        | inr n ↦ by_last us h.1 all (λ rest. noisy (record { asks = h.0.asks; noisy = n }, rest))
      ]

  -- why a search ends by a bad answer, where it does
  abbrev Causes : Result (List (List ℕ)) PollFault → List Turn → Type 0
  Causes r ts = r ≡ Err faults.BadAnswer → (list_any is_strange ts ≡ true) ⊎ (most_rounds ≤ rounds_begun ts)

  many_rounds : (fault : PollFault) (ts : List Turn) → list_any is_strange ts ≡ false → Causes (Err fault) ts → FoundIf ids (Err fault) ts
  many_rounds fault ts plain causes e = by_cause (causes (ap Err e))
    where
      by_cause : (list_any is_strange ts ≡ true) ⊎ (most_rounds ≤ rounds_begun ts) → most_rounds ≤ rounds_begun ts
      by_cause (inl strange) = absurd (let no_ : false ≡ true = sym plain ∙ strange in cc)
      by_cause (inr many) = many

  no_bad : (fault : PollFault) (ts : List Turn) → (fault ≡ faults.BadAnswer → ⊥) → FoundIf ids (Err fault) ts
  no_bad fault ts other e = absurd (other e)

  ends_at : (found : List (List ℕ)) (stage : Stage) (ts : List Turn) → Each (λ i. IsOneOf i ids) found → AtStage found stage ts → list_any is_strange ts ≡ false
      → Causes (or_memory (over_at found stage)) ts → FoundIf ids (or_memory (over_at found stage)) ts
  ends_at found (stages.Slot n slot) ts known at plain causes = no_bad faults.Memory ts (λ e. cc)
  ends_at found (stages.Hush id next) ts known at plain causes = no_bad faults.Memory ts (λ e. cc)
  ends_at found (stages.WhoIsLeft asked) ts known at plain causes = no_bad faults.Memory ts (λ e. cc)
  ends_at found stages.Over ts known at plain causes = record { there = known; missing = missed_of found ts at }
  ends_at found (stages.Fails fault) ts known at plain causes = many_rounds fault ts plain causes

  found_so : (w : World L) (es : List Event) (r : Result (List (List ℕ)) PollFault) → Ending finding_all (mute_air m) Inv w es r → Causes r (turns es) → FoundIf ids r (turns es)
  found_so w es r (comes Begins k) causes = no_bad faults.Memory (turns es) (λ e. cc)
  found_so w es r (comes (Runs s) k) causes = ends_at s.found s.stage (turns es) k.known k.at k.plain causes
  found_so w es r loses causes = no_bad faults.FieldLost (turns es) (λ e. cc)

pub finds_tags : {L : Type 0} (m : Machine L) (old new : Air L) (r : Result (List (List ℕ)) PollFault) → Enquires finding_all m old r new → FindsTags m old r new
finds_tags m old new r q tag lit are eight =
    let ids : List (List ℕ) = tag_ids m tag old.listeners in
    let F : List Event → Type 0 = λ es. FoundIf ids r (turns es) in
    let B : List Event → Type 0 = λ es. r ≡ Err faults.BadAnswer → (list_any is_strange (turns es) ≡ true) ⊎ (most_rounds ≤ rounds_begun (turns es)) in
    let causes = has_causes m old new r q in
    subst F (sym (events_gained finding_all m old new r q))
    (found_so m tag lit are ids eight (moment new).world q.going.events r
    (ending finding_all (mute_air m) (Inv m tag lit are ids eight) (keeps m tag lit are ids eight) (moment old) (moment new) q.notes r (refl, refl) q.going q.comes)
    (subst B (events_gained finding_all m old new r q) causes.bad))
