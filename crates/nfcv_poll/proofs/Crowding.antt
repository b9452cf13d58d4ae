-- How a search stands to a crowd: a pass begins few rounds, and one without noise finds every tag and leaves all quiet.
use Rattle.std.proofs.Common.{◌≡◌, ◌⊎◌, inl, inr, ◌≤◌, ◌<◌, ℕ, ◌+◌, List, [], ◌∷◌, ◌++◌, length, filter_map, reverse, Bool, true, false, not, ◌&&◌, nat_eq, nat_lt, nat_le, if◌then◌else◌, Option, Some}
use Rattle.std.proofs.Common.{None, Result, Ok, Err, refl, sym, ◌∙◌, ap, subst, arith}
use Rattle.nfc_base.specs.declared.event.Event.{Event}
use Rattle.nfc_base.specs.declared.event.Event.TheVariants.{Reset}
use Rattle.nfc_base.specs.declared.event.Fate.TheVariants.{Pass, Damage, Lose, Break}
use Rattle.nfc_base.specs.declared.event.Fate.{Fate}
use Rattle.nfc_base.specs.declared.event.Heard.{Heard}
use Rattle.nfc_base.specs.declared.event.Heard.TheVariants.{Whole, Collided, Damaged, Silent}
use Rattle.nfc_base.specs.declared.frame.Tech.TheVariants.{V}
use Rattle.nfc_base.specs.Signal.{Signal}
use Rattle.nfc_base.specs.Trace.{Turn, turns, other_than_pass, by_heard, heard_by}
use Rattle.nfc_base.specs.Trace as backs
use Rattle.air_core.specs.Conversation.{LightUp, Asks, replay, turn_events, turn_heard, joint_back, Note, note, Going}
use Rattle.air_core.specs.Joint.{Nothing, joint, same_signal}
use Rattle.air_core.specs.Turn.{Air, moment}
use Rattle.air_core.specs.World.{Machine, World, answered_by, stepped, reset_by}
use Rattle.nfca_poll.specs.Crowd.{Each}
use Rattle.nfca_poll.specs.Enquiry.{Progress, Reaches, Loses, Enquires, or_memory, progress, enquiring, answer_of}
use Rattle.nfca_poll.specs.Inventory.{inventory_all}
use Rattle.nfca_poll.proofs.quiet.Eaches.{each_map}
use Rattle.nfca_poll.proofs.enquiries.TurnWalks.{turns-append}
use Rattle.nfca_poll.specs.Muted.{muted, mute_air}
use Rattle.nfca_poll.specs.declared.fault.PollFault.{PollFault}
use Rattle.nfca_poll.specs.declared.fault.PollFault.TheVariants as faults
use Rattle.nfca_poll.proofs.enquiries.EnquiryEnds.{events_gained}
use Rattle.nfca_poll.proofs.enquiries.EnquiryWalks.{after as after_note, holds}
use Rattle.air_core.proofs.Turns.{replay-append}
use Rattle.t5t_tag.specs.declared.command.T5Command.TheVariants.{NextSlot, Quiet}
use Rattle.t5t_tag.specs.Reading.{spelled_answer}
use Rattle.t5t_tag.specs.Slots.{last_slot}
use Rattle.t5t_tag.specs.Spelling.{slots_flags, command_frame}
use Rattle.t5t_tag.specs.Step.{t5_answer}
use Rattle.t5t_tag.specs.Store.{T5State, id_size}
use Rattle.nfcv_poll.specs.declared.mask.Mask.{Mask}
use Rattle.nfcv_poll.specs.declared.search.Said.{Said}
use Rattle.nfcv_poll.specs.declared.search.Said.TheVariants as told
use Rattle.nfcv_poll.specs.declared.search.Search.{Search}
use Rattle.nfcv_poll.specs.declared.search.Stage.{Stage}
use Rattle.nfcv_poll.specs.declared.search.Stage.TheVariants as stages
use Rattle.nfcv_poll.specs.Finding.{is_answered, is_answered_question, begins_with, is_strange_said}
use Rattle.nfcv_poll.specs.Masks.{no_bits, extended, slots_frame}
use Rattle.nfcv_poll.specs.Search.{most_passes, most_rounds, questions, with_id, id_at, said_by, said, begins_pass, fresh, fails, hush_stage, hushes, opens_with, leaves, with_clash, is_spent}
use Rattle.nfcv_poll.specs.Search.{takes_in, takes, is_silence, answers_left, hears_at, stage_request, due_request, over_at, Course, Begins, Runs, course_step, course_next, finding_all}
use Rattle.nfcv_poll.specs.Crowd.{AreCrowd, CrowdV, SearchesCrowd}
use Rattle.nfcv_poll.specs.Passes.{passes, noise_of, noise_in, IsShort}
use Rattle.nfcv_poll.specs.Tags.{IsOneOf, StepAsTags, tag_ids, noise_back}
use Rattle.nfcv_poll.proofs.Counting.{Counts, counts_none, slot_turn, unanswered, counts_on, counts_round, short_pass, short_on, recorded, all_done, next_sought, first_sought}
use Rattle.nfcv_poll.proofs.Members.{stays, each_one, each_id, one_at}
use Rattle.nfcv_poll.proofs.NoRound.{question_frame, none_lit, none_asked}
use Rattle.nfcv_poll.proofs.Parted.{Parted, parted_none, parted_more, parted_end, each_pass, each_ended, none_before, each_end}
use Rattle.nfcv_poll.proofs.Quietly.{Still, place_of, quiet_at_last, still_next, quiet_silent, quiet_still, told_all, each_goes, none_says, AreSought, sought_on}
use Rattle.nfcv_poll.proofs.Sought.{Sought, Learns, ToldOf, due_frame, not_least}
use Rattle.nfcv_poll.proofs.Clashing.{AreWith}
use Rattle.nfcv_poll.proofs.FoundTags.{Inv, Stands, IsHeeded, Stay, turn_at, turn_hears, turn_request, turns_more, request_heeded, stay_on, told_there, not_strange, lights as finds_lit}
use Rattle.nfcv_poll.proofs.FoundTags.{asks as finds_asked, due_some, no_light}
use Rattle.nfcv_poll.proofs.Passing.{Mark, IsMarked, Met, reached, missed, met, Behind, behind_next, behind_slots, none_left, Working, few_rounds, Begun, pass_begins, Kept, without_clash, shallow}
use Rattle.nfcv_poll.proofs.Passing.{Pushed, Clashed, pushed, passed, with_clash as clash_more, Next, next_round}
use Rattle.nfcv_poll.proofs.Paths.{mask_by}
use Rattle.nfcv_poll.proofs.Preorder.{Before}
use Rattle.nfcv_poll.proofs.Standing.{Fares, IsPlaced, ArePlaced, placed_more}

same_number : (n k : ℕ) → nat_eq n k ≡ true → n ≡ k
same_number n k h = grind arith

other_number : (n : ℕ) → nat_eq n 0 ≡ false → 0 < n
other_number n h = grind arith

test_less : (n k : ℕ) → nat_lt n k ≡ true → n < k
test_less n k h = grind arith

-- a pass that began few rounds is not at its last
not_spent : (a b v : Bool) → b ≡ false → (a && b && v) ≡ false
not_spent true true v h = absurd cc
not_spent true false v h = refl
not_spent false b v h = refl

-- a request reaches the tags in this slot of this round: of the mask, or of the round that they are in
abbrev round_by : Bool → List ℕ → List ℕ → List ℕ
round_by true path actual = path
round_by false path actual = actual

abbrev slot_by : Bool → ℕ → ℕ
slot_by true current = 0
slot_by false current = current + 1

module _ {L : Type 0} (m : Machine L) (tag : L → T5State) (lit : L → Bool) (are : StepAsTags m tag lit) (ids : List (List ℕ)) (crowd : AreCrowd ids) where
  abbrev Works : ℕ → List Mask → List Mask → Mask → ℕ → World L → Type 0
  Works rounds clashes masks n slot w = Working m tag lit are ids crowd.long rounds clashes masks n slot w

  abbrev AllFound : List (List ℕ) → Type 0
  AllFound found = Each (λ i. IsOneOf i found) ids

  abbrev AreStill : List (List ℕ) → ℕ → World L → Type 0
  AreStill found n w = Each (λ l. m.tech l ≡ V → Still found n (tag l)) w.listeners

  abbrev AreQuiet : World L → Type 0
  AreQuiet w = Each (λ l. m.tech l ≡ V → (tag l).quiet ≡ true) w.listeners

  -- where a pass without noise looks for the tags: they are in the round of its mask, in the slot before this
  record Looks (found : List (List ℕ)) (rounds : ℕ) (clashes masks : List Mask) (n : Mask) (slot : ℕ) (w : World L) (k : Works rounds clashes masks n slot w) : Type 0 where
    pace : 0 < slot → (k.within.actual ≡ k.path) × (k.within.current + 1 ≡ slot)
    sought : AreSought m tag lit are ids crowd found k.path slot k.cs k.ws w.listeners

  record AtSlot (found : List (List ℕ)) (rounds : ℕ) (clashes masks : List Mask) (n : Mask) (slot : ℕ) (w : World L) (now : List Turn) : Type 0 where
    work : Works rounds clashes masks n slot w
    counts : Counts rounds slot now
    looks : noise_in now ≡ 0 → Looks found rounds clashes masks n slot w work

  -- which tag is told to stay quiet, and that those before it are
  record AtHush (found : List (List ℕ)) (id : List ℕ) (after : ℕ) (w : World L) : Type 0 where
    place : ℕ
    after' : after ≡ place + 1
    at : id_at found place ≡ Some id
    still : AreStill found place w

  record AtEnd (s : Search) (now : List Turn) (Quiets : Type 0) : Type 0 where
    clashes' : s.clashes ≡ []
    masks' : s.masks ≡ []
    short : IsShort now
    quiets : noise_in now ≡ 0 → AllFound s.found × Quiets

  -- how a pass stands at a stage, by its turns
  abbrev AtPass : Search → World L → List Turn → Stage → Type 0
  AtPass s w now (stages.Slot n slot) = (slot < 16) × AtSlot s.found s.rounds s.clashes s.masks n slot w now
  AtPass s w now (stages.Hush id place) = AtEnd s now (AtHush s.found id place w)
  AtPass s w now (stages.WhoIsLeft _) = AtEnd s now (AreQuiet w)
  AtPass s w now stages.Over = AtEnd s now (Unit {0})
  AtPass s w now (stages.Fails fault) = (fault ≡ faults.BadAnswer → ⊥) × (now ≡ [])

  abbrev Passes : Search → World L → List Turn → Type 0
  Passes s w now = AtPass s w now s.stage

  -- a pass begins, and looks for each tag that isn't quiet
  begins_slot : (found : List (List ℕ)) (w : World L) → ArePlaced m tag lit are ids found w.listeners → AreWith m tag lit are ids (mask_by []) 0 w.listeners → AtSlot found 1 [] [] no_bits 0 w []
  begins_slot found w placed at = record {
    work = first.more;
    counts = counts_none;
    looks = λ z. record { pace = λ e. absurd (omega (arith, e)); sought = sought_ };
  }
    where
      first : Begun m tag lit are ids crowd.long w
      first = pass_begins m tag lit are ids crowd.long w at

      sought_ : AreSought m tag lit are ids crowd found first.more.path 0 first.more.cs first.more.ws w.listeners
      sought_ =
          let A : List ℕ → List (List ℕ) → List (List ℕ) → Type 0 = λ q cs ws. AreSought m tag lit are ids crowd found q 0 cs ws w.listeners in
          let one : A [] [] [] = each_map (λ l. m.tech l ≡ V → IsPlaced m tag lit are ids found l) (λ l. m.tech l ≡ V → Sought found [] 0 [] [] (tag l))
          (λ l p v. first_sought found (tag l) (p v).quiet) w.listeners placed in
          let two : A [] first.more.cs [] = subst (λ cs. A [] cs []) (sym first.cs') one in
          let three : A [] first.more.cs first.more.ws = subst (λ ws. A [] first.more.cs ws) (sym first.ws') two in
          subst (λ q. A q first.more.cs first.more.ws) (sym first.path') three

  -- from a place on tags are still to be told to stay quiet
  hush_passes : (s : Search) (at : ℕ) (w : World L) (now : List Turn) → AtEnd s now (AreStill s.found at w) → Passes (hushes s at) w now
  hush_passes s at w now k = by_place (id_at s.found at) refl
    where
      by_place : (o : Option (List ℕ)) → id_at s.found at ≡ o → AtPass (record s { stage = hush_stage o at }) w now (hush_stage o at)
      by_place None e = record {
        clashes' = k.clashes';
        masks' = k.masks';
        short = k.short;
        quiets = λ z. (
          (k.quiets z).0,
          each_map (λ l. m.tech l ≡ V → Still s.found at (tag l)) (λ l. m.tech l ≡ V → (tag l).quiet ≡ true) (λ l h v. quiet_at_last s.found at (tag l) e (h v))
              w.listeners (k.quiets z).1,
        );
      }
      by_place (Some id) e = record {
        clashes' = k.clashes';
        masks' = k.masks';
        short = k.short;
        quiets = λ z. ((k.quiets z).0, record { place = at; after' = refl; at = e; still = (k.quiets z).1 });
      }

  -- behind a request in a slot
  behind : (found : List (List ℕ)) (w : World L) (rounds : ℕ) (clashes masks : List Mask) (n : Mask) (slot : ℕ) (f : Signal) (x y : Fate) (h : Heard) → tag_ids m tag w.listeners ≡ ids
      → ArePlaced m tag lit are ids found w.listeners
      → Some h ≡ turn_heard (mute_air m) w f x y → (k : Works rounds clashes masks n slot w) → stage_request (stages.Slot n slot) ≡ Some f
      → Behind m tag lit are ids crowd.long x (round_by (nat_eq slot 0) k.path k.within.actual) (slot_by (nat_eq slot 0) k.within.current) k.path k.marks h
      (replay (mute_air m) w (turn_events (mute_air m) w f x y))
  behind found w rounds clashes masks n slot f x y h same placed heard k due = by_slot (nat_eq slot 0) refl due
    where
      Turned : Bool → Signal → Type 0
      Turned v g = Behind m tag lit are ids crowd.long x (round_by v k.path k.within.actual) (slot_by v k.within.current) k.path k.marks h (replay (mute_air m) w (turn_events (mute_air m) w g x y))

      before_it : slot ≡ 0 → Each (λ j. Before j.path k.path) k.marks
      before_it e = each_before k.marks k.marked
        where
          asked_before : (j : Mark) → ((j.path ≡ k.path) × (0 < slot)) ⊎ Before j.path k.path → Before j.path k.path
          asked_before j (inl p) = absurd (let q : 0 < slot = p.1 in omega (arith, q, e))
          asked_before j (inr b) = b

          each_before : (js : List Mark) → Each (IsMarked m tag lit are ids crowd.long k.path slot) js → Each (λ j. Before j.path k.path) js
          each_before [] i = tt
          each_before (j ∷ js) i = (asked_before j i.0.asked, each_before js i.1)

      by_slot : (v : Bool) → nat_eq slot 0 ≡ v → Some (if v then slots_frame n else command_frame NextSlot) ≡ Some f → Turned v f
      by_slot true e d =
          let q : slots_frame n ≡ f = cc in
          let r : f ≡ slots_frame (mask_by k.path) = sym q ∙ ap slots_frame k.is in
          let B : Signal → Type 0 = λ g. Some h ≡ turn_heard (mute_air m) w g x y → Turned true g in
          subst B (sym r) (λ hear. behind_slots m tag lit are ids crowd.long k.path k.marks found w x y h same hear placed k.of_path (before_it (same_number slot 0 e)) k.within) heard
      by_slot false e d =
          let q : command_frame NextSlot ≡ f = cc in
          let B : Signal → Type 0 = λ g. Some h ≡ turn_heard (mute_air m) w g x y → Turned false g in
          subst B q (λ hear. behind_next m tag lit are ids crowd.long k.path k.marks w x y h same hear k.within) heard

  -- behind a slot
  module _ (s : Search) (n : Mask) (slot : ℕ) (w : World L) (now : List Turn) (placed : ArePlaced m tag lit are ids s.found w.listeners) (same : tag_ids m tag w.listeners ≡ ids) (less : slot < 16)
      (k : AtSlot s.found s.rounds s.clashes s.masks n (slot + 1) w now) where
    abbrev all : List Mask
    all = reverse s.clashes ++ s.masks

    rounds_few : s.rounds ≤ 121
    rounds_few = few_rounds m tag lit are ids crowd.long s.rounds s.clashes s.masks n (slot + 1) w crowd.few k.work

    none_waits : 16 ≤ slot + 1 → all ≡ [] → noise_in now ≡ 0 → AllFound s.found × AreStill s.found 0 w
    none_waits last e z =
        let empty : reverse k.work.cs ++ k.work.ws ≡ [] = none_left k.work.cs k.work.ws s.clashes s.masks k.work.clashes' k.work.masks' e in
        let found : Each (λ l. m.tech l ≡ V → IsOneOf (tag l).id s.found) w.listeners =
        each_map (λ l. m.tech l ≡ V → Sought s.found k.work.path (slot + 1) k.work.cs k.work.ws (tag l)) (λ l. m.tech l ≡ V → IsOneOf (tag l).id s.found)
        (λ l h v. all_done s.found k.work.path (slot + 1) k.work.cs k.work.ws (tag l) last empty (h v)) w.listeners (k.looks z).sought in (
          subst (Each (λ i. IsOneOf i s.found)) same (each_id m tag (λ i. IsOneOf i s.found) w.listeners found),
          each_map (λ l. m.tech l ≡ V → IsOneOf (tag l).id s.found) (λ l. m.tech l ≡ V → Still s.found 0 (tag l)) (λ l h v. inr (place_of s.found (tag l).id (h v))) w.listeners found,
        )

    -- the next round looks for those that wait
    looks_next : 16 ≤ slot + 1 → (n' : Mask) (rest : List Mask) (e : all ≡ n' ∷ rest) → (x : Next m tag lit are ids crowd.long s.rounds s.clashes s.masks n (slot + 1) w k.work n' rest e)
        → noise_in now ≡ 0
        → Looks s.found (s.rounds + 1) [] rest n' 0 w x.more
    looks_next last n' rest e x z = record {
      pace = λ h. absurd (omega (arith, h));
      sought =
          each_map (λ l. (m.tech l ≡ V → Sought s.found k.work.path (slot + 1) k.work.cs k.work.ws (tag l)) × (m.tech l ≡ V → IsPlaced m tag lit are ids s.found l))
          (λ l. m.tech l ≡ V → Sought s.found x.more.path 0 x.more.cs x.more.ws (tag l)) one w.listeners (each_two w.listeners (k.looks z).sought placed);
    }
      where
        each_two : (ls : List L) → AreSought m tag lit are ids crowd s.found k.work.path (slot + 1) k.work.cs k.work.ws ls → ArePlaced m tag lit are ids s.found ls
            → Each (λ l. (m.tech l ≡ V → Sought s.found k.work.path (slot + 1) k.work.cs k.work.ws (tag l)) × (m.tech l ≡ V → IsPlaced m tag lit are ids s.found l)) ls
        each_two [] h p = tt
        each_two (l ∷ ls) h p = ((h.0, p.0), each_two ls h.1 p.1)

        one : (l : L) → (m.tech l ≡ V → Sought s.found k.work.path (slot + 1) k.work.cs k.work.ws (tag l)) × (m.tech l ≡ V → IsPlaced m tag lit are ids s.found l) → m.tech l ≡ V
            → Sought s.found x.more.path 0 x.more.cs x.more.ws (tag l)
        one l h v =
            subst (λ cs. Sought s.found x.more.path 0 cs x.more.ws (tag l)) (sym x.none)
            (next_sought s.found k.work.path (slot + 1) k.work.cs k.work.ws (tag l) x.more.path x.more.ws last (h.1 v).quiet x.all (h.0 v))

    opened : 16 ≤ slot + 1 → (ms : List Mask) → all ≡ ms → Passes (opens_with (record s { masks = all; clashes = [] }) ms) w now
    opened last [] e = hush_passes (record s { masks = []; clashes = [] }) 0 w now (record {
      clashes' = refl;
      masks' = refl;
      short = short_pass s.rounds (slot + 1) now (omega (arith, less)) rounds_few k.counts;
      quiets = none_waits last e;
    })
    opened last (n' ∷ rest) e = by_rounds (nat_le most_rounds s.rounds) (not_least 128 s.rounds (omega (arith, rounds_few)))
      where
        by_rounds : (v : Bool) → v ≡ false
            → Passes (if v then fails (record s { masks = rest; clashes = [] }) faults.BadAnswer else record s { rounds = s.rounds + 1; masks = rest; clashes = []; stage = stages.Slot n' 0 }) w now
        by_rounds true h = absurd cc
        by_rounds false h =
            let x : Next m tag lit are ids crowd.long s.rounds s.clashes s.masks n (slot + 1) w k.work n' rest e =
            next_round m tag lit are ids crowd.long s.rounds s.clashes s.masks n (slot + 1) w k.work n' rest e in
            let end : 16 ≡ slot + 1 = omega (arith, last, less) in
            (omega arith, record { work = x.more; counts = counts_round s.rounds (slot + 1) now end k.counts; looks = looks_next last n' rest e x })

    leaves_passes : Passes (leaves s n slot) w now
    leaves_passes = by_slot (nat_lt slot last_slot) refl
      where
        far : (a b : ℕ) → nat_lt a b ≡ false → b ≤ a
        far a b h = grind arith

        by_slot : (v : Bool) → nat_lt slot last_slot ≡ v → Passes (if v then record s { stage = stages.Slot n (slot + 1) } else opens_with (record s { masks = all; clashes = [] }) all) w now
        by_slot true e = (let l : slot < 15 = test_less slot 15 e in omega (arith, l), k)
        by_slot false e = opened (let l : 15 ≤ slot = far slot 15 e in omega (arith, l)) all refl

  -- a turn without noise passed, and so did what came back
  quiet_turn : (w : World L) (f : Signal) (x y : Fate) → noise_of (turn_at m tag lit are ids crowd.long w f x y) ≡ 0 → (x ≡ Pass) × (noise_back (joint_back ((mute_air m).joint w f) y) ≡ 0)
  quiet_turn w f Pass y h = (refl, (let q : 0 + noise_back (joint_back ((mute_air m).joint w f) y) ≡ 0 = h in omega (arith, q)))
  quiet_turn w f Damage y h = absurd (let q : 1 + 0 ≡ 0 = h in omega (arith, q))
  quiet_turn w f Lose y h = absurd (let q : 1 + 0 ≡ 0 = h in omega (arith, q))
  quiet_turn w f Break y h = absurd (let q : 1 + 0 ≡ 0 = h in omega (arith, q))

  -- then the listeners have heard it
  goes_through : (w : World L) (f : Signal) (x y : Fate) (h : Heard) → x ≡ Pass → Some h ≡ turn_heard (mute_air m) w f x y
      → replay (mute_air m) w (turn_events (mute_air m) w f x y) ≡ stepped (muted m) w f
  goes_through w f x y h pass heard = by_met (met m tag lit are ids crowd.long w f x y h heard)
    where
      by_met : Met m tag lit are ids crowd.long w f x y h → replay (mute_air m) w (turn_events (mute_air m) w f x y) ≡ stepped (muted m) w f
      by_met (reached p goes) = goes
      by_met (missed silent noise stays) = absurd (let N : Fate → Type 0 = λ z. 1 ≤ other_than_pass z in let no_ : 1 ≤ 0 = subst N pass noise in omega (arith, no_))

  back_heard : (w : World L) (f : Signal) (x y : Fate) (h : Heard) → x ≡ Pass → Some h ≡ turn_heard (mute_air m) w f x y → Some h ≡ heard_by Pass (joint_back ((mute_air m).joint w f) y)
  back_heard w f x y h pass heard = let T : Fate → Type 0 = λ z. Some h ≡ turn_heard (mute_air m) w f z y in subst T pass heard

  -- a turn in a slot
  module _ (s : Search) (w : World L) (es : List Event) (n : Mask) (slot : ℕ) (f : Signal) (x y : Fate) (h : Heard) (stands : Stands m tag lit are ids crowd.long s w (turns es))
      (heard : Some h ≡ turn_heard (mute_air m) w f x y)
      (less : slot < 16) (now : List Turn) (at : AtSlot s.found s.rounds s.clashes s.masks n slot w now) (due : stage_request (stages.Slot n slot) ≡ Some f) where
    abbrev k : Works s.rounds s.clashes s.masks n slot w
    k = at.work

    abbrev after : World L
    after = replay (mute_air m) w (turn_events (mute_air m) w f x y)

    abbrev turn : Turn
    turn = turn_at m tag lit are ids crowd.long w f x y

    abbrev then_ : List Turn
    then_ = now ++ turn ∷ []

    heeded : IsHeeded m tag lit are ids crowd.long s.found f
    heeded = request_heeded m tag lit are ids crowd.long s.found (stages.Slot n slot) f stands.known (inl tt) due

    stays_so : Stay m tag lit are ids crowd.long s.found after
    stays_so = stay_on m tag lit are ids crowd.long s.found w f x y h heeded heard (record { same = stands.same; placed = stands.placed })

    abbrev round_now : List ℕ
    round_now = round_by (nat_eq slot 0) k.path k.within.actual

    abbrev slot_now : ℕ
    slot_now = slot_by (nat_eq slot 0) k.within.current

    b : Behind m tag lit are ids crowd.long x round_now slot_now k.path k.marks h after
    b = behind s.found w s.rounds s.clashes s.masks n slot f x y h stands.same stands.placed heard k due

    plain : is_strange_said (said h) ≡ false
    plain = said_plain h (not_strange m tag lit are ids crowd.long s.found w f x y h heeded heard (record { same = stands.same; placed = stands.placed }))
      where
        said_plain : (g : Heard) → by_heard (Some g) (λ k. is_strange_said (said_by (spelled_answer k))) (λ k. false) false false false ≡ false → is_strange_said (said g) ≡ false
        said_plain (Whole g) e = e
        said_plain (Collided g) e = refl
        said_plain Damaged e = refl
        said_plain Silent e = refl

    -- without noise the tags keep pace
    paced : x ≡ Pass → (0 < slot → (k.within.actual ≡ k.path) × (k.within.current + 1 ≡ slot)) → (b.within.actual ≡ k.path) × (b.within.current ≡ slot)
    paced pass pace = by_first (nat_eq slot 0) refl (b.pace pass)
      where
        by_first : (v : Bool) → nat_eq slot 0 ≡ v → (b.within.actual ≡ round_by v k.path k.within.actual) × (b.within.current ≡ slot_by v k.within.current)
            → (b.within.actual ≡ k.path) × (b.within.current ≡ slot)
        by_first true e p = (p.0, p.1 ∙ sym (same_number slot 0 e))
        by_first false e p = let q = pace (other_number slot e) in (p.0 ∙ q.0, p.1 ∙ q.1)

    is_due : f ≡ due_frame k.path (nat_eq slot 0)
    is_due = by_slot (nat_eq slot 0) due
      where
        by_slot : (v : Bool) → Some (if v then slots_frame n else command_frame NextSlot) ≡ Some f → f ≡ due_frame k.path v
        by_slot true d = let q : slots_frame n ≡ f = cc in sym q ∙ ap slots_frame k.is
        by_slot false d = let q : command_frame NextSlot ≡ f = cc in sym q

    fares : (t : T5State) → Fares s.found t (due_frame k.path (nat_eq slot 0))
    fares t = subst (Fares s.found t) is_due (heeded.fares t)

    quiet_now : noise_in then_ ≡ 0 → (noise_in now ≡ 0) × (x ≡ Pass) × (noise_back (joint_back ((mute_air m).joint w f) y) ≡ 0)
    quiet_now z = let a = none_before now turn z in let q = quiet_turn w f x y a.1 in (a.0, q.0, q.1)

    sees : (found' cs' ws' : List (List ℕ)) → Learns ids s.found k.path slot k.cs k.ws h found' cs' ws' → noise_in then_ ≡ 0
        → AreSought m tag lit are ids crowd found' k.path (slot + 1) cs' ws' after.listeners
    sees found' cs' ws' learns z =
        let q = quiet_now z in
        let goes : after ≡ stepped (muted m) w f = goes_through w f x y h q.1 heard in
        let told_ : Each (ToldOf h) (filter_map (λ l. answered_by (muted m) l f None) w.listeners) =
        told_all (filter_map (λ l. answered_by (muted m) l f None) w.listeners) y h q.2 (back_heard w f x y h q.1 heard) in
        let S : Signal → Type 0 = λ g. Each (ToldOf h) (filter_map (λ l. answered_by (muted m) l g None) w.listeners)
        → AreSought m tag lit are ids crowd found' k.path (slot + 1) cs' ws' (stepped (muted m) w g).listeners in
        let there : AreSought m tag lit are ids crowd found' k.path (slot + 1) cs' ws' (stepped (muted m) w f).listeners =
        subst S (sym is_due) (λ t. sought_on m tag lit are ids crowd s.found k.path slot k.cs k.ws h found' cs' ws' learns k.of_path less fares w.listeners stands.placed t (at.looks q.0).sought)
        told_ in
        subst (λ (v : World L). AreSought m tag lit are ids crowd found' k.path (slot + 1) cs' ws' v.listeners) (sym goes) there

    counts : Counts s.rounds (slot + 1) then_
    counts = counts_on s.rounds slot now turn at.counts (slot_turn n (nat_eq slot 0) turn.request (due ∙ ap Some (sym (turn_request m tag lit are ids crowd.long w f x y))))

    still : Kept m tag lit are ids crowd.long s.rounds s.clashes s.masks n slot w after h k x round_now slot_now b
    still = without_clash m tag lit are ids crowd.long s.rounds s.clashes s.masks n slot w after h k x round_now slot_now b

    pace_now : noise_in then_ ≡ 0 → (b.within.actual ≡ k.path) × (b.within.current ≡ slot)
    pace_now z = let q = quiet_now z in paced q.1 (at.looks q.0).pace

    no_more : (found' : List (List ℕ)) → Learns ids s.found k.path slot k.cs k.ws h found' k.cs k.ws → AtSlot found' s.rounds s.clashes s.masks n (slot + 1) after then_
    no_more found' learns = record {
      work = still.more;
      counts = counts;
      looks = λ z. record { pace = λ _. (still.within'.0 ∙ (pace_now z).0 ∙ sym still.path', ap (λ c. c + 1) (still.within'.1 ∙ (pace_now z).1)); sought = sought_ z };
    }
      where
        sought_ : noise_in then_ ≡ 0 → AreSought m tag lit are ids crowd found' still.more.path (slot + 1) still.more.cs still.more.ws after.listeners
        sought_ z =
            let A : List ℕ → List (List ℕ) → List (List ℕ) → Type 0 = λ q cs ws. AreSought m tag lit are ids crowd found' q (slot + 1) cs ws after.listeners in
            let one : A k.path k.cs k.ws = sees found' k.cs k.ws learns z in
            let two : A k.path still.more.cs k.ws = subst (λ cs. A k.path cs k.ws) (sym still.cs') one in
            let three : A k.path still.more.cs still.more.ws = subst (λ ws. A k.path still.more.cs ws) (sym still.ws') two in
            subst (λ q. A q still.more.cs still.more.ws) (sym still.path') three

    abbrev Own : List (List ℕ) → Type 0
    Own is = Each (λ i. (length i ≡ id_size) × Each (λ b. b < 256) i) is

    owned : (is : List (List ℕ)) → Each (λ i. IsOneOf i ids) is → Own is
    owned is h = each_map (λ i. IsOneOf i ids) (λ i. (length i ≡ id_size) × Each (λ b. b < 256) i)
        (λ i o. (each_one (λ i. length i ≡ id_size) ids i crowd.long o, each_one (λ i. Each (λ b. b < 256) i) ids i crowd.bytes o)) is h

    taken : (z : Said) → said h ≡ z → Passes (takes_in s n slot z) after then_
    taken told.Nothing e =
        leaves_passes s n slot after then_ stays_so.placed stays_so.same less (no_more s.found (record {
          keeps = λ i o. o;
          tells = λ i q. absurd (let no_ : told.Nothing ≡ told.Tag i = sym e ∙ q in cc);
          later = λ q o. o;
          clash = λ q. absurd (let no_ : told.Nothing ≡ told.Clash = sym e ∙ q in cc);
        }))
    taken (told.Tag id) e =
        let found' : List (List ℕ) = with_id s.found id in
        let own : IsOneOf id ids = told_there m tag lit are ids crowd.long s.found w f x y h id heeded heard (record { same = stands.same; placed = stands.placed }) e in
        let there : IsOneOf id found' = recorded s.found id (owned s.found stands.known) (each_one (λ i. length i ≡ id_size) ids id crowd.long own)
        (each_one (λ i. Each (λ b. b < 256) i) ids id crowd.bytes own) in
        leaves_passes (record s { found = found' }) n slot after then_ (placed_more m tag lit are ids s.found id after.listeners stays_so.placed) stays_so.same less (no_more found' (record {
          keeps = λ i o. stays s.found id i o;
          tells = λ i q. (let d : told.Tag id ≡ told.Tag i = sym e ∙ q in let same_ : id ≡ i = cc in subst (λ j. IsOneOf j found') same_ there);
          later = λ q o. o;
          clash = λ q. absurd (let no_ : told.Tag id ≡ told.Clash = sym e ∙ q in cc);
        }))
    taken told.Strange e = absurd (let no_ : true ≡ false = sym (ap is_strange_said e) ∙ plain in cc)
    taken told.Clash e = by_clash (clash_more m tag lit are ids crowd.long s.rounds s.clashes s.masks n slot w after h k x round_now slot_now b crowd less e)
      where
        pushes : (longer : Mask) (p : Pushed m tag lit are ids crowd.long s.rounds s.clashes s.masks n slot w after h k x round_now slot_now b longer)
            → AtSlot s.found s.rounds (longer ∷ s.clashes) s.masks n (slot + 1) after then_
        pushes longer p =
            record {
              work = p.more;
              counts = counts;
              looks = λ z. record {
                pace = λ _. (p.within'.0 ∙ (pace_now z).0 ∙ sym p.path', ap (λ c. c + 1) (p.within'.1 ∙ (pace_now z).1));
                sought = sought_ z;
              };
            }
          where
            learns : Learns ids s.found k.path slot k.cs k.ws h s.found ((k.path ++ slot ∷ []) ∷ k.cs) k.ws
            learns = record {
              keeps = λ i o. o;
              tells = λ i q. absurd (let no_ : told.Clash ≡ told.Tag i = sym e ∙ q in cc);
              later = later_one;
              clash = λ q. inl refl;
            }
              where
                later_one : (q : List ℕ) → IsOneOf q k.cs ⊎ IsOneOf q k.ws → IsOneOf q ((k.path ++ slot ∷ []) ∷ k.cs) ⊎ IsOneOf q k.ws
                later_one q (inl o) = inl (inr o)
                later_one q (inr o) = inr o

            sought_ : noise_in then_ ≡ 0 → AreSought m tag lit are ids crowd s.found p.more.path (slot + 1) p.more.cs p.more.ws after.listeners
            sought_ z =
                let A : List ℕ → List (List ℕ) → List (List ℕ) → Type 0 = λ q cs ws. AreSought m tag lit are ids crowd s.found q (slot + 1) cs ws after.listeners in
                let one : A k.path ((k.path ++ slot ∷ []) ∷ k.cs) k.ws = sees s.found ((k.path ++ slot ∷ []) ∷ k.cs) k.ws learns z in
                let two : A k.path p.more.cs k.ws = subst (λ cs. A k.path cs k.ws) (sym p.cs') one in
                let three : A k.path p.more.cs p.more.ws = subst (λ ws. A k.path p.more.cs ws) (sym p.ws') two in
                subst (λ q. A q p.more.cs p.more.ws) (sym p.path') three

        passes_over : 15 ≤ length k.path → AtSlot s.found s.rounds s.clashes s.masks n (slot + 1) after then_
        passes_over long = record { work = still.more; counts = counts; looks = λ z. absurd (too_long z) }
          where
            too_long : noise_in then_ ≡ 0 → ⊥
            too_long z =
                let few : length b.within.actual < 15 = shallow m tag lit are ids crowd.long s.rounds s.clashes s.masks n slot w after h k x round_now slot_now b crowd e in
                let same_ : length b.within.actual ≡ length k.path = ap length (pace_now z).0 in
                omega (arith, few, same_, long)

        by_clash : Clashed m tag lit are ids crowd.long s.rounds s.clashes s.masks n slot w after h k x round_now slot_now b → Passes (leaves (with_clash s (extended n slot)) n slot) after then_
        by_clash (pushed longer p) =
            subst (λ o. Passes (leaves (with_clash s o) n slot) after then_) (sym p.is) (leaves_passes (record s { clashes = longer ∷ s.clashes }) n slot after then_ stays_so.placed stays_so.same less
            (pushes longer p))
        by_clash (passed is long) =
            subst (λ o. Passes (leaves (with_clash s o) n slot) after then_) (sym is) (leaves_passes s n slot after then_ stays_so.placed stays_so.same less (passes_over long))

    slot_passes : Passes (takes s n slot (said h)) after then_
    slot_passes =
        let r : s.rounds ≤ 121 = few_rounds m tag lit are ids crowd.long s.rounds s.clashes s.masks n slot w crowd.few k in
        let few : is_spent s n slot (said h) ≡ false = not_spent (nat_le last_slot slot) (nat_le most_rounds s.rounds) _ (not_least 128 s.rounds (omega (arith, r))) in
        subst (λ v. Passes (if v then fails s faults.BadAnswer else takes_in s n slot (said h)) after then_) (sym few) (taken (said h) refl)

    slot_open : is_answered_question turn ≡ false
    slot_open = unanswered turn (slot_turn n (nat_eq slot 0) turn.request (due ∙ ap Some (sym (turn_request m tag lit are ids crowd.long w f x y)))).other

  -- a request to stay quiet
  module _ (s : Search) (w : World L) (es : List Event) (id : List ℕ) (place : ℕ) (f : Signal) (x y : Fate) (h : Heard) (stands : Stands m tag lit are ids crowd.long s w (turns es))
      (heard : Some h ≡ turn_heard (mute_air m) w f x y)
      (now : List Turn) (at : AtEnd s now (AtHush s.found id place w)) (due : Some (command_frame (Quiet id)) ≡ Some f) where
    abbrev hushed : World L
    hushed = replay (mute_air m) w (turn_events (mute_air m) w f x y)

    abbrev hush_turn : Turn
    hush_turn = turn_at m tag lit are ids crowd.long w f x y

    named : command_frame (Quiet id) ≡ f
    named = let q : command_frame (Quiet id) ≡ f = cc in q

    asks_it : command_frame (Quiet id) ≡ hush_turn.request
    asks_it = named ∙ sym (turn_request m tag lit are ids crowd.long w f x y)

    hush_open : is_answered_question hush_turn ≡ false
    hush_open = unanswered hush_turn (subst (λ g. same_signal g inventory_all ≡ false) asks_it refl)

    still_more : noise_in (now ++ hush_turn ∷ []) ≡ 0 → AllFound s.found × AreStill s.found place hushed
    still_more z =
        let a = none_before now hush_turn z in
        let q = quiet_turn w f x y a.1 in
        let k = at.quiets a.0 in
        let t : AtHush s.found id place w = k.1 in
        let goes : hushed ≡ stepped (muted m) w f = goes_through w f x y h q.0 heard in
        let own : IsOneOf id ids = each_one (λ i. IsOneOf i ids) s.found id stands.known (one_at s.found t.place id t.at) in
        let eight : length id ≡ id_size = each_one (λ i. length i ≡ id_size) ids id crowd.long own in
        let there : AreStill s.found (t.place + 1) (stepped (muted m) w (command_frame (Quiet id))) =
        each_goes m tag lit are ids crowd (command_frame (Quiet id)) refl s.found (Still s.found t.place) (Still s.found (t.place + 1)) (λ u st. still_next s.found t.place id u eight t.at st)
        w.listeners stands.placed t.still in
        let one : AreStill s.found (t.place + 1) (stepped (muted m) w f) = subst (λ g. AreStill s.found (t.place + 1) (stepped (muted m) w g)) named there in
        let two : AreStill s.found (t.place + 1) hushed = subst (AreStill s.found (t.place + 1)) (sym goes) one in
        (k.0, subst (λ n. AreStill s.found n hushed) (sym t.after') two)

    hush_goes : Passes (hushes s place) hushed (now ++ hush_turn ∷ [])
    hush_goes = hush_passes s place hushed (now ++ hush_turn ∷ []) (record {
      clashes' = at.clashes';
      masks' = at.masks';
      short = short_on now hush_turn (subst (λ g. begins_with slots_flags g.bytes ≡ false) asks_it refl) (subst (λ g. same_signal g (command_frame NextSlot) ≡ false) asks_it refl) at.short;
      quiets = still_more;
    })

  -- a question who is left
  module _ (s : Search) (w : World L) (es : List Event) (asked : ℕ) (f : Signal) (x y : Fate) (h : Heard) (stands : Stands m tag lit are ids crowd.long s w (turns es))
      (heard : Some h ≡ turn_heard (mute_air m) w f x y)
      (now : List Turn) (at : AtEnd s now (AreQuiet w)) (due : Some question_frame ≡ Some f) where
    abbrev answered : World L
    answered = replay (mute_air m) w (turn_events (mute_air m) w f x y)

    abbrev question : Turn
    question = turn_at m tag lit are ids crowd.long w f x y

    abbrev with_it : List Turn
    with_it = now ++ question ∷ []

    is_question : question_frame ≡ f
    is_question = let q : question_frame ≡ f = cc in q

    asks_who : question_frame ≡ question.request
    asks_who = is_question ∙ sym (turn_request m tag lit are ids crowd.long w f x y)

    short_still : IsShort with_it
    short_still = short_on now question (subst (λ g. begins_with slots_flags g.bytes ≡ false) asks_who refl) (subst (λ g. same_signal g (command_frame NextSlot) ≡ false) asks_who refl) at.short

    -- whether it was answered
    is_answered_by : is_answered_question question ≡ not (is_silence h)
    is_answered_by =
        ap (λ v. v && is_answered (backs.heard question)) (subst (λ g. same_signal g inventory_all ≡ true) asks_who refl)
        ∙ ap is_answered (turn_hears m tag lit are ids crowd.long w f x y ∙ sym heard) ∙ by_kind h
      where
        by_kind : (g : Heard) → is_answered (Some g) ≡ not (is_silence g)
        by_kind (Whole g) = refl
        by_kind (Collided g) = refl
        by_kind Damaged = refl
        by_kind Silent = refl

    -- in a pass without noise it is not
    quiet_silence : noise_in with_it ≡ 0 → is_silence h ≡ true
    quiet_silence z =
        let a = none_before now question z in
        let q = quiet_turn w f x y a.1 in
        let quiet : AreQuiet w = (at.quiets a.0).1 in
        let N : Signal → Type 0 = λ g. filter_map (λ l. answered_by (muted m) l g None) w.listeners ≡ [] in
        let none : N question_frame =
        none_says m tag lit are ids crowd question_frame refl s.found w.listeners stands.placed
        (each_map (λ l. m.tech l ≡ V → (tag l).quiet ≡ true) (λ l. m.tech l ≡ V → t5_answer (tag l) question_frame ≡ None) (λ l k v. quiet_silent (tag l) (k v)) w.listeners quiet) in
        let nothing : (mute_air m).joint w f ≡ Nothing = ap joint (subst N is_question none) in
        let silent : Some h ≡ Some Silent = back_heard w f x y h q.0 heard ∙ ap (λ j. heard_by Pass (joint_back j y)) nothing in
        let its : h ≡ Silent = cc in
        ap is_silence its

    loud_noise : is_silence h ≡ false → 1 ≤ noise_in with_it
    loud_noise loud = by_noise (nat_eq (noise_in with_it) 0) refl
      where
        by_noise : (v : Bool) → nat_eq (noise_in with_it) 0 ≡ v → 1 ≤ noise_in with_it
        by_noise true e = absurd (let no_ : true ≡ false = sym (quiet_silence (same_number (noise_in with_it) 0 e)) ∙ loud in cc)
        by_noise false e = let p : 0 < noise_in with_it = other_number (noise_in with_it) e in omega (arith, p)

    quiet_more : noise_in with_it ≡ 0 → AllFound s.found × AreQuiet answered
    quiet_more z =
        let a = none_before now question z in
        let q = quiet_turn w f x y a.1 in
        let k = at.quiets a.0 in
        let goes : answered ≡ stepped (muted m) w f = goes_through w f x y h q.0 heard in
        let there : AreQuiet (stepped (muted m) w question_frame) = each_goes m tag lit are ids crowd question_frame refl s.found (λ t. t.quiet ≡ true) (λ t. t.quiet ≡ true) (λ t e. quiet_still t e)
        w.listeners stands.placed k.1 in
        let one : AreQuiet (stepped (muted m) w f) = subst (λ g. AreQuiet (stepped (muted m) w g)) is_question there in
        (k.0, subst AreQuiet (sym goes) one)

    silent_goes : (v : Bool) → Passes (record s { stage = if v then stages.WhoIsLeft (asked + 1) else stages.Over }) answered with_it
    silent_goes true = record { clashes' = at.clashes'; masks' = at.masks'; short = short_still; quiets = quiet_more }
    silent_goes false = record { clashes' = at.clashes'; masks' = at.masks'; short = short_still; quiets = λ z. ((quiet_more z).0, tt) }

    -- the next pass
    reached_all : is_silence h ≡ false → AreWith m tag lit are ids (mask_by []) 0 answered.listeners
    reached_all loud = by_met (met m tag lit are ids crowd.long w f x y h heard)
      where
        by_met : Met m tag lit are ids crowd.long w f x y h → AreWith m tag lit are ids (mask_by []) 0 answered.listeners
        by_met (missed silent noise stays) = absurd (let no_ : true ≡ false = sym (ap is_silence silent) ∙ loud in cc)
        by_met (reached pass goes) =
            let W : Signal → Type 0 = λ g. AreWith m tag lit are ids (mask_by []) 0 (stepped (muted m) w g).listeners in
            let there : W f = subst W is_question (none_asked m tag lit are ids s.found w.listeners stands.placed) in
            subst (λ (v : World L). AreWith m tag lit are ids (mask_by []) 0 v.listeners) (sym goes) there

    loud_goes : is_silence h ≡ false → ArePlaced m tag lit are ids s.found answered.listeners → (v : Bool) → Passes (if v then begins_pass (s.pass + 1) s else fails s faults.Disturbed) answered []
    loud_goes loud placed true =
        let W : List Mask → List Mask → Type 0 = λ cs ms. AtSlot s.found 1 cs ms no_bits 0 answered [] in
        let first : W [] [] = begins_slot s.found answered placed (reached_all loud) in
        (omega arith, subst (λ cs. W cs s.masks) (sym at.clashes') (subst (λ ms. W [] ms) (sym at.masks') first))
    loud_goes loud placed false = ((λ e. cc), refl)

  -- all of it along a search: the passes that have ended were short, and had noise
  record Along (ts now : List Turn) : Type 0 where
    ended : List (List Turn)
    parted : Parted ts ended now
    good : Each (λ p. IsShort p × (1 ≤ noise_in p)) ended

  along_more : (ts now : List Turn) (t : Turn) → Along ts now → is_answered_question t ≡ false → Along (ts ++ t ∷ []) (now ++ t ∷ [])
  along_more ts now t a e = record { ended = a.ended; parted = parted_more ts a.ended now t a.parted e; good = a.good }

  along_end : (ts now : List Turn) (t : Turn) → Along ts now → is_answered_question t ≡ true → IsShort (now ++ t ∷ []) → 1 ≤ noise_in (now ++ t ∷ []) → Along (ts ++ t ∷ []) []
  along_end ts now t a e short noise = record {
    ended = a.ended ++ (now ++ t ∷ []) ∷ [];
    parted = parted_end ts a.ended now t a.parted e;
    good = each_end (λ p. IsShort p × (1 ≤ noise_in p)) a.ended (now ++ t ∷ []) a.good (short, noise);
  }

  abbrev Ahead : Search → World L → List Turn → Type 0
  Ahead s w ts = (now : List Turn) × Along ts now × Passes s w now

  abbrev turn_of : World L → Signal → Fate → Fate → Turn
  turn_of w f x y = turn_at m tag lit are ids crowd.long w f x y

  module _ (s : Search) (w : World L) (es : List Event) (f : Signal) (x y : Fate) (h : Heard) (stands : Stands m tag lit are ids crowd.long s w (turns es))
      (heard : Some h ≡ turn_heard (mute_air m) w f x y) (now : List Turn) (along : Along (turns es) now) where
    abbrev behind_it : World L
    behind_it = replay (mute_air m) w (turn_events (mute_air m) w f x y)

    abbrev all_turns : List Turn
    all_turns = turns es ++ turn_of w f x y ∷ []

    asked_question : (asked : ℕ) → AtEnd s now (AreQuiet w) → stage_request (stages.WhoIsLeft asked) ≡ Some f → ArePlaced m tag lit are ids s.found behind_it.listeners
        → Ahead (answers_left s asked (is_silence h)) behind_it all_turns
    asked_question asked at due placed = by_silence (is_silence h) refl
      where
        by_silence : (v : Bool) → is_silence h ≡ v → Ahead (answers_left s asked v) behind_it all_turns
        by_silence true e = (
          now ++ turn_of w f x y ∷ [],
          along_more (turns es) now (turn_of w f x y) along (is_answered_by s w es asked f x y h stands heard now at due ∙ ap not e),
          silent_goes s w es asked f x y h stands heard now at due (nat_lt (asked + 1) questions),
        )
        by_silence false e = (
          [],
          along_end (turns es) now (turn_of w f x y) along (is_answered_by s w es asked f x y h stands heard now at due ∙ ap not e) (short_still s w es asked f x y h stands heard now at due)
              (loud_noise s w es asked f x y h stands heard now at due e),
          loud_goes s w es asked f x y h stands heard now at due e placed (nat_lt s.pass most_passes),
        )

    by_stage : (stage : Stage) → AtPass s w now stage → stage_request stage ≡ Some f → Ahead (hears_at s stage h) behind_it all_turns
    by_stage (stages.Slot n slot) k due = (
      now ++ turn_of w f x y ∷ [],
      along_more (turns es) now (turn_of w f x y) along (slot_open s w es n slot f x y h stands heard k.0 now k.1 due),
      slot_passes s w es n slot f x y h stands heard k.0 now k.1 due,
    )
    by_stage (stages.Hush id place) k due = (
      now ++ turn_of w f x y ∷ [],
      along_more (turns es) now (turn_of w f x y) along (hush_open s w es id place f x y h stands heard now k due),
      hush_goes s w es id place f x y h stands heard now k due,
    )
    by_stage (stages.WhoIsLeft asked) k due =
        let heeded = request_heeded m tag lit are ids crowd.long s.found (stages.WhoIsLeft asked) f stands.known (inr tt) due in
        let stay : Stay m tag lit are ids crowd.long s.found behind_it = stay_on m tag lit are ids crowd.long s.found w f x y h heeded heard (record { same = stands.same; placed = stands.placed }) in
        asked_question asked k due stay.placed
    by_stage stages.Over k due = absurd cc
    by_stage (stages.Fails fault) k due = absurd cc

  abbrev So : Course → World L → List Event → Type 0
  So Begins w es = Inv m tag lit are ids crowd.long Begins w es × (turns es ≡ [])
  So (Runs s) w es = Stands m tag lit are ids crowd.long s w (turns es) × Ahead s w (turns es)

  lights : (s : Course) (w : World L) (es : List Event) → So s w es → course_next s ≡ LightUp → So (finding_all.light s) (reset_by (muted m) w) (es ++ Reset ∷ [])
  lights Begins w es h due =
      let stands : Stands m tag lit are ids crowd.long fresh (reset_by (muted m) w) (turns (es ++ Reset ∷ [])) = finds_lit m tag lit are ids crowd.long Begins w es h.0 due in
      let none : [] ≡ turns (es ++ Reset ∷ []) = sym (turns-append es (Reset ∷ []) refl ∙ ap (λ ts. ts ++ []) h.1) in
      let first : AtSlot [] 1 [] [] no_bits 0 (reset_by (muted m) w) [] = begins_slot [] (reset_by (muted m) w) stands.placed (none_lit m tag lit are ids w.listeners) in
      (stands, ([], subst (λ ts. Along ts []) none (record { ended = []; parted = parted_none; good = tt }), (omega arith, first)))
  lights (Runs s) w es h due = absurd (no_light m tag lit are ids crowd.long (due_request s) due)

  asks : (s : Course) (w : World L) (es : List Event) (f : Signal) (x y : Fate) (h : Heard) → So s w es → course_next s ≡ Asks f → Some h ≡ turn_heard (mute_air m) w f x y
      → So (course_step s h) (replay (mute_air m) w (turn_events (mute_air m) w f x y)) (es ++ turn_events (mute_air m) w f x y)
  asks Begins w es f x y h k due heard = absurd cc
  asks (Runs s) w es f x y h k due heard =
      let ahead : Ahead s w (turns es) = k.1 in
      let next_ : Ahead (hears_at s s.stage h) (replay (mute_air m) w (turn_events (mute_air m) w f x y)) (turns es ++ turn_of w f x y ∷ []) =
      by_stage s w es f x y h k.0 heard ahead.0 ahead.1 s.stage ahead.2 (due_some m tag lit are ids crowd.long (due_request s) f due) in (
        finds_asked m tag lit are ids crowd.long (Runs s) w es f x y h k.0 due heard,
        subst (Ahead (hears_at s s.stage h) (replay (mute_air m) w (turn_events (mute_air m) w f x y))) (sym (turns_more m tag lit are ids crowd.long w f x y es)) next_,
      )

  -- what it comes to
  short_ended : (ps : List (List Turn)) → Each (λ p. IsShort p × (1 ≤ noise_in p)) ps → Each IsShort ps
  short_ended ps h = each_map (λ p. IsShort p × (1 ≤ noise_in p)) IsShort (λ p k. k.0) ps h

  told_memory : (ts : List Turn) → Each IsShort (passes ts) → CrowdV ids (Err faults.Memory) ts
  told_memory ts short = record { never_bad = λ e. cc; few = short; quiet = λ found e. absurd cc; disturbed = λ e. absurd cc }

  noisy_not : (found : List (List ℕ)) (p : List Turn) → IsShort p × (1 ≤ noise_in p) → noise_in p ≡ 0 → AllFound found
  noisy_not found p k z = absurd (let n : 1 ≤ noise_in p = k.1 in omega (arith, n, z))

  told_well : (found : List (List ℕ)) (ts now : List Turn) → Along ts now → IsShort now → (noise_in now ≡ 0 → AllFound found) → CrowdV ids (Ok found) ts
  told_well found ts now a short quiets = record {
    never_bad = λ e. cc;
    few = each_pass IsShort ts a.ended now a.parted (short_ended a.ended a.good) short;
    quiet = λ other e. (let same : found ≡ other = cc in
        let A : List (List ℕ) → Type 0 = λ is. Each (λ p. noise_in p ≡ 0 → AllFound is) (passes ts) in
        subst A same
        (each_pass (λ p. noise_in p ≡ 0 → AllFound found) ts a.ended now a.parted (each_map (λ p. IsShort p × (1 ≤ noise_in p)) (λ p. noise_in p ≡ 0 → AllFound found) (λ p k. noisy_not found p k)
        a.ended a.good) quiets));
    disturbed = λ e. absurd cc;
  }

  told_fault : (fault : PollFault) (ts : List Turn) → (fault ≡ faults.BadAnswer → ⊥) → Along ts [] → CrowdV ids (Err fault) ts
  told_fault fault ts other a = record {
    never_bad = λ e. other (let d : fault ≡ faults.BadAnswer = cc in d);
    few = each_ended IsShort ts a.ended a.parted (short_ended a.ended a.good);
    quiet = λ found e. absurd cc;
    disturbed = λ e. each_ended (λ p. 1 ≤ noise_in p) ts a.ended a.parted (each_map (λ p. IsShort p × (1 ≤ noise_in p)) (λ p. 1 ≤ noise_in p) (λ p k. k.1) a.ended a.good);
  }

  short_all : (ts now : List Turn) → Along ts now → IsShort now → Each IsShort (passes ts)
  short_all ts now a short = each_pass IsShort ts a.ended now a.parted (short_ended a.ended a.good) short

  ends_at : (s : Search) (w : World L) (ts now : List Turn) → Along ts now → (stage : Stage) → AtPass s w now stage → CrowdV ids (or_memory (over_at s.found stage)) ts
  ends_at s w ts now a (stages.Slot n slot) k =
      let few : s.rounds ≤ 121 = few_rounds m tag lit are ids crowd.long s.rounds s.clashes s.masks n slot w crowd.few k.1.work in
      told_memory ts (short_all ts now a (short_pass s.rounds slot now (let l : slot < 16 = k.0 in omega (arith, l)) few k.1.counts))
  ends_at s w ts now a (stages.Hush id place) k = told_memory ts (short_all ts now a k.short)
  ends_at s w ts now a (stages.WhoIsLeft asked) k = told_memory ts (short_all ts now a k.short)
  ends_at s w ts now a stages.Over k = told_well s.found ts now a k.short (λ z. (k.quiets z).0)
  ends_at s w ts now a (stages.Fails fault) k = told_fault fault ts k.0 (subst (Along ts) k.1 a)

  -- a turn by which the field is lost
  module _ (s : Search) (w : World L) (es : List Event) (f : Signal) (x y : Fate) (stands : Stands m tag lit are ids crowd.long s w (turns es)) (lost : None ≡ turn_heard (mute_air m) w f x y)
      (now : List Turn) (along : Along (turns es) now) where
    abbrev last_turn : Turn
    last_turn = turn_of w f x y

    lost_open : is_answered_question last_turn ≡ false
    lost_open = none_heard (same_signal last_turn.request inventory_all) ∙ refl
      where
        none_heard : (v : Bool) → (v && is_answered (backs.heard last_turn)) ≡ false
        none_heard true = ap is_answered (turn_hears m tag lit are ids crowd.long w f x y ∙ sym lost)
        none_heard false = refl

    short_by : (stage : Stage) → AtPass s w now stage → stage_request stage ≡ Some f → IsShort (now ++ last_turn ∷ [])
    short_by (stages.Slot n slot) k due =
        let few : s.rounds ≤ 121 = few_rounds m tag lit are ids crowd.long s.rounds s.clashes s.masks n slot w crowd.few k.1.work in
        let less : slot < 16 = k.0 in
        short_pass s.rounds (slot + 1) (now ++ last_turn ∷ []) (omega (arith, less)) few
        (counts_on s.rounds slot now last_turn k.1.counts (slot_turn n (nat_eq slot 0) last_turn.request (due ∙ ap Some (sym (turn_request m tag lit are ids crowd.long w f x y)))))
    short_by (stages.Hush id place) k due =
        let q : command_frame (Quiet id) ≡ f = cc in
        let asks_it : command_frame (Quiet id) ≡ last_turn.request = q ∙ sym (turn_request m tag lit are ids crowd.long w f x y) in
        short_on now last_turn (subst (λ g. begins_with slots_flags g.bytes ≡ false) asks_it refl) (subst (λ g. same_signal g (command_frame NextSlot) ≡ false) asks_it refl) k.short
    short_by (stages.WhoIsLeft asked) k due =
        let q : question_frame ≡ f = cc in
        let asks_it : question_frame ≡ last_turn.request = q ∙ sym (turn_request m tag lit are ids crowd.long w f x y) in
        short_on now last_turn (subst (λ g. begins_with slots_flags g.bytes ≡ false) asks_it refl) (subst (λ g. same_signal g (command_frame NextSlot) ≡ false) asks_it refl) k.short
    short_by stages.Over k due = absurd cc
    short_by (stages.Fails fault) k due = absurd cc

    short_lost : Passes s w now → due_request s ≡ Some f → Each IsShort (passes (turns (es ++ turn_events (mute_air m) w f x y)))
    short_lost k due =
        subst (λ ts. Each IsShort (passes ts)) (sym (turns_more m tag lit are ids crowd.long w f x y es))
        (short_all (turns es ++ last_turn ∷ []) (now ++ last_turn ∷ []) (along_more (turns es) now last_turn along lost_open) (short_by s.stage k due))

  -- so it is behind each reset and each turn
  abbrev KeptBy : World L → Progress Course → List Event → Type 0
  KeptBy w (Reaches s) es = So s (replay (mute_air m) w es) es
  KeptBy w Loses es = Each IsShort (passes (turns es))

  kept_lit : (w : World L) (s : Course) (es : List Event) → KeptBy w (Reaches s) es → course_next s ≡ LightUp → KeptBy w (Reaches (finding_all.light s)) (es ++ Reset ∷ [])
  kept_lit w s es k due =
      let I : World L → Type 0 = λ v. So (finding_all.light s) v (es ++ Reset ∷ []) in
      subst I (sym (replay-append (mute_air m) w es (Reset ∷ []))) (lights s (replay (mute_air m) w es) es k due)

  kept_asked : (w : World L) (s : Course) (es : List Event) (f : Signal) (x y : Fate) → KeptBy w (Reaches s) es → course_next s ≡ Asks f → (o : Option Heard)
      → o ≡ turn_heard (mute_air m) (replay (mute_air m) w es) f x y
      → KeptBy w (after_note finding_all (Reaches s) (note o)) (es ++ turn_events (mute_air m) (replay (mute_air m) w es) f x y)
  kept_asked w Begins es f x y k due o q = absurd cc
  kept_asked w (Runs s) es f x y k due None q =
      let v : World L = replay (mute_air m) w es in
      let ahead : Ahead s v (turns es) = k.1 in
      short_lost s v es f x y k.0 q ahead.0 ahead.1 ahead.2 (due_some m tag lit are ids crowd.long (due_request s) f due)
  kept_asked w (Runs s) es f x y k due (Some h) q =
      let v : World L = replay (mute_air m) w es in
      let I : World L → Type 0 = λ u. So (course_step (Runs s) h) u (es ++ turn_events (mute_air m) v f x y) in
      subst I (sym (replay-append (mute_air m) w es (turn_events (mute_air m) v f x y))) (asks (Runs s) v es f x y h k due q)

  ends : (w : World L) (p : Progress Course) (es : List Event) → KeptBy w p es → CrowdV ids (answer_of finding_all p) (turns es)
  ends w (Reaches Begins) es k = subst (CrowdV ids (Err faults.Memory)) (sym k.1) (told_memory [] tt)
  ends w (Reaches (Runs s)) es k =
      let v : World L = replay (mute_air m) w es in
      let ahead : Ahead s v (turns es) = k.1 in ends_at s v (turns es) ahead.0 ahead.1 s.stage ahead.2
  ends w Loses es k = record { never_bad = λ e. cc; few = k; quiet = λ found e. absurd cc; disturbed = λ e. absurd cc }

  kept : (old new : Air L) (notes : List Note) → tag_ids m tag old.listeners ≡ ids → (g : Going (mute_air m) (enquiring finding_all) (moment old) (moment new) notes)
      → KeptBy (moment old).world (progress finding_all Begins notes) g.events
  kept old new notes same g =
      let w : World L = (moment old).world in
      holds finding_all (mute_air m) w (KeptBy w) ((same, refl), refl) (kept_lit w) (λ s es f x y k due lit_. kept_asked w s es f x y k due (turn_heard (mute_air m) (replay (mute_air m) w es) f x y)
      refl) (moment old) (moment new) notes refl g

pub searches_crowd : {L : Type 0} (m : Machine L) (old new : Air L) (r : Result (List (List ℕ)) PollFault) → Enquires finding_all m old r new → SearchesCrowd m old r new
searches_crowd m old new r q tag lit are crowd =
    let ids : List (List ℕ) = tag_ids m tag old.listeners in
    let p : Progress Course = progress finding_all Begins q.notes in
    let w : World _ = (moment old).world in
    subst (λ es. CrowdV ids r (turns es)) (sym (events_gained finding_all m old new r q))
    (subst (λ z. CrowdV ids z (turns q.going.events)) (sym q.comes) (ends m tag lit are ids crowd w p q.going.events (kept m tag lit are ids crowd old new q.notes refl q.going)))
