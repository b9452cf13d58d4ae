-- A write to a Type 3 tag that keeps to its table: what its stores are at every exit.
use Rattle.std.proofs.Common.{◌≡◌, ◌≢◌, ℕ, zero, suc, inl, inr, ◌⊎◌, ◌*◌, ◌<◌, ◌≤◌, List, [], ◌∷◌, ◌++◌, get_or, Bool, true, false, nat_lt, nat_le, ◌==◌, if◌then◌else◌, Some, Result, Ok, Err, refl}
use Rattle.std.proofs.Common.{sym, ◌∙◌, ap, subst, append_assoc, append-nil, arith}
use Rattle.std.specs.List.{AllByRecursion}
use Rattle.nfc_base.specs.Signal.{Signal}
use Rattle.nfc_base.specs.TagLinks.{LinkView, TagState, TagStep, Type3, MayAsk, PassInThree, after_all, passed}
use Rattle.nfc_base.specs.declared.tag_link.AskFault.{AskFault}
use Rattle.nfc_base.specs.declared.tag_link.AskFault.TheVariants as ask
use Rattle.nfc_base.proofs.Leading.{after_append, all_append, all_map}
use Rattle.t3t_tag.specs.declared.answer.T3Answer.{T3Answer}
use Rattle.t3t_tag.specs.declared.answer.T3Answer.TheVariants.{Done, UpdateRefused}
use Rattle.t3t_tag.specs.Attributes.{access_flag, message_blocks}
use Rattle.t3t_tag.specs.Store.{T3State, block_count, attributes, is_locked, rewritten}
use Rattle.t3t_tag.specs.Form.{IsSized}
use Rattle.t3t_tag.specs.Spelling.{update_code, write_service, answer_frame}
use Rattle.t3t_tag.specs.Step.{T3Turn, tells, sent, no_block, block_locked, t3_turn, written_turn}
use Rattle.t3t_tag.specs.Linked.{t3_memory}
use Rattle.t3t_tag.proofs.Bytes.{equal_of, other_of, is_equal, is_other}
use Rattle.t3t_tag.proofs.SpelledAnswers.{one_answer}
use Rattle.t3t_tag.proofs.Steps.{update_turns}
use Rattle.t3t_access.specs.declared.fault.T3Fault.{T3Fault}
use Rattle.t3t_access.specs.declared.fault.T3Fault.TheVariants as fault
use Rattle.t3t_access.specs.Talk.{Spread, Calls, Says, Answered, ByLink, IsCalm, Fails}
use Rattle.t3t_access.specs.Answers.{Brings, IsHeard, IsOdd, RefusesCheck, StopsNext, check_of, update_of}
use Rattle.t3t_access.specs.Reading.{Reads, StartTold, Stops}
use Rattle.t3t_access.specs.Own.{IsTag3, Stays, IsToldOrMemory, IsRead3}
use Rattle.t3t_access.specs.Writing.{Takes, blocks_of, put_at, all_puts, command_at, first_asked, SaysDone, RefusesUpdate, StopsUpdate, AllDone, Writes, Breaks, WriteFaultTold, WriteTold}
use Rattle.t3t_access.specs.OwnWriting.{IsBegun, IsNew, IsWriteFault3, PassesThree, IsWrite3}
use Rattle.t3t_access.proofs.OwnReading.{own_check}
use Rattle.t3t_access.proofs.OwnLaw.{head_own, reads_stay, own_fault, own_memory}
use Rattle.t3t_access.proofs.Laying.{store_at, begun_at, new_at, put_long, put_low, within_at}

-- the stores that the last of some commands left
pub record Split (step : TagState → Signal → TagStep) (s : TagState) (cs : List Signal) (c : Signal) (stores : List (List ℕ)) : Type 0 where
  pub front : List (List ℕ)
  pub last : List (List ℕ)
  pub joined : stores ≡ front ++ last
  pub before : Spread step s cs front
  pub behind : AllByRecursion (λ t. t ≡ (step (after_all step s cs) c).after.store) last

pub split : (step : TagState → Signal → TagStep) (s : TagState) (cs : List Signal) (c : Signal) (stores : List (List ℕ)) → Spread step s (cs ++ c ∷ []) stores → Split step s cs c stores
split step s [] c stores (xs, ys, joined, these, rest) =
    record { front = []; last = xs; joined = joined ∙ ap (λ t. xs ++ t) rest ∙ append-nil xs; before = refl; behind = these }
split step s (d ∷ cs) c stores (xs, ys, joined, these, rest) =
    let r : Split step (step s d).after cs c ys = split step (step s d).after cs c ys rest in
    record {
      front = xs ++ r.front;
      last = r.last;
      joined = joined ∙ ap (λ t. xs ++ t) r.joined ∙ sym (append_assoc xs r.front r.last);
      before = (xs, r.front, refl, these, r.before);
      behind = r.behind;
    }

-- stores that are each one such store
all_of : (P : List ℕ → Type 0) (s : List ℕ) (xs : List (List ℕ)) → P s → AllByRecursion (λ t. t ≡ s) xs → AllByRecursion P xs
all_of P s xs p all = all_map (λ t. t ≡ s) P xs (λ t e. subst P (sym e) p) all

is_below : (m n : ℕ) → n < m → nat_le m n ≡ false
is_below m n h = grind arith

abbrev with_store : TagState → List ℕ → TagState
with_store s store = record s { store = store }

abbrev step_of : TagState → T3Turn → TagStep
step_of s r = record { answer = sent r.answer; after = record s { store = r.after.store } }

may_update : (id : List ℕ) (block : ℕ) (content : List ℕ) → MayAsk Type3 id (update_of id block content)
may_update id block content = record { size = _; code = update_code; rest = _; frame = refl }

-- stores in two kinds, one behind the other
pub record InTwo (P Q : List ℕ → Type 0) (stores : List (List ℕ)) : Type 0 where
  pub olds : List (List ℕ)
  pub begun : List (List ℕ)
  pub joined : stores ≡ olds ++ begun
  pub all_old : AllByRecursion P olds
  pub all_begun : AllByRecursion Q begun

module _ (id : List ℕ) (locked : List Bool) (a : LinkView) (tag : IsTag3 id locked a) (message : List ℕ) (takes : Takes (attributes a.state.store) message) where
  abbrev block : List ℕ
  block = attributes a.state.store

  abbrev place : ℕ → ℕ
  place n = (put_at block message n).block

  abbrev after_puts : ℕ → List ℕ
  after_puts n = store_at a.state.store message n

  abbrev command : ℕ → Signal
  command n = command_at id block message n

  abbrev asked : ℕ → List Signal
  asked n = first_asked id block message n

  abbrev now : ℕ → TagState
  now n = with_store a.state (after_puts n)

  turn_of : (n : ℕ) → a.step (now n) (command n) ≡ step_of (now n) (if is_locked (t3_memory id locked (now n)) (place n) then tells (t3_memory id locked (now n)) (UpdateRefused id block_locked)
      else record { answer = Some (Done id); after = rewritten (t3_memory id locked (now n)) (place n) (put_at block message n).content })
  turn_of n =
      let t : T3State = t3_memory id locked (now n) in
      let content : List ℕ = (put_at block message n).content in
      let third : T3Turn = if is_locked t (place n) then tells t (UpdateRefused id block_locked) else record { answer = Some (Done id); after = rewritten t (place n) content } in
      let turn : t3_turn t (command n) ≡ written_turn t write_service (place n) content = update_turns t tag.size (place n) content (put_long a.state.store message tag.store takes n) in
      let there : written_turn t write_service (place n) content ≡ third =
      ap (λ v. if v then tells t (UpdateRefused id no_block) else third) (is_below (block_count (after_puts n)) (place n) (within_at a.state.store message tag.store takes n)) in
      tag.steps (now n) (command n) (may_update id (place n) content) ∙ ap (step_of (now n)) (turn ∙ there)

  -- the step of the n-th Update: it is refused where its block is locked, and else it is done
  pub record Turned (n : ℕ) (answer : T3Answer) (after : List ℕ) : Type 0 where
    pub says : (a.step (now n) (command n)).answer ≡ Some (answer_frame answer)
    pub state : (a.step (now n) (command n)).after ≡ with_store a.state after

  refuses : (n : ℕ) → get_or locked (place n) false ≡ true → Turned n (UpdateRefused id block_locked) (after_puts n)
  refuses n l =
      let t : T3State = t3_memory id locked (now n) in
      let done' : T3Turn = record { answer = Some (Done id); after = rewritten t (place n) (put_at block message n).content } in
      let is : a.step (now n) (command n) ≡ step_of (now n) (tells t (UpdateRefused id block_locked)) =
      turn_of n ∙ ap (λ v. step_of (now n) (if v then tells t (UpdateRefused id block_locked) else done')) l in
      record { says = ap (λ (s : TagStep). s.answer) is; state = ap (λ (s : TagStep). s.after) is }

  dones : (n : ℕ) → get_or locked (place n) false ≡ false → Turned n (Done id) (after_puts (suc n))
  dones n l =
      let t : T3State = t3_memory id locked (now n) in
      let done' : T3Turn = record { answer = Some (Done id); after = rewritten t (place n) (put_at block message n).content } in
      let is : a.step (now n) (command n) ≡ step_of (now n) done' =
      turn_of n ∙ ap (λ v. step_of (now n) (if v then tells t (UpdateRefused id block_locked) else done')) l in
      record { says = ap (λ (s : TagStep). s.answer) is; state = ap (λ (s : TagStep). s.after) is }

  refused_told : (r : Signal) (n : ℕ) → get_or locked (place n) false ≡ true → (a.step (now n) (command n)).answer ≡ Some r → RefusesUpdate id block_locked r
  refused_told r n l says =
      let same : Some (answer_frame (UpdateRefused id block_locked)) ≡ Some r = sym (refuses n l).says ∙ says in
      let frame : r ≡ answer_frame (UpdateRefused id block_locked) = cc in
      record { range = (tag.size, λ e. absurd (omega (arith, e))); frame = frame }

  done_told : (r : Signal) (n : ℕ) → get_or locked (place n) false ≡ false → (a.step (now n) (command n)).answer ≡ Some r → SaysDone id r
  done_told r n l says =
      let same : Some (answer_frame (Done id)) ≡ Some r = sym (dones n l).says ∙ says in
      let frame : r ≡ answer_frame (Done id) = cc in
      record { range = tag.size; frame = frame }

  not_both : (r : Signal) (status : ℕ) → RefusesUpdate id status r → SaysDone id r → ⊥
  not_both r status p q = absurd (let same : UpdateRefused id status ≡ Done id = one_answer r (UpdateRefused id status) (Done id) p q in cc)

  free_if : (r : Signal) (n : ℕ) → (a.step (now n) (command n)).answer ≡ Some r → SaysDone id r → get_or locked (place n) false ≡ false
  free_if r n says done' = by_value (get_or locked (place n) false) refl
    where
      by_value : (v : Bool) → get_or locked (place n) false ≡ v → v ≡ false
      by_value false e = refl
      by_value true e = absurd (not_both r block_locked (refused_told r n e says) done')

  pub locked_of : (r : Signal) (n : ℕ) (status : ℕ) → (a.step (now n) (command n)).answer ≡ Some r → RefusesUpdate id status r → get_or locked (place n) false ≡ true
  locked_of r n status says refused' = by_value (get_or locked (place n) false) refl
    where
      by_value : (v : Bool) → get_or locked (place n) false ≡ v → v ≡ true
      by_value true e = refl
      by_value false e = absurd (not_both r status refused' (done_told r n e says))

  -- what the first of them left
  check_keeps : after_all a.step a.state (asked 0) ≡ a.state
  check_keeps = ap (λ (s : TagStep). s.after) (own_check id locked a tag 0 1 (omega arith) (omega arith) tag.store.blocks.least)

  pub state_at : (n : ℕ) → AllDone id a block message n → after_all a.step a.state (asked n) ≡ now n
  state_at zero all = check_keeps
  state_at (suc n) (before, r, says, done') =
      let at : after_all a.step a.state (asked n) ≡ now n = state_at n before in
      let said : (a.step (now n) (command n)).answer ≡ Some r = ap (λ s. (a.step s (command n)).answer) (sym at) ∙ says in
      after_append a.step a.state (asked n) (command n ∷ [])
      ∙ ap (λ s. (a.step s (command n)).after) at
      ∙ (dones n (free_if r n said done')).state

  step_at : (n : ℕ) → AllDone id a block message n → (a.step (after_all a.step a.state (asked n)) (command n)) ≡ a.step (now n) (command n)
  step_at n all = ap (λ s. a.step s (command n)) (state_at n all)

  -- none of their blocks is locked
  pub free_all : (n : ℕ) → AllDone id a block message n → (k : ℕ) → k < n → get_or locked (place k) false ≡ false
  free_all zero all k less = absurd (omega (arith, less))
  free_all (suc n) (before, r, says, done') k less = by_value (λ l. free_all n before k l) (k == n) refl
    where
      lower : k ≢ n → k < n
      lower o = grind (arith, o, less)

      last : get_or locked (place n) false ≡ false
      last = free_if r n (ap (λ (s : TagStep). s.answer) (sym (step_at n before)) ∙ says) done'

      by_value : (k < n → get_or locked (place k) false ≡ false) → (v : Bool) → (k == n) ≡ v → get_or locked (place k) false ≡ false
      by_value below true e = subst (λ x. get_or locked (place x) false ≡ false) (sym (equal_of k n e)) last
      by_value below false e = below (lower (other_of k n e))

  abbrev Old : List ℕ → Type 0
  Old s = s ≡ a.state.store

  abbrev Begun : List ℕ → Type 0
  Begun s = IsBegun message a.state.store s

  abbrev New : List ℕ → Type 0
  New s = IsNew message a.state.store s

  -- the stores in between
  first_stores : (stores : List (List ℕ)) → Spread a.step a.state (asked 0) stores → AllByRecursion Old stores
  first_stores stores (xs, ys, joined, these, rest) =
      let kept : (a.step a.state (check_of id 0 1)).after ≡ a.state = check_keeps in
      let olds : AllByRecursion Old xs = subst (λ (s : TagState). AllByRecursion (λ t. t ≡ s.store) xs) kept these in
      subst (AllByRecursion Old) (sym (joined ∙ ap (λ t. xs ++ t) rest ∙ append-nil xs)) olds

  left_by : (n : ℕ) → AllDone id a block message (suc n) → (a.step (after_all a.step a.state (asked n)) (command n)).after.store ≡ after_puts (suc n)
  left_by n (before, r, says, done') =
      let said : (a.step (now n) (command n)).answer ≡ Some r = ap (λ (s : TagStep). s.answer) (sym (step_at n before)) ∙ says in
      ap (λ (s : TagStep). s.after.store) (step_at n before) ∙ ap (λ (s : TagState). s.store) (dones n (free_if r n said done')).state

  begun_stores : (n : ℕ) → n ≤ blocks_of message → AllDone id a block message (suc n) → (stores : List (List ℕ)) → Spread a.step a.state (asked (suc n)) stores → InTwo Old Begun stores
  begun_stores zero few all stores spread =
      let s : Split a.step a.state (asked 0) (command 0) stores = split a.step a.state (asked 0) (command 0) stores spread in
      let each : AllByRecursion (λ t. t ≡ after_puts 1) s.last = subst (λ x. AllByRecursion (λ t. t ≡ x) s.last) (left_by 0 all) s.behind in
      record {
        olds = s.front;
        begun = s.last;
        joined = s.joined;
        all_old = first_stores s.front s.before;
        all_begun = all_of Begun (after_puts 1) s.last (begun_at a.state.store message tag.store takes 0 few) each;
      }
  begun_stores (suc n) few all stores spread =
      let s : Split a.step a.state (asked (suc n)) (command (suc n)) stores = split a.step a.state (asked (suc n)) (command (suc n)) stores spread in
      let each : AllByRecursion (λ t. t ≡ after_puts (suc (suc n))) s.last = subst (λ x. AllByRecursion (λ t. t ≡ x) s.last) (left_by (suc n) all) s.behind in
      let two : InTwo Old Begun s.front = begun_stores n (omega (arith, few)) all.0 s.front s.before in
      record {
        olds = two.olds;
        begun = two.begun ++ s.last;
        joined = s.joined ∙ ap (λ t. t ++ s.last) two.joined ∙ append_assoc two.olds two.begun s.last;
        all_old = two.all_old;
        all_begun = all_append Begun two.begun s.last two.all_begun (all_of Begun (after_puts (suc (suc n))) s.last (begun_at a.state.store message tag.store takes (suc n) few) each);
      }

  abbrev Three : List (List ℕ) → Type 0
  Three stores = PassInThree Old Begun New (a.state.store ∷ stores)

  three_old : (stores : List (List ℕ)) → AllByRecursion Old stores → Three stores
  three_old stores all = record {
    before = a.state.store ∷ stores;
    during = [];
    behind = [];
    joined = ap (λ t. a.state.store ∷ t) (sym (append-nil stores));
    olds = (refl, all);
    empties = tt;
    news = tt;
  }

  three_two : (stores : List (List ℕ)) → InTwo Old Begun stores → Three stores
  three_two stores two = record {
    before = a.state.store ∷ two.olds;
    during = two.begun;
    behind = [];
    joined = ap (λ t. a.state.store ∷ t) (two.joined ∙ ap (λ t. two.olds ++ t) (sym (append-nil two.begun)));
    olds = (refl, two.all_old);
    empties = two.all_begun;
    news = tt;
  }

  three_new : (stores front last : List (List ℕ)) → stores ≡ front ++ last → InTwo Old Begun front → AllByRecursion New last → Three stores
  three_new stores front last joined two all = record {
    before = a.state.store ∷ two.olds;
    during = two.begun;
    behind = last;
    joined = ap (λ t. a.state.store ∷ t) (joined ∙ ap (λ t. t ++ last) two.joined ∙ append_assoc two.olds two.begun last);
    olds = (refl, two.all_old);
    empties = two.all_begun;
    news = all;
  }

  -- what one Update more left: the store before it, or the one that it makes
  three_more : (n : ℕ) → n < all_puts message → AllDone id a block message n → (s : List ℕ) → (s ≡ after_puts n) ⊎ (s ≡ after_puts (suc n)) → (stores front last : List (List ℕ))
      → stores ≡ front ++ last
      → Spread a.step a.state (asked n) front → AllByRecursion (λ t. t ≡ s) last → Three stores
  three_more zero due all s (inl e) stores front last joined before each =
      three_old stores (subst (AllByRecursion Old) (sym joined) (all_append Old front last (first_stores front before) (all_of Old s last e each)))
  three_more zero due all s (inr e) stores front last joined before each =
      three_two stores (record {
        olds = front;
        begun = last;
        joined = joined;
        all_old = first_stores front before;
        all_begun = all_of Begun s last (subst Begun (sym e) (begun_at a.state.store message tag.store takes 0 (omega arith))) each;
      })
  three_more (suc n) due all s left stores front last joined before each = by_left left (nat_lt n (blocks_of message)) refl
    where
      few : n ≤ blocks_of message
      few = omega (arith, due)

      two : InTwo Old Begun front
      two = begun_stores n few all front before

      more : Begun s → Three stores
      more is = three_two stores (record {
        olds = two.olds;
        begun = two.begun ++ last;
        joined = joined ∙ ap (λ t. t ++ last) two.joined ∙ append_assoc two.olds two.begun last;
        all_old = two.all_old;
        all_begun = all_append Begun two.begun last two.all_begun (all_of Begun s last is each);
      })

      by_left : (s ≡ after_puts (suc n)) ⊎ (s ≡ after_puts (suc (suc n))) → (v : Bool) → nat_lt n (blocks_of message) ≡ v → Three stores
      by_left (inl e) v k = more (subst Begun (sym e) (begun_at a.state.store message tag.store takes n few))
      by_left (inr e) true k =
          let less : n < blocks_of message = grind (arith, k) in
          more (subst Begun (sym e) (begun_at a.state.store message tag.store takes (suc n) (omega (arith, less))))
      by_left (inr e) false k =
          let most : blocks_of message ≤ n = grind (arith, k) in
          let all' : n ≡ blocks_of message = omega (arith, most, few) in
          three_new stores front last joined two
          (all_of New s last (subst New (sym e) (subst (λ x. New (after_puts (suc (suc x)))) (sym all') (new_at a.state.store message tag.store takes))) each)

  three_at : (b : LinkView) (n : ℕ) (due : n < all_puts message) → AllDone id a block message n → (s : List ℕ) → (s ≡ after_puts n) ⊎ (s ≡ after_puts (suc n))
      → (a.step (after_all a.step a.state (asked n)) (command n)).after.store ≡ s → Calls a b (asked (suc n)) → PassesThree message a b
  three_at b n due all s left is calls =
      let stores : List (List ℕ) = passed a.step a.state calls.more in
      let sp : Split a.step a.state (asked n) (command n) stores = split a.step a.state (asked n) (command n) stores calls.spread in
      record {
        more = calls.more;
        leads = calls.leads;
        three = three_more n due all s left stores sp.front sp.last sp.joined sp.before (subst (λ x. AllByRecursion (λ t. t ≡ x) sp.last) is sp.behind);
      }

  -- the Update at which a write broke off
  pub record AtBreak (n : ℕ) : Type 0 where
    pub answer : T3Answer
    pub after : List ℕ
    pub left : (after ≡ after_puts n) ⊎ (after ≡ after_puts (suc n))
    pub is : (a.step (after_all a.step a.state (asked n)) (command n)).after.store ≡ after
    pub says : Says a (asked n) (command n) (answer_frame answer)

  at_break : (n : ℕ) → AllDone id a block message n → AtBreak n
  at_break n all = by_value (get_or locked (place n) false) refl
    where
      turned : (answer : T3Answer) (after : List ℕ) → (after ≡ after_puts n) ⊎ (after ≡ after_puts (suc n)) → Turned n answer after → AtBreak n
      turned answer after left t = record {
        answer = answer;
        after = after;
        left = left;
        is = ap (λ (s : TagStep). s.after.store) (step_at n all) ∙ ap (λ (s : TagState). s.store) t.state;
        says = ap (λ (s : TagStep). s.answer) (step_at n all) ∙ t.says;
      }

      by_value : (v : Bool) → get_or locked (place n) false ≡ v → AtBreak n
      by_value true e = turned (UpdateRefused id block_locked) (after_puts n) (inl refl) (refuses n e)
      by_value false e = turned (Done id) (after_puts (suc n)) (inr refl) (dones n e)

  pub said_now : (n : ℕ) → AllDone id a block message n → (r : Signal) → Says a (asked n) (command n) r → (a.step (now n) (command n)).answer ≡ Some r
  said_now n all r says = ap (λ (s : TagStep). s.answer) (sym (step_at n all)) ∙ says

  ends : (b : LinkView) (e : T3Fault) → PassesThree message a b → IsWriteFault3 locked message a b e → (IsCalm a b → IsToldOrMemory e) → IsWrite3 locked message a b (Err e)
  ends b e passes cause calm = record { passes = passes; ok = tt; err = cause; calm = calm }

  failed : (b : LinkView) (n : ℕ) → n < all_puts message → AllDone id a block message n → (f : AskFault) → Fails a b (asked n) (command n) f
      → PassesThree message a b × ByLink a b f × (IsCalm a b → f ≡ ask.Memory)
  failed b n due all f h =
      let at : AtBreak n = at_break n all in
      (three_at b n due all at.after at.left at.is h.calls, h.by, λ calm. h.calm calm _ at.says)

  odd_not : (n : ℕ) → AllDone id a block message n → (b : LinkView) → IsHeard (IsOdd (λ x. SaysDone id) (RefusesUpdate id)) a b (asked n) (command n) → ⊥
  odd_not n all b h = by_value (get_or locked (place n) false) refl
    where
      said : (a.step (now n) (command n)).answer ≡ Some h.reply
      said = said_now n all h.reply h.says

      by_value : (v : Bool) → get_or locked (place n) false ≡ v → ⊥
      by_value true e = h.holds.no_refusal block_locked (refused_told h.reply n e said)
      by_value false e = h.holds.no_grant [] (done_told h.reply n e said)

  abbrev status_of : T3Answer → ℕ
  status_of (UpdateRefused i s) = s
  status_of _ = 0

  refused : (b : LinkView) (n : ℕ) → n < all_puts message → AllDone id a block message n → (status : ℕ) → IsHeard (RefusesUpdate id status) a b (asked n) (command n)
      → IsWrite3 locked message a b (Err (fault.Refused status))
  refused b n due all status h = by_value (get_or locked (place n) false) refl
    where
      said : (a.step (now n) (command n)).answer ≡ Some h.reply
      said = said_now n all h.reply h.says

      old_or_begun : (k : ℕ) → k < all_puts message → (after_puts k ≡ a.state.store) ⊎ IsBegun message a.state.store (after_puts k)
      old_or_begun zero less = inl refl
      old_or_begun (suc k) less = inr (begun_at a.state.store message tag.store takes k (omega (arith, less)))

      by_value : (v : Bool) → get_or locked (place n) false ≡ v → IsWrite3 locked message a b (Err (fault.Refused status))
      by_value false e = absurd (not_both h.reply status h.holds (done_told h.reply n e said))
      by_value true e =
          let same : UpdateRefused id status ≡ UpdateRefused id block_locked = one_answer h.reply (UpdateRefused id status) (UpdateRefused id block_locked) h.holds (refused_told h.reply n e said) in
          let state : after_all a.step a.state (asked (suc n)) ≡ now n =
          after_append a.step a.state (asked n) (command n ∷ []) ∙ ap (λ (s : TagStep). s.after) (step_at n all) ∙ (refuses n e).state in
          let left : b.state.store ≡ after_puts n = ap (λ (s : TagState). s.store) (h.answered.state ∙ state) in
          ends b (fault.Refused status)
          (three_at b n due all (after_puts n) (inl refl) (ap (λ (s : TagStep). s.after.store) (step_at n all) ∙ ap (λ (s : TagState). s.store) (refuses n e).state) h.answered.calls)
          (record {
            status' = ap status_of same;
            takes = takes;
            number = n;
            some = due;
            locked' = e;
            left = subst (λ s. (s ≡ a.state.store) ⊎ IsBegun message a.state.store s) (sym left) (old_or_begun n due);
          })
          (λ c. tt)

  gone : (b : LinkView) (f : AskFault) → (f ≡ ask.Memory → ⊥) → (IsCalm a b → f ≡ ask.Memory) → (e : T3Fault) → IsCalm a b → IsToldOrMemory e
  gone b f other calm e is = absurd (other (calm is))

  pub own_breaks : (b : LinkView) (n : ℕ) → n < all_puts message → AllDone id a block message n → (e : T3Fault) → StopsUpdate id a b (asked n) (command n) e → IsWrite3 locked message a b (Err e)
  own_breaks b n due all fault.NotNdef h = absurd h
  own_breaks b n due all fault.Version h = absurd h
  own_breaks b n due all fault.BadSize h = absurd h
  own_breaks b n due all (fault.Refused status) h = refused b n due all status h
  own_breaks b n due all fault.FieldLost h = let f = failed b n due all ask.FieldLost h in ends b fault.FieldLost f.0 f.1 (gone b ask.FieldLost (λ e. cc) f.2 fault.FieldLost)
  own_breaks b n due all fault.SixBad h = let f = failed b n due all ask.SixBad h in ends b fault.SixBad f.0 f.1 (gone b ask.SixBad (λ e. cc) f.2 fault.SixBad)
  own_breaks b n due all fault.Memory h = let f = failed b n due all ask.Memory h in ends b fault.Memory f.0 f.1 (λ c. tt)
  own_breaks b n due all fault.ReadOnly h = absurd h
  own_breaks b n due all (fault.TooLong most) h = absurd h
  own_breaks b n due all fault.Protocol (inl heard) = absurd (odd_not n all b heard)
  own_breaks b n due all fault.Protocol (inr h) = let f = failed b n due all ask.Protocol h in ends b fault.Protocol f.0 f.1 (gone b ask.Protocol (λ e. cc) f.2 fault.Protocol)
  own_breaks b n due all fault.Unfinished h = absurd h

  pub own_done : (b : LinkView) → Answered a b (asked (all_puts message)) → AllDone id a block message (all_puts message) → IsWrite3 locked message a b (Ok tt)
  own_done b answered all =
      let n : ℕ = suc (blocks_of message) in
      let at : b.state.store ≡ after_puts (suc n) = ap (λ (s : TagState). s.store) (answered.state ∙ state_at (suc n) all) in
      record {
        passes = three_at b n (omega arith) all.0 (after_puts (suc n)) (inr refl) (left_by n all) answered.calls;
        ok = (takes, subst (IsNew message a.state.store) (sym at) (new_at a.state.store message tag.store takes));
        err = tt;
        calm = λ c. tt;
      }

-- before the first Update nothing changes
module _ (id : List ℕ) (locked : List Bool) (a : LinkView) (tag : IsTag3 id locked a) (message : List ℕ) where
  unwritten : (b : LinkView) → Stays a b → PassesThree message a b
  unwritten b stays = record {
    more = stays.more;
    leads = stays.leads;
    three = record {
      before = a.state.store ∷ passed a.step a.state stays.more;
      during = [];
      behind = [];
      joined = ap (λ t. a.state.store ∷ t) (sym (append-nil (passed a.step a.state stays.more)));
      olds = (refl, stays.images);
      empties = tt;
      news = tt;
    };
  }

  by_read : (b : LinkView) (e : T3Fault) → IsRead3 a b (Err e) → IsWriteFault3 locked message a b e → IsWrite3 locked message a b (Err e)
  by_read b e r cause = record { passes = unwritten b r.stays; ok = tt; err = cause; calm = r.calm }

  abbrev pub stops : (b : LinkView) (e : T3Fault) → StopsNext (Brings id 16) (RefusesCheck id) a b [] (check_of id 0 1) e → Stops id a b e
  stops b e h = record { block = []; number = 0; bytes = []; brought = refl; head = tt; due = tt; told = h }

  own_start : (b : LinkView) (e : T3Fault) → StartTold id a b e → IsWrite3 locked message a b (Err e)
  own_start b fault.NotNdef h = let r = own_fault id locked a tag b fault.NotNdef h in by_read b fault.NotNdef r (r.err, r.stays)
  own_start b fault.Version h = let r = own_fault id locked a tag b fault.Version h in by_read b fault.Version r (r.err, r.stays)
  own_start b fault.BadSize h = let r = own_fault id locked a tag b fault.BadSize h in by_read b fault.BadSize r (r.err, r.stays)
  own_start b (fault.Refused status) h = let r = own_fault id locked a tag b (fault.Refused status) (stops b (fault.Refused status) h) in absurd r.err
  own_start b fault.FieldLost h = let r = own_fault id locked a tag b fault.FieldLost (stops b fault.FieldLost h) in by_read b fault.FieldLost r r.err
  own_start b fault.SixBad h = let r = own_fault id locked a tag b fault.SixBad (stops b fault.SixBad h) in by_read b fault.SixBad r r.err
  own_start b fault.Memory h = memory_of (own_memory id locked a tag b (stops b fault.Memory h))
    where
      memory_of : IsRead3 a b (Err fault.Memory) × ByLink a b ask.Memory → IsWrite3 locked message a b (Err fault.Memory)
      memory_of (r, by) = by_read b fault.Memory r by
  own_start b fault.ReadOnly h = absurd h
  own_start b (fault.TooLong most) h = absurd h
  own_start b fault.Protocol h = let r = own_fault id locked a tag b fault.Protocol (stops b fault.Protocol h) in by_read b fault.Protocol r r.err
  own_start b fault.Unfinished h = absurd h

  kept : (b : LinkView) (block : List ℕ) → Reads id a b block 1 block → Stays a b
  kept b block reads = reads_stay id locked a tag b block 1 block reads

  start_or : (b : LinkView) (e : T3Fault) → StartTold id a b e ⊎ Breaks id a b message e → IsWrite3 locked message a b (Err e)
  start_or b e (inl h) = own_start b e h
  start_or b e (inr h) =
      let w : Writes id a h.before h.block message h.number = h.writes in
      let same : h.block ≡ attributes a.state.store = sym w.reads.head ∙ head_own id locked a tag h.block 0 h.block w.reads.brought in
      let takes : Takes (attributes a.state.store) message = subst (λ x. Takes x message) same w.takes in
      let all : AllDone id a (attributes a.state.store) message h.number = subst (λ x. AllDone id a x message h.number) same w.done' in
      let told : StopsUpdate id a b (first_asked id (attributes a.state.store) message h.number) (command_at id (attributes a.state.store) message h.number) e =
      subst (λ x. StopsUpdate id a b (first_asked id x message h.number) (command_at id x message h.number) e) same h.told in
      own_breaks id locked a tag message takes b h.number h.due all e told

  own_fault' : (b : LinkView) (e : T3Fault) → WriteFaultTold id a b message e → IsWrite3 locked message a b (Err e)
  own_fault' b fault.ReadOnly h =
      let same : h.block ≡ attributes a.state.store = sym h.reads.head ∙ head_own id locked a tag h.block 0 h.block h.reads.brought in
      let sized : IsSized (attributes a.state.store) = subst IsSized same h.sized in
      let barred : (access_flag (attributes a.state.store) == 1) ≡ false = is_other (access_flag (attributes a.state.store)) 1 (subst (λ x. access_flag x ≢ 1) same h.barred) in
      record { passes = unwritten b (kept b h.block h.reads); ok = tt; err = ((sized, barred), kept b h.block h.reads); calm = λ c. tt }
  own_fault' b (fault.TooLong most) h =
      let same : h.block ≡ attributes a.state.store = sym h.reads.head ∙ head_own id locked a tag h.block 0 h.block h.reads.brought in
      let sized : IsSized (attributes a.state.store) = subst IsSized same h.sized in
      let free : (access_flag (attributes a.state.store) == 1) ≡ true = is_equal (access_flag (attributes a.state.store)) 1 (subst (λ x. access_flag x ≡ 1) same h.free) in
      let room : most ≡ 16 * message_blocks (attributes a.state.store) = h.most' ∙ ap (λ x. 16 * message_blocks x) same in
      record {
        passes = unwritten b (kept b h.block h.reads);
        ok = tt;
        err = (record { sized = sized; free = free; most' = room; long = h.long }, kept b h.block h.reads);
        calm = λ c. tt;
      }
  own_fault' b fault.NotNdef h = start_or b fault.NotNdef h
  own_fault' b fault.Version h = start_or b fault.Version h
  own_fault' b fault.BadSize h = start_or b fault.BadSize h
  own_fault' b (fault.Refused status) h = start_or b (fault.Refused status) h
  own_fault' b fault.FieldLost h = start_or b fault.FieldLost h
  own_fault' b fault.SixBad h = start_or b fault.SixBad h
  own_fault' b fault.Memory h = start_or b fault.Memory h
  own_fault' b fault.Protocol h = start_or b fault.Protocol h
  own_fault' b fault.Unfinished h = start_or b fault.Unfinished h

  pub own_write : (b : LinkView) (result : Result (Unit {0}) T3Fault) → WriteTold id a b message result → IsWrite3 locked message a b result
  own_write b (Err e) h = own_fault' b e h
  own_write b (Ok done') h =
      let w : Writes id a b h.block message (all_puts message) = h.writes in
      let same : h.block ≡ attributes a.state.store = sym w.reads.head ∙ head_own id locked a tag h.block 0 h.block w.reads.brought in
      let takes : Takes (attributes a.state.store) message = subst (λ x. Takes x message) same w.takes in
      own_done id locked a tag message takes b (subst (λ x. Answered a b (first_asked id x message (all_puts message))) same w.answered)
      (subst (λ x. AllDone id a x message (all_puts message)) same w.done')
