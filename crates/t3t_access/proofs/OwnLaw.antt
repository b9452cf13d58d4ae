-- A reading of a Type 3 tag that keeps to its table tells what its store holds, or why it can't.
use Rattle.std.proofs.Common.{◌≡◌, ◌≢◌, ℕ, zero, suc, inl, inr, ◌⊎◌, ◌+◌, ◌*◌, ◌/◌, ◌≤◌, List, [], ◌∷◌, ◌++◌, length, take, drop, Bool, true, false, ◌==◌, Some, Result, Ok, Err, refl, sym, ◌∙◌, ap}
use Rattle.std.proofs.Common.{subst, arith}
use Rattle.std.specs.List.{AllByRecursion}
use Rattle.std.proofs.lemmas.List.{length-append, take-take, take-append-le, drop-take}
use Rattle.std.proofs.Math.Seq.{take-add}
use Rattle.nfc_base.specs.Signal.{Signal}
use Rattle.nfc_base.specs.TagLinks.{LinkView, TagState, TagStep, after_all, passed}
use Rattle.nfc_base.specs.declared.tag_link.AskFault.{AskFault}
use Rattle.nfc_base.specs.declared.tag_link.AskFault.TheVariants as ask
use Rattle.nfc_base.proofs.Leading.{all_append}
use Rattle.t3t_tag.specs.declared.answer.T3Answer.{T3Answer}
use Rattle.t3t_tag.specs.declared.answer.T3Answer.TheVariants.{Content, CheckRefused}
use Rattle.t3t_tag.specs.Attributes.{major_version, write_flag, access_flag, message_length, is_summed}
use Rattle.t3t_tag.specs.Store.{block_count, attributes}
use Rattle.t3t_tag.specs.Form.{T3Form, NotNdef, Version, BadSize, Unfinished, Message, known_version, IsKnown, IsBadSize, IsSized, IsT3Form, message_of, is_writable}
use Rattle.t3t_tag.specs.Spelling.{answer_frame, T3AnswerSpelling}
use Rattle.t3t_tag.proofs.SpelledAnswers.{one_answer}
use Rattle.t3t_access.specs.declared.fault.T3Fault.{T3Fault}
use Rattle.t3t_access.specs.declared.fault.T3Fault.TheVariants as fault
use Rattle.t3t_access.specs.declared.found.Found3.{Found3}
use Rattle.t3t_access.specs.Talk.{Spread, Calls, Says, ByLink, IsCalm, Fails}
use Rattle.t3t_access.specs.Answers.{Brings, RefusesCheck, IsOdd, IsHeard}
use Rattle.t3t_access.specs.Reading.{needed, taken_at, count_at, check_at, first_checks, Brought, Begins, Reads, Finds, Stops, FaultTold, Holds, ReadTold}
use Rattle.t3t_access.specs.Own.{IsTag3, Stays, IsReadFault3, IsToldOrMemory, IsRead3}
use Rattle.t3t_access.proofs.OwnReading.{part, length_part, own_check, own_content, same_content, so_far, so_far_more, at_is, IsWithin, within}

-- the state that commands leave which change nothing, and the stores that are passed
pub stays_all : (step : TagState → Signal → TagStep) (s : TagState) (cs : List Signal) → AllByRecursion (λ c. (step s c).after ≡ s) cs → after_all step s cs ≡ s
stays_all step s [] h = refl
stays_all step s (c ∷ cs) h = ap (λ x. after_all step x cs) h.0 ∙ stays_all step s cs h.1

pub spread_stays : (step : TagState → Signal → TagStep) (s : TagState) (cs : List Signal) (stores : List (List ℕ)) → AllByRecursion (λ c. (step s c).after ≡ s) cs → Spread step s cs stores
    → AllByRecursion (λ t. t ≡ s.store) stores
spread_stays step s [] stores h is = subst (AllByRecursion (λ t. t ≡ s.store)) (sym is) tt
spread_stays step s (c ∷ cs) stores h (xs, ys, joined, these, rest) =
    let first : AllByRecursion (λ t. t ≡ s.store) xs = subst (λ (x : TagState). AllByRecursion (λ t. t ≡ x.store) xs) h.0 these in
    let others : AllByRecursion (λ t. t ≡ s.store) ys = spread_stays step s cs ys h.1 (subst (λ x. Spread step x cs ys) h.0 rest) in
    subst (AllByRecursion (λ t. t ≡ s.store)) (sym joined) (all_append (λ t. t ≡ s.store) xs ys first others)

abbrev Keeps : LinkView → Signal → Type 0
Keeps a c = (a.step a.state c).after ≡ a.state

module _ (id : List ℕ) (locked : List Bool) (a : LinkView) (tag : IsTag3 id locked a) where
  -- one Check that is due
  next_keeps : (block : List ℕ) (n : ℕ) → IsWithin a.state.store block n → Keeps a (check_at id block n)
  next_keeps block n w =
      ap (λ c. (a.step a.state c).after) (at_is id block n)
      ∙ ap (λ (s : TagStep). s.after) (own_check id locked a tag (so_far block n) (count_at block n) w.least w.most w.fits)

  next_content : (block : List ℕ) (n : ℕ) → IsWithin a.state.store block n → (r : Signal) → (a.step a.state (check_at id block n)).answer ≡ Some r
      → T3AnswerSpelling (Content id (record { items = part a.state.store (so_far block n) (count_at block n) })) r
  next_content block n w r says =
      own_content id locked a tag (so_far block n) (count_at block n) w.least w.most w.fits r (ap (λ c. (a.step a.state c).answer) (sym (at_is id block n)) ∙ says)

  -- what the first of them brought, and that none changed anything
  pub record Own (block : List ℕ) (n : ℕ) (bytes : List ℕ) : Type 0 where
    pub keeps : AllByRecursion (Keeps a) (first_checks id block n)
    pub bytes' : bytes ≡ take (16 * so_far block n) a.state.store
    pub fits : so_far block n ≤ block_count a.state.store

  own_more : (block old x : List ℕ) (n : ℕ) (r : Signal) → Own block n old → IsWithin a.state.store block n → Says a (first_checks id block n) (check_at id block n) r
      → Brings id (16 * count_at block n) x r → Own block (suc n) (old ++ x)
  own_more block old x n r own w says brings =
      let now : after_all a.step a.state (first_checks id block n) ≡ a.state = stays_all a.step a.state (first_checks id block n) own.keeps in
      let said : (a.step a.state (check_at id block n)).answer ≡ Some r = ap (λ s. (a.step s (check_at id block n)).answer) (sym now) ∙ says in
      let content : x ≡ part a.state.store (so_far block n) (count_at block n) = same_content id x (part a.state.store (so_far block n) (count_at block n)) r brings.1
      (next_content block n w r said) in
      let sum : 16 * so_far block n + 16 * count_at block n ≡ 16 * so_far block (suc n) = (let e : so_far block n + count_at block n ≡ so_far block (suc n) = so_far_more block n in
      omega (arith, e)) in
      record {
        keeps = all_append (Keeps a) (first_checks id block n) (check_at id block n ∷ []) own.keeps (next_keeps block n w, tt);
        bytes' =
            ap (λ t. t ++ x) own.bytes'
            ∙ ap (λ t. take (16 * so_far block n) a.state.store ++ t) content
            ∙ sym (take-add (16 * so_far block n) (16 * count_at block n) a.state.store)
            ∙ ap (λ k. take k a.state.store) sum;
        fits = subst (λ k. k ≤ block_count a.state.store) (so_far_more block n) w.fits;
      }

  own_front : (block : List ℕ) (n : ℕ) (bytes : List ℕ) → ((k : ℕ) → n ≡ suc (suc k) → block ≡ attributes a.state.store) → Brought id a block n bytes → Own block n bytes
  own_front block zero bytes tie is = record { keeps = tt; bytes' = is; fits = omega arith }
  own_front block (suc zero) bytes tie (old, x, joined, before, due, r, says, brings) =
      let own : Own block zero old = own_front block zero old (λ k e. absurd (omega (arith, e))) before in
      subst (Own block 1) (sym joined) (own_more block old x zero r own (within a.state.store block tag.store zero (λ k e. absurd (omega (arith, e))) due) says brings)
  own_front block (suc (suc n)) bytes tie (old, x, joined, before, due, r, says, brings) =
      let own : Own block (suc n) old = own_front block (suc n) old (λ k e. tie n refl) before in
      subst (Own block (suc (suc n))) (sym joined) (own_more block old x (suc n) r own (within a.state.store block tag.store (suc n) (λ k e. tie n refl) due) says brings)

  -- the attribute block that was brought is that of the store
  long_front : (block : List ℕ) (n : ℕ) (bytes : List ℕ) → Brought id a block (suc n) bytes → 16 ≤ length bytes
  long_front block zero bytes (old, x, joined, before, due, r, says, brings) =
      let e : length bytes ≡ length old + length x = ap length joined ∙ length-append old x in
      let s : length x ≡ 16 = brings.0 in
      omega (arith, e, s)
  long_front block (suc n) bytes (old, x, joined, before, due, r, says, brings) =
      let e : length bytes ≡ length old + length x = ap length joined ∙ length-append old x in
      let s : 16 ≤ length old = long_front block n old before in
      omega (arith, e, s)

  pub head_own : (block : List ℕ) (n : ℕ) (bytes : List ℕ) → Brought id a block (suc n) bytes → take 16 bytes ≡ attributes a.state.store
  head_own block zero bytes is =
      let own : Own block 1 bytes = own_front block 1 bytes (λ k e. absurd (omega (arith, e))) is in
      ap (take 16) own.bytes' ∙ take-take 16 16 a.state.store (omega arith)
  head_own block (suc n) bytes (old, x, joined, before, due, r, says, brings) =
      ap (take 16) joined ∙ take-append-le 16 old x (long_front block n old before) ∙ head_own block n old before

  pub tied : (block : List ℕ) (n : ℕ) (bytes : List ℕ) → Brought id a block n bytes → Begins block n bytes → (k : ℕ) → n ≡ suc k → block ≡ attributes a.state.store
  tied block zero bytes is head k e = absurd (omega (arith, e))
  tied block (suc n) bytes is head k e = sym head ∙ head_own block n bytes is

  pub own_of : (block : List ℕ) (n : ℕ) (bytes : List ℕ) → Brought id a block n bytes → Begins block n bytes → Own block n bytes
  own_of block n bytes is head = own_front block n bytes (λ k e. tied block n bytes is head (suc k) e) is

  stays_of : (b : LinkView) (cs : List Signal) → Calls a b cs → AllByRecursion (Keeps a) cs → Stays a b
  stays_of b cs calls keeps = record { more = calls.more; leads = calls.leads; images = spread_stays a.step a.state cs (passed a.step a.state calls.more) keeps calls.spread }

  pub reads_stay : (b : LinkView) (block : List ℕ) (n : ℕ) (bytes : List ℕ) → Reads id a b block n bytes → Stays a b
  reads_stay b block n bytes is = stays_of b (first_checks id block n) is.answered.calls (own_of block n bytes is.brought is.head).keeps

  -- the form that an answer said is that of the store
  pub found : (b : LinkView) (form : T3Form) → Finds id a b form → ((m : List ℕ) → form ≡ Message m → ⊥) → IsT3Form a.state.store form × Stays a b
  found b form f none =
      let same : attributes f.block ≡ attributes a.state.store = head_own f.block 0 f.block f.reads.brought in
      (by_form form f.is same none, reads_stay b f.block 1 f.block f.reads)
    where
      by_form : (g : T3Form) → IsT3Form f.block g → attributes f.block ≡ attributes a.state.store → ((m : List ℕ) → g ≡ Message m → ⊥) → IsT3Form a.state.store g
      by_form NotNdef is same none = subst (λ x. is_summed x ≡ false) same is
      by_form Version is same none = subst (λ x. (is_summed x ≡ true) × (major_version x ≢ known_version)) same is
      by_form BadSize is same none = subst (λ x. IsKnown x × IsBadSize x) same is
      by_form Unfinished is same none = subst (λ x. IsSized x × (write_flag x ≢ 0)) same is
      by_form (Message m) is same none = absurd (none m refl)

  -- the message is that of the store
  message_same : (b : LinkView) (m : List ℕ) (w : Bool) → Holds id a b m w → (IsT3Form a.state.store (Message m) × (w ≡ is_writable a.state.store)) × Stays a b
  message_same b m w h =
      let block : List ℕ = attributes h.bytes in
      let own : Own block (suc h.number) h.bytes = own_of block (suc h.number) h.bytes h.reads.brought h.reads.head in
      let same : attributes h.bytes ≡ attributes a.state.store = head_own block h.number h.bytes h.reads.brought in
      let count : ℕ = 16 * needed block in
      let all : h.bytes ≡ take (16 + count) a.state.store = own.bytes' ∙ ap (λ k. take k a.state.store) (let e : taken_at block h.number ≡ needed block = h.whole in omega (arith, e)) in
      let behind : drop 16 h.bytes ≡ take count (drop 16 a.state.store) = ap (drop 16) all ∙ drop-take 16 count a.state.store in
      let room : message_length block ≤ 16 * ((message_length block + 15) / 16) = omega arith in
      let told : message_of h.bytes ≡ message_of a.state.store =
      ap (take (message_length block)) behind
      ∙ take-take (message_length block) count (drop 16 a.state.store) room
      ∙ ap (λ x. take (message_length x) (drop 16 a.state.store)) same in (
        ((subst IsSized same h.is.0, subst (λ x. write_flag x ≡ 0) same h.is.1, h.is.2 ∙ told), h.access ∙ ap (λ x. access_flag x == 1) same),
        reads_stay b block (suc h.number) h.bytes h.reads,
      )

  -- the Check at which a reading stopped
  pub record AtStop (b : LinkView) (block : List ℕ) (n : ℕ) : Type 0 where
    pub keeps : AllByRecursion (Keeps a) (first_checks id block n ++ check_at id block n ∷ [])
    pub content : (r : Signal) → Says a (first_checks id block n) (check_at id block n) r → T3AnswerSpelling (Content id (record { items = part a.state.store (so_far block n) (count_at block n) })) r
    pub long : length (part a.state.store (so_far block n) (count_at block n)) ≡ 16 * count_at block n
    pub answers : Says a (first_checks id block n) (check_at id block n) (answer_frame (Content id (record { items = part a.state.store (so_far block n) (count_at block n) })))

  at_stop : (b : LinkView) (e : T3Fault) (s : Stops id a b e) → AtStop b s.block s.number
  at_stop b e s =
      let n : ℕ = s.number in
      let block : List ℕ = s.block in
      let own : Own block n s.bytes = own_of block n s.bytes s.brought s.head in
      let w : IsWithin a.state.store block n = within a.state.store block tag.store n (tied block n s.bytes s.brought s.head) s.due in
      let now : after_all a.step a.state (first_checks id block n) ≡ a.state = stays_all a.step a.state (first_checks id block n) own.keeps in
      record {
        keeps = all_append (Keeps a) (first_checks id block n) (check_at id block n ∷ []) own.keeps (next_keeps block n w, tt);
        content = λ r says. next_content block n w r (ap (λ x. (a.step x (check_at id block n)).answer) (sym now) ∙ says);
        long = length_part a.state.store (so_far block n) (count_at block n) w.fits;
        answers =
            ap (λ x. (a.step x (check_at id block n)).answer) now
            ∙ ap (λ c. (a.step a.state c).answer) (at_is id block n)
            ∙ ap (λ (x : TagStep). x.answer) (own_check id locked a tag (so_far block n) (count_at block n) w.least w.most w.fits);
      }

  fails : (b : LinkView) (e : T3Fault) (s : Stops id a b e) (f : AskFault) → Fails a b (first_checks id s.block s.number) (check_at id s.block s.number) f
      → Stays a b × ByLink a b f × (IsCalm a b → f ≡ ask.Memory)
  fails b e s f h =
      let at : AtStop b s.block s.number = at_stop b e s in
      (stays_of b (first_checks id s.block s.number ++ check_at id s.block s.number ∷ []) h.calls at.keeps, h.by, λ calm. h.calm calm _ at.answers)

  pub no_refusal : (b : LinkView) (e : T3Fault) (status : ℕ) (s : Stops id a b e) → IsHeard (RefusesCheck id status) a b (first_checks id s.block s.number) (check_at id s.block s.number) → ⊥
  no_refusal b e status s h =
      let at : AtStop b s.block s.number = at_stop b e s in
      let x : T3Answer = Content id (record { items = part a.state.store (so_far s.block s.number) (count_at s.block s.number) }) in
      absurd (let same : x ≡ CheckRefused id status = one_answer h.reply x (CheckRefused id status) (at.content h.reply h.says) h.holds in cc)

  no_odd : (b : LinkView) (e : T3Fault) (s : Stops id a b e) → IsHeard (IsOdd (Brings id (16 * count_at s.block s.number)) (RefusesCheck id)) a b (first_checks id s.block s.number)
      (check_at id s.block s.number) → ⊥
  no_odd b e s h =
      let at : AtStop b s.block s.number = at_stop b e s in
      h.holds.no_grant (part a.state.store (so_far s.block s.number) (count_at s.block s.number)) (at.long, at.content h.reply h.says)

  ends : (b : LinkView) (e : T3Fault) → Stays a b × IsReadFault3 a b e × (IsCalm a b → IsToldOrMemory e) → IsRead3 a b (Err e)
  ends b e (stays, cause, calm) = record { stays = stays; ok = tt; err = cause; calm = calm }

  pub own_fault : (b : LinkView) (e : T3Fault) → FaultTold id a b e → IsRead3 a b (Err e)
  own_fault b fault.NotNdef h = let f = found b NotNdef h (λ m e. cc) in ends b fault.NotNdef (f.1, f.0, λ c. tt)
  own_fault b fault.Version h = let f = found b Version h (λ m e. cc) in ends b fault.Version (f.1, f.0, λ c. tt)
  own_fault b fault.BadSize h = let f = found b BadSize h (λ m e. cc) in ends b fault.BadSize (f.1, f.0, λ c. tt)
  own_fault b fault.Unfinished h = let f = found b Unfinished h (λ m e. cc) in ends b fault.Unfinished (f.1, f.0, λ c. tt)
  own_fault b (fault.Refused status) h = absurd (no_refusal b (fault.Refused status) status h h.told)
  own_fault b fault.FieldLost h = let f = fails b fault.FieldLost h ask.FieldLost h.told in ends b fault.FieldLost (f.0, f.1, λ c. absurd (let e : ask.FieldLost ≡ ask.Memory = f.2 c in cc))
  own_fault b fault.SixBad h = let f = fails b fault.SixBad h ask.SixBad h.told in ends b fault.SixBad (f.0, f.1, λ c. absurd (let e : ask.SixBad ≡ ask.Memory = f.2 c in cc))
  own_fault b fault.Memory (inl l) = ends b fault.Memory (reads_stay b l.block l.number l.bytes l.reads, inl l.reads.answered.over, λ c. tt)
  own_fault b fault.Memory (inr h) = let f = fails b fault.Memory h ask.Memory h.told in ends b fault.Memory (f.0, inr f.1, λ c. tt)
  own_fault b fault.ReadOnly h = absurd h
  own_fault b (fault.TooLong most) h = absurd h
  own_fault b fault.Protocol h = odd_or h.told
    where
      odd_or : IsHeard (IsOdd (Brings id (16 * count_at h.block h.number)) (RefusesCheck id)) a b (first_checks id h.block h.number) (check_at id h.block h.number)
          ⊎ Fails a b (first_checks id h.block h.number) (check_at id h.block h.number) ask.Protocol → IsRead3 a b (Err fault.Protocol)
      odd_or (inl heard) = absurd (no_odd b fault.Protocol h heard)
      odd_or (inr failed) = let f = fails b fault.Protocol h ask.Protocol failed in ends b fault.Protocol (f.0, f.1, λ c. absurd (let e : ask.Protocol ≡ ask.Memory = f.2 c in cc))

  -- want of memory with a command is the link's
  pub own_memory : (b : LinkView) → Stops id a b fault.Memory → IsRead3 a b (Err fault.Memory) × ByLink a b ask.Memory
  own_memory b h = let f = fails b fault.Memory h ask.Memory h.told in (ends b fault.Memory (f.0, inr f.1, λ c. tt), f.1)

  pub own_read : (b : LinkView) (result : Result Found3 T3Fault) → ReadTold id a b result → IsRead3 a b result
  own_read b (Ok found') h = let m = message_same b found'.message.items found'.writable h in record { stays = m.1; ok = m.0; err = tt; calm = λ c. tt }
  own_read b (Err e) h = own_fault b e h
