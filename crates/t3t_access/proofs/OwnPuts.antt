-- What is asked of a Type 3 tag that keeps to its table, to write a message, is one list.
use Rattle.std.proofs.Common.{◌≡◌, ◌≢◌, ℕ, suc, inl, inr, ◌⊎◌, ◌*◌, ◌<◌, ◌≤◌, List, [], length, get_or, Bool, true, false, Some, Result, Ok, Err, sym, ◌∙◌, ap, subst, append-nil, arith}
use Rattle.nfc_base.specs.TagLinks.{LinkView}
use Rattle.nfc_base.specs.declared.tag_link.AskFault.{AskFault}
use Rattle.t3t_tag.specs.Attributes.{message_blocks, access_flag}
use Rattle.t3t_tag.specs.Store.{attributes}
use Rattle.t3t_tag.specs.Form.{NotNdef, Version, BadSize}
use Rattle.t3t_access.specs.declared.fault.T3Fault.{T3Fault}
use Rattle.t3t_access.specs.declared.fault.T3Fault.TheVariants as fault
use Rattle.t3t_access.specs.Talk.{Answered, Fails, last_of}
use Rattle.t3t_access.specs.Answers.{check_of}
use Rattle.t3t_access.specs.Reading.{StartTold}
use Rattle.t3t_access.specs.Own.{IsTag3}
use Rattle.t3t_access.specs.Writing.{Takes, put_at, all_puts, command_at, first_asked, AllDone, Writes, Breaks, StopsUpdate, WriteFaultTold, WriteTold}
use Rattle.t3t_access.specs.OwnWriting.{IsPutDue, WritesInOrder, AsksNoUpdate, AsksUpdates, AsksWrite}
use Rattle.t3t_access.proofs.OwnLaw.{head_own, found, no_refusal}
use Rattle.t3t_access.proofs.OwnWritten.{stops, said_now, locked_of, free_all}

module _ (id : List ℕ) (locked : List Bool) (a : LinkView) (tag : IsTag3 id locked a) (message : List ℕ) where
  abbrev own : List ℕ
  own = attributes a.state.store

  abbrev Due : ℕ → Type 0
  Due n = IsPutDue locked own message n

  none_due : (k : ℕ) → k < 0 → Due k
  none_due k less = absurd (omega (arith, less))

  -- only the Check was answered
  checked : (b : LinkView) → Answered a b (first_asked id own message 0) → WritesInOrder id locked message a b 0
  checked b is = record { due = none_due; answered = is.answered; last = inl (is.last, is.over) }

  is_due : (takes : Takes own message) (n : ℕ) → AllDone id a own message n → (k : ℕ) → k ≤ n → k < all_puts message → Due k
  is_due takes n all k few some = record { takes = takes; some = some; free = λ j less. free_all id locked a tag message takes n all j (omega (arith, less, few)) }

  more_asked : (b : LinkView) (takes : Takes own message) (n : ℕ) → AllDone id a own message n → n < all_puts message → Answered a b (first_asked id own message (suc n))
      → WritesInOrder id locked message a b (suc n)
  more_asked b takes n all some is =
      record { due = λ k less. is_due takes n all k (omega (arith, less)) (omega (arith, less, some)); answered = is.answered; last = inl (is.last, is.over) }

  failed : (b : LinkView) (takes : Takes own message) (n : ℕ) (f : AskFault) → AllDone id a own message n → n < all_puts message
      → Fails a b (first_asked id own message n) (command_at id own message n) f
      → WritesInOrder id locked message a b n
  failed b takes n f all some is = record { due = λ k less. is_due takes n all k (omega (arith, less)) (omega (arith, less, some)); answered = is.answered; last = by_last is.last }
    where
      by_last : ((b.last ≡ last_of a.last (first_asked id own message n)) × (b.over ≡ a.over)) ⊎ (b.last ≡ Some (command_at id own message n))
          → ((b.last ≡ last_of a.last (first_asked id own message n)) × (b.over ≡ a.over)) ⊎ ((b.last ≡ Some (command_at id own message n)) × Due n)
      by_last (inl l) = inl l
      by_last (inr l) = inr (l, is_due takes n all n (omega arith) some)

  breaks : (b : LinkView) (takes : Takes own message) (n : ℕ) → AllDone id a own message n → n < all_puts message → (e : T3Fault)
      → StopsUpdate id a b (first_asked id own message n) (command_at id own message n) e → AsksUpdates id locked message a b (Err e)
  breaks b takes n all some (fault.Refused status) h =
      let barred : get_or locked (put_at own message n).block false ≡ true = locked_of id locked a tag message takes h.reply n status (said_now id locked a tag message takes n all h.reply h.says)
      h.holds in
      record {
        count = suc n;
        asks = more_asked b takes n all some h.answered;
        whole = λ (d : Due (suc n)). let free : get_or locked (put_at own message n).block false ≡ false = d.free n (omega arith) in let no : true ≡ false = sym barred ∙ free in cc;
      }
  breaks b takes n all some fault.Protocol (inl h) = record { count = suc n; asks = more_asked b takes n all some h.answered; whole = tt }
  breaks b takes n all some fault.Protocol (inr h) = record { count = n; asks = failed b takes n _ all some h; whole = tt }
  breaks b takes n all some fault.FieldLost h = record { count = n; asks = failed b takes n _ all some h; whole = tt }
  breaks b takes n all some fault.SixBad h = record { count = n; asks = failed b takes n _ all some h; whole = tt }
  breaks b takes n all some fault.Memory h = record { count = n; asks = failed b takes n _ all some h; whole = tt }
  breaks b takes n all some fault.NotNdef h = absurd h
  breaks b takes n all some fault.Version h = absurd h
  breaks b takes n all some fault.BadSize h = absurd h
  breaks b takes n all some fault.ReadOnly h = absurd h
  breaks b takes n all some (fault.TooLong most) h = absurd h
  breaks b takes n all some fault.Unfinished h = absurd h

  unanswered : (b : LinkView) (f : AskFault) → Fails a b [] (check_of id 0 1) f → AsksNoUpdate id a b
  unanswered b f is = record { answered = is.answered ∙ append-nil a.answered; last = is.last }

  starts : (b : LinkView) (e : T3Fault) → StartTold id a b e → AsksWrite id locked message a b (Err e)
  starts b fault.NotNdef h =
      let is = found id locked a tag b NotNdef h (λ m e. cc) in
      inl (record { count = 0; asks = checked b h.reads.answered; whole = λ (d : Due 0). let x = d.takes.sized.known.summed in let y = is.0 in cc })
  starts b fault.Version h =
      let is = found id locked a tag b Version h (λ m e. cc) in
      inl (record { count = 0; asks = checked b h.reads.answered; whole = λ (d : Due 0). is.0.1 d.takes.sized.known.version })
  starts b fault.BadSize h =
      let is = found id locked a tag b BadSize h (λ m e. cc) in
      inl (record { count = 0; asks = checked b h.reads.answered; whole = λ (d : Due 0). d.takes.sized.sized is.0.1 })
  starts b (fault.Refused status) h = absurd (no_refusal id locked a tag b (fault.Refused status) status (stops id locked a tag message b (fault.Refused status) h) h)
  starts b fault.Protocol (inl h) = inl (record { count = 0; asks = checked b h.answered; whole = tt })
  starts b fault.Protocol (inr h) = inr (unanswered b _ h, tt)
  starts b fault.FieldLost h = inr (unanswered b _ h, tt)
  starts b fault.SixBad h = inr (unanswered b _ h, tt)
  starts b fault.Memory h = inr (unanswered b _ h, tt)
  starts b fault.ReadOnly h = absurd h
  starts b (fault.TooLong most) h = absurd h
  starts b fault.Unfinished h = absurd h

  start_or : (b : LinkView) (e : T3Fault) → StartTold id a b e ⊎ Breaks id a b message e → AsksWrite id locked message a b (Err e)
  start_or b e (inl h) = starts b e h
  start_or b e (inr h) =
      let w : Writes id a h.before h.block message h.number = h.writes in
      let same : h.block ≡ own = sym w.reads.head ∙ head_own id locked a tag h.block 0 h.block w.reads.brought in
      let takes : Takes own message = subst (λ x. Takes x message) same w.takes in
      let all : AllDone id a own message h.number = subst (λ x. AllDone id a x message h.number) same w.done' in
      let told : StopsUpdate id a b (first_asked id own message h.number) (command_at id own message h.number) e =
      subst (λ x. StopsUpdate id a b (first_asked id x message h.number) (command_at id x message h.number) e) same h.told in
      inl (breaks b takes h.number all h.due e told)

  faults : (b : LinkView) (e : T3Fault) → WriteFaultTold id a b message e → AsksWrite id locked message a b (Err e)
  faults b fault.ReadOnly h =
      let same : h.block ≡ own = sym h.reads.head ∙ head_own id locked a tag h.block 0 h.block h.reads.brought in
      inl (record { count = 0; asks = checked b h.reads.answered; whole = λ (d : Due 0). subst (λ x. access_flag x ≢ 1) same h.barred d.takes.free })
  faults b (fault.TooLong most) h =
      let same : h.block ≡ own = sym h.reads.head ∙ head_own id locked a tag h.block 0 h.block h.reads.brought in
      let room : most ≡ 16 * message_blocks own = h.most' ∙ ap (λ x. 16 * message_blocks x) same in
      inl (record {
        count = 0;
        asks = checked b h.reads.answered;
        whole = λ (d : Due 0). let fits : length message ≤ 16 * message_blocks own = d.takes.room in
            absurd (omega (arith, room, h.long, fits));
      })
  faults b fault.NotNdef h = start_or b fault.NotNdef h
  faults b fault.Version h = start_or b fault.Version h
  faults b fault.BadSize h = start_or b fault.BadSize h
  faults b (fault.Refused status) h = start_or b (fault.Refused status) h
  faults b fault.FieldLost h = start_or b fault.FieldLost h
  faults b fault.SixBad h = start_or b fault.SixBad h
  faults b fault.Memory h = start_or b fault.Memory h
  faults b fault.Protocol h = start_or b fault.Protocol h
  faults b fault.Unfinished h = start_or b fault.Unfinished h

  pub own_puts : (b : LinkView) (result : Result (Unit {0}) T3Fault) → WriteTold id a b message result → AsksWrite id locked message a b result
  own_puts b (Err e) h = faults b e h
  own_puts b (Ok done') h =
      let w : Writes id a b h.block message (all_puts message) = h.writes in
      let same : h.block ≡ own = sym w.reads.head ∙ head_own id locked a tag h.block 0 h.block w.reads.brought in
      let takes : Takes own message = subst (λ x. Takes x message) same w.takes in
      let all : AllDone id a own message (all_puts message) = subst (λ x. AllDone id a x message (all_puts message)) same w.done' in
      let answered : Answered a b (first_asked id own message (all_puts message)) = subst (λ x. Answered a b (first_asked id x message (all_puts message))) same w.answered in
      inl (record {
        count = all_puts message;
        asks = record { due = λ k less. is_due takes (all_puts message) all k (omega (arith, less)) less; answered = answered.answered; last = inl (answered.last, answered.over) };
        whole = λ (d : Due (all_puts message)). let some : all_puts message < all_puts message = d.some in absurd (omega (arith, some));
      })
