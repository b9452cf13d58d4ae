-- What is asked of a Type 3 tag that keeps to its table is one list, by its attribute block.
use Rattle.std.proofs.Common.{◌≡◌, ◌≢◌, ℕ, zero, suc, inl, inr, ◌⊎◌, ◌*◌, ◌<◌, List, [], ◌∷◌, ◌++◌, Bool, true, false, ◌==◌, Some, Result, Ok, Err, refl, sym, ◌∙◌, ap, subst, arith}
use Rattle.nfc_base.specs.TagLinks.{LinkView}
use Rattle.nfc_base.specs.declared.tag_link.AskFault.{AskFault}
use Rattle.t3t_tag.specs.Store.{attributes}
use Rattle.t3t_tag.specs.Form.{T3Form, NotNdef, Version, BadSize, Unfinished}
use Rattle.t3t_tag.proofs.Bytes.{equal_of, other_of}
use Rattle.t3t_access.specs.declared.fault.T3Fault.{T3Fault}
use Rattle.t3t_access.specs.declared.fault.T3Fault.TheVariants as fault
use Rattle.t3t_access.specs.declared.found.Found3.{Found3}
use Rattle.t3t_access.specs.Talk.{Answered, Fails, last_of}
use Rattle.t3t_access.specs.Answers.{Brings, RefusesCheck, StopsNext}
use Rattle.t3t_access.specs.Reading.{needed, taken_at, count_at, check_at, first_checks, IsDue, Brought, Begins, Reads, Finds, Stops, FaultTold, ReadTold}
use Rattle.t3t_access.specs.Own.{IsTag3, AsksInOrder, Asks3}
use Rattle.t3t_access.proofs.OwnLaw.{tied, head_own, found}

-- each Check that was answered was due
all_due : (id : List ℕ) (a : LinkView) (block : List ℕ) (n : ℕ) (bytes : List ℕ) → Brought id a block n bytes → (k : ℕ) → k < n → IsDue block k
all_due id a block zero bytes is k less = absurd (omega (arith, less))
all_due id a block (suc n) bytes (old, x, joined, before, due, r, says, brings) k less = by_value (λ l. all_due id a block n old before k l) (k == n) refl
  where
    lower : k ≢ n → k < n
    lower o = grind (arith, o, less)

    by_value : (k < n → IsDue block k) → (v : Bool) → (k == n) ≡ v → IsDue block k
    by_value below true e = subst (IsDue block) (sym (equal_of k n e)) due
    by_value below false e = below (lower (other_of k n e))

module _ (id : List ℕ) (locked : List Bool) (a : LinkView) (tag : IsTag3 id locked a) where
  abbrev own : List ℕ
  own = attributes a.state.store

  -- the same of the store's own attribute block
  pub record Fronts (n : ℕ) (block : List ℕ) : Type 0 where
    pub due : (k : ℕ) → k < n → IsDue own k
    pub first : first_checks id block n ≡ first_checks id own n
    pub next : check_at id block n ≡ check_at id own n
    pub then' : IsDue block n → IsDue own n

  fronts : (block : List ℕ) (n : ℕ) (bytes : List ℕ) → Brought id a block n bytes → Begins block n bytes → Fronts n block
  fronts block zero bytes is head = record { due = λ k less. absurd (omega (arith, less)); first = refl; next = refl; then' = λ d. d }
  fronts block (suc n) bytes is head =
      let tie : block ≡ own = tied id locked a tag block (suc n) bytes is head n refl in
      record {
        due = λ k less. subst (λ x. IsDue x k) tie (all_due id a block (suc n) bytes is k less);
        first = ap (λ x. first_checks id x (suc n)) tie;
        next = ap (λ x. check_at id x (suc n)) tie;
        then' = λ d. subst (λ x. IsDue x (suc n)) tie d;
      }

  asks_reads : (b : LinkView) (block : List ℕ) (n : ℕ) (bytes : List ℕ) → Reads id a b block n bytes → AsksInOrder id a b n
  asks_reads b block n bytes is =
      let f : Fronts n block = fronts block n bytes is.brought is.head in
      record {
        due = f.due;
        answered = is.answered.answered ∙ ap (λ cs. a.answered ++ cs) f.first;
        last = inl (is.answered.last ∙ ap (last_of a.last) f.first, is.answered.over);
      }

  asks_more : (b : LinkView) (block : List ℕ) (n : ℕ) → Fronts n block → IsDue block n → Answered a b (first_checks id block n ++ check_at id block n ∷ []) → AsksInOrder id a b (suc n)
  asks_more b block n f due is =
      let all : first_checks id block n ++ check_at id block n ∷ [] ≡ first_checks id own (suc n) =
      ap (λ cs. cs ++ check_at id block n ∷ []) f.first ∙ ap (λ c. first_checks id own n ++ c ∷ []) f.next in
      record {
        due = λ k less. by_value k less (k == n) refl;
        answered = is.answered ∙ ap (λ cs. a.answered ++ cs) all;
        last = inl (is.last ∙ ap (last_of a.last) all, is.over);
      }
    where
      lower : (k : ℕ) → k < suc n → k ≢ n → k < n
      lower k less o = grind (arith, o, less)

      by_value : (k : ℕ) → k < suc n → (v : Bool) → (k == n) ≡ v → IsDue own k
      by_value k less true e = subst (IsDue own) (sym (equal_of k n e)) (f.then' due)
      by_value k less false e = f.due k (lower k less (other_of k n e))

  asks_fails : (b : LinkView) (block : List ℕ) (n : ℕ) (e : AskFault) → Fronts n block → IsDue block n → Fails a b (first_checks id block n) (check_at id block n) e → AsksInOrder id a b n
  asks_fails b block n e f due is = record {
    due = f.due;
    answered = is.answered ∙ ap (λ cs. a.answered ++ cs) f.first;
    last = by_last is.last;
  }
    where
      by_last : ((b.last ≡ last_of a.last (first_checks id block n)) × (b.over ≡ a.over)) ⊎ (b.last ≡ Some (check_at id block n))
          → ((b.last ≡ last_of a.last (first_checks id own n)) × (b.over ≡ a.over)) ⊎ ((b.last ≡ Some (check_at id own n)) × IsDue own n)
      by_last (inl l) = inl (l.0 ∙ ap (last_of a.last) f.first, l.1)
      by_last (inr l) = inr (l ∙ ap (λ c. Some c) f.next, f.then' due)

  pub record Some3 (b : LinkView) : Type 0 where
    pub count : ℕ
    pub asks : AsksInOrder id a b count

  asks_next : (b : LinkView) (block : List ℕ) (n : ℕ) (e : T3Fault) → Fronts n block → IsDue block n
      → StopsNext (Brings id (16 * count_at block n)) (RefusesCheck id) a b (first_checks id block n) (check_at id block n) e → Some3 b
  asks_next b block n (fault.Refused status) f due h = record { count = suc n; asks = asks_more b block n f due h.answered }
  asks_next b block n fault.Protocol f due (inl h) = record { count = suc n; asks = asks_more b block n f due h.answered }
  asks_next b block n fault.Protocol f due (inr h) = record { count = n; asks = asks_fails b block n _ f due h }
  asks_next b block n fault.FieldLost f due h = record { count = n; asks = asks_fails b block n _ f due h }
  asks_next b block n fault.SixBad f due h = record { count = n; asks = asks_fails b block n _ f due h }
  asks_next b block n fault.Memory f due h = record { count = n; asks = asks_fails b block n _ f due h }
  asks_next b block n fault.NotNdef f due h = absurd h
  asks_next b block n fault.Version f due h = absurd h
  asks_next b block n fault.BadSize f due h = absurd h
  asks_next b block n fault.ReadOnly f due h = absurd h
  asks_next b block n (fault.TooLong most) f due h = absurd h
  asks_next b block n fault.Unfinished f due h = absurd h

  asks_stops : (b : LinkView) (e : T3Fault) → Stops id a b e → Some3 b
  asks_stops b e s = asks_next b s.block s.number e (fronts s.block s.number s.bytes s.brought s.head) s.due s.told

  asks_found : (b : LinkView) (form : T3Form) (f : Finds id a b form) → AsksInOrder id a b 1
  asks_found b form f = asks_reads b f.block 1 f.block f.reads

  asked_fault : (b : LinkView) (e : T3Fault) → FaultTold id a b e → Asks3 id a b (Err e)
  asked_fault b fault.NotNdef h =
      let is = found id locked a tag b NotNdef h (λ m e. cc) in
      record { count = 1; asks = asks_found b NotNdef h; whole = λ d. absurd (let x = d.0.known.summed in let y = is.0 in cc) }
  asked_fault b fault.Version h =
      let is = found id locked a tag b Version h (λ m e. cc) in
      record { count = 1; asks = asks_found b Version h; whole = λ d. is.0.1 d.0.known.version }
  asked_fault b fault.BadSize h =
      let is = found id locked a tag b BadSize h (λ m e. cc) in
      record { count = 1; asks = asks_found b BadSize h; whole = λ d. d.0.sized is.0.1 }
  asked_fault b fault.Unfinished h =
      let is = found id locked a tag b Unfinished h (λ m e. cc) in
      record { count = 1; asks = asks_found b Unfinished h; whole = λ d. is.0.1 d.1 }
  asked_fault b (fault.Refused status) h = let s = asks_stops b (fault.Refused status) h in record { count = s.count; asks = s.asks; whole = tt }
  asked_fault b fault.FieldLost h = let s = asks_stops b fault.FieldLost h in record { count = s.count; asks = s.asks; whole = tt }
  asked_fault b fault.SixBad h = let s = asks_stops b fault.SixBad h in record { count = s.count; asks = s.asks; whole = tt }
  asked_fault b fault.Memory (inl l) = record { count = l.number; asks = asks_reads b l.block l.number l.bytes l.reads; whole = tt }
  asked_fault b fault.Memory (inr h) = let s = asks_stops b fault.Memory h in record { count = s.count; asks = s.asks; whole = tt }
  asked_fault b fault.Protocol h = let s = asks_stops b fault.Protocol h in record { count = s.count; asks = s.asks; whole = tt }
  asked_fault b fault.ReadOnly h = absurd h
  asked_fault b (fault.TooLong most) h = absurd h

  pub own_asked : (b : LinkView) (result : Result Found3 T3Fault) → ReadTold id a b result → Asks3 id a b result
  own_asked b (Ok found') h =
      let block : List ℕ = attributes h.bytes in
      let tie : block ≡ own = head_own id locked a tag block h.number h.bytes h.reads.brought in
      let none : taken_at own h.number ≡ needed own = subst (λ x. taken_at x h.number ≡ needed x) tie h.whole in
      record {
        count = suc h.number;
        asks = asks_reads b block (suc h.number) h.bytes h.reads;
        whole = λ d. let less : taken_at own h.number < needed own = d.2 in omega (arith, less, none);
      }
  own_asked b (Err e) h = asked_fault b e h
