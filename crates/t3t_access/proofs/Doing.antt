-- What is told of an Update, and an Update more that is done.
use Rattle.std.proofs.Common.{◌≡◌, ℕ, suc, inl, inr, ◌*◌, ◌<◌, ◌≤◌, List, [], length, Bool, true, false, not, nat_eq, nat_lt, ◌==◌, if◌then◌else◌, Option, Some, None, Result, Ok, Err, ◌↔◌, refl, sym}
use Rattle.std.proofs.Common.{◌∙◌, ap, subst, arith}
use Rattle.std.specs.Cmp.Lexicographic.{pointwise}
use Rattle.nfc_base.specs.Signal.{Signal}
use Rattle.nfc_base.specs.TagLinks.{LinkView}
use Rattle.t3t_tag.specs.declared.answer.T3Answer.{T3Answer}
use Rattle.t3t_tag.specs.declared.answer.T3Answer.TheVariants.{Polled, Content, Done, CheckRefused, UpdateRefused}
use Rattle.t3t_tag.specs.Attributes.{message_blocks, access_flag}
use Rattle.t3t_tag.specs.Form.{IsSized}
use Rattle.t3t_tag.specs.Spelling.{T3AnswerSpelling}
use Rattle.t3t_tag.proofs.Bytes.{equal_of, equal_bytes, bytes_self}
use Rattle.t3t_access.specs.declared.fault.T3Fault.{T3Fault}
use Rattle.t3t_access.specs.declared.fault.T3Fault.TheVariants as fault
use Rattle.t3t_access.specs.Answers.{IsOdd}
use Rattle.t3t_access.specs.Reading.{Reads}
use Rattle.t3t_access.specs.Writing.{closed, content_at, blocks_of, Put, put_at, all_puts, first_asked, SaysDone, RefusesUpdate, TellsDone, TellsUpdate, done_told, Takes, admitted, Writes, Breaks}
use Rattle.t3t_access.specs.Writing.{WriteFaultTold, WriteTold, PartTold}

module _ (id : List ℕ) (r : Signal) where
  abbrev Exact : Option T3Answer → Type 0
  Exact o = (a : T3Answer) → (o ≡ Some a) ↔ T3AnswerSpelling a r

  odd : (o : Option T3Answer) → Exact o → (o ≡ Some (Done id) → ⊥) → ((status : ℕ) → o ≡ Some (UpdateRefused id status) → ⊥) → IsOdd (λ x. SaysDone id) (RefusesUpdate id) r
  odd o exact grant refusal = record {
    no_grant = λ x g. grant ((exact (Done id)).1 g);
    no_refusal = λ status g. refusal status ((exact (UpdateRefused id status)).1 g);
  }

  by_test : (v : Bool) (x y : Result (Unit {0}) T3Fault) → (v ≡ true → TellsDone id r x) → (v ≡ false → TellsDone id r y) → TellsDone id r (if v then x else y)
  by_test true x y p q = p refl
  by_test false x y p q = q refl

  pub tells_done : (o : Option T3Answer) → Exact o → TellsDone id r (done_told id o)
  tells_done None exact = odd None exact (λ e. cc) (λ status e. cc)
  tells_done (Some (Polled from)) exact = odd (Some (Polled from)) exact (λ e. cc) (λ status e. cc)
  tells_done (Some (Content from content)) exact = odd (Some (Content from content)) exact (λ e. cc) (λ status e. cc)
  tells_done (Some (CheckRefused from status)) exact = odd (Some (CheckRefused from status)) exact (λ e. cc) (λ s e. cc)
  tells_done (Some (Done from)) exact =
      let same : Bool = pointwise nat_eq from id in
      by_test same (Ok tt) (Err fault.Protocol)
      (λ h. subst (λ i. T3AnswerSpelling (Done i) r) (equal_bytes from id h) ((exact (Done from)).0 refl))
      (λ h. odd (Some (Done from)) exact
      (λ e.
      let i : from ≡ id = ap id_of e in
      let t : same ≡ true = subst (λ j. pointwise nat_eq from j ≡ true) i (bytes_self from) in
      cc)
      (λ s e. cc))
    where
      id_of : Option T3Answer → List ℕ
      id_of (Some (Done i)) = i
      id_of _ = []
  tells_done (Some (UpdateRefused from status)) exact =
      let same : Bool = pointwise nat_eq from id in
      by_test same (Err (fault.Refused status)) (Err fault.Protocol)
      (λ h. subst (λ i. T3AnswerSpelling (UpdateRefused i status) r) (equal_bytes from id h) ((exact (UpdateRefused from status)).0 refl))
      (λ h. odd (Some (UpdateRefused from status)) exact
      (λ e. cc)
      (λ s e.
      let i : from ≡ id = ap id_of e in
      let t : same ≡ true = subst (λ j. pointwise nat_eq from j ≡ true) i (bytes_self from) in
      cc))
    where
      id_of : Option T3Answer → List ℕ
      id_of (Some (UpdateRefused i c)) = i
      id_of _ = []

-- one Update more
pub does : (id : List ℕ) (a m b : LinkView) (block message : List ℕ) (n : ℕ) (p : Put) (result : Result (Unit {0}) T3Fault) → Writes id a m block message n → n < all_puts message
    → put_at block message n ≡ p
    → TellsUpdate id p.block p.content a b (first_asked id block message n) result → PartTold id a b block message (suc n) result
does id a m b block message n p result w due is told = by_result result (subst (λ (q : Put). TellsUpdate id q.block q.content a b (first_asked id block message n) result) (sym is) told)
  where
    by_result : (s : Result (Unit {0}) T3Fault) → TellsUpdate id (put_at block message n).block (put_at block message n).content a b (first_asked id block message n) s
        → PartTold id a b block message (suc n) s
    by_result (Ok done') h = record { begun = w.begun; reads = w.reads; takes = w.takes; answered = h.answered; done' = (w.done', h.reply, h.says, h.holds) }
    by_result (Err e) h = record { block = block; number = n; before = m; writes = w; due = due; told = h }

pub is_less : (m n : ℕ) → m < n → nat_lt m n ≡ true
is_less m n h = grind arith

not_itself : (n : ℕ) → nat_lt n n ≡ false
not_itself n = grind arith

pub put_fill : (block message : List ℕ) (n : ℕ) → n < blocks_of message → put_at block message (suc n) ≡ record { block = suc n; content = content_at message n }
put_fill block message n less =
    ap (λ v. if v then record { block = suc n; content = content_at message n } else record { block = 0; content = closed block message }) (is_less n (blocks_of message) less)

pub put_last : (block message : List ℕ) → put_at block message (suc (blocks_of message)) ≡ record { block = 0; content = closed block message }
put_last block message =
    let n : ℕ = blocks_of message in
    ap (λ v. if v then record { block = suc n; content = content_at message n } else record { block = 0; content = closed block message }) (not_itself n)

-- a message that is taken is short
pub not_less : (m n : ℕ) → (m < n → ⊥) → n ≤ m
not_less m n h = by_value (nat_lt m n) refl
  where
    yes : nat_lt m n ≡ true → m < n
    yes e = grind arith

    no : nat_lt m n ≡ false → n ≤ m
    no e = grind arith

    by_value : (v : Bool) → nat_lt m n ≡ v → n ≤ m
    by_value true e = absurd (h (yes e))
    by_value false e = no e

pub named_few : (block : List ℕ) → IsSized block → message_blocks block ≤ 255
named_few block sized = not_less 255 (message_blocks block) (λ h. sized.sized (inr (inl h)))

-- what a block that has no fault is told as
abbrev barring : T3Fault → Result (Unit {0}) T3Fault
barring e = Err e

abbrev by_room : Bool → ℕ → Result (Unit {0}) T3Fault
by_room long most = if long then Err (fault.TooLong most) else Ok tt

abbrev by_access : Bool → Result (Unit {0}) T3Fault → Result (Unit {0}) T3Fault
by_access free rest = if not free then Err fault.ReadOnly else rest

pub admits_ok : (block message : List ℕ) → IsSized block → admitted block message ≡ Ok tt → Takes block message
admits_ok block message sized is = on_access (access_flag block == 1) refl
  where
    most : ℕ
    most = 16 * message_blocks block

    on_room : access_flag block ≡ 1 → (v : Bool) → nat_lt most (length message) ≡ v → by_room v most ≡ Ok tt → Takes block message
    on_room free true k h = cc
    on_room free false k h =
        let room : length message ≤ most = grind (arith, k) in
        record { sized = sized; free = free; room = room }

    on_access : (v : Bool) → (access_flag block == 1) ≡ v → Takes block message
    on_access true k =
        on_room (equal_of (access_flag block) 1 k) (nat_lt most (length message)) refl (sym (ap (λ v. by_access v (by_room (nat_lt most (length message)) most)) k) ∙ is)
    on_access false k =
        let h : barring fault.ReadOnly ≡ Ok tt = sym (ap (λ v. by_access v (by_room (nat_lt most (length message)) most)) k) ∙ is in
        cc

-- before the first Update
pub none_done : (id : List ℕ) (a b : LinkView) (block message : List ℕ) → Reads id a b block 1 block → Takes block message → Writes id a b block message 0
none_done id a b block message reads takes = record { begun = b; reads = reads; takes = takes; answered = reads.answered; done' = tt }

-- a fault of a part is one of the write
pub broken : (id : List ℕ) (a b : LinkView) (message : List ℕ) (e : T3Fault) → Breaks id a b message e → WriteFaultTold id a b message e
broken id a b message fault.NotNdef h = absurd h.told
broken id a b message fault.Version h = absurd h.told
broken id a b message fault.BadSize h = absurd h.told
broken id a b message (fault.Refused status) h = inr h
broken id a b message fault.FieldLost h = inr h
broken id a b message fault.SixBad h = inr h
broken id a b message fault.Memory h = inr h
broken id a b message fault.ReadOnly h = absurd h.told
broken id a b message (fault.TooLong most) h = absurd h.told
broken id a b message fault.Protocol h = inr h
broken id a b message fault.Unfinished h = absurd h.told

pub write_told : (id : List ℕ) (a b : LinkView) (block message : List ℕ) (result : Result (Unit {0}) T3Fault) → PartTold id a b block message (all_puts message) result
    → WriteTold id a b message result
write_told id a b block message (Ok done') h = record { block = block; writes = h }
write_told id a b block message (Err e) h = broken id a b message e h
