-- In a pass without noise each tag is found, or waits in a slot that clashed, or in one of the round that is still to come.
use Rattle.std.proofs.Common.{◌≡◌, ◌⊎◌, inl, inr, ◌≤◌, ◌<◌, ℕ, zero, suc, ◌+◌, ◌*◌, List, [], ◌∷◌, ◌++◌, length, Bool, true, false, not, ◌==◌, ◌&&◌, nat_eq, nat_le, if◌then◌else◌, Some, None, refl}
use Rattle.std.proofs.Common.{sym, ◌∙◌, ap, subst, arith}
use Rattle.nfc_base.specs.declared.event.Heard.{Heard}
use Rattle.nfc_base.specs.declared.event.Heard.TheVariants.{Whole}
use Rattle.nfc_base.specs.Signal.{Signal}
use Rattle.nfca_poll.specs.Crowd.{Each}
use Rattle.nfca_poll.proofs.quiet.Eaches.{IfSaid}
use Rattle.t5t_tag.specs.declared.answer.T5Answer.TheVariants.{Present}
use Rattle.t5t_tag.specs.declared.command.T5Command.TheVariants.{NextSlot}
use Rattle.t5t_tag.specs.declared.round.Round.{Round}
use Rattle.t5t_tag.specs.Slots.{slot_of, asks_in_slots, begun}
use Rattle.t5t_tag.specs.Spelling.{answer_frame, command_frame}
use Rattle.t5t_tag.specs.Step.{T5Turn, silent, sent, own_answer, in_slot, next_round, out_of_round, t5_turn}
use Rattle.t5t_tag.specs.Store.{T5State, id_size}
use Rattle.t5t_tag.proofs.SpelledAnswers.{answer_reads}
use Rattle.nfcv_poll.specs.declared.search.Said.TheVariants as told
use Rattle.nfcv_poll.specs.Masks.{slots_frame}
use Rattle.nfcv_poll.specs.Search.{said_by, said}
use Rattle.nfcv_poll.specs.Tags.{IsOneOf}
use Rattle.nfcv_poll.proofs.Forks.{same_number}
use Rattle.nfcv_poll.proofs.Nibbles.{BeginsWith, begins_next, asked_by}
use Rattle.nfcv_poll.proofs.Paths.{IsPath, mask_by}
use Rattle.nfcv_poll.proofs.Standing.{Fares}
use Rattle.nfcv_poll.proofs.Together.{mask_bytes}

-- where a tag is to be found
pub data Sought (found : List (List ℕ)) (path : List ℕ) (slot : ℕ) (cs ws : List (List ℕ)) (t : T5State) : Type 0 where
  done : IsOneOf t.id found → Sought found path slot cs ws t
  waits : (q : List ℕ) → IsOneOf q cs ⊎ IsOneOf q ws → BeginsWith q t.id → Sought found path slot cs ws t
  here : t.quiet ≡ false → BeginsWith path t.id → slot ≤ slot_of t.id (4 * length path)
      → ((c : ℕ) → slot ≡ c + 1 → t.round ≡ Some (record { slot = slot_of t.id (4 * length path); current = c })) → Sought found path slot cs ws t

-- a turn that brings a tag to a slot of its round
record InSlot (t : T5State) (own slot : ℕ) (r : T5Turn) : Type 0 where
  answer : r.answer ≡ own_answer t (Some (record { slot = own; current = slot }))
  id : r.after.id ≡ t.id
  quiet : r.after.quiet ≡ t.quiet
  round : r.after.round ≡ Some (record { slot = own; current = slot })

slots_turn : (t : T5State) (path : List ℕ) → t.quiet ≡ false → asks_in_slots t.id (4 * length path) (mask_bytes (mask_by path)) ≡ true
    → InSlot t (slot_of t.id (4 * length path)) 0 (t5_turn t (slots_frame (mask_by path)))
slots_turn t path loud asked =
    let u : T5State = out_of_round t in
    let own : ℕ = slot_of t.id (4 * length path) in
    let begins : T5Turn = in_slot u (Some (begun own)) in
    let same : t5_turn t (slots_frame (mask_by path)) ≡ begins =
    ap (λ q. if not q && asks_in_slots t.id (4 * length path) (mask_bytes (mask_by path)) then begins else silent u) loud ∙ ap (λ v. if v then begins else silent u) asked in
    record {
      answer = ap (λ (r : T5Turn). r.answer) same;
      id = ap (λ (r : T5Turn). r.after.id) same;
      quiet = ap (λ (r : T5Turn). r.after.quiet) same;
      round = ap (λ (r : T5Turn). r.after.round) same;
    }

pub not_least : (n k : ℕ) → k < n → nat_le n k ≡ false
not_least n k h = grind (arith, h)

next_turn : (t : T5State) (own c : ℕ) → c < 15 → t.round ≡ Some (record { slot = own; current = c }) → InSlot t own (c + 1) (t5_turn t (command_frame NextSlot))
next_turn t own c less at =
    let r : Round = record { slot = own; current = c } in
    let on : next_round t.round ≡ Some (record { slot = own; current = c + 1 }) =
    ap next_round at ∙ ap (λ v. if v then None else Some (record r { current = c + 1 })) (not_least 15 c less) in
    let same : t5_turn t (command_frame NextSlot) ≡ in_slot t (Some (record { slot = own; current = c + 1 })) = ap (in_slot t) on in
    record {
      answer = ap (λ (r : T5Turn). r.answer) same;
      id = ap (λ (r : T5Turn). r.after.id) same;
      quiet = ap (λ (r : T5Turn). r.after.quiet) same;
      round = ap (λ (r : T5Turn). r.after.round) same;
    }

-- what was found and what clashed is kept in mind
pub record Learns (ids found : List (List ℕ)) (path : List ℕ) (slot : ℕ) (cs ws : List (List ℕ)) (h : Heard) (found' cs' ws' : List (List ℕ)) : Type 0 where
  pub keeps : (i : List ℕ) → IsOneOf i found → IsOneOf i found'
  pub tells : (i : List ℕ) → said h ≡ told.Tag i → IsOneOf i found'
  pub later : (q : List ℕ) → IsOneOf q cs ⊎ IsOneOf q ws → IsOneOf q cs' ⊎ IsOneOf q ws'
  pub clash : said h ≡ told.Clash → IsOneOf (path ++ slot ∷ []) cs'

-- an answer is heard, alone or in a clash
abbrev pub ToldOf : Heard → Signal → Type 0
ToldOf h g = (said h ≡ told.Clash) ⊎ (h ≡ Whole g)

-- the request that is due in a slot of the round of a mask, by whether it is the first
abbrev pub due_frame : List ℕ → Bool → Signal
due_frame path true = slots_frame (mask_by path)
due_frame path false = command_frame NextSlot

-- one tag
module _ (ids found : List (List ℕ)) (path : List ℕ) (slot : ℕ) (cs ws : List (List ℕ)) (h : Heard) (found' cs' ws' : List (List ℕ)) (learns : Learns ids found path slot cs ws h found' cs' ws')
    (is : IsPath path) (less : slot < 16) where
  goes_by : (t : T5State) (r : T5Turn) → length t.id ≡ id_size → Each (λ b. b < 256) t.id → InSlot t (slot_of t.id (4 * length path)) slot r
      → t.quiet ≡ false → BeginsWith path t.id → slot ≤ slot_of t.id (4 * length path) → IfSaid (ToldOf h) (sent r.answer) → Sought found' path (slot + 1) cs' ws' r.after
  goes_by t r long small i loud begins least heard = by_own (slot == own) refl
    where
      own : ℕ
      own = slot_of t.id (4 * length path)

      its : (v : Bool) → (slot == own) ≡ v → r.answer ≡ (if v then Some (Present t.id) else None)
      its v e = i.answer ∙ ap (λ v. if v then Some (Present t.id) else None) e

      same : (P : List ℕ → Type 0) → P t.id → P r.after.id
      same P p = subst P (sym i.id) p

      by_own : (v : Bool) → (slot == own) ≡ v → Sought found' path (slot + 1) cs' ws' r.after
      by_own false e =
          let other : slot < own = far slot own e least in
          here (i.quiet ∙ loud) (same (BeginsWith path) begins) (same (λ d. slot + 1 ≤ slot_of d (4 * length path)) (omega (arith, other)))
          (λ c q. (let last : c ≡ slot = omega (arith, q) in
          i.round ∙ ap (λ k. Some (record { slot = own; current = k })) (sym last) ∙ ap (λ d. Some (record { slot = slot_of d (4 * length path); current = c })) (sym i.id)))
        where
          far : (a b : ℕ) → (a == b) ≡ false → a ≤ b → a < b
          far a b e h = grind (arith, e, h)
      by_own true e =
          let at : own ≡ slot = sym (same_number slot own e) in
          by_heard at (subst (λ a. IfSaid (ToldOf h) (sent a)) (its true e) heard)
        where
          by_heard : own ≡ slot → (said h ≡ told.Clash) ⊎ (h ≡ Whole (answer_frame (Present t.id))) → Sought found' path (slot + 1) cs' ws' r.after
          by_heard at (inl c) =
              waits (path ++ slot ∷ []) (inl (learns.clash c)) (same (BeginsWith (path ++ slot ∷ [])) (begins_next t.id long small path slot is.few begins at))
          by_heard at (inr w) =
              let tag_told : said h ≡ told.Tag t.id = ap said w ∙ ap said_by (answer_reads (Present t.id) long) in
              done (same (λ d. IsOneOf d found') (learns.tells t.id tag_told))

  pub goes_sought : (t : T5State) → length t.id ≡ id_size → Each (λ b. b < 256) t.id → Fares found t (due_frame path (nat_eq slot 0))
      → IfSaid (ToldOf h) (sent (t5_turn t (due_frame path (nat_eq slot 0))).answer)
      → Sought found path slot cs ws t → Sought found' path (slot + 1) cs' ws' (t5_turn t (due_frame path (nat_eq slot 0))).after
  goes_sought t long small fares heard (done o) = done (subst (λ d. IsOneOf d found') (sym fares.id) (learns.keeps t.id o))
  goes_sought t long small fares heard (waits q o begins) = waits q (learns.later q o) (subst (BeginsWith q) (sym fares.id) begins)
  goes_sought t long small fares heard (here loud begins least at) =
      goes_by t (t5_turn t (due_frame path (nat_eq slot 0))) long small (by_slot (nat_eq slot 0) refl) loud begins least heard
    where
      own : ℕ
      own = slot_of t.id (4 * length path)

      first_slot : (n : ℕ) → nat_eq n 0 ≡ true → 0 ≡ n
      first_slot n h = grind arith

      by_last : (n : ℕ) → nat_eq n 0 ≡ false → n < 16 → ((c : ℕ) → n ≡ c + 1 → t.round ≡ Some (record { slot = own; current = c })) → InSlot t own n (t5_turn t (command_frame NextSlot))
      by_last zero e few k = absurd cc
      by_last (suc n) e few k =
          let one : n + 1 ≡ suc n = omega arith in
          subst (λ z. InSlot t own z (t5_turn t (command_frame NextSlot))) one (next_turn t own n (omega (arith, few)) (k n (sym one)))

      by_slot : (v : Bool) → nat_eq slot 0 ≡ v → InSlot t own slot (t5_turn t (due_frame path v))
      by_slot true e = subst (λ z. InSlot t own z (t5_turn t (slots_frame (mask_by path)))) (first_slot slot e) (slots_turn t path loud (asked_by t.id long small path is begins))
      by_slot false e = by_last slot e less at
