-- How initiator and target stand to each other in an exchange, and how many transmissions are left then.
use Rattle.std.proofs.Common.{◌≡◌, ℕ, ◌+◌, ◌*◌, ◌<◌, ◌≤◌, ◌==◌, ◌⊎◌, true, false, List, Option, Some, None, arith}
use Rattle.std.proofs.lemmas.Bool.Decides.{nat_tests}
use Rattle.nfc_base.specs.Signal.{Signal}
use Rattle.nfc_base.specs.Pieces.{Core, most_bads, pieces}
use Rattle.nfc_base.proofs.Chains.{Ends, Asking, Drawing, Answered, Extending, Held}
use Rattle.dep_pdu.specs.declared.frame.DepFrame.{DepFrame}
use Rattle.dep_pdu.specs.declared.frame.DepFrame.TheVariants.{Ack, Nack, Attention, Extend}
use Rattle.dep_link.specs.declared.initiator.Phase.TheVariants.{Asked, Nacked, Attending}
use Rattle.dep_link.specs.Sizes.{limit}
use Rattle.dep_link.specs.Frames.{air_frame, after, before, piece}
use Rattle.dep_link.specs.Target.{TargetState}
use Rattle.dep_link.specs.Initiator.{InitState, request}

pub not_after : (p : ℕ) → (p == after p) ≡ false
not_after p = grind (arith, nat_tests)

pub before_after : (p : ℕ) → p < 4 → before (after p) ≡ p
before_after p h = omega arith

pub after_small : (p : ℕ) → after p < 4
after_small p = omega arith

-- the ends of NFC-DEP
abbrev pub dep_ends : Ends TargetState DepFrame
dep_ends = record {
  modulus = 4;
  after = after;
  small = after_small;
  content = 251;
  limit = limit;
  see = λ t. record { mute = t.mute; most = t.most; busy = t.busy; times = t.times; due = t.due; chain = t.chain; left = t.left; unsent = t.unsent; last = t.last };
  expects = λ t n. t.expected ≡ n;
  has = λ t n. t.expected ≡ after n;
  goes_on = λ t n l e. e;
  answers = λ c t. (c.extension ≡ None) ⊎ ((c.extension ≡ Some t.times) × (t.followed ≡ true));
  extends = λ c t. (c.extension ≡ None) ⊎ (c.extension ≡ Some t.times);
  ack = λ n. Ack true n;
  piece = λ most n xs. piece true most n xs;
  extend = λ times. Extend true times;
}

-- the payload out, the most content m of the target's frames, and how often the target asks for more time
module _ (m k : ℕ) (out : List ℕ) where
  -- How both stand where the request is sent, or would be sent again. An extension that is granted may have been heard
  -- before, or not.
  pub data Stands (c : Core) (bads : ℕ) (t : TargetState) (given : Option (List ℕ)) (n : ℕ) : Type 0 where
    asking : bads ≤ most_bads → Asking dep_ends m k out c t given → 2 * pieces c.most c.rest ≤ n → Stands c bads t given n
    drawing : Drawing dep_ends m k out c t given → 2 * pieces t.most t.left ≤ n → Stands c bads t given n
    granting : bads ≤ most_bads → c.extension ≡ Some t.times → Extending dep_ends m k out c t given (bads + 1) → 2 * (t.due + pieces t.most t.left) ≤ n + 2
        → Stands c bads t given n
    held : c.extension ≡ None → Held dep_ends m k out c t given n bads → Stands c bads t given n
    granted : (bytes : List ℕ) → c.extension ≡ Some t.times → t.followed ≡ true → Answered dep_ends m k out c t given bytes → 2 * pieces t.most bytes ≤ n
        → Stands c bads t given n

  -- the initiator sends f next
  pub data Ask (i : InitState) (t : TargetState) (given : Option (List ℕ)) (f : Signal) (n : ℕ) : Type 0 where
    asks : i.phase ≡ Asked → f ≡ air_frame (request i.core) → Stands i.core i.bads t given n → Ask i t given f n
    nacks : i.phase ≡ Nacked → f ≡ air_frame (Nack i.core.number) → Held dep_ends m k out i.core t given n i.bads → Ask i t given f n
    attends : i.phase ≡ Attending → f ≡ air_frame (Attention false) → (q : ℕ) → Stands i.core i.bads t given q → q + 2 ≤ n → Ask i t given f n

  -- a request or a NACK was sent
  abbrev pub HasAsked : InitState → Type 0
  HasAsked i = (i.phase ≡ Asked) ⊎ (i.phase ≡ Nacked)

  -- the target sends a next: what it has, or attention
  pub data Wait (i : InitState) (t : TargetState) (given : Option (List ℕ)) (a : Signal) (n : ℕ) : Type 0 where
    has : HasAsked i → (v : DepFrame) → a ≡ air_frame v → t.last ≡ Some v → Held dep_ends m k out i.core t given n i.bads → Wait i t given a n
    stays_up : i.phase ≡ Attending → a ≡ air_frame (Attention true) → (q : ℕ) → Stands i.core i.bads t given q → q + 2 ≤ n → Wait i t given a n
