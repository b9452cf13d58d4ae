-- What contracts see of a tag that light selects, in a field that may be dark (NFC Forum Type 3 Tag and Type 5 Tag).
use Rattle.std.specs.Prelude.{◌≡◌, ℕ, List, Bool, true, false, if◌then◌else◌, Option, Some, None}
use Rattle.nfc_base.specs.declared.frame.Tech.{Tech}
use Rattle.nfc_base.specs.declared.frame.Tech.TheVariants.{A, V, F}
use Rattle.nfc_base.specs.Signal.{Signal}
use Rattle.nfc_base.specs.TagLinks.{TagState, TagStep, IsAddressedIn}
use Rattle.t3t_tag.specs.Linked.{t3_step}
use Rattle.t3t_tag.specs.Step.{t3_answer, t3_after}
use Rattle.t3t_tag.specs.Store as t3
use Rattle.t3t_tag.specs.Store.{T3State}
use Rattle.t5t_tag.specs.Step.{t5_answer, t5_after}
use Rattle.t5t_tag.specs.Store as t5
use Rattle.t5t_tag.specs.Store.{T5State}
use Rattle.tag_reader.specs.Kinds.{t5_step}

-- the tag, and whether it has power
pub record Powered (T : Type 0) : Type 0 where
  pub tag : T
  pub lit : Bool

-- What tags of one type are and do: what each holds, which of its blocks are locked, its step on commands, what it
-- answers in the light and what it is then, and what the dark and a lock leave of it.
pub record LightMachine (T : Type 0) : Type 0 where
  pub tech : Tech
  pub identifier : T → List ℕ
  pub store : T → List ℕ
  pub locks : T → List Bool
  pub blocks : T → ℕ
  pub commands : T → TagState → Signal → TagStep
  pub answer : T → Signal → Option Signal
  pub after : T → Signal → T
  pub darkened : T → T
  pub locked : ℕ → T → T

-- A Type 3 tag loses nothing in the dark. That a Type 5 tag was told to stay quiet makes no difference to commands that
-- name it.
abbrev pub light_three : LightMachine T3State
light_three = record {
  tech = F;
  identifier = λ t. t.id;
  store = λ t. t.store;
  locks = λ t. t.locked;
  blocks = λ t. t3.block_count t.store;
  commands = λ t. t3_step t.id t.locked;
  answer = t3_answer;
  after = t3_after;
  darkened = λ t. t;
  locked = λ block t. t3.locked_too t block;
}

abbrev pub light_five : LightMachine T5State
light_five = record {
  tech = V;
  identifier = λ t. t.id;
  store = λ t. t.store;
  locks = λ t. t.locked;
  blocks = λ t. t5.block_count t;
  commands = λ t. t5_step t.id t.size t.locked false;
  answer = t5_answer;
  after = t5_after;
  darkened = t5.darkened;
  locked = λ block t. t5.locked_too t block;
}

-- what a tag does in the field: in the dark it hears nothing
module _ {T : Type 0} (m : LightMachine T) where
  abbrev pub powered_answer : Powered T → Signal → Option Signal
  powered_answer p f = if p.lit then m.answer p.tag f else None

  abbrev pub powered_after : Powered T → Signal → Powered T
  powered_after p f = if p.lit then record { tag = m.after p.tag f; lit = true } else p

  abbrev pub powered_darkened : Powered T → Powered T
  powered_darkened p = record { tag = m.darkened p.tag; lit = false }

  abbrev pub powered_locked : ℕ → Powered T → Powered T
  powered_locked block p = record { tag = m.locked block p.tag; lit = p.lit }

abbrev pub powered_woken : {T : Type 0} → Powered T → Powered T
powered_woken p = record { tag = p.tag; lit = true }

-- What is known of each such machine, whatever it holds and hears: its technology isn't NFC-A, and it answers in it;
-- what names it and its step on commands stay, in the dark too, where its store does; and it is silent to what is
-- addressed to another identifier.
pub record IsLightMachine {T : Type 0} (m : LightMachine T) : Type 0 where
  pub other_tech : m.tech ≡ A → ⊥
  pub own_tech : (t : T) (f g : Signal) → m.answer t f ≡ Some g → g.tech ≡ m.tech
  pub named : (t : T) (f : Signal) → m.identifier (m.after t f) ≡ m.identifier t
  pub commanded : (t : T) (f : Signal) → m.commands (m.after t f) ≡ m.commands t
  pub dark_named : (t : T) → m.identifier (m.darkened t) ≡ m.identifier t
  pub dark_commanded : (t : T) → m.commands (m.darkened t) ≡ m.commands t
  pub dark_store : (t : T) → m.store (m.darkened t) ≡ m.store t
  pub ignores : (t : T) (other : List ℕ) (f : Signal) → IsAddressedIn m.tech other f → (other ≡ m.identifier t → ⊥)
      → m.answer t f ≡ None
