-- What a reading does to a link: what it asked, that the store stays, and why it may end.
use Rattle.std.specs.Prelude.{◌≡◌, ℕ, zero, suc, ◌⊎◌, List, ◌++◌, Option, Some, None, false}
use Rattle.std.specs.List.{AllByRecursion}
use Rattle.nfc_base.specs.Signal.{Signal}
use Rattle.nfc_base.specs.TagLinks.{LinkView, Leads, after_all, passed, Rises, AskCause}
use Rattle.nfc_base.specs.declared.tag_link.AskFault.{AskFault}
use Rattle.tag_reader.specs.declared.how.How.{How}
use Rattle.tag_reader.specs.Kinds.{command, first}
use Rattle.tag_reader.specs.Asked.{Aim, ToRead, ToWrite, IsDueFor, AreDueFor, IsAskedFor}

-- Calls led from one view of a link to another, and each of the tag's stores in them is the one before.
pub record Stays (a b : LinkView) : Type 0 where
  pub more : List Signal
  pub leads : Leads a b more
  pub images : AllByRecursion (λ s. s ≡ a.state.store) (passed a.step a.state more)
  pub store : b.state.store ≡ a.state.store
  pub rises : Rises a b

-- The last command is the last of the n that were answered or, where none was, the one before.
abbrev pub last_of : How → ℕ → List ℕ → LinkView → ℕ → Option Signal
last_of how size store a zero = a.last
last_of how size store a (suc n) = Some (command how size store n)

-- The commands answered between two views are the first `count` of what is asked. The last one that was asked is the
-- last of them, and then the link is over only where it was before; or it is the next that is asked.
pub record HasAskedFor (aim : Aim) (how : How) (size : ℕ) (store : List ℕ) (a b : LinkView) : Type 0 where
  pub count : ℕ
  pub each : AreDueFor aim how size store count
  pub answered : b.answered ≡ a.answered ++ first how size store count
  pub last : ((b.last ≡ last_of how size store a count) × (b.over ≡ a.over))
      ⊎ ((b.last ≡ Some (command how size store count)) × IsDueFor aim how size store count)

-- All that is asked was answered between two views, and the tag is what these commands leave.
pub record HasAskedAllFor (aim : Aim) (how : How) (size : ℕ) (store : List ℕ) (a b : LinkView) : Type 0 where
  pub commands : List Signal
  pub all : IsAskedFor aim how size store commands
  pub answered : b.answered ≡ a.answered ++ commands
  pub state : b.state ≡ after_all a.step a.state commands

-- of a reader
abbrev pub HasAsked : How → ℕ → List ℕ → LinkView → LinkView → Type 0
HasAsked how size store a b = HasAskedFor ToRead how size store a b

abbrev pub HasAskedAll : How → ℕ → List ℕ → LinkView → LinkView → Type 0
HasAskedAll how size store a b = HasAskedAllFor ToRead how size store a b

-- of a writer
abbrev pub HasSurveyed : How → ℕ → List ℕ → LinkView → LinkView → Type 0
HasSurveyed how size store a b = HasAskedFor ToWrite how size store a b

abbrev pub HasSurveyedAll : How → ℕ → List ℕ → LinkView → LinkView → Type 0
HasSurveyedAll how size store a b = HasAskedAllFor ToWrite how size store a b

-- The link goes on: it isn't over, the field is lit, and no count of what may end it rose.
pub record GoesOn (a b : LinkView) : Type 0 where
  pub over : b.over ≡ None
  pub lit : b.dark ≡ false
  pub counts : b.counts ≡ a.counts

-- The link is over by this fault, which it was before, or whose cause is known of the calls in between.
abbrev pub ByLink : LinkView → LinkView → AskFault → Type 0
ByLink a b e = (b.over ≡ Some e) × ((a.over ≡ Some e) ⊎ AskCause a b e)
