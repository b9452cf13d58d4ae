-- Commands on a link, one after another, whatever the tag does.
use Rattle.std.specs.Prelude.{◌≡◌, ℕ, ◌⊎◌, List, [], ◌∷◌, ◌++◌, false, Option, Some, None, Result, Ok, Err}
use Rattle.std.specs.List.{AllByRecursion}
use Rattle.nfc_base.specs.Signal.{Signal}
use Rattle.nfc_base.specs.TagLinks.{LinkView, TagState, TagStep, Type3, Leads, Rises, AskCause, after_all, passed}
use Rattle.nfc_base.specs.declared.tag_link.AskFault.{AskFault}
use Rattle.nfc_base.specs.declared.tag_link.AskFault.TheVariants.{Memory}

-- The stores that a tag passed while it was asked these commands: some that the first leaves, then some that the second
-- leaves, and so on.
abbrev pub Spread : (TagState → Signal → TagStep) → TagState → List Signal → List (List ℕ) → Type 0
Spread step s [] stores = stores ≡ []
Spread step s (c ∷ cs) stores = (xs : List (List ℕ)) × (ys : List (List ℕ)) × (stores ≡ xs ++ ys)
    × AllByRecursion (λ t. t ≡ (step s c).after.store) xs × Spread step (step s c).after cs ys

-- Between two views these commands were asked.
pub record Calls (a b : LinkView) (cs : List Signal) : Type 0 where
  pub more : List Signal
  pub leads : Leads a b more
  pub spread : Spread a.step a.state cs (passed a.step a.state more)
  pub rises : Rises a b

-- The link goes on: it isn't over, the field is lit, and no count of what may end it rose.
pub record GoesOn (a b : LinkView) : Type 0 where
  pub over : b.over ≡ None
  pub lit : b.dark ≡ false
  pub counts : b.counts ≡ a.counts

-- the last of some commands, or the one before
abbrev pub last_of : Option Signal → List Signal → Option Signal
last_of before [] = before
last_of before (c ∷ cs) = last_of (Some c) cs

-- Each of them was answered.
pub record Answered (a b : LinkView) (cs : List Signal) : Type 0 where
  pub calls : Calls a b cs
  pub answered : b.answered ≡ a.answered ++ cs
  pub last : b.last ≡ last_of a.last cs
  pub state : b.state ≡ after_all a.step a.state cs
  pub over : b.over ≡ a.over
  pub link : (b ≡ a) ⊎ GoesOn a b

-- what the tag answers to a command behind others
abbrev pub Says : LinkView → List Signal → Signal → Signal → Type 0
Says a cs c r = (a.step (after_all a.step a.state cs) c).answer ≡ Some r

-- The link is over by this fault, which it was before, or whose cause is known of the calls in between.
abbrev pub ByLink : LinkView → LinkView → AskFault → Type 0
ByLink a b e = (b.over ≡ Some e) × ((a.over ≡ Some e) ⊎ AskCause a b e)

-- The link was lit and not over, and since then all transmissions passed or no count of what may end a link rose.
pub record IsCalm (a b : LinkView) : Type 0 where
  pub begun : a.over ≡ None
  pub lit : a.dark ≡ false
  pub calm : (b.noise ≡ a.noise) ⊎ (b.counts ≡ a.counts)

-- The commands were answered, and the one behind them wasn't: the link is over.
pub record Fails (a b : LinkView) (cs : List Signal) (c : Signal) (e : AskFault) : Type 0 where
  pub calls : Calls a b (cs ++ c ∷ [])
  pub answered : b.answered ≡ a.answered ++ cs
  pub last : ((b.last ≡ last_of a.last cs) × (b.over ≡ a.over)) ⊎ (b.last ≡ Some c)
  pub by : ByLink a b e
  pub calm : IsCalm a b → (r : Signal) → Says a cs c r → e ≡ Memory

-- what a call tells of one command more
abbrev pub AskedNext : LinkView → LinkView → List Signal → Signal → Result Signal AskFault → Type 0
AskedNext a b cs c (Ok r) = Answered a b (cs ++ c ∷ []) × Says a cs c r
AskedNext a b cs c (Err e) = Fails a b cs c e

-- a link to a Type 3 tag of this identifier
pub record IsOf (id : List ℕ) (v : LinkView) : Type 0 where
  pub kind : v.kind ≡ Type3
  pub named : v.identifier ≡ id
