-- While commands are asked, reader and card cut what they send into pieces of the same size as before.
use Rattle.std.proofs.Common.{drop, ◌≡◌, ℕ, ◌==◌, nat_lt, List, [], ◌∷◌, ◌++◌, length, Bool, true, false, if◌then◌else◌, Option, Some, None, refl, ◌∙◌, ap, subst}
use Rattle.std.specs.List.{AllByRecursion}
use Rattle.nfc_base.specs.Signal.{Signal}
use Rattle.nfc_base.specs.StopAndWait.{Does, Quiet, Reply, Deliver}
use Rattle.nfc_base.specs.LinkTurns.{settled, step}
use Rattle.nfc_base.specs.TagLinks.{TagState}
use Rattle.air_core.specs.Conversation.{Note, Lit, Got, Lost}
use Rattle.air_core.specs.PlainTags.{reached}
use Rattle.air_core.specs.declared.listener.Listener.{Ghosts}
use Rattle.air_core.proofs.PlainAside.{Laws}
use Rattle.isodep_link.specs.declared.block.Block.{Block}
use Rattle.isodep_link.specs.declared.block.Block.TheVariants.{Info, Ack, Nak, Deselect, Extend}
use Rattle.isodep_link.specs.declared.reader.ReaderStep.{ReaderStep}
use Rattle.isodep_link.specs.declared.reader.ReaderStep.TheVariants as steps
use Rattle.isodep_link.specs.Blocks.{piece, IsBlock, spelled_block}
use Rattle.isodep_link.specs.Sizes.{limit, rats_code}
use Rattle.isodep_link.specs.Card as cards
use Rattle.isodep_link.specs.Card.{CardState, CardMove, card_table, block_table, grown, again, heeded, stays}
use Rattle.isodep_link.specs.Reader.{ReaderState, reader_table}
use Rattle.isodep_link.specs.Exchange.{iso_dep, backs_of}
use Rattle.isodep_link.specs.CardTags.{IsAskedBlock, IsAskedFrame, IsCardTag}
use Rattle.isodep_link.specs.Asking.{IsoStanding, Waits, Rests, Broken, Astray, asks, goes_by, noted, stand}
use Rattle.isodep_link.proofs.Wire.{card_heeds}
use Rattle.isodep_link.proofs.CardTurns.{Holds}
use Rattle.isodep_link.proofs.Moves.{reader_cuts}
use Rattle.isodep_link.proofs.AskingLaw.{stays_card_tag}

-- where a reader stands that cuts to this size
abbrev CutsTo : ℕ → IsoStanding → Type 0
CutsTo n (Waits i f cs) = i.core.most ≡ n
CutsTo n (Rests i) = i.core.most ≡ n
CutsTo n (Broken e) = Unit {0}
CutsTo n Astray = Unit {0}

-- a reader goes on cutting to it, whatever is noted
asks_cuts : (n : ℕ) (i : ReaderState) (cs : List (List ℕ)) → i.core.most ≡ n → CutsTo n (asks i cs)
asks_cuts n i [] e = e
asks_cuts n i (c ∷ cs) e = e

goes_cuts : (n : ℕ) (i : ReaderState) (d : ReaderStep) (cs : List (List ℕ)) → i.core.most ≡ n → CutsTo n (goes_by i d cs)
goes_cuts n i (steps.Send f) cs e = e
goes_cuts n i (steps.Finished answer) cs e = asks_cuts n i cs e
goes_cuts n i steps.SixBad cs e = tt
goes_cuts n i steps.Protocol cs e = tt

noted_cuts : (n : ℕ) (s : IsoStanding) (x : Note) → CutsTo n s → CutsTo n (noted s x)
noted_cuts n (Waits i f cs) Lit e = tt
noted_cuts n (Waits i f cs) Lost e = tt
noted_cuts n (Waits i f cs) (Got h) e = goes_cuts n (reader_table i h).state (reader_table i h).does cs (reader_cuts i h ∙ e)
noted_cuts n (Rests i) x e = tt
noted_cuts n (Broken f) x e = tt
noted_cuts n Astray x e = tt

stand_cuts : (n : ℕ) (s : IsoStanding) (ns : List Note) → CutsTo n s → CutsTo n (stand s ns)
stand_cuts n s [] e = e
stand_cuts n s (x ∷ ns) e = stand_cuts n (noted s x) ns (noted_cuts n s x e)

-- a reader whose commands were all answered cuts to the same size as before
pub rests_cut : (i j : ReaderState) (cs : List (List ℕ)) (ns : List Note) → stand (asks i cs) ns ≡ Rests j → j.core.most ≡ i.core.most
rests_cut i j cs ns e = let P : IsoStanding → Type 0 = CutsTo i.core.most in subst P e (stand_cuts i.core.most (asks i cs) ns (asks_cuts i.core.most i cs refl))

-- a card's move after which it cuts to the same size
abbrev CardKeeps : CardState → CardMove → Type 0
CardKeeps t m = backs_of m.state ≡ backs_of t

-- each of the card's moves is one
card_keeps_if : (t : CardState) (v : Bool) (m n : CardMove) → CardKeeps t m → CardKeeps t n → CardKeeps t (if v then m else n)
card_keeps_if t true m n p q = p
card_keeps_if t false m n p q = q

keeps_grown : (t : CardState) (more : Bool) (xs : List ℕ) → CardKeeps t (grown t more xs)
keeps_grown t true xs = refl
keeps_grown t false xs = refl

keeps_again : (t : CardState) (o : Option Block) → CardKeeps t (again t o)
keeps_again t None = refl
keeps_again t (Some b) = refl

card_keeps : (t : CardState) (b : Block) → CardKeeps t (block_table t b)
card_keeps t (Info more n c) = card_keeps_if t (nat_lt limit (length (t.chain ++ c.items))) _ _ refl (keeps_grown t more (t.chain ++ c.items))
card_keeps t (Ack n) = card_keeps_if t (n == t.number) _ _ (keeps_again t t.last) (card_keeps_if t (if nat_lt 0 t.due then false else t.unsent) _ _ refl refl)
card_keeps t (Nak n) = card_keeps_if t (n == t.number) _ _ (keeps_again t t.last) refl
card_keeps t Deselect = refl
card_keeps t (Extend times) = card_keeps_if t (if nat_lt 0 t.due then times == t.times else false) _ _ (card_keeps_if t (nat_lt 1 t.due) _ _ refl refl) refl

-- a block that a reader sends is in range
in_range : (b : Block) → IsAskedBlock b → IsBlock b
in_range (Info more n c) a = a
in_range (Ack n) a = a
in_range (Nak n) a = a
in_range Deselect a = absurd a
in_range (Extend times) a = a

-- at a frame that a reader sends the card cuts to the same size, also once its owner answered
table_keeps : (t : CardState) (f : Signal) → IsAskedFrame f → (v : Bool) → t.mute ≡ v → backs_of (card_table t f).state ≡ backs_of t
table_keeps t f a true e = ap (λ v. backs_of (if v then cards.framed (stays t) else heeded t (rats_code f) (spelled_block f)).state) e
table_keeps t f a false e =
    ap (λ (z : Signal). backs_of (card_table t z).state) a.frame ∙ ap (λ m. backs_of m.state) (card_heeds t a.block e (in_range a.block a.asked)) ∙ card_keeps t a.block

settled_keeps : (r : List ℕ) (t : CardState) (d : Does Signal) → backs_of (settled iso_dep r t d).state ≡ backs_of t
settled_keeps r t Quiet = refl
settled_keeps r t (Reply a) = refl
settled_keeps r t (Deliver p) = go (nat_lt 0 t.busy)
  where
    go : (v : Bool) → backs_of (if v then record t { last = Some (Extend t.times); left = r; unsent = true; due = t.busy }
        else record t { last = Some (piece t.most t.number r); left = drop t.most r; unsent = nat_lt t.most (length r); due = 0 }) ≡ backs_of t
    go true = refl
    go false = refl

step_keeps : (r : List ℕ) (t : CardState) (f : Signal) → IsAskedFrame f → backs_of (step iso_dep r t f).state ≡ backs_of t
step_keeps r t f a = settled_keeps r (iso_dep.heard t f) (iso_dep.does t f) ∙ table_keeps t f a t.mute refl

-- a tag that heard blocks cuts to the same size as before
pub reached_cuts : {L : Type 0} (k : Ghosts L) (laws : Laws k) (card : L → CardState) (tag : L → TagState) (holds : Holds k tag) (l : L) (fs : List Signal) → AllByRecursion IsAskedFrame fs
    → IsCardTag k card tag l
    → backs_of (card (reached k l fs)) ≡ backs_of (card l)
reached_cuts k laws card tag holds l [] a c = refl
reached_cuts k laws card tag holds l (f ∷ fs) a c =
    let s = c.steps [] tt f a.0 in
    let here : backs_of (card (k.machine.after l f None)) ≡ backs_of (card l) = ap backs_of s.card_is ∙ step_keeps s.reply (card l) f a.0 in
    reached_cuts k laws card tag holds (k.machine.after l f None) fs a.1 (stays_card_tag k laws card tag holds l (f ∷ []) (a.0, tt) c) ∙ here
