-- What a card delivers are the commands of the blocks that it heard, each once and in order, unless a chain grew too long.
use Rattle.std.proofs.Common.{◌≡◌, ℕ, ◌==◌, nat_lt, List, [], ◌∷◌, ◌++◌, length, Bool, true, false, Option, Some, None, if◌then◌else◌, refl, sym, ◌∙◌, ap}
use Rattle.isodep_link.specs.declared.block.Block.{Block}
use Rattle.isodep_link.specs.declared.block.Block.TheVariants.{Info, Ack, Nak, Deselect, Extend}
use Rattle.isodep_link.specs.Sizes.{limit}
use Rattle.isodep_link.specs.Card.{CardState, CardMove, Does, Stays, Answers, Delivers, Sleeps, stays, again, grown, block_table}
use Rattle.isodep_link.specs.Commands.{Cut, taken, joined, cut_by, Obeying, heard_by, settled, with_delivered, moved, obeying, DeliversCommands}

-- the cut at which a card stands that delivered these commands
abbrev cut_of : CardState → List (List ℕ) → Cut
cut_of t hs = record { chain = t.chain; commands = hs }

-- A move keeps to the cut c, unless it makes the card mute.
abbrev Follows : Cut → List (List ℕ) → CardMove → Type 0
Follows c hs m = m.state.mute ≡ false → c ≡ cut_of m.state (with_delivered hs m.does)

gathered_follows : (t : CardState) (hs : List (List ℕ)) (more : Bool) (ys : List ℕ) (long : Bool)
    → Follows (joined (cut_of t hs) more ys) hs (if long then stays (record t { begun = true; mute = true }) else grown t more ys)
gathered_follows t hs more ys true = λ e. cc
gathered_follows t hs true ys false = λ e. refl
gathered_follows t hs false ys false = λ e. refl

again_follows : (t : CardState) (hs : List (List ℕ)) (o : Option Block) → Follows (cut_of t hs) hs (again t o)
again_follows t hs None = λ e. refl
again_follows t hs (Some b) = λ e. refl

if_follows : (c : Cut) (hs : List (List ℕ)) (v : Bool) (m n : CardMove) → Follows c hs m → Follows c hs n → Follows c hs (if v then m else n)
if_follows c hs true m n p q = p
if_follows c hs false m n p q = q

follows : (t : CardState) (hs : List (List ℕ)) (b : Block) → Follows (taken (cut_of t hs) b) hs (block_table t b)
follows t hs (Info more n c) = gathered_follows t hs more (t.chain ++ c.items) (nat_lt limit (length (t.chain ++ c.items)))
follows t hs (Ack n) =
    if_follows _ hs (n == t.number) _ _ (again_follows t hs t.last) (if_follows _ hs (if nat_lt 0 t.due then false else t.unsent) _ _ (λ e. refl) (λ e. refl))
follows t hs (Nak n) = if_follows _ hs (n == t.number) _ _ (again_follows t hs t.last) (λ e. refl)
follows t hs Deselect = λ e. refl
follows t hs (Extend times) =
    if_follows _ hs (if nat_lt 0 t.due then times == t.times else false) _ _ (if_follows _ hs (nat_lt 1 t.due) _ _ (λ e. refl) (λ e. refl)) (λ e. refl)

-- the owner's answer changes neither the chain nor whether the card is mute
by_either : {X : Type 0} (P : X → Type 0) (v : Bool) (x y : X) → P x → P y → P (if v then x else y)
by_either P true x y p q = p
by_either P false x y p q = q

settled_mute : (far : List ℕ → List ℕ) (t : CardState) (d : Does) → (settled far t d).mute ≡ t.mute
settled_mute far t Stays = refl
settled_mute far t (Answers b) = refl
settled_mute far t (Delivers xs) = by_either (λ (u : CardState). u.mute ≡ t.mute) (nat_lt 0 t.busy) _ _ refl refl
settled_mute far t (Sleeps b) = refl

settled_cut : (far : List ℕ → List ℕ) (t : CardState) (d : Does) (hs : List (List ℕ)) → cut_of (settled far t d) hs ≡ cut_of t hs
settled_cut far t Stays hs = refl
settled_cut far t (Answers b) hs = refl
settled_cut far t (Delivers xs) hs = by_either (λ (u : CardState). cut_of u hs ≡ cut_of t hs) (nat_lt 0 t.busy) _ _ refl refl
settled_cut far t (Sleeps b) hs = refl

-- a mute card stays mute
stays_mute : (v : Bool) (t : CardState) (b : Block) → t.mute ≡ v → (heard_by v t b).state.mute ≡ false → t.mute ≡ false
stays_mute true t b e h = h
stays_mute false t b e h = e

heeds_then : (far : List ℕ → List ℕ) (o : Obeying) (bs : List Block) → (obeying far o bs).state.mute ≡ false → o.state.mute ≡ false
heeds_then far o [] h = h
heeds_then far o (b ∷ bs) h =
    let m : CardMove = heard_by o.state.mute o.state b in
    stays_mute o.state.mute o.state b refl (sym (settled_mute far m.state m.does) ∙ heeds_then far (moved far o m) bs h)

heard_follows : (v : Bool) (t : CardState) (hs : List (List ℕ)) (b : Block) → v ≡ false → Follows (taken (cut_of t hs) b) hs (heard_by v t b)
heard_follows true t hs b e = λ h. cc
heard_follows false t hs b e = follows t hs b

obeys : (far : List ℕ → List ℕ) (o : Obeying) (bs : List Block) → (obeying far o bs).state.mute ≡ false
    → (obeying far o bs).delivered ≡ (cut_by (cut_of o.state o.delivered) bs).commands
obeys far o [] h = refl
obeys far o (b ∷ bs) h =
    let m : CardMove = heard_by o.state.mute o.state b in
    let later : (settled far m.state m.does).mute ≡ false = heeds_then far (moved far o m) bs h in
    let now : m.state.mute ≡ false = sym (settled_mute far m.state m.does) ∙ later in
    let cut : taken (cut_of o.state o.delivered) b ≡ cut_of m.state (with_delivered o.delivered m.does) =
    heard_follows o.state.mute o.state o.delivered b (heeds_then far o (b ∷ bs) h) now in
    obeys far (moved far o m) bs h ∙ ap (λ c. (cut_by c bs).commands) (settled_cut far m.state m.does (with_delivered o.delivered m.does) ∙ sym cut)

-- A card that heard nothing since the dark delivers the commands of the blocks that it hears, whatever its owner answers.
pub obeys_commands : DeliversCommands
obeys_commands far t bs made h =
    obeys far (record { state = t; delivered = [] }) bs h ∙ ap (λ (u : CardState). (cut_by (cut_of u []) bs).commands) made
