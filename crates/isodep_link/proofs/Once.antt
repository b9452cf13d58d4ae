-- A card delivers only at an I-block, by which its number toggles: nothing that asks for a block again delivers.
use Rattle.std.proofs.Common.{drop, ◌-◌, ◌≡◌, ℕ, ◌==◌, nat_lt, List, ◌++◌, length, Bool, true, false, Option, Some, None, if◌then◌else◌, refl, sym, ◌∙◌, ap}
use Rattle.isodep_link.specs.declared.block.Block.{Block}
use Rattle.isodep_link.specs.declared.block.Block.TheVariants.{Info, Ack, Nak, Deselect, Extend}
use Rattle.isodep_link.specs.Blocks.{piece, toggled, spelled_block}
use Rattle.isodep_link.specs.Sizes.{limit, piece_size, rats_code, ats_frame}
use Rattle.isodep_link.specs.declared.card.CardStep.TheVariants as steps
use Rattle.isodep_link.specs.Card.{CardState, CardMove, CardTurn, Does, Stays, Answers, Delivers, Sleeps, stays, again, grown, drawn, block_table, framed, framed_does, obeyed, activated, heeded}
use Rattle.isodep_link.specs.Card.{card_table, DeliversAnew}

-- a move that delivers has toggled the number
abbrev MovesAnew : CardState → CardMove → Type 0
MovesAnew t m = (xs : List ℕ) → m.does ≡ Delivers xs → m.state.number ≡ toggled t.number

gathered_once : (t : CardState) (more : Bool) (ys : List ℕ) (long : Bool) → MovesAnew t (if long then stays (record t { begun = true; mute = true }) else grown t more ys)
gathered_once t more ys true = λ xs e. cc
gathered_once t true ys false = λ xs e. cc
gathered_once t false ys false = λ xs e. refl

again_never : (t : CardState) (o : Option Block) → MovesAnew t (again t o)
again_never t None = λ xs e. cc
again_never t (Some b) = λ xs e. cc

drawn_by : (t : CardState) (more : Bool) (m : CardMove) → MovesAnew t m → MovesAnew t (if more then m else stays t)
drawn_by t true m h = h
drawn_by t false m h = λ xs e. cc

ack_never : (t : CardState) (same : Bool) → MovesAnew t (if same then again t t.last else drawn t)
ack_never t true = again_never t t.last
ack_never t false = drawn_by t (if nat_lt 0 t.due then false else t.unsent) _ (λ xs e. cc)

nak_never : (t : CardState) (same : Bool) → MovesAnew t (if same then again t t.last else record { state = t; does = Answers (Ack t.number) })
nak_never t true = again_never t t.last
nak_never t false = λ xs e. cc

block_anew : (t : CardState) (b : Block) (xs : List ℕ) → (block_table t b).does ≡ Delivers xs → (block_table t b).state.number ≡ toggled t.number
block_anew t (Info more n c) = gathered_once t more (t.chain ++ c.items) (nat_lt limit (length (t.chain ++ c.items)))
block_anew t (Ack n) = ack_never t (n == t.number)
block_anew t (Nak n) = nak_never t (n == t.number)
block_anew t Deselect = λ xs e. cc
block_anew t (Extend times) = drawn_by t (if nat_lt 0 t.due then times == t.times else false) _ (granted_never (nat_lt 1 t.due))
  where
    granted_never : (v : Bool) → MovesAnew t (if v then record { state = record t { due = t.due - 1 }; does = Answers (Extend t.times) }
        else record {
          state = record t { due = 0; last = Some (piece t.most t.number t.left); left = drop t.most t.left; unsent = nat_lt t.most (length t.left) };
          does = Answers (piece t.most t.number t.left);
        })
    granted_never true = λ xs e. cc
    granted_never false = λ xs e. cc

-- at a frame as at its block
framed_anew : (t : CardState) (m : CardMove) → MovesAnew t m → (xs : List ℕ) → (framed m).does ≡ steps.Deliver (record { items = xs }) → (framed m).state.number ≡ toggled t.number
framed_anew t m h xs e = by_does m.does refl e
  where
    by_does : (d : Does) → m.does ≡ d → framed_does d ≡ steps.Deliver (record { items = xs }) → m.state.number ≡ toggled t.number
    by_does Stays q f = absurd cc
    by_does (Answers b) q f = absurd cc
    by_does (Delivers ys) q f = h ys q
    by_does (Sleeps b) q f = absurd cc

stays_anew : (t : CardState) → MovesAnew t (stays t)
stays_anew t = λ xs e. cc

obeyed_anew : (t : CardState) (b : Option Block) (xs : List ℕ) → (obeyed t b).does ≡ steps.Deliver (record { items = xs }) → (obeyed t b).state.number ≡ toggled t.number
obeyed_anew t None xs e = framed_anew t (stays t) (stays_anew t) xs e
obeyed_anew t (Some b) xs e = framed_anew t (block_table t b) (block_anew t b) xs e

activated_anew : (t : CardState) (code : ℕ) (begun : Bool) (xs : List ℕ) (m : CardTurn) → m
    ≡ (if begun then framed (stays t) else record { state = record t { most = piece_size code }; does = steps.Reply (ats_frame t.code) })
    → m.does ≡ steps.Deliver (record { items = xs }) → m.state.number ≡ toggled t.number
activated_anew t code true xs m q e = absurd cc
activated_anew t code false xs m q e = absurd cc

heeded_anew : (t : CardState) (code : Option ℕ) (b : Option Block) (xs : List ℕ) → (heeded t code b).does ≡ steps.Deliver (record { items = xs }) → (heeded t code b).state.number ≡ toggled t.number
heeded_anew t (Some code) b xs e = activated_anew t code t.begun xs (activated t code) refl e
heeded_anew t None b xs e = obeyed_anew t b xs e

-- No command is delivered twice without a new number between.
pub delivers_anew : DeliversAnew
delivers_anew t f xs e = by_mute t.mute (card_table t f) refl e
  where
    by_mute : (v : Bool) (m : CardTurn) → m ≡ (if v then framed (stays t) else heeded t (rats_code f) (spelled_block f)) → m.does ≡ steps.Deliver (record { items = xs })
        → m.state.number ≡ toggled t.number
    by_mute true m q d = absurd cc
    by_mute false m q d =
        ap (λ (z : CardTurn). z.state.number) q ∙ heeded_anew t (rats_code f) (spelled_block f) xs (ap (λ (z : CardTurn). z.does) (sym q) ∙ d)
