-- Payloads that are carried one after the other, walked along swap by swap.
use Rattle.std.proofs.Common.{◌≡◌, ◌⊎◌, ℕ, List, [], ◌∷◌, ◌++◌, Bool, true, false, Option, Some, None, refl, sym, ◌∙◌, ap, subst, append-nil, inl, inr}
use Rattle.nfc_base.specs.Links.{BySwaps, FarStep, Stepped, Stopped, FarMoved, AskedBy}
use Rattle.nfc_base.specs.declared.carrier.EndCause.{EndCause}
use Rattle.nfc_base.specs.declared.carrier.EndCause.TheVariants as cause
use Rattle.air_core.specs.Conversation.{Note, Next, Asks, IsDemand}
use Rattle.air_core.specs.Turn.{Air, moment}
use Rattle.air_core.specs.laws.Turning.{going_start}
use Rattle.air_core.specs.declared.listener.Listener.{Ghosts}
use Rattle.dep_link.specs.Target.{TargetState}
use Rattle.dep_link.specs.Initiator.{InitState}
use Rattle.dep_link.specs.Asking.{Standing, Waits, Rests, Broken, Astray, asks, noted, stand, due_at, dep_next}
use Rattle.dep_link.specs.DepLinks.{DepSeen, StandsAt, dep_swaps, dep_view}
use Rattle.nfc_base.specs.Choosing.{Choosing}
use Rattle.far_air.specs.FarEnds.{FarTable}
use Rattle.far_air.specs.FarWorld.{far_air}
use Rattle.far_air.specs.FarLaws.{IsFarTable, IsLinked, IsOfTable, seen_with}
use Rattle.far_air.specs.FarTurns.{FarGoing}
use Rattle.far_air.proofs.FarTurns.{far_goes_then}
use Rattle.peer_air.specs.SwapTurns.{Stands, SwapTurn, SwapFront, SwapsFar, StopsFar, did_with}
use Rattle.link_calls.specs.Walk.{Course, Giver, Underway, Through, Walk, Carries, BrokenBy, Strays, walk_at, walk_carried, walk_noted, walk_on, walk_stand, walk_due, walk_due_at}
use Rattle.link_calls.specs.WalkTurns.{WalkTurns, WalkFront, WalkCut}
use Rattle.link_calls.specs.private.Walking.{ToldSo, WalkRests, WalkFails, WalkUnread}

-- where something was heard that belongs to no exchange, it stays so
astray : (ns : List Note) → stand Astray ns ≡ Astray
astray [] = refl
astray (n ∷ ns) = astray ns

-- the reply that was given in a swap
given_is : (out reply : List ℕ) (given : Option (List ℕ)) → Stepped out reply ∷ [] ≡ did_with out given → given ≡ Some reply
given_is out reply None e = absurd cc
given_is out reply (Some r) e = (let z : reply ≡ r = cc in ap Some (sym z))

module _ {W E : Type 0} (g : Giver W E) where
  walk_append : (c : Walk W E) (xs ys : List Note) → walk_on g c (xs ++ ys) ≡ walk_on g (walk_on g c xs) ys
  walk_append c [] ys = refl
  walk_append c (x ∷ xs) ys = walk_append (walk_noted g c x) xs ys

  -- while one exchange goes on it stands by that
  carried_on : (w : W) (s : Standing) (ns : List Note) (q : Standing) → stand s ns ≡ q → (q ≡ Astray → ⊥) → walk_on g (walk_carried g w s) ns ≡ walk_carried g w q
  carried_on w s [] q e never = ap (walk_carried g w) e
  carried_on w (Waits i f) (n ∷ ns) q e never = carried_on w (noted (Waits i f) n) ns q e never
  carried_on w (Rests i reply) (n ∷ ns) q e never = absurd (never (sym e ∙ astray ns))
  carried_on w (Broken c) (n ∷ ns) q e never = absurd (never (sym e ∙ astray ns))
  carried_on w Astray (n ∷ ns) q e never = absurd (never (sym e ∙ astray ns))

  -- what the exchange of its payload asks, it asks
  asks_same : (w : W) (i : InitState) (ns : List Note) (d : Next) → dep_next i (g.gives w) ns ≡ d → IsDemand d → walk_due g (Underway w) i ns ≡ d
  asks_same w i ns d e demand = go (stand (asks i (g.gives w)) ns) refl e
    where
      go : (q : Standing) → stand (asks i (g.gives w)) ns ≡ q → due_at q ≡ d → walk_due g (Underway w) i ns ≡ d
      go (Waits j f) at due = ap walk_due_at (carried_on w (asks i (g.gives w)) ns (Waits j f) at (λ z. cc)) ∙ due
      go (Rests j reply) at due = absurd (subst IsDemand (sym due) demand)
      go (Broken c) at due = absurd (subst IsDemand (sym due) demand)
      go Astray at due = absurd (subst IsDemand (sym due) demand)

  pub never_strays : (to : Course W E) (i : InitState) → walk_at g to i ≡ Strays → ⊥
  never_strays (Underway w) i e = cc
  never_strays (Through x) i e = cc

module _ {L F : Type 0} (k : Ghosts L) (target : L → TargetState) (linked : L → Bool) (t : FarTable F) (place : ℕ) (os : List (Option F)) {W E : Type 0} (g : Giver W E) where
  abbrev Turns : Course W E → InitState → Air L → Air L → Choosing F → Choosing F → Walk W E → Type 0
  Turns from i old new far after s = WalkTurns k linked t g from i old new place os far after s

  abbrev Going : (List Note → Next) → Air L → Air L → List Note → Choosing F → Choosing F → Type 0
  Going next old new notes far after = FarGoing k.machine linked t next (moment old) (moment new) notes place os far after

  none_yet : (next : List Note → Next) (a : Air L) (far : Choosing F) → Going next a a [] far far
  none_yet next a far = going_start (far_air k.machine linked t) next (seen_with linked t (moment a) os place far)

  -- no turn, and none was due
  pub starts : (from : Course W E) (i : InitState) (a : Air L) (far : Choosing F) → Turns from i a a far far (walk_at g from i)
  starts from i a far = record { notes = []; going = none_yet (walk_due g from i) a far; stands = refl }

  -- one exchange of its payload
  pub one_exchange : (w : W) (i : InitState) (old new : Air L) (far after : Choosing F) (out : List ℕ) → out ≡ g.gives w → (notes : List Note)
      → Going (dep_next i out) old new notes far after → (q : Standing) → stand (asks i out) notes ≡ q → (q ≡ Astray → ⊥) → Turns (Underway w) i old new far after (walk_carried g w q)
  one_exchange w i old new far after out o notes goes q e never =
      let p : List ℕ = g.gives w in
      let next : List Note → Next = walk_due g (Underway w) i in
      let rest : List Note → Next = λ ns. next (notes ++ ns) in
      let G : List ℕ → Type 0 = λ z. Going (dep_next i z) old new notes far after in
      let Q : List ℕ → Type 0 = λ z. stand (asks i z) notes ≡ q in
      let N : List Note → Type 0 = λ z. Going next old new z far after in
      record {
        notes = notes;
        going = subst N (append-nil notes)
            (far_goes_then k.machine linked t next (dep_next i p) rest (moment old) (moment new) (moment new) notes [] place os far after after (asks_same g w i) (λ ns. refl) (subst G o goes)
            (none_yet rest new after));
        stands = carried_on g w (asks i p) notes q (subst Q o e) never;
      }

  -- one part of it, and the next
  pub then : (from to : Course W E) (i j : InitState) (old mid new : Air L) (far half after : Choosing F) (s : Walk W E) → Turns from i old mid far half (walk_at g to j)
      → Turns to j mid new half after s → Turns from i old new far after s
  then from to i j old mid new far half after s x h =
      let on : (ms : List Note) → walk_stand g from i (x.notes ++ ms) ≡ walk_stand g to j ms = λ ms. walk_append g (walk_at g from i) x.notes ms ∙ ap (λ c. walk_on g c ms) x.stands in
      record {
        notes = x.notes ++ h.notes;
        going = far_goes_then k.machine linked t (walk_due g from i) (walk_due g from i) (walk_due g to j) (moment old) (moment mid) (moment new) x.notes h.notes place os far half after
            (λ ms d e demand. e) (λ ms. ap walk_due_at (on ms)) x.going h.going;
        stands = on h.notes ∙ h.stands;
      }

  module _ {C A : Type 0} (see : C → DepSeen L) (restarts : A → List ℕ → A → Type 0) (steps : A → List ℕ → List ℕ → A → Type 0) (stops : A → List ℕ → A → Type 0) (view : A → Choosing F)
      (links : IsLinked k.machine linked) (fars : IsFarTable t) (kind : IsOfTable restarts steps t view) (swap : SwapsFar k target linked t restarts steps stops view)
      (stop : StopsFar k target linked t restarts steps stops view) where
    abbrev Swaps : C → List ℕ → List FarStep → C → Type 0
    Swaps a out did b = dep_swaps k target (see a) out did (see b)

    -- a link that goes on isn't over
    open_at : (did : List FarStep) (a b : C) → BySwaps Swaps did a b → (see b).over ≡ None → (see a).over ≡ None
    open_at [] a b e goes = subst (λ z. (see z).over ≡ None) e goes
    open_at (x ∷ did) a b (mid, one, rest) goes = one.begins

    -- a swap that was answered
    abbrev Answered : W → C → C → A → A → List ℕ → Type 0
    Answered w a b x y reply = Turns (Underway w) (see a).initiator (see a).air (see b).air (view x) (view y) (walk_at g (g.told w reply) (see b).initiator)

    pub answered : (w : W) (a b : C) (x y : A) (out reply : List ℕ) → out ≡ g.gives w → Swaps a out (Stepped out reply ∷ []) b
        → (see b).over ≡ None → FarMoved steps stops (Stepped out reply ∷ []) x y → Stands k target linked t (see a).air place → Answered w a b x y reply × Stands k target linked t (see b).air place
    answered w a b x y out reply o one goes moved there =
        let s = swap links fars kind (see a) (see b) (record { out = out; did = Stepped out reply ∷ [] }) one x y moved tt place there os in
        let O : Option EndCause → Type 0 = λ z. StandsAt z s.given (see b).initiator (stand (asks (see a).initiator out) s.notes) in
        let G : Option (List ℕ) → Type 0 = λ z. StandsAt None z (see b).initiator (stand (asks (see a).initiator out) s.notes) in
        let rests : stand (asks (see a).initiator out) s.notes ≡ Rests (see b).initiator reply = subst G (given_is out reply s.given s.did) (subst O goes s.stands) in (
          one_exchange w (see a).initiator (see a).air (see b).air (view x) (view y) out o s.notes s.going (Rests (see b).initiator reply) rests (λ z. cc),
          s.there,
        )

    pub walked : (did : List FarStep) (from to : Course W E) (a b : C) (x y : A) → ToldSo g from did to → BySwaps Swaps did a b → (see b).over ≡ None
        → FarMoved steps stops did x y → Stands k target linked t (see a).air place
        → Turns from (see a).initiator (see a).air (see b).air (view x) (view y) (walk_at g to (see b).initiator) × Stands k target linked t (see b).air place
    walked [] from to a b x y told e goes moved there =
        let T : Course W E → Type 0 = λ z. Turns from (see a).initiator (see a).air (see b).air (view x) (view y) (walk_at g z (see b).initiator) in
        let B : C → Type 0 = λ z. Turns from (see a).initiator (see a).air (see z).air (view x) (view y) (walk_at g from (see z).initiator) in
        let Y : A → Type 0 = λ z. Turns from (see a).initiator (see a).air (see a).air (view x) (view z) (walk_at g from (see a).initiator) in
        let S : C → Type 0 = λ z. Stands k target linked t (see z).air place in
        (subst T (sym told) (subst B (sym e) (subst Y (sym moved) (starts from (see a).initiator (see a).air (view x)))), subst S (sym e) there)
    walked (d ∷ did) (Through q) to a b x y told by goes moved there = absurd told
    walked (Stopped out ∷ did) (Underway w) to a b x y told by goes moved there = absurd told
    walked (Stepped out reply ∷ did) (Underway w) to a b x y (o, told) (mid, one, by) goes (half, step, moved) there =
        let next : Course W E = g.told w reply in
        let first = answered w a mid x half out reply o one (open_at did mid b by goes) (half, step, refl) there in
        let later = walked did next to mid b half y told by goes moved first.1 in (
          then (Underway w) next (see a).initiator (see mid).initiator (see a).air (see mid).air (see b).air (view x) (view half) (view y) (walk_at g to (see b).initiator) first.0 later.0,
          later.1,
        )

    -- It went on so far, and is cut off in its next swap.
    module _ (halts : Choosing F → List ℕ → Choosing F → Type 0) (halting : (u : A) (payload : List ℕ) (v : A) → stops u payload v → halts (view u) payload (view v))
        (from : Course W E) (w : W) (a m b : C) (x y z : A)
        (base : Turns from (see a).initiator (see a).air (see m).air (view x) (view y) (walk_at g (Underway w) (see m).initiator))
        (there : Stands k target linked t (see m).air place) where
      abbrev Cut : EndCause → Type 0
      Cut e = WalkCut k linked t halts g from (see a).initiator (see a).air (see b).air place os (view x) (view z) e

      abbrev Front : Type 0
      Front = WalkFront k linked t halts g from (see a).initiator (see a).air (see b).air place os (view x) (view z)

      abbrev out : List ℕ
      out = g.gives w

      -- its next exchange
      more : (new : Air L) (v : Choosing F) (s : Walk W E) → Turns (Underway w) (see m).initiator (see m).air new (view y) v s → Turns from (see a).initiator (see a).air new (view x) v s
      more new v s h = then from (Underway w) (see a).initiator (see m).initiator (see a).air (see m).air new (view x) (view y) v s base h

      rested : b ≡ m → z ≡ y → Front
      rested e f = record {
        standing = walk_at g (Underway w) (see m).initiator;
        mid = (see m).air;
        half = view y;
        turns = base;
        under_way = λ q. cc;
        left = inl (ap (λ c. (see c).air) e, ap view f);
      }

      front_here : (s : Walk W E) → (s ≡ Strays → ⊥) → Turns (Underway w) (see m).initiator (see m).air (see b).air (view y) (view z) s → Front
      front_here s never h = record { standing = s; mid = (see b).air; half = view z; turns = more (see b).air (view z) s h; under_way = never; left = inl (refl, refl) }

      ended : (did : List FarStep) → SwapTurn k target linked t (see m) (see b) (record { out = out; did = did }) place os (view y) (view z) → (c : EndCause) → (see b).over ≡ Some c → Cut c
      ended did s c over = go c (let P : Option EndCause → Type 0 = λ q. StandsAt q s.given (see b).initiator (stand (asks (see m).initiator out) s.notes) in subst P over s.stands)
        where
          by : (q : Standing) → stand (asks (see m).initiator out) s.notes ≡ q → (q ≡ Astray → ⊥) → Turns (Underway w) (see m).initiator (see m).air (see b).air (view y) (view z) (walk_carried g w q)
          by q e never = one_exchange w (see m).initiator (see m).air (see b).air (view y) (view z) out refl s.notes s.going q e never

          go : (c : EndCause) → StandsAt (Some c) s.given (see b).initiator (stand (asks (see m).initiator out) s.notes) → Cut c
          go cause.FieldLost e = more (see b).air (view z) (BrokenBy cause.FieldLost) (by (Broken cause.FieldLost) e (λ q. cc))
          go cause.SixBad e = more (see b).air (view z) (BrokenBy cause.SixBad) (by (Broken cause.SixBad) e (λ q. cc))
          go cause.Protocol e = absurd e
          go cause.Memory (f, e) = front_here (Carries w (Waits (see b).initiator f)) (λ q. cc) (by (Waits (see b).initiator f) e (λ q. cc))

      stopped : SwapFront k target linked t (see m) (see b) out place os (view y) → stops y out z → Front
      stopped s halt = go (stand (asks (see m).initiator out) s.notes) refl s.due
        where
          go : (q : Standing) → stand (asks (see m).initiator out) s.notes ≡ q → due_at q ≡ Asks s.sent → Front
          go (Waits j f) e due = record {
            standing = Carries w (Waits j f);
            mid = s.mid;
            half = view y;
            turns = more s.mid (view y) (Carries w (Waits j f)) (one_exchange w (see m).initiator (see m).air s.mid (view y) (view y) out refl s.notes s.going (Waits j f) e (λ q. cc));
            under_way = λ q. cc;
            left = inr (record { sent = s.sent; asked = due; passes = s.fate; payload = out; listeners = s.listeners; heard = s.heard; left = s.left; halted = halting y out z halt });
          }
          go (Rests j reply) e due = absurd cc
          go (Broken c) e due = absurd cc
          go Astray e due = absurd cc

      -- a swap that failed
      failed : (did : List FarStep) → Swaps m out did b → FarMoved steps stops did y z → (answered : Bool) (c : EndCause) → AskedBy answered c out did → (see b).over ≡ Some c → Cut c
      failed did one moved true c (reply, e) over =
          let X : List FarStep → Type 0 = λ d. Swaps m out d b in
          let M : List FarStep → Type 0 = λ d. FarMoved steps stops d y z in
          let d : List FarStep = Stepped out reply ∷ [] in
          ended d (swap links fars kind (see m) (see b) (record { out = out; did = d }) (subst X e one) y z (subst M e moved) tt place there os) c over
      failed did one moved false c (inl e) over =
          let X : List FarStep → Type 0 = λ d. Swaps m out d b in
          let M : List FarStep → Type 0 = λ d. FarMoved steps stops d y z in
          ended [] (swap links fars kind (see m) (see b) (record { out = out; did = [] }) (subst X e one) y z (subst M e moved) tt place there os) c over
      failed did one moved false c (inr (memory, e)) over =
          let X : List FarStep → Type 0 = λ d. Swaps m out d b in
          let M : List FarStep → Type 0 = λ d. FarMoved steps stops d y z in
          let d : List FarStep = Stopped out ∷ [] in
          subst Cut (sym memory) (stopped (stop links fars (see m) (see b) (record { out = out; did = d }) (subst X e one) out refl place there (view y) os) (subst M e moved).0)

      pub cut : (e : EndCause) → WalkRests (λ c. dep_view (see c)) Swaps steps stops m y e b z
          ⊎ (WalkFails (λ c. dep_view (see c)) Swaps steps stops out m y e b z ⊎ WalkUnread (λ c. dep_view (see c)) Swaps steps stops out m y e b z) → Cut e
      cut e (inl c) = subst Cut (sym c.fault) (rested c.link_is c.far_is)
      cut e (inr (inl c)) = failed c.swapped.did c.swapped.link c.swapped.far_moved c.answered e c.swapped.tells c.over
      cut e (inr (inr c)) =
          let X : List FarStep → Type 0 = λ d. Swaps m out d b in
          let M : List FarStep → Type 0 = λ d. FarMoved steps stops d y z in
          let next : Course W E = g.told w c.reply in
          let s = answered w m b y z out c.reply refl (subst X c.swapped.tells c.swapped.link) c.stays (subst M c.swapped.tells c.swapped.far_moved) there in
          subst Cut (sym c.fault) (front_here (walk_at g next (see b).initiator) (never_strays g next (see b).initiator) s.0)
