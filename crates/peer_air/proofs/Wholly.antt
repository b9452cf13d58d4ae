-- The turns of an exchange with a peer are turns of the world with far ends.
use Rattle.std.proofs.Common.{◌≡◌, ◌≤◌, ℕ, suc, length, arith, List, [], ◌∷◌, ◌++◌, Bool, true, false, Option, Some, None, refl, sym, ◌∙◌, ap, subst, append-nil}
use Rattle.std.proofs.lemmas.List.{append_cancel_left}
use Rattle.nfc_base.specs.Choosing.{Choosing}
use Rattle.nfc_base.specs.Signal.{Signal}
use Rattle.nfc_base.specs.StopAndWait.{delivered_of}
use Rattle.nfc_base.specs.LinkTurns as turns
use Rattle.nfc_base.specs.Links.{FarStep, Stepped, Stopped, FarMoved, BySwaps}
use Rattle.nfc_base.specs.declared.event.Event.{Event}
use Rattle.air_core.specs.World.{World}
use Rattle.air_core.specs.Conversation.{Note, Going, Moment, with_events, receptions}
use Rattle.air_core.specs.Turn.{Air, world, moment}
use Rattle.air_core.specs.laws.Turning.{going_start}
use Rattle.std.specs.List.{AllByRecursion}
use Rattle.air_core.specs.PlainTags.{IsAside, IsAlone}
use Rattle.air_core.specs.declared.listener.Listener.{Ghosts}
use Rattle.air_core.proofs.PlainAside.{Laws}
use Rattle.dep_link.specs.Sizes.{limit}
use Rattle.dep_link.specs.Frames.{air_frame}
use Rattle.dep_link.specs.Target.{TargetState}
use Rattle.dep_link.specs.Initiator.{InitState, begun, request}
use Rattle.dep_link.specs.Payloads.{payloads}
use Rattle.dep_link.specs.Exchange.{frames_of}
use Rattle.dep_link.specs.Answering.{answering_air}
use Rattle.dep_link.specs.Asking.{Standing, MayReply, due_at, dep_next, HasPeer, ExchangeTurns, AreFrames}
use Rattle.dep_link.specs.DepLinks.{DepSeen, Swap, PeerOf, TurnsOf, PayloadExchanged, StandsAt, brought, dep_swaps, since}
use Rattle.dep_link.proofs.SwapEnds.{first_here}
use Rattle.far_air.specs.FarEnds.{FarTable}
use Rattle.far_air.specs.FarWorld.{far_air}
use Rattle.far_air.specs.FarLaws.{IsFarTable, IsLinked, IsOfTable, seen_with}
use Rattle.far_air.specs.FarTurns.{FarGoing}
use Rattle.peer_air.specs.SwapTurns.{Stands, Gave, ExchangesFar, IsWhole, SwapTurn, SwapTurns, SwapFront, SwapsFar, StopsFar, AllFar, PeersStand, did_with, swaps_of}
use Rattle.peer_air.proofs.Walking.{begins, tells, flagged, table_steps, dark_none, So, End, walk}

-- the reply that an exchange is walked with
abbrev reply_in : Option (List ℕ) → List ℕ
reply_in None = []
reply_in (Some r) = r

may_reply : (given : Option (List ℕ)) → MayReply given (reply_in given)
may_reply None = tt
may_reply (Some r) = refl

-- whether the payload was handed over
flag_none : (out : List ℕ) (far : Bool) → flagged out far ≡ [] → far ≡ false
flag_none out false e = refl
flag_none out true e = absurd cc

flag_some : (out : List ℕ) (far : Bool) → flagged out far ≡ out ∷ [] → far ≡ true
flag_some out false e = absurd cc
flag_some out true e = refl

module _ {L F : Type 0} (k : Ghosts L) (laws : Laws k) (target : L → TargetState) (linked : L → Bool) (t : FarTable F) (links : IsLinked k.machine linked) (fars : IsFarTable t)
    (old new : Air L) (i : InitState) (first : ℕ) (handed : List (List ℕ)) (arrived : List Signal) (p : HasPeer k target old i first handed arrived) (out : List ℕ) (os : List (Option F)) where
  far_starts : (place : ℕ) (v : Choosing F) → FarGoing k.machine linked t (dep_next i out) (moment old) (moment old) [] place os v v
  far_starts place v = going_start (far_air k.machine linked t) (dep_next i out) (seen_with linked t (moment old) os place v)

  reply_fits : (given : Option (List ℕ)) (v w : Choosing F) → Gave k target linked t out given v w → length (reply_in given) ≤ limit
  reply_fits None v w g = omega arith
  reply_fits (Some r) v w g = g.2

  module _ (given : Option (List ℕ)) (s : Standing) (x : ExchangeTurns k target old new p.listener i first handed arrived out given s) (v w : Choosing F)
      (g : Gave k target linked t out given v w) where
    abbrev r : List ℕ
    r = reply_in given

    abbrev fits : length r ≤ limit
    fits = reply_fits given v w g

    abbrev going : Going (answering_air k.machine r) (dep_next i out) (moment old) (moment new) x.notes
    going = x.going r (may_reply given)

    abbrev all : List Event
    all = going.events

    same_events : x.events ≡ all
    same_events = append_cancel_left old.trace x.events all (sym x.trace ∙ ap (λ (z : Moment (World L)). z.trace) going.moment)

    abbrev Ends : Type 0
    Ends = End k laws target linked t links fars old i out first handed arrived p r fits v w os all

    abbrev FarTo : Choosing F → Moment (World L) → List Note → Type 0
    FarTo a m ns = FarGoing k.machine linked t (dep_next i out) (moment old) m ns p.place os v a

    gave_by : (given' : Option (List ℕ)) → Gave k target linked t out given' v w → (far : Bool) → flagged out far ≡ delivered_of out given' → (m : Moment (World L)) (ns : List Note)
        → (far ≡ false → FarTo v m ns) → (far ≡ true → table_steps t v out (reply_in given') w → FarTo w m ns) → FarTo w m ns
    gave_by None g far e m ns no_reply some = let P : Choosing F → Type 0 = λ z. FarTo z m ns in subst P (sym g) (no_reply (flag_none out far e))
    gave_by (Some q) g far e m ns no_reply some = some (flag_some out far e) (g.0, g.1)

    gave_none : (given' : Option (List ℕ)) → Gave k target linked t out given' v w → [] ≡ delivered_of out given' → w ≡ v
    gave_none None g e = g
    gave_none (Some q) g e = absurd cc

    abbrev Goes : Type 0
    Goes = FarTo w (moment new) x.notes × Stands k target linked t new p.place

    ended : Ends → Goes
    ended z =
        let at : moment z.air ≡ moment new = z.at ∙ sym going.moment in
        let notes : z.notes ≡ x.notes = sym z.known ∙ going.known in
        let brings : flagged out z.far ≡ delivered_of out given =
        append_cancel_left handed (flagged out z.far) (delivered_of out given)
        (sym z.brings ∙ ap (λ es. payloads first (frames_of (arrived ++ turns.arrived es))) (sym same_events) ∙ x.brings) in
        let S : Bool → Type 0 = λ b. So k laws target linked t links fars old i out first handed arrived p r fits v w os all b z.air z.notes in
        let P : Moment (World L) → Type 0 = λ m. FarTo w m x.notes in
        let Q : List Note → Type 0 = λ ns. FarTo w (moment z.air) ns in
        let lit : z.air.lit ≡ new.lit = ap (λ (m : Moment (World L)). m.world.lit) at in
        let places : z.air.listeners ≡ new.listeners = ap (λ (m : Moment (World L)). m.world.listeners) at in
        let T : List L → Type 0 = λ ls. (l : L) × (k.is_selected l ≡ true) × IsAlone k (k.identifier l) ls p.place l in (
          subst P at (subst Q notes (gave_by given g z.far brings (moment z.air) z.notes (λ e. subst S e z.so) (λ e makes. (subst S e z.so) makes))),
          λ on. subst T places (z.there (lit ∙ on)),
        )

    lit_exchange : length out ≤ limit → old.lit ≡ true → Goes
    lit_exchange short lit =
        let R : List Event → Type 0 = AreFrames in
        ended
        (walk k laws target linked t links fars old i out first handed arrived p r fits v w os all going.turns.moves old false (begun i out) (air_frame (request (begun i out).core))
        (first_here k laws target begins (tells r) old i out first handed arrived p false short lit (begun i out) (air_frame (request (begun i out).core)) refl refl)
        [] [] (ap (λ z. record { world = world old; queue = old.fates; trace = z }) (sym (append-nil old.trace))) refl (far_starts p.place v) refl
        all going.turns.made refl going.each going.fates (subst R same_events x.frames))

    -- in the dark nothing happens, at whatever place
    dark_exchange : (place : ℕ) → old.lit ≡ false → FarGoing k.machine linked t (dep_next i out) (moment old) (moment new) x.notes place os v w × (new.lit ≡ false)
    dark_exchange place dark =
        let none : all ≡ [] = dark_none (answering_air k.machine r) (dep_next i out) [] (air_frame (request (begun i out).core)) going.turns.moves (world old) all going.turns.made going.each refl
        dark in
        let at : moment old ≡ moment new = ap (λ z. record { world = world old; queue = old.fates; trace = z }) (sym (append-nil old.trace))
        ∙ ap (λ z. with_events (answering_air k.machine r) (moment old) z) (sym none) ∙ sym going.moment in
        let notes : [] ≡ x.notes = ap receptions (sym none) ∙ going.known in
        let before : payloads first (frames_of arrived) ≡ handed = ap (λ c. c.payloads) p.cut in
        let brings : handed ++ [] ≡ handed ++ delivered_of out given =
        append-nil handed ∙ sym before ∙ ap (λ z. payloads first (frames_of z)) (sym (append-nil arrived))
        ∙ ap (λ es. payloads first (frames_of (arrived ++ turns.arrived es))) (sym none ∙ sym same_events) ∙ x.brings in
        let empty : [] ≡ delivered_of out given = append_cancel_left handed [] (delivered_of out given) brings in
        let To : Choosing F → Moment (World L) → List Note → Type 0 = λ a m ns. FarGoing k.machine linked t (dep_next i out) (moment old) m ns place os v a in
        let P : Moment (World L) → Type 0 = λ m. To w m x.notes in
        let Q : List Note → Type 0 = λ ns. To w (moment old) ns in
        let R : Choosing F → Type 0 = λ a. To a (moment old) [] in
        (subst P at (subst Q notes (subst R (sym (gave_none given g empty)) (far_starts place v))), sym (ap (λ (m : Moment (World L)). m.world.lit) at) ∙ dark)

    pub exchange_far : length out ≤ limit → Goes
    exchange_far short = go old.lit refl
      where
        go : (b : Bool) → old.lit ≡ b → Goes
        go true e = lit_exchange short e
        go false e = let d = dark_exchange p.place e in (d.0, λ lit. (let dark = d.1 in absurd cc))

pub exchanges_far : {L F : Type 0} (k : Ghosts L) → Laws k → (target : L → TargetState) (linked : L → Bool) (t : FarTable F) → ExchangesFar k target linked t
exchanges_far k laws target linked t links fars old new i first handed arrived p out given s x short v w g os =
    exchange_far k laws target linked t links fars old new i first handed arrived p out os given s x v w g short

-- among listeners that are aside of one, and not selected, one place alone has a selected one
aside_in : {L : Type 0} (k : Ghosts L) (own : List ℕ) (before : List L) (l : L) (behind : List L) → AllByRecursion (IsAside k own) (before ++ l ∷ behind) → IsAside k own l
aside_in k own [] l behind a = a.0
aside_in k own (x ∷ before) l behind a = aside_in k own before l behind a.1

one_place : {L : Type 0} (k : Ghosts L) (own : List ℕ) (before : List L) (l : L) (behind begin : List L) (m : L) (rest : List L)
    → (IsAside k own m → ⊥) → AllByRecursion (IsAside k own) before → AllByRecursion (IsAside k own) behind → before ++ l ∷ behind ≡ begin ++ m ∷ rest → length before ≡ length begin
one_place k own [] l behind [] m rest never p q e = refl
one_place k own [] l behind (x ∷ begin) m rest never p q e =
    let same : behind ≡ begin ++ m ∷ rest = cc in
    let P : List _ → Type 0 = AllByRecursion (IsAside k own) in absurd (never (aside_in k own begin m rest (subst P same q)))
one_place k own (x ∷ before) l behind [] m rest never p q e =
    let same : x ≡ m = cc in
    let P : _ → Type 0 = IsAside k own in absurd (never (subst P same p.0))
one_place k own (x ∷ before) l behind (y ∷ begin) m rest never p q e =
    let same : before ++ l ∷ behind ≡ begin ++ m ∷ rest = cc in ap suc (one_place k own before l behind begin m rest never p.1 q same)

module _ {L F : Type 0} (k : Ghosts L) (laws : Laws k) (target : L → TargetState) (linked : L → Bool) (t : FarTable F) (links : IsLinked k.machine linked) (fars : IsFarTable t)
    (a b : DepSeen L) (s : Swap) (begins : a.over ≡ None) (peer : PeerOf k target a) (short : length s.out ≤ limit) (os : List (Option F)) where
  -- at whatever place the peer is known to stand in a lit field, and at any place in the dark
  same_place : (place : ℕ) → Stands k target linked t a.air place → a.air.lit ≡ true → place ≡ peer.place
  same_place place stands lit =
      let s = stands lit in
      let l : L = s.0 in
      let never : IsAside k (k.identifier l) peer.listener → ⊥ = λ z. (let off = (z.rests peer.is.tech).1 in let on = peer.selected in absurd cc) in
      sym s.2.stands ∙ one_place k (k.identifier l) s.2.before l s.2.behind peer.alone.before peer.listener peer.alone.behind never s.2.first s.2.later (sym s.2.split ∙ peer.alone.split)
      ∙ peer.alone.stands

  -- turns of its exchange, up to some moment
  turns_at : (new : Air L) (given : Option (List ℕ)) (q : Standing) (x : ExchangeTurns k target a.air new peer.listener a.initiator a.first (brought a.first (since a)) (turns.arrived (since a)) s.out
      given q)
      → (v w : Choosing F) → Gave k target linked t s.out given v w → (place : ℕ) → Stands k target linked t a.air place
      → FarGoing k.machine linked t (dep_next a.initiator s.out) (moment a.air) (moment new) x.notes place os v w × Stands k target linked t new place
  turns_at new given q x v w g place stands = go a.air.lit refl
    where
      To : ℕ → Type 0
      To n = FarGoing k.machine linked t (dep_next a.initiator s.out) (moment a.air) (moment new) x.notes n os v w × Stands k target linked t new n

      go : (z : Bool) → a.air.lit ≡ z → To place
      go true e =
          subst To (sym (same_place place stands e))
          (exchanges_far k laws target linked t links fars a.air new a.initiator a.first (brought a.first (since a)) (turns.arrived (since a)) peer s.out given q x short v w g os)
      go false e =
          let d = dark_exchange k laws target linked t links fars a.air new a.initiator a.first (brought a.first (since a)) (turns.arrived (since a)) peer s.out os given q x v w g place e in (
            d.0,
            λ lit. (let dark = d.1 in absurd cc),
          )

  swap_at : (given : Option (List ℕ)) → s.did ≡ did_with s.out given → TurnsOf k target a b peer s.out given → (v w : Choosing F) → Gave k target linked t s.out given v w → (place : ℕ)
      → Stands k target linked t a.air place
      → SwapTurn k target linked t a b s place os v w
  swap_at given did (q, x, at) v w g place stands =
      let z = turns_at b.air given q x v w g place stands in
      record {
        begins = begins;
        given = given;
        did = did;
        notes = x.notes;
        stands = subst (λ (y : Standing). StandsAt b.over given b.initiator y) (sym x.stands) at;
        there = z.1;
        going = z.0;
      }

module _ {L F A : Type 0} (k : Ghosts L) (laws : Laws k) (target : L → TargetState) (linked : L → Bool) (t : FarTable F) (links : IsLinked k.machine linked) (fars : IsFarTable t)
    (restarts : A → List ℕ → A → Type 0) (steps : A → List ℕ → List ℕ → A → Type 0) (stops : A → List ℕ → A → Type 0) (view : A → Choosing F) (kind : IsOfTable restarts steps t view)
    (fits : (a : A) (payload reply : List ℕ) (b : A) → steps a payload reply b → length reply ≤ limit) where
  moved_at : (a b : DepSeen L) (out : List ℕ) (did : List FarStep) (x : PayloadExchanged k target a b (record { out = out; did = did }))
      → (far after : A) → FarMoved steps stops did far after → IsWhole k target linked t did → (place : ℕ) → Stands k target linked t a.air place → (os : List (Option F))
      → SwapTurn k target linked t a b (record { out = out; did = did }) place os (view far) (view after)
  moved_at a b out [] x far after moved whole place stands os =
      swap_at k laws target linked t links fars a b (record { out = out; did = [] }) x.begins x.peer x.short os None refl x.exchange (view far) (view after) (ap view moved) place stands
  moved_at a b out (Stepped payload reply ∷ []) x far after (mid, step, rest) whole place stands os =
      let G : List ℕ → Type 0 = λ z. Gave k target linked t z (Some reply) (view far) (view mid) in
      let g : Gave k target linked t out (Some reply) (view far) (view mid) = subst G x.exchange.0
      (kind.reply far payload reply mid step, kind.left far payload reply mid step, fits far payload reply mid step) in
      let s : Swap = record { out = out; did = Stepped payload reply ∷ [] } in
      let P : A → Type 0 = λ z. SwapTurn k target linked t a b s place os (view far) (view z) in
      subst P (sym rest)
      (swap_at k laws target linked t links fars a b s x.begins x.peer x.short os (Some reply) (ap (λ z. Stepped z reply ∷ []) x.exchange.0) x.exchange.1 (view far) (view mid) g place stands)
  moved_at a b out (Stopped payload ∷ []) x far after moved whole place stands os = absurd whole
  moved_at a b out (d ∷ e ∷ did) x far after moved whole place stands os = absurd x.exchange

  -- swaps one after another
  by_swaps : (did : List FarStep) (a b : DepSeen L) → BySwaps (dep_swaps k target) did a b
      → (far after : A) → FarMoved steps stops did far after → IsWhole k target linked t did → (place : ℕ) → Stands k target linked t a.air place → (os : List (Option F))
      → SwapTurns k target linked t (swaps_of did) a place os (view far) b (view after)
  by_swaps [] a b e far after moved whole place stands os = (e, ap view moved)
  by_swaps (Stepped payload reply ∷ did) a b (mid, one, more) far after (half, step, rest) whole place stands os =
      let z = moved_at a mid payload (Stepped payload reply ∷ []) one far half (half, step, refl) tt place stands os in
      (mid, view half, z, by_swaps did mid b more half after rest whole place z.there os)
  by_swaps (Stopped payload ∷ did) a b by far after moved whole place stands os = absurd whole

pub all_far : {L F A : Type 0} (k : Ghosts L) → Laws k → (target : L → TargetState) (linked : L → Bool) (t : FarTable F) (restarts : A → List ℕ → A → Type 0) (steps : A → List ℕ → List ℕ → A → Type 0)
    (stops : A → List ℕ → A → Type 0) (view : A → Choosing F)
    → ((a : A) (payload reply : List ℕ) (b : A) → steps a payload reply b → length reply ≤ limit) → AllFar k target linked t restarts steps stops view
all_far k laws target linked t restarts steps stops view fits links fars kind a b did by far after moved whole place stands os =
    by_swaps k laws target linked t links fars restarts steps stops view kind fits did a b by far after moved whole place stands os

pub swaps_far : {L F A : Type 0} (k : Ghosts L) → Laws k → (target : L → TargetState) (linked : L → Bool) (t : FarTable F) (restarts : A → List ℕ → A → Type 0)
    (steps : A → List ℕ → List ℕ → A → Type 0) (stops : A → List ℕ → A → Type 0) (view : A → Choosing F)
    → ((a : A) (payload reply : List ℕ) (b : A) → steps a payload reply b → length reply ≤ limit) → SwapsFar k target linked t restarts steps stops view
swaps_far k laws target linked t restarts steps stops view fits links fars kind a b s x far after moved whole place stands os =
    moved_at k laws target linked t links fars restarts steps stops view kind fits a b s.out s.did x far after moved whole place stands os

stop_far : {L F : Type 0} (k : Ghosts L) → Laws k → (target : L → TargetState) (linked : L → Bool) (t : FarTable F) → IsLinked k.machine linked → IsFarTable t
    → (a b : DepSeen L) (out : List ℕ) (did : List FarStep) (x : PayloadExchanged k target a b (record { out = out; did = did }))
    → (payload : List ℕ) → did ≡ Stopped payload ∷ [] → (place : ℕ) → Stands k target linked t a.air place → (far : Choosing F) (os : List (Option F))
    → SwapFront k target linked t a b out place os far
stop_far k laws target linked t links fars a b out [] x payload e place stands far os = absurd cc
stop_far k laws target linked t links fars a b out (Stepped p reply ∷ did) x payload e place stands far os = absurd cc
stop_far k laws target linked t links fars a b out (Stopped p ∷ []) x payload e place stands far os =
    let s = x.exchange.1 in
    record {
      mid = s.mid;
      notes = s.before.notes;
      going = (turns_at k laws target linked t links fars a b (record { out = out; did = Stopped p ∷ [] }) x.begins x.peer x.short os s.mid None _ s.before far far refl place stands).0;
      sent = s.sent;
      due = ap due_at s.before.stands;
      fate = s.fate;
      listeners = s.listeners;
      heard = s.heard;
      left = s.left;
    }
stop_far k laws target linked t links fars a b out (Stopped p ∷ d ∷ did) x payload e place stands far os = absurd cc

pub stops_far : {L F A : Type 0} (k : Ghosts L) → Laws k → (target : L → TargetState) (linked : L → Bool) (t : FarTable F) (restarts : A → List ℕ → A → Type 0)
    (steps : A → List ℕ → List ℕ → A → Type 0) (stops : A → List ℕ → A → Type 0) (view : A → Choosing F)
    → StopsFar k target linked t restarts steps stops view
stops_far k laws target linked t restarts steps stops view links fars a b s x payload e place stands far os =
    stop_far k laws target linked t links fars a b s.out s.did x payload e place stands far os

pub peers_stand : {L F : Type 0} (k : Ghosts L) (target : L → TargetState) (linked : L → Bool) (t : FarTable F) → PeersStand k target linked t
peers_stand k target linked t air i first handed arrived p = λ lit. (p.listener, p.selected, p.alone)
