-- What swaps over a link to a peer of the bench leave of the devices.
use Rattle.std.proofs.Common.{◌≡◌, ℕ, List, [], ◌∷◌, Option, Some, None, refl, sym, ◌∙◌, ap, subst}
use Rattle.nfc_base.specs.Signal.{Signal, whole_a}
use Rattle.nfc_base.specs.Links.{FarStep, Stepped, Stopped}
use Rattle.nfc_base.specs.declared.carrier.EndCause.TheVariants.{FieldLost, Memory}
use Rattle.nfc_base.specs.declared.carrier.EndCause.{EndCause}
use Rattle.dep_link.specs.Frames.{air_frame}
use Rattle.air_core.specs.Turn.{moment}
use Rattle.air_core.specs.Conversation.{Note, Lit, Got, Lost, Asks}
use Rattle.dep_link.specs.Asking as dep
use Rattle.dep_link.specs.Asking.{Standing, ExchangeTurns, MayReply, asks, noted, stand, due_at, goes_by, dep_next}
use Rattle.dep_link.specs.DepLinks.{DepSeen, Swap, PeerOf, TurnsOf, ExchangedAs, Chained}
use Rattle.dep_link.specs.Initiator as init
use Rattle.dep_link.specs.Initiator.{InitState, init_table, begun, request, heard_next, framed_next}
use Rattle.bench_devices.specs.declared.device.Device.{Device}
use Rattle.bench_devices.specs.Beside.{PeerAt, TalkLeaves}
use Rattle.bench_devices.specs.Device.{device_end}
use Rattle.bench_devices.specs.Keeping.{ghosts}
use Rattle.bench_devices.specs.LinkLaws.{SwapsLeave}
use Rattle.bench_devices.proofs.far_ends.BesideLink.{leaves_all, leaves_both, going_leaves}

-- what an initiator asks is a frame of whole bytes of NFC-A
abbrev pub IsWholeAt : Standing → Type 0
IsWholeAt s = (f : Signal) → due_at s ≡ Asks f → f ≡ whole_a f.bytes

goes_whole : (i : InitState) (does : init.Next) → IsWholeAt (goes_by i (framed_next does))
goes_whole i (init.Asks v) = λ f e. (let same : air_frame v ≡ f = cc in subst (λ g. g ≡ whole_a g.bytes) same refl)
goes_whole i (init.Gives xs) = λ f e. absurd cc
goes_whole i init.GivesUp = λ f e. absurd cc
goes_whole i init.Refuses = λ f e. absurd cc

pub astray_whole : IsWholeAt dep.Astray
astray_whole f e = absurd cc

pub broken_whole : (e : EndCause) → IsWholeAt (dep.Broken e)
broken_whole e f h = absurd cc

pub noted_whole : (s : Standing) (n : Note) → IsWholeAt (noted s n)
noted_whole (dep.Waits i f) Lit = astray_whole
noted_whole (dep.Waits i f) Lost = broken_whole FieldLost
noted_whole (dep.Waits i f) (Got h) = goes_whole (heard_next i h).state (heard_next i h).does
noted_whole (dep.Rests i reply) n = astray_whole
noted_whole (dep.Broken e) n = astray_whole
noted_whole dep.Astray n = astray_whole

pub stand_whole : (ns : List Note) (s : Standing) → IsWholeAt s → IsWholeAt (stand s ns)
stand_whole [] s h = h
stand_whole (n ∷ ns) s h = stand_whole ns (noted s n) (noted_whole s n)

pub asks_whole : (i : InitState) (out : List ℕ) → IsWholeAt (asks i out)
asks_whole i out f e =
    (let same : air_frame (request (begun i out).core) ≡ f = cc in subst (λ g. g ≡ whole_a g.bytes) same refl)

pub dep_whole : (i : InitState) (out : List ℕ) (ns : List Note) (f : Signal) → dep_next i out ns ≡ Asks f → f ≡ whole_a f.bytes
dep_whole i out ns f e = stand_whole ns (asks i out) (asks_whole i out) f e

module _ (own : List ℕ) (place : ℕ) where
  abbrev Leaves : DepSeen Device → DepSeen Device → Type 0
  Leaves a b = TalkLeaves own place a.air.listeners b.air.listeners

  -- the reply that was given, or any
  abbrev reply_in : Option (List ℕ) → List ℕ
  reply_in None = []
  reply_in (Some r) = r

  will_do : (given : Option (List ℕ)) → MayReply given (reply_in given)
  will_do None = tt
  will_do (Some r) = refl

  turns_leave : (a b : DepSeen Device) (t : PeerOf ghosts device_end a) (out : List ℕ) (given : Option (List ℕ)) → TurnsOf ghosts device_end a b t out given → PeerAt own place a.air.listeners
      → Leaves a b
  turns_leave a b t out given turns at =
      let x = turns.1 in
      going_leaves own (reply_in given) place (dep_next a.initiator out) (moment a.air) (moment b.air) x.notes (dep_whole a.initiator out) (x.going (reply_in given) (will_do given)) at

  swap_leaves : (a b : DepSeen Device) (t : PeerOf ghosts device_end a) (out : List ℕ) (did : List FarStep) → ExchangedAs ghosts device_end a b t out did → (b.over ≡ Some Memory → ⊥)
      → PeerAt own place a.air.listeners → Leaves a b
  swap_leaves a b t out [] x fed at = turns_leave a b t out None x at
  swap_leaves a b t out (Stepped payload reply ∷ []) x fed at = turns_leave a b t out (Some reply) x.1 at
  swap_leaves a b t out (Stopped payload ∷ []) x fed at = absurd (fed x.2)
  swap_leaves a b t out (Stepped payload reply ∷ e ∷ ds) x fed at = absurd x
  swap_leaves a b t out (Stopped payload ∷ e ∷ ds) x fed at = absurd x

  -- a link that a swap begins on isn't over
  begun_fed : (ss : List Swap) (mid b : DepSeen Device) → Chained ghosts device_end ss mid b → (b.over ≡ Some Memory → ⊥) → mid.over ≡ Some Memory → ⊥
  begun_fed [] mid b same fed e = fed (ap (λ (z : DepSeen Device). z.over) same ∙ e)
  begun_fed (s ∷ ss) mid b (next, x, more) fed e = absurd (let clash : None ≡ Some Memory = sym x.begins ∙ e in cc)

  chain_leaves : (ss : List Swap) (a b : DepSeen Device) → Chained ghosts device_end ss a b → (b.over ≡ Some Memory → ⊥) → PeerAt own place a.air.listeners → Leaves a b
  chain_leaves [] a b same fed at = subst (Leaves a) (sym same) (leaves_all own place a.air.listeners at)
  chain_leaves (s ∷ ss) a b (mid, x, more) fed at =
      let one : Leaves a mid = swap_leaves a mid x.peer s.out s.did x.exchange (begun_fed ss mid b more fed) at in
      leaves_both own place a.air.listeners mid.air.listeners b.air.listeners one (chain_leaves ss mid b more fed one.at)

pub swaps_leave : SwapsLeave
swaps_leave own place a b ss chain fed at = chain_leaves own place ss a b chain fed at
