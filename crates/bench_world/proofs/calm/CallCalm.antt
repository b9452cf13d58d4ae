-- Where all passed in a call on a link that isn't over behind it, no reception was bad.
use Rattle.std.proofs.Common.{◌≡◌, ℕ, List, [], ◌∷◌, ◌++◌, Option, Some, None, refl, sym, ◌∙◌, ap, subst, append_assoc, append-nil, arith}
use Rattle.std.proofs.lemmas.List.{append_cancel_left}
use Rattle.nfc_base.specs.Choosing.{Choosing}
use Rattle.nfc_base.specs.LinkTurns.{arrived, bad_receptions}
use Rattle.nfc_base.specs.Links.{FarStep, Stepped, Stopped}
use Rattle.nfc_base.specs.Trace.{noise, back_of}
use Rattle.nfc_base.specs.Trace as backs
use Rattle.nfc_base.specs.declared.carrier.EndCause.{EndCause}
use Rattle.nfc_base.specs.declared.carrier.EndCause.TheVariants.{Memory}
use Rattle.nfc_base.specs.declared.event.Event.{Event}
use Rattle.nfc_base.proofs.LinkTurns.{bads_append}
use Rattle.air_core.specs.Conversation.{Moment}
use Rattle.air_core.specs.Turn.{Air}
use Rattle.air_core.specs.World.{World}
use Rattle.air_core.proofs.PlainTurns.{noise_append}
use Rattle.air_core.proofs.Turns.{back_of-append}
use Rattle.dep_link.specs.Asking.{Standing, ExchangeTurns, MayReply}
use Rattle.dep_link.specs.DepLinks.{DepSeen, Swap, PayloadExchanged, Chained, PeerOf, ExchangedAs, brought, since, first_seen}
use Rattle.dep_link.specs.Initiator.{InitState}
use Rattle.snep_core.specs.Talk.{Step}
use Rattle.link_calls.specs.Calls.{IsMade}
use Rattle.bench_world.specs.World.{FarEnd}
use Rattle.bench_devices.specs.declared.device.Device.{Device}
use Rattle.bench_devices.specs.Device.{device_end}
use Rattle.bench_devices.specs.Keeping.{ghosts}

-- From one moment of a link to another these events were added; where all of them passed, no reception was bad.
pub record IsCalm (a b : Air Device) : Type 0 where
  pub events : List Event
  pub trace : b.trace ≡ a.trace ++ events
  pub fresh : back_of events ≡ backs.Nothing
  pub calm : noise events ≡ 0 → bad_receptions events ≡ 0

pub calm_then : (a m b : Air Device) → IsCalm a m → IsCalm m b → IsCalm a b
calm_then a m b x y = record {
  events = x.events ++ y.events;
  trace = y.trace ∙ ap (λ (es : List Event). es ++ y.events) x.trace ∙ append_assoc a.trace x.events y.events;
  fresh = back_of-append x.events y.events y.fresh ∙ x.fresh;
  calm = λ none.
      let all = noise_append x.events y.events in
      let first : bad_receptions x.events ≡ 0 = x.calm (omega (arith, all, none)) in
      let second : bad_receptions y.events ≡ 0 = y.calm (omega (arith, all, none)) in
      let sum = bads_append x.events y.events y.fresh in
      omega (arith, sum, first, second);
}

-- an exchange
module _ (a b : DepSeen Device) (p : PeerOf ghosts device_end a) (out : List ℕ) where
  abbrev Turns : Option (List ℕ) → Standing → Type 0
  Turns given s = ExchangeTurns ghosts device_end a.air b.air p.listener a.initiator a.first (brought a.first (since a)) (arrived (since a)) out given s

  fresh_by : (given : Option (List ℕ)) (s : Standing) (x : Turns given s) (reply : List ℕ) → MayReply given reply → back_of x.events ≡ backs.Nothing
  fresh_by given s x reply may =
      let q = x.going reply may in
      let same : q.events ≡ x.events = append_cancel_left a.air.trace q.events x.events (sym (ap (λ (m : Moment (World Device)). m.trace) q.moment) ∙ x.trace) in
      subst (λ es. back_of es ≡ backs.Nothing) same q.fresh

  exchange_calm : (given : Option (List ℕ)) (s : Standing) (x : Turns given s) (reply : List ℕ) → MayReply given reply → IsCalm a.air b.air
  exchange_calm given s x reply may = record { events = x.events; trace = x.trace; fresh = fresh_by given s x reply may; calm = x.calm }

-- swaps one behind another
first_open : (ss : List Swap) (m b : DepSeen Device) → Chained ghosts device_end ss m b → b.over ≡ None → m.over ≡ None
first_open [] m b c open_b = ap (λ (p : DepSeen Device). p.over) (sym c) ∙ open_b
first_open (s ∷ ss) m b c open_b = c.1.begins

swap_calm : (a b : DepSeen Device) (s : Swap) → PayloadExchanged ghosts device_end a b s → b.over ≡ None → IsCalm a.air b.air
swap_calm a b s x open_b = by_steps s.did x.exchange
  where
    by_steps : (did : List FarStep) → ExchangedAs ghosts device_end a b x.peer s.out did → IsCalm a.air b.air
    by_steps [] t = exchange_calm a b x.peer s.out None t.0 t.1 [] tt
    by_steps (Stepped payload reply ∷ []) t = exchange_calm a b x.peer s.out (Some reply) t.1.0 t.1.1 reply refl
    by_steps (Stopped payload ∷ []) t = absurd (let clash : ◌≡◌ {A = Option EndCause} (Some Memory) None = sym t.2 ∙ open_b in cc)
    by_steps (d ∷ e ∷ ds) t = absurd t

pub chain_calm : (ss : List Swap) (a b : DepSeen Device) → Chained ghosts device_end ss a b → b.over ≡ None → IsCalm a.air b.air
chain_calm [] a b c open_b = record { events = []; trace = ap (λ (p : DepSeen Device). p.air.trace) c ∙ sym (append-nil a.air.trace); fresh = refl; calm = λ none. refl }
chain_calm (s ∷ ss) a b c open_b = calm_then a.air c.0.air b.air (swap_calm a c.0 s c.1 (first_open ss c.0 b c.2 open_b)) (chain_calm ss c.0 b c.2 open_b)

-- a call that came to its end
pub made_calm : (numbers : List ℕ) (from to : Step) (air b : Air Device) (i j : InitState) (far after : Choosing FarEnd) → IsMade ghosts device_end numbers from air i far b j after to → IsCalm air b
made_calm numbers from to air b i j far after m =
    let c = m.carried in
    let x : IsCalm air c.at.air = chain_calm c.swaps (first_seen air i) c.at c.chain c.left.2 in
    subst (IsCalm air) c.left.0 x

-- so it is of these events, where nothing stood in the trace before
pub added_calm : (a b : Air Device) → IsCalm a b → a.trace ≡ [] → (es : List Event) → b.trace ≡ es → noise es ≡ 0 → bad_receptions es ≡ 0
added_calm a b c none es is quiet =
    let same : c.events ≡ es = sym (c.trace ∙ ap (λ (xs : List Event). xs ++ c.events) none) ∙ is in
    subst (λ xs. bad_receptions xs ≡ 0) same (c.calm (subst (λ xs. noise xs ≡ 0) (sym same) quiet))
