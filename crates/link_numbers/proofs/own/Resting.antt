-- An initiator that rests so that a call can begin rests so again behind the call, and the end behind it is within the same bound.
use Rattle.std.proofs.Common.{◌≡◌, ◌<◌, ◌≤◌, ◌==◌, ◌-◌, ℕ, Bool, true, false, List, [], ◌∷◌, if◌then◌else◌, refl, sym, subst, arith}
use Rattle.nfc_base.specs.Choosing.{first_number, later_numbers}
use Rattle.air_core.specs.Conversation.{Note}
use Rattle.dep_link.specs.Frames.{after}
use Rattle.nfc_base.specs.Pieces.{Core, more_follows, turned}
use Rattle.dep_link.specs.Initiator.{InitState, waiting}
use Rattle.dep_link.specs.Asking.{Standing, Waits, Rests, Broken, Astray, noted}
use Rattle.dep_link.proofs.Standing.{after_small}
use Rattle.snep_core.specs.Talk.{EndState, Ends, Finds, Gets, GivesUp, Goes, Step, Working, client_sap, client_saps, closes, leave_from, replied}
use Rattle.link_calls.specs.Asking.{Call, Finding, Getting, Putting, call_begins}
use Rattle.link_calls.specs.AtOnce.{puts_at_once}
use Rattle.link_calls.specs.Walk.{Carries, Comes, BrokenBy, Strays, walk_at, walk_carried, walk_noted}
use Rattle.link_calls.specs.CallDue.{CallStanding, by_client, call_at, call_on, call_stand, next_of}
use Rattle.link_numbers.specs.OwnShows.{AtEnd, IsWithin, Rested}
use Rattle.link_numbers.proofs.own.OwnMoving.{Again, Behind, Fails, Kind, Onward, Wanders, draws, fails, hears_last, hears_more, kind_of, made, rests, waits, wanders}
use Rattle.link_numbers.proofs.own.OwnPlaces.{Fit, onward_fit}
use Rattle.link_numbers.proofs.own.CallKeeps.{begins_within}

-- a target's LR code leaves room for two bytes in a piece
size_so : (a b c : Bool) → (2 ≤ (if a then 64 else (if b then 128 else (if c then 192 else 254))) - 3) × ((if a then 64 else (if b then 128 else (if c then 192 else 254))) - 3 ≤ 251)
size_so true b c = (omega arith, omega arith)
size_so false true c = (omega arith, omega arith)
size_so false false true = (omega arith, omega arith)
size_so false false false = (omega arith, omega arith)

-- an initiator that was just activated
pub waiting_rested : (code : ℕ) → Rested (waiting code).core
waiting_rested code = let s = size_so (code == 0) (code == 1) (code == 2) in record { number = omega arith; some = s.0; fits = s.1 }

abbrev FitAt : Standing → Type 0
FitAt (Waits i f) = Fit i.core
FitAt (Rests i reply) = Rested i.core
FitAt (Broken cause) = Unit {0}
FitAt Astray = Unit {0}

turned_fit : (c : Core) (drawn : Bool) (xs : List ℕ) → Fit c → Fit (turned c (after c.number) [] drawn xs)
turned_fit c drawn xs fit = record { number = after_small c.number; some = fit.some; fits = fit.fits; times = tt }

rested_of : (c : Core) → Fit c → Rested c
rested_of c fit = record { number = fit.number; some = fit.some; fits = fit.fits }

made_fit : (i : InitState) → Fit i.core → (k : Kind) → FitAt (made i k)
made_fit i fit (Again phase bads) = record { number = fit.number; some = fit.some; fits = fit.fits; times = fit.times }
made_fit i fit Onward = onward_fit i fit
made_fit i fit (Fails cause) = tt
made_fit i fit Wanders = tt

behind_fit : (i : InitState) → Fit i.core → (s : Standing) → Behind i s → FitAt s
behind_fit i fit s (waits j is number most none times) =
    subst FitAt (sym is)
    (record { number = subst (λ n. n < 4) (sym number) fit.number; some = subst (λ n. 2 ≤ n) (sym most) fit.some; fits = subst (λ n. n ≤ 251) (sym most) fit.fits; times = times })
behind_fit i fit s (draws j xs is core phase) = subst FitAt (sym is) (subst Fit (sym core) (turned_fit i.core true xs fit))
behind_fit i fit s (rests j reply is core) = subst FitAt (sym is) (subst Rested (sym core) (rested_of _ (turned_fit i.core false [] fit)))
behind_fit i fit s (fails cause is) = subst FitAt (sym is) tt
behind_fit i fit s (wanders is) = subst FitAt (sym is) tt

fit_noted : (s : Standing) (n : Note) → FitAt s → FitAt (noted s n)
fit_noted (Waits i f) n fit = go (more_follows i.core) refl
  where
    go : (t : Bool) → more_follows i.core ≡ t → FitAt (noted (Waits i f) n)
    go true e = subst FitAt (sym (hears_more i e f n)) (made_fit i fit (kind_of i n))
    go false e = behind_fit i fit (noted (Waits i f) n) (hears_last i e fit.times f n)
fit_noted (Rests i reply) n h = tt
fit_noted (Broken cause) n h = tt
fit_noted Astray n h = tt

-- where a call stands, its initiator is fit
abbrev CallFits : CallStanding → Type 0
CallFits (Carries w s) = FitAt s
CallFits (Comes to i) = Rested i.core
CallFits (BrokenBy cause) = Unit {0}
CallFits Strays = Unit {0}

starts_fit : (to : Step) (ns : List ℕ) (i : InitState) → Rested i.core → CallFits (walk_at by_client (next_of ns to) i)
starts_fit (Goes w) ns i r = record { number = r.number; some = r.some; fits = r.fits; times = tt }
starts_fit (Ends jobs l) ns i r = r
starts_fit (GivesUp g) ns i r = r

carried_fit : (w : Working) (ns : List ℕ) (s : Standing) → FitAt s → CallFits (walk_carried by_client (w, ns) s)
carried_fit w ns (Waits i f) fit = fit
carried_fit w ns (Rests i reply) r = starts_fit (replied (first_number ns) w reply) (later_numbers ns) i r
carried_fit w ns (Broken cause) fit = tt
carried_fit w ns Astray fit = tt

call_fits : (c : CallStanding) (ns : List Note) → CallFits c → CallFits (call_on c ns)
call_fits c [] h = h
call_fits c (n ∷ ns) h = call_fits (walk_noted by_client c n) ns (noted_fit c h)
  where
    noted_fit : (c : CallStanding) → CallFits c → CallFits (walk_noted by_client c n)
    noted_fit (Carries w s) h = carried_fit w.0 w.1 (noted s n) (fit_noted s n h)
    noted_fit (Comes to i) h = tt
    noted_fit (BrokenBy cause) h = tt
    noted_fit Strays h = tt

-- So the initiator rests behind a call as before it.
pub comes_rested : (ns : List ℕ) (from to : Step) (i j : InitState) (notes : List Note) → Rested i.core → call_stand ns from i notes ≡ Comes to j → Rested j.core
comes_rested ns from to i j notes r e = subst CallFits e (call_fits (call_at ns from i) notes (starts_fit from ns i r))

-- A call begins within it, whatever it is, and so does the end of all connections.
pub call_within : (l : EndState) (call : Call) → IsWithin l → AtEnd IsWithin (call_begins l call)
call_within l (Putting ws) h = begins_within l (puts_at_once ws) h
call_within l (Getting sap most key) h = begins_within l (record { sap = sap; task = Gets most key } ∷ []) h
call_within l (Finding name) h = begins_within l (record { sap = client_sap; task = Finds name } ∷ []) h

pub closes_within : (l : EndState) → IsWithin l → AtEnd IsWithin (closes l)
closes_within l h = begins_within l (leave_from client_saps) h
