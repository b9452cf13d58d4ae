-- What is due where a link is opened, and on one, is of NFC-A: frames of NFC-DEP are.
use Rattle.std.proofs.Common.{◌≡◌, ℕ, suc, nat_lt, List, [], ◌∷◌, Bool, true, false, if◌then◌else◌, Option, Some, None, Ok, Err, refl, sym, ap, subst}
use Rattle.nfc_base.specs.Signal.{Signal}
use Rattle.nfc_base.specs.declared.carrier.EndCause.TheVariants as cause
use Rattle.nfc_base.specs.declared.event.Heard.{Heard}
use Rattle.nfc_base.specs.declared.event.Heard.TheVariants.{Whole, Collided, Damaged, Silent}
use Rattle.nfc_base.specs.declared.frame.Tech.TheVariants as techs
use Rattle.air_core.specs.Conversation.{Note, Lit, Got, Lost, Asks}
use Rattle.air_core.proofs.DueWaits.{due_all}
use Rattle.air_core.proofs.Following.{over_is_no_request, same_asked}
use Rattle.arrayvec.specs.ArrayVec.{ArrayVec}
use Rattle.dep_link.specs.Activating.{atr_frame, told_atr}
use Rattle.dep_link.specs.Asking.{Standing, Waits, Rests, Broken, Astray, due_at, goes_by, noted}
use Rattle.dep_link.specs.Frames.{spelled}
use Rattle.dep_link.specs.Initiator as initiator
use Rattle.dep_link.specs.Initiator.{InitState, framed_next, heard_next, waiting}
use Rattle.dep_link.specs.Releasing.{rls_frame}
use Rattle.snep_core.specs.Talk.{Step, Goes, Ends, GivesUp, closes}
use Rattle.link_calls.specs.Asking.{LinkAsking, Does, Closes, call_begins}
use Rattle.link_calls.specs.CallDue.{CallStanding, by_client, call_at, call_noted, next_of}
use Rattle.link_calls.specs.ClosingDue.{ClosingStanding, Calls, Released, Releasing, closing_at, closing_due_at, closing_noted, closing_on}
use Rattle.link_calls.specs.Exchanging.{by_hand, sending}
use Rattle.link_calls.specs.Walk as walks
use Rattle.link_calls.specs.Walk.{Course, Giver, Through, Underway, Walk, walk_at, walk_carried, walk_due_at, walk_noted, walk_on}
use Rattle.bench_script.specs.declared.command.DeviceId.TheVariants as ids
use Rattle.bench_devices.specs.declared.polling.SeenKind.{SeenKind}
use Rattle.bench_devices.specs.declared.polling.SeenKind.TheVariants as seen
use Rattle.bench_devices.specs.Opening.{linking, peer_next, then_opens}
use Rattle.bench_devices.specs.Polling as polls
use Rattle.bench_devices.specs.Polling.{Followed, Told, asks, selecting}
use Rattle.bench_world.specs.Calls.{due_asked, due_if}
use Rattle.bench_world.specs.Forging.{Activates, Exchanges, Forging, Strays, Unlinked, bad_again, forge_due, forge_noted, forge_stand, forged_general, forging, heard_atr, linked_by, peer_forges}
use Rattle.bench_world.specs.Forging.{then_forges}
use Rattle.bench_world.specs.Links.{OpenLink}
use Rattle.trace_audit.proofs.TechPolling.{AsksOf, select_tech}
use Rattle.trace_audit.proofs.TechTurns.{IsOf}

abbrev IsOfA : Signal → Type 0
IsOfA = IsOf techs.A

atr_of_a : (general : List ℕ) → IsOfA (atr_frame general)
atr_of_a general = refl

-- a link is asked for
peer_tech : (kind : SeenKind) (general : List ℕ) → AsksOf techs.A (peer_next kind general)
peer_tech seen.T2 general ns f e = absurd (over_is_no_request f e)
peer_tech seen.T4 general ns f e = absurd (over_is_no_request f e)
peer_tech seen.T5 general ns f e = absurd (over_is_no_request f e)
peer_tech seen.Peer general ns f e = due_all IsOfA (atr_frame general ∷ []) (atr_of_a general, tt) ns f e

opens_tech : (general : List ℕ) (p : Followed SeenKind) (f : Signal) → (asks p ≡ Asks f → IsOfA f) → then_opens general p ≡ Asks f → IsOfA f
opens_tech general (polls.Asks n) f first e = first e
opens_tech general (Told (Ok kind) ns) f first e = peer_tech kind general ns f e
opens_tech general (Told (Err x) ns) f first e = absurd (over_is_no_request f e)

pub linking_tech : (id general : List ℕ) → AsksOf techs.A (linking (ids.A id) general)
linking_tech id general ns f e = opens_tech general (selecting (ids.A id) ns) f (select_tech (ids.A id) ns f) e

-- One exchange of NFC-DEP, ...
abbrev StandsOfA : Standing → Type 0
StandsOfA (Waits i f) = IsOfA f
StandsOfA (Rests i reply) = Unit {0}
StandsOfA (Broken e) = Unit {0}
StandsOfA Astray = Unit {0}

goes_of_a : (i : InitState) (does : initiator.Next) → StandsOfA (goes_by i (framed_next does))
goes_of_a i (initiator.Asks v) = refl
goes_of_a i (initiator.Gives xs) = tt
goes_of_a i initiator.GivesUp = tt
goes_of_a i initiator.Refuses = tt

noted_of_a : (s : Standing) (n : Note) → StandsOfA (noted s n)
noted_of_a (Waits i f) Lit = tt
noted_of_a (Waits i f) Lost = tt
noted_of_a (Waits i f) (Got h) = goes_of_a (heard_next i h).state (heard_next i h).does
noted_of_a (Rests i reply) n = tt
noted_of_a (Broken e) n = tt
noted_of_a Astray n = tt

stands_tech : (s : Standing) (f : Signal) → StandsOfA s → due_at s ≡ Asks f → IsOfA f
stands_tech (Waits i g) f h e = subst IsOfA (same_asked g f e) h
stands_tech (Rests i reply) f h e = absurd (over_is_no_request f e)
stands_tech (Broken x) f h e = absurd (over_is_no_request f e)
stands_tech Astray f h e = absurd (over_is_no_request f e)

-- ... and one after the other.
abbrev WalksOfA : {W E : Type 0} → Walk W E → Type 0
WalksOfA (walks.Carries w s) = StandsOfA s
WalksOfA (walks.Comes e i) = Unit {0}
WalksOfA (walks.BrokenBy why) = Unit {0}
WalksOfA walks.Strays = Unit {0}

walk_tech : {W E : Type 0} (w : Walk W E) (f : Signal) → WalksOfA w → walk_due_at w ≡ Asks f → IsOfA f
walk_tech (walks.Carries w s) f h e = stands_tech s f h e
walk_tech (walks.Comes x i) f h e = absurd (over_is_no_request f e)
walk_tech (walks.BrokenBy why) f h e = absurd (over_is_no_request f e)
walk_tech walks.Strays f h e = absurd (over_is_no_request f e)

module _ {W E : Type 0} (g : Giver W E) where
  at_of_a : (c : Course W E) (i : InitState) → WalksOfA (walk_at g c i)
  at_of_a (Underway w) i = refl
  at_of_a (Through e) i = tt

  carried_of_a : (w : W) (s : Standing) → StandsOfA s → WalksOfA (walk_carried g w s)
  carried_of_a w (Waits i f) h = h
  carried_of_a w (Rests i reply) h = at_of_a (g.told w reply) i
  carried_of_a w (Broken why) h = tt
  carried_of_a w Astray h = tt

  walks_of_a : (c : Walk W E) (n : Note) → WalksOfA (walk_noted g c n)
  walks_of_a (walks.Carries w s) n = carried_of_a w (noted s n) (noted_of_a s n)
  walks_of_a (walks.Comes e i) n = tt
  walks_of_a (walks.BrokenBy why) n = tt
  walks_of_a walks.Strays n = tt

  on_of_a : (ns : List Note) (c : Walk W E) → WalksOfA c → WalksOfA (walk_on g c ns)
  on_of_a [] c h = h
  on_of_a (n ∷ ns) c h = on_of_a ns (walk_noted g c n) (walks_of_a c n)

-- A call and a closing on the link that is open.
abbrev ClosesOfA : ClosingStanding → Type 0
ClosesOfA (Calls c) = WalksOfA c
ClosesOfA (Releasing to) = Unit {0}
ClosesOfA (Released to) = Unit {0}

step_of_a : (to : Step) (i : InitState) → ClosesOfA (closing_at (walks.Comes to i))
step_of_a (Goes w) i = tt
step_of_a (Ends jobs l) i = tt
step_of_a (GivesUp l) i = tt

closing_of_a : (c : CallStanding) → WalksOfA c → ClosesOfA (closing_at c)
closing_of_a (walks.Carries w s) h = h
closing_of_a (walks.Comes to i) h = step_of_a to i
closing_of_a (walks.BrokenBy why) h = tt
closing_of_a walks.Strays h = tt

closes_of_a : (c : ClosingStanding) (n : Note) → ClosesOfA (closing_noted c n)
closes_of_a (Calls c) n = closing_of_a (call_noted c n) (walks_of_a by_client c n)
closes_of_a (Releasing to) Lit = tt
closes_of_a (Releasing to) (Got h) = tt
closes_of_a (Releasing to) Lost = tt
closes_of_a (Released to) n = tt

closing_on_of_a : (ns : List Note) (c : ClosingStanding) → ClosesOfA c → ClosesOfA (closing_on c ns)
closing_on_of_a [] c h = h
closing_on_of_a (n ∷ ns) c h = closing_on_of_a ns (closing_noted c n) (closes_of_a c n)

closing_tech : (c : ClosingStanding) (f : Signal) → ClosesOfA c → closing_due_at c ≡ Asks f → IsOfA f
closing_tech (Calls c) f h e = walk_tech c f h e
closing_tech (Releasing to) f h e = ap (λ (g : Signal). g.tech) (sym (same_asked rls_frame f e))
closing_tech (Released to) f h e = absurd (over_is_no_request f e)

asked_tech : (asked : LinkAsking) (l : OpenLink) (joins : List ℕ) → AsksOf techs.A (due_asked asked l joins)
asked_tech (Does call) l joins ns f e =
    let from : Step = call_begins l.client call in
    walk_tech (walk_on by_client (call_at joins from l.initiator) ns) f
    (on_of_a by_client ns (call_at joins from l.initiator) (at_of_a by_client (next_of joins from) l.initiator)) e
asked_tech Closes l joins ns f e =
    let at : CallStanding = call_at joins (closes l.client) l.initiator in
    closing_tech (closing_on (closing_at at) ns) f
    (closing_on_of_a ns (closing_at at) (closing_of_a at (at_of_a by_client (next_of joins (closes l.client)) l.initiator))) e

pub call_tech : (asked : LinkAsking) (o : Option OpenLink) (joins : List ℕ) → AsksOf techs.A (λ ns. due_if o (λ l. due_asked asked l joins ns))
call_tech asked None joins ns f e = absurd (over_is_no_request f e)
call_tech asked (Some l) joins ns f e = asked_tech asked l joins ns f e

-- Payloads that are written by hand, over a link of their own.
abbrev ForgesOfA : Forging → Type 0
ForgesOfA (Activates bad) = Unit {0}
ForgesOfA (Exchanges w) = WalksOfA w
ForgesOfA (Unlinked why) = Unit {0}
ForgesOfA Strays = Unit {0}

module _ (payloads : List (List ℕ)) where
  linked_of_a : (o : Option (ℕ × ArrayVec ℕ)) → ForgesOfA (linked_by payloads o)
  linked_of_a None = tt
  linked_of_a (Some p) = at_of_a by_hand (sending payloads []) (waiting p.0)

  bad_of_a : (bad : ℕ) → ForgesOfA (bad_again bad)
  bad_of_a bad = by_count (nat_lt bad 5)
    where
      by_count : (v : Bool) → ForgesOfA (if v then Activates (suc bad) else Unlinked cause.SixBad)
      by_count true = tt
      by_count false = tt

  heard_of_a : (bad : ℕ) (h : Heard) → ForgesOfA (heard_atr payloads bad h)
  heard_of_a bad (Whole f) = linked_of_a (told_atr (spelled f))
  heard_of_a bad (Collided f) = bad_of_a bad
  heard_of_a bad Damaged = bad_of_a bad
  heard_of_a bad Silent = bad_of_a bad

  forges_of_a : (s : Forging) (n : Note) → ForgesOfA (forge_noted payloads s n)
  forges_of_a (Activates bad) Lit = tt
  forges_of_a (Activates bad) (Got h) = heard_of_a bad h
  forges_of_a (Activates bad) Lost = tt
  forges_of_a (Exchanges w) n = walks_of_a by_hand w n
  forges_of_a (Unlinked why) n = tt
  forges_of_a Strays n = tt

  stand_of_a : (ns : List Note) (s : Forging) → ForgesOfA s → ForgesOfA (forge_stand payloads s ns)
  stand_of_a [] s h = h
  stand_of_a (n ∷ ns) s h = stand_of_a ns (forge_noted payloads s n) (forges_of_a s n)

  forge_tech : (s : Forging) (f : Signal) → ForgesOfA s → forge_due s ≡ Asks f → IsOfA f
  forge_tech (Activates bad) f h e = ap (λ (g : Signal). g.tech) (sym (same_asked (atr_frame forged_general) f e))
  forge_tech (Exchanges w) f h e = walk_tech w f h e
  forge_tech (Unlinked why) f h e = absurd (over_is_no_request f e)
  forge_tech Strays f h e = absurd (over_is_no_request f e)

  peer_forges_tech : (kind : SeenKind) → AsksOf techs.A (peer_forges payloads kind)
  peer_forges_tech seen.T2 ns f e = absurd (over_is_no_request f e)
  peer_forges_tech seen.T4 ns f e = absurd (over_is_no_request f e)
  peer_forges_tech seen.T5 ns f e = absurd (over_is_no_request f e)
  peer_forges_tech seen.Peer ns f e = forge_tech (forge_stand payloads (Activates 0) ns) f (stand_of_a ns (Activates 0) tt) e

  then_forges_tech : (p : Followed SeenKind) (f : Signal) → (asks p ≡ Asks f → IsOfA f) → then_forges payloads p ≡ Asks f → IsOfA f
  then_forges_tech (polls.Asks n) f first e = first e
  then_forges_tech (Told (Ok kind) ns) f first e = peer_forges_tech kind ns f e
  then_forges_tech (Told (Err x) ns) f first e = absurd (over_is_no_request f e)

pub forging_tech : (id : List ℕ) (payloads : List (List ℕ)) → AsksOf techs.A (forging id payloads)
forging_tech id payloads ns f e = then_forges_tech payloads (selecting (ids.A id) ns) f (select_tech (ids.A id) ns f) e
