-- What becomes of what is asked on the open link, by what its call on the field says.
use Rattle.std.proofs.Common.{◌≡◌, ℕ, List, [], true, false, Result, Ok, Err, IfOk, IsErr, Option, Some, None, refl, sym, ◌∙◌, ap, subst, inl, inr}
use Rattle.nfc_base.specs.Choosing.{Choosing}
use Rattle.nfc_base.specs.declared.carrier.EndCause.{EndCause}
use Rattle.nfc_base.specs.declared.carrier.EndCause.TheVariants as cause
use Rattle.nfc_base.specs.declared.event.Event.{Event}
use Rattle.air_core.specs.Turn.{Air}
use Rattle.air_core.specs.Conversation.{Note, Over, receptions}
use Rattle.dep_link.specs.Initiator.{InitState}
use Rattle.snep_core.specs.declared.fault.SnepFault.{SnepFault}
use Rattle.snep_core.specs.declared.fault.SnepFault.TheVariants as faults
use Rattle.snep_core.specs.declared.job.Ending.{Ending}
use Rattle.snep_core.specs.declared.job.Ending.TheVariants.{Done, Value, Sap, Refused}
use Rattle.snep_core.specs.declared.job.Job.TheVariants.{Over as Ended}
use Rattle.snep_core.specs.Accord.{Accords}
use Rattle.snep_core.specs.declared.slot.Slot.{Slot}
use Rattle.snep_core.specs.declared.job.OnSap.{OnSap}
use Rattle.snep_core.specs.Talk.{EndState, Ends, Task, Puts, Gets, Finds, all_closed, client_sap, one_on, sap_of_slot}
use Rattle.link_calls.specs.Asking.{LinkAsking, Call, Does, Closes, Finding, Getting, MayAsk, Putting, asking_of, call_begins, is_closing, put_from}
use Rattle.link_calls.specs.AtOnce.{AreApart, IsAtRest, ServedAtOnce}
use Rattle.link_calls.specs.Called.{AllCalled, AllFailed, Called, ClosingCalled, OpenAir, Served, TaskCalled}
use Rattle.link_calls.specs.declared.request.LinkRequest.{LinkRequest}
use Rattle.link_calls.specs.declared.request.LinkRequest.TheVariants as requests
use Rattle.link_calls.specs.declared.request.SlotMessage.{SlotMessage}
use Rattle.link_calls.specs.Calls.{CallFails, IsCutOff, IsMade}
use Rattle.bench_script.specs.declared.command.Command.{Command}
use Rattle.bench_script.specs.declared.command.Command.TheVariants.{Put, Get, Lookup, OnPut, OnGet, Unlink}
use Rattle.bench_script.specs.declared.command.Command.TheVariants as commands
use Rattle.bench_devices.specs.declared.device.Device.{Device}
use Rattle.bench_devices.specs.Device.{device_end}
use Rattle.bench_devices.specs.Keeping.{ghosts}
use Rattle.bench_devices.proofs.kinds.PeerHere.{none_at_rls}
use Rattle.bench_world.specs.declared.entry.Answer.{Answer}
use Rattle.bench_world.specs.declared.entry.Answer.TheVariants as answers
use Rattle.bench_world.specs.declared.entry.Loss.TheVariants as losses
use Rattle.bench_world.specs.World.{FarEnd}
use Rattle.bench_world.specs.Asked.{IsOnLink, asked_on_link}
use Rattle.bench_world.specs.Calls.{slots_behind, told_at_once, told_ending, told_jobs, told_loss}
use Rattle.bench_world.specs.Legal.{Accepts, AnswerLaw, FrontOf, IsAskedBy, Joins, due, joins_for, state_after}
use Rattle.bench_world.specs.Links.{OpenLink}
use Rattle.bench_world.specs.private.LinkTaken.{TakesLink, fault_told, put_back, put_down, told_request, told_slots}
use Rattle.bench_world.specs.Obeying.{Machines, IsCutOffBy, IsSettled, ObeyedBy, state_at, under}
use Rattle.bench_world.specs.Peers.{Peers}
use Rattle.bench_world.proofs.open_link.OnCall.{given_by}
use Rattle.bench_world.proofs.tags.Fronts.{Ends as FarEnds}
use Rattle.bench_world.proofs.open_link.CloseOver as closing
use Rattle.bench_world.proofs.open_link.LinkOver.{Before, GoneAt, OpenAt, accords, called, counted, far_is, gone_so, its, link, open_so, short_so, so, spot}
use Rattle.bench_world.proofs.open_link.Saying.{Left, LeftBy, Says, all_left, find_left, get_left, put_left, says_all, says_find, says_get, says_put}
use Rattle.bench_world.proofs.open_link.SlotsTold.{told_by_slots}
use Rattle.bench_world.proofs.open_link.Talking as talking
use Rattle.bench_world.proofs.open_link.Talks.{off, on_link}

-- where no link is open nothing is sent
module _ (air : Air Device) (ends : FarEnds) (peers : Peers) (settled : IsSettled (under ends peers None air)) (joins : Joins) where
  abbrev Front : Command → List Event → Type 0
  Front c es = FrontOf (state_at (under ends peers None air)) (given_by joins) c es (Some answers.NoLink) (state_at (under ends peers None air))

  none_so : (c : Command) → Accepts (state_at (under ends peers None air)) c → IsAskedBy (state_at (under ends peers None air)) c [] → joins ≡ joins_for c joins
      → state_at (under ends peers None air) ≡ state_after (state_at (under ends peers None air)) joins c [] (Some answers.NoLink)
      → ((ns : List Note) → due (state_at (under ends peers None air)) (given_by joins) c ns ≡ Over)
      → ((es : List Event) → AnswerLaw (state_at (under ends peers None air)) (given_by joins) c es answers.NoLink)
      → ObeyedBy joins (under ends peers None air) (under ends peers None air) c answers.NoLink
  none_so c may asks takes after over law = record {
    given = given_by joins;
    joined = refl;
    front = subst (Front c) (sym settled.idle.quiet) (record { accepted = may; asks = asks; takes = takes; turns = record { moves = []; made = refl }; fates = tt; each = tt; after = after });
    over = over (receptions air.trace);
    answered = law air.trace;
    tame = settled.idle.tame;
    tidy = settled.idle.tidy;
    places = settled.places;
    link = tt;
  }

  none_open : (c : Command) → IsOnLink c → Accepts (state_at (under ends peers None air)) c → ObeyedBy joins (under ends peers None air) (under ends peers None air) c answers.NoLink
  none_open (Put m) on may = none_so (Put m) may refl refl refl (λ ns. refl) (λ es. refl)
  none_open (Get most key) on may = none_so (Get most key) may refl refl refl (λ ns. refl) (λ es. refl)
  none_open (Lookup name) on may = none_so (Lookup name) may refl refl refl (λ ns. refl) (λ es. refl)
  none_open (OnPut slot m) on may = none_so (OnPut slot m) may refl refl refl (λ ns. refl) (λ es. refl)
  none_open (OnGet slot most key) on may = none_so (OnGet slot most key) may refl refl refl (λ ns. refl) (λ es. refl)
  none_open (commands.Puts puts) on may = none_so (commands.Puts puts) may refl refl refl (λ ns. refl) (λ es. refl)
  none_open Unlink on may = none_so Unlink may refl refl refl (λ ns. refl) (λ es. refl)
  none_open c on may = off on

pub nowhere : (old new : Machines) → IsSettled old → old.link ≡ None → new ≡ old → (joins : Joins) (c : Command) (asked : LinkAsking) → asked_on_link c ≡ Some asked → Accepts (state_at old) c
    → ObeyedBy joins old new c answers.NoLink
nowhere old new settled none same joins c asked asks may =
    let N : Option OpenLink → Machines = λ o. under old.ends old.peers o old.air in
    let S : IsSettled (N None) = subst (λ o. IsSettled (N o)) none settled in
    let fits : Accepts (state_at (N None)) c = subst (λ o. Accepts (state_at (N o)) c) none may in
    subst (λ x. ObeyedBy joins old x c answers.NoLink) (sym same)
    (subst (λ o. ObeyedBy joins (N o) (N o) c answers.NoLink) (sym none) (none_open old.air old.ends old.peers S joins c (on_link c asked asks) fits))

-- one command alone closes it
closes_is : (c : Command) → asked_on_link c ≡ Some Closes → Unlink ≡ c
closes_is Unlink e = refl
closes_is c e = absurd cc

module _ (old mid : Machines) (settled : IsSettled old) (q : ℕ) (l : OpenLink) (far : Choosing FarEnd) (t : TakesLink old q l far.end mid) (joins : Joins) (counts : far.numbers ≡ joins.far)
    (b : Air Device) (j : InitState) (after : Choosing FarEnd) (client : EndState) (slots : List Slot) where
  abbrev Of : FarEnd → Choosing FarEnd
  Of f = counted old mid settled q l far.end t joins b j after client slots f

  abbrev Own : FarEnd
  Own = its old mid settled q l far.end t

  -- what holds of the end that was taken, and of the field it was taken from, holds of the end of the link's peer
  of_own : (P : Choosing FarEnd → Air Device → Type 0) → P far mid.air → P (Of Own) old.air
  of_own P p =
      let whole : far ≡ Of far.end = ap (λ ns. record { end = far.end; numbers = ns }) counts in
      subst (P (Of Own)) (ap (λ (m : Machines). m.air) t.left) (subst (λ f. P f mid.air) (whole ∙ ap Of (far_is old mid settled q l far.end t)) p)

  accord : Accords l.client far.end
  accord = accords old mid settled q l far.end t

  abbrev pub Was : OpenAir Device
  Was = record { air = mid.air; initiator = l.initiator; far = far }

  abbrev pub Now : OpenAir Device
  Now = record { air = b; initiator = j; far = after }

  abbrev pub Back : Machines
  Back = put_back (called old mid settled q l far.end t joins b j after client slots) q after.end (link old mid settled q l far.end t joins b j after client slots)

  abbrev pub Down : Machines
  Down = put_down (called old mid settled q l far.end t joins b j after client slots) q after.end

  abbrev Stood : Machines
  Stood = Before old mid settled q l far.end t joins b j after client slots

  abbrev Gone : Machines
  Gone = GoneAt old mid settled q l far.end t joins b j after client slots (spot old mid settled q l far.end t)

  module _ (c : Command) (may : Accepts (state_at old) c) where
    may_then : Accepts (state_at Stood) c
    may_then = subst (λ o. Accepts (state_at (under old.ends old.peers o old.air)) c) t.linked may

    module _ (call : Call) (asks : asked_on_link c ≡ Some (Does call)) where
      abbrev Made : List OnSap → Choosing FarEnd → Air Device → Type 0
      Made jobs f a = IsMade ghosts device_end joins.own (call_begins l.client call) a l.initiator f b j after (Ends jobs client)

      ended : (jobs : List OnSap) (answer : Answer) (new : Machines) → new ≡ Back → Made jobs far mid.air → slots ≡ slots_behind call jobs l.slots → told_jobs call jobs ≡ Some answer
          → Says call Own answer client after.end
          → ObeyedBy joins old new c answer
      ended jobs answer new back made same told says =
          open_so old mid settled q l far.end t joins b j after client slots c new answer back
          (subst (λ xs. ObeyedBy joins Stood (OpenAt old mid settled q l far.end t joins b j after client xs (spot old mid settled q l far.end t)) c answer) (sym same)
          (talking.made_so old.air old.ends old.peers l (so old mid settled q l far.end t) c call asks may_then joins b j after client jobs answer (of_own (Made jobs) made) told says))

      abbrev Fails : SnepFault → Choosing FarEnd → Air Device → Type 0
      Fails x f a = CallFails ghosts device_end joins.own (call_begins l.client call) a l.initiator f b j after client x

      lost : (why : EndCause) (answer : Answer) (new : Machines) → new ≡ Down → Fails (faults.LinkEnded why) far mid.air → Left call Own after.end → told_loss why ≡ Some answer
          → ObeyedBy joins old new c answer
      lost why answer new down goes left told =
          gone_so old mid settled q l far.end t joins b j after client slots c new answer down (by why told (of_own (Fails (faults.LinkEnded why)) goes))
        where
          by : (w : EndCause) → told_loss w ≡ Some answer → Fails (faults.LinkEnded w) (Of Own) old.air → ObeyedBy joins Stood Gone c answer
          by w e (inl (bad, came, made)) = absurd cc
          by cause.FieldLost e (inr end) = talking.lost_so old.air old.ends old.peers l (so old mid settled q l far.end t) c call asks may_then joins b j after client cause.FieldLost answer end e left
          by cause.SixBad e (inr end) = talking.lost_so old.air old.ends old.peers l (so old mid settled q l far.end t) c call asks may_then joins b j after client cause.SixBad answer end e left
          by cause.Protocol e (inr never) = absurd never
          by cause.Memory e (inr never) = absurd never

      short : (new : Machines) → new ≡ Down → Fails faults.Memory far mid.air → Left call Own after.end → IsCutOffBy joins old new c
      short new down goes left = short_so old mid settled q l far.end t joins b j after client slots c new down (by (of_own (Fails faults.Memory) goes))
        where
          by : Fails faults.Memory (Of Own) old.air → IsCutOffBy joins Stood Gone c
          by (inl (bad, came, made)) = absurd cc
          by (inr cut) = talking.short_so old.air old.ends old.peers l (so old mid settled q l far.end t) c call asks may_then joins b j after client cut left

      -- nothing else ends one
      none_else : (x : SnepFault) → (x ≡ faults.BadPeer → ⊥) → (Fails x far mid.air → IsCutOff ghosts device_end joins.own (call_begins l.client call) mid.air l.initiator far b j after x)
      none_else x apart (inl (bad, came, made)) = absurd (apart bad)
      none_else x apart (inr cut) = cut

      told : (x : SnepFault) (new : Machines) → new ≡ Down → Fails x far mid.air → LeftBy call Own after.end x → IfOk (fault_told x) (λ answer. ObeyedBy joins old new c answer)
      told (faults.LinkEnded cause.FieldLost) new down goes left = lost cause.FieldLost (answers.LinkEnded losses.FieldLost) new down goes left refl
      told (faults.LinkEnded cause.SixBad) new down goes left = lost cause.SixBad (answers.LinkEnded losses.SixBad) new down goes left refl
      told (faults.LinkEnded cause.Protocol) new down goes left = tt
      told (faults.LinkEnded cause.Memory) new down goes left = tt
      told faults.Reject new down goes left = tt
      told faults.NotFound new down goes left = tt
      told faults.Excess new down goes left = tt
      told faults.NotImplemented new down goes left = tt
      told faults.Memory new down goes left = tt
      told faults.BadPeer new down goes left = tt
      told faults.SlotBusy new down goes left = tt

      cut : (x : SnepFault) (new : Machines) → new ≡ Down → Fails x far mid.air → LeftBy call Own after.end x → IsErr (fault_told x) → IsCutOffBy joins old new c
      cut (faults.LinkEnded cause.FieldLost) new down goes left e = absurd cc
      cut (faults.LinkEnded cause.SixBad) new down goes left e = absurd cc
      cut (faults.LinkEnded cause.Protocol) new down goes left e = absurd (none_else (faults.LinkEnded cause.Protocol) (λ q. cc) goes)
      cut (faults.LinkEnded cause.Memory) new down goes left e = absurd (none_else (faults.LinkEnded cause.Memory) (λ q. cc) goes)
      cut faults.Reject new down goes left e = absurd (none_else faults.Reject (λ q. cc) goes)
      cut faults.NotFound new down goes left e = absurd (none_else faults.NotFound (λ q. cc) goes)
      cut faults.Excess new down goes left e = absurd (none_else faults.Excess (λ q. cc) goes)
      cut faults.NotImplemented new down goes left e = absurd (none_else faults.NotImplemented (λ q. cc) goes)
      cut faults.Memory new down goes left e = short new down goes left
      cut faults.SlotBusy new down goes left e = absurd (none_else faults.SlotBusy (λ q. cc) goes)
      cut faults.BadPeer new down goes left e = absurd left

    -- what a call of one task did at the peer
    module _ (sap : ℕ) (task : Task) where
      abbrev Did : Result Ending SnepFault → Type 0
      Did result = TaskCalled ghosts device_end joins.own sap task l.client l.slots Was result client slots Now

      served : (result : Result Ending SnepFault) → Did result → Served sap task Own result client after.end
      served result k = of_own (λ f a. Served sap task f.end result client after.end) (k.serves accord)

    -- the same of the closing
    module _ (asks : asked_on_link c ≡ Some Closes) where
      abbrev Closed : Result Ending SnepFault → Type 0
      Closed result = ClosingCalled ghosts device_end joins.own l.client Was result client Now

      closed : (ending : Ending) (new : Machines) → new ≡ Down → Closed (Ok ending) → ObeyedBy joins old new c answers.Unlinked
      closed Done new down k =
          subst (λ x. ObeyedBy joins old new x answers.Unlinked) (closes_is c asks)
          (closing.told_closed old mid settled q l far t joins counts b j after client slots new down (Ends all_closed client) k.goes k.serves)
      closed (Value v) new down k = absurd k.goes
      closed (Sap n) new down k = absurd k.goes
      closed (Refused why) new down k = absurd k.goes

      closing_lost : (why : EndCause) (answer : Answer) (new : Machines) → new ≡ Down → Closed (Err (faults.LinkEnded why)) → told_loss why ≡ Some answer → ObeyedBy joins old new c answer
      closing_lost why answer new down k told =
          subst (λ x. ObeyedBy joins old new x answer) (closes_is c asks)
          (closing.told_lost old mid settled q l far t joins counts b j after client slots new down (faults.LinkEnded why) why refl k.goes k.serves answer told)

      told_closing_fault : (x : SnepFault) (new : Machines) → new ≡ Down → Closed (Err x) → IfOk (fault_told x) (λ answer. ObeyedBy joins old new c answer)
      told_closing_fault (faults.LinkEnded cause.FieldLost) new down k = closing_lost cause.FieldLost (answers.LinkEnded losses.FieldLost) new down k refl
      told_closing_fault (faults.LinkEnded cause.SixBad) new down k = closing_lost cause.SixBad (answers.LinkEnded losses.SixBad) new down k refl
      told_closing_fault (faults.LinkEnded cause.Protocol) new down k = tt
      told_closing_fault (faults.LinkEnded cause.Memory) new down k = tt
      told_closing_fault faults.Reject new down k = tt
      told_closing_fault faults.NotFound new down k = tt
      told_closing_fault faults.Excess new down k = tt
      told_closing_fault faults.NotImplemented new down k = tt
      told_closing_fault faults.Memory new down k = tt
      told_closing_fault faults.BadPeer new down k = tt
      told_closing_fault faults.SlotBusy new down k = tt

      closing_cut : (x : SnepFault) (new : Machines) → new ≡ Down → Closed (Err x) → IsErr (fault_told x) → IsCutOffBy joins old new c
      closing_cut (faults.LinkEnded cause.FieldLost) new down k e = absurd cc
      closing_cut (faults.LinkEnded cause.SixBad) new down k e = absurd cc
      closing_cut (faults.LinkEnded cause.Protocol) new down k e = absurd k.goes
      closing_cut (faults.LinkEnded cause.Memory) new down k e = absurd k.goes
      closing_cut faults.Reject new down k e = absurd k.goes
      closing_cut faults.NotFound new down k e = absurd k.goes
      closing_cut faults.Excess new down k e = absurd k.goes
      closing_cut faults.NotImplemented new down k e = absurd k.goes
      closing_cut faults.Memory new down k e =
          subst (λ x. IsCutOffBy joins old new x) (closes_is c asks) (closing.told_short old mid settled q l far t joins counts b j after client slots new down faults.Memory refl k.goes k.serves)
      closing_cut faults.BadPeer new down k e = absurd (k.serves accord none_at_rls)
      closing_cut faults.SlotBusy new down k e = absurd k.goes

  -- by what was asked
  module _ (c : Command) (may : Accepts (state_at old) c) (new : Machines) where
    abbrev Asked : LinkRequest → Result Ending SnepFault → Type 0
    Asked r result = Called ghosts device_end joins.own r l.client l.slots Was result client slots Now

    -- of messages that were put at once
    all_served : (ws : List SlotMessage) (x : SnepFault) → AllFailed ghosts device_end joins.own ws l.client Was x client Now → LeftBy (Putting ws) Own after.end x
    all_served ws x k = all_left ws Own x client after.end (of_own (λ f a. ServedAtOnce ws f.end (Err x) client after.end) (k.serves accord))

    all_ended : (ws : List SlotMessage) → asked_on_link c ≡ Some (Does (Putting ws)) → AreApart ws → IsAtRest l.slots → new ≡ Back
        → AllCalled ghosts device_end joins.own ws l.client l.slots Was client slots Now → ObeyedBy joins old new c (told_slots ws slots)
    all_ended ws e apart rest back k =
        let told_is : told_at_once ws k.jobs ≡ Some (told_slots ws slots) = told_by_slots ws l.slots slots k.jobs apart rest k.told_is k.rest in
        ended c may (Putting ws) e k.jobs (told_slots ws slots) new back k.goes k.told_is told_is
        (says_all ws Own k.jobs (told_slots ws slots) client after.end told_is (of_own (λ f a. ServedAtOnce ws f.end (Ok k.jobs) client after.end) (k.serves accord)))

    pub asked_ended : (r : LinkRequest) (ending : Ending) → asked_on_link c ≡ Some (asking_of r) → is_closing (asking_of r) ≡ false → MayAsk r → IsAtRest l.slots → new ≡ Back → Asked r (Ok ending)
        → ObeyedBy joins old new c (told_request r ending slots)
    asked_ended (requests.Put m) ending e open_ may_ask rest back k =
        let x = says_put m.now Own ending client after.end (served c may client_sap (Puts m.now) (Ok ending) k) in
        ended c may (put_from 0 m.now) e (one_on client_sap (Ended ending)) (told_ending ending) new back k.goes k.tells x.1 x.0
    asked_ended (requests.Get slot most key) ending e open_ may_ask rest back k =
        ended c may (Getting (sap_of_slot slot) most key.now) e (one_on (sap_of_slot slot) (Ended ending)) (told_ending ending) new back k.goes k.tells refl
        (says_get (sap_of_slot slot) most key.now Own ending client after.end (served c may (sap_of_slot slot) (Gets most key.now) (Ok ending) k))
    asked_ended (requests.Lookup name) ending e open_ may_ask rest back k =
        ended c may (Finding name.now) e (one_on client_sap (Ended ending)) (told_ending ending) new back k.goes k.tells refl
        (says_find name.now Own ending client after.end (served c may client_sap (Finds name.now) (Ok ending) k))
    asked_ended (requests.Run ws) Done e open_ may_ask rest back k = all_ended ws.now e may_ask rest back k
    asked_ended (requests.Run ws) (Value v) e open_ may_ask rest back k = absurd k
    asked_ended (requests.Run ws) (Sap n) e open_ may_ask rest back k = absurd k
    asked_ended (requests.Run ws) (Refused why) e open_ may_ask rest back k = absurd k
    asked_ended requests.Close ending e open_ may_ask rest back k = absurd cc

    pub asked_closed : (r : LinkRequest) (ending : Ending) → asked_on_link c ≡ Some (asking_of r) → is_closing (asking_of r) ≡ true → new ≡ Down → Asked r (Ok ending)
        → ObeyedBy joins old new c answers.Unlinked
    asked_closed requests.Close ending e over down k = closed c may e ending new down k
    asked_closed (requests.Put m) ending e over down k = absurd cc
    asked_closed (requests.Get slot most key) ending e over down k = absurd cc
    asked_closed (requests.Lookup name) ending e over down k = absurd cc
    asked_closed (requests.Run ws) ending e over down k = absurd cc

    pub asked_told : (r : LinkRequest) (x : SnepFault) → asked_on_link c ≡ Some (asking_of r) → new ≡ Down → Asked r (Err x) → IfOk (fault_told x) (λ answer. ObeyedBy joins old new c answer)
    asked_told (requests.Put m) x e down k = told c may (put_from 0 m.now) e x new down k.goes (put_left m.now Own x client after.end (served c may client_sap (Puts m.now) (Err x) k))
    asked_told (requests.Get slot most key) x e down k =
        told c may (Getting (sap_of_slot slot) most key.now) e x new down k.goes (get_left (sap_of_slot slot) most key.now Own x client after.end
        (served c may (sap_of_slot slot) (Gets most key.now) (Err x) k))
    asked_told (requests.Lookup name) x e down k = told c may (Finding name.now) e x new down k.goes (find_left name.now Own x client after.end (served c may client_sap (Finds name.now) (Err x) k))
    asked_told (requests.Run ws) x e down k = told c may (Putting ws.now) e x new down k.goes (all_served ws.now x k)
    asked_told requests.Close x e down k = told_closing_fault c may e x new down k

    pub asked_cut : (r : LinkRequest) (x : SnepFault) → asked_on_link c ≡ Some (asking_of r) → new ≡ Down → Asked r (Err x) → IsErr (fault_told x) → IsCutOffBy joins old new c
    asked_cut (requests.Put m) x e down k err = cut c may (put_from 0 m.now) e x new down k.goes (put_left m.now Own x client after.end (served c may client_sap (Puts m.now) (Err x) k)) err
    asked_cut (requests.Get slot most key) x e down k err =
        cut c may (Getting (sap_of_slot slot) most key.now) e x new down k.goes (get_left (sap_of_slot slot) most key.now Own x client after.end
        (served c may (sap_of_slot slot) (Gets most key.now) (Err x) k)) err
    asked_cut (requests.Lookup name) x e down k err = cut c may (Finding name.now) e x new down k.goes (find_left name.now Own x client after.end (served c may client_sap (Finds name.now) (Err x) k))
        err
    asked_cut (requests.Run ws) x e down k err = cut c may (Putting ws.now) e x new down k.goes (all_served ws.now x k) err
    asked_cut requests.Close x e down k err = closing_cut c may e x new down k err
