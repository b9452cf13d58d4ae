-- What the tag with an identifier holds stays through a command that doesn't touch it.
use Rattle.bench_world.specs.Legal.{ForgeLaw}
use Rattle.bench_world.specs.Forging.{opens_link}
use Rattle.bench_world.proofs.forged.ForgeLeft.{forge_devices}
use Rattle.std.proofs.Common.{◌≡◌, ℕ, List, [], ◌∷◌, ◌++◌, map, Bool, true, false, nat_eq, if◌then◌else◌, Option, Some, None, refl, sym, ◌∙◌, ap, subst}
use Rattle.std.specs.Cmp.Lexicographic.{pointwise}
use Rattle.nfc_base.specs.declared.event.Event.{Event}
use Rattle.nfc_base.specs.declared.event.Event.TheVariants.{Reset, Request, Answer as Answers, Clash}
use Rattle.nfc_base.specs.Trace.{back_of}
use Rattle.nfc_base.specs.Trace as backs
use Rattle.air_core.specs.Conversation.{Note, Over, LightUp, Asks, AreTurns, EachDue, replay}
use Rattle.air_core.proofs.Following.{trace_first}
use Rattle.t5t_tag.proofs.Bytes.{equal_bytes}
use Rattle.bench_script.specs.declared.command.Command.{Command}
use Rattle.bench_script.specs.declared.command.Command.TheVariants as commands
use Rattle.bench_script.specs.declared.command.Command.TheVariants.{Skip, Fates, PlaceT2, PlaceT3, PlaceT4, PlaceT5, PlacePeer, Lock, Busy, Offer, Remove, Dump, Inbox, Find, Crowd, Poll3, Read, Read3}
use Rattle.bench_script.specs.declared.command.Command.TheVariants.{Write, Write3, Link, Forge, Raw, Put, Get, Lookup, OnPut, OnGet, Unlink}
use Rattle.bench_script.specs.declared.command.DeviceId.{DeviceId}
use Rattle.bench_script.specs.DeviceIds.{bytes_of}
use Rattle.bench_devices.specs.declared.device.Device.{Device}
use Rattle.bench_devices.specs.declared.device.Device.TheVariants.{T2, T4, Peer, T5, T3}
use Rattle.bench_devices.specs.Device.{BenchWorld, StablePart, stable_of, device_id, device_store, device_locked, device_busy, how_of, size_of, kind_of}
use Rattle.bench_devices.specs.Keeping.{Fixed, fixed, Kept, kept, AllStayDevices, AllKeepBut}
use Rattle.bench_devices.specs.Placed.{device_with, without, with_changed}
use Rattle.bench_world.specs.declared.entry.Entry.{Entry}
use Rattle.bench_world.specs.World.{WholeWorld, bench_air, Stable, stable}
use Rattle.bench_world.specs.Legal.{State, Given, AnswerLaw, ReadLaw, FindLaw, CrowdLaw, SenseLaw, Read3Law, WritingLaw, Writing3Law, LinkingLaw, CallLaw, AnswerBy, LegalStep, EachLegal}
use Rattle.bench_world.specs.Legal.{world_at_start, changed, due, due_by, world_after, state_after}
use Rattle.bench_world.specs.Behind.{Touches, LeaveAlone}
use Rattle.snep_core.specs.Talk.{client_sap, sap_of_slot}
use Rattle.bench_script.specs.Messages.{message_of}
use Rattle.link_calls.specs.Asking.{LinkAsking, Does, Closes, Finding, Getting, put_from, Putting}
use Rattle.bench_world.specs.Asked.{asked_on_link, slot_messages}
use Rattle.bench_world.specs.Calls.{IfLinked, due_asked, due_if}
use Rattle.bench_world.specs.Links.{OpenLink}
use Rattle.bench_world.proofs.devices.FarStays.{far_stay}
use Rattle.bench_world.proofs.open_link.Talks.{on_link, still_on}

-- Two devices read alike: they are read in the same way, and hold the same.
pub record ReadAlike (d e : Device) : Type 0 where
  pub kind : kind_of e ≡ kind_of d
  pub how : how_of e ≡ how_of d
  pub size : size_of e ≡ size_of d
  pub store : device_store e ≡ device_store d

alike_itself : (d : Device) → ReadAlike d d
alike_itself d = record { kind = refl; how = refl; size = refl; store = refl }

alike_then : (d e x : Device) → ReadAlike d e → ReadAlike e x → ReadAlike d x
alike_then d e x p q = record { kind = q.kind ∙ p.kind; how = q.how ∙ p.how; size = q.size ∙ p.size; store = q.store ∙ p.store }

-- The device with an identifier reads as this one.
pub record IsAlike (id : List ℕ) (d : Device) (ds : List Device) : Type 0 where
  pub device : Device
  pub found : device_with id ds ≡ Some device
  pub alike : ReadAlike d device

same_some : (d e : Device) → ◌≡◌ {A = Option Device} (Some d) (Some e) → d ≡ e
same_some d e h = cc

-- One device changed and the others stayed, each being still one with its identifier.
module _ (id : List ℕ) where
  abbrev Found : Device → List Device → Type 0
  Found d ds = IsAlike id d ds

  -- behind a device that is passed
  passed : (d x : Device) (ds : List Device) → pointwise nat_eq (device_id x) id ≡ false → Found d ds → Found d (x ∷ ds)
  passed d x ds other is = record { device = is.device; found = ap (λ v. if v then Some x else device_with id ds) other ∙ is.found; alike = is.alike }

  here : (d x : Device) (ds : List Device) → pointwise nat_eq (device_id x) id ≡ true → ReadAlike d x → Found d (x ∷ ds)
  here d x ds named alike = record { device = x; found = ap (λ v. if v then Some x else device_with id ds) named; alike = alike }

  -- by whether the first device has the identifier
  first_or_later : (P : Type 0) (x : Device) (ds : List Device) (d : Device) → device_with id (x ∷ ds) ≡ Some d → (pointwise nat_eq (device_id x) id ≡ true → x ≡ d → P)
      → (pointwise nat_eq (device_id x) id ≡ false → device_with id ds ≡ Some d → P) → P
  first_or_later P x ds d found first later = by_name (pointwise nat_eq (device_id x) id) refl found
    where
      by_name : (v : Bool) → pointwise nat_eq (device_id x) id ≡ v → (if v then Some x else device_with id ds) ≡ Some d → P
      by_name true e f = first e (same_some x d f)
      by_name false e f = later e f

  pub still_found : (ds : List Device) (d : Device) → device_with id ds ≡ Some d → Found d ds
  still_found ds d found = record { device = d; found = found; alike = alike_itself d }

  -- one device more
  more_found : (ds : List Device) (x d : Device) → device_with id ds ≡ Some d → Found d (ds ++ x ∷ [])
  more_found [] x d found = absurd cc
  more_found (y ∷ ds) x d found =
      first_or_later (Found d (y ∷ (ds ++ x ∷ []))) y ds d found (λ named same. here d y (ds ++ x ∷ []) named (subst (λ z. ReadAlike d z) (sym same) (alike_itself d)))
      (λ other later. passed d y (ds ++ x ∷ []) other (more_found ds x d later))

  -- another one taken away
  fewer_found : (k : List ℕ) (ds : List Device) (d : Device) → (k ≡ id → ⊥) → device_with id ds ≡ Some d → Found d (without k ds)
  fewer_found k [] d apart found = absurd cc
  fewer_found k (y ∷ ds) d apart found =
      first_or_later (Found d (without k (y ∷ ds))) y ds d found (λ named same. by_first named same (pointwise nat_eq (device_id y) k) refl)
      (λ other later. by_later other later (fewer_found k ds d apart later) (pointwise nat_eq (device_id y) k))
    where
      by_first : pointwise nat_eq (device_id y) id ≡ true → y ≡ d → (v : Bool) → pointwise nat_eq (device_id y) k ≡ v → Found d (if v then ds else y ∷ without k ds)
      by_first named same true e = absurd (apart (sym (equal_bytes (device_id y) k e) ∙ equal_bytes (device_id y) id named))
      by_first named same false e = here d y (without k ds) named (subst (λ z. ReadAlike d z) (sym same) (alike_itself d))

      by_later : pointwise nat_eq (device_id y) id ≡ false → device_with id ds ≡ Some d → Found d (without k ds) → (v : Bool) → Found d (if v then ds else y ∷ without k ds)
      by_later other later more true = still_found ds d later
      by_later other later more false = passed d y (without k ds) other more

  -- one changed in what doesn't show in a read
  changed_found : (change : Device → Device) (k : List ℕ) → ((x : Device) → device_id (change x) ≡ device_id x) → ((x : Device) → ReadAlike x (change x)) → (ds : List Device) (d : Device)
      → device_with id ds ≡ Some d → Found d (with_changed change k ds)
  changed_found change k own like [] d found = absurd cc
  changed_found change k own like (y ∷ ds) d found =
      first_or_later (Found d (with_changed change k (y ∷ ds))) y ds d found (λ named same. by_first named same (pointwise nat_eq (device_id y) k))
      (λ other later. by_later other later (changed_found change k own like ds d later) (pointwise nat_eq (device_id y) k))
    where
      by_first : pointwise nat_eq (device_id y) id ≡ true → y ≡ d → (v : Bool) → Found d (if v then change y ∷ ds else y ∷ with_changed change k ds)
      by_first named same true = here d (change y) ds (ap (λ i. pointwise nat_eq i id) (own y) ∙ named) (subst (λ z. ReadAlike z (change y)) same (like y))
      by_first named same false = here d y (with_changed change k ds) named (subst (λ z. ReadAlike d z) (sym same) (alike_itself d))

      by_later : pointwise nat_eq (device_id y) id ≡ false → device_with id ds ≡ Some d → Found d (with_changed change k ds) → (v : Bool)
          → Found d (if v then change y ∷ ds else y ∷ with_changed change k ds)
      by_later other later more true = passed d (change y) ds (ap (λ i. pointwise nat_eq i id) (own y) ∙ other) (still_found ds d later)
      by_later other later more false = passed d y (with_changed change k ds) other more

  -- all asked, and their stores stayed
  stays_found : (ds es : List Device) (d : Device) → AllStayDevices ds es → map stable_of es ≡ map stable_of ds → device_with id ds ≡ Some d → Found d es
  stays_found [] es d stay same found = absurd cc
  stays_found (x ∷ ds) [] d stay same found = absurd stay
  stays_found (x ∷ ds) (y ∷ es) d stay same found =
      let own : device_id y ≡ device_id x = ap (λ (k : Fixed). k.id) stay.0.fixed in
      let one : stable_of y ≡ stable_of x = cc in
      let rest : map stable_of es ≡ map stable_of ds = cc in
      let alike : ReadAlike x y = record {
        kind = ap (λ (k : Fixed). k.kind) stay.0.fixed;
        how = ap (λ (k : Fixed). k.how) stay.0.fixed;
        size = ap (λ (k : Fixed). k.size) stay.0.fixed;
        store = ap (λ (k : StablePart). k.store) one;
      } in
      first_or_later (Found d (y ∷ es)) x ds d found (λ named is. here d y es (ap (λ i. pointwise nat_eq i id) own ∙ named) (subst (λ z. ReadAlike z y) is alike))
      (λ other later. passed d y es (ap (λ i. pointwise nat_eq i id) own ∙ other) (stays_found ds es d stay.1 rest later))

  -- another one's store written
  beside_found : (k : List ℕ) → (k ≡ id → ⊥) → (ds es : List Device) (d : Device) → AllKeepBut k ds es → device_with id ds ≡ Some d → Found d es
  beside_found k apart [] es d keep found = absurd cc
  beside_found k apart (x ∷ ds) [] d keep found = absurd keep
  beside_found k apart (x ∷ ds) (y ∷ es) d keep found =
      let own : device_id y ≡ device_id x = ap (λ (z : Fixed). z.id) keep.0.stays.fixed in
      let alike : pointwise nat_eq (device_id x) id ≡ true → ReadAlike x y = λ named.
      let same : kept y ≡ kept x = keep.0.other (λ e. apart (sym e ∙ equal_bytes (device_id x) id named)) in
      record { kind = ap (λ (z : Kept). z.fixed.kind) same; how = ap (λ (z : Kept). z.fixed.how) same; size = ap (λ (z : Kept). z.fixed.size) same; store = ap (λ (z : Kept). z.store) same } in
      first_or_later (Found d (y ∷ es)) x ds d found (λ named is. here d y es (ap (λ i. pointwise nat_eq i id) own ∙ named) (subst (λ z. ReadAlike z y) is (alike named)))
      (λ other later. passed d y es (ap (λ i. pointwise nat_eq i id) own ∙ other) (beside_found k apart ds es d keep.1 later))

  -- its own store written: it is still there, and read in the same way
  pub own_found : (k : List ℕ) (ds es : List Device) (d : Device) → AllKeepBut k ds es → device_with id ds ≡ Some d → (e : Device) × (device_with id es ≡ Some e) × (fixed e ≡ fixed d)
  own_found k [] es d keep found = absurd cc
  own_found k (x ∷ ds) [] d keep found = absurd keep
  own_found k (x ∷ ds) (y ∷ es) d keep found =
      let own : device_id y ≡ device_id x = ap (λ (z : Fixed). z.id) keep.0.stays.fixed in
      first_or_later ((e : Device) × (device_with id (y ∷ es) ≡ Some e) × (fixed e ≡ fixed d)) x ds d found
      (λ named is. (y, ap (λ v. if v then Some y else device_with id es) (ap (λ i. pointwise nat_eq i id) own ∙ named), keep.0.stays.fixed ∙ ap fixed is))
      (λ other later.
      let more = own_found k ds es d keep.1 later in
      (more.0, ap (λ v. if v then Some y else device_with id es) (ap (λ i. pointwise nat_eq i id) own ∙ other) ∙ more.1, more.2))

-- a command that asks nothing has no events
pub nothing_sent : (w : WholeWorld) (es : List Event) → AreTurns bench_air w es → EachDue (λ ns. Over) [] es → es ≡ []
nothing_sent w [] turns each = refl
nothing_sent w (Reset ∷ es) turns each = absurd (let clash : Over ≡ LightUp = each.0 in cc)
nothing_sent w (Request f x ∷ es) turns each = absurd (let clash : Over ≡ Asks f = each.0 in cc)
nothing_sent w (Answers g x ∷ es) turns each = absurd (let clash : back_of (Answers g x ∷ es) ≡ backs.Nothing = ap back_of turns.made ∙ trace_first bench_air w turns.moves in cc)
nothing_sent w (Clash g x ∷ es) turns each = absurd (let clash : back_of (Clash g x ∷ es) ≡ backs.Nothing = ap back_of turns.made ∙ trace_first bench_air w turns.moves in cc)

locked_alike : (block : ℕ) (d : Device) → ReadAlike d (device_locked block d)
locked_alike block (T2 d) = record { kind = refl; how = refl; size = refl; store = refl }
locked_alike block (T4 d) = record { kind = refl; how = refl; size = refl; store = refl }
locked_alike block (Peer d) = record { kind = refl; how = refl; size = refl; store = refl }
locked_alike block (T5 p) = record { kind = refl; how = refl; size = refl; store = refl }
locked_alike block (T3 p) = record { kind = refl; how = refl; size = refl; store = refl }

locked_own : (block : ℕ) (d : Device) → device_id (device_locked block d) ≡ device_id d
locked_own block (T2 d) = refl
locked_own block (T4 d) = refl
locked_own block (Peer d) = refl
locked_own block (T5 p) = refl
locked_own block (T3 p) = refl

busy_alike : (count times : ℕ) (d : Device) → ReadAlike d (device_busy count times d)
busy_alike count times (T2 d) = record { kind = refl; how = refl; size = refl; store = refl }
busy_alike count times (T4 d) = record { kind = refl; how = refl; size = refl; store = refl }
busy_alike count times (Peer d) = record { kind = refl; how = refl; size = refl; store = refl }
busy_alike count times (T5 p) = record { kind = refl; how = refl; size = refl; store = refl }
busy_alike count times (T3 p) = record { kind = refl; how = refl; size = refl; store = refl }

busy_own : (count times : ℕ) (d : Device) → device_id (device_busy count times d) ≡ device_id d
busy_own count times (T2 d) = refl
busy_own count times (T4 d) = refl
busy_own count times (Peer d) = refl
busy_own count times (T5 p) = refl
busy_own count times (T3 p) = refl

-- A step of a command that asks nothing leads to what the command itself changed.
pub nothing_happened : (s t : State) (g : Given) (e : Entry) → LegalStep s g e t → (c : Command) → e.command ≡ c → ((ns : List Note) → due s g c ns ≡ Over)
    → t ≡ state_after s g.joins c [] (Some e.answer)
nothing_happened s t g e step c is over =
    let each : EachDue (due s g c) [] e.events = subst (λ k. EachDue (due s g k) [] e.events) is step.front.each in
    let turns : AreTurns bench_air (world_at_start s g.joins c) e.events = subst (λ k. AreTurns bench_air (world_at_start s g.joins k) e.events) is step.front.turns in
    let none : e.events ≡ [] = nothing_sent (world_at_start s g.joins c) e.events turns (over_all e.events [] each) in
    step.front.after ∙ ap (λ k. state_after s g.joins k e.events (Some e.answer)) is ∙ ap (λ es. state_after s g.joins c es (Some e.answer)) none
  where
    over_all : (es before : List Event) → EachDue (due s g c) before es → EachDue (λ ns. Over) before es
    over_all [] before q = tt
    over_all (Reset ∷ es) before q = (sym (over _) ∙ q.0, over_all es (before ++ Reset ∷ []) q.1)
    over_all (Request f x ∷ es) before q = (sym (over _) ∙ q.0, over_all es (before ++ Request f x ∷ []) q.1)
    over_all (Answers f x ∷ es) before q = over_all es (before ++ Answers f x ∷ []) q
    over_all (Clash f x ∷ es) before q = over_all es (before ++ Clash f x ∷ []) q

-- So it is through a legal step.
module _ (id : DeviceId) (s t : State) (g : Given) (e : Entry) (d : Device) (step : LegalStep s g e t) (found : device_with (bytes_of id) s.world.field.listeners ≡ Some d) where
  -- what the command itself changed, where it asks nothing
  quiet_step : (c : Command) → e.command ≡ c → ((ns : List Note) → due s g c ns ≡ Over) → IsAlike (bytes_of id) d (changed s c).world.field.listeners → IsAlike (bytes_of id) d t.world.field.listeners
  quiet_step c is over alike = subst (λ (x : State). IsAlike (bytes_of id) d x.world.field.listeners) (sym (nothing_happened s t g e step c is over)) alike

  -- what was asked changed no store
  asking_step : (c : Command) → e.command ≡ c → (changed s c).world.field ≡ s.world.field → (stable (world_after s g.joins c e.events)).devices ≡ (stable (changed s c).world).devices
      → IsAlike (bytes_of id) d t.world.field.listeners
  asking_step c is still stays =
      let w : WholeWorld = world_at_start s g.joins c in
      let now : List Device = (replay bench_air w e.events).field.listeners in
      let after : t ≡ state_after s g.joins c e.events (Some e.answer) = step.front.after ∙ ap (λ k. state_after s g.joins k e.events (Some e.answer)) is in
      let there : device_with (bytes_of id) w.field.listeners ≡ Some d = ap (λ (x : BenchWorld). device_with (bytes_of id) x.listeners) still ∙ found in
      subst (λ (x : State). IsAlike (bytes_of id) d x.world.field.listeners) (sym after)
      (stays_found (bytes_of id) w.field.listeners now d (far_stay e.events w).stay stays there)

  -- Commands on the open link; where none is open nothing is asked.
  linked_step : (c : Command) → e.command ≡ c → changed s c ≡ s → (o : Option OpenLink) → s.link ≡ o → (s.link ≡ None → (ns : List Note) → due s g c ns ≡ Over)
      → IfLinked o (λ l. (stable (world_after s g.joins c e.events)).devices ≡ (stable s.world).devices) (Unit {0}) → IsAlike (bytes_of id) d t.world.field.listeners
  linked_step c is still None at over stays =
      quiet_step c is (over at) (subst (λ (x : State). IsAlike (bytes_of id) d x.world.field.listeners) (sym still) (still_found (bytes_of id) s.world.field.listeners d found))
  linked_step c is still (Some l) at over stays = asking_step c is (ap (λ (x : State). x.world.field) still) (stays ∙ sym (ap (λ (x : State). (stable x.world).devices) still))

  if_linked : (P Q : OpenLink → Type 0) (R : Type 0) (o : Option OpenLink) → ((l : OpenLink) → P l → Q l) → IfLinked o P R → IfLinked o Q (Unit {0})
  if_linked P Q R None says h = tt
  if_linked P Q R (Some l) says h = says l h

  law_of : (c : Command) → e.command ≡ c → AnswerLaw s g c e.events e.answer
  law_of c is = subst (λ k. AnswerLaw s g k e.events e.answer) is step.answered

  -- whatever is asked on it
  talk_step : (asked : LinkAsking) (c : Command) → e.command ≡ c → asked_on_link c ≡ Some asked → AnswerBy (Some asked) s g c e.events e.answer → IsAlike (bytes_of id) d t.world.field.listeners
  talk_step asked c is asks law =
      linked_step c is (still_on s c (on_link c asked asks)) s.link refl (λ none ns. ap (λ o. due_by o s g c ns) asks ∙ ap (λ o. due_if o (λ l. due_asked asked l g.joins.own ns)) none)
      (if_linked _ _ _ s.link (λ l (law : CallLaw s g.joins l asked c e.events e.answer). law.devices) law)

  by_command : (c : Command) → e.command ≡ c → (Touches id c → ⊥) → IsAlike (bytes_of id) d t.world.field.listeners
  by_command Skip is alone = absurd (law_of Skip is)
  by_command (Fates fates) is alone = quiet_step (Fates fates) is (λ ns. refl) (still_found (bytes_of id) s.world.field.listeners d found)
  by_command (PlaceT2 i blocks head) is alone = quiet_step (PlaceT2 i blocks head) is (λ ns. refl) (more_found (bytes_of id) s.world.field.listeners _ d found)
  by_command (PlaceT3 i blocks head) is alone = quiet_step (PlaceT3 i blocks head) is (λ ns. refl) (more_found (bytes_of id) s.world.field.listeners _ d found)
  by_command (PlaceT4 i code container head) is alone = quiet_step (PlaceT4 i code container head) is (λ ns. refl) (more_found (bytes_of id) s.world.field.listeners _ d found)
  by_command (PlaceT5 i blocks size head) is alone = quiet_step (PlaceT5 i blocks size head) is (λ ns. refl) (more_found (bytes_of id) s.world.field.listeners _ d found)
  by_command (PlacePeer i lr miu rw limit) is alone = quiet_step (PlacePeer i lr miu rw limit) is (λ ns. refl) (more_found (bytes_of id) s.world.field.listeners _ d found)
  by_command (Lock i block) is alone =
      quiet_step (Lock i block) is (λ ns. refl) (changed_found (bytes_of id) (device_locked block) (bytes_of i) (locked_own block) (locked_alike block) s.world.field.listeners d found)
  by_command (Busy i count times) is alone =
      quiet_step (Busy i count times) is (λ ns. refl) (changed_found (bytes_of id) (device_busy count times) (bytes_of i) (busy_own count times) (busy_alike count times) s.world.field.listeners d
      found)
  by_command (Offer i key value) is alone = quiet_step (Offer i key value) is (λ ns. refl) (still_found (bytes_of id) s.world.field.listeners d found)
  by_command (Remove i) is alone = quiet_step (Remove i) is (λ ns. refl) (fewer_found (bytes_of id) (bytes_of i) s.world.field.listeners d alone found)
  by_command (Dump i) is alone = quiet_step (Dump i) is (λ ns. refl) (still_found (bytes_of id) s.world.field.listeners d found)
  by_command (Inbox i) is alone = quiet_step (Inbox i) is (λ ns. refl) (still_found (bytes_of id) s.world.field.listeners d found)
  by_command Find is alone = let law : FindLaw s g.joins e.events e.answer = law_of Find is in asking_step Find is refl (ap (λ (z : Stable). z.devices) law.stays)
  by_command Crowd is alone = let law : CrowdLaw s g.joins e.events e.answer = law_of Crowd is in asking_step Crowd is refl (ap (λ (z : Stable). z.devices) law.stays)
  by_command Poll3 is alone = let law : SenseLaw s g.joins e.events e.answer = law_of Poll3 is in asking_step Poll3 is refl (ap (λ (z : Stable). z.devices) law.stays)
  by_command (Read3 i) is alone = let law : Read3Law s g.joins i g.asked e.events e.answer = law_of (Read3 i) is in asking_step (Read3 i) is refl (ap (λ (z : Stable). z.devices) law.stays)
  by_command (Write3 i m) is alone =
      let law : Writing3Law s g.joins i m g.asked e.events e.answer = law_of (Write3 i m) is in
      let after : t ≡ state_after s g.joins (Write3 i m) e.events (Some e.answer) = step.front.after ∙ ap (λ k. state_after s g.joins k e.events (Some e.answer)) is in
      subst (λ (x : State). IsAlike (bytes_of id) d x.world.field.listeners) (sym after)
      (beside_found (bytes_of id) i alone s.world.field.listeners (world_after s g.joins (Write3 i m) e.events).field.listeners d law.stores.others found)
  by_command (Read i) is alone = let law : ReadLaw s g.joins i g.asked e.events e.answer = law_of (Read i) is in asking_step (Read i) is refl (ap (λ (z : Stable). z.devices) law.stays)
  by_command (Write i m) is alone =
      let law : WritingLaw s g.joins i m g.asked e.events e.answer = law_of (Write i m) is in
      let after : t ≡ state_after s g.joins (Write i m) e.events (Some e.answer) = step.front.after ∙ ap (λ k. state_after s g.joins k e.events (Some e.answer)) is in
      subst (λ (x : State). IsAlike (bytes_of id) d x.world.field.listeners) (sym after)
      (beside_found (bytes_of id) (bytes_of i) alone s.world.field.listeners (world_after s g.joins (Write i m) e.events).field.listeners d law.stores.others found)
  by_command (Link i miu window) is alone = let law : LinkingLaw s g.joins i miu window e.events e.answer = law_of (Link i miu window) is in
      asking_step (Link i miu window) is refl (ap (λ (z : Stable). z.devices) law.stays)
  by_command (Raw i frames) is alone = absurd (alone tt)
  by_command (Forge i payloads) is alone =
      let law : ForgeLaw s g.joins i payloads e.events e.answer = law_of (Forge i payloads) is in
      asking_step (Forge i payloads) is refl (forge_devices (opens_link i payloads e.events) s g.joins i payloads e.events law.leaves)
  by_command (Put m) is alone = talk_step (Does (put_from 0 (message_of m))) (Put m) is refl (law_of (Put m) is)
  by_command (Get most key) is alone = talk_step (Does (Getting client_sap most key)) (Get most key) is refl (law_of (Get most key) is)
  by_command (Lookup name) is alone = talk_step (Does (Finding name)) (Lookup name) is refl (law_of (Lookup name) is)
  by_command (OnPut slot m) is alone = talk_step (Does (put_from slot (message_of m))) (OnPut slot m) is refl (law_of (OnPut slot m) is)
  by_command (OnGet slot most key) is alone = talk_step (Does (Getting (sap_of_slot slot) most key)) (OnGet slot most key) is refl (law_of (OnGet slot most key) is)
  by_command (commands.Puts puts) is alone = talk_step (Does (Putting (slot_messages puts))) (commands.Puts puts) is refl (law_of (commands.Puts puts) is)
  by_command Unlink is alone = talk_step Closes Unlink is refl (law_of Unlink is)

  pub step_alike : (Touches id e.command → ⊥) → IsAlike (bytes_of id) d t.world.field.listeners
  step_alike alone = by_command e.command refl alone

-- ... and through some of them.
pub steps_alike : (id : DeviceId) (s t : State) (gs : List Given) (es : List Entry) (d : Device) → EachLegal s gs es t → LeaveAlone id es → device_with (bytes_of id) s.world.field.listeners ≡ Some d
    → IsAlike (bytes_of id) d t.world.field.listeners
steps_alike id s t [] [] d legal alone found = subst (λ (x : State). IsAlike (bytes_of id) d x.world.field.listeners) (sym legal) (still_found (bytes_of id) s.world.field.listeners d found)
steps_alike id s t [] (e ∷ es) d legal alone found = absurd legal
steps_alike id s t (g ∷ gs) [] d legal alone found = absurd legal
steps_alike id s t (g ∷ gs) (e ∷ es) d legal alone found =
    let first = step_alike id s legal.0 g e d legal.1 found alone.0 in
    let more = steps_alike id legal.0 t gs es first.device legal.2 alone.1 first.found in
    record { device = more.device; found = more.found; alike = alike_then d first.device more.device first.alike more.alike }
