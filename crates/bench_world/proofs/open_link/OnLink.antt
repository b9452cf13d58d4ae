-- The open link of a bench: where its peer stands, and what a call on it leaves.
use Rattle.std.proofs.Common.{◌≡◌, ℕ, zero, suc, List, [], ◌∷◌, ◌++◌, map, length, Bool, true, false, if◌then◌else◌, Option, Some, None, refl, sym, ◌∙◌, ap, subst}
use Rattle.std.specs.Prelude.{get_or, slice_set}
use Rattle.nfc_base.specs.Choosing.{Choosing}
use Rattle.air_core.specs.Turn.{Air, moment, world}
use Rattle.air_core.specs.Conversation.{Note, Next, Moment, Going, replay, queue_after}
use Rattle.air_core.specs.PlainTags.{IsAlone}
use Rattle.dep_link.specs.Asking.{HasPeer}
use Rattle.dep_link.specs.Initiator.{InitState}
use Rattle.far_air.specs.FarEnds.{first_far, later_fars, rests, by_link}
use Rattle.far_air.specs.FarWorld.{with_numbers}
use Rattle.far_air.specs.FarLaws.{seen, seen_at, seen_with, shown}
use Rattle.far_air.specs.FarTurns.{FarGoing}
use Rattle.far_air.proofs.Showing.{rests_shown}
use Rattle.peer_air.specs.PeerFars.{peer_ends}
use Rattle.peer_air.specs.SwapTurns.{Stands}
use Rattle.llcp_link.specs.State.{fresh_end}
use Rattle.llcp_pdu.specs.General.{IsMiu}
use Rattle.llcp_conn.specs.Conn.{IsWindow}
use Rattle.llcp_link.specs.Names.{is_bound}
use Rattle.snep_core.specs.Talk.{server_sap}
use Rattle.snep_core.specs.Server.{Received, no_sessions}
use Rattle.link_calls.specs.Staying.{Setting, setting_of}
use Rattle.bench_devices.specs.declared.device.Device.{Device}
use Rattle.bench_devices.specs.declared.device.Device.TheVariants.{T2, T4, Peer, T5, T3}
use Rattle.bench_devices.specs.Beside.{InStepAt, PeerAt, TalkLeaves}
use Rattle.bench_devices.specs.Kinds.{PeerKind}
use Rattle.bench_devices.specs.Device.{devices, device_end, device_id, device_linked, is_tag, stable_of, StablePart, kind_of}
use Rattle.bench_devices.specs.Keeping.{Kept, ghosts, kept, AreTame}
use Rattle.bench_devices.proofs.far_ends.BesideLink.{at_split}
use Rattle.bench_world.specs.World.{FarEnd, WholeWorld, bench_air}
use Rattle.bench_world.specs.Calls.{accepting, accepting_if, with_accepted}
use Rattle.bench_world.specs.Links.{OpenLink, accepted_by, end_numbered, is_number}
use Rattle.bench_world.specs.Obeying.{Machines, IsSettled, linked_at, state_at, under}
use Rattle.bench_world.specs.Opened.{AreServed, IsFirstWith, IsOpen, IsServed}
use Rattle.bench_world.specs.Peers.{Peers}
use Rattle.bench_world.proofs.open_link.CallNotes.{IsPlainNext}
use Rattle.bench_world.proofs.tags.Fronts.{ends_table, Ends}
use Rattle.bench_world.proofs.open_link.Restarted.{far_there, far_set, set_there}
use Rattle.bench_world.proofs.open_link.TalkFar.{due_talk, talk_leaves}
use Rattle.bench_devices.proofs.kinds.TagOrPeer.{tag_kind}
use Rattle.bench_world.proofs.open_link.Unlinking.{accepted_by_link}

pub set_long : (os : Ends) (place : ℕ) (end after : FarEnd) → get_or os place None ≡ Some end → length (slice_set os place (Some after)) ≡ length os
set_long [] place end after e = absurd cc
set_long (o ∷ os) zero end after e = refl
set_long (o ∷ os) (suc place) end after e = ap suc (set_long os place end after e)

-- Peers alone have links.
linked_kind : (d : Device) → device_linked d ≡ true → kind_of d ≡ PeerKind
linked_kind (T2 d) e = absurd cc
linked_kind (T4 d) e = absurd cc
linked_kind (Peer d) e = refl
linked_kind (T5 p) e = absurd cc
linked_kind (T3 p) e = absurd cc

linked_there : (before : List Device) (d : Device) (behind : List Device) → linked_at (length before) (before ++ d ∷ behind) ≡ device_linked d
linked_there [] d behind = refl
linked_there (x ∷ before) d behind = linked_there before d behind

tag_is : (d : Device) → is_tag d ≡ tag_kind (kept d).fixed.kind
unfolding tag_kind
tag_is (T2 d) = refl
tag_is (T4 d) = refl
tag_is (Peer d) = refl
tag_is (T5 p) = refl
tag_is (T3 p) = refl

same_tag : (l m : Device) → kept m ≡ kept l → is_tag m ≡ is_tag l
same_tag l m e = tag_is m ∙ ap (λ (k : Kept). tag_kind k.fixed.kind) e ∙ sym (tag_is l)

first_kept : (l m : Device) (ls ms : List Device) → map kept (m ∷ ms) ≡ map kept (l ∷ ls) → kept m ≡ kept l
first_kept l m ls ms e = cc

later_kept : (l m : Device) (ls ms : List Device) → map kept (m ∷ ms) ≡ map kept (l ∷ ls) → map kept ms ≡ map kept ls
later_kept l m ls ms e = cc

pub kept_long : (ls ms : List Device) → map kept ms ≡ map kept ls → length ms ≡ length ls
kept_long [] [] e = refl
kept_long [] (m ∷ ms) e = absurd cc
kept_long (l ∷ ls) [] e = absurd cc
kept_long (l ∷ ls) (m ∷ ms) e = ap suc (kept_long ls ms (later_kept l m ls ms e))

stable_as : Kept → StablePart
stable_as k = record { store = k.store; locked = k.fixed.locked; made = k.fixed.made; target = k.fixed.target }

one_stable : (l m : Device) → kept m ≡ kept l → stable_of m ≡ stable_of l
unfolding stable_as
one_stable l m e = ap stable_as e

pub kept_stable : (ls ms : List Device) → map kept ms ≡ map kept ls → map stable_of ms ≡ map stable_of ls
kept_stable [] [] e = refl
kept_stable [] (m ∷ ms) e = absurd cc
kept_stable (l ∷ ls) [] e = absurd cc
kept_stable (l ∷ ls) (m ∷ ms) e =
    ap (λ x. x ∷ map stable_of ms) (one_stable l m (first_kept l m ls ms e)) ∙ ap (λ xs. stable_of l ∷ xs) (kept_stable ls ms (later_kept l m ls ms e))

-- A peer is served by another end of the same setting.
pub served_same : (ls ms : List Device) (ps : List (Option ℕ)) (os : Ends) → map kept ms ≡ map kept ls → AreServed ls ps os → AreServed ms ps os
served_same [] [] ps os e a = tt
served_same [] (m ∷ ms) ps os e a = absurd cc
served_same (l ∷ ls) [] ps os e a = tt
served_same (l ∷ ls) (m ∷ ms) ps os e a =
    (λ t. a.0 (sym (same_tag l m (first_kept l m ls ms e)) ∙ t), served_same ls ms (later_fars ps) (later_fars os) (later_kept l m ls ms e) a.1)

served_now : (p : Option ℕ) (o : Option FarEnd) (end after : FarEnd) → o ≡ Some end → setting_of after ≡ setting_of end → IsServed p o → IsServed p (Some after)
served_now p o end after e same s =
    let is : s.end ≡ end = (let x : Some s.end ≡ Some end = sym s.stands ∙ e in cc) in
    let miu : after.miu ≡ s.end.miu = ap (λ (z : Setting). z.miu) same ∙ ap (λ (z : FarEnd). z.miu) (sym is) in
    let window : after.window ≡ s.end.window = ap (λ (z : Setting). z.window) same ∙ ap (λ (z : FarEnd). z.window) (sym is) in
    let bound : after.bound ≡ s.end.bound = ap (λ (z : Setting). z.bound) same ∙ ap (λ (z : FarEnd). z.bound) (sym is) in
    record {
      peer = s.peer;
      numbered = s.numbered;
      end = after;
      stands = refl;
      miu = subst IsMiu (sym miu) s.miu;
      window = subst IsWindow (sym window) s.window;
      bound = ap (is_bound server_sap) bound ∙ s.bound;
    }

pub served_set : (ls ms : List Device) (ps : List (Option ℕ)) (os : Ends) (place : ℕ) (end after : FarEnd) → map kept ms ≡ map kept ls → get_or os place None ≡ Some end
    → setting_of after ≡ setting_of end
    → AreServed ls ps os → AreServed ms ps (slice_set os place (Some after))
served_set [] [] ps os place end after e at same a = tt
served_set [] (m ∷ ms) ps os place end after e at same a = absurd cc
served_set (l ∷ ls) [] ps os place end after e at same a = tt
served_set (l ∷ ls) (m ∷ ms) ps [] place end after e at same a = absurd cc
served_set (l ∷ ls) (m ∷ ms) ps (o ∷ os) zero end after e at same a = (
  λ t. served_now (first_far ps) o end after at same (a.0 (sym (same_tag l m (first_kept l m ls ms e)) ∙ t)),
  served_same ls ms (later_fars ps) os (later_kept l m ls ms e) a.1,
)
served_set (l ∷ ls) (m ∷ ms) ps (o ∷ os) (suc place) end after e at same a = (
  λ t. a.0 (sym (same_tag l m (first_kept l m ls ms e)) ∙ t),
  served_set ls ms (later_fars ps) os place end after (later_kept l m ls ms e) at same a.1,
)

-- The number of the peer is that of its place alone.
pub none_numbered : (n : ℕ) (ps : List (Option ℕ)) → end_numbered n ps [] ≡ None
none_numbered n [] = refl
none_numbered n (p ∷ ps) = by (is_number n p) (none_numbered n ps)
  where
    by : (v : Bool) → end_numbered n ps [] ≡ None → (if v then None else end_numbered n ps []) ≡ None
    by true rest = refl
    by false rest = rest

by_number : (n : ℕ) (p : Option ℕ) (v : Bool) (x y : Option FarEnd) → is_number n p ≡ v → (if is_number n p then x else y) ≡ (if v then x else y)
by_number n p v x y e = ap (λ b. if b then x else y) e

pub one_place : (n : ℕ) (ps : List (Option ℕ)) (p q : ℕ) (end : FarEnd) → IsFirstWith n p ps → ((os : Ends) → end_numbered n ps os ≡ get_or os q None) → q ≡ p
one_place n [] p q end first at = absurd first
one_place n (x ∷ ps) zero zero end first at = refl
one_place n (x ∷ ps) zero (suc q) end first at =
    absurd (let e : Some end ≡ None = sym (by_number n x true (Some end) (end_numbered n ps []) first) ∙ at (Some end ∷ []) in cc)
one_place n (x ∷ ps) (suc p) zero end first at =
    absurd (let e : None ≡ Some end = sym (none_numbered n ps) ∙ sym (by_number n x false (Some end) (end_numbered n ps []) first.0) ∙ at (Some end ∷ []) in cc)
one_place n (x ∷ ps) (suc p) (suc q) end first at =
    ap suc (one_place n ps p q end first.1 (λ os. sym (by_number n x false None (end_numbered n ps os) first.0) ∙ at (None ∷ os)))

-- What the world shows of the peer's far end: all of it while its device has a link, and else what stays of it.
pub end_shown : (n place : ℕ) (ps : List (Option ℕ)) (ls : List Device) (os : Ends) (end : FarEnd) → IsFirstWith n place ps → length ps ≡ length ls → get_or os place None ≡ Some end
    → end_numbered n ps (shown device_linked peer_ends ls os) ≡ by_link peer_ends (linked_at place ls) (Some end)
end_shown n place [] ls os end first long at = absurd first
end_shown n place (p ∷ ps) [] os end first long at = absurd cc
end_shown n place (p ∷ ps) (l ∷ ls) [] end first long at = absurd cc
end_shown n zero (p ∷ ps) (l ∷ ls) (o ∷ os) end first long at =
    by_number n p true (by_link peer_ends (device_linked l) o) _ first ∙ ap (by_link peer_ends (device_linked l)) at
end_shown n (suc place) (p ∷ ps) (l ∷ ls) (o ∷ os) end first long at =
    by_number n p false (by_link peer_ends (device_linked l) o) _ first.0 ∙ (let less : length ps ≡ length ls = cc in end_shown n place ps ls os end first.1 less at)

pub end_there : (n place : ℕ) (ps : List (Option ℕ)) (ls : List Device) (os : Ends) (end : FarEnd) → IsFirstWith n place ps → length ps ≡ length ls → linked_at place ls ≡ true
    → get_or os place None ≡ Some end
    → end_numbered n ps (shown device_linked peer_ends ls os) ≡ Some end
end_there n place ps ls os end first long linked at = end_shown n place ps ls os end first long at ∙ ap (λ v. by_link peer_ends v (Some end)) linked

pub accepted_there : (n place : ℕ) (ps : List (Option ℕ)) (ls : List Device) (os : Ends) (end : FarEnd) → IsFirstWith n place ps → length ps ≡ length ls → get_or os place None ≡ Some end
    → accepted_by (end_numbered n ps (shown device_linked peer_ends ls os)) ≡ accepted_by (Some end)
accepted_there n place ps ls os end first long at = ap accepted_by (end_shown n place ps ls os end first long at) ∙ accepted_by_link (linked_at place ls) (Some end)

-- What stays of far ends, where that of the peer accepted more.
rested_as : Setting → List Received → FarEnd
rested_as s a = record (fresh_end s.miu s.window (record { limit = s.limit; table = s.table; accepted = a; sessions = no_sessions })) { bound = s.bound }

rested_more : (end after : FarEnd) (more : List Received) → setting_of after ≡ setting_of end → after.service.accepted ≡ end.service.accepted ++ more
    → peer_ends.rested after ≡ accepting more (peer_ends.rested end)
unfolding rested_as
rested_more end after more same e = ap (λ s. rested_as s after.service.accepted) same ∙ ap (rested_as (setting_of end)) e

rested_same : (end after : FarEnd) → setting_of after ≡ setting_of end → after.service.accepted ≡ end.service.accepted → peer_ends.rested after ≡ peer_ends.rested end
unfolding rested_as
rested_same end after same e = ap (λ s. rested_as s after.service.accepted) same ∙ ap (rested_as (setting_of end)) e

abbrev pub bare : List Device → Ends → Ends
bare ls os = map (rests peer_ends) (shown device_linked peer_ends ls os)

rests_by : (v : Bool) (o : Option FarEnd) → rests peer_ends (by_link peer_ends v o) ≡ rests peer_ends o
rests_by v o = rests_shown peer_ends ends_table v o

pub bare_alike : (ls ks : List Device) (os : Ends) → length ls ≡ length ks → bare ls os ≡ bare ks os
bare_alike [] [] os e = refl
bare_alike [] (k ∷ ks) os e = absurd cc
bare_alike (l ∷ ls) [] os e = absurd cc
bare_alike (l ∷ ls) (k ∷ ks) os e =
    let o : Option FarEnd = first_far os in
    let less : length ls ≡ length ks = cc in
    ap (λ x. x ∷ bare ls (later_fars os)) (rests_by (device_linked l) o ∙ sym (rests_by (device_linked k) o))
    ∙ ap (λ xs. rests peer_ends (by_link peer_ends (device_linked k) o) ∷ xs) (bare_alike ls ks (later_fars os) less)

abbrev list_by : Bool → Ends → Ends → Ends
list_by v x y = if v then x else y

pub bare_more : (n place : ℕ) (ps : List (Option ℕ)) (ls : List Device) (os : Ends) (end after : FarEnd) (more : List Received) → IsFirstWith n place ps → length ps ≡ length ls
    → get_or os place None ≡ Some end
    → setting_of after ≡ setting_of end → after.service.accepted ≡ end.service.accepted ++ more → bare ls (slice_set os place (Some after)) ≡ with_accepted more n ps (bare ls os)
bare_more n place [] ls os end after more first long at same e = absurd first
bare_more n place (p ∷ ps) [] os end after more first long at same e = absurd cc
bare_more n place (p ∷ ps) (l ∷ ls) [] end after more first long at same e = absurd cc
bare_more n zero (p ∷ ps) (l ∷ ls) (o ∷ os) end after more first long at same e =
    let r : Option FarEnd = rests peer_ends (by_link peer_ends (device_linked l) o) in
    let one : rests peer_ends (by_link peer_ends (device_linked l) (Some after)) ≡ accepting_if more r =
    rests_by (device_linked l) (Some after) ∙ ap Some (rested_more end after more same e)
    ∙ ap (accepting_if more) (ap (rests peer_ends) (sym at) ∙ sym (rests_by (device_linked l) o)) in
    ap (λ x. x ∷ bare ls os) one
    ∙ sym (ap (λ v. list_by v (accepting_if more r ∷ bare ls os) (r ∷ with_accepted more n ps (bare ls os))) first)
bare_more n (suc place) (p ∷ ps) (l ∷ ls) (o ∷ os) end after more first long at same e =
    let r : Option FarEnd = rests peer_ends (by_link peer_ends (device_linked l) o) in
    let less : length ps ≡ length ls = cc in
    ap (λ xs. r ∷ xs) (bare_more n place ps ls os end after more first.1 less at same e)
    ∙ sym (ap (λ v. list_by v (accepting_if more r ∷ bare ls os) (r ∷ with_accepted more n ps (bare ls os))) first.0)

pub bare_same : (ls : List Device) (os : Ends) (place : ℕ) (end after : FarEnd) → get_or os place None ≡ Some end
    → setting_of after ≡ setting_of end → after.service.accepted ≡ end.service.accepted → bare ls (slice_set os place (Some after)) ≡ bare ls os
bare_same [] os place end after at same e = refl
bare_same (l ∷ ls) [] place end after at same e = absurd cc
bare_same (l ∷ ls) (o ∷ os) zero end after at same e =
    ap (λ x. x ∷ bare ls os)
    (rests_by (device_linked l) (Some after) ∙ ap Some (rested_same end after same e) ∙ ap (rests peer_ends) (sym at) ∙ sym (rests_by (device_linked l) o))
bare_same (l ∷ ls) (o ∷ os) (suc place) end after at same e =
    ap (λ xs. rests peer_ends (by_link peer_ends (device_linked l) o) ∷ xs) (bare_same ls os place end after at same e)

-- a device in step has a link
pub linked_in : (air : Air Device) (place : ℕ) (i : InitState) → InStepAt air place i → linked_at place air.listeners ≡ true
linked_in air place i s =
    let a = s.step.1.alone in
    subst (λ n. linked_at n air.listeners ≡ true) (a.stands ∙ s.at)
    (subst (λ ls. linked_at (length a.before) ls ≡ true) (sym a.split) (linked_there a.before s.step.1.listener a.behind ∙ s.linked))

-- a link is open
module _ (air : Air Device) (ends : Ends) (peers : Peers) (l : OpenLink) (settled : IsSettled (under ends peers (Some l) air)) where
  abbrev pub bench : Machines
  bench = under ends peers (Some l) air

  abbrev pub opened : IsOpen air ends peers l
  opened = settled.link

  abbrev here : HasPeer ghosts device_end air l.initiator l.initiator.core.number [] []
  here = opened.step.step.1

  abbrev pub own : List ℕ
  own = device_id here.listener

  pub stands : Stands ghosts device_end device_linked peer_ends air opened.place
  stands lit = (here.listener, here.selected, subst (λ n. IsAlone ghosts own air.listeners n here.listener) opened.step.at here.alone)

  pub peer_at : PeerAt own opened.place air.listeners
  peer_at =
      let a = here.alone in
      subst (λ n. PeerAt own n air.listeners) (a.stands ∙ opened.step.at)
      (subst (PeerAt own (length a.before)) (sym a.split) (at_split own a.before here.listener a.behind (linked_kind here.listener opened.step.linked) a.first a.later))

  linked_here : linked_at opened.place air.listeners ≡ true
  linked_here = linked_in air opened.place l.initiator opened.step

  pub end_is : end_numbered l.peer peers.numbers (state_at bench).world.fars ≡ Some opened.end
  end_is = end_there l.peer opened.place peers.numbers air.listeners ends opened.end opened.number settled.places.numbers linked_here opened.above

  -- turns that were due on the link
  module _ (next : List Note → Next) (plain : (ns : List Note) → IsPlainNext (next ns)) (b : Air Device) (numbers : List ℕ) (after : Choosing FarEnd) (notes : List Note)
      (g : FarGoing devices device_linked peer_ends next (moment air) (moment b) notes opened.place ends (record { end = opened.end; numbers = numbers }) after) where
    abbrev pub now : Ends
    now = slice_set ends opened.place (Some after.end)

    abbrev pub first : WholeWorld
    first = seen device_linked peer_ends (world air) ends numbers

    pub going : Going bench_air next (seen_at device_linked peer_ends (moment air) ends numbers) (seen_at device_linked peer_ends (moment b) now after.numbers) notes
    going =
        let A : Ends → Type 0 = λ os. Going bench_air next (seen_at device_linked peer_ends (moment air) os numbers) (seen_at device_linked peer_ends (moment b) now after.numbers) notes in
        let B : Ends → Type 0 = λ os. Going bench_air next (seen_with device_linked peer_ends (moment air) ends opened.place (record { end = opened.end; numbers = numbers }))
        (seen_at device_linked peer_ends (moment b) os after.numbers) notes in
        subst A (far_there ends opened.place opened.end opened.above) (subst B (far_set ends opened.place opened.end after.end opened.above) g)

    pub trace_is : b.trace ≡ going.events
    trace_is = ap (λ (m : Moment WholeWorld). m.trace) going.moment ∙ ap (λ t. t ++ going.events) settled.idle.quiet

    pub world_is : seen device_linked peer_ends (world b) now [] ≡ with_numbers (replay bench_air first going.events) []
    world_is = ap (λ (m : Moment WholeWorld). with_numbers m.world []) going.moment

    pub queue_is : b.fates ≡ queue_after air.fates going.events
    queue_is = ap (λ (m : Moment WholeWorld). m.queue) going.moment

    pub leaves : TalkLeaves own opened.place air.listeners b.listeners
    leaves =
        let P : WholeWorld → Type 0 = λ w. TalkLeaves own opened.place air.listeners w.field.listeners in
        subst P (sym (ap (λ (m : Moment WholeWorld). m.world) going.moment))
        (talk_leaves own opened.place going.events first (due_talk next plain going.events [] going.each) peer_at)

    pub as_many : length b.listeners ≡ length air.listeners
    as_many = kept_long air.listeners b.listeners leaves.same

    pub devices_stay : map stable_of b.listeners ≡ map stable_of air.listeners
    devices_stay = kept_stable air.listeners b.listeners leaves.same

    pub ends_more : (more : List Received) → setting_of after.end ≡ setting_of opened.end → after.end.service.accepted ≡ opened.end.service.accepted ++ more
        → bare b.listeners now ≡ with_accepted more l.peer peers.numbers (bare air.listeners ends)
    ends_more more same e =
        bare_alike b.listeners air.listeners now as_many
        ∙ bare_more l.peer opened.place peers.numbers air.listeners ends opened.end after.end more opened.number settled.places.numbers opened.above same e

    pub ends_same : setting_of after.end ≡ setting_of opened.end → after.end.service.accepted ≡ opened.end.service.accepted → bare b.listeners now ≡ bare air.listeners ends
    ends_same same e = bare_alike b.listeners air.listeners now as_many ∙ bare_same air.listeners ends opened.place opened.end after.end opened.above same e

    pub served : setting_of after.end ≡ setting_of opened.end → AreServed b.listeners peers.numbers now
    served same = served_set air.listeners b.listeners peers.numbers ends opened.place opened.end after.end leaves.same opened.above same settled.places.served

    pub tame : AreTame (map kept b.listeners)
    tame = subst AreTame (sym leaves.same) settled.idle.tame

    pub accepted_now : accepted_by (end_numbered l.peer peers.numbers (shown device_linked peer_ends b.listeners now)) ≡ accepted_by (get_or now opened.place None)
    accepted_now =
        let there : get_or now opened.place None ≡ Some after.end = set_there ends opened.place opened.end after.end opened.above in
        accepted_there l.peer opened.place peers.numbers b.listeners now after.end opened.number (settled.places.numbers ∙ sym as_many) there ∙ ap accepted_by (sym there)
