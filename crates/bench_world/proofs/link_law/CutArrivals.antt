-- What arrived at the peer of a link in a command that want of memory cut off, and what was accepted by that.
use Rattle.std.proofs.Common.{◌≡◌, ◌⊎◌, ℕ, ◌+◌, ◌<◌, List, [], ◌∷◌, ◌++◌, drop, length, Bool, true, false, if◌then◌else◌, Option, Some, None, inl, inr, refl, sym, ◌∙◌, ap, subst, append_assoc}
use Rattle.std.proofs.Common.{append-nil}
use Rattle.std.specs.List.{AllByRecursion}
use Rattle.std.proofs.Math.Seq.{drop-append_seam}
use Rattle.nfc_base.specs.Choosing.{Choosing, first_number, later_numbers}
use Rattle.nfc_base.specs.declared.event.Event.{Event}
use Rattle.dep_link.specs.DepLinks.{brought}
use Rattle.llcp_link.specs.Giving.{after_giving}
use Rattle.llcp_link.specs.Running.{AreBytes}
use Rattle.llcp_link.specs.Taking.{taken_from}
use Rattle.llcp_link.specs.Taking as taking
use Rattle.llcp_link.specs.Units.{units}
use Rattle.snep_core.specs.Payloads.{AcceptsPuts, AcceptsSome, AllPut, accepted_from}
use Rattle.nfc_base.specs.Prefix.{IsPrefix}
use Rattle.snep_core.specs.Server.{Received as Accepted, serving}
use Rattle.llcp_pdu.specs.Wire.{sap_count}
use Rattle.snep_core.specs.Session.{Offer}
use Rattle.snep_core.proofs.jobs.CallsKeep.{giving_keeps}
use Rattle.snep_core.proofs.jobs.CutOff.{cut_off_accepts}
use Rattle.link_calls.specs.Arriving.{Arrives, ArrivesCut, StopsAtLast, all_answered}
use Rattle.snep_core.specs.Talk.{client_sap, sap_of_slot}
use Rattle.link_calls.specs.Asking.{LinkAsking, Does, Closes, Finding, Getting, put_from, Putting}
use Rattle.bench_script.specs.declared.command.Command.{Command}
use Rattle.bench_script.specs.declared.command.Command.TheVariants.{Find, Crowd, Poll3, Read, Read3, Write, Write3, Link, Forge, Put, Get, Lookup, Unlink, OnPut, OnGet, Puts, Raw}
use Rattle.bench_script.specs.DeviceIds.{bytes_of}
use Rattle.bench_script.specs.Messages.{message_of}
use Rattle.bench_script.specs.declared.command.DeviceId.{DeviceId}
use Rattle.nfc_base.specs.Signal.{Signal}
use Rattle.bench_world.specs.Rawing.{raw_opens}
use Rattle.bench_world.specs.World.{FarEnd}
use Rattle.bench_world.specs.Arrivals.{Arrival, arrival_marks, arrivals_of, end_at, end_behind, giving_values}
use Rattle.bench_world.specs.Arriving.{ArrivesCutAt, ArrivesCutWithin}
use Rattle.bench_world.specs.ByPayloads.{IfOpenedBy, IfPayloads, IsByPayloads, IsFrontOfPayloads, PutsAtLeast}
use Rattle.bench_world.specs.Calls.{IfLinked}
use Rattle.bench_world.specs.Asked.{IsOnLink, asked_on_link, slot_messages}
use Rattle.bench_world.specs.Forging.{forged_general, opens_link}
use Rattle.bench_script.specs.declared.command.DeviceId.TheVariants.{A}
use Rattle.bench_world.proofs.forged.ForgeLeft.{forged_numbers}
use Rattle.bench_world.specs.Legal.{State, Given, Joins, CutCall, CutLeft, CutShort, CutStores, ForgeCutLeaves, FrontOf, LeavesStable, changed, link_after, peers_left, world_after}
use Rattle.bench_world.specs.Halting.{Halts}
use Rattle.bench_world.specs.LinkLaw.{cut_stretch}
use Rattle.bench_world.specs.Links.{OpenLink, end_numbered}
use Rattle.bench_world.specs.Peers.{Peers, placed_under}
use Rattle.bench_world.specs.Stories.{Opener, ByForge, ByLink, ByRaw, Story, Stretch, Beginning, NothingBegins, BeginsAndEnds, beginning, begins_in, begun_by, open_goes_on}
use Rattle.bench_world.proofs.link_law.PayloadsKept.{KeptIn, unless_numbers}
use Rattle.bench_world.proofs.link_law.PayloadsOn.{KeepsPayloads, if_opened, Kept, OnLink, UpTo, above_is, all_and_last, all_bytes, all_end, all_payloads, all_with, came_is, end_then, more_payloads}
use Rattle.bench_world.proofs.link_law.PayloadsOn.{up_to}
use Rattle.bench_world.proofs.link_law.PayloadsWithin.{all_over, begun_one, from_first, new_whole, now_is, raw_within}
use Rattle.bench_world.proofs.link_law.PutsTold.{accepted_more}
use Rattle.bench_world.proofs.link_law.SameStories.{last_equal}
use Rattle.bench_world.proofs.link_law.ServerRuns.{answered_is, arrivals_front, arrivals_put, behind_then, bytes_are}
use Rattle.bench_world.proofs.open_link.Talks as talks
use Rattle.bench_world.proofs.open_link.Talks.{off, still_on}
use Rattle.bench_world.proofs.link_law.Tales.{accepted_in, accepted_of, gained_by, goes_on, stories_behind}
use Rattle.bench_world.proofs.tags.Unfinished.{short_front}
use Rattle.bench_world.proofs.open_link.Unlinking.{same_numbers}

front_then : (a b c : List Accepted) → IsPrefix a b → IsPrefix b c → IsPrefix a c
front_then a b c (r, e) (q, d) = (r ++ q, d ∙ ap (λ z. z ++ q) e ∙ append_assoc a r q)

same_rest : (a b c : List (List ℕ)) → a ++ b ≡ a ++ c → b ≡ c
same_rest a b c e = sym (drop-append_seam a b) ∙ ap (drop (length a)) e ∙ drop-append_seam a c

-- Of each client's SAP: where what was accepted is the first of what the payloads put, so is what was gained.
puts_at_least : (c limit : ℕ) (us : List (List (List ℕ))) (had gained whole : List Accepted) → IsPrefix (had ++ gained) whole → (all : List (List ℕ))
    → accepted_from c whole ≡ accepted_from c had ++ all
    → AllPut limit us all → PutsAtLeast limit us (accepted_from c gained)
puts_at_least c limit us had gained whole (rest, e) all accepted put =
    let from : List Accepted → List (List ℕ) = accepted_from c in
    let whole_is : from whole ≡ from had ++ (from gained ++ from rest) =
    ap from e ∙ accepted_more c (had ++ gained) rest ∙ ap (λ z. z ++ from rest) (accepted_more c had gained) ∙ append_assoc (from had) (from gained) (from rest) in
    record { all = all; put = put; rest = from rest; split = same_rest (from had) all (from gained ++ from rest) (sym accepted ∙ whole_is) }

-- What is by the payloads is a front of what they put.
pub whole_front : (y : Story) → IsByPayloads y → IsFrontOfPayloads y
whole_front y h = record {
  old = h.old;
  begins = h.begins;
  payloads = h.payloads;
  front = ([], h.accepted ∙ sym (append-nil (y.begun.service.accepted ++ y.gained)));
  least = λ before last split.
      (h.order (record { before = before; next = last; more = []; split = split; came = []; behind = taking.brought (end_at (end_behind y.begun before) last) last.payload; parts = refl })).front;
  puts = λ c few. record { all = accepted_from c y.gained; put = h.puts c few; rest = []; split = sym (append-nil (accepted_from c y.gained)) };
}

-- so it is of each link but one of frames of a script's own
abbrev pub KeepsFront : Story → Type 0
KeepsFront y = IfPayloads IsFrontOfPayloads y

weaker_opened : (P Q : Type 0) (o : Opener) → (P → Q) → IfOpenedBy o P → IfOpenedBy o Q
weaker_opened P Q ByLink f h = f h
weaker_opened P Q ByForge f h = f h
weaker_opened P Q ByRaw f h = tt

keeps_front : (y : Story) → KeepsPayloads y → KeepsFront y
keeps_front y h = weaker_opened (IsByPayloads y) (IsFrontOfPayloads y) y.opener (whole_front y) h

-- the last payload is the last to arrive
last_arrival : (table : List Offer) (ns : List ℕ) (ps : List (List ℕ)) (p : List ℕ)
    → (a : Arrival) × (arrivals_of table ns (ps ++ p ∷ []) ≡ arrivals_of table ns ps ++ a ∷ []) × (a.payload ≡ p) × (a.table ≡ table)
last_arrival table ns [] p = (record { payload = p; count = first_number ns; table = table }, refl, refl, refl)
last_arrival table ns (q ∷ ps) p =
    let more = last_arrival table (later_numbers ns) ps p in
    (more.0, ap (λ zs. record { payload = q; count = first_number ns; table = table } ∷ zs) more.1, more.2, more.3)

-- what an end gives adds nothing
given_same : (count : ℕ) (l : FarEnd) → (after_giving serving count l).service.accepted ≡ l.service.accepted
given_same count l = giving_keeps serving (λ s. s.accepted ≡ l.service.accepted) (λ s c miu h. h) count l refl

module _ (n : ℕ) (s t : State) (y : Story) (on : UpTo n s y) (x : Stretch) where
  abbrev ps : List (List ℕ)
  ps = brought n x.events

  abbrev there : FarEnd
  there = end_behind y.begun y.arrivals

  abbrev C : FarEnd → Choosing FarEnd
  C e = record { end = e; numbers = x.joins.far }

  abbrev next : Story
  next = goes_on s x t y

  -- the end as it stood
  abbrev stood : FarEnd
  stood = giving_values on.table there

  module _ (after : Choosing FarEnd) (accepted_now : accepted_in y.peer t ≡ after.end.service.accepted) where
    -- its end answered all
    whole : Arrives n x.events (C stood) after → IsFrontOfPayloads next
    whole arrives =
        let end : FarEnd = end_then n s y on x arrives.bytes in
        let is : after.end ≡ giving_values on.table end = ap (λ (c : Choosing FarEnd). c.end) arrives.after_is ∙ answered_is ps x.joins.far on.table there in
        whole_front next (more_payloads n s y on x arrives.bytes t (accepted_now ∙ ap (λ (e : FarEnd). e.service.accepted) is))

    -- or it stopped at the last payload
    module _ (stop : StopsAtLast n x.events (C stood) after) where
      abbrev end : FarEnd
      end = end_then n s y on x stop.bytes

      -- the arrivals before the last, and what was accepted by them
      abbrev firsts : List Arrival
      firsts = arrivals_of on.table x.joins.far stop.before

      abbrev mid : FarEnd
      mid = end_behind there firsts

      abbrev new : List Accepted
      new = after.end.service.accepted

      last_one : (a : Arrival) × (arrivals_of on.table x.joins.far (stop.before ++ stop.last ∷ []) ≡ firsts ++ a ∷ []) × (a.payload ≡ stop.last) × (a.table ≡ on.table)
      last_one = last_arrival on.table x.joins.far stop.before stop.last

      all_are : arrivals_of on.table x.joins.far ps ≡ firsts ++ last_one.0 ∷ []
      all_are = ap (arrivals_of on.table x.joins.far) stop.split ∙ last_one.1

      half_is : (all_answered stop.before (C stood)).end ≡ giving_values on.table mid
      half_is = answered_is stop.before x.joins.far on.table there

      some : AcceptsSome (giving_values on.table mid) after.end stop.last
      some = subst (λ e. AcceptsSome e after.end stop.last) half_is (cut_off_accepts (all_answered stop.before (C stood)).end after.end stop.last stop.stops)

      end_is : end.service.accepted ≡ (taken_from serving (giving_values on.table mid) stop.last).service.accepted
      end_is =
          ap (λ xs. (end_behind there xs).service.accepted) all_are ∙ ap (λ (e : FarEnd). e.service.accepted) (behind_then there firsts (last_one.0 ∷ []))
          ∙ given_same last_one.0.count (taken_from serving (end_at mid last_one.0) last_one.0.payload)
          ∙ ap (λ o. (taken_from serving (giving_values o mid) last_one.0.payload).service.accepted) last_one.3
          ∙ ap (λ p. (taken_from serving (giving_values on.table mid) p).service.accepted) last_one.2

      new_front : IsPrefix new end.service.accepted
      new_front = subst (IsPrefix new) (sym end_is) some.front

      grows : IsPrefix there.service.accepted mid.service.accepted
      grows =
          let whole_bytes = bytes_are on.table x.joins.far stop.before (bytes_first stop.before (stop.last ∷ []) (subst (AllByRecursion AreBytes) stop.split stop.bytes)) in
          let P : FarEnd → Type 0 = λ b. IsPrefix (end_behind b y.arrivals).service.accepted (end_behind (end_behind b y.arrivals) firsts).service.accepted in
          subst P (sym on.begins) (arrivals_front on.old y.general y.arrivals firsts on.bytes whole_bytes)
        where
          bytes_first : (xs zs : List (List ℕ)) → AllByRecursion AreBytes (xs ++ zs) → AllByRecursion AreBytes xs
          bytes_first [] zs h = tt
          bytes_first (z ∷ xs) zs h = (h.0, bytes_first xs zs h.1)

      first : IsPrefix there.service.accepted new
      first = front_then there.service.accepted mid.service.accepted new grows some.before

      all_gained : y.begun.service.accepted ++ (y.gained ++ gained_by y.peer s t) ≡ new
      all_gained =
          let so : gained_by y.peer s t ≡ first.0 =
          ap (λ xs. drop (length xs) (accepted_in y.peer t)) on.had ∙ ap (drop (length there.service.accepted)) (accepted_now ∙ first.1) ∙ drop-append_seam there.service.accepted first.0 in
          ap (λ xs. y.begun.service.accepted ++ (y.gained ++ xs)) so ∙ sym (append_assoc y.begun.service.accepted y.gained first.0)
          ∙ ap (λ xs. xs ++ first.0) (sym on.accepted) ∙ sym first.1

      gained_front : IsPrefix (y.begun.service.accepted ++ next.gained) (end_behind y.begun next.arrivals).service.accepted
      gained_front =
          subst (λ a. IsPrefix a (end_behind y.begun next.arrivals).service.accepted) (sym all_gained)
          (subst (λ (e : FarEnd). IsPrefix new e.service.accepted) (sym (all_end n s y on x stop.bytes)) new_front)

      at_least : (before : List Arrival) (last : Arrival) → next.arrivals ≡ before ++ last ∷ [] → IsPrefix (end_behind y.begun before).service.accepted (y.begun.service.accepted ++ next.gained)
      at_least before last split =
          let parts : (y.arrivals ++ firsts) ++ last_one.0 ∷ [] ≡ before ++ last ∷ [] =
          append_assoc y.arrivals firsts (last_one.0 ∷ []) ∙ ap (λ xs. y.arrivals ++ xs) (sym all_are ∙ sym (came_is n s y on x stop.bytes)) ∙ split in
          let same : before ≡ y.arrivals ++ firsts = sym (last_equal (y.arrivals ++ firsts) before last_one.0 last parts).0 in
          let ends : end_behind y.begun before ≡ mid = ap (end_behind y.begun) same ∙ behind_then y.begun y.arrivals firsts in
          subst (IsPrefix (end_behind y.begun before).service.accepted) (sym all_gained) (subst (λ (e : FarEnd). IsPrefix e.service.accepted new) (sym ends) some.before)

      put_all : (c : ℕ) → c < sap_count
          → AcceptsPuts c y.begun.service.limit y.begun.miu (arrival_marks c y.begun next.arrivals) y.begun.service.accepted (end_behind y.begun next.arrivals).service.accepted
      put_all c few =
          let P : FarEnd → Type 0 = λ b. AcceptsPuts c b.service.limit b.miu (arrival_marks c b next.arrivals) b.service.accepted (end_behind b next.arrivals).service.accepted in
          subst P (sym on.begins) (arrivals_put on.old y.general next.arrivals (all_bytes n s y on x stop.bytes) c few)

      stopped : IsFrontOfPayloads next
      stopped = record {
        old = on.old;
        begins = on.begins;
        payloads = all_payloads n s y on x stop.bytes;
        front = gained_front;
        least = at_least;
        puts = λ c few.
            let p = put_all c few in
            puts_at_least c y.begun.service.limit (units c y.begun.miu None (arrival_marks c y.begun next.arrivals)) y.begun.service.accepted next.gained
            (end_behind y.begun next.arrivals).service.accepted gained_front p.all p.accepted p.put;
      }

    pub front_of : ArrivesCut n x.events (C stood) after → IsFrontOfPayloads next
    front_of (inl arrives) = whole arrives
    front_of (inr stop) = stopped stop

-- so it is on the open link
cut_front_of : (l : OpenLink) (s t : State) (y : Story) → OnLink l s y → (x : Stretch) → t.peers.numbers ≡ s.peers.numbers
    → ArrivesCutAt l s.peers.numbers x.joins.far s.world.fars t.world.fars x.events → IsFrontOfPayloads (goes_on s x t y)
cut_front_of l s t y on x numbers came =
    let stands : FarEnd = giving_values on.table (end_behind y.begun y.arrivals) in
    let stood : came.old ≡ stands = (let both : Some came.old ≡ Some stands = sym came.stood ∙ on.stands in cc) in
    let now : accepted_in y.peer t ≡ came.new.end.service.accepted =
    ap (λ n. accepted_in n t) on.own ∙ ap (λ ns. accepted_of (end_numbered l.peer ns t.world.fars)) numbers
    ∙ above_is came.new.end.service.accepted (end_numbered l.peer s.peers.numbers t.world.fars) came.accepted in
    front_of l.initiator.core.number s t y (up_to l s y on) x came.new now
    (subst (λ e. ArrivesCut l.initiator.core.number x.events (record { end = e; numbers = x.joins.far }) came.new) stood came.arrives)

-- A link that begins and ends in a stretch that was cut off.
pub begun_front : (s t : State) (x : Stretch) (opener : Opener) (peer : ℕ) (id general : List ℕ) → t.peers.numbers ≡ s.peers.numbers → begins_in x ≡ BeginsAndEnds opener id general
    → placed_under id s.world.field.listeners s.peers.numbers ≡ Some peer → ArrivesCutWithin peer general s.peers.numbers x.joins.far s.world.fars t.world.fars x.events
    → AllByRecursion KeepsFront (begun_by (begins_in x) (goes_on s x t) s t)
begun_front s t x opener peer id general numbers is placed came =
    let n : ℕ = length s.peers.links + 1 in
    let y : Story = new_whole s t x opener n peer general numbers came.old in
    let one : begun_by (begins_in x) (goes_on s x t) s t ≡ goes_on s x t y ∷ [] = begun_one s t x opener n peer general numbers id is placed refl came.old came.stood in
    let front : IsFrontOfPayloads (goes_on s x t y) =
    front_of 0 s t y (from_first s t x opener n peer general numbers came.old came.stood) x came.new
    (now_is s t x opener n peer general numbers came.new.end.service.accepted came.accepted) came.arrives in
    subst (AllByRecursion KeepsFront) (sym one) (if_opened (IsFrontOfPayloads (goes_on s x t y)) y.opener front, tt)

-- The stories of a bench behind it.
module _ (s t : State) (joins : Joins) (c : Command) (cut : List Event) (ys : List Story) (h : KeptIn s ys) where
  abbrev x : Stretch
  x = cut_stretch c joins cut

  abbrev pub CutBy : Type 0
  CutBy = AllByRecursion KeepsFront (stories_behind s x t ys)

  talk_begins : (d : Command) → IsOnLink d → beginning d cut None ≡ NothingBegins
  talk_begins (Put m) talks = refl
  talk_begins (Get most key) talks = refl
  talk_begins (Lookup name) talks = refl
  talk_begins (OnPut slot m) talks = refl
  talk_begins (OnGet slot most key) talks = refl
  talk_begins (Puts puts) talks = refl
  talk_begins Unlink talks = refl
  talk_begins d talks = off talks

  -- where no link is open
  unlinked_front : (changed s c).link ≡ None → beginning c cut None ≡ NothingBegins → CutBy
  unlinked_front none begins =
      let B : Beginning → Type 0 = λ b. AllByRecursion KeepsFront (open_goes_on (changed s c).link (goes_on s x t) ys ++ begun_by b (goes_on s x t) s t) in
      let O : Option OpenLink → Type 0 = λ o. AllByRecursion KeepsFront (open_goes_on o (goes_on s x t) ys) in
      subst B (sym begins) (subst (AllByRecursion KeepsFront) (sym (append-nil (open_goes_on (changed s c).link (goes_on s x t) ys)))
      (subst O (sym none) (all_with s.link s ys h KeepsFront keeps_front)))

  -- where one began and ended
  pub within_front : (changed s c).link ≡ None → AllByRecursion KeepsFront (begun_by (begins_in x) (goes_on s x t) s t) → CutBy
  within_front none begun = all_over s t x ys KeepsFront none (all_with s.link s ys h KeepsFront keeps_front) begun

  -- the open link goes on
  linked_front : IsOnLink c → (l : OpenLink) → (changed s c).link ≡ Some l → s.link ≡ Some l → t.peers.numbers ≡ s.peers.numbers
      → ArrivesCutAt l s.peers.numbers joins.far s.world.fars t.world.fars cut → CutBy
  linked_front talks l open_ was numbers came =
      let k : Kept (Some l) s ys = subst (λ o. Kept o s ys) was h in
      let B : Beginning → Type 0 = λ b. AllByRecursion KeepsFront (open_goes_on (changed s c).link (goes_on s x t) ys ++ begun_by b (goes_on s x t) s t) in
      let O : Option OpenLink → Type 0 = λ o. AllByRecursion KeepsFront (open_goes_on o (goes_on s x t) ys) in
      subst B (sym (talk_begins c talks)) (subst (AllByRecursion KeepsFront) (sym (append-nil (open_goes_on (changed s c).link (goes_on s x t) ys)))
      (subst O (sym open_) (all_and_last l s ys k (goes_on s x t) KeepsFront keeps_front
      (if_opened (IsFrontOfPayloads (goes_on s x t k.going.last)) k.going.last.opener (cut_front_of l s t k.going.last k.going.on x numbers came)))))

-- Frames of a script's own were sent, over a link of their own or not.
raw_front : (s t : State) (joins : Joins) (id : DeviceId) (frames : List Signal) (cut : List Event) (ys : List Story) (h : KeptIn s ys) (v : Bool) → raw_opens id frames cut ≡ v
    → CutBy s t joins (Raw id frames) cut ys h
raw_front s t joins id frames cut ys h true opened =
    let c : Command = Raw id frames in
    let x : Stretch = cut_stretch c joins cut in
    within_front s t joins c cut ys h refl
    (subst (λ (b : Beginning). AllByRecursion KeepsFront (begun_by b (goes_on s x t) s t)) (sym (ap (λ v. if v then BeginsAndEnds ByRaw (bytes_of id) forged_general else NothingBegins) opened))
    (raw_within IsFrontOfPayloads s t x forged_general (placed_under (bytes_of id) s.world.field.listeners s.peers.numbers)))
raw_front s t joins id frames cut ys h false unopened =
    unlinked_front s t joins (Raw id frames) cut ys h refl (ap (λ v. if v then BeginsAndEnds ByRaw (bytes_of id) forged_general else NothingBegins) unopened)

-- a command on the link of which there is a front
module _ (s t : State) (g : Given) (cut : List Event) (ys : List Story) (h : KeptIn s ys) where
  abbrev Goal : Command → Type 0
  Goal c = CutBy s t g.joins c cut ys h

  on_link : (c : Command) → IsOnLink c → (changed s c).link ≡ s.link → FrontOf s g c cut None t → t.peers.numbers ≡ s.peers.numbers → (P : OpenLink → Type 0) (Q : Type 0)
      → ((l : OpenLink) → P l → ArrivesCutAt l s.peers.numbers g.joins.far s.world.fars (world_after s g.joins c cut).fars cut) → IfLinked s.link P Q → Goal c
  on_link c talks still front numbers P Q came stores = by_link s.link refl stores
    where
      by_link : (o : Option OpenLink) → s.link ≡ o → IfLinked o P Q → Goal c
      by_link None none q = unlinked_front s t g.joins c cut ys h (still ∙ none) (talk_begins s t g.joins c cut ys h c talks)
      by_link (Some l) open_ p =
          linked_front s t g.joins c cut ys h talks l (still ∙ open_) open_ numbers
          (subst (λ (z : State). ArrivesCutAt l s.peers.numbers g.joins.far s.world.fars z.world.fars cut) (sym front.after) (came l p))

  talk_front : (asked : LinkAsking) (c : Command) → asked_on_link c ≡ Some asked → FrontOf s g c cut None t → CutLeft (Some asked) s g.joins c cut → Goal c
  talk_front asked c asks front stores =
      on_link c (talks.on_link c asked asks) (ap (λ (z : State). z.link) (still_on s c (talks.on_link c asked asks))) front
      (ap (λ (z : State). z.peers.numbers) front.after ∙ ap (λ o. (peers_left o s g.joins c cut None).numbers) asks
      ∙ unless_numbers (link_after s g.joins c cut None) s.link (world_after s g.joins c cut).fars s.peers)
      (λ l. CutCall s g.joins l asked c cut) (LeavesStable s g.joins c cut) (λ l p. p.came) stores

  front_by : (c : Command) → FrontOf s g c cut None t → CutStores s g.joins c cut → Goal c
  front_by Find front stores = unlinked_front s t g.joins Find cut ys h refl refl
  front_by Crowd front stores = unlinked_front s t g.joins Crowd cut ys h refl refl
  front_by Poll3 front stores = unlinked_front s t g.joins Poll3 cut ys h refl refl
  front_by (Read id) front stores = unlinked_front s t g.joins (Read id) cut ys h refl refl
  front_by (Write id m) front stores = unlinked_front s t g.joins (Write id m) cut ys h refl refl
  front_by (Read3 id) front stores = unlinked_front s t g.joins (Read3 id) cut ys h refl refl
  front_by (Write3 id m) front stores = unlinked_front s t g.joins (Write3 id m) cut ys h refl refl
  front_by (Link id miu window) front stores = unlinked_front s t g.joins (Link id miu window) cut ys h refl refl
  front_by (Forge id payloads) front stores = by (opens_link id payloads cut) refl stores
    where
      by : (v : Bool) → opens_link id payloads cut ≡ v → ForgeCutLeaves v s g.joins id payloads cut → Goal (Forge id payloads)
      by true opened sends =
          let c : Command = Forge id payloads in
          within_front s t g.joins c cut ys h refl
          (begun_front s t (cut_stretch c g.joins cut) ByForge sends.peer id forged_general
          (ap (λ (z : State). z.peers.numbers) front.after ∙ forged_numbers (opens_link id payloads cut) s (A id) (world_after s g.joins c cut).fars)
          (ap (λ v. if v then BeginsAndEnds ByForge id forged_general else NothingBegins) opened) sends.placed
          (subst (λ (z : State). ArrivesCutWithin sends.peer forged_general s.peers.numbers g.joins.far s.world.fars z.world.fars cut) (sym front.after) sends.came))
      by false unopened stays = unlinked_front s t g.joins (Forge id payloads) cut ys h refl (ap (λ v. if v then BeginsAndEnds ByForge id forged_general else NothingBegins) unopened)
  front_by (Raw id frames) front stores = raw_front s t g.joins id frames cut ys h (raw_opens id frames cut) refl
  front_by (Put m) front stores = talk_front (Does (put_from 0 (message_of m))) (Put m) refl front stores
  front_by (Get most key) front stores = talk_front (Does (Getting client_sap most key)) (Get most key) refl front stores
  front_by (Lookup name) front stores = talk_front (Does (Finding name)) (Lookup name) refl front stores
  front_by (OnPut slot m) front stores = talk_front (Does (put_from slot (message_of m))) (OnPut slot m) refl front stores
  front_by (OnGet slot most key) front stores = talk_front (Does (Getting (sap_of_slot slot) most key)) (OnGet slot most key) refl front stores
  front_by (Puts puts) front stores = talk_front (Does (Putting (slot_messages puts))) (Puts puts) refl front stores
  front_by Unlink front stores = talk_front Closes Unlink refl front stores
  front_by c front stores = absurd stores

pub cut_arrived : (s t : State) (joins : Joins) (c : Command) (cut : List Event) (ys : List Story) (h : KeptIn s ys) → CutShort joins s c cut t ⊎ Halts joins s c cut t → CutBy s t joins c cut ys h
cut_arrived s t joins c cut ys h (inl short) =
    let f = short_front joins s c cut t short in
    subst (λ j. CutBy s t j c cut ys h) f.1 (front_by s t f.0 cut ys h c f.2 f.3)
cut_arrived s t joins c cut ys h (inr (inl halts)) =
    subst (λ j. CutBy s t j c cut ys h) halts.joined
    (linked_front s t halts.given.joins c cut ys h halts.on_link halts.on (ap (λ (z : State). z.link) (still_on s c halts.on_link) ∙ halts.open_) halts.open_
    (ap (λ (p : Peers). p.numbers) halts.leaves.peers ∙ same_numbers (Some halts.on) s.peers t.world.fars) halts.came)
cut_arrived s t joins c cut ys h (inr (inr (inl halts))) =
    let numbers : t.peers.numbers ≡ s.peers.numbers = ap (λ (p : Peers). p.numbers) halts.leaves.peers ∙ same_numbers s.link s.peers s.world.fars in
    let d : Command = Forge halts.id halts.payloads in
    subst (λ x. CutBy s t joins x cut ys h) (sym halts.command)
    (within_front s t joins d cut ys h refl
    (begun_front s t (cut_stretch d joins cut) ByForge halts.peer halts.id forged_general numbers
    (ap (λ v. if v then BeginsAndEnds ByForge halts.id forged_general else NothingBegins) halts.opened) halts.placed
    (subst (λ j. ArrivesCutWithin halts.peer forged_general s.peers.numbers j.far s.world.fars t.world.fars cut) halts.joined halts.came)))
cut_arrived s t joins c cut ys h (inr (inr (inr halts))) =
    subst (λ x. CutBy s t joins x cut ys h) (sym halts.command) (raw_front s t joins halts.id halts.frames cut ys h (raw_opens halts.id halts.frames cut) refl)
