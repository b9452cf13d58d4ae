-- What arrives at the peer of a link and is accepted by that, stretch by stretch.
use Rattle.std.proofs.Common.{◌≡◌, ℕ, ◌<◌, List, [], ◌∷◌, ◌++◌, drop, length, Option, Some, None, refl, sym, ◌∙◌, ap, subst, append_assoc, append-nil}
use Rattle.std.specs.List.{AllByRecursion}
use Rattle.std.proofs.Math.Seq.{drop-append_seam}
use Rattle.nfc_base.specs.Choosing.{Choosing}
use Rattle.dep_link.specs.DepLinks.{brought}
use Rattle.dep_link.specs.Payloads.{Cut}
use Rattle.llcp_link.specs.Running.{AreBytes}
use Rattle.llcp_link.specs.State.{restarted}
use Rattle.llcp_link.specs.Units.{units}
use Rattle.snep_core.specs.Payloads.{AcceptsPuts, AllPut, accepted_from}
use Rattle.nfc_base.specs.Prefix.{IsPrefix}
use Rattle.snep_core.specs.Server.{Received as Accepted, serving}
use Rattle.llcp_pdu.specs.Wire.{sap_count}
use Rattle.snep_core.specs.Session.{Offer}
use Rattle.link_calls.specs.Arriving.{IsCountedTo, all_answered}
use Rattle.bench_script.specs.declared.command.Command.{Command}
use Rattle.bench_world.specs.declared.entry.Answer.{Answer}
use Rattle.bench_world.specs.World.{FarEnd}
use Rattle.bench_world.specs.Arrivals.{Arrival, arrival_marks, arrivals_of, end_behind, giving_values, payloads_of}
use Rattle.bench_world.specs.Arriving.{ArrivesAt, BeginsAt}
use Rattle.bench_world.specs.ByPayloads.{IfOpenedBy, IfPayloads, AcceptsUntil, IsByPayloads, PlaceInArrivals, end_there, marks_there}
use Rattle.bench_world.specs.Calls.{IfLinked, OfEnd}
use Rattle.bench_world.specs.Legal.{State, Joins}
use Rattle.bench_world.specs.Links.{OpenLink, end_numbered}
use Rattle.bench_world.specs.Stories.{Opener, ByForge, ByRaw, ByLink, Story, Stretch, arrived_by, brought_by, story_of, last_goes_on, new_story, open_goes_on, story_if, values_in, values_of}
use Rattle.bench_world.proofs.lines.CountedOn.{brought_on, counted_on}
use Rattle.bench_world.proofs.link_law.PutsTold.{accepted_more}
use Rattle.bench_world.proofs.link_law.ServerRuns.{AreOfBytes, answered_is, arrivals_front, arrivals_put, behind_then, bytes_are, bytes_then, payloads_are, payloads_then, place_front, place_puts}
use Rattle.bench_world.proofs.link_law.StoriesStand.{all_more, last_story}
use Rattle.bench_world.proofs.link_law.Tales.{accepted_in, accepted_of, gained_by, goes_on}

-- the story of the link that is open, and its peer's end, whose server may give other values by now
pub record OnLink (l : OpenLink) (s : State) (y : Story) : Type 0 where
  pub own : y.peer ≡ l.peer
  pub old : FarEnd
  pub begins : y.begun ≡ restarted serving old y.general
  pub bytes : AreOfBytes y.arrivals
  pub payloads : payloads_of y.arrivals ≡ brought 0 y.events
  pub accepted : (end_behind y.begun y.arrivals).service.accepted ≡ y.begun.service.accepted ++ y.gained
  pub counted : IsCountedTo 0 y.events l.initiator.core.number
  pub table : List Offer
  pub stands : end_numbered l.peer s.peers.numbers s.world.fars ≡ Some (giving_values table (end_behind y.begun y.arrivals))

-- The story of a link whose peer's end, in this state, gives these values, and accepted what it accepts by what arrived so
-- far, counted to this PNI.
pub record UpTo (n : ℕ) (s : State) (y : Story) : Type 0 where
  pub old : FarEnd
  pub begins : y.begun ≡ restarted serving old y.general
  pub bytes : AreOfBytes y.arrivals
  pub payloads : payloads_of y.arrivals ≡ brought 0 y.events
  pub accepted : (end_behind y.begun y.arrivals).service.accepted ≡ y.begun.service.accepted ++ y.gained
  pub counted : IsCountedTo 0 y.events n
  pub table : List Offer
  pub gives : values_in y.peer s ≡ table
  pub had : accepted_in y.peer s ≡ (end_behind y.begun y.arrivals).service.accepted

abbrev pub up_to : (l : OpenLink) (s : State) (y : Story) → OnLink l s y → UpTo l.initiator.core.number s y
up_to l s y on = record {
  old = on.old;
  begins = on.begins;
  bytes = on.bytes;
  payloads = on.payloads;
  accepted = on.accepted;
  counted = on.counted;
  table = on.table;
  gives = ap (λ n. values_in n s) on.own ∙ ap values_of on.stands;
  had = ap (λ n. accepted_in n s) on.own ∙ ap accepted_of on.stands;
}

same_behind : (a b c : List (List ℕ)) → a ++ b ≡ a ++ c → b ≡ c
same_behind a b c e = sym (drop-append_seam a b) ∙ ap (drop (length a)) e ∙ drop-append_seam a c

-- so it is by the payloads that came
pub by_payloads : (y : Story) (old : FarEnd) → y.begun ≡ restarted serving old y.general → AreOfBytes y.arrivals → payloads_of y.arrivals ≡ brought 0 y.events
    → (end_behind y.begun y.arrivals).service.accepted ≡ y.begun.service.accepted ++ y.gained → IsByPayloads y
by_payloads y old begins bytes payloads accepted = record {
  old = old;
  begins = begins;
  payloads = payloads;
  accepted = accepted;
  puts = λ c few. from c (put c few);
  order = λ p. until p;
}
  where
    put : (c : ℕ) → c < sap_count
        → AcceptsPuts c y.begun.service.limit y.begun.miu (arrival_marks c y.begun y.arrivals) y.begun.service.accepted (end_behind y.begun y.arrivals).service.accepted
    put c few =
        let P : FarEnd → Type 0 = λ l. AcceptsPuts c l.service.limit l.miu (arrival_marks c l y.arrivals) l.service.accepted (end_behind l y.arrivals).service.accepted in
        subst P (sym begins) (arrivals_put old y.general y.arrivals bytes c few)

    from : (c : ℕ) → AcceptsPuts c y.begun.service.limit y.begun.miu (arrival_marks c y.begun y.arrivals) y.begun.service.accepted (end_behind y.begun y.arrivals).service.accepted
        → AllPut y.begun.service.limit (units c y.begun.miu None (arrival_marks c y.begun y.arrivals)) (accepted_from c y.gained)
    from c a =
        let had : List (List ℕ) = accepted_from c y.begun.service.accepted in
        let both : had ++ a.all ≡ had ++ accepted_from c y.gained =
        sym a.accepted ∙ ap (accepted_from c) accepted ∙ accepted_more c y.begun.service.accepted y.gained in
        subst (AllPut y.begun.service.limit (units c y.begun.miu None (arrival_marks c y.begun y.arrivals))) (same_behind had a.all (accepted_from c y.gained) both) a.put

    Ordered : FarEnd → Type 0
    Ordered l =
        (p : PlaceInArrivals l y.arrivals)
        → ((c : ℕ) → c < sap_count → AcceptsPuts c l.service.limit l.miu (marks_there p c) l.service.accepted (end_there p).service.accepted)
        × IsPrefix (end_there p).service.accepted (end_behind l y.arrivals).service.accepted

    ordered : Ordered y.begun
    ordered = subst Ordered (sym begins) (λ p. (place_puts old y.general y.arrivals bytes p, place_front old y.general y.arrivals bytes p))

    until : (p : PlaceInArrivals y.begun y.arrivals) → AcceptsUntil y p
    until p = record { puts = (ordered p).0; front = subst (IsPrefix (end_there p).service.accepted) accepted (ordered p).1 }

-- More was done on it, by what more arrived.
module _ (n : ℕ) (s : State) (y : Story) (on : UpTo n s y) (x : Stretch) (bytes : AllByRecursion AreBytes (brought n x.events)) where
  abbrev pub here : FarEnd
  here = end_behind y.begun y.arrivals

  abbrev payloads : List (List ℕ)
  payloads = brought n x.events

  -- the end behind it
  abbrev pub end_then : FarEnd
  end_then = end_behind here (arrivals_of on.table x.joins.far payloads)

  abbrev came : List Arrival
  came = arrived_by s x y

  brought_is : brought_by x y ≡ payloads
  brought_is =
      ap (drop (length (brought 0 y.events))) (brought_on 0 n y.events x.events on.counted)
      ∙ drop-append_seam (brought 0 y.events) payloads

  pub came_is : came ≡ arrivals_of on.table x.joins.far payloads
  came_is =
      ap (λ ps. arrivals_of (values_in y.peer s) x.joins.far ps) brought_is
      ∙ ap (λ t. arrivals_of t x.joins.far payloads) on.gives

  pub all_bytes : AreOfBytes (y.arrivals ++ came)
  all_bytes = bytes_then y.arrivals came on.bytes (subst AreOfBytes (sym came_is) (bytes_are on.table x.joins.far payloads bytes))

  pub all_payloads : payloads_of (y.arrivals ++ came) ≡ brought 0 (y.events ++ x.events)
  all_payloads =
      payloads_then y.arrivals came ∙ ap (λ ps. ps ++ payloads_of came) on.payloads
      ∙ ap (λ ps. brought 0 y.events ++ ps) (ap payloads_of came_is ∙ payloads_are on.table x.joins.far payloads)
      ∙ sym (brought_on 0 n y.events x.events on.counted)

  pub all_end : end_behind y.begun (y.arrivals ++ came) ≡ end_then
  all_end = behind_then y.begun y.arrivals came ∙ ap (end_behind here) came_is

  module _ (t : State) (now : accepted_in y.peer t ≡ end_then.service.accepted) where
    abbrev gained : List Accepted
    gained = gained_by y.peer s t

    grows : IsPrefix here.service.accepted end_then.service.accepted
    grows =
        let P : FarEnd → Type 0 = λ b. IsPrefix (end_behind b y.arrivals).service.accepted (end_behind (end_behind b y.arrivals) (arrivals_of on.table x.joins.far payloads)).service.accepted in
        subst P (sym on.begins) (arrivals_front on.old y.general y.arrivals (arrivals_of on.table x.joins.far payloads) on.bytes (bytes_are on.table x.joins.far payloads bytes))

    gains : IsPrefix here.service.accepted end_then.service.accepted → end_then.service.accepted ≡ here.service.accepted ++ gained
    gains (rest, e) =
        let so : gained ≡ rest =
        ap (λ xs. drop (length xs) (accepted_in y.peer t)) on.had ∙ ap (drop (length here.service.accepted)) (now ∙ e) ∙ drop-append_seam here.service.accepted rest in
        e ∙ ap (λ xs. here.service.accepted ++ xs) (sym so)

    accepted_is : (end_behind y.begun (y.arrivals ++ came)).service.accepted ≡ y.begun.service.accepted ++ (y.gained ++ gained)
    accepted_is =
        ap (λ (e : FarEnd). e.service.accepted) all_end ∙ gains grows
        ∙ ap (λ xs. xs ++ gained) on.accepted ∙ append_assoc y.begun.service.accepted y.gained gained

    pub more_payloads : IsByPayloads (goes_on s x t y)
    more_payloads = by_payloads (goes_on s x t y) on.old on.begins all_bytes all_payloads accepted_is

    pub more_on : (k : OpenLink) → IsCountedTo n x.events k.initiator.core.number → y.peer ≡ k.peer
        → (table : List Offer) → end_numbered y.peer t.peers.numbers t.world.fars ≡ Some (giving_values table end_then) → OnLink k t (goes_on s x t y)
    more_on k counted own table stands = record {
      own = own;
      old = on.old;
      begins = on.begins;
      bytes = all_bytes;
      payloads = all_payloads;
      accepted = accepted_is;
      counted = counted_on 0 n y.events x.events on.counted k.initiator.core.number counted;
      table = table;
      stands = ap (λ m. end_numbered m t.peers.numbers t.world.fars) (sym own) ∙ stands ∙ ap (λ e. Some (giving_values table e)) (sym all_end);
    }

-- of some stories the last is that of the open link
pub record On (l : OpenLink) (s : State) (ys : List Story) : Type 0 where
  pub before : List Story
  pub last : Story
  pub split : ys ≡ before ++ last ∷ []
  pub on : OnLink l s last

-- what is said of each story by its payloads
abbrev pub KeepsPayloads : Story → Type 0
KeepsPayloads y = IfPayloads IsByPayloads y

pub if_opened : (P : Type 0) (o : Opener) → P → IfOpenedBy o P
if_opened P ByLink p = p
if_opened P ByForge p = p
if_opened P ByRaw p = tt

pub keeps_payloads : (y : Story) → IsByPayloads y → KeepsPayloads y
keeps_payloads y h = if_opened (IsByPayloads y) y.opener h

-- all are by payloads, and that of the open link goes on
pub record Kept (o : Option OpenLink) (s : State) (ys : List Story) : Type 0 where
  pub all : AllByRecursion KeepsPayloads ys
  pub going : IfLinked o (λ l. On l s ys) (Unit {0})

all_front : (before : List Story) (y : Story) → AllByRecursion KeepsPayloads (before ++ y ∷ []) → AllByRecursion KeepsPayloads before
all_front [] y h = tt
all_front (x ∷ before) y h = (h.0, all_front before y h.1)

on_payloads : (l : OpenLink) (s : State) (y : Story) → OnLink l s y → IsByPayloads y
on_payloads l s y on = by_payloads y on.old on.begins on.bytes on.payloads on.accepted

all_weaker : (P : Story → Type 0) → ((y : Story) → KeepsPayloads y → P y) → (ys : List Story) → AllByRecursion KeepsPayloads ys → AllByRecursion P ys
all_weaker P weaker [] all = tt
all_weaker P weaker (y ∷ ys) all = (weaker y all.0, all_weaker P weaker ys all.1)

-- where no link is open all stay as they are
pub all_with : (o : Option OpenLink) (s : State) (ys : List Story) → Kept o s ys → (P : Story → Type 0) → ((y : Story) → KeepsPayloads y → P y) → AllByRecursion P ys
all_with o s ys h P weaker = all_weaker P weaker ys h.all

-- the last one goes on, and is that of the link that is open then, if one is
module _ (l : OpenLink) (s : State) (ys : List Story) (h : Kept (Some l) s ys) (go : Story → Story) where
  abbrev last : Story
  last = h.going.last

  goes : last_goes_on go ys ≡ h.going.before ++ go last ∷ []
  goes = ap (last_goes_on go) h.going.split ∙ last_story go h.going.before last

  front : AllByRecursion KeepsPayloads h.going.before
  front = all_front h.going.before last (subst (AllByRecursion KeepsPayloads) h.going.split h.all)

  -- what holds of all that are by payloads, and of the last
  pub all_and_last : (P : Story → Type 0) → ((y : Story) → KeepsPayloads y → P y) → P (go last) → AllByRecursion P (last_goes_on go ys)
  all_and_last P weaker one = subst (AllByRecursion P) (sym goes) (all_more P h.going.before (go last) (all_weaker P weaker h.going.before front) one)

  ended_kept : (t : State) → KeepsPayloads (go last) → Kept None t (last_goes_on go ys)
  ended_kept t one = subst (Kept None t) (sym goes) (record { all = all_more KeepsPayloads h.going.before (go last) front one; going = tt })

  going_kept : (k : OpenLink) (t : State) → OnLink k t (go last) → Kept (Some k) t (last_goes_on go ys)
  going_kept k t on =
      subst (Kept (Some k) t) (sym goes) (record {
        all = all_more KeepsPayloads h.going.before (go last) front (keeps_payloads (go last) (on_payloads k t (go last) on));
        going = record { before = h.going.before; last = go last; split = refl; on = on };
      })

-- A far end is the same, but for the values that its server gives.
abbrev pub IsOffered : FarEnd → Option FarEnd → Type 0
IsOffered x now = (table : List Offer) × (now ≡ Some (giving_values table x))

-- what the peer accepted until then
accepted_there : (l : OpenLink) (s t : State) (y : Story) → OnLink l s y → (x : List Accepted) → accepted_of (end_numbered l.peer t.peers.numbers t.world.fars) ≡ x → accepted_in y.peer t ≡ x
accepted_there l s t y on x is = ap (λ n. accepted_in n t) on.own ∙ is

-- a stretch in which nothing happened
pub stays_kept : (o : Option OpenLink) (s t : State) (c : Command) (joins : Joins) (told : Option Answer) (ys : List Story) → Kept o s ys
    → ((l : OpenLink) → o ≡ Some l → (x : FarEnd) → end_numbered l.peer s.peers.numbers s.world.fars ≡ Some x → IsOffered x (end_numbered l.peer t.peers.numbers t.world.fars))
    → Kept o t (open_goes_on o (goes_on s (record { command = c; joins = joins; events = []; told = told }) t) ys)
stays_kept None s t c joins told ys h same = record { all = h.all; going = tt }
stays_kept (Some l) s t c joins told ys h same =
    let on = h.going.on in
    let there : FarEnd = end_behind h.going.last.begun h.going.last.arrivals in
    let x : Stretch = record { command = c; joins = joins; events = []; told = told } in
    let now = same l refl (giving_values on.table there) on.stands in
    let is : end_numbered l.peer t.peers.numbers t.world.fars ≡ Some (giving_values now.0 there) = now.1 in
    going_kept l s ys h (goes_on s x t) l t
    (more_on l.initiator.core.number s h.going.last (up_to l s h.going.last on) x tt t (accepted_there l s t h.going.last on there.service.accepted (ap accepted_of is)) l refl on.own now.0
    (ap (λ n. end_numbered n t.peers.numbers t.world.fars) on.own ∙ is))

-- what is accepted above
pub above_is : (x : List Accepted) (o : Option FarEnd) → OfEnd (λ e. e.service.accepted ≡ x) o → accepted_of o ≡ x
above_is x None h = absurd h
above_is x (Some e) h = h

-- a stretch on the link, by what arrived in it
pub came_kept : (l : OpenLink) (s t : State) (x : Stretch) (ys : List Story) (now : Option OpenLink) → Kept (Some l) s ys → t.peers.numbers ≡ s.peers.numbers
    → ArrivesAt l s.peers.numbers x.joins.far s.world.fars t.world.fars x.events now → ((k : OpenLink) → now ≡ Some k → k.peer ≡ l.peer) → Kept now t (open_goes_on (Some l) (goes_on s x t) ys)
came_kept l s t x ys now h numbers came peer = by now came.going peer
  where
    on : OnLink l s h.going.last
    on = h.going.on

    y : Story
    y = h.going.last

    there : FarEnd
    there = end_behind y.begun y.arrivals

    end : FarEnd
    end = end_then l.initiator.core.number s y (up_to l s y on) x came.arrives.bytes

    same : came.old ≡ giving_values on.table there
    same = let both : Some came.old ≡ Some (giving_values on.table there) = sym came.stood ∙ on.stands in cc

    new_is : came.new.end ≡ giving_values on.table end
    new_is =
        let C : FarEnd → Choosing FarEnd = λ e. record { end = e; numbers = x.joins.far } in
        let ps : List (List ℕ) = brought l.initiator.core.number x.events in
        ap (λ (c : Choosing FarEnd). c.end) (came.arrives.after_is ∙ ap (λ e. all_answered ps (C e)) same) ∙ answered_is ps x.joins.far on.table there

    end_is : end_numbered l.peer t.peers.numbers t.world.fars ≡ end_numbered l.peer s.peers.numbers t.world.fars
    end_is = ap (λ ns. end_numbered l.peer ns t.world.fars) numbers

    accepted : accepted_in y.peer t ≡ end.service.accepted
    accepted =
        accepted_there l s t y on end.service.accepted
        (ap accepted_of end_is ∙ above_is came.new.end.service.accepted (end_numbered l.peer s.peers.numbers t.world.fars) came.accepted ∙ ap (λ (e : FarEnd). e.service.accepted) new_is)

    by : (now : Option OpenLink) → IfLinked now (λ k. (end_numbered l.peer s.peers.numbers t.world.fars ≡ Some came.new.end) × IsCountedTo l.initiator.core.number x.events k.initiator.core.number)
        (Unit {0})
        → ((k : OpenLink) → now ≡ Some k → k.peer ≡ l.peer) → Kept now t (last_goes_on (goes_on s x t) ys)
    by None g p = ended_kept l s ys h (goes_on s x t) t (keeps_payloads (goes_on s x t y) (more_payloads l.initiator.core.number s y (up_to l s y on) x came.arrives.bytes t accepted))
    by (Some k) g p =
        going_kept l s ys h (goes_on s x t) k t
        (more_on l.initiator.core.number s y (up_to l s y on) x came.arrives.bytes t accepted k g.1 (on.own ∙ sym (p k refl)) on.table
        (ap (λ n. end_numbered n t.peers.numbers t.world.fars) on.own ∙ end_is ∙ g.0 ∙ ap Some new_is))

-- no link is open then
pub none_kept : (o : Option OpenLink) (s t : State) (ys : List Story) → Kept o s ys → Kept None t ys
none_kept o s t ys h = record { all = h.all; going = tt }

-- a link begins, if one does
pub begun_kept : (o : Option OpenLink) (s t : State) (number : ℕ) (general : List ℕ) (ys : List Story) → AllByRecursion KeepsPayloads ys → t.peers.numbers ≡ s.peers.numbers
    → IfLinked o (λ l. BeginsAt l general s.peers.numbers s.world.fars t.world.fars) (Unit {0}) → ((l : OpenLink) → o ≡ Some l → l.initiator.core.number ≡ 0)
    → Kept o t (ys ++ story_if number general o t)
begun_kept None s t number general ys all numbers begins first = subst (Kept None t) (sym (append-nil ys)) (record { all = all; going = tt })
begun_kept (Some l) s t number general ys all numbers begins first = by (end_numbered l.peer s.peers.numbers s.world.fars) begins
  where
    end_is : end_numbered l.peer t.peers.numbers t.world.fars ≡ end_numbered l.peer s.peers.numbers t.world.fars
    end_is = ap (λ ns. end_numbered l.peer ns t.world.fars) numbers

    by : (before : Option FarEnd) → OfEnd (λ old. end_numbered l.peer s.peers.numbers t.world.fars ≡ Some (restarted serving old general)) before
        → Kept (Some l) t (ys ++ story_of number general l.peer (end_numbered l.peer t.peers.numbers t.world.fars))
    by None b = absurd b
    by (Some old) b =
        let end : FarEnd = restarted serving old general in
        let y : Story = new_story number ByLink l.peer general end in
        let on : OnLink l t y = record {
          own = refl;
          old = old;
          begins = refl;
          bytes = tt;
          payloads = refl;
          accepted = sym (append-nil end.service.accepted);
          counted = ap (λ n. let c : Cut = record { next = n; chain = []; payloads = [] } in c) (sym (first l refl));
          table = end.service.table;
          stands = end_is ∙ b;
        } in
        subst (λ x. Kept (Some l) t (ys ++ story_of number general l.peer x)) (sym (end_is ∙ b))
        (record { all = all_more KeepsPayloads ys y all (keeps_payloads y (on_payloads l t y on)); going = record { before = ys; last = y; split = refl; on = on } })
