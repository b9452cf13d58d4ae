-- Whatever call a client makes of its end, the end goes on so that its payloads are short: as the call begins, as its jobs submit
-- units before a payload, and as they take a reply.
use Rattle.std.proofs.Common.{◌≡◌, ◌≤◌, nat_lt, ℕ, zero, suc, Bool, true, false, List, [], ◌∷◌, ◌++◌, length, take, drop, Option, Some, None, if◌then◌else◌, arith, refl, ap, append-nil}
use Rattle.std.specs.Prelude.{IfSome, is_none}
use Rattle.std.specs.List.{AllByRecursion}
use Rattle.std.proofs.lemmas.Bool.Decides.{nat_tests}
use Rattle.dep_link.specs.Sizes.{limit}
use Rattle.llcp_pdu.specs.declared.part.Part.TheVariants.{Connect, Disc, Snl}
use Rattle.llcp_pdu.specs.declared.param.Param.TheVariants.{SdReq}
use Rattle.llcp_pdu.specs.Writing.{part_bytes}
use Rattle.llcp_conn.specs.declared.fault.ConnFault.TheVariants.{WindowFull, TooLong, NotOpen}
use Rattle.llcp_conn.specs.Conn as conn
use Rattle.llcp_conn.specs.Conn.{ConnState, has_room}
use Rattle.llcp_link.specs.Names.{own_params}
use Rattle.llcp_link.specs.declared.own.OwnIs.{OwnIs}
use Rattle.llcp_link.specs.declared.own.OwnIs.TheVariants.{Open, Leaving}
use Rattle.llcp_link.specs.State.{OwnState, own_from, with_own}
use Rattle.llcp_link.specs.Asking.{asked_from, disconnected_by, forgotten, is_busy_by, is_open_by, looked_up, queued_on, refusal_of, refusal_on, standing_of, submitted_by}
use Rattle.llcp_link.specs.Giving.{after_giving}
use Rattle.llcp_link.specs.Taking.{taken_from}
use Rattle.llcp_link.proofs.Ranged.{either}
use Rattle.snep_core.specs.declared.job.Job.{Job}
use Rattle.snep_core.specs.declared.job.Job.TheVariants.{Begins, Sends, Asks}
use Rattle.snep_core.specs.declared.job.OnSap.{OnSap}
use Rattle.snep_core.specs.declared.silent.NoService.{NoService}
use Rattle.snep_core.specs.Talk as talk
use Rattle.snep_core.specs.Talk.{CameTo, EndState, Finds, Gets, Leaves, Puts, Ready, Step, Task, TaskOn, Working, all_emptied, all_forgotten, all_heard, all_opening, all_over, all_readied, all_well}
use Rattle.snep_core.specs.Talk.{begins_all, continue_bytes, emptied, gave_any, idle_after, miu_of, most_idle, payload, readied, ready, replied, sends_some, server_sap, silent, submits, takes_more}
use Rattle.snep_core.specs.Talk.{took}
use Rattle.link_numbers.specs.OwnShows.{AtEnd}
use Rattle.bench_world.specs.Cutting.{GivesShort, OwnShort, QueuedShort, StandsShort}
use Rattle.bench_world.proofs.sizes.SizedConns.{own_found, put_own_short, queued_short, without_own_short}
use Rattle.bench_world.proofs.sizes.SizedGives.{after_short, gives_short, own_changed, own_long, taken_short}
use Rattle.bench_world.proofs.sizes.SizedWorld.{all_more}

abbrev pub Short : EndState → Type 0
Short l = GivesShort l

-- A name that is looked up fits into a payload.
abbrev pub NameFits : Task → Type 0
NameFits (Finds name) = length name ≤ 64
NameFits t = Unit {0}

abbrev pub NamesFit : List TaskOn → Type 0
NamesFit ts = AllByRecursion (λ (t : TaskOn). NameFits t.task) ts

-- a service with nothing to send has no unit
no_unit : (s : NoService) (client miu : ℕ) → IfSome (silent.due s client miu) (λ u. length u ≤ miu)
no_unit s client miu = tt

-- Requests are short.
connect_fits : (miu window sap : ℕ) → length (part_bytes (Connect server_sap sap (own_params miu window))) ≤ 2178
connect_fits miu window sap = let long = own_long miu window in omega (arith, long)

disc_fits : (d s : ℕ) → length (part_bytes (Disc d s)) ≤ 2178
disc_fits d s = omega arith

lookup_fits : (tid : ℕ) (name : List ℕ) → length name ≤ 64 → length (part_bytes (Snl (SdReq tid name ∷ []))) ≤ 2178
lookup_fits tid name h = let same : length (name ++ []) ≡ length name = ap length (append-nil name) in omega (arith, h, same)

-- What a task puts into the queue, and what all do.
connected_short : (l : EndState) (sap : ℕ) → Short l → Short (talk.connected l sap)
connected_short l sap h =
    either {X = EndState} Short (is_busy_by (own_from sap l.own)) l _ (λ e. h)
    (λ e. record {
      miu = h.miu;
      queue = all_more QueuedShort l.queue _ h.queue (connect_fits l.miu l.window sap);
      served = h.served;
      own = put_own_short (asked_from sap server_sap) l.own tt h.own;
    })

looked_up_short : (l : EndState) (name : List ℕ) → length name ≤ 64 → Short l → Short (looked_up l name)
looked_up_short l name k h = record { miu = h.miu; queue = all_more QueuedShort l.queue _ h.queue (lookup_fits l.asked name k); served = h.served; own = h.own }

disconnected_short : (l : EndState) (o : Option OwnState) → Short l → Short (disconnected_by l o)
disconnected_short l None h = h
disconnected_short l (Some o) h =
    let left : Short (record l { own = with_own (record o { is = Leaving }) l.own }) = own_changed l (record o { is = Leaving }) tt h in
    record { miu = h.miu; queue = all_more QueuedShort l.queue _ h.queue (disc_fits o.there o.here); served = h.served; own = left.own }

leaving_short : (l : EndState) (sap : ℕ) (t : Bool) → Short l → Short (talk.leaving l sap t).llc
leaving_short l sap true h = disconnected_short l (own_from sap l.own) h
leaving_short l sap false h = h

opening_short : (l : EndState) (sap : ℕ) (task : Task) → NameFits task → Short l → Short (talk.opening l sap task).llc
opening_short l sap (Puts message) k h = connected_short l sap h
opening_short l sap (Gets most key) k h = connected_short l sap h
opening_short l sap (Finds name) k h = looked_up_short l name k h
opening_short l sap Leaves k h = leaving_short l sap (is_open_by (own_from sap l.own)) h

all_opening_short : (xs : List TaskOn) (l : EndState) → NamesFit xs → Short l → Short (all_opening xs l).llc
all_opening_short [] l k h = h
all_opening_short (x ∷ xs) l k h = all_opening_short xs (talk.opening l x.sap x.task).llc k.1 (opening_short l x.sap x.task k.0 h)

-- so a call begins
pub begins_short : (l : EndState) (tasks : List TaskOn) → NamesFit tasks → Short l → AtEnd Short (begins_all l tasks)
begins_short l tasks k h =
    let opened : Short (all_opening tasks l).llc = all_opening_short tasks l k h in
    either {X = Step} (AtEnd Short) (all_over (all_opening tasks l).jobs) _ _ (λ e. opened) (λ e. opened)

-- A unit that is submitted is no longer than the other end takes.
within_miu : (c : ConnState) (n : ℕ) → is_none (conn.refusal_of c n) ≡ true → n ≤ c.far_miu
within_miu c n e = go c.live (nat_lt c.far_miu n) refl e
  where
    go : (live longer : Bool) → nat_lt c.far_miu n ≡ longer
        → is_none (if live then (if longer then Some TooLong else (if has_room c then None else Some WindowFull)) else Some NotOpen) ≡ true → n ≤ c.far_miu
    go true true f e = absurd cc
    go true false f e = grind (arith, nat_tests)
    go false longer f e = absurd cc

waits_short : (o : OwnState) (u : List ℕ) (i : OwnIs) → OwnShort o → StandsShort i → is_none (refusal_on i u) ≡ true → OwnShort (queued_on o u i)
waits_short o u (Open c) k h e = queued_short c u h (within_miu c (length u) e)
waits_short o u i k h e = k

submitted_short : (l : EndState) (unit : List ℕ) (q : Option OwnState) → IfSome q OwnShort → is_none (refusal_of q unit) ≡ true → Short l → Short (submitted_by l unit q)
submitted_short l unit None k e h = h
submitted_short l unit (Some o) k e h = own_changed l (queued_on o unit o.is) (waits_short o unit o.is k k e) h

submits_short : (l : EndState) (sap : ℕ) (unit : List ℕ) → takes_more l sap unit ≡ true → Short l → Short (submits l sap unit)
submits_short l sap unit e h = submitted_short l unit (own_from sap l.own) (own_found sap l.own h.own) e h

-- what jobs submit before a payload
begins_on_short : (l : EndState) (sap : ℕ) (most : Option ℕ) (bytes : List ℕ) (o : Option ℕ) → Short l → Short (talk.begins_on l sap most bytes o).llc
begins_on_short l sap most bytes None h = h
begins_on_short l sap most bytes (Some miu) h =
    either {X = Ready} (λ r. Short r.llc) (takes_more l sap (take miu bytes)) _ _ (λ e. submits_short l sap (take miu bytes) e h) (λ e. h)

sends_some_short : (n miu : ℕ) (l : EndState) (sap : ℕ) (most : Option ℕ) (rest : List ℕ) → Short l → Short (sends_some n miu l sap most rest).llc
sends_some_short zero miu l sap most rest h = h
sends_some_short (suc n) miu l sap most [] h = h
sends_some_short (suc n) miu l sap most (b ∷ bs) h =
    either {X = Ready} (λ r. Short r.llc) (takes_more l sap (take miu (b ∷ bs))) _ _
    (λ e. sends_some_short n miu (submits l sap (take miu (b ∷ bs))) sap most (drop miu (b ∷ bs)) (submits_short l sap (take miu (b ∷ bs)) e h)) (λ e. h)

sends_on_short : (l : EndState) (sap : ℕ) (most : Option ℕ) (rest : List ℕ) (o : Option ℕ) → Short l → Short (talk.sends_on l sap most rest o).llc
sends_on_short l sap most rest None h = h
sends_on_short l sap most rest (Some miu) h = sends_some_short (length rest) miu l sap most rest h

asks_on_short : (l : EndState) (sap size : ℕ) (have : List ℕ) → Short l → Short (talk.asks_on l sap size have).llc
asks_on_short l sap size have h =
    either {X = Ready} (λ r. Short r.llc) (takes_more l sap continue_bytes) _ _ (λ e. submits_short l sap continue_bytes e h) (λ e. h)

readied_short : (l : EndState) (sap : ℕ) (job : Job) → Short l → Short (readied l sap job).llc
readied_short l sap (Begins most bytes) h = begins_on_short l sap most bytes (miu_of (standing_of (own_from sap l.own))) h
readied_short l sap (Sends most rest) h = sends_on_short l sap most rest (miu_of (standing_of (own_from sap l.own))) h
readied_short l sap (Asks size have) h = asks_on_short l sap size have h
readied_short l sap job h = h

all_readied_short : (xs : List OnSap) (l : EndState) → Short l → Short (all_readied xs l).llc
all_readied_short [] l h = h
all_readied_short (x ∷ xs) l h = all_readied_short xs (readied l x.sap x.job).llc (readied_short l x.sap x.job h)

ready_short : (w : Working) → Short w.llc → Short (ready w).llc
ready_short w h = all_readied_short w.jobs w.llc h

-- the next payload, of whatever number of PDUs
pub carries_short : (n : ℕ) (w : Working) → Short w.llc → length (payload n w) ≤ limit
carries_short n w h = gives_short silent no_unit n (ready w).llc (ready_short w h)

-- the units that were handed up are taken away; connections are forgotten
emptied_short : (l : EndState) (q : Option OwnState) → IfSome q OwnShort → Short l → Short (talk.emptied_by l q)
emptied_short l None k h = h
emptied_short l (Some o) k h = own_changed l (record o { units = [] }) k h

all_emptied_short : (xs : List OnSap) (l : EndState) → Short l → Short (all_emptied xs l)
all_emptied_short [] l h = h
all_emptied_short (x ∷ xs) l h = all_emptied_short xs (emptied l x.sap) (emptied_short l (own_from x.sap l.own) (own_found x.sap l.own h.own) h)

all_forgotten_short : (xs : List OnSap) (l : EndState) → Short l → Short (all_forgotten xs l)
all_forgotten_short [] l h = h
all_forgotten_short (x ∷ xs) l h =
    all_forgotten_short xs (forgotten l x.sap) (record { miu = h.miu; queue = h.queue; served = h.served; own = without_own_short x.sap l.own h.own })

-- what a call is behind a reply
goes_on_short : (l : EndState) (jobs : List OnSap) (idle : ℕ) → Short l → AtEnd Short (talk.goes_on l jobs idle)
goes_on_short l jobs idle h = either {X = Step} (AtEnd Short) (nat_lt idle most_idle) _ _ (λ e. h) (λ e. all_forgotten_short jobs l h)

settled_short : (l : EndState) (jobs : List OnSap) (idle : ℕ) → Short l → AtEnd Short (talk.settled l jobs idle)
settled_short l jobs idle h = either {X = Step} (AtEnd Short) (all_over jobs) _ _ (λ e. h) (λ e. goes_on_short l jobs idle h)

told_by_short : (l : EndState) (jobs : List OnSap) (came : List CameTo) (idle : ℕ) (o : Option (List OnSap)) → Short l → AtEnd Short (talk.call_behind l jobs came idle o)
told_by_short l jobs came idle None h = all_forgotten_short jobs l h
told_by_short l jobs came idle (Some now) h = settled_short (all_emptied jobs l) now idle (all_emptied_short jobs l h)

took_short : (old l : EndState) (jobs : List OnSap) (idle : ℕ) → Short l → AtEnd Short (took old l jobs idle)
took_short old l jobs idle h = told_by_short l jobs (all_heard old l jobs) (idle_after (gave_any old l jobs) idle) (all_well (all_heard old l jobs)) h

pub replied_short : (n : ℕ) (w : Working) (reply : List ℕ) → Short w.llc → AtEnd Short (replied n w reply)
replied_short n w reply h =
    let l : EndState = after_giving silent n (ready w).llc in
    took_short l (taken_from silent l reply) (ready w).jobs (ready w).idle (taken_short silent l reply (after_short silent no_unit n (ready w).llc (ready_short w h)))
