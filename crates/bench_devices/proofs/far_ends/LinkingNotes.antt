-- What is due while a link is opened: the selection first, and behind it ATR_REQ.
use Rattle.std.proofs.Common.{◌≡◌, ℕ, List, [], ◌∷◌, ◌++◌, Ok, Err, refl, ap, subst}
use Rattle.std.specs.Prelude.{Result}
use Rattle.air_core.specs.Conversation.{Note, Lit, Got, Lost, Next, Over, LightUp, Asks, IsDemand}
use Rattle.nfca_poll.specs.declared.fault.PollFault.{PollFault}
use Rattle.nfca_poll.specs.Enquiry.{Enquiry}
use Rattle.nfca_poll.specs.Inventory.{picking_v}
use Rattle.nfca_poll.specs.Rounds.{picking}
use Rattle.bench_script.specs.declared.command.DeviceId.{DeviceId}
use Rattle.bench_script.specs.declared.command.DeviceId.TheVariants as ids
use Rattle.bench_devices.specs.declared.polling.SeenKind.{SeenKind}
use Rattle.bench_devices.specs.declared.polling.SeenKind.TheVariants as seen
use Rattle.bench_devices.specs.LinkLaws.{LinkAsks}
use Rattle.bench_devices.specs.Opening.{then_opens}
use Rattle.bench_devices.specs.Polling as polls
use Rattle.bench_devices.specs.Polling.{Followed, Told, follows, kind_by, seen_kind, pick_v, asks, selecting}
use Rattle.bench_devices.proofs.finding.Following.{ToldOn, told_on}

-- What one has told, the other tells too, with more that is known since.
kind_more : {X : Type 0} (kind : X → SeenKind) (p q : Followed X) (ns : List Note) → ToldOn p ns q → ToldOn (kind_by kind p) ns (kind_by kind q)
kind_more kind (polls.Asks n) q ns h = tt
kind_more kind (Told (Ok x) rest) q ns h = ap (kind_by kind) h
kind_more kind (Told (Err e) rest) q ns h = ap (kind_by kind) h

follows_more : {S X : Type 0} (e : Enquiry S X) (kind : X → SeenKind) (hs ns : List Note) → ToldOn (kind_by kind (follows e hs)) ns (kind_by kind (follows e (hs ++ ns)))
follows_more e kind hs ns = kind_more kind (follows e hs) (follows e (hs ++ ns)) ns (told_on e e.start (e.ended e.start) hs ns)

pick_v_more : (id : List ℕ) (hs ns : List Note) → ToldOn (pick_v id hs) ns (pick_v id (hs ++ ns))
pick_v_more id [] ns = tt
pick_v_more id (Lit ∷ hs) ns = follows_more (picking_v id) (λ x. seen.T5) hs ns
pick_v_more id (Got h ∷ hs) ns = tt
pick_v_more id (Lost ∷ hs) ns = refl

selecting_stays : (id : DeviceId) (hs ns : List Note) → ToldOn (selecting id hs) ns (selecting id (hs ++ ns))
selecting_stays (ids.A id) hs ns = follows_more (picking id) seen_kind hs ns
selecting_stays (ids.V id) hs ns = pick_v_more id hs ns

selecting_more : (id : DeviceId) (hs ns : List Note) (r : Result SeenKind PollFault) → selecting id hs ≡ Told r [] → selecting id (hs ++ ns) ≡ Told r ns
selecting_more id hs ns r told = let P : Followed SeenKind → Type 0 = λ p. ToldOn p ns (selecting id (hs ++ ns)) in subst P told (selecting_stays id hs ns)

polls_first : (general : List ℕ) (p : Followed SeenKind) (n : Next) → asks p ≡ n → IsDemand n → then_opens general p ≡ n
polls_first general (polls.Asks m) n h d = h
polls_first general (Told r ns) Over h d = absurd d
polls_first general (Told r ns) LightUp h d = absurd cc
polls_first general (Told r ns) (Asks f) h d = absurd cc

pub link_asks : LinkAsks
link_asks = record {
  first = λ id general ns n h d. polls_first general (selecting id ns) n h d;
  behind = λ id general kind hs ns told. ap (then_opens general) (selecting_more id hs ns (Ok kind) told);
  missed = λ id general e hs ns told. ap (then_opens general) (selecting_more id hs ns (Err e) told);
}
