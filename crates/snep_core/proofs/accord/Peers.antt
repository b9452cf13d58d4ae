-- An end with this project's server is a peer, and accords with its client whatever its table for get is.
use Rattle.std.proofs.Common.{◌⊎◌, ℕ, List, [], refl, sym, inl, inr, append-nil}
use Rattle.nfc_base.specs.Choosing.{first_number}
use Rattle.llcp_link.specs.Taking.{brought, steps, taken_from}
use Rattle.llcp_link.specs.Answering.{Stops}
use Rattle.snep_core.specs.Accord.{IsApart, IsJoined, PeerState, PeerStops, CountedServe, PeersServe, OffersAccord}
use Rattle.snep_core.specs.Server.{serving}
use Rattle.snep_core.specs.Session.{Offer}
use Rattle.snep_core.proofs.jobs.CutOff.{giving_same, left_same}

stops_so : (old : PeerState) (payload : List ℕ) (new : PeerState) → Stops serving old payload new → PeerStops old payload new
stops_so old payload new (inl k) = record {
  front = k.halts.front;
  behind = k.halts.behind;
  split = k.halts.split;
  accepted = left_same (steps serving old k.halts.front).service new.service k.halts.service;
}
stops_so old payload new (inr k) = record {
  front = brought old payload;
  behind = [];
  split = sym (append-nil (brought old payload));
  accepted = giving_same (taken_from serving old payload).service.accepted (taken_from serving old payload) new refl k;
}

pub server_is_peer : PeersServe
server_is_peer = record {
  steps_so = λ a payload reply b h. record { count = 0; reply_is = h.gives.bytes_are; left = h.gives.left };
  stops_so = stops_so;
}

pub counted_is_peer : CountedServe
counted_is_peer = record {
  steps_so = λ a payload reply b h. record { count = first_number a.numbers; reply_is = h.answers.gives.bytes_are; left = h.answers.gives.left };
  stops_so = λ a payload b h. stops_so a.end payload b.end h;
}

abbrev offering : PeerState → List Offer → PeerState
offering peer table = record peer { service = record peer.service { table = table } }

pub offers_accord : OffersAccord
offers_accord client peer table a = record {
  client_fair = a.client_fair;
  peer_fair = record { miu = a.peer_fair.miu; window = a.peer_fair.window; last = a.peer_fair.last };
  peer_serving = record { seats = a.peer_serving.seats; bound = a.peer_serving.bound; far_miu = a.peer_serving.far_miu };
  calm = record {
    client_readable = a.calm.client_readable;
    client_queue = a.calm.client_queue;
    client_served = a.calm.client_served;
    peer_readable = a.calm.peer_readable;
    peer_queue = a.calm.peer_queue;
    peer_own = a.calm.peer_own;
    no_other = a.calm.no_other;
  };
  stands = λ sap. go sap (a.stands sap);
}
  where
    go : (sap : ℕ) → (IsApart sap client peer ⊎ IsJoined sap client peer) → IsApart sap client (offering peer table) ⊎ IsJoined sap client (offering peer table)
    go sap (inl h) = inl (record { own = h.own; served = h.served })
    go sap (inr h) = inr (record { range = h.range; numbers = h.numbers; paired = h.paired; settled = h.settled; own = h.own; served = h.served; session = h.session })
