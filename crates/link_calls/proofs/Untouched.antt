-- What is said of a call of which want of memory left nothing done.
use Rattle.std.proofs.Common.{◌≡◌, ℕ, List, [], refl, subst, sym, inl}
use Rattle.std.proofs.Math.Seq.{drop-length}
use Rattle.nfc_base.specs.Choosing.{Choosing}
use Rattle.nfc_base.specs.declared.event.Event.{Event}
use Rattle.air_core.specs.Turn.{Air}
use Rattle.air_core.specs.declared.listener.Listener.{Ghosts}
use Rattle.dep_link.specs.Target.{TargetState}
use Rattle.dep_link.specs.Initiator.{InitState}
use Rattle.peer_air.specs.PeerFars.{peer_ends}
use Rattle.snep_core.specs.Accord.{PeerState}
use Rattle.snep_core.specs.Talk.{Step}
use Rattle.link_calls.specs.Arriving.{ArrivesCut}
use Rattle.link_calls.specs.CallDue.{by_client, next_of}
use Rattle.link_calls.specs.Walk.{walk_at}
use Rattle.link_calls.specs.Calls.{IsCutShort}
use Rattle.link_calls.proofs.Walk.{never_strays, starts}

none_came : (first : ℕ) (es : List Event) (far : Choosing PeerState) → es ≡ [] → ArrivesCut first es far far
none_came first es far none = subst (λ xs. ArrivesCut first xs far far) (sym none) (inl (record { bytes = tt; after_is = refl }))

pub nothing_done : {L : Type 0} (k : Ghosts L) (target : L → TargetState) (numbers : List ℕ) (from : Step) (old : Air L) (i : InitState) (far : Choosing PeerState)
    → IsCutShort k target numbers from old i far old i far
nothing_done k target numbers from old i far = record {
  front = λ linked links place there os. record {
    standing = walk_at by_client (next_of numbers from) i;
    mid = old;
    half = far;
    turns = starts k target linked peer_ends place os by_client (next_of numbers from) i old far;
    under_way = never_strays by_client (next_of numbers from) i;
    left = inl (refl, refl);
  };
  arrives = none_came i.core.number _ far (drop-length old.trace);
  setting = refl;
}
