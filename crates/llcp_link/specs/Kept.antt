-- What is true of each end, whatever came.
use Rattle.std.specs.Prelude.{◌≡◌, ◌<◌, ◌≤◌, ℕ, true, List, [], ◌∷◌, length, Option, IfSome}
use Rattle.llcp_pdu.specs.declared.part.Part.{Part}
use Rattle.llcp_pdu.specs.General.{IsMiu}
use Rattle.llcp_pdu.specs.Ranges.{IsPart}
use Rattle.llcp_pdu.specs.Writing.{part_bytes}
use Rattle.llcp_conn.specs.Conn.{ConnState, IsSap, IsWindow, modulus}
use Rattle.llcp_link.specs.State.{Bound, Queued, OwnIs, Open}

-- the most bytes of a payload
abbrev pub most_payload : ℕ
most_payload = 2178

-- a PDU that goes alone in a payload
pub record IsSent (p : Part) : Type 0 where
  pub part : IsPart p
  pub size : length (part_bytes p) ≤ most_payload

abbrev pub AllSent : List Queued → Type 0
AllSent [] = Unit {0}
AllSent (q ∷ qs) = IsSent q.part × AllSent qs

-- an open connection that was asked of this end, on which nothing waits
pub record IsServed (c : ConnState) : Type 0 where
  pub here : IsSap c.here
  pub there : IsSap c.there
  pub far_miu : IsMiu c.far_miu
  pub vr : c.vr < modulus
  pub vsa : c.vsa < modulus
  pub vra : c.vra < modulus
  pub live : c.live ≡ true
  pub queue : c.queue ≡ []

abbrev pub AllServed : List ConnState → Type 0
AllServed [] = Unit {0}
AllServed (c ∷ cs) = IsServed c × AllServed cs

-- units that are within the other end's MIU
abbrev pub AllWithin : ℕ → List (List ℕ) → Type 0
AllWithin miu [] = Unit {0}
AllWithin miu (u ∷ us) = (length u ≤ miu) × AllWithin miu us

-- an open connection that this end asked for
pub record IsAsked (here there : ℕ) (c : ConnState) : Type 0 where
  pub here_is : c.here ≡ here
  pub there_is : c.there ≡ there
  pub far_miu : IsMiu c.far_miu
  pub vr : c.vr < modulus
  pub vsa : c.vsa < modulus
  pub vra : c.vra < modulus
  pub live : c.live ≡ true
  pub queue : AllWithin c.far_miu c.queue

abbrev pub IsAskedSo : ℕ → ℕ → OwnIs → Type 0
IsAskedSo here there (Open c) = IsAsked here there c
IsAskedSo here there _ = Unit {0}

-- a connection that this end asked for, by its SAPs and how it stands
pub record IsOwn (from to : ℕ) (how : OwnIs) : Type 0 where
  pub here : IsSap from
  pub there : IsSap to
  pub conn : IsAskedSo from to how

abbrev pub AllBound : List Bound → Type 0
AllBound [] = Unit {0}
AllBound (b ∷ bs) = IsSap b.sap × AllBound bs

-- an end by its MIU and window, the other end's MIU, the names that are bound, the PDUs that wait, the connections and
-- the mark
pub record IsEnd (near rw far : ℕ) (names : List Bound) (waiting : List Queued) (conns : List ConnState)
    (mark : Option ℕ) : Type 0 where
  pub miu : IsMiu near
  pub window : IsWindow rw
  pub far_miu : IsMiu far
  pub bound : AllBound names
  pub queue : AllSent waiting
  pub served : AllServed conns
  pub last : IfSome mark IsSap
