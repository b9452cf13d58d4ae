-- The units that payloads bring to the connections of one client's SAP, by the payloads and by what the end's state
-- tells of them.
use Rattle.std.specs.Prelude.{ℕ, ◌+◌, ◌-◌, ◌%◌, ◌==◌, nat_lt, Bool, ◌&&◌, not, List, [], ◌∷◌, ◌++◌, length, Option}
use Rattle.std.specs.Prelude.{Some, None, if◌then◌else◌}
use Rattle.llcp_pdu.specs.declared.part.Part.TheVariants.{Connect, Disc, Frmr, Info, Rr, Rnr}
use Rattle.llcp_conn.specs.Conn.{ConnState, vs}
use Rattle.llcp_link.specs.Serving.{Serving}
use Rattle.llcp_link.specs.State.{LlcState, conn_from}
use Rattle.llcp_link.specs.Taking.{Item, Good, Broken, accepted, step}

-- a PDU that came, with what the end's state tells: the SAP that answers it with CC, where one does; and V(S) and V(SA)
-- of the connection of the client's SAP
pub record Mark : Type 0 where
  pub item : Item
  pub accepted : Option ℕ
  pub vs : ℕ
  pub vsa : ℕ

abbrev pub vs_of : Option ConnState → ℕ
vs_of None = 0
vs_of (Some c) = vs c

abbrev pub vsa_of : Option ConnState → ℕ
vsa_of None = 0
vsa_of (Some c) = c.vsa

module _ {S : Type 0} (m : Serving S) where
  abbrev pub accepted_item : LlcState S → Item → Option ℕ
  accepted_item l (Good (Connect d s ps)) = accepted l d s ps
  accepted_item l _ = None

  abbrev pub mark : ℕ → LlcState S → Item → Mark
  mark c l i = record {
    item = i;
    accepted = accepted_item l i;
    vs = vs_of (conn_from c l.served);
    vsa = vsa_of (conn_from c l.served);
  }

  abbrev pub marks : ℕ → LlcState S → List Item → List Mark
  marks c l [] = []
  marks c l (i ∷ is) = mark c l i ∷ marks c (step m l i) is

-- a connection of the client's SAP: the SAP that it goes to, and its units so far
pub record UnitsSoFar : Type 0 where
  pub here : ℕ
  pub units : List (List ℕ)

-- N(R) is from V(SA) to V(S)
abbrev pub is_within : ℕ → ℕ → ℕ → Bool
is_within vsa vs nr = not (nat_lt ((vs + 16 - vsa) % 16) ((nr + 16 - vsa) % 16))

-- what a PDU does to a connection
pub data Does : Type 0 where
  Ends : Does
  Stays : Does
  Brings : List ℕ → Does

-- A PDU between its SAPs. The next I PDU has a right size, N(S) and N(R); a right RR and RNR a right N(R).
abbrev pub informs : ℕ → UnitsSoFar → Mark → ℕ → ℕ → List ℕ → Does
informs miu o m ns nr info = if not (nat_lt miu (length info))
    && (is_within m.vsa m.vs nr && (ns == length o.units % 16)) then Brings info else Ends

abbrev pub acknowledges : Mark → ℕ → Does
acknowledges m nr = if is_within m.vsa m.vs nr then Stays else Ends

abbrev pub of_it : ℕ → UnitsSoFar → ℕ → ℕ → Does → Does
of_it c o d s does = if (d == o.here) && (s == c) then does else Stays

abbrev pub does_by : ℕ → ℕ → UnitsSoFar → Mark → Item → Does
does_by c miu o m (Good (Disc d s)) = of_it c o d s Ends
does_by c miu o m (Good (Frmr d s r)) = of_it c o d s Ends
does_by c miu o m (Good (Info d s ns nr info)) = of_it c o d s (informs miu o m ns nr info)
does_by c miu o m (Good (Rr d s nr)) = of_it c o d s (acknowledges m nr)
does_by c miu o m (Good (Rnr d s nr)) = of_it c o d s (acknowledges m nr)
does_by c miu o m (Broken t d s q) = of_it c o d s Ends
does_by c miu o m (Good _) = Stays

-- a CONNECT from the client's SAP that is answered with CC begins one
abbrev pub begun_at : Option ℕ → Option UnitsSoFar
begun_at None = None
begun_at (Some sap) = Some (record { here = sap; units = [] })

abbrev pub begun_by : ℕ → Option ℕ → Item → Option UnitsSoFar
begun_by c sap (Good (Connect d s ps)) = if s == c then begun_at sap else None
begun_by c sap _ = None

-- the connection that is open after a PDU, and the units of one that it ended
pub record Turn : Type 0 where
  pub open_ : Option UnitsSoFar
  pub over : List (List (List ℕ))

abbrev pub turn_of : UnitsSoFar → Does → Turn
turn_of o Ends = record { open_ = None; over = o.units ∷ [] }
turn_of o Stays = record { open_ = Some o; over = [] }
turn_of o (Brings u) = record { open_ = Some (record o { units = o.units ++ u ∷ [] }); over = [] }

abbrev pub turn : ℕ → ℕ → Option UnitsSoFar → Mark → Turn
turn c miu None m = record { open_ = begun_by c m.accepted m.item; over = [] }
turn c miu (Some o) m = turn_of o (does_by c miu o m m.item)

abbrev pub last : Option UnitsSoFar → List (List (List ℕ))
last None = []
last (Some o) = o.units ∷ []

-- the units of each connection of the client's SAP, the one that is still open last
abbrev pub units : ℕ → ℕ → Option UnitsSoFar → List Mark → List (List (List ℕ))
units c miu o [] = last o
units c miu o (m ∷ ms) = (turn c miu o m).over ++ units c miu (turn c miu o m).open_ ms
