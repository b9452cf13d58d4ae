-- What a client's connection gives, by the table.
use Rattle.std.proofs.Common.{◌≡◌, ◌<◌, arith, ℕ, true, Option, Some, None, sym, ap, subst, ◌∙◌, if◌then◌else◌}
use Rattle.llcp_pdu.specs.declared.part.Part.TheVariants.{Rr}
use Rattle.llcp_conn.specs.Conn.{ConnState, gives_ack}
use Rattle.llcp_link.specs.Serving.{Serving}
use Rattle.llcp_link.specs.State.{LlcState, conn_from, with_conn}
use Rattle.llcp_link.specs.Giving.{Gave, gave_conn, acknowledges_served}
use Rattle.llcp_link.specs.Offering.{IsLonger, LeftBy, Owes, part_of, behind_ack}
use Rattle.llcp_link.proofs.Places.{found_there}

pub gives_owed : (c : ConnState) → c.owed ≡ true → gives_ack c ≡ record { conn = behind_ack c; pdu = Some (Rr c.there c.here c.vr) }
gives_owed c e = ap (λ b. if b then record { conn = behind_ack c; pdu = Some (Rr c.there c.here c.vr) } else record { conn = c; pdu = None }) e

module _ {S : Type 0} (m : Serving S) (l : LlcState S) (s : ℕ) where
  pub acknowledges_one : (c : ConnState) → conn_from s l.served ≡ Some c → c.owed ≡ true → c.there ≡ s
      → acknowledges_served l (conn_from s l.served) ≡ Some (record { llc = record l { served = with_conn (behind_ack c) l.served; last = Some s }; part = Rr c.there c.here c.vr })
  acknowledges_one c f e t =
      ap (acknowledges_served l) f ∙ ap (λ g. gave_conn l g.conn g.pdu) (gives_owed c e)
      ∙ ap (λ x. Some (record { llc = record l { served = with_conn (behind_ack c) l.served; last = Some x }; part = Rr c.there c.here c.vr })) t

  -- an acknowledgement that is owed is longer than what is left
  pub ack_longer : (room place : ℕ) → Owes s l.served place → room < 5 → IsLonger room (part_of (acknowledges_served l (conn_from s l.served)))
  ack_longer room place o few =
      let long : IsLonger room (Some (Rr o.at.conn.there o.at.conn.here o.at.conn.vr)) = (few, omega arith) in
      subst (λ x. IsLonger room (part_of x)) (sym (acknowledges_one o.at.conn (found_there s l.served place o.at) o.owed o.at.there)) long

pub left_by : {S : Type 0} (due : Option (Gave S)) (g : Gave S) (s : S) → due ≡ Some g → s ≡ g.llc.service → LeftBy due s
left_by due g s e i = subst (λ o. LeftBy o s) (sym e) i
