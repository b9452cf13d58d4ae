use Rattle.std.proofs.Common.{arith, refl}
use Rattle.tlv_area.specs.declared.walk.Walk.TheVariants as walk
use Rattle.tlv_area.specs.Form.{End, Fault, Unknown}
use Rattle.tlv_area.proofs.Walks.{comes_here, held_as, finds}
use Rattle.tlv_area.proofs.walk.Walker.find_message.Goals as goal

pub returns-in-End : goal.returns-in-End
returns-in-End c =
    let come = c.advance.ensures.come in
    record {
      finds = finds c.advance.new.self c.args.self.space c.args.known.now walk.NoMessageTlv come.1.area c.advance.ensures.space
          (comes_here c.advance.new.self c.args.known.now come.0 come.1 End c.in-End.ensures.stops);
    }

pub returns-in-Fault : goal.returns-in-Fault
returns-in-Fault c =
    let come = c.advance.ensures.come in
    record {
      finds = finds c.advance.new.self c.args.self.space c.args.known.now walk.BadTlv come.1.area c.advance.ensures.space
          (comes_here c.advance.new.self c.args.known.now come.0 come.1 Fault c.in-Fault.ensures.stops);
    }

pub returns-in-Unknown : goal.returns-in-Unknown
returns-in-Unknown c =
    let come = c.advance.ensures.come in
    record {
      finds = finds c.advance.new.self c.args.self.space c.args.known.now walk.More come.1.area c.advance.ensures.space
          (comes_here c.advance.new.self c.args.known.now come.0 come.1 Unknown c.in-Unknown.ensures.stops);
    }

pub returns-in-Item : goal.returns-in-Item
returns-in-Item c =
    let come = c.advance.ensures.come in
    let stops = c.in-Item.ensures.stops in
    record {
      finds = finds c.advance.new.self c.args.self.space c.args.known.now (walk.Held c.into_map.result) come.1.area c.advance.ensures.space
          (held_as c.advance.new.self c.args.known.now come.0 come.1 (λ i. omega (arith, c.type_inv.known i)) c.in-Item.found stops.0 stops.1
          c.advance.new.self.space c.into_map.result refl c.into_map.ensures stops.2);
    }
