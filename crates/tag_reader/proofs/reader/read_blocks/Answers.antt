use Rattle.std.proofs.Common.{rules, ◌≡◌, true, false, inl, inr, Err, refl, sym, ◌∙◌, ap, subst}
use Rattle.nfc_base.specs.TagLinks.{LinkView}
use Rattle.tlv_area.specs.Layout.{bytes_at}
use Rattle.tlv_area.specs.Map.{message_cells}
use Rattle.tlv_area.specs.Form.{Message}
use Rattle.tag_reader.specs.Kinds.{IsStoreForm}
use Rattle.tag_reader.specs.declared.how.How.TheVariants.{T5}
use Rattle.tag_reader.specs.Reading.{IsFound}
use Rattle.tag_reader.specs.Steps.{IsRead}
use Rattle.tag_reader.proofs.Endings.{read_ended}
use Rattle.tag_reader.specs.declared.fault.ReadFault.TheVariants as fault
use Rattle.tag_reader.proofs.Exits.{exit_is}
use Rattle.tag_reader.proofs.reader.read_blocks.Goals as goal

pub returns-in_err-map-clause-reads : goal.returns-in_err-map-clause-reads
returns-in_err-map-clause-reads g c size is =
    let h : IsRead (T5 c.args.id) size (g.T.TagLink.seen c.args.link.now) (g.T.TagLink.seen c.find_in_blocks.new.link) (Err c.in_err-map.field-0.0) =
    read_ended (T5 c.args.id) size _ _ c.find_in_blocks.new.known.bytes.items c.in_err-map.field-0.0 (c.in_err-map.ensures.reads size is) in
    search rules

pub returns-clause-reads : goal.returns-clause-reads
returns-clause-reads g c size is =
    let a : LinkView = g.T.TagLink.seen c.args.link.now in
    let r = c.in_ok-map.ensures.reads size is in
    let bytes : c.in_ok-message.message.items ≡ bytes_at c.find_in_blocks.new.known.bytes.items (message_cells c.in_ok-map.map) =
    c.in_ok-message.ensures.bytes ∙ ap (λ xs. bytes_at xs (message_cells c.in_ok-map.map)) c.as_slice.ensures.value in
    record {
      stays = r.stays;
      asked = r.asked;
      whole = r.whole;
      goes_on = r.goes_on;
      ok = subst (λ f. IsFound (T5 c.args.id) size a.state.store f) (sym c.found_in.ensures) (record {
        held = subst (λ m. IsStoreForm (T5 c.args.id) size a.state.store (Message m)) (sym bytes) r.tells.held;
        site = (r.tells.area, r.tells.found, refl);
      });
      err = tt;
      calm = λ quiet. tt;
    }

pub returns-in_err-message-clause-reads : goal.returns-in_err-message-clause-reads
returns-in_err-message-clause-reads g c size is =
    let a : LinkView = g.T.TagLink.seen c.args.link.now in
    let r = c.in_ok-map.ensures.reads size is in
    subst (λ x. IsRead (T5 c.args.id) size a (g.T.TagLink.seen c.find_in_blocks.new.link) x) (sym (exit_is c.from_residual-in_err-message.result fault.Memory c.from_residual-in_err-message.ensures.1))
    (record {
      stays = r.stays;
      asked = r.asked;
      whole = λ told. absurd (let clash : false ≡ true = told in cc);
      goes_on = λ told. absurd (let clash : false ≡ true = told in cc);
      ok = tt;
      err = inl r.goes_on.over;
      calm = λ quiet. inr refl;
    })
