use Rattle.std.proofs.Common.{rules, ◌≡◌, ℕ, List, ◌*◌, ◌∷◌, [], ◌++◌, take, drop, Ok, Err, sym, ◌∙◌, ap, subst}
use Rattle.nfc_base.specs.Signal.{Signal}
use Rattle.nfc_base.specs.TagLinks.{LinkView, MayAsk}
use Rattle.t2t_tag.specs.Step.{four_blocks}
use Rattle.tag_reader.specs.declared.how.How.TheVariants.{T2}
use Rattle.tag_reader.specs.Kinds.{command, reply}
use Rattle.tag_reader.specs.Steps.{AsksNext, of_link, rolling}
use Rattle.tag_reader.specs.Heard.{next_command}
use Rattle.tag_reader.proofs.Links.{answer_lost, asked_ok, asked_err}
use Rattle.tag_reader.proofs.Replies.{keeps, may_ask}
use Rattle.tag_reader.proofs.Contents.{four_part, four_long}
use Rattle.tag_reader.proofs.Bringing.{under_brings, under_fault, memory_ends}
use Rattle.tag_reader.proofs.Pieces.{told_fault}
use Rattle.tag_reader.specs.declared.fault.ReadFault.TheVariants as fault
use Rattle.tag_reader.proofs.Exits.{exit_is}
use Rattle.tag_reader.proofs.Filing.{or_fault, fault_brings}
use Rattle.tag_reader.proofs.asking.ask_next.Goals as goal

pub ask-requires-clause-fits : goal.ask-requires-clause-fits
ask-requires-clause-fits g c =
    let v : LinkView = g.T.TagLink.seen c.args.link.now in
    subst (λ f. MayAsk v.kind v.identifier f) (sym c.to_frame-read.ensures.frame) (may_ask v 0 v.state.store c.args.index c.requires.of)

pub returns-in_err-answer-clause-next : goal.returns-in_err-answer-clause-next
returns-in_err-answer-clause-next g c size is low =
    let a : LinkView = g.T.TagLink.seen c.args.link.now in
    let b : LinkView = g.T.TagLink.seen c.ask.new.self in
    let read : Signal = command T2 size a.state.store c.args.index in
    subst (λ x. AsksNext size c.args.index a b c.args.known.now.items c.args.known.now.items x) (sym (exit_is c.from_residual.result (of_link c.in_err-answer.field-0.0) c.from_residual.ensures.1))
    (asked_err a b read (reply a.state.store c.args.index) c.to_frame-read.result a.state c.in_err-answer.field-0.0 c.to_frame-read.ensures.frame (keeps size a c.args.index is low)
    c.in_err-answer.ensures.rises c.in_err-answer.ensures.obeys c.in_err-answer.ensures.last c.in_err-answer.ensures.err c.in_err-answer.ensures.cause c.in_err-answer.ensures.ended
    c.in_err-answer.ensures.calm)

pub returns-in_err-content-clause-next : goal.returns-in_err-content-clause-next
returns-in_err-content-clause-next g c size is low =
    let a : LinkView = g.T.TagLink.seen c.args.link.now in
    let b : LinkView = g.T.TagLink.seen c.ask.new.self in
    let read : Signal = command T2 size a.state.store c.args.index in
    let told = asked_ok a b read (reply a.state.store c.args.index) c.in_ok-answer.answer c.to_frame-read.result a.state c.to_frame-read.ensures.frame (keeps size a c.args.index is low)
    c.in_ok-answer.ensures.rises c.in_ok-answer.ensures.obeys c.in_ok-answer.ensures.last c.in_ok-answer.ensures.ok in
    let whole : Err c.in_err-content.field-0.0 ≡ Ok (four_blocks a.state.store (4 * c.args.index)) = c.in_err-content.ensures.content _ (four_long size c.args.index a.state.store is.store low)
    told.1 in
    absurd (fault_brings c.in_err-content.field-0.0 _ whole)

pub returns-in_err-extend_from_slice-clause-next : goal.returns-in_err-extend_from_slice-clause-next
returns-in_err-extend_from_slice-clause-next g c size is low =
    let a : LinkView = g.T.TagLink.seen c.args.link.now in
    let b : LinkView = g.T.TagLink.seen c.ask.new.self in
    let read : Signal = command T2 size a.state.store c.args.index in
    let told = asked_ok a b read (reply a.state.store c.args.index) c.in_ok-answer.answer c.to_frame-read.result a.state c.to_frame-read.ensures.frame (keeps size a c.args.index is low)
    c.in_ok-answer.ensures.rises c.in_ok-answer.ensures.obeys c.in_ok-answer.ensures.last c.in_ok-answer.ensures.ok in
    let exit : c.from_residual-in_err-extend_from_slice.result ≡ Err fault.Memory =
    exit_is c.from_residual-in_err-extend_from_slice.result fault.Memory c.from_residual-in_err-extend_from_slice.ensures.1 in
    subst (λ x. AsksNext size c.args.index a b c.args.known.now.items c.extend_from_slice.new.self.items x) (sym exit)
    (answer_lost read a b told.0)

pub returns-clause-next : goal.returns-clause-next
returns-clause-next g c size is low =
    let a : LinkView = g.T.TagLink.seen c.args.link.now in
    let b : LinkView = g.T.TagLink.seen c.ask.new.self in
    let read : Signal = command T2 size a.state.store c.args.index in
    let told = asked_ok a b read (reply a.state.store c.args.index) c.in_ok-answer.answer c.to_frame-read.result a.state c.to_frame-read.ensures.frame (keeps size a c.args.index is low)
    c.in_ok-answer.ensures.rises c.in_ok-answer.ensures.obeys c.in_ok-answer.ensures.last c.in_ok-answer.ensures.ok in
    let whole : Ok c.in_ok-content.content ≡ Ok (four_blocks a.state.store (4 * c.args.index)) = c.in_ok-content.ensures.content _ (four_long size c.args.index a.state.store is.store low) told.1 in
    let content : c.in_ok-content.content ≡ four_blocks a.state.store (4 * c.args.index) = cc in
    let part : c.in_ok-content.content ≡ take size (drop (size * c.args.index) (rolling a.state.store)) =
    ◌∙◌ {A = List ℕ} content (four_part size c.args.index a.state.store is.store low) in
    record {
      answers = told.0;
      grown = c.in_ok-extend_from_slice.ensures.items ∙ ap (λ xs. c.args.known.now.items ++ xs) part;
      state = told.2;
    }

-- whatever the tag does
pub returns-in_err-answer-clause-gains : goal.returns-in_err-answer-clause-gains
returns-in_err-answer-clause-gains g c a ps u count =
    let b : LinkView = g.T.TagLink.seen c.ask.new.self in
    let due : c.to_frame-read.result ≡ next_command T2 ps = c.to_frame-read.ensures.frame ∙ ap (λ n. command T2 16 [] n) (sym count) in
    or_fault _ T2 a b c.from_residual.result (of_link c.in_err-answer.field-0.0) (exit_is c.from_residual.result (of_link c.in_err-answer.field-0.0) c.from_residual.ensures.1)
    (under_fault T2 a (g.T.TagLink.seen c.args.link.now) b ps c.to_frame-read.result c.in_err-answer.field-0.0 u due c.in_err-answer.ensures.err c.in_err-answer.ensures.cause
    c.in_err-answer.ensures.ended c.in_err-answer.ensures.last)

pub returns-in_err-content-clause-gains : goal.returns-in_err-content-clause-gains
returns-in_err-content-clause-gains g c a ps u count =
    let e : c.to_frame-read.result ≡ next_command T2 ps = c.to_frame-read.ensures.frame ∙ ap (λ n. command T2 16 [] n) (sym count) in
    let same : c.from_residual-in_err-content.result ≡ Err c.in_err-content.field-0.0 = search rules in
    or_fault _ T2 a (g.T.TagLink.seen c.ask.new.self) c.from_residual-in_err-content.result c.in_err-content.field-0.0 same
    (told_fault T2 a (g.T.TagLink.seen c.args.link.now) (g.T.TagLink.seen c.ask.new.self) ps c.to_frame-read.result c.in_ok-answer.answer c.in_err-content.field-0.0 u e
    c.in_ok-answer.ensures.ok tt (λ ends. ends) c.in_err-content.ensures.fault)

pub returns-in_err-extend_from_slice-clause-gains : goal.returns-in_err-extend_from_slice-clause-gains
returns-in_err-extend_from_slice-clause-gains g c a ps u count =
    let b : LinkView = g.T.TagLink.seen c.ask.new.self in
    let e : c.to_frame-read.result ≡ next_command T2 ps = c.to_frame-read.ensures.frame ∙ ap (λ n. command T2 16 [] n) (sym count) in
    let under = under_brings T2 a (g.T.TagLink.seen c.args.link.now) b ps c.in_ok-content.content c.to_frame-read.result c.in_ok-answer.answer u e
    c.in_ok-answer.ensures.obeys c.in_ok-answer.ensures.rises c.in_ok-answer.ensures.ok (record { content = c.in_ok-content.ensures.tells; piece = tt }) in
    or_fault _ T2 a b c.from_residual-in_err-extend_from_slice.result fault.Memory
    (exit_is c.from_residual-in_err-extend_from_slice.result fault.Memory c.from_residual-in_err-extend_from_slice.ensures.1)
    (memory_ends T2 a b (ps ++ c.in_ok-content.content ∷ []) under.brought c.in_ok-answer.ensures.ok.stays)

pub returns-clause-gains : goal.returns-clause-gains
returns-clause-gains g c a ps u count =
    let e : c.to_frame-read.result ≡ next_command T2 ps = c.to_frame-read.ensures.frame ∙ ap (λ n. command T2 16 [] n) (sym count) in
    record {
      piece = c.in_ok-content.content;
      size = c.in_ok-content.ensures.tells.0;
      under = under_brings T2 a (g.T.TagLink.seen c.args.link.now) (g.T.TagLink.seen c.ask.new.self) ps c.in_ok-content.content c.to_frame-read.result c.in_ok-answer.answer u e
          c.in_ok-answer.ensures.obeys c.in_ok-answer.ensures.rises c.in_ok-answer.ensures.ok (record { content = c.in_ok-content.ensures.tells; piece = tt });
      grown = c.in_ok-extend_from_slice.ensures.items;
    }
