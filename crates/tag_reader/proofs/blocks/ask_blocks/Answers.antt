use Rattle.std.specs.Prelude.{◌==◌, if◌then◌else◌, Result}
use Rattle.std.proofs.Common.{rules, ◌≡◌, ℕ, List, Bool, ◌++◌, length, Ok, Err, sym, ◌∙◌, ap, subst}
use Rattle.nfc_base.specs.TagLinks.{LinkView}
use Rattle.t5t_tag.specs.Spelling as t5
use Rattle.tag_reader.specs.declared.how.How.TheVariants.{T5}
use Rattle.tag_reader.specs.declared.told.BlocksTold.TheVariants.{Bytes, Single, Ended}
use Rattle.tag_reader.specs.declared.fault.ReadFault.TheVariants as fault
use Rattle.tag_reader.specs.Blocks.{ask_frame, ask_at, ask_answer, progress_at}
use Rattle.tag_reader.specs.Kinds.{command}
use Rattle.tag_reader.specs.Steps.{of_link}
use Rattle.tag_reader.specs.Heard.{IsFaultBy}
use Rattle.tag_reader.specs.declared.known.Known.{Known}
use Rattle.tag_reader.specs.declared.fault.ReadFault.{ReadFault}
use Rattle.tag_reader.specs.private.BlockSteps.{TellsBlocks, SeesBlocks, NextBlocks}
use Rattle.tag_reader.proofs.Links.{asked_ok, asked_err, answer_lost}
use Rattle.tag_reader.proofs.BlockAsking.{command_is, tells_is, blocks_fault, blocks_ended, blocks_refused, blocks_learned, blocks_lost, grows_single, grows_bytes}
use Rattle.tag_reader.proofs.BlockTurns.{asks_is, keeps_next, fails, no_fault, learns_next, single_next, ended_next}
use Rattle.tag_reader.proofs.Exits.{exit_is}
use Rattle.tag_reader.proofs.blocks.ask_blocks.Goals as goal

-- an exit by a fault
see_fault : (id : List ℕ) (a b : LinkView) (ps : List (List ℕ)) (known known' : Known) (r : Result Bool ReadFault) (e : ReadFault) → r ≡ Err e →
    IsFaultBy (T5 id) a b e → SeesBlocks id a b ps known known' r
see_fault id a b ps known known' r e same is = subst (λ x. SeesBlocks id a b ps known known' x) (sym same) is

pub returns-in_err-answer-clause-next : goal.returns-in_err-answer-clause-next
returns-in_err-answer-clause-next g c aim size n a r due =
    let old : LinkView = g.T.TagLink.seen c.args.link.now in
    let new : LinkView = g.T.TagLink.seen c.ask.new.self in
    let same = c.next_ask-ask.ensures ∙ asks_is c.args.id size n a old c.args.known.now r in
    let frame : c.frame-command.result ≡ command (T5 c.args.id) size a.state.store n = c.frame-command.ensures ∙ ap (λ x. ask_frame c.args.id x) same in
    let lost = asked_err old new (command (T5 c.args.id) size a.state.store n) (t5.answer_frame (ask_answer size a.state.store (ask_at size a.state.store (progress_at size a.state.store n))))
    c.frame-command.result old.state c.in_err-answer.field-0.0 frame (keeps_next c.args.id size n a old c.args.known.now r)
    c.in_err-answer.ensures.rises c.in_err-answer.ensures.obeys c.in_err-answer.ensures.last c.in_err-answer.ensures.err c.in_err-answer.ensures.cause c.in_err-answer.ensures.ended
    c.in_err-answer.ensures.calm in
    let exit : c.from_residual.result ≡ Err (of_link c.in_err-answer.field-0.0) = exit_is c.from_residual.result (of_link c.in_err-answer.field-0.0) c.from_residual.ensures.1 in
    subst (λ x. NextBlocks aim c.args.id size a new c.args.known.now c.args.known.now n x) (sym exit) (fails aim c.args.id size n a old new _ r.reached due lost)

pub returns-in_err-tell_blocks-clause-next : goal.returns-in_err-tell_blocks-clause-next
returns-in_err-tell_blocks-clause-next g c aim size n a r due =
    let old : LinkView = g.T.TagLink.seen c.args.link.now in
    let new : LinkView = g.T.TagLink.seen c.ask.new.self in
    let same = c.next_ask-ask.ensures ∙ asks_is c.args.id size n a old c.args.known.now r in
    let frame : c.frame-command.result ≡ command (T5 c.args.id) size a.state.store n = c.frame-command.ensures ∙ ap (λ x. ask_frame c.args.id x) same in
    let told = asked_ok old new (command (T5 c.args.id) size a.state.store n) (t5.answer_frame (ask_answer size a.state.store (ask_at size a.state.store (progress_at size a.state.store n))))
    c.in_ok-answer.answer
    c.frame-command.result old.state frame (keeps_next c.args.id size n a old c.args.known.now r) c.in_ok-answer.ensures.rises c.in_ok-answer.ensures.obeys c.in_ok-answer.ensures.last
    c.in_ok-answer.ensures.ok in
    absurd (no_fault c.args.id size n a.state.store c.next_ask-ask.result c.args.known.now.size 0 c.in_ok-answer.answer c.in_err-tell_blocks.field-0.0 r.tag.store r.within same r.size' told.1
    (c.in_err-tell_blocks.ensures.tells c.args.id))

pub returns-in-Ended-clause-next : goal.returns-in-Ended-clause-next
returns-in-Ended-clause-next g c aim size n a r due =
    let old : LinkView = g.T.TagLink.seen c.args.link.now in
    let new : LinkView = g.T.TagLink.seen c.ask.new.self in
    let same = c.next_ask-ask.ensures ∙ asks_is c.args.id size n a old c.args.known.now r in
    let frame : c.frame-command.result ≡ command (T5 c.args.id) size a.state.store n = c.frame-command.ensures ∙ ap (λ x. ask_frame c.args.id x) same in
    let told = asked_ok old new (command (T5 c.args.id) size a.state.store n) (t5.answer_frame (ask_answer size a.state.store (ask_at size a.state.store (progress_at size a.state.store n))))
    c.in_ok-answer.answer
    c.frame-command.result old.state frame (keeps_next c.args.id size n a old c.args.known.now r) c.in_ok-answer.ensures.rises c.in_ok-answer.ensures.obeys c.in_ok-answer.ensures.last
    c.in_ok-answer.ensures.ok in
    let tells : TellsBlocks c.args.id c.next_ask-ask.result c.args.known.now.size c.in_ok-answer.answer (Ok Ended) = rw c.in-Ended.is at (c.in_ok-tell_blocks.ensures.tells c.args.id) in
    ended_next aim c.args.id size n a old new c.args.known.now c.next_ask-ask.result c.in_ok-answer.answer r due same told.1 told.0 told.2 tells

pub returns-in-Single-clause-next : goal.returns-in-Single-clause-next
returns-in-Single-clause-next g c aim size n a r due =
    let old : LinkView = g.T.TagLink.seen c.args.link.now in
    let new : LinkView = g.T.TagLink.seen c.ask.new.self in
    let same = c.next_ask-ask.ensures ∙ asks_is c.args.id size n a old c.args.known.now r in
    let frame : c.frame-command.result ≡ command (T5 c.args.id) size a.state.store n = c.frame-command.ensures ∙ ap (λ x. ask_frame c.args.id x) same in
    let told = asked_ok old new (command (T5 c.args.id) size a.state.store n) (t5.answer_frame (ask_answer size a.state.store (ask_at size a.state.store (progress_at size a.state.store n))))
    c.in_ok-answer.answer
    c.frame-command.result old.state frame (keeps_next c.args.id size n a old c.args.known.now r) c.in_ok-answer.ensures.rises c.in_ok-answer.ensures.obeys c.in_ok-answer.ensures.last
    c.in_ok-answer.ensures.ok in
    let tells : TellsBlocks c.args.id c.next_ask-ask.result c.args.known.now.size c.in_ok-answer.answer (Ok Single) = rw c.in-Single.is at (c.in_ok-tell_blocks.ensures.tells c.args.id) in
    single_next aim c.args.id size n a old new c.args.known.now c.next_ask-ask.result c.in_ok-answer.answer r due same told.1 told.0 told.2 tells

pub returns-in_ok-learn-in-Bytes-clause-next : goal.returns-in_ok-learn-in-Bytes-clause-next
returns-in_ok-learn-in-Bytes-clause-next g c aim size n a r due =
    let old : LinkView = g.T.TagLink.seen c.args.link.now in
    let new : LinkView = g.T.TagLink.seen c.ask.new.self in
    let same = c.next_ask-ask.ensures ∙ asks_is c.args.id size n a old c.args.known.now r in
    let frame : c.frame-command.result ≡ command (T5 c.args.id) size a.state.store n = c.frame-command.ensures ∙ ap (λ x. ask_frame c.args.id x) same in
    let told = asked_ok old new (command (T5 c.args.id) size a.state.store n) (t5.answer_frame (ask_answer size a.state.store (ask_at size a.state.store (progress_at size a.state.store n))))
    c.in_ok-answer.answer
    c.frame-command.result old.state frame (keeps_next c.args.id size n a old c.args.known.now r) c.in_ok-answer.ensures.rises c.in_ok-answer.ensures.obeys c.in_ok-answer.ensures.last
    c.in_ok-answer.ensures.ok in
    let tells : TellsBlocks c.args.id c.next_ask-ask.result c.args.known.now.size c.in_ok-answer.answer (Ok (Bytes c.in-Bytes.content)) = rw c.in-Bytes.is at (c.in_ok-tell_blocks.ensures.tells
    c.args.id) in
    let content : c.deref.result.now ≡ c.in-Bytes.content.items = c.deref.ensures.0 in
    learns_next aim c.args.id size n a old new c.args.known.now c.learn.new.self c.next_ask-ask.result c.in_ok-answer.answer c.in-Bytes.content.items r due same told.1 told.0 told.2 tells
    (c.in_ok-learn-in-Bytes.ensures.size ∙ ap (λ xs. if c.args.known.now.size == 0 then length xs else c.args.known.now.size) content) c.in_ok-learn-in-Bytes.ensures.single
    (c.in_ok-learn-in-Bytes.ensures.bytes ∙ ap (λ xs. c.args.known.now.bytes.items ++ xs) content)

pub returns-in_err-learn-in-Bytes-clause-next : goal.returns-in_err-learn-in-Bytes-clause-next
returns-in_err-learn-in-Bytes-clause-next g c aim size n a r due =
    let old : LinkView = g.T.TagLink.seen c.args.link.now in
    let new : LinkView = g.T.TagLink.seen c.ask.new.self in
    let same = c.next_ask-ask.ensures ∙ asks_is c.args.id size n a old c.args.known.now r in
    let frame : c.frame-command.result ≡ command (T5 c.args.id) size a.state.store n = c.frame-command.ensures ∙ ap (λ x. ask_frame c.args.id x) same in
    let told = asked_ok old new (command (T5 c.args.id) size a.state.store n) (t5.answer_frame (ask_answer size a.state.store (ask_at size a.state.store (progress_at size a.state.store n))))
    c.in_ok-answer.answer
    c.frame-command.result old.state frame (keeps_next c.args.id size n a old c.args.known.now r) c.in_ok-answer.ensures.rises c.in_ok-answer.ensures.obeys c.in_ok-answer.ensures.last
    c.in_ok-answer.ensures.ok in
    let exit : c.from_residual-in_err-learn-in-Bytes.result ≡ Err fault.Memory = exit_is c.from_residual-in_err-learn-in-Bytes.result fault.Memory c.from_residual-in_err-learn-in-Bytes.ensures.1 in
    subst (λ x. NextBlocks aim c.args.id size a new c.args.known.now c.learn.new.self n x) (sym exit)
    (fails aim c.args.id size n a old new fault.Memory r.reached due (answer_lost (command (T5 c.args.id) size a.state.store n) old new told.0))

pub returns-in_err-tell_blocks-clause-sees : goal.returns-in_err-tell_blocks-clause-sees
returns-in_err-tell_blocks-clause-sees g c a ps u is =
    let old : LinkView = g.T.TagLink.seen c.args.link.now in
    let new : LinkView = g.T.TagLink.seen c.ask.new.self in
    let exit : c.from_residual-in_err-tell_blocks.result ≡ Err c.in_err-tell_blocks.field-0.0 = search rules in
    see_fault c.args.id a new ps c.args.known.now c.args.known.now c.from_residual-in_err-tell_blocks.result c.in_err-tell_blocks.field-0.0 exit
    (blocks_fault c.args.id a old new ps c.frame-command.result c.in_ok-answer.answer c.in_err-tell_blocks.field-0.0 u
    (command_is c.args.id ps c.args.known.now c.next_ask-ask.result c.frame-command.result is c.next_ask-ask.ensures c.frame-command.ensures) c.in_ok-answer.ensures.ok
    (tells_is c.args.id ps c.args.known.now c.next_ask-ask.result c.in_ok-answer.answer (Err c.in_err-tell_blocks.field-0.0) is c.next_ask-ask.ensures (c.in_err-tell_blocks.ensures.tells c.args.id)))

pub returns-in-Ended-clause-sees : goal.returns-in-Ended-clause-sees
returns-in-Ended-clause-sees g c a ps u is =
    let old : LinkView = g.T.TagLink.seen c.args.link.now in
    let new : LinkView = g.T.TagLink.seen c.ask.new.self in
    let tells : TellsBlocks c.args.id c.next_ask-ask.result c.args.known.now.size c.in_ok-answer.answer (Ok Ended) = rw c.in-Ended.is at (c.in_ok-tell_blocks.ensures.tells c.args.id) in
    blocks_ended c.args.id a old new ps c.args.known.now c.frame-command.result c.in_ok-answer.answer u
    (command_is c.args.id ps c.args.known.now c.next_ask-ask.result c.frame-command.result is c.next_ask-ask.ensures c.frame-command.ensures) c.in_ok-answer.ensures.obeys c.in_ok-answer.ensures.ok
    (tells_is c.args.id ps c.args.known.now c.next_ask-ask.result c.in_ok-answer.answer (Ok Ended) is c.next_ask-ask.ensures tells)

pub returns-in-Single-clause-sees : goal.returns-in-Single-clause-sees
returns-in-Single-clause-sees g c a ps u is =
    let old : LinkView = g.T.TagLink.seen c.args.link.now in
    let new : LinkView = g.T.TagLink.seen c.ask.new.self in
    let tells : TellsBlocks c.args.id c.next_ask-ask.result c.args.known.now.size c.in_ok-answer.answer (Ok Single) = rw c.in-Single.is at (c.in_ok-tell_blocks.ensures.tells c.args.id) in
    blocks_refused c.args.id a old new ps c.args.known.now c.frame-command.result c.in_ok-answer.answer u is
    (command_is c.args.id ps c.args.known.now c.next_ask-ask.result c.frame-command.result is c.next_ask-ask.ensures c.frame-command.ensures)
    c.in_ok-answer.ensures.obeys c.in_ok-answer.ensures.rises c.in_ok-answer.ensures.ok
    (tells_is c.args.id ps c.args.known.now c.next_ask-ask.result c.in_ok-answer.answer (Ok Single) is c.next_ask-ask.ensures tells)

pub returns-in-Single-clause-grows : goal.returns-in-Single-clause-grows
returns-in-Single-clause-grows g c goes =
    let tells : TellsBlocks c.args.id c.next_ask-ask.result c.args.known.now.size c.in_ok-answer.answer (Ok Single) = rw c.in-Single.is at (c.in_ok-tell_blocks.ensures.tells c.args.id) in
    grows_single c.args.known.now c.next_ask-ask.result c.next_ask-ask.ensures tells.0

pub returns-in_ok-learn-in-Bytes-clause-sees : goal.returns-in_ok-learn-in-Bytes-clause-sees
returns-in_ok-learn-in-Bytes-clause-sees g c a ps u is =
    let old : LinkView = g.T.TagLink.seen c.args.link.now in
    let new : LinkView = g.T.TagLink.seen c.ask.new.self in
    let tells : TellsBlocks c.args.id c.next_ask-ask.result c.args.known.now.size c.in_ok-answer.answer (Ok (Bytes c.in-Bytes.content)) = rw c.in-Bytes.is at (c.in_ok-tell_blocks.ensures.tells
    c.args.id) in
    let content : c.deref.result.now ≡ c.in-Bytes.content.items = c.deref.ensures.0 in
    blocks_learned c.args.id a old new ps c.args.known.now c.learn.new.self c.frame-command.result c.in_ok-answer.answer c.in-Bytes.content.items u is
    (command_is c.args.id ps c.args.known.now c.next_ask-ask.result c.frame-command.result is c.next_ask-ask.ensures c.frame-command.ensures)
    c.in_ok-answer.ensures.obeys c.in_ok-answer.ensures.rises c.in_ok-answer.ensures.ok
    (tells_is c.args.id ps c.args.known.now c.next_ask-ask.result c.in_ok-answer.answer (Ok (Bytes c.in-Bytes.content)) is c.next_ask-ask.ensures tells)
    (c.in_ok-learn-in-Bytes.ensures.size ∙ ap (λ xs. if c.args.known.now.size == 0 then length xs else c.args.known.now.size) content) c.in_ok-learn-in-Bytes.ensures.single
    (c.in_ok-learn-in-Bytes.ensures.bytes ∙ ap (λ xs. c.args.known.now.bytes.items ++ xs) content)

pub returns-in_ok-learn-in-Bytes-clause-grows : goal.returns-in_ok-learn-in-Bytes-clause-grows
returns-in_ok-learn-in-Bytes-clause-grows g c goes =
    let tells : TellsBlocks c.args.id c.next_ask-ask.result c.args.known.now.size c.in_ok-answer.answer (Ok (Bytes c.in-Bytes.content)) = rw c.in-Bytes.is at (c.in_ok-tell_blocks.ensures.tells
    c.args.id) in
    grows_bytes c.args.known.now c.learn.new.self c.next_ask-ask.result c.in-Bytes.content.items tells.1 (c.in_ok-learn-in-Bytes.ensures.bytes ∙ ap (λ xs. c.args.known.now.bytes.items ++ xs)
    c.deref.ensures.0) c.in_ok-learn-in-Bytes.ensures.single

pub returns-in_err-learn-in-Bytes-clause-sees : goal.returns-in_err-learn-in-Bytes-clause-sees
returns-in_err-learn-in-Bytes-clause-sees g c a ps u is =
    let old : LinkView = g.T.TagLink.seen c.args.link.now in
    let new : LinkView = g.T.TagLink.seen c.ask.new.self in
    let tells : TellsBlocks c.args.id c.next_ask-ask.result c.args.known.now.size c.in_ok-answer.answer (Ok (Bytes c.in-Bytes.content)) = rw c.in-Bytes.is at (c.in_ok-tell_blocks.ensures.tells
    c.args.id) in
    let exit : c.from_residual-in_err-learn-in-Bytes.result ≡ Err fault.Memory = exit_is c.from_residual-in_err-learn-in-Bytes.result fault.Memory c.from_residual-in_err-learn-in-Bytes.ensures.1 in
    see_fault c.args.id a new ps c.args.known.now c.learn.new.self c.from_residual-in_err-learn-in-Bytes.result fault.Memory exit
    (blocks_lost c.args.id a old new ps c.frame-command.result c.in_ok-answer.answer c.in-Bytes.content.items u
    (command_is c.args.id ps c.args.known.now c.next_ask-ask.result c.frame-command.result is c.next_ask-ask.ensures c.frame-command.ensures)
    c.in_ok-answer.ensures.obeys c.in_ok-answer.ensures.rises c.in_ok-answer.ensures.ok
    (tells_is c.args.id ps c.args.known.now c.next_ask-ask.result c.in_ok-answer.answer (Ok (Bytes c.in-Bytes.content)) is c.next_ask-ask.ensures tells))
