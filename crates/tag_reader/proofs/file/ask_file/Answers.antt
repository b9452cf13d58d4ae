use Rattle.std.proofs.Common.{rules, Err, ◌≡◌, suc, ◌++◌, true, false, inl, Ok, sym, ◌∙◌, ap, subst, arith}
use Rattle.nfc_base.specs.Signal.{Signal, whole_a}
use Rattle.nfc_base.specs.TagLinks.{LinkView}
use Rattle.t4t_tag.specs.Spelling.{command_bytes}
use Rattle.t4t_tag.specs.Step.{done}
use Rattle.tag_reader.specs.Files.{file_command, file_frame}
use Rattle.tag_reader.specs.private.FileSteps.{state_at, content_at}
use Rattle.tag_reader.specs.Steps.{of_link}
use Rattle.tag_reader.proofs.Links.{asked_ok, asked_err}
use Rattle.tag_reader.proofs.Files.{content_small}
use Rattle.tag_reader.proofs.FileReading.{file_due, tag_store, keeps_at, under_next, under_fails}
use Rattle.tag_reader.specs.declared.how.How.TheVariants.{T4}
use Rattle.tag_reader.specs.Heard.{HasSize, file_next, next_command}
use Rattle.tag_reader.proofs.Bringing.{under_brings, under_stops, under_fault, no_piece}
use Rattle.tag_reader.proofs.Pieces.{told_fault}
use Rattle.tag_reader.proofs.Filing.{or_fault, or_ends, fault_brings, content_fits}
use Rattle.tag_reader.proofs.Exits.{exit_is}
use Rattle.tag_reader.proofs.file.ask_file.Goals as goal

pub returns-in_err-answer-clause-next : goal.returns-in_err-answer-clause-next
returns-in_err-answer-clause-next g c aim size n a u due same =
    let old : LinkView = g.T.TagLink.seen c.args.link.now in
    let new : LinkView = g.T.TagLink.seen c.ask.new.self in
    let command : Signal = file_frame (file_command a.state.store n) in
    let reply : Signal = whole_a (content_at a.state.store n ++ done) in
    let frame : c.unwrap-frame.result ≡ whole_a (command_bytes c.args.command.now) =
    (rw c.unwrap-frame.ensures at c.whole.ensures.ok) ∙ ap (λ xs. whole_a xs) (c.as_slice.ensures.value ∙ c.to_bytes-spelled.ensures) in
    let fails = asked_err old new command reply c.unwrap-frame.result (state_at a.state (suc n)) c.in_err-answer.field-0.0 (frame ∙ ap file_frame same) (keeps_at size n a old u (file_due aim
    size a.state.store n due))
    c.in_err-answer.ensures.rises c.in_err-answer.ensures.obeys c.in_err-answer.ensures.last c.in_err-answer.ensures.err c.in_err-answer.ensures.cause c.in_err-answer.ensures.ended
    c.in_err-answer.ensures.calm in
    or_ends aim _ size a new c.from_residual.result (of_link c.in_err-answer.field-0.0) (exit_is c.from_residual.result (of_link c.in_err-answer.field-0.0) c.from_residual.ensures.1)
    (under_fails aim size n a old new _ u due fails)

pub returns-in_err-bytes-clause-next : goal.returns-in_err-bytes-clause-next
returns-in_err-bytes-clause-next g c aim size n a u due same =
    let old : LinkView = g.T.TagLink.seen c.args.link.now in
    let new : LinkView = g.T.TagLink.seen c.ask.new.self in
    let command : Signal = file_frame (file_command a.state.store n) in
    let reply : Signal = whole_a (content_at a.state.store n ++ done) in
    let frame : c.unwrap-frame.result ≡ whole_a (command_bytes c.args.command.now) =
    (rw c.unwrap-frame.ensures at c.whole.ensures.ok) ∙ ap (λ xs. whole_a xs) (c.as_slice.ensures.value ∙ c.to_bytes-spelled.ensures) in
    let told = asked_ok old new command reply c.in_ok-answer.answer c.unwrap-frame.result (state_at a.state (suc n)) (frame ∙ ap file_frame same) (keeps_at size n a old u (file_due aim size
    a.state.store n due))
    c.in_ok-answer.ensures.rises c.in_ok-answer.ensures.obeys c.in_ok-answer.ensures.last c.in_ok-answer.ensures.ok in
    let small = content_small u.tag.steps.0 a.state.store n (tag_store size a u.tag) (file_due aim size a.state.store n due) in
    absurd (fault_brings c.in_err-bytes.field-0.0 (record { items = content_at a.state.store n }) (c.in_err-bytes.ensures.content (content_at a.state.store n) (omega (arith, small)) told.1))

pub returns-clause-next : goal.returns-clause-next
returns-clause-next g c aim size n a u due same =
    let old : LinkView = g.T.TagLink.seen c.args.link.now in
    let new : LinkView = g.T.TagLink.seen c.ask.new.self in
    let command : Signal = file_frame (file_command a.state.store n) in
    let reply : Signal = whole_a (content_at a.state.store n ++ done) in
    let frame : c.unwrap-frame.result ≡ whole_a (command_bytes c.args.command.now) =
    (rw c.unwrap-frame.ensures at c.whole.ensures.ok) ∙ ap (λ xs. whole_a xs) (c.as_slice.ensures.value ∙ c.to_bytes-spelled.ensures) in
    let told = asked_ok old new command reply c.in_ok-answer.answer c.unwrap-frame.result (state_at a.state (suc n)) (frame ∙ ap file_frame same) (keeps_at size n a old u (file_due aim size
    a.state.store n due))
    c.in_ok-answer.ensures.rises c.in_ok-answer.ensures.obeys c.in_ok-answer.ensures.last c.in_ok-answer.ensures.ok in
    let small = content_small u.tag.steps.0 a.state.store n (tag_store size a u.tag) (file_due aim size a.state.store n due) in
    let brings : Ok c.in_ok-bytes.bytes ≡ Ok (record { items = content_at a.state.store n }) = c.in_ok-bytes.ensures.content (content_at a.state.store n) (omega (arith, small)) told.1 in
    (under_next aim size n a old new u due told.0 told.2, cc)

pub returns-then-not-has_size-clause-next : goal.returns-then-not-has_size-clause-next
returns-then-not-has_size-clause-next g c aim size n a u due same =
    let old : LinkView = g.T.TagLink.seen c.args.link.now in
    let new : LinkView = g.T.TagLink.seen c.ask.new.self in
    let command : Signal = file_frame (file_command a.state.store n) in
    let reply : Signal = whole_a (content_at a.state.store n ++ done) in
    let frame : c.unwrap-frame.result ≡ whole_a (command_bytes c.args.command.now) =
    (rw c.unwrap-frame.ensures at c.whole.ensures.ok) ∙ ap (λ xs. whole_a xs) (c.as_slice.ensures.value ∙ c.to_bytes-spelled.ensures) in
    let told = asked_ok old new command reply c.in_ok-answer.answer c.unwrap-frame.result (state_at a.state (suc n)) (frame ∙ ap file_frame same) (keeps_at size n a old u (file_due aim size
    a.state.store n due))
    c.in_ok-answer.ensures.rises c.in_ok-answer.ensures.obeys c.in_ok-answer.ensures.last c.in_ok-answer.ensures.ok in
    let small = content_small u.tag.steps.0 a.state.store n (tag_store size a u.tag) (file_due aim size a.state.store n due) in
    let brings : Ok c.in_ok-bytes.bytes ≡ Ok (record { items = content_at a.state.store n }) = c.in_ok-bytes.ensures.content (content_at a.state.store n) (omega (arith, small)) told.1 in
    let bytes : c.in_ok-bytes.bytes.items ≡ content_at a.state.store n = cc in
    let fits = content_fits u.tag.steps.0 a.state.store n (tag_store size a u.tag) (file_due aim size a.state.store n due) in
    let has : HasSize c.args.command.now c.as_slice-2.result.now =
    subst (λ k. HasSize k c.as_slice-2.result.now) (sym same)
    (subst (λ xs. HasSize (file_command a.state.store n) xs) (sym (c.as_slice-2.ensures.value ∙ bytes)) fits) in
    let clash : true ≡ false = sym (c.has_size.ensures.1 has) ∙ c.if-not-has_size.true in
    absurd (cc)

pub returns-clause-brings : goal.returns-clause-brings
returns-clause-brings g c a ps u same =
    let old : LinkView = g.T.TagLink.seen c.args.link.now in
    let new : LinkView = g.T.TagLink.seen c.ask.new.self in
    let frame : c.unwrap-frame.result ≡ whole_a (command_bytes c.args.command.now) =
    (rw c.unwrap-frame.ensures at c.whole.ensures.ok) ∙ ap (λ xs. whole_a xs) (c.as_slice.ensures.value ∙ c.to_bytes-spelled.ensures) in
    let due : c.unwrap-frame.result ≡ next_command T4 ps = frame ∙ ap file_frame same in
    let has : HasSize (file_next ps) c.in_ok-bytes.bytes.items =
    subst (λ k. HasSize k c.in_ok-bytes.bytes.items) same
    (subst (λ xs. HasSize c.args.command.now xs) c.as_slice-2.ensures.value (c.has_size.ensures.0 c.if-not-has_size.false)) in
    under_brings T4 a old new ps c.in_ok-bytes.bytes.items c.unwrap-frame.result c.in_ok-answer.answer u due c.in_ok-answer.ensures.obeys c.in_ok-answer.ensures.rises c.in_ok-answer.ensures.ok
    (record { content = c.in_ok-bytes.ensures.tells; piece = has })

pub returns-then-not-has_size-clause-brings : goal.returns-then-not-has_size-clause-brings
returns-then-not-has_size-clause-brings g c a ps u same =
    let old : LinkView = g.T.TagLink.seen c.args.link.now in
    let new : LinkView = g.T.TagLink.seen c.ask.new.self in
    let frame : c.unwrap-frame.result ≡ whole_a (command_bytes c.args.command.now) =
    (rw c.unwrap-frame.ensures at c.whole.ensures.ok) ∙ ap (λ xs. whole_a xs) (c.as_slice.ensures.value ∙ c.to_bytes-spelled.ensures) in
    let due : c.unwrap-frame.result ≡ next_command T4 ps = frame ∙ ap file_frame same in
    let none : HasSize (file_next ps) c.in_ok-bytes.bytes.items → ⊥ = λ has.
    (let here : HasSize c.args.command.now c.as_slice-2.result.now =
    subst (λ k. HasSize k c.as_slice-2.result.now) (sym same)
    (subst (λ xs. HasSize (file_next ps) xs) (sym c.as_slice-2.ensures.value) has) in
    let clash : true ≡ false = sym (c.has_size.ensures.1 here) ∙ c.if-not-has_size.true in
    cc) in
    inl (record {
      ps = ps;
      r = c.in_ok-answer.answer;
      stopped = under_stops T4 a old new ps c.unwrap-frame.result c.in_ok-answer.answer u due c.in_ok-answer.ensures.ok;
      odd = no_piece T4 ps c.in_ok-answer.answer c.in_ok-bytes.bytes.items c.in_ok-bytes.ensures.tells none;
    })

pub returns-in_err-answer-clause-brings : goal.returns-in_err-answer-clause-brings
returns-in_err-answer-clause-brings g c a ps u same =
    let old : LinkView = g.T.TagLink.seen c.args.link.now in
    let new : LinkView = g.T.TagLink.seen c.ask.new.self in
    let frame : c.unwrap-frame.result ≡ whole_a (command_bytes c.args.command.now) =
    (rw c.unwrap-frame.ensures at c.whole.ensures.ok) ∙ ap (λ xs. whole_a xs) (c.as_slice.ensures.value ∙ c.to_bytes-spelled.ensures) in
    let due : c.unwrap-frame.result ≡ next_command T4 ps = frame ∙ ap file_frame same in
    or_fault _ T4 a new c.from_residual.result (of_link c.in_err-answer.field-0.0) (exit_is c.from_residual.result (of_link c.in_err-answer.field-0.0) c.from_residual.ensures.1)
    (under_fault T4 a old new ps c.unwrap-frame.result c.in_err-answer.field-0.0 u due c.in_err-answer.ensures.err c.in_err-answer.ensures.cause c.in_err-answer.ensures.ended
    c.in_err-answer.ensures.last)

pub returns-in_err-bytes-clause-brings : goal.returns-in_err-bytes-clause-brings
returns-in_err-bytes-clause-brings g c a ps u same =
    let old : LinkView = g.T.TagLink.seen c.args.link.now in
    let new : LinkView = g.T.TagLink.seen c.ask.new.self in
    let frame : c.unwrap-frame.result ≡ whole_a (command_bytes c.args.command.now) =
    (rw c.unwrap-frame.ensures at c.whole.ensures.ok) ∙ ap (λ xs. whole_a xs) (c.as_slice.ensures.value ∙ c.to_bytes-spelled.ensures) in
    let due : c.unwrap-frame.result ≡ next_command T4 ps = frame ∙ ap file_frame same in
    let exit : c.from_residual-in_err-bytes.result ≡ Err c.in_err-bytes.field-0.0 = search rules in
    or_fault _ T4 a new c.from_residual-in_err-bytes.result c.in_err-bytes.field-0.0 exit
    (told_fault T4 a old new ps c.unwrap-frame.result c.in_ok-answer.answer c.in_err-bytes.field-0.0 u due c.in_ok-answer.ensures.ok tt (λ ends. ends) c.in_err-bytes.ensures.fault)
