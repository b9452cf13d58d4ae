-- The bench's Type 2 and Type 4 tags are machines above a listener front: which frames are their own, and what stays.
use Rattle.std.proofs.Common.{◌≡◌, ℕ, List, drop, slice_index, Bool, true, false, ◌||◌, is_some, if◌then◌else◌, Option}
use Rattle.std.proofs.Common.{Some, None, refl, sym, ◌∙◌, ap}
use Rattle.nfc_base.specs.declared.frame.Tech.{Tech}
use Rattle.nfc_base.specs.declared.frame.Tech.TheVariants.{A}
use Rattle.nfc_base.specs.Signal.{Signal}
use Rattle.nfc_base.specs.Headed.{is_headed, is_t2_frame, is_rats}
use Rattle.nfc_base.specs.TagLinks.{TagState, TagStep}
use Rattle.nfca_poll.specs.Calls.{Call, Calls, call_of}
use Rattle.nfca_poll.specs.declared.upper.UpStep.{UpStep}
use Rattle.nfca_poll.specs.declared.upper.UpStep.TheVariants as steps
use Rattle.nfca_poll.specs.Upper.{is_taken, answer_in, IsUpper}
use Rattle.nfca_poll.specs.laws.OwnFrames.{call_begins}
use Rattle.t2t_tag.specs.declared.command.T2Command.{T2Command}
use Rattle.t2t_tag.specs.declared.command.T2Command.TheVariants.{Read, Write}
use Rattle.t2t_tag.specs.declared.answer.T2Answer.{T2Answer}
use Rattle.t2t_tag.specs.declared.answer.T2Answer.TheVariants.{Content, Done, Refused}
use Rattle.t2t_tag.specs.Spelling.{answer_frame, spelled_command}
use Rattle.t2t_tag.specs.Store.{T2Memory}
use Rattle.t2t_tag.specs.Step.{is_writable, t2_reply, reply_frame, held_after}
use Rattle.t4t_tag.specs.Store as t4
use Rattle.t4t_tag.proofs.Steps.{same_tag}
use Rattle.tag_reader.specs.Kinds.{t2_step}
use Rattle.tag_reader.specs.Files.{t4_link_step}
use Rattle.isodep_link.specs.declared.card.CardStep.{CardStep}
use Rattle.isodep_link.specs.declared.card.CardStep.TheVariants as card
use Rattle.isodep_link.specs.Sizes.{rats_code, piece_size, ats_frame}
use Rattle.isodep_link.specs.Blocks.{spelled_block}
use Rattle.isodep_link.specs.declared.block.Block.{Block}
use Rattle.isodep_link.specs.Card.{CardState, CardTurn, Does, Stays, Answers, Delivers, Sleeps, framed_does, framed}
use Rattle.isodep_link.specs.Card.{stays, obeyed, block_table, heeded, card_table}
use Rattle.bench_devices.specs.Cards.{T4Near, card_now}
use Rattle.bench_devices.specs.Device.{says_of, t2_machine, by_card, on_link, did_if, t4_did, t4_machine}
use Rattle.bench_devices.specs.laws.LinkCalls.{says_at, did_at_call}

-- the steps on commands
abbrev pub t2_commands : T2Memory → TagState → Signal → TagStep
t2_commands u = t2_step u.locked

abbrev pub t4_commands : T4Near → TagState → Signal → TagStep
t4_commands u = t4_link_step u.tag.code

-- only a Type 4 tag has a link, and none of them is a peer
abbrev pub never_open : {U : Type 0} → U → Bool
never_open u = false

abbrev pub no_attributes : Signal → Bool
no_attributes f = false

abbrev pub is_linked : T4Near → Bool
is_linked u = u.linked

-- READ and WRITE are what spells a command
own_heads : (v w : Bool) (c d : T2Command) → is_some (if v then Some c else (if w then Some d else None)) ≡ (v || w)
own_heads true w c d = refl
own_heads false true c d = refl
own_heads false false c d = refl

own_frame : (f : Signal) → is_some (spelled_command f) ≡ is_t2_frame f
own_frame f = own_heads (is_headed 2 0x30 f) (is_headed 6 0xA2 f) (Read (slice_index f.bytes 1))
    (Write (slice_index f.bytes 1) (drop 2 f.bytes))

taken_t2 : (u : T2Memory) (c : Option T2Command) → is_taken (says_of (reply_frame u c)) ≡ is_some c
taken_t2 u None = refl
taken_t2 u (Some c) = refl

-- a frame that spells no command changes nothing
foreign_command : (u : T2Memory) (c : Option T2Command) → says_of (reply_frame u c) ≡ steps.Foreign → held_after u c ≡ u
foreign_command u None h = refl
foreign_command u (Some c) h = absurd cc

answer_tech : (a : T2Answer) → (answer_frame a).tech ≡ A
answer_tech (Content content) = refl
answer_tech Done = refl
answer_tech Refused = refl

tech_in : (g h : Signal) → h.tech ≡ A → Some h ≡ Some g → g.tech ≡ A
tech_in g h t e = let same : h ≡ g = cc in ap (λ f. f.tech) (sym same) ∙ t

t2_tech : (u : T2Memory) (c : Option T2Command) (g : Signal) → answer_in (says_of (reply_frame u c)) ≡ Some g
    → g.tech ≡ A
t2_tech u None g e = absurd cc
t2_tech u (Some c) g e = tech_in g (answer_frame (t2_reply u c)) (answer_tech (t2_reply u c)) e

written_locks : (u : T2Memory) (v : Bool) (store : List ℕ)
    → (if v then record u { store = store } else u).locked ≡ u.locked
written_locks u true store = refl
written_locks u false store = refl

locks_stay : (u : T2Memory) (c : Option T2Command) → (held_after u c).locked ≡ u.locked
locks_stay u None = refl
locks_stay u (Some (Read block)) = refl
locks_stay u (Some (Write block content)) = written_locks u (is_writable u block) _

pub t2_upper : IsUpper t2_machine (λ u. u.store) t2_commands never_open no_attributes
t2_upper = record {
  takes = λ u f reply. taken_t2 u (spelled_command f) ∙ own_frame f;
  foreign = λ u f reply h. (refl, foreign_command u (spelled_command f) h);
  opens = λ u f reply k h. absurd (k refl);
  closes = λ u. refl;
  no_call = λ f c e. refl;
  silent = λ u f c o e. absurd cc;
  waits = λ u f payload h. absurd cc;
  bounded = λ u f payload h. absurd cc;
  own_tech = λ u f g reply e. t2_tech u (spelled_command f) g e;
  step_keeps = λ u f reply. record { same_kind = refl; same_commands = ap t2_step (locks_stay u (spelled_command f)) };
  clear_keeps = λ u. (record { same_kind = refl; same_commands = refl }, refl);
}

-- A link takes every frame; without one, a Type 4 tag takes RATS alone.
link_takes : (tag : t4.T4State) (t : CardState) (does : CardStep) → is_taken (by_card tag t does).says ≡ true
link_takes tag t card.Quiet = refl
link_takes tag t (card.Reply f) = refl
link_takes tag t (card.Deliver command) = refl
link_takes tag t (card.Asleep f) = refl

link_stays : (tag : t4.T4State) (t : CardState) (does : CardStep) → is_linked (by_card tag t does).after ≡ true
link_stays tag t card.Quiet = refl
link_stays tag t (card.Reply f) = refl
link_stays tag t (card.Deliver command) = refl
link_stays tag t (card.Asleep f) = refl

takes_if : (u : T4Near) (f : Signal) (v : Bool) → is_taken (did_if v u f).says ≡ v
takes_if u f true = link_takes u.tag (card_table (card_now u) f).state (card_table (card_now u) f).does
takes_if u f false = refl

not_foreign : (s : UpStep) → is_taken s ≡ true → s ≡ steps.Foreign → ⊥
not_foreign steps.Foreign t h = cc
not_foreign steps.Quiet t h = cc
not_foreign (steps.Reply g) t h = cc
not_foreign (steps.Sleep g) t h = cc
not_foreign (steps.Idle g) t h = cc

foreign_if : (u : T4Near) (f : Signal) (v : Bool) → (did_if v u f).says ≡ steps.Foreign → (did_if v u f).after ≡ u
foreign_if u f true h = absurd (not_foreign (on_link u.tag (card_now u) f).says (takes_if u f true) h)
foreign_if u f false h = refl

opens_if : (u : T4Near) (f : Signal) (v : Bool) → is_taken (did_if v u f).says ≡ true
    → is_linked (did_if v u f).after ≡ true
opens_if u f true h = link_stays u.tag (card_table (card_now u) f).state (card_table (card_now u) f).does
opens_if u f false h = absurd cc

silent_t4 : (u : T4Near) (f : Signal) (c : Call) → u.linked ≡ true → call_of f ≡ Calls c
    → (t4_did u f).says ≡ steps.Quiet
silent_t4 u f c o e = ap (λ d. d.says) (did_at_call u f (call_begins f c e)) ∙ ap says_at o

-- what the card's end says is a block or ATS, an NFC-A frame
abbrev tech_of_step : CardStep → Tech
tech_of_step card.Quiet = A
tech_of_step (card.Reply f) = f.tech
tech_of_step (card.Deliver command) = A
tech_of_step (card.Asleep f) = f.tech

framed_tech : (does : Does) → tech_of_step (framed_does does) ≡ A
framed_tech Stays = refl
framed_tech (Answers b) = refl
framed_tech (Delivers xs) = refl
framed_tech (Sleeps b) = refl

begun_tech : (t : CardState) (code : ℕ) (v : Bool) → tech_of_step
    (if v then framed (stays t) else record {
      state = record t { most = piece_size code };
      does = card.Reply (ats_frame t.code);
    }).does ≡ A
begun_tech t code true = refl
begun_tech t code false = refl

obeyed_tech : (t : CardState) (b : Option Block) → tech_of_step (obeyed t b).does ≡ A
obeyed_tech t None = refl
obeyed_tech t (Some b) = framed_tech (block_table t b).does

heeded_tech : (t : CardState) (code : Option ℕ) (b : Option Block) → tech_of_step (heeded t code b).does ≡ A
heeded_tech t (Some code) b = begun_tech t code t.begun
heeded_tech t None b = obeyed_tech t b

muted_tech : (t : CardState) (turn : CardTurn) (v : Bool) → tech_of_step turn.does ≡ A
    → tech_of_step (if v then framed (stays t) else turn).does ≡ A
muted_tech t turn true h = refl
muted_tech t turn false h = h

table_tech : (t : CardState) (f : Signal) → tech_of_step (card_table t f).does ≡ A
table_tech t f = muted_tech t (heeded t (rats_code f) (spelled_block f)) t.mute
    (heeded_tech t (rats_code f) (spelled_block f))

card_tech : (tag : t4.T4State) (t : CardState) (does : CardStep) (g : Signal) → tech_of_step does ≡ A
    → answer_in (by_card tag t does).says ≡ Some g → g.tech ≡ A
card_tech tag t card.Quiet g h e = absurd cc
card_tech tag t (card.Reply f) g h e = tech_in g f h e
card_tech tag t (card.Deliver command) g h e = tech_in g _ refl e
card_tech tag t (card.Asleep f) g h e = tech_in g f h e

tech_if : (u : T4Near) (f g : Signal) (v : Bool) → answer_in (did_if v u f).says ≡ Some g → g.tech ≡ A
tech_if u f g true e = card_tech u.tag (card_table (card_now u) f).state (card_table (card_now u) f).does g
    (table_tech (card_now u) f) e
tech_if u f g false e = absurd cc

-- the code of a tag stays, and with it its step on commands
card_code : (tag : t4.T4State) (t : CardState) (does : CardStep) → (by_card tag t does).after.tag.code ≡ tag.code
card_code tag t card.Quiet = refl
card_code tag t (card.Reply f) = refl
card_code tag t (card.Deliver command) = (same_tag tag command.items).code
card_code tag t (card.Asleep f) = refl

code_if : (u : T4Near) (f : Signal) (v : Bool) → (did_if v u f).after.tag.code ≡ u.tag.code
code_if u f true = card_code u.tag (card_table (card_now u) f).state (card_table (card_now u) f).does
code_if u f false = refl

pub t4_upper : IsUpper t4_machine (λ u. t4.store_of u.tag) t4_commands is_linked no_attributes
t4_upper = record {
  takes = λ u f reply. takes_if u f (u.linked || is_rats f);
  foreign = λ u f reply h. (refl, foreign_if u f (u.linked || is_rats f) h);
  opens = λ u f reply k h. opens_if u f (u.linked || is_rats f) h;
  closes = λ u. refl;
  no_call = λ f c e. refl;
  silent = λ u f c o e. (refl, silent_t4 u f c o e);
  waits = λ u f payload h. absurd cc;
  bounded = λ u f payload h. absurd cc;
  own_tech = λ u f g reply e. tech_if u f g (u.linked || is_rats f) e;
  step_keeps =
      λ u f reply. record { same_kind = refl; same_commands = ap t4_link_step (code_if u f (u.linked || is_rats f)) };
  clear_keeps = λ u. (record { same_kind = refl; same_commands = refl }, refl);
}
