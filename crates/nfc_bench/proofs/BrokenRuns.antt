-- In each run of a sweep with a Break its write comes to it, so what is read behind it is one of three messages.
use Rattle.std.proofs.Common.{◌≡◌, ◌⊎◌, inl, inr, ℕ, ◌+◌, ◌-◌, ◌<◌, ◌≤◌, List, [], ◌∷◌, ◌++◌, length, get_or, map, Bool, true, false, Some, refl, sym, ◌∙◌, ap, subst, append_assoc, arith}
use Rattle.std.specs.Prelude.{if◌then◌else◌, slice_get, nat_eq, not, ◌&&◌}
use Rattle.std.specs.Cmp.Lexicographic.{pointwise}
use Rattle.std.specs.List.{AllByRecursion}
use Rattle.std.proofs.Math.Seq.{get_or-append_seam}
use Rattle.std.proofs.lemmas.List.{append-nil, length-append}
use Rattle.std.proofs.lemmas.List.Elements.{All-head, All-tail}
use Rattle.std.proofs.lemmas.Option.{slice_get-get_or}
use Rattle.nfc_base.specs.declared.event.Fate.{Fate}
use Rattle.air_core.specs.Conversation.{Over, queue_after, receptions}
use Rattle.nfca_poll.proofs.quiet.OneLevel.{pointwise_self}
use Rattle.tlv_area.specs.Form.{Form, Message}
use Rattle.tag_reader.specs.Kinds.{IsStoreForm}
use Rattle.tag_writer.proofs.OneOutcome.{held_there}
use Rattle.bench_script.specs.declared.command.Command.{Command}
use Rattle.bench_script.specs.declared.command.Command.TheVariants.{Skip, Fates, Read, Write}
use Rattle.bench_script.specs.declared.command.DeviceId.{DeviceId}
use Rattle.bench_script.specs.declared.message.Msg.{Msg}
use Rattle.bench_script.specs.DeviceIds.{bytes_of}
use Rattle.bench_script.specs.Messages.{message_of}
use Rattle.bench_script.specs.Script.{Spells, is_skipped}
use Rattle.bench_script.proofs.Spelling.{spells_one}
use Rattle.bench_devices.specs.declared.device.Device.{Device}
use Rattle.bench_devices.specs.Answering.{IsNamed}
use Rattle.bench_devices.specs.Device.{device_store, how_of, size_of}
use Rattle.bench_devices.specs.Placed.{device_with}
use Rattle.bench_world.specs.declared.entry.Answer.TheVariants.{Written, Message as Told}
use Rattle.bench_world.specs.declared.entry.Entry.{Entry}
use Rattle.bench_world.specs.Behind.{breaking, BreaksThenReads, TellsOneOfThree}
use Rattle.bench_world.specs.Journal.{NumberedLine, asking_lines, AreEntriesOf}
use Rattle.bench_world.specs.Legal.{State, Given, Joins, no_joins, FrontOf, AnswerLaw, LegalStep, EachLegal, world_at_start, changed, due, state_after, first_state}
use Rattle.bench_world.specs.Taking.{AreSpelled}
use Rattle.bench_world.proofs.calm.BrokenRead.{broken_is_read, first_broken_is_read, none_left}
use Rattle.bench_world.proofs.devices.HeldOn.{nothing_sent}
use Rattle.bench_world.proofs.lines.OneForm.{one_store_form}
use Rattle.bench_world.proofs.lines.OneJournal.{same_answers, same_state}
use Rattle.bench_world.proofs.devices.Reached.{first_ready, ready_behind}
use Rattle.bench_world.proofs.calm.WriteBehind.{Done, tag_behind}
use Rattle.nfc_bench.specs.Run.{IsFates, HaveNoFates, IsRunOf, AreRuns}
use Rattle.nfc_bench.specs.Sweep.{sweep_lines, break_lines, read_line, last_entry, all_transmissions, told_in, told_if, told_by_run, message_told, message_written, written_if, written_in, first_told}
use Rattle.nfc_bench.specs.Sweep.{is_neither}
use Rattle.nfc_bench.specs.SweptReads.{HeldBehind, TellsThree, SweptIsRead, NeitherIsEmpty}
use Rattle.nfc_bench.proofs.Journals.{asks_something}
use Rattle.nfc_bench.proofs.WrittenTag.{named_so, written_placed}
use Rattle.nfc_bench.proofs.SweptLines.{break_fates, breaks_are, breaks_spelled, read_spelled, spelled_append, all_breaks, all_of}
use Rattle.trace_audit.proofs.Entries.{asking_more}

-- no entry has numbers
abbrev NoneJoined : List Given → Type 0
NoneJoined gs = AllByRecursion (λ (g : Given). g.joins ≡ no_joins) gs

none_joined : (gs : List Given) (ns : List Joins) → map (λ (g : Given). g.joins) gs ≡ ns → AllByRecursion (λ j. j ≡ no_joins) ns → NoneJoined gs
none_joined [] ns e all = tt
none_joined (g ∷ gs) [] e all = absurd cc
none_joined (g ∷ gs) (n ∷ ns) e all =
    let first : g.joins ≡ n = cc in
    let rest : map (λ (h : Given). h.joins) gs ≡ ns = cc in
    (first ∙ all.0, none_joined gs ns rest all.1)

-- The entries of lines one after the other.
record Entries (ls ks : List NumberedLine) (js : List Entry) : Type 0 where
  pub es : List Entry
  pub ds : List Entry
  pub parts : js ≡ es ++ ds
  pub first : AreEntriesOf ls es
  pub second : AreEntriesOf ks ds

entries_parted : (ls ks : List NumberedLine) (js : List Entry) → AreEntriesOf (ls ++ ks) js → Entries ls ks js
entries_parted [] ks js p = record { es = []; ds = js; parts = refl; first = tt; second = p }
entries_parted (l ∷ ls) ks [] p = absurd p
entries_parted (l ∷ ls) ks (j ∷ js) p =
    let r = entries_parted ls ks js p.2 in record { es = j ∷ r.es; ds = r.ds; parts = ap (λ x. j ∷ x) r.parts; first = (p.0, p.1, r.first); second = r.second }

record Steps (s t : State) (es ds : List Entry) : Type 0 where
  pub mid : State
  pub ones : List Given
  pub others : List Given
  pub first : EachLegal s ones es mid
  pub second : EachLegal mid others ds t
  pub none : NoneJoined ones
  pub still : NoneJoined others

steps_parted : (s t : State) (gs : List Given) (es ds : List Entry) → NoneJoined gs → EachLegal s gs (es ++ ds) t → Steps s t es ds
steps_parted s t gs [] ds none p = record { mid = s; ones = []; others = gs; first = refl; second = p; none = tt; still = none }
steps_parted s t [] (e ∷ es) ds none p = absurd p
steps_parted s t (g ∷ gs) (e ∷ es) ds none p =
    let r = steps_parted p.0 t gs es ds none.1 p.2 in
    record { mid = r.mid; ones = g ∷ r.ones; others = r.others; first = (p.0, p.1, r.first); second = r.second; none = (none.0, r.none); still = r.still }

-- A run of lines in two parts.
record Parted (a b : List (List ℕ)) (js : List Entry) : Type 0 where
  pub entries : Entries (asking_lines 1 a) (asking_lines (1 + length a) b) js
  pub last : State
  pub steps : Steps first_state last entries.es entries.ds

run_parted : (a b lines : List (List ℕ)) (js : List Entry) → lines ≡ a ++ b → IsRunOf lines js → Parted a b js
run_parted a b lines js is run =
    let leads = run.legal.leads in
    let named = subst (λ ls. AreEntriesOf ls js) (ap (asking_lines 1) is ∙ asking_more 1 a b) leads.numbered in
    let r = entries_parted (asking_lines 1 a) (asking_lines (1 + length a) b) js named in
    let none = none_joined leads.given run.legal.numbers leads.joins run.most in
    record {
      entries = r;
      last = run.legal.last;
      steps = steps_parted first_state run.legal.last leads.given r.es r.ds none (subst (λ x. EachLegal first_state leads.given x run.legal.last) r.parts leads.steps);
    }

-- The same lines lead to one state.
one_state : (ls : List NumberedLine) (s t u : State) (gs hs : List Given) (js ks : List Entry) → AreEntriesOf ls js → AreEntriesOf ls ks → NoneJoined gs → NoneJoined hs → EachLegal s gs js t
    → EachLegal s hs ks u → t ≡ u
one_state [] s t u [] [] [] [] a b n m p q = p ∙ sym q
one_state [] s t u gs hs (j ∷ js) ks a b n m p q = absurd a
one_state [] s t u gs hs [] (k ∷ ks) a b n m p q = absurd b
one_state [] s t u (g ∷ gs) hs [] [] a b n m p q = absurd p
one_state [] s t u [] (h ∷ hs) [] [] a b n m p q = absurd q
one_state (l ∷ ls) s t u gs hs [] ks a b n m p q = absurd a
one_state (l ∷ ls) s t u gs hs (j ∷ js) [] a b n m p q = absurd b
one_state (l ∷ ls) s t u [] hs (j ∷ js) (k ∷ ks) a b n m p q = absurd p
one_state (l ∷ ls) s t u (g ∷ gs) [] (j ∷ js) (k ∷ ks) a b n m p q = absurd q
one_state (l ∷ ls) s t u (g ∷ gs) (h ∷ hs) (j ∷ js) (k ∷ ks) a b n m p q =
    let c : Command = j.command in
    let same : j.command ≡ k.command = spells_one l.text j.command k.command a.1 b.1 in
    let front : FrontOf s h c k.events (Some k.answer) q.0 = subst (λ x. FrontOf s h x k.events (Some k.answer) q.0) (sym same) q.1.front in
    let over : due s h c (receptions k.events) ≡ Over = subst (λ x. due s h x (receptions k.events) ≡ Over) (sym same) q.1.over in
    let law : AnswerLaw s h c k.events k.answer = subst (λ x. AnswerLaw s h x k.events k.answer) (sym same) q.1.answered in
    let joins : h.joins ≡ g.joins = m.0 ∙ sym n.0 in
    let answer : j.answer ≡ k.answer = same_answers s c g h j.events k.events j.answer k.answer p.0 q.0 p.1.front front p.1.over over joins p.1.answered law in
    let mid : q.0 ≡ p.0 = same_state s c g h j.events k.events j.answer k.answer p.0 q.0 p.1.front front p.1.over over joins answer in
    one_state ls p.0 t u gs hs js ks a.2 b.2 n.1 m.1 p.2 (subst (λ x. EachLegal x hs ks u) mid q.2)

-- Where no line is one of fates none is left.
queue_kept : (s : State) (c : Command) → ((fates : List Fate) → c ≡ Fates fates → ⊥) → (changed s c).queue ≡ s.queue
queue_kept s (Fates fates) other = absurd (other fates refl)
queue_kept s c other = refl

abbrev IsCalm : State → Type 0
IsCalm s = (s.queue ≡ []) × (s.world.numbers ≡ [])

calm_step : (s t : State) (g : Given) (e : Entry) → LegalStep s g e t → ((fates : List Fate) → e.command ≡ Fates fates → ⊥) → IsCalm s → IsCalm t
calm_step s t g e step other calm = (
  ap (λ (x : State). x.queue) step.front.after ∙ ap (λ q. queue_after q e.events) (queue_kept s e.command other ∙ calm.0) ∙ none_left e.events,
  ap (λ (x : State). x.world.numbers) step.front.after,
)

calm_behind : (ls : List NumberedLine) (s t : State) (gs : List Given) (js : List Entry) → AllByRecursion (λ (l : NumberedLine). IsFates l.text → ⊥) ls → AreEntriesOf ls js → IsCalm s
    → EachLegal s gs js t → IsCalm t
calm_behind ls s t [] [] all of calm steps = subst IsCalm (sym steps) calm
calm_behind ls s t (g ∷ gs) [] all of calm steps = absurd steps
calm_behind ls s t [] (e ∷ js) all of calm steps = absurd steps
calm_behind [] s t (g ∷ gs) (e ∷ js) all of calm steps = absurd of
calm_behind (l ∷ ls) s t (g ∷ gs) (e ∷ js) all of calm steps =
    let S : Command → Type 0 = λ c. Spells l.text c in
    let here : IsCalm steps.0 = calm_step s steps.0 g e steps.1 (λ fates is. all.0 (fates, subst S is of.1)) calm in
    calm_behind ls steps.0 t gs js all.1 of.2 here steps.2

asking_none : (n : ℕ) (lines : List (List ℕ)) → HaveNoFates lines → AllByRecursion (λ (l : NumberedLine). IsFates l.text → ⊥) (asking_lines n lines)
asking_none n [] all = tt
asking_none n (l ∷ ls) all = by_skip (is_skipped l) (asking_none (n + 1) ls (All-tail (λ x. IsFates x → ⊥) l ls all))
  where
    by_skip : (v : Bool) → AllByRecursion (λ (x : NumberedLine). IsFates x.text → ⊥) (asking_lines (n + 1) ls)
        → AllByRecursion (λ (x : NumberedLine). IsFates x.text → ⊥) (if v then asking_lines (n + 1) ls else record { number = n; text = l } ∷ asking_lines (n + 1) ls)
    by_skip true more = more
    by_skip false more = (All-head (λ x. IsFates x → ⊥) l ls all, more)

-- The entries of lines that spell these commands have them.
asked_of : List Entry → List Command
asked_of js = map (λ (e : Entry). e.command) js

commands_of : (n : ℕ) (ls : List (List ℕ)) (cs : List Command) (js : List Entry) → AreSpelled ls cs → AllByRecursion (λ c. c ≡ Skip → ⊥) cs → AreEntriesOf (asking_lines n ls) js → asked_of js ≡ cs
unfolding asked_of
commands_of n [] [] [] p o q = refl
commands_of n [] [] (j ∷ js) p o q = absurd q
commands_of n [] (c ∷ cs) js p o q = absurd p
commands_of n (l ∷ ls) [] js p o q = absurd p
commands_of n (l ∷ ls) (c ∷ cs) js p o q =
    by_entry js (subst (λ v. AreEntriesOf (if v then asking_lines (n + 1) ls else record { number = n; text = l } ∷ asking_lines (n + 1) ls) js) (asks_something l c p.0 o.0) q)
    (λ ks h. commands_of (n + 1) ls cs ks p.1 o.1 h)
  where
    by_entry : (ks : List Entry) → AreEntriesOf (record { number = n; text = l } ∷ asking_lines (n + 1) ls) ks
        → ((xs : List Entry) → AreEntriesOf (asking_lines (n + 1) ls) xs → map (λ (e : Entry). e.command) xs ≡ cs) → map (λ (e : Entry). e.command) ks ≡ c ∷ cs
    by_entry [] h more = absurd h
    by_entry (k ∷ ks) h more = ap (λ x. x ∷ map (λ (e : Entry). e.command) ks) (spells_one l k.command c h.1 p.0) ∙ ap (λ xs. c ∷ xs) (more ks h.2)

-- Fates are appended, and nothing is sent.
abbrev with_fates : State → List Fate → State
with_fates s f = record { world = s.world; queue = s.queue ++ f; peers = s.peers; link = s.link }

fates_step : (s t : State) (g : Given) (e : Entry) (f : List Fate) → LegalStep s g e t → e.command ≡ Fates f → s.world.numbers ≡ [] → t ≡ with_fates s f
fates_step s t g e f step is none =
    let front : FrontOf s g (Fates f) e.events (Some e.answer) t = subst (λ c. FrontOf s g c e.events (Some e.answer) t) is step.front in
    let quiet : e.events ≡ [] = nothing_sent (world_at_start s g.joins (Fates f)) e.events front.turns front.each in
    front.after ∙ ap (λ es. state_after s g.joins (Fates f) es (Some e.answer)) quiet
    ∙ ap (λ ns. record { world = record { field = s.world.field; fars = s.world.fars; numbers = ns }; queue = s.queue ++ f; peers = s.peers; link = s.link }) (sym none)

-- Some lines of fates, and the entries behind them.
record Behind (s t : State) (fates : List Fate) (rest : List Command) (js : List Entry) : Type 0 where
  pub given : List Given
  pub front : List Entry
  pub after : List Entry
  pub parts : js ≡ front ++ after
  pub commands : asked_of after ≡ rest
  pub steps : EachLegal (with_fates s fates) given after t

behind_fates : (fs : List (List Fate)) (rest : List Command) (s t : State) (gs : List Given) (js : List Entry) → asked_of js ≡ map Fates fs ++ rest → s.world.numbers ≡ [] → EachLegal s gs js t
    → Behind s t (all_of fs) rest js
unfolding asked_of all_of
behind_fates [] rest s t gs js are none p = record {
  given = gs;
  front = [];
  after = js;
  parts = refl;
  commands = are;
  steps = subst (λ q. EachLegal (record { world = s.world; queue = q; peers = s.peers; link = s.link }) gs js t) (sym (append-nil s.queue)) p;
}
behind_fates (f ∷ fs) rest s t gs [] are none p = absurd cc
behind_fates (f ∷ fs) rest s t [] (j ∷ js) are none p = absurd p
behind_fates (f ∷ fs) rest s t (g ∷ gs) (j ∷ js) are none p =
    let first : j.command ≡ Fates f = cc in
    let more : asked_of js ≡ map Fates fs ++ rest = cc in
    let r = behind_fates fs rest (with_fates s f) t gs js more none (subst (λ x. EachLegal x gs js t) (fates_step s p.0 g j f p.1 first none) p.2) in
    record {
      given = r.given;
      front = j ∷ r.front;
      after = r.after;
      parts = ap (λ x. j ∷ x) r.parts;
      commands = r.commands;
      steps = subst (λ q. EachLegal (record { world = s.world; queue = q; peers = s.peers; link = s.link }) r.given r.after t) (append_assoc s.queue f (all_of fs)) r.steps;
    }

-- One entry, and two.
record One (s t : State) (c : Command) (js : List Entry) : Type 0 where
  pub given : Given
  pub entry : Entry
  pub is : js ≡ entry ∷ []
  pub command : entry.command ≡ c
  pub step : LegalStep s given entry t

one_step : (s t : State) (c : Command) (gs : List Given) (js : List Entry) → asked_of js ≡ c ∷ [] → EachLegal s gs js t → One s t c js
unfolding asked_of
one_step s t c gs [] are p = absurd cc
one_step s t c [] (j ∷ js) are p = absurd p
one_step s t c (g ∷ gs) (j ∷ k ∷ js) are p = absurd cc
one_step s t c (g ∷ h ∷ gs) (j ∷ []) are p = absurd p.2
one_step s t c (g ∷ []) (j ∷ []) are p = record { given = g; entry = j; is = refl; command = cc; step = subst (LegalStep s g j) (sym p.2) p.1 }

record Two (s t : State) (c d : Command) (js : List Entry) : Type 0 where
  pub mid : State
  pub ones : Given
  pub others : Given
  pub first : Entry
  pub second : Entry
  pub is : js ≡ first ∷ second ∷ []
  pub commands : (first.command ≡ c) × (second.command ≡ d)
  pub step : LegalStep s ones first mid
  pub next : LegalStep mid others second t

two_steps : (s t : State) (c d : Command) (gs : List Given) (js : List Entry) → asked_of js ≡ c ∷ d ∷ [] → EachLegal s gs js t → Two s t c d js
unfolding asked_of
two_steps s t c d gs [] are p = absurd cc
two_steps s t c d [] (j ∷ js) are p = absurd p
two_steps s t c d (g ∷ gs) (j ∷ js) are p =
    let first : j.command ≡ c = cc in
    let more : asked_of js ≡ d ∷ [] = cc in
    let r = one_step p.0 t d gs js more p.2 in
    record { mid = p.0; ones = g; others = r.given; first = j; second = r.entry; is = ap (λ x. j ∷ x) r.is; commands = (first, r.command); step = p.1; next = r.step }

-- what isn't skipped
asks_write : (id : DeviceId) (m : Msg) → Write id m ≡ Skip → ⊥
asks_write id m e = cc

asks_read : (id : DeviceId) → Read id ≡ Skip → ⊥
asks_read id e = cc

asks_fates : (f : List Fate) → Fates f ≡ Skip → ⊥
asks_fates f e = cc

all_ask : (fs : List (List Fate)) (rest : List Command) → AllByRecursion (λ c. c ≡ Skip → ⊥) rest → AllByRecursion (λ c. c ≡ Skip → ⊥) (map Fates fs ++ rest)
all_ask [] rest h = h
all_ask (f ∷ fs) rest h = (asks_fates f, all_ask fs rest h)

-- the last of some entries
last_of : (es : List Entry) (e : Entry) → last_entry (es ++ e ∷ []) ≡ Some e
last_of es e =
    let size : length (es ++ e ∷ []) ≡ length es + 1 = length-append es (e ∷ []) in
    let place : length (es ++ e ∷ []) - 1 ≡ length es = omega (arith, size) in
    ap (slice_get (es ++ e ∷ [])) place ∙ slice_get-get_or (es ++ e ∷ []) (length es) e (omega (arith, size)) ∙ ap Some (get_or-append_seam es e [] e)

same_some : (a b : Entry) → Some a ≡ Some b → a ≡ b
same_some a b e = cc

same_held : (a b : List ℕ) → ◌≡◌ {A = Form} (Message a) (Message b) → a ≡ b
same_held a b e = cc

lines_are : (before : List (List ℕ)) (last read : List ℕ) (i : ℕ) → sweep_lines before last read i ≡ before ++ (break_lines i ++ last ∷ read ∷ [])
unfolding sweep_lines
lines_are before last read i = refl

-- of three messages one that is neither the old one nor the new one is empty
no_both : (v : Bool) → v && false ≡ true → ⊥
no_both true e = cc
no_both false e = cc

neither_empty : (old new message : List ℕ) → (message ≡ old) ⊎ ((message ≡ []) ⊎ (message ≡ new)) → is_neither (Some old) new (Some message) ≡ true → message ≡ []
neither_empty old new message (inl is) counted =
    let same : pointwise nat_eq message old ≡ true = subst (λ x. pointwise nat_eq message x ≡ true) is (pointwise_self message) in
    let clash : ◌≡◌ {A = Bool} false true = sym (ap (λ v. not v && not (pointwise nat_eq message new)) same) ∙ counted in
    absurd cc
neither_empty old new message (inr (inl is)) counted = is
neither_empty old new message (inr (inr is)) counted =
    let same : pointwise nat_eq message new ≡ true = subst (λ x. pointwise nat_eq message x ≡ true) is (pointwise_self message) in
    absurd (no_both (not (pointwise nat_eq message old)) (sym (ap (λ v. not (pointwise nat_eq message old) && not v) same) ∙ counted))

module _ (lines : List (List ℕ)) (runs : List (List Entry)) (r : AreRuns lines runs) where
  abbrev id : DeviceId
  id = r.script.id

  abbrev m : Msg
  m = r.script.message

  -- the first run: the state before its write, and that
  whole : Parted r.script.before (r.script.last ∷ []) r.first
  whole = run_parted r.script.before (r.script.last ∷ []) lines r.first r.script.parts r.run

  here : State
  here = whole.steps.mid

  calm : IsCalm here
  unfolding here
  calm =
      calm_behind (asking_lines 1 r.script.before) first_state here whole.steps.ones whole.entries.es (asking_none 1 r.script.before r.script.none) whole.entries.first (refl, refl) whole.steps.first

  write : One here whole.last (Write id m) whole.entries.ds
  unfolding here
  write =
      one_step here whole.last (Write id m) whole.steps.others whole.entries.ds
      (commands_of (1 + length r.script.before) (r.script.last ∷ []) (Write id m ∷ []) whole.entries.ds (r.script.spelled, tt) (asks_write id m, tt) whole.entries.second) whole.steps.second

  is_write : r.write ≡ write.entry
  is_write =
      let first : r.first ≡ whole.entries.es ++ write.entry ∷ [] = whole.entries.parts ∙ ap (λ x. whole.entries.es ++ x) write.is in
      same_some r.write write.entry (sym r.last ∙ ap last_entry first ∙ last_of whole.entries.es write.entry)

  success : write.entry.answer ≡ Written
  success = subst (λ (e : Entry). e.answer ≡ Written) is_write r.written

  placed : (tag : Device) × (device_with (bytes_of id) here.world.field.listeners ≡ Some tag)
  placed = written_placed id m here whole.last write.given write.entry write.step write.command success

  done : Done placed.0 m
  done = (tag_behind id placed.0 m here whole.last write.given write.entry placed.1 write.step write.command).done success

  named : IsNamed id placed.0
  unfolding here
  named = named_so r.script.last id m r.script.spelled here.world.field.listeners placed.0 placed.1
      (ready_behind (asking_lines 1 r.script.before) first_state here whole.steps.ones whole.entries.es first_ready whole.entries.first whole.steps.first) done.is_one

  held : (old : List ℕ) × IsStoreForm (how_of placed.0) (size_of placed.0) (device_store placed.0) (Message old)
  held = held_there (how_of placed.0) (size_of placed.0) (device_store placed.0) (message_of m) done.shows.place done.shows.takes.holds

  held_behind : HeldBehind r.script.before id held.0
  unfolding here
  held_behind = record {
    numbers = map (λ (g : Given). g.joins) whole.steps.ones;
    journal = whole.entries.es;
    state = here;
    leads = record { given = whole.steps.ones; joins = refl; numbered = whole.entries.first; steps = whole.steps.first };
    tag = placed.0;
    placed = placed.1;
    held = held.1;
  }

  module _ (i : ℕ) (within : i < length r.broken) where
    abbrev run : List Entry
    run = get_or r.broken i []

    abbrev rest : List Command
    rest = Write id m ∷ Read id ∷ []

    -- a run with a Break: its lines of fates, its write and its read
    parts : Parted r.script.before (break_lines i ++ r.script.last ∷ read_line id ∷ []) run
    parts =
        run_parted r.script.before (break_lines i ++ r.script.last ∷ read_line id ∷ []) (sweep_lines r.script.before r.script.last (read_line id) i) run
        (lines_are r.script.before r.script.last (read_line id) i) (r.each i within)

    same : here ≡ parts.steps.mid
    unfolding here
    same =
        one_state (asking_lines 1 r.script.before) first_state here parts.steps.mid whole.steps.ones parts.steps.ones whole.entries.es parts.entries.es whole.entries.first parts.entries.first
        whole.steps.none parts.steps.none whole.steps.first parts.steps.first

    commands : asked_of parts.entries.ds ≡ map Fates (break_fates i) ++ rest
    commands =
        let breaks : AreSpelled (break_lines i) (map Fates (break_fates i)) = subst (AreSpelled (break_lines i)) (sym (breaks_are i)) (breaks_spelled i) in
        let spelled : AreSpelled (break_lines i ++ r.script.last ∷ read_line id ∷ []) (map Fates (break_fates i) ++ rest) =
        spelled_append (break_lines i) (r.script.last ∷ read_line id ∷ []) (map Fates (break_fates i)) rest breaks (r.script.spelled, (read_spelled r.script.last id m r.script.spelled, tt)) in
        commands_of (1 + length r.script.before) (break_lines i ++ r.script.last ∷ read_line id ∷ []) (map Fates (break_fates i) ++ rest) parts.entries.ds spelled
        (all_ask (break_fates i) rest (asks_write id m, (asks_read id, tt))) parts.entries.second

    behind : Behind here parts.last (all_of (break_fates i)) rest parts.entries.ds
    behind =
        behind_fates (break_fates i) rest here parts.last parts.steps.others parts.entries.ds commands calm.1
        (subst (λ s. EachLegal s parts.steps.others parts.entries.ds parts.last) (sym same) parts.steps.second)

    two : Two (with_fates here (all_of (break_fates i))) parts.last (Write id m) (Read id) behind.after
    two = two_steps (with_fates here (all_of (break_fates i))) parts.last (Write id m) (Read id) behind.given behind.after behind.commands behind.steps

    breaks : BreaksThenReads id placed.0 m two.second
    breaks =
        let queue : here.queue ++ all_of (break_fates i) ≡ breaking i = ap (λ q. q ++ all_of (break_fates i)) calm.0 ∙ all_breaks i in
        let few : length r.broken ≤ all_transmissions r.write.events = r.few in
        let count : all_transmissions r.write.events ≡ all_transmissions write.entry.events = ap (λ (e : Entry). all_transmissions e.events) is_write in
        record {
          before = here;
          placed = placed.1;
          named = named;
          none = calm.0;
          whole = write.entry;
          whole_given = write.given;
          whole_after = whole.last;
          writes = write.step;
          writing = write.command;
          success = success;
          passes = i;
          few = omega (arith, within, few, count);
          broken = two.first;
          broken_given = two.ones;
          broken_after = two.mid;
          breaks = subst (λ q. LegalStep (record { world = here.world; queue = q; peers = here.peers; link = here.link }) two.ones two.first two.mid) queue two.step;
          again = two.commands.0;
          read_given = two.others;
          after = parts.last;
          reads = two.next;
          reading = two.commands.1;
        }

    it : TellsOneOfThree placed.0 (message_of m) two.second
    it = broken_is_read id placed.0 m two.second breaks

    told_so : (message : List ℕ) (writable : Bool) → two.second.answer ≡ Told message writable → told_in run ≡ Some message
    told_so message writable is =
        let ends : run ≡ (parts.entries.es ++ (behind.front ++ two.first ∷ [])) ++ two.second ∷ [] =
        parts.entries.parts ∙ ap (λ x. parts.entries.es ++ x) (behind.parts ∙ ap (λ x. behind.front ++ x) two.is ∙ sym (append_assoc behind.front (two.first ∷ []) (two.second ∷ [])))
        ∙ sym (append_assoc parts.entries.es (behind.front ++ two.first ∷ []) (two.second ∷ [])) in
        ap told_in ends ∙ ap told_if (last_of (parts.entries.es ++ (behind.front ++ two.first ∷ [])) two.second) ∙ ap message_told is

    told : told_in run ≡ Some it.message
    told = told_so it.message it.writable it.told

    -- where no transmission passes
    old_told : i ≡ 0 → told_in run ≡ Some held.0
    unfolding breaks
    old_told first =
        let one = first_broken_is_read id placed.0 m two.second breaks first in
        let same_old : one.old ≡ held.0 =
        same_held one.old held.0 (one_store_form (how_of placed.0) (size_of placed.0) (device_store placed.0) (Message one.old) (Message held.0) one.held held.1) in
        told_so one.old one.writable one.told ∙ ap Some same_old

    three : TellsThree held.0 (message_of m) run
    three =
        let same_old : it.old ≡ held.0 =
        same_held it.old held.0 (one_store_form (how_of placed.0) (size_of placed.0) (device_store placed.0) (Message it.old) (Message held.0) it.held held.1) in
        record { message = it.message; told = told; three = elim it.three [ inl old ↦ inl (old ∙ same_old) | inr other ↦ inr other ] }

  -- the first of them tells what the tag held, and the first run of all writes the message
  old_first : 0 < length r.broken → first_told r.broken ≡ Some held.0
  old_first some = ap told_by_run (slice_get-get_or r.broken 0 [] some) ∙ old_told 0 some refl

  written : written_in r.first ≡ message_of m
  written = ap written_if r.last ∙ ap (λ (e : Entry). message_written e.command) is_write ∙ ap message_written write.command

  empty_told : (i : ℕ) → i < length r.broken → is_neither (first_told r.broken) (written_in r.first) (told_in (get_or r.broken i [])) ≡ true → told_in (get_or r.broken i []) ≡ Some []
  empty_told i within counted =
      let it = three i within in
      let by_old = subst (λ o. is_neither o (written_in r.first) (told_in (get_or r.broken i [])) ≡ true) (old_first (omega (arith, within))) counted in
      let by_new = subst (λ n. is_neither (Some held.0) n (told_in (get_or r.broken i [])) ≡ true) written by_old in
      let by_told = subst (λ o. is_neither (Some held.0) (message_of m) o ≡ true) it.told by_new in
      it.told ∙ ap Some (neither_empty held.0 (message_of m) it.message it.three by_told)

pub swept_is_read : SweptIsRead
swept_is_read lines runs r = ((held lines runs r).0, held_behind lines runs r, (λ i within. three lines runs r i within), old_first lines runs r)

pub neither_is_empty : NeitherIsEmpty
neither_is_empty lines runs r = empty_told lines runs r
