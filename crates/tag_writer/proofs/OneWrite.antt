-- The writes of a message in a store are one list, and so is what a writer asks.
use Rattle.std.proofs.Common.{◌≡◌, inl, inr, ℕ, true, ◌==◌, drop, List, [], ◌∷◌, ◌++◌, map, Option, Some, None, Ok, refl, sym, ◌∙◌, ap, subst, arith}
use Rattle.std.specs.Prelude.{slice_index, Result}
use Rattle.std.proofs.lemmas.Bool.{cases_Bool}
use Rattle.std.proofs.lemmas.List.{ext_get_or}
use Rattle.nfc_base.specs.Signal.{Signal}
use Rattle.nfc_base.specs.TagLinks.{TagState, TagStep}
use Rattle.tlv_area.specs.declared.space.Space.{Space}
use Rattle.tlv_area.specs.declared.step.Step.{Step}
use Rattle.tlv_area.specs.declared.step.Plan.{Plan}
use Rattle.tlv_area.specs.Layout.{bytes_at}
use Rattle.tlv_area.specs.Tail.{message_tail}
use Rattle.tlv_area.specs.Writing.{is_in, IsPut, IsNew, IsPlan, IsStepTo, write_of, made}
use Rattle.tlv_area.proofs.OneForm.{one_layout}
use Rattle.tag_reader.specs.declared.how.How.{How}
use Rattle.tag_reader.specs.declared.how.How.TheVariants.{T2, T4, T5}
use Rattle.tag_reader.specs.Asked.{ToWrite}
use Rattle.tag_reader.specs.Survey.{block_size, surveyed}
use Rattle.tag_reader.proofs.Lists.{one_list_for}
use Rattle.tag_writer.specs.Puts.{Put, commands_of, block_puts}
use Rattle.tag_writer.specs.Place.{TakesNot, IsAreaPlace, tail_place}
use Rattle.tag_writer.specs.WriteAsked.{Parts, all_puts, AreAreaPuts, ArePuts, AreWrites, IsWriteAsked, Writes, up_to_refused, refused_by}
use Rattle.tag_writer.proofs.OnePlace.{order_of, stops_here}
use Rattle.tag_writer.proofs.SameSignals.{lists, signals}

-- bytes put at addresses of a store leave one store
byte_there : (cells new other : List ℕ) (a : ℕ) → bytes_at new cells ≡ bytes_at other cells → is_in cells a ≡ true → slice_index new a ≡ slice_index other a
byte_there [] new other a e there = absurd cc
byte_there (c ∷ cells) new other a e there = elim (cases_Bool (c == a)) [
  | inl here ↦
      (let same : c ≡ a = grind (arith, here) in
      let head : slice_index new c ≡ slice_index other c = cc in
      subst (λ n. slice_index new n ≡ slice_index other n) same head)
  | inr off ↦ (let rest : is_in cells a ≡ true = rw off at there in let tail : bytes_at new cells ≡ bytes_at other cells = cc in byte_there cells new other a tail rest)
]

one_put : (cells old bytes new other : List ℕ) → IsPut cells old new bytes → IsPut cells old other bytes → new ≡ other
one_put cells old bytes new other a b = ext_get_or 0 new other (a.outside.size ∙ sym b.outside.size) (λ i low. elim (cases_Bool (is_in cells i)) [
  | inl there ↦ byte_there cells new other i (a.inside ∙ sym b.inside) there
  | inr off ↦ a.outside.same i off ∙ sym (b.outside.same i off)
])

-- steps that write the same are the same
same_step : (s t : Step) → write_of s ≡ write_of t → s ≡ t
same_step s t e = ap {B = Step} (λ (w : ℕ × List ℕ). record { block = w.0; content = record { items = w.1 } }) e

one_step : (block : ℕ) (now content : List ℕ) (o p : Option Step) → IsStepTo block now content o → IsStepTo block now content p → o ≡ p
one_step block now content None None a b = refl
one_step block now content None (Some t) a b = absurd (b.1 a)
one_step block now content (Some s) None a b = absurd (a.1 b)
one_step block now content (Some s) (Some t) a b = ap (λ x. Some x) (same_step s t (a.0 ∙ sym b.0))

same_steps : (ss ts : List Step) → map write_of ss ≡ map write_of ts → ss ≡ ts
same_steps [] [] e = refl
same_steps [] (t ∷ ts) e = absurd cc
same_steps (s ∷ ss) [] e = absurd cc
same_steps (s ∷ ss) (t ∷ ts) e =
    let head : write_of s ≡ write_of t = cc in
    let tail : map write_of ss ≡ map write_of ts = cc in
    ap (λ x. x ∷ ss) (same_step s t head) ∙ ap (λ xs. t ∷ xs) (same_steps ss ts tail)

one_plan : (size end : ℕ) (tail old message new : List ℕ) (p q : Plan) → IsPlan size end tail old message new p → IsPlan size end tail old message new q → p ≡ q
one_plan size end tail old message new p q a b =
    ap {B = Plan} (λ (o : Option Step). record { close = o; fill = p.fill; last = p.last }) (one_step _ _ _ p.close q.close a.close b.close)
    ∙ ap {B = Plan} (λ (ss : List Step). record { close = q.close; fill = ss; last = p.last }) (same_steps p.fill q.fill (a.fill ∙ sym b.fill))
    ∙ ap {B = Plan} (λ (o : Option Step). record { close = q.close; fill = q.fill; last = o }) (one_step _ _ _ p.last q.last a.last b.last)

parts_are : (p q : Parts) → p.close ≡ q.close → p.fill ≡ q.fill → p.last ≡ q.last → p ≡ q
parts_are p q close fill last =
    ap {B = Parts} (λ (ps : List Put). record { close = ps; fill = p.fill; last = p.last }) close
    ∙ ap {B = Parts} (λ (ps : List Put). record { close = q.close; fill = ps; last = p.last }) fill
    ∙ ap {B = Parts} (λ (ps : List Put). record { close = q.close; fill = q.fill; last = ps }) last

one_area : (how : How) (size : ℕ) (space : Space) (store message : List ℕ) (p q : Parts) → AreAreaPuts how size space store message p → AreAreaPuts how size space store message q → p ≡ q
one_area how size space store message p q a b =
    let place : IsAreaPlace space store message (tail_place (message_tail a.t.at a.after) message) =
    record { ts = a.ts; t = a.t; after = a.after; layout = a.layout; lies = a.lies; kind = a.kind; place' = refl } in
    let one = one_layout space store (order_of space store message _ place) a.ts b.ts (a.t.at ++ a.after) (b.t.at ++ b.after)
    a.layout (stops_here store a.t a.after a.lies a.kind) b.layout (stops_here store b.t b.after b.lies b.kind) in
    let tail : message_tail b.t.at b.after ≡ message_tail a.t.at a.after = sym (ap (λ rest. drop 1 rest) one.1) in
    let new_b : IsNew (message_tail a.t.at a.after) store message b.new = subst (λ cells. IsNew cells store message b.new) tail b.is_new in
    let new : b.new ≡ a.new = one_put _ store _ b.new a.new new_b a.is_new in
    let plan_b : IsPlan (block_size how size) space.end (message_tail a.t.at a.after) store message a.new b.plan =
    subst (λ s. IsPlan (block_size how size) space.end (message_tail a.t.at a.after) store message s b.plan) new
    (subst (λ cells. IsPlan (block_size how size) space.end cells store message b.new b.plan) tail b.is_plan) in
    let plan : a.plan ≡ b.plan = one_plan (block_size how size) space.end (message_tail a.t.at a.after) store message a.new a.plan b.plan a.is_plan plan_b in
    parts_are p q
    (a.close ∙ ap (λ pl. block_puts how size (made pl.close)) plan ∙ sym b.close)
    (a.fill ∙ ap (λ pl. block_puts how size pl.fill) plan ∙ sym b.fill)
    (a.last ∙ ap (λ pl. block_puts how size (made pl.last)) plan ∙ sym b.last)

same_space : {F : Type 0} (r : Space) (s : Space) → ◌≡◌ {A = Result Space F} (Ok r) (Ok s) → r ≡ s
same_space r s e = cc

pub one_parts : (how : How) (size : ℕ) (store message : List ℕ) (p q : Parts) → ArePuts how size store message p → ArePuts how size store message q → p ≡ q
one_parts T2 size store message p q a b =
    one_area T2 size a.0 store message p q a.2 (subst (λ s. AreAreaPuts T2 size s store message q) (same_space b.0 a.0 (sym b.1 ∙ a.1)) b.2)
one_parts T4 size store message p q a b = parts_are p q (a.close ∙ sym b.close) (a.fill ∙ sym b.fill) (a.last ∙ sym b.last)
one_parts (T5 id) size store message p q a b =
    one_area (T5 id) size a.0 store message p q a.2 (subst (λ s. AreAreaPuts (T5 id) size s store message q) (same_space b.0 a.0 (sym b.1 ∙ a.1)) b.2)

-- the commands of the writes, none where the store doesn't take the message
pub one_commands : (how : How) (size : ℕ) (store message : List ℕ) (p q : Parts) → AreWrites how size store message p → AreWrites how size store message q
    → commands_of (all_puts p) ≡ commands_of (all_puts q)
one_commands how size store message p q a b = elim (lists signals (commands_of (all_puts p)) (commands_of (all_puts q))) [
  | inl same ↦ same
  | inr other ↦
      (let not_ : TakesNot how size store message = λ place takes. other (ap (λ x. commands_of (all_puts x)) (one_parts how size store message p q (a.takes place takes) (b.takes place takes))) in
      ap commands_of (a.none not_ ∙ sym (b.none not_)))
]

pub one_write : (how : How) (size : ℕ) (step : TagState → Signal → TagStep) (s : TagState) (message : List ℕ) (xs ys : List Signal) → IsWriteAsked how size step s message xs
    → IsWriteAsked how size step s message ys → xs ≡ ys
one_write how size step s message xs ys a b =
    let read : a.read ≡ b.read = one_list_for ToWrite how size s.store a.read b.read a.all b.all in
    let commands = one_commands how size s.store message a.parts b.parts a.writes b.writes in
    a.list ∙ ap (λ cs. cs ++ up_to_refused how step (surveyed how s) (commands_of (all_puts a.parts))) read
    ∙ ap (λ cs. b.read ++ up_to_refused how step (surveyed how s) cs) commands ∙ sym b.list

-- the code by which the tag refuses, where it does
pub one_refusal : (how : How) (size : ℕ) (step : TagState → Signal → TagStep) (s : TagState) (message : List ℕ) (c d : Option ℕ) → Writes how size step s message c → Writes how size step s message d
    → c ≡ d
one_refusal how size step s message c d a b =
    sym a.refused ∙ ap (λ p. refused_by how step (surveyed how s) (commands_of (all_puts p))) (one_parts how size s.store message a.parts b.parts a.are b.are) ∙ b.refused
