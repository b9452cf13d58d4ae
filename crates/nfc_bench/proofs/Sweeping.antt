-- How a sweep goes on, by how its parts did.
use Rattle.std.proofs.Common.{◌≡◌, ℕ, zero, suc, ◌+◌, ◌-◌, ◌<◌, ◌≤◌, ◌⊎◌, List, [], ◌∷◌, ◌++◌, length, get_or, take, drop, Bool, true, false, Option, Some, None, refl, sym, ◌∙◌, ap, subst}
use Rattle.std.proofs.Common.{append_assoc, arith, inl, inr}
use Rattle.std.specs.Prelude.{IfSome}
use Rattle.std.specs.List.{All}
use Rattle.std.proofs.Math.Seq.{drop-cons, get_or-append_seam}
use Rattle.std.proofs.lemmas.Bool.{cases_Bool}
use Rattle.std.proofs.lemmas.List.{append-nil, length-append, length-take-le, take-append-drop, take_all, take_more, get_or_append_left}
use Rattle.std.proofs.lemmas.List.Elements.{All-append, All-more}
use Rattle.nfc_io.specs.Lines.{lines_of}
use Rattle.bench_script.specs.declared.command.Command.{Command}
use Rattle.bench_script.specs.declared.command.Command.TheVariants.{Fates, Write}
use Rattle.bench_script.specs.Limits.{most_lines, longest_line, AreWithinLimits}
use Rattle.bench_script.specs.Script.{Spells}
use Rattle.bench_script.proofs.Spelling.{spells_one}
use Rattle.bench_world.specs.declared.entry.Entry.{Entry}
use Rattle.bench_world.specs.Legal.{State, first_state}
use Rattle.bench_world.specs.Obeying.{Benched, begun_anew, new_bench}
use Rattle.bench_world.specs.Taking.{AreSpelled}
use Rattle.bench_world.proofs.devices.Shapes.{taken_at}
use Rattle.nfc_bench.specs.declared.top.sweeping.Cut.{Cut}
use Rattle.nfc_bench.specs.declared.top.sweeping.Cut.TheVariants.{Refused, ReadFault, Memory}
use Rattle.nfc_bench.specs.Reading.{Scripted, AreLinesOf, ReadsScript}
use Rattle.nfc_bench.specs.Run.{IsFates, IsWrite, HaveNoFates, IsSwept, IsRunOf, FirstAreObeyed, ObeysFront, AreRuns, HasSwept, HasSweptSome, FirstUnswept, LastUnwritten, IsUnwritten, Unsweeps}
use Rattle.nfc_bench.specs.Run.{SweepsSome, MaySweep, StopsAt}
use Rattle.nfc_bench.specs.Stops.{FirstUntaken, ObeyedBy}
use Rattle.nfc_bench.specs.Sweep.{Swept, sweep_lines, read_line, all_transmissions}
use Rattle.nfc_bench.specs.SweepStops.{is_fates, is_write, Stands, MayStand, MayNotStand, StandsTo, ObeysSwept, FirstWithin, ScriptStops, BeginsSweep, AreSweptLines, HasBroken, HasBrokenAll}
use Rattle.nfc_bench.specs.SweepStops.{HasBrokenSome, SweepStops, SweepRefused}
use Rattle.nfc_bench.proofs.Limits.{all_at, IsShort, no_limits}
use Rattle.nfc_bench.proofs.Endings.{done_taken, none_obeyed}
use Rattle.nfc_bench.proofs.Progress.{stops_none}

-- A front of a list keeps what holds of each item.
pub all_front : {X : Type 0} (P : X → Type 0) (xs ys : List X) → All P (xs ++ ys) → All P xs
all_front P xs ys all k d small = subst P (get_or_append_left xs ys d k small) (all k d (omega (arith, small, length-append xs ys)))

pub limits_front : (front rest : List (List ℕ)) → AreWithinLimits (front ++ rest) → AreWithinLimits front
limits_front front rest limits =
    let few : length (front ++ rest) ≤ most_lines = limits.few in
    record { few = omega (arith, few, length-append front rest); short = all_front IsShort front rest limits.short }

-- A line's command tells whether it may stand in a script that is swept.
write_of : (line : List ℕ) (c : Command) → Spells line c → is_write c ≡ true → IsWrite line
write_of line (Write id message) s is = (id, message, s)
write_of line c s is = absurd cc

pub may_stand : (is_last : Bool) (line : List ℕ) (c : Command) → Spells line c → is_fates c ≡ false → (is_last ≡ true → is_write c ≡ true) → MayStand is_last line
may_stand is_last line c s none last = (
  λ is. let same : Fates is.0 ≡ c = spells_one line (Fates is.0) c is.1 s in let clash : true ≡ false = ap is_fates same ∙ none in absurd cc,
  λ is. write_of line c s (last is),
)

pub no_write : (line : List ℕ) (c : Command) → Spells line c → is_write c ≡ false → IsWrite line → ⊥
no_write line c s none is =
    let same : Write is.0 is.1 ≡ c = spells_one line (Write is.0 is.1) c is.2 s in
    let clash : true ≡ false = ap is_write same ∙ none in
    absurd cc

fates_of : (line : List ℕ) (c : Command) → Spells line c → is_fates c ≡ true → IsFates line
fates_of line (Fates fates) s is = (fates, s)
fates_of line c s is = absurd cc

pub may_not_fates : (is_last : Bool) (line : List ℕ) (c : Command) → Spells line c → is_fates c ≡ true → MayNotStand is_last line
may_not_fates is_last line c s is = inr (inl (fates_of line c s is))

-- whether it is the last line, and a write
pub stands_by : (is_last : Bool) (line : List ℕ) (c : Command) → Spells line c → is_fates c ≡ false → (is_last ≡ true → ⊥) ⊎ (is_write c ≡ true) → Stands is_last line true
stands_by is_last line c s none (inl inner) = may_stand is_last line c s none (λ is. absurd (inner is))
stands_by is_last line c s none (inr write) = may_stand is_last line c s none (λ _. write)

stands_not : (is_last : Bool) (line : List ℕ) (c : Command) → Spells line c → is_last ≡ true → is_write c ≡ false → Stands is_last line false
stands_not is_last line c s last none = inr (inr (last, no_write line c s none))

pub stands_last : (is_last : Bool) (line : List ℕ) (c : Command) → Spells line c → is_fates c ≡ false → is_last ≡ true → (v : Bool) → v ≡ is_write c → Stands is_last line v
stands_last is_last line c s none last true is = stands_by is_last line c s none (inr (sym is))
stands_last is_last line c s none last false is = stands_not is_last line c s last (sym is)

-- One line more may stand in a script.
pub record Standing (s : Scripted) (n : ℕ) : Type 0 where
  pub none : HaveNoFates (take n s.lines)
  pub write : n ≡ length s.lines → 0 < n → s.is_cut ≡ false → IsWrite (get_or s.lines (n - 1) [])

pub standing_more : (s : Scripted) (place : ℕ) (is_last : Bool) → place < length s.lines → HaveNoFates (take place s.lines) → MayStand is_last (get_or s.lines place [])
    → (place + 1 ≡ length s.lines → s.is_cut ≡ false → is_last ≡ true) → Standing s (place + 1)
standing_more s place is_last within none may last = record {
  none = All-more (λ x. IsFates x → ⊥) s.lines place [] within none may.0;
  write = λ size some whole. subst (λ n. IsWrite (get_or s.lines n [])) (let same : place ≡ place + 1 - 1 = omega arith in same) (may.1 (last size whole));
}

-- Where all lines were obeyed, the first are.
pub front_all : (lines : List (List ℕ)) (b : Benched) → ObeyedBy lines b → FirstAreObeyed lines b
front_all lines b o = record { front = lines; rest = []; parts = sym (append-nil lines); obeyed = o.obeyed; stops = stops_none lines [] b o.obeyed.run.legal.last o }

-- more lines behind those before which a bench stands
stops_more : (rest more : List (List ℕ)) (last : State) (b : Benched) → StopsAt rest last b → StopsAt (rest ++ more) last b
stops_more rest more last b s = record {
  sound = s.sound;
  spoiled = λ is.
      let c = s.spoiled is in
      record {
        line = c.line;
        after = c.after ++ more;
        parts = ap (λ x. x ++ more) c.parts;
        command = c.command;
        spelled = c.spelled;
        front = c.front;
        stores = c.stores;
      };
}

-- a list that isn't empty, parted before its last item
pub parted_last : (lines : List (List ℕ)) (n : ℕ) → length lines ≡ n + 1 → lines ≡ take n lines ++ get_or lines n [] ∷ []
parted_last lines n size = sym (take_all (n + 1) lines (omega (arith, size))) ∙ take_more lines n [] (omega (arith, size))

-- The runs of the sweep of a bench that obeyed its script.
abbrev pub swept_script : (s : Scripted) (b : Benched) (l : Swept) → ObeysSwept s b → AreSweptLines s.lines l
    → (m : IsSwept s.lines) × (m.before ≡ l.before) × (m.last ≡ l.last) × (read_line m.id ≡ l.read)
swept_script s b l o a = (
  record {
    before = l.before;
    last = l.last;
    parts = a.parts;
    none = all_front (λ x. IsFates x → ⊥) l.before (l.last ∷ []) (subst HaveNoFates a.parts o.none);
    id = a.id;
    message = a.message;
    spelled = a.spelled;
  },
  refl,
  refl,
  sym a.read,
)

-- before the first Break
pub broken_none : (l : Swept) (b : Benched) → b ≡ begun_anew b.finished → HasBrokenAll l 0 b b
broken_none l b anew = record {
  by = record { broken = []; runs = sym (append-nil b.finished); each = λ i within. absurd (omega (arith, within)) };
  all = refl;
  anew = anew ∙ ap begun_anew (sym (append-nil b.finished));
}

each_more : (l : Swept) (broken : List (List Entry)) (run : List Entry) → ((i : ℕ) → i < length broken → IsRunOf (sweep_lines l.before l.last l.read i) (get_or broken i []))
    → IsRunOf (sweep_lines l.before l.last l.read (length broken)) run
    → (i : ℕ) → i < length (broken ++ run ∷ []) → IsRunOf (sweep_lines l.before l.last l.read i) (get_or (broken ++ run ∷ []) i [])
each_more l broken run each is i within =
    by_place (cases i (length broken) (omega (arith, within, length-append broken (run ∷ []))))
  where
    cases : (i n : ℕ) → i < n + 1 → (i < n) ⊎ (i ≡ n)
    cases zero zero p = inr refl
    cases zero (suc n) p = inl (omega arith)
    cases (suc i) zero p = absurd (omega (arith, p))
    cases (suc i) (suc n) p = elim (cases i n (omega (arith, p))) [ inl less ↦ inl (omega (arith, less)) | inr same ↦ inr (ap suc same) ]

    by_place : (i < length broken) ⊎ (i ≡ length broken) → IsRunOf (sweep_lines l.before l.last l.read i) (get_or (broken ++ run ∷ []) i [])
    by_place (inl less) = subst (IsRunOf (sweep_lines l.before l.last l.read i)) (sym (get_or_append_left broken (run ∷ []) [] i less)) (each i less)
    by_place (inr same) =
        subst (λ k. IsRunOf (sweep_lines l.before l.last l.read k) (get_or (broken ++ run ∷ []) k [])) (sym same)
        (subst (IsRunOf (sweep_lines l.before l.last l.read (length broken))) (sym (get_or-append_seam broken run [] [])) is)

-- one run more is finished
pub broken_more : (l : Swept) (n : ℕ) (old b b1 b2 : Benched) → HasBrokenAll l n old b → ObeyedBy (sweep_lines l.before l.last l.read n) b1 → b1.finished ≡ b.finished
    → b2 ≡ begun_anew (b1.finished ++ b1.journal ∷ []) → HasBrokenAll l (n + 1) old b2
broken_more l n old b b1 b2 h o same anew =
    let broken : List (List Entry) = h.by.broken in
    let size : length broken ≡ n = h.all in
    let runs : b1.finished ++ b1.journal ∷ [] ≡ old.finished ++ (broken ++ b1.journal ∷ []) =
    ap (λ x. x ++ b1.journal ∷ []) (same ∙ h.by.runs) ∙ append_assoc old.finished broken (b1.journal ∷ []) in
    record {
      by = record {
        broken = broken ++ b1.journal ∷ [];
        runs = ap (λ (x : Benched). x.finished) anew ∙ runs;
        each = each_more l broken b1.journal h.by.each (subst (λ k. IsRunOf (sweep_lines l.before l.last l.read k) b1.journal) (sym size) o.obeyed.run);
      };
      all = omega (arith, size, length-append broken (b1.journal ∷ []));
      anew = anew ∙ ap begun_anew runs;
    }

-- the next one isn't
pub broken_some : (l : Swept) (n count : ℕ) (old b b1 : Benched) → HasBrokenAll l n old b → n < count → b1.finished ≡ b.finished → FirstAreObeyed (sweep_lines l.before l.last l.read n) b1
    → HasBrokenSome l count old b1
broken_some l n count old b b1 h few same front =
    let size : length h.by.broken ≡ n = h.all in
    record {
      by = record { broken = h.by.broken; runs = same ∙ h.by.runs; each = h.by.each };
      few = omega (arith, few, size);
      next = subst (λ k. FirstAreObeyed (sweep_lines l.before l.last l.read k) b1) (sym size) front;
    }

-- The finished runs are the first of the sweep.
pub runs_of : (s : Scripted) (count : ℕ) (old b1 b2 : Benched) (l : Swept) → BeginsSweep s count old → AreSweptLines s.lines l → b1 ≡ begun_anew (old.finished ++ old.journal ∷ [])
    → (h : HasBroken l b1 b2) → length h.broken ≤ count
    → (r : AreRuns s.lines b2.finished) × (r.broken ≡ h.broken) × (all_transmissions r.write.events ≡ count)
    × (sweep_lines r.script.before r.script.last (read_line r.script.id) ≡ sweep_lines l.before l.last l.read)
runs_of s count old b1 b2 l begins a anew h few =
    let m = swept_script s old l begins.obeys a in
    let w = begins.written in
    let size : count ≡ all_transmissions w.write.events = w.count in
    let first : b1.finished ≡ old.journal ∷ [] = ap (λ (x : Benched). x.finished) anew ∙ ap (λ x. x ++ old.journal ∷ []) begins.runs in
    let lines : sweep_lines l.before l.last l.read ≡ sweep_lines l.before l.last (read_line a.id) = ap (λ r. sweep_lines l.before l.last r) a.read in (
      record {
        script = m.0;
        first = old.journal;
        broken = h.broken;
        parts = h.runs ∙ ap (λ x. x ++ h.broken) first;
        run = begins.obeys.obeyed.obeyed.run;
        write = w.write;
        last = w.last;
        written = w.written;
        few = omega (arith, few, size);
        each = λ i within. subst (λ f. IsRunOf (f i) (get_or h.broken i [])) lines (h.each i within);
      },
      refl,
      sym size,
      sym lines,
    )

-- all of them
pub swept_all : (s : Scripted) (count : ℕ) (old b1 b2 : Benched) (l : Swept) → BeginsSweep s count old → AreSweptLines s.lines l → b1 ≡ begun_anew (old.finished ++ old.journal ∷ [])
    → HasBrokenAll l count b1 b2 → HasSwept s.lines b2
swept_all s count old b1 b2 l begins a anew h =
    let size : length h.by.broken ≡ count = h.all in
    let it = runs_of s count old b1 b2 l begins a anew h.by (omega (arith, size)) in
    record {
      runs = it.0;
      all = ap length it.1 ∙ size ∙ sym it.2;
      journal = ap (λ (x : Benched). x.journal) h.anew;
    }

-- ... are some of them
pub all_some : (lines : List (List ℕ)) (b : Benched) → HasSwept lines b → HasSweptSome lines b
all_some lines b h =
    let all : length h.runs.broken ≡ all_transmissions h.runs.write.events = h.all in
    record { runs = h.runs; next = λ less. absurd (omega (arith, all, less)); over = λ _. h.journal }

-- not all
pub swept_some : (s : Scripted) (count : ℕ) (old b1 b2 : Benched) (l : Swept) → BeginsSweep s count old → AreSweptLines s.lines l → b1 ≡ begun_anew (old.finished ++ old.journal ∷ [])
    → HasBrokenSome l count b1 b2 → HasSweptSome s.lines b2
swept_some s count old b1 b2 l begins a anew h =
    let few : length h.by.broken < count = h.few in
    let it = runs_of s count old b1 b2 l begins a anew h.by (omega (arith, few)) in
    let broken : length it.0.broken ≡ length h.by.broken = ap length it.1 in
    let size : all_transmissions it.0.write.events ≡ count = it.2 in
    record {
      runs = it.0;
      next = λ less. subst (λ k. FirstAreObeyed (sweep_lines it.0.script.before it.0.script.last (read_line it.0.script.id) k) b2) (sym broken)
          (subst (λ f. FirstAreObeyed (f (length h.by.broken)) b2) (sym it.3) h.next);
      over = λ all. absurd (omega (arith, all, broken, size, few));
    }

-- What stands behind the lines of a script that were read.
record TailOf (s : Scripted) (lines : List (List ℕ)) : Type 0 where
  pub tail : List (List ℕ)
  pub parts : lines ≡ s.lines ++ tail
  pub none : s.is_cut ≡ false → tail ≡ []

tail_of : (s : Scripted) (lines : List (List ℕ)) → AreLinesOf s lines → TailOf s lines
tail_of s lines a = elim (cases_Bool s.is_cut) [
  | inl is ↦ (let c = a.cut is in record { tail = c.line ∷ c.after; parts = c.parts; none = λ going. let clash : true ≡ false = sym is ∙ going in absurd cc })
  | inr ends ↦ record { tail = []; parts = a.whole ends ∙ sym (append-nil s.lines); none = λ _. refl }
]

-- A line isn't taken.
pub untaken_unswept : (s : Scripted) (lines : List (List ℕ)) (n k : ℕ) (b : Benched) → AreLinesOf s lines → HaveNoFates (take n s.lines) → FirstUntaken (take n s.lines) b k → FirstUnswept lines b k
untaken_unswept s lines n k b a none f =
    let t = tail_of s lines a in
    let parts : s.lines ≡ f.before ++ (f.line ∷ (f.after ++ drop n s.lines)) =
    sym (take-append-drop n s.lines) ∙ ap (λ x. x ++ drop n s.lines) f.parts ∙ append_assoc f.before (f.line ∷ f.after) (drop n s.lines) in
    record {
      before = f.before;
      line = f.line;
      after = (f.after ++ drop n s.lines) ++ t.tail;
      parts = t.parts ∙ ap (λ x. x ++ t.tail) parts ∙ append_assoc f.before (f.line ∷ (f.after ++ drop n s.lines)) t.tail;
      commands = f.commands;
      taken = f.taken;
      limits = limits_front f.before (f.line ∷ (f.after ++ drop n s.lines)) (subst (λ ls. AreWithinLimits ls) parts a.limits);
      none = all_front (λ x. IsFates x → ⊥) f.before (f.line ∷ f.after) (subst HaveNoFates f.parts none);
      obeyed = f.obeyed.obeyed;
      number = f.number;
      unswept = inl (inr (inr f.refused));
    }

-- Memory was wanting.
pub front_within : (s : Scripted) (lines : List (List ℕ)) (n : ℕ) (b : Benched) → AreLinesOf s lines → FirstAreObeyed (take n s.lines) b → FirstWithin lines b
front_within s lines n b a f =
    let t = tail_of s lines a in
    let parts : s.lines ≡ f.front ++ (f.rest ++ drop n s.lines) =
    sym (take-append-drop n s.lines) ∙ ap (λ x. x ++ drop n s.lines) f.parts ∙ append_assoc f.front f.rest (drop n s.lines) in
    record {
      obeyed = record {
        front = f.front;
        rest = (f.rest ++ drop n s.lines) ++ t.tail;
        parts = t.parts ∙ ap (λ x. x ++ t.tail) parts ∙ append_assoc f.front (f.rest ++ drop n s.lines) t.tail;
        obeyed = f.obeyed;
        stops = stops_more (f.rest ++ drop n s.lines) t.tail f.obeyed.run.legal.last b (stops_more f.rest (drop n s.lines) f.obeyed.run.legal.last b f.stops);
      };
      limits = limits_front f.front (f.rest ++ drop n s.lines) (subst (λ ls. AreWithinLimits ls) parts a.limits);
    }

nil_list : (xs : List (List ℕ)) → length xs ≡ 0 → xs ≡ []
nil_list [] e = refl
nil_list (x ∷ xs) e = absurd (omega (arith, e))

drop_past : (k : ℕ) (xs : List (List ℕ)) → length xs ≤ k → drop k xs ≡ []
drop_past zero [] few = refl
drop_past zero (x ∷ xs) few = absurd (omega (arith, few))
drop_past (suc k) [] few = refl
drop_past (suc k) (x ∷ xs) few = drop_past k xs (omega (arith, few))

-- A line may not stand in a script that is swept; those before it were obeyed.
may_not_unswept : (s : Scripted) (lines : List (List ℕ)) (n : ℕ) (b : Benched) → AreLinesOf s lines → StandsTo s n → ObeyedBy (take n s.lines) b → n < length s.lines → FirstUnswept lines b (n + 1)
may_not_unswept s lines n b a st o less =
    let t = tail_of s lines a in
    let before : List (List ℕ) = take n s.lines in
    let line : List ℕ = get_or s.lines n [] in
    let size : length before ≡ n = length-take-le n s.lines (omega (arith, less)) in
    let parts : s.lines ≡ before ++ (line ∷ drop (suc n) s.lines) = sym (take-append-drop n s.lines) ∙ ap (λ x. before ++ x) (drop-cons s.lines n [] less) in
    let (is_last, at, why) = st.stop less in
    let it = done_taken before b o in
    record {
      before = before;
      line = line;
      after = drop (suc n) s.lines ++ t.tail;
      parts = t.parts ∙ ap (λ x. x ++ t.tail) parts ∙ append_assoc before (line ∷ drop (suc n) s.lines) t.tail;
      commands = it.commands;
      taken = it.taken;
      limits = limits_front before (line ∷ drop (suc n) s.lines) (subst (λ ls. AreWithinLimits ls) parts a.limits);
      none = st.none;
      obeyed = o.obeyed;
      number = omega (arith, size);
      unswept = elim why [
        | inl spells_none ↦ inl (inr (inr (λ is. spells_none is.0 is.1)))
        | inr other ↦ (elim other [
          | inl fates ↦ inr (inl fates)
          | inr (is, other_than) ↦ inr (inr (behind_none (at is).0 ((at is).1), other_than))
        ])
      ];
    }
  where
    behind_none : n + 1 ≡ length s.lines → s.is_cut ≡ false → drop (suc n) s.lines ++ (tail_of s lines a).tail ≡ []
    behind_none size whole = ap (λ x. x ++ (tail_of s lines a).tail) (drop_past (suc n) s.lines (omega (arith, size))) ∙ (tail_of s lines a).none whole

-- All lines that were read were obeyed, but the next is too many or too long.
cut_unswept : (s : Scripted) (lines : List (List ℕ)) (n : ℕ) (b : Benched) → AreLinesOf s lines → StandsTo s n → ObeyedBy (take n s.lines) b → n ≡ length s.lines → s.is_cut ≡ true
    → FirstUnswept lines b (n + 1)
cut_unswept s lines n b a st o size is =
    let all : take n s.lines ≡ s.lines = take_all n s.lines (omega (arith, size)) in
    let c = a.cut is in
    let here : ObeyedBy s.lines b = subst (λ ls. ObeyedBy ls b) all o in
    let it = done_taken s.lines b here in
    record {
      before = s.lines;
      line = c.line;
      after = c.after;
      parts = c.parts;
      commands = it.commands;
      taken = it.taken;
      limits = a.limits;
      none = subst HaveNoFates all st.none;
      obeyed = here.obeyed;
      number = omega (arith, size);
      unswept = inl (elim c.beyond [ inl many ↦ inl (omega (arith, many, size)) | inr long ↦ inr (inl long) ]);
    }

-- The lines that may stand in a script were obeyed, but it isn't swept.
pub not_swept : (s : Scripted) (lines : List (List ℕ)) (n : ℕ) (b : Benched) → AreLinesOf s lines → StandsTo s n → ObeyedBy (take n s.lines) b
    → (n ≡ length s.lines → s.is_cut ≡ false → 0 < n → ⊥) → ScriptStops lines b (Refused (n + 1))
not_swept s lines n b a st o unswept = by_count (cases n (length s.lines) st.within) (cases_Bool s.is_cut)
  where
    cases : (i k : ℕ) → i ≤ k → (i < k) ⊎ (i ≡ k)
    cases zero zero p = inr refl
    cases zero (suc k) p = inl (omega arith)
    cases (suc i) zero p = absurd (omega (arith, p))
    cases (suc i) (suc k) p = elim (cases i k (omega (arith, p))) [ inl less ↦ inl (omega (arith, less)) | inr same ↦ inr (ap suc same) ]

    by_size : (k : ℕ) → n ≡ k → n ≡ length s.lines → s.is_cut ≡ false → ScriptStops lines b (Refused (n + 1))
    by_size zero none size whole =
        let empty : s.lines ≡ [] = nil_list s.lines (omega (arith, none, size)) in
        inr (a.whole whole ∙ empty, omega (arith, none), (subst (λ ls. ObeyedBy ls b) (nil_list (take n s.lines) (omega (arith, none, length-take-le n s.lines (omega (arith, size))))) o).obeyed)
    by_size (suc k) some size whole = absurd (unswept size whole (omega (arith, some)))

    by_count : (n < length s.lines) ⊎ (n ≡ length s.lines) → (s.is_cut ≡ true) ⊎ (s.is_cut ≡ false) → ScriptStops lines b (Refused (n + 1))
    by_count (inl less) c = inl (may_not_unswept s lines n b a st o less)
    by_count (inr size) (inl is) = inl (cut_unswept s lines n b a st o size is)
    by_count (inr size) (inr whole) = by_size n refl size whole

-- nothing was obeyed
pub none_within : (lines : List (List ℕ)) (b : Benched) → b ≡ new_bench → FirstWithin lines b
none_within lines b new = subst (FirstWithin lines) (sym new) (record { obeyed = none_obeyed [] lines; limits = no_limits })

-- the source's bytes are the input
told_input : (left left' : Option (List ℕ)) (input : List ℕ) (c : Bool) → IfSome left (λ bytes. (input ≡ bytes) × (c ≡ false → left' ≡ Some [])) → IfSome left (λ bytes. input ≡ bytes)
told_input None left' input c told = tt
told_input (Some bytes) left' input c told = told.0

pub read_told : (left left' : Option (List ℕ)) (s : Scripted) → (r : ReadsScript left left' s) → IfSome left (λ bytes. r.input ≡ bytes)
read_told left left' s r = told_input left left' r.input s.is_cut r.told

-- why the first run stopped is why the sweep did
pub script_stops : (left left' : Option (List ℕ)) (s : Scripted) (r r' : ℕ) (b : Benched) (cut : Cut) → (rs : ReadsScript left left' s) → b.finished ≡ [] → ScriptStops (lines_of rs.input) b cut
    → SweepStops left r r' b cut
script_stops left left' s r r' b (Refused n) rs runs stops = record {
  input = rs.input;
  told = read_told left left' s rs;
  line = elim stops [ inl f ↦ inl f | inr e ↦ inr (inr e) ];
  runs = runs;
}
script_stops left left' s r r' b ReadFault rs runs stops = absurd stops
script_stops left left' s r r' b Memory rs runs stops = inl (runs, record { input = rs.input; told = read_told left left' s rs; obeyed = stops.obeyed; limits = stops.limits })

-- the lines of the input are those of the script
pub whole_lines_are : (left left' : Option (List ℕ)) (s : Scripted) → s.is_cut ≡ false → (rs : ReadsScript left left' s) → lines_of rs.input ≡ s.lines
whole_lines_are left left' s whole rs = rs.lines.whole whole

-- the last answer isn't `written`
pub unwritten_stops : (left left' : Option (List ℕ)) (s : Scripted) (b : Benched) → ReadsScript left left' s → ObeysSwept s b → b.finished ≡ [] → IsUnwritten b.journal
    → SweepRefused left b (length s.lines)
unwritten_stops left left' s b rs o runs unwritten =
    let size : length s.lines ≡ (length s.lines - 1) + 1 = (let some : 0 < length s.lines = o.some in omega (arith, some)) in
    let last : List ℕ = get_or s.lines (length s.lines - 1) [] in
    let parts : s.lines ≡ take (length s.lines - 1) s.lines ++ last ∷ [] = parted_last s.lines (length s.lines - 1) size in
    let m : IsSwept s.lines = record {
      before = take (length s.lines - 1) s.lines;
      last = last;
      parts = parts;
      none = all_front (λ x. IsFates x → ⊥) (take (length s.lines - 1) s.lines) (last ∷ []) (subst HaveNoFates parts o.none);
      id = o.write.0;
      message = o.write.1;
      spelled = o.write.2;
    } in
    let it : LastUnwritten s.lines b (length s.lines) = record { script = m; limits = rs.lines.limits; obeyed = o.obeyed.obeyed; number = refl; unwritten = unwritten } in
    record {
      input = rs.input;
      told = read_told left left' s rs;
      line = inr (inl (subst (λ ls. LastUnwritten ls b (length s.lines)) (sym (whole_lines_are left left' s o.whole rs)) it));
      runs = runs;
    }

-- memory was wanting behind the first run, which is obeyed whole
pub first_whole : (left left' : Option (List ℕ)) (s : Scripted) (b : Benched) → ReadsScript left left' s → s.is_cut ≡ false → FirstAreObeyed s.lines b → ObeysFront left b
first_whole left left' s b rs whole f =
    let W : List (List ℕ) → Type 0 = λ ls. AreWithinLimits ls in
    let it : FirstAreObeyed (lines_of rs.input) b = subst (λ ls. FirstAreObeyed ls b) (sym (whole_lines_are left left' s whole rs)) f in
    record {
      input = rs.input;
      told = read_told left left' s rs;
      obeyed = it;
      limits = limits_front it.front it.rest (subst W (sym (whole_lines_are left left' s whole rs) ∙ it.parts) rs.lines.limits);
    }

-- ... or behind some more
pub some_swept : (left left' : Option (List ℕ)) (s : Scripted) (b : Benched) → ReadsScript left left' s → s.is_cut ≡ false → HasSweptSome s.lines b → SweepsSome left b
some_swept left left' s b rs whole h =
    let same : s.lines ≡ lines_of rs.input = sym (whole_lines_are left left' s whole rs) in
    record {
      input = rs.input;
      told = read_told left left' s rs;
      limits = subst (λ ls. AreWithinLimits ls) same rs.lines.limits;
      swept = subst (λ ls. HasSweptSome ls b) same h;
    }

-- Where a script may be swept and its last answer is always `written`, no line is refused.
no_fates_at_all : (lines : List (List ℕ)) → IsSwept lines → HaveNoFates lines
no_fates_at_all lines m =
    let other : IsFates m.last → ⊥ = λ is. let same : Fates is.0 ≡ Write m.id m.message = spells_one m.last (Fates is.0) (Write m.id m.message) is.1 m.spelled in absurd cc in
    let P : List ℕ → Type 0 = λ x. IsFates x → ⊥ in
    subst HaveNoFates (sym m.parts) (All-append P m.before (m.last ∷ []) m.none (λ k d within. one P m.last other k d within))
  where
    one : (P : List ℕ → Type 0) (x : List ℕ) → P x → (k : ℕ) (d : List ℕ) → k < 1 → P (get_or (x ∷ []) k d)
    one P x p zero d within = p
    one P x p (suc k) d within = absurd (omega (arith, within))

last_same : (xs ys : List (List ℕ)) (x y : List ℕ) → xs ++ x ∷ [] ≡ ys ++ y ∷ [] → x ≡ y
last_same xs ys x y e =
    let size : length xs ≡ length ys = omega (arith, ap length e, length-append xs (x ∷ []), length-append ys (y ∷ [])) in
    sym (get_or-append_seam xs x [] []) ∙ ap (λ l. get_or l (length xs) []) e ∙ ap (λ n. get_or (ys ++ y ∷ []) n []) size ∙ get_or-append_seam ys y [] []

not_unswept : (lines : List (List ℕ)) (b : Benched) (n : ℕ) → MaySweep lines → FirstUnswept lines b n → ⊥
not_unswept lines b n m f =
    let number : n ≡ 1 + length f.before = f.number in
    let few : length lines ≤ most_lines = m.all.limits.few in
    let size : length lines ≡ length f.before + length (f.line ∷ f.after) = ap length f.parts ∙ length-append f.before (f.line ∷ f.after) in
    let short : length f.line ≤ longest_line = all_at f.before f.after f.line (subst (λ ls. All IsShort ls) f.parts m.all.limits.short) in
    let spelled : AreSpelled (f.before ++ f.line ∷ f.after) m.all.commands = subst (λ ls. AreSpelled ls m.all.commands) f.parts m.all.taken.spelled in
    let none : HaveNoFates (f.before ++ f.line ∷ f.after) = subst HaveNoFates f.parts (no_fates_at_all lines m.script) in
    let here : IsFates f.line → ⊥ = subst (λ l. IsFates l → ⊥) (get_or-append_seam f.before f.line f.after []) (none (length f.before) [] (omega (arith, length-append f.before (f.line ∷ f.after)))) in
    elim f.unswept [
      | inl refused ↦ (
          elim refused [
            | inl many ↦ omega (arith, many, number, few, size)
            | inr why ↦ (
                elim why [
                  | inl long ↦ omega (arith, long, short)
                  | inr nothing ↦ nothing (taken_at first_state f.before f.line f.after m.all.commands f.commands spelled m.all.taken.accepted f.taken.spelled)
                ])
          ])
      | inr other ↦ (
          elim other [
            | inl fates ↦ here fates
            | inr (none_behind, other_than) ↦ (
                let parts : f.before ++ f.line ∷ [] ≡ m.script.before ++ m.script.last ∷ [] = ap (λ x. f.before ++ f.line ∷ x) (sym none_behind) ∙ sym f.parts ∙ m.script.parts in
                other_than (
                  m.script.id,
                  m.script.message,
                  subst (λ l. Spells l (Write m.script.id m.script.message)) (sym (last_same f.before m.script.before f.line m.script.last parts))
                      m.script.spelled,
                ))
          ])
    ]

swept_not_refused : (lines : List (List ℕ)) (b : Benched) (n : ℕ) → MaySweep lines → Unsweeps lines b n → ⊥
swept_not_refused lines b n m (inl f) = not_unswept lines b n m f
swept_not_refused lines b n m (inr (inl u)) =
    let w = m.written b.journal u.obeyed.run in u.unwritten w.0 w.1 w.2
swept_not_refused lines b n m (inr (inr e)) =
    let size : length lines ≡ length m.script.before + 1 = ap length m.script.parts ∙ length-append m.script.before (m.script.last ∷ []) in
    omega (arith, size, ap length e.0)

pub sweep_not_refused : (left : Option (List ℕ)) (bytes : List ℕ) (b : Benched) (n : ℕ) → left ≡ Some bytes → MaySweep (lines_of bytes) → SweepRefused left b n → ⊥
sweep_not_refused left bytes b n is m r =
    let P : Option (List ℕ) → Type 0 = λ o. IfSome o (λ x. r.input ≡ x) in
    let same : r.input ≡ bytes = subst P is r.told in
    swept_not_refused (lines_of bytes) b n m (subst (λ x. Unsweeps (lines_of x) b n) same r.line)
