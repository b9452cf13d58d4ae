-- A journal gains an entry, and the lines that it is for one more line.
use Rattle.std.proofs.Common.{◌≡◌, ℕ, ◌+◌, ◌<◌, ◌≤◌, List, [], ◌∷◌, ◌++◌, append-nil, length, Bool, true, false, if◌then◌else◌, refl, sym, ◌∙◌, ap, subst, arith}
use Rattle.std.specs.List.{AllByRecursion}
use Rattle.bench_script.specs.declared.command.Command.{Command}
use Rattle.bench_script.specs.declared.command.Command.TheVariants.{Skip}
use Rattle.bench_script.specs.Script.{Spells, is_skipped}
use Rattle.bench_script.proofs.Spelling.{spells_one}
use Rattle.bench_world.specs.declared.entry.Entry.{Entry}
use Rattle.bench_world.specs.Journal.{AreEntriesOf, NumberedLine, asking_lines}
use Rattle.bench_world.specs.Legal.{EachLegal, Given, LegalStep, State}
use Rattle.bench_world.specs.Showing.{IsBetweenCommands, MayShow}

-- each entry is legal, and so are some more
pub each_more : (s m t : State) (gs hs : List Given) (es ds : List Entry) → EachLegal s gs es m → EachLegal m hs ds t → EachLegal s (gs ++ hs) (es ++ ds) t
each_more s m t [] hs [] ds p q = subst (λ x. EachLegal x hs ds t) p q
each_more s m t [] hs (e ∷ es) ds p q = absurd p
each_more s m t (g ∷ gs) hs [] ds p q = absurd p
each_more s m t (g ∷ gs) hs (e ∷ es) ds p q = (p.0, p.1, each_more p.0 m t gs hs es ds p.2 q)

-- one more
pub each_legal_more : (s m t : State) (gs : List Given) (es : List Entry) (g : Given) (e : Entry) → EachLegal s gs es m → LegalStep m g e t → EachLegal s (gs ++ g ∷ []) (es ++ e ∷ []) t
each_legal_more s m t gs es g e p step = each_more s m t gs (g ∷ []) es (e ∷ []) p (t, step, refl)

-- Each entry is legal, in a state that a bench has between two commands, and its numbers show.
abbrev pub EachShown : State → List Given → List Entry → State → Type 0
EachShown s [] [] t = t ≡ s
EachShown s (g ∷ gs) (e ∷ es) t = (mid : State) × IsBetweenCommands s × MayShow s e.command × LegalStep s g e mid × EachShown mid gs es t
EachShown s [] (e ∷ es) t = ⊥
EachShown s (g ∷ gs) [] t = ⊥

pub shown_more : (s m t : State) (gs : List Given) (es : List Entry) (g : Given) (e : Entry) → EachShown s gs es m → IsBetweenCommands m → MayShow m e.command → LegalStep m g e t
    → EachShown s (gs ++ g ∷ []) (es ++ e ∷ []) t
shown_more s m t [] [] g e p between shows step = subst (λ x. EachShown x (g ∷ []) (e ∷ []) t) p (t, between, shows, step, refl)
shown_more s m t [] (d ∷ es) g e p between shows step = absurd p
shown_more s m t (h ∷ gs) [] g e p between shows step = absurd p
shown_more s m t (h ∷ gs) (d ∷ es) g e p between shows step = (p.0, p.1, p.2, p.3, shown_more p.0 m t gs es g e p.4 between shows step)

pub shown_legal : (s t : State) (gs : List Given) (es : List Entry) → EachShown s gs es t → EachLegal s gs es t
shown_legal s t [] [] p = p
shown_legal s t [] (e ∷ es) p = absurd p
shown_legal s t (g ∷ gs) [] p = absurd p
shown_legal s t (g ∷ gs) (e ∷ es) p = (p.0, p.3, shown_legal p.0 t gs es p.4)

-- the lines that ask for something, of two texts one after the other
pub asking_more : (n : ℕ) (ls ks : List (List ℕ)) → asking_lines n (ls ++ ks) ≡ asking_lines n ls ++ asking_lines (n + length ls) ks
asking_more n [] ks = ap (λ m. asking_lines m ks) (let e : n ≡ n + 0 = omega arith in e)
asking_more n (l ∷ ls) ks =
    by_skip (is_skipped l) (asking_more (n + 1) ls ks ∙ ap (λ m. asking_lines (n + 1) ls ++ asking_lines m ks) (let e : n + 1 + length ls ≡ n + length (l ∷ ls) = omega arith in e))
  where
    by_skip : (v : Bool) → asking_lines (n + 1) (ls ++ ks) ≡ asking_lines (n + 1) ls ++ asking_lines (n + length (l ∷ ls)) ks
        → (if v then asking_lines (n + 1) (ls ++ ks) else record { number = n; text = l } ∷ asking_lines (n + 1) (ls ++ ks))
        ≡ (if v then asking_lines (n + 1) ls else record { number = n; text = l } ∷ asking_lines (n + 1) ls) ++ asking_lines (n + length (l ∷ ls)) ks
    by_skip true at = at
    by_skip false at = ap (λ x. record { number = n; text = l } ∷ x) at

-- a line that asks for something, and what stands behind it
pub asking_first : (n : ℕ) (l : List ℕ) (ls : List (List ℕ)) → is_skipped l ≡ false → asking_lines n (l ∷ ls) ≡ record { number = n; text = l } ∷ asking_lines (n + 1) ls
asking_first n l ls asks = ap (λ v. if v then asking_lines (n + 1) ls else record { number = n; text = l } ∷ asking_lines (n + 1) ls) asks

pub entries_more : (ls ks : List NumberedLine) (es ds : List Entry) → AreEntriesOf ls es → AreEntriesOf ks ds → AreEntriesOf (ls ++ ks) (es ++ ds)
entries_more [] ks [] ds p q = q
entries_more [] ks (e ∷ es) ds p q = absurd p
entries_more (l ∷ ls) ks [] ds p q = absurd p
entries_more (l ∷ ls) ks (e ∷ es) ds p q = (p.0, p.1, entries_more ls ks es ds p.2 q)

-- one more line that has an entry
pub numbered_more : (ls : List (List ℕ)) (l : List ℕ) (es : List Entry) (e : Entry) → AreEntriesOf (asking_lines 1 ls) es → is_skipped l ≡ false → e.line ≡ length ls + 1 → Spells l e.command
    → AreEntriesOf (asking_lines 1 (ls ++ l ∷ [])) (es ++ e ∷ [])
numbered_more ls l es e p asks line spelled =
    let A : List NumberedLine → Type 0 = λ x. AreEntriesOf x (es ++ e ∷ []) in
    let number : e.line ≡ 1 + length ls = omega (arith, line) in
    let one : List NumberedLine = record { number = 1 + length ls; text = l } ∷ [] in
    let last : asking_lines (1 + length ls) (l ∷ []) ≡ one = asking_first (1 + length ls) l [] asks in
    subst A (ap (λ x. asking_lines 1 ls ++ x) (sym last) ∙ sym (asking_more 1 ls (l ∷ [])))
    (entries_more (asking_lines 1 ls) one es (e ∷ []) p (number, spelled, tt))

-- one more line that has none
pub numbered_skip : (ls : List (List ℕ)) (l : List ℕ) (es : List Entry) → AreEntriesOf (asking_lines 1 ls) es → is_skipped l ≡ true → AreEntriesOf (asking_lines 1 (ls ++ l ∷ [])) es
numbered_skip ls l es p skipped =
    let A : List NumberedLine → Type 0 = λ x. AreEntriesOf x es in
    let none : asking_lines (1 + length ls) (l ∷ []) ≡ [] = ap (λ v. if v then [] else record { number = 1 + length ls; text = l } ∷ []) skipped in
    subst A (sym (append-nil (asking_lines 1 ls)) ∙ ap (λ x. asking_lines 1 ls ++ x) (sym none) ∙ sym (asking_more 1 ls (l ∷ []))) p

-- a line that spells something else than nothing isn't skipped
pub asks_something : (l : List ℕ) (c : Command) → Spells l c → (c ≡ Skip → ⊥) → is_skipped l ≡ false
asks_something l c spelled other = by (is_skipped l) refl
  where
    by : (v : Bool) → is_skipped l ≡ v → is_skipped l ≡ false
    by true skipped = absurd (other (spells_one l c Skip spelled skipped))
    by false asks = asks

-- the numbers of lines
pub numbers_small : (most n : ℕ) (ls : List (List ℕ)) → n + length ls ≤ most → AllByRecursion (λ (l : NumberedLine). l.number < most) (asking_lines n ls)
numbers_small most n [] few = tt
numbers_small most n (l ∷ ls) few = by_skip (is_skipped l) (numbers_small most (n + 1) ls (omega arith))
  where
    by_skip : (v : Bool) → AllByRecursion (λ (x : NumberedLine). x.number < most) (asking_lines (n + 1) ls)
        → AllByRecursion (λ (x : NumberedLine). x.number < most) (if v then asking_lines (n + 1) ls else record { number = n; text = l } ∷ asking_lines (n + 1) ls)
    by_skip true more = more
    by_skip false more = (let small : n < most = omega arith in small, more)
