-- The lines of a sweep's runs are taken, each behind those before it, since those of its script are.
use Rattle.std.proofs.Common.{◌≡◌, ◌≢◌, ℕ, zero, suc, ◌+◌, ◌-◌, ◌*◌, ◌/◌, ◌%◌, ◌<◌, ◌≤◌, List, [], ◌∷◌, ◌++◌, length, get_or, take, replicate, map, Bool, true, false, ◌==◌, refl, sym, ◌∙◌, ap, subst}
use Rattle.std.proofs.Common.{append_assoc, arith}
use Rattle.std.specs.Prelude.{if◌then◌else◌, codes, slice_index_or}
use Rattle.std.specs.List.{All, onto_first, join_with_byte}
use Rattle.std.proofs.lemmas.List.{append-nil, length-append, length-replicate, get_or-replicate, get_or_append_left, get_or-append_right, map-append, replicate-append-replicate}
use Rattle.std.proofs.lemmas.List.Elements.{All-cons, All-nil, All-head, All-tail}
use Rattle.nfc_base.specs.declared.event.Fate.{Fate}
use Rattle.nfc_base.specs.declared.event.Fate.TheVariants.{Pass, Damage, Lose, Break}
use Rattle.bench_script.specs.declared.command.Command.{Command}
use Rattle.bench_script.specs.declared.command.Command.TheVariants.{Fates, Read, Write}
use Rattle.bench_script.specs.declared.command.DeviceId.{DeviceId}
use Rattle.bench_script.specs.declared.message.Msg.{Msg}
use Rattle.bench_script.specs.Canonical.{canonical, id_text, message_text, IsReadAs}
use Rattle.bench_script.specs.Script.{words_of, fate_letter, most_fates, SpellsId, Spells, SpelledBy}
use Rattle.bench_script.proofs.Canonical.{read_back, none_shorter}
use Rattle.bench_script.proofs.Spelling.{letter_at}
use Rattle.bench_script.proofs.Words.{words_end}
use Rattle.bench_world.specs.Behind.{breaking}
use Rattle.bench_world.specs.Legal.{State, Accepts, changed, first_state}
use Rattle.bench_world.specs.Taking.{AreSpelled, AreAccepted, AreTaken}
use Rattle.nfc_bench.specs.Sweep.{fates_line, break_lines, sweep_lines, read_line}

-- no space stands in this word
abbrev IsSpaceless : List ℕ → Type 0
IsSpaceless w = All (λ b. b ≢ 32) w

onto_spaceless : (b : ℕ) (ws : List (List ℕ)) → b ≢ 32 → All IsSpaceless ws → All IsSpaceless (onto_first b ws)
onto_spaceless b [] other all = All-cons IsSpaceless (b ∷ []) [] (All-cons (λ x. x ≢ 32) b [] other (All-nil (λ x. x ≢ 32))) (All-nil IsSpaceless)
onto_spaceless b (w ∷ ws) other all =
    All-cons IsSpaceless (b ∷ w) ws (All-cons (λ x. x ≢ 32) b w other (All-head IsSpaceless w ws all)) (All-tail IsSpaceless w ws all)

-- the words of a line have no space
words_spaceless : (t : List ℕ) → All IsSpaceless (words_of t)
words_spaceless [] = All-cons IsSpaceless [] [] (All-nil (λ x. x ≢ 32)) (All-nil IsSpaceless)
words_spaceless (b ∷ t) = by_space (b == 32) refl (words_spaceless t)
  where
    by_space : (v : Bool) → b == 32 ≡ v → All IsSpaceless (words_of t) → All IsSpaceless (if v then [] ∷ words_of t else onto_first b (words_of t))
    by_space true e all = All-cons IsSpaceless [] (words_of t) (All-nil (λ x. x ≢ 32)) all
    by_space false e all = onto_spaceless b (words_of t) (λ is. let clash : false ≡ true = sym e ∙ ap (λ x. x == 32) is in absurd cc) all

one_word : (w : List ℕ) → IsSpaceless w → words_of w ≡ w ∷ []
one_word w none = words_end w (λ k within. none k 0 within)

-- The read of the device that a write names is spelled, and isn't longer than the write.
pub read_spelled : (line : List ℕ) (id : DeviceId) (message : Msg) → Spells line (Write id message) → Spells (read_line id) (Read id)
unfolding read_line
read_spelled line id message (i, m, e, p, q) =
    let all : All IsSpaceless (codes "write" ∷ i ∷ m ∷ []) = subst (λ ws. All IsSpaceless ws) e (words_spaceless line) in
    let word : IsSpaceless i = All-head IsSpaceless i (m ∷ []) (All-tail IsSpaceless (codes "write") (i ∷ m ∷ []) all) in
    let words : words_of (codes "read " ++ i) ≡ codes "read" ∷ i ∷ [] = ap (λ ws. codes "read" ∷ ws) (one_word i word) in
    let spelled : Spells (codes "read " ++ i) (Read id) = (i, words, p) in
    (read_back (codes "read " ++ i) (Read id) spelled).spells

pub read_short : (line : List ℕ) (id : DeviceId) (message : Msg) → Spells line (Write id message) → length (read_line id) ≤ length line
unfolding read_line
read_short line id message spelled =
    let short : length (canonical (Write id message)) ≤ length line = none_shorter line (Write id message) spelled in
    let name : List ℕ = id_text id in
    let text : List ℕ = message_text message in
    let long : length (canonical (Write id message)) ≡ suc (suc (suc (suc (suc (suc (length (name ++ 32 ∷ text))))))) = refl in
    let own : length (read_line id) ≡ suc (suc (suc (suc (suc (length name))))) = refl in
    omega (arith, short, long, own, length-append name (32 ∷ text))

-- A line of fates spells them.
letter_spaceless : (f : Fate) → fate_letter f ≢ 32
letter_spaceless Pass e = omega (arith, e)
letter_spaceless Damage e = omega (arith, e)
letter_spaceless Lose e = omega (arith, e)
letter_spaceless Break e = omega (arith, e)

letters_spaceless : (fates : List Fate) → IsSpaceless (map fate_letter fates)
letters_spaceless [] = All-nil (λ b. b ≢ 32)
letters_spaceless (f ∷ fates) = All-cons (λ b. b ≢ 32) (fate_letter f) (map fate_letter fates) (letter_spaceless f) (letters_spaceless fates)

fates_spelled : (fates : List Fate) → 0 < length fates → length fates ≤ most_fates → Spells (codes "fates " ++ map fate_letter fates) (Fates fates)
fates_spelled fates some few =
    let words : words_of (codes "fates " ++ map fate_letter fates) ≡ codes "fates" ∷ map fate_letter fates ∷ [] =
    ap (λ ws. codes "fates" ∷ ws) (one_word (map fate_letter fates) (letters_spaceless fates)) in
    (map fate_letter fates, words, record { letters = refl; some = some; few = few })

passing : (n : ℕ) → map fate_letter (replicate n Pass) ≡ replicate n 80
passing zero = refl
passing (suc n) = ap (λ xs. 80 ∷ xs) (passing n)

-- so many that pass, and then these
unfoldable pub some_fates : ℕ → List Fate → List Fate
some_fates n rest = replicate n Pass ++ rest

line_spelled : (n : ℕ) (rest : List Fate) → 0 < n + length rest → n + length rest ≤ most_fates → Spells (fates_line n (map fate_letter rest)) (Fates (some_fates n rest))
unfolding some_fates fates_line
line_spelled n rest some few =
    let size : length (replicate n Pass ++ rest) ≡ n + length rest = length-append (replicate n Pass) rest ∙ ap (λ k. k + length rest) (length-replicate n Pass) in
    let letters : map fate_letter (replicate n Pass ++ rest) ≡ replicate n 80 ++ map fate_letter rest =
    map-append fate_letter (replicate n Pass) rest ∙ ap (λ xs. xs ++ map fate_letter rest) (passing n) in
    subst (λ xs. Spells (codes "fates " ++ xs) (Fates (replicate n Pass ++ rest))) letters (fates_spelled (replicate n Pass ++ rest) (omega (arith, size)) (omega (arith, size)))

-- Lines one after the other, of which the second part is accepted whatever stands before it.
pub spelled_append : (ls ks : List (List ℕ)) (cs ds : List Command) → AreSpelled ls cs → AreSpelled ks ds → AreSpelled (ls ++ ks) (cs ++ ds)
spelled_append [] ks [] ds p q = q
spelled_append [] ks (c ∷ cs) ds p q = absurd p
spelled_append (l ∷ ls) ks [] ds p q = absurd p
spelled_append (l ∷ ls) ks (c ∷ cs) ds p q = (p.0, spelled_append ls ks cs ds p.1 q)

accepted_append : (s : State) (cs ds : List Command) → AreAccepted s cs → ((t : State) → AreAccepted t ds) → AreAccepted s (cs ++ ds)
accepted_append s [] ds p q = q s
accepted_append s (c ∷ cs) ds p q = (p.0, accepted_append (changed s c) cs ds p.1 q)

-- the lines of fates of a run: what they append, and their commands
unfoldable pub break_fates : ℕ → List (List Fate)
break_fates passes = replicate (passes / most_fates) (some_fates most_fates []) ++ some_fates (passes % most_fates) (Break ∷ []) ∷ []

unfoldable pub break_commands : ℕ → List Command
break_commands passes = replicate (passes / most_fates) (Fates (some_fates most_fates [])) ++ Fates (some_fates (passes % most_fates) (Break ∷ [])) ∷ []

each_fates : (n : ℕ) (f : List Fate) → map Fates (replicate n f) ≡ replicate n (Fates f)
each_fates zero f = refl
each_fates (suc n) f = ap (λ cs. Fates f ∷ cs) (each_fates n f)

pub breaks_are : (passes : ℕ) → map Fates (break_fates passes) ≡ break_commands passes
unfolding break_fates break_commands
breaks_are passes =
    map-append Fates (replicate (passes / most_fates) (some_fates most_fates [])) (some_fates (passes % most_fates) (Break ∷ []) ∷ [])
    ∙ ap (λ cs. cs ++ Fates (some_fates (passes % most_fates) (Break ∷ [])) ∷ []) (each_fates (passes / most_fates) (some_fates most_fates []))

-- all that lines of fates append
unfoldable pub all_of : List (List Fate) → List Fate
all_of [] = []
all_of (f ∷ fs) = f ++ all_of fs

-- so many times
abbrev times : ℕ → ℕ → ℕ
times zero n = 0
times (suc k) n = n + times k n

times_is : (k : ℕ) → times k most_fates ≡ k * most_fates
times_is zero = omega arith
times_is (suc k) = let more : times k most_fates ≡ k * most_fates = times_is k in omega (arith, more)

all_passing : (k n : ℕ) (rest : List Fate) → all_of (replicate k (some_fates n []) ++ rest ∷ []) ≡ replicate (times k n) Pass ++ rest
unfolding all_of some_fates
all_passing zero n rest = append-nil rest
all_passing (suc k) n rest =
    ap (λ x. x ++ all_of (replicate k (replicate n Pass ++ []) ++ rest ∷ [])) (append-nil (replicate n Pass)) ∙ ap (λ x. replicate n Pass ++ x) (all_passing k n rest)
    ∙ sym (append_assoc (replicate n Pass) (replicate (times k n) Pass) rest) ∙ ap (λ x. x ++ rest) (replicate-append-replicate n (times k n) Pass)

-- is that so many transmissions pass, and the next is a Break
pub all_breaks : (passes : ℕ) → all_of (break_fates passes) ≡ breaking passes
unfolding break_fates some_fates
all_breaks passes =
    let k : ℕ = passes / most_fates in
    let r : ℕ = passes % most_fates in
    let sum : times k most_fates + r ≡ passes = omega (arith, times_is k) in
    all_passing k most_fates (replicate r Pass ++ Break ∷ [])
    ∙ sym (append_assoc (replicate (times k most_fates) Pass) (replicate r Pass) (Break ∷ []))
    ∙ ap (λ x. x ++ Break ∷ []) (replicate-append-replicate (times k most_fates) r Pass) ∙ ap (λ n. replicate n Pass ++ Break ∷ []) sum

spelled_each : (n : ℕ) (l : List ℕ) (c : Command) → Spells l c → AreSpelled (replicate n l) (replicate n c)
spelled_each zero l c p = tt
spelled_each (suc n) l c p = (p, spelled_each n l c p)

pub breaks_spelled : (passes : ℕ) → AreSpelled (break_lines passes) (break_commands passes)
unfolding break_commands break_lines
breaks_spelled passes =
    let part : passes % most_fates < most_fates = omega arith in
    spelled_append (replicate (passes / most_fates) (fates_line most_fates [])) (fates_line (passes % most_fates) (codes "B") ∷ [])
    (replicate (passes / most_fates) (Fates (some_fates most_fates []))) (Fates (some_fates (passes % most_fates) (Break ∷ [])) ∷ [])
    (spelled_each (passes / most_fates) (fates_line most_fates []) (Fates (some_fates most_fates [])) (line_spelled most_fates [] (omega arith) (omega arith)))
    (line_spelled (passes % most_fates) (Break ∷ []) (omega arith) (omega (arith, part)), tt)

fates_accepted : (n : ℕ) (fates : List Fate) (rest : List Command) → ((t : State) → AreAccepted t rest) → (s : State) → AreAccepted s (replicate n (Fates fates) ++ rest)
fates_accepted zero fates rest p s = p s
fates_accepted (suc n) fates rest p s = (tt, fates_accepted n fates rest p (changed s (Fates fates)))

breaks_accepted : (passes : ℕ) (id : DeviceId) (message : Msg) (s : State) → AreAccepted s (break_commands passes ++ Write id message ∷ Read id ∷ [])
unfolding break_commands
breaks_accepted passes id message s =
    let part : List Fate = some_fates (passes % most_fates) (Break ∷ []) in
    let whole : List Command = replicate (passes / most_fates) (Fates (some_fates most_fates [])) in
    let rest : List Command = Write id message ∷ Read id ∷ [] in
    subst (λ cs. AreAccepted s cs) (sym (append_assoc whole (Fates part ∷ []) rest))
    (fates_accepted (passes / most_fates) (some_fates most_fates []) (Fates part ∷ rest) (λ t. (tt, (tt, (tt, tt)))) s)

-- the lines before the last of taken lines are taken
record TakenBefore (s : State) (before : List (List ℕ)) : Type 0 where
  pub commands : List Command
  pub spelled : AreSpelled before commands
  pub accepted : AreAccepted s commands

taken_before : (s : State) (before : List (List ℕ)) (last : List ℕ) (cs : List Command) → AreSpelled (before ++ last ∷ []) cs → AreAccepted s cs → TakenBefore s before
taken_before s [] last cs p q = record { commands = []; spelled = tt; accepted = tt }
taken_before s (l ∷ ls) last [] p q = absurd p
taken_before s (l ∷ ls) last (c ∷ cs) p q =
    let it = taken_before (changed s c) ls last cs p.1 q.1 in
    record { commands = c ∷ it.commands; spelled = (p.0, it.spelled); accepted = (q.0, it.accepted) }

-- So the lines of each run are taken.
pub run_taken : (before : List (List ℕ)) (last : List ℕ) (cs : List Command) (id : DeviceId) (message : Msg) → AreTaken (before ++ last ∷ []) cs → Spells last (Write id message)
    → (passes : ℕ) → (ds : List Command) × AreTaken (sweep_lines before last (read_line id) passes) ds
unfolding sweep_lines
run_taken before last cs id message taken spelled passes =
    let it = taken_before first_state before last cs taken.spelled taken.accepted in
    let rest : List Command = Write id message ∷ Read id ∷ [] in (
      it.commands ++ (break_commands passes ++ rest),
      record {
        spelled =
            spelled_append before (break_lines passes ++ last ∷ read_line id ∷ []) it.commands (break_commands passes ++ rest) it.spelled
            (spelled_append (break_lines passes) (last ∷ read_line id ∷ []) (break_commands passes) rest (breaks_spelled passes) (spelled, (read_spelled last id message spelled, tt)));
        accepted = accepted_append first_state it.commands (break_commands passes ++ rest) it.accepted (breaks_accepted passes id message);
      },
    )

-- How many they are, and which stands where.
breaks_count : (passes : ℕ) → length (break_lines passes) ≡ passes / most_fates + 1
unfolding break_lines
breaks_count passes =
    length-append (replicate (passes / most_fates) (fates_line most_fates [])) (fates_line (passes % most_fates) (codes "B") ∷ [])
    ∙ ap (λ n. n + 1) (length-replicate (passes / most_fates) (fates_line most_fates []))

behind_count : (passes : ℕ) (last read : List ℕ) → length (break_lines passes ++ last ∷ read ∷ []) ≡ passes / most_fates + 3
behind_count passes last read =
    let size : length (break_lines passes ++ last ∷ read ∷ []) ≡ length (break_lines passes) + 2 = length-append (break_lines passes) (last ∷ read ∷ []) in
    omega (arith, size, breaks_count passes)

pub sweep_count : (before : List (List ℕ)) (last read : List ℕ) (passes : ℕ) → length (sweep_lines before last read passes) ≡ length before + passes / most_fates + 3
unfolding sweep_lines
sweep_count before last read passes =
    let size : length (sweep_lines before last read passes) ≡ length before + length (break_lines passes ++ last ∷ read ∷ []) = length-append before (break_lines passes ++ last ∷ read ∷ []) in
    omega (arith, size, behind_count passes last read)

pub line_before : (before : List (List ℕ)) (last read : List ℕ) (passes place : ℕ) → place < length before → get_or (sweep_lines before last read passes) place [] ≡ get_or before place []
unfolding sweep_lines
line_before before last read passes place within = get_or_append_left before (break_lines passes ++ last ∷ read ∷ []) [] place within

pub line_behind : (before : List (List ℕ)) (last read : List ℕ) (passes place : ℕ) → length before ≤ place
    → get_or (sweep_lines before last read passes) place [] ≡ get_or (break_lines passes ++ last ∷ read ∷ []) (place - length before) []
unfolding sweep_lines
line_behind before last read passes place past = get_or-append_right before (break_lines passes ++ last ∷ read ∷ []) (length before) place [] refl past

pub whole_line : (passes place : ℕ) (last read : List ℕ) → place < passes / most_fates → get_or (break_lines passes ++ last ∷ read ∷ []) place [] ≡ fates_line most_fates []
unfolding break_lines
whole_line passes place last read within =
    let whole : List (List ℕ) = replicate (passes / most_fates) (fates_line most_fates []) in
    let size : length whole ≡ passes / most_fates = length-replicate (passes / most_fates) (fates_line most_fates []) in
    get_or_append_left (break_lines passes) (last ∷ read ∷ []) [] place (omega (arith, within, breaks_count passes))
    ∙ get_or_append_left whole (fates_line (passes % most_fates) (codes "B") ∷ []) [] place (omega (arith, within, size))
    ∙ get_or-replicate (passes / most_fates) place (fates_line most_fates []) [] within

pub break_line : (passes place : ℕ) (last read : List ℕ) → place ≡ passes / most_fates → get_or (break_lines passes ++ last ∷ read ∷ []) place [] ≡ fates_line (passes % most_fates) (codes "B")
unfolding break_lines
break_line passes place last read at =
    let whole : List (List ℕ) = replicate (passes / most_fates) (fates_line most_fates []) in
    let rest : List (List ℕ) = fates_line (passes % most_fates) (codes "B") ∷ [] in
    let size : length whole ≡ passes / most_fates = length-replicate (passes / most_fates) (fates_line most_fates []) in
    get_or_append_left (break_lines passes) (last ∷ read ∷ []) [] place (omega (arith, at, breaks_count passes))
    ∙ get_or-append_right whole rest (passes / most_fates) place [] size (omega (arith, at))
    ∙ ap (λ n. get_or rest n []) (let none : place - passes / most_fates ≡ 0 = omega (arith, at) in none)

pub last_again : (passes place : ℕ) (last read : List ℕ) → place ≡ passes / most_fates + 1 → get_or (break_lines passes ++ last ∷ read ∷ []) place [] ≡ last
last_again passes place last read at =
    get_or-append_right (break_lines passes) (last ∷ read ∷ []) (passes / most_fates + 1) place [] (breaks_count passes) (omega (arith, at))
    ∙ ap (λ n. get_or (last ∷ read ∷ []) n []) (let none : place - (passes / most_fates + 1) ≡ 0 = omega (arith, at) in none)

pub read_last : (passes place : ℕ) (last read : List ℕ) → place ≡ passes / most_fates + 2 → get_or (break_lines passes ++ last ∷ read ∷ []) place [] ≡ read
read_last passes place last read at =
    get_or-append_right (break_lines passes) (last ∷ read ∷ []) (passes / most_fates + 1) place [] (breaks_count passes) (omega (arith, at))
    ∙ ap (λ n. get_or (last ∷ read ∷ []) n []) (let one : place - (passes / most_fates + 1) ≡ 1 = omega (arith, at) in one)
