use Rattle.std.proofs.Common.{◌≡◌, ℕ, List, [], ◌∷◌, length, get_or, map, string_bytes, sym, ◌∙◌, ap, subst, arith}
use Rattle.std.specs.Prelude.{codes, IfSome}
use Rattle.std.specs.Cmp.Lexicographic.{same_text}
use Rattle.nfc_bench.specs.Run.{FormOf}
use Rattle.nfc_bench.proofs.top.words.form_of.Goals as goal

only_one : {X : Type 0} (xs : List X) (x : X) → length xs ≡ 1 → x ≡ get_or xs 0 x → xs ≡ x ∷ []
only_one [] x one is = absurd (omega arith)
only_one (y ∷ []) x one is = ap (λ z. z ∷ []) (sym is)
only_one (y ∷ z ∷ xs) x one is = absurd (omega arith)

only_two : {X : Type 0} (xs : List X) (x y : X) → length xs ≡ 2 → x ≡ get_or xs 0 x → y ≡ get_or xs 1 y → xs ≡ x ∷ y ∷ []
only_two [] x y two first second = absurd (omega arith)
only_two (a ∷ []) x y two first second = absurd (omega arith)
only_two (a ∷ b ∷ []) x y two first second = ap (λ z. z ∷ b ∷ []) (sym first) ∙ ap (λ z. x ∷ z ∷ []) (sym second)
only_two (a ∷ b ∷ c ∷ xs) x y two first second = absurd (omega arith)

only_three : {X : Type 0} (xs : List X) (x y z : X) → length xs ≡ 3 → x ≡ get_or xs 0 x → y ≡ get_or xs 1 y → z ≡ get_or xs 2 z → xs ≡ x ∷ y ∷ z ∷ []
only_three [] x y z three first second third = absurd (omega arith)
only_three (a ∷ xs) x y z three first second third = ap (λ w. w ∷ xs) (sym first) ∙ ap (λ ws. x ∷ ws) (only_two xs y z (omega (arith, three)) second third)

pub returns-in-len1-clause-some : goal.returns-in-len1-clause-some
returns-in-len1-clause-some c =
    let one = only_one c.args.words.now c.run-item.result (omega arith) c.run-item.is in
    let text : List ℕ = c.as_str.result.now in
    let same : text ≡ codes "run" = same_text text (codes "run") (sym c.if-eq.true ∙ c.eq.ensures) in
    rw one (ap (λ w. w ∷ []) (sym c.as_str.ensures.value ∙ same))

pub returns-in-len2-clause-some : goal.returns-in-len2-clause-some
returns-in-len2-clause-some c =
    let two = only_two c.args.words.now c.run-item-then-words-lt3.result c.quiet-item.result (omega arith) c.run-item-then-words-lt3.is c.quiet-item.is in
    let first : List ℕ = c.as_str-then-words-lt3.result.now in
    let second : List ℕ = c.as_str-then-eq-4.result.now in
    let run : first ≡ codes "run" = same_text first (codes "run") (sym c.if-eq-4.true ∙ c.eq-then-words-lt3.ensures) in
    let quiet : second ≡ codes "quiet" = same_text second (codes "quiet") (sym c.if-eq-5.true ∙ c.eq-then-eq-4.ensures) in
    rw two (ap (λ w. w ∷ string_bytes c.quiet-item.result ∷ []) (sym c.as_str-then-words-lt3.ensures.value ∙ run) ∙ ap (λ w. codes "run" ∷ w ∷ []) (sym c.as_str-then-eq-4.ensures.value ∙ quiet))

pub returns-in-len3-clause-some : goal.returns-in-len3-clause-some
returns-in-len3-clause-some c =
    let three = only_three c.args.words.now c.make-item.result c.seed-item.result c.count-item.result (omega arith) c.make-item.is c.seed-item.is c.count-item.is in
    let first : List ℕ = c.as_str-then-words-lt4.result.now in
    let seed : List ℕ = c.as_str-in-len3.result.now in
    let count : List ℕ = c.as_str-in-len3-2.result.now in
    let make : first ≡ codes "make" = same_text first (codes "make") (sym c.if-eq-6.true ∙ c.eq-then-words-lt4.ensures) in
    let words : map string_bytes c.args.words.now ≡ codes "make" ∷ seed ∷ count ∷ [] =
    ap (map string_bytes) three
    ∙ ap (λ w. w ∷ string_bytes c.seed-item.result ∷ string_bytes c.count-item.result ∷ []) (sym c.as_str-then-words-lt4.ensures.value ∙ make)
    ∙ ap (λ w. codes "make" ∷ w ∷ string_bytes c.count-item.result ∷ []) (sym c.as_str-in-len3.ensures.value)
    ∙ ap (λ w. codes "make" ∷ seed ∷ w ∷ []) (sym c.as_str-in-len3-2.ensures.value) in
    let P : List (List ℕ) → Type 0 = λ ws. IfSome c.form_of_workload.result (λ form. FormOf ws form) in
    subst P (sym words) c.form_of_workload.ensures.some

pub returns-in-len1-2-clause-some : goal.returns-in-len1-2-clause-some
returns-in-len1-2-clause-some c =
    let one = only_one c.args.words.now c.sweep-item.result (omega arith) c.sweep-item.is in
    let text : List ℕ = c.as_str-then-words-lt2.result.now in
    let same : text ≡ codes "sweep" = same_text text (codes "sweep") (sym c.if-eq-2.true ∙ c.eq-then-words-lt2.ensures) in
    rw one (ap (λ w. w ∷ []) (sym c.as_str-then-words-lt2.ensures.value ∙ same))

pub returns-in-len1-3-clause-some : goal.returns-in-len1-3-clause-some
returns-in-len1-3-clause-some c =
    let one = only_one c.args.words.now c.audit-item.result (omega arith) c.audit-item.is in
    let text : List ℕ = c.as_str-then-words-lt2-2.result.now in
    let same : text ≡ codes "audit" = same_text text (codes "audit") (sym c.if-eq-3.true ∙ c.eq-then-words-lt2-2.ensures) in
    rw one (ap (λ w. w ∷ []) (sym c.as_str-then-words-lt2-2.ensures.value ∙ same))
