-- Words of one kind in a row spell one list of values.
use Rattle.std.proofs.Common.{◌≡◌, ◌≢◌, ℕ, suc, ◌+◌, ◌<◌, ◌≤◌, ◌++◌, List, [], ◌∷◌, length, refl, sym, ◌∙◌, ap, subst, arith}
use Rattle.std.specs.Prelude.{Option, Some, None}
use Rattle.std.proofs.lemmas.List.{length-append}
use Rattle.bench_script.specs.private.Words.{CutsWord}
use Rattle.bench_script.specs.Script.{words_of, SpellEach, SpellRow}
use Rattle.bench_script.proofs.Words.{words_not_nil}

-- a text's first word, and what stands behind it
first_word : (text word : List ℕ) (o : Option (List ℕ)) → CutsWord text word o → (ws : List (List ℕ)) × (words_of text ≡ word ∷ ws)
first_word text word None e = ([], e)
first_word text word (Some rest) e = (words_of rest, e)

some_words : (ws : List (List ℕ)) → ws ≢ [] → 0 < length ws
some_words [] some = absurd (some refl)
some_words (w ∷ ws) some = omega arith

module _ {T : Type 0} (S : List ℕ → T → Type 0) where
  -- Words spell values, and so do others behind them: they all do, in a row.
  pub each_joined : (vs ws : List (List ℕ)) (a b : List T) → SpellEach S vs a → SpellEach S ws b → SpellEach S (vs ++ ws) (a ++ b)
  each_joined [] ws [] b p q = q
  each_joined (v ∷ vs) ws (x ∷ a) b p q = (p.0, each_joined vs ws a b p.1 q)
  each_joined [] ws (x ∷ a) b p q = absurd p
  each_joined (v ∷ vs) ws [] b p q = absurd p

  -- as many values as words
  pub each_many : (ws : List (List ℕ)) (a : List T) → SpellEach S ws a → length a ≡ length ws
  each_many [] [] p = refl
  each_many (w ∷ ws) (x ∷ a) p = ap suc (each_many ws a p.1)
  each_many [] (x ∷ a) p = absurd p
  each_many (w ∷ ws) [] p = absurd p

  -- What words in a row spell ends with what the last of them do.
  rest_spelled : (vs ws : List (List ℕ)) (b : List T) → SpellEach S (vs ++ ws) b → (c : List T) × SpellEach S ws c
  rest_spelled [] ws b p = (b, p)
  rest_spelled (v ∷ vs) ws (y ∷ b) p = rest_spelled vs ws b p.1
  rest_spelled (v ∷ vs) ws [] p = absurd p

  some_each : (word : List ℕ) (ws : List (List ℕ)) (a : List T) → SpellEach S (word ∷ ws) a → (x : T) × S word x
  some_each word ws [] p = absurd p
  some_each word ws (x ∷ a) p = (x, p.0)

  -- Where one of a text's words spells no value, they spell none together.
  pub none_left : (least most : ℕ) (text left word : List ℕ) (before : List (List ℕ)) (o : Option (List ℕ)) → words_of text ≡ before ++ words_of left
      → CutsWord left word o → ((x : T) → S word x → ⊥) → (a : List T) → SpellRow S least most (words_of text) a → ⊥
  none_left least most text left word before o split cut none a s =
      let first = first_word left word o cut in
      let P : List (List ℕ) → Type 0 = λ ws. SpellEach S ws a in
      let rest = rest_spelled before (word ∷ first.0) a (subst P (split ∙ ap (λ ws. before ++ ws) first.1) s.each) in
      let one = some_each word first.0 rest.0 rest.1 in
      none one.0 one.1

  -- The words that were read spell the values, and one more, which ends the text, one more.
  pub last_spelled : (most : ℕ) (text left word : List ℕ) (before : List (List ℕ)) (values : List T) (x : T) → words_of text ≡ before ++ words_of left
      → SpellEach S before values → words_of left ≡ word ∷ [] → S word x → length values < most → SpellRow S 1 most (words_of text) (values ++ x ∷ [])
  last_spelled most text left word before values x split each ends s few =
      let all : words_of text ≡ before ++ word ∷ [] = split ∙ ap (λ ws. before ++ ws) ends in
      let size : length (values ++ x ∷ []) ≡ length values + 1 = length-append values (x ∷ []) in
      record {
        each = subst (λ ws. SpellEach S ws (values ++ x ∷ [])) (sym all) (each_joined before (word ∷ []) values (x ∷ []) each (s, tt));
        some = omega (arith, size);
        few = omega (arith, size, few);
      }

  -- Where as many words are read as a line may have, and one is left, they spell none: a text has a word always.
  pub too_many : (least most : ℕ) (text left : List ℕ) (before : List (List ℕ)) (values : List T) → words_of text ≡ before ++ words_of left
      → SpellEach S before values → most ≤ length values → (a : List T) → SpellRow S least most (words_of text) a → ⊥
  too_many least most text left before values split each full a s =
      let many : length a ≡ length (words_of text) = each_many (words_of text) a s.each in
      let all : length (words_of text) ≡ length before + length (words_of left) = ap length split ∙ length-append before (words_of left) in
      let some : 0 < length (words_of left) = some_words (words_of left) (words_not_nil left) in
      let few : length a ≤ most = s.few in
      omega (arith, many, all, some, each_many before values each, full, few)

  -- Words spell one list of values, where each spells one.
  module _ (one : (w : List ℕ) (x y : T) → S w x → S w y → x ≡ y) where
    pub each_one : (ws : List (List ℕ)) (a b : List T) → SpellEach S ws a → SpellEach S ws b → a ≡ b
    each_one [] [] [] p q = refl
    each_one (w ∷ ws) (x ∷ a) (y ∷ b) p q =
        let head : x ≡ y = one w x y p.0 q.0 in
        let more : a ≡ b = each_one ws a b p.1 q.1 in
        cc
    each_one [] (x ∷ a) b p q = absurd p
    each_one [] [] (y ∷ b) p q = absurd q
    each_one (w ∷ ws) [] b p q = absurd p
    each_one (w ∷ ws) (x ∷ a) [] p q = absurd q
