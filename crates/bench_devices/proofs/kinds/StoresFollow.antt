-- Stores that follow others keep the law of a write that these keep.
use Rattle.std.proofs.Common.{◌≡◌, inl, inr, ℕ, List, [], ◌∷◌, ◌++◌, refl, sym, ◌∙◌, ap, subst}
use Rattle.std.specs.List.{AllByRecursion}
use Rattle.air_core.specs.PlainLinks.{Follows}
use Rattle.tag_reader.specs.declared.how.How.{How}
use Rattle.nfc_base.specs.TagLinks.{PassInThree}
use Rattle.tag_writer.specs.Law.{Ending, last_store, IsEmptied, IsWritten, LeavesStore, Passes, WriteLaw}

abbrev Store : Type 0
Store = List ℕ

-- the last one is the same
pub last_follow : (now : Store) (xs ys : List Store) → Follows now xs ys → last_store now xs ≡ last_store now ys
last_follow now [] [] f = refl
last_follow now [] (y ∷ ys) f = absurd f
last_follow now (x ∷ xs) [] f = ap (λ s. last_store s xs) f.0 ∙ last_follow now xs [] f.1
last_follow now (x ∷ xs) (y ∷ ys) (inl f) = ap (λ s. last_store s xs) f.0 ∙ last_follow now xs (y ∷ ys) f.1
last_follow now (x ∷ xs) (y ∷ ys) (inr f) = ap (λ s. last_store s xs) f.0 ∙ last_follow y xs ys f.1

-- one kind of stores
pub all_follow : (R : Store → Type 0) (now : Store) (xs ys : List Store) → R now → AllByRecursion R ys → Follows now xs ys → AllByRecursion R xs
all_follow R now [] ys r all f = tt
all_follow R now (x ∷ xs) [] r all f = (subst R (sym f.0) r, all_follow R now xs [] r all f.1)
all_follow R now (x ∷ xs) (y ∷ ys) r all (inl f) = (subst R (sym f.0) r, all_follow R now xs (y ∷ ys) r all f.1)
all_follow R now (x ∷ xs) (y ∷ ys) r all (inr f) = (subst R (sym f.0) all.0, all_follow R y xs ys all.0 all.1 f.1)

-- Three kinds, one behind another.
module _ (P Q R : Store → Type 0) where
  abbrev Three : List Store → Type 0
  Three xs = PassInThree P Q R xs

  -- two of them
  record Two (xs : List Store) : Type 0 where
    pub during : List Store
    pub behind : List Store
    pub joined : xs ≡ during ++ behind
    pub empties : AllByRecursion Q during
    pub news : AllByRecursion R behind

  more_two : (x : Store) (xs : List Store) → Q x → Two xs → Two (x ∷ xs)
  more_two x xs q t = record { during = x ∷ t.during; behind = t.behind; joined = ap (λ zs. x ∷ zs) t.joined; empties = (q, t.empties); news = t.news }

  two_last : (xs : List Store) → AllByRecursion R xs → Two xs
  two_last xs all = record { during = []; behind = xs; joined = refl; empties = tt; news = all }

  two_follow : (now : Store) (xs us vs : List Store) → Q now → AllByRecursion Q us → AllByRecursion R vs → Follows now xs (us ++ vs) → Two xs
  two_follow now [] us vs q qs rs f = record { during = []; behind = []; joined = refl; empties = tt; news = tt }
  two_follow now (x ∷ xs) [] [] q qs rs f = more_two x xs (subst Q (sym f.0) q) (two_follow now xs [] [] q qs rs f.1)
  two_follow now (x ∷ xs) [] (v ∷ vs) q qs rs (inl f) = more_two x xs (subst Q (sym f.0) q) (two_follow now xs [] (v ∷ vs) q qs rs f.1)
  two_follow now (x ∷ xs) [] (v ∷ vs) q qs rs (inr f) = two_last (x ∷ xs) (subst R (sym f.0) rs.0, all_follow R v xs vs rs.0 rs.1 f.1)
  two_follow now (x ∷ xs) (u ∷ us) vs q qs rs (inl f) = more_two x xs (subst Q (sym f.0) q) (two_follow now xs (u ∷ us) vs q qs rs f.1)
  two_follow now (x ∷ xs) (u ∷ us) vs q qs rs (inr f) = more_two x xs (subst Q (sym f.0) qs.0) (two_follow u xs us vs qs.0 qs.1 rs f.1)

  more_three : (x : Store) (xs : List Store) → P x → Three xs → Three (x ∷ xs)
  more_three x xs p t = record {
    before = x ∷ t.before;
    during = t.during;
    behind = t.behind;
    joined = ap (λ zs. x ∷ zs) t.joined;
    olds = (p, t.olds);
    empties = t.empties;
    news = t.news;
  }

  three_last : (xs : List Store) → Two xs → Three xs
  three_last xs t = record { before = []; during = t.during; behind = t.behind; joined = t.joined; olds = tt; empties = t.empties; news = t.news }

  three_follow : (now : Store) (xs us vs ws : List Store) → P now → AllByRecursion P us → AllByRecursion Q vs → AllByRecursion R ws → Follows now xs (us ++ (vs ++ ws)) → Three xs
  three_follow now [] us vs ws p ps qs rs f = three_last [] (two_last [] tt)
  three_follow now (x ∷ xs) [] [] [] p ps qs rs f = more_three x xs (subst P (sym f.0) p) (three_follow now xs [] [] [] p ps qs rs f.1)
  three_follow now (x ∷ xs) [] [] (w ∷ ws) p ps qs rs (inl f) = more_three x xs (subst P (sym f.0) p) (three_follow now xs [] [] (w ∷ ws) p ps qs rs f.1)
  three_follow now (x ∷ xs) [] [] (w ∷ ws) p ps qs rs (inr f) =
      three_last (x ∷ xs) (two_last (x ∷ xs) (subst R (sym f.0) rs.0, all_follow R w xs ws rs.0 rs.1 f.1))
  three_follow now (x ∷ xs) [] (v ∷ vs) ws p ps qs rs (inl f) = more_three x xs (subst P (sym f.0) p) (three_follow now xs [] (v ∷ vs) ws p ps qs rs f.1)
  three_follow now (x ∷ xs) [] (v ∷ vs) ws p ps qs rs (inr f) =
      three_last (x ∷ xs) (more_two x xs (subst Q (sym f.0) qs.0) (two_follow v xs vs ws qs.0 qs.1 rs f.1))
  three_follow now (x ∷ xs) (u ∷ us) vs ws p ps qs rs (inl f) = more_three x xs (subst P (sym f.0) p) (three_follow now xs (u ∷ us) vs ws p ps qs rs f.1)
  three_follow now (x ∷ xs) (u ∷ us) vs ws p ps qs rs (inr f) = more_three x xs (subst P (sym f.0) ps.0) (three_follow u xs us vs ws ps.0 ps.1 qs rs f.1)

  -- the first is of one of the three
  pub first_follow : (now : Store) (xs ys before during behind : List Store) → Follows now xs ys → now ∷ ys ≡ before ++ (during ++ behind) → AllByRecursion P before → AllByRecursion Q during
      → AllByRecursion R behind → Three (now ∷ xs)
  first_follow now xs ys [] [] [] f e ps qs rs = absurd cc
  first_follow now xs ys [] [] (w ∷ ws) f e ps qs rs =
      let rest : ys ≡ ws = cc in let same : now ≡ w = cc in
      let here : R now = subst R (sym same) rs.0 in
      three_last (now ∷ xs) (two_last (now ∷ xs) (here, all_follow R now xs ws here rs.1 (subst (λ zs. Follows now xs zs) rest f)))
  first_follow now xs ys [] (v ∷ vs) ws f e ps qs rs =
      let rest : ys ≡ vs ++ ws = cc in let same : now ≡ v = cc in
      let here : Q now = subst Q (sym same) qs.0 in
      three_last (now ∷ xs) (more_two now xs here (two_follow now xs vs ws here qs.1 rs (subst (λ zs. Follows now xs zs) rest f)))
  first_follow now xs ys (u ∷ us) vs ws f e ps qs rs =
      let rest : ys ≡ us ++ (vs ++ ws) = cc in let same : now ≡ u = cc in
      let here : P now = subst P (sym same) ps.0 in
      more_three now xs here (three_follow now xs us vs ws here ps.1 qs rs (subst (λ zs. Follows now xs zs) rest f))

-- the images of a write
pub law_follow : (how : How) (size : ℕ) (store message : List ℕ) (ending : Ending) (xs ys : List Store) → Follows store xs ys → WriteLaw how size store message ending (store ∷ ys)
    → WriteLaw how size store message ending (store ∷ xs)
law_follow how size store message ending xs ys f law = record {
  takes = λ place takes.
      (let p : Passes how size store message place ending (store ∷ ys) = law.takes place takes in
      record {
        three = first_follow (λ s. s ≡ store) (IsEmptied how size place store) (IsWritten how size message place store) store xs ys p.three.before p.three.during p.three.behind f p.three.joined
            p.three.olds p.three.empties p.three.news;
        leaves = subst (LeavesStore how size message place store ending) (sym (last_follow store xs ys f)) p.leaves;
      });
  stays = λ untaken. (let all = law.stays untaken in (all.0, all_follow (λ s. s ≡ store) store xs ys refl all.1 f));
}

-- what comes before the first of them is the same store
pub law_before : (how : How) (size : ℕ) (store message : List ℕ) (ending : Ending) (olds xs : List Store) → AllByRecursion (λ s. s ≡ store) olds → WriteLaw how size store message ending xs
    → WriteLaw how size store message ending (olds ++ xs)
law_before how size store message ending [] xs all law = law
law_before how size store message ending (o ∷ olds) xs all law =
    let later : WriteLaw how size store message ending (olds ++ xs) = law_before how size store message ending olds xs all.1 law in
    record {
      takes = λ place takes.
          (let p : Passes how size store message place ending (olds ++ xs) = later.takes place takes in
          record {
            three = more_three (λ s. s ≡ store) (IsEmptied how size place store) (IsWritten how size message place store) o (olds ++ xs) all.0 p.three;
            leaves = subst (λ s. LeavesStore how size message place store ending (last_store s (olds ++ xs))) (sym all.0) p.leaves;
          });
      stays = λ untaken. (all.0, later.stays untaken);
    }
