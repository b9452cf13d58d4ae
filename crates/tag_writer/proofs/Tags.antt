-- What a tag of each kind does at a write of a job, and that it stays such a tag.
use Rattle.std.proofs.Common.{◌≡◌, ℕ, ◌+◌, ◌/◌, ◌%◌, ◌<◌, ◌≤◌, List, [], ◌∷◌, ◌++◌, length, refl, sym, ◌∙◌, ap, subst, arith}
use Rattle.std.specs.Prelude.{slice_index}
use Rattle.std.specs.List.{AllByRecursion}
use Rattle.std.proofs.lemmas.List.{get_or-take, length-drop}
use Rattle.nfc_base.specs.TagLinks.{TagState, LinkView, MayAsk, Type2, Type4, Type5}
use Rattle.t2t_tag.specs.Store.{IsT2Store, block_count}
use Rattle.t5t_tag.proofs.Stores.{still_store}
use Rattle.tag_reader.specs.declared.how.How.{How}
use Rattle.tag_reader.specs.declared.how.How.TheVariants.{T2, T4, T5}
use Rattle.tag_reader.specs.Kinds.{IsTag, IsStore}
use Rattle.tag_reader.specs.Files.{container_end, t4_link_step}
use Rattle.tag_reader.proofs.FileReading.{tag_store}
use Rattle.tag_writer.specs.Puts.{Put, put_into, after_puts, block_put, block_command, update_put}
use Rattle.tag_writer.specs.Puttings.{IsPutOf, IsUpdatePut, Accepts, Makes}
use Rattle.tag_writer.specs.Phases.{IsNear}
use Rattle.tag_writer.proofs.Places.{length_put, front_put}
use Rattle.tag_writer.proofs.Doing.{Does, t2_does, t2_may, t5_does, t5_may}
use Rattle.tag_writer.proofs.FileDoing.{HasFiles, own_files, updated, t4_does, t4_may}

-- what no write of a job changes of a store: its length, and the container of a Type 4 tag with its file's length
abbrev pub KeepsFiles : How → List ℕ → List ℕ → Type 0
KeepsFiles T2 base store = Unit {0}
KeepsFiles T4 base store = HasFiles base store
KeepsFiles (T5 id) base store = Unit {0}

pub record IsLike (how : How) (size : ℕ) (base store : List ℕ) : Type 0 where
  pub store' : IsStore how size store
  pub long : length store ≡ length base
  pub files : KeepsFiles how base store

pub like_itself : (how : How) (size : ℕ) (store : List ℕ) → IsStore how size store → IsLike how size store store
like_itself T2 size store is = record { store' = is; long = refl; files = tt }
like_itself T4 size store is = record { store' = is; long = refl; files = own_files store }
like_itself (T5 id) size store is = record { store' = is; long = refl; files = tt }

-- a write that a tag does
pub record CanDo (how : How) (v : LinkView) (p : Put) : Type 0 where
  pub may : MayAsk v.kind v.identifier p.command
  pub does : Does how v.state p (v.step v.state p.command)

t2_byte : (s : List ℕ) (p : Put) (i : ℕ) → i < 16 → 16 ≤ p.at → p.at + length p.bytes ≤ length s → slice_index (put_into s p) i ≡ slice_index s i
t2_byte s p i low behind within = sym (get_or-take 16 (put_into s p) i 0 low) ∙ ap (λ xs. slice_index xs i) (front_put 16 s p behind within) ∙ get_or-take 16 s i 0 low

t2_still : (s : List ℕ) (p : Put) → 16 ≤ p.at → p.at + length p.bytes ≤ length s → IsT2Store s → IsT2Store (put_into s p)
t2_still s p behind within is =
    let long : length (put_into s p) ≡ length s = length_put s p within in
    let count : block_count (put_into s p) ≡ block_count s = ap (λ n. n / 4) long in
    let magic = t2_byte s p 12 (omega arith) behind within in
    let area = t2_byte s p 14 (omega arith) behind within in
    record {
      whole = ap (λ n. n % 4) long ∙ is.whole;
      least = omega (arith, count, is.least);
      most = omega (arith, count, is.most);
      area = λ has small. (let room = is.area (sym magic ∙ has) (omega (arith, area, small)) in omega (arith, count, area, room));
    }

pub like_put : (how : How) (size : ℕ) (base s : List ℕ) (p : Put) → IsPutOf how size base p → IsLike how size base s → IsLike how size base (put_into s p)
like_put T2 size base s p is like =
    let b : Put = block_put T2 size is.step in
    let within : b.at + length b.bytes ≤ length s = omega (arith, like.long, is.within, is.content) in
    let behind : 16 ≤ b.at = omega (arith, is.behind) in
    subst (λ q. IsLike T2 size base (put_into s q)) (sym is.put) (record {
      store' = (like.store'.0, t2_still s b behind within like.store'.1);
      long = length_put s b within ∙ like.long;
      files = tt;
    })
like_put T4 size base s p is like =
    let new = updated base s p like.store' like.files is in
    let end : p.at ≡ container_end base + is.offset = ap (λ q. q.at) is.put in
    let within : p.at + length p.bytes ≤ length s = omega (arith, end, is.within, length-drop (container_end base) base, like.long) in
    record { store' = new.store'; long = length_put s p within ∙ like.long; files = new.files }
like_put (T5 id) size base s p is like =
    let b : Put = block_put (T5 id) size is.step in
    let within : b.at + length b.bytes ≤ length s = omega (arith, like.long, is.within, is.content) in
    subst (λ q. IsLike (T5 id) size base (put_into s q)) (sym is.put) (record {
      store' = still_store size s (put_into s b) (length_put s b within) like.store';
      long = length_put s b within ∙ like.long;
      files = tt;
    })

pub like_puts : (how : How) (size : ℕ) (base s : List ℕ) (ps : List Put) → AllByRecursion (IsPutOf how size base) ps → IsLike how size base s → IsLike how size base (after_puts s ps)
like_puts how size base s [] all like = like
like_puts how size base s (p ∷ ps) all like = like_puts how size base (put_into s p) ps all.1 (like_put how size base s p all.0 like)

pub can_do : (how : How) (size : ℕ) (base : List ℕ) (v : LinkView) (p : Put) → IsTag how size v → IsNear how v.state → IsLike how size base v.state.store → IsPutOf how size base p → CanDo how v p
can_do T2 size base v p tag near like is = subst (λ q. CanDo T2 v q) (sym is.put) (record {
  may = subst (λ k. MayAsk k v.identifier (block_command T2 is.step)) (sym tag.kind) (t2_may v.identifier is.step);
  does = subst (λ t. Does T2 v.state (block_put T2 size is.step) t) (sym (tag.steps.1 v.state (block_command T2 is.step) tag.store.1 refl)) (t2_does tag.steps.0 size v.state is.step is.content);
})
can_do T4 size base v p tag near like is =
    let q : Put = update_put base is.offset p.bytes in
    let may : MayAsk Type4 v.identifier q.command = t4_may base v.identifier p is.offset (omega (arith, is.most)) in
    let u : IsUpdatePut base q = subst (IsUpdatePut base) is.put is in
    let does : Does T4 v.state q (t4_link_step tag.steps.0 v.state q.command) = t4_does tag.steps.0 base v.state is.offset p.bytes (tag_store size v tag) like.files near.1 u is.within in
    subst (λ x. CanDo T4 v x) (sym is.put) (record {
      may = subst (λ k. MayAsk k v.identifier q.command) (sym tag.kind) may;
      does = subst (λ t. Does T4 v.state q t) (sym (tag.steps.2 v.state q.command like.store' may)) does;
    })
can_do (T5 id) size base v p tag near like is = subst (λ q. CanDo (T5 id) v q) (sym is.put) (record {
  may = subst (λ k. MayAsk k v.identifier (block_command (T5 id) is.step)) (sym tag.kind) (subst (λ i. MayAsk Type5 i (block_command (T5 id) is.step)) (sym tag.named.0) (t5_may id is.step));
  does = subst (λ t. Does (T5 id) v.state (block_put (T5 id) size is.step) t) (sym (tag.steps.2 v.state (block_command (T5 id) is.step) tag.store (t5_may id is.step)))
      (t5_does id size tag.steps.0 tag.steps.1 v.state is.step (record { id = tag.named.1; bytes = tag.named.2; store = tag.store }) is.content);
})

-- a tag behind a write that it did
pub tag_by : (how : How) (size : ℕ) (a b : LinkView) → IsTag how size a → b.kind ≡ a.kind → b.identifier ≡ a.identifier → b.step ≡ a.step → IsStore how size b.state.store → IsTag how size b
tag_by T2 size a b is kind identifier step store = record {
  kind = kind ∙ is.kind;
  named = tt;
  store = store;
  steps = (is.steps.0, λ t c st may. ap (λ f. f t c) step ∙ is.steps.1 t c st (subst (λ i. MayAsk Type2 i c) identifier may));
}
tag_by T4 size a b is kind identifier step store = record {
  kind = kind ∙ is.kind;
  named = tt;
  store = store;
  steps = (is.steps.0, is.steps.1, λ t c st may. ap (λ f. f t c) step ∙ is.steps.2 t c st (subst (λ i. MayAsk Type4 i c) identifier may));
}
tag_by (T5 id) size a b is kind identifier step store = record {
  kind = kind ∙ is.kind;
  named = (identifier ∙ is.named.0, is.named.1, is.named.2);
  store = store;
  steps = (is.steps.0, is.steps.1, λ t c st may. ap (λ f. f t c) step ∙ is.steps.2 t c st may);
}

pub near_by : (how : How) (s : TagState) (store : List ℕ) → IsNear how s → IsNear how (record s { store = store })
near_by T2 s store near = near
near_by T4 s store near = near
near_by (T5 id) s store near = near

-- A tag as writes leave it: one of its kind, as near, and with a store that is like that of the job.
pub record IsUnder (how : How) (size : ℕ) (base : List ℕ) (v : LinkView) : Type 0 where
  pub tag : IsTag how size v
  pub near : IsNear how v.state
  pub like : IsLike how size base v.state.store

pub state_behind : (how : How) (size : ℕ) (base : List ℕ) (a b : LinkView) (p : Put) → IsUnder how size base a → IsPutOf how size base p → Accepts how a b p.command
    → b.state ≡ record a.state { store = put_into a.state.store p }
state_behind how size base a b p under is x = x.0.state ∙ (can_do how size base a p under.tag under.near under.like is).does.done x.1

pub under_on : (how : How) (size : ℕ) (base : List ℕ) (a b : LinkView) (p : Put) → IsUnder how size base a → IsPutOf how size base p → Accepts how a b p.command → IsUnder how size base b
under_on how size base a b p under is x =
    let state : b.state ≡ record a.state { store = put_into a.state.store p } = state_behind how size base a b p under is x in
    let like : IsLike how size base b.state.store = subst (λ s. IsLike how size base s) (sym (ap (λ s. s.store) state)) (like_put how size base a.state.store p is under.like) in
    record {
      tag = tag_by how size a b under.tag x.0.obeyed.leads.kind x.0.obeyed.leads.identifier x.0.obeyed.leads.step like.store';
      near = subst (λ s. IsNear how s) (sym state) (near_by how a.state (put_into a.state.store p) under.near);
      like = like;
    }

-- the same behind writes that were made one after another
pub under_makes : (how : How) (size : ℕ) (base : List ℕ) (a b : LinkView) (ps : List Put) → IsUnder how size base a → AllByRecursion (IsPutOf how size base) ps → Makes how a ps b
    → IsUnder how size base b
under_makes how size base a b [] under all m = subst (λ v. IsUnder how size base v) (sym m) under
under_makes how size base a b (p ∷ ps) under all m = under_makes how size base m.0 b ps (under_on how size base a m.0 p under all.0 m.1) all.1 m.2

pub store_makes : (how : How) (size : ℕ) (base : List ℕ) (a b : LinkView) (ps : List Put) → IsUnder how size base a → AllByRecursion (IsPutOf how size base) ps → Makes how a ps b
    → b.state.store ≡ after_puts a.state.store ps
store_makes how size base a b [] under all m = ap (λ v. v.state.store) m
store_makes how size base a b (p ∷ ps) under all m =
    let behind = state_behind how size base a m.0 p under all.0 m.1 in
    store_makes how size base m.0 b ps (under_on how size base a m.0 p under all.0 m.1) all.1 m.2 ∙ ap (λ s. after_puts s ps) (ap (λ s. s.store) behind)

-- one write more
pub makes_more : (how : How) (a b c : LinkView) (ps : List Put) (p : Put) → Makes how a ps b → Accepts how b c p.command → Makes how a (ps ++ p ∷ []) c
makes_more how a b c [] p m x = (c, subst (λ v. Accepts how v c p.command) m x, refl)
makes_more how a b c (q ∷ ps) p m x = (m.0, m.1, makes_more how m.0 b c ps p m.2 x)
