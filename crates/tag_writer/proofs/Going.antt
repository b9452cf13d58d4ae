-- A write goes on, and how it stops.
use Rattle.std.proofs.Common.{◌≡◌, ◌⊎◌, inl, inr, ℕ, suc, ◌<◌, List, [], ◌∷◌, ◌++◌, length, take, None, refl, sym, ◌∙◌, ap, subst, append_assoc, append-nil, arith}
use Rattle.std.specs.List.{AllByRecursion}
use Rattle.nfc_base.specs.Signal.{Signal}
use Rattle.nfc_base.specs.TagLinks.{LinkView, TagState, TagStep, passed, images, after_all, Leads, PassInThree}
use Rattle.nfc_base.proofs.Leading.{all_append, all_map, leads_on, passed_on, rises_on, after_append}
use Rattle.tag_reader.specs.Survey.{surveyed}
use Rattle.tag_writer.specs.Puts.{Put, put_into, after_puts, commands_of}
use Rattle.tag_writer.specs.WriteAsked.{refusal_in, refused_by, last_command}
use Rattle.tag_writer.specs.Law.{IsEmptied, IsWritten, last_store}
use Rattle.tag_writer.specs.Puttings.{Obeyed, Accepts, Makes, IsPutOf}
use Rattle.tag_writer.specs.Phases.{WriteJob, Since}
use Rattle.tag_writer.proofs.Asking.{last_snoc, refused_at, commands_append}
use Rattle.tag_writer.proofs.Tags.{IsUnder, state_behind, under_on}

-- the images of what was obeyed last, of one kind
new_images : (P : List ℕ → Type 0) (b c : LinkView) (d : Signal) (o : Obeyed b c d) → P (b.step b.state d).after.store → AllByRecursion P (passed b.step b.state o.more)
new_images P b c d o here = all_map (λ t. t ≡ (b.step b.state d).after.store) P (passed b.step b.state o.more) (λ t e. subst P (sym e) here) o.images'

images_on : (j : WriteJob) (a b c : LinkView) (puts : List Put) (d : Signal) (s : Since j a b puts) (o : Obeyed b c d)
    → images a (s.more ++ o.more) ≡ (s.before ++ s.during) ++ passed b.step b.state o.more
images_on j a b c puts d s o =
    ap (λ ys. a.state.store ∷ ys) (passed_on a b c s.more o.more s.leads o.leads) ∙ ap (λ ys. ys ++ passed b.step b.state o.more) s.joined

-- the view behind one command more, by the step at which the writing began
state_on : (j : WriteJob) (a b c : LinkView) (puts : List Put) (p : Put) → Since j a b puts → Accepts j.how b c p.command
    → c.state ≡ after_all a.step (surveyed j.how a.state) (commands_of (puts ++ p ∷ []))
state_on j a b c puts p s x =
    x.0.state ∙ ap (λ st. (st b.state p.command).after) s.leads.step ∙ ap (λ t. (a.step t p.command).after) s.state
    ∙ sym (after_append a.step (surveyed j.how a.state) (commands_of puts) (p.command ∷ []))
    ∙ sym (ap (λ cs. after_all a.step (surveyed j.how a.state) cs) (commands_append puts (p ∷ [])))

pub answer_at : (j : WriteJob) (a b : LinkView) (puts : List Put) (d : Signal) → Since j a b puts
    → (b.step b.state d).answer ≡ (a.step (after_all a.step (surveyed j.how a.state) (commands_of puts)) d).answer
answer_at j a b puts d s = ap (λ st. (st b.state d).answer) s.leads.step ∙ ap (λ t. (a.step t d).answer) s.state

pub accepted_on : (j : WriteJob) (a b c : LinkView) (puts : List Put) (p : Put) → Since j a b puts → Accepts j.how b c p.command
    → refused_by j.how a.step (surveyed j.how a.state) (commands_of (puts ++ p ∷ [])) ≡ None
accepted_on j a b c puts p s x =
    let here : refusal_in j.how (a.step (after_all a.step (surveyed j.how a.state) (commands_of puts)) p.command).answer ≡ None =
    ap (refusal_in j.how) (sym (answer_at j a b puts p.command s)) ∙ x.1 in
    ap (λ cs. refused_by j.how a.step (surveyed j.how a.state) cs) (commands_append puts (p ∷ []))
    ∙ refused_at j.how a.step (surveyed j.how a.state) (commands_of puts) p.command [] s.accepted
    ∙ rw here refl

-- what was asked, with one command more
pub answered_on : (j : WriteJob) (a b c : LinkView) (puts : List Put) (p : Put) → (s : Since j a b puts) → Accepts j.how b c p.command
    → c.answered ≡ a.answered ++ (s.read ++ commands_of (puts ++ p ∷ []))
answered_on j a b c puts p s x =
    x.0.answered ∙ ap (λ ys. ys ++ p.command ∷ []) s.answered ∙ append_assoc a.answered (s.read ++ commands_of puts) (p.command ∷ [])
    ∙ ap (λ ys. a.answered ++ ys) (append_assoc s.read (commands_of puts) (p.command ∷ []) ∙ ap (λ ys. s.read ++ ys) (sym (commands_append puts (p ∷ []))))

pub last_on : (j : WriteJob) (a b c : LinkView) (puts : List Put) (p : Put) → (s : Since j a b puts) → Accepts j.how b c p.command
    → c.last ≡ last_command a.last (s.read ++ commands_of (puts ++ p ∷ []))
last_on j a b c puts p s x =
    x.0.last ∙ sym (ap (λ cs. last_command a.last cs) (ap (λ ys. s.read ++ ys) (commands_append puts (p ∷ [])) ∙ sym (append_assoc s.read (commands_of puts) (p.command ∷ [])))
    ∙ last_snoc a.last (s.read ++ commands_of puts) p.command)

-- One write more, that leaves the empty message.
pub since_one : (j : WriteJob) (a b c : LinkView) (p : Put) (puts : List Put) → Since j a b puts → IsUnder j.how j.size j.store b → IsPutOf j.how j.size j.store p → Accepts j.how b c p.command →
    IsEmptied j.how j.size j.place j.store (put_into b.state.store p) → Since j a c (puts ++ p ∷ [])
since_one j a b c p puts s under is x empty =
    let behind : c.state ≡ record b.state { store = put_into b.state.store p } = state_behind j.how j.size j.store b c p under is x in
    let same : (b.step b.state p.command).after.store ≡ put_into b.state.store p = ap (λ t. t.store) (sym x.0.state ∙ behind) in
    let E : List ℕ → Type 0 = IsEmptied j.how j.size j.place j.store in
    let new : List (List ℕ) = passed b.step b.state x.0.obeyed.more in
    record {
      store = s.store;
      more = s.more ++ x.0.obeyed.more;
      leads = leads_on a b c s.more x.0.obeyed.more s.leads x.0.obeyed.leads;
      before = s.before;
      during = s.during ++ new;
      joined = images_on j a b c puts p.command s x.0.obeyed ∙ append_assoc s.before s.during new;
      olds = s.olds;
      empties = all_append E s.during new s.empties (new_images E b c p.command x.0.obeyed (subst E (sym same) empty));
      now = inr (subst E (sym (ap (λ t. t.store) behind)) empty);
      rises = rises_on a b c s.rises x.0.obeyed.rises;
      begun = s.begun;
      goes_on = record { over = x.0.goes_on.over; lit = x.0.goes_on.lit; counts = x.0.goes_on.counts ∙ s.goes_on.counts };
      read = s.read;
      all = s.all;
      answered = answered_on j a b c puts p s x;
      last = last_on j a b c puts p s x;
      state = state_on j a b c puts p s x;
      accepted = accepted_on j a b c puts p s x;
    }

-- several, each of which leaves the empty message
pub since_makes : (j : WriteJob) (a b c : LinkView) (puts ps : List Put) → Since j a b puts → IsUnder j.how j.size j.store b → AllByRecursion (IsPutOf j.how j.size j.store) ps → Makes j.how b ps c →
    ((n : ℕ) → n < length ps → IsEmptied j.how j.size j.place j.store (after_puts b.state.store (take (suc n) ps))) → Since j a c (puts ++ ps)
since_makes j a b c puts [] s under all m empty =
    subst (λ v. Since j a v (puts ++ [])) (sym m) (subst (λ qs. Since j a b qs) (sym (append-nil puts)) s)
since_makes j a b c puts (p ∷ ps) s under all m empty =
    let v : LinkView = m.0 in
    let one : Since j a v (puts ++ p ∷ []) = since_one j a b v p puts s under all.0 m.1 (empty 0 (omega arith)) in
    let next : IsUnder j.how j.size j.store v = under_on j.how j.size j.store b v p under all.0 m.1 in
    let store : v.state.store ≡ put_into b.state.store p = ap (λ t. t.store) (state_behind j.how j.size j.store b v p under all.0 m.1) in
    let rest : Since j a c ((puts ++ p ∷ []) ++ ps) = since_makes j a v c (puts ++ p ∷ []) ps one next all.1 m.2
    (λ n low. subst (λ t. IsEmptied j.how j.size j.place j.store (after_puts t (take (suc n) ps))) (sym store) (empty (suc n) (omega (arith, low)))) in
    subst (λ qs. Since j a c qs) (append_assoc puts (p ∷ []) ps) rest

-- The kinds of stores that one command more may leave: the one before, or one that holds the empty message, or the new one.
pub data Kinds (j : WriteJob) (before s : List ℕ) : Type 0 where
  Same : s ≡ before → Kinds j before s
  Empty : IsEmptied j.how j.size j.place j.store s → Kinds j before s
  New : IsWritten j.how j.size j.message j.place j.store s → Kinds j before s

abbrev pub Three : WriteJob → List (List ℕ) → Type 0
Three j xs = PassInThree (λ s. s ≡ j.store) (IsEmptied j.how j.size j.place j.store) (IsWritten j.how j.size j.message j.place j.store) xs

pub three_on : (j : WriteJob) (a b c : LinkView) (puts : List Put) (d : Signal) (s : Since j a b puts) (o : Obeyed b c d) → Kinds j b.state.store (b.step b.state d).after.store
    → Three j (images a (s.more ++ o.more))
three_on j a b c puts d s o (Same e) = by_now s.now
  where
    new : List (List ℕ)
    new = passed b.step b.state o.more

    by_now : ((b.state.store ≡ j.store) × (s.during ≡ [])) ⊎ IsEmptied j.how j.size j.place j.store b.state.store → Three j (images a (s.more ++ o.more))
    by_now (inl old) = record {
      before = s.before ++ new;
      during = [];
      behind = [];
      joined = images_on j a b c puts d s o ∙ ap (λ ys. (s.before ++ ys) ++ new) old.1 ∙ ap (λ ys. ys ++ new) (append-nil s.before) ∙ sym (append-nil (s.before ++ new));
      olds = all_append (λ t. t ≡ j.store) s.before new s.olds (new_images (λ t. t ≡ j.store) b c d o (e ∙ old.0));
      empties = tt;
      news = tt;
    }
    by_now (inr empty) = record {
      before = s.before;
      during = s.during ++ new;
      behind = [];
      joined = images_on j a b c puts d s o ∙ append_assoc s.before s.during new ∙ ap (λ ys. s.before ++ ys) (sym (append-nil (s.during ++ new)));
      olds = s.olds;
      empties = all_append (IsEmptied j.how j.size j.place j.store) s.during new s.empties (new_images (IsEmptied j.how j.size j.place j.store) b c d o
          (subst (IsEmptied j.how j.size j.place j.store) (sym e) empty));
      news = tt;
    }
three_on j a b c puts d s o (Empty here) =
    let new : List (List ℕ) = passed b.step b.state o.more in
    record {
      before = s.before;
      during = s.during ++ new;
      behind = [];
      joined = images_on j a b c puts d s o ∙ append_assoc s.before s.during new ∙ ap (λ ys. s.before ++ ys) (sym (append-nil (s.during ++ new)));
      olds = s.olds;
      empties = all_append (IsEmptied j.how j.size j.place j.store) s.during new s.empties (new_images (IsEmptied j.how j.size j.place j.store) b c d o here);
      news = tt;
    }
three_on j a b c puts d s o (New here) =
    let new : List (List ℕ) = passed b.step b.state o.more in
    record {
      before = s.before;
      during = s.during;
      behind = new;
      joined = images_on j a b c puts d s o ∙ append_assoc s.before s.during new;
      olds = s.olds;
      empties = s.empties;
      news = new_images (IsWritten j.how j.size j.message j.place j.store) b c d o here;
    }

-- the last of the images is the store that is left
pub last_passed : (step : TagState → Signal → TagStep) (s : TagState) (cs : List Signal) → last_store s.store (passed step s cs) ≡ (after_all step s cs).store
last_passed step s [] = refl
last_passed step s (c ∷ cs) = last_passed step (step s c).after cs

pub last_image : (a b : LinkView) (store : List ℕ) (more : List Signal) → Leads a b more → last_store store (images a more) ≡ b.state.store
last_image a b store more leads = last_passed a.step a.state more ∙ sym leads.store
