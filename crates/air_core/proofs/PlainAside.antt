-- What a tag is asked that is alone in its field: nobody else hears it or answers.
use Rattle.std.proofs.Common.{◌≡◌, ℕ, suc, List, [], ◌∷◌, ◌++◌, length, true, false, if◌then◌else◌, Option, None, refl, sym, ◌∙◌, ap, subst}
use Rattle.std.specs.Prelude.{map}
use Rattle.std.specs.List.{AllByRecursion, filter_map, cons_option}
use Rattle.nfc_base.specs.declared.frame.Tech.{Tech}
use Rattle.nfc_base.specs.declared.frame.Tech.TheVariants.{A, V, F}
use Rattle.nfc_base.specs.Signal.{Signal, whole_a}
use Rattle.nfc_base.specs.Far.{Untouched}
use Rattle.nfc_base.specs.TagLinks.{MayAsk, addressed, addressed_f, IsNamedIn, IsAddressedIn}
use Rattle.air_core.specs.Joint.{same_tech}
use Rattle.air_core.specs.World.{hears, hands_over, answered_by, stepped_by}
use Rattle.air_core.specs.Quiet.{EachQuiet}
use Rattle.air_core.specs.Listening.{StaysSame}
use Rattle.air_core.specs.PlainTags.{plain_kind, IsAside, IsAlone}
use Rattle.air_core.specs.declared.listener.Listener.{Ghosts}

-- the laws of listeners
pub record Laws {L : Type 0} (k : Ghosts L) : Type 0 where
  pub step_keeps : (l : L) (f : Signal) (reply : Option (List ℕ)) → StaysSame k.machine.tech k.identifier k.commands l (k.machine.after l f reply)
  pub dark_keeps : (l : L) → StaysSame k.machine.tech k.identifier k.commands l (k.machine.darkened l) × (k.store (k.machine.darkened l) ≡ k.store l)
  pub dark_rests : (l : L) → (k.is_ready (k.machine.darkened l) ≡ false) × (k.is_selected (k.machine.darkened l) ≡ false)
  pub rests : (l : L) (bytes : List ℕ) → k.machine.tech l ≡ A → k.is_ready l ≡ false → k.is_selected l ≡ false
      → (k.machine.handed l (whole_a bytes) ≡ Untouched) × (k.machine.answer l (whole_a bytes) None ≡ None) × (k.is_ready (k.machine.after l (whole_a bytes) None) ≡ false)
      × (k.is_selected (k.machine.after l (whole_a bytes) None) ≡ false)
  pub ignores : (l : L) (other : List ℕ) (f : Signal) → IsAddressedIn (k.machine.tech l) other f → (other ≡ k.identifier l → ⊥)
      → (k.machine.handed l f ≡ Untouched) × (k.machine.answer l f None ≡ None)

module _ {L : Type 0} (k : Ghosts L) (laws : Laws k) where
  -- another listener at a frame: it is silent, and stays aside
  pub record IsUnmoved (own : List ℕ) (f : Signal) (l : L) : Type 0 where
    pub quiet : hands_over k.machine l f ≡ Untouched
    pub silent : answered_by k.machine l f None ≡ None
    pub aside : IsAside k own (stepped_by k.machine l f None)

  deaf : (own : List ℕ) (f : Signal) (l : L) → hears k.machine l f ≡ false → IsAside k own l → IsUnmoved own f l
  deaf own f l e a = record {
    quiet = ap (λ v. if v then k.machine.handed l f else Untouched) e;
    silent = ap (λ v. if v then k.machine.answer l f None else None) e;
    aside = let P : L → Type 0 = IsAside k own in subst P (sym (ap (λ v. if v then k.machine.after l f None else l) e)) a;
  }

  hearing : (own : List ℕ) (f : Signal) (l : L) → hears k.machine l f ≡ true → k.machine.handed l f ≡ Untouched → k.machine.answer l f None ≡ None
      → IsAside k own (k.machine.after l f None) → IsUnmoved own f l
  hearing own f l e q s a = record {
    quiet = ap (λ v. if v then k.machine.handed l f else Untouched) e ∙ q;
    silent = ap (λ v. if v then k.machine.answer l f None else None) e ∙ s;
    aside = let P : L → Type 0 = IsAside k own in subst P (sym (ap (λ v. if v then k.machine.after l f None else l) e)) a;
  }

  other_stays : (own : List ℕ) (f : Signal) (l : L) → (own ≡ k.identifier l → ⊥) → own ≡ k.identifier (k.machine.after l f None) → ⊥
  other_stays own f l o e = o (e ∙ (laws.step_keeps l f None).identifier')

  by_a : (own bytes : List ℕ) (l : L) → IsAside k own l → (u : Tech) → k.machine.tech l ≡ u → IsUnmoved own (whole_a bytes) l
  by_a own bytes l a A e =
      let rest = a.rests e in
      let law = laws.rests l bytes e rest.0 rest.1 in
      hearing own (whole_a bytes) l (ap (λ t. same_tech t A) e) law.0 law.1
      (record { rests = λ h. (law.2, law.3); other = other_stays own (whole_a bytes) l a.other })
  by_a own bytes l a V e = deaf own (whole_a bytes) l (ap (λ t. same_tech t A) e) a
  by_a own bytes l a F e = deaf own (whole_a bytes) l (ap (λ t. same_tech t A) e) a

  by_v : (own : List ℕ) (code : ℕ) (rest : List ℕ) (l : L) → IsNamedIn V own → IsAside k own l → (u : Tech) → k.machine.tech l ≡ u → IsUnmoved own (addressed own code rest) l
  by_v own code rest l named a A e = deaf own (addressed own code rest) l (ap (λ t. same_tech t V) e) a
  by_v own code rest l named a V e =
      let f : Signal = addressed own code rest in
      let P : Tech → Type 0 = λ t. IsAddressedIn t own f in
      let law = laws.ignores l own f (subst P (sym e) (named, record { code = code; rest = rest; frame = refl })) a.other in
      let tech : k.machine.tech (k.machine.after l f None) ≡ V = (laws.step_keeps l f None).tech' ∙ e in
      hearing own f l (ap (λ t. same_tech t V) e) law.0 law.1
      (record { rests = λ h. absurd cc; other = other_stays own f l a.other })
  by_v own code rest l named a F e = deaf own (addressed own code rest) l (ap (λ t. same_tech t V) e) a

  by_f : (own : List ℕ) (size code : ℕ) (rest : List ℕ) (l : L) → IsNamedIn F own → IsAside k own l → (u : Tech) → k.machine.tech l ≡ u → IsUnmoved own (addressed_f own size code rest) l
  by_f own size code rest l named a A e = deaf own (addressed_f own size code rest) l (ap (λ t. same_tech t F) e) a
  by_f own size code rest l named a V e = deaf own (addressed_f own size code rest) l (ap (λ t. same_tech t F) e) a
  by_f own size code rest l named a F e =
      let f : Signal = addressed_f own size code rest in
      let P : Tech → Type 0 = λ t. IsAddressedIn t own f in
      let law = laws.ignores l own f (subst P (sym e) (named, record { size = size; code = code; rest = rest; frame = refl })) a.other in
      let tech : k.machine.tech (k.machine.after l f None) ≡ F = (laws.step_keeps l f None).tech' ∙ e in
      hearing own f l (ap (λ t. same_tech t F) e) law.0 law.1
      (record { rests = λ h. absurd cc; other = other_stays own f l a.other })

  pub aside_silent : (own : List ℕ) (t : Tech) (f : Signal) → MayAsk (plain_kind t) own f → IsNamedIn t own → (l : L) → IsAside k own l → IsUnmoved own f l
  aside_silent own A f may named l a = let P : Signal → Type 0 = λ g. IsUnmoved own g l in subst P (sym may) (by_a own f.bytes l a (k.machine.tech l) refl)
  aside_silent own V f may named l a = let P : Signal → Type 0 = λ g. IsUnmoved own g l in subst P (sym may.frame) (by_v own may.code may.rest l named a (k.machine.tech l) refl)
  aside_silent own F f may named l a = let P : Signal → Type 0 = λ g. IsUnmoved own g l in subst P (sym may.frame) (by_f own may.size may.code may.rest l named a (k.machine.tech l) refl)

  -- the tag's technology is that of what it may be asked
  pub may_tech : (own : List ℕ) (t : Tech) (f : Signal) → MayAsk (plain_kind t) own f → f.tech ≡ t
  may_tech own A f may = ap (λ g. g.tech) may
  may_tech own V f may = ap (λ g. g.tech) may.frame
  may_tech own F f may = ap (λ g. g.tech) may.frame

  aside_dark : (own : List ℕ) (l : L) → IsAside k own l → IsAside k own (k.machine.darkened l)
  aside_dark own l a = record { rests = λ h. laws.dark_rests l; other = λ e. a.other (e ∙ (laws.dark_keeps l).0.identifier') }

  dark_all : (own : List ℕ) (ls : List L) → AllByRecursion (IsAside k own) ls → AllByRecursion (IsAside k own) (map k.machine.darkened ls)
  dark_all own [] a = tt
  dark_all own (l ∷ ls) a = (aside_dark own l a.0, dark_all own ls a.1)

  map_split : (g : L → L) (before : List L) (l : L) (behind : List L) → map g (before ++ l ∷ behind) ≡ map g before ++ g l ∷ map g behind
  map_split g [] l behind = refl
  map_split g (x ∷ before) l behind = ap (λ xs. g x ∷ xs) (map_split g before l behind)

  map_length : (g : L → L) (before : List L) → length (map g before) ≡ length before
  map_length g [] = refl
  map_length g (x ∷ before) = ap suc (map_length g before)

  -- the field goes dark
  pub alone_dark : (own : List ℕ) (ls : List L) (place : ℕ) (l : L) → IsAlone k own ls place l → IsAlone k own (map k.machine.darkened ls) place (k.machine.darkened l)
  alone_dark own ls place l a = record {
    before = map k.machine.darkened a.before;
    behind = map k.machine.darkened a.behind;
    split = ap (map k.machine.darkened) a.split ∙ map_split k.machine.darkened a.before l a.behind;
    stands = map_length k.machine.darkened a.before ∙ a.stands;
    first = dark_all own a.before a.first;
    later = dark_all own a.behind a.later;
  }

  module _ (own : List ℕ) (f : Signal) (all : (l : L) → IsAside k own l → IsUnmoved own f l) where
    quiet_aside : (ls : List L) → AllByRecursion (IsAside k own) ls → EachQuiet k.machine f ls
    quiet_aside [] a = tt
    quiet_aside (l ∷ ls) a = ((all l a.0).quiet, quiet_aside ls a.1)

    quiet_split : (before : List L) (l : L) (behind : List L) → AllByRecursion (IsAside k own) before → AllByRecursion (IsAside k own) behind
        → hands_over k.machine l f ≡ Untouched → EachQuiet k.machine f (before ++ l ∷ behind)
    quiet_split [] l behind a b q = (q, quiet_aside behind b)
    quiet_split (x ∷ before) l behind a b q = ((all x a.0).quiet, quiet_split before l behind a.1 b q)

    step_all : (ls : List L) → AllByRecursion (IsAside k own) ls → AllByRecursion (IsAside k own) (map (λ l. stepped_by k.machine l f None) ls)
    step_all [] a = tt
    step_all (l ∷ ls) a = ((all l a.0).aside, step_all ls a.1)

    says_nothing : (ls : List L) → AllByRecursion (IsAside k own) ls → filter_map (λ l. answered_by k.machine l f None) ls ≡ []
    says_nothing [] a = refl
    says_nothing (l ∷ ls) a =
        ap (λ o. cons_option o (filter_map (λ x. answered_by k.machine x f None) ls)) (all l a.0).silent ∙ says_nothing ls a.1

    says_one : (before : List L) (l : L) (behind : List L) → AllByRecursion (IsAside k own) before → AllByRecursion (IsAside k own) behind
        → filter_map (λ x. answered_by k.machine x f None) (before ++ l ∷ behind) ≡ cons_option (answered_by k.machine l f None) []
    says_one [] l behind a b = ap (cons_option (answered_by k.machine l f None)) (says_nothing behind b)
    says_one (x ∷ before) l behind a b =
        ap (λ o. cons_option o (filter_map (λ y. answered_by k.machine y f None) (before ++ l ∷ behind))) (all x a.0).silent ∙ says_one before l behind a.1 b

    -- the tag alone hears the frame
    pub alone_quiet : (ls : List L) (place : ℕ) (l : L) → IsAlone k own ls place l → hands_over k.machine l f ≡ Untouched → EachQuiet k.machine f ls
    alone_quiet ls place l a q = let P : List L → Type 0 = EachQuiet k.machine f in subst P (sym a.split) (quiet_split a.before l a.behind a.first a.later q)

    pub alone_says : (ls : List L) (place : ℕ) (l : L) → IsAlone k own ls place l → filter_map (λ x. answered_by k.machine x f None) ls ≡ cons_option (answered_by k.machine l f None) []
    alone_says ls place l a = ap (filter_map (λ x. answered_by k.machine x f None)) a.split ∙ says_one a.before l a.behind a.first a.later

    pub alone_steps : (ls : List L) (place : ℕ) (l : L) → IsAlone k own ls place l
        → IsAlone k own (map (λ x. stepped_by k.machine x f None) ls) place (stepped_by k.machine l f None)
    alone_steps ls place l a =
        let g : L → L = λ x. stepped_by k.machine x f None in
        record {
          before = map g a.before;
          behind = map g a.behind;
          split = ap (map g) a.split ∙ map_split g a.before l a.behind;
          stands = map_length g a.before ∙ a.stands;
          first = step_all a.before a.first;
          later = step_all a.behind a.later;
        }
