-- Devices that meet a frame: where none hands anything over, or one at most, whose far end is the code's.
use Rattle.std.proofs.Common.{◌≡◌, ℕ, zero, suc, List, [], ◌∷◌, Bool, true, false, if◌then◌else◌, Option, Some, None, refl, sym, ◌∙◌, ap, subst}
use Rattle.std.specs.Prelude.{map}
use Rattle.std.specs.List.{filter_map, cons_option}
use Rattle.nfc_base.specs.Signal.{Signal}
use Rattle.nfc_base.specs.Far.{FarUse, Untouched, Restarts, Hands, FarDid}
use Rattle.air_core.specs.World.{Machine, hears, hands_over, answered_by, stepped_by}
use Rattle.air_core.specs.Listening.{Step}
use Rattle.air_core.specs.Turn.{Meets, HearAll}
use Rattle.air_core.specs.Quiet.{EachQuiet}
use Rattle.nfc_base.specs.Choosing.{Choosing, first_number}
use Rattle.far_air.specs.FarEnds.{FarTable, numbers_left, first_far, later_fars, reply_to, moved, by_link}
use Rattle.far_air.specs.FarWorld.{AllMet, met_first, reply_at, device_after, far_after, all_meet}
use Rattle.far_air.specs.FarLaws.{IsFarTable, IsLinked, IsOfTable, with_far, shown}
use Rattle.far_air.specs.FarTurns.{QuietBut}
use Rattle.far_air.proofs.Showing.{link_kept, stepped_unlinked}

pub met_same : {L F : Type 0} (l l' : L) (o o' : Option F) (a a' : Option Signal) (r r' : AllMet L F) → l ≡ l' → o ≡ o' → a ≡ a' → r ≡ r' → met_first l o a r ≡ met_first l' o' a' r'
met_same l l' o o' a a' r r' d e s k =
    ap (λ x. met_first x o a r) d ∙ ap (λ x. met_first l' x a r) e ∙ ap (λ x. met_first l' o' x r) s ∙ ap (λ x. met_first l' o' a' x) k

module _ {L F : Type 0} (m : Machine L) (linked : L → Bool) (t : FarTable F) where
  -- a device that hands nothing over, whatever its far end is
  pub record OneUnasked (l : L) (f : Signal) (o : Option F) (ns : List ℕ) : Type 0 where
    pub device : device_after m linked t l f o ns ≡ stepped_by m l f None
    pub far : far_after m linked t l f o ns ≡ by_link t (linked (stepped_by m l f None)) o
    pub answer : answered_by m l f (reply_at m linked t l f o ns) ≡ answered_by m l f None
    pub numbers : numbers_left (reply_at m linked t l f o ns) ns ≡ ns

  pub one_unasked : (l : L) (f : Signal) (o : Option F) (ns : List ℕ) → hands_over m l f ≡ Untouched → OneUnasked l f o ns
  one_unasked l f o ns q =
      let n : ℕ = first_number ns in
      let r : reply_at m linked t l f o ns ≡ None = ap (λ u. reply_to t u o n) q in
      let d : device_after m linked t l f o ns ≡ stepped_by m l f None = ap (stepped_by m l f) r in
      record {
        device = d;
        far = ap (λ z. by_link t (linked z) (moved t (hands_over m l f) o n)) d ∙ ap (λ u. by_link t (linked (stepped_by m l f None)) (moved t u o n)) q;
        answer = ap (answered_by m l f) r;
        numbers = ap (λ z. numbers_left z ns) r;
      }

  -- devices that hand nothing over, whatever their far ends are
  abbrev pub unasked : Signal → List L → List (Option F) → List ℕ → AllMet L F
  unasked f ls os ns = record {
    listeners = map (λ l. stepped_by m l f None) ls;
    fars = shown linked t (map (λ l. stepped_by m l f None) ls) os;
    answers = filter_map (λ l. answered_by m l f None) ls;
    numbers = ns;
  }

  pub meets_unasked : (f : Signal) (ls : List L) (os : List (Option F)) (ns : List ℕ) → EachQuiet m f ls → all_meet m linked t f ls os ns ≡ unasked f ls os ns
  meets_unasked f [] os ns q = refl
  meets_unasked f (l ∷ ls) os ns q =
      let one : OneUnasked l f (first_far os) ns = one_unasked l f (first_far os) ns q.0 in
      met_same _ _ _ _ _ _ _ _ one.device one.far one.answer
      (ap (all_meet m linked t f ls (later_fars os)) one.numbers ∙ meets_unasked f ls (later_fars os) ns q.1)

module _ {L F : Type 0} (m : Machine L) (linked : L → Bool) (t : FarTable F) (links : IsLinked m linked) (laws : IsFarTable t) where
  -- what devices come to that hand nothing over
  abbrev pub met_quietly : Signal → List L → List (Option F) → List ℕ → AllMet L F
  met_quietly f ls os ns = record {
    listeners = map (λ l. stepped_by m l f None) ls;
    fars = shown linked t (map (λ l. stepped_by m l f None) ls) os;
    answers = filter_map (λ l. answered_by m l f None) ls;
    numbers = ns;
  }

  -- one that hands nothing over
  record OneQuiet (l : L) (f : Signal) (o : Option F) (ns : List ℕ) : Type 0 where
    device : device_after m linked t l f (by_link t (linked l) o) ns ≡ stepped_by m l f None
    far : far_after m linked t l f (by_link t (linked l) o) ns ≡ by_link t (linked (stepped_by m l f None)) o
    answer : answered_by m l f (reply_at m linked t l f (by_link t (linked l) o) ns) ≡ answered_by m l f None
    numbers : numbers_left (reply_at m linked t l f (by_link t (linked l) o) ns) ns ≡ ns

  one_quiet : (l : L) (f : Signal) (o : Option F) (ns : List ℕ) → hands_over m l f ≡ Untouched → OneQuiet l f o ns
  one_quiet l f o ns q =
      let k : OneUnasked m linked t l f (by_link t (linked l) o) ns = one_unasked m linked t l f (by_link t (linked l) o) ns q in
      record {
        device = k.device;
        far = k.far ∙ link_kept t laws (linked l) (linked (stepped_by m l f None)) o (stepped_unlinked m linked t links laws l f q);
        answer = k.answer;
        numbers = k.numbers;
      }

  pub meets_quietly : (f : Signal) (ls : List L) (os : List (Option F)) (ns : List ℕ) → EachQuiet m f ls
      → all_meet m linked t f ls (shown linked t ls os) ns ≡ met_quietly f ls os ns
  meets_quietly f [] os ns q = refl
  meets_quietly f (l ∷ ls) os ns q =
      let one : OneQuiet l f (first_far os) ns = one_quiet l f (first_far os) ns q.0 in
      met_same _ _ _ _ _ _ _ _ one.device one.far one.answer
      (ap (all_meet m linked t f ls (shown linked t ls (later_fars os))) one.numbers ∙ meets_quietly f ls (later_fars os) ns q.1)

  module _ {A : Type 0} (restarts : A → List ℕ → A → Type 0) (steps : A → List ℕ → List ℕ → A → Type 0) where
    -- listeners that hand nothing over leave the far end, and are those of the quiet air
    heard_alone : (f : Signal) (l : L) (far : A) (answer : Option Signal) (l' : L) (mid : A) → hands_over m l f ≡ Untouched → Meets m restarts steps f l far answer l' mid
        → (mid ≡ far) × (answer ≡ answered_by m l f None) × (l' ≡ stepped_by m l f None)
    heard_alone f l far answer l' mid q step =
        let P : FarUse → Type 0 = λ u. FarDid restarts steps u far step.reply mid in
        let did : (mid ≡ far) × (step.reply ≡ None) = subst P q step.far in
        (did.0, step.says ∙ ap (answered_by m l f) did.1, step.left ∙ ap (stepped_by m l f) did.1)

    heard_quietly : (f : Signal) (ls : List L) (far : A) (said : List Signal) (ls' : List L) (far' : A) → EachQuiet m f ls → HearAll m restarts steps f ls far said ls' far'
        → (said ≡ filter_map (λ l. answered_by m l f None) ls) × (ls' ≡ map (λ l. stepped_by m l f None) ls) × (far' ≡ far)
    heard_quietly f [] far said ls' far' q h = (h.0, h.1, h.2)
    heard_quietly f (l ∷ ls) far said ls' far' q h =
        let one = heard_alone f l far h.0 h.2 h.3 q.0 h.5 in
        let rest = heard_quietly f ls h.3 h.1 h.4 far' q.1 h.6 in (
          h.7 ∙ ap (λ o. cons_option o h.1) one.1 ∙ ap (cons_option (answered_by m l f None)) rest.0,
          h.8 ∙ ap (λ x. x ∷ h.4) one.2 ∙ ap (λ xs. stepped_by m l f None ∷ xs) rest.1,
          rest.2 ∙ one.0,
        )

    module _ (view : A → Choosing F) (kind : IsOfTable restarts steps t view) where
      -- the far end of a device of which the code's is this, as the world shows it
      abbrev far_of : L → A → Option F
      far_of l far = by_link t (linked l) (Some (view far).end)

      -- a device whose far end is the code's meets a frame
      pub record OneMet (l : L) (f : Signal) (far : A) (answer : Option Signal) (l' : L) (mid : A) : Type 0 where
        pub device : device_after m linked t l f (far_of l far) (view far).numbers ≡ l'
        pub far_is : far_after m linked t l f (far_of l far) (view far).numbers ≡ far_of l' mid
        pub says : answered_by m l f (reply_at m linked t l f (far_of l far) (view far).numbers) ≡ answer
        pub numbers : numbers_left (reply_at m linked t l f (far_of l far) (view far).numbers) (view far).numbers ≡ (view mid).numbers

      one_met : (l : L) (f : Signal) (far : A) (answer : Option Signal) (l' : L) (mid : A) (u : FarUse) (reply : Option (List ℕ))
          → hands_over m l f ≡ u → answer ≡ answered_by m l f reply → l' ≡ stepped_by m l f reply
          → reply_to t u (far_of l far) (first_number (view far).numbers) ≡ reply
          → by_link t (linked l') (moved t u (far_of l far) (first_number (view far).numbers)) ≡ far_of l' mid
          → numbers_left reply (view far).numbers ≡ (view mid).numbers → OneMet l f far answer l' mid
      one_met l f far answer l' mid u reply e says left k move n =
          let ns : List ℕ = (view far).numbers in
          let o : Option F = far_of l far in
          let r : reply_at m linked t l f o ns ≡ reply = ap (λ z. reply_to t z o (first_number ns)) e ∙ k in
          let d : device_after m linked t l f o ns ≡ l' = ap (stepped_by m l f) r ∙ sym left in
          record {
            device = d;
            far_is = ap (λ z. by_link t (linked z) (moved t (hands_over m l f) o (first_number ns))) d ∙ ap (λ z. by_link t (linked l') (moved t z o (first_number ns))) e ∙ move;
            says = ap (answered_by m l f) r ∙ sym says;
            numbers = ap (λ z. numbers_left z ns) r ∙ n;
          }

      restarted_shown : (v : Bool) (a : F) (general : List ℕ) (n : ℕ) → moved t (Restarts general) (by_link t v (Some a)) n ≡ Some (t.restarted a general)
      restarted_shown true a general n = refl
      restarted_shown false a general n = ap (λ z. Some z) (laws.anew a general)

      whole_shown : (v : Bool) (o : Option F) → v ≡ true → by_link t v o ≡ o
      whole_shown true o e = refl
      whole_shown false o e = absurd cc

      hears_payload : (l : L) (f : Signal) (payload : List ℕ) → hands_over m l f ≡ Hands payload → m.handed l f ≡ Hands payload
      hears_payload l f payload e = by_hearing (hears m l f) e
        where
          by_hearing : (v : Bool) → (if v then m.handed l f else Untouched) ≡ Hands payload → m.handed l f ≡ Hands payload
          by_hearing true e = e
          by_hearing false e = absurd cc

      one_by : (l : L) (f : Signal) (far : A) (answer : Option Signal) (l' : L) (mid : A) (u : FarUse) → hands_over m l f ≡ u
          → Step restarts steps u (answered_by m l f) (stepped_by m l f) far answer l' mid → OneMet l f far answer l' mid
      one_by l f far answer l' mid Untouched e s =
          let left : l' ≡ stepped_by m l f None = s.left ∙ ap (stepped_by m l f) s.far.1 in
          let stays : linked l ≡ false → linked l' ≡ false = λ v. ap linked left ∙ stepped_unlinked m linked t links laws l f e v in
          one_met l f far answer l' mid Untouched s.reply e s.says s.left (sym s.far.1)
          (link_kept t laws (linked l) (linked l') (Some (view far).end) stays ∙ ap (far_of l') (sym s.far.0))
          (ap (λ z. numbers_left z (view far).numbers) s.far.1 ∙ ap (λ z. (view z).numbers) (sym s.far.0))
      one_by l f far answer l' mid (Restarts general) e s =
          let k = sym (kind.restart far general mid s.far.0) in
          one_met l f far answer l' mid (Restarts general) s.reply e s.says s.left (sym s.far.1)
          (ap (by_link t (linked l')) (restarted_shown (linked l) (view far).end general (first_number (view far).numbers) ∙ ap (λ (z : Choosing F). Some z.end) k))
          (ap (λ z. numbers_left z (view far).numbers) s.far.1 ∙ ap (λ (z : Choosing F). z.numbers) k)
      one_by l f far answer l' mid (Hands payload) e s =
          let n : ℕ = first_number (view far).numbers in
          let k = sym (kind.left far payload s.far.0 mid s.far.1) in
          let has : linked l ≡ true = links.hands l f payload (hears_payload l f payload e) in
          let whole : far_of l far ≡ Some (view far).end = whole_shown (linked l) (Some (view far).end) has in
          one_met l f far answer l' mid (Hands payload) s.reply e s.says s.left
          (ap (λ z. reply_to t (Hands payload) z n) whole ∙ ap (λ z. Some z) (sym (kind.reply far payload s.far.0 mid s.far.1)) ∙ sym s.far.3)
          (ap (λ z. by_link t (linked l') (moved t (Hands payload) z n)) whole ∙ ap (λ (z : Choosing F). by_link t (linked l') (Some z.end)) k)
          (ap (λ z. numbers_left z (view far).numbers) s.far.3 ∙ ap (λ (z : Choosing F). z.numbers) k)

      -- devices before a frame meet it, the one at that place over the code's far end
      abbrev pub meet_at : Signal → List L → List (Option F) → ℕ → Choosing F → AllMet L F
      meet_at f ls os place a = all_meet m linked t f ls (shown linked t ls (with_far os place a.end)) a.numbers

      -- all of them have met it
      abbrev pub met_at : List L → List Signal → List (Option F) → ℕ → Choosing F → AllMet L F
      met_at ls said os place a = record { listeners = ls; fars = shown linked t ls (with_far os place a.end); answers = said; numbers = a.numbers }

      pub all_met : (f : Signal) (place : ℕ) (ls : List L) (os : List (Option F)) (far : A) (said : List Signal) (ls' : List L) (far' : A)
          → QuietBut m f place ls → HearAll m restarts steps f ls far said ls' far' → meet_at f ls os place (view far) ≡ met_at ls' said os place (view far')
      all_met f place [] os far said ls' far' q h =
          ap (λ z. met_at z [] os place (view far)) (sym h.1) ∙ ap (λ z. met_at ls' z os place (view far)) (sym h.0) ∙ ap (λ z. met_at ls' said os place (view z)) (sym h.2)
      all_met f zero (l ∷ ls) os far said ls' far' q h =
          let one : OneMet l f far h.0 h.2 h.3 = one_by l f far h.0 h.2 h.3 (hands_over m l f) refl h.5 in
          let rest = heard_quietly f ls h.3 h.1 h.4 far' q h.6 in
          let n : List ℕ = (view h.3).numbers in
          met_same _ _ _ _ _ _ _ _ one.device one.far_is one.says
          (ap (all_meet m linked t f ls (shown linked t ls (later_fars os))) one.numbers ∙ meets_quietly f ls (later_fars os) n q)
          ∙ ap (λ z. met_first h.2 (far_of h.2 h.3) h.0 (record { listeners = z; fars = shown linked t z (later_fars os); answers = filter_map (λ x. answered_by m x f None) ls; numbers = n }))
          (sym rest.1)
          ∙ ap (λ z. met_first h.2 (far_of h.2 h.3) h.0 (record { listeners = h.4; fars = shown linked t h.4 (later_fars os); answers = z; numbers = n })) (sym rest.0)
          ∙ ap (λ z. met_at (h.2 ∷ h.4) (cons_option h.0 h.1) os zero (view z)) (sym rest.2)
          ∙ ap (λ z. met_at z (cons_option h.0 h.1) os zero (view far')) (sym h.8) ∙ ap (λ z. met_at ls' z os zero (view far')) (sym h.7)
      all_met f (suc place) (l ∷ ls) os far said ls' far' q h =
          let one = heard_alone f l far h.0 h.2 h.3 q.0 h.5 in
          let o : Option F = first_far os in
          let k : OneQuiet l f o (view far).numbers = one_quiet l f o (view far).numbers q.0 in
          met_same _ _ _ _ _ _ _ _ k.device k.far k.answer
          (ap (all_meet m linked t f ls (shown linked t ls (with_far (later_fars os) place (view far).end))) k.numbers
          ∙ ap (λ z. meet_at f ls (later_fars os) place (view z)) (sym one.0) ∙ all_met f place ls (later_fars os) h.3 h.1 h.4 far' q.1 h.6)
          ∙ ap (λ z. met_first z (by_link t (linked z) o) (answered_by m l f None) (met_at h.4 h.1 (later_fars os) place (view far'))) (sym one.2)
          ∙ ap (λ z. met_first h.2 (by_link t (linked h.2) o) z (met_at h.4 h.1 (later_fars os) place (view far'))) (sym one.1)
          ∙ ap (λ z. met_at z (cons_option h.0 h.1) os (suc place) (view far')) (sym h.8) ∙ ap (λ z. met_at ls' z os (suc place) (view far')) (sym h.7)
