-- A field in which all devices but one are silent: what is said there is said by that one alone, and the others go on beside it.
use Rattle.std.proofs.Common.{◌≡◌, ℕ, suc, List, [], ◌∷◌, ◌++◌, length, Bool, Option, None, false, refl, sym, ◌∙◌, ap, subst}
use Rattle.std.specs.Prelude.{map}
use Rattle.std.specs.List.{AllByRecursion, filter_map, cons_option}
use Rattle.nfc_base.specs.Signal.{Signal}
use Rattle.nfc_base.specs.Trace.{by_fate, heard_by}
use Rattle.nfc_base.specs.Far.{Untouched}
use Rattle.nfc_base.specs.declared.event.Event.{Event}
use Rattle.nfc_base.specs.declared.event.Event.TheVariants.{Reset, Request, Answer, Clash}
use Rattle.nfc_base.specs.declared.event.Fate.{Fate}
use Rattle.nfc_base.specs.declared.event.Fate.TheVariants.{Pass, Damage, Lose, Break}
use Rattle.air_core.specs.Joint.{Joint, Nothing, Single, Clashing, joint}
use Rattle.air_core.specs.Conversation.{Note, note, Next, joint_events, joint_back, replay, turn_events}
use Rattle.air_core.specs.Quiet.{EachQuiet}
use Rattle.air_core.specs.World.{Machine, hands_over, answered_by, stepped_by}
use Rattle.far_air.specs.FarEnds.{FarTable, numbers_left, rests, later_fars}
use Rattle.far_air.specs.FarWorld.{FarWorld, AllMet, met_first, reply_at, device_after, far_after, all_meet, meeting, far_stepped, far_dark, far_happens, far_air}
use Rattle.far_air.specs.FarLaws.{shown}
use Rattle.far_air.proofs.Meeting.{OneUnasked, one_unasked, meets_unasked, met_same}
use Rattle.link_numbers.proofs.far.FarCourse.{Made, AllLit, all_events, all_noted, all_world, made_events, made_note, made_world}

-- the devices around one, with their far ends
pub record Around (L F : Type 0) : Type 0 where
  pub before : List L
  pub behind : List L
  pub firsts : List (Option F)
  pub lasts : List (Option F)

module _ {L F : Type 0} (m : Machine L) (linked : L → Bool) (t : FarTable F) where
  -- a device among others, and the device alone
  abbrev pub amid : Around L F → Bool → L → Option F → List ℕ → FarWorld L F
  amid x lit d o ns = record { field = record { lit = lit; listeners = x.before ++ d ∷ x.behind }; fars = x.firsts ++ o ∷ x.lasts; numbers = ns }

  abbrev pub alone : Bool → L → Option F → List ℕ → FarWorld L F
  alone lit d o ns = record { field = record { lit = lit; listeners = d ∷ [] }; fars = o ∷ []; numbers = ns }

  -- what a frame that passed makes of the others, and the dark
  abbrev silent_step : List L → Signal → List L
  silent_step ls f = map (λ l. stepped_by m l f None) ls

  abbrev pub around_stepped : Around L F → Signal → Around L F
  around_stepped x f = record {
    before = silent_step x.before f;
    behind = silent_step x.behind f;
    firsts = shown linked t (silent_step x.before f) x.firsts;
    lasts = shown linked t (silent_step x.behind f) x.lasts;
  }

  abbrev pub around_dark : Around L F → Around L F
  around_dark x = record { before = map m.darkened x.before; behind = map m.darkened x.behind; firsts = map (rests t) x.firsts; lasts = map (rests t) x.lasts }

  abbrev pub around_after : Around L F → Event → Around L F
  around_after x Reset = x
  around_after x (Request f y) = by_fate y (around_stepped x f) x (around_dark x)
  around_after x (Answer g y) = by_fate y x x (around_dark x)
  around_after x (Clash g y) = by_fate y x x (around_dark x)

  abbrev pub around_all : Around L F → List Event → Around L F
  around_all x [] = x
  around_all x (e ∷ es) = around_all (around_after x e) es

  -- The others are so, and where they are so they are silent at such a frame, and stay so; and in the dark.
  module _ (Is : L → Type 0) (Asks : Signal → Type 0) where
    pub record IsSilent (l : L) (f : Signal) : Type 0 where
      pub quiet : hands_over m l f ≡ Untouched
      pub silent : answered_by m l f None ≡ None
      pub stays : Is (stepped_by m l f None)

    pub record AreAround (x : Around L F) : Type 0 where
      pub first : AllByRecursion Is x.before
      pub later : AllByRecursion Is x.behind
      pub places : length x.firsts ≡ length x.before

    module _ (silent : (l : L) (f : Signal) → Asks f → Is l → IsSilent l f) (dark : (l : L) → Is l → Is (m.darkened l)) where
      all_quiet : (ls : List L) (f : Signal) → Asks f → AllByRecursion Is ls → EachQuiet m f ls
      all_quiet [] f k a = tt
      all_quiet (l ∷ ls) f k a = ((silent l f k a.0).quiet, all_quiet ls f k a.1)

      all_silent : (ls : List L) (f : Signal) → Asks f → AllByRecursion Is ls → filter_map (λ l. answered_by m l f None) ls ≡ []
      all_silent [] f k a = refl
      all_silent (l ∷ ls) f k a =
          ap (λ o. cons_option o (filter_map (λ x. answered_by m x f None) ls)) (silent l f k a.0).silent ∙ all_silent ls f k a.1

      all_stay : (ls : List L) (f : Signal) → Asks f → AllByRecursion Is ls → AllByRecursion Is (silent_step ls f)
      all_stay [] f k a = tt
      all_stay (l ∷ ls) f k a = ((silent l f k a.0).stays, all_stay ls f k a.1)

      all_dark : (ls : List L) → AllByRecursion Is ls → AllByRecursion Is (map m.darkened ls)
      all_dark [] a = tt
      all_dark (l ∷ ls) a = (dark l a.0, all_dark ls a.1)

      -- the device met the frame, in the midst of the others
      abbrev met_amid : List L → List L → List (Option F) → List (Option F) → Signal → L → Option F → List ℕ → AllMet L F
      met_amid before behind firsts lasts f d o ns = record {
        listeners = silent_step before f ++ device_after m linked t d f o ns ∷ silent_step behind f;
        fars = shown linked t (silent_step before f) firsts ++ far_after m linked t d f o ns ∷ shown linked t (silent_step behind f) lasts;
        answers = cons_option (answered_by m d f (reply_at m linked t d f o ns)) [];
        numbers = numbers_left (reply_at m linked t d f o ns) ns;
      }

      meets_amid : (before behind : List L) (firsts lasts : List (Option F)) (f : Signal) (d : L) (o : Option F) (ns : List ℕ) → length firsts ≡ length before
          → Asks f → AllByRecursion Is before → AllByRecursion Is behind
          → all_meet m linked t f (before ++ d ∷ behind) (firsts ++ o ∷ lasts) ns ≡ met_amid before behind firsts lasts f d o ns
      meets_amid [] behind [] lasts f d o ns p k a b =
          let r : Option (List ℕ) = reply_at m linked t d f o ns in
          ap (met_first (device_after m linked t d f o ns) (far_after m linked t d f o ns) (answered_by m d f r))
          (meets_unasked m linked t f behind lasts (numbers_left r ns) (all_quiet behind f k b))
          ∙ ap (λ (said : List Signal). met_first (device_after m linked t d f o ns) (far_after m linked t d f o ns) (answered_by m d f r)
          (record { listeners = silent_step behind f; fars = shown linked t (silent_step behind f) lasts; answers = said; numbers = numbers_left r ns }))
          (all_silent behind f k b)
      meets_amid [] behind (p ∷ firsts) lasts f d o ns e k a b = absurd cc
      meets_amid (l ∷ before) behind [] lasts f d o ns e k a b = absurd cc
      meets_amid (l ∷ before) behind (p ∷ firsts) lasts f d o ns e k a b =
          let one : OneUnasked m linked t l f p ns = one_unasked m linked t l f p ns (silent l f k a.0).quiet in
          let less : length firsts ≡ length before = cc in
          met_same _ _ _ _ _ _ _ _ one.device one.far (one.answer ∙ (silent l f k a.0).silent)
          (ap (all_meet m linked t f (before ++ d ∷ behind) (firsts ++ o ∷ lasts)) one.numbers ∙ meets_amid before behind firsts lasts f d o ns less k a.1 b)

      shown_long : (ls : List L) (os : List (Option F)) → length (shown linked t ls os) ≡ length ls
      shown_long [] os = refl
      shown_long (l ∷ ls) os = ap suc (shown_long ls (later_fars os))

      map_long : {X Y : Type 0} (f : X → Y) (xs : List X) → length (map f xs) ≡ length xs
      map_long f [] = refl
      map_long f (x ∷ xs) = ap suc (map_long f xs)

      map_amid : {X Y : Type 0} (f : X → Y) (xs : List X) (x : X) (ys : List X) → map f (xs ++ x ∷ ys) ≡ map f xs ++ f x ∷ map f ys
      map_amid f [] x ys = refl
      map_amid f (z ∷ xs) x ys = ap (λ zs. f z ∷ zs) (map_amid f xs x ys)

      stepped_around : (x : Around L F) (f : Signal) → Asks f → AreAround x → AreAround (around_stepped x f)
      stepped_around x f k a = record {
        first = all_stay x.before f k a.first;
        later = all_stay x.behind f k a.later;
        places = shown_long (silent_step x.before f) x.firsts;
      }

      dark_around : (x : Around L F) → AreAround x → AreAround (around_dark x)
      dark_around x a = record {
        first = all_dark x.before a.first;
        later = all_dark x.behind a.later;
        places = map_long (rests t) x.firsts ∙ a.places ∙ sym (map_long m.darkened x.before);
      }

      -- A world in the midst and one alone: they are of the same device, with others around it that are so.
      pub record IsAmid (x : Around L F) (w v : FarWorld L F) : Type 0 where
        pub lit : Bool
        pub device : L
        pub far : Option F
        pub numbers : List ℕ
        pub here : w ≡ amid x lit device far numbers
        pub apart : v ≡ alone lit device far numbers
        pub others : AreAround x

      amid_dark : (x : Around L F) (lit : Bool) (d : L) (o : Option F) (ns : List ℕ) → far_dark m linked t (amid x lit d o ns) ≡ amid (around_dark x) false (m.darkened d) (rests t o) ns
      amid_dark x lit d o ns =
          let W : List L → List (Option F) → FarWorld L F = λ ls os. record { field = record { lit = false; listeners = ls }; fars = os; numbers = ns } in
          ap (λ ls. W ls (map (rests t) (x.firsts ++ o ∷ x.lasts))) (map_amid m.darkened x.before d x.behind)
          ∙ ap (λ os. W (map m.darkened x.before ++ m.darkened d ∷ map m.darkened x.behind) os) (map_amid (rests t) x.firsts o x.lasts)

      amid_met : (x : Around L F) (lit : Bool) (d : L) (o : Option F) (ns : List ℕ) (f : Signal) → Asks f → AreAround x
          → meeting m linked t (amid x lit d o ns) f ≡ met_amid x.before x.behind x.firsts x.lasts f d o ns
      amid_met x lit d o ns f k a = meets_amid x.before x.behind x.firsts x.lasts f d o ns a.places k a.first a.later

      stepped : (x : Around L F) (w v : FarWorld L F) (f : Signal) → Asks f → IsAmid x w v → IsAmid (around_stepped x f) (far_stepped m linked t w f) (far_stepped m linked t v f)
      stepped x w v f k a = record {
        lit = a.lit;
        device = device_after m linked t a.device f a.far a.numbers;
        far = far_after m linked t a.device f a.far a.numbers;
        numbers = numbers_left (reply_at m linked t a.device f a.far a.numbers) a.numbers;
        here = ap (λ z. far_stepped m linked t z f) a.here
            ∙ ap (λ (z : AllMet L F). record { field = record { lit = a.lit; listeners = z.listeners }; fars = z.fars; numbers = z.numbers }) (amid_met x a.lit a.device a.far a.numbers f k a.others);
        apart = ap (λ z. far_stepped m linked t z f) a.apart;
        others = stepped_around x f k a.others;
      }

      pub darkened : (x : Around L F) (w v : FarWorld L F) → IsAmid x w v → IsAmid (around_dark x) (far_dark m linked t w) (far_dark m linked t v)
      darkened x w v a = record {
        lit = false;
        device = m.darkened a.device;
        far = rests t a.far;
        numbers = a.numbers;
        here = ap (far_dark m linked t) a.here ∙ amid_dark x a.lit a.device a.far a.numbers;
        apart = ap (far_dark m linked t) a.apart;
        others = dark_around x a.others;
      }

      -- the world of the device alone, in the midst of the others
      abbrev pub placed : Around L F → FarWorld L F → FarWorld L F
      placed x v = record {
        field = record { lit = v.field.lit; listeners = x.before ++ (v.field.listeners ++ x.behind) };
        fars = x.firsts ++ (v.fars ++ x.lasts);
        numbers = v.numbers;
      }

      pub is_placed : (x : Around L F) (w v : FarWorld L F) → IsAmid x w v → w ≡ placed x v
      is_placed x w v a = a.here ∙ ap (placed x) (sym a.apart)

      -- one event
      abbrev AsksAt : Event → Type 0
      AsksAt Reset = ⊥
      AsksAt (Request f y) = Asks f
      AsksAt (Answer g y) = Unit {0}
      AsksAt (Clash g y) = Unit {0}

      requested : (x : Around L F) (w v : FarWorld L F) (f : Signal) (y : Fate) → Asks f → IsAmid x w v
          → IsAmid (around_after x (Request f y)) (far_happens m linked t w (Request f y)) (far_happens m linked t v (Request f y))
      requested x w v f Pass k a = stepped x w v f k a
      requested x w v f Damage k a = a
      requested x w v f Lose k a = a
      requested x w v f Break k a = darkened x w v a

      came_back : (x : Around L F) (w v : FarWorld L F) (g : Signal) (y : Fate) → IsAmid x w v
          → IsAmid (around_after x (Answer g y)) (far_happens m linked t w (Answer g y)) (far_happens m linked t v (Answer g y))
      came_back x w v g Pass a = a
      came_back x w v g Damage a = a
      came_back x w v g Lose a = a
      came_back x w v g Break a = darkened x w v a

      happened : (x : Around L F) (w v : FarWorld L F) (e : Event) → AsksAt e → IsAmid x w v → IsAmid (around_after x e) (far_happens m linked t w e) (far_happens m linked t v e)
      happened x w v Reset k a = absurd k
      happened x w v (Request f y) k a = requested x w v f y k a
      happened x w v (Answer g y) k a = came_back x w v g y a
      happened x w v (Clash g y) k a = came_back x w v g y a

      abbrev AllAskAt : List Event → Type 0
      AllAskAt [] = Unit {0}
      AllAskAt (e ∷ es) = AsksAt e × AllAskAt es

      replayed : (es : List Event) (x : Around L F) (w v : FarWorld L F) → AllAskAt es → IsAmid x w v
          → IsAmid (around_all x es) (replay (far_air m linked t) w es) (replay (far_air m linked t) v es)
      replayed [] x w v k a = a
      replayed (e ∷ es) x w v k a =
          replayed es (around_after x e) (far_happens m linked t w e) (far_happens m linked t v e) k.1 (happened x w v e k.0 a)

      -- one turn
      same_said : (x : Around L F) (w v : FarWorld L F) (f : Signal) → Asks f → IsAmid x w v → (meeting m linked t w f).answers ≡ (meeting m linked t v f).answers
      same_said x w v f k a =
          ap (λ z. (meeting m linked t z f).answers) a.here ∙ ap (λ (z : AllMet L F). z.answers) (amid_met x a.lit a.device a.far a.numbers f k a.others)
          ∙ sym (ap (λ z. (meeting m linked t z f).answers) a.apart)

      pub same_joint : (x : Around L F) (w v : FarWorld L F) (f : Signal) → Asks f → IsAmid x w v → (far_air m linked t).joint w f ≡ (far_air m linked t).joint v f
      same_joint x w v f k a = ap joint (same_said x w v f k a)

      pub same_turn : (x : Around L F) (w v : FarWorld L F) (q : Made) → Asks q.frame → IsAmid x w v → made_events (far_air m linked t) w q ≡ made_events (far_air m linked t) v q
      same_turn x w v q k a = ap (λ j. Request q.frame q.fate ∷ by_fate q.fate (joint_events j q.back) [] []) (same_joint x w v q.frame k a)

      joint_asks : (j : Joint) (y : Fate) → AllAskAt (joint_events j y)
      joint_asks Nothing y = tt
      joint_asks (Single g) y = (tt, tt)
      joint_asks (Clashing g) y = (tt, tt)

      turn_asks : (v : FarWorld L F) (f : Signal) (x y : Fate) → Asks f → AllAskAt (turn_events (far_air m linked t) v f x y)
      turn_asks v f Pass y k = (k, joint_asks ((far_air m linked t).joint v f) y)
      turn_asks v f Damage y k = (k, tt)
      turn_asks v f Lose y k = (k, tt)
      turn_asks v f Break y k = (k, tt)

      pub turned : (x : Around L F) (w v : FarWorld L F) (q : Made) → Asks q.frame → IsAmid x w v
          → IsAmid (around_all x (made_events (far_air m linked t) v q)) (made_world (far_air m linked t) w q) (made_world (far_air m linked t) v q)
      turned x w v q k a =
          let E : List Event = made_events (far_air m linked t) v q in
          subst (λ es. IsAmid (around_all x E) (replay (far_air m linked t) w es) (made_world (far_air m linked t) v q)) (sym (same_turn x w v q k a))
          (replayed E x w v (turn_asks v q.frame q.fate q.back k) a)

      -- turns one after another
      abbrev pub AllAsk : List Made → Type 0
      AllAsk [] = Unit {0}
      AllAsk (q ∷ qs) = Asks q.frame × AllAsk qs

      around_more : (x : Around L F) (a b : List Event) → around_all x (a ++ b) ≡ around_all (around_all x a) b
      around_more x [] b = refl
      around_more x (e ∷ a) b = around_more (around_after x e) a b

      pub all_same : (qs : List Made) (x : Around L F) (w v : FarWorld L F) → AllAsk qs → IsAmid x w v
          → (all_events (far_air m linked t) w qs ≡ all_events (far_air m linked t) v qs)
          × IsAmid (around_all x (all_events (far_air m linked t) v qs)) (all_world (far_air m linked t) w qs) (all_world (far_air m linked t) v qs)
      all_same [] x w v k a = (refl, a)
      all_same (q ∷ qs) x w v k a =
          let E : List Event = made_events (far_air m linked t) v q in
          let one = turned x w v q k.0 a in
          let rest = all_same qs (around_all x E) (made_world (far_air m linked t) w q) (made_world (far_air m linked t) v q) k.1 one in
          let W : FarWorld L F = all_world (far_air m linked t) w (q ∷ qs) in
          let V : FarWorld L F = all_world (far_air m linked t) v (q ∷ qs) in (
            ap (λ es. es ++ all_events (far_air m linked t) (made_world (far_air m linked t) w q) qs) (same_turn x w v q k.0 a) ∙ ap (λ es. E ++ es) rest.0,
            subst (λ y. IsAmid y W V) (sym (around_more x E (all_events (far_air m linked t) (made_world (far_air m linked t) v q) qs))) rest.1,
          )

      pub same_lit : (x : Around L F) (w v : FarWorld L F) → IsAmid x w v → w.field.lit ≡ v.field.lit
      same_lit x w v a = ap (λ (z : FarWorld L F). z.field.lit) a.here ∙ sym (ap (λ (z : FarWorld L F). z.field.lit) a.apart)

      pub lit_amid : (qs : List Made) (x : Around L F) (w v : FarWorld L F) → AllAsk qs → IsAmid x w v → AllLit (far_air m linked t) v qs → AllLit (far_air m linked t) w qs
      lit_amid [] x w v k a l = tt
      lit_amid (q ∷ qs) x w v k a l = (
        same_lit x w v a ∙ l.0,
        lit_amid qs (around_all x (made_events (far_air m linked t) v q)) (made_world (far_air m linked t) w q) (made_world (far_air m linked t) v q) k.1 (turned x w v q k.0 a) l.1,
      )

      module _ {C : Type 0} (due : C → Next) (noted : C → Note → C) where
        pub same_note : (x : Around L F) (w v : FarWorld L F) (q : Made) → Asks q.frame → IsAmid x w v → made_note (far_air m linked t) w q ≡ made_note (far_air m linked t) v q
        same_note x w v q k a = ap (λ j. note (heard_by q.fate (joint_back j q.back))) (same_joint x w v q.frame k a)

        pub noted_alone : (qs : List Made) (x : Around L F) (w v : FarWorld L F) (c : C) → AllAsk qs → IsAmid x w v
            → all_noted (far_air m linked t) due noted w c qs ≡ all_noted (far_air m linked t) due noted v c qs
        noted_alone [] x w v c k a = refl
        noted_alone (q ∷ qs) x w v c k a =
            let W : FarWorld L F = made_world (far_air m linked t) w q in
            let V : FarWorld L F = made_world (far_air m linked t) v q in
            ap (λ n. all_noted (far_air m linked t) due noted W (noted c n) qs) (same_note x w v q k.0 a)
            ∙ noted_alone qs (around_all x (made_events (far_air m linked t) v q)) W V (noted c (made_note (far_air m linked t) v q)) k.1 (turned x w v q k.0 a)
