-- Turns in which each reply that a far end gives is no longer than a payload may be.
use Rattle.std.proofs.Common.{◌≡◌, ℕ, ◌≤◌, List, [], ◌∷◌, ◌++◌, length, Bool, true, Option, Some, sym, ◌∙◌, ap, subst, append_assoc}
use Rattle.std.specs.List.{AllByRecursion}
use Rattle.nfc_base.specs.Signal.{Signal}
use Rattle.nfc_base.specs.declared.event.Event.{Event}
use Rattle.nfc_base.specs.declared.event.Event.TheVariants.{Reset, Request, Answer, Clash}
use Rattle.nfc_base.specs.declared.event.Fate.{Fate}
use Rattle.nfc_base.specs.declared.event.Fate.TheVariants.{Pass, Damage, Lose, Break}
use Rattle.nfc_base.specs.Trace.{by_fate}
use Rattle.air_core.specs.Conversation.{AirModel, Note, Next, Asks, joint_events, receptions, replay, turn_events}
use Rattle.air_core.specs.laws.Turning.{receptions-append}
use Rattle.air_core.specs.World.{Machine}
use Rattle.dep_link.specs.Sizes.{limit}
use Rattle.far_air.specs.FarEnds.{FarTable, first_far, later_fars, numbers_left}
use Rattle.far_air.specs.FarWorld.{FarWorld, far_air, far_happens, reply_at}
use Rattle.far_air.proofs.Meeting.{one_unasked}
use Rattle.link_numbers.proofs.far.FarAlone.{AllAsk, Around, IsAmid, IsSilent, around_all, same_lit, same_note, turned}
use Rattle.link_numbers.proofs.far.FarCourse.{Dues, Made, all_events, made_events, made_note, made_world, noted_all, noted_more, turn_back, turn_note}

module _ {L F : Type 0} (m : Machine L) (linked : L → Bool) (t : FarTable F) where
  abbrev W : Type 0
  W = FarWorld L F

  abbrev air : AirModel W
  air = far_air m linked t

  -- so are the replies at a frame
  abbrev pub RepliesAt : Signal → List L → List (Option F) → List ℕ → Type 0
  RepliesAt f [] os ns = Unit {0}
  RepliesAt f (l ∷ ls) os ns =
      ((r : List ℕ) → reply_at m linked t l f (first_far os) ns ≡ Some r → length r ≤ limit)
      × RepliesAt f ls (later_fars os) (numbers_left (reply_at m linked t l f (first_far os) ns) ns)

  abbrev pub FitsAt : Fate → Signal → W → Type 0
  FitsAt Pass f w = RepliesAt f w.field.listeners w.fars w.numbers
  FitsAt Damage f w = Unit {0}
  FitsAt Lose f w = Unit {0}
  FitsAt Break f w = Unit {0}

  -- From this world on each reply in these events is so.
  abbrev pub RepliesFit : W → List Event → Type 0
  RepliesFit w [] = Unit {0}
  RepliesFit w (Reset ∷ es) = RepliesFit (far_happens m linked t w Reset) es
  RepliesFit w (Request f x ∷ es) = FitsAt x f w × RepliesFit (far_happens m linked t w (Request f x)) es
  RepliesFit w (Answer g x ∷ es) = RepliesFit (far_happens m linked t w (Answer g x)) es
  RepliesFit w (Clash g x ∷ es) = RepliesFit (far_happens m linked t w (Clash g x)) es

  fit_append : (a b : List Event) (w : W) → RepliesFit w (a ++ b) → RepliesFit w a × RepliesFit (replay air w a) b
  fit_append [] b w k = (tt, k)
  fit_append (Reset ∷ a) b w k = fit_append a b (far_happens m linked t w Reset) k
  fit_append (Request f x ∷ a) b w k = let r = fit_append a b (far_happens m linked t w (Request f x)) k.1 in ((k.0, r.0), r.1)
  fit_append (Answer g x ∷ a) b w k = fit_append a b (far_happens m linked t w (Answer g x)) k
  fit_append (Clash g x ∷ a) b w k = fit_append a b (far_happens m linked t w (Clash g x)) k

  fit_first : (w : W) (f : Signal) (x y : Fate) → RepliesFit w (turn_events air w f x y) → FitsAt x f w
  fit_first w f Pass y k = k.0
  fit_first w f Damage y k = tt
  fit_first w f Lose y k = tt
  fit_first w f Break y k = tt

  abbrev pub AllFit : W → List Made → Type 0
  AllFit w [] = Unit {0}
  AllFit w (q ∷ qs) = FitsAt q.fate q.frame w × AllFit (made_world air w q) qs

  pub all_fit : (qs : List Made) (w : W) → RepliesFit w (all_events air w qs) → AllFit w qs
  all_fit [] w k = tt
  all_fit (q ∷ qs) w k =
      let both = fit_append (made_events air w q) (all_events air (made_world air w q) qs) w k in
      (fit_first w q.frame q.fate q.back both.0, all_fit qs (made_world air w q) both.1)

  module _ {C : Type 0} (due : C → Next) (noted : C → Note → C) (Outs : C → Type 0) where
    -- so is what is carried at each of these turns
    abbrev pub AllOut : W → C → List Made → Type 0
    AllOut w c [] = Unit {0}
    AllOut w c (q ∷ qs) = Outs c × AllOut (made_world air w q) (noted c (made_note air w q)) qs

    -- where it is so before each request
    pub all_out : (first : C) (es : List Event) → ((before : List Event) (f : Signal) (x : Fate) (rest : List Event) → es ≡ before ++ Request f x ∷ rest
        → Outs (noted_all noted first (receptions before)))
        → (qs : List Made) (w : W) (before : List Event) → es ≡ before ++ all_events air w qs → AllOut w (noted_all noted first (receptions before)) qs
    all_out first es outs [] w before e = tt
    all_out first es outs (q ∷ qs) w before e =
        let E : List Event = made_events air w q in
        let rest : List Event = all_events air (made_world air w q) qs in
        let on : noted_all noted first (receptions (before ++ E)) ≡ noted (noted_all noted first (receptions before)) (made_note air w q) =
        ap (noted_all noted first) (receptions-append before E (turn_back air w q) ∙ ap (λ ns. receptions before ++ ns) (turn_note air w q.frame q.fate q.back))
        ∙ noted_more noted first (receptions before) (made_note air w q) in (
          outs before q.frame q.fate (by_fate q.fate (joint_events (air.joint w q.frame) q.back) [] [] ++ rest) e,
          subst (λ c. AllOut (made_world air w q) c qs) on (all_out first es outs qs (made_world air w q) (before ++ E) (e ∙ sym (append_assoc before E rest))),
        )

    -- Each of these turns is made in light, what is carried and its replies are so, and its request is the one that is due.
    abbrev pub DuesFit : W → C → List Made → Type 0
    DuesFit w c [] = Unit {0}
    DuesFit w c (q ∷ qs) =
        ((air.lit w ≡ true) × FitsAt q.fate q.frame w × Outs c) × (due c ≡ Asks q.frame) × DuesFit (made_world air w q) (noted c (made_note air w q)) qs

  -- likewise of the device alone
  module _ (Is : L → Type 0) (Asked : Signal → Type 0) (silent : (l : L) (f : Signal) → Asked f → Is l → IsSilent m linked t Is Asked l f) (dark : (l : L) → Is l → Is (m.darkened l)) where
    abbrev AmidOf : Around L F → W → W → Type 0
    AmidOf x w v = IsAmid m linked t Is Asked silent dark x w v

    replies_amid : (before behind : List L) (firsts lasts : List (Option F)) (f : Signal) (d : L) (o : Option F) (ns : List ℕ) → length firsts ≡ length before → Asked f → AllByRecursion Is before
        → RepliesAt f (before ++ d ∷ behind) (firsts ++ o ∷ lasts) ns → RepliesAt f (d ∷ []) (o ∷ []) ns
    replies_amid [] behind [] lasts f d o ns e k a h = (h.0, tt)
    replies_amid [] behind (p ∷ firsts) lasts f d o ns e k a h = absurd cc
    replies_amid (l ∷ before) behind [] lasts f d o ns e k a h = absurd cc
    replies_amid (l ∷ before) behind (p ∷ firsts) lasts f d o ns e k a h =
        let less : length firsts ≡ length before = cc in
        replies_amid before behind firsts lasts f d o ns less k a.1
        (subst (λ z. RepliesAt f (before ++ d ∷ behind) (firsts ++ o ∷ lasts) z) (one_unasked m linked t l f p ns (silent l f k a.0).quiet).numbers h.1)

    fits_alone : (x : Around L F) (w v : W) (y : Fate) (f : Signal) → Asked f → AmidOf x w v → FitsAt y f w → FitsAt y f v
    fits_alone x w v Pass f k a h =
        subst (λ z. FitsAt Pass f z) (sym a.apart)
        (replies_amid x.before x.behind x.firsts x.lasts f a.device a.far a.numbers a.others.places k a.others.first (subst (λ z. FitsAt Pass f z) a.here h))
    fits_alone x w v Damage f k a h = tt
    fits_alone x w v Lose f k a h = tt
    fits_alone x w v Break f k a h = tt

    pub dues_fit : {C : Type 0} (due : C → Next) (noted : C → Note → C) (Outs : C → Type 0) (qs : List Made) (x : Around L F) (w v : W) (c : C) → AllAsk m linked t Is Asked silent dark qs
        → AmidOf x w v
        → Dues air due noted w c qs → AllFit w qs → AllOut due noted Outs w c qs → DuesFit due noted Outs v c qs
    dues_fit due noted Outs [] x w v c k a d h o = tt
    dues_fit due noted Outs (q ∷ qs) x w v c k a d h o =
        let V : W = made_world air v q in (
          (sym (same_lit m linked t Is Asked silent dark x w v a) ∙ d.0, fits_alone x w v q.fate q.frame k.0 a h.0, o.0),
          d.1,
          dues_fit due noted Outs qs (around_all m linked t x (made_events air v q)) (made_world air w q) V (noted c (made_note air v q)) k.1 (turned m linked t Is Asked silent dark x w v q k.0 a)
              (subst (λ n. Dues air due noted (made_world air w q) (noted c n) qs) (same_note m linked t Is Asked silent dark due noted x w v q k.0 a) d.2) h.1
              (subst (λ n. AllOut due noted Outs (made_world air w q) (noted c n) qs) (same_note m linked t Is Asked silent dark due noted x w v q k.0 a) o.1),
        )
