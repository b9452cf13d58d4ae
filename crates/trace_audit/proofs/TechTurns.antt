-- What is answered has the technology of what was asked: a device hears frames of its own technology alone, and answers in it.
use Rattle.std.proofs.Common.{◌≡◌, ℕ, List, [], ◌∷◌, ◌++◌, map, Bool, true, false, if◌then◌else◌, Option, Some, None, refl, sym, ◌∙◌, subst}
use Rattle.std.specs.List.{AllByRecursion, cons_option}
use Rattle.nfc_base.specs.Bits.{bits, of_bits}
use Rattle.nfc_base.specs.Signal.{Signal}
use Rattle.nfc_base.specs.declared.event.Event.{Event}
use Rattle.nfc_base.specs.declared.event.Event.TheVariants.{Reset}
use Rattle.nfc_base.specs.declared.event.Fate.{Fate}
use Rattle.nfc_base.specs.declared.event.Fate.TheVariants.{Pass, Damage, Lose, Break}
use Rattle.nfc_base.specs.declared.frame.Tech.{Tech}
use Rattle.nfc_base.specs.declared.frame.Tech.TheVariants as techs
use Rattle.air_core.specs.Conversation.{AreTurns, Move, Light, Ask, joint_events, replay, trace_of, turn_events}
use Rattle.air_core.specs.Joint.{Joint, Nothing, Single, Clashing, all_same, common_all, joint, same_tech}
use Rattle.air_core.specs.World.{answered_by}
use Rattle.far_air.specs.FarEnds.{first_far, later_fars, numbers_left}
use Rattle.far_air.specs.FarWorld.{all_meet, meeting, reply_at}
use Rattle.peer_air.specs.PeerFars.{peer_ends}
use Rattle.bench_script.specs.declared.command.Command.{Command}
use Rattle.bench_devices.specs.declared.device.Device.{Device}
use Rattle.bench_devices.specs.Device.{devices, device_linked, device_tech}
use Rattle.bench_devices.specs.Keeping.{EachAsked}
use Rattle.bench_devices.specs.laws.Standing.{own_tech}
use Rattle.bench_world.specs.World.{FarEnd, WholeWorld, bench_air}
use Rattle.trace_audit.specs.Reading.{HaveTech, sent_tech}

-- a frame of a technology
abbrev pub IsOf : Tech → Signal → Type 0
IsOf t f = f.tech ≡ t

-- a request as a command sends it
abbrev pub IsSentBy : Command → Signal → Type 0
IsSentBy c f = f.tech ≡ sent_tech c f.bytes f.tail

one_tech : (t u : Tech) → same_tech t u ≡ true → t ≡ u
one_tech techs.A techs.A e = refl
one_tech techs.A techs.V e = absurd cc
one_tech techs.A techs.F e = absurd cc
one_tech techs.V techs.A e = absurd cc
one_tech techs.V techs.V e = refl
one_tech techs.V techs.F e = absurd cc
one_tech techs.F techs.A e = absurd cc
one_tech techs.F techs.V e = absurd cc
one_tech techs.F techs.F e = refl

-- one device, and all
answers_in : (f : Signal) (d : Device) (reply : Option (List ℕ)) (g : Signal) → answered_by devices d f reply ≡ Some g → IsOf f.tech g
answers_in f d reply g e = by_hearing (same_tech (device_tech d) f.tech) refl e
  where
    by_hearing : (v : Bool) → same_tech (device_tech d) f.tech ≡ v → (if v then devices.answer d f reply else None) ≡ Some g → IsOf f.tech g
    by_hearing true same said = own_tech d f g reply said ∙ one_tech (device_tech d) f.tech same
    by_hearing false other said = absurd cc

one_more : (t : Tech) (o : Option Signal) (gs : List Signal) → ((g : Signal) → o ≡ Some g → IsOf t g) → AllByRecursion (IsOf t) gs → AllByRecursion (IsOf t) (cons_option o gs)
one_more t None gs first all = all
one_more t (Some g) gs first all = (first g refl, all)

met_in : (f : Signal) (ds : List Device) (os : List (Option FarEnd)) (ns : List ℕ) → AllByRecursion (IsOf f.tech) (all_meet devices device_linked peer_ends f ds os ns).answers
met_in f [] os ns = tt
met_in f (d ∷ ds) os ns =
    let reply : Option (List ℕ) = reply_at devices device_linked peer_ends d f (first_far os) ns in
    one_more f.tech (answered_by devices d f reply) (all_meet devices device_linked peer_ends f ds (later_fars os) (numbers_left reply ns)).answers
    (answers_in f d reply) (met_in f ds (later_fars os) (numbers_left reply ns))

-- and what their answers come to
abbrev JointOf : Tech → Joint → Type 0
JointOf t Nothing = Unit {0}
JointOf t (Single g) = IsOf t g
JointOf t (Clashing g) = IsOf t g

joint_in : (t : Tech) (gs : List Signal) → AllByRecursion (IsOf t) gs → JointOf t (joint gs)
joint_in t [] all = tt
joint_in t (g ∷ gs) all = by_same (all_same g gs)
  where
    by_same : (v : Bool) → JointOf t (if v then Single g else Clashing (of_bits g.tech (common_all (bits g) (map bits gs))))
    by_same true = all.0
    by_same false = all.0

module _ (c : Command) where
  -- the answer of a turn, and what follows
  joint_has : (f : Signal) (j : Joint) (y : Fate) (t : List Event) → JointOf f.tech j → EachAsked (IsSentBy c) (joint_events j y ++ t)
      → (EachAsked (IsSentBy c) t → HaveTech c f.tech t) → HaveTech c f.tech (joint_events j y ++ t)
  joint_has f Nothing y t is each more = more each
  joint_has f (Single g) y t is each more = (is, more each)
  joint_has f (Clashing g) y t is each more = (is, more each)

  turn_has : (w : WholeWorld) (f : Signal) (x y : Fate) (t : List Event) (last : Tech) → EachAsked (IsSentBy c) (turn_events bench_air w f x y ++ t)
      → (EachAsked (IsSentBy c) t → HaveTech c f.tech t) → HaveTech c last (turn_events bench_air w f x y ++ t)
  turn_has w f Pass y t last each more =
      let is : JointOf f.tech (bench_air.joint w f) = joint_in f.tech (meeting devices device_linked peer_ends w f).answers (met_in f w.field.listeners w.fars w.numbers) in
      (each.0, joint_has f (bench_air.joint w f) y t is each.1 more)
  turn_has w f Damage y t last each more = (each.0, more each.1)
  turn_has w f Lose y t last each more = (each.0, more each.1)
  turn_has w f Break y t last each more = (each.0, more each.1)

  -- in the dark nothing is sent
  abbrev made : WholeWorld → Signal → Fate → Fate → Bool → List Event
  made w f x y v = if v then turn_events bench_air w f x y else []

  moves_have : (ks : List (Move bench_air)) (w : WholeWorld) (last : Tech) → EachAsked (IsSentBy c) (trace_of bench_air w ks) → HaveTech c last (trace_of bench_air w ks)
  moves_have [] w last each = tt
  moves_have (Light ∷ ks) w last each = moves_have ks (bench_air.happens w Reset) last each
  moves_have (Ask f x y ∷ ks) w last each = by_light (bench_air.lit w) (λ u l q. moves_have ks u l q) each
    where
      by_light : (v : Bool) → ((u : WholeWorld) (l : Tech) → EachAsked (IsSentBy c) (trace_of bench_air u ks) → HaveTech c l (trace_of bench_air u ks))
          → EachAsked (IsSentBy c) (made w f x y v ++ trace_of bench_air (replay bench_air w (made w f x y v)) ks)
          → HaveTech c last (made w f x y v ++ trace_of bench_air (replay bench_air w (made w f x y v)) ks)
      by_light true more q =
          let u : WholeWorld = replay bench_air w (turn_events bench_air w f x y) in
          turn_has w f x y (trace_of bench_air u ks) last q (λ r. more u f.tech r)
      by_light false more q = more w last q

  -- Turns have the technologies of a command where each request is as the command sends it.
  pub turns_have : (w : WholeWorld) (es : List Event) (last : Tech) → AreTurns bench_air w es → EachAsked (IsSentBy c) es → HaveTech c last es
  turns_have w es last turns each =
      subst (HaveTech c last) (sym turns.made) (moves_have turns.moves w last (subst (EachAsked (IsSentBy c)) turns.made each))
