-- Where all passed nothing that is heard is damaged, and no field is lost; and where no reception was bad each is a whole answer.
use Rattle.std.proofs.Common.{◌≡◌, ◌+◌, List, [], ◌∷◌, ◌++◌, Option, Some, None, refl, arith}
use Rattle.std.specs.List.{AllByRecursion}
use Rattle.nfc_base.specs.LinkTurns.{bads_heard, bad_receptions}
use Rattle.nfc_base.specs.Trace.{noise, back_of, heard_by, other_than_pass}
use Rattle.nfc_base.specs.declared.event.Event.{Event}
use Rattle.nfc_base.specs.declared.event.Event.TheVariants.{Reset, Request, Answer, Clash}
use Rattle.nfc_base.specs.declared.event.Fate.{Fate}
use Rattle.nfc_base.specs.declared.event.Fate.TheVariants.{Pass, Damage, Lose, Break}
use Rattle.nfc_base.specs.declared.event.Heard.{Heard}
use Rattle.nfc_base.specs.declared.event.Heard.TheVariants.{Whole, Collided, Damaged, Silent}
use Rattle.air_core.specs.Conversation.{Note, note, Next, Over, LightUp, Asks, EachDue, receptions}
use Rattle.bench_devices.specs.Hearing.{IsUnharmed, IsAnswered}
use Rattle.bench_world.proofs.calm.Quiet.{behind}

-- Without noise nothing that is heard is damaged, and no field is lost.
pub heard_first : (x : Fate) (es : List Event) → other_than_pass x + noise es ≡ 0 → IsUnharmed (note (heard_by x (back_of es)))
heard_first Pass [] z = tt
heard_first Pass (Reset ∷ es) z = tt
heard_first Pass (Request g y ∷ es) z = tt
heard_first Pass (Answer g Pass ∷ es) z = tt
heard_first Pass (Answer g Damage ∷ es) z = absurd (omega (arith, z))
heard_first Pass (Answer g Lose ∷ es) z = absurd (omega (arith, z))
heard_first Pass (Answer g Break ∷ es) z = absurd (omega (arith, z))
heard_first Pass (Clash g Pass ∷ es) z = tt
heard_first Pass (Clash g Damage ∷ es) z = absurd (omega (arith, z))
heard_first Pass (Clash g Lose ∷ es) z = absurd (omega (arith, z))
heard_first Pass (Clash g Break ∷ es) z = absurd (omega (arith, z))
heard_first Damage es z = absurd (omega (arith, z))
heard_first Lose es z = absurd (omega (arith, z))
heard_first Break es z = absurd (omega (arith, z))

pub all_unharmed : (es : List Event) → noise es ≡ 0 → AllByRecursion IsUnharmed (receptions es)
all_unharmed [] z = tt
all_unharmed (Reset ∷ es) z = (tt, all_unharmed es z)
all_unharmed (Request g x ∷ es) z = (heard_first x es z, all_unharmed es (behind x (noise es) z))
all_unharmed (Answer g x ∷ es) z = all_unharmed es (behind x (noise es) z)
all_unharmed (Clash g x ∷ es) z = all_unharmed es (behind x (noise es) z)

-- what is heard then is a whole answer, where it isn't bad
answered_of : (h : Option Heard) → IsUnharmed (note h) → bads_heard h ≡ 0 → IsAnswered (note h)
answered_of None u z = u
answered_of (Some (Whole f)) u z = tt
answered_of (Some (Collided f)) u z = absurd (omega (arith, z))
answered_of (Some Damaged) u z = u
answered_of (Some Silent) u z = absurd (omega (arith, z))

-- of what is asked without a reset
pub whole_notes : (next : List Note → Next) → ((ns : List Note) → next ns ≡ LightUp → ⊥) → (before es : List Event) → EachDue next before es → noise es ≡ 0 → bad_receptions es ≡ 0
    → AllByRecursion IsAnswered (receptions es)
whole_notes next never before [] each z bads = tt
whole_notes next never before (Reset ∷ es) each z bads = absurd (never (receptions before) each.0)
whole_notes next never before (Request f x ∷ es) each z bads =
    let heard : IsAnswered (note (heard_by x (back_of es))) = answered_of (heard_by x (back_of es)) (heard_first x es z) (omega (arith, bads)) in
    (heard, whole_notes next never (before ++ Request f x ∷ []) es each.1 (behind x (noise es) z) (omega (arith, bads)))
whole_notes next never before (Answer g x ∷ es) each z bads = whole_notes next never (before ++ Answer g x ∷ []) es each (behind x (noise es) z) bads
whole_notes next never before (Clash g x ∷ es) each z bads = whole_notes next never (before ++ Clash g x ∷ []) es each (behind x (noise es) z) bads

-- where nothing is due nothing is heard
pub nothing_asked : (before es : List Event) → EachDue (λ ns. Over) before es → receptions es ≡ []
nothing_asked before [] each = refl
nothing_asked before (Reset ∷ es) each = absurd (let clash : Over ≡ LightUp = each.0 in cc)
nothing_asked before (Request f x ∷ es) each = absurd (let clash : Over ≡ Asks f = each.0 in cc)
nothing_asked before (Answer g x ∷ es) each = nothing_asked (before ++ Answer g x ∷ []) es each
nothing_asked before (Clash g x ∷ es) each = nothing_asked (before ++ Clash g x ∷ []) es each
