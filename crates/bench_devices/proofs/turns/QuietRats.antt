-- RATS that a selected Type 4 tag hears is answered at once, where all passes: so six bad receptions of it are noise.
use Rattle.std.proofs.Common.{◌≡◌, ℕ, ◌<◌, inl, inr, List, [], ◌∷◌, ◌++◌, true, if◌then◌else◌, Some, None, refl, sym, ◌∙◌, ap, subst, arith}
use Rattle.std.specs.List.{cons_option}
use Rattle.std.proofs.lemmas.Bool.{cases_lt}
use Rattle.nfc_base.specs.declared.frame.Tech.TheVariants.{A}
use Rattle.nfc_base.specs.declared.event.Event.{Event}
use Rattle.nfc_base.specs.declared.event.Fate.{Fate}
use Rattle.nfc_base.specs.declared.event.Fate.TheVariants.{Pass, Damage, Lose, Break}
use Rattle.nfc_base.specs.declared.tag_link.AskFault.TheVariants.{SixBad}
use Rattle.nfc_base.specs.Signal.{Signal}
use Rattle.nfc_base.specs.Trace.{by_fate, noise}
use Rattle.nfc_base.specs.declared.event.Event.TheVariants.{Request}
use Rattle.air_core.specs.Joint.{Joint, Single, joint, same_tech}
use Rattle.air_core.specs.World.{World, answered_by}
use Rattle.air_core.specs.Conversation.{Note, Move, Light, Ask, EachDue, joint_events, receptions, replay, trace_of, turn_events}
use Rattle.air_core.specs.Turn.{Air, world}
use Rattle.air_core.specs.Waits.{Broken, stand, waits_next}
use Rattle.air_core.proofs.PlainAside.{Laws, IsUnmoved, aside_silent, alone_says}
use Rattle.air_core.proofs.PlainTurns.{joint_one}
use Rattle.isodep_link.specs.Sizes.{ats_frame}
use Rattle.isodep_link.specs.Activating.{rats, HasFreshTag, RatsSent}
use Rattle.bench_devices.specs.declared.device.Device.{Device}
use Rattle.bench_devices.specs.Device.{air, devices, device_id, device_card, device_tag}
use Rattle.bench_devices.specs.Keeping.{ghosts}
use Rattle.bench_devices.specs.laws.Standing as standing

pub laws : Laws ghosts
laws = record {
  step_keeps = standing.step_keeps;
  dark_keeps = standing.dark_keeps;
  dark_rests = standing.dark_rests;
  rests = standing.at_rest;
  ignores = standing.ignores;
}

-- what stands behind an answer that was heard isn't a wait of it any more
not_broken : (ns : List Note) (left : List Signal) → stand 0 [] ns ≡ Broken SixBad left → ⊥
not_broken [] left e = cc
not_broken (n ∷ ns) left e = cc

-- a turn of RATS that one answers
at_single : (g : Signal) (x y : Fate) (rest : List Event) (left : List Signal)
    → stand 0 (rats ∷ []) (receptions (Request rats x ∷ (by_fate x (joint_events (Single g) y) [] [] ++ rest))) ≡ Broken SixBad left
    → noise (Request rats x ∷ (by_fate x (joint_events (Single g) y) [] [] ++ rest)) ≡ 0 → ⊥
at_single g Pass Pass rest left e none = not_broken (receptions rest) left e
at_single g Pass Damage rest left e none = omega (arith, none)
at_single g Pass Lose rest left e none = omega (arith, none)
at_single g Pass Break rest left e none = omega (arith, none)
at_single g Damage y rest left e none = omega (arith, none)
at_single g Lose y rest left e none = omega (arith, none)
at_single g Break y rest left e none = omega (arith, none)

at_turn : (j : Joint) (g f : Signal) (x y : Fate) (rest : List Event) (left : List Signal) → j ≡ Single g → f ≡ rats
    → stand 0 (rats ∷ []) (receptions (Request f x ∷ (by_fate x (joint_events j y) [] [] ++ rest))) ≡ Broken SixBad left
    → noise (Request f x ∷ (by_fate x (joint_events j y) [] [] ++ rest)) ≡ 0 → ⊥
at_turn j g f x y rest left single same =
    let P : Joint → Signal → Type 0 = λ i h. stand 0 (rats ∷ []) (receptions (Request h x ∷ (by_fate x (joint_events i y) [] [] ++ rest))) ≡ Broken SixBad left
    → noise (Request h x ∷ (by_fate x (joint_events i y) [] [] ++ rest)) ≡ 0 → ⊥ in
    subst (λ i. P i f) (sym single) (subst (λ h. P (Single g) h) (sym same) (at_single g x y rest left))

-- in a lit field with one answer to RATS
first_turn : (ls : List Device) (g : Signal) → air.joint (record { lit = true; listeners = ls }) rats ≡ Single g → (ks : List (Move air)) (left : List Signal)
    → EachDue (waits_next (rats ∷ [])) [] (trace_of air (record { lit = true; listeners = ls }) ks)
    → stand 0 (rats ∷ []) (receptions (trace_of air (record { lit = true; listeners = ls }) ks)) ≡ Broken SixBad left
    → noise (trace_of air (record { lit = true; listeners = ls }) ks) ≡ 0 → ⊥
first_turn ls g single [] left each e none = cc
first_turn ls g single (Light ∷ ks) left each e none = absurd (let k : waits_next (rats ∷ []) [] ≡ _ = each.0 in cc)
first_turn ls g single (Ask f x y ∷ ks) left each e none =
    let w : World Device = record { lit = true; listeners = ls } in
    let same : rats ≡ f = cc in
    let there : air.joint w f ≡ Single g = subst (λ h. air.joint w h ≡ Single g) same single in
    at_turn (air.joint w f) g f x y (trace_of air (replay air w (turn_events air w f x y)) ks) left there (sym same) e none

module _ (old mid : Air Device) (place : ℕ) (lit : old.lit ≡ true) (h : HasFreshTag ghosts device_card device_tag old place) where
  pub one_answer : (g : Signal) → devices.answer h.listener rats None ≡ Some g → air.joint (record { lit = true; listeners = old.listeners }) rats ≡ Single g
  one_answer g says =
      let heard : answered_by devices h.listener rats None ≡ Some g = ap (λ t. if same_tech t A then devices.answer h.listener rats None else None) h.takes.tech ∙ says in
      let aside : (x : Device) → _ → IsUnmoved ghosts laws (device_id h.listener) rats x = λ x a. aside_silent ghosts laws (device_id h.listener) A rats refl tt x a in
      ap joint (alone_says ghosts laws (device_id h.listener) rats aside old.listeners place h.listener h.alone) ∙ ap (λ o. joint (cons_option o [])) heard ∙ joint_one (Some g)

  pub rats_noise : (left : List Signal) → (sent : RatsSent ghosts device_card device_tag old mid (Broken SixBad left)) → 0 < noise sent.going.events
  rats_noise left sent = elim (cases_lt 0 (noise sent.going.events)) [
    | inl some ↦ some
    | inr none ↦ absurd (
        let es : List Event = sent.going.events in
        let w : World Device = record { lit = true; listeners = old.listeners } in
        let bright : world old ≡ w = ap (λ v. record { lit = v; listeners = old.listeners }) lit in
        let P : World Device → Type 0 = λ v. (ks : List (Move air)) × (es ≡ trace_of air v ks) in
        let made : P w = subst P bright (sent.going.turns.moves, sent.going.turns.made) in
        let stands : stand 0 (rats ∷ []) (receptions es) ≡ Broken SixBad left = ap (stand 0 (rats ∷ [])) sent.going.known ∙ sent.stands in
        let zero : noise es ≡ 0 = omega (arith, none) in
        first_turn old.listeners (ats_frame h.takes.made.code) (one_answer (ats_frame h.takes.made.code) (h.takes.steps 0).answer) made.0 left
        (subst (EachDue (waits_next (rats ∷ [])) []) made.1 sent.going.each)
        (subst (λ t. stand 0 (rats ∷ []) (receptions t) ≡ Broken SixBad left) made.1 stands)
        (subst (λ t. noise t ≡ 0) made.1 zero))
  ]
