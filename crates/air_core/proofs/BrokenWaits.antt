-- Waits that end by a fault: by what notes, and what they leave of commands that go on. And a field that no Break darkens.
use Rattle.std.proofs.Common.{◌≡◌, ℕ, suc, List, [], ◌∷◌, ◌++◌, Bool, true, false, nat_lt, if◌then◌else◌, Option, Some, None, refl, sym, ◌∙◌, ap, subst, append_assoc, arith}
use Rattle.std.proofs.lemmas.List.{append-nil}
use Rattle.nfc_base.specs.declared.event.Event.{Event}
use Rattle.nfc_base.specs.declared.event.Event.TheVariants.{Reset, Request, Answer, Clash}
use Rattle.nfc_base.specs.declared.event.Fate.{Fate}
use Rattle.nfc_base.specs.declared.event.Fate.TheVariants.{Pass, Damage, Lose, Break}
use Rattle.nfc_base.specs.declared.event.Heard.{Heard}
use Rattle.nfc_base.specs.declared.tag_link.AskFault.{AskFault}
use Rattle.nfc_base.specs.declared.tag_link.AskFault.TheVariants.{FieldLost, SixBad}
use Rattle.nfc_base.specs.Signal.{Signal}
use Rattle.nfc_base.specs.Trace.{back_of, heard_by, is_bad_in_wait, breaks}
use Rattle.air_core.specs.World.{Machine, World, reset_by, requested, quiet_air}
use Rattle.air_core.specs.Conversation.{AirModel, Moment, Going, Note, Lit, Got, Lost, note, LightUp, Asks, receptions, EachDue, replay}
use Rattle.air_core.specs.laws.Turning.{receptions-append}
use Rattle.air_core.specs.laws.Waiting.{stand_on}
use Rattle.air_core.specs.Waits.{Standing, Asking, Broken, Astray, stand, due_at, waits_next}
use Rattle.air_core.proofs.LostField.{HasLost}

-- no wait asks for a reset
pub never_light : (s : Standing) → due_at s ≡ LightUp → ⊥
never_light (Asking bad []) e = cc
never_light (Asking bad (c ∷ cs)) e = cc
never_light (Broken x cs) e = cc
never_light Astray e = cc

-- a request that is due is the first command that is left
record IsLeft (cs : List Signal) (ns : List Note) (f : Signal) : Type 0 where
  pub bad : ℕ
  pub left : List Signal
  pub stands : stand 0 cs ns ≡ Asking bad (f ∷ left)

due_left : (cs : List Signal) (ns : List Note) (f : Signal) → waits_next cs ns ≡ Asks f → IsLeft cs ns f
due_left cs ns f = by_standing (stand 0 cs ns) refl
  where
    by_standing : (s : Standing) → stand 0 cs ns ≡ s → due_at s ≡ Asks f → IsLeft cs ns f
    by_standing (Asking bad []) e due = absurd cc
    by_standing (Asking bad (c ∷ left)) e due = (let same : c ≡ f = cc in record { bad = bad; left = left; stands = e ∙ ap (λ g. Asking bad (g ∷ left)) same })
    by_standing (Broken x left) e due = absurd cc
    by_standing Astray e due = absurd cc

-- where the waits stand that a lost field ended
abbrev pub EndsLost : List Signal → List Note → Type 0
EndsLost cs ns = (left : List Signal) × (stand 0 cs ns ≡ Broken FieldLost left)

-- a turn that was due lost the field
lost_here : (cs : List Signal) (before : List Event) (f : Signal) (x : Fate) (es : List Event) → waits_next cs (receptions before) ≡ Asks f → heard_by x (back_of es) ≡ None
    → EndsLost cs (receptions (before ++ Request f x ∷ es))
lost_here cs before f x es due lost =
    let ns : List Note = receptions before in
    let left = due_left cs ns f due in
    let known : receptions (before ++ Request f x ∷ es) ≡ ns ++ Lost ∷ receptions es =
    receptions-append before (Request f x ∷ es) refl ∙ ap (λ o. ns ++ note o ∷ receptions es) lost in (
      f ∷ (left.left ++ []),
      ap (λ hs. stand 0 cs hs) known ∙ ap (λ xs. stand 0 xs (ns ++ Lost ∷ receptions es)) (sym (append-nil cs))
          ∙ stand_on 0 cs ns left.bad (f ∷ left.left) left.stands [] (Lost ∷ receptions es),
    )

-- so the waits stand behind one event more
stands_behind : (cs : List Signal) (before es : List Event) (e : Event) → EndsLost cs (receptions ((before ++ e ∷ []) ++ es)) → EndsLost cs (receptions (before ++ e ∷ es))
stands_behind cs before es e is = (is.0, ap (λ t. stand 0 cs (receptions t)) (sym (append_assoc before (e ∷ []) es)) ∙ is.1)

lost_in : (cs : List Signal) (before es : List Event) → EachDue (waits_next cs) before es → HasLost (receptions es) → EndsLost cs (receptions (before ++ es))
lost_in cs before [] due lost = absurd lost
lost_in cs before (Reset ∷ es) due lost = absurd (never_light (stand 0 cs (receptions before)) due.0)
lost_in cs before (Request f x ∷ es) due lost =
    by_heard (heard_by x (back_of es)) refl lost (λ later. stands_behind cs before es (Request f x) (lost_in cs (before ++ Request f x ∷ []) es due.1 later))
  where
    by_heard : (o : Option Heard) → heard_by x (back_of es) ≡ o → HasLost (note o ∷ receptions es)
        → (HasLost (receptions es) → EndsLost cs (receptions (before ++ Request f x ∷ es))) → EndsLost cs (receptions (before ++ Request f x ∷ es))
    by_heard None e here later = lost_here cs before f x es due.0 e
    by_heard (Some h) e here later = later here
lost_in cs before (Answer g x ∷ es) due lost = stands_behind cs before es (Answer g x) (lost_in cs (before ++ Answer g x ∷ []) es due lost)
lost_in cs before (Clash g x ∷ es) due lost = stands_behind cs before es (Clash g x) (lost_in cs (before ++ Clash g x ∷ []) es due lost)

-- A turn that lost the field ends the waits.
pub lost_ends : {W : Type 0} (m : AirModel W) (cs : List Signal) (a b : Moment W) (ns : List Note) → Going m (waits_next cs) a b ns → HasLost ns → EndsLost cs ns
lost_ends m cs a b ns g lost = subst (EndsLost cs) g.known (lost_in cs [] g.events g.each (subst HasLost (sym g.known) lost))

broken_as : (x e : AskFault) (cs left ys : List Signal) → Broken x cs ≡ Broken e left → Broken x (cs ++ ys) ≡ Broken e (left ++ ys)
broken_as x e cs left ys is =
    let fault : x ≡ e = cc in
    let same : cs ≡ left = cc in
    ap (λ g. Broken g (cs ++ ys)) fault ∙ ap (λ zs. Broken e (zs ++ ys)) same

broken_kinds : (bad : ℕ) (c : Signal) (cs ys : List Signal) (hs : List Note) (e : AskFault) (left : List Signal) (v w : Bool)
    → (stand 0 cs hs ≡ Broken e left → stand 0 (cs ++ ys) hs ≡ Broken e (left ++ ys))
    → (stand (suc bad) (c ∷ cs) hs ≡ Broken e left → stand (suc bad) (c ∷ (cs ++ ys)) hs ≡ Broken e (left ++ ys))
    → (if v then (if w then stand (suc bad) (c ∷ cs) hs else Broken SixBad (c ∷ cs)) else stand 0 cs hs) ≡ Broken e left
    → (if v then (if w then stand (suc bad) (c ∷ (cs ++ ys)) hs else Broken SixBad (c ∷ (cs ++ ys))) else stand 0 (cs ++ ys) hs) ≡ Broken e (left ++ ys)
broken_kinds bad c cs ys hs e left false w whole more is = whole is
broken_kinds bad c cs ys hs e left true true whole more is = more is
broken_kinds bad c cs ys hs e left true false whole more is = broken_as SixBad e (c ∷ cs) left ys is

-- Commands that are the first of a list, where their waits ended by a fault.
pub broken_front : (bad : ℕ) (cs : List Signal) (hs : List Note) (e : AskFault) (left ys : List Signal) → stand bad cs hs ≡ Broken e left → stand bad (cs ++ ys) hs ≡ Broken e (left ++ ys)
broken_front bad cs [] e left ys is = absurd cc
broken_front bad [] (n ∷ hs) e left ys is = absurd cc
broken_front bad (c ∷ cs) (Lit ∷ hs) e left ys is = absurd cc
broken_front bad (c ∷ cs) (Lost ∷ hs) e left ys is = broken_as FieldLost e (c ∷ cs) left ys is
broken_front bad (c ∷ cs) (Got h ∷ hs) e left ys is =
    broken_kinds bad c cs ys hs e left (is_bad_in_wait h) (nat_lt bad 5) (λ h. broken_front 0 cs hs e left ys h) (λ h. broken_front (suc bad) (c ∷ cs) hs e left ys h) is

-- without a Break a lit field stays lit
pub stays_lit : {L : Type 0} (m : Machine L) (w : World L) (es : List Event) → w.lit ≡ true → breaks es ≡ 0 → (replay (quiet_air m) w es).lit ≡ true
stays_lit m w [] lit none = lit
stays_lit m w (Reset ∷ es) lit none = stays_lit m (reset_by m w) es refl none
stays_lit m w (Request f Pass ∷ es) lit none = stays_lit m (requested m w f Pass) es lit (omega (arith, none))
stays_lit m w (Request f Damage ∷ es) lit none = stays_lit m w es lit (omega (arith, none))
stays_lit m w (Request f Lose ∷ es) lit none = stays_lit m w es lit (omega (arith, none))
stays_lit m w (Request f Break ∷ es) lit none = absurd (omega (arith, none))
stays_lit m w (Answer g Pass ∷ es) lit none = stays_lit m w es lit (omega (arith, none))
stays_lit m w (Answer g Damage ∷ es) lit none = stays_lit m w es lit (omega (arith, none))
stays_lit m w (Answer g Lose ∷ es) lit none = stays_lit m w es lit (omega (arith, none))
stays_lit m w (Answer g Break ∷ es) lit none = absurd (omega (arith, none))
stays_lit m w (Clash g Pass ∷ es) lit none = stays_lit m w es lit (omega (arith, none))
stays_lit m w (Clash g Damage ∷ es) lit none = stays_lit m w es lit (omega (arith, none))
stays_lit m w (Clash g Lose ∷ es) lit none = stays_lit m w es lit (omega (arith, none))
stays_lit m w (Clash g Break ∷ es) lit none = absurd (omega (arith, none))
