-- A turn in which one listener alone may hand something to a far end is a turn of the air in which the far end replies what it replied.
use Rattle.std.proofs.Common.{◌≡◌, ◌≤◌, length, arith, ℕ, List, [], ◌∷◌, ◌++◌, Bool, true, false, if◌then◌else◌, Option, None, inl, inr, refl, sym, ◌∙◌, ap, subst}
use Rattle.nfc_base.specs.Signal.{Signal}
use Rattle.nfc_base.specs.Far.{FarUse, Untouched, Restarts, Hands, FarDid}
use Rattle.nfc_base.specs.declared.event.Event.TheVariants.{Request}
use Rattle.nfc_base.specs.declared.event.Fate.{Fate}
use Rattle.nfc_base.specs.declared.event.Fate.TheVariants.{Pass, Damage, Lose, Break}
use Rattle.nfc_base.specs.declared.event.Heard.{Heard}
use Rattle.nfc_base.specs.LinkTurns.{MovedBy}
use Rattle.air_core.specs.Joint.{Joint, Nothing, Single, Clashing, joint}
use Rattle.air_core.specs.World.{Machine, hears, hands_over, stepped_by}
use Rattle.air_core.specs.Conversation.{first_fate, later_fates}
use Rattle.air_core.specs.Listening.{Step}
use Rattle.air_core.specs.Turn.{Air, after_event, brought, Meets, HearAll, HearSome, Passes, TurnBy, TurnIs}
use Rattle.air_core.specs.Quiet.{EachQuiet, QuietTurn}
use Rattle.air_core.proofs.Quiet.{quiet_always, quiet_turn, quiet_goes_on}
use Rattle.dep_link.specs.Sizes.{limit}
use Rattle.dep_link.specs.Answering.{reply_for, payload_handed, answering}
use Rattle.dep_link.specs.Stopping.{HeardUpTo}

-- what was handed over in a turn whose request had this fate
abbrev pub handed_by : Fate → FarUse → Option (List ℕ)
handed_by Pass u = payload_handed u
handed_by Damage u = None
handed_by Lose u = None
handed_by Break u = None

-- nothing was handed over in a turn whose request had this fate
abbrev pub HandsNothing : Fate → FarUse → Type 0
HandsNothing Pass u = payload_handed u ≡ None
HandsNothing Damage u = Unit {0}
HandsNothing Lose u = Unit {0}
HandsNothing Break u = Unit {0}

-- what a far end did in a turn whose request had this fate, in which it replied r to what was handed over
abbrev pub DidBy : {A : Type 0} → (A → List ℕ → A → Type 0) → (A → List ℕ → List ℕ → A → Type 0) → Fate → FarUse → List ℕ → A → A → Type 0
DidBy restarts steps Pass u r far far' = FarDid restarts steps u far (reply_for r u) far'
DidBy restarts steps Damage u r far far' = far' ≡ far
DidBy restarts steps Lose u r far far' = far' ≡ far
DidBy restarts steps Break u r far far' = far' ≡ far

-- a far end of which nothing is told
abbrev pub Told : Type 0
Told = Unit {0}

abbrev restarts_told : Told → List ℕ → Told → Type 0
restarts_told old general new = Unit {0}

abbrev steps_told : Told → List ℕ → List ℕ → Told → Type 0
steps_told old payload reply new = Unit {0}

module _ {L A : Type 0} (m : Machine L) (restarts : A → List ℕ → A → Type 0) (steps : A → List ℕ → List ℕ → A → Type 0) (f : Signal) where
  -- each listener meets the frame where the far end replies r
  abbrev pub AllAnswer : List ℕ → List L → List Signal → List L → Type 0
  AllAnswer r ls said ls' = HearAll (answering m r) restarts_told steps_told f ls tt said ls' tt

  -- what a listener asks is what the far end did, with this reply
  pub record Did (u : FarUse) (far far' : A) : Type 0 where
    pub reply : List ℕ
    pub short : length reply ≤ limit
    pub far_did : FarDid restarts steps u far (reply_for reply u) far'

  did_some : (u : FarUse) (far far' : A) (reply : Option (List ℕ)) → FarDid restarts steps u far reply far'
      → (r : List ℕ) × FarDid restarts steps u far (reply_for r u) far' × (reply ≡ reply_for r u) × (length r ≤ limit)
  did_some Untouched far far' reply d = ([], (d.0, refl), d.1, omega arith)
  did_some (Restarts general) far far' reply d = ([], (d.0, refl), d.1, omega arith)
  did_some (Hands payload) far far' reply d = (d.0, (d.0, d.1, d.2, refl), d.3, d.2)

  did_none : (r : List ℕ) (u : FarUse) (far far' : A) (reply : Option (List ℕ)) → FarDid restarts steps u far reply far' → u ≡ Untouched → (far' ≡ far) × (reply ≡ reply_for r u)
  did_none r Untouched far far' reply d e = (d.0, d.1)
  did_none r (Restarts general) far far' reply d e = absurd (cc)
  did_none r (Hands payload) far far' reply d e = absurd (cc)

  hears_use : (l : L) → hears m l f ≡ true → hands_over m l f ≡ m.handed l f
  hears_use l e = ap (λ x. if x then m.handed l f else Untouched) e

  -- a listener, of that technology or not, meets the frame where its reply is that one
  meets_one : (r : List ℕ) (l : L) (answer : Option Signal) (l' : L) (reply : Option (List ℕ)) (v : Bool)
      → answer ≡ (if v then m.answer l f reply else None) → l' ≡ (if v then m.after l f reply else l) → (v ≡ true → reply ≡ reply_for r (m.handed l f))
      → Step restarts_told steps_told (if v then Untouched else Untouched) (λ x. if v then m.answer l f (reply_for r (m.handed l f)) else None)
      (λ x. if v then m.after l f (reply_for r (m.handed l f)) else l) tt answer l' tt
  meets_one r l answer l' reply true s t same =
      record { reply = None; far = (refl, refl); says = s ∙ ap (m.answer l f) (same refl); left = t ∙ ap (m.after l f) (same refl) }
  meets_one r l answer l' reply false s t same = record { reply = None; far = (refl, refl); says = s; left = t }

  meets_by : (r : List ℕ) (l : L) (far far' : A) (answer : Option Signal) (l' : L) → (s : Meets m restarts steps f l far answer l' far') → s.reply ≡ reply_for r (hands_over m l f)
      → Meets (answering m r) restarts_told steps_told f l tt answer l' tt
  meets_by r l far far' answer l' s e = meets_one r l answer l' s.reply (hears m l f) s.says s.left (λ t. e ∙ ap (reply_for r) (hears_use l t))

  one_quiet : (r : List ℕ) (l : L) (far far' : A) (answer : Option Signal) (l' : L) → hands_over m l f ≡ Untouched → Meets m restarts steps f l far answer l' far'
      → (far' ≡ far) × Meets (answering m r) restarts_told steps_told f l tt answer l' tt
  one_quiet r l far far' answer l' q s =
      let d = did_none r (hands_over m l f) far far' s.reply s.far q in
      (d.0, meets_by r l far far' answer l' s d.1)

  did_nothing : (r : List ℕ) (u : FarUse) (far far' : A) (reply : Option (List ℕ)) → FarDid restarts steps u far reply far' → payload_handed u ≡ None → reply ≡ reply_for r u
  did_nothing r Untouched far far' reply d e = d.1
  did_nothing r (Restarts general) far far' reply d e = d.1
  did_nothing r (Hands payload) far far' reply d e = absurd (cc)

  -- listeners that hand nothing over
  all_quiet : (r : List ℕ) (ls : List L) (far far' : A) (said : List Signal) (ls' : List L) → EachQuiet m f ls → HearAll m restarts steps f ls far said ls' far'
      → (far' ≡ far) × AllAnswer r ls said ls'
  all_quiet r [] far far' said ls' q h = (h.2, (h.0, h.1, refl))
  all_quiet r (l ∷ ls) far far' said ls' q h =
      let one = one_quiet r l far h.3 h.0 h.2 q.0 h.5 in
      let rest = all_quiet r ls h.3 far' h.1 h.4 q.1 h.6 in
      (rest.0 ∙ one.0, (h.0, h.1, h.2, tt, h.4, one.1, rest.1, h.7, h.8))

  -- among listeners that hand nothing over there is one that may
  pub all_but_one : (before : List L) (l : L) (behind : List L) (far far' : A) (said : List Signal) (ls' : List L) → EachQuiet m f before → EachQuiet m f behind
      → HearAll m restarts steps f (before ++ l ∷ behind) far said ls' far'
      → (d : Did (hands_over m l f) far far') × AllAnswer d.reply (before ++ l ∷ behind) said ls'
  all_but_one [] l behind far far' said ls' p q h =
      let s = h.5 in
      let d = did_some (hands_over m l f) far h.3 s.reply s.far in
      let rest = all_quiet d.0 behind h.3 far' h.1 h.4 q h.6 in (
        record { reply = d.0; short = d.3; far_did = subst (λ (x : A). FarDid restarts steps (hands_over m l f) far (reply_for d.0 (hands_over m l f)) x) (sym rest.0) d.1 },
        (h.0, h.1, h.2, tt, h.4, meets_by d.0 l far h.3 h.0 h.2 s d.2, rest.1, h.7, h.8),
      )
  all_but_one (x ∷ before) l behind far far' said ls' p q h =
      let rest = all_but_one before l behind h.3 far' h.1 h.4 p.1 q h.6 in
      let r : List ℕ = rest.0.reply in
      let one = one_quiet r x far h.3 h.0 h.2 p.0 h.5 in (
        record { reply = r; short = rest.0.short; far_did = subst (λ (y : A). FarDid restarts steps (hands_over m l f) y (reply_for r (hands_over m l f)) far') one.0 rest.0.far_did },
        (h.0, h.1, h.2, tt, h.4, one.1, rest.1, h.7, h.8),
      )

  -- where it hands nothing over, any reply would do
  all_any : (r : List ℕ) (before : List L) (l : L) (behind : List L) (far far' : A) (said : List Signal) (ls' : List L) → EachQuiet m f before → EachQuiet m f behind
      → payload_handed (hands_over m l f) ≡ None
      → HearAll m restarts steps f (before ++ l ∷ behind) far said ls' far' → AllAnswer r (before ++ l ∷ behind) said ls'
  all_any r [] l behind far far' said ls' p q e h =
      (h.0, h.1, h.2, tt, h.4, meets_by r l far h.3 h.0 h.2 h.5 (did_nothing r (hands_over m l f) far h.3 h.5.reply h.5.far e), (all_quiet r behind h.3 far' h.1 h.4 q h.6).1, h.7, h.8)
  all_any r (x ∷ before) l behind far far' said ls' p q e h =
      (h.0, h.1, h.2, tt, h.4, (one_quiet r x far h.3 h.0 h.2 p.0 h.5).1, all_any r before l behind h.3 far' h.1 h.4 p.1 q e h.6, h.7, h.8)

  -- Where a far end breaks a turn off, that listener handed it a payload.
  pub stopped_at : (stops : A → List ℕ → A → Type 0) (is_stuck : A → Bool) (before : List L) (l : L) (behind : List L) (far far' : A) (ls' : List L) → EachQuiet m f before → EachQuiet m f behind
      → HearSome m restarts steps stops is_stuck f (before ++ l ∷ behind) far ls' far' → (payload : List ℕ) × (hands_over m l f ≡ Hands payload) × stops far payload far'
  stopped_at stops is_stuck [] l behind far far' ls' p q (l', later, e, inl here) = (here.0.payload, here.0.handed, here.0.far)
  stopped_at stops is_stuck [] l behind far far' ls' p q (l', later, e, inr on) =
      absurd (quiet_goes_on m restarts steps stops is_stuck f behind on.1 later far' q on.3)
  stopped_at stops is_stuck (x ∷ before) l behind far far' ls' p q (l', later, e, inl here) = let a = p.0 in let b = here.0.handed in absurd (cc)
  stopped_at stops is_stuck (x ∷ before) l behind far far' ls' p q (l', later, e, inr on) =
      let same = (one_quiet [] x far on.1 on.0 l' p.0 on.2).0 in
      let rest = stopped_at stops is_stuck before l behind on.1 far' later p.1 q on.3 in
      (rest.0, rest.1, subst (λ (y : A). stops y rest.0 far') same rest.2)

  -- one that hands nothing over
  met_alone : (x : L) (far : A) (answer : Option Signal) (x' : L) (mid : A) → hands_over m x f ≡ Untouched → Meets m restarts steps f x far answer x' mid → x' ≡ stepped_by m x f None
  met_alone x far answer x' mid q step =
      let P : FarUse → Type 0 = λ u. FarDid restarts steps u far step.reply mid in
      let none : step.reply ≡ None = (subst P q step.far).1 in
      step.left ∙ ap (stepped_by m x f) none

  -- ... and the frame was heard up to it
  pub heard_up_to : (stops : A → List ℕ → A → Type 0) (is_stuck : A → Bool) (before : List L) (l : L) (behind : List L) (far far' : A) (ls' : List L) → EachQuiet m f before → EachQuiet m f behind
      → HearSome m restarts steps stops is_stuck f (before ++ l ∷ behind) far ls' far' → (payload : List ℕ) → hands_over m l f ≡ Hands payload → HeardUpTo m f payload (before ++ l ∷ behind) ls'
  heard_up_to stops is_stuck [] l behind far far' ls' p q (l', later, e, inl here) payload hands = (later, e ∙ ap (λ x. x ∷ later) here.0.left, inl (hands, here.1))
  heard_up_to stops is_stuck [] l behind far far' ls' p q (l', later, e, inr on) payload hands =
      absurd (quiet_goes_on m restarts steps stops is_stuck f behind on.1 later far' q on.3)
  heard_up_to stops is_stuck (x ∷ before) l behind far far' ls' p q (l', later, e, inl here) payload hands = let a = p.0 in let b = here.0.handed in absurd (cc)
  heard_up_to stops is_stuck (x ∷ before) l behind far far' ls' p q (l', later, e, inr on) payload hands = (
    later,
    e ∙ ap (λ y. y ∷ later) (met_alone x far on.0 l' on.1 p.0 on.2),
    inr (p.0, heard_up_to stops is_stuck before l behind on.1 far' later p.1 q on.3 payload hands),
  )

  brought_same : (r : List ℕ) (a : Air L) (j : Joint) (y : Fate) → brought m a j y ≡ brought (answering m r) a j y
  brought_same r a Nothing y = refl
  brought_same r a (Single g) Pass = refl
  brought_same r a (Single g) Damage = refl
  brought_same r a (Single g) Lose = refl
  brought_same r a (Single g) Break = refl
  brought_same r a (Clashing g) Pass = refl
  brought_same r a (Clashing g) Damage = refl
  brought_same r a (Clashing g) Lose = refl
  brought_same r a (Clashing g) Break = refl

  -- A turn with its reply: the far end did what was handed over, and the air is that of the reply.
  pub record AnsweredTurn (u : FarUse) (old : Air L) (far : A) (heard : Option Heard) (new : Air L) (far' : A) : Type 0 where
    pub reply : List ℕ
    pub short : length reply ≤ limit
    pub moved : DidBy restarts steps (first_fate old.fates) u reply far far'
    pub quiet : QuietTurn {A = Told} (answering m reply) old f tt heard new tt
    -- where nothing was handed over any reply would do
    pub any : HandsNothing (first_fate old.fates) u → (r : List ℕ) → QuietTurn {A = Told} (answering m r) old f tt heard new tt

  quiet_by : (r : List ℕ) (old new : Air L) (heard : Option Heard) → old.lit ≡ true → TurnBy (answering m r) restarts_told steps_told (first_fate old.fates) old f tt heard new tt
      → QuietTurn {A = Told} (answering m r) old f tt heard new tt
  quiet_by r old new heard lit by =
      quiet_turn (answering m r) restarts_told steps_told old f tt heard new tt (quiet_always (answering m r) (λ l g. refl) f old.listeners) (record { lit = lit; by = by })

  -- how the listeners are split
  module _ (before : List L) (l : L) (behind : List L) (p : EachQuiet m f before) (q : EachQuiet m f behind) where
    passes_answered : (old : Air L) (far : A) (heard : Option Heard) (new : Air L) (far' : A) → old.listeners ≡ before ++ l ∷ behind
        → Passes m restarts steps old f far heard new far'
        → (r : List ℕ) × (length r ≤ limit) × FarDid restarts steps (hands_over m l f) far (reply_for r (hands_over m l f)) far' × Passes (answering m r) restarts_told steps_told old f tt heard new tt
        × (payload_handed (hands_over m l f) ≡ None → (x : List ℕ) → Passes (answering m x) restarts_told steps_told old f tt heard new tt)
    passes_answered old far heard new far' split h =
        let all = subst (λ (ls : List L). HearAll m restarts steps f ls far h.answers h.listeners far') split h.all in
        let k = all_but_one before l behind far far' h.answers h.listeners p q all in (
          k.0.reply,
          k.0.short,
          k.0.far_did,
          rebuilt k.0.reply (subst (λ (ls : List L). AllAnswer k.0.reply ls h.answers h.listeners) (sym split) k.1),
          λ e x. rebuilt x (subst (λ (ls : List L). AllAnswer x ls h.answers h.listeners) (sym split) (all_any x before l behind far far' h.answers h.listeners p q e all)),
        )
      where
        rebuilt : (r : List ℕ) → AllAnswer r old.listeners h.answers h.listeners → Passes (answering m r) restarts_told steps_told old f tt heard new tt
        rebuilt r a = record {
          answers = h.answers;
          listeners = h.listeners;
          all = a;
          back = h.back;
          left = h.left ∙ brought_same r (after_event old (Request f Pass) (later_fates old.fates) (record { lit = true; listeners = h.listeners })) (joint h.answers)
              (first_fate (later_fates old.fates));
        }

    abbrev ByFate : Fate → Air L → A → Option Heard → Air L → A → Type 0
    ByFate x old far heard new far' =
        (r : List ℕ) × (length r ≤ limit) × DidBy restarts steps x (hands_over m l f) r far far' × TurnBy (answering m r) restarts_told steps_told x old f tt heard new tt
        × (HandsNothing x (hands_over m l f) → (z : List ℕ) → TurnBy (answering m z) restarts_told steps_told x old f tt heard new tt)

    by_fate : (x : Fate) (old : Air L) (far : A) (heard : Option Heard) (new : Air L) (far' : A) → old.listeners ≡ before ++ l ∷ behind
        → TurnBy m restarts steps x old f far heard new far' → ByFate x old far heard new far'
    by_fate Pass old far heard new far' split t = passes_answered old far heard new far' split t
    by_fate Damage old far heard new far' split t = ([], omega arith, t.same, record { back = t.back; left = t.left; same = refl }, λ e z. record { back = t.back; left = t.left; same = refl })
    by_fate Lose old far heard new far' split t = ([], omega arith, t.same, record { back = t.back; left = t.left; same = refl }, λ e z. record { back = t.back; left = t.left; same = refl })
    by_fate Break old far heard new far' split t = ([], omega arith, t.same, record { back = t.back; left = t.left; same = refl }, λ e z. record { back = t.back; left = t.left; same = refl })

    pub answered_turn : (old : Air L) (far : A) (heard : Option Heard) (new : Air L) (far' : A) → old.listeners ≡ before ++ l ∷ behind
        → TurnIs m restarts steps old f far heard new far' → AnsweredTurn (hands_over m l f) old far heard new far'
    answered_turn old far heard new far' split t =
        let b = by_fate (first_fate old.fates) old far heard new far' split t.by in
        record {
          reply = b.0;
          short = b.1;
          moved = b.2;
          quiet = quiet_by b.0 old new heard t.lit b.3;
          any = λ e r. quiet_by r old new heard t.lit (b.4 e r);
        }

-- Where no link is begun, that is a step, or none.
pub moved_by : {A : Type 0} (restarts : A → List ℕ → A → Type 0) (steps : A → List ℕ → List ℕ → A → Type 0) (x : Fate) (u : FarUse) (far far' : A) (r : List ℕ)
    → ((general : List ℕ) → u ≡ Restarts general → ⊥) → DidBy restarts steps x u r far far' → MovedBy steps far (handed_by x u) r far'
moved_by restarts steps Pass Untouched far far' r n d = d.0
moved_by restarts steps Pass (Restarts general) far far' r n d = absurd (n general refl)
moved_by {A} restarts steps Pass (Hands payload) far far' r n d = let e : d.0 ≡ r = (let k = d.3 in cc) in subst (λ (x : List ℕ). steps far payload x far') e d.1
moved_by restarts steps Damage u far far' r n d = d
moved_by restarts steps Lose u far far' r n d = d
moved_by restarts steps Break u far far' r n d = d

-- nothing was handed over where no payload was
pub hands_nothing : (x : Fate) (u : FarUse) → handed_by x u ≡ None → HandsNothing x u
hands_nothing Pass u e = e
hands_nothing Damage u e = tt
hands_nothing Lose u e = tt
hands_nothing Break u e = tt
