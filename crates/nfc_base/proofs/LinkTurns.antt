-- A loop that makes turns of a link that stops and waits keeps the law of its exchange, whatever becomes of the turns.
use Rattle.std.proofs.Common.{◌≡◌, ◌<◌, ℕ, zero, suc, ◌+◌, List, [], ◌∷◌, ◌++◌, length, Option, Some, None, arith, refl, sym, ◌∙◌, ap, subst, append_assoc, append-nil, length-append}
use Rattle.std.proofs.lemmas.List.{append_cancel_left}
use Rattle.std.specs.Option.{option_to_list}
use Rattle.nfc_base.specs.Signal.{Signal}
use Rattle.nfc_base.specs.Trace.{back_of, heard_by, breaks}
use Rattle.nfc_base.specs.Trace as backs
use Rattle.nfc_base.specs.StopAndWait.{Does, Quiet, Reply, Deliver, Hears, Silent, StopAndWait, Stage, Requests, Answers, Dark, stage_of, World, badness, counted, hears, answering_does, transmitted}
use Rattle.nfc_base.specs.StopAndWait.{delivered_of}
use Rattle.nfc_base.specs.LinkTurns.{heard_in, with_arrived, arrived, bads_heard, bad_receptions, Turned, MovedBy, GivenBy, settled, step, sent_back, answered, turned, IsTurn}
use Rattle.nfc_base.specs.declared.event.Event.{Event}
use Rattle.nfc_base.specs.declared.event.Event.TheVariants.{Reset, Request, Answer, Clash}
use Rattle.nfc_base.specs.declared.event.Fate.{Fate}
use Rattle.nfc_base.specs.declared.event.Fate.TheVariants.{Pass, Damage, Lose, Break}
use Rattle.nfc_base.specs.declared.event.Heard.{Heard}
use Rattle.nfc_base.proofs.ExactlyOnce.{Keeps, Inv, kept_now, step_keeps}

-- what was given once a turn has asked that
abbrev pub given_after : Option (List ℕ) → Option (List ℕ) → List ℕ → Option (List ℕ)
given_after given None r = given
given_after given (Some p) r = Some r

back_append : (xs ys : List Event) → back_of ys ≡ backs.Nothing → back_of (xs ++ ys) ≡ back_of xs
back_append [] ys h = h
back_append (Reset ∷ xs) ys h = refl
back_append (Request f x ∷ xs) ys h = refl
back_append (Answer g x ∷ xs) ys h = refl
back_append (Clash g x ∷ xs) ys h = refl

-- bad receptions of turns one behind another
pub bads_append : (xs ys : List Event) → back_of ys ≡ backs.Nothing → bad_receptions (xs ++ ys) ≡ bad_receptions xs + bad_receptions ys
bads_append [] ys h = omega arith
bads_append (Reset ∷ xs) ys h = bads_append xs ys h
bads_append (Request f x ∷ xs) ys h =
    let e : bad_receptions (xs ++ ys) ≡ bad_receptions xs + bad_receptions ys = bads_append xs ys h in
    let k : bads_heard (heard_by x (back_of (xs ++ ys))) ≡ bads_heard (heard_by x (back_of xs)) = ap (λ b. bads_heard (heard_by x b)) (back_append xs ys h) in
    omega (arith, e, k)
bads_append (Answer g x ∷ xs) ys h = bads_append xs ys h
bads_append (Clash g x ∷ xs) ys h = bads_append xs ys h

with_append : (f : Signal) (x : Fate) (xs ys zs : List Signal) → xs ≡ ys ++ zs → with_arrived f x xs ≡ with_arrived f x ys ++ zs
with_append f Pass xs ys zs e = ap (λ fs. f ∷ fs) e
with_append f Damage xs ys zs e = e
with_append f Lose xs ys zs e = e
with_append f Break xs ys zs e = e

-- the requests of one trace behind another that arrived
pub arrived_append : (xs ys : List Event) → arrived (xs ++ ys) ≡ arrived xs ++ arrived ys
arrived_append [] ys = refl
arrived_append (Reset ∷ xs) ys = arrived_append xs ys
arrived_append (Request f x ∷ xs) ys = with_append f x (arrived (xs ++ ys)) (arrived xs) (arrived ys) (arrived_append xs ys)
arrived_append (Answer g x ∷ xs) ys = arrived_append xs ys
arrived_append (Clash g x ∷ xs) ys = arrived_append xs ys

-- the far end moves on by a turn's step
given_moves : {E : Type 0} (steps : E → List ℕ → List ℕ → E → Type 0) (far0 far far' : E) (payload r : List ℕ) (given asked : Option (List ℕ))
    → GivenBy steps far0 payload given far → MovedBy steps far asked r far'
    → delivered_of payload given ++ option_to_list asked ≡ delivered_of payload (given_after given asked r)
    → GivenBy steps far0 payload (given_after given asked r) far'
given_moves {E} steps far0 far far' payload r given None h m e = subst (λ (x : E). GivenBy steps far0 payload given x) (sym m) h
given_moves {E} steps far0 far far' payload r None (Some p) h m e =
    let q : p ≡ payload = cc in
    subst (λ (x : List ℕ). steps far0 x r far') q (subst (λ (x : E). steps x p r far') h m)
given_moves steps far0 far far' payload r (Some r0) (Some p) h m e = absurd (cc)

-- what is counted of the events of a turn is counted of all that were added to a trace
pub counted_later : (count : List Event → ℕ) → ((a b : List Event) → count (a ++ b) ≡ count a + count b) → (base xs ys zs : List Event) (mid new : List Event)
    → mid ≡ base ++ xs → new ≡ mid ++ ys → new ≡ base ++ zs → 0 < count ys → 0 < count zs
counted_later count adds base xs ys zs mid new e1 e2 e3 h =
    let q : base ++ zs ≡ base ++ (xs ++ ys) = sym e3 ∙ e2 ∙ ap (λ (es : List Event). es ++ ys) e1 ∙ append_assoc base xs ys in
    let sum : count (xs ++ ys) ≡ count xs + count ys = adds xs ys in
    let all : count zs ≡ count (xs ++ ys) = ap count (append_cancel_left base zs (xs ++ ys) q) in
    omega (arith, sum, all, h)

pub positive : (n : ℕ) → (n ≡ 0 → ⊥) → 0 < n
positive zero p = absurd (p refl)
positive (suc n) p = omega arith

module _ {I T : Type 0} (L : StopAndWait I T Signal) where
  -- an answering end that isn't quiet says something
  pub says_some : (r : List ℕ) (t : T) (d : Does Signal) → (settled L r t d).answer ≡ None → d ≡ Quiet
  says_some r t Quiet e = refl
  says_some r t (Reply a) e = absurd (cc)
  says_some r t (Deliver p) e = absurd (cc)

  -- a turn of which nothing was heard, since it lost the field
  answered_lost : (t : T) (asked : Option (List ℕ)) (f : Signal) (q : Option Signal) (y : Fate) → None ≡ heard_in (answered L t asked f q y).heard → 0 < breaks (answered L t asked f q y).events
  answered_lost t asked f None y e = absurd cc
  answered_lost t asked f (Some a) Pass e = absurd cc
  answered_lost t asked f (Some a) Damage e = absurd cc
  answered_lost t asked f (Some a) Lose e = absurd cc
  answered_lost t asked f (Some a) Break e = omega arith

  pub turned_lost : (r : List ℕ) (t : T) (f : Signal) (x y : Fate) → None ≡ heard_in (turned L r t f x y).heard → 0 < breaks (turned L r t f x y).events
  turned_lost r t f Pass y e = answered_lost (step L r t f).state (step L r t f).asked f (step L r t f).answer y e
  turned_lost r t f Damage y e = absurd cc
  turned_lost r t f Lose y e = absurd cc
  turned_lost r t f Break y e = omega arith

module _ {I T : Type 0} (L : StopAndWait I T Signal) (before : List (List ℕ)) (payload : List ℕ) (K : Keeps L payload) (base : ℕ) where
  abbrev Any : Option (List ℕ) → Type 0
  Any g = Unit {0}

  abbrev pub J : World I T Signal → Stage Signal → Type 0
  J = Inv L before payload K Any base

  -- what the asking end is after a turn, and what is sent then
  abbrev pub next_asking : I → Option (Hears Signal) → I
  next_asking i None = i
  next_asking i (Some h) = L.next i h

  abbrev pub next_stage : I → Option (Hears Signal) → Stage Signal
  next_stage i None = Dark
  next_stage i (Some h) = stage_of (L.acts i h)

  abbrev pub next_bads : Option (Hears Signal) → ℕ
  next_bads None = 0
  next_bads (Some h) = badness h

  -- a turn leads from a world to this one
  pub record Follows (w : World I T Signal) (r : List ℕ) (turn : Turned T) : Type 0 where
    pub later : World I T Signal
    pub inv : J later later.stage
    pub answering : later.answering ≡ turn.answering
    pub given : later.given ≡ given_after w.given turn.asked r
    pub delivered : later.delivered ≡ w.delivered ++ option_to_list turn.asked
    pub arrives : later.arrived ≡ w.arrived ++ arrived turn.events
    pub sent : later.sent ≡ w.sent + length turn.events
    pub asking : later.asking ≡ next_asking w.asking turn.heard
    pub stage : later.stage ≡ next_stage w.asking turn.heard
    pub bads : later.bads ≡ w.bads + next_bads turn.heard

  step_on : (r : List ℕ) → K.Fits r → (w : World I T Signal) (s : Stage Signal) (x : Fate) → w.stage ≡ s → J w s → J (transmitted L (λ _. r) w s x) (transmitted L (λ _. r) w s x).stage
  step_on r fits = step_keeps L before payload K Any base (λ _. r) (λ _. fits) tt

  back_follows : (w mid : World I T Signal) (r : List ℕ) (asked : Option (List ℕ)) (f a : Signal) (y : Fate)
      → K.Fits r → mid.stage ≡ Answers a → J mid (Answers a)
      → mid.asking ≡ w.asking → mid.given ≡ given_after w.given asked r → mid.delivered ≡ w.delivered ++ option_to_list asked
      → mid.arrived ≡ w.arrived ++ f ∷ [] → mid.sent ≡ w.sent + 1 → mid.bads ≡ w.bads
      → Follows w r (sent_back L mid.answering asked f a y)
  back_follows w mid r asked f a Pass fits s inv e1 e2 e3 e4 e5 e6 =
      record {
        later = transmitted L (λ _. r) mid (Answers a) Pass;
        inv = step_on r fits mid (Answers a) Pass s inv;
        answering = refl;
        given = e2;
        delivered = e3;
        arrives = e4;
        sent = omega arith;
        asking = rw e1 refl;
        stage = rw e1 refl;
        bads = omega arith;
      }
  back_follows w mid r asked f a Damage fits s inv e1 e2 e3 e4 e5 e6 =
      record {
        later = transmitted L (λ _. r) mid (Answers a) Damage;
        inv = step_on r fits mid (Answers a) Damage s inv;
        answering = refl;
        given = e2;
        delivered = e3;
        arrives = e4;
        sent = omega arith;
        asking = rw e1 refl;
        stage = rw e1 refl;
        bads = omega arith;
      }
  back_follows w mid r asked f a Lose fits s inv e1 e2 e3 e4 e5 e6 =
      record {
        later = transmitted L (λ _. r) mid (Answers a) Lose;
        inv = step_on r fits mid (Answers a) Lose s inv;
        answering = refl;
        given = e2;
        delivered = e3;
        arrives = e4;
        sent = omega arith;
        asking = rw e1 refl;
        stage = rw e1 refl;
        bads = omega arith;
      }
  back_follows w mid r asked f a Break fits s inv e1 e2 e3 e4 e5 e6 =
      record {
        later = transmitted L (λ _. r) mid (Answers a) Break;
        inv = step_on r fits mid (Answers a) Break s inv;
        answering = refl;
        given = e2;
        delivered = e3;
        arrives = e4;
        sent = omega arith;
        asking = e1;
        stage = refl;
        bads = omega arith;
      }

  -- the request arrived, and the answering end does that
  pass_follows : (w : World I T Signal) (r : List ℕ) (f : Signal) (y : Fate) (u : T) (d : Does Signal) → K.Fits r
      → J (answering_does L (λ _. r) (record (counted w) { arrived = w.arrived ++ f ∷ [] }) u d) (answering_does L (λ _. r) (record (counted w) { arrived = w.arrived ++ f ∷ [] }) u d).stage
      → Follows w r (answered L (settled L r u d).state (settled L r u d).asked f (settled L r u d).answer y)
  pass_follows w r f y u Quiet fits inv =
      record {
        later = hears L (record (counted w) { arrived = w.arrived ++ f ∷ []; answering = u }) Silent;
        inv = inv;
        answering = refl;
        given = refl;
        delivered = sym (append-nil w.delivered);
        arrives = refl;
        sent = refl;
        asking = refl;
        stage = refl;
        bads = refl;
      }
  pass_follows w r f y u (Reply a) fits inv =
      back_follows w (record (counted w) { arrived = w.arrived ++ f ∷ []; answering = u; stage = Answers a }) r None f a y fits refl inv
      refl refl (sym (append-nil w.delivered)) refl refl refl
  pass_follows w r f y u (Deliver p) fits inv =
      back_follows w (answering_does L (λ _. r) (record (counted w) { arrived = w.arrived ++ f ∷ [] }) u (Deliver p)) r (Some p) f (L.answer u r) y fits refl inv
      refl refl refl refl refl refl

  -- a request that didn't arrive
  fail_follows : (w : World I T Signal) (r : List ℕ) (f : Signal) (x : Fate) → K.Fits r → w.stage ≡ Requests f → J w (Requests f)
      → (turn : Turned T) → (later : World I T Signal) → transmitted L (λ _. r) w (Requests f) x ≡ later
      → later.answering ≡ turn.answering → later.given ≡ given_after w.given turn.asked r → later.delivered ≡ w.delivered ++ option_to_list turn.asked
      → later.arrived ≡ w.arrived ++ arrived turn.events → later.sent ≡ w.sent + length turn.events
      → later.asking ≡ next_asking w.asking turn.heard → later.stage ≡ next_stage w.asking turn.heard → later.bads ≡ w.bads + next_bads turn.heard
      → Follows w r turn
  fail_follows w r f x fits s inv turn later e e1 e2 e3 e4 e5 e6 e7 e8 =
      record {
        later = later;
        inv = subst (λ (z : World I T Signal). J z z.stage) e (step_on r fits w (Requests f) x s inv);
        answering = e1;
        given = e2;
        delivered = e3;
        arrives = e4;
        sent = e5;
        asking = e6;
        stage = e7;
        bads = e8;
      }

  -- what holds before a turn holds after it
  pub turn_follows : (w : World I T Signal) (f : Signal) (r : List ℕ) (x y : Fate) → K.Fits r → w.stage ≡ Requests f → J w (Requests f)
      → Follows w r (turned L r w.answering f x y)
  turn_follows w f r Pass y fits s inv =
      pass_follows w r f y (L.heard w.answering f) (L.does w.answering f) fits (step_on r fits w (Requests f) Pass s inv)
  turn_follows w f r Damage y fits s inv =
      fail_follows w r f Damage fits s inv _ _ refl refl refl (sym (append-nil w.delivered)) (sym (append-nil w.arrived)) refl refl refl refl
  turn_follows w f r Lose y fits s inv =
      fail_follows w r f Lose fits s inv _ _ refl refl refl (sym (append-nil w.delivered)) (sym (append-nil w.arrived)) refl refl refl refl
  turn_follows w f r Break y fits s inv =
      fail_follows w r f Break fits s inv _ _ refl refl refl (sym (append-nil w.delivered)) (sym (append-nil w.arrived)) refl refl refl (omega arith)

  -- the events of a turn: a request first, and a bad reception exactly where one is heard
  pub record IsTold (turn : Turned T) : Type 0 where
    pub begins : back_of turn.events ≡ backs.Nothing
    pub bads : bad_receptions turn.events ≡ next_bads turn.heard

  back_told : (t : T) (asked : Option (List ℕ)) (f a : Signal) (y : Fate) → IsTold (sent_back L t asked f a y)
  back_told t asked f a Pass = record { begins = refl; bads = refl }
  back_told t asked f a Damage = record { begins = refl; bads = refl }
  back_told t asked f a Lose = record { begins = refl; bads = refl }
  back_told t asked f a Break = record { begins = refl; bads = refl }

  answered_told : (t : T) (asked : Option (List ℕ)) (f : Signal) (o : Option Signal) (y : Fate) → IsTold (answered L t asked f o y)
  answered_told t asked f None y = record { begins = refl; bads = refl }
  answered_told t asked f (Some a) y = back_told t asked f a y

  turn_told : (r : List ℕ) (t : T) (f : Signal) (x y : Fate) → IsTold (turned L r t f x y)
  turn_told r t f Pass y = answered_told (step L r t f).state (step L r t f).asked f (step L r t f).answer y
  turn_told r t f Damage y = record { begins = refl; bads = refl }
  turn_told r t f Lose y = record { begins = refl; bads = refl }
  turn_told r t f Break y = record { begins = refl; bads = refl }

  -- Where a loop over turns stands: its asking end, answering end, trace and far end are those of a world that keeps the
  -- law, and so is what is sent next; the events since it began tell what the world counts.
  pub record Along (E : Type 0) (steps : E → List ℕ → List ℕ → E → Type 0) (heard0 : List Signal) (es0 : List Event) (far0 : E)
      (i : I) (t : T) (es : List Event) (far : E) (stage : Stage Signal) : Type 0 where
    pub world : World I T Signal
    pub asking : world.asking ≡ i
    pub answering : world.answering ≡ t
    pub stage_is : world.stage ≡ stage
    pub inv : J world world.stage
    pub added : List Event
    pub events : es ≡ es0 ++ added
    pub arrives : heard0 ++ arrived added ≡ world.arrived
    pub sent : length added ≡ world.sent
    pub bads : bad_receptions added ≡ world.bads
    pub given : GivenBy steps far0 payload world.given far

  -- the payloads that were delivered, by what was given
  delivered_is : (w : World I T Signal) → J w w.stage → w.delivered ≡ before ++ delivered_of payload w.given
  delivered_is w inv = (kept_now L before payload K Any base w w.stage inv).once

  same_behind : (xs ys : List (List ℕ)) → before ++ xs ≡ before ++ ys → xs ≡ ys
  same_behind xs ys e = append_same before xs ys e
    where
      append_same : (zs us vs : List (List ℕ)) → zs ++ us ≡ zs ++ vs → us ≡ vs
      append_same [] us vs e = e
      append_same (z ∷ zs) us vs e = append_same zs us vs (let q : zs ++ us ≡ zs ++ vs = cc in q)

  -- a turn goes along, and what is heard of it is what the asking end hears
  pub record Onward (E : Type 0) (steps : E → List ℕ → List ℕ → E → Type 0) (heard0 : List Signal) (es0 : List Event) (far0 : E)
      (i : I) (heard : Option Heard) (t : T) (es : List Event) (far : E) : Type 0 where
    pub hears : Option (Hears Signal)
    pub heard_is : heard ≡ heard_in hears
    pub along : Along E steps heard0 es0 far0 (next_asking i hears) t es far (next_stage i hears)

  module _ (E : Type 0) (steps : E → List ℕ → List ℕ → E → Type 0) (heard0 : List Signal) (es0 : List Event) (far0 : E) where
    follow_along : (i : I) (t t' : T) (es es' : List Event) (far far' : E) (f : Signal) (r : List ℕ) (turn : Turned T)
        → (a : Along E steps heard0 es0 far0 i t es far (Requests f)) → Follows a.world r turn → IsTold turn
        → t' ≡ turn.answering → es' ≡ es ++ turn.events → MovedBy steps far turn.asked r far'
        → Along E steps heard0 es0 far0 (next_asking i turn.heard) t' es' far' (next_stage i turn.heard)
    follow_along i t t' es es' far far' f r turn a l o e1 e2 m =
        record {
          world = l.later;
          asking = l.asking ∙ ap (λ x. next_asking x turn.heard) a.asking;
          answering = l.answering ∙ sym e1;
          stage_is = l.stage ∙ ap (λ x. next_stage x turn.heard) a.asking;
          inv = l.inv;
          added = a.added ++ turn.events;
          events = e2 ∙ ap (λ (x : List Event). x ++ turn.events) a.events ∙ append_assoc es0 a.added turn.events;
          arrives =
              ap (λ (x : List Signal). heard0 ++ x) (arrived_append a.added turn.events) ∙ sym (append_assoc heard0 (arrived a.added) (arrived turn.events))
              ∙ ap (λ (x : List Signal). x ++ arrived turn.events) a.arrives ∙ sym l.arrives;
          sent = length-append a.added turn.events ∙ ap (λ (x : ℕ). x + length turn.events) a.sent ∙ sym l.sent;
          bads =
              (let q1 : bad_receptions (a.added ++ turn.events) ≡ bad_receptions a.added + bad_receptions turn.events = bads_append a.added turn.events o.begins in
              let q2 = o.bads in let q3 = l.bads in let q4 = a.bads in
              omega (arith, q1, q2, q3, q4));
          given =
              (let d1 = delivered_is a.world a.inv in
              let d2 = delivered_is l.later l.inv in
              let d3 : before ++ (delivered_of payload a.world.given ++ option_to_list turn.asked) ≡ before ++ delivered_of payload l.later.given =
              sym (append_assoc before (delivered_of payload a.world.given) (option_to_list turn.asked)) ∙ ap (λ (x : List (List ℕ)). x ++ option_to_list turn.asked) (sym d1) ∙ sym l.delivered ∙ d2 in
              subst (λ (x : Option (List ℕ)). GivenBy steps far0 payload x far') (sym l.given)
              (given_moves steps far0 far far' payload r a.world.given turn.asked a.given m
              (same_behind _ _ d3 ∙ ap (λ (x : Option (List ℕ)). delivered_of payload x) l.given)));
        }

    -- one turn more
    pub goes_along : (i : I) (t t' : T) (es es' : List Event) (far far' : E) (f : Signal) (h : Option Heard)
        → Along E steps heard0 es0 far0 i t es far (Requests f) → IsTurn L E K.Fits steps t es far f h t' es' far'
        → Onward E steps heard0 es0 far0 i h t' es' far'
    goes_along i t t' es es' far far' f h a n =
        let k : Follows a.world n.reply (turned L n.reply a.world.answering f n.first n.second) =
        turn_follows a.world f n.reply n.first n.second n.fits a.stage_is (subst (λ (x : Stage Signal). J a.world x) a.stage_is a.inv) in
        let l : Follows a.world n.reply (turned L n.reply t f n.first n.second) =
        subst (λ (x : T). Follows a.world n.reply (turned L n.reply x f n.first n.second)) a.answering k in
        record {
          hears = (turned L n.reply t f n.first n.second).heard;
          heard_is = n.heard_is;
          along = follow_along i t t' es es' far far' f n.reply (turned L n.reply t f n.first n.second) a l (turn_told n.reply t f n.first n.second) n.answering n.events n.moved;
        }

    -- a loop begins where its world has counted nothing
    abbrev pub starts_along : (w : World I T Signal) → J w w.stage → w.arrived ≡ heard0 → w.sent ≡ 0 → w.bads ≡ 0 → w.given ≡ None
        → Along E steps heard0 es0 far0 w.asking w.answering es0 far0 w.stage
    starts_along w inv e1 e2 e3 e4 =
        record {
          world = w;
          asking = refl;
          answering = refl;
          stage_is = refl;
          inv = inv;
          added = [];
          events = sym (append-nil es0);
          arrives = append-nil heard0 ∙ sym e1;
          sent = sym e2;
          bads = sym e3;
          given = rw e4 refl;
        }
