-- Whatever becomes of the transmissions of a link that stops and waits, a payload is delivered at most once, and exactly
-- once where the exchange ends with a reply. What is owed for it is said of one step of either end.
use Rattle.std.proofs.Common.{◌≡◌, ℕ, ◌+◌, ◌-◌, ◌*◌, ◌≤◌, List, [], ◌∷◌, ◌++◌, Option, Some, None, refl, sym, ◌∙◌, ap, subst, arith, append-nil}
use Rattle.nfc_base.specs.declared.event.Fate.{Fate}
use Rattle.nfc_base.specs.declared.event.Fate.TheVariants.{Pass, Damage, Lose, Break}
use Rattle.nfc_base.specs.StopAndWait.{Does, Quiet, Reply, Deliver, Hears, Whole, Damaged, Silent, Finished, SixBad, Protocol, Next, Send, Ends, StopAndWait, Stage, Requests, Answers, Over, Dark}
use Rattle.nfc_base.specs.StopAndWait.{stage_of, World, badness, counted, answering_does, darkened, transmitted, run, delivered_of, pieces_back, IsEnding, Once}

-- The number of pieces behind the first, of a reply that was given.
abbrev pub more_of : (List ℕ → ℕ) → Option (List ℕ) → ℕ
more_of more None = 0
more_of more (Some r) = more r

-- what holds at the next thing that an asking end does: P of a frame, Q of a reply, and R where it gives up
abbrev pub Goes : {F : Type 0} → (F → Type 0) → (List ℕ → Type 0) → Type 0 → Next F → Type 0
Goes P Q R (Send f) = P f
Goes P Q R (Ends (Finished r)) = Q r
Goes P Q R (Ends SixBad) = R
Goes P Q R (Ends Protocol) = ⊥

module _ {I T F : Type 0} (L : StopAndWait I T F) where
  -- how both ends stand, by what was given and a frame that is sent next, with a number of transmissions that are left
  abbrev pub Standing : Type 1
  Standing = I → T → Option (List ℕ) → F → ℕ → Type 0

  -- which payloads were delivered, and which frames arrived, where an answering end stands so
  abbrev pub Tally : Type 1
  Tally = T → List (List ℕ) → List F → Type 0

  -- a tally is kept at the frame f, with these payloads more
  abbrev pub Tallies : Tally → T → F → T → List (List ℕ) → Type 0
  Tallies Stood t f u more = (ps : List (List ℕ)) (fs : List F) → Stood t ps fs → Stood u (ps ++ more) (fs ++ f ∷ [])

  -- What is owed where a frame arrives, at which the answering end becomes u and does that: it answers, or delivers the
  -- payload for the first time. A reply raises the number by two for each piece behind its first.
  abbrev pub Lands : (out : List ℕ) (Ask Wait : Standing) (more : List ℕ → ℕ) (Fits : List ℕ → Type 0) (Stood : Tally)
      (i : I) (t : T) (g : Option (List ℕ)) (f : F) (n : ℕ) → T → Does F → Type 0
  Lands out Ask Wait more Fits Stood i t g f n u Quiet = Ask i u g f n × Tallies Stood t f u []
  Lands out Ask Wait more Fits Stood i t g f n u (Reply a) = Wait i u g a n × Tallies Stood t f u []
  Lands out Ask Wait more Fits Stood i t g f n u (Deliver p) =
      (p ≡ out) × (g ≡ None) × ((r : List ℕ) → Fits r → Wait i (L.replied u r) (Some r) (L.answer u r) (n + 2 * more r) × Tallies Stood t f (L.replied u r) (p ∷ []))

  -- What is owed of the tables, for the payload out. Ask: the asking end's frame is sent next; Wait: the answering end's.
  -- A frame that is heard lowers the number by two, a bad reception raises it by two at most.
  pub record Keeps (out : List ℕ) : Type 1 where
    pub Ask : Standing
    pub Wait : Standing
    pub Done : I → T → Type 0
    pub more : List ℕ → ℕ
    pub Fits : List ℕ → Type 0
    pub Stood : Tally
    pub stood : (t : T) (ps : List (List ℕ)) (fs : List F) → Stood t ps fs → L.payloads fs ≡ ps
    pub some_left : (i : I) (t : T) (g : Option (List ℕ)) (f : F) (n : ℕ) → Ask i t g f n → 1 ≤ n
    pub lands : (i : I) (t : T) (g : Option (List ℕ)) (f : F) (n : ℕ) → Ask i t g f n → Lands out Ask Wait more Fits Stood i t g f n (L.heard t f) (L.does t f)
    -- nothing comes back of a request
    pub unheard : (i : I) (t : T) (g : Option (List ℕ)) (f : F) (n : ℕ) → Ask i t g f n
        → Goes (λ k. (m : ℕ) × Ask (L.next i Silent) t g k m × (m ≤ n + 2)) (λ _. ⊥) (Unit {0}) (L.acts i Silent)
    -- an answer is lost, or damaged
    pub lost : (i : I) (t : T) (g : Option (List ℕ)) (a : F) (n : ℕ) → Wait i t g a n
        → Goes (λ k. (m : ℕ) × Ask (L.next i Silent) t g k m × (m ≤ n + 2)) (λ _. ⊥) (Unit {0}) (L.acts i Silent)
    pub damaged : (i : I) (t : T) (g : Option (List ℕ)) (a : F) (n : ℕ) → Wait i t g a n
        → Goes (λ k. (m : ℕ) × Ask (L.next i Damaged) t g k m × (m ≤ n + 2)) (λ _. ⊥) (Unit {0}) (L.acts i Damaged)
    -- the answer is heard
    pub answered : (i : I) (t : T) (g : Option (List ℕ)) (a : F) (n : ℕ) → Wait i t g a n
        → (2 ≤ n) × Goes (λ k. (m : ℕ) × Ask (L.next i (Whole a)) t g k m × (m + 2 ≤ n)) (λ r. (g ≡ Some r) × Done (L.next i (Whole a)) t) ⊥ (L.acts i (Whole a))

-- The next exchange may begin.
abbrev pub IsReady : {I T F : Type 0} (L : StopAndWait I T F) (out : List ℕ) → Keeps L out → World I T F → Type 0
IsReady L out K w = K.Done w.asking w.answering × K.Stood w.answering w.delivered w.arrived

module _ {I T F : Type 0} (L : StopAndWait I T F) (before : List (List ℕ)) (out : List ℕ) (K : Keeps L out) (Gave : Option (List ℕ) → Type 0) (base : ℕ) where
  -- what holds of a moment at which that number of transmissions is left, and extra ones of this turn
  pub record Base (w : World I T F) (n extra : ℕ) : Type 0 where
    pub once : w.delivered ≡ before ++ delivered_of out w.given
    pub reply : Gave w.given
    pub stood : K.Stood w.answering w.delivered w.arrived
    pub bound : w.sent + n ≤ base + 2 * more_of K.more w.given + 4 * w.bads + extra

  -- the law, with the number of transmissions as base and further pieces
  pub record Kept (w : World I T F) (s : Stage F) : Type 0 where
    pub once : w.delivered ≡ before ++ delivered_of out w.given
    pub reply : Gave w.given
    pub brings : L.payloads w.arrived ≡ w.delivered
    pub ending : IsEnding (IsReady L out K) w s
    pub within : w.sent ≤ base + 2 * more_of K.more w.given + 4 * w.bads

  abbrev pub Inv : World I T F → Stage F → Type 0
  Inv w (Requests f) = (n : ℕ) × K.Ask w.asking w.answering w.given f n × Base w n 0
  Inv w (Answers a) = (n : ℕ) × K.Wait w.asking w.answering w.given a n × Base w n 1
  Inv w (Over e) = Kept w (Over e)
  Inv w Dark = Kept w Dark

  -- more transmissions of this turn
  wider : (w : World I T F) (n : ℕ) → Base w n 1 → Base w n 2
  wider w n b = record { once = b.once; reply = b.reply; stood = b.stood; bound = (let z = b.bound in omega arith) }

  counts : (w : World I T F) (n : ℕ) → Base w n 0 → Base (counted w) n 1
  counts w n b = record { once = b.once; reply = b.reply; stood = b.stood; bound = (let z = b.bound in omega arith) }

  counts_again : (w : World I T F) (n : ℕ) → Base w n 1 → Base (counted w) n 2
  counts_again w n b = record { once = b.once; reply = b.reply; stood = b.stood; bound = (let z = b.bound in omega arith) }

  -- after a bad reception
  bad_keeps : (w : World I T F) (h : Hears F) (n : ℕ) → badness h ≡ 1 → Base w n 2
      → (x : Next F) → Goes (λ k. (m : ℕ) × K.Ask (L.next w.asking h) w.answering w.given k m × (m ≤ n + 2)) (λ _. ⊥) (Unit {0}) x
      → Inv (record w { asking = L.next w.asking h; stage = stage_of x; bads = w.bads + badness h }) (stage_of x)
  bad_keeps w h n e b (Send k) (m, a, l) =
      (m, a, record { once = b.once; reply = b.reply; stood = b.stood; bound = rw e (let z = b.bound in omega arith) })
  bad_keeps w h n e b (Ends (Finished r)) z = absurd z
  bad_keeps w h n e b (Ends SixBad) z =
      record { once = b.once; reply = b.reply; brings = K.stood w.answering w.delivered w.arrived b.stood; ending = tt; within = rw e (let y = b.bound in omega arith) }
  bad_keeps w h n e b (Ends Protocol) z = absurd z

  -- a frame arrives
  arrives_keeps : (far : List ℕ → List ℕ) → ((xs : List ℕ) → K.Fits (far xs)) → Gave (Some (far out)) → (w : World I T F) (f : F) (n : ℕ)
      → K.Ask w.asking w.answering w.given f n → Base w n 1
      → (x : Does F) → Lands L out K.Ask K.Wait K.more K.Fits K.Stood w.asking w.answering w.given f n (L.heard w.answering f) x
      → Inv (answering_does L far (record w { arrived = w.arrived ++ f ∷ [] }) (L.heard w.answering f) x)
      (answering_does L far (record w { arrived = w.arrived ++ f ∷ [] }) (L.heard w.answering f) x).stage
  arrives_keeps far fits y w f n a b Quiet q =
      let c : K.Stood (L.heard w.answering f) w.delivered (w.arrived ++ f ∷ []) =
      subst (λ (ps : List (List ℕ)). K.Stood (L.heard w.answering f) ps (w.arrived ++ f ∷ [])) (append-nil w.delivered) (q.1 w.delivered w.arrived b.stood) in
      bad_keeps (record w { arrived = w.arrived ++ f ∷ []; answering = L.heard w.answering f }) Silent n refl
      (record { once = b.once; reply = b.reply; stood = c; bound = (let z = b.bound in omega arith) }) (L.acts w.asking Silent)
      (K.unheard w.asking (L.heard w.answering f) w.given f n q.0)
  arrives_keeps far fits y w f n a b (Reply r) q =
      let c : K.Stood (L.heard w.answering f) w.delivered (w.arrived ++ f ∷ []) =
      subst (λ (ps : List (List ℕ)). K.Stood (L.heard w.answering f) ps (w.arrived ++ f ∷ [])) (append-nil w.delivered) (q.1 w.delivered w.arrived b.stood) in
      (n, q.0, record { once = b.once; reply = b.reply; stood = c; bound = b.bound })
  arrives_keeps far fits y w f n a b (Deliver p) q =
      let s = q.2 (far p) (fits p) in
      let o : w.delivered ≡ before = b.once ∙ ap (λ (z : Option (List ℕ)). before ++ delivered_of out z) q.1 ∙ append-nil before in (
        n + 2 * K.more (far p),
        s.0,
        record {
          once = rw (o, q.0) refl;
          reply = rw q.0 y;
          stood = s.1 w.delivered w.arrived b.stood;
          bound = (let z = rw q.1 at b.bound in omega arith);
        },
      )

  -- a whole answer is heard
  heard_keeps : (w : World I T F) (a : F) (n : ℕ) → 2 ≤ n → Base w n 2
      → (x : Next F)
      → Goes (λ k. (m : ℕ) × K.Ask (L.next w.asking (Whole a)) w.answering w.given k m × (m + 2 ≤ n)) (λ r. (w.given ≡ Some r) × K.Done (L.next w.asking (Whole a)) w.answering) ⊥ x
      → Inv (record w { asking = L.next w.asking (Whole a); stage = stage_of x; bads = w.bads + 0 }) (stage_of x)
  heard_keeps w a n p b (Send k) (m, s, l) =
      (m, s, record { once = b.once; reply = b.reply; stood = b.stood; bound = (let z = b.bound in omega arith) })
  heard_keeps w a n p b (Ends (Finished r)) z =
      record {
        once = b.once;
        reply = b.reply;
        brings = K.stood w.answering w.delivered w.arrived b.stood;
        ending = (z.0, (z.1, b.stood));
        within = (let y = b.bound in omega arith);
      }
  heard_keeps w a n p b (Ends SixBad) z = absurd z
  heard_keeps w a n p b (Ends Protocol) z = absurd z

  -- the field is lost
  dark_keeps : (w : World I T F) (n extra : ℕ) → extra ≤ n → Base w n extra → Kept (darkened L w) Dark
  dark_keeps w n extra p b =
      record { once = b.once; reply = b.reply; brings = K.stood w.answering w.delivered w.arrived b.stood; ending = tt; within = (let y = b.bound in omega arith) }

  -- one transmission keeps the law
  pub step_keeps : (far : List ℕ → List ℕ) → ((xs : List ℕ) → K.Fits (far xs)) → Gave (Some (far out)) → (w : World I T F) (stage : Stage F) (fate : Fate)
      → w.stage ≡ stage → Inv w stage → Inv (transmitted L far w stage fate) (transmitted L far w stage fate).stage
  step_keeps far fits y w (Requests f) Pass s (n, a, b) =
      arrives_keeps far fits y (counted w) f n a (counts w n b) (L.does w.answering f) (K.lands w.asking w.answering w.given f n a)
  step_keeps far fits y w (Requests f) Damage s (n, a, b) =
      bad_keeps (counted w) Silent n refl (wider (counted w) n (counts w n b)) (L.acts w.asking Silent) (K.unheard w.asking w.answering w.given f n a)
  step_keeps far fits y w (Requests f) Lose s (n, a, b) =
      bad_keeps (counted w) Silent n refl (wider (counted w) n (counts w n b)) (L.acts w.asking Silent) (K.unheard w.asking w.answering w.given f n a)
  step_keeps far fits y w (Requests f) Break s (n, a, b) = dark_keeps (counted w) n 1 (K.some_left w.asking w.answering w.given f n a) (counts w n b)
  step_keeps far fits y w (Answers f) Pass s (n, a, b) =
      let q = K.answered w.asking w.answering w.given f n a in heard_keeps (counted w) f n q.0 (counts_again w n b) (L.acts w.asking (Whole f)) q.1
  step_keeps far fits y w (Answers f) Damage s (n, a, b) =
      bad_keeps (counted w) Damaged n refl (counts_again w n b) (L.acts w.asking Damaged) (K.damaged w.asking w.answering w.given f n a)
  step_keeps far fits y w (Answers f) Lose s (n, a, b) =
      bad_keeps (counted w) Silent n refl (counts_again w n b) (L.acts w.asking Silent) (K.lost w.asking w.answering w.given f n a)
  step_keeps far fits y w (Answers f) Break s (n, a, b) = dark_keeps (counted w) n 2 (K.answered w.asking w.answering w.given f n a).0 (counts_again w n b)
  step_keeps far fits y w (Over e) fate s h = subst (λ (z : Stage F). Inv w z) (sym s) h
  step_keeps far fits y w Dark fate s h = subst (λ (z : Stage F). Inv w z) (sym s) h

  -- any list of fates keeps it
  pub run_keeps : (far : List ℕ → List ℕ) → ((xs : List ℕ) → K.Fits (far xs)) → Gave (Some (far out)) → (w : World I T F) (fates : List Fate)
      → Inv w w.stage → Inv (run L far w fates) (run L far w fates).stage
  run_keeps far fits y w [] h = h
  run_keeps far fits y w (fate ∷ fates) h = run_keeps far fits y (transmitted L far w w.stage fate) fates (step_keeps far fits y w w.stage fate refl h)

  -- at any moment
  pub kept_now : (w : World I T F) (stage : Stage F) → Inv w stage → Kept w stage
  kept_now w (Requests f) (n, a, b) =
      record { once = b.once; reply = b.reply; brings = K.stood w.answering w.delivered w.arrived b.stood; ending = tt; within = (let z = b.bound in omega arith) }
  kept_now w (Answers a) (n, x, b) =
      let q = (K.answered w.asking w.answering w.given a n x).0 in
      record { once = b.once; reply = b.reply; brings = K.stood w.answering w.delivered w.arrived b.stood; ending = tt; within = (let z = b.bound in omega arith) }
  kept_now w (Over e) h = h
  kept_now w Dark h = h

-- the law's bound, by the pieces that go out and come back
bounded : (out : ℕ) (back more : List ℕ → ℕ) (given : Option (List ℕ)) (sent bads : ℕ) → ((r : List ℕ) → back r ≡ 1 + more r)
    → sent ≤ 2 * out + 2 * more_of more given + 4 * bads → sent ≤ 2 * (out + pieces_back back given - 1) + 4 * bads
bounded out back more None sent bads e h = omega arith
bounded out back more (Some r) sent bads e h = (let q = e r in omega arith)

module _ {I T F : Type 0} (L : StopAndWait I T F) (before : List (List ℕ)) (payload : List ℕ) (K : Keeps L payload) (Gave : Option (List ℕ) → Type 0)
    (out : ℕ) (back : List ℕ → ℕ) (more : (r : List ℕ) → back r ≡ 1 + K.more r) where
  -- what keeps the law keeps it in the words of its definition
  pub kept_once : (w : World I T F) → Inv L before payload K Gave (2 * out) w w.stage → Once L (IsReady L payload K) Gave before payload out back w
  kept_once w h =
      let k = kept_now L before payload K Gave (2 * out) w w.stage h in
      record {
        once = k.once;
        reply = k.reply;
        brings = k.brings;
        ending = k.ending;
        within = bounded out back K.more w.given w.sent w.bads more k.within;
      }

  -- Two ends that stand so keep the law over every list of fates, whatever the owner of the answering end replies.
  pub exactly_once : (far : List ℕ → List ℕ) → ((xs : List ℕ) → K.Fits (far xs)) → Gave (Some (far payload)) → (w : World I T F) (fates : List Fate)
      → Inv L before payload K Gave (2 * out) w w.stage → Once L (IsReady L payload K) Gave before payload out back (run L far w fates)
  exactly_once far fits y w fates h = kept_once (run L far w fates) (run_keeps L before payload K Gave (2 * out) far fits y w fates h)
