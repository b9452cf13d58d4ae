-- What doesn't show decides nothing later: alike states accept the same commands, and have the same fronts and the same legal steps.
use Rattle.std.proofs.Common.{◌≡◌, inl, inr, List, [], Option, Some, None, IsSome, refl, sym, ◌∙◌, ap, subst}
use Rattle.nfc_base.specs.declared.event.Event.{Event}
use Rattle.nfc_base.specs.declared.event.Fate.{Fate}
use Rattle.bench_script.specs.declared.command.Command.{Command}
use Rattle.bench_world.specs.declared.entry.Entry.{Entry}
use Rattle.bench_world.specs.Alike.{Alike, AlikeAccept, AlikeAnswers, AlikeFronts, AlikeSteps}
use Rattle.bench_world.specs.Legal.{State, Given, Accepts, AnswerLaw, FrontOf, IsAskedBy, LegalStep, link_after, state_after}
use Rattle.bench_world.specs.Links.{OpenLink}
use Rattle.bench_world.specs.Peers.{Peers}
use Rattle.bench_world.specs.World.{WholeWorld}
use Rattle.bench_world.proofs.alike.AlikeChanged.{no_link, accepts_same, cut_leaves_none}
use Rattle.bench_world.proofs.alike.AlikeFronts.{front_same, leads_on, opens_or_none, over_same, starts, was_sent}
use Rattle.bench_world.proofs.alike.AlikeLaws.{law_same}
use Rattle.bench_world.proofs.alike.AlikeWorlds.{SameWorld, from_dark}
use Rattle.bench_world.proofs.lines.OneJournal.{one_answer, one_asked_by}

-- A state is alike to itself, to each that is alike to it, and to what one is alike to that it is alike to.
pub alike_itself : (s : State) → Alike s s
alike_itself s = record { link = refl; lit = refl; queue = refl; peers = refl; stays = refl; whole = λ open_. refl }

pub alike_back : (s t : State) → Alike s t → Alike t s
alike_back s t a = record {
  link = sym a.link;
  lit = sym a.lit;
  queue = sym a.queue;
  peers = sym a.peers;
  stays = sym a.stays;
  whole = λ open_. sym (a.whole (subst IsSome (sym a.link) open_));
}

-- What holds of a state and itself, and of two in which no link is open and whose worlds the dark leaves the same, holds of alike states.
by_alike : (P : State → State → Type 0) → ((s : State) → P s s) → ((w v : WholeWorld) → SameWorld w v → (q : List Fate) (p : Peers) → P (no_link w q p) (no_link v q p))
    → (s t : State) → Alike s t → P s t
by_alike P own none s t alike = by_link s.link refl
  where
    by_link : (l : Option OpenLink) → s.link ≡ l → P s t
    by_link (Some l) is = subst (P s) (alike.whole (subst IsSome (sym is) refl)) (own s)
    by_link None is =
        let here : no_link s.world s.queue s.peers ≡ s = ap (λ x. let r : State = record { world = s.world; queue = s.queue; peers = s.peers; link = x } in r) (sym is) in
        let there : no_link t.world s.queue s.peers ≡ t =
        ap (λ x. let r : State = record { world = t.world; queue = x; peers = s.peers; link = None } in r) alike.queue
        ∙ ap (λ x. let r : State = record { world = t.world; queue = t.queue; peers = x; link = None } in r) alike.peers
        ∙ ap (λ x. let r : State = record { world = t.world; queue = t.queue; peers = t.peers; link = x } in r) (sym is ∙ alike.link) in
        subst (λ x. P x t) here
        (subst (P (no_link s.world s.queue s.peers)) there (none s.world t.world (from_dark s.world t.world alike.lit alike.stays) s.queue s.peers))

pub alike_accept : AlikeAccept
alike_accept s t c alike is = by_alike (λ x y. Accepts x c → Accepts y c) (λ x a. a) (λ w v same q p a. accepts_same w v same q p c a) s t alike is

-- A front where no link is open.
fronts_none : (w v : WholeWorld) → SameWorld w v → (q : List Fate) (p : Peers) (u : State) (g : Given) (c : Command) (es : List Event) → FrontOf (no_link w q p) g c es None u
    → (x : State) × FrontOf (no_link v q p) g c es None x × Alike u x
fronts_none w v same q p u g c es f =
    (state_after (no_link v q p) g.joins c es None, front_same w v same q p g c es u f, leads_on w v same q p g c es u f none)
  where
    none : IsSome (link_after (no_link w q p) g.joins c es None) → es ≡ [] → ⊥
    none some e = let clash : IsSome {T = OpenLink} None = subst IsSome (cut_leaves_none w q p g.joins c es) some in cc

pub alike_fronts : AlikeFronts
alike_fronts s t u g c es alike f =
    by_alike (λ x y. FrontOf x g c es None u → (z : State) × FrontOf y g c es None z × Alike u z) (λ x h. (u, h, alike_itself u))
    (λ w v same q p h. fronts_none w v same q p u g c es h) s t alike f

-- A step where no link is open.
steps_none : (w v : WholeWorld) → SameWorld w v → (q : List Fate) (p : Peers) (u : State) (g : Given) (e : Entry) → LegalStep (no_link w q p) g e u
    → (x : State) × LegalStep (no_link v q p) g e x × Alike u x
steps_none w v same q p u g e step = (
  state_after (no_link v q p) g.joins e.command e.events (Some e.answer),
  record {
    front = front_same w v same q p g e.command e.events u step.front;
    over = over_same w v same q p g e.command e.events step.over;
    answered = law_same w v same q p g e.events (starts w v same q p g e.command e.events u step.front) e.command e.answer step.over step.answered;
  },
  leads_on w v same q p g e.command e.events u step.front sent,
)
  where
    sent : IsSome (link_after (no_link w q p) g.joins e.command e.events (Some e.answer)) → e.events ≡ [] → ⊥
    sent some = elim (opens_or_none w q p g e.command e.events (Some e.answer)) [
      | inl lit ↦ was_sent (no_link w q p) g e.command e.events lit step.over
      | inr none ↦ (λ empty. let clash : IsSome {T = OpenLink} None = subst IsSome none some in cc)
    ]

pub alike_steps : AlikeSteps
alike_steps s t u g e alike step =
    by_alike (λ x y. LegalStep x g e u → (z : State) × LegalStep y g e z × Alike u z) (λ x h. (u, h, alike_itself u))
    (λ w v same q p h. steps_none w v same q p u g e h) s t alike step

-- What happened decides the answer.
pub alike_answers : AlikeAnswers
alike_answers s t u v g h e f alike one two commands events told =
    let here = alike_steps s t u g e alike one in
    let asked : IsAskedBy t e.command h.asked = subst (λ c. IsAskedBy t c h.asked) (sym commands) two.front.asks in
    let same : h.asked ≡ g.asked = one_asked_by t e.command h.asked g.asked asked here.1.front.asks in
    let law : AnswerLaw t h e.command e.events f.answer =
    subst (λ es. AnswerLaw t h e.command es f.answer) (sym events) (subst (λ c. AnswerLaw t h c f.events f.answer) (sym commands) two.answered) in
    one_answer t e.command g.asked g.joins h.joins e.events e.answer f.answer (λ asking l at is. told asking l at (alike.link ∙ is)) here.1.answered
    (subst (λ as_. AnswerLaw t (record { asked = as_; joins = h.joins }) e.command e.events f.answer) same law)
