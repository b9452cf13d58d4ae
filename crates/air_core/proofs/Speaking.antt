-- Turns of a reader with listeners and a far end of any kind, one after another.
use Rattle.std.proofs.Common.{◌≡◌, ℕ, List, [], ◌∷◌, ◌++◌, Bool, true, false, Option, Some, None, Err, inl, inr, refl, sym, ◌∙◌, ap, subst, append_assoc, append-nil}
use Rattle.nfc_base.specs.Signal.{Signal}
use Rattle.nfc_base.specs.Trace.{back_of, heard_by}
use Rattle.nfc_base.specs.Trace as backs
use Rattle.nfc_base.specs.declared.event.Event.{Event}
use Rattle.nfc_base.specs.declared.event.Event.TheVariants.{Request, Answer, Clash}
use Rattle.nfc_base.specs.declared.event.Fate.{Fate}
use Rattle.nfc_base.specs.declared.event.Fate.TheVariants.{Pass, Damage, Lose, Break}
use Rattle.nfc_base.specs.declared.event.Heard.{Heard}
use Rattle.air_core.specs.Joint.{Joint, Nothing, Single, Clashing, joint}
use Rattle.air_core.specs.World.{Machine, World}
use Rattle.air_core.specs.Turn.{Air, after_event, brought, TurnBy, TurnIs, HearSome, Stops, Transmits}
use Rattle.air_core.specs.Conversation.{Note, Lit, Got, Lost, note, Next, Asks, receptions, EachDue, first_fate, later_fates, queue_after, FatesFrom, joint_back}
use Rattle.air_core.specs.laws.Turning.{queue_after-append, fates-append, due-append, back_of-append, receptions-append}
use Rattle.air_core.specs.declared.fault.AirFault.TheVariants as air
use Rattle.air_core.specs.Speaking.{lit_after, DueTurns, Speaks, LeavesOff, TellsWhy}

-- what one turn adds
record Adds {L : Type 0} (old : Air L) (f : Signal) (h : Option Heard) (new : Air L) : Type 0 where
  events : List Event
  trace : new.trace ≡ old.trace ++ events
  fates : FatesFrom old.fates events
  queue : new.fates ≡ queue_after old.fates events
  fresh : back_of events ≡ backs.Nothing
  known : receptions events ≡ note h ∷ []
  due : (next : List Note → Next) (before : List Event) → next (receptions before) ≡ Asks f → EachDue next before events
  lit : new.lit ≡ lit_after true (note h ∷ [])

module _ {L : Type 0} (m : Machine L) (old : Air L) (f : Signal) where
  -- the request alone
  alone : (x : Fate) (w : World L) → x ≡ first_fate old.fates → w.lit ≡ lit_after true (note (heard_by x backs.Nothing) ∷ [])
      → Adds old f (heard_by x backs.Nothing) (after_event old (Request f x) (later_fates old.fates) w)
  alone x w e lit = record {
    events = Request f x ∷ [];
    trace = refl;
    fates = (e, tt);
    queue = refl;
    fresh = refl;
    known = refl;
    due = λ next before d. (d, tt);
    lit = lit;
  }

  -- an answer or a clash behind it
  module _ (e : Pass ≡ first_fate old.fates) (w : World L) (lit : w.lit ≡ true) where
    abbrev mid : Air L
    mid = after_event old (Request f Pass) (later_fates old.fates) w

    answered : (g : Signal) (y : Fate) → y ≡ first_fate (later_fates old.fates) → Adds old f (heard_by Pass (joint_back (Single g) y)) (brought m mid (Single g) y)
    answered g y q = record {
      events = Request f Pass ∷ Answer g y ∷ [];
      trace = append_assoc old.trace (Request f Pass ∷ []) (Answer g y ∷ []);
      fates = (e, (q, tt));
      queue = refl;
      fresh = refl;
      known = refl;
      due = λ next before d. (d, tt);
      lit = by_fate y;
    }
      where
        by_fate : (z : Fate) → (brought m mid (Single g) z).lit ≡ lit_after true (note (heard_by Pass (joint_back (Single g) z)) ∷ [])
        by_fate Pass = lit
        by_fate Damage = lit
        by_fate Lose = lit
        by_fate Break = refl

    clashed : (g : Signal) (y : Fate) → y ≡ first_fate (later_fates old.fates) → Adds old f (heard_by Pass (joint_back (Clashing g) y)) (brought m mid (Clashing g) y)
    clashed g y q = record {
      events = Request f Pass ∷ Clash g y ∷ [];
      trace = append_assoc old.trace (Request f Pass ∷ []) (Clash g y ∷ []);
      fates = (e, (q, tt));
      queue = refl;
      fresh = refl;
      known = refl;
      due = λ next before d. (d, tt);
      lit = by_fate y;
    }
      where
        by_fate : (z : Fate) → (brought m mid (Clashing g) z).lit ≡ lit_after true (note (heard_by Pass (joint_back (Clashing g) z)) ∷ [])
        by_fate Pass = lit
        by_fate Damage = lit
        by_fate Lose = lit
        by_fate Break = refl

    back : (j : Joint) (y : Fate) → y ≡ first_fate (later_fates old.fates) → Adds old f (heard_by Pass (joint_back j y)) (brought m mid j y)
    back Nothing y q = alone Pass w e lit
    back (Single g) y q = answered g y q
    back (Clashing g) y q = clashed g y q

  module _ {F : Type 0} (restarts : F → List ℕ → F → Type 0) (steps : F → List ℕ → List ℕ → F → Type 0) (far far' : F) (new : Air L) (h : Option Heard) where
    adds_by : (x : Fate) → x ≡ first_fate old.fates → old.lit ≡ true → TurnBy m restarts steps x old f far h new far' → Adds old f h new
    adds_by Pass e lit t =
        let w : World L = record { lit = true; listeners = t.listeners } in
        let y : Fate = first_fate (later_fates old.fates) in
        subst (λ (z : Option Heard). Adds old f z new) (sym t.back)
        (subst (λ (a : Air L). Adds old f (heard_by Pass (joint_back (joint t.answers) y)) a) (sym t.left) (back e w refl (joint t.answers) y refl))
    adds_by Damage e lit t =
        subst (λ (z : Option Heard). Adds old f z new) (sym t.back) (subst (λ (a : Air L). Adds old f (heard_by Damage backs.Nothing) a) (sym t.left) (alone Damage _ e lit))
    adds_by Lose e lit t =
        subst (λ (z : Option Heard). Adds old f z new) (sym t.back) (subst (λ (a : Air L). Adds old f (heard_by Lose backs.Nothing) a) (sym t.left) (alone Lose _ e lit))
    adds_by Break e lit t =
        subst (λ (z : Option Heard). Adds old f z new) (sym t.back) (subst (λ (a : Air L). Adds old f (heard_by Break backs.Nothing) a) (sym t.left) (alone Break _ e refl))

-- what is noted behind other notes
lit_append : (lit : Bool) (ns : List Note) (n : Note) → lit_after lit (ns ++ n ∷ []) ≡ lit_after (lit_after lit ns) (n ∷ [])
lit_append lit [] n = refl
lit_append lit (Lit ∷ ns) n = lit_append true ns n
lit_append lit (Got h ∷ ns) n = lit_append lit ns n
lit_append lit (Lost ∷ ns) n = lit_append false ns n

module _ {L A : Type 0} (m : Machine L) (restarts : A → List ℕ → A → Type 0) (steps : A → List ℕ → List ℕ → A → Type 0) (next : List Note → Next) where
  -- a turn behind others
  turns_more : (f : Signal) (h : Option Heard) (now new : Air L) (half after : A) → TurnIs m restarts steps now f half h new after → (seen ns : List Note) (old : Air L) (far : A)
      → DueTurns m restarts steps next seen old far ns now half → next (seen ++ ns) ≡ Asks f → DueTurns m restarts steps next seen old far (ns ++ note h ∷ []) new after
  turns_more f h now new half after t seen [] old far e due =
      let P : Air L → Type 0 = λ a. TurnIs m restarts steps a f far h new after in
      let Q : A → Type 0 = λ a. TurnIs m restarts steps now f a h new after in
      (f, h, new, after, ap next (sym (append-nil seen)) ∙ due, refl, subst P e.0 (subst Q e.1 t), (refl, refl))
  turns_more f h now new half after t seen (n ∷ ns) old far (g, k, a, b, d, s, u, rest) due =
      (g, k, a, b, d, s, u, turns_more f h now new half after t (seen ++ n ∷ []) ns a b rest (ap next (append_assoc seen (n ∷ []) ns) ∙ due))

  module _ (old : Air L) (far : A) where
    pub speaks_start : Speaks m restarts steps next old far old far []
    speaks_start = record {
      turns = (refl, refl);
      events = [];
      trace = sym (append-nil old.trace);
      each = tt;
      fates = tt;
      queue = refl;
      fresh = refl;
      known = refl;
      lit = refl;
      dim = λ e. refl;
    }

    speaks_more : (mid new : Air L) (half after : A) (ns : List Note) (f : Signal) (h : Option Heard) → Speaks m restarts steps next old far mid half ns → next ns ≡ Asks f
        → TurnIs m restarts steps mid f half h new after → Adds mid f h new → Speaks m restarts steps next old far new after (ns ++ note h ∷ [])
    speaks_more mid new half after ns f h s due t a = record {
      turns = turns_more f h mid new half after t [] ns old far s.turns due;
      events = s.events ++ a.events;
      trace = a.trace ∙ ap (λ (t : List Event). t ++ a.events) s.trace ∙ append_assoc old.trace s.events a.events;
      each = due-append next [] s.events a.events s.each (a.due next s.events (ap next s.known ∙ due));
      fates = fates-append old.fates s.events a.events s.fates (subst (λ (q : List Fate). FatesFrom q a.events) s.queue a.fates);
      queue = a.queue ∙ ap (λ (q : List Fate). queue_after q a.events) s.queue ∙ sym (queue_after-append old.fates s.events a.events);
      fresh = back_of-append s.events a.events a.fresh ∙ s.fresh;
      known = receptions-append s.events a.events a.fresh ∙ ap (λ (t : List Note). t ++ receptions a.events) s.known ∙ ap (λ (t : List Note). ns ++ t) a.known;
      lit = a.lit ∙ ap (λ (v : Bool). lit_after v (note h ∷ [])) (sym t.lit ∙ s.lit) ∙ sym (lit_append old.lit ns (note h));
      dim = λ e. absurd (let bright : mid.lit ≡ true = t.lit in let dark : mid.lit ≡ false = ap (λ (z : Air L). z.lit) (s.dim e) ∙ e in cc);
    }

    -- a turn more was made
    pub speaks_turn : (mid new : Air L) (half after : A) (ns : List Note) (f : Signal) (h : Option Heard) → Speaks m restarts steps next old far mid half ns → next ns ≡ Asks f
        → TurnIs m restarts steps mid f half h new after → Speaks m restarts steps next old far new after (ns ++ note h ∷ [])
    speaks_turn mid new half after ns f h s due t = speaks_more mid new half after ns f h s due t (adds_by m mid f restarts steps half after new h (first_fate mid.fates) refl t.lit t.by)

-- Where a conversation goes on, the field is as lit as it was, and nothing was heard in the dark.
pub record SpeaksOn {L A : Type 0} (m : Machine L) (restarts : A → List ℕ → A → Type 0) (steps : A → List ℕ → List ℕ → A → Type 0) (next : List Note → Next)
    (old : Air L) (far : A) (mid : Air L) (half : A) (notes : List Note) : Type 0 where
  pub speaks : Speaks m restarts steps next old far mid half notes
  pub lit : mid.lit ≡ old.lit
  pub none : old.lit ≡ false → notes ≡ []

pub on_start : {L A : Type 0} (m : Machine L) (restarts : A → List ℕ → A → Type 0) (steps : A → List ℕ → List ℕ → A → Type 0) (next : List Note → Next) (old : Air L) (far : A)
    → SpeaksOn m restarts steps next old far old far []
on_start m restarts steps next old far = record { speaks = speaks_start m restarts steps next old far; lit = refl; none = λ e. refl }

-- Memory is wanting only in a lit field.
pub wanting_lit : {R : Type 0} (dark wanting : R) (lit : Bool) (ns : List Note) → lit ≡ true → TellsWhy dark wanting lit ns wanting
wanting_lit dark wanting true ns e = refl
wanting_lit dark wanting false ns e = absurd cc

pub lost_dark : {R : Type 0} (dark wanting : R) (lit : Bool) (ns : List Note) → lit ≡ false → (lit ≡ false → ns ≡ []) → TellsWhy dark wanting lit ns dark
lost_dark dark wanting true ns e none = absurd cc
lost_dark dark wanting false ns e none = (none refl, refl)

-- A far end that never stops breaks no turn off.
pub rests_there : {L A : Type 0} (m : Machine L) (restarts : A → List ℕ → A → Type 0) (steps : A → List ℕ → List ℕ → A → Type 0) (stops : A → List ℕ → A → Type 0) (is_stuck : A → Bool)
    → ((a b : A) (p : List ℕ) → stops a p b → ⊥) → (mid : Air L) (f : Signal) (half : A) (new : Air L) (after : A) → Stops m restarts steps stops is_stuck mid f half new after → ⊥
rests_there {L} {A} m restarts steps stops is_stuck never mid f half new after s = goes_on mid.listeners s.listeners half after s.some
  where
    goes_on : (ls ls' : List L) (a b : A) → HearSome m restarts steps stops is_stuck f ls a ls' b → ⊥
    goes_on [] ls' a b h = h
    goes_on (l ∷ ls) ls' a b (l', later, e, inl h) = never a b h.0.payload h.0.far
    goes_on (l ∷ ls) ls' a b (l', later, e, inr (answer, c, meets, h)) = goes_on ls later c b h

-- Such a far end leaves off where it stands.
pub rests_off : {L A : Type 0} (m : Machine L) (restarts : A → List ℕ → A → Type 0) (steps : A → List ℕ → List ℕ → A → Type 0) (next : List Note → Next)
    (stops : A → List ℕ → A → Type 0) (is_stuck : A → Bool)
    → ((a b : A) (p : List ℕ) → stops a p b → ⊥) → (old : Air L) (far : A) (mid : Air L) (half : A) (new : Air L) (after : A) (ns : List Note) → Speaks m restarts steps next old far mid half ns
    → LeavesOff m restarts steps next stops is_stuck ns mid half new after → Speaks m restarts steps next old far new after ns
rests_off m restarts steps next stops is_stuck never old far mid half new after ns s (inl same) =
    subst (λ (a : Air _). Speaks m restarts steps next old far a after ns) (sym same.0) (subst (λ (b : _). Speaks m restarts steps next old far mid b ns) (sym same.1) s)
rests_off m restarts steps next stops is_stuck never old far mid half new after ns s (inr (f, due, stop)) = absurd (rests_there m restarts steps stops is_stuck never mid f half new after stop)

module _ {L A : Type 0} (m : Machine L) (restarts : A → List ℕ → A → Type 0) (steps : A → List ℕ → List ℕ → A → Type 0) (next : List Note → Next)
    (old : Air L) (far : A) (mid new : Air L) (half after : A) (ns : List Note) (f : Signal) (o : SpeaksOn m restarts steps next old far mid half ns) where
  pub on_turn : (h : Heard) → next ns ≡ Asks f → TurnIs m restarts steps mid f half (Some h) new after → SpeaksOn m restarts steps next old far new after (ns ++ Got h ∷ [])
  on_turn h due t =
      let s : Speaks m restarts steps next old far new after (ns ++ Got h ∷ []) = speaks_turn m restarts steps next old far mid new half after ns f (Some h) o.speaks due t in
      let bright : old.lit ≡ true = sym o.lit ∙ t.lit in
      record {
        speaks = s;
        lit = s.lit ∙ lit_append old.lit ns (Got h) ∙ sym o.speaks.lit ∙ o.lit;
        none = λ e. absurd cc;
      }

  pub on_lost : next ns ≡ Asks f → TurnIs m restarts steps mid f half None new after → Speaks m restarts steps next old far new after (ns ++ Lost ∷ [])
  on_lost due t = speaks_turn m restarts steps next old far mid new half after ns f None o.speaks due t

  -- nothing happened, since the field was dark
  pub on_dark : {R : Type 0} (dark wanting : R) → mid.lit ≡ false → new ≡ mid → after ≡ half → Speaks m restarts steps next old far new after ns × TellsWhy dark wanting old.lit ns dark
  on_dark dark wanting dim same rests = (
    subst (λ (a : Air L). Speaks m restarts steps next old far a after ns) (sym same) (subst (λ (b : A). Speaks m restarts steps next old far mid b ns) (sym rests) o.speaks),
    lost_dark dark wanting old.lit ns (sym o.lit ∙ dim) o.none,
  )

  -- memory was wanting: nothing more happened, or the far end stopped
  pub on_wanting : {R : Type 0} (dark wanting : R) (stops : A → List ℕ → A → Type 0) (is_stuck : A → Bool) → next ns ≡ Asks f
      → Transmits m restarts steps stops is_stuck mid f half (Err air.Memory) new after → LeavesOff m restarts steps next stops is_stuck ns mid half new after
      × TellsWhy dark wanting old.lit ns wanting
  on_wanting dark wanting stops is_stuck due (lit, inl same) = (inl same, wanting_lit dark wanting old.lit ns (sym o.lit ∙ lit))
  on_wanting dark wanting stops is_stuck due (lit, inr s) = (inr (f, due, s), wanting_lit dark wanting old.lit ns (sym o.lit ∙ lit))

  -- a far end that never stops leaves off where it stands
  pub on_resting : {R : Type 0} (dark wanting : R) (stops : A → List ℕ → A → Type 0) (is_stuck : A → Bool) → ((a b : A) (p : List ℕ) → stops a p b → ⊥)
      → Transmits m restarts steps stops is_stuck mid f half (Err air.Memory) new after → Speaks m restarts steps next old far new after ns × TellsWhy dark wanting old.lit ns wanting
  on_resting dark wanting stops is_stuck never (lit, inl same) =
      (rests_off m restarts steps next stops is_stuck never old far mid half new after ns o.speaks (inl same), wanting_lit dark wanting old.lit ns (sym o.lit ∙ lit))
  on_resting dark wanting stops is_stuck never (lit, inr s) = absurd (rests_there m restarts steps stops is_stuck never mid f half new after s)
