-- What is asked of a selected tag is answered, and each answer is heard where all passes: of a tag that takes commands as they are sent,
-- and of a Type 4 tag, from RATS on.
use Rattle.std.proofs.Common.{◌≡◌, ◌⊎◌, inl, inr, ℕ, List, [], ◌∷◌, ◌++◌, Bool, true, Option, Some, refl, sym, ◌∙◌, ap, subst, append_assoc, append-nil}
use Rattle.std.specs.List.{AllByRecursion}
use Rattle.nfc_base.specs.declared.event.Fate.TheVariants.{Pass}
use Rattle.nfc_base.specs.declared.event.Heard.{Heard}
use Rattle.nfc_base.specs.declared.event.Heard.TheVariants.{Whole}
use Rattle.nfc_base.specs.Signal.{Signal}
use Rattle.air_core.specs.Conversation.{Note, Got, Over, Asks, Moment, TurnsTo, replay, turn_events}
use Rattle.air_core.specs.Waits.{waits_next}
use Rattle.nfca_poll.specs.Front.{Front, Off, Idle, Sleep, Ready, Active, is_active}
use Rattle.isodep_link.specs.Activating.{rats, HasFreshTag}
use Rattle.isodep_link.specs.IsoLinks.{bytes_of}
use Rattle.tag_reader.specs.declared.how.How.{How}
use Rattle.tag_reader.specs.declared.how.How.TheVariants as hows
use Rattle.bench_devices.specs.declared.device.Device.{Device}
use Rattle.bench_devices.specs.declared.device.Device.TheVariants.{T2, T4, Peer, T5, T3}
use Rattle.bench_devices.specs.declared.polling.SeenKind.{SeenKind}
use Rattle.bench_devices.specs.declared.polling.SeenKind.TheVariants as seen
use Rattle.bench_devices.specs.CardAsking.{tag_next}
use Rattle.bench_devices.specs.Device.{BenchWorld, air, device_card, device_tag, how_of, seen_of, may_be_found}
use Rattle.bench_devices.specs.Keeping.{ghosts}
use Rattle.bench_devices.specs.Phases.{Stands}
use Rattle.bench_devices.proofs.selected.CardHeard.{CardGoes, CardHeard, IsSent, card_heard, rats_heard, field_of, same_frame}
use Rattle.bench_devices.proofs.selected.PlainHeard.{IsHeeded, IsOwn, StandsOn, Answered, answers}
use Rattle.bench_devices.proofs.turns.QuietWalk.{Passing, fated_passes, told_passes}
use Rattle.bench_devices.proofs.reads.ReadingTags.{stands_alone}
use Rattle.bench_devices.proofs.selected.CardParts.{has_fresh}

-- Of a tag that takes commands as they are sent, these are left.
pub record PlainGoes (asked : List Signal) (kind : SeenKind) (b : Moment BenchWorld) (ns : List Note) : Type 0 where
  pub how : How
  pub own : List ℕ
  pub place : ℕ
  pub is : IsOwn how own
  pub stands : StandsOn how own place b.world
  pub left : List Signal
  pub heeded : AllByRecursion (IsHeeded how) left
  pub next : (ms : List Note) → tag_next kind asked (ns ++ ms) ≡ waits_next left ms

-- Of a Type 4 tag nothing was asked yet.
pub record CardWaits (asked : List Signal) (kind : SeenKind) (b : Moment BenchWorld) (ns : List Note) : Type 0 where
  pub four : kind ≡ seen.T4
  pub first : ns ≡ []
  pub place : ℕ
  pub fresh : HasFreshTag ghosts device_card device_tag (field_of b) place
  pub sent : AllByRecursion IsSent (bytes_of asked)

-- It was activated.
pub record CardOn (asked : List Signal) (kind : SeenKind) (b : Moment BenchWorld) (ns : List Note) : Type 0 where
  pub four : kind ≡ seen.T4
  pub place : ℕ
  pub goes : CardGoes (bytes_of asked) place b ns

-- of a peer nothing is asked
abbrev pub TagGoes : List Signal → SeenKind → Moment BenchWorld → List Note → Type 0
TagGoes asked kind b ns = PlainGoes asked kind b ns ⊎ CardWaits asked kind b ns ⊎ CardOn asked kind b ns ⊎ (kind ≡ seen.Peer)

-- what a turn of it comes to
pub record TagHeard (asked : List Signal) (kind : SeenKind) (c : Moment BenchWorld) (ns : List Note) (h : Option Heard) : Type 0 where
  pub answer : Signal
  pub heard : h ≡ Some (Whole answer)
  pub goes : TagGoes asked kind c (ns ++ Got (Whole answer) ∷ [])

plain_heard : (asked : List Signal) (kind : SeenKind) (b c : Moment BenchWorld) (ns : List Note) (f : Signal) (h : Option Heard) (x : PlainGoes asked kind b ns) → Passing b.queue
    → (left : List Signal) → AllByRecursion (IsHeeded x.how) left → ((ms : List Note) → tag_next kind asked (ns ++ ms) ≡ waits_next left ms) → tag_next kind asked ns ≡ Asks f → TurnsTo air b c f h
    → TagHeard asked kind c ns h
plain_heard asked kind b c ns f h x calm [] heeded next due turn =
    let over : Over ≡ Asks f = sym (ap (tag_next kind asked) (sym (append-nil ns)) ∙ next []) ∙ due in
    absurd (let clash : Over ≡ Asks f = over in cc)
plain_heard asked kind b c ns f h x calm (g ∷ left) heeded next due turn =
    let same : g ≡ f = same_frame f g (sym due ∙ ap (tag_next kind asked) (sym (append-nil ns)) ∙ next []) in
    let a : Answered x.how x.own x.place b.world f = answers x.how x.own x.place b.world f x.is x.stands (subst (IsHeeded x.how) same heeded.0) in
    let world : c.world ≡ replay air b.world (turn_events air b.world f Pass Pass) =
    ap (λ (m : Moment BenchWorld). m.world) turn.moment ∙ ap (replay air b.world) (fated_passes air b.queue b.world f calm) in
    record {
      answer = a.answer;
      heard = turn.heard ∙ told_passes air b.queue b.world f calm ∙ a.heard;
      goes = inl (record {
        how = x.how;
        own = x.own;
        place = x.place;
        is = x.is;
        stands = subst (StandsOn x.how x.own x.place) (sym world) a.stands;
        left = left;
        heeded = heeded.1;
        next = λ ms. ap (tag_next kind asked) (append_assoc ns (Got (Whole a.answer) ∷ []) ms) ∙ next (Got (Whole a.answer) ∷ ms);
      });
    }

pub tag_heard : (asked : List Signal) (kind : SeenKind) (b c : Moment BenchWorld) (ns : List Note) (f : Signal) (h : Option Heard) → TagGoes asked kind b ns → Passing b.queue
    → tag_next kind asked ns ≡ Asks f → TurnsTo air b c f h → TagHeard asked kind c ns h
tag_heard asked kind b c ns f h (inl x) calm due turn = plain_heard asked kind b c ns f h x calm x.left x.heeded x.next due turn
tag_heard asked kind b c ns f h (inr (inl x)) calm due turn =
    let here : tag_next seen.T4 asked [] ≡ Asks f = subst (λ ks. tag_next seen.T4 asked ks ≡ Asks f) x.first (subst (λ k. tag_next k asked ns ≡ Asks f) x.four due) in
    let same : f ≡ rats = same_frame rats f here in
    let r : CardHeard (bytes_of asked) x.place c [] h = rats_heard (bytes_of asked) x.sent x.place b c h calm (subst (λ g. TurnsTo air b c g h) same turn) x.fresh in
    let there : CardHeard (bytes_of asked) x.place c ns h = subst (λ ks. CardHeard (bytes_of asked) x.place c ks h) (sym x.first) r in
    record { answer = there.answer; heard = there.heard; goes = inr (inr (inl (record { four = x.four; place = x.place; goes = there.goes }))) }
tag_heard asked kind b c ns f h (inr (inr (inr x))) calm due turn =
    let over : Over ≡ Asks f = subst (λ k. tag_next k asked ns ≡ Asks f) x due in
    absurd (let clash : Over ≡ Asks f = over in cc)
tag_heard asked kind b c ns f h (inr (inr (inl x))) calm due turn =
    let r : CardHeard (bytes_of asked) x.place c ns h = card_heard (bytes_of asked) x.place b c ns f h x.goes calm (subst (λ k. tag_next k asked ns ≡ Asks f) x.four due) turn in
    record { answer = r.answer; heard = r.heard; goes = inr (inr (inl (record { four = x.four; place = x.place; goes = r.goes }))) }

-- A tag that was selected stands so.
active_is : (front : Front) → is_active front ≡ true → (starred : Bool) × (front ≡ Active starred)
active_is Off e = absurd cc
active_is Idle e = absurd cc
active_is Sleep e = absurd cc
active_is (Ready k starred) e = absurd cc
active_is (Active starred) e = (starred, refl)

all_sent : (asked : List Signal) → AllByRecursion (IsHeeded hows.T4) asked → AllByRecursion IsSent (bytes_of asked)
all_sent [] h = tt
all_sent (f ∷ fs) h = (h.0, all_sent fs h.1)

pub begins_heard : (asked : List Signal) (b : Moment BenchWorld) (place : ℕ) (d : Device) → Stands b place d → may_be_found d ≡ true → AllByRecursion (IsHeeded (how_of d)) asked
    → TagGoes asked (seen_of d) b []
begins_heard asked b place (T2 d) s found heeded = inl (record {
  how = hows.T2;
  own = d.id;
  place = place;
  is = tt;
  stands = record { lit = ap (λ (w : BenchWorld). w.lit) s.world; tag = T2 d; alone = stands_alone (field_of b) place (T2 d) s; on = (let on = active_is d.front s.selected in (refl, on.0, on.1)) };
  left = asked;
  heeded = heeded;
  next = λ ms. refl;
})
begins_heard asked b place (T4 d) s found heeded =
    inr (inl (record { four = refl; first = refl; place = place; fresh = has_fresh (field_of b) place (T4 d) s refl; sent = all_sent asked heeded }))
begins_heard asked b place (Peer d) s found heeded = inr (inr (inr refl))
begins_heard asked b place (T3 p) s found heeded = absurd cc
begins_heard asked b place (T5 p) s found heeded = inl (record {
  how = hows.T5 p.tag.id;
  own = p.tag.id;
  place = place;
  is = (refl, s.sound.1);
  stands = record {
    lit = ap (λ (w : BenchWorld). w.lit) s.world;
    tag = T5 p;
    alone = stands_alone (field_of b) place (T5 p) s;
    on = (refl, s.selected, record { id = s.sound.1; bytes = s.sound.2; store = s.sound.3 });
  };
  left = asked;
  heeded = heeded;
  next = λ ms. refl;
})
