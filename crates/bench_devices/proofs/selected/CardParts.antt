-- What a command does that asks something of a Type 4 tag: RATS activates it, and then its commands are asked over a link.
use Rattle.std.proofs.Common.{◌≡◌, inl, inr, ℕ, zero, suc, ◌+◌, ◌<◌, List, [], ◌∷◌, ◌++◌, true, false, Some, None, refl, sym, ◌∙◌, ap, subst, arith}
use Rattle.std.specs.Prelude.{map, Result, Err}
use Rattle.std.specs.Result.{IfErr, OnErr}
use Rattle.std.proofs.lemmas.Bool.{cases_lt}
use Rattle.nfc_base.specs.declared.tag_link.AskFault.{AskFault}
use Rattle.nfc_base.specs.declared.tag_link.AskFault.TheVariants as asking
use Rattle.nfc_base.specs.declared.event.Event.{Event}
use Rattle.nfc_base.specs.Signal.{Signal}
use Rattle.nfc_base.specs.Trace.{noise, breaks}
use Rattle.air_core.specs.World.{World}
use Rattle.air_core.specs.Turn.{Air, world, moment}
use Rattle.air_core.specs.Conversation.{Moment, Note, Going, replay, with_events}
use Rattle.air_core.specs.laws.Turning.{due_weaker, going_then, events-append}
use Rattle.air_core.specs.Waits as waits
use Rattle.air_core.specs.Waits.{waits_next}
use Rattle.air_core.specs.PlainLinks.{at_place}
use Rattle.air_core.proofs.PlainStores.{place_is}
use Rattle.isodep_link.specs.Activating.{rats, TellsCode, AsksRats, Opens, HasFreshTag, IsActivated, RatsSent, RatsEnds, Activates, IsActivatedLink}
use Rattle.isodep_link.specs.Asking as exchange
use Rattle.isodep_link.specs.Asking.{asks, stand, iso_next}
use Rattle.isodep_link.specs.IsoLinks.{seen_link, bytes_of}
use Rattle.isodep_link.specs.Reader.{waiting}
use Rattle.isodep_link.specs.declared.link.IsoLink.{IsoLink}
use Rattle.tag_reader.specs.declared.how.How.TheVariants as hows
use Rattle.bench_devices.specs.declared.device.Device.{Device}
use Rattle.bench_devices.specs.declared.device.Device.TheVariants.{T2, T4, Peer, T5, T3}
use Rattle.bench_devices.specs.Device.{devices, device_id, device_card, device_tag, how_of, seen_of}
use Rattle.bench_devices.specs.Answering.{TellsExchange, TellsCard, TellsBy, IsUnbrokenCard, GoesOnBy}
use Rattle.bench_devices.specs.CardAsking as standing
use Rattle.bench_devices.specs.CardAsking.{Exchanges, card_due, card_stands, card_next, tag_next}
use Rattle.bench_devices.specs.Device.{air, seen_of}
use Rattle.bench_devices.specs.private.Linking.{Linked, AsksOn, IsNewLink, AsksSomeOn}
use Rattle.bench_devices.specs.Keeping.{Kept, kept, ghosts, Changes, LeavesDevices}
use Rattle.bench_devices.proofs.kinds.EveryFrame.{IsSoundFor, leaves_more, leaves_then}
use Rattle.bench_devices.specs.Phases.{Stands, AsksTag, AsksSome}
use Rattle.air_core.proofs.BrokenWaits.{stays_lit}
use Rattle.bench_devices.proofs.selected.CardKept.{rats_harmless}
use Rattle.bench_devices.proofs.reads.CardReadingNotes.{rats_due, rats_told, rats_waits, lost_wait, reading_lost, reading_six}
use Rattle.bench_devices.proofs.reads.ReadingTags.{stands_alone, seen}
use Rattle.bench_devices.proofs.finding.SelectingAir.{events_are}
use Rattle.bench_devices.proofs.turns.QuietRats.{rats_noise}
use Rattle.air_core.proofs.PlainTurns.{noise_append}
use Rattle.air_core.proofs.LostField.{going_lost, breaks-append}
use Rattle.bench_devices.proofs.finding.SelectingKept.{going_keeps}
use Rattle.bench_devices.proofs.kinds.TagFour.{takes_rats}

-- a selected Type 4 tag of which nothing was asked takes RATS
pub has_fresh : (a : Air Device) (place : ℕ) (d : Device) → Stands (moment a) place d → how_of d ≡ hows.T4 → HasFreshTag ghosts device_card device_tag a place
has_fresh a place (T2 d) s four = absurd cc
has_fresh a place (T4 d) s four = record { listener = T4 d; alone = stands_alone a place (T4 d) s; takes = takes_rats d s.sound s.selected s.unasked }
has_fresh a place (Peer d) s four = absurd cc
has_fresh a place (T5 p) s four = absurd cc
has_fresh a place (T3 p) s four = absurd cc

-- what stays of the device at a place is what stays there
pub at_kept : (ls : List Device) (place : ℕ) → at_place (λ d. Some (kept d)) None ls place ≡ at_place (λ (k : Kept). Some k) None (map kept ls) place
at_kept [] place = refl
at_kept (l ∷ ls) zero = refl
at_kept (l ∷ ls) (suc n) = at_kept ls n

-- as many in the whole as in a part, or more
more_breaks : (m n k : ℕ) → k ≡ m + n → 0 < n → 0 < k
more_breaks m n k sum some = omega (arith, sum, some)

module _ (old mid : Air Device) (place : ℕ) (d : Device) (s : Stands (moment old) place d) (four : how_of d ≡ hows.T4) where
  pub lit_before : old.lit ≡ true
  lit_before = ap (λ (w : World Device). w.lit) s.world

  -- RATS was sent, up to some end of its wait.
  module _ (st : waits.Standing) (sent : RatsSent ghosts device_card device_tag old mid st) where
    -- no device changed but in its state
    pub rats_keep : map kept mid.listeners ≡ map kept old.listeners
    rats_keep = going_keeps (waits_next (rats ∷ [])) (moment old) (moment mid) sent.notes rats_harmless sent.going

    -- the tag that was activated is the one that was selected
    pub is_linked : (code : ℕ) → mid.lit ≡ true → IsActivated ghosts device_card device_tag mid place (waiting code) → Linked d mid place (waiting code)
    is_linked code lit activated =
        let x : Device = activated.has.listener in
        let there : at_place (λ e. Some (kept e)) None mid.listeners place ≡ Some (kept x) =
        place_is ghosts (λ e. Some (kept e)) None (device_id x) mid.listeners place x activated.has.alone in
        let here : at_place (λ e. Some (kept e)) None old.listeners place ≡ Some (kept d) = seen old place d s (λ e. Some (kept e)) None in
        let both : at_place (λ e. Some (kept e)) None mid.listeners place ≡ at_place (λ e. Some (kept e)) None old.listeners place =
        at_kept mid.listeners place ∙ ap (λ ks. at_place (λ (k : Kept). Some k) None ks place) rats_keep ∙ sym (at_kept old.listeners place) in
        let same : Some (kept x) ≡ Some (kept d) = sym there ∙ both ∙ here in
        record { activated = activated; same = (let q : kept x ≡ kept d = cc in q); card = four; sound = s.sound; lit = lit }

    pub some_break : mid.lit ≡ false → 0 < breaks sent.going.events
    some_break dim = elim (cases_lt 0 (breaks sent.going.events)) [
      | inl some ↦ some
      | inr none ↦ absurd (
          let lit : (replay air (world old) sent.going.events).lit ≡ true = stays_lit devices (world old) sent.going.events lit_before (omega (arith, none)) in
          let last : mid.lit ≡ (replay air (world old) sent.going.events).lit = ap (λ (t : Moment (World Device)). t.world.lit) sent.going.moment in
          let clash : true ≡ false = sym lit ∙ sym last ∙ dim in
          cc)
    ]

-- A command asks all of such a list of a Type 4 tag, this shows what it tells where all was answered, and this how it fails.
module _ {X : Type 0} (what : Changes) (IsAll : List Signal → Type 0) (Shows : X → Type 0) (Fails : AskFault → X → Type 0) where
  -- what it does, and so much of it
  abbrev pub AsksCard : Moment (World Device) → Moment (World Device) → X → Type 0
  AsksCard old new x = AsksTag what IsAll card_next (λ cs ns. TellsCard Shows Fails (card_stands cs ns)) Fails old new x

  abbrev pub AsksCardSome : Moment (World Device) → Moment (World Device) → Type 0
  AsksCardSome old new = AsksSome what IsAll card_next (λ cs ns. IsUnbrokenCard (card_stands cs ns)) old new

  -- so it asks the tag as it is seen
  pub as_told : (old new : Moment (World Device)) (d : Device) (x : X) → how_of d ≡ hows.T4 → AsksCard old new x
      → AsksTag what IsAll (tag_next (seen_of d)) (TellsBy (seen_of d) Shows Fails) Fails old new x
  as_told old new (T2 d) x four s = absurd cc
  as_told old new (T4 d) x four s = record { commands = s.commands; asks = s.asks; asked = s.asked; ends = s.ends; lost = s.lost; noisy = s.noisy }
  as_told old new (Peer d) x four s = absurd cc
  as_told old new (T5 p) x four s = absurd cc
  as_told old new (T3 p) x four s = absurd cc

  pub as_cut : (old new : Moment (World Device)) (d : Device) → how_of d ≡ hows.T4 → AsksCardSome old new → AsksSome what IsAll (tag_next (seen_of d)) (GoesOnBy (seen_of d)) old new
  as_cut old new (T2 d) four s = absurd cc
  as_cut old new (T4 d) four s = record { commands = s.commands; asks = s.asks; asked = s.asked; unbroken = s.unbroken; unlost = s.unlost }
  as_cut old new (Peer d) four s = absurd cc
  as_cut old new (T5 p) four s = absurd cc
  as_cut old new (T3 p) four s = absurd cc

  -- RATS was sent to the tag that stands at a place, whose command has such a list.
  module _ (some : (xs : List Signal) × IsAll xs) (old mid : Air Device) (place : ℕ) (d : Device) (s : Stands (moment old) place d) (four : how_of d ≡ hows.T4)
      (sound : IsSoundFor what old.listeners) where
    module _ (st : waits.Standing) (sent : RatsSent ghosts device_card device_tag old mid st) where
      -- the wait is the first part of the command
      abbrev as_first : (commands : List Signal) → Going air (card_next commands) (moment old) (moment mid) sent.notes
      as_first commands = record {
        events = sent.going.events;
        moment = sent.going.moment;
        turns = sent.going.turns;
        each = due_weaker (card_next commands) (waits_next (rats ∷ [])) (λ ns n e due. rats_due (bytes_of commands) 0 ns n e due) [] sent.going.events sent.going.each;
        fates = sent.going.fates;
        fresh = sent.going.fresh;
        known = sent.going.known;
      }

      first_leaves : LeavesDevices what (world old) sent.going.events (world mid)
      first_leaves = leaves_more what (world old) (world mid) sent.going.events sound (rats_keep old mid place d s four st sent)

      -- it ended there
      ended : (x : X) (e : AskFault) → card_stands some.0 sent.notes ≡ Exchanges (exchange.Broken e) → Fails e x → (Fails asking.FieldLost x → 0 < breaks sent.going.events)
          → (0 < breaks sent.going.events → Fails asking.FieldLost x) → (Fails asking.SixBad x → 0 < noise sent.going.events) → AsksCard (moment old) (moment mid) x
      ended x e stands fails lost by_break noisy = record {
        commands = some.0;
        asks = some.1;
        asked = record { notes = sent.notes; going = as_first some.0; over = ap card_due stands; same = first_leaves };
        ends = subst (λ t. TellsCard Shows Fails t x) (sym stands) fails;
        lost = (lost, by_break);
        noisy = noisy;
      }

      -- want of memory ended it while RATS was sent
      pub rats_cut : (bad : ℕ) → st ≡ waits.Asking bad (rats ∷ []) → AsksCardSome (moment old) (moment mid)
      rats_cut bad under_way =
          let stands : card_stands some.0 sent.notes ≡ standing.Activates bad = rats_waits (bytes_of some.0) 0 sent.notes bad (sent.stands ∙ under_way) in
          record {
            commands = some.0;
            asks = some.1;
            asked = record { notes = sent.notes; going = as_first some.0; same = first_leaves };
            unbroken = subst IsUnbrokenCard (sym stands) tt;
            unlost = elim (cases_lt 0 (breaks sent.going.events)) [
              | inl b ↦ absurd (
                  let lost = reading_lost devices some.0 (moment old) (moment mid) sent.notes (as_first some.0)
                  (going_lost devices (waits_next (rats ∷ [])) (moment old) (moment mid) sent.notes sent.going b) in
                  let clash : standing.Activates bad ≡ Exchanges (exchange.Broken asking.FieldLost) = sym stands ∙ lost in
                  cc)
              | inr none ↦ omega (arith, none)
            ];
          }

    -- the field was lost while RATS was sent
    rats_lost : (left : List Signal) → RatsSent ghosts device_card device_tag old mid (waits.Broken asking.FieldLost left) → mid.lit ≡ false
        → (x : X) → Fails asking.FieldLost x → (Fails asking.SixBad x → ⊥) → AsksCard (moment old) (moment mid) x
    rats_lost left sent dim x fails no_six =
        let st : waits.Standing = waits.Broken asking.FieldLost left in
        let stands : card_stands some.0 sent.notes ≡ Exchanges (exchange.Broken asking.FieldLost) =
        reading_lost devices some.0 (moment old) (moment mid) sent.notes (as_first st sent some.0) (lost_wait 0 (rats ∷ []) sent.notes left sent.stands) in
        ended st sent x asking.FieldLost stands fails (λ e. some_break old mid place d s four st sent dim) (λ b. fails) (λ e. absurd (no_six e))

    -- six receptions were bad
    rats_bad : (left : List Signal) → RatsSent ghosts device_card device_tag old mid (waits.Broken asking.SixBad left) → (x : X) → Fails asking.SixBad x → (Fails asking.FieldLost x → ⊥)
        → AsksCard (moment old) (moment mid) x
    rats_bad left sent x fails no_loss =
        let st : waits.Standing = waits.Broken asking.SixBad left in
        let stands : card_stands some.0 sent.notes ≡ Exchanges (exchange.Broken asking.SixBad) =
        reading_six devices some.0 (moment old) (moment mid) sent.notes left (as_first st sent some.0) sent.stands in
        let never : 0 < breaks sent.going.events → Fails asking.FieldLost x = λ b.
        absurd (let lost = reading_lost devices some.0 (moment old) (moment mid) sent.notes (as_first st sent some.0)
        (going_lost devices (waits_next (rats ∷ [])) (moment old) (moment mid) sent.notes sent.going b) in
        let clash : Exchanges (exchange.Broken asking.SixBad) ≡ Exchanges (exchange.Broken asking.FieldLost) = sym stands ∙ lost in
        let same : exchange.Broken asking.SixBad ≡ exchange.Broken asking.FieldLost = cc in
        cc) in
        ended st sent x asking.SixBad stands fails (λ e. absurd (no_loss e)) never
        (λ e. rats_noise old mid place (lit_before old mid place d s four) (has_fresh old place d s four) left sent)

    -- How a command ends whose tag wasn't activated, where it tells each fault of the link as this fault alone.
    pub unanswered_asks : (tell : AskFault → X) → Fails asking.FieldLost (tell asking.FieldLost) → (Fails asking.SixBad (tell asking.FieldLost) → ⊥) → Fails asking.SixBad (tell asking.SixBad)
        → (Fails asking.FieldLost (tell asking.SixBad) → ⊥) → (fault : AskFault) → (fault ≡ asking.Memory → ⊥) → RatsEnds ghosts device_card device_tag old mid place (Err fault)
        → AsksCard (moment old) (moment mid) (tell fault)
    unanswered_asks tell lost lost_alone six six_alone asking.FieldLost fed (inl dark) = absurd (let clash : true ≡ false = sym (lit_before old mid place d s four) ∙ dark.0 in cc)
    unanswered_asks tell lost lost_alone six six_alone asking.FieldLost fed (inr ends) = rats_lost (rats ∷ []) ends.0 ends.1 (tell asking.FieldLost) lost lost_alone
    unanswered_asks tell lost lost_alone six six_alone asking.SixBad fed ends = rats_bad (rats ∷ []) ends (tell asking.SixBad) six six_alone
    unanswered_asks tell lost lost_alone six six_alone asking.Memory fed ends = absurd (fed refl)
    unanswered_asks tell lost lost_alone six six_alone asking.Protocol fed ends = absurd ends

    -- The tag was activated, and commands were asked over its link: both are one command.
    module _ (new : Air Device) (code : ℕ) (sent : RatsSent ghosts device_card device_tag old mid (waits.Asking 0 [])) (tells : TellsCode sent.notes code) where
      both_parts : (commands : List Signal) (ns : List Note) → Going air (iso_next (waiting code) (bytes_of commands)) (moment mid) (moment new) ns
          → Going air (card_next commands) (moment old) (moment new) (sent.notes ++ ns)
      both_parts commands ns going =
          going_then air (card_next commands) (waits_next (rats ∷ [])) (iso_next (waiting code) (bytes_of commands)) (moment old) (moment mid) (moment new) sent.notes ns
          (λ ns n e due. rats_due (bytes_of commands) 0 ns n e due) (λ ns. ap card_due (rats_told (bytes_of commands) sent.notes ns code sent.stands tells)) sent.going going

      -- its events are those of both
      events_then : (es : List Event) → moment new ≡ with_events air (moment mid) es → moment new ≡ with_events air (moment old) (sent.going.events ++ es)
      events_then es next = next ∙ ap (λ t. with_events air t es) sent.going.moment ∙ events-append air (moment old) sent.going.events es

      events_both : (commands : List Signal) (ns : List Note) (going : Going air (iso_next (waiting code) (bytes_of commands)) (moment mid) (moment new) ns)
          → (both_parts commands ns going).events ≡ sent.going.events ++ going.events
      events_both commands ns going =
          let both = both_parts commands ns going in
          sym (events_are air (moment old) (moment new) both.events both.moment)
          ∙ events_are air (moment old) (moment new) (sent.going.events ++ going.events) (events_then going.events going.moment)

      both_leave : (commands : List Signal) (ns : List Note) (going : Going air (iso_next (waiting code) (bytes_of commands)) (moment mid) (moment new) ns)
          → LeavesDevices what (world mid) going.events (world new)
          → LeavesDevices what (world old) (both_parts commands ns going).events (world new)
      both_leave commands ns going left =
          subst (λ es. LeavesDevices what (world old) es (world new)) (sym (events_both commands ns going))
          (leaves_then what (world old) (world mid) (world new) sent.going.events going.events sound (rats_keep old mid place d s four (waits.Asking 0 []) sent) left)

      pub linked_cut : AsksSomeOn what IsAll (waiting code) (moment mid) (moment new) → AsksCardSome (moment old) (moment new)
      linked_cut o =
          let ns : List Note = sent.notes ++ o.asked.notes in
          let both : Going air (card_next o.commands) (moment old) (moment new) ns = both_parts o.commands o.asked.notes o.asked.going in
          let stands : card_stands o.commands ns ≡ Exchanges (stand (asks (waiting code) (bytes_of o.commands)) o.asked.notes) =
          rats_told (bytes_of o.commands) sent.notes o.asked.notes code sent.stands tells in
          let goes_on : IsUnbrokenCard (card_stands o.commands ns) = subst IsUnbrokenCard (sym stands) o.unbroken in
          record {
            commands = o.commands;
            asks = o.asks;
            asked = record { notes = ns; going = both; same = both_leave o.commands o.asked.notes o.asked.going o.asked.same };
            unbroken = goes_on;
            unlost = elim (cases_lt 0 (breaks both.events)) [
              | inl b ↦ absurd (
                  let lost = reading_lost devices o.commands (moment old) (moment new) ns both (going_lost devices (card_next o.commands) (moment old) (moment new) ns both b) in
                  subst IsUnbrokenCard lost goes_on)
              | inr none ↦ omega (arith, none)
            ];
          }

      -- So was a whole one.
      module _ (x : X) (o : AsksOn what IsAll Shows Fails (waiting code) (moment mid) (moment new) x) where
        abbrev both : Going air (card_next o.commands) (moment old) (moment new) (sent.notes ++ o.asked.notes)
        both = both_parts o.commands o.asked.notes o.asked.going

        same_events : both.events ≡ sent.going.events ++ o.asked.going.events
        same_events = events_both o.commands o.asked.notes o.asked.going

        breaks_both : breaks both.events ≡ breaks sent.going.events + breaks o.asked.going.events
        breaks_both = ap breaks same_events ∙ breaks-append sent.going.events o.asked.going.events

        noise_both : noise both.events ≡ noise sent.going.events + noise o.asked.going.events
        noise_both = ap noise same_events ∙ noise_append sent.going.events o.asked.going.events

        stands_both : card_stands o.commands (sent.notes ++ o.asked.notes) ≡ Exchanges (stand (asks (waiting code) (bytes_of o.commands)) o.asked.notes)
        stands_both = rats_told (bytes_of o.commands) sent.notes o.asked.notes code sent.stands tells

        broken_both : 0 < breaks both.events → Fails asking.FieldLost x
        broken_both b =
            let lost : card_stands o.commands (sent.notes ++ o.asked.notes) ≡ Exchanges (exchange.Broken asking.FieldLost) =
            reading_lost devices o.commands (moment old) (moment new) (sent.notes ++ o.asked.notes) both
            (going_lost devices (card_next o.commands) (moment old) (moment new) (sent.notes ++ o.asked.notes) both b) in
            let same : Exchanges (stand (asks (waiting code) (bytes_of o.commands)) o.asked.notes) ≡ Exchanges (exchange.Broken asking.FieldLost) = sym stands_both ∙ lost in
            let ends : stand (asks (waiting code) (bytes_of o.commands)) o.asked.notes ≡ exchange.Broken asking.FieldLost = cc in
            subst (λ t. TellsExchange Shows Fails t x) ends o.ends

        pub linked_asks : AsksCard (moment old) (moment new) x
        linked_asks = record {
          commands = o.commands;
          asks = o.asks;
          asked = record {
            notes = sent.notes ++ o.asked.notes;
            going = both;
            over = ap card_due stands_both ∙ o.asked.over;
            same = both_leave o.commands o.asked.notes o.asked.going o.asked.same;
          };
          ends = subst (λ t. TellsCard Shows Fails t x) (sym stands_both) o.ends;
          lost = (λ e. more_breaks (breaks sent.going.events) (breaks o.asked.going.events) (breaks both.events) breaks_both (o.lost.0 e), broken_both);
          noisy = λ e. more_breaks (noise sent.going.events) (noise o.asked.going.events) (noise both.events) noise_both (o.noisy e);
        }

-- A link that was given is at its place, and nothing was asked over it yet.
pub opened_at : (old : Air Device) (place : ℕ) (l : IsoLink Device) → Opens devices old place (seen_link l) → l.place ≡ place
opened_at old place l o = ap (λ p. p.place) o.first

pub opened_fresh : (old : Air Device) (place : ℕ) (l : IsoLink Device) → Opens devices old place (seen_link l) → IsNewLink (seen_link l)
opened_fresh old place l o = record {
  start = ap (λ p. p.start) o.first;
  told = ap (λ p. p.told) o.first;
  last = ap (λ p. p.last) o.first;
  over = ap (λ p. p.over) o.first;
}

-- The link that was given to the tag, or why none was given.
module _ (old : Air Device) (place : ℕ) (one : (e : Device) × Stands (moment old) place e × (how_of e ≡ hows.T4)) where
  -- a Type 4 tag stands there that takes RATS
  fresh_tag : HasFreshTag ghosts device_card device_tag old place
  fresh_tag = has_fresh old place one.0 one.1 one.2

  module _ (l : IsoLink Device) (there : l.place ≡ place) (given : HasFreshTag ghosts device_card device_tag old place → IsActivatedLink ghosts device_card device_tag old (seen_link l)) where
    pub made : IsActivatedLink ghosts device_card device_tag old (seen_link l)
    made = given fresh_tag

    -- the tag at the other end of the link is the one that was selected
    pub link_is : Linked one.0 l.field.now l.place l.reader
    link_is =
        let at : IsActivated ghosts device_card device_tag l.field.now place (waiting made.code) =
        subst (λ n. IsActivated ghosts device_card device_tag l.field.now n (waiting made.code)) there made.activated in
        let linked : Linked one.0 l.field.now place (waiting made.code) = is_linked old l.field.now place one.0 one.1 one.2 (waits.Asking 0 []) made.sent made.code made.lit at in
        subst (λ n. Linked one.0 l.field.now n l.reader) (sym there) (subst (λ i. Linked one.0 l.field.now place i) (sym made.reader) linked)

  module _ {R : Type 0} (new : Air Device) (given : Result R AskFault) (fault : AskFault) (failed : given ≡ Err fault)
      (rests : OnErr given (IfErr given (λ e. AsksRats devices old new (Err e) × Activates ghosts device_card device_tag old new place (Err e)))) where
    pub refused : RatsEnds ghosts device_card device_tag old new place (Err fault)
    refused = (subst (λ r. OnErr r (IfErr r (λ e. AsksRats devices old new (Err e) × Activates ghosts device_card device_tag old new place (Err e)))) failed rests).1 fresh_tag
