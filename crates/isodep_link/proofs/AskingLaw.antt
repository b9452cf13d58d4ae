-- A reader that asks a command of a Type 4 tag keeps the law of the exchange, turn by turn.
use Rattle.std.proofs.Common.{◌≡◌, ℕ, ◌+◌, ◌-◌, ◌*◌, ◌<◌, ◌≤◌, ◌⊎◌, inl, inr, List, [], ◌∷◌, ◌++◌, length, slice_index, map, Bool, true, false, Option, Some, None, Ok, Err, refl, sym, ◌∙◌, ap, subst}
use Rattle.std.proofs.Common.{arith, append_assoc, append-nil}
use Rattle.std.specs.List.{AllByRecursion}
use Rattle.nfc_base.specs.Signal.{Signal, whole_a}
use Rattle.nfc_base.specs.TagLinks.{TagState, TagStep, passed}
use Rattle.nfc_base.specs.Trace.{noise, breaks}
use Rattle.nfc_base.specs.StopAndWait.{Quiet, Hears, Finished, SixBad, Protocol, Stage, Requests, Over, Dark, stage_of, World, Once, IsEnding, delivered_of, pieces_back}
use Rattle.nfc_base.specs.LinkTurns.{heard_of, heard_in, settled, IsTurn, GivenBy}
use Rattle.nfc_base.specs.LinkTurns as turns
use Rattle.nfc_base.proofs.ExactlyOnce.{IsReady, kept_once}
use Rattle.nfc_base.specs.declared.event.Event.{Event}
use Rattle.nfc_base.specs.declared.event.Heard.{Heard}
use Rattle.nfc_base.specs.declared.event.Heard.TheVariants as heards
use Rattle.std.proofs.lemmas.List.{append_cancel_left}
use Rattle.air_core.proofs.PlainTurns.{noise_append}
use Rattle.air_core.proofs.LostField.{breaks-append}
use Rattle.isodep_link.specs.declared.reader.Phase.TheVariants as phases
use Rattle.isodep_link.proofs.Landing.{speaks_at, is_extension}
use Rattle.isodep_link.proofs.Moves.{whole_not_six}
use Rattle.nfc_base.specs.declared.tag_link.AskFault.TheVariants.{FieldLost}
use Rattle.nfc_base.specs.declared.tag_link.AskFault.TheVariants as ask
use Rattle.air_core.specs.declared.fault.AirFault.TheVariants as air
use Rattle.nfc_base.proofs.Leading.{all_append}
use Rattle.nfc_base.proofs.LinkTurns.{arrived_append, counted_later, positive, says_some, turned_lost, J, Along, Onward, goes_along, starts_along, next_asking, next_stage}
use Rattle.air_core.specs.World.{quiet_air}
use Rattle.air_core.specs.World as worlds
use Rattle.air_core.specs.PlainLinks.{Follows, stores_after}
use Rattle.air_core.specs.laws.Following.{stores_append}
use Rattle.air_core.specs.Turn.{Air, world, moment, TurnIs, Transmits}
use Rattle.air_core.specs.laws.Turning.{going_start, going_turn}
use Rattle.air_core.specs.Conversation.{Note, note, Going, Asks, Moment, replay}
use Rattle.air_core.specs.Quiet.{EachQuiet, QuietTurn}
use Rattle.air_core.specs.Listening.{StaysSame}
use Rattle.air_core.specs.PlainTags.{reached, IsAlone}
use Rattle.air_core.specs.declared.listener.Listener.{Ghosts}
use Rattle.air_core.proofs.PlainAside.{Laws}
use Rattle.air_core.proofs.Quiet.{quiet_turns_to, quiet_turn, quiet_transmits}
use Rattle.isodep_link.specs.declared.block.Block.TheVariants.{Nak, Extend}
use Rattle.isodep_link.specs.Blocks.{block_frame}
use Rattle.isodep_link.specs.Sizes.{limit}
use Rattle.isodep_link.specs.Card.{CardState}
use Rattle.isodep_link.specs.declared.reader.ReaderStep.{ReaderStep}
use Rattle.isodep_link.specs.declared.reader.ReaderStep.TheVariants as step
use Rattle.nfc_base.specs.Pieces.{Core, pieces}
use Rattle.isodep_link.specs.Reader.{ReaderState, ReaderTurn, reader_table, request, begun}
use Rattle.isodep_link.specs.Commands.{iso_commands}
use Rattle.isodep_link.specs.Exchange.{iso_dep, blocks_of, blocks_back, reader_does, beginning, InStep, IsCut}
use Rattle.isodep_link.specs.CardTags.{IsAskedFrame, IsAskedBlock, TagDoes, IsShort, StepsByCard, IsCardTag}
use Rattle.isodep_link.specs.Asking.{IsoStanding, Waits, Rests, Broken, asks, goes_by, noted, stand, due_at, iso_next, HasCardTag, IsAfter, CommandTurns, EndsBy}
use Rattle.isodep_link.proofs.Wire.{is_piece}
use Rattle.nfc_base.proofs.Chains as chain
use Rattle.isodep_link.proofs.Standing as law
use Rattle.isodep_link.proofs.Standing.{iso_ends}
use Rattle.isodep_link.proofs.Obeyed.{keeps, asking_first}
use Rattle.isodep_link.proofs.Images.{after_it, Stores, images_grow, commands_grow, given_stays}
use Rattle.isodep_link.proofs.CardTurns.{Holds, Shows, CardTurn, card_turn, quiet_asked}

-- what is noted behind some notes
pub stand_on : (s : IsoStanding) (ns : List Note) (n : Note) → stand s (ns ++ n ∷ []) ≡ noted (stand s ns) n
stand_on s [] n = refl
stand_on s (m ∷ ns) n = stand_on (noted s m) ns n

-- the items of a frame are bytes
abbrev pub HasBytes : Signal → Type 0
HasBytes f = (i : ℕ) → slice_index f.bytes i < 256

-- what the reader sends is a block that a reader sends
request_asked : (c : Core) (f : Signal) → c.extension ≡ None → f ≡ block_frame (request c) → HasBytes f → c.number < 2 → c.most ≤ 253 → IsAskedFrame f
request_asked c f z e bytes p q = record { block = request c; asked = go c.drawing refl; bytes = bytes; frame = e }
  where
    go : (d : Bool) → c.drawing ≡ d → IsAskedBlock (request c)
    go true e = rw (z, e) p
    go false e = rw (z, e) (is_piece c.most c.number c.rest p q)

held_number : (m j : ℕ) (out : List ℕ) (c : Core) (t : CardState) (g : Option (List ℕ)) (n bads : ℕ) → chain.Held iso_ends m j out c t g n bads → (c.number < 2) × (c.most ≤ 253)
held_number m j out c t g n bads (chain.of_chain h l) = (h.number, h.bounds.fits)
held_number m j out c t g n bads (chain.of_reply bytes h l) = (h.number, h.bounds.fits)
held_number m j out c t g n bads (chain.of_time z h l) = (h.number, h.bounds.fits)

asked_frame : (m j : ℕ) (out : List ℕ) (i : ReaderState) (t : CardState) (g : Option (List ℕ)) (f : Signal) → HasBytes f → (n : ℕ) → law.Ask m j out i t g f n → IsAskedFrame f
asked_frame m j out i t g f bytes n (law.asks p e z h b) = request_asked i.core f h.plain e bytes h.number h.bounds.fits
asked_frame m j out i t g f bytes n (law.draws p e h b) = request_asked i.core f h.plain e bytes h.number h.bounds.fits
asked_frame m j out i t g f bytes n (law.draws_again p e d w h) = let x = held_number m j out i.core t g n i.bads h in request_asked i.core f w e bytes x.0 x.1
asked_frame m j out i t g f bytes n (law.naks p e z h b) = record { block = Nak i.core.number; asked = h.number; bytes = bytes; frame = e }
asked_frame m j out i t g f bytes n (law.naks_held p e d h) = record { block = Nak i.core.number; asked = (held_number m j out i.core t g n i.bads h).0; bytes = bytes; frame = e }
asked_frame m j out i t g f bytes n (law.grants p e w z h b) = record { block = Extend t.times; asked = tt; bytes = bytes; frame = is_extension m j out i.core t f w e }

live_of : (m j : ℕ) (out : List ℕ) (i : ReaderState) (t : CardState) (g : Option (List ℕ)) (f : Signal) (n : ℕ) → law.Ask m j out i t g f n → (i.phase ≡ phases.Asked) ⊎ (i.phase ≡ phases.Nacked)
live_of m j out i t g f n (law.asks p e z h b) = inl p
live_of m j out i t g f n (law.draws p e h b) = inl p
live_of m j out i t g f n (law.draws_again p e d w h) = inl p
live_of m j out i t g f n (law.naks p e z h b) = inr p
live_of m j out i t g f n (law.naks_held p e d h) = inr p
live_of m j out i t g f n (law.grants p e w z h b) = inl p

module _ {L : Type 0} (k : Ghosts L) (card : L → CardState) (tag : L → TagState) (begin : L) (i0 : ReaderState) (commands : List (List ℕ)) (arrived : List Signal) (command : List ℕ) where
  -- how the exchange stands
  abbrev pub StandsBy : List Event → ReaderState → CardState → List Event → TagState → Stage Signal → Type 0
  StandsBy es0 i t es held stage =
      Along iso_dep commands command (keeps (card begin).most (card begin).busy command) (2 * pieces i0.core.most command) TagState (TagDoes (k.commands begin)) arrived es0 (tag begin) i t es held
      stage

  -- Where the reader stands in a field that is as lit as it was: the listener heard these frames, the exchange keeps its law,
  -- each request was due, and no turn was made in the dark.
  pub record OnTag (old mid : Air L) (place : ℕ) (i : ReaderState) (stage : Stage Signal) (s : IsoStanding) : Type 0 where
    pub frames : List Signal
    pub asked : AllByRecursion IsAskedFrame frames
    pub alone : IsAlone k (k.identifier begin) mid.listeners place (reached k begin frames)
    pub selected : k.is_selected (reached k begin frames) ≡ true
    pub lit : mid.lit ≡ old.lit
    pub dim : mid.lit ≡ false → mid ≡ old
    pub along : StandsBy old.trace i (card (reached k begin frames)) mid.trace (tag (reached k begin frames)) stage
    pub notes : List Note
    pub going : Going (quiet_air k.machine) (iso_next i0 (command ∷ [])) (moment old) (moment mid) notes
    pub stands : stand (asks i0 (command ∷ [])) notes ≡ s
    pub seen : List Event
    pub seen_is : mid.trace ≡ old.trace ++ seen
    pub images : Follows (k.store begin) (stores_after k place (world old) seen) (after_it along.world.given (tag (reached k begin frames)).store)

  -- a turn that lost the field
  pub record LostTag (old new : Air L) (place : ℕ) : Type 0 where
    pub frames : List Signal
    pub asked : AllByRecursion IsAskedFrame frames
    pub left : L
    pub alone : IsAlone k (k.identifier begin) new.listeners place left
    pub darkened : left ≡ k.machine.darkened (reached k begin frames)
    pub dark : new.lit ≡ false
    pub reader : ReaderState
    pub along : StandsBy old.trace reader (card left) new.trace (tag (reached k begin frames)) Dark
    pub notes : List Note
    pub going : Going (quiet_air k.machine) (iso_next i0 (command ∷ [])) (moment old) (moment new) notes
    pub stands : stand (asks i0 (command ∷ [])) notes ≡ Broken FieldLost
    pub seen : List Event
    pub seen_is : new.trace ≡ old.trace ++ seen
    pub images : Follows (k.store begin) (stores_after k place (world old) seen) (after_it along.world.given (tag (reached k begin frames)).store)

module _ {L : Type 0} (k : Ghosts L) (laws : Laws k) where
  reached_twice : (l : L) (fs gs : List Signal) → reached k (reached k l fs) gs ≡ reached k l (fs ++ gs)
  reached_twice l [] gs = refl
  reached_twice l (f ∷ fs) gs = reached_twice (k.machine.after l f None) fs gs

  pub reached_same : (l : L) (fs : List Signal) → StaysSame k.machine.tech k.identifier k.commands l (reached k l fs)
  reached_same l [] = record { tech' = refl; identifier' = refl; commands' = refl }
  reached_same l (f ∷ fs) =
      let e = reached_same (k.machine.after l f None) fs in
      let d = laws.step_keeps l f None in
      record { tech' = e.tech' ∙ d.tech'; identifier' = e.identifier' ∙ d.identifier'; commands' = e.commands' ∙ d.commands' }

  module _ (card : L → CardState) (tag : L → TagState) (holds : Holds k tag) where
    -- a tag stays one by frames that are asked of it
    pub stays_card_tag : (l : L) (fs : List Signal) → AllByRecursion IsAskedFrame fs → IsCardTag k card tag l → IsCardTag k card tag (reached k l fs)
    stays_card_tag l fs a c =
        record {
          tech = (reached_same l fs).tech' ∙ c.tech;
          steps = λ gs b f q. subst (λ (x : L). StepsByCard k card tag x f) (sym (reached_twice l fs gs)) (c.steps (fs ++ gs) (all_append IsAskedFrame fs gs a b) f q);
          cleared = λ gs b.
              subst (λ (x : L). card (k.machine.darkened x) ≡ dark_of (card x)) (sym (reached_twice l fs gs)) (c.cleared (fs ++ gs) (all_append IsAskedFrame fs gs a b));
        }
      where
        dark_of : CardState → CardState
        dark_of t = iso_dep.dark t

    module _ (begin : L) (c : IsCardTag k card tag begin) (i0 : ReaderState) (commands : List (List ℕ)) (arrived : List Signal) (command : List ℕ) where
      abbrev pub Stands : List Event → ReaderState → CardState → List Event → TagState → Stage Signal → Type 0
      Stands es0 i t es held stage = StandsBy k card tag begin i0 commands arrived command es0 i t es held stage

      abbrev pub On : Air L → Air L → ℕ → ReaderState → Stage Signal → IsoStanding → Type 0
      On old mid place i stage s = OnTag k card tag begin i0 commands arrived command old mid place i stage s

      abbrev pub Lost : Air L → Air L → ℕ → Type 0
      Lost old new place = LostTag k card tag begin i0 commands arrived command old new place

      -- an exchange begins
      pub begins_on : (old : Air L) (place : ℕ) → k.is_selected begin ≡ true → IsAlone k (k.identifier begin) old.listeners place begin
          → length command ≤ limit → InStep i0 (card begin) → IsCut (card begin) commands arrived
          → On old old place (begun i0 command) (Requests (block_frame (request (begun i0 command).core))) (Waits (begun i0 command) (block_frame (request (begun i0 command).core)) [])
      begins_on old place selected alone short s cut =
          record {
            frames = [];
            asked = tt;
            alone = alone;
            selected = selected;
            lit = refl;
            dim = λ e. refl;
            along = starts_along iso_dep commands command
                (keeps (card begin).most (card begin).busy command) (2 * pieces i0.core.most command) TagState (TagDoes (k.commands begin)) arrived old.trace (tag begin)
                (beginning i0 (card begin) commands arrived command) (
                  2 * pieces i0.core.most command,
                  law.asks refl refl (omega arith) (asking_first i0 (card begin) command short s) (omega arith),
                  record { once = sym (append-nil commands); reply = tt; stood = cut; bound = omega arith },
                ) refl refl refl refl;
            seen = [];
            seen_is = sym (append-nil old.trace);
            images = tt;
            notes = [];
            going = going_start (quiet_air k.machine) (iso_next i0 (command ∷ [])) (moment old);
            stands = refl;
          }

      -- the frame that is sent is one that a reader sends
      frame_asked : (es0 es : List Event) (i : ReaderState) (t : CardState) (held : TagState) (f : Signal) → HasBytes f → Stands es0 i t es held (Requests f) → IsAskedFrame f
      frame_asked es0 es i t held f bytes a =
          let j = subst (λ (x : Stage Signal). J iso_dep commands command (keeps (card begin).most (card begin).busy command) (2 * pieces i0.core.most command) a.world x) a.stage_is a.inv in
          asked_frame (card begin).most (card begin).busy command a.world.asking a.world.answering a.world.given f bytes j.0 j.1

      module _ (old mid : Air L) (place : ℕ) (i : ReaderState) (f : Signal) (bytes : HasBytes f) (o : On old mid place i (Requests f) (Waits i f [])) where
        abbrev last : L
        last = reached k begin o.frames

        is_asked : IsAskedFrame f
        is_asked = frame_asked old.trace mid.trace i (card last) (tag last) f bytes o.along

        last_tag : IsCardTag k card tag last
        last_tag = stays_card_tag begin o.frames o.asked c

        own_same : k.identifier last ≡ k.identifier begin
        own_same = (reached_same begin o.frames).identifier'

        last_alone : IsAlone k (k.identifier last) mid.listeners place last
        last_alone = subst (λ (own : List ℕ). IsAlone k own mid.listeners place last) (sym own_same) o.alone

        -- nobody asks anything of a far end
        pub quiet_on : EachQuiet k.machine f mid.listeners
        quiet_on = quiet_asked k laws card tag holds mid place last f last_alone last_tag is_asked

        due : iso_next i0 (command ∷ []) o.notes ≡ Asks f
        due = ap due_at o.stands

        module _ {F : Type 0} (far far' : F) (new : Air L) (h : Option Heard) (q : QuietTurn k.machine mid f far h new far') where
          turn : CardTurn k laws card tag holds mid new place last f h
          turn = card_turn k laws card tag holds mid place last f last_alone last_tag is_asked far far' new h q

          onward : Onward iso_dep commands command (keeps (card begin).most (card begin).busy command) (2 * pieces i0.core.most command) TagState (TagDoes (k.commands begin)) arrived old.trace
              (tag begin) i h (card turn.left) new.trace turn.held
          onward =
              goes_along iso_dep commands command (keeps (card begin).most (card begin).busy command) (2 * pieces i0.core.most command) TagState (TagDoes (k.commands begin)) arrived old.trace
              (tag begin)
              i (card last) (card turn.left) mid.trace new.trace (tag last) turn.held f h o.along
              (subst (λ (g : TagState → Signal → TagStep). IsTurn iso_dep TagState IsShort (TagDoes g) (card last) mid.trace (tag last) f h (card turn.left) new.trace turn.held)
              (reached_same begin o.frames).commands' turn.turn)

          going_on : Going (quiet_air k.machine) (iso_next i0 (command ∷ [])) (moment old) (moment new) (o.notes ++ note h ∷ [])
          going_on = going_turn (quiet_air k.machine) (iso_next i0 (command ∷ [])) (moment old) (moment mid) (moment new) f h o.notes o.going due (quiet_turns_to k.machine mid new f far far' h q)

          stands_then : stand (asks i0 (command ∷ [])) (o.notes ++ note h ∷ []) ≡ noted (Waits i f []) (note h)
          stands_then = stand_on (asks i0 (command ∷ [])) o.notes (note h) ∙ ap (λ (s : IsoStanding). noted s (note h)) o.stands

          -- the card says something
          speaks : k.machine.answer last f None ≡ None → ⊥
          speaks e =
              let j = subst (λ (x : Stage Signal). J iso_dep commands command (keeps (card begin).most (card begin).busy command) (2 * pieces i0.core.most command) o.along.world x) o.along.stage_is
              o.along.inv in
              let s : StepsByCard k card tag last f = last_tag.steps [] tt f is_asked in
              let d : iso_dep.does (card last) f ≡ Quiet = says_some iso_dep s.reply (iso_dep.heard (card last) f) (iso_dep.does (card last) f) (sym s.answer ∙ e) in
              speaks_at (card begin).most (card begin).busy command o.along.world.asking o.along.world.answering o.along.world.given f j.0 j.1
              (subst (λ (x : CardState). iso_dep.does x f ≡ Quiet) (sym o.along.answering) d)

          live : (i.phase ≡ phases.Asked) ⊎ (i.phase ≡ phases.Nacked)
          live =
              let j = subst (λ (x : Stage Signal). J iso_dep commands command (keeps (card begin).most (card begin).busy command) (2 * pieces i0.core.most command) o.along.world x) o.along.stage_is
              o.along.inv in
              subst (λ (x : ReaderState). (x.phase ≡ phases.Asked) ⊎ (x.phase ≡ phases.Nacked)) o.along.asking
              (live_of (card begin).most (card begin).busy command o.along.world.asking o.along.world.answering o.along.world.given f j.0 j.1)

          calm_or : (noise turn.added ≡ 0 → (k.machine.answer last f None ≡ None) ⊎ ((g : Signal) × (h ≡ Some (heards.Whole g)))) → ((g : Signal) → h ≡ Some (heards.Whole g) → ⊥)
              → 0 < noise turn.added
          calm_or calm never = positive (noise turn.added) (λ z. go (calm z))
            where
              go : (k.machine.answer last f None ≡ None) ⊎ ((g : Signal) × (h ≡ Some (heards.Whole g))) → ⊥
              go (inl e) = speaks e
              go (inr (g, e)) = never g e

          -- where no whole frame is heard something didn't pass, since the reader's trace began
          pub noisy : ((g : Signal) → h ≡ Some (heards.Whole g) → ⊥) → (zs : List Event) → new.trace ≡ old.trace ++ zs → 0 < noise zs
          noisy never zs e = counted_later noise noise_append old.trace o.along.added turn.added zs mid.trace new.trace o.along.events turn.trace e (calm_or turn.calm never)

          -- where the field was lost a transmission lost it
          pub broken : None ≡ h → (zs : List Event) → new.trace ≡ old.trace ++ zs → 0 < breaks zs
          broken none zs e =
              counted_later breaks breaks-append old.trace o.along.added (turns.turned iso_dep turn.turn.reply (card last) f turn.turn.first turn.turn.second).events zs mid.trace new.trace
              o.along.events turn.turn.events e
              (turned_lost iso_dep turn.turn.reply (card last) f turn.turn.first turn.turn.second (none ∙ turn.turn.heard_is))

          alone_left : IsAlone k (k.identifier begin) new.listeners place turn.left
          alone_left = subst (λ (own : List ℕ). IsAlone k own new.listeners place turn.left) own_same turn.alone

      -- what the asking end heard is what was heard
      heard_next : (es0 es : List Event) (i : ReaderState) (t : CardState) (held : TagState) (h : Heard) (z : Option (Hears Signal)) → Some h ≡ heard_in z
          → Stands es0 (next_asking iso_dep commands command (keeps (card begin).most (card begin).busy command) (2 * pieces i0.core.most command) i z) t es held
          (next_stage iso_dep commands command (keeps (card begin).most (card begin).busy command) (2 * pieces i0.core.most command) i z)
          → Stands es0 (reader_table i h).state t es held (stage_of (reader_does (reader_table i h).does))
      heard_next es0 es i t held h None e a = absurd (cc)
      heard_next es0 es i t held h (Some z) e a =
          let q : heard_of z ≡ h = cc in
          subst (λ (x : Heard). Stands es0 (reader_table i x).state t es held (stage_of (reader_does (reader_table i x).does))) q a

      heard_nothing : (es0 es : List Event) (i : ReaderState) (t : CardState) (held : TagState) (z : Option (Hears Signal)) → None ≡ heard_in z
          → Stands es0 (next_asking iso_dep commands command (keeps (card begin).most (card begin).busy command) (2 * pieces i0.core.most command) i z) t es held
          (next_stage iso_dep commands command (keeps (card begin).most (card begin).busy command) (2 * pieces i0.core.most command) i z)
          → Stands es0 i t es held Dark
      heard_nothing es0 es i t held None e a = a
      heard_nothing es0 es i t held (Some z) e a = absurd (cc)

      -- what is known of the exchange, wherever the loop stands
      abbrev pub OnceAlong : World ReaderState CardState Signal → Type 0
      OnceAlong w =
          Once iso_dep (IsReady iso_dep command (keeps (card begin).most (card begin).busy command)) (λ g. Unit {0}) commands command (pieces i0.core.most command) (blocks_back (card begin)) w

      pub once_along : (es0 es : List Event) (i : ReaderState) (t : CardState) (held : TagState) (stage : Stage Signal) (a : Stands es0 i t es held stage) → OnceAlong a.world
      once_along es0 es i t held stage a =
          kept_once iso_dep commands command (keeps (card begin).most (card begin).busy command) (λ g. Unit {0}) (pieces i0.core.most command) (blocks_back (card begin)) (λ r. omega arith) a.world
          a.inv

      -- the stores that the tag shows in one turn more
      module _ (old mid new : Air L) (place : ℕ) (i : ReaderState) (stage0 : Stage Signal) (s0 : IsoStanding) (o : On old mid place i stage0 s0) (more : List Event)
          (trace : new.trace ≡ mid.trace ++ more)
          (i' : ReaderState) (t' : CardState) (held : TagState) (stage : Stage Signal) (b : Stands old.trace i' t' new.trace held stage)
          (shown : Shows held.store (stores_after k place (world mid) more)) where
        abbrev first : L
        first = reached k begin o.frames

        added_is : b.added ≡ o.along.added ++ more
        added_is =
            append_cancel_left old.trace b.added (o.along.added ++ more)
            (sym b.events ∙ trace ∙ ap (λ (es : List Event). es ++ more) o.along.events ∙ append_assoc old.trace o.along.added more)

        arrived_is : b.world.arrived ≡ o.along.world.arrived ++ turns.arrived more
        arrived_is =
            sym b.arrives ∙ ap (λ (es : List Event). arrived ++ turns.arrived es) added_is ∙ ap (λ (fs : List Signal). arrived ++ fs) (arrived_append o.along.added more)
            ∙ sym (append_assoc arrived (turns.arrived o.along.added) (turns.arrived more)) ∙ ap (λ (fs : List Signal). fs ++ turns.arrived more) o.along.arrives

        never_less : (r : List ℕ) → o.along.world.given ≡ Some r → b.world.given ≡ None → ⊥
        never_less r p q =
            let was = once_along old.trace mid.trace i (card first) (tag first) stage0 o.along in
            let now = once_along old.trace new.trace i' t' held stage b in
            let grow = commands_grow o.along.world.arrived (turns.arrived more) in
            given_stays commands command o.along.world.given b.world.given grow.0
            (sym now.once ∙ sym now.brings ∙ ap (λ (fs : List Signal). iso_commands (blocks_of fs)) arrived_is ∙ grow.1
            ∙ ap (λ (cs : List (List ℕ)). cs ++ grow.0) (was.brings ∙ was.once))
            r p q

        first_store : (tag begin).store ≡ k.store begin
        first_store = holds begin

        stores_by : (g h : Option (List ℕ)) → o.along.world.given ≡ g → b.world.given ≡ h → Stores (k.store begin) g (tag first).store h held.store
        stores_by None None p q =
            ap (λ (x : TagState). x.store) (subst (λ (x : Option (List ℕ)). GivenBy (TagDoes (k.commands begin)) (tag begin) command x held) q b.given) ∙ first_store
        stores_by None (Some y) p q = tt
        stores_by (Some x) (Some y) p q =
            let was = subst (λ (z : Option (List ℕ)). GivenBy (TagDoes (k.commands begin)) (tag begin) command z (tag first)) p o.along.given in
            let now = subst (λ (z : Option (List ℕ)). GivenBy (TagDoes (k.commands begin)) (tag begin) command z held) q b.given in
            ap (λ (z : TagState). z.store) (was.1 ∙ sym now.1)
        stores_by (Some x) None p q = never_less x p q

        pub seen_on : new.trace ≡ old.trace ++ (o.seen ++ more)
        seen_on = trace ∙ ap (λ (es : List Event). es ++ more) o.seen_is ∙ append_assoc old.trace o.seen more

        pub images_on : Follows (k.store begin) (stores_after k place (world old) (o.seen ++ more)) (after_it b.world.given held.store)
        images_on =
            let same : o.going.events ≡ o.seen =
            append_cancel_left old.trace o.going.events o.seen (sym (ap (λ (m : Moment (worlds.World L)). m.trace) o.going.moment) ∙ o.seen_is) in
            let reached_world : world mid ≡ replay (quiet_air k.machine) (world old) o.seen =
            ap (λ (m : Moment (worlds.World L)). m.world) o.going.moment ∙ ap (replay (quiet_air k.machine) (world old)) same in
            let all : stores_after k place (world old) (o.seen ++ more) ≡ stores_after k place (world old) o.seen ++ stores_after k place (world mid) more =
            stores_append k place (world old) o.seen more ∙ ap (λ (w : worlds.World L). stores_after k place (world old) o.seen ++ stores_after k place w more) (sym reached_world) in
            subst (λ (xs : List (List ℕ)). Follows (k.store begin) xs (after_it b.world.given held.store)) (sym all)
            (images_grow (k.store begin) (stores_after k place (world old) o.seen) (stores_after k place (world mid) more) o.along.world.given b.world.given (tag first).store held.store
            o.images shown (stores_by o.along.world.given b.world.given refl refl))

      module _ (old mid : Air L) (place : ℕ) (i : ReaderState) (f : Signal) (bytes : HasBytes f) (o : On old mid place i (Requests f) (Waits i f [])) {F : Type 0} (far far' : F) (new : Air L) where
        abbrev more_frames : List Signal
        more_frames = o.frames ++ f ∷ []

        more_asked : AllByRecursion IsAskedFrame more_frames
        more_asked = all_append IsAskedFrame o.frames (f ∷ []) o.asked (is_asked old mid place i f bytes o, tt)

        reached_more : k.machine.after (reached k begin o.frames) f None ≡ reached k begin more_frames
        reached_more = reached_twice begin o.frames (f ∷ [])

        selected_more : k.is_selected (reached k begin more_frames) ≡ true
        selected_more =
            subst (λ (x : L). k.is_selected x ≡ true) reached_more ((last_tag old mid place i f bytes o).steps [] tt f (is_asked old mid place i f bytes o)).selected

        -- a turn of which something was heard
        module _ (h : Heard) (q : QuietTurn k.machine mid f far (Some h) new far') where
          abbrev t : CardTurn k laws card tag holds mid new place (reached k begin o.frames) f (Some h)
          t = turn old mid place i f bytes o far far' new (Some h) q

          n : Onward iso_dep commands command (keeps (card begin).most (card begin).busy command) (2 * pieces i0.core.most command) TagState (TagDoes (k.commands begin)) arrived old.trace (tag begin)
              i (Some h) (card t.left) new.trace t.held
          n = onward old mid place i f bytes o far far' new (Some h) q

          abbrev Next_on : Type 0
          Next_on = On old new place (reader_table i h).state (stage_of (reader_does (reader_table i h).does)) (goes_by (reader_table i h).state (reader_table i h).does [])

          on_left : (fs : List Signal) → AllByRecursion IsAskedFrame fs → t.left ≡ reached k begin fs → k.is_selected (reached k begin fs) ≡ true → tag t.left ≡ t.held → new.lit ≡ true → Next_on
          on_left fs a e s held lit =
              let b = heard_next old.trace new.trace i (card t.left) t.held h n.hears n.heard_is n.along in
              let al : Stands old.trace (reader_table i h).state (card (reached k begin fs)) new.trace (tag (reached k begin fs)) (stage_of (reader_does (reader_table i h).does)) =
              subst (λ (x : L). Stands old.trace (reader_table i h).state (card x) new.trace (tag x) (stage_of (reader_does (reader_table i h).does))) e
              (subst (λ (z : TagState). Stands old.trace (reader_table i h).state (card t.left) new.trace z (stage_of (reader_does (reader_table i h).does))) (sym held) b) in
              let sh : Shows (tag (reached k begin fs)).store (stores_after k place (world mid) t.added) =
              subst (λ (z : TagState). Shows z.store (stores_after k place (world mid) t.added)) (sym held ∙ ap tag e) t.stores in
              record {
                frames = fs;
                asked = a;
                alone = subst (λ (x : L). IsAlone k (k.identifier begin) new.listeners place x) e (alone_left old mid place i f bytes o far far' new (Some h) q);
                selected = s;
                lit = lit ∙ sym q.lit ∙ o.lit;
                dim = λ d. absurd (cc);
                along = al;
                notes = o.notes ++ note (Some h) ∷ [];
                going = going_on old mid place i f bytes o far far' new (Some h) q;
                stands = stands_then old mid place i f bytes o far far' new (Some h) q;
                seen = o.seen ++ t.added;
                seen_is = seen_on old mid new place i (Requests f) (Waits i f []) o t.added t.trace (reader_table i h).state (card (reached k begin fs)) (tag (reached k begin fs))
                    (stage_of (reader_does (reader_table i h).does)) al sh;
                images = images_on old mid new place i (Requests f) (Waits i f []) o t.added t.trace (reader_table i h).state (card (reached k begin fs)) (tag (reached k begin fs))
                    (stage_of (reader_does (reader_table i h).does)) al sh;
              }

          by_left : (t.left ≡ reached k begin o.frames) ⊎ (t.left ≡ k.machine.after (reached k begin o.frames) f None) → tag t.left ≡ t.held → new.lit ≡ true → Next_on
          by_left (inl e) held lit = on_left o.frames o.asked e o.selected held lit
          by_left (inr e) held lit = on_left more_frames more_asked (e ∙ reached_more) selected_more held lit

          pub turn_on : Next_on
          turn_on = by_left t.is.0 t.is.1 t.is.2

        -- a turn that lost the field
        module _ (q : QuietTurn k.machine mid f far None new far') where
          abbrev t0 : CardTurn k laws card tag holds mid new place (reached k begin o.frames) f None
          t0 = turn old mid place i f bytes o far far' new None q

          n0 : Onward iso_dep commands command (keeps (card begin).most (card begin).busy command) (2 * pieces i0.core.most command) TagState (TagDoes (k.commands begin)) arrived old.trace (tag begin)
              i None (card t0.left) new.trace t0.held
          n0 = onward old mid place i f bytes o far far' new None q

          lost_left : (was : L) (fs : List Signal) → AllByRecursion IsAskedFrame fs → was ≡ reached k begin fs → t0.left ≡ k.machine.darkened was → tag was ≡ t0.held → new.lit ≡ false
              → Lost old new place
          lost_left was fs a e d held lit =
              let b = heard_nothing old.trace new.trace i (card t0.left) t0.held n0.hears n0.heard_is n0.along in
              let al : Stands old.trace i (card t0.left) new.trace (tag (reached k begin fs)) Dark =
              subst (λ (z : TagState). Stands old.trace i (card t0.left) new.trace z Dark) (sym held ∙ ap tag e) b in
              let sh : Shows (tag (reached k begin fs)).store (stores_after k place (world mid) t0.added) =
              subst (λ (z : TagState). Shows z.store (stores_after k place (world mid) t0.added)) (sym held ∙ ap tag e) t0.stores in
              record {
                frames = fs;
                asked = a;
                left = t0.left;
                alone = alone_left old mid place i f bytes o far far' new None q;
                darkened = d ∙ ap k.machine.darkened e;
                dark = lit;
                reader = i;
                along = al;
                notes = o.notes ++ note None ∷ [];
                going = going_on old mid place i f bytes o far far' new None q;
                stands = stands_then old mid place i f bytes o far far' new None q;
                seen = o.seen ++ t0.added;
                seen_is = seen_on old mid new place i (Requests f) (Waits i f []) o t0.added t0.trace i (card t0.left) (tag (reached k begin fs)) Dark al sh;
                images = images_on old mid new place i (Requests f) (Waits i f []) o t0.added t0.trace i (card t0.left) (tag (reached k begin fs)) Dark al sh;
              }

          lost_by : (was : L) → (was ≡ reached k begin o.frames) ⊎ (was ≡ k.machine.after (reached k begin o.frames) f None) → t0.left ≡ k.machine.darkened was → tag was ≡ t0.held → new.lit ≡ false
              → Lost old new place
          lost_by was (inl e) d held lit = lost_left was o.frames o.asked e d held lit
          lost_by was (inr e) d held lit = lost_left was more_frames more_asked (e ∙ reached_more) d held lit

          pub turn_lost : Lost old new place
          turn_lost = lost_by t0.is.0 t0.is.2 t0.is.1 t0.is.3 t0.is.4

      -- the stores that the command passes
      pub passed_by : (g : Option (List ℕ)) (held : TagState) → GivenBy (TagDoes (k.commands begin)) (tag begin) command g held
          → after_it g held.store ≡ passed (k.commands begin) (tag begin) (map whole_a (delivered_of command g))
      passed_by None held h = refl
      passed_by (Some r) held h = ap (λ (x : TagState). x.store ∷ []) h.1

      abbrev pub asked_by : (old new : Air L) (place : ℕ) (i : ReaderState) (t : CardState) (held : TagState) (stage : Stage Signal) (a : Stands old.trace i t new.trace held stage)
          → (seen : List Event) → new.trace ≡ old.trace ++ seen → Follows (k.store begin) (stores_after k place (world old) seen) (after_it a.world.given held.store)
          → (g : Option (List ℕ)) → a.world.given ≡ g → IsAfter k card tag new place begin held → (notes : List Note)
          → Going (quiet_air k.machine) (iso_next i0 (command ∷ [])) (moment old) (moment new) notes → (s : IsoStanding) → stand (asks i0 (command ∷ [])) notes ≡ s
          → CommandTurns k card tag old new place begin i0 commands arrived command g s
      asked_by old new place i t held stage a seen seen_is images g e after notes going s stands =
          let o : OnceAlong a.world = once_along old.trace new.trace i t held stage a in
          record {
            held = held;
            after = after;
            given_by = subst (λ (x : Option (List ℕ)). GivenBy (TagDoes (k.commands begin)) (tag begin) command x held) e a.given;
            events = a.added;
            trace = a.events;
            obeyed = ap (λ (fs : List Signal). iso_commands (blocks_of fs)) a.arrives ∙ o.brings ∙ o.once ∙ ap (λ (x : Option (List ℕ)). commands ++ delivered_of command x) e;
            within =
                (let w : a.world.sent ≤ 2 * (pieces i0.core.most command + pieces_back (blocks_back (card begin)) g - 1) + 4 * a.world.bads =
                subst (λ (x : Option (List ℕ)). a.world.sent ≤ 2 * (pieces i0.core.most command + pieces_back (blocks_back (card begin)) x - 1) + 4 * a.world.bads) e o.within in
                rw (a.sent, a.bads) w);
            notes = notes;
            going = going;
            stands = stands;
            images =
                (let same : seen ≡ a.added = append_cancel_left old.trace seen a.added (sym seen_is ∙ a.events) in
                let given : GivenBy (TagDoes (k.commands begin)) (tag begin) command g held = subst (λ (x : Option (List ℕ)). GivenBy (TagDoes (k.commands begin)) (tag begin) command x held) e
                a.given in
                subst (λ (es : List Event). Follows (k.store begin) (stores_after k place (world old) es) (passed (k.commands begin) (tag begin) (map whole_a (delivered_of command g)))) same
                (subst (λ (xs : List (List ℕ)). Follows (k.store begin) (stores_after k place (world old) seen) xs) (passed_by g held given)
                (subst (λ (x : Option (List ℕ)). Follows (k.store begin) (stores_after k place (world old) seen) (after_it x held.store)) e images)));
          }

      pub after_on : (old mid : Air L) (place : ℕ) (i : ReaderState) (stage : Stage Signal) (s : IsoStanding) (o : On old mid place i stage s) → mid.lit ≡ true
          → IsAfter k card tag mid place begin (tag (reached k begin o.frames))
      after_on old mid place i stage s o lit =
          record { frames = o.frames; asked = o.asked; left = reached k begin o.frames; alone = o.alone; holds = refl; is = inl (lit, refl) }

      -- the command is under way in a lit field, or was broken off there
      abbrev pub on_asked : (old mid : Air L) (place : ℕ) (i : ReaderState) (stage : Stage Signal) (s : IsoStanding) (o : On old mid place i stage s) → mid.lit ≡ true
          → CommandTurns k card tag old mid place begin i0 commands arrived command o.along.world.given s
      on_asked old mid place i stage s o lit =
          asked_by old mid place i (card (reached k begin o.frames)) (tag (reached k begin o.frames)) stage o.along o.seen o.seen_is o.images o.along.world.given refl
          (after_on old mid place i stage s o lit) o.notes o.going s o.stands

      abbrev pub lost_asked : (old new : Air L) (place : ℕ) (o : Lost old new place) → CommandTurns k card tag old new place begin i0 commands arrived command o.along.world.given (Broken FieldLost)
      lost_asked old new place o =
          asked_by old new place o.reader (card o.left) (tag (reached k begin o.frames)) Dark o.along o.seen o.seen_is o.images o.along.world.given refl
          (record { frames = o.frames; asked = o.asked; left = o.left; alone = o.alone; holds = refl; is = inr (o.dark, o.darkened) }) o.notes o.going (Broken FieldLost) o.stands

      -- an exchange that ended, by what its end tells
      ending_along : (es0 es : List Event) (i : ReaderState) (t : CardState) (held : TagState) (stage : Stage Signal) (a : Stands es0 i t es held stage)
          → IsEnding (IsReady iso_dep command (keeps (card begin).most (card begin).busy command)) a.world stage
      ending_along es0 es i t held stage a =
          subst (λ (s : Stage Signal). IsEnding (IsReady iso_dep command (keeps (card begin).most (card begin).busy command)) a.world s) a.stage_is (once_along es0 es i t held stage a).ending

      pub never_protocol : (old mid : Air L) (place : ℕ) (i : ReaderState) (s : IsoStanding) → On old mid place i (Over Protocol) s → ⊥
      never_protocol old mid place i s o = ending_along old.trace mid.trace i (card (reached k begin o.frames)) (tag (reached k begin o.frames)) (Over Protocol) o.along

      -- the whole answer was heard
      pub answered_asked : (old new : Air L) (place : ℕ) (i : ReaderState) (r : List ℕ) (s : IsoStanding) (o : On old new place i (Over (Finished r)) s) → new.lit ≡ true
          → (a : CommandTurns k card tag old new place begin i0 commands arrived command (Some r) s) × HasCardTag k card tag new place i (commands ++ command ∷ []) (arrived ++ turns.arrived a.events)
      answered_asked old new place i r s o lit =
          let l : L = reached k begin o.frames in
          let e = ending_along old.trace new.trace i (card l) (tag l) (Over (Finished r)) o.along in
          let once : OnceAlong o.along.world = once_along old.trace new.trace i (card l) (tag l) (Over (Finished r)) o.along in
          let did : o.along.world.delivered ≡ commands ++ command ∷ [] = once.once ∙ ap (λ (x : Option (List ℕ)). commands ++ delivered_of command x) e.0 in
          let P : ReaderState → CardState → Type 0 = λ x y. InStep x y in
          let Q : CardState → List (List ℕ) → List Signal → Type 0 = IsCut in (
            asked_by old new place i (card l) (tag l) (Over (Finished r)) o.along o.seen o.seen_is o.images (Some r) e.0 (after_on old new place i (Over (Finished r)) s o lit) o.notes o.going s
                o.stands,
            record {
              listener = l;
              selected = o.selected;
              alone = subst (λ (own : List ℕ). IsAlone k own new.listeners place l) (sym (reached_same begin o.frames).identifier') o.alone;
              is = stays_card_tag begin o.frames o.asked c;
              step = subst (λ (x : ReaderState). P x (card l)) o.along.asking (subst (λ (y : CardState). P o.along.world.asking y) o.along.answering e.1.0);
              cut =
                  subst (λ (fs : List Signal). Q (card l) (commands ++ command ∷ []) fs) (sym o.along.arrives)
                  (subst (λ (cs : List (List ℕ)). Q (card l) cs o.along.world.arrived) did
                  (subst (λ (y : CardState). Q y o.along.world.delivered o.along.world.arrived) o.along.answering e.1.1));
            },
          )

-- one command, from the reader's first block to its end
module _ {L : Type 0} (k : Ghosts L) (laws : Laws k) (card : L → CardState) (tag : L → TagState) (holds : Holds k tag) (old : Air L) (place : ℕ) (i0 : ReaderState) (command : List ℕ)
    (commands : List (List ℕ)) (arrived : List Signal)
    (t : HasCardTag k card tag old place i0 commands arrived) where
  abbrev pub Here : Air L → ReaderState → Stage Signal → IsoStanding → Type 0
  Here mid i stage s = OnTag k card tag t.listener i0 commands arrived command old mid place i stage s

  pub first_here : length command ≤ limit → (i : ReaderState) (f : Signal) → i ≡ begun i0 command → f ≡ block_frame (request (begun i0 command).core)
      → Here old i (Requests f) (Waits i f [])
  first_here short i f e d =
      let b : ReaderState = begun i0 command in
      subst (λ (x : ReaderState). Here old x (Requests f) (Waits x f [])) (sym e)
      (subst (λ (g : Signal). Here old b (Requests g) (Waits b g [])) (sym d)
      (begins_on k laws card tag holds t.listener t.is i0 commands arrived command old place t.selected t.alone short t.step t.cut))

  module _ (mid : Air L) (i : ReaderState) (f : Signal) (bytes : HasBytes f) (o : Here mid i (Requests f) (Waits i f []))
      {F : Type 0} (restarts : F → List ℕ → F → Type 0) (steps : F → List ℕ → List ℕ → F → Type 0) (far far' : F) (new : Air L) where
    quiet_here : EachQuiet k.machine f mid.listeners
    quiet_here = quiet_on k laws card tag holds t.listener t.is i0 commands arrived command old mid place i f bytes o

    -- the reader goes on by what it heard
    pub next_here : (h : Heard) → TurnIs k.machine restarts steps mid f far (Some h) new far' → (i' : ReaderState) (d : ReaderStep)
        → (let x : ReaderTurn = record { state = i'; does = d } in x) ≡ reader_table i h → Here new i' (stage_of (reader_does d)) (goes_by i' d [])
    next_here h turn i' d e =
        subst (λ (x : ReaderTurn). Here new x.state (stage_of (reader_does x.does)) (goes_by x.state x.does [])) (sym e)
        (turn_on k laws card tag holds t.listener t.is i0 commands arrived command old mid place i f bytes o far far' new h
        (quiet_turn k.machine restarts steps mid f far (Some h) new far' quiet_here turn))

    lit_here : (h : Heard) → TurnIs k.machine restarts steps mid f far (Some h) new far' → new.lit ≡ old.lit → new.lit ≡ true
    lit_here h turn e = e ∙ sym o.lit ∙ turn.lit

    six_noisy : (h : Heard) → TurnIs k.machine restarts steps mid f far (Some h) new far' → (i' : ReaderState)
        → (let x : ReaderTurn = record { state = i'; does = step.SixBad } in x) ≡ reader_table i h → (zs : List Event) → new.trace ≡ old.trace ++ zs → 0 < noise zs
    six_noisy h turn i' e zs z =
        noisy k laws card tag holds t.listener t.is i0 commands arrived command old mid place i f bytes o far far' new (Some h)
        (quiet_turn k.machine restarts steps mid f far (Some h) new far' quiet_here turn)
        (λ g q. let w : h ≡ heards.Whole g = cc in
        whole_not_six i g (live k laws card tag holds t.listener t.is i0 commands arrived command old mid place i f bytes o far far' new (Some h)
        (quiet_turn k.machine restarts steps mid f far (Some h) new far' quiet_here turn))
        (ap (λ x. (reader_table i x).does) (sym w) ∙ sym (ap (λ (x : ReaderTurn). x.does) e)))
        zs z

    lost_broken : TurnIs k.machine restarts steps mid f far None new far' → (zs : List Event) → new.trace ≡ old.trace ++ zs → 0 < breaks zs
    lost_broken turn zs z =
        broken k laws card tag holds t.listener t.is i0 commands arrived command old mid place i f bytes o far far' new None
        (quiet_turn k.machine restarts steps mid f far None new far' quiet_here turn)
        refl zs z

    -- the answer came
    pub ends_answered : (h : Heard) → TurnIs k.machine restarts steps mid f far (Some h) new far' → (i' : ReaderState) (r : List ℕ)
        → (let x : ReaderTurn = record { state = i'; does = step.Finished (record { items = r }) } in x) ≡ reader_table i h → (answer : Signal) → answer ≡ whole_a r
        → EndsBy k card tag old new place t.listener i0 i' commands arrived command (Ok answer)
    ends_answered h turn i' r e answer w =
        let n = next_here h turn i' (step.Finished (record { items = r })) e in
        let lit = lit_here h turn n.lit in
        let a = answered_asked k laws card tag holds t.listener t.is i0 commands arrived command old new place i' r (Rests i') n lit in
        (r, a.0, w, lit, a.1)

    pub ends_six : (h : Heard) → TurnIs k.machine restarts steps mid f far (Some h) new far' → (i' : ReaderState)
        → (let x : ReaderTurn = record { state = i'; does = step.SixBad } in x) ≡ reader_table i h → EndsBy k card tag old new place t.listener i0 i' commands arrived command (Err ask.SixBad)
    ends_six h turn i' e =
        let n = next_here h turn i' step.SixBad e in
        let lit = lit_here h turn n.lit in (
          n.along.world.given,
          Broken ask.SixBad,
          on_asked k laws card tag holds t.listener t.is i0 commands arrived command old new place i' (Over SixBad) (Broken ask.SixBad) n lit,
          (refl, lit, six_noisy h turn i' e n.along.added n.along.events),
        )

    pub ends_never : (h : Heard) → TurnIs k.machine restarts steps mid f far (Some h) new far' → (i' : ReaderState)
        → (let x : ReaderTurn = record { state = i'; does = step.Protocol } in x) ≡ reader_table i h → ⊥
    ends_never h turn i' e =
        never_protocol k laws card tag holds t.listener t.is i0 commands arrived command old new place i' (Broken ask.Protocol) (next_here h turn i' step.Protocol e)

    module _ (stops : F → List ℕ → F → Type 0) (is_stuck : F → Bool) where
      -- the field was dark, or was lost
      pub ends_lost : (i' : ReaderState) → Transmits k.machine restarts steps stops is_stuck mid f far (Err air.FieldLost) new far'
          → EndsBy k card tag old new place t.listener i0 i' commands arrived command (Err ask.FieldLost)
      ends_lost i' (inl d) = inl (sym o.lit ∙ d.0, d.1 ∙ o.dim d.0)
      ends_lost i' (inr turn) =
          let l = turn_lost k laws card tag holds t.listener t.is i0 commands arrived command old mid place i f bytes o far far' new
          (quiet_turn k.machine restarts steps mid f far None new far' quiet_here turn) in
          inr (
            l.along.world.given,
            Broken ask.FieldLost,
            lost_asked k laws card tag holds t.listener t.is i0 commands arrived command old new place l,
            (refl, l.dark, lost_broken turn l.along.added l.along.events),
          )

      -- nothing more could be noted
      pub ends_stopped : Transmits k.machine restarts steps stops is_stuck mid f far (Err air.Memory) new far'
          → EndsBy k card tag old new place t.listener i0 i commands arrived command (Err ask.Memory)
      ends_stopped turn =
          let q = quiet_transmits k.machine restarts steps stops is_stuck mid f far (Err air.Memory) new far' quiet_here turn in
          let P : Air L → Type 0 = λ a. EndsBy k card tag old a place t.listener i0 i commands arrived command (Err ask.Memory) in
          subst P (sym q.1)
          (o.along.world.given, Waits i f [], on_asked k laws card tag holds t.listener t.is i0 commands arrived command old mid place i (Requests f) (Waits i f []) o q.0, (f, refl, o.lit))
