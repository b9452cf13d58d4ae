-- A Type 4 tag of the bench, once RATS opened its link, does at each block of a reader what the card's table says.
use Rattle.std.proofs.Common.{◌≡◌, None, ℕ, ◌≤◌, List, [], ◌∷◌, length, Bool, Option, Some, refl, sym, ◌∙◌, ap, subst, arith, nat_lt, true, false, if◌then◌else◌, drop}
use Rattle.std.specs.List.{AllByRecursion}
use Rattle.nfc_base.specs.Signal.{Signal, whole_a}
use Rattle.nfc_base.specs.LinkTurns.{MovedBy, settled}
use Rattle.air_core.specs.PlainTags.{reached}
use Rattle.nfca_poll.specs.Front.{Active}
use Rattle.nfca_poll.specs.Fronted.{Fronted, active_answer, active_after}
use Rattle.t4t_tag.specs.Store.{T4State, IsT4State}
use Rattle.t4t_tag.specs.Step.{t4_answer, t4_after}
use Rattle.t4t_tag.proofs.Steps.{same_tag, stays_tag, most_answer}
use Rattle.tag_reader.specs.Files.{shown, t4_link_step}
use Rattle.tag_reader.proofs.Cards.{memory_is}
use Rattle.isodep_link.specs.declared.card.CardStep.{CardStep}
use Rattle.isodep_link.specs.declared.card.CardStep.TheVariants as steps
use Rattle.isodep_link.specs.Card.{CardState, CardTurn, card_table, darkened}
use Rattle.isodep_link.specs.Blocks.{piece}
use Rattle.isodep_link.specs.declared.block.Block.TheVariants.{Extend}
use Rattle.isodep_link.specs.Exchange.{iso_dep, card_does}
use Rattle.isodep_link.specs.CardTags.{IsAskedFrame, TagDoes, IsShort, StepsByCard, IsCardTag}
use Rattle.isodep_link.proofs.Heeding.{AreBytes, Heeds, heeds_by}
use Rattle.bench_devices.specs.Cards.{T4Near}
use Rattle.bench_devices.specs.declared.device.Device.{Device}
use Rattle.bench_devices.specs.declared.device.Device.TheVariants.{T4}
use Rattle.bench_devices.specs.Device.{t4_machine, by_card, device_tech, device_after, device_darkened, device_selected, device_card, device_tag}
use Rattle.bench_devices.specs.Keeping.{ghosts}

-- the front of a selected device with this tag and this card's end, and the device
abbrev pub linked_front : List ℕ → Bool → T4State → CardState → Fronted T4Near
linked_front id starred tag t = record { id = id; front = Active starred; upper = record { tag = tag; card = t; linked = true } }

abbrev pub linked_device : List ℕ → Bool → T4State → CardState → Device
linked_device id starred tag t = T4 (linked_front id starred tag t)

-- of a card whose owner answered, whether or not it asks for more time first
answered_state : (s : CardState) (r : List ℕ) (P : CardState → Type 0) → P (record s { last = Some (Extend s.times); left = r; unsent = true; due = s.busy })
    → P (record s { last = Some (piece s.most s.number r); left = drop s.most r; unsent = nat_lt s.most (length r); due = 0 }) → P (iso_dep.replied s r)
answered_state s r P a b = go (nat_lt 0 s.busy)
  where
    go : (v : Bool) → P (if v then record s { last = Some (Extend s.times); left = r; unsent = true; due = s.busy }
        else record s { last = Some (piece s.most s.number r); left = drop s.most r; unsent = nat_lt s.most (length r); due = 0 })
    go true = a
    go false = b

module _ (id : List ℕ) (starred : Bool) (tag : T4State) (t : CardState) (f : Signal) where
  abbrev front : Fronted T4Near
  front = linked_front id starred tag t

  -- what the device does where its card's end does this
  record Does (turn : CardTurn) : Type 0 where
    pub reply : List ℕ
    pub short : IsShort reply
    pub answer : active_answer t4_machine (by_card tag turn.state turn.does).says front f ≡ (settled iso_dep reply turn.state (card_does turn.does)).answer
    pub tag_then : T4State
    pub card_then : CardState
    pub after : active_after t4_machine (by_card tag turn.state turn.does).says (by_card tag turn.state turn.does).after front f ≡ linked_front id starred tag_then card_then
    pub card_is : card_then ≡ (settled iso_dep reply turn.state (card_does turn.does)).state
    pub moved : MovedBy (TagDoes (t4_link_step tag.code)) (shown tag) (settled iso_dep reply turn.state (card_does turn.does)).asked reply (shown tag_then)
    pub sound : IsT4State tag_then
    pub code : tag_then.code ≡ tag.code
    pub own : card_then.code ≡ tag.code
    pub chain : AreBytes card_then.chain

  -- The device does so at whatever a card that heeds blocks does.
  does_turn : IsT4State tag → (s : CardState) (w : CardStep) → Heeds tag.code (record { state = s; does = w }) → Does (record { state = s; does = w })
  does_turn is s steps.Quiet h = record {
    reply = [];
    short = omega arith;
    answer = refl;
    tag_then = tag;
    card_then = s;
    after = refl;
    card_is = refl;
    moved = refl;
    sound = is;
    code = refl;
    own = h.own;
    chain = h.chain;
  }
  does_turn is s (steps.Reply g) h = record {
    reply = [];
    short = omega arith;
    answer = refl;
    tag_then = tag;
    card_then = s;
    after = refl;
    card_is = refl;
    moved = refl;
    sound = is;
    code = refl;
    own = h.own;
    chain = h.chain;
  }
  does_turn is s (steps.Deliver command) h =
      let reply : List ℕ = t4_answer tag command.items in
      let most : length reply ≤ 258 = most_answer tag command.items (h.awake 4) in
      record {
        reply = reply;
        short = omega (arith, most);
        answer = refl;
        tag_then = t4_after tag command.items;
        card_then = iso_dep.replied s reply;
        after = refl;
        card_is = refl;
        moved = (
          ap (λ m. Some (whole_a (t4_answer m command.items))) (memory_is tag is),
          ap (λ m. shown (t4_after m command.items)) (sym (memory_is tag is)),
        );
        sound = stays_tag tag is command.items;
        code = (same_tag tag command.items).code;
        own = answered_state s reply (λ x. x.code ≡ tag.code) h.own h.own;
        chain = answered_state s reply (λ x. AreBytes x.chain) h.chain h.chain;
      }
  does_turn is s (steps.Asleep g) h = absurd h.awake

-- a selected Type 4 tag of this code whose link is open
pub record IsLinked (code : ℕ) (m : Device) : Type 0 where
  pub id : List ℕ
  pub starred : Bool
  pub tag : T4State
  pub card : CardState
  pub is : m ≡ linked_device id starred tag card
  pub sound : IsT4State tag
  pub coded : tag.code ≡ code
  pub own : card.code ≡ tag.code
  pub chain : AreBytes card.chain

-- what it does at an asked block, and that it stays one
record Turns (code : ℕ) (m : Device) (f : Signal) : Type 0 where
  pub steps : StepsByCard ghosts device_card device_tag m f
  pub stays : IsLinked code (device_after m f None)

module _ (code : ℕ) where
  -- A linked tag does at an asked block what the card's table says, and stays linked.
  turns : (m : Device) → IsLinked code m → (f : Signal) → IsAskedFrame f → Turns code m f
  turns m l f a = subst (λ x. Turns code x f) (sym l.is) (record { steps = stepped; stays = stays_linked })
    where
      does : Does l.id l.starred l.tag l.card f (card_table l.card f)
      does =
          does_turn l.id l.starred l.tag l.card f l.sound (card_table l.card f).state (card_table l.card f).does
          (heeds_by l.tag.code l.card l.own l.chain f a l.card.mute refl)

      asked : Option (List ℕ)
      asked = (settled iso_dep does.reply (card_table l.card f).state (card_does (card_table l.card f).does)).asked

      after : device_after (linked_device l.id l.starred l.tag l.card) f None ≡ linked_device l.id l.starred does.tag_then does.card_then
      after = ap (λ d. T4 d) does.after

      stepped : StepsByCard ghosts device_card device_tag (linked_device l.id l.starred l.tag l.card) f
      stepped = record {
        quiet = refl;
        reply = does.reply;
        short = does.short;
        answer = does.answer;
        card_is = ap device_card after ∙ does.card_is;
        moved = subst (λ x. MovedBy (TagDoes (t4_link_step l.tag.code)) (shown l.tag) asked does.reply (device_tag x)) (sym after) does.moved;
        selected = ap device_selected after;
      }

      stays_linked : IsLinked code (device_after (linked_device l.id l.starred l.tag l.card) f None)
      stays_linked = record {
        id = l.id;
        starred = l.starred;
        tag = does.tag_then;
        card = does.card_then;
        is = after;
        sound = does.sound;
        coded = does.code ∙ l.coded;
        own = does.own ∙ sym does.code;
        chain = does.chain;
      }

  -- by asked blocks it stays a linked tag of this code
  stays_on : (fs : List Signal) (m : Device) → IsLinked code m → AllByRecursion IsAskedFrame fs → IsLinked code (reached ghosts m fs)
  stays_on [] m l all = l
  stays_on (f ∷ fs) m l all = stays_on fs (device_after m f None) (turns m l f all.0).stays all.1

  -- the dark clears its card's end
  dark_card : (m : Device) → IsLinked code m → device_card (device_darkened m) ≡ darkened (device_card m)
  dark_card m l = ap (λ x. device_card (device_darkened x)) l.is ∙ ap (λ x. darkened (device_card x)) (sym l.is)

  -- It is a card tag.
  pub card_tag : (m : Device) → IsLinked code m → IsCardTag ghosts device_card device_tag m
  card_tag m l = record {
    tech = ap device_tech l.is;
    steps = λ fs all f a. (turns (reached ghosts m fs) (stays_on fs m l all) f a).steps;
    cleared = λ fs all. dark_card (reached ghosts m fs) (stays_on fs m l all);
  }
