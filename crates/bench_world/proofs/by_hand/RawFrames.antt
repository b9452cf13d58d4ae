-- Frames of a script's own, one after the other: where they stand by what was heard, and what a turn leaves of devices and of the far end.
use Rattle.std.proofs.Common.{◌≡◌, ℕ, zero, suc, List, [], ◌∷◌, ◌++◌, true, Option, None, refl, sym, ◌∙◌, ap, subst}
use Rattle.nfc_base.specs.Choosing.{Choosing, first_number}
use Rattle.nfc_base.specs.Far.{FarDid, FarUse, Untouched, Restarts, Hands}
use Rattle.nfc_base.specs.Signal.{Signal}
use Rattle.nfc_base.specs.declared.event.Event.TheVariants.{Request, Answer, Clash}
use Rattle.nfc_base.specs.declared.event.Fate.{Fate}
use Rattle.nfc_base.specs.declared.event.Fate.TheVariants.{Pass, Damage, Lose, Break}
use Rattle.nfc_base.specs.declared.event.Heard.{Heard}
use Rattle.nfc_base.specs.declared.far.Mute.{Mute}
use Rattle.air_core.specs.Joint.{Joint, Nothing, Single, Clashing, joint}
use Rattle.air_core.specs.Conversation.{Note, Lit, Got, Lost, Next, IsDemand, first_fate, later_fates}
use Rattle.air_core.specs.Quiet.{EachQuiet}
use Rattle.air_core.specs.Speaking.{DueTurns, Speaks}
use Rattle.air_core.specs.Turn.{Air, HearAll, TurnBy, TurnIs, after_event, brought, world}
use Rattle.air_core.specs.World.{hands_over}
use Rattle.air_core.proofs.LostField.{HasLost}
use Rattle.far_air.specs.FarTurns.{AllQuietBut, QuietBut}
use Rattle.llcp_link.specs.Counting.{AnswersCounted, RestartsCounted}
use Rattle.link_calls.specs.Staying.{setting_of}
use Rattle.link_calls.proofs.Settings.{answers_is}
use Rattle.peer_air.specs.PeerFars.{peer_ends}
use Rattle.snep_core.specs.Server.{serving}
use Rattle.bench_devices.specs.declared.device.Device.{Device}
use Rattle.bench_devices.specs.AnyFrame.{peer_place, peers_in}
use Rattle.bench_devices.specs.Device.{devices, device_linked}
use Rattle.bench_devices.specs.Keeping.{AllStayDevices, StaysDevice}
use Rattle.bench_devices.proofs.kinds.AnyFrame.{all_quiet, count_stays, place_stays}
use Rattle.bench_devices.proofs.reads.CardReadingNotes.{Driven}
use Rattle.bench_devices.proofs.kinds.EveryFrame.{event_stays}
use Rattle.bench_world.specs.declared.entry.RawHeard.{RawHeard}
use Rattle.bench_world.specs.Rawing.{Rawing, Dark, Sends, Strays, raw_due, raw_heard, raw_noted, raw_stand}
use Rattle.bench_world.specs.private.RawAt.{frames_due}
use Rattle.bench_world.specs.World.{FarEnd}
use Rattle.bench_world.proofs.devices.FarStays.{all_stay, stays_any}

-- Where frames stand behind some notes.
module _ (frames : List Signal) where
  abbrev DrivenAt : Rawing → List Note → Type 0
  DrivenAt s [] = Unit {0}
  DrivenAt s (n ∷ ns) = IsDemand (raw_due s) × DrivenAt (raw_noted frames s n) ns

  stand_more : (s : Rawing) (ns : List Note) (n : Note) → raw_stand frames s (ns ++ n ∷ []) ≡ raw_noted frames (raw_stand frames s ns) n
  stand_more s [] n = refl
  stand_more s (k ∷ ns) n = stand_more (raw_noted frames s k) ns n

  drives : (s : Rawing) (before ns : List Note) → Driven (λ ks. raw_due (raw_stand frames s ks)) before ns → DrivenAt (raw_stand frames s before) ns
  drives s before [] d = tt
  drives s before (n ∷ ns) d = (d.0, subst (λ x. DrivenAt x ns) (stand_more s before n) (drives s (before ++ n ∷ []) ns d.1))

  strays_on : (ns : List Note) → raw_stand frames Strays ns ≡ Strays
  strays_on [] = refl
  strays_on (n ∷ ns) = strays_on ns

  -- the field was lost at a frame exactly where a note says so
  lost_stands : (ns : List Note) (heard : List RawHeard) (left : List Signal) → DrivenAt (Sends heard left) ns → HasLost ns → raw_stand frames (Sends heard left) ns ≡ Dark
  lost_stands [] heard left d l = absurd l
  lost_stands (n ∷ ns) heard [] d l = absurd d.0
  lost_stands (Lit ∷ []) heard (f ∷ left) d l = absurd l
  lost_stands (Lit ∷ n ∷ ns) heard (f ∷ left) d l = absurd d.1.0
  lost_stands (Got h ∷ ns) heard (f ∷ left) d l = lost_stands ns (heard ++ raw_heard h ∷ []) left d.1 l
  lost_stands (Lost ∷ []) heard (f ∷ left) d l = refl
  lost_stands (Lost ∷ n ∷ ns) heard (f ∷ left) d l = absurd d.1.0

  pub lost_dark : (ns : List Note) → Driven (frames_due frames) [] ns → HasLost ns → raw_stand frames (Sends [] frames) ns ≡ Dark
  lost_dark ns d l = lost_stands ns [] frames (drives (Sends [] frames) [] ns d) l

  dark_stands : (ns : List Note) (heard : List RawHeard) (left : List Signal) → raw_stand frames (Sends heard left) ns ≡ Dark → HasLost ns
  dark_stands [] heard left e = absurd cc
  dark_stands (n ∷ ns) heard [] e = absurd (let clash : Strays ≡ Dark = sym (strays_on ns) ∙ e in cc)
  dark_stands (Lit ∷ ns) heard (f ∷ left) e = absurd (let clash : Strays ≡ Dark = sym (strays_on ns) ∙ e in cc)
  dark_stands (Got h ∷ ns) heard (f ∷ left) e = dark_stands ns (heard ++ raw_heard h ∷ []) left e
  dark_stands (Lost ∷ ns) heard (f ∷ left) e = tt

  pub dark_lost : (ns : List Note) → raw_stand frames (Sends [] frames) ns ≡ Dark → HasLost ns
  dark_lost ns e = dark_stands ns [] frames e

-- What a turn leaves of the devices: each stays what it is.
all_same : (ds : List Device) → AllStayDevices ds ds
all_same [] = tt
all_same (d ∷ ds) = (record { fixed = refl; long = refl; sound = λ is. is }, all_same ds)

back_stays : (a : Air Device) (j : Joint) (y : Fate) → AllStayDevices a.listeners (brought devices a j y).listeners
back_stays a Nothing y = all_same a.listeners
back_stays a (Single g) y = event_stays (world a) (Answer g y)
back_stays a (Clashing g) y = event_stays (world a) (Clash g y)

module _ {A : Type 0} (restarts : A → List ℕ → A → Type 0) (steps : A → List ℕ → List ℕ → A → Type 0) where
  heard_stay : (f : Signal) (ls : List Device) (far : A) (answers : List Signal) (ls' : List Device) (far' : A) → HearAll devices restarts steps f ls far answers ls' far' → AllStayDevices ls ls'
  heard_stay f [] far answers ls' far' h = subst (λ ms. AllStayDevices [] ms) (sym h.1) tt
  heard_stay f (l ∷ ls) far answers ls' far' h =
      subst (λ ms. AllStayDevices (l ∷ ls) ms) (sym h.8)
      (subst (λ m. StaysDevice l m) (sym h.5.left) (stays_any f h.5.reply l), heard_stay f ls h.3 h.1 h.4 far' h.6)

  turn_by_stays : (x : Fate) (old : Air Device) (f : Signal) (far : A) (heard : Option Heard) (new : Air Device) (far' : A) → TurnBy devices restarts steps x old f far heard new far'
      → AllStayDevices old.listeners new.listeners
  turn_by_stays Pass old f far heard new far' p =
      let half : Air Device = after_event old (Request f Pass) (later_fates old.fates) (record { lit = true; listeners = p.listeners }) in
      subst (λ (a : Air Device). AllStayDevices old.listeners a.listeners) (sym p.left)
      (all_stay old.listeners p.listeners (brought devices half (joint p.answers) (first_fate (later_fates old.fates))).listeners
      (heard_stay f old.listeners far p.answers p.listeners far' p.all) (back_stays half (joint p.answers) (first_fate (later_fates old.fates))))
  turn_by_stays Damage old f far heard new far' p = subst (λ (a : Air Device). AllStayDevices old.listeners a.listeners) (sym p.left) (event_stays (world old) (Request f Damage))
  turn_by_stays Lose old f far heard new far' p = subst (λ (a : Air Device). AllStayDevices old.listeners a.listeners) (sym p.left) (event_stays (world old) (Request f Lose))
  turn_by_stays Break old f far heard new far' p = subst (λ (a : Air Device). AllStayDevices old.listeners a.listeners) (sym p.left) (event_stays (world old) (Request f Break))

  turn_stays : (old : Air Device) (f : Signal) (far : A) (heard : Option Heard) (new : Air Device) (far' : A) → TurnIs devices restarts steps old f far heard new far'
      → AllStayDevices old.listeners new.listeners
  turn_stays old f far heard new far' t = turn_by_stays (first_fate old.fates) old f far heard new far' t.by

  -- So one device at most hands something over in them: the peer at its place.
  module _ (next : List Note → Next) (place : ℕ) where
    pub turns_quiet : (ns seen : List Note) (old : Air Device) (far : A) (new : Air Device) (after : A) (d : DueTurns devices restarts steps next seen old far ns new after)
        → ((ls : List Device) (f : Signal) → peers_in ls ≡ peers_in old.listeners → peer_place ls ≡ peer_place old.listeners → QuietBut devices f place ls)
        → AllQuietBut devices device_linked peer_ends restarts steps next place seen old far ns new after d
    turns_quiet [] seen old far new after d quiet = tt
    turns_quiet (n ∷ ns) seen old far new after (f, h, mid, half, due, known, turn, rest) quiet =
        let stay : AllStayDevices old.listeners mid.listeners = turn_stays old f far h mid half turn in (
          quiet old.listeners f refl refl,
          turns_quiet ns (seen ++ n ∷ []) mid half new after rest
              (λ ls g count at. quiet ls g (count ∙ count_stays old.listeners mid.listeners stay) (at ∙ place_stays old.listeners mid.listeners stay)),
        )

-- where nobody hands anything over, nobody does but the one at whatever place
pub each_but : (f : Signal) (ls : List Device) (place : ℕ) → EachQuiet devices f ls → QuietBut devices f place ls
each_but f [] place q = tt
each_but f (l ∷ ls) zero q = q.1
each_but f (l ∷ ls) (suc place) q = (q.0, each_but f ls place q.1)

-- What the end of a peer keeps: its MIU, its window, its names, its limit and its table.
did_set : (u : FarUse) (old : Choosing FarEnd) (reply : Option (List ℕ)) (new : Choosing FarEnd) → FarDid (RestartsCounted serving) (AnswersCounted serving) u old reply new
    → setting_of new.end ≡ setting_of old.end
did_set Untouched old reply new d = ap (λ (c : Choosing FarEnd). setting_of c.end) d.0
did_set (Restarts general) old reply new d = ap (λ (c : Choosing FarEnd). setting_of c.end) d.0
did_set (Hands payload) old reply new d = answers_is (setting_of old.end) (first_number old.numbers) old.end payload d.0 new.end d.1.answers refl

heard_set : (f : Signal) (ls : List Device) (far : Choosing FarEnd) (answers : List Signal) (ls' : List Device) (far' : Choosing FarEnd)
    → HearAll devices (RestartsCounted serving) (AnswersCounted serving) f ls far answers ls' far' → setting_of far'.end ≡ setting_of far.end
heard_set f [] far answers ls' far' h = ap (λ (c : Choosing FarEnd). setting_of c.end) h.2
heard_set f (l ∷ ls) far answers ls' far' h = heard_set f ls h.3 h.1 h.4 far' h.6 ∙ did_set (hands_over devices l f) far h.5.reply h.3 h.5.far

turn_by_set : (x : Fate) (old : Air Device) (f : Signal) (far : Choosing FarEnd) (heard : Option Heard) (new : Air Device) (far' : Choosing FarEnd)
    → TurnBy devices (RestartsCounted serving) (AnswersCounted serving) x old f far heard new far' → setting_of far'.end ≡ setting_of far.end
turn_by_set Pass old f far heard new far' p = heard_set f old.listeners far p.answers p.listeners far' p.all
turn_by_set Damage old f far heard new far' p = ap (λ (c : Choosing FarEnd). setting_of c.end) p.same
turn_by_set Lose old f far heard new far' p = ap (λ (c : Choosing FarEnd). setting_of c.end) p.same
turn_by_set Break old f far heard new far' p = ap (λ (c : Choosing FarEnd). setting_of c.end) p.same

pub turns_set : (next : List Note → Next) (ns seen : List Note) (old : Air Device) (far : Choosing FarEnd) (new : Air Device) (after : Choosing FarEnd)
    → DueTurns devices (RestartsCounted serving) (AnswersCounted serving) next seen old far ns new after → setting_of after.end ≡ setting_of far.end
turns_set next [] seen old far new after d = ap (λ (c : Choosing FarEnd). setting_of c.end) d.1
turns_set next (n ∷ ns) seen old far new after (f, h, mid, half, due, known, turn, rest) =
    turns_set next ns (seen ++ n ∷ []) mid half new after rest ∙ turn_by_set (first_fate old.fates) old f far h mid half turn.by

-- Where no peer is placed the far end has no part: turns over a mute one are turns over whatever end.
abbrev pub mute_restarts : Mute → List ℕ → Mute → Type 0
mute_restarts old general new = new ≡ old

abbrev pub mute_steps : Mute → List ℕ → List ℕ → Mute → Type 0
mute_steps old payload reply new = (new ≡ old) × (reply ≡ [])

module _ (a : Choosing FarEnd) where
  hear_any : (f : Signal) (ls : List Device) (far : Mute) (answers : List Signal) (ls' : List Device) (far' : Mute) → EachQuiet devices f ls
      → HearAll devices mute_restarts mute_steps f ls far answers ls' far' → HearAll devices (RestartsCounted serving) (AnswersCounted serving) f ls a answers ls' a
  hear_any f [] far answers ls' far' q h = (h.0, h.1, refl)
  hear_any f (l ∷ ls) far answers ls' far' q h =
      let none : (h.3 ≡ far) × (h.5.reply ≡ None) = subst (λ u. FarDid mute_restarts mute_steps u far h.5.reply h.3) q.0 h.5.far in
      let did : FarDid (RestartsCounted serving) (AnswersCounted serving) (hands_over devices l f) a h.5.reply a =
      subst (λ u. FarDid (RestartsCounted serving) (AnswersCounted serving) u a h.5.reply a) (sym q.0) (refl, none.1) in
      (h.0, h.1, h.2, a, h.4, record { reply = h.5.reply; far = did; says = h.5.says; left = h.5.left }, hear_any f ls h.3 h.1 h.4 far' q.1 h.6, h.7, h.8)

  by_any : (x : Fate) (old : Air Device) (f : Signal) (far : Mute) (heard : Option Heard) (new : Air Device) (far' : Mute) → EachQuiet devices f old.listeners
      → TurnBy devices mute_restarts mute_steps x old f far heard new far' → TurnBy devices (RestartsCounted serving) (AnswersCounted serving) x old f a heard new a
  by_any Pass old f far heard new far' q p =
      record { answers = p.answers; listeners = p.listeners; all = hear_any f old.listeners far p.answers p.listeners far' q p.all; back = p.back; left = p.left }
  by_any Damage old f far heard new far' q p = record { back = p.back; left = p.left; same = refl }
  by_any Lose old f far heard new far' q p = record { back = p.back; left = p.left; same = refl }
  by_any Break old f far heard new far' q p = record { back = p.back; left = p.left; same = refl }

  turns_any : (next : List Note → Next) (ns seen : List Note) (old : Air Device) (far : Mute) (new : Air Device) (after : Mute) → peer_place old.listeners ≡ None
      → DueTurns devices mute_restarts mute_steps next seen old far ns new after → DueTurns devices (RestartsCounted serving) (AnswersCounted serving) next seen old a ns new a
  turns_any next [] seen old far new after none d = (d.0, refl)
  turns_any next (n ∷ ns) seen old far new after none (f, h, mid, half, due, known, turn, rest) =
      let stay : AllStayDevices old.listeners mid.listeners = turn_stays mute_restarts mute_steps old f far h mid half turn in (
        f,
        h,
        mid,
        a,
        due,
        known,
        record { lit = turn.lit; by = by_any (first_fate old.fates) old f far h mid half (all_quiet f old.listeners none) turn.by },
        turns_any next ns (seen ++ n ∷ []) mid half new after (place_stays old.listeners mid.listeners stay ∙ none) rest,
      )

  pub speaks_any : (next : List Note → Next) (ns : List Note) (old : Air Device) (far : Mute) (new : Air Device) (after : Mute) → peer_place old.listeners ≡ None
      → Speaks devices mute_restarts mute_steps next old far new after ns → Speaks devices (RestartsCounted serving) (AnswersCounted serving) next old a new a ns
  speaks_any next ns old far new after none s = record {
    turns = turns_any next ns [] old far new after none s.turns;
    events = s.events;
    trace = s.trace;
    each = s.each;
    fates = s.fates;
    queue = s.queue;
    fresh = s.fresh;
    known = s.known;
    lit = s.lit;
    dim = s.dim;
  }
