-- A resolution over this project's listeners of which none is idle finds nobody, whatever noise it meets.
use Rattle.std.proofs.Common.{[], ◌≡◌, ℕ, ◌+◌, List, map, Bool, true, false, nat_lt, if◌then◌else◌, refl, sym, ◌∙◌, ap, subst, None, Result, Ok, Err, filter_map}
use Rattle.nfc_base.specs.declared.frame.Tech.TheVariants.{A}
use Rattle.nfc_base.specs.declared.event.Heard.{Heard}
use Rattle.nfc_base.specs.declared.event.Heard.TheVariants.{Silent}
use Rattle.nfc_base.specs.Signal.{Signal}
use Rattle.nfc_base.specs.Trace.{noise}
use Rattle.air_core.specs.Joint.{joint}
use Rattle.air_core.specs.World.{Machine}
use Rattle.air_core.specs.Turn.{Air}
use Rattle.nfca_poll.specs.declared.kind.Kind.{Kind}
use Rattle.nfca_poll.specs.declared.fault.Picked.{Picked}
use Rattle.nfca_poll.specs.declared.fault.PollFault.{PollFault}
use Rattle.nfca_poll.specs.declared.fault.PollFault.TheVariants.{Nobody, Disturbed, FieldLost, Memory, NotFound, BadAnswer}
use Rattle.nfca_poll.specs.declared.seeking.Seeking.{Seeking}
use Rattle.nfca_poll.specs.declared.seeking.Seeking.TheVariants as seeks
use Rattle.nfca_poll.specs.Calls.{Calls, Sens, call_of}
use Rattle.nfca_poll.specs.Front.{Front, Off, Idle, Sleep, Ready, Active, is_active}
use Rattle.nfca_poll.specs.Poll as poll
use Rattle.nfca_poll.specs.Poll.{Seek, Calling, Asking, Selecting, Ended, Outcome, seek_step}
use Rattle.nfca_poll.specs.Muted.{AskEnds}
use Rattle.nfca_poll.specs.Seeking.{seek_of, request_of, outcome}
use Rattle.nfca_poll.specs.Crowd.{Card, Each, is_idle, is_rest, AreOurs, cards}
use Rattle.nfca_poll.proofs.quiet.CrowdParts.{EndsAlone, FindsNobody}
use Rattle.nfca_poll.proofs.quiet.Clashes.{wrong, wrong_back, Has}
use Rattle.nfca_poll.proofs.quiet.Eaches.{each_map, map_none, said_none}
use Rattle.nfca_poll.proofs.identifiers.HeardBits.{heard_of}
use Rattle.nfca_poll.proofs.identifiers.Fitting.{card_next, card_says}
use Rattle.nfca_poll.proofs.quiet.Choosing.{hears}
use Rattle.nfca_poll.proofs.quiet.CardsAtRest.{rest_inactive, request_a}
use Rattle.nfca_poll.proofs.noise.NoisyTurns.{TurnWas, passed, unheard, damaged, lost, turn_was}
use Rattle.nfca_poll.proofs.quiet.Crowding.{events_of}

-- at rest, and not idle
abbrev pub Sleeps : Card → Type 0
Sleeps c = (is_rest c.front ≡ true) × (is_idle c.front ≡ false)

-- all are as they were, and nobody has answered
abbrev pub Waits : List Card → Seek → List Card → Type 0
Waits w (Calling n) v = v ≡ w
Waits w (Asking done known) v = ⊥
Waits w (Selecting done l) v = ⊥
Waits w (Ended o) v = (o ≡ poll.Nobody) × (v ≡ w)

stays_by : (id : List ℕ) (k : Kind) (f : Front) → is_rest f ≡ true → is_idle f ≡ false
    → (card_next (Calls Sens) (record { id = id; kind = k; front = f }) ≡ record { id = id; kind = k; front = f }) × (card_says (Calls Sens) (record { id = id; kind = k; front = f }) ≡ None)
stays_by id k Off r i = (refl, refl)
stays_by id k Idle r i = wrong_back i
stays_by id k Sleep r i = (refl, refl)
stays_by id k (Ready j s) r i = wrong r
stays_by id k (Active s) r i = wrong r

stays : (c : Card) → Sleeps c → (card_next (Calls Sens) c ≡ c) × (card_says (Calls Sens) c ≡ None)
stays c s = stays_by c.id c.kind c.front s.0 s.1

waits_on : (w : List Card) (n : ℕ) (v : Bool) → Waits w (if v then Calling (n + 1) else Ended poll.Nobody) w
waits_on w n true = refl
waits_on w n false = (refl, refl)

silent_on : (w : List Card) (n : ℕ) (v : List Card) → v ≡ w → Waits w (seek_step (Calling n) Silent) v
silent_on w n v e = let Q : List Card → Type 0 = λ x. Waits w (seek_step (Calling n) Silent) x in subst Q (sym e) (waits_on w n (nat_lt n 3))

same_after : (w v : List Card) → Each Sleeps w → v ≡ w → map (card_next (Calls Sens)) v ≡ w
same_after w v s k = ap (map (card_next (Calls Sens))) k ∙ map_none (card_next (Calls Sens)) w (each_map Sleeps (λ c. card_next (Calls Sens) c ≡ c) (λ c i. (stays c i).0) w s)

say_none : (w v : List Card) → Each Sleeps w → v ≡ w → filter_map (card_says (Calls Sens)) v ≡ []
say_none w v s k = ap (filter_map (card_says (Calls Sens))) k ∙ said_none (card_says (Calls Sens)) w (each_map Sleeps (λ c. card_says (Calls Sens) c ≡ None) (λ c i. (stays c i).1) w s)

calling_turn : (w : List Card) (n : ℕ) (v v' : List Card) (h : Heard) (t : ℕ) → Each Sleeps w → v ≡ w → TurnWas (Calls Sens) v v' h t → Waits w (seek_step (Calling n) h) v'
calling_turn w n v _ _ _ s k passed =
    let silent : hears (Calls Sens) v ≡ Silent = ap (λ t. heard_of (joint t)) (say_none w v s k) in
    let P : Heard → Type 0 = λ h. Waits w (seek_step (Calling n) h) (map (card_next (Calls Sens)) v) in
    subst P (sym silent) (silent_on w n (map (card_next (Calls Sens)) v) (same_after w v s k))
calling_turn w n v _ _ _ s k unheard = silent_on w n v k
calling_turn w n v _ _ _ s k (damaged g h) = let P : List Signal → Type 0 = λ t. Has g t in absurd (subst P (say_none w v s k) h)
calling_turn w n v _ _ _ s k (lost g h) = let P : List Signal → Type 0 = λ t. Has g t in absurd (subst P (say_none w v s k) h)

waiting_turn : (w : List Card) (q : Seeking) (v v' : List Card) (h : Heard) (t : ℕ) → Each Sleeps w → Waits w (seek_of q) v → TurnWas (call_of (request_of q)) v v' h t
    → Waits w (seek_step (seek_of q) h) v'
waiting_turn w (seeks.Calling n) v v' h t s k was = calling_turn w n v v' h t s k was
waiting_turn w (seeks.Asking d known) v v' h t s k was = absurd k
waiting_turn w (seeks.Selecting d l) v v' h t s k was = absurd k

sleepers_inactive : (w : List Card) (q : Seeking) (v : List Card) → Each Sleeps w → Waits w (seek_of q) v → Each (λ x. is_active x.front ≡ false) v
sleepers_inactive w (seeks.Calling n) v s k =
    let P : List Card → Type 0 = λ t. Each (λ x. is_active x.front ≡ false) t in
    subst P (sym k) (each_map Sleeps (λ x. is_active x.front ≡ false) (λ x i. rest_inactive x.front i.0) w s)
sleepers_inactive w (seeks.Asking d known) v s k = absurd k
sleepers_inactive w (seeks.Selecting d l) v s k = absurd k

module _ {L : Type 0} (m : Machine L) (identifier' : L → List ℕ) where
  -- So far nobody has answered.
  abbrev pub Sleepers : Air L → Air L → Seek → Type 0
  Sleepers old now s = (ours : AreOurs m identifier') → Each Sleeps (cards ours old.listeners) → Waits (cards ours old.listeners) s (cards ours now.listeners)

  pub sleepers_start : (old : Air L) → Sleepers old old (Calling 0)
  sleepers_start old ours s = refl

  pub sleepers_turn : (old now new : Air L) (q : Seeking) (f : Signal) (h : Heard) → Sleepers old now (seek_of q) → f ≡ request_of q → AskEnds m now f (Ok h) new
      → Sleepers old new (seek_step (seek_of q) h)
  sleepers_turn old now new q f h waits e t ours s =
      let w : List Card = cards ours old.listeners in
      let k : Waits w (seek_of q) (cards ours now.listeners) = waits ours s in
      let tech : f.tech ≡ A = ap (λ (x : Signal). x.tech) e ∙ request_a q in
      let was = turn_was m ours f tech now new h t.0 (sleepers_inactive w q (cards ours now.listeners) s k) in
      let W : Signal → Type 0 = λ x. TurnWas (call_of x) (cards ours now.listeners) (cards ours new.listeners) h (noise (events_of m now f)) in
      waiting_turn w q (cards ours now.listeners) (cards ours new.listeners) h (noise (events_of m now f)) s k (subst W e was)

  pub sleepers_end : (old new : Air L) (s : Seek) (o : Outcome) (r : Result Picked PollFault) → Sleepers old new s → s ≡ Ended o → r ≡ outcome o → (ours : AreOurs m identifier')
      → FindsNobody ours old r new
  sleepers_end old new s o r waits e end ours sl =
      let P : Seek → Type 0 = λ x. Waits (cards ours old.listeners) x (cards ours new.listeners) in
      let k : (o ≡ poll.Nobody) × (cards ours new.listeners ≡ cards ours old.listeners) = subst P e (waits ours sl) in
      let R : Result Picked PollFault → Type 0 = λ x. EndsAlone (cards ours old.listeners) x (cards ours new.listeners) in
      subst R (sym (end ∙ ap outcome k.0)) k.1

  pub sleepers_err : (old now new : Air L) (f : Signal) (fault : PollFault) → AskEnds m now f (Err fault) new → (ours : AreOurs m identifier') → FindsNobody ours old (Err fault) new
  sleepers_err old now new f Nobody t ours s = absurd t
  sleepers_err old now new f Disturbed t ours s = absurd t
  sleepers_err old now new f FieldLost t ours s = tt
  sleepers_err old now new f Memory t ours s = tt
  sleepers_err old now new f NotFound t ours s = absurd t
  sleepers_err old now new f BadAnswer t ours s = absurd t
