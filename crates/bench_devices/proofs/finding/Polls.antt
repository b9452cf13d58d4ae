-- A command that polls, as its enquiry goes on over an air: it isn't over, or has just come to its end.
use Rattle.std.proofs.Common.{◌≡◌, List, [], ◌∷◌, ◌++◌, Option, Some, None, Result, Ok, Err, refl, sym, ◌∙◌, ap, subst}
use Rattle.nfc_base.specs.declared.event.Event.TheVariants.{Reset}
use Rattle.nfc_base.specs.declared.event.Heard.{Heard}
use Rattle.nfc_base.specs.Signal.{Signal}
use Rattle.air_core.specs.Conversation.{AirModel, Note, Lit, Got, Lost, note, Next, LightUp, Asks, Moment, Going, TurnsTo, with_events}
use Rattle.air_core.specs.laws.Turning.{going_start, going_turn, going_reset}
use Rattle.nfca_poll.specs.declared.fault.PollFault.{PollFault}
use Rattle.nfca_poll.specs.declared.fault.PollFault.TheVariants as faults
use Rattle.nfca_poll.specs.Enquiry.{Enquiry, progress, enquiring, answer_of, or_memory}
use Rattle.bench_devices.specs.Polling as polls
use Rattle.bench_devices.specs.Polling.{Followed, Told, followed, follows, asks}
use Rattle.bench_devices.proofs.finding.Following.{Closes, asks_same}

-- An enquiry that isn't over, or has just come to its end.
abbrev pub IsFresh : {X : Type 0} → Followed X → Type 0
IsFresh (polls.Asks n) = Unit {0}
IsFresh (Told r ns) = ns ≡ []

module _ {S X : Type 0} (e : Enquiry S X) where
  pub fresh_end : (s : S) (o : Option (Result X PollFault)) → IsFresh (followed e s o [])
  fresh_end s (Some r) = refl
  fresh_end s None = tt

  -- by one note more one that isn't over stays fresh
  pub fresh_more : (s : S) (o : Option (Result X PollFault)) (hs : List Note) (k : Note) (n : Next) → followed e s o hs ≡ polls.Asks n → IsFresh (followed e s o (hs ++ k ∷ []))
  fresh_more s (Some r) hs k n q = absurd (let clash : Told r hs ≡ polls.Asks n = q in cc)
  fresh_more s None [] Lit n q = fresh_end (e.light s) (e.ended (e.light s))
  fresh_more s None [] (Got h) n q = fresh_end (e.step s h) (e.ended (e.step s h))
  fresh_more s None [] Lost n q = refl
  fresh_more s None (Lit ∷ hs) k n q = fresh_more (e.light s) (e.ended (e.light s)) hs k n q
  fresh_more s None (Got h ∷ hs) k n q = fresh_more (e.step s h) (e.ended (e.step s h)) hs k n q
  fresh_more s None (Lost ∷ hs) k n q = absurd (let clash : ◌≡◌ {A = Followed X} (Told (Err faults.FieldLost) hs) (polls.Asks n) = q in cc)

  -- what it has told well, it has come to
  pub came : (s : S) (o : Option (Result X PollFault)) (hs : List Note) (x : X) → e.ended s ≡ o → followed e s o hs ≡ Told (Ok x) [] → Ok x ≡ answer_of e (progress e s hs)
  came s (Some r) hs x is q =
      let same : r ≡ Ok x = cc in
      let none : hs ≡ [] = cc in
      subst (λ ks. Ok x ≡ answer_of e (progress e s ks)) (sym none) (sym (ap or_memory is ∙ same))
  came s None [] x is q = absurd (let clash : ◌≡◌ {A = Followed X} (polls.Asks (e.next s)) (Told (Ok x) []) = q in cc)
  came s None (Lit ∷ hs) x is q = came (e.light s) (e.ended (e.light s)) hs x refl q
  came s None (Got h ∷ hs) x is q = came (e.step s h) (e.ended (e.step s h)) hs x refl q
  came s None (Lost ∷ hs) x is q = absurd (let clash : ◌≡◌ {A = Followed X} (Told (Err faults.FieldLost) hs) (Told (Ok x) []) = q in cc)

  module _ {W : Type 0} (m : AirModel W) where
    -- From some moment on only this was asked, behind some notes.
    pub record Polls (start b : Moment W) (hs : List Note) : Type 0 where
      pub going : Going m (enquiring e) start b hs
      pub fresh : IsFresh (follows e hs)

    pub poll_turn : Closes e → (start b c : Moment W) (hs : List Note) (f : Signal) (h : Option Heard) (n : Next) → Polls start b hs → follows e hs ≡ polls.Asks n → n ≡ Asks f → TurnsTo m b c f h
        → Polls start c (hs ++ note h ∷ [])
    poll_turn closes start b c hs f h n p at due turn = record {
      going = going_turn m (enquiring e) start b c f h hs p.going (sym (asks_same e closes hs) ∙ ap asks at ∙ due) turn;
      fresh = fresh_more e.start (e.ended e.start) hs (note h) n at;
    }

    pub poll_lit : Closes e → (start b c : Moment W) (hs : List Note) (n : Next) → Polls start b hs → follows e hs ≡ polls.Asks n → n ≡ LightUp → c ≡ with_events m b (Reset ∷ [])
        → Polls start c (hs ++ Lit ∷ [])
    poll_lit closes start b c hs n p at due reset = record {
      going = going_reset m (enquiring e) start b c hs p.going (sym (asks_same e closes hs) ∙ ap asks at ∙ due) reset;
      fresh = fresh_more e.start (e.ended e.start) hs Lit n at;
    }

    pub poll_start : (a : Moment W) → Polls a a []
    poll_start a = record { going = going_start m (enquiring e) a; fresh = fresh_end e.start (e.ended e.start) }
