-- A call's course turn by turn, beside that of the exchange that it has under way; and two courses that go on or end alike.
use Rattle.std.proofs.Common.{◌≡◌, List, [], ◌∷◌, refl, sym, ap, subst, ◌∙◌}
use Rattle.nfc_base.specs.Signal.{Signal}
use Rattle.air_core.specs.Conversation.{Note, Next, Over, Asks}
use Rattle.dep_link.specs.Asking.{Standing, Waits, Rests, Broken, Astray, due_at, noted}
use Rattle.link_calls.specs.Walk.{walk_carried, walk_due_at, walk_noted}
use Rattle.link_calls.specs.CallDue.{CallStanding, OnCall, by_client}
use Rattle.link_numbers.proofs.own.OwnTurns.{Along, Turn, heard_in, on}
use Rattle.link_numbers.proofs.own.OwnBegun.{BothDue, Closes, both_astray, both_broken, both_wait}
use Rattle.link_numbers.proofs.own.OwnPlaces.{Follows}

abbrev pub CallAlong : CallStanding → List Turn → Type 0
CallAlong c ts = Along (walk_noted by_client) walk_due_at c ts

abbrev pub call_past : CallStanding → List Note → CallStanding
call_past c ns = on (walk_noted by_client) walk_due_at c ns

-- something is due at both, or both are over and stand the same
pub data BothEnd (c d : CallStanding) : Type 0 where
  both_go : (f g : Signal) → walk_due_at c ≡ Asks f → walk_due_at d ≡ Asks g → BothEnd c d
  both_over : c ≡ d → walk_due_at c ≡ Over → BothEnd c d

-- these turns were due also there, and behind them both go on or end
pub record Alike (ts : List Turn) (c d : CallStanding) : Type 0 where
  pub due : CallAlong d ts
  pub ends : BothEnd (call_past c (heard_in ts)) (call_past d (heard_in ts))

pub not_due : (f : Signal) → Over ≡ Asks f → ⊥
not_due f e = cc

abbrev asked_or : Signal → Next → Signal
asked_or g (Asks f) = f
asked_or g _ = g

pub asks_one : (f g : Signal) → Asks f ≡ Asks g → f ≡ g
asks_one f g e = ap (asked_or f) e

-- a call that is over goes no further
pub over_alike : (ts : List Turn) (c : CallStanding) → walk_due_at c ≡ Over → CallAlong c ts → Alike ts c c
over_alike [] c e along = record { due = tt; ends = both_over refl e }
over_alike (t ∷ ts) c e along = absurd (not_due t.request (sym e ∙ along.0))

-- one turn more before them
pub turn_alike : (t : Turn) (ts : List Turn) (c d : CallStanding) → walk_due_at d ≡ Asks t.request → Alike ts (walk_noted by_client c t.heard) (walk_noted by_client d t.heard)
    → Alike (t ∷ ts) c d
turn_alike t ts c d e h = record { due = (e, h.due); ends = h.ends }

-- what was due of a call was due of its exchange, until the reply came
pub follows_of : (ts : List Turn) (w : OnCall) (s : Standing) → CallAlong (walk_carried by_client w s) ts → Follows s ts
follows_of [] w s along = tt
follows_of (t ∷ ts) w (Waits i f) along = (asks_one f t.request along.0, follows_of ts w (noted (Waits i f) t.heard) along.1)
follows_of (t ∷ ts) w (Rests i reply) along = tt
follows_of (t ∷ ts) w (Broken cause) along = absurd (not_due t.request along.0)
follows_of (t ∷ ts) w Astray along = absurd (not_due t.request along.0)

-- what is due of an exchange is due of its call, and the call stands by it
along_of : (ts : List Turn) (w : OnCall) (s : Standing) → Along noted due_at s ts → CallAlong (walk_carried by_client w s) ts
along_of [] w s along = tt
along_of (t ∷ ts) w (Waits i f) along = (along.0, along_of ts w (noted (Waits i f) t.heard) along.1)
along_of (t ∷ ts) w (Rests i reply) along = absurd (not_due t.request along.0)
along_of (t ∷ ts) w (Broken cause) along = absurd (not_due t.request along.0)
along_of (t ∷ ts) w Astray along = absurd (not_due t.request along.0)

past_of : (ts : List Turn) (w : OnCall) (s : Standing) → Along noted due_at s ts
    → call_past (walk_carried by_client w s) (heard_in ts) ≡ walk_carried by_client w (on noted due_at s (heard_in ts))
past_of [] w s along = refl
past_of (t ∷ ts) w (Waits i f) along = past_of ts w (noted (Waits i f) t.heard) along.1
past_of (t ∷ ts) w (Rests i reply) along = absurd (not_due t.request along.0)
past_of (t ∷ ts) w (Broken cause) along = absurd (not_due t.request along.0)
past_of (t ∷ ts) w Astray along = absurd (not_due t.request along.0)

due_carried : (w : OnCall) (s : Standing) (f : Signal) → due_at s ≡ Asks f → walk_due_at (walk_carried by_client w s) ≡ Asks f
due_carried w (Waits i g) f e = e
due_carried w (Rests i reply) f e = absurd (not_due f e)
due_carried w (Broken cause) f e = absurd (not_due f e)
due_carried w Astray f e = absurd (not_due f e)

-- two exchanges at which the same was due, as those of calls
pub calls_alike : (ts : List Turn) (w v : OnCall) (s q : Standing) → BothDue s q ts → Alike ts (walk_carried by_client w s) (walk_carried by_client v q)
calls_alike ts w v s q b = record {
  due = along_of ts v q b.second;
  ends = subst (λ c. BothEnd c (call_past (walk_carried by_client v q) (heard_in ts))) (sym (past_of ts w s b.first))
      (subst (λ d. BothEnd (walk_carried by_client w s_end) d) (sym (past_of ts v q b.second)) (by b.ends));
}
  where
    s_end : Standing
    s_end = on noted due_at s (heard_in ts)

    q_end : Standing
    q_end = on noted due_at q (heard_in ts)

    by : Closes s_end q_end → BothEnd (walk_carried by_client w s_end) (walk_carried by_client v q_end)
    by (both_wait f g e k) = both_go f g (due_carried w s_end f e) (due_carried v q_end g k)
    by (both_broken cause e k) =
        both_over (ap (walk_carried by_client w) e ∙ sym (ap (walk_carried by_client v) k)) (ap (λ z. walk_due_at (walk_carried by_client w z)) e)
    by (both_astray e k) = both_over (ap (walk_carried by_client w) e ∙ sym (ap (walk_carried by_client v) k)) (ap (λ z. walk_due_at (walk_carried by_client w z)) e)
