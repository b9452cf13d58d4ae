-- The numbers that a call's own frames show are as good as the true ones, whatever stands behind them: the same is due by them, and what the call
-- comes to is the same. And so they are for a closing.
use Rattle.std.proofs.Common.{◌≡◌, ◌⊎◌, inl, inr, ℕ, List, [], ◌∷◌, ◌++◌, append_assoc, refl, sym, ap, subst, ◌∙◌}
use Rattle.nfc_base.specs.Signal.{Signal}
use Rattle.nfc_base.specs.declared.event.Event.{Event}
use Rattle.air_core.specs.Conversation.{Note, Next, LightUp, Over, Asks, EachDue}
use Rattle.air_core.specs.laws.Turning.{due_weaker}
use Rattle.dep_link.specs.Initiator.{InitState}
use Rattle.dep_link.specs.Asking.{Standing, Waits, Rests, Broken, Astray, due_at}
use Rattle.snep_core.specs.Talk.{Step}
use Rattle.link_calls.specs.Walk.{Carries, Comes, BrokenBy, Strays, walk_due_at, walk_noted}
use Rattle.link_calls.specs.CallDue.{CallStanding, by_client, call_at, call_due, call_on, call_stand}
use Rattle.link_calls.specs.ClosingDue.{Calls, ClosingStanding, Released, Releasing, closing_at, closing_due, closing_due_at, closing_noted, closing_on, closing_stand}
use Rattle.link_numbers.specs.OwnShows.{AtEnd, GoesAlike, IsWithin, OwnShows, OwnShowsClosing, Rested}
use Rattle.link_numbers.specs.Shown.{numbers, own_shown, requests_of}
use Rattle.link_numbers.proofs.own.OwnCuts.{at, cuts}
use Rattle.link_numbers.proofs.own.OwnTurns.{Along, Turn, asked_in, heard_in}
use Rattle.link_numbers.proofs.own.OwnAlike.{EndAlike, asked_more, both_go, both_over, end_self, go_alike, past}
use Rattle.link_numbers.proofs.own.CallTurns.{Alike, BothEnd, CallAlong, call_past}
use Rattle.link_numbers.proofs.own.CallTurns as ends
use Rattle.link_numbers.proofs.own.Own.{call_alike}

-- no field is lit by a call
waits_dark : (s : Standing) → due_at s ≡ LightUp → ⊥
waits_dark (Waits i f) e = cc
waits_dark (Rests i reply) e = cc
waits_dark (Broken cause) e = cc
waits_dark Astray e = cc

call_dark : (c : CallStanding) → walk_due_at c ≡ LightUp → ⊥
call_dark (Carries w s) e = waits_dark s e
call_dark (Comes to i) e = cc
call_dark (BrokenBy cause) e = cc
call_dark Strays e = cc

-- one recursion is the other
call_is : (c : CallStanding) (ns : List Note) → call_on c ns ≡ call_past c ns
call_is c [] = refl
call_is c (n ∷ ns) = call_is (walk_noted by_client c n) ns

abbrev ClosingAlong : ClosingStanding → List Turn → Type 0
ClosingAlong c ts = Along closing_noted closing_due_at c ts

abbrev closing_past : ClosingStanding → List Note → ClosingStanding
closing_past c ns = past closing_noted closing_due_at c ns

closing_is : (c : ClosingStanding) (ns : List Note) → closing_on c ns ≡ closing_past c ns
closing_is c [] = refl
closing_is c (n ∷ ns) = closing_is (closing_noted c n) ns

closing_dark : (c : ClosingStanding) → closing_due_at c ≡ LightUp → ⊥
closing_dark (Calls c) e = call_dark c e
closing_dark (Releasing to) e = cc
closing_dark (Released to) e = cc

abbrev pub CallGoes : (List Note → CallStanding) → (List Note → CallStanding) → List Event → List Event → Type 0
CallGoes first second turned more = GoesAlike walk_due_at first second turned more

abbrev pub ClosingGoes : (List Note → ClosingStanding) → (List Note → ClosingStanding) → List Event → List Event → Type 0
ClosingGoes first second turned more = GoesAlike closing_due_at first second turned more

-- what stands pointwise the same goes alike
module _ {C : Type 0} (moves : C → Note → C) (due : C → Next) (first second third fourth : List Note → C)
    (one : (ns : List Note) → third ns ≡ first ns) (two : (ns : List Note) → fourth ns ≡ second ns) where
  each_same : (es : List Event) → EachDue (λ ns. due (third ns)) [] es → EachDue (λ ns. due (first ns)) [] es
  each_same es each = due_weaker (λ ns. due (first ns)) (λ ns. due (third ns)) (λ ns n e demand. ap due (sym (one ns)) ∙ e) [] es each

  go_same : (turned more : List Event) → GoesAlike due first second turned more → GoesAlike due third fourth turned more
  go_same turned more g = record {
    each = due_weaker (λ ns. due (fourth ns)) (λ ns. due (second ns)) (λ ns n e demand. ap due (two ns) ∙ e) [] turned g.each;
    asks = λ f x tail is e. ap due (two _) ∙ g.asks f x tail is (ap due (sym (one _)) ∙ e);
    over = λ e. ap due (two _) ∙ g.over (ap due (sym (one _)) ∙ e);
    over_back = λ e. ap due (one _) ∙ g.over_back (ap due (sym (two _)) ∙ e);
    stands = λ e. two _ ∙ g.stands (ap due (sym (one _)) ∙ e) ∙ sym (one _);
  }

-- a call's course goes on by what its requests are
closing_going : (c : CallStanding) (f : Signal) → walk_due_at c ≡ Asks f → closing_at c ≡ Calls c
closing_going (Carries w s) f e = refl
closing_going (Comes to i) f e = absurd (ends.not_due f e)
closing_going (BrokenBy cause) f e = absurd (ends.not_due f e)
closing_going Strays f e = absurd (ends.not_due f e)

-- A closing's turns are those of its call, and those behind it.
record Split (c : CallStanding) (ts : List Turn) : Type 0 where
  calls : List Turn
  later : List Turn
  all : ts ≡ calls ++ later
  call : CallAlong c calls
  rest : ClosingAlong (closing_at (call_past c (heard_in calls))) later
  over : (later ≡ []) ⊎ (walk_due_at (call_past c (heard_in calls)) ≡ Over)

split_more : (c : CallStanding) (t : Turn) (ts : List Turn) → walk_due_at c ≡ Asks t.request → Split (walk_noted by_client c t.heard) ts → Split c (t ∷ ts)
split_more c t ts e s = record {
  calls = t ∷ s.calls;
  later = s.later;
  all = ap (λ us. t ∷ us) s.all;
  call = (e, s.call);
  rest = s.rest;
  over = s.over;
}

split : (ts : List Turn) (c : CallStanding) → ClosingAlong (closing_at c) ts → Split c ts
split [] c along = record { calls = []; later = []; all = refl; call = tt; rest = tt; over = inl refl }
split (t ∷ ts) (Carries w s) along = split_more (Carries w s) t ts along.0 (split ts (walk_noted by_client (Carries w s) t.heard) along.1)
split (t ∷ ts) (Comes to i) along = record { calls = []; later = t ∷ ts; all = refl; call = tt; rest = along; over = inr refl }
split (t ∷ ts) (BrokenBy cause) along = absurd (ends.not_due t.request along.0)
split (t ∷ ts) Strays along = absurd (ends.not_due t.request along.0)

closing_joined : (calls later : List Turn) (d : CallStanding) → CallAlong d calls → ClosingAlong (closing_at (call_past d (heard_in calls))) later
    → ClosingAlong (closing_at d) (calls ++ later) × (closing_past (closing_at d) (heard_in (calls ++ later)) ≡ closing_past (closing_at (call_past d (heard_in calls))) (heard_in later))
closing_joined [] later d call rest = (rest, refl)
closing_joined (t ∷ calls) later d call rest =
    let more = closing_joined calls later (walk_noted by_client d t.heard) call.1 rest in
    let is : closing_at d ≡ Calls d = closing_going d t.request call.0 in
    subst (λ (q : ClosingStanding). ClosingAlong q (t ∷ calls ++ later)
    × (closing_past q (heard_in (t ∷ calls ++ later)) ≡ closing_past (closing_at (call_past d (heard_in (t ∷ calls)))) (heard_in later)))
    (sym is) ((call.0, more.0), more.1)

abbrev ClosingEnd : ClosingStanding → ClosingStanding → Type 0
ClosingEnd c d = EndAlike closing_noted closing_due_at c d

-- what follows a call in a closing follows it by both numbers
later_alike : (c d : CallStanding) (later : List Turn) → BothEnd c d → (later ≡ []) ⊎ (walk_due_at c ≡ Over) → ClosingAlong (closing_at c) later
    → ClosingAlong (closing_at d) later × ClosingEnd (closing_past (closing_at c) (heard_in later)) (closing_past (closing_at d) (heard_in later))
later_alike c d later (ends.both_over same e) over rest =
    subst (λ q. ClosingAlong (closing_at q) later × ClosingEnd (closing_past (closing_at c) (heard_in later)) (closing_past (closing_at q) (heard_in later))) same
    (rest, end_self closing_noted closing_due_at closing_dark (closing_past (closing_at c) (heard_in later)))
later_alike c d later (ends.both_go f g e k) (inr over) rest = absurd (ends.not_due f (sym over ∙ e))
later_alike c d later (ends.both_go f g e k) (inl none) rest =
    subst (λ us. ClosingAlong (closing_at d) us × ClosingEnd (closing_past (closing_at c) (heard_in us)) (closing_past (closing_at d) (heard_in us))) (sym none)
    (tt, both_go f g (ap closing_due_at (closing_going c f e) ∙ e) (ap closing_due_at (closing_going d g k) ∙ k))

module _ (ns : List ℕ) (from : Step) (i : InitState) (rested : Rested i.core) (within : AtEnd IsWithin from) (turned more : List Event) where
  abbrev pub shown : List ℕ
  shown = own_shown i.core.number (turned ++ more)

  abbrev true_call : CallStanding
  true_call = call_at ns from i

  abbrev shown_call : CallStanding
  shown_call = call_at shown from i

  by_turns : (ts : List Turn) (tail : List Signal) → asked_in ts ++ tail ≡ requests_of (turned ++ more) → CallAlong true_call ts → Alike ts true_call shown_call
  by_turns ts tail all along = call_alike tail ts from ns shown i rested within (ap (λ fs. numbers (cuts (at i.core.number []) fs)) (sym all)) along

  end_call : (c d : CallStanding) → BothEnd c d → EndAlike (walk_noted by_client) walk_due_at c d
  end_call c d (ends.both_go f g e k) = both_go f g e k
  end_call c d (ends.both_over same e) = both_over same e

  call_law : (ts : List Turn) (tail : List Signal) → asked_in ts ++ tail ≡ requests_of (turned ++ more) → CallAlong true_call ts
      → CallAlong shown_call ts × EndAlike (walk_noted by_client) walk_due_at (call_past true_call (heard_in ts)) (call_past shown_call (heard_in ts))
  call_law ts tail all along = let a = by_turns ts tail all along in (a.due, end_call _ _ a.ends)

  -- a call
  pub own_shown_call : EachDue (call_due ns from i) [] turned → CallGoes (call_stand ns from i) (call_stand shown from i) turned more
  own_shown_call each =
      go_same (walk_noted by_client) walk_due_at (call_past true_call) (call_past shown_call) (call_stand ns from i) (call_stand shown from i)
      (λ ms. call_is true_call ms) (λ ms. call_is shown_call ms) turned more
      (go_alike (walk_noted by_client) walk_due_at call_dark true_call shown_call turned more call_law
      (each_same (walk_noted by_client) walk_due_at (call_past true_call) (call_past shown_call) (call_stand ns from i) (call_stand shown from i)
      (λ ms. call_is true_call ms) (λ ms. call_is shown_call ms) turned each))

  -- a closing
  split_law : (ts : List Turn) (tail : List Signal) → asked_in ts ++ tail ≡ requests_of (turned ++ more) → Split true_call ts
      → ClosingAlong (closing_at shown_call) ts × ClosingEnd (closing_past (closing_at true_call) (heard_in ts)) (closing_past (closing_at shown_call) (heard_in ts))
  split_law ts tail all s =
      let asked : asked_in s.calls ++ (asked_in s.later ++ tail) ≡ requests_of (turned ++ more) =
      sym (append_assoc (asked_in s.calls) (asked_in s.later) tail) ∙ ap (λ fs. fs ++ tail) (sym (asked_more s.calls s.later)) ∙ ap (λ us. asked_in us ++ tail) (sym s.all) ∙ all in
      let a = by_turns s.calls (asked_in s.later ++ tail) asked s.call in
      let later = later_alike (call_past true_call (heard_in s.calls)) (call_past shown_call (heard_in s.calls)) s.later a.ends s.over s.rest in
      let one = closing_joined s.calls s.later true_call s.call s.rest in
      let two = closing_joined s.calls s.later shown_call a.due later.0 in
      subst (λ us. ClosingAlong (closing_at shown_call) us × ClosingEnd (closing_past (closing_at true_call) (heard_in us)) (closing_past (closing_at shown_call) (heard_in us))) (sym s.all)
      (two.0, subst (λ x. ClosingEnd x (closing_past (closing_at shown_call) (heard_in (s.calls ++ s.later)))) (sym one.1) (subst (ClosingEnd _) (sym two.1) later.1))

  closing_law : (ts : List Turn) (tail : List Signal) → asked_in ts ++ tail ≡ requests_of (turned ++ more) → ClosingAlong (closing_at true_call) ts
      → ClosingAlong (closing_at shown_call) ts × ClosingEnd (closing_past (closing_at true_call) (heard_in ts)) (closing_past (closing_at shown_call) (heard_in ts))
  closing_law ts tail all along = split_law ts tail all (split ts true_call along)

  pub own_shown_closing : EachDue (closing_due ns from i) [] turned → ClosingGoes (closing_stand ns from i) (closing_stand shown from i) turned more
  own_shown_closing each =
      go_same closing_noted closing_due_at (closing_past (closing_at true_call)) (closing_past (closing_at shown_call)) (closing_stand ns from i) (closing_stand shown from i)
      (λ ms. closing_is (closing_at true_call) ms) (λ ms. closing_is (closing_at shown_call) ms) turned more
      (go_alike closing_noted closing_due_at closing_dark (closing_at true_call) (closing_at shown_call) turned more closing_law
      (each_same closing_noted closing_due_at (closing_past (closing_at true_call)) (closing_past (closing_at shown_call)) (closing_stand ns from i) (closing_stand shown from i)
      (λ ms. closing_is (closing_at true_call) ms) (λ ms. closing_is (closing_at shown_call) ms) turned each))

pub own_shows : OwnShows
own_shows = λ ns from i turned more rested within each. own_shown_call ns from i rested within turned more each

pub own_shows_closing : OwnShowsClosing
own_shows_closing = λ ns from i turned more rested within each. own_shown_closing ns from i rested within turned more each
