-- What a listener with a target does in light, by the target's table; in the dark it does nothing. What is handed over
-- has at most 2,178 bytes, and each answer is an NFC-A frame.
use Rattle.std.proofs.Common.{◌≡◌, ◌≤◌, ℕ, nat_lt, List, [], length, drop, Bool, true, false, if◌then◌else◌, Option}
use Rattle.std.proofs.Common.{Some, None, unwrap_or, refl, sym, ap, subst}
use Rattle.nfc_base.specs.Signal.{Signal}
use Rattle.nfc_base.specs.declared.frame.Tech.{Tech}
use Rattle.nfc_base.specs.declared.frame.Tech.TheVariants.{A}
use Rattle.nfc_base.specs.Far.{FarUse, Untouched, Hands, FarDid}
use Rattle.arrayvec.specs.ArrayVec.{ArrayVec}
use Rattle.dep_pdu.specs.declared.frame.DepFrame.{DepFrame}
use Rattle.dep_pdu.specs.declared.frame.DepFrame.TheVariants.{Extend}
use Rattle.dep_link.specs.Sizes.{limit}
use Rattle.dep_link.specs.Frames.{air_frame, spelled}
use Rattle.dep_link.specs.Target.{TargetState, TargetMove, Does, Stays, Answers, Begins, Delivers, Sleeps, Frees, grown}
use Rattle.dep_link.specs.Target.{heeded, obeyed, framed_does, target_table, TargetTurn, replied, reply_frame}
use Rattle.dep_link.specs.Target.{first_piece}
use Rattle.dep_link.specs.declared.target.TargetStep.{TargetStep}
use Rattle.dep_link.specs.declared.target.TargetStep.TheVariants as steps
use Rattle.dep_link.specs.Answering.{reply_for}
use Rattle.dep_link.specs.Peers.{target_use, answered_with, left_with}
use Rattle.dep_link.specs.laws.Moves.{IsKept, SameSelf, same_self, of_heeded}

-- what is delivered has at most so many bytes
abbrev IsShortMove : TargetMove → Type 0
IsShortMove m = (xs : List ℕ) → m.does ≡ Delivers xs → length xs ≤ limit

kept_short : (t : TargetState) (m : TargetMove) → IsKept m.does → SameSelf t m.state → IsShortMove m
kept_short t m k s = λ xs e. absurd (subst IsKept e k)

abbrev delivered : Does → List ℕ → List ℕ
delivered (Delivers xs) ys = xs
delivered _ ys = ys

grown_short : (t : TargetState) (more : Bool) (pni : ℕ) (xs : List ℕ) → length xs ≤ limit
    → IsShortMove (grown t more pni xs)
grown_short t true pni xs l = λ ys e. absurd (cc)
grown_short t false pni xs l = λ ys e. subst (λ zs. length zs ≤ limit) (ap (λ d. delivered d []) e) l

handed_what : (d : Does) (xs : List ℕ) → target_use (framed_does d) ≡ Hands xs → d ≡ Delivers xs
handed_what Stays xs e = absurd (cc)
handed_what (Answers v) xs e = absurd (cc)
handed_what (Begins g v) xs e = absurd (cc)
handed_what (Delivers ys) xs e = ap Delivers (let f : Hands ys ≡ Hands xs = e in cc)
handed_what (Sleeps v) xs e = absurd (cc)
handed_what (Frees v) xs e = absurd (cc)

obeyed_short : (t : TargetState) (o : Option DepFrame) (xs : List ℕ) → target_use (obeyed t o).does ≡ Hands xs
    → length xs ≤ limit
obeyed_short t None xs e = absurd (cc)
obeyed_short t (Some v) xs e =
    of_heeded t IsShortMove (kept_short t) (grown_short t) v xs (handed_what (heeded t v).does xs e)

pub handed_short : (t : TargetState) (f : Signal) (xs : List ℕ) → target_use (target_table t f).does ≡ Hands xs
    → length xs ≤ 2178
handed_short t f xs e = obeyed_short t (spelled f) xs e

abbrev tech_in : Option Signal → Tech
tech_in None = A
tech_in (Some f) = f.tech

framed_tech : (u : TargetState) (d : Does) (r : List ℕ) (g : Signal) → answered_with u r (framed_does d) ≡ Some g
    → g.tech ≡ A
framed_tech u Stays r g e = absurd (cc)
framed_tech u (Answers v) r g e = sym (ap (λ (o : Option Signal). tech_in o) e)
framed_tech u (Begins general v) r g e = sym (ap (λ (o : Option Signal). tech_in o) e)
framed_tech u (Delivers xs) r g e = sym (ap (λ (o : Option Signal). tech_in o) e)
framed_tech u (Sleeps v) r g e = sym (ap (λ (o : Option Signal). tech_in o) e)
framed_tech u (Frees v) r g e = sym (ap (λ (o : Option Signal). tech_in o) e)

obeyed_tech : (t : TargetState) (o : Option DepFrame) (r : List ℕ) (g : Signal)
    → answered_with (obeyed t o).state r (obeyed t o).does ≡ Some g → g.tech ≡ A
obeyed_tech t None r g e = absurd (cc)
obeyed_tech t (Some v) r g e = framed_tech (heeded t v).state (heeded t v).does r g e

pub answered_tech : (t : TargetState) (f : Signal) (r : List ℕ) (g : Signal)
    → answered_with (target_table t f).state r (target_table t f).does ≡ Some g → g.tech ≡ A
answered_tech t f r g e = obeyed_tech t (spelled f) r g e

-- what a listener asks of its far end, what it answers, and what its target is then, where the far end replies this
abbrev pub asked_in : Bool → TargetState → Signal → FarUse
asked_in lit t f = if lit then target_use (target_table t f).does else Untouched

abbrev pub answered_in : Bool → TargetState → Signal → Option (List ℕ) → Option Signal
answered_in lit t f reply = if lit then answered_with (target_table t f).state (unwrap_or reply [])
    (target_table t f).does else None

abbrev pub left_in : Bool → TargetState → Signal → Option (List ℕ) → TargetState
left_in lit t f reply = if lit then left_with (target_table t f).state (unwrap_or reply []) (target_table t f).does
    else t

pub asked_short : (lit : Bool) (t : TargetState) (f : Signal) (xs : List ℕ) → asked_in lit t f ≡ Hands xs
    → length xs ≤ 2178
asked_short true t f xs e = handed_short t f xs e
asked_short false t f xs e = absurd (cc)

pub told_tech : (lit : Bool) (t : TargetState) (f : Signal) (reply : Option (List ℕ)) (g : Signal)
    → answered_in lit t f reply ≡ Some g → g.tech ≡ A
told_tech true t f reply g e = answered_tech t f (unwrap_or reply []) g e
told_tech false t f reply g e = absurd (cc)

-- in light a payload is delivered, and this is the far end's reply
pub delivers_step : {F : Type 0} (restarts : F → List ℕ → F → Type 0) (obeys : F → List ℕ → List ℕ → F → Type 0)
    (lit : Bool) (t u : TargetState) (f : Signal) (payload : ArrayVec ℕ) (r : List ℕ) (far after : F) → lit ≡ true
    → target_table t f ≡ record { state = u; does = steps.Deliver payload } → obeys far payload.items r after
    → length r ≤ 2178
    → FarDid restarts obeys (asked_in lit t f) far (Some r) after
    × (Some (air_frame (reply_frame u r)) ≡ answered_in lit t f (Some r)) × (replied u r ≡ left_in lit t f (Some r))
delivers_step restarts obeys true t u f payload r far after on e s l = (
  subst (λ w. FarDid restarts obeys w far (Some r) after) (sym (ap (λ (m : TargetTurn). target_use m.does) e))
      (r, s, l, refl),
  sym (ap (λ (m : TargetTurn). answered_with m.state r m.does) e),
  sym (ap (λ (m : TargetTurn). left_with m.state r m.does) e),
)
delivers_step restarts obeys false t u f payload r far after on e s l = absurd (cc)

-- a target stays who it is
grown_same : (t : TargetState) (more : Bool) (pni : ℕ) (xs : List ℕ) → SameSelf t (grown t more pni xs).state
grown_same t true pni xs = record { named = refl; code = refl; says = refl; asks = refl; longer = refl }
grown_same t false pni xs = record { named = refl; code = refl; says = refl; asks = refl; longer = refl }

pub obeyed_same : (t : TargetState) (o : Option DepFrame) → SameSelf t (obeyed t o).state
obeyed_same t None = same_self t
obeyed_same t (Some v) = of_heeded t (λ m. SameSelf t m.state) (λ m k s. s) (λ more pni xs l. grown_same t more pni xs)
    v

pub then_same : (t u : TargetState) (r : List ℕ) (d : TargetStep) → SameSelf t u → SameSelf t (left_with u r d)
then_same t u r steps.Quiet s = s
then_same t u r (steps.Reply f) s = s
then_same t u r (steps.Restart general f) s = s
then_same t u r (steps.Deliver payload) s = go (nat_lt 0 u.busy)
  where
    go : (b : Bool)
        → SameSelf t (if b then record u {
          last = Some (Extend true u.times);
          left = r;
          unsent = true;
          due = u.busy;
          followed = false;
        } else record u {
          last = Some (first_piece u r);
          left = drop u.most r;
          unsent =
              nat_lt u.most (length r);
          due = 0;
          followed = false;
        })
    go true = record { named = s.named; code = s.code; says = s.says; asks = s.asks; longer = s.longer }
    go false = record { named = s.named; code = s.code; says = s.says; asks = s.asks; longer = s.longer }
then_same t u r (steps.Asleep f) s = s
then_same t u r (steps.Released f) s = s

pub left_same : (lit : Bool) (t : TargetState) (f : Signal) (reply : Option (List ℕ))
    → SameSelf t (left_in lit t f reply)
left_same true t f reply = then_same t (target_table t f).state (unwrap_or reply []) (target_table t f).does
    (obeyed_same t (spelled f))
left_same false t f reply = same_self t

-- the reply counts where a payload is delivered alone
says_reply : (u : TargetState) (d : TargetStep) (r : List ℕ)
    → answered_with u (unwrap_or (reply_for r (target_use d)) []) d ≡ answered_with u r d
says_reply u steps.Quiet r = refl
says_reply u (steps.Reply f) r = refl
says_reply u (steps.Restart general f) r = refl
says_reply u (steps.Deliver payload) r = refl
says_reply u (steps.Asleep f) r = refl
says_reply u (steps.Released f) r = refl

leaves_reply : (u : TargetState) (d : TargetStep) (r : List ℕ)
    → left_with u (unwrap_or (reply_for r (target_use d)) []) d ≡ left_with u r d
leaves_reply u steps.Quiet r = refl
leaves_reply u (steps.Reply f) r = refl
leaves_reply u (steps.Restart general f) r = refl
leaves_reply u (steps.Deliver payload) r = refl
leaves_reply u (steps.Asleep f) r = refl
leaves_reply u (steps.Released f) r = refl

-- in light a listener does what the target's table says
pub record DoesTable (lit : Bool) (t : TargetState) (f : Signal) (r : List ℕ) : Type 0 where
  pub asks : asked_in lit t f ≡ target_use (target_table t f).does
  pub answer : answered_in lit t f (reply_for r (asked_in lit t f))
      ≡ answered_with (target_table t f).state r (target_table t f).does
  pub target_is : left_in lit t f (reply_for r (asked_in lit t f))
      ≡ left_with (target_table t f).state r (target_table t f).does

pub does_table : (lit : Bool) (t : TargetState) (f : Signal) (r : List ℕ) → lit ≡ true → DoesTable lit t f r
does_table true t f r e = record {
  asks = refl;
  answer = says_reply (target_table t f).state (target_table t f).does r;
  target_is = leaves_reply (target_table t f).state (target_table t f).does r;
}
does_table false t f r e = absurd (cc)
