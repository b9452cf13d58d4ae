-- Waits one after another: laws of `stand` and of the requests that are due.
use Rattle.std.proofs.Common.{◌≡◌, ℕ, suc, List, [], ◌∷◌, ◌++◌, Bool, true, false, if◌then◌else◌, nat_lt, sym, ◌∙◌, ap}
use Rattle.std.proofs.Common.{subst}
use Rattle.nfc_base.specs.Signal.{Signal}
use Rattle.nfc_base.specs.Trace.{is_bad_in_wait}
use Rattle.nfc_base.specs.declared.tag_link.AskFault.TheVariants.{SixBad}
use Rattle.air_core.specs.Conversation.{AirModel, Moment, Note, Lit, Got, Lost, Next, Over, IsDemand, Going}
use Rattle.air_core.specs.Waits.{Asking, Broken, stand, due_at, waits_from, waits_next}
use Rattle.air_core.specs.laws.Turning.{going_then}

stand_kinds : (bad : ℕ) (c : Signal) (cs : List Signal) (hs : List Note) (b : ℕ) (left ys : List Signal)
    (ns : List Note) (v w : Bool)
    → (stand 0 cs hs ≡ Asking b left → stand 0 (cs ++ ys) (hs ++ ns) ≡ stand b (left ++ ys) ns)
    → (stand (suc bad) (c ∷ cs) hs ≡ Asking b left → stand (suc bad) (c ∷ (cs ++ ys)) (hs ++ ns)
    ≡ stand b (left ++ ys) ns)
    → (if v then (if w then stand (suc bad) (c ∷ cs) hs else Broken SixBad (c ∷ cs)) else stand 0 cs hs) ≡ Asking b left
    → (if v then (if w then stand (suc bad) (c ∷ (cs ++ ys)) (hs ++ ns) else Broken SixBad (c ∷ (cs ++ ys)))
    else stand 0 (cs ++ ys) (hs ++ ns)) ≡ stand b (left ++ ys) ns
stand_kinds bad c cs hs b left ys ns false w whole more e = whole e
stand_kinds bad c cs hs b left ys ns true true whole more e = more e
stand_kinds bad c cs hs b left ys ns true false whole more e = absurd cc

-- What was asked before, and what is asked from there on.
pub stand_on : (bad : ℕ) (xs : List Signal) (hs : List Note) (b : ℕ) (left : List Signal)
    → stand bad xs hs ≡ Asking b left
    → (ys : List Signal) (ns : List Note) → stand bad (xs ++ ys) (hs ++ ns) ≡ stand b (left ++ ys) ns
stand_on bad xs [] b left e ys ns =
    let same : bad ≡ b = cc in
    let rest : xs ≡ left = cc in
    ap (λ i. stand i (xs ++ ys) ns) same ∙ ap (λ zs. stand b (zs ++ ys) ns) rest
stand_on bad [] (n ∷ hs) b left e ys ns = absurd cc
stand_on bad (c ∷ cs) (Lit ∷ hs) b left e ys ns = absurd cc
stand_on bad (c ∷ cs) (Lost ∷ hs) b left e ys ns = absurd cc
stand_on bad (c ∷ cs) (Got h ∷ hs) b left e ys ns =
    stand_kinds bad c cs hs b left ys ns (is_bad_in_wait h) (nat_lt bad 5) (λ h. stand_on 0 cs hs b left h ys ns)
    (λ h. stand_on (suc bad) (c ∷ cs) hs b left h ys ns) e

none_due : {A : Type 0} (n : Next) → Over ≡ n → IsDemand n → A
none_due n e d = absurd (let P : Next → Type 0 = IsDemand in subst P (sym e) d)

due_kinds : (bad : ℕ) (c : Signal) (cs ys : List Signal) (ns : List Note) (n : Next) (v w : Bool) → IsDemand n
    → (waits_from 0 cs ns ≡ n → waits_from 0 (cs ++ ys) ns ≡ n)
    → (waits_from (suc bad) (c ∷ cs) ns ≡ n → waits_from (suc bad) (c ∷ (cs ++ ys)) ns ≡ n)
    → due_at (if v then (if w then stand (suc bad) (c ∷ cs) ns else Broken SixBad (c ∷ cs)) else stand 0 cs ns) ≡ n
    → due_at (if v then (if w then stand (suc bad) (c ∷ (cs ++ ys)) ns else Broken SixBad (c ∷ (cs ++ ys)))
    else stand 0 (cs ++ ys) ns) ≡ n
due_kinds bad c cs ys ns n false w d whole more e = whole e
due_kinds bad c cs ys ns n true true d whole more e = more e
due_kinds bad c cs ys ns n true false d whole more e = none_due n e d

-- What is due while some commands are asked is due while more are asked behind them.
pub front_due : (bad : ℕ) (xs ys : List Signal) (ns : List Note) (n : Next) → waits_from bad xs ns ≡ n → IsDemand n
    → waits_from bad (xs ++ ys) ns ≡ n
front_due bad [] ys [] n e d = none_due n e d
front_due bad (c ∷ cs) ys [] n e d = e
front_due bad [] ys (h ∷ ns) n e d = none_due n e d
front_due bad (c ∷ cs) ys (Lit ∷ ns) n e d = none_due n e d
front_due bad (c ∷ cs) ys (Lost ∷ ns) n e d = none_due n e d
front_due bad (c ∷ cs) ys (Got h ∷ ns) n e d =
    due_kinds bad c cs ys ns n (is_bad_in_wait h) (nat_lt bad 5) d (λ h. front_due 0 cs ys ns n h d)
    (λ h. front_due (suc bad) (c ∷ cs) ys ns n h d) e

module _ {W : Type 0} (m : AirModel W) where
  -- Commands that all were answered, and then others.
  pub waits_then : (a b c : Moment W) (xs ys : List Signal) (hs ks : List Note) → stand 0 xs hs ≡ Asking 0 []
      → Going m (waits_next xs) a b hs → Going m (waits_next ys) b c ks → Going m (waits_next (xs ++ ys)) a c (hs ++ ks)
  waits_then a b c xs ys hs ks done g k =
      going_then m (waits_next (xs ++ ys)) (waits_next xs) (waits_next ys) a b c hs ks
      (λ ns n e d. front_due 0 xs ys ns n e d)
      (λ ns. ap due_at (stand_on 0 xs hs 0 [] done ys ns)) g k
