-- A client's call over the replies of a log: what it told and heard is what stands there, one after the other.
use Rattle.std.proofs.Common.{◌≡◌, ◌≤◌, ◌⊎◌, inl, inr, ℕ, ◌==◌, nat_le, if◌then◌else◌, List, [], ◌∷◌, ◌++◌, length, Bool, true, false, Option, Some, None, sym, ap, subst, ◌∙◌, refl, arith}
use Rattle.std.proofs.lemmas.Bool.{le-leb}
use Rattle.nfc_base.specs.Choosing.{first_number}
use Rattle.nfc_base.specs.Links.{CarrierView, FarStep, Stepped, Stopped, FarMoved, FarLeft}
use Rattle.nfc_base.specs.declared.carrier.EndCause.{EndCause}
use Rattle.nfc_base.specs.declared.carrier.EndCause.TheVariants as cause
use Rattle.snep_core.specs.declared.fault.SnepFault.{SnepFault}
use Rattle.snep_core.specs.declared.fault.SnepFault.TheVariants as faults
use Rattle.snep_core.specs.Calling.{IsCut, Talks, fault_of}
use Rattle.snep_core.specs.Talk.{EndState, Step, Goes, Ends, GivesUp, ComesTo, Working, numbers_behind, payload, ready, replied}
use Rattle.zevlodek_c.specs.declared.far.LogFar.{LogFar}
use Rattle.zevlodek_c.specs.Entries.{Entry, SpellsEntries, SpellsEntry, a_reply, takes_all}
use Rattle.zevlodek_c.specs.Log.{counted}
use Rattle.zevlodek_c.specs.Near.{NearNow, Under, near_takes, settles}
use Rattle.zevlodek_c.specs.NearReplaying.{IsFresh, NoReply, Reaches, Replies, SpellsReply, Stops}
use Rattle.zevlodek_c.proofs.Chains.{IsLeft, left_behind}
use Rattle.zevlodek_c.proofs.EntryLogs.{less_entry, none_takes, one_entry}

pub stays : (n : NearNow) (log : List ℕ) → Reaches n log n log
stays n log = record { shorter = omega arith; whole = λ w. w; goes = λ es s. (es, s, refl) }

pub onward : (a b c : NearNow) (l m n : List ℕ) → Reaches a l b m → Reaches b m c n → Reaches a l c n
onward a b c l m n x y = record {
  shorter = omega (arith, x.shorter, y.shorter);
  whole = λ w. x.whole (y.whole w);
  goes = λ es s.
      let one : (more : List Entry) × SpellsEntries more m × (takes_all near_takes (Some a) es ≡ takes_all near_takes (Some b) more) = x.goes es s in
      let two : (more : List Entry) × SpellsEntries more n × (takes_all near_takes (Some b) one.0 ≡ takes_all near_takes (Some c) more) = y.goes one.0 one.1 in
      (two.0, two.1, one.2 ∙ two.2);
}

-- what an end takes that begins bytes is behind it
pub one_on : (a b : NearNow) (e : Entry) (log rest : List ℕ) → SpellsEntry e log rest → near_takes a e ≡ Some b → Reaches a log b rest
one_on a b e log rest spelled took = record {
  shorter = omega (arith, less_entry e log rest spelled);
  whole = λ w. (e ∷ w.0, (rest, spelled, w.1));
  goes = λ es s.
      let left : IsLeft SpellsEntry e rest es = left_behind SpellsEntry less_entry one_entry e log rest spelled es s in
      (left.more, left.spelled, ap (λ (xs : List Entry). takes_all near_takes (Some a) xs) left.all_are ∙ ap (λ (o : Option NearNow). takes_all near_takes o left.more) took);
}

takes_reply : (w : Working) (reply : List ℕ) → length reply ≤ 2178
    → near_takes (Under w) (record { kind = a_reply; content = reply }) ≡ Some (settles (replied 0 w reply))
takes_reply w reply fits = ap (λ (b : Bool). if b then Some (settles (replied 0 w reply)) else None) (le-leb (length reply) 2178 fits)

one_reply : (w : Working) (reply log rest : List ℕ) → SpellsReply reply log rest → Reaches (Under w) log (settles (replied 0 w reply)) rest
one_reply w reply log rest s =
    one_on (Under w) (settles (replied 0 w reply)) (record { kind = a_reply; content = reply }) log rest s.spelled (takes_reply w reply s.fits)

-- a call over the replies of a log
pub record Walks (from to : Step) (f g : LogFar) : Type 0 where
  pub asked : g.asked ≡ f.asked
  pub odd : g.odd ≡ f.odd
  pub reaches : Reaches (settles from) f.left.now (settles to) g.left.now

pub walk : (did : List FarStep) (from to : Step) (f g : LogFar) → ComesTo [] from did to → FarMoved Replies Stops did f g → Walks from to f g
walk [] from to f g told moved =
    subst (λ (t : Step). Walks from t f g) (sym told)
    (subst (λ (h : LogFar). Walks from from f h) (sym moved) (record { asked = refl; odd = refl; reaches = stays (settles from) f.left.now }))
walk (Stepped out reply ∷ did) (Goes w) to f g (e, told) (mid, step, moved) =
    let rest : Walks (replied 0 w reply) to mid g = walk did (replied 0 w reply) to mid g told moved in
    record {
      asked = rest.asked ∙ step.asked;
      odd = rest.odd ∙ step.odd;
      reaches = onward (Under w) (settles (replied 0 w reply)) (settles to) f.left.now mid.left.now g.left.now
          (one_reply w reply f.left.now mid.left.now step.spelled) rest.reaches;
    }
walk (Stepped out reply ∷ did) (Ends jobs l) to f g told moved = absurd told
walk (Stepped out reply ∷ did) (GivesUp u) to f g told moved = absurd told
walk (Stopped out ∷ did) (Goes w) to f g told moved = absurd told
walk (Stopped out ∷ did) (Ends jobs l) to f g told moved = absurd told
walk (Stopped out ∷ did) (GivesUp u) to f g told moved = absurd told

pub talked : {C : Type 0} (seen : C → CarrierView) (swaps : C → List ℕ → List FarStep → C → Type 0) (from to : Step) (link now : C) (f g : LogFar)
    → Talks seen swaps Replies Stops [] from link f to now g → Walks from to f g
talked seen swaps from to link now f g t = walk t.did from to f g t.told t.far_moved

numbers_none : (did : List FarStep) → numbers_behind did [] ≡ []
numbers_none [] = refl
numbers_none (x ∷ did) = numbers_none did

-- where no number is left the payload has as many PDUs as fit
pub none_left : (did : List FarStep) → first_number (numbers_behind did []) ≡ 0
none_left did = ap first_number (numbers_none did)

-- the faults by which a call is cut off
abbrev pub is_cut : SnepFault → Bool
is_cut (faults.LinkEnded cause) = true
is_cut faults.Memory = true
is_cut _ = false

cut_by : (c : EndCause) → is_cut (fault_of c) ≡ true
cut_by cause.FieldLost = refl
cut_by cause.SixBad = refl
cut_by cause.Protocol = refl
cut_by cause.Memory = refl

-- where the far end is left as an exchange is cut off
pub record IsLeftAt (mid : LogFar) (out : List ℕ) (g : LogFar) : Type 0 where
  pub asked : (p : List ℕ) → g.asked ≡ Some p → (mid.left.now ≡ []) × (p ≡ out)
  pub odd : g.odd ≡ true → NoReply mid.left.now

no_some : (o : Option (List ℕ)) (p : List ℕ) → o ≡ None → o ≡ Some p → ⊥
no_some o p n s = absurd (cc)

no_true : (b : Bool) → b ≡ false → b ≡ true → ⊥
no_true b n s = absurd (cc)

unasked : (mid g : LogFar) (out : List ℕ) → IsFresh mid → g.asked ≡ mid.asked → g.odd ≡ mid.odd → IsLeftAt mid out g
unasked mid g out fresh a o = record {
  asked = λ p s. absurd (no_some g.asked p (a ∙ fresh.asked) s);
  odd = λ t. absurd (no_true g.odd (o ∙ fresh.odd) t);
}

untouched : (mid g : LogFar) (out : List ℕ) → IsFresh mid → g ≡ mid → IsLeftAt mid out g
untouched mid g out fresh e = unasked mid g out fresh (ap (λ (h : LogFar). h.asked) e) (ap (λ (h : LogFar). h.odd) e)

kept_so : (mid g : LogFar) (out p : List ℕ) → IsFresh mid → (mid.asked ≡ Some p) ⊎ ((mid.left.now ≡ []) × (p ≡ out)) → (mid.left.now ≡ []) × (p ≡ out)
kept_so mid g out p fresh (inl s) = absurd (no_some mid.asked p fresh.asked s)
kept_so mid g out p fresh (inr k) = k

odd_so : (mid : LogFar) → IsFresh mid → (mid.odd ≡ true) ⊎ NoReply mid.left.now → NoReply mid.left.now
odd_so mid fresh (inl t) = absurd (no_true mid.odd fresh.odd t)
odd_so mid fresh (inr n) = n

stopped_there : (mid g : LogFar) (out : List ℕ) → IsFresh mid → Stops mid out g → IsLeftAt mid out g
stopped_there mid g out fresh s = record {
  asked = λ p e. kept_so mid g out p fresh (s.asked p e);
  odd = λ t. odd_so mid fresh (s.odd t);
}

far_left : (answered : Bool) (c : EndCause) (old new : List (List ℕ)) (out : List ℕ) (mid g : LogFar) → IsFresh mid
    → FarLeft Replies Stops answered c old new out mid g → IsLeftAt mid out g
far_left true c old new out mid g fresh ((reply, step), handed) = unasked mid g out fresh step.asked step.odd
far_left false c old new out mid g fresh (inl (same, handed)) = untouched mid g out fresh same
far_left false c old new out mid g fresh (inr (is, stops, handed)) = stopped_there mid g out fresh stops

pub record IsCutAt (mid : LogFar) (out : List ℕ) (e : SnepFault) (g : LogFar) : Type 0 where
  pub left : IsLeftAt mid out g
  pub fault : is_cut e ≡ true

pub cut : {C : Type 0} (seen : C → CarrierView) (swaps : C → List ℕ → List FarStep → C → Type 0) (w : Working) (link now : C) (mid g : LogFar)
    (e : SnepFault) (new : EndState) → IsFresh mid → IsCut seen swaps Replies Stops 0 (ready w).llc link mid e new now g
    → IsCutAt mid (payload 0 w) e g
cut seen swaps w link now mid g e new fresh (inl (inl r)) = record {
  left = untouched mid g (payload 0 w) fresh r.far_is;
  fault = ap is_cut r.fault;
}
cut seen swaps w link now mid g e new fresh (inl (inr o)) = record {
  left = untouched mid g (payload 0 w) fresh o.far_is;
  fault = ap is_cut o.fault ∙ cut_by o.why;
}
cut seen swaps w link now mid g e new fresh (inr (inl f)) = record {
  left = far_left f.why.answered f.why.cause (seen link).handed (seen now).handed (payload 0 w) mid g fresh f.swap.left;
  fault = ap is_cut f.fault ∙ cut_by f.why.cause;
}
cut seen swaps w link now mid g e new fresh (inr (inr u)) = record {
  left = unasked mid g (payload 0 w) fresh u.swap.step.asked u.swap.step.odd;
  fault = ap is_cut u.fault;
}

pub is_kind : (n m : ℕ) → (n == m) ≡ true → n ≡ m
is_kind n m h = grind arith

is_short : (n m : ℕ) → nat_le n m ≡ true → n ≤ m
is_short n m h = grind arith

by_kind : (kind fits : Bool) (v : Option NearNow) → (kind ≡ true → fits ≡ true → ⊥) → (if kind then (if fits then v else None) else None) ≡ None
by_kind true true v never = absurd (never refl refl)
by_kind true false v never = refl
by_kind false fits v never = refl

not_taken : (w : Working) (x : Entry) (log rest : List ℕ) → NoReply log → SpellsEntry x log rest → near_takes (Under w) x ≡ None
not_taken w x log rest bare s =
    by_kind (x.kind == a_reply) (nat_le (length x.content) 2178) (Some (settles (replied 0 w x.content)))
    (λ k f. bare.none x.content rest (record {
      spelled = record { bytes = subst (λ (n : ℕ). log ≡ n ∷ counted x.content ++ rest) (is_kind x.kind a_reply k) s.bytes; short = s.short };
      fits = is_short (length x.content) 2178 f;
    }))

-- a call that meets what is no reply takes no such log
pub no_reply : (w : Working) (log : List ℕ) → NoReply log → (es : List Entry) → SpellsEntries es log → takes_all near_takes (Some (Under w)) es ≡ None
no_reply w log bare [] e = absurd (bare.some e)
no_reply w log bare (x ∷ xs) (rest, s, t) =
    ap (λ (o : Option NearNow). takes_all near_takes o xs) (not_taken w x log rest bare s) ∙ none_takes near_takes xs
