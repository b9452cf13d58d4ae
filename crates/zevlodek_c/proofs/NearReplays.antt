-- A near end behind the calls and the replies of a log, call by call.
use Rattle.std.proofs.Common.{◌≡◌, ℕ, ◌==◌, if◌then◌else◌, List, [], length, Bool, true, false, Option, Some, None, Result, Ok, Err, ap, ◌∙◌, refl}
use Rattle.snep_core.specs.declared.fault.SnepFault.{SnepFault}
use Rattle.snep_core.specs.Talk.{EndState, Step, Working, payload}
use Rattle.zevlodek_c.specs.declared.far.LogFar.{LogFar}
use Rattle.zevlodek_c.specs.declared.near.CameOut.{CameOut}
use Rattle.zevlodek_c.specs.declared.near.Stand.TheVariants as stands
use Rattle.zevlodek_c.specs.Entries.{Entry, SpellsEntries, SpellsEntry, a_reply, takes_all}
use Rattle.zevlodek_c.specs.Near.{NearCall, NearNow, Rests, Under, Came, asked_now, asks, call_begins, call_of, hears, near_takes, settles}
use Rattle.zevlodek_c.specs.NearReplaying.{IsNearReplay, IsObeyed, IsStanding, IsStopped, Obeys, Reaches, StandsSo, now_of, stand_of, stopped_by}
use Rattle.zevlodek_c.proofs.Chains.{IsLeft, left_behind, none_begins, nothing_left}
use Rattle.zevlodek_c.proofs.EntryLogs.{less_entry, none_takes, one_entry}
use Rattle.zevlodek_c.proofs.NearWalks.{one_on, onward, is_kind}
use Rattle.zevlodek_c.proofs.Spelled.{no_bytes}

no_call_so : (content : List ℕ) (kind : ℕ) → kind ≡ 4 → call_of (record { kind = kind; content = content }) ≡ None
no_call_so content kind e = ap (λ (k : ℕ). call_of (record { kind = k; content = content })) e

not_some : (o : Option NearCall) (call : NearCall) → o ≡ None → o ≡ Some call → ⊥
not_some o call n s = absurd (cc)

asked_so : (l : EndState) (came : Option CameOut) (o : Option NearCall) (call : NearCall) → o ≡ Some call
    → asked_now (now_of l came) o ≡ Some (settles (call_begins l call))
asked_so l None o call e = ap (λ (x : Option NearCall). asks l x) e
asked_so l (Some out) o call e = ap (λ (x : Option NearCall). asks l x) e

unasked_so : (l : EndState) (came : Option CameOut) (o : Option NearCall) → o ≡ None → asked_now (now_of l came) o ≡ None
unasked_so l None o e = ap (λ (x : Option NearCall). asks l x) e
unasked_so l (Some out) o e = ap (λ (x : Option NearCall). asks l x) e

by_kind : (k : Bool) (x y : Option NearNow) → (k ≡ true → ⊥) → (if k then x else y) ≡ y
by_kind true x y never = absurd (never refl)
by_kind false x y never = refl

-- a call is taken where none is under way
takes_call : (l : EndState) (came : Option CameOut) (e : Entry) (call : NearCall) → call_of e ≡ Some call
    → near_takes (now_of l came) e ≡ Some (settles (call_begins l call))
takes_call l came e call is =
    by_kind (e.kind == a_reply) (hears (now_of l came) e.content) (asked_now (now_of l came) (call_of e))
    (λ k. not_some (call_of e) call (no_call_so e.content e.kind (is_kind e.kind 4 k)) is)
    ∙ asked_so l came (call_of e) call is

hears_none : (l : EndState) (came : Option CameOut) (reply : List ℕ) → hears (now_of l came) reply ≡ None
hears_none l None reply = refl
hears_none l (Some out) reply = refl

both_none : (k : Bool) (x y : Option NearNow) → x ≡ None → y ≡ None → (if k then x else y) ≡ None
both_none true x y a b = a
both_none false x y a b = b

-- what is no call isn't
takes_none : (l : EndState) (came : Option CameOut) (e : Entry) → call_of e ≡ None → near_takes (now_of l came) e ≡ None
takes_none l came e is =
    both_none (e.kind == a_reply) (hears (now_of l came) e.content) (asked_now (now_of l came) (call_of e))
    (hears_none l came e.content) (unasked_so l came (call_of e) is)

pub record OneCall (e : Entry) (old : EndState) (f : LogFar) (l : EndState) (g : LogFar) (r : Result CameOut SnepFault) : Type 0 where
  pub call : NearCall
  pub is : call_of e ≡ Some call
  pub obeys : Obeys (call_begins old call) f l g r

one_call : (o : Option NearCall) (e : Entry) → call_of e ≡ o → (old : EndState) (f : LogFar) (l : EndState) (g : LogFar) (r : Result CameOut SnepFault)
    → IsObeyed o old f l g r → OneCall e old f l g r
one_call None e is old f l g r x = absurd x
one_call (Some call) e is old f l g r x = record { call = call; is = is; obeys = x }

begun_by : (l0 : EndState) (log rest behind : List ℕ) (old : EndState) (came : Option CameOut) (e : Entry) (call : NearCall)
    → Reaches (Rests l0) log (now_of old came) rest → SpellsEntry e rest behind → call_of e ≡ Some call
    → Reaches (Rests l0) log (settles (call_begins old call)) behind
begun_by l0 log rest behind old came e call r s is =
    onward (Rests l0) (now_of old came) (settles (call_begins old call)) log rest behind r
    (one_on (now_of old came) (settles (call_begins old call)) e rest behind s (takes_call old came e call is))

-- one call more is over
pub called : (l0 : EndState) (log rest : List ℕ) (old : EndState) (came : Option CameOut) (e : Entry) (f : LogFar) (l : EndState) (g : LogFar) (out : CameOut)
    → Reaches (Rests l0) log (now_of old came) rest → SpellsEntry e rest f.left.now → IsObeyed (call_of e) old f l g (Ok out)
    → Reaches (Rests l0) log (now_of l (Some out)) g.left.now
called l0 log rest old came e f l g out r s x =
    let one : OneCall e old f l g (Ok out) = one_call (call_of e) e refl old f l g (Ok out) x in
    onward (Rests l0) (settles (call_begins old one.call)) (Came l out) log f.left.now g.left.now
    (begun_by l0 log rest f.left.now old came e one.call r s one.is) one.obeys.came

-- no end takes a log that goes on so
pub refuses : (l0 : EndState) (log rest behind : List ℕ) (old : EndState) (came : Option CameOut) (e : Entry)
    → Reaches (Rests l0) log (now_of old came) rest → SpellsEntry e rest behind → call_of e ≡ None
    → (es : List Entry) → SpellsEntries es log → takes_all near_takes (Some (Rests l0)) es ≡ None
refuses l0 log rest behind old came e r s is es t =
    let on : (more : List Entry) × SpellsEntries more rest × (takes_all near_takes (Some (Rests l0)) es ≡ takes_all near_takes (Some (now_of old came)) more) = r.goes es t in
    let left : IsLeft SpellsEntry e behind on.0 = left_behind SpellsEntry less_entry one_entry e rest behind s on.0 on.1 in
    on.2 ∙ (ap (λ (xs : List Entry). takes_all near_takes (Some (now_of old came)) xs) left.all_are
    ∙ (ap (λ (o : Option NearNow). takes_all near_takes o left.more) (takes_none old came e is) ∙ none_takes near_takes left.more))

-- nor one with bytes that spell nothing
pub ends_odd : (l0 : EndState) (log rest : List ℕ) (now : NearNow) → Reaches (Rests l0) log now rest → (length rest ≡ 0 → ⊥)
    → ((e : Entry) (behind : List ℕ) → SpellsEntry e rest behind → ⊥)
    → (es : List Entry) → SpellsEntries es log → takes_all near_takes (Some (Rests l0)) es ≡ None
ends_odd l0 log rest now r some none es t =
    let on : (more : List Entry) × SpellsEntries more rest × (takes_all near_takes (Some (Rests l0)) es ≡ takes_all near_takes (Some now) more) = r.goes es t in
    absurd (none_begins SpellsEntry rest none some on.0 on.1)

at_end : (l0 : EndState) (log rest : List ℕ) (now : NearNow) → Reaches (Rests l0) log now rest → length rest ≡ 0
    → (es : List Entry) → SpellsEntries es log → takes_all near_takes (Some (Rests l0)) es ≡ Some now
at_end l0 log rest now r none es t =
    let on : (more : List Entry) × SpellsEntries more rest × (takes_all near_takes (Some (Rests l0)) es ≡ takes_all near_takes (Some now) more) = r.goes es t in
    on.2 ∙ ap (λ (xs : List Entry). takes_all near_takes (Some now) xs) (nothing_left SpellsEntry less_entry rest none on.0 on.1)

stands_so : (l : EndState) (came : Option CameOut) → StandsSo (now_of l came) (stand_of came)
stands_so l None = refl
stands_so l (Some out) = refl

-- behind the whole log
pub standing : (l0 : EndState) (log rest : List ℕ) (l : EndState) (came : Option CameOut) → Reaches (Rests l0) log (now_of l came) rest → length rest ≡ 0
    → IsStanding l0 log (stand_of came)
standing l0 log rest l came r none = record {
  whole = r.whole ([], no_bytes rest none);
  so = λ es t. (now_of l came, at_end l0 log rest (now_of l came) r none es t, stands_so l came);
}

-- or where a call stopped
stopped_so : (l0 : EndState) (log behind : List ℕ) (from : Step) (f g : LogFar) → Reaches (Rests l0) log (settles from) f.left.now → IsStopped from f g
    → (asked : Option (List ℕ)) (odd : Bool) → g.asked ≡ asked → g.odd ≡ odd → IsNearReplay l0 log (stopped_by asked odd)
stopped_so l0 log behind from f g r s (Some p) odd a o =
    let kept : (w : Working) × Reaches (settles from) f.left.now (Under w) [] × (p ≡ payload 0 w) = s.asked p a in
    let all : Reaches (Rests l0) log (Under kept.0) [] = onward (Rests l0) (settles from) (Under kept.0) log f.left.now [] r kept.1 in
    record {
      whole = all.whole ([], refl);
      so = λ es t. (Under kept.0, at_end l0 log [] (Under kept.0) all refl es t, ap (λ (x : List ℕ). stands.Asks x) kept.2);
    }
stopped_so l0 log behind from f g r s None true a o = λ es t.
    let on : (more : List Entry) × SpellsEntries more f.left.now × (takes_all near_takes (Some (Rests l0)) es ≡ takes_all near_takes (Some (settles from)) more) = r.goes es t in
    on.2 ∙ s.odd o on.0 on.1
stopped_so l0 log behind from f g r s None false a o = tt

pub stops_there : (l0 : EndState) (log rest : List ℕ) (old : EndState) (came : Option CameOut) (e : Entry) (f : LogFar) (l : EndState) (g : LogFar) (why : SnepFault)
    → Reaches (Rests l0) log (now_of old came) rest → SpellsEntry e rest f.left.now → IsObeyed (call_of e) old f l g (Err why)
    → IsNearReplay l0 log (stopped_by g.asked g.odd)
stops_there l0 log rest old came e f l g why r s x =
    let one : OneCall e old f l g (Err why) = one_call (call_of e) e refl old f l g (Err why) x in
    stopped_so l0 log rest (call_begins old one.call) f g (begun_by l0 log rest f.left.now old came e one.call r s one.is) one.obeys.stopped
    g.asked g.odd refl refl
