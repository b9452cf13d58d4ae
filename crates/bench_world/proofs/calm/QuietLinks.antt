-- On quiet air each command on the open link is answered as its peer answers it.
use Rattle.std.proofs.Common.{◌≡◌, ◌↔◌, ℕ, ◌<◌, ◌==◌, ◌||◌, nat_lt, List, [], ◌∷◌, length, map, Bool, true, false, if◌then◌else◌, Option, Some, refl, sym, ◌∙◌, ap, arith}
use Rattle.std.proofs.lemmas.Bool.{eqb-true}
use Rattle.std.proofs.lemmas.Bool.Decides.{nat_tests}
use Rattle.nfc_base.specs.Trace.{noise}
use Rattle.nfc_base.specs.declared.carrier.EndCause.TheVariants.{FieldLost, SixBad, Protocol, Memory}
use Rattle.nfc_base.specs.declared.event.Event.{Event}
use Rattle.snep_core.specs.Accord.{from_sap}
use Rattle.snep_core.specs.Server.{Received}
use Rattle.snep_core.specs.Talk.{Goes, Ends, GivesUp, sap_of_slot}
use Rattle.link_calls.specs.CallDue.{CallStanding, Carries, Comes, BrokenBy, Strays}
use Rattle.snep_core.specs.Links.{Told, Success, Rejected, Unanswered}
use Rattle.snep_core.specs.Payloads.{accepted_from}
use Rattle.link_calls.specs.AtOnce.{EachOf}
use Rattle.link_calls.specs.declared.request.SlotMessage.{SlotMessage}
use Rattle.bench_world.proofs.link_law.StoriesOnLink.{jobs_told}
use Rattle.bench_world.proofs.link_law.PutsTold.{AreTold}
use Rattle.bench_world.specs.declared.entry.Answer.{Answer}
use Rattle.bench_world.specs.declared.entry.Answer.TheVariants as answers
use Rattle.bench_world.specs.declared.entry.Entry.{Entry}
use Rattle.bench_world.specs.declared.entry.Loss.TheVariants as losses
use Rattle.bench_world.specs.Calls.{AllAdd, CallAdds, EachAdds, HadSixBad, IsTold, MessageAdds, OfEnd, PeerAdds, asked_behind, told_asked, told_call, told_each, link_behind, slots_behind, stands_on}
use Rattle.bench_world.specs.CompletingLinks.{peer_answer, IsUndisturbedOn}
use Rattle.bench_world.specs.Legal.{State, Given, LegalStep, CallLaw, changed, link_left, world_after, peer_end_of}
use Rattle.link_calls.specs.Asking.{LinkAsking, Call, Does, Closes, Finding, Getting, Putting}
use Rattle.bench_world.specs.Asked.{asked_on_link}
use Rattle.bench_world.specs.Links.{OpenLink}
use Rattle.bench_world.specs.Quiet.{AllPass}
use Rattle.bench_world.specs.QuietLinks.{gained, GainsAll, GainsBy, IsQuietly, StaysBehind, QuietTalks}
use Rattle.bench_world.specs.World.{FarEnd, WholeWorld, stable}
use Rattle.bench_world.proofs.calm.Complete.{told_once}
use Rattle.bench_world.proofs.calm.CompleteLinks.{CameSo, GoesOn, call_ended, call_law, complete, had_six, jobs_on, six_bad, six_told, within, beyond, none_told, both_ends}
use Rattle.bench_world.proofs.calm.Quiet.{no_breaks, quiet_of}
use Rattle.bench_world.proofs.open_link.Talks.{on_link, still_on}

-- Without noise no wait has six bad receptions.
no_six : (told : Option Answer) (es : List Event) (answer : Answer) → IsTold told es answer → noise es ≡ 0 → told ≡ Some (answers.LinkEnded losses.SixBad) → ⊥
no_six told es answer t none six =
    let some : 0 < noise es = t.noisy (told_once (answers.LinkEnded losses.SixBad) answer (sym six ∙ t.tells)) in
    omega (arith, none, some)

-- A call that was told how it ended leaves its link open.
record GoesOnWith (peer : ℕ) (o : Option OpenLink) : Type 0 where
  pub now : OpenLink
  pub is : o ≡ Some now
  pub same : now.peer ≡ peer

goes_on : (call : Call) (l : OpenLink) (c : CallStanding) (answer : Answer) → told_call call c ≡ Some answer → GoesOn answer → GoesOnWith l.peer (link_behind l call c)
goes_on call l (Carries (w, ns) s) answer told on = absurd (none_told answer told)
goes_on call l (Comes (Goes w) i) answer told on = absurd (none_told answer told)
goes_on call l (Comes (GivesUp client) i) answer told on = absurd (none_told answer told)
goes_on call l (Comes (Ends jobs client) i) answer told on =
    record { now = record { peer = l.peer; initiator = i; client = client; slots = slots_behind call jobs l.slots }; is = refl; same = refl }
goes_on call l (BrokenBy FieldLost) answer told on = absurd (on losses.FieldLost (told_once (answers.LinkEnded losses.FieldLost) answer told))
goes_on call l (BrokenBy SixBad) answer told on = absurd (on losses.SixBad (told_once (answers.LinkEnded losses.SixBad) answer told))
goes_on call l (BrokenBy Protocol) answer told on = absurd (none_told answer told)
goes_on call l (BrokenBy Memory) answer told on = absurd (none_told answer told)
goes_on call l Strays answer told on = absurd (none_told answer told)

-- Of what was put the peer's server gains what is within the limit.
either : (v w : Bool) (xs ys : List (List ℕ)) → v ≡ w → (if v then xs else ys) ≡ (if w then xs else ys)
either v w xs ys e = ap (λ x. if x then xs else ys) e

message_gains : (m : List ℕ) (limit : ℕ) (t : Told) (xs : List (List ℕ)) → MessageAdds m limit t xs → (t ≡ Unanswered → ⊥) → xs ≡ gained limit m
message_gains m limit Success xs h told = h.1 ∙ sym (either (nat_lt limit (length m)) false [] (m ∷ []) (within limit (length m) h.0))
message_gains m limit Rejected xs h told = h.1 ∙ sym (either (nat_lt limit (length m)) true [] (m ∷ []) (beyond limit (length m) h.0))
message_gains m limit Unanswered xs h told = absurd (told refl)

each_gains : (limit : ℕ) (more : List Received) (ws : List SlotMessage) (ts : List Told) → EachAdds ws limit ts more → AreTold ts
    → EachOf (λ slot m. accepted_from (sap_of_slot slot) more ≡ gained limit m) ws
each_gains limit more [] ts h told = tt
each_gains limit more (w ∷ ws) [] h told = absurd h
each_gains limit more (w ∷ ws) (t ∷ ts) h told =
    (message_gains w.message limit t (accepted_from (sap_of_slot w.slot) more) h.0 told.0, each_gains limit more ws ts h.1 told.1)

-- what came from one SAP alone
eq_sym : (m n : ℕ) → (m == n) ≡ false → (n == m) ≡ false
eq_sym m n h = grind (arith, nat_tests, h)

eq_self : (n : ℕ) → (n == n) ≡ true
eq_self n = grind (arith, nat_tests)

only_from : (sap : ℕ) (more : List Received) → ((s : ℕ) → (sap == s) ≡ false → accepted_from s more ≡ []) → more ≡ map (from_sap sap) (accepted_from sap more)
only_from sap [] none = refl
only_from sap (r ∷ rs) none = by (r.source == sap) refl (λ h. only_from sap rs h)
  where
    rest : (r.source ≡ sap) → (s : ℕ) → (sap == s) ≡ false → accepted_from s rs ≡ []
    rest e s apart = sym (ap (λ v. if v then r.message ∷ accepted_from s rs else accepted_from s rs) (ap (λ n. n == s) e ∙ apart)) ∙ none s apart

    by : (v : Bool) → (r.source == sap) ≡ v → (((s : ℕ) → (sap == s) ≡ false → accepted_from s rs ≡ []) → rs ≡ map (from_sap sap) (accepted_from sap rs))
        → r ∷ rs ≡ map (from_sap sap) (accepted_from sap (r ∷ rs))
    by true e more =
        let same : r.source ≡ sap = eqb-true r.source sap e in
        let first : r ≡ from_sap sap r.message = ap (λ n. record { source = n; message = r.message }) same in
        ap (λ x. x ∷ rs) first ∙ ap (λ xs. from_sap sap r.message ∷ xs) (more (rest same))
        ∙ ap (map (from_sap sap)) (sym (ap (λ v. if v then r.message ∷ accepted_from sap rs else accepted_from sap rs) e))
    by false e more =
        let own : accepted_from r.source (r ∷ rs) ≡ r.message ∷ accepted_from r.source rs = ap (λ v. if v then r.message ∷ accepted_from r.source rs else accepted_from r.source rs)
        (eq_self r.source) in
        absurd (let clash : r.message ∷ accepted_from r.source rs ≡ [] = sym own ∙ none r.source (eq_sym r.source sap e) in cc)

-- so messages that were put at once gain, and one alone
all_gain : (ws : List SlotMessage) (end : FarEnd) (more : List Received) (ts : List Told) → AllAdd ws end ts more → AreTold ts → GainsAll ws end.service.limit more
all_gain [] end more ts h told = record { each = tt; others = h.others }
all_gain (w ∷ []) end more ts h told =
    let sap : ℕ = sap_of_slot w.slot in
    only_from sap more (λ s apart. h.others s (ap (λ v. v || false) apart)) ∙ ap (map (from_sap sap)) (each_gains end.service.limit more (w ∷ []) ts h.each told).0
all_gain (w ∷ v ∷ ws) end more ts h told = record { each = each_gains end.service.limit more (w ∷ v ∷ ws) ts h.each told; others = h.others }

gains_so : (call : Call) (end : FarEnd) (more : List Received) (answer : Answer) → CameSo call answer → CallAdds call end answer more → GainsBy (Does call) end more
gains_so (Putting ws) end more answer x adds = all_gain ws end more (told_each ws answer) adds (jobs_told (Putting ws) x.jobs answer x.told)
gains_so (Getting sap most key) end more answer x adds = adds
gains_so (Finding name) end more answer x adds = adds

module _ (s t : State) (g : Given) (e : Entry) (step : LegalStep s g e t) (pass : AllPass s.queue) (l : OpenLink) (asked : LinkAsking) (asks : asked_on_link e.command ≡ Some asked)
    (up : s.link ≡ Some l) where
  abbrev law : CallLaw s g.joins l asked e.command e.events e.answer
  law = call_law s t g e l step asked asks up

  still : (changed s e.command).queue ≡ s.queue
  still = ap (λ (z : State). z.queue) (still_on s e.command (on_link e.command asked asks))

  -- nothing keeps it from its answer
  calm : IsUndisturbedOn l g.joins.own e.command e.events
  calm =
      let none : noise e.events ≡ 0 = quiet_of s t g e e.command step refl still pass in
      record {
        lit = no_breaks e.events none;
        waits = λ six. no_six (told_asked asked l g.joins.own e.events) e.events e.answer law.told none (six_told asked l g.joins.own e.events (six_bad s t g e l asked step asks up six));
      }

  world : t.world ≡ world_after s g.joins e.command e.events
  world = ap (λ (z : State). z.world) step.front.after

  link_then : t.link ≡ asked_behind asked (Some e.answer) (Some l) g.joins.own e.events
  link_then =
      ap (λ (x : State). x.link) step.front.after ∙ ap (λ o. link_left o s g.joins e.command e.events (Some e.answer)) asks
      ∙ ap (λ o. asked_behind asked (Some e.answer) o g.joins.own e.events) up

  -- what a call came to, and that its link stays open
  ended : (call : Call) → IsTold (told_asked (Does call) l g.joins.own e.events) e.events e.answer → (HadSixBad (Does call) l g.joins.own e.events → ⊥) → CameSo call e.answer
  ended call told none = call_ended call (stands_on l g.joins.own call e.events) e.events e.answer told calm.lit none

  stays : (a : LinkAsking) → IsTold (told_asked a l g.joins.own e.events) e.events e.answer → (HadSixBad a l g.joins.own e.events → ⊥)
      → t.link ≡ asked_behind a (Some e.answer) (Some l) g.joins.own e.events → StaysBehind a l t
  stays (Does call) told none link =
      let x : CameSo call e.answer = ended call told none in
      let r : GoesOnWith l.peer (link_behind l call (stands_on l g.joins.own call e.events)) =
      goes_on call l (stands_on l g.joins.own call e.events) e.answer told.tells (jobs_on call x.jobs e.answer x.told) in
      (r.now, link ∙ r.is, r.same)
  stays Closes told none link = tt

  gains : (a : LinkAsking) → IsTold (told_asked a l g.joins.own e.events) e.events e.answer → (HadSixBad a l g.joins.own e.events → ⊥) → (end : FarEnd) → PeerAdds a end e.answer law.more
      → GainsBy a end law.more
  gains (Does call) told none end adds = gains_so call end law.more e.answer (ended call told none) adds
  gains Closes told none end adds = adds

  none_had : HadSixBad asked l g.joins.own e.events → ⊥
  none_had six = calm.waits (had_six s t g e l asked step asks up six)

  pub quietly : OfEnd (IsQuietly s l asked e.answer t) (peer_end_of s l) × StaysBehind asked l t
  quietly = (
    both_ends (λ end. PeerAdds asked end e.answer law.more) (λ end. (e.answer ≡ peer_answer asked end) ↔ IsUndisturbedOn l g.joins.own e.command e.events) (IsQuietly s l asked e.answer t)
        (λ end adds so. record {
          told = so.1 calm;
          more = law.more;
          gains = gains asked law.told none_had end adds;
          ends = ap (λ (w : WholeWorld). (stable w).ends) world ∙ law.ends;
        })
        (peer_end_of s l) law.adds (complete s t g e l asked step asks up),
    stays asked law.told none_had link_then,
  )

pub quiet_talks : QuietTalks
quiet_talks s t g e step pass l asked asks up = quietly s t g e step pass l asked asks up
