-- What a server accepts, by the payloads alone.
use Rattle.std.proofs.Common.{◌≡◌, ◌<◌, ℕ, List, [], ◌∷◌, ◌++◌, refl, sym, ◌∙◌, ap, subst, append_assoc, append-nil, arith}
use Rattle.std.proofs.lemmas.List.{length-replicate}
use Rattle.llcp_link.specs.State.{LlcState, restarted}
use Rattle.llcp_link.specs.Taking.{Item, brought, steps}
use Rattle.llcp_link.specs.Units.{Mark, Turn, marks}
use Rattle.llcp_link.specs.Running.{Acted, end_after_acts, marks_of}
use Rattle.llcp_link.proofs.Ranged.{AreRanged, brought_ranged}
use Rattle.llcp_link.proofs.Following.{Follows}
use Rattle.llcp_link.proofs.UnitsTold.{FitsAt, at_first, items_fit, run_fits, turns, turns_more, turns_units}
use Rattle.snep_core.specs.Payloads.{AcceptedInOrder, AcceptsPuts, AllPut, IsServerRun, OffersElse, PayloadsAccepted, PlaceInActs, accepted_from, end_there, marks_there}
use Rattle.nfc_base.specs.Prefix.{IsPrefix}
use Rattle.snep_core.specs.Server.{Received, ServerState, received, serving, session_of}
use Rattle.llcp_pdu.specs.Wire.{sap_count}
use Rattle.snep_core.specs.Session.{did, fresh_session}
use Rattle.snep_core.proofs.sessions.SourcesTold.{ServerTells, server_changed, server_follows, told_puts}

module _ (c : ℕ) (old : LlcState ServerState) where
  abbrev Tells : ServerState → List (List (List ℕ)) → Type 0
  Tells = ServerTells c old.service.limit (accepted_from c old.service.accepted)

  abbrev follows : Follows serving c Tells
  follows = server_follows c old.service.limit (accepted_from c old.service.accepted)

  abbrev Stands : LlcState ServerState → Turn → Type 0
  Stands l x = FitsAt serving Tells c old.miu follows l x

  begins : (general : List ℕ) → c < sap_count → Stands (restarted serving old general) at_first
  begins general h = record {
    near = refl;
    distinct = tt;
    link = tt;
    tells = record {
      most = refl;
      seats = subst (λ n. c < n) (sym (length-replicate sap_count fresh_session)) h;
      got = [];
      accepts = sym (append-nil (accepted_from c old.service.accepted));
      puts = refl;
    };
  }

  runs : (l : LlcState ServerState) (run : List (Acted ServerState)) → IsServerRun l run → (x : Turn) → Stands l x → Stands (end_after_acts l run) (turns c old.miu x (marks_of serving c l run))
  runs l run r x h =
      run_fits serving Tells c old.miu follows OffersElse (server_changed c old.service.limit (accepted_from c old.service.accepted)) run l r x h

  accepts_puts : (l : LlcState ServerState) (ms : List Mark) → Stands l (turns c old.miu at_first ms) → AcceptsPuts c old.service.limit old.miu ms old.service.accepted l.service.accepted
  accepts_puts l ms h =
      let t = h.tells in record {
        all = t.got;
        accepted = t.accepts;
        put = subst (λ z. AllPut old.service.limit z t.got) (turns_units c old.miu at_first ms) (told_puts old.service.limit (session_of l.service c).gathered _ t.got t.puts);
      }

  there : (general : List ℕ) → c < sap_count → (p : PlaceInActs (restarted serving old general)) → AreRanged p.came
      → Stands (end_there (restarted serving old general) p) (turns c old.miu at_first (marks_there c (restarted serving old general) p))
  there general h p w =
      let begin = restarted serving old general in
      let x = turns c old.miu at_first (marks_of serving c begin p.before) in
      subst (λ z. Stands (end_there begin p) z) (sym (turns_more c old.miu at_first (marks_of serving c begin p.before) (marks serving c (end_after_acts begin p.before) p.came)))
      (items_fit serving Tells c old.miu follows p.came w (end_after_acts begin p.before) x (runs begin p.before p.run at_first (begins general h)))

pub payloads_accepted : PayloadsAccepted
payloads_accepted old general run r c h =
    let begin = restarted serving old general in
    accepts_puts c old (end_after_acts begin run) (marks_of serving c begin run) (runs c old begin run r at_first (begins c old general h))

ranged_front : (xs ys all : List Item) → all ≡ xs ++ ys → AreRanged all → AreRanged xs × AreRanged ys
ranged_front xs ys all e h = go xs (subst AreRanged e h)
  where
    go : (xs : List Item) → AreRanged (xs ++ ys) → AreRanged xs × AreRanged ys
    go [] h = (tt, h)
    go (x ∷ xs) h = let k = go xs h.1 in ((h.0, k.0), k.1)

-- what was accepted stays, and more is accepted behind it
pub front_more : (a b more : List Received) → IsPrefix a b → IsPrefix a (b ++ more)
front_more a b more (rest, e) = (rest ++ more, ap (λ z. z ++ more) e ∙ append_assoc a rest more)

module _ (before : List Received) where
  abbrev Grows : ServerState → List (List (List ℕ)) → Type 0
  Grows s us = IsPrefix before s.accepted

  grows : (c : ℕ) → Follows serving c Grows
  grows c = record {
    begun = λ s us h. h;
    begun_else = λ s d us n h. h;
    brought = λ s us now u h. front_more before s.accepted (received c (did s.limit s.table (session_of s c) u).accepts) h;
    brought_else = λ s d u us n h. front_more before s.accepted (received d (did s.limit s.table (session_of s d) u).accepts) h;
    sent = λ s d miu us h. h;
  }

  grows_changed : (s t : ServerState) (us : List (List (List ℕ))) → OffersElse s t → Grows s us → Grows t us
  grows_changed s t us (table, e) h = subst (λ z. IsPrefix before z.accepted) (sym e) h

pub accepted_in_order : AcceptedInOrder
accepted_in_order old general p =
    let begin = restarted serving old general in
    let w = ranged_front p.came p.behind (brought (end_after_acts begin p.before) p.payload) p.split (brought_ranged (end_after_acts begin p.before) p.payload p.bytes) in
    record {
      puts = λ c h. accepts_puts c old (end_there begin p) (marks_there c begin p) (there c old general h p w.0);
      front = λ more r. front more r w;
    }
  where
    front : (more : List (Acted ServerState)) → IsServerRun (steps serving (end_there (restarted serving old general) p) p.behind) more → AreRanged p.came × AreRanged p.behind
        → IsPrefix (end_there (restarted serving old general) p).service.accepted
        (end_after_acts (steps serving (end_there (restarted serving old general) p) p.behind) more).service.accepted
    front more r w =
        let begin = restarted serving old general in
        let l = end_there begin p in
        let f = grows l.service.accepted 0 in
        let x = turns 0 old.miu at_first (marks_there 0 begin p) in
        let z = there 0 old general (omega arith) p w.0 in
        let here : FitsAt serving (Grows l.service.accepted) 0 old.miu f l x =
        record { near = z.near; distinct = z.distinct; link = z.link; tells = ([], sym (append-nil l.service.accepted)) } in
        let behind = items_fit serving (Grows l.service.accepted) 0 old.miu f p.behind w.1 l x here in
        let end = run_fits serving (Grows l.service.accepted) 0 old.miu f OffersElse (grows_changed l.service.accepted) more (steps serving l p.behind) r _ behind in
        end.tells
