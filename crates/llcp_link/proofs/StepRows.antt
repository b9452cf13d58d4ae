-- Each PDU does to a client's connection what the definition of units says.
use Rattle.std.proofs.Common.{◌≡◌, ◌<◌, ℕ, ◌==◌, Bool, true, false, List, [], Option, Some, None, refl, sym, ◌∙◌, ap, subst}
use Rattle.llcp_pdu.specs.declared.part.Part.TheVariants.{Symm, Ui, Connect, Disc, Cc, Dm, Frmr, Snl, Info, Rr, Rnr}
use Rattle.llcp_pdu.specs.Wire.{rr_type, rnr_type}
use Rattle.llcp_conn.specs.Conn.{ConnState, takes_nr, takes_unit}
use Rattle.llcp_link.specs.Serving.{Serving}
use Rattle.llcp_link.specs.State.{LlcState, conn_from, holder}
use Rattle.llcp_link.specs.Taking as t
use Rattle.llcp_link.specs.Taking.{Item, Good, Broken, step, steps}
use Rattle.llcp_link.specs.Units.{Ends, Stays, Mark, UnitsSoFar, accepted_item, acknowledges, begun_by, does_by, informs, mark, turn, turn_of, vs_of, vsa_of}
use Rattle.llcp_link.proofs.Ranged.{IsRanged}
use Rattle.llcp_link.proofs.Following.{Follows, Fits, FitsBehind, Same, same_stays, still}
use Rattle.llcp_link.proofs.SameRows.{answered_then, breaks_other, discovers_same, ends_other, ends_same, leaves_other, numbered_else, numbered_other, own_same}
use Rattle.llcp_link.proofs.ByHolder.{after_does, by_holder}
use Rattle.llcp_link.proofs.NumberedRows.{IsMarked, answered_behind, conn_ends, info_steps, nr_there, ready_steps, unit_there}
use Rattle.llcp_link.proofs.ConnectRows.{connect_steps}

module _ {S : Type 0} (m : Serving S) (told : S → List (List (List ℕ)) → Type 0) (c miu : ℕ) (f : Follows m c told) (l : LlcState S) (done : List (List (List ℕ))) where
  marked : (k : ConnState) (i : Item) → conn_from c l.served ≡ Some k → IsMarked k (mark m c l i)
  marked k i e = record { vsa_is = ap vsa_of e; vs_is = ap vs_of e }

  -- of another client's connection
  far : (k : ConnState) (s : ℕ) → k.there ≡ s → (s == c) ≡ false → (k.there == c) ≡ false
  far k s e i = ap (λ z. z == c) e ∙ i

  disc_steps : (d s : ℕ) (o : Option UnitsSoFar) → Fits told c miu l o done → FitsBehind told c miu (t.leaves l d s (holder l d s)) (after_does c d s (λ o. Ends) o) done
  disc_steps d s o h =
      by_holder told c miu l done (t.leaves l d s) d s (λ o. Ends) (record {
        other = leaves_other m told c miu f l d s;
        elsewhere = λ k e i. answered_then m told c miu f l _ _ (ends_same m told c miu f l k (far k s e i));
        own = λ k o e i h j. answered_behind m told c miu f l done _ _ (turn_of o Ends) (conn_ends m told c miu f l done k o e h);
      }) o h

  frmr_steps : (d s : ℕ) (o : Option UnitsSoFar) → Fits told c miu l o done → FitsBehind told c miu (t.ends l (holder l d s)) (after_does c d s (λ o. Ends) o) done
  frmr_steps d s o h =
      by_holder told c miu l done (t.ends l) d s (λ o. Ends) (record {
        other = ends_other m told c miu f l;
        elsewhere = λ k e i. ends_same m told c miu f l k (far k s e i);
        own = λ k o e i h j. conn_ends m told c miu f l done k o e h;
      }) o h

  broken_steps : (ty d s q : ℕ) (o : Option UnitsSoFar) → Fits told c miu l o done → FitsBehind told c miu (t.breaks l ty q (holder l d s)) (after_does c d s (λ o. Ends) o) done
  broken_steps ty d s q o h =
      by_holder told c miu l done (t.breaks l ty q) d s (λ o. Ends) (record {
        other = breaks_other m told c miu f l ty q;
        elsewhere = λ k e i. answered_then m told c miu f l _ _ (ends_same m told c miu f l k (far k s e i));
        own = λ k o e i h j. answered_behind m told c miu f l done _ _ (turn_of o Ends) (conn_ends m told c miu f l done k o e h);
      }) o h

  unit_steps : (d s ns nr : ℕ) (xs : List ℕ) → nr < 16 → (o : Option UnitsSoFar) → Fits told c miu l o done
      → FitsBehind told c miu (t.numbered m l (λ k. takes_unit k ns nr xs) d s (holder l d s))
      (after_does c d s (λ o. informs miu o (mark m c l (Good (Info d s ns nr xs))) ns nr xs) o) done
  unit_steps d s ns nr xs w o h =
      by_holder told c miu l done (t.numbered m l (λ k. takes_unit k ns nr xs) d s) d s (λ o. informs miu o (mark m c l (Good (Info d s ns nr xs))) ns nr xs) (record {
        other = numbered_other m told c miu f l (λ k. takes_unit k ns nr xs) d s;
        elsewhere = λ k e i. numbered_else m told c miu f l (λ k. takes_unit k ns nr xs) k (unit_there k ns nr xs) (far k s e i);
        own = λ k o e i h j. info_steps m told c miu f l done k o ns nr xs (mark m c l (Good (Info d s ns nr xs))) w (marked k (Good (Info d s ns nr xs)) i) e i h j;
      }) o h

  nr_steps : (ptype d s nr : ℕ) (held : Bool) (a : Mark) → ((k : ConnState) → conn_from c l.served ≡ Some k → IsMarked k a) → nr < 16 → (o : Option UnitsSoFar) → Fits told c miu l o done
      → FitsBehind told c miu (t.numbered m l (λ k. takes_nr k ptype nr held) d s (holder l d s)) (after_does c d s (λ o. acknowledges a nr) o) done
  nr_steps ptype d s nr held a v w o h =
      by_holder told c miu l done (t.numbered m l (λ k. takes_nr k ptype nr held) d s) d s (λ o. acknowledges a nr) (record {
        other = numbered_other m told c miu f l (λ k. takes_nr k ptype nr held) d s;
        elsewhere = λ k e i. numbered_else m told c miu f l (λ k. takes_nr k ptype nr held) k (nr_there k ptype nr held) (far k s e i);
        own = λ k o e i h j. ready_steps m told c miu f l done k o ptype nr held a w (v k i) e i h j;
      }) o h

  -- a PDU of no connection
  nothing : (i : Item) (n : LlcState S) → Same told c miu l n → ((o : UnitsSoFar) → does_by c miu o (mark m c l i) i ≡ Stays) → begun_by c (accepted_item m l i) i ≡ None
      → (o : Option UnitsSoFar) → Fits told c miu l o done → FitsBehind told c miu n (turn c miu o (mark m c l i)) done
  nothing i n s a b None h = subst (λ z. FitsBehind told c miu n (record { open_ = z; over = [] }) done) (sym b) (same_stays told c miu l n None done s h)
  nothing i n s a b (Some o) h = subst (λ z. FitsBehind told c miu n (turn_of o z) done) (sym (a o)) (same_stays told c miu l n (Some o) done s h)

  pub step_fits : (i : Item) → IsRanged i → (o : Option UnitsSoFar) → Fits told c miu l o done → FitsBehind told c miu (step m l i) (turn c miu o (mark m c l i)) done
  step_fits (Good Symm) w o h = nothing (Good Symm) l (still told c miu l) (λ o. refl) refl o h
  step_fits (Good (Ui d s info)) w o h = nothing (Good (Ui d s info)) l (still told c miu l) (λ o. refl) refl o h
  step_fits (Good (Cc d s ps)) w o h = nothing (Good (Cc d s ps)) _ (own_same m told c miu f l _) (λ o. refl) refl o h
  step_fits (Good (Dm d s r)) w o h = nothing (Good (Dm d s r)) _ (own_same m told c miu f l _) (λ o. refl) refl o h
  step_fits (Good (Snl ps)) w o h = nothing (Good (Snl ps)) _ (discovers_same m told c miu f l ps) (λ o. refl) refl o h
  step_fits (Good (Connect d s ps)) w None h = connect_steps m told c miu f l done d s ps w.2 None h
  step_fits (Good (Connect d s ps)) w (Some o) h = connect_steps m told c miu f l done d s ps w.2 (Some o) h
  step_fits (Good (Disc d s)) w None h = disc_steps d s None h
  step_fits (Good (Disc d s)) w (Some o) h = disc_steps d s (Some o) h
  step_fits (Good (Frmr d s r)) w None h = frmr_steps d s None h
  step_fits (Good (Frmr d s r)) w (Some o) h = frmr_steps d s (Some o) h
  step_fits (Good (Info d s ns nr xs)) w None h = unit_steps d s ns nr xs w.3 None h
  step_fits (Good (Info d s ns nr xs)) w (Some o) h = unit_steps d s ns nr xs w.3 (Some o) h
  step_fits (Good (Rr d s nr)) w None h = nr_steps rr_type d s nr false (mark m c l (Good (Rr d s nr))) (λ k i. marked k (Good (Rr d s nr)) i) w.2 None h
  step_fits (Good (Rr d s nr)) w (Some o) h = nr_steps rr_type d s nr false (mark m c l (Good (Rr d s nr))) (λ k i. marked k (Good (Rr d s nr)) i) w.2 (Some o) h
  step_fits (Good (Rnr d s nr)) w None h = nr_steps rnr_type d s nr true (mark m c l (Good (Rnr d s nr))) (λ k i. marked k (Good (Rnr d s nr)) i) w.2 None h
  step_fits (Good (Rnr d s nr)) w (Some o) h = nr_steps rnr_type d s nr true (mark m c l (Good (Rnr d s nr))) (λ k i. marked k (Good (Rnr d s nr)) i) w.2 (Some o) h
  step_fits (Broken ty d s q) w None h = broken_steps ty d s q None h
  step_fits (Broken ty d s q) w (Some o) h = broken_steps ty d s q (Some o) h
