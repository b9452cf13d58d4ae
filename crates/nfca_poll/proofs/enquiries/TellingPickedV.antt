-- What a selection by an identifier of NFC-V answers follows from what it heard.
use Rattle.std.proofs.Common.{◌≡◌, ◌<◌, ◌≤◌, ℕ, ◌+◌, List, [], ◌∷◌, ◌++◌, Bool, true, false, not, nat_lt, if◌then◌else◌, Option, Some, None, Result, Ok, Err, refl, sym, ◌∙◌, subst, arith}
use Rattle.nfc_base.specs.Trace.{Turn, heard, is_silence}
use Rattle.nfc_base.specs.declared.event.Heard.{Heard}
use Rattle.nfc_base.specs.declared.event.Heard.TheVariants.{Whole, Collided, Damaged, Silent}
use Rattle.air_core.specs.Conversation.{LightUp, Asks, note}
use Rattle.air_core.specs.World.{Machine}
use Rattle.air_core.specs.Turn.{Air}
use Rattle.nfca_poll.specs.declared.fault.PollFault.{PollFault}
use Rattle.nfca_poll.specs.declared.fault.PollFault.TheVariants as faults
use Rattle.nfca_poll.specs.Enquiry.{Progress, Reaches, Loses, progress, or_memory, answer_of, Enquires}
use Rattle.nfca_poll.specs.Inventory.{Inventory, Tries, Told, tries, picking_v, is_present}
use Rattle.nfca_poll.specs.ByHeard.{is_no_present, is_shown, silences, has_shown, has_no_present, TellsPickedV, turns_since}
use Rattle.nfca_poll.proofs.enquiries.EnquiryWalks.{after}
use Rattle.nfca_poll.proofs.enquiries.TurnWalks.{turns_hold}
use Rattle.nfca_poll.proofs.enquiries.TellingInventory.{one_if, not_both, less_of, far_of, few_left, count_more, any_none, any_one}

-- a selection so far: nothing was heard
record Vain (n : ℕ) (ts : List Turn) : Type 0 where
  shown : has_shown ts ≡ false
  strange : has_no_present ts ≡ false
  silent : silences ts ≡ n

abbrev At : Progress (Inventory (Unit {0})) → List Turn → Type 0
At (Reaches (Tries n d)) ts = Vain n ts × (n ≤ 4)
At (Reaches (Told r)) ts = TellsPickedV ts r
At Loses ts = (n : ℕ) × Vain n ts × (n < 4)

-- what a turn adds
record Adds (ts us : List Turn) (o : Option Heard) : Type 0 where
  silent : silences us ≡ silences ts + one_if (is_silence o)
  shown : is_shown o ≡ false → has_shown us ≡ has_shown ts
  shows : is_shown o ≡ true → has_shown us ≡ true
  strange : is_no_present o ≡ false → has_no_present us ≡ has_no_present ts
  stranger : is_no_present o ≡ true → has_no_present us ≡ true

adds : (ts : List Turn) (t : Turn) → Adds ts (ts ++ t ∷ []) (heard t)
adds ts t = record {
  silent = count_more (λ u. is_silence (heard u)) ts t;
  shown = any_none (λ u. is_shown (heard u)) ts t;
  shows = any_one (λ u. is_shown (heard u)) ts t;
  strange = any_none (λ u. is_no_present (heard u)) ts t;
  stranger = any_one (λ u. is_no_present (heard u)) ts t;
}

-- the call is told one of these
tells_there : (us : List Turn) (n : ℕ) → n < 4 → silences us ≡ n → has_shown us ≡ true → has_no_present us ≡ false → TellsPickedV us (Ok tt)
tells_there us n few sum shown strange = record {
  there = (λ e. shown, λ e. refl);
  not_found = (λ e. absurd cc, λ e. absurd (omega (arith, few, sum, e)));
  bad = (λ e. absurd cc, λ e. absurd (not_both (has_no_present us) strange e));
}

tells_bad : (us : List Turn) (n : ℕ) → n < 4 → silences us ≡ n → has_shown us ≡ false → has_no_present us ≡ true → TellsPickedV us (Err faults.BadAnswer)
tells_bad us n few sum shown strange = record {
  there = (λ e. absurd cc, λ e. absurd (not_both (has_shown us) shown e));
  not_found = (λ e. absurd cc, λ e. absurd (omega (arith, few, sum, e)));
  bad = (λ e. strange, λ e. refl);
}

-- any other answer that is no end of the tries
tells_other : (us : List Turn) (n : ℕ) (f : PollFault) → n < 4 → silences us ≡ n → has_shown us ≡ false → has_no_present us ≡ false
    → (◌≡◌ {A = Result (Unit {0}) PollFault} (Err f) (Err faults.NotFound) → ⊥) → (◌≡◌ {A = Result (Unit {0}) PollFault} (Err f) (Err faults.BadAnswer) → ⊥) → TellsPickedV us (Err f)
tells_other us n f few sum shown strange a b = record {
  there = (λ e. absurd cc, λ e. absurd (not_both (has_shown us) shown e));
  not_found = (λ e. absurd (a e), λ e. absurd (omega (arith, few, sum, e)));
  bad = (λ e. absurd (b e), λ e. absurd (not_both (has_no_present us) strange e));
}

whole_tells : (v : Bool) (us : List Turn) (n : ℕ) → n < 4 → silences us ≡ n → (v ≡ false → has_shown us ≡ false) → (v ≡ true → has_shown us ≡ true) → (not v ≡ false → has_no_present us ≡ false)
    → (not v ≡ true → has_no_present us ≡ true)
    → At (Reaches (if v then Told (Ok tt) else Told (Err faults.BadAnswer))) us
whole_tells true us n few sum less more well ill = tells_there us n few sum (more refl) (well refl)
whole_tells false us n few sum less more well ill = tells_bad us n few sum (less refl) (ill refl)

module _ (id : List ℕ) where
  by_heard : (n : ℕ) (d : Bool) (ts us : List Turn) (o : Option Heard) → Vain n ts → n < 4 → Adds ts us o → At (after (picking_v id) (Reaches (Tries n d)) (note o)) us
  by_heard n d ts us None v few a = (n, record { shown = a.shown refl ∙ v.shown; strange = a.strange refl ∙ v.strange; silent = omega (arith, a.silent, v.silent) }, few)
  by_heard n d ts us (Some (Whole g)) v few a =
      whole_tells (is_present g) us n few (omega (arith, a.silent, v.silent)) (λ e. a.shown e ∙ v.shown) a.shows (λ e. a.strange e ∙ v.strange) a.stranger
  by_heard n d ts us (Some (Collided g)) v few a = tells_there us n few (omega (arith, a.silent, v.silent)) (a.shows refl) (a.strange refl ∙ v.strange)
  by_heard n d ts us (Some Damaged) v few a = tells_there us n few (omega (arith, a.silent, v.silent)) (a.shows refl) (a.strange refl ∙ v.strange)
  by_heard n d ts us (Some Silent) v few a = (record { shown = a.shown refl ∙ v.shown; strange = a.strange refl ∙ v.strange; silent = omega (arith, a.silent, v.silent) }, omega (arith, few))

  asked : (s : Inventory (Unit {0})) (ts : List Turn) (t : Turn) → At (Reaches s) ts → (picking_v id).next s ≡ Asks t.request → At (after (picking_v id) (Reaches s) (note (heard t))) (ts ++ t ∷ [])
  asked (Tries n d) ts t k e = by_heard n d ts (ts ++ t ∷ []) (heard t) k.0 (few_left n _ t.request (nat_lt n tries) refl e) (adds ts t)
  asked (Told r) ts t k e = absurd cc

  never_lit : (s : Inventory (Unit {0})) (ts : List Turn) → At (Reaches s) ts → (picking_v id).next s ≡ LightUp → At (Reaches s) ts
  never_lit s ts k e = k

  -- how it ends
  tried : (n : ℕ) (ts : List Turn) → Vain n ts → n ≤ 4 → (v : Bool) → nat_lt n tries ≡ v → TellsPickedV ts (or_memory (if v then None else Some (Err faults.NotFound)))
  tried n ts v most true h = tells_other ts n faults.Memory (less_of n 4 h) v.silent v.shown v.strange (λ e. cc) (λ e. cc)
  tried n ts v most false h = record {
    there = (λ e. absurd cc, λ e. absurd (not_both (has_shown ts) v.shown e));
    not_found = (λ e. omega (arith, v.silent, most, far_of n 4 h), λ e. refl);
    bad = (λ e. absurd cc, λ e. absurd (not_both (has_no_present ts) v.strange e));
  }

  ends : (p : Progress (Inventory (Unit {0}))) (ts : List Turn) → At p ts → TellsPickedV ts (answer_of (picking_v id) p)
  ends (Reaches (Tries n d)) ts k = tried n ts k.0 k.1 (nat_lt n tries) refl
  ends (Reaches (Told r)) ts k = k
  ends Loses ts k = tells_other ts k.0 faults.FieldLost k.2 k.1.silent k.1.shown k.1.strange (λ e. cc) (λ e. cc)

  begins : At (Reaches (Tries 0 false)) []
  begins = (record { shown = refl; strange = refl; silent = refl }, omega arith)

  pub tells_picked_v : {L : Type 0} (m : Machine L) (old new : Air L) (r : Result (Unit {0}) PollFault) → Enquires (picking_v id) m old r new → TellsPickedV (turns_since old new) r
  tells_picked_v m old new r q =
      let T : Result (Unit {0}) PollFault → Type 0 = λ x. TellsPickedV (turns_since old new) x in
      subst T (sym q.comes) (ends (progress (picking_v id) (Tries 0 false) q.notes) (turns_since old new) (turns_hold (picking_v id) m At begins never_lit asked old new r q))
