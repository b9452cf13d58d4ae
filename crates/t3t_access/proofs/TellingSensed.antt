-- What a search for Type 3 tags answers follows from what it heard.
use Rattle.std.proofs.Common.{◌≡◌, ◌↔◌, ℕ, List, [], ◌∷◌, ◌++◌, Bool, true, false, ◌&&◌, nat_lt, nat_eq, if◌then◌else◌, Option, Some, None, Result, Ok, Err, refl, sym, ◌∙◌, ap, subst}
use Rattle.std.specs.Cmp.Lexicographic.{pointwise}
use Rattle.nfc_base.specs.Signal.{Signal}
use Rattle.nfc_base.specs.Trace.{Turn, heard}
use Rattle.nfc_base.specs.declared.event.Heard.{Heard}
use Rattle.nfc_base.specs.declared.event.Heard.TheVariants.{Whole, Collided, Damaged, Silent}
use Rattle.air_core.specs.Conversation.{LightUp, Asks, note}
use Rattle.air_core.specs.World.{Machine}
use Rattle.air_core.specs.Turn.{Air}
use Rattle.nfca_poll.specs.declared.fault.PollFault.{PollFault}
use Rattle.nfca_poll.specs.declared.fault.PollFault.TheVariants as faults
use Rattle.nfca_poll.specs.Enquiry.{Progress, Reaches, Loses, progress, or_memory, answer_of, Enquires}
use Rattle.nfca_poll.specs.Inventory.{Inventory, Tries, Told, tries}
use Rattle.nfca_poll.specs.ByHeard.{turns_since}
use Rattle.nfca_poll.proofs.enquiries.EnquiryWalks.{after}
use Rattle.nfca_poll.proofs.identifiers.HeardBits.{pointwise_same, pointwise_path}
use Rattle.nfca_poll.proofs.enquiries.TurnWalks.{turns_hold}
use Rattle.nfca_poll.proofs.enquiries.TellingInventory.{IsApart, tells_presence, not_both, any_none, any_one}
use Rattle.t3t_access.specs.declared.polling.Fcrowd.{Fcrowd}
use Rattle.t3t_access.specs.declared.polling.Fcrowd.TheVariants.{Nobody, One, Crowd}
use Rattle.t3t_access.specs.Polling.{is_sensf_res, nfcid2, is_of, all_sensed, polling_f, is_res_of, has_res_of, TellsPolledF}

module _ (id : List ℕ) where
  -- one tag is told exactly where its SENSF_RES was heard
  abbrev IsOne : List Turn → Result Fcrowd PollFault → Type 0
  IsOne ts r = r ≡ Ok (One id) ↔ has_res_of id ts ≡ true

  abbrev At : Progress (Inventory Fcrowd) → List Turn → Type 0
  At (Reaches (Tries n d)) ts = has_res_of id ts ≡ false
  At (Reaches (Told r)) ts = IsOne ts r
  At Loses ts = has_res_of id ts ≡ false

  no_one : (ts : List Turn) (r : Result Fcrowd PollFault) → has_res_of id ts ≡ false → (r ≡ Ok (One id) → ⊥) → IsOne ts r
  no_one ts r h no_ok = (λ e. absurd (no_ok e), λ e. absurd (not_both (has_res_of id ts) h e))

  whole_tells : (g : Signal) (us : List Turn) (v w : Bool) → is_of id g ≡ w → (v && w ≡ false → has_res_of id us ≡ false) → (v && w ≡ true → has_res_of id us ≡ true)
      → At (Reaches (if v then Told (Ok (One (nfcid2 g))) else Told (Err faults.BadAnswer))) us
  whole_tells g us true true o less more = (λ e. more refl, λ e. ap (λ i. Ok (One i)) (pointwise_path (nfcid2 g) id o))
  whole_tells g us true false o less more = no_one us (Ok (One (nfcid2 g))) (less refl) (λ e. not_both (is_of id g) o (ap (pointwise nat_eq (nfcid2 g)) (sym (told_in e)) ∙ pointwise_same (nfcid2 g)))
    where
      told_in : ◌≡◌ {A = Result Fcrowd PollFault} (Ok (One (nfcid2 g))) (Ok (One id)) → nfcid2 g ≡ id
      told_in e = cc
  whole_tells g us false w o less more = no_one us (Err faults.BadAnswer) (less refl) (λ e. cc)

  by_heard : (n : ℕ) (d : Bool) (ts : List Turn) (t : Turn) (o : Option Heard) → heard t ≡ o → has_res_of id ts ≡ false → At (after polling_f (Reaches (Tries n d)) (note o)) (ts ++ t ∷ [])
  by_heard n d ts t None h v = any_none (λ u. is_res_of id (heard u)) ts t (ap (is_res_of id) h) ∙ v
  by_heard n d ts t (Some (Whole g)) h v =
      whole_tells g (ts ++ t ∷ []) (is_sensf_res g) (is_of id g) refl
      (λ e. any_none (λ u. is_res_of id (heard u)) ts t (ap (is_res_of id) h ∙ e) ∙ v) (λ e. any_one (λ u. is_res_of id (heard u)) ts t (ap (is_res_of id) h ∙ e))
  by_heard n d ts t (Some (Collided g)) h v = no_one (ts ++ t ∷ []) (Ok Crowd) (any_none (λ u. is_res_of id (heard u)) ts t (ap (is_res_of id) h) ∙ v) (λ e. cc)
  by_heard n d ts t (Some Damaged) h v = any_none (λ u. is_res_of id (heard u)) ts t (ap (is_res_of id) h) ∙ v
  by_heard n d ts t (Some Silent) h v = any_none (λ u. is_res_of id (heard u)) ts t (ap (is_res_of id) h) ∙ v

  asked : (s : Inventory Fcrowd) (ts : List Turn) (t : Turn) → At (Reaches s) ts → polling_f.next s ≡ Asks t.request → At (after polling_f (Reaches s) (note (heard t))) (ts ++ t ∷ [])
  asked (Tries n d) ts t k e = by_heard n d ts t (heard t) refl k
  asked (Told r) ts t k e = absurd cc

  never_lit : (s : Inventory Fcrowd) (ts : List Turn) → At (Reaches s) ts → polling_f.next s ≡ LightUp → At (Reaches s) ts
  never_lit s ts k e = k

  tried : (ts : List Turn) → has_res_of id ts ≡ false → (d v : Bool) → IsOne ts (or_memory (if v then None else Some (if d then Err faults.Disturbed else Ok Nobody)))
  tried ts h d true = no_one ts (Err faults.Memory) h (λ e. cc)
  tried ts h true false = no_one ts (Err faults.Disturbed) h (λ e. cc)
  tried ts h false false = no_one ts (Ok Nobody) h (λ e. cc)

  ends : (s : Progress (Inventory Fcrowd)) (ts : List Turn) → At s ts → IsOne ts (answer_of polling_f s)
  ends (Reaches (Tries n d)) ts k = tried ts k d (nat_lt n tries)
  ends (Reaches (Told r)) ts k = k
  ends Loses ts k = no_one ts (Err faults.FieldLost) k (λ e. cc)

  pub one_told : {L : Type 0} (m : Machine L) (old new : Air L) (r : Result Fcrowd PollFault) → Enquires polling_f m old r new → IsOne (turns_since old new) r
  one_told m old new r q =
      let T : Result Fcrowd PollFault → Type 0 = λ x. IsOne (turns_since old new) x in
      subst T (sym q.comes) (ends (progress polling_f polling_f.start q.notes) (turns_since old new) (turns_hold polling_f m At refl never_lit asked old new r q))

sensed_apart : IsApart all_sensed
sensed_apart = record { nobody = λ e. cc; one = λ g e. cc; crowd = λ g e. cc }

pub tells_polled_f : {L : Type 0} (m : Machine L) (old new : Air L) (r : Result Fcrowd PollFault) → Enquires polling_f m old r new → TellsPolledF (turns_since old new) r
tells_polled_f m old new r q = record { presence = tells_presence all_sensed sensed_apart m old new r q; one = λ id. one_told id m old new r q }
