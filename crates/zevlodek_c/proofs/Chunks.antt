-- What begins a log of payloads, or offers, is one thing, and leaves less.
use Rattle.std.proofs.Common.{◌≡◌, ℕ, List, ◌++◌, length, ap, sym, ◌∙◌, arith, length-append}
use Rattle.snep_core.specs.Session.{Offer}
use Rattle.zevlodek_c.specs.Log.{counted}
use Rattle.zevlodek_c.specs.Peer.{SpellsOffer, SpellsPayload}
use Rattle.zevlodek_c.proofs.Counted.{same_bytes, same_rest}
use Rattle.zevlodek_c.proofs.Chains.{Shrinks, IsOne}

pub less_payload : Shrinks SpellsPayload
less_payload p log rest s = omega (arith, ap length s.bytes, length-append (counted p) rest)

pub one_payload : IsOne SpellsPayload
one_payload p q log r s a b =
    let e : counted p ++ r ≡ counted q ++ s = sym a.bytes ∙ b.bytes in
    record { thing = same_bytes p q r s e; rest = same_rest p q r s e }

pub less_offer : Shrinks SpellsOffer
less_offer o bytes rest s =
    omega (arith, ap length s.spelled, length-append (counted o.key) (counted o.value ++ rest), length-append (counted o.value) rest)

-- what stands behind a key
pub behind_key : (bytes key left : List ℕ) (o : Offer) (rest : List ℕ) → bytes ≡ counted key ++ left → SpellsOffer o bytes rest
    → left ≡ counted o.value ++ rest
behind_key bytes key left o rest e s = same_rest key o.key left (counted o.value ++ rest) (sym e ∙ s.spelled)

same_offer : (a b : Offer) → a.key ≡ b.key → a.value ≡ b.value → a ≡ b
same_offer a b k v = ap (λ key. record { key = key; value = a.value }) k ∙ ap (λ value. record { key = b.key; value = value }) v

pub one_offer : IsOne SpellsOffer
one_offer o p bytes r s a b =
    let e : counted o.key ++ (counted o.value ++ r) ≡ counted p.key ++ (counted p.value ++ s) = sym a.spelled ∙ b.spelled in
    let f : counted o.value ++ r ≡ counted p.value ++ s = same_rest o.key p.key (counted o.value ++ r) (counted p.value ++ s) e in
    record {
      thing = same_offer o p (same_bytes o.key p.key (counted o.value ++ r) (counted p.value ++ s) e) (same_bytes o.value p.value r s f);
      rest = same_rest o.value p.value r s f;
    }
