-- What begins a log of an end is one thing, and leaves less; and what is told of an end behind the whole log.
use Rattle.std.proofs.Common.{◌≡◌, ℕ, List, [], ◌∷◌, ◌++◌, length, drop, slice_index, Option, None, ap, sym, refl, ◌∙◌, arith, length-append}
use Rattle.zevlodek_c.specs.declared.showing.Told.{Told}
use Rattle.zevlodek_c.specs.Log.{counted}
use Rattle.zevlodek_c.specs.Showing.{Seen}
use Rattle.zevlodek_c.specs.Entries.{Entry, EndTells, Replays, SpellsEntry, end_shown, takes_all}
use Rattle.zevlodek_c.proofs.Counted.{same_bytes, same_rest}
use Rattle.zevlodek_c.proofs.Chains.{Shrinks, IsOne}

pub less_entry : Shrinks SpellsEntry
less_entry e log rest s = omega (arith, ap length s.bytes, length-append (counted e.content) rest)

same_entry : (a b : Entry) → a.kind ≡ b.kind → a.content ≡ b.content → a ≡ b
same_entry a b k c = ap (λ kind. record { kind = kind; content = a.content }) k ∙ ap (λ content. record { kind = b.kind; content = content }) c

pub one_entry : IsOne SpellsEntry
one_entry d e log r s a b =
    let all : d.kind ∷ counted d.content ++ r ≡ e.kind ∷ counted e.content ++ s = sym a.bytes ∙ b.bytes in
    let behind : counted d.content ++ r ≡ counted e.content ++ s = ap (drop 1) all in
    record {
      thing = same_entry d e (ap (λ l. slice_index l 0) all) (same_bytes d.content e.content r s behind);
      rest = same_rest d.content e.content r s behind;
    }

-- behind what no end takes nothing follows
pub none_takes : {N : Type 0} (takes : N → Entry → Option N) (es : List Entry) → takes_all takes None es ≡ None
none_takes takes [] = refl
none_takes takes (e ∷ es) = refl

-- what is told of the end that a log leaves is told of the log
pub tells_replayed : {N : Type 0} (takes : N → Entry → Option N) (begins : N) (shown : N → List ℕ → Told → Seen) (log out : List ℕ) (told : Told)
    (result : Option N) (seen : Seen) → Replays takes begins log result → seen ≡ end_shown shown result out told
    → EndTells takes begins shown log out told seen
tells_replayed takes begins shown log out told result seen r is = record {
  taken = λ es s. is ∙ ap (λ n. end_shown shown n out told) (r.same es s);
  no_log = λ no. is ∙ ap (λ n. end_shown shown n out told) (r.none no);
}
