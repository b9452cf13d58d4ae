-- A Type 5 tag that is asked for blocks, whatever it does.
use Rattle.std.proofs.Common.{◌≡◌, ℕ, zero, suc, ◌*◌, ◌<◌, ◌≤◌, inl, inr, List, [], ◌∷◌, ◌++◌, length, Bool, true, false, append-nil, refl, sym, ◌∙◌, ap, subst, arith}
use Rattle.std.specs.Prelude.{◌==◌, ◌||◌, if◌then◌else◌, Result, Ok, Err}
use Rattle.std.proofs.lemmas.List.{length-append}
use Rattle.std.proofs.lemmas.Grind.{flat_map-append}
use Rattle.nfc_base.specs.Signal.{Signal}
use Rattle.nfc_base.specs.TagLinks.{LinkView, IsAnswer, Obeys, Rises}
use Rattle.t5t_tag.specs.Spelling as t5
use Rattle.t5t_tag.specs.Step.{no_block}
use Rattle.t5t_tag.specs.declared.answer.T5Answer.TheVariants as t5_says
use Rattle.tag_reader.specs.declared.how.How.TheVariants.{T5}
use Rattle.tag_reader.specs.declared.ask.Ask.{Ask}
use Rattle.tag_reader.specs.declared.ask.Ask.TheVariants.{One, Many}
use Rattle.tag_reader.specs.declared.known.Known.{Known}
use Rattle.tag_reader.specs.declared.fault.ReadFault.{ReadFault}
use Rattle.tag_reader.specs.declared.fault.ReadFault.TheVariants as fault
use Rattle.tag_reader.specs.declared.told.BlocksTold.TheVariants.{Single, Ended}
use Rattle.tag_reader.specs.Blocks.{ask_frame, ask_count, next_ask, IsMany}
use Rattle.tag_reader.specs.Heard.{next_command, ask_behind, HasContent, IsBlocks, Brings, IsFaultBy, joined, first_size, is_single}
use Rattle.tag_reader.specs.HeardSteps.{Under}
use Rattle.tag_reader.specs.private.BlockSteps.{TellsBlocks, IsKnown, GainsBlocks, EndsBlocks, Grows}
use Rattle.tag_reader.proofs.Bringing.{under_brings, under_stops, memory_ends, under_left}
use Rattle.tag_reader.proofs.OneForm.{five_least}
use Rattle.tag_reader.proofs.Refusals.{error_refuses, refuses_t5}
use Rattle.tag_reader.proofs.BlockLists.{many_single}

-- what is asked
pub ask_is : (ps : List (List ℕ)) (known : Known) (a : Ask) → IsKnown ps known → a ≡ next_ask known.size known.single known.bytes.items → a ≡ ask_behind ps
ask_is ps known a is same =
    same ∙ ap (λ n. next_ask n known.single known.bytes.items) is.size ∙ ap (λ v. next_ask (first_size ps) v known.bytes.items) is.single
    ∙ ap (λ xs. next_ask (first_size ps) (is_single ps) xs) is.bytes

pub command_is : (id : List ℕ) (ps : List (List ℕ)) (known : Known) (a : Ask) (f : Signal) → IsKnown ps known → a ≡ next_ask known.size known.single known.bytes.items → f ≡ ask_frame id a →
    f ≡ next_command (T5 id) ps
command_is id ps known a f is same frame = frame ∙ ap (λ x. ask_frame id x) (ask_is ps known a is same)

-- what the answer tells, in terms of the pieces
pub tells_is : (id : List ℕ) (ps : List (List ℕ)) (known : Known) (a : Ask) (r : Signal) (told : Result _ ReadFault) → IsKnown ps known → a ≡ next_ask known.size known.single known.bytes.items →
    TellsBlocks id a known.size r told → TellsBlocks id (ask_behind ps) (first_size ps) r told
tells_is id ps known a r told is same tells = subst (λ n. TellsBlocks id (ask_behind ps) n r told) is.size (subst (λ x. TellsBlocks id x known.size r told) (ask_is ps known a is same) tells)

one_error : (r : Signal) (c d : ℕ) → r ≡ t5.answer_frame (t5_says.Error c) → r ≡ t5.answer_frame (t5_says.Error d) → c ≡ d
one_error r c d one other = (let both : 1 ∷ c ∷ [] ≡ 1 ∷ d ∷ [] = ap (λ f. f.bytes) (sym one ∙ other) in cc)

pub blocks_fault : (id : List ℕ) (a b c : LinkView) (ps : List (List ℕ)) (f r : Signal) (e : ReadFault) → Under (T5 id) a b ps → f ≡ next_command (T5 id) ps → IsAnswer b c f r →
    TellsBlocks id (ask_behind ps) (first_size ps) r (Err e) → IsFaultBy (T5 id) a c e
blocks_fault id a b c ps f r (fault.Refused code) u is answer tells = record {
  ps = ps;
  r = r;
  stopped = under_stops (T5 id) a b c ps f r u is answer;
  refuses = error_refuses id r code tells.1;
  last = tells.0;
  ends = λ ends. (let least = five_least id a.step a.state ps u.brought.pieces ends.0 in tells.2 (omega (arith, least)) (one_error r code no_block tells.1 ends.2));
}
blocks_fault id a b c ps f r fault.Protocol u is answer tells = inl (record {
  ps = ps;
  r = r;
  stopped = under_stops (T5 id) a b c ps f r u is answer;
  odd = record { no_piece = λ p brings. none p brings; no_refusal = λ code refuses. tells.1 code (refuses_t5 id r code refuses) };
})
  where
    none : (p : List ℕ) → Brings (T5 id) ps r p → ⊥
    none p (inl brings) = tells.0 p brings.content brings.piece
    none p (inr falls) = tells.1 falls.code falls.error
blocks_fault id a b c ps f r fault.NotNdef u is answer tells = absurd tells
blocks_fault id a b c ps f r fault.Version u is answer tells = absurd tells
blocks_fault id a b c ps f r fault.NoRead u is answer tells = absurd tells
blocks_fault id a b c ps f r fault.Sectors u is answer tells = absurd tells
blocks_fault id a b c ps f r fault.BadSize u is answer tells = absurd tells
blocks_fault id a b c ps f r fault.NoMessageTlv u is answer tells = absurd tells
blocks_fault id a b c ps f r fault.BadTlv u is answer tells = absurd tells
blocks_fault id a b c ps f r fault.FieldLost u is answer tells = absurd tells
blocks_fault id a b c ps f r fault.SixBad u is answer tells = absurd tells
blocks_fault id a b c ps f r fault.Memory u is answer tells = absurd tells

-- the tag has ended
some_pieces : (ps : List (List ℕ)) → 0 < first_size ps → 0 < length ps
some_pieces [] some = some
some_pieces (p ∷ ps) some = omega arith

pub blocks_ended : (id : List ℕ) (a b c : LinkView) (ps : List (List ℕ)) (known : Known) (f r : Signal) → Under (T5 id) a b ps → f ≡ next_command (T5 id) ps → Obeys b c f → IsAnswer b c f r →
    TellsBlocks id (ask_behind ps) (first_size ps) r (Ok Ended) → EndsBlocks id a c ps known known
blocks_ended id a b c ps known f r u is obeys answer tells = record {
  r = r;
  stopped = under_stops (T5 id) a b c ps f r u is answer;
  ends = (some_pieces ps tells.1, tells.0, tells.2);
  left = under_left (T5 id) a b c ps f r u is obeys answer;
  same = refl;
}

-- a piece more
single_more : (ps : List (List ℕ)) (p : List ℕ) → is_single (ps ++ p ∷ []) ≡ (is_single ps || (length p == 0))
single_more [] p = or_false (length p == 0)
  where
    or_false : (v : Bool) → (v || false) ≡ v
    or_false true = refl
    or_false false = refl
single_more (q ∷ qs) p = ap (λ v. (length q == 0) || v) (single_more qs p) ∙ or_assoc (length q == 0) (is_single qs) (length p == 0)
  where
    or_assoc : (x y z : Bool) → (x || (y || z)) ≡ ((x || y) || z)
    or_assoc true y z = refl
    or_assoc false y z = refl

pub joined_more : (ps : List (List ℕ)) (p : List ℕ) → joined (ps ++ p ∷ []) ≡ joined ps ++ p
joined_more ps p = flat_map-append (λ x. x) ps (p ∷ []) ∙ ap (λ xs. joined ps ++ xs) (append-nil p)

-- several blocks are asked for only behind a first one
many_some : (ps : List (List ℕ)) → IsMany (ask_behind ps) → 0 < length ps
many_some [] many = absurd many
many_some (p ∷ ps) many = omega arith

pub size_kept : (ps : List (List ℕ)) (p : List ℕ) → 0 < length ps → first_size (ps ++ p ∷ []) ≡ first_size ps
size_kept [] p some = absurd (omega (arith, some))
size_kept (q ∷ qs) p some = refl

pub blocks_refused : (id : List ℕ) (a b c : LinkView) (ps : List (List ℕ)) (known : Known) (f r : Signal) → Under (T5 id) a b ps → IsKnown ps known → f ≡ next_command (T5 id) ps →
    Obeys b c f → Rises b c → IsAnswer b c f r → TellsBlocks id (ask_behind ps) (first_size ps) r (Ok Single) → GainsBlocks id a c ps (record known { single = true })
blocks_refused id a b c ps known f r u is command obeys rises answer tells = record {
  piece = [];
  under = under_brings (T5 id) a b c ps [] f r u command obeys rises answer (inr (record { many = tells.0; code = tells.1; error = tells.2; none = refl }));
  known' = record {
    size = is.size ∙ sym (size_kept ps [] (many_some ps tells.0));
    single = sym (single_more ps [] ∙ or_true (is_single ps));
    bytes = is.bytes ∙ sym (joined_more ps [] ∙ append-nil (joined ps));
  };
}
  where
    or_true : (v : Bool) → (v || true) ≡ true
    or_true true = refl
    or_true false = refl

-- blocks are bytes
count_some : (a : Ask) → 1 ≤ ask_count a
count_some (One block) = omega arith
count_some (Many block more) = omega arith

pub blocks_some : (size : ℕ) (a : Ask) (p : List ℕ) → IsBlocks size a p → 0 < length p
blocks_some zero a p is = omega (arith, is)
blocks_some (suc size) a p is =
    let one = count_some a in
    let grown : suc size * 1 ≤ suc size * ask_count a = Rattle.std.proofs.Math.Nat.mul-le-mul_left (suc size) one in
    omega (arith, is, grown)

nonempty : (p : List ℕ) → 0 < length p → (length p == 0) ≡ false
nonempty p some = grind (arith, some)

pub blocks_learned : (id : List ℕ) (a b c : LinkView) (ps : List (List ℕ)) (known new : Known) (f r : Signal) (p : List ℕ) → Under (T5 id) a b ps → IsKnown ps known → f ≡ next_command (T5 id) ps →
    Obeys b c f → Rises b c → IsAnswer b c f r → HasContent (T5 id) r p × IsBlocks (first_size ps) (ask_behind ps) p →
    new.size ≡ (if known.size == 0 then length p else known.size) → new.single ≡ known.single → new.bytes.items ≡ known.bytes.items ++ p → GainsBlocks id a c ps new
blocks_learned id a b c ps known new f r p u is command obeys rises answer tells size single bytes =
    let some = blocks_some (first_size ps) (ask_behind ps) p tells.1 in
    record {
      piece = p;
      under = under_brings (T5 id) a b c ps p f r u command obeys rises answer (inl (record { content = tells.0; piece = tells.1 }));
      known' = record {
        size = size ∙ by_size ps u is.size;
        single = single ∙ is.single ∙ sym (single_more ps p ∙ ap (λ v. is_single ps || v) (nonempty p some) ∙ or_false (is_single ps));
        bytes = bytes ∙ ap (λ xs. xs ++ p) is.bytes ∙ sym (joined_more ps p);
      };
    }
  where
    or_false : (v : Bool) → (v || false) ≡ v
    or_false true = refl
    or_false false = refl

    by_size : (qs : List (List ℕ)) → Under (T5 id) a b qs → known.size ≡ first_size qs → (if known.size == 0 then length p else known.size) ≡ first_size (qs ++ p ∷ [])
    by_size [] v none = rw none refl
    by_size (q ∷ qs) v same =
        (let least = five_least id a.step a.state (q ∷ qs) v.brought.pieces (omega arith) in
        let some : (known.size == 0) ≡ false = grind (arith, same, least) in
        rw some same)

pub blocks_lost : (id : List ℕ) (a b c : LinkView) (ps : List (List ℕ)) (f r : Signal) (p : List ℕ) → Under (T5 id) a b ps → f ≡ next_command (T5 id) ps →
    Obeys b c f → Rises b c → IsAnswer b c f r → HasContent (T5 id) r p × IsBlocks (first_size ps) (ask_behind ps) p → IsFaultBy (T5 id) a c fault.Memory
blocks_lost id a b c ps f r p u command obeys rises answer tells =
    let under = under_brings (T5 id) a b c ps p f r u command obeys rises answer (inl (record { content = tells.0; piece = tells.1 })) in
    memory_ends (T5 id) a c (ps ++ p ∷ []) under.brought answer.stays

-- a reading grows
pub grows_single : (known : Known) (a : Ask) → a ≡ next_ask known.size known.single known.bytes.items → IsMany a → Grows known (record known { single = true })
grows_single known a same many = inr (refl, many_single known.size known.single known.bytes.items (subst IsMany same many), refl)

pub grows_bytes : (known new : Known) (a : Ask) (p : List ℕ) → IsBlocks known.size a p → new.bytes.items ≡ known.bytes.items ++ p → new.single ≡ known.single → Grows known new
grows_bytes known new a p is bytes single =
    let some = blocks_some known.size a p is in
    inl (omega (arith, ap length bytes, length-append known.bytes.items p, some), single)
