-- What a frame spells has no fault, and is read as the frame.
use Rattle.std.proofs.Common.{◌≡◌, ℕ, ◌+◌, ◌/◌, ◌%◌, ◌<◌, ◌≤◌, nat_lt, List, [], ◌∷◌, ◌++◌, length, Bool, true, false, ◌&&◌, ◌==◌, Some, None, refl, ap, sym, subst, ◌∙◌, arith}
use Rattle.std.proofs.lemmas.Grind.{common_steps}
use Rattle.dep_pdu.specs.declared.frame.DepFrame.{DepFrame}
use Rattle.dep_pdu.specs.declared.frame.DepFrame.TheVariants.{AtrReq, AtrRes, Info, Ack, Nack, Attention, Extend, DslReq, DslRes, RlsReq, RlsRes}
use Rattle.dep_pdu.specs.declared.pfb.Pfb.TheVariants.{Information, Ack as AckPfb, Nack as NackPfb}
use Rattle.dep_pdu.specs.Numbers.{request, answer, atr_req, atr_res, information, more_information, ack, nack, extension, no_did, most_times, most_content}
use Rattle.dep_pdu.specs.Spelling.{LeftOpen, pp_byte, pfb_byte, dep_head, body, framed, IsDepFrame, general_of, DepSpelling, plain, written}
use Rattle.dep_pdu.specs.Refusal.{dep_refusal, head, is_pp, pfb_of}
use Rattle.dep_pdu.specs.Reading.{frame_of, spelled_frame, unless}

pub pfb_of_information : (pni : ℕ) → pni < 4 → pfb_of (pfb_byte information pni) ≡ Some (Information false pni)
pfb_of_information pni h = grind (arith, common_steps)

pub pfb_of_more : (pni : ℕ) → pni < 4 → pfb_of (pfb_byte more_information pni) ≡ Some (Information true pni)
pfb_of_more pni h = grind (arith, common_steps)

pub pfb_of_ack : (pni : ℕ) → pni < 4 → pfb_of (pfb_byte ack pni) ≡ Some (AckPfb pni)
pfb_of_ack pni h = grind (arith, common_steps)

pub pfb_of_nack : (pni : ℕ) → pni < 4 → pfb_of (pfb_byte nack pni) ≡ Some (NackPfb pni)
pfb_of_nack pni h = grind (arith, common_steps)

pub is_pp_byte : (lr : ℕ) (marked : Bool) → lr < 4 → is_pp (pp_byte lr marked) ≡ true
is_pp_byte lr true h = grind (arith, common_steps)
is_pp_byte lr false h = grind (arith, common_steps)

pub lr_of_pp : (lr : ℕ) (marked : Bool) → lr < 4 → pp_byte lr marked / 16 ≡ lr
lr_of_pp lr true h = omega arith
lr_of_pp lr false h = omega arith

clean_atr_req : (a b c d e f g h i j bs br pp : ℕ) (general : List ℕ) → length general ≤ 48 → is_pp pp ≡ true → (nat_lt 18 (18 + length general) && pp % 16 == 0) ≡ false
    → dep_refusal (framed (request ∷ atr_req ∷ a ∷ b ∷ c ∷ d ∷ e ∷ f ∷ g ∷ h ∷ i ∷ j ∷ no_did ∷ bs ∷ br ∷ pp ∷ general)) ≡ None
clean_atr_req a b c d e f g h i j bs br pp general l p m = grind (arith, common_steps)

clean_ack : (up : Bool) (pni : ℕ) → pni < 4 → dep_refusal (framed (dep_head up ++ pfb_byte ack pni ∷ [])) ≡ None
clean_ack true pni h = rw (pfb_of_ack pni h) refl
clean_ack false pni h = rw (pfb_of_ack pni h) refl

clean_nack : (pni : ℕ) → pni < 4 → dep_refusal (framed (dep_head false ++ pfb_byte nack pni ∷ [])) ≡ None
clean_nack pni h = rw (pfb_of_nack pni h) refl

clean_extend : (up : Bool) (times : ℕ) → 1 ≤ times → times ≤ most_times → dep_refusal (framed (dep_head up ++ extension ∷ times ∷ [])) ≡ None
clean_extend true times l m = grind (arith, common_steps)
clean_extend false times l m = grind (arith, common_steps)

clean_more : (up : Bool) (pni : ℕ) (content : List ℕ) → pni < 4 → length content ≤ most_content → dep_refusal (framed (dep_head up ++ pfb_byte more_information pni ∷ content)) ≡ None
clean_more true pni content h l = rw (pfb_of_more pni h) (grind (arith, common_steps))
clean_more false pni content h l = rw (pfb_of_more pni h) (grind (arith, common_steps))

clean_information : (up : Bool) (pni : ℕ) (content : List ℕ) → pni < 4 → length content ≤ most_content → dep_refusal (framed (dep_head up ++ pfb_byte information pni ∷ content)) ≡ None
clean_information true pni content h l = rw (pfb_of_information pni h) (grind (arith, common_steps))
clean_information false pni content h l = rw (pfb_of_information pni h) (grind (arith, common_steps))

clean_atr_res : (a b c d e f g h i j bs br timeout pp : ℕ) (general : List ℕ) → length general ≤ 47 → is_pp pp ≡ true → (nat_lt 19 (19 + length general) && pp % 16 == 0) ≡ false
    → dep_refusal (framed (answer ∷ atr_res ∷ a ∷ b ∷ c ∷ d ∷ e ∷ f ∷ g ∷ h ∷ i ∷ j ∷ no_did ∷ bs ∷ br ∷ timeout ∷ pp ∷ general)) ≡ None
clean_atr_res a b c d e f g h i j bs br timeout pp general l p m = grind (arith, common_steps)

-- what holds of every ten bytes holds of a list of ten
ten : (P : List ℕ → Type 0) → ((a b c d e f g h i j : ℕ) → P (a ∷ b ∷ c ∷ d ∷ e ∷ f ∷ g ∷ h ∷ i ∷ j ∷ [])) → (id : List ℕ) → length id ≡ 10 → P id
ten P f (a ∷ b ∷ c ∷ d ∷ e ∷ h ∷ i ∷ j ∷ k ∷ m ∷ []) l = f a b c d e h i j k m
ten P f _ l = absurd (omega (arith, l))

announced : (k lr n : ℕ) (marked : Bool) → (0 < n → marked ≡ true) → (nat_lt k (k + n) && pp_byte lr marked % 16 == 0) ≡ false
announced k lr n true h = grind (arith, common_steps)
announced k lr n false h = grind (arith, common_steps)

-- The bytes have no fault and are read as this frame.
pub record ReadAs (v : DepFrame) (b : List ℕ) : Type 0 where
  pub clean : dep_refusal b ≡ None
  pub value : frame_of (head b) b ≡ Some v

pub read_as : (v : DepFrame) (o : LeftOpen) → IsDepFrame v → (0 < length (general_of v) → o.marked ≡ true) → ReadAs v (framed (body o v))
read_as (AtrReq id lr general) o range marked =
    ten (λ id. ReadAs (AtrReq id lr general) (framed (body o (AtrReq id lr general))))
    (λ a b c d e f g h i j. record {
      clean = clean_atr_req a b c d e f g h i j o.bs o.br (pp_byte lr o.marked) general.items range.2 (is_pp_byte lr o.marked range.1) (announced 18 lr (length general.items) o.marked marked);
      value = ap (λ n. Some (AtrReq (a ∷ b ∷ c ∷ d ∷ e ∷ f ∷ g ∷ h ∷ i ∷ j ∷ []) n general)) (lr_of_pp lr o.marked range.1);
    })
    id range.0
read_as (AtrRes id timeout lr general) o range marked =
    ten (λ id. ReadAs (AtrRes id timeout lr general) (framed (body o (AtrRes id timeout lr general))))
    (λ a b c d e f g h i j. record {
      clean = clean_atr_res a b c d e f g h i j o.bs o.br timeout (pp_byte lr o.marked) general.items range.2 (is_pp_byte lr o.marked range.1) (announced 19 lr (length general.items) o.marked marked);
      value = ap (λ n. Some (AtrRes (a ∷ b ∷ c ∷ d ∷ e ∷ f ∷ g ∷ h ∷ i ∷ j ∷ []) timeout n general)) (lr_of_pp lr o.marked range.1);
    })
    id range.0
read_as (Info true true pni content) o range marked = record { clean = clean_more true pni content.items range.0 range.1; value = rw (pfb_of_more pni range.0) refl }
read_as (Info true false pni content) o range marked = record { clean = clean_information true pni content.items range.0 range.1; value = rw (pfb_of_information pni range.0) refl }
read_as (Info false true pni content) o range marked = record { clean = clean_more false pni content.items range.0 range.1; value = rw (pfb_of_more pni range.0) refl }
read_as (Info false false pni content) o range marked = record { clean = clean_information false pni content.items range.0 range.1; value = rw (pfb_of_information pni range.0) refl }
read_as (Ack true pni) o range marked = record { clean = clean_ack true pni range; value = rw (pfb_of_ack pni range) refl }
read_as (Ack false pni) o range marked = record { clean = clean_ack false pni range; value = rw (pfb_of_ack pni range) refl }
read_as (Nack pni) o range marked = record { clean = clean_nack pni range; value = rw (pfb_of_nack pni range) refl }
read_as (Attention true) o range marked = record { clean = refl; value = refl }
read_as (Attention false) o range marked = record { clean = refl; value = refl }
read_as (Extend true times) o range marked = record { clean = clean_extend true times range.0 range.1; value = refl }
read_as (Extend false times) o range marked = record { clean = clean_extend false times range.0 range.1; value = refl }
read_as DslReq o range marked = record { clean = refl; value = refl }
read_as DslRes o range marked = record { clean = refl; value = refl }
read_as RlsReq o range marked = record { clean = refl; value = refl }
read_as RlsRes o range marked = record { clean = refl; value = refl }

-- what spells a frame is read as it
pub spelled_as : (v : DepFrame) (b : List ℕ) → DepSpelling v b → ReadAs v b
spelled_as v b s = subst (ReadAs v) (sym s.bytes) (read_as v s.open_bytes s.range s.announced)

pub spelled : (v : DepFrame) (b : List ℕ) → DepSpelling v b → spelled_frame b ≡ Some v
spelled v b s =
    let r : ReadAs v b = spelled_as v b s in
    ap (λ f. unless f (frame_of (head b) b)) r.clean ∙ r.value

-- what is written of a value in range spells it
pub written_spells : (v : DepFrame) → IsDepFrame v → DepSpelling v (written v)
written_spells v range =
    record {
      range = range;
      open_bytes = plain v;
      announced = λ more. is_below more;
      bytes = refl;
    }
  where
    is_below : 0 < length (general_of v) → nat_lt 0 (length (general_of v)) ≡ true
    is_below more = grind arith

-- and is read as it
pub written_back : (v : DepFrame) → IsDepFrame v → spelled_frame (written v) ≡ Some v
written_back v range = spelled v (written v) (written_spells v range)
