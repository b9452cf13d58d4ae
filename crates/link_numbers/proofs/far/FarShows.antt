-- Numbers that answers show, one answer after another.
use Rattle.std.proofs.Common.{◌≡◌, ℕ, ◌<◌, ◌≤◌, ◌==◌, Bool, true, false, if◌then◌else◌, List, [], ◌∷◌, ◌++◌, length, Option, Some, None, refl, sym, ap, ◌∙◌, subst, arith, append_assoc, append-nil}
use Rattle.std.specs.Prelude.{map}
use Rattle.std.specs.List.{filter}
use Rattle.std.proofs.lemmas.Bool.{ltb-true}
use Rattle.nfc_base.specs.Choosing.{first_number}
use Rattle.nfc_base.specs.Signal.{Signal}
use Rattle.nfc_base.specs.declared.event.Event.{Event}
use Rattle.nfc_base.specs.declared.event.Event.TheVariants.{Reset, Request, Answer, Clash}
use Rattle.dep_pdu.specs.declared.frame.DepFrame.{DepFrame}
use Rattle.dep_pdu.specs.declared.frame.DepFrame.TheVariants.{AtrReq, AtrRes, Info, Ack, Nack, Attention, Extend, DslReq, DslRes, RlsReq, RlsRes}
use Rattle.dep_link.specs.Exchange.{before_frames, frames_of}
use Rattle.dep_link.specs.Frames.{after, spelled}
use Rattle.dep_link.specs.Payloads.{Cut, begins, joined}
use Rattle.dep_link.specs.Replies.{cut_up, taken_up}
use Rattle.llcp_link.specs.Fronts.{IsProperPrefix}
use Rattle.link_numbers.specs.Shown.{answers_of, cut_off, has_content, number, numbers, pieces_of}
use Rattle.link_numbers.proofs.far.Growing.{payloads_grow}
use Rattle.link_numbers.proofs.far.Spoken.{cut_at}

-- the numbers that these answers show, where U was cut of those before
abbrev pub shows : Cut → List Signal → List ℕ
shows U fs = numbers (cut_up U (pieces_of fs))

pub answers_append : (a b : List Event) → answers_of (a ++ b) ≡ answers_of a ++ answers_of b
answers_append [] b = refl
answers_append (Reset ∷ a) b = answers_append a b
answers_append (Request f x ∷ a) b = answers_append a b
answers_append (Answer g x ∷ a) b = ap (λ fs. g ∷ fs) (answers_append a b)
answers_append (Clash g x ∷ a) b = answers_append a b

-- one answer before others
pub cut_first : (U : Cut) (g : Signal) (fs : List Signal) → cut_up U (pieces_of (g ∷ fs)) ≡ cut_up (cut_up U (pieces_of (g ∷ []))) (pieces_of fs)
cut_first U g fs = go (spelled g)
  where
    kept : (v : DepFrame) (b : Bool) → cut_up U (if b then v ∷ pieces_of fs else pieces_of fs) ≡ cut_up (cut_up U (if b then v ∷ [] else [])) (pieces_of fs)
    kept v true = refl
    kept v false = refl

    go : (o : Option DepFrame) → cut_up U (filter has_content (before_frames o (frames_of fs))) ≡ cut_up (cut_up U (filter has_content (before_frames o []))) (pieces_of fs)
    go None = refl
    go (Some v) = kept v (has_content v)

pub cut_append : (U : Cut) (a b : List Signal) → cut_up U (pieces_of (a ++ b)) ≡ cut_up (cut_up U (pieces_of a)) (pieces_of b)
cut_append U [] b = refl
cut_append U (g ∷ a) b =
    cut_first U g (a ++ b) ∙ cut_append (cut_up U (pieces_of (g ∷ []))) a b ∙ ap (λ c. cut_up c (pieces_of b)) (sym (cut_first U g a))

-- a cut with payloads before its own
abbrev pub behind : List (List ℕ) → Cut → Cut
behind ps c = record { next = c.next; chain = c.chain; payloads = ps ++ c.payloads }

joined_behind : (ps : List (List ℕ)) (c : Cut) (more : Bool) (xs : List ℕ) → joined (behind ps c) more xs ≡ behind ps (joined c more xs)
joined_behind ps c true xs = refl
joined_behind ps c false xs =
    let C : List (List ℕ) → Cut = λ qs. record { next = (joined c false xs).next; chain = []; payloads = qs } in
    ap C (append_assoc ps c.payloads (xs ∷ []))

if_behind : (ps : List (List ℕ)) (b : Bool) (c d e : Cut) → c ≡ behind ps d → (if b then c else behind ps e) ≡ behind ps (if b then d else e)
if_behind ps true c d e q = q
if_behind ps false c d e q = refl

taken_behind : (ps : List (List ℕ)) (c : Cut) (v : DepFrame) → taken_up (behind ps c) v ≡ behind ps (taken_up c v)
taken_behind ps c (Info true more pni x) = if_behind ps (pni == c.next) _ _ c (joined_behind ps c more (c.chain ++ x.items))
taken_behind ps c (Info false more pni x) = refl
taken_behind ps c (Ack true pni) = if_behind ps (pni == c.next) _ _ c refl
taken_behind ps c (Ack false pni) = refl
taken_behind ps c (Nack pni) = refl
taken_behind ps c (Attention up) = refl
taken_behind ps c (Extend up times) = refl
taken_behind ps c (AtrReq id lr general) = refl
taken_behind ps c (AtrRes id timeout lr general) = refl
taken_behind ps c DslReq = refl
taken_behind ps c DslRes = refl
taken_behind ps c RlsReq = refl
taken_behind ps c RlsRes = refl

pub cut_up_behind : (ps : List (List ℕ)) (c : Cut) (vs : List DepFrame) → cut_up (behind ps c) vs ≡ behind ps (cut_up c vs)
cut_up_behind ps c [] = refl
cut_up_behind ps c (v ∷ vs) = ap (λ d. cut_up d vs) (taken_behind ps c v) ∙ cut_up_behind ps (taken_up c v) vs

-- behind a whole reply
pub shows_behind : (n : ℕ) (r : List ℕ) (fs : List Signal) → shows (cut_at n [] (r ∷ [])) fs ≡ number r ∷ shows (begins n) fs
shows_behind n r fs = ap numbers (cut_up_behind (r ∷ []) (begins n) (pieces_of fs))

-- the first number, where the first payload is whole
pub first_whole : (c : Cut) (vs : List DepFrame) (r : List ℕ) (rs : List (List ℕ)) → c.payloads ≡ r ∷ rs → first_number (numbers (cut_up c vs)) ≡ number r
first_whole c vs r rs e =
    let p = payloads_grow c vs in
    let all : (cut_up c vs).payloads ≡ r ∷ (rs ++ p.0) = p.1 ∙ ap (λ ps. ps ++ p.0) e in
    ap (λ ps. first_number (map number ps ++ cut_off (cut_up c vs).chain)) all

-- What the first number is read off where no payload is whole yet: a payload that goes on as the chain, or all that came of one.
pub data ReadOff (chain : List ℕ) (n : ℕ) : Type 0 where
  of_whole : (b : List ℕ) → IsProperPrefix chain b → n ≡ number b → ReadOff chain n
  of_begun : (more : List ℕ) → n ≡ first_number (cut_off (chain ++ more)) → ReadOff chain n

front_further : (a b c : List ℕ) → IsProperPrefix (a ++ b) c → IsProperPrefix a c
front_further a [] c f = subst (λ z. IsProperPrefix z c) (append-nil a) f
front_further a (x ∷ b) c f = record { byte = x; more = b ++ f.byte ∷ f.more; is = f.is ∙ append_assoc a (x ∷ b) (f.byte ∷ f.more) }

read_further : (a b : List ℕ) (n : ℕ) → ReadOff (a ++ b) n → ReadOff a n
read_further a b n (of_whole c f e) = of_whole c (front_further a b c f) e
read_further a b n (of_begun more e) = of_begun (b ++ more) (e ∙ ap (λ z. first_number (cut_off z)) (append_assoc a b more))

some_front : (a xs : List ℕ) → 0 < length xs → IsProperPrefix a (a ++ xs)
some_front a [] h = absurd (omega arith)
some_front a (x ∷ xs) h = record { byte = x; more = xs; is = refl }

module _ (vs : List DepFrame) (next_read : (c : Cut) → c.payloads ≡ [] → ReadOff c.chain (first_number (numbers (cut_up c vs)))) (c : Cut) (none : c.payloads ≡ []) where
  abbrev Reads : Cut → Type 0
  Reads d = ReadOff c.chain (first_number (numbers (cut_up d vs)))

  joined_read : (more : Bool) (xs : List ℕ) → 0 < length xs → Reads (joined c more (c.chain ++ xs))
  joined_read true xs h = read_further c.chain xs _ (next_read (joined c true (c.chain ++ xs)) none)
  joined_read false xs h =
      of_whole (c.chain ++ xs) (some_front c.chain xs h)
      (first_whole (joined c false (c.chain ++ xs)) vs (c.chain ++ xs) [] (ap (λ ps. ps ++ (c.chain ++ xs) ∷ []) none))

  stays_read : Reads c
  stays_read = next_read c none

  if_read : (b : Bool) (d : Cut) → Reads d → Reads (if b then d else c)
  if_read true d r = r
  if_read false d r = stays_read

  one_read : (v : DepFrame) → has_content v ≡ true → Reads (taken_up c v)
  one_read (Info true more pni x) h = if_read (pni == c.next) _ (joined_read more x.items (ltb-true 0 (length x.items) h))
  one_read (Info false more pni x) h = stays_read
  one_read (Ack true pni) h = if_read (pni == c.next) (record c { next = after c.next }) (next_read (record c { next = after c.next }) none)
  one_read (Ack false pni) h = stays_read
  one_read (Nack pni) h = stays_read
  one_read (Attention up) h = stays_read
  one_read (Extend up times) h = stays_read
  one_read (AtrReq id lr general) h = stays_read
  one_read (AtrRes id timeout lr general) h = stays_read
  one_read DslReq h = stays_read
  one_read DslRes h = stays_read
  one_read RlsReq h = stays_read
  one_read RlsRes h = stays_read

-- So the first number is read, whatever pieces follow.
pub first_read : (vs : List DepFrame) (c : Cut) → c.payloads ≡ [] → ReadOff c.chain (first_number (numbers (cut_up c (filter has_content vs))))
first_read [] c none = of_begun [] (ap (λ ps. first_number (map number ps ++ cut_off c.chain)) none ∙ ap (λ z. first_number (cut_off z)) (sym (append-nil c.chain)))
first_read (v ∷ vs) c none = go (λ d k. first_read vs d k) (has_content v) refl
  where
    go : ((d : Cut) → d.payloads ≡ [] → ReadOff d.chain (first_number (numbers (cut_up d (filter has_content vs))))) → (b : Bool) → has_content v ≡ b
        → ReadOff c.chain (first_number (numbers (cut_up c (if b then v ∷ filter has_content vs else filter has_content vs))))
    go reads true e = one_read (filter has_content vs) reads c none v e
    go reads false e = reads c none

-- how a payload begins decides the number of one that was cut off
pub begun_front : (xs ys : List ℕ) → 2 ≤ length xs → cut_off (xs ++ ys) ≡ cut_off xs
begun_front [] ys h = absurd (omega arith)
begun_front (x ∷ []) ys h = absurd (omega arith)
begun_front (x ∷ y ∷ xs) ys h = refl
