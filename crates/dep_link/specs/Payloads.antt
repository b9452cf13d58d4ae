-- The payloads that frames bring to a target (NFCIP-1, ISO/IEC 18092): of the information and ACK frames that arrived,
-- those with the next PNI are taken, and the contents of the taken information frames are joined over MI.
use Rattle.std.specs.Prelude.{ℕ, ◌==◌, Bool, true, false, List, [], ◌∷◌, ◌++◌, if◌then◌else◌}
use Rattle.dep_pdu.specs.declared.frame.DepFrame.{DepFrame}
use Rattle.dep_pdu.specs.declared.frame.DepFrame.TheVariants.{Info, Ack}
use Rattle.dep_link.specs.Frames.{after}

-- the PNI of the next frame that is taken, the chain so far, and the whole payloads before it
pub record Cut : Type 0 where
  pub next : ℕ
  pub chain : List ℕ
  pub payloads : List (List ℕ)

abbrev pub joined : Cut → Bool → List ℕ → Cut
joined c true xs = record { next = after c.next; chain = xs; payloads = c.payloads }
joined c false xs = record { next = after c.next; chain = []; payloads = c.payloads ++ xs ∷ [] }

-- one frame more
abbrev pub taken : Cut → DepFrame → Cut
taken c (Info false more pni content) = if pni == c.next then joined c more (c.chain ++ content.items) else c
taken c (Ack false pni) = if pni == c.next then record c { next = after c.next } else c
taken c _ = c

abbrev pub cut_by : Cut → List DepFrame → Cut
cut_by c [] = c
cut_by c (v ∷ vs) = cut_by (taken c v) vs

abbrev pub begins : ℕ → Cut
begins first = record { next = first; chain = []; payloads = [] }

-- the payloads of some frames, counted from this PNI
abbrev pub payloads : ℕ → List DepFrame → List (List ℕ)
payloads first vs = (cut_by (begins first) vs).payloads

-- whether some frames bring a whole payload, counted from this PNI
abbrev pub is_some : List (List ℕ) → Bool
is_some [] = false
is_some (x ∷ xs) = true

abbrev pub brings_payload : ℕ → List DepFrame → Bool
brings_payload first vs = is_some (payloads first vs)
