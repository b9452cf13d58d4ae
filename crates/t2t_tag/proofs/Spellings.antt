-- A frame spells at most one command, and that is the one read from it.
use Rattle.std.proofs.Common.{◌≡◌, ℕ, List, [], ◌∷◌, length, drop, slice_index, slice_index_or, Bool, true, false, ◌==◌, ◌&&◌, if◌then◌else◌, Option, Some, None, IsNone, ◌↔◌, refl, sym, ◌∙◌, ap}
use Rattle.std.proofs.Common.{subst, arith}
use Rattle.nfc_base.specs.declared.frame.Tech.{Tech}
use Rattle.nfc_base.specs.declared.frame.Tech.TheVariants.{A, V, F}
use Rattle.nfc_base.specs.Signal.{Signal, signal, whole_a, is_nfc_a}
use Rattle.nfc_base.specs.Headed.{is_headed, t2_read_code, t2_write_code}
use Rattle.t2t_tag.specs.declared.command.T2Command.{T2Command}
use Rattle.t2t_tag.specs.declared.command.T2Command.TheVariants.{Read, Write}
use Rattle.t2t_tag.specs.Spelling.{spelled_command, T2Spelling}

-- Something is spelled, so it isn't so that nothing is.
pub not_none : {X : Type 0} (Spells : X → Type 0) (x : X) → Spells x → IsNone (Some x) ↔ ((y : X) → ¬ Spells y)
not_none Spells x is = ((λ n. cc), (λ none. absurd (none x is)))

-- a list of so many bytes
two_bytes : (bytes : List ℕ) → length bytes ≡ 2 → bytes ≡ slice_index bytes 0 ∷ slice_index bytes 1 ∷ []
two_bytes [] h = absurd (omega (arith, h))
two_bytes (a ∷ []) h = absurd (omega (arith, h))
two_bytes (a ∷ b ∷ []) h = refl
two_bytes (a ∷ b ∷ c ∷ rest) h = absurd (omega (arith, h))

more_bytes : (bytes : List ℕ) → length bytes ≡ 6 → (bytes ≡ slice_index bytes 0 ∷ slice_index bytes 1 ∷ drop 2 bytes) × (length (drop 2 bytes) ≡ 4)
more_bytes [] h = absurd (omega (arith, h))
more_bytes (a ∷ []) h = absurd (omega (arith, h))
more_bytes (a ∷ b ∷ rest) h = (refl, omega (arith, h))

-- what a frame is that is known by its head
is_begun : (v : Bool) (t n i size head : ℕ) → ((v && (t == 0)) && (n == size) && (i == head)) ≡ true → (v ≡ true) × (t ≡ 0) × (n ≡ size) × (i ≡ head)
is_begun v t n i size head h = (grind (arith, h), grind (arith, h), grind (arith, h), grind (arith, h))

of_nfc_a : (t : Tech) → is_nfc_a t ≡ true → t ≡ A
of_nfc_a A h = refl
of_nfc_a V h = absurd cc
of_nfc_a F h = absurd cc

whole_frame : (f : Signal) (bytes : List ℕ) → f.tech ≡ A → f.tail ≡ 0 → f.bytes ≡ bytes → f ≡ whole_a bytes
whole_frame f bytes t z b = ap (λ x. signal x f.bytes f.tail) t ∙ ap (λ n. signal A f.bytes n) z ∙ ap whole_a b

headed_read : (f : Signal) → is_headed 2 t2_read_code f ≡ true → f ≡ whole_a (t2_read_code ∷ slice_index f.bytes 1 ∷ [])
headed_read f h =
    let k = is_begun (is_nfc_a f.tech) f.tail (length f.bytes) (slice_index f.bytes 0) 2 t2_read_code h in
    whole_frame f (t2_read_code ∷ slice_index f.bytes 1 ∷ []) (of_nfc_a f.tech k.0) k.1 (two_bytes f.bytes k.2 ∙ ap (λ x. x ∷ slice_index f.bytes 1 ∷ []) k.3)

headed_write : (f : Signal) → is_headed 6 t2_write_code f ≡ true → (length (drop 2 f.bytes) ≡ 4) × (f ≡ whole_a (t2_write_code ∷ slice_index f.bytes 1 ∷ drop 2 f.bytes))
headed_write f h =
    let k = is_begun (is_nfc_a f.tech) f.tail (length f.bytes) (slice_index f.bytes 0) 6 t2_write_code h in
    let m = more_bytes f.bytes k.2 in
    (m.1, whole_frame f (t2_write_code ∷ slice_index f.bytes 1 ∷ drop 2 f.bytes) (of_nfc_a f.tech k.0) k.1 (m.0 ∙ ap (λ x. x ∷ slice_index f.bytes 1 ∷ drop 2 f.bytes) k.3))

-- what is spelled by six bytes with the code of WRITE
six_bytes : (bytes : List ℕ) → length bytes ≡ 6 → drop 2 bytes ≡ slice_index_or bytes 2 0 ∷ slice_index_or bytes 3 0 ∷ slice_index_or bytes 4 0 ∷ slice_index_or bytes 5 0 ∷ []
six_bytes [] h = absurd (omega (arith, h))
six_bytes (a ∷ []) h = absurd (omega (arith, h))
six_bytes (a ∷ b ∷ []) h = absurd (omega (arith, h))
six_bytes (a ∷ b ∷ c ∷ []) h = absurd (omega (arith, h))
six_bytes (a ∷ b ∷ c ∷ d ∷ []) h = absurd (omega (arith, h))
six_bytes (a ∷ b ∷ c ∷ d ∷ e ∷ []) h = absurd (omega (arith, h))
six_bytes (a ∷ b ∷ c ∷ d ∷ e ∷ f ∷ []) h = refl
six_bytes (a ∷ b ∷ c ∷ d ∷ e ∷ f ∷ g ∷ rest) h = absurd (omega (arith, h))

by_heads : (f : Signal) (v w : Bool) → is_headed 2 t2_read_code f ≡ v → is_headed 6 t2_write_code f ≡ w → v ≡ false → w ≡ true
    → spelled_command f ≡ Some (Write (slice_index f.bytes 1) (drop 2 f.bytes))
by_heads f true w r s v t = absurd cc
by_heads f false false r s v t = absurd cc
by_heads f false true r s v t = rw r (rw s refl)

begun_so : (v : Bool) (t n i size head : ℕ) → v ≡ true → t ≡ 0 → n ≡ size → i ≡ head → ((v && (t == 0)) && (n == size) && (i == head)) ≡ true
begun_so v t n i size head a b c d = grind (arith, a, b, c, d)

begun_longer : (v : Bool) (t n i head : ℕ) → n ≡ 6 → ((v && (t == 0)) && (n == 2) && (i == head)) ≡ false
begun_longer v t n i head c = grind (arith, c)

pub spells_write : (f : Signal) (bytes : List ℕ) → bytes ≡ f.bytes → f.tech ≡ A → f.tail ≡ 0 → length bytes ≡ 6 → slice_index_or bytes 0 0 ≡ t2_write_code
    → Some (Write (slice_index_or bytes 1 0) (slice_index_or bytes 2 0 ∷ slice_index_or bytes 3 0 ∷ slice_index_or bytes 4 0 ∷ slice_index_or bytes 5 0 ∷ [])) ≡ spelled_command f
spells_write f bytes same t z n i =
    let P : List ℕ → Type 0 = λ xs. length xs ≡ 6 → slice_index_or xs 0 0 ≡ t2_write_code
    → Some (Write (slice_index_or xs 1 0) (slice_index_or xs 2 0 ∷ slice_index_or xs 3 0 ∷ slice_index_or xs 4 0 ∷ slice_index_or xs 5 0 ∷ [])) ≡ spelled_command f in
    let of_frame : P f.bytes = λ m j.
    ap (λ xs. Some (Write (slice_index_or f.bytes 1 0) xs)) (sym (six_bytes f.bytes m))
    ∙ sym (by_heads f (is_headed 2 t2_read_code f) (is_headed 6 t2_write_code f) refl refl
    (begun_longer (is_nfc_a f.tech) f.tail (length f.bytes) (slice_index f.bytes 0) t2_read_code m)
    (begun_so (is_nfc_a f.tech) f.tail (length f.bytes) (slice_index f.bytes 0) 6 t2_write_code (ap is_nfc_a t) z m j)) in
    subst P (sym same) of_frame n i

read_frame : (f : Signal) (v w : Bool) → is_headed 2 t2_read_code f ≡ v → is_headed 6 t2_write_code f ≡ w → (c : T2Command)
    → (if v then Some (Read (slice_index f.bytes 1)) else (if w then Some (Write (slice_index f.bytes 1) (drop 2 f.bytes)) else None)) ≡ Some c → T2Spelling c f
read_frame f true w r s c e = subst (λ c. T2Spelling c f) (let d : Read (slice_index f.bytes 1) ≡ c = cc in d) (headed_read f r)
read_frame f false true r s c e = subst (λ c. T2Spelling c f) (let d : Write (slice_index f.bytes 1) (drop 2 f.bytes) ≡ c = cc in d) (headed_write f s)
read_frame f false false r s c e = absurd cc

write_read : (block : ℕ) (content : List ℕ) → length content ≡ 4 → spelled_command (whole_a (t2_write_code ∷ block ∷ content)) ≡ Some (Write block content)
write_read block [] h = absurd (omega (arith, h))
write_read block (w ∷ []) h = absurd (omega (arith, h))
write_read block (w ∷ x ∷ []) h = absurd (omega (arith, h))
write_read block (w ∷ x ∷ y ∷ []) h = absurd (omega (arith, h))
write_read block (w ∷ x ∷ y ∷ z ∷ []) h = refl
write_read block (w ∷ x ∷ y ∷ z ∷ v ∷ rest) h = absurd (omega (arith, h))

-- the command that a frame spells is read from it
pub reads_back : (f : Signal) (c : T2Command) → T2Spelling c f → spelled_command f ≡ Some c
reads_back f (Read block) is = ap spelled_command is
reads_back f (Write block content) is = ap spelled_command is.1 ∙ write_read block content is.0

-- what is read from a frame is exactly what it spells
pub exact_by : (f : Signal) (o : Option T2Command) → o ≡ spelled_command f → (c : T2Command) → (o ≡ Some c) ↔ T2Spelling c f
exact_by f o is c = ((λ e. read_frame f (is_headed 2 t2_read_code f) (is_headed 6 t2_write_code f) refl refl c (sym is ∙ e)), (λ s. is ∙ reads_back f c s))
