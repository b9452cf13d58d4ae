-- No line spells two commands.
use Rattle.std.proofs.Common.{◌≡◌, ◌≢◌, ℕ, zero, suc, ◌+◌, ◌==◌, ◌<◌, ◌≤◌, inl, inr, List, [], ◌∷◌, drop, map, length, get_or, true, false, if◌then◌else◌, refl, sym, ◌∙◌, ap, subst, arith}
use Rattle.std.specs.List.{onto_first}
use Rattle.std.specs.Prelude.{codes}
use Rattle.std.proofs.lemmas.Fmt.{decimal_injective}
use Rattle.nfc_base.specs.declared.event.Fate.{Fate}
use Rattle.nfc_base.specs.declared.event.Fate.TheVariants.{Pass, Damage, Lose, Break}
use Rattle.hex.proofs.HexLemmas.{decode_of-same}
use Rattle.bench_script.specs.declared.command.Command.{Command}
use Rattle.bench_script.specs.declared.command.Command.TheVariants.{Skip, Fates, PlaceT2, PlaceT3, PlaceT4, PlaceT5, PlacePeer, Lock, Busy, Offer, Remove, Dump, Inbox, Find, Crowd, Poll3, Read, Read3}
use Rattle.bench_script.specs.declared.command.Command.TheVariants.{Write, Write3, Link, Forge, Raw, Put, Get, Lookup, OnPut, OnGet, Puts, Unlink}
use Rattle.bench_script.specs.declared.command.DeviceId.{DeviceId}
use Rattle.bench_script.specs.declared.command.DeviceId.TheVariants.{A, V}
use Rattle.nfc_base.specs.declared.frame.Tech.{Tech}
use Rattle.bench_script.specs.DeviceIds.{tech_for}
use Rattle.bench_script.specs.declared.script.words.CommandName.{CommandName}
use Rattle.bench_script.specs.declared.script.words.CommandName.TheVariants as names
use Rattle.bench_script.specs.private.Words.{SpellsNoHex, name_text}
use Rattle.bench_script.specs.Script.{words_of, is_skipped, SpellsHex, SpellsIdent, SpellsIdV, SpellsId, SpellsWithin, SpellsSize, SpellsCode, SpellsBlock, fate_letter, SpellsFates, SpellsMsg}
use Rattle.bench_script.specs.Script.{SpellsPayload, SpellEach, SpellsFrame, SpellsSlotPut, SpelledBy, Spells, least_blocks, most_blocks, least_blocks_f, most_blocks_f, least_blocks_v, most_blocks_v}
use Rattle.bench_script.specs.Script.{least_lr, most_lr, most_miu, least_rw, most_rw, least_limit, most_limit, least_busy, most_busy, least_times, most_times, least_acceptable, most_acceptable}
use Rattle.bench_script.specs.Script.{least_named_slot, most_slot}
use Rattle.llcp_pdu.specs.Wire.{least_miu}
use Rattle.nfca_poll.specs.Ident.{IsIdent}
use Rattle.t5t_tag.specs.Store.{IsBlockSize}
use Rattle.std.proofs.lemmas.Bool.{ne_eqb}
use Rattle.bench_script.proofs.Messages.{hex_one, message_one}
use Rattle.bench_script.proofs.Rows.{each_one}
use Rattle.bench_script.proofs.Frames.{frame_one}
use Rattle.bench_script.proofs.SlotPuts.{slot_put_one}

-- a word spells one identifier
pub ident_one : (w i j : List ℕ) → SpellsIdent w i → SpellsIdent w j → i ≡ j
ident_one w i j p q = decode_of-same w i j p.0 q.0

-- no identifier of NFC-A has eight bytes
eight_differs : (i : List ℕ) → IsIdent i → length i ≡ 8 → ⊥
eight_differs i is eight = elim is.size [ inl four ↦ omega (arith, four, eight) | inr more ↦ (elim more [ inl seven ↦ omega (arith, seven, eight) | inr ten ↦ omega (arith, ten, eight) ]) ]

one_kind : (w i j : List ℕ) → SpellsIdent w i → SpellsIdV w j → ⊥
one_kind w i j p q = eight_differs i p.1 (ap length (decode_of-same w i j p.0 q.0) ∙ q.1)

pub id_one : (w : List ℕ) (i j : DeviceId) → SpellsId w i → SpellsId w j → i ≡ j
id_one w (A i) (A j) p q = ap A (ident_one w i j p q)
id_one w (A i) (V j) p q = absurd (one_kind w i j p q)
id_one w (V i) (A j) p q = absurd (one_kind w j i q p)
id_one w (V i) (V j) p q = ap V (decode_of-same w i j p.0 q.0)

payload_one : (word a b : List ℕ) → SpellsPayload word a → SpellsPayload word b → a ≡ b
payload_one word a b p q = decode_of-same word a b p.digits q.digits

-- a word spells one number within limits
pub within_one : (least most : ℕ) → most ≤ 65536 → (w : List ℕ) (m n : ℕ) → SpellsWithin least most w m → SpellsWithin least most w n → m ≡ n
within_one least most few w m n p q =
    decimal_injective m n (let h : m ≤ most = p.2 in omega (arith, few, h)) (let h : n ≤ most = q.2 in omega (arith, few, h)) (sym p.0 ∙ q.0)

pub size_small : (n : ℕ) → IsBlockSize n → n ≤ 32
size_small n (inl e) = omega arith
size_small n (inr (inl e)) = omega arith
size_small n (inr (inr (inl e))) = omega arith
size_small n (inr (inr (inr e))) = omega arith

pub size_one : (w : List ℕ) (m n : ℕ) → SpellsSize w m → SpellsSize w n → m ≡ n
size_one w m n p q = decimal_injective m n (let h : m ≤ 32 = size_small m p.1 in omega arith) (let h : n ≤ 32 = size_small n q.1 in omega arith) (sym p.0 ∙ q.0)

pub code_one : (w : List ℕ) (m n : ℕ) → SpellsCode w m → SpellsCode w n → m ≡ n
code_one w m n p q = decimal_injective m n (let h : m ≤ 8 = p.1 in omega arith) (let h : n ≤ 8 = q.1 in omega arith) (sym p.0 ∙ q.0)

pub block_one : (w : List ℕ) (m n : ℕ) → SpellsBlock w m → SpellsBlock w n → m ≡ n
block_one w m n p q = decimal_injective m n (let h : m < 65536 = p.1 in omega arith) (let h : n < 65536 = q.1 in omega arith) (sym p.0 ∙ q.0)

-- no two fates have one letter
letter_one : (a b : Fate) → fate_letter a ≡ fate_letter b → a ≡ b
letter_one Pass Pass e = refl
letter_one Damage Damage e = refl
letter_one Lose Lose e = refl
letter_one Break Break e = refl
letter_one a b e = absurd (omega (arith, e))

letters_one : (a b : List Fate) → map fate_letter a ≡ map fate_letter b → a ≡ b
letters_one [] [] e = refl
letters_one (x ∷ a) (y ∷ b) e =
    let one : x ≡ y = letter_one x y (let h : fate_letter x ≡ fate_letter y = cc in h) in
    let more : a ≡ b = letters_one a b (let h : map fate_letter a ≡ map fate_letter b = cc in h) in
    cc
letters_one a b e = absurd cc

-- a word spells one list of fates
pub fates_one : (w : List ℕ) (a b : List Fate) → SpellsFates w a → SpellsFates w b → a ≡ b
fates_one w a b p q = letters_one a b (sym p.letters ∙ q.letters)

-- each letter of a list of fates is one of a fate
pub letter_at : (fates : List Fate) (i d : ℕ) → i < length (map fate_letter fates) → (f : Fate) × (get_or (map fate_letter fates) i d ≡ fate_letter f)
letter_at [] i d h = absurd (omega (arith, h))
letter_at (f ∷ fs) zero d h = (f, refl)
letter_at (f ∷ fs) (suc i) d h = letter_at fs i d (omega (arith, h))

-- the first byte of the first word
first_byte : List (List ℕ) → ℕ
first_byte [] = 0
first_byte ([] ∷ ws) = 0
first_byte ((b ∷ bs) ∷ ws) = b

-- a word among others
abbrev word : ℕ → List (List ℕ) → List ℕ
word n ws = get_or ws n []

-- a number of a word: its bytes, each worth twice the one before it
abbrev total : List ℕ → ℕ
total [] = 0
total (b ∷ bs) = b + (total bs + total bs)

-- a number of the words by which a command is told from others: that of its first, of `place` that of its second, and
-- of `on` that of its third
abbrev key_by : List (List ℕ) → ℕ
key_by ws =
    if total (word 0 ws) == 3124 then 10000 + total (word 1 ws) else (if total (word 0 ws) == 331 then 20000 + total (word 2 ws) else total (word 0 ws))

abbrev key_of : Command → ℕ
key_of Skip = 0
key_of (Fates a) = 3408
key_of (PlaceT2 a b c) = 10216
key_of (PlaceT3 a b c) = 10218
key_of (PlaceT4 a b c d) = 10220
key_of (PlaceT5 a b c d) = 10222
key_of (PlacePeer a b c d e) = 11630
key_of (Lock a b) = 1582
key_of (Busy a b c) = 1760
key_of (Offer a b c) = 3355
key_of (Remove a) = 6760
key_of (Dump a) = 1666
key_of (Inbox a) = 3525
key_of Find = 1552
key_of Crowd = 3323
key_of Poll3 = 2446
key_of (Read a) = 1504
key_of (Read3 a) = 2320
key_of (Write a b) = 3311
key_of (Write3 a b) = 4943
key_of (Link a b c) = 1614
key_of (Forge a b) = 3220
key_of (Raw a b) = 784
key_of (Put a) = 810
key_of (Get a b) = 769
key_of (Lookup a) = 7086
key_of (OnPut a b) = 20810
key_of (OnGet a b c) = 20769
key_of (Puts a) = 1730
key_of Unlink = 6793

key_at : (ws : List (List ℕ)) (c : Command) → SpelledBy ws c → key_by ws ≡ key_of c
key_at ws Skip p = absurd p
key_at ws (Fates a) (w, is, p) = ap key_by is
key_at ws (PlaceT2 a b c) (w, x, y, is, p, q, r) = ap key_by is
key_at ws (PlaceT3 a b c) (w, x, y, is, p, q, r) = ap key_by is
key_at ws (PlaceT4 a b c d) (w, x, y, z, is, p, q, r, s) = ap key_by is
key_at ws (PlaceT5 a b c d) (w, x, y, z, is, p, q, r, s) = ap key_by is
key_at ws (PlacePeer a b c d e) (w, x, y, z, v, is, p, q, r, s, t) = ap key_by is
key_at ws (Lock a b) (w, x, is, p, q) = ap key_by is
key_at ws (Busy a b c) (w, x, y, is, p, q, r) = ap key_by is
key_at ws (Offer a b c) (w, x, y, is, p, q, r) = ap key_by is
key_at ws (Remove a) (w, is, p) = ap key_by is
key_at ws (Dump a) (w, is, p) = ap key_by is
key_at ws (Inbox a) (w, is, p) = ap key_by is
key_at ws Find e = ap key_by e
key_at ws Crowd e = ap key_by e
key_at ws Poll3 e = ap key_by e
key_at ws (Read a) (w, is, p) = ap key_by is
key_at ws (Read3 a) (w, is, p) = ap key_by is
key_at ws (Write a b) (w, x, is, p, q) = ap key_by is
key_at ws (Write3 a b) (w, x, is, p, q) = ap key_by is
key_at ws (Link a b c) (w, x, y, is, p, q, r) = ap key_by is
key_at ws (Forge a b) (w, hs, is, p, q) = ap key_by is
key_at ws (Raw a b) (w, fs, is, p, q) = ap key_by is
key_at ws (Put a) (w, is, p) = ap key_by is
key_at ws (Get a b) (w, x, is, p, q) = ap key_by is
key_at ws (Lookup a) (w, is, p) = ap key_by is
key_at ws (OnPut a b) (w, x, is, p, q) = ap key_by is
key_at ws (OnGet a b c) (w, x, y, is, p, q, r) = ap key_by is
key_at ws (Puts a) (ps, is, p) = ap key_by is
key_at ws Unlink e = ap key_by e

-- where the first words are alike, so are the values
spelled_alike : (ws : List (List ℕ)) (c d : Command) → key_of c ≡ key_of d → SpelledBy ws c → SpelledBy ws d → c ≡ d
spelled_alike ws (Fates a) (Fates b) key (v, e, p) (w, f, q) =
    let same : v ≡ w = ap (word 1) (sym e ∙ f) in
    ap (λ x. let c : Command = Fates x in c) (fates_one w a b (let P : List ℕ → Type 0 = λ t. SpellsFates t a in subst P same p) q)
spelled_alike ws (Remove i) (Remove j) key (v, e, p) (w, f, q) =
    let same : v ≡ w = ap (word 1) (sym e ∙ f) in
    ap (λ x. let c : Command = Remove x in c) (id_one w i j (let P : List ℕ → Type 0 = λ t. SpellsId t i in subst P same p) q)
spelled_alike ws (Lock i m) (Lock j n) key (u, v, e, p, r) (u', v', e', p', r') =
    let first : u ≡ u' = ap (word 1) (sym e ∙ e') in
    let second : v ≡ v' = ap (word 2) (sym e ∙ e') in
    let ids : i ≡ j = id_one u' i j (let P : List ℕ → Type 0 = λ t. SpellsId t i in subst P first p) p' in
    let numbers : m ≡ n = block_one v' m n (let P : List ℕ → Type 0 = λ t. SpellsBlock t m in subst P second r) r' in
    cc
spelled_alike ws (Busy i m k) (Busy j n l) key (u, v, w, e, p, r, s) (u', v', w', e', p', r', s') =
    let first : u ≡ u' = ap (word 1) (sym e ∙ e') in
    let second : v ≡ v' = ap (word 2) (sym e ∙ e') in
    let third : w ≡ w' = ap (word 3) (sym e ∙ e') in
    let ids : i ≡ j = id_one u' i j (let P : List ℕ → Type 0 = λ t. SpellsId t i in subst P first p) p' in
    let counts : m ≡ n = within_one least_busy most_busy (omega arith) v' m n (let P : List ℕ → Type 0 = λ t. SpellsWithin least_busy most_busy t m in subst P second r) r' in
    let times : k ≡ l = within_one least_times most_times (omega arith) w' k l (let P : List ℕ → Type 0 = λ t. SpellsWithin least_times most_times t k in subst P third s) s' in
    cc
spelled_alike ws (Offer i m g) (Offer j n h) key (u, v, w, e, p, r, s) (u', v', w', e', p', r', s') =
    let first : u ≡ u' = ap (word 1) (sym e ∙ e') in
    let second : v ≡ v' = ap (word 2) (sym e ∙ e') in
    let third : w ≡ w' = ap (word 3) (sym e ∙ e') in
    let ids : i ≡ j = id_one u' i j (let P : List ℕ → Type 0 = λ t. SpellsId t i in subst P first p) p' in
    let keys : m ≡ n = hex_one v' m n (let P : List ℕ → Type 0 = λ t. SpellsHex t m in subst P second r) r' in
    let values : g ≡ h = hex_one w' g h (let P : List ℕ → Type 0 = λ t. SpellsHex t g in subst P third s) s' in
    cc
spelled_alike ws (Inbox i) (Inbox j) key (v, e, p) (w, f, q) =
    let same : v ≡ w = ap (word 1) (sym e ∙ f) in
    ap (λ x. let c : Command = Inbox x in c) (id_one w i j (let P : List ℕ → Type 0 = λ t. SpellsId t i in subst P same p) q)
spelled_alike ws (Dump i) (Dump j) key (v, e, p) (w, f, q) =
    let same : v ≡ w = ap (word 1) (sym e ∙ f) in
    ap (λ x. let c : Command = Dump x in c) (id_one w i j (let P : List ℕ → Type 0 = λ t. SpellsId t i in subst P same p) q)
spelled_alike ws Find Find key p q = refl
spelled_alike ws Crowd Crowd key p q = refl
spelled_alike ws Poll3 Poll3 key p q = refl
spelled_alike ws (Read3 i) (Read3 j) key (v, e, p) (w, f, q) =
    let same : v ≡ w = ap (word 1) (sym e ∙ f) in
    ap (λ x. let c : Command = Read3 x in c) (decode_of-same w i j (let P : List ℕ → Type 0 = λ t. SpellsIdV t i in subst P same p).0 q.0)
spelled_alike ws (Write3 i m) (Write3 j n) key (u, v, e, p, r) (u', v', e', p', r') =
    let first : u ≡ u' = ap (word 1) (sym e ∙ e') in
    let second : v ≡ v' = ap (word 2) (sym e ∙ e') in
    let ids : i ≡ j = decode_of-same u' i j (let P : List ℕ → Type 0 = λ t. SpellsIdV t i in subst P first p).0 p'.0 in
    let messages : m ≡ n = message_one v' m n (let P : List ℕ → Type 0 = λ t. SpellsMsg t m in subst P second r) r' in
    cc
spelled_alike ws (Read i) (Read j) key (v, e, p) (w, f, q) =
    let same : v ≡ w = ap (word 1) (sym e ∙ f) in
    ap (λ x. let c : Command = Read x in c) (id_one w i j (let P : List ℕ → Type 0 = λ t. SpellsId t i in subst P same p) q)
spelled_alike ws (Write i m) (Write j n) key (u, v, e, p, r) (u', v', e', p', r') =
    let first : u ≡ u' = ap (word 1) (sym e ∙ e') in
    let second : v ≡ v' = ap (word 2) (sym e ∙ e') in
    let ids : i ≡ j = id_one u' i j (let P : List ℕ → Type 0 = λ t. SpellsId t i in subst P first p) p' in
    let messages : m ≡ n = message_one v' m n (let P : List ℕ → Type 0 = λ t. SpellsMsg t m in subst P second r) r' in
    cc
spelled_alike ws (Link i m g) (Link j n h) key (u, v, w, e, p, r, s) (u', v', w', e', p', r', s') =
    let first : u ≡ u' = ap (word 1) (sym e ∙ e') in
    let second : v ≡ v' = ap (word 2) (sym e ∙ e') in
    let third : w ≡ w' = ap (word 3) (sym e ∙ e') in
    let ids : i ≡ j = ident_one u' i j (let P : List ℕ → Type 0 = λ t. SpellsIdent t i in subst P first p) p' in
    let units : m ≡ n = within_one least_miu most_miu (omega arith) v' m n (let P : List ℕ → Type 0 = λ t. SpellsWithin least_miu most_miu t m in subst P second r) r' in
    let windows : g ≡ h = within_one least_rw most_rw (omega arith) w' g h (let P : List ℕ → Type 0 = λ t. SpellsWithin least_rw most_rw t g in subst P third s) s' in
    cc
spelled_alike ws (Forge i a) (Forge j b) key (u, hs, e, p, q) (v, ks, f, p', q') =
    let first : u ≡ v = ap (word 1) (sym e ∙ f) in
    let more : hs ≡ ks = ap (drop 2) (sym e ∙ f) in
    let ids : i ≡ j = ident_one v i j (let P : List ℕ → Type 0 = λ t. SpellsIdent t i in subst P first p) p' in
    let payloads : a ≡ b = each_one SpellsPayload payload_one ks a b (let P : List (List ℕ) → Type 0 = λ t. SpellEach SpellsPayload t a in subst P more q.each) q'.each in
    cc
spelled_alike ws (Raw i a) (Raw j b) key (u, hs, e, p, q) (v, ks, f, p', q') =
    let first : u ≡ v = ap (word 1) (sym e ∙ f) in
    let more : hs ≡ ks = ap (drop 2) (sym e ∙ f) in
    let ids : i ≡ j = id_one v i j (let P : List ℕ → Type 0 = λ t. SpellsId t i in subst P first p) p' in
    let tech : Tech = tech_for j in
    let moved : SpellEach (SpellsFrame (tech_for i)) ks a = (let P : List (List ℕ) → Type 0 = λ t. SpellEach (SpellsFrame (tech_for i)) t a in subst P more q.each) in
    let there : SpellEach (SpellsFrame tech) ks a = (let P : DeviceId → Type 0 = λ x. SpellEach (SpellsFrame (tech_for x)) ks a in subst P ids moved) in
    let frames : a ≡ b = each_one (SpellsFrame tech) (frame_one tech) ks a b there q'.each in
    cc
spelled_alike ws (Put a) (Put b) key (v, e, p) (w, f, q) =
    let same : v ≡ w = ap (word 1) (sym e ∙ f) in
    ap (λ x. let c : Command = Put x in c) (message_one w a b (let P : List ℕ → Type 0 = λ t. SpellsMsg t a in subst P same p) q)
spelled_alike ws (Get m g) (Get n h) key (u, v, e, p, r) (u', v', e', p', r') =
    let first : u ≡ u' = ap (word 1) (sym e ∙ e') in
    let second : v ≡ v' = ap (word 2) (sym e ∙ e') in
    let sizes : m ≡ n = within_one least_acceptable most_acceptable (omega arith) u' m n (let P : List ℕ → Type 0 = λ t. SpellsWithin least_acceptable most_acceptable t m in subst P first p) p' in
    let keys : g ≡ h = hex_one v' g h (let P : List ℕ → Type 0 = λ t. SpellsHex t g in subst P second r) r' in
    cc
spelled_alike ws (Lookup a) (Lookup b) key (v, e, p) (w, f, q) =
    let same : v ≡ w = ap (word 1) (sym e ∙ f) in
    ap (λ x. let c : Command = Lookup x in c) (sym p.is ∙ same ∙ q.is)
spelled_alike ws (OnPut m a) (OnPut n b) key (u, v, e, p, r) (u', v', e', p', r') =
    let first : u ≡ u' = ap (word 1) (sym e ∙ e') in
    let second : v ≡ v' = ap (word 3) (sym e ∙ e') in
    let slots : m ≡ n = within_one least_named_slot most_slot (omega arith) u' m n (let P : List ℕ → Type 0 = λ t. SpellsWithin least_named_slot most_slot t m in subst P first p) p' in
    let messages : a ≡ b = message_one v' a b (let P : List ℕ → Type 0 = λ t. SpellsMsg t a in subst P second r) r' in
    cc
spelled_alike ws (OnGet m k g) (OnGet n l h) key (u, v, w, e, p, r, s) (u', v', w', e', p', r', s') =
    let first : u ≡ u' = ap (word 1) (sym e ∙ e') in
    let second : v ≡ v' = ap (word 3) (sym e ∙ e') in
    let third : w ≡ w' = ap (word 4) (sym e ∙ e') in
    let slots : m ≡ n = within_one least_named_slot most_slot (omega arith) u' m n (let P : List ℕ → Type 0 = λ t. SpellsWithin least_named_slot most_slot t m in subst P first p) p' in
    let sizes : k ≡ l = within_one least_acceptable most_acceptable (omega arith) v' k l (let P : List ℕ → Type 0 = λ t. SpellsWithin least_acceptable most_acceptable t k in subst P second r) r' in
    let keys : g ≡ h = hex_one w' g h (let P : List ℕ → Type 0 = λ t. SpellsHex t g in subst P third s) s' in
    cc
spelled_alike ws (Puts a) (Puts b) key (hs, e, p) (ks, f, q) =
    let more : hs ≡ ks = ap (drop 1) (sym e ∙ f) in
    let puts : a ≡ b = each_one SpellsSlotPut slot_put_one ks a b (let P : List (List ℕ) → Type 0 = λ t. SpellEach SpellsSlotPut t a in subst P more p.row.each) q.row.each in
    cc
spelled_alike ws Unlink Unlink key p q = refl
spelled_alike ws (PlaceT2 i m g) (PlaceT2 j n h) key (u, v, w, e, p, r, s) (u', v', w', e', p', r', s') =
    let first : u ≡ u' = ap (word 2) (sym e ∙ e') in
    let second : v ≡ v' = ap (word 3) (sym e ∙ e') in
    let third : w ≡ w' = ap (word 4) (sym e ∙ e') in
    let ids : i ≡ j = ident_one u' i j (let P : List ℕ → Type 0 = λ t. SpellsIdent t i in subst P first p) p' in
    let numbers : m ≡ n = within_one least_blocks most_blocks (omega arith) v' m n (let P : List ℕ → Type 0 = λ t. SpellsWithin least_blocks most_blocks t m in subst P second r) r' in
    let heads : g ≡ h = hex_one w' g h (let P : List ℕ → Type 0 = λ t. SpellsHex t g in subst P third s) s' in
    cc
spelled_alike ws (PlaceT3 i m g) (PlaceT3 j n h) key (u, v, w, e, p, r, s) (u', v', w', e', p', r', s') =
    let first : u ≡ u' = ap (word 2) (sym e ∙ e') in
    let second : v ≡ v' = ap (word 3) (sym e ∙ e') in
    let third : w ≡ w' = ap (word 4) (sym e ∙ e') in
    let ids : i ≡ j = decode_of-same u' i j (let P : List ℕ → Type 0 = λ t. SpellsIdV t i in subst P first p).0 p'.0 in
    let numbers : m ≡ n = within_one least_blocks_f most_blocks_f (omega arith) v' m n (let P : List ℕ → Type 0 = λ t. SpellsWithin least_blocks_f most_blocks_f t m in subst P second r) r' in
    let heads : g ≡ h = hex_one w' g h (let P : List ℕ → Type 0 = λ t. SpellsHex t g in subst P third s) s' in
    cc
spelled_alike ws (PlaceT4 i m k g) (PlaceT4 j n l h) key (u, v, w, x, e, p, r, t, s) (u', v', w', x', e', p', r', t', s') =
    let first : u ≡ u' = ap (word 2) (sym e ∙ e') in
    let second : v ≡ v' = ap (word 3) (sym e ∙ e') in
    let third : w ≡ w' = ap (word 4) (sym e ∙ e') in
    let fourth : x ≡ x' = ap (word 5) (sym e ∙ e') in
    let ids : i ≡ j = ident_one u' i j (let P : List ℕ → Type 0 = λ t. SpellsIdent t i in subst P first p) p' in
    let numbers : m ≡ n = code_one v' m n (let P : List ℕ → Type 0 = λ t. SpellsCode t m in subst P second r) r' in
    let containers : k ≡ l = hex_one w' k l (let P : List ℕ → Type 0 = λ t. SpellsHex t k in subst P third t) t' in
    let heads : g ≡ h = hex_one x' g h (let P : List ℕ → Type 0 = λ t. SpellsHex t g in subst P fourth s) s' in
    cc
spelled_alike ws (PlaceT5 i m k g) (PlaceT5 j n l h) key (u, v, w, x, e, p, r, t, s) (u', v', w', x', e', p', r', t', s') =
    let first : u ≡ u' = ap (word 2) (sym e ∙ e') in
    let second : v ≡ v' = ap (word 3) (sym e ∙ e') in
    let third : w ≡ w' = ap (word 4) (sym e ∙ e') in
    let fourth : x ≡ x' = ap (word 5) (sym e ∙ e') in
    let ids : i ≡ j = decode_of-same u' i j (let P : List ℕ → Type 0 = λ t. SpellsIdV t i in subst P first p).0 p'.0 in
    let numbers : m ≡ n = within_one least_blocks_v most_blocks_v (omega arith) v' m n (let P : List ℕ → Type 0 = λ t. SpellsWithin least_blocks_v most_blocks_v t m in subst P second r) r' in
    let sizes : k ≡ l = size_one w' k l (let P : List ℕ → Type 0 = λ t. SpellsSize t k in subst P third t) t' in
    let heads : g ≡ h = hex_one x' g h (let P : List ℕ → Type 0 = λ t. SpellsHex t g in subst P fourth s) s' in
    cc
spelled_alike ws (PlacePeer i m k g a) (PlacePeer j n l h b) key (u, v, w, x, y, e, p, r, t, s, o) (u', v', w', x', y', e', p', r', t', s', o') =
    let first : u ≡ u' = ap (word 2) (sym e ∙ e') in
    let second : v ≡ v' = ap (word 3) (sym e ∙ e') in
    let third : w ≡ w' = ap (word 4) (sym e ∙ e') in
    let fourth : x ≡ x' = ap (word 5) (sym e ∙ e') in
    let fifth : y ≡ y' = ap (word 6) (sym e ∙ e') in
    let ids : i ≡ j = ident_one u' i j (let P : List ℕ → Type 0 = λ z. SpellsIdent z i in subst P first p) p' in
    let codes' : m ≡ n = within_one least_lr most_lr (omega arith) v' m n (let P : List ℕ → Type 0 = λ z. SpellsWithin least_lr most_lr z m in subst P second r) r' in
    let units : k ≡ l = within_one least_miu most_miu (omega arith) w' k l (let P : List ℕ → Type 0 = λ z. SpellsWithin least_miu most_miu z k in subst P third t) t' in
    let windows : g ≡ h = within_one least_rw most_rw (omega arith) x' g h (let P : List ℕ → Type 0 = λ z. SpellsWithin least_rw most_rw z g in subst P fourth s) s' in
    let limits : a ≡ b = within_one least_limit most_limit (omega arith) y' a b (let P : List ℕ → Type 0 = λ z. SpellsWithin least_limit most_limit z a in subst P fifth o) o' in
    cc
spelled_alike ws Skip d key p q = absurd p
spelled_alike ws c Skip key p q = absurd q
spelled_alike ws c d key p q = absurd (omega (arith, key))

-- words spell one command
pub spelled_one : (ws : List (List ℕ)) (c d : Command) → SpelledBy ws c → SpelledBy ws d → c ≡ d
spelled_one ws c d p q = spelled_alike ws c d (sym (key_at ws c p) ∙ key_at ws d q) p q

-- a line of several words that begins with no name spells nothing
pub nameless : (w : List ℕ) (ws : List (List ℕ)) → ((n : CommandName) → w ≢ name_text n) → ws ≢ [] → (c : Command) → SpelledBy (w ∷ ws) c → ⊥
nameless w ws none some Skip p = p
nameless w ws none some (Fates fates) (f, e, p) = none names.Fates (let h : w ≡ codes "fates" = cc in h)
nameless w ws none some (PlaceT2 id n head) (i, b, d, e, p, q, r) = none names.Place (let h : w ≡ codes "place" = cc in h)
nameless w ws none some (PlaceT3 id n head) (i, b, d, e, p, q, r) = none names.Place (let h : w ≡ codes "place" = cc in h)
nameless w ws none some (PlaceT4 id n k head) (i, b, s, d, e, p, q, t, r) = none names.Place (let h : w ≡ codes "place" = cc in h)
nameless w ws none some (PlaceT5 id n k head) (i, b, s, d, e, p, q, t, r) = none names.Place (let h : w ≡ codes "place" = cc in h)
nameless w ws none some (PlacePeer id n k g o) (i, b, s, d, l, e, p, q, t, r, u) = none names.Place (let h : w ≡ codes "place" = cc in h)
nameless w ws none some (Lock id block) (i, b, e, p, q) = none names.Lock (let h : w ≡ codes "lock" = cc in h)
nameless w ws none some (Busy id count times) (i, k, d, e, p, q, r) = none names.Busy (let h : w ≡ codes "busy" = cc in h)
nameless w ws none some (Offer id key value) (i, k, v, e, p, q, r) = none names.Offer (let h : w ≡ codes "offer" = cc in h)
nameless w ws none some (Inbox id) (i, e, p) = none names.Inbox (let h : w ≡ codes "inbox" = cc in h)
nameless w ws none some (Dump id) (i, e, p) = none names.Dump (let h : w ≡ codes "dump" = cc in h)
nameless w ws none some (Remove id) (i, e, p) = none names.Remove (let h : w ≡ codes "remove" = cc in h)
nameless w ws none some Find e = some (let h : ws ≡ [] = cc in h)
nameless w ws none some Crowd e = some (let h : ws ≡ [] = cc in h)
nameless w ws none some Poll3 e = some (let h : ws ≡ [] = cc in h)
nameless w ws none some (Read3 id) (i, e, p) = none names.Read3 (let h : w ≡ codes "read3" = cc in h)
nameless w ws none some (Write3 id message) (i, m, e, p, q) = none names.Write3 (let h : w ≡ codes "write3" = cc in h)
nameless w ws none some (Read id) (i, e, p) = none names.Read (let h : w ≡ codes "read" = cc in h)
nameless w ws none some (Write id message) (i, m, e, p, q) = none names.Write (let h : w ≡ codes "write" = cc in h)
nameless w ws none some (Link id miu rw) (i, m, v, e, p, q, r) = none names.Link (let h : w ≡ codes "link" = cc in h)
nameless w ws none some (Forge id payloads) (i, hs, e, p, q) = none names.Forge (let h : w ≡ codes "forge" = cc in h)
nameless w ws none some (Raw id frames) (i, fs, e, p, q) = none names.Raw (let h : w ≡ codes "raw" = cc in h)
nameless w ws none some (Put message) (m, e, p) = none names.Put (let h : w ≡ codes "put" = cc in h)
nameless w ws none some (Get acceptable key) (n, k, e, p, q) = none names.Get (let h : w ≡ codes "get" = cc in h)
nameless w ws none some (Lookup name) (n, e, p) = none names.Lookup (let h : w ≡ codes "lookup" = cc in h)
nameless w ws none some (OnPut slot message) (k, m, e, p, q) = none names.On (let h : w ≡ codes "on" = cc in h)
nameless w ws none some (OnGet slot acceptable key) (k, n, h, e, p, q, r) = none names.On (let h : w ≡ codes "on" = cc in h)
nameless w ws none some (Puts puts) (ps, e, p) = none names.Puts (let h : w ≡ codes "puts" = cc in h)
nameless w ws none some Unlink e = some (let h : ws ≡ [] = cc in h)

-- three words of which the last is no HEX place no tag
pub head_refused : (ws : List (List ℕ)) (i b h : List ℕ) → ws ≡ i ∷ b ∷ h ∷ [] → SpellsNoHex h
    → (c : Command) → SpelledBy (codes "place" ∷ codes "t2" ∷ ws) c → ⊥
head_refused ws i b h e none (PlaceT2 id n head) (i', b', h', e', p, q, r) =
    let same : h' ≡ h = cc in
    none.none head (let P : List ℕ → Type 0 = λ t. SpellsHex t head in subst P same r)
head_refused ws i b h e none Skip p = p
head_refused ws i b h e none c p = omega (arith, key_at (codes "place" ∷ codes "t2" ∷ ws) c p)

pub head_three_refused : (ws : List (List ℕ)) (i b h : List ℕ) → ws ≡ i ∷ b ∷ h ∷ [] → SpellsNoHex h
    → (c : Command) → SpelledBy (codes "place" ∷ codes "t3" ∷ ws) c → ⊥
head_three_refused ws i b h e none (PlaceT3 id n head) (i', b', h', e', p, q, r) =
    let same : h' ≡ h = cc in
    none.none head (let P : List ℕ → Type 0 = λ t. SpellsHex t head in subst P same r)
head_three_refused ws i b h e none Skip p = p
head_three_refused ws i b h e none c p = omega (arith, key_at (codes "place" ∷ codes "t3" ∷ ws) c p)

-- nor do four of which the last is none
pub four_refused : (ws : List (List ℕ)) (i b s h : List ℕ) → ws ≡ i ∷ b ∷ s ∷ h ∷ [] → SpellsNoHex h
    → (c : Command) → SpelledBy (codes "place" ∷ codes "t5" ∷ ws) c → ⊥
four_refused ws i b s h e none (PlaceT5 id n k head) (i', b', s', h', e', p, q, t, r) =
    let same : h' ≡ h = cc in
    none.none head (let P : List ℕ → Type 0 = λ t. SpellsHex t head in subst P same r)
four_refused ws i b s h e none Skip p = p
four_refused ws i b s h e none c p = omega (arith, key_at (codes "place" ∷ codes "t5" ∷ ws) c p)

-- and so for a Type 4 tag, of whose words the last two are HEX
pub container_refused : (ws : List (List ℕ)) (i b s h : List ℕ) → ws ≡ i ∷ b ∷ s ∷ h ∷ [] → SpellsNoHex s
    → (c : Command) → SpelledBy (codes "place" ∷ codes "t4" ∷ ws) c → ⊥
container_refused ws i b s h e none (PlaceT4 id n k head) (i', b', s', h', e', p, q, t, r) =
    let same : s' ≡ s = cc in
    none.none k (let P : List ℕ → Type 0 = λ t. SpellsHex t k in subst P same t)
container_refused ws i b s h e none Skip p = p
container_refused ws i b s h e none c p = omega (arith, key_at (codes "place" ∷ codes "t4" ∷ ws) c p)

pub heads_refused : (ws : List (List ℕ)) (i b s h : List ℕ) → ws ≡ i ∷ b ∷ s ∷ h ∷ [] → SpellsNoHex h
    → (c : Command) → SpelledBy (codes "place" ∷ codes "t4" ∷ ws) c → ⊥
heads_refused ws i b s h e none (PlaceT4 id n k head) (i', b', s', h', e', p, q, t, r) =
    let same : h' ≡ h = cc in
    none.none head (let P : List ℕ → Type 0 = λ t. SpellsHex t head in subst P same r)
heads_refused ws i b s h e none Skip p = p
heads_refused ws i b s h e none c p = omega (arith, key_at (codes "place" ∷ codes "t4" ∷ ws) c p)

-- an offer's key and its value are HEX
pub key_refused : (ws : List (List ℕ)) (i k v : List ℕ) → ws ≡ i ∷ k ∷ v ∷ [] → SpellsNoHex k
    → (c : Command) → SpelledBy (codes "offer" ∷ ws) c → ⊥
key_refused ws i k v e none (Offer id key value) (i', k', v', e', p, q, r) =
    let same : k' ≡ k = cc in
    none.none key (let P : List ℕ → Type 0 = λ t. SpellsHex t key in subst P same q)
key_refused ws i k v e none Skip p = p
key_refused ws i k v e none c p = omega (arith, key_at (codes "offer" ∷ ws) c p)

pub value_refused : (ws : List (List ℕ)) (i k v : List ℕ) → ws ≡ i ∷ k ∷ v ∷ [] → SpellsNoHex v
    → (c : Command) → SpelledBy (codes "offer" ∷ ws) c → ⊥
value_refused ws i k v e none (Offer id key value) (i', k', v', e', p, q, r) =
    let same : v' ≡ v = cc in
    none.none value (let P : List ℕ → Type 0 = λ t. SpellsHex t value in subst P same r)
value_refused ws i k v e none Skip p = p
value_refused ws i k v e none c p = omega (arith, key_at (codes "offer" ∷ ws) c p)

-- the key of a get is HEX
pub asked_key_refused : (ws : List (List ℕ)) (n k : List ℕ) → ws ≡ n ∷ k ∷ [] → SpellsNoHex k
    → (c : Command) → SpelledBy (codes "get" ∷ ws) c → ⊥
asked_key_refused ws n k e none (Get acceptable key) (n', k', e', p, q) =
    let same : k' ≡ k = cc in
    none.none key (let P : List ℕ → Type 0 = λ t. SpellsHex t key in subst P same q)
asked_key_refused ws n k e none Skip p = p
asked_key_refused ws n k e none c p = omega (arith, key_at (codes "get" ∷ ws) c p)

pub on_key_refused : (ws : List (List ℕ)) (i n k : List ℕ) → ws ≡ n ∷ k ∷ [] → SpellsNoHex k
    → (c : Command) → SpelledBy (codes "on" ∷ i ∷ codes "get" ∷ ws) c → ⊥
on_key_refused ws i n k e none (OnGet slot acceptable key) (i', n', k', e', p, q, r) =
    let same : k' ≡ k = cc in
    none.none key (let P : List ℕ → Type 0 = λ t. SpellsHex t key in subst P same r)
on_key_refused ws i n k e none Skip p = p
on_key_refused ws i n k e none c p = omega (arith, key_at (codes "on" ∷ i ∷ codes "get" ∷ ws) c p)

-- a line that is skipped spells nothing else
onto_begins : (b : ℕ) (ws : List (List ℕ)) → first_byte (onto_first b ws) ≡ b
unfolding first_byte
onto_begins b [] = refl
onto_begins b (w ∷ ws) = refl

hash_begins_none : (ws : List (List ℕ)) (c : Command) → SpelledBy ws c → first_byte ws ≢ 35
unfolding first_byte
hash_begins_none ws Skip p h = p
hash_begins_none ws (Fates fates) (f, e, p) h = omega (arith, h, ap first_byte e)
hash_begins_none ws (PlaceT2 id n head) (i, b, d, e, p, q, r) h = omega (arith, h, ap first_byte e)
hash_begins_none ws (PlaceT3 id n head) (i, b, d, e, p, q, r) h = omega (arith, h, ap first_byte e)
hash_begins_none ws (PlaceT4 id n k head) (i, b, s, d, e, p, q, t, r) h = omega (arith, h, ap first_byte e)
hash_begins_none ws (PlaceT5 id n k head) (i, b, s, d, e, p, q, t, r) h = omega (arith, h, ap first_byte e)
hash_begins_none ws (PlacePeer id n k g o) (i, b, s, d, l, e, p, q, t, r, u) h = omega (arith, h, ap first_byte e)
hash_begins_none ws (Lock id block) (i, b, e, p, q) h = omega (arith, h, ap first_byte e)
hash_begins_none ws (Busy id count times) (i, k, w, e, p, q, r) h = omega (arith, h, ap first_byte e)
hash_begins_none ws (Offer id key value) (i, k, v, e, p, q, r) h = omega (arith, h, ap first_byte e)
hash_begins_none ws (Inbox id) (i, e, p) h = omega (arith, h, ap first_byte e)
hash_begins_none ws (Dump id) (i, e, p) h = omega (arith, h, ap first_byte e)
hash_begins_none ws (Remove id) (i, e, p) h = omega (arith, h, ap first_byte e)
hash_begins_none ws Find e h = omega (arith, h, ap first_byte e)
hash_begins_none ws Crowd e h = omega (arith, h, ap first_byte e)
hash_begins_none ws Poll3 e h = omega (arith, h, ap first_byte e)
hash_begins_none ws (Read3 id) (i, e, p) h = omega (arith, h, ap first_byte e)
hash_begins_none ws (Write3 id message) (i, m, e, p, q) h = omega (arith, h, ap first_byte e)
hash_begins_none ws (Read id) (i, e, p) h = omega (arith, h, ap first_byte e)
hash_begins_none ws (Write id message) (i, m, e, p, q) h = omega (arith, h, ap first_byte e)
hash_begins_none ws (Link id miu rw) (i, m, w, e, p, q, r) h = omega (arith, h, ap first_byte e)
hash_begins_none ws (Forge id payloads) (i, hs, e, p, q) h = omega (arith, h, ap first_byte e)
hash_begins_none ws (Raw id frames) (i, fs, e, p, q) h = omega (arith, h, ap first_byte e)
hash_begins_none ws (Put message) (m, e, p) h = omega (arith, h, ap first_byte e)
hash_begins_none ws (Get acceptable key) (n, k, e, p, q) h = omega (arith, h, ap first_byte e)
hash_begins_none ws (Lookup name) (n, e, p) h = omega (arith, h, ap first_byte e)
hash_begins_none ws (OnPut slot message) (k, m, e, p, q) h = omega (arith, h, ap first_byte e)
hash_begins_none ws (OnGet slot acceptable key) (k, n, g, e, p, q, r) h = omega (arith, h, ap first_byte e)
hash_begins_none ws (Puts puts) (ps, e, p) h = omega (arith, h, ap first_byte e)
hash_begins_none ws Unlink e h = omega (arith, h, ap first_byte e)

words_begin : (b : ℕ) (bs : List ℕ) → b ≡ 35 → first_byte (words_of (b ∷ bs)) ≡ 35
words_begin b bs hash =
    let other : b ≢ 32 = λ e. omega arith in
    ap (λ v. first_byte (if v then [] ∷ words_of bs else onto_first b (words_of bs))) (ne_eqb b 32 other) ∙ onto_begins b (words_of bs) ∙ hash

pub skipped_names_none : (line : List ℕ) (c : Command) → is_skipped line ≡ true → SpelledBy (words_of line) c → ⊥
unfolding first_byte
skipped_names_none [] Skip h p = p
skipped_names_none [] c h p = cc
skipped_names_none (b ∷ bs) c h p = hash_begins_none (words_of (b ∷ bs)) c p (words_begin b bs (grind arith))

-- any other spells what its words do
pub spells_words : (line : List ℕ) (c : Command) → SpelledBy (words_of line) c → Spells line c
spells_words line Skip p = absurd p
spells_words line c p = p

pub words_spell : (line : List ℕ) (c : Command) → is_skipped line ≡ false → Spells line c → SpelledBy (words_of line) c
words_spell line Skip h p = cc
words_spell line c h p = p

-- no line spells two commands
pub spells_one : (line : List ℕ) (c d : Command) → Spells line c → Spells line d → c ≡ d
spells_one line Skip Skip p q = refl
spells_one line Skip d p q = absurd (skipped_names_none line d p q)
spells_one line c Skip p q = absurd (skipped_names_none line c q p)
spells_one line c d p q = spelled_one (words_of line) c d p q
