-- A canonical spelling is read as its command, and no spelling is shorter.
use Rattle.std.proofs.Common.{◌≡◌, ℕ, suc, ◌<◌, ◌^◌, ◌++◌, inl, inr, List, [], ◌∷◌, map, length, get_or, Bool, true, false, ◌==◌, ◌/◌, ◌%◌, ◌≤◌, Ok, refl, sym, ◌∙◌, ap, subst, arith}
use Rattle.std.specs.Prelude.{codes, if◌then◌else◌, ◌&&◌, ltb, ◌≢◌, slice_index_or}
use Rattle.std.specs.List.{All, onto_first, slice_split, join_with_byte}
use Rattle.std.specs.Char.{is_ascii_graphic}
use Rattle.std.specs.Fmt.{decimal}
use Rattle.std.proofs.lemmas.Fmt.{decimal_is_IsNumeral}
use Rattle.std.proofs.lemmas.Str.Parse.{digit_at}
use Rattle.std.proofs.lemmas.List.Elements.{All-cons, All-nil, All-append, All-map, All-from_get_or, All-weaker}
use Rattle.std.proofs.Common.{append_assoc, append-nil}
use Rattle.std.proofs.lemmas.List.{length-append}
use Rattle.std.proofs.lemmas.List.Sums.{AllPass-from_list_all}
use Rattle.std.proofs.lemmas.Bool.Decides.{nat_tests}
use Rattle.std.proofs.lemmas.List.Splits.{slice_split_none, slice_split_at, join_with_byte-slice_split}
use Rattle.hex.specs.Hex.{encode_with, encode_upper, upper_digits, decode_of, IsBytes}
use Rattle.hex.proofs.HexLemmas.{length-encode_with, decode_of-encode_upper, decode_of-ok}
use Rattle.nfc_base.specs.declared.event.Fate.{Fate}
use Rattle.nfc_base.specs.declared.event.Fate.TheVariants.{Pass, Damage, Lose, Break}
use Rattle.bench_script.specs.declared.command.Command.{Command}
use Rattle.bench_script.specs.declared.command.Command.TheVariants.{Skip, Fates, PlaceT2, PlaceT3, PlaceT4, PlaceT5, PlacePeer, Lock, Busy, Offer, Remove, Dump, Inbox, Find, Crowd, Poll3, Read, Read3}
use Rattle.bench_script.specs.declared.command.Command.TheVariants.{Write, Write3, Link, Forge, Raw, Put, Get, Lookup, OnPut, OnGet, Puts, Unlink}
use Rattle.bench_script.specs.declared.command.DeviceId.{DeviceId}
use Rattle.bench_script.specs.declared.command.DeviceId.TheVariants.{A, V}
use Rattle.nfc_base.specs.Signal.{Signal}
use Rattle.nfc_base.specs.declared.frame.Tech.{Tech}
use Rattle.bench_script.specs.DeviceIds.{tech_for}
use Rattle.bench_script.specs.declared.command.SlotPut.{SlotPut}
use Rattle.bench_script.specs.declared.message.Msg.{Msg}
use Rattle.bench_script.specs.declared.message.Msg.TheVariants.{Hex, Gen}
use Rattle.bench_script.specs.Script.{words_of, SpelledBy, Spells, SpellsHex, SpellsIdent, SpellsIdV, SpellsId, SpellsCounted, SpellsMsg, SpellsFates, SpellsName, SpellsPayload, SpellEach, tail_text}
use Rattle.bench_script.specs.Script.{SpellsFrame, SpellsSlotPut, fate_letter}
use Rattle.std.proofs.lemmas.Bool.{ne_eqb}
use Rattle.bench_script.proofs.Spelling.{size_small, spells_words, spells_one}
use Rattle.bench_script.specs.Canonical.{hex_text, id_text, message_text, fates_text, frame_text, slot_put_text, row_text, canonical_words, canonical, IsReadAs}

-- words are parts between spaces
words_split : (line : List ℕ) → words_of line ≡ slice_split (λ b. b == 32) line
words_split [] = refl
words_split (b ∷ bs) = ap (λ ws. if b == 32 then [] ∷ ws else onto_first b ws) (words_split bs)

line_joined : (line : List ℕ) → join_with_byte 32 (words_of line) ≡ line
line_joined line = ap (join_with_byte 32) (words_split line) ∙ join_with_byte-slice_split 32 line

-- A word has visible characters alone, so no space and no LF.
abbrev IsWord : List ℕ → Type 0
IsWord w = All (λ b. 32 < b) w

abbrev AreWords : List (List ℕ) → Type 0
AreWords [] = ⊥
AreWords (w ∷ []) = IsWord w
AreWords (w ∷ v ∷ ws) = IsWord w × AreWords (v ∷ ws)

no_space : (w : List ℕ) → IsWord w → All (λ b. (b == 32) ≡ false) w
no_space w is = All-weaker (λ b. 32 < b) (λ b. (b == 32) ≡ false) (λ b more. grind arith) w is

-- words that are joined part again
parted : (ws : List (List ℕ)) → AreWords ws → words_of (join_with_byte 32 ws) ≡ ws
parted [] are = absurd are
parted (w ∷ []) are = words_split w ∙ slice_split_none (λ b. b == 32) w (no_space w are)
parted (w ∷ v ∷ ws) are =
    words_split (join_with_byte 32 (w ∷ v ∷ ws))
    ∙ slice_split_at (λ b. b == 32) w 32 (join_with_byte 32 (v ∷ ws)) (no_space w are.0) refl
    ∙ ap (λ t. w ∷ t) (sym (words_split (join_with_byte 32 (v ∷ ws))) ∙ parted (v ∷ ws) are.1)

-- ... and stand in one line
no_lf : (w : List ℕ) → IsWord w → All (λ b. b ≢ 10) w
no_lf w is = All-weaker (λ b. 32 < b) (λ b. b ≢ 10) (λ b more e. omega arith) w is

one_line : (ws : List (List ℕ)) → AreWords ws → All (λ b. b ≢ 10) (join_with_byte 32 ws)
one_line [] are = absurd are
one_line (w ∷ []) are = no_lf w are
one_line (w ∷ v ∷ ws) are =
    All-append (λ b. b ≢ 10) w (32 ∷ join_with_byte 32 (v ∷ ws)) (no_lf w are.0)
    (All-cons (λ b. b ≢ 10) 32 (join_with_byte 32 (v ∷ ws)) (λ e. omega arith) (one_line (v ∷ ws) are.1))

-- a text whose characters pass a test is a word
abbrev all_visible : List ℕ → Bool
all_visible [] = true
all_visible (b ∷ bs) = ltb 32 b && all_visible bs

literal : (w : List ℕ) → all_visible w ≡ true → IsWord w
literal [] e = All-nil (λ b. 32 < b)
literal (b ∷ bs) e = All-cons (λ b. 32 < b) b bs (grind arith) (literal bs (grind arith))

digit_visible : (d : ℕ) → d < 16 → 32 < get_or upper_digits d 0
digit_visible d small = literal upper_digits refl d 0 (omega arith)

upper_word : (bytes : List ℕ) → IsBytes bytes → IsWord (encode_upper bytes)
unfolding encode_with
upper_word [] small = All-nil (λ b. 32 < b)
upper_word (b ∷ bs) small =
    let byte : b < 256 = small 0 in
    let more : IsBytes bs = λ k. small (suc k) in
    let high : ℕ = get_or upper_digits (b / 16) 0 in
    let low : ℕ = get_or upper_digits (b % 16) 0 in
    All-cons (λ b. 32 < b) high (low ∷ encode_upper bs) (digit_visible (b / 16) (omega arith))
    (All-cons (λ b. 32 < b) low (encode_upper bs) (digit_visible (b % 16) (omega arith)) (upper_word bs more))

decimal_word : (n : ℕ) → n < 2 ^ 32 → IsWord (decimal n)
decimal_word n small =
    let digits = (decimal_is_IsNumeral n (omega arith)).0.1 in
    All-from_get_or (λ b. 32 < b) (decimal n) 0 (λ i within. let at = digit_at (decimal n) i digits within in omega arith)

-- One word spells a value; this text does too, is as long, and is a word.
record SpellsToo (Spelling : List ℕ → Type 0) (word text : List ℕ) : Type 0 where
  pub spells : Spelling text
  pub size : length word ≡ length text
  pub is : IsWord text

upper_too : (word bytes : List ℕ) → decode_of word ≡ Ok bytes → SpellsToo (λ t. decode_of t ≡ Ok bytes) word (encode_upper bytes)
upper_too word bytes read =
    let known = decode_of-ok word bytes read in
    record {
      spells = decode_of-encode_upper bytes known.3;
      size = known.2 ∙ sym (length-encode_with upper_digits bytes);
      is = upper_word bytes known.3;
    }

ident_too : (word id : List ℕ) → SpellsIdent word id → SpellsToo (λ t. SpellsIdent t id) word (encode_upper id)
ident_too word id s =
    let upper = upper_too word id s.0 in
    record { spells = (upper.spells, s.1); size = upper.size; is = upper.is }

ident_v_too : (word id : List ℕ) → SpellsIdV word id → SpellsToo (λ t. SpellsIdV t id) word (encode_upper id)
ident_v_too word id s =
    let upper = upper_too word id s.0 in
    record { spells = (upper.spells, s.1); size = upper.size; is = upper.is }

id_too : (word : List ℕ) (id : DeviceId) → SpellsId word id → SpellsToo (λ t. SpellsId t id) word (id_text id)
id_too word (A id) s = ident_too word id s
id_too word (V id) s = ident_v_too word id s

hex_some : (b : ℕ) (bs : List ℕ) → hex_text (b ∷ bs) ≡ encode_upper (b ∷ bs)
hex_some b bs =
    ap (λ none. if none then codes "-" else encode_upper (b ∷ bs)) (ne_eqb (length (b ∷ bs)) 0 (λ e. omega arith))

hex_too : (word bytes : List ℕ) → SpellsHex word bytes → SpellsToo (λ t. SpellsHex t bytes) word (hex_text bytes)
hex_too word [] (inl s) = record { spells = inl (refl, refl); size = ap length s.0; is = literal (codes "-") refl }
hex_too word (b ∷ bs) (inl s) = absurd (let none : b ∷ bs ≡ [] = s.1 in cc)
hex_too word [] (inr s) = absurd (let known = decode_of-ok word [] s.1 in omega (arith, s.0, known.2))
hex_too word (b ∷ bs) (inr s) =
    let upper = upper_too word (b ∷ bs) s.1 in
    let some : 0 < length (encode_upper (b ∷ bs)) = omega (arith, s.0, upper.size) in
    subst (SpellsToo (λ t. SpellsHex t (b ∷ bs)) word) (sym (hex_some b bs))
    (record { spells = inr (some, upper.spells); size = upper.size; is = upper.is })

number_is : (word : List ℕ) (n : ℕ) → n < 2 ^ 32 → word ≡ decimal n → SpellsToo (λ t. t ≡ decimal n) word (decimal n)
number_is word n small is = record { spells = refl; size = ap length is; is = decimal_word n small }

counted_too : (word : List ℕ) (count start : ℕ) → SpellsCounted word count start
    → SpellsToo (λ t. SpellsCounted t count start) word (message_text (Gen count start))
counted_too word count start s =
    let count_small : count < 2 ^ 32 = (let few : count ≤ 65536 = s.few in omega arith) in
    let start_small : start < 2 ^ 32 = (let byte : start < 256 = s.byte in omega arith) in
    record {
      spells = record { spells = refl; few = s.few; byte = s.byte };
      size = ap length s.spells;
      is =
          All-append (λ b. 32 < b) (codes "gen:" ++ decimal count) (58 ∷ decimal start)
          (All-append (λ b. 32 < b) (codes "gen:") (decimal count) (literal (codes "gen:") refl)
          (decimal_word count count_small))
          (All-cons (λ b. 32 < b) 58 (decimal start) (omega arith) (decimal_word start start_small));
    }

message_too : (word : List ℕ) (message : Msg) → SpellsMsg word message
    → SpellsToo (λ t. SpellsMsg t message) word (message_text message)
message_too word (Hex bytes) s = hex_too word bytes s
message_too word (Gen count start) s = counted_too word count start s

tail_visible : (v : Bool) (t : ℕ) → t < 2 ^ 32 → IsWord (if v then [] else codes "/" ++ decimal t)
tail_visible true t small = All-nil (λ b. 32 < b)
tail_visible false t small = All-cons (λ b. 32 < b) 47 (decimal t) (omega arith) (decimal_word t small)

letter_visible : (f : Fate) → 32 < fate_letter f
letter_visible Pass = omega arith
letter_visible Damage = omega arith
letter_visible Lose = omega arith
letter_visible Break = omega arith

fates_too : (word : List ℕ) (fates : List Fate) → SpellsFates word fates
    → SpellsToo (λ t. SpellsFates t fates) word (fates_text fates)
fates_too word fates s = record {
  spells = record { letters = refl; some = s.some; few = s.few };
  size = ap length s.letters;
  is = All-map (λ b. 32 < b) fate_letter fates (λ k d within. letter_visible (slice_index_or fates k d));
}

name_too : (word name : List ℕ) → SpellsName word name → SpellsToo (λ t. SpellsName t name) word name
name_too word name s = record {
  spells = record { is = refl; some = s.some; few = s.few; graphic = s.graphic };
  size = ap length s.is;
  is =
      All-weaker (λ b. is_ascii_graphic b ≡ true) (λ b. 32 < b) (λ b visible. grind (arith, nat_tests)) name
      (AllPass-from_list_all is_ascii_graphic name s.graphic);
}

-- a payload's digits
payload_too : (word bytes : List ℕ) → SpellsPayload word bytes → SpellsToo (λ t. SpellsPayload t bytes) word (encode_upper bytes)
payload_too word bytes s =
    let upper = upper_too word bytes s.digits in
    record { spells = record { digits = upper.spells; some = s.some; few = s.few }; size = upper.size; is = upper.is }

frame_too : (tech : Tech) (word : List ℕ) (f : Signal) → SpellsFrame tech word f → SpellsToo (λ t. SpellsFrame tech t f) word (frame_text f)
frame_too tech word f s =
    let bytes = hex_too s.hex f.bytes s.bytes in
    let tail = length-append s.hex (tail_text f.tail) in
    let tail' = length-append (hex_text f.bytes) (tail_text f.tail) in
    let small : f.tail < 8 = s.fits.small in
    record {
      spells = record { hex = hex_text f.bytes; bytes = bytes.spells; is = refl; fits = s.fits; technology = s.technology };
      size = omega (arith, ap length s.is, tail, tail', bytes.size);
      is = All-append (λ b. 32 < b) (hex_text f.bytes) (tail_text f.tail) bytes.is (tail_visible (f.tail == 0) f.tail (omega (arith, small)));
    }

slot_put_too : (word : List ℕ) (p : SlotPut) → SpellsSlotPut word p → SpellsToo (λ t. SpellsSlotPut t p) word (slot_put_text p)
slot_put_too word p s =
    let few : p.slot ≤ 7 = s.number.2 in
    let slot = number_is s.slot p.slot (omega (arith, few)) s.number.0 in
    let message = message_too s.message p.message s.text in
    let front = length-append s.slot (58 ∷ s.message) in
    let front' = length-append (decimal p.slot) (58 ∷ message_text p.message) in
    record {
      spells = record { slot = decimal p.slot; message = message_text p.message; is = refl; number = (refl, s.number.1, s.number.2); text = message.spells };
      size = omega (arith, ap length s.is, front, front', slot.size, message.size);
      is =
          All-append (λ b. 32 < b) (decimal p.slot) (58 ∷ message_text p.message) slot.is
          (All-cons (λ b. 32 < b) 58 (message_text p.message) (omega arith) message.is);
    }

-- The canonical texts of values in a row are spelled too, with words of the same lengths, and stand behind any other word.
record EachToo {T : Type 0} (S : List ℕ → T → Type 0) (vs ws : List (List ℕ)) (xs : List T) : Type 0 where
  pub spells : SpellEach S ws xs
  pub sizes : map length vs ≡ map length ws
  pub are : (w : List ℕ) → IsWord w → AreWords (w ∷ ws)

each_too : {T : Type 0} (S : List ℕ → T → Type 0) (text : T → List ℕ) → ((w : List ℕ) (x : T) → S w x → SpellsToo (λ t. S t x) w (text x))
    → (ws : List (List ℕ)) (xs : List T) → SpellEach S ws xs → EachToo S ws (map text xs) xs
each_too S text too [] [] s = record { spells = s; sizes = refl; are = λ w is. is }
each_too S text too (w ∷ ws) (x ∷ xs) s =
    let one = too w x s.0 in
    let more = each_too S text too ws xs s.1 in
    let first : length w ≡ length (text x) = one.size in
    let rest : map length ws ≡ map length (map text xs) = more.sizes in
    record {
      spells = (one.spells, more.spells);
      sizes = cc;
      are = λ v is. (is, more.are (text x) one.is);
    }
each_too S text too [] (x ∷ xs) s = absurd s
each_too S text too (w ∷ ws) [] s = absurd s

-- a word with others behind it, joined
pub joined_row : (w : List ℕ) (ws : List (List ℕ)) → join_with_byte 32 (w ∷ ws) ≡ w ++ row_text ws
joined_row w [] = sym (append-nil w)
joined_row w (v ∷ ws) = ap (λ t. w ++ 32 ∷ t) (joined_row v ws)

-- a name and a word behind a text, and others behind that
pub row_behind : (line x y name id : List ℕ) (ws : List (List ℕ)) → x ≡ line ++ name → y ≡ x ++ 32 ∷ id
    → y ++ row_text ws ≡ line ++ (name ++ (32 ∷ join_with_byte 32 (id ∷ ws)))
row_behind line x y name id ws p q =
    ap (λ t. t ++ row_text ws) (q ∙ ap (λ t. t ++ 32 ∷ id) p) ∙ append_assoc (line ++ name) (32 ∷ id) (row_text ws)
    ∙ append_assoc line name ((32 ∷ id) ++ row_text ws) ∙ ap (λ t. line ++ (name ++ (32 ∷ t))) (sym (joined_row id ws))

-- Words that are joined are as long as others of the same lengths.
joined_size : (vs ws : List (List ℕ)) → map length vs ≡ map length ws
    → length (join_with_byte 32 vs) ≡ length (join_with_byte 32 ws)
joined_size [] [] e = refl
joined_size (v ∷ []) (w ∷ []) e = cc
joined_size (v ∷ v' ∷ vs) (w ∷ w' ∷ ws) e =
    let first : length v ≡ length w = cc in
    let more : map length (v' ∷ vs) ≡ map length (w' ∷ ws) = cc in
    let front = length-append v (32 ∷ join_with_byte 32 (v' ∷ vs)) in
    let front' = length-append w (32 ∷ join_with_byte 32 (w' ∷ ws)) in
    omega (arith, first, joined_size (v' ∷ vs) (w' ∷ ws) more, front, front')
joined_size vs ws e = absurd cc

-- Words spell a command; these do too, are as long, and are words.
record AllToo (c : Command) (vs ws : List (List ℕ)) : Type 0 where
  pub spells : SpelledBy ws c
  pub sizes : map length vs ≡ map length ws
  pub are : AreWords ws

t2_too : (id : List ℕ) (n : ℕ) (head : List ℕ) (ws : List (List ℕ)) → SpelledBy ws (PlaceT2 id n head)
    → AllToo (PlaceT2 id n head) ws (canonical_words (PlaceT2 id n head))
t2_too id n head ws (i, b, h, e, p, q, r) =
    let x = ident_too i id p in
    let y = number_is b n (let most : n ≤ 256 = q.2 in omega arith) q.0 in
    let z = hex_too h head r in
    let first : length i ≡ length (encode_upper id) = x.size in
    let second : length b ≡ length (decimal n) = y.size in
    let third : length h ≡ length (hex_text head) = z.size in
    record {
      spells = (encode_upper id, decimal n, hex_text head, refl, x.spells, (refl, q.1, q.2), z.spells);
      sizes = cc;
      are = (literal (codes "place") refl, (literal (codes "t2") refl, (x.is, (y.is, z.is))));
    }

t3_too : (id : List ℕ) (n : ℕ) (head : List ℕ) (ws : List (List ℕ)) → SpelledBy ws (PlaceT3 id n head)
    → AllToo (PlaceT3 id n head) ws (canonical_words (PlaceT3 id n head))
t3_too id n head ws (i, b, h, e, p, q, r) =
    let x = ident_v_too i id p in
    let y = number_is b n (let most : n ≤ 256 = q.2 in omega arith) q.0 in
    let z = hex_too h head r in
    let first : length i ≡ length (encode_upper id) = x.size in
    let second : length b ≡ length (decimal n) = y.size in
    let third : length h ≡ length (hex_text head) = z.size in
    record {
      spells = (encode_upper id, decimal n, hex_text head, refl, x.spells, (refl, q.1, q.2), z.spells);
      sizes = cc;
      are = (literal (codes "place") refl, (literal (codes "t3") refl, (x.is, (y.is, z.is))));
    }

t4_too : (id : List ℕ) (n : ℕ) (container head : List ℕ) (ws : List (List ℕ)) → SpelledBy ws (PlaceT4 id n container head)
    → AllToo (PlaceT4 id n container head) ws (canonical_words (PlaceT4 id n container head))
t4_too id n container head ws (i, b, k, h, e, p, q, t, r) =
    let x = ident_too i id p in
    let y = number_is b n (let most : n ≤ 8 = q.1 in omega arith) q.0 in
    let u = hex_too k container t in
    let z = hex_too h head r in
    let first : length i ≡ length (encode_upper id) = x.size in
    let second : length b ≡ length (decimal n) = y.size in
    let third : length k ≡ length (hex_text container) = u.size in
    let fourth : length h ≡ length (hex_text head) = z.size in
    record {
      spells =
          (encode_upper id, decimal n, hex_text container, hex_text head, refl, x.spells, (refl, q.1), u.spells, z.spells);
      sizes = cc;
      are = (literal (codes "place") refl, (literal (codes "t4") refl, (x.is, (y.is, (u.is, z.is)))));
    }

t5_too : (id : List ℕ) (n size : ℕ) (head : List ℕ) (ws : List (List ℕ)) → SpelledBy ws (PlaceT5 id n size head)
    → AllToo (PlaceT5 id n size head) ws (canonical_words (PlaceT5 id n size head))
t5_too id n size head ws (i, b, k, h, e, p, q, t, r) =
    let x = ident_v_too i id p in
    let y = number_is b n (let most : n ≤ 16384 = q.2 in omega arith) q.0 in
    let u = number_is k size (let most : size ≤ 32 = size_small size t.1 in omega arith) t.0 in
    let z = hex_too h head r in
    let first : length i ≡ length (encode_upper id) = x.size in
    let second : length b ≡ length (decimal n) = y.size in
    let third : length k ≡ length (decimal size) = u.size in
    let fourth : length h ≡ length (hex_text head) = z.size in
    record {
      spells =
          (encode_upper id, decimal n, decimal size, hex_text head, refl, x.spells, (refl, q.1, q.2), (refl, t.1), z.spells);
      sizes = cc;
      are = (literal (codes "place") refl, (literal (codes "t5") refl, (x.is, (y.is, (u.is, z.is)))));
    }

peer_too : (id : List ℕ) (lr miu rw limit : ℕ) (ws : List (List ℕ)) → SpelledBy ws (PlacePeer id lr miu rw limit)
    → AllToo (PlacePeer id lr miu rw limit) ws (canonical_words (PlacePeer id lr miu rw limit))
peer_too id lr miu rw limit ws (i, r, m, w, l, e, p, q, s, t, u) =
    let x = ident_too i id p in
    let y = number_is r lr (let most : lr ≤ 3 = q.2 in omega arith) q.0 in
    let z = number_is m miu (let most : miu ≤ 2175 = s.2 in omega arith) s.0 in
    let v = number_is w rw (let most : rw ≤ 15 = t.2 in omega arith) t.0 in
    let o = number_is l limit (let most : limit ≤ 65536 = u.2 in omega arith) u.0 in
    let first : length i ≡ length (encode_upper id) = x.size in
    let second : length r ≡ length (decimal lr) = y.size in
    let third : length m ≡ length (decimal miu) = z.size in
    let fourth : length w ≡ length (decimal rw) = v.size in
    let fifth : length l ≡ length (decimal limit) = o.size in
    record {
      spells = (
        encode_upper id,
        decimal lr,
        decimal miu,
        decimal rw,
        decimal limit,
        refl,
        x.spells,
        (refl, q.1, q.2),
        (refl, s.1, s.2),
        (refl, t.1, t.2),
        (refl, u.1, u.2),
      );
      sizes = cc;
      are = (literal (codes "place") refl, (literal (codes "peer") refl, (x.is, (y.is, (z.is, (v.is, o.is))))));
    }

link_too : (id : List ℕ) (miu rw : ℕ) (ws : List (List ℕ)) → SpelledBy ws (Link id miu rw)
    → AllToo (Link id miu rw) ws (canonical_words (Link id miu rw))
link_too id miu rw ws (i, m, w, e, p, q, r) =
    let x = ident_too i id p in
    let y = number_is m miu (let most : miu ≤ 2175 = q.2 in omega arith) q.0 in
    let z = number_is w rw (let most : rw ≤ 15 = r.2 in omega arith) r.0 in
    let first : length i ≡ length (encode_upper id) = x.size in
    let second : length m ≡ length (decimal miu) = y.size in
    let third : length w ≡ length (decimal rw) = z.size in
    record {
      spells = (encode_upper id, decimal miu, decimal rw, refl, x.spells, (refl, q.1, q.2), (refl, r.1, r.2));
      sizes = cc;
      are = (literal (codes "link") refl, (x.is, (y.is, z.is)));
    }

-- a name and an ID
named_sizes : (ws : List (List ℕ)) (name i : List ℕ) (id : DeviceId) → ws ≡ name ∷ i ∷ [] → length i ≡ length (id_text id)
    → map length ws ≡ map length (name ∷ id_text id ∷ [])
named_sizes ws name i id e same = ap (map length) e ∙ ap (λ n. length name ∷ n ∷ []) same

all_too : (c : Command) (ws : List (List ℕ)) → SpelledBy ws c → AllToo c ws (canonical_words c)
all_too Skip ws s = absurd s
all_too (Fates fates) ws (f, e, p) =
    let x = fates_too f fates p in
    record {
      spells = (fates_text fates, refl, x.spells);
      sizes = ap (map length) e ∙ ap (λ n. 5 ∷ n ∷ []) x.size;
      are = (literal (codes "fates") refl, x.is);
    }
all_too (PlaceT2 id n head) ws s = t2_too id n head ws s
all_too (PlaceT3 id n head) ws s = t3_too id n head ws s
all_too (PlaceT4 id n container head) ws s = t4_too id n container head ws s
all_too (PlaceT5 id n size head) ws s = t5_too id n size head ws s
all_too (PlacePeer id lr miu rw limit) ws s = peer_too id lr miu rw limit ws s
all_too (Lock id block) ws (i, b, e, p, q) =
    let x = id_too i id p in
    let y = number_is b block (let most : block < 65536 = q.1 in omega arith) q.0 in
    let first : length i ≡ length (id_text id) = x.size in
    let second : length b ≡ length (decimal block) = y.size in
    record {
      spells = (id_text id, decimal block, refl, x.spells, (refl, q.1));
      sizes = cc;
      are = (literal (codes "lock") refl, (x.is, y.is));
    }
all_too (Busy id count times) ws (i, k, w, e, p, q, r) =
    let x = id_too i id p in
    let y = number_is k count (let most : count ≤ 5 = q.2 in omega arith) q.0 in
    let z = number_is w times (let most : times ≤ 59 = r.2 in omega arith) r.0 in
    let first : length i ≡ length (id_text id) = x.size in
    let second : length k ≡ length (decimal count) = y.size in
    let third : length w ≡ length (decimal times) = z.size in
    record {
      spells = (id_text id, decimal count, decimal times, refl, x.spells, (refl, q.1, q.2), (refl, r.1, r.2));
      sizes = cc;
      are = (literal (codes "busy") refl, (x.is, (y.is, z.is)));
    }
all_too (Offer id key value) ws (i, k, v, e, p, q, r) =
    let x = id_too i id p in
    let y = hex_too k key q in
    let z = hex_too v value r in
    let first : length i ≡ length (id_text id) = x.size in
    let second : length k ≡ length (hex_text key) = y.size in
    let third : length v ≡ length (hex_text value) = z.size in
    record {
      spells = (id_text id, hex_text key, hex_text value, refl, x.spells, y.spells, z.spells);
      sizes = cc;
      are = (literal (codes "offer") refl, (x.is, (y.is, z.is)));
    }
all_too (Remove id) ws (i, e, p) =
    let x = id_too i id p in
    record {
      spells = (id_text id, refl, x.spells);
      sizes = named_sizes ws (codes "remove") i id e x.size;
      are = (literal (codes "remove") refl, x.is);
    }
all_too (Dump id) ws (i, e, p) =
    let x = id_too i id p in
    record {
      spells = (id_text id, refl, x.spells);
      sizes = named_sizes ws (codes "dump") i id e x.size;
      are = (literal (codes "dump") refl, x.is);
    }
all_too (Inbox id) ws (i, e, p) =
    let x = id_too i id p in
    record {
      spells = (id_text id, refl, x.spells);
      sizes = named_sizes ws (codes "inbox") i id e x.size;
      are = (literal (codes "inbox") refl, x.is);
    }
all_too Find ws e = record { spells = refl; sizes = ap (map length) e; are = literal (codes "find") refl }
all_too Crowd ws e = record { spells = refl; sizes = ap (map length) e; are = literal (codes "crowd") refl }
all_too Poll3 ws e = record { spells = refl; sizes = ap (map length) e; are = literal (codes "poll3") refl }
all_too (Read3 id) ws (i, e, p) =
    let x = ident_v_too i id p in
    record {
      spells = (encode_upper id, refl, x.spells);
      sizes = ap (map length) e ∙ ap (λ n. 5 ∷ n ∷ []) x.size;
      are = (literal (codes "read3") refl, x.is);
    }
all_too (Write3 id message) ws (i, m, e, p, q) =
    let x = ident_v_too i id p in
    let y = message_too m message q in
    let first : length i ≡ length (encode_upper id) = x.size in
    let second : length m ≡ length (message_text message) = y.size in
    record {
      spells = (encode_upper id, message_text message, refl, x.spells, y.spells);
      sizes = cc;
      are = (literal (codes "write3") refl, (x.is, y.is));
    }
all_too (Read id) ws (i, e, p) =
    let x = id_too i id p in
    record {
      spells = (id_text id, refl, x.spells);
      sizes = named_sizes ws (codes "read") i id e x.size;
      are = (literal (codes "read") refl, x.is);
    }
all_too (Write id message) ws (i, m, e, p, q) =
    let x = id_too i id p in
    let y = message_too m message q in
    let first : length i ≡ length (id_text id) = x.size in
    let second : length m ≡ length (message_text message) = y.size in
    record {
      spells = (id_text id, message_text message, refl, x.spells, y.spells);
      sizes = cc;
      are = (literal (codes "write") refl, (x.is, y.is));
    }
all_too (Link id miu rw) ws s = link_too id miu rw ws s
all_too (Forge id payloads) ws (i, hs, e, p, q) =
    let x = ident_too i id p in
    let y = each_too SpellsPayload encode_upper payload_too hs payloads q.each in
    let first : length i ≡ length (encode_upper id) = x.size in
    let rest : map length hs ≡ map length (map encode_upper payloads) = y.sizes in
    record {
      spells = (encode_upper id, map encode_upper payloads, refl, x.spells, record { each = y.spells; some = q.some; few = q.few });
      sizes = ap (map length) e ∙ (let h : 5 ∷ length i ∷ map length hs ≡ 5 ∷ length (encode_upper id) ∷ map length (map encode_upper payloads) = cc in h);
      are = (literal (codes "forge") refl, y.are (encode_upper id) x.is);
    }
all_too (Raw id frames) ws (i, fs, e, p, q) =
    let x = id_too i id p in
    let y = each_too (SpellsFrame (tech_for id)) frame_text (frame_too (tech_for id)) fs frames q.each in
    let first : length i ≡ length (id_text id) = x.size in
    let rest : map length fs ≡ map length (map frame_text frames) = y.sizes in
    record {
      spells = (id_text id, map frame_text frames, refl, x.spells, record { each = y.spells; some = q.some; few = q.few });
      sizes = ap (map length) e ∙ (let h : 3 ∷ length i ∷ map length fs ≡ 3 ∷ length (id_text id) ∷ map length (map frame_text frames) = cc in h);
      are = (literal (codes "raw") refl, y.are (id_text id) x.is);
    }
all_too (Put message) ws (m, e, p) =
    let x = message_too m message p in
    record {
      spells = (message_text message, refl, x.spells);
      sizes = ap (map length) e ∙ ap (λ n. 3 ∷ n ∷ []) x.size;
      are = (literal (codes "put") refl, x.is);
    }
all_too (Get acceptable key) ws (n, k, e, p, q) =
    let x = number_is n acceptable (let most : acceptable ≤ 65536 = p.2 in omega arith) p.0 in
    let y = hex_too k key q in
    let first : length n ≡ length (decimal acceptable) = x.size in
    let second : length k ≡ length (hex_text key) = y.size in
    record {
      spells = (decimal acceptable, hex_text key, refl, (refl, p.1, p.2), y.spells);
      sizes = cc;
      are = (literal (codes "get") refl, (x.is, y.is));
    }
all_too (Lookup name) ws (n, e, p) =
    let x = name_too n name p in
    record {
      spells = (name, refl, x.spells);
      sizes = ap (map length) e ∙ ap (λ k. 6 ∷ k ∷ []) x.size;
      are = (literal (codes "lookup") refl, x.is);
    }
all_too (OnPut slot message) ws (k, m, e, p, q) =
    let x = number_is k slot (let most : slot ≤ 7 = p.2 in omega arith) p.0 in
    let y = message_too m message q in
    let first : length k ≡ length (decimal slot) = x.size in
    let second : length m ≡ length (message_text message) = y.size in
    record {
      spells = (decimal slot, message_text message, refl, (refl, p.1, p.2), y.spells);
      sizes = cc;
      are = (literal (codes "on") refl, (x.is, (literal (codes "put") refl, y.is)));
    }
all_too (OnGet slot acceptable key) ws (k, n, h, e, p, q, r) =
    let x = number_is k slot (let most : slot ≤ 7 = p.2 in omega arith) p.0 in
    let y = number_is n acceptable (let most : acceptable ≤ 65536 = q.2 in omega arith) q.0 in
    let z = hex_too h key r in
    let first : length k ≡ length (decimal slot) = x.size in
    let second : length n ≡ length (decimal acceptable) = y.size in
    let third : length h ≡ length (hex_text key) = z.size in
    record {
      spells = (decimal slot, decimal acceptable, hex_text key, refl, (refl, p.1, p.2), (refl, q.1, q.2), z.spells);
      sizes = cc;
      are = (literal (codes "on") refl, (x.is, (literal (codes "get") refl, (y.is, z.is))));
    }
all_too (Puts puts) ws (ps, e, p) =
    let y = each_too SpellsSlotPut slot_put_text slot_put_too ps puts p.row.each in
    record {
      spells = (map slot_put_text puts, refl, record { row = record { each = y.spells; some = p.row.some; few = p.row.few }; own = p.own });
      sizes = ap (map length) e ∙ ap (λ ns. 4 ∷ ns) y.sizes;
      are = y.are (codes "puts") (literal (codes "puts") refl);
    }
all_too Unlink ws e = record { spells = refl; sizes = ap (map length) e; are = literal (codes "unlink") refl }

spells_canonical : (line : List ℕ) (c : Command) → Spells line c → Spells (canonical c) c
spells_canonical line Skip s = refl
spells_canonical line c s =
    let too = all_too c (words_of line) s in
    spells_words (canonical c) c (subst (λ ws. SpelledBy ws c) (sym (parted (canonical_words c) too.are)) too.spells)

in_one_line : (line : List ℕ) (c : Command) → Spells line c → All (λ b. b ≢ 10) (canonical c)
in_one_line line Skip s = All-nil (λ b. b ≢ 10)
in_one_line line c s = one_line (canonical_words c) (all_too c (words_of line) s).are

pub read_back : (line : List ℕ) (c : Command) → Spells line c → IsReadAs (canonical c) c
read_back line c s =
    let is : Spells (canonical c) c = spells_canonical line c s in
    record { spells = is; alone = λ d other. spells_one (canonical c) d c other is; whole = in_one_line line c s }

pub none_shorter : (line : List ℕ) (c : Command) → Spells line c → length (canonical c) ≤ length line
none_shorter line Skip s = omega arith
none_shorter line c s =
    let same = joined_size (words_of line) (canonical_words c) (all_too c (words_of line) s).sizes in
    omega (arith, same, ap length (line_joined line))
