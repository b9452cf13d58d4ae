-- What is read from a frame is exactly the command that it spells.
use Rattle.std.proofs.Common.{◌≡◌, ℕ, suc, ◌<◌, List, [], ◌∷◌, ◌++◌, length, Bool, true, ◌==◌, ◌&&◌, if◌then◌else◌, Option, Some, None, ◌↔◌, refl, sym, ◌∙◌, ap, subst}
use Rattle.nfc_base.specs.Signal.{Signal}
use Rattle.t3t_tag.specs.declared.command.T3Command.{T3Command}
use Rattle.t3t_tag.specs.declared.command.T3Command.TheVariants.{Poll, Check, Update}
use Rattle.t3t_tag.specs.Store.{block_size, id_size}
use Rattle.t3t_tag.specs.Spelling.{poll_code, check_code, update_code, read_service, write_service, element_code, two_bytes, pair, framed, elements, asked_of, command_bytes, IsT3Command, is_whole_f}
use Rattle.t3t_tag.specs.Spelling.{T3Spelling}
use Rattle.t3t_tag.specs.Reading.{blocks_asked, read_poll, check_named, read_check, read_update, behind_id, read_request, command_of, spelled_command}
use Rattle.t3t_tag.proofs.Bytes.{equal_of, is_equal, same_number, whole_frame, left_of, right_of, by_if, AreBytes, two_bytes_of, pair_of, behind_told, behind_reads}
use Rattle.t3t_tag.proofs.Elements.{AreAsked, asked_told, asked_read}

-- these bytes spell it
pub record AreSpelled (c : T3Command) (bytes : List ℕ) : Type 0 where
  pub range : IsT3Command c
  pub frame : bytes ≡ command_bytes c

told : (v c : T3Command) (bytes : List ℕ) → AreSpelled v bytes → Some v ≡ Some c → AreSpelled c bytes
told v c bytes is e =
    let P : T3Command → Type 0 = λ x. AreSpelled x bytes in
    subst P (let d : v ≡ c = cc in d) is

poll_told : (rest : List ℕ) (c : T3Command) → AreBytes rest → read_poll rest ≡ Some c → AreSpelled c (framed (poll_code ∷ rest))
poll_told [] c small e = cc
poll_told (high ∷ []) c small e = cc
poll_told (high ∷ low ∷ []) c small e = cc
poll_told (high ∷ low ∷ request ∷ []) c small e = cc
poll_told (high ∷ low ∷ request ∷ slots ∷ []) c small e =
    told (Poll (pair high low) request slots) c (framed (poll_code ∷ high ∷ low ∷ request ∷ slots ∷ [])) (record {
      range = tt;
      frame = ap (λ t. framed (poll_code ∷ (t ++ request ∷ slots ∷ []))) (sym (two_bytes_of high low (small 1)));
    }) e
poll_told (high ∷ low ∷ request ∷ slots ∷ more ∷ rest) c small e = cc

-- the blocks that a Check names
pub record IsNamed (id : List ℕ) (named : Option (List ℕ)) (c : T3Command) : Type 0 where
  pub blocks : List ℕ
  pub is : named ≡ Some blocks
  pub check : Some (Check id (record { items = blocks })) ≡ Some c

named_told : (id : List ℕ) (named : Option (List ℕ)) (c : T3Command) → check_named id named ≡ Some c → IsNamed id named c
named_told id None c e = cc
named_told id (Some blocks) c e = record { blocks = blocks; is = refl; check = e }

check_told : (id behind : List ℕ) (c : T3Command) → length id ≡ id_size → AreBytes behind → read_check id behind ≡ Some c → AreSpelled c (framed (check_code ∷ (id ++ behind)))
check_told id [] c size small e = cc
check_told id (services ∷ []) c size small e = cc
check_told id (services ∷ high ∷ []) c size small e = cc
check_told id (services ∷ high ∷ low ∷ []) c size small e = cc
check_told id (services ∷ high ∷ low ∷ count ∷ rest) c size small e =
    let bytes : List ℕ = framed (check_code ∷ (id ++ services ∷ high ∷ low ∷ count ∷ rest)) in
    by_if ((services == 1) && (pair high low == read_service)) (check_named id (blocks_asked count rest)) None c (AreSpelled c bytes)
    (λ h e.
    let one : services ≡ 1 = equal_of services 1 (left_of (services == 1) (pair high low == read_service) h) in
    let service : pair high low ≡ read_service = equal_of (pair high low) read_service (right_of (services == 1) (pair high low == read_service) h) in
    let named : IsNamed id (blocks_asked count rest) c = named_told id (blocks_asked count rest) c e in
    let are : AreAsked count rest named.blocks = asked_told count rest named.blocks named.is in
    let pairs : high ∷ low ∷ [] ≡ two_bytes read_service = sym (two_bytes_of high low (small 2)) ∙ ap two_bytes service in
    let whole : services ∷ high ∷ low ∷ count ∷ rest ≡ asked_of read_service (length named.blocks) ++ elements named.blocks =
    ap (λ n. n ∷ high ∷ low ∷ count ∷ rest) one
    ∙ ap (λ t. 1 ∷ (t ++ count ∷ rest)) pairs
    ∙ ap (λ n. 1 ∷ (two_bytes read_service ++ n ∷ rest)) are.number
    ∙ ap (λ t. asked_of read_service (length named.blocks) ++ t) are.whole in
    told (Check id (record { items = named.blocks })) c bytes (record {
      range = (size, are.least, are.most);
      frame = ap (λ t. framed (check_code ∷ (id ++ t))) whole;
    }) named.check)
    (λ h e. cc) e

-- what stands behind the identifier of an Update
pub update_whole : (services high low count code block : ℕ) (content : List ℕ) → services ≡ 1 → pair high low ≡ write_service → low < 256 → count ≡ 1 → code ≡ element_code
    → services ∷ high ∷ low ∷ count ∷ code ∷ block ∷ content ≡ asked_of write_service 1 ++ (elements (block ∷ []) ++ content)
update_whole services high low count code block content one service small single element =
    ap (λ n. n ∷ high ∷ low ∷ count ∷ code ∷ block ∷ content) one
    ∙ ap (λ t. 1 ∷ (t ++ count ∷ code ∷ block ∷ content)) (sym (two_bytes_of high low small) ∙ ap two_bytes service)
    ∙ ap (λ n. 1 ∷ (two_bytes write_service ++ n ∷ code ∷ block ∷ content)) single
    ∙ ap (λ n. asked_of write_service 1 ++ n ∷ block ∷ content) element

update_told : (id behind : List ℕ) (c : T3Command) → length id ≡ id_size → AreBytes behind → read_update id behind ≡ Some c → AreSpelled c (framed (update_code ∷ (id ++ behind)))
update_told id [] c size small e = cc
update_told id (services ∷ []) c size small e = cc
update_told id (services ∷ high ∷ []) c size small e = cc
update_told id (services ∷ high ∷ low ∷ []) c size small e = cc
update_told id (services ∷ high ∷ low ∷ count ∷ []) c size small e = cc
update_told id (services ∷ high ∷ low ∷ count ∷ code ∷ []) c size small e = cc
update_told id (services ∷ high ∷ low ∷ count ∷ code ∷ block ∷ content) c size small e =
    let bytes : List ℕ = framed (update_code ∷ (id ++ services ∷ high ∷ low ∷ count ∷ code ∷ block ∷ content)) in
    let one : Bool = services == 1 in
    let service : Bool = pair high low == write_service in
    let single : Bool = count == 1 in
    let element : Bool = code == element_code in
    let long : Bool = length content == block_size in
    by_if (one && service && single && element && long) (Some (Update id block content)) None c (AreSpelled c bytes)
    (λ h e.
    let abcd : (one && service && single && element) ≡ true = left_of (one && service && single && element) long h in
    let abc : (one && service && single) ≡ true = left_of (one && service && single) element abcd in
    let ab : (one && service) ≡ true = left_of (one && service) single abc in
    let whole : services ∷ high ∷ low ∷ count ∷ code ∷ block ∷ content ≡ asked_of write_service 1 ++ (elements (block ∷ []) ++ content) =
    update_whole services high low count code block content (equal_of services 1 (left_of one service ab)) (equal_of (pair high low) write_service (right_of one service ab)) (small 2)
    (equal_of count 1 (right_of (one && service) single abc)) (equal_of code element_code (right_of (one && service && single) element abcd)) in
    told (Update id block content) c bytes (record {
      range = (size, equal_of (length content) block_size (right_of (one && service && single && element) long h));
      frame = ap (λ t. framed (update_code ∷ (id ++ t))) whole;
    }) e)
    (λ h e. cc) e

-- the same behind another name of the code
coded : (code n : ℕ) (rest : List ℕ) (c : T3Command) → (code == n) ≡ true → AreSpelled c (framed (n ∷ rest)) → AreSpelled c (framed (code ∷ rest))
coded code n rest c h is =
    let P : ℕ → Type 0 = λ m. AreSpelled c (framed (m ∷ rest)) in
    subst P (sym (equal_of code n h)) is

request_told : (bytes : List ℕ) (c : T3Command) → AreBytes bytes → read_request bytes ≡ Some c → AreSpelled c (framed bytes)
request_told [] c small e = cc
request_told (code ∷ rest) c small e =
    let behind : AreBytes rest = λ i. small (suc i) in
    let G : Type 0 = AreSpelled c (framed (code ∷ rest)) in
    let third : Option T3Command = if code == update_code then behind_id read_update rest else None in
    by_if (code == poll_code) (read_poll rest) (if code == check_code then behind_id read_check rest else third) c G
    (λ h e. coded code poll_code rest c h (poll_told rest c behind e))
    (λ g. by_if (code == check_code) (behind_id read_check rest) third c G
    (λ h e. coded code check_code rest c h (behind_told read_check rest c (λ t. AreSpelled c (framed (check_code ∷ t))) behind (λ id t size small f. check_told id t c size small f) e))
    (λ k. by_if (code == update_code) (behind_id read_update rest) None c G
    (λ h e. coded code update_code rest c h (behind_told read_update rest c (λ t. AreSpelled c (framed (update_code ∷ t))) behind (λ id t size small f. update_told id t c size small f) e))
    (λ h e. cc))) e

bytes_told : (bytes : List ℕ) (c : T3Command) → AreBytes bytes → command_of bytes ≡ Some c → AreSpelled c bytes
bytes_told [] c small e = cc
bytes_told (size ∷ rest) c small e =
    by_if (size == suc (length rest)) (read_request rest) None c (AreSpelled c (size ∷ rest))
    (λ h e.
    let P : ℕ → Type 0 = λ n. AreSpelled c (n ∷ rest) in
    subst P (sym (equal_of size (suc (length rest)) h)) (request_told rest c (λ i. small (suc i)) e))
    (λ h e. cc) e

-- what has its length in front is read
framed_reads : (bytes : List ℕ) → command_of (framed bytes) ≡ read_request bytes
framed_reads bytes = ap (λ v. if v then read_request bytes else None) (same_number (suc (length bytes)))

-- a command is read from its bytes
pub command_reads : (c : T3Command) → IsT3Command c → command_of (command_bytes c) ≡ Some c
command_reads (Poll system request slots) is =
    framed_reads (poll_code ∷ (two_bytes system ++ request ∷ slots ∷ []))
    ∙ ap (λ n. Some (Poll n request slots)) (pair_of system)
command_reads (Check id blocks) is =
    let rest : List ℕ = asked_of read_service (length blocks.items) ++ elements blocks.items in
    framed_reads (check_code ∷ (id ++ rest))
    ∙ behind_reads read_check id rest is.0
    ∙ ap (check_named id) (asked_read blocks.items is.1 is.2)
command_reads (Update id block content) is =
    let rest : List ℕ = asked_of write_service 1 ++ (elements (block ∷ []) ++ content) in
    framed_reads (update_code ∷ (id ++ rest))
    ∙ behind_reads read_update id rest is.0
    ∙ ap (λ v. if v then Some (Update id block content) else None) (is_equal (length content) block_size is.1)

-- what is read from a frame is exactly what it spells
frame_told : (f : Signal) (c : T3Command) → AreBytes f.bytes → spelled_command f ≡ Some c → T3Spelling c f
frame_told f c small =
    by_if (is_whole_f f) (command_of f.bytes) None c (T3Spelling c f)
    (λ h e.
    let s : AreSpelled c f.bytes = bytes_told f.bytes c small e in
    record { range = s.range; frame = whole_frame f (command_bytes c) h s.frame })
    (λ h e. cc)

pub exact_command : (f : Signal) (o : Option T3Command) → AreBytes f.bytes → o ≡ spelled_command f → (c : T3Command) → (o ≡ Some c) ↔ T3Spelling c f
exact_command f o small is c = (
  (λ e. frame_told f c small (sym is ∙ e)),
  (λ s. is ∙ ap spelled_command s.frame ∙ command_reads c s.range),
)
