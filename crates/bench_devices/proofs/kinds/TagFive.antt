-- A Type 5 tag of the bench takes commands as they are sent.
use Rattle.std.proofs.Common.{◌≡◌, inl, inr, ◌⊎◌, ℕ, ◌+◌, ◌*◌, ◌/◌, List, [], ◌∷◌, ◌++◌, length, drop, Bool, true, false, not, nat_le, ◌==◌, ◌&&◌, if◌then◌else◌, Option, Some, None, refl, sym, ◌∙◌}
use Rattle.std.proofs.Common.{ap, subst}
use Rattle.std.specs.Prelude.{reverse, get_or}
use Rattle.nfc_base.specs.Blocks.{block_of}
use Rattle.nfc_base.specs.Signal.{Signal}
use Rattle.nfc_base.specs.TagLinks.{Type5, plain_state, MayAsk, addressed as addressed_to}
use Rattle.air_core.specs.PlainTags.{Takes, PassesOver, IsPlainTag}
use Rattle.t5t_tag.specs.declared.round.Round.{Round}
use Rattle.t5t_tag.specs.declared.answer.T5Answer.{T5Answer}
use Rattle.t5t_tag.specs.declared.answer.T5Answer.TheVariants.{Content, Error}
use Rattle.t5t_tag.specs.Store.{T5State, id_size, blocks_in, block_count, is_locked}
use Rattle.t5t_tag.specs.Spelling.{quiet_code, most_content}
use Rattle.t5t_tag.specs.Step.{T5Turn, silent, tells, refuses, not_supported, no_block, block_locked, blocks_of, read_turn, read_many_turn, write_turn, Asked, Reads, ReadsMany, Writes, Unknown, asked}
use Rattle.t5t_tag.specs.Step.{asked_turn, obeyed, names, addressed, out_of_round, t5_turn, sent, t5_answer, t5_after}
use Rattle.t5t_tag.proofs.Turns.{writes, hushes, on_obeyed}
use Rattle.t5t_tag.proofs.Stores.{length_with_block}
use Rattle.t5t_tag.proofs.Steps.{IsSameTag, same_tag, IsUntouched, read_leaves, read_many_leaves}
use Rattle.t5t_tag.proofs.Again.{heard_again}
use Rattle.t5t_tag.proofs.Hushed.{in_state, IsAlike, addressed_alike, frame_alike}
use Rattle.bench_devices.specs.Powered.{Powered}
use Rattle.bench_devices.specs.declared.device.Device.{Device}
use Rattle.bench_devices.specs.declared.device.Device.TheVariants.{T2, T4, Peer, T5, T3}
use Rattle.bench_devices.specs.Device.{device_after, device_store, device_selected}
use Rattle.bench_devices.specs.Keeping.{ghosts}

-- a step whose second time answers what its first did
abbrev IsSaid : (T5State → T5Turn) → T5State → Type 0
IsSaid step t = (step (step t).after).answer ≡ (step t).answer

said_kept : (step : T5State → T5Turn) (t : T5State) → (step t).after ≡ t → IsSaid step t
said_kept step t kept = ap (λ s. (step s).answer) kept

said_of : (t : T5State) (v : Bool) (x y : T5State → T5Turn) → IsSaid x t → IsSaid y t → IsSaid (λ s. if v then x s else y s) t
said_of t true x y p q = p
said_of t false x y p q = q

-- the answer to a write, by what no write changes
abbrev write_answer : ℕ → ℕ → List Bool → ℕ → List ℕ → Option T5Answer
write_answer size count locked block content =
    if nat_le count block then Some (Error no_block)
    else if not (length content == size) then Some (Error not_supported)
    else if get_or locked block false then Some (Error block_locked)
    else Some (Content (record { items = [] }))

write_says : (t : T5State) (block : ℕ) (content : List ℕ) → (write_turn t block content).answer ≡ write_answer t.size (block_count t) t.locked block content
write_says t block content = by_three (nat_le (block_count t) block) (not (length content == t.size)) (is_locked t block)
  where
    by_three : (x y z : Bool) → (if x then refuses t no_block else if y then refuses t not_supported else if z then refuses t block_locked else writes t block content).answer
        ≡ (if x then Some (Error no_block) else if y then Some (Error not_supported) else if z then Some (Error block_locked) else Some (Content (record { items = [] })))
    by_three true y z = refl
    by_three false true z = refl
    by_three false false true = refl
    by_three false false false = refl

-- what no command changes
record IsLike (t u : T5State) : Type 0 where
  pub id : u.id ≡ t.id
  pub size : u.size ≡ t.size
  pub locked : u.locked ≡ t.locked
  pub count : block_count u ≡ block_count t

obeyed_like : (t : T5State) (code : ℕ) (rest : List ℕ) → IsLike t (obeyed t code rest).after
obeyed_like t code rest = on_obeyed t (λ r. IsLike t r.after) (record {
  error = λ c. record { id = refl; size = refl; locked = refl; count = refl };
  read = λ b within. record { id = refl; size = refl; locked = refl; count = refl };
  many = λ f m within few. record { id = refl; size = refl; locked = refl; count = refl };
  written = λ b bytes within long. record { id = refl; size = refl; locked = refl; count = ap (λ n. n / t.size) (length_with_block t.size t.store b bytes within long) };
}) code rest

write_said : (t : T5State) (block : ℕ) (content : List ℕ) → IsLike t (write_turn t block content).after → IsSaid (λ s. write_turn s block content) t
write_said t block content like =
    let u : T5State = (write_turn t block content).after in
    write_says u block content
    ∙ ap (λ n. write_answer n (block_count u) u.locked block content) like.size
    ∙ ap (λ n. write_answer t.size n u.locked block content) like.count
    ∙ ap (λ l. write_answer t.size (block_count t) l block content) like.locked
    ∙ sym (write_says t block content)

-- the answers to reads, by what no read changes
abbrev read_answer : ℕ → ℕ → List ℕ → Option T5Answer
read_answer block size store =
    if nat_le (blocks_in size store) block then Some (Error no_block)
    else Some (Content (record { items = block_of size store block }))

abbrev read_many_answer : ℕ → ℕ → ℕ → List ℕ → Option T5Answer
read_many_answer first more size store =
    if nat_le (blocks_in size store) (first + more) then Some (Error no_block)
    else if not (nat_le (size * (more + 1)) most_content) then Some (Error not_supported)
    else Some (Content (record { items = blocks_of size store first (more + 1) }))

read_says : (t : T5State) (block : ℕ) → (read_turn t block).answer ≡ read_answer block t.size t.store
read_says t block = by_value (nat_le (block_count t) block)
  where
    told : T5Answer
    told = Content (record { items = block_of t.size t.store block })

    by_value : (v : Bool) → (if v then refuses t no_block else tells t told).answer ≡ (if v then Some (Error no_block) else Some told)
    by_value true = refl
    by_value false = refl

read_many_says : (t : T5State) (first more : ℕ) → (read_many_turn t first more).answer ≡ read_many_answer first more t.size t.store
read_many_says t first more = by_two (nat_le (block_count t) (first + more)) (not (nat_le (t.size * (more + 1)) most_content))
  where
    told : T5Answer
    told = Content (record { items = blocks_of t.size t.store first (more + 1) })

    by_two : (x y : Bool) → (if x then refuses t no_block else if y then refuses t not_supported else tells t told).answer
        ≡ (if x then Some (Error no_block) else if y then Some (Error not_supported) else Some told)
    by_two true y = refl
    by_two false true = refl
    by_two false false = refl

-- the same of a tag that a read left
said_untouched : (F : ℕ → List ℕ → Option T5Answer) (step : T5State → T5Turn) → ((t : T5State) → (step t).answer ≡ F t.size t.store)
    → (t : T5State) → IsUntouched t (step t).after → IsSaid step t
said_untouched F step says t is =
    let u : T5State = (step t).after in
    says u ∙ ap (λ n. F n u.store) is.size ∙ ap (F t.size) is.store ∙ sym (says t)

asked_said : (t : T5State) (what : Asked) → IsLike t (asked_turn t what).after → IsSaid (λ s. asked_turn s what) t
asked_said t (Reads block) like = said_untouched (read_answer block) (λ s. read_turn s block) (λ s. read_says s block) t (read_leaves t block)
asked_said t (ReadsMany first more) like =
    said_untouched (read_many_answer first more) (λ s. read_many_turn s first more) (λ s. read_many_says s first more) t (read_many_leaves t first more)
asked_said t (Writes block content) like = write_said t block content like
asked_said t Unknown like = refl

obeyed_said : (t : T5State) (code : ℕ) (rest : List ℕ) → IsSaid (λ s. obeyed s code rest) t
obeyed_said t code rest = asked_said t (asked code rest) (obeyed_like t code rest)

addressed_said : (t : T5State) (rest : List ℕ) → IsSaid (λ s. addressed s rest) t
addressed_said t [] = refl
addressed_said t (code ∷ rest) = by_names (names t rest) refl
  where
    hush : Bool
    hush = (code == quiet_code) && (length rest == id_size)

    heard : T5State → T5Turn
    heard s = if hush then hushes s else obeyed s code (drop id_size rest)

    heard_id : (v : Bool) → (if v then hushes t else obeyed t code (drop id_size rest)).after.id ≡ t.id
    heard_id true = refl
    heard_id false = (obeyed_like t code (drop id_size rest)).id

    by_names : (v : Bool) → names t rest ≡ v → IsSaid (λ s. addressed s (code ∷ rest)) t
    by_names false e = said_kept (λ s. addressed s (code ∷ rest)) t (ap (λ v. (if not v then silent t else heard t).after) e)
    by_names true e =
        let first : addressed t (code ∷ rest) ≡ heard t = ap (λ v. if not v then silent t else heard t) e in
        let named : names (heard t).after rest ≡ true = ap (λ (id : List ℕ). names (record t { id = id }) rest) (heard_id hush) ∙ e in
        ap (λ (r : T5Turn). (addressed r.after (code ∷ rest)).answer) first
        ∙ ap (λ v. (if not v then silent (heard t).after else heard (heard t).after).answer) named
        ∙ said_of t hush hushes (λ s. obeyed s code (drop id_size rest)) refl (obeyed_said t code (drop id_size rest))
        ∙ sym (ap (λ (r : T5Turn). r.answer) first)

-- a tag that has heard an addressed command, or hasn't
pub record HasHeard (t : T5State) (f : Signal) (u : T5State) : Type 0 where
  pub id : u.id ≡ t.id
  pub size : u.size ≡ t.size
  pub locked : u.locked ≡ t.locked
  pub store : (u.store ≡ t.store) ⊎ (u.store ≡ (t5_after t f).store)

abbrev state : List ℕ → ℕ → List ℕ → List Bool → Bool → Option Round → T5State
state id size store locked quiet round = record { id = id; size = size; store = store; locked = locked; quiet = quiet; round = round }

same_state : (t u : T5State) → u.id ≡ t.id → u.size ≡ t.size → u.store ≡ t.store → u.locked ≡ t.locked → u ≡ in_state u.quiet u.round t
same_state t u a b c d =
    ap (λ x. state x u.size u.store u.locked u.quiet u.round) a ∙ ap (λ x. state t.id x u.store u.locked u.quiet u.round) b
    ∙ ap (λ x. state t.id t.size x u.locked u.quiet u.round) c ∙ ap (λ x. state t.id t.size t.store x u.quiet u.round) d

module _ (t : T5State) (own : List ℕ) (code : ℕ) (rest : List ℕ) where
  abbrev pub frame : Signal
  frame = addressed_to own code rest

  -- what stands behind the flags
  abbrev behind : List ℕ
  behind = code ∷ (reverse own ++ rest)

  -- whether it is quiet or not, and in whatever round
  alike : (q : Bool) (r : Option Round) (s : T5State) → IsAlike (t5_turn (in_state q r s) frame) (t5_turn s frame)
  alike q r s = frame_alike s q r behind

  answer_again : t5_answer (t5_after t frame) frame ≡ t5_answer t frame
  answer_again =
      let left : T5State = t5_after t frame in
      ap sent ((addressed_alike left left.quiet None behind).answer ∙ addressed_said (out_of_round t) behind)

  as_old : (u : T5State) → HasHeard t frame u → u.store ≡ t.store → u ≡ in_state u.quiet u.round t
  as_old u is e = same_state t u is.id is.size e is.locked

  as_new : (u : T5State) → HasHeard t frame u → u.store ≡ (t5_after t frame).store → u ≡ in_state u.quiet u.round (t5_after t frame)
  as_new u is e =
      let same : IsSameTag t (t5_after t frame) = same_tag t frame in
      same_state (t5_after t frame) u (is.id ∙ sym same.id) (is.size ∙ sym same.size) e (is.locked ∙ sym same.locked)

  pub heard_says : (u : T5State) → HasHeard t frame u → t5_answer u frame ≡ t5_answer t frame
  heard_says u is = by_store is.store
    where
      by_store : (u.store ≡ t.store) ⊎ (u.store ≡ (t5_after t frame).store) → t5_answer u frame ≡ t5_answer t frame
      by_store (inl e) = ap (λ s. t5_answer s frame) (as_old u is e) ∙ ap sent (alike u.quiet u.round t).answer
      by_store (inr e) = ap (λ s. t5_answer s frame) (as_new u is e) ∙ ap sent (alike u.quiet u.round (t5_after t frame)).answer ∙ answer_again

  pub heard_holds : (u : T5State) → HasHeard t frame u → (t5_after u frame).store ≡ (t5_after t frame).store
  heard_holds u is = by_store is.store
    where
      by_store : (u.store ≡ t.store) ⊎ (u.store ≡ (t5_after t frame).store) → (t5_after u frame).store ≡ (t5_after t frame).store
      by_store (inl e) = ap (λ s. (t5_after s frame).store) (as_old u is e) ∙ (alike u.quiet u.round t).store
      by_store (inr e) = ap (λ s. (t5_after s frame).store) (as_new u is e) ∙ (alike u.quiet u.round (t5_after t frame)).store ∙ heard_again t frame

-- the tag as its step sees it
abbrev unhushed : T5State → T5State
unhushed t = in_state false None t

-- a Type 5 tag, and no other device
abbrev is_five : Device → Bool
is_five (T2 d) = false
is_five (T4 d) = false
is_five (Peer d) = false
is_five (T5 p) = true
is_five (T3 p) = false

module _ (p : Powered T5State) (own : List ℕ) (code : ℕ) (rest : List ℕ) where
  abbrev t : T5State
  t = unhushed p.tag

  abbrev f : Signal
  f = addressed_to own code rest

  -- the tag as its step left it
  abbrev left : T5State
  left = record { id = t.id; size = t.size; store = (t5_after t f).store; locked = t.locked; quiet = false; round = None }

  left_heard : HasHeard t f left
  left_heard = record { id = refl; size = refl; locked = refl; store = inr refl }

  now_heard : HasHeard t f p.tag
  now_heard = record { id = refl; size = refl; locked = refl; store = inl refl }

  takes_five : p.lit ≡ true → Takes ghosts (T5 p) f
  takes_five lit =
      let goes : device_after (T5 p) f None ≡ T5 (record { tag = t5_after p.tag f; lit = true }) =
      ap (λ v. T5 (if v then record { tag = t5_after p.tag f; lit = true } else p)) lit in
      record {
        quiet = refl;
        answer = ap (λ v. if v then t5_answer p.tag f else None) lit ∙ heard_says t own code rest p.tag now_heard;
        after = ap (λ m. plain_state (device_store m)) goes ∙ ap plain_state (heard_holds t own code rest p.tag now_heard);
        again =
            ap (λ o. record { answer = o; after = plain_state (t5_after left f).store }) (heard_says t own code rest left left_heard)
            ∙ ap (λ s. record { answer = t5_answer t f; after = plain_state s }) (heard_holds t own code rest left left_heard);
        selected = λ g says. ap device_selected goes;
      }

passes_five : (p : Powered T5State) (f : Signal) (lit : Bool) → p.lit ≡ lit → lit ≡ false → PassesOver ghosts (T5 p) f
passes_five p f true e h = absurd cc
passes_five p f false e h =
    let goes : device_after (T5 p) f None ≡ T5 p = ap (λ v. T5 (if v then record { tag = t5_after p.tag f; lit = true } else p)) e in
    record {
      quiet = refl;
      silent = ap (λ v. if v then t5_answer p.tag f else None) e;
      store = ap device_store goes;
      rests = ap device_selected goes ∙ e;
    }

pub plain_five : (p : Powered T5State) → IsPlainTag ghosts Type5 p.tag.id (T5 p)
plain_five p = record { holds = is_five; now = refl; kept = kept; takes = takes; passes = passes }
  where
    kept : (m : Device) (f : Signal) → MayAsk Type5 p.tag.id f → is_five m ≡ true → is_five (device_after m f None) ≡ true
    kept (T2 d) f may h = absurd cc
    kept (T4 d) f may h = absurd cc
    kept (Peer d) f may h = absurd cc
    kept (T5 q) f may h = refl
    kept (T3 q) f may h = absurd cc

    takes : (m : Device) (f : Signal) → MayAsk Type5 p.tag.id f → is_five m ≡ true → device_selected m ≡ true → Takes ghosts m f
    takes (T2 d) f may h s = absurd cc
    takes (T4 d) f may h s = absurd cc
    takes (Peer d) f may h s = absurd cc
    takes (T3 q) f may h s = absurd cc
    takes (T5 q) f may h s = subst (Takes ghosts (T5 q)) (sym may.frame) (takes_five q p.tag.id may.code may.rest s)

    passes : (m : Device) (f : Signal) → MayAsk Type5 p.tag.id f → is_five m ≡ true → device_selected m ≡ false → PassesOver ghosts m f
    passes (T2 d) f may h s = absurd cc
    passes (T4 d) f may h s = absurd cc
    passes (Peer d) f may h s = absurd cc
    passes (T3 q) f may h s = absurd cc
    passes (T5 q) f may h s = passes_five q f q.lit refl s
