-- How two ends stand to each other in an exchange in pieces, whatever their frames are, and how many transmissions are left then.
use Rattle.std.proofs.Common.{◌≡◌, ℕ, ◌+◌, ◌-◌, ◌*◌, ◌/◌, ◌<◌, ◌≤◌, ◌==◌, nat_lt, Bool, true, false, not, if◌then◌else◌, List, [], ◌++◌, length, take, drop, Option, Some, None, refl, sym, ◌∙◌, ap}
use Rattle.std.proofs.Common.{arith, append_assoc, length-append, length-drop}
use Rattle.std.proofs.lemmas.Bool.{eq-eqb, lt-ltb, ltb-true}
use Rattle.std.proofs.lemmas.Bool.Decides.{nat_tests}
use Rattle.std.proofs.lemmas.List.{take-append-drop, length-take-le}
use Rattle.std.proofs.Math.Nat.{add-div_left}
use Rattle.nfc_base.specs.Pieces.{Core, pieces, most_bads, most_busy, most_extensions, longest_extension, turned, more_follows, is_refused, may_extend}

pub same : (p : ℕ) → (p == p) ≡ true
same p = eq-eqb p p refl

pub not_lt : (m n : ℕ) → n ≤ m → nat_lt m n ≡ false
not_lt m n h = grind (arith, nat_tests)

pub le_from_not : (m n : ℕ) → nat_lt m n ≡ false → n ≤ m
le_from_not m n h = grind (arith, nat_tests)

-- one piece less is left of bytes that take more than one
pub pieces_drop : (n : ℕ) (xs : List ℕ) → 0 < n → n < length xs → pieces n xs ≡ 1 + pieces n (drop n xs)
pieces_drop n xs p h =
    let e : length xs - 1 ≡ n + (length (drop n xs) - 1) = (omega (arith, length-drop n xs)) in
    rw (e, add-div_left (length (drop n xs) - 1) p) (omega arith)

-- a piece more of what is short stays short
pub chain_fits : (limit : ℕ) (chain rest out : List ℕ) (n : ℕ) → chain ++ rest ≡ out → length out ≤ limit → length (chain ++ take n rest) ≤ limit
chain_fits limit chain rest out n e h =
    let l : length out ≡ length (chain ++ rest) = ap length (sym e) in
    let k : length (take n rest ++ drop n rest) ≡ length rest = ap length (take-append-drop n rest) in
    omega (arith, length-append {A = ℕ})

-- the next piece of a reply that is short isn't refused
pub not_refused : (limit : ℕ) (got xs : List ℕ) (n : ℕ) → 0 < n → length (got ++ xs) ≤ limit → is_refused limit (nat_lt n (length xs)) (take n xs) (got ++ take n xs) ≡ false
not_refused limit got xs n p f = go (nat_lt n (length xs)) refl
  where
    le : length (got ++ take n xs) ≤ limit
    le = chain_fits limit got xs (got ++ xs) n refl f

    go : (b : Bool) → nat_lt n (length xs) ≡ b → is_refused limit (nat_lt n (length xs)) (take n xs) (got ++ take n xs) ≡ false
    go false e = rw (not_lt limit (length (got ++ take n xs)) le, e) refl
    go true e =
        let l : n < length xs = ltb-true n (length xs) e in
        let w : length (take n xs) ≡ n = length-take-le n xs (omega arith) in
        rw (not_lt limit (length (got ++ take n xs)) le, e, w, lt-ltb 0 n p) refl

some_of : (xs : List ℕ) → not (nat_lt 0 (length xs)) ≡ false → 0 < length xs
some_of xs e = go (nat_lt 0 (length xs)) refl e
  where
    go : (v : Bool) → nat_lt 0 (length xs) ≡ v → not v ≡ false → 0 < length xs
    go true d e = ltb-true 0 (length xs) d
    go false d e = absurd (cc)

-- a piece that isn't refused
pub taken_piece : (limit : ℕ) (more : Bool) (xs all : List ℕ) → is_refused limit more xs all ≡ false → (length all ≤ limit) × (more ≡ true → 0 < length xs)
taken_piece limit more xs all e = go (nat_lt limit (length all)) refl e
  where
    go : (v : Bool) → nat_lt limit (length all) ≡ v → (if v then true else (if more then not (nat_lt 0 (length xs)) else false)) ≡ false → (length all ≤ limit) × (more ≡ true → 0 < length xs)
    go true d e = absurd (cc)
    go false d e = (le_from_not limit (length all) d, λ m. some_of xs (sym (ap (λ v. if v then not (nat_lt 0 (length xs)) else false) m) ∙ e))

more_than : (c : Core) → more_follows c ≡ true → c.most < length c.rest
more_than c e = go c.drawing e
  where
    go : (d : Bool) → (if d then false else nat_lt c.most (length c.rest)) ≡ true → c.most < length c.rest
    go true e = absurd (cc)
    go false e = ltb-true c.most (length c.rest) e

-- time is granted at most so often
few_granted : (c : Core) (times : ℕ) → may_extend c times ≡ true → c.granted < most_extensions
few_granted c times e = go c.drawing (more_follows c) (nat_lt 0 times) (nat_lt longest_extension times) (nat_lt c.granted most_extensions) refl e
  where
    go : (a b d f v : Bool) → nat_lt c.granted most_extensions ≡ v → (if a then false else (if b then false else (if d then (if f then false else v) else false))) ≡ true
        → c.granted < most_extensions
    go true b d f v w e = absurd (cc)
    go false true d f v w e = absurd (cc)
    go false false false f v w e = absurd (cc)
    go false false true true v w e = absurd (cc)
    go false false true false true w e = ltb-true c.granted most_extensions w
    go false false true false false w e = absurd (cc)

-- How much is left to do: a wait that ends takes a byte off what is to be sent or is missing of the reply, a time extension and a bad
-- reception count in their wait, and what asks for an answer again is followed by its request once.
abbrev pub left_in : (limit : ℕ) → Core → (bads again : ℕ) → ℕ
left_in limit c bads again = 28 * (length c.rest + (limit - length c.got)) + (most_extensions - c.granted) + 2 * (most_bads - bads) + again

-- it falls by a piece of the reply, by one of the payload that is acknowledged, by time that is granted, and by a bad reception
pub falls_received : (limit : ℕ) (c : Core) (n bads again : ℕ) (xs : List ℕ) → 0 < length xs → length (c.got ++ xs) ≤ limit
    → left_in limit (turned c n [] true (c.got ++ xs)) 0 0 < left_in limit c bads again
falls_received limit c n bads again xs p l = (let a = length-append c.got xs in omega (arith, a, p, l))

pub falls_acked : (limit : ℕ) (c : Core) (n bads again : ℕ) → more_follows c ≡ true → 0 < c.most
    → left_in limit (turned c n (drop c.most c.rest) false c.got) 0 0 < left_in limit c bads again
falls_acked limit c n bads again v p = (let l = more_than c v in let d = length-drop c.most c.rest in omega (arith, l, d, p))

pub falls_extended : (limit : ℕ) (c : Core) (times bads again : ℕ) → may_extend c times ≡ true
    → left_in limit (record c { extension = Some times; granted = c.granted + 1 }) bads 0 < left_in limit c bads again
falls_extended limit c times bads again v = (let l = few_granted c times v in omega (arith, l))

pub falls_bad : (limit : ℕ) (c : Core) (bads again after : ℕ) → nat_lt bads most_bads ≡ true → after ≤ 1 → left_in limit c (bads + 1) after < left_in limit c bads again
falls_bad limit c bads again after v o = (let l = ltb-true bads most_bads v in omega (arith, l, o))

-- What is seen of an answering end, whose frames are of the type B: whether it is mute, the most content that it sends, how often it asks
-- for more time and by which value, how often that is still due, the chain so far, what is left of its reply, and its last answer.
pub record Seen (B : Type 0) : Type 0 where
  pub mute : Bool
  pub most : ℕ
  pub busy : ℕ
  pub times : ℕ
  pub due : ℕ
  pub chain : List ℕ
  pub left : List ℕ
  pub unsent : Bool
  pub last : Option B

-- Two ends: how many numbers there are and the one after a number, the most content of a frame and the most bytes of all, what is seen of
-- an answering end, whether it expects a number, by what it may have been asked where it answers and where it asks for time, and its frames.
pub record Ends (T B : Type 0) : Type 1 where
  pub modulus : ℕ
  pub after : ℕ → ℕ
  pub small : (n : ℕ) → after n < modulus
  pub content : ℕ
  pub limit : ℕ
  pub see : T → Seen B
  pub expects : T → ℕ → Type 0
  pub has : T → ℕ → Type 0
  pub goes_on : (t : T) (n : ℕ) → n < modulus → has t n → expects t (after n)
  pub answers : Core → T → Type 0
  pub extends : Core → T → Type 0
  pub ack : ℕ → B
  pub piece : ℕ → ℕ → List ℕ → B
  pub extend : ℕ → B

-- the payload out, the most content m of the answering end's frames, and how often it asks for more time
module _ {T B : Type 0} (E : Ends T B) (m k : ℕ) (out : List ℕ) where
  -- what stays, of the asking end's most content, and of whether the other is mute, its most content, and the time it asks for
  pub record Bounds (cuts : ℕ) (mute : Bool) (answers busy times : ℕ) : Type 0 where
    pub heeds : mute ≡ false
    pub short : length out ≤ E.limit
    pub some : 0 < cuts
    pub fits : cuts ≤ E.content
    pub sizes : answers ≡ m
    pub some_back : 0 < answers
    pub fits_back : answers ≤ E.content
    pub asks : busy ≡ k
    pub few : k ≤ most_busy
    pub long : 1 ≤ times
    pub longest : times ≤ longest_extension

  abbrev pub BoundsOf : Core → Seen B → Type 0
  BoundsOf c s = Bounds c.most s.mute s.most s.busy s.times

  -- the answering end doesn't have the piece that is sent
  pub record Asking (c : Core) (t : T) (given : Option (List ℕ)) : Type 0 where
    pub bounds : BoundsOf c (E.see t)
    pub number : c.number < E.modulus
    pub plain : c.extension ≡ None
    pub none_yet : c.granted ≡ 0
    pub sending : c.drawing ≡ false
    pub empty : c.got ≡ []
    pub expects : E.expects t c.number
    pub joins : (E.see t).chain ++ c.rest ≡ out
    pub none : given ≡ None

  -- it didn't hear what acknowledges the reply's last piece
  pub record Drawing (c : Core) (t : T) (given : Option (List ℕ)) : Type 0 where
    pub bounds : BoundsOf c (E.see t)
    pub number : c.number < E.modulus
    pub plain : c.extension ≡ None
    pub none_due : (E.see t).due ≡ 0
    pub receiving : c.drawing ≡ true
    pub expects : E.expects t c.number
    pub no_chain : (E.see t).chain ≡ []
    pub unsent : (E.see t).unsent ≡ true
    pub reply : given ≡ Some (c.got ++ (E.see t).left)
    pub short_back : length (c.got ++ (E.see t).left) ≤ E.limit

  -- it has the piece, and acknowledges it
  pub record Acked (c : Core) (t : T) (given : Option (List ℕ)) : Type 0 where
    pub bounds : BoundsOf c (E.see t)
    pub number : c.number < E.modulus
    pub plain : c.extension ≡ None
    pub sending : c.drawing ≡ false
    pub empty : c.got ≡ []
    pub more : c.most < length c.rest
    pub expects : E.has t c.number
    pub joins : (E.see t).chain ++ drop c.most c.rest ≡ out
    pub none : given ≡ None
    pub last : (E.see t).last ≡ Some (E.ack c.number)

  -- it answers by the first piece of these bytes, which are what is left of the reply
  pub record Answered (c : Core) (t : T) (given : Option (List ℕ)) (bytes : List ℕ) : Type 0 where
    pub bounds : BoundsOf c (E.see t)
    pub number : c.number < E.modulus
    pub asked_by : E.answers c t
    pub none_due : (E.see t).due ≡ 0
    pub no_more : more_follows c ≡ false
    pub expects : E.has t c.number
    pub no_chain : (E.see t).chain ≡ []
    pub last : (E.see t).last ≡ Some (E.piece (E.see t).most c.number bytes)
    pub left : (E.see t).left ≡ drop (E.see t).most bytes
    pub unsent : (E.see t).unsent ≡ nat_lt (E.see t).most (length bytes)
    pub reply : given ≡ Some (c.got ++ bytes)
    pub short_back : length (c.got ++ bytes) ≤ E.limit

  -- It asks for more time. Each bad reception may bring one extension a second time.
  pub record Extending (c : Core) (t : T) (given : Option (List ℕ)) (bads : ℕ) : Type 0 where
    pub bounds : BoundsOf c (E.see t)
    pub number : c.number < E.modulus
    pub asked_by : E.extends c t
    pub sending : c.drawing ≡ false
    pub empty : c.got ≡ []
    pub no_more : more_follows c ≡ false
    pub expects : E.has t c.number
    pub no_chain : (E.see t).chain ≡ []
    pub last : (E.see t).last ≡ Some (E.extend (E.see t).times)
    pub due : 0 < (E.see t).due
    pub reply : given ≡ Some (E.see t).left
    pub short_back : length (E.see t).left ≤ E.limit
    pub count : c.granted + (E.see t).due ≤ k + bads

  -- it has what is asked
  pub data Held (c : Core) (t : T) (given : Option (List ℕ)) (n bads : ℕ) : Type 0 where
    of_chain : Acked c t given → 2 * pieces c.most c.rest ≤ n → Held c t given n bads
    of_reply : (bytes : List ℕ) → Answered c t given bytes → 2 * pieces (E.see t).most bytes ≤ n → Held c t given n bads
    of_time : bads ≤ most_bads → Extending c t given bads → 2 * ((E.see t).due + pieces (E.see t).most (E.see t).left) ≤ n → Held c t given n bads

  pub held_left : (c : Core) (t : T) (g : Option (List ℕ)) (n bads : ℕ) → Held c t g n bads → 1 ≤ n
  held_left c t g n bads (of_chain h l) = omega arith
  held_left c t g n bads (of_reply bytes h l) = omega arith
  held_left c t g n bads (of_time z h l) = omega arith

  -- its last answer
  pub record LastOf (c : Core) (t : T) : Type 0 where
    pub value : B
    pub last : (E.see t).last ≡ Some value
    pub expects : E.has t c.number
    pub heeds : (E.see t).mute ≡ false
    pub number : c.number < E.modulus
    pub fits : c.most ≤ E.content

  pub last_of : (c : Core) (t : T) (g : Option (List ℕ)) (n bads : ℕ) → Held c t g n bads → LastOf c t
  last_of c t g n bads (of_chain h l) =
      record { value = E.ack c.number; last = h.last; expects = h.expects; heeds = h.bounds.heeds; number = h.number; fits = h.bounds.fits }
  last_of c t g n bads (of_reply bytes h l) =
      record { value = E.piece (E.see t).most c.number bytes; last = h.last; expects = h.expects; heeds = h.bounds.heeds; number = h.number; fits = h.bounds.fits }
  last_of c t g n bads (of_time z h l) =
      record { value = E.extend (E.see t).times; last = h.last; expects = h.expects; heeds = h.bounds.heeds; number = h.number; fits = h.bounds.fits }

  -- one bad reception more
  pub worse : (c : Core) (t : T) (g : Option (List ℕ)) (bads : ℕ) → Extending c t g bads → Extending c t g (bads + 1)
  worse c t g bads h =
      record {
        bounds = h.bounds;
        number = h.number;
        asked_by = h.asked_by;
        sending = h.sending;
        empty = h.empty;
        no_more = h.no_more;
        expects = h.expects;
        no_chain = h.no_chain;
        last = h.last;
        due = h.due;
        reply = h.reply;
        short_back = h.short_back;
        count = (let c = h.count in omega arith);
      }

  pub held_worse : (c : Core) (t : T) (g : Option (List ℕ)) (n bads : ℕ) → bads < most_bads → Held c t g n bads → Held c t g n (bads + 1)
  held_worse c t g n bads few (of_chain h l) = of_chain h l
  held_worse c t g n bads few (of_reply bytes h l) = of_reply bytes h l
  held_worse c t g n bads few (of_time z h l) = of_time (omega arith) (worse c t g bads h) l

  pub held_more : (c : Core) (t : T) (g : Option (List ℕ)) (n bads : ℕ) → Held c t g n bads → Held c t g (n + 2) bads
  held_more c t g n bads (of_chain h l) = of_chain h (omega arith)
  held_more c t g n bads (of_reply bytes h l) = of_reply bytes h (omega arith)
  held_more c t g n bads (of_time z h l) = of_time z h (omega arith)

  -- the time is granted
  abbrev pub longer : Core → ℕ → Core
  longer c times = record c { extension = Some times; granted = c.granted + 1 }

  pub time_granted : (c : Core) (t : T) (g : Option (List ℕ)) (bads times : ℕ) → Extending c t g bads → E.extends (longer c times) t → Extending (longer c times) t g (bads + 1)
  time_granted c t g bads times h x =
      record {
        bounds = h.bounds;
        number = h.number;
        asked_by = x;
        sending = h.sending;
        empty = h.empty;
        no_more = h.no_more;
        expects = h.expects;
        no_chain = h.no_chain;
        last = h.last;
        due = h.due;
        reply = h.reply;
        short_back = h.short_back;
        count = (let c = h.count in omega arith);
      }

  -- what is seen of an answering end that sent the next piece of its reply
  abbrev pub drawn_from : ℕ → T → Seen B
  drawn_from n t =
      record (E.see t) { last = Some (E.piece (E.see t).most n (E.see t).left); left = drop (E.see t).most (E.see t).left; unsent = nat_lt (E.see t).most (length (E.see t).left) }

  -- the answering end is t, and becomes u
  module _ (c : Core) (t u : T) (g : Option (List ℕ)) (has : E.has u c.number) where
    -- it takes a piece that isn't the last
    pub piece_taken : Asking c t g → c.most < length c.rest
        → E.see u ≡ record (E.see t) { chain = (E.see t).chain ++ take c.most c.rest; last = Some (E.ack c.number); due = 0 } → Acked c u g
    piece_taken h l e =
        record {
          bounds = rw e h.bounds;
          number = h.number;
          plain = h.plain;
          sending = h.sending;
          empty = h.empty;
          more = l;
          expects = has;
          joins = rw (e, append_assoc, take-append-drop) h.joins;
          none = h.none;
          last = rw e refl;
        }

    -- its owner replied, and it asks for more time first
    pub time_asked : (r : List ℕ) (bads : ℕ) → Asking c t g → length c.rest ≤ c.most → 0 < (E.see t).busy → length r ≤ E.limit → E.extends c u
        → E.see u ≡ record (E.see t) { chain = []; last = Some (E.extend (E.see t).times); left = r; unsent = true; due = (E.see t).busy } → Extending c u (Some r) bads
    time_asked r bads h l p f x e =
        record {
          bounds = rw e h.bounds;
          number = h.number;
          asked_by = x;
          sending = h.sending;
          empty = h.empty;
          no_more = rw (h.sending, not_lt c.most (length c.rest) l) refl;
          expects = has;
          no_chain = rw e refl;
          last = rw e refl;
          due = rw e p;
          reply = rw e refl;
          short_back = rw e f;
          count = rw e (let a = h.none_yet in let b = h.bounds.asks in omega arith);
        }

    -- or it sends the first piece
    pub first_sent : (r : List ℕ) → Asking c t g → length c.rest ≤ c.most → length r ≤ E.limit → E.answers c u
        → E.see u ≡ record (E.see t) { chain = []; last = Some (E.piece (E.see t).most c.number r); left = drop (E.see t).most r; unsent = nat_lt (E.see t).most (length r); due = 0 }
        → Answered c u (Some r) r
    first_sent r h l f x e =
        record {
          bounds = rw e h.bounds;
          number = h.number;
          asked_by = x;
          none_due = rw e refl;
          no_more = rw (h.sending, not_lt c.most (length c.rest) l) refl;
          expects = has;
          no_chain = rw e refl;
          last = rw e refl;
          left = rw e refl;
          unsent = rw e refl;
          reply = rw h.empty refl;
          short_back = rw h.empty f;
        }

    -- it sends the next piece of its reply
    pub reply_drawn : Drawing c t g → E.answers c u
        → E.see u ≡ drawn_from c.number t
        → Answered c u g (E.see t).left
    reply_drawn h x e =
        record {
          bounds = rw e h.bounds;
          number = h.number;
          asked_by = x;
          none_due = rw e h.none_due;
          no_more = rw h.receiving refl;
          expects = has;
          no_chain = rw e h.no_chain;
          last = rw e refl;
          left = rw e refl;
          unsent = rw e refl;
          reply = h.reply;
          short_back = h.short_back;
        }

    -- the time is granted that was due: it asks again
    pub time_again : (bads : ℕ) → Extending c t g (bads + 1) → 1 < (E.see t).due → E.extends c u → E.see u ≡ record (E.see t) { due = (E.see t).due - 1 } → Extending c u g bads
    time_again bads h l x e =
        record {
          bounds = rw e h.bounds;
          number = h.number;
          asked_by = x;
          sending = h.sending;
          empty = h.empty;
          no_more = h.no_more;
          expects = has;
          no_chain = rw e h.no_chain;
          last = rw e h.last;
          due = rw e (omega arith);
          reply = rw e h.reply;
          short_back = rw e h.short_back;
          count = rw e (let c = h.count in omega arith);
        }

    -- or it has its reply
    pub time_over : (bads : ℕ) → Extending c t g bads → E.answers c u
        → E.see u ≡ record (drawn_from c.number t) { due = 0 }
        → Answered c u g (E.see t).left
    time_over bads h x e =
        record {
          bounds = rw e h.bounds;
          number = h.number;
          asked_by = x;
          none_due = rw e refl;
          no_more = h.no_more;
          expects = has;
          no_chain = rw e h.no_chain;
          last = rw e refl;
          left = rw e refl;
          unsent = rw e refl;
          reply = rw h.empty h.reply;
          short_back = rw h.empty h.short_back;
        }

  -- the piece is acknowledged, and the next one is sent
  abbrev pub sent_on : Core → Core
  sent_on c = turned c (E.after c.number) (drop c.most c.rest) false c.got

  pub ack_heard : (c : Core) (t : T) (g : Option (List ℕ)) → Acked c t g → Asking (sent_on c) t g
  ack_heard c t g h =
      record {
        bounds = h.bounds;
        number = E.small c.number;
        plain = refl;
        none_yet = refl;
        sending = refl;
        empty = h.empty;
        expects = E.goes_on t c.number h.number h.expects;
        joins = h.joins;
        none = h.none;
      }

  -- a piece of the reply comes that isn't the last
  abbrev pub got_on : Core → List ℕ → Core
  got_on c xs = turned c (E.after c.number) [] true (c.got ++ xs)

  pub piece_heard : (c : Core) (t : T) (g : Option (List ℕ)) (bytes : List ℕ) → Answered c t g bytes → (E.see t).most < length bytes → Drawing (got_on c (take (E.see t).most bytes)) t g
  piece_heard c t g bytes h l =
      record {
        bounds = h.bounds;
        number = E.small c.number;
        plain = refl;
        none_due = h.none_due;
        receiving = refl;
        expects = E.goes_on t c.number h.number h.expects;
        no_chain = h.no_chain;
        unsent = h.unsent ∙ lt-ltb (E.see t).most (length bytes) l;
        reply = rw (h.left, append_assoc, take-append-drop) h.reply;
        short_back = rw (h.left, append_assoc, take-append-drop) h.short_back;
      }

  -- the pieces of a reply behind its first, and how often more time is asked for before
  abbrev pub more : List ℕ → ℕ
  more r = k + (length r - 1) / m

  abbrev pub Fits : List ℕ → Type 0
  Fits r = length r ≤ E.limit
