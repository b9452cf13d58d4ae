-- Two targets that differ in what is left of their replies alone do the same, as far as the same bytes are left.
use Rattle.std.proofs.Common.{◌≡◌, ℕ, ◌+◌, ◌-◌, ◌<◌, ◌≤◌, ◌==◌, nat_lt, Bool, true, false, if◌then◌else◌, List, ◌++◌, length, take, drop, Option, Some, None, refl, sym, ap, ◌∙◌, subst, arith}
use Rattle.std.proofs.Common.{length-append}
use Rattle.std.proofs.lemmas.Bool.{lt-ltb}
use Rattle.std.proofs.lemmas.List.{drop-append-le, take-append-le}
use Rattle.arrayvec.specs.ArrayVec.{ArrayVec}
use Rattle.nfc_base.specs.Signal.{Signal}
use Rattle.dep_pdu.specs.declared.frame.DepFrame.{DepFrame}
use Rattle.dep_pdu.specs.declared.frame.DepFrame.TheVariants.{AtrReq, AtrRes, Info, Ack, Nack, Attention, Extend, DslReq, DslRes, RlsReq, RlsRes}
use Rattle.dep_link.specs.declared.target.TargetStep.TheVariants as steps
use Rattle.dep_link.specs.Sizes.{limit}
use Rattle.dep_link.specs.Frames.{air_frame, spelled, after, before, information, piece}
use Rattle.dep_link.specs.Target.{TargetState, TargetMove, TargetTurn, Does, Stays, Answers, Begins, Delivers, Sleeps, Frees, stays, again, repeated, grown, gathered, drawn, granted, extended}
use Rattle.dep_link.specs.Target.{frame_table, heeded, obeyed, framed, framed_does, replied, reply_frame, atr_res, target_table}

-- They differ in what is left of their replies alone, which begins with the bytes xs in both; where these are some, both have more.
pub record Alike (xs : List ℕ) (t u : TargetState) : Type 0 where
  pub ys : List ℕ
  pub zs : List ℕ
  pub left : t.left ≡ xs ++ ys
  pub other : u.left ≡ xs ++ zs
  pub more : 0 < length xs → 0 < length ys
  pub more_other : 0 < length xs → 0 < length zs
  pub unsent : t.unsent ≡ true
  pub some : 0 < t.most
  pub same : u ≡ record t { left = u.left }

-- What the two do at one frame: the same, and stay so; or each sends a piece, which is the same as far as the bytes go; or both begin anew.
data SameMove (xs : List ℕ) (t : TargetState) (m n : TargetMove) : Type 0 where
  keeps_so : m.does ≡ n.does → m.state.left ≡ t.left → Alike xs m.state n.state → SameMove xs t m n
  sends_so : (pni : ℕ) → m.does ≡ Answers (piece true t.most pni t.left) → m.state.left ≡ drop t.most t.left → m.state.unsent ≡ nat_lt t.most (length t.left)
      → (t.most ≤ length xs → (m.does ≡ n.does) × Alike (drop t.most xs) m.state n.state) → SameMove xs t m n
  anew_so : (general : List ℕ) (v : DepFrame) → m.does ≡ Begins general v → m ≡ n → SameMove xs t m n

pub data SameTurn (xs : List ℕ) (t : TargetState) (a b : TargetTurn) : Type 0 where
  keeps : a.does ≡ b.does → a.state.left ≡ t.left → Alike xs a.state b.state → SameTurn xs t a b
  sends : (pni : ℕ) → a.does ≡ steps.Reply (air_frame (piece true t.most pni t.left)) → a.state.left ≡ drop t.most t.left → a.state.unsent ≡ nat_lt t.most (length t.left)
      → (t.most ≤ length xs → (a.does ≡ b.does) × Alike (drop t.most xs) a.state b.state) → SameTurn xs t a b
  anew : (general : ArrayVec ℕ) (f : Signal) → a.does ≡ steps.Restart general f → a ≡ b → SameTurn xs t a b

-- a piece that stands in the bytes that both have
piece_in : (most pni : ℕ) (xs ys bytes : List ℕ) → bytes ≡ xs ++ ys → 0 < length ys → most ≤ length xs
    → (piece true most pni bytes ≡ information true true pni (take most xs)) × (nat_lt most (length bytes) ≡ true) × (drop most bytes ≡ drop most xs ++ ys)
piece_in most pni xs ys bytes e more fits =
    let size : length bytes ≡ length xs + length ys = ap length e ∙ length-append xs ys in
    let follows : nat_lt most (length bytes) ≡ true = lt-ltb most (length bytes) (omega (arith, size, more, fits)) in
    let content : take most bytes ≡ take most xs = ap (take most) e ∙ take-append-le most xs ys fits in (
      ap (λ b. information true b pni (take most bytes)) follows ∙ ap (information true true pni) content,
      follows,
      ap (drop most) e ∙ drop-append-le most xs ys fits,
    )

-- a target with the rest of its reply once more of it is sent
abbrev sent : TargetState → ℕ → List ℕ → TargetState
sent s pni bytes = record s { last = Some (piece true s.most pni bytes); left = drop s.most bytes; unsent = nat_lt s.most (length bytes) }

-- two targets that send the same piece
both_sent : (s : TargetState) (pni : ℕ) (xs ys zs a b : List ℕ) → a ≡ xs ++ ys → b ≡ xs ++ zs → 0 < length ys → 0 < length zs → 0 < s.most → s.most ≤ length xs
    → (piece true s.most pni a ≡ piece true s.most pni b) × Alike (drop s.most xs) (sent s pni a) (sent s pni b)
both_sent s pni xs ys zs a b e f h k some fits =
    let p = piece_in s.most pni xs ys a e h fits in
    let q = piece_in s.most pni xs zs b f k fits in
    let one : piece true s.most pni a ≡ piece true s.most pni b = p.0 ∙ sym q.0 in (
      one,
      record {
        ys = ys;
        zs = zs;
        left = p.2;
        other = q.2;
        more = λ z. h;
        more_other = λ z. k;
        unsent = p.1;
        some = some;
        same =
            ap (λ (v : DepFrame). record s { last = Some v; left = drop s.most b; unsent = nat_lt s.most (length b) }) (sym one)
            ∙ ap (λ (t : Bool). record s { last = Some (piece true s.most pni a); left = drop s.most b; unsent = t }) (q.1 ∙ sym p.1);
      },
    )

module _ (t : TargetState) (l xs : List ℕ) (a : Alike xs t (record t { left = l })) where
  -- the other target
  abbrev twin : TargetState
  twin = record t { left = l }

  abbrev Same : TargetMove → TargetMove → Type 0
  Same m n = SameMove xs t m n

  -- nothing of the reply is sent
  stay : (s : TargetState) (d : Does) → s.left ≡ t.left → s.unsent ≡ true → s.most ≡ t.most → Same (record { state = s; does = d }) (record { state = record s { left = l }; does = d })
  stay s d e u m =
      let some : 0 < s.most = subst (λ (k : ℕ). 0 < k) (sym m) a.some in
      keeps_so refl e (record { ys = a.ys; zs = a.zs; left = e ∙ a.left; other = a.other; more = a.more; more_other = a.more_other; unsent = u; some = some; same = refl })

  either : (b : Bool) (m n p q : TargetMove) → Same m n → Same p q → Same (if b then m else p) (if b then n else q)
  either true m n p q h k = h
  either false m n p q h k = k

  stays_same : Same (stays t) (stays twin)
  stays_same = stay t Stays refl a.unsent refl

  again_same : (o : Option DepFrame) → Same (again t o) (again twin o)
  again_same None = stays_same
  again_same (Some v) = stay t (Answers v) refl a.unsent refl

  repeated_same : (pni : ℕ) → Same (repeated t pni) (repeated twin pni)
  repeated_same pni = either (after pni == t.expected) _ _ _ _ (again_same t.last) stays_same

  grown_same : (b : Bool) (pni : ℕ) (bytes : List ℕ) → Same (grown t b pni bytes) (grown twin b pni bytes)
  grown_same true pni bytes = stay (grown t true pni bytes).state (Answers (Ack true pni)) refl a.unsent refl
  grown_same false pni bytes = stay (grown t false pni bytes).state (Delivers bytes) refl a.unsent refl

  gathered_same : (b : Bool) (pni : ℕ) (bytes : List ℕ) → Same (gathered t b pni bytes) (gathered twin b pni bytes)
  gathered_same b pni bytes = either (nat_lt limit (length bytes)) _ _ _ _ (stay (record t { mute = true }) Stays refl a.unsent refl) (grown_same b pni bytes)

  -- a piece is sent
  sent_same : (s : TargetState) (pni : ℕ) → s.most ≡ t.most
      → Same (record { state = sent s pni t.left; does = Answers (piece true s.most pni t.left) }) (record { state = sent s pni l; does = Answers (piece true s.most pni l) })
  sent_same s pni e =
      sends_so pni (ap (λ (k : ℕ). Answers (piece true k pni t.left)) e) (ap (λ (k : ℕ). drop k t.left) e) (ap (λ (k : ℕ). nat_lt k (length t.left)) e)
      (λ fits.
      let some : 0 < length xs = (let z = a.some in omega (arith, z, fits)) in
      let size : 0 < s.most = subst (λ (k : ℕ). 0 < k) (sym e) a.some in
      let w = both_sent s pni xs a.ys a.zs t.left l a.left a.other (a.more some) (a.more_other some) size (subst (λ (k : ℕ). k ≤ length xs) (sym e) fits) in
      (ap Answers w.0, subst (λ (k : ℕ). Alike (drop k xs) (sent s pni t.left) (sent s pni l)) e w.1))

  drawn_same : (pni : ℕ) → Same (drawn t pni) (drawn twin pni)
  drawn_same pni = either (if nat_lt 0 t.due then false else t.unsent) _ _ _ _ (sent_same (record t { expected = after t.expected; followed = false }) pni refl) stays_same

  granted_same : Same (granted t) (granted twin)
  granted_same =
      either (nat_lt 1 t.due) _ _ _ _ (stay (record t { due = t.due - 1 }) (Answers (Extend true t.times)) refl a.unsent refl)
      (sent_same (record t { due = 0; followed = true }) (before t.expected) refl)

  extended_same : (times : ℕ) → Same (extended t times) (extended twin times)
  extended_same times =
      either (nat_lt 0 t.due) _ _ _ _ (either (times == t.times) _ _ _ _ granted_same stays_same) (either t.followed _ _ _ _ (again_same t.last) stays_same)

  table_same : (v : DepFrame) → Same (frame_table t v) (frame_table twin v)
  table_same (Info false b pni x) = either (pni == t.expected) _ _ _ _ (gathered_same b pni (t.chain ++ x.items)) (repeated_same pni)
  table_same (Info true b pni x) = stays_same
  table_same (Ack false pni) = either (pni == t.expected) _ _ _ _ (drawn_same pni) (repeated_same pni)
  table_same (Ack true pni) = stays_same
  table_same (Nack pni) = repeated_same pni
  table_same (Attention false) = stay t (Answers (Attention true)) refl a.unsent refl
  table_same (Attention true) = stays_same
  table_same (Extend false times) = extended_same times
  table_same (Extend true times) = stays_same
  table_same DslReq = stay t (Sleeps DslRes) refl a.unsent refl
  table_same DslRes = stays_same
  table_same RlsReq = stay t (Frees RlsRes) refl a.unsent refl
  table_same RlsRes = stays_same
  table_same (AtrReq id lr general) = stays_same
  table_same (AtrRes id timeout lr general) = stays_same

  unless_mute : (v : DepFrame) → Same (if t.mute then stays t else frame_table t v) (if t.mute then stays twin else frame_table twin v)
  unless_mute v = either t.mute _ _ _ _ stays_same (table_same v)

  heeded_same : (v : DepFrame) → Same (heeded t v) (heeded twin v)
  heeded_same (AtrReq id lr general) = anew_so general.items (atr_res t) refl refl
  heeded_same (Info up b pni x) = unless_mute (Info up b pni x)
  heeded_same (Ack up pni) = unless_mute (Ack up pni)
  heeded_same (Nack pni) = unless_mute (Nack pni)
  heeded_same (Attention up) = unless_mute (Attention up)
  heeded_same (Extend up times) = unless_mute (Extend up times)
  heeded_same DslReq = unless_mute DslReq
  heeded_same DslRes = unless_mute DslRes
  heeded_same RlsReq = unless_mute RlsReq
  heeded_same RlsRes = unless_mute RlsRes
  heeded_same (AtrRes id timeout lr general) = unless_mute (AtrRes id timeout lr general)

  framed_same : (m n : TargetMove) → Same m n → SameTurn xs t (framed m) (framed n)
  framed_same m n (keeps_so e l h) = keeps (ap framed_does e) l h
  framed_same m n (sends_so pni e l z h) = sends pni (ap framed_does e) l z (λ fits. let w = h fits in (ap framed_does w.0, w.1))
  framed_same m n (anew_so general v e h) = anew (record { items = general }) (air_frame v) (ap framed_does e) (ap framed h)

  obeyed_same : (o : Option DepFrame) → SameTurn xs t (obeyed t o) (obeyed twin o)
  obeyed_same None = framed_same _ _ stays_same
  obeyed_same (Some v) = framed_same _ _ (heeded_same v)

pub same_turn : (xs : List ℕ) (t u : TargetState) (f : Signal) → Alike xs t u → SameTurn xs t (target_table t f) (target_table u f)
same_turn xs t u f a =
    subst (λ (w : TargetState). SameTurn xs t (target_table t f) (target_table w f)) (sym a.same)
    (obeyed_same t u.left xs (subst (λ (w : TargetState). Alike xs t w) a.same a) (spelled f))

-- As the reply is given to a target that asks for time first, and to one that doesn't.
pub same_asking : (t : TargetState) (xs ys zs : List ℕ) → (0 < length xs → 0 < length ys) → (0 < length xs → 0 < length zs) → 0 < t.most → 0 < t.busy
    → (reply_frame t (xs ++ ys) ≡ reply_frame t (xs ++ zs)) × Alike xs (replied t (xs ++ ys)) (replied t (xs ++ zs))
same_asking t xs ys zs h k some b =
    rw (lt-ltb 0 t.busy b) (refl, record { ys = ys; zs = zs; left = refl; other = refl; more = h; more_other = k; unsent = refl; some = some; same = refl })

pub same_first : (t : TargetState) (xs ys zs : List ℕ) → 0 < length ys → 0 < length zs → 0 < t.most → t.busy ≡ 0 → t.most ≤ length xs
    → (reply_frame t (xs ++ ys) ≡ reply_frame t (xs ++ zs)) × Alike (drop t.most xs) (replied t (xs ++ ys)) (replied t (xs ++ zs))
same_first t xs ys zs h k some b fits =
    let idle : nat_lt 0 t.busy ≡ false = ap (nat_lt 0) b in
    rw idle (both_sent (record t { due = 0; followed = false }) (before t.expected) xs ys zs (xs ++ ys) (xs ++ zs) refl refl h k some fits)
