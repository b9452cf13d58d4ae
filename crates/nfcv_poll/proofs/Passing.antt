-- A pass begins few rounds: each clash is of two tags, in a slot in which none before it in the pass was. Who is in a round
-- is in that of the last request of slots that reached it, whatever the reader believes.
use Rattle.std.proofs.Common.{◌≡◌, ◌⊎◌, inl, inr, ◌≤◌, ◌<◌, ℕ, suc, ◌+◌, List, [], ◌∷◌, ◌++◌, length, map, reverse, Bool, true, false, nat_lt, Option, Some, None, refl, sym, ◌∙◌, ap, subst, arith}
use Rattle.std.proofs.lemmas.List.{length-append, length-reverse}
use Rattle.nfc_base.specs.declared.event.Fate.{Fate}
use Rattle.nfc_base.specs.declared.event.Fate.TheVariants.{Pass, Damage, Lose, Break}
use Rattle.nfc_base.specs.declared.event.Heard.{Heard}
use Rattle.nfc_base.specs.declared.event.Heard.TheVariants.{Whole, Collided, Damaged, Silent}
use Rattle.nfc_base.specs.declared.frame.Tech.TheVariants.{V}
use Rattle.nfc_base.specs.Signal.{Signal}
use Rattle.nfc_base.specs.Trace.{other_than_pass, heard_by}
use Rattle.air_core.specs.Conversation.{replay, turn_events, turn_heard, joint_back}
use Rattle.air_core.specs.Joint.{Joint, Nothing, Single, Clashing}
use Rattle.air_core.specs.World.{Machine, World, stepped}
use Rattle.nfca_poll.specs.Crowd.{Each}
use Rattle.nfca_poll.specs.Muted.{muted, mute_air}
use Rattle.nfca_poll.proofs.quiet.Eaches.{each_map}
use Rattle.t5t_tag.specs.declared.answer.T5Answer.{T5Answer}
use Rattle.t5t_tag.specs.declared.answer.T5Answer.TheVariants.{Present, Content, Error}
use Rattle.t5t_tag.specs.declared.command.T5Command.TheVariants.{NextSlot}
use Rattle.t5t_tag.specs.Reading.{spelled_answer}
use Rattle.t5t_tag.specs.Spelling.{command_frame}
use Rattle.t5t_tag.specs.Store.{T5State, id_size}
use Rattle.nfcv_poll.specs.declared.mask.Mask.{Mask}
use Rattle.nfcv_poll.specs.declared.search.Said.TheVariants as told
use Rattle.nfcv_poll.specs.Masks.{extended, slots_frame}
use Rattle.nfcv_poll.specs.Search.{said_by, said}
use Rattle.nfcv_poll.specs.Crowd.{AreCrowd}
use Rattle.nfcv_poll.specs.Tags.{StepAsTags, tag_ids}
use Rattle.nfcv_poll.proofs.Alone.{alone}
use Rattle.nfcv_poll.proofs.Clashing.{AreWith, IsWith, AreTurning, IsTurning, still_with, clash_shares}
use Rattle.nfcv_poll.proofs.Forks.{Fork, IsFork, Differs, AreApart, sharing, few_forks}
use Rattle.nfcv_poll.proofs.FoundTags.{back_same}
use Rattle.nfcv_poll.proofs.Paths.{mask_by, IsPath, longer_path, extended_by, extended_none, same_packed, mask_packed}
use Rattle.nfcv_poll.proofs.Preorder.{Before, before_through, never_before, IsSoFar, IsNext, next_slot, clashed_slot, next_mask, turned_over}
use Rattle.nfcv_poll.proofs.Standing.{IsPlaced, ArePlaced}
use Rattle.nfcv_poll.proofs.Together.{mask_bytes, begins_together, moves_together}

-- a slot in which tags clashed, of the round of these slots
pub record Mark : Type 0 where
  pub path : List ℕ
  pub slot : ℕ

abbrev pub fork_of : Mark → Fork
fork_of k = record { depth = length k.path; mask = mask_bytes (mask_by k.path); slot = k.slot }

marks_differ : (j k : Mark) → IsPath j.path → IsPath k.path → (j.path ≡ k.path → j.slot ≡ k.slot → ⊥) → Differs (fork_of j) (fork_of k)
marks_differ j k u v other depth mask slot =
    other (same_packed j.path k.path depth u.small v.small (sym (mask_packed j.path u) ∙ mask ∙ mask_packed k.path v)) slot

each_of_map : {X Y : Type 0} (f : X → Y) (P : Y → Type 0) (xs : List X) → Each (λ x. P (f x)) xs → Each P (map f xs)
each_of_map f P [] h = tt
each_of_map f P (x ∷ xs) h = (h.0, each_of_map f P xs h.1)

each_both : {X : Type 0} (P Q : X → Type 0) (xs : List X) → Each P xs → Each Q xs → Each (λ x. P x × Q x) xs
each_both P Q [] h k = tt
each_both P Q (x ∷ xs) h k = ((h.0, k.0), each_both P Q xs h.1 k.1)

each_turned : {X : Type 0} (P : X → Type 0) (cs ws : List X) → Each P cs → Each P ws → Each P (reverse cs ++ ws)
each_turned P [] ws h k = k
each_turned P (c ∷ cs) ws h k = subst (Each P) (sym (turned_over cs c ws)) (each_turned P cs (c ∷ ws) h.1 (h.0, k))

map_turned : {X Y : Type 0} (f : X → Y) (cs ws : List X) → map f (reverse cs ++ ws) ≡ reverse (map f cs) ++ map f ws
map_turned f [] ws = refl
map_turned f (c ∷ cs) ws = ap (map f) (turned_over cs c ws) ∙ map_turned f cs (c ∷ ws) ∙ sym (turned_over (map f cs) (f c) (map f ws))

-- masks none of which is left came of no slots
pub none_left : (cs ws : List (List ℕ)) (clashes masks : List Mask) → clashes ≡ map mask_by cs → masks ≡ map mask_by ws → reverse clashes ++ masks ≡ [] → reverse cs ++ ws ≡ []
none_left cs ws clashes masks a b e = by_waiting (reverse cs ++ ws) refl
  where
    all : map mask_by (reverse cs ++ ws) ≡ []
    all = map_turned mask_by cs ws ∙ ap (λ x. reverse x ++ map mask_by ws) (sym a) ∙ ap (λ x. reverse clashes ++ x) (sym b) ∙ e

    by_waiting : (xs : List (List ℕ)) → reverse cs ++ ws ≡ xs → reverse cs ++ ws ≡ []
    by_waiting [] q = q
    by_waiting (x ∷ xs) q = absurd (let no_ : mask_by x ∷ map mask_by xs ≡ [] = sym (ap (map mask_by) q) ∙ all in cc)

long_turned : {X : Type 0} (cs ws : List X) → length (reverse cs ++ ws) ≡ length cs + length ws
long_turned cs ws = length-append (reverse cs) ws ∙ ap (λ n. n + length ws) (length-reverse cs)

long_map : {X Y : Type 0} (f : X → Y) (xs : List X) → length (map f xs) ≡ length xs
long_map f [] = refl
long_map f (x ∷ xs) = ap suc (long_map f xs)

-- what tells of a clash is one
collided_of : (h : Heard) → said h ≡ told.Clash → (g : Signal) × (h ≡ Collided g)
collided_of (Whole g) e = absurd (by_answer (spelled_answer g) e)
  where
    by_answer : (o : Option T5Answer) → said_by o ≡ told.Clash → ⊥
    by_answer None e = cc
    by_answer (Some (Present i)) e = cc
    by_answer (Some (Content content)) e = cc
    by_answer (Some (Error code)) e = cc
collided_of (Collided g) e = (g, refl)
collided_of Damaged e = absurd cc
collided_of Silent e = absurd cc

clash_back : (j : Joint) (y : Fate) (g : Signal) → Some (Collided g) ≡ heard_by Pass (joint_back j y) → (k : Signal) × (j ≡ Clashing k)
clash_back Nothing y g e = absurd cc
clash_back (Single k) Pass g e = absurd cc
clash_back (Single k) Damage g e = absurd cc
clash_back (Single k) Lose g e = absurd cc
clash_back (Single k) Break g e = absurd cc
clash_back (Clashing k) y g e = (k, refl)

test_least : (m n : ℕ) → nat_lt m n ≡ false → n ≤ m
test_least m n h = grind arith

test_less : (m n : ℕ) → nat_lt m n ≡ true → m < n
test_less m n h = grind arith

module _ {L : Type 0} (m : Machine L) (tag : L → T5State) (lit : L → Bool) (are : StepAsTags m tag lit) (ids : List (List ℕ)) (eight : Each (λ i. length i ≡ id_size) ids) where
  -- a request reached the listeners, or it didn't, and nothing was heard
  pub data Met (w : World L) (f : Signal) (x y : Fate) (h : Heard) : Type 0 where
    reached : x ≡ Pass → replay (mute_air m) w (turn_events (mute_air m) w f x y) ≡ stepped (muted m) w f → Met w f x y h
    missed : h ≡ Silent → 1 ≤ other_than_pass x → replay (mute_air m) w (turn_events (mute_air m) w f x y) ≡ w → Met w f x y h

  pub met : (w : World L) (f : Signal) (x y : Fate) (h : Heard) → Some h ≡ turn_heard (mute_air m) w f x y → Met w f x y h
  met w f Pass y h e =
      reached refl (back_same m tag lit are ids eight (λ v. v ≡ stepped (muted m) w f) (stepped (muted m) w f) ((mute_air m).joint w f) y h e refl)
  met w f Damage y h e = missed (let d : h ≡ Silent = cc in d) (omega arith) refl
  met w f Lose y h e = missed (let d : h ≡ Silent = cc in d) (omega arith) refl
  met w f Break y h e = absurd cc

  -- the round that the tags are in, where they are in one: that of a mask that was asked for, in a slot behind its clashes
  pub record Within (path : List ℕ) (marks : List Mark) (w : World L) : Type 0 where
    pub actual : List ℕ
    pub current : ℕ
    pub of_path : IsPath actual
    pub own : (actual ≡ path) ⊎ Before actual path
    pub at : AreWith m tag lit are ids (mask_by actual) current w.listeners
    pub past : Each (λ k. k.path ≡ actual → k.slot ≤ current) marks

  -- Behind a turn of it, which brings the tags that it reaches to this slot of this round: where a clash was heard, two tags
  -- are in the slot at least, and none clashed there before.
  pub record Behind (x : Fate) (round : List ℕ) (slot : ℕ) (path : List ℕ) (marks : List Mark) (h : Heard) (w : World L) : Type 0 where
    pub within : Within path marks w
    pub pace : x ≡ Pass → (within.actual ≡ round) × (within.current ≡ slot)
    pub shared : said h ≡ told.Clash → 2 ≤ sharing (fork_of (record { path = within.actual; slot = within.current })) ids
    pub fresh : said h ≡ told.Clash → Each (λ k. k.path ≡ within.actual → k.slot < within.current) marks

  no_clash : (h : Heard) → h ≡ Silent → said h ≡ told.Clash → ⊥
  no_clash h silent c = let no_ : told.Nothing ≡ told.Clash = sym (ap said silent) ∙ c in cc

  unmoved : (x : Fate) (round : List ℕ) (slot : ℕ) (path : List ℕ) (marks : List Mark) (w v : World L) (h : Heard) → h ≡ Silent → 1 ≤ other_than_pass x → v ≡ w → Within path marks w
      → Behind x round slot path marks h v
  unmoved x round slot path marks w v h silent noise same k = record {
    pace = λ e. absurd (let N : Fate → Type 0 = λ z. 1 ≤ other_than_pass z in let no_ : 1 ≤ 0 = subst N e noise in omega (arith, no_));
    within = record {
      actual = k.actual;
      current = k.current;
      of_path = k.of_path;
      own = k.own;
      at = subst (λ u. AreWith m tag lit are ids (mask_by k.actual) k.current u.listeners) (sym same) k.at;
      past = k.past;
    };
    shared = λ c. absurd (no_clash h silent c);
    fresh = λ c. absurd (no_clash h silent c);
  }

  -- a turn that reaches tags each of which makes a turn in a round
  module _ (f : Signal) (of_v : f.tech ≡ V) (n : List ℕ) (current : ℕ) (w : World L) (x y : Fate) (h : Heard) (same : tag_ids m tag w.listeners ≡ ids)
      (heard : Some h ≡ turn_heard (mute_air m) w f x y) (turning : AreTurning m tag lit are ids f of_v (mask_by n) current w.listeners) where
    shares_it : x ≡ Pass → said h ≡ told.Clash → 2 ≤ sharing (fork_of (record { path = n; slot = current })) ids
    shares_it pass c =
        let hit = collided_of h c in
        let there : Some (Collided hit.0) ≡ turn_heard (mute_air m) w f x y = ap Some (sym hit.1) ∙ heard in
        let T : Fate → Type 0 = λ z. Some (Collided hit.0) ≡ turn_heard (mute_air m) w f z y in
        let back = clash_back ((mute_air m).joint w f) y hit.0 (subst T pass there) in
        let two : 2 ≤ sharing (fork_of (record { path = n; slot = current })) (tag_ids m tag w.listeners) =
        clash_shares m tag lit are ids f of_v (mask_by n) current (length n) refl w.listeners back.0 turning back.1 in
        subst (λ is. 2 ≤ sharing (fork_of (record { path = n; slot = current })) is) same two

    moved : (path : List ℕ) (marks : List Mark) → x ≡ Pass → replay (mute_air m) w (turn_events (mute_air m) w f x y) ≡ stepped (muted m) w f → IsPath n → (n ≡ path) ⊎ Before n path
        → Each (λ k. k.path ≡ n → k.slot < current) marks → Behind x n current path marks h (replay (mute_air m) w (turn_events (mute_air m) w f x y))
    moved path marks pass goes is own fresh = record {
      pace = λ e. (refl, refl);
      within = record {
        actual = n;
        current = current;
        of_path = is;
        own = own;
        at = subst (λ (u : World L). AreWith m tag lit are ids (mask_by n) current u.listeners) (sym goes) (still_with m tag lit are ids f of_v (mask_by n) current w.listeners turning);
        past = each_map (λ k. k.path ≡ n → k.slot < current) (λ k. k.path ≡ n → k.slot ≤ current) (λ k p e. (let q : k.slot < current = p e in omega (arith, q))) marks fresh;
      };
      shared = shares_it pass;
      fresh = λ c. fresh;
    }

  abbrev pub next_frame : Signal
  next_frame = command_frame NextSlot

  turning_next : (n : Mask) (current : ℕ) (ls : List L) → AreWith m tag lit are ids n current ls → AreTurning m tag lit are ids next_frame refl n (current + 1) ls
  turning_next n current ls h =
      each_map (λ l. m.tech l ≡ V → IsWith m tag lit are ids n current l) (λ l. m.tech l ≡ V → IsTurning m tag lit are ids next_frame refl n (current + 1) l)
      (λ l k e. (let t = k e in record { lit' = t.lit'; turn = moves_together n current (tag l) t.at })) ls h

  turning_slots : (n : Mask) (found : List (List ℕ)) (ls : List L) → ArePlaced m tag lit are ids found ls → AreTurning m tag lit are ids (slots_frame n) refl n 0 ls
  turning_slots n found ls h =
      each_map (λ l. m.tech l ≡ V → IsPlaced m tag lit are ids found l) (λ l. m.tech l ≡ V → IsTurning m tag lit are ids (slots_frame n) refl n 0 l)
      (λ l k e. record { lit' = (k e).lit'; turn = begins_together n (tag l) }) ls h

  -- a request for the next slot
  pub behind_next : (path : List ℕ) (marks : List Mark) (w : World L) (x y : Fate) (h : Heard) → tag_ids m tag w.listeners ≡ ids → Some h ≡ turn_heard (mute_air m) w next_frame x y
      → (k : Within path marks w)
      → Behind x k.actual (k.current + 1) path marks h (replay (mute_air m) w (turn_events (mute_air m) w next_frame x y))
  behind_next path marks w x y h same heard k = by_met (met w next_frame x y h heard)
    where
      by_met : Met w next_frame x y h → Behind x k.actual (k.current + 1) path marks h (replay (mute_air m) w (turn_events (mute_air m) w next_frame x y))
      by_met (missed silent noise stays) = unmoved x k.actual (k.current + 1) path marks w (replay (mute_air m) w (turn_events (mute_air m) w next_frame x y)) h silent noise stays k
      by_met (reached pass goes) =
          moved next_frame refl k.actual (k.current + 1) w x y h same heard (turning_next (mask_by k.actual) k.current w.listeners k.at) path marks pass goes k.of_path k.own
          (each_map (λ j. j.path ≡ k.actual → j.slot ≤ k.current) (λ j. j.path ≡ k.actual → j.slot < k.current + 1) (λ j p e. (let q : j.slot ≤ k.current = p e in omega (arith, q))) marks k.past)

  -- a request of slots, of a mask behind all whose tags clashed
  pub behind_slots : (path : List ℕ) (marks : List Mark) (found : List (List ℕ)) (w : World L) (x y : Fate) (h : Heard) → tag_ids m tag w.listeners ≡ ids
      → Some h ≡ turn_heard (mute_air m) w (slots_frame (mask_by path)) x y → ArePlaced m tag lit are ids found w.listeners → IsPath path → Each (λ k. Before k.path path) marks
      → Within path marks w → Behind x path 0 path marks h (replay (mute_air m) w (turn_events (mute_air m) w (slots_frame (mask_by path)) x y))
  behind_slots path marks found w x y h same heard placed is before k = by_met (met w frame x y h heard)
    where
      frame : Signal
      frame = slots_frame (mask_by path)

      by_met : Met w frame x y h → Behind x path 0 path marks h (replay (mute_air m) w (turn_events (mute_air m) w frame x y))
      by_met (missed silent noise stays) = unmoved x path 0 path marks w (replay (mute_air m) w (turn_events (mute_air m) w frame x y)) h silent noise stays k
      by_met (reached pass goes) =
          moved frame refl path 0 w x y h same heard (turning_slots (mask_by path) found w.listeners placed) path marks pass goes is (inl refl)
          (each_map (λ j. Before j.path path) (λ j. j.path ≡ path → j.slot < 0) (λ j b e. absurd (never_before path (subst (λ p. Before p path) e b))) marks before)

  -- How far a pass is: the slots that led to its mask, to those that clashed in its round and to those that wait, and what
  -- clashed in the pass.
  pub record IsMarked (path : List ℕ) (slot : ℕ) (k : Mark) : Type 0 where
    pub of_path : IsPath k.path
    pub asked : ((k.path ≡ path) × (0 < slot)) ⊎ Before k.path path

  pub record Working (rounds : ℕ) (clashes masks : List Mask) (n : Mask) (slot : ℕ) (w : World L) : Type 0 where
    pub path : List ℕ
    pub cs : List (List ℕ)
    pub ws : List (List ℕ)
    pub marks : List Mark
    pub is : n ≡ mask_by path
    pub of_path : IsPath path
    pub clashes' : clashes ≡ map mask_by cs
    pub masks' : masks ≡ map mask_by ws
    pub of_cs : Each IsPath cs
    pub of_ws : Each IsPath ws
    pub so_far : IsSoFar (path ∷ []) path slot cs ws
    pub count : rounds + (length cs + length ws) ≤ 1 + length marks
    pub forks : Each (IsFork ids) (map fork_of marks)
    pub apart : AreApart (map fork_of marks)
    pub marked : Each (IsMarked path slot) marks
    pub within : Within path marks w

  -- so it began few rounds
  pub few_rounds : (rounds : ℕ) (clashes masks : List Mask) (n : Mask) (slot : ℕ) (w : World L) → length ids ≤ 16 → Working rounds clashes masks n slot w → rounds ≤ 121
  few_rounds rounds clashes masks n slot w few k =
      omega (arith, k.count, few_forks ids (map fork_of k.marks) few k.apart k.forks, long_map fork_of k.marks)

  -- a pass begins where no tag is in a round
  pub record Begun (w : World L) : Type 0 where
    pub more : Working 1 [] [] (mask_by []) 0 w
    pub path' : more.path ≡ []
    pub cs' : more.cs ≡ []
    pub ws' : more.ws ≡ []

  pub pass_begins : (w : World L) → AreWith m tag lit are ids (mask_by []) 0 w.listeners → Begun w
  pass_begins w at = record {
    more = record {
      path = [];
      cs = [];
      ws = [];
      marks = [];
      is = refl;
      of_path = record { few = omega arith; small = tt };
      clashes' = refl;
      masks' = refl;
      of_cs = tt;
      of_ws = tt;
      so_far = record { asked' = (inl refl, tt); ahead = tt; row = tt; children = tt; turned = tt };
      count = omega arith;
      forks = tt;
      apart = tt;
      marked = tt;
      within = record { actual = []; current = 0; of_path = record { few = omega arith; small = tt }; own = inl refl; at = at; past = tt };
    };
    path' = refl;
    cs' = refl;
    ws' = refl;
  }

  marked_more : (path : List ℕ) (slot : ℕ) (marks : List Mark) → Each (IsMarked path slot) marks → Each (IsMarked path (slot + 1)) marks
  marked_more path slot marks h = each_map (IsMarked path slot) (IsMarked path (slot + 1)) (λ k i. record { of_path = i.of_path; asked = by_asked k i.asked }) marks h
    where
      by_asked : (k : Mark) → ((k.path ≡ path) × (0 < slot)) ⊎ Before k.path path → ((k.path ≡ path) × (0 < slot + 1)) ⊎ Before k.path path
      by_asked k (inl e) = inl (e.0, omega arith)
      by_asked k (inr b) = inr b

  -- a slot
  module _ (rounds : ℕ) (clashes masks : List Mask) (n : Mask) (slot : ℕ) (w v : World L) (h : Heard) (k : Working rounds clashes masks n slot w) (x : Fate) (round : List ℕ) (at : ℕ)
      (b : Behind x round at k.path k.marks h v) where
    pub record Kept : Type 0 where
      pub more : Working rounds clashes masks n (slot + 1) v
      pub path' : more.path ≡ k.path
      pub cs' : more.cs ≡ k.cs
      pub ws' : more.ws ≡ k.ws
      pub within' : (more.within.actual ≡ b.within.actual) × (more.within.current ≡ b.within.current)

    pub without_clash : Kept
    without_clash = record {
      more = record {
        path = k.path;
        cs = k.cs;
        ws = k.ws;
        marks = k.marks;
        is = k.is;
        of_path = k.of_path;
        clashes' = k.clashes';
        masks' = k.masks';
        of_cs = k.of_cs;
        of_ws = k.of_ws;
        so_far = next_slot (k.path ∷ []) k.path slot k.cs k.ws k.so_far;
        count = k.count;
        forks = k.forks;
        apart = k.apart;
        marked = marked_more k.path slot k.marks k.marked;
        within = b.within;
      };
      path' = refl;
      cs' = refl;
      ws' = refl;
      within' = (refl, refl);
    }

    -- a clash is another mask for later, or its mask has no slot behind it
    pub record Pushed (longer : Mask) : Type 0 where
      pub is : extended n slot ≡ Some longer
      pub more : Working rounds (longer ∷ clashes) masks n (slot + 1) v
      pub path' : more.path ≡ k.path
      pub cs' : more.cs ≡ (k.path ++ slot ∷ []) ∷ k.cs
      pub ws' : more.ws ≡ k.ws
      pub within' : (more.within.actual ≡ b.within.actual) × (more.within.current ≡ b.within.current)

    pub data Clashed : Type 0 where
      pushed : (longer : Mask) → Pushed longer → Clashed
      passed : extended n slot ≡ None → 15 ≤ length k.path → Clashed

    abbrev new : Mark
    new = record { path = b.within.actual; slot = b.within.current }

    -- tags that clash share less than all bits
    pub shallow : AreCrowd ids → said h ≡ told.Clash → length b.within.actual < 15
    shallow crowd c = by_length (nat_lt (length b.within.actual) 15) refl
      where
        by_length : (u : Bool) → nat_lt (length b.within.actual) 15 ≡ u → length b.within.actual < 15
        by_length true e = test_less (length b.within.actual) 15 e
        by_length false e =
            let deep : length b.within.actual ≡ 15 = omega (arith, test_least (length b.within.actual) 15 e, b.within.of_path.few) in
            absurd (omega (arith, b.shared c, alone (fork_of new) deep ids crowd.long crowd.bytes crowd.own))

    apart_new : said h ≡ told.Clash → Each (Differs (fork_of new)) (map fork_of k.marks)
    apart_new c =
        each_of_map fork_of (Differs (fork_of new)) k.marks
        (each_map (λ j. IsMarked k.path slot j × (j.path ≡ b.within.actual → j.slot < b.within.current)) (λ j. Differs (fork_of new) (fork_of j))
        (λ j p. marks_differ new j b.within.of_path p.0.of_path (λ e s. (let q : j.slot < b.within.current = p.1 (sym e) in omega (arith, q, s)))) k.marks
        (each_both (IsMarked k.path slot) (λ j. j.path ≡ b.within.actual → j.slot < b.within.current) k.marks k.marked (b.fresh c)))

    asked_new : (b.within.actual ≡ k.path) ⊎ Before b.within.actual k.path → ((b.within.actual ≡ k.path) × (0 < slot + 1)) ⊎ Before b.within.actual k.path
    asked_new (inl e) = inl (e, omega arith)
    asked_new (inr e) = inr e

    pub with_clash : AreCrowd ids → slot < 16 → said h ≡ told.Clash → Clashed
    with_clash crowd less c = by_length (nat_lt (length k.path) 15) refl
      where
        longer : Mask
        longer = mask_by (k.path ++ slot ∷ [])

        by_length : (u : Bool) → nat_lt (length k.path) 15 ≡ u → Clashed
        by_length false e = passed (ap (λ z. extended z slot) k.is ∙ extended_none k.path slot (test_least (length k.path) 15 e)) (test_least (length k.path) 15 e)
        by_length true e =
            let short : length k.path < 15 = test_less (length k.path) 15 e in
            pushed longer (record {
              is = ap (λ z. extended z slot) k.is ∙ extended_by k.path slot k.of_path short less;
              more = record {
                path = k.path;
                cs = (k.path ++ slot ∷ []) ∷ k.cs;
                ws = k.ws;
                marks = new ∷ k.marks;
                is = k.is;
                of_path = k.of_path;
                clashes' = ap (λ ms. longer ∷ ms) k.clashes';
                masks' = k.masks';
                of_cs = (longer_path k.path slot k.of_path short less, k.of_cs);
                of_ws = k.of_ws;
                so_far = clashed_slot (k.path ∷ []) k.path slot k.cs k.ws k.so_far;
                count = omega (arith, k.count);
                forks = (record { clash = b.shared c; depth = shallow crowd c }, k.forks);
                apart = (apart_new c, k.apart);
                marked = (record { of_path = b.within.of_path; asked = asked_new b.within.own }, marked_more k.path slot k.marks k.marked);
                within = record {
                  actual = b.within.actual;
                  current = b.within.current;
                  of_path = b.within.of_path;
                  own = b.within.own;
                  at = b.within.at;
                  past = ((λ e. omega arith), b.within.past);
                };
              };
              path' = refl;
              cs' = refl;
              ws' = refl;
              within' = (refl, refl);
            })

  -- the next round
  module _ (rounds : ℕ) (clashes masks : List Mask) (n : Mask) (slot : ℕ) (w : World L) (k : Working rounds clashes masks n slot w) (n' : Mask) (rest : List Mask)
      (left : reverse clashes ++ masks ≡ n' ∷ rest) where
    waiting : map mask_by (reverse k.cs ++ k.ws) ≡ n' ∷ rest
    waiting =
        map_turned mask_by k.cs k.ws ∙ ap (λ x. reverse x ++ map mask_by k.ws) (sym k.clashes') ∙ ap (λ x. reverse clashes ++ x) (sym k.masks') ∙ left

    pub record Next : Type 0 where
      pub more : Working (rounds + 1) [] rest n' 0 w
      pub all : reverse k.cs ++ k.ws ≡ more.path ∷ more.ws
      pub none : more.cs ≡ []

    pub next_round : Next
    next_round = by_waiting (reverse k.cs ++ k.ws) refl
      where
        by_waiting : (all : List (List ℕ)) → reverse k.cs ++ k.ws ≡ all → Next
        by_waiting [] e = absurd (let no_ : [] ≡ n' ∷ rest = sym (ap (map mask_by) e) ∙ waiting in cc)
        by_waiting (q ∷ qs) e =
            let them : mask_by q ∷ map mask_by qs ≡ n' ∷ rest = sym (ap (map mask_by) e) ∙ waiting in
            let first : mask_by q ≡ n' = cc in
            let others : map mask_by qs ≡ rest = cc in
            let paths : Each IsPath (q ∷ qs) = subst (Each IsPath) e (each_turned IsPath k.cs k.ws k.of_cs k.of_ws) in
            let long : suc (length qs) ≡ length k.cs + length k.ws = sym (ap length e) ∙ long_turned k.cs k.ws in
            let next : IsNext (k.path ∷ []) q qs = next_mask (k.path ∷ []) k.path slot k.cs k.ws k.so_far q qs e in
            let so : IsSoFar (q ∷ k.path ∷ []) q 0 [] qs = next.so_far in
            record {
              all = e;
              none = refl;
              more = record {
                path = q;
                cs = [];
                ws = qs;
                marks = k.marks;
                is = sym first;
                of_path = paths.0;
                clashes' = refl;
                masks' = sym others;
                of_cs = tt;
                of_ws = paths.1;
                so_far = record { asked' = (inl refl, tt); ahead = so.ahead; row = so.row; children = so.children; turned = so.turned };
                count = omega (arith, k.count, long);
                forks = k.forks;
                apart = k.apart;
                marked = each_map (IsMarked k.path slot) (IsMarked q 0) (λ j i. record { of_path = i.of_path; asked = by_asked j next.new.0 i.asked }) k.marks k.marked;
                within = record {
                  actual = k.within.actual;
                  current = k.within.current;
                  of_path = k.within.of_path;
                  own = by_own next.new.0 k.within.own;
                  at = k.within.at;
                  past = k.within.past;
                };
              };
            }
          where
            by_asked : (j : Mark) → Before k.path q → ((j.path ≡ k.path) × (0 < slot)) ⊎ Before j.path k.path → ((j.path ≡ q) × (0 < 0)) ⊎ Before j.path q
            by_asked j ahead (inl s) = inr (subst (λ p. Before p q) (sym s.0) ahead)
            by_asked j ahead (inr s) = inr (before_through j.path k.path q s ahead)

            by_own : Before k.path q → (k.within.actual ≡ k.path) ⊎ Before k.within.actual k.path → (k.within.actual ≡ q) ⊎ Before k.within.actual q
            by_own ahead (inl s) = inr (subst (λ p. Before p q) (sym s) ahead)
            by_own ahead (inr s) = inr (before_through k.within.actual k.path q s ahead)
