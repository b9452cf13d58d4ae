-- What a peer's list gained stretch by stretch stands in the range of its link, so both stories are the same.
use Rattle.std.proofs.Common.{◌≡◌, ℕ, suc, ◌+◌, List, [], ◌∷◌, ◌++◌, map, length, Bool, true, false, if◌then◌else◌, Option, Some, None, refl, sym, ◌∙◌, ap, subst, arith}
use Rattle.std.specs.Prelude.{get_or}
use Rattle.std.specs.List.{AllByRecursion}
use Rattle.std.proofs.lemmas.List.{append-nil}
use Rattle.far_air.specs.FarEnds.{first_far, later_fars}
use Rattle.llcp_link.specs.State.{restarted}
use Rattle.snep_core.specs.Server.{serving}
use Rattle.nfc_base.specs.declared.event.Event.{Event}
use Rattle.bench_script.specs.declared.command.Command.{Command}
use Rattle.bench_script.specs.declared.command.Command.TheVariants.{Remove, Find, Crowd, Poll3, Read, Read3, Write, Write3, Link, Forge, Put, Get, Lookup, Unlink, OnPut, OnGet, Puts, Raw}
use Rattle.bench_world.specs.declared.entry.Answer.{Answer}
use Rattle.bench_world.specs.declared.entry.Answer.TheVariants as answers
use Rattle.bench_world.specs.declared.entry.Entry.{Entry}
use Rattle.bench_world.specs.declared.inbox.LinkRange.{LinkRange}
use Rattle.bench_world.specs.World.{FarEnd}
use Rattle.bench_world.specs.Inbox.{chosen, is_in}
use Rattle.bench_world.specs.Legal.{State, Given, Joins, EachLegal, LegalStep, changed, is_linked_to, link_after, state_after, world_after}
use Rattle.bench_world.specs.LinkLaw.{AreCounted}
use Rattle.bench_world.specs.Links.{OpenLink, end_numbered, is_number}
use Rattle.bench_world.specs.Peers.{placed_under}
use Rattle.bench_script.specs.declared.command.DeviceId.TheVariants.{A}
use Rattle.bench_world.specs.Forging.{opens_link}
use Rattle.bench_world.specs.Rawing.{raw_opens}
use Rattle.bench_world.proofs.forged.ForgeLeft.{forged_numbers}
use Rattle.bench_world.specs.Stories as told
use Rattle.bench_world.specs.Stories.{Opener, Story, Stretch, new_story, story_within, whole_of, accepted_of, accepted_in, Beginning, NothingBegins, BeginsOpen, BeginsAndEnds, beginning, begins_in}
use Rattle.bench_world.specs.Stories.{begun_by, gained_by, gained_on, last_goes_on, open_goes_on, range_of, stretch_of}
use Rattle.bench_world.proofs.devices.AtNumbers.{AreHeld, HasHeld, Held, IfHeld, at_number, held, held_at}
use Rattle.bench_world.proofs.link_law.PayloadsKept.{unless_numbers}
use Rattle.bench_world.proofs.link_law.StoriesHere.{Stand, StandBy, view_of}
use Rattle.bench_world.proofs.link_law.StoriesStep.{base_held}
use Rattle.bench_world.proofs.link_law.StoriesStand.{Fits, IsDone, Open, Paired, at, last_story, ranges, stories}
use Rattle.bench_world.proofs.link_law.Tales.{goes_on, stories_behind, stories_from}
use Rattle.bench_world.proofs.open_link.Unlinking.{same_numbers}

-- what a peer that stands accepted
list_held : (o stayed : Option FarEnd) (k : Held) → held o ≡ Some k → accepted_of o stayed ≡ k.accepted
list_held None stayed k is = absurd cc
list_held (Some end) stayed k is = (let same : record { limit = end.service.limit; accepted = end.service.accepted } ≡ k = cc in ap (λ (h : Held). h.accepted) same)

list_is : (t : State) (n : ℕ) (k : Held) → at (view_of t) n ≡ Some k → accepted_in n t ≡ k.accepted
list_is t n k found =
    list_held (end_numbered n t.peers.numbers t.world.fars) (get_or t.peers.gone n None) k (held_at n t.peers.numbers t.world.fars ∙ found)

-- the range of the last link, by its number
range_last : (xs : List LinkRange) (r : LinkRange) → range_of (suc (length xs)) (xs ++ r ∷ []) ≡ Some r
range_last [] r = refl
range_last (x ∷ xs) r = range_last xs r

-- a story whose range stands, to a peer that is placed
gained_fits : (t : State) (x : Paired) (k : Held) → Fits (view_of t) x → at (view_of t) x.story.peer ≡ Some k → range_of x.story.number t.peers.links ≡ Some x.range
    → gained_on t x.story.number ≡ x.story.gained
gained_fits t x k f found range =
    let own : accepted_in x.range.peer t ≡ k.accepted = ap (λ p. accepted_in p t) f.peer ∙ list_is t x.story.peer k found in
    ap (gained_by t) range ∙ ap (chosen (is_in x.range) 0) own
    ∙ subst (IfHeld (λ h. chosen (is_in x.range) 0 h.accepted ≡ x.story.gained)) found f.holds

-- the last of some, and its number
pub last_equal : {X : Type 0} (xs ys : List X) (x y : X) → xs ++ x ∷ [] ≡ ys ++ y ∷ [] → (xs ≡ ys) × (x ≡ y)
last_equal [] [] x y e = (refl, cc)
last_equal [] (z ∷ []) x y e = absurd cc
last_equal [] (z ∷ w ∷ ys) x y e = absurd cc
last_equal (z ∷ []) [] x y e = absurd cc
last_equal (z ∷ w ∷ xs) [] x y e = absurd cc
last_equal (z ∷ xs) (w ∷ ys) x y e =
    let rest : xs ++ x ∷ [] ≡ ys ++ y ∷ [] = cc in
    let first : z ≡ w = cc in
    let more = last_equal xs ys x y rest in
    (ap (λ v. v ∷ xs) first ∙ ap (λ vs. w ∷ vs) more.0, more.1)

record LastPair (done : List Paired) (before : List Story) (y : Story) : Type 0 where
  pub front : List Paired
  pub last : Paired
  pub split : done ≡ front ++ last ∷ []
  pub fronts : stories front ≡ before
  pub is : last.story ≡ y

last_pair : (done : List Paired) (before : List Story) (y : Story) → stories done ≡ before ++ y ∷ [] → LastPair done before y
last_pair [] [] y e = absurd cc
last_pair [] (b ∷ before) y e = absurd cc
last_pair (x ∷ []) [] y e = record { front = []; last = x; split = refl; fronts = refl; is = cc }
last_pair (x ∷ z ∷ done) [] y e = absurd cc
last_pair (x ∷ done) (b ∷ before) y e =
    let rest : stories done ≡ before ++ y ∷ [] = cc in
    let first : x.story ≡ b = cc in
    let more = last_pair done before y rest in
    record {
      front = x ∷ more.front;
      last = more.last;
      split = ap (λ ps. x ∷ ps) more.split;
      fronts = ap (λ ys. x.story ∷ ys) more.fronts ∙ ap (λ v. v ∷ before) first;
      is = more.is;
    }

counted_at : (n : ℕ) (before : List Story) (y : Story) → AreCounted n (before ++ y ∷ []) → y.number ≡ n + length before
counted_at n [] y c = omega (arith, c.0)
counted_at n (b ∷ before) y c = (let e = counted_at (n + 1) before y c.1 in omega (arith, e))

as_long : (xs : List Paired) → length (ranges xs) ≡ length (stories xs)
as_long [] = refl
as_long (x ∷ xs) = ap suc (as_long xs)

ranges_last : (xs : List Paired) (x : Paired) → ranges (xs ++ x ∷ []) ≡ ranges xs ++ x.range ∷ []
ranges_last [] x = refl
ranges_last (y ∷ xs) x = ap (λ rs. y.range ∷ rs) (ranges_last xs x)

all_last : (P : Paired → Type 0) (xs : List Paired) (x : Paired) → AllByRecursion P (xs ++ x ∷ []) → P x
all_last P [] x all = all.0
all_last P (y ∷ xs) x all = all_last P xs x all.1

-- by its pair
by_pair : (t : State) (front : List Paired) (x : Paired) (y : Story) (k : Held) → Fits (view_of t) x → t.peers.links ≡ ranges front ++ x.range ∷ [] → x.story ≡ y
    → y.number ≡ 1 + length (stories front)
    → at (view_of t) y.peer ≡ Some k → gained_on t y.number ≡ y.gained
by_pair t front x y k fits links is number found =
    let same : x.story.number ≡ y.number = ap (λ (z : Story). z.number) is in
    let long : length (ranges front) ≡ length (stories front) = as_long front in
    let at_number : x.story.number ≡ suc (length (ranges front)) = omega (arith, same, number, long) in
    let range : range_of x.story.number t.peers.links ≡ Some x.range = ap (λ n. range_of n t.peers.links) at_number ∙ ap (range_of (suc (length (ranges front)))) links
    ∙ range_last (ranges front) x.range in
    subst (λ (z : Story). gained_on t z.number ≡ z.gained) is (gained_fits t x k fits (ap (λ (z : Story). at (view_of t) z.peer) is ∙ found) range)

-- of some stories that stand, the last one's gain stands in its range, where its peer is placed
pub last_gained : (t : State) (o : Option OpenLink) (before : List Story) (y : Story) (k : Held) → StandBy (view_of t) o (before ++ y ∷ []) → at (view_of t) y.peer ≡ Some k
    → gained_on t y.number ≡ y.gained
last_gained t None before y k stand found =
    let p = last_pair stand.done before y (sym stand.told) in
    let counted : y.number ≡ 1 + length (stories p.front) = counted_at 1 before y stand.base.counted ∙ ap (λ (ys : List Story). 1 + length ys) (sym p.fronts) in
    let done : IsDone (view_of t) p.last = all_last (IsDone (view_of t)) p.front p.last (subst (AllByRecursion (IsDone (view_of t))) p.split stand.base.each) in
    by_pair t p.front p.last y k done.fits (stand.links ∙ ap ranges p.split ∙ ranges_last p.front p.last) p.is counted found
last_gained t (Some l) before y k stand found =
    let o = stand.opened in
    let both = last_equal (stories o.done) before o.now.story y (sym o.told) in
    let counted : y.number ≡ 1 + length (stories o.done) = counted_at 1 before y o.base.counted ∙ ap (λ (ys : List Story). 1 + length ys) (sym both.0) in
    by_pair t o.done o.now y k o.going.fits o.links both.1 counted found

-- who has a number has a far end still
still_held : (n : ℕ) (ps : List (Option ℕ)) (ks hs : List (Option Held)) (k : Held) → AreHeld ps hs → at_number n ps ks ≡ Some k → (h : Held) × (at_number n ps hs ≡ Some h)
still_held n [] ks hs k all found = absurd cc
still_held n (p ∷ ps) ks [] k all found = absurd all
still_held n (p ∷ ps) ks (x ∷ hs) k all found = by (is_number n p) refl found (still_held n ps (later_fars ks) hs k all.1)
  where
    there : (q : Option ℕ) (h : Option Held) → HasHeld q h → is_number n q ≡ true → (z : Held) × (h ≡ Some z)
    there None h has is = absurd (let clash : false ≡ true = is in cc)
    there (Some q) None has is = absurd has
    there (Some q) (Some z) has is = (z, refl)

    by : (v : Bool) → is_number n p ≡ v → (if v then first_far ks else at_number n ps (later_fars ks)) ≡ Some k
        → (at_number n ps (later_fars ks) ≡ Some k → (h : Held) × (at_number n ps hs ≡ Some h)) → (h : Held) × ((if v then x else at_number n ps hs) ≡ Some h)
    by true is found rest = there p x all.0 is
    by false is found rest = rest found

-- the link that is open in a stretch was open before it
pub open_before : (s : State) (c : Command) (l : OpenLink) → (changed s c).link ≡ Some l → s.link ≡ Some l
open_before s Find l e = absurd (let clash : None ≡ Some l = e in cc)
open_before s Crowd l e = absurd (let clash : None ≡ Some l = e in cc)
open_before s Poll3 l e = absurd (let clash : None ≡ Some l = e in cc)
open_before s (Read id) l e = absurd (let clash : None ≡ Some l = e in cc)
open_before s (Write id m) l e = absurd (let clash : None ≡ Some l = e in cc)
open_before s (Read3 id) l e = absurd (let clash : None ≡ Some l = e in cc)
open_before s (Write3 id m) l e = absurd (let clash : None ≡ Some l = e in cc)
open_before s (Link id miu window) l e = absurd (let clash : None ≡ Some l = e in cc)
open_before s (Forge id payloads) l e = absurd (let clash : None ≡ Some l = e in cc)
open_before s (Raw id frames) l e = absurd (let clash : None ≡ Some l = e in cc)
open_before s (Remove id) l e = by (is_linked_to s id) e
  where
    by : (v : Bool) → (if v then None else s.link) ≡ Some l → s.link ≡ Some l
    by true e = absurd (let clash : None ≡ Some l = e in cc)
    by false e = e
open_before s c l e = e

-- where it ended in the stretch, no peer came or went
pub ended_in : (s : State) (joins : Joins) (c : Command) (es : List Event) (a : Option Answer) (l : OpenLink) → (changed s c).link ≡ Some l → (state_after s joins c es a).link ≡ None
    → (state_after s joins c es a).peers.numbers ≡ s.peers.numbers
ended_in s joins (Put m) es a l open_ ended = unless_numbers (link_after s joins (Put m) es a) s.link (world_after s joins (Put m) es).fars s.peers
ended_in s joins (Get most key) es a l open_ ended = unless_numbers (link_after s joins (Get most key) es a) s.link (world_after s joins (Get most key) es).fars s.peers
ended_in s joins (Lookup name) es a l open_ ended = unless_numbers (link_after s joins (Lookup name) es a) s.link (world_after s joins (Lookup name) es).fars s.peers
ended_in s joins (OnPut slot m) es a l open_ ended = unless_numbers (link_after s joins (OnPut slot m) es a) s.link (world_after s joins (OnPut slot m) es).fars s.peers
ended_in s joins (OnGet slot most key) es a l open_ ended = unless_numbers (link_after s joins (OnGet slot most key) es a) s.link (world_after s joins (OnGet slot most key) es).fars s.peers
ended_in s joins (Puts puts) es a l open_ ended = unless_numbers (link_after s joins (Puts puts) es a) s.link (world_after s joins (Puts puts) es).fars s.peers
ended_in s joins Unlink es a l open_ ended = same_numbers s.link s.peers (world_after s joins Unlink es).fars
ended_in s joins (Link id miu window) es a l open_ ended = absurd (let clash : None ≡ Some l = open_ in cc)
ended_in s joins (Forge id payloads) es a l open_ ended = absurd (let clash : None ≡ Some l = open_ in cc)
ended_in s joins (Raw id frames) es a l open_ ended = absurd (let clash : None ≡ Some l = open_ in cc)
ended_in s joins c es a l open_ ended = absurd (let clash : Some l ≡ None = sym open_ ∙ ended in cc)

-- nor did one where a link began and ended in it
pub begun_within : (s : State) (joins : Joins) (c : Command) (es : List Event) (a : Option Answer) (opener : Opener) (id general : List ℕ) → beginning c es a ≡ BeginsAndEnds opener id general
    → (state_after s joins c es a).peers.numbers ≡ s.peers.numbers
begun_within s joins (Link id miu window) es (Some (answers.Linked n)) opener device general is = absurd cc
begun_within s joins (Forge id payloads) es a opener device general is = forged_numbers (opens_link id payloads es) s (A id) (world_after s joins (Forge id payloads) es).fars
begun_within s joins (Raw id frames) es a opener device general is = forged_numbers (raw_opens id frames es) s id (world_after s joins (Raw id frames) es).fars
begun_within s joins c es a opener device general is = absurd (let clash : NothingBegins ≡ BeginsAndEnds opener device general = is in cc)

-- In a stretch in which a link ended, one that was open or one that began in it, no peer came or went.
pub record KeepsNumbers (s : State) (x : Stretch) (t : State) : Type 0 where
  pub over : (l : OpenLink) → (changed s x.command).link ≡ Some l → t.link ≡ None → t.peers.numbers ≡ s.peers.numbers
  pub within : (opener : Opener) (id general : List ℕ) → begins_in x ≡ BeginsAndEnds opener id general → t.peers.numbers ≡ s.peers.numbers

-- One stretch: the story of the link that is open in it goes on alike.
module _ (s t : State) (x : Stretch) (ys : List Story) (stand : Stand s ys) (numbers : KeepsNumbers s x t) (after : Stand t (stories_behind s x t ys)) where
  -- no link begins in a stretch in which one is open
  none_begins : (c : Command) (es : List Event) (a : Option Answer) (l : OpenLink) → (changed s c).link ≡ Some l → beginning c es a ≡ NothingBegins
  none_begins (Link id miu window) es a l open_ = absurd (let clash : None ≡ Some l = open_ in cc)
  none_begins (Forge id payloads) es a l open_ = absurd (let clash : None ≡ Some l = open_ in cc)
  none_begins (Raw id frames) es a l open_ = absurd (let clash : None ≡ Some l = open_ in cc)
  none_begins c es a l open_ = refl

  placed : (l : OpenLink) → (changed s x.command).link ≡ Some l → (k : Held) → at (view_of s) l.peer ≡ Some k → (before : List Story) (y : Story) → y.peer ≡ l.peer
      → StandBy (view_of t) t.link (before ++ y ∷ [])
      → (h : Held) × (at (view_of t) y.peer ≡ Some h)
  placed l open_ k found before y own stands = by t.link refl stands
    where
      by : (o : Option OpenLink) → t.link ≡ o → StandBy (view_of t) o (before ++ y ∷ []) → (h : Held) × (at (view_of t) y.peer ≡ Some h)
      by None none stood =
          let same : t.peers.numbers ≡ s.peers.numbers = numbers.over l open_ none in
          let all : AreHeld s.peers.numbers (map held t.world.fars) = subst (λ ps. AreHeld ps (map held t.world.fars)) same stood.base.held in
          let there = still_held l.peer s.peers.numbers (map held s.world.fars) (map held t.world.fars) k all found in
          (there.0, ap (at (view_of t)) own ∙ ap (λ ps. at_number l.peer ps (map held t.world.fars)) same ∙ there.1)
      by (Some m) some stood =
          let both = last_equal (stories stood.opened.done) before stood.opened.now.story y (sym stood.opened.told) in
          let at_own : y.peer ≡ m.peer = ap (λ (z : Story). z.peer) (sym both.1) ∙ stood.opened.going.own in
          (stood.opened.going.there, ap (at (view_of t)) at_own ∙ stood.opened.going.found)

  on_link : (l : OpenLink) → (changed s x.command).link ≡ Some l → Open (view_of s) l.peer ys → last_goes_on (told.goes_on s x t) ys ≡ last_goes_on (goes_on s x t) ys
  on_link l open_ o =
      let before : List Story = stories o.opened.done in
      let y : Story = o.opened.now.story in
      let next : Story = goes_on s x t y in
      let none : begins_in x ≡ NothingBegins = none_begins x.command x.events x.told l open_ in
      let goes : last_goes_on (goes_on s x t) ys ≡ before ++ next ∷ [] = ap (last_goes_on (goes_on s x t)) o.opened.told ∙ last_story (goes_on s x t) before y in
      let behind : stories_behind s x t ys ≡ before ++ next ∷ [] =
      ap (λ (b : Beginning). open_goes_on (changed s x.command).link (goes_on s x t) ys ++ begun_by b (goes_on s x t) s t) none
      ∙ append-nil (open_goes_on (changed s x.command).link (goes_on s x t) ys)
      ∙ ap (λ k. open_goes_on k (goes_on s x t) ys) open_ ∙ goes in
      let stands : StandBy (view_of t) t.link (before ++ next ∷ []) = subst (StandBy (view_of t) t.link) behind after.stand in
      let k = placed l open_ o.opened.going.there o.opened.going.found before next o.opened.going.own stands in
      let gained : gained_on t next.number ≡ next.gained = last_gained t t.link before next k.0 stands k.1 in
      let same : told.goes_on s x t y ≡ next = ap (λ gs. record next { gained = gs }) gained in
      ap (last_goes_on (told.goes_on s x t)) o.opened.told ∙ last_story (told.goes_on s x t) before y ∙ ap (λ z. before ++ z ∷ []) same ∙ sym goes

  by_link : (o : Option OpenLink) → (changed s x.command).link ≡ o → open_goes_on o (told.goes_on s x t) ys ≡ open_goes_on o (goes_on s x t) ys
  by_link None at = refl
  by_link (Some l) at = on_link l at (subst (λ o. StandBy (view_of s) o ys) (open_before s x.command l at) stand.stand)

  -- So does that of a link that begins and ends in it: of these, where its peer stands.
  abbrev before_it : List Story
  before_it = open_goes_on (changed s x.command).link (goes_on s x t) ys

  whole_same : (y : Story) (k : Held) → at (view_of s) y.peer ≡ Some k → t.peers.numbers ≡ s.peers.numbers → StandBy (view_of t) t.link (before_it ++ goes_on s x t y ∷ [])
      → told.goes_on s x t y ≡ goes_on s x t y
  whole_same y k found same stands =
      let next : Story = goes_on s x t y in
      let all : AreHeld s.peers.numbers (map held t.world.fars) =
      subst (λ ps. AreHeld ps (map held t.world.fars)) same (base_held (view_of t) t.link (before_it ++ next ∷ []) stands).0 in
      let there = still_held y.peer s.peers.numbers (map held s.world.fars) (map held t.world.fars) k all found in
      let now : at (view_of t) y.peer ≡ Some there.0 = ap (λ ps. at_number y.peer ps (map held t.world.fars)) same ∙ there.1 in
      let gained : gained_on t next.number ≡ next.gained = last_gained t t.link before_it next there.0 stands now in
      ap (λ gs. record next { gained = gs }) gained

  module _ (opener : Opener) (id general : List ℕ) (begins : begins_in x ≡ BeginsAndEnds opener id general) where
    abbrev number : ℕ
    number = length s.peers.links + 1

    by_end : (peer : ℕ) (o : Option FarEnd) → placed_under id s.world.field.listeners s.peers.numbers ≡ Some peer → end_numbered peer s.peers.numbers s.world.fars ≡ o
        → whole_of opener general number peer o (told.goes_on s x t) ≡ whole_of opener general number peer o (goes_on s x t)
    by_end peer None placed is = refl
    by_end peer (Some old) placed is =
        let y : Story = new_story number opener peer general (restarted serving old general) in
        let k : Held = record { limit = old.service.limit; accepted = old.service.accepted } in
        let there : at (view_of s) peer ≡ Some k = sym (held_at peer s.peers.numbers s.world.fars) ∙ ap held is in
        let one : begun_by (begins_in x) (goes_on s x t) s t ≡ goes_on s x t y ∷ [] =
        ap (λ (b : Beginning). begun_by b (goes_on s x t) s t) begins ∙ ap (λ p. story_within opener general p (goes_on s x t) s) placed
        ∙ ap (λ o. whole_of opener general number peer o (goes_on s x t)) is in
        ap (λ z. z ∷ []) (whole_same y k there (numbers.within opener id general begins) (subst (λ zs. StandBy (view_of t) t.link (before_it ++ zs)) one after.stand))

    by_place : (p : Option ℕ) → placed_under id s.world.field.listeners s.peers.numbers ≡ p → story_within opener general p (told.goes_on s x t) s ≡ story_within opener general p (goes_on s x t) s
    by_place None placed = refl
    by_place (Some peer) placed = by_end peer (end_numbered peer s.peers.numbers s.world.fars) placed refl

  begun_same : (b : Beginning) → begins_in x ≡ b → begun_by b (told.goes_on s x t) s t ≡ begun_by b (goes_on s x t) s t
  begun_same NothingBegins is = refl
  begun_same (BeginsOpen n general) is = refl
  begun_same (BeginsAndEnds opener id general) is = by_place opener id general is (placed_under id s.world.field.listeners s.peers.numbers) refl

  pub same_behind : told.stories_behind s x t ys ≡ stories_behind s x t ys
  same_behind =
      ap (λ zs. zs ++ begun_by (begins_in x) (told.goes_on s x t) s t) (by_link (changed s x.command).link refl)
      ∙ ap (λ zs. before_it ++ zs) (begun_same (begins_in x) refl)

-- so a step keeps them
step_keeps_numbers : (s t : State) (g : Given) (e : Entry) → LegalStep s g e t → KeepsNumbers s (stretch_of g.joins e) t
step_keeps_numbers s t g e legal = record {
  over = λ l open_ none. after ∙ ended_in s g.joins e.command e.events (Some e.answer) l open_ (sym (ap (λ (z : State). z.link) legal.front.after) ∙ none);
  within = λ opener id general begins. after ∙ begun_within s g.joins e.command e.events (Some e.answer) opener id general begins;
}
  where
    after : t.peers.numbers ≡ (state_after s g.joins e.command e.events (Some e.answer)).peers.numbers
    after = ap (λ (z : State). z.peers.numbers) legal.front.after

-- through some entries, by a step that keeps the stories
pub same_from : ((s t : State) (g : Given) (e : Entry) (ys : List Story) → Stand s ys → LegalStep s g e t → Stand t (stories_behind s (stretch_of g.joins e) t ys))
    → (s t : State) (gs : List Given) (es rest : List Entry) (ys : List Story) → Stand s ys → EachLegal s gs (es ++ rest) t
    → told.stories_from s ys (map (λ (g : Given). g.joins) gs) es ≡ stories_from s ys (map (λ (g : Given). g.joins) gs) es
same_from step s t [] es rest ys stand legal = refl
same_from step s t (g ∷ gs) [] rest ys stand legal = refl
same_from step s t (g ∷ gs) (e ∷ es) rest ys stand legal =
    let mid : State = legal.0 in
    let ns : List Joins = map (λ (h : Given). h.joins) gs in
    let next : Stand mid (stories_behind s (stretch_of g.joins e) mid ys) = step s mid g e ys stand legal.1 in
    subst (λ z. told.stories_from z (told.stories_behind s (stretch_of g.joins e) z ys) ns es ≡ stories_from z (stories_behind s (stretch_of g.joins e) z ys) ns es) legal.1.front.after
    (ap (λ zs. told.stories_from mid zs ns es) (same_behind s mid (stretch_of g.joins e) ys stand (step_keeps_numbers s mid g e legal.1) next)
    ∙ same_from step mid t gs es rest (stories_behind s (stretch_of g.joins e) mid ys) next legal.2)
