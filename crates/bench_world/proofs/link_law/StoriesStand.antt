-- How the stories of links stand beside the ranges that a bench keeps of them, and how that goes on as peers come and go, messages are accepted,
-- and links begin and end.
use Rattle.std.proofs.Common.{◌≡◌, ◌⊎◌, inl, inr, ℕ, suc, ◌+◌, ◌<◌, ◌≤◌, List, [], ◌∷◌, ◌++◌, map, length, Bool, true, false, nat_eq, if◌then◌else◌, Option, Some, None, refl, sym, ◌∙◌, ap, subst}
use Rattle.std.proofs.Common.{arith}
use Rattle.std.specs.Prelude.{not}
use Rattle.std.specs.List.{AllByRecursion}
use Rattle.std.proofs.lemmas.Bool.{eq-eqb, eqb-true, cases_lt}
use Rattle.std.proofs.lemmas.List.{append-nil}
use Rattle.nfc_base.specs.declared.event.Event.{Event}
use Rattle.snep_core.specs.Payloads.{accepted_from}
use Rattle.snep_core.specs.Server.{Received as Accepted}
use Rattle.bench_world.specs.declared.inbox.LinkRange.{LinkRange}
use Rattle.bench_world.specs.Arrivals.{Arrival}
use Rattle.bench_world.specs.Inbox.{is_in, came_on_link, chosen, received_on, told_by_links, inbox_of}
use Rattle.bench_world.specs.LinkLaw.{puts_from, AcceptsByOpener, KeepsLinkLaw, AreCounted, told_by_stories}
use Rattle.bench_world.specs.Links.{last_ended}
use Rattle.bench_world.specs.Opened.{AreNumbered}
use Rattle.bench_world.specs.Stories.{Opener, ByLink, ByForge, ByRaw, LinkPut, Story, last_goes_on}
use Rattle.bench_world.proofs.devices.AtNumbers.{Held, IfHeld, at_number, AreHeld, with_held, adding, held_more, at_own, at_other, at_below}
use Rattle.bench_world.proofs.link_law.InRanges.{chosen_append, chosen_all, chosen_as, chosen_none, in_open, out_of_closed, in_closing, out_of_begun, came_before, came_last, came_closing}
use Rattle.bench_world.proofs.link_law.PutsTold.{InStep, in_step_accepts, none_put}

-- what a bench keeps of peers and their links
pub record View : Type 0 where
  pub numbers : List (Option ℕ)
  pub placed : ℕ
  pub links : List LinkRange
  pub held : List (Option Held)

abbrev pub at : View → ℕ → Option Held
at v n = at_number n v.numbers v.held

-- a link, by its range and its story
pub record Paired : Type 0 where
  pub range : LinkRange
  pub story : Story

abbrev pub ranges : List Paired → List LinkRange
ranges xs = map (λ (x : Paired). x.range) xs

abbrev pub stories : List Paired → List Story
stories xs = map (λ (x : Paired). x.story) xs

-- where its peer is placed, what that accepted in the range is what the story gained
pub record Fits (v : View) (x : Paired) : Type 0 where
  pub peer : x.range.peer ≡ x.story.peer
  pub below : x.story.peer < v.placed
  pub holds : IfHeld (λ k. chosen (is_in x.range) 0 k.accepted ≡ x.story.gained) (at v x.story.peer)

abbrev pub EndsWithin : LinkRange → Held → Type 0
EndsWithin r k = (e : ℕ) × (r.end ≡ Some e) × (e ≤ length k.accepted)

-- a link that ended
pub record IsDone (v : View) (x : Paired) : Type 0 where
  pub fits : Fits v x
  pub law : KeepsLinkLaw x.story
  pub closed : IfHeld (EndsWithin x.range) (at v x.story.peer)

-- the link that is open, whose peer has this number
pub record IsGoing (v : View) (n : ℕ) (x : Paired) : Type 0 where
  pub fits : Fits v x
  pub law : KeepsLinkLaw x.story
  pub own : x.story.peer ≡ n
  pub there : Held
  pub found : at v n ≡ Some there
  pub limit : there.limit ≡ x.story.begun.service.limit
  pub unended : x.range.end ≡ None
  pub start : x.range.start ≤ length there.accepted

-- each message of a peer's list came on a link, as it is where no frames of a script's own were sent
abbrev pub IsCovered : View → ℕ → Type 0
IsCovered v p = IfHeld (λ k. (n : ℕ) → n < length k.accepted → came_on_link v.links p n ≡ true) (at v p)

abbrev pub Covered : View → Type 0
Covered v = (p : ℕ) → IsCovered v p

pub record Base (v : View) (done : List Paired) (ys : List Story) : Type 0 where
  pub held : AreHeld v.numbers v.held
  pub apart : AreNumbered v.placed v.numbers
  pub each : AllByRecursion (IsDone v) done
  pub counted : AreCounted 1 ys

-- no link is open
pub record Closed (v : View) (ys : List Story) : Type 0 where
  pub done : List Paired
  pub base : Base v done ys
  pub links : v.links ≡ ranges done
  pub told : ys ≡ stories done

-- one is, to the peer with this number
pub record Opened (v : View) (n : ℕ) (ys : List Story) : Type 0 where
  pub done : List Paired
  pub base : Base v done ys
  pub now : Paired
  pub links : v.links ≡ ranges done ++ now.range ∷ []
  pub told : ys ≡ stories done ++ now.story ∷ []
  pub going : IsGoing v n now

-- and all that was put on it so far was told as it is
abbrev pub IsInStep : Story → Type 0
IsInStep y = (client : ℕ) → InStep y.begun.service.limit (puts_from client y.puts) (accepted_from client y.gained)

pub record Open (v : View) (n : ℕ) (ys : List Story) : Type 0 where
  pub opened : Opened v n ys
  pub step : IsInStep opened.now.story

-- lists
pub last_story : (go : Story → Story) (xs : List Story) (y : Story) → last_goes_on go (xs ++ y ∷ []) ≡ xs ++ go y ∷ []
last_story go [] y = refl
last_story go (x ∷ []) y = refl
last_story go (x ∷ z ∷ xs) y = ap (λ ys. x ∷ ys) (last_story go (z ∷ xs) y)

pub last_range : (n : ℕ) (xs : List LinkRange) (r : LinkRange) → last_ended n (xs ++ r ∷ []) ≡ xs ++ record { peer = r.peer; start = r.start; end = Some n } ∷ []
last_range n [] r = refl
last_range n (x ∷ []) r = refl
last_range n (x ∷ z ∷ xs) r = ap (λ rs. x ∷ rs) (last_range n (z ∷ xs) r)

ranges_more : (xs : List Paired) (x : Paired) → ranges (xs ++ x ∷ []) ≡ ranges xs ++ x.range ∷ []
ranges_more [] x = refl
ranges_more (y ∷ xs) x = ap (λ rs. y.range ∷ rs) (ranges_more xs x)

stories_more : (xs : List Paired) (x : Paired) → stories (xs ++ x ∷ []) ≡ stories xs ++ x.story ∷ []
stories_more [] x = refl
stories_more (y ∷ xs) x = ap (λ ys. y.story ∷ ys) (stories_more xs x)

pub all_more : {X : Type 0} (P : X → Type 0) (xs : List X) (x : X) → AllByRecursion P xs → P x → AllByRecursion P (xs ++ x ∷ [])
all_more P [] x all one = (one, tt)
all_more P (y ∷ xs) x all one = (all.0, all_more P xs x all.1 one)

all_as : {X : Type 0} (P Q : X → Type 0) → ((x : X) → P x → Q x) → (xs : List X) → AllByRecursion P xs → AllByRecursion Q xs
all_as P Q says [] all = tt
all_as P Q says (x ∷ xs) all = (says x all.0, all_as P Q says xs all.1)

as_many : (xs : List Paired) → length (ranges xs) ≡ length (stories xs)
as_many [] = refl
as_many (x ∷ xs) = ap suc (as_many xs)

counted_last : (n : ℕ) (xs : List Story) (y z : Story) → z.number ≡ y.number → AreCounted n (xs ++ y ∷ []) → AreCounted n (xs ++ z ∷ [])
counted_last n [] y z same all = (same ∙ all.0, tt)
counted_last n (x ∷ xs) y z same all = (all.0, counted_last (n + 1) xs y z same all.1)

counted_more : (n : ℕ) (xs : List Story) (y : Story) → y.number ≡ n + length xs → AreCounted n xs → AreCounted n (xs ++ y ∷ [])
counted_more n [] y is all = (omega (arith, is), tt)
counted_more n (x ∷ xs) y is all = (all.0, counted_more (n + 1) xs y (omega (arith, is)) all.1)

-- a story keeps the law while it is in step
pub in_step_keeps : (y : Story) → IsInStep y → KeepsLinkLaw y
in_step_keeps y step = by_opener y.opener
  where
    by_opener : (o : Opener) → AcceptsByOpener o y
    by_opener ByForge = tt
    by_opener ByRaw = tt
    by_opener ByLink = λ client. in_step_accepts y.begun.service.limit (puts_from client y.puts) (accepted_from client y.gained) (step client)

-- as many stories as links
pub closed_many : (v : View) (ys : List Story) → Closed v ys → length v.links ≡ length ys
closed_many v ys c = ap length c.links ∙ as_many c.done ∙ sym (ap length c.told)

-- Peers come and go: a link's peer, where it is placed still, holds what it held.
module _ (v w : View) (ys : List Story) (held : AreHeld w.numbers w.held) (apart : AreNumbered w.placed w.numbers) (links : w.links ≡ v.links) (more : v.placed ≤ w.placed)
    (still : (P : Held → Type 0) (n : ℕ) → n < v.placed → IfHeld P (at v n) → IfHeld P (at w n)) where
  fits_still : (x : Paired) → Fits v x → Fits w x
  fits_still x f = record {
    peer = f.peer;
    below = omega (arith, f.below, more);
    holds = still (λ k. chosen (is_in x.range) 0 k.accepted ≡ x.story.gained) x.story.peer f.below f.holds;
  }

  done_still : (x : Paired) → IsDone v x → IsDone w x
  done_still x d = record { fits = fits_still x d.fits; law = d.law; closed = still (EndsWithin x.range) x.story.peer d.fits.below d.closed }

  base_still : (done : List Paired) → Base v done ys → Base w done ys
  base_still done b = record {
    held = held;
    apart = apart;
    each = all_as (IsDone v) (IsDone w) done_still done b.each;
    counted = b.counted;
  }

  pub closed_still : Closed v ys → Closed w ys
  closed_still c = record { done = c.done; base = base_still c.done c.base; links = links ∙ c.links; told = c.told }

  pub open_still : (n : ℕ) → at w n ≡ at v n → Open v n ys → Open w n ys
  open_still n same o = record {
    opened = record {
      done = o.opened.done;
      base = base_still o.opened.done o.opened.base;
      now = o.opened.now;
      links = links ∙ o.opened.links;
      told = o.opened.told;
      going = record {
        fits = fits_still o.opened.now o.opened.going.fits;
        law = o.opened.going.law;
        own = o.opened.going.own;
        there = o.opened.going.there;
        found = same ∙ o.opened.going.found;
        limit = o.opened.going.limit;
        unended = o.opened.going.unended;
        start = o.opened.going.start;
      };
    };
    step = o.step;
  }

-- a story goes on by this
abbrev pub went_on : List Event → List Arrival → List LinkPut → List Accepted → Story → Story
went_on es arrivals ps more y = record y { events = y.events ++ es; arrivals = y.arrivals ++ arrivals; puts = y.puts ++ ps; gained = y.gained ++ more }

-- Something happens on the open link, and nothing is put.
abbrev pub came : List Event → List Arrival → Story → Story
came es arrivals y = record y { events = y.events ++ es; arrivals = y.arrivals ++ arrivals }

module _ (v : View) (n : ℕ) (ys : List Story) (o : Open v n ys) (go : Story → Story) (es : List Event) (arrivals : List Arrival)
    (is : go o.opened.now.story ≡ came es arrivals o.opened.now.story) where
  abbrev before_it : Story
  before_it = o.opened.now.story

  abbrev behind_it : Story
  behind_it = came es arrivals before_it

  story_last : last_goes_on go ys ≡ stories o.opened.done ++ behind_it ∷ []
  story_last = ap (last_goes_on go) o.opened.told ∙ last_story go (stories o.opened.done) before_it ∙ ap (λ y. stories o.opened.done ++ y ∷ []) is

  keeps_still : (opener : Opener) → AcceptsByOpener opener before_it → AcceptsByOpener opener behind_it
  keeps_still ByLink keeps = keeps
  keeps_still ByForge keeps = tt
  keeps_still ByRaw keeps = tt

  came_going : IsGoing v n (record { range = o.opened.now.range; story = behind_it })
  came_going = record {
    fits = record { peer = o.opened.going.fits.peer; below = o.opened.going.fits.below; holds = o.opened.going.fits.holds };
    law = keeps_still before_it.opener o.opened.going.law;
    own = o.opened.going.own;
    there = o.opened.going.there;
    found = o.opened.going.found;
    limit = o.opened.going.limit;
    unended = o.opened.going.unended;
    start = o.opened.going.start;
  }

  pub open_came : Open v n (last_goes_on go ys)
  open_came = subst (Open v n) (sym story_last) (record {
    opened = record {
      done = o.opened.done;
      base = record {
        held = o.opened.base.held;
        apart = o.opened.base.apart;
        each = o.opened.base.each;
        counted = counted_last 1 (stories o.opened.done) before_it behind_it refl (subst (AreCounted 1) o.opened.told o.opened.base.counted);
      };
      now = record { range = o.opened.now.range; story = behind_it };
      links = o.opened.links;
      told = refl;
      going = came_going;
    };
    step = o.step;
  })

-- Messages are accepted on the open link.
abbrev pub view_more : View → ℕ → List Accepted → View
view_more v n more = record { numbers = v.numbers; placed = v.placed; links = v.links; held = with_held more n v.numbers v.held }

module _ (v : View) (n : ℕ) (ys : List Story) (o : Opened v n ys) (more : List Accepted) where
  abbrev after : View
  after = view_more v n more

  abbrev there : Held
  there = o.going.there

  abbrev grown : Held
  grown = record { limit = there.limit; accepted = there.accepted ++ more }

  pub found_after : at after n ≡ Some grown
  found_after = at_own more n v.numbers v.held ∙ ap (adding more) o.going.found

  by_number : (P Q : Held → Type 0) (m : ℕ) → IfHeld P (at v m) → ((k : Held) → P k → Q k) → (P there → Q grown) → IfHeld Q (at after m)
  by_number P Q m h same own = by (nat_eq n m) refl
    where
      moved : n ≡ m → IfHeld Q (at after m)
      moved e = subst (λ i. IfHeld Q (at after i)) e (subst (IfHeld Q) (sym found_after) (own (subst (IfHeld P) (ap (at v) (sym e) ∙ o.going.found) h)))

      weaker : (x : Option Held) → IfHeld P x → IfHeld Q x
      weaker None i = tt
      weaker (Some k) i = same k i

      by : (b : Bool) → nat_eq n m ≡ b → IfHeld Q (at after m)
      by true e = moved (eqb-true n m e)
      by false e = subst (IfHeld Q) (sym (at_other more n m e v.numbers v.held)) (weaker (at v m) h)

  longer : length there.accepted ≤ length grown.accepted
  longer = grows there.accepted
    where
      grows : (xs : List Accepted) → length xs ≤ length (xs ++ more)
      grows [] = omega arith
      grows (x ∷ xs) = omega (arith, grows xs)

  -- in the range of a link that ended nothing comes
  done_more : (x : Paired) → IsDone v x → IsDone after x
  done_more x d = record {
    fits = record {
      peer = d.fits.peer;
      below = d.fits.below;
      holds = by_number (λ k. (chosen (is_in x.range) 0 k.accepted ≡ x.story.gained) × EndsWithin x.range k) (λ k. chosen (is_in x.range) 0 k.accepted ≡ x.story.gained) x.story.peer
          (both (λ k. chosen (is_in x.range) 0 k.accepted ≡ x.story.gained) (EndsWithin x.range) (at v x.story.peer) d.fits.holds d.closed) (λ k h. h.0)
          (λ h. chosen_append (is_in x.range) 0 there.accepted more
          ∙ ap (λ zs. chosen (is_in x.range) 0 there.accepted ++ zs)
          (chosen_none (is_in x.range) (0 + length there.accepted) more (λ m from to. out_of_closed x.range m h.1.0 h.1.1 (omega (arith, from, h.1.2))))
          ∙ append-nil (chosen (is_in x.range) 0 there.accepted) ∙ h.0);
    };
    law = d.law;
    closed = by_number (EndsWithin x.range) (EndsWithin x.range) x.story.peer d.closed (λ k h. h) (λ h. (h.0, h.1, omega (arith, h.2, longer)));
  }
    where
      both : (P Q : Held → Type 0) (k : Option Held) → IfHeld P k → IfHeld Q k → IfHeld (λ h. P h × Q h) k
      both P Q None p q = tt
      both P Q (Some h) p q = (p, q)

  own_place : (p m : ℕ) → length there.accepted ≤ m → n ≡ p → came_on_link v.links p m ≡ true
  own_place p m beyond same =
      let own : nat_eq o.now.range.peer p ≡ true = eq-eqb o.now.range.peer p (o.going.fits.peer ∙ o.going.own ∙ same) in
      ap (λ ls. came_on_link ls p m) o.links
      ∙ came_last (ranges o.done) o.now.range p m own (in_open o.now.range m o.going.unended (omega (arith, beyond, o.going.start)))

  pub covered_more : Covered v → Covered after
  covered_more all p = by (nat_eq n p) refl
    where
      Covers : Held → Type 0
      Covers k = (m : ℕ) → m < length k.accepted → came_on_link v.links p m ≡ true

      by_length : n ≡ p → IsCovered v p → (m : ℕ) → (m < length there.accepted) ⊎ (length there.accepted ≤ m) → came_on_link v.links p m ≡ true
      by_length same h m (inl before) =
          let here : (k : ℕ) → k < length there.accepted → came_on_link v.links p k ≡ true =
          subst (IfHeld (λ k. (i : ℕ) → i < length k.accepted → came_on_link v.links p i ≡ true)) (ap (at v) (sym same) ∙ o.going.found) h in
          here m before
      by_length same h m (inr beyond) = own_place p m beyond same

      by : (b : Bool) → nat_eq n p ≡ b → IsCovered after p
      by true e =
          let same : n ≡ p = eqb-true n p e in
          let found : at after p ≡ Some grown = ap (at after) (sym same) ∙ found_after in
          subst (IfHeld (λ k. (m : ℕ) → m < length k.accepted → came_on_link v.links p m ≡ true)) (sym found)
          (λ m within. by_length same (all p) m (cases_lt m (length there.accepted)))
      by false e = subst (IfHeld (λ k. (m : ℕ) → m < length k.accepted → came_on_link v.links p m ≡ true)) (sym (at_other more n p e v.numbers v.held)) (all p)

  -- so the story of the open link goes on
  abbrev went : (Story → Story) → Paired
  went go = record { range = o.now.range; story = go o.now.story }

  going_more : (go : Story → Story) (es : List Event) (arrivals : List Arrival) (ps : List LinkPut) → go o.now.story ≡ went_on es arrivals ps more o.now.story
      → KeepsLinkLaw (go o.now.story) → IsGoing after n (went go)
  going_more go es arrivals ps is law = subst (λ y. KeepsLinkLaw y → IsGoing after n (record { range = o.now.range; story = y })) (sym is) goes law
    where
      found : at after o.now.story.peer ≡ Some grown
      found = ap (at after) o.going.own ∙ found_after

      held_so : chosen (is_in o.now.range) 0 there.accepted ≡ o.now.story.gained
      held_so = subst (IfHeld (λ k. chosen (is_in o.now.range) 0 k.accepted ≡ o.now.story.gained)) (ap (at v) o.going.own ∙ o.going.found) o.going.fits.holds

      goes : KeepsLinkLaw (went_on es arrivals ps more o.now.story) → IsGoing after n (record { range = o.now.range; story = went_on es arrivals ps more o.now.story })
      goes keeps = record {
        fits = record {
          peer = o.going.fits.peer;
          below = o.going.fits.below;
          holds = subst (IfHeld (λ k. chosen (is_in o.now.range) 0 k.accepted ≡ o.now.story.gained ++ more)) (sym found)
              (chosen_append (is_in o.now.range) 0 there.accepted more
              ∙ ap (λ zs. zs ++ chosen (is_in o.now.range) (0 + length there.accepted) more) held_so
              ∙ ap (λ zs. o.now.story.gained ++ zs)
              (chosen_all (is_in o.now.range) (0 + length there.accepted) more (λ m from. in_open o.now.range m o.going.unended (omega (arith, from, o.going.start)))));
        };
        law = keeps;
        own = o.going.own;
        there = grown;
        found = found_after;
        limit = o.going.limit;
        unended = o.going.unended;
        start = omega (arith, o.going.start, longer);
      }

  pub opened_more : (go : Story → Story) (es : List Event) (arrivals : List Arrival) (ps : List LinkPut) → go o.now.story ≡ went_on es arrivals ps more o.now.story
      → KeepsLinkLaw (go o.now.story) → (z : Opened after n (last_goes_on go ys)) × (z.now.story ≡ go o.now.story)
  opened_more go es arrivals ps is law = (
    record {
      done = o.done;
      base = record {
        held = held_more more n v.numbers v.held o.base.held;
        apart = o.base.apart;
        each = all_as (IsDone v) (IsDone after) done_more o.done o.base.each;
        counted = subst (AreCounted 1) (sym stands)
            (counted_last 1 (stories o.done) o.now.story (go o.now.story) (ap (λ (y : Story). y.number) is) (subst (AreCounted 1) o.told o.base.counted));
      };
      now = went go;
      links = o.links;
      told = stands;
      going = going_more go es arrivals ps is law;
    },
    refl,
  )
    where
      stands : last_goes_on go ys ≡ stories o.done ++ go o.now.story ∷ []
      stands = ap (last_goes_on go) o.told ∙ last_story go (stories o.done) o.now.story

-- Messages are accepted while no link is open: what came on each link stays.
module _ (v : View) (n : ℕ) (ys : List Story) (c : Closed v ys) (more : List Accepted) where
  abbrev grown_view : View
  grown_view = view_more v n more

  by_own : (P Q : Held → Type 0) → ((k : Held) → P k → Q k) → ((k : Held) → P k → Q (record { limit = k.limit; accepted = k.accepted ++ more })) → (m : ℕ) → IfHeld P (at v m)
      → IfHeld Q (at grown_view m)
  by_own P Q same own m h = by (nat_eq n m) refl
    where
      weaker : (x : Option Held) → IfHeld P x → IfHeld Q x
      weaker None i = tt
      weaker (Some k) i = same k i

      grown_so : (x : Option Held) → IfHeld P x → IfHeld Q (adding more x)
      grown_so None i = tt
      grown_so (Some k) i = own k i

      by : (b : Bool) → nat_eq n m ≡ b → IfHeld Q (at grown_view m)
      by true e =
          let is : n ≡ m = eqb-true n m e in
          subst (λ i. IfHeld Q (at grown_view i)) is (subst (IfHeld Q) (sym (at_own more n v.numbers v.held)) (grown_so (at v n) (subst (λ i. IfHeld P (at v i)) (sym is) h)))
      by false e = subst (IfHeld Q) (sym (at_other more n m e v.numbers v.held)) (weaker (at v m) h)

  longer_so : (xs : List Accepted) → length xs ≤ length (xs ++ more)
  longer_so [] = omega arith
  longer_so (x ∷ xs) = omega (arith, longer_so xs)

  done_grown : (x : Paired) → IsDone v x → IsDone grown_view x
  done_grown x d =
      let both : IfHeld (λ k. (chosen (is_in x.range) 0 k.accepted ≡ x.story.gained) × EndsWithin x.range k) (at v x.story.peer) = pair (at v x.story.peer) d.fits.holds d.closed in
      record {
        fits = record {
          peer = d.fits.peer;
          below = d.fits.below;
          holds = by_own (λ k. (chosen (is_in x.range) 0 k.accepted ≡ x.story.gained) × EndsWithin x.range k) (λ k. chosen (is_in x.range) 0 k.accepted ≡ x.story.gained) (λ k h. h.0)
              (λ k h. chosen_append (is_in x.range) 0 k.accepted more
              ∙ ap (λ zs. chosen (is_in x.range) 0 k.accepted ++ zs)
              (chosen_none (is_in x.range) (0 + length k.accepted) more (λ m from to. out_of_closed x.range m h.1.0 h.1.1 (omega (arith, from, h.1.2))))
              ∙ append-nil (chosen (is_in x.range) 0 k.accepted) ∙ h.0) x.story.peer both;
        };
        law = d.law;
        closed = by_own (EndsWithin x.range) (EndsWithin x.range) (λ k h. h) (λ k h. (h.0, h.1, omega (arith, h.2, longer_so k.accepted))) x.story.peer d.closed;
      }
    where
      pair : (o : Option Held) → IfHeld (λ k. chosen (is_in x.range) 0 k.accepted ≡ x.story.gained) o → IfHeld (EndsWithin x.range) o
          → IfHeld (λ k. (chosen (is_in x.range) 0 k.accepted ≡ x.story.gained) × EndsWithin x.range k) o
      pair None p q = tt
      pair (Some k) p q = (p, q)

  pub closed_grows : Closed grown_view ys
  closed_grows = record {
    done = c.done;
    base = record {
      held = held_more more n v.numbers v.held c.base.held;
      apart = c.base.apart;
      each = all_as (IsDone v) (IsDone grown_view) done_grown c.done c.base.each;
      counted = c.base.counted;
    };
    links = c.links;
    told = c.told;
  }

-- The link that is open ends.
abbrev pub view_ended : View → ℕ → View
view_ended v m = record { numbers = v.numbers; placed = v.placed; links = last_ended m v.links; held = v.held }

module _ (v : View) (n : ℕ) (ys : List Story) (o : Opened v n ys) where
  abbrev count : ℕ
  count = length o.going.there.accepted

  abbrev over : View
  over = view_ended v count

  abbrev last : Paired
  last = record { range = record { peer = o.now.range.peer; start = o.now.range.start; end = Some count }; story = o.now.story }

  ended_links : last_ended count v.links ≡ ranges o.done ++ last.range ∷ []
  ended_links = ap (last_ended count) o.links ∙ last_range count (ranges o.done) o.now.range

  found_own : at v o.now.story.peer ≡ Some o.going.there
  found_own = ap (at v) o.going.own ∙ o.going.found

  last_done : IsDone over last
  last_done = record {
    fits = record {
      peer = o.going.fits.peer;
      below = o.going.fits.below;
      holds = subst (IfHeld (λ k. chosen (is_in last.range) 0 k.accepted ≡ o.now.story.gained)) (sym found_own)
          (chosen_as (is_in last.range) (is_in o.now.range) 0 o.going.there.accepted (λ m from to. in_closing o.now.range last.range m count o.going.unended refl refl (omega (arith, to)))
          ∙ subst (IfHeld (λ k. chosen (is_in o.now.range) 0 k.accepted ≡ o.now.story.gained)) found_own o.going.fits.holds);
    };
    law = o.going.law;
    closed = subst (IfHeld (EndsWithin last.range)) (sym found_own) (count, refl, omega arith);
  }

  done_over : (x : Paired) → IsDone v x → IsDone over x
  done_over x d = record { fits = record { peer = d.fits.peer; below = d.fits.below; holds = d.fits.holds }; law = d.law; closed = d.closed }

  pub covered_over : Covered v → Covered over
  covered_over all p = by (at v p) refl (all p)
    where
      same_place : (m : ℕ) → (nat_eq o.now.range.peer p ≡ true → m < count) → came_on_link (last_ended count v.links) p m ≡ came_on_link v.links p m
      same_place m within =
          ap (λ ls. came_on_link ls p m) ended_links
          ∙ came_closing (ranges o.done) o.now.range last.range p m refl (λ own. in_closing o.now.range last.range m count o.going.unended refl refl (within own))
          ∙ sym (ap (λ ls. came_on_link ls p m) o.links)

      own_count : (k : Held) → at v p ≡ Some k → nat_eq o.now.range.peer p ≡ true → length k.accepted ≡ count
      own_count k e own =
          let same : p ≡ n = sym (eqb-true o.now.range.peer p own) ∙ o.going.fits.peer ∙ o.going.own in
          let one : Some k ≡ Some o.going.there = sym e ∙ ap (at v) same ∙ o.going.found in
          let is : k ≡ o.going.there = cc in
          ap (λ (h : Held). length h.accepted) is

      by : (x : Option Held) → at v p ≡ x → IfHeld (λ k. (m : ℕ) → m < length k.accepted → came_on_link v.links p m ≡ true) x
          → IfHeld (λ k. (m : ℕ) → m < length k.accepted → came_on_link (last_ended count v.links) p m ≡ true) (at v p)
      by None e h = subst (IfHeld (λ k. (m : ℕ) → m < length k.accepted → came_on_link (last_ended count v.links) p m ≡ true)) (sym e) tt
      by (Some k) e h =
          subst (IfHeld (λ k. (m : ℕ) → m < length k.accepted → came_on_link (last_ended count v.links) p m ≡ true)) (sym e)
          (λ m within. same_place m (λ own. let same = own_count k e own in omega (arith, within, same)) ∙ h m within)

  pub closed_here : Closed over ys
  closed_here = record {
    done = o.done ++ last ∷ [];
    base = record {
      held = o.base.held;
      apart = o.base.apart;
      each = all_more (IsDone over) o.done last (all_as (IsDone v) (IsDone over) done_over o.done o.base.each) last_done;
      counted = o.base.counted;
    };
    links = ended_links ∙ sym (ranges_more o.done last);
    told = o.told ∙ sym (stories_more o.done last);
  }

-- one link more
pub covered_linked : (v : View) (r : LinkRange) → Covered v → Covered (record { numbers = v.numbers; placed = v.placed; links = v.links ++ r ∷ []; held = v.held })
covered_linked v r all p = by (at v p) (all p)
  where
    by : (x : Option Held) → IfHeld (λ h. (m : ℕ) → m < length h.accepted → came_on_link v.links p m ≡ true) x
        → IfHeld (λ h. (m : ℕ) → m < length h.accepted → came_on_link (v.links ++ r ∷ []) p m ≡ true) x
    by None h = tt
    by (Some x) h = λ m within. came_before v.links (r ∷ []) p m (h m within)

-- A link begins, to a peer that is placed.
abbrev pub view_begun : View → ℕ → ℕ → View
view_begun v n start = record { numbers = v.numbers; placed = v.placed; links = v.links ++ record { peer = n; start = start; end = None } ∷ []; held = v.held }

module _ (v : View) (n : ℕ) (ys : List Story) (c : Closed v ys) (k : Held) (found : at v n ≡ Some k) (y : Story) (number : y.number ≡ length v.links + 1) (peer : y.peer ≡ n)
    (limit : k.limit ≡ y.begun.service.limit) (puts : y.puts ≡ []) (gained : y.gained ≡ []) where
  abbrev first : Paired
  first = record { range = record { peer = n; start = length k.accepted; end = None }; story = y }

  abbrev from_here : View
  from_here = view_begun v n (length k.accepted)

  done_begun : (x : Paired) → IsDone v x → IsDone from_here x
  done_begun x d = record { fits = record { peer = d.fits.peer; below = d.fits.below; holds = d.fits.holds }; law = d.law; closed = d.closed }

  step_begun : IsInStep y
  step_begun client =
      subst (λ ps. InStep y.begun.service.limit (puts_from client ps) (accepted_from client y.gained)) (sym puts)
      (subst (λ xs. InStep y.begun.service.limit [] (accepted_from client xs)) (sym gained) (none_put y.begun.service.limit))

  pub open_here : Open from_here n (ys ++ y ∷ [])
  open_here = record {
    opened = record {
      done = c.done;
      base = record {
        held = c.base.held;
        apart = c.base.apart;
        each = all_as (IsDone v) (IsDone from_here) done_begun c.done c.base.each;
        counted = counted_more 1 ys y (let many = closed_many v ys c in omega (arith, number, many)) c.base.counted;
      };
      now = first;
      links = ap (λ ls. ls ++ first.range ∷ []) c.links;
      told = ap (λ zs. zs ++ y ∷ []) c.told;
      going = record {
        fits = record {
          peer = sym peer;
          below = subst (λ m. m < v.placed) (sym peer) (at_below n v.placed v.numbers v.held k c.base.apart found);
          holds = subst (IfHeld (λ h. chosen (is_in first.range) 0 h.accepted ≡ y.gained)) (sym (ap (at v) peer ∙ found))
              (chosen_none (is_in first.range) 0 k.accepted (λ m from to. out_of_begun first.range m (omega (arith, to))) ∙ sym gained);
        };
        law = in_step_keeps y step_begun;
        own = peer;
        there = k;
        found = found;
        limit = limit;
        unended = refl;
        start = omega arith;
      };
    };
    step = step_begun;
  }

-- What an inbox tells of a peer's list is what came on no link, and then what the stories gained.
module _ (v : View) (p : ℕ) (k : Held) (found : at v p ≡ Some k) where
  one_told : (x : Paired) → Fits v x → (m : ℕ) → x.story.number ≡ m
      → (if nat_eq x.range.peer p then received_on m (chosen (is_in x.range) 0 k.accepted) else []) ≡ (if nat_eq x.story.peer p then received_on x.story.number x.story.gained else [])
  one_told x f m number =
      ap (λ q. if nat_eq q p then received_on m (chosen (is_in x.range) 0 k.accepted) else []) f.peer
      ∙ ap (λ i. if nat_eq x.story.peer p then received_on i (chosen (is_in x.range) 0 k.accepted) else []) (sym number)
      ∙ by (nat_eq x.story.peer p) refl
    where
      own : nat_eq x.story.peer p ≡ true → chosen (is_in x.range) 0 k.accepted ≡ x.story.gained
      own e = subst (IfHeld (λ h. chosen (is_in x.range) 0 h.accepted ≡ x.story.gained)) (ap (at v) (eqb-true x.story.peer p e) ∙ found) f.holds

      by : (b : Bool) → nat_eq x.story.peer p ≡ b
          → (if b then received_on x.story.number (chosen (is_in x.range) 0 k.accepted) else []) ≡ (if b then received_on x.story.number x.story.gained else [])
      by true e = ap (received_on x.story.number) (own e)
      by false e = refl

  pub all_told : (m : ℕ) (xs : List Paired) → AllByRecursion (Fits v) xs → AreCounted m (stories xs) → told_by_links m (ranges xs) p k.accepted ≡ told_by_stories (stories xs) p
  all_told m [] fits counted = refl
  all_told m (x ∷ xs) fits counted =
      ap (λ rs. rs ++ told_by_links (m + 1) (ranges xs) p k.accepted) (one_told x fits.0 m counted.0)
      ∙ ap (λ rs. (if nat_eq x.story.peer p then received_on x.story.number x.story.gained else []) ++ rs) (all_told (m + 1) xs fits.1 counted.1)

  abbrev pub aside : List Accepted
  aside = chosen (λ i. not (came_on_link v.links p i)) 0 k.accepted

  told_so : (done xs : List Paired) (ys : List Story) → Base v done ys → AllByRecursion (Fits v) xs → v.links ≡ ranges xs → ys ≡ stories xs
      → inbox_of v.links p k.accepted ≡ received_on 0 aside ++ told_by_stories ys p
  told_so done xs ys b fits links told =
      ap (λ rs. received_on 0 aside ++ rs)
      (ap (λ ls. told_by_links 1 ls p k.accepted) links ∙ all_told 1 xs fits (subst (AreCounted 1) told b.counted) ∙ sym (ap (λ zs. told_by_stories zs p) told))

  pub closed_told : (ys : List Story) → Closed v ys → inbox_of v.links p k.accepted ≡ received_on 0 aside ++ told_by_stories ys p
  closed_told ys c = told_so c.done c.done ys c.base (all_as (IsDone v) (Fits v) (λ x d. d.fits) c.done c.base.each) c.links c.told

  pub open_told : (n : ℕ) (ys : List Story) → Open v n ys → inbox_of v.links p k.accepted ≡ received_on 0 aside ++ told_by_stories ys p
  open_told n ys o =
      let xs : List Paired = o.opened.done ++ o.opened.now ∷ [] in
      told_so o.opened.done xs ys o.opened.base
      (all_more (Fits v) o.opened.done o.opened.now (all_as (IsDone v) (Fits v) (λ x d. d.fits) o.opened.done o.opened.base.each) o.opened.going.fits)
      (o.opened.links ∙ sym (ranges_more o.opened.done o.opened.now)) (o.opened.told ∙ sym (stories_more o.opened.done o.opened.now))

-- Each story keeps the law.
all_keep : (v : View) (xs : List Paired) → AllByRecursion (IsDone v) xs → AllByRecursion KeepsLinkLaw (stories xs)
all_keep v [] each = tt
all_keep v (x ∷ xs) each = (each.0.law, all_keep v xs each.1)

pub closed_keep : (v : View) (ys : List Story) → Closed v ys → AllByRecursion KeepsLinkLaw ys
closed_keep v ys c = subst (AllByRecursion KeepsLinkLaw) (sym c.told) (all_keep v c.done c.base.each)

pub open_keep : (v : View) (n : ℕ) (ys : List Story) → Open v n ys → AllByRecursion KeepsLinkLaw ys
open_keep v n ys o =
    subst (AllByRecursion KeepsLinkLaw) (sym o.opened.told)
    (all_more KeepsLinkLaw (stories o.opened.done) o.opened.now.story (all_keep v o.opened.done o.opened.base.each) o.opened.going.law)
