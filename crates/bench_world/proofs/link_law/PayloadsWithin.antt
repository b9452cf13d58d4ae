-- A link that begins and ends in one stretch: its story is by the payloads that arrived.
use Rattle.std.proofs.Common.{◌≡◌, ℕ, ◌+◌, List, [], ◌∷◌, ◌++◌, length, Option, Some, None, append-nil, refl, sym, ◌∙◌, ap, subst}
use Rattle.std.specs.List.{AllByRecursion}
use Rattle.nfc_base.specs.Choosing.{Choosing}
use Rattle.dep_link.specs.DepLinks.{brought}
use Rattle.llcp_link.specs.State.{restarted}
use Rattle.snep_core.specs.Server.{Received as Accepted, serving}
use Rattle.bench_world.specs.World.{FarEnd}
use Rattle.bench_world.specs.Arrivals.{giving_values}
use Rattle.bench_world.specs.Arriving.{ArrivesWithin}
use Rattle.bench_world.specs.ByPayloads.{IfPayloads, IsByPayloads}
use Rattle.bench_world.specs.Calls.{OfEnd}
use Rattle.bench_world.specs.Legal.{State, changed}
use Rattle.bench_world.specs.Links.{OpenLink, end_numbered}
use Rattle.bench_world.specs.Peers.{placed_under}
use Rattle.bench_world.specs.Stories.{ByRaw, Beginning, BeginsAndEnds, Opener, Story, Stretch, begins_in, begun_by, new_story, open_goes_on, story_within, values_of, whole_of}
use Rattle.bench_world.proofs.link_law.PayloadsOn.{KeepsPayloads, keeps_payloads, Kept, UpTo, above_is, end_then, more_payloads}
use Rattle.bench_world.proofs.link_law.ServerRuns.{answered_is}
use Rattle.bench_world.proofs.link_law.Tales.{accepted_in, accepted_of, goes_on, stories_behind}

-- By what arrived: the story of a link that begins and ends in a stretch.
module _ (s t : State) (x : Stretch) (opener : Opener) (number peer : ℕ) (general : List ℕ) (numbers : t.peers.numbers ≡ s.peers.numbers) where
  abbrev pub new_whole : FarEnd → Story
  new_whole old = new_story number opener peer general (restarted serving old general)

  -- it stands at its beginning
  abbrev pub from_first : (old : FarEnd) → end_numbered peer s.peers.numbers s.world.fars ≡ Some old → UpTo 0 s (new_whole old)
  from_first old stood = record {
    old = old;
    begins = refl;
    bytes = tt;
    payloads = refl;
    accepted = sym (append-nil old.service.accepted);
    counted = refl;
    table = old.service.table;
    gives = ap values_of stood;
    had = ap accepted_of stood;
  }

  pub now_is : (xs : List Accepted) → OfEnd (λ end. end.service.accepted ≡ xs) (end_numbered peer s.peers.numbers t.world.fars) → accepted_in peer t ≡ xs
  now_is xs is = ap (λ ns. accepted_of (end_numbered peer ns t.world.fars)) numbers ∙ above_is xs (end_numbered peer s.peers.numbers t.world.fars) is

  pub within_payloads : (came : ArrivesWithin peer general s.peers.numbers x.joins.far s.world.fars t.world.fars x.events) → IsByPayloads (goes_on s x t (new_whole came.old))
  within_payloads came =
      let y : Story = new_whole came.old in
      let on : UpTo 0 s y = from_first came.old came.stood in
      let ps : List (List ℕ) = brought 0 x.events in
      let is : came.new.end ≡ giving_values on.table (end_then 0 s y on x came.arrives.bytes) =
      ap (λ (c : Choosing FarEnd). c.end) came.arrives.after_is ∙ answered_is ps x.joins.far on.table y.begun in
      more_payloads 0 s y on x came.arrives.bytes t (now_is came.new.end.service.accepted came.accepted ∙ ap (λ (e : FarEnd). e.service.accepted) is)

  -- so it is of what begins in the stretch
  module _ (id : List ℕ) (is : begins_in x ≡ BeginsAndEnds opener id general) (placed : placed_under id s.world.field.listeners s.peers.numbers ≡ Some peer)
      (next : number ≡ length s.peers.links + 1) where
    pub begun_one : (old : FarEnd) → end_numbered peer s.peers.numbers s.world.fars ≡ Some old → begun_by (begins_in x) (goes_on s x t) s t ≡ goes_on s x t (new_whole old) ∷ []
    begun_one old stood =
        ap (λ (b : Beginning). begun_by b (goes_on s x t) s t) is ∙ ap (λ n. story_within opener general n (goes_on s x t) s) placed
        ∙ ap (λ o. whole_of opener general (length s.peers.links + 1) peer o (goes_on s x t)) stood
        ∙ ap (λ n. goes_on s x t (new_story n opener peer general (restarted serving old general)) ∷ []) (sym next)

    pub begun_payloads : ArrivesWithin peer general s.peers.numbers x.joins.far s.world.fars t.world.fars x.events → AllByRecursion KeepsPayloads (begun_by (begins_in x) (goes_on s x t) s t)
    begun_payloads came =
        subst (AllByRecursion KeepsPayloads) (sym (begun_one came.old came.stood)) (keeps_payloads (goes_on s x t (new_whole came.old)) (within_payloads came), tt)

-- Where no link is open in a stretch but one that begins and ends in it, all stories are by payloads where this one is.
all_both : (P : Story → Type 0) (ys zs : List Story) → AllByRecursion P ys → AllByRecursion P zs → AllByRecursion P (ys ++ zs)
all_both P [] zs h k = k
all_both P (y ∷ ys) zs h k = (h.0, all_both P ys zs h.1 k)

pub all_over : (s t : State) (x : Stretch) (ys : List Story) (P : Story → Type 0) → (changed s x.command).link ≡ None → AllByRecursion P ys
    → AllByRecursion P (begun_by (begins_in x) (goes_on s x t) s t)
    → AllByRecursion P (stories_behind s x t ys)
all_over s t x ys P none all begun =
    let zs : List Story = begun_by (begins_in x) (goes_on s x t) s t in
    let S : Option OpenLink → Type 0 = λ o. AllByRecursion P (open_goes_on o (goes_on s x t) ys ++ zs) in
    subst S (sym none) (all_both P ys zs all begun)

-- Of a link that frames of a script's own opened nothing is said so.
raw_whole : (P : Story → Type 0) (s t : State) (x : Stretch) (general : List ℕ) (number peer : ℕ) (o : Option FarEnd)
    → AllByRecursion (IfPayloads P) (whole_of ByRaw general number peer o (goes_on s x t))
raw_whole P s t x general number peer None = tt
raw_whole P s t x general number peer (Some old) = (tt, tt)

pub raw_within : (P : Story → Type 0) (s t : State) (x : Stretch) (general : List ℕ) (n : Option ℕ) → AllByRecursion (IfPayloads P) (story_within ByRaw general n (goes_on s x t) s)
raw_within P s t x general None = tt
raw_within P s t x general (Some peer) = raw_whole P s t x general (length s.peers.links + 1) peer (end_numbered peer s.peers.numbers s.world.fars)

pub over_kept : (s t : State) (x : Stretch) (ys : List Story) → AllByRecursion KeepsPayloads ys → (changed s x.command).link ≡ None → t.link ≡ None
    → AllByRecursion KeepsPayloads (begun_by (begins_in x) (goes_on s x t) s t) → Kept t.link t (stories_behind s x t ys)
over_kept s t x ys all none gone begun =
    subst (λ o. Kept o t (stories_behind s x t ys)) (sym gone) (record { all = all_over s t x ys KeepsPayloads none all begun; going = tt })
