-- A bench that was told what happened in a command.
use Rattle.std.proofs.Common.{◌≡◌, ℕ, List, [], ◌∷◌, ◌++◌, drop, true, false, refl, sym, ◌∙◌, ap, subst}
use Rattle.nfc_base.specs.declared.event.Event.{Event}
use Rattle.bench_script.specs.declared.command.Command.{Command}
use Rattle.bench_script.specs.declared.command.Command.TheVariants.{Skip}
use Rattle.bench_world.specs.declared.entry.Entry.{Entry}
use Rattle.bench_world.specs.declared.following.Followed.{Followed}
use Rattle.bench_world.specs.declared.following.Followed.TheVariants.{Whole, Front}
use Rattle.bench_world.specs.Cutting.{CutsWell}
use Rattle.bench_world.specs.Following.{BeginAlike, Compares, Follows, FollowsAll, FollowsFront, FollowsOne, LosesTrack, Records, SpoilsTrack}
use Rattle.bench_world.specs.Legal.{Joins}
use Rattle.bench_world.specs.Obeying.{Benched, IsCutOffBy, IsSettled, Machines, Makes, state_at, untraced}
use Rattle.bench_world.specs.ReadBack.{AreOnAir}
use Rattle.bench_world.specs.Showing.{IsBetweenCommands, MayShow, shown_of}
use Rattle.bench_world.proofs.tags.Benches.{both_ways, made_legal, made_quiet, seen}
use Rattle.bench_world.proofs.tags.Strays.{begins_with, none_begins, none_has}
use Rattle.bench_world.proofs.tags.Unfinished.{unfinished}

as_follows : (f : Followed) (old new : Benched) (line : ℕ) (c : Command) (events : List Event) → (c ≡ Skip → ⊥) → FollowsOne f old new line c events → Follows f old new line c events
as_follows f old new line Skip events other follows = absurd (other refl)
as_follows f old new line c events other follows = follows

module _ (rs : List (List Entry)) (a k : Machines) (js ks : List Entry) (line : ℕ) (c : Command) (e : Entry) (told : List Event)
    (settled : IsSettled a) (cuts : CutsWell (state_at a)) (shows : MayShow (state_at a) c) (m : Makes (shown_of (state_at a) c told) a k line c e) (air : AreOnAir e.events) where
  between : IsBetweenCommands (state_at a)
  between = record { machines = a; settled = settled; is = refl; cuts = cuts }

  all_told : told ≡ e.events → ks ≡ js ++ e ∷ [] → FollowsAll (seen rs js a false) (seen rs ks k false) line c told
  all_told same added =
      let i = made_legal (shown_of (state_at a) c told) a k line c e m in
      let B : List Entry → List Event → Benched = λ xs cut. record { finished = rs; journal = xs; state = state_at k; cut = cut; spoiled = false } in
      record {
        sound = refl;
        between = between;
        shows = shows;
        entry = e;
        state = state_at k;
        given = i.given;
        is = ap (λ xs. B xs k.air.trace) added ∙ ap (B (js ++ e ∷ [])) (made_quiet (shown_of (state_at a) c told) a k line c e settled m);
        numbered = i.numbered;
        asked = i.asked;
        happened = sym same;
        legal = i.legal;
      }

  front_told : (good : ℕ) → BeginAlike e.events told good → (told ≡ e.events → ⊥) → ks ≡ js → FollowsFront (seen rs js a false) (seen rs ks k false) line c told good
  front_told good b other kept =
      let i = made_legal (shown_of (state_at a) c told) a k line c e m in
      let B : List Entry → List Event → Benched = λ xs cut. record { finished = rs; journal = xs; state = state_at k; cut = cut; spoiled = false } in
      record {
        sound = refl;
        between = between;
        shows = shows;
        made = e;
        state = state_at k;
        given = i.given;
        is = ap (λ xs. B xs k.air.trace) kept ∙ ap (B js) (made_quiet (shown_of (state_at a) c told) a k line c e settled m);
        numbered = i.numbered;
        asked = i.asked;
        legal = i.legal;
        within = b.within_other;
        behind = drop good e.events;
        begins = begins_with e.events told good b;
        on_air = air;
        none_more = none_begins (state_at a) (state_at k) between c shows i.given e i.legal i.asked told i.joined good b;
        none_so = none_has (state_at a) (state_at k) between c shows i.given e i.legal i.asked told i.joined other;
      }

  one_told : (f : Followed) → Compares e.events told f → Records f js ks e → FollowsOne f (seen rs js a false) (seen rs ks k false) line c told
  one_told Whole same added = all_told same added
  one_told (Front good) parts kept = front_told good parts.0 parts.1 kept

  -- the bench followed the events
  pub follows : (f : Followed) (old : Benched) → old ≡ seen rs js a false → (c ≡ Skip → ⊥) → Compares e.events told f → Records f js ks e → Follows f old (seen rs ks k false) line c told
  follows f old is other compares records =
      as_follows f old (seen rs ks k false) line c told other
      (subst (λ (b : Benched). FollowsOne f b (seen rs ks k false) line c told) (sym is) (one_told f compares records))

-- machines with nothing in the trace have it taken out
pub is_untraced : (m : Machines) → m.air.trace ≡ [] → m ≡ untraced m
is_untraced m quiet =
    ap (λ es. let x : Machines = record { air = record { lit = m.air.lit; listeners = m.air.listeners; fates = m.air.fates; trace = es }; ends = m.ends; peers = m.peers; link = m.link } in x) quiet

-- want of memory cut the command off, and what happened in it was let go
pub loses : (old : Benched) (rs : List (List Entry)) (a b k : Machines) (js ks : List Entry) (c : Command) (joins : Joins) → old ≡ seen rs js a false → ks ≡ js → IsCutOffBy joins a b c
    → k ≡ untraced b
    → LosesTrack old (seen rs ks k true) c
loses old rs a b k js ks c joins is same cut gone =
    let S : List Entry → Machines → Benched → Type 0 = λ xs x o. SpoilsTrack o (seen rs xs x true) c in
    let it : S js (untraced b) (seen rs js a false) = record {
      state = state_at b;
      joins = joins;
      events = b.air.trace;
      is = refl;
      front = cut;
      stores = unfinished joins (state_at a) (state_at b) c b.air.trace cut;
    } in
    (λ _. subst (λ x. S ks x old) (sym gone) (subst (λ xs. S xs (untraced b) old) (sym same) (subst (S js (untraced b)) (sym is) it)), λ bad. absurd (both_ways old (ap (λ o. o.spoiled) is) bad))
