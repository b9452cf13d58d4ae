-- The law of a write of a Type 3 tag from before the tag was selected on.
use Rattle.std.proofs.Common.{◌≡◌, ◌⊎◌, ℕ, List, [], ◌∷◌, ◌++◌, Result, Ok, Err, refl, sym, ◌∙◌, ap, subst, append_assoc}
use Rattle.std.specs.List.{AllByRecursion}
use Rattle.nfc_base.specs.declared.event.Event.{Event}
use Rattle.nfc_base.specs.Signal.{Signal}
use Rattle.air_core.specs.Conversation.{Note, Asks, Moment, Going, replay}
use Rattle.t3t_access.specs.declared.fault.T3Fault.{T3Fault}
use Rattle.t3t_access.specs.declared.fault.T3Fault.TheVariants as fault
use Rattle.t3t_access.specs.OwnWriting.{IsBegun, IsNew}
use Rattle.t3t_access.specs.Polling.{picking_f}
use Rattle.tag_writer.specs.Law.{last_store}
use Rattle.bench_devices.specs.declared.device.Device.{Device}
use Rattle.bench_devices.specs.Device.{BenchWorld, air, device_id, device_store}
use Rattle.bench_devices.specs.Placed.{device_with}
use Rattle.bench_devices.specs.Keeping.{EachAsked, held_by, images_of}
use Rattle.bench_devices.specs.Polling.{asks}
use Rattle.bench_devices.specs.Sensing.{seeking}
use Rattle.bench_devices.specs.Threes.{Write3Law, LeavesThree, KeepsWrite3Law}
use Rattle.bench_devices.proofs.finding.FromReset.{next_asked}
use Rattle.bench_devices.proofs.kinds.ImagesJoin.{images_before, images_join, still_before}
use Rattle.bench_devices.proofs.finding.SeekingOne.{seeking_closes, seeks_one, seeks_no_light}
use Rattle.bench_devices.proofs.finding.SelectingKept.{IsHarmless, due_asked}

abbrev pub End : Type 0
End = Result (Unit {0}) T3Fault

-- whatever is due while a Type 3 tag is selected changes no device but in its state
pub seeking_harmless : (id : List ℕ) (ns : List Note) (f : Signal) → asks (seeking id ns) ≡ Asks f → IsHarmless f
seeking_harmless id ns f due = next_asked (picking_f id) (seeking_closes id) (seeks_one id) (seeks_no_light id) ns f due

pub sought_harmless : (id : List ℕ) (a b : Moment BenchWorld) (ns : List Note) → (g : Going air (λ ks. asks (seeking id ks)) a b ns) → EachAsked IsHarmless g.events
sought_harmless id a b ns g = due_asked IsHarmless (λ ks. asks (seeking id ks)) (λ ks f due. seeking_harmless id ks f due) [] g.events g.each

all_joined : (P : List ℕ → Type 0) (xs ys : List (List ℕ)) → AllByRecursion P xs → AllByRecursion P ys → AllByRecursion P (xs ++ ys)
all_joined P [] ys p q = q
all_joined P (x ∷ xs) ys p q = (p.0, all_joined P xs ys p.1 q)

-- behind stores that are the old one the last is the same
last_behind : (old : List ℕ) (first stores : List (List ℕ)) → AllByRecursion (λ s. s ≡ old) first → last_store old (first ++ stores) ≡ last_store old stores
last_behind old [] stores all = refl
last_behind old (s ∷ first) stores all = ap (λ x. last_store x (first ++ stores)) all.0 ∙ last_behind old first stores all.1

module _ (message old : List ℕ) (first stores : List (List ℕ)) (olds : AllByRecursion (λ s. s ≡ old) first) where
  left_behind : (r : End) → LeavesThree message old stores r → LeavesThree message old (first ++ stores) r
  left_behind (Ok x) l = subst (IsNew message old) (sym (last_behind old first stores olds)) l
  left_behind (Err (fault.Refused status)) l = subst (λ s. (s ≡ old) ⊎ IsBegun message old s) (sym (last_behind old first stores olds)) l
  left_behind (Err fault.NotNdef) l = all_joined (λ s. s ≡ old) first stores olds l
  left_behind (Err fault.Version) l = all_joined (λ s. s ≡ old) first stores olds l
  left_behind (Err fault.BadSize) l = all_joined (λ s. s ≡ old) first stores olds l
  left_behind (Err fault.ReadOnly) l = all_joined (λ s. s ≡ old) first stores olds l
  left_behind (Err (fault.TooLong most)) l = all_joined (λ s. s ≡ old) first stores olds l
  left_behind (Err fault.FieldLost) l = tt
  left_behind (Err fault.SixBad) l = tt
  left_behind (Err fault.Memory) l = tt
  left_behind (Err fault.Protocol) l = tt
  left_behind (Err fault.Unfinished) l = tt

  -- The law holds from before such stores on.
  law_before : (r : End) → Write3Law message old r stores → Write3Law message old r (first ++ stores)
  law_before r law = record {
    three = record {
      before = first ++ law.three.before;
      during = law.three.during;
      behind = law.three.behind;
      joined = ap (λ ss. first ++ ss) law.three.joined ∙ sym (append_assoc first law.three.before (law.three.during ++ law.three.behind));
      olds = all_joined (λ s. s ≡ old) first law.three.before olds law.three.olds;
      empties = law.three.empties;
      news = law.three.news;
    };
    leaves = left_behind r law.leaves;
  }

-- stores that are all the old one keep it, where the write was stopped
pub law_still : (message old : List ℕ) (stores : List (List ℕ)) → AllByRecursion (λ s. s ≡ old) stores → Write3Law message old (Err fault.Memory) stores
law_still message old stores all = record { three = record { before = stores; during = []; behind = []; joined = sym (append_nothing stores); olds = all; empties = tt; news = tt }; leaves = tt }
  where
    append_nothing : (ss : List (List ℕ)) → ss ++ [] ≡ ss
    append_nothing [] = refl
    append_nothing (s ∷ ss) = ap (λ xs. s ∷ xs) (append_nothing ss)

-- The device holds at first what it holds once it is selected, and so the law holds from there on.
pub law_sought : (id : List ℕ) (old new : Moment BenchWorld) (ns : List Note) (g : Going air (λ ks. asks (seeking id ks)) old new ns) (message : List ℕ) (d : Device) (r : End) (es : List Event)
    → held_by (device_with (device_id d) new.world.listeners) ≡ device_store d → KeepsWrite3Law message d r new.world es → KeepsWrite3Law message d r old.world (g.events ++ es)
law_sought id old new ns g message d r es holds law =
    let own : List ℕ = device_id d in
    let replayed : new.world ≡ replay air old.world g.events = ap (λ (t : Moment BenchWorld). t.world) g.moment in
    let there : held_by (device_with own (replay air old.world g.events).listeners) ≡ device_store d =
    subst (λ (w : BenchWorld). held_by (device_with own w.listeners) ≡ device_store d) replayed holds in
    let olds : AllByRecursion (λ s. s ≡ device_store d) (images_before own old.world g.events) =
    subst (λ store. AllByRecursion (λ s. s ≡ store) (images_before own old.world g.events)) there (still_before own old.world g.events (sought_harmless id old new ns g)) in
    subst (Write3Law message (device_store d) r) (sym (images_join own old.world g.events es))
    (law_before message (device_store d) (images_before own old.world g.events) (images_of own (replay air old.world g.events) es) olds r
    (subst (λ (w : BenchWorld). KeepsWrite3Law message d r w es) replayed law))
