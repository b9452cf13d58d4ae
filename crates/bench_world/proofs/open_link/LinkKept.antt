-- The open link stays as it is through commands that don't use it.
use Rattle.std.proofs.Common.{◌≡◌, ◌⊎◌, inl, inr, ℕ, zero, suc, ◌≤◌, ◌<◌, List, [], ◌∷◌, ◌++◌, length, Bool, true, false, Option, Some, None, refl, sym, ◌∙◌, ap, subst}
use Rattle.std.specs.Prelude.{get_or, slice_set, option_map}
use Rattle.std.specs.List.{AllByRecursion, remove}
use Rattle.air_core.specs.Turn.{Air}
use Rattle.air_core.specs.PlainTags.{IsAside, IsAlone}
use Rattle.nfca_poll.specs.Front.{Front, Off, Idle, Sleep, Ready, Active, is_active}
use Rattle.dep_link.specs.Exchange.{InStep, IsCut}
use Rattle.dep_link.specs.Initiator.{InitState}
use Rattle.dep_link.specs.laws.Moves.{same_self}
use Rattle.dep_link.specs.Peers.{IsPeer}
use Rattle.dep_link.specs.Target.{TargetState, made_busy}
use Rattle.bench_devices.specs.declared.device.Device.{Device}
use Rattle.bench_devices.specs.Beside.{InStepAt}
use Rattle.bench_devices.specs.declared.device.Device.TheVariants.{T2, T4, Peer, T5, T3}
use Rattle.bench_devices.specs.Device.{device_id, device_end, device_linked, device_ready, device_selected, device_locked, device_busy}
use Rattle.bench_devices.specs.Keeping.{ghosts}
use Rattle.bench_devices.proofs.kinds.OpenPeer.{peer_in, is_peer}
use Rattle.snep_core.specs.Server.{offered}
use Rattle.snep_core.proofs.accord.Peers.{offers_accord}
use Rattle.bench_world.specs.Calls.{IfLinked}
use Rattle.bench_world.specs.Links.{OpenLink, is_number}
use Rattle.bench_world.specs.Obeying.{Machines, KeepsLink}
use Rattle.bench_world.specs.Opened.{IsOpen, IsFirstWith}
use Rattle.bench_world.specs.Peers.{Peers, end_offered}
use Rattle.bench_world.specs.World.{FarEnd}
use Rattle.bench_world.proofs.devices.PlacesKept.{place_without, first_more, first_less, first_apart, kept_without}

-- A device stands at a place, and all others are aside of it.
abbrev pub AloneAt : Device → ℕ → List Device → Type 0
AloneAt d place [] = ⊥
AloneAt d zero (x ∷ xs) = (x ≡ d) × AllByRecursion (IsAside ghosts (device_id d)) xs
AloneAt d (suc place) (x ∷ xs) = IsAside ghosts (device_id d) x × AloneAt d place xs

at_split : (d : Device) (before behind : List Device) → AllByRecursion (IsAside ghosts (device_id d)) before → AllByRecursion (IsAside ghosts (device_id d)) behind
    → AloneAt d (length before) (before ++ d ∷ behind)
at_split d [] behind first later = (refl, later)
at_split d (x ∷ before) behind first later = (first.0, at_split d before behind first.1 later)

alone_at : (d : Device) (place : ℕ) (xs : List Device) → AloneAt d place xs → IsAlone ghosts (device_id d) xs place d
alone_at d place [] a = absurd a
alone_at d zero (x ∷ xs) a = record { before = []; behind = xs; split = ap (λ y. y ∷ xs) a.0; stands = refl; first = tt; later = a.1 }
alone_at d (suc place) (x ∷ xs) a =
    let more = alone_at d place xs a.1 in
    record { before = x ∷ more.before; behind = more.behind; split = ap (λ ys. x ∷ ys) more.split; stands = ap suc more.stands; first = (a.0, more.first); later = more.later }

-- A peer that is in step with an initiator, and alone at its place.
pub record Stays (i : InitState) (d : Device) (place : ℕ) (ls : List Device) : Type 0 where
  pub alone : AloneAt d place ls
  pub selected : device_selected d ≡ true
  pub is : IsPeer ghosts device_end d
  pub step : InStep i (device_end d)
  pub cut : IsCut i.core.number (device_end d) [] []
  pub linked : device_linked d ≡ true

pub stays_of : (air : Air Device) (place : ℕ) (i : InitState) → (s : InStepAt air place i) → Stays i s.step.1.listener place air.listeners
stays_of air place i s =
    let a = s.step.1.alone in
    let d : Device = s.step.1.listener in
    let P : List Device → ℕ → Type 0 = λ ls n. AloneAt d n ls in
    record {
      alone = subst (λ n. P air.listeners n) (a.stands ∙ s.at) (subst (λ ls. P ls (length a.before)) (sym a.split) (at_split d a.before a.behind a.first a.later));
      selected = s.step.1.selected;
      is = s.step.1.is;
      step = s.step.1.step;
      cut = s.step.1.cut;
      linked = s.linked;
    }

pub in_step : (air : Air Device) (place : ℕ) (i : InitState) (d : Device) → air.lit ≡ true → Stays i d place air.listeners → InStepAt air place i
in_step air place i d lit s = record {
  step = (lit, record { place = place; listener = d; selected = s.selected; alone = alone_at d place air.listeners s.alone; is = s.is; step = s.step; cut = s.cut });
  at = refl;
  linked = s.linked;
}

-- one more device that is aside
alone_more : (d : Device) (place : ℕ) (xs : List Device) (y : Device) → IsAside ghosts (device_id d) y → AloneAt d place xs → AloneAt d place (xs ++ y ∷ [])
alone_more d place [] y aside a = absurd a
alone_more d zero (x ∷ xs) y aside a = (a.0, behind xs a.1)
  where
    behind : (ys : List Device) → AllByRecursion (IsAside ghosts (device_id d)) ys → AllByRecursion (IsAside ghosts (device_id d)) (ys ++ y ∷ [])
    behind [] b = (aside, tt)
    behind (z ∷ ys) b = (b.0, behind ys b.1)
alone_more d (suc place) (x ∷ xs) y aside a = (a.0, alone_more d place xs y aside a.1)

all_less : (P : Device → Type 0) (xs : List Device) (k : ℕ) → AllByRecursion P xs → AllByRecursion P (remove xs k)
all_less P [] zero a = tt
all_less P [] (suc k) a = tt
all_less P (x ∷ xs) zero a = a.1
all_less P (x ∷ xs) (suc k) a = (a.0, all_less P xs k a.1)

-- another one taken away
alone_less : (d : Device) (place j : ℕ) (xs : List Device) → (j ≡ place → ⊥) → AloneAt d place xs → AloneAt d (place_without j place) (remove xs j)
alone_less d place j [] apart a = absurd a
alone_less d zero zero (x ∷ xs) apart a = absurd (apart refl)
alone_less d zero (suc j) (x ∷ xs) apart a = (a.0, all_less (IsAside ghosts (device_id d)) xs j a.1)
alone_less d (suc place) zero (x ∷ xs) apart a = a.1
alone_less d (suc place) (suc j) (x ∷ xs) apart a = (a.0, alone_less d place j xs (λ e. apart (ap suc e)) a.1)

pub stays_more : (i : InitState) (d : Device) (place : ℕ) (xs : List Device) (y : Device) → IsAside ghosts (device_id d) y → Stays i d place xs → Stays i d place (xs ++ y ∷ [])
stays_more i d place xs y aside s = record { alone = alone_more d place xs y aside s.alone; selected = s.selected; is = s.is; step = s.step; cut = s.cut; linked = s.linked }

pub stays_less : (i : InitState) (d : Device) (place j : ℕ) (xs : List Device) → (j ≡ place → ⊥) → Stays i d place xs → Stays i d (place_without j place) (remove xs j)
stays_less i d place j xs apart s = record { alone = alone_less d place j xs apart s.alone; selected = s.selected; is = s.is; step = s.step; cut = s.cut; linked = s.linked }

-- A change of a device that keeps what a link asks of it: one that is aside stays so, and a peer that is in step stays so.
pub record KeepsTalk (change : Device → Device) (d : Device) : Type 0 where
  pub aside : (own : List ℕ) → IsAside ghosts own d → IsAside ghosts own (change d)
  pub id : device_id (change d) ≡ device_id d
  pub selected : device_selected (change d) ≡ device_selected d
  pub linked : device_linked (change d) ≡ device_linked d
  pub peer : device_selected d ≡ true → device_linked d ≡ true → IsPeer ghosts device_end d → IsPeer ghosts device_end (change d)
  pub step : (i : InitState) → InStep i (device_end d) → InStep i (device_end (change d))
  pub cut : (n : ℕ) → IsCut n (device_end d) [] [] → IsCut n (device_end (change d)) [] []

-- a device among others is changed
aside_changed : (change : Device → Device) (own : List ℕ) (before : List Device) (e : Device) (behind : List Device) → KeepsTalk change e → AllByRecursion (IsAside ghosts own) (before ++ e ∷ behind)
    → AllByRecursion (IsAside ghosts own) (before ++ change e ∷ behind)
aside_changed change own [] e behind k a = (k.aside own a.0, a.1)
aside_changed change own (x ∷ before) e behind k a = (a.0, aside_changed change own before e behind k a.1)

changed_alone : (change : Device → Device) (d : Device) (place : ℕ) (before : List Device) (e : Device) (behind : List Device) → KeepsTalk change e → AloneAt d place (before ++ e ∷ behind)
    → AloneAt d place (before ++ change e ∷ behind) ⊎ ((e ≡ d) × AloneAt (change e) place (before ++ change e ∷ behind))
changed_alone change d zero [] e behind k a =
    let own : device_id d ≡ device_id (change e) = sym (k.id ∙ ap device_id a.0) in
    inr (a.0, (refl, subst (λ x. AllByRecursion (IsAside ghosts x) behind) own a.1))
changed_alone change d (suc place) [] e behind k a = inl (k.aside (device_id d) a.0, a.1)
changed_alone change d zero (x ∷ before) e behind k a = inl (a.0, aside_changed change (device_id d) before e behind k a.1)
changed_alone change d (suc place) (x ∷ before) e behind k a = elim (changed_alone change d place before e behind k a.1) [
  | inl same ↦ inl (a.0, same)
  | inr (is, now) ↦ (
      let own : device_id d ≡ device_id (change e) = sym (k.id ∙ ap device_id is) in
      inr (is, (subst (λ y. IsAside ghosts y x) own a.0, now)))
]

-- The peer after that, which may be the device itself.
pub record Changed (i : InitState) (place : ℕ) (ls : List Device) : Type 0 where
  pub device : Device
  pub stays : Stays i device place ls

pub stays_changed : (i : InitState) (d : Device) (place : ℕ) (change : Device → Device) (before : List Device) (e : Device) (behind : List Device) → KeepsTalk change e
    → Stays i d place (before ++ e ∷ behind)
    → Changed i place (before ++ change e ∷ behind)
stays_changed i d place change before e behind k s = elim (changed_alone change d place before e behind k s.alone) [
  | inl alone ↦ record { device = d; stays = record { alone = alone; selected = s.selected; is = s.is; step = s.step; cut = s.cut; linked = s.linked } }
  | inr (is, alone) ↦ (
      let selected : device_selected e ≡ true = ap device_selected is ∙ s.selected in
      let linked : device_linked e ≡ true = ap device_linked is ∙ s.linked in
      record {
        device = change e;
        stays = record {
          alone = alone;
          selected = k.selected ∙ selected;
          is = k.peer selected linked (subst (IsPeer ghosts device_end) (sym is) s.is);
          step = k.step i (subst (λ x. InStep i (device_end x)) (sym is) s.step);
          cut = k.cut i.core.number (subst (λ x. IsCut i.core.number (device_end x) [] []) (sym is) s.cut);
          linked = k.linked ∙ linked;
        };
      })
]

-- a block that is locked plays no part in a link
pub locked_talks : (block : ℕ) (d : Device) → KeepsTalk (device_locked block) d
locked_talks block (T2 d) = record {
  aside = λ own a. record { rests = a.rests; other = a.other };
  id = refl;
  selected = refl;
  linked = refl;
  peer = λ s l p. absurd cc;
  step = λ i t. t;
  cut = λ n c. c;
}
locked_talks block (T4 d) = record { aside = λ own a. a; id = refl; selected = refl; linked = refl; peer = λ s l p. p; step = λ i t. t; cut = λ n c. c }
locked_talks block (Peer d) = record { aside = λ own a. a; id = refl; selected = refl; linked = refl; peer = λ s l p. p; step = λ i t. t; cut = λ n c. c }
locked_talks block (T5 p) = record {
  aside = λ own a. record { rests = a.rests; other = a.other };
  id = refl;
  selected = refl;
  linked = refl;
  peer = λ s l p. absurd cc;
  step = λ i t. t;
  cut = λ n c. c;
}
locked_talks block (T3 p) = record {
  aside = λ own a. record { rests = a.rests; other = a.other };
  id = refl;
  selected = refl;
  linked = refl;
  peer = λ s l p. absurd cc;
  step = λ i t. t;
  cut = λ n c. c;
}

-- nor does how often a peer asks for more time, while none is asked for
busy_peer : (id : List ℕ) (front : Front) (t : TargetState) (linked : Bool) → is_active front ≡ true → linked ≡ true
    → IsPeer ghosts device_end (Peer (record { id = id; front = front; upper = record { target = t; linked = linked } }))
busy_peer id Off t linked a l = absurd cc
busy_peer id Idle t linked a l = absurd cc
busy_peer id Sleep t linked a l = absurd cc
busy_peer id (Ready k starred) t linked a l = absurd cc
busy_peer id (Active starred) t linked a l =
    let P : Bool → Type 0 = λ v. IsPeer ghosts device_end (Peer (peer_in id starred v t)) in
    subst P (sym l) (is_peer t (Peer (peer_in id starred true t)) (record { id = id; starred = starred; now = t; is = refl; self = same_self t }))

pub busy_talks : (count times : ℕ) → count ≤ 5 → (1 ≤ times) × (times ≤ 59) → (d : Device) → KeepsTalk (device_busy count times) d
busy_talks count times few long (T2 d) = record { aside = λ own a. a; id = refl; selected = refl; linked = refl; peer = λ s l p. p; step = λ i t. t; cut = λ n c. c }
busy_talks count times few long (T4 d) = record {
  aside = λ own a. record { rests = a.rests; other = a.other };
  id = refl;
  selected = refl;
  linked = refl;
  peer = λ s l p. absurd cc;
  step = λ i t. t;
  cut = λ n c. c;
}
busy_talks count times few long (Peer d) = record {
  aside = λ own a. record { rests = a.rests; other = a.other };
  id = refl;
  selected = refl;
  linked = refl;
  peer = λ s l p. busy_peer d.id d.front (made_busy d.upper.target count times) d.upper.linked s l;
  step = λ i t. record {
    heeds = t.heeds;
    number = t.number;
    expects = t.expects;
    no_chain = t.no_chain;
    no_left = t.no_left;
    all_sent = t.all_sent;
    asks = t.asks;
    answers = t.answers;
    busy = few;
    times = long;
  };
  cut = λ n c. c;
}
busy_talks count times few long (T5 p) = record { aside = λ own a. a; id = refl; selected = refl; linked = refl; peer = λ s l p. p; step = λ i t. t; cut = λ n c. c }
busy_talks count times few long (T3 p) = record { aside = λ own a. a; id = refl; selected = refl; linked = refl; peer = λ s l p. p; step = λ i t. t; cut = λ n c. c }

-- what holds of all devices holds of the peer
pub holds_there : (P : Device → Type 0) (d : Device) (place : ℕ) (xs : List Device) → AloneAt d place xs → AllByRecursion P xs → P d
holds_there P d place [] a all = absurd a
holds_there P d zero (x ∷ xs) a all = subst P a.0 all.0
holds_there P d (suc place) (x ∷ xs) a all = holds_there P d place xs a.1 all.1

-- What holds of an open link holds of it behind a change, whichever one is open.
pub keeps_so : (a b : Machines) → b.link ≡ a.link → ((l : OpenLink) → a.link ≡ Some l → IsOpen a.air a.ends a.peers l → IsOpen b.air b.ends b.peers l) → KeepsLink a → KeepsLink b
keeps_so a b same keeps k =
    let P : Option OpenLink → Type 0 = λ o. IfLinked o (λ l. IsOpen b.air b.ends b.peers l) (Unit {0}) in
    subst P (sym same) (by_link a.link refl k)
  where
    by_link : (o : Option OpenLink) → a.link ≡ o → IfLinked o (λ l. IsOpen a.air a.ends a.peers l) (Unit {0}) → IfLinked o (λ l. IsOpen b.air b.ends b.peers l) (Unit {0})
    by_link None is h = tt
    by_link (Some l) is h = keeps l is h

-- another field with the same light and devices
pub open_on : (a b : Air Device) (ends : List (Option FarEnd)) (peers : Peers) (l : OpenLink) → b.lit ≡ a.lit → b.listeners ≡ a.listeners → IsOpen a ends peers l → IsOpen b ends peers l
open_on a b ends peers l lit same o =
    let s : Stays l.initiator o.step.step.1.listener o.place a.listeners = stays_of a o.place l.initiator o.step in
    let P : List Device → Type 0 = λ ls. Stays l.initiator o.step.step.1.listener o.place ls in
    record {
      place = o.place;
      number = o.number;
      step = in_step b o.place l.initiator o.step.step.1.listener (lit ∙ o.step.step.0) (subst P (sym same) s);
      going = o.going;
      end = o.end;
      above = o.above;
      accords = o.accords;
    }

-- a device is changed
pub open_changed : (a b : Air Device) (ends : List (Option FarEnd)) (peers : Peers) (l : OpenLink) (change : Device → Device) (before : List Device) (e : Device) (behind : List Device)
    → KeepsTalk change e → a.listeners ≡ before ++ e ∷ behind → b.lit ≡ a.lit → b.listeners ≡ before ++ change e ∷ behind → IsOpen a ends peers l → IsOpen b ends peers l
open_changed a b ends peers l change before e behind k split lit now o =
    let P : List Device → Type 0 = λ ls. Stays l.initiator o.step.step.1.listener o.place ls in
    let s : P (before ++ e ∷ behind) = subst P split (stays_of a o.place l.initiator o.step) in
    let c : Changed l.initiator o.place (before ++ change e ∷ behind) = stays_changed l.initiator o.step.step.1.listener o.place change before e behind k s in
    record {
      place = o.place;
      number = o.number;
      step = in_step b o.place l.initiator c.device (lit ∙ o.step.step.0) (subst (λ ls. Stays l.initiator c.device o.place ls) (sym now) c.stays);
      going = o.going;
      end = o.end;
      above = o.above;
      accords = o.accords;
    }

-- a device is placed, in the dark
placed_end : (os : List (Option FarEnd)) (n : ℕ) (end : FarEnd) (o : Option FarEnd) → get_or os n None ≡ Some end → get_or (os ++ o ∷ []) n None ≡ Some end
placed_end [] n end o is = absurd cc
placed_end (x ∷ os) zero end o is = is
placed_end (x ∷ os) (suc n) end o is = placed_end os n end o is

pub open_more : (a b : Air Device) (ends : List (Option FarEnd)) (peers now : Peers) (l : OpenLink) (d : Device) (o : Option FarEnd) (p : Option ℕ) → device_ready d ≡ false → device_selected d ≡ false
    → AllByRecursion (λ x. device_id x ≡ device_id d → ⊥) a.listeners → b.lit ≡ a.lit → b.listeners ≡ a.listeners ++ d ∷ [] → now.numbers ≡ peers.numbers ++ p ∷ []
    → IsOpen a ends peers l → IsOpen b (ends ++ o ∷ []) now l
open_more a b ends peers now l d end p ready selected fresh lit listeners numbers o =
    let x : Device = o.step.step.1.listener in
    let s : Stays l.initiator x o.place a.listeners = stays_of a o.place l.initiator o.step in
    let other : device_id x ≡ device_id d → ⊥ = holds_there (λ y. device_id y ≡ device_id d → ⊥) x o.place a.listeners s.alone fresh in
    let aside : IsAside ghosts (device_id x) d = record { rests = λ tech. (ready, selected); other = other } in
    record {
      place = o.place;
      number = subst (λ ps. IsFirstWith l.peer o.place ps) (sym numbers) (first_more l.peer o.place peers.numbers (p ∷ []) o.number);
      step = in_step b o.place l.initiator x (lit ∙ o.step.step.0) (subst (λ ls. Stays l.initiator x o.place ls) (sym listeners) (stays_more l.initiator x o.place a.listeners d aside s));
      going = o.going;
      end = o.end;
      above = placed_end ends o.place o.end end o.above;
      accords = o.accords;
    }

-- another device is taken away
pub open_less : (a b : Air Device) (ends : List (Option FarEnd)) (peers now : Peers) (l : OpenLink) (n : ℕ) → is_number l.peer (get_or peers.numbers n None) ≡ false → n < length peers.numbers
    → n < length ends → b.lit ≡ a.lit → b.listeners ≡ remove a.listeners n → now.numbers ≡ remove peers.numbers n → IsOpen a ends peers l → IsOpen b (remove ends n) now l
open_less a b ends peers now l n other within above lit listeners numbers o =
    let x : Device = o.step.step.1.listener in
    let s : Stays l.initiator x o.place a.listeners = stays_of a o.place l.initiator o.step in
    let apart : n ≡ o.place → ⊥ = first_apart l.peer o.place n peers.numbers o.number other in
    record {
      place = place_without n o.place;
      number = subst (λ ps. IsFirstWith l.peer (place_without n o.place) ps) (sym numbers) (first_less l.peer o.place n peers.numbers o.number other within);
      step = in_step b (place_without n o.place) l.initiator x (lit ∙ o.step.step.0)
          (subst (λ ls. Stays l.initiator x (place_without n o.place) ls) (sym listeners) (stays_less l.initiator x o.place n a.listeners apart s));
      going = o.going;
      end = o.end;
      above = kept_without ends n o.place None apart above ∙ o.above;
      accords = o.accords;
    }

-- a server is given a value
offered_there : (key value : List ℕ) (os : List (Option FarEnd)) (j n : ℕ) (end : FarEnd) → get_or os n None ≡ Some end
    → (get_or (slice_set os j (option_map (end_offered key value) (get_or os j None))) n None ≡ Some end)
    ⊎ (get_or (slice_set os j (option_map (end_offered key value) (get_or os j None))) n None ≡ Some (end_offered key value end))
offered_there key value [] j n end is = absurd cc
offered_there key value (x ∷ os) zero zero end is = inr (ap (option_map (end_offered key value)) is)
offered_there key value (x ∷ os) zero (suc n) end is = inl is
offered_there key value (x ∷ os) (suc j) zero end is = inl is
offered_there key value (x ∷ os) (suc j) (suc n) end is = offered_there key value os j n end is

pub open_offered : (a : Air Device) (ends : List (Option FarEnd)) (peers : Peers) (l : OpenLink) (key value : List ℕ) (j : ℕ) → IsOpen a ends peers l
    → IsOpen a (slice_set ends j (option_map (end_offered key value) (get_or ends j None))) peers l
open_offered a ends peers l key value j o = elim (offered_there key value ends j o.place o.end o.above) [
  | inl same ↦ record { place = o.place; number = o.number; step = o.step; going = o.going; end = o.end; above = same; accords = o.accords }
  | inr now ↦ record {
    place = o.place;
    number = o.number;
    step = o.step;
    going = o.going;
    end = end_offered key value o.end;
    above = now;
    accords = offers_accord l.client o.end (offered o.end.service.table key value) o.accords;
  }
]
