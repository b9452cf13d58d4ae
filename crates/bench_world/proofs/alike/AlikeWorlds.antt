-- Worlds that the dark leaves the same: what a command itself changes leaves them so, and from a reset on they are one.
use Rattle.std.proofs.Common.{◌≡◌, ℕ, List, [], ◌∷◌, ◌++◌, map, Bool, true, false, if◌then◌else◌, Option, Some, None, refl, sym, ◌∙◌, ap, subst}
use Rattle.std.specs.Prelude.{option_map}
use Rattle.std.proofs.lemmas.List.{map-append}
use Rattle.nfc_base.specs.declared.event.Event.{Event}
use Rattle.nfc_base.specs.declared.event.Event.TheVariants.{Reset, Request, Answer, Clash}
use Rattle.nfc_base.specs.Signal.{Signal}
use Rattle.nfc_base.specs.Trace.{back_of}
use Rattle.nfc_base.specs.Trace as backs
use Rattle.air_core.specs.World.{reset_by}
use Rattle.air_core.specs.Conversation.{Note, Next, Asks, AreTurns, EachDue, Move, Light, Ask, replay, trace_of, turn_events}
use Rattle.air_core.proofs.Following.{trace_first}
use Rattle.far_air.specs.FarWorld.{far_dark, far_reset, with_numbers}
use Rattle.peer_air.specs.PeerFars.{peer_ends}
use Rattle.bench_devices.specs.declared.device.Device.{Device}
use Rattle.bench_devices.specs.Device.{StablePart, devices, device_darkened, device_linked, device_woken, stable_of}
use Rattle.bench_devices.specs.Keeping.{Kept, held_by, images_of}
use Rattle.bench_devices.specs.Placed.{device_with}
use Rattle.bench_devices.proofs.finding.SelectingKept.{kept_dark}
use Rattle.bench_world.specs.World.{FarEnd, WholeWorld, Stable, bench_air, stable, with_one_more}
use Rattle.bench_world.proofs.alike.AlikeDevices.{SameDevice, SameDevices, same_each, same_with, same_kept}
use Rattle.bench_world.proofs.alike.AlikeEnds.{SameEnds, rest}

-- The dark leaves the same of both, and as much light is in both.
pub record SameWorld (w v : WholeWorld) : Type 0 where
  pub lit : w.field.lit ≡ v.field.lit
  pub listeners : SameDevices w.field.listeners v.field.listeners
  pub fars : SameEnds w.fars v.fars
  pub numbers : w.numbers ≡ v.numbers

pub from_dark : (w v : WholeWorld) → w.field.lit ≡ v.field.lit → far_dark devices device_linked peer_ends w ≡ far_dark devices device_linked peer_ends v → SameWorld w v
from_dark w v lit same = record {
  lit = lit;
  listeners = ap (λ (x : WholeWorld). x.field.listeners) same;
  fars = ap (λ (x : WholeWorld). x.fars) same;
  numbers = ap (λ (x : WholeWorld). x.numbers) same;
}

-- a world of these parts
abbrev world_of : Bool → List Device → List (Option FarEnd) → List ℕ → WholeWorld
world_of lit ls os ns = record { field = record { lit = lit; listeners = ls }; fars = os; numbers = ns }

same_parts : (lit : Bool) (ls ks : List Device) (os ps : List (Option FarEnd)) (ns ms : List ℕ) → ls ≡ ks → os ≡ ps → ns ≡ ms → world_of lit ls os ns ≡ world_of lit ks ps ms
same_parts lit ls ks os ps ns ms a b c = ap (λ x. world_of lit x os ns) a ∙ ap (λ x. world_of lit ks x ns) b ∙ ap (world_of lit ks ps) c

relit : (ds : List Device) → map (λ d. device_woken (device_darkened d)) ds ≡ map device_woken (map device_darkened ds)
relit [] = refl
relit (d ∷ ds) = ap (λ xs. device_woken (device_darkened d) ∷ xs) (relit ds)

pub itself : (w : WholeWorld) → SameWorld w w
itself w = record { lit = refl; listeners = refl; fars = refl; numbers = refl }

module _ (w v : WholeWorld) (same : SameWorld w v) where
  pub to_dark : far_dark devices device_linked peer_ends w ≡ far_dark devices device_linked peer_ends v
  to_dark =
      same_parts false (map device_darkened w.field.listeners) (map device_darkened v.field.listeners) (map rest w.fars) (map rest v.fars) w.numbers v.numbers same.listeners same.fars same.numbers

  -- a reset makes one of them
  pub same_reset : far_reset devices device_linked peer_ends w ≡ far_reset devices device_linked peer_ends v
  same_reset =
      same_parts true (map (λ d. device_woken (device_darkened d)) w.field.listeners) (map (λ d. device_woken (device_darkened d)) v.field.listeners) (map rest w.fars) (map rest v.fars)
      w.numbers v.numbers (relit w.field.listeners ∙ ap (map device_woken) same.listeners ∙ sym (relit v.field.listeners)) same.fars same.numbers

  -- what stays of both is the same
  pub same_stable : stable w ≡ stable v
  same_stable =
      let S : List StablePart → List (Option FarEnd) → Stable = λ ds os. record { devices = ds; ends = os } in
      ap (λ ds. S ds (map rest w.fars)) (same_each w.field.listeners v.field.listeners same.listeners stable_of stable_dark) ∙ ap (S (map stable_of v.field.listeners)) same.fars
    where
      stable_dark : (d : Device) → stable_of (device_darkened d) ≡ stable_of d
      stable_dark d = ap (λ (k : Kept). let s : StablePart = record { store = k.store; locked = k.fixed.locked; made = k.fixed.made; target = k.fixed.target } in s) (kept_dark d)

  pub numbered : (ns : List ℕ) → SameWorld (with_numbers w ns) (with_numbers v ns)
  numbered ns = record { lit = same.lit; listeners = same.listeners; fars = same.fars; numbers = refl }

  pub one_more : (d : Device) (end : Option FarEnd) → SameWorld (with_one_more w d end) (with_one_more v d end)
  one_more d end = record {
    lit = same.lit;
    listeners =
        map-append device_darkened w.field.listeners (d ∷ []) ∙ ap (λ xs. xs ++ device_darkened d ∷ []) same.listeners ∙ sym (map-append device_darkened v.field.listeners (d ∷ []));
    fars = map-append rest w.fars (end ∷ []) ∙ ap (λ xs. xs ++ rest end ∷ []) same.fars ∙ sym (map-append rest v.fars (end ∷ []));
    numbers = same.numbers;
  }

-- Events that begin with a reset, if there are any.
abbrev pub FromReset : List Event → Type 0
FromReset [] = Unit {0}
FromReset (Reset ∷ es) = Unit {0}
FromReset _ = ⊥

-- So it is of turns where no request is due at first.
pub from_reset : (next : List Note → Next) → ((f : Signal) → next [] ≡ Asks f → ⊥) → (w : WholeWorld) (es : List Event) → AreTurns bench_air w es → EachDue next [] es → FromReset es
from_reset next none w [] turns each = tt
from_reset next none w (Reset ∷ es) turns each = tt
from_reset next none w (Request f x ∷ es) turns each = absurd (none f each.0)
from_reset next none w (Answer g x ∷ es) turns each =
    absurd (let clash : back_of (Answer g x ∷ es) ≡ backs.Nothing = ap back_of turns.made ∙ trace_first bench_air w turns.moves in cc)
from_reset next none w (Clash g x ∷ es) turns each =
    absurd (let clash : back_of (Clash g x ∷ es) ≡ backs.Nothing = ap back_of turns.made ∙ trace_first bench_air w turns.moves in cc)

-- Such turns of one are turns of the other, ...
same_trace : (w v : WholeWorld) → SameWorld w v → (ks : List (Move bench_air)) → FromReset (trace_of bench_air w ks) → trace_of bench_air v ks ≡ trace_of bench_air w ks
same_trace w v same [] start = refl
same_trace w v same (Light ∷ ks) start = ap (λ x. Reset ∷ trace_of bench_air x ks) (sym (same_reset w v same))
same_trace w v same (Ask f x y ∷ ks) start = asked w.field.lit v.field.lit same.lit (same_trace w v same ks) start
  where
    asked : (a b : Bool) → a ≡ b → (FromReset (trace_of bench_air w ks) → trace_of bench_air v ks ≡ trace_of bench_air w ks)
        → FromReset ((if a then turn_events bench_air w f x y else []) ++ trace_of bench_air (replay bench_air w (if a then turn_events bench_air w f x y else [])) ks)
        → (if b then turn_events bench_air v f x y else []) ++ trace_of bench_air (replay bench_air v (if b then turn_events bench_air v f x y else [])) ks
        ≡ (if a then turn_events bench_air w f x y else []) ++ trace_of bench_air (replay bench_air w (if a then turn_events bench_air w f x y else [])) ks
    asked true b e more begun = absurd begun
    asked false true e more begun = absurd cc
    asked false false e more begun = more begun

module _ (w v : WholeWorld) (same : SameWorld w v) where
  pub same_turns : (es : List Event) → FromReset es → AreTurns bench_air w es → AreTurns bench_air v es
  same_turns es start turns = record { moves = turns.moves; made = turns.made ∙ sym (same_trace w v same turns.moves (subst FromReset turns.made start)) }

  -- ... and the worlds behind them are one, if there are any.
  pub same_behind : (es : List Event) → FromReset es → (es ≡ [] → ⊥) → replay bench_air w es ≡ replay bench_air v es
  same_behind [] start some = absurd (some refl)
  same_behind (Reset ∷ es) start some = ap (λ x. replay bench_air x es) (same_reset w v same)
  same_behind (Request f x ∷ es) start some = absurd start
  same_behind (Answer f x ∷ es) start some = absurd start
  same_behind (Clash f x ∷ es) start some = absurd start

  pub behind : (es : List Event) → FromReset es → SameWorld (replay bench_air w es) (replay bench_air v es)
  behind [] start = same
  behind (Reset ∷ es) start =
      subst (λ x. SameWorld (replay bench_air (far_reset devices device_linked peer_ends w) es) (replay bench_air x es)) (same_reset w v same)
      (itself (replay bench_air (far_reset devices device_linked peer_ends w) es))
  behind (Request f x ∷ es) start = absurd start
  behind (Answer f x ∷ es) start = absurd start
  behind (Clash f x ∷ es) start = absurd start

-- A store has the same images in both fields.
pub same_held : (o p : Option Device) → option_map device_darkened o ≡ option_map device_darkened p → held_by o ≡ held_by p
same_held None None same = refl
same_held None (Some e) same = absurd cc
same_held (Some d) None same = absurd cc
same_held (Some d) (Some e) same = let one : SameDevice d e = cc in ap (λ (k : Kept). k.store) (same_kept d e one)

pub same_images : (id : List ℕ) (w v : WholeWorld) → SameWorld w v → (es : List Event) → FromReset es → images_of id w.field es ≡ images_of id v.field es
same_images id w v same es start = by_events es start
  where
    first : held_by (device_with id w.field.listeners) ≡ held_by (device_with id v.field.listeners)
    first =
        same_held (device_with id w.field.listeners) (device_with id v.field.listeners) (same_with w.field.listeners v.field.listeners same.listeners id)

    by_events : (fs : List Event) → FromReset fs → images_of id w.field fs ≡ images_of id v.field fs
    by_events [] begun = ap (λ x. x ∷ []) first
    by_events (Reset ∷ fs) begun =
        ap (λ x. x ∷ images_of id (reset_by devices w.field) fs) first
        ∙ ap (λ (x : WholeWorld). held_by (device_with id v.field.listeners) ∷ images_of id x.field fs) (same_reset w v same)
    by_events (Request f x ∷ fs) begun = absurd begun
    by_events (Answer f x ∷ fs) begun = absurd begun
    by_events (Clash f x ∷ fs) begun = absurd begun
