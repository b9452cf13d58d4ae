-- How far a walk over an area has come, and what it tells of the front of the memory that it goes over.
use Rattle.std.specs.Prelude.{◌≡◌, ◌≢◌, ℕ, ◌+◌, ◌*◌, ◌<◌, ◌≤◌, ◌↔◌, Bool, List, ◌++◌, length, take}
use Rattle.std.specs.List.{flat_map, All, AllByRecursion}
use Rattle.tlv_area.specs.declared.space.Space.{Space}
use Rattle.tlv_area.specs.declared.walk.Walk.{Walk}
use Rattle.tlv_area.specs.declared.walk.Walk.TheVariants as walk
use Rattle.tlv_area.specs.declared.walk.Walker.{Walker}
use Rattle.tlv_area.specs.Layout.{IsArea, free, reserved_by, LiesIn, Tlv, ndef_message}
use Rattle.tlv_area.specs.declared.space.AreaMap.{AreaMap}
use Rattle.tlv_area.specs.declared.ahead.Ahead.{Ahead}
use Rattle.tlv_area.specs.declared.ahead.Ahead.TheVariants as ahead
use Rattle.tlv_area.specs.declared.ahead.Found.{Found}
use Rattle.tlv_area.specs.Form.{NeedsMore, next, Item, End, Fault, Unknown}
use Rattle.tlv_area.specs.Stores.{cut}
use Rattle.tlv_area.specs.Reading.{IsFound}
use Rattle.tlv_area.specs.Map.{in_ranges, IsOrdered, IsWalk, IsSettled, TellsForm, HasPlaces}

-- The TLVs before `at`: they take each address before it that isn't reserved, and r tells which are.
pub record Trail (space : Space) (memory : List ℕ) (ts : List Tlv) (at : ℕ) (r : ℕ → Bool) : Type 0 where
  pub joined : flat_map (λ t. t.at) ts ≡ free r space.start at
  pub same : (a : ℕ) → r a ≡ reserved_by space.control ts a
  pub lie : AllByRecursion (LiesIn memory) ts
  pub plain : AllByRecursion (λ t. t.kind ≢ ndef_message) ts

-- a range lies behind a walk
abbrev pub IsPassed : ℕ → ℕ × ℕ → Type 0
IsPassed at r = (r.0 ≤ at) × (r.1 ≤ at)

-- where a walk stands after these TLVs, over a front of the memory
pub record StandsAfter (walker : Walker) (memory : List ℕ) (ts : List Tlv) : Type 0 where
  pub area : IsArea walker.space
  pub trail : Trail walker.space memory ts walker.at (in_ranges walker.reserved.items)
  pub ordered : IsOrdered walker.reserved.items
  pub low : walker.space.start ≤ walker.at
  pub high : walker.at ≤ walker.space.end
  pub place : walker.tlv ≡ length (flat_map (λ t. t.at) ts)
  pub place_low : walker.tlv + walker.space.start ≤ walker.at
  pub room : 5 * length walker.reserved.items + walker.space.start ≤ walker.at
  -- the ranges that lie behind it
  pub counted : walker.passed ≤ length walker.reserved.items
  pub passed : All (IsPassed walker.at) (take walker.passed walker.reserved.items)

-- a walk has come so far
abbrev pub HasCome : Walker → List ℕ → Type 0
HasCome walker memory = (ts : List Tlv) × StandsAfter walker memory ts

-- the TLV that was read stands next
pub record IsNext (walker : Walker) (memory : List ℕ) (found : Found) (t : Tlv) : Type 0 where
  pub next' : next memory (free (in_ranges walker.reserved.items) walker.at walker.space.end) ≡ Item t
  pub found' : IsFound (in_ranges walker.reserved.items) memory walker.at walker.space.end found t

-- what stands next is the end, a fault, a TLV that isn't known, or the message
abbrev pub StopsAt : Walker → List ℕ → Ahead → Type 0
StopsAt walker memory ahead.End = next memory (free (in_ranges walker.reserved.items) walker.at walker.space.end) ≡ End
StopsAt walker memory ahead.Fault = next memory (free (in_ranges walker.reserved.items) walker.at walker.space.end)
    ≡ Fault
StopsAt walker memory ahead.Unknown = next memory (free (in_ranges walker.reserved.items) walker.at walker.space.end)
    ≡ Unknown
StopsAt walker memory (ahead.Item found) = (t : Tlv) × IsNext walker memory found t × (found.kind ≡ ndef_message)

-- the map where it is the message
abbrev pub map_here : Walker → Found → AreaMap
map_here walker found =
    record {
      space = walker.space;
      reserved = walker.reserved;
      tlv = walker.tlv;
      long = found.long;
      length = found.length;
    }

-- what a walk over a front of the memory tells
pub record Finds (space : Space) (known : List ℕ) (result : Walk) : Type 0 where
  pub form : space.end ≤ length known → TellsForm space known result
  pub walk' : IsWalk space known result
  pub front : (more : List ℕ) → IsSettled result → IsWalk space (known ++ more) result
  pub settled : (more : List ℕ) → IsSettled result → TellsForm space (known ++ more) result
  pub more' : (result ≡ walk.More) ↔ NeedsMore space known
  pub short : (result ≡ walk.More) → length known < space.end
  pub places : HasPlaces known result
  pub cut' : space.start ≤ length known → IsSettled result → TellsForm (cut space (length known)) known result
