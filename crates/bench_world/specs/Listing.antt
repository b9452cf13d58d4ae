-- What an answer lists, as the text of the items that are left.
use Rattle.std.specs.Prelude.{◌≡◌, ℕ, ◌<◌, Option, Some, None, List, [], ◌++◌, length}
use Rattle.std.specs.List.{flat_map}
use Rattle.std.specs.Borrow.{Bor}
use Rattle.arrayvec.specs.ArrayVec.{ArrayVec}
use Rattle.hex.specs.Hex.{encode_upper}
use Rattle.bench_world.specs.declared.listed.Listed.{Listed}
use Rattle.bench_world.specs.declared.listed.Listed.TheVariants as listed
use Rattle.bench_world.specs.Report.{seen_text, received_text, tag_text, reply_text, heard_text, slot_done_text}

abbrev pub listed_text : Listed → List ℕ
listed_text listed.Nothing = []
listed_text (listed.Devices all) = flat_map seen_text all.now
listed_text (listed.Messages all) = flat_map received_text all.now
listed_text (listed.Tags all) = flat_map tag_text all.now
listed_text (listed.Replies all) = flat_map reply_text all.now
listed_text (listed.Heard all) = flat_map heard_text all.now
listed_text (listed.Puts all) = flat_map slot_done_text all.now

-- an item's piece with the bytes whose digits stand behind it, unless none is left
abbrev pub GivesItem : List ℕ → Option (ArrayVec ℕ × Bor (List ℕ)) → List ℕ → Type 0
GivesItem left None left' = (left ≡ []) × (left' ≡ [])
GivesItem left (Some x) left' = (left ≡ x.0.items ++ (encode_upper x.1.now ++ left')) × (0 < length x.0.items)
