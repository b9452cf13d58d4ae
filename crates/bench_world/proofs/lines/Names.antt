-- The name of a service is a text.
use Rattle.std.proofs.Common.{arith, ◌≡◌, ℕ, List, ◌<◌}
use Rattle.std.specs.Prelude.{true}
use Rattle.std.specs.Char.{is_ascii_graphic}
use Rattle.std.specs.Str.{IsUtf8}
use Rattle.std.proofs.lemmas.Bool.Decides.{nat_tests}
use Rattle.std.proofs.lemmas.List.Elements.{All-weaker}
use Rattle.std.proofs.lemmas.List.Sums.{AllPass-from_list_all}
use Rattle.std.proofs.lemmas.Str.{IsUtf8-from_ascii}
use Rattle.std.proofs.lemmas.Str.Ascii.{IsAscii-from_all}
use Rattle.bench_script.specs.Script.{SpellsName}

pub name_utf8 : (name : List ℕ) → SpellsName name name → IsUtf8 name
name_utf8 name spelled =
    IsUtf8-from_ascii name (IsAscii-from_all name (All-weaker (λ b. is_ascii_graphic b ≡ true) (λ b. b < 128) (λ b visible. grind (arith, nat_tests)) name
    (AllPass-from_list_all is_ascii_graphic name spelled.graphic)))
