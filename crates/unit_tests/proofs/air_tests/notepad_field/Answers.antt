use Rattle.std.proofs.Common.{◌≡◌, [], ◌∷◌, Bool, true, if◌then◌else◌, Some, None, refl, ◌∙◌, ap, arith, slice_index}
use Rattle.std.proofs.lemmas.Grind.{common_steps}
use Rattle.nfc_base.specs.Signal.{Signal, part_a}
use Rattle.nfc_base.specs.TagLinks.{plain_state}
use Rattle.air_core.specs.PlainTags.{Takes, PassesOver}
use Rattle.unit_tests.specs.declared.air_tests.Notepad.{Notepad}
use Rattle.unit_tests.specs.contracts.air_tests.NotepadListener.TheImpl.{ghosts}
use Rattle.unit_tests.proofs.air_tests.notepad_field.Goals as goal

-- a notepad at a frame, lit or not
abbrev after : Notepad → Signal → Bool → Notepad
after m f v = if v then record { lit = m.lit; kept = slice_index f.bytes 0 } else m

takes : (m : Notepad) (f : Signal) → m.lit ≡ true → Takes ghosts m f
takes m f lit = record {
  quiet = refl;
  answer = ap (λ v. if v then Some (part_a (10 ∷ []) 4) else None) lit;
  after = ap (λ v. plain_state ((after m f v).kept ∷ [])) lit;
  again = refl;
  selected = λ g says. ap (λ v. (after m f v).lit) lit ∙ lit;
}

passes : (m : Notepad) (f : Signal) → m.lit ≡ Bool.false → PassesOver ghosts m f
passes m f dim = record {
  quiet = refl;
  silent = ap (λ v. if v then Some (part_a (10 ∷ []) 4) else None) dim;
  store = ap (λ v. (after m f v).kept ∷ []) dim;
  rests = ap (λ v. (after m f v).lit) dim ∙ dim;
}

pub returns : goal.returns
returns c =
    let l : Notepad = record { lit = true; kept = 0 } in
    let listeners : c.reset.new.self.listeners ≡ l ∷ [] = grind (arith, common_steps) in
    record {
      tag = l;
      selected = refl;
      alone = record { before = []; behind = []; split = listeners; stands = refl; first = tt; later = tt };
      named = tt;
      plain = record { holds = λ m. true; now = refl; kept = λ m f may h. refl; takes = λ m f may h lit. takes m f lit; passes = λ m f may h dim. passes m f dim };
    }
