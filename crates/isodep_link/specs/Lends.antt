-- What a field ends as, where a link to one of its tags is asked for and not given.
use Rattle.std.specs.Prelude.{ℕ, Result, Err}
use Rattle.std.specs.Result.{IfErr}
use Rattle.std.specs.Borrow.{RestsIfErr, Fml, RattleType, MutBor}
use Rattle.nfc_base.specs.TagLinks.{TagState}
use Rattle.nfc_base.specs.declared.tag_link.AskFault.{AskFault}
use Rattle.air_core.specs.Turn.{Air}
use Rattle.air_core.specs.declared.listener.Listener.{Ghosts}
use Rattle.air_core.specs.contracts.field.Field.{the_row}
use Rattle.isodep_link.specs.Card.{CardState}
use Rattle.isodep_link.specs.Activating.{AsksRats, Activates}
use Rattle.isodep_link.specs.declared.link.IsoLink.{IsoLink}

-- where the tag at a place isn't activated, the field is as the wait of RATS left it
abbrev pub rests_if_refused : (L : RattleType) → Ghosts L.Denot → (L.Denot → CardState) → (L.Denot → TagState)
    → MutBor (Air L.Denot) → ℕ → Result (IsoLink L.Denot) AskFault → Fml
rests_if_refused L k card tag f place r = RestsIfErr (the_row L) f (λ l. l.field.ghost_name) r
    (λ n. IfErr r (λ e. AsksRats k.machine f.now n (Err e) × Activates k card tag f.now n place (Err e)))
