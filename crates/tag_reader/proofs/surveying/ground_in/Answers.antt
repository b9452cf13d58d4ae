use Rattle.std.proofs.Common.{◌≡◌, ◌*◌, ◌≤◌, [], length, refl, sym, subst}
use Rattle.tlv_area.specs.declared.walk.Walk.TheVariants as walk
use Rattle.tlv_area.specs.Layout.{IsArea}
use Rattle.tlv_area.specs.Map.{IsPlacedIn}
use Rattle.tlv_area.specs.Writing.{HasBlocks}
use Rattle.tag_reader.specs.Survey.{IsPlacedArea}
use Rattle.tag_reader.specs.private.SurveySteps.{IsSettledOver}
use Rattle.tag_reader.proofs.surveying.ground_in.Goals as goal

pub returns-in-Held-clause-ground : goal.returns-in-Held-clause-ground
returns-in-Held-clause-ground c = (
  c.new.ensures,
  refl,
  subst (λ xs. IsSettledOver c.args.space xs (walk.Held c.in-Held.map)) c.as_slice.ensures.value
      (record { front = λ more. c.in-Held.ensures.front more tt; form = λ more. c.in-Held.ensures.settled more tt; places = c.in-Held.ensures.places }),
)

pub returns-in-NoMessageTlv-clause-ground : goal.returns-in-NoMessageTlv-clause-ground
returns-in-NoMessageTlv-clause-ground c =
    subst (λ xs. IsSettledOver c.args.space xs walk.NoMessageTlv) c.as_slice.ensures.value
    (record { front = λ more. c.in-NoMessageTlv.ensures.front more tt; form = λ more. c.in-NoMessageTlv.ensures.settled more tt; places = c.in-NoMessageTlv.ensures.places })

pub returns-in-BadTlv-clause-ground : goal.returns-in-BadTlv-clause-ground
returns-in-BadTlv-clause-ground c =
    subst (λ xs. IsSettledOver c.args.space xs walk.BadTlv) c.as_slice.ensures.value
    (record { front = λ more. c.in-BadTlv.ensures.front more tt; form = λ more. c.in-BadTlv.ensures.settled more tt; places = c.in-BadTlv.ensures.places })

pub returns-in-Held-clause-places : goal.returns-in-Held-clause-places
returns-in-Held-clause-places c =
    let same : c.in-Held.map.space ≡ c.args.space = (c.in-Held.ensures.front [] tt).0 in
    subst (λ xs. IsPlacedArea xs c.args.block c.in-Held.map) (sym c.new.ensures) (record {
      area = subst IsArea (sym same) c.requires.area;
      placed = subst (λ xs. IsPlacedIn xs c.in-Held.map) c.as_slice.ensures.value c.in-Held.ensures.places;
      whole = subst (λ s. s.end ≤ length c.args.known.items) (sym same) c.requires.whole;
      some = c.requires.some;
      end = subst (λ s. s.end ≤ 65536 * c.args.block) (sym same) c.requires.end;
      blocks = subst (λ s. HasBlocks c.args.block s c.args.known.items) (sym same) c.requires.blocks;
    })
