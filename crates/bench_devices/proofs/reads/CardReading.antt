-- What a read of a Type 4 tag does.
use Rattle.std.proofs.Common.{◌≡◌, ℕ, List, [], ◌∷◌, refl, sym, ◌∙◌, ap, subst}
use Rattle.std.specs.Prelude.{Result, Err}
use Rattle.std.specs.Result.{IfErr, OnErr}
use Rattle.nfc_base.specs.declared.tag_link.AskFault.{AskFault}
use Rattle.nfc_base.specs.declared.tag_link.AskFault.TheVariants as asking
use Rattle.nfc_base.specs.Signal.{Signal}
use Rattle.air_core.specs.Turn.{Air, moment}
use Rattle.air_core.specs.Waits as waits
use Rattle.air_core.specs.Waits.{waits_next}
use Rattle.isodep_link.specs.Activating.{rats, AsksRats, HasFreshTag, RatsEnds, Activates, IsActivatedLink}
use Rattle.isodep_link.specs.IsoLinks.{seen_link}
use Rattle.isodep_link.specs.declared.link.IsoLink.{IsoLink}
use Rattle.tag_reader.specs.declared.fault.ReadFault.{ReadFault}
use Rattle.tag_reader.specs.declared.fault.ReadFault.TheVariants as faults
use Rattle.tag_reader.specs.declared.found.Found.{Found}
use Rattle.tag_reader.specs.declared.how.How.TheVariants as hows
use Rattle.tag_reader.specs.Steps.{of_link}
use Rattle.tag_reader.specs.Asked.{IsAsked}
use Rattle.tag_reader.proofs.FileAsked.{file_asked}
use Rattle.bench_devices.specs.declared.device.Device.{Device}
use Rattle.bench_devices.specs.Device.{devices, device_store, device_card, device_tag, how_of, size_of}
use Rattle.bench_devices.specs.private.Linking.{ReadsOn, ReadsLinked, ReadsSomeOn, CutLinked}
use Rattle.bench_devices.specs.Keeping.{ghosts, NoStore}
use Rattle.bench_devices.specs.Phases.{Stands, FailsRead, Reads, ReadsAt, ReadsSome, CutAt}
use Rattle.bench_devices.specs.Reading.{AsksOf, ShowsOf}
use Rattle.bench_devices.proofs.reads.ReadingTags.{stands_one}
use Rattle.bench_devices.proofs.selected.CardParts.{as_told, as_cut, linked_asks, linked_cut, unanswered_asks, rats_cut, made, link_is, refused}

-- what is asked of it
some_read : (d : Device) → how_of d ≡ hows.T4 → (xs : List Signal) × AsksOf d xs
some_read d four =
    let whole = file_asked (size_of d) (device_store d) in
    (whole.0, subst (λ h. IsAsked h (size_of d) (device_store d) whole.0) (sym four) whole.1)

abbrev tell : AskFault → Result Found ReadFault
tell fault = Err (of_link fault)

-- The link that was given to the tag, and what was asked over it, or why none was given.
module _ (old : Air Device) (place : ℕ) (one : (e : Device) × Stands (moment old) place e × (how_of e ≡ hows.T4)) where
  -- what a read of the tag that stands there did, a read of any that stands there did
  of_any : (new : Air Device) (r : Result Found ReadFault) → Reads (moment old) (moment new) one.0 r → (e : Device) → Stands (moment old) place e → Reads (moment old) (moment new) e r
  of_any new r reads e stands = subst (λ x. Reads (moment old) (moment new) x r) (sym (stands_one old place one.0 one.1 e stands)) reads

  cut_any : (new : Air Device) → ReadsSome (moment old) (moment new) one.0 → (e : Device) → Stands (moment old) place e → ReadsSome (moment old) (moment new) e
  cut_any new reads e stands = subst (λ x. ReadsSome (moment old) (moment new) x) (sym (stands_one old place one.0 one.1 e stands)) reads

  all_read : (xs : List Signal) × AsksOf one.0 xs
  all_read = some_read one.0 one.2

  module _ (l : IsoLink Device) (there : l.place ≡ place) (given : HasFreshTag ghosts device_card device_tag old place → IsActivatedLink ghosts device_card device_tag old (seen_link l)) where
    by_link : IsActivatedLink ghosts device_card device_tag old (seen_link l)
    by_link = made old place one l there given

    linked_ends : (new : Air Device) (r : Result Found ReadFault) → ReadsOn (moment l.field.now) (moment new) one.0 l.reader r → Reads (moment old) (moment new) one.0 r
    linked_ends new r on =
        as_told NoStore (AsksOf one.0) (ShowsOf one.0) FailsRead (moment old) (moment new) one.0 r one.2
        (linked_asks NoStore (AsksOf one.0) (ShowsOf one.0) FailsRead all_read old l.field.now place one.0 one.1 one.2 tt new by_link.code by_link.sent by_link.tells r
        (subst (λ i. ReadsOn (moment l.field.now) (moment new) one.0 i r) by_link.reader on))

    cut_ends : (new : Air Device) → ReadsSomeOn (moment l.field.now) (moment new) one.0 l.reader → ReadsSome (moment old) (moment new) one.0
    cut_ends new on =
        as_cut NoStore (AsksOf one.0) (ShowsOf one.0) FailsRead (moment old) (moment new) one.0 one.2
        (linked_cut NoStore (AsksOf one.0) (ShowsOf one.0) FailsRead all_read old l.field.now place one.0 one.1 one.2 tt new by_link.code by_link.sent by_link.tells
        (subst (λ i. ReadsSomeOn (moment l.field.now) (moment new) one.0 i) by_link.reader on))

    -- the field is given back as the link left it
    pub ends_linked : (left new : Air Device) → left ≡ new → (r : Result Found ReadFault) → ReadsLinked l.field.now l.place l.reader (moment left) r → ReadsAt (moment old) (moment new) place r
    ends_linked left new back r told fed =
        of_any new r (subst (λ a. Reads (moment old) (moment a) one.0 r) back (linked_ends left r (told fed one.0 (link_is old place one l there given))))

    pub ends_cut : (left new : Air Device) → left ≡ new → (r : Result Found ReadFault) → CutLinked l.field.now l.place l.reader (moment left) r → CutAt (moment old) (moment new) place r
    ends_cut left new back r cut starved =
        cut_any new (subst (λ a. ReadsSome (moment old) (moment a) one.0) back (cut_ends left (cut starved one.0 (link_is old place one l there given))))

  -- No link was given.
  module _ {R : Type 0} (new : Air Device) (given : Result R AskFault) (fault : AskFault) (failed : given ≡ Err fault)
      (rests : OnErr given (IfErr given (λ e. AsksRats devices old new (Err e) × Activates ghosts device_card device_tag old new place (Err e)))) where
    pub ends_unanswered : (e : ReadFault) → e ≡ of_link fault → ReadsAt (moment old) (moment new) place (Err e)
    ends_unanswered e is fed =
        let starved : fault ≡ asking.Memory → ⊥ = λ m. fed (ap Err (is ∙ ap of_link m)) in
        let reads : Reads (moment old) (moment new) one.0 (Err (of_link fault)) =
        as_told NoStore (AsksOf one.0) (ShowsOf one.0) FailsRead (moment old) (moment new) one.0 (Err (of_link fault)) one.2
        (unanswered_asks NoStore (AsksOf one.0) (ShowsOf one.0) FailsRead all_read old new place one.0 one.1 one.2 tt tell refl (λ k. cc) refl (λ k. cc) fault starved
        (refused old place one new given fault failed rests)) in
        of_any new (Err e) (subst (λ x. Reads (moment old) (moment new) one.0 (Err x)) (sym is) reads)

    starved_of : (e : AskFault) → of_link e ≡ faults.Memory → e ≡ asking.Memory
    starved_of asking.FieldLost m = absurd cc
    starved_of asking.SixBad m = absurd cc
    starved_of asking.Memory m = refl
    starved_of asking.Protocol m = absurd cc

    pub cut_unanswered : (e : ReadFault) → e ≡ of_link fault → CutAt (moment old) (moment new) place (Err e)
    cut_unanswered e is starved =
        let want : fault ≡ asking.Memory = starved_of fault (sym is ∙ (let same : e ≡ faults.Memory = cc in same)) in
        let ends : RatsEnds ghosts device_card device_tag old new place (Err asking.Memory) =
        subst (λ f. RatsEnds ghosts device_card device_tag old new place (Err f)) want (refused old place one new given fault failed rests) in
        cut_any new (as_cut NoStore (AsksOf one.0) (ShowsOf one.0) FailsRead (moment old) (moment new) one.0 one.2
        (rats_cut NoStore (AsksOf one.0) (ShowsOf one.0) FailsRead all_read old new place one.0 one.1 one.2 tt (waits.Asking ends.0 (rats ∷ [])) ends.1 ends.0 refl))
