-- Whether a device takes a message, and the writes of one that does.
use Rattle.std.proofs.Common.{◌≡◌, ℕ, ◌-◌, inl, inr, ◌⊎◌, true, false, List, [], length, refl, sym, ◌∙◌, ap, arith}
use Rattle.std.specs.Prelude.{Result, Ok, Err}
use Rattle.std.proofs.lemmas.Bool.{cases_lt, cases_Bool}
use Rattle.t4t_tag.specs.Store.{most_written}
use Rattle.tlv_area.specs.declared.container.ContainerFault.{ContainerFault}
use Rattle.tlv_area.specs.declared.container.FileMap.{FileMap}
use Rattle.tlv_area.specs.declared.space.Space.{Space}
use Rattle.tlv_area.specs.Containers.{t4_container}
use Rattle.tlv_area.specs.Tail.{message_tail}
use Rattle.tlv_area.proofs.Needing.{holding}
use Rattle.tag_reader.specs.declared.how.How.{How}
use Rattle.tag_reader.specs.declared.how.How.TheVariants.{T2, T4, T5}
use Rattle.tag_reader.specs.Files.{container_in, file_in, message_length}
use Rattle.tag_reader.specs.Kinds.{area_of}
use Rattle.tag_reader.specs.Access.{AccessBy, IsAccess}
use Rattle.tag_reader.specs.Survey.{written_area}
use Rattle.tag_writer.specs.Place.{Place, IsAreaPlace, IsPlaceBy, IsFilePlace, IsPlaceIn, HasPieces, Takes, TakesNot, tail_place, file_place}
use Rattle.tag_writer.specs.WriteAsked.{Parts, AreWrites}
use Rattle.tag_writer.proofs.SomeParts.{IsBlocks, some_parts}
use Rattle.tag_writer.proofs.OnePlace.{one_place, order_of}
use Rattle.bench_devices.proofs.writes.SurveyLists.{Decided}

-- An area has a place for a message, or none.
place_of : (space : Space) (store message : List ℕ) → Decided ((place : Place) × IsAreaPlace space store message place)
place_of space store message = elim (cases_lt space.end space.start) [
  | inl none ↦ inr (λ p. (let order = order_of space store message p.0 p.1 in omega (arith, order, none)))
  | inr order ↦ elim (holding space store order) [
    | inl h ↦ inl (
      tail_place (message_tail h.t.at h.after) message,
      record { ts = h.ts; t = h.t; after = h.after; layout = h.layout; lies = h.lies; kind = h.kind; place' = refl },
    )
    | inr none ↦ inr (λ p. (let is = p.1 in none (record { ts = is.ts; t = is.t; after = is.after; layout = is.layout; lies = is.lies; kind = is.kind })))
  ]
]

by_area : (r : Result Space ContainerFault) (store message : List ℕ) → Decided ((place : Place) × IsPlaceBy r store message place)
by_area (Err f) store message = inr (λ p. p.1)
by_area (Ok space) store message = place_of space store message

by_file : (r : Result FileMap ContainerFault) (store message : List ℕ) → t4_container (container_in store) ≡ r → Decided ((place : Place) × IsFilePlace store message place)
by_file (Err f) store message has = inr (λ p. (let clash : Ok p.1.map' ≡ Err f = sym p.1.names ∙ has in cc))
by_file (Ok map') store message has = elim (cases_lt (map'.size - 2) (message_length (file_in store))) [
  | inl long ↦ inr (λ p. (let both : Ok p.1.map' ≡ Ok map' = sym p.1.names ∙ has in let same : p.1.map' ≡ map' = cc in
      let held = p.1.held in omega (arith, held, ap (λ m. m.size) same, long)))
  | inr fits ↦ inl (file_place store message, record { map' = map'; names = has; held = fits; place' = refl })
]

place_decided : (how : How) (size : ℕ) (store message : List ℕ) → Decided ((place : Place) × IsPlaceIn how size store message place)
place_decided T2 size store message = by_area (written_area T2 size store) store message
place_decided T4 size store message = by_file (t4_container (container_in store)) store message refl
place_decided (T5 id) size store message = by_area (written_area (T5 id) size store) store message

-- writing is free, or it isn't
free_area : (r : Result Space ContainerFault) → Decided (AccessBy r true)
free_area (Err f) = inr (λ is. is)
free_area (Ok space) = elim (cases_Bool space.writable) [ inl yes' ↦ inl (sym yes') | inr no' ↦ inr (λ e. (let clash : true ≡ false = e ∙ no' in cc)) ]

free_file : (store : List ℕ) (r : Result FileMap ContainerFault) → t4_container (container_in store) ≡ r
    → Decided ((map' : FileMap) × (t4_container (container_in store) ≡ Ok map') × (true ≡ map'.writable))
free_file store (Err f) has = inr (λ p. (let clash : Ok p.0 ≡ Err f = sym p.1 ∙ has in cc))
free_file store (Ok map') has = elim (cases_Bool map'.writable) [
  | inl yes' ↦ inl (map', has, sym yes')
  | inr no' ↦ inr (λ p. (let both : Ok p.0 ≡ Ok map' = sym p.1 ∙ has in let same : p.0 ≡ map' = cc in let clash : true ≡ false = p.2 ∙ ap (λ m. m.writable) same ∙ no' in cc))
]

access_decided : (how : How) (size : ℕ) (store : List ℕ) → Decided (IsAccess how size store true)
access_decided T2 size store = free_area (area_of T2 size store)
access_decided T4 size store = free_file store (t4_container (container_in store)) refl
access_decided (T5 id) size store = free_area (area_of (T5 id) size store)

pieces_decided : (how : How) (store : List ℕ) → Decided (HasPieces how store)
pieces_decided T2 store = inl tt
pieces_decided T4 store = elim (cases_lt (most_written (container_in store)) 2) [ inl few ↦ inr (λ is. omega (arith, is, few)) | inr some ↦ inl (omega (arith, some)) ]
pieces_decided (T5 id) store = inl tt

-- The store takes the message, or it doesn't.
pub takes_decided : (how : How) (size : ℕ) (store message : List ℕ) → ((place : Place) × Takes how size store message place) ⊎ TakesNot how size store message
takes_decided how size store message = elim (place_decided how size store message) [
  | inr none ↦ inr (λ p takes. none (p, takes.holds))
  | inl there ↦ elim (access_decided how size store) [
    | inr closed ↦ inr (λ p takes. closed takes.free)
    | inl free' ↦ elim (pieces_decided how store) [
      | inr short ↦ inr (λ p takes. short takes.pieces)
      | inl pieces ↦ elim (cases_lt there.0.room (length message)) [
        | inl long ↦ inr (λ p takes. (let room = ap (λ x. x.room) (one_place how size store message p there.0 takes.holds there.1) in let fits = takes.fits in omega (arith, fits, room, long)))
        | inr fits ↦ inl (there.0, record { holds = there.1; free = free'; fits = omega (arith, fits); pieces = pieces })
      ]
    ]
  ]
]

pub some_writes : (how : How) (size : ℕ) (store message : List ℕ) → IsBlocks how size store → (p : Parts) × AreWrites how size store message p
some_writes how size store message is = by_takes (takes_decided how size store message)
  where
    by_takes : ((place : Place) × Takes how size store message place) ⊎ TakesNot how size store message → (p : Parts) × AreWrites how size store message p
    by_takes (inl t) =
        let parts = some_parts how size store message is t.0 t.1 in
        (parts.0, record { takes = λ place takes. parts.1; none = λ untaken. absurd (untaken t.0 t.1) })
    by_takes (inr n) = (record { close = []; fill = []; last = [] }, record { takes = λ place takes. absurd (n place takes); none = λ untaken. refl })
