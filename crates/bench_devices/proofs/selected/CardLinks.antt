-- The link to a Type 4 tag that was activated, as it is made.
use Rattle.std.proofs.Common.{◌≡◌, ℕ, zero, suc, List, [], ◌∷◌, ◌++◌, length, take, drop, true, refl, sym, ◌∙◌, ap, subst, arith}
use Rattle.std.proofs.lemmas.List.{take_all}
use Rattle.std.proofs.Math.Seq.{drop-append_seam}
use Rattle.nfc_base.specs.declared.event.Event.{Event}
use Rattle.nfc_base.specs.Signal.{Signal, whole_a}
use Rattle.nfc_base.specs.LinkTurns.{arrived}
use Rattle.nfc_base.specs.TagLinks.{Type4, LinkView, plain_state}
use Rattle.air_core.specs.Conversation.{Note, Lit, Got, Lost, Asks}
use Rattle.air_core.specs.PlainLinks.{at_place, unanswered}
use Rattle.air_core.proofs.PlainStores.{place_is}
use Rattle.nfca_poll.specs.Fronted.{Fronted}
use Rattle.t4t_tag.specs.Store.{T4State, IsT4Store, IsT4State}
use Rattle.isodep_link.specs.Reader.{ReaderState, ReaderDoes, block_next, reception, framed_next}
use Rattle.isodep_link.specs.Reader as reader
use Rattle.isodep_link.specs.Asking.{IsoStanding, Waits, Rests, Broken, Astray, asks, goes_by, noted, stand, due_at, HasCardTag}
use Rattle.isodep_link.specs.IsoLinks.{IsoSeen, commands_of, obeyed_in, since, iso_view, IsIsoReady, IsoMoves}
use Rattle.tag_reader.specs.declared.how.How.TheVariants as hows
use Rattle.tag_reader.specs.Kinds.{IsTag}
use Rattle.tag_reader.proofs.Cards.{t4_tag}
use Rattle.bench_devices.specs.Cards.{T4Near}
use Rattle.bench_devices.specs.declared.device.Device.{Device}
use Rattle.bench_devices.specs.declared.device.Device.TheVariants.{T2, T4, Peer, T5, T3}
use Rattle.bench_devices.specs.Device.{device_id, device_store, device_commands, device_card, device_tag, how_of, size_of, may_be_read}
use Rattle.bench_devices.specs.laws.Standing.{tag_holds}
use Rattle.bench_devices.specs.private.Linking.{Linked, IsNewLink}
use Rattle.bench_devices.specs.Keeping.{Kept, kept, IsSound, ghosts}
use Rattle.tag_reader.specs.Files.{t4_link_step}
use Rattle.bench_devices.proofs.selected.PlainEnds.{none_behind}

-- Each frame that is due while commands are asked is a whole one of NFC-A.
abbrev pub IsWholeAt : IsoStanding → Type 0
IsWholeAt (Waits i f cs) = f ≡ whole_a f.bytes
IsWholeAt (Rests i) = Unit {0}
IsWholeAt (Broken e) = Unit {0}
IsWholeAt Astray = Unit {0}

pub asks_whole : (i : ReaderState) (cs : List (List ℕ)) → IsWholeAt (asks i cs)
asks_whole i [] = tt
asks_whole i (c ∷ cs) = refl

goes_whole : (i : ReaderState) (does : ReaderDoes) (cs : List (List ℕ)) → IsWholeAt (goes_by i (framed_next does) cs)
goes_whole i (reader.Asks b) cs = refl
goes_whole i (reader.Gives xs) cs = asks_whole i cs
goes_whole i reader.GivesUp cs = tt
goes_whole i reader.Refuses cs = tt

noted_whole : (s : IsoStanding) (n : Note) → IsWholeAt (noted s n)
noted_whole (Waits i f cs) Lit = tt
noted_whole (Waits i f cs) Lost = tt
noted_whole (Waits i f cs) (Got h) = goes_whole (block_next i (reception h)).state (block_next i (reception h)).does cs
noted_whole (Rests i) n = tt
noted_whole (Broken e) n = tt
noted_whole Astray n = tt

pub stand_whole : (s : IsoStanding) (ns : List Note) → IsWholeAt s → IsWholeAt (stand s ns)
stand_whole s [] whole = whole
stand_whole s (n ∷ ns) whole = stand_whole (noted s n) ns (noted_whole s n)

pub due_whole : (s : IsoStanding) (f : Signal) → IsWholeAt s → due_at s ≡ Asks f → f ≡ whole_a f.bytes
due_whole (Waits i g cs) f whole e = (let same : g ≡ f = cc in subst (λ h. h ≡ whole_a h.bytes) same whole)
due_whole (Rests i) f whole e = absurd cc
due_whole (Broken x) f whole e = absurd cc
due_whole Astray f whole e = absurd cc

-- a Type 4 tag that may be placed is one of a sound state
pub sound_tag : (y : Fronted T4Near) → IsSound (kept (T4 y)) → IsT4State y.upper.tag
sound_tag y is =
    let t : T4State = y.upper.tag in
    let same : is.1 ≡ t.file = sym (drop-append_seam t.container is.1) ∙ ap (drop (length t.container)) (sym is.2) ∙ drop-append_seam t.container t.file in
    subst (IsT4Store t.code t.container) same is.3

-- a view that shows such a tag
shows_four : (v : LinkView) (y : Device) → how_of y ≡ hows.T4 → IsSound (kept y) → v.kind ≡ Type4 → v.state ≡ device_tag y → v.step ≡ device_commands y
    → (size : ℕ) × IsTag hows.T4 size v
shows_four v (T2 y) how is kind state step = absurd cc
shows_four v (T4 y) how is kind state step = t4_tag v y.upper.tag kind (sound_tag y is) state step
shows_four v (Peer y) how is kind state step = absurd cc
shows_four v (T5 p) how is kind state step = absurd cc
shows_four v (T3 p) how is kind state step = absurd cc

-- how many bytes a READ asks for says nothing of it
resized : (size more : ℕ) (v : LinkView) → IsTag hows.T4 size v → IsTag hows.T4 more v
resized size more v is = record { kind = is.kind; named = is.named; store = is.store; steps = is.steps }

-- the store of a device at a place is what a view of it shows
pub held_there : (ds : List Device) (n : ℕ) → at_place device_store [] ds n ≡ (at_place device_tag (plain_state []) ds n).store
held_there [] n = refl
held_there (d ∷ ds) zero = sym (tag_holds d)
held_there (d ∷ ds) (suc n) = held_there ds n

-- what a Type 4 tag does with commands is told by what is fixed of it
-- a Type 4 tag is a tag
pub four_tag : (d : Device) → how_of d ≡ hows.T4 → may_be_read d ≡ true
four_tag (T2 d) four = refl
four_tag (T4 d) four = refl
four_tag (Peer d) four = absurd cc
four_tag (T5 p) four = refl
four_tag (T3 p) four = absurd cc

four_commands : (x d : Device) → how_of d ≡ hows.T4 → kept x ≡ kept d → device_commands x ≡ device_commands d
four_commands (T2 x) d four same = absurd (let e : hows.T2 ≡ hows.T4 = ap (λ (k : Kept). k.fixed.how) same ∙ four in cc)
four_commands (T4 x) (T2 d) four same = absurd cc
four_commands (T4 x) (T4 d) four same = ap t4_link_step (ap (λ (k : Kept). k.fixed.code) same)
four_commands (T4 x) (Peer d) four same = absurd cc
four_commands (T4 x) (T5 d) four same = absurd cc
four_commands (T4 x) (T3 d) four same = absurd cc
four_commands (Peer x) d four same = absurd (let e : hows.T2 ≡ hows.T4 = ap (λ (k : Kept). k.fixed.how) same ∙ four in cc)
four_commands (T3 x) d four same = absurd (let e : hows.T2 ≡ hows.T4 = ap (λ (k : Kept). k.fixed.how) same ∙ four in cc)
four_commands (T5 x) d four same = absurd (let e : hows.T5 x.tag.id ≡ hows.T4 = ap (λ (k : Kept). k.fixed.how) same ∙ four in cc)

module _ (p : IsoSeen Device) (is : IsNewLink p) (d : Device) (l : Linked d p.air p.place p.reader) where
  abbrev pub x : Device
  x = l.activated.has.listener

  abbrev pub from : LinkView
  from = iso_view ghosts device_card device_tag p

  seen : {B : Type 0} (f : Device → B) (o : B) → at_place f o p.air.listeners p.place ≡ f x
  seen f o = place_is ghosts f o (device_id x) p.air.listeners p.place x l.activated.has.alone

  pub none_since : since ghosts device_card device_tag p ≡ []
  none_since = ap (λ n. drop n p.air.trace) is.start ∙ none_behind p.air.trace

  pub from_state : from.state ≡ device_tag x
  from_state = seen device_tag (plain_state [])

  pub from_store : from.state.store ≡ device_store x
  from_store = ap (λ s. s.store) from_state ∙ tag_holds x

  pub store_here : from.state.store ≡ device_store d
  store_here = from_store ∙ ap (λ k. k.store) l.same

  pub none_before : from.answered ≡ []
  none_before =
      ap (λ n. obeyed_in (drop p.start (take n p.air.trace))) is.told ∙ ap (λ es. obeyed_in (drop p.start es)) (take_all (length p.air.trace) p.air.trace (omega arith))
      ∙ ap obeyed_in none_since

  -- the link is ready
  abbrev HasTagSince : List Event → Type 0
  HasTagSince es = HasCardTag ghosts device_card device_tag p.air p.place p.reader (commands_of es) (arrived es)

  pub new_ready : IsIsoReady ghosts device_card device_tag p
  new_ready = record { start = omega (arith, is.start); told = is.told; has = subst HasTagSince (sym none_since) l.activated.has }

  pub new_tag : IsTag hows.T4 (size_of d) from
  new_tag =
      let tag = shows_four from x (ap (λ k. k.fixed.how) l.same ∙ l.card) (subst IsSound (sym l.same) l.sound) refl from_state (seen device_commands _) in
      resized tag.0 (size_of d) from tag.1

  -- what is fixed of a Type 4 tag tells its step
  same_step : device_commands x ≡ device_commands d
  same_step = four_commands x d l.card l.same

  pub from_step : from.step ≡ device_commands d
  from_step = seen device_commands _ ∙ same_step

  pub from_plain : from.state ≡ plain_state (device_store d)
  from_plain = from_state ∙ l.activated.plain ∙ ap plain_state (ap (λ k. k.store) l.same)

  -- what was asked, by the link
  module _ (q : IsoSeen Device) (m : IsoMoves ghosts device_card device_tag p q) where
    pub asked_told : (iso_view ghosts device_card device_tag q).answered ++ unanswered q.over q.last ≡ m.asks.asked
    asked_told = m.asks.told is.over ∙ ap (λ xs. xs ++ m.asks.asked) none_before
