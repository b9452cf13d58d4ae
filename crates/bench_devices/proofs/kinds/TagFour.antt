-- A Type 4 tag of the bench that is selected and has no link takes RATS, and is then a tag that does what the card's table says.
use Rattle.std.proofs.Common.{◌≡◌, None, ℕ, zero, suc, ◌≤◌, List, ◌++◌, Bool, true, false, not, ◌&&◌, Some, refl, sym, ◌∙◌, ap, subst}
use Rattle.std.proofs.lemmas.List.{append_cancel_left}
use Rattle.nfc_base.specs.TagLinks.{plain_state}
use Rattle.air_core.specs.PlainTags.{heard_times}
use Rattle.nfca_poll.specs.Front.{Front, Off, Idle, Sleep, Ready, Active, is_active}
use Rattle.nfca_poll.specs.Fronted.{Fronted}
use Rattle.t4t_tag.specs.declared.current.CurrentFile.{CurrentFile}
use Rattle.t4t_tag.specs.declared.current.CurrentFile.TheVariants.{NoFile, Container, Ndef}
use Rattle.t4t_tag.specs.Store.{T4State, IsT4Store, IsT4State, store_of}
use Rattle.tag_reader.specs.Files.{shown_file}
use Rattle.isodep_link.specs.Sizes.{most_code, ats_frame}
use Rattle.isodep_link.specs.Card.{CardState, activated, darkened}
use Rattle.isodep_link.specs.Exchange.{IsMade}
use Rattle.isodep_link.specs.CardTags.{IsCardTag}
use Rattle.isodep_link.specs.Activating.{reader_code, rats, TakesRats}
use Rattle.bench_devices.specs.Cards.{T4Near}
use Rattle.bench_devices.specs.declared.device.Device.{Device}
use Rattle.bench_devices.specs.declared.device.Device.TheVariants.{T4}
use Rattle.nfc_base.specs.Far.{Untouched}
use Rattle.bench_devices.specs.Device.{device_handed, device_answer, device_after, device_selected, device_card, device_tag, is_no_file, is_unlinked}
use Rattle.bench_devices.specs.Keeping.{kept, IsSound, ghosts}
use Rattle.isodep_link.proofs.Heeding.{no_bytes}
use Rattle.bench_devices.proofs.kinds.TagFourSteps.{linked_device, IsLinked, card_tag}

-- a selected device with this tag and card's end, and what RATS makes of it
abbrev unlinked_device : List ℕ → Bool → T4State → CardState → Device
unlinked_device id starred tag t = T4 (record { id = id; front = Active starred; upper = record { tag = tag; card = t; linked = false } })

abbrev first_card : CardState → CardState
first_card t = (activated (darkened t) reader_code).state

abbrev first_device : List ℕ → Bool → T4State → CardState → Device
first_device id starred tag t = linked_device id starred tag (first_card t)

-- a sound device has a tag that can be
pub sound_tag : (tag : T4State) (file : List ℕ) → store_of tag ≡ tag.container ++ file → IsT4Store tag.code tag.container file → IsT4State tag
sound_tag tag file e is = subst (λ xs. IsT4Store tag.code tag.container xs) (sym (append_cancel_left tag.container tag.file file e)) is

-- nothing is selected of it
shown_plain : (store : List ℕ) (selected : Bool) (current : CurrentFile) → (not selected && is_no_file current) ≡ true
    → record { store = store; selected = selected; file = shown_file current } ≡ plain_state store
shown_plain store true current e = cc
shown_plain store false NoFile e = refl
shown_plain store false Container e = cc
shown_plain store false Ndef e = cc

module _ (id : List ℕ) (starred : Bool) (tag : T4State) (t : CardState) where
  -- however often RATS is heard, it leaves the same
  rats_again : (n : ℕ) → heard_times ghosts (unlinked_device id starred tag t) rats (suc n) ≡ first_device id starred tag t
  rats_again zero = refl
  rats_again (suc n) = ap (λ m. device_after m rats None) (rats_again n)

  -- and each time it is answered by ATS
  rats_answered : (n : ℕ) → device_answer (heard_times ghosts (unlinked_device id starred tag t) rats n) rats None ≡ Some (ats_frame t.code)
  rats_answered zero = refl
  rats_answered (suc n) = ap (λ m. device_answer m rats None) (rats_again n)

  -- and hands nothing over
  rats_quiet : (n : ℕ) → device_handed (heard_times ghosts (unlinked_device id starred tag t) rats n) rats ≡ Untouched
  rats_quiet zero = refl
  rats_quiet (suc n) = ap (λ m. device_handed m rats) (rats_again n)

  -- then the tag is linked
  first_linked : IsT4State tag → t.code ≡ tag.code → IsLinked tag.code (first_device id starred tag t)
  first_linked is own = record {
    id = id;
    starred = starred;
    tag = tag;
    card = first_card t;
    is = refl;
    sound = is;
    coded = refl;
    own = own;
    chain = no_bytes;
  }

  -- a selected device without a link takes RATS
  takes_first : IsT4State tag → t.code ≡ tag.code → IsMade (darkened t) → (not tag.selected && is_no_file tag.current) ≡ true
      → TakesRats ghosts device_card device_tag (unlinked_device id starred tag t)
  takes_first is own made plain = record {
    tech = refl;
    made = darkened t;
    is_made = made;
    small = subst (λ c. c ≤ most_code) (sym own) is.coded;
    steps = λ n. record {
      quiet = rats_quiet n;
      answer = rats_answered n;
      selected = ap device_selected (rats_again n);
      is = subst (IsCardTag ghosts device_card device_tag) (sym (rats_again n)) (card_tag tag.code (first_device id starred tag t) (first_linked is own));
      card_is = ap device_card (rats_again n);
      tag_is = ap device_tag (rats_again n) ∙ shown_plain (store_of tag) tag.selected tag.current plain;
    };
  }

-- and no other is selected, and has no link
takes_at : (id : List ℕ) (front : Front) (tag : T4State) (t : CardState) (linked : Bool) → IsT4State tag → t.code ≡ tag.code → IsMade (darkened t) → is_active front ≡ true
    → (not linked && not tag.selected && is_no_file tag.current) ≡ true
    → TakesRats ghosts device_card device_tag (T4 (record { id = id; front = front; upper = record { tag = tag; card = t; linked = linked } }))
takes_at id Off tag t linked is own made a e = absurd cc
takes_at id Idle tag t linked is own made a e = absurd cc
takes_at id Sleep tag t linked is own made a e = absurd cc
takes_at id (Ready k starred) tag t linked is own made a e = absurd cc
takes_at id (Active starred) tag t false is own made a e = takes_first id starred tag t is own made e
takes_at id (Active starred) tag t true is own made a e = absurd cc

-- A selected Type 4 tag of which nothing was asked takes RATS.
pub takes_rats : (d : Fronted T4Near) → IsSound (kept (T4 d)) → is_active d.front ≡ true → is_unlinked d.upper ≡ true → TakesRats ghosts device_card device_tag (T4 d)
takes_rats d sound a e =
    let u : T4Near = d.upper in
    takes_at d.id d.front u.tag u.card u.linked (sound_tag u.tag sound.1 sound.2 sound.3) sound.4 sound.5 a e
