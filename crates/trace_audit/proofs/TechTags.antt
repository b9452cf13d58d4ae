-- What is due while a tag is read or written is of the technology that its identifier tells: its selection, and behind that its
-- commands as they are sent, or RATS and the blocks of ISO-DEP, which are of NFC-A. A reader sees by NFC-V nothing but Type 5 tags.
use Rattle.std.proofs.Common.{◌≡◌, ℕ, suc, nat_lt, List, [], ◌∷◌, Bool, true, false, if◌then◌else◌, Option, Some, None, Ok, Err, refl, sym, ap, subst}
use Rattle.nfc_base.specs.Signal.{Signal}
use Rattle.nfc_base.specs.declared.event.Heard.{Heard}
use Rattle.nfc_base.specs.declared.event.Heard.TheVariants.{Whole, Collided, Damaged, Silent}
use Rattle.nfc_base.specs.declared.frame.Tech.TheVariants as techs
use Rattle.nfc_base.specs.declared.tag_link.AskFault.TheVariants.{SixBad}
use Rattle.air_core.specs.Conversation.{Note, Lit, Got, Lost, Asks}
use Rattle.air_core.proofs.DueWaits.{due_all}
use Rattle.air_core.proofs.Following.{over_is_no_request, same_asked}
use Rattle.isodep_link.specs.Activating.{ats_code, rats}
use Rattle.isodep_link.specs.Asking as exchange
use Rattle.isodep_link.specs.Asking.{Waits, Rests, Broken, Astray, goes_by}
use Rattle.isodep_link.specs.IsoLinks.{bytes_of}
use Rattle.isodep_link.specs.Reader as reader
use Rattle.isodep_link.specs.Reader.{ReaderDoes, ReaderState, block_next, framed_next, reception, waiting}
use Rattle.nfca_poll.specs.Inventory.{picking_v}
use Rattle.bench_script.specs.declared.command.DeviceId.{DeviceId}
use Rattle.bench_script.specs.declared.command.DeviceId.TheVariants as ids
use Rattle.bench_script.specs.DeviceIds.{tech_for}
use Rattle.bench_devices.specs.declared.polling.SeenKind.{SeenKind}
use Rattle.bench_devices.specs.declared.polling.SeenKind.TheVariants as seen
use Rattle.bench_devices.specs.CardAsking.{CardStanding, Activates, Exchanges, bad_again, card_due, card_noted, card_stand, heard_ats, tag_next, told_code}
use Rattle.bench_devices.specs.Polling as polls
use Rattle.bench_devices.specs.Polling.{Followed, Told, asks, follows, kind_by, selecting}
use Rattle.bench_devices.specs.TagAsking.{tag_due, then_asks}
use Rattle.trace_audit.proofs.TechCommands.{AreTold}
use Rattle.trace_audit.proofs.TechPolling.{AsksOf, select_tech}
use Rattle.trace_audit.proofs.TechTurns.{IsOf}

-- What is sent to a Type 4 tag is RATS, and blocks.
abbrev SendsOfA : CardStanding → Type 0
SendsOfA (Activates bad) = Unit {0}
SendsOfA (Exchanges (Waits i f cs)) = IsOf techs.A f
SendsOfA (Exchanges (Rests i)) = Unit {0}
SendsOfA (Exchanges (Broken e)) = Unit {0}
SendsOfA (Exchanges Astray) = Unit {0}

asks_blocks : (i : ReaderState) (cs : List (List ℕ)) → SendsOfA (Exchanges (exchange.asks i cs))
asks_blocks i [] = tt
asks_blocks i (c ∷ cs) = refl

goes_blocks : (i : ReaderState) (does : ReaderDoes) (cs : List (List ℕ)) → SendsOfA (Exchanges (goes_by i (framed_next does) cs))
goes_blocks i (reader.Asks b) cs = refl
goes_blocks i (reader.Gives xs) cs = asks_blocks i cs
goes_blocks i reader.GivesUp cs = tt
goes_blocks i reader.Refuses cs = tt

module _ (commands : List (List ℕ)) where
  told_sends : (o : Option ℕ) → SendsOfA (told_code commands o)
  told_sends None = tt
  told_sends (Some code) = asks_blocks (waiting code) commands

  bad_sends : (bad : ℕ) → SendsOfA (bad_again bad)
  bad_sends bad = by_count (nat_lt bad 5)
    where
      by_count : (v : Bool) → SendsOfA (if v then Activates (suc bad) else Exchanges (Broken SixBad))
      by_count true = tt
      by_count false = tt

  heard_sends : (bad : ℕ) (h : Heard) → SendsOfA (heard_ats commands bad h)
  heard_sends bad (Whole f) = told_sends (ats_code f)
  heard_sends bad (Collided f) = bad_sends bad
  heard_sends bad Damaged = bad_sends bad
  heard_sends bad Silent = bad_sends bad

  noted_sends : (s : CardStanding) (n : Note) → SendsOfA s → SendsOfA (card_noted commands s n)
  noted_sends (Activates bad) Lit h = tt
  noted_sends (Activates bad) (Got g) h = heard_sends bad g
  noted_sends (Activates bad) Lost h = tt
  noted_sends (Exchanges (Waits i f cs)) Lit h = tt
  noted_sends (Exchanges (Waits i f cs)) (Got g) h = goes_blocks (block_next i (reception g)).state (block_next i (reception g)).does cs
  noted_sends (Exchanges (Waits i f cs)) Lost h = tt
  noted_sends (Exchanges (Rests i)) n h = tt
  noted_sends (Exchanges (Broken e)) n h = tt
  noted_sends (Exchanges Astray) n h = tt

  stand_sends : (ns : List Note) (s : CardStanding) → SendsOfA s → SendsOfA (card_stand commands s ns)
  stand_sends [] s h = h
  stand_sends (n ∷ ns) s h = stand_sends ns (card_noted commands s n) (noted_sends s n h)

card_tech : (s : CardStanding) (f : Signal) → SendsOfA s → card_due s ≡ Asks f → IsOf techs.A f
card_tech (Activates bad) f h e = ap (λ (g : Signal). g.tech) (sym (same_asked rats f e))
card_tech (Exchanges (Waits i g cs)) f h e = subst (IsOf techs.A) (same_asked g f e) h
card_tech (Exchanges (Rests i)) f h e = absurd (over_is_no_request f e)
card_tech (Exchanges (Broken x)) f h e = absurd (over_is_no_request f e)
card_tech (Exchanges Astray) f h e = absurd (over_is_no_request f e)

-- what a device may be seen to be by an identifier
abbrev pub SeesAs : DeviceId → SeenKind → Type 0
SeesAs (ids.A i) kind = Unit {0}
SeesAs (ids.V i) seen.T2 = ⊥
SeesAs (ids.V i) seen.T4 = ⊥
SeesAs (ids.V i) seen.Peer = ⊥
SeesAs (ids.V i) seen.T5 = Unit {0}

abbrev pub SeesBy : DeviceId → Followed SeenKind → Type 0
SeesBy id (polls.Asks n) = Unit {0}
SeesBy id (Told (Ok kind) ns) = SeesAs id kind
SeesBy id (Told (Err e) ns) = Unit {0}

sees_any : (i : List ℕ) (p : Followed SeenKind) → SeesBy (ids.A i) p
sees_any i (polls.Asks n) = tt
sees_any i (Told (Ok kind) ns) = tt
sees_any i (Told (Err e) ns) = tt

sees_five : (i : List ℕ) (p : Followed (Unit {0})) → SeesBy (ids.V i) (kind_by (λ x. seen.T5) p)
sees_five i (polls.Asks n) = tt
sees_five i (Told (Ok x) ns) = tt
sees_five i (Told (Err e) ns) = tt

pub sees : (id : DeviceId) (ns : List Note) → SeesBy id (selecting id ns)
sees (ids.A i) ns = sees_any i (selecting (ids.A i) ns)
sees (ids.V i) [] = tt
sees (ids.V i) (Lit ∷ ns) = sees_five i (follows (picking_v i) ns)
sees (ids.V i) (Got h ∷ ns) = tt
sees (ids.V i) (Lost ∷ ns) = tt

-- what is asked of a device that is seen so
next_tech : (id : DeviceId) (kind : SeenKind) (commands : List Signal) → SeesAs id kind → AreTold id commands → AsksOf (tech_for id) (tag_next kind commands)
next_tech id seen.T2 commands sight all ns f e = due_all (IsOf (tech_for id)) commands all ns f e
next_tech (ids.A i) seen.T4 commands sight all ns f e = card_tech (card_stand (bytes_of commands) (Activates 0) ns) f (stand_sends (bytes_of commands) ns (Activates 0) tt) e
next_tech (ids.V i) seen.T4 commands sight all ns f e = absurd sight
next_tech id seen.T5 commands sight all ns f e = due_all (IsOf (tech_for id)) commands all ns f e
next_tech id seen.Peer commands sight all ns f e = absurd (over_is_no_request f e)

behind_tech : (id : DeviceId) (commands : List Signal) → AreTold id commands → (p : Followed SeenKind) (f : Signal) → SeesBy id p → (asks p ≡ Asks f → IsOf (tech_for id) f)
    → then_asks commands p ≡ Asks f → IsOf (tech_for id) f
behind_tech id commands all (polls.Asks n) f sight first e = first e
behind_tech id commands all (Told (Ok kind) ks) f sight first e = next_tech id kind commands sight all ks f e
behind_tech id commands all (Told (Err x) ks) f sight first e = absurd (over_is_no_request f e)

pub tag_tech : (id : DeviceId) (commands : List Signal) → AreTold id commands → AsksOf (tech_for id) (tag_due id commands)
tag_tech id commands all ns f e = behind_tech id commands all (selecting id ns) f (sees id ns) (select_tech id ns f) e
