-- What each command on the open link puts there, and that the messages are apart.
use Rattle.std.proofs.Common.{◌≡◌, ◌<◌, ◌≤◌, ◌==◌, ◌||◌, ◌&&◌, ℕ, Bool, true, false, List, [], ◌∷◌, Option, Some, None, refl, sym, ◌∙◌, ap, subst, arith}
use Rattle.std.specs.Prelude.{not}
use Rattle.std.specs.List.{All}
use Rattle.std.proofs.lemmas.Bool.Decides.{nat_tests}
use Rattle.std.proofs.lemmas.List.Elements.{All-head, All-tail}
use Rattle.nfc_base.specs.declared.event.Event.{Event}
use Rattle.snep_core.specs.Server.{Received}
use Rattle.link_calls.specs.Asking.{LinkAsking, Does, Closes, Finding, Getting, Putting, put_from}
use Rattle.snep_core.specs.Slots.{slot_count}
use Rattle.snep_core.specs.Talk.{sap_of_slot}
use Rattle.link_calls.specs.AtOnce.{AreApart, is_from}
use Rattle.link_calls.proofs.AtOnce.{two_false}
use Rattle.bench_script.specs.declared.command.Command.{Command}
use Rattle.bench_script.specs.declared.command.Command.TheVariants.{Put, Get, Lookup, OnPut, OnGet, Puts, Unlink}
use Rattle.bench_script.specs.declared.command.SlotPut.{SlotPut}
use Rattle.bench_script.specs.Messages.{message_of}
use Rattle.bench_script.specs.Slots.{has_slot, have_own_slots}
use Rattle.bench_world.specs.declared.entry.Answer.{Answer}
use Rattle.bench_world.specs.World.{FarEnd}
use Rattle.bench_world.specs.Asked.{IsOnLink, asked_on_link, slot_messages}
use Rattle.bench_world.specs.Calls.{AllAdd, PeerAdds, PeerMayAdd, asked_behind}
use Rattle.bench_world.specs.Legal.{State, Accepts, IsSlotPut, last_slot}
use Rattle.bench_world.specs.Stories.{NothingBegins, beginning, puts_in, puts_of, puts_told}
use Rattle.bench_world.proofs.link_law.StoriesOnLink.{messages_of, tolds_of}
use Rattle.bench_world.proofs.open_link.Talks.{off}

-- what is added by what was told, or by nothing where it was cut off
abbrev pub AddsBy : LinkAsking → Option Answer → FarEnd → List Received → Type 0
AddsBy asked None end more = PeerMayAdd asked end more
AddsBy asked (Some answer) end more = PeerAdds asked end answer more

nothing_added : (end : FarEnd) (more : List Received) → more ≡ [] → AllAdd [] end [] more
nothing_added end more none = subst (AllAdd [] end []) (sym none) (record { each = tt; others = λ s e. refl })

pub adds_all : (asked : LinkAsking) (told : Option Answer) (end : FarEnd) (more : List Received) → AddsBy asked told end more → AllAdd (messages_of asked) end (tolds_of asked told) more
adds_all (Does (Putting ws)) None end more h = h
adds_all (Does (Putting ws)) (Some answer) end more h = h
adds_all (Does (Getting sap most key)) None end more h = nothing_added end more h
adds_all (Does (Getting sap most key)) (Some answer) end more h = nothing_added end more h
adds_all (Does (Finding name)) None end more h = nothing_added end more h
adds_all (Does (Finding name)) (Some answer) end more h = nothing_added end more h
adds_all Closes None end more h = nothing_added end more h
adds_all Closes (Some answer) end more h = nothing_added end more h

-- what a command puts
puts_so : (asked : LinkAsking) (told : Option Answer) → puts_of (Some asked) told ≡ puts_told (messages_of asked) (tolds_of asked told)
puts_so (Does (Putting ws)) told = refl
puts_so (Does (Getting sap most key)) told = refl
puts_so (Does (Finding name)) told = refl
puts_so Closes told = refl

pub puts_asked : (c : Command) (asked : LinkAsking) → asked_on_link c ≡ Some asked → (told : Option Answer) → puts_in c told ≡ puts_told (messages_of asked) (tolds_of asked told)
puts_asked c asked asks told = ap (λ o. puts_of o told) asks ∙ puts_so asked told

-- The messages of a command that a state accepts are apart.
same_apart : (a asked : LinkAsking) → ◌≡◌ {A = Option LinkAsking} (Some a) (Some asked) → AreApart (messages_of a) → AreApart (messages_of asked)
same_apart a asked e h = let same : a ≡ asked = cc in subst (λ x. AreApart (messages_of x)) same h

own_slot : (slot : ℕ) → slot ≤ last_slot → slot < slot_count
own_slot slot h = let few : slot ≤ 7 = h in (let less : slot < 8 = omega (arith, few) in less)

-- puts of clients of their own are apart
same_slot : (j k : ℕ) → (sap_of_slot j == sap_of_slot k) ≡ (j == k)
same_slot j k = grind (arith, nat_tests)

none_named : (slot : ℕ) (puts : List SlotPut) → has_slot slot puts ≡ false → is_from (sap_of_slot slot) (slot_messages puts) ≡ false
none_named slot [] none = refl
none_named slot (p ∷ ps) none =
    let both = two_false (p.slot == slot) (has_slot slot ps) none in
    ap (λ v. v || is_from (sap_of_slot slot) (slot_messages ps)) (same_slot p.slot slot ∙ both.0) ∙ none_named slot ps both.1

both_true : (a b : Bool) → (not a && b) ≡ true → (a ≡ false) × (b ≡ true)
both_true false b e = (refl, e)
both_true true b e = absurd cc

pub puts_apart : (puts : List SlotPut) → have_own_slots puts ≡ true → All IsSlotPut puts → AreApart (slot_messages puts)
puts_apart [] own each = tt
puts_apart (p ∷ ps) own each =
    let one : IsSlotPut p = All-head IsSlotPut p ps each in
    let both = both_true (has_slot p.slot ps) (have_own_slots ps) own in
    (own_slot p.slot one.slot, one.short, none_named p.slot ps both.0, puts_apart ps both.1 (All-tail IsSlotPut p ps each))

pub apart_of : (s : State) (c : Command) (asked : LinkAsking) → asked_on_link c ≡ Some asked → Accepts s c → AreApart (messages_of asked)
apart_of s (Put m) asked e may = same_apart (Does (put_from 0 (message_of m))) asked e ((let first : 0 < 8 = omega arith in first), may, refl, tt)
apart_of s (Get most key) asked e may = same_apart (Does (Getting 32 most key)) asked e tt
apart_of s (Lookup name) asked e may = same_apart (Does (Finding name)) asked e tt
apart_of s (OnPut slot m) asked e may = same_apart (Does (put_from slot (message_of m))) asked e (own_slot slot may.own.1, may.short, refl, tt)
apart_of s (OnGet slot most key) asked e may = same_apart (Does (Getting (sap_of_slot slot) most key)) asked e tt
apart_of s (Puts puts) asked e may = same_apart (Does (Putting (slot_messages puts))) asked e (puts_apart puts may.own may.each)
apart_of s Unlink asked e may = same_apart Closes asked e tt
apart_of s c asked e may = absurd cc

-- no link begins in it
pub talk_begins : (c : Command) (es : List Event) (told : Option Answer) → IsOnLink c → beginning c es told ≡ NothingBegins
talk_begins (Put m) es told talks = refl
talk_begins (Get most key) es told talks = refl
talk_begins (Lookup name) es told talks = refl
talk_begins (OnPut slot m) es told talks = refl
talk_begins (OnGet slot most key) es told talks = refl
talk_begins (Puts puts) es told talks = refl
talk_begins Unlink es told talks = refl
talk_begins c es told talks = off talks

-- nor is one open behind it, where none was
pub none_behind : (asked : LinkAsking) (told : Option Answer) (joins : List ℕ) → asked_behind asked told None joins [] ≡ None
none_behind (Does call) None joins = refl
none_behind (Does call) (Some answer) joins = refl
none_behind Closes told joins = refl
