-- The bench's devices keep the laws of listeners.
use Rattle.std.proofs.Common.{◌≡◌, ◌≤◌, ℕ, List, length, Bool, true, false, if◌then◌else◌, Option, Some, None, refl}
use Rattle.std.proofs.Common.{sym, ◌∙◌}
use Rattle.nfc_base.specs.declared.frame.Tech.TheVariants.{A}
use Rattle.nfc_base.specs.Signal.{Signal, whole_a}
use Rattle.nfc_base.specs.Far.{Untouched, Hands}
use Rattle.nfc_base.specs.TagLinks.{IsAddressedIn}
use Rattle.air_core.specs.Listening.{StaysSame}
use Rattle.nfca_poll.specs.laws.FrontLaws as fronted
use Rattle.bench_devices.specs.Powered.{Powered, LightMachine, IsLightMachine, light_three, light_five, powered_answer}
use Rattle.bench_devices.specs.Powered.{powered_after}
use Rattle.bench_devices.specs.Lights.{is_light_three, is_light_five}
use Rattle.bench_devices.specs.declared.device.Device.{Device}
use Rattle.bench_devices.specs.declared.device.Device.TheVariants.{T2, T4, Peer, T5, T3}
use Rattle.bench_devices.specs.Device.{t2_machine, t4_machine, device_id, device_store, device_ready, device_selected}
use Rattle.bench_devices.specs.Device.{device_commands, device_tag, devices}
use Rattle.bench_devices.specs.Peers.{peer_machine}
use Rattle.bench_devices.specs.laws.PeerUpper.{peer_upper}
use Rattle.bench_devices.specs.laws.Uppers.{t2_upper, t4_upper}

-- what is handed over, by peers alone
pub bounded : (l : Device) (f : Signal) (payload : List ℕ) → devices.handed l f ≡ Hands payload → length payload ≤ 2178
bounded (T2 d) f payload h = absurd cc
bounded (T4 d) f payload h = absurd cc
bounded (Peer d) f payload h = fronted.bounded peer_upper d f payload h
bounded (T5 p) f payload h = absurd cc
bounded (T3 p) f payload h = absurd cc

-- What keeps a tag that light selects keeps the device.
module _ {T : Type 0} (m : LightMachine T) (is : IsLightMachine m) where
  powered_tech : (lit : Bool) (t : T) (f g : Signal) → (if lit then m.answer t f else None) ≡ Some g → g.tech ≡ m.tech
  powered_tech true t f g e = is.own_tech t f g e
  powered_tech false t f g e = absurd cc

  pub powered_named : (p : Powered T) (f : Signal) → m.identifier (powered_after m p f).tag ≡ m.identifier p.tag
  powered_named p f = by_light p.lit
    where
      by_light : (v : Bool) → m.identifier (if v then record { tag = m.after p.tag f; lit = true } else p).tag
          ≡ m.identifier p.tag
      by_light true = is.named p.tag f
      by_light false = refl

  pub powered_commanded : (p : Powered T) (f : Signal) → m.commands (powered_after m p f).tag ≡ m.commands p.tag
  powered_commanded p f = by_light p.lit
    where
      by_light : (v : Bool) → m.commands (if v then record { tag = m.after p.tag f; lit = true } else p).tag
          ≡ m.commands p.tag
      by_light true = is.commanded p.tag f
      by_light false = refl

  -- it stays lit
  pub powered_lit : (p : Powered T) (f : Signal) → (powered_after m p f).lit ≡ p.lit
  powered_lit p f = by_light p.lit refl
    where
      by_light : (v : Bool) → p.lit ≡ v → (if v then record { tag = m.after p.tag f; lit = true } else p).lit ≡ p.lit
      by_light true e = sym e
      by_light false e = refl

  -- what is addressed to another identifier is heard in silence, in the light and in the dark
  powered_ignores : (p : Powered T) (other : List ℕ) (f : Signal) → IsAddressedIn m.tech other f
      → (other ≡ m.identifier p.tag → ⊥) → powered_answer m p f ≡ None
  powered_ignores p other f to not_own = by_light p.lit
    where
      by_light : (v : Bool) → (if v then m.answer p.tag f else None) ≡ None
      by_light true = is.ignores p.tag other f to not_own
      by_light false = refl

pub own_tech : (l : Device) (f g : Signal) (reply : Option (List ℕ)) → devices.answer l f reply ≡ Some g
    → g.tech ≡ devices.tech l
own_tech (T2 d) f g reply e = fronted.own_tech t2_upper d f g None e
own_tech (T4 d) f g reply e = fronted.own_tech t4_upper d f g None e
own_tech (Peer d) f g reply e = fronted.own_tech peer_upper d f g reply e
own_tech (T5 p) f g reply e = powered_tech light_five is_light_five p.lit p.tag f g e
own_tech (T3 p) f g reply e = powered_tech light_three is_light_three p.lit p.tag f g e

abbrev Same : Device → Device → Type 0
Same l m = StaysSame devices.tech device_id device_commands l m

pub step_keeps : (l : Device) (f : Signal) (reply : Option (List ℕ)) → Same l (devices.after l f reply)
step_keeps (T2 d) f reply = let s = fronted.step_keeps t2_upper d f None in
    record { tech' = refl; identifier' = s.identifier'; commands' = s.commands' }
step_keeps (T4 d) f reply = let s = fronted.step_keeps t4_upper d f None in
    record { tech' = refl; identifier' = s.identifier'; commands' = s.commands' }
step_keeps (Peer d) f reply = let s = fronted.step_keeps peer_upper d f reply in
    record { tech' = refl; identifier' = s.identifier'; commands' = refl }
step_keeps (T5 p) f reply = record {
  tech' = refl;
  identifier' = powered_named light_five is_light_five p f;
  commands' = powered_commanded light_five is_light_five p f;
}
step_keeps (T3 p) f reply = record {
  tech' = refl;
  identifier' = powered_named light_three is_light_three p f;
  commands' = powered_commanded light_three is_light_three p f;
}

pub light_keeps : (l : Device) → Same l (devices.woken l) × (device_store (devices.woken l) ≡ device_store l)
light_keeps (T2 d) = let s = fronted.light_keeps t2_upper d in
    (record { tech' = refl; identifier' = s.0.identifier'; commands' = s.0.commands' }, s.1)
light_keeps (T4 d) = let s = fronted.light_keeps t4_upper d in
    (record { tech' = refl; identifier' = s.0.identifier'; commands' = s.0.commands' }, s.1)
light_keeps (Peer d) = (record { tech' = refl; identifier' = refl; commands' = refl }, refl)
light_keeps (T5 p) = (record { tech' = refl; identifier' = refl; commands' = refl }, refl)
light_keeps (T3 p) = (record { tech' = refl; identifier' = refl; commands' = refl }, refl)

pub dark_keeps : (l : Device) → Same l (devices.darkened l) × (device_store (devices.darkened l) ≡ device_store l)
dark_keeps (T2 d) = let s = fronted.dark_keeps t2_upper d in
    (record { tech' = refl; identifier' = s.0.identifier'; commands' = s.0.commands' }, s.1)
dark_keeps (T4 d) = let s = fronted.dark_keeps t4_upper d in
    (record { tech' = refl; identifier' = s.0.identifier'; commands' = s.0.commands' }, s.1)
dark_keeps (Peer d) = (record { tech' = refl; identifier' = refl; commands' = refl }, refl)
dark_keeps (T5 p) = (record { tech' = refl; identifier' = refl; commands' = refl }, refl)
dark_keeps (T3 p) = (record { tech' = refl; identifier' = refl; commands' = refl }, refl)

-- a tag that isn't of NFC-A is selected by light, and while it is lit
pub light_selects : (l : Device) → (devices.tech l ≡ A → ⊥) → device_selected (devices.woken l) ≡ true
light_selects (T2 d) other = absurd (other refl)
light_selects (T4 d) other = absurd (other refl)
light_selects (Peer d) other = absurd (other refl)
light_selects (T5 p) other = refl
light_selects (T3 p) other = refl

pub stays_selected : (l : Device) (f : Signal) (reply : Option (List ℕ)) → (devices.tech l ≡ A → ⊥)
    → device_selected l ≡ true → device_selected (devices.after l f reply) ≡ true
stays_selected (T2 d) f reply other s = absurd (other refl)
stays_selected (T4 d) f reply other s = absurd (other refl)
stays_selected (Peer d) f reply other s = absurd (other refl)
stays_selected (T5 p) f reply other s = powered_lit light_five is_light_five p f ∙ s
stays_selected (T3 p) f reply other s = powered_lit light_three is_light_three p f ∙ s

pub dark_rests : (l : Device) → (device_ready (devices.darkened l) ≡ false)
    × (device_selected (devices.darkened l) ≡ false)
dark_rests (T2 d) = fronted.dark_rests t2_machine d
dark_rests (T4 d) = fronted.dark_rests t4_machine d
dark_rests (Peer d) = (refl, refl)
dark_rests (T5 p) = (refl, refl)
dark_rests (T3 p) = (refl, refl)

pub at_rest : (l : Device) (bytes : List ℕ) → devices.tech l ≡ A → device_ready l ≡ false → device_selected l ≡ false
    → (devices.handed l (whole_a bytes) ≡ Untouched) × (devices.answer l (whole_a bytes) None ≡ None)
    × (device_ready (devices.after l (whole_a bytes) None) ≡ false)
    × (device_selected (devices.after l (whole_a bytes) None) ≡ false)
at_rest (T2 d) bytes t r s = (
  refl,
  (fronted.at_rest t2_machine d bytes refl r s).1,
  (fronted.at_rest t2_machine d bytes refl r s).2,
  (fronted.at_rest t2_machine d bytes refl r s).3,
)
at_rest (T4 d) bytes t r s = (
  refl,
  (fronted.at_rest t4_machine d bytes refl r s).1,
  (fronted.at_rest t4_machine d bytes refl r s).2,
  (fronted.at_rest t4_machine d bytes refl r s).3,
)
at_rest (Peer d) bytes t r s = fronted.at_rest peer_machine d bytes refl r s
at_rest (T5 p) bytes t r s = absurd cc
at_rest (T3 p) bytes t r s = absurd cc

pub ignores : (l : Device) (other : List ℕ) (f : Signal) → IsAddressedIn (devices.tech l) other f
    → (other ≡ device_id l → ⊥)
    → (devices.handed l f ≡ Untouched) × (devices.answer l f None ≡ None)
ignores (T2 d) other f to k = absurd to
ignores (T4 d) other f to k = absurd to
ignores (Peer d) other f to k = absurd to
ignores (T5 p) other f to k = (refl, powered_ignores light_five is_light_five p other f to k)
ignores (T3 p) other f to k = (refl, powered_ignores light_three is_light_three p other f to k)

-- its store is what a device shows to hold
pub tag_holds : (l : Device) → (device_tag l).store ≡ device_store l
tag_holds (T2 d) = refl
tag_holds (T4 d) = refl
tag_holds (Peer d) = refl
tag_holds (T5 p) = refl
tag_holds (T3 p) = refl
