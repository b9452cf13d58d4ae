-- The link to a selected tag that takes commands as they are sent, as it is made.
use Rattle.std.proofs.Common.{◌≡◌, ℕ, true, None, sym, ◌∙◌, ap, subst, arith}
use Rattle.std.specs.Prelude.{Option}
use Rattle.nfc_base.specs.declared.tag_link.AskFault.{AskFault}
use Rattle.nfc_base.specs.Signal.{Signal}
use Rattle.air_core.specs.Turn.{Air, moment}
use Rattle.air_core.specs.PlainLinks.{PlainSeen, IsPlainReady, PlainMoves, plain_view}
use Rattle.tag_reader.specs.declared.how.How.{How}
use Rattle.tag_reader.specs.Kinds.{IsTag}
use Rattle.bench_devices.specs.declared.device.Device.{Device}
use Rattle.bench_devices.specs.Device.{how_of, size_of, may_be_read}
use Rattle.bench_devices.specs.private.Linking.{IsPlain, IsPlainHow, IsNew}
use Rattle.bench_devices.specs.Keeping.{ghosts}
use Rattle.bench_devices.specs.Phases.{Stands}
use Rattle.bench_devices.proofs.reads.ReadingTags.{has_tag, begun, shows_tag}

abbrev as_seen : Air Device → ℕ → ℕ → Option Signal → Option AskFault → PlainSeen Device
as_seen air' place start last over = record { air = air'; place = place; start = start; last = last; over = over }

pub new_is : (p : PlainSeen Device) → IsNew p → begun p.air p.place ≡ p
new_is p is =
    ap (λ n. as_seen p.air p.place n None None) (sym is.start) ∙ ap (λ x. as_seen p.air p.place p.start x None) (sym is.last)
    ∙ ap (λ x. as_seen p.air p.place p.start p.last x) (sym is.over)

module _ (p : PlainSeen Device) (is : IsNew p) (how : How) (one : (e : Device) × Stands (moment p.air) p.place e × (how ≡ how_of e) × IsPlainHow how × (may_be_read e ≡ true)) where
  pub plain_one : IsPlain one.0
  plain_one = (subst IsPlainHow one.2 one.3, one.4)

  pub new_ready : IsPlainReady ghosts p
  new_ready = record { start = omega (arith, is.start); tag = has_tag p.air p.place one.0 one.1 plain_one }

  pub new_tag : IsTag (how_of one.0) (size_of one.0) (plain_view ghosts p)
  new_tag = subst (λ x. IsTag (how_of one.0) (size_of one.0) (plain_view ghosts x)) (new_is p is) (shows_tag p.air p.place one.0 one.1 plain_one)

  abbrev pub new_is_tag : (size : ℕ) × IsTag how size (plain_view ghosts p)
  new_is_tag = (size_of one.0, subst (λ h. IsTag h (size_of one.0) (plain_view ghosts p)) (sym one.2) new_tag)

pub from_new : (p : PlainSeen Device) → IsNew p → (q : PlainSeen Device) → PlainMoves ghosts p q → PlainMoves ghosts (begun p.air p.place) q
from_new p is q moves = subst (λ x. PlainMoves ghosts x q) (sym (new_is p is)) moves

-- What is said of the field that a link borrows is said of the field that it gives back.
pub given_back : (P : Air Device → Air Device → ℕ → Type 0) (a b x y : Air Device) (m n : ℕ) → a ≡ x → b ≡ y → m ≡ n → P a b m → P x y n
given_back P a b x y m n first last place p = subst (P x y) place (subst (λ z. P x z m) last (subst (λ z. P z b m) first p))
