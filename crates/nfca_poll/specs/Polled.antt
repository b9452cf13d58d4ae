-- Listeners of this project under polling: a reset wakes each, and takes its link; then each steps by its front at each
-- call of a reader, until another frame than a call comes (this project's own).
use Rattle.std.specs.Prelude.{◌≡◌, ◌⊎◌, ℕ, List, Bool, true}
use Rattle.nfc_base.specs.declared.frame.Tech.TheVariants.{A}
use Rattle.air_core.specs.World.{Machine}
use Rattle.nfca_poll.specs.declared.kind.Kind.{Kind}
use Rattle.nfca_poll.specs.Front.{Front, Idle, is_active}
use Rattle.nfca_poll.specs.Crowd.{Each, AreOurs}
use Rattle.nfca_poll.specs.AnyStart.{YieldsToCalls, LeavesAtCalls}

-- a reset makes a listener idle and takes its link, and changes nothing else of it that polling can tell
pub record WakesIdle {L : Type 0} (m : Machine L) (identifier : L → List ℕ) (kind : L → Kind) (front : L → Front)
    (unlinked : L → Bool) (l : L) : Type 0 where
  pub idle : front (m.woken (m.darkened l)) ≡ Idle
  pub no_link : unlinked (m.woken (m.darkened l)) ≡ true
  pub same_id : identifier (m.woken (m.darkened l)) ≡ identifier l
  pub same_kind : kind (m.woken (m.darkened l)) ≡ kind l

-- unless it is active, it has no link
abbrev pub IsTidy : {L : Type 0} → (L → Front) → (L → Bool) → L → Type 0
IsTidy front unlinked l = (is_active (front l) ≡ true) ⊎ (unlinked l ≡ true)

-- Listeners of this project under polling. At each call an active one leaves the state Active or stays in it. Those
-- without a link have a mark: such a one steps by its front at each call, and a reset wakes a tidy one.
pub record ArePolled {L : Type 0} (m : Machine L) (identifier : L → List ℕ) : Type 0 where
  pub ours : AreOurs m identifier
  pub yields : YieldsToCalls ours
  pub unlinked : L → Bool
  pub leaves : LeavesAtCalls ours unlinked
  pub same_tech : (l : L) → m.tech (m.woken (m.darkened l)) ≡ m.tech l
  pub wakes : (l : L) → m.tech l ≡ A → IsTidy ours.front unlinked l
      → WakesIdle m identifier ours.kind ours.front unlinked l

abbrev pub AreTidy : {L : Type 0} {m : Machine L} {identifier : L → List ℕ} → ArePolled m identifier → List L → Type 0
AreTidy {m = m} polled ls = Each (λ l. m.tech l ≡ A → IsTidy polled.ours.front polled.unlinked l) ls
