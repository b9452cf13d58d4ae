-- In exchanges one after another, over every air, a card obeys each command once and in order; only the last, where it isn't
-- answered, may be missing.
use Rattle.std.proofs.Common.{ℕ, ◌<◌, ◌≤◌, ◌==◌, Bool, true, false, if◌then◌else◌, refl, sym, ap, subst, arith}
use Rattle.nfc_base.proofs.Sessions.{KeepsEach, session_delivers}
use Rattle.isodep_link.specs.Sizes.{block_size, piece_size, limit}
use Rattle.nfc_base.specs.Pieces.{pieces}
use Rattle.isodep_link.specs.Exchange.{iso_dep, IsReady, next_exchange, blocks_back}
use Rattle.isodep_link.specs.Sessions.{activated_link, ActivatedReady, ActivatedObeys}
use Rattle.isodep_link.proofs.Obeyed.{obeyed_once}

-- one exchange from where the next may begin
pub keeps_each : KeepsEach iso_dep next_exchange IsReady limit
keeps_each = record {
  brings = λ w r. ap (λ c. c.commands) r.1;
  out = λ w command. pieces w.asking.core.most command;
  back = λ w. blocks_back w.answering;
  once = λ w q r f. obeyed_once q.far w.asking w.answering w.delivered w.arrived q.payload q.fates f.replies f.payload r.0 r.1;
}

-- the sizes of blocks
abbrev IsSize : ℕ → Type 0
IsSize n = (16 ≤ n) × (n ≤ 256)

size_if : (v : Bool) (x y : ℕ) → IsSize x → IsSize y → IsSize (if v then x else y)
size_if true x y p q = p
size_if false x y p q = q

is_size : (code : ℕ) → IsSize (block_size code)
is_size code =
    size_if (code == 0) _ _ (omega arith, omega arith) (size_if (code == 1) _ _ (omega arith, omega arith) (size_if (code == 2) _ _ (omega arith, omega arith)
    (size_if (code == 3) _ _ (omega arith, omega arith) (size_if (code == 4) _ _ (omega arith, omega arith) (size_if (code == 5) _ _ (omega arith, omega arith)
    (size_if (code == 6) _ _ (omega arith, omega arith) (size_if (code == 7) _ _ (omega arith, omega arith) (omega arith, omega arith))))))))

piece_fits : (code : ℕ) → (0 < piece_size code) × (piece_size code ≤ 253)
piece_fits code = (let s = is_size code in (omega (arith, s.0), omega (arith, s.1)))

-- the ends are in step once the card was activated
pub ready_first : ActivatedReady
ready_first t reader_code m = subst (λ s. IsReady (activated_link s reader_code)) (sym m.made) (
  record { heeds = refl; number = omega arith; other = refl; no_chain = refl; all_sent = refl; asks = piece_fits t.code; answers = piece_fits reader_code; busy = m.busy; times = m.times },
  refl,
)

-- Over every air: what a card obeys from its activation on are the commands asked, each once and in order, of which only the last
-- may be missing, where it wasn't answered.
pub obeys_from_activation : ActivatedObeys
obeys_from_activation t reader_code qs m f =
    session_delivers iso_dep next_exchange IsReady limit keeps_each (activated_link t reader_code) qs (ready_first t reader_code m) f
