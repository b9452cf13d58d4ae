-- The first line of a text, and the event that it says.
use Rattle.std.proofs.Common.{◌≡◌, ◌≢◌, ℕ, ◌+◌, ◌<◌, ◌^◌, List, [], ◌∷◌, ◌++◌, length, append_assoc, take, refl, sym, ◌∙◌, ap, arith}
use Rattle.std.specs.List.{All}
use Rattle.std.specs.Fmt.{decimal}
use Rattle.std.proofs.lemmas.List.Elements.{All-cons, All-nil, All-append}
use Rattle.std.proofs.Math.Seq.{take-append-add}
use Rattle.nfc_base.specs.Signal.{Signal, signal, IsSignal}
use Rattle.nfc_base.specs.declared.frame.Tech.{Tech}
use Rattle.nfc_base.specs.declared.event.Event.{Event}
use Rattle.nfc_base.specs.declared.event.Event.TheVariants.{Reset, Request, Answer, Clash}
use Rattle.nfc_base.specs.declared.event.Fate.{Fate}
use Rattle.nfc_base.specs.declared.event.Fate.TheVariants.{Pass, Damage, Lose, Break}
use Rattle.bench_script.specs.declared.command.Command.{Command}
use Rattle.bench_script.specs.Canonical.{frame_text}
use Rattle.bench_script.proofs.Frames.{cut}
use Rattle.bench_world.specs.Report.{fate_text, sent_text, event_text, line_text}
use Rattle.bench_world.specs.ReadBack.{IsOf}
use Rattle.trace_audit.specs.Reading.{AreOnAir}
use Rattle.trace_audit.specs.ReadEvents.{IsNext}
use Rattle.trace_audit.proofs.Finding.{decimal_without, frame_without}

-- a line up to its LF, and what stands behind
pub line_cut : (text line rest : List ℕ) → text ≡ line ++ 10 ∷ rest → take (length line + 1) text ≡ line ++ 10 ∷ []
line_cut text line rest e = ap (λ t. take (length line + 1) t) e ∙ take-append-add line (10 ∷ rest) 1

fate_without : (x : Fate) → All (λ b. b ≢ 10) (fate_text x)
fate_without Pass = grind arith
fate_without Damage = grind arith
fate_without Lose = grind arith
fate_without Break = grind arith

sent_without : (f : Signal) (x : Fate) → IsSignal f → All (λ b. b ≢ 10) (sent_text f x)
sent_without f x is =
    All-append (λ b. b ≢ 10) (frame_text f ++ 32 ∷ []) (fate_text x)
    (All-append (λ b. b ≢ 10) (frame_text f) (32 ∷ []) (frame_without 10 f (omega arith) is) (All-cons (λ b. b ≢ 10) 32 [] (λ e. omega arith) (All-nil (λ b. b ≢ 10)))) (fate_without x)

signed : (sign : ℕ) (text : List ℕ) → sign ≢ 10 → All (λ b. b ≢ 10) text → All (λ b. b ≢ 10) (sign ∷ 32 ∷ text)
signed sign text other none = All-cons (λ b. b ≢ 10) sign (32 ∷ text) other (All-cons (λ b. b ≢ 10) 32 text (λ e. omega arith) none)

-- no LF is in the text of an event
pub event_without : (e : Event) → AreOnAir (e ∷ []) → All (λ b. b ≢ 10) (event_text e)
event_without Reset is = grind arith
event_without (Request f x) is = signed 62 (sent_text f x) (λ e. omega arith) (sent_without f x is.0)
event_without (Answer f x) is = signed 60 (sent_text f x) (λ e. omega arith) (sent_without f x is.0)
event_without (Clash f x) is = signed 42 (sent_text f x) (λ e. omega arith) (sent_without f x is.0)

abbrev pub said : ℕ → Event → List ℕ
said n e = decimal n ++ 32 ∷ event_text e

said_without : (n : ℕ) (e : Event) → n < 2 ^ 32 → AreOnAir (e ∷ []) → All (λ b. b ≢ 10) (said n e)
said_without n e small is =
    All-append (λ b. b ≢ 10) (decimal n) (32 ∷ event_text e) (decimal_without 10 n (omega arith) small) (All-cons (λ b. b ≢ 10) 32 (event_text e) (λ q. omega arith) (event_without e is))

pub line_said : (n : ℕ) (e : Event) → line_text n (event_text e) ≡ said n e ++ 10 ∷ []
line_said n e = ap (λ t. t ++ 10 ∷ []) (append_assoc (decimal n) (32 ∷ []) (event_text e))

-- An event whose line stands at the front of a text has the first line.
pub first_is : (n : ℕ) (text body first rest more : List ℕ) (e : Event) → n < 2 ^ 32 → AreOnAir (e ∷ []) → first ≡ body ++ 10 ∷ [] → All (λ b. b ≢ 10) body → text ≡ first ++ rest
    → text ≡ line_text n (event_text e) ++ more → first ≡ line_text n (event_text e)
first_is n text body first rest more e small is one none split begins =
    let parts = cut 10 body (10 ∷ rest) (said n e) (10 ∷ more) none (said_without n e small is) refl refl
    (sym (append_assoc body (10 ∷ []) rest) ∙ ap (λ t. t ++ rest) (sym one) ∙ sym split ∙ begins ∙ ap (λ t. t ++ more) (line_said n e) ∙ append_assoc (said n e) (10 ∷ []) more) in
    one ∙ ap (λ t. t ++ 10 ∷ []) parts.0 ∙ sym (line_said n e)

in_tech : (t : Tech) (f : Signal) → IsSignal f → IsSignal (signal t f.bytes f.tail)
in_tech t f is = record { fits = is.fits; bytes = is.bytes; small = is.small; held = is.held; unused = is.unused }

-- Where a text is the line of no event of the last technology, it is that of no event that could come next.
pub none_next : (n : ℕ) (c : Command) (last : Tech) (text : List ℕ) (e : Event) → ((o : Event) → IsOf last o → text ≢ line_text n (event_text o)) → IsNext n c last text e → ⊥
none_next n c last text Reset none is = none Reset tt is.is
none_next n c last text (Request f x) none is = none (Request (signal last f.bytes f.tail) x) (in_tech last f is.on_air.0, refl) is.is
none_next n c last text (Answer f x) none is = none (Answer f x) (is.on_air.0, is.tech.0) is.is
none_next n c last text (Clash f x) none is = none (Clash f x) (is.on_air.0, is.tech.0) is.is
