-- A selected Type 2 or Type 5 tag answers each command that it heeds, whatever it holds, and is still selected then: where all
-- passes, the answer is heard.
use Rattle.std.proofs.Common.{◌≡◌, ◌≤◌, ℕ, List, [], ◌∷◌, length, Bool, true, false, ◌==◌, ◌&&◌, if◌then◌else◌, Some, None, refl, sym, ◌∙◌, ap, subst}
use Rattle.std.specs.List.{cons_option}
use Rattle.nfc_base.specs.declared.frame.Tech.{Tech}
use Rattle.nfc_base.specs.declared.frame.Tech.TheVariants.{A, V}
use Rattle.nfc_base.specs.declared.event.Event.TheVariants.{Request}
use Rattle.nfc_base.specs.declared.event.Fate.TheVariants.{Pass}
use Rattle.nfc_base.specs.declared.event.Heard.TheVariants.{Whole}
use Rattle.nfc_base.specs.Signal.{Signal, whole_a}
use Rattle.nfc_base.specs.TagLinks.{MayAsk, IsNamedIn, addressed}
use Rattle.nfc_base.specs.Trace.{heard_by}
use Rattle.air_core.specs.Joint.{Single, joint, same_tech}
use Rattle.air_core.specs.World.{hears, answered_by, stepped_by}
use Rattle.air_core.specs.Conversation.{joint_events, joint_back, replay, turn_events, turn_heard}
use Rattle.air_core.specs.PlainTags.{plain_kind, IsAside, IsAlone}
use Rattle.air_core.proofs.OneAir.{same_itself}
use Rattle.air_core.proofs.PlainAside.{IsUnmoved, aside_silent, may_tech, alone_says, alone_steps}
use Rattle.air_core.proofs.PlainTurns.{joint_one}
use Rattle.nfca_poll.specs.Front.{Active}
use Rattle.nfca_poll.specs.Fronted.{Fronted, active_answer, active_after, answer_by, after_by}
use Rattle.t2t_tag.specs.declared.command.T2Command.{T2Command}
use Rattle.t2t_tag.specs.Spelling.{spelled_command, answer_frame}
use Rattle.t2t_tag.specs.Step.{t2_reply, reply_frame, t2_after}
use Rattle.t2t_tag.specs.Store.{T2Memory}
use Rattle.t5t_tag.specs.declared.answer.T5Answer.{T5Answer}
use Rattle.t5t_tag.specs.Store.{T5State, IsT5Shape}
use Rattle.t5t_tag.specs.Spelling.{quiet_code}
use Rattle.t5t_tag.specs.Step.{T5Turn, sent, obeyed, out_of_round, t5_turn, t5_answer, t5_after}
use Rattle.t5t_tag.proofs.Turns.{hushes, on_obeyed}
use Rattle.t5t_tag.proofs.Steps.{same_tag, stays_shape, addressed_turn}
use Rattle.isodep_link.specs.Sizes.{limit}
use Rattle.isodep_link.proofs.Heeding.{AreBytes}
use Rattle.tag_reader.specs.declared.how.How.{How}
use Rattle.tag_reader.specs.declared.how.How.TheVariants as hows
use Rattle.bench_devices.specs.declared.device.Device.{Device}
use Rattle.bench_devices.specs.declared.device.Device.TheVariants.{T2, T4, Peer, T5, T3}
use Rattle.bench_devices.specs.Powered.{Powered}
use Rattle.bench_devices.specs.Device.{BenchWorld, air, devices, device_tech, says_of, t2_machine}
use Rattle.bench_devices.specs.Keeping.{ghosts}
use Rattle.bench_devices.proofs.turns.QuietRats.{laws}

-- A command that a selected tag of a kind answers, whatever it holds: a frame that spells a command; a command that isn't too long; what
-- is addressed to it and doesn't tell it to stay quiet.
abbrev pub IsHeeded : How → Signal → Type 0
IsHeeded hows.T2 f = (f ≡ whole_a f.bytes) × (c : T2Command) × (spelled_command f ≡ Some c)
IsHeeded hows.T4 f = (length f.bytes ≤ limit) × AreBytes f.bytes
IsHeeded (hows.T5 id) f = (code : ℕ) × (rest : List ℕ) × (f ≡ addressed id code rest) × ((code == quiet_code) ≡ false)

-- the identifier that such a tag is asked by
abbrev pub IsOwn : How → List ℕ → Type 0
IsOwn hows.T2 own = Unit {0}
IsOwn hows.T4 own = ⊥
IsOwn (hows.T5 id) own = (id ≡ own) × (length own ≡ 8)

-- a selected tag of this kind
abbrev pub IsOn : How → Device → Type 0
IsOn how (T2 d) = (how ≡ hows.T2) × (starred : Bool) × (d.front ≡ Active starred)
IsOn how (T4 d) = ⊥
IsOn how (T3 p) = ⊥
IsOn how (Peer d) = ⊥
IsOn how (T5 p) = (how ≡ hows.T5 p.tag.id) × (p.lit ≡ true) × IsT5Shape p.tag

-- it answers, and stays one
pub record Replies (how : How) (m : Device) (f : Signal) : Type 0 where
  pub answer : Signal
  pub says : devices.answer m f None ≡ Some answer
  pub stays : IsOn how (devices.after m f None)

two_replies : (how : How) (d : Fronted T2Memory) (f : Signal) (c : T2Command) → how ≡ hows.T2 → (starred : Bool) → d.front ≡ Active starred → spelled_command f ≡ Some c → Replies how (T2 d) f
two_replies how d f c is starred on spelled =
    let says : answer_by t2_machine d.front d f None ≡ Some (answer_frame (t2_reply d.upper c)) =
    ap (λ x. answer_by t2_machine x d f None) on ∙ ap (λ o. active_answer t2_machine (says_of (reply_frame d.upper o)) d f) spelled in
    let after : after_by t2_machine d.front d f None ≡ record { id = d.id; front = d.front; upper = t2_after d.upper f } =
    ap (λ x. after_by t2_machine x d f None) on ∙ ap (λ o. active_after t2_machine (says_of (reply_frame d.upper o)) (t2_after d.upper f) d f) spelled in
    record { answer = answer_frame (t2_reply d.upper c); says = says; stays = subst (λ (x : Fronted T2Memory). IsOn how (T2 x)) (sym after) (is, starred, on) }

-- a turn of a Type 5 tag that tells something
abbrev Tells : T5Turn → Type 0
Tells r = (a : T5Answer) × (r.answer ≡ Some a)

obeyed_tells : (t : T5State) (code : ℕ) (rest : List ℕ) → Tells (obeyed t code rest)
obeyed_tells t code rest = on_obeyed t Tells (record {
  error = λ c. (_, refl);
  read = λ b within. (_, refl);
  many = λ f m within few. (_, refl);
  written = λ b bytes within long. (_, refl);
}) code rest

addressed_tells : (t : T5State) → IsT5Shape t → (code : ℕ) (rest : List ℕ) → (code == quiet_code) ≡ false → Tells (t5_turn t (addressed t.id code rest))
addressed_tells t is code rest other =
    let u : T5State = out_of_round t in
    let turn : t5_turn t (addressed t.id code rest) ≡ obeyed u code rest =
    addressed_turn t is code rest ∙ ap (λ v. if v && (length rest == 0) then hushes u else obeyed u code rest) other in
    subst Tells (sym turn) (obeyed_tells u code rest)

five_replies : (how : How) (p : Powered T5State) (f : Signal) → how ≡ hows.T5 p.tag.id → p.lit ≡ true → IsT5Shape p.tag → Tells (t5_turn p.tag f) → Replies how (T5 p) f
five_replies how p f is lit sound tells = record {
  answer = _;
  says = ap (λ v. if v then t5_answer p.tag f else None) lit ∙ ap sent tells.1;
  stays =
      (let goes : devices.after (T5 p) f None ≡ T5 (record { tag = t5_after p.tag f; lit = true }) = ap (λ v. T5 (if v then record { tag = t5_after p.tag f; lit = true } else p)) lit in
      subst (IsOn how) (sym goes) (is ∙ ap hows.T5 (sym (same_tag p.tag f).id), refl, stays_shape p.tag sound f));
}

pub replies : (how : How) (m : Device) (f : Signal) → IsOn how m → IsHeeded how f → Replies how m f
replies how (T2 d) f on heeded = let h : IsHeeded hows.T2 f = subst (λ k. IsHeeded k f) on.0 heeded in two_replies how d f h.1 on.0 on.1 on.2 h.2
replies how (T4 d) f on heeded = absurd on
replies how (T3 p) f on heeded = absurd on
replies how (Peer d) f on heeded = absurd on
replies how (T5 p) f on heeded =
    let h : IsHeeded (hows.T5 p.tag.id) f = subst (λ k. IsHeeded k f) on.0 heeded in
    five_replies how p f on.0 on.1 on.2 (subst (λ g. Tells (t5_turn p.tag g)) (sym h.2) (addressed_tells p.tag on.2 h.0 h.1 h.3))

-- the technology of a kind, and what is asked in it
abbrev pub tech_by : How → Tech
tech_by hows.T2 = A
tech_by hows.T4 = A
tech_by (hows.T5 id) = V

may_by : (how : How) (own : List ℕ) (f : Signal) → IsOwn how own → IsHeeded how f → MayAsk (plain_kind (tech_by how)) own f
may_by hows.T2 own f is heeded = heeded.0
may_by hows.T4 own f is heeded = absurd is
may_by (hows.T5 id) own f is heeded = record { code = heeded.0; rest = heeded.1; frame = heeded.2 ∙ ap (λ i. addressed i heeded.0 heeded.1) is.0 }

named_by : (how : How) (own : List ℕ) → IsOwn how own → IsNamedIn (tech_by how) own
named_by hows.T2 own is = tt
named_by hows.T4 own is = absurd is
named_by (hows.T5 id) own is = is.1

tech_is : (how : How) (m : Device) → IsOn how m → device_tech m ≡ tech_by how
tech_is how (T2 d) on = ap tech_by (sym on.0)
tech_is how (T4 d) on = absurd on
tech_is how (T3 p) on = absurd on
tech_is how (Peer d) on = absurd on
tech_is how (T5 p) on = ap tech_by (sym on.0)

-- In a lit field such a tag stands at a place, and all others are aside of it.
pub record StandsOn (how : How) (own : List ℕ) (place : ℕ) (w : BenchWorld) : Type 0 where
  pub lit : w.lit ≡ true
  pub tag : Device
  pub alone : IsAlone ghosts own w.listeners place tag
  pub on : IsOn how tag

-- where all passes its answer is heard, and it stands there still
pub record Answered (how : How) (own : List ℕ) (place : ℕ) (w : BenchWorld) (f : Signal) : Type 0 where
  pub answer : Signal
  pub heard : turn_heard air w f Pass Pass ≡ Some (Whole answer)
  pub stands : StandsOn how own place (replay air w (turn_events air w f Pass Pass))

pub answers : (how : How) (own : List ℕ) (place : ℕ) (w : BenchWorld) (f : Signal) → IsOwn how own → StandsOn how own place w → IsHeeded how f → Answered how own place w f
answers how own place w f is s heeded =
    let may = may_by how own f is heeded in
    let named = named_by how own is in
    let r : Replies how s.tag f = replies how s.tag f s.on heeded in
    let hear : hears devices s.tag f ≡ true =
    ap (λ t. same_tech t f.tech) (tech_is how s.tag s.on) ∙ ap (same_tech (tech_by how)) (may_tech ghosts laws own (tech_by how) f may) ∙ same_itself (tech_by how) in
    let says : answered_by devices s.tag f None ≡ Some r.answer = ap (λ v. if v then devices.answer s.tag f None else None) hear ∙ r.says in
    let steps : stepped_by devices s.tag f None ≡ devices.after s.tag f None = ap (λ v. if v then devices.after s.tag f None else s.tag) hear in
    let aside : (x : Device) → IsAside ghosts own x → IsUnmoved ghosts laws own f x = λ x a. aside_silent ghosts laws own (tech_by how) f may named x a in
    let single : air.joint w f ≡ Single r.answer =
    ap joint (alone_says ghosts laws own f aside w.listeners place s.tag s.alone) ∙ ap (λ o. joint (cons_option o [])) says ∙ joint_one (Some r.answer) in
    let there : StandsOn how own place (replay air w (Request f Pass ∷ joint_events (Single r.answer) Pass)) = record {
      lit = s.lit;
      tag = stepped_by devices s.tag f None;
      alone = alone_steps ghosts laws own f aside w.listeners place s.tag s.alone;
      on = subst (IsOn how) (sym steps) r.stays;
    } in
    record {
      answer = r.answer;
      heard = ap (λ j. heard_by Pass (joint_back j Pass)) single;
      stands = subst (λ j. StandsOn how own place (replay air w (Request f Pass ∷ joint_events j Pass))) (sym single) there;
    }
