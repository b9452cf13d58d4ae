-- What opening a link comes to: a placed peer is linked, and a placed tag tells that it has no link as peers do, where little noise is.
use Rattle.std.proofs.Common.{◌≡◌, inl, inr, ℕ, ◌+◌, ◌<◌, List, [], ◌∷◌, length, Bool, true, false, if◌then◌else◌, Some, Result, Ok, Err, refl, sym, ◌∙◌, ap, subst, arith}
use Rattle.nfc_base.specs.Signal.{Signal}
use Rattle.nfc_base.specs.Trace.{noise, breaks}
use Rattle.nfc_base.specs.declared.event.Event.{Event}
use Rattle.nfc_base.specs.declared.tag_link.AskFault.TheVariants as asking
use Rattle.air_core.specs.Conversation.{Note, EachDue, AreTurns, FatesFrom, Moment, receptions}
use Rattle.air_core.specs.Waits.{Standing, Asking, Broken, Astray, stand}
use Rattle.nfca_poll.specs.declared.fault.PollFault.{PollFault}
use Rattle.nfca_poll.specs.declared.fault.PollFault.TheVariants as faults
use Rattle.nfca_poll.specs.Ident.{IsIdent}
use Rattle.dep_link.specs.Activating.{atr_frame}
use Rattle.bench_script.specs.declared.command.Command.{Command}
use Rattle.bench_script.specs.declared.command.Command.TheVariants.{Link}
use Rattle.bench_script.specs.declared.command.DeviceId.TheVariants.{A}
use Rattle.bench_devices.specs.declared.device.Device.{Device}
use Rattle.bench_devices.specs.declared.device.Device.TheVariants.{T2, T4, Peer, T5, T3}
use Rattle.bench_devices.specs.declared.polling.SeenKind.{SeenKind}
use Rattle.bench_devices.specs.declared.polling.SeenKind.TheVariants as seen
use Rattle.bench_devices.specs.Answering.{IsNamed, HasPollCause, TellsStanding}
use Rattle.bench_devices.specs.Device.{seen_of, is_tag}
use Rattle.bench_devices.specs.Keeping.{kept, IsSound}
use Rattle.bench_devices.specs.Opening.{linking, then_opens}
use Rattle.bench_devices.specs.Placed.{device_with}
use Rattle.bench_devices.specs.Polling.{Told, selecting}
use Rattle.bench_world.specs.declared.entry.Answer.{Answer}
use Rattle.bench_world.specs.declared.entry.Answer.TheVariants as answers
use Rattle.bench_world.specs.declared.entry.Entry.{Entry}
use Rattle.bench_world.specs.declared.entry.Loss.TheVariants as losses
use Rattle.bench_world.specs.Completing.{IsQuietOnce}
use Rattle.bench_world.specs.CompletingLinks.{IsUndisturbedOpening, OpensPlaced, link_answer, LinkingsComplete, KindsTold}
use Rattle.bench_world.specs.Journal.{asking_lines}
use Rattle.bench_world.specs.Legal.{State, Given, LegalStep, AnswerLaw, LinkingLaw, world_at_start, changed, due, first_state}
use Rattle.bench_world.specs.Linking.{TellsLoss, LinkEnds, LinkTells, IsFieldLost, own_general}
use Rattle.bench_world.specs.Quiet.{AllPass}
use Rattle.bench_world.specs.QuietLinks.{LinksQuietly, QuietLinkings}
use Rattle.bench_world.specs.World.{WholeWorld, bench_air}
use Rattle.bench_world.proofs.calm.Complete.{told_once, no_lost, missed, given_up}
use Rattle.bench_world.proofs.lines.OneAnswer.{one_end}
use Rattle.bench_world.proofs.devices.OpeningKind.{kind_told}
use Rattle.bench_world.proofs.devices.Placing.{with_sound}
use Rattle.bench_world.proofs.calm.Quiet.{no_breaks, quiet_of, first_round}
use Rattle.bench_world.proofs.devices.Reached.{IsReady, ready_behind, first_ready}

-- a placed NFC-A device has an identifier as such devices have one
pub ident_of : (id : List ℕ) (d : Device) → IsSound (kept d) → IsNamed (A id) d → IsIdent id
ident_of id (T2 d) sound named = subst IsIdent named.1 sound.0
ident_of id (T4 d) sound named = subst IsIdent named.1 sound.0
ident_of id (Peer d) sound named = subst IsIdent named.1 sound.0
ident_of id (T5 p) sound named = absurd (let clash = named.0 in cc)
ident_of id (T3 p) sound named = absurd (let clash = named.0 in cc)

-- what is seen to be a peer is one, and else it's a tag
pub tag_two : (d : Device) → seen_of d ≡ seen.T2 → is_tag d ≡ true
tag_two (T2 d) e = refl
tag_two (T4 d) e = refl
tag_two (Peer d) e = absurd cc
tag_two (T5 p) e = refl
tag_two (T3 p) e = refl

pub tag_four : (d : Device) → seen_of d ≡ seen.T4 → is_tag d ≡ true
tag_four (T2 d) e = refl
tag_four (T4 d) e = refl
tag_four (Peer d) e = absurd cc
tag_four (T5 p) e = refl
tag_four (T3 p) e = refl

pub tag_five : (d : Device) → seen_of d ≡ seen.T5 → is_tag d ≡ true
tag_five (T2 d) e = refl
tag_five (T4 d) e = refl
tag_five (Peer d) e = absurd cc
tag_five (T5 p) e = refl
tag_five (T3 p) e = refl

pub no_tag : (d : Device) → seen_of d ≡ seen.Peer → is_tag d ≡ false
no_tag (T2 d) e = absurd cc
no_tag (T4 d) e = absurd cc
no_tag (Peer d) e = refl
no_tag (T5 p) e = absurd cc
no_tag (T3 p) e = absurd cc

answer_by : (n : ℕ) (d : Device) (v : Bool) → is_tag d ≡ v → (if v then answers.WrongKind else answers.Linked n) ≡ link_answer n d
answer_by n d v e = ap (λ x. if x then answers.WrongKind else answers.Linked n) (sym e)

module _ (id : List ℕ) (ds : List Device) (d : Device) (placed : device_with id ds ≡ Some d) (named : IsNamed (A id) d) (n : ℕ) (general : List ℕ) (answer : Answer)
    (lit : IsFieldLost answer → ⊥) where
  standing : (s : Standing) → ((left : List Signal) → s ≡ Broken asking.SixBad left → ⊥) → TellsStanding (λ a. a ≡ answers.Linked n) TellsLoss s answer → answer ≡ answers.Linked n
  standing (Asking bad []) none t = t
  standing (Asking bad (c ∷ cs)) none t = absurd t
  standing (Broken asking.FieldLost cs) none t = absurd (lit (inr t))
  standing (Broken asking.SixBad cs) none t = absurd (none cs refl)
  standing (Broken asking.Memory cs) none t = absurd t
  standing (Broken asking.Protocol cs) none t = absurd t
  standing Astray none t = absurd t

  -- once a device is selected, it is seen to be what it is
  link_ends : (r : Result SeenKind PollFault) (behind : List Note) (es : List Event) → IsQuietOnce (A id) es → ((k : SeenKind) → r ≡ Ok k → seen_of d ≡ k)
      → (r ≡ Ok seen.Peer → (left : List Signal) → stand 0 (atr_frame general ∷ []) behind ≡ Broken asking.SixBad left → ⊥) → HasPollCause (A id) ds r es → LinkEnds n general r behind answer
      → answer ≡ link_answer n d
  link_ends (Ok seen.T2) behind es q kind none c e = e ∙ answer_by n d true (tag_two d (kind seen.T2 refl))
  link_ends (Ok seen.T4) behind es q kind none c e = e ∙ answer_by n d true (tag_four d (kind seen.T4 refl))
  link_ends (Ok seen.T5) behind es q kind none c e = e ∙ answer_by n d true (tag_five d (kind seen.T5 refl))
  link_ends (Ok seen.Peer) behind es q kind none c e = standing (stand 0 (atr_frame general ∷ []) behind) (none refl) e ∙ answer_by n d false (no_tag d (kind seen.Peer refl))
  link_ends (Err faults.Nobody) behind es q kind none c e = absurd c
  link_ends (Err faults.Disturbed) behind es q kind none c e = absurd (given_up (A id) ds d placed named (A id) es q c)
  link_ends (Err faults.FieldLost) behind es q kind none c e = absurd (lit (inl (told_once answers.FieldLost answer e)))
  link_ends (Err faults.Memory) behind es q kind none c e = absurd c
  link_ends (Err faults.NotFound) behind es q kind none c e = absurd (missed (A id) ds d placed named (A id) es placed named q c)
  link_ends (Err faults.BadAnswer) behind es q kind none c e = absurd c

-- What tells of a kind is right of the device.
module _ (d : Device) (n : ℕ) (general : List ℕ) (answer : Answer) where
  abbrev TellsKind : Type 0
  TellsKind = (answer ≡ answers.WrongKind → is_tag d ≡ true) × ((m : ℕ) → answer ≡ answers.Linked m → (is_tag d ≡ false) × (m ≡ n))

  of_tag : is_tag d ≡ true → answer ≡ answers.WrongKind → TellsKind
  of_tag tag is = ((λ w. tag), (λ m q. absurd (let clash : answers.WrongKind ≡ answers.Linked m = sym is ∙ q in cc)))

  of_linked : is_tag d ≡ false → answer ≡ answers.Linked n → TellsKind
  of_linked peer is =
      ((λ w. absurd (let clash : answers.Linked n ≡ answers.WrongKind = sym is ∙ w in cc)), (λ m q. (peer, one_number m (sym q ∙ is))))
    where
      one_number : (m : ℕ) → answers.Linked m ≡ answers.Linked n → m ≡ n
      one_number m e = cc

  of_other : (a : Answer) → answer ≡ a → (a ≡ answers.WrongKind → ⊥) → ((m : ℕ) → a ≡ answers.Linked m → ⊥) → TellsKind
  of_other a is wrong linked = ((λ w. absurd (wrong (sym is ∙ w))), (λ m q. absurd (linked m (sym is ∙ q))))

  of_standing : is_tag d ≡ false → (s : Standing) → TellsStanding (λ a. a ≡ answers.Linked n) TellsLoss s answer → TellsKind
  of_standing peer (Asking bad []) t = of_linked peer t
  of_standing peer (Asking bad (c ∷ cs)) t = absurd t
  of_standing peer (Broken asking.FieldLost cs) t = of_other (answers.LinkEnded losses.FieldLost) t (λ w. cc) (λ m q. cc)
  of_standing peer (Broken asking.SixBad cs) t = of_other (answers.LinkEnded losses.SixBad) t (λ w. cc) (λ m q. cc)
  of_standing peer (Broken asking.Memory cs) t = absurd t
  of_standing peer (Broken asking.Protocol cs) t = absurd t
  of_standing peer Astray t = absurd t

  kinds_by : (r : Result SeenKind PollFault) (behind : List Note) → ((k : SeenKind) → r ≡ Ok k → seen_of d ≡ k) → LinkEnds n general r behind answer → TellsKind
  kinds_by (Ok seen.T2) behind kind e = of_tag (tag_two d (kind seen.T2 refl)) e
  kinds_by (Ok seen.T4) behind kind e = of_tag (tag_four d (kind seen.T4 refl)) e
  kinds_by (Ok seen.T5) behind kind e = of_tag (tag_five d (kind seen.T5 refl)) e
  kinds_by (Ok seen.Peer) behind kind e = of_standing (no_tag d (kind seen.Peer refl)) (stand 0 (atr_frame general ∷ []) behind) e
  kinds_by (Err faults.Nobody) behind kind e = absurd cc
  kinds_by (Err faults.Disturbed) behind kind e = of_other answers.Disturbed (told_once answers.Disturbed answer e) (λ w. cc) (λ m q. cc)
  kinds_by (Err faults.FieldLost) behind kind e = of_other answers.FieldLost (told_once answers.FieldLost answer e) (λ w. cc) (λ m q. cc)
  kinds_by (Err faults.Memory) behind kind e = absurd cc
  kinds_by (Err faults.NotFound) behind kind e = of_other answers.NotFound (told_once answers.NotFound answer e) (λ w. cc) (λ m q. cc)
  kinds_by (Err faults.BadAnswer) behind kind e = absurd cc

module _ (s t : State) (g : Given) (e : Entry) (id : List ℕ) (miu window : ℕ) (d : Device) (ready : IsReady s.world.field.listeners) (step : LegalStep s g e t)
    (o : OpensPlaced s e id miu window d) where
  law : LinkingLaw s g.joins id miu window e.events e.answer
  law = let L : Command → Type 0 = λ c. AnswerLaw s g c e.events e.answer in subst L o.command step.answered

  -- the device is of the kind that is told
  kind_is : (k : SeenKind) (behind : List Note) → selecting (A id) (receptions e.events) ≡ Told (Ok k) behind → seen_of d ≡ k
  kind_is k behind told =
      let a : Moment WholeWorld = record { world = world_at_start s g.joins (Link id miu window); queue = s.queue; trace = [] } in
      let ident : IsIdent id = ident_of id d (with_sound s.world.field.listeners id d ready.tame.sound o.placed) o.named in
      kind_told id (linking (A id) (own_general miu)) (then_opens (own_general miu)) (λ hs. refl) (λ n. refl) (λ x ns. refl) a ident ready.tame ready.tidy refl e.events
      (subst (λ c. AreTurns bench_air (world_at_start s g.joins c) e.events) o.command step.front.turns)
      (subst (λ c. FatesFrom (changed s c).queue e.events) o.command step.front.fates) (subst (λ c. EachDue (due s g c) [] e.events) o.command step.front.each) d o.placed k behind told

  opens_complete : IsUndisturbedOpening id miu e.events → e.answer ≡ link_answer (length s.peers.links + 1) d
  opens_complete calm =
      let tells : LinkTells (A id) s.world.field.listeners (length s.peers.links + 1) (own_general miu) e.events e.answer = law.tells in
      let by : (k : SeenKind) → tells.polled ≡ Ok k → selecting (A id) (receptions e.events) ≡ Told (Ok k) tells.behind = λ k is. tells.selected ∙ ap (λ r. Told r tells.behind) is in
      link_ends id s.world.field.listeners d o.placed o.named (length s.peers.links + 1) (own_general miu) e.answer (λ lost. no_lost (breaks e.events) calm.lit (tells.lost.0 lost)) tells.polled
      tells.behind e.events calm.round
      (λ k is. kind_is k tells.behind (by k is)) (λ is left six. calm.waits tells.behind left (by seen.Peer is) six) tells.cause tells.ends

  kinds_so : TellsKind d (length s.peers.links + 1) (own_general miu) e.answer
  kinds_so =
      let tells : LinkTells (A id) s.world.field.listeners (length s.peers.links + 1) (own_general miu) e.events e.answer = law.tells in
      kinds_by d (length s.peers.links + 1) (own_general miu) e.answer tells.polled tells.behind (λ k is. kind_is k tells.behind (tells.selected ∙ ap (λ r. Told r tells.behind) is)) tells.ends

  -- without noise nothing keeps it from its answer
  none_six : noise e.events ≡ 0 → (behind : List Note) (left : List Signal) → selecting (A id) (receptions e.events) ≡ Told (Ok seen.Peer) behind
      → stand 0 (atr_frame (own_general miu) ∷ []) behind ≡ Broken asking.SixBad left → ⊥
  none_six none behind left told six =
      let tells : LinkTells (A id) s.world.field.listeners (length s.peers.links + 1) (own_general miu) e.events e.answer = law.tells in
      let n : ℕ = length s.peers.links + 1 in
      let same = one_end tells.polled (Ok seen.Peer) tells.behind behind (sym tells.selected ∙ told) in
      let ends : LinkEnds n (own_general miu) (Ok seen.Peer) behind e.answer =
      subst (λ ns. LinkEnds n (own_general miu) (Ok seen.Peer) ns e.answer) same.1 (subst (λ r. LinkEnds n (own_general miu) r tells.behind e.answer) same.0 tells.ends) in
      let ended : e.answer ≡ answers.LinkEnded losses.SixBad = subst (λ x. TellsStanding (λ a. a ≡ answers.Linked n) TellsLoss x e.answer) six ends in
      let some : 0 < noise e.events = tells.noisy ended in
      omega (arith, none, some)

  undisturbed : AllPass s.queue → IsUndisturbedOpening id miu e.events
  undisturbed pass =
      let none : noise e.events ≡ 0 = quiet_of s t g e (Link id miu window) step o.command refl pass in
      record {
        lit = no_breaks e.events none;
        round = first_round bench_air (world_at_start s g.joins (Link id miu window)) (due s g (Link id miu window)) e.events
            (subst (λ c. AreTurns bench_air (world_at_start s g.joins c) e.events) o.command step.front.turns)
            (subst (λ c. EachDue (due s g c) [] e.events) o.command step.front.each) refl (ap (λ c. due s g c (receptions e.events)) (sym o.command) ∙ step.over) none;
        waits = none_six none;
      }

pub links_quietly : (s t : State) (g : Given) (e : Entry) → IsReady s.world.field.listeners → LegalStep s g e t → AllPass s.queue → LinksQuietly s e
links_quietly s t g e ready step pass id miu window d o = opens_complete s t g e id miu window d ready step o (undisturbed s t g e id miu window d ready step o pass)

-- So it is wherever the lines of a script lead.
pub linkings_complete : LinkingsComplete
linkings_complete lines numbers journal s t g e id miu window d leads step o calm =
    opens_complete s t g e id miu window d (ready_behind (asking_lines 1 lines) first_state s leads.given journal first_ready leads.numbered leads.steps) step o calm

pub quiet_linkings : QuietLinkings
quiet_linkings lines numbers journal s t g e leads step pass =
    links_quietly s t g e (ready_behind (asking_lines 1 lines) first_state s leads.given journal first_ready leads.numbered leads.steps) step pass

pub kinds_told : KindsTold
kinds_told lines numbers journal s t g e id miu window d leads step o =
    kinds_so s t g e id miu window d (ready_behind (asking_lines 1 lines) first_state s leads.given journal first_ready leads.numbered leads.steps) step o
