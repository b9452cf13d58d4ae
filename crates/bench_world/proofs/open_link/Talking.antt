-- A call on the open link, whatever it asks.
use Rattle.std.proofs.Common.{◌≡◌, ◌⊎◌, List, Some, None, sym, ap, subst, inl, inr}
use Rattle.nfc_base.specs.Choosing.{Choosing}
use Rattle.nfc_base.specs.declared.carrier.EndCause.{EndCause}
use Rattle.nfc_base.specs.declared.carrier.EndCause.TheVariants as cause
use Rattle.air_core.specs.Turn.{Air}
use Rattle.dep_link.specs.Initiator.{InitState}
use Rattle.snep_core.specs.declared.job.OnSap.{OnSap}
use Rattle.snep_core.specs.Talk.{EndState, Ends}
use Rattle.link_calls.specs.Asking.{Call, Does, call_begins}
use Rattle.link_calls.specs.Calls.{IsCutShort, IsEndedBy, IsMade}
use Rattle.bench_script.specs.declared.command.Command.{Command}
use Rattle.bench_devices.specs.declared.device.Device.{Device}
use Rattle.bench_devices.specs.Device.{device_end}
use Rattle.bench_devices.specs.Keeping.{ghosts}
use Rattle.bench_world.specs.declared.entry.Answer.{Answer}
use Rattle.bench_world.specs.declared.entry.Answer.TheVariants as answers
use Rattle.bench_world.specs.declared.entry.Loss.{Loss}
use Rattle.bench_world.specs.declared.entry.Loss.TheVariants as losses
use Rattle.bench_world.specs.World.{FarEnd}
use Rattle.bench_world.specs.Asked.{asked_on_link}
use Rattle.bench_world.specs.Calls.{CallAdds, CallMayAdd, CallTells, told_jobs, told_loss}
use Rattle.bench_world.specs.Legal.{Accepts, AnswerBy, CallLaw, CutFront, CutLeft, CutCall, CutShort, Joins, joins_by, due_by, link_left, peers_left}
use Rattle.bench_world.specs.Halting.{HaltAdded, Halts, PeerHalts}
use Rattle.bench_world.specs.Links.{OpenLink}
use Rattle.bench_world.specs.Obeying.{Machines, IsCutOffBy, IsSettled, ObeyedBy, state_at, under}
use Rattle.bench_world.specs.Peers.{Peers}
use Rattle.bench_world.proofs.tags.Fronts.{Ends as FarEnds}
use Rattle.bench_world.proofs.open_link.OnCall.{IsCall, end, from_state, given_by}
use Rattle.bench_world.proofs.open_link.CallEnds.{Gone, Open, lost_obeyed, made_obeyed, of_end, short_cut}
use Rattle.bench_world.proofs.open_link.Saying.{Left, Says, loss_adds, loss_tells}
use Rattle.bench_world.proofs.open_link.Talks.{asks_none, on_link, short_of, still_on}

by_loss : (P : Answer → Type 0) → ((loss : Loss) → P (answers.LinkEnded loss)) → (w : EndCause) (answer : Answer) → told_loss w ≡ Some answer → P answer
by_loss P all cause.FieldLost answer e = let same : answers.LinkEnded losses.FieldLost ≡ answer = cc in subst P same (all losses.FieldLost)
by_loss P all cause.SixBad answer e = let same : answers.LinkEnded losses.SixBad ≡ answer = cc in subst P same (all losses.SixBad)
by_loss P all cause.Protocol answer e = absurd cc
by_loss P all cause.Memory answer e = absurd cc

module _ (air : Air Device) (ends : FarEnds) (peers : Peers) (l : OpenLink) (settled : IsSettled (under ends peers (Some l) air)) (c : Command) (call : Call)
    (asks : asked_on_link c ≡ Some (Does call))
    (may : Accepts (from_state air ends peers l settled) c) where
  pub call_is : IsCall air ends peers l settled c call
  call_is =
      let s = from_state air ends peers l settled in record {
        on_link = on_link c (Does call) asks;
        still = still_on s c (on_link c (Does call) asks);
        accepts = may;
        asks = asks_none s c (on_link c (Does call) asks);
        takes = λ joins. sym (ap (λ o. joins_by o c joins) asks);
        same = λ joins ns. ap (λ o. due_by o s (given_by joins) c ns) asks;
        link_on = λ joins es answer. ap (λ o. link_left o s joins c es (Some answer)) asks;
        link_off = λ joins es. ap (λ o. link_left o s joins c es None) asks;
        peers_on = λ joins es told. ap (λ o. peers_left o s joins c es told) asks;
      }

  module _ (joins : Joins) (b : Air Device) (j : InitState) (after : Choosing FarEnd) (client : EndState) where
    abbrev far : FarEnd
    far = end air ends peers l settled

    abbrev counted : Choosing FarEnd
    counted = record { end = far; numbers = joins.far }

    abbrev Old : Machines
    Old = under ends peers (Some l) air

    abbrev pub opens : List OnSap → Machines
    opens jobs = Open air ends peers l settled c call call_is joins b j after jobs client

    abbrev pub gone : Machines
    gone = Gone air ends peers l settled c call call_is joins b j after

    pub made_so : (jobs : List OnSap) (answer : Answer) → IsMade ghosts device_end joins.own (call_begins l.client call) air l.initiator counted b j after (Ends jobs client)
        → told_jobs call jobs ≡ Some answer
        → Says call far answer client after.end → ObeyedBy joins Old (opens jobs) c answer
    made_so jobs answer made told x =
        made_obeyed air ends peers l settled c call call_is joins b j after jobs client answer made told x.never
        (λ joined events facts.
        let law : CallLaw (from_state air ends peers l settled) joined l (Does call) c events answer = record {
          told = facts.told;
          came = facts.came;
          tells = of_end air ends peers l settled (λ e. CallTells call e answer) x.tells;
          more = x.more;
          adds = of_end air ends peers l settled (λ e. CallAdds call e answer x.more) x.adds;
          devices = facts.devices;
          ends = facts.adds x.more x.accepted;
        } in
        subst (λ o. AnswerBy o (from_state air ends peers l settled) (given_by joined) c events answer) (sym asks) law) x.accords

    pub lost_so : (why : EndCause) (answer : Answer) → IsEndedBy ghosts device_end joins.own (call_begins l.client call) air l.initiator counted b j after why → told_loss why ≡ Some answer
        → Left call far after.end → ObeyedBy joins Old gone c answer
    lost_so why answer ended told x =
        lost_obeyed air ends peers l settled c call call_is joins b j after why answer ended told
        (λ joined events facts.
        let law : CallLaw (from_state air ends peers l settled) joined l (Does call) c events answer = record {
          told = facts.told;
          came = facts.came;
          tells = of_end air ends peers l settled (λ e. CallTells call e answer) (by_loss (λ a. CallTells call far a) (loss_tells call far) why answer told);
          more = x.more;
          adds = of_end air ends peers l settled (λ e. CallAdds call e answer x.more)
              (by_loss (λ a. CallAdds call far a x.more) (λ loss. loss_adds call far loss x.more x.adds) why answer told);
          devices = facts.devices;
          ends = facts.adds x.more x.accepted;
        } in
        subst (λ o. AnswerBy o (from_state air ends peers l settled) (given_by joined) c events answer) (sym asks) law)

    pub short_so : IsCutShort ghosts device_end joins.own (call_begins l.client call) air l.initiator counted b j after → Left call far after.end → IsCutOffBy joins Old gone c
    short_so cut x =
        inr (by (short_cut air ends peers l settled c call call_is joins b j after cut
        (λ joined events devices adds_so stays came.
        let left : CutCall (from_state air ends peers l settled) joined l (Does call) c events = record {
          came = came;
          more = x.more;
          adds = of_end air ends peers l settled (λ e. CallMayAdd call e x.more) x.adds;
          devices = devices;
          ends = adds_so x.more x.accepted;
        } in
        subst (λ o. CutLeft o (from_state air ends peers l settled) joined c events) (sym asks) left)
        x.more x.accepted (subst (λ o. HaltAdded o far x.more) (sym asks) x.adds)))
      where
        by : CutFront joins (from_state air ends peers l settled) c b.trace (state_at gone) ⊎ PeerHalts joins (from_state air ends peers l settled) c b.trace (state_at gone)
            → CutShort joins (from_state air ends peers l settled) c b.trace (state_at gone) ⊎ Halts joins (from_state air ends peers l settled) c b.trace (state_at gone)
        by (inl f) = inl (short_of joins (from_state air ends peers l settled) c b.trace (state_at gone) (on_link c (Does call) asks) f)
        by (inr h) = inr (inl h)
