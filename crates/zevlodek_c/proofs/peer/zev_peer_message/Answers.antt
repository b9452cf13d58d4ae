use Rattle.std.proofs.Common.{rules, ◌≡◌, ◌<◌, ◌≤◌, ℕ, List, length, get_or, to_z, of_z, w32, ◌∙◌}
use Rattle.snep_core.specs.Server.{messages_of}
use Rattle.zevlodek_c.specs.Codes.{bad_argument, done}
use Rattle.zevlodek_c.specs.Showing.{answers, shows}
use Rattle.zevlodek_c.specs.Peer.{Answered, message_shown}
use Rattle.zevlodek_c.specs.Replaying.{IsReplay}
use Rattle.zevlodek_c.proofs.Telling.{message_missing, message_there, tells}
use Rattle.zevlodek_c.proofs.peer.zev_peer_message.Goals as goal

-- src/peer.rt:225:1
pub returns-then-index-accepted : goal.returns-then-index-accepted
returns-then-index-accepted c =
    let a : Answered = record { end = c.replayed.inside.end; reply = c.replayed.inside.reply.items } in
    let m : List ℕ = c.index-accepted-index.result in
    let is : IsReplay c.args.peer.now c.args.offers.now c.args.general.now c.args.log.now a = search rules in
    let low : c.args.index < length (messages_of a.end.service.accepted) = search rules in
    let at : m ≡ get_or (messages_of a.end.service.accepted) c.args.index m = search rules in
    let same : to_z w32 (of_z w32 c.show.result) ≡ c.show.result = search rules in
    let shown : record { answer = to_z w32 (of_z w32 c.show.result); out = c.show.new.out; told = c.show.new.told } ≡ shows done m c.args.out.now c.args.told.now
    = search rules in
    tells (message_shown c.args.index) c.args.peer.now c.args.offers.now c.args.general.now c.args.log.now c.args.out.now c.args.told.now a
    (record { answer = to_z w32 (of_z w32 c.show.result); out = c.show.new.out; told = c.show.new.told }) is
    (shown ∙ message_there c.args.index a m c.args.out.now c.args.told.now low at)

-- src/peer.rt:212:1
pub returns : goal.returns
returns c =
    let a : Answered = record { end = c.replayed.inside.end; reply = c.replayed.inside.reply.items } in
    let is : IsReplay c.args.peer.now c.args.offers.now c.args.general.now c.args.log.now a = search rules in
    let high : length (messages_of a.end.service.accepted) ≤ c.args.index = search rules in
    tells (message_shown c.args.index) c.args.peer.now c.args.offers.now c.args.general.now c.args.log.now c.args.out.now c.args.told.now a
    (answers bad_argument c.args.out.now c.args.told.now) is (message_missing c.args.index a c.args.out.now c.args.told.now high)
