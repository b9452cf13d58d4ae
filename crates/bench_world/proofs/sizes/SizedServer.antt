-- A server gives no unit that is longer than it is asked for; so a peer's end goes on as it is, and no payload of it is too long.
use Rattle.std.proofs.Common.{◌≤◌, ◌==◌, ℕ, List, [], ◌∷◌, length, take, Option, Some, None, arith, length-take}
use Rattle.std.specs.Prelude.{IfSome}
use Rattle.llcp_link.specs.State.{LlcState}
use Rattle.llcp_link.specs.Taking.{taken_from}
use Rattle.llcp_link.proofs.Ranged.{either}
use Rattle.peer_air.specs.PeerFars.{peer_ends}
use Rattle.snep_core.specs.Server.{ServerState, serving, session_of}
use Rattle.snep_core.specs.declared.session.Word.{Word}
use Rattle.snep_core.specs.declared.session.Word.TheVariants.{Answers, Offers, Resumes}
use Rattle.snep_core.specs.Session.{Sent, Session, popped, sent_from, sent_popped, sent_word}
use Rattle.bench_world.specs.Cutting.{GivesShort}
use Rattle.bench_world.proofs.sizes.SizedEnds.{general_fits}
use Rattle.bench_world.proofs.sizes.SizedGives.{after_short, gives_short, taken_short}

-- a unit of at most so many bytes, where one is sent
abbrev SentShort : ℕ → Sent → Type 0
SentShort miu x = IfSome x.unit (λ u. length u ≤ miu)

front_short : (n : ℕ) (xs : List ℕ) → length (take n xs) ≤ n
front_short n xs = let l = length-take n xs in omega (arith, l)

word_short : (miu : ℕ) (x : Session) (w : Word) → SentShort miu (sent_word miu x w)
word_short miu x (Answers answer) = front_short miu _
word_short miu x (Offers bytes) = front_short miu bytes
word_short miu x Resumes = either {X = Sent} (SentShort miu) (length x.waiting == 0) _ _ (λ e. front_short miu _) (λ e. front_short miu x.waiting)

popped_short : (miu : ℕ) (x : Session) (o : Option Word) → SentShort miu (sent_popped miu x o)
popped_short miu x None = tt
popped_short miu x (Some w) = word_short miu x w

going_short : (miu : ℕ) (x : Session) (bytes : List ℕ) → SentShort miu (sent_from miu x bytes)
going_short miu x [] = popped_short miu (popped x x.due).session (popped x x.due).word
going_short miu x (b ∷ bs) = front_short miu (b ∷ bs)

unit_fits : (s : ServerState) (client miu : ℕ) → IfSome (serving.due s client miu) (λ u. length u ≤ miu)
unit_fits s client miu = going_short miu (session_of s client) (session_of s client).going

-- So does a peer's end.
pub left_short : (l : LlcState ServerState) (payload : List ℕ) (n : ℕ) → GivesShort l → GivesShort (peer_ends.left l payload n)
left_short l payload n h = after_short serving unit_fits n (taken_from serving l payload) (taken_short serving l payload h)

pub restarted_short : (l : LlcState ServerState) (general : List ℕ) → GivesShort (peer_ends.restarted l general)
restarted_short l general = record { miu = general_fits general; queue = tt; served = tt; own = tt }

pub rested_short : (l : LlcState ServerState) → GivesShort (peer_ends.rested l)
rested_short l = record { miu = (let z : 128 ≤ 2176 = omega arith in z); queue = tt; served = tt; own = tt }

-- its replies
pub reply_short : (l : LlcState ServerState) (payload : List ℕ) (n : ℕ) → GivesShort l → length (peer_ends.reply l payload n) ≤ 2178
reply_short l payload n h = gives_short serving unit_fits n (taken_from serving l payload) (taken_short serving l payload h)
