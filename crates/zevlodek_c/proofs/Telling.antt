-- What is told of an end behind the payloads of a log.
use Rattle.std.proofs.Common.{◌≡◌, ◌<◌, ◌≤◌, ℕ, List, [], length, get_or, nat_lt, if◌then◌else◌, Bool, true, false, sym, subst, ap, ◌∙◌, refl, inl}
use Rattle.std.proofs.lemmas.Bool.{lt-ltb, le-ltb}
use Rattle.std.proofs.lemmas.List.{get_or_default, length-map}
use Rattle.snep_core.specs.Server.{Received, messages_of}
use Rattle.zevlodek_c.specs.declared.peer.Peer.{Peer}
use Rattle.zevlodek_c.specs.declared.showing.Told.{Told}
use Rattle.zevlodek_c.specs.Codes.{done, bad_argument}
use Rattle.zevlodek_c.specs.Showing.{Seen, shows, answers}
use Rattle.zevlodek_c.specs.Peer.{Answered, PeerTells, message_shown}
use Rattle.zevlodek_c.specs.Replaying.{IsReplay}

pub tells : (shown : Answered → List ℕ → Told → Seen) (p : Peer) (offers general log out : List ℕ) (told : Told) (a : Answered) (seen : Seen)
    → IsReplay p offers general log a → seen ≡ shown a out told → PeerTells shown p offers general log out told seen
tells shown p offers general log out told a seen r e = record {
  taken = λ os payloads sizes o s. inl (e ∙ ap (λ b. shown b out told) (r.same os payloads o s));
  no_log = λ served no. absurd (no r.spelled);
  refused = λ no. absurd (no r.served);
}

when : {A : Type 0} (b : Bool) (x y : A) → b ≡ true → x ≡ (if b then x else y)
when b x y e = subst (λ c. x ≡ (if c then x else y)) (sym e) refl

unless : {A : Type 0} (b : Bool) (x y : A) → b ≡ false → y ≡ (if b then x else y)
unless b x y e = subst (λ c. y ≡ (if c then x else y)) (sym e) refl

pub message_there : (index : ℕ) (a : Answered) (m out : List ℕ) (told : Told) → index < length (messages_of a.end.service.accepted)
    → m ≡ get_or (messages_of a.end.service.accepted) index m → shows done m out told ≡ message_shown index a out told
message_there index a m out told low is =
    let rs : List Received = a.end.service.accepted in
    let few : length (messages_of rs) ≡ length rs = length-map rs (λ (r : Received). r.message) in
    let there : nat_lt index (length rs) ≡ true = lt-ltb index (length rs) (subst (λ n. index < n) few low) in
    ap (λ n. shows done n out told) (is ∙ get_or_default (messages_of rs) index m [] low)
    ∙ when (nat_lt index (length rs)) (shows done (get_or (messages_of rs) index []) out told) (answers bad_argument out told) there

pub message_missing : (index : ℕ) (a : Answered) (out : List ℕ) (told : Told) → length (messages_of a.end.service.accepted) ≤ index
    → answers bad_argument out told ≡ message_shown index a out told
message_missing index a out told high =
    let rs : List Received = a.end.service.accepted in
    let few : length (messages_of rs) ≡ length rs = length-map rs (λ (r : Received). r.message) in
    let missing : nat_lt index (length rs) ≡ false = le-ltb index (length rs) (subst (λ n. n ≤ index) few high) in
    unless (nat_lt index (length rs)) (shows done (get_or (messages_of rs) index []) out told) (answers bad_argument out told) missing
