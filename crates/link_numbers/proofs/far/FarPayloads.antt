-- What the numbers of PDUs that payloads show do at the end of a peer.
use Rattle.std.proofs.Common.{◌≡◌, ℕ, ◌<◌, ◌≤◌, List, [], ◌∷◌, ◌++◌, length, Bool, true, false, if◌then◌else◌, refl, sym, ◌∙◌, ap, subst, arith}
use Rattle.nfc_base.specs.Choosing.{first_number}
use Rattle.llcp_pdu.specs.declared.part.Part.{Part}
use Rattle.llcp_pdu.specs.declared.part.Part.TheVariants.{Symm, Ui, Connect, Disc, Cc, Dm, Frmr, Snl, Info, Rr, Rnr}
use Rattle.llcp_pdu.specs.Writing.{part_bytes}
use Rattle.llcp_link.specs.Fronts.{IsProperPrefix}
use Rattle.llcp_link.specs.Giving.{after_giving, given_parts, payload_of}
use Rattle.llcp_link.specs.State.{fresh_end}
use Rattle.llcp_link.specs.Taking.{taken_from}
use Rattle.peer_air.specs.PeerFars.{peer_ends}
use Rattle.snep_core.specs.Accord.{PeerState}
use Rattle.snep_core.specs.Server.{Received, no_sessions, serving}
use Rattle.snep_core.proofs.jobs.CallsKeep.{giving_keeps}
use Rattle.link_calls.specs.Staying.{Setting, setting_of}
use Rattle.link_calls.proofs.Settings.{answered_set}
use Rattle.link_numbers.specs.Shown.{cut_off, number}
use Rattle.link_numbers.proofs.far.EndTakes.{after_has, taken_has, unread_after, unread_given, unread_takes}
use Rattle.link_numbers.proofs.far.FarSame.{IsNumbered}
use Rattle.link_numbers.proofs.far.FarShows.{begun_front}
use Rattle.link_numbers.proofs.payloads.Payload.{cut_shown, later_shown, whole_shown}

pub part_some : (p : Part) → 0 < length (part_bytes p)
part_some Symm = omega arith
part_some (Ui d s info) = omega arith
part_some (Connect d s ps) = omega arith
part_some (Disc d s) = omega arith
part_some (Cc d s ps) = omega arith
part_some (Dm d s reason) = omega arith
part_some (Frmr d s r) = omega arith
part_some (Snl ps) = omega arith
part_some (Info d s ns nr info) = omega arith
part_some (Rr d s nr) = omega arith
part_some (Rnr d s nr) = omega arith

payload_some : (ps : List Part) → 0 < length (payload_of ps)
payload_some [] = part_some Symm
payload_some (p ∷ []) = part_some p
payload_some (p ∷ q ∷ ps) = omega arith

-- what stays of an end, by its setting and what it accepted
rested_as : Setting → List Received → PeerState
rested_as s a = record (fresh_end s.miu s.window (record { limit = s.limit; table = s.table; accepted = a; sessions = no_sessions })) { bound = s.bound }

rested_by : (a : PeerState) → peer_ends.rested a ≡ rested_as (setting_of a) a.service.accepted
unfolding rested_as
rested_by a = refl

-- giving accepts nothing
given_same : (n : ℕ) (l : PeerState) → (after_giving serving n l).service.accepted ≡ l.service.accepted
given_same n l = giving_keeps serving (λ s. s.accepted ≡ l.service.accepted) (λ s c miu h. h) n l refl

-- an end that took a payload reads what comes
abbrev pub reads : PeerState → List ℕ → Bool
reads a p = (taken_from serving a p).readable

-- the other end's MIU is one that an end may have
abbrev pub IsWithin : PeerState → Type 0
IsWithin a = a.far_miu ≤ 2176

miu_taken : (a : PeerState) (p : List ℕ) → IsWithin a → (taken_from serving a p).far_miu ≤ 2176
miu_taken a p ok = subst (λ k. k ≤ 2176) (sym (taken_has serving a.far_miu a p refl)) ok

stays_within : (a : PeerState) (p : List ℕ) (n : ℕ) → IsWithin a → IsWithin (peer_ends.left a p n)
stays_within a p n ok = subst (λ k. k ≤ 2176) (sym (after_has serving a.far_miu n (taken_from serving a p) (taken_has serving a.far_miu a p refl))) ok

further : (a : PeerState) (p : List ℕ) (n : ℕ) (xs b : List ℕ) → reads a p ≡ true → 2 ≤ length xs → IsProperPrefix xs (peer_ends.reply a p n) → IsProperPrefix xs b
    → IsProperPrefix xs (peer_ends.reply a p (number b))
further a p n xs b e two f z =
    subst (λ c. IsProperPrefix xs (peer_ends.reply a p (number c))) (sym z.is)
    (later_shown serving (taken_from serving a p) n xs z.byte z.more e two f)

cuts : (a : PeerState) (p : List ℕ) (n : ℕ) (xs ys : List ℕ) → reads a p ≡ true → 2 ≤ length xs → IsProperPrefix xs (peer_ends.reply a p n)
    → IsProperPrefix xs (peer_ends.reply a p (first_number (cut_off (xs ++ ys))))
cuts a p n xs ys e two f =
    let k = cut_shown serving (taken_from serving a p) n xs e two f in
    let is : first_number (cut_off (xs ++ ys)) ≡ k.0 = ap first_number (begun_front xs ys two ∙ k.1) in
    subst (λ v. IsProperPrefix xs (peer_ends.reply a p v)) (sym is) k.2

some : (a : PeerState) (p : List ℕ) (n : ℕ) → reads a p ≡ true → 0 < length (peer_ends.reply a p n)
some a p n e =
    let ps : List Part = (given_parts serving n (taken_from serving a p)).parts in
    subst (λ (b : Bool). 0 < length (if b then payload_of ps else [])) (sym e) (payload_some ps)

silent_on : (a : PeerState) (p : List ℕ) (n : ℕ) (q : List ℕ) → reads a p ≡ false → reads (peer_ends.left a p n) q ≡ false
silent_on a p n q e =
    ap (λ l. (taken_from serving l q).readable) (unread_after serving (taken_from serving a p) e n) ∙ ap (λ (l : PeerState). l.readable) (unread_takes serving (taken_from serving a p) e q) ∙ e

rests : (a : PeerState) (p : List ℕ) (n k : ℕ) → peer_ends.rested (peer_ends.left a p k) ≡ peer_ends.rested (peer_ends.left a p n)
rests a p n k =
    let l : PeerState = taken_from serving a p in
    rested_by (peer_ends.left a p k) ∙ ap (λ s. rested_as s (peer_ends.left a p k).service.accepted) (answered_set p k a ∙ sym (answered_set p n a))
    ∙ ap (rested_as (setting_of (peer_ends.left a p n))) (given_same k l ∙ sym (given_same n l)) ∙ sym (rested_by (peer_ends.left a p n))

-- So ends of peers do.
pub peer_numbered : IsNumbered peer_ends IsWithin reads
peer_numbered = record {
  good = stays_within;
  whole = λ a p n ok. whole_shown serving (taken_from serving a p) n (miu_taken a p ok);
  further = further;
  cut = cuts;
  some = some;
  silent = λ a p n k e. (unread_given serving (taken_from serving a p) e n, unread_after serving (taken_from serving a p) e k ∙ sym (unread_after serving (taken_from serving a p) e n));
  silent_on = silent_on;
  rests = rests;
}
