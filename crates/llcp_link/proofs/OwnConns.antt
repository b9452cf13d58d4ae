-- An open connection that an end asked for stays one.
use Rattle.std.proofs.Common.{◌≡◌, ◌≤◌, ℕ, Bool, true, false, List, [], ◌∷◌, ◌++◌, length, Some, None, arith, nat_lt, if◌then◌else◌}
use Rattle.std.proofs.lemmas.Bool.Decides.{nat_tests}
use Rattle.llcp_conn.specs.Conn.{ConnState, queued, refusal_to_submit, has_room}
use Rattle.llcp_conn.specs.declared.fault.ConnFault.TheVariants.{TooLong, WindowFull, NotOpen}
use Rattle.llcp_link.specs.Kept.{AllWithin, IsAsked}

within_more : (miu : ℕ) (us : List (List ℕ)) (u : List ℕ) → AllWithin miu us → length u ≤ miu → AllWithin miu (us ++ u ∷ [])
within_more miu [] u h k = (k, tt)
within_more miu (x ∷ xs) u h k = (h.0, within_more miu xs u h.1 k)

not_long : (live long room : Bool) → (if live then (if long then Some TooLong else (if room then None else Some WindowFull)) else Some NotOpen) ≡ None → long ≡ false
not_long true true room e = absurd cc
not_long true false room e = cc
not_long false long room e = absurd cc

pub asked_queued : (here there : ℕ) (c : ConnState) (u : List ℕ) → IsAsked here there c → refusal_to_submit c u ≡ None → IsAsked here there (queued c u)
asked_queued here there c u h e =
    let short : nat_lt c.far_miu (length u) ≡ false = not_long c.live (nat_lt c.far_miu (length u)) (has_room c) e in
    let fits : length u ≤ c.far_miu = grind (arith, nat_tests, short) in record {
      here_is = h.here_is;
      there_is = h.there_is;
      far_miu = h.far_miu;
      vr = h.vr;
      vsa = h.vsa;
      vra = h.vra;
      live = h.live;
      queue = within_more c.far_miu c.queue u h.queue fits;
    }
