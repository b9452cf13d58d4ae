-- What is told of the messages that a peer's server accepted, by the peer's links (this project's own).
use Rattle.std.specs.Prelude.{ℕ, ◌+◌, Bool, true, false, not, ◌&&◌, ◌||◌, nat_eq, nat_lt, nat_le, List, [], ◌∷◌, ◌++◌}
use Rattle.std.specs.Prelude.{map, if◌then◌else◌, Option, Some, None}
use Rattle.snep_core.specs.Server.{Received as Accepted}
use Rattle.bench_world.specs.declared.entry.Received.{Received}
use Rattle.bench_world.specs.World.{FarEnd}
use Rattle.bench_world.specs.declared.inbox.LinkRange.{LinkRange}

abbrev pub is_before : ℕ → Option ℕ → Bool
is_before n None = true
is_before n (Some end) = nat_lt n end

-- a place of a peer's list of accepted messages lies in the range of a link
abbrev pub is_in : LinkRange → ℕ → Bool
is_in l n = nat_le l.start n && is_before n l.end

-- it lies in that of one of this peer's links
abbrev pub came_on_link : List LinkRange → ℕ → ℕ → Bool
came_on_link [] peer n = false
came_on_link (l ∷ ls) peer n = (nat_eq l.peer peer && is_in l n) || came_on_link ls peer n

-- of a list whose first place has this number, what stands at places that are chosen
abbrev pub chosen : {X : Type 0} → (ℕ → Bool) → ℕ → List X → List X
chosen choose n [] = []
chosen choose n (x ∷ xs) = if choose n then x ∷ chosen choose (n + 1) xs else chosen choose (n + 1) xs

-- what a peer's list gained in the range of a link
abbrev pub gained_in : LinkRange → List Accepted → List Accepted
gained_in l ms = chosen (is_in l) 0 ms

-- messages as they are told of a link, each with the SAP that it came from
abbrev pub received_on : ℕ → List Accepted → List Received
received_on link ms = map (λ (m : Accepted). record { link = link; source = m.source; message = m.message }) ms

-- for each link of this peer, ascending, the messages of its range; the first link of the list has this number
abbrev pub told_by_links : ℕ → List LinkRange → ℕ → List Accepted → List Received
told_by_links n [] peer ms = []
told_by_links n (l ∷ ls) peer ms = (if nat_eq l.peer peer then received_on n (gained_in l ms) else [])
    ++ told_by_links (n + 1) ls peer ms

-- first what came on no link, as of link 0, and then what came on each
abbrev pub inbox_of : List LinkRange → ℕ → List Accepted → List Received
inbox_of links peer ms = received_on 0 (chosen (λ n. not (came_on_link links peer n)) 0 ms)
    ++ told_by_links 1 links peer ms

-- what is told of a peer by its number and its far end; a peer has both
abbrev pub inbox_at : List LinkRange → Option ℕ → Option FarEnd → List Received
inbox_at links (Some peer) (Some end) = inbox_of links peer end.service.accepted
inbox_at links (Some peer) None = []
inbox_at links None end = []
