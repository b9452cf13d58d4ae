-- The lines that tell what an audit found. Their form is this project's own.
use Rattle.std.specs.Prelude.{ℕ, zero, suc, ◌+◌, List, [], ◌∷◌, ◌++◌, codes, length}
use Rattle.std.specs.List.{flat_map}
use Rattle.std.specs.Fmt.{decimal}
use Rattle.snep_core.specs.Server.{Received as Accepted}
use Rattle.bench_script.specs.Canonical.{hex_text}
use Rattle.bench_world.specs.Legal.{State}
use Rattle.bench_world.specs.Obeying.{Benched}
use Rattle.bench_world.specs.Report.{source_text}
use Rattle.bench_world.specs.Stories.{gained_on}

-- the line of a report with which no run goes on
abbrev pub faulty_line : ℕ → List ℕ
faulty_line n = codes "faulty line " ++ decimal n ++ codes "\n"

-- that a report is legal, and how many entries it has
abbrev pub legal_line : ℕ → List ℕ
legal_line entries = codes "legal " ++ decimal entries ++ codes "\n"

-- the front of a line about a message that a peer accepted: the link, and the SAP that it came from, as an inbox tells
-- them
abbrev pub accepted_head : ℕ → ℕ → List ℕ
accepted_head link source = codes "accepted " ++ decimal link ++ source_text source ++ codes ":"

-- the line
abbrev pub accepted_line : ℕ → Accepted → List ℕ
accepted_line link m = accepted_head link m.source ++ (hex_text m.message ++ codes "\n")

-- all of a link
abbrev pub link_text : State → ℕ → List ℕ
link_text s link = flat_map (accepted_line link) (gained_on s link)

-- those of a link and of those behind it, so many in all
abbrev pub links_text : State → ℕ → ℕ → List ℕ
links_text s link zero = []
links_text s link (suc count) = link_text s link ++ links_text s (link + 1) count

-- of a legal report: how many entries it has, and what was accepted on each link
abbrev pub legal_text : Benched → List ℕ
legal_text b = legal_line (length b.journal) ++ links_text b.state 1 (length b.state.peers.links)

-- the same of a link's messages and, apart from them, their sources; for private calls
abbrev pub messages_text : ℕ → List (List ℕ) → List ℕ → List ℕ
messages_text link [] sources = []
messages_text link (m ∷ ms) [] = []
messages_text link (m ∷ ms) (s ∷ ss) = accepted_line link (record { source = s; message = m })
    ++ messages_text link ms ss
