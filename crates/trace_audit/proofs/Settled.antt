-- What an audit says is settled by the lines and the report.
use Rattle.std.proofs.Common.{◌≡◌, ℕ, ◌<◌, ◌≤◌, inl, inr, List, [], ◌∷◌, ◌++◌, append_assoc, drop, length, take, take-append-drop, sym, ◌∙◌, ap, subst, arith}
use Rattle.std.proofs.lemmas.Bool.{cases_lt}
use Rattle.std.proofs.Math.Seq.{take-take}
use Rattle.nfc_io.specs.Lines.{joined, whole_lines}
use Rattle.bench_script.specs.declared.command.Command.{Command}
use Rattle.bench_script.proofs.Spelling.{spells_one}
use Rattle.bench_world.specs.Legal.{State, changed, first_state}
use Rattle.bench_world.specs.Taking.{AreAccepted, AreSpelled, standing_from}
use Rattle.trace_audit.specs.Auditing.{AllShow, BeginsGood, IsAudited, IsFaultyAt, IsUnauditedAt, NoneUnaudited, OneFault, OneUnaudited, first_lines}
use Rattle.nfc_base.specs.Prefix.{IsPrefix}
use Rattle.trace_audit.proofs.ReportLines.{joined_append}

-- fewer first lines are a front of more
fewer_first : (k m : ℕ) (text : List ℕ) → k ≤ m → IsPrefix (first_lines k text) (first_lines m text)
fewer_first k m text less =
    let ws : List (List ℕ) = whole_lines text in
    let first : take k (take m ws) ≡ take k ws = take-take k m ws less in (
      joined (drop k (take m ws)),
      ap joined (sym (take-append-drop k (take m ws)) ∙ ap (λ x. x ++ drop k (take m ws)) first) ∙ joined_append (take k ws) (drop k (take m ws)),
    )

begins_fewer : (lines : List (List ℕ)) (k m : ℕ) (report : List ℕ) → k ≤ m → BeginsGood lines (first_lines m report) → BeginsGood lines (first_lines k report)
begins_fewer lines k m report less b =
    let front = fewer_first k m report less in
    record {
      text = b.text;
      good = b.good;
      begins = (front.0 ++ b.begins.0, b.begins.1 ∙ ap (λ x. x ++ b.begins.0) front.1 ∙ append_assoc (first_lines k report) front.0 b.begins.0);
    }

-- the first fault isn't before another
no_earlier : (lines : List (List ℕ)) (report : List ℕ) (n m : ℕ) (p : IsFaultyAt lines report n) (q : IsFaultyAt lines report m) → p.good < q.good → ⊥
no_earlier lines report n m p q less =
    let upto : n ≤ q.good = omega (arith, p.next) in
    p.ends (omega (arith, q.within, upto)) (begins_fewer lines n q.good report upto q.begins)

pub one_fault : OneFault
one_fault = λ lines report n m p q.
    elim (cases_lt p.good q.good) [
      | inl less ↦ absurd (no_earlier lines report n m p q less)
      | inr most ↦ elim (cases_lt q.good p.good) [
        | inl less ↦ absurd (no_earlier lines report m n q p less)
        | inr also ↦ omega (arith, p.next, q.next, most, also)
      ]
    ]

-- a line among audited ones is audited behind those before it
audited_at : (s : State) (before : List (List ℕ)) (line : List ℕ) (after : List (List ℕ)) (cs ds : List Command) → AreSpelled (before ++ line ∷ after) cs → AreAccepted s cs → AllShow s cs
    → AreSpelled before ds
    → IsAudited (standing_from s ds) line
audited_at s [] line after [] ds p q shows r = absurd p
audited_at s [] line after (c ∷ cs) [] p q shows r = (c, p.0, (q.0, shows.0))
audited_at s [] line after (c ∷ cs) (d ∷ ds) p q shows r = absurd r
audited_at s (l ∷ ls) line after [] ds p q shows r = absurd p
audited_at s (l ∷ ls) line after (c ∷ cs) [] p q shows r = absurd r
audited_at s (l ∷ ls) line after (c ∷ cs) (d ∷ ds) p q shows r =
    let same : c ≡ d = spells_one l c d p.0 r.0 in
    subst (λ x. IsAudited (standing_from (changed s x) ds) line) same (audited_at (changed s c) ls line after cs ds p.1 q.1 shows.1 r.1)

pub none_unaudited : NoneUnaudited
none_unaudited = λ lines commands n all u.
    let spelled : AreSpelled (u.before ++ u.line ∷ u.after) commands = subst (λ ls. AreSpelled ls commands) u.parts all.taken.spelled in
    u.refused (audited_at first_state u.before u.line u.after commands u.commands spelled all.taken.accepted all.shown u.audited.taken.spelled)

-- a list that is parted twice
parted_twice : (b c a d : List (List ℕ)) (l k : List ℕ) → b ++ l ∷ a ≡ c ++ k ∷ d → length b < length c → (rest : List (List ℕ)) × (c ≡ b ++ l ∷ rest)
parted_twice [] [] a d l k e less = absurd (omega arith)
parted_twice [] (y ∷ c) a d l k e less = (let first : y ≡ l = cc in (c, ap (λ x. x ∷ c) first))
parted_twice (x ∷ b) [] a d l k e less = absurd (omega arith)
parted_twice (x ∷ b) (y ∷ c) a d l k e less =
    let first : y ≡ x = cc in
    let behind : b ++ l ∷ a ≡ c ++ k ∷ d = cc in
    let more = parted_twice b c a d l k behind (omega arith) in
    (more.0, ap (λ z. z ∷ c) first ∙ ap (λ zs. x ∷ zs) more.1)

no_line_before : (lines : List (List ℕ)) (n m : ℕ) (u : IsUnauditedAt lines n) (v : IsUnauditedAt lines m) → length u.before < length v.before → ⊥
no_line_before lines n m u v less =
    let parts = parted_twice u.before v.before u.after v.after u.line v.line (sym u.parts ∙ v.parts) less in
    none_unaudited v.before v.commands n v.audited (record {
      before = u.before;
      line = u.line;
      after = parts.0;
      parts = parts.1;
      number = u.number;
      commands = u.commands;
      audited = u.audited;
      refused = u.refused;
    })

pub one_unaudited : OneUnaudited
one_unaudited = λ lines n m u v.
    elim (cases_lt (length u.before) (length v.before)) [
      | inl less ↦ absurd (no_line_before lines n m u v less)
      | inr most ↦ elim (cases_lt (length v.before) (length u.before)) [
        | inl less ↦ absurd (no_line_before lines m n v u less)
        | inr also ↦ omega (arith, u.number, v.number, most, also)
      ]
    ]
