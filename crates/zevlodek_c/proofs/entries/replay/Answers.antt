use Rattle.std.proofs.Common.{rules, ◌≡◌, List, [], ◌∷◌, length, Option, Some, None, ap, sym, refl, ◌∙◌}
use Rattle.zevlodek_c.specs.Entries.{Entry, SpellsEntries, SpellsEntry, takes_all}
use Rattle.zevlodek_c.proofs.Chains.{IsLeft, left_behind, none_begins, nothing_left}
use Rattle.zevlodek_c.proofs.EntryLogs.{less_entry, none_takes, one_entry}
use Rattle.zevlodek_c.proofs.Spelled.{no_bytes}
use Rattle.zevlodek_c.proofs.entries.replay.Goals as goal

-- src/entries.rt:77:13
pub returns-in_default : goal.returns-in_default
returns-in_default g c = record {
  same = λ es s.
      let all : (more : List Entry) × SpellsEntries more c.loop-rest.rest.now
      × (takes_all g.E.Replayed.takes (Some c.args.end) es ≡ takes_all g.E.Replayed.takes (Some c.loop-rest.now) more)
      = c.loop-rest.invariant.goes es s in
      absurd (none_begins SpellsEntry c.loop-rest.rest.now (c.in_default.ensures.none (search rules)) (search rules) all.0 all.1);
  none = λ no. refl;
}

-- src/entries.rt:80:21
pub returns-in-None : goal.returns-in-None
returns-in-None g c = record {
  same = λ es s.
      let d : Entry = record { kind = c.in-Some.kind; content = c.in-Some.content.now } in
      let all : (more : List Entry) × SpellsEntries more c.loop-rest.rest.now
      × (takes_all g.E.Replayed.takes (Some c.args.end) es ≡ takes_all g.E.Replayed.takes (Some c.loop-rest.now) more)
      = c.loop-rest.invariant.goes es s in
      let left : IsLeft SpellsEntry d c.in-Some.left.now all.0 =
      left_behind SpellsEntry less_entry one_entry d c.loop-rest.rest.now c.in-Some.left.now (search rules) all.0 all.1 in
      let none : None ≡ g.E.Replayed.takes c.loop-rest.now d = search rules in
      sym (all.2 ∙ (ap (λ (xs : List Entry). takes_all g.E.Replayed.takes (Some c.loop-rest.now) xs) left.all_are
      ∙ (ap (λ (o : Option g.row.E.Denot). takes_all g.E.Replayed.takes o left.more) (sym none) ∙ none_takes g.E.Replayed.takes left.more)));
  none = λ no. refl;
}

-- src/entries.rt:75:5
pub loop-rest-preserved : goal.loop-rest-preserved
loop-rest-preserved g c =
    let d : Entry = record { kind = c.in-Some.kind; content = c.in-Some.content.now } in
    let spelled : SpellsEntry d c.loop-rest.rest.now c.in-Some.left.now = search rules in
    let took : Some c.in-Some-take.next ≡ g.E.Replayed.takes c.loop-rest.now d = search rules in
    record {
      whole = λ log. c.loop-rest.invariant.whole (d ∷ log.0, (c.in-Some.left.now, spelled, log.1));
      goes = λ es s.
          let all : (more : List Entry) × SpellsEntries more c.loop-rest.rest.now
          × (takes_all g.E.Replayed.takes (Some c.args.end) es ≡ takes_all g.E.Replayed.takes (Some c.loop-rest.now) more)
          = c.loop-rest.invariant.goes es s in
          let left : IsLeft SpellsEntry d c.in-Some.left.now all.0 =
          left_behind SpellsEntry less_entry one_entry d c.loop-rest.rest.now c.in-Some.left.now spelled all.0 all.1 in (
            left.more,
            left.spelled,
            all.2 ∙ (ap (λ (xs : List Entry). takes_all g.E.Replayed.takes (Some c.loop-rest.now) xs) left.all_are
                ∙ ap (λ (o : Option g.row.E.Denot). takes_all g.E.Replayed.takes o left.more) (sym took)),
          );
    }

-- src/entries.rt:70:1
pub returns : goal.returns
returns g c =
    let end : length c.loop-rest.rest.now ≡ 0 = search rules in
    record {
      same = λ es s.
          let all : (more : List Entry) × SpellsEntries more c.loop-rest.rest.now
          × (takes_all g.E.Replayed.takes (Some c.args.end) es ≡ takes_all g.E.Replayed.takes (Some c.loop-rest.now) more)
          = c.loop-rest.invariant.goes es s in
          sym (all.2 ∙ ap (λ (xs : List Entry). takes_all g.E.Replayed.takes (Some c.loop-rest.now) xs)
          (nothing_left SpellsEntry less_entry c.loop-rest.rest.now end all.0 all.1));
      none = λ no. absurd (no (c.loop-rest.invariant.whole ([], no_bytes c.loop-rest.rest.now end)));
    }
