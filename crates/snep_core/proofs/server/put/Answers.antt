use Rattle.std.proofs.Common.{rules, ◌≡◌, ◌<◌, ℕ, List, [], ◌∷◌, ◌++◌, length, set, get_or, Some, None, sym, ◌∙◌, ap, subst}
use Rattle.snep_core.specs.Session.{Offer, AreShort}
use Rattle.snep_core.specs.Server.{place_of}
use Rattle.snep_core.proofs.sessions.Offers.{place_there, offered_new, short_set, short_more}
use Rattle.snep_core.proofs.server.put.Goals as goal

pub index_mut-requires : goal.index_mut-requires
index_mut-requires c =
    let key : List ℕ = c.args.key.now in
    let table : List Offer = c.args.table.now.items in
    let found : place_of key table ≡ Some c.in-Some.place = search rules in
    let low : c.in-Some.place < length table = (place_there table key c.args.value (record { key = key; value = key }) c.in-Some.place found).0 in
    search rules

pub returns-in-Some-clause-ok : goal.returns-in-Some-clause-ok
returns-in-Some-clause-ok c =
    let key : List ℕ = c.args.key.now in
    let table : List Offer = c.args.table.now.items in
    let old : Offer = c.index_mut.result.now in
    let found : place_of key table ≡ Some c.in-Some.place = search rules in
    let same : c.behind-table.inside.key ≡ (get_or table c.in-Some.place old).key =
    ap (λ (o : Offer). o.key) (c.behind-table.view_is ∙ c.index_mut.ensures.value) in
    ap (λ k. set table c.in-Some.place (record { key = k; value = c.args.value })) same
    ∙ sym (place_there table key c.args.value old c.in-Some.place found).1

pub returns-in-Some-clause-short : goal.returns-in-Some-clause-short
returns-in-Some-clause-short c =
    short_set c.args.table.now.items c.in-Some.place (record { key = c.behind-table.inside.key; value = c.args.value }) c.requires.short c.requires.value

pub returns-in_ok-push-in-None-clause-ok : goal.returns-in_ok-push-in-None-clause-ok
returns-in_ok-push-in-None-clause-ok c =
    let key : List ℕ = c.args.key.now in
    let table : List Offer = c.args.table.now.items in
    let none : place_of key table ≡ None = search rules in
    let pushed : c.push.new.self.items ≡ table ++ record { key = key; value = c.args.value } ∷ [] = search rules in
    pushed ∙ sym (offered_new table key c.args.value none)

pub returns-in_ok-push-in-None-clause-short : goal.returns-in_ok-push-in-None-clause-short
returns-in_ok-push-in-None-clause-short c =
    let key : List ℕ = c.args.key.now in
    let table : List Offer = c.args.table.now.items in
    let pushed : c.push.new.self.items ≡ table ++ record { key = key; value = c.args.value } ∷ [] = search rules in
    subst AreShort (sym pushed) (short_more table (record { key = key; value = c.args.value }) c.requires.short c.requires.value)
