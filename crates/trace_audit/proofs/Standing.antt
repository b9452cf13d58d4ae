-- Where a script's lines lead, as much as their conditions ask is as the lines alone say: the same commands are accepted, and as many
-- peers are placed.
use Rattle.std.proofs.Common.{◌≡◌, ℕ, suc, List, [], ◌∷◌, map, if◌then◌else◌, refl, sym, ◌∙◌, ap, subst}
use Rattle.bench_script.specs.declared.command.Command.{Command}
use Rattle.bench_script.proofs.Spelling.{spells_one}
use Rattle.bench_devices.specs.AnyFrame.{peers_in}
use Rattle.bench_devices.specs.Device.{is_tag}
use Rattle.bench_devices.specs.declared.device.Device.{Device}
use Rattle.bench_world.specs.declared.entry.Entry.{Entry}
use Rattle.bench_world.specs.Journal.{LeadsTo}
use Rattle.bench_world.specs.Legal.{Accepts, Joins, State}
use Rattle.bench_world.specs.Taking.{AreSpelled, standing_of}
use Rattle.bench_world.proofs.devices.Shapes.{AreAlike, Shape, TakenAlike, accepts_too, legal_taken, shape}

-- how many peers there are, by their shapes
peers_by_shape : List Shape → ℕ
peers_by_shape [] = 0
peers_by_shape (x ∷ xs) = if x.tag then peers_by_shape xs else suc (peers_by_shape xs)

peers_shown : (ds : List Device) → peers_in ds ≡ peers_by_shape (map shape ds)
unfolding peers_by_shape
peers_shown [] = refl
peers_shown (d ∷ ds) = ap (λ n. if is_tag d then n else suc n) (peers_shown ds)

-- lines spell one list of commands
one_spelled : (ls : List (List ℕ)) (cs ds : List Command) → AreSpelled ls cs → AreSpelled ls ds → cs ≡ ds
one_spelled [] [] [] p q = refl
one_spelled [] [] (d ∷ ds) p q = absurd q
one_spelled [] (c ∷ cs) ds p q = absurd p
one_spelled (l ∷ ls) [] ds p q = absurd p
one_spelled (l ∷ ls) (c ∷ cs) [] p q = absurd q
one_spelled (l ∷ ls) (c ∷ cs) (d ∷ ds) p q = ap (λ x. x ∷ cs) (spells_one l c d p.0 q.0) ∙ ap (λ xs. d ∷ xs) (one_spelled ls cs ds p.1 q.1)

pub record StandsAlike (s t : State) : Type 0 where
  pub accepts : (c : Command) → Accepts s c → Accepts t c
  pub back : (c : Command) → Accepts t c → Accepts s c
  pub peers : peers_in s.world.field.listeners ≡ peers_in t.world.field.listeners

stands_so : (s t : State) → AreAlike s t → StandsAlike s t
stands_so s t alike = record {
  accepts = λ c. accepts_too s t c alike;
  back = λ c. accepts_too t s c (sym alike);
  peers = peers_shown s.world.field.listeners ∙ ap peers_by_shape alike ∙ sym (peers_shown t.world.field.listeners);
}

pub stands_alike : (lines : List (List ℕ)) (numbers : List Joins) (journal : List Entry) (last : State) (cs : List Command) → LeadsTo lines numbers journal last → AreSpelled lines cs
    → StandsAlike (standing_of cs) last
stands_alike lines numbers journal last cs leads spelled =
    let it : TakenAlike lines last = legal_taken lines numbers journal last leads in
    subst (λ xs. StandsAlike (standing_of xs) last) (one_spelled lines it.commands cs it.taken.spelled spelled) (stands_so (standing_of it.commands) last it.alike)
