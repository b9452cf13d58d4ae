use Rattle.std.proofs.Common.{◌≡◌, ◌<◌, ℕ, List, map, length, Option, Some, None, refl, sym, ◌∙◌, ap, subst}
use Rattle.std.specs.Prelude.{◌++◌, get_or, take, drop, IfSome}
use Rattle.std.specs.Vec.{vec_len, with_items}
use Rattle.std.proofs.Math.Seq.{take-append_seam}
use Rattle.std.proofs.lemmas.List.{length-map, map-set}
use Rattle.far_air.specs.FarEnds.{rests}
use Rattle.peer_air.specs.PeerFars.{peer_ends}
use Rattle.air_core.specs.Turn.{Air}
use Rattle.bench_devices.specs.declared.device.Device.{Device}
use Rattle.bench_world.specs.Obeying.{Machines, taken_out}
use Rattle.bench_world.specs.Opened.{AreNumbered}
use Rattle.bench_world.specs.Peers.{next_number, set_under, with_gone}
use Rattle.bench_world.specs.World.{FarEnd}
use Rattle.bench_world.proofs.devices.Peering.{any_other}
use Rattle.bench_world.proofs.devices.PlacesKept.{below_at}
use Rattle.bench_world.proofs.machines.Machines.take_out.Goals as goal

pub keep_under-requires : goal.keep_under-requires
keep_under-requires c =
    let m : Machines = record {
      air = c.self.inside.field;
      ends = c.self.inside.ends.items;
      peers = record { numbers = c.self.inside.numbers.items; gone = map (rests peer_ends) c.self.inside.gone.items; links = c.self.inside.links.items };
      link = c.self.inside.link;
    } in
    let is : m ≡ c.args.self.now = c.self.view_is in
    let apart : AreNumbered (next_number m.peers) m.peers.numbers = subst (λ (x : Machines). AreNumbered (next_number x.peers) x.peers.numbers) (sym is) c.requires.apart in
    let within : c.args.place < length m.peers.numbers = subst (λ (x : Machines). c.args.place < length x.peers.numbers) (sym is) c.requires.number in
    let many : length m.peers.gone ≡ length c.deref_mut.result.now = length-map c.self.inside.gone.items (rests peer_ends) ∙ ap length (sym c.deref_mut.ensures.value) in
    let there : c.remove-number.result ≡ get_or m.peers.numbers c.args.place None = c.remove-number.ensures.value ∙ any_other m.peers.numbers c.args.place c.remove-number.result None within in
    number_in c.remove-number.result there (λ p at. subst (λ n. p < n) many (below_at (next_number m.peers) m.peers.numbers c.args.place p apart at))
  where
    number_in : {n : ℕ} {q : Option ℕ} (o : Option ℕ) → o ≡ q → ((p : ℕ) → q ≡ Some p → p < n) → IfSome o (λ p. p < n)
    number_in None is below = tt
    number_in (Some p) is below = below p (sym is)

-- what stays of far ends, of which one is set
rests_under : (number : Option ℕ) (end : Option FarEnd) (os : List (Option FarEnd)) → map (rests peer_ends) (set_under number end os)
    ≡ set_under number (rests peer_ends end) (map (rests peer_ends) os)
rests_under None end os = refl
rests_under (Some n) end os = map-set (rests peer_ends) os n end

pub returns : goal.returns
returns c =
    let m : Machines = record {
      air = c.self.inside.field;
      ends = c.self.inside.ends.items;
      peers = record { numbers = c.self.inside.numbers.items; gone = map (rests peer_ends) c.self.inside.gone.items; links = c.self.inside.links.items };
      link = c.self.inside.link;
    } in
    let is : m ≡ c.args.self.now = c.self.view_is in
    let ends : c.args.place < length m.ends = subst (λ (x : Machines). c.args.place < length x.ends) (sym is) c.requires.end in
    let within : c.args.place < length m.peers.numbers = subst (λ (x : Machines). c.args.place < length x.peers.numbers) (sym is) c.requires.number in
    let number : c.remove-number.result ≡ get_or m.peers.numbers c.args.place None = c.remove-number.ensures.value ∙ any_other m.peers.numbers c.args.place c.remove-number.result None within in
    let end : c.remove-end.result ≡ get_or m.ends c.args.place None = c.remove-end.ensures.value ∙ any_other m.ends c.args.place c.remove-end.result None ends in
    let kept : map (rests peer_ends) c.keep_under.new.gone ≡ with_gone (get_or m.peers.numbers c.args.place None) (get_or m.ends c.args.place None) m.peers.gone =
    ap (map (rests peer_ends)) (c.keep_under.ensures.kept ∙ ap (set_under c.remove-number.result c.remove-end.result) c.deref_mut.ensures.value)
    ∙ rests_under c.remove-number.result c.remove-end.result c.self.inside.gone.items
    ∙ ap (λ n. with_gone n c.remove-end.result m.peers.gone) number ∙ ap (λ o. with_gone (get_or m.peers.numbers c.args.place None) o m.peers.gone) end in
    let M : Air Device → List (Option FarEnd) → List (Option ℕ) → List (Option FarEnd) → Machines =
    λ a es ns gs. record { air = a; ends = es; peers = record { numbers = ns; gone = gs; links = m.peers.links }; link = m.link } in
    let out : M c.take_out.new.self c.remove-end.new.self.items c.remove-number.new.self.items (map (rests peer_ends) c.keep_under.new.gone) ≡ taken_out m c.args.place =
    ap (λ a. M a c.remove-end.new.self.items c.remove-number.new.self.items (map (rests peer_ends) c.keep_under.new.gone)) c.take_out.ensures.left
    ∙ ap (λ es. M (taken_out m c.args.place).air es c.remove-number.new.self.items (map (rests peer_ends) c.keep_under.new.gone)) c.remove-end.ensures.items
    ∙ ap (λ ns. M (taken_out m c.args.place).air (taken_out m c.args.place).ends ns (map (rests peer_ends) c.keep_under.new.gone)) c.remove-number.ensures.items
    ∙ ap (M (taken_out m c.args.place).air (taken_out m c.args.place).ends (taken_out m c.args.place).peers.numbers) kept in
    let now : List (Option FarEnd) = c.keep_under.new.gone in
    let long : length now ≡ vec_len c.self.inside.gone = c.keep_under.ensures.len ∙ c.deref_mut.ensures.len in
    let same : (with_items c.self.inside.gone now).items ≡ now =
    ap (λ n. take n (now ++ drop (length now) c.self.inside.gone.items)) (sym long) ∙ take-append_seam now (drop (length now) c.self.inside.gone.items) in
    ap (λ gs. M c.take_out.new.self c.remove-end.new.self.items c.remove-number.new.self.items (map (rests peer_ends) gs)) same
    ∙ out ∙ ap (λ x. taken_out x c.args.place) is
