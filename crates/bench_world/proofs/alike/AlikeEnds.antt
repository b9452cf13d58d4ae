-- What the laws read of far ends at the places of devices, where the dark leaves the same of them: which end a number and an identifier
-- name, how many messages it accepted, and how a new link begins there.
use Rattle.std.proofs.Common.{◌≡◌, ℕ, List, [], ◌∷◌, map, Bool, true, false, nat_eq, if◌then◌else◌, Option, Some, None, refl, sym, ◌∙◌, ap}
use Rattle.std.specs.Prelude.{option_map}
use Rattle.std.specs.Cmp.Lexicographic.{pointwise}
use Rattle.llcp_link.specs.State.{restarted}
use Rattle.snep_core.specs.Server.{serving}
use Rattle.far_air.specs.FarEnds.{first_far, later_fars, rests}
use Rattle.peer_air.specs.PeerFars.{peer_ends}
use Rattle.bench_devices.specs.declared.device.Device.{Device}
use Rattle.bench_devices.specs.Device.{device_darkened, device_id}
use Rattle.bench_world.specs.declared.inbox.LinkRange.{LinkRange}
use Rattle.bench_world.specs.Inbox.{inbox_at}
use Rattle.bench_world.specs.Links.{is_number, end_numbered, accepted_by, accepted_at, with_link, with_link_if}
use Rattle.bench_world.specs.Peers.{Peers, placed_under, without_place, with_place_changed, set_under, without_number, end_offered}
use Rattle.bench_world.specs.World.{FarEnd}
use Rattle.bench_world.proofs.alike.AlikeDevices.{SameDevices, id_dark}

-- what stays of a far end without a link
abbrev pub rest : Option FarEnd → Option FarEnd
rest o = rests peer_ends o

-- Far ends are the same where they rest.
abbrev pub SameEnds : List (Option FarEnd) → List (Option FarEnd) → Type 0
SameEnds os ps = map rest os ≡ map rest ps

-- At a place, by a number and by an identifier, stands what rests of the end that stands there.
first_rests : (os : List (Option FarEnd)) → first_far (map rest os) ≡ rest (first_far os)
first_rests [] = refl
first_rests (o ∷ os) = refl

later_rests : (os : List (Option FarEnd)) → later_fars (map rest os) ≡ map rest (later_fars os)
later_rests [] = refl
later_rests (o ∷ os) = refl

numbered_rests : (n : ℕ) (ns : List (Option ℕ)) (os : List (Option FarEnd)) → end_numbered n ns (map rest os) ≡ rest (end_numbered n ns os)
numbered_rests n [] os = refl
numbered_rests n (p ∷ ps) os =
    ap (λ x. if is_number n p then x else end_numbered n ps (later_fars (map rest os))) (first_rests os)
    ∙ ap (λ xs. if is_number n p then rest (first_far os) else end_numbered n ps xs) (later_rests os)
    ∙ by_number (is_number n p) (numbered_rests n ps (later_fars os))
  where
    by_number : (v : Bool) → end_numbered n ps (map rest (later_fars os)) ≡ rest (end_numbered n ps (later_fars os))
        → (if v then rest (first_far os) else end_numbered n ps (map rest (later_fars os))) ≡ rest (if v then first_far os else end_numbered n ps (later_fars os))
    by_number true more = refl
    by_number false more = more

placed_rests : (id : List ℕ) (ds : List Device) (os : List (Option FarEnd)) → placed_under id ds (map rest os) ≡ rest (placed_under id ds os)
placed_rests id [] os = refl
placed_rests id (d ∷ ds) os =
    ap (λ x. if pointwise nat_eq (device_id d) id then x else placed_under id ds (later_fars (map rest os))) (first_rests os)
    ∙ ap (λ xs. if pointwise nat_eq (device_id d) id then rest (first_far os) else placed_under id ds xs) (later_rests os)
    ∙ by_name (pointwise nat_eq (device_id d) id) (placed_rests id ds (later_fars os))
  where
    by_name : (v : Bool) → placed_under id ds (map rest (later_fars os)) ≡ rest (placed_under id ds (later_fars os))
        → (if v then rest (first_far os) else placed_under id ds (map rest (later_fars os))) ≡ rest (if v then first_far os else placed_under id ds (later_fars os))
    by_name true more = refl
    by_name false more = more

-- Likewise where the end at the place of an identifier is taken away, or its server is offered a value.
without_rests : (id : List ℕ) (ds : List Device) (os : List (Option FarEnd)) → without_place id ds (map rest os) ≡ map rest (without_place id ds os)
without_rests id [] os = refl
without_rests id (d ∷ ds) os =
    ap (λ x. if pointwise nat_eq (device_id d) id then later_fars (map rest os) else x ∷ without_place id ds (later_fars (map rest os))) (first_rests os)
    ∙ ap (λ xs. if pointwise nat_eq (device_id d) id then xs else rest (first_far os) ∷ without_place id ds xs) (later_rests os)
    ∙ by_name (pointwise nat_eq (device_id d) id) (without_rests id ds (later_fars os))
  where
    by_name : (v : Bool) → without_place id ds (map rest (later_fars os)) ≡ map rest (without_place id ds (later_fars os))
        → (if v then map rest (later_fars os) else rest (first_far os) ∷ without_place id ds (map rest (later_fars os)))
        ≡ map rest (if v then later_fars os else first_far os ∷ without_place id ds (later_fars os))
    by_name true more = refl
    by_name false more = ap (λ xs. rest (first_far os) ∷ xs) more

offered_rests : (key value : List ℕ) (o : Option FarEnd) → option_map (end_offered key value) (rest o) ≡ rest (option_map (end_offered key value) o)
offered_rests key value None = refl
offered_rests key value (Some l) = refl

place_offered : (key value id : List ℕ) (ds : List Device) (os : List (Option FarEnd))
    → with_place_changed (end_offered key value) id ds (map rest os) ≡ map rest (with_place_changed (end_offered key value) id ds os)
place_offered key value id [] os = refl
place_offered key value id (d ∷ ds) os =
    ap (λ x. if pointwise nat_eq (device_id d) id then option_map change x ∷ later_fars (map rest os) else x ∷ with_place_changed change id ds (later_fars (map rest os))) (first_rests os)
    ∙ ap (λ xs. if pointwise nat_eq (device_id d) id then option_map change (rest (first_far os)) ∷ xs else rest (first_far os) ∷ with_place_changed change id ds xs) (later_rests os)
    ∙ by_name (pointwise nat_eq (device_id d) id) (place_offered key value id ds (later_fars os))
  where
    change : FarEnd → FarEnd
    change l = end_offered key value l

    by_name : (v : Bool) → with_place_changed change id ds (map rest (later_fars os)) ≡ map rest (with_place_changed change id ds (later_fars os))
        → (if v then option_map change (rest (first_far os)) ∷ map rest (later_fars os) else rest (first_far os) ∷ with_place_changed change id ds (map rest (later_fars os)))
        ≡ map rest (if v then option_map change (first_far os) ∷ later_fars os else first_far os ∷ with_place_changed change id ds (later_fars os))
    by_name true more = ap (λ x. x ∷ map rest (later_fars os)) (offered_rests key value (first_far os))
    by_name false more = ap (λ xs. rest (first_far os) ∷ xs) more

-- What stands at the place of an identifier is the same by the devices in the dark.
placed_dark : {X : Type 0} (id : List ℕ) (ds : List Device) (xs : List (Option X)) → placed_under id (map device_darkened ds) xs ≡ placed_under id ds xs
placed_dark id [] xs = refl
placed_dark id (d ∷ ds) xs =
    ap (λ i. if pointwise nat_eq i id then first_far xs else placed_under id (map device_darkened ds) (later_fars xs)) (id_dark d)
    ∙ ap (λ x. if pointwise nat_eq (device_id d) id then first_far xs else x) (placed_dark id ds (later_fars xs))

without_dark : {X : Type 0} (id : List ℕ) (ds : List Device) (xs : List (Option X)) → without_place id (map device_darkened ds) xs ≡ without_place id ds xs
without_dark id [] xs = refl
without_dark id (d ∷ ds) xs =
    ap (λ i. if pointwise nat_eq i id then later_fars xs else first_far xs ∷ without_place id (map device_darkened ds) (later_fars xs)) (id_dark d)
    ∙ ap (λ ys. if pointwise nat_eq (device_id d) id then later_fars xs else first_far xs ∷ ys) (without_dark id ds (later_fars xs))

changed_place_dark : {X : Type 0} (change : X → X) (id : List ℕ) (ds : List Device) (xs : List (Option X))
    → with_place_changed change id (map device_darkened ds) xs ≡ with_place_changed change id ds xs
changed_place_dark change id [] xs = refl
changed_place_dark change id (d ∷ ds) xs =
    ap (λ i. if pointwise nat_eq i id then option_map change (first_far xs) ∷ later_fars xs else first_far xs ∷ with_place_changed change id (map device_darkened ds) (later_fars xs)) (id_dark d)
    ∙ ap (λ ys. if pointwise nat_eq (device_id d) id then option_map change (first_far xs) ∷ later_fars xs else first_far xs ∷ ys) (changed_place_dark change id ds (later_fars xs))

module _ (ds es : List Device) (same : SameDevices ds es) where
  pub same_placed : {X : Type 0} (id : List ℕ) (xs : List (Option X)) → placed_under id ds xs ≡ placed_under id es xs
  same_placed id xs = sym (placed_dark id ds xs) ∙ ap (λ ls. placed_under id ls xs) same ∙ placed_dark id es xs

  pub same_without : {X : Type 0} (id : List ℕ) (xs : List (Option X)) → without_place id ds xs ≡ without_place id es xs
  same_without id xs = sym (without_dark id ds xs) ∙ ap (λ ls. without_place id ls xs) same ∙ without_dark id es xs

  same_place_changed : {X : Type 0} (change : X → X) (id : List ℕ) (xs : List (Option X)) → with_place_changed change id ds xs ≡ with_place_changed change id es xs
  same_place_changed change id xs =
      sym (changed_place_dark change id ds xs) ∙ ap (λ ls. with_place_changed change id ls xs) same ∙ changed_place_dark change id es xs

-- what an end accepted rests with it
accepted_rests : (o : Option FarEnd) → accepted_by (rest o) ≡ accepted_by o
accepted_rests None = refl
accepted_rests (Some l) = refl

inbox_rests : (links : List LinkRange) (number : Option ℕ) (o : Option FarEnd) → inbox_at links number (rest o) ≡ inbox_at links number o
inbox_rests links None o = refl
inbox_rests links (Some n) None = refl
inbox_rests links (Some n) (Some l) = refl

-- and a new link begins the same there
pub begins_same : (a b : FarEnd) (general : List ℕ) → rest (Some a) ≡ rest (Some b) → restarted serving a general ≡ restarted serving b general
begins_same a b general same =
    let rested : peer_ends.rested a ≡ peer_ends.rested b = cc in
    ap (λ l. restarted serving l general) rested

module _ (os ps : List (Option FarEnd)) (same : SameEnds os ps) where
  pub same_numbered : (n : ℕ) (ns : List (Option ℕ)) → rest (end_numbered n ns os) ≡ rest (end_numbered n ns ps)
  same_numbered n ns = sym (numbered_rests n ns os) ∙ ap (end_numbered n ns) same ∙ numbered_rests n ns ps

  pub same_accepted : (n : ℕ) (p : Peers) → accepted_at n p os ≡ accepted_at n p ps
  same_accepted n p =
      sym (accepted_rests (end_numbered n p.numbers os)) ∙ ap accepted_by (same_numbered n p.numbers) ∙ accepted_rests (end_numbered n p.numbers ps)

-- So a link that began and ended in a command has the same range.
pub same_range : (os ps xs ys : List (Option FarEnd)) → SameEnds os ps → SameEnds xs ys → (o : Option ℕ) (p : Peers) → with_link_if o os xs p ≡ with_link_if o ps ys p
same_range os ps xs ys before behind None p = refl
same_range os ps xs ys before behind (Some n) p =
    let range : ℕ → ℕ → Peers = λ a b. with_link (record { peer = n; start = a; end = Some b }) p in
    ap (λ a. range a (accepted_at n p xs)) (same_accepted os ps before n p) ∙ ap (range (accepted_at n p ps)) (same_accepted xs ys behind n p)

-- The ends at the places of devices, where both rest the same.
module _ (ds es : List Device) (devices : SameDevices ds es) (os ps : List (Option FarEnd)) (ends : SameEnds os ps) where
  pub same_end_placed : (id : List ℕ) → rest (placed_under id ds os) ≡ rest (placed_under id es ps)
  same_end_placed id =
      sym (placed_rests id ds os) ∙ ap (placed_under id ds) ends ∙ placed_rests id ds ps ∙ ap rest (same_placed ds es devices id ps)

  pub same_inbox : (links : List LinkRange) (numbers : List (Option ℕ)) (id : List ℕ)
      → inbox_at links (placed_under id ds numbers) (placed_under id ds os) ≡ inbox_at links (placed_under id es numbers) (placed_under id es ps)
  same_inbox links numbers id =
      sym (inbox_rests links (placed_under id ds numbers) (placed_under id ds os))
      ∙ ap (inbox_at links (placed_under id ds numbers)) (same_end_placed id)
      ∙ inbox_rests links (placed_under id ds numbers) (placed_under id es ps)
      ∙ ap (λ n. inbox_at links n (placed_under id es ps)) (same_placed ds es devices id numbers)

  pub same_ends_without : (id : List ℕ) → SameEnds (without_place id ds os) (without_place id es ps)
  same_ends_without id =
      sym (without_rests id ds os) ∙ ap (without_place id ds) ends ∙ without_rests id ds ps ∙ ap (map rest) (same_without ds es devices id ps)

  pub same_ends_offered : (key value id : List ℕ) → SameEnds (with_place_changed (end_offered key value) id ds os) (with_place_changed (end_offered key value) id es ps)
  same_ends_offered key value id =
      sym (place_offered key value id ds os) ∙ ap (with_place_changed (end_offered key value) id ds) ends ∙ place_offered key value id ds ps
      ∙ ap (map rest) (same_place_changed ds es devices (end_offered key value) id ps)

  -- what stays of an end that is taken away is kept the same
  pub same_removal : (id : List ℕ) (p : Peers) → without_number id ds os p ≡ without_number id es ps p
  same_removal id p =
      let left : List (Option ℕ) → List (Option FarEnd) → Peers = λ ns gs. record { numbers = ns; gone = gs; links = p.links } in
      let stays : Option ℕ → Option FarEnd → List (Option FarEnd) = λ n o. set_under n o p.gone in
      ap (λ ns. left ns (stays (placed_under id ds p.numbers) (rest (placed_under id ds os)))) (same_without ds es devices id p.numbers)
      ∙ ap (λ n. left (without_place id es p.numbers) (stays n (rest (placed_under id ds os)))) (same_placed ds es devices id p.numbers)
      ∙ ap (λ o. left (without_place id es p.numbers) (stays (placed_under id es p.numbers) o)) (same_end_placed id)
