-- A far end that began new links, at its place; and what a reader can read of general bytes.
use Rattle.std.proofs.Common.{◌≡◌, ℕ, zero, suc, ◌<◌, List, [], ◌∷◌, ◌++◌, map, length, Bool, true, false, if◌then◌else◌, Option, Some, None, refl, sym, ◌∙◌, ap, subst, arith}
use Rattle.std.specs.Prelude.{get_or, slice_set, ◌==◌, ◌-◌}
use Rattle.far_air.specs.FarEnds.{first_far, later_fars, rests, by_link}
use Rattle.far_air.specs.FarLaws.{with_far, shown}
use Rattle.far_air.proofs.Showing.{rests_shown}
use Rattle.dep_link.specs.Activating.{RestartedTimes}
use Rattle.llcp_link.specs.State.{restarted, readable_by}
use Rattle.llcp_pdu.specs.declared.param.Param.TheVariants.{Version, Miux, Wks}
use Rattle.llcp_conn.specs.Conn.{IsWindow}
use Rattle.llcp_link.specs.Names.{is_bound}
use Rattle.llcp_pdu.specs.General.{IsMiu, general, general_bytes, said_behind, unmasked}
use Rattle.snep_core.specs.Talk.{server_sap}
use Rattle.llcp_pdu.specs.Wire.{least_miu, magic}
use Rattle.llcp_pdu.specs.Writing.{params_bytes}
use Rattle.peer_air.specs.PeerFars.{peer_ends}
use Rattle.snep_core.specs.Server.{serving}
use Rattle.bench_devices.specs.declared.device.Device.{Device}
use Rattle.bench_devices.specs.Device.{device_linked, is_tag}
use Rattle.bench_world.specs.World.{FarEnd}
use Rattle.bench_world.specs.Links.{is_number}
use Rattle.bench_world.specs.private.LinkedAt.{restarts}
use Rattle.bench_world.specs.Opened.{IsServed, AreServed, IsOther, AreNumbered, IsFirstWith}
use Rattle.std.specs.List.{AllByRecursion}
use Rattle.std.proofs.lemmas.Bool.{ne_eqb, eqb-false}
use Rattle.bench_world.proofs.tags.Fronts.{Ends, ends_table}

-- what stays of it
pub record KeepsEnd (old new : FarEnd) : Type 0 where
  pub miu : new.miu ≡ old.miu
  pub window : new.window ≡ old.window
  pub bound : new.bound ≡ old.bound
  pub rests : peer_ends.rested new ≡ peer_ends.rested old

pub times_keep : (general : List ℕ) (n : ℕ) (far after : FarEnd) → RestartedTimes restarts general n far after → KeepsEnd far after
times_keep general zero far after is = record {
  miu = ap (λ (l : FarEnd). l.miu) is;
  window = ap (λ (l : FarEnd). l.window) is;
  bound = ap (λ (l : FarEnd). l.bound) is;
  rests = ap peer_ends.rested is;
}
times_keep general (suc n) far after r =
    let more : KeepsEnd far r.0 = times_keep general n far r.0 r.1 in
    let is : after ≡ restarted serving r.0 general = r.2 in
    record {
      miu = ap (λ (l : FarEnd). l.miu) is ∙ more.miu;
      window = ap (λ (l : FarEnd). l.window) is ∙ more.window;
      bound = ap (λ (l : FarEnd). l.bound) is ∙ more.bound;
      rests = ap peer_ends.rested is ∙ ends_table.keeps r.0 general ∙ more.rests;
    }

-- it began one at least
pub last_begun : (general : List ℕ) (n : ℕ) (far after : FarEnd) → RestartedTimes restarts general n far after → 0 < n → (mid : FarEnd) × (after ≡ restarted serving mid general)
last_begun general zero far after r some = absurd (omega (arith, some))
last_begun general (suc n) far after r some = (r.0, r.2)

-- however often it began one, it is as if that was once
pub begun_anew : (general : List ℕ) (n : ℕ) (far after : FarEnd) → RestartedTimes restarts general n far after → 0 < n → after ≡ restarted serving far general
begun_anew general zero far after r some = absurd (omega (arith, some))
begun_anew general (suc n) far after r some =
    r.2 ∙ sym (ends_table.anew r.0 general) ∙ ap (λ l. restarted serving l general) (times_keep general n far r.0 r.1).rests ∙ ends_table.anew far general

-- the far ends with one of them at its place
pub far_there : (os : Ends) (n : ℕ) (e : FarEnd) → get_or os n None ≡ Some e → with_far os n e ≡ os
far_there [] n e is = absurd cc
far_there (o ∷ os) zero e is = ap (λ x. x ∷ os) (sym is)
far_there (o ∷ os) (suc n) e is = ap (λ xs. o ∷ xs) (far_there os n e is)

pub far_set : (os : Ends) (n : ℕ) (e f : FarEnd) → get_or os n None ≡ Some e → with_far os n f ≡ slice_set os n (Some f)
far_set [] n e f is = absurd cc
far_set (o ∷ os) zero e f is = refl
far_set (o ∷ os) (suc n) e f is = ap (λ xs. o ∷ xs) (far_set os n e f is)

pub set_there : (os : Ends) (n : ℕ) (e f : FarEnd) → get_or os n None ≡ Some e → get_or (slice_set os n (Some f)) n None ≡ Some f
set_there [] n e f is = absurd cc
set_there (o ∷ os) zero e f is = refl
set_there (o ∷ os) (suc n) e f is = set_there os n e f is

pub set_rests : (ls : List Device) (os : Ends) (n : ℕ) (e f : FarEnd) → get_or os n None ≡ Some e → peer_ends.rested f ≡ peer_ends.rested e
    → map (rests peer_ends) (shown device_linked peer_ends ls (slice_set os n (Some f))) ≡ map (rests peer_ends) (shown device_linked peer_ends ls os)
set_rests [] os n e f is same = refl
set_rests (l ∷ ls) [] n e f is same = absurd cc
set_rests (l ∷ ls) (o ∷ os) zero e f is same =
    ap (λ x. x ∷ map (rests peer_ends) (shown device_linked peer_ends ls os))
    (rests_shown peer_ends ends_table (device_linked l) (Some f) ∙ ap (λ x. Some x) same ∙ ap (rests peer_ends) (sym is) ∙ sym (rests_shown peer_ends ends_table (device_linked l) o))
set_rests (l ∷ ls) (o ∷ os) (suc n) e f is same = ap (λ xs. rests peer_ends (by_link peer_ends (device_linked l) o) ∷ xs) (set_rests ls os n e f is same)

pub set_served : (ds : List Device) (ps : List (Option ℕ)) (os : Ends) (n : ℕ) (e f : FarEnd) → get_or os n None ≡ Some e → KeepsEnd e f → AreServed ds ps os
    → AreServed ds ps (slice_set os n (Some f))
set_served [] ps os n e f is keeps s = tt
set_served (d ∷ ds) ps [] n e f is keeps s = absurd cc
set_served (d ∷ ds) ps (o ∷ os) zero e f is keeps s = (
  λ peer.
      let one : IsServed (first_far ps) o = s.0 peer in
      let same : one.end ≡ e = (let both : Some one.end ≡ Some e = sym one.stands ∙ is in cc) in
      record {
        peer = one.peer;
        numbered = one.numbered;
        end = f;
        stands = refl;
        miu = subst IsMiu (ap (λ (l : FarEnd). l.miu) same ∙ sym keeps.miu) one.miu;
        window = subst IsWindow (ap (λ (l : FarEnd). l.window) same ∙ sym keeps.window) one.window;
        bound = subst (λ bs. is_bound server_sap bs ≡ true) (ap (λ (l : FarEnd). l.bound) same ∙ sym keeps.bound) one.bound;
      },
  s.1,
)
set_served (d ∷ ds) ps (o ∷ os) (suc n) e f is keeps s = (s.0, set_served ds (later_fars ps) os n e f is keeps s.1)

-- the peer behind some devices has what it should
pub served_at : (before : List Device) (d : Device) (behind : List Device) (ps : List (Option ℕ)) (os : Ends) → is_tag d ≡ false → AreServed (before ++ d ∷ behind) ps os
    → IsServed (get_or ps (length before) None) (get_or os (length before) None)
served_at [] d behind [] [] peer s = s.0 peer
served_at [] d behind [] (o ∷ os) peer s = s.0 peer
served_at [] d behind (p ∷ ps) [] peer s = s.0 peer
served_at [] d behind (p ∷ ps) (o ∷ os) peer s = s.0 peer
served_at (b ∷ before) d behind [] [] peer s = served_at before d behind [] [] peer s.1
served_at (b ∷ before) d behind [] (o ∷ os) peer s = served_at before d behind [] os peer s.1
served_at (b ∷ before) d behind (p ∷ ps) [] peer s = served_at before d behind ps [] peer s.1
served_at (b ∷ before) d behind (p ∷ ps) (o ∷ os) peer s = served_at before d behind ps os peer s.1

-- no other place has the number of one
own_number : (n : ℕ) → is_number n (Some n) ≡ true
own_number n = by_test (is_number n (Some n)) refl
  where
    by_test : (v : Bool) → is_number n (Some n) ≡ v → v ≡ true
    by_test true e = refl
    by_test false e = absurd (eqb-false n n e refl)

other_way : (n : ℕ) (p : Option ℕ) → IsOther p (Some n) → is_number n p ≡ false
other_way n None o = refl
other_way n (Some p) o = ne_eqb p n (λ same. eqb-false n p o (sym same))

there_all : (P : Option ℕ → Type 0) (ps : List (Option ℕ)) (k n : ℕ) → get_or ps k None ≡ Some n → AllByRecursion P ps → P (Some n)
there_all P [] k n is all = absurd cc
there_all P (p ∷ ps) zero n is all = subst P is all.0
there_all P (p ∷ ps) (suc k) n is all = there_all P ps k n is all.1

pub first_of : (m n k : ℕ) (ps : List (Option ℕ)) → AreNumbered m ps → get_or ps k None ≡ Some n → IsFirstWith n k ps
first_of m n k [] s is = absurd cc
first_of m n zero (p ∷ ps) s is = ap (is_number n) is ∙ own_number n
first_of m n (suc k) (p ∷ ps) s is = (other_way n p (there_all (IsOther p) ps k n is s.1), first_of m n k ps s.2 is)

-- General bytes of these ends can be read.
pub readable_said : (miu wks : ℕ) → readable_by (general (general_bytes (record { version = 0x13; miu = miu; wks = wks }))) ≡ true
readable_said miu wks = by_size (miu == least_miu)
  where
    by_size : (v : Bool) → readable_by (said_behind (unmasked (magic ++ params_bytes (Version 0x13 ∷ ((if v then [] else Miux (miu - least_miu) ∷ []) ++ Wks wks ∷ []))))) ≡ true
    by_size true = refl
    by_size false = refl
