-- A Type 2 tag of the bench, once it is selected, takes commands as they are sent.
use Rattle.std.proofs.Common.{◌≡◌, ℕ, ◌/◌, ◌<◌, List, length, Bool, true, false, not, nat_le, nat_lt, ◌&&◌, if◌then◌else◌, Option, Some, None, refl, sym, ◌∙◌, ap, arith}
use Rattle.nfc_base.specs.Signal.{Signal}
use Rattle.nfc_base.specs.Blocks.{with_block}
use Rattle.nfc_base.specs.TagLinks.{Type2, plain_state, MayAsk}
use Rattle.air_core.specs.PlainTags.{Takes, PassesOver, IsPlainTag}
use Rattle.nfca_poll.specs.Front.{Front, is_ready, is_active, Off, Idle, Sleep, Ready, Active}
use Rattle.nfca_poll.specs.Fronted.{Fronted}
use Rattle.nfca_poll.specs.Upper.{answer_in}
use Rattle.nfca_poll.specs.laws.PlainFronts.{is_last, ObeysStep, front_ghosts, plain_front}
use Rattle.t2t_tag.specs.declared.command.T2Command.{T2Command}
use Rattle.t2t_tag.specs.declared.command.T2Command.TheVariants.{Read, Write}
use Rattle.t2t_tag.specs.declared.answer.T2Answer.TheVariants.{Done, Refused}
use Rattle.t2t_tag.specs.Spelling.{answer_frame, spelled_command, T2Spelling}
use Rattle.t2t_tag.specs.Store.{T2Memory, block_count, is_locked}
use Rattle.t2t_tag.specs.Step.{is_writable, t2_reply, t2_obeyed, reply_frame, held_after, t2_answer, t2_after}
use Rattle.t2t_tag.proofs.Spellings.{exact_by}
use Rattle.t5t_tag.proofs.Stores.{length_with_block, with_block_again}
use Rattle.bench_devices.specs.declared.device.Device.{Device}
use Rattle.bench_devices.specs.declared.device.Device.TheVariants.{T2, T4, Peer, T5, T3}
use Rattle.bench_devices.specs.Device.{says_of, t2_machine, device_after, device_selected}
use Rattle.bench_devices.specs.laws.Uppers.{t2_commands, t2_upper}
use Rattle.bench_devices.specs.Keeping.{ghosts}

-- no command changes which blocks are locked
obeyed_locked : (m : T2Memory) (c : T2Command) → (t2_obeyed m c).locked ≡ m.locked
obeyed_locked m (Read block) = refl
obeyed_locked m (Write block content) = by_test (is_writable m block)
  where
    by_test : (v : Bool) → (if v then record m { store = with_block 4 m.store block content } else m).locked ≡ m.locked
    by_test true = refl
    by_test false = refl

held_locked : (m : T2Memory) (o : Option T2Command) → (held_after m o).locked ≡ m.locked
held_locked m None = refl
held_locked m (Some c) = obeyed_locked m c

-- a command heard again: the tag holds the same, and answers the same
pub record IsAgain (m : T2Memory) (c : T2Command) : Type 0 where
  pub held : t2_obeyed (t2_obeyed m c) c ≡ t2_obeyed m c
  pub says : t2_reply (t2_obeyed m c) c ≡ t2_reply m c

inside : (x y z : Bool) → (x && y && z) ≡ true → y ≡ true
inside true true z e = refl
inside true false z e = cc
inside false y z e = cc

below : (n k : ℕ) → nat_lt n k ≡ true → n < k
below n k h = grind arith

write_again : (m : T2Memory) (block : ℕ) (content : List ℕ) → length content ≡ 4 → (v : Bool) → is_writable m block ≡ v → IsAgain m (Write block content)
write_again m block content four false e =
    let same : t2_obeyed m (Write block content) ≡ m = ap (λ v. if v then record m { store = with_block 4 m.store block content } else m) e in
    record { held = ap (λ x. t2_obeyed x (Write block content)) same; says = ap (λ x. t2_reply x (Write block content)) same }
write_again m block content four true e =
    let new : T2Memory = record m { store = with_block 4 m.store block content } in
    let first : t2_obeyed m (Write block content) ≡ new = ap (λ v. if v then new else m) e in
    let within : block < block_count m.store =
    below block (block_count m.store) (inside (nat_le 4 block) (nat_lt block (block_count m.store)) (not (is_locked m block)) e) in
    let long : length new.store ≡ length m.store = length_with_block 4 m.store block content within four in
    let open' : is_writable new block ≡ is_writable m block =
    ap (λ n. nat_le 4 block && nat_lt block (n / 4) && not (is_locked m block)) long in
    let once : with_block 4 new.store block content ≡ new.store = with_block_again 4 m.store block content within four in
    let again : t2_obeyed new (Write block content) ≡ new =
    ap (λ v. if v then record new { store = with_block 4 new.store block content } else new) (open' ∙ e) ∙ ap (λ (s : List ℕ). record m { store = s }) once in
    record {
      held = ap (λ x. t2_obeyed x (Write block content)) first ∙ again ∙ sym first;
      says = ap (λ x. t2_reply x (Write block content)) first ∙ ap (λ v. if v then Done else Refused) open';
    }

heard_again : (m : T2Memory) (f : Signal) (c : T2Command) → T2Spelling c f → IsAgain m c
heard_again m f (Read block) is = record { held = refl; says = refl }
heard_again m f (Write block content) is = write_again m block content is.0 (is_writable m block) refl

-- what the tag says is its answer, and it never leaves the state Active with it
says_answer : (o : Option Signal) → answer_in (says_of o) ≡ o
says_answer None = refl
says_answer (Some g) = refl

never_last : (o : Option Signal) → is_last (says_of o) ≡ false
never_last None = refl
never_last (Some g) = refl

-- a frame heard again is answered as before, and changes nothing more
again_by : (u : T2Memory) (f : Signal) (o : Option T2Command) → spelled_command f ≡ o
    → (t2_answer (t2_after u f) f ≡ t2_answer u f) × (t2_after (t2_after u f) f ≡ t2_after u f)
again_by u f None e = (
  ap (λ o. reply_frame (held_after u o) o) e ∙ ap (reply_frame u) (sym e),
  ap (λ o. held_after (held_after u o) o) e ∙ ap (held_after u) (sym e),
)
again_by u f (Some c) e =
    let again : IsAgain u c = heard_again u f c ((exact_by f (spelled_command f) refl c).0 e) in (
      ap (λ o. reply_frame (held_after u o) o) e ∙ ap (λ a. Some (answer_frame a)) again.says ∙ ap (reply_frame u) (sym e),
      ap (λ o. held_after (held_after u o) o) e ∙ again.held ∙ ap (held_after u) (sym e),
    )

obeys : (u : T2Memory) (f : Signal) → ObeysStep t2_machine (λ u. u.store) t2_commands u f
obeys u f =
    let again = again_by u f (spelled_command f) refl in
    let memory : List Bool → T2Memory = λ l. record { store = (t2_after u f).store; locked = l } in
    let same : memory u.locked ≡ t2_after u f = ap memory (sym (held_locked u (spelled_command f))) in
    record {
      untouched = refl;
      answer = says_answer (t2_answer u f);
      stays = never_last (t2_answer u f);
      after = refl;
      again =
          ap (λ m. record { answer = t2_answer m f; after = plain_state (t2_after m f).store }) same
          ∙ ap (λ o. record { answer = o; after = plain_state (t2_after (t2_after u f) f).store }) again.0
          ∙ ap (λ (m : T2Memory). record { answer = t2_answer u f; after = plain_state m.store }) again.1;
    }

-- an active device isn't ready
unready : (front : Front) → is_active front ≡ true → is_ready front ≡ false
unready Off a = refl
unready Idle a = refl
unready Sleep a = refl
unready (Ready k starred) a = cc
unready (Active starred) a = refl

-- what holds of a Type 2 tag, and of no other device
abbrev of_two : (Fronted T2Memory → Bool) → Device → Bool
of_two holds (T2 d) = holds d
of_two holds (T4 d) = false
of_two holds (Peer d) = false
of_two holds (T5 p) = false
of_two holds (T3 p) = false

pub plain_two : (d : Fronted T2Memory) → is_active d.front ≡ true → IsPlainTag ghosts Type2 d.id (T2 d)
plain_two d a = lifted (plain_front t2_upper (λ u f kind may. obeys u f) d refl (unready d.front a))
  where
    lifted : IsPlainTag (front_ghosts t2_upper) Type2 d.id d → IsPlainTag ghosts Type2 d.id (T2 d)
    lifted p = record {
      holds = of_two p.holds;
      now = p.now;
      kept = kept;
      takes = takes;
      passes = passes;
    }
      where
        kept : (m : Device) (f : Signal) → MayAsk Type2 d.id f → of_two p.holds m ≡ true → of_two p.holds (device_after m f None) ≡ true
        kept (T2 e) f may h = p.kept e f may h
        kept (T4 e) f may h = absurd cc
        kept (Peer e) f may h = absurd cc
        kept (T5 e) f may h = absurd cc
        kept (T3 e) f may h = absurd cc

        takes : (m : Device) (f : Signal) → MayAsk Type2 d.id f → of_two p.holds m ≡ true → device_selected m ≡ true → Takes ghosts m f
        takes (T2 e) f may h s =
            let t = p.takes e f may h s in
            record { quiet = refl; answer = t.answer; after = t.after; again = t.again; selected = t.selected }
        takes (T4 e) f may h s = absurd cc
        takes (Peer e) f may h s = absurd cc
        takes (T5 e) f may h s = absurd cc
        takes (T3 e) f may h s = absurd cc

        passes : (m : Device) (f : Signal) → MayAsk Type2 d.id f → of_two p.holds m ≡ true → device_selected m ≡ false → PassesOver ghosts m f
        passes (T2 e) f may h s =
            let t = p.passes e f may h s in
            record { quiet = refl; silent = t.silent; store = t.store; rests = t.rests }
        passes (T4 e) f may h s = absurd cc
        passes (Peer e) f may h s = absurd cc
        passes (T5 e) f may h s = absurd cc
        passes (T3 e) f may h s = absurd cc
