-- Each line of a workload is taken, whatever stands before it.
use Rattle.std.proofs.Common.{◌≡◌, ℕ, zero, suc, ◌+◌, ◌*◌, ◌<◌, ◌≤◌, ◌%◌, List, [], ◌∷◌, length, get_or, replicate, refl, ◌∙◌, ap, arith}
use Rattle.std.specs.Prelude.{slice_index}
use Rattle.std.specs.List.{range_with_len, flat_map}
use Rattle.std.proofs.lemmas.List.{length-append, length-replicate, get_or_append_left}
use Rattle.std.proofs.lemmas.List.FromFn.{length-map-range_with_len}
use Rattle.bench_script.specs.declared.command.Command.{Command}
use Rattle.bench_script.specs.declared.command.Command.TheVariants.{PlaceT2}
use Rattle.bench_script.specs.declared.message.Msg.TheVariants.{Gen}
use Rattle.bench_script.specs.Messages.{message_of}
use Rattle.bench_script.specs.Script.{longest_message}
use Rattle.bench_world.specs.Legal.{State, MayPlaceT2, MayPlacePeer, memory_of, changed, first_state}
use Rattle.bench_world.specs.Taking.{AreSpelled, AreAccepted, AreTaken}
use Rattle.workload.specs.Workload.{SpellEach, tag_id, peer_id, tag_head, put_size, first_byte, round_commands, workload_lines, workload_commands}
use Rattle.workload.proofs.Spelled.{lines_spelled}

-- lines that spell each their command are spelled
spelled_each : (lines : List (List ℕ)) (commands : List Command) → SpellEach lines commands → AreSpelled lines commands
spelled_each [] [] each = tt
spelled_each [] (c ∷ cs) each = (let size : length (c ∷ cs) ≡ 0 = each.size in absurd (omega (arith, size)))
spelled_each (l ∷ ls) [] each = (let size : 0 ≡ length (l ∷ ls) = each.size in absurd (omega (arith, size)))
spelled_each (l ∷ ls) (c ∷ cs) each =
    let size : length (c ∷ cs) ≡ length (l ∷ ls) = each.size in
    (each.at 0 (omega arith), spelled_each ls cs (record { size = omega (arith, size); at = λ place within. each.at (suc place) (omega arith) }))

-- the memory of the tag
abbrev tag_memory : List ℕ
tag_memory = memory_of (4 * 231) tag_head

memory_size : length tag_memory ≡ 924
memory_size = length-append tag_head (replicate 905 0) ∙ ap (λ n. 19 + n) (length-replicate {A = ℕ} 905 0)

memory_at : (i : ℕ) → i < 19 → slice_index tag_memory i ≡ get_or tag_head i 0
memory_at i within = get_or_append_left tag_head (replicate 905 0) 0 i within

tag_taken : MayPlaceT2 first_state tag_id 231 tag_head
tag_taken = record {
  free = record { room = omega arith; fresh = refl };
  fits = omega arith;
  store = record {
    whole = omega (arith, memory_size);
    least = omega (arith, memory_size);
    most = omega (arith, memory_size);
    area = λ magic few. omega (arith, memory_size, memory_at 14 (omega arith));
  };
}

peer_taken : MayPlacePeer (changed first_state (PlaceT2 tag_id 231 tag_head)) peer_id 3 128 1 1024
peer_taken = record {
  free = record { room = omega arith; fresh = refl };
  code = omega arith;
  size = (omega arith, omega arith);
  window = (omega arith, omega arith);
  limit = (omega arith, omega arith);
}

-- the message of a put isn't too long
short_put : (seed i : ℕ) → length (message_of (Gen (put_size seed i) (first_byte i))) ≤ longest_message
short_put seed i =
    let size : length (message_of (Gen (put_size seed i) (first_byte i))) ≡ put_size seed i = length-map-range_with_len (λ k. (first_byte i + k) % 256) 0 (put_size seed i) in
    omega (arith, size)

-- the commands of rounds are accepted in every state
rounds_accepted : (seed a n : ℕ) (s : State) → AreAccepted s (flat_map (round_commands seed) (range_with_len a n))
rounds_accepted seed a zero s = tt
rounds_accepted seed a (suc n) s =
    (tt, (tt, (tt, (record { size = (omega arith, omega arith); window = (omega arith, omega arith) }, (short_put seed a, rounds_accepted seed (a + 1) n _)))))

pub workload_taken : (seed count : ℕ) → AreTaken (workload_lines seed count) (workload_commands seed count)
workload_taken seed count = record {
  spelled = spelled_each (workload_lines seed count) (workload_commands seed count) (lines_spelled seed count);
  accepted = (tag_taken, (peer_taken, rounds_accepted seed 0 count _));
}
