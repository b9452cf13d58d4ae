-- The law of an answer holds in a state in which no link is open as in any state that is alike.
use Rattle.std.proofs.Common.{◌≡◌, ℕ, ◌+◌, List, [], length, Bool, true, false, Option, Some, None, IsSome, refl, sym, ◌∙◌, ap, subst}
use Rattle.std.specs.Prelude.{option_map}
use Rattle.std.specs.List.{AllByRecursion}
use Rattle.nfc_base.specs.declared.event.Event.{Event}
use Rattle.nfc_base.specs.declared.event.Fate.{Fate}
use Rattle.air_core.specs.Conversation.{Over, receptions}
use Rattle.llcp_link.specs.State.{restarted}
use Rattle.snep_core.specs.Server.{serving}
use Rattle.link_calls.specs.Arriving.{Arrives}
use Rattle.tag_writer.specs.Law.{Ending, WriteLaw}
use Rattle.bench_script.specs.declared.command.Command.{Command}
use Rattle.bench_script.specs.declared.command.Command.TheVariants.{Dump, Inbox, Find, Crowd, Poll3, Read, Read3, Write, Write3, Link, Forge, Raw}
use Rattle.bench_script.specs.declared.command.DeviceId.{DeviceId}
use Rattle.bench_script.specs.declared.command.DeviceId.TheVariants.{A, V}
use Rattle.bench_script.specs.declared.message.Msg.{Msg}
use Rattle.bench_script.specs.DeviceIds.{bytes_of}
use Rattle.bench_script.specs.Messages.{message_of}
use Rattle.bench_devices.specs.declared.device.Device.{Device}
use Rattle.bench_devices.specs.Device.{device_id, device_darkened, device_store, how_of, is_tag, kind_of, memory_in, size_of}
use Rattle.bench_devices.specs.Keeping.{AllKeepBut, images_of}
use Rattle.bench_devices.specs.Kinds.{IfRead}
use Rattle.bench_devices.specs.Placed.{device_with}
use Rattle.bench_devices.specs.Threes.{Write3Law}
use Rattle.bench_world.specs.declared.entry.Answer.{Answer}
use Rattle.bench_world.specs.declared.entry.Answer.TheVariants as answers
use Rattle.bench_world.specs.Arriving.{ArrivesWithin, BeginsAt}
use Rattle.bench_world.specs.Calls.{IfLinked, OfEnd, with_accepted}
use Rattle.bench_world.specs.Forging.{forged_general, opens_link}
use Rattle.bench_world.specs.Legal.{AnswerLaw, ForgeLeaves, Given, LeavesStable, Stores3Law, StoresLaw, changed, due, link_after, world_after}
use Rattle.bench_world.specs.Linking.{own_general}
use Rattle.bench_world.specs.Links.{OpenLink, end_numbered}
use Rattle.bench_world.specs.Peers.{Peers}
use Rattle.bench_world.specs.Reading.{TellsOf}
use Rattle.bench_world.specs.Threes.{IfThree, KeepsStores3, TellsRead3, TellsWrite3, WriteEnd3, end_told}
use Rattle.bench_world.specs.World.{FarEnd, Stable, WholeWorld, stable}
use Rattle.bench_world.specs.Writing.{KeepsStores, TellsWrite, ending_told}
use Rattle.bench_world.proofs.alike.AlikeDevices.{SameDevice, all_keep_same, if_same, of_same, same_memory, same_tag, same_with}
use Rattle.bench_world.proofs.alike.AlikeEnds.{begins_same, rest, same_inbox, same_numbered, same_placed}
use Rattle.bench_world.proofs.alike.AlikeTells.{by_kept, find_same, forge_same, link_same, raw_same, tag_same, tags_same, tells_read3_same, tells_same, tells_write3_same, tells_write_same}
use Rattle.bench_world.proofs.alike.AlikeTells.{three_tells_same, threes_same}
use Rattle.bench_world.proofs.alike.AlikeChanged.{no_link, changed_world, link_after_same}
use Rattle.bench_world.proofs.alike.AlikeFronts.{was_sent, world_after_same, worlds_after}
use Rattle.bench_world.proofs.alike.AlikeWorlds.{FromReset, SameWorld, same_images, same_stable}

-- what holds of the link that is open
linked_too : (P Q : OpenLink → Type 0) → ((l : OpenLink) → P l → Q l) → (o : Option OpenLink) → IfLinked o P (Unit {0}) → IfLinked o Q (Unit {0})
linked_too P Q says None is = tt
linked_too P Q says (Some l) is = says l is

-- A link begins the same at an end that rests the same, ...
begins_too : (now : Option FarEnd) (general : List ℕ) (o p : Option FarEnd) → rest o ≡ rest p → OfEnd (λ old. now ≡ Some (restarted serving old general)) o
    → OfEnd (λ old. now ≡ Some (restarted serving old general)) p
begins_too now general None p same is = absurd is
begins_too now general (Some a) None same is = absurd cc
begins_too now general (Some a) (Some b) same is =
    is ∙ ap (λ (l : FarEnd). let o : Option FarEnd = Some l in o) (begins_same a b general same)

-- ... which is there too.
pub record StandsThere (a : FarEnd) (p : Option FarEnd) : Type 0 where
  pub end : FarEnd
  pub stood : p ≡ Some end
  pub same : rest (Some a) ≡ rest (Some end)

stands_there : (o p : Option FarEnd) (a : FarEnd) → rest o ≡ rest p → o ≡ Some a → StandsThere a p
stands_there None p a same e = absurd cc
stands_there (Some b) None a same e = absurd cc
stands_there (Some b) (Some d) a same e = record { end = d; stood = refl; same = sym (ap rest e) ∙ same }

module _ (w v : WholeWorld) (same : SameWorld w v) (q : List Fate) (p : Peers) (g : Given) (es : List Event) (start : FromReset es) where
  stays_too : (c : Command) → LeavesStable (no_link w q p) g.joins c es → LeavesStable (no_link v q p) g.joins c es
  stays_too c stays =
      sym (same_stable _ _ (worlds_after w v same q p g c es start)) ∙ stays ∙ same_stable (changed (no_link w q p) c).world (changed (no_link v q p) c).world (changed_world w v same q p c)

  with_too : (id : List ℕ) → option_map device_darkened (device_with id w.field.listeners) ≡ option_map device_darkened (device_with id v.field.listeners)
  with_too id = same_with w.field.listeners v.field.listeners same.listeners id

  ends_too : (c : Command) → (stable (world_after (no_link w q p) g.joins c es)).ends ≡ (stable w).ends → (stable (world_after (no_link v q p) g.joins c es)).ends ≡ (stable v).ends
  ends_too c ends =
      ap (λ (x : Stable). x.ends) (sym (same_stable _ _ (worlds_after w v same q p g c es start))) ∙ ends ∙ ap (λ (x : Stable). x.ends) (same_stable w v same)

  -- The stores of a write pass the same images.
  keeps_too : (m : List ℕ) (ending : Ending) (d e : Device) → SameDevice d e → KeepsStores m d ending w.field es → KeepsStores m e ending v.field es
  keeps_too m ending d e one k =
      subst (λ is. IfRead (kind_of e) (WriteLaw (how_of e) (size_of e) (device_store e) m ending is) (AllByRecursion (λ s. s ≡ device_store e) is)) (same_images (device_id e) w v same es start)
      (by_kept d e one
      (λ x. IfRead x.fixed.kind (WriteLaw x.fixed.how x.fixed.size x.store m ending (images_of x.fixed.id w.field es)) (AllByRecursion (λ s. s ≡ x.store) (images_of x.fixed.id w.field es))) k)

  keeps3_too : (m : List ℕ) (end : WriteEnd3) (d e : Device) → SameDevice d e → KeepsStores3 m d end w.field es → KeepsStores3 m e end v.field es
  keeps3_too m end d e one k =
      subst (λ is. IfThree (kind_of e) (Write3Law m (device_store e) end is) (AllByRecursion (λ s. s ≡ device_store e) is)) (same_images (device_id e) w v same es start)
      (by_kept d e one (λ x. IfThree x.fixed.kind (Write3Law m x.store end (images_of x.fixed.id w.field es)) (AllByRecursion (λ s. s ≡ x.store) (images_of x.fixed.id w.field es))) k)

  module _ (some : es ≡ [] → ⊥) where
    now_same : (c : Command) → world_after (no_link w q p) g.joins c es ≡ world_after (no_link v q p) g.joins c es
    now_same c = world_after_same w v same q p g c es start some

    others_too : (c : Command) (id : List ℕ) → AllKeepBut id w.field.listeners (world_after (no_link w q p) g.joins c es).field.listeners
        → AllKeepBut id v.field.listeners (world_after (no_link v q p) g.joins c es).field.listeners
    others_too c id k =
        subst (λ (x : WholeWorld). AllKeepBut id v.field.listeners x.field.listeners) (now_same c)
        (all_keep_same id w.field.listeners v.field.listeners (world_after (no_link w q p) g.joins c es).field.listeners same.listeners k)

    pub stores_too : (id : DeviceId) (m : Msg) (ending : Ending) → StoresLaw (no_link w q p) g.joins id m ending es → StoresLaw (no_link v q p) g.joins id m ending es
    stores_too id m ending l = record {
      law =
          if_same (λ d. KeepsStores (message_of m) d ending w.field es) (λ d. KeepsStores (message_of m) d ending v.field es) (Unit {0}) (keeps_too (message_of m) ending)
          (device_with (bytes_of id) w.field.listeners) (device_with (bytes_of id) v.field.listeners) (with_too (bytes_of id)) l.law;
      others = others_too (Write id m) (bytes_of id) l.others;
      ends = ends_too (Write id m) l.ends;
    }

    pub stores3_too : (id : List ℕ) (m : Msg) (end : WriteEnd3) → Stores3Law (no_link w q p) g.joins id m end es → Stores3Law (no_link v q p) g.joins id m end es
    stores3_too id m end l = record {
      law =
          if_same (λ d. KeepsStores3 (message_of m) d end w.field es) (λ d. KeepsStores3 (message_of m) d end v.field es) (Unit {0}) (keeps3_too (message_of m) end)
          (device_with id w.field.listeners) (device_with id v.field.listeners) (with_too id) l.law;
      others = others_too (Write3 id m) id l.others;
      ends = ends_too (Write3 id m) l.ends;
    }

    -- A link begins at the same end.
    pub begins_at_too : (id : List ℕ) (miu window : ℕ) (answer : Answer)
        → IfLinked (link_after (no_link w q p) g.joins (Link id miu window) es (Some answer))
        (λ l. BeginsAt l (own_general miu) p.numbers w.fars (world_after (no_link w q p) g.joins (Link id miu window) es).fars) (Unit {0})
        → IfLinked (link_after (no_link v q p) g.joins (Link id miu window) es (Some answer))
        (λ l. BeginsAt l (own_general miu) p.numbers v.fars (world_after (no_link v q p) g.joins (Link id miu window) es).fars) (Unit {0})
    begins_at_too id miu window answer begins =
        let c : Command = Link id miu window in
        let now : WholeWorld = world_after (no_link v q p) g.joins c es in
        let there = subst
        (λ (x : WholeWorld). IfLinked (link_after (no_link w q p) g.joins c es (Some answer)) (λ l. BeginsAt l (own_general miu) p.numbers w.fars x.fars) (Unit {0})) (now_same c) begins in
        let linked = subst (λ o. IfLinked o (λ l. BeginsAt l (own_general miu) p.numbers w.fars now.fars) (Unit {0})) (link_after_same w v same q p g.joins c es (Some answer)) there in
        linked_too (λ l. BeginsAt l (own_general miu) p.numbers w.fars now.fars) (λ l. BeginsAt l (own_general miu) p.numbers v.fars now.fars)
        (λ l b. begins_too (end_numbered l.peer p.numbers now.fars) (own_general miu) (end_numbered l.peer p.numbers w.fars) (end_numbered l.peer p.numbers v.fars)
        (same_numbered w.fars v.fars same.fars l.peer p.numbers) b)
        (link_after (no_link v q p) g.joins c es (Some answer)) linked

    -- What was sent by hand arrived at the same end.
    arrives_too : (peer : ℕ) (behind : List (Option FarEnd)) → ArrivesWithin peer forged_general p.numbers g.joins.far w.fars behind es
        → ArrivesWithin peer forged_general p.numbers g.joins.far v.fars behind es
    arrives_too peer behind came =
        let there : StandsThere came.old (end_numbered peer p.numbers v.fars) =
        stands_there (end_numbered peer p.numbers w.fars) (end_numbered peer p.numbers v.fars) came.old (same_numbered w.fars v.fars same.fars peer p.numbers) came.stood in
        record {
          old = there.end;
          stood = there.stood;
          new = came.new;
          arrives = subst (λ x. Arrives 0 es (record { end = x; numbers = g.joins.far }) came.new) (begins_same came.old there.end forged_general there.same) came.arrives;
          accepted = came.accepted;
        }

    pub forge_leaves_too : (id : List ℕ) (payloads : List (List ℕ)) (opened : Bool) → ForgeLeaves opened (no_link w q p) g.joins id payloads es
        → ForgeLeaves opened (no_link v q p) g.joins id payloads es
    forge_leaves_too id payloads false stays = stays_too (Forge id payloads) stays
    forge_leaves_too id payloads true l =
        let c : Command = Forge id payloads in
        let now : WholeWorld = world_after (no_link v q p) g.joins c es in
        record {
          peer = l.peer;
          placed = sym (same_placed w.field.listeners v.field.listeners same.listeners id p.numbers) ∙ l.placed;
          came =
              arrives_too l.peer now.fars
              (subst (λ (x : WholeWorld). ArrivesWithin l.peer forged_general p.numbers g.joins.far w.fars x.fars es) (now_same c) l.came);
          more = l.more;
          devices =
              ap (λ (x : WholeWorld). (stable x).devices) (sym (now_same c)) ∙ l.devices ∙ ap (λ (x : Stable). x.devices) (same_stable w v same);
          ends =
              ap (λ (x : WholeWorld). (stable x).ends) (sym (now_same c)) ∙ l.ends ∙ ap (λ (x : Stable). with_accepted l.more l.peer p.numbers x.ends) (same_stable w v same);
        }

-- So the law of each command's answer holds.
module _ (w v : WholeWorld) (same : SameWorld w v) (q : List Fate) (p : Peers) (g : Given) (es : List Event) (start : FromReset es) where
  pub law_same : (c : Command) (answer : Answer) → due (no_link w q p) g c (receptions es) ≡ Over → AnswerLaw (no_link w q p) g c es answer → AnswerLaw (no_link v q p) g c es answer
  law_same (Dump id) answer over l =
      of_same (λ d. answer ≡ answers.Store (memory_in d)) (λ d e one told. told ∙ ap answers.Store (same_memory d e one)) (device_with (bytes_of id) w.field.listeners)
      (device_with (bytes_of id) v.field.listeners) (same_with w.field.listeners v.field.listeners same.listeners (bytes_of id)) l
  law_same (Inbox id) answer over l =
      l ∙ ap answers.Inbox (same_inbox w.field.listeners v.field.listeners same.listeners w.fars v.fars same.fars p.links p.numbers (bytes_of id))
  law_same Find answer over l =
      record { tells = find_same w.field.listeners v.field.listeners same.listeners es answer l.tells; stays = stays_too w v same q p g es start Find l.stays }
  law_same Crowd answer over l =
      record { tells = tags_same w.field.listeners v.field.listeners same.listeners es answer l.tells; stays = stays_too w v same q p g es start Crowd l.stays }
  law_same Poll3 answer over l =
      record { tells = threes_same w.field.listeners v.field.listeners same.listeners es answer l.tells; stays = stays_too w v same q p g es start Poll3 l.stays }
  law_same (Read id) answer over l = record {
    tells = tag_same w.field.listeners v.field.listeners same.listeners TellsOf tells_same id g.asked es answer l.tells;
    stays = stays_too w v same q p g es start (Read id) l.stays;
  }
  law_same (Read3 id) answer over l = record {
    tells = three_tells_same w.field.listeners v.field.listeners same.listeners TellsRead3 tells_read3_same id g.asked es answer l.tells;
    stays = stays_too w v same q p g es start (Read3 id) l.stays;
  }
  law_same (Write (A id) m) answer over l = record {
    tells = tag_same w.field.listeners v.field.listeners same.listeners (TellsWrite (message_of m)) (λ d e one. tells_write_same d e one (message_of m)) (A id) g.asked es answer l.tells;
    stores = stores_too w v same q p g es start (was_sent (no_link w q p) g (Write (A id) m) es refl over) (A id) m (ending_told answer) l.stores;
  }
  law_same (Write (V id) m) answer over l = record {
    tells = tag_same w.field.listeners v.field.listeners same.listeners (TellsWrite (message_of m)) (λ d e one. tells_write_same d e one (message_of m)) (V id) g.asked es answer l.tells;
    stores = stores_too w v same q p g es start (was_sent (no_link w q p) g (Write (V id) m) es refl over) (V id) m (ending_told answer) l.stores;
  }
  law_same (Write3 id m) answer over l = record {
    tells = three_tells_same w.field.listeners v.field.listeners same.listeners (TellsWrite3 (message_of m)) (λ d e one. tells_write3_same d e one (message_of m)) id g.asked es answer l.tells;
    stores = stores3_too w v same q p g es start (was_sent (no_link w q p) g (Write3 id m) es refl over) id m (end_told answer) l.stores;
  }
  law_same (Link id miu window) answer over l = record {
    tells = link_same w.field.listeners v.field.listeners same.listeners (A id) (length p.links + 1) (own_general miu) es answer l.tells;
    begins = begins_at_too w v same q p g es start (was_sent (no_link w q p) g (Link id miu window) es refl over) id miu window answer l.begins;
    stays = stays_too w v same q p g es start (Link id miu window) l.stays;
    opens = λ n told. subst (λ o. IsSome o) (link_after_same w v same q p g.joins (Link id miu window) es (Some answer)) (l.opens n told);
  }
  law_same (Forge id payloads) answer over l = record {
    tells = forge_same w.field.listeners v.field.listeners same.listeners id payloads es answer l.tells;
    leaves = forge_leaves_too w v same q p g es start (was_sent (no_link w q p) g (Forge id payloads) es refl over) id payloads (opens_link id payloads es) l.leaves;
  }
  law_same (Raw id frames) answer over l = record {
    tells = raw_same w.field.listeners v.field.listeners same.listeners id frames es answer l.tells;
    opens = λ opened.
        of_same (λ d. is_tag d ≡ false) (λ d e one told. sym (same_tag d e one) ∙ told) (device_with (bytes_of id) w.field.listeners) (device_with (bytes_of id) v.field.listeners)
        (same_with w.field.listeners v.field.listeners same.listeners (bytes_of id)) (l.opens opened);
  }
  law_same c answer over l = l
