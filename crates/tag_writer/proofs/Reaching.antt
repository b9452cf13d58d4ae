-- What a phase leaves that is reached.
use Rattle.std.proofs.Common.{◌≡◌, inl, inr, slice_index, ℕ, ◌+◌, ◌≤◌, suc, List, [], ◌∷◌, ◌++◌, length, take, None, refl, sym, ◌∙◌, ap, subst, append-nil, arith}
use Rattle.std.proofs.lemmas.List.{length-drop}
use Rattle.std.specs.List.{AllByRecursion}
use Rattle.nfc_base.specs.Signal.{Signal}
use Rattle.nfc_base.specs.TagLinks.{LinkView, Leads, images, Rises}
use Rattle.nfc_base.proofs.Leading.{leads_on, rises_on}
use Rattle.tag_reader.specs.declared.how.How.{How}
use Rattle.tag_reader.specs.declared.how.How.TheVariants.{T2, T4, T5}
use Rattle.tag_reader.specs.Files.{container_end}
use Rattle.tag_reader.specs.Asked.{ToWrite, IsAskedFor}
use Rattle.tag_reader.specs.Calls.{GoesOn}
use Rattle.tag_reader.specs.Survey.{surveyed}
use Rattle.tag_writer.specs.declared.phase.Phase.{Phase}
use Rattle.tag_writer.specs.declared.phase.Phase.TheVariants.{Prepared, Emptied, Filled}
use Rattle.tag_writer.specs.declared.work.Work.{Work}
use Rattle.tag_writer.specs.Puts.{Put, after_puts, commands_of}
use Rattle.tag_writer.specs.WriteAsked.{all_puts, refused_by, last_command}
use Rattle.tag_writer.specs.Law.{IsEmptied, IsWritten}
use Rattle.tag_writer.specs.Puttings.{IsPutOf, Accepts, Makes}
use Rattle.tag_writer.specs.Phases.{WriteJob, Serves, Since, IsAt, made_at, next_at, new_store}
use Rattle.tag_writer.specs.Counts.{home_at, home_size, IsHomePut, SameElsewhere}
use Rattle.tag_writer.specs.Ends.{IsOpened, Reaches, ReachesSince}
use Rattle.tag_writer.proofs.Asking.{up_to_all}
use Rattle.tag_writer.proofs.Addresses.{same_put}
use Rattle.tag_writer.proofs.Places.{after_append}
use Rattle.tag_writer.proofs.Tags.{like_itself, like_puts, under_makes, store_makes}
use Rattle.tag_writer.proofs.Jobs.{made_all, next_all, under_at}
use Rattle.tag_writer.proofs.Going.{since_makes, three_on, Three, New, last_image, answered_on, last_on, accepted_on}
use Rattle.tag_writer.proofs.Fronts.{next_empty}

-- the store behind the writes that follow a phase
pub store_next : (phase : Phase) (j : WriteJob) (work : Work) (old new : LinkView) → IsAt phase j work old → Makes j.how old (next_at phase j) new
    → new.state.store ≡ after_puts j.store (made_at phase j ++ next_at phase j)
store_next phase j work old new at m =
    store_makes j.how j.size j.store old new (next_at phase j) (under_at phase j work old at) (next_all phase j at.serves) m
    ∙ ap (λ s. after_puts s (next_at phase j)) at.store ∙ sym (after_append j.store (made_at phase j) (next_at phase j))

pub at_next : (phase next : Phase) (j : WriteJob) (work : Work) (old new : LinkView) → made_at next j ≡ made_at phase j ++ next_at phase j → IsAt phase j work old
    → Makes j.how old (next_at phase j) new → IsAt next j work new
at_next phase next j work old new same at m =
    let under = under_makes j.how j.size j.store old new (next_at phase j) (under_at phase j work old at) (next_all phase j at.serves) m in
    record {
      serves = at.serves;
      work' = at.work';
      tag = under.tag;
      near = under.near;
      store = store_next phase j work old new at m ∙ ap (after_puts j.store) (sym same);
    }

pub since_next : (phase : Phase) (j : WriteJob) (work : Work) (a old new : LinkView) → (phase ≡ Filled → ⊥) → IsAt phase j work old → Since j a old (made_at phase j)
    → Makes j.how old (next_at phase j) new → Since j a new (made_at phase j ++ next_at phase j)
since_next phase j work a old new not at since m =
    since_makes j a old new (made_at phase j) (next_at phase j) since (under_at phase j work old at) (next_all phase j at.serves) m
    (λ n low. subst (λ t. IsEmptied j.how j.size j.place j.store (after_puts t (take (suc n) (next_at phase j)))) (sym at.store) (next_empty phase j at.serves not n low))

-- behind the second part all but the length's block, or field, is as the new store has it
put_within : (how : How) (size : ℕ) (base : List ℕ) (p : Put) → IsPutOf how size base p → p.at + length p.bytes ≤ length base
put_within T2 size base p is = (let at = ap (λ q. q.at) is.put in let long = ap (λ q. length q.bytes) is.put in omega (arith, at, long, is.within, is.content))
put_within T4 size base p is = (let at = ap (λ q. q.at) is.put in omega (arith, at, is.within, length-drop (container_end base) base))
put_within (T5 id) size base p is = (let at = ap (λ q. q.at) is.put in let long = ap (λ q. length q.bytes) is.put in omega (arith, at, long, is.within, is.content))

pub same_elsewhere : (j : WriteJob) → Serves j → SameElsewhere j.how j.size j.place (after_puts j.store (j.parts.close ++ j.parts.fill)) (new_store j)
same_elsewhere j serves a aside =
    by_last j.parts.last serves.last serves.home (next_all Filled j serves) ∙ ap (λ s. slice_index s a) (sym (after_append j.store (j.parts.close ++ j.parts.fill) j.parts.last))
  where
    front : List ℕ
    front = after_puts j.store (j.parts.close ++ j.parts.fill)

    long : length front ≡ length j.store
    long = (like_puts j.how j.size j.store j.store (j.parts.close ++ j.parts.fill) (made_all Emptied j serves) (like_itself j.how j.size j.store serves.store')).long

    by_last : (ps : List Put) → length ps ≤ 1 → AllByRecursion (IsHomePut j.how j.size j.place) ps → AllByRecursion (IsPutOf j.how j.size j.store) ps
        → slice_index front a ≡ slice_index (after_puts front ps) a
    by_last [] few home ok = refl
    by_last (p ∷ []) few home ok =
        let at : p.at ≡ home_at j.how j.size j.place = home.0.0 in
        let count : length p.bytes ≡ home_size j.how j.size = home.0.1 in
        let within : p.at + length p.bytes ≤ length front = omega (arith, put_within j.how j.size j.store p ok.0, long) in
        sym (same_put front p a within (elim aside [ inl before ↦ inl (omega (arith, at, before)) | inr behind ↦ inr (omega (arith, at, count, behind)) ]))
    by_last (p ∷ q ∷ ps) few home ok = absurd (omega (arith, few))

pub same_filled : (j : WriteJob) (work : Work) (v : LinkView) → IsAt Filled j work v → SameElsewhere j.how j.size j.place v.state.store (new_store j)
same_filled j work v at a aside = ap (λ s. slice_index s a) at.store ∙ same_elsewhere j at.serves a aside

pub written_at : (j : WriteJob) (work : Work) (old new : LinkView) → IsAt Filled j work old → Makes j.how old (next_at Filled j) new → IsWritten j.how j.size j.message j.place j.store new.state.store
written_at j work old new at m = subst (IsWritten j.how j.size j.message j.place j.store) (sym (store_next Filled j work old new at m)) at.serves.new

-- all that an opened tag shows, since the writing began
opens : (j : WriteJob) (a b : LinkView) (more read : List Signal) → Leads a b more → Three j (images a more) → Rises a b → a.over ≡ None → GoesOn a b → IsAskedFor ToWrite j.how j.size j.store read →
    b.answered ≡ a.answered ++ (read ++ commands_of (all_puts j.parts)) → b.last ≡ last_command a.last (read ++ commands_of (all_puts j.parts)) →
    refused_by j.how a.step (surveyed j.how a.state) (commands_of (all_puts j.parts)) ≡ None → IsWritten j.how j.size j.message j.place j.store b.state.store → IsOpened j a b
opens j a b more read leads three rises begun goes_on all answered last accepted written =
    let list = up_to_all j.how a.step (surveyed j.how a.state) (commands_of (all_puts j.parts)) accepted in
    let asked : List Signal = read ++ commands_of (all_puts j.parts) in
    record {
      more = more;
      leads = leads;
      passes = record { three = three; leaves = subst (IsWritten j.how j.size j.message j.place j.store) (sym (last_image a b j.store more leads)) written };
      rises = rises;
      goes_on = goes_on;
      asked = record {
        read = read;
        all = all;
        has = record {
          asked = asked;
          rest = [];
          split = ap (λ cs. read ++ cs) list ∙ sym (append-nil asked);
          answered = answered;
          last = inl (last, goes_on.over ∙ sym begun);
        };
      };
      whole = record { read = read; all = all; answered = answered ∙ ap (λ cs. a.answered ++ (read ++ cs)) (sym list) };
      accepted = accepted;
    }

pub opened_at : (j : WriteJob) (work : Work) (a old new : LinkView) → IsAt Filled j work old → Since j a old (j.parts.close ++ j.parts.fill) → Makes j.how old (next_at Filled j) new → IsOpened j a new
opened_at j work a old new at since m = by_last j.parts.last refl m
  where
    front : List Put
    front = j.parts.close ++ j.parts.fill

    written : IsWritten j.how j.size j.message j.place j.store new.state.store
    written = written_at j work old new at m

    by_last : (last : List Put) → j.parts.last ≡ last → Makes j.how old last new → IsOpened j a new
    by_last [] e n =
        let same : all_puts j.parts ≡ j.parts.close ++ j.parts.fill = ap (λ ps. (j.parts.close ++ j.parts.fill) ++ ps) e ∙ append-nil (j.parts.close ++ j.parts.fill) in
        let s : Since j a new (all_puts j.parts) = subst (λ v. Since j a v (all_puts j.parts)) (sym n) (subst (Since j a old) (sym same) since) in
        opens j a new s.more s.read s.leads (record {
          before = s.before;
          during = s.during;
          behind = [];
          joined = s.joined ∙ ap (λ ys. s.before ++ ys) (sym (append-nil s.during));
          olds = s.olds;
          empties = s.empties;
          news = tt;
        }) s.rises s.begun s.goes_on s.all s.answered s.last s.accepted written
    by_last (p ∷ []) e n =
        let x : Accepts j.how old n.0 p.command = n.1 in
        let same : all_puts j.parts ≡ (j.parts.close ++ j.parts.fill) ++ p ∷ [] = ap (λ ps. (j.parts.close ++ j.parts.fill) ++ ps) e in
        let y : Accepts j.how old new p.command = subst (λ v. Accepts j.how old v p.command) (sym n.2) x in
        let store : (old.step old.state p.command).after.store ≡ new.state.store = ap (λ t. t.store) (sym y.0.state) in
        opens j a new (since.more ++ y.0.obeyed.more) since.read (leads_on a old new since.more y.0.obeyed.more since.leads y.0.obeyed.leads)
        (three_on j a old new (j.parts.close ++ j.parts.fill) p.command since y.0.obeyed (New (subst (IsWritten j.how j.size j.message j.place j.store) (sym store) written)))
        (rises_on a old new since.rises y.0.obeyed.rises) since.begun
        (record { over = y.0.goes_on.over; lit = y.0.goes_on.lit; counts = y.0.goes_on.counts ∙ since.goes_on.counts }) since.all
        (answered_on j a old new (j.parts.close ++ j.parts.fill) p since y ∙ ap (λ ps. a.answered ++ (since.read ++ commands_of ps)) (sym same))
        (last_on j a old new (j.parts.close ++ j.parts.fill) p since y ∙ ap (λ ps. last_command a.last (since.read ++ commands_of ps)) (sym same))
        (ap (λ ps. refused_by j.how a.step (surveyed j.how a.state) (commands_of ps)) same ∙ accepted_on j a old new (j.parts.close ++ j.parts.fill) p since y) written
    by_last (p ∷ q ∷ ps) e n = absurd (omega (arith, ap length e, at.serves.last))

-- each phase
pub reaches : (phase : Phase) (j : WriteJob) (work : Work) (old new : LinkView) → IsAt phase j work old → Makes j.how old (next_at phase j) new → Reaches phase j work new
reaches Prepared j work old new at m = at_next Prepared Emptied j work old new refl at m
reaches Emptied j work old new at m = (let next = at_next Emptied Filled j work old new refl at m in (next, same_filled j work new next))
reaches Filled j work old new at m = written_at j work old new at m

pub reaches_since : (phase : Phase) (j : WriteJob) (work : Work) (a old new : LinkView) → IsAt phase j work old → Since j a old (made_at phase j) → Makes j.how old (next_at phase j) new
    → ReachesSince phase j a new
reaches_since Prepared j work a old new at since m = since_next Prepared j work a old new (λ e. cc) at since m
reaches_since Emptied j work a old new at since m = since_next Emptied j work a old new (λ e. cc) at since m
reaches_since Filled j work a old new at since m = opened_at j work a old new at since m
