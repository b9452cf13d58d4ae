-- What is said of a client's end beside its own connections stays true while a call prepares its payload and takes its reply.
use Rattle.std.proofs.Common.{◌≡◌, ◌≤◌, nat_lt, ℕ, zero, suc, Bool, true, false, List, [], ◌∷◌, length, take, drop, Option, Some, None, refl, sym, ap, subst, ◌∙◌}
use Rattle.llcp_link.specs.Asking.{disconnected_by, forgotten, is_busy_by, is_open_by, standing_of, submitted_by}
use Rattle.llcp_link.specs.State.{OwnState, own_from}
use Rattle.llcp_link.specs.Giving.{after_giving}
use Rattle.llcp_link.specs.Taking.{taken_from}
use Rattle.llcp_link.proofs.Ranged.{either}
use Rattle.snep_core.specs.declared.job.Job.{Job}
use Rattle.snep_core.specs.declared.job.Job.TheVariants.{Begins, Waits, Sends, Asks, Collects, Looks, Closes, Over}
use Rattle.snep_core.specs.declared.job.OnSap.{OnSap}
use Rattle.snep_core.specs.Talk as talk
use Rattle.snep_core.specs.Talk.{CameTo, EndState, Ends, Finds, Gets, GivesUp, Goes, Leaves, Puts, Ready, Step, Task, TaskOn, Working, all_emptied, all_forgotten, all_heard, all_opening, all_over}
use Rattle.snep_core.specs.Talk.{all_readied, all_well, begins_all, continue_bytes, emptied, gave_any, idle_after, miu_of, most_idle, payload, readied, ready, replied, sends_some, silent, submits}
use Rattle.snep_core.specs.Talk.{takes_more, took}
use Rattle.link_numbers.specs.OwnShows.{AtEnd, IsWithin}
use Rattle.link_numbers.proofs.far.EndTakes.{after_has, taken_has, unread_after, unread_given, unread_takes}

module _ (P : EndState → Type 0) (own : (l : EndState) (os : List OwnState) → P l → P (record l { own = os })) where
  submitted_keeps : (l : EndState) (unit : List ℕ) (o : Option OwnState) → P l → P (submitted_by l unit o)
  submitted_keeps l unit None h = h
  submitted_keeps l unit (Some o) h = own l _ h

  submits_keeps : (l : EndState) (sap : ℕ) (unit : List ℕ) → P l → P (submits l sap unit)
  submits_keeps l sap unit h = submitted_keeps l unit (own_from sap l.own) h

  begins_keeps : (l : EndState) (sap : ℕ) (most : Option ℕ) (bytes : List ℕ) (o : Option ℕ) → P l → P (talk.begins_on l sap most bytes o).llc
  begins_keeps l sap most bytes None h = h
  begins_keeps l sap most bytes (Some miu) h =
      either {X = Ready} (λ r. P r.llc) (takes_more l sap (take miu bytes)) _ _ (λ e. submits_keeps l sap (take miu bytes) h) (λ e. h)

  some_keeps : (n miu : ℕ) (l : EndState) (sap : ℕ) (most : Option ℕ) (rest : List ℕ) → P l → P (sends_some n miu l sap most rest).llc
  some_keeps zero miu l sap most rest h = h
  some_keeps (suc n) miu l sap most [] h = h
  some_keeps (suc n) miu l sap most (b ∷ bs) h =
      either {X = Ready} (λ r. P r.llc) (takes_more l sap (take miu (b ∷ bs))) _ _
      (λ e. some_keeps n miu (submits l sap (take miu (b ∷ bs))) sap most (drop miu (b ∷ bs)) (submits_keeps l sap (take miu (b ∷ bs)) h)) (λ e. h)

  sends_keeps : (l : EndState) (sap : ℕ) (most : Option ℕ) (rest : List ℕ) (o : Option ℕ) → P l → P (talk.sends_on l sap most rest o).llc
  sends_keeps l sap most rest None h = h
  sends_keeps l sap most rest (Some miu) h = some_keeps (length rest) miu l sap most rest h

  asks_keeps : (l : EndState) (sap size : ℕ) (have : List ℕ) → P l → P (talk.asks_on l sap size have).llc
  asks_keeps l sap size have h = either {X = Ready} (λ r. P r.llc) (takes_more l sap continue_bytes) _ _ (λ e. submits_keeps l sap continue_bytes h) (λ e. h)

  readied_keeps : (l : EndState) (sap : ℕ) (job : Job) → P l → P (readied l sap job).llc
  readied_keeps l sap (Begins most bytes) h = begins_keeps l sap most bytes (miu_of (standing_of (own_from sap l.own))) h
  readied_keeps l sap (Sends most rest) h = sends_keeps l sap most rest (miu_of (standing_of (own_from sap l.own))) h
  readied_keeps l sap (Asks size have) h = asks_keeps l sap size have h
  readied_keeps l sap (Waits most rest) h = h
  readied_keeps l sap (Collects size have) h = h
  readied_keeps l sap (Looks tid) h = h
  readied_keeps l sap Closes h = h
  readied_keeps l sap (Over e) h = h

  all_readied_keeps : (xs : List OnSap) (l : EndState) → P l → P (all_readied xs l).llc
  all_readied_keeps [] l h = h
  all_readied_keeps (x ∷ xs) l h = all_readied_keeps xs (readied l x.sap x.job).llc (readied_keeps l x.sap x.job h)

  pub ready_keeps : (w : Working) → P w.llc → P (ready w).llc
  ready_keeps w h = all_readied_keeps w.jobs w.llc h

  emptied_keeps : (l : EndState) (o : Option OwnState) → P l → P (talk.emptied_by l o)
  emptied_keeps l None h = h
  emptied_keeps l (Some o) h = own l _ h

  all_emptied_keeps : (xs : List OnSap) (l : EndState) → P l → P (all_emptied xs l)
  all_emptied_keeps [] l h = h
  all_emptied_keeps (x ∷ xs) l h = all_emptied_keeps xs (emptied l x.sap) (emptied_keeps l (own_from x.sap l.own) h)

  all_forgotten_keeps : (xs : List OnSap) (l : EndState) → P l → P (all_forgotten xs l)
  all_forgotten_keeps [] l h = h
  all_forgotten_keeps (x ∷ xs) l h = all_forgotten_keeps xs (forgotten l x.sap) (own l _ h)

  goes_keeps : (l : EndState) (jobs : List OnSap) (idle : ℕ) → P l → AtEnd P (talk.goes_on l jobs idle)
  goes_keeps l jobs idle h = either {X = Step} (AtEnd P) (nat_lt idle most_idle) _ _ (λ e. h) (λ e. all_forgotten_keeps jobs l h)

  settled_keeps : (l : EndState) (jobs : List OnSap) (idle : ℕ) → P l → AtEnd P (talk.settled l jobs idle)
  settled_keeps l jobs idle h = either {X = Step} (AtEnd P) (all_over jobs) _ _ (λ e. h) (λ e. goes_keeps l jobs idle h)

  told_keeps : (l : EndState) (jobs : List OnSap) (came : List CameTo) (idle : ℕ) (o : Option (List OnSap)) → P l → AtEnd P (talk.call_behind l jobs came idle o)
  told_keeps l jobs came idle None h = all_forgotten_keeps jobs l h
  told_keeps l jobs came idle (Some now) h = settled_keeps (all_emptied jobs l) now idle (all_emptied_keeps jobs l h)

  took_keeps : (old l : EndState) (jobs : List OnSap) (idle : ℕ) → P l → AtEnd P (took old l jobs idle)
  took_keeps old l jobs idle h = told_keeps l jobs (all_heard old l jobs) (idle_after (gave_any old l jobs) idle) (all_well (all_heard old l jobs)) h

pub ready_within : (w : Working) → IsWithin w.llc → IsWithin (ready w).llc
ready_within w h = ready_keeps IsWithin (λ l os k. k) w h

pub reply_within : (n : ℕ) (w : Working) (reply : List ℕ) → IsWithin w.llc → AtEnd IsWithin (replied n w reply)
reply_within n w reply h =
    let l : EndState = after_giving silent n (ready w).llc in
    let same : (taken_from silent l reply).far_miu ≡ (ready w).llc.far_miu = taken_has silent (ready w).llc.far_miu l reply (after_has silent (ready w).llc.far_miu n (ready w).llc refl) in
    took_keeps IsWithin (λ l os k. k) l (taken_from silent l reply) (ready w).jobs (ready w).idle (subst (λ miu. miu ≤ 2176) (sym same) (ready_within w h))

-- so it is of a call that begins
connected_within : (l : EndState) (sap : ℕ) → IsWithin l → IsWithin (talk.connected l sap)
connected_within l sap h = either {X = EndState} IsWithin (is_busy_by (own_from sap l.own)) l _ (λ e. h) (λ e. h)

left_within : (l : EndState) (o : Option OwnState) → IsWithin l → IsWithin (disconnected_by l o)
left_within l None h = h
left_within l (Some o) h = h

leaving_within : (l : EndState) (sap : ℕ) (t : Bool) → IsWithin l → IsWithin (talk.leaving l sap t).llc
leaving_within l sap true h = left_within l (own_from sap l.own) h
leaving_within l sap false h = h

opening_within : (l : EndState) (sap : ℕ) (task : Task) → IsWithin l → IsWithin (talk.opening l sap task).llc
opening_within l sap (Puts message) h = connected_within l sap h
opening_within l sap (Gets most key) h = connected_within l sap h
opening_within l sap (Finds name) h = h
opening_within l sap Leaves h = leaving_within l sap (is_open_by (own_from sap l.own)) h

all_opening_within : (xs : List TaskOn) (l : EndState) → IsWithin l → IsWithin (all_opening xs l).llc
all_opening_within [] l h = h
all_opening_within (x ∷ xs) l h = all_opening_within xs (talk.opening l x.sap x.task).llc (opening_within l x.sap x.task h)

pub begins_within : (l : EndState) (tasks : List TaskOn) → IsWithin l → AtEnd IsWithin (begins_all l tasks)
begins_within l tasks h =
    let k : IsWithin (all_opening tasks l).llc = all_opening_within tasks l h in
    either {X = Step} (AtEnd IsWithin) (all_over (all_opening tasks l).jobs) _ _ (λ e. k) (λ e. k)

-- an end that couldn't read general bytes: it gives nothing, and stays so, by whatever numbers
abbrev pub Unread : EndState → Type 0
Unread l = l.readable ≡ false

pub ready_unread : (w : Working) → Unread w.llc → Unread (ready w).llc
ready_unread w h = ready_keeps Unread (λ l os k. k) w h

pub none_by : (a b : ℕ) (w : Working) → Unread (ready w).llc → payload a w ≡ payload b w
none_by a b w h = unread_given silent (ready w).llc h a ∙ sym (unread_given silent (ready w).llc h b)

pub reply_by : (a b : ℕ) (w : Working) (reply : List ℕ) → after_giving silent a (ready w).llc ≡ after_giving silent b (ready w).llc → replied a w reply ≡ replied b w reply
reply_by a b w reply e = ap (λ l. took l (taken_from silent l reply) (ready w).jobs (ready w).idle) e

pub told_by : (a b : ℕ) (w : Working) (reply : List ℕ) → Unread (ready w).llc → replied a w reply ≡ replied b w reply
told_by a b w reply h = reply_by a b w reply (unread_after silent (ready w).llc h a ∙ sym (unread_after silent (ready w).llc h b))

pub reply_unread : (n : ℕ) (w : Working) (reply : List ℕ) → Unread (ready w).llc → AtEnd Unread (replied n w reply)
reply_unread n w reply h =
    let l : EndState = after_giving silent n (ready w).llc in
    let same : l ≡ (ready w).llc = unread_after silent (ready w).llc h n in
    let still : Unread l = ap (λ (x : EndState). x.readable) same ∙ h in
    took_keeps Unread (λ l os k. k) l (taken_from silent l reply) (ready w).jobs (ready w).idle (ap (λ (x : EndState). x.readable) (unread_takes silent l still reply) ∙ still)
