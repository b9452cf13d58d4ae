-- A get that is answered by a value: where the two stand, from the answer to the value's last byte.
use Rattle.std.proofs.Common.{◌≡◌, ◌<◌, ◌≤◌, ℕ, ◌+◌, ◌^◌, Bool, true, false, List, [], ◌∷◌, ◌++◌, length, take, drop, Some, None, refl, sym, ◌∙◌, ap, subst, inr, arith, append-nil, append_assoc}
use Rattle.std.proofs.Common.{length-append, if◌then◌else◌}
use Rattle.std.specs.List.{concat}
use Rattle.std.proofs.lemmas.Bool.{eq-eqb, le-ltb, ne_eqb}
use Rattle.std.proofs.lemmas.List.{length-take, take-append-drop}
use Rattle.llcp_link.specs.State.{OwnState}
use Rattle.llcp_pdu.specs.General.{IsMiu}
use Rattle.snep_core.specs.declared.message.Answer.TheVariants as answers
use Rattle.snep_core.specs.declared.session.Due.TheVariants.{Tells as Tells_}
use Rattle.snep_core.specs.declared.session.Word.{Word}
use Rattle.snep_core.specs.declared.session.Word.TheVariants.{Offers, Resumes}
use Rattle.snep_core.specs.Accord.{IsPaired, Numbers}
use Rattle.snep_core.specs.Cuts.{NoneEmpty}
use Rattle.snep_core.specs.First.{info_of}
use Rattle.snep_core.specs.Jobs.{Asks, Collects, Ending, Job, Over, Sends, Value, head_of, sent_told, told, job_told, told_on, value_told}
use Rattle.snep_core.specs.Message.{answer_code, message}
use Rattle.snep_core.specs.Server.{Received, ServerState, serving}
use Rattle.snep_core.specs.Session.{Did, Offer, Sent, Session, did, fresh_session, sent}
use Rattle.snep_core.specs.Talk.{EndState, continue_bytes, finished, is_over}
use Rattle.snep_core.proofs.requests.Conversations.{AllWithin, Comes, Conversation, Converses, Hears, MayTell, Readies, StandsAt, Tells, hears_nothing, no_unit, stays}
use Rattle.snep_core.proofs.connections.OnConnection.{OnIt, conn_at, on_so, submits_on, takes_on}
use Rattle.snep_core.proofs.requests.RequestAnswers.{behind_stays, concat_more, never_full, no_room, none_more, paired_more, quiet, takes_room}
use Rattle.snep_core.proofs.requests.RequestPhases.{IsLast, Opens, number_is, opens}
use Rattle.snep_core.proofs.sessions.Served.{Serves, due_is, serves_brought, serves_sent}

-- The value waits at the server; its first unit was heard; the rest of it is to be asked for; it is asked for; the server goes on; its
-- client has these bytes, heard these units, and the rest is going out; it has the value.
pub data Later : Type 0 where
  Offering : Later
  FirstHeard : Later
  Asking : Later
  Requested : Later
  Resuming : Later
  Collecting : List ℕ → List (List ℕ) → List ℕ → Later
  Got : Later

-- a value of so many bytes goes on by these units, each of which has a byte
module _ (size : ℕ) where
  value_goes_on : (have u : List ℕ) (more : Job) → length (have ++ u) < size → value_told size (have ++ u) more ≡ Some more
  value_goes_on have u more h = rw (le-ltb size (length (have ++ u)) (omega arith), ne_eqb (length (have ++ u)) size (λ e. omega arith)) refl

  value_is_whole : (have : List ℕ) (more : Job) → length have ≡ size → value_told size have more ≡ Some (Over (Value have))
  value_is_whole have more h = rw (le-ltb size (length have) (omega arith), eq-eqb (length have) size h) refl

  pub collects_on : (us : List (List ℕ)) (have : List ℕ) → length (have ++ concat us) < size → job_told (Collects size have) us ≡ Some (Collects size (have ++ concat us))
  collects_on [] have h = ap (λ z. Some (Collects size z)) (sym (append-nil have))
  collects_on (u ∷ us) have h =
      let same : have ++ (u ++ concat us) ≡ (have ++ u) ++ concat us = sym (append_assoc have u (concat us)) in
      let short : length ((have ++ u) ++ concat us) < size = subst (λ z. length z < size) same h in
      let few : length (have ++ u) < size = (let e = length-append (have ++ u) (concat us) in omega arith) in
      ap (λ o. told_on o us) (value_goes_on have u (Collects size (have ++ u)) few)
      ∙ collects_on us (have ++ u) short
      ∙ ap (λ z. Some (Collects size z)) (sym same)

  pub collects_all : (us : List (List ℕ)) (u have : List ℕ) → NoneEmpty us → length (have ++ (u ++ concat us)) ≡ size
      → job_told (Collects size have) (u ∷ us) ≡ Some (Over (Value (have ++ (u ++ concat us))))
  collects_all [] u have n h =
      let same : have ++ (u ++ []) ≡ have ++ u = ap (λ z. have ++ z) (append-nil u) in
      ap (λ o. told_on o []) (value_is_whole (have ++ u) (Collects size (have ++ u)) (sym (ap length same) ∙ h)) ∙ ap (λ z. Some (Over (Value z))) (sym same)
  collects_all (w ∷ ws) u have n h =
      let same : have ++ (u ++ (w ++ concat ws)) ≡ (have ++ u) ++ (w ++ concat ws) = sym (append_assoc have u (w ++ concat ws)) in
      let whole : length ((have ++ u) ++ (w ++ concat ws)) ≡ size = sym (ap length same) ∙ h in
      let some : 0 < length w = n.0 in
      let few : length (have ++ u) < size = (let e = length-append (have ++ u) (w ++ concat ws) in let d = length-append w (concat ws) in omega arith) in
      ap (λ o. told_on o (w ∷ ws)) (value_goes_on have u (Collects size (have ++ u)) few)
      ∙ collects_all ws w (have ++ u) n.1 whole
      ∙ ap (λ z. Some (Over (Value z))) (sym same)

-- What the client makes of a first unit of a success.
record Heads (v u info : List ℕ) : Type 0 where
  pub info_is : info_of u ≡ info
  pub head_is : head_of u ≡ Some (record { code = answer_code answers.Success; said = length v })

heads : (v u rest : List ℕ) → length v < 2 ^ 32 → (b : Opens (answer_code answers.Success) v u rest) → Heads v u b.info
heads v u rest small b = rw b.is (record { info_is = refl; head_is = rw (number_is (length v) small) refl })

-- a session that has this to say; one of a value of which these bytes wait; one that these are going out on
abbrev telling : Word → Session
telling w = record fresh_session { due = Tells_ w ∷ [] }

abbrev keeping : List ℕ → Session
keeping rest = record fresh_session { waiting = rest }

abbrev giving : List ℕ → Session
giving bytes = record fresh_session { going = bytes }

-- the value, to a client that takes so many bytes of it, and so many in a unit; the key counts so much of the server's limit
module _ (limit counts most : ℕ) (v : List ℕ) (old : List Received) (size : ℕ) where
  abbrev bytes : List ℕ
  bytes = message answers.Success v

  abbrev first : List ℕ
  first = take size bytes

  abbrev rest : List ℕ
  rest = drop size bytes

  abbrev job_at : Later → Job
  job_at Offering = Sends (Some most) []
  job_at FirstHeard = Sends (Some most) []
  job_at Asking = Asks (length v) (info_of first)
  job_at Requested = Collects (length v) (info_of first)
  job_at Resuming = Collects (length v) (info_of first)
  job_at (Collecting have units going) = Collects (length v) have
  job_at Got = Over (Value v)

  abbrev queue_at : Later → List (List ℕ)
  queue_at Requested = continue_bytes ∷ []
  queue_at _ = []

  abbrev units_at : Later → List (List ℕ)
  units_at FirstHeard = first ∷ []
  units_at (Collecting have units going) = units
  units_at _ = []

  abbrev session_at : Later → Session
  session_at Offering = telling (Offers bytes)
  session_at FirstHeard = keeping rest
  session_at Asking = keeping rest
  session_at Requested = keeping rest
  session_at Resuming = record (keeping rest) { due = Tells_ Resumes ∷ [] }
  session_at (Collecting have units going) = giving going
  session_at Got = fresh_session

  -- what the client has, heard and is still to hear is the value
  pub record AddsUp (have : List ℕ) (units : List (List ℕ)) (going : List ℕ) : Type 0 where
    pub all : have ++ (concat units ++ going) ≡ v
    pub some : 0 < length (concat units ++ going)
    pub each : NoneEmpty units

  abbrev IsAt : Later → Type 0
  IsAt Offering = Unit {0}
  IsAt FirstHeard = Unit {0}
  IsAt Asking = 0 < length rest
  IsAt Requested = 0 < length rest
  IsAt Resuming = 0 < length rest
  IsAt (Collecting have units going) = AddsUp have units going
  IsAt Got = Unit {0}

  abbrev pub later : Conversation
  later = record {
    Phase = Later;
    job_at = job_at;
    queue_at = queue_at;
    units_at = units_at;
    session_at = session_at;
    accepted_at = λ ph. old;
    Holds = λ ph. (counts ≤ limit) × IsAt ph;
  }

  pub value_ends : (ph : Later) (e : Ending) → Over e ≡ job_at ph → IsLast later (Value v) ph e
  value_ends Offering e q = absurd cc
  value_ends FirstHeard e q = absurd cc
  value_ends Asking e q = absurd cc
  value_ends Requested e q = absurd cc
  value_ends Resuming e q = absurd cc
  value_ends (Collecting have units going) e q = absurd cc
  value_ends Got e q = record { end_is = cc; queue_is = refl; units_is = refl; session_is = refl }

  module _ (fits : IsMiu size) where
    first_short : length first ≤ size
    first_short = let e = length-take size bytes in omega (arith, e)

    first_six : 6 ≤ length first
    first_six = let e = length-take size bytes in omega (arith, e, fits.0)

    cut : Opens (answer_code answers.Success) v first rest
    cut = opens (answer_code answers.Success) v first rest first_six (sym (take-append-drop size bytes))

    module _ (small : most < 2 ^ 32) (few : length v ≤ most) (sap : ℕ) (table : List Offer) where
      abbrev Stands : Later → ServerState → Type 0
      Stands ph s = StandsAt sap limit table later ph s

      -- what the client makes of the first unit
      head : Heads v first cut.info
      head = heads v first rest (omega arith) cut

      all : info_of first ++ rest ≡ v
      all = ap (λ z. z ++ rest) head.info_is ∙ sym cut.all

      first_told : told (Sends (Some most) []) first ≡ value_told (length v) (info_of first) (Asks (length v) (info_of first))
      first_told =
          ap (sent_told (Some most) first) head.head_is
          ∙ ap (λ b. if b then None else value_told (length v) (info_of first) (Asks (length v) (info_of first))) (le-ltb most (length v) few)

      -- the first unit goes out, and all behind it waits
      offers : counts ≤ limit → (s : ServerState) → Stands Offering s → Tells sap limit table later size Offering s
      offers k s h =
          let z : Sent = record { session = keeping rest; unit = Some first } in
          let e : sent size (telling (Offers bytes)) ≡ z = refl in record {
            unit = first;
            due = due_is sap limit table s (telling (Offers bytes)) old h size z e;
            short = first_short;
            some = (let f = first_six in omega arith);
            to = FirstHeard;
            holds = (k, tt);
            job = refl;
            queue_is = refl;
            units_is = refl;
            serves = serves_sent sap limit table s (telling (Offers bytes)) old h size z e;
          }

      -- a unit of bytes that are going out
      record Gives (going : List ℕ) (s : ServerState) : Type 0 where
        pub due : serving.due s sap size ≡ Some (take size going)
        pub short : length (take size going) ≤ size
        pub some : 0 < length (take size going)
        pub serves : Serves sap limit table (serving.sent s sap size) (giving (drop size going)) old

      gives : (x : Session) (going : List ℕ) (s : ServerState) → Serves sap limit table s x old → 0 < length going
          → sent size x ≡ record { session = giving (drop size going); unit = Some (take size going) } → Gives going s
      gives x going s h some e =
          let z : Sent = record { session = giving (drop size going); unit = Some (take size going) } in
          let len = length-take size going in record {
            due = due_is sap limit table s x old h size z e;
            short = omega (arith, len);
            some = omega (arith, len, fits.0, some);
            serves = serves_sent sap limit table s x old h size z e;
          }

      resumed : (n : List ℕ) → 0 < length n → sent size (record (keeping n) { due = Tells_ Resumes ∷ [] }) ≡ record { session = giving (drop size n); unit = Some (take size n) }
      resumed n h = rw (ne_eqb (length n) 0 (λ e. omega arith)) refl

      resumes : counts ≤ limit → 0 < length rest → (s : ServerState) → Stands Resuming s → Tells sap limit table later size Resuming s
      resumes k some s h =
          let g = gives (session_at Resuming) rest s h some (resumed rest some) in
          let same : concat (take size rest ∷ []) ++ drop size rest ≡ rest = ap (λ z. z ++ drop size rest) (append-nil (take size rest)) ∙ take-append-drop size rest in record {
            unit = take size rest;
            due = g.due;
            short = g.short;
            some = g.some;
            to = Collecting (info_of first) (take size rest ∷ []) (drop size rest);
            holds = (k, record { all = ap (λ z. info_of first ++ z) same ∙ all; some = subst (λ z. 0 < length z) (sym same) some; each = (g.some, tt) });
            job = refl;
            queue_is = refl;
            units_is = refl;
            serves = g.serves;
          }

      collects : counts ≤ limit → (have : List ℕ) (units : List (List ℕ)) (b : ℕ) (bs : List ℕ) → AddsUp have units (b ∷ bs) → (s : ServerState) → Stands (Collecting have units (b ∷ bs)) s
          → Tells sap limit table later size (Collecting have units (b ∷ bs)) s
      collects k have units b bs w s h =
          let u = take size (b ∷ bs) in
          let more = drop size (b ∷ bs) in
          let g = gives (giving (b ∷ bs)) (b ∷ bs) s h (omega arith) refl in
          let same : concat (units ++ u ∷ []) ++ more ≡ concat units ++ (b ∷ bs) =
          ap (λ z. z ++ more) (concat_more units u) ∙ append_assoc (concat units) u more ∙ ap (λ z. concat units ++ z) (take-append-drop size (b ∷ bs)) in record {
            unit = u;
            due = g.due;
            short = g.short;
            some = g.some;
            to = Collecting have (units ++ u ∷ []) more;
            holds = (k, record { all = ap (λ z. have ++ z) same ∙ w.all; some = subst (λ z. 0 < length z) (sym same) w.some; each = none_more units u w.each g.some });
            job = refl;
            queue_is = refl;
            units_is = refl;
            serves = g.serves;
          }

      value_tells : (ph : Later) → (counts ≤ limit) × IsAt ph → (s : ServerState) → Stands ph s → MayTell sap limit table later size ph s
      value_tells Offering k s h = inr (offers k.0 s h)
      value_tells FirstHeard k s h = quiet sap size limit table later FirstHeard s h (sent size (keeping rest)) refl refl
      value_tells Asking k s h = quiet sap size limit table later Asking s h (sent size (keeping rest)) refl refl
      value_tells Requested k s h = quiet sap size limit table later Requested s h (sent size (keeping rest)) refl refl
      value_tells Resuming k s h = inr (resumes k.0 k.1 s h)
      value_tells (Collecting have units []) k s h = quiet sap size limit table later (Collecting have units []) s h (sent size fresh_session) refl refl
      value_tells (Collecting have units (b ∷ bs)) k s h = inr (collects k.0 have units b bs k.1 s h)
      value_tells Got k s h = quiet sap size limit table later Got s h (sent size fresh_session) refl refl

      -- the continue comes
      continue_comes : counts ≤ limit → 0 < length rest → (s : ServerState) → Stands Requested s → Comes sap limit table later Requested [] [] (serving.brought s sap continue_bytes)
      continue_comes k some s h =
          let d : Did = record { session = session_at Resuming; accepts = None } in
          let e : did limit table (keeping rest) continue_bytes ≡ d = refl in record {
            to = Resuming;
            holds = (k, some);
            job = refl;
            queue_is = refl;
            units_is = refl;
            serves = subst (λ z. Serves sap limit table (serving.brought s sap continue_bytes) (session_at Resuming) z) (append-nil old)
                (serves_brought sap limit table s (keeping rest) old h continue_bytes d e);
          }

      value_comes : (ph : Later) (u : List ℕ) (queue : List (List ℕ)) → queue_at ph ≡ u ∷ queue → (counts ≤ limit) × IsAt ph → (s : ServerState) → Stands ph s
          → Comes sap limit table later ph queue (units_at ph) (serving.brought s sap u)
      value_comes Requested u queue e k s h =
          let i : continue_bytes ≡ u = cc in
          let j : [] ≡ queue = cc in
          subst (λ q. Comes sap limit table later Requested q [] (serving.brought s sap u)) j
          (subst (λ w. Comes sap limit table later Requested [] [] (serving.brought s sap w)) i (continue_comes k.0 k.1 s h))
      value_comes Offering u queue e k s h = absurd (no_unit u queue e)
      value_comes FirstHeard u queue e k s h = absurd (no_unit u queue e)
      value_comes Asking u queue e k s h = absurd (no_unit u queue e)
      value_comes Resuming u queue e k s h = absurd (no_unit u queue e)
      value_comes (Collecting have units going) u queue e k s h = absurd (no_unit u queue e)
      value_comes Got u queue e k s h = absurd (no_unit u queue e)

      -- the client takes up what it heard
      first_taken : counts ≤ limit → (r : List ℕ) → rest ≡ r → Hears sap limit table later FirstHeard
      first_taken k [] e =
          let whole : info_of first ≡ v = sym (append-nil (info_of first)) ∙ ap (λ z. info_of first ++ z) (sym e) ∙ all in record {
            to = Got;
            holds = (k, tt);
            told = ap (λ o. told_on o []) (first_told ∙ value_is_whole (length v) (info_of first) (Asks (length v) (info_of first)) (ap length whole) ∙ ap (λ z. Some (Over (Value z))) whole);
            apart = λ w. absurd cc;
            queue_is = refl;
            units_is = refl;
            session_is = ap keeping (sym e);
            accepted_is = refl;
          }
      first_taken k (b ∷ bs) e =
          let some : 0 < length rest = rw e (omega arith) in
          let total : length v ≡ length (info_of first) + length rest = ap length (sym all) ∙ length-append (info_of first) rest in
          let short : length (info_of first ++ []) < length v = subst (λ z. length z < length v) (sym (append-nil (info_of first))) (omega arith) in
          let on : value_told (length v) (info_of first) (Asks (length v) (info_of first)) ≡ Some (Asks (length v) (info_of first)) =
          ap (λ z. value_told (length v) z (Asks (length v) (info_of first))) (sym (append-nil (info_of first)))
          ∙ value_goes_on (length v) (info_of first) [] (Asks (length v) (info_of first)) short in record {
            to = Asking;
            holds = (k, some);
            told = ap (λ o. told_on o []) (first_told ∙ on);
            apart = λ w. absurd cc;
            queue_is = refl;
            units_is = refl;
            session_is = refl;
            accepted_is = refl;
          }

      units_taken : counts ≤ limit → (have : List ℕ) (units : List (List ℕ)) (going : List ℕ) → AddsUp have units going → Hears sap limit table later (Collecting have units going)
      units_taken k have [] [] w = absurd (let z = w.some in omega arith)
      units_taken k have (u ∷ us) [] w =
          let whole : have ++ (u ++ concat us) ≡ v = ap (λ z. have ++ z) (sym (append-nil (u ++ concat us))) ∙ w.all in record {
            to = Got;
            holds = (k, tt);
            told = collects_all (length v) us u have w.each.1 (ap length whole) ∙ ap (λ z. Some (Over (Value z))) whole;
            apart = λ w. absurd cc;
            queue_is = refl;
            units_is = refl;
            session_is = refl;
            accepted_is = refl;
          }
      units_taken k have units (b ∷ bs) w =
          let same : (have ++ concat units) ++ (b ∷ bs) ≡ v = append_assoc have (concat units) (b ∷ bs) ∙ w.all in
          let short : length (have ++ concat units) < length v = (let a = ap length (sym same) ∙ length-append (have ++ concat units) (b ∷ bs) in omega arith) in record {
            to = Collecting (have ++ concat units) [] (b ∷ bs);
            holds = (k, record { all = same; some = omega arith; each = tt });
            told = collects_on (length v) units have short;
            apart = λ w. absurd cc;
            queue_is = refl;
            units_is = refl;
            session_is = refl;
            accepted_is = refl;
          }

      value_hears : (ph : Later) → (counts ≤ limit) × IsAt ph → Hears sap limit table later ph
      value_hears Offering k = hears_nothing sap limit table later Offering k refl
      value_hears FirstHeard k = first_taken k.0 rest refl
      value_hears Asking k = hears_nothing sap limit table later Asking k refl
      value_hears Requested k = hears_nothing sap limit table later Requested k refl
      value_hears Resuming k = hears_nothing sap limit table later Resuming k refl
      value_hears (Collecting have units going) k = units_taken k.0 have units going k.1
      value_hears Got k = hears_nothing sap limit table later Got k refl

      value_plain : (ph : Later) (l : EndState) → finished l sap (job_at ph) ≡ job_at ph
      value_plain Offering l = refl
      value_plain FirstHeard l = refl
      value_plain Asking l = refl
      value_plain Requested l = refl
      value_plain Resuming l = refl
      value_plain (Collecting have units going) l = refl
      value_plain Got l = refl

      -- what the client submits
      module _ (miu : ℕ) (range : IsMiu miu) (n : Numbers) (is : n.server_miu ≡ miu) where
        abbrev bare_end : OwnState
        bare_end = conn_at sap n [] []

        abbrev chosen : Bool → OnIt
        chosen b =
            if b then on_so (submits_on bare_end continue_bytes) (Collects (length v) (info_of first))
            else on_so bare_end (Asks (length v) (info_of first))

        six_fit : length continue_bytes ≤ n.server_miu
        six_fit = let e : length continue_bytes ≡ 6 = refl in let z : n.server_miu ≡ miu = is in omega (arith, e, z, range.0)

        asks_for : (counts ≤ limit) × (0 < length rest) → IsPaired n 0 → (b : Bool) → takes_on bare_end continue_bytes ≡ b → Readies sap limit table later size n Asking
        asks_for k r true t = record {
          to = Requested;
          holds = k;
          paired = paired_more sap n [] continue_bytes r (takes_room sap n [] [] continue_bytes t);
          ready = ap chosen t;
          session_is = refl;
          accepted_is = refl;
          same_units = refl;
          same_over = refl;
          busy = λ u o q a s h. absurd (no_unit _ _ (sym q));
        }
        asks_for k r false t = record {
          to = Asking;
          holds = k;
          paired = r;
          ready = ap chosen t;
          session_is = refl;
          accepted_is = refl;
          same_units = refl;
          same_over = refl;
          busy = λ u o q a s h. absurd (never_full sap n [] 0 r (no_room sap n [] [] continue_bytes six_fit t) refl a);
        }

        low : 0 < miu
        low = omega (arith, range.0)

        collecting_stays : (have : List ℕ) (units : List (List ℕ)) (going : List ℕ) → (counts ≤ limit) × AddsUp have units going → IsPaired n 0
            → Readies sap limit table later size n (Collecting have units going)
        collecting_stays have units (b ∷ bs) k r = stays sap limit table later (Collecting have units (b ∷ bs)) k size n r refl (λ u o q s h. collects k.0 have units b bs k.1 s h)
        collecting_stays have [] [] k r = absurd (let z = k.1.some in omega arith)
        collecting_stays have (x ∷ xs) [] k r = stays sap limit table later (Collecting have (x ∷ xs) []) k size n r refl (λ u o q s h. absurd (no_unit _ _ (sym u)))

        value_readies : (ph : Later) → (counts ≤ limit) × IsAt ph → IsPaired n (length (queue_at ph)) → Readies sap limit table later size n ph
        value_readies Offering k r = stays sap limit table later Offering k size n r (behind_stays sap n (Some most) miu is [] [] [] low) (λ u o q s h. offers k.0 s h)
        value_readies FirstHeard k r = stays sap limit table later FirstHeard k size n r (behind_stays sap n (Some most) miu is [] (first ∷ []) [] low) (λ u o q s h. absurd (no_unit _ _ (sym u)))
        value_readies Asking k r = asks_for k r (takes_on bare_end continue_bytes) refl
        value_readies Requested k r = stays sap limit table later Requested k size n r refl (λ u o q s h. absurd (no_unit _ _ (sym q)))
        value_readies Resuming k r = stays sap limit table later Resuming k size n r refl (λ u o q s h. resumes k.0 k.1 s h)
        value_readies (Collecting have units going) k r = collecting_stays have units going k r
        value_readies Got k r = stays sap limit table later Got k size n r refl (λ u o q s h. absurd cc)

      value_within : (miu : ℕ) → IsMiu miu → (ph : Later) → AllWithin miu (queue_at ph)
      value_within miu range Offering = tt
      value_within miu range FirstHeard = tt
      value_within miu range Asking = tt
      value_within miu range Requested = ((let e : length continue_bytes ≡ 6 = refl in omega (arith, e, range.0)), tt)
      value_within miu range Resuming = tt
      value_within miu range (Collecting have units going) = tt
      value_within miu range Got = tt

      value_done : (ph : Later) → is_over (job_at ph) ≡ true → queue_at ph ≡ []
      value_done Offering o = refl
      value_done FirstHeard o = refl
      value_done Asking o = refl
      value_done Requested o = absurd cc
      value_done Resuming o = refl
      value_done (Collecting have units going) o = refl
      value_done Got o = refl

      pub value_converses : (miu : ℕ) → IsMiu miu → Converses sap limit table later miu size
      value_converses miu range = record {
        within = λ ph k. value_within miu range ph;
        comes = value_comes;
        tells = value_tells;
        hears = value_hears;
        done = λ ph k o. value_done ph o;
        plain = value_plain;
        readies = λ ph k n is r. value_readies miu range n is ph k r;
      }
