-- A request of a client at a server that awaits one: where the two stand, unit by unit, until all of it came.
use Rattle.std.proofs.Common.{◌≡◌, ◌<◌, ◌≤◌, ◌⊎◌, ℕ, ◌+◌, ◌-◌, ◌/◌, ◌%◌, ◌^◌, ◌==◌, false, List, [], ◌∷◌, ◌++◌, length, take, drop, Option, Some, None, refl, sym, ◌∙◌, ap, subst, inl, inr, arith}
use Rattle.std.proofs.Common.{append-nil, append_assoc, length-append}
use Rattle.std.specs.List.{concat}
use Rattle.std.proofs.lemmas.Bool.{cases_lt, eq-eqb, le-ltb}
use Rattle.std.proofs.lemmas.Bool.Decides.{nat_tests}
use Rattle.std.proofs.lemmas.List.{length-take, take-append-drop}
use Rattle.llcp_pdu.specs.General.{IsMiu}
use Rattle.snep_core.specs.declared.message.Answer.{Answer}
use Rattle.snep_core.specs.declared.message.Answer.TheVariants as answers
use Rattle.snep_core.specs.declared.message.Request.{Request}
use Rattle.snep_core.specs.declared.first.First.TheVariants as firsts
use Rattle.snep_core.specs.declared.session.Due.{Due}
use Rattle.snep_core.specs.declared.session.Due.TheVariants.{Tells}
use Rattle.snep_core.specs.declared.session.Word.TheVariants.{Answers}
use Rattle.snep_core.specs.declared.job.Refusal.TheVariants as refusals
use Rattle.snep_core.specs.Cuts.{NoneEmpty}
use Rattle.snep_core.specs.First.{by_code, first_of, info_of}
use Rattle.snep_core.specs.Jobs.{Begins, Ending, Job, Over, Refused, Sends}
use Rattle.snep_core.specs.Message.{message, message_of_code, number}
use Rattle.snep_core.specs.Server.{Received, ServerState, received, serving}
use Rattle.snep_core.specs.Session.{Did, Gathering, Offer, Session, first_did, fresh_session, later_did, obeys}
use Rattle.snep_core.specs.Talk.{behind_first}
use Rattle.snep_core.proofs.requests.Conversations.{AllWithin, Comes, Conversation, Converses}
use Rattle.snep_core.proofs.sessions.Served.{Serves, serves_brought}

abbrev pub answering : Answer → Session
answering a = record { gathered = None; due = Tells (Answers a) ∷ []; waiting = []; going = [] }

abbrev pub gathering : Request → ℕ → List ℕ → List Due → Session
gathering request left info due = record { gathered = Some (record { request = request; left = left; info = info }); due = due; waiting = []; going = [] }

-- Where a request stands; and behind it, once all of it came.
pub data Phase (Later : Type 0) : Type 0 where
  Unsent : Phase Later
  Submitted : Phase Later
  Refusing : Phase Later
  RefusalHeard : Phase Later
  Continues : Phase Later
  ContinueHeard : Phase Later
  Sending : List ℕ → List (List ℕ) → List ℕ → Phase Later
  Rejected : Phase Later
  Came : Later → Phase Later

-- A request of this code, whose information counts so much of the server's limit.
pub record Asked : Type 0 where
  pub request : Request
  pub code : ℕ
  pub most : Option ℕ
  pub info : List ℕ
  pub size : ℕ

abbrev pub bytes_of : Asked → List ℕ
bytes_of r = message_of_code r.code r.info

-- how a server reads its first unit, with so many bytes of its information
pub record IsRead (limit : ℕ) (r : Asked) : Type 0 where
  pub short : length r.info < 2 ^ 32
  pub over : limit < r.size → (k : ℕ) → k ≤ length r.info → by_code limit r.code (length r.info) k ≡ firsts.Says answers.Reject
  pub whole : r.size ≤ limit → by_code limit r.code (length r.info) (length r.info) ≡ firsts.Whole r.request
  pub partly : r.size ≤ limit → (k : ℕ) → k < length r.info → by_code limit r.code (length r.info) k ≡ firsts.Partly r.request (length r.info - k)

-- a message's first unit, behind which these bytes are still to come
pub record Opens (code : ℕ) (said u rest : List ℕ) : Type 0 where
  pub info : List ℕ
  pub is : u ≡ 16 ∷ code ∷ (length said / 16777216) ∷ (length said / 65536 % 256) ∷ (length said / 256 % 256) ∷ (length said % 256) ∷ info
  pub all : said ≡ info ++ rest

pub opens : (code : ℕ) (said u rest : List ℕ) → 6 ≤ length u → message_of_code code said ≡ u ++ rest → Opens code said u rest
opens code said [] rest h e = absurd (omega arith)
opens code said (a ∷ []) rest h e = absurd (omega arith)
opens code said (a ∷ b ∷ []) rest h e = absurd (omega arith)
opens code said (a ∷ b ∷ c ∷ []) rest h e = absurd (omega arith)
opens code said (a ∷ b ∷ c ∷ d ∷ []) rest h e = absurd (omega arith)
opens code said (a ∷ b ∷ c ∷ d ∷ f ∷ []) rest h e = absurd (omega arith)
opens code said (a ∷ b ∷ c ∷ d ∷ f ∷ g ∷ info) rest h e =
    let e0 : a ≡ 16 = cc in
    let e1 : b ≡ code = cc in
    let e2 : c ≡ length said / 16777216 = cc in
    let e3 : d ≡ length said / 65536 % 256 = cc in
    let e4 : f ≡ length said / 256 % 256 = cc in
    let e5 : g ≡ length said % 256 = cc in
    record { info = info; is = rw (e0, e1, e2, e3, e4, e5) refl; all = cc }

pub number_is : (n : ℕ) → n < 2 ^ 32 → number (n / 16777216) (n / 65536 % 256) (n / 256 % 256) (n % 256) ≡ n
number_is n h = omega arith

pub record Reads (limit : ℕ) (r : Asked) (u info : List ℕ) : Type 0 where
  pub info_is : info_of u ≡ info
  pub first : first_of limit u ≡ by_code limit r.code (length r.info) (length info)

reads : (limit : ℕ) (r : Asked) (u rest : List ℕ) → length r.info < 2 ^ 32 → (b : Opens r.code r.info u rest) → Reads limit r u b.info
reads limit r u rest h b = rw b.is (record { info_is = refl; first = rw (number_is (length r.info) h) refl })

module _ (miu limit : ℕ) (table : List Offer) (ask : Asked) (old : List Received) (later : Conversation) where
  abbrev pub Here : Type 0
  Here = Phase later.Phase

  -- the first unit, and the rest
  abbrev pub first_unit : List ℕ
  first_unit = take miu (bytes_of ask)

  abbrev pub rest_units : List ℕ
  rest_units = drop miu (bytes_of ask)

  abbrev pub job_at : Here → Job
  job_at Unsent = Begins ask.most (bytes_of ask)
  job_at Submitted = behind_first ask.most rest_units
  job_at Refusing = behind_first ask.most rest_units
  job_at RefusalHeard = behind_first ask.most rest_units
  job_at Continues = behind_first ask.most rest_units
  job_at ContinueHeard = behind_first ask.most rest_units
  job_at (Sending info queue rest) = Sends ask.most rest
  job_at Rejected = Over (Refused refusals.Reject)
  job_at (Came ph) = later.job_at ph

  abbrev pub queue_at : Here → List (List ℕ)
  queue_at Submitted = first_unit ∷ []
  queue_at (Sending info queue rest) = queue
  queue_at (Came ph) = later.queue_at ph
  queue_at _ = []

  abbrev pub units_at : Here → List (List ℕ)
  units_at RefusalHeard = message answers.Reject [] ∷ []
  units_at ContinueHeard = message answers.Continue [] ∷ []
  units_at (Came ph) = later.units_at ph
  units_at _ = []

  abbrev pub session_at : Here → Session
  session_at Refusing = answering answers.Reject
  session_at Continues = gathering ask.request (length rest_units) (info_of first_unit) (Tells (Answers answers.Continue) ∷ [])
  session_at ContinueHeard = gathering ask.request (length rest_units) (info_of first_unit) []
  session_at (Sending info queue rest) = gathering ask.request (length (concat queue ++ rest)) info []
  session_at (Came ph) = later.session_at ph
  session_at _ = fresh_session

  abbrev pub accepted_at : Here → List Received
  accepted_at (Came ph) = later.accepted_at ph
  accepted_at _ = old

  -- Where it is longer than the limit it is refused, and where it isn't, its units add up to it.
  abbrev pub Holds : Here → Type 0
  Holds Unsent = Unit {0}
  Holds Submitted = Unit {0}
  Holds Refusing = limit < ask.size
  Holds RefusalHeard = limit < ask.size
  Holds Continues = (ask.size ≤ limit) × (0 < length rest_units)
  Holds ContinueHeard = (ask.size ≤ limit) × (0 < length rest_units)
  Holds (Sending info queue rest) =
      (ask.size ≤ limit) × (0 < length (concat queue ++ rest)) × (info ++ (concat queue ++ rest) ≡ ask.info) × NoneEmpty queue × AllWithin miu queue
  Holds Rejected = limit < ask.size
  Holds (Came ph) = later.Holds ph

  -- A request, by the two ends' MIUs, and what comes of it.
  abbrev pub conversation : Conversation
  conversation = record {
    Phase = Here;
    job_at = job_at;
    queue_at = queue_at;
    units_at = units_at;
    session_at = session_at;
    accepted_at = accepted_at;
    Holds = Holds;
  }

  -- All of it came: what the server does, and where the later phases begin.
  pub record Whole (sap : ℕ) : Type 0 where
    pub at : later.Phase
    pub holds : ask.size ≤ limit → later.Holds at
    pub job_is : later.job_at at ≡ Sends ask.most []
    pub queue_is : later.queue_at at ≡ []
    pub units_is : later.units_at at ≡ []
    pub accepts : Option (List ℕ)
    pub does : (g : Option Gathering) → obeys table (record fresh_session { gathered = g }) ask.request ask.info
        ≡ record { session = later.session_at at; accepts = accepts }
    pub accepted_is : later.accepted_at at ≡ old ++ received sap accepts

  module _ (sap : ℕ) (w : Whole sap) (range : IsMiu miu) (read : IsRead limit ask) where
    six : 6 ≤ length first_unit
    six = let e = length-take miu (bytes_of ask) in omega (arith, range.0)

    cut : Opens ask.code ask.info first_unit rest_units
    cut = opens ask.code ask.info first_unit rest_units six (sym (take-append-drop miu (bytes_of ask)))

    looks : Reads limit ask first_unit cut.info
    looks = reads limit ask first_unit rest_units read.short cut

    total : length ask.info ≡ length cut.info + length rest_units
    total = ap length cut.all ∙ length-append cut.info rest_units

    first_comes_so : (s : ServerState) → Serves sap limit table s fresh_session old
        → ((limit < ask.size) ⊎ (ask.size ≤ limit)) → (rest : List ℕ) → rest_units ≡ rest → Comes sap limit table conversation Submitted [] [] (serving.brought s sap first_unit)
    first_comes_so s h (inl long) rest e = record {
      to = Refusing;
      holds = long;
      job = refl;
      queue_is = refl;
      units_is = refl;
      serves = subst (λ z. Serves sap limit table (serving.brought s sap first_unit) (answering answers.Reject) z) (append-nil old)
          (serves_brought sap limit table s fresh_session old h first_unit (record { session = answering answers.Reject; accepts = None })
          (ap (λ f. first_did table fresh_session f (info_of first_unit)) (looks.first ∙ read.over long (length cut.info) (omega (arith, total)))));
    }
    first_comes_so s h (inr few) [] e =
        let all : ask.info ≡ cut.info = cut.all ∙ ap (λ z. cut.info ++ z) e ∙ append-nil cut.info in
        let did_ : Did = record { session = later.session_at w.at; accepts = w.accepts } in record {
          to = Came w.at;
          holds = w.holds few;
          job = w.job_is ∙ sym (ap (behind_first ask.most) e);
          queue_is = w.queue_is;
          units_is = w.units_is;
          serves = subst (λ z. Serves sap limit table (serving.brought s sap first_unit) (later.session_at w.at) z) (sym w.accepted_is)
              (serves_brought sap limit table s fresh_session old h first_unit did_
              (ap (λ f. first_did table fresh_session f (info_of first_unit))
              (looks.first ∙ ap (λ k. by_code limit ask.code (length ask.info) k) (sym (ap length all)) ∙ read.whole few)
              ∙ ap (λ z. obeys table fresh_session ask.request z) (looks.info_is ∙ sym all) ∙ w.does None));
        }
    first_comes_so s h (inr few) (b ∷ bs) e =
        let some : 0 < length rest_units = rw e (omega arith) in
        let left : length ask.info - length cut.info ≡ length rest_units = omega (arith, total) in record {
          to = Continues;
          holds = (few, some);
          job = refl;
          queue_is = refl;
          units_is = refl;
          serves = subst (λ z. Serves sap limit table (serving.brought s sap first_unit) (session_at Continues) z) (append-nil old)
              (serves_brought sap limit table s fresh_session old h first_unit (record { session = session_at Continues; accepts = None })
              (ap (λ f. first_did table fresh_session f (info_of first_unit)) (looks.first ∙ read.partly few (length cut.info) (omega (arith, total)))
              ∙ ap (λ n. record { session = gathering ask.request n (info_of first_unit) (Tells (Answers answers.Continue) ∷ []); accepts = None }) left));
        }

    -- the first unit comes
    pub first_comes : (s : ServerState) → Serves sap limit table s fresh_session old → Comes sap limit table conversation Submitted [] [] (serving.brought s sap first_unit)
    first_comes s h = first_comes_so s h (cases_lt limit ask.size) rest_units refl

    -- what was there of its information, as the continue is heard
    pub begun_info : info_of first_unit ++ rest_units ≡ ask.info
    begun_info = ap (λ z. z ++ rest_units) looks.info_is ∙ sym cut.all

  not_eq : (a b : ℕ) → a < b → (b == a) ≡ false
  not_eq a b h = grind (arith, nat_tests)

  -- a later unit comes
  pub later_comes : (sap : ℕ) → Whole sap → (info u : List ℕ) (queue : List (List ℕ)) (rest : List ℕ) → Holds (Sending info (u ∷ queue) rest) → (s : ServerState)
      → Serves sap limit table s (session_at (Sending info (u ∷ queue) rest)) old
      → Comes sap limit table conversation (Sending info (u ∷ queue) rest) queue [] (serving.brought s sap u)
  later_comes sap wh info u queue rest h s v =
      go (concat queue ++ rest) refl
    where
      here : gathering ask.request (length (concat (u ∷ queue) ++ rest)) info [] ≡ gathering ask.request (length u + length (concat queue ++ rest)) info []
      here = ap (λ n. gathering ask.request n info []) (ap length (append_assoc u (concat queue) rest) ∙ length-append u (concat queue ++ rest))

      all : info ++ (u ++ (concat queue ++ rest)) ≡ ask.info
      all = ap (λ z. info ++ z) (sym (append_assoc u (concat queue) rest)) ∙ h.2

      w : Serves sap limit table s (gathering ask.request (length u + length (concat queue ++ rest)) info []) old
      w = subst (λ x. Serves sap limit table s x old) here v

      empty : (q : List (List ℕ)) → NoneEmpty q → concat q ++ rest ≡ [] → (q ≡ []) × (rest ≡ [])
      empty [] n e = (refl, e)
      empty ([] ∷ us) n e = absurd (let z = n.0 in omega arith)
      empty ((b ∷ bs) ∷ us) n e = absurd cc

      go : (more : List ℕ) → concat queue ++ rest ≡ more → Comes sap limit table conversation (Sending info (u ∷ queue) rest) queue [] (serving.brought s sap u)
      go [] e =
          let z = empty queue h.3.1 e in
          let whole : info ++ u ≡ ask.info = ap (λ t. info ++ t) (sym (append-nil u)) ∙ ap (λ t. info ++ (u ++ t)) (sym e) ∙ all in
          let n : length u + length (concat queue ++ rest) ≡ length u = ap (λ t. length u + length t) e ∙ (omega arith) in
          let g : Gathering = record { request = ask.request; left = length u; info = info } in
          let did_ : Did = record { session = later.session_at wh.at; accepts = wh.accepts } in
          let met : later_did table (gathering ask.request (length u) info []) g u ≡ obeys table (gathering ask.request (length u) info []) ask.request (info ++ u) =
          rw (le-ltb (length u) (length u) (omega arith), eq-eqb (length u) (length u) refl) refl in record {
            to = Came wh.at;
            holds = wh.holds h.0;
            job = wh.job_is ∙ ap (λ t. Sends ask.most t) (sym z.1);
            queue_is = wh.queue_is ∙ sym z.0;
            units_is = wh.units_is;
            serves = subst (λ z. Serves sap limit table (serving.brought s sap u) (later.session_at wh.at) z) (sym wh.accepted_is)
                (serves_brought sap limit table s _ old w u did_
                (ap (λ k. later_did table (gathering ask.request k info []) (record { request = ask.request; left = k; info = info }) u) n
                ∙ met
                ∙ ap (λ t. obeys table (gathering ask.request (length u) info []) ask.request t) whole
                ∙ wh.does (Some g)));
          }
      go (b ∷ bs) e =
          let some : 0 < length (concat queue ++ rest) = rw e (omega arith) in
          let n = length (concat queue ++ rest) in
          let left : length u + n - length u ≡ n = omega arith in record {
            to = Sending (info ++ u) queue rest;
            holds = (h.0, some, append_assoc info u (concat queue ++ rest) ∙ all, h.3.1, h.4.1);
            job = refl;
            queue_is = refl;
            units_is = refl;
            serves = subst (λ z. Serves sap limit table (serving.brought s sap u) (gathering ask.request n (info ++ u) []) z) (append-nil old)
                (serves_brought sap limit table s _ old w u (record { session = gathering ask.request n (info ++ u) []; accepts = None })
                (rw (le-ltb (length u + n) (length u) (omega arith), not_eq (length u) (length u + n) (omega arith), left) refl));
          }

-- Where it is over it came to this, and nothing is under way.
pub record IsLast (c : Conversation) (end : Ending) (ph : c.Phase) (e : Ending) : Type 0 where
  pub end_is : e ≡ end
  pub queue_is : c.queue_at ph ≡ []
  pub units_is : c.units_at ph ≡ []
  pub session_is : c.session_at ph ≡ fresh_session

-- What comes of a request within the limit once all of it came: by its client's MIU the later phases, at whose end it came to this, and this
-- is accepted.
pub record Outcome (sap limit : ℕ) (table : List Offer) (ask : Asked) (old : List Received) (end : Ending) (now : List Received) : Type 1 where
  pub later : ℕ → Conversation
  pub whole : (miu size : ℕ) → Whole miu limit table ask old (later size) sap
  pub converses : (miu size : ℕ) → IsMiu miu → IsMiu size → Converses sap limit table (later size) miu size
  pub within : (size : ℕ) (ph : (later size).Phase) → (later size).Holds ph → ask.size ≤ limit
  pub adds : (size : ℕ) (ph : (later size).Phase) → (later size).accepted_at ph ≡ now
  pub ends : (size : ℕ) (ph : (later size).Phase) (e : Ending) → Over e ≡ (later size).job_at ph → IsLast (later size) end ph e
