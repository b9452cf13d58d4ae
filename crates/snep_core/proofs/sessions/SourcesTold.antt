-- A server tells, of a client's SAP, which messages the units of its connections put.
use Rattle.std.proofs.Common.{◌≡◌, ◌≢◌, ◌<◌, ℕ, ◌==◌, Bool, true, false, List, [], ◌∷◌, ◌++◌, length, set, Option, Some, None, refl, sym, ◌∙◌, ap, subst, append_assoc, append-nil, if◌then◌else◌}
use Rattle.std.proofs.lemmas.Bool.{eqb-true}
use Rattle.std.proofs.lemmas.List.{get_or-set_same, get_or-set_other, length-set}
use Rattle.llcp_link.proofs.Clients.{is_self, not_equal}
use Rattle.llcp_link.proofs.Ranged.{either}
use Rattle.llcp_link.proofs.Following.{Follows}
use Rattle.snep_core.specs.declared.session.Due.{Due}
use Rattle.snep_core.specs.declared.session.Due.TheVariants.{Tells, Forgets}
use Rattle.snep_core.specs.declared.session.Word.{Word}
use Rattle.snep_core.specs.declared.session.Word.TheVariants.{Answers, Offers, Resumes}
use Rattle.snep_core.specs.Payloads.{AllPut, OffersElse, accepted_from}
use Rattle.snep_core.specs.Puts.{Puts}
use Rattle.snep_core.specs.Server.{Received, ServerState, received, serving, session_of, with_session}
use Rattle.snep_core.specs.Session.{Did, Gathering, Sent, Session, did, fresh_session, popped, sent, sent_from, sent_popped, sent_word}
use Rattle.snep_core.proofs.sessions.UnitPuts.{Heard, Hears, heard_puts, kept, unit_hears}

-- what goes out leaves what is gathered
word_gathers : (miu : ℕ) (x : Session) (w : Word) → (sent_word miu x w).session.gathered ≡ x.gathered
word_gathers miu x (Answers answer) = refl
word_gathers miu x (Offers bytes) = refl
word_gathers miu x Resumes = either {X = Sent} (λ z. z.session.gathered ≡ x.gathered) (length x.waiting == 0) _ _ (λ e. refl) (λ e. refl)

popped_gathers : (x : Session) (due : List Due) → (popped x due).session.gathered ≡ x.gathered
popped_gathers x [] = refl
popped_gathers x (Tells word ∷ more) = refl
popped_gathers x (Forgets ∷ more) = popped_gathers (record x { waiting = [] }) more

due_gathers : (miu : ℕ) (x : Session) (w : Option Word) → (sent_popped miu x w).session.gathered ≡ x.gathered
due_gathers miu x None = refl
due_gathers miu x (Some w) = word_gathers miu x w

sent_gathers : (miu : ℕ) (x : Session) → (sent miu x).session.gathered ≡ x.gathered
sent_gathers miu x = go x.going
  where
    go : (b : List ℕ) → (sent_from miu x b).session.gathered ≡ x.gathered
    go [] = due_gathers miu (popped x x.due).session (popped x x.due).word ∙ popped_gathers x x.due
    go (b ∷ bs) = refl

-- what is accepted, by its source
pub received_same : (c : ℕ) (rs : List Received) (m : Option (List ℕ)) → accepted_from c (rs ++ received c m) ≡ accepted_from c rs ++ kept m
received_same c [] None = refl
received_same c [] (Some m) = ap (λ b. if b then m ∷ [] else []) (is_self c)
received_same c (r ∷ rs) m = go (r.source == c) (received_same c rs m)
  where
    go : (b : Bool) → accepted_from c (rs ++ received c m) ≡ accepted_from c rs ++ kept m
        → (if b then r.message ∷ accepted_from c (rs ++ received c m) else accepted_from c (rs ++ received c m))
        ≡ (if b then r.message ∷ accepted_from c rs else accepted_from c rs) ++ kept m
    go true h = ap (λ z. r.message ∷ z) h
    go false h = h

pub received_other : (c d : ℕ) (rs : List Received) (m : Option (List ℕ)) → (d == c) ≡ false → accepted_from c (rs ++ received d m) ≡ accepted_from c rs
received_other c d [] None e = refl
received_other c d [] (Some m) e = ap (λ b. if b then m ∷ [] else []) e
received_other c d (r ∷ rs) m e = ap (λ z. if r.source == c then r.message ∷ z else z) (received_other c d rs m e)

-- These connections' units put these messages, and what the last one's left gathered is what the session gathers.
abbrev pub Told : ℕ → Option Gathering → List (List (List ℕ)) → List (List ℕ) → Type 0
Told limit g [] got = got ≡ []
Told limit g (us ∷ []) got = Heard limit us g got
Told limit g (us ∷ vs ∷ more) got =
    (ms : List (List ℕ)) × (rest : List (List ℕ)) × (got ≡ ms ++ rest) × Puts limit us ms × Told limit g (vs ∷ more) rest

told_begun : (limit : ℕ) (g : Option Gathering) (us : List (List (List ℕ))) (got : List (List ℕ)) → Told limit g us got → Told limit None (us ++ [] ∷ []) got
told_begun limit g [] got h = ([], refl, h)
told_begun limit g (us ∷ []) got h = (got, [], sym (append-nil got), heard_puts limit us g got h, ([], refl, refl))
told_begun limit g (us ∷ vs ∷ more) got (ms, rest, e, p, h) = (ms, rest, e, p, told_begun limit g (vs ∷ more) rest h)

module _ (limit : ℕ) (g : Option Gathering) (u : List ℕ) (d : Did) (step : (us ms : List (List ℕ)) → Heard limit us g ms → Hears limit (us ++ u ∷ []) ms d) where
  told_brought : (us : List (List (List ℕ))) (now got : List (List ℕ)) → Told limit g (us ++ now ∷ []) got
      → Told limit d.session.gathered (us ++ (now ++ u ∷ []) ∷ []) (got ++ kept d.accepts)
  told_brought [] now got h = step now got h
  told_brought (us ∷ []) now got (ms, rest, e, p, h) =
      (ms, rest ++ kept d.accepts, ap (λ z. z ++ kept d.accepts) e ∙ append_assoc ms rest (kept d.accepts), p, step now rest h)
  told_brought (us ∷ vs ∷ more) now got (ms, rest, e, p, h) =
      (ms, rest ++ kept d.accepts, ap (λ z. z ++ kept d.accepts) e ∙ append_assoc ms rest (kept d.accepts), p, told_brought (vs ∷ more) now rest h)

pub told_puts : (limit : ℕ) (g : Option Gathering) (us : List (List (List ℕ))) (got : List (List ℕ)) → Told limit g us got → AllPut limit us got
told_puts limit g [] got h = h
told_puts limit g (us ∷ []) got h = (got, [], sym (append-nil got), heard_puts limit us g got h, refl)
told_puts limit g (us ∷ vs ∷ more) got (ms, rest, e, p, h) = (ms, rest, e, p, told_puts limit g (vs ∷ more) rest h)

-- what a server tells, with what it accepted before
pub record ServerTells (c limit : ℕ) (before : List (List ℕ)) (s : ServerState) (us : List (List (List ℕ))) : Type 0 where
  pub most : s.limit ≡ limit
  pub seats : c < length s.sessions
  pub got : List (List ℕ)
  pub accepts : accepted_from c s.accepted ≡ before ++ got
  pub puts : Told limit (session_of s c).gathered us got

module _ (c limit : ℕ) (before : List (List ℕ)) where
  set_there : (s : ServerState) (d : ℕ) (x : Session) → c < length s.sessions → c < length (set s.sessions d x)
  set_there s d x h = subst (λ z. c < z) (sym (length-set s.sessions d x)) h

  gathers_other : (s : ServerState) (d : ℕ) (x : Session) → d ≢ c → (session_of (with_session s d x) c).gathered ≡ (session_of s c).gathered
  gathers_other s d x n = ap (λ z. z.gathered) (get_or-set_other s.sessions d c x fresh_session (λ e. n (sym e)))

  gathers_set : (s : ServerState) (x : Session) → c < length s.sessions → (session_of (with_session s c x) c).gathered ≡ x.gathered
  gathers_set s x h = ap (λ z. z.gathered) (get_or-set_same s.sessions c x fresh_session h)

  server_begun : (s : ServerState) (us : List (List (List ℕ))) → ServerTells c limit before s us → ServerTells c limit before (serving.begun s c) (us ++ [] ∷ [])
  server_begun s us h = record {
    most = h.most;
    seats = set_there s c fresh_session h.seats;
    got = h.got;
    accepts = h.accepts;
    puts = subst (λ z. Told limit z (us ++ [] ∷ []) h.got) (sym (gathers_set s fresh_session h.seats)) (told_begun limit (session_of s c).gathered us h.got h.puts);
  }

  -- another client's session
  server_else : (s : ServerState) (d : ℕ) (x : Session) (us : List (List (List ℕ))) → d ≢ c → ServerTells c limit before s us → ServerTells c limit before (with_session s d x) us
  server_else s d x us n h = record {
    most = h.most;
    seats = set_there s d x h.seats;
    got = h.got;
    accepts = h.accepts;
    puts = subst (λ z. Told limit z us h.got) (sym (gathers_other s d x n)) h.puts;
  }

  server_brought : (s : ServerState) (us : List (List (List ℕ))) (now : List (List ℕ)) (u : List ℕ) → ServerTells c limit before s (us ++ now ∷ [])
      → ServerTells c limit before (serving.brought s c u) (us ++ (now ++ u ∷ []) ∷ [])
  server_brought s us now u h =
      let x = session_of s c in
      let d = did s.limit s.table x u in
      let step : (us ms : List (List ℕ)) → Heard limit us x.gathered ms → Hears limit (us ++ u ∷ []) ms d =
      λ us ms k. subst (λ z. Hears limit (us ++ u ∷ []) ms (did z s.table x u)) (sym h.most) (unit_hears limit s.table x us ms u k) in
      record {
        most = h.most;
        seats = set_there s c d.session h.seats;
        got = h.got ++ kept d.accepts;
        accepts = received_same c s.accepted d.accepts ∙ ap (λ z. z ++ kept d.accepts) h.accepts ∙ append_assoc before h.got (kept d.accepts);
        puts = subst (λ z. Told limit z (us ++ (now ++ u ∷ []) ∷ []) (h.got ++ kept d.accepts)) (sym (gathers_set s d.session h.seats))
            (told_brought limit x.gathered u d step us now h.got h.puts);
      }

  server_brought_else : (s : ServerState) (e : ℕ) (u : List ℕ) (us : List (List (List ℕ))) → e ≢ c → ServerTells c limit before s us → ServerTells c limit before (serving.brought s e u) us
  unfolding server_else
  server_brought_else s e u us n h =
      let d = did s.limit s.table (session_of s e) u in
      let k = server_else s e d.session us n h in
      record {
        most = k.most;
        seats = k.seats;
        got = k.got;
        accepts = received_other c e s.accepted d.accepts (other_is (e == c) refl) ∙ h.accepts;
        puts = k.puts;
      }
    where
      other_is : (b : Bool) → (e == c) ≡ b → b ≡ false
      other_is false i = refl
      other_is true i = absurd (n (eqb-true e c i))

  server_sent : (s : ServerState) (d miu : ℕ) (us : List (List (List ℕ))) → ServerTells c limit before s us → ServerTells c limit before (serving.sent s d miu) us
  server_sent s d miu us h = go (d == c) refl
    where
      own : ServerTells c limit before (serving.sent s c miu) us
      own = record {
        most = h.most;
        seats = set_there s c _ h.seats;
        got = h.got;
        accepts = h.accepts;
        puts = subst (λ z. Told limit z us h.got) (sym (gathers_set s (sent miu (session_of s c)).session h.seats ∙ sent_gathers miu (session_of s c))) h.puts;
      }

      go : (b : Bool) → (d == c) ≡ b → ServerTells c limit before (serving.sent s d miu) us
      go true e = subst (λ z. ServerTells c limit before (serving.sent s z miu) us) (sym (eqb-true d c e)) own
      go false e = server_else s d _ us (not_equal d c e) h

  pub server_follows : Follows serving c (ServerTells c limit before)
  server_follows = record {
    begun = server_begun;
    begun_else = λ s d us n h. server_else s d fresh_session us n h;
    brought = server_brought;
    brought_else = server_brought_else;
    sent = server_sent;
  }

  pub server_changed : (s t : ServerState) (us : List (List (List ℕ))) → OffersElse s t → ServerTells c limit before s us → ServerTells c limit before t us
  server_changed s t us (table, e) h = subst (λ z. ServerTells c limit before z us) (sym e) (record { most = h.most; seats = h.seats; got = h.got; accepts = h.accepts; puts = h.puts })
