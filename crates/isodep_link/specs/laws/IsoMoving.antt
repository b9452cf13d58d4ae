-- Calls on a link to a Type 4 tag, one after another.
use Rattle.std.proofs.Common.{◌≡◌, ℕ, ◌+◌, ◌-◌, ◌*◌, ◌≤◌, inl, inr, List, [], ◌∷◌, ◌++◌, length, drop, Bool, Option}
use Rattle.std.proofs.Common.{Some, None, arith, refl, sym, ◌∙◌, ap, subst, append_assoc, append-nil}
use Rattle.std.proofs.lemmas.List.{length-append, map-append}
use Rattle.nfc_base.specs.Signal.{Signal}
use Rattle.nfc_base.specs.declared.tag_link.AskFault.{AskFault}
use Rattle.nfc_base.specs.declared.event.Event.{Event}
use Rattle.nfc_base.specs.LinkTurns.{bad_receptions}
use Rattle.nfc_base.proofs.LinkTurns.{bads_append}
use Rattle.nfc_base.specs.TagLinks.{TagStep, after_all, passed}
use Rattle.nfc_base.proofs.Leading.{leads_again, leads_on, passed_on}
use Rattle.std.proofs.Math.Seq.{drop-append_seam}
use Rattle.air_core.specs.laws.Following.{last_of, last_passed, follows_on, stores_append}
use Rattle.air_core.specs.laws.PlainMoving.{events_between}
use Rattle.air_core.specs.World.{quiet_air}
use Rattle.air_core.specs.Turn.{Air, world, moment}
use Rattle.air_core.specs.Conversation.{AirModel, Moment, Note, Lit, Got, Lost, Next, Over, IsDemand, Going}
use Rattle.air_core.specs.laws.Turning.{going_start, going_then}
use Rattle.air_core.specs.PlainLinks.{unanswered, Follows, stores_after}
use Rattle.air_core.specs.declared.listener.Listener.{Ghosts}
use Rattle.isodep_link.specs.declared.reader.ReaderStep.{ReaderStep}
use Rattle.isodep_link.specs.declared.reader.ReaderStep.TheVariants as steps
use Rattle.isodep_link.specs.Card.{CardState}
use Rattle.isodep_link.specs.Reader.{ReaderState, reader_table}
use Rattle.isodep_link.specs.Asking.{IsoStanding, Waits, Rests, Broken, Astray, asks, goes_by, noted, stand, due_at}
use Rattle.isodep_link.specs.Asking.{iso_next}
use Rattle.nfc_base.specs.Pieces.{pieces}
use Rattle.isodep_link.specs.Exchange.{Backs}
use Rattle.isodep_link.specs.IsoLinks.{IsoSeen, bytes_of, answer_pieces, most_sent, IsoStandsAt, card_backs, iso_view}
use Rattle.isodep_link.specs.IsoLinks.{EachOnce, IsoAsks, IsoMoves}
use Rattle.nfc_base.specs.TagLinks.{TagState}

-- more commands behind those that are asked
abbrev pub more : List (List ℕ) → IsoStanding → IsoStanding
more ys (Waits i f cs) = Waits i f (cs ++ ys)
more ys (Rests i) = asks i ys
more ys (Broken e) = Broken e
more ys Astray = Astray

pub asks_more : (i : ReaderState) (xs ys : List (List ℕ)) → asks i (xs ++ ys) ≡ more ys (asks i xs)
asks_more i [] ys = refl
asks_more i (x ∷ xs) ys = refl

goes_more : (i : ReaderState) (d : ReaderStep) (cs ys : List (List ℕ))
    → goes_by i d (cs ++ ys) ≡ more ys (goes_by i d cs)
goes_more i (steps.Send f) cs ys = refl
goes_more i (steps.Finished answer) cs ys = asks_more i cs ys
goes_more i steps.SixBad cs ys = refl
goes_more i steps.Protocol cs ys = refl

pub noted_more : (i : ReaderState) (f : Signal) (cs ys : List (List ℕ)) (n : Note)
    → noted (Waits i f (cs ++ ys)) n ≡ more ys (noted (Waits i f cs) n)
noted_more i f cs ys Lit = refl
noted_more i f cs ys Lost = refl
noted_more i f cs ys (Got h) = goes_more (reader_table i h).state (reader_table i h).does cs ys

pub astray_stays : (ns : List Note) → stand Astray ns ≡ Astray
astray_stays [] = refl
astray_stays (n ∷ ns) = astray_stays ns

none_due : {A : Type 0} (n : Next) → Over ≡ n → IsDemand n → A
none_due n e d = absurd (let P : Next → Type 0 = IsDemand in subst P (sym e) d)

astray_due : {A : Type 0} (ns : List Note) (n : Next) → due_at (stand Astray ns) ≡ n → IsDemand n → A
astray_due ns n e d = none_due n (sym (ap due_at (astray_stays ns)) ∙ e) d

-- what is due is due with more commands behind
pub front_due : (s : IsoStanding) (ys : List (List ℕ)) (ns : List Note) (n : Next) → due_at (stand s ns) ≡ n
    → IsDemand n → due_at (stand (more ys s) ns) ≡ n
front_due (Waits i f cs) ys [] n e d = e
front_due (Rests i) ys [] n e d = none_due n e d
front_due (Broken x) ys [] n e d = none_due n e d
front_due Astray ys [] n e d = none_due n e d
front_due (Waits i f cs) ys (m ∷ ns) n e d =
    ap (λ (s : IsoStanding). due_at (stand s ns)) (noted_more i f cs ys m)
    ∙ front_due (noted (Waits i f cs) m) ys ns n e d
front_due (Rests i) ys (m ∷ ns) n e d = astray_due ns n e d
front_due (Broken x) ys (m ∷ ns) n e d = astray_due ns n e d
front_due Astray ys (m ∷ ns) n e d = astray_due ns n e d

-- where all were answered, the others are asked from there
stand_then : (s : IsoStanding) (ys : List (List ℕ)) (ns ms : List Note) (j : ReaderState) → stand s ns ≡ Rests j
    → stand (more ys s) (ns ++ ms) ≡ stand (asks j ys) ms
stand_then s ys [] ms j e = ap (λ (x : IsoStanding). stand (more ys x) ms) e
stand_then (Waits i f cs) ys (n ∷ ns) ms j e =
    ap (λ (s : IsoStanding). stand s (ns ++ ms)) (noted_more i f cs ys n)
    ∙ stand_then (noted (Waits i f cs) n) ys ns ms j e
stand_then (Rests i) ys (n ∷ ns) ms j e = absurd (let q : Astray ≡ Rests j = sym (astray_stays ns) ∙ e in cc)
stand_then (Broken x) ys (n ∷ ns) ms j e = absurd (let q : Astray ≡ Rests j = sym (astray_stays ns) ∙ e in cc)
stand_then Astray ys (n ∷ ns) ms j e = absurd (let q : Astray ≡ Rests j = sym (astray_stays ns) ∙ e in cc)

pub stand_all : (i j : ReaderState) (xs ys : List (List ℕ)) (ns ms : List Note) → stand (asks i xs) ns ≡ Rests j
    → stand (asks i (xs ++ ys)) (ns ++ ms) ≡ stand (asks j ys) ms
stand_all i j xs ys ns ms e = ap (λ (s : IsoStanding). stand s (ns ++ ms)) (asks_more i xs ys)
    ∙ stand_then (asks i xs) ys ns ms j e

module _ {W : Type 0} (m : AirModel W) where
  pub iso_then : (a b c : Moment W) (i j : ReaderState) (xs ys : List (List ℕ)) (hs ks : List Note)
      → stand (asks i xs) hs ≡ Rests j
      → Going m (iso_next i xs) a b hs → Going m (iso_next j ys) b c ks → Going m (iso_next i (xs ++ ys)) a c (hs ++ ks)
  iso_then a b c i j xs ys hs ks done g k =
      going_then m (iso_next i (xs ++ ys)) (iso_next i xs) (iso_next j ys) a b c hs ks
      (λ ns n e d. ap (λ (s : IsoStanding). due_at (stand s ns)) (asks_more i xs ys)
      ∙ front_due (asks i xs) ys ns n e d)
      (λ ns. ap due_at (stand_all i j xs ys hs ns done)) g k

-- what commands take one behind another
sent_append : (out : ℕ) (back : Backs) (step : TagState → Signal → TagStep) (s : TagState) (xs ys : List Signal)
    → most_sent out back step s (xs ++ ys) ≡ most_sent out back step s xs
    + most_sent out back step (after_all step s xs) ys
sent_append out back step s [] ys = omega arith
sent_append out back step s (c ∷ cs) ys =
    let e = sent_append out back step (step s c).after cs ys in
    plus_assoc (2 * (pieces out c.bytes + answer_pieces back (step s c).answer - 1)) _ _ _ e
  where
    plus_assoc : (n p q r : ℕ) → p ≡ q + r → n + p ≡ n + q + r
    plus_assoc n p q r e = omega (arith, e)

-- where a link isn't over all was obeyed
all_obeyed : (over : Option AskFault) (asked obeyed : List Signal) → over ≡ None → EachOnce over asked obeyed
    → obeyed ≡ asked
all_obeyed over asked obeyed h (inl e) = e
all_obeyed over asked obeyed h (inr x) = absurd (x.0 h)

-- what two stretches obeyed, of which the first was obeyed whole
once_on : (over : Option AskFault) (xs ys os ps : List Signal) → os ≡ xs → EachOnce over ys ps
    → EachOnce over (xs ++ ys) (os ++ ps)
once_on over xs ys os ps e (inl f) = inl (ap (λ zs. zs ++ ps) e ∙ ap (λ zs. xs ++ zs) f)
once_on over xs ys os ps e (inr (some, last, f)) = inr
    (some, last, append_assoc os ps (last ∷ []) ∙ ap (λ zs. zs ++ (ps ++ last ∷ [])) e ∙ ap (λ zs. xs ++ zs) f)

-- bounds of two stretches
sums : (n n1 n2 m m1 m2 b b1 b2 : ℕ) → n ≡ n1 + n2 → m ≡ m1 + m2 → b ≡ b1 + b2 → n1 ≤ m1 + 4 * b1 → n2 ≤ m2 + 4 * b2
    → n ≤ m + 4 * b
sums n n1 n2 m m1 m2 b b1 b2 e f g p q = omega (arith, e, f, g, p, q)

no_more : (xs : List Event) → drop (length xs) xs ≡ []
no_more [] = refl
no_more (x ∷ xs) = no_more xs

-- nothing happens between a moment and itself
module _ {L : Type 0} (k : Ghosts L) where
  pub none_between : (a : Air L) (next : List Note → Next) (hs : List Note)
      (g : Going (quiet_air k.machine) next (moment a) (moment a) hs) → g.events ≡ []
  none_between a next hs g = sym (events_between k a a next hs g).0 ∙ no_more a.trace

module _ {L : Type 0} (k : Ghosts L) (card : L → CardState) (tag : L → TagState) where
  again_stands : (o : Option AskFault) (lit : Bool) (i : ReaderState) → o ≡ None → IsoStandsAt o lit i (Rests i)
  again_stands None lit i e = refl
  again_stands (Some f) lit i e = absurd cc

  again_told : (o : Option AskFault) (last : Option Signal) (xs : List Signal) → o ≡ None
      → xs ++ unanswered o last ≡ xs ++ []
  again_told None last xs e = refl
  again_told (Some f) last xs e = absurd cc

  abbrev asks_again : (a : IsoSeen L) → IsoAsks k card tag a a
  asks_again a = record {
    asked = [];
    notes = [];
    going = going_start (quiet_air k.machine) (iso_next a.reader []) (moment a.air);
    same = (refl, refl);
    stands = λ h. again_stands a.over a.air.lit a.reader h;
    told = λ h. again_told a.over a.last (iso_view k card tag a).answered h;
    within = (let none = ap length (none_between k a.air (iso_next a.reader []) []
        (going_start (quiet_air k.machine) (iso_next a.reader []) (moment a.air))) in omega (arith, none));
    ended = λ e h. (refl, refl);
  }

  pub moves_again : (a : IsoSeen L) → IsoMoves k card tag a a
  moves_again a = record {
    asks = asks_again a;
    obeys = record {
      obeyed = [];
      once = inl refl;
      cuts = λ h. (refl, refl);
      leads = leads_again (iso_view k card tag a);
      images =
          let P : List Event → Type 0 = λ es. Follows (iso_view k card tag a).state.store
          (stores_after k a.place (world a.air) es) [] in
          subst P (sym (no_more a.air.trace)) tt;
    };
  }

  -- the events of two stretches
  between_both : (a b c : IsoSeen L) (p : IsoMoves k card tag a b) (q : IsoMoves k card tag b c)
      → drop (length a.air.trace) c.air.trace ≡ p.asks.going.events ++ q.asks.going.events
  between_both a b c p q =
      let e = events_between k a.air b.air (iso_next a.reader (bytes_of p.asks.asked)) p.asks.notes p.asks.going in
      let f = events_between k b.air c.air (iso_next b.reader (bytes_of q.asks.asked)) q.asks.notes q.asks.going in
      let trace : c.air.trace ≡ a.air.trace ++ (p.asks.going.events ++ q.asks.going.events) =
      f.1 ∙ ap (λ t. t ++ q.asks.going.events) e.1 ∙ append_assoc a.air.trace p.asks.going.events
      q.asks.going.events in
      ap (drop (length a.air.trace)) trace ∙ drop-append_seam a.air.trace (p.asks.going.events ++ q.asks.going.events)

  -- what both stretches take, by what the first left
  sent_on : (a b c : IsoSeen L) → b.over ≡ None → (p : IsoMoves k card tag a b) (q : IsoMoves k card tag b c)
      → most_sent a.reader.core.most (card_backs k card tag a) (iso_view k card tag a).step
      (iso_view k card tag a).state (p.asks.asked ++ q.asks.asked)
      ≡ most_sent a.reader.core.most (card_backs k card tag a) (iso_view k card tag a).step
      (iso_view k card tag a).state p.asks.asked
      + most_sent b.reader.core.most (card_backs k card tag b) (iso_view k card tag b).step
      (iso_view k card tag b).state q.asks.asked
  sent_on a b c hb p q =
      let size = p.obeys.cuts hb in
      let out : ℕ = a.reader.core.most in
      let back : Backs = card_backs k card tag a in
      let step = (iso_view k card tag a).step in
      let state = (iso_view k card tag a).state in
      let held : (iso_view k card tag b).state ≡ after_all step state p.asks.asked =
      p.obeys.leads.state hb ∙ ap (λ (cs : List Signal). after_all step state cs)
      (all_obeyed b.over p.asks.asked p.obeys.obeyed hb p.obeys.once) in
      let same : most_sent b.reader.core.most (card_backs k card tag b) (iso_view k card tag b).step
      (iso_view k card tag b).state q.asks.asked ≡ most_sent out back step (after_all step state p.asks.asked)
      q.asks.asked =
      ap (λ (n : ℕ). most_sent n (card_backs k card tag b) (iso_view k card tag b).step (iso_view k card tag b).state
      q.asks.asked) size.0
      ∙ ap (λ (n : Backs). most_sent out n (iso_view k card tag b).step (iso_view k card tag b).state q.asks.asked)
      size.1
      ∙ ap (λ (z : TagState → Signal → TagStep). most_sent out back z (iso_view k card tag b).state q.asks.asked)
      p.obeys.leads.step
      ∙ ap (λ (z : TagState). most_sent out back step z q.asks.asked) held in
      sent_append out back step state p.asks.asked q.asks.asked
      ∙ ap (λ (n : ℕ). most_sent out back step state p.asks.asked + n) (sym same)

  -- the transmissions of two stretches
  within_on : (a b c : IsoSeen L) → b.over ≡ None → (p : IsoMoves k card tag a b) (q : IsoMoves k card tag b c)
      (es : List Event) → drop (length a.air.trace) c.air.trace ≡ es
      → length es ≤ most_sent a.reader.core.most (card_backs k card tag a) (iso_view k card tag a).step
      (iso_view k card tag a).state (p.asks.asked ++ q.asks.asked) + 4 * bad_receptions es
  within_on a b c hb p q es e =
      let both : es ≡ p.asks.going.events ++ q.asks.going.events = sym e ∙ between_both a b c p q in
      sums _ _ _ _ _ _ _ _ _ (ap length both ∙ length-append p.asks.going.events q.asks.going.events)
      (sent_on a b c hb p q)
      (ap bad_receptions both ∙ bads_append p.asks.going.events q.asks.going.events q.asks.going.fresh) p.asks.within
      q.asks.within

  -- the stores of two stretches
  images_on : (a b c : IsoSeen L) (p : IsoMoves k card tag a b) (q : IsoMoves k card tag b c)
      → Follows (iso_view k card tag a).state.store (stores_after k a.place (world a.air)
      (drop (length a.air.trace) c.air.trace)) (passed (iso_view k card tag a).step (iso_view k card tag a).state
      (p.obeys.obeyed ++ q.obeys.obeyed))
  images_on a b c p q =
      let e = events_between k a.air b.air (iso_next a.reader (bytes_of p.asks.asked)) p.asks.notes p.asks.going in
      let f = events_between k b.air c.air (iso_next b.reader (bytes_of q.asks.asked)) q.asks.notes q.asks.going in
      let xs : List Event = p.asks.going.events in
      let ys : List Event = q.asks.going.events in
      let now : List ℕ = (iso_view k card tag a).state.store in
      let step = (iso_view k card tag a).step in
      let state = (iso_view k card tag a).state in
      let all : drop (length a.air.trace) c.air.trace ≡ xs ++ ys = between_both a b c p q in
      let S : List (List ℕ) = stores_after k a.place (world a.air) xs in
      let T : List (List ℕ) = stores_after k b.place (world b.air) ys in
      let stores : stores_after k a.place (world a.air) (drop (length a.air.trace) c.air.trace) ≡ S ++ T =
      ap (stores_after k a.place (world a.air)) all ∙ stores_append k a.place (world a.air) xs ys
      ∙ ap (λ w. S ++ stores_after k a.place w ys) (sym e.2)
      ∙ ap (λ i. S ++ stores_after k i (world b.air) ys) (sym p.asks.same.0) in
      let P1 : List Event → Type 0 = λ es. Follows now (stores_after k a.place (world a.air) es)
      (passed step state p.obeys.obeyed) in
      let first : P1 xs = subst P1 e.0 p.obeys.images in
      let P2 : List Event → Type 0 = λ es. Follows (iso_view k card tag b).state.store
      (stores_after k b.place (world b.air) es) (passed (iso_view k card tag b).step (iso_view k card tag b).state
      q.obeys.obeyed) in
      let second : P2 ys = subst P2 f.0 q.obeys.images in
      let last : (iso_view k card tag b).state.store ≡ last_of now (passed step state p.obeys.obeyed) =
      p.obeys.leads.store ∙ sym (last_passed step state p.obeys.obeyed) in
      let P3 : List ℕ → Type 0 =
      λ s. Follows s T (passed (iso_view k card tag b).step (iso_view k card tag b).state q.obeys.obeyed) in
      let P4 : List (List ℕ) → Type 0 = λ zs. Follows now zs (passed step state (p.obeys.obeyed ++ q.obeys.obeyed)) in
      let P5 : List (List ℕ) → Type 0 = λ zs. Follows now (S ++ T) zs in
      subst P4 (sym stores)
      (subst P5 (sym (passed_on (iso_view k card tag a) (iso_view k card tag b) (iso_view k card tag c)
      p.obeys.obeyed q.obeys.obeyed p.obeys.leads q.obeys.leads))
      (follows_on now S (passed step state p.obeys.obeyed) T
      (passed (iso_view k card tag b).step (iso_view k card tag b).state q.obeys.obeyed) first
      (subst P3 last second)))

  both : (a b c : IsoSeen L) → a.over ≡ None → b.over ≡ None → IsoMoves k card tag a b → IsoMoves k card tag b c
      → IsoMoves k card tag a c
  both a b c ha hb p q =
      let xs : List Signal = p.asks.asked in
      let ys : List Signal = q.asks.asked in
      let sum : bytes_of (xs ++ ys) ≡ bytes_of xs ++ bytes_of ys = map-append (λ (f : Signal). f.bytes) xs ys in
      let done : stand (asks a.reader (bytes_of xs)) p.asks.notes ≡ Rests b.reader =
      (let P : Option AskFault → Type 0 = λ o. IsoStandsAt o b.air.lit b.reader
      (stand (asks a.reader (bytes_of xs)) p.asks.notes) in subst P hb (p.asks.stands ha)) in
      let front : (iso_view k card tag b).answered ≡ (iso_view k card tag a).answered ++ xs =
      sym (append-nil (iso_view k card tag b).answered) ∙ ap
      (λ o. (iso_view k card tag b).answered ++ unanswered o b.last) (sym hb) ∙ p.asks.told ha in
      let G : List (List ℕ) → Type 0 = λ zs. Going (quiet_air k.machine) (iso_next a.reader zs) (moment a.air)
      (moment c.air) (p.asks.notes ++ q.asks.notes) in
      let going : G (bytes_of (xs ++ ys)) =
      subst G (sym sum) (iso_then (quiet_air k.machine) (moment a.air) (moment b.air) (moment c.air) a.reader b.reader
      (bytes_of xs) (bytes_of ys) p.asks.notes q.asks.notes done p.asks.going q.asks.going) in
      let size = p.obeys.cuts hb in
      record {
        asks = record {
          asked = xs ++ ys;
          notes = p.asks.notes ++ q.asks.notes;
          going = going;
          same = (q.asks.same.0 ∙ p.asks.same.0, q.asks.same.1 ∙ p.asks.same.1);
          stands = λ h.
              (let P : IsoStanding → Type 0 = IsoStandsAt c.over c.air.lit c.reader in
              subst P (sym (ap (λ zs. stand (asks a.reader zs) (p.asks.notes ++ q.asks.notes)) sum
              ∙ stand_all a.reader b.reader (bytes_of xs) (bytes_of ys) p.asks.notes q.asks.notes done))
              (q.asks.stands hb));
          told = λ h. q.asks.told hb ∙ ap (λ t. t ++ ys) front ∙ append_assoc (iso_view k card tag a).answered xs ys;
          within = within_on a b c hb p q going.events (events_between k a.air c.air
              (iso_next a.reader (bytes_of (xs ++ ys))) (p.asks.notes ++ q.asks.notes) going).0;
          ended = λ e h. absurd cc;
        };
        obeys = record {
          obeyed = p.obeys.obeyed ++ q.obeys.obeyed;
          once = once_on c.over xs ys p.obeys.obeyed q.obeys.obeyed
              (all_obeyed b.over xs p.obeys.obeyed hb p.obeys.once) q.obeys.once;
          cuts = λ h. ((q.obeys.cuts h).0 ∙ size.0, (q.obeys.cuts h).1 ∙ size.1);
          leads = leads_on (iso_view k card tag a) (iso_view k card tag b) (iso_view k card tag c) p.obeys.obeyed
              q.obeys.obeyed p.obeys.leads q.obeys.leads;
          images = images_on a b c p q;
        };
      }

  pub moves_on : (a b c : IsoSeen L) → IsoMoves k card tag a b → IsoMoves k card tag b c → IsoMoves k card tag a c
  moves_on a b c p q = by_first a.over refl
    where
      by_second : a.over ≡ None → (o : Option AskFault) → b.over ≡ o → IsoMoves k card tag a c
      by_second ha None hb = both a b c ha hb p q
      by_second ha (Some e) hb = let P : IsoSeen L → Type 0 = λ t. IsoMoves k card tag a t in let same : c ≡ b =
          (q.asks.ended e hb).0 in subst P (sym same) p

      by_first : (o : Option AskFault) → a.over ≡ o → IsoMoves k card tag a c
      by_first None ha = by_second ha b.over refl
      by_first (Some e) ha = let P : IsoSeen L → Type 0 = λ t. IsoMoves k card tag t c in let same : b ≡ a =
          (p.asks.ended e ha).0 in subst P same q
