-- Whether frames bring a whole payload, frame by frame.
use Rattle.std.proofs.Common.{◌≡◌, ℕ, ◌+◌, ◌<◌, ◌==◌, length, drop, slice_index_or, List, [], ◌∷◌, ◌++◌, Bool, true, false, if◌then◌else◌, Option, Some, None, refl, sym, ◌∙◌, subst}
use Rattle.std.proofs.lemmas.List.{drop_more}
use Rattle.nfc_base.specs.Signal.{Signal}
use Rattle.nfc_base.specs.Trace.{by_fate}
use Rattle.nfc_base.specs.LinkTurns.{with_arrived, arrived}
use Rattle.nfc_base.specs.declared.event.Event.{Event}
use Rattle.nfc_base.specs.declared.event.Event.TheVariants.{Reset, Request, Answer, Clash}
use Rattle.nfc_base.specs.declared.event.Fate.{Fate}
use Rattle.nfc_base.specs.declared.event.Fate.TheVariants.{Pass, Damage, Lose, Break}
use Rattle.dep_pdu.specs.declared.frame.DepFrame.{DepFrame}
use Rattle.dep_pdu.specs.declared.frame.DepFrame.TheVariants.{AtrReq, AtrRes, Info, Ack, Nack, Attention, Extend, DslReq, DslRes, RlsReq, RlsRes}
use Rattle.dep_link.specs.declared.brought.Taking.{Taking}
use Rattle.dep_link.specs.declared.brought.Taking.TheVariants.{Passed, Taken, Whole}
use Rattle.dep_link.specs.Frames.{spelled, after}
use Rattle.dep_link.specs.Payloads.{Cut, joined, taken, cut_by, is_some}
use Rattle.dep_link.specs.Exchange.{frames_of, before_frames}
use Rattle.dep_link.specs.private.Taking.{taking_frame, taken_as, taken_in}

abbrev cut : ℕ → List ℕ → List (List ℕ) → Cut
cut n chain ps = record { next = n; chain = chain; payloads = ps }

abbrev SomeBy : Cut → List DepFrame → Bool
SomeBy c vs = is_some (cut_by c vs).payloads

some_more : (ps : List (List ℕ)) (x : List ℕ) → is_some (ps ++ x ∷ []) ≡ true
some_more [] x = refl
some_more (p ∷ ps) x = refl

if_cut : (P : Cut → Type 0) (b : Bool) (c d : Cut) → P c → P d → P (if b then c else d)
if_cut P true c d p q = p
if_cut P false c d p q = q

more_cut : (P : Cut → Type 0) (n : ℕ) (chain xs : List ℕ) (ps : List (List ℕ)) (more : Bool) → P (cut (after n) xs ps) → P (cut (after n) [] (ps ++ xs ∷ [])) → P (joined (cut n chain ps) more xs)
more_cut P n chain xs ps true p q = p
more_cut P n chain xs ps false p q = q

-- a payload that came stays
pub stays_some : (n : ℕ) (chain : List ℕ) (ps : List (List ℕ)) (vs : List DepFrame) → is_some ps ≡ true → SomeBy (cut n chain ps) vs ≡ true
stays_some n chain ps [] e = e
stays_some n chain ps (Info false more pni x ∷ vs) e =
    if_cut (λ c. SomeBy c vs ≡ true) (pni == n) _ _
    (more_cut (λ c. SomeBy c vs ≡ true) n chain (chain ++ x.items) ps more (stays_some (after n) (chain ++ x.items) ps vs e)
    (stays_some (after n) [] (ps ++ (chain ++ x.items) ∷ []) vs (some_more ps (chain ++ x.items))))
    (stays_some n chain ps vs e)
stays_some n chain ps (Info true more pni x ∷ vs) e = stays_some n chain ps vs e
stays_some n chain ps (Ack false pni ∷ vs) e = if_cut (λ c. SomeBy c vs ≡ true) (pni == n) _ _ (stays_some (after n) chain ps vs e) (stays_some n chain ps vs e)
stays_some n chain ps (Ack true pni ∷ vs) e = stays_some n chain ps vs e
stays_some n chain ps (Nack pni ∷ vs) e = stays_some n chain ps vs e
stays_some n chain ps (Attention up ∷ vs) e = stays_some n chain ps vs e
stays_some n chain ps (Extend up times ∷ vs) e = stays_some n chain ps vs e
stays_some n chain ps (AtrReq id lr general ∷ vs) e = stays_some n chain ps vs e
stays_some n chain ps (AtrRes id timeout lr general ∷ vs) e = stays_some n chain ps vs e
stays_some n chain ps (DslReq ∷ vs) e = stays_some n chain ps vs e
stays_some n chain ps (DslRes ∷ vs) e = stays_some n chain ps vs e
stays_some n chain ps (RlsReq ∷ vs) e = stays_some n chain ps vs e
stays_some n chain ps (RlsRes ∷ vs) e = stays_some n chain ps vs e

-- What the frames bring that are left, where this PNI is next: as all of them.
pub record Left (next : ℕ) (vs : List DepFrame) (all : Bool) : Type 0 where
  pub chain : List ℕ
  pub same : is_some (cut_by (record { next = next; chain = chain; payloads = [] }) vs).payloads ≡ all

-- a frame by what becomes of it
abbrev Goes : Taking → ℕ → List DepFrame → Bool → Type 0
Goes Passed n vs all = Left n vs all
Goes Taken n vs all = Left (after n) vs all
Goes Whole n vs all = true ≡ all

goes_if : (b : Bool) (x y : Taking) (n : ℕ) (vs : List DepFrame) (all : Bool) (c d : Cut) → (SomeBy c vs ≡ all → Goes x n vs all) → (SomeBy d vs ≡ all → Goes y n vs all)
    → SomeBy (if b then c else d) vs ≡ all → Goes (if b then x else y) n vs all
goes_if true x y n vs all c d p q e = p e
goes_if false x y n vs all c d p q e = q e

goes_more : (more : Bool) (n : ℕ) (chain xs : List ℕ) (vs : List DepFrame) (all : Bool) → SomeBy (joined (cut n chain []) more xs) vs ≡ all → Goes (if more then Taken else Whole) n vs all
goes_more true n chain xs vs all e = record { chain = xs; same = e }
goes_more false n chain xs vs all e = sym (stays_some (after n) [] (xs ∷ []) vs refl) ∙ e

goes_frame : (n : ℕ) (chain : List ℕ) (v : DepFrame) (vs : List DepFrame) (all : Bool) → SomeBy (taken (cut n chain []) v) vs ≡ all → Goes (taking_frame n v) n vs all
goes_frame n chain (Info false more pni x) vs all e =
    goes_if (pni == n) (if more then Taken else Whole) Passed n vs all (joined (cut n chain []) more (chain ++ x.items)) (cut n chain [])
    (goes_more more n chain (chain ++ x.items) vs all) (λ d. record { chain = chain; same = d }) e
goes_frame n chain (Info true more pni x) vs all e = record { chain = chain; same = e }
goes_frame n chain (Ack false pni) vs all e =
    goes_if (pni == n) Taken Passed n vs all (cut (after n) chain []) (cut n chain []) (λ d. record { chain = chain; same = d }) (λ d. record { chain = chain; same = d }) e
goes_frame n chain (Ack true pni) vs all e = record { chain = chain; same = e }
goes_frame n chain (Nack pni) vs all e = record { chain = chain; same = e }
goes_frame n chain (Attention up) vs all e = record { chain = chain; same = e }
goes_frame n chain (Extend up times) vs all e = record { chain = chain; same = e }
goes_frame n chain (AtrReq id lr general) vs all e = record { chain = chain; same = e }
goes_frame n chain (AtrRes id timeout lr general) vs all e = record { chain = chain; same = e }
goes_frame n chain DslReq vs all e = record { chain = chain; same = e }
goes_frame n chain DslRes vs all e = record { chain = chain; same = e }
goes_frame n chain RlsReq vs all e = record { chain = chain; same = e }
goes_frame n chain RlsRes vs all e = record { chain = chain; same = e }

-- one frame more, whatever it is
goes_on : (n : ℕ) (o : Option DepFrame) (vs : List DepFrame) (all : Bool) → Left n (before_frames o vs) all → Goes (taken_as n o) n vs all
goes_on n None vs all l = l
goes_on n (Some v) vs all l = goes_frame n l.chain v vs all l.same

-- one request more, by its fate
by_fate_on : (n : ℕ) (x : Fate) (f : Signal) (fs : List Signal) (all : Bool) → Left n (frames_of (with_arrived f x fs)) all
    → Goes (by_fate x (taken_as n (spelled f)) Passed Passed) n (frames_of fs) all
by_fate_on n Pass f fs all l = goes_on n (spelled f) (frames_of fs) all l
by_fate_on n Damage f fs all l = l
by_fate_on n Lose f fs all l = l
by_fate_on n Break f fs all l = l

event_on : (n : ℕ) (e : Event) (es : List Event) (all : Bool) → Left n (frames_of (arrived (e ∷ es))) all → Goes (taken_in n e) n (frames_of (arrived es)) all
event_on n Reset es all l = l
event_on n (Request f x) es all l = by_fate_on n x f (arrived es) all l
event_on n (Answer f x) es all l = l
event_on n (Clash f x) es all l = l

pub passed_on : (n : ℕ) (e : Event) (es : List Event) (all : Bool) → Passed ≡ taken_in n e → Left n (frames_of (arrived (e ∷ es))) all → Left n (frames_of (arrived es)) all
passed_on n e es all q l = subst (λ (x : Taking). Goes x n (frames_of (arrived es)) all) (sym q) (event_on n e es all l)

pub taken_on : (n : ℕ) (e : Event) (es : List Event) (all : Bool) → Taken ≡ taken_in n e → Left n (frames_of (arrived (e ∷ es))) all → Left (after n) (frames_of (arrived es)) all
taken_on n e es all q l = subst (λ (x : Taking). Goes x n (frames_of (arrived es)) all) (sym q) (event_on n e es all l)

pub whole_on : (n : ℕ) (e : Event) (es : List Event) (all : Bool) → Whole ≡ taken_in n e → Left n (frames_of (arrived (e ∷ es))) all → true ≡ all
whole_on n e es all q l = subst (λ (x : Taking). Goes x n (frames_of (arrived es)) all) (sym q) (event_on n e es all l)

-- the events that are left begin with the one at the place
pub left_here : (n i : ℕ) (es : List Event) (e : Event) (all : Bool) → i < length es → e ≡ slice_index_or es i e → Left n (frames_of (arrived (drop i es))) all
    → Left n (frames_of (arrived (e ∷ drop (i + 1) es))) all
left_here n i es e all l q h =
    let split : drop i es ≡ slice_index_or es i e ∷ drop (i + 1) es = drop_more es i e l in
    subst (λ (x : Event). Left n (frames_of (arrived (x ∷ drop (i + 1) es))) all) (sym q) (subst (λ (xs : List Event). Left n (frames_of (arrived xs)) all) split h)
