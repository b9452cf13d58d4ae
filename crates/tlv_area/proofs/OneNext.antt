-- What follows a layout is one thing, so a memory has one form.
use Rattle.std.proofs.Common.{◌≡◌, ℕ, ◌≤◌, List, ◌++◌, refl, sym, ◌∙◌, ap, subst}
use Rattle.std.specs.Prelude.{Result, Ok, Err, IfOk}
use Rattle.tlv_area.specs.declared.space.Space.{Space}
use Rattle.tlv_area.specs.declared.walk.Walk.{Walk}
use Rattle.tlv_area.specs.declared.walk.Walk.TheVariants as walk
use Rattle.tlv_area.specs.Layout.{Tlv, Layout, IsArea}
use Rattle.tlv_area.specs.Form.{Comes, Holds, Faulty, Message, NoMessageTlv, BadTlv, IsForm, Next, End, Fault, Unknown, Item, Stops, next}
use Rattle.tlv_area.specs.declared.container.ContainerFault.{ContainerFault}
use Rattle.tlv_area.specs.Stores.{IsFormBy, IsOneForm}
use Rattle.tlv_area.specs.Map.{IsWalk}
use Rattle.tlv_area.proofs.OneForm.{next_there, one_layout}

-- what follows where a walk stops
pub one_next : (space : Space) (memory : List ℕ) (a b : Next) → space.start ≤ space.end → Stops a → Stops b →
    Comes space memory a → Comes space memory b → a ≡ b
one_next space memory a b order stop stop' first second =
    let same = one_layout space memory order first.0 second.0 first.1 second.1
    first.2 (subst Stops (sym first.3) stop) second.2 (subst Stops (sym second.3) stop') in
    sym first.3 ∙ ap (λ c. next memory c) same.1 ∙ second.3

-- a held message is what follows
pub held_comes : (space : Space) (memory message : List ℕ) → Holds space memory message →
    (t : Tlv) × Comes space memory (Item t) × Stops (Item t) × (t.value ≡ message)
held_comes space memory message is = (is.1, (is.0, (is.1).at ++ is.2, is.3, next_there memory is.1 is.2 is.4), is.5, is.6)

pub one_form : (space : Space) (memory : List ℕ) → space.start ≤ space.end → IsOneForm (IsForm space memory)
one_form space memory order (Faulty e) g one two = absurd one
one_form space memory order (Message f) (Faulty e) one two = absurd two
one_form space memory order NoMessageTlv (Faulty e) one two = absurd two
one_form space memory order BadTlv (Faulty e) one two = absurd two
one_form space memory order (Message f) (Message g) one two =
    let first = held_comes space memory f one in
    let second = held_comes space memory g two in
    let items = one_next space memory (Item first.0) (Item second.0) order first.2 second.2 first.1 second.1 in
    ap (λ m. Message m) (sym first.3 ∙ item_value first.0 second.0 items ∙ second.3)
  where
    item_value : (t u : Tlv) → Item t ≡ Item u → t.value ≡ u.value
    item_value t u e = let same : t ≡ u = cc in ap (λ v. v.value) same
one_form space memory order (Message f) NoMessageTlv one two =
    let first = held_comes space memory f one in
    let clash = one_next space memory (Item first.0) End order first.2 tt first.1 two in cc
one_form space memory order (Message f) BadTlv one two =
    let first = held_comes space memory f one in
    let clash = one_next space memory (Item first.0) Fault order first.2 tt first.1 two in cc
one_form space memory order NoMessageTlv (Message g) one two =
    let second = held_comes space memory g two in
    let clash = one_next space memory (Item second.0) End order second.2 tt second.1 one in cc
one_form space memory order BadTlv (Message g) one two =
    let second = held_comes space memory g two in
    let clash = one_next space memory (Item second.0) Fault order second.2 tt second.1 one in cc
one_form space memory order NoMessageTlv NoMessageTlv one two = refl
one_form space memory order BadTlv BadTlv one two = refl
one_form space memory order NoMessageTlv BadTlv one two = let clash = one_next space memory End Fault order tt tt one two in cc
one_form space memory order BadTlv NoMessageTlv one two = let clash = one_next space memory Fault End order tt tt one two in cc

-- a walk that needs a byte past the front answers More
pub needs_more : (space : Space) (memory : List ℕ) (result : Walk) → space.start ≤ space.end → IsWalk space memory result →
    Comes space memory Unknown → result ≡ walk.More
needs_more space memory walk.More order is needs = refl
needs_more space memory walk.NoMessageTlv order is needs = let clash = one_next space memory End Unknown order tt tt is needs in cc
needs_more space memory walk.BadTlv order is needs = let clash = one_next space memory Fault Unknown order tt tt is needs in cc
needs_more space memory (walk.Held m) order is needs =
    let layout : Layout space memory is.1 ((is.2).at ++ is.3) = subst (λ s. Layout s memory is.1 ((is.2).at ++ is.3)) is.0 is.4.layout in
    let comes : Comes space memory (Item is.2) = (is.1, (is.2).at ++ is.3, layout, next_there memory is.2 is.3 is.4.lies) in
    let clash = one_next space memory (Item is.2) Unknown order is.4.message tt comes needs in cc

-- a container's fault, or an area with an end behind its start, has no two forms
pub one_form_by : (container : Result Space ContainerFault) (store : List ℕ) → IfOk container IsArea → IsOneForm (IsFormBy container store)
one_form_by (Err fault) store area f g one two = one ∙ sym two
one_form_by (Ok space) store area f g one two = one_form space store area.order f g one two
