use Rattle.std.proofs.Common.{rules, ◌≡◌, ◌≤◌, ◌∙◌, [], ◌∷◌, ℕ, List, Bool, true, refl, sym, ap, subst, arith}
use Rattle.std.proofs.lemmas.Grind.{common_steps}
use Rattle.nfc_base.specs.Signal.{Signal}
use Rattle.dep_pdu.specs.Spelling.{IsDepFrame}
use Rattle.dep_pdu.specs.declared.frame.DepFrame.TheVariants.{AtrRes}
use Rattle.link_tests.specs.declared.phone.Phone.{Phone}
use Rattle.link_tests.specs.contracts.phone.PhoneListener.TheImpl.{ghosts}
use Rattle.dep_link.specs.Target.{TargetState, fresh, darkened, atr_res, waiting_code}
use Rattle.dep_link.specs.Sessions.{IsBusy}
use Rattle.dep_link.specs.laws.Moves.{SameSelf}
use Rattle.dep_link.specs.laws.Delivering.{DoesTable, does_table, left_same, asked_in}
use Rattle.dep_link.specs.Answering.{reply_for}
use Rattle.dep_link.specs.Peers.{StepsByTarget, heard_with}
use Rattle.dep_link.specs.laws.Peering.{KeepsTable, takes_atr}
use Rattle.link_tests.proofs.phone.phone_field.Goals as goal

abbrev target : Phone → TargetState
target = λ l. l.target

-- it is lit, and says of itself what this target says
abbrev Says : TargetState → Phone → Type 0
Says start l = (l.lit ≡ true) × SameSelf start l.target

joins : (t u v : TargetState) → SameSelf t u → SameSelf u v → SameSelf t v
joins t u v a b = record {
  named = b.named ∙ a.named;
  code = b.code ∙ a.code;
  says = b.says ∙ a.says;
  asks = b.asks ∙ a.asks;
  longer = b.longer ∙ a.longer;
}

steps : (start : TargetState) (l : Phone) → Says start l → (f : Signal) (r : List ℕ) → StepsByTarget ghosts target l f r × Says start (heard_with ghosts l f r)
steps start l s f r =
    let d : DoesTable l.lit l.target f r = does_table l.lit l.target f r s.0 in (
      record { asks = d.asks; answer = d.answer; target_is = d.target_is; selected = s.0 },
      (s.0, joins start l.target _ s.1 (left_same l.lit l.target f (reply_for r (asked_in l.lit l.target f)))),
    )

same_says : (t u : TargetState) → SameSelf t u → atr_res t ≡ atr_res u
same_says t u s =
    ap (λ x. AtrRes x waiting_code t.lr (record { items = t.general })) (sym s.named)
    ∙ ap (λ x. AtrRes u.id waiting_code x (record { items = t.general })) (sym s.code)
    ∙ ap (λ x. AtrRes u.id waiting_code u.lr (record { items = x })) (sym s.says)

keeps : (start : TargetState) → IsDepFrame (atr_res start) → IsBusy start → KeepsTable ghosts target (Says start)
keeps start says busy = record {
  tech = λ l s. refl;
  steps = λ l s f a r b. steps start l s f r;
  opens = λ l s general. steps start l s _ [];
  cleared = λ l s. refl;
  says = λ l s. subst IsDepFrame (same_says start l.target s.1) says;
  busy = λ l s. record { count = subst (λ n. n ≤ 5) (sym s.1.asks) busy.count; times = subst (λ n. (1 ≤ n) × (n ≤ 59)) (sym s.1.longer) busy.times };
}

pub returns-clause-stands : goal.returns-clause-stands
returns-clause-stands c = λ bytes.
    let start : TargetState = fresh c.args.id 3 c.args.general.items in
    let l : Phone = record { lit = true; target = darkened (darkened start) } in
    let listeners : c.reset.new.self.listeners ≡ l ∷ [] = grind (arith, common_steps) in
    record {
      place = 0;
      listener = l;
      alone = record { before = []; behind = []; split = listeners; stands = refl; first = tt; later = tt };
      takes = takes_atr ghosts target (Says start) (keeps start (search rules, omega arith, search rules) (record { count = omega arith; times = (omega arith, omega arith) })) l
          (refl, record { named = refl; code = refl; says = refl; asks = refl; longer = refl }) bytes;
    }
