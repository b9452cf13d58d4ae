-- Commands that are asked one after another, up to the first that is refused.
use Rattle.std.proofs.Common.{◌≡◌, ℕ, List, [], ◌∷◌, ◌++◌, if◌then◌else◌, Option, Some, None, refl, ◌∙◌, ap}
use Rattle.std.specs.Prelude.{is_some}
use Rattle.std.proofs.lemmas.List.{map-append}
use Rattle.nfc_base.specs.Signal.{Signal}
use Rattle.nfc_base.specs.TagLinks.{TagState, TagStep, after_all}
use Rattle.tag_reader.specs.declared.how.How.{How}
use Rattle.tag_writer.specs.Puts.{Put, commands_of}
use Rattle.tag_writer.specs.WriteAsked.{refusal_in, up_to_refused, refused_by, last_command}

pub last_snoc : (o : Option Signal) (cs : List Signal) (c : Signal) → last_command o (cs ++ c ∷ []) ≡ Some c
last_snoc o [] c = refl
last_snoc o (d ∷ cs) c = last_snoc (Some d) cs c

-- what is asked behind a command, by whether it was refused
abbrev pub asked_behind : How → (TagState → Signal → TagStep) → TagState → Signal → List Signal → List Signal
asked_behind how step s c ds = if is_some (refusal_in how (step s c).answer) then [] else up_to_refused how step (step s c).after ds

abbrev pub refused_behind : How → (TagState → Signal → TagStep) → TagState → Signal → List Signal → Option ℕ
refused_behind how step s c ds = if is_some (refusal_in how (step s c).answer) then refusal_in how (step s c).answer else refused_by how step (step s c).after ds

-- where a front isn't refused
not_refused : (how : How) (step : TagState → Signal → TagStep) (s : TagState) (c : Signal) (cs : List Signal) → refused_by how step s (c ∷ cs) ≡ None →
    (refusal_in how (step s c).answer ≡ None) × (refused_by how step (step s c).after cs ≡ None)
not_refused how step s c cs = by_answer (refusal_in how (step s c).answer)
  where
    by_answer : (o : Option ℕ) → (if is_some o then o else refused_by how step (step s c).after cs) ≡ None → (o ≡ None) × (refused_by how step (step s c).after cs ≡ None)
    by_answer None e = (refl, e)
    by_answer (Some code) e = absurd cc

pub up_to_at : (how : How) (step : TagState → Signal → TagStep) (s : TagState) (cs : List Signal) (c : Signal) (ds : List Signal) → refused_by how step s cs ≡ None →
    up_to_refused how step s (cs ++ c ∷ ds) ≡ cs ++ c ∷ asked_behind how step (after_all step s cs) c ds
up_to_at how step s [] c ds none = refl
up_to_at how step s (b ∷ cs) c ds none =
    let h = not_refused how step s b cs none in
    ap (λ xs. b ∷ xs) (ap (λ o. if is_some o then [] else up_to_refused how step (step s b).after (cs ++ c ∷ ds)) h.0 ∙ up_to_at how step (step s b).after cs c ds h.1)

pub refused_at : (how : How) (step : TagState → Signal → TagStep) (s : TagState) (cs : List Signal) (c : Signal) (ds : List Signal) → refused_by how step s cs ≡ None →
    refused_by how step s (cs ++ c ∷ ds) ≡ refused_behind how step (after_all step s cs) c ds
refused_at how step s [] c ds none = refl
refused_at how step s (b ∷ cs) c ds none =
    let h = not_refused how step s b cs none in
    ap (λ o. if is_some o then o else refused_by how step (step s b).after (cs ++ c ∷ ds)) h.0 ∙ refused_at how step (step s b).after cs c ds h.1

pub up_to_all : (how : How) (step : TagState → Signal → TagStep) (s : TagState) (cs : List Signal) → refused_by how step s cs ≡ None → up_to_refused how step s cs ≡ cs
up_to_all how step s [] none = refl
up_to_all how step s (b ∷ cs) none =
    let h = not_refused how step s b cs none in
    ap (λ xs. b ∷ xs) (ap (λ o. if is_some o then [] else up_to_refused how step (step s b).after cs) h.0 ∙ up_to_all how step (step s b).after cs h.1)

pub commands_append : (ps qs : List Put) → commands_of (ps ++ qs) ≡ commands_of ps ++ commands_of qs
commands_append ps qs = map-append (λ p. p.command) ps qs
