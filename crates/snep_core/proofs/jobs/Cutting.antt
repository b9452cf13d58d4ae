-- An exchange of a client over a link, and how it is cut off.
use Rattle.std.proofs.Common.{◌≡◌, ℕ, false, List, [], ◌∷◌, Option, Some, None, Result, Err, refl, ap, subst, ◌∙◌, inl, inr}
use Rattle.nfc_base.specs.declared.carrier.EndCause.{EndCause}
use Rattle.nfc_base.specs.declared.carrier.LinkEnd.{LinkEnd}
use Rattle.nfc_base.specs.Links.{CarrierView, FarStep, Stepped, SwapDone, SwapFailed, SwapRefused, Swapped, AskedBy}
use Rattle.llcp_link.specs.Answering.{Gives}
use Rattle.llcp_link.specs.Taking.{taken_from}
use Rattle.snep_core.specs.declared.fault.SnepFault.{SnepFault}
use Rattle.snep_core.specs.declared.fault.SnepFault.TheVariants.{Memory}
use Rattle.snep_core.specs.declared.job.Awaiting.{Awaiting}
use Rattle.snep_core.specs.Listening.{all_awaiting}
use Rattle.snep_core.specs.Calling.{ExchangedOnce, IsCut, fault_of}
use Rattle.snep_core.specs.Talk.{EndState, OnSap, silent}

module _ {C A : Type 0} (seen : C → CarrierView) (swaps : C → List ℕ → List FarStep → C → Type 0) (steps : A → List ℕ → List ℕ → A → Type 0)
    (stops : A → List ℕ → A → Type 0) (link : C) (far : A) (now : C) (after : A) (llc mid : EndState) (count : ℕ) (out : List ℕ)
    (g : Gives silent count llc out mid) where
  pub cut_failed : {V : Type 0} (new : EndState) → new ≡ mid → (e : SnepFault) (why : LinkEnd) (r : Result V LinkEnd) → r ≡ Err why → e ≡ fault_of why.cause
      → ((seen link).over ≡ None → SwapFailed steps stops (seen link) (seen now) out why far after)
      → ((c : EndCause) → (seen link).over ≡ Some c
      → SwapRefused (seen link) (seen now) c far after r × (now ≡ link))
      → ((seen link).over ≡ None → Swapped swaps steps stops link out far now after (AskedBy why.answered why.cause out))
      → IsCut seen swaps steps stops count llc link far e new now after
  cut_failed new kept e why r is fault fails refused swapped = go (seen link).over refl
    where
      go : (o : Option EndCause) → (seen link).over ≡ o → IsCut seen swaps steps stops count llc link far e new now after
      go None i = inr (inl (record {
        left = kept ∙ g.left;
        why = why;
        fault = fault;
        swap = subst (λ b. SwapFailed steps stops (seen link) (seen now) b why far after) g.bytes_are (fails i);
        swapped = subst (λ b. Swapped swaps steps stops link b far now after (AskedBy why.answered why.cause b)) g.bytes_are (swapped i);
      }))
      go (Some c) i =
          (let q = refused c i in
          let t = q.0.fault in
          let w : why ≡ record { cause = c; answered = false } = cc in
          inl (inr (record {
            left = kept ∙ g.left;
            why = c;
            over = i;
            fault = fault ∙ ap (λ x. fault_of x.cause) w;
            same = q.0.same;
            link_is = q.1;
            far_is = q.0.rests;
          })))

  pub cut_unread : (new : EndState) (e : SnepFault) (reply : List ℕ) → e ≡ Memory → SwapDone steps (seen link) (seen now) out reply far after
      → Swapped swaps steps stops link out far now after (λ did. did ≡ Stepped out reply ∷ [])
      → IsCut seen swaps steps stops count llc link far e new now after
  cut_unread new e reply fault done swapped = inr (inr (record {
    reply = reply;
    fault = fault;
    swap = subst (λ b. SwapDone steps (seen link) (seen now) b reply far after) g.bytes_are done;
    swapped = subst (λ b. Swapped swaps steps stops link b far now after (λ did. did ≡ Stepped b reply ∷ [])) g.bytes_are swapped;
  }))

  pub exchanged : (jobs : List OnSap) (reply : List ℕ) (all : List Awaiting) (new : EndState) → SwapDone steps (seen link) (seen now) out reply far after
      → Swapped swaps steps stops link out far now after (λ did. did ≡ Stepped out reply ∷ []) → new ≡ taken_from silent mid reply
      → all ≡ all_awaiting mid jobs → ExchangedOnce seen swaps steps stops count jobs llc link far all new now after
  exchanged jobs reply all new done swapped took awaited = record {
    reply = reply;
    swap = subst (λ b. SwapDone steps (seen link) (seen now) b reply far after) g.bytes_are done;
    swapped = subst (λ b. Swapped swaps steps stops link b far now after (λ did. did ≡ Stepped b reply ∷ [])) g.bytes_are swapped;
    took = took ∙ ap (λ l. taken_from silent l reply) g.left;
    awaited = awaited ∙ ap (λ l. all_awaiting l jobs) g.left;
  }
