use Rattle.std.proofs.Common.{Ok, Err, refl, sym, subst}
use Rattle.snep_core.specs.declared.job.Ending.{Ending}
use Rattle.snep_core.specs.declared.job.Ending.TheVariants.{Done, Sap}
use Rattle.snep_core.specs.Talk.{client_sap, sap_of_slot}
use Rattle.link_calls.specs.declared.request.LinkRequest.TheVariants as requests
use Rattle.link_calls.specs.Called.{Called, came_to}
use Rattle.link_calls.proofs.AtOnce.{put_rests, put_tells}
use Rattle.link_calls.proofs.Called.{get_failed, put_failed}
use Rattle.link_calls.proofs.calls.call_on.Goals as goal

pub returns-in-Ok-clause-called : goal.returns-in-Ok-clause-called
returns-in-Ok-clause-called g c =
    subst (λ q. Called g.L.Listener g.L.PeerListener.target c.args.counts q c.args.client.now.llc c.args.client.now.slots
    (record { air = c.args.field.now; initiator = c.args.initiator.now; far = c.args.far.now }) (Ok Done)
    c.put_on.new.client.llc c.put_on.new.client.slots (record { air = c.put_on.new.field; initiator = c.put_on.new.initiator; far = c.put_on.new.far })) (sym c.in-Put.is)
    (record {
      goes = c.in-Ok.ensures.ok;
      tells = put_tells c.in-Put.message.now c.args.client.now.slots c.put_on.new.client.slots (Ok c.in-Ok.field-0) (Ok Done) c.in-Ok.ensures.slots refl;
      serves = c.in-Ok.ensures.taken;
    })

pub returns-in-Err-clause-called : goal.returns-in-Err-clause-called
returns-in-Err-clause-called g c =
    subst (λ q. Called g.L.Listener g.L.PeerListener.target c.args.counts q c.args.client.now.llc c.args.client.now.slots
    (record { air = c.args.field.now; initiator = c.args.initiator.now; far = c.args.far.now }) c.refused_or_failed.result
    c.put_on.new.client.llc c.put_on.new.client.slots (record { air = c.put_on.new.field; initiator = c.put_on.new.initiator; far = c.put_on.new.far })) (sym c.in-Put.is)
    (subst (λ r. Called g.L.Listener g.L.PeerListener.target c.args.counts (requests.Put c.in-Put.message) c.args.client.now.llc c.args.client.now.slots
    (record { air = c.args.field.now; initiator = c.args.initiator.now; far = c.args.far.now }) r
    c.put_on.new.client.llc c.put_on.new.client.slots (record { air = c.put_on.new.field; initiator = c.put_on.new.initiator; far = c.put_on.new.far })) (sym c.refused_or_failed.ensures)
    (put_failed g.L.Listener g.L.PeerListener.target c.args.counts c.args.client.now.llc c.put_on.new.client.llc c.args.client.now.slots c.put_on.new.client.slots
    (record { air = c.args.field.now; initiator = c.args.initiator.now; far = c.args.far.now }) (record { air = c.put_on.new.field; initiator = c.put_on.new.initiator; far = c.put_on.new.far })
    client_sap c.in-Put.message.now c.in-Err.fault c.in-Err.ensures.err
    (put_tells c.in-Put.message.now c.args.client.now.slots c.put_on.new.client.slots (Err c.in-Err.fault) (came_to (λ (e : Ending). e) (Err c.in-Err.fault)) c.in-Err.ensures.slots refl)
    c.in-Err.ensures.fails))

pub returns-in-Ok-get_on-clause-called : goal.returns-in-Ok-get_on-clause-called
returns-in-Ok-get_on-clause-called g c =
    subst (λ q. Called g.L.Listener g.L.PeerListener.target c.args.counts q c.args.client.now.llc c.args.client.now.slots
    (record { air = c.args.field.now; initiator = c.args.initiator.now; far = c.args.far.now }) (Ok c.got.result)
    c.get_on.new.client.llc c.get_on.new.client.slots (record { air = c.get_on.new.field; initiator = c.get_on.new.initiator; far = c.get_on.new.far })) (sym c.in-Get.is)
    (subst (λ v. Called g.L.Listener g.L.PeerListener.target c.args.counts (requests.Get c.in-Get.slot c.in-Get.most c.in-Get.key) c.args.client.now.llc c.args.client.now.slots
    (record { air = c.args.field.now; initiator = c.args.initiator.now; far = c.args.far.now }) (Ok v)
    c.get_on.new.client.llc c.get_on.new.client.slots (record { air = c.get_on.new.field; initiator = c.get_on.new.initiator; far = c.get_on.new.far })) (sym c.got.ensures)
    (record { goes = c.in-Ok-get_on.ensures.ok; tells = c.in-Ok-get_on.ensures.slots; serves = c.in-Ok-get_on.ensures.value }))

pub returns-in-Err-get_on-clause-called : goal.returns-in-Err-get_on-clause-called
returns-in-Err-get_on-clause-called g c =
    subst (λ q. Called g.L.Listener g.L.PeerListener.target c.args.counts q c.args.client.now.llc c.args.client.now.slots
    (record { air = c.args.field.now; initiator = c.args.initiator.now; far = c.args.far.now }) c.refused_or_failed-in-Err-get_on.result
    c.get_on.new.client.llc c.get_on.new.client.slots (record { air = c.get_on.new.field; initiator = c.get_on.new.initiator; far = c.get_on.new.far })) (sym c.in-Get.is)
    (subst (λ r. Called g.L.Listener g.L.PeerListener.target c.args.counts (requests.Get c.in-Get.slot c.in-Get.most c.in-Get.key) c.args.client.now.llc c.args.client.now.slots
    (record { air = c.args.field.now; initiator = c.args.initiator.now; far = c.args.far.now }) r
    c.get_on.new.client.llc c.get_on.new.client.slots (record { air = c.get_on.new.field; initiator = c.get_on.new.initiator; far = c.get_on.new.far })) (sym c.refused_or_failed-in-Err-get_on.ensures)
    (get_failed g.L.Listener g.L.PeerListener.target c.args.counts c.args.client.now.llc c.get_on.new.client.llc c.args.client.now.slots c.get_on.new.client.slots
    (record { air = c.args.field.now; initiator = c.args.initiator.now; far = c.args.far.now }) (record { air = c.get_on.new.field; initiator = c.get_on.new.initiator; far = c.get_on.new.far })
    (sap_of_slot c.in-Get.slot) c.in-Get.most c.in-Get.key.now c.in-Err-get_on.fault c.in-Err-get_on.ensures.err c.in-Err-get_on.ensures.slots c.in-Err-get_on.ensures.fails))

pub returns-in-Ok-lookup_on-clause-called : goal.returns-in-Ok-lookup_on-clause-called
returns-in-Ok-lookup_on-clause-called g c =
    subst (λ q. Called g.L.Listener g.L.PeerListener.target c.args.counts q c.args.client.now.llc c.args.client.now.slots
    (record { air = c.args.field.now; initiator = c.args.initiator.now; far = c.args.far.now }) (Ok (Sap c.in-Ok-lookup_on.sap))
    c.lookup_on.new.client.llc c.lookup_on.new.client.slots (record { air = c.lookup_on.new.field; initiator = c.lookup_on.new.initiator; far = c.lookup_on.new.far })) (sym c.in-Lookup.is)
    (record { goes = c.in-Ok-lookup_on.ensures.ok; tells = c.in-Ok-lookup_on.ensures.slots; serves = c.in-Ok-lookup_on.ensures.found })

pub returns-in-Err-lookup_on-clause-called : goal.returns-in-Err-lookup_on-clause-called
returns-in-Err-lookup_on-clause-called g c =
    subst (λ q. Called g.L.Listener g.L.PeerListener.target c.args.counts q c.args.client.now.llc c.args.client.now.slots
    (record { air = c.args.field.now; initiator = c.args.initiator.now; far = c.args.far.now }) (Err c.in-Err-lookup_on.fault)
    c.lookup_on.new.client.llc c.lookup_on.new.client.slots (record { air = c.lookup_on.new.field; initiator = c.lookup_on.new.initiator; far = c.lookup_on.new.far })) (sym c.in-Lookup.is)
    (record { goes = c.in-Err-lookup_on.ensures.err; tells = tt; serves = c.in-Err-lookup_on.ensures.fails })

pub returns-in-Ok-close_and_release-clause-called : goal.returns-in-Ok-close_and_release-clause-called
returns-in-Ok-close_and_release-clause-called g c =
    subst (λ q. Called g.L.Listener g.L.PeerListener.target c.args.counts q c.args.client.now.llc c.args.client.now.slots
    (record { air = c.args.field.now; initiator = c.args.initiator.now; far = c.args.far.now }) (Ok Done)
    c.close_and_release.new.client.llc c.close_and_release.new.client.slots (record {
      air = c.close_and_release.new.field;
      initiator = c.close_and_release.new.initiator;
      far = c.close_and_release.new.far;
    })) (sym c.in-Close.is)
    (record { goes = c.in-Ok-close_and_release.ensures.ok; serves = c.in-Ok-close_and_release.ensures.closed })

pub returns-in-Err-close_and_release-clause-called : goal.returns-in-Err-close_and_release-clause-called
returns-in-Err-close_and_release-clause-called g c =
    subst (λ q. Called g.L.Listener g.L.PeerListener.target c.args.counts q c.args.client.now.llc c.args.client.now.slots
    (record { air = c.args.field.now; initiator = c.args.initiator.now; far = c.args.far.now }) (Err c.in-Err-close_and_release.fault)
    c.close_and_release.new.client.llc c.close_and_release.new.client.slots (record {
      air = c.close_and_release.new.field;
      initiator = c.close_and_release.new.initiator;
      far = c.close_and_release.new.far;
    })) (sym c.in-Close.is)
    (record { goes = c.in-Err-close_and_release.ensures.err; serves = c.in-Err-close_and_release.ensures.fails })

pub returns-in-Ok-clause-rest : goal.returns-in-Ok-clause-rest
returns-in-Ok-clause-rest g c = put_rests c.in-Put.message.now c.args.client.now.slots c.put_on.new.client.slots (Ok c.in-Ok.field-0) (Ok Done) c.requires.rest c.in-Ok.ensures.slots refl

pub returns-in-Err-clause-rest : goal.returns-in-Err-clause-rest
returns-in-Err-clause-rest g c =
    put_rests c.in-Put.message.now c.args.client.now.slots c.put_on.new.client.slots (Err c.in-Err.fault) c.refused_or_failed.result c.requires.rest c.in-Err.ensures.slots c.refused_or_failed.ensures

pub returns-in-Ok-run_on-clause-called : goal.returns-in-Ok-run_on-clause-called
returns-in-Ok-run_on-clause-called g c =
    subst (λ q. Called g.L.Listener g.L.PeerListener.target c.args.counts q c.args.client.now.llc c.args.client.now.slots
    (record { air = c.args.field.now; initiator = c.args.initiator.now; far = c.args.far.now }) (Ok Done)
    c.run_on.new.client.llc c.run_on.new.client.slots (record { air = c.run_on.new.field; initiator = c.run_on.new.initiator; far = c.run_on.new.far })) (sym c.in-Run.is) c.in-Ok-run_on.ensures.ok

pub returns-in-Err-run_on-clause-called : goal.returns-in-Err-run_on-clause-called
returns-in-Err-run_on-clause-called g c =
    subst (λ q. Called g.L.Listener g.L.PeerListener.target c.args.counts q c.args.client.now.llc c.args.client.now.slots
    (record { air = c.args.field.now; initiator = c.args.initiator.now; far = c.args.far.now }) (Err c.in-Err-run_on.fault)
    c.run_on.new.client.llc c.run_on.new.client.slots (record { air = c.run_on.new.field; initiator = c.run_on.new.initiator; far = c.run_on.new.far })) (sym c.in-Run.is) c.in-Err-run_on.ensures.err

pub returns-in-Ok-run_on-clause-rest : goal.returns-in-Ok-run_on-clause-rest
returns-in-Ok-run_on-clause-rest g c = c.in-Ok-run_on.ensures.ok.rest
