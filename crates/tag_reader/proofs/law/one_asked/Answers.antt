use Rattle.std.proofs.Common.{List, sym, subst}
use Rattle.nfc_base.specs.Signal.{Signal}
use Rattle.tag_reader.specs.declared.how.How.TheVariants.{T2}
use Rattle.tag_reader.specs.Asked.{IsAsked}
use Rattle.tag_reader.specs.Kinds.{IsStore}
use Rattle.tag_reader.proofs.Lists.{asked_all, asked_front, one_list}
use Rattle.tag_reader.proofs.BlockLists.{blocks_asked}
use Rattle.tag_reader.proofs.FileAsked.{file_asked}
use Rattle.tag_reader.proofs.law.one_asked.Goals as goal

pub count_reads-requires : goal.count_reads-requires
count_reads-requires c = (subst (λ h. IsStore h c.args.size c.args.store.now) c.in-T2.is c.requires).1

pub returns-in-T2-clause-some : goal.returns-in-T2-clause-some
returns-in-T2-clause-some c =
    subst (λ h. (xs : List Signal) × IsAsked h c.args.size c.args.store.now xs) (sym c.in-T2.is)
    (subst (λ n. (xs : List Signal) × IsAsked T2 n c.args.store.now xs) (sym (subst (λ h. IsStore h c.args.size c.args.store.now) c.in-T2.is c.requires).0)
    (asked_all T2 16 c.args.store.now c.count_reads.result c.count_reads.ensures.each c.count_reads.ensures.no_more))

pub returns-in-T5-clause-some : goal.returns-in-T5-clause-some
returns-in-T5-clause-some c =
    subst (λ h. (xs : List Signal) × IsAsked h c.args.size c.args.store.now xs) (sym c.in-T5.is)
    (blocks_asked c.in-T5.field-0 c.args.size c.args.store.now (subst (λ h. IsStore h c.args.size c.args.store.now) c.in-T5.is c.requires))

pub returns-in-T4-clause-some : goal.returns-in-T4-clause-some
returns-in-T4-clause-some c = subst (λ h. (xs : List Signal) × IsAsked h c.args.size c.args.store.now xs) (sym c.in-T4.is) (file_asked c.args.size c.args.store.now)

pub returns-in-T2-clause-one : goal.returns-in-T2-clause-one
returns-in-T2-clause-one c = one_list c.args.how c.args.size c.args.store.now

pub returns-in-T2-clause-front : goal.returns-in-T2-clause-front
returns-in-T2-clause-front c n xs = asked_front c.args.how c.args.size c.args.store.now n xs

pub returns-in-T4-clause-one : goal.returns-in-T4-clause-one
returns-in-T4-clause-one c = one_list c.args.how c.args.size c.args.store.now

pub returns-in-T4-clause-front : goal.returns-in-T4-clause-front
returns-in-T4-clause-front c n xs = asked_front c.args.how c.args.size c.args.store.now n xs

pub returns-in-T5-clause-one : goal.returns-in-T5-clause-one
returns-in-T5-clause-one c = one_list c.args.how c.args.size c.args.store.now

pub returns-in-T5-clause-front : goal.returns-in-T5-clause-front
returns-in-T5-clause-front c n xs = asked_front c.args.how c.args.size c.args.store.now n xs
