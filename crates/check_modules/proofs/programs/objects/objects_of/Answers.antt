use Rattle.std.proofs.Common.{◌+◌, take, sym, subst}
use Rattle.check_making.specs.Making.{offered_of}
use Rattle.check_modules.specs.programs.Entities.{IsTold, AreObjects}
use Rattle.check_modules.proofs.programs.Entities.{told_at, objects_put}
use Rattle.check_modules.proofs.programs.objects.objects_of.Goals as goal

pub entity-entity-requires-clause-told : goal.entity-entity-requires-clause-told
entity-entity-requires-clause-told c =
    subst (λ x. IsTold c.args.types.now.table.entries.items x.declared.named) (sym c.offer-item.is) (told_at c.args.types.now.table.entries.items c.args.offered.now c.loop-offer.offer-index _ c.loop-offer-test.true c.requires.told)

pub loop-offer-preserved : goal.loop-offer-preserved
loop-offer-preserved c = λ texts strings places.
    let t = c.args.types.now.table in
    subst (λ xs. AreObjects texts t xs (offered_of t.types strings (take (c.loop-offer.offer-index + 1) c.args.offered.now))) (sym c.in_ok-put.ensures.made)
    (objects_put texts strings t c.loop-offer.objects c.args.offered.now c.loop-offer.offer-index _ c.offer-item.result c.entity-entity.result c.loop-offer-test.true c.offer-item.is (c.loop-offer.invariant texts strings places)
    (c.entity-entity.ensures texts strings places))
