use Rattle.std.proofs.Common.{Some, sym, subst}
use Rattle.ob_types.specs.declared.program.Entity.TheVariants as TheEntity
use Rattle.check_modules.specs.programs.Entities.{IsEntity}
use Rattle.check_modules.proofs.programs.Entities.{type_is}
use Rattle.check_modules.proofs.programs.objects.entity.Goals as goal

pub returns-in-Type : goal.returns-in-Type
returns-in-Type c = λ texts strings places.
    subst (λ n. IsEntity texts strings c.args.types.now.table n (Some (TheEntity.Type c.number.result))) (sym c.in-Type.is) (type_is texts strings c.args.types.now.table c.in-Type.of c.number.result c.number.ensures.entry)
