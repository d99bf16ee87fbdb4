use Rattle.std.proofs.Common.{refl, sym, ap, ◌∙◌, subst}
use Rattle.ssa_exprs.specs.Tables.{first_text_in}
use Rattle.ssa_tables.specs.Shared.{ServesAll}
use Rattle.ssa_tables.proofs.Serving.{serves_one}
use Rattle.ssa_tables.proofs.procedure.enter.Goals as goal

pub returns-in-Ok-own_tables-clause-serves : goal.returns-in-Ok-own_tables-clause-serves
returns-in-Ok-own_tables-clause-serves c =
    let p = c.args.program.now in
    let f = c.args.f in
    let t = c.in-Ok-own_tables.tables in
    let own = c.in-Ok-own_tables.ensures in
    serves_one t p f c.args.procedure.now c.in-Ok.locals (subst (λ z. ServesAll z p) (sym own.program) c.requires.serves) c.requires.there (c.in-Ok.ensures.ok p refl)
    (own.first ∙ sym (ap (λ z. first_text_in z f) own.program)) own.parameters own.locals
