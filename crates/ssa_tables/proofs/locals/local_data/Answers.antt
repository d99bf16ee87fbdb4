use Rattle.std.proofs.Common.{◌≡◌, map, sym, ap, ◌∙◌, arith}
use Rattle.ob_types.specs.Layout.{cells_of_all}
use Rattle.ssa_tables.specs.Local.{pair_of}
use Rattle.ssa_tables.specs.declared.locals.Variable.{Variable}
use Rattle.ssa_tables.proofs.Limits.{locals_passed, locals_within}
use Rattle.ssa_tables.proofs.Variables.{declared_cells_are}
use Rattle.ssa_tables.proofs.locals.local_data.Goals as goal

pub placed-requires-clause-counted : goal.placed-requires-clause-counted
placed-requires-clause-counted c =
    let t = c.args.types.now in
    let e = c.declared_cells-count.ensures ∙ declared_cells_are t c.args.counts.now c.requires.counted c.as_slice.result.now in
    let same : c.declared_cells-count.result ≡ cells_of_all t (map (λ (v : Variable). v.type_number) c.as_slice.result.now) = omega (arith, e, c.if-count-gt1048576.false) in
    same ∙ ap (λ vs. cells_of_all t (map (λ (v : Variable). v.type_number) vs)) (c.as_slice.ensures.value ∙ sym c.as_slice-2.ensures.value)

pub returns-then-count-gt1048576-clause-limit : goal.returns-then-count-gt1048576-clause-limit
returns-then-count-gt1048576-clause-limit c = λ p of_table.
    let vs = c.as_slice.result.now in
    locals_passed c.args.types.now c.args.counts.now c.requires.counted p c.args.f c.args.procedure.now of_table vs (ap (map pair_of) c.as_slice.ensures.value ∙ c.in-Ok.ensures) (omega (arith, c.if-count-gt1048576.true, c.declared_cells-count.ensures))

pub returns-in-Ok-placed-clause-within : goal.returns-in-Ok-placed-clause-within
returns-in-Ok-placed-clause-within c = λ p of_table.
    let vs = c.as_slice.result.now in
    locals_within c.args.types.now c.args.counts.now c.requires.counted p c.args.f c.args.procedure.now of_table vs (ap (map pair_of) c.as_slice.ensures.value ∙ c.in-Ok.ensures) (omega (arith, c.if-count-gt1048576.false, c.declared_cells-count.ensures))
