use Rattle.ob_syntax.specs.Plain.{plain_option, plain_vars}
use Rattle.std.proofs.Common.{sym, ap}
use Rattle.ob_judge.specs.Declarations.{each, var_part, vars_in}
use Rattle.judged_well.proofs.Judging.{weaken}
use Rattle.judged_modules.proofs.DeclarationsGrow.{g_each, g_var}
use Rattle.check_types.proofs.steps.Answering.{as_judged}
use Rattle.check_declared.proofs.type_parts.States.{part_opens}
use Rattle.check_declared.proofs.type_parts.declarations.variable_declarations.Goals as goal

pub returns-clause-judged : goal.returns-clause-judged
returns-clause-judged c = λ m makes.
    let p = c.args.round.now.source.now in
    as_judged (ap (λ ds. each (var_part p) ds m) (sym c.variable_trees.ensures)) (c.var_decls.ensures.judged m makes)

pub returns-clause-procedure : goal.returns-clause-procedure
returns-clause-procedure c =
    let p = c.args.round.now.source.now in
    let ds = vars_in (plain_option plain_vars c.args.tree.now) in
    part_opens c.requires (each (var_part p) ds) (weaken (g_each p (var_part p) (g_var p) ds c.requires.making) (λ a g. g.procedure)) c.var_decls.result (returns-clause-judged c)
