use Rattle.std.proofs.Common.{sym, ap, ◌∙◌}
use Rattle.judged_tree.specs.Plain.{plain_expr}
use Rattle.check_types.specs.names.Worlds.{table_of}
use Rattle.check_operands.specs.Operands.{texts_of, bases_of, what_image}
use Rattle.check_statements.proofs.deeds.Deeds.{called_what}
use Rattle.check_statements.proofs.deeds.calls.is_call.Goals as goal

pub returns-in-Valued : goal.returns-in-Valued
returns-in-Valued c = λ w h. let s = c.args.scope.now in
    called_what (bases_of s) s.source.now (plain_expr (table_of s) (texts_of s) c.in-Valued.value.tree) w (ap (what_image (table_of s) (texts_of s)) (sym c.in-Valued.is) ∙ h) ∙ c.is_call_tree.ensures (table_of s) (texts_of s)
