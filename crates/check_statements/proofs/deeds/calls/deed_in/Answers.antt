use Rattle.std.proofs.Common.{Some, option_map, sym, ap, ◌∙◌}
use Rattle.ob_judge.specs.Image.{Invoke}
use Rattle.judged_tree.specs.Plain.{plain_expr, plain_statement}
use Rattle.check_types.specs.names.Worlds.{table_of}
use Rattle.check_operands.specs.Operands.{texts_of, bases_of, what_image}
use Rattle.check_statements.specs.deeds.Deeds.{call_by}
use Rattle.check_statements.proofs.deeds.Deeds.{invoked_what, proper_what}
use Rattle.check_statements.proofs.deeds.calls.deed_in.Goals as goal

pub returns-in-Valued : goal.returns-in-Valued
returns-in-Valued c = λ w h. let s = c.args.scope.now in
    c.invoked.ensures (table_of s) (texts_of s)
    ∙ ap (λ e. option_map Invoke (call_by (plain_expr (table_of s) (texts_of s) e))) c.into_tree.ensures
    ∙ invoked_what (bases_of s) (plain_expr (table_of s) (texts_of s) c.in-Valued.value.tree) w (ap (what_image (table_of s) (texts_of s)) (sym c.in-Valued.is) ∙ h)

pub returns-in-Proper : goal.returns-in-Proper
returns-in-Proper c = λ w h. let s = c.args.scope.now in
    ap (λ z. Some (plain_statement (table_of s) (texts_of s) z)) c.into_inner.ensures
    ∙ proper_what (bases_of s) (plain_statement (table_of s) (texts_of s) c.in-Proper.made.value) w (ap (what_image (table_of s) (texts_of s)) (sym c.in-Proper.is) ∙ h)
