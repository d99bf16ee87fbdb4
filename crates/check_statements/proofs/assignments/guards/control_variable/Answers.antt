use Rattle.std.proofs.Common.{Some, option_map, ap, sym, ◌∙◌}
use Rattle.ob_judge.specs.Operands.{whole_variable}
use Rattle.ob_judge.specs.Assignments.{integer_variable}
use Rattle.judged_tree.specs.Outline.{outlined_designator}
use Rattle.check_types.specs.TypeMeaning.{type_shape}
use Rattle.check_types.specs.names.Meaning.{object_of, variable_of}
use Rattle.check_types.specs.names.Worlds.{table_of, strings_of, world_of}
use Rattle.check_operands.specs.Operands.{bases_of}
use Rattle.check_statements.proofs.assignments.Assigning.{integer_is}
use Rattle.check_statements.proofs.assignments.guards.control_variable.Goals as goal

pub returns-in-Int : goal.returns-in-Int
returns-in-Int c =
    let s = c.args.scope.now in
    let v = variable_of (table_of s) (strings_of s) c.in-Variable.variable in
    ap Some (c.designator.ensures (whole_variable (world_of s) v) c.whole_operand.ensures)
    ∙ sym (ap (λ n. option_map (outlined_designator (bases_of s)) (integer_variable (world_of s) (object_of (table_of s) (strings_of s) n))) c.in-Variable.is
    ∙ ap (option_map (outlined_designator (bases_of s))) (integer_is s.source.now (world_of s) v (ap (type_shape (table_of s)) c.in-Int.is)))
