use Rattle.std.proofs.Common.{◌∙◌, ap, sym, subst}
use Rattle.ob_judge.specs.Making.{Making}
use Rattle.ob_judge.specs.Parameters.{next_list}
use Rattle.ob_judge.specs.Declarations.{variable_part, each}
use Rattle.check_types.specs.steps.Answers.{Answers}
use Rattle.check_types.proofs.steps.Answering.{exit, goes_on, stop}
use Rattle.check_types.specs.TypeMeaning.{type_shape}
use Rattle.table_builder.specs.Entries.{IsElement}
use Rattle.check_making.specs.Making.{table_of}
use Rattle.check_making.specs.Parts.{Made}
use Rattle.check_making.proofs.parameters.Stages.{on_ok}
use Rattle.check_declared.proofs.type_parts.names.listed_variables.Goals as goal

pub more_variables-requires-clause-element : goal.more_variables-requires-clause-element
more_variables-requires-clause-element c = subst (λ z. IsElement z.table.entries.items c.args.of) (sym c.in_ok-variable.ensures.types) c.requires.element

pub returns-in_err-variable-clause-judged : goal.returns-in_err-variable-clause-judged
returns-in_err-variable-clause-judged c = λ m makes.
    let r = c.args.round.now in
    let shape = type_shape (table_of c.args.state.now) c.args.of in
    exit _ c.from_residual.ensures.1 (stop (variable_part r.source.now shape c.args.idents.now.first m) (λ (z : Unit {0} × Making). each (variable_part r.source.now shape) (next_list c.args.idents.now.more.items) z.1) (c.in_err-variable.ensures.judged m makes))

pub returns-clause-judged : goal.returns-clause-judged
returns-clause-judged c = λ m makes.
    let r = c.args.round.now in
    let shape = type_shape (table_of c.args.state.now) c.args.of in
    let same = ap (λ z. type_shape z.table.types c.args.of) c.in_ok-variable.ensures.types in
    goes_on (variable_part r.source.now shape c.args.idents.now.first m) (λ (z : Unit {0} × Making). each (variable_part r.source.now shape) (next_list c.args.idents.now.more.items) z.1) (c.in_ok-variable.ensures.judged m makes) (λ a made.
    subst (λ xs. Answers (Made r c.more_variables.new.state) (each (variable_part r.source.now shape) (next_list xs) a.1) c.more_variables.result) c.deref.ensures.value
    (subst (λ z. Answers (Made r c.more_variables.new.state) (each (variable_part r.source.now z) (next_list c.deref.result.now) a.1) c.more_variables.result) same (c.more_variables.ensures.judged a.1 made.makes)))

pub returns-clause-types : goal.returns-clause-types
returns-clause-types c = on_ok c.more_variables.result (λ e. e ∙ c.in_ok-variable.ensures.types) c.more_variables.ensures.types
