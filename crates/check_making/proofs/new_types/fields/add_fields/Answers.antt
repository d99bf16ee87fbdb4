use Rattle.std.proofs.Common.{◌∷◌, [], subst}
use Rattle.ob_judge.specs.Judged.{Keeps}
use Rattle.ob_judge.specs.Parameters.{next_list}
use Rattle.ob_judge.specs.Types.{add_fields}
use Rattle.check_types.specs.steps.Answers.{Answers}
use Rattle.check_types.proofs.steps.Answering.{exit}
use Rattle.check_types.specs.TypeMeaning.{type_shape}
use Rattle.check_making.specs.Making.{table_of}
use Rattle.check_making.specs.new_types.Layouts.{IsSoFarIn}
use Rattle.check_making.proofs.new_types.FieldLists.{field_first}
use Rattle.check_making.proofs.new_types.fields.add_fields.Goals as goal

pub returns-in_err-with_first : goal.returns-in_err-with_first
returns-in_err-with_first c = λ g h m makes.
    exit _ c.from_residual.ensures.1 (field_first (c.in_err-with_first.ensures g h m makes))

pub returns : goal.returns
returns c = λ g h m makes.
    let p = c.args.round.now.source.now in
    let shape = type_shape (table_of c.args.state.now) c.args.of in
    subst (λ xs. Answers (IsSoFarIn c.args.state.now) (Keeps (add_fields p c.args.r m.world shape (next_list xs) (add_fields p c.args.r m.world shape (c.args.idents.now.first ∷ []) g))) c.add_more.result) c.deref.ensures.value
    (c.add_more.ensures (add_fields p c.args.r m.world shape (c.args.idents.now.first ∷ []) g) (c.in_ok-with_first.ensures g h m makes).by m makes)
