use Rattle.std.proofs.Common.{sym, subst}
use Rattle.ob_judge.specs.Parameters.{next_list}
use Rattle.ob_judge.specs.Types.{stand_fields}
use Rattle.check_types.specs.steps.Answers.{Answers}
use Rattle.check_types.proofs.steps.Answering.{exit, goes_on, stop, as_judged}
use Rattle.check_making.specs.Parts.{Made}
use Rattle.check_making.specs.new_types.Layouts.{IsSoFar}
use Rattle.check_making.proofs.new_types.FieldLists.{names_law}
use Rattle.check_making.proofs.new_types.fields.stand_fields.Goals as goal

pub returns-in_err-stand_field-clause-judged : goal.returns-in_err-stand_field-clause-judged
returns-in_err-stand_field-clause-judged c = λ g h m makes.
    exit _ c.from_residual.ensures.1 (as_judged (names_law c.args.round.now.source.now c.args.idents.now.first g m (next_list c.args.idents.now.more.items)) (stop _ _ (c.in_err-stand_field.ensures.judged g h m makes)))

pub returns-clause-judged : goal.returns-clause-judged
returns-clause-judged c = λ g h m makes.
    as_judged (names_law c.args.round.now.source.now c.args.idents.now.first g m (next_list c.args.idents.now.more.items))
    (goes_on _ _ (c.in_ok-stand_field.ensures.judged g h m makes) (λ a made.
    subst (λ xs. Answers (Made c.args.round.now c.stand_more.new.state) (stand_fields c.args.round.now.source.now (next_list xs) g a.1) c.stand_more.result) c.deref.ensures.value
    (c.stand_more.ensures.judged g (subst (λ z. IsSoFar z.table c.args.layout.now g) (sym c.in_ok-stand_field.ensures.types) h) a.1 made.makes)))
