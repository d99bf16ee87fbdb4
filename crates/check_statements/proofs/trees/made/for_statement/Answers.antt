use Rattle.std.proofs.Common.{ap, ◌∙◌, w64}
use Rattle.std.proofs.lemmas.Int.{to_z-of_z}
use Rattle.ob_types.specs.declared.statements.ForLoop.{ForLoop}
use Rattle.ob_judge.specs.Image as I
use Rattle.judged_tree.specs.Plain.{plain_designator, plain_checked, plain_body}
use Rattle.check_statements.proofs.trees.Rows.{for_is}
use Rattle.check_statements.proofs.trees.made.for_statement.Goals as goal

pub returns : goal.returns
returns c = λ t texts. for_is t texts c.in_ok-whole.whole
    ∙ ap (λ (f : ForLoop). I.For (plain_designator t texts f.variable) (plain_checked t texts f.first) (plain_checked t texts f.limit) f.step (plain_body t texts f.body.items)) c.in_ok-whole.ensures.ok
    ∙ ap (λ k. I.For (plain_designator t texts c.args.variable) (plain_checked t texts c.args.first) (plain_checked t texts c.args.limit) k (plain_body t texts c.args.body.items)) (to_z-of_z w64 c.args.step c.ranges.step)
