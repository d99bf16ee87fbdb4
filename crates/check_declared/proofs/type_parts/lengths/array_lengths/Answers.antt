use Rattle.std.proofs.Common.{◌∷◌, ◌++◌, [], ◌∙◌, sym, ap}
use Rattle.ob_syntax.specs.Plain.{plain_expression, plain_each_expression}
use Rattle.check_types.proofs.steps.Answering.{exit, stop, goes_on, as_judged}
use Rattle.check_declared.specs.type_parts.Lengths.{lengths_behind}
use Rattle.check_declared.proofs.type_parts.ArrayLengths.{lengths_first}
use Rattle.check_declared.proofs.type_parts.lengths.array_lengths.Goals as goal

pub returns-in_err-length : goal.returns-in_err-length
returns-in_err-length c = λ m makes.
    exit _ c.from_residual.ensures.1
    (as_judged (lengths_first c.args.round.now.source.now m.world (plain_expression c.args.first.now) (plain_each_expression c.args.more.now)) (stop _ _ (c.in_err-length.ensures m makes)))

pub returns : goal.returns
returns c = λ m makes.
    let p = c.args.round.now.source.now in
    let es = plain_each_expression c.args.more.now in
    as_judged (lengths_first p m.world (plain_expression c.args.first.now) es)
    (goes_on _ _ (c.in_ok-length.ensures m makes) (λ n is.
    as_judged (ap (λ k. lengths_behind p k es m.world) (ap (λ x. x ∷ []) (sym is) ∙ sym (c.in_ok-push.ensures.items ∙ ap (λ xs. xs ++ (c.in_ok-length.length ∷ [])) c.new-all.ensures.items))) (c.more_lengths.ensures m makes)))
