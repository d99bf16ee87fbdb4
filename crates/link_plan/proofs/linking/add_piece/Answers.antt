use Rattle.std.proofs.Common.{◌++◌, ◌∷◌, [], map, ap, ◌∙◌}
use Rattle.procedure_code.specs.Views.{piece_in}
use Rattle.link_plan.proofs.Cuts.{map_last}
use Rattle.link_plan.proofs.linking.add_piece.Goals as goal

pub returns-in_ok-push-in-Ok-clause-piece : goal.returns-in_ok-push-in-Ok-clause-piece
returns-in_ok-push-in-Ok-clause-piece c k c' few all is e =
    ap (map piece_in) c.in_ok-push-in-Ok.ensures.items ∙ map_last piece_in c.args.pieces.now.items c.in-Ok.piece
    ∙ ap (λ q. map piece_in c.args.pieces.now.items ++ q ∷ []) (c.in-Ok.ensures.piece k c' few all is)

pub returns-in-Err-Limit-clause-over : goal.returns-in-Err-Limit-clause-over
returns-in-Err-Limit-clause-over c k c' few all is e = c.in-Err-Limit.ensures.limit c.in-Err-Limit.field-0-is k c' few all is

pub returns-in-Err-Limit-clause-fits : goal.returns-in-Err-Limit-clause-fits
returns-in-Err-Limit-clause-fits c = c.in-Err-Limit.ensures.numbers c.in-Err-Limit.field-0-is

pub returns-in-Err-Misfit-clause-misfit : goal.returns-in-Err-Misfit-clause-misfit
returns-in-Err-Misfit-clause-misfit c refused k c' is fits = c.in-Err-Misfit.ensures.misfit c.in-Err-Misfit.field-0-is k c' is fits
