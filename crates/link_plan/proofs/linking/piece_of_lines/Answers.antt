use Rattle.std.proofs.Common.{◌<◌, ◌^◌, ◌∷◌, [], length, ap, sym, subst, ◌∙◌, arith}
use Rattle.placed_code.specs.Layout.{all_words}
use Rattle.placed_code.specs.Results.{placed}
use Rattle.linked_flows.specs.Allocations.{steps_of, allocated}
use Rattle.procedure_pieces.specs.Pieces.{piece_of}
use Rattle.procedure_code.specs.Parts.{IsWhole}
use Rattle.procedure_code.proofs.Plain.{piece_plain}
use Rattle.link_plan.proofs.Low.{whole}
use Rattle.link_plan.proofs.Longer.{long_plain}
use Rattle.link_plan.proofs.linking.piece_of_lines.Goals as goal

pub returns-in-Ok-clause-piece : goal.returns-in-Ok-clause-piece
returns-in-Ok-clause-piece c k c' few all is =
    let plan = c.in_ok-plan.ensures.plan k c' is in
    let pr = placed steps_of (allocated c') in
    c.in-Ok.ensures.piece (subst IsWhole (sym plan) (whole k few c' all)) ∙ ap piece_of plan ∙ piece_plain pr

pub returns-in-Err-Limit-clause-limit : goal.returns-in-Err-Limit-clause-limit
returns-in-Err-Limit-clause-limit c e k c' few all is =
    let plan = c.in_ok-plan.ensures.plan k c' is in
    let pr = placed steps_of (allocated c') in
    let far = subst (λ q. 2 ^ 18 < length (all_words (q ∷ []))) plan (c.in-Err-Limit.ensures.limit c.in-Err-Limit.field-0-is) in
    let same = long_plain (pr ∷ []) in
    omega (arith, far, same)
