use Rattle.std.proofs.Common.{◌≡◌, ap, ◌∙◌}
use Rattle.link_layout.specs.Widths.{IsWide}
use Rattle.link_blocks.specs.declared.plans.Plan.{Plan}
use Rattle.link_blocks.specs.Plans.{placed_in}
use Rattle.procedure_code.specs.Measured.{measured}
use Rattle.procedure_code.specs.declared.measuring.Measure.{Measure}
use Rattle.procedure_code.proofs.measuring.width.Goals as goal
use Rattle.link_layout.proofs.Placing.{ok_more}
use Rattle.link_layout.proofs.Placing.{err_more}

pub returns-clause-width : goal.returns-clause-width
returns-clause-width c =
    let m = c.args.measure.now in
    let wide : (plan : Plan) → m ≡ measured plan → IsWide (placed_in plan) m.front c.as_slice.result.now = λ plan is. record { front_is = ap (λ (x : Measure). x.front) is; blocks_are = c.as_slice.ensures ∙ ap (λ (x : Measure). x.blocks) is } in
    ok_more _ _ c.procedure_width.result (λ width h plan is. h (placed_in plan) 0 (wide plan is)) c.procedure_width.ensures.width

pub returns-clause-limit : goal.returns-clause-limit
returns-clause-limit c =
    let m = c.args.measure.now in
    let wide : (plan : Plan) → m ≡ measured plan → IsWide (placed_in plan) m.front c.as_slice.result.now = λ plan is. record { front_is = ap (λ (x : Measure). x.front) is; blocks_are = c.as_slice.ensures ∙ ap (λ (x : Measure). x.blocks) is } in
    err_more _ _ c.procedure_width.result (λ fault h plan is. h (placed_in plan) 0 (wide plan is)) c.procedure_width.ensures.limit
