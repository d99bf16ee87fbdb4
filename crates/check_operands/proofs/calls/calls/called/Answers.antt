use Rattle.std.proofs.Common.{◌≡◌, List, length, nat_eq, true, false, eq-eqb, sym, ap, ◌∙◌}
use Rattle.ob_judge.specs.Judged.{Keeps, ◌>>=◌}
use Rattle.ob_judge.specs.Shapes.{Formals}
use Rattle.ob_judge.specs.Image as I
use Rattle.ob_judge.specs.Scopes.{place}
use Rattle.ob_judge.specs.Operands.{value}
use Rattle.ob_judge.specs.Calls as J
use Rattle.judged_tree.specs.TypeShapes.{shapes_of, formals_shape}
use Rattle.check_types.proofs.Rounds.{eqb_false}
use Rattle.check_types.specs.TypeMeaning.{formals_of, result_of}
use Rattle.check_types.proofs.steps.Answering.{goes_on, stop, exit, kept, as_judged}
use Rattle.check_types.specs.names.Worlds.{table_of, world_of}
use Rattle.check_operands.proofs.calls.Binding.{count_is, refused_by}
use Rattle.check_operands.proofs.calls.calls.called.Goals as goal

pub returns-in_err-arguments : goal.returns-in_err-arguments
returns-in_err-arguments c = λ a xs h k.
    let s = c.args.scope.now in
    let w = world_of s in
    let ps = formals_of (table_of s) c.args.signature in
    let of = result_of (table_of s) c.args.signature in
    let shapes = shapes_of (table_of s) in
    let f = c.formals-formals.ensures in
    exit _ c.from_residual.ensures.1
    (kept 40 (place s.source.now c.args.symbol) (J.all_bound w ps xs >>= λ bs. Keeps (value of (I.Result (J.call_of a a.what bs))))
    (ap (λ qs. J.is_count qs xs) (sym f) ∙ count_is s w shapes c.formals-formals.result.now c.args.given.items xs k
    ∙ eq-eqb (length c.formals-formals.result.now) (length c.args.given.items) (c.if-formals-len.true ∙ c.len.ensures ∙ c.args.given.ok.0))
    (stop (J.all_bound w ps xs) (λ bs. Keeps (value of (I.Result (J.call_of a a.what bs))))
    (as_judged (ap (λ qs. J.all_bound w qs xs) (sym f)) (c.in_err-arguments.ensures xs k))))

pub returns-in_ok-arguments : goal.returns-in_ok-arguments
returns-in_ok-arguments c = λ a xs h k.
    let s = c.args.scope.now in
    let w = world_of s in
    let ps = formals_of (table_of s) c.args.signature in
    let of = result_of (table_of s) c.args.signature in
    let shapes = shapes_of (table_of s) in
    let f = c.formals-formals.ensures in
    kept 40 (place s.source.now c.args.symbol) (J.all_bound w ps xs >>= λ bs. Keeps (value of (I.Result (J.call_of a a.what bs))))
    (ap (λ qs. J.is_count qs xs) (sym f) ∙ count_is s w shapes c.formals-formals.result.now c.args.given.items xs k
    ∙ eq-eqb (length c.formals-formals.result.now) (length c.args.given.items) (c.if-formals-len.true ∙ c.len.ensures ∙ c.args.given.ok.0))
    (goes_on (J.all_bound w ps xs) (λ bs. Keeps (value of (I.Result (J.call_of a a.what bs))))
    (as_judged (ap (λ qs. J.all_bound w qs xs) (sym f)) (c.in_ok-arguments.ensures xs k)) (λ bs g. c.result_of_call.ensures a bs h g))

pub returns-else-formals-len : goal.returns-else-formals-len
returns-else-formals-len c = λ a xs h k.
    let s = c.args.scope.now in
    let w = world_of s in
    let ps = formals_of (table_of s) c.args.signature in
    let of = result_of (table_of s) c.args.signature in
    let shapes = shapes_of (table_of s) in
    let f = c.formals-formals.ensures in
    refused_by 40 (place s.source.now c.args.symbol) (J.all_bound w ps xs >>= λ bs. Keeps (value of (I.Result (J.call_of a a.what bs)))) c.fault.ensures
    (ap (λ qs. J.is_count qs xs) (sym f) ∙ count_is s w shapes c.formals-formals.result.now c.args.given.items xs k
    ∙ eqb_false (length c.formals-formals.result.now) (length c.args.given.items) (λ e. c.if-formals-len.false (e ∙ sym (c.len.ensures ∙ c.args.given.ok.0))))
