use Rattle.std.proofs.Common.{◌≡◌, ◌∙◌, ap, ap₂, sym, arith}
use Rattle.ssa_statements.proofs.Straight.{steps_copy_array}
use Rattle.ob_types.specs.Meaning.{kind_in, length_of_kind, element_kind}
use Rattle.ssa_exprs.specs.Tables.{named_in, size_in}
use Rattle.ssa_lowered.specs.Data.{layout}
use Rattle.ssa_lowered.specs.Statements.{copy_array}
use Rattle.ssa_statements.proofs.Joining.{steps_as}
use Rattle.ssa_statements.proofs.simple.copy_array.Goals as goal

pub returns : goal.returns
returns c = λ p here s.
    let d = c.args.d.now in
    let e = c.args.e.now in
    let n = c.length_of_kind-n.result in
    let m = c.length_of_kind-m.result in
    let size = c.from-size.result in
    let n_is : n ≡ length_of_kind (kind_in d) = c.length_of_kind-n.ensures.is ∙ ap length_of_kind c.kind_in.ensures in
    let m_is : m ≡ length_of_kind (kind_in e) = c.length_of_kind-m.ensures.is ∙ ap length_of_kind c.kind_in-2.ensures in
    let size_is : size ≡ (layout p.types).bytes (element_kind (kind_in d)) = c.from-size.ensures ∙ c.size.ensures ∙ ap (size_in c.args.t.now.program.now) (c.element_kind.ensures ∙ ap element_kind c.kind_in-3.ensures) ∙ s.size (element_kind (kind_in d)) in
    let to = named_in p here d in
    let from = named_in p here e in
    steps_as (ap₂ (λ x y. copy_array to x from y ((layout p.types).bytes (element_kind (kind_in d)))) (sym n_is) (sym m_is) ∙ ap (copy_array to n from m) (sym size_is))
    (steps_copy_array n m size (c.in_ok-to.ensures p here s) (c.in_ok-a.ensures (omega arith)) (c.in_ok-from.ensures p here s) (c.in_ok-c.ensures (omega arith)) c.in_ok-fit.ensures c.in_ok-bytes.ensures c.in_ok-act.ensures)
