use Rattle.std.proofs.Common.{◌≡◌, ◌∙◌, ap, sym, arith}
use Rattle.ssa_statements.proofs.Straight.{steps_copy_record}
use Rattle.ob_types.specs.Meaning.{kind_in, record_of_kind}
use Rattle.ssa_exprs.specs.Tables.{named_in, record_in}
use Rattle.ssa_lowered.specs.Data.{layout}
use Rattle.ssa_lowered.specs.Statements.{copy_record}
use Rattle.ssa_statements.proofs.Joining.{steps_as}
use Rattle.ssa_statements.proofs.simple.copy_record.Goals as goal

pub returns : goal.returns
returns c = λ p here s.
    let d = c.args.d.now in
    let r = record_of_kind (kind_in d) in
    let size_is : c.from-size.result ≡ (layout p.types).record_bytes r = c.from-size.ensures ∙ c.record.ensures ∙ ap (record_in c.args.t.now.program.now) (c.record_of_kind.ensures ∙ ap record_of_kind c.kind_in.ensures) ∙ s.whole r in
    steps_as (ap (copy_record (named_in p here d) (named_in p here c.args.e.now)) (sym size_is))
    (steps_copy_record c.from-size.result (c.in_ok-to.ensures p here s) (c.in_ok-a.ensures (omega arith)) (c.in_ok-from.ensures p here s) (c.in_ok-c.ensures (omega arith)) c.in_ok-bytes.ensures c.in_ok-act.ensures)
