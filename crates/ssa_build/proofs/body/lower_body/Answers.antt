use Rattle.std.proofs.Common.{map, ap, ap₂, sym, ◌∙◌}
use Rattle.ob_types.specs.declared.program.Procedure.{Procedure}
use Rattle.ssa_lowered.specs.Data.{layout}
use Rattle.ssa_lowered.specs.Lowered.{answer}
use Rattle.ssa_lowered.specs.Variables.{zeroing, stored, opened, some_structured}
use Rattle.ssa_exprs.proofs.Giving.{gives_as}
use Rattle.ssa_statements.proofs.Joining.{steps_as}
use Rattle.ssa_statements.specs.walk.Lists.{deeds_in}
use Rattle.ssa_tables.specs.Local.{seen}
use Rattle.ssa_build.proofs.Makings.{makes_whole}
use Rattle.ssa_build.proofs.body.lower_body.Goals as goal

pub returns : goal.returns
returns c = λ p here s types procedure variables bytes.
    let t = c.args.types.now in
    let zeroed = c.args.locals.now.structured in
    let some = ap₂ (λ u (q : Procedure). some_structured u q.locals) types procedure ∙ sym (c.has_structured-structured.ensures ∙ ap (some_structured t) c.as_slice.ensures) in
    let all = sym variables ∙ ap (map seen) (sym c.as_slice-variables.ensures) in
    makes_whole p here c.args.words zeroed
    c.in_ok-further.ensures
    (gives_as (ap₂ (λ b k. zeroing b k zeroed) some (sym bytes)) c.in_ok-zero.ensures)
    (gives_as (ap (λ u. stored u (layout u) here.bytes here.variables) types ∙ ap₂ (λ k vs. stored t (layout t) k vs) (sym bytes) all) c.in_ok-store_all.ensures)
    (gives_as (ap opened all) c.in_ok-env.ensures)
    c.enter.ensures
    (steps_as (ap (λ ss. deeds_in p here ss) (ap (λ (q : Procedure). q.body) procedure ∙ sym c.as_slice-2.ensures)) (c.in_ok-statements.ensures p here s))
    (gives_as (ap (λ (q : Procedure). answer p (layout p.types) here q.answer) procedure) (c.in_ok-result.ensures p here s))
