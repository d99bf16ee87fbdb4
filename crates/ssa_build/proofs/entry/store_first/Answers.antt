use Rattle.std.proofs.Common.{ap, sym, ◌∙◌, [], ◌∷◌}
use Rattle.block_runs.specs.declared.code.Code.TheVariants.{Local}
use Rattle.ssa_lowered.specs.Data.{layout}
use Rattle.ssa_lowered.specs.Pieces.{emits, does}
use Rattle.ssa_exprs.proofs.Giving.{gives_as}
use Rattle.ssa_lowered.specs.Variables.{is_structured}
use Rattle.ssa_build.proofs.Entering.{gives_stored}
use Rattle.ssa_build.proofs.entry.store_first.Goals as goal

pub returns-in_ok-act-in-Some : goal.returns-in_ok-act-in-Some
returns-in_ok-act-in-Some c =
    gives_stored c.args.types.now c.args.bytes c.in-Some.n c.args.v c.takes_a_byte.result (c.takes_a_byte.ensures c.args.types.now ∙ ap (layout c.args.types.now).is_small c.kind-in-Some.ensures)
    (sym (c.is_structured.ensures ∙ ap is_structured c.kind.ensures) ∙ c.if-is_structured.false) c.in-Some.is
    (gives_as (ap (λ n. emits (Local n) []) (sym c.saturating_sub.ensures)) c.in_ok-a-in-Some.ensures) c.in_ok-u-in-Some.ensures
    (gives_as (ap (λ k. does k (c.in_ok-a-in-Some.a ∷ c.in_ok-u-in-Some.u ∷ [])) (sym c.store_code.ensures)) c.in_ok-act-in-Some.ensures)
