use Rattle.std.proofs.Common.{[], ◌∷◌, sym, ap, ap₂, ◌∙◌, arith, ◌≡◌}
use Rattle.ssa_lowered.specs.Data.{layout}
use Rattle.ssa_lowered.specs.Pieces.{does}
use Rattle.ssa_lowered.specs.Statements.{in_char}
use Rattle.ssa_exprs.specs.Tables.{named_in, small_in}
use Rattle.ssa_exprs.proofs.Giving.{gives_as}
use Rattle.ssa_statements.proofs.Joining.{steps_as}
use Rattle.ssa_statements.proofs.Straight.{steps_in_char}
use Rattle.ssa_statements.proofs.simple.in_char.Goals as goal

pub returns : goal.returns
returns c = λ p here s.
    let narrow : c.takes_a_byte-2.result ≡ small_in p c.args.d.now = c.takes_a_byte-2.ensures p.types ∙ ap (layout p.types).is_small c.kind_in.ensures in
    steps_as (ap₂ (in_char (named_in p here c.args.d.now)) (sym (c.takes_a_byte.ensures p.types)) (sym narrow))
    (steps_in_char c.takes_a_byte.result c.takes_a_byte-2.result (c.in_ok-h.ensures p here s) (c.in_ok-a.ensures (omega arith)) c.in_ok-c.ensures c.in_ok-z.ensures c.in_ok-done.ensures c.in_ok-g.ensures
    (gives_as (ap (λ k. does k (c.in_ok-g.g ∷ c.in_ok-done.done ∷ [])) (sym c.store_code.ensures)) c.in_ok-act.ensures)
    c.in_ok-v.ensures
    (gives_as (ap (λ k. does k (c.in_ok-a.a ∷ c.in_ok-v.v ∷ [])) (sym c.store_code-2.ensures)) c.in_ok-act-2.ensures))
