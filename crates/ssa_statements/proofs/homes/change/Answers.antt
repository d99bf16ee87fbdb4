use Rattle.std.proofs.Common.{[], ◌∷◌, sym, ap, ◌∙◌}
use Rattle.ssa_lowered.specs.Pieces.{does}
use Rattle.ssa_lowered.specs.Values.{change}
use Rattle.ssa_statements.specs.Homes.{home_value}
use Rattle.ssa_statements.proofs.Becomes.{steps_becomes}
use Rattle.ssa_statements.proofs.Joining.{steps_of, steps_to, steps_as}
use Rattle.ssa_statements.proofs.homes.change.Goals as goal

pub returns-in_ok-assign-in-Register : goal.returns-in_ok-assign-in-Register
returns-in_ok-assign-in-Register c = steps_as (ap (λ h. change (home_value h) c.args.v) c.in-Register.is) (steps_to c.in_ok-assign-in-Register.ensures (steps_becomes c.args.b.now c.in-Register.x c.args.v))

pub returns-in_ok-act-in-Memory : goal.returns-in_ok-act-in-Memory
returns-in_ok-act-in-Memory c = steps_as (ap (λ h. change (home_value h) c.args.v) c.in-Memory.is ∙ ap (λ k. does k (c.in-Memory.a ∷ c.args.v ∷ [])) (sym c.store_code.ensures)) (steps_of c.in_ok-act-in-Memory.ensures)
