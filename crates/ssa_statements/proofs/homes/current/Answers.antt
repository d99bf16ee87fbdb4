use Rattle.std.proofs.Common.{[], ◌∷◌, sym, ap, ◌∙◌}
use Rattle.ssa_lowered.specs.Pieces.{emits}
use Rattle.ssa_lowered.specs.Values.{current}
use Rattle.ssa_exprs.proofs.Giving.{gives_as}
use Rattle.ssa_statements.specs.Homes.{home_value}
use Rattle.ssa_statements.proofs.homes.current.Goals as goal

pub returns-in_ok-v-in-Memory : goal.returns-in_ok-v-in-Memory
returns-in_ok-v-in-Memory c = gives_as (ap (λ h. current (home_value h)) c.in-Memory.is ∙ ap (λ k. emits k (c.in-Memory.a ∷ [])) (sym c.load_code.ensures)) c.in_ok-v-in-Memory.ensures
