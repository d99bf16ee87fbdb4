use Rattle.ssa_lowered.specs.Data.{layout}
use Rattle.lowered_valid.proofs.Valid.{valid_all}
use Rattle.compiled_runs.proofs.Whole.{means}
use Rattle.compiled_runs.proofs.laws.images_mean.Goals as goal

pub returns : goal.returns
returns c p cuts image input is runs lowers can = means p cuts image input is runs (valid_all p (layout p.types) lowers) can
