-- Code without the places of data.
use Rattle.block_runs.specs.declared.code.Code.{Code}
use Rattle.block_runs.specs.declared.code.Code.TheVariants.{Global}

-- with 0 for the place of a datum
abbrev pub unplaced_code : Code → Code
unplaced_code (Global n) = Global 0
unplaced_code c = c
