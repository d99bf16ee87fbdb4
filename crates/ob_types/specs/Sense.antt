-- A program makes sense on an input.
use Rattle.run_laws.specs.Runs.{Outcome, Ended, Trapped, Going}
use Rattle.ob_types.specs.Store.{Trap, Kind, Senseless}

-- a trap of a kind
abbrev pub HasSense : Trap → Type 0
HasSense (Kind kind f) = Unit {0}
HasSense Senseless = ⊥

-- it ends, goes on, or traps with a kind
abbrev pub MakesSense : Outcome Trap → Type 0
MakesSense (Ended out) = Unit {0}
MakesSense (Trapped trap out) = HasSense trap
MakesSense (Going out) = Unit {0}
