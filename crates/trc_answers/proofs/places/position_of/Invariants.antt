use Rattle.std.proofs.Common.{◌≡◌, suc, length, take}
use Rattle.ob_judge.specs.Scopes.{line_ends}
use Rattle.trc_answers.specs.Places.{last_line}
use Rattle.trc_answers.proofs.places.position_of.Given as goal

-- the bytes so far
abbrev pub invariant-loop-byte : goal.invariant-loop-byte
invariant-loop-byte l = (l.place.line ≡ suc (line_ends (take l.byte-index l.before))) × (l.place.column ≡ suc (length (last_line (take l.byte-index l.before))))
