use Rattle.std.proofs.Common.{◌≡◌, ◌++◌, drop}
use Rattle.countdown.specs.Countdown.{code_of}
use Rattle.countdown.proofs.lower.Given as goal

abbrev pub invariant-loop-act : goal.invariant-loop-act
invariant-loop-act l = l.words.items ++ code_of (drop l.act-index l.act-items) ≡ l.initial.words.items ++ code_of l.act-items
