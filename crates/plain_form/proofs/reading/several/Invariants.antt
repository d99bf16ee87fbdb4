use Rattle.std.proofs.Common.{◌≡◌, ◌-◌}
use Rattle.plain_form.specs.Reading.{several}
use Rattle.plain_form.proofs.Loop.{with_front}
use Rattle.plain_form.proofs.reading.several.Given as goal

abbrev pub invariant-loop : goal.invariant-loop
invariant-loop g l = with_front l.items (several (g.T.FromBytes.read_by l.total) (l.count - l.counter) l.rest) ≡ several (g.T.FromBytes.read_by l.total) l.count l.bytes
