use Rattle.std.proofs.Common.{◌≡◌, ◌-◌}
use Rattle.plain_form.specs.Reading.{several, register_at}
use Rattle.plain_form.proofs.Loop.{with_front}
use Rattle.plain_form.proofs.reading.registers.Given as goal

abbrev pub invariant-loop : goal.invariant-loop
invariant-loop l = with_front l.items (several (register_at l.total) (l.count - l.counter) l.rest) ≡ several (register_at l.total) l.count l.bytes
