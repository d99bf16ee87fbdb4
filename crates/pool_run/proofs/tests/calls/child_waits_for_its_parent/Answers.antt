use Rattle.std.proofs.Common.{rules, ◌≡◌, refl}
use Rattle.pool_run.proofs.Calls.{has_its_trace, first_hints_fit, second_hints_fit}
use Rattle.pool_run.proofs.tests.calls.child_waits_for_its_parent.Goals as goal

pub finish-requires-clause-trace : goal.finish-requires-clause-trace
finish-requires-clause-trace g c κs =
    let a = c.in-Task-eq0-None in has_its_trace c.look-2.new.self.stage a.trace (a.ensures.task a.trace a.hint refl).0

pub finish-requires-clause-fits : goal.finish-requires-clause-fits
finish-requires-clause-fits g c κs =
    let a = c.in-Task-eq0-None in
    let zeroth : a.trace ≡ 0 = search rules in
    first_hints_fit c.look-2.new.self.stage a.trace c.in_ok-vec.field-0.items (a.ensures.task a.trace a.hint refl).0 zeroth c.in_ok-vec.ensures.items

pub finish-requires-2-clause-trace : goal.finish-requires-2-clause-trace
finish-requires-2-clause-trace g c κs =
    let a = c.in-Task-eq1-Some-eq700 in has_its_trace c.look-3.new.self.stage a.trace (a.ensures.task a.trace a.hint refl).0

pub finish-requires-2-clause-fits : goal.finish-requires-2-clause-fits
finish-requires-2-clause-fits g c κs =
    let a = c.in-Task-eq1-Some-eq700 in
    let first : a.trace ≡ 1 = search rules in
    second_hints_fit c.look-3.new.self.stage a.trace c.new.result.items (a.ensures.task a.trace a.hint refl).0 first c.new.ensures.items
