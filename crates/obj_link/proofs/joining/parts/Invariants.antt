use Rattle.std.proofs.Common.{◌≡◌}
use Rattle.obj_link.specs.Joining.{texts_of, results_of}
use Rattle.obj_link.proofs.joining.parts.Given as goal

abbrev pub invariant-loop-object : goal.invariant-loop-object
invariant-loop-object l = record { texts : l.texts.items ≡ texts_of l.yielded; outs : l.outs.items ≡ results_of l.yielded }
