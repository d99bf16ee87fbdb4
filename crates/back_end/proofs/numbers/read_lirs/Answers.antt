use Rattle.std.proofs.Common.{refl}
use Rattle.back_end.specs.Numbers.{has_number}
use Rattle.back_end.proofs.Reading.{further}
use Rattle.back_end.proofs.numbers.read_lirs.Goals as goal

pub loop-lir-preserved : goal.loop-lir-preserved
loop-lir-preserved c = record {
  end = refl;
  read = further (λ x. has_number x.template) c.args.lirs.now c.loop-lir.lir-index c.lir-item.result c.loop-lir-test.true c.lir-item.is c.loop-lir.invariant.read c.read_number.ensures;
}
