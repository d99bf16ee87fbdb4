use Rattle.std.proofs.Common.{[], None, map, refl}
use Rattle.std.specs.Prelude.{string_bytes}
use Rattle.trc_cli.proofs.Endings.{did_nothing, told_of_memory}
use Rattle.trc_cli.proofs.program.run_program.Goals as goal

pub returns-in-Ok-clause-did : goal.returns-in-Ok-clause-did
returns-in-Ok-clause-did g c = record {
  words = map string_bytes c.as_slice-words.result.now;
  outcome = c.call.result;
  did = c.call.ensures.did;
  is = refl;
}

pub returns-in-Err-clause-did : goal.returns-in-Err-clause-did
returns-in-Err-clause-did g c = record {
  words = [];
  outcome = c.finish.result;
  did = did_nothing None _ _ _ _ _ _ _ c.finish.result c.of.result.cause c.finish.ensures.cause c.of.ensures c.finish.ensures.status
      (told_of_memory _ _ _ _ c.of.result.place c.of.result.cause c.of.ensures c.finish.ensures.told);
  is = refl;
}
