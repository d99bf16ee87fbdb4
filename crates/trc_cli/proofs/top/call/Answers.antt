use Rattle.std.proofs.Common.{◌≡◌, None, map}
use Rattle.std.specs.Prelude.{string_bytes}
use Rattle.trc_words.specs.Asked.{asked}
use Rattle.trc_cli.proofs.Endings.{did_nothing, refused_usage, told_of_memory, told_of_usage}
use Rattle.trc_cli.proofs.top.call.Goals as goal

pub returns-in-Ok-clause-did : goal.returns-in-Ok-clause-did
returns-in-Ok-clause-did g c = rw c.in-Ok.ensures.asks c.perform_and_tell.ensures.did

pub returns-in-Err-Usage-clause-did : goal.returns-in-Err-Usage-clause-did
returns-in-Err-Usage-clause-did g c =
    let none : asked (map string_bytes c.args.words.now) ≡ None = rw c.in-Err-Usage.field-0-is at c.in-Err-Usage.ensures.asks in
    refused_usage (asked (map string_bytes c.args.words.now)) _ _ _ _ _ _ _ c.finish.result c.of.result.cause none c.finish.ensures.cause c.of.ensures c.finish.ensures.status
    (told_of_usage _ None _ _ c.of.result.place c.of.result.cause c.of.ensures c.finish.ensures.told)

pub returns-in-Err-Memory-clause-did : goal.returns-in-Err-Memory-clause-did
returns-in-Err-Memory-clause-did g c =
    did_nothing (asked (map string_bytes c.args.words.now)) _ _ _ _ _ _ _ c.finish-in-Err-Memory.result c.of-in-Err-Memory.result.cause c.finish-in-Err-Memory.ensures.cause
    c.of-in-Err-Memory.ensures c.finish-in-Err-Memory.ensures.status
    (told_of_memory _ _ _ _ c.of-in-Err-Memory.result.place c.of-in-Err-Memory.result.cause c.of-in-Err-Memory.ensures c.finish-in-Err-Memory.ensures.told)
