use Rattle.std.proofs.Common.{Some, refl, subst}
use Rattle.trc_answers.specs.Verdict.{IsHeld}
use Rattle.trc_answers.proofs.Answering.{long_bytes}
use Rattle.batch_jobs.specs.Sources.{IsTooLong}
use Rattle.batch_jobs.proofs.sources.read_source.Goals as goal

pub returns-in-Err-TooLong-clause-found : goal.returns-in-Err-TooLong-clause-found
returns-in-Err-TooLong-clause-found g c =
    let told = rw c.in-Err-TooLong.field-0-is at c.in-Err-TooLong.ensures.tells in
    let long = long_bytes _ _ 1048576 told in
    IsTooLong long.0 c.in-Ok.ensures.cases.1 (subst (λ n. IsHeld (g.F.Files.held c.args.files.now) n (Some long.0)) c.in-Ok.ensures.cases.0 long.1) long.2 refl
