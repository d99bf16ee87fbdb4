use Rattle.trc_cli.proofs.Once.{exec_is_run}
use Rattle.trc_cli.proofs.laws.exec_of_built_is_run.Goals as goal

pub returns : goal.returns
returns c = λ held later left out bytes files from choice other steps ran executed policy builder regs wrote runs there executes.
    exec_is_run c.texts_have_one_image.ensures c.images_exclude_refusals.ensures held later left out bytes choice other steps ran executed policy builder regs there files from wrote runs executes
