use Rattle.std.proofs.Common.{◌∙◌, map, ap}
use Rattle.compiled_runs.specs.Compiled.{name_of}
use Rattle.program_image.proofs.Fitting.{descriptors_are, data_is}
use Rattle.program_image.proofs.data.program_data.Goals as goal

pub returns : goal.returns
returns c =
    data_is c.args.program.now c.flags.result c.args.tables.now.descriptors c.new.result c.from_vec.result
    c.flags.ensures
    (descriptors_are c.args.program.now c.requires.within c.args.tables.now c.requires.tables)
    (c.new.ensures ∙ c.in_ok-constants.ensures)
    (c.from_vec.ensures ∙ c.in_ok-names.ensures ∙ ap (map name_of) c.as_slice.ensures)
