use Rattle.image_file.proofs.Whole.{gives_image}
use Rattle.image_file.proofs.reading.read_image.Goals as goal

pub returns-clause-only : goal.returns-clause-only
returns-clause-only c = gives_image c.args.bytes.now c.image_of.result c.image_of.ensures.in_form c.image_of.ensures.words c.image_of.ensures.read c.image_of.ensures.fault
