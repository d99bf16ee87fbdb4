use Rattle.text_laws.proofs.no_faults.Never.{image_never_faults}
use Rattle.text_laws.proofs.no_faults.laws.images_never_fault.Goals as goal

pub returns : goal.returns
returns c = image_never_faults
