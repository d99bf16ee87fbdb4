use Rattle.object_bytes.proofs.Blocks.{kept_copy}
use Rattle.object_bytes.proofs.laws.copies_keep.Goals as goal

pub returns : goal.returns
returns c = λ o p m f k b d u j a c w h rises to into from out. kept_copy o p m h f rises k b d u to into j a c w from out
