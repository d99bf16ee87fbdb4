use Rattle.object_bytes.proofs.Kept.{kept_store}
use Rattle.object_bytes.proofs.laws.stores_keep.Goals as goal

pub returns : goal.returns
returns c = λ o p m k a c s v x h at is means lt. kept_store o p m k a c s v x h at is means lt
