use Rattle.object_bytes.proofs.Lives.{kept_create}
use Rattle.object_bytes.proofs.laws.new_objects_keep.Goals as goal

pub returns : goal.returns
returns c = λ o k f cells named a p m h fresh unnamed spare some fine holds. kept_create o k f cells named a p m h fresh unnamed spare some fine holds
