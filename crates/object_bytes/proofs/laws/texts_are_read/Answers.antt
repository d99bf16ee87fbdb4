use Rattle.object_bytes.proofs.Locals.{text_at}
use Rattle.object_bytes.proofs.laws.texts_are_read.Goals as goal

pub returns : goal.returns
returns c = λ o p m k a c s x h at is has lt. text_at o p m k a c s x h at is has lt
