use Rattle.object_bytes.proofs.Lives.{pointers_one}
use Rattle.object_bytes.proofs.laws.pointers_are_objects.Goals as goal

pub returns : goal.returns
returns c = λ o p m i j x h one other some more. pointers_one o p m i j x h one other some more
