use Rattle.object_bytes.proofs.Lives.{kept_without, spare_without}
use Rattle.object_bytes.proofs.laws.returns_keep.Goals as goal

pub returns : goal.returns
returns c = record {
  others = λ o p m k h unnamed. kept_without o p m k h unnamed;
  room = λ o p m k a n h at spare covers. spare_without o p m k a n h at spare covers;
}
