use Rattle.start_forms.proofs.Starts.{has_start}
use Rattle.start_forms.proofs.laws.starts_have_forms.Goals as goal

pub returns : goal.returns
returns c = λ ms ns p q x y. has_start ms ns p q x y
