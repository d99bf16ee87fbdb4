use Rattle.std.proofs.Common.{refl}
use Rattle.note_laws.proofs.Own.{plainly, as_traces}
use Rattle.note_laws.proofs.laws.texts_have_one_refusal_of_plans.Goals as goal

pub returns : goal.returns
returns c = λ builder texts r s x y e f.
    c.texts_have_one_refusal_of_traces.ensures (plainly builder) (plainly builder) texts r s refl (as_traces builder texts r x) (as_traces builder texts s y) e f
