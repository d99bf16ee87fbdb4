use Rattle.later_bodies.proofs.Frames.{decls_beside}
use Rattle.later_bodies.proofs.others.declarations_are_judged_beside_others.Goals as goal

pub returns : goal.returns
returns c = λ p d s t ys many is. decls_beside p s ys many d t is
