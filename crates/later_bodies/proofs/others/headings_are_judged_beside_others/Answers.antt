use Rattle.later_bodies.proofs.Frames.{heading_beside}
use Rattle.later_bodies.proofs.others.headings_are_judged_beside_others.Goals as goal

pub returns : goal.returns
returns c = λ p f name x is_local h s t ys is. heading_beside p s ys f name x is_local h t is
