use Rattle.held_stores.proofs.Copies.{copy_held}
use Rattle.held_stores.proofs.laws.copies_keep.Goals as goal

pub returns : goal.returns
returns c = λ g k s m to from u t x y held begins into out may there here. copy_held g k s m held to from u t x y begins into out may there here
