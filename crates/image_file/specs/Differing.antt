-- Where bytes differ from others.
use Rattle.std.specs.Prelude.{◌≡◌, ◌≢◌, ℕ, ◌<◌, List, slice_get}

-- they are the same up to there, and there they differ: other bytes stand there, or one ends and the other doesn't
pub record DifferAt (at : ℕ) (xs ys : List ℕ) : Type 0 where
  pub same : (i : ℕ) → i < at → slice_get xs i ≡ slice_get ys i
  pub other : slice_get xs at ≢ slice_get ys at
