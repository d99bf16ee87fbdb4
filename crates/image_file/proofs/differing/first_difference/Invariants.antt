use Rattle.std.proofs.Common.{◌≡◌, ℕ, ◌<◌, slice_get}
use Rattle.image_file.specs.Spelling.{image_bytes, in_version_one}
use Rattle.image_file.proofs.differing.first_difference.Given as goal

abbrev pub invariant-loop-at : goal.invariant-loop-at
invariant-loop-at l = (i : ℕ) → i < l.at → slice_get l.bytes i ≡ slice_get (image_bytes (in_version_one l.image)) i
