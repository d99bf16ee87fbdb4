-- Parts that are written one behind the other.
use Rattle.std.proofs.Common.{◌≡◌, ℕ, List, ◌++◌, append_assoc}

pub written : (out a b c d e f g h : List ℕ) → (((((((out ++ a) ++ b) ++ c) ++ d) ++ e) ++ f) ++ g) ++ h ≡ out ++ (((((((a ++ b) ++ c) ++ d) ++ e) ++ f) ++ g) ++ h)
written out a b c d e f g h = simp append_assoc
