use Rattle.std.proofs.Common.{◌≡◌, ℕ, refl}
use Rattle.block_runs.specs.declared.end.End.{End}
use Rattle.block_runs.specs.declared.end.End.TheVariants.{Return, Jump, Branch, Nonzero, Trap}
use Rattle.placed_code.specs.Placed.{Placed}
use Rattle.placed_code.specs.Words.{last_words}
use Rattle.link_words.specs.Frames.{last_of, frame_in}
use Rattle.link_words.proofs.laws.words_are_placed.Goals as goal

ends : (pr : Placed) (n : ℕ) (block : ℕ → ℕ) (k : ℕ) (end : End) (a b : ℕ) → last_of n block (frame_in pr) k end a b ≡ last_words n block pr k end a b
ends pr n block k (Return x) a b = refl
ends pr n block k (Jump to args) a b = refl
ends pr n block k (Branch c x y one other) a b = refl
ends pr n block k (Nonzero x one other) a b = refl
ends pr n block k (Trap kind) a b = refl

pub returns : goal.returns
returns c = record { placed = λ pr. record { opens = refl; closes = refl; ends = ends pr } }
