-- How many words the parts of placed procedures have at least.
use Rattle.std.proofs.Common.{ℕ, ◌<◌, ◌≤◌, arith}
use Rattle.block_runs.specs.declared.code.Code.{Code}
use Rattle.block_runs.specs.declared.end.End.{End}
use Rattle.block_runs.specs.declared.end.End.TheVariants.{Return, Jump, Branch, Nonzero, Trap}
use Rattle.placed_code.specs.Placed.{Placed}
use Rattle.placed_code.specs.Layout.{op_width, last_width, proc_width}
use Rattle.placed_code.proofs.Operations.{some_words as some_words_of}
use Rattle.placed_code.proofs.Rising.{wide}
use Rattle.link_words.specs.Frames.{width_of_end}

-- a branch's words are the end's
pub branch_within : (n : ℕ) (pr : Placed) (end : End) → width_of_end n end ≤ last_width n pr end
branch_within n pr (Return x) = omega arith
branch_within n pr (Jump to args) = omega arith
branch_within n pr (Branch c x y one other) = omega arith
branch_within n pr (Nonzero x one other) = omega arith
branch_within n pr (Trap kind) = omega arith

-- an operation has a word
pub some_word : (slots : ℕ) (code : Code) → 0 < op_width slots code
some_word slots code = some_words_of (λ p. 0) 0 slots 0 code 0 0 0 0

-- a procedure has words
pub some_words : (p : ℕ) (pr : Placed) → 0 < proc_width p pr
some_words p pr = let a = wide p pr in omega (arith, a)
