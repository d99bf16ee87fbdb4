-- Stamps, and the order in which a block reads and makes values.
use Rattle.std.specs.Prelude.{ℕ, suc, ◌==◌, List, [], ◌∷◌, Bool, true, false, not, cond, nat_lt, length, ◌&&◌, Option, Some, None, slice_index_or, slice_set}
use Rattle.block_runs.specs.Blocks.{Operation, CodeBlock}

-- the last stamp of number k is s
abbrev pub is_last : ℕ → Option ℕ → Bool
is_last s None = false
is_last s (Some t) = t == s

abbrev pub is_stamped : List (Option ℕ) → ℕ → ℕ → Bool
is_stamped stamps k s = is_last s (slice_index_or stamps k None)

abbrev pub stamped : List (Option ℕ) → ℕ → ℕ → List (Option ℕ)
stamped stamps k s = slice_set stamps k (Some s)

abbrev pub all_stamped : List (Option ℕ) → List ℕ → ℕ → List (Option ℕ)
all_stamped stamps [] s = stamps
all_stamped stamps (k ∷ ks) s = all_stamped (stamped stamps k s) ks s

-- there is a number k, and its last stamp isn't s
abbrev pub is_new : List (Option ℕ) → ℕ → ℕ → Bool
is_new stamps k s = nat_lt k (length stamps) && not (is_stamped stamps k s)

abbrev pub joined : List (Option ℕ) → ℕ → ℕ → List (Option ℕ)
joined stamps k s = cond (is_new stamps k s) (stamped stamps k s) stamps

-- what an operation makes, if anything, has no stamp s
abbrev pub is_fresh : List (Option ℕ) → Option ℕ → ℕ → Bool
is_fresh stamps None s = true
is_fresh stamps (Some v) s = not (is_stamped stamps v s)

-- the stamps behind operations of block n, each of which stamps what it reads
abbrev pub read_by : List (Option ℕ) → List Operation → ℕ → List (Option ℕ)
read_by stamps [] n = stamps
read_by stamps (op ∷ ops) n = read_by (all_stamped stamps op.uses n) ops n

-- no operation makes what it or one before it has read
abbrev pub in_order : List (Option ℕ) → List Operation → ℕ → Bool
in_order stamps [] n = true
in_order stamps (op ∷ ops) n = is_fresh (all_stamped stamps op.uses n) op.def n && in_order (all_stamped stamps op.uses n) ops n

abbrev pub all_in_order : List (Option ℕ) → List CodeBlock → ℕ → Bool
all_in_order stamps [] n = true
all_in_order stamps (bl ∷ bls) n = in_order stamps bl.ops n && all_in_order (read_by stamps bl.ops n) bls (suc n)
