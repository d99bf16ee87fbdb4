-- Tables over a procedure's values and blocks, as the code makes them.
use Rattle.std.specs.Prelude.{ℕ, suc, ◌==◌, List, [], ◌∷◌, ◌++◌, if◌then◌else◌, slice_index, slice_index_or, slice_set}
use Rattle.block_runs.specs.Blocks.{CodeBlock, successors}
use Rattle.block_runs.specs.Live.{block_makes}

---- Lists of blocks

abbrev pub row_at : List (List ℕ) → ℕ → List ℕ
row_at rows k = slice_index_or rows k []

-- block n joins the lists of these numbers
abbrev pub noted : ℕ → List ℕ → List (List ℕ) → List (List ℕ)
noted n [] rows = rows
noted n (k ∷ ks) rows = noted n ks (slice_set rows k (row_at rows k ++ n ∷ []))

-- each block joins the lists of the numbers that it has, where the first of the blocks is number n
abbrev pub noted_from : (CodeBlock → List ℕ) → ℕ → List CodeBlock → List (List ℕ) → List (List ℕ)
noted_from of n [] rows = rows
noted_from of n (bl ∷ bls) rows = noted_from of (suc n) bls (noted n (of bl) rows)

abbrev pub block_leads : CodeBlock → List ℕ
block_leads bl = successors bl.end

---- Blocks that make values

-- these values are made in block n
abbrev pub made_in : ℕ → List ℕ → List ℕ → List ℕ
made_in n [] makers = makers
made_in n (v ∷ vs) makers = made_in n vs (slice_set makers v n)

-- for each value the block that makes it, where the first of the blocks is number n
abbrev pub makers_from : ℕ → List CodeBlock → List ℕ → List ℕ
makers_from n [] makers = makers
makers_from n (bl ∷ bls) makers = makers_from (suc n) bls (made_in n (block_makes bl) makers)

-- one more than none is one, and one more than that are several, which count as 2
abbrev pub one_more : ℕ → ℕ
one_more n = if n == 0 then 1 else 2

-- one more of each of these values
abbrev pub tallied : List ℕ → List ℕ → List ℕ
tallied [] counts = counts
tallied (v ∷ vs) counts = tallied vs (slice_set counts v (one_more (slice_index counts v)))
