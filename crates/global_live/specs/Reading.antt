-- What is live: rows that have exactly that, and paths on which a value is read.
use Rattle.std.specs.Prelude.{◌≡◌, ℕ, true, false, List, [], ◌∷◌, ◌<◌, length}
use Rattle.block_runs.specs.Blocks.{CodeBlock, block_at}
use Rattle.block_runs.specs.Live.{has, block_makes, reads, Live}
use Rattle.lir_core.specs.declared.flow.Flow.{Flow}
use Rattle.lir_core.specs.Flows.{code_nodes, leads}
use Rattle.lir_core.specs.Rows.{has_bit}

-- a node reads a value before it makes it
pub record ReadsFirst (bls : List CodeBlock) (v n : ℕ) : Type 0 where
  pub there : n < length bls
  pub no_param : has (block_at bls n).params v ≡ false
  pub read : reads (block_at bls n).ops (block_at bls n).end v ≡ true

-- a node doesn't make a value, and an edge leads from it to the next
pub record PassesOn (bls : List CodeBlock) (v n next : ℕ) : Type 0 where
  pub there : n < length bls
  pub unmade : has (block_makes (block_at bls n)) v ≡ false
  pub edge : leads bls next n ≡ true

-- along a path from n on, no node makes the value but perhaps the last, which reads it before
abbrev pub IsReadAlong : List CodeBlock → ℕ → ℕ → List ℕ → Type 0
IsReadAlong bls v n [] = ReadsFirst bls v n
IsReadAlong bls v n (m ∷ ms) = PassesOn bls v n m × IsReadAlong bls v m ms

-- rows have exactly what is live into each node
pub record HasLive (f : Flow) (rows : List (List ℕ)) : Type 0 where
  pub exact : (n v : ℕ) → has_bit rows n v ≡ true → Live (code_nodes f.nodes) v n
  pub whole : (n v : ℕ) → Live (code_nodes f.nodes) v n → has_bit rows n v ≡ true
