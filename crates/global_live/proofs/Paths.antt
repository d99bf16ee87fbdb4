-- Being live, and paths.
use Rattle.std.proofs.Common.{◌≡◌, ℕ, List, [], ◌∷◌, ap, ◌∙◌}
use Rattle.std.proofs.lemmas.Option.{get_or_from_slice_get, slice_get-get_or, slice_get_within}
use Rattle.block_runs.specs.Blocks.{CodeBlock, block_at, no_block, successors}
use Rattle.block_runs.specs.Live.{has, block_makes, reads, Live}
use Rattle.block_runs.specs.Live.Live.{Here, Later}
use Rattle.global_live.specs.Reading.{IsReadAlong}

module _ (bls : List CodeBlock) (v : ℕ) where
  pub read_along : {n : ℕ} → Live bls v n → (path : List ℕ) × IsReadAlong bls v n path
  read_along (Here b bl e p r) =
      let at : block_at bls b ≡ bl = get_or_from_slice_get bls b bl no_block e in
      ([], record { there = slice_get_within bls b bl e; no_param = ap (λ x. has x.params v) at ∙ p; read = ap (λ x. reads x.ops x.end v) at ∙ r })
  read_along (Later b to bl e unmade edge l) =
      let at : block_at bls b ≡ bl = get_or_from_slice_get bls b bl no_block e in
      let r = read_along l in
      (to ∷ r.0, (record { there = slice_get_within bls b bl e; unmade = ap (λ x. has (block_makes x) v) at ∙ unmade; edge = ap (λ x. has (successors x.end) to) at ∙ edge }, r.1))

  pub live_along : (path : List ℕ) (n : ℕ) → IsReadAlong bls v n path → Live bls v n
  live_along [] n h = Here n (block_at bls n) (slice_get-get_or bls n no_block h.there) h.no_param h.read
  live_along (m ∷ ms) n h = Later n m (block_at bls n) (slice_get-get_or bls n no_block h.0.there) h.0.unmade h.0.edge (live_along ms m h.1)
