-- What blocks read before they make it.
use Rattle.std.proofs.Common.{◌≡◌, ℕ, ◌<◌, ◌≤◌, Bool, true, false, List, length, refl, ap, ◌∙◌, inl, inr, ◌⊎◌}
use Rattle.std.proofs.lemmas.List.{get_or_past}
use Rattle.std.proofs.lemmas.Option.{get_or_from_slice_get, slice_get-get_or}
use Rattle.std.proofs.lemmas.Bool.{cases_lt}
use Rattle.block_runs.specs.Blocks.{CodeBlock, block_at, no_block, successors}
use Rattle.block_runs.specs.Live.{has, block_makes, defs_of, reads, Live}
use Rattle.block_runs.specs.Live.Live.{Here, Later}
use Rattle.block_runs.specs.Valid.{block_reads}
use Rattle.global_live.proofs.Lists.{not_in_front, not_in_back}
use Rattle.ssa_valid.specs.Search.{makes, reads_in, leads}
use Rattle.global_live.proofs.Filled.{reads_unmade}
use Rattle.global_live.proofs.Filled.{reads_listed}

-- a block that makes, reads or leads is there
pub there : (p : CodeBlock → Bool) (bls : List CodeBlock) (n : ℕ) → p no_block ≡ false → p (block_at bls n) ≡ true → n < length bls
there p bls n none h = by (cases_lt n (length bls))
  where
    by : ◌⊎◌ (n < length bls) (length bls ≤ n) → n < length bls
    by (inl lt) = lt
    by (inr le) = let a : p (block_at bls n) ≡ false = ap p (get_or_past bls n no_block le) ∙ none in cc

module _ (bls : List CodeBlock) (v : ℕ) where
  -- what a block reads and doesn't make is live into it
  pub live_here : (n : ℕ) → reads_in bls n v ≡ true → makes bls n v ≡ false → Live bls v n
  live_here n r u =
      let bl = block_at bls n in
      let lt = there (λ x. has (block_reads x) v) bls n refl r in
      Here n bl (slice_get-get_or bls n no_block lt) (not_in_front bl.params (defs_of bl.ops) v u) (reads_unmade bl.ops bl.end v r (not_in_back bl.params (defs_of bl.ops) v u))

  pub live_before : (m n : ℕ) → leads bls m n ≡ true → makes bls n v ≡ false → Live bls v m → Live bls v n
  live_before m n edge u l = Later n m (block_at bls n) (slice_get-get_or bls n no_block (there (λ x. has (successors x.end) m) bls n refl edge)) u edge l

  -- blocks that have all that a block reads and doesn't make, and all before them, have all into which the value is live
  module _ (within : ℕ → Type 0) (own : (n : ℕ) → makes bls n v ≡ true → Live bls v n → ⊥) (here : (n : ℕ) → reads_in bls n v ≡ true → makes bls n v ≡ false → within n) (before : (m n : ℕ) → within m → leads bls m n ≡ true → makes bls n v ≡ false → within n) where
    pub whole : {n : ℕ} → Live bls v n → within n
    whole (Here b bl e p r) =
        let at : block_at bls b ≡ bl = get_or_from_slice_get bls b bl no_block e in
        here b (ap (λ x. has (block_reads x) v) at ∙ reads_listed bl.ops bl.end v r) (unmade (makes bls b v) refl)
      where
        unmade : (m : Bool) → makes bls b v ≡ m → makes bls b v ≡ false
        unmade true m = absurd (own b m (Here b bl e p r))
        unmade false m = m
    whole (Later b to bl e u edge l) =
        let at : block_at bls b ≡ bl = get_or_from_slice_get bls b bl no_block e in
        before to b (whole l) (ap (λ x. has (successors x.end) to) at ∙ edge) (ap (λ x. has (block_makes x) v) at ∙ u)
