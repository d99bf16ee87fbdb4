-- What the ends of blocks alone tell.
use Rattle.std.proofs.Common.{◌≡◌, ℕ, List, map, length, ap, ◌∙◌, sym}
use Rattle.std.specs.Prelude.{filter, None, slice_index_or}
use Rattle.run_laws.specs.Layers.{places_from}
use Rattle.block_runs.specs.declared.end.End.{End}
use Rattle.block_runs.specs.declared.end.End.TheVariants.{Return}
use Rattle.block_runs.specs.Blocks.{CodeBlock, no_block, block_at, successors}
use Rattle.block_runs.specs.Live.{has}
use Rattle.lir_core.specs.Flows.{leads, preds_of, has_several}
use Rattle.a64_select.specs.Selected.{joins_of}
use Rattle.moved_data.proofs.Nodes.{map_index, map_length}

abbrev pub end_of : CodeBlock → End
end_of bl = bl.end

abbrev pub ends_of : List CodeBlock → List End
ends_of bls = map end_of bls

module _ (these those : List CodeBlock) (same : ends_of these ≡ ends_of those) where
  end_at : (b : ℕ) → (block_at these b).end ≡ (block_at those b).end
  end_at b = sym (map_index end_of these b no_block) ∙ (ap (λ es. slice_index_or es b (Return None)) same ∙ map_index end_of those b no_block)

  leads_same : leads these ≡ leads those
  leads_same = λ k to b. has (successors (end_at b k)) to

  many : length these ≡ length those
  many = sym (map_length end_of these) ∙ (ap length same ∙ map_length end_of those)

  pub preds_by_ends : preds_of these ≡ preds_of those
  preds_by_ends = λ k to. filter (leads_same k to) (places_from 0 (many k))

  pub joins_by_ends : joins_of these ≡ joins_of those
  joins_by_ends = λ k. map (λ to. has_several (preds_by_ends k to)) (places_from 0 (many k))
