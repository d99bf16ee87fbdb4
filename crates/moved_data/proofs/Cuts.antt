-- The traces of a flow without the places of data.
use Rattle.std.proofs.Common.{◌≡◌, ℕ, zero, suc, Bool, true, cond, List, ◌∷◌, ◌++◌, map, length, Option, Some, None, refl, ap, ◌∙◌}
use Rattle.std.specs.Prelude.{nat_lt, nat_le, ◌==◌, ◌&&◌, ◌||◌, fold, reverse, replicate}
use Rattle.block_runs.specs.Blocks.{successors}
use Rattle.lir_core.specs.declared.flow.Node.{Node}
use Rattle.lir_core.specs.Flows.{node_at}
use Rattle.trace_build.specs.declared.builder.Builder.{Builder}
use Rattle.trace_build.specs.declared.builder.Builder.TheVariants.{Uni, Bi}
use Rattle.trace_build.specs.Traces.{without, without_all, members, is_before, first_of, most_frequent, unassigned, next_of, going_on, grown, above, below, trace_from, if_any, traces_from, traces_of}
use Rattle.moved_data.specs.Alike.{unplaced_node}
use Rattle.moved_data.proofs.Nodes.{map_length, node_same}

module _ (nodes : List Node) where
  abbrev moved : List Node
  moved = map unplaced_node nodes

  freq_same : (n : ℕ) → (node_at moved n).freq ≡ (node_at nodes n).freq
  freq_same n = ap (λ node. node.freq) (node_same nodes n)

  before_same : is_before moved ≡ is_before nodes
  before_same = λ k a b. nat_lt (freq_same b k) (freq_same a k) || (freq_same a k == freq_same b k && nat_le a b)

  first_same : (o : Option ℕ) (n : ℕ) → first_of moved o n ≡ first_of nodes o n
  first_same None n = refl
  first_same (Some m) n = λ k. Some (cond (before_same k m n) m n)

  most_same : (ns : List ℕ) → most_frequent moved ns ≡ most_frequent nodes ns
  most_same ns = λ k. fold (λ o n. first_same o n k) None ns

  -- downward, and upward
  down_same : (free : List Bool) (n : ℕ) → most_frequent moved (unassigned free None (successors (node_at moved n).end)) ≡ most_frequent nodes (unassigned free None (successors (node_at nodes n).end))
  down_same free n =
      ap (λ node. most_frequent moved (unassigned free None (successors node.end))) (node_same nodes n)
      ∙ most_same (unassigned free None (successors (node_at nodes n).end))

  up_same : (free : List Bool) (n : ℕ) → most_frequent moved (unassigned free (node_at moved n).enter (node_at moved n).preds) ≡ most_frequent nodes (unassigned free (node_at nodes n).enter (node_at nodes n).preds)
  up_same free n =
      ap (λ node. most_frequent moved (unassigned free node.enter node.preds)) (node_same nodes n)
      ∙ most_same (unassigned free (node_at nodes n).enter (node_at nodes n).preds)

  going_same : (o : Option ℕ) (f g : ℕ → List ℕ) → ((m : ℕ) → f m ≡ g m) → going_on o f ≡ going_on o g
  going_same None f g e = refl
  going_same (Some m) f g e = ap (λ ms. m ∷ ms) (e m)

  grown_same : (way : _) → ((free : List Bool) (n : ℕ) → next_of way moved free n ≡ next_of way nodes free n) → (k : ℕ) (free : List Bool) (n : ℕ) → grown way moved k free n ≡ grown way nodes k free n
  grown_same way next zero free n = refl
  grown_same way next (suc k) free n =
      ap (λ o. going_on o (λ m. grown way moved k (without free m) m)) (next free n)
      ∙ going_same (next_of way nodes free n) (λ m. grown way moved k (without free m) m) (λ m. grown way nodes k (without free m) m) (λ m. grown_same way next k (without free m) m)

  above_same : (builder : Builder) (free : List Bool) (n : ℕ) → above builder moved free n ≡ above builder nodes free n
  above_same Uni free n = refl
  above_same Bi free n = search (grown_same, up_same)

  below_same : (free : List Bool) (n : ℕ) → below moved free n ≡ below nodes free n
  below_same free n = search (grown_same, down_same)

  from_same : (builder : Builder) (free : List Bool) (seed : ℕ) → trace_from builder moved free seed ≡ trace_from builder nodes free seed
  from_same builder free seed =
      ap (λ ms. reverse ms ++ seed ∷ below moved (without_all free ms) seed) (above_same builder free seed)
      ∙ ap (λ ms. reverse (above builder nodes free seed) ++ seed ∷ ms) (below_same (without_all free (above builder nodes free seed)) seed)

  any_same : (o : Option ℕ) (f g : ℕ → List (List ℕ)) → ((seed : ℕ) → f seed ≡ g seed) → if_any o f ≡ if_any o g
  any_same None f g e = refl
  any_same (Some seed) f g e = e seed

  traces_same : (builder : Builder) (k : ℕ) (free : List Bool) → traces_from builder moved k free ≡ traces_from builder nodes k free
  traces_same builder zero free = refl
  traces_same builder (suc k) free =
      ap (λ o. if_any o (λ seed. trace_from builder moved (without free seed) seed ∷ traces_from builder moved k (without_all free (trace_from builder moved (without free seed) seed)))) (most_same (members free))
      ∙ any_same (most_frequent nodes (members free))
      (λ seed. trace_from builder moved (without free seed) seed ∷ traces_from builder moved k (without_all free (trace_from builder moved (without free seed) seed)))
      (λ seed. trace_from builder nodes (without free seed) seed ∷ traces_from builder nodes k (without_all free (trace_from builder nodes (without free seed) seed)))
      (λ seed.
      ap (λ ms. ms ∷ traces_from builder moved k (without_all free ms)) (from_same builder (without free seed) seed)
      ∙ ap (λ ts. trace_from builder nodes (without free seed) seed ∷ ts) (traces_same builder k (without_all free (trace_from builder nodes (without free seed) seed))))

  pub cut_same : (builder : Builder) → traces_of builder moved ≡ traces_of builder nodes
  cut_same builder = ap (λ k. traces_from builder moved k (replicate k true)) (map_length unplaced_node nodes) ∙ traces_same builder (length nodes) (replicate (length nodes) true)
