-- How traces grow.
use Rattle.std.proofs.Common.{◌≡◌, ℕ, zero, suc, Bool, true, List, [], ◌∷◌, ◌++◌, reverse, refl, sym, ap, ◌∙◌, Option, Some, None, append_assoc}
use Rattle.std.proofs.lemmas.List.{append-nil}
use Rattle.block_runs.specs.Blocks.{successors}
use Rattle.lir_core.specs.declared.flow.Node.{Node}
use Rattle.lir_core.specs.Flows.{node_at}
use Rattle.trace_build.specs.declared.builder.Builder.{Builder}
use Rattle.trace_build.specs.declared.builder.Builder.TheVariants.{Uni, Bi}
use Rattle.trace_build.specs.declared.growing.Direction.{Direction}
use Rattle.trace_build.specs.declared.growing.Direction.TheVariants.{Up, Down}
use Rattle.trace_build.specs.Traces.{is_in, without, without_all, size, unassigned, next_of, going_on, grown, above, below, trace_from}
use Rattle.trace_build.proofs.Sets.{size-without, without_trace, AreDrawn}
use Rattle.trace_build.proofs.First.{most_frequent_in, unassigned_in}

module _ (way : Direction) (nodes : List Node) where
  pub grown-next : (free : List Bool) (n m : ℕ) → next_of way nodes free n ≡ Some m → is_in free m ≡ true → grown way nodes (size free) free n ≡ m ∷ grown way nodes (size (without free m)) (without free m) m
  grown-next free n m e h = ap (λ k. grown way nodes k free n) (size-without free m h) ∙ ap (λ o. going_on o (λ m'. grown way nodes (size (without free m)) (without free m') m')) e

  pub grown-none : (k : ℕ) (free : List Bool) (n : ℕ) → next_of way nodes free n ≡ None → grown way nodes k free n ≡ []
  grown-none zero free n e = refl
  grown-none (suc k) free n e = ap (λ o. going_on o (λ m. grown way nodes k (without free m) m)) e

-- the next node is unassigned
pub next_in : (way : Direction) (nodes : List Node) (free : List Bool) (n m : ℕ) → next_of way nodes free n ≡ Some m → is_in free m ≡ true
next_in Down nodes free n m e = (unassigned_in free None (successors (node_at nodes n).end) m (most_frequent_in nodes (unassigned free None (successors (node_at nodes n).end)) m e)).0
next_in Up nodes free n m e = (unassigned_in free (node_at nodes n).enter (node_at nodes n).preds m (most_frequent_in nodes (unassigned free (node_at nodes n).enter (node_at nodes n).preds) m e)).0

pub grown_drawn : (way : Direction) (nodes : List Node) (k : ℕ) (free : List Bool) (n : ℕ) → AreDrawn free (grown way nodes k free n)
grown_drawn way nodes zero free n = tt
grown_drawn way nodes (suc k) free n = by (next_of way nodes free n) refl (λ m. grown_drawn way nodes k (without free m) m)
  where
    by : (o : Option ℕ) → next_of way nodes free n ≡ o → ((m : ℕ) → AreDrawn (without free m) (grown way nodes k (without free m) m)) → AreDrawn free (going_on o (λ m. grown way nodes k (without free m) m))
    by None e on = tt
    by (Some m) e on = (next_in way nodes free n m e, on m)

pub above_drawn : (builder : Builder) (nodes : List Node) (free : List Bool) (n : ℕ) → AreDrawn free (above builder nodes free n)
above_drawn Uni nodes free n = tt
above_drawn Bi nodes free n = grown_drawn Up nodes (size free) free n

---- The loop

-- a trace has grown so far, and would grow to the same
pub record Grows (way : Direction) (nodes : List Node) (free : List Bool) (trace : List ℕ) (n : ℕ) (free' : List Bool) (trace' : List ℕ) (n' : ℕ) : Type 0 where
  pub trace_is : trace' ++ grown way nodes (size free') free' n' ≡ trace ++ grown way nodes (size free) free n
  pub free_is : without_all free' (grown way nodes (size free') free' n') ≡ without_all free (grown way nodes (size free) free n)

pub grows_on : (way : Direction) (nodes : List Node) (free : List Bool) (trace : List ℕ) (n : ℕ) (free' : List Bool) (trace' : List ℕ) (n' m : ℕ) (trace'' : List ℕ) → Grows way nodes free trace n free' trace' n' → next_of way nodes free' n' ≡ Some m → is_in free' m ≡ true → trace'' ≡ trace' ++ m ∷ [] → Grows way nodes free trace n (without free' m) trace'' m
grows_on way nodes free trace n free' trace' n' m trace'' g e h is =
    let rest = grown way nodes (size (without free' m)) (without free' m) m in
    let a : grown way nodes (size free') free' n' ≡ m ∷ rest = grown-next way nodes free' n' m e h in
    record {
      trace_is = ap (λ t. t ++ rest) is ∙ append_assoc trace' (m ∷ []) rest ∙ ap (λ t. trace' ++ t) (sym a) ∙ g.trace_is;
      free_is = sym (ap (without_all free') a) ∙ g.free_is;
    }

pub grows_done : (way : Direction) (nodes : List Node) (free : List Bool) (trace : List ℕ) (n : ℕ) (free' : List Bool) (trace' : List ℕ) (n' : ℕ) → Grows way nodes free trace n free' trace' n' → next_of way nodes free' n' ≡ None → (trace' ≡ trace ++ grown way nodes (size free) free n) × (free' ≡ without_all free (grown way nodes (size free) free n))
grows_done way nodes free trace n free' trace' n' g e =
    let a : grown way nodes (size free') free' n' ≡ [] = grown-none way nodes (size free') free' n' e in
    (sym (append-nil trace') ∙ ap (λ t. trace' ++ t) (sym a) ∙ g.trace_is, sym (ap (without_all free') a) ∙ g.free_is)

-- a trace that grew upward, was turned, got the node that begins it, and grew downward
pub traced : (builder : Builder) (nodes : List Node) (free : List Bool) (seed : ℕ) (turned : List ℕ) (free1 : List Bool) (more t : List ℕ) (free2 : List Bool) → turned ≡ reverse (above builder nodes (without free seed) seed) → free1 ≡ without_all (without free seed) (above builder nodes (without free seed) seed) → more ≡ turned ++ seed ∷ [] → t ≡ more ++ grown Down nodes (size free1) free1 seed → free2 ≡ without_all free1 (grown Down nodes (size free1) free1 seed) → (t ≡ trace_from builder nodes (without free seed) seed) × (free2 ≡ without_all free t)
traced builder nodes free seed turned free1 more t free2 a b c d e = (t_is, free_is)
  where
    same : grown Down nodes (size free1) free1 seed ≡ below nodes (without_all (without free seed) (above builder nodes (without free seed) seed)) seed
    same = ap (λ s. grown Down nodes (size s) s seed) b

    t_is : t ≡ trace_from builder nodes (without free seed) seed
    t_is =
        d ∙ ap (λ xs. xs ++ grown Down nodes (size free1) free1 seed) (c ∙ ap (λ xs. xs ++ seed ∷ []) a)
        ∙ append_assoc (reverse (above builder nodes (without free seed) seed)) (seed ∷ []) (grown Down nodes (size free1) free1 seed)
        ∙ ap (λ xs. reverse (above builder nodes (without free seed) seed) ++ seed ∷ xs) same

    free_is : free2 ≡ without_all free t
    free_is =
        e ∙ ap (λ s. without_all s (grown Down nodes (size free1) free1 seed)) b
        ∙ ap (without_all (without_all (without free seed) (above builder nodes (without free seed) seed))) same
        ∙ without_trace free seed (above builder nodes (without free seed) seed) (below nodes (without_all (without free seed) (above builder nodes (without free seed) seed)) seed)
        ∙ ap (without_all free) (sym t_is)
