-- Each node is in exactly one trace, and traces are paths.
use Rattle.std.proofs.Common.{◌≡◌, ℕ, zero, suc, ◌+◌, ◌<◌, ◌≤◌, Bool, true, false, List, [], ◌∷◌, ◌++◌, length, reverse, replicate, refl, sym, ap, ◌∙◌, subst, arith, inl, inr, ◌⊎◌, Option, Some, None, append_assoc, length-append}
use Rattle.std.specs.Prelude.{nat_lt}
use Rattle.std.specs.List.{list_all}
use Rattle.std.proofs.lemmas.List.{get_or-map, get_or_past, get_or-replicate, length-replicate, length-map}
use Rattle.std.proofs.lemmas.List.Sums.{count_by-le-length}
use Rattle.std.proofs.lemmas.Option.{slice_get-get_or}
use Rattle.std.proofs.lemmas.Bool.{cases_lt, lt-ltb, and_from}
use Rattle.block_runs.specs.Blocks.{CodeBlock, block_at, no_block, successors}
use Rattle.block_runs.specs.Live.{has}
use Rattle.block_runs.specs.Valid.{times}
use Rattle.lir_core.specs.declared.flow.Node.{Node}
use Rattle.lir_core.specs.declared.flow.Flow.{Flow}
use Rattle.lir_core.specs.Flows.{code_node, code_nodes, leads, IsPath, IsTrace, IsValidFlow, no_node, node_at}
use Rattle.global_live.proofs.Lists.{has_head, has_back, times-append, times_of_in}
use Rattle.global_live.proofs.Tables.{leads_there, has-preds_of}
use Rattle.trace_build.specs.declared.builder.Builder.{Builder}
use Rattle.trace_build.specs.declared.builder.Builder.TheVariants.{Uni, Bi}
use Rattle.trace_build.specs.declared.growing.Direction.TheVariants.{Up, Down}
use Rattle.trace_build.specs.Traces.{is_in, members, without, without_all, size, most_frequent, unassigned, next_of, going_on, grown, above, below, trace_from, if_any, traces_from, traces_of}
use Rattle.trace_build.specs.Cuts.{all_nodes, AllTraces, IsPartition}
use Rattle.trace_build.proofs.Sets.{in_range, size_falls, in_none, without_all-append, without_trace, times-reverse, reverse-first, AreDrawn, one, drawn_once, drawn-append, different, length-without_all}
use Rattle.trace_build.proofs.First.{most_frequent_in, none_of, unassigned_in, has-members}
use Rattle.trace_build.proofs.Grown.{grown_drawn, above_drawn}

module _ (builder : Builder) (nodes : List Node) where
  -- what stands above and below the node that begins a trace
  abbrev up : List Bool → ℕ → List ℕ
  up free seed = above builder nodes (without free seed) seed

  abbrev down : List Bool → ℕ → List ℕ
  down free seed = below nodes (without_all (without free seed) (up free seed)) seed

  abbrev made : List Bool → ℕ → List ℕ
  made free seed = trace_from builder nodes (without free seed) seed

  pub seed_in : (free : List Bool) (seed : ℕ) → has (made free seed) seed ≡ true
  seed_in free seed = has_back (reverse (up free seed)) (seed ∷ down free seed) seed (has_head seed (down free seed))

  pub trace_once : (free : List Bool) (seed m : ℕ) → is_in free seed ≡ true → times (made free seed) m + one (is_in (without_all free (made free seed)) m) ≡ one (is_in free m)
  trace_once free seed m h =
      let u = up free seed in
      let d = down free seed in
      let drawn : AreDrawn free (seed ∷ (u ++ d)) = (h, drawn-append (without free seed) u d (above_drawn builder nodes (without free seed) seed) (grown_drawn Down nodes _ (without_all (without free seed) u) seed)) in
      let a = drawn_once free (seed ∷ (u ++ d)) m drawn in
      let b : one (is_in (without_all (without free seed) (u ++ d)) m) ≡ one (is_in (without_all free (made free seed)) m) = ap (λ s. one (is_in s m)) (without_all-append (without free seed) u d ∙ without_trace free seed u d) in
      let t1 = times-append (reverse u) (seed ∷ d) m in
      let t2 = times-append (seed ∷ []) d m in
      let t3 = times-append (seed ∷ []) (u ++ d) m in
      let t4 = times-append u d m in
      let t5 = times-reverse u m in
      omega (arith, a, b, t1, t2, t3, t4, t5)

  pub seed_of : (free : List Bool) (seed : ℕ) → most_frequent nodes (members free) ≡ Some seed → is_in free seed ≡ true
  seed_of free seed e = sym (has-members free seed) ∙ most_frequent_in nodes (members free) seed e

  pub traces_once : (k : ℕ) (free : List Bool) (m : ℕ) → size free ≤ k → times (all_nodes (traces_from builder nodes k free)) m ≡ one (is_in free m)
  traces_once zero free m le = ap one (sym (in_none free m (omega arith)))
  traces_once (suc k) free m le = by (most_frequent nodes (members free)) refl (λ t. traces_once k (without_all free t) m)
    where
      by : (o : Option ℕ) → most_frequent nodes (members free) ≡ o → ((t : List ℕ) → size (without_all free t) ≤ k → times (all_nodes (traces_from builder nodes k (without_all free t))) m ≡ one (is_in (without_all free t) m)) → times (all_nodes (if_any o (λ seed. made free seed ∷ traces_from builder nodes k (without_all free (made free seed))))) m ≡ one (is_in free m)
      by None e on = ap one (sym (sym (has-members free m) ∙ none_of nodes (members free) m e))
      by (Some seed) e on =
          let h = seed_of free seed e in
          let t = made free seed in
          let a = times-append t (all_nodes (traces_from builder nodes k (without_all free t))) m in
          let b = size_falls free t seed (seed_in free seed) h in
          let c = on t (omega (arith, b)) in
          let d = trace_once free seed m h in
          omega (arith, a, c, d)

  pub all_once : (f : Flow) → f.nodes ≡ nodes → IsPartition f (traces_of builder nodes)
  all_once f same n lt =
      let l : length f.nodes ≡ length nodes = ap length same in
      let lt' : n < length nodes = omega (arith, l) in
      let a = count_by-le-length (λ b. b) (replicate (length nodes) true) in
      let b = length-replicate (length nodes) true in
      traces_once (length nodes) (replicate (length nodes) true) n (omega (arith, a, b)) ∙ ap one (get_or-replicate (length nodes) n true false lt')

---- Paths

all_from_has : (k : ℕ) (xs : List ℕ) → ((m : ℕ) → has xs m ≡ true → m < k) → list_all (λ n. nat_lt n k) xs ≡ true
all_from_has k [] h = refl
all_from_has k (x ∷ xs) h = and_from (nat_lt x k) _ (lt-ltb x k (h x (has_head x xs))) (all_from_has k xs (λ m g. h m (has_back (x ∷ []) xs m g)))

end_same : (nodes : List Node) (n : ℕ) → (block_at (code_nodes nodes) n).end ≡ (node_at nodes n).end
end_same nodes n = by (cases_lt n (length nodes))
  where
    by : ◌⊎◌ (n < length nodes) (length nodes ≤ n) → (block_at (code_nodes nodes) n).end ≡ (node_at nodes n).end
    by (inl lt) = ap (λ (bl : CodeBlock). bl.end) (get_or-map code_node nodes n no_node no_block lt)
    by (inr le) =
        let l = length-map nodes code_node in
        ap (λ (bl : CodeBlock). bl.end) (get_or_past (code_nodes nodes) n no_block (omega (arith, l))) ∙ sym (ap (λ (x : Node). x.end) (get_or_past nodes n no_node le))

-- an edge leads to each node from the next
abbrev Climbs : List CodeBlock → ℕ → List ℕ → Type 0
Climbs bls n [] = Unit {0}
Climbs bls n (p ∷ ps) = (leads bls n p ≡ true) × Climbs bls p ps

climb_path : (bls : List CodeBlock) (up : List ℕ) (n : ℕ) (rest : List ℕ) → Climbs bls n up → IsPath bls (n ∷ rest) → IsPath bls (reverse up ++ n ∷ rest)
climb_path bls [] n rest c path = path
climb_path bls (p ∷ ps) n rest c path =
    subst (IsPath bls) (sym (ap (λ l. l ++ n ∷ rest) (reverse-first p ps) ∙ append_assoc (reverse ps) (p ∷ []) (n ∷ rest)))
    (climb_path bls ps p (n ∷ rest) c.1 (c.0, path))

down_path : (nodes : List Node) (k : ℕ) (free : List Bool) (n : ℕ) → IsPath (code_nodes nodes) (n ∷ grown Down nodes k free n)
down_path nodes zero free n = tt
down_path nodes (suc k) free n = by (next_of Down nodes free n) refl (λ m. down_path nodes k (without free m) m)
  where
    by : (o : Option ℕ) → next_of Down nodes free n ≡ o → ((m : ℕ) → IsPath (code_nodes nodes) (m ∷ grown Down nodes k (without free m) m)) → IsPath (code_nodes nodes) (n ∷ going_on o (λ m. grown Down nodes k (without free m) m))
    by None e on = tt
    by (Some m) e on = (ap (λ x. has (successors x) m) (end_same nodes n) ∙ (unassigned_in free None (successors (node_at nodes n).end) m (most_frequent_in nodes (unassigned free None (successors (node_at nodes n).end)) m e)).1, on m)

module _ (f : Flow) (valid : IsValidFlow f) where
  up_climbs : (k : ℕ) (free : List Bool) (n : ℕ) → n < length f.nodes → Climbs (code_nodes f.nodes) n (grown Up f.nodes k free n)
  up_climbs zero free n lt = tt
  up_climbs (suc k) free n lt = by (next_of Up f.nodes free n) refl (λ m. up_climbs k (without free m) m)
    where
      by : (o : Option ℕ) → next_of Up f.nodes free n ≡ o → ((m : ℕ) → m < length f.nodes → Climbs (code_nodes f.nodes) m (grown Up f.nodes k (without free m) m)) → Climbs (code_nodes f.nodes) n (going_on o (λ m. grown Up f.nodes k (without free m) m))
      by None e on = tt
      by (Some m) e on =
          let h : has (node_at f.nodes n).preds m ≡ true = (unassigned_in free (node_at f.nodes n).enter (node_at f.nodes n).preds m (most_frequent_in f.nodes (unassigned free (node_at f.nodes n).enter (node_at f.nodes n).preds) m e)).1 in
          let ps = valid.preds n (node_at f.nodes n) (slice_get-get_or f.nodes n no_node lt) in
          let edge : leads (code_nodes f.nodes) n m ≡ true = sym (has-preds_of (code_nodes f.nodes) n m) ∙ ap (λ xs. has xs m) (sym ps) ∙ h in
          let l = length-map f.nodes code_node in
          let there = leads_there (code_nodes f.nodes) n m edge in
          (edge, on m (omega (arith, l, there)))

  above_climbs : (builder : Builder) (free : List Bool) (n : ℕ) → n < length f.nodes → Climbs (code_nodes f.nodes) n (above builder f.nodes free n)
  above_climbs Uni free n lt = tt
  above_climbs Bi free n lt = up_climbs (size free) free n lt

  module _ (builder : Builder) where
    is_trace : (free : List Bool) (seed : ℕ) → length free ≡ length f.nodes → is_in free seed ≡ true → IsTrace (code_nodes f.nodes) (made builder f.nodes free seed)
    is_trace free seed size_is h = record {
      some = let a = length-append (reverse (up builder f.nodes free seed)) (seed ∷ down builder f.nodes free seed) in omega (arith, a);
      nodes = all_from_has (length (code_nodes f.nodes)) (made builder f.nodes free seed) (λ m g. inside m (times_of_in (made builder f.nodes free seed) m g) (trace_once builder f.nodes free seed m h) (is_in free m) refl);
      path = climb_path (code_nodes f.nodes) (up builder f.nodes free seed) seed (down builder f.nodes free seed) (above_climbs builder (without free seed) seed there) (down_path f.nodes _ _ seed);
      different = different (made builder f.nodes free seed) (λ m. most m (is_in free m) refl (trace_once builder f.nodes free seed m h));
    }
      where
        there : seed < length f.nodes
        there = let a = in_range free seed h in omega (arith, a, size_is)

        inside : (m : ℕ) → 0 < times (made builder f.nodes free seed) m → times (made builder f.nodes free seed) m + one (is_in (without_all free (made builder f.nodes free seed)) m) ≡ one (is_in free m) → (b : Bool) → is_in free m ≡ b → m < length (code_nodes f.nodes)
        inside m some once true e = let a = in_range free m e in let l = length-map f.nodes code_node in omega (arith, a, l, size_is)
        inside m some once false e = let z : one (is_in free m) ≡ 0 = ap one e in absurd (omega (arith, z, once, some))

        most : (m : ℕ) (b : Bool) → is_in free m ≡ b → times (made builder f.nodes free seed) m + one (is_in (without_all free (made builder f.nodes free seed)) m) ≡ one (is_in free m) → times (made builder f.nodes free seed) m ≤ 1
        most m true e once = let z : one (is_in free m) ≡ 1 = ap one e in omega (arith, z, once)
        most m false e once = let z : one (is_in free m) ≡ 0 = ap one e in omega (arith, z, once)

    pub all_traces : (k : ℕ) (free : List Bool) → length free ≡ length f.nodes → AllTraces f (traces_from builder f.nodes k free)
    all_traces zero free size_is = tt
    all_traces (suc k) free size_is = by (most_frequent f.nodes (members free)) refl (λ t. all_traces k (without_all free t))
      where
        by : (o : Option ℕ) → most_frequent f.nodes (members free) ≡ o → ((t : List ℕ) → length (without_all free t) ≡ length f.nodes → AllTraces f (traces_from builder f.nodes k (without_all free t))) → AllTraces f (if_any o (λ seed. made builder f.nodes free seed ∷ traces_from builder f.nodes k (without_all free (made builder f.nodes free seed))))
        by None e on = tt
        by (Some seed) e on = (is_trace free seed size_is (seed_of builder f.nodes free seed e), on (made builder f.nodes free seed) (length-without_all free (made builder f.nodes free seed) ∙ size_is))
