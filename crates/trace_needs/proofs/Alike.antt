-- Whatever is live, positions mention the same.
use Rattle.std.proofs.Common.{◌≡◌, ℕ, zero, suc, cond, List, [], ◌∷◌, ◌++◌, map, take, Option, Some, None, refl, sym, ap, ap₂, ◌∙◌}
use Rattle.std.specs.Prelude.{slice_get}
use Rattle.block_runs.specs.Blocks.{end_uses}
use Rattle.block_runs.specs.Live.{has}
use Rattle.lir_core.specs.declared.flow.Node.{Node}
use Rattle.lir_core.specs.declared.flow.Flow.{Flow}
use Rattle.trace_needs.specs.Needs.{Position, at_operation, at_end, in_node, first_of, positions_of, latest_mention, last_mention}
use Rattle.trace_needs.specs.Tables.{mentioned}

parts_join : (xs ys : List Position) → map mentioned (xs ++ ys) ≡ map mentioned xs ++ map mentioned ys
parts_join [] ys = refl
parts_join (x ∷ xs) ys = ap (λ ms. x.mentions ∷ ms) (parts_join xs ys)

latest_alike : (v : ℕ) (ps qs : List Position) (i k : ℕ) (last : Option ℕ) → map mentioned ps ≡ map mentioned qs → latest_mention v i last (take k ps) ≡ latest_mention v i last (take k qs)
latest_alike v [] [] i k last e = refl
latest_alike v [] (q ∷ qs) i k last e = cc
latest_alike v (p ∷ ps) [] i k last e = cc
latest_alike v (p ∷ ps) (q ∷ qs) i zero last e = refl
latest_alike v (p ∷ ps) (q ∷ qs) i (suc k) last e =
    let head : p.mentions ≡ q.mentions = cc in
    let rest : map mentioned ps ≡ map mentioned qs = cc in
    ap (λ ms. latest_mention v (suc i) (cond (has ms v) (Some i) last) (take k ps)) head ∙ latest_alike v ps qs (suc i) k (cond (has q.mentions v) (Some i) last) rest

module _ (f : Flow) (rows others : List (List ℕ)) where
  node_alike : (next : Option ℕ) (o : Option Node) → map mentioned (in_node f.values rows next o) ≡ map mentioned (in_node f.values others next o)
  node_alike next None = refl
  node_alike next (Some node) = ap (λ ms. node.params ∷ ms) (parts_join (map at_operation node.lirs) (at_end f.values rows next node ∷ []) ∙ sym (parts_join (map at_operation node.lirs) (at_end f.values others next node ∷ [])))

  positions_alike : (ns : List ℕ) → map mentioned (positions_of f rows ns) ≡ map mentioned (positions_of f others ns)
  positions_alike [] = refl
  positions_alike (n ∷ ns) =
      parts_join (in_node f.values rows (first_of ns) (slice_get f.nodes n)) (positions_of f rows ns)
      ∙ ap₂ (λ xs ys. xs ++ ys) (node_alike (first_of ns) (slice_get f.nodes n)) (positions_alike ns)
      ∙ sym (parts_join (in_node f.values others (first_of ns) (slice_get f.nodes n)) (positions_of f others ns))

  pub mentions_alike : (ns : List ℕ) (v before : ℕ) → last_mention (positions_of f rows ns) v before ≡ last_mention (positions_of f others ns) v before
  mentions_alike ns v before = latest_alike v (positions_of f rows ns) (positions_of f others ns) 0 before None (positions_alike ns)
