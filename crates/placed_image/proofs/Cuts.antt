-- While flows are cut into traces.
use Rattle.std.proofs.Common.{◌≡◌, ℕ, ◌+◌, ◌<◌, ◌≤◌, List, [], ◌∷◌, ◌++◌, length, drop, get_or, sym, ap, ◌∙◌, subst, append_assoc, arith}
use Rattle.std.proofs.lemmas.List.{drop_more, drop_all, length-map, append-nil}
use Rattle.lir_core.specs.declared.flow.Flow.{Flow}
use Rattle.lir_core.specs.declared.flow.Trace.{Trace}
use Rattle.trace_build.specs.declared.builder.Builder.{Builder}
use Rattle.trace_build.specs.Traces.{traces_of, traces_in}
use Rattle.trace_build.specs.Cuts.{lists_of}
use Rattle.placed_image.specs.Cutting.{IsCutBy, AreCutBy}

-- lists for the flows that are left make lists for all
abbrev pub IsFront : Builder → List Flow → ℕ → List (List Trace) → Type 0
IsFront builder fs i done = (rest : List (List Trace)) → AreCutBy builder (drop i fs) rest → AreCutBy builder fs (done ++ rest)

-- so many traces may still come: with those of all flows as many as with those of the flows that are left
abbrev pub IsLeft : Builder → List Flow → ℕ → ℕ → Type 0
IsLeft builder fs i left = left + traces_in builder fs ≡ 262144 + traces_in builder (drop i fs)

module _ (builder : Builder) (fs : List Flow) (i : ℕ) where
  pub whole : (done : List (List Trace)) → length fs ≤ i → IsFront builder fs i done → AreCutBy builder fs done
  whole done le front = subst (AreCutBy builder fs) (append-nil done) (front [] (subst (λ gs. AreCutBy builder gs []) (sym (drop_all i fs le)) tt))

  pub all_few : (left : ℕ) → length fs ≤ i → IsLeft builder fs i left → traces_in builder fs ≤ 262144
  all_few left le is = let none = ap (traces_in builder) (drop_all i fs le) in let e : left + traces_in builder fs ≡ 262144 + traces_in builder (drop i fs) = is in omega (arith, none, e)

  module _ (f : Flow) (ts : List Trace) (lt : i < length fs) (item : f ≡ get_or fs i f) where
    next : drop i fs ≡ f ∷ drop (i + 1) fs
    next = drop_more fs i f lt ∙ ap (λ g. g ∷ drop (i + 1) fs) (sym item)

    pub front_more : (done after : List (List Trace)) → IsFront builder fs i done → IsCutBy builder f ts → after ≡ done ++ ts ∷ [] → IsFront builder fs (i + 1) after
    front_more done after front one more rest h =
        subst (AreCutBy builder fs) (sym (append_assoc done (ts ∷ []) rest) ∙ ap (λ xs. xs ++ rest) (sym more))
        (front (ts ∷ rest) (subst (λ gs. AreCutBy builder gs (ts ∷ rest)) (sym next) (one, h)))

    module _ (left : ℕ) (is : IsLeft builder fs i left) (cut : lists_of ts ≡ traces_of builder f.nodes) where
      count : length (traces_of builder f.nodes) ≡ length ts
      count = sym (ap length cut) ∙ length-map ts (λ t. t.nodes)

      split : traces_in builder (drop i fs) ≡ length (traces_of builder f.nodes) + traces_in builder (drop (i + 1) fs)
      split = ap (traces_in builder) next

      pub too_many : left < length ts → 262144 < traces_in builder fs
      too_many over = let c = count in let s = split in let e : left + traces_in builder fs ≡ 262144 + traces_in builder (drop i fs) = is in omega (arith, c, s, over, e)

      pub left_more : (after : ℕ) → after + length ts ≡ left → IsLeft builder fs (i + 1) after
      left_more after less = let c = count in let s = split in let e : left + traces_in builder fs ≡ 262144 + traces_in builder (drop i fs) = is in omega (arith, c, s, less, e)
