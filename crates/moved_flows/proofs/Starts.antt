-- The flows of a start.
use Rattle.std.proofs.Common.{◌≡◌, ◌+◌, List, [], ◌∷◌, ◌++◌, map, length, refl, ap, ◌∙◌}
use Rattle.ssa_core.specs.declared.procedure.Proc.{Proc}
use Rattle.lir_core.specs.declared.flow.Flow.{Flow}
use Rattle.a64_select.specs.Selected.{selected}
use Rattle.trace_build.specs.declared.builder.Builder.{Builder}
use Rattle.trace_build.specs.Traces.{traces_in}
use Rattle.moved_lowering.specs.Starts.{AllAlikeProcs}
use Rattle.moved_lowering.specs.Starts as procedures
use Rattle.moved_data.proofs.Alike.{one_cut}
use Rattle.moved_flows.specs.Flows.{AllAlike, AreAlikeFirst}
use Rattle.moved_flows.proofs.Selecting.{select_alike}

all_selected : (ps qs : List Proc) → AllAlikeProcs ps qs → AllAlike (map selected ps) (map selected qs)
all_selected [] [] h = tt
all_selected [] (q ∷ qs) h = elim h as (λ _. ⊥) [ ]
all_selected (p ∷ ps) [] h = elim h as (λ _. ⊥) [ ]
all_selected (p ∷ ps) (q ∷ qs) h = (select_alike p q h.0, all_selected ps qs h.1)

map_both : {A B : Type 0} (f : A → B) (xs ys : List A) → map f (xs ++ ys) ≡ map f xs ++ map f ys
map_both f [] ys = refl
map_both f (x ∷ xs) ys = ap (λ rest. f x ∷ rest) (map_both f xs ys)

pub first_selected : (ps qs : List Proc) → procedures.AreAlikeFirst ps qs → AreAlikeFirst (map selected ps) (map selected qs)
first_selected ps qs h = record {
  first = map selected h.first;
  rest = map selected h.rest;
  is = ap (map selected) h.is ∙ map_both selected h.first h.rest;
  alike = all_selected ps h.first h.alike;
}

pub one_count : (builder : Builder) (fs gs : List Flow) → AllAlike fs gs → traces_in builder fs ≡ traces_in builder gs
one_count builder [] [] h = refl
one_count builder [] (g ∷ gs) h = elim h as (λ _. traces_in builder [] ≡ traces_in builder (g ∷ gs)) [ ]
one_count builder (f ∷ fs) [] h = elim h as (λ _. traces_in builder (f ∷ fs) ≡ traces_in builder []) [ ]
one_count builder (f ∷ fs) (g ∷ gs) h = λ k. length (one_cut builder f g h.0 k) + one_count builder fs gs h.1 k
