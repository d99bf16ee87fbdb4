-- What the tasks of bodies give, once all have ended.
use Rattle.std.proofs.Common.{◌≡◌, ℕ, zero, suc, ◌<◌, List, [], ◌∷◌, length, get_or, Option, Some, None, refl, sym, ap, ◌∙◌, subst, arith}
use Rattle.std.specs.Prelude.{slice_get, IfOk, Result, Ok, Err, Vec}
use Rattle.std.specs.Global.{Global}
use Rattle.std.proofs.lemmas.List.{length-map}
use Rattle.outside.specs.declared.memory.Memory.{Memory}
use Rattle.trace_pool.specs.Ends.{AreFinal}
use Rattle.check_bodies.specs.Settled.{AreJudged}
use Rattle.std.proofs.lemmas.Option.{same_Some, slice_get_read, slice_get_within}
use mathlib.Core.Option.{some, some-injective, some-ne-none}
use lib.ListN.{get_elem?}
use Rattle.pool_core.specs.Tree.{IsTree}
use Rattle.pool_core.specs.Fits.{FitsAt}
use Rattle.check_bodies.specs.declared.body.Body.{Body}
use Rattle.check_bodies.specs.Waits.{no_parents, world_inside, IsJudged, IsJudgedAt}
use Rattle.ob_judge.specs.Making.{Making}
use Rattle.ob_judge.specs.Parameters.{Listed}
use Rattle.ob_judge.specs.Shapes.{Shape}
use Rattle.judged_modules.specs.steps.Procedures.{plain_procedure}
use Rattle.judged_modules.specs.steps.Steps.{completed}
use Rattle.check_types.specs.TypeMeaning.{type_shape}
use Rattle.check_types.specs.declared.names.scope.Scope.{Scope}
use Rattle.check_types.specs.declared.table.TypeTable.{TypeTable}
use Rattle.check_types.specs.names.Worlds.{world_of}
use Rattle.check_types.specs.names.Worlds.{table_of as table_in}
use Rattle.check_types.specs.steps.Answers.{Answers}
use Rattle.check_making.specs.declared.making.Declaring.{Declaring}
use Rattle.check_making.specs.declared.making.Surroundings.{Surroundings}
use Rattle.check_procedures.specs.Completing.{IsBody}
use Rattle.check_procedures.specs.declared.numbers.renumbering.Numbered.{Numbered}

pub parent_at : (bs : List Body) (i : ℕ) → i < length (no_parents bs) → get_elem? (no_parents bs) i ≡ some None
parent_at [] i lt = absurd (omega (arith, lt))
parent_at (b ∷ bs) zero lt = refl
parent_at (b ∷ bs) (suc i) lt = parent_at bs i (omega (arith, lt))

no_child : (bs : List Body) (i p : ℕ) → get_elem? (no_parents bs) i ≡ some (Some p) → ⊥
no_child [] i p e = some-ne-none (Some p) (sym e)
no_child (b ∷ bs) zero p e = let both : None ≡ Some p = some-injective None (Some p) e in absurd (let z : ⊥ = cc in z)
no_child (b ∷ bs) (suc i) p e = no_child bs i p e

pub is_tree : (bs : List Body) → IsTree (no_parents bs)
is_tree bs i p e = absurd (no_child bs i p e)

pub run_within : {H : Type 0} (bs : List Body) (fits : H → Type 0) (i : ℕ) (hint : Option H) → FitsAt (get_elem? (no_parents bs) i) fits hint → i < length bs
run_within [] fits i hint h = absurd h
run_within (b ∷ bs) fits zero hint h = omega arith
run_within (b ∷ bs) fits (suc i) hint h = let l = run_within bs fits i hint h in omega (arith, l)

-- a body that was read
pub found_at : (bs : List Body) (i : ℕ) (x : Body) → i < length bs → x ≡ get_or bs i x → slice_get bs i ≡ Some (get_or bs i x)
found_at bs i x lt is = slice_get_read bs (length bs) i x refl lt is ∙ ap Some is

-- a body that was judged in its scope
module _ (r : Surroundings) (s : Declaring) (bs : List Body) (i : ℕ) (x : Body) (there : slice_get bs i ≡ Some x)
    (scope : Scope) (world : world_of scope ≡ world_inside r s x) (types : scope.types.now ≡ s.types.table) (n : Numbered) where
  pub judged_at : ((m : Making) (h : Listed × Shape) → world_of scope ≡ m.world → type_shape (table_in scope) x.heading.outcome ≡ h.1
      → Answers (IsBody r.source.now (plain_procedure x.tree.now) h m scope.types.now) (completed r.source.now (plain_procedure x.tree.now) h m) (Ok n)) → IsJudgedAt r s bs i n
  judged_at judged b at_b = subst (λ y. IsJudged r s y n) (same_Some x b (sym there ∙ at_b)) (record {
    each = λ m h at outcome.
        subst (λ t. Answers (IsBody r.source.now (plain_procedure x.tree.now) h m t) (completed r.source.now (plain_procedure x.tree.now) h m) (Ok n)) types
        (judged m h (world ∙ at) (ap (λ (t : TypeTable). type_shape t.types x.heading.outcome) types ∙ outcome));
  })

-- each has its own
module _ (r : Surroundings) (s : Declaring) where
  each_judged : (bs : List Body) (ns : List Numbered) → length ns ≡ length bs → ((i : ℕ) (b : Body) (n : Numbered) → slice_get bs i ≡ Some b → get_elem? ns i ≡ some n → IsJudged r s b n) → AreJudged r s bs ns
  each_judged [] [] e each = tt
  each_judged [] (n ∷ ns) e each = absurd (omega (arith, e))
  each_judged (b ∷ bs) [] e each = absurd (omega (arith, e))
  each_judged (b ∷ bs) (n ∷ ns) e each = (each 0 b n refl refl, each_judged bs ns (omega (arith, e)) (λ i x y there at. each (suc i) x y there at))

  pub all_judged : (bs : List Body) (result : Result (Vec Numbered Global) Memory) → IfOk result (λ ns. AreFinal (IsJudgedAt r s bs) (no_parents bs) ns.items) → IfOk result (λ ns. AreJudged r s bs ns.items)
  all_judged bs (Ok ns) final = each_judged bs ns.items (final.0 ∙ long) each
    where
      long : length (no_parents bs) ≡ length bs
      long = length-map bs (λ (b : Body). None)

      each : (i : ℕ) (b : Body) (n : Numbered) → slice_get bs i ≡ Some b → get_elem? ns.items i ≡ some n → IsJudged r s b n
      each i b n there at =
          let lt = slice_get_within bs i b there in
          let d = final.1 i (omega (arith, lt, long)) in
          subst (IsJudged r s b) (some-injective d.0 n (sym d.1 ∙ at)) (d.2 b there)
  all_judged bs (Err e) final = tt
