-- The state and the judgement, part by part.
use Rattle.std.proofs.Common.{◌≡◌, ℕ, zero, suc, List, [], ◌∷◌, map, true, Some, Result, sym, ap, ◌∙◌, subst}
use Rattle.std.specs.Prelude.{slice_get}
use Rattle.ob_types.specs.Table.{Table}
use Rattle.ob_types.proofs.Tests.{none_some, some_same}
use Rattle.ob_syntax.specs.declared.names.Qualident.{Qualident}
use Rattle.ob_judge.specs.Scopes.{KnownModule as KnownModuleOf}
use Rattle.ob_judge.specs.Making.{Making}
use Rattle.ob_judge.specs.Names.{type_named, member_symbol}
use Rattle.ob_judge.specs.Parameters.{type_at}
use Rattle.judged_well.specs.Gives.{Gives}
use Rattle.table_builder.specs.Entries.{HasShape, is_whole_shape}
use Rattle.check_types.specs.steps.Answers.{Answers}
use Rattle.check_types.specs.declared.steps.fault.CheckFault.{CheckFault}
use Rattle.check_types.specs.declared.types.TypeRef.{TypeRef}
use Rattle.check_types.specs.TypeMeaning.{type_shape}
use Rattle.check_types.specs.declared.names.scope.KnownModule.{KnownModule}
use Rattle.check_types.specs.declared.names.scope.Scope.{Scope}
use Rattle.check_types.specs.names.Meaning.{module_of}
use Rattle.check_types.specs.names.Worlds.{world_of, IsOfType}
use Rattle.table_builder.specs.Contents.{contents_of}
use Rattle.table_builder.proofs.ByShape.{element_by_shape}
use Rattle.check_making.specs.declared.making.Declaring.{Declaring}
use Rattle.check_making.specs.declared.making.Surroundings.{Surroundings}
use Rattle.check_making.specs.Staying.{NamesHaveTypes, AllHaveTypes}
use Rattle.check_making.specs.Making.{table_of, strings_of, world_in, Makes, IsSettled, IsTypeOf}
use Rattle.check_making.proofs.Typed.{answers_with, type_has}

member_at : (t : Table) (f : KnownModule → KnownModuleOf) (ks : List KnownModule) → AllHaveTypes t (map (λ k. (f k).names) ks) → (n : ℕ) (k : KnownModuleOf) → slice_get (map f ks) n ≡ Some k → NamesHaveTypes t k.names
member_at t f [] h n k is = none_some k is
member_at t f (c ∷ ks) h zero k is = subst (λ z. NamesHaveTypes t z.names) (some_same (f c) k is) h.0
member_at t f (c ∷ ks) h (suc n) k is = member_at t f ks h.1 n k is

module _ (r : Surroundings) (s : Declaring) (ok : IsSettled r s) where
  -- a type that is named there
  pub type_answers : (m : Making) → Makes r s m → (number : ℕ) (q : Qualident) (scope : Scope) → scope.source.now ≡ r.source.now → world_of scope ≡ world_in r s → scope.types.now ≡ s.types.table
      → (result : Result TypeRef CheckFault) → Answers (IsOfType scope) (type_named scope.source.now (world_of scope) number q.name (member_symbol q.member)) result
      → Answers (IsTypeOf s) (type_at r.source.now number q m.world) result
  type_answers m makes number q scope p w t result h =
      let w' = w ∙ sym makes.world in
      answers_with (type_at r.source.now number q m.world) result
      (subst (λ x. Answers (IsOfType scope) (type_named r.source.now x number q.name (member_symbol q.member)) result) w'
      (subst (λ z. Answers (IsOfType scope) (type_named z (world_of scope) number q.name (member_symbol q.member)) result) p h))
      (subst (λ x. Gives (λ shape. HasShape (table_of s) shape × (is_whole_shape shape ≡ true)) (type_at r.source.now number q x)) (sym makes.world)
      (type_has (table_of s) r.source.now (world_in r s) ok.types (member_at (table_of s) (module_of (table_of s) (strings_of s)) r.modules.now ok.members) number q.name (member_symbol q.member)))
      (λ k shape is has.
      let same : type_shape (table_of s) k ≡ shape = ap (λ z. type_shape z.types k) (sym t) ∙ is in
      record { shape_is = same; element = element_by_shape (contents_of s.types.table s.types.numbers s.types.elements.items) ok.built k shape has.0 has.1 same })
