-- Procedures that stand for the judgement's, one for one.
use Rattle.std.proofs.Common.{◌≡◌, ◌<◌, ℕ, zero, suc, List, [], ◌∷◌, ◌++◌, length, Option, Some, refl, sym, ap, ◌∙◌, arith, Vec, Global}
use Rattle.std.specs.Prelude.{slice_get, slice_set}
use Rattle.std.proofs.lemmas.Option.{slice_get_within}
use Rattle.ob_types.specs.declared.program.Procedure.{Procedure}
use Rattle.ob_judge.specs.Shapes.{Shape}
use Rattle.ob_judge.specs.Image.{Procedure as JudgedProcedure}
use Rattle.ob_judge.specs.Making.{Making, no_procedure}
use Rattle.judged_tree.specs.TypeShapes.{shape_of}
use Rattle.check_types.specs.declared.types.TypeRef.{TypeRef}
use Rattle.check_types.specs.declared.types.TypeRef.TheVariants as TheType
use Rattle.check_types.specs.declared.table.TypeTable.{TypeTable}
use Rattle.check_types.specs.TypeMeaning.{type_shape}
use Rattle.check_types.specs.TableFacts.{entry_at}
use Rattle.check_types.proofs.SameShapes.{same_true}
use Rattle.table_builder.specs.Growing.{Grows}
use Rattle.table_builder.proofs.Lists.{there, index_there}
use Rattle.check_making.proofs.Growing.{grows_on}
use Rattle.check_making.specs.declared.making.Surroundings.{Surroundings}
use Rattle.judged_modules.specs.steps.Frames.{Begins}
use Rattle.check_making.specs.declared.scopes.building.Building.{Building}
use Rattle.check_making.specs.scopes.Blank.{blank_procedure}
use Rattle.check_making.specs.scopes.Building.{IsLater, StandsFor, TheyStandFor, Represents}

-- ---- numbers of types

pub number_means : (t : TypeTable) (n : ℕ) (e : TypeRef) → slice_get t.entries.items n ≡ Some e → shape_of t.types n ≡ type_shape t.types e
number_means t n e at = same_true (shape_of t.types n) (type_shape t.types (entry_at t.entries.items n)) (t.meant n) ∙ ap (type_shape t.types) (index_there t.entries.items n e TheType.Nothing at)

-- a number's type stays
pub number_still : (t u : TypeTable) → Grows t u → (n : ℕ) (e : TypeRef) → slice_get t.entries.items n ≡ Some e → shape_of u.types n ≡ shape_of t.types n
number_still t u g n e at = number_means u n e (g.entry n e at) ∙ g.shape e (n, at) ∙ sym (number_means t n e at)

-- and is one there
pub number_there : (t u : TypeTable) → Grows t u → (n : ℕ) → n < length t.entries.items → n < length u.entries.items
number_there t u g n l = let e = there t.entries.items n l in slice_get_within u.entries.items n e.0 (g.entry n e.0 e.1)

-- ---- pointer types

pub begins_self : (bs : List (Option ℕ)) → Begins bs bs
begins_self bs = record { long = omega arith; same = λ n l. refl }

pub begins_on : (as' bs cs : List (Option ℕ)) → Begins as' bs → Begins bs cs → Begins as' cs
begins_on as' bs cs h k = record {
  long = let a = h.long in let b = k.long in omega (arith, a, b);
  same = λ n l. k.same n (let a = h.long in omega (arith, l, a)) ∙ h.same n l;
}

-- ---- procedures

-- one of which nothing is known
pub blank_stands : (t : TypeTable) (n : ℕ) → slice_get t.entries.items n ≡ Some TheType.Nothing → StandsFor t (blank_procedure n) no_procedure
blank_stands t n at = record {
  bases = t.bases.items;
  begins = begins_self t.bases.items;
  image = ap blank_of (number_means t n TheType.Nothing at);
  same = λ later b. refl;
  result_there = slice_get_within t.entries.items n TheType.Nothing at;
  stays = λ u g. ap blank_of (number_still t u g.grows n TheType.Nothing at);
  in_turn = record { each = λ v all many few. refl };
}
  where
    blank_of : Shape → JudgedProcedure
    blank_of s = record no_procedure { result = s }

module _ (t u : TypeTable) (g : IsLater t u) (bases : Begins t.bases.items u.bases.items) where
  pub stands_still : (q : Procedure) (j : JudgedProcedure) → StandsFor t q j → StandsFor u q j
  stands_still q j h = record {
    bases = h.bases;
    begins = begins_on h.bases t.bases.items u.bases.items h.begins bases;
    image = h.stays u g ∙ h.image;
    same = h.same;
    result_there = number_there t u g.grows q.result h.result_there;
    stays = λ v k. h.stays v (record { grows = grows_on t u v g.grows k.grows; few = k.few }) ∙ sym (h.stays u g);
    in_turn = h.in_turn;
  }

  pub they_stand_still : (qs : List Procedure) (js : List JudgedProcedure) → TheyStandFor t qs js → TheyStandFor u qs js
  they_stand_still [] [] h = tt
  they_stand_still (q ∷ qs) (j ∷ js) h = (stands_still q j h.0, they_stand_still qs js h.1)
  they_stand_still [] (j ∷ js) h = absurd h
  they_stand_still (q ∷ qs) [] h = absurd h

module _ (t : TypeTable) where
  pub as_many : (qs : List Procedure) (js : List JudgedProcedure) → TheyStandFor t qs js → length qs ≡ length js
  as_many [] [] h = refl
  as_many (q ∷ qs) (j ∷ js) h = ap suc (as_many qs js h.1)
  as_many [] (j ∷ js) h = absurd h
  as_many (q ∷ qs) [] h = absurd h

  module _ (q : Procedure) (j : JudgedProcedure) (stands : StandsFor t q j) where
    pub one_more_stands : (qs : List Procedure) (js : List JudgedProcedure) → TheyStandFor t qs js → TheyStandFor t (qs ++ q ∷ []) (js ++ j ∷ [])
    one_more_stands [] [] h = (stands, tt)
    one_more_stands (p ∷ qs) (i ∷ js) h = (h.0, one_more_stands qs js h.1)
    one_more_stands [] (i ∷ js) h = absurd h
    one_more_stands (p ∷ qs) [] h = absurd h

    pub set_stands : (f : ℕ) (qs : List Procedure) (js : List JudgedProcedure) → TheyStandFor t qs js → TheyStandFor t (slice_set qs f q) (slice_set js f j)
    set_stands f [] [] h = tt
    set_stands zero (p ∷ qs) (i ∷ js) h = (stands, h.1)
    set_stands (suc f) (p ∷ qs) (i ∷ js) h = (h.0, set_stands f qs js h.1)
    set_stands f [] (i ∷ js) h = absurd h
    set_stands f (p ∷ qs) [] h = absurd h

-- ---- the whole

module _ (r : Surroundings) (s : Building) (m : Making) (h : Represents r s m) where
  -- other procedures, as the judgement has others
  pub with_procedures : (qs : Vec Procedure Global) (js : List JudgedProcedure) → TheyStandFor s.declaring.types.table qs.items js → Represents r (record s { procedures = qs }) (record m { procedures = js })
  with_procedures qs js k = record {
    makes = record {
      imports_in = h.makes.imports_in;
      world = h.makes.world;
      is_type_part = h.makes.is_type_part;
      forward = h.makes.forward;
      standing = h.makes.standing;
      values = h.makes.values;
      variables = h.makes.variables;
      objects = h.makes.objects;
    };
    procedures = k;
  }
