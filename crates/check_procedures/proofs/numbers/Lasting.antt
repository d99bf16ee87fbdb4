-- In which tables numbers of types mean what they mean in one of them: in itself, and in those that it grows to.
use Rattle.std.proofs.Common.{◌≡◌, ℕ, ◌≤◌, length, Some, refl, sym, ap, ◌∙◌, arith}
use Rattle.std.specs.Prelude.{slice_get}
use Rattle.std.proofs.lemmas.Option.{slice_get_past}
use Rattle.std.proofs.lemmas.List.{get_or_past}
use Rattle.ob_judge.specs.Shapes.{Nothing}
use Rattle.judged_tree.specs.TypeShapes.{shape_of}
use Rattle.check_types.specs.declared.table.TypeTable.{TypeTable}
use Rattle.check_types.specs.declared.types.TypeRef.{TypeRef}
use Rattle.check_types.specs.declared.types.TypeRef.TheVariants as TheType
use Rattle.check_types.specs.TypeMeaning.{type_shape}
use Rattle.check_types.specs.TableFacts.{entry_at}
use Rattle.check_types.proofs.SameShapes.{same_true}
use Rattle.table_builder.specs.declared.builder.TableBuilder.{TableBuilder}
use Rattle.table_builder.specs.Builder.{IsBuilt}
use Rattle.table_builder.specs.Growing.{Grows}
use Rattle.table_builder.proofs.Lists.{there, index_there}
use Rattle.check_procedures.specs.numbers.Numbering.{NumbersAll, LastsIn}

-- a number means what its entry means
pub meant : (t : TypeTable) (k : ℕ) → shape_of t.types k ≡ type_shape t.types (entry_at t.entries.items k)
meant t k = same_true _ _ (t.meant k)

pub meant_at : (t : TypeTable) (k : ℕ) (e : TypeRef) → slice_get t.entries.items k ≡ Some e → shape_of t.types k ≡ type_shape t.types e
meant_at t k e h = meant t k ∙ ap (type_shape t.types) (index_there t.entries.items k e TheType.Nothing h)

pub meant_past : (t : TypeTable) (k : ℕ) → length t.entries.items ≤ k → shape_of t.types k ≡ Nothing
meant_past t k l = meant t k ∙ ap (type_shape t.types) (get_or_past t.entries.items k TheType.Nothing l)

-- a table's numbers mean in it what they mean in it
pub lasts : (t : TypeTable) → NumbersAll t → LastsIn t t.types
lasts t h = record {
  shape = λ k l. refl;
  nothing = meant_at t 5 TheType.Nothing h.nothing;
  signature = λ g l. refl;
  missing = λ few. slice_get_past t.types.signatures 4294967295 few;
}

-- and so they do in one that it grows to
pub lasts_on : (t u : TypeTable) → NumbersAll t → Grows t u → length u.types.signatures ≤ 4294967295 → LastsIn t u.types
lasts_on t u h g few = record {
  shape = λ k l. let e = there t.entries.items k l in stays k e.0 e.1;
  nothing = stays 5 TheType.Nothing h.nothing ∙ meant_at t 5 TheType.Nothing h.nothing;
  signature = λ n l. g.shape (TheType.Procedure n) (h.procedures n l);
  missing = λ _. slice_get_past u.types.signatures 4294967295 few;
}
  where
    stays : (k : ℕ) (e : TypeRef) → slice_get t.entries.items k ≡ Some e → shape_of u.types k ≡ shape_of t.types k
    stays k e at = meant_at u k e (g.entry k e at) ∙ g.shape e (k, at) ∙ sym (meant_at t k e at)

-- the table of a builder is such a one
pub numbers_all : (b : TableBuilder) → IsBuilt b → NumbersAll b.table
numbers_all b h = record {
  nothing = h.index.says TheType.Nothing 5 refl;
  procedures = λ g l. let n = there b.numbers.procedures.items g (let e = h.procedures in omega (arith, e, l)) in (n.0, h.index.says (TheType.Procedure g) n.0 n.1);
}
