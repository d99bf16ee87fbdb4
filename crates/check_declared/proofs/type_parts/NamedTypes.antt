-- A type that is declared: its name keeps its meaning, and it has a number.
use Rattle.std.proofs.Common.{ℕ, List, ap, ◌∙◌, arith}
use Rattle.std.proofs.lemmas.Option.{slice_get_within}
use Rattle.ob_judge.specs.Scopes.{AType}
use Rattle.check_types.specs.declared.types.TypeRef.{TypeRef}
use Rattle.check_types.specs.declared.types.TypeRef.TheVariants as TheType
use Rattle.check_types.specs.declared.table.TypeTable.{TypeTable}
use Rattle.check_types.specs.TypeMeaning.{type_shape}
use Rattle.check_types.specs.declared.names.scope.Named.TheVariants as TheNamed
use Rattle.table_builder.specs.declared.builder.TableBuilder.{TableBuilder}
use Rattle.table_builder.specs.Builder.{IsBuilt}
use Rattle.table_builder.specs.Entries.{IsElement}
use Rattle.table_builder.proofs.Meaning.{meant, long}
use Rattle.check_making.specs.Staying.{HasType, NamedStays}
use Rattle.table_builder.proofs.ByShape.{whole-shape as whole_shape_is}

pub type_stays : (t : TypeTable) (strings : List (List ℕ)) (k : TypeRef) → IsElement t.entries.items k → NamedStays t strings (TheNamed.Type k)
type_stays t strings k h = record { object = λ u more g. ap AType (g.shape k h.numbered) }

module _ (b : TableBuilder) (ok : IsBuilt b) where
  pub type_declared : (k : TypeRef) → IsElement b.table.entries.items k → HasType b.table.types (AType (type_shape b.table.types k))
  type_declared k h =
      let n = h.numbered.0 in
      let at = h.numbered.1 in (
        record {
          number = n;
          there = (let l = slice_get_within b.table.entries.items n k at in let m = long b.table.types b.table.entries.items b.table.bases.items ok.sound in omega (arith, l, m));
          same = meant b.table.types b.table.entries.items b.table.bases.items ok.sound n k at;
        },
        whole_shape_is b.table.types k ∙ h.whole,
      )
