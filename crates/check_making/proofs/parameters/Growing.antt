-- What holds of a table of types that grew.
use Rattle.std.proofs.Common.{◌≡◌, ℕ, ◌<◌, List, [], ◌∷◌, length, map, refl, sym, ap₂, ◌∙◌}
use Rattle.std.proofs.lemmas.Option.{slice_get_within}
use Rattle.ob_types.specs.declared.types.Formal.{Formal}
use Rattle.ob_judge.specs.Shapes.{Shape, one}
use Rattle.ob_judge.specs.Image.{Formal as FormalOf}
use Rattle.ob_judge.specs.Parameters.{Listed}
use Rattle.judged_tree.specs.TypeShapes.{shape_of, shapes_of, formals_shape}
use Rattle.judged_tree.specs.Tables.{are_before}
use Rattle.judged_tree.specs.Plain.{plain_formal}
use Rattle.table_builder.specs.declared.builder.TableBuilder.{TableBuilder}
use Rattle.table_builder.specs.Builder.{IsBuilt}
use Rattle.table_builder.specs.Growing.{Grows}
use Rattle.table_builder.proofs.Lists.{there}
use Rattle.table_builder.proofs.Meaning.{meant}
use Rattle.check_making.specs.declared.parameters.parameters.Listed.{Listed as ListedHere}
use Rattle.check_making.specs.parameters.Listed.{IsListed}

module _ (a b : TableBuilder) (old : IsBuilt a) (new : IsBuilt b) (g : Grows a.table b.table) where
  pub number_same : (n : ℕ) → n < length a.table.entries.items → shape_of b.table.types n ≡ shape_of a.table.types n
  number_same n l =
      let e = there a.table.entries.items n l in
      meant b.table.types b.table.entries.items b.table.bases.items new.sound n e.0 (g.entry n e.0 e.1)
      ∙ g.shape e.0 (n, e.1) ∙ sym (meant a.table.types a.table.entries.items a.table.bases.items old.sound n e.0 e.1)

  number_still : (n : ℕ) → n < length a.table.entries.items → n < length b.table.entries.items
  number_still n l = let e = there a.table.entries.items n l in slice_get_within b.table.entries.items n e.0 (g.entry n e.0 e.1)

  formals_same : (xs : List Formal) → are_before (length a.table.entries.items) xs → formals_shape (shapes_of b.table.types) xs ≡ formals_shape (shapes_of a.table.types) xs
  formals_same [] h = refl
  formals_same (x ∷ xs) h = ap₂ (λ s ps. one x.variable s ps) (number_same x.type_number h.0) (formals_same xs h.1)

  images_same : (xs : List Formal) → are_before (length a.table.entries.items) xs → map (plain_formal b.table.types) xs ≡ map (plain_formal a.table.types) xs
  images_same [] h = refl
  images_same (x ∷ xs) h =
      ap₂ (λ (s : Shape) (fs : List FormalOf). record { mode = x.mode; variable = x.variable; shape = s } ∷ fs) (number_same x.type_number h.0) (images_same xs h.1)

  before_still : (xs : List Formal) → are_before (length a.table.entries.items) xs → are_before (length b.table.entries.items) xs
  before_still [] h = tt
  before_still (x ∷ xs) h = (number_still x.type_number h.0, before_still xs h.1)

  pub listed_still : (l : ListedHere) (x : Listed) → IsListed a.table l x → IsListed b.table l x
  listed_still l x h = record {
    formals = h.formals ∙ sym (formals_same l.formals h.before);
    parameters = h.parameters ∙ sym (images_same l.formals h.before);
    words = h.words;
    before = before_still l.formals h.before;
  }
