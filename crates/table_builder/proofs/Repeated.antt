-- Types as so many elements that are no arrays: what these have, they have so many times.
use Rattle.std.proofs.Common.{◌≡◌, ℕ, ◌*◌, refl, ap, ◌∙◌, arith}
use Rattle.std.proofs.Math.Nat.{mul_assoc}
use Rattle.ob_types.specs.Table.{Table}
use Rattle.ob_types.specs.Trees.{in_a_row}
use Rattle.ob_judge.specs.Shapes.{Shape, Array, Known, cells, extent}
use Rattle.check_types.specs.TypeMeaning.{type_shape}
use Rattle.check_types.specs.declared.types.TypeRef.{TypeRef}
use Rattle.check_types.specs.declared.types.TypeRef.TheVariants as TheType
use Rattle.table_builder.specs.Cells.{innermost, elements_in}

-- what is no array is one element, itself
pub record IsSingle (a : Shape) : Type 0 where
  pub one : elements_in a ≡ 1
  pub same : innermost a ≡ a

pub single : (t : Table) (e : TypeRef) → ((l k : ℕ) → e ≡ TheType.Array l k → ⊥) → IsSingle (type_shape t e)
single t (TheType.Array l k) h = absurd (h l k refl)
single t e h = record { one = refl; same = refl }

pub cells_by_elements : (known : Known) (a : Shape) → elements_in a * cells known (innermost a) ≡ cells known a
cells_by_elements known (Array n a) = mul_assoc n (elements_in a) (cells known (innermost a)) ∙ ap (λ m. n * m) (cells_by_elements known a)
cells_by_elements known a = omega arith

once : (n : ℕ) → 1 * n ≡ n
once n = omega arith

pub extent_by_elements : (known : Known) (a : Shape) → in_a_row (elements_in a) (extent known (innermost a)) ≡ extent known a
extent_by_elements known (Array n a) =
    ap (λ (m : ℕ). record { bytes = m; wide = (extent known (innermost a)).wide }) (mul_assoc n (elements_in a) (extent known (innermost a)).bytes)
    ∙ ap (in_a_row n) (extent_by_elements known a)
extent_by_elements known a = ap (λ (m : ℕ). record { bytes = m; wide = (extent known a).wide }) (once (extent known a).bytes)
