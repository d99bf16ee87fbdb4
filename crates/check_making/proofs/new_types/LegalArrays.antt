-- Arrays that are legal.
use Rattle.std.proofs.Common.{◌≡◌, ℕ, zero, suc, ◌*◌, ◌<◌, ◌≤◌, List, [], ◌∷◌, length, get_or, true, refl, sym, ap, ap₂, ◌∙◌, arith}
use Rattle.std.specs.Prelude.{min, nat_le, pos}
use Rattle.std.proofs.Math.Nat.{mul_comm}
use Rattle.ob_judge.specs.Shapes.{Shape, Array, Layout, Known, cells}
use Rattle.ob_judge.specs.Types.{limit, is_length}
use Rattle.judged_programs.specs.Complete.{IsKnown}
use Rattle.check_types.specs.Known.{known_of}
use Rattle.check_types.specs.TypeMeaning.{type_shape}
use Rattle.check_types.specs.declared.table.TypeTable.{TypeTable}
use Rattle.check_types.specs.declared.types.TypeRef.{TypeRef}
use Rattle.table_builder.specs.Cells.{most_cells}
use Rattle.table_builder.proofs.Counts.{capped_mul}
use Rattle.check_making.specs.new_types.Arrays.{AreLengths}
use Rattle.check_making.proofs.new_types.Cells.{few_cells}

pub length_at : (ns : List ℕ) (i : ℕ) → i < length ns → AreLengths ns → is_length (pos (get_or ns i 0)) ≡ true
length_at [] i l h = absurd (omega (arith, l))
length_at (n ∷ ns) zero l h = h.0
length_at (n ∷ ns) (suc i) l h = length_at ns i (omega (arith, l)) h.1

pub array_known : (records : List Layout) (n : ℕ) (a : Shape) → IsKnown records a → IsKnown records (Array n a)
array_known records n a h = record { whole = refl; core_there = h.core_there }

-- an array whose cells were counted in the table in which it was made
pub array_fits : (old new : TypeTable) (k : TypeRef) (n : ℕ) (a : Shape) → known_of new ≡ known_of old → type_shape new.types k ≡ Array n a
    → (count : ℕ) → count ≡ min most_cells (cells (known_of new) (type_shape new.types k)) → count ≤ 1048576 → nat_le (cells (known_of old) (Array n a)) limit ≡ true
array_fits old new k n a known shape count is few =
    ap (λ x. nat_le (cells x (Array n a)) limit) (sym known) ∙ ap (λ z. nat_le (cells (known_of new) z) limit) (sym shape)
    ∙ few_cells count (cells (known_of new) (type_shape new.types k)) is few

-- what was counted in the table in which it is made is counted in the one that has it
pub counted_in : (old new : TypeTable) (k : TypeRef) (a : Shape) (count : ℕ) → known_of new ≡ known_of old → type_shape new.types k ≡ a → count ≡ min most_cells (cells (known_of old) a)
    → count ≡ min most_cells (cells (known_of new) (type_shape new.types k))
counted_in old new k a count known shape is = is ∙ ap₂ (λ (x : Known) (z : Shape). min most_cells (cells x z)) (sym known) (sym shape)

-- an array's cells by its element's
pub counted_array : (old new : Known) → new ≡ old → (n count : ℕ) (a : Shape) → count ≡ min most_cells (cells old a) → min most_cells (count * n) ≡ min most_cells (cells new (Array n a))
counted_array old new same n count a is =
    ap (λ z. min most_cells (z * n)) is ∙ capped_mul most_cells (cells old a) n ∙ ap (min most_cells) (mul_comm (cells old a) n)
    ∙ ap (λ z. min most_cells (cells z (Array n a))) (sym same)
