-- Words of the table.
use Rattle.std.proofs.Common.{◌≡◌, ℕ, ◌*◌, ◌/◌, ◌^◌, ◌<◌, Bool, true, false, List, [], ◌∷◌, refl, lit<, mod-lt, arith}
use Rattle.std.specs.Prelude.{nat_lt, if◌then◌else◌}
use Rattle.std.proofs.lemmas.Bool.{ltb-true}
use Rattle.image_form.specs.declared.image.Image.{Image}
use Rattle.image_form.specs.Form.{IsInForm}
use Rattle.a64_instr.specs.declared.instr.Instr.{Instr}
use Rattle.a64_numbers.specs.Moves.{half}
use Rattle.a64_numbers.proofs.Branches.{branch_field_lt}
use Rattle.a64_table.specs.Table.{Field, AllFit, row_of}
use Rattle.elf_file.specs.declared.native.NativeSize.{NativeSize}
use Rattle.elf_file.specs.Runtime.{Piece, Code, Text, pieces}
use Rattle.elf_file.specs.Native.{native_size, links, links_place, address}
use Rattle.elf_file.specs.Placed.{AreInTable, PiecesAreInTable}

---- By testing

abbrev all_fit : List Field → Bool
all_fit [] = true
all_fit (f ∷ fs) = if nat_lt f.value (2 ^ f.at.width) then all_fit fs else false

abbrev all_in : List Instr → Bool
all_in [] = true
all_in (i ∷ is) = if all_fit (row_of i).fields then all_in is else false

abbrev pieces_in : List Piece → Bool
pieces_in [] = true
pieces_in (Code is ∷ ps) = if all_in is then pieces_in ps else false
pieces_in (Text bytes ∷ ps) = pieces_in ps

fits_by : (fs : List Field) → all_fit fs ≡ true → AllFit fs
fits_by [] e = tt
fits_by (f ∷ fs) e = by_test (nat_lt f.value (2 ^ f.at.width)) refl e (λ h. fits_by fs h)
  where
    by_test : (b : Bool) → nat_lt f.value (2 ^ f.at.width) ≡ b → (if b then all_fit fs else false) ≡ true → (all_fit fs ≡ true → AllFit fs) → AllFit (f ∷ fs)
    by_test true t e on = (ltb-true f.value (2 ^ f.at.width) t, on e)
    by_test false t e on = cc

each_by : (is : List Instr) → all_in is ≡ true → AreInTable is
each_by [] e = tt
each_by (i ∷ is) e = by_test (all_fit (row_of i).fields) refl e (λ h. each_by is h)
  where
    by_test : (b : Bool) → all_fit (row_of i).fields ≡ b → (if b then all_in is else false) ≡ true → (all_in is ≡ true → AreInTable is) → AreInTable (i ∷ is)
    by_test true t e on = (fits_by (row_of i).fields t, on e)
    by_test false t e on = cc

pieces_by : (ps : List Piece) → pieces_in ps ≡ true → PiecesAreInTable ps
pieces_by [] e = tt
pieces_by (Code is ∷ ps) e = by_test (all_in is) refl e (λ h. pieces_by ps h)
  where
    by_test : (b : Bool) → all_in is ≡ b → (if b then pieces_in ps else false) ≡ true → (pieces_in ps ≡ true → PiecesAreInTable ps) → PiecesAreInTable (Code is ∷ ps)
    by_test true t e on = (each_by is t, on e)
    by_test false t e on = cc
pieces_by (Text bytes ∷ ps) e = pieces_by ps e

pub pieces_in_table : PiecesAreInTable pieces
pieces_in_table = pieces_by pieces refl

---- Links

half_low : (n i : ℕ) → half n i < 2 ^ 16
half_low n i = mod-lt (n / 2 ^ (16 * i)) (lit< tt)

pub links_in_table : (image : Image) → IsInForm image → AreInTable (links (native_size image.code) image)
links_in_table image form =
    let size : NativeSize = native_size image.code in
    let flags : image.flags < 2 = form.flags in
    let move : (d n : ℕ) → d < 2 ^ 5 → (d < 2 ^ 5) × ((half n 0 < 2 ^ 16) × ((0 < 2 ^ 2) × Unit {0})) = λ d n l. (l, (half_low n 0, (lit< tt, tt))) in
    let keep : (d n : ℕ) → d < 2 ^ 5 → (d < 2 ^ 5) × ((half n 1 < 2 ^ 16) × ((1 < 2 ^ 2) × Unit {0})) = λ d n l. (l, (half_low n 1, (lit< tt, tt))) in (
      (branch_field_lt 26 (address (links_place size)) (address 0), tt),
      (
        move 0 _ (lit< tt),
        (
          keep 0 _ (lit< tt),
          (
            move 1 _ (lit< tt),
            (
              keep 1 _ (lit< tt),
              (
                move 2 _ (lit< tt),
                (
                  keep 2 _ (lit< tt),
                  (
                    move 28 _ (lit< tt),
                    (
                      keep 28 _ (lit< tt),
                      ((lit< tt, (omega arith, (lit< tt, tt))), tt),
                    ),
                  ),
                ),
              ),
            ),
          ),
        ),
      ),
    )
