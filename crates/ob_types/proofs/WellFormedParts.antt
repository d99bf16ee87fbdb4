-- What a well-formed program is, part by part.
use Rattle.std.proofs.Common.{◌≡◌, ℕ, ◌<◌, ◌^◌, List, [], ◌∷◌, map, length, true, ◌&&◌, refl, ap₂, eqb-true, arith}
use Rattle.std.proofs.lemmas.Int.{ints}
use Rattle.std.specs.Int.{w64}
use Rattle.std.specs.Prelude.{ℤ, pos, negsuc, not, nat_lt, ◌==◌, int_le, int_lt, FitsSigned}
use Rattle.std.specs.Ordering.{int_eq}
use Rattle.wrapping_numbers.specs.Numbers.{signed, unsigned}
use Rattle.ob_types.specs.Layout.{record_of, record_cells}
use Rattle.ob_types.specs.Trees.{same_extent, record_extent}
use Rattle.ob_types.specs.Meaning.{texts_of}
use Rattle.ob_types.specs.Forms.{all, all_below, types_fine}
use Rattle.ob_types.specs.LegalTypes.{types_legal}
use Rattle.ob_types.specs.WellFormed.{is_integer, is_step, are_equal, bodies_among, well_formed, procedure_fine, module_fine, bodies_in_order, variables_fine, sizes_fine, counts_fine, declarations_fine}
use Rattle.ob_types.specs.declared.program.Program.{Program}
use Rattle.ob_types.proofs.Tests.{no, and_of, below}
use Rattle.ob_types.proofs.DataTrees.{same_extent_is}

pub record Parts (p : Program) : Type 0 where
  pub table : types_fine p.types ≡ true
  pub legal : types_legal p.types ≡ true
  pub counts : counts_fine p ≡ true
  pub variables : variables_fine p ≡ true
  pub order : bodies_among 0 p.procedures ≡ map (λ m. m.body) p.modules
  pub texts : all (all (λ c. nat_lt c 256)) (texts_of p.procedures) ≡ true
  pub modules : all (module_fine p) p.modules ≡ true
  pub procedures : (f : ℕ) → f < length p.procedures → procedure_fine p f ≡ true

-- numbers that are equal one by one
pub equal_is : (ns ms : List ℕ) → are_equal ns ms ≡ true → ns ≡ ms
equal_is [] [] h = refl
equal_is [] (m ∷ ms) h = no h
equal_is (n ∷ ns) [] h = no h
equal_is (n ∷ ns) (m ∷ ms) h = let y = and_of (n == m) (are_equal ns ms) h in ap₂ (λ a b. a ∷ b) (eqb-true n m y.0) (equal_is ns ms y.1)

pub parts_of : (p : Program) → well_formed p ≡ true → Parts p
parts_of p h =
    let tree = all (module_fine p) p.modules && all_below (length p.procedures) (procedure_fine p) in
    let a = and_of (types_fine p.types && declarations_fine p) (all (all (λ c. nat_lt c 256)) (texts_of p.procedures) && tree) h in
    let b = and_of (types_fine p.types) (declarations_fine p) a.0 in
    let c = and_of (types_legal p.types && counts_fine p) (variables_fine p && bodies_in_order p) b.1 in
    let d = and_of (types_legal p.types) (counts_fine p) c.0 in
    let e = and_of (variables_fine p) (bodies_in_order p) c.1 in
    let f = and_of (all (all (λ c. nat_lt c 256)) (texts_of p.procedures)) tree a.1 in
    let g = and_of (all (module_fine p) p.modules) (all_below (length p.procedures) (procedure_fine p)) f.1 in
    record {
      table = b.0;
      legal = d.0;
      counts = d.1;
      variables = e.0;
      order = equal_is (bodies_among 0 p.procedures) (map (λ m. m.body) p.modules) e.1;
      texts = f.0;
      modules = g.0;
      procedures = below (length p.procedures) (procedure_fine p) g.1;
    }

-- a record type has the cells and takes the bytes that it says
pub said : (p : Program) (r : ℕ) → sizes_fine p r ≡ true → ((record_of p.types r).cells ≡ record_cells p.types r) × ((record_of p.types r).extent ≡ record_extent p.types r)
said p r h =
    let y = and_of ((record_of p.types r).cells == record_cells p.types r) (same_extent (record_of p.types r).extent (record_extent p.types r)) h in
    (eqb-true (record_of p.types r).cells (record_cells p.types r) y.0, same_extent_is (record_of p.types r).extent (record_extent p.types r) y.1)

-- a number that an INTEGER may have is one of 64 bits, and is read back
pub integer_fits : (z : ℤ) → is_integer z ≡ true → FitsSigned w64 z
integer_fits (pos n) h = let y = and_of (int_le (signed (2 ^ 63)) (pos n)) (int_lt (pos n) (pos (2 ^ 63))) h in record { sfits = omega (arith, ints, y.1) }
integer_fits (negsuc n) h = let y = and_of (int_le (signed (2 ^ 63)) (negsuc n)) (int_lt (negsuc n) (pos (2 ^ 63))) h in record { sfits = omega (arith, ints, y.0) }

pub integer_small : (z : ℤ) → is_integer z ≡ true → unsigned z < 2 ^ 64
integer_small (pos n) h = let y = and_of (int_le (signed (2 ^ 63)) (pos n)) (int_lt (pos n) (pos (2 ^ 63))) h in omega (arith, ints, y.1)
integer_small (negsuc n) h = omega arith

pub step_small : (z : ℤ) → is_step z ≡ true → unsigned z < 2 ^ 64
step_small z h = integer_small z (and_of (is_integer z) (not (int_eq z (pos 0))) h).0
