-- No type and no record type has more cells than types may have.
use Rattle.std.proofs.Common.{◌≡◌, ℕ, ◌+◌, ◌≤◌, ⊎_elim, map, length, sym, ap, ◌∙◌, arith, true, ◌&&◌, leb-true, ltb-true}
use Rattle.std.specs.Prelude.{◌<◌, nat_le, sum}
use Rattle.std.proofs.lemmas.Bool.{cases_lt}
use Rattle.std.proofs.lemmas.List.{get_or_past}
use Rattle.ob_types.specs.Forms.{all, all_below, if_base}
use Rattle.ob_types.specs.Layout.{kind_of, record_of, types_of, cells, record_cells, cells_by, cells_within, record_within, base_cells, no_record_type}
use Rattle.ob_types.specs.LegalTypes.{kind_legal, type_legal, record_legal, signature_legal, is_record_type, is_variable_type, types_legal, most_cells}
use Rattle.ob_types.specs.WellFormed.{argument_words, counts_fine, level_fine, sizes_fine, variables_fine, bodies_in_order, declarations_fine}
use Rattle.ob_types.specs.declared.program.Program.{Program}
use Rattle.ob_types.specs.declared.types.TypeKind.TheVariants.{Nothing}
use Rattle.ob_types.specs.declared.types.TypeKind.TheVariants.{Record as RecordOf, Pointer as PointerTo}
use Rattle.ob_types.proofs.WellFormedParts.{said}
use Rattle.ob_types.proofs.Tests.{and_of, below}

module _ (p : Program) (declared : declarations_fine p ≡ true) where
  legal : (types_legal p.types ≡ true) × (counts_fine p ≡ true)
  legal = and_of (types_legal p.types) (counts_fine p) (and_of (types_legal p.types && counts_fine p) (variables_fine p && bodies_in_order p) declared).0

  pub cells_few : (k : ℕ) → cells p.types k ≤ most_cells
  cells_few k = ⊎_elim
      (λ (lt : k < length p.types.kinds).
      let all_types = and_of (all_below (length p.types.kinds) (type_legal p.types)) (all_below (length p.types.records) (record_legal p.types) && all (signature_legal p.types) p.types.signatures) legal.0 in
      let one = below (length p.types.kinds) (type_legal p.types) all_types.0 k lt in
      leb-true (cells p.types k) most_cells (and_of (kind_legal p.types (kind_of p.types k)) (nat_le (cells p.types k) most_cells) one).1)
      (λ (ge : length p.types.kinds ≤ k).
      let e = ap (cells_by (cells_within p.types (length p.types.kinds + length p.types.records)) (record_within p.types (length p.types.kinds + length p.types.records))) (get_or_past p.types.kinds k Nothing ge) in
      omega (arith, e))
      (cases_lt k (length p.types.kinds))

  pub record_cells_few : (r : ℕ) → record_cells p.types r ≤ most_cells
  record_cells_few r = ⊎_elim
      (λ (lt : r < length p.types.records).
      let all_types = and_of (all_below (length p.types.kinds) (type_legal p.types)) (all_below (length p.types.records) (record_legal p.types) && all (signature_legal p.types) p.types.signatures) legal.0 in
      let all_records = and_of (all_below (length p.types.records) (record_legal p.types)) (all (signature_legal p.types) p.types.signatures) all_types.1 in
      let one = below (length p.types.records) (record_legal p.types) all_records.0 r lt in
      let few = leb-true (record_of p.types r).cells most_cells (and_of (nat_le (record_of p.types r).cells most_cells) (if_base (record_of p.types r).base (is_record_type p.types) && all (is_variable_type p.types) (types_of (record_of p.types r).fields)) one).0 in
      let counts = and_of (all_below (length p.types.records) (level_fine p) && all_below (length p.types.records) (sizes_fine p)) (all (λ g. nat_le (argument_words g.formals) 24) p.types.signatures && all (λ q. nat_le (argument_words q.formals) 24) p.procedures) legal.1 in
      let sizes = and_of (all_below (length p.types.records) (level_fine p)) (all_below (length p.types.records) (sizes_fine p)) counts.0 in
      let same = (said p r (below (length p.types.records) (sizes_fine p) sizes.1 r lt)).0 in
      omega (arith, few, same))
      (λ (ge : length p.types.records ≤ r).
      let e = ap (λ (x : _). base_cells x.base (record_within p.types (length p.types.kinds + length p.types.records)) + sum (map (cells_within p.types (length p.types.kinds + length p.types.records)) (types_of x.fields))) (get_or_past p.types.records r no_record_type ge) in
      omega (arith, e))
      (cases_lt r (length p.types.records))

  kind_there : (k : ℕ) → kind_legal p.types (kind_of p.types k) ≡ true
  kind_there k = ⊎_elim
      (λ (lt : k < length p.types.kinds).
      let all_types = and_of (all_below (length p.types.kinds) (type_legal p.types)) (all_below (length p.types.records) (record_legal p.types) && all (signature_legal p.types) p.types.signatures) legal.0 in
      (and_of (kind_legal p.types (kind_of p.types k)) (nat_le (cells p.types k) most_cells) (below (length p.types.kinds) (type_legal p.types) all_types.0 k lt)).0)
      (λ (ge : length p.types.kinds ≤ k). ap (kind_legal p.types) (get_or_past p.types.kinds k Nothing ge))
      (cases_lt k (length p.types.kinds))

  pub record_there : (k r : ℕ) → kind_of p.types k ≡ RecordOf r → r < length p.types.records
  record_there k r is = ltb-true r (length p.types.records) (sym (ap (kind_legal p.types) is) ∙ kind_there k)

  pub target_there : (k r : ℕ) → kind_of p.types k ≡ PointerTo r → r < length p.types.records
  target_there k r is = ltb-true r (length p.types.records) (sym (ap (kind_legal p.types) is) ∙ kind_there k)
