-- What a well-formed program's table keeps.
use Rattle.std.proofs.Common.{◌≡◌, ℕ, ◌+◌, ◌<◌, ◌≤◌, length, map, sum, true, ◌&&◌, sym, ap, ◌∙◌, ◌⊎◌, inl, inr}
use Rattle.std.specs.Prelude.{nat_le}
use Rattle.std.proofs.lemmas.List.{get_or_past}
use Rattle.ob_types.specs.Forms.{all, all_below, types_fine}
use Rattle.ob_types.specs.Layout.{record_of, types_of, record_cells, base_cells, cells_within, record_within, no_record_type}
use Rattle.ob_types.specs.Trees.{Record, tree_extent, base_row, with_fields, data_tree, record_row, record_extent}
use Rattle.ob_types.specs.WellFormed.{well_formed, level_fine, sizes_fine, argument_words, procedure_fine}
use Rattle.ob_types.specs.declared.program.Program.{Program}
use Rattle.ob_types.proofs.DataTrees.{row_is}
use Rattle.ob_types.proofs.Tests.{and_of, below, less_or_past}
use Rattle.ob_types.proofs.WellFormedParts.{parts_of, said}

module _ (p : Program) (well : well_formed p ≡ true) where
  pub types_are_fine : types_fine p.types ≡ true
  types_are_fine = (parts_of p well).table

  pub procedures_are_fine : (f : ℕ) → f < length p.procedures → procedure_fine p f ≡ true
  procedures_are_fine = (parts_of p well).procedures

  counted : all_below (length p.types.records) (sizes_fine p) ≡ true
  counted =
      let words = all (λ g. nat_le (argument_words g.formals) 24) p.types.signatures && all (λ q. nat_le (argument_words q.formals) 24) p.procedures in
      let levels = (and_of (all_below (length p.types.records) (level_fine p) && all_below (length p.types.records) (sizes_fine p)) words (parts_of p well).counts).0 in
      (and_of (all_below (length p.types.records) (level_fine p)) (all_below (length p.types.records) (sizes_fine p)) levels).1

  -- a record type has the cells that it says
  pub record_counts : (r : ℕ) → record_cells p.types r ≡ (record_of p.types r).cells
  record_counts r = by (less_or_past r (length p.types.records))
    where
      by : (r < length p.types.records) ⊎ (length p.types.records ≤ r) → record_cells p.types r ≡ (record_of p.types r).cells
      by (inl l) = sym ((said p r (below (length p.types.records) (sizes_fine p) counted r l)).0)
      by (inr l) = nothing (get_or_past p.types.records r _ l)
        where
          nothing : record_of p.types r ≡ no_record_type → record_cells p.types r ≡ (record_of p.types r).cells
          nothing e =
              ap (λ q. base_cells q.base (λ b. record_within p.types (length p.types.kinds + length p.types.records) b) + sum (map (cells_within p.types (length p.types.kinds + length p.types.records)) (types_of q.fields))) e
              ∙ sym (ap (λ q. q.cells) e)

  -- and takes the bytes that it says
  pub record_takes : (r : ℕ) → record_extent p.types r ≡ (record_of p.types r).extent
  record_takes r = by (less_or_past r (length p.types.records))
    where
      by : (r < length p.types.records) ⊎ (length p.types.records ≤ r) → record_extent p.types r ≡ (record_of p.types r).extent
      by (inl l) = sym ((said p r (below (length p.types.records) (sizes_fine p) counted r l)).1)
      by (inr l) = nothing (get_or_past p.types.records r _ l)
        where
          nothing : record_of p.types r ≡ no_record_type → record_extent p.types r ≡ (record_of p.types r).extent
          nothing e =
              ap (λ row. tree_extent (Record row)) (row_is p.types types_are_fine r)
              ∙ ap (λ q. tree_extent (Record (with_fields (data_tree p.types) (base_row q.base (record_row p.types)) (types_of q.fields)))) e
              ∙ sym (ap (λ q. q.extent) e)
