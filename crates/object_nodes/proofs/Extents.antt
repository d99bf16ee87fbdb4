-- Fields stand where the table says, in bytes and in cells, and variables behind the rooms of those before them.
use Rattle.std.proofs.Common.{◌≡◌, ℕ, zero, suc, ◌+◌, ◌*◌, List, [], ◌∷◌, map, take, sum, true, false, Some, refl, sym, ap, ◌∙◌}
use Rattle.std.specs.Prelude.{slice_get, slice_index}
use Rattle.std.proofs.lemmas.List.Sums.{sum_by-cons}
use Rattle.ob_types.specs.Layout.{record_of, types_of, field_place}
use Rattle.ob_types.specs.Table.{Table}
use Rattle.ob_types.specs.Trees.{round_up, wide, row_end, data_tree, fields_before, bytes, field_offset}
use Rattle.ob_types.proofs.Tests.{none_some, some_same}
use Rattle.ob_types.proofs.DataTrees.{place_is}
use Rattle.ob_types.proofs.TreeBytes.{field_eight}
use Rattle.object_nodes.specs.Nodes.{variable_start}
use Rattle.object_nodes.proofs.Trees.{byte_place}

index_is : (xs : List ℕ) (n k : ℕ) → slice_get xs n ≡ Some k → slice_index xs n ≡ k
index_is [] n k at = none_some k at
index_is (x ∷ xs) zero k at = some_same x k at
index_is (x ∷ xs) (suc n) k at = index_is xs n k at

module _ (t : Table) where
  -- a field stands where the packed layout has it
  pub packed_place : (r n k : ℕ) → slice_get (types_of (record_of t r).fields) n ≡ Some k → field_offset t r n ≡ byte_place t true r n k
  unfolding byte_place
  packed_place r n k at = ap (λ j. round_up (wide true (data_tree t j)) (row_end true (fields_before t r n))) (index_is (types_of (record_of t r).fields) n k at)

  -- and where eight bytes a cell have it
  pub cell_place : (r n k : ℕ) → byte_place t false r n k ≡ 8 * field_place t r n
  unfolding byte_place
  cell_place r n k = field_eight (fields_before t r n) (data_tree t k) ∙ ap (λ m. 8 * m) (place_is t r n)

  pub variable_rooms : (ks : List ℕ) (v : ℕ) → variable_start true (map (data_tree t) ks) v ≡ sum (map (λ k. round_up true (bytes t k)) (take v ks))
  variable_rooms [] zero = refl
  variable_rooms [] (suc v) = refl
  variable_rooms (k ∷ ks) zero = refl
  variable_rooms (k ∷ ks) (suc v) =
      ap (λ n. round_up true (bytes t k) + n) (variable_rooms ks v)
      ∙ sym (sum_by-cons (λ n. n) (round_up true (bytes t k)) (map (λ k. round_up true (bytes t k)) (take v ks)))
