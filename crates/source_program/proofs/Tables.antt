-- The table of a well-formed program, where it is legal, is counted.
use Rattle.std.proofs.Common.{◌≡◌, ◌<◌, ◌≤◌, ℕ, length, true, ◌&&◌, Option, subst, arith, inl, inr}
use Rattle.std.specs.Prelude.{nat_le}
use Rattle.std.proofs.lemmas.Bool.Decides.{nat_tests}
use Rattle.std.proofs.lemmas.List.{get_or_past}
use Rattle.ob_types.specs.Counted.{IsCounted, IsLaidOut}
use Rattle.ob_types.specs.Forms.{all, all_below}
use Rattle.ob_types.specs.Layout.{kind_of, record_of, cells, record_cells}
use Rattle.ob_types.specs.LegalTypes.{most_cells, kind_legal, type_legal, record_legal, signature_legal}
use Rattle.ob_types.specs.Table.{Table}
use Rattle.ob_types.specs.WellFormed.{argument_words, level_fine, sizes_fine, well_formed}
use Rattle.ob_types.specs.declared.program.Program.{Program}
use Rattle.ob_types.specs.declared.types.TypeKind.TheVariants as TheKind
use Rattle.ob_types.proofs.Tests.{and_of, below, less_or_past}
use Rattle.ob_types.proofs.WellFormedParts.{parts_of, said}
use Rattle.ob_types.proofs.DataTrees.{cells_are}
use Rattle.ob_types.proofs.TreeBytes.{bytes_few}
use Rattle.ob_types.specs.Trees.{record_extent, data_tree}
use Rattle.judged_programs.specs.LegalTable.{IsLegalTable}
use Rattle.judged_tree.specs.Tables.{HasPartsBefore}

-- a number of an array type is one of the table
array_there : (t : Table) (k : ℕ) (n : Option ℕ) (e : ℕ) → kind_of t k ≡ TheKind.Array n e → k < length t.kinds
array_there t k n e is = elim (less_or_past k (length t.kinds)) [ inl l ↦ l | inr le ↦ absurd (let past = get_or_past t.kinds k TheKind.Nothing le in cc) ]

module _ (p : Program) (fine : well_formed p ≡ true) (legal : IsLegalTable p.types) where
  abbrev t : Table
  t = p.types

  before : (k : ℕ) (n : Option ℕ) (e : ℕ) → kind_of t k ≡ TheKind.Array n e → e < k
  before k n e is = subst (HasPartsBefore t k) is (legal.front.parts k (array_there t k n e is))

  sizes_said : (r : ℕ) → r < length t.records → ((record_of t r).cells ≡ record_cells t r) × ((record_of t r).extent ≡ record_extent t r)
  sizes_said r l =
      let parts = parts_of p fine in
      let levels = all_below (length t.records) (level_fine p) in
      let sizes = all_below (length t.records) (sizes_fine p) in
      let words = all (λ g. nat_le (argument_words g.formals) 24) t.signatures && all (λ q. nat_le (argument_words q.formals) 24) p.procedures in
      let tests = and_of levels sizes (and_of (levels && sizes) words parts.counts).0 in
      said p r (below (length t.records) (sizes_fine p) tests.1 r l)

  few_cells : (k : ℕ) → k < length t.kinds → cells t k ≤ most_cells
  few_cells k l =
      let parts = parts_of p fine in
      let tests = and_of (all_below (length t.kinds) (type_legal t)) (all_below (length t.records) (record_legal t) && all (signature_legal t) t.signatures) parts.legal in
      let one = and_of (kind_legal t (kind_of t k)) (nat_le (cells t k) most_cells) (below (length t.kinds) (type_legal t) tests.0 k l) in
      let small = one.1 in
      grind (arith, nat_tests, small)

  pub counted : IsCounted p.types
  counted = record {
    fine = (parts_of p fine).table;
    element = before;
    record_there = legal.record_there;
    records = λ r l. (sizes_said r l).0;
    few = λ k l. let few = few_cells k l in omega (arith, few);
  }

  pub laid_out : IsLaidOut p.types
  laid_out = record {
    records = λ r l. (sizes_said r l).1;
    few = λ k l. let few = few_cells k l in let cells = cells_are t k in let bytes = bytes_few true (data_tree t k) in omega (arith, few, cells, bytes);
  }
