-- The table of types of a program that the judgement gives is one that the language allows, and what is counted is right.
use Rattle.std.proofs.Common.{◌≡◌, ℕ, suc, ◌+◌, ◌-◌, ◌<◌, ◌≤◌, List, [], ◌∷◌, map, length, true, ◌&&◌, ◌||◌, ◌==◌, Option, Some, None, refl, ap, sym, ◌∙◌, subst, arith, eq-eqb}
use Rattle.std.proofs.lemmas.Bool.Decides.{nat_tests}
use Rattle.std.proofs.lemmas.List.Sums.{sum_by-cons}
use Rattle.std.specs.Prelude.{slice_get, nat_lt, nat_le}
use Rattle.ob_types.specs.declared.types.TypeKind.{TypeKind}
use Rattle.ob_types.specs.declared.types.TypeKind.TheVariants as TheKind
use Rattle.ob_types.specs.declared.types.Formal.{Formal}
use Rattle.ob_types.specs.declared.types.Signature.{Signature}
use Rattle.ob_types.specs.declared.program.Procedure.{Procedure as ProcedureOf}
use Rattle.ob_types.specs.declared.program.Program.{Program}
use Rattle.ob_types.specs.Layout.{kind_of, record_of, types_of, cells, record_cells}
use Rattle.ob_types.specs.Forms.{all, all_below, if_base}
use Rattle.ob_types.specs.Trees.{same_extent, record_extent}
use Rattle.ob_types.proofs.DataTrees.{same_extent_from}
use Rattle.ob_types.specs.LegalTypes.{most_cells, is_length, is_record_type, is_variable_type, is_result_type, is_scalar_kind, is_no_kind, kind_legal, type_legal, record_legal, formal_legal, signature_legal, types_legal, mode_fits}
use Rattle.ob_types.specs.WellFormed.{words_of, argument_words, level_by, level_fine, sizes_fine, counts_fine}
use Rattle.ob_types.proofs.Tests.{none_some, and_from, below_from}
use Rattle.ob_judge.specs.Parameters.{mode_of}
use Rattle.ob_judge.specs.Modules.{SoFar, base_in}
use Rattle.judged_tree.specs.Tables.{HasPartsBefore, is_before}
use Rattle.judged_tree.specs.Plain.{plain_formal}
use Rattle.judged_well.specs.Standing.{is_whole, is_formal}
use Rattle.judged_well.specs.OfProgram.{IsFaithful, AreFormals}
use Rattle.judged_well.proofs.Entries.{here, is_here}
use Rattle.judged_modules.proofs.Lists.{get_within}
use Rattle.judged_modules.proofs.Fine.{mode_of_kind}
use Rattle.judged_programs.specs.LegalTable.{IsLegalFormal, IsLegalTable, cells_with, record_count}
use Rattle.judged_programs.proofs.Sorts.{variable_type, result_kind}
use Rattle.judged_programs.proofs.Ends.{IsEndOf, all_from, image_at}
use Rattle.judged_programs.proofs.TableEnds.{record_at, record_there, behind_base, field_before, legal_record}
use Rattle.judged_programs.proofs.TableOrder.{level_behind}
use Rattle.judged_programs.proofs.TableCells.{cells_are_counted, record_cells_are}
use Rattle.judged_programs.proofs.TableExtents.{record_extents_are}
use Rattle.judged_programs.specs.Tidy.{words_in}

is_less : (a b : ℕ) → a < b → nat_lt a b ≡ true
is_less a b h = grind (arith, nat_tests, h)

is_most : (a b : ℕ) → a ≤ b → nat_le a b ≡ true
is_most a b h = grind (arith, nat_tests, h)

module _ (p : Program) (c : SoFar) (end : IsEndOf p c) (ok : IsFaithful p.types) (legal : IsLegalTable p.types) where
  -- ---- counts

  levels_fine : (r : ℕ) → r < length p.types.records → level_fine p r ≡ true
  levels_fine r l = and_from ((record_of p.types r).level == level_by p (record_of p.types r).base) (nat_le (record_of p.types r).level 15)
      (eq-eqb (record_of p.types r).level (level_by p (record_of p.types r).base) (by (record_of p.types r).base refl))
      (is_most (record_of p.types r).level 15 (let s = (legal_record p c end r l).short in let e = ap (λ z. z.level) (record_at p c end r l).same in omega (arith, s, e)))
    where
      root_level : (line : List ℕ) → base_in line ≡ None → length line - 1 ≡ 0
      root_level [] e = refl
      root_level (x ∷ []) e = refl
      root_level (x ∷ y ∷ zs) e = none_some y (sym e)

      by : (o : Option ℕ) → (record_of p.types r).base ≡ o → (record_of p.types r).level ≡ level_by p o
      by None is = ap (λ z. z.level) (record_at p c end r l).same ∙ root_level (record_at p c end r l).layout.line (sym (ap (λ z. z.base) (record_at p c end r l).same) ∙ is)
      by (Some b) is = level_behind p c end ok legal r b is

  words_same : (xs : List Formal) → argument_words xs ≡ words_in (map (plain_formal p.types) xs)
  words_same [] = refl
  words_same (x ∷ xs) = sum_by-cons (λ (y : Formal). words_of y.mode) x xs ∙ ap (λ n. words_of x.mode + n) (words_same xs)

  pub counts_are_fine : counts_fine p ≡ true
  counts_are_fine = and_from (all_below (length p.types.records) (level_fine p) && all_below (length p.types.records) (sizes_fine p)) (all (λ g. nat_le (argument_words g.formals) 24) p.types.signatures && all (λ q. nat_le (argument_words q.formals) 24) p.procedures)
      (and_from (all_below (length p.types.records) (level_fine p)) (all_below (length p.types.records) (sizes_fine p))
      (below_from (length p.types.records) (level_fine p) levels_fine)
      (below_from (length p.types.records) (sizes_fine p) (λ r l. and_from ((record_of p.types r).cells == record_cells p.types r) (same_extent (record_of p.types r).extent (record_extent p.types r))
      (eq-eqb (record_of p.types r).cells (record_cells p.types r) (sym (record_cells_are p c end ok legal r l)))
      (same_extent_from (record_of p.types r).extent (record_extent p.types r) (sym (record_extents_are p c end ok legal r l))))))
      (and_from (all (λ g. nat_le (argument_words g.formals) 24) p.types.signatures) (all (λ q. nat_le (argument_words q.formals) 24) p.procedures)
      (all_from (λ g. nat_le (argument_words g.formals) 24) p.types.signatures (λ g x at. is_most (argument_words x.formals) 24 (legal.signature g x at).words))
      (all_from (λ q. nat_le (argument_words q.formals) 24) p.procedures (λ f r at. is_most (argument_words r.formals) 24 (few f r at))))
    where
      few : (f : ℕ) (r : ProcedureOf) → slice_get p.procedures f ≡ Some r → argument_words r.formals ≤ 24
      few f r at =
          let k = image_at p c end f r at in
          let words = (end.tidy.legal f k.0 k.1).words in
          let same = words_same r.formals ∙ ap words_in (sym (ap (λ z. z.formals) k.2)) in
          omega (arith, words, same)

  -- ---- types

  record_few : (r : ℕ) → r < length p.types.records → record_count p.types r ≤ most_cells
  record_few r l = let f = (legal_record p c end r l).few in let e = ap (λ z. z.cells) (record_at p c end r l).same in omega (arith, f, e)

  kind_there_by : (k : ℕ) → k < length p.types.kinds → (kind : TypeKind) → kind_of p.types k ≡ kind → kind_legal p.types kind ≡ true
  kind_there_by k l (TheKind.Array (Some n) e) is = and_from (is_length (Some n)) (is_variable_type p.types e) (legal.array k n e is).length_allowed (variable_type p.types ok e (legal.array k n e is).element)
  kind_there_by k l (TheKind.Array None e) is = variable_type p.types ok e (legal.open_array k e is)
  kind_there_by k l (TheKind.Record r) is = is_less r (length p.types.records) (legal.record_there k r is)
  kind_there_by k l (TheKind.Pointer r) is = is_less r (length p.types.records) (ok.target k r is)
  kind_there_by k l (TheKind.Procedure g) is = is_less g (length p.types.signatures) (by (slice_get p.types.signatures g) refl (subst (HasPartsBefore p.types k) is (ok.front.parts k l)))
    where
      by : (o : Option Signature) → slice_get p.types.signatures g ≡ o → is_before k o → g < length p.types.signatures
      by None i h = absurd h
      by (Some x) i h = get_within p.types.signatures g x i
  kind_there_by k l TheKind.Int is = refl
  kind_there_by k l _ is = refl

  cells_few_by : (k : ℕ) → k < length p.types.kinds → (kind : TypeKind) → kind_of p.types k ≡ kind → cells p.types k ≤ most_cells
  cells_few_by k l (TheKind.Array (Some n) e) is = let a = cells_are_counted p c end ok legal k l in let b = (legal.array k n e is).few in omega (arith, a, b)
  cells_few_by k l (TheKind.Record r) is =
      let a = cells_are_counted p c end ok legal k l ∙ ap (cells_with (record_count p.types)) (is_here p.types ok k ∙ ap (here p.types ok k) is) in
      let b = record_few r (legal.record_there k r is) in
      omega (arith, a, b)
  cells_few_by k l TheKind.Int is = let a = cells_are_counted p c end ok legal k l ∙ ap (cells_with (record_count p.types)) (is_here p.types ok k ∙ ap (here p.types ok k) is) in omega (arith, a)
  cells_few_by k l _ is = let a = cells_are_counted p c end ok legal k l ∙ ap (cells_with (record_count p.types)) (is_here p.types ok k ∙ ap (here p.types ok k) is) in omega (arith, a)

  records_legal : (r : ℕ) → r < length p.types.records → record_legal p.types r ≡ true
  records_legal r l = and_from (nat_le (record_of p.types r).cells most_cells) (if_base (record_of p.types r).base (is_record_type p.types) && all (is_variable_type p.types) (types_of (record_of p.types r).fields))
      (is_most (record_of p.types r).cells most_cells (record_few r l))
      (and_from (if_base (record_of p.types r).base (is_record_type p.types)) (all (is_variable_type p.types) (types_of (record_of p.types r).fields))
      (by (record_of p.types r).base refl)
      (all_from (is_variable_type p.types) (types_of (record_of p.types r).fields) (λ i k at. let f = field_before p c end r i k l at in variable_type p.types ok k (ap is_whole (sym f.2) ∙ (f.1).0.whole))))
    where
      by : (o : Option ℕ) → (record_of p.types r).base ≡ o → if_base o (is_record_type p.types) ≡ true
      by None is = refl
      by (Some b) is = let x = behind_base p c end r b l is in is_less b (length p.types.records) (record_there p c end b x.upper x.there)

  formals_legal : (xs : List Formal) → AreFormals p.types xs → ((i : ℕ) (x : Formal) → slice_get xs i ≡ Some x → IsLegalFormal p.types x) → all (formal_legal p.types) xs ≡ true
  formals_legal [] h each = refl
  formals_legal (x ∷ xs) h each =
      let shape = is_here p.types ok x.type_number in
      and_from (formal_legal p.types x) (all (formal_legal p.types) xs)
      (subst (λ m. mode_fits m x.variable (kind_of p.types x.type_number) ≡ true) (sym (h.1 ∙ ap (mode_of x.variable) shape))
      (mode_of_kind p.types ok x.type_number x.variable (kind_of p.types x.type_number) (ap is_formal (sym shape) ∙ (each 0 x refl).formal)))
      (formals_legal xs h.2 (λ i y at. each (suc i) y at))

  signatures_legal : (g : ℕ) (x : Signature) → slice_get p.types.signatures g ≡ Some x → signature_legal p.types x ≡ true
  signatures_legal g x at = and_from (all (formal_legal p.types) x.formals) (is_result_type p.types x.result)
      (formals_legal x.formals (ok.formals g x at) (legal.signature g x at).formals)
      (and_from (nat_lt x.result (length p.types.kinds)) (is_scalar_kind (kind_of p.types x.result) || is_no_kind (kind_of p.types x.result))
      (is_less x.result (length p.types.kinds) (ok.result g x at).there)
      (result_kind p.types ok x.result (legal.signature g x at).result))

  pub types_are_legal : types_legal p.types ≡ true
  types_are_legal = and_from (all_below (length p.types.kinds) (type_legal p.types)) (all_below (length p.types.records) (record_legal p.types) && all (signature_legal p.types) p.types.signatures)
      (below_from (length p.types.kinds) (type_legal p.types) (λ k l. and_from (kind_legal p.types (kind_of p.types k)) (nat_le (cells p.types k) most_cells) (kind_there_by k l (kind_of p.types k) refl) (is_most (cells p.types k) most_cells (cells_few_by k l (kind_of p.types k) refl))))
      (and_from (all_below (length p.types.records) (record_legal p.types)) (all (signature_legal p.types) p.types.signatures)
      (below_from (length p.types.records) (record_legal p.types) records_legal)
      (all_from (signature_legal p.types) p.types.signatures signatures_legal))
