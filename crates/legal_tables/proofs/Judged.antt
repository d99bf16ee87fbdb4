-- Array and procedure types that the judgement accepts are legal.
use Rattle.std.proofs.Common.{◌≡◌, ℕ, zero, suc, ◌+◌, List, [], ◌∷◌, map, true, Some, refl, ap, sym, ◌∙◌, subst, arith}
use Rattle.std.proofs.lemmas.Bool.Decides.{nat_tests}
use Rattle.std.proofs.lemmas.List.Sums.{sum_by-cons}
use Rattle.std.specs.Prelude.{slice_get, nat_le, pos}
use Rattle.ob_types.specs.declared.types.Formal.{Formal}
use Rattle.ob_types.specs.declared.types.Signature.{Signature}
use Rattle.ob_types.specs.WellFormed.{words_of, argument_words}
use Rattle.ob_types.proofs.Tests.{none_some, some_same}
use Rattle.ob_judge.specs.Shapes.{Shape, Array, Known, cells}
use Rattle.ob_judge.specs.Parameters.{Listed}
use Rattle.ob_judge.specs.Types.{is_length, limit}
use Rattle.judged_tree.specs.TypeShapes.{shape_of}
use Rattle.judged_tree.specs.Plain.{plain_formal}
use Rattle.judged_well.specs.Standing.{is_result}
use Rattle.judged_modules.specs.Lists.{Each}
use Rattle.judged_programs.specs.Complete.{IsKnown}
use Rattle.judged_programs.specs.LegalTable.{IsLegalFormal}
use Rattle.judged_programs.specs.Tidy.{words_in, IsHandedOver, AreListed}
use Rattle.check_types.specs.declared.table.TypeTable.{TypeTable}
use Rattle.legal_tables.specs.Promised.{IsLegalArray, HasLegalParts}

pub array_legal : (known : Known) (n : ℕ) (a : Shape) → is_length (pos n) ≡ true → IsKnown known.records a → nat_le (cells known (Array n a)) limit ≡ true → IsLegalArray known n a
array_legal known n a length known_a few = record { length_allowed = length; complete = known_a.core_there; few = grind (arith, nat_tests, few) }

module _ (t : TypeTable) where
  handed_over : (xs : List Formal) → Each IsHandedOver (map (plain_formal t.types) xs) → (i : ℕ) (y : Formal) → slice_get xs i ≡ Some y → IsLegalFormal t.types y
  handed_over [] h i y at = none_some y at
  handed_over (x ∷ xs) h zero y at = subst (IsLegalFormal t.types) (some_same x y at) (record { mode = (h.0).0; formal = (h.0).1 })
  handed_over (x ∷ xs) h (suc i) y at = handed_over xs h.1 i y at

  words_same : (xs : List Formal) → argument_words xs ≡ words_in (map (plain_formal t.types) xs)
  words_same [] = refl
  words_same (x ∷ xs) = sum_by-cons (λ (y : Formal). words_of y.mode) x xs ∙ ap (λ n. words_of x.mode + n) (words_same xs)

  pub parts_legal : (x : Signature) (l : Listed) → map (plain_formal t.types) x.formals ≡ l.parameters → AreListed l → is_result (shape_of t.types x.result) ≡ true → HasLegalParts t x
  parts_legal x l same listed result = record {
    formals = handed_over x.formals (subst (Each IsHandedOver) (sym same) listed.formals);
    words = let w = words_same x.formals ∙ ap words_in same ∙ listed.counted in let f = listed.few in omega (arith, w, f);
    result = result;
  }
