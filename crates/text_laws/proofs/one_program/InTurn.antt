-- Uses in turn are uses in order, where a program has as many strings as can be numbered.
use Rattle.std.proofs.Common.{◌≡◌, ℕ, zero, suc, ◌≤◌, List, [], ◌∷◌, map, take, length, Bool, true, false, Option, Some, None, refl, ap, ap₂, ◌∙◌, arith}
use Rattle.std.specs.Prelude.{nat_lt, sum_by}
use Rattle.std.proofs.lemmas.Bool.{ltb-false}
use Rattle.std.proofs.lemmas.List.{length-append}
use Rattle.std.proofs.lemmas.List.Sums.{sum_by-cons}
use Rattle.ob_types.specs.Meaning.{texts_of}
use Rattle.ob_types.specs.Table.{Table}
use Rattle.ob_types.specs.declared.program.Procedure.{Procedure}
use Rattle.ob_types.specs.declared.program.Program.{Program}
use Rattle.ob_judge.specs.Image as I
use Rattle.ob_judge.specs.Texts.{texts_of as strings_of}
use Rattle.judged_tree.specs.Plain.{plain_procedure}
use Rattle.source_image.specs.check_making.scopes.InTurn.{AllUseInTurn}
use Rattle.ssa_lowered.specs.Data.{layout}
use Rattle.ssa_lowered.specs.Limits.{Limit, or_else, passes, limits_from, global_cells, constant_cells, limit_of}
use Rattle.one_lowering.specs.Forms.{tally, numbered_procedure}
use Rattle.one_lowering.specs.Order.{UsesInOrder}
use Rattle.one_lowering.proofs.Uses.{tally_length}

-- ---- the order of uses

front_of_tally : (n m i : ℕ) → n ≤ m → take n (tally i m) ≡ tally i n
front_of_tally zero m i l = refl
front_of_tally (suc n) zero i l = absurd (omega (arith, l))
front_of_tally (suc n) (suc m) i l = ap (λ xs. (i ∷ []) ∷ xs) (front_of_tally n m (suc i) (omega (arith, l)))

module _ (t : Table) (many : ℕ) (few : many ≤ 4294967295) where
  in_order_each : (qs : List Procedure) → AllUseInTurn qs → length (texts_of qs) ≤ many
      → map (λ (x : I.Procedure). strings_of x.body x.answer) (map (plain_procedure t) (map (numbered_procedure many) qs)) ≡ map (λ (x : Procedure). tally 0 (length x.texts)) qs
  in_order_each [] h l = refl
  in_order_each (q ∷ qs) h l =
      let e = length-append q.texts (texts_of qs) in
      let long = tally_length 0 many in
      let own : length q.texts ≤ many = omega (arith, e, l) in
      ap₂ (λ x xs. x ∷ xs)
      ((h.each 0 q refl).each t (tally 0 many) (omega (arith, long, own)) (omega (arith, long, few)) ∙ front_of_tally (length q.texts) many 0 own)
      (in_order_each qs (record { each = λ f r at. h.each (suc f) r at }) (omega (arith, e, l)))

pub in_order : (p : Program) → length (texts_of p.procedures) ≤ 4294967295 → AllUseInTurn p.procedures → UsesInOrder p
in_order p few h = record { each = in_order_each p.types (length (texts_of p.procedures)) few p.procedures h (omega arith) }
