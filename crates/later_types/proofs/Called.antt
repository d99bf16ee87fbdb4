-- Calls and standard procedures are judged alike where more types are known.
use Rattle.std.proofs.Common.{ℕ, List, [], ◌∷◌, Bool, true, false, not, ◌&&◌, ◌||◌, refl, ap}
use Rattle.std.specs.Prelude.{is_some}
use Rattle.ob_types.specs.declared.tree.Binary.{Binary}
use Rattle.ob_types.specs.declared.tree.Binary.TheVariants as TheBinary
use Rattle.ob_judge.specs.Judged.{Judged}
use Rattle.ob_judge.specs.Shapes.{Shape, Integer, Char, Procedure, Formals, one, Known, target_of, element_of, is_set, is_truth}
use Rattle.ob_judge.specs.Image.{Result, no_argument, next_argument, Arguments, Argument, Statement, Checked, Designator}
use Rattle.ob_judge.specs.Image as Tree
use Rattle.ob_judge.specs.Operators.{is_text}
use Rattle.ob_judge.specs.Scopes.{World, Source, Standard, Abs, Odd, Len, Lsl, Asr, Ror, Ord, Chr, Inc, Dec, Incl, Excl, New, Assert, OutChar, OutInt, OutString, OutLn, InChar}
use Rattle.ob_judge.specs.Operands.{Operand, value, is_variable, is_narrowed}
use Rattle.ob_judge.specs.Calls.{Given, stored, may_assign, may_name, is_chars, may_pass, as_reference, as_passed, written, bound, is_count, all_bound, call_of, called, number, assigned_to, shifted, changed, set_changed, by_one, may_order, is_char_only, standard}
use Rattle.ob_judge.specs.Parts.{applied}
use Rattle.judged_well.specs.Gives.{Gives}
use Rattle.judged_well.proofs.Judging.{keeps, and_then, by_rule, by_unit, anything}
use Rattle.later_types.proofs.Alike.{Alike, alone, alike_keeps, alike_breaks, behind, behind_rule, behind_some, behind_unit}
use Rattle.later_types.proofs.Within.{Within, AllWithin, OperandWithin, Ready, more}
use Rattle.later_types.proofs.Knowing.{target_same, may_assign_same, may_name_same, may_pass_same}

module _ (P : ℕ → Type 0) (n : ℕ) where
  abbrev Good : Operand → Type 0
  Good = OperandWithin P n

  -- arguments that were walked
  abbrev pub GivenWithin : List Given → Type 0
  GivenWithin [] = Unit {0}
  GivenWithin (x ∷ xs) = OperandWithin P n x.operand × GivenWithin xs

  a_shifted : (operator : Binary) (x y : Given) → Gives Good (shifted operator x y)
  a_shifted operator x y = and_then (anything (number x)) (λ a i. and_then (anything (number y)) (λ b j. keeps Good _ (tt, tt)))

  a_changed : (change : Designator → Checked → Statement) (v : Given) (m : Judged Checked) → Gives Good (changed change v m)
  a_changed change v m = by_unit (written v) (and_then (anything (number v)) (λ c z. and_then (anything m) (λ x i. keeps Good _ (tt, tt))))

  a_set_changed : (change : Designator → Checked → Statement) (v x : Given) → Gives Good (set_changed change v x)
  a_set_changed change v x = by_unit (written v) (by_rule 31 v.at (is_set v.operand.shape) (λ it. and_then (anything (number x)) (λ a i. keeps Good _ (tt, tt))))

module _ (P : ℕ → Type 0) (n : ℕ) (p : Source) (w : World) (later : Known) (ready : Ready P n w later) where
  abbrev Fits : Operand → Type 0
  Fits = OperandWithin P n

  abbrev All : List Given → Type 0
  All = GivenWithin P n

  -- ---- calls

  a_bound : (v : Bool) (t : Shape) (x : Given) → Within P n t → Fits x.operand → Alike (λ (a : Argument). Unit {0}) (bound w v t x) (bound (more w later) v t x)
  a_bound true t x g h = behind_unit (written x) (behind_rule 31 x.at (not (is_narrowed x.operand) && may_name w.known t x.operand.shape) (not (is_narrowed x.operand) && may_name later t x.operand.shape)
      (ap (λ b. not (is_narrowed x.operand) && b) (may_name_same P n w later ready t x.operand.shape h)) (λ may. alike_keeps (λ a. Unit {0}) (as_reference t x.operand) tt))
  a_bound false t x g h = behind_rule 31 x.at (may_pass w.known t x.operand) (may_pass later t x.operand) (may_pass_same P n w later ready t x.operand g h) (λ may. alike_keeps (λ a. Unit {0}) (as_passed t x.operand) tt)

  all_alike : (ps : Formals) (xs : List Given) → AllWithin P n ps → All xs → Alike (λ (a : Arguments). Unit {0}) (all_bound w ps xs) (all_bound (more w later) ps xs)
  all_alike (one v t ps) (x ∷ xs) g h = behind (a_bound v t x ((g.0).0, (g.1).0) h.0) (λ a i. behind (all_alike ps xs ((g.0).1, (g.1).1) h.1) (λ bs j. alike_keeps (λ a. Unit {0}) (next_argument a bs) tt))
  all_alike ps xs g h = alike_keeps (λ a. Unit {0}) no_argument tt

  pub a_called : (at : ℕ) (x : Operand) (ps : Formals) (result : Shape) → AllWithin P n ps → Within P n result → (xs : List Given) → GivenWithin P n xs
      → Alike (OperandWithin P n) (called w at x ps result xs) (called (more w later) at x ps result xs)
  a_called at x ps result g k xs all = behind_rule 40 at (is_count ps xs) (is_count ps xs) refl (λ count. behind (all_alike ps xs g all) (λ bs i.
      alike_keeps Fits (value result (Result (call_of x x.what bs))) k))

  pub a_applied : (at : ℕ) (x : Operand) (s : Shape) → Within P n s → (xs : List Given) → GivenWithin P n xs → Alike (OperandWithin P n) (applied p w at x s xs) (applied p (more w later) at x s xs)
  a_applied at x (Procedure ps result) g xs all = a_called at x ps result ((g.0).0, (g.1).0) ((g.0).1, (g.1).1) xs all
  a_applied at x _ g xs all = alike_breaks Fits 31 at

  -- ---- standard procedures

  a_assigned : (t : Shape) (x : Given) → Within P n t → Fits x.operand → Alike (λ (a : Checked). Unit {0}) (assigned_to w t x) (assigned_to (more w later) t x)
  a_assigned t x g h = behind_rule 31 x.at (may_assign w.known t x.operand) (may_assign later t x.operand) (may_assign_same P n w later ready t x.operand g h) (λ may. alike_keeps (λ a. Unit {0}) (stored t x.operand) tt)

  pub a_standard : (at : ℕ) (s : Standard) (xs : List Given) → GivenWithin P n xs → Alike (OperandWithin P n) (standard w at s xs) (standard (more w later) at s xs)
  a_standard at Abs (x ∷ []) h = alone (and_then (anything (number x)) (λ a i. keeps Fits _ (tt, tt)))
  a_standard at Odd (x ∷ []) h = alone (and_then (anything (number x)) (λ a i. keeps Fits _ (tt, tt)))
  a_standard at Len (x ∷ []) h = alone (by_rule 31 x.at (is_variable x.operand && is_some (element_of x.operand.shape)) (λ it. keeps Fits _ (tt, tt)))
  a_standard at Lsl (x ∷ y ∷ []) h = alone (a_shifted P n TheBinary.Lsl x y)
  a_standard at Asr (x ∷ y ∷ []) h = alone (a_shifted P n TheBinary.Asr x y)
  a_standard at Ror (x ∷ y ∷ []) h = alone (a_shifted P n TheBinary.Ror x y)
  a_standard at Ord (x ∷ []) h = alone (by_rule 31 x.at (may_order x.operand.shape) (λ it. keeps Fits _ (tt, tt)))
  a_standard at Chr (x ∷ []) h = alone (and_then (anything (number x)) (λ a i. keeps Fits _ (tt, tt)))
  a_standard at Inc (v ∷ []) h = alone (a_changed P n Tree.Increase v by_one)
  a_standard at Inc (v ∷ y ∷ []) h = alone (a_changed P n Tree.Increase v (number y))
  a_standard at Dec (v ∷ []) h = alone (a_changed P n Tree.Decrease v by_one)
  a_standard at Dec (v ∷ y ∷ []) h = alone (a_changed P n Tree.Decrease v (number y))
  a_standard at Incl (v ∷ x ∷ []) h = alone (a_set_changed P n Tree.Include v x)
  a_standard at Excl (v ∷ x ∷ []) h = alone (a_set_changed P n Tree.Exclude v x)
  a_standard at New (v ∷ []) h = behind_unit (written v) (behind_some 31 v.at (target_of w.known v.operand.shape) (target_of later v.operand.shape) (target_same P n w later ready v.operand.shape h.0) (λ r is.
      alone (by_rule 31 v.at (not (is_narrowed v.operand)) (λ it. keeps Fits _ (tt, tt)))))
  a_standard at Assert (x ∷ []) h = alone (by_rule 31 x.at (is_truth x.operand.shape) (λ it. keeps Fits _ (tt, tt)))
  a_standard at OutChar (x ∷ []) h = behind (a_assigned Char x (tt, tt) h.0) (λ a i. alike_keeps Fits _ (tt, tt))
  a_standard at OutInt (x ∷ y ∷ []) h = behind (a_assigned Integer x (tt, tt) h.0) (λ a i. behind (a_assigned Integer y (tt, tt) (h.1).0) (λ b j. alike_keeps Fits _ (tt, tt)))
  a_standard at OutString (x ∷ []) h = alone (by_rule 31 x.at (is_chars x.operand.what || is_variable x.operand && is_text x.operand.shape) (λ it. keeps Fits _ (tt, tt)))
  a_standard at OutLn [] h = alike_keeps Fits _ (tt, tt)
  a_standard at InChar (v ∷ []) h = alone (by_unit (written v) (by_rule 31 v.at (is_char_only v.operand.shape) (λ it. keeps Fits _ (tt, tt))))
  a_standard at s xs h = alike_breaks Fits 40 at
