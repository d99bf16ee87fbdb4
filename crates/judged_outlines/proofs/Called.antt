-- Calls and standard procedures name pointer types that there are.
use Rattle.std.proofs.Common.{◌≡◌, ℕ, ◌<◌, List, [], ◌∷◌, Bool, true, false, not, ◌&&◌, ◌||◌, Option, refl, ap, ap₂}
use Rattle.std.specs.Prelude.{slice_get, is_some}
use Rattle.ob_types.specs.declared.tree.Unary.TheVariants as TheUnary
use Rattle.ob_types.specs.declared.tree.Binary.{Binary}
use Rattle.ob_types.specs.declared.tree.Binary.TheVariants as TheBinary
use Rattle.ob_judge.specs.Judged.{Judged}
use Rattle.ob_judge.specs.Shapes.{Shape, Integer, Boolean, Char, Nothing, Array, Open, Record, Procedure, Formals, none, one, target_of, element_of, is_number, is_set, is_truth}
use Rattle.ob_judge.specs.Image.{Expr, Literal, Apply, Linked, Operate, AsByte, Length, Result, Call, Direct, Indirect, Argument, ByValue, ByPlace, ByRecord, ByOpen, Arguments, no_argument, next_argument, Statement, Checked, Designator}
use Rattle.ob_judge.specs.Image as Tree
use Rattle.ob_judge.specs.Operators.{is_text, operated}
use Rattle.ob_judge.specs.Scopes.{World, Standard, Abs, Odd, Len, Lsl, Asr, Ror, Ord, Chr, Inc, Dec, Incl, Excl, New, Assert, OutChar, OutInt, OutString, OutLn, InChar}
use Rattle.ob_judge.specs.Scopes.{Source}
use Rattle.ob_judge.specs.Operands.{Operand, operand, What, Named, Valued, Code, Proper, AsConstant, AsValue, value, is_variable, is_narrowed, form, checked, designator_of}
use Rattle.ob_judge.specs.Calls.{Given, stored, may_assign, may_name, is_chars, may_pass, as_reference, as_passed, written, bound, is_count, all_bound, call_of, called, number, assigned_to, function, proper, shifted, changed, set_changed, by_one, may_order, is_char_only, standard}
use Rattle.ob_judge.specs.Parts.{applied}
use Rattle.judged_tree.specs.Outline.{outlined_argument, outlined_arguments, outlined_call}
use Rattle.judged_well.specs.Gives.{Gives}
use Rattle.judged_well.proofs.Judging.{keeps, breaks, and_then, by_rule, by_some, by_unit, anything}
use Rattle.judged_outlines.specs.Among.{PointsAmong}
use Rattle.judged_outlines.proofs.Images.{OperandStays, ExprStays, DesignatorStays, CheckedStays, StatementStays, form_stays, designator_stays, checked_stays, stored_stays, stored_form}

module _ (n : ℕ) (p : Source) (w : World) (before later : List (Option ℕ)) (same : (k : ℕ) → k < n → slice_get later k ≡ slice_get before k) where
  abbrev Stays : Operand → Type 0
  Stays = OperandStays n before later same

  abbrev Same : Expr → Type 0
  Same = ExprStays n before later same

  abbrev SameDesignator : Designator → Type 0
  SameDesignator = DesignatorStays n before later same

  abbrev SameChecked : Checked → Type 0
  SameChecked = CheckedStays n before later same

  abbrev SameStatement : Statement → Type 0
  SameStatement = StatementStays n before later same

  abbrev SameArgument : Argument → Type 0
  SameArgument x = outlined_argument later x ≡ outlined_argument before x

  abbrev SameArguments : Arguments → Type 0
  SameArguments xs = outlined_arguments later xs ≡ outlined_arguments before xs

  abbrev SameCall : Call → Type 0
  SameCall c = outlined_call later c ≡ outlined_call before c

  -- arguments that were walked
  abbrev pub AllStay : List Given → Type 0
  AllStay [] = Unit {0}
  AllStay (x ∷ xs) = Stays x.operand × AllStay xs

  formed : (x : Operand) → Stays x → Same (form x)
  formed x h = form_stays n before later same x h

  pointed : (x : Operand) → Stays x → SameDesignator (designator_of x)
  pointed x h = designator_stays n before later same x h

  -- ---- calls

  reference_stays : (t : Shape) (x : Operand) → Stays x → SameArgument (as_reference t x)
  reference_stays (Open a) x h = ap ByOpen (pointed x h)
  reference_stays (Record r) x h = ap ByRecord (pointed x h)
  reference_stays Integer x h = ap ByPlace (pointed x h)
  reference_stays _ x h = ap ByPlace (pointed x h)

  passed_stays : (t : Shape) (x : Operand) → Stays x → SameArgument (as_passed t x)
  passed_stays (Open a) x h = ap ByOpen (pointed x h)
  passed_stays (Record r) x h = ap ByPlace (pointed x h)
  passed_stays (Array m a) x h = ap ByPlace (pointed x h)
  passed_stays Integer x h = ap ByValue (stored_form n before later same Integer x h)
  passed_stays t x h = ap ByValue (stored_form n before later same t x h)

  a_bound : (v : Bool) (t : Shape) (x : Given) → Stays x.operand → Gives SameArgument (bound w v t x)
  a_bound true t x h = by_unit (written x) (by_rule 31 x.at (not (is_narrowed x.operand) && may_name w.known t x.operand.shape) (λ may. keeps SameArgument (as_reference t x.operand) (reference_stays t x.operand h)))
  a_bound false t x h = by_rule 31 x.at (may_pass w.known t x.operand) (λ may. keeps SameArgument (as_passed t x.operand) (passed_stays t x.operand h))

  all_stay : (ps : Formals) (xs : List Given) → AllStay xs → Gives SameArguments (all_bound w ps xs)
  all_stay (one v t ps) (x ∷ xs) h = and_then (a_bound v t x h.0) (λ a i. and_then (all_stay ps xs h.1) (λ bs j. keeps SameArguments (next_argument a bs) (ap₂ (λ y ys. next_argument y ys) i j)))
  all_stay (one v t ps) [] h = keeps SameArguments no_argument refl
  all_stay none xs h = keeps SameArguments no_argument refl

  call_stays : (x : Operand) → Stays x → (k : What) (bs : Arguments) → SameArguments bs → SameCall (call_of x k bs)
  call_stays x h (Code f l) bs i = ap (Direct f) i
  call_stays x h (Named d) bs i = ap₂ (λ a b. Indirect a b) (pointed x h) i
  call_stays x h _ bs i = ap₂ (λ a b. Indirect a b) (pointed x h) i

  pub a_called : (at : ℕ) (x : Operand) → Stays x → (ps : Formals) (result : Shape) → PointsAmong n result → (xs : List Given) → AllStay xs → Gives Stays (called w at x ps result xs)
  a_called at x h ps result g xs all = by_rule 40 at (is_count ps xs) (λ count. and_then (all_stay ps xs all) (λ bs i.
      keeps Stays (value result (Result (call_of x x.what bs))) (record { shape = g; what = ap Result (call_stays x h x.what bs i) })))

  pub a_applied : (at : ℕ) (x : Operand) → Stays x → (s : Shape) → PointsAmong n s → (xs : List Given) → AllStay xs → Gives Stays (applied p w at x s xs)
  a_applied at x h (Procedure ps result) g xs all = a_called at x h ps result g.1 xs all
  a_applied at x h Integer g xs all = breaks Stays 31 at
  a_applied at x h _ g xs all = breaks Stays 31 at

  -- ---- standard procedures

  a_function : (s : Shape) (x : Expr) → PointsAmong n s → Same x → Gives Stays (function s x)
  a_function s x g h = keeps Stays (operand s (Valued x) AsConstant) (record { shape = g; what = h })

  a_proper : (x : Statement) → SameStatement x → Gives Stays (proper x)
  a_proper x h = keeps Stays (operand Nothing (Proper x) AsValue) (record { shape = tt; what = h })

  -- of a number, its form and the whole
  abbrev Number : Checked → Type 0
  Number c = Same c.form × SameChecked c

  a_number : (x : Given) → Stays x.operand → Gives Number (number x)
  a_number x h = by_rule 31 x.at (is_number x.operand.shape) (λ it. keeps Number (checked x.operand) (formed x.operand h, checked_stays n before later same x.operand h))

  a_assigned : (t : Shape) (x : Given) → Stays x.operand → Gives SameChecked (assigned_to w t x)
  a_assigned t x h = by_rule 31 x.at (may_assign w.known t x.operand) (λ may. keeps SameChecked (stored t x.operand) (stored_stays n before later same t x.operand h))

  a_shifted : (operator : Binary) (x y : Given) → Stays x.operand → Stays y.operand → Gives Stays (shifted operator x y)
  a_shifted operator x y h k = and_then (a_number x h) (λ a i. and_then (a_number y k) (λ b j. a_function Integer (operated operator a.form b.form) tt (ap₂ (λ c d. Linked c (Operate operator d)) i.0 j.0)))

  -- how a standard procedure changes a variable
  abbrev Changes : (Designator → Checked → Statement) → Type 0
  Changes change = (d : Designator) (c : Checked) → SameDesignator d → SameChecked c → SameStatement (change d c)

  a_changed : (change : Designator → Checked → Statement) → Changes change → (v : Given) (m : Judged Checked) → Stays v.operand → Gives Number m → Gives Stays (changed change v m)
  a_changed change ok v m h g = by_unit (written v) (and_then (anything (number v)) (λ c z. and_then g (λ x i. a_proper (change (designator_of v.operand) x) (ok (designator_of v.operand) x (pointed v.operand h) i.1))))

  a_set_changed : (change : Designator → Checked → Statement) → Changes change → (v x : Given) → Stays v.operand → Stays x.operand → Gives Stays (set_changed change v x)
  a_set_changed change ok v x h k = by_unit (written v) (by_rule 31 v.at (is_set v.operand.shape) (λ it. and_then (a_number x k) (λ a i. a_proper (change (designator_of v.operand) a) (ok (designator_of v.operand) a (pointed v.operand h) i.1))))

  a_by_one : Gives Number by_one
  a_by_one = keeps Number (record { form = Literal 1; shape = Integer }) (refl, refl)

  increases : Changes Tree.Increase
  increases d c i j = ap₂ (λ a b. Tree.Increase a b) i j

  decreases : Changes Tree.Decrease
  decreases d c i j = ap₂ (λ a b. Tree.Decrease a b) i j

  includes : Changes Tree.Include
  includes d c i j = ap₂ (λ a b. Tree.Include a b) i j

  excludes : Changes Tree.Exclude
  excludes d c i j = ap₂ (λ a b. Tree.Exclude a b) i j

  pub a_standard : (at : ℕ) (s : Standard) (xs : List Given) → AllStay xs → Gives Stays (standard w at s xs)
  a_standard at Abs (x ∷ []) h = and_then (a_number x h.0) (λ a i. a_function Integer (Apply TheUnary.Abs a.form) tt (ap (Apply TheUnary.Abs) i.0))
  a_standard at Odd (x ∷ []) h = and_then (a_number x h.0) (λ a i. a_function Boolean (Apply TheUnary.Odd a.form) tt (ap (Apply TheUnary.Odd) i.0))
  a_standard at Len (x ∷ []) h = by_rule 31 x.at (is_variable x.operand && is_some (element_of x.operand.shape)) (λ it.
      keeps Stays (value Integer (Length (designator_of x.operand))) (record { shape = tt; what = ap Length (pointed x.operand h.0) }))
  a_standard at Lsl (x ∷ y ∷ []) h = a_shifted TheBinary.Lsl x y h.0 (h.1).0
  a_standard at Asr (x ∷ y ∷ []) h = a_shifted TheBinary.Asr x y h.0 (h.1).0
  a_standard at Ror (x ∷ y ∷ []) h = a_shifted TheBinary.Ror x y h.0 (h.1).0
  a_standard at Ord (x ∷ []) h = by_rule 31 x.at (may_order x.operand.shape) (λ it. a_function Integer (form x.operand) tt (formed x.operand h.0))
  a_standard at Chr (x ∷ []) h = and_then (a_number x h.0) (λ a i. a_function Char (AsByte a.form) tt (ap AsByte i.0))
  a_standard at Inc (v ∷ []) h = a_changed Tree.Increase increases v by_one h.0 a_by_one
  a_standard at Inc (v ∷ y ∷ []) h = a_changed Tree.Increase increases v (number y) h.0 (a_number y (h.1).0)
  a_standard at Dec (v ∷ []) h = a_changed Tree.Decrease decreases v by_one h.0 a_by_one
  a_standard at Dec (v ∷ y ∷ []) h = a_changed Tree.Decrease decreases v (number y) h.0 (a_number y (h.1).0)
  a_standard at Incl (v ∷ x ∷ []) h = a_set_changed Tree.Include includes v x h.0 (h.1).0
  a_standard at Excl (v ∷ x ∷ []) h = a_set_changed Tree.Exclude excludes v x h.0 (h.1).0
  a_standard at New (v ∷ []) h = by_unit (written v) (by_some 31 v.at (target_of w.known v.operand.shape) (λ r is.
      by_rule 31 v.at (not (is_narrowed v.operand)) (λ it. a_proper (Tree.New (designator_of v.operand)) (ap Tree.New (pointed v.operand h.0)))))
  a_standard at Assert (x ∷ []) h = by_rule 31 x.at (is_truth x.operand.shape) (λ it. a_proper (Tree.Assert (checked x.operand)) (ap Tree.Assert (checked_stays n before later same x.operand h.0)))
  a_standard at OutChar (x ∷ []) h = and_then (a_assigned Char x h.0) (λ a i. a_proper (Tree.OutChar a) (ap Tree.OutChar i))
  a_standard at OutInt (x ∷ y ∷ []) h = and_then (a_assigned Integer x h.0) (λ a i. and_then (a_assigned Integer y (h.1).0) (λ b j. a_proper (Tree.OutInt a b) (ap₂ (λ c d. Tree.OutInt c d) i j)))
  a_standard at OutString (x ∷ []) h = by_rule 31 x.at (is_chars x.operand.what || is_variable x.operand && is_text x.operand.shape) (λ it.
      a_proper (Tree.OutString (designator_of x.operand)) (ap Tree.OutString (pointed x.operand h.0)))
  a_standard at OutLn [] h = a_proper Tree.OutLn refl
  a_standard at InChar (v ∷ []) h = by_unit (written v) (by_rule 31 v.at (is_char_only v.operand.shape) (λ it. a_proper (Tree.InChar (designator_of v.operand)) (ap Tree.InChar (pointed v.operand h.0))))
  a_standard at s xs h = breaks Stays 40 at
