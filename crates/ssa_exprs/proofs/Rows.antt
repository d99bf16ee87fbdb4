-- What is said of a row of selectors or arguments is said of its list.
use Rattle.std.proofs.Common.{◌≡◌, ℕ, Vec, Box, Global, refl, ap, ◌∙◌}
use mathlib.Core.Former.{Count}
use Rattle.ob_types.specs.declared.tree.Designator.{Designator, Part, Part', Row_of-Selector, end_of-Selector, more_of-Selector, items-the_row-Selector, items_hidden-the_row-Selector-1}
use Rattle.ob_types.specs.declared.tree.Selector.{Selector}
use Rattle.ob_types.specs.declared.tree.Access.{Access}
use Rattle.ob_types.specs.declared.tree.Argument.{Argument}
use Rattle.ob_types.specs.declared.tree.Call.{Call, Direct, Direct', Indirect, Indirect', Row_of-Argument, end_of-Argument, more_of-Argument, items-the_row-Argument, items_hidden-the_row-Argument-0}
use Rattle.ob_types.specs.declared.program.Program.{Program}
use Rattle.ssa_lowered.specs.Data.{layout}
use Rattle.ssa_lowered.specs.Pieces.{Low}
use Rattle.ssa_lowered.specs.Values.{Named, also, call, call_at, unary}
use Rattle.ssa_lowered.specs.Control.{Lowers}
use Rattle.ob_types.specs.declared.tree.Unary.{Unary}
use Rattle.ob_types.specs.declared.tree.Unary.TheVariants.{Negate, Complement, Not, Abs, Odd}
use Rattle.ssa_lowered.specs.Lowered.{Here, one_of, selected, arguments}
use Rattle.ssa_exprs.specs.Tables.{named_in, based_in}
use Rattle.ssa_exprs.specs.Walk.{load_in, select_in, selected_in, argument_in, arguments_in, called_in}

-- the value of an operator's operand
pub value_one : (op : Unary) (x : Lowers) → (one_of op x).value ≡ unary op x.value
value_one Negate x = refl
value_one Complement x = refl
value_one Not x = refl
value_one Abs x = refl
value_one Odd x = refl

module _ (p : Program) (here : Here) where
  selected_row : (m : _) (row : Row_of-Selector m) (d : Low Named) → selected p (layout p.types) here row d ≡ selected_in p here (items-the_row-Selector m row) d
  selected_row m end_of-Selector d = refl
  selected_row m (more_of-Selector s rest) d = selected_row _ rest (select_in p here s d)

  arguments_row : (m : _) (row : Row_of-Argument m) → arguments p (layout p.types) here row ≡ arguments_in p here (items-the_row-Argument m row)
  arguments_row m end_of-Argument = refl
  arguments_row m (more_of-Argument a rest) = ap (λ r. also (argument_in p here a) r) (arguments_row _ rest)

  abbrev selectors_of : Designator → (n : Count) × Row_of-Selector n
  selectors_of (Part' _ b k _ row) = (_, row)
  selectors_of _ = (_, end_of-Selector)

  abbrev arguments_of : Call → (n : Count) × Row_of-Argument n
  arguments_of (Direct' g _ row) = (_, row)
  arguments_of (Indirect' d _ row) = (_, row)

  pub named_part : (a : Box Access Global) → named_in p here (Part a) ≡ selected_in p here a.value.selectors.items (based_in p here a.value.base)
  named_part a =
      let r = selectors_of (Part a) in
      let first = based_in p here a.value.base in
      selected_row r.0 r.1 first ∙ ap (λ ss. selected_in p here ss first) (items_hidden-the_row-Selector-1 a.value.selectors)

  pub called_direct : (g : ℕ) (xs : Vec Argument Global) → called_in p here (Direct g xs) ≡ call g (arguments_in p here xs.items)
  called_direct g xs =
      let r = arguments_of (Direct g xs) in
      ap (λ m. call g m) (arguments_row r.0 r.1 ∙ ap (arguments_in p here) (items_hidden-the_row-Argument-0 xs))

  pub called_indirect : (d : Designator) (xs : Vec Argument Global) → called_in p here (Indirect d xs) ≡ call_at (load_in p here d) (arguments_in p here xs.items)
  called_indirect d xs =
      let r = arguments_of (Indirect d xs) in
      ap (λ m. call_at (load_in p here d) m) (arguments_row r.0 r.1 ∙ ap (arguments_in p here) (items_hidden-the_row-Argument-0 xs))
