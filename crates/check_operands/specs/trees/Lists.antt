-- The parts of checked trees as lists: what each is round what it is added to, the first innermost.
use Rattle.std.specs.Prelude.{ℕ, List, [], ◌∷◌}
use Rattle.ob_types.specs.Table.{Table}
use Rattle.ob_types.specs.declared.tree.Link.{Link}
use Rattle.ob_types.specs.declared.tree.Selector.{Selector}
use Rattle.ob_types.specs.declared.tree.Argument.{Argument}
use Rattle.ob_types.specs.declared.tree.Access.{Access}
use Rattle.ob_judge.specs.Image as I
use Rattle.judged_tree.specs.Plain.{plain_base, plain_link, plain_selector, plain_argument}
use Rattle.check_operands.specs.declared.trees.places.Place.{Place}
use Rattle.check_operands.specs.declared.trees.places.Place.TheVariants.{Whole, Part}

module _ (t : Table) (texts : List (List ℕ)) where
  abbrev pub each_link : List Link → I.Expr → I.Expr
  each_link [] x = x
  each_link (l ∷ ls) x = each_link ls (I.Linked x (plain_link t texts l))

  abbrev pub each_selector : List Selector → I.Place → I.Place
  each_selector [] d = d
  each_selector (s ∷ ss) d = each_selector ss (plain_selector t texts s d)

  abbrev pub each_argument : List Argument → I.Arguments
  each_argument [] = I.no_argument
  each_argument (x ∷ xs) = I.next_argument (plain_argument t texts x) (each_argument xs)

  -- what the selectors behind a variable lead to
  abbrev pub access_image : Access → I.Place
  access_image a = each_selector a.selectors.items (plain_base t texts a.base)

  abbrev pub place_image : Place → I.Place
  place_image (Whole base) = plain_base t texts base
  place_image (Part access) = access_image access.value
