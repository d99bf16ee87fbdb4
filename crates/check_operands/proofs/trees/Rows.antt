-- The lists that code makes in checked trees, against the rows that trees have.
use Rattle.std.proofs.Common.{◌≡◌, ℕ, List, [], ◌∷◌, ◌++◌, Vec, Global, Box, refl, ap, ◌∙◌}
use Rattle.ob_types.specs.Table.{Table}
use Rattle.ob_types.specs.declared.tree.Expr.{Expr, Row_of-Link, end_of-Link, more_of-Link, items-the_row-Link, items_hidden-the_row-Link-2}
use Rattle.ob_types.specs.declared.tree.Expr.TheVariants as TheExpr
use Rattle.ob_types.specs.declared.tree.Link.{Link}
use Rattle.ob_types.specs.declared.tree.Selector.{Selector}
use Rattle.ob_types.specs.declared.tree.Access.{Access}
use Rattle.ob_types.specs.declared.tree.Designator.{Designator, Row_of-Selector, end_of-Selector, more_of-Selector, items-the_row-Selector, items_hidden-the_row-Selector-1}
use Rattle.ob_types.specs.declared.tree.Designator.TheVariants as TheDesignator
use Rattle.ob_types.specs.declared.tree.Call.{Row_of-Argument, end_of-Argument, more_of-Argument, items-the_row-Argument, items_hidden-the_row-Argument-0}
use Rattle.ob_types.specs.declared.tree.Call.TheVariants as TheCall
use Rattle.ob_types.specs.declared.tree.Argument.{Argument}
use Rattle.ob_types.specs.declared.tree.Argument.TheBlock.{hidden-the_row-Selector-1, hidden-the_row-Link-2, hidden-the_row-Argument-0}
use Rattle.ob_judge.specs.Image as I
use Rattle.judged_tree.specs.TypeShapes.{shape_of_kind}
use Rattle.judged_tree.specs.Plain.{plain_base, plain_expr, plain_links, plain_link, plain_designator, plain_selectors, plain_selector, plain_call, plain_arguments, plain_argument}
use Rattle.check_operands.specs.trees.Lists.{each_link, each_selector, each_argument, access_image}

module _ (t : Table) (texts : List (List ℕ)) where
  selectors_are : (m : _) (row : Row_of-Selector m) (d : I.Place) → plain_selectors t texts row d ≡ each_selector t texts (items-the_row-Selector m row) d
  selectors_are m end_of-Selector d = refl
  selectors_are m (more_of-Selector s rest) d = selectors_are _ rest (plain_selector t texts s d)

  pub part_is : (a : Box Access Global) → plain_designator t texts (TheDesignator.Part a) ≡ I.of_type (access_image t texts a.value) (shape_of_kind t a.value.kind)
  part_is a =
      let at = plain_base t texts a.value.base in
      let v = a.value.selectors in
      ap (λ d. I.of_type d (shape_of_kind t a.value.kind)) (selectors_are _ (hidden-the_row-Selector-1 v) at ∙ ap (λ ss. each_selector t texts ss at) (items_hidden-the_row-Selector-1 v))

  links_are : (m : _) (row : Row_of-Link m) (x : I.Expr) → plain_links t texts row x ≡ each_link t texts (items-the_row-Link m row) x
  links_are m end_of-Link x = refl
  links_are m (more_of-Link l rest) x = links_are _ rest (I.Linked x (plain_link t texts l))

  pub chain_is : (x : Box Expr Global) (v : Vec Link Global) → plain_expr t texts (TheExpr.Chain x v) ≡ each_link t texts v.items (plain_expr t texts x.value)
  chain_is x v = links_are _ (hidden-the_row-Link-2 v) (plain_expr t texts x.value) ∙ ap (λ ls. each_link t texts ls (plain_expr t texts x.value)) (items_hidden-the_row-Link-2 v)

  pub links_more : (ls : List Link) (l : Link) (x : I.Expr) → each_link t texts (ls ++ l ∷ []) x ≡ I.Linked (each_link t texts ls x) (plain_link t texts l)
  links_more [] l x = refl
  links_more (k ∷ ls) l x = links_more ls l (I.Linked x (plain_link t texts k))

  pub selectors_more : (ss : List Selector) (s : Selector) (d : I.Place) → each_selector t texts (ss ++ s ∷ []) d ≡ plain_selector t texts s (each_selector t texts ss d)
  selectors_more [] s d = refl
  selectors_more (k ∷ ss) s d = selectors_more ss s (plain_selector t texts k d)

  arguments_are : (m : _) (row : Row_of-Argument m) → plain_arguments t texts row ≡ each_argument t texts (items-the_row-Argument m row)
  arguments_are m end_of-Argument = refl
  arguments_are m (more_of-Argument x rest) = ap (I.next_argument (plain_argument t texts x)) (arguments_are _ rest)

  pub direct_is : (f : ℕ) (v : Vec Argument Global) → plain_call t texts (TheCall.Direct f v) ≡ I.Direct f (each_argument t texts v.items)
  direct_is f v = ap (I.Direct f) (arguments_are _ (hidden-the_row-Argument-0 v) ∙ ap (each_argument t texts) (items_hidden-the_row-Argument-0 v))

  pub indirect_is : (d : Designator) (v : Vec Argument Global) → plain_call t texts (TheCall.Indirect d v) ≡ I.Indirect (plain_designator t texts d) (each_argument t texts v.items)
  indirect_is d v = ap (I.Indirect (plain_designator t texts d)) (arguments_are _ (hidden-the_row-Argument-0 v) ∙ ap (each_argument t texts) (items_hidden-the_row-Argument-0 v))
