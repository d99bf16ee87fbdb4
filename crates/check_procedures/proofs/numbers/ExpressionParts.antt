-- What becomes of expressions, from what becomes of their parts.
use Rattle.std.proofs.Common.{◌≡◌, ℕ, List, [], ◌∷◌, ◌++◌, Vec, Box, Global, Option, refl, sym, ap, ap₂, ◌∙◌}
use Rattle.ob_types.specs.Table.{Table}
use Rattle.ob_types.specs.declared.types.TypeKind.{TypeKind}
use Rattle.ob_types.specs.declared.tree.Unary.{Unary}
use Rattle.ob_types.specs.declared.tree.Binary.{Binary}
use Rattle.ob_types.specs.declared.tree.Relation.{Relation}
use Rattle.ob_types.specs.declared.tree.Base.{Base}
use Rattle.ob_types.specs.declared.tree.Expr.{Expr, Guard', Unary', Compare', CompareTexts', In', IsPointer', Byte', Call'}
use Rattle.ob_types.specs.declared.tree.Expr.TheVariants as TheExpr
use Rattle.ob_types.specs.declared.tree.Link.{Link, Elements'}
use Rattle.ob_types.specs.declared.tree.Link.TheVariants as TheLink
use Rattle.ob_types.specs.declared.tree.Designator.{Designator}
use Rattle.ob_types.specs.declared.tree.Designator.TheVariants as TheDesignator
use Rattle.ob_types.specs.declared.tree.Access.{Access}
use Rattle.ob_types.specs.declared.tree.Selector.TheVariants as TheSelector
use Rattle.ob_types.specs.declared.tree.Call.{Call}
use Rattle.ob_types.specs.declared.tree.Call.TheVariants as TheCall
use Rattle.ob_types.specs.declared.tree.Argument.{Argument}
use Rattle.ob_types.specs.declared.tree.Argument.TheVariants as TheArgument
use Rattle.std.specs.List.{flat_map}
use Rattle.std.proofs.lemmas.List.{append-nil}
use Rattle.ob_judge.specs.Texts.{Strings, in_expr, in_place, in_designator}
use Rattle.ob_judge.specs.Image as I
use Rattle.judged_tree.specs.TypeShapes.{shape_of, shape_of_kind}
use Rattle.judged_tree.specs.Plain.{plain_base, plain_expr, plain_designator, guarded}
use Rattle.check_operands.proofs.trees.Rows.{chain_is, part_is, direct_is, indirect_is}
use Rattle.check_procedures.specs.numbers.Numbering.{Numbering, LastsIn, Reading, Renewed, KeepsMeaning}
use Rattle.check_procedures.specs.numbers.Readings.{each, pair, numbers, kinds, bases, expressions, links, designators, accesses, calls, arguments, ToElement, in_lead, selectors}
use Rattle.check_procedures.proofs.numbers.Lists.{linked_by, links_are, in_linked, led_by, selectors_are, in_led, arguments_of, arguments_are, in_arguments_are}
use Rattle.check_procedures.proofs.numbers.Keeping.{unused, within, joined, paired}

module _ (n : Numbering) where
  -- what becomes of a part
  abbrev Goes : {A B : Type 0} → Reading A B → A → A → Strings → Strings → Type 0
  Goes r x y a b = KeepsMeaning r n (record { tree = x; made = y; before = a; after = b })

  abbrev part : {A : Type 0} → A → A → Strings → Strings → Renewed A
  part x y a b = record { tree = x; made = y; before = a; after = b }

  -- ---- expressions

  pub load : (d e : Designator) (a b : Strings) → Goes designators d e a b → Goes expressions (TheExpr.Load d) (TheExpr.Load e) a b
  load d e a b h = within n designators expressions I.Load (part d e a b) (TheExpr.Load d) (TheExpr.Load e) (λ v all. refl) (λ v all. refl) (λ x. refl) h

  in_guards : (tags : List ℕ) (x : I.Expr) → in_expr (guarded tags x) ≡ in_expr x
  in_guards [] x = refl
  in_guards (r ∷ rs) x = in_guards rs (I.Guard x r)

  pub guard : (p q : Box (Unit {0}) Global) (d e : Designator) (tags tags' : List ℕ) (a b : Strings) → tags' ≡ tags → Goes designators d e a b → Goes expressions (Guard' p d tags) (Guard' q e tags') a b
  guard p q d e tags tags' a b same h =
      within n designators expressions (λ x. guarded tags (I.Load x)) (part d e a b) (Guard' p d tags) (Guard' q e tags')
      (λ v all. refl) (λ v all. ap (λ rs. guarded rs (I.Load (plain_designator v all e))) same) (λ x. in_guards tags (I.Load x)) h

  pub unary : (o : Unary) (p q : Box (Unit {0}) Global) (x y : Expr) (a b : Strings) → Goes expressions x y a b → Goes expressions (Unary' o p x) (Unary' o q y) a b
  unary o p q x y a b h = within n expressions expressions (I.Apply o) (part x y a b) (Unary' o p x) (Unary' o q y) (λ v all. refl) (λ v all. refl) (λ x. refl) h

  pub chain : (x y : Box Expr Global) (ks ls : Vec Link Global) (a b c : Strings) → Goes expressions x.value y.value a b → Goes (each links) ks.items ls.items b c
      → Goes expressions (TheExpr.Chain x ks) (TheExpr.Chain y ls) a c
  chain x y ks ls a b c g h =
      joined n expressions (each links) expressions (λ e us. linked_by us e) (part x.value y.value a b) (part ks.items ls.items b c) (TheExpr.Chain x ks) (TheExpr.Chain y ls) refl
      (λ v all. chain_is v all x ks ∙ links_are v all ks.items (plain_expr v all x.value))
      (λ v all. chain_is v all y ls ∙ links_are v all ls.items (plain_expr v all y.value))
      (λ e us. in_linked us e) g h

  pub compare : (o o' : Relation) (p p' q q' : Box (Unit {0}) Global) (x x' y y' : Expr) (a b c : Strings) → o' ≡ o → Goes expressions x x' a b → Goes expressions y y' b c
      → Goes expressions (Compare' o p x q y) (Compare' o' p' x' q' y') a c
  compare o o' p p' q q' x x' y y' a b c same g h =
      joined n expressions expressions expressions (I.Compare o) (part x x' a b) (part y y' b c) (Compare' o p x q y) (Compare' o' p' x' q' y') refl
      (λ v all. refl) (λ v all. ap (λ r. I.Compare r (plain_expr v all x') (plain_expr v all y')) same) (λ u w. refl) g h

  pub compare_texts : (o o' : Relation) (p p' q q' : Box (Unit {0}) Global) (x x' y y' : Designator) (a b c : Strings) → o' ≡ o → Goes designators x x' a b → Goes designators y y' b c
      → Goes expressions (CompareTexts' o p x q y) (CompareTexts' o' p' x' q' y') a c
  compare_texts o o' p p' q q' x x' y y' a b c same g h =
      joined n designators designators expressions (I.CompareTexts o) (part x x' a b) (part y y' b c) (CompareTexts' o p x q y) (CompareTexts' o' p' x' q' y') refl
      (λ v all. refl) (λ v all. ap (λ r. I.CompareTexts r (plain_designator v all x') (plain_designator v all y')) same) (λ u w. refl) g h

  pub is_in : (p p' q q' : Box (Unit {0}) Global) (x x' y y' : Expr) (a b c : Strings) → Goes expressions x x' a b → Goes expressions y y' b c
      → Goes expressions (In' p x q y) (In' p' x' q' y') a c
  is_in p p' q q' x x' y y' a b c g h =
      joined n expressions expressions expressions I.In (part x x' a b) (part y y' b c) (In' p x q y) (In' p' x' q' y') refl (λ v all. refl) (λ v all. refl) (λ u w. refl) g h

  pub is_pointer : (p q : Box (Unit {0}) Global) (x y : Expr) (tag : ℕ) (a b : Strings) → Goes expressions x y a b → Goes expressions (IsPointer' p x tag) (IsPointer' q y tag) a b
  is_pointer p q x y tag a b h =
      within n expressions expressions (λ e. I.IsPointer e tag) (part x y a b) (IsPointer' p x tag) (IsPointer' q y tag) (λ v all. refl) (λ v all. refl) (λ u. refl) h

  pub is_parameter : (d e : Designator) (tag : ℕ) (a b : Strings) → Goes designators d e a b → Goes expressions (TheExpr.IsParameter d tag) (TheExpr.IsParameter e tag) a b
  is_parameter d e tag a b h =
      within n designators expressions (λ x. I.IsParameter x tag) (part d e a b) (TheExpr.IsParameter d tag) (TheExpr.IsParameter e tag) (λ v all. refl) (λ v all. refl) (λ x. refl) h

  pub as_byte : (p q : Box (Unit {0}) Global) (x y : Expr) (a b : Strings) → Goes expressions x y a b → Goes expressions (Byte' p x) (Byte' q y) a b
  as_byte p q x y a b h = within n expressions expressions I.AsByte (part x y a b) (Byte' p x) (Byte' q y) (λ v all. refl) (λ v all. refl) (λ u. refl) h

  pub length_of : (d e : Designator) (a b : Strings) → Goes designators d e a b → Goes expressions (TheExpr.Length d) (TheExpr.Length e) a b
  length_of d e a b h = within n designators expressions I.Length (part d e a b) (TheExpr.Length d) (TheExpr.Length e) (λ v all. refl) (λ v all. refl) (λ x. refl) h

  pub call : (p q : Box (Unit {0}) Global) (x y : Call) (a b : Strings) → Goes calls x y a b → Goes expressions (Call' p x) (Call' q y) a b
  call p q x y a b h = within n calls expressions I.Result (part x y a b) (Call' p x) (Call' q y) (λ v all. refl) (λ v all. refl) (λ u. refl) h

  -- ---- links

  pub operate : (o : Binary) (x y : Expr) (a b : Strings) → Goes expressions x y a b → Goes links (TheLink.Operate o x) (TheLink.Operate o y) a b
  operate o x y a b h = within n expressions links (I.Operate o) (part x y a b) (TheLink.Operate o x) (TheLink.Operate o y) (λ v all. refl) (λ v all. refl) (λ x. refl) h

  pub both_hold : (x y : Expr) (a b : Strings) → Goes expressions x y a b → Goes links (TheLink.And x) (TheLink.And y) a b
  both_hold x y a b h = within n expressions links I.And (part x y a b) (TheLink.And x) (TheLink.And y) (λ v all. refl) (λ v all. refl) (λ x. refl) h

  pub one_holds : (x y : Expr) (a b : Strings) → Goes expressions x y a b → Goes links (TheLink.Or x) (TheLink.Or y) a b
  one_holds x y a b h = within n expressions links I.Or (part x y a b) (TheLink.Or x) (TheLink.Or y) (λ v all. refl) (λ v all. refl) (λ x. refl) h

  pub element : (x y : Expr) (a b : Strings) → Goes expressions x y a b → Goes links (TheLink.Element x) (TheLink.Element y) a b
  element x y a b h = within n expressions links I.Element (part x y a b) (TheLink.Element x) (TheLink.Element y) (λ v all. refl) (λ v all. refl) (λ x. refl) h

  pub elements : (p p' q q' : Box (Unit {0}) Global) (x x' y y' : Expr) (a b c : Strings) → Goes expressions x x' a b → Goes expressions y y' b c → Goes links (Elements' p x q y) (Elements' p' x' q' y') a c
  elements p p' q q' x x' y y' a b c g h =
      joined n expressions expressions links I.Elements (part x x' a b) (part y y' b c) (Elements' p x q y) (Elements' p' x' q' y') refl (λ v all. refl) (λ v all. refl) (λ u w. refl) g h

  -- ---- designators

  pub whole : (x y : Base) (j k : TypeKind) (a b : Strings) → Goes bases x y a b → Goes kinds j k b b → Goes designators (TheDesignator.Whole x j) (TheDesignator.Whole y k) a b
  whole x y j k a b g h =
      joined n bases kinds designators I.of_type (part x y a b) (part j k b b) (TheDesignator.Whole x j) (TheDesignator.Whole y k) refl (λ v all. refl) (λ v all. refl) (λ p s. sym (append-nil (in_place p))) g h

  pub reached : (x y : Access) (a b c : Strings) → Goes bases x.base y.base a b → Goes (each selectors) x.selectors.items y.selectors.items b c → Goes kinds x.kind y.kind c c
      → Goes accesses x y a c
  reached x y a b c g h m =
      joined n (pair bases (each selectors)) kinds accesses (λ p s. I.of_type (led_by p.1 p.0) s) (part (x.base, x.selectors.items) (y.base, y.selectors.items) a c) (part x.kind y.kind c c) x y refl
      (λ v all. ap (λ d. I.of_type d (shape_of_kind v x.kind)) (selectors_are v all x.selectors.items (plain_base v all x.base)))
      (λ v all. ap (λ d. I.of_type d (shape_of_kind v y.kind)) (selectors_are v all y.selectors.items (plain_base v all y.base)))
      (λ p s. in_led p.1 p.0 ∙ sym (append-nil (in_place p.0 ++ flat_map in_lead p.1)))
      (paired n bases (each selectors) (part x.base y.base a b) (part x.selectors.items y.selectors.items b c) refl g h) m

  pub part_of : (x y : Box Access Global) (a b : Strings) → Goes accesses x.value y.value a b → Goes designators (TheDesignator.Part x) (TheDesignator.Part y) a b
  part_of x y a b h = within n accesses designators (λ d. d) (part x.value y.value a b) (TheDesignator.Part x) (TheDesignator.Part y) (λ v all. part_is v all x) (λ v all. part_is v all y) (λ d. refl) h

  pub index : (l : Option ℕ) (k j : ℕ) (x y : Expr) (a b : Strings) → ((v : Table) → LastsIn n.types v → shape_of v j ≡ shape_of n.types.types k) → Goes expressions x y a b
      → Goes selectors (TheSelector.Index l k x) (TheSelector.Index l j y) a b
  index l k j x y a b same h =
      joined n numbers expressions selectors (ToElement l) (part k j a a) (part x y a b) (TheSelector.Index l k x) (TheSelector.Index l j y) refl (λ v all. refl) (λ v all. refl) (λ p s. refl)
      (unused n numbers k j a refl (λ v all lasts front. same v lasts) (λ v all few. refl)) h

  -- ---- calls

  pub direct : (f g : ℕ) (xs ys : Vec Argument Global) (a b : Strings) → g ≡ f → Goes (each arguments) xs.items ys.items a b → Goes calls (TheCall.Direct f xs) (TheCall.Direct g ys) a b
  direct f g xs ys a b same h =
      within n (each arguments) calls (λ us. I.Direct f (arguments_of us)) (part xs.items ys.items a b) (TheCall.Direct f xs) (TheCall.Direct g ys)
      (λ v all. direct_is v all f xs ∙ ap (I.Direct f) (arguments_are v all xs.items))
      (λ v all. direct_is v all g ys ∙ ap₂ I.Direct same (arguments_are v all ys.items))
      (λ us. in_arguments_are us) h

  pub indirect : (d e : Designator) (xs ys : Vec Argument Global) (a b c : Strings) → Goes designators d e a b → Goes (each arguments) xs.items ys.items b c
      → Goes calls (TheCall.Indirect d xs) (TheCall.Indirect e ys) a c
  indirect d e xs ys a b c g h =
      joined n designators (each arguments) calls (λ p us. I.Indirect p (arguments_of us)) (part d e a b) (part xs.items ys.items b c) (TheCall.Indirect d xs) (TheCall.Indirect e ys) refl
      (λ v all. indirect_is v all d xs ∙ ap (I.Indirect (plain_designator v all d)) (arguments_are v all xs.items))
      (λ v all. indirect_is v all e ys ∙ ap (I.Indirect (plain_designator v all e)) (arguments_are v all ys.items))
      (λ p us. ap (λ l. in_designator p ++ l) (in_arguments_are us)) g h

  pub by_value : (x y : Expr) (a b : Strings) → Goes expressions x y a b → Goes arguments (TheArgument.ByValue x) (TheArgument.ByValue y) a b
  by_value x y a b h = within n expressions arguments I.ByValue (part x y a b) (TheArgument.ByValue x) (TheArgument.ByValue y) (λ v all. refl) (λ v all. refl) (λ x. refl) h

  pub by_place : (d e : Designator) (a b : Strings) → Goes designators d e a b → Goes arguments (TheArgument.ByPlace d) (TheArgument.ByPlace e) a b
  by_place d e a b h = within n designators arguments I.ByPlace (part d e a b) (TheArgument.ByPlace d) (TheArgument.ByPlace e) (λ v all. refl) (λ v all. refl) (λ x. refl) h

  pub by_record : (d e : Designator) (a b : Strings) → Goes designators d e a b → Goes arguments (TheArgument.ByRecord d) (TheArgument.ByRecord e) a b
  by_record d e a b h = within n designators arguments I.ByRecord (part d e a b) (TheArgument.ByRecord d) (TheArgument.ByRecord e) (λ v all. refl) (λ v all. refl) (λ x. refl) h

  pub by_open : (d e : Designator) (a b : Strings) → Goes designators d e a b → Goes arguments (TheArgument.ByOpen d) (TheArgument.ByOpen e) a b
  by_open d e a b h = within n designators arguments I.ByOpen (part d e a b) (TheArgument.ByOpen d) (TheArgument.ByOpen e) (λ v all. refl) (λ v all. refl) (λ x. refl) h
