-- The lists in expressions and designators, as the code walks them.
use Rattle.std.specs.Prelude.{ℕ, false, true, Bool, List, [], ◌∷◌}
use Rattle.ob_types.specs.declared.program.Program.{Program}
use Rattle.ob_types.specs.declared.tree.Expr.{Expr, Unary', Chain', Compare'}
use Rattle.ob_types.specs.declared.tree.Unary.TheVariants.{Not}
use Rattle.ob_types.specs.declared.tree.Designator.{Designator}
use Rattle.ob_types.specs.declared.tree.Selector.{Selector}
use Rattle.ob_types.specs.declared.tree.Link.{Link}
use Rattle.ob_types.specs.declared.tree.Argument.{Argument}
use Rattle.ob_types.specs.declared.tree.Call.{Call}
use Rattle.ob_types.specs.declared.tree.Relation.{Relation}
use Rattle.ob_types.specs.Meaning.{kind_in, length_of_kind}
use Rattle.ssa_lowered.specs.Data.{layout}
use Rattle.ssa_lowered.specs.Pieces.{Low, give}
use Rattle.ssa_lowered.specs.Control.{Lowers}
use Rattle.ssa_lowered.specs.Values.{Named, also, Request, home_of, load, texts_compared}
use Rattle.ssa_lowered.specs.Lowered.{Here, named, select, link, called, argument, all_guarded}
use Rattle.ssa_exprs.specs.Tables.{small_in}

module _ (p : Program) (here : Here) where
  -- the value of a scalar variable
  abbrev pub load_in : Designator → Low ℕ
  load_in d = load (home_of (named p (layout p.types) here d) (small_in p d))

  abbrev pub select_in : Selector → Low Named → Low Named
  select_in s d = select p (layout p.types) here s d

  -- where selectors lead to, one after the other
  abbrev pub selected_in : List Selector → Low Named → Low Named
  selected_in [] d = d
  selected_in (s ∷ more) d = selected_in more (select_in s d)

  -- a relation of two texts
  abbrev pub texts_in : Relation → Designator → Designator → Low ℕ
  texts_in r d e = texts_compared (layout p.types).character r (named p (layout p.types) here d) (length_of_kind (kind_in d)) (named p (layout p.types) here e) (length_of_kind (kind_in e))

  abbrev pub link_in : Link → Lowers → Lowers
  link_in k x = link p (layout p.types) here k x

  -- what links make of an expression, one after the other
  abbrev pub linked_in : List Link → Lowers → Lowers
  linked_in [] x = x
  linked_in (k ∷ more) x = linked_in more (link_in k x)

  abbrev pub argument_in : Argument → Low (List ℕ)
  argument_in a = argument p (layout p.types) here a

  abbrev pub arguments_in : List Argument → Low (List ℕ)
  arguments_in [] = give []
  arguments_in (a ∷ more) = also (argument_in a) (arguments_in more)

  abbrev pub called_in : Call → Low Request
  called_in c = called p (layout p.types) here c

  abbrev pub guarded_in : List ℕ → Low ℕ → Low ℕ
  guarded_in rs m = all_guarded p (layout p.types) here rs m

-- an expression is a condition by its value alone
abbrev pub is_plain : Expr → Bool
is_plain (Unary' Not _ x) = false
is_plain (Chain' _ x m row) = false
is_plain (Compare' r _ x _ y) = false
is_plain e = true
