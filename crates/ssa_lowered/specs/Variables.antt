-- A procedure's variables: which are in memory, which a statement assigns, where they stand, and how a procedure begins.
use Rattle.std.specs.Prelude.{ℕ, zero, suc, ◌+◌, ◌-◌, ◌==◌, ◌||◌, ◌&&◌, List, [], ◌∷◌, ◌++◌, sum_by, Bool, true, false, not, cond, Option, Some, None, if◌then◌else◌}
use Rattle.std.specs.List.{list_any}
use Rattle.ob_types.specs.Layout.{kind_of}
use Rattle.ob_types.specs.Meaning.{is_value}
use Rattle.ob_types.specs.Table.{Table}
use Rattle.ob_types.specs.declared.types.TypeKind.{TypeKind}
use Rattle.ob_types.specs.declared.types.TypeKind.TheVariants.{Array, Record}
use Rattle.ob_types.specs.declared.types.Mode.{Mode}
use Rattle.ob_types.specs.declared.types.Mode.TheVariants.{Place}
use Rattle.ob_types.specs.declared.types.Mode.TheVariants.{Value as OfValue, Record as OfRecord, Open as OfOpen}
use Rattle.ob_types.specs.declared.types.Formal.{Formal}
use Rattle.ob_types.specs.declared.tree.Expr.{Expr, Literal, Routine, Load, Guard', Unary', Chain', Compare', CompareTexts', In', IsPointer', IsParameter, Byte', Length, Call', Row_of-Link, end_of-Link, more_of-Link}
use Rattle.ob_types.specs.declared.tree.Link.{Link, Operate, And, Or, Element, Elements'}
use Rattle.ob_types.specs.declared.tree.Base.{Base}
use Rattle.ob_types.specs.declared.tree.Base.TheVariants.{Local}
use Rattle.ob_types.specs.declared.tree.Designator.{Designator, Whole, Part', Row_of-Selector, end_of-Selector, more_of-Selector}
use Rattle.ob_types.specs.declared.tree.Selector.{Selector, Index, Field, Dereference, Narrow}
use Rattle.ob_types.specs.declared.tree.Call.{Call, Direct', Indirect', Row_of-Argument, end_of-Argument, more_of-Argument}
use Rattle.ob_types.specs.declared.tree.Argument.{Argument, ByValue, ByPlace, ByRecord, ByOpen}
use Rattle.ob_types.specs.declared.statements.Checked.{Checked}
use Rattle.ob_types.specs.declared.statements.Stmt.{Stmt, Assign, CopyArray, CopyRecord, Increase, Decrease, Include, Exclude, New, Assert, OutChar, OutInt, OutString, OutLn, InChar, If', While', Repeat', For', Case', CasePointer', CaseParameter', Row_of-Stmt, end_of-Stmt, more_of-Stmt, Row_of-Branch, end_of-Branch, more_of-Branch, Row_of-CasePart, end_of-CasePart, more_of-CasePart, Row_of-TypePart, end_of-TypePart, more_of-TypePart}
use Rattle.ob_types.specs.declared.statements.Stmt.{Call as Invoke}
use Rattle.block_runs.specs.declared.code.Code.TheVariants.{Arg, Zero}
use Rattle.block_runs.specs.declared.code.Code.TheVariants.{Local as LocalAt}
use Rattle.ssa_lowered.specs.Pieces.{Low, give, ◌>>=◌, skip, emits, does, Mask, rest}
use Rattle.ssa_lowered.specs.Values.{const, store}
use Rattle.ssa_lowered.specs.Data.{Layout, room}

abbrev pub none : Mask
none x = false

abbrev pub either : Mask → Mask → Mask
either f g x = f x || g x

-- the variable where a designator begins, and the variable that a designator as a whole is
abbrev pub origin : Base → Mask
origin (Local x) = λ y. x == y
origin _ = none

-- behind no selector there is the variable as a whole
abbrev pub unselected : {m : _} → Mask → Row_of-Selector m → Mask
unselected first end_of-Selector = first
unselected first (more_of-Selector s more) = none

abbrev pub itself : Designator → Mask
itself (Whole b k) = origin b
itself (Part' _ b k _ selectors) = unselected (origin b) selectors

---- Whose addresses are made: of arrays and records, which are in memory anyway, and of scalars those that are VAR arguments and that of In.Char

-- by a selector: of what it is a part of; but what is dereferenced is read
abbrev pub lent_by_first : Mask → Selector → Mask
lent_by_first first (Dereference rs) = none
lent_by_first first _ = first

abbrev mutual
  pub lent : Expr → Mask
  lent (Literal n) = none
  lent (Routine g) = none
  lent (Load d) = lent_at d
  lent (Guard' _ d rs) = lent_at d
  lent (Unary' op _ x) = lent x
  lent (Chain' _ x _ links) = either (lent x) (lent_links links)
  lent (Compare' r _ x _ y) = either (lent x) (lent y)
  lent (CompareTexts' r _ d _ e) = either (lent_whole d) (lent_whole e)
  lent (In' _ x _ s) = either (lent x) (lent s)
  lent (IsPointer' _ x r) = lent x
  lent (IsParameter d r) = lent_whole d
  lent (Byte' _ x) = lent x
  lent (Length d) = lent_whole d
  lent (Call' _ c) = lent_call c

  pub lent_links : {m : _} → Row_of-Link m → Mask
  lent_links end_of-Link = none
  lent_links (more_of-Link l more) = either (lent_link l) (lent_links more)

  pub lent_link : Link → Mask
  lent_link (Operate op y) = lent y
  lent_link (And y) = lent y
  lent_link (Or y) = lent y
  lent_link (Element y) = lent y
  lent_link (Elements' _ y _ z) = either (lent y) (lent z)

  -- by a designator that is read or assigned
  pub lent_at : Designator → Mask
  lent_at (Whole b k) = none
  lent_at (Part' _ b k _ selectors) = lent_selectors (origin b) selectors

  -- by one whose address is made
  pub lent_whole : Designator → Mask
  lent_whole (Whole b k) = origin b
  lent_whole (Part' _ b k _ selectors) = either (unselected (origin b) selectors) (lent_selectors (origin b) selectors)

  -- by the selectors of what begins at a variable: only the first is one of the variable itself
  pub lent_selectors : {m : _} → Mask → Row_of-Selector m → Mask
  lent_selectors first end_of-Selector = none
  lent_selectors first (more_of-Selector s more) = either (lent_by_first first s) (either (lent_selector s) (lent_selectors none more))

  pub lent_selector : Selector → Mask
  lent_selector (Index n element x) = lent x
  lent_selector (Field r field) = none
  lent_selector (Dereference rs) = none
  lent_selector (Narrow r) = none

  pub lent_call : Call → Mask
  lent_call (Direct' g _ args) = lent_in args
  lent_call (Indirect' d _ args) = either (lent_at d) (lent_in args)

  pub lent_as : Argument → Mask
  lent_as (ByValue x) = lent x
  lent_as (ByPlace d) = lent_whole d
  lent_as (ByRecord d) = lent_whole d
  lent_as (ByOpen d) = lent_whole d

  pub lent_in : {m : _} → Row_of-Argument m → Mask
  lent_in end_of-Argument = none
  lent_in (more_of-Argument x more) = either (lent_as x) (lent_in more)

abbrev mutual
  pub lent_by : Stmt → Mask
  lent_by (Assign d x) = either (lent_at d) (lent x.form)
  lent_by (CopyArray d e) = either (lent_whole d) (lent_whole e)
  lent_by (CopyRecord d e) = either (lent_whole d) (lent_whole e)
  lent_by (Increase d x) = either (lent_at d) (lent x.form)
  lent_by (Decrease d x) = either (lent_at d) (lent x.form)
  lent_by (Include d x) = either (lent_at d) (lent x.form)
  lent_by (Exclude d x) = either (lent_at d) (lent x.form)
  lent_by (New d) = lent_at d
  lent_by (Assert x) = lent x.form
  lent_by (OutChar x) = lent x.form
  lent_by (OutInt x n) = either (lent x.form) (lent n.form)
  lent_by (OutString d) = lent_whole d
  lent_by OutLn = none
  lent_by (InChar d) = lent_whole d
  lent_by (Invoke c) = lent_call c
  lent_by (If' _ parts _ other) = either (lent_by_branches parts) (lent_by_all other)
  lent_by (While' _ parts) = lent_by_branches parts
  lent_by (Repeat' _ body x) = either (lent_by_all body) (lent x.form)
  lent_by (For' _ d x y step _ body) = either (lent_at d) (either (lent x.form) (either (lent y.form) (lent_by_all body)))
  lent_by (Case' x _ parts) = either (lent x.form) (lent_by_case_parts parts)
  lent_by (CasePointer' x _ parts) = either (lent x.form) (lent_by_type_parts parts)
  lent_by (CaseParameter' d _ parts) = either (lent_whole d) (lent_by_type_parts parts)

  pub lent_by_all : {m : _} → Row_of-Stmt m → Mask
  lent_by_all end_of-Stmt = none
  lent_by_all (more_of-Stmt s more) = either (lent_by s) (lent_by_all more)

  pub lent_by_branches : {m : _} → Row_of-Branch m → Mask
  lent_by_branches end_of-Branch = none
  lent_by_branches (more_of-Branch x _ body more) = either (lent x.form) (either (lent_by_all body) (lent_by_branches more))

  pub lent_by_case_parts : {m : _} → Row_of-CasePart m → Mask
  lent_by_case_parts end_of-CasePart = none
  lent_by_case_parts (more_of-CasePart labels _ body more) = either (lent_by_all body) (lent_by_case_parts more)

  pub lent_by_type_parts : {m : _} → Row_of-TypePart m → Mask
  lent_by_type_parts end_of-TypePart = none
  lent_by_type_parts (more_of-TypePart r _ body more) = either (lent_by_all body) (lent_by_type_parts more)

abbrev pub lent_by_list : List Stmt → Mask
lent_by_list [] = none
lent_by_list (s ∷ more) = either (lent_by s) (lent_by_list more)

abbrev pub lent_by_answer : Option Checked → Mask
lent_by_answer None = none
lent_by_answer (Some x) = lent x.form

---- The variables that a statement assigns as wholes

abbrev mutual
  pub assigned : Stmt → Mask
  assigned (Assign d x) = itself d
  assigned (Increase d x) = itself d
  assigned (Decrease d x) = itself d
  assigned (Include d x) = itself d
  assigned (Exclude d x) = itself d
  assigned (New d) = itself d
  assigned (If' _ parts _ other) = either (assigned_branches parts) (assigned_all other)
  assigned (While' _ parts) = assigned_branches parts
  assigned (Repeat' _ body x) = assigned_all body
  assigned (For' _ d x y step _ body) = either (itself d) (assigned_all body)
  assigned (Case' x _ parts) = assigned_case_parts parts
  assigned (CasePointer' x _ parts) = assigned_type_parts parts
  assigned (CaseParameter' d _ parts) = assigned_type_parts parts
  assigned _ = none

  pub assigned_all : {m : _} → Row_of-Stmt m → Mask
  assigned_all end_of-Stmt = none
  assigned_all (more_of-Stmt s more) = either (assigned s) (assigned_all more)

  pub assigned_branches : {m : _} → Row_of-Branch m → Mask
  assigned_branches end_of-Branch = none
  assigned_branches (more_of-Branch x _ body more) = either (assigned_all body) (assigned_branches more)

  pub assigned_case_parts : {m : _} → Row_of-CasePart m → Mask
  assigned_case_parts end_of-CasePart = none
  assigned_case_parts (more_of-CasePart labels _ body more) = either (assigned_all body) (assigned_case_parts more)

  pub assigned_type_parts : {m : _} → Row_of-TypePart m → Mask
  assigned_type_parts end_of-TypePart = none
  assigned_type_parts (more_of-TypePart r _ body more) = either (assigned_all body) (assigned_type_parts more)

---- Where they stand

-- argument words: an address with a length or a tag takes two
abbrev pub words_by : Mode → ℕ
words_by OfValue = 1
words_by Place = 1
words_by OfRecord = 2
words_by OfOpen = 2

abbrev pub words_of : List Formal → ℕ
words_of formals = sum_by (λ x. words_by x.mode) formals

-- where a variable is: among the values, or so many bytes into the local data
pub data Site : Type 0 where
  Register : Site
  Memory : (offset : ℕ) → Site

-- a scalar value parameter, with its word, or a local variable: the number of its type, and where it is
pub record Variable : Type 0 where
  pub type_number : ℕ
  pub word : Option ℕ
  pub site : Site

abbrev pub is_structured : TypeKind → Bool
is_structured (Array n element) = true
is_structured (Record r) = true
is_structured _ = false

abbrev pub some_structured : Table → List ℕ → Bool
some_structured t ks = list_any (λ k. is_structured (kind_of t k)) ks

module _ (t : Table) (l : Layout) where
  -- the local data: first what is structured, then scalars
  abbrev pub structured_room : List ℕ → ℕ
  structured_room ks = sum_by (λ k. if is_structured (kind_of t k) then room l k else 0) ks

  -- how many scalars are in memory
  abbrev pub scalars_lent : Mask → List ℕ → ℕ
  scalars_lent lent [] = 0
  scalars_lent lent (k ∷ ks) = cond (lent 0 && not (is_structured (kind_of t k))) 1 0 + scalars_lent (rest lent) ks

  -- each with its word and its place, where the next structured one and the next scalar stand
  abbrev pub placed : Mask → (structured scalar : ℕ) → List (ℕ × Option ℕ) → List Variable
  placed lent a b [] = []
  placed lent a b (x ∷ xs) =
      if is_structured (kind_of t x.0) then record { type_number = x.0; word = x.1; site = Memory a } ∷ placed (rest lent) (a + room l x.0) b xs
      else if lent 0 then record { type_number = x.0; word = x.1; site = Memory b } ∷ placed (rest lent) a (b + 8) xs
      else record { type_number = x.0; word = x.1; site = Register } ∷ placed (rest lent) a b xs

-- the scalar value parameters with their words, counted from w on
abbrev pub value_parameters : ℕ → List Formal → List (ℕ × Option ℕ)
value_parameters w [] = []
value_parameters w (x ∷ xs) = (if is_value x.mode then (x.type_number, Some w) ∷ [] else []) ++ value_parameters (w + words_by x.mode) xs

---- How a procedure begins

-- the argument words from i on that are in no register
abbrev pub further : ℕ → ℕ → Low (Unit {0})
further i zero = skip
further i (suc n) = do
  _ ← emits (Arg i) []
  further (suc i) n

-- where there are structured variables, so many bytes become zeros: even where these are none
abbrev pub zeroing : Bool → (all size : ℕ) → Low (Unit {0})
zeroing false all size = skip
zeroing true all size = do
  a ← emits (LocalAt all) []
  b ← const size
  does Zero (a ∷ b ∷ [])

-- a variable's first value: its argument, or 0
abbrev pub first_value : Option ℕ → Low ℕ
first_value (Some w) = give w
first_value None = const 0

module _ (t : Table) (l : Layout) (all : ℕ) where
  -- a scalar in memory gets its first value
  abbrev pub store_first : Variable → Site → Low (Unit {0})
  store_first v Register = skip
  store_first v (Memory n) =
      if is_structured (kind_of t v.type_number) then skip
      else do
        a ← emits (LocalAt (all - n)) []
        u ← first_value v.word
        store (l.is_small (kind_of t v.type_number)) a u

  -- all of them
  abbrev pub stored : List Variable → Low (Unit {0})
  stored [] = skip
  stored (v ∷ vs) = store_first v v.site >>= λ _. stored vs

-- the first environment; a variable in memory has no value
abbrev pub first_of : Option ℕ → Site → Low ℕ
first_of word Register = first_value word
first_of word (Memory n) = give 0

abbrev pub opened : List Variable → Low (List ℕ)
opened [] = give []
opened (v ∷ vs) = do
  u ← first_of v.word v.site
  more ← opened vs
  give (u ∷ more)
