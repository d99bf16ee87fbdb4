-- What lists in trees are, from what their items are.
use Rattle.std.proofs.Common.{◌≡◌, ℕ, List, [], ◌∷◌, ◌++◌, map, refl, sym, ap, ◌∙◌, append_assoc}
use Rattle.std.specs.List.{flat_map}
use Rattle.std.proofs.lemmas.List.{append-nil}
use Rattle.ob_types.specs.Table.{Table}
use Rattle.ob_types.specs.declared.tree.Link.{Link}
use Rattle.ob_types.specs.declared.tree.Selector.{Selector, Index, Field, Dereference, Narrow}
use Rattle.ob_types.specs.declared.tree.Argument.{Argument}
use Rattle.ob_types.specs.declared.statements.Branch.{Branch}
use Rattle.ob_types.specs.declared.statements.CasePart.{CasePart}
use Rattle.ob_types.specs.declared.statements.TypePart.{TypePart}
use Rattle.ob_types.specs.declared.statements.Stmt.{Stmt}
use Rattle.ob_judge.specs.Texts.{Strings, in_expr, in_link, in_place, in_argument, in_arguments, in_statement, in_statements, in_branches, in_parts}
use Rattle.ob_judge.specs.Image as I
use Rattle.judged_tree.specs.Plain.{plain_link, plain_selector, plain_argument, plain_statement, plain_body, guarded, pointer_at}
use Rattle.check_operands.specs.trees.Lists.{each_link, each_selector, each_argument}
use Rattle.check_statements.specs.trees.Onto.{branches_onto, case_parts_onto, type_parts_onto}
use Rattle.check_procedures.specs.numbers.Readings.{Leads, ToElement, ToField, ToObject, ToNarrowed, leads, in_lead, from_place, Guarded, guarded_of, branches, Chosen, chosen_by_labels, chosen_by_type}

-- ---- links

abbrev pub linked_by : List I.Link → I.Expr → I.Expr
linked_by [] x = x
linked_by (l ∷ ls) x = linked_by ls (I.Linked x l)

pub links_are : (t : Table) (texts : Strings) (ls : List Link) (x : I.Expr) → each_link t texts ls x ≡ linked_by (map (plain_link t texts) ls) x
links_are t texts [] x = refl
links_are t texts (l ∷ ls) x = links_are t texts ls (I.Linked x (plain_link t texts l))

pub in_linked : (ls : List I.Link) (x : I.Expr) → in_expr (linked_by ls x) ≡ in_expr x ++ flat_map in_link ls
in_linked [] x = sym (append-nil (in_expr x))
in_linked (l ∷ ls) x = in_linked ls (I.Linked x l) ∙ append_assoc (in_expr x) (in_link l) (flat_map in_link ls)

-- ---- selectors

abbrev pub led_by : List Leads → I.Place → I.Place
led_by [] place = place
led_by (w ∷ ws) place = led_by ws (from_place w place)

lead_is : (t : Table) (texts : Strings) (s : Selector) (place : I.Place) → plain_selector t texts s place ≡ from_place (leads t texts s) place
lead_is t texts (Index length element index) place = refl
lead_is t texts (Field adder number) place = refl
lead_is t texts (Dereference tags) place = refl
lead_is t texts (Narrow tag) place = refl

pub selectors_are : (t : Table) (texts : Strings) (ss : List Selector) (place : I.Place) → each_selector t texts ss place ≡ led_by (map (leads t texts) ss) place
selectors_are t texts [] place = refl
selectors_are t texts (s ∷ ss) place = selectors_are t texts ss (plain_selector t texts s place) ∙ ap (led_by (map (leads t texts) ss)) (lead_is t texts s place)

in_guarded : (tags : List ℕ) (x : I.Expr) → in_expr (guarded tags x) ≡ in_expr x
in_guarded [] x = refl
in_guarded (r ∷ rs) x = in_guarded rs (I.Guard x r)

in_lead_is : (w : Leads) (place : I.Place) → in_place (from_place w place) ≡ in_place place ++ in_lead w
in_lead_is (ToElement length element index) place = refl
in_lead_is (ToField adder number) place = sym (append-nil (in_place place))
in_lead_is (ToObject tags) place = in_guarded tags (pointer_at place) ∙ sym (append-nil (in_place place))
in_lead_is (ToNarrowed tag) place = sym (append-nil (in_place place))

pub in_led : (ws : List Leads) (place : I.Place) → in_place (led_by ws place) ≡ in_place place ++ flat_map in_lead ws
in_led [] place = sym (append-nil (in_place place))
in_led (w ∷ ws) place =
    in_led ws (from_place w place) ∙ ap (λ l. l ++ flat_map in_lead ws) (in_lead_is w place)
    ∙ append_assoc (in_place place) (in_lead w) (flat_map in_lead ws)

-- ---- arguments

abbrev pub arguments_of : List I.Argument → I.Arguments
arguments_of [] = I.no_argument
arguments_of (x ∷ xs) = I.next_argument x (arguments_of xs)

pub arguments_are : (t : Table) (texts : Strings) (xs : List Argument) → each_argument t texts xs ≡ arguments_of (map (plain_argument t texts) xs)
arguments_are t texts [] = refl
arguments_are t texts (x ∷ xs) = ap (I.next_argument (plain_argument t texts x)) (arguments_are t texts xs)

pub in_arguments_are : (xs : List I.Argument) → in_arguments (arguments_of xs) ≡ flat_map in_argument xs
in_arguments_are [] = refl
in_arguments_are (x ∷ xs) = ap (λ l. in_argument x ++ l) (in_arguments_are xs)

-- ---- statements

abbrev pub statements_of : List I.Statement → I.Statements
statements_of [] = I.no_statement
statements_of (s ∷ ss) = I.next_statement s (statements_of ss)

pub statements_are : (t : Table) (texts : Strings) (ss : List Stmt) → plain_body t texts ss ≡ statements_of (map (plain_statement t texts) ss)
statements_are t texts [] = refl
statements_are t texts (s ∷ ss) = ap (I.next_statement (plain_statement t texts s)) (statements_are t texts ss)

pub in_statements_are : (ss : List I.Statement) → in_statements (statements_of ss) ≡ flat_map in_statement ss
in_statements_are [] = refl
in_statements_are (s ∷ ss) = ap (λ l. in_statement s ++ l) (in_statements_are ss)

-- ---- branches

abbrev pub branches_of : List Guarded → I.Branches
branches_of [] = I.no_branch
branches_of (x ∷ xs) = I.next_branch x.condition x.body (branches_of xs)

pub branches_are : (t : Table) (texts : Strings) (bs : List Branch) → branches_onto t texts bs I.no_branch ≡ branches_of (map (guarded_of t texts) bs)
branches_are t texts [] = refl
branches_are t texts (b ∷ bs) = ap (I.next_branch (guarded_of t texts b).condition (guarded_of t texts b).body) (branches_are t texts bs)

pub in_branches_are : (xs : List Guarded) → in_branches (branches_of xs) ≡ flat_map branches.uses xs
in_branches_are [] = refl
in_branches_are (x ∷ xs) =
    ap (λ l. (in_expr x.condition.form ++ in_statements x.body) ++ l) (in_branches_are xs)

-- ---- parts of a CASE

abbrev pub parts_of : List Chosen → I.Parts
parts_of [] = I.no_part
parts_of (x ∷ xs) = I.next_part x.when x.body (parts_of xs)

pub case_parts_are : (t : Table) (texts : Strings) (ps : List CasePart) → case_parts_onto t texts ps I.no_part ≡ parts_of (map (chosen_by_labels t texts) ps)
case_parts_are t texts [] = refl
case_parts_are t texts (p ∷ ps) = ap (I.next_part (chosen_by_labels t texts p).when (chosen_by_labels t texts p).body) (case_parts_are t texts ps)

pub type_parts_are : (t : Table) (texts : Strings) (ps : List TypePart) → type_parts_onto t texts ps I.no_part ≡ parts_of (map (chosen_by_type t texts) ps)
type_parts_are t texts [] = refl
type_parts_are t texts (p ∷ ps) = ap (I.next_part (chosen_by_type t texts p).when (chosen_by_type t texts p).body) (type_parts_are t texts ps)

pub in_parts_are : (xs : List Chosen) → in_parts (parts_of xs) ≡ flat_map (λ x. in_statements x.body) xs
in_parts_are [] = refl
in_parts_are (x ∷ xs) = ap (λ l. in_statements x.body ++ l) (in_parts_are xs)
