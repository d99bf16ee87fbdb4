-- What tasks do, over what follows them: the meaning of what is left to do.
use Rattle.std.specs.Prelude.{ℕ, List, [], ◌∷◌, ◌++◌, reverse, take, drop, Bool, true, false, Option, None, if◌then◌else◌, bit_or, ℤ}
use Rattle.wrapping_numbers.specs.Numbers.{unsigned, add64}
use Rattle.wrapping_numbers.specs.Sets.{has}
use Rattle.run_laws.specs.Turns.{Gives, ◌>>=◌, give, spend, repeat, while_so}
use Rattle.ob_types.specs.Layout.{record_cells, extends}
use Rattle.ob_types.specs.Store.{Cell, Bits, Act, senseless, given, Address, Handed, At, Value, fetch, put, unless, bits_in, bits, place, code_in}
use Rattle.ob_types.specs.Operators.{truth, inside, elements}
use Rattle.ob_types.specs.Expressions.{element_place, load, all_guarded, one_operand, two_operands, compared, texts_compared, with_element, pointer_type, parameter_type, type_test, as_byte, length_of, by_place, by_record, by_open}
use Rattle.ob_types.specs.Statements.{Deed, skip, assign, copy_array, copy_record, change_number, change_set, new, assert, out_char, out_int, out_string, in_char, test, try, at_limit, case, type_case}
use Rattle.ob_types.specs.Meaning.{value, designated, effect, effects_of, called, at_most}
use Rattle.ob_types.specs.declared.tree.Expr.{Expr}
use Rattle.ob_types.specs.declared.tree.Link.{Link}
use Rattle.ob_types.specs.declared.tree.Designator.{Designator}
use Rattle.ob_types.specs.declared.tree.Selector.{Selector}
use Rattle.ob_types.specs.declared.tree.Argument.{Argument}
use Rattle.ob_types.specs.declared.tree.Call.{Call}
use Rattle.ob_types.specs.declared.statements.Stmt.{Stmt, Repeat', For'}
use Rattle.ob_types.specs.declared.statements.Branch.{Branch}
use Rattle.ob_types.specs.declared.statements.CasePart.{CasePart}
use Rattle.ob_types.specs.declared.statements.TypePart.{TypePart}
use Rattle.ob_types.specs.declared.program.Program.{Program}
use Rattle.ob_types.specs.Meaning.{effects}
use Rattle.eval_store.specs.Handing.{cell_in}
use Rattle.eval_at_once.specs.Here.{here_of}
use Rattle.eval_at_once.specs.Lists.{linked_by, selected_by, arguments_by, branches_by, case_parts_by, type_parts_by}
use Rattle.eval_at_once.specs.declared.active.Active.{Active}
use Rattle.eval_tasks.specs.declared.task.Act.{Act as TheAct}
use Rattle.eval_tasks.specs.declared.task.Act.TheVariants.{Fetch, OneOperand, Number, Element, TwoOperands, Compared, TextsCompared, Contained, WithElement, WithRange, PointerIs, ParameterIs, AsByte, LengthOf, AsSpan, AsPlace, AsRecord, ElementOf, Put, PutFirst, CopyArray, CopyRecord, ChangeNumber, ChangeSet, Make, Assert, OutChar, OutInt, OutString, InChar, Yes, Drop, Nothing, Invoke, InvokeValue}
use Rattle.eval_tasks.specs.declared.task.Stage.{Stage}
use Rattle.eval_tasks.specs.declared.task.Stage.TheVariants.{Begin, Rounds, Behind}
use Rattle.eval_tasks.specs.declared.task.Branching.{Branching}
use Rattle.eval_tasks.specs.declared.task.Branching.TheVariants.{Try, Chosen, Again}
use Rattle.eval_tasks.specs.declared.task.Branching.TheVariants.{Rounds as WhileRounds}
use Rattle.eval_tasks.specs.declared.task.Typing.{Typing}
use Rattle.eval_tasks.specs.declared.task.Typing.TheVariants.{OfPointer, OfParameter}
use Rattle.eval_tasks.specs.declared.task.Task.{Task}
use Rattle.eval_tasks.specs.declared.task.Task.TheVariants.{Do, Evaluate, Follow, Locate, Select, Guards, Gather, Perform, PerformAll, Branches, Cases, Types, Return, Resume}

-- what follows: in a call, with these values, the last first
abbrev pub Next : Type 0
Next = Active → List Handed → Deed

-- the last that was handed over, and the last value
abbrev pub taken : List Handed → (Handed → List Handed → Deed) → Deed
taken [] go = senseless
taken (h ∷ vs) go = go h vs

abbrev pub popped : List Handed → (Cell → List Handed → Deed) → Deed
popped vs go = taken vs (λ h rest. given (cell_in h) >>= λ c. go c rest)

-- a value behind the others
abbrev pub pushes : Next → Active → List Handed → Cell → Deed
pushes k x vs c = k x (Value c ∷ vs)

abbrev pub hands : Next → Active → List Handed → Handed → Deed
hands k x vs h = k x (h ∷ vs)

abbrev pub flag : Bool → Cell
flag b = Bits (truth b)

-- whether a value holds
abbrev pub says : Cell → Act Bool
says c = test (give c)

-- a call's result, where it is wanted
abbrev pub results : Bool → Next → Active → List Handed → Option Cell → Deed
results true k x vs c = given c >>= pushes k x vs
results false k x vs c = k x vs

-- back to a call's caller: the call's object goes
abbrev pub popped_frame : ℕ → Deed
popped_frame n s = Gives tt (record s { store = record s.store { frames = take n s.store.frames } })

-- the limit and the address of FOR, which stay
abbrev pub limited : List Handed → (ℕ → Address → List Handed → Deed) → Deed
limited (Value (Bits n) ∷ At a ∷ vs) go = go n a vs
limited _ go = senseless

module _ (p : Program) where
  -- parts of the tree

  abbrev pub evaluates : Expr → Next → Next
  evaluates e k x vs = value p (at_most p x.fuel) (here_of x) e >>= pushes k x vs

  abbrev pub follows : List Link → Next → Next
  follows ls k x vs = popped vs (λ c rest. linked_by p (at_most p x.fuel) (here_of x) ls (give c) >>= pushes k x rest)

  abbrev pub locates : Designator → Next → Next
  locates d k x vs = designated p (at_most p x.fuel) (here_of x) d >>= hands k x vs

  abbrev pub selects : List Selector → Next → Next
  selects ss k x vs = taken vs (λ h rest. selected_by p (at_most p x.fuel) (here_of x) ss (give h) >>= hands k x rest)

  abbrev pub guards : List ℕ → Next → Next
  guards rs k x vs = popped vs (λ c rest. all_guarded x.procedure (extends p.types) (give c) rs >>= pushes k x rest)

  abbrev pub gathers : List Argument → Next → Next
  gathers xs k x vs = arguments_by p (at_most p x.fuel) (here_of x) xs >>= λ hs. k x (reverse hs ++ vs)

  abbrev pub reaches : Call → Bool → Next → Next
  reaches c wanted k x vs = called p (at_most p x.fuel) (here_of x) c >>= results wanted k x vs

  abbrev pub performs : Stmt → Next → Next
  performs s k x vs = effect p (at_most p x.fuel) (here_of x) x.fuel s >>= λ _. k x vs

  abbrev pub performs_all : List Stmt → Next → Next
  performs_all ss k x vs = effects_of p (at_most p x.fuel) (here_of x) x.fuel ss >>= λ _. k x vs

  -- a statement behind branches: not where one was done
  abbrev pub unless_done : Cell → Deed → Deed
  unless_done c deed = do
    b ← says c
    if b then skip else deed

  abbrev pub otherwise_all : List Stmt → Next → Next
  otherwise_all ss k x vs = popped vs (λ c rest. unless_done c (effects_of p (at_most p x.fuel) (here_of x) x.fuel ss) >>= λ _. k x rest)

  -- branches

  abbrev pub tries : Active → List Branch → Act Bool
  tries x bs = branches_by p (at_most p x.fuel) (here_of x) x.fuel bs

  abbrev pub chosen : Active → Cell → List Branch → Act Bool
  chosen x c [] = senseless
  chosen x c (b ∷ rest) = try (says c) (effects_of p (at_most p x.fuel) (here_of x) x.fuel b.body.items) (tries x rest)

  abbrev pub branching : Branching → List Branch → Next → Next
  branching Try bs k x vs = tries x bs >>= λ b. pushes k x vs (flag b)
  branching Chosen bs k x vs = popped vs (λ c rest. chosen x c bs >>= λ b. pushes k x rest (flag b))
  branching (WhileRounds n) bs k x vs = repeat n (tries x bs) >>= λ _. k x vs
  branching (Again n) bs k x vs = popped vs (λ c rest. (says c >>= λ b. if b then repeat n (tries x bs) else skip) >>= λ _. k x rest)

  -- REPEAT and FOR

  abbrev pub until_round : Deed → Act Bool → Act Bool
  until_round body x = do
    b ← x
    if b then give false else (body >>= λ _. give true)

  abbrev pub for_test : Address → ℤ → ℕ → Act Bool
  for_test a step limit = do
    v ← bits (fetch a)
    give (at_limit step v limit)

  abbrev pub for_step : Address → ℤ → Deed
  for_step a step = do
    v ← bits (fetch a)
    put a (Bits (add64 v (unsigned step)))

  abbrev pub for_rounds : ℕ → Address → ℤ → ℕ → Deed → Deed
  for_rounds n a step limit body = while_so n (for_test a step limit) (do
    _ ← body
    for_step a step)

  abbrev pub staged : Stage → Stmt → Next → Next
  staged Begin s k x vs = performs s k x vs
  staged (Rounds n) (Repeat' _ body y) k x vs = repeat n (until_round (effects p (at_most p x.fuel) (here_of x) x.fuel body) (test (value p (at_most p x.fuel) (here_of x) y.form))) >>= λ _. k x vs
  staged (Rounds n) (For' _ d y z step _ body) k x vs = limited vs (λ limit a rest. for_rounds n a step limit (effects p (at_most p x.fuel) (here_of x) x.fuel body) >>= λ _. k x rest)
  staged (Rounds n) _ k x vs = senseless
  staged (Behind n) (Repeat' _ body y) k x vs = popped vs (λ c rest. (until_round (effects p (at_most p x.fuel) (here_of x) x.fuel body) (says c) >>= λ b. if b then repeat n (until_round (effects p (at_most p x.fuel) (here_of x) x.fuel body) (test (value p (at_most p x.fuel) (here_of x) y.form))) else skip) >>= λ _. k x rest)
  staged (Behind n) (For' _ d y z step _ body) k x vs = limited vs (λ limit a rest. (for_step a step >>= λ _. for_rounds n a step limit (effects p (at_most p x.fuel) (here_of x) x.fuel body)) >>= λ _. k x rest)
  staged (Behind n) _ k x vs = senseless

  -- CASE, behind its selector
  abbrev pub cases : List CasePart → Next → Next
  cases ps k x vs = popped vs (λ c rest. case x.procedure (give c) (λ v. case_parts_by p (at_most p x.fuel) (here_of x) x.fuel v ps) >>= λ _. k x rest)

  abbrev pub typing : Typing → List TypePart → Next → Next
  typing OfPointer ps k x vs = popped vs (λ c rest. type_case (pointer_type (give c)) (λ t. type_parts_by p (at_most p x.fuel) (here_of x) x.fuel t ps) >>= λ _. k x rest)
  typing OfParameter ps k x vs = taken vs (λ h rest. type_case (parameter_type (give h)) (λ t. type_parts_by p (at_most p x.fuel) (here_of x) x.fuel t ps) >>= λ _. k x rest)

  -- acts

  abbrev pub acts : TheAct → Next → Next
  acts Fetch k x vs = taken vs (λ h rest. load (give h) >>= pushes k x rest)
  acts (OneOperand op) k x vs = popped vs (λ c rest. one_operand op (give c) >>= pushes k x rest)
  acts Number k x vs = popped vs (λ c rest. bits_in c >>= λ n. pushes k x rest (Bits n))
  acts Element k x vs = popped vs (λ c rest. bits_in c >>= λ n. unless x.procedure 7 (inside n 64) >>= λ _. pushes k x rest (Bits n))
  acts (TwoOperands op) k x vs = popped vs (λ d rest. popped rest (λ c rest. two_operands x.procedure op (give c) (give d) >>= pushes k x rest))
  acts (Compared r) k x vs = popped vs (λ d rest. popped rest (λ c rest. compared r (give c) (give d) >>= pushes k x rest))
  acts (TextsCompared r) k x vs = taken vs (λ e rest. taken rest (λ d rest. texts_compared r (give d) None (give e) None >>= pushes k x rest))
  acts Contained k x vs = popped vs (λ d rest. popped rest (λ c rest. bits_in c >>= λ a. bits_in d >>= λ b. pushes k x rest (Bits (truth (has b a)))))
  acts WithElement k x vs = popped vs (λ d rest. popped rest (λ c rest. with_element x.procedure (give c) (give d) >>= pushes k x rest))
  acts WithRange k x vs = popped vs (λ e rest. popped rest (λ d rest. popped rest (λ c rest. bits_in c >>= λ b. bits_in d >>= λ from. bits_in e >>= λ to. unless x.procedure 7 (inside to 64) >>= λ _. pushes k x rest (Bits (bit_or b (elements from to))))))
  acts (PointerIs r) k x vs = popped vs (λ c rest. type_test (extends p.types) (pointer_type (give c)) r >>= pushes k x rest)
  acts (ParameterIs r) k x vs = taken vs (λ h rest. type_test (extends p.types) (parameter_type (give h)) r >>= pushes k x rest)
  acts AsByte k x vs = popped vs (λ c rest. as_byte x.procedure (give c) >>= pushes k x rest)
  acts (LengthOf n) k x vs = taken vs (λ h rest. length_of (give h) n >>= pushes k x rest)
  acts (AsSpan n) k x vs = taken vs (λ h rest. by_open (give h) n >>= hands k x rest)
  acts AsPlace k x vs = taken vs (λ h rest. by_place (give h) >>= hands k x rest)
  acts (AsRecord r) k x vs = taken vs (λ h rest. by_record (give h) r >>= hands k x rest)
  acts (ElementOf cells) k x vs = popped vs (λ c rest. taken rest (λ h rest. element_place x.procedure (give h) None cells (give c) >>= hands k x rest))
  acts Put k x vs = popped vs (λ c rest. taken rest (λ h rest. assign (give h) (give c) >>= λ _. k x rest))
  acts PutFirst k x vs = popped vs (λ c rest. taken rest (λ h rest. assign (give h) (give c) >>= λ _. hands k x rest h))
  acts (CopyArray cells) k x vs = taken vs (λ e rest. taken rest (λ d rest. copy_array x.procedure (give d) None (give e) None cells >>= λ _. k x rest))
  acts (CopyRecord cells) k x vs = taken vs (λ e rest. taken rest (λ d rest. copy_record (give d) (give e) cells >>= λ _. k x rest))
  acts (ChangeNumber op is_byte) k x vs = popped vs (λ c rest. taken rest (λ h rest. change_number x.procedure op (give h) (give c) is_byte >>= λ _. k x rest))
  acts (ChangeSet op) k x vs = popped vs (λ c rest. taken rest (λ h rest. change_set x.procedure op (give h) (give c) >>= λ _. k x rest))
  acts (Make r) k x vs = taken vs (λ h rest. new x.procedure (give h) r (record_cells p.types r) >>= λ _. k x rest)
  acts Assert k x vs = popped vs (λ c rest. assert x.procedure (give c) >>= λ _. k x rest)
  acts OutChar k x vs = popped vs (λ c rest. out_char (give c) >>= λ _. k x rest)
  acts OutInt k x vs = popped vs (λ d rest. popped rest (λ c rest. out_int (give c) (give d) >>= λ _. k x rest))
  acts OutString k x vs = taken vs (λ h rest. out_string (give h) None >>= λ _. k x rest)
  acts InChar k x vs = taken vs (λ h rest. in_char (give h) >>= λ _. k x rest)
  acts Yes k x vs = pushes k x vs (flag true)
  acts Drop k x vs = popped vs (λ c rest. k x rest)
  acts Nothing k x vs = senseless
  acts (Invoke g n wanted) k x vs = at_most p x.fuel g (reverse (take n vs)) >>= results wanted k x (drop n vs)
  acts (InvokeValue n wanted) k x vs = popped (drop n vs) (λ c rest. code_in x.procedure c >>= λ g. at_most p x.fuel g (reverse (take n vs)) >>= results wanted k x rest)

  -- the last value is a call's result, and none stands there for a procedure without one
  abbrev pub returns : Active → Bool → Next → Next
  returns old true k x vs = popped vs (λ c rest. spend >>= λ _. popped_frame x.frame >>= λ _. pushes k old rest c)
  returns old false k x vs = spend >>= λ _. popped_frame x.frame >>= λ _. k old vs

  -- another call runs
  abbrev pub resumes : Active → Next → Next
  resumes old k x vs = k old vs

  abbrev pub does : Task → Next → Next
  does (Do a) k = acts a k
  does (Evaluate e) k = evaluates e.now k
  does (Follow ls) k = follows ls.now k
  does (Locate d) k = locates d.now k
  does (Select ss) k = selects ss.now k
  does (Guards rs) k = guards rs.now k
  does (Gather xs) k = gathers xs.now k
  does (Perform s stage) k = staged stage s.now k
  does (PerformAll ss false) k = performs_all ss.now k
  does (PerformAll ss true) k = otherwise_all ss.now k
  does (Branches bs stage) k = branching stage bs.now k
  does (Cases ps) k = cases ps.now k
  does (Types ps stage) k = typing stage ps.now k
  does (Return old wanted) k = returns old wanted k
  does (Resume old) k = resumes old k

  -- nothing follows
  abbrev pub ends : Next
  ends x vs = skip

  -- all of them, the last first
  abbrev pub rest : List Task → Next
  rest [] = ends
  rest (t ∷ ts) = does t (rest ts)
