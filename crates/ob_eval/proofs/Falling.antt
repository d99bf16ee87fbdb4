-- What was added is lighter than what it came from.
use Rattle.std.proofs.Common.{◌≡◌, ℕ, ◌+◌, ◌<◌, ◌≤◌, List, [], ◌∷◌, ◌++◌, Result, Ok, Err, ap, sym, subst, ◌∙◌, arith}
use Rattle.run_laws.specs.Turns.{State}
use Rattle.eval_tasks.specs.Weights.{of_expr, of_call, of_designator, of_statement, all_statements, all_branches, all_type_parts, weight, weights}
use Rattle.ob_types.specs.declared.tree.Designator.{Designator, Whole, Part'}
use Rattle.ob_types.specs.declared.statements.Stmt.{Stmt, Assign, CopyArray, CopyRecord, Increase, Decrease, Include, Exclude, New, Assert, OutChar, OutInt, OutString, OutLn, InChar, If', While', Repeat', For', Case', CasePointer', CaseParameter'}
use Rattle.ob_types.specs.declared.statements.Stmt.{Call as Calling}
use Rattle.ob_types.specs.declared.statements.TypePart.{TypePart}
use Rattle.ob_types.specs.declared.statements.Branch.{Branch}
use Rattle.ob_types.specs.Store.{Store, Handed}
use Rattle.ob_types.specs.declared.tree.Expr.{Expr, Literal, Routine, Load, Guard', Unary', Chain', Compare', CompareTexts', In', IsPointer', IsParameter, Byte', Length, Call'}
use Rattle.ob_types.specs.declared.tree.Call.{Call, Direct', Indirect'}
use Rattle.eval_store.specs.declared.stop.Stop.{Stop}
use Rattle.ob_eval.specs.Steps.{Falls}
use Rattle.ob_eval.specs.declared.machine.Machine.{Machine}
use Rattle.eval_tasks.specs.declared.task.Task.{Task}

same_turns : (n : ℕ) → n ≤ n
same_turns n = omega (arith)

two_lighter : (a b v1 v2 n w : ℕ) → a ≡ v1 → b ≡ v2 → v2 + v1 < w → b + (a + n) < w + n
two_lighter a b v1 v2 n w d1 d2 h = omega (arith, d1, d2, h)

pub falls_two : (m m1 m2 : Machine) (t1 t2 : Task) (w w1 w2 : ℕ) → m1 ≡ record m { tasks = t1 ∷ m.tasks } → m2 ≡ record m1 { tasks = t2 ∷ m1.tasks } → weight t1 ≡ w1 → weight t2 ≡ w2 → w2 + w1 < w → Falls w m (Ok tt) m2
falls_two m m1 m2 t1 t2 w w1 w2 e1 e2 d1 d2 h =
    let P : Machine → Type 0 = λ z. Falls w m (Ok tt) z in
    let G : Machine → Machine = λ z. record z { tasks = t2 ∷ z.tasks } in
    subst P (sym (e2 ∙ ap G e1)) (same_turns m.world.turns, λ _. two_lighter (weight t1) (weight t2) w1 w2 (weights m.tasks) w d1 d2 h)

pub lighter : (w a b : ℕ) → w ≡ 1 + (a + b) → a + b < w
lighter w a b h = omega (arith, h)

pub lighter_if : (w a b : ℕ) → w ≡ 2 + (a + b) → a + (1 + b) < w
lighter_if w a b h = omega (arith, h)

three_lighter : (a b c v1 v2 v3 n w : ℕ) → a ≡ v1 → b ≡ v2 → c ≡ v3 → v3 + (v2 + v1) < w → c + (b + (a + n)) < w + n
three_lighter a b c v1 v2 v3 n w d1 d2 d3 h = omega (arith, d1, d2, d3, h)

pub falls_three : (m m1 m2 m3 : Machine) (t1 t2 t3 : Task) (w w1 w2 w3 : ℕ) → m1 ≡ record m { tasks = t1 ∷ m.tasks } → m2 ≡ record m1 { tasks = t2 ∷ m1.tasks } → m3 ≡ record m2 { tasks = t3 ∷ m2.tasks } → weight t1 ≡ w1 → weight t2 ≡ w2 → weight t3 ≡ w3 → w3 + (w2 + w1) < w → Falls w m (Ok tt) m3
falls_three m m1 m2 m3 t1 t2 t3 w w1 w2 w3 e1 e2 e3 d1 d2 d3 h =
    let P : Machine → Type 0 = λ z. Falls w m (Ok tt) z in
    let F : Machine → Machine = λ z. record z { tasks = t2 ∷ z.tasks } in
    let G : Machine → Machine = λ z. record z { tasks = t3 ∷ z.tasks } in
    subst P (sym (e3 ∙ ap G (e2 ∙ ap F e1))) (same_turns m.world.turns, λ _. three_lighter (weight t1) (weight t2) (weight t3) w1 w2 w3 (weights m.tasks) w d1 d2 d3 h)

pub lighter_case : (w a b : ℕ) → w ≡ 2 + (a + b) → a + (b + 1) < w
lighter_case w a b h = omega (arith, h)

any_lighter : (n w : ℕ) → 0 < w → n < w + n
any_lighter n w h = omega (arith, h)

-- only values changed
pub falls_given : (m m1 : Machine) (vs : List Handed) (w : ℕ) → m1 ≡ record m { values = vs } → 0 < w → Falls w m (Ok tt) m1
falls_given m m1 vs w e h =
    let P : Machine → Type 0 = λ z. Falls w m (Ok tt) z in
    subst P (sym e) (same_turns m.world.turns, λ _. any_lighter (weights m.tasks) w h)

more : (k n : ℕ) → 0 < k → 0 < k + n
more k n h = omega (arith, h)

one : 0 < 1
one = omega (arith)

two : 0 < 2
two = omega (arith)

three : 0 < 3
three = omega (arith)

four : 0 < 4
four = omega (arith)

call_weighs : (c : Call) → 0 < of_call c
call_weighs (Direct' g _ args) = more 2 _ two
call_weighs (Indirect' d _ args) = more 3 _ three

-- each expression weighs something
pub expr_weighs : (e : Expr) → 0 < of_expr e
expr_weighs (Literal n) = one
expr_weighs (Routine g) = one
expr_weighs (Load d) = more 2 _ two
expr_weighs (Guard' _ d rs) = more 3 _ three
expr_weighs (Unary' op _ x) = more 2 _ two
expr_weighs (Chain' _ x _ links) = more 1 _ one
expr_weighs (Compare' r _ x _ y) = more 2 _ two
expr_weighs (CompareTexts' r _ d _ e) = more 4 _ four
expr_weighs (In' _ x _ s) = more 3 _ three
expr_weighs (IsPointer' _ x r) = more 2 _ two
expr_weighs (IsParameter d r) = more 2 _ two
expr_weighs (Byte' _ x) = more 2 _ two
expr_weighs (Length d) = more 2 _ two
expr_weighs (Call' _ c) = call_weighs c

pub lighter_pair : (w a b : ℕ) → w ≡ 2 + (a + b) → a + b < w
lighter_pair w a b h = omega (arith, h)

pub lighter_body : (w b : ℕ) → w ≡ 2 + b → b + 1 < w
lighter_body w b h = omega (arith, h)

pub lighter_args : (w a : ℕ) → w ≡ 2 + a → a + 1 < w
lighter_args w a h = omega (arith, h)

one_lighter : (a v n w : ℕ) → a ≡ v → v < w → a + n < w + n
one_lighter a v n w d h = omega (arith, d, h)

pub falls_one : (m m1 : Machine) (t : Task) (w v : ℕ) → m1 ≡ record m { tasks = t ∷ m.tasks } → weight t ≡ v → v < w → Falls w m (Ok tt) m1
falls_one m m1 t w v e d h =
    let P : Machine → Type 0 = λ z. Falls w m (Ok tt) z in
    subst P (sym e) (same_turns m.world.turns, λ _. one_lighter (weight t) v (weights m.tasks) w d h)

four_lighter : (a b c d v1 v2 v3 v4 n w : ℕ) → a ≡ v1 → b ≡ v2 → c ≡ v3 → d ≡ v4 → v4 + (v3 + (v2 + v1)) < w → d + (c + (b + (a + n))) < w + n
four_lighter a b c d v1 v2 v3 v4 n w d1 d2 d3 d4 h = omega (arith, d1, d2, d3, d4, h)

pub falls_four : (m m1 m2 m3 m4 : Machine) (t1 t2 t3 t4 : Task) (w w1 w2 w3 w4 : ℕ) → m1 ≡ record m { tasks = t1 ∷ m.tasks } → m2 ≡ record m1 { tasks = t2 ∷ m1.tasks } → m3 ≡ record m2 { tasks = t3 ∷ m2.tasks } → m4 ≡ record m3 { tasks = t4 ∷ m3.tasks } → weight t1 ≡ w1 → weight t2 ≡ w2 → weight t3 ≡ w3 → weight t4 ≡ w4 → w4 + (w3 + (w2 + w1)) < w → Falls w m (Ok tt) m4
falls_four m m1 m2 m3 m4 t1 t2 t3 t4 w w1 w2 w3 w4 e1 e2 e3 e4 d1 d2 d3 d4 h =
    let P : Machine → Type 0 = λ z. Falls w m (Ok tt) z in
    let F : Machine → Machine = λ z. record z { tasks = t2 ∷ z.tasks } in
    let G : Machine → Machine = λ z. record z { tasks = t3 ∷ z.tasks } in
    let H : Machine → Machine = λ z. record z { tasks = t4 ∷ z.tasks } in
    subst P (sym (e4 ∙ ap H (e3 ∙ ap G (e2 ∙ ap F e1)))) (same_turns m.world.turns, λ _. four_lighter (weight t1) (weight t2) (weight t3) (weight t4) w1 w2 w3 w4 (weights m.tasks) w d1 d2 d3 d4 h)

pub lighter_call : (w a d : ℕ) → w ≡ 3 + (d + a) → d + (1 + (a + 1)) < w
lighter_call w a d h = omega (arith, h)

-- a body that is chosen is lighter than its branches
body_below : (a b c : ℕ) → a ≤ 3 + (b + (a + c))
body_below a b c = omega arith

below_more : (a b c d : ℕ) → a ≤ d → a ≤ 3 + (b + (c + d))
below_more a b c d h = omega (arith, h)

among_lighter : (front : List Branch) (b : Branch) (back : List Branch) → all_statements b.body.items ≤ all_branches (front ++ b ∷ back)
among_lighter [] b back = body_below (all_statements b.body.items) (of_expr b.condition.form) (all_branches back)
among_lighter (f ∷ front) b back = below_more (all_statements b.body.items) (of_expr f.condition.form) (all_statements f.body.items) (all_branches (front ++ b ∷ back)) (among_lighter front b back)

pub chosen_lighter : (bs front : List Branch) (b : Branch) (back : List Branch) (body : List Stmt) (n : ℕ) → bs ≡ front ++ b ∷ back → b.body.items ≡ body → all_statements body < 2 + (all_branches bs + n)
chosen_lighter bs front b back body n e is = small (all_statements body) (all_branches bs) n (let P : List Stmt → Type 0 = λ l. all_statements l ≤ all_branches bs in subst P is (let Q : List Branch → Type 0 = λ l. all_statements b.body.items ≤ all_branches l in subst Q (sym e) (among_lighter front b back)))
  where
    small : (a b n : ℕ) → a ≤ b → a < 2 + (b + n)
    small a b n h = omega (arith, h)

-- a task of less weight falls further
less_lighter : (a v w n : ℕ) → v ≤ w → a < v + n → a < w + n
less_lighter a v w n h k = omega (arith, h, k)

pub falls_less : (v w : ℕ) (m m1 : Machine) (r : Result (Unit {0}) Stop) → v ≤ w → Falls v m r m1 → Falls w m r m1
falls_less v w m m1 (Ok u) h f = (f.0, λ t. less_lighter (weights m1.tasks) v w (weights m.tasks) h (f.1 t))
falls_less v w m m1 (Err stop) h f = tt

-- a step that goes on from another world, with as many turns
pub falls_behind : (v w : ℕ) (m m1 : Machine) (t : State Store) (r : Result (Unit {0}) Stop) → t.turns ≡ m.world.turns → v ≤ w → Falls v (record m { world = t }) r m1 → Falls w m r m1
falls_behind v w m m1 t (Ok u) e h f = (omega (arith, e, f.0), λ k. less_lighter (weights m1.tasks) v w (weights m.tasks) h (f.1 (omega (arith, e, k))))
falls_behind v w m m1 t (Err stop) e h f = tt

-- a step that goes on with one task more
below_added : (a v w b n : ℕ) → v + b ≤ w → a < v + (b + n) → a < w + n
below_added a v w b n h k = omega (arith, h, k)

pub falls_added : (v w b : ℕ) (m m1 m2 : Machine) (t : Task) (r : Result (Unit {0}) Stop) → m1 ≡ record m { tasks = t ∷ m.tasks } → weight t ≡ b → v + b ≤ w → Falls v m1 r m2 → Falls w m r m2
falls_added v w b m m1 m2 t r e d h f =
    let P : Machine → Type 0 = λ z. Falls v z r m2 in
    by r (subst P e f)
  where
    by : (r : Result (Unit {0}) Stop) → Falls v (record m { tasks = t ∷ m.tasks }) r m2 → Falls w m r m2
    by (Ok u) f = (f.0, λ k. let N : ℕ → Type 0 = λ n. weights m2.tasks < v + (n + weights m.tasks) in below_added (weights m2.tasks) v w b (weights m.tasks) h (subst N d (f.1 k)))
    by (Err stop) f = tt

-- one more was handed over, and one task added
pub falls_handed : (m m1 m2 : Machine) (h : Handed) (t : Task) (w v : ℕ) → m1 ≡ record m { values = h ∷ m.values } → m2 ≡ record m1 { tasks = t ∷ m1.tasks } → weight t ≡ v → v < w → Falls w m (Ok tt) m2
falls_handed m m1 m2 h t w v e1 e2 d l =
    let P : Machine → Type 0 = λ z. Falls w m (Ok tt) z in
    let F : Machine → Machine = λ z. record z { tasks = t ∷ z.tasks } in
    subst P (sym (e2 ∙ ap F e1)) (same_turns m.world.turns, λ _. one_lighter (weight t) v (weights m.tasks) w d l)

pub lighter_one : (w v : ℕ) → w ≡ 1 + v → v < w
lighter_one w v h = omega (arith, h)

-- the end of a list is no heavier
pub end_lighter : (front back : List Stmt) → all_statements back ≤ all_statements (front ++ back)
end_lighter [] back = same_turns (all_statements back)
end_lighter (s ∷ front) back = longer (all_statements back) (of_statement s) (all_statements (front ++ back)) (end_lighter front back)
  where
    longer : (a b n : ℕ) → a ≤ n → a ≤ 1 + (b + n)
    longer a b n h = omega (arith, h)

-- another world, with as many turns
pub falls_world : (m : Machine) (t : State Store) (w : ℕ) → t.turns ≡ m.world.turns → 0 < w → Falls w m (Ok tt) (record m { world = t })
falls_world m t w e h = (omega (arith, e), λ _. any_lighter (weights m.tasks) w h)

-- each designator and each list weighs something
pub designator_weighs : (d : Designator) → 0 < of_designator d
designator_weighs (Whole b k) = one
designator_weighs (Part' _ b k _ selectors) = more 1 _ one

pub statements_weigh : (ss : List Stmt) → 0 < all_statements ss
statements_weigh [] = one
statements_weigh (s ∷ ss) = more 1 _ one

pub types_weigh : (ps : List TypePart) → 0 < all_type_parts ps
types_weigh [] = one
types_weigh (p ∷ ps) = more 1 _ one

pub statement_weighs : (s : Stmt) → 0 < of_statement s
statement_weighs (Assign d x) = more 3 _ three
statement_weighs (CopyArray d e) = more 4 _ four
statement_weighs (CopyRecord d e) = more 4 _ four
statement_weighs (Increase d x) = more 3 _ three
statement_weighs (Decrease d x) = more 3 _ three
statement_weighs (Include d x) = more 3 _ three
statement_weighs (Exclude d x) = more 3 _ three
statement_weighs (New d) = more 2 _ two
statement_weighs (Assert x) = more 2 _ two
statement_weighs (OutChar x) = more 2 _ two
statement_weighs (OutInt x n) = more 3 _ three
statement_weighs (OutString d) = more 3 _ three
statement_weighs OutLn = two
statement_weighs (InChar d) = more 2 _ two
statement_weighs (Calling c) = call_weighs c
statement_weighs (If' _ parts _ other) = more 2 _ two
statement_weighs (While' _ parts) = two
statement_weighs (Repeat' _ body x) = more 2 _ two
statement_weighs (For' _ d x y step _ body) = more 5 _ (more 2 3 two)
statement_weighs (Case' x _ parts) = more 2 _ two
statement_weighs (CasePointer' x _ parts) = more 2 _ two
statement_weighs (CaseParameter' d _ parts) = more 2 _ two
