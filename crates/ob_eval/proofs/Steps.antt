-- Steps of the machine: what was added to its tasks, and what is left.
use Rattle.std.proofs.Common.{◌≡◌, ◌≢◌, ℕ, zero, suc, Vec, Box, Global, List, [], ◌∷◌, Bool, true, false, Option, Some, None, Err, refl, ap, ap₂, sym, subst, ◌∙◌, arith}
use Rattle.std.specs.Prelude.{if◌then◌else◌}
use Rattle.std.proofs.lemmas.Bool.Decides.{nat_tests}
use Rattle.run_laws.specs.Turns.{State, Ending, Gives, Fails, after, ◌>>=◌, give, spend, repeat}
use Rattle.ob_types.specs.Store.{Cell, Bits, Pointer, Code, Store, Trap, Senseless, given, Handed, Value, bits_in, bits, unless, Act}
use Rattle.ob_types.specs.Operators.{holds}
use Rattle.ob_types.specs.Statements.{Deed, skip}
use Rattle.ob_types.specs.Meaning.{value, effects_of, at_most}
use Rattle.ob_types.specs.declared.statements.Branch.{Branch}
use Rattle.ob_types.specs.declared.statements.CasePart.{CasePart}
use Rattle.eval_at_once.specs.Lists.{case_parts_by, linked_by}
use Rattle.ob_types.specs.declared.statements.Stmt.{Stmt, If, While, For', Case}
use Rattle.ob_types.specs.declared.statements.Checked.{Checked}
use Rattle.ob_types.specs.Statements.{case}
use Rattle.eval_tasks.specs.declared.task.Stage.TheVariants.{Rounds as StageRounds}
use Rattle.ob_types.specs.declared.tree.Unary.{Unary}
use Rattle.ob_types.specs.declared.tree.Expr.{Expr, Chain}
use Rattle.ob_types.specs.declared.tree.Link.{Link, Operate, And, Or, Element}
use Rattle.ob_types.specs.declared.tree.Binary.{Binary}
use Rattle.ob_types.specs.declared.program.Program.{Program}
use Rattle.eval_store.specs.Cells.{number_of}
use Rattle.eval_store.specs.Did.{Stopped}
use Rattle.ob_eval.specs.Steps.{left, before, TookNumber, with_number}
use Rattle.eval_store.specs.Handing.{cell_in}
use Rattle.eval_at_once.specs.Here.{here_of}
use Rattle.eval_tasks.specs.Tasks.{Next, popped, pushes, evaluates, follows, performs, performs_all, otherwise_all, tries, flag, branching, cases, locates, staged, acts, does, rest}
use Rattle.ob_eval.specs.declared.machine.Machine.{Machine}
use Rattle.eval_tasks.specs.declared.task.Task.{Task}
use Rattle.eval_tasks.specs.declared.task.Act.TheVariants.{OneOperand, Yes, Number, TwoOperands, WithElement, AsPlace, PutFirst}
use Rattle.eval_tasks.specs.declared.task.Branching.TheVariants.{Try, Chosen, Rounds, Again}
use Rattle.eval_store.specs.declared.stop.Stop.{Stop}
use Rattle.eval_store.specs.declared.stop.Stop.TheVariants.{Trapped, TurnsSpent, NoSense, NoMemory}
use Rattle.eval_store.proofs.Endings.{assoc, same}
use Rattle.eval_at_once.proofs.Leads.{linked_on}
use Rattle.eval_tasks.proofs.Expressions.{f_senseless, f_operate, f_element, f_and, f_or}
use Rattle.eval_tasks.proofs.Statements.{p_for, p_case, b_cons, otherwise_holds, p_if, b_chosen, w_again, again_flag}
use Rattle.eval_at_once.proofs.Rows.{value_chain, effect_if, effect_while, effect_case}

-- one task was added
pub added_one : (p : Program) (m m1 : Machine) (t : Task) (f : Next → Next) → m1 ≡ record m { tasks = t ∷ m.tasks } → does p t ≡ f → left p m1 ≡ before p f m
added_one p m m1 t f e d = ap (left p) e ∙ ap (λ g. g (rest p m.tasks) m.active m.values m.world) d

-- two tasks were added
pub added_two : (p : Program) (m m1 m2 : Machine) (t1 t2 : Task) (f1 f2 : Next → Next) → m1 ≡ record m { tasks = t1 ∷ m.tasks } → m2 ≡ record m1 { tasks = t2 ∷ m1.tasks } → does p t1 ≡ f1 → does p t2 ≡ f2 → left p m2 ≡ before p (λ k. f2 (f1 k)) m
added_two p m m1 m2 t1 t2 f1 f2 e1 e2 d1 d2 =
    ap (left p) e2
    ∙ ap (λ w. does p t2 (rest p w.tasks) w.active w.values w.world) e1
    ∙ ap₂ (λ f g. f (g (rest p m.tasks)) m.active m.values m.world) d2 d1

pub chain_is : (p : Program) (x : Box Expr Global) (ks : Vec Link Global) (m : Machine) → before p (λ k. evaluates p x.value (follows p ks.items k)) m ≡ before p (evaluates p (Chain x ks)) m
chain_is p x ks m =
    sym (ap (λ a. after (a m.world) (pushes (rest p m.tasks) m.active m.values)) (value_chain p (at_most p m.active.fuel) (here_of m.active) x ks)
    ∙ linked_on p (at_most p m.active.fuel) (here_of m.active) ks.items (value p (at_most p m.active.fuel) (here_of m.active) x.value) (pushes (rest p m.tasks) m.active m.values) m.world)

pub popped_same : (vs : List Handed) (f g : Cell → List Handed → Deed) (s : State Store) → ((c : Cell) (more : List Handed) (t : State Store) → f c more t ≡ g c more t) → popped vs f s ≡ popped vs g s
popped_same [] f g s h = refl
popped_same (v ∷ vs) f g s h = by (cell_in v)
  where
    by : (o : Option Cell) → after (given o s) (λ c. f c vs) ≡ after (given o s) (λ c. g c vs)
    by None = refl
    by (Some c) = h c vs s

-- what took a number stopped
pub one_operand_stops : (p : Program) (op : Unary) (m m1 : Machine) (stop : Stop) → TookNumber m (Err stop) m1 → Stopped (before p (acts p (OneOperand op)) m) stop m1.world.out
one_operand_stops p op m m1 stop h =
    let P : Stop → Type 0 = λ s. Stopped (before p (acts p (OneOperand op)) m) s m1.world.out in
    subst P (sym h.0)
    (popped_same m.values _ _ m.world (λ c more t. assoc (bits_in c t) _ (pushes (rest p m.tasks) m.active more))
    ∙ h.1 _)

-- any act that begins with a number stopped
pub number_stops : (m m1 : Machine) (go : Cell → List Handed → Deed) (next : ℕ → List Handed → Deed) (stop : Stop) → TookNumber m (Err stop) m1 → ((c : Cell) (more : List Handed) (t : State Store) → go c more t ≡ (bits_in c >>= λ n. next n more) t) → Stopped (popped m.values go m.world) stop m1.world.out
number_stops m m1 go next stop h same_go =
    let P : Stop → Type 0 = λ s. Stopped (popped m.values go m.world) s m1.world.out in
    subst P (sym h.0) (popped_same m.values go _ m.world same_go ∙ h.1 next)

pub if_is : (p : Program) (ps : Vec Branch Global) (ss : Vec Stmt Global) (m : Machine) → before p (λ k. branching p Try ps.items (otherwise_all p ss.items k)) m ≡ before p (performs p (If ps ss)) m
if_is p ps ss m =
    sym (ap (λ d. after (d m.world) (λ _. rest p m.tasks m.active m.values)) (effect_if p (at_most p m.active.fuel) (here_of m.active) m.active.fuel ps ss)
    ∙ p_if p (rest p m.tasks) m.active m.values m.world ps.items ss.items)

pub while_is : (p : Program) (ps : Vec Branch Global) (m : Machine) → before p (branching p (Rounds m.active.fuel) ps.items) m ≡ before p (performs p (While ps)) m
while_is p ps m = sym (ap (λ d. after (d m.world) (λ _. rest p m.tasks m.active m.values)) (effect_while p (at_most p m.active.fuel) (here_of m.active) m.active.fuel ps))

-- a round of WHILE, behind its turn
pub round_is : (p : Program) (n : ℕ) (bs : List Branch) (m : Machine) (t : State Store) → spend {C = Store} {U = Trap} m.world ≡ Gives tt t → before p (λ k. branching p Try bs (branching p (Again n) bs k)) (record m { world = t }) ≡ before p (branching p (Rounds (suc n)) bs) m
round_is p n bs m t is =
    sym (ap (λ e. after (after e (λ _. tries p m.active bs >>= λ b. if b then repeat n (tries p m.active bs) else give tt)) (λ _. rest p m.tasks m.active m.values)) is
    ∙ assoc (tries p m.active bs t) _ (λ _. rest p m.tasks m.active m.values)
    ∙ same (tries p m.active bs t) (λ b u. again_flag p (rest p m.tasks) m.active m.values t n bs b u))

pub round_stops : (p : Program) (n : ℕ) (bs : List Branch) (m : Machine) (stop : Stop) (out : List ℕ) → Stopped (spend m.world) stop out → Stopped (before p (branching p (Rounds (suc n)) bs) m) stop out
round_stops p n bs m stop out h = by stop h
  where
    by : (stop : Stop) → Stopped (spend m.world) stop out → Stopped (after (after (spend m.world) (λ _. tries p m.active bs >>= λ b. if b then repeat n (tries p m.active bs) else give tt)) (λ _. rest p m.tasks m.active m.values)) stop out
    by (Trapped kind f) h = ap (λ e. after (after e (λ _. tries p m.active bs >>= λ b. if b then repeat n (tries p m.active bs) else give tt)) (λ _. rest p m.tasks m.active m.values)) h
    by TurnsSpent h = ap (λ e. after (after e (λ _. tries p m.active bs >>= λ b. if b then repeat n (tries p m.active bs) else give tt)) (λ _. rest p m.tasks m.active m.values)) h
    by NoSense h = ap (λ e. after (after e (λ _. tries p m.active bs >>= λ b. if b then repeat n (tries p m.active bs) else give tt)) (λ _. rest p m.tasks m.active m.values)) h
    by NoMemory h = tt

-- a branch behind its condition
pub chosen_is : (p : Program) (b : Branch) (bs : List Branch) (a : ℕ) (m : Machine) (c : Bool) → holds a ≡ c → before p (λ k. if c then performs_all p b.body.items (acts p Yes k) else branching p Try bs k) m ≡ before p (branching p Chosen (b ∷ bs)) (record m { values = Value (Bits a) ∷ m.values })
chosen_is p b bs a m c h = sym (b_chosen p (rest p m.tasks) m.active m.values m.world b bs a c h ∙ by c)
  where
    by : (c : Bool) → (if c then performs_all p b.body.items (acts p Yes (rest p m.tasks)) m.active m.values else branching p Try bs (rest p m.tasks) m.active m.values) m.world ≡ (if c then performs_all p b.body.items (acts p Yes (rest p m.tasks)) else branching p Try bs (rest p m.tasks)) m.active m.values m.world
    by true = refl
    by false = refl

pub again_is : (p : Program) (n : ℕ) (bs : List Branch) (a : ℕ) (m : Machine) (c : Bool) → holds a ≡ c → before p (λ k. if c then branching p (Rounds n) bs k else k) m ≡ before p (branching p (Again n) bs) (record m { values = Value (Bits a) ∷ m.values })
again_is p n bs a m c h = sym (w_again p (rest p m.tasks) m.active m.values m.world n bs a c h ∙ by c)
  where
    by : (c : Bool) → (if c then branching p (Rounds n) bs (rest p m.tasks) m.active m.values else rest p m.tasks m.active m.values) m.world ≡ (if c then branching p (Rounds n) bs (rest p m.tasks) else rest p m.tasks) m.active m.values m.world
    by true = refl
    by false = refl

pub holds_on : (a : ℕ) → a ≢ 0 → holds a ≡ true
holds_on a h = grind (arith, nat_tests)

pub first_is : (p : Program) (b : Branch) (bs : List Branch) (m : Machine) → before p (λ k. evaluates p b.condition.form (branching p Chosen (b ∷ bs) k)) m ≡ before p (branching p Try (b ∷ bs)) m
first_is p b bs m = sym (b_cons p (rest p m.tasks) m.active m.values m.world b bs)

pub again_stops : (p : Program) (n : ℕ) (bs : List Branch) (m m1 : Machine) (stop : Stop) → TookNumber m (Err stop) m1 → Stopped (before p (branching p (Again n) bs) m) stop m1.world.out
again_stops p n bs m m1 stop h = number_stops m m1 _ (λ a more t. after (after (give (holds a) t) (λ b. if b then repeat n (tries p m.active bs) else skip)) (λ _. rest p m.tasks m.active more)) stop h (λ c more t.
    ap (λ e. after e (λ _. rest p m.tasks m.active more)) (assoc (bits_in c t) (λ a. give (holds a)) (λ b. if b then repeat n (tries p m.active bs) else skip))
    ∙ assoc (bits_in c t) _ (λ _. rest p m.tasks m.active more))

pub choose_stops : (p : Program) (b : Branch) (bs : List Branch) (m m1 : Machine) (stop : Stop) → TookNumber m (Err stop) m1 → Stopped (before p (branching p Chosen (b ∷ bs)) m) stop m1.world.out
choose_stops p b bs m m1 stop h =
    let B : Deed = effects_of p (at_most p m.active.fuel) (here_of m.active) m.active.fuel b.body.items in
    let G : Bool → State Store → Ending Store Trap Bool = λ ok. if ok then (B >>= λ _. give true) else tries p m.active bs in
    number_stops m m1 _ (λ a more t. after (after (give (holds a) t) G) (λ b. pushes (rest p m.tasks) m.active more (flag b))) stop h (λ c more t.
    ap (λ e. after e (λ b. pushes (rest p m.tasks) m.active more (flag b))) (assoc (bits_in c t) (λ a. give (holds a)) G)
    ∙ assoc (bits_in c t) _ (λ b. pushes (rest p m.tasks) m.active more (flag b)))

pub round_stops_at : (p : Program) (n : ℕ) (bs : List Branch) (m : Machine) (stop : Stop) (out : List ℕ) → n ≢ 0 → Stopped (spend m.world) stop out → Stopped (before p (branching p (Rounds n) bs) m) stop out
round_stops_at p zero bs m stop out none h = absurd (none refl)
round_stops_at p (suc n) bs m stop out none h = round_stops p n bs m stop out h

pub otherwise_stops : (p : Program) (ss : List Stmt) (m m1 : Machine) (stop : Stop) → TookNumber m (Err stop) m1 → Stopped (before p (otherwise_all p ss) m) stop m1.world.out
otherwise_stops p ss m m1 stop h =
    let B : Deed = effects_of p (at_most p m.active.fuel) (here_of m.active) m.active.fuel ss in
    let G : Bool → State Store → Ending Store Trap (Unit {0}) = λ b. if b then skip else B in
    number_stops m m1 _ (λ a more t. after (after (give (holds a) t) G) (λ _. rest p m.tasks m.active more)) stop h (λ c more t.
    ap (λ e. after e (λ _. rest p m.tasks m.active more)) (assoc (bits_in c t) (λ a. give (holds a)) G)
    ∙ assoc (bits_in c t) _ (λ _. rest p m.tasks m.active more))

pub otherwise_is : (p : Program) (ss : List Stmt) (a : ℕ) (m : Machine) → holds a ≡ true → left p m ≡ before p (otherwise_all p ss) (record m { values = Value (Bits a) ∷ m.values })
otherwise_is p ss a m h = sym (otherwise_holds p (rest p m.tasks) m.active m.values m.world ss a true h)

pub number_not : (p : Program) (m m1 : Machine) (stop : Stop) → TookNumber m (Err stop) m1 → Stopped (before p (acts p Number) m) stop m1.world.out
number_not p m m1 stop h = number_stops m m1 _ (λ n more. pushes (rest p m.tasks) m.active more (Bits n)) stop h (λ c more t. refl)

-- three tasks were added
pub added_three : (p : Program) (m m1 m2 m3 : Machine) (t1 t2 t3 : Task) (f1 f2 f3 : Next → Next) → m1 ≡ record m { tasks = t1 ∷ m.tasks } → m2 ≡ record m1 { tasks = t2 ∷ m1.tasks } → m3 ≡ record m2 { tasks = t3 ∷ m2.tasks } → does p t1 ≡ f1 → does p t2 ≡ f2 → does p t3 ≡ f3 → left p m3 ≡ before p (λ k. f3 (f2 (f1 k))) m
added_three p m m1 m2 m3 t1 t2 t3 f1 f2 f3 e1 e2 e3 d1 d2 d3 =
    added_two p m1 m2 m3 t2 t3 f2 f3 e2 e3 d2 d3
    ∙ ap (before p (λ k. f3 (f2 k))) e1
    ∙ ap (λ f. f3 (f2 (f (rest p m.tasks))) m.active m.values m.world) d1

abbrev no_number : Cell → Type 0
no_number (Bits n) = ⊥
no_number _ = Unit {0}

-- the first link wants a number
pub follow_stops : (p : Program) (l : Link) (ls : List Link) (m m1 : Machine) (stop : Stop) → TookNumber m (Err stop) m1 → Stopped (before p (follows p (l ∷ ls)) m) stop m1.world.out
follow_stops p l ls m m1 stop h = number_stops m m1 _ (λ n more. follows p (l ∷ ls) (rest p m.tasks) m.active (Value (Bits n) ∷ more)) stop h by
  where
    by : (c : Cell) (more : List Handed) (t : State Store) → after (linked_by p (at_most p m.active.fuel) (here_of m.active) (l ∷ ls) (give c) t) (pushes (rest p m.tasks) m.active more) ≡ (bits_in c >>= λ n. follows p (l ∷ ls) (rest p m.tasks) m.active (Value (Bits n) ∷ more)) t
    by (Bits n) more t = refl
    by (Pointer o) more t = f_senseless p (rest p m.tasks) m.active more t l ls (Pointer o) (λ n e. subst no_number e tt)
    by (Code f) more t = f_senseless p (rest p m.tasks) m.active more t l ls (Code f) (λ n e. subst no_number e tt)

-- one more task was added, below others
pub push_one : (p : Program) (G : Next → Next) (m m1 : Machine) (t : Task) (f : Next → Next) → m1 ≡ record m { tasks = t ∷ m.tasks } → does p t ≡ f → before p G m1 ≡ before p (λ k. G (f k)) m
push_one p G m m1 t f e d = ap (before p G) e ∙ ap (λ g. G (g (rest p m.tasks)) m.active m.values m.world) d

pub with_given : (m m1 : Machine) (c : Cell) (a : ℕ) → m1 ≡ record m { values = Value c ∷ m.values } → c ≡ Bits a → m1 ≡ with_number a m
with_given m m1 c a e d = let F : Cell → Machine = λ v. record m { values = Value v ∷ m.values } in e ∙ ap F d

pub operate_is : (p : Program) (op : Binary) (y : Expr) (ls : List Link) (a : ℕ) (m : Machine) → before p (λ k. evaluates p y (acts p (TwoOperands op) (follows p ls k))) (with_number a m) ≡ before p (follows p (Operate op y ∷ ls)) (with_number a m)
operate_is p op y ls a m = sym (f_operate p (rest p m.tasks) m.active m.values m.world op y ls a)

pub element_is : (p : Program) (y : Expr) (ls : List Link) (a : ℕ) (m : Machine) → before p (λ k. evaluates p y (acts p WithElement (follows p ls k))) (with_number a m) ≡ before p (follows p (Element y ∷ ls)) (with_number a m)
element_is p y ls a m = sym (f_element p (rest p m.tasks) m.active m.values m.world y ls a)

pub and_is : (p : Program) (y : Expr) (ls : List Link) (a : ℕ) (m : Machine) → holds a ≡ true → before p (λ k. evaluates p y (follows p ls k)) m ≡ before p (follows p (And y ∷ ls)) (with_number a m)
and_is p y ls a m h = sym (f_and p (rest p m.tasks) m.active m.values m.world y ls a true h)

pub or_is : (p : Program) (y : Expr) (ls : List Link) (a : ℕ) (m : Machine) → holds a ≡ false → before p (λ k. evaluates p y (follows p ls k)) m ≡ before p (follows p (Or y ∷ ls)) (with_number a m)
or_is p y ls a m h = sym (f_or p (rest p m.tasks) m.active m.values m.world y ls a false h)

-- the tasks of FOR, and any other statement as it is
abbrev pub for_tasks : Program → ℕ → Stmt → Next → Next
for_tasks p n (For' i d y z step j body) k = locates p d (acts p AsPlace (evaluates p y.form (acts p PutFirst (evaluates p z.form (acts p Number (staged p (StageRounds n) (For' i d y z step j body) k))))))
for_tasks p n s k = performs p s k

pub for_is : (p : Program) (m : Machine) (s : Stmt) → before p (for_tasks p m.active.fuel s) m ≡ before p (performs p s) m
for_is p m (For' i d y z step j body) = sym (p_for p (rest p m.tasks) m.active m.values m.world i j d y z step body)
for_is p m _ = refl

case_same : (f : ℕ) (x : Act Cell) (g h : ℕ → Act Bool) (s : State Store) → ((v : ℕ) → g v ≡ h v) → case f x g s ≡ case f x h s
case_same f x g h s e = same (bits x s) (λ v t. ap (λ d. after (d t) (λ ok. unless f 6 ok)) (e v))

pub case_is : (p : Program) (e : Checked) (ps : Vec CasePart Global) (m : Machine) → before p (λ k. evaluates p e.form (cases p ps.items k)) m ≡ before p (performs p (Case e ps)) m
case_is p e ps m =
    sym (ap (λ d. after d (λ _. rest p m.tasks m.active m.values)) (case_same m.active.procedure (value p (at_most p m.active.fuel) (here_of m.active) e.form) _ (λ v. case_parts_by p (at_most p m.active.fuel) (here_of m.active) m.active.fuel v ps.items) m.world (λ v. effect_case p (at_most p m.active.fuel) (here_of m.active) m.active.fuel e ps v))
    ∙ p_case p (rest p m.tasks) m.active m.values m.world e ps.items)

-- a number that a cell holds
pub number_is : (c : Cell) (n : ℕ) → number_of c ≡ Some n → c ≡ Bits n
number_is (Bits m) n e = cc
number_is (Pointer o) n e = absurd (cc)
number_is (Code f) n e = absurd (cc)

pub no_bits : (c : Cell) (s : State Store) → number_of c ≡ None → bits_in c s ≡ Fails Senseless s.out
no_bits (Bits m) s e = absurd (cc)
no_bits (Pointer o) s e = refl
no_bits (Code f) s e = refl

pub bits_are : (c : Cell) (n : ℕ) (s : State Store) → number_of c ≡ Some n → bits_in c s ≡ Gives n s
bits_are c n s e = ap (λ c. bits_in c s) (number_is c n e)
