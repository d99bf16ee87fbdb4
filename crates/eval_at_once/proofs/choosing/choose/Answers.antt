use Rattle.std.proofs.Common.{List, ◌++◌, ◌+◌, take, drop, Bool, true, false, sym, ap, subst, ◌∙◌}
use Rattle.std.proofs.lemmas.List.{take-append-drop}
use Rattle.run_laws.specs.Turns.{Ending, Gives, ◌>>=◌, give}
use Rattle.ob_types.specs.Store.{Store, Trap}
use Rattle.ob_types.specs.Meaning.{at_most, effects_of}
use Rattle.ob_types.specs.declared.statements.Stmt.{Stmt}
use Rattle.ob_types.specs.declared.statements.Branch.{Branch}
use Rattle.eval_store.specs.Did.{Stopped}
use Rattle.eval_at_once.specs.Here.{here_of}
use Rattle.eval_at_once.specs.Lists.{branches_by}
use Rattle.eval_at_once.proofs.Going.{at_item, branch_tested, branch_stops}
use Rattle.eval_at_once.proofs.choosing.choose.Goals as goal

pub returns-in-Err-clause-chose : goal.returns-in-Err-clause-chose
returns-in-Err-clause-chose c =
    let p = c.args.laid.now in
    let x = c.args.active.now in
    let s = c.args.world.now in
    let bs = c.args.branches.now in
    let i = c.loop-branch.branch-index in
    let b = c.branch-item.result in
    let B : List Branch → Ending Store Trap Bool = λ l. branches_by p (at_most p x.fuel) (here_of x) x.fuel l s in
    let P : Ending Store Trap Bool → Type 0 = λ e. Stopped e c.in-Err.stop s.out in
    subst P (sym (c.loop-branch.invariant ∙ ap B (at_item bs i b c.loop-branch-test.true c.branch-item.is))) (branch_stops p (at_most p x.fuel) (here_of x) x.fuel b (drop (i + 1) bs) s c.in-Err.stop s.out c.in-Err.ensures)

pub returns-then-holds-clause-chose : goal.returns-then-holds-clause-chose
returns-then-holds-clause-chose c =
    let p = c.args.laid.now in
    let x = c.args.active.now in
    let s = c.args.world.now in
    let bs = c.args.branches.now in
    let i = c.loop-branch.branch-index in
    let b = c.branch-item.result in
    let B : List Branch → Ending Store Trap Bool = λ l. branches_by p (at_most p x.fuel) (here_of x) x.fuel l s in
    let G : Bool → Ending Store Trap Bool = λ ok. Gives ok s in
    let D : List Stmt → Ending Store Trap Bool = λ l. (effects_of p (at_most p x.fuel) (here_of x) x.fuel l >>= λ _. give true) s in
    let known = rw c.in-Ok-Some.field-0-is at c.in-Ok-Some.ensures in
    c.loop-branch.invariant ∙ ap B (at_item bs i b c.loop-branch-test.true c.branch-item.is)
    ∙ branch_tested p (at_most p x.fuel) (here_of x) x.fuel b (drop (i + 1) bs) s true (known ∙ ap G c.if-holds.true)
    ∙ ap D (sym c.as_slice.ensures.value)

pub returns-then-holds-clause-among : goal.returns-then-holds-clause-among
returns-then-holds-clause-among c =
    let bs = c.args.branches.now in
    let i = c.loop-branch.branch-index in
    let b = c.branch-item.result in
    let T : List Branch → List Branch = λ l. take i bs ++ l in
    (take i bs, b, drop (i + 1) bs, sym (take-append-drop i bs) ∙ ap T (at_item bs i b c.loop-branch-test.true c.branch-item.is), sym c.as_slice.ensures.value)

pub loop-branch-preserved : goal.loop-branch-preserved
loop-branch-preserved c =
    let p = c.args.laid.now in
    let x = c.args.active.now in
    let s = c.args.world.now in
    let bs = c.args.branches.now in
    let i = c.loop-branch.branch-index in
    let b = c.branch-item.result in
    let B : List Branch → Ending Store Trap Bool = λ l. branches_by p (at_most p x.fuel) (here_of x) x.fuel l s in
    let G : Bool → Ending Store Trap Bool = λ ok. Gives ok s in
    let known = rw c.in-Ok-Some.field-0-is at c.in-Ok-Some.ensures in
    c.loop-branch.invariant ∙ ap B (at_item bs i b c.loop-branch-test.true c.branch-item.is)
    ∙ branch_tested p (at_most p x.fuel) (here_of x) x.fuel b (drop (i + 1) bs) s false (known ∙ ap G c.if-holds.false)
