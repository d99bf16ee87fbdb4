use Rattle.std.proofs.Common.{List, [], ◌∷◌, ◌++◌, Bool, Ok, sym, ap, subst, ◌∙◌, append_assoc}
use Rattle.run_laws.specs.Turns.{Ending}
use Rattle.ob_types.specs.Store.{Store, Trap}
use Rattle.ob_types.specs.Meaning.{at_most, effect, effects_of}
use Rattle.ob_types.specs.declared.statements.Stmt.{Stmt}
use Rattle.eval_at_once.specs.Here.{here_of}
use Rattle.eval_at_once.specs.AtOnce.{Done}
use Rattle.eval_at_once.proofs.Going.{effects_more}
use Rattle.eval_at_once.proofs.deeds.perform_some.Goals as goal

pub statements-preserved : goal.statements-preserved
statements-preserved c =
    let p = c.args.laid.now in
    let x = c.args.active.now in
    let s = c.statements.world in
    let t = c.perform.new.world in
    let first = c.in-Some.first.now in
    let more = c.in-Some.more.now in
    let inv = c.statements.invariant in
    let E : List Stmt → Ending Store Trap (Unit {0}) = λ l. effects_of p (at_most p x.fuel) (here_of x) x.fuel l s in
    let A : List Stmt → List Stmt = λ l. inv.1.0 ++ l in
    let D : Bool → Type 0 = λ b. Done (effect p (at_most p x.fuel) (here_of x) x.fuel first s) (Ok b) s t in
    let turns = c.in-Ok.ensures.turns in (
      inv.0 ∙ ap E c.in-Some.ensures.cases.0 ∙ effects_more p (at_most p x.fuel) (here_of x) x.fuel first more s t (subst D c.if-not-done.false c.in-Ok.ensures.did),
      (inv.1.0 ++ first ∷ [], inv.1.1 ∙ ap A c.in-Some.ensures.cases.0 ∙ sym (append_assoc inv.1.0 (first ∷ []) more)),
      turns ∙ inv.2,
    )
