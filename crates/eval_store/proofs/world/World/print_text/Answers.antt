use Rattle.std.proofs.Common.{List, ℕ, ◌++◌, refl, sym, ap, subst, ◌∙◌, arith}
use Rattle.run_laws.specs.Turns.{State, Gives}
use Rattle.ob_types.specs.Store.{Store, write}
use Rattle.ob_types.specs.Operators.{text_of}
use Rattle.eval_store.specs.Areas.{address_of}
use Rattle.eval_store.specs.Characters.{Holds}
use Rattle.eval_store.specs.Did.{Stopped}
use Rattle.eval_store.specs.declared.stop.Stop.{Stop}
use Rattle.eval_store.proofs.Letters.{written_first, written_more, written_end, holds_after}
use Rattle.eval_store.proofs.world.World.print_text.Goals as goal

pub characters-init : goal.characters-init
characters-init c = (refl, λ xs h. written_first xs c.args.self.now)

pub returns-in-Err-clause-did : goal.returns-in-Err-clause-did
returns-in-Err-clause-did c = λ xs h.
    let w = c.characters.invariant.1 xs h in
    let none = c.in-Err.ensures.err xs (holds_after c.args.length (address_of c.args.a) c.args.self.now c.characters.self xs c.characters.i w h) in
    let P : Stop → Type 0 = λ e. Stopped (write (text_of xs) c.args.self.now) e c.characters.self.out in
    subst P (sym none) tt

pub returns-then-x-eq0-clause-did : goal.returns-then-x-eq0-clause-did
returns-then-x-eq0-clause-did c = λ xs h.
    let w = c.characters.invariant.1 xs h in
    let k = holds_after c.args.length (address_of c.args.a) c.args.self.now c.characters.self xs c.characters.i w h in
    ap (λ (s : State Store). Gives tt s) (sym (written_end xs c.characters.i c.args.self.now c.characters.self w (sym c.if-x-eq0.true ∙ c.in-Ok.ensures.ok xs k)))

pub characters-preserved : goal.characters-preserved
characters-preserved c =
    let t = c.in-Ok-print.ensures.turns in
    let i = c.characters.invariant.0 in (
      omega (arith, t, i),
      λ xs h.
          let w = c.characters.invariant.1 xs h in
          let k = holds_after c.args.length (address_of c.args.a) c.args.self.now c.characters.self xs c.characters.i w h in
          let d = c.in-Ok-print.ensures.did in
          written_more xs c.characters.i c.in-Ok.x c.args.self.now c.characters.self c.print.new.self w (c.in-Ok.ensures.ok xs k) c.if-x-eq0.false (cc),
    )
