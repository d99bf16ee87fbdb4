use Rattle.std.proofs.Common.{◌<◌, ◌≤◌, List, Bool, true, false, sym, ap, subst, ◌∙◌, arith}
use Rattle.run_laws.specs.Turns.{Ending, ◌>>=◌, give}
use Rattle.ob_types.specs.Store.{Store, Trap}
use Rattle.ob_types.specs.Meaning.{effects_of}
use Rattle.ob_types.specs.declared.statements.Stmt.{Stmt}
use Rattle.ob_types.specs.declared.statements.TypePart.{TypePart}
use Rattle.eval_at_once.specs.Lists.{type_parts_by}
use Rattle.eval_tasks.specs.Weights.{all_statements, all_type_parts}
use Rattle.ob_eval.proofs.Choosing.{type_tested, more_lighter, first_lighter}
use Rattle.ob_eval.proofs.branches.type_part.Goals as goal

pub returns-then-is_of-clause-part : goal.returns-then-is_of-clause-part
returns-then-is_of-clause-part c = λ p calls here fuel s e.
    let t = c.args.found in
    let first = c.in-Some.first.now in
    let more = c.in-Some.more.now in
    let C : List TypePart → Ending Store Trap Bool = λ l. type_parts_by p calls here fuel t l s in
    let D : List Stmt → Ending Store Trap Bool = λ l. (effects_of p calls here fuel l >>= λ _. give true) s in
    c.parts.invariant.0 p calls here fuel s e ∙ ap C c.in-Some.ensures.cases.0
    ∙ type_tested p calls here fuel s t c.args.types.now first more true e (sym c.is_of.ensures ∙ c.if-is_of.true)
    ∙ ap D (sym c.as_slice.ensures.value)

pub returns-then-is_of-clause-lighter : goal.returns-then-is_of-clause-lighter
returns-then-is_of-clause-lighter c =
    let n = all_type_parts c.args.parts.now in
    let P : List TypePart → Type 0 = λ l. all_type_parts l ≤ n in
    let Q : List Stmt → Type 0 = λ l. all_statements l < n in
    subst Q (sym c.as_slice.ensures.value) (first_lighter 1 (all_statements c.in-Some.first.now.body.items) (all_type_parts c.in-Some.more.now) n (omega arith) (subst P c.in-Some.ensures.cases.0 c.parts.invariant.1))

pub parts-preserved : goal.parts-preserved
parts-preserved c =
    let t = c.args.found in
    let first = c.in-Some.first.now in
    let more = c.in-Some.more.now in
    let n = all_type_parts c.args.parts.now in
    let P : List TypePart → Type 0 = λ l. all_type_parts l ≤ n in (
      λ p calls here fuel s e.
          let C : List TypePart → Ending Store Trap Bool = λ l. type_parts_by p calls here fuel t l s in
          c.parts.invariant.0 p calls here fuel s e ∙ ap C c.in-Some.ensures.cases.0
          ∙ type_tested p calls here fuel s t c.args.types.now first more false e (sym c.is_of.ensures ∙ c.if-is_of.false),
      more_lighter 1 (all_statements first.body.items) (all_type_parts more) n (omega arith) (subst P c.in-Some.ensures.cases.0 c.parts.invariant.1),
    )
