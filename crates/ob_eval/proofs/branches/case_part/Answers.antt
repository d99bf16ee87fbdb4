use Rattle.std.proofs.Common.{◌<◌, ◌≤◌, List, Bool, true, false, sym, ap, subst, ◌∙◌, arith}
use Rattle.run_laws.specs.Turns.{Ending, ◌>>=◌, give}
use Rattle.ob_types.specs.Store.{Store, Trap}
use Rattle.ob_types.specs.Operators.{labels_have}
use Rattle.ob_types.specs.Meaning.{effects_of}
use Rattle.ob_types.specs.declared.statements.Stmt.{Stmt}
use Rattle.ob_types.specs.declared.statements.CasePart.{CasePart}
use Rattle.ob_types.specs.declared.statements.Label.{Label}
use Rattle.eval_at_once.specs.Lists.{case_parts_by}
use Rattle.eval_tasks.specs.Weights.{all_statements, all_case_parts}
use Rattle.ob_eval.proofs.Choosing.{case_tested, more_lighter, first_lighter}
use Rattle.ob_eval.proofs.branches.case_part.Goals as goal

pub returns-then-has_label-clause-part : goal.returns-then-has_label-clause-part
returns-then-has_label-clause-part c = λ p calls here fuel s.
    let v = c.args.v in
    let first = c.in-Some.first.now in
    let more = c.in-Some.more.now in
    let L : List Label → Bool = λ l. labels_have v l in
    let C : List CasePart → Ending Store Trap Bool = λ l. case_parts_by p calls here fuel v l s in
    let D : List Stmt → Ending Store Trap Bool = λ l. (effects_of p calls here fuel l >>= λ _. give true) s in
    c.parts.invariant.0 p calls here fuel s ∙ ap C c.in-Some.ensures.cases.0
    ∙ case_tested p calls here fuel s v first more true (sym (ap L c.as_slice.ensures) ∙ sym c.has_label.ensures ∙ c.if-has_label.true)
    ∙ ap D (sym c.as_slice-then-has_label.ensures.value)

pub returns-then-has_label-clause-lighter : goal.returns-then-has_label-clause-lighter
returns-then-has_label-clause-lighter c =
    let n = all_case_parts c.args.parts.now in
    let P : List CasePart → Type 0 = λ l. all_case_parts l ≤ n in
    let Q : List Stmt → Type 0 = λ l. all_statements l < n in
    subst Q (sym c.as_slice-then-has_label.ensures.value) (first_lighter 2 (all_statements c.in-Some.first.now.body.items) (all_case_parts c.in-Some.more.now) n (omega arith) (subst P c.in-Some.ensures.cases.0 c.parts.invariant.1))

pub parts-preserved : goal.parts-preserved
parts-preserved c =
    let v = c.args.v in
    let first = c.in-Some.first.now in
    let more = c.in-Some.more.now in
    let n = all_case_parts c.args.parts.now in
    let L : List Label → Bool = λ l. labels_have v l in
    let P : List CasePart → Type 0 = λ l. all_case_parts l ≤ n in (
      λ p calls here fuel s.
          let C : List CasePart → Ending Store Trap Bool = λ l. case_parts_by p calls here fuel v l s in
          c.parts.invariant.0 p calls here fuel s ∙ ap C c.in-Some.ensures.cases.0
          ∙ case_tested p calls here fuel s v first more false (sym (ap L c.as_slice.ensures) ∙ sym c.has_label.ensures ∙ c.if-has_label.false),
      more_lighter 2 (all_statements first.body.items) (all_case_parts more) n (omega arith) (subst P c.in-Some.ensures.cases.0 c.parts.invariant.1),
    )
