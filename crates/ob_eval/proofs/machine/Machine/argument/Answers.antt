use Rattle.std.proofs.Common.{◌≡◌, ℕ, ◌∷◌, Option, refl, sym, ap, ◌∙◌}
use Rattle.ob_types.specs.Meaning.{kind_in, length_of_kind, record_of_kind}
use Rattle.eval_tasks.specs.declared.task.Act.TheVariants.{AsSpan, AsPlace, AsRecord}
use Rattle.eval_tasks.specs.Tasks.{Next, evaluates, locates, gathers, acts}
use Rattle.ob_eval.specs.Steps.{before}
use Rattle.ob_eval.proofs.Steps.{added_two, added_three}
use Rattle.ob_eval.proofs.Reaching.{by_value_is, by_place_is, by_record_is, by_open_is}
use Rattle.ob_eval.proofs.machine.Machine.argument.Goals as goal

pub returns-in_ok-add-in-ByValue-2-clause-went : goal.returns-in_ok-add-in-ByValue-2-clause-went
returns-in_ok-add-in-ByValue-2-clause-went c =
    let p = c.args.laid.now in
    let m = c.args.self.now in
    let xs = c.args.rest.now in
    added_two p m c.add.new.self c.add-in-ByValue.new.self _ _ (gathers p xs) (evaluates p c.in-ByValue.x) c.in_ok-add-in-ByValue.ensures.ok c.in_ok-add-in-ByValue-2.ensures.ok refl refl
    ∙ by_value_is p c.in-ByValue.x xs m
    ∙ ap (λ a. before p (gathers p (a ∷ xs)) m) (sym c.in-ByValue.is)

pub returns-in_ok-add-in-ByPlace-3-clause-went : goal.returns-in_ok-add-in-ByPlace-3-clause-went
returns-in_ok-add-in-ByPlace-3-clause-went c =
    let p = c.args.laid.now in
    let m = c.args.self.now in
    let xs = c.args.rest.now in
    added_three p m c.add-in-ByPlace.new.self c.add-in-ByPlace-2.new.self c.add-in-ByPlace-3.new.self _ _ _ (gathers p xs) (acts p AsPlace) (locates p c.in-ByPlace.d) c.in_ok-add-in-ByPlace.ensures.ok c.in_ok-add-in-ByPlace-2.ensures.ok c.in_ok-add-in-ByPlace-3.ensures.ok refl refl refl
    ∙ by_place_is p c.in-ByPlace.d xs m
    ∙ ap (λ a. before p (gathers p (a ∷ xs)) m) (sym c.in-ByPlace.is)

pub returns-in_ok-add-in-ByRecord-3-clause-went : goal.returns-in_ok-add-in-ByRecord-3-clause-went
returns-in_ok-add-in-ByRecord-3-clause-went c =
    let p = c.args.laid.now in
    let m = c.args.self.now in
    let xs = c.args.rest.now in
    let d = c.in-ByRecord.d in
    let R : ℕ → Next → Next = λ r. acts p (AsRecord r) in
    let own : c.record_of_kind.result ≡ record_of_kind (kind_in d) = c.record_of_kind.ensures ∙ ap record_of_kind c.kind_in.ensures in
    added_three p m c.add-in-ByRecord.new.self c.add-in-ByRecord-2.new.self c.add-in-ByRecord-3.new.self _ _ _ (gathers p xs) (acts p (AsRecord (record_of_kind (kind_in d)))) (locates p d) c.in_ok-add-in-ByRecord.ensures.ok c.in_ok-add-in-ByRecord-2.ensures.ok c.in_ok-add-in-ByRecord-3.ensures.ok refl (ap R own) refl
    ∙ by_record_is p d xs m
    ∙ ap (λ a. before p (gathers p (a ∷ xs)) m) (sym c.in-ByRecord.is)

pub returns-in_ok-add-in-ByOpen-3-clause-went : goal.returns-in_ok-add-in-ByOpen-3-clause-went
returns-in_ok-add-in-ByOpen-3-clause-went c =
    let p = c.args.laid.now in
    let m = c.args.self.now in
    let xs = c.args.rest.now in
    let d = c.in-ByOpen.d in
    let R : Option ℕ → Next → Next = λ n. acts p (AsSpan n) in
    let many : c.length_of_kind.result ≡ length_of_kind (kind_in d) = c.length_of_kind.ensures ∙ ap length_of_kind c.kind_in-in-ByOpen.ensures in
    added_three p m c.add-in-ByOpen.new.self c.add-in-ByOpen-2.new.self c.add-in-ByOpen-3.new.self _ _ _ (gathers p xs) (acts p (AsSpan (length_of_kind (kind_in d)))) (locates p d) c.in_ok-add-in-ByOpen.ensures.ok c.in_ok-add-in-ByOpen-2.ensures.ok c.in_ok-add-in-ByOpen-3.ensures.ok refl (ap R many) refl
    ∙ by_open_is p d xs m
    ∙ ap (λ a. before p (gathers p (a ∷ xs)) m) (sym c.in-ByOpen.is)
