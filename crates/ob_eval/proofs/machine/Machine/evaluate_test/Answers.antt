use Rattle.std.proofs.Common.{◌≡◌, ℕ, Option, refl, ap, sym, ◌∙◌}
use Rattle.ob_types.specs.Meaning.{kind_in, length_of_kind}
use Rattle.ob_eval.specs.Steps.{before}
use Rattle.eval_tasks.specs.declared.task.Act.TheVariants.{TextsCompared, LengthOf, AsSpan}
use Rattle.eval_tasks.specs.Tasks.{Next, evaluates, locates, acts}
use Rattle.ob_eval.proofs.Steps.{added_two, push_one}
use Rattle.ob_eval.proofs.Values.{texts_is, length_is}
use Rattle.ob_eval.proofs.machine.Machine.evaluate_test.Goals as goal

pub returns-in_ok-add-in-CompareTexts-5-clause-went : goal.returns-in_ok-add-in-CompareTexts-5-clause-went
returns-in_ok-add-in-CompareTexts-5-clause-went c =
    let p = c.args.laid.now in
    let m = c.args.self.now in
    let r = c.in-CompareTexts.relation in
    let d = c.in-CompareTexts.d in
    let f = c.in-CompareTexts.f in
    let R : Option ℕ → Next → Next = λ n. acts p (AsSpan n) in
    let first : c.length_of_kind-in-CompareTexts.result ≡ length_of_kind (kind_in d.value) = c.length_of_kind-in-CompareTexts.ensures ∙ ap length_of_kind (c.kind_in-in-CompareTexts.ensures ∙ ap kind_in c.deref-in-CompareTexts-3.ensures) in
    let then : c.length_of_kind.result ≡ length_of_kind (kind_in f.value) = c.length_of_kind.ensures ∙ ap length_of_kind (c.kind_in.ensures ∙ ap kind_in c.deref-in-CompareTexts.ensures) in
    let A : Next → Next = λ k. locates p d.value k in
    let B : Next → Next = λ k. A (acts p (AsSpan (length_of_kind (kind_in d.value))) k) in
    let C : Next → Next = λ k. B (locates p f.value k) in
    let D : Next → Next = λ k. C (acts p (AsSpan (length_of_kind (kind_in f.value))) k) in
    push_one p (λ k. k) c.add-in-CompareTexts-4.new.self c.add-in-CompareTexts-5.new.self _ A c.in_ok-add-in-CompareTexts-5.ensures.ok (ap (λ d. locates p d) c.deref-in-CompareTexts-4.ensures)
    ∙ push_one p A c.add-in-CompareTexts-3.new.self c.add-in-CompareTexts-4.new.self _ (acts p (AsSpan (length_of_kind (kind_in d.value)))) c.in_ok-add-in-CompareTexts-4.ensures.ok (ap R first)
    ∙ push_one p B c.add-in-CompareTexts-2.new.self c.add-in-CompareTexts-3.new.self _ (locates p f.value) c.in_ok-add-in-CompareTexts-3.ensures.ok (ap (λ d. locates p d) c.deref-in-CompareTexts-2.ensures)
    ∙ push_one p C c.add-in-CompareTexts.new.self c.add-in-CompareTexts-2.new.self _ (acts p (AsSpan (length_of_kind (kind_in f.value)))) c.in_ok-add-in-CompareTexts-2.ensures.ok (ap R then)
    ∙ push_one p D m c.add-in-CompareTexts.new.self _ (acts p (TextsCompared r)) c.in_ok-add-in-CompareTexts.ensures.ok refl
    ∙ texts_is p m r d f
    ∙ ap (λ e. before p (evaluates p e) m) (sym c.in-CompareTexts.is)

pub returns-in_ok-add-in-Length-2-clause-went : goal.returns-in_ok-add-in-Length-2-clause-went
returns-in_ok-add-in-Length-2-clause-went c =
    let p = c.args.laid.now in
    let m = c.args.self.now in
    let d = c.in-Length.d in
    let R : Option ℕ → Next → Next = λ n. acts p (LengthOf n) in
    let many : c.length_of_kind-in-Length.result ≡ length_of_kind (kind_in d) = c.length_of_kind-in-Length.ensures ∙ ap length_of_kind c.kind_in-in-Length.ensures in
    added_two p m c.add-in-Length.new.self c.add-in-Length-2.new.self _ _ (acts p (LengthOf (length_of_kind (kind_in d)))) (locates p d) c.in_ok-add-in-Length.ensures.ok c.in_ok-add-in-Length-2.ensures.ok (ap R many) refl
    ∙ length_is p m d
    ∙ ap (λ e. before p (evaluates p e) m) (sym c.in-Length.is)
