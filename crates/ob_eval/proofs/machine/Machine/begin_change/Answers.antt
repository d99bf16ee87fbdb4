use Rattle.std.proofs.Common.{◌≡◌, ℕ, Bool, Option, refl, ap, sym, ◌∙◌}
use Rattle.ob_types.specs.Layout.{cells, record_cells}
use Rattle.ob_types.specs.Meaning.{kind_in, length_of_kind, element_kind, record_of_kind, is_byte}
use Rattle.ob_types.specs.declared.tree.Binary.TheVariants.{Add, Subtract}
use Rattle.eval_tasks.specs.declared.task.Act.TheVariants.{AsPlace, AsSpan, ChangeNumber}
use Rattle.eval_tasks.specs.declared.task.Act.TheVariants.{CopyArray as CopiesArray, CopyRecord as CopiesRecord}
use Rattle.eval_tasks.specs.Tasks.{Next, performs, evaluates, locates, acts, rest}
use Rattle.eval_tasks.proofs.Statements.{p_copy_array, p_copy_record, p_increase, p_decrease}
use Rattle.ob_eval.specs.Steps.{before}
use Rattle.ob_eval.proofs.Steps.{push_one}
use Rattle.ob_eval.proofs.machine.Machine.begin_change.Goals as goal

pub returns-in_ok-add-in-CopyArray-5-clause-went : goal.returns-in_ok-add-in-CopyArray-5-clause-went
returns-in_ok-add-in-CopyArray-5-clause-went c =
    let p = c.args.laid.now in
    let m = c.args.self.now in
    let d = c.in-CopyArray.d in
    let e = c.in-CopyArray.e in
    let N : ℕ → ℕ = λ k. cells p.types k in
    let Q : ℕ → Next → Next = λ n. acts p (CopiesArray n) in
    let R : Option ℕ → Next → Next = λ n. acts p (AsSpan n) in
    let many : c.in-Some.cells ≡ cells p.types (element_kind (kind_in d)) = c.in-Some.ensures ∙ ap N (c.element_kind.ensures ∙ ap element_kind c.kind_in.ensures) in
    let then : c.length_of_kind.result ≡ length_of_kind (kind_in e) = c.length_of_kind.ensures ∙ ap length_of_kind c.kind_in-in-CopyArray.ensures in
    let first : c.length_of_kind-in-CopyArray.result ≡ length_of_kind (kind_in d) = c.length_of_kind-in-CopyArray.ensures ∙ ap length_of_kind c.kind_in-in-CopyArray-2.ensures in
    let A : Next → Next = λ k. locates p d k in
    let B : Next → Next = λ k. A (acts p (AsSpan (length_of_kind (kind_in d))) k) in
    let C : Next → Next = λ k. B (locates p e k) in
    let D : Next → Next = λ k. C (acts p (AsSpan (length_of_kind (kind_in e))) k) in
    push_one p (λ k. k) c.add-in-CopyArray-4.new.self c.add-in-CopyArray-5.new.self _ (locates p d) c.in_ok-add-in-CopyArray-5.ensures.ok refl
    ∙ push_one p A c.add-in-CopyArray-3.new.self c.add-in-CopyArray-4.new.self _ (acts p (AsSpan (length_of_kind (kind_in d)))) c.in_ok-add-in-CopyArray-4.ensures.ok (ap R first)
    ∙ push_one p B c.add-in-CopyArray-2.new.self c.add-in-CopyArray-3.new.self _ (locates p e) c.in_ok-add-in-CopyArray-3.ensures.ok refl
    ∙ push_one p C c.add-in-CopyArray.new.self c.add-in-CopyArray-2.new.self _ (acts p (AsSpan (length_of_kind (kind_in e)))) c.in_ok-add-in-CopyArray-2.ensures.ok (ap R then)
    ∙ push_one p D m c.add-in-CopyArray.new.self _ (acts p (CopiesArray (cells p.types (element_kind (kind_in d))))) c.in_ok-add-in-CopyArray.ensures.ok (ap Q many)
    ∙ sym (p_copy_array p (rest p m.tasks) m.active m.values m.world d e)
    ∙ ap (λ s. before p (performs p s) m) (sym c.in-CopyArray.is)

pub returns-in_ok-add-in-CopyRecord-5-clause-went : goal.returns-in_ok-add-in-CopyRecord-5-clause-went
returns-in_ok-add-in-CopyRecord-5-clause-went c =
    let p = c.args.laid.now in
    let m = c.args.self.now in
    let d = c.in-CopyRecord.d in
    let e = c.in-CopyRecord.e in
    let N : ℕ → ℕ = λ k. record_cells p.types k in
    let Q : ℕ → Next → Next = λ n. acts p (CopiesRecord n) in
    let many : c.in-Some-record_cells.cells ≡ record_cells p.types (record_of_kind (kind_in d)) = c.in-Some-record_cells.ensures ∙ ap N (c.record_of_kind.ensures ∙ ap record_of_kind c.kind_in-in-CopyRecord.ensures) in
    let A : Next → Next = λ k. locates p d k in
    let B : Next → Next = λ k. A (acts p AsPlace k) in
    let C : Next → Next = λ k. B (locates p e k) in
    let D : Next → Next = λ k. C (acts p AsPlace k) in
    push_one p (λ k. k) c.add-in-CopyRecord-4.new.self c.add-in-CopyRecord-5.new.self _ (locates p d) c.in_ok-add-in-CopyRecord-5.ensures.ok refl
    ∙ push_one p A c.add-in-CopyRecord-3.new.self c.add-in-CopyRecord-4.new.self _ (acts p AsPlace) c.in_ok-add-in-CopyRecord-4.ensures.ok refl
    ∙ push_one p B c.add-in-CopyRecord-2.new.self c.add-in-CopyRecord-3.new.self _ (locates p e) c.in_ok-add-in-CopyRecord-3.ensures.ok refl
    ∙ push_one p C c.add-in-CopyRecord.new.self c.add-in-CopyRecord-2.new.self _ (acts p AsPlace) c.in_ok-add-in-CopyRecord-2.ensures.ok refl
    ∙ push_one p D m c.add-in-CopyRecord.new.self _ (acts p (CopiesRecord (record_cells p.types (record_of_kind (kind_in d))))) c.in_ok-add-in-CopyRecord.ensures.ok (ap Q many)
    ∙ sym (p_copy_record p (rest p m.tasks) m.active m.values m.world d e)
    ∙ ap (λ s. before p (performs p s) m) (sym c.in-CopyRecord.is)

pub returns-in_ok-add-in-Increase-4-clause-went : goal.returns-in_ok-add-in-Increase-4-clause-went
returns-in_ok-add-in-Increase-4-clause-went c =
    let p = c.args.laid.now in
    let m = c.args.self.now in
    let d = c.in-Increase.d in
    let x = c.in-Increase.x in
    let Q : Bool → Next → Next = λ b. acts p (ChangeNumber Add b) in
    let small : c.is_byte.result ≡ is_byte (kind_in d) = c.is_byte.ensures ∙ ap is_byte c.kind_in-in-Increase.ensures in
    let A : Next → Next = λ k. locates p d k in
    let B : Next → Next = λ k. A (acts p AsPlace k) in
    let C : Next → Next = λ k. B (evaluates p x.form k) in
    push_one p (λ k. k) c.add-in-Increase-3.new.self c.add-in-Increase-4.new.self _ (locates p d) c.in_ok-add-in-Increase-4.ensures.ok refl
    ∙ push_one p A c.add-in-Increase-2.new.self c.add-in-Increase-3.new.self _ (acts p AsPlace) c.in_ok-add-in-Increase-3.ensures.ok refl
    ∙ push_one p B c.add-in-Increase.new.self c.add-in-Increase-2.new.self _ (evaluates p x.form) c.in_ok-add-in-Increase-2.ensures.ok refl
    ∙ push_one p C m c.add-in-Increase.new.self _ (acts p (ChangeNumber Add (is_byte (kind_in d)))) c.in_ok-add-in-Increase.ensures.ok (ap Q small)
    ∙ sym (p_increase p (rest p m.tasks) m.active m.values m.world d x)
    ∙ ap (λ s. before p (performs p s) m) (sym c.in-Increase.is)

pub returns-in_ok-add-in-Decrease-4-clause-went : goal.returns-in_ok-add-in-Decrease-4-clause-went
returns-in_ok-add-in-Decrease-4-clause-went c =
    let p = c.args.laid.now in
    let m = c.args.self.now in
    let d = c.in-Decrease.d in
    let x = c.in-Decrease.x in
    let Q : Bool → Next → Next = λ b. acts p (ChangeNumber Subtract b) in
    let small : c.is_byte-in-Decrease.result ≡ is_byte (kind_in d) = c.is_byte-in-Decrease.ensures ∙ ap is_byte c.kind_in-in-Decrease.ensures in
    let A : Next → Next = λ k. locates p d k in
    let B : Next → Next = λ k. A (acts p AsPlace k) in
    let C : Next → Next = λ k. B (evaluates p x.form k) in
    push_one p (λ k. k) c.add-in-Decrease-3.new.self c.add-in-Decrease-4.new.self _ (locates p d) c.in_ok-add-in-Decrease-4.ensures.ok refl
    ∙ push_one p A c.add-in-Decrease-2.new.self c.add-in-Decrease-3.new.self _ (acts p AsPlace) c.in_ok-add-in-Decrease-3.ensures.ok refl
    ∙ push_one p B c.add-in-Decrease.new.self c.add-in-Decrease-2.new.self _ (evaluates p x.form) c.in_ok-add-in-Decrease-2.ensures.ok refl
    ∙ push_one p C m c.add-in-Decrease.new.self _ (acts p (ChangeNumber Subtract (is_byte (kind_in d)))) c.in_ok-add-in-Decrease.ensures.ok (ap Q small)
    ∙ sym (p_decrease p (rest p m.tasks) m.active m.values m.world d x)
    ∙ ap (λ s. before p (performs p s) m) (sym c.in-Decrease.is)
