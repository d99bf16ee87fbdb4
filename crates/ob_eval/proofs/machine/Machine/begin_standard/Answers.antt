use Rattle.std.proofs.Common.{◌≡◌, ℕ, Option, refl, ap, sym, ◌∙◌}
use Rattle.ob_types.specs.Meaning.{kind_in, length_of_kind, record_of_kind}
use Rattle.eval_tasks.specs.declared.task.Act.TheVariants.{AsSpan, Make}
use Rattle.eval_tasks.specs.declared.task.Act.TheVariants.{OutString as PutsString}
use Rattle.eval_tasks.specs.Tasks.{Next, performs, locates, acts, rest}
use Rattle.eval_tasks.proofs.Statements.{p_new, p_out_string}
use Rattle.ob_eval.specs.Steps.{before}
use Rattle.ob_eval.proofs.Steps.{push_one}
use Rattle.ob_eval.proofs.machine.Machine.begin_standard.Goals as goal

pub returns-in_ok-add-in-New-2-clause-went : goal.returns-in_ok-add-in-New-2-clause-went
returns-in_ok-add-in-New-2-clause-went c =
    let p = c.args.laid.now in
    let m = c.args.self.now in
    let d = c.in-New.d in
    let Q : ℕ → Next → Next = λ r. acts p (Make r) in
    let own : c.record_of_kind.result ≡ record_of_kind (kind_in d) = c.record_of_kind.ensures ∙ ap record_of_kind c.kind_in.ensures in
    let A : Next → Next = λ k. locates p d k in
    push_one p (λ k. k) c.add.new.self c.add-in-New.new.self _ (locates p d) c.in_ok-add-in-New-2.ensures.ok refl
    ∙ push_one p A m c.add.new.self _ (acts p (Make (record_of_kind (kind_in d)))) c.in_ok-add-in-New.ensures.ok (ap Q own)
    ∙ sym (p_new p (rest p m.tasks) m.active m.values m.world d)
    ∙ ap (λ s. before p (performs p s) m) (sym c.in-New.is)

pub returns-in_ok-add-in-OutString-3-clause-went : goal.returns-in_ok-add-in-OutString-3-clause-went
returns-in_ok-add-in-OutString-3-clause-went c =
    let p = c.args.laid.now in
    let m = c.args.self.now in
    let d = c.in-OutString.d in
    let R : Option ℕ → Next → Next = λ n. acts p (AsSpan n) in
    let many : c.length_of_kind.result ≡ length_of_kind (kind_in d) = c.length_of_kind.ensures ∙ ap length_of_kind c.kind_in-in-OutString.ensures in
    let A : Next → Next = λ k. locates p d k in
    let B : Next → Next = λ k. A (acts p (AsSpan (length_of_kind (kind_in d))) k) in
    push_one p (λ k. k) c.add-in-OutString-2.new.self c.add-in-OutString-3.new.self _ (locates p d) c.in_ok-add-in-OutString-3.ensures.ok refl
    ∙ push_one p A c.add-in-OutString.new.self c.add-in-OutString-2.new.self _ (acts p (AsSpan (length_of_kind (kind_in d)))) c.in_ok-add-in-OutString-2.ensures.ok (ap R many)
    ∙ push_one p B m c.add-in-OutString.new.self _ (acts p PutsString) c.in_ok-add-in-OutString.ensures.ok refl
    ∙ sym (p_out_string p (rest p m.tasks) m.active m.values m.world d)
    ∙ ap (λ s. before p (performs p s) m) (sym c.in-OutString.is)
