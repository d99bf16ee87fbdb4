-- Texts have one object.
use Rattle.std.proofs.Common.{◌≡◌, ℕ, suc, List, [], ◌∷◌, map, take, drop, true, refl, sym, ap, subst, ◌∙◌}
use Rattle.std.specs.Prelude.{◌==◌, if◌then◌else◌}
use Rattle.ob_types.specs.WellFormed.{well_formed}
use Rattle.ob_types.specs.declared.program.Procedure.{Procedure}
use Rattle.ob_types.specs.declared.program.Program.{Program}
use Rattle.ssa_core.specs.declared.procedure.Proc.{Proc}
use Rattle.a64_select.specs.Selected.{selected}
use Rattle.lir_core.specs.declared.places.TraceOut.{TraceOut}
use Rattle.trace_build.specs.Traces.{traces_in}
use Rattle.module_object.specs.words.alloc_choice.declared.choice.Choice.{Choice}
use Rattle.module_object.specs.audited_allocations.Joined.{joined}
use Rattle.module_object.specs.words.flow_allocation.Allocations.{AllAllocations}
use Rattle.module_object.specs.words.compiled_runs.Compiled.{flows_of}
use Rattle.module_object.specs.words.source_program.Texts.{IsProgramOfTexts}
use Rattle.one_lowering.specs.Forms.{HaveOneLowering, place_of}
use Rattle.module_object.proofs.words.text_laws.one_image.Cuts.{cuts_same}
use Rattle.object_form.specs.declared.object.Object.{Object}
use Rattle.module_object.specs.Objects.{before_module, AreOwnResults, IsObjectOfTexts}
use Rattle.object_laws.proofs.Alike.{flows, results}

-- how many places stand before the first one of a module
abbrev before_place : ℕ → List (ℕ × ℕ) → ℕ
before_place m [] = 0
before_place m (x ∷ xs) = if x.0 == m then 0 else suc (before_place m xs)

as_places : (m : ℕ) (qs : List Procedure) → before_module m qs ≡ before_place m (map place_of qs)
as_places m [] = refl
as_places m (q ∷ qs) = ap (λ n. if q.«module» == m then 0 else suc n) (as_places m qs)

before_once : (m : ℕ) (p q : Program) → HaveOneLowering p q → before_module m p.procedures ≡ before_module m q.procedures
before_once m p q one = as_places m p.procedures ∙ ap (before_place m) one.places ∙ sym (as_places m q.procedures)

module _ (a b : Choice) (policy : a.policy ≡ b.policy) (builder : a.builder ≡ b.builder) (regs : a.regs ≡ b.regs) where
  own_once : (m : ℕ) (p q : Program) (outs others : List TraceOut) → HaveOneLowering p q → AreOwnResults a m p outs → AreOwnResults b m q others → outs ≡ others
  own_once m p q outs others one x y =
      let n = before_once m p q one in
      let fs : flows_of p ≡ flows_of q = ap (λ (ps : List Proc). map selected ps) one.procedures in
      let same_flows : flows x.cuts ≡ flows y.cuts = x.flows_are ∙ (λ k. drop (n k) (fs k)) ∙ sym y.flows_are in
      let first : traces_in a.builder (take (before_module m p.procedures) (flows_of p)) ≡ traces_in b.builder (take (before_module m q.procedures) (flows_of q)) = λ k. traces_in (builder k) (take (n k) (fs k)) in
      let there = subst (λ f. AllAllocations b f y.cuts) (sym first) y.each in
      let same = cuts_same a b policy builder regs (traces_in a.builder (take (before_module m p.procedures) (flows_of p))) x.cuts y.cuts same_flows x.each there in
      x.is ∙ ap (λ cs. joined (results cs)) same ∙ sym y.is

  pub one_object_of_texts : ((texts : List (List ℕ)) (p q : Program) → IsProgramOfTexts texts p → IsProgramOfTexts texts q → well_formed p ≡ true → well_formed q ≡ true → HaveOneLowering p q)
      → (texts : List (List ℕ)) (o u : Object) → IsObjectOfTexts a texts o → IsObjectOfTexts b texts u → o ≡ u
  one_object_of_texts one_lowering texts o u x y =
      let one = one_lowering texts x.program y.program x.of_texts y.of_texts x.well_formed y.well_formed in
      let outs = own_once _ x.program y.program o.outs u.outs one x.is.results y.is.results in
      let same_policy = x.is.policy ∙ (policy ∙ sym y.is.policy) in
      let same_builder = x.is.builder ∙ (builder ∙ sym y.is.builder) in
      let same_regs = x.is.regs ∙ (regs ∙ sym y.is.regs) in
      let text = x.is.source ∙ sym y.is.source in
      λ k. record { policy = same_policy k; builder = same_builder k; regs = same_regs k; source = text k; outs = outs k }
