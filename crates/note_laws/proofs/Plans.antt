-- Plans of texts by one builder are alike, and a choice's own results for them make its own image.
use Rattle.std.proofs.Common.{◌≡◌, ℕ, ◌≤◌, List, [], ◌∷◌, map, length, refl, sym, ap, ap₂, ◌∙◌, subst, arith}
use Rattle.std.proofs.lemmas.List.{length-map}
use Rattle.image_form.specs.declared.image.Image.{Image}
use Rattle.lir_core.specs.declared.flow.Flow.{Flow}
use Rattle.lir_core.specs.declared.flow.Trace.{Trace}
use Rattle.trace_build.specs.declared.builder.Builder.{Builder}
use Rattle.placed_code.specs.Layout.{all_words}
use Rattle.placed_code.specs.Results.{all_placed}
use Rattle.linked_flows.specs.Allocations.{Cut, steps_of, all_allocated}
use Rattle.noted_image.specs.words.alloc_choice.declared.choice.Choice.{Choice}
use Rattle.noted_image.specs.audited_allocations.Joined.{joined}
use Rattle.noted_image.specs.words.back_end.Images.{AreCutsOf, code_length}
use Rattle.noted_image.specs.placed_image.Cutting.{AreCutBy}
use Rattle.noted_image.specs.placed_image.Shares.{cuts_of}
use Rattle.ssa_lowered.specs.Lowered.{lowered}
use Rattle.noted_image.specs.Notes.{IsNotedImage}
use Rattle.noted_image.specs.declared.noting.NotedImage.{NotedImage}
use Rattle.ob_types.specs.declared.program.Program.{Program}
use Rattle.ssa_core.specs.declared.procedure.Proc.{Proc}
use Rattle.a64_select.specs.Selected.{selected}
use Rattle.noted_image.specs.words.compiled_runs.Compiled.{flows_of}
use Rattle.one_lowering.specs.Forms.{HaveOneLowering}
use Rattle.lir_core.specs.declared.places.TraceOut.{TraceOut}
use Rattle.noted_image.specs.planned_image.Plans.{IsProgramPlan}
use Rattle.noted_image.specs.planned_image.declared.planning.ProgramPlan.{ProgramPlan}
use Rattle.noted_image.proofs.planned_image.Own.{traces_same, cut_same, cuts_back}

-- a builder cuts flows in one way
pub cut_once : (builder : Builder) (fs : List Flow) (xs ys : List (List Trace)) → AreCutBy builder fs xs → AreCutBy builder fs ys → xs ≡ ys
cut_once builder [] [] [] h k = refl
cut_once builder [] [] (y ∷ ys) h k = absurd k
cut_once builder [] (x ∷ xs) ys h k = absurd h
cut_once builder (f ∷ fs) [] ys h k = absurd h
cut_once builder (f ∷ fs) (x ∷ xs) [] h k = absurd k
cut_once builder (f ∷ fs) (x ∷ xs) (y ∷ ys) h k = ap₂ (λ t ts. t ∷ ts) (traces_same x y (h.0.traces ∙ sym k.0.traces)) (cut_once builder fs xs ys h.1 k.1)

pub flows_once : (p q : Program) → HaveOneLowering p q → flows_of p ≡ flows_of q
flows_once p q one = ap (λ (ps : List Proc). map selected ps) one.procedures

module _ (builder : Builder) (p q : Program) (one : HaveOneLowering p q) (plan other : ProgramPlan) (is : IsProgramPlan builder p plan) (also : IsProgramPlan builder q other) where
  pub same_flows : plan.flows.items ≡ other.flows.items
  same_flows = is.flows ∙ flows_once p q one ∙ sym also.flows

  pub same_cuts : map (λ v. v.items) plan.cuts.items ≡ map (λ v. v.items) other.cuts.items
  same_cuts = cut_once builder other.flows.items _ _ (subst (λ fs. AreCutBy builder fs (map (λ v. v.items) plan.cuts.items)) same_flows is.cut) also.cut

-- a choice's own results, on a plan of a program with the same lowering
module _ (choice : Choice) (p : Program) (made : NotedImage) (x : IsNotedImage choice p made) (q : Program) (are : AreCutsOf choice (lowered q) x.cuts) (plan : ProgramPlan) (is : IsProgramPlan choice.builder q plan) where
  abbrev lists : List (List Trace)
  lists = map (λ v. v.items) plan.cuts.items

  abbrev own : List TraceOut
  own = joined (map (λ (c : Cut). c.outs) x.cuts)

  own_cuts : cuts_of plan.flows.items lists own ≡ x.cuts
  own_cuts =
      let flows : plan.flows.items ≡ map (λ c. c.flow) x.cuts = is.flows ∙ sym are.flows in
      let cut = cut_same choice 0 x.cuts lists are.each (subst (λ fs. AreCutBy choice.builder fs lists) flows is.cut) in
      ap₂ (λ fs ts. cuts_of fs ts own) flows cut ∙ cuts_back choice 0 x.cuts are.each

  pub own_code : code_length (cuts_of plan.flows.items lists own) ≤ 262144
  own_code =
      let long : length made.image.code ≡ code_length x.cuts = ap (λ (i : Image). length i.code) x.is.is ∙ length-map (all_words (all_placed steps_of (all_allocated x.cuts))) _ in
      let few = x.form.code in
      let same = ap code_length own_cuts in
      omega (arith, long, few, same)
