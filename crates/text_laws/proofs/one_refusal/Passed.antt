-- Programs with one lowering pass the same limit first.
use Rattle.std.proofs.Common.{◌≡◌, ℕ, ◌<◌, ◌≤◌, List, map, length, Option, Some, None, refl, sym, ap, ◌∙◌, subst, arith}
use Rattle.std.proofs.lemmas.List.{length-map}
use Rattle.image_form.specs.declared.image.Image.{Image}
use Rattle.image_form.specs.Form.{IsInForm}
use Rattle.ob_types.specs.declared.program.Program.{Program}
use Rattle.ssa_core.specs.declared.procedure.Proc.{Proc}
use Rattle.a64_select.specs.Selected.{selected}
use Rattle.ssa_lowered.specs.Limits.{Limit, limit_of}
use Rattle.ssa_lowered.specs.Lowered.{lowered}
use Rattle.placed_code.specs.Layout.{all_words}
use Rattle.placed_code.specs.Results.{all_placed}
use Rattle.linked_flows.specs.Allocations.{Cut, steps_of, all_allocated}
use Rattle.source_image.specs.link_plan.Linked.{linked}
use Rattle.trace_build.specs.Traces.{traces_in}
use Rattle.source_image.specs.alloc_choice.declared.choice.Choice.{Choice}
use Rattle.source_image.specs.back_end.Images.{AreCutsOf, code_length}
use Rattle.source_image.specs.compiled_runs.Compiled.{flows_of, data_of}
use Rattle.one_lowering.specs.Forms.{HaveOneLowering}
use Rattle.source_image.specs.program_image.Images.{IsProgramImage}
use Rattle.source_image.specs.program_image.Limits.{most_traces, IsPassedBeforeCode, InLowering, ByTraces, IsPassedFirst, BeforeCode, ByWords, HasMuchCode}
use Rattle.source_image.proofs.program_image.Telling.{count_is, few_traces}

same_limit : (l m : Limit) → Some l ≡ Some m → l ≡ m
same_limit l m e = cc

no_limit : (l : Limit) (o : Option Limit) → o ≡ None → o ≡ Some l → ⊥
no_limit l o e f = cc

module _ (a b : Choice) (builder : a.builder ≡ b.builder) (p q : Program) (one : HaveOneLowering p q) where
  same_traces : traces_in a.builder (flows_of p) ≡ traces_in b.builder (flows_of q)
  same_traces = λ k. traces_in (builder k) (map selected (one.procedures k))

  -- not here and there
  limit_there : (l : Limit) → limit_of p ≡ Some l → limit_of q ≡ None → ⊥
  limit_there l e none = no_limit l (limit_of q) none (sym one.limit ∙ e)

  limit_here : (l : Limit) → limit_of p ≡ None → limit_of q ≡ Some l → ⊥
  limit_here l none e = no_limit l (limit_of p) none (one.limit ∙ e)

  pub early_once : (l m : Limit) → IsPassedBeforeCode a p l → IsPassedBeforeCode b q m → l ≡ m
  early_once l m (InLowering _ e) (InLowering _ f) = same_limit l m (sym e ∙ (one.limit ∙ f))
  early_once l m (InLowering _ e) (ByTraces none many) = absurd (limit_there l e none)
  early_once l m (ByTraces none many) (InLowering _ f) = absurd (limit_here m none f)
  early_once l m (ByTraces none many) (ByTraces none' many') = refl

  pub early_apart : (l : Limit) → limit_of p ≡ None → traces_in a.builder (flows_of p) ≤ most_traces → IsPassedBeforeCode b q l → ⊥
  early_apart l within few (InLowering _ f) = limit_here l within f
  early_apart l within few (ByTraces none many) = let same = same_traces in absurd (omega (arith, few, many, same))

  late_apart : (l : Limit) → limit_of q ≡ None → traces_in b.builder (flows_of q) ≤ most_traces → IsPassedBeforeCode a p l → ⊥
  late_apart l within few (InLowering _ e) = limit_there l e within
  late_apart l within few (ByTraces none many) = let same = same_traces in absurd (omega (arith, few, many, same))

  pub first_once : (l m : Limit) → IsPassedFirst a p l → IsPassedFirst b q m → l ≡ m
  first_once l m (BeforeCode _ x) (BeforeCode _ y) = early_once l m x y
  first_once l m (BeforeCode _ x) (ByWords none few much) = absurd (late_apart l none few x)
  first_once l m (ByWords none few much) (BeforeCode _ y) = absurd (early_apart m none few y)
  first_once l m (ByWords none few much) (ByWords none' few' much') = refl

  -- the code of an image in form isn't too long
  module _ (same_image : (cuts others : List Cut) (image another : Image) → IsProgramImage a p cuts image → IsProgramImage b q others another → cuts ≡ others) where
    code_fits : (cuts : List Cut) (image : Image) → IsProgramImage a p cuts image → IsInForm image → code_length cuts ≤ 262144
    code_fits cuts image is form =
        let words = all_words (all_placed steps_of (all_allocated cuts)) in
        let long : length image.code ≡ code_length cuts = ap (λ (i : Image). length i.code) is.is ∙ length-map words _ in
        let few = form.code in
        omega (arith, long, few)

    not_much : (cuts : List Cut) (image : Image) → IsProgramImage a p cuts image → IsInForm image → limit_of q ≡ None → traces_in b.builder (flows_of q) ≤ most_traces → HasMuchCode b q → ⊥
    not_much cuts image is form none few much =
        let others = much.0 in
        let count = count_is b q none others much.1 in
        let there : IsProgramImage b q others (linked others (data_of q)) = record { are = much.1; few = omega (arith, count, few); is = refl } in
        let same = ap code_length (same_image cuts others image (linked others (data_of q)) is there) in
        let fits = code_fits cuts image is form in
        let long = much.2 in
        omega (arith, same, fits, long)

    pub first_apart : (cuts : List Cut) (image : Image) (l : Limit) → limit_of p ≡ None → IsProgramImage a p cuts image → IsInForm image → IsPassedFirst b q l → ⊥
    first_apart cuts image l within is form (BeforeCode _ y) = early_apart l within (few_traces a p within cuts is.are is.few) y
    first_apart cuts image l within is form (ByWords none few much) = not_much cuts image is form none few much
