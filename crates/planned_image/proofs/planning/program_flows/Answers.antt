use Rattle.std.proofs.Common.{◌≡◌, true, false, List, map, sym, ap, ◌∙◌, subst}
use Rattle.std.specs.Prelude.{All}
use Rattle.ssa_core.specs.declared.procedure.Proc.{Proc}
use Rattle.ssa_lowered.specs.Lowered.{lowered}
use Rattle.ssa_tables.proofs.Measuring.{measured}
use Rattle.lir_core.specs.declared.flow.Flow.{Flow}
use Rattle.a64_select.specs.Selected.{selected}
use Rattle.image_words.specs.back_end.Images.{IsReady}
use Rattle.image_words.specs.back_end.Numbers.{node_numbers}
use Rattle.placed_image.specs.Placing.{IsPlaceable}
use Rattle.image_words.proofs.program_image.Ready.{are_short, ready}
use Rattle.planned_image.specs.Plans.{TellsOfLowering}
use Rattle.planned_image.proofs.Plans.{all_placeable, lowering_told}
use Rattle.planned_image.proofs.planning.program_flows.Goals as goal
use Rattle.lowered_valid.proofs.Modest.{all_few as few_values}

pub lower_with_tables-requires : goal.lower_with_tables-requires
lower_with_tables-requires c = measured c.args.program.now c.requires.well_formed

pub returns-in-Err-clause-limit : goal.returns-in-Err-clause-limit
returns-in-Err-clause-limit c =
    let p = c.args.program.now in
    subst (TellsOfLowering p) (sym c.of_lowering.ensures) (lowering_told p c.in-Err.fault c.in-Err.ensures.limit)

pub select_all-requires : goal.select_all-requires
select_all-requires c =
    let p = c.args.program.now in
    let same = c.as_slice.ensures ∙ c.in-Ok.ensures.ok in
    let e : true ≡ c.are_short.result = let t = c.if-not-are_short.false in cc in
    let short = are_short p c.as_slice.result.now same (e ∙ c.are_short.ensures) in
    subst (All IsReady) (sym c.in-Ok.ensures.ok) (ready p c.requires.well_formed c.in-Ok.ensures.within short)

pub returns-clause-flows : goal.returns-clause-flows
returns-clause-flows c =
    let p = c.args.program.now in
    let same = c.as_slice.ensures ∙ c.in-Ok.ensures.ok in
    let e : true ≡ c.are_short.result = let t = c.if-not-are_short.false in cc in
    let short = are_short p c.as_slice.result.now same (e ∙ c.are_short.ensures) in
    let flows = c.in-Ok-select_all.ensures.flows ∙ ap (λ (ps : List Proc). map selected ps) c.in-Ok.ensures.ok in
    let numbers = subst (All (λ (f : Flow). node_numbers f.nodes ≡ true)) flows c.in-Ok-select_all.ensures.numbers in
    record {
      within = c.in-Ok.ensures.within;
      short = short;
      flows = flows;
      placeable = subst (All IsPlaceable) (sym flows) (all_placeable (lowered p) (ready p c.requires.well_formed c.in-Ok.ensures.within short) (few_values p c.in-Ok.ensures.within) numbers);
      extra = c.in-Ok-program_data.ensures;
    }
