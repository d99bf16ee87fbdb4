use Rattle.std.proofs.Common.{◌∙◌, refl, sym, subst}
use Rattle.ssa_tables.proofs.Measuring.{measured}
use Rattle.ssa_lowered.specs.Lowered.{lowered}
use Rattle.lowered_valid.proofs.Modest.{all_few as few_values}
use Rattle.program_image.specs.Faults.{Tells}
use Rattle.program_image.proofs.Planned.{can_link, names_for_all}
use Rattle.program_image.proofs.Fitting.{data_fits_as}
use Rattle.program_image.proofs.Running.{in_program, program_image_is, does_as_meant}
use Rattle.program_image.proofs.Telling.{first_tells, imaging_tells, few_traces, count_is}
use Rattle.program_image.proofs.imaging.linked_program.Goals as goal

pub program_tables-requires : goal.program_tables-requires
program_tables-requires g c = measured c.args.program.now c.requires.well_formed

pub returns-in-Err-clause-limit : goal.returns-in-Err-clause-limit
returns-in-Err-clause-limit g c =
    let choice = c.args.choice.now in
    let p = c.args.program.now in
    subst (Tells choice p) (sym c.of_lowering.ensures) (first_tells choice p c.in-Err.fault c.in-Err.ensures.limit)

pub image_of-requires-clause-extra : goal.image_of-requires-clause-extra
image_of-requires-clause-extra g c = data_fits_as c.args.program.now c.in_ok-planned.ensures.planned.within c.in-Ok-program_data.data c.in-Ok-program_data.ensures

pub image_of-requires-clause-names : goal.image_of-requires-clause-names
image_of-requires-clause-names g c = names_for_all c.args.choice.now c.requires.choice c.args.program.now c.requires.well_formed c.in_ok-planned.planned c.in_ok-planned.ensures.planned c.in-Ok-program_data.data c.in-Ok-program_data.ensures

pub returns-in-Ok-image_of-clause-means : goal.returns-in-Ok-image_of-clause-means
returns-in-Ok-image_of-clause-means g c =
    let choice = c.args.choice.now in
    let p = c.args.program.now in
    let h = c.in_ok-planned.ensures.planned in
    let made = c.in-Ok-image_of.linked in
    let can = can_link choice c.requires.choice p c.requires.well_formed c.in_ok-planned.planned h in
    let is = in_program choice p (lowered p) c.in-Ok-program_data.data made refl c.in-Ok-program_data.ensures (c.in-Ok-image_of.ensures.image choice (lowered p) can) in
    (is.cuts, program_image_is choice p made is, does_as_meant choice p made is c.requires.well_formed h.within h.short c.in-Ok-image_of.ensures.form)

pub returns-in-Ok-image_of-clause-few : goal.returns-in-Ok-image_of-clause-few
returns-in-Ok-image_of-clause-few g c =
    let choice = c.args.choice.now in
    let p = c.args.program.now in
    let h = c.in_ok-planned.ensures.planned in
    let is = c.in-Ok-image_of.ensures.image choice (lowered p) (can_link choice c.requires.choice p c.requires.well_formed c.in_ok-planned.planned h) in
    few_traces choice p h.within is.cuts is.are is.few

pub returns-in-Ok-image_of-clause-traces : goal.returns-in-Ok-image_of-clause-traces
returns-in-Ok-image_of-clause-traces g c =
    let choice = c.args.choice.now in
    let p = c.args.program.now in
    let h = c.in_ok-planned.ensures.planned in
    let is = c.in-Ok-image_of.ensures.image choice (lowered p) (can_link choice c.requires.choice p c.requires.well_formed c.in_ok-planned.planned h) in
    is.count ∙ count_is choice p h.within is.cuts is.are

pub of_imaging-requires : goal.of_imaging-requires
of_imaging-requires g c is =
    let choice = c.args.choice.now in
    let p = c.args.program.now in
    let h = c.in_ok-planned.ensures.planned in
    c.in-Err-image_of.ensures.modest choice (lowered p) (can_link choice c.requires.choice p c.requires.well_formed c.in_ok-planned.planned h) (few_values p h.within) is

pub returns-clause-limit : goal.returns-clause-limit
returns-clause-limit g c =
    let choice = c.args.choice.now in
    let p = c.args.program.now in
    let h = c.in_ok-planned.ensures.planned in
    let told = c.in-Err-image_of.ensures in
    let can = can_link choice c.requires.choice p c.requires.well_formed c.in_ok-planned.planned h in
    subst (Tells choice p) (sym c.of_imaging.ensures) (imaging_tells choice p h.within (lowered p) refl c.in-Err-image_of.fault (λ e. absurd (told.traces e)) (told.code choice (lowered p) can))
