use Rattle.std.proofs.Common.{◌≡◌, true, sym, ap, ◌∙◌, subst}
use Rattle.ssa_core.specs.Validity.{IsValid}
use Rattle.ssa_tables.proofs.Measuring.{measured}
use Rattle.lowered_valid.specs.Claims.{IsShort}
use Rattle.program_image.specs.Sizes.{blocks_short}
use Rattle.program_image.proofs.Ready.{is_short_enough, valid_alone}
use Rattle.program_image.proofs.work.lowered_flow.Goals as goal

pub lower_procedure-requires-clause-measured : goal.lower_procedure-requires-clause-measured
lower_procedure-requires-clause-measured c = measured c.args.program.now c.requires.fine

pub select-requires : goal.select-requires
select-requires c =
    let e : true ≡ c.is_short.result = let t = c.if-not-is_short.false in cc in
    let short = subst IsShort c.in-Ok.ensures.ok (is_short_enough c.in-Ok.lowered (e ∙ c.is_short.ensures ∙ ap blocks_short c.as_slice.ensures)) in
    subst IsValid (sym c.in-Ok.ensures.ok) (valid_alone c.args.program.now c.args.number c.args.procedure.now c.requires.fine c.requires.first c.requires.there c.in-Ok.ensures.within short)
