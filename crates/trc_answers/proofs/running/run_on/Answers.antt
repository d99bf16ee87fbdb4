use Rattle.std.proofs.Common.{◌^◌, length, sym, subst, ◌∙◌, arith}
use Rattle.image_form.specs.Places.{RiseBelow}
use Rattle.image_form.proofs.Formed.{places_rise}
use Rattle.image_form.proofs.Rising.{rise_below_more}
use Rattle.trc_answers.proofs.running.run_on.Goals as goal

pub spot_at-requires : goal.spot_at-requires
spot_at-requires g c =
    let image = c.args.image in
    subst (RiseBelow (2 ^ 32) 0) (sym (c.deref.ensures.value ∙ c.in-Ok.ensures.items ∙ c.as_slice.ensures))
    (rise_below_more (length image.code) (2 ^ 32) 0 image.places (omega (arith, c.requires.code)) (places_rise image c.requires))
