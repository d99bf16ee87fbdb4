use Rattle.source_image.specs.program_image.Faults.{Tells}
use Rattle.text_laws.proofs.one_refusal.Passed.{first_apart}
use Rattle.text_laws.proofs.one_refusal.Refused.{excluded}
use Rattle.text_laws.proofs.one_refusal.laws.images_exclude_refusals.Goals as goal

pub returns : goal.returns
returns c = λ a b texts made r policy builder regs x.
    excluded c.texts_have_one_first_fault.ensures.fault c.texts_have_one_first_fault.ensures.apart c.texts_have_one_lowering.ensures (Tells b) texts x.program x.of_texts x.well_formed
    (λ q one n i h. first_apart a b builder x.program q one (λ cuts others image another i j. (c.lowerings_have_one_image.ensures a b x.program q cuts others image another policy builder regs one i j).0) x.cuts made.image (record { number = n; index = i }) x.within x.is x.form h) r
