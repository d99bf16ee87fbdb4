use Rattle.std.proofs.Common.{◌≡◌, ◌≤◌, length, ap, sym, arith}
use Rattle.noted_image.specs.Faults.{TellsWithNotes}
use Rattle.noted_image.proofs.words.text_laws.one_refusal.Refused.{excluded}
use Rattle.note_laws.proofs.Refused.{noted_apart, backwards, few_bytes}
use Rattle.note_laws.proofs.laws.noted_images_exclude_refusals.Goals as goal

pub returns : goal.returns
returns c = λ a b texts made r policy builder regs x.
    excluded c.texts_have_one_first_fault.ensures.fault c.texts_have_one_first_fault.ensures.apart c.texts_have_one_lowering.ensures (TellsWithNotes b) texts x.program x.of_texts x.well_formed
    (λ q one n i h. noted_apart a b builder x.program q one
    (λ cuts others image another u v. (c.lowerings_have_one_image.ensures a b x.program q cuts others image another policy builder regs one u v).0)
    (λ cuts others image another u v. (c.lowerings_have_one_image.ensures b a q x.program cuts others image another (sym policy) (sym builder) (sym regs) (backwards x.program q one) u v).0)
    x.is.cuts made.image (record { number = n; index = i }) x.is.within x.is.is x.is.form (few_bytes a x.program made x.is) h) r
