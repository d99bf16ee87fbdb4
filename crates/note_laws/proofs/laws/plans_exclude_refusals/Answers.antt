use Rattle.std.proofs.Common.{refl, subst}
use Rattle.noted_image.specs.words.program_image.Faults.{TellsOfTraces}
use Rattle.noted_image.proofs.words.text_laws.one_refusal.Passed.{early_apart}
use Rattle.noted_image.proofs.words.text_laws.one_refusal.Refused.{excluded}
use Rattle.note_laws.proofs.Own.{plainly, as_traces}
use Rattle.note_laws.proofs.laws.plans_exclude_refusals.Goals as goal

pub returns : goal.returns
returns c = λ builder texts plan r x h.
    let choice = plainly builder in
    excluded c.texts_have_one_first_fault.ensures.fault c.texts_have_one_first_fault.ensures.apart c.texts_have_one_lowering.ensures (TellsOfTraces choice) texts x.program x.of_texts x.well_formed
    (λ q one n i k. early_apart choice choice refl x.program q one (record { number = n; index = i }) x.is.within x.is.few k) r (as_traces builder texts r h)
