use Rattle.source_image.specs.program_image.Faults.{TellsOfTraces}
use Rattle.text_laws.proofs.one_refusal.Passed.{early_apart}
use Rattle.text_laws.proofs.one_refusal.Refused.{excluded}
use Rattle.text_laws.proofs.one_refusal.laws.traces_exclude_refusals.Goals as goal

pub returns : goal.returns
returns c = λ a b texts lines r builder x.
    excluded c.texts_have_one_first_fault.ensures.fault c.texts_have_one_first_fault.ensures.apart c.texts_have_one_lowering.ensures (TellsOfTraces b) texts x.program x.of_texts x.well_formed
    (λ q one n i h. early_apart a b builder x.program q one (record { number = n; index = i }) x.within x.few h) r
