use Rattle.std.proofs.Common.{◌≡◌, ap}
use Rattle.ssa_lowered.specs.Limits.{Limit}
use Rattle.source_image.specs.program_image.Faults.{TellsOfTraces}
use Rattle.text_laws.proofs.one_refusal.Passed.{early_once}
use Rattle.text_laws.proofs.one_refusal.Refused.{refused_once}
use Rattle.text_laws.proofs.one_refusal.laws.texts_have_one_refusal_of_traces.Goals as goal

pub returns : goal.returns
returns c = λ a b texts r s builder.
    refused_once c.texts_have_one_first_fault.ensures.fault c.texts_have_one_first_fault.ensures.apart c.texts_have_one_lowering.ensures (TellsOfTraces a) (TellsOfTraces b)
    (λ p q one n i m j x y. let same = early_once a b builder p q one (record { number = n; index = i }) (record { number = m; index = j }) x y in (ap (λ (l : Limit). l.number) same, ap (λ (l : Limit). l.index) same)) texts r s
