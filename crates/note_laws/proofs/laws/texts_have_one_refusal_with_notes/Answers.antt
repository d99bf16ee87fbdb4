use Rattle.std.proofs.Common.{◌≡◌, ap, sym}
use Rattle.ssa_lowered.specs.Limits.{Limit}
use Rattle.noted_image.specs.Faults.{TellsWithNotes}
use Rattle.noted_image.proofs.words.text_laws.one_refusal.Refused.{refused_once}
use Rattle.note_laws.proofs.Refused.{noted_once, backwards}
use Rattle.note_laws.proofs.laws.texts_have_one_refusal_with_notes.Goals as goal

pub returns : goal.returns
returns c = λ a b texts r s policy builder regs.
    refused_once c.texts_have_one_first_fault.ensures.fault c.texts_have_one_first_fault.ensures.apart c.texts_have_one_lowering.ensures (TellsWithNotes a) (TellsWithNotes b)
    (λ p q one n i m j x y.
    let same = noted_once a b builder p q one
    (λ cuts others image another u v. (c.lowerings_have_one_image.ensures a b p q cuts others image another policy builder regs one u v).0)
    (λ cuts others image another u v. (c.lowerings_have_one_image.ensures b a q p cuts others image another (sym policy) (sym builder) (sym regs) (backwards p q one) u v).0)
    (record { number = n; index = i }) (record { number = m; index = j }) x y in
    (ap (λ (l : Limit). l.number) same, ap (λ (l : Limit). l.index) same)) texts r s
