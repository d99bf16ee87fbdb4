use Rattle.std.proofs.Common.{◌≡◌, List, map, sym, ap, ◌∙◌}
use Rattle.linked_flows.specs.Allocations.{Cut}
use Rattle.noted_image.specs.audited_allocations.Joined.{joined}
use Rattle.trace_notes.specs.Notes.{notes}
use Rattle.note_laws.proofs.laws.texts_have_one_noted_image.Goals as goal

pub returns : goal.returns
returns c = λ a b texts made other policy builder regs x y.
    let one = c.texts_have_one_lowering.ensures texts x.program y.program x.of_texts y.of_texts x.well_formed y.well_formed in
    let both = c.lowerings_have_one_image.ensures a b x.program y.program x.is.cuts y.is.cuts made.image other.image policy builder regs one x.is.is y.is.is in
    (both.1, x.is.notes ∙ ap (λ (cuts : List Cut). notes (joined (map (λ (d : Cut). d.outs) cuts))) both.0 ∙ sym y.is.notes)
