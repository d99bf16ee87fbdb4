use Rattle.std.proofs.Common.{◌≡◌, map, length, sym, ap, ◌∙◌}
use Rattle.a64_select.specs.Selected.{selected}
use Rattle.ssa_lowered.specs.Lowered.{lowered}
use Rattle.trace_build.specs.Traces.{traces_in}
use Rattle.text_laws.proofs.one_image_of_texts.laws.texts_have_one_image.Goals as goal

pub returns : goal.returns
returns c = λ a b texts made other policy builder regs x y.
    let h = c.texts_have_one_lowering.ensures texts x.program y.program x.of_texts y.of_texts x.well_formed y.well_formed in
    let images = c.lowerings_have_one_image.ensures a b x.program y.program x.cuts y.cuts made.image other.image policy builder regs h x.is y.is in
    let traces : traces_in a.builder (map selected (lowered x.program)) ≡ traces_in b.builder (map selected (lowered y.program)) = λ k. traces_in (builder k) (map selected (h.procedures k)) in
    (images.1, x.procedures ∙ (ap length h.procedures ∙ sym y.procedures), x.traces ∙ (traces ∙ sym y.traces))
