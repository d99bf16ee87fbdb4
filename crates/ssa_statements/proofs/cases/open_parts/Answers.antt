use Rattle.std.proofs.Common.{refl, ap, ◌∙◌, subst}
use Rattle.std.specs.Prelude.{slice_index}
use Rattle.ssa_lowered.specs.Control.{half}
use Rattle.ssa_exprs.specs.Making.{View, asked}
use Rattle.ssa_statements.specs.Cases.{Climbs}
use Rattle.ssa_statements.specs.Rungs.{rungs_in}
use Rattle.ssa_statements.proofs.cases.open_parts.Goals as goal

pub returns : goal.returns
returns c = λ p here s.
    let rungs = rungs_in p here c.args.v c.args.tests.now in
    let starts = c.in_ok-starts.starts.items in
    record {
      climbs =
          subst (λ k. Climbs k c.ladder.new.b (half c.args.b.now.freq) (λ i. slice_index starts i) rungs) (c.in_ok-out.ensures.given ∙ ap asked c.in_ok-starts.ensures.given)
          (subst (λ n. Climbs c.label.new.self c.ladder.new.b n (λ i. slice_index starts i) rungs) (c.half.ensures ∙ ap half c.freq-freq.ensures)
          (subst (λ l. Climbs c.label.new.self c.ladder.new.b c.half.result (λ i. slice_index l i) rungs) c.as_slice.ensures.value (c.in_ok-ladder.ensures p here s)));
      starts = c.in_ok-starts.ensures.numbers;
      out = c.in_ok-out.ensures.number ∙ ap (λ (k : View). k.labels) c.in_ok-starts.ensures.given;
      vars = refl;
      moment = c.moment-moment.ensures;
      freq = c.freq-freq.ensures;
    }
