use Rattle.source_image.proofs.imaging.source_image.Goals as goal

pub returns-in-Ok-program_image-clause-image : goal.returns-in-Ok-program_image-clause-image
returns-in-Ok-program_image-clause-image g c =
    let made = c.in-Ok-program_image.ensures in
    let m = made.means in
    record {
      program = c.in-Ok.program;
      of_texts = c.in-Ok.ensures.program;
      well_formed = c.in-Ok.ensures.well_formed;
      within = made.within;
      cuts = m.0;
      is = m.1;
      means = m.2;
      form = made.form;
      words = c.of_words.ensures;
      procedures = made.procedures;
      traces = made.traces;
    }
