use Rattle.meaning_commands.proofs.imaging.image_of_program.Goals as goal

pub returns-in-Ok-clause-image : goal.returns-in-Ok-clause-image
returns-in-Ok-clause-image g c =
    let told = c.in-Ok.ensures in
    record {
      limits = record { within = told.within; few = told.few };
      cuts = told.means.0;
      is = told.means.1;
      means = told.means.2;
      form = told.form;
    }
