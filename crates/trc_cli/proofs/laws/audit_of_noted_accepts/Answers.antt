use Rattle.trc_cli.proofs.Noted.{accepts}
use Rattle.trc_cli.proofs.laws.audit_of_noted_accepts.Goals as goal

pub returns : goal.returns
returns c = λ held later left out image name notes other files from choice audited wrote same there comes.
    accepts c.notes_of_texts_pass.ensures.pass c.notes_of_texts_pass.ensures.image c.notes_of_texts_pass.ensures.code c.noted_images_exclude_refusals.ensures held later left out image name notes other files choice audited same there from wrote comes
