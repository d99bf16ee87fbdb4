use Rattle.table_builder.proofs.Meaning.{front}
use Rattle.table_builder.proofs.Apart.{each_once}
use Rattle.table_builder.proofs.builder.TableBuilder.table.Goals as goal

pub returns-clause-front : goal.returns-clause-front
returns-clause-front c = front _ _ _ c.requires.sound

pub returns-clause-once : goal.returns-clause-once
returns-clause-once c = each_once _ _ _ c.requires.sound
