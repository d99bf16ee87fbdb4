use Rattle.std.proofs.Common.{refl}
use Rattle.trc_answers.proofs.Answering.{prints}
use Rattle.trc_cli.specs.Commands.{help_lines}
use Rattle.trc_cli.proofs.commands.perform.Goals as goal

pub returns-in-Run-clause-answers : goal.returns-in-Run-clause-answers
returns-in-Run-clause-answers g c = rw (c.in-Run.is, ← c.as_slice.ensures.value) c.run.ensures.answers

pub returns-in-Build-clause-answers : goal.returns-in-Build-clause-answers
returns-in-Build-clause-answers g c = rw (c.in-Build.is, ← c.as_slice-in-Build.ensures.value) (c.build_asked.ensures.answers _ _ _)

pub returns-in-Elf-clause-answers : goal.returns-in-Elf-clause-answers
returns-in-Elf-clause-answers g c = rw (c.in-Elf.is, ← c.as_slice-in-Elf.ensures.value) (c.elf.ensures.answers _ _ _)

pub returns-in-Exec-clause-answers : goal.returns-in-Exec-clause-answers
returns-in-Exec-clause-answers g c = rw (c.in-Exec.is, c.of.ensures) c.exec.ensures.answers

pub returns-in-Traces-clause-answers : goal.returns-in-Traces-clause-answers
returns-in-Traces-clause-answers g c = rw (c.in-Traces.is, ← c.as_slice-in-Traces.ensures.value) (c.traces.ensures.answers _ _)

pub returns-in-Bulk-clause-answers : goal.returns-in-Bulk-clause-answers
returns-in-Bulk-clause-answers g c = rw c.in-Bulk.is (c.bulk.ensures.answers _ _ _ _)

pub returns-in-Audit-clause-answers : goal.returns-in-Audit-clause-answers
returns-in-Audit-clause-answers g c = rw (c.in-Audit.is, ← c.as_slice-in-Audit.ensures.value) (c.audit.ensures.answers _ _)

pub returns-in-Object-clause-answers : goal.returns-in-Object-clause-answers
returns-in-Object-clause-answers g c = rw (c.in-Object.is, ← c.as_slice-in-Object.ensures.value) (c.object.ensures.answers _ _ _)

pub returns-in-Link-clause-answers : goal.returns-in-Link-clause-answers
returns-in-Link-clause-answers g c = rw (c.in-Link.is, ← c.as_slice-in-Link.ensures.value) (c.link.ensures.answers _ _ _)

pub returns-in-Mean-clause-answers : goal.returns-in-Mean-clause-answers
returns-in-Mean-clause-answers g c = rw (c.in-Mean.is, ← c.as_slice-in-Mean.ensures.value) c.mean.ensures.answers

pub returns-in-Both-clause-answers : goal.returns-in-Both-clause-answers
returns-in-Both-clause-answers g c = rw (c.in-Both.is, ← c.as_slice-in-Both.ensures.value) c.both.ensures.answers

pub returns-in-Batch-clause-answers : goal.returns-in-Batch-clause-answers
returns-in-Batch-clause-answers g c = rw (c.in-Batch.is, c.of-in-Batch.ensures) (c.batch.ensures.answers _ _)

pub returns-in-Check-clause-answers : goal.returns-in-Check-clause-answers
returns-in-Check-clause-answers g c = rw (c.in-Check.is, ← c.as_slice-in-Check.ensures.value) (c.check.ensures.answers _ _)

pub returns-in-Explain-clause-answers : goal.returns-in-Explain-clause-answers
returns-in-Explain-clause-answers g c = rw (c.in-Explain.is, c.of-in-Explain.ensures) (c.explain.ensures.answers _ _ _ _)

pub returns-in-Compare-clause-answers : goal.returns-in-Compare-clause-answers
returns-in-Compare-clause-answers g c = rw (c.in-Compare.is, ← c.as_slice-in-Compare.ensures.value) c.compare.ensures.answers

pub returns-in-Show-clause-answers : goal.returns-in-Show-clause-answers
returns-in-Show-clause-answers g c = rw (c.in-Show.is, ← c.as_slice-in-Show.ensures.value) (c.show.ensures.answers _ _ _)

pub returns-in-Help-clause-answers : goal.returns-in-Help-clause-answers
returns-in-Help-clause-answers g c = rw (c.in-Help.is, c.of-in-Help.ensures) (prints _ help_lines _ _ _ _ _ _ _ refl c.print.ensures.answers)
