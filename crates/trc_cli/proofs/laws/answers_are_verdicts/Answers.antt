use Rattle.module_check.proofs.Once.{check_once}
use Rattle.trc_cli.proofs.Once.{once, quiet}
use Rattle.trc_cli.proofs.laws.answers_are_verdicts.Goals as goal

pub returns-clause-quiet : goal.returns-clause-quiet
returns-clause-quiet c = quiet

pub returns-clause-once : goal.returns-clause-once
returns-clause-once c = λ held left asked a b h k. once (record {
  image = c.texts_have_one_image.ensures;
  refusal = c.texts_have_one_refusal.ensures;
  of_traces = c.texts_have_one_refusal_of_traces.ensures;
  excluded = c.images_exclude_refusals.ensures;
  traces_excluded = c.traces_exclude_refusals.ensures;
  report = c.texts_have_one_report.ensures;
  noted_image = c.texts_have_one_noted_image.ensures;
  noted_refusal = c.texts_have_one_refusal_with_notes.ensures;
  noted_excluded = c.noted_images_exclude_refusals.ensures;
  audit = c.audits_come_to_one.ensures;
  object = c.objects_come_to_one.ensures;
  link = c.links_come_to_one.ensures;
  check = check_once c.texts_have_one_first_fault.ensures.fault c.texts_have_one_first_fault.ensures.apart;
  meaning = c.meanings_come_to_one.ensures;
  comparison = c.comparisons_come_to_one.ensures;
  compare = c.compares_come_to_one.ensures;
  show = c.shows_come_to_one.ensures;
}) held left a b asked h k
