use Rattle.std.proofs.Common.{◌≡◌, ◌≤◌, ◌+◌, length}
use Rattle.batch_serve.specs.Desks.{IsTakerOf, taken_of}
use Rattle.batch_serve.specs.Submitters.{IsSubmitterOf, number_of_submitter, jobs_of_submitter}
use Rattle.batch_serve.specs.Answered.{IsAnswered, ticket_count}
use Rattle.batch_serve.proofs.serving.serve_all.Given as goal

abbrev pub invariant-loop : goal.invariant-loop
invariant-loop g l = record {
  taker : IsTakerOf l.desk l.taker;
  one : IsSubmitterOf l.desk l.one;
  one_same : (number_of_submitter l.one ≡ number_of_submitter l.fn.one) × (jobs_of_submitter l.one ≡ jobs_of_submitter l.fn.one);
  two : IsSubmitterOf l.desk l.two;
  two_same : (number_of_submitter l.two ≡ number_of_submitter l.fn.two) × (jobs_of_submitter l.two ≡ jobs_of_submitter l.fn.two);
  answers : IsAnswered (g.N.Runner.is_answer l.runner) l.first l.second (taken_of l.taker) l.answers.first.items l.answers.second.items;
  count : l.taken ≡ ticket_count (taken_of l.taker);
  within : l.taken ≤ length l.first + length l.second;
}
