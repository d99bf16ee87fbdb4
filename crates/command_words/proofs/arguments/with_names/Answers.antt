use Rattle.std.proofs.Common.{◌≡◌, ◌∙◌, Option, None, Some, ap, rules}
use Rattle.std.specs.Option.{IsSomeAnd}
use Rattle.clap.specs.Lexer.{usize_max}
use Rattle.clap.specs.Words.{app_of, rule_of, with_rule}
use Rattle.clap.specs.declared.builder.range.ValueRange.{ValueRange}
use Rattle.command_words.specs.Commands.{names_rule, with_names}
use Rattle.command_words.proofs.arguments.with_names.Goals as goal

some_is : (o : Option ValueRange) (v : ValueRange) → IsSomeAnd o (λ r. r ≡ v) → o ≡ Some v
some_is None v h = absurd h
some_is (Some r) v h = ap Some h

pub returns : goal.returns
unfolding with_names
returns c =
    let many : ValueRange = record { start_inclusive = 1; end_inclusive = usize_max } in
    let range_is : c.num_args-names.result.num_vals ≡ Some many = some_is _ _ c.num_args-names.ensures.1 in
    let names_is : rule_of c.num_args-names.result ≡ names_rule c.args.name.now = search rules in
    c.in_ok-arg.ensures.shape (search rules) ∙ ap (with_rule (app_of c.args.command)) names_is
