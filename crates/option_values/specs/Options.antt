-- The options' values and defaults, and the numbers of a made module, by the rows that a command's matches have.
use Rattle.std.specs.Prelude.{ℕ, List, [], ◌∷◌, Option, Some, None, option_map, codes, if◌then◌else◌}
use Rattle.std.specs.Str.{bytes_eq}
use Rattle.clap.specs.Words.{Row, first_of}
use Rattle.alloc_choice.specs.declared.choice.Choice.{Choice}
use Rattle.alloc_choice.specs.declared.choice.Policy.{Policy}
use Rattle.alloc_choice.specs.declared.choice.Policy.TheVariants.{Plain, Linear, BottomUp, Mixed}
use Rattle.trace_build.specs.declared.builder.Builder.{Builder}
use Rattle.trace_build.specs.declared.builder.Builder.TheVariants.{Uni, Bi}
use Rattle.explanations.specs.declared.format.Format.{Format}
use Rattle.explanations.specs.declared.format.Format.TheVariants.{Text, Json}
use Rattle.explanations.specs.declared.topic.Topic.{Topic}
use Rattle.explanations.specs.declared.topic.Topic.TheVariants.{Pages, Usage, Number}
use Rattle.explanations.specs.Explained.{has_page}
use Rattle.option_values.specs.Numbers.{number_between}
use Rattle.option_values.specs.Values.{given, named_in, value_or}

abbrev pub policies : List (List ℕ × Policy)
policies = (codes "plain", Plain) ∷ (codes "linear", Linear) ∷ (codes "bottomup", BottomUp) ∷ (codes "mixed", Mixed) ∷ []

abbrev pub builders : List (List ℕ × Builder)
builders = (codes "uni", Uni) ∷ (codes "bi", Bi) ∷ []

abbrev pub policy_in : List Row → Option Policy
policy_in rows = value_or Linear (named_in policies) (first_of (codes "policy") rows)

-- the policy beside which another is shown, if there is one
abbrev pub against_in : List Row → Option (Option Policy)
against_in rows = value_or None (λ name. option_map Some (named_in policies name)) (first_of (codes "against") rows)

abbrev pub traces_in : List Row → Option Builder
traces_in rows = value_or Bi (named_in builders) (first_of (codes "traces") rows)

abbrev pub regs_in : List Row → Option ℕ
regs_in rows = value_or 16 (number_between 4 16) (first_of (codes "regs") rows)

abbrev pub jobs_in : List Row → Option ℕ
jobs_in rows = value_or 4 (number_between 1 64) (first_of (codes "jobs") rows)

abbrev pub steps_in : List Row → Option ℕ
steps_in rows = value_or 1000000000 (number_between 0 1000000000000000) (first_of (codes "steps") rows)

abbrev pub turns_in : List Row → Option ℕ
turns_in rows = value_or 100000000 (number_between 0 1000000000000000) (first_of (codes "turns") rows)

-- the policy and the traces that the words choose, with 16 registers and 4 workers
abbrev pub traces_choice_in : List Row → Option Choice
traces_choice_in rows =
    given (policy_in rows) (λ policy.
    given (traces_in rows) (λ builder. Some (record { policy = policy; builder = builder; regs = 16; jobs = 4 })))

-- the policy, the traces and the registers that the words choose, with 4 workers
abbrev pub shown_choice_in : List Row → Option Choice
shown_choice_in rows =
    given (policy_in rows) (λ policy. given (traces_in rows) (λ builder.
    given (regs_in rows) (λ regs. Some (record { policy = policy; builder = builder; regs = regs; jobs = 4 }))))

-- all four
abbrev pub choice_in : List Row → Option Choice
choice_in rows =
    given (policy_in rows) (λ policy. given (traces_in rows) (λ builder.
    given (regs_in rows) (λ regs.
    given (jobs_in rows) (λ jobs. Some (record { policy = policy; builder = builder; regs = regs; jobs = jobs })))))

abbrev pub formats : List (List ℕ × Format)
formats = (codes "text", Text) ∷ (codes "json", Json) ∷ []

-- how `check` tells that a rule is broken
abbrev pub format_in : List Row → Option Format
format_in rows = value_or Text (named_in formats) (first_of (codes "format") rows)

-- a number that has a page
abbrev pub paged : ℕ → Option Topic
paged number = if has_page number then Some (Number number) else None

-- what `explain` explains: the commands, or a number that has a page
abbrev pub topic_named : List ℕ → Option Topic
topic_named text = if bytes_eq text (codes "usage") then Some Usage else given (number_between 0 255 text) paged

abbrev pub topic_in : List Row → Option Topic
topic_in rows = value_or Pages topic_named (first_of (codes "TOPIC") rows)

abbrev pub seed_in : List Row → Option ℕ
seed_in rows = given (first_of (codes "SEED") rows) (number_between 0 9223372036854775807)

abbrev pub size_in : List Row → Option ℕ
size_in rows = given (first_of (codes "SIZE") rows) (number_between 1 1000)
