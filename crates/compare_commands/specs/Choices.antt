-- The choices that are compared.
use Rattle.std.specs.Prelude.{ℕ, List, [], ◌∷◌, ◌++◌, map}
use Rattle.trace_build.specs.declared.builder.Builder.{Builder}
use Rattle.trace_build.specs.declared.builder.Builder.TheVariants.{Bi, Uni}
use Rattle.program_figures.specs.words.alloc_choice.declared.choice.Choice.{Choice}
use Rattle.program_figures.specs.words.alloc_choice.declared.choice.Policy.{Policy}
use Rattle.program_figures.specs.words.alloc_choice.declared.choice.Policy.TheVariants.{Plain, Linear, BottomUp, Mixed}

-- the policies, and those that choose registers
abbrev pub policies : List Policy
policies = Plain ∷ Linear ∷ BottomUp ∷ Mixed ∷ []

abbrev pub choosing_policies : List Policy
choosing_policies = Linear ∷ BottomUp ∷ Mixed ∷ []

-- each of some policies with a builder and so many registers
abbrev pub each_with : List Policy → Builder → (regs jobs : ℕ) → List Choice
each_with chosen builder regs jobs =
    map (λ (policy : Policy). let choice : Choice = record { policy = policy; builder = builder; regs = regs; jobs = jobs } in choice) chosen

-- all policies over 16 registers, by both builders; and those that choose registers over 8 and over 4
abbrev pub choices : (jobs : ℕ) → List Choice
choices jobs =
    each_with policies Bi 16 jobs ++ (each_with policies Uni 16 jobs ++ (each_with choosing_policies Bi 8 jobs ++ each_with choosing_policies Bi 4 jobs))
