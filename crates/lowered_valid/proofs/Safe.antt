-- Valid procedures keep to what the steps need.
use Rattle.std.proofs.Common.{ℕ, ◌<◌, ◌≤◌, false, List, [], length, get_or, sym, ap, subst, ◌∙◌, inl, inr, ◌⊎◌, refl}
use Rattle.std.specs.Prelude.{All, min}
use Rattle.std.proofs.lemmas.List.{get_or-map, get_or_past, length-map}
use Rattle.std.proofs.lemmas.Bool.{cases_lt}
use Rattle.block_runs.specs.Blocks.{no_procedure, procedure_of}
use Rattle.block_runs.specs.Live.{Live}
use Rattle.block_runs.specs.Live.Live.{Here, Later}
use Rattle.ssa_core.specs.declared.procedure.Proc.{Proc}
use Rattle.ssa_core.specs.Procedures.{procedure, procedures}
use Rattle.ssa_core.specs.Validity.{IsValid}
use Rattle.lowered_valid.specs.Contents.{IsBare}
use Rattle.lowered_valid.proofs.Stepping.{IsSafe}

one_safe : (p : Proc) → IsValid p → IsBare p → IsSafe (procedure p)
one_safe p valid bare = record {
  first = valid.code.placed.first;
  arguments = valid.code.arguments;
  bare = λ body. valid.code.first_params ∙ ap (min 4) (bare body);
}

nothing_live : (v b : ℕ) → Live [] v b → ⊥
nothing_live v b (Here b' bl e p r) = cc
nothing_live v b (Later b' to bl e u edge l) = cc

none_safe : IsSafe no_procedure
none_safe = record { first = λ v l. nothing_live v 0 l; arguments = refl; bare = λ e. refl }

pub all_safe : (ps : List Proc) → All IsValid ps → All IsBare ps → (p : ℕ) → IsSafe (procedure_of (procedures ps) p)
all_safe ps valid bare p = by (cases_lt p (length ps))
  where
    no_proc : Proc
    no_proc = record { blocks = []; values = 0; args = 0; counted = false; local_cells = 0; local_bytes = 0 }

    by : ◌⊎◌ (p < length ps) (length ps ≤ p) → IsSafe (procedure_of (procedures ps) p)
    by (inl lt) = subst IsSafe (sym (get_or-map procedure ps p no_proc no_procedure lt)) (one_safe (get_or ps p no_proc) (valid p no_proc lt) (bare p no_proc lt))
    by (inr le) = let l = length-map ps procedure in subst IsSafe (sym (get_or_past (procedures ps) p no_procedure (subst (λ n. n ≤ p) (sym l) le))) none_safe
