-- Parameters that leave their registers, one by one.
use Rattle.std.proofs.Common.{◌≡◌, ◌∙◌, ap, ap₂, sym, refl, arith, ℕ, suc, ◌<◌, ◌≤◌, Bool, true, false, cond, List, [], ◌∷◌, map, drop, length, get_or, Option, Some, None}
use Rattle.std.proofs.Math.Seq.{drop-cons}
use Rattle.std.specs.Prelude.{◌==◌}
use Rattle.std.proofs.lemmas.List.{drop_all}
use Rattle.block_runs.specs.Live.{has}
use Rattle.lir_core.specs.Walks.{without}
use Rattle.loc_back.specs.Steps.{no_param}
use Rattle.loc_state.proofs.Numbers.{numbers_turned}

one_left : (p : ℕ) (ps : List ℕ) (o : Option ℕ) → no_param ps (without p o) ≡ no_param (p ∷ ps) o
one_left p ps None = refl
one_left p ps (Some v) = by (v == p) ∙ ap (λ b. cond (cond b true (has ps v)) None (Some v)) (numbers_turned v p)
  where
    by : (b : Bool) → no_param ps (cond b None (Some v)) ≡ cond (cond b true (has ps v)) None (Some v)
    by true = refl
    by false = refl

pub param_left : (p : ℕ) (ps : List ℕ) (regs : List (Option ℕ)) → map (no_param ps) (map (without p) regs) ≡ map (no_param (p ∷ ps)) regs
param_left p ps [] = refl
param_left p ps (o ∷ os) = ap₂ (λ x xs. x ∷ xs) (one_left p ps o) (param_left p ps os)

none_left : (o : Option ℕ) → no_param [] o ≡ o
none_left None = refl
none_left (Some v) = refl

pub no_params : (regs : List (Option ℕ)) → map (no_param []) regs ≡ regs
no_params [] = refl
no_params (o ∷ os) = ap₂ (λ x xs. x ∷ xs) (none_left o) (no_params os)

-- a parameter more has left its register
pub left_more : (params : List ℕ) (i d : ℕ) (regs after before : List (Option ℕ)) → i < length params → after ≡ map (without (get_or params i d)) regs
    → map (no_param (drop i params)) regs ≡ before → map (no_param (drop (suc i) params)) after ≡ before
left_more params i d regs after before l e was =
    ap (map (no_param (drop (suc i) params))) e ∙ param_left (get_or params i d) (drop (suc i) params) regs
    ∙ ap (λ ps. map (no_param ps) regs) (sym (drop-cons params i d l)) ∙ was

-- all have
pub left_all : (params : List ℕ) (i : ℕ) (regs before : List (Option ℕ)) → length params ≤ i → map (no_param (drop i params)) regs ≡ before → regs ≡ before
left_all params i regs before l was =
    sym (no_params regs) ∙ ap (λ ps. map (no_param ps) regs) (sym (drop_all i params l)) ∙ was
