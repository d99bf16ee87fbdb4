-- How what is known of the variables changes.
use Rattle.std.specs.Prelude.{◌≡◌, ℕ, suc, List, [], ◌∷◌, ◌++◌, map, drop, take, length, cond, Option, Some, None, slice_get, slice_set, slice_index}
use Rattle.block_runs.specs.declared.end.End.{End}
use Rattle.ssa_lowered.specs.Pieces.{Mask, rest}
use Rattle.ssa_exprs.specs.declared.making.Undo.{Undo}
use Rattle.ssa_exprs.specs.Making.{Known, View, within, closed}

-- a variable that is there gets a value
abbrev pub changed_by : Known → ℕ → ℕ → Option ℕ → Known
changed_by k x n None = k
changed_by k x n (Some old) = record { env = slice_set k.env x n; log = k.log ++ record { variable = x; value = old } ∷ [] }

abbrev pub changed : Known → ℕ → ℕ → Known
changed k x n = changed_by k x n (slice_get k.env x)

-- the last changes are taken back, the latest first
abbrev pub undone : List Undo → List ℕ → List ℕ
undone [] env = env
undone (u ∷ us) env = slice_set (undone us env) u.variable u.value

-- all but the first so many changes are taken back
abbrev pub rewound : Known → ℕ → Known
rewound k n = record { env = undone (drop n k.log) k.env; log = take n k.log }

-- the changes between two moments
pub record Undoes (k l : Known) : Type 0 where
  pub more : List Undo
  pub log : l.log ≡ k.log ++ more
  pub env : undone more l.env ≡ k.env

-- variables get values, numbered from one on
abbrev pub numbered_from : Known → List ℕ → ℕ → Known
numbered_from k [] v = k
numbered_from k (x ∷ xs) v = numbered_from (changed k x v) xs (suc v)

-- the variables of a mask
abbrev pub chosen : Mask → ℕ → List ℕ → List ℕ
chosen mask i [] = []
chosen mask i (u ∷ env) = cond (mask 0) (i ∷ chosen (rest mask) (suc i) env) (chosen (rest mask) (suc i) env)

-- their values
abbrev pub values_of : List ℕ → List ℕ → List ℕ
values_of env xs = map (λ x. slice_index env x) xs

-- the open block ends, and the next one has parameters that become the values of variables
abbrev pub joined : View → End → List ℕ → ℕ → Option ℕ → View
joined v end xs freq enter =
    let w = closed v end (length xs) freq enter in
    record w { known = within w.over (numbered_from v.known xs v.values) v.known }
