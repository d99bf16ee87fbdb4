-- A scalar variable gets a value.
use Rattle.std.proofs.Common.{◌≡◌, ℕ, zero, suc, List, [], ◌∷◌, Option, Some, None, slice_get, refl, sym, ap}
use Rattle.std.specs.Prelude.{slice_set}
use Rattle.ssa_lowered.specs.Pieces.{becomes}
use Rattle.ssa_exprs.specs.Making.{View, Known, resolved, cursor_at}
use Rattle.ssa_exprs.specs.Changes.{changed, changed_by}
use Rattle.ssa_exprs.proofs.Giving.{append_nil, later_none, once_none}
use Rattle.ssa_exprs.proofs.Changes.{undoes_changed}
use Rattle.ssa_statements.specs.Steps.{Steps}

set_past : (env : List ℕ) (x n : ℕ) → slice_get env x ≡ None → slice_set env x n ≡ env
set_past [] x n e = refl
set_past (u ∷ env) zero n e = absurd (cc)
set_past (u ∷ env) (suc x) n e = ap (λ z. u ∷ z) (set_past env x n e)

env_by : (k : Known) (x n : ℕ) (o : Option ℕ) → slice_get k.env x ≡ o → slice_set k.env x n ≡ (changed_by k x n o).env
env_by k x n None e = set_past k.env x n e
env_by k x n (Some old) e = refl

pub steps_becomes : (v : View) (x n : ℕ) → Steps v (record v { known = changed v.known x n }) (becomes x n)
steps_becomes v x n = record {
  follows = record {
    fits = λ place f. f;
    limit = λ place f op seen. sym (later_none v.over);
    by = λ h place f op seen. record {
      adds = sym (append_nil (resolved place v.made));
      after = ap (λ e. record (cursor_at v op seen) { env = e }) (env_by v.known x n (slice_get v.known.env x) refl);
      result = refl;
    };
  };
  once = record { by = (once_none v).by };
  undoes = undoes_changed v.known x n;
}
