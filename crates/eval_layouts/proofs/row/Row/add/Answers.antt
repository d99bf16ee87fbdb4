use Rattle.std.proofs.Common.{List, [], ℕ, ◌∷◌, ◌++◌, sym, subst}
use Rattle.ob_types.specs.Layout.{cells}
use Rattle.eval_layouts.specs.Tables.{RowTo}
use Rattle.eval_layouts.proofs.Tabling.{row_more}
use Rattle.eval_layouts.proofs.row.Row.add.Goals as goal

pub returns-in_ok-push-in-Some-checked_add : goal.returns-in_ok-push-in-Some-checked_add
returns-in_ok-push-in-Some-checked_add c = λ t first types known r.
    let old = c.args.self.now in
    let n = c.in-Some-checked_add.ensures in
    let P : List ℕ → Type 0 = λ l. RowTo t first (types ++ c.args.kind ∷ []) l c.in-Some-checked_add.end in
    let Q : ℕ → Type 0 = λ e. RowTo t first (types ++ c.args.kind ∷ []) (old.places ++ old.end ∷ []) e in
    subst P (sym c.in_ok-push-in-Some-checked_add.ensures.ok) (subst Q (sym n.1) (row_more t first types old.places old.end c.args.kind c.in-Some.cells r (c.in-Some.ensures (cells t) known)))
