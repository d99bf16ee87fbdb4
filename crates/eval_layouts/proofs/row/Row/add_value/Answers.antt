use Rattle.std.proofs.Common.{List, ℕ, ◌++◌, sym, subst}
use Rattle.eval_layouts.specs.Tables.{RowTo}
use Rattle.eval_layouts.proofs.Tabling.{one_value}
use Rattle.eval_layouts.proofs.row.Row.add_value.Goals as goal

pub returns-in_ok-add-in-Value : goal.returns-in_ok-add-in-Value
returns-in_ok-add-in-Value c = λ t first types known r.
    let P : List ℕ → Type 0 = λ l. RowTo t first (types ++ l) c.add.new.self.places c.add.new.self.end in
    subst P (sym (one_value c.args.formal.now c.in-Value.is)) (c.in_ok-add-in-Value.ensures t first types known r)
