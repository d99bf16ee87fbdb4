use Rattle.std.proofs.Common.{List, ℕ, [], ◌∷◌, ◌++◌, get_or, take, sym, ap, subst, ◌∙◌, append_assoc}
use Rattle.std.proofs.lemmas.List.{take_more}
use Rattle.eval_layouts.specs.Tables.{RowTo}
use Rattle.eval_layouts.proofs.Tabling.{whole_taken}
use Rattle.eval_layouts.proofs.row.Row.add_all.Goals as goal

pub loop-kind-preserved : goal.loop-kind-preserved
loop-kind-preserved c = λ t first types known r.
    let ks = c.args.kinds.now in
    let i = c.loop-kind.kind-index in
    let P : List ℕ → Type 0 = λ l. RowTo t first l c.add.new.self.places c.add.new.self.end in
    subst P (append_assoc types (take i ks) (get_or ks i 0 ∷ []) ∙ ap (λ l. types ++ l) (sym (take_more ks i 0 c.loop-kind-test.true))) (c.in_ok-add.ensures t first (types ++ take i ks) known (c.loop-kind.invariant t first types known r))

pub returns : goal.returns
returns c = λ t first types known r.
    let P : List ℕ → Type 0 = λ l. RowTo t first (types ++ l) c.loop-kind.self.places c.loop-kind.self.end in
    subst P (whole_taken c.args.kinds.now c.loop-kind.kind-index c.loop-kind-test.false) (c.loop-kind.invariant t first types known r)
