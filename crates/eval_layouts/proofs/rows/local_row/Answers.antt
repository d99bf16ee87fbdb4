use Rattle.std.proofs.Common.{◌≡◌, List, ℕ, ◌+◌, [], ◌∷◌, ◌++◌, take, sym, ap, subst, ◌∙◌}
use Rattle.std.proofs.lemmas.List.{take_more}
use Rattle.ob_types.specs.Meaning.{locals_of}
use Rattle.ob_types.specs.declared.types.Formal.{Formal}
use Rattle.eval_layouts.specs.Tables.{RowTo, values_among}
use Rattle.eval_layouts.proofs.Tabling.{row_table, values_more, whole_taken}
use Rattle.eval_layouts.proofs.rows.local_row.Goals as goal

pub loop-formal-init : goal.loop-formal-init
loop-formal-init c = λ t known. c.new-row.ensures t

pub loop-formal-preserved : goal.loop-formal-preserved
loop-formal-preserved c = λ t known.
    let items = c.as_slice-formal-items.result.now in
    let i = c.loop-formal.formal-index in
    let P : List ℕ → Type 0 = λ l. RowTo t 0 l c.add_value.new.self.places c.add_value.new.self.end in
    subst P (sym (ap values_among (take_more items i _ c.loop-formal-test.true) ∙ values_more (take i items) (_ ∷ []))) (c.in_ok-add_value.ensures t 0 (values_among (take i items)) known (c.loop-formal.invariant t known))

pub returns : goal.returns
returns c = λ t known.
    let items = c.as_slice-formal-items.result.now in
    let i = c.loop-formal.formal-index in
    let row = c.add_all.new.self in
    let P : List ℕ → Type 0 = λ l. RowTo t 0 l row.places row.end in
    let q = c.args.procedure.now in
    let all : values_among (take i items) ≡ values_among q.formals = ap values_among (whole_taken items i c.loop-formal-test.false ∙ c.as_slice-formal-items.ensures) in
    row_table t (locals_of q) row.places row.end
    (subst P (ap (λ l. l ++ c.as_slice.result.now) all ∙ ap (λ l. values_among q.formals ++ l) c.as_slice.ensures) (c.in_ok-add_all.ensures t 0 (values_among (take i items)) known (c.loop-formal.invariant t known)))
