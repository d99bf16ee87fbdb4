use Rattle.std.proofs.Common.{sym, ap, ◌∙◌}
use Rattle.check_types.specs.TypeMeaning.{type_shape}
use Rattle.check_types.specs.TableFacts.{entry_at}
use Rattle.check_types.proofs.SameShapes.{same_true}
use Rattle.check_types.proofs.table.TypeTable.entry.Goals as goal

pub returns : goal.returns
returns c =
    ap (type_shape c.args.self.now.types) (c.entry_in.ensures ∙ ap (λ l. entry_at l c.args.n) c.deref.ensures.value)
    ∙ sym (same_true _ _ (c.args.self.now.meant c.args.n))
