use Rattle.check_types.proofs.Copies.{all_equal, same_there}
use Rattle.check_types.proofs.fields.copied.Goals as goal

pub returns-clause-same : goal.returns-clause-same
returns-clause-same c = λ q. same_there _ _ (λ a b k. all_equal a.items b.items k.0) (λ x y k. k) q c.args.fields.now.entries (c.in_ok-clone.field-0).entries c.in_ok-clone.ensures.cases
