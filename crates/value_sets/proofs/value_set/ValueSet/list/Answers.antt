use Rattle.std.proofs.Common.{◌≡◌, ◌∙◌, ◌++◌, ap, sym, subst}
use Rattle.lir_core.specs.Spots.{IsRising}
use Rattle.value_sets.specs.Words.{values_of}
use Rattle.value_sets.proofs.Sets.{values_rise}
use Rattle.value_sets.proofs.value_set.ValueSet.list.Goals as goal

pub returns-clause-rises : goal.returns-clause-rises
returns-clause-rises c =
    let words = c.as_slice-words.result.now in
    let listed : c.from_vec.result ≡ values_of words = c.from_vec.ensures ∙ c.in_ok-push_all.ensures ∙ ap (λ xs. xs ++ values_of words) c.in_ok-values.ensures.items in
    subst IsRising (sym listed) (values_rise words)
