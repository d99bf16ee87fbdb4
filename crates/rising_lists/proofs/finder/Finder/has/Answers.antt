use Rattle.std.proofs.Common.{◌∙◌, ap, sym, subst}
use Rattle.std.specs.Prelude.{slice_get}
use Rattle.lir_core.specs.Spots.{IsRising}
use Rattle.block_runs.specs.Live.{has}
use Rattle.rising_lists.specs.Rising.{is_number}
use Rattle.rising_lists.proofs.Ranks.{has_at_rank}
use Rattle.rising_lists.proofs.finder.Finder.has.Goals as goal

pub returns-clause-found : goal.returns-clause-found
returns-clause-found c rising =
    let numbers = c.self.inside.numbers.now in
    let risen : IsRising numbers = subst IsRising (sym c.self.view_is) rising in
    c.is_at.ensures ∙ ap (λ k. is_number (slice_get numbers k) c.args.number) (c.reach-self-inside.ensures risen)
    ∙ sym (has_at_rank numbers c.args.number risen) ∙ ap (λ xs. has xs c.args.number) c.self.view_is
