use Rattle.std.proofs.Common.{◌≡◌, ◌++◌, drop}
use Rattle.std.specs.List.{flat_map}
use Rattle.whole_page.specs.Summaries.{ranked_text}
use Rattle.whole_page.proofs.summaries.put_all_ranked.Given as goal

abbrev pub invariant-loop-rank : goal.invariant-loop-rank
invariant-loop-rank l =
    l.text.items ++ flat_map (ranked_text l.sources.texts.now l.sources.places.now l.rows) (drop l.rank-index l.ranks)
    ≡ l.initial.text.items ++ flat_map (ranked_text l.sources.texts.now l.sources.places.now l.rows) l.ranks
