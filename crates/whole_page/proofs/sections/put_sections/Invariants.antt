use Rattle.std.proofs.Common.{◌≡◌, ◌++◌, drop}
use Rattle.whole_page.specs.Sections.{sections_text}
use Rattle.whole_page.specs.Views.{maybe_view, view_of}
use Rattle.whole_page.proofs.sections.put_sections.Given as goal

abbrev pub invariant-loop-row : goal.invariant-loop-row
invariant-loop-row l =
    l.text.items ++ sections_text l.sources.texts.now (view_of l.own) (maybe_view l.other) (drop l.row-index l.rows)
    ≡ l.initial.text.items ++ sections_text l.sources.texts.now (view_of l.own) (maybe_view l.other) l.rows
