use Rattle.std.proofs.Common.{◌≡◌, ◌++◌, drop}
use Rattle.whole_page.specs.Rows.{rows_from, rows_of}
use Rattle.whole_page.specs.Views.{maybe_view, view_of}
use Rattle.whole_page.proofs.rows.rows_of.Given as goal

abbrev pub invariant-loop-number : goal.invariant-loop-number
invariant-loop-number l =
    l.rows.items ++ rows_from (view_of l.own) (maybe_view l.other) l.room l.number (drop l.number l.own.flows.now) ≡ rows_of (view_of l.own) (maybe_view l.other)
