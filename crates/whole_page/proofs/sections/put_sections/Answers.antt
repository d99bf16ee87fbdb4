use Rattle.std.proofs.Common.{arith}
use Rattle.whole_page.specs.Sections.{section_text}
use Rattle.whole_page.specs.Views.{maybe_view, view_of}
use Rattle.whole_page.proofs.Lengths.{long_so_far}
use Rattle.whole_page.proofs.sections.put_sections.Goals as goal

pub returns-then-len-gt-MOST_BYTES-clause-long : goal.returns-then-len-gt-MOST_BYTES-clause-long
returns-then-len-gt-MOST_BYTES-clause-long c long =
    long_so_far (section_text c.args.sources.now.texts.now (view_of c.args.own.now) (maybe_view c.args.other.now)) c.args.rows.now c.loop-row.row-index _
    c.args.text.now.items c.loop-row.text.items c.put_section.new.text.items c.loop-row-test.true c.loop-row.invariant c.in_ok-put_section.ensures 67108864 (omega (arith, c.len.ensures, c.if-len-gt-MOST_BYTES.true))
