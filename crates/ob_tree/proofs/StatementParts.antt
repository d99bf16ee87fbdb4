-- What statements spell, by their fields.
use Rattle.std.proofs.Common.{◌≡◌, sym, ap, ◌∙◌}
use Rattle.ob_grammar.specs.Grammar as G
use Rattle.ob_syntax.specs.Leaves.{leaf, boxed, optional, each, ◌⧺◌}
use Rattle.ob_syntax.specs.ExpressionText.{expression_text}
use Rattle.ob_syntax.specs.StatementText.{stats_text, next_stat_text, stat_text, if_stat_text, elsif_text, else_text, case_stat_text, next_case_text, case_text, case_part_text, next_range_text, range_text, while_stat_text, elsif_do_text, repeat_stat_text, for_stat_text, by_text}
use Rattle.ob_syntax.specs.declared.statements.Stats.{Stats, out-Stats, roll-out-Stats}
use Rattle.ob_syntax.specs.declared.statements.IfStat.{IfStat, out-IfStat, roll-out-IfStat}
use Rattle.ob_syntax.specs.declared.statements.Elsif.{Elsif, out-Elsif, roll-out-Elsif}
use Rattle.ob_syntax.specs.declared.statements.Else.{Else, out-Else, roll-out-Else}
use Rattle.ob_syntax.specs.declared.statements.CaseStat.{CaseStat, out-CaseStat, roll-out-CaseStat}
use Rattle.ob_syntax.specs.declared.statements.NextCase.{NextCase, out-NextCase, roll-out-NextCase}
use Rattle.ob_syntax.specs.declared.statements.Case.{Case, out-Case, roll-out-Case}
use Rattle.ob_syntax.specs.declared.statements.CasePart.{CasePart, out-CasePart, roll-out-CasePart}
use Rattle.ob_syntax.specs.declared.statements.WhileStat.{WhileStat, out-WhileStat, roll-out-WhileStat}
use Rattle.ob_syntax.specs.declared.statements.ElsifDo.{ElsifDo, out-ElsifDo, roll-out-ElsifDo}
use Rattle.ob_syntax.specs.declared.statements.RepeatStat.{RepeatStat, out-RepeatStat, roll-out-RepeatStat}
use Rattle.ob_syntax.specs.declared.statements.ForStat.{ForStat, out-ForStat, roll-out-ForStat}
use Rattle.ob_syntax.proofs.StatementTexts.{stats_is, if_stat_is, elsif_is, else_is, case_stat_is, next_case_is, case_is, case_part_is, while_stat_is, elsif_do_is, repeat_stat_is, for_stat_is}

pub stats_parts : (x : Stats) →
    stats_text x
    ≡ stat_text (out-Stats x).first ⧺ each next_stat_text (out-Stats x).more.items
stats_parts x =
    ap stats_text (sym (roll-out-Stats x))
    ∙ stats_is (out-Stats x).first (out-Stats x).more

pub if_stat_parts : (x : IfStat) →
    if_stat_text x
    ≡ leaf G.IF (out-IfStat x).if_word ⧺ expression_text (out-IfStat x).guard ⧺ leaf G.THEN (out-IfStat x).then_word
    ⧺ stats_text (out-IfStat x).body ⧺ each elsif_text (out-IfStat x).elsifs.items
    ⧺ optional else_text (out-IfStat x).otherwise ⧺ leaf G.END (out-IfStat x).end_word
if_stat_parts x =
    ap if_stat_text (sym (roll-out-IfStat x))
    ∙ if_stat_is (out-IfStat x).if_word (out-IfStat x).guard (out-IfStat x).then_word (out-IfStat x).body (out-IfStat x).elsifs (out-IfStat x).otherwise (out-IfStat x).end_word

pub elsif_parts : (x : Elsif) →
    elsif_text x
    ≡ leaf G.ELSIF (out-Elsif x).elsif_word ⧺ expression_text (out-Elsif x).guard ⧺ leaf G.THEN (out-Elsif x).then_word
    ⧺ stats_text (out-Elsif x).body
elsif_parts x =
    ap elsif_text (sym (roll-out-Elsif x))
    ∙ elsif_is (out-Elsif x).elsif_word (out-Elsif x).guard (out-Elsif x).then_word (out-Elsif x).body

pub else_parts : (x : Else) → else_text x ≡ leaf G.ELSE (out-Else x).else_word ⧺ stats_text (out-Else x).body
else_parts x =
    ap else_text (sym (roll-out-Else x))
    ∙ else_is (out-Else x).else_word (out-Else x).body

pub case_stat_parts : (x : CaseStat) →
    case_stat_text x
    ≡ leaf G.CASE (out-CaseStat x).case_word ⧺ expression_text (out-CaseStat x).selector
    ⧺ leaf G.OF (out-CaseStat x).of_word ⧺ case_text (out-CaseStat x).first
    ⧺ each next_case_text (out-CaseStat x).more.items ⧺ leaf G.END (out-CaseStat x).end_word
case_stat_parts x =
    ap case_stat_text (sym (roll-out-CaseStat x))
    ∙ case_stat_is (out-CaseStat x).case_word (out-CaseStat x).selector (out-CaseStat x).of_word (out-CaseStat x).first (out-CaseStat x).more (out-CaseStat x).end_word

pub next_case_parts : (x : NextCase) →
    next_case_text x
    ≡ leaf G.bar (out-NextCase x).bar ⧺ case_text (out-NextCase x).case
next_case_parts x =
    ap next_case_text (sym (roll-out-NextCase x))
    ∙ next_case_is (out-NextCase x).bar (out-NextCase x).case

pub case_parts : (x : Case) → case_text x ≡ optional (boxed case_part_text) (out-Case x).part
case_parts x =
    ap case_text (sym (roll-out-Case x))
    ∙ case_is (out-Case x).part

pub case_part_parts : (x : CasePart) →
    case_part_text x
    ≡ range_text (out-CasePart x).first ⧺ each next_range_text (out-CasePart x).more.items
    ⧺ leaf G.colon (out-CasePart x).colon ⧺ stats_text (out-CasePart x).body
case_part_parts x =
    ap case_part_text (sym (roll-out-CasePart x))
    ∙ case_part_is (out-CasePart x).first (out-CasePart x).more (out-CasePart x).colon (out-CasePart x).body

pub while_stat_parts : (x : WhileStat) →
    while_stat_text x
    ≡ leaf G.WHILE (out-WhileStat x).while_word ⧺ expression_text (out-WhileStat x).guard
    ⧺ leaf G.DO (out-WhileStat x).do_word ⧺ stats_text (out-WhileStat x).body
    ⧺ each elsif_do_text (out-WhileStat x).elsifs.items ⧺ leaf G.END (out-WhileStat x).end_word
while_stat_parts x =
    ap while_stat_text (sym (roll-out-WhileStat x))
    ∙ while_stat_is (out-WhileStat x).while_word (out-WhileStat x).guard (out-WhileStat x).do_word (out-WhileStat x).body (out-WhileStat x).elsifs (out-WhileStat x).end_word

pub elsif_do_parts : (x : ElsifDo) →
    elsif_do_text x
    ≡ leaf G.ELSIF (out-ElsifDo x).elsif_word ⧺ expression_text (out-ElsifDo x).guard ⧺ leaf G.DO (out-ElsifDo x).do_word
    ⧺ stats_text (out-ElsifDo x).body
elsif_do_parts x =
    ap elsif_do_text (sym (roll-out-ElsifDo x))
    ∙ elsif_do_is (out-ElsifDo x).elsif_word (out-ElsifDo x).guard (out-ElsifDo x).do_word (out-ElsifDo x).body

pub repeat_stat_parts : (x : RepeatStat) →
    repeat_stat_text x
    ≡ leaf G.REPEAT (out-RepeatStat x).repeat_word ⧺ stats_text (out-RepeatStat x).body
    ⧺ leaf G.UNTIL (out-RepeatStat x).until_word ⧺ expression_text (out-RepeatStat x).guard
repeat_stat_parts x =
    ap repeat_stat_text (sym (roll-out-RepeatStat x))
    ∙ repeat_stat_is (out-RepeatStat x).repeat_word (out-RepeatStat x).body (out-RepeatStat x).until_word (out-RepeatStat x).guard

pub for_stat_parts : (x : ForStat) →
    for_stat_text x
    ≡ leaf G.FOR (out-ForStat x).for_word ⧺ leaf G.ident (out-ForStat x).variable ⧺ leaf G.becomes (out-ForStat x).becomes
    ⧺ expression_text (out-ForStat x).from ⧺ leaf G.TO (out-ForStat x).to_word ⧺ expression_text (out-ForStat x).to
    ⧺ optional by_text (out-ForStat x).by ⧺ leaf G.DO (out-ForStat x).do_word ⧺ stats_text (out-ForStat x).body
    ⧺ leaf G.END (out-ForStat x).end_word
for_stat_parts x =
    ap for_stat_text (sym (roll-out-ForStat x))
    ∙ for_stat_is (out-ForStat x).for_word (out-ForStat x).variable (out-ForStat x).becomes (out-ForStat x).from (out-ForStat x).to_word (out-ForStat x).to (out-ForStat x).by (out-ForStat x).do_word (out-ForStat x).body (out-ForStat x).end_word
