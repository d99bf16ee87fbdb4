-- What a statement that code makes spells: from the parts that it is made of.
use Rattle.std.proofs.Common.{◌≡◌, ℕ, Vec, Global, Box, Option, Some, None, refl, ap, ◌∙◌}
use Rattle.ob_grammar.specs.Grammar as G
use Rattle.ob_syntax.specs.Leaves.{leaf, boxed, optional, each, ◌⧺◌}
use Rattle.ob_syntax.specs.ExpressionText.{expression_text}
use Rattle.ob_syntax.specs.StatementText.{stats_text, next_stat_text, stat_text, if_stat_text, elsif_text, else_text, case_stat_text, next_case_text, case_text, case_part_text, next_range_text, range_text, while_stat_text, elsif_do_text, repeat_stat_text, for_stat_text, by_text, next_stat_row, elsif_row, next_case_row, elsif_do_row, held_else_text, held_part_text}
use Rattle.ob_syntax.specs.declared.expressions.Expression.{Expression}
use Rattle.ob_syntax.specs.declared.statements.Stats.{Stats, roll-Stats, rolls-Stats', Row_of-NextStat, end_of-NextStat, more_of-NextStat, items-the_row-NextStat, items_hidden-the_row-NextStat-2}
use Rattle.ob_syntax.specs.declared.statements.NextStat.{NextStat}
use Rattle.ob_syntax.specs.declared.statements.Stat.{Stat}
use Rattle.ob_syntax.specs.declared.statements.Stat.TheVariants as TheStat
use Rattle.ob_syntax.specs.declared.statements.IfStat.{IfStat, roll-IfStat, rolls-IfStat', Row_of-Elsif, end_of-Elsif, more_of-Elsif, items-the_row-Elsif, items_hidden-the_row-Elsif-1, back-IfStat-otherwise}
use Rattle.ob_syntax.specs.declared.statements.Elsif.{Elsif, roll-Elsif, rolls-Elsif'}
use Rattle.ob_syntax.specs.declared.statements.Else.{Else, roll-Else, rolls-Else'}
use Rattle.ob_syntax.specs.declared.statements.CaseStat.{CaseStat, roll-CaseStat, rolls-CaseStat', Row_of-NextCase, end_of-NextCase, more_of-NextCase, items-the_row-NextCase, items_hidden-the_row-NextCase-0}
use Rattle.ob_syntax.specs.declared.statements.NextCase.{NextCase, roll-NextCase, rolls-NextCase'}
use Rattle.ob_syntax.specs.declared.statements.Case.{Case, roll-Case, rolls-Case', back-Case-part}
use Rattle.ob_syntax.specs.declared.statements.CasePart.{CasePart, roll-CasePart, rolls-CasePart'}
use Rattle.ob_syntax.specs.declared.statements.NextRange.{NextRange}
use Rattle.ob_syntax.specs.declared.statements.Range.{Range}
use Rattle.ob_syntax.specs.declared.statements.WhileStat.{WhileStat, roll-WhileStat, rolls-WhileStat', Row_of-ElsifDo, end_of-ElsifDo, more_of-ElsifDo, items-the_row-ElsifDo, items_hidden-the_row-ElsifDo-3}
use Rattle.ob_syntax.specs.declared.statements.ElsifDo.{ElsifDo, roll-ElsifDo, rolls-ElsifDo'}
use Rattle.ob_syntax.specs.declared.statements.RepeatStat.{RepeatStat, roll-RepeatStat, rolls-RepeatStat'}
use Rattle.ob_syntax.specs.declared.statements.ForStat.{ForStat, roll-ForStat, rolls-ForStat'}
use Rattle.ob_syntax.specs.declared.statements.By.{By}
use Rattle.ob_syntax.specs.declared.statements.Stat.TheBlock.{hidden-the_row-NextStat-2, hidden-the_row-Elsif-1, hidden-the_row-NextCase-0, hidden-the_row-ElsifDo-3}

next_stat_row_are : (m : _) (row : Row_of-NextStat m) → next_stat_row row ≡ each next_stat_text (items-the_row-NextStat m row)
next_stat_row_are m end_of-NextStat = refl
next_stat_row_are m (more_of-NextStat semicolon stat rest) = ap (λ t. (leaf G.semicolon semicolon ⧺ stat_text stat) ⧺ t) (next_stat_row_are _ rest)

pub next_stat_row_is : (xs : Vec NextStat Global) → next_stat_row (hidden-the_row-NextStat-2 xs) ≡ each next_stat_text xs.items
next_stat_row_is xs = next_stat_row_are _ (hidden-the_row-NextStat-2 xs) ∙ ap (each next_stat_text) (items_hidden-the_row-NextStat-2 xs)

elsif_row_are : (m : _) (row : Row_of-Elsif m) → elsif_row row ≡ each elsif_text (items-the_row-Elsif m row)
elsif_row_are m end_of-Elsif = refl
elsif_row_are m (more_of-Elsif x rest) = ap (λ t. elsif_text x ⧺ t) (elsif_row_are _ rest)

pub elsif_row_is : (xs : Vec Elsif Global) → elsif_row (hidden-the_row-Elsif-1 xs) ≡ each elsif_text xs.items
elsif_row_is xs = elsif_row_are _ (hidden-the_row-Elsif-1 xs) ∙ ap (each elsif_text) (items_hidden-the_row-Elsif-1 xs)

pub held_else_is : (x : Option Else) → held_else_text (back-IfStat-otherwise x) ≡ optional else_text x
held_else_is None = refl
held_else_is (Some x) = refl

next_case_row_are : (m : _) (row : Row_of-NextCase m) → next_case_row row ≡ each next_case_text (items-the_row-NextCase m row)
next_case_row_are m end_of-NextCase = refl
next_case_row_are m (more_of-NextCase x rest) = ap (λ t. next_case_text x ⧺ t) (next_case_row_are _ rest)

pub next_case_row_is : (xs : Vec NextCase Global) → next_case_row (hidden-the_row-NextCase-0 xs) ≡ each next_case_text xs.items
next_case_row_is xs = next_case_row_are _ (hidden-the_row-NextCase-0 xs) ∙ ap (each next_case_text) (items_hidden-the_row-NextCase-0 xs)

pub held_part_is : (x : Option (Box CasePart Global)) → held_part_text (back-Case-part x) ≡ optional (boxed case_part_text) x
held_part_is None = refl
held_part_is (Some x) = refl

elsif_do_row_are : (m : _) (row : Row_of-ElsifDo m) → elsif_do_row row ≡ each elsif_do_text (items-the_row-ElsifDo m row)
elsif_do_row_are m end_of-ElsifDo = refl
elsif_do_row_are m (more_of-ElsifDo x rest) = ap (λ t. elsif_do_text x ⧺ t) (elsif_do_row_are _ rest)

pub elsif_do_row_is : (xs : Vec ElsifDo Global) → elsif_do_row (hidden-the_row-ElsifDo-3 xs) ≡ each elsif_do_text xs.items
elsif_do_row_is xs = elsif_do_row_are _ (hidden-the_row-ElsifDo-3 xs) ∙ ap (each elsif_do_text) (items_hidden-the_row-ElsifDo-3 xs)

pub stats_is : (first : Stat) (more : Vec NextStat Global) →
    stats_text (roll-Stats (record { first = first; more = more }))
    ≡ stat_text first ⧺ each next_stat_text more.items
stats_is first more =
    ap stats_text (rolls-Stats' (record { first = first; more = more }))
    ∙ ap (λ t. stat_text first ⧺ t) (next_stat_row_is more)

pub stat_if_is : (x : Box IfStat Global) → stat_text (TheStat.If x) ≡ if_stat_text x.value
stat_if_is x = refl

pub stat_case_is : (x : Box CaseStat Global) → stat_text (TheStat.Case x) ≡ case_stat_text x.value
stat_case_is x = refl

pub stat_while_is : (x : Box WhileStat Global) → stat_text (TheStat.While x) ≡ while_stat_text x.value
stat_while_is x = refl

pub stat_repeat_is : (x : Box RepeatStat Global) → stat_text (TheStat.Repeat x) ≡ repeat_stat_text x.value
stat_repeat_is x = refl

pub stat_for_is : (x : Box ForStat Global) → stat_text (TheStat.For x) ≡ for_stat_text x.value
stat_for_is x = refl

pub if_stat_is : (if_word : ℕ) (guard : Expression) (then_word : ℕ) (body : Stats) (elsifs : Vec Elsif Global) (otherwise : Option Else) (end_word : ℕ) →
    if_stat_text (roll-IfStat (record { if_word = if_word; guard = guard; then_word = then_word; body = body; elsifs = elsifs; otherwise = otherwise; end_word = end_word }))
    ≡ leaf G.IF if_word ⧺ expression_text guard ⧺ leaf G.THEN then_word ⧺ stats_text body ⧺ each elsif_text elsifs.items
    ⧺ optional else_text otherwise ⧺ leaf G.END end_word
if_stat_is if_word guard then_word body elsifs otherwise end_word =
    ap if_stat_text (rolls-IfStat' (record { if_word = if_word; guard = guard; then_word = then_word; body = body; elsifs = elsifs; otherwise = otherwise; end_word = end_word }))
    ∙ ap (λ t. leaf G.IF if_word ⧺ expression_text guard ⧺ leaf G.THEN then_word ⧺ stats_text body ⧺ t
    ⧺ held_else_text (back-IfStat-otherwise otherwise) ⧺ leaf G.END end_word) (elsif_row_is elsifs)
    ∙ ap (λ t. leaf G.IF if_word ⧺ expression_text guard ⧺ leaf G.THEN then_word ⧺ stats_text body
    ⧺ each elsif_text elsifs.items ⧺ t ⧺ leaf G.END end_word) (held_else_is otherwise)

pub elsif_is : (elsif_word : ℕ) (guard : Expression) (then_word : ℕ) (body : Stats) →
    elsif_text (roll-Elsif (record { elsif_word = elsif_word; guard = guard; then_word = then_word; body = body }))
    ≡ leaf G.ELSIF elsif_word ⧺ expression_text guard ⧺ leaf G.THEN then_word ⧺ stats_text body
elsif_is elsif_word guard then_word body =
    ap elsif_text (rolls-Elsif' (record { elsif_word = elsif_word; guard = guard; then_word = then_word; body = body }))

pub else_is : (else_word : ℕ) (body : Stats) →
    else_text (roll-Else (record { else_word = else_word; body = body }))
    ≡ leaf G.ELSE else_word ⧺ stats_text body
else_is else_word body =
    ap else_text (rolls-Else' (record { else_word = else_word; body = body }))

pub case_stat_is : (case_word : ℕ) (selector : Expression) (of_word : ℕ) (first : Case) (more : Vec NextCase Global) (end_word : ℕ) →
    case_stat_text (roll-CaseStat (record { case_word = case_word; selector = selector; of_word = of_word; first = first; more = more; end_word = end_word }))
    ≡ leaf G.CASE case_word ⧺ expression_text selector ⧺ leaf G.OF of_word ⧺ case_text first
    ⧺ each next_case_text more.items ⧺ leaf G.END end_word
case_stat_is case_word selector of_word first more end_word =
    ap case_stat_text (rolls-CaseStat' (record { case_word = case_word; selector = selector; of_word = of_word; first = first; more = more; end_word = end_word }))
    ∙ ap (λ t. leaf G.CASE case_word ⧺ expression_text selector ⧺ leaf G.OF of_word ⧺ case_text first ⧺ t
    ⧺ leaf G.END end_word) (next_case_row_is more)

pub next_case_is : (bar : ℕ) (case : Case) →
    next_case_text (roll-NextCase (record { bar = bar; case = case }))
    ≡ leaf G.bar bar ⧺ case_text case
next_case_is bar case =
    ap next_case_text (rolls-NextCase' (record { bar = bar; case = case }))

pub case_is : (part : Option (Box CasePart Global)) →
    case_text (roll-Case (record { part = part }))
    ≡ optional (boxed case_part_text) part
case_is part =
    ap case_text (rolls-Case' (record { part = part }))
    ∙ held_part_is part

pub case_part_is : (first : Range) (more : Vec NextRange Global) (colon : ℕ) (body : Stats) →
    case_part_text (roll-CasePart (record { first = first; more = more; colon = colon; body = body }))
    ≡ range_text first ⧺ each next_range_text more.items ⧺ leaf G.colon colon ⧺ stats_text body
case_part_is first more colon body =
    ap case_part_text (rolls-CasePart' (record { first = first; more = more; colon = colon; body = body }))

pub while_stat_is : (while_word : ℕ) (guard : Expression) (do_word : ℕ) (body : Stats) (elsifs : Vec ElsifDo Global) (end_word : ℕ) →
    while_stat_text (roll-WhileStat (record { while_word = while_word; guard = guard; do_word = do_word; body = body; elsifs = elsifs; end_word = end_word }))
    ≡ leaf G.WHILE while_word ⧺ expression_text guard ⧺ leaf G.DO do_word ⧺ stats_text body
    ⧺ each elsif_do_text elsifs.items ⧺ leaf G.END end_word
while_stat_is while_word guard do_word body elsifs end_word =
    ap while_stat_text (rolls-WhileStat' (record { while_word = while_word; guard = guard; do_word = do_word; body = body; elsifs = elsifs; end_word = end_word }))
    ∙ ap (λ t. leaf G.WHILE while_word ⧺ expression_text guard ⧺ leaf G.DO do_word ⧺ stats_text body ⧺ t
    ⧺ leaf G.END end_word) (elsif_do_row_is elsifs)

pub elsif_do_is : (elsif_word : ℕ) (guard : Expression) (do_word : ℕ) (body : Stats) →
    elsif_do_text (roll-ElsifDo (record { elsif_word = elsif_word; guard = guard; do_word = do_word; body = body }))
    ≡ leaf G.ELSIF elsif_word ⧺ expression_text guard ⧺ leaf G.DO do_word ⧺ stats_text body
elsif_do_is elsif_word guard do_word body =
    ap elsif_do_text (rolls-ElsifDo' (record { elsif_word = elsif_word; guard = guard; do_word = do_word; body = body }))

pub repeat_stat_is : (repeat_word : ℕ) (body : Stats) (until_word : ℕ) (guard : Expression) →
    repeat_stat_text (roll-RepeatStat (record { repeat_word = repeat_word; body = body; until_word = until_word; guard = guard }))
    ≡ leaf G.REPEAT repeat_word ⧺ stats_text body ⧺ leaf G.UNTIL until_word ⧺ expression_text guard
repeat_stat_is repeat_word body until_word guard =
    ap repeat_stat_text (rolls-RepeatStat' (record { repeat_word = repeat_word; body = body; until_word = until_word; guard = guard }))

pub for_stat_is : (for_word : ℕ) (variable : ℕ) (becomes : ℕ) (from : Expression) (to_word : ℕ) (to : Expression) (by : Option By) (do_word : ℕ) (body : Stats) (end_word : ℕ) →
    for_stat_text (roll-ForStat (record { for_word = for_word; variable = variable; becomes = becomes; from = from; to_word = to_word; to = to; by = by; do_word = do_word; body = body; end_word = end_word }))
    ≡ leaf G.FOR for_word ⧺ leaf G.ident variable ⧺ leaf G.becomes becomes ⧺ expression_text from ⧺ leaf G.TO to_word
    ⧺ expression_text to ⧺ optional by_text by ⧺ leaf G.DO do_word ⧺ stats_text body ⧺ leaf G.END end_word
for_stat_is for_word variable becomes from to_word to by do_word body end_word =
    ap for_stat_text (rolls-ForStat' (record { for_word = for_word; variable = variable; becomes = becomes; from = from; to_word = to_word; to = to; by = by; do_word = do_word; body = body; end_word = end_word }))
