-- Statements are spelled by trees of the grammar.
use Rattle.ob_grammar.specs.Grammar as G
use Rattle.ob_grammar.specs.Grammar.{part, ◌·◌, opt, many}
use Rattle.ob_syntax.specs.StatementText.{body_text, stats_text, stat_text, assign_or_call_text, assigned_text, if_stat_text, elsif_text, else_text, case_stat_text, next_case_text, case_text, case_part_text, next_range_text, range_text, high_text, label_text, while_stat_text, elsif_do_text, repeat_stat_text, for_stat_text, by_text, next_stat_row, elsif_row, next_case_row, elsif_do_row, held_else_text, held_part_text}
use Rattle.ob_syntax.specs.declared.statements.Body.{Body}
use Rattle.ob_syntax.specs.declared.statements.Stats.{Stats, Stats', Row_of-NextStat, end_of-NextStat, more_of-NextStat}
use Rattle.ob_syntax.specs.declared.statements.Stat.{Stat}
use Rattle.ob_syntax.specs.declared.statements.Stat.TheVariants as TheStat
use Rattle.ob_syntax.specs.declared.statements.AssignOrCall.{AssignOrCall}
use Rattle.ob_syntax.specs.declared.statements.Assigned.{Assigned}
use Rattle.ob_syntax.specs.declared.statements.IfStat.{IfStat, IfStat', Row_of-Elsif, end_of-Elsif, more_of-Elsif, Held-IfStat-otherwise, IfStat-otherwise-None', IfStat-otherwise-Some'}
use Rattle.ob_syntax.specs.declared.statements.Elsif.{Elsif, Elsif'}
use Rattle.ob_syntax.specs.declared.statements.Else.{Else, Else'}
use Rattle.ob_syntax.specs.declared.statements.CaseStat.{CaseStat, CaseStat', Row_of-NextCase, end_of-NextCase, more_of-NextCase}
use Rattle.ob_syntax.specs.declared.statements.NextCase.{NextCase, NextCase'}
use Rattle.ob_syntax.specs.declared.statements.Case.{Case, Case', Held-Case-part, Case-part-None', Case-part-Some'}
use Rattle.ob_syntax.specs.declared.statements.CasePart.{CasePart, CasePart'}
use Rattle.ob_syntax.specs.declared.statements.NextRange.{NextRange}
use Rattle.ob_syntax.specs.declared.statements.Range.{Range}
use Rattle.ob_syntax.specs.declared.statements.High.{High}
use Rattle.ob_syntax.specs.declared.statements.Label.{Label}
use Rattle.ob_syntax.specs.declared.statements.Label.TheVariants as TheLabel
use Rattle.ob_syntax.specs.declared.statements.WhileStat.{WhileStat, WhileStat', Row_of-ElsifDo, end_of-ElsifDo, more_of-ElsifDo}
use Rattle.ob_syntax.specs.declared.statements.ElsifDo.{ElsifDo, ElsifDo'}
use Rattle.ob_syntax.specs.declared.statements.RepeatStat.{RepeatStat, RepeatStat'}
use Rattle.ob_syntax.specs.declared.statements.ForStat.{ForStat, ForStat'}
use Rattle.ob_syntax.specs.declared.statements.By.{By}
use Rattle.ob_syntax.proofs.NamesSpelled.{qualident}
use Rattle.ob_syntax.proofs.ExpressionsSpelled.{expression, designator}
use Rattle.ob_syntax.proofs.Spelled.{Spelled, symbol, ◌then◌, left, right, there, absent, again, done, named, within, if_there, all}

abbrev pub assigned : (x : Assigned) → Spelled (G.becomes · part G.expression) (assigned_text x)
assigned x = symbol x.becomes then expression x.value

abbrev pub assign_or_call : (x : AssignOrCall) → Spelled (part G.designator · opt (G.becomes
    · part G.expression)) (assign_or_call_text x)
assign_or_call x = designator x.designator then if_there assigned_text (assigned) x.assigned

abbrev pub label : (x : Label) → Spelled (part G.label) (label_text x)
label (TheLabel.Int i) = named (left (symbol i))
label (TheLabel.Text i) = named (right (left (symbol i)))
label (TheLabel.Char i) = named (right (right (left (symbol i))))
label (TheLabel.Named x) = named (right (right (right (qualident x))))

abbrev pub high : (x : High) → Spelled (G.dots · part G.label) (high_text x)
high x = symbol x.dots then label x.label

abbrev pub range : (x : Range) → Spelled (part G.range) (range_text x)
range x = named (label x.low then if_there high_text (high) x.high)

abbrev pub next_range : (x : NextRange) → Spelled (G.comma · part G.range) (next_range_text x)
next_range x = symbol x.comma then range x.range

abbrev pub by_part : (x : By) → Spelled (G.BY · part G.expression) (by_text x)
by_part x = symbol x.by_word then expression x.step

abbrev mutual
  pub stats : (x : Stats) → Spelled (part G.stats) (stats_text x)
  stats (Stats' first _ more) = named (stat first then stat_all more)

  pub stat_all : {m : _} (x : Row_of-NextStat m) → Spelled (many (G.semicolon · part G.stat)) (next_stat_row x)
  stat_all end_of-NextStat = done
  stat_all (more_of-NextStat i x rest) = again (symbol i then stat x) (stat_all rest)

  pub stat : (x : Stat) → Spelled (part G.stat) (stat_text x)
  stat TheStat.Empty = named absent
  stat (TheStat.AssignOrCall x) = named (there (left (assign_or_call x.value)))
  stat (TheStat.If' _ x) = named (there (right (left (if_stat x))))
  stat (TheStat.Case' _ x) = named (there (right (right (left (case_stat x)))))
  stat (TheStat.While' _ x) = named (there (right (right (right (left (while_stat x))))))
  stat (TheStat.Repeat' _ x) = named (there (right (right (right (right (left (repeat_stat x)))))))
  stat (TheStat.For' _ x) = named (there (right (right (right (right (right (for_stat x)))))))

  pub if_stat : (x : IfStat) → Spelled (G.opening G.IF (part G.expression · G.THEN · part G.stats
      · many (G.ELSIF · part G.expression · G.THEN · part G.stats) · opt (G.ELSE · part G.stats)
      · G.END)) (if_stat_text x)
  if_stat (IfStat' i x j body _ more other k) = within i (expression x then symbol j
      then stats body then elsif_all more then held_else other then symbol k)

  pub elsif_all : {m : _} (x : Row_of-Elsif m) → Spelled (many (G.ELSIF · part G.expression · G.THEN
      · part G.stats)) (elsif_row x)
  elsif_all end_of-Elsif = done
  elsif_all (more_of-Elsif x rest) = again (elsif x) (elsif_all rest)

  pub elsif : (x : Elsif) → Spelled (G.ELSIF · part G.expression · G.THEN · part G.stats) (elsif_text x)
  elsif (Elsif' i x j body) = symbol i then expression x then symbol j then stats body

  pub held_else : (x : Held-IfStat-otherwise) → Spelled (opt (G.ELSE · part G.stats)) (held_else_text x)
  held_else IfStat-otherwise-None' = absent
  held_else (IfStat-otherwise-Some' x) = there (else_part x)

  pub else_part : (x : Else) → Spelled (G.ELSE · part G.stats) (else_text x)
  else_part (Else' i body) = symbol i then stats body

  pub case_stat : (x : CaseStat) → Spelled (G.opening G.CASE (part G.expression · G.OF · part G.case
      · many (G.bar · part G.case) · G.END)) (case_stat_text x)
  case_stat (CaseStat' i x j first _ more k) = within i (expression x then symbol j
      then case first then case_all more then symbol k)

  pub case_all : {m : _} (x : Row_of-NextCase m) → Spelled (many (G.bar · part G.case)) (next_case_row x)
  case_all end_of-NextCase = done
  case_all (more_of-NextCase x rest) = again (next_case x) (case_all rest)

  pub next_case : (x : NextCase) → Spelled (G.bar · part G.case) (next_case_text x)
  next_case (NextCase' i x) = symbol i then case x

  pub case : (x : Case) → Spelled (part G.case) (case_text x)
  case (Case' x) = named (held_part x)

  pub held_part : (x : Held-Case-part) → Spelled (opt (part G.range · many (G.comma · part G.range) · G.colon
      · part G.stats)) (held_part_text x)
  held_part Case-part-None' = absent
  held_part (Case-part-Some' _ x) = there (case_part x)

  pub case_part : (x : CasePart) → Spelled (part G.range · many (G.comma · part G.range) · G.colon
      · part G.stats) (case_part_text x)
  case_part (CasePart' first more i body) = range first then all next_range_text (next_range) more.items
      then symbol i then stats body

  pub while_stat : (x : WhileStat) → Spelled (G.opening G.WHILE (part G.expression · G.DO · part G.stats
      · many (G.ELSIF · part G.expression · G.DO · part G.stats) · G.END)) (while_stat_text x)
  while_stat (WhileStat' i x j body _ more k) = within i (expression x then symbol j
      then stats body then elsif_do_all more then symbol k)

  pub elsif_do_all : {m : _} (x : Row_of-ElsifDo m) → Spelled (many (G.ELSIF · part G.expression · G.DO
      · part G.stats)) (elsif_do_row x)
  elsif_do_all end_of-ElsifDo = done
  elsif_do_all (more_of-ElsifDo x rest) = again (elsif_do x) (elsif_do_all rest)

  pub elsif_do : (x : ElsifDo) → Spelled (G.ELSIF · part G.expression · G.DO · part G.stats) (elsif_do_text x)
  elsif_do (ElsifDo' i x j body) = symbol i then expression x then symbol j then stats body

  pub repeat_stat : (x : RepeatStat) → Spelled (G.opening G.REPEAT (part G.stats · G.UNTIL
      · part G.expression)) (repeat_stat_text x)
  repeat_stat (RepeatStat' i body j x) = within i (stats body then symbol j then expression x)

  pub for_stat : (x : ForStat) → Spelled (G.opening G.FOR (G.ident · G.becomes · part G.expression · G.TO
      · part G.expression · opt (G.BY · part G.expression) · G.DO · part G.stats · G.END)) (for_stat_text x)
  for_stat (ForStat' i v j a k b step m body n) = within i (symbol v then symbol j then expression a
      then symbol k then expression b then if_there by_text (by_part) step then symbol m
      then stats body then symbol n)

abbrev pub body_part : (x : Body) → Spelled (G.BEGIN · part G.stats) (body_text x)
body_part x = symbol x.begin_word then stats x.stats
