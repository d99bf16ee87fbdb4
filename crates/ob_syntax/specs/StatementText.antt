-- What statements spell, by cases on the tree.
use Rattle.std.specs.Prelude.{List, []}
use Rattle.ob_grammar.specs.Grammar as G
use Rattle.ob_syntax.specs.Leaves.{Leaf, leaf, optional, each, ◌⧺◌}
use Rattle.ob_syntax.specs.NameText.{qualident_text}
use Rattle.ob_syntax.specs.ExpressionText.{designator_text, expression_text}
use Rattle.ob_syntax.specs.declared.statements.Body.{Body}
use Rattle.ob_syntax.specs.declared.statements.Stats.{Stats, Stats', Row_of-NextStat, end_of-NextStat, more_of-NextStat}
use Rattle.ob_syntax.specs.declared.statements.NextStat.{NextStat}
use Rattle.ob_syntax.specs.declared.statements.Stat.{Stat}
use Rattle.ob_syntax.specs.declared.statements.Stat.TheVariants as TheStat
use Rattle.ob_syntax.specs.declared.statements.AssignOrCall.{AssignOrCall}
use Rattle.ob_syntax.specs.declared.statements.Assigned.{Assigned}
use Rattle.ob_syntax.specs.declared.statements.IfStat.{IfStat, IfStat', Row_of-Elsif, end_of-Elsif, more_of-Elsif, Held-IfStat-otherwise, IfStat-otherwise-None', IfStat-otherwise-Some'}
use Rattle.ob_syntax.specs.declared.statements.Elsif.{Elsif, Elsif'}
use Rattle.ob_syntax.specs.declared.statements.Else.{Else, Else'}
use Rattle.ob_syntax.specs.declared.statements.CaseStat.{CaseStat, CaseStat', Row_of-NextCase, end_of-NextCase, more_of-NextCase}
use Rattle.ob_syntax.specs.declared.statements.NextCase.{NextCase, NextCase'}
use Rattle.ob_syntax.specs.declared.statements.Case.{Case, Case', Held-Case-part, Case-part-None', Case-part-Some'}
use Rattle.ob_syntax.specs.declared.statements.CasePart.{CasePart, CasePart'}
use Rattle.ob_syntax.specs.declared.statements.NextRange.{NextRange}
use Rattle.ob_syntax.specs.declared.statements.Range.{Range}
use Rattle.ob_syntax.specs.declared.statements.High.{High}
use Rattle.ob_syntax.specs.declared.statements.Label.{Label}
use Rattle.ob_syntax.specs.declared.statements.Label.TheVariants as TheLabel
use Rattle.ob_syntax.specs.declared.statements.WhileStat.{WhileStat, WhileStat', Row_of-ElsifDo, end_of-ElsifDo, more_of-ElsifDo}
use Rattle.ob_syntax.specs.declared.statements.ElsifDo.{ElsifDo, ElsifDo'}
use Rattle.ob_syntax.specs.declared.statements.RepeatStat.{RepeatStat, RepeatStat'}
use Rattle.ob_syntax.specs.declared.statements.ForStat.{ForStat, ForStat'}
use Rattle.ob_syntax.specs.declared.statements.By.{By}

-- `":=" expression`
abbrev pub assigned_text : Assigned → List Leaf
assigned_text x = leaf G.becomes x.becomes ⧺ expression_text x.value

-- `designator [":=" expression]`
abbrev pub assign_or_call_text : AssignOrCall → List Leaf
assign_or_call_text x = designator_text x.designator ⧺ optional assigned_text x.assigned

-- `integer | string | char | qualident`
abbrev pub label_text : Label → List Leaf
label_text (TheLabel.Int i) = leaf G.integer i
label_text (TheLabel.Text i) = leaf G.string i
label_text (TheLabel.Char i) = leaf G.char i
label_text (TheLabel.Named x) = qualident_text x

-- `".." label`
abbrev pub high_text : High → List Leaf
high_text x = leaf G.dots x.dots ⧺ label_text x.label

-- `label [".." label]`
abbrev pub range_text : Range → List Leaf
range_text x = label_text x.low ⧺ optional high_text x.high

-- `"," range`
abbrev pub next_range_text : NextRange → List Leaf
next_range_text x = leaf G.comma x.comma ⧺ range_text x.range

-- `BY expression`
abbrev pub by_text : By → List Leaf
by_text x = leaf G.BY x.by_word ⧺ expression_text x.step

abbrev mutual
  pub stats_text : Stats → List Leaf
  stats_text (Stats' first _ more) = stat_text first ⧺ next_stat_row more

  pub stat_text : Stat → List Leaf
  stat_text TheStat.Empty = []
  stat_text (TheStat.AssignOrCall x) = assign_or_call_text x.value
  stat_text (TheStat.If' _ x) = if_stat_text x
  stat_text (TheStat.Case' _ x) = case_stat_text x
  stat_text (TheStat.While' _ x) = while_stat_text x
  stat_text (TheStat.Repeat' _ x) = repeat_stat_text x
  stat_text (TheStat.For' _ x) = for_stat_text x

  pub if_stat_text : IfStat → List Leaf
  if_stat_text (IfStat' if_word guard then_word body _ elsifs otherwise end_word) = leaf G.IF if_word
      ⧺ expression_text guard ⧺ leaf G.THEN then_word ⧺ stats_text body ⧺ elsif_row elsifs
      ⧺ held_else_text otherwise ⧺ leaf G.END end_word

  pub elsif_text : Elsif → List Leaf
  elsif_text (Elsif' elsif_word guard then_word body) = leaf G.ELSIF elsif_word ⧺ expression_text guard
      ⧺ leaf G.THEN then_word ⧺ stats_text body

  pub else_text : Else → List Leaf
  else_text (Else' else_word body) = leaf G.ELSE else_word ⧺ stats_text body

  pub case_stat_text : CaseStat → List Leaf
  case_stat_text (CaseStat' case_word selector of_word first _ more end_word) = leaf G.CASE case_word
      ⧺ expression_text selector ⧺ leaf G.OF of_word ⧺ case_text first ⧺ next_case_row more
      ⧺ leaf G.END end_word

  pub next_case_text : NextCase → List Leaf
  next_case_text (NextCase' bar case) = leaf G.bar bar ⧺ case_text case

  pub case_text : Case → List Leaf
  case_text (Case' part) = held_part_text part

  pub case_part_text : CasePart → List Leaf
  case_part_text (CasePart' first more colon body) = range_text first ⧺ each next_range_text more.items
      ⧺ leaf G.colon colon ⧺ stats_text body

  pub while_stat_text : WhileStat → List Leaf
  while_stat_text (WhileStat' while_word guard do_word body _ elsifs end_word) = leaf G.WHILE while_word
      ⧺ expression_text guard ⧺ leaf G.DO do_word ⧺ stats_text body ⧺ elsif_do_row elsifs ⧺ leaf G.END end_word

  pub elsif_do_text : ElsifDo → List Leaf
  elsif_do_text (ElsifDo' elsif_word guard do_word body) = leaf G.ELSIF elsif_word ⧺ expression_text guard
      ⧺ leaf G.DO do_word ⧺ stats_text body

  pub repeat_stat_text : RepeatStat → List Leaf
  repeat_stat_text (RepeatStat' repeat_word body until_word guard) = leaf G.REPEAT repeat_word ⧺ stats_text body
      ⧺ leaf G.UNTIL until_word ⧺ expression_text guard

  pub for_stat_text : ForStat → List Leaf
  for_stat_text (ForStat' for_word variable becomes from to_word to by do_word body end_word) = leaf G.FOR for_word
      ⧺ leaf G.ident variable ⧺ leaf G.becomes becomes ⧺ expression_text from ⧺ leaf G.TO to_word
      ⧺ expression_text to ⧺ optional by_text by ⧺ leaf G.DO do_word ⧺ stats_text body ⧺ leaf G.END end_word

  pub next_stat_row : {m : _} → Row_of-NextStat m → List Leaf
  next_stat_row end_of-NextStat = []
  next_stat_row (more_of-NextStat semicolon stat rest) = (leaf G.semicolon semicolon ⧺ stat_text stat)
      ⧺ next_stat_row rest

  pub elsif_row : {m : _} → Row_of-Elsif m → List Leaf
  elsif_row end_of-Elsif = []
  elsif_row (more_of-Elsif x rest) = elsif_text x ⧺ elsif_row rest

  pub held_else_text : Held-IfStat-otherwise → List Leaf
  held_else_text IfStat-otherwise-None' = []
  held_else_text (IfStat-otherwise-Some' x) = else_text x

  pub next_case_row : {m : _} → Row_of-NextCase m → List Leaf
  next_case_row end_of-NextCase = []
  next_case_row (more_of-NextCase x rest) = next_case_text x ⧺ next_case_row rest

  pub held_part_text : Held-Case-part → List Leaf
  held_part_text Case-part-None' = []
  held_part_text (Case-part-Some' _ x) = case_part_text x

  pub elsif_do_row : {m : _} → Row_of-ElsifDo m → List Leaf
  elsif_do_row end_of-ElsifDo = []
  elsif_do_row (more_of-ElsifDo x rest) = elsif_do_text x ⧺ elsif_do_row rest

-- `";" stat`
abbrev pub next_stat_text : NextStat → List Leaf
next_stat_text x = leaf G.semicolon x.semicolon ⧺ stat_text x.stat

-- `BEGIN stats`
abbrev pub body_text : Body → List Leaf
body_text x = leaf G.BEGIN x.begin_word ⧺ stats_text x.stats
