-- The syntax of the parts of statements that hold lists and options.
use Rattle.std.specs.Prelude.{List, [], ◌∷◌, Option, Some, None, Box}
use Rattle.std.specs.Global.{Global}
use Rattle.ob_syntax.specs.Syntax as S
use Rattle.ob_syntax.specs.Plain.{plain_option, plain_by, plain_expression, plain_stats, plain_stat, plain_elsifs, plain_elsif_dos, plain_else, plain_case, plain_case_part, plain_next_cases}
use Rattle.ob_syntax.specs.declared.statements.NextStat.{NextStat}
use Rattle.ob_syntax.specs.declared.statements.IfStat.{IfStat, IfStat'}
use Rattle.ob_syntax.specs.declared.statements.Elsif.{Elsif, Elsif'}
use Rattle.ob_syntax.specs.declared.statements.Else.{Else, Else'}
use Rattle.ob_syntax.specs.declared.statements.CaseStat.{CaseStat, CaseStat'}
use Rattle.ob_syntax.specs.declared.statements.NextCase.{NextCase, NextCase'}
use Rattle.ob_syntax.specs.declared.statements.CasePart.{CasePart}
use Rattle.ob_syntax.specs.declared.statements.WhileStat.{WhileStat, WhileStat'}
use Rattle.ob_syntax.specs.declared.statements.ElsifDo.{ElsifDo, ElsifDo'}
use Rattle.ob_syntax.specs.declared.statements.RepeatStat.{RepeatStat, RepeatStat'}
use Rattle.ob_syntax.specs.declared.statements.ForStat.{ForStat, ForStat'}

-- further statements
abbrev pub plain_each_stat : List NextStat → S.NextStats
plain_each_stat [] = S.no_stat
plain_each_stat (x ∷ xs) = S.next_stat x.semicolon (plain_stat x.stat) (plain_each_stat xs)

-- ELSIFs of IF, and of WHILE
abbrev pub plain_each_elsif : List Elsif → S.Elsifs
plain_each_elsif [] = S.no_elsif
plain_each_elsif (Elsif' i x j body ∷ xs) = S.next_elsif i (plain_expression x) j (plain_stats body) (plain_each_elsif xs)

abbrev pub plain_each_elsif_do : List ElsifDo → S.Elsifs
plain_each_elsif_do [] = S.no_elsif
plain_each_elsif_do (ElsifDo' i x j body ∷ xs) = S.next_elsif i (plain_expression x) j (plain_stats body) (plain_each_elsif_do xs)

abbrev pub plain_maybe_else : Option Else → S.MaybeElse
plain_maybe_else None = S.no_else
plain_maybe_else (Some (Else' i body)) = S.otherwise i (plain_stats body)

-- further cases
abbrev pub plain_each_case : List NextCase → S.NextCases
plain_each_case [] = S.no_next_case
plain_each_case (NextCase' i x ∷ xs) = S.next_case i (plain_case x) (plain_each_case xs)

abbrev pub plain_maybe_case : Option (Box CasePart Global) → S.MaybeCase
plain_maybe_case None = S.no_case
plain_maybe_case (Some x) = plain_case_part x.value

-- statements by themselves
abbrev pub plain_if : IfStat → S.Stat
plain_if (IfStat' i x j body _ more other k) = S.If i (plain_expression x) j (plain_stats body) (plain_elsifs more) (plain_else other) k

abbrev pub plain_case_stat : CaseStat → S.Stat
plain_case_stat (CaseStat' i x j first _ more k) = S.Case i (plain_expression x) j (plain_case first) (plain_next_cases more) k

abbrev pub plain_while : WhileStat → S.Stat
plain_while (WhileStat' i x j body _ more k) = S.While i (plain_expression x) j (plain_stats body) (plain_elsif_dos more) k

abbrev pub plain_repeat : RepeatStat → S.Stat
plain_repeat (RepeatStat' i body j x) = S.Repeat i (plain_stats body) j (plain_expression x)

abbrev pub plain_for : ForStat → S.Stat
plain_for (ForStat' i v j a k b step m body n) = S.For i v j (plain_expression a) k (plain_expression b) (plain_option plain_by step) m (plain_stats body) n
