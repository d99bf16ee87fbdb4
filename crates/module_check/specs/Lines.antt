-- The line of JSON that tells a rule that is broken.
use Rattle.std.specs.Prelude.{ℕ, suc, ◌+◌, List, [], ◌∷◌, ◌++◌, codes, decimal, drop, length, take, Option, Some, None}
use Rattle.json.specs.Token.{Token, begin_object, end_object, key, string, number}
use Rattle.json.specs.Print.{print}
use Rattle.ob_judge.specs.Scopes.{line_ends}
use Rattle.explanations.specs.Entries.{Entry}
use Rattle.explanations.specs.Faults.{fault_entry}
use Rattle.trc_answers.specs.Names.{name_of_rule}
use Rattle.trc_answers.specs.Places.{last_line}
use Rattle.module_check.specs.Marks.{marked}

-- what a rule's page says in a line, or no bytes where it has none
abbrev pub title_in : Option Entry → List ℕ
title_in None = []
title_in (Some e) = e.title

-- a member with a text, and one with a number
abbrev pub text_member : List ℕ → List ℕ → List Token
text_member name text = key name ∷ string text ∷ []

abbrev pub number_member : List ℕ → ℕ → List Token
number_member name n = key name ∷ number (decimal n) ∷ []

-- the file and the line
abbrev pub line_members : (file : List ℕ) (line : ℕ) → List Token
line_members file line = text_member (codes "file") file ++ number_member (codes "line") line

-- the column, and that behind what is marked
abbrev pub column_members : (column behind : ℕ) → List Token
column_members column behind = number_member (codes "column") column ++ number_member (codes "end_column") behind

-- the rule: its number, its name, and what it is
abbrev pub rule_members : ℕ → List Token
rule_members rule =
    number_member (codes "number") rule ++ text_member (codes "name") (name_of_rule rule) ++ text_member (codes "text") (title_in (fault_entry rule))

-- the line
abbrev pub json_line : (file : List ℕ) (line column behind rule : ℕ) → List ℕ
json_line file line column behind rule =
    print (begin_object ∷ [] ++ line_members file line ++ column_members column behind ++ rule_members rule ++ end_object ∷ []) ++ 10 ∷ []

-- the line and the column of a byte of a text, as other commands tell them
abbrev pub line_at : List ℕ → ℕ → ℕ
line_at text at = suc (line_ends (take at text))

abbrev pub column_at : List ℕ → ℕ → ℕ
column_at text at = suc (length (last_line (take at text)))

-- that of a rule that is broken in a file's text at this byte
abbrev pub fault_line : (file text : List ℕ) (rule at : ℕ) → List ℕ
fault_line file text rule at = json_line file (line_at text at) (column_at text at) (column_at text at + marked (drop at text)) rule
