-- Marks of HTML, each under a name, so that proofs needn't look into them.
use Rattle.std.specs.Prelude.{ℕ, List, codes}

-- before a value's number, where it is marked in a text
unfoldable pub value_begin : List ℕ
value_begin = codes "<i data-v=\""

-- the begins of a register's cell: one that has nothing, and one that has a value
unfoldable pub off_begin : List ℕ
off_begin = codes "<td class=\"off"

unfoldable pub on_begin : List ℕ
on_begin = codes "<td class=\"on"

-- in that of a value before its number, before its hue, and before its text
unfoldable pub number_begin : List ℕ
number_begin = codes "\" data-v=\""

unfoldable pub hue_begin : List ℕ
hue_begin = codes "\" style=\"--h:"

unfoldable pub held_begin : List ℕ
held_begin = codes "\">v"

-- behind a cell, and before the homes
unfoldable pub cell_end : List ℕ
cell_end = codes "</td>"

unfoldable pub homes_begin : List ℕ
homes_begin = codes "<td class=\"homes\">"

-- before the kind of a row, and before the numbers that name a block's first row
unfoldable pub row_begin : List ℕ
row_begin = codes "<tr class=\""

unfoldable pub head_begin : List ℕ
head_begin = codes "<tr class=\"head\" id=\"p"

-- between the kind of a row, or its name, and its text
unfoldable pub text_begin : List ℕ
text_begin = codes "\"><td class=\"text\">"

-- between homes and words, and behind the words
unfoldable pub words_begin : List ℕ
words_begin = codes "</td><td class=\"words\">"

unfoldable pub row_end : List ℕ
row_end = codes "</td></tr>\n"

-- before the block to which an edge leads
unfoldable pub edge_to : List ℕ
edge_to = codes "edge to block "
