-- The predeclared names, and those of Out and In, by their bytes.
use Rattle.std.specs.Prelude.{ℕ, List, [], ◌∷◌, true, Option, None}
use Rattle.ob_judge.specs.Shapes.{Integer, Boolean, Char, Byte, Set}
use Rattle.ob_judge.specs.Image.{Done}
use Rattle.ob_judge.specs.Scopes.{Object, AType, AStandard, AVariable, ReadOnly, Entry, Abs, Odd, Len, Lsl, Asr, Ror, Ord, Chr, Inc, Dec, Incl, Excl, New, Assert, OutChar, OutInt, OutString, OutLn, InChar, no_names, declare}

-- names that are exported
abbrev pub names_of : List (List ℕ × Object) → List ℕ → Option Entry
names_of [] = no_names
names_of (x ∷ xs) = declare x.0 (record { object = x.1; exported = true }) (names_of xs)

abbrev pub predeclared : List ℕ → Option Entry
predeclared = names_of (
    -- INTEGER
    (73 ∷ 78 ∷ 84 ∷ 69 ∷ 71 ∷ 69 ∷ 82 ∷ [], AType Integer) ∷
    -- BOOLEAN
    (66 ∷ 79 ∷ 79 ∷ 76 ∷ 69 ∷ 65 ∷ 78 ∷ [], AType Boolean) ∷
    -- CHAR
    (67 ∷ 72 ∷ 65 ∷ 82 ∷ [], AType Char) ∷
    -- BYTE
    (66 ∷ 89 ∷ 84 ∷ 69 ∷ [], AType Byte) ∷
    -- SET
    (83 ∷ 69 ∷ 84 ∷ [], AType Set) ∷
    -- ABS
    (65 ∷ 66 ∷ 83 ∷ [], AStandard Abs) ∷
    -- ODD
    (79 ∷ 68 ∷ 68 ∷ [], AStandard Odd) ∷
    -- LEN
    (76 ∷ 69 ∷ 78 ∷ [], AStandard Len) ∷
    -- LSL
    (76 ∷ 83 ∷ 76 ∷ [], AStandard Lsl) ∷
    -- ASR
    (65 ∷ 83 ∷ 82 ∷ [], AStandard Asr) ∷
    -- ROR
    (82 ∷ 79 ∷ 82 ∷ [], AStandard Ror) ∷
    -- ORD
    (79 ∷ 82 ∷ 68 ∷ [], AStandard Ord) ∷
    -- CHR
    (67 ∷ 72 ∷ 82 ∷ [], AStandard Chr) ∷
    -- INC
    (73 ∷ 78 ∷ 67 ∷ [], AStandard Inc) ∷
    -- DEC
    (68 ∷ 69 ∷ 67 ∷ [], AStandard Dec) ∷
    -- INCL
    (73 ∷ 78 ∷ 67 ∷ 76 ∷ [], AStandard Incl) ∷
    -- EXCL
    (69 ∷ 88 ∷ 67 ∷ 76 ∷ [], AStandard Excl) ∷
    -- NEW
    (78 ∷ 69 ∷ 87 ∷ [], AStandard New) ∷
    -- ASSERT
    (65 ∷ 83 ∷ 83 ∷ 69 ∷ 82 ∷ 84 ∷ [], AStandard Assert) ∷
    [])

-- Out
abbrev pub out_name : List ℕ
out_name = 79 ∷ 117 ∷ 116 ∷ []

-- In
abbrev pub in_name : List ℕ
in_name = 73 ∷ 110 ∷ []

abbrev pub names_of_out : List ℕ → Option Entry
names_of_out = names_of (
    -- Char
    (67 ∷ 104 ∷ 97 ∷ 114 ∷ [], AStandard OutChar) ∷
    -- Int
    (73 ∷ 110 ∷ 116 ∷ [], AStandard OutInt) ∷
    -- String
    (83 ∷ 116 ∷ 114 ∷ 105 ∷ 110 ∷ 103 ∷ [], AStandard OutString) ∷
    -- Ln
    (76 ∷ 110 ∷ [], AStandard OutLn) ∷
    [])

abbrev pub names_of_in : List ℕ → Option Entry
names_of_in = names_of (
    -- Char
    (67 ∷ 104 ∷ 97 ∷ 114 ∷ [], AStandard InChar) ∷
    -- Done
    (68 ∷ 111 ∷ 110 ∷ 101 ∷ [], AVariable (record { shape = Boolean; place = Done; home = ReadOnly; owner = 0; procedure = None })) ∷
    [])
