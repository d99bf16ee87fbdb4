-- The two tables: reserved words, and operators and delimiters. (Oberon-07 report, section 3.)
use Rattle.std.specs.Prelude.{ℕ, List, [], ◌∷◌, Bool, nat_eq, if◌then◌else◌, ◌&&◌, Option, Some, None, codes}
use lib.Pointwise.{pointwise}
use Rattle.ob_symbol.specs.declared.symbol.Reserved.{Reserved}
use Rattle.ob_symbol.specs.declared.symbol.Reserved.TheVariants.{ArrayWord, BeginWord, ByWord, CaseWord, ConstWord, DivWord, DoWord, ElseWord, ElsifWord, EndWord, FalseWord, ForWord, IfWord, ImportWord, InWord, IsWord, ModWord, ModuleWord, NilWord, OfWord, OrWord, PointerWord, ProcedureWord, RecordWord, RepeatWord, ReturnWord, ThenWord, ToWord, TrueWord, TypeWord, UntilWord, VarWord, WhileWord}
use Rattle.ob_symbol.specs.declared.symbol.Delimiter.{Delimiter}
use Rattle.ob_symbol.specs.declared.symbol.Delimiter.TheVariants.{Plus, Minus, Times, Slash, Tilde, Ampersand, Period, Comma, Semicolon, Bar, LeftParen, LeftBracket, LeftBrace, Arrow, Equal, NotEqual, Less, Greater, Colon, RightParen, RightBracket, RightBrace, Becomes, LessEqual, GreaterEqual, Range}

-- two words are the same, byte by byte
unfoldable pub is_same : List ℕ → List ℕ → Bool
is_same x y = pointwise nat_eq x y

-- the reserved word that a word is, if it is one
abbrev pub reserved_of : List ℕ → Option Reserved
reserved_of w =
    if is_same w (codes "ARRAY") then Some ArrayWord else
    if is_same w (codes "BEGIN") then Some BeginWord else
    if is_same w (codes "BY") then Some ByWord else
    if is_same w (codes "CASE") then Some CaseWord else
    if is_same w (codes "CONST") then Some ConstWord else
    if is_same w (codes "DIV") then Some DivWord else
    if is_same w (codes "DO") then Some DoWord else
    if is_same w (codes "ELSE") then Some ElseWord else
    if is_same w (codes "ELSIF") then Some ElsifWord else
    if is_same w (codes "END") then Some EndWord else
    if is_same w (codes "FALSE") then Some FalseWord else
    if is_same w (codes "FOR") then Some ForWord else
    if is_same w (codes "IF") then Some IfWord else
    if is_same w (codes "IMPORT") then Some ImportWord else
    if is_same w (codes "IN") then Some InWord else
    if is_same w (codes "IS") then Some IsWord else
    if is_same w (codes "MOD") then Some ModWord else
    if is_same w (codes "MODULE") then Some ModuleWord else
    if is_same w (codes "NIL") then Some NilWord else
    if is_same w (codes "OF") then Some OfWord else
    if is_same w (codes "OR") then Some OrWord else
    if is_same w (codes "POINTER") then Some PointerWord else
    if is_same w (codes "PROCEDURE") then Some ProcedureWord else
    if is_same w (codes "RECORD") then Some RecordWord else
    if is_same w (codes "REPEAT") then Some RepeatWord else
    if is_same w (codes "RETURN") then Some ReturnWord else
    if is_same w (codes "THEN") then Some ThenWord else
    if is_same w (codes "TO") then Some ToWord else
    if is_same w (codes "TRUE") then Some TrueWord else
    if is_same w (codes "TYPE") then Some TypeWord else
    if is_same w (codes "UNTIL") then Some UntilWord else
    if is_same w (codes "VAR") then Some VarWord else
    if is_same w (codes "WHILE") then Some WhileWord else
    None

-- the same, among those words that begin with a letter
abbrev pub reserved_with : ℕ → List ℕ → Option Reserved
reserved_with a w =
    if nat_eq a 65 then (if is_same w (codes "ARRAY") then Some ArrayWord else None) else
    if nat_eq a 66 then (if is_same w (codes "BEGIN") then Some BeginWord else if is_same w (codes "BY") then Some ByWord else None) else
    if nat_eq a 67 then (if is_same w (codes "CASE") then Some CaseWord else if is_same w (codes "CONST") then Some ConstWord else None) else
    if nat_eq a 68 then (if is_same w (codes "DIV") then Some DivWord else if is_same w (codes "DO") then Some DoWord else None) else
    if nat_eq a 69 then (if is_same w (codes "ELSE") then Some ElseWord else if is_same w (codes "ELSIF") then Some ElsifWord else if is_same w (codes "END") then Some EndWord else None) else
    if nat_eq a 70 then (if is_same w (codes "FALSE") then Some FalseWord else if is_same w (codes "FOR") then Some ForWord else None) else
    if nat_eq a 73 then (if is_same w (codes "IF") then Some IfWord else if is_same w (codes "IMPORT") then Some ImportWord else if is_same w (codes "IN") then Some InWord else if is_same w (codes "IS") then Some IsWord else None) else
    if nat_eq a 77 then (if is_same w (codes "MOD") then Some ModWord else if is_same w (codes "MODULE") then Some ModuleWord else None) else
    if nat_eq a 78 then (if is_same w (codes "NIL") then Some NilWord else None) else
    if nat_eq a 79 then (if is_same w (codes "OF") then Some OfWord else if is_same w (codes "OR") then Some OrWord else None) else
    if nat_eq a 80 then (if is_same w (codes "POINTER") then Some PointerWord else if is_same w (codes "PROCEDURE") then Some ProcedureWord else None) else
    if nat_eq a 82 then (if is_same w (codes "RECORD") then Some RecordWord else if is_same w (codes "REPEAT") then Some RepeatWord else if is_same w (codes "RETURN") then Some ReturnWord else None) else
    if nat_eq a 84 then (if is_same w (codes "THEN") then Some ThenWord else if is_same w (codes "TO") then Some ToWord else if is_same w (codes "TRUE") then Some TrueWord else if is_same w (codes "TYPE") then Some TypeWord else None) else
    if nat_eq a 85 then (if is_same w (codes "UNTIL") then Some UntilWord else None) else
    if nat_eq a 86 then (if is_same w (codes "VAR") then Some VarWord else None) else
    if nat_eq a 87 then (if is_same w (codes "WHILE") then Some WhileWord else None) else
    None

-- the first byte of a written mark, and its second
abbrev pub first : List ℕ → ℕ
first [] = 0
first (a ∷ w) = a

abbrev pub second : List ℕ → ℕ
second [] = 0
second (a ∷ w) = first w

-- the operator or delimiter of one byte
abbrev pub one_mark : ℕ → Option Delimiter
one_mark a =
    if nat_eq a (first (codes "+")) then Some Plus else
    if nat_eq a (first (codes "-")) then Some Minus else
    if nat_eq a (first (codes "*")) then Some Times else
    if nat_eq a (first (codes "/")) then Some Slash else
    if nat_eq a (first (codes "~")) then Some Tilde else
    if nat_eq a (first (codes "&")) then Some Ampersand else
    if nat_eq a (first (codes ".")) then Some Period else
    if nat_eq a (first (codes ",")) then Some Comma else
    if nat_eq a (first (codes ";")) then Some Semicolon else
    if nat_eq a (first (codes "|")) then Some Bar else
    if nat_eq a (first (codes "(")) then Some LeftParen else
    if nat_eq a (first (codes "[")) then Some LeftBracket else
    if nat_eq a (first (codes "{")) then Some LeftBrace else
    if nat_eq a (first (codes "^")) then Some Arrow else
    if nat_eq a (first (codes "=")) then Some Equal else
    if nat_eq a (first (codes "#")) then Some NotEqual else
    if nat_eq a (first (codes "<")) then Some Less else
    if nat_eq a (first (codes ">")) then Some Greater else
    if nat_eq a (first (codes ":")) then Some Colon else
    if nat_eq a (first (codes ")")) then Some RightParen else
    if nat_eq a (first (codes "]")) then Some RightBracket else
    if nat_eq a (first (codes "}")) then Some RightBrace else
    None

-- the operator or delimiter of two bytes
abbrev pub two_mark : ℕ → ℕ → Option Delimiter
two_mark a b =
    if nat_eq a (first (codes ":=")) && nat_eq b (second (codes ":=")) then Some Becomes else
    if nat_eq a (first (codes "<=")) && nat_eq b (second (codes "<=")) then Some LessEqual else
    if nat_eq a (first (codes ">=")) && nat_eq b (second (codes ">=")) then Some GreaterEqual else
    if nat_eq a (first (codes "..")) && nat_eq b (second (codes "..")) then Some Range else
    None

-- the operator or delimiter that a word is, whole
abbrev pub mark_of : List ℕ → Option Delimiter
mark_of [] = None
mark_of (a ∷ []) = one_mark a
mark_of (a ∷ b ∷ []) = two_mark a b
mark_of (a ∷ b ∷ c ∷ w) = None
