-- The module that is made of a seed and a size. Each line ends with byte 10.
use Rattle.std.specs.Prelude.{ℕ, zero, suc, ◌+◌, ◌-◌, ◌*◌, ◌/◌, ◌%◌, ◌^◌, List, [], ◌∷◌, ◌++◌, codes, decimal}
use Rattle.bulk_text.specs.declared.statement.Kind.{Kind}
use Rattle.bulk_text.specs.declared.statement.Kind.TheVariants.{Scale, Choose, Repeat, Divide}

abbrev pub line : List ℕ → List ℕ
line bytes = bytes ++ 10 ∷ []

---- The generator: a linear congruential one of 64 bits, of which a draw gives the upper 31

abbrev pub next : ℕ → ℕ
next x = (x * 6364136223846793005 + 1442695040888963407) % 2 ^ 64

abbrev pub drawn : ℕ → ℕ
drawn x = x / 2 ^ 33

---- Statements

-- of a kind, with a number
abbrev pub statement_text : Kind → ℕ → List ℕ
statement_text Scale k = codes "c := c * " ++ decimal k ++ codes " + d;"
statement_text Choose k = codes "IF c < d THEN c := d - " ++ (decimal k ++ (codes " ELSE d := d + " ++ (decimal k ++ codes " END;")))
statement_text Repeat k = codes "i := 0; WHILE i < " ++ decimal k ++ codes " DO c := c + d; i := i + 1 END;"
statement_text Divide k = codes "d := d DIV " ++ (decimal k ++ (codes " + c MOD " ++ (decimal k ++ codes ";")))

abbrev pub kind_of : ℕ → Kind
kind_of zero = Scale
kind_of (suc zero) = Choose
kind_of (suc (suc zero)) = Repeat
kind_of _ = Divide

-- the kind is drawn first, and then the number, 1 to 16
unfoldable pub statement : ℕ → List ℕ
statement x = line (statement_text (kind_of (drawn (next x) % 4)) (drawn (next (next x)) % 16 + 1))

-- the generator behind a statement
unfoldable pub behind_statement : ℕ → ℕ
behind_statement x = next (next x)

abbrev pub statements : ℕ → ℕ → List ℕ
statements zero x = []
statements (suc n) x = statement x ++ statements n (behind_statement x)

abbrev pub behind_statements : ℕ → ℕ → ℕ
behind_statements zero x = x
behind_statements (suc n) x = behind_statements n (behind_statement x)

---- Procedures

abbrev pub heading : ℕ → List ℕ
heading i = line (codes "PROCEDURE P" ++ decimal i ++ codes "(a, b: INTEGER): INTEGER; VAR c, d, i: INTEGER; BEGIN c := a; d := b;")

-- each but the first calls the one before it
abbrev pub ending : ℕ → List ℕ
ending zero = line (codes "RETURN c + d END P0;")
ending (suc j) = line (codes "RETURN P" ++ (decimal j ++ (codes "(c, d) END P" ++ (decimal (suc j) ++ codes ";"))))

unfoldable pub procedure : ℕ → ℕ → List ℕ
procedure i x = heading i ++ statements 8 x ++ ending i

unfoldable pub behind_procedure : ℕ → ℕ
behind_procedure x = behind_statements 8 x

-- so many procedures, the first of number i
abbrev pub procedures : ℕ → ℕ → ℕ → List ℕ
procedures i zero x = []
procedures i (suc n) x = procedure i x ++ procedures (suc i) n (behind_procedure x)

-- the generator behind so many procedures
abbrev pub behind_procedures : ℕ → ℕ → ℕ
behind_procedures zero x = x
behind_procedures (suc n) x = behind_procedures n (behind_procedure x)

---- The module

abbrev pub body : ℕ → List ℕ
body size = line (codes "BEGIN Out.Int(P" ++ decimal (size - 1) ++ codes "(1, 2), 0); Out.Ln END Bulk.")

unfoldable pub bulk_text : ℕ → ℕ → List ℕ
bulk_text seed size = line (codes "MODULE Bulk; IMPORT Out;") ++ procedures 0 size seed ++ body size
