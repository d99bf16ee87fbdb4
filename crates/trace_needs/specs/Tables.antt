-- What is noted position by position, and for each value the positions at which it is noted.
use Rattle.std.specs.Prelude.{ℕ, nat_lt, ◌+◌, ◌==◌, Bool, true, false, cond, List, [], ◌∷◌, ◌++◌, Option, Some, None}
use Rattle.trace_needs.specs.Needs.{Position}
use Rattle.trace_needs.specs.declared.notes.Note.{Note}
use Rattle.trace_needs.specs.declared.table.Table.{Table}

---- Notes

abbrev pub noted : ℕ → ℕ → List Note → List Note
noted v p notes = notes ++ record { value = v; position = p } ∷ []

abbrev pub noted_all : List ℕ → ℕ → List Note → List Note
noted_all [] p notes = notes
noted_all (v ∷ vs) p notes = noted_all vs p (noted v p notes)

abbrev pub one_if : Bool → ℕ → List ℕ
one_if b v = cond b (v ∷ []) []

-- what of a position is noted
abbrev pub needed : Position → List ℕ
needed p = p.needs

abbrev pub mentioned : Position → List ℕ
mentioned p = p.mentions

-- these values are noted at the position that is being passed
abbrev pub with_notes : List ℕ → Table → Table
with_notes vs t = record { at = t.at; notes = noted_all vs t.at t.notes }

-- behind a position, of which a part is noted
abbrev pub passed : (Position → List ℕ) → Position → Table → Table
passed part p t = record { at = t.at + 1; notes = noted_all (part p) t.at t.notes }

abbrev pub passed_all : (Position → List ℕ) → List Position → Table → Table
passed_all part [] t = t
passed_all part (p ∷ ps) t = passed_all part ps (passed part p t)

abbrev pub no_notes : Table
no_notes = record { at = 0; notes = [] }

---- Rows

-- the positions at which a value is noted
abbrev pub row_in : List Note → ℕ → List ℕ
row_in [] v = []
row_in (n ∷ ns) v = cond (n.value == v) (n.position ∷ row_in ns v) (row_in ns v)

-- a note comes before a value's note at a position, in order of values and then of positions
abbrev pub is_before : ℕ → ℕ → Note → Bool
is_before v p n = cond (nat_lt n.value v) true (cond (n.value == v) (nat_lt n.position p) false)

-- the position of a note, if it speaks of a value
abbrev pub position_of : ℕ → Note → Option ℕ
position_of v n = cond (n.value == v) (Some n.position) None
