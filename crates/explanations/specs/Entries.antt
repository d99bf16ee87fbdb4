-- What a page says, and how it is laid out.
use Rattle.std.specs.Prelude.{ℕ, List, [], ◌∷◌, ◌++◌, codes, slice_index_or}
use Rattle.std.specs.Fmt.{decimal}
use Rattle.explanations.specs.declared.entry.Entry.{Entry as Referred}
use Rattle.explanations.specs.declared.kind.Kind.{Kind}
use Rattle.explanations.specs.declared.kind.Kind.TheVariants.{Fault, Limit, Trap, ImageRule, NotesRule, ObjectRule}

-- the texts of a page
pub record Entry : Type 0 where
  pub name : List ℕ
  pub title : List ℕ
  pub more : List ℕ
  pub example : List ℕ
  pub session : List ℕ
  pub mended : List ℕ

-- those that code refers to
abbrev pub plain : Referred → Entry
plain e = record { name = e.name.now; title = e.title.now; more = e.more.now; example = e.example.now; session = e.session.now; mended = e.mended.now }

-- those of a list, in their order
abbrev pub entry_with : List (List ℕ) → Entry
entry_with texts = record {
  name = slice_index_or texts 0 [];
  title = slice_index_or texts 1 [];
  more = slice_index_or texts 2 [];
  example = slice_index_or texts 3 [];
  session = slice_index_or texts 4 [];
  mended = slice_index_or texts 5 [];
}

-- how a kind of number is called
abbrev pub kind_word : Kind → List ℕ
kind_word Fault = codes "fault"
kind_word Limit = codes "limit"
kind_word Trap = codes "trap"
kind_word ImageRule = codes "image rule"
kind_word NotesRule = codes "notes rule"
kind_word ObjectRule = codes "object rule"

-- a page's first line: its kind, number, name and title
abbrev pub heading : Kind → ℕ → Entry → List ℕ
heading kind number e = kind_word kind ++ codes " " ++ decimal number ++ codes " " ++ e.name ++ codes ": " ++ e.title ++ 10 ∷ []

-- a text as a paragraph, behind an empty line
abbrev pub paragraph : List ℕ → List ℕ
paragraph text = 10 ∷ [] ++ text ++ 10 ∷ []

-- a whole page
abbrev pub page_text : Kind → ℕ → Entry → List ℕ
page_text kind number e =
    heading kind number e ++ paragraph e.more ++ paragraph e.example ++ paragraph e.session ++ paragraph (codes "Mended:") ++ paragraph e.mended
