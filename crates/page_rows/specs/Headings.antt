-- The headings of procedures, by their places in texts.
use Rattle.std.specs.Prelude.{ℕ, List, [], slice_index_or}
use Rattle.image_form.specs.declared.image.ProcPlace.{ProcPlace}
use Rattle.page_parts.specs.Excerpts.{heading_text, source_text}
use Rattle.page_parts.specs.Sources.{behind_all, next_heading}

-- the place of a procedure
abbrev pub no_place : ProcPlace
no_place = record { word = 0; «module» = 0; line = 0 }

abbrev pub place_at : List ProcPlace → ℕ → ProcPlace
place_at places p = slice_index_or places p no_place

-- the text of a module
abbrev pub text_at : List (List ℕ) → ℕ → List ℕ
text_at texts m = slice_index_or texts m []

-- the heading of the procedure at a place
unfoldable pub heading_at : List (List ℕ) → ProcPlace → List ℕ
heading_at texts place = heading_text (text_at texts place.«module») place.line

-- its lines: up to the next heading of a procedure of its module, or to the text's end
unfoldable pub lines_at : List (List ℕ) → List ProcPlace → ProcPlace → List ℕ
lines_at texts places place =
    let text = text_at texts place.«module» in source_text text place.line (next_heading places place.«module» place.line (behind_all text))
