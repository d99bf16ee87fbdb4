-- The head of a procedure's section.
use Rattle.std.specs.Prelude.{ℕ, List, [], ◌++◌, codes, Option, Some, None}
use Rattle.image_form.specs.declared.image.ProcPlace.{ProcPlace}
use Rattle.page_rows.specs.Headings.{heading_at, lines_at}
use Rattle.page_rows.specs.Rows.{detail_note, labelled}
use Rattle.page_rows.specs.declared.row.Row.{Row}
use Rattle.page_rows.specs.declared.traffic.Traffic.{Traffic}

-- what opens the section of a procedure
unfoldable pub section_open : ℕ → List ℕ
section_open number = labelled (codes "<section id=\"p") number (codes "\"><h2>")

unfoldable pub title_text : (number : ℕ) → (heading : List ℕ) → List ℕ
title_text number heading = section_open number ++ (heading ++ codes "</h2>")

-- where it stands: its number, its module's, and its line
unfoldable pub number_text : ℕ → List ℕ
number_text number = labelled (codes "<p class=\"sum\">procedure ") number (codes ", ")

unfoldable pub place_text : (number : ℕ) → ProcPlace → List ℕ
place_text number place = number_text number ++ (labelled (codes "module ") place.«module» (codes " line ") ++ labelled [] place.line (codes ": "))

unfoldable pub size_text : Row → List ℕ
size_text row = labelled [] row.blocks (codes " blocks, ") ++ (labelled [] row.values (codes " values, ") ++ labelled [] row.traces (codes " traces; "))

unfoldable pub traffic_text : Traffic → List ℕ
traffic_text t = labelled [] t.stores (codes " stores, ") ++ (labelled [] t.loads (codes " loads, ") ++ labelled [] t.moves (codes " moves"))

unfoldable pub against_text : Option Traffic → List ℕ
against_text None = []
against_text (Some t) = codes "; against " ++ traffic_text t

-- the sum of a procedure
unfoldable pub sum_text : ProcPlace → Row → List ℕ
sum_text place row =
    place_text row.number place ++ (size_text row ++ (traffic_text row.traffic ++ (against_text row.other ++ (detail_note row.detail ++ codes "</p>\n"))))

-- its heading, its sum and its lines
unfoldable pub head_text : List (List ℕ) → List ProcPlace → ProcPlace → Row → List ℕ
head_text texts places place row = title_text row.number (heading_at texts place) ++ (sum_text place row ++ lines_at texts places place)
