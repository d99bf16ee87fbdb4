-- The page of a program.
use Rattle.std.specs.Prelude.{◌≡◌, ◌<◌, ◌≤◌, ℕ, List, ◌++◌, codes, length, Option, Some, None, Vec}
use Rattle.std.specs.Global.{Global}
use Rattle.std.specs.Option.{is_some}
use Rattle.image_form.specs.declared.image.Image.{Image}
use Rattle.alloc_choice.specs.declared.choice.Choice.{Choice}
use Rattle.alloc_choice.specs.declared.choice.Policy.{Policy}
use Rattle.whole_page.specs.Choices.{choices_text, files_text}
use Rattle.whole_page.specs.Frames.{beginning, marker, script, style}
use Rattle.whole_page.specs.Views.{View}
use Rattle.whole_page.specs.Rows.{rows_of}
use Rattle.whole_page.specs.Summaries.{summary_text}
use Rattle.whole_page.specs.Sections.{sections_text}

-- up to the heading of the page, with the names of its files
unfoldable pub title_text : (names : List (List ℕ)) → List ℕ
title_text names = beginning ++ (files_text names ++ (style ++ (marker ++ (files_text names ++ codes "</h1>"))))

-- the header
unfoldable pub header_text : (names : List (List ℕ)) → Choice → Option Policy → Image → List ℕ
header_text names choice policy image = title_text names ++ choices_text choice policy image

-- with the table that sums up
unfoldable pub front_text : (names texts : List (List ℕ)) → Choice → Option Policy → Image → View → Option View → List ℕ
front_text names texts choice policy image own other = header_text names choice policy image ++ summary_text texts own.places (rows_of own other) (is_some other)

-- the sections
unfoldable pub back_text : (texts : List (List ℕ)) → View → Option View → List ℕ
back_text texts own other = sections_text texts own other (rows_of own other) ++ script

unfoldable pub page_text : (names texts : List (List ℕ)) → Choice → Option Policy → Image → View → Option View → List ℕ
page_text names texts choice policy image own other = front_text names texts choice policy image own other ++ back_text texts own other

-- the most bytes of a page
abbrev pub most_bytes : ℕ
most_bytes = 67108864

-- bytes are the page, or there are none, since it is too long
abbrev pub IsPage : List ℕ → Option (Vec ℕ Global) → Type 0
IsPage text (Some page) = (page.items ≡ text) × (length page.items ≤ most_bytes)
IsPage text None = most_bytes < length text
