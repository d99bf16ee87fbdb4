-- What a page tells of the choice, the image and the files.
use Rattle.std.specs.Prelude.{ℕ, List, [], ◌++◌, codes, flat_map, length, Option, Some, None}
use Rattle.html_text.specs.Escapes.{escaped}
use Rattle.image_form.specs.declared.image.Image.{Image}
use Rattle.trace_build.specs.declared.builder.Builder.{Builder}
use Rattle.trace_build.specs.declared.builder.Builder.TheVariants.{Uni, Bi}
use Rattle.alloc_choice.specs.declared.choice.Choice.{Choice}
use Rattle.alloc_choice.specs.declared.choice.Policy.{Policy}
use Rattle.alloc_choice.specs.declared.choice.Policy.TheVariants.{Plain, Linear, BottomUp, Mixed}
use Rattle.page_rows.specs.Rows.{labelled}
use Rattle.whole_page.specs.Frames.{hint, sum_open}

-- the words of policies and of builders
unfoldable pub policy_name : Policy → List ℕ
policy_name Plain = codes "plain"
policy_name Linear = codes "linear"
policy_name BottomUp = codes "bottomup"
policy_name Mixed = codes "mixed"

unfoldable pub builder_name : Builder → List ℕ
builder_name Uni = codes "uni"
builder_name Bi = codes "bi"

-- the names of files, a blank behind each
unfoldable pub file_text : List ℕ → List ℕ
file_text name = escaped name ++ codes " "

abbrev pub files_text : List (List ℕ) → List ℕ
files_text names = flat_map file_text names

unfoldable pub policy_text : Policy → List ℕ
policy_text policy = codes "policy " ++ policy_name policy

unfoldable pub builder_text : Builder → List ℕ
builder_text builder = codes ", traces " ++ builder_name builder

unfoldable pub registers_text : ℕ → List ℕ
registers_text registers = labelled (codes ", ") registers (codes " registers")

unfoldable pub choice_text : Choice → List ℕ
choice_text choice = policy_text choice.policy ++ (builder_text choice.builder ++ registers_text choice.regs)

unfoldable pub words_text : ℕ → List ℕ
words_text words = labelled (codes "; ") words (codes " words of code")

unfoldable pub frame_text : ℕ → List ℕ
frame_text bytes = labelled (codes ", frame ") bytes (codes " bytes")

unfoldable pub image_text : Image → List ℕ
image_text image = words_text (length image.code) ++ frame_text image.frame

unfoldable pub other_text : Option Policy → List ℕ
other_text None = []
other_text (Some policy) = codes "; against " ++ policy_text policy

-- the line below the page's heading, and the header's end
unfoldable pub choices_text : Choice → Option Policy → Image → List ℕ
choices_text choice other image = sum_open ++ (choice_text choice ++ (image_text image ++ (other_text other ++ hint)))
