-- The bytes of an image. All numbers have four bytes, the lowest first.
use Rattle.std.specs.Prelude.{ℕ, ◌<◌, ◌^◌, ◌==◌, List, [], ◌∷◌, ◌++◌, length, codes, if◌then◌else◌}
use Rattle.std.specs.List.{flat_map}
use Rattle.std.specs.Int.{w32, to_le_bytes}
use Rattle.image_form.specs.declared.image.Image.{Image}
use Rattle.image_form.specs.declared.image.ProcPlace.{ProcPlace}

abbrev pub mark : List ℕ
mark = codes "TRC64IMG"

abbrev pub number : ℕ → List ℕ
number n = to_le_bytes w32 n

-- what a version says behind the frame: version 2 the number of places
abbrev pub places_said : ℕ → List ProcPlace → List ℕ
places_said version places = if version == 2 then number (length places) else []

-- how long the parts behind it are, and what no part says
abbrev pub header : Image → List ℕ
header image =
    mark ++ number image.version ++ number image.flags ++ number (length image.code) ++ number image.globals ++ number (length image.constants) ++ number image.frame
    ++ places_said image.version image.places

-- the numbers of places, three for each
abbrev pub numbers_of : ProcPlace → List ℕ
numbers_of place = place.word ∷ place.«module» ∷ place.line ∷ []

abbrev pub place_numbers : List ProcPlace → List ℕ
place_numbers places = flat_map numbers_of places

unfoldable pub image_bytes : Image → List ℕ
image_bytes image = header image ++ flat_map number image.code ++ image.constants ++ flat_map number (place_numbers image.places)

-- numbers of 32 bits
abbrev pub AreWords : List ℕ → Type 0
AreWords [] = Unit {0}
AreWords (word ∷ words) = (word < 2 ^ 32) × AreWords words

-- code words and the numbers of places have 32 bits
pub record IsOfWords (image : Image) : Type 0 where
  pub code : AreWords image.code
  pub places : AreWords (place_numbers image.places)

-- the same image in version 1, which says nothing of procedures
abbrev pub in_version_one : Image → Image
in_version_one image = record image { version = 1; places = [] }
