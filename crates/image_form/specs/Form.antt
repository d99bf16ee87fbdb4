-- The form of an image.
use Rattle.std.specs.Prelude.{◌≡◌, ◌⊎◌, ◌≤◌, ◌<◌, ◌%◌, [], length}
use Rattle.image_form.specs.declared.image.Image.{Image}
use Rattle.image_form.specs.Places.{RiseBelow}

-- version 1 says nothing of procedures, and has smaller frames
pub record IsVersionOne (image : Image) : Type 0 where
  pub version : image.version ≡ 1
  pub frame : image.frame ≤ 32768
  pub places : image.places ≡ []

-- version 2 has the places of at most 4,096 procedures, whose words rise
pub record IsVersionTwo (image : Image) : Type 0 where
  pub version : image.version ≡ 2
  pub some_places : 1 ≤ length image.places
  pub few_places : length image.places ≤ 4096
  pub places : RiseBelow (length image.code) 0 image.places

-- the version is 1 or 2, one flag alone may be set, there is some code, each part is within its greatest size, and all but
-- the code and the places are of whole cells of eight bytes
pub record IsInForm (image : Image) : Type 0 where
  pub version : IsVersionOne image ⊎ IsVersionTwo image
  pub flags : image.flags < 2
  pub some_code : 1 ≤ length image.code
  pub code : length image.code ≤ 262144
  pub globals : image.globals ≤ 8388608
  pub constants : length image.constants ≤ 2097152
  pub frame : image.frame ≤ 65536
  pub whole_globals : image.globals % 8 ≡ 0
  pub whole_constants : length image.constants % 8 ≡ 0
  pub whole_frame : image.frame % 8 ≡ 0
