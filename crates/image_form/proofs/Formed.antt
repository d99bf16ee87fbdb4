-- What holds of images in form in both versions.
use Rattle.std.proofs.Common.{◌≡◌, ◌≤◌, inl, inr, List, length, sym, ap, subst, arith}
use Rattle.image_form.specs.declared.image.Image.{Image}
use Rattle.image_form.specs.declared.image.ProcPlace.{ProcPlace}
use Rattle.image_form.specs.Places.{RiseBelow}
use Rattle.image_form.specs.Form.{IsInForm}

pub places_rise : (image : Image) → IsInForm image → RiseBelow (length image.code) 0 image.places
places_rise image form =
    elim form.version [
      | inl one ↦ subst (λ (places : List ProcPlace). RiseBelow (length image.code) 0 places) (sym one.places) tt
      | inr two ↦ two.places
    ]

pub few_places : (image : Image) → IsInForm image → length image.places ≤ 4096
few_places image form =
    elim form.version [
      | inl one ↦ let none : length image.places ≡ 0 = ap (λ (places : List ProcPlace). length places) one.places in omega (arith, none)
      | inr two ↦ two.few_places
    ]
