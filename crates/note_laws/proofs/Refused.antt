-- A program passes one limit first where notes are kept, or has notes.
use Rattle.std.proofs.Common.{◌≡◌, ℕ, ◌<◌, ◌≤◌, List, map, length, None, refl, sym, ap, ◌∙◌, subst, arith}
use Rattle.image_form.specs.declared.image.Image.{Image}
use Rattle.image_form.specs.Form.{IsInForm}
use Rattle.ob_types.specs.declared.program.Program.{Program}
use Rattle.ssa_lowered.specs.Limits.{Limit, limit_of}
use Rattle.linked_flows.specs.Allocations.{Cut}
use Rattle.noted_image.specs.words.alloc_choice.declared.choice.Choice.{Choice}
use Rattle.noted_image.specs.audited_allocations.Joined.{joined}
use Rattle.trace_notes.specs.Notes.{notes, most_bytes}
use Rattle.one_lowering.specs.Forms.{HaveOneLowering}
use Rattle.noted_image.specs.words.program_image.Images.{IsProgramImage}
use Rattle.noted_image.specs.Faults.{IsPassedWithNotes, BeforeNotes, ByNotes}
use Rattle.noted_image.specs.Notes.{IsNotedImage}
use Rattle.noted_image.specs.declared.noting.NotedImage.{NotedImage}
use Rattle.noted_image.proofs.words.text_laws.one_refusal.Passed.{first_once, first_apart}

abbrev SameImage : (a b : Choice) (p q : Program) → Type 0
SameImage a b p q = (cuts others : List Cut) (image another : Image) → IsProgramImage a p cuts image → IsProgramImage b q others another → cuts ≡ others

pub backwards : (p q : Program) → HaveOneLowering p q → HaveOneLowering q p
backwards p q h = record {
  procedures = sym h.procedures;
  places = sym h.places;
  globals = sym h.globals;
  constants = λ base. sym (h.constants base);
  limit = sym h.limit;
  imports = sym h.imports;
}

-- the bytes of the notes of results
unfoldable pub notes_length : List Cut → ℕ
notes_length cuts = length (notes (joined (map (λ (c : Cut). c.outs) cuts)))

module _ (a b : Choice) (builder : a.builder ≡ b.builder) (p q : Program) (one : HaveOneLowering p q) (here : SameImage a b p q) (back : SameImage b a q p) where
  pub noted_once : (l m : Limit) → IsPassedWithNotes a p l → IsPassedWithNotes b q m → l ≡ m
  noted_once l m (BeforeNotes _ x) (BeforeNotes _ y) = first_once a b builder p q one l m x y
  noted_once l m (BeforeNotes _ x) (ByNotes h) = absurd (first_apart b a (sym builder) q p (backwards p q one) back h.cuts h.image l h.within h.is h.form x)
  noted_once l m (ByNotes h) (BeforeNotes _ y) = absurd (first_apart a b builder p q one here h.cuts h.image m h.within h.is h.form y)
  noted_once l m (ByNotes h) (ByNotes k) = refl

  -- a program with notes passes none
  pub noted_apart : (cuts : List Cut) (image : Image) (l : Limit) → limit_of p ≡ None → IsProgramImage a p cuts image → IsInForm image → notes_length cuts ≤ most_bytes → IsPassedWithNotes b q l → ⊥
  unfolding notes_length
  noted_apart cuts image l within is form few (BeforeNotes _ y) = first_apart a b builder p q one here cuts image l within is form y
  noted_apart cuts image l within is form few (ByNotes h) =
      let same = ap notes_length (here cuts h.cuts image h.image is h.is) in
      let long = h.long in
      omega (arith, same, few, long)

-- notes that were kept are short
pub few_bytes : (choice : Choice) (p : Program) (made : NotedImage) (is : IsNotedImage choice p made) → notes_length is.cuts ≤ most_bytes
unfolding notes_length
few_bytes choice p made is = let same = ap length is.notes in let few = is.short in omega (arith, same, few)
