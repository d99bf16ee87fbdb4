-- The record type that a type has by value, and the cells and bytes of types, while record types are added and completed.
use Rattle.std.proofs.Common.{◌≡◌, ℕ, ◌+◌, ◌*◌, List, [], ◌∷◌, ◌++◌, refl, ap, sym, ◌∙◌, arith}
use Rattle.std.specs.Prelude.{slice_get}
use Rattle.ob_types.specs.Trees.{in_a_row, with_part}
use Rattle.ob_types.specs.declared.types.Extent.{Extent}
use Rattle.ob_judge.specs.Shapes.{Shape, Array, Record, Added, Layout, Known, cells_of, cells, extent_in, extent}
use Rattle.judged_modules.specs.Agrees.{records_of}
use Rattle.judged_modules.proofs.Lists.{get_within}
use Rattle.judged_modules.proofs.Growing.{Grows}
use Rattle.judged_modules.specs.Lines.{AllLines, IsLine, unknown, root, behind}
use Rattle.judged_programs.specs.LegalTable.{cells_with, extent_with}
use Rattle.judged_programs.specs.Complete.{IsComplete, HasCore, IsKnown, CompleteStay}
use Rattle.ob_judge.specs.Making.{Making}
use Rattle.judged_programs.specs.Ranked.{cells_of_all, counted, inherited, measured, with_all, extended}

pub complete_later : (records more : List Layout) → CompleteStay records more → (r : ℕ) → IsComplete records r → IsComplete more r
complete_later records more later r h = record { layout = h.layout; there = later r h ∙ h.there; ended = h.ended }

pub known_later : (records more : List Layout) → CompleteStay records more → (a : Shape) → IsKnown records a → IsKnown more a
known_later records more later a h = record { whole = h.whole; core_there = λ r is. complete_later records more later r (h.core_there r is) }

pub grown_later : (s t : Making) → Grows s t → CompleteStay (records_of s) (records_of t)
grown_later s t g r h = g.records r (get_within (records_of s) r h.layout h.there)

-- ---- cells

pub cells_are : (known : Known) (a : Shape) → cells known a ≡ cells_with (counted known.records) a
cells_are known (Array n a) = ap (λ c. n * c) (cells_are known a)
cells_are known a = refl

pub cells_same : (records more : List Layout) → CompleteStay records more → (a : Shape) → HasCore records a → cells_with (counted more) a ≡ cells_with (counted records) a
cells_same records more later (Array n a) h = ap (λ c. n * c) (cells_same records more later a h)
cells_same records more later (Record r) h = ap cells_of (later r (h r refl))
cells_same records more later a h = refl

pub cells_of_more : (of : ℕ → ℕ) (xs : List Added) (y : Added) → cells_of_all of (xs ++ y ∷ []) ≡ cells_of_all of xs + cells_with of y.shape
cells_of_more of [] y = omega arith
cells_of_more of (x ∷ xs) y =
    let h = cells_of_more of xs y in
    let e : cells_with of x.shape + (cells_of_all of xs + cells_with of y.shape) ≡ cells_with of x.shape + cells_of_all of xs + cells_with of y.shape = omega arith in
    ap (λ c. cells_with of x.shape + c) h ∙ e

-- ---- bytes

pub extents_are : (known : Known) (a : Shape) → extent known a ≡ extent_with (measured known.records) a
extents_are known (Array n a) = ap (in_a_row n) (extents_are known a)
extents_are known a = refl

pub extents_same : (records more : List Layout) → CompleteStay records more → (a : Shape) → HasCore records a → extent_with (measured more) a ≡ extent_with (measured records) a
extents_same records more later (Array n a) h = ap (in_a_row n) (extents_same records more later a h)
extents_same records more later (Record r) h = ap extent_in (later r (h r refl))
extents_same records more later a h = refl

pub with_one_more : (of : ℕ → Extent) (xs : List Added) (y : Added) (e : Extent) → with_all of e (xs ++ y ∷ []) ≡ with_part (with_all of e xs) (extent_with of y.shape)
with_one_more of [] y e = refl
with_one_more of (x ∷ xs) y e = with_one_more of xs y (with_part e (extent_with of x.shape))

-- ---- the lines of record types

pub head_same : (x y : ℕ) (xs ys : List ℕ) → x ∷ xs ≡ y ∷ ys → (x ≡ y) × (xs ≡ ys)
head_same x y xs ys e = (let z = e in cc, let z = e in cc)

-- a line begins with its record type
pub line_head : (records : List Layout) (r : ℕ) (line : List ℕ) → IsLine records r line → (x : ℕ) (more : List ℕ) → line ≡ x ∷ more → x ≡ r
line_head records r line (unknown e) x more is = absurd (let z = sym e ∙ is in cc)
line_head records r line (root e) x more is = (head_same x r more [] (sym is ∙ e)).0
line_head records r line (behind b l at some e) x more is = (head_same x r more l.line (sym is ∙ e)).0

-- a base is complete
pub base_complete : (records : List Layout) → AllLines records → (r : ℕ) (line : List ℕ) → IsLine records r line → (x b : ℕ) (more : List ℕ) → line ≡ x ∷ b ∷ more → IsComplete records b
base_complete records all r line (unknown e) x b more is = absurd (let z = sym e ∙ is in cc)
base_complete records all r line (root e) x b more is = absurd (let z = (head_same x r (b ∷ more) [] (sym is ∙ e)).1 in cc)
base_complete records all r line (behind c l at some e) x b more is =
    let k = head_same x r (b ∷ more) l.line (sym is ∙ e) in
    let same : b ≡ c = line_head records c l.line (all c l at) b more (sym k.1) in
    record { layout = l; there = ap (slice_get records) same ∙ at; ended = some }

pub inherited_same : (records more : List Layout) → CompleteStay records more → AllLines records → (r : ℕ) (line : List ℕ) → IsLine records r line → inherited more line ≡ inherited records line
inherited_same records more later all r line is = by line refl
  where
    by : (zs : List ℕ) → line ≡ zs → inherited more zs ≡ inherited records zs
    by [] e = refl
    by (x ∷ []) e = refl
    by (x ∷ b ∷ zs) e = ap cells_of (later b (base_complete records all r line is x b zs e))

pub extended_same : (records more : List Layout) → CompleteStay records more → AllLines records → (r : ℕ) (line : List ℕ) → IsLine records r line → extended more line ≡ extended records line
extended_same records more later all r line is = by line refl
  where
    by : (zs : List ℕ) → line ≡ zs → extended more zs ≡ extended records zs
    by [] e = refl
    by (x ∷ []) e = refl
    by (x ∷ b ∷ zs) e = ap extent_in (later b (base_complete records all r line is x b zs e))
