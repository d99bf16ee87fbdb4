-- Arrays, the innermost of which is made first.
use Rattle.std.proofs.Common.{◌≡◌, ℕ, zero, suc, ◌+◌, ◌<◌, ◌≤◌, List, [], ◌∷◌, length, drop, get_or, true, false, Ok, Err, sym, ap, ◌∙◌}
use Rattle.std.proofs.lemmas.List.{drop_more}
use Rattle.std.specs.Prelude.{min, nat_le}
use Rattle.ob_judge.specs.Judged.{Judged, Keeps, Breaks, ◌>>=◌, ◌>>◌, rule}
use Rattle.ob_judge.specs.Shapes.{Shape, Array, cells}
use Rattle.ob_judge.specs.Scopes.{Source, World, place}
use Rattle.ob_judge.specs.Making.{Making}
use Rattle.ob_judge.specs.Types.{arrays, limit}
use Rattle.check_types.specs.steps.Answers.{Answers}
use Rattle.check_types.specs.declared.steps.fault.CheckFault.{CheckFault}
use Rattle.check_types.proofs.steps.Answering.{stop}
use Rattle.check_types.specs.declared.types.TypeRef.{TypeRef}
use Rattle.check_types.specs.TypeMeaning.{type_shape}
use Rattle.check_types.specs.Known.{known_of}
use Rattle.table_builder.specs.Cells.{most_cells}
use Rattle.check_making.specs.declared.making.Declaring.{Declaring}
use Rattle.check_making.specs.declared.making.Surroundings.{Surroundings}
use Rattle.check_making.specs.Making.{table_of, Makes, IsTypeOf}
use Rattle.check_making.proofs.parameters.Answering.{refused}
use Rattle.check_making.specs.new_types.Arrays.{array_within}
use Rattle.check_making.proofs.new_types.Cells.{few_cells, many_cells}

module _ (p : Source) (w : World) where
  -- what is refused further in is refused
  pub arrays_stop : {B B' : Type 0} {R : B → Shape → Type 0} {S : B' → Shape → Type 0} {e : CheckFault} (at : ℕ) (ns : List ℕ) (i : ℕ) (s : Shape) → Answers R (arrays at (drop i ns) s w) (Err e) → Answers S (arrays at ns s w) (Err e)
  arrays_stop at [] zero s h = refused h
  arrays_stop at [] (suc i) s h = refused h
  arrays_stop at (n ∷ ns) zero s h = refused h
  arrays_stop {R = R} at (n ∷ ns) (suc i) s h = stop {R = R} (arrays at ns s w) _ (arrays_stop {S = R} at ns i s h)

-- ---- whether an array has few enough cells
module _ (r : Surroundings) (s : Declaring) (m : Making) (makes : Makes r s m) (k : TypeRef) (a : Shape) (is : type_shape (table_of s) k ≡ a) (n : ℕ) (count : n ≡ min most_cells (cells (known_of s.types.table) (type_shape (table_of s) k))) where
  same : nat_le (cells m.world.known a) limit ≡ nat_le (cells (known_of s.types.table) (type_shape (table_of s) k)) limit
  same = ap (λ (w : World). nat_le (cells w.known a) limit) makes.world ∙ ap (λ z. nat_le (cells (known_of s.types.table) z) limit) (sym is)

  pub type_fits : n ≤ 1048576 → nat_le (cells m.world.known a) limit ≡ true
  type_fits l = same ∙ few_cells n (cells (known_of s.types.table) (type_shape (table_of s) k)) count l

  pub type_past : 1048576 < n → nat_le (cells m.world.known a) limit ≡ false
  type_past l = same ∙ many_cells n (cells (known_of s.types.table) (type_shape (table_of s) k)) count l

pub within_past : (p : Source) (i n : ℕ) (a : Shape) (w : World) → nat_le (cells w.known (Array n a)) limit ≡ false → array_within p i n a w ≡ Breaks 35 (place p i)
within_past p i n a w e = ap (λ b. rule 35 (place p i) b >> Keeps (Array n a)) e

-- one array more round those that were made
pub arrays_from : (p : Source) (word : ℕ) (w : World) (ns : List ℕ) (i : ℕ) (s inner : Shape) → i < length ns → arrays (place p word) (drop (i + 1) ns) s w ≡ Keeps inner
    → arrays (place p word) (drop i ns) s w ≡ array_within p word (get_or ns i 0) inner w
arrays_from p word w ns i s inner l h =
    ap (λ xs. arrays (place p word) xs s w) (drop_more ns i 0 l)
    ∙ ap (λ j. j >>= λ (a : Shape). rule 35 (place p word) (nat_le (cells w.known (Array (get_or ns i 0) a)) limit) >> Keeps (Array (get_or ns i 0) a)) h

pub type_comes : {t : Declaring} {k : TypeRef} (j : Judged Shape) → Answers (IsTypeOf t) j (Ok k) → j ≡ Keeps (type_shape (table_of t) k)
type_comes (Keeps a) h = ap Keeps (sym (h.by).shape_is)
type_comes (Breaks n at) h = absurd h.by
