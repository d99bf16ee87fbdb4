-- The tables of a procedure that is there, and of one that isn't.
use Rattle.std.proofs.Common.{◌≡◌, ℕ, zero, suc, ◌<◌, ◌≤◌, List, [], ◌∷◌, map, length, get_or, Option, Some, None, refl, ap, ap₂, ◌∙◌, arith}
use Rattle.std.specs.Prelude.{slice_get}
use Rattle.lir_core.specs.declared.flow.Flow.{Flow}
use Rattle.placed_code.specs.Placed.{Placed}
use Rattle.whole_page.specs.Tables.{maybe_tables, shown_of, tables_at, tables_of}
use Rattle.whole_page.specs.Views.{View}

none_at : {X : Type 0} (xs : List X) (n : ℕ) → length xs ≤ n → slice_get xs n ≡ None
none_at [] zero l = refl
none_at [] (suc n) l = refl
none_at (x ∷ xs) zero l = absurd (omega (arith, l))
none_at (x ∷ xs) (suc n) l = none_at xs n (omega (arith, l))

pub one_at : {X : Type 0} (xs : List X) (n : ℕ) (d : X) → n < length xs → slice_get xs n ≡ Some (get_or xs n d)
one_at [] n d l = absurd (omega (arith, l))
one_at (x ∷ xs) zero d l = refl
one_at (x ∷ xs) (suc n) d l = one_at xs n d (omega (arith, l))

pub image_at : {X Y : Type 0} (f : X → Y) (xs : List X) (n : ℕ) (d : X) → n < length xs → slice_get (map f xs) n ≡ Some (f (get_or xs n d))
image_at f [] n d l = absurd (omega (arith, l))
image_at f (x ∷ xs) zero d l = refl
image_at f (x ∷ xs) (suc n) d l = image_at f xs n d (omega (arith, l))

module _ (view : View) (shift n : ℕ) where
  no_plan : (flow : Option Flow) → maybe_tables view shift n flow None ≡ []
  no_plan None = refl
  no_plan (Some flow) = refl

  pub without_flow : length view.flows ≤ n → tables_at view shift n ≡ []
  unfolding tables_at
  without_flow l = ap (λ f. maybe_tables view shift n f (slice_get view.plans n)) (none_at view.flows n l)

  pub without_plan : length view.plans ≤ n → tables_at view shift n ≡ []
  unfolding tables_at
  without_plan l = ap (λ p. maybe_tables view shift n (slice_get view.flows n) p) (none_at view.plans n l) ∙ no_plan (slice_get view.flows n)

  pub with_both : (flow : Flow) (placed : Placed) → slice_get view.flows n ≡ Some flow → slice_get view.plans n ≡ Some placed → tables_at view shift n ≡ tables_of (shown_of view shift n flow placed)
  unfolding tables_at
  with_both flow placed e f = ap₂ (λ x y. maybe_tables view shift n x y) e f
