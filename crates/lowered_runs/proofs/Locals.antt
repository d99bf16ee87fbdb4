-- Where a call's variables are: in registers, or from which byte of the local data on.
use Rattle.std.proofs.Common.{◌≡◌, ℕ, zero, suc, ◌+◌, ◌*◌, ◌/◌, ◌<◌, ◌≤◌, ◌⊎◌, inl, inr, List, [], ◌∷◌, map, take, Bool, true, false, cond, not, ◌&&◌, slice_get, Option, Some, None, refl, sym, ap, ap₂, ◌∙◌, subst, arith}
use Rattle.std.specs.Prelude.{if◌then◌else◌, slice_index_or}
use Rattle.std.proofs.lemmas.List.Sums.{sum_by-cons}
use Rattle.ob_types.specs.Forms.{Form, form_or_zero, scalar_form, types_fine}
use Rattle.ob_types.specs.Layout.{kind_of, cells, cells_by, cells_of_all}
use Rattle.ob_types.specs.Trees.{DataTree, Scalar, data_tree, tree_bytes, tree_cells, fits_byte, scalar_bytes}
use Rattle.ob_types.specs.declared.program.Program.{Program}
use Rattle.ob_types.specs.declared.types.TypeKind.{TypeKind}
use Rattle.ob_types.specs.declared.types.TypeKind.TheVariants.{Array}
use Rattle.ob_types.specs.declared.types.TypeKind.TheVariants.{Record as RecordOf}
use Rattle.ob_types.proofs.DataTrees.{cells_are, other_data_tree}
use Rattle.ob_types.proofs.Tests.{no}
use Rattle.ob_types.proofs.TreeBytes.{few_rounded}
use Rattle.object_nodes.specs.Addresses.{Sides}
use Rattle.object_nodes.specs.Nodes.{Node, VariableNode}
use Rattle.object_nodes.proofs.Meeting.{node_self}
use Rattle.ssa_lowered.specs.Data.{Layout, IsLayout, room}
use Rattle.ssa_lowered.specs.Pieces.{Mask, rest}
use Rattle.ssa_lowered.specs.Variables.{Site, Register, Memory, Variable, is_structured, structured_room, scalars_lent, placed}

-- where a variable is: in as many bytes as it takes, in eight that scalars in memory have, or in a register
pub data Way : Type 0 where
  Wide : Way
  Lent : Way
  Kept : Way

abbrev pub way : Bool → Bool → Way
way true lent = Wide
way false true = Lent
way false false = Kept

-- the bytes that it takes of those for structured variables, and how many scalars it is in memory
abbrev pub wide_of : Way → ℕ → ℕ
wide_of Wide k = k
wide_of Lent k = 0
wide_of Kept k = 0

abbrev pub lent_of : Way → ℕ
lent_of Wide = 0
lent_of Lent = 1
lent_of Kept = 0

-- a scalar has one cell
single_kind : (f g : ℕ → ℕ) (kind : TypeKind) → is_structured kind ≡ false → cells_by f g kind ≡ 1
single_kind f g (Array n e) h = absurd (no (sym h))
single_kind f g (RecordOf r) h = absurd (no (sym h))
single_kind f g _ h = refl

some_is : {A : Type 0} {x y : A} → Some x ≡ Some y → x ≡ y
some_is e = cc

none_is : {A : Type 0} {x : A} → None ≡ Some x → ⊥
none_is e = cc

-- a variable's type, and the argument word with which it begins
abbrev pub Pairs : Type 0
Pairs = List (ℕ × Option ℕ)

abbrev pub types_in : Pairs → List ℕ
types_in xs = map (λ x. x.0) xs

one_byte : (b : Bool) → scalar_bytes b ≤ 8
one_byte true = omega arith
one_byte false = omega arith

module _ (p : Program) where
  abbrev pub tree : ℕ → DataTree
  tree k = data_tree p.types k

  abbrev pub size : ℕ → ℕ
  size k = cells p.types k

  abbrev pub is_wide : ℕ → Bool
  is_wide k = is_structured (kind_of p.types k)

  -- the form of a scalar
  abbrev pub form_in : ℕ → Form
  form_in k = form_or_zero (scalar_form (kind_of p.types k))

  pub single : (k : ℕ) → is_wide k ≡ false → size k ≡ 1
  single k h = single_kind _ _ (kind_of p.types k) h

  -- how many scalars are in memory
  abbrev pub lent_in : Mask → Pairs → ℕ
  lent_in lent [] = 0
  lent_in lent (x ∷ xs) = lent_of (way (is_wide x.0) (lent 0)) + lent_in (rest lent) xs

  -- the first cell of a variable
  abbrev pub first : Pairs → ℕ → ℕ
  first xs x = cells_of_all p.types (take x (types_in xs))

  pub first_more : (y : ℕ × Option ℕ) (xs : Pairs) (x : ℕ) → first (y ∷ xs) (suc x) ≡ size y.0 + first xs x
  first_more y xs x = sum_by-cons (λ n. n) (size y.0) (map (cells p.types) (take x (types_in xs)))

  pub cells_more : (y : ℕ × Option ℕ) (xs : Pairs) → cells_of_all p.types (types_in (y ∷ xs)) ≡ size y.0 + cells_of_all p.types (types_in xs)
  cells_more y xs = sum_by-cons (λ n. n) (size y.0) (map (cells p.types) (types_in xs))

  pub first_grows : (xs : Pairs) (x y k : ℕ) → x < y → slice_get (types_in xs) x ≡ Some k → first xs x + size k ≤ first xs y
  first_grows [] x y k lt at = absurd (none_is at)
  first_grows (z ∷ xs) x zero k lt at = absurd (omega (arith, lt))
  first_grows (z ∷ xs) zero (suc y) k lt at = let e = first_more z xs y in let f = ap size (some_is at) in omega (arith, e, f)
  first_grows (z ∷ xs) (suc x) (suc y) k lt at = let e = first_more z xs y in let f = first_more z xs x in let g = first_grows xs x y k (omega (arith, lt)) at in omega (arith, e, f, g)

  lent_step : (s t : Bool) → cond (t && not s) 1 0 ≡ lent_of (way s t)
  lent_step true true = refl
  lent_step true false = refl
  lent_step false true = refl
  lent_step false false = refl

module _ (p : Program) (lay : Layout) where
  -- the bytes for structured variables
  abbrev pub wide_in : Pairs → ℕ
  wide_in [] = 0
  wide_in (x ∷ xs) = wide_of (way (is_wide p x.0) false) (room lay x.0) + wide_in xs

  wide_step : (t : Bool) (k more bytes : ℕ) → more ≡ bytes → (if t then k else 0) + more ≡ wide_of (way t false) k + bytes
  wide_step true k more bytes e = omega (arith, e)
  wide_step false k more bytes e = omega (arith, e)

  pub wide_bytes : (xs : Pairs) → structured_room p.types lay (types_in xs) ≡ wide_in xs
  wide_bytes [] = refl
  wide_bytes (x ∷ xs) =
      sum_by-cons (λ k. if is_structured (kind_of p.types k) then room lay k else 0) x.0 (types_in xs)
      ∙ wide_step (is_wide p x.0) (room lay x.0) (structured_room p.types lay (types_in xs)) (wide_in xs) (wide_bytes xs)

  pub lent_words : (lent : Mask) (xs : Pairs) → scalars_lent p.types lay lent (types_in xs) ≡ lent_in p lent xs
  lent_words lent [] = refl
  lent_words lent (x ∷ xs) = ap₂ (λ a b. a + b) (lent_step p (is_wide p x.0) (lent 0)) (lent_words (rest lent) xs)

  ---- Places

  -- where a variable is, and what comes behind it
  abbrev pub site_by : Way → (a b : ℕ) → Site
  site_by Wide a b = Memory a
  site_by Lent a b = Memory b
  site_by Kept a b = Register

  abbrev pub placed_in : Way → Mask → (a b : ℕ) → ℕ × Option ℕ → Pairs → List Variable
  placed_in W lent a b x xs = record { type_number = x.0; word = x.1; site = site_by W a b } ∷ placed p.types lay (rest lent) (a + wide_of W (room lay x.0)) (b + 8 * lent_of W) xs

  pub placed_all : (lent : Mask) (a b : ℕ) (x : ℕ × Option ℕ) (xs : Pairs) → placed p.types lay lent a b (x ∷ xs) ≡ placed_in (way (is_wide p x.0) (lent 0)) lent a b x xs
  placed_all lent a b x xs = by (is_wide p x.0) (lent 0)
    where
      none_more : (n : ℕ) → n ≡ n + 0
      none_more n = omega arith

      by : (s t : Bool) → (if s then record { type_number = x.0; word = x.1; site = Memory a } ∷ placed p.types lay (rest lent) (a + room lay x.0) b xs
          else if t then record { type_number = x.0; word = x.1; site = Memory b } ∷ placed p.types lay (rest lent) a (b + 8) xs
          else record { type_number = x.0; word = x.1; site = Register } ∷ placed p.types lay (rest lent) a b xs) ≡ placed_in (way s t) lent a b x xs
      by true t = ap (λ n. record { type_number = x.0; word = x.1; site = Memory a } ∷ placed p.types lay (rest lent) (a + room lay x.0) n xs) (none_more b)
      by false true = ap (λ n. record { type_number = x.0; word = x.1; site = Memory b } ∷ placed p.types lay (rest lent) n (b + 8) xs) (none_more a)
      by false false = ap₂ (λ n k. record { type_number = x.0; word = x.1; site = Register } ∷ placed p.types lay (rest lent) n k xs) (none_more a) (none_more b)

  module _ (base : ℕ) where
    -- where a variable begins, where the next structured one and the next scalar stand a and b bytes behind the base
    abbrev pub own_by : Way → (a b : ℕ) → Option ℕ
    own_by Wide a b = Some (base + a)
    own_by Lent a b = Some (base + b)
    own_by Kept a b = None

    abbrev pub own_at : Mask → (a b : ℕ) → Pairs → ℕ → Option ℕ
    own_at lent a b [] v = None
    own_at lent a b (x ∷ xs) zero = own_by (way (is_wide p x.0) (lent 0)) a b
    own_at lent a b (x ∷ xs) (suc v) = own_at (rest lent) (a + wide_of (way (is_wide p x.0) (lent 0)) (room lay x.0)) (b + 8 * lent_of (way (is_wide p x.0) (lent 0))) xs v

module _ (p : Program) (packed : Bool) (lay : Layout) (fine : types_fine p.types ≡ true) (laid : IsLayout packed p.types lay) where
  pub scalar_tree : (k : ℕ) → is_wide p k ≡ false → tree p k ≡ Scalar (form_in p k)
  scalar_tree k h = other_data_tree p.types fine k (λ r e. whole (sym (ap is_structured e) ∙ h)) (λ n m e. whole (sym (ap is_structured e) ∙ h))
    where
      whole : true ≡ false → ⊥
      whole e = cc

  -- a variable fits its room, and that has eight bytes a cell at most
  pub room_fits : (k : ℕ) → tree_bytes packed (tree p k) ≤ room lay k
  room_fits k = let e = laid.bytes k in omega (arith, e)

  pub room_few : (k : ℕ) → room lay k ≤ 8 * size p k
  room_few k = let e = laid.bytes k in let f = few_rounded packed (tree p k) in let c = cells_are p.types k in rounded_few (lay.bytes k) (tree_bytes packed (tree p k)) e f c
    where
      rounded_few : (x y : ℕ) → x ≡ y → (y + 7) / 8 * 8 ≤ 8 * tree_cells (tree p k) → size p k ≡ tree_cells (tree p k) → (x + 7) / 8 * 8 ≤ 8 * size p k
      rounded_few x y e f c = omega (arith, e, f, c)

  pub lent_fits : (k : ℕ) → is_wide p k ≡ false → tree_bytes packed (tree p k) ≤ 8
  lent_fits k h = let e = ap (tree_bytes packed) (scalar_tree k h) in let f = one_byte (packed && fits_byte (form_in p k)) in omega (arith, e, f)

  -- no more bytes than eight for each cell
  pub words_fit : (lent : Mask) (xs : Pairs) → wide_in p lay xs + 8 * lent_in p lent xs ≤ 8 * cells_of_all p.types (types_in xs)
  words_fit lent [] = omega arith
  words_fit lent (x ∷ xs) = let e = cells_more p x xs in let h = words_fit (rest lent) xs in by (is_wide p x.0) refl (lent 0) e h
    where
      by : (s : Bool) → is_wide p x.0 ≡ s → (t : Bool) → cells_of_all p.types (types_in (x ∷ xs)) ≡ size p x.0 + cells_of_all p.types (types_in xs) → wide_in p lay xs + 8 * lent_in p (rest lent) xs ≤ 8 * cells_of_all p.types (types_in xs)
          → wide_of (way s false) (room lay x.0) + wide_in p lay xs + 8 * (lent_of (way s t) + lent_in p (rest lent) xs) ≤ 8 * cells_of_all p.types (types_in (x ∷ xs))
      by true is t e h = let r = room_few x.0 in omega (arith, e, h, r)
      by false is true e h = let one = single p x.0 is in omega (arith, e, h, one)
      by false is false e h = omega (arith, e, h)

  module _ (base : ℕ) where
    -- among the bytes for structured variables, or those for scalars
    abbrev pub Among : (a wide b lent i n : ℕ) → Type 0
    Among a wide b lent i n = ((base + a ≤ i) × (i + n ≤ base + (a + wide))) ⊎ ((base + b ≤ i) × (i + n ≤ base + (b + 8 * lent)))

    pub own_inside : (lent : Mask) (a b : ℕ) (xs : Pairs) (v k i : ℕ) → slice_get (types_in xs) v ≡ Some k → own_at p lay base lent a b xs v ≡ Some i → Among a (wide_in p lay xs) b (lent_in p lent xs) i (tree_bytes packed (tree p k))
    own_inside lent a b [] v k i type at = absurd (none_is at)
    own_inside lent a b (x ∷ xs) zero k i type at = here (is_wide p x.0) refl (lent 0) at
      where
        fits : tree_bytes packed (tree p k) ≤ room lay x.0
        fits = subst (λ k. tree_bytes packed (tree p k) ≤ room lay x.0) (some_is type) (room_fits x.0)

        here : (s : Bool) → is_wide p x.0 ≡ s → (t : Bool) → own_by p lay base (way s t) a b ≡ Some i → Among a (wide_of (way s false) (room lay x.0) + wide_in p lay xs) b (lent_of (way s t) + lent_in p (rest lent) xs) i (tree_bytes packed (tree p k))
        here true is t e = let f = some_is e in let g = fits in inl (omega (arith, f), omega (arith, f, g))
        here false is true e = let f = some_is e in let g = subst (λ k. tree_bytes packed (tree p k) ≤ 8) (some_is type) (lent_fits x.0 is) in inr (omega (arith, f), omega (arith, f, g))
        here false is false e = absurd (none_is e)
    own_inside lent a b (x ∷ xs) (suc v) k i type at =
        there (is_wide p x.0) (lent 0) (own_inside (rest lent) (a + wide_of (way (is_wide p x.0) (lent 0)) (room lay x.0)) (b + 8 * lent_of (way (is_wide p x.0) (lent 0))) xs v k i type at)
      where
        there : (s t : Bool) → Among (a + wide_of (way s t) (room lay x.0)) (wide_in p lay xs) (b + 8 * lent_of (way s t)) (lent_in p (rest lent) xs) i (tree_bytes packed (tree p k))
            → Among a (wide_of (way s false) (room lay x.0) + wide_in p lay xs) b (lent_of (way s t) + lent_in p (rest lent) xs) i (tree_bytes packed (tree p k))
        there true t (inl h) = let lo = h.0 in let hi = h.1 in inl (omega (arith, lo), omega (arith, hi))
        there true t (inr h) = let lo = h.0 in let hi = h.1 in inr (omega (arith, lo), omega (arith, hi))
        there false true (inl h) = let lo = h.0 in let hi = h.1 in inl (omega (arith, lo), omega (arith, hi))
        there false true (inr h) = let lo = h.0 in let hi = h.1 in inr (omega (arith, lo), omega (arith, hi))
        there false false (inl h) = let lo = h.0 in let hi = h.1 in inl (omega (arith, lo), omega (arith, hi))
        there false false (inr h) = let lo = h.0 in let hi = h.1 in inr (omega (arith, lo), omega (arith, hi))

    -- the first variable, and one behind it
    first_apart : (lent : Mask) (a b : ℕ) (x : ℕ × Option ℕ) (xs : Pairs) (w k i j : ℕ) → a + wide_in p lay (x ∷ xs) ≤ b → slice_get (types_in xs) w ≡ Some k → own_by p lay base (way (is_wide p x.0) (lent 0)) a b ≡ Some i
        → own_at p lay base (rest lent) (a + wide_of (way (is_wide p x.0) (lent 0)) (room lay x.0)) (b + 8 * lent_of (way (is_wide p x.0) (lent 0))) xs w ≡ Some j → i + tree_bytes packed (tree p x.0) ≤ j ⊎ j + tree_bytes packed (tree p k) ≤ i
    first_apart lent a b x xs w k i j le type at to =
        by (is_wide p x.0) refl (lent 0) le at (own_inside (rest lent) (a + wide_of (way (is_wide p x.0) (lent 0)) (room lay x.0)) (b + 8 * lent_of (way (is_wide p x.0) (lent 0))) xs w k j type to)
      where
        by : (s : Bool) → is_wide p x.0 ≡ s → (t : Bool) → a + (wide_of (way s false) (room lay x.0) + wide_in p lay xs) ≤ b → own_by p lay base (way s t) a b ≡ Some i
            → Among (a + wide_of (way s t) (room lay x.0)) (wide_in p lay xs) (b + 8 * lent_of (way s t)) (lent_in p (rest lent) xs) j (tree_bytes packed (tree p k)) → i + tree_bytes packed (tree p x.0) ≤ j ⊎ j + tree_bytes packed (tree p k) ≤ i
        by true is t le e (inl h) = let f = some_is e in let lo = h.0 in let fits = room_fits x.0 in inl (omega (arith, f, lo, fits))
        by true is t le e (inr h) = let f = some_is e in let lo = h.0 in let fits = room_fits x.0 in inl (omega (arith, f, lo, fits, le))
        by false is true le e (inl h) = let f = some_is e in let hi = h.1 in inr (omega (arith, f, hi, le))
        by false is true le e (inr h) = let f = some_is e in let lo = h.0 in let fits = lent_fits x.0 is in inl (omega (arith, f, lo, fits))
        by false is false le e h = absurd (none_is e)

    -- two variables share no byte
    pub own_apart : (lent : Mask) (a b : ℕ) (xs : Pairs) (v w k m i j : ℕ) → a + wide_in p lay xs ≤ b → slice_get (types_in xs) v ≡ Some k → slice_get (types_in xs) w ≡ Some m → own_at p lay base lent a b xs v ≡ Some i → own_at p lay base lent a b xs w ≡ Some j
        → (v ≡ w) ⊎ Sides i (tree_bytes packed (tree p k)) j (tree_bytes packed (tree p m))
    own_apart lent a b [] v w k m i j le one two at to = absurd (none_is at)
    own_apart lent a b (x ∷ xs) zero zero k m i j le one two at to = inl refl
    own_apart lent a b (x ∷ xs) zero (suc w) k m i j le one two at to =
        inr (subst (λ k. Sides i (tree_bytes packed (tree p k)) j (tree_bytes packed (tree p m))) (some_is one) (first_apart lent a b x xs w m i j le two at to))
    own_apart lent a b (x ∷ xs) (suc v) zero k m i j le one two at to =
        inr (subst (λ m. Sides i (tree_bytes packed (tree p k)) j (tree_bytes packed (tree p m))) (some_is two) (turned (first_apart lent a b x xs v k j i le one to at)))
      where
        turned : j + tree_bytes packed (tree p x.0) ≤ i ⊎ i + tree_bytes packed (tree p k) ≤ j → Sides i (tree_bytes packed (tree p k)) j (tree_bytes packed (tree p x.0))
        turned (inl h) = inr h
        turned (inr h) = inl h
    own_apart lent a b (x ∷ xs) (suc v) (suc w) k m i j le one two at to = elim (own_apart (rest lent) (a + wide_of (way (is_wide p x.0) (lent 0)) (room lay x.0)) (b + 8 * lent_of (way (is_wide p x.0) (lent 0))) xs v w k m i j (room_for (is_wide p x.0) (lent 0) le) one two at to) [
      | inl e ↦ inl (ap suc e)
      | inr far ↦ inr far
    ]
      where
        room_for : (s t : Bool) → a + (wide_of (way s false) (room lay x.0) + wide_in p lay xs) ≤ b → a + wide_of (way s t) (room lay x.0) + wide_in p lay xs ≤ b + 8 * lent_of (way s t)
        room_for true t le = omega (arith, le)
        room_for false true le = omega (arith, le)
        room_for false false le = omega (arith, le)

    -- where a variable is, as lowering has it
    abbrev pub SiteIs : Option ℕ → ℕ → Site → Type 0
    SiteIs own k site = ((site ≡ Register) × (is_wide p k ≡ false) × (own ≡ None)) ⊎ ((n : ℕ) × (site ≡ Memory n) × (own ≡ Some (base + n)))

    pub site_is : (lent : Mask) (a b : ℕ) (xs : Pairs) (x k : ℕ) (none : Variable) → slice_get (types_in xs) x ≡ Some k → SiteIs (own_at p lay base lent a b xs x) k (slice_index_or (placed p.types lay lent a b xs) x none).site
    site_is lent a b [] x k none at = absurd (none_is at)
    site_is lent a b (y ∷ xs) zero k none at = subst (λ vs. SiteIs (own_at p lay base lent a b (y ∷ xs) 0) k (slice_index_or vs 0 none).site) (sym (placed_all p lay lent a b y xs))
        (subst (λ k. SiteIs (own_at p lay base lent a b (y ∷ xs) 0) k (site_by p lay (way (is_wide p y.0) (lent 0)) a b)) (some_is at) (by (is_wide p y.0) refl (lent 0)))
      where
        by : (s : Bool) → is_wide p y.0 ≡ s → (t : Bool) → SiteIs (own_by p lay base (way s t) a b) y.0 (site_by p lay (way s t) a b)
        by true is t = inr (a, refl, refl)
        by false is true = inr (b, refl, refl)
        by false is false = inl (refl, is, refl)
    site_is lent a b (y ∷ xs) (suc x) k none at = subst (λ vs. SiteIs (own_at p lay base lent a b (y ∷ xs) (suc x)) k (slice_index_or vs (suc x) none).site) (sym (placed_all p lay lent a b y xs))
        (site_is (rest lent) (a + wide_of (way (is_wide p y.0) (lent 0)) (room lay y.0)) (b + 8 * lent_of (way (is_wide p y.0) (lent 0))) xs x k none at)

-- a variable is a node of its own
pub own_variable : (p : Program) (packed : Bool) (ks : List ℕ) (v k : ℕ) → slice_get ks v ≡ Some k → VariableNode packed (map (data_tree p.types) ks) v (cells_of_all p.types (take v ks)) 0 (data_tree p.types k)
own_variable p packed [] v k at = absurd (none_is at)
own_variable p packed (l ∷ ls) zero k at = subst (λ n. Node packed (data_tree p.types l) 0 0 (data_tree p.types n)) (some_is at) (node_self packed (data_tree p.types l))
own_variable p packed (l ∷ ls) (suc v) k at =
    let a = sum_by-cons (λ n. n) (cells p.types l) (map (cells p.types) (take v ls)) in
    let b = cells_are p.types l in
    (cells_of_all p.types (take v ls), own_variable p packed ls v k at, omega (arith, a, b))
