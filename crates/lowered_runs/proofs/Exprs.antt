-- Values and operators.
use Rattle.std.proofs.Common.{◌≡◌, ℕ, suc, ◌<◌, ◌^◌, ◌⊎◌, List, [], ◌∷◌, length, Bool, true, false, cond, inl, inr, refl, sym, ap, ap₂, ◌∙◌, subst, arith, Some, None}
use Rattle.std.specs.Prelude.{nat_le, int_lt, pos, ◌==◌, if◌then◌else◌, bit_or, bit_and, bit_xor}
use Rattle.std.proofs.lemmas.Bool.Decides.{nat_tests}
use Rattle.run_laws.specs.Turns.{Gives, Fails, give}
use Rattle.run_laws.specs.Turns.{State as At}
use Rattle.a64_memory.specs.Memory.{Area}
use Rattle.wrapping_numbers.specs.Numbers.{signed, bic64, add64, sub64, mul64}
use Rattle.wrapping_numbers.specs.Division.{div_of, mod_of, div_words, mod_words}
use Rattle.wrapping_numbers.specs.Shifts.{lsl64, asr64, ror64}
use Rattle.wrapping_numbers.specs.Sets.{subset}
use Rattle.wrapping_numbers.proofs.Bounds.{and64_lt, or64_lt, xor64_lt, bic64_lt, ror64_lt}
use Rattle.wrapping_numbers.proofs.Wrapping.{add64_lt, sub64_lt, mul64_lt}
use Rattle.wrapping_numbers.proofs.Amounts.{lsl64_lt, asr64_lt}
use Rattle.block_runs.specs.declared.code.Code.{Code}
use Rattle.block_runs.specs.declared.code.Code.TheVariants.{Const, Mul, Neg, And, Or, Eor, Bic, Set, Flip, Elem, Byte}
use Rattle.block_runs.specs.declared.code.Code.TheVariants.{Code as CodeOf, Add as AddOp, Sub as SubOp, Lsl as LslOp, Asr as AsrOp, Ror as RorOp, Not as NotOp, Abs as AbsOp, Odd as OddOp, Div as DivOp, Mod as ModOp}
use Rattle.block_runs.specs.Effects.{Gives as Yields, Fails as Refuses}
use Rattle.block_runs.specs.Steps.{set}
use Rattle.ob_types.specs.Store.{Cell, Bits, Pointer, Store, Senseless, Act, bits, bits_in, unless}
use Rattle.ob_types.specs.Store.{Code as Procedure}
use Rattle.ob_types.specs.Operators.{truth, inside, unary_of, binary_of}
use Rattle.ob_types.specs.Expressions.{one_operand, two_operands, quotient}
use Rattle.ob_types.specs.declared.tree.Unary.{Unary}
use Rattle.ob_types.specs.declared.tree.Unary.TheVariants.{Negate, Complement, Not, Abs, Odd}
use Rattle.ob_types.specs.declared.tree.Binary.{Binary}
use Rattle.ob_types.specs.declared.tree.Binary.TheVariants.{Add, Subtract, Multiply, Div, Mod, Union, Difference, Intersection, SymmetricDifference, Subset, Superset, Lsl, Asr, Ror}
use Rattle.ob_sound.proofs.Numbers.{unary_lt, truth_lt}
use Rattle.ssa_lowered.specs.Pieces.{Low, Mask, emits, does}
use Rattle.ssa_lowered.specs.Values.{const, unary, binary, routine}
use Rattle.ssa_lowered.specs.Values.{one_operand as lower_one, two_operands as lower_two, included}
use Rattle.lowered_runs.specs.Words.{Whole, Level, ValueIs, Held}
use Rattle.lowered_runs.proofs.Stores.{value_later, is_code}
use Rattle.lowered_runs.proofs.Values.{put_here}
use Rattle.lowered_runs.proofs.Numbers.{div_same, mod_same, abs_same, inside_same, up_to}
use Rattle.lowered_runs.proofs.Follows.{Fact, And as Both, Steady, steady_and, Grows, grows_bind, grows_emits, Follows, follows_bind, follows_then, follows_known, follows_less, follows_emits, follows_does, Acts, acts_give, acts_trap, effect_at}

module _ (w : Whole) (l : Level) where
  -- value i is a cell's
  abbrev pub CellIs : Cell → ℕ → Fact
  CellIs c i n f s = (i < n) × ValueIs w s.tags c (f i)

  -- value i is a number
  abbrev pub NumberIs : ℕ → ℕ → Fact
  NumberIs k i n f s = (i < n) × ((f i ≡ k) × (k < 2 ^ 64))

  pub steady_cell : (c : Cell) (i : ℕ) → Steady w l (CellIs c i)
  steady_cell c i = record {
    by = λ n m f g s t le same later h.
        let lt = h.0 in
        (omega (arith, le, lt), subst (λ x. ValueIs w t.tags c x) (sym (same i h.0)) (value_later w l s t c (f i) later h.1));
  }

  pub steady_number : (k i : ℕ) → Steady w l (NumberIs k i)
  steady_number k i = record { by = λ n m f g s t le same later h. let lt = h.0 in (omega (arith, le, lt), (same i h.0 ∙ h.1.0, h.1.1)) }

  pub made_number : (n x k : ℕ) (f : ℕ → ℕ) (s : Store) → x ≡ k → k < 2 ^ 64 → NumberIs k n (suc n) (set f n x) s
  made_number n x k f s e lt = (omega arith, (put_here n x f ∙ e, lt))

  pub made_bits : (n x k : ℕ) (f : ℕ → ℕ) (s : Store) → x ≡ k → k < 2 ^ 64 → CellIs (Bits k) n (suc n) (set f n x) s
  made_bits n x k f s e lt = (omega arith, (put_here n x f ∙ e, lt))

  pub follows_literal : {need fuel : ℕ} {mask : Mask} {K : Fact} (n : ℕ) → n < 2 ^ 64 → Follows w l need fuel mask K CellIs (give (Bits n)) (const n)
  follows_literal n lt = follows_emits w l (Const n) [] (λ v f m s held known. acts_give w l (Bits n) n held refl refl (made_bits v n n f s.store refl lt))

  pub follows_routine : {need fuel : ℕ} {mask : Mask} {K : Fact} (g : ℕ) → g < length w.procedures → Follows w l need fuel mask K CellIs (give (Procedure g)) (routine g)
  follows_routine g lt = follows_emits w l (CodeOf g) [] (λ v f m s held known. acts_give w l (Procedure g) (w.code g) held refl refl (omega arith, is_code w g lt ∙ ap (λ x. Some x) (sym (put_here v (w.code g) f))))

  pub follows_bits : {need fuel : ℕ} {mask : Mask} {K : Fact} {x : Act Cell} {low : Low ℕ} → Steady w l K → Follows w l need fuel mask K CellIs x low → Follows w l need fuel mask K NumberIs (bits x) low
  follows_bits {K = K} steady one = follows_then w l steady one by
    where
      by : (c : Cell) (i n : ℕ) (f : ℕ → ℕ) (s : At Store) → K n f s.store → CellIs c i n f s.store → ((x : ℕ) × (bits_in c s ≡ Gives x s) × NumberIs x i n f s.store) ⊎ (bits_in c s ≡ Fails Senseless s.out)
      by (Bits k) i n f s known h = inl (k, refl, h)
      by (Pointer k) i n f s known h = inr refl
      by (Procedure k) i n f s known h = inr refl

  -- a number that is computed while the meaning does nothing
  pub follows_number : {need fuel : ℕ} {mask : Mask} {K : Fact} (k : ℕ) (code : Code) (us : List ℕ) → k < 2 ^ 64
      → ((n : ℕ) (f : ℕ → ℕ) (m : List Area) (s : At Store) → Held w l s.store m → K n f s.store → (x : ℕ) × (effect_at w l f m s.store code us ≡ Yields x) × (x ≡ k))
      → Follows w l need fuel mask K (λ (u : Unit {0}) i. NumberIs k i) (give tt) (emits code us)
  follows_number k code us lt does = follows_emits w l code us (λ n f m s held known. let z = does n f m s held known in acts_give w l tt z.0 held refl z.1 (made_number n z.0 k f s.store z.2 lt))

  pub follows_const : {need fuel : ℕ} {mask : Mask} {K : Fact} (k : ℕ) → k < 2 ^ 64 → Follows w l need fuel mask K (λ (u : Unit {0}) i. NumberIs k i) (give tt) (const k)
  follows_const k lt = follows_number k (Const k) [] lt (λ n f m s held known. (k, refl, refl))

  -- one operand

  abbrev One : ℕ → ℕ → Fact → Fact
  One a i K = Both K (NumberIs a i)

  computed_one : {need fuel : ℕ} {mask : Mask} {K : Fact} (a i k : ℕ) (code : Code) → k < 2 ^ 64 → ((f : ℕ → ℕ) (m : List Area) (s : Store) → f i ≡ a → (x : ℕ) × (effect_at w l f m s code (i ∷ []) ≡ Yields x) × (x ≡ k)) → Follows w l need fuel mask (One a i K) CellIs (give (Bits k)) (emits code (i ∷ []))
  computed_one a i k code lt does = follows_emits w l code (i ∷ []) (λ n f m s held known. let z = does f m s.store known.1.1.0 in acts_give w l (Bits k) z.0 held refl z.1 (made_bits n z.0 k f s.store z.2 lt))

  operated_one : {need fuel : ℕ} {mask : Mask} {K : Fact} (op : Unary) (a i : ℕ) → a < 2 ^ 64 → Follows w l need fuel mask (One a i K) CellIs (give (Bits (unary_of op a))) (lower_one op i)
  operated_one Negate a i lt = computed_one a i (unary_of Negate a) Neg (unary_lt Negate a lt) (λ f m s e. (_, refl, ap (unary_of Negate) e))
  operated_one Complement a i lt = computed_one a i (unary_of Complement a) NotOp (unary_lt Complement a lt) (λ f m s e. (_, refl, ap (unary_of Complement) e))
  operated_one Not a i lt = computed_one a i (unary_of Not a) Flip (unary_lt Not a lt) (λ f m s e. (_, refl, ap (unary_of Not) e))
  operated_one Abs a i lt = computed_one a i (unary_of Abs a) AbsOp (unary_lt Abs a lt) (λ f m s e. (_, refl, ap (λ x. cond (int_lt (signed x) (pos 0)) (unary_of Negate x) x) e ∙ ap (λ t. cond t (unary_of Negate a) a) (abs_same a lt)))
  operated_one Odd a i lt = computed_one a i (unary_of Odd a) OddOp (unary_lt Odd a lt) (λ f m s e. (_, refl, ap (unary_of Odd) e))

  -- what is known of a number where it is used
  pub follows_at : {A : Type 0} {B : Type 0} {need fuel : ℕ} {mask : Mask} {K : Fact} {R : A → B → Fact} {m : Act A} {low : Low B} (a i : ℕ) → Grows w l low → (a < 2 ^ 64 → Follows w l need fuel mask (One a i K) R m low) → Follows w l need fuel mask (One a i K) R m low
  follows_at a i grows one = record {
    grows = grows;
    by = λ most g c f s room free le needs few stands fits within known typed r. (one known.1.1.1).by most g c f s room free le needs few stands fits within known typed r;
  }

  grows_one : (op : Unary) (i : ℕ) → Grows w l (lower_one op i)
  grows_one Negate i = grows_emits w l _ _
  grows_one Complement i = grows_emits w l _ _
  grows_one Not i = grows_emits w l _ _
  grows_one Abs i = grows_emits w l _ _
  grows_one Odd i = grows_emits w l _ _

  pub follows_unary : {need fuel : ℕ} {mask : Mask} {K : Fact} {x : Act Cell} {q : Low ℕ} (op : Unary) → Steady w l K → Follows w l need fuel mask K CellIs x q → Follows w l need fuel mask K CellIs (one_operand op x) (unary op q)
  follows_unary op steady one = follows_bind w l steady (follows_bits steady one) (λ i. grows_one op i)
      (λ a i. follows_at a i (grows_one op i) (λ lt. operated_one op a i lt))

  -- two operands

  abbrev Two : ℕ → ℕ → ℕ → ℕ → Fact → Fact
  Two a i b j K = Both (Both K (NumberIs a i)) (NumberIs b j)

  computed_two : {need fuel : ℕ} {mask : Mask} {K : Fact} (a i b j k : ℕ) (code : Code) → k < 2 ^ 64 → ((f : ℕ → ℕ) (m : List Area) (s : Store) → f i ≡ a → f j ≡ b → (x : ℕ) × (effect_at w l f m s code (i ∷ j ∷ []) ≡ Yields x) × (x ≡ k)) → Follows w l need fuel mask (Two a i b j K) CellIs (give (Bits k)) (emits code (i ∷ j ∷ []))
  computed_two a i b j k code lt does = follows_emits w l code (i ∷ j ∷ []) (λ n f m s held known. let z = does f m s.store known.0.1.1.0 known.1.1.0 in acts_give w l (Bits k) z.0 held refl z.1 (made_bits n z.0 k f s.store z.2 lt))

  -- a quotient, or trap 4
  divided : {need fuel : ℕ} {mask : Mask} {K : Fact} (a i b j k : ℕ) (code : Code) (words : ℕ → ℕ → ℕ) → ((f : ℕ → ℕ) (m : List Area) (s : Store) → effect_at w l f m s code (i ∷ j ∷ []) ≡ (if int_lt (pos 0) (signed (f j)) then Yields (words (f i) (f j)) else Refuses 4))
      → (int_lt (pos 0) (signed b) ≡ true → (words a b ≡ k) × (k < 2 ^ 64)) → Follows w l need fuel mask (Two a i b j K) CellIs (quotient l.proc (if int_lt (pos 0) (signed b) then Some k else None)) (emits code (i ∷ j ∷ []))
  divided a i b j k code words does same = follows_emits w l code (i ∷ j ∷ []) (λ n f m s held known. by n f m s held (does f m s.store ∙ ap₂ (λ x y. if int_lt (pos 0) (signed y) then Yields (words x y) else Refuses 4) known.0.1.1.0 known.1.1.0) (int_lt (pos 0) (signed b)) refl)
    where
      by : (n : ℕ) (f : ℕ → ℕ) (m : List Area) (s : At Store) → Held w l s.store m → effect_at w l f m s.store code (i ∷ j ∷ []) ≡ (if int_lt (pos 0) (signed b) then Yields (words a b) else Refuses 4) → (t : Bool) → int_lt (pos 0) (signed b) ≡ t
          → Acts w l (λ a x t. CellIs a n (suc n) (set f n x) t) (quotient l.proc (if int_lt (pos 0) (signed b) then Some k else None) s) s m (effect_at w l f m s.store code (i ∷ j ∷ []))
      by n f m s held e true is = acts_give w l (Bits k) (words a b) held (ap (λ t. quotient l.proc (if t then Some k else None) s) is) (e ∙ ap (λ t. if t then Yields (words a b) else Refuses 4) is) (made_bits n (words a b) k f s.store (same is).0 (same is).1)
      by n f m s held e false is = acts_trap w l 4 (ap (λ t. quotient l.proc (if t then Some k else None) s) is) (e ∙ ap (λ t. if t then Yields (words a b) else Refuses 4) is)

  -- inclusion: nothing is left without the other
  included_is : {need fuel : ℕ} {mask : Mask} {K : Fact} (a i b j : ℕ) → Steady w l K → a < 2 ^ 64 → Follows w l need fuel mask (Two a i b j K) CellIs (give (Bits (truth (subset a b)))) (included i j)
  included_is {K = K} a i b j steady lt = follows_bind w l {m = give tt} {h = λ u. give (Bits (truth (subset a b)))} (steady_and w l (steady_and w l steady (steady_number a i)) (steady_number b j))
      (follows_number (bic64 a b) Bic (i ∷ j ∷ []) (bic64_lt a b lt) (λ n f m s held known. (bic64 (f i) (f j), refl, ap₂ bic64 known.0.1.1.0 known.1.1.0)))
      (λ d. grows_bind w l (grows_emits w l (Const 0) []) (λ z. grows_emits w l (Set 0) (d ∷ z ∷ [])))
      (λ u d. follows_bind w l {m = give tt} {h = λ u. give (Bits (truth (subset a b)))} (steady_and w l (steady_and w l (steady_and w l steady (steady_number a i)) (steady_number b j)) (steady_number (bic64 a b) d))
      (follows_const 0 (omega arith))
      (λ z. grows_emits w l (Set 0) (d ∷ z ∷ []))
      (λ u z. computed_two (bic64 a b) d 0 z (truth (subset a b)) (Set 0) (truth_lt (subset a b)) (λ f m s e g. (_, refl, ap₂ (λ x y. truth (x == y)) e g))))

  operated_two : {need fuel : ℕ} {mask : Mask} {K : Fact} (op : Binary) (a i b j : ℕ) → Steady w l K → a < 2 ^ 64 → b < 2 ^ 64 → Follows w l need fuel mask (Two a i b j K) CellIs (quotient l.proc (binary_of op a b)) (lower_two op i j)
  operated_two Add a i b j steady k h = computed_two a i b j _ AddOp (add64_lt a b) (λ f m s e g. (_, refl, ap₂ add64 e g))
  operated_two Subtract a i b j steady k h = computed_two a i b j _ SubOp (sub64_lt a b) (λ f m s e g. (_, refl, ap₂ sub64 e g))
  operated_two Multiply a i b j steady k h = computed_two a i b j _ Mul (mul64_lt a b) (λ f m s e g. (_, refl, ap₂ mul64 e g))
  operated_two Div a i b j steady k h = divided a i b j (div_of a b) DivOp div_words (λ f m s. refl) (λ t. let e = div_same a b k h t in (e, subst (λ n. n < 2 ^ 64) e (add64_lt _ _)))
  operated_two Mod a i b j steady k h = divided a i b j (mod_of a b) ModOp mod_words (λ f m s. refl) (λ t. let e = mod_same a b k h t in (e, subst (λ n. n < 2 ^ 64) e (add64_lt _ _)))
  operated_two Union a i b j steady k h = computed_two a i b j _ Or (or64_lt a b k h) (λ f m s e g. (_, refl, ap₂ bit_or e g))
  operated_two Difference a i b j steady k h = computed_two a i b j _ Bic (bic64_lt a b k) (λ f m s e g. (_, refl, ap₂ bic64 e g))
  operated_two Intersection a i b j steady k h = computed_two a i b j _ And (and64_lt a b k) (λ f m s e g. (_, refl, ap₂ bit_and e g))
  operated_two SymmetricDifference a i b j steady k h = computed_two a i b j _ Eor (xor64_lt a b k h) (λ f m s e g. (_, refl, ap₂ bit_xor e g))
  operated_two Subset a i b j steady k h = included_is a i b j steady k
  operated_two Superset a i b j steady k h = follows_known w l (λ n f s x. ((x.0.0, x.1), x.0.1)) (included_is b j a i steady h)
  operated_two Lsl a i b j steady k h = computed_two a i b j _ LslOp (lsl64_lt a b) (λ f m s e g. (_, refl, ap₂ lsl64 e g))
  operated_two Asr a i b j steady k h = computed_two a i b j _ AsrOp (asr64_lt a b k) (λ f m s e g. (_, refl, ap₂ asr64 e g))
  operated_two Ror a i b j steady k h = computed_two a i b j _ RorOp (ror64_lt a b k) (λ f m s e g. (_, refl, ap₂ ror64 e g))

  pub grows_two : (op : Binary) (i j : ℕ) → Grows w l (lower_two op i j)
  grows_two Add i j = grows_emits w l _ _
  grows_two Subtract i j = grows_emits w l _ _
  grows_two Multiply i j = grows_emits w l _ _
  grows_two Div i j = grows_emits w l _ _
  grows_two Mod i j = grows_emits w l _ _
  grows_two Union i j = grows_emits w l _ _
  grows_two Difference i j = grows_emits w l _ _
  grows_two Intersection i j = grows_emits w l _ _
  grows_two SymmetricDifference i j = grows_emits w l _ _
  grows_two Subset i j = grows_bind w l (grows_emits w l Bic (i ∷ j ∷ [])) (λ d. grows_bind w l (grows_emits w l (Const 0) []) (λ z. grows_emits w l (Set 0) (d ∷ z ∷ [])))
  grows_two Superset i j = grows_bind w l (grows_emits w l Bic (j ∷ i ∷ [])) (λ d. grows_bind w l (grows_emits w l (Const 0) []) (λ z. grows_emits w l (Set 0) (d ∷ z ∷ [])))
  grows_two Lsl i j = grows_emits w l _ _
  grows_two Asr i j = grows_emits w l _ _
  grows_two Ror i j = grows_emits w l _ _

  pub follows_operated : {need fuel : ℕ} {mask : Mask} {K : Fact} (op : Binary) (a i b j : ℕ) → Steady w l K → Follows w l need fuel mask (Two a i b j K) CellIs (quotient l.proc (binary_of op a b)) (lower_two op i j)
  follows_operated op a i b j steady = record {
    grows = grows_two op i j;
    by = λ most g c f s room free le needs few stands fits within known typed r. (operated_two op a i b j steady known.0.1.1.1 known.1.1.1).by most g c f s room free le needs few stands fits within known typed r;
  }

  pub follows_binary : {need fuel : ℕ} {mask : Mask} {K : Fact} {x y : Act Cell} {q r : Low ℕ} (op : Binary) → Steady w l K → Follows w l need fuel mask K CellIs x q → Follows w l need fuel mask K CellIs y r → Follows w l need fuel mask K CellIs (two_operands l.proc op x y) (binary op q r)
  follows_binary op steady one two = follows_bind w l steady (follows_bits steady one) (λ i. grows_bind w l two.grows (λ j. grows_two op i j))
      (λ a i. follows_bind w l (steady_and w l steady (steady_number a i)) (follows_known w l (λ n f s h. h.0) (follows_bits steady two)) (λ j. grows_two op i j)
      (λ b j. follows_operated op a i b j steady))

  -- tests of numbers: nothing is done where they hold, else it traps

  tested : {need fuel : ℕ} {mask : Mask} {K : Fact} (a i kind : ℕ) (t : ℕ → Bool) (code : Code) → ((f : ℕ → ℕ) (m : List Area) (s : Store) → effect_at w l f m s code (i ∷ []) ≡ (if t (f i) then Yields 0 else Refuses kind))
      → Follows w l need fuel mask (One a i K) (λ (u v : Unit {0}). Both (One a i K) (λ n f s. t a ≡ true)) (unless l.proc kind (t a)) (does code (i ∷ []))
  tested {K = K} a i kind t code says = follows_does w l code (i ∷ []) (λ n f m s held known. by n f m s held known (says f m s.store ∙ ap (λ x. if t x then Yields 0 else Refuses kind) known.1.1.0) (t a) refl)
    where
      by : (n : ℕ) (f : ℕ → ℕ) (m : List Area) (s : At Store) → Held w l s.store m → One a i K n f s.store → effect_at w l f m s.store code (i ∷ []) ≡ (if t a then Yields 0 else Refuses kind) → (b : Bool) → t a ≡ b
          → Acts w l (λ (u : Unit {0}) x z. One a i K n f z × (t a ≡ true)) (unless l.proc kind (t a) s) s m (effect_at w l f m s.store code (i ∷ []))
      by n f m s held known e true is = acts_give w l tt 0 held (ap (λ b. unless l.proc kind b s) is) (e ∙ ap (λ b. if b then Yields 0 else Refuses kind) is) (known, is)
      by n f m s held known e false is = acts_trap w l kind (ap (λ b. unless l.proc kind b s) is) (e ∙ ap (λ b. if b then Yields 0 else Refuses kind) is)

  pub follows_elem : {need fuel : ℕ} {mask : Mask} {K : Fact} (a i : ℕ) → a < 2 ^ 64 → Follows w l need fuel mask (One a i K) (λ (u v : Unit {0}). Both (One a i K) (λ n f s. a < 64)) (unless l.proc 7 (inside a 64)) (does Elem (i ∷ []))
  follows_elem {need} {fuel} {mask} {K} a i lt = subst (λ b. Follows w l need fuel mask (One a i K) (λ (u v : Unit {0}). Both (One a i K) (λ n f s. a < 64)) (unless l.proc 7 b) (does Elem (i ∷ []))) (up_to a 63 ∙ inside_same a 64 lt (omega arith))
      (follows_less w l (λ u v n f s h. (h.0, at_most h.1)) (tested a i 7 (λ x. nat_le x 63) Elem (λ f m s. refl)))
    where
      at_most : nat_le a 63 ≡ true → a < 64
      at_most h = grind (arith, nat_tests)

  pub follows_byte_test : {need fuel : ℕ} {mask : Mask} {K : Fact} (a i : ℕ) → a < 2 ^ 64 → Follows w l need fuel mask (One a i K) (λ (u v : Unit {0}). Both (One a i K) (λ n f s. a < 256)) (unless l.proc 11 (inside a 256)) (does Byte (i ∷ []))
  follows_byte_test {need} {fuel} {mask} {K} a i lt = subst (λ b. Follows w l need fuel mask (One a i K) (λ (u v : Unit {0}). Both (One a i K) (λ n f s. a < 256)) (unless l.proc 11 b) (does Byte (i ∷ []))) (up_to a 255 ∙ inside_same a 256 lt (omega arith))
      (follows_less w l (λ u v n f s h. (h.0, at_most h.1)) (tested a i 11 (λ x. nat_le x 255) Byte (λ f m s. refl)))
    where
      at_most : nat_le a 255 ≡ true → a < 256
      at_most h = grind (arith, nat_tests)
