-- INC, DEC, INCL, EXCL, ASSERT, Out and In.
use Rattle.std.proofs.Common.{◌≡◌, ℕ, ◌%◌, ◌<◌, List, [], ◌∷◌, ◌++◌, Bool, true, false, inl, refl, sym, ap, ap₂, ◌∙◌, subst, arith}
use Rattle.std.specs.Prelude.{if◌then◌else◌, nat_lt}
use Rattle.std.proofs.lemmas.Bool.Decides.{nat_tests}
use Rattle.run_laws.specs.Turns.{Gives, Fails, after, ◌>>=◌, give}
use Rattle.run_laws.specs.Turns.{State as At}
use Rattle.a64_memory.specs.Memory.{Area}
use Rattle.out_text.specs.Text.{int_text}
use Rattle.block_runs.specs.declared.code.Code.TheVariants.{Bit, Byte, True, Svc}
use Rattle.block_runs.specs.Effects.{Gives as Yields, Does, Fails as Refuses}
use Rattle.ob_types.specs.Store.{Cell, Bits, Address, Handed, Senseless, Act, given, fetch, put, place, bits, bits_in, unless, write}
use Rattle.ob_types.specs.Store.{Store as Objects}
use Rattle.ob_types.specs.Operators.{inside, elements, binary_of, holds}
use Rattle.ob_types.specs.Expressions.{quotient}
use Rattle.ob_types.specs.Statements.{change_number, change_set, assert, out_char, out_int}
use Rattle.ob_types.specs.declared.tree.Binary.{Binary}
use Rattle.ob_types.specs.declared.tree.Binary.TheVariants.{Add, Subtract, Union, Difference}
use Rattle.ssa_lowered.specs.Pieces.{Low, Mask, emits, does, skip}
use Rattle.ssa_lowered.specs.Pieces.{◌>>=◌ as ◌>>>◌}
use Rattle.ssa_lowered.specs.Values.{Home, current, change, two_operands}
use Rattle.ssa_lowered.specs.Statements.{change_number as lower_number, change_set as lower_set, assert as lower_assert, out_char as lower_char, out_int as lower_int}
use Rattle.lowered_runs.specs.Words.{Whole, Level, Right, Held, Apart}
use Rattle.lowered_runs.proofs.Stores.{later_refl}
use Rattle.lowered_runs.proofs.Ready.{Goes, world_of}
use Rattle.lowered_runs.proofs.Follows.{Fact, And as Both, Steady, steady_and, Grows, grows_bind, grows_give, grows_emits, grows_does, Follows, FollowsTo, follows_bind, follows_give, follows_known, follows_does, acts_give, acts_trap, acts_senseless, DoneTo, effect_at, ActsTo}
use Rattle.lowered_runs.proofs.Exprs.{CellIs, NumberIs, steady_number, follows_bits, follows_operated, follows_byte_test, grows_two}
use Rattle.lowered_runs.proofs.Sets.{regroup, follows_same, steady_element, tested, follows_member, grows_member, element_bits}
use Rattle.lowered_runs.proofs.Homes.{HomeIs, IsNarrow, steady_home, grows_current, grows_change, follows_current, follows_change, Nothing_more}

-- operators without a trap
abbrev pub Total : Binary → Type 0
Total Add = Unit {0}
Total Subtract = Unit {0}
Total Union = Unit {0}
Total Difference = Unit {0}
Total _ = ⊥

module _ (w : Whole) (l : Level) where
  -- two acts that come out the same
  pub follows_same_to : {A B : Type 0} {kept : Bool} {need fuel : ℕ} {mask : Mask} {K : Fact} {R : A → B → Fact} {low : Low B} (m n : Act A) → ((s : At Objects) → m s ≡ n s) → FollowsTo w l kept need fuel mask K R m low → FollowsTo w l kept need fuel mask K R n low
  follows_same_to {kept = kept} {mask = mask} {R = R} {low = low} m n same one = record {
    grows = one.grows;
    by = λ most g c f s room free le needs few stands fits within known typed r. subst (λ e. Goes w e (DoneTo w l kept R mask most g c (low c) s.store f free)) (same s) (one.by most g c f s room free le needs few stands fits within known typed r);
  }

  -- a quotient that has no trap is given
  total : (op : Binary) (f a b : ℕ) (s : At Objects) → Total op → ((n : ℕ) × (quotient f (binary_of op a b) s ≡ Gives (Bits n) s) × (given (binary_of op a b) s ≡ Gives n s))
  total Add f a b s t = (_, refl, refl)
  total Subtract f a b s t = (_, refl, refl)
  total Union f a b s t = (_, refl, refl)
  total Difference f a b s t = (_, refl, refl)
  total _ f a b s t = absurd t

  pub follows_given : {need fuel : ℕ} {mask : Mask} {K : Fact} (op : Binary) (a i b j : ℕ) → Total op → Steady w l K → Follows w l need fuel mask (Both (Both K (NumberIs w l a i)) (NumberIs w l b j)) (NumberIs w l) (given (binary_of op a b)) (two_operands op i j)
  follows_given {need} {fuel} {mask} {K} op a i b j t steady = follows_same w l (bits (quotient l.proc (binary_of op a b))) (given (binary_of op a b)) (λ s. let z = total op l.proc a b s t in ap (λ e. after e bits_of) z.1 ∙ sym z.2)
      (follows_bits w l (steady_and w l (steady_and w l steady (steady_number w l a i)) (steady_number w l b j)) (follows_operated w l op a i b j steady))
    where
      bits_of : Cell → Act ℕ
      bits_of c = bits_in c

  -- what was tested to be a BYTE is one
  abbrev Byte_is : Bool → ℕ → Type 0
  Byte_is true a = a < 256
  Byte_is false a = Unit {0}

  when_byte : {need fuel : ℕ} {mask : Mask} {K : Fact} (is_byte : Bool) (a i : ℕ) → Follows w l need fuel mask (Both K (NumberIs w l a i)) (λ (u v : Unit {0}). Both (Both K (NumberIs w l a i)) (λ n f s. Byte_is is_byte a)) (unless l.proc 11 (if is_byte then inside a 256 else true)) (if is_byte then does Byte (i ∷ []) else skip)
  when_byte true a i = record {
    grows = grows_does w l Byte (i ∷ []);
    by = λ most g c f s room free le needs few stands fits within known typed r. (follows_byte_test w l a i known.1.1.1).by most g c f s room free le needs few stands fits within known typed r;
  }
  when_byte false a i = follows_give w l tt tt (λ n f s k. (k, tt))

  -- a number that is stored by a byte was tested
  number_narrow : (small is_byte : Bool) (a : ℕ) → (small ≡ true → is_byte ≡ true) → Byte_is is_byte a → IsNarrow w l small (Bits a)
  number_narrow true true a byte lt = lt
  number_narrow true false a byte lt = absurd (differ (byte refl))
    where
      differ : false ≡ true → ⊥
      differ e = cc
  number_narrow false is_byte a byte lt = tt

  grows_byte : (is_byte : Bool) (i : ℕ) → Grows w l (if is_byte then does Byte (i ∷ []) else skip)
  grows_byte true i = grows_does w l _ _
  grows_byte false i = grows_give w l tt

  -- INC and DEC
  pub follows_number_change : {need fuel : ℕ} {mask : Mask} {K : Fact} {x : Act Cell} {q : Low Home} {t : Low ℕ} (right : Right w) (apart : Apart w l) (own : Mask) (small : Bool) (op : Binary) (d : Act Handed) (is_byte : Bool) → (small ≡ true → is_byte ≡ true) → Total op → Steady w l K → ((x : ℕ) → own x ≡ true → l.in_register x ≡ true → mask x ≡ true)
      → Follows w l need fuel mask K (HomeIs w l own small) (place d) q → Follows w l need fuel mask K (CellIs w l) x t → FollowsTo w l false need fuel mask K (Nothing_more w l) (change_number l.proc op d x is_byte) (lower_number op q t is_byte)
  follows_number_change right apart own small op d is_byte byte total steady masked one two = follows_bind w l steady one
      (λ h. grows_bind w l two.grows (λ n. grows_bind w l (grows_current w l h) (λ v. behind h v n)))
      (λ a h. follows_bind w l (steady_and w l steady (steady_home w l own small a h)) (follows_known w l (λ n f s k. k.0) (follows_bits w l steady two)) (λ n. grows_bind w l (grows_current w l h) (λ v. behind h v n))
      (λ b j. follows_bind w l (steady_and w l (steady_and w l steady (steady_home w l own small a h)) (steady_number w l b j))
      (follows_known w l (λ n f s k. ((k.0.0, k.1), k.0.1)) (follows_bits w l (steady_and w l (steady_and w l steady (steady_number w l b j)) (steady_home w l own small a h)) (follows_current w l own small a h))) (λ v. behind h v j)
      (λ v i. follows_bind w l (steady_and w l (steady_and w l (steady_and w l steady (steady_home w l own small a h)) (steady_number w l b j)) (steady_number w l v i))
      (follows_known w l (λ n f s k. (((k.0.0.0, k.0.0.1), k.1), k.0.1)) (follows_given op v i b j total (steady_and w l steady (steady_home w l own small a h)))) (λ z. grows_bind w l (grows_byte is_byte z) (λ u. grows_change w l h z))
      (λ c z. follows_bind w l (steady_and w l (steady_and w l (steady_and w l (steady_and w l steady (steady_home w l own small a h)) (steady_number w l b j)) (steady_number w l v i)) (steady_number w l c z)) (when_byte is_byte c z) (λ u. grows_change w l h z)
      (λ u y. follows_known w l {K = Both (Both (λ n f s. Byte_is is_byte c) (HomeIs w l own small a h)) (CellIs w l (Bits c) z)} (λ n f s k. ((k.1.1, k.0.0.0.0.1), k.0.1)) (follows_change w l right apart own small a (Bits c) h z masked (λ n f s k. number_narrow small is_byte c byte k)))))))
    where
      behind : (h : Home) (v n : ℕ) → Grows w l (two_operands op v n >>> λ z. (if is_byte then does Byte (z ∷ []) else skip) >>> λ u. change h z)
      behind h v n = grows_bind w l (grows_two w l op v n) (λ z. grows_bind w l (grows_byte is_byte z) (λ u. grows_change w l h z))

  -- INCL and EXCL
  pub follows_set_change : {need fuel : ℕ} {mask : Mask} {K : Fact} {x : Act Cell} {q : Low Home} {t : Low ℕ} (right : Right w) (apart : Apart w l) (own : Mask) (op : Binary) (d : Act Handed) → Total op → Steady w l K → ((x : ℕ) → own x ≡ true → l.in_register x ≡ true → mask x ≡ true)
      → Follows w l need fuel mask K (HomeIs w l own false) (place d) q → Follows w l need fuel mask K (CellIs w l) x t → FollowsTo w l false need fuel mask K (Nothing_more w l) (change_set l.proc op d x) (lower_set op q t)
  follows_set_change {x = x} {t = low} right apart own op d total steady masked one two = follows_bind w l steady one
      (λ h. grows_bind w l (grows_member w l two.grows) (λ i. behind h i))
      (λ a h. follows_same_to (tested w l x >>= λ n. rest a n) (bits x >>= λ n. unless l.proc 7 (inside n 64) >>= λ _. rest a n)
      (λ s. regroup (λ n. unless l.proc 7 (inside n 64)) (rest a) (bits x s))
      (follows_bind w l (steady_and w l steady (steady_home w l own false a h)) (follows_known w l (λ n f s k. k.0) (follows_member w l steady two)) (λ i. behind h i)
      (λ n i. follows_bind w l {m = give tt} {h = λ (u : Unit {0}). rest a n} (steady_and w l (steady_and w l steady (steady_home w l own false a h)) (steady_element w l n i)) (element_bits w l n i) (λ e. after_bit h e)
      (λ u e. follows_bind w l (steady_and w l (steady_and w l (steady_and w l steady (steady_home w l own false a h)) (steady_element w l n i)) (steady_number w l (elements n n) e))
      (follows_known w l (λ n f s k. ((k.0.0.0, k.1), k.0.0.1)) (follows_bits w l (steady_and w l (steady_and w l steady (steady_number w l (elements n n) e)) (steady_home w l own false a h)) (follows_current w l own false a h))) (λ v. grows_bind w l (grows_two w l op v e) (λ z. grows_change w l h z))
      (λ v j. follows_bind w l (steady_and w l (steady_and w l (steady_and w l (steady_and w l steady (steady_home w l own false a h)) (steady_element w l n i)) (steady_number w l (elements n n) e)) (steady_number w l v j))
      (follows_known w l (λ n f s k. (((k.0.0.0.0, k.0.0.0.1), k.1), k.0.1)) (follows_given op v j (elements n n) e total (steady_and w l steady (steady_home w l own false a h)))) (λ z. grows_change w l h z)
      (λ c z. follows_known w l (λ n f s k. ((k.0.0.0.0.0, k.0.0.0.0.1), k.1)) (follows_change w l right apart own false a (Bits c) h z masked (λ n f s k. tt))))))))
    where
      rest : Address → ℕ → Act (Unit {0})
      rest a n = bits (fetch a) >>= λ v. given (binary_of op v (elements n n)) >>= λ z. put a (Bits z)

      after_bit : (h : Home) (e : ℕ) → Grows w l (current h >>> λ v. two_operands op v e >>> λ z. change h z)
      after_bit h e = grows_bind w l (grows_current w l h) (λ v. grows_bind w l (grows_two w l op v e) (λ z. grows_change w l h z))

      behind : (h : Home) (i : ℕ) → Grows w l (emits Bit (i ∷ []) >>> λ e. current h >>> λ v. two_operands op v e >>> λ z. change h z)
      behind h i = grows_bind w l (grows_emits w l Bit (i ∷ [])) (λ e. after_bit h e)

  -- ASSERT
  pub follows_assert : {need fuel : ℕ} {mask : Mask} {K : Fact} {x : Act Cell} {t : Low ℕ} → Steady w l K → Follows w l need fuel mask K (CellIs w l) x t → Follows w l need fuel mask K (Nothing_more w l) (assert l.proc x) (lower_assert t)
  follows_assert {K = K} steady one = follows_bind w l steady (follows_bits w l steady one) (λ i. grows_does w l True (i ∷ []))
      (λ a i. follows_does w l True (i ∷ []) (λ n f m s held known. by n f m s held a i known.1.1.0 (holds a) refl))
    where
      by : (n : ℕ) (f : ℕ → ℕ) (m : List Area) (s : At Objects) → Held w l s.store m → (a i : ℕ) → f i ≡ a → (t : Bool) → holds a ≡ t → ActsTo w l true (λ (u : Unit {0}) (x : ℕ) (t : Objects). Unit {0}) (unless l.proc 5 (holds a) s) s m (effect_at w l f m s.store True (i ∷ []))
      by n f m s held a i e true is = acts_give w l tt 0 held (ap (λ b. unless l.proc 5 b s) is) (ap (λ x. if holds x then Yields 0 else Refuses 5) e ∙ ap (λ b. if b then Yields 0 else Refuses 5) is) tt
      by n f m s held a i e false is = acts_trap w l 5 (ap (λ b. unless l.proc 5 b s) is) (ap (λ x. if holds x then Yields 0 else Refuses 5) e ∙ ap (λ b. if b then Yields 0 else Refuses 5) is)

  -- Out.Char
  pub follows_out_char : {need fuel : ℕ} {mask : Mask} {K : Fact} {x : Act Cell} {t : Low ℕ} → Steady w l K → Follows w l need fuel mask K (CellIs w l) x t → Follows w l need fuel mask K (Nothing_more w l) (out_char x) (lower_char t)
  follows_out_char {K = K} steady one = follows_bind w l steady (follows_bits w l steady one) (λ i. grows_does w l (Svc 1) (i ∷ []))
      (λ a i. follows_does w l (Svc 1) (i ∷ []) (λ n f m s held known. by n f m s held a i known.1.1.0 (nat_lt a 256) refl))
    where
      by : (n : ℕ) (f : ℕ → ℕ) (m : List Area) (s : At Objects) → Held w l s.store m → (a i : ℕ) → f i ≡ a → (t : Bool) → nat_lt a 256 ≡ t → ActsTo w l true (λ (u : Unit {0}) (x : ℕ) (t : Objects). Unit {0}) ((if nat_lt a 256 then write (a ∷ []) else (λ s. Fails Senseless s.out)) s) s m (effect_at w l f m s.store (Svc 1) (i ∷ []))
      by n f m s held a i e true is = inl (record {
        a = tt;
        state = record s { out = s.out ++ a ∷ [] };
        memory = m;
        bytes = a ∷ [];
        x = 0;
        gives = ap (λ b. (if b then write (a ∷ []) else (λ s. Fails Senseless s.out)) s) is;
        does = inl (ap (λ x. Does (x ∷ []) (world_of w l m s.store) 0) (small e (below is)));
        turns = refl;
        out = refl;
        held = held;
        later = later_refl w l s.store;
        registers = λ y lt r v e. e;
        is = tt;
        typed = λ t. t;
      })
        where
          below : nat_lt a 256 ≡ true → a < 256
          below h = grind (arith, nat_tests)

          small : f i ≡ a → a < 256 → f i % 256 ≡ a
          small e lt = omega (arith, e, lt)
      by n f m s held a i e false is = acts_senseless w l (ap (λ b. (if b then write (a ∷ []) else (λ s. Fails Senseless s.out)) s) is)

  -- Out.Int
  pub follows_out_int : {need fuel : ℕ} {mask : Mask} {K : Fact} {x y : Act Cell} {t u : Low ℕ} → Steady w l K → Follows w l need fuel mask K (CellIs w l) x t → Follows w l need fuel mask K (CellIs w l) y u → Follows w l need fuel mask K (Nothing_more w l) (out_int x y) (lower_int t u)
  follows_out_int {K = K} steady one two = follows_bind w l steady (follows_bits w l steady one) (λ i. grows_bind w l two.grows (λ j. grows_does w l (Svc 2) (i ∷ j ∷ [])))
      (λ a i. follows_bind w l (steady_and w l steady (steady_number w l a i)) (follows_known w l (λ n f s k. k.0) (follows_bits w l steady two)) (λ j. grows_does w l (Svc 2) (i ∷ j ∷ []))
      (λ b j. follows_does w l (Svc 2) (i ∷ j ∷ []) (λ n f m s held known. inl (record {
        a = tt;
        state = record s { out = s.out ++ int_text a b };
        memory = m;
        bytes = int_text a b;
        x = 0;
        gives = refl;
        does = inl (ap₂ (λ x y. Does (int_text x y) (world_of w l m s.store) 0) known.0.1.1.0 known.1.1.0);
        turns = refl;
        out = refl;
        held = held;
        later = later_refl w l s.store;
        registers = λ y lt r v e. e;
        is = tt;
        typed = λ t. t;
      }))))
