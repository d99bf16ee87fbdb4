-- In.Char.
use Rattle.std.proofs.Common.{Bool, ◌≡◌, ℕ, suc, ◌+◌, ◌<◌, ◌≤◌, ◌^◌, List, [], ◌∷◌, ◌++◌, drop, true, false, cond, inl, inr, refl, sym, ap, ◌∙◌, subst, arith, Option, Some, None}
use Rattle.std.specs.Prelude.{if◌then◌else◌, ◌-◌, nat_lt, int_lt, int_le, pos, slice_index_or}
use Rattle.std.proofs.lemmas.Bool.Decides.{nat_tests}
use Rattle.run_laws.specs.Turns.{◌>>=◌, give}
use Rattle.run_laws.specs.Turns.{State as Moment}
use Rattle.a64_memory.specs.Memory.{Area}
use Rattle.wrapping_numbers.specs.Numbers.{signed}
use Rattle.a64_memory.specs.Areas.{data_base}
use Rattle.block_runs.specs.Compares.{compares}
use Rattle.block_runs.specs.declared.code.Code.TheVariants.{Svc, Set, Global, Max0, Const, Store, StoreByte}
use Rattle.block_runs.specs.Steps.{set}
use Rattle.block_runs.specs.Effects.{Does}
use Rattle.ob_types.specs.Forms.{all}
use Rattle.ob_types.specs.Operators.{truth}
use Rattle.ob_types.specs.Store.{Bits, Address, Handed, Act, Globals, Frames, Heap, Strings, given, put, address_in, objects, cell_of}
use Rattle.ob_types.specs.Store.{Area as Area_of}
use Rattle.ob_types.specs.Store.{Store as Objects}
use Rattle.ob_types.specs.Statements.{Deed, done, next_byte, next_byte_of, receive, in_char}
use Rattle.ob_types.specs.WellFormed.{Named as Thing}
use Rattle.ob_types.proofs.Tests.{and_of}
use Rattle.ob_sound.proofs.Typed.{Sound, Any, Older, lt_of}
use Rattle.ssa_lowered.specs.Pieces.{Low, Mask, emits}
use Rattle.ssa_lowered.specs.Pieces.{◌>>=◌ as ◌>>>◌}
use Rattle.ssa_lowered.specs.Values.{Named, Memory, const, store}
use Rattle.ssa_lowered.specs.Statements.{in_char as lower_in}
use Rattle.object_nodes.specs.Running.{forms_of_all}
use Rattle.ob_types.specs.Forms.{Form, Truth}
use Rattle.ob_types.specs.Trees.{Scalar}
use Rattle.held_stores.specs.Held.{takes_byte}
use Rattle.lowered_runs.specs.Words.{Whole, Level, Right, ground, Held, AddressIs, Apart}
use Rattle.lowered_runs.proofs.Stores.{later_refl}
use Rattle.lowered_runs.proofs.Values.{put_here}
use Rattle.lowered_runs.proofs.Ready.{world_of}
use Rattle.lowered_runs.proofs.Follows.{follows_less, Fact, Steady, steady_and, Grows, grows_bind, grows_emits, grows_does, Follows, FollowsTo, follows_bind, follows_known, follows_sound, follows_emits, acts_give, ActsTo, effect_at}
use Rattle.lowered_runs.proofs.Exprs.{CellIs, steady_cell}
use Rattle.lowered_runs.proofs.Forks.{after_after}
use Rattle.lowered_runs.proofs.Homes.{narrow_bits, Nothing_more, follows_change}
use Rattle.lowered_runs.proofs.Elements.{steady_const, follows_const}
use Rattle.lowered_runs.proofs.Deeds.{follows_same_to}
use Rattle.lowered_runs.proofs.Designators.{tree_of, NamedIs, steady_named, grows_address, RowIs, steady_row, follows_address}

-- what a read gives: a byte, or a number below 0 where there is none
abbrev number_in : Option ℕ → ℕ
number_in None = 2 ^ 64 - 1
number_in (Some x) = x

abbrev few_in : Option ℕ → Type 0
few_in None = Unit {0}
few_in (Some x) = x < 256

abbrev flag_of : Option ℕ → ℕ
flag_of None = 0
flag_of (Some x) = 1

abbrev byte_of : Option ℕ → ℕ
byte_of None = 0
byte_of (Some x) = x

flag_is : (x : Option ℕ) → few_in x → truth (compares 10 (number_in x) 0) ≡ flag_of x
flag_is None few = refl
flag_is (Some x) few = ap truth (by x few)
  where
    by : (x : ℕ) → x < 256 → int_le (signed 0) (signed x) ≡ true
    by x few = grind (arith, nat_tests)

byte_is : (x : Option ℕ) → few_in x → cond (int_lt (signed (number_in x)) (pos 0)) 0 (number_in x) ≡ byte_of x
byte_is None few = refl
byte_is (Some x) few = ap (λ b. cond b 0 x) (by x few)
  where
    by : (x : ℕ) → x < 256 → int_lt (signed x) (pos 0) ≡ false
    by x few = grind (arith, nat_tests)

flag_few : (x : Option ℕ) → flag_of x < 2 ^ 64
flag_few None = omega arith
flag_few (Some x) = omega arith

byte_few : (x : Option ℕ) → few_in x → byte_of x < 2 ^ 64
byte_few None few = omega arith
byte_few (Some x) few = omega (arith, few)

byte_small : (x : Option ℕ) → few_in x → byte_of x < 256
byte_small None few = omega arith
byte_small (Some x) few = few

flag_one : (x : Option ℕ) → flag_of x ≤ 1
flag_one None = omega arith
flag_one (Some x) = omega arith

append_none : (xs : List ℕ) → xs ≡ xs ++ []
append_none [] = refl
append_none (x ∷ xs) = ap (λ ys. x ∷ ys) (append_none xs)

module _ (w : Whole) (l : Level) where
  abbrev InIs : Option ℕ → ℕ → Fact
  InIs x c n f s = (c < n) × (f c ≡ number_in x) × few_in x

  steady_in : (x : Option ℕ) (c : ℕ) → Steady w l (InIs x c)
  steady_in x c = record { by = λ n m f g s t le same later h. let lt = h.0 in (omega (arith, le, lt), same c h.0 ∙ h.1, h.2) }

  -- the input without its first byte
  abbrev shorter_input : Moment Objects → List ℕ → Moment Objects
  shorter_input s xs = record s { store = record s.store { input = xs } }

  stay : (s : Moment Objects) (xs : List ℕ) (a : Area_of) → objects a (shorter_input s xs).store ≡ objects a s.store
  stay s xs Globals = refl
  stay s xs Frames = refl
  stay s xs Heap = refl
  stay s xs Strings = refl

  follows_read : {need fuel : ℕ} {mask : Mask} {K : Fact} → Follows w l need fuel mask K InIs next_byte (emits (Svc 4) [])
  follows_read {K = K} = follows_emits w l (Svc 4) [] (λ n f m s held known. by n f m s held s.store.input refl)
    where
      by : (n : ℕ) (f : ℕ → ℕ) (m : List Area) (s : Moment Objects) → Held w l s.store m → (xs : List ℕ) → s.store.input ≡ xs → ActsTo w l true (λ a x t. InIs a n (suc n) (set f n x) t) (next_byte s) s m (effect_at w l f m s.store (Svc 4) [])
      by n f m s held [] e = inl (record {
        a = None;
        state = s;
        memory = m;
        bytes = [];
        x = 2 ^ 64 - 1;
        gives = ap (λ xs. next_byte_of xs s) e;
        does = inl (ap (λ xs. Does [] (record (world_of w l m s.store) { input = drop 1 xs }) (slice_index_or xs 0 (2 ^ 64 - 1))) e ∙ ap (λ xs. Does [] (record (world_of w l m s.store) { input = xs }) (2 ^ 64 - 1)) (sym e));
        turns = refl;
        out = append_none s.out;
        held = held;
        later = later_refl w l s.store;
        registers = λ y lt r v e. e;
        is = (omega arith, put_here n (2 ^ 64 - 1) f, tt);
        typed = λ t. t;
      })
      by n f m s held (x ∷ xs) e =
          let bytes : all (λ x. nat_lt x 256) (x ∷ xs) ≡ true = subst (λ xs. all (λ x. nat_lt x 256) xs ≡ true) e held.input in
          let parts = and_of (nat_lt x 256) (all (λ x. nat_lt x 256) xs) bytes in
          inl (record {
            a = Some x;
            state = shorter_input s xs;
            memory = m;
            bytes = [];
            x = x;
            gives = ap (λ xs. next_byte_of xs s) e;
            does = inl (ap (λ xs. Does [] (record (world_of w l m s.store) { input = drop 1 xs }) (slice_index_or xs 0 (2 ^ 64 - 1))) e);
            turns = refl;
            out = append_none s.out;
            held = record { room = held.room; frames = held.frames; areas = held.areas; rises = held.rises; bytes = held.bytes; holds = λ a o v c b y i value node begins is. held.holds a o v c b y i value node begins (ap (λ ys. cell_of ys o c) (sym (stay s xs a)) ∙ is); tags = held.tags; entries = held.entries; tagged = held.tagged; counted = held.counted; zeros = held.zeros; input = parts.1 };
            later = record { globals = refl; strings = refl; next = omega arith; place = λ o i e. e; tag = λ o k e. e; still = λ o v c b i lt node none. refl };
            registers = λ y lt r v e. e;
            is = (omega arith, put_here n x f, lt_of w.program x 256 parts.0);
            typed = λ t. record { cells = λ a k at. let r = t.cells a k at in (r.0, ap (λ ys. cell_of ys a.object a.cell) (stay s xs a.area) ∙ r.1, r.2); depth = t.depth; tagged = t.tagged; bytes = parts.1 };
          })

  abbrev received : Address → Option ℕ → Deed
  received a x = put done (Bits (flag_of x)) >>= λ _. put a (Bits (byte_of x))

  received_is : (a : Address) (x : Option ℕ) (s : Moment Objects) → received a x s ≡ receive a x s
  received_is a None s = refl
  received_is a (Some x) s = refl

  pub follows_in_char : {need fuel : ℕ} {mask : Mask} {K : Fact} {q : Low Named} (right : Right w) (apart : Apart w l) (own : Mask) (d : Thing) (place_of : Act Handed) → Steady w l K → ((x : ℕ) → own x ≡ true → l.in_register x ≡ false) → (small done_small : Bool) (form : Form) → small ≡ takes_byte (ground w) form → done_small ≡ takes_byte (ground w) Truth → ((h : Handed) → tree_of w l d h ≡ Scalar form) → ((s : Objects) → AddressIs w l done (Scalar Truth) (data_base + 0) s)
      → ((n : ℕ) → n ≤ 1 → (tags : List ℕ) → Older l.store.tags tags → Sound w.program (forms_of_all w.program l.types) tags (Any w.program) (put done (Bits n)))
      → Follows w l need fuel mask K (NamedIs w l own d) place_of q → FollowsTo w l false need fuel mask K (Nothing_more w l) (in_char place_of) (lower_in q done_small small)
  follows_in_char {need} {fuel} {mask} {K} {q} right apart own d place_of steady never small done_small form width done_width scalar at sound one =
      follows_same_to w l (place_of >>= λ h. given (address_in h) >>= λ a. next_byte >>= λ x. receive a x) (in_char place_of) (λ s. sym (after_after (place_of s) (λ h. given (address_in h)) (λ a. next_byte >>= λ x. receive a x)))
      (follows_bind w l steady one (λ h. grows_bind w l (grows_address w l h 0) (λ i. grows_read i))
      (λ h v. follows_bind w l (steady_and w l steady (steady_named w l own d h v)) (follows_less w l (λ a i n f s k. (k.0, subst (λ t. AddressIs w l a t (f i) s) (scalar h) k.1)) (follows_address w l own d h v (inr never))) (λ i. grows_read i)
      (λ a i. let known = steady_and w l (steady_and w l steady (steady_named w l own d h v)) (steady_row w l (Scalar form) a i) in
      follows_bind w l known follows_read (λ c. grows_flag i c)
      (λ x c. follows_same_to w l (received a x) (receive a x) (received_is a x)
      (follows_bind w l {m = give tt} {h = λ (u : Unit {0}). received a x} (steady_and w l known (steady_in x c)) (follows_const w l 0) (λ z. grows_set i c z)
      (λ u z. let known2 = steady_and w l (steady_and w l known (steady_in x c)) (steady_const w l 0 z) in
      follows_bind w l {m = give tt} {h = λ (u : Unit {0}). received a x} known2
      (follows_emits w l {R = λ (u : Unit {0}) b. CellIs w l (Bits (flag_of x)) b} (Set 10) (c ∷ z ∷ []) (λ n f m s held k. acts_give w l tt (truth (compares 10 (f c) (f z))) held refl refl
      (omega arith, (put_here n (truth (compares 10 (f c) (f z))) f ∙ ap (λ y. truth (compares 10 y (f z))) k.0.1.1 ∙ ap (λ y. truth (compares 10 (number_in x) y)) k.1.1 ∙ flag_is x k.0.1.2, flag_few x)))) (λ b. grows_done i c b)
      (λ u b. let known3 = steady_and w l known2 (steady_cell w l (Bits (flag_of x)) b) in
      follows_bind w l {m = give tt} {h = λ (u : Unit {0}). received a x} known3
      (follows_emits w l {R = λ (u : Unit {0}) g. RowIs w l (Scalar Truth) done g} (Global 0) [] (λ n f m s held k. acts_give w l tt (data_base + 0) held refl refl
      (omega arith, subst (λ y. AddressIs w l done (Scalar Truth) y s.store) (sym (put_here n (data_base + 0) f)) (at s.store)))) (λ g. grows_store i c b g)
      (λ u g. let known4 = steady_and w l known3 (steady_row w l (Scalar Truth) done g) in
      follows_bind w l known4
      (follows_sound w l {P = Any w.program} (λ tags older. sound (flag_of x) (flag_one x) tags older) (follows_known w l (λ n f s k. ((k, (k.1.0, (Truth, refl, done_width, k.1.1))), k.0.1)) (follows_change w l right apart own done_small done (Bits (flag_of x)) (Memory g done_small) b (λ y e reg. absurd (differ (sym reg ∙ never y e))) (λ n f s k. narrow_bits w l done_small (flag_of x) (let z = flag_one x in omega (arith, z)))))) (λ u. grows_last i c)
      (λ u u2. follows_bind w l {m = give tt} {h = λ (u : Unit {0}). put a (Bits (byte_of x))} (steady_and w l known4 (steady_always))
      (follows_emits w l {R = λ (u : Unit {0}) y. CellIs w l (Bits (byte_of x)) y} Max0 (c ∷ []) (λ n f m s held k. acts_give w l tt (cond (int_lt (signed (f c)) (pos 0)) 0 (f c)) held refl refl
      (omega arith, (put_here n (cond (int_lt (signed (f c)) (pos 0)) 0 (f c)) f ∙ ap (λ y. cond (int_lt (signed y) (pos 0)) 0 y) k.0.0.0.0.1.1 ∙ byte_is x k.0.0.0.0.1.2, byte_few x k.0.0.0.0.1.2)))) (λ y. grows_does w l _ _)
      (λ u y. follows_known w l (λ n f s k. ((k, (k.0.0.0.0.0.0.1.0, (form, refl, width, k.0.0.0.0.0.0.1.1))), k.1)) (follows_change w l right apart own small a (Bits (byte_of x)) (Memory i small) y (λ y e reg. absurd (differ (sym reg ∙ never y e))) (λ n f s k. narrow_bits w l small (byte_of x) (byte_small x k.0.0.0.0.0.1.2)))))))))))))
    where
      differ : true ≡ false → ⊥
      differ e = cc

      steady_always : Steady w l (λ n f s. Unit {0} × Unit {0})
      steady_always = record { by = λ n m f g s t le same later h. h }

      grows_last : (i c : ℕ) → Grows w l (emits Max0 (c ∷ []) >>> λ v. store small i v)
      grows_last i c = grows_bind w l (grows_emits w l Max0 (c ∷ [])) (λ v. grows_does w l (if small then StoreByte else Store) (i ∷ v ∷ []))

      grows_store : (i c b g : ℕ) → Grows w l (store done_small g b >>> λ _. emits Max0 (c ∷ []) >>> λ v. store small i v)
      grows_store i c b g = grows_bind w l (grows_does w l (if done_small then StoreByte else Store) (g ∷ b ∷ [])) (λ u. grows_last i c)

      grows_done : (i c b : ℕ) → Grows w l (emits (Global 0) [] >>> λ g. store done_small g b >>> λ _. emits Max0 (c ∷ []) >>> λ v. store small i v)
      grows_done i c b = grows_bind w l (grows_emits w l (Global 0) []) (λ g. grows_store i c b g)

      grows_set : (i c z : ℕ) → Grows w l (emits (Set 10) (c ∷ z ∷ []) >>> λ b. emits (Global 0) [] >>> λ g. store done_small g b >>> λ _. emits Max0 (c ∷ []) >>> λ v. store small i v)
      grows_set i c z = grows_bind w l (grows_emits w l (Set 10) (c ∷ z ∷ [])) (λ b. grows_done i c b)

      grows_flag : (i c : ℕ) → Grows w l (const 0 >>> λ z. emits (Set 10) (c ∷ z ∷ []) >>> λ b. emits (Global 0) [] >>> λ g. store done_small g b >>> λ _. emits Max0 (c ∷ []) >>> λ v. store small i v)
      grows_flag i c = grows_bind w l (grows_emits w l (Const 0) []) (λ z. grows_set i c z)

      grows_read : (i : ℕ) → Grows w l (emits (Svc 4) [] >>> λ c. const 0 >>> λ z. emits (Set 10) (c ∷ z ∷ []) >>> λ b. emits (Global 0) [] >>> λ g. store done_small g b >>> λ _. emits Max0 (c ∷ []) >>> λ v. store small i v)
      grows_read i = grows_bind w l (grows_emits w l (Svc 4) []) (λ c. grows_flag i c)
