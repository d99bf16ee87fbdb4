-- Texts compared: a turn for each position.
use Rattle.std.proofs.Common.{◌≡◌, ℕ, zero, suc, ◌+◌, ◌*◌, ◌^◌, ◌<◌, ◌≤◌, ⊎_elim, List, [], ◌∷◌, length, cond, Bool, true, false, ◌&&◌, slice_index, refl, sym, ap, ap₂, ◌∙◌, subst, arith, Option, Some, ne_eqb}
use Rattle.std.specs.Prelude.{MatchBool, nat_lt, nat_le, if◌then◌else◌, ◌==◌}
use Rattle.std.proofs.lemmas.Bool.{cases_lt}
use Rattle.std.proofs.lemmas.Bool.Decides.{nat_tests}
use Rattle.run_laws.specs.Runs.{Moves, weigh}
use Rattle.run_laws.specs.Turns.{Ending, Gives, Fails, Spent, after, give, ◌>>=◌}
use Rattle.run_laws.specs.Turns.{State as At}
use Rattle.run_laws.proofs.Reached.{pass_quiet, moment, loosen}
use Rattle.run_laws.proofs.Comes.{comes_each}
use Rattle.a64_memory.specs.Memory.{Area, load1}
use Rattle.wrapping_numbers.specs.Numbers.{add64, sub64}
use Rattle.block_runs.specs.Blocks.{Operation}
use Rattle.block_runs.specs.States.{Frame, State, Works, CompareHead, CompareCell, Point, In}
use Rattle.block_runs.specs.States.{At as In_routine, CompareAtHead, CompareAtCell}
use Rattle.block_runs.specs.Steps.{set, resumed, rest_of, char_at}
use Rattle.block_runs.specs.Steps.{compared as compared_at}
use Rattle.block_runs.specs.Points.{least}
use Rattle.ob_types.specs.Sense.{HasSense}
use Rattle.ob_types.specs.Store.{spend_all}
use Rattle.ob_types.specs.Store.{Store as Objects}
use Rattle.ob_types.specs.Operators.{text_of, text_order, text_common}
use Rattle.ob_types.proofs.Tests.{no}
use Rattle.ssa_core.specs.declared.procedure.Op.{Op}
use Rattle.ssa_core.specs.Procedures.{operation_of}
use Rattle.ssa_lowered.specs.Pieces.{Cursor}
use Rattle.block_runs.specs.Effects.{char_bytes}
use Rattle.ob_types.specs.Forms.{Small}
use Rattle.ob_types.specs.Trees.{Array, Scalar}
use Rattle.lowered_runs.specs.Words.{same_trap, Whole, Level, Right, Apart, ValueIs, Held, Later}
use Rattle.block_runs.specs.declared.code.Code.TheVariants.{Const, Set, Compare}
use Rattle.block_runs.specs.Compares.{compares}
use Rattle.ob_types.specs.Forms.{types_fine}
use Rattle.ob_types.specs.Store.{Cell, Bits, Handed, Span, Act, Trap, span}
use Rattle.ob_types.specs.Operators.{truth, related}
use Rattle.ob_types.specs.Expressions.{bits_from, text_in, texts_compared}
use Rattle.ob_types.specs.WellFormed
use Rattle.ob_types.specs.WellFormed.{Elementary}
use Rattle.ob_types.specs.WellFormed.{Named as Thing}
use Rattle.ob_types.specs.declared.tree.Relation.{Relation}
use Rattle.ob_types.specs.declared.tree.Relation.TheVariants.{Equal, Unequal, Less, LessEqual, Greater, GreaterEqual}
use Rattle.ob_sound.proofs.Numbers.{truth_lt}
use Rattle.ssa_lowered.specs.Pieces.{Low, Mask, emits}
use Rattle.ssa_lowered.specs.Pieces.{◌>>=◌ as ◌>>>◌}
use Rattle.ssa_lowered.specs.Values.{Named, const, condition, bytes_in}
use Rattle.ssa_lowered.specs.Values.{address_in as lower_address, texts_compared as lower_compared}
use Rattle.lowered_runs.proofs.Stores.{later_refl, address_few}
use Rattle.lowered_runs.proofs.Values.{put_here, put_same, under_at, under_more, off_refl}
use Rattle.lowered_runs.proofs.Ready.{position, system, world_of, frame_at, runs_at, Goes, Came_to, Registers, Typing}
use Rattle.lowered_runs.proofs.Follows.{Fact, And as Both, Steady, steady_and, Grows, grows_bind, grows_emits, Follows, Done, follows_bind, follows_known, follows_emits, op_step, op_pays, then_goes, acts_give}
use Rattle.lowered_runs.proofs.Exprs.{CellIs, made_bits}
use Rattle.lowered_runs.proofs.Sets.{follows_same}
use Rattle.lowered_runs.proofs.Designators.{DesignatorIs, grows_address}
use Rattle.lowered_runs.proofs.Elements.{ConstIs, steady_const, follows_const, LengthIn, SpanIs, span_by, spanned_same}
use Rattle.lowered_runs.proofs.Copies.{few_times, follows_bytes, grows_bytes}
use Rattle.lowered_runs.proofs.Texts.{Reads, TextIs, steady_text, NamedText, steady_named_text, text_at_span, follows_spanned}

-- positions of two texts

-- both characters are the same, and none of them 0
abbrev go_on : List ℕ → List ℕ → ℕ → Bool
go_on xs ys i = slice_index xs i == slice_index ys i && nat_lt 0 (slice_index xs i)

abbrev common : List ℕ → List ℕ → ℕ
common xs ys = text_common (text_of xs) (text_of ys)

and_no : (b : Bool) → (b && false) ≡ false
and_no true = refl
and_no false = refl

positive : (x : ℕ) → nat_lt 0 (suc x) ≡ true
positive x = grind (arith, nat_tests)

no_zero : (x : ℕ) → (suc x == 0) ≡ false
no_zero x = ne_eqb (suc x) 0 (λ e. absurd (omega (arith, e)))

go_before : (xs ys : List ℕ) (i : ℕ) → i < common xs ys → go_on xs ys i ≡ true
go_before [] ys i lt = absurd (omega (arith, lt))
go_before (zero ∷ xs) ys i lt = absurd (omega (arith, lt))
go_before (suc x ∷ xs) [] i lt = absurd (omega (arith, lt))
go_before (suc x ∷ xs) (zero ∷ ys) i lt = absurd (omega (arith, lt))
go_before (suc x ∷ xs) (suc y ∷ ys) i lt = by (suc x == suc y) refl (λ j less. go_before xs ys j less) i lt
  where
    by : (b : Bool) → (suc x == suc y) ≡ b → ((j : ℕ) → j < common xs ys → go_on xs ys j ≡ true) → (i : ℕ) → i < (if b then suc (common xs ys) else 0) → go_on (suc x ∷ xs) (suc y ∷ ys) i ≡ true
    by false e rest i less = absurd (omega (arith, less))
    by true e rest zero less = ap₂ (λ b c. b && c) e (positive x)
    by true e rest (suc i) less = rest i (omega (arith, less))

stop_there : (xs ys : List ℕ) → go_on xs ys (common xs ys) ≡ false
stop_there [] [] = and_no (0 == 0)
stop_there [] (zero ∷ ys) = and_no (0 == 0)
stop_there [] (suc y ∷ ys) = and_no (0 == suc y)
stop_there (zero ∷ xs) [] = and_no (0 == 0)
stop_there (zero ∷ xs) (zero ∷ ys) = and_no (0 == 0)
stop_there (zero ∷ xs) (suc y ∷ ys) = and_no (0 == suc y)
stop_there (suc x ∷ xs) [] = ap (λ b. b && nat_lt 0 (suc x)) (no_zero x)
stop_there (suc x ∷ xs) (zero ∷ ys) = ap (λ b. b && nat_lt 0 (suc x)) (no_zero x)
stop_there (suc x ∷ xs) (suc y ∷ ys) = by (suc x == suc y) refl (stop_there xs ys)
  where
    by : (b : Bool) → (suc x == suc y) ≡ b → go_on xs ys (common xs ys) ≡ false → go_on (suc x ∷ xs) (suc y ∷ ys) (if b then suc (common xs ys) else 0) ≡ false
    by true e rest = rest
    by false e rest = ap (λ b. b && nat_lt 0 (suc x)) e

-- the relation is that of the characters there
pub order_there : (r : ℕ → ℕ → Bool) (xs ys : List ℕ) → text_order r (text_of xs) (text_of ys) ≡ r (slice_index xs (common xs ys)) (slice_index ys (common xs ys))
order_there r [] [] = refl
order_there r [] (zero ∷ ys) = refl
order_there r [] (suc y ∷ ys) = refl
order_there r (zero ∷ xs) [] = refl
order_there r (zero ∷ xs) (zero ∷ ys) = refl
order_there r (zero ∷ xs) (suc y ∷ ys) = refl
order_there r (suc x ∷ xs) [] = refl
order_there r (suc x ∷ xs) (zero ∷ ys) = refl
order_there r (suc x ∷ xs) (suc y ∷ ys) = by (suc x == suc y) (order_there r xs ys)
  where
    by : (b : Bool) → text_order r (text_of xs) (text_of ys) ≡ r (slice_index xs (common xs ys)) (slice_index ys (common xs ys)) → (if b then text_order r (text_of xs) (text_of ys) else r (suc x) (suc y)) ≡ r (slice_index (suc x ∷ xs) (if b then suc (common xs ys) else 0)) (slice_index (suc y ∷ ys) (if b then suc (common xs ys) else 0))
    by true rest = rest
    by false rest = refl

go_within : (xs ys : List ℕ) (i : ℕ) → go_on xs ys i ≡ true → i < length xs
go_within [] ys i e = absurd (nothing (0 == slice_index ys i) e)
  where
    nothing : (b : Bool) → (b && false) ≡ true → ⊥
    nothing true e = no e
    nothing false e = no e
go_within (x ∷ xs) ys zero e = omega arith
go_within (x ∷ xs) [] (suc i) e = let h = go_within xs [] i e in omega (arith, h)
go_within (x ∷ xs) (y ∷ ys) (suc i) e = let h = go_within xs ys i e in omega (arith, h)

-- the characters in memory

pub characters_few : (xs : List ℕ) (x i : ℕ) (m : List Area) → Reads xs x m → slice_index xs i < 256
unfolding Reads
characters_few [] x i m h = omega arith
characters_few (c ∷ xs) x zero m h = h.1
characters_few (c ∷ xs) x (suc i) m h = characters_few xs (add64 x char_bytes) i m h.2

read_at : (xs : List ℕ) (x i : ℕ) (m : List Area) → Reads xs x m → x < 2 ^ 64 → i < length xs → load1 m (add64 x (char_bytes * i)) ≡ Some (slice_index xs i)
unfolding Reads
read_at [] x i m h few lt = absurd (omega (arith, lt))
read_at (c ∷ xs) x zero m h few lt = let here : add64 x (char_bytes * 0) ≡ x = omega (arith, few) in ap (load1 m) here ∙ h.0
read_at (c ∷ xs) x (suc i) m h few lt =
    let on : add64 x (char_bytes * suc i) ≡ add64 (add64 x char_bytes) (char_bytes * i) = omega arith in
    ap (load1 m) on ∙ read_at xs (add64 x char_bytes) i m h.2 (omega arith) (omega (arith, lt))

past_end : (xs : List ℕ) (i : ℕ) → length xs ≤ i → slice_index xs i ≡ 0
past_end [] i le = refl
past_end (c ∷ xs) zero le = absurd (omega (arith, le))
past_end (c ∷ xs) (suc i) le = past_end xs i (omega (arith, le))

char_is : (xs : List ℕ) (x i : ℕ) (m : List Area) → Reads xs x m → x < 2 ^ 64 → char_at m x (char_bytes * length xs) (char_bytes * i) ≡ Some (slice_index xs i)
char_is xs x i m h few = ⊎_elim
    (λ (lt : i < length xs). ap (λ b. if b then Some 0 else load1 m (add64 x (char_bytes * i))) (not_past (length xs) i lt) ∙ read_at xs x i m h few lt)
    (λ (ge : length xs ≤ i). ap (λ b. if b then Some 0 else load1 m (add64 x (char_bytes * i))) (is_past (length xs) i ge) ∙ ap (λ c. Some c) (sym (past_end xs i ge)))
    (cases_lt i (length xs))
  where
    not_past : (n i : ℕ) → i < n → nat_le (char_bytes * n) (char_bytes * i) ≡ false
    not_past n i lt = grind (arith, nat_tests)

    is_past : (n i : ℕ) → n ≤ i → nat_le (char_bytes * n) (char_bytes * i) ≡ true
    is_past n i le = grind (arith, nat_tests)

narrow_character : {w : Whole} → Right w → w.layout.character ≤ 8388608
narrow_character right = let e = right.character in omega (arith, e)

module _ (w : Whole) (l : Level) (right : Right w) (apart : Apart w l) where
  module _ (xs ys : List ℕ) (x y : ℕ) (us : List ℕ) (most : ℕ) (c : Cursor) (f : ℕ → ℕ) (s : Objects) (m : List Area) (free : (Point → ℕ) → ℕ) (reads_one : Reads xs x m) (reads_two : Reads ys y m) (few_one : x < 2 ^ 64) (few_two : y < 2 ^ 64) (short : length xs < 2 ^ 32)
      (within : (h : Point → ℕ) → h (In_routine CompareAtHead) + (h (In_routine CompareAtCell) + free h) ≤ weigh h w.points) where
    abbrev op : Op
    op = record { code = Compare; uses = us; def = Some c.values }

    abbrev fr : Frame
    fr = frame_at l (position c) f

    -- how many positions are the same, and the difference at the next
    abbrev last : ℕ
    last = common xs ys

    abbrev difference : ℕ
    difference = sub64 (slice_index xs last) (slice_index ys last)

    abbrev at_head : State
    at_head = Works (CompareHead x (char_bytes * length xs) y (char_bytes * length ys)) fr l.callers (world_of w l m s)

    abbrev at_cell : ℕ → State
    at_cell done = Works (CompareCell x (char_bytes * length xs) y (char_bytes * length ys) done) fr l.callers (world_of w l m s)

    abbrev at_end : State
    at_end = runs_at w l (record { block = c.block; op = suc c.op; values = suc c.values; env = c.env }) (set f c.values difference) m s

    -- behind position i
    abbrev behind : ℕ → State
    behind i = cond (nat_lt i last) (at_cell (char_bytes * suc i)) at_end

    -- before so many positions
    stand : ℕ → State
    stand zero = at_head
    stand (suc i) = behind i

    record Open_cell (bound i : ℕ) (t : At Objects) : Type 0 where
      pub store : t.store ≡ s
      pub reached : Came_to w bound 1 t.turns t.out (stand i) free
      pub less : bound ≤ most

    record Done_cell (bound i : ℕ) (on : Bool) (t : At Objects) : Type 0 where
      pub on_is : on ≡ true
      pub there : i ≤ last
      pub store : t.store ≡ s
      pub reached : Came_to w bound 1 t.turns t.out (stand i) free
      pub less : bound ≤ most

    pub record Compared (u : Unit {0}) (t : At Objects) : Type 0 where
      pub store : t.store ≡ s
      pub bound : ℕ
      pub less : bound ≤ most
      pub reached : Came_to w bound 1 t.turns t.out at_end free

    module _ (rest : List Operation) (rest_is : rest_of w.procedures fr ≡ operation_of op ∷ rest) where
      at_step : (done : ℕ) → (system w).step (at_cell done) ≡ compared_at (rest_of w.procedures fr) x (char_bytes * length xs) y (char_bytes * length ys) done fr l.callers (world_of w l m s) (char_at m x (char_bytes * length xs) done) (char_at m y (char_bytes * length ys) done)
      at_step done = refl

      tested : (i : ℕ) (b : Bool) → go_on xs ys i ≡ b → (system w).step (at_cell (char_bytes * i)) ≡ (if b then Moves [] (Works (CompareCell x (char_bytes * length xs) y (char_bytes * length ys) (add64 (char_bytes * i) char_bytes)) fr l.callers (world_of w l m s)) else resumed (rest_of w.procedures fr) fr l.callers (world_of w l m s) (Some (sub64 (slice_index xs i) (slice_index ys i))))
      tested i b e =
          at_step (char_bytes * i)
          ∙ ap₂ (λ p q. compared_at (rest_of w.procedures fr) x (char_bytes * length xs) y (char_bytes * length ys) (char_bytes * i) fr l.callers (world_of w l m s) p q) (char_is xs x i m reads_one few_one) (char_is ys y i m reads_two few_two)
          ∙ ap (λ b. if b then Moves [] (Works (CompareCell x (char_bytes * length xs) y (char_bytes * length ys) (add64 (char_bytes * i) char_bytes)) fr l.callers (world_of w l m s)) else resumed (rest_of w.procedures fr) fr l.callers (world_of w l m s) (Some (sub64 (slice_index xs i) (slice_index ys i)))) e

      step_at : (i : ℕ) → i ≤ last → (system w).step (at_cell (char_bytes * i)) ≡ Moves [] (behind i)
      step_at i le = ⊎_elim
          (λ (lt : i < last).
          let go = go_before xs ys i lt in
          let inside = go_within xs ys i go in
          let on : add64 (char_bytes * i) char_bytes ≡ char_bytes * suc i = omega (arith, inside, short) in
          tested i true go ∙ ap (λ d. Moves [] (at_cell d)) on ∙ ap (λ b. Moves [] (cond b (at_cell (char_bytes * suc i)) at_end)) (sym (is_less i last lt)))
          (λ (ge : last ≤ i). let e : i ≡ last = omega (arith, le, ge) in
          subst (λ i. (system w).step (at_cell (char_bytes * i)) ≡ Moves [] (behind i)) (sym e)
          (tested last false (stop_there xs ys) ∙ ap (λ ops. resumed ops fr l.callers (world_of w l m s) (Some difference)) rest_is ∙ ap (λ b. Moves [] (cond b (at_cell (char_bytes * suc last)) at_end)) (sym (not_less last))))
          (cases_lt i last)
        where
          is_less : (i k : ℕ) → i < k → nat_lt i k ≡ true
          is_less i k lt = grind (arith, nat_tests)

          not_less : (k : ℕ) → nat_lt k k ≡ false
          not_less k = grind (arith, nat_tests)

      -- a position, behind its turn
      one_on : (left i : ℕ) (out : List ℕ) → i ≤ last → Came_to w left 0 left out (stand i) (λ h. h (In_routine CompareAtHead) + (h (In_routine CompareAtCell) + free h)) → Came_to w left 1 left out (behind i) free
      unfolding stand
      one_on left zero out le at = pass_quiet (system w) (least w.procedures) w.points w.first w.turns 1 free (In_routine CompareAtCell) (behind 0)
          (pass_quiet (system w) (least w.procedures) w.points w.first w.turns 1 (λ h. h (In_routine CompareAtCell) + free h) (In_routine CompareAtHead) (at_cell 0) at refl refl (λ h. omega arith) (omega arith))
          refl (step_at 0 le) (λ h. omega arith) (omega arith)
      one_on left (suc i) out le at =
          pass_quiet (system w) (least w.procedures) w.points w.first w.turns 1 free (In_routine CompareAtCell) (behind (suc i))
          (subst (λ x. Came_to w left 0 left out x (λ h. h (In_routine CompareAtHead) + (h (In_routine CompareAtCell) + free h))) (ap (λ b. cond b (at_cell (char_bytes * suc i)) at_end) (is_less i last (omega (arith, le)))) at)
          refl (step_at (suc i) le) (λ h. omega arith) (omega arith)
        where
          is_less : (i k : ℕ) → i < k → nat_lt i k ≡ true
          is_less i k lt = grind (arith, nat_tests)

      next_cell : (bound left i : ℕ) (on : Bool) (t : At Objects) → left < bound → Done_cell bound i on t → t.turns ≡ suc left → MatchBool on (Open_cell left (suc i) (record t { turns = left })) (Compared tt (record t { turns = left }))
      unfolding stand
      next_cell bound left i false t lt d is = no d.on_is
      next_cell bound left i true t lt d is = let le = d.less in record {
        store = d.store;
        reached = one_on left i t.out d.there (moment (system w) (least w.procedures) w.points w.first w.turns left (λ h. h (In_routine CompareAtHead) + (h (In_routine CompareAtCell) + free h)) d.reached is within);
        less = omega (arith, lt, le);
      }

      over : (bound : ℕ) (t : At Objects) → Open_cell bound (suc last) t → Compared tt t
      unfolding stand
      over bound t o = record {
        store = o.store;
        bound = bound;
        less = o.less;
        reached = subst (λ x. Came_to w bound 1 t.turns t.out x free) (ap (λ b. cond b (at_cell (char_bytes * suc last)) at_end) (not_less last)) o.reached;
      }
        where
          not_less : (k : ℕ) → nat_lt k k ≡ false
          not_less k = grind (arith, nat_tests)

      pub positions_go : (t : At Objects) → t.store ≡ s → Came_to w most 1 t.turns t.out at_head free → Goes w (spend_all (suc last) t) Compared
      unfolding stand
      positions_go t same at = comes_each HasSense (system w) (least w.procedures) w.points w.first w.turns same_trap (λ i. give true) most (suc last) Open_cell Done_cell Compared
          (λ bound i t le lt o. record { by = record { on_is = refl; there = omega (arith, lt); store = o.store; reached = o.reached; less = o.less } })
          (λ bound i on t d. record { gain = 0; place = stand i; free = free; reached = d.reached })
          (λ bound left i on t le lt d is. next_cell bound left i on t lt d is)
          (λ bound t le o. over bound t o)
          (suc last) 0 most t (omega arith) (omega arith) (record { store = same; reached = at; less = omega arith })

  ---- The operation

  -- value c is the difference of two characters by which the texts are compared
  abbrev DifferenceIs : Relation → List ℕ × List ℕ → ℕ → Fact
  DifferenceIs r z c n f s = (c < n) × (a : ℕ) × (b : ℕ) × (a < 256) × (b < 256) × (f c ≡ sub64 a b) × (text_order (related r) z.0 z.1 ≡ related r a b)

  steady_difference : (r : Relation) (z : List ℕ × List ℕ) (c : ℕ) → Steady w l (DifferenceIs r z c)
  steady_difference r z c = record { by = λ n m f g s t le same later h. let lt = h.0 in (omega (arith, lt, le), h.1, h.2, h.3, h.4, same c h.0 ∙ h.5, h.6) }

  -- both texts are read, and a turn is spent for each position
  abbrev both_read : Span → Span → Act (List ℕ × List ℕ)
  both_read a b = text_in a >>= λ xs. text_in b >>= λ ys. spend_all (suc (text_common xs ys)) >>= λ _. give (xs, ys)

  follows_both_read : {fuel : ℕ} {mask : Mask} {K : Fact} (good : types_fine w.program.types ≡ true) (r : Relation) (t u : Thing) (o p : Option ℕ) (e d : Elementary) → WellFormed.elements_in w.program t o ≡ Some e → WellFormed.is_letter w.program e ≡ true → WellFormed.elements_in w.program u p ≡ Some d → WellFormed.is_letter w.program d ≡ true
      → (h g : Handed) (v q : Named) (a b : Span) (i j k m : ℕ) → a.length < 2 ^ 32
      → Follows w l 0 fuel mask (Both (Both (Both (Both K (TextIs w l t o h v a i)) (ConstIs w l (a.length * w.layout.character) k)) (TextIs w l u p g q b j)) (ConstIs w l (b.length * w.layout.character) m)) (DifferenceIs r) (both_read a b) (emits Compare (i ∷ k ∷ j ∷ m ∷ []))
  follows_both_read {mask = mask} {K = K} good r t u o p e d one_is one_letter two_is two_letter h g v q a b i j k m few_cells = record {
    grows = grows_emits w l Compare (i ∷ k ∷ j ∷ m ∷ []);
    by = λ most n c f s room free le needs few stands fits within known typed z.
        let low_one : f i < 2 ^ 64 = let e = address_few w l s.store z.memory a.at (Array a.length (Scalar Small)) (f i) z.held known.0.0.0.1.0.1 in omega (arith, e) in
        let low_two : f j < 2 ^ 64 = let e = address_few w l s.store z.memory b.at (Array b.length (Scalar Small)) (f j) z.held known.0.1.0.1 in omega (arith, e) in
        let one = text_at_span w l right good t o e one_is one_letter h v a i c.values f s z.memory z.held typed known.0.0.0.1 in
        let two = text_at_span w l right good u p d two_is two_letter g q b j c.values f s z.memory z.held typed known.0.1 in
        let bytes_one : f k ≡ char_bytes * length one.chars = let x = known.0.0.1.1 ∙ ap (λ c. a.length * c) right.character in let y = one.size in omega (arith, x, y) in
        let bytes_two : f m ≡ char_bytes * length two.chars = let x = known.1.1 ∙ ap (λ c. b.length * c) right.character in let y = two.size in omega (arith, x, y) in
        let op : Op = record { code = Compare; uses = i ∷ k ∷ j ∷ m ∷ []; def = Some c.values } in
        let fr = frame_at l (position c) f in
        let values = set f c.values (sub64 (slice_index one.chars (common one.chars two.chars)) (slice_index two.chars (common one.chars two.chars))) in
        let pays = op_pays w l (position c) op stands.0 in
        let size_one = one.size in
        let new = put_same c.values c.values (sub64 (slice_index one.chars (common one.chars two.chars)) (slice_index two.chars (common one.chars two.chars))) f (omega arith) in
        subst (λ x. Goes w x (Done w l (DifferenceIs r) mask most n c (emits Compare (i ∷ k ∷ j ∷ m ∷ []) c) s.store f free)) (sym (reads_are a b s one.chars two.chars one.gives two.gives))
        (then_goes w l (spend_all (suc (common one.chars two.chars))) (λ _. give (text_of one.chars, text_of two.chars)) s
        (positions_go one.chars two.chars (f i) (f j) (i ∷ k ∷ j ∷ m ∷ []) most c f s.store z.memory free one.reads two.reads low_one low_two (omega (arith, size_one, few_cells)) (λ h. let y = within h in omega (arith, y)) stands.0.0 stands.0.1 s refl
        (pass_quiet (system w) (least w.procedures) w.points w.first w.turns 1 free (In l.proc c.block c.op) (Works (CompareHead (f i) (char_bytes * length one.chars) (f j) (char_bytes * length two.chars)) fr l.callers (world_of w l z.memory s.store)) z.reached refl
        (op_step w l (position c) f z.memory s.store op stands.0 ∙ ap₂ (λ x y. Moves [] (Works (CompareHead (f i) x (f j) y) fr l.callers (world_of w l z.memory s.store))) bytes_one bytes_two) (λ h. let y = fits h in omega (arith, y)) (omega (arith, pays))))
        (λ y t x. record {
          by = let less = x.less in record {
            values = values;
            ready = record {
              memory = z.memory;
              reached = loosen (system w) (least w.procedures) w.points w.first w.turns most n free (subst (λ st. Came_to w x.bound 1 t.turns t.out (runs_at w l (position (emits Compare (i ∷ k ∷ j ∷ m ∷ []) c).after) values z.memory st) free) (sym x.store) x.reached) less few (λ h. omega arith);
              held = subst (λ st. Held w l st z.memory) (sym x.store) z.held;
              size = z.size;
              under = under_more c.values (suc c.values) c.env (omega arith) z.under;
              registers = subst (λ st. Registers w l c.env values st) (sym x.store) (λ y lt reg v is. let size = z.size in subst (λ n. ValueIs w s.store.tags v n) (sym (new (slice_index c.env y) (under_at c.values c.env y (omega (arith, lt, size)) z.under))) (z.registers y lt reg v is));
              since = subst (λ st. Later w l l.store st) (sym x.store) z.since;
            };
            later = subst (λ st. Later w l s.store st) (sym x.store) (later_refl w l s.store);
            is = (
              omega arith,
              slice_index one.chars (common one.chars two.chars),
              slice_index two.chars (common one.chars two.chars),
              characters_few one.chars (f i) (common one.chars two.chars) z.memory one.reads,
              characters_few two.chars (f j) (common one.chars two.chars) z.memory two.reads,
              put_here c.values (sub64 (slice_index one.chars (common one.chars two.chars)) (slice_index two.chars (common one.chars two.chars))) f,
              order_there (related r) one.chars two.chars,
            );
            same = new;
            off = off_refl mask c.env;
            typed = subst (λ st. Typing w l st) (sym x.store) typed;
          };
        }));
  }
    where
      reads_are : (a b : Span) (s : At Objects) (xs ys : List ℕ) → bits_from a.length a.at s ≡ Gives xs s → bits_from b.length b.at s ≡ Gives ys s → both_read a b s ≡ (spend_all (suc (common xs ys)) >>= λ _. give (text_of xs, text_of ys)) s
      reads_are a b s xs ys e g =
          ap (λ x. after (after x (λ xs. give (text_of xs))) (λ xs. text_in b >>= λ ys. spend_all (suc (text_common xs ys)) >>= λ _. give (xs, ys))) e
          ∙ ap (λ x. after (after x (λ ys. give (text_of ys))) (λ ys. spend_all (suc (text_common (text_of xs) ys)) >>= λ _. give (text_of xs, ys))) g

  -- a difference of two characters against 0 is their relation
  relation_is : (r : Relation) (a b : ℕ) → a < 256 → b < 256 → compares (condition r) (sub64 a b) 0 ≡ related r a b
  relation_is Equal a b lt less = grind (arith, nat_tests)
  relation_is Unequal a b lt less = grind (arith, nat_tests)
  relation_is Less a b lt less = grind (arith, nat_tests)
  relation_is LessEqual a b lt less = grind (arith, nat_tests)
  relation_is Greater a b lt less = grind (arith, nat_tests)
  relation_is GreaterEqual a b lt less = grind (arith, nat_tests)

  -- what is known at once may be used for the whole
  follows_by : {T : Type 0} {A B : Type 0} {need fuel : ℕ} {mask : Mask} {K : Fact} {R : A → B → Fact} {m : Act A} {low : Low B} → Grows w l low → ((n : ℕ) (f : ℕ → ℕ) (s : Objects) → K n f s → T) → (T → Follows w l need fuel mask K R m low) → Follows w l need fuel mask K R m low
  follows_by grows has one = record {
    grows = grows;
    by = λ most g c f s room free le needs few stands fits within known typed r. (one (has c.values f s.store known)).by most g c f s room free le needs few stands fits within known typed r;
  }

  module _ (r : Relation) (m : Option ℕ) (y : Act Handed) where
    abbrev answered : List ℕ × List ℕ → Act Cell
    answered z = give (Bits (truth (text_order (related r) z.0 z.1)))

    abbrev from_second : Span → Span → Act Cell
    from_second a b = text_in a >>= λ xs. text_in b >>= λ ys. spend_all (suc (text_common xs ys)) >>= λ _. give (Bits (truth (text_order (related r) xs ys)))

    abbrev from_first : Span → Act Cell
    from_first a = span y m >>= from_second a

    same_answer : (a b : Span) (s : At Objects) → (both_read a b >>= answered) s ≡ from_second a b s
    same_answer a b s = by (text_in a s)
      where
        by_turns : (xs ys : List ℕ) (e : Ending Objects Trap (Unit {0})) → after (after e (λ u. give (xs, ys))) answered ≡ after e (λ u. give (Bits (truth (text_order (related r) xs ys))))
        by_turns xs ys (Gives u t) = refl
        by_turns xs ys (Fails trap out) = refl
        by_turns xs ys (Spent out) = refl

        by_second : (xs : List ℕ) (e : Ending Objects Trap (List ℕ)) → after (after e (λ ys. spend_all (suc (text_common xs ys)) >>= λ _. give (xs, ys))) answered ≡ after e (λ ys. spend_all (suc (text_common xs ys)) >>= λ _. give (Bits (truth (text_order (related r) xs ys))))
        by_second xs (Gives ys t) = by_turns xs ys (spend_all (suc (text_common xs ys)) t)
        by_second xs (Fails trap out) = refl
        by_second xs (Spent out) = refl

        by : (e : Ending Objects Trap (List ℕ)) → after (after e (λ xs. text_in b >>= λ ys. spend_all (suc (text_common xs ys)) >>= λ _. give (xs, ys))) answered ≡ after e (λ xs. text_in b >>= λ ys. spend_all (suc (text_common xs ys)) >>= λ _. give (Bits (truth (text_order (related r) xs ys))))
        by (Gives xs t) = by_second xs (text_in b t)
        by (Fails trap out) = refl
        by (Spent out) = refl

    module _ (n : Option ℕ) (q : Low Named) (two : Grows w l q) where
      grows_answer : (c : ℕ) → Grows w l (const 0 >>> λ z. emits (Set (condition r)) (c ∷ z ∷ []))
      grows_answer c = grows_bind w l (grows_emits w l (Const 0) []) (λ z. grows_emits w l (Set (condition r)) (c ∷ z ∷ []))

      grows_last : (i k j k2 : ℕ) → Grows w l (emits Compare (i ∷ k ∷ j ∷ k2 ∷ []) >>> λ c. const 0 >>> λ z. emits (Set (condition r)) (c ∷ z ∷ []))
      grows_last i k j k2 = grows_bind w l (grows_emits w l Compare (i ∷ k ∷ j ∷ k2 ∷ [])) (λ c. grows_answer c)

      grows_third : (i k : ℕ) (v2 : Named) (j : ℕ) → Grows w l (bytes_in w.layout.character m v2 >>> λ k2. emits Compare (i ∷ k ∷ j ∷ k2 ∷ []) >>> λ c. const 0 >>> λ z. emits (Set (condition r)) (c ∷ z ∷ []))
      grows_third i k v2 j = grows_bind w l (grows_bytes w l right apart w.layout.character m v2) (λ k2. grows_last i k j k2)

      grows_second : (i k : ℕ) → Grows w l (q >>> λ v2. lower_address v2 0 >>> λ j. bytes_in w.layout.character m v2 >>> λ k2. emits Compare (i ∷ k ∷ j ∷ k2 ∷ []) >>> λ c. const 0 >>> λ z. emits (Set (condition r)) (c ∷ z ∷ []))
      grows_second i k = grows_bind w l two (λ v2. grows_bind w l (grows_address w l v2 0) (λ j. grows_third i k v2 j))

      grows_first : (v : Named) (i : ℕ) → Grows w l (bytes_in w.layout.character n v >>> λ k. q >>> λ v2. lower_address v2 0 >>> λ j. bytes_in w.layout.character m v2 >>> λ k2. emits Compare (i ∷ k ∷ j ∷ k2 ∷ []) >>> λ c. const 0 >>> λ z. emits (Set (condition r)) (c ∷ z ∷ []))
      grows_first v i = grows_bind w l (grows_bytes w l right apart w.layout.character n v) (λ k. grows_second i k)

  pub follows_texts_compared : {fuel : ℕ} {mask own other : Mask} {K : Fact} {p q : Low Named} (good : types_fine w.program.types ≡ true) (r : Relation) (t u : Thing) (n m : Option ℕ) (e d : Elementary) (x y : Act Handed) → WellFormed.elements_in w.program t n ≡ Some e → WellFormed.is_letter w.program e ≡ true → WellFormed.elements_in w.program u m ≡ Some d → WellFormed.is_letter w.program d ≡ true → Steady w l K
      → ((h : Handed) (v : Named) → Follows w l 0 fuel mask (Both K (DesignatorIs w l own t h v)) (SpanIs w l n (Scalar Small) v) (span_by w l n h) (lower_address v 0)) → ((h : Handed) (v : Named) → Follows w l 0 fuel mask (Both K (DesignatorIs w l other u h v)) (SpanIs w l m (Scalar Small) v) (span_by w l m h) (lower_address v 0))
      → Follows w l 0 fuel mask K (NamedText w l own t) x p → Follows w l 0 fuel mask K (NamedText w l other u) y q → Follows w l 0 fuel mask K (CellIs w l) (texts_compared r x n y m) (lower_compared w.layout.character r p n q m)
  follows_texts_compared {fuel} {mask} {own} {other} {K} {p} {q} good r t u n m e d x y one_is one_letter two_is two_letter steady spans_one spans_two one two =
      follows_same w l (x >>= λ h. span_by w l n h >>= (from_first r m y)) (texts_compared r x n y m) (spanned_same w l x n (from_first r m y))
      (follows_bind w l steady one (λ v. grows_bind w l (grows_address w l v 0) (λ i. grows_first r m y n q two.grows v i))
      (λ h v. follows_bind w l (steady_and w l steady (steady_named_text w l own t h v)) (follows_spanned w l own t n spans_one h v) (λ i. grows_first r m y n q two.grows v i)
      (λ a i. let known = steady_and w l (steady_and w l steady (steady_named_text w l own t h v)) (steady_text w l t n h v a i) in
      follows_by (grows_first r m y n q two.grows v i) (λ k f s z. z.1.0.2) (λ few. follows_bind w l {m = give tt} {h = λ (z : Unit {0}). from_first r m y a} known
      (follows_known w l {K = Both K (LengthIn w l n a.length v)} (λ j f s z. (z.0.0, z.1.0.3)) (follows_bytes w l right apart w.layout.character n v a.length steady (few_times w l right apart a.length w.layout.character few (narrow_character right)))) (λ k. grows_second r m y n q two.grows i k)
      (λ z k. let known2 = steady_and w l known (steady_const w l (a.length * w.layout.character) k) in
      follows_same w l (y >>= λ h2. span_by w l m h2 >>= from_second r m y a) (from_first r m y a) (spanned_same w l y m (from_second r m y a))
      (follows_bind w l known2 (follows_known w l (λ j f s z. z.0.0.0) two) (λ v2. grows_bind w l (grows_address w l v2 0) (λ j. grows_third r m y n q two.grows i k v2 j))
      (λ h2 v2. follows_bind w l (steady_and w l known2 (steady_named_text w l other u h2 v2)) (follows_known w l (λ j f s z. (z.0.0.0.0, z.1)) (follows_spanned w l other u m spans_two h2 v2)) (λ j. grows_third r m y n q two.grows i k v2 j)
      (λ b j. let known3 = steady_and w l (steady_and w l known2 (steady_named_text w l other u h2 v2)) (steady_text w l u m h2 v2 b j) in
      follows_by (grows_third r m y n q two.grows i k v2 j) (λ k f s z. z.1.0.2) (λ few2. follows_bind w l {m = give tt} {h = λ (z : Unit {0}). from_second r m y a b} known3
      (follows_known w l {K = Both K (LengthIn w l m b.length v2)} (λ j f s z. (z.0.0.0.0.0, z.1.0.3)) (follows_bytes w l right apart w.layout.character m v2 b.length steady (few_times w l right apart b.length w.layout.character few2 (narrow_character right)))) (λ k2. grows_last r m y n q two.grows i k j k2)
      (λ z2 k2. follows_same w l (both_read a b >>= answered r m y) (from_second r m y a b) (same_answer r m y a b)
      (follows_bind w l (steady_and w l known3 (steady_const w l (b.length * w.layout.character) k2))
      (follows_known w l (λ j f s z. ((((z.0.0.0.0.0.0, z.0.0.0.0.1), z.0.0.0.1), z.0.1), z.1)) (follows_both_read good r t u n m e d one_is one_letter two_is two_letter h h2 v v2 a b i j k k2 few)) (λ c. grows_answer r m y n q two.grows c)
      (λ z3 c. follows_bind w l {m = give tt} {h = λ (o : Unit {0}). answered r m y z3} (steady_and w l (steady_and w l known3 (steady_const w l (b.length * w.layout.character) k2)) (steady_difference r z3 c)) (follows_const w l 0) (λ o. grows_emits w l (Set (condition r)) (c ∷ o ∷ []))
      (λ o zero_at. follows_emits w l (Set (condition r)) (c ∷ zero_at ∷ []) (λ j f mm s held z.
      let dif = z.0.1 in
      let b1 = text_order (related r) z3.0 z3.1 in
      acts_give w l (Bits (truth b1)) (truth (compares (condition r) (f c) (f zero_at))) held refl refl
      (made_bits w l j (truth (compares (condition r) (f c) (f zero_at))) (truth b1) f s.store (ap truth (ap₂ (compares (condition r)) dif.5 z.1.1 ∙ relation_is r dif.1 dif.2 dif.3 dif.4 ∙ sym dif.6)) (truth_lt b1))))))))))))))))
