-- How much code each construct becomes at most: sixteen operations and ends of blocks for each part of the tree.
use Rattle.std.proofs.Common.{ℕ, zero, suc, ◌+◌, ◌*◌, ◌≤◌, List, [], ◌∷◌, ◌++◌, length, length-append, Bool, true, false, Option, Some, None, slice_get, arith}
use Rattle.std.specs.Prelude.{if◌then◌else◌}
use Rattle.ob_types.specs.Meaning.{is_byte}
use Rattle.ob_types.specs.declared.tree.Unary.{Unary}
use Rattle.ob_types.specs.declared.tree.Unary.TheVariants.{Negate, Complement, Not, Abs, Odd}
use Rattle.ob_types.specs.declared.tree.Binary.{Binary}
use Rattle.ob_types.specs.declared.tree.Binary.TheVariants.{Add, Subtract, Multiply, Div, Mod, Union, Difference, Intersection, SymmetricDifference, Subset, Superset, Lsl, Asr, Ror}
use Rattle.ob_types.specs.declared.tree.Relation.{Relation}
use Rattle.block_runs.specs.declared.code.Code.TheVariants.{Svc, Max0, Copy, Fits, Set, True, Const, Plus, Call, CallAt, StoreByte, Mul, MulAdd, Below, NotNil, GuardPtr, GuardTag, IsPtr, IsTag, Bic, Compare, Elem, Has, Bit, Span, Or, Byte}
use Rattle.block_runs.specs.declared.code.Code.TheVariants.{Local as LocalOp, Global as GlobalOp, New as NewOp, Store as StoreOp, Load as LoadOp}
use Rattle.block_runs.specs.declared.code.Code.{Code}
use Rattle.block_runs.specs.declared.end.End.{End}
use Rattle.block_runs.specs.declared.end.End.TheVariants.{Jump, Branch, Nonzero}
use Rattle.ssa_lowered.specs.Pieces.{Cursor, Start, Piece, Low, give, ◌>>=◌, emits, does, fetched, variable, close, fresh, plain, Mask, picked, join, join_start}
use Rattle.ssa_lowered.specs.Control.{half, often, at_freq, Test, fork_value, fork_branch, fork_not, fork_and, fork_or, flag, Lowers, valued, tested, choose, Round, behind, rounds, loop, repeat, for, Rung, ladder, limbs, case}
use Rattle.ssa_lowered.specs.Values.{const, condition, Named, At, Beside, Object, Held, past, address_in, second, length_in, bytes_in, address, data_at, local_at, element, field, dereferenced, narrowed, one_operand, two_operands, included, unary, binary, compared, texts_compared, guarded, member, contained, with_element, with_range, is_pointer, is_tag, tag_of, tag_in, as_byte, length_of, by_word, by_record, by_open, also, Request, call, call_at, with_result, without_result, home_in, home_of, load, Home, current, change, store}
use Rattle.ssa_lowered.specs.Values.{Register as InRegister, Memory as InMemory}
use Rattle.ssa_lowered.specs.Statements.{Deed, assign, change_number, change_set, new, fits, copy_array, copy_record, assert, out_char, out_int, out_string, in_char}
use Rattle.ssa_lowered.specs.Lowered.{one_of}
use Rattle.ssa_lowered.proofs.Everywhere.{Each}

-- at most so many pieces, wherever it is
pub record Costs {A : Type 0} (n : ℕ) (m : Low A) : Type 0 where
  pub by : (c : Cursor) → length (m c).pieces ≤ n

pub record CostsTest (n : ℕ) (t : Test) : Type 0 where
  pub by : (c : Cursor) (y n' q : ℕ) → length ((t c).pieces y n' q) ≤ n

pub at_most : {A : Type 0} {n k : ℕ} {m : Low A} → Costs n m → n ≤ k → Costs k m
at_most p l = record { by = λ c. let a = p.by c in omega (arith, a, l) }

pub test_at_most : {n k : ℕ} {t : Test} → CostsTest n t → n ≤ k → CostsTest k t
test_at_most p l = record { by = λ c y n q. let a = p.by c y n q in omega (arith, a, l) }

two : (xs ys : List Piece) (n m : ℕ) → length xs ≤ n → length ys ≤ m → length (xs ++ ys) ≤ n + m
two xs ys n m p q = let e = length-append xs ys in omega (arith, e, p, q)

pub seq : {A B : Type 0} {a b : ℕ} {m : Low A} {k : A → Low B} → Costs a m → ((x : A) → Costs b (k x)) → Costs (a + b) (m >>= k)
seq {a = a} {b = b} {m = m} {k = k} p q = record { by = λ c. two (m c).pieces (k (m c).result (m c).after).pieces a b (p.by c) ((q (m c).result).by (m c).after) }

pub free : {A : Type 0} (x : A) → Costs 0 (give x)
free x = record { by = λ c. omega arith }

pub emitted : (code : Code) (uses : List ℕ) → Costs 1 (emits code uses)
emitted code uses = record { by = λ c. omega arith }

pub done : (code : Code) (uses : List ℕ) → Costs 1 (does code uses)
done code uses = record { by = λ c. omega arith }

pub c_const : (n : ℕ) → Costs 1 (const n)
c_const n = emitted (Const n) []

fetched_by : (o : Option ℕ) → Costs 1 (fetched o)
fetched_by (Some v) = at_most (free v) (omega arith)
fetched_by None = c_const 0

pub c_variable : (x : ℕ) → Costs 1 (variable x)
c_variable x = record { by = λ c. (fetched_by (slice_get c.env x)).by c }

---- Tests and what has blocks of its own

pub f_value : {n : ℕ} {x : Low ℕ} → Costs n x → CostsTest (suc n) (fork_value x)
f_value {n = n} {x = x} p = record {
  by = λ c y m q.
      let a = p.by c in
      let b = two (x c).pieces [] n 0 a (omega arith) in
      let e = two ((x c).pieces ++ []) (close (x c).after (Nonzero (x c).result y m) (plain q c.seen) ∷ []) (n + 0) 1 b (omega arith) in
      omega (arith, e);
}

pub f_branch : {n m : ℕ} {x y : Low ℕ} (k : ℕ) → Costs n x → Costs m y → CostsTest (suc (n + m)) (fork_branch k x y)
f_branch {n = n} {m = m} {x = x} {y = y} k p r = record {
  by = λ c one other q.
      let a = x c in
      let b = y a.after in
      let d = two b.pieces [] m 0 (r.by a.after) (omega arith) in
      let e = two a.pieces (b.pieces ++ []) n (m + 0) (p.by c) d in
      let g = two (a.pieces ++ (b.pieces ++ [])) (close b.after (Branch k a.result b.result one other) (plain q c.seen) ∷ []) (n + (m + 0)) 1 e (omega arith) in
      omega (arith, g);
}

pub f_not : {n : ℕ} {t : Test} → CostsTest n t → CostsTest n (fork_not t)
f_not p = record { by = λ c y m q. p.by c m y q }

pub f_and : {n m : ℕ} {t u : Test} → CostsTest n t → CostsTest m u → CostsTest (n + m) (fork_and t u)
f_and {n} {m} {t} {u} p r = record { by = λ c y z q. two ((t c).pieces (t c).after.block z c.freq) ((u (t c).after).pieces y z q) n m (p.by c (t c).after.block z c.freq) (r.by (t c).after y z q) }

pub f_or : {n m : ℕ} {t u : Test} → CostsTest n t → CostsTest m u → CostsTest (n + m) (fork_or t u)
f_or {n} {m} {t} {u} p r = record { by = λ c y z q. two ((t c).pieces y (t c).after.block c.freq) ((u (t c).after).pieces y z q) n m (p.by c y (t c).after.block c.freq) (r.by (t c).after y z q) }

pub c_flag : {n : ℕ} {t : Test} → CostsTest n t → Costs (n + 4) (flag t)
c_flag {n} {t} p = record {
  by = λ c.
      let x = t c in
      let one = const 1 (at_freq x.after (half c.freq)) in
      let no : Cursor = record (fresh one.after) { seen = x.after.seen } in
      let none = const 0 no in
      let v = none.after.values in
      let start : Start = record { params = v ∷ []; freq = c.freq; enter = None; seen = x.after.seen } in
      two (x.pieces x.after.block no.block (half c.freq)) (one.pieces ++ (close one.after (Jump (suc no.block) (one.result ∷ [])) (plain no.freq no.seen) ∷ (none.pieces ++ (close none.after (Jump (suc no.block) (none.result ∷ [])) start ∷ [])))) n 4 (p.by c x.after.block no.block (half c.freq)) (omega arith);
}

pub c_choose : {a b d : ℕ} {t : Test} {g k : Deed} (mask : Mask) → CostsTest a t → Costs b g → Costs d k → Costs (a + (b + (d + 2))) (choose mask t g k)
c_choose {a} {b} {d} {t} {g} {k} mask p q r = record {
  by = λ c.
      let x = t c in
      let arm = at_freq x.after (half c.freq) in
      let one = g arm in
      let other : Cursor = record (fresh one.after) { freq = half c.freq; env = x.after.env; seen = x.after.seen } in
      let second = k other in
      let out = join mask second.after other c.freq in
      let last = close second.after (Jump out.block (picked mask second.after.env)) (join_start mask second.after other c.freq None) ∷ [] in
      let middle = close one.after (Jump out.block (picked mask one.after.env)) (plain other.freq other.seen) ∷ (second.pieces ++ last) in
      let e = two second.pieces last d 1 (r.by other) (omega arith) in
      two (x.pieces x.after.block other.block (half c.freq)) (one.pieces ++ middle) a (b + (d + 2)) (p.by c x.after.block other.block (half c.freq)) (two one.pieces middle b (d + 2) (q.by arm) (omega (arith, e)));
}

-- guards and bodies, so many together
abbrev pub Rounds : ℕ → List Round → Type 0
Rounds n [] = Unit {0}
Rounds n (r ∷ rs) = (a : ℕ) × (b : ℕ) × (m : ℕ) × CostsTest a r.test × Costs b r.body × Rounds m rs × (a + (b + suc m) ≤ n)

pub c_rounds : (n : ℕ) (mask : Mask) (head outside : ℕ) (rs : List Round) → Rounds n rs → (c : Cursor) → length (rounds mask head outside rs c).pieces ≤ n
c_rounds n mask head outside [] q c = omega arith
c_rounds n mask head outside (r ∷ rs) q c =
    let t = r.test c in
    let arm = at_freq t.after c.freq in
    let one = r.body arm in
    let next : Cursor = record (fresh one.after) { freq = behind rs c.freq outside; env = t.after.env; seen = t.after.seen } in
    let more = rounds mask head outside rs next in
    let tail = close one.after (Jump head (picked mask one.after.env)) (plain next.freq next.seen) ∷ more.pieces in
    let rest = c_rounds q.2 mask head outside rs q.5 next in
    let e = two one.pieces tail q.1 (suc q.2) (q.4.by arm) (omega (arith, rest)) in
    let g = two (t.pieces t.after.block next.block c.freq) (one.pieces ++ tail) q.0 (q.1 + suc q.2) (q.3.by c t.after.block next.block c.freq) e in
    let l = q.6 in
    omega (arith, g, l)

pub c_loop : (n : ℕ) (mask : Mask) (rs : List Round) → Rounds n rs → Costs (suc n) (loop mask rs)
c_loop n mask rs q = record { by = λ c. let head = join mask c c (often c.freq) in let a = c_rounds n mask head.block c.freq rs q head in omega (arith, a) }

pub c_repeat : {a b : ℕ} {g : Deed} {t : Test} (mask : Mask) → Costs a g → CostsTest b t → Costs (a + (b + 2)) (repeat mask g t)
c_repeat {a} {b} {g} {t} mask q p = record {
  by = λ c.
      let head = join mask c c (often c.freq) in
      let one = g head in
      let x = t one.after in
      let back = at_freq x.after head.freq in
      let exit = at_freq (fresh back) c.freq in
      let last = close back (Jump head.block (picked mask back.env)) (plain exit.freq exit.seen) ∷ [] in
      let tests = x.pieces exit.block back.block back.freq in
      let e = two tests last b 1 (p.by one.after exit.block back.block back.freq) (omega arith) in
      let k = two one.pieces (tests ++ last) a (b + 1) (q.by head) e in
      omega (arith, k);
}

-- tests that cost at most four each
pub c_ladder : (last : ℕ) (rs : List Rung) → Each (λ (r : Rung). CostsTest 4 r.test) rs → (to : ℕ → ℕ) (c : Cursor) → length ((ladder last rs c).pieces to) ≤ suc (4 * length rs)
c_ladder last [] q to c = omega arith
c_ladder last (r ∷ []) q to c = let a = q.0.by c (to r.part) (r.test c).after.block last in omega (arith, a)
c_ladder last (r ∷ s ∷ rs) q to c =
    let a = c_ladder last (s ∷ rs) q.1 to (r.test c).after in
    let e = two ((r.test c).pieces (to r.part) (r.test c).after.block c.freq) ((ladder last (s ∷ rs) (r.test c).after).pieces to) 4 (suc (4 * length (s ∷ rs))) (q.0.by c (to r.part) (r.test c).after.block c.freq) a in
    omega (arith, e)

-- bodies, so many together
abbrev pub Bodies : ℕ → List Deed → Type 0
Bodies n [] = Unit {0}
Bodies n (b ∷ bs) = (a : ℕ) × (m : ℕ) × Costs a b × Bodies m bs × (suc (a + m) ≤ n)

pub c_limbs : (n : ℕ) (mask : Mask) (s : Cursor) (bodies : List Deed) → Bodies n bodies → (c : Cursor) (end : ℕ → End) (out : ℕ) → length ((limbs mask s bodies c end).pieces out) ≤ suc n
c_limbs n mask s [] q c end out = omega arith
c_limbs n mask s (body ∷ bodies) q c end out =
    let start : Cursor = record (fresh c) { freq = half s.freq; env = s.env; seen = s.seen } in
    let one = body start in
    let next : ℕ → End = λ to. Jump to (picked mask one.after.env) in
    let more = limbs mask s bodies one.after next in
    let e = two one.pieces (more.pieces out) q.0 (suc q.1) (q.2.by start) (c_limbs q.1 mask s bodies q.3 one.after next out) in
    let l = q.4 in
    omega (arith, e, l)

pub c_case : (n : ℕ) (mask : Mask) (rungs : List Rung) (bodies : List Deed) (unmatched : ℕ → List ℕ → End) → Each (λ (r : Rung). CostsTest 4 r.test) rungs → Bodies n bodies → Costs (4 * length rungs + (n + 2)) (case mask rungs bodies unmatched)
c_case n mask rungs bodies unmatched p q = record {
  by = λ c.
      let t = ladder (half c.freq) rungs c in
      let end : ℕ → End = λ out. unmatched out (picked mask c.env) in
      let a = limbs mask c bodies t.after end in
      let e = two (t.pieces a.starts) (a.pieces a.after.block) (suc (4 * length rungs)) (suc n) (c_ladder (half c.freq) rungs p a.starts c) (c_limbs n mask c bodies q t.after end a.after.block) in
      omega (arith, e);
}

---- Values

pub c_past : (a n : ℕ) → Costs 1 (past a n)
c_past a zero = at_most (free a) (omega arith)
c_past a (suc n) = emitted (Plus (suc n)) (a ∷ [])

pub c_address_in : (h : Named) (n : ℕ) → Costs 1 (address_in h n)
c_address_in (At a) n = c_past a n
c_address_in (Beside a b) n = c_past a n
c_address_in (Object p) n = emitted (Plus (8 + n)) (p ∷ [])
c_address_in (Held x) n = c_const 0

pub c_second : (h : Named) → Costs 1 (second h)
c_second (At a) = c_const 0
c_second (Beside a b) = at_most (free b) (omega arith)
c_second (Object p) = emitted LoadOp (p ∷ [])
c_second (Held x) = c_const 0

pub c_length_in : (n : Option ℕ) (h : Named) → Costs 1 (length_in n h)
c_length_in None h = c_second h
c_length_in (Some n) h = c_const n

pub c_bytes_in : (size : ℕ) (n : Option ℕ) (h : Named) → Costs 3 (bytes_in size n h)
c_bytes_in size None h = seq (c_second h) (λ n. seq (c_const size) (λ s. emitted Mul (n ∷ s ∷ [])))
c_bytes_in size (Some n) h = at_most (c_const (n * size)) (omega arith)

pub c_data_at : (n : ℕ) → Costs 1 (data_at n)
c_data_at n = seq (emitted (GlobalOp n) []) (λ a. free (At a))

pub c_local_at : (n : ℕ) → Costs 1 (local_at n)
c_local_at n = seq (emitted (LocalOp n) []) (λ a. free (At a))

pub c_element : {a b : ℕ} {d : Low Named} {x : Low ℕ} (n : Option ℕ) (size : ℕ) → Costs a d → Costs b x → Costs (a + b + 5) (element d n size x)
c_element n size p q = at_most (seq p (λ h. seq (c_address_in h 0) (λ a. seq q (λ i. seq (c_length_in n h) (λ l. seq (done Below (i ∷ l ∷ [])) (λ _. seq (c_const size) (λ s. seq (emitted MulAdd (i ∷ s ∷ a ∷ [])) (λ e. free (At e))))))))) (omega arith)

pub c_field : {a : ℕ} {d : Low Named} (n : ℕ) → Costs a d → Costs (a + 1) (field d n)
c_field n p = at_most (seq p (λ h. seq (c_address_in h n) (λ a. free (At a)))) (omega arith)

pub c_dereferenced : {a : ℕ} {x : Low ℕ} → Costs a x → Costs (a + 1) (dereferenced x)
c_dereferenced q = at_most (seq q (λ a. seq (done NotNil (a ∷ [])) (λ _. free (Object a)))) (omega arith)

pub c_narrowed : {a : ℕ} {d : Low Named} (g j : ℕ) → Costs a d → Costs (a + 3) (narrowed d g j)
c_narrowed g j p = at_most (seq p (λ h. seq (c_second h) (λ t. seq (emitted (GlobalOp g) []) (λ x. seq (done (GuardTag j) (t ∷ x ∷ [])) (λ _. free h))))) (omega arith)

pub c_one_operand : (op : Unary) (x : ℕ) → Costs 1 (one_operand op x)
c_one_operand Negate x = emitted _ _
c_one_operand Complement x = emitted _ _
c_one_operand Not x = emitted _ _
c_one_operand Abs x = emitted _ _
c_one_operand Odd x = emitted _ _

pub c_included : (x y : ℕ) → Costs 3 (included x y)
c_included x y = seq (emitted Bic (x ∷ y ∷ [])) (λ d. seq (c_const 0) (λ z. emitted (Set 0) (d ∷ z ∷ [])))

pub c_one : (code : Code) (uses : List ℕ) → Costs 3 (emits code uses)
c_one code uses = at_most (emitted code uses) (omega arith)

pub c_two_operands : (op : Binary) (x y : ℕ) → Costs 3 (two_operands op x y)
c_two_operands Add x y = c_one _ _
c_two_operands Subtract x y = c_one _ _
c_two_operands Multiply x y = c_one _ _
c_two_operands Div x y = c_one _ _
c_two_operands Mod x y = c_one _ _
c_two_operands Union x y = c_one _ _
c_two_operands Difference x y = c_one _ _
c_two_operands Intersection x y = c_one _ _
c_two_operands SymmetricDifference x y = c_one _ _
c_two_operands Subset x y = c_included x y
c_two_operands Superset x y = c_included y x
c_two_operands Lsl x y = c_one _ _
c_two_operands Asr x y = c_one _ _
c_two_operands Ror x y = c_one _ _

pub c_unary : {a : ℕ} {x : Low ℕ} (op : Unary) → Costs a x → Costs (a + 1) (unary op x)
c_unary op p = seq p (λ a. c_one_operand op a)

pub c_binary : {a b : ℕ} {x y : Low ℕ} (op : Binary) → Costs a x → Costs b y → Costs (a + b + 3) (binary op x y)
c_binary op p q = at_most (seq p (λ a. seq q (λ b. c_two_operands op a b))) (omega arith)

pub c_compared : {a b : ℕ} {x y : Low ℕ} (r : Relation) → Costs a x → Costs b y → Costs (a + b + 1) (compared r x y)
c_compared r p q = at_most (seq p (λ a. seq q (λ b. emitted (Set (condition r)) (a ∷ b ∷ [])))) (omega arith)

pub c_texts : {a b : ℕ} {d e : Low Named} (size : ℕ) (r : Relation) (n m : Option ℕ) → Costs a d → Costs b e → Costs (a + b + 11) (texts_compared size r d n e m)
c_texts size r n m p q = at_most (seq p (λ x. seq (c_address_in x 0) (λ a. seq (c_bytes_in size n x) (λ i. seq q (λ y. seq (c_address_in y 0) (λ b. seq (c_bytes_in size m y) (λ j. seq (emitted Compare (a ∷ i ∷ b ∷ j ∷ [])) (λ c. seq (c_const 0) (λ z. emitted (Set (condition r)) (c ∷ z ∷ [])))))))))) (omega arith)

pub c_guarded : {a : ℕ} {x : Low ℕ} (g j : ℕ) → Costs a x → Costs (a + 2) (guarded x g j)
c_guarded g j p = at_most (seq p (λ a. seq (emitted (GlobalOp g) []) (λ b. seq (done (GuardPtr j) (a ∷ b ∷ [])) (λ _. free a)))) (omega arith)

pub c_member : {a : ℕ} {x : Low ℕ} → Costs a x → Costs (a + 1) (member x)
c_member p = at_most (seq p (λ a. seq (done Elem (a ∷ [])) (λ _. free a))) (omega arith)

pub c_contained : {a b : ℕ} {x s : Low ℕ} → Costs a x → Costs b s → Costs (a + b + 2) (contained x s)
c_contained p q = at_most (seq (c_member p) (λ a. seq q (λ b. emitted Has (a ∷ b ∷ [])))) (omega arith)

pub c_with_element : {a b : ℕ} {s x : Low ℕ} → Costs a s → Costs b x → Costs (a + b + 3) (with_element s x)
c_with_element q p = at_most (seq q (λ b. seq (c_member p) (λ a. seq (emitted Bit (a ∷ [])) (λ e. emitted Or (b ∷ e ∷ []))))) (omega arith)

pub c_with_range : {a b d : ℕ} {s x y : Low ℕ} → Costs a s → Costs b x → Costs d y → Costs (a + b + d + 4) (with_range s x y)
c_with_range q p r = at_most (seq q (λ b. seq (c_member p) (λ a. seq (c_member r) (λ c. seq (emitted Span (a ∷ c ∷ [])) (λ e. emitted Or (b ∷ e ∷ [])))))) (omega arith)

pub c_is_pointer : (g j x : ℕ) → Costs 2 (is_pointer g j x)
c_is_pointer g j x = seq (emitted (GlobalOp g) []) (λ a. emitted (IsPtr j) (x ∷ a ∷ []))

pub c_is_tag : (g j x : ℕ) → Costs 2 (is_tag g j x)
c_is_tag g j x = seq (emitted (GlobalOp g) []) (λ a. emitted (IsTag j) (x ∷ a ∷ []))

pub c_tag_of : {a : ℕ} {d : Low Named} → Costs a d → Costs (a + 1) (tag_of d)
c_tag_of p = seq p c_second

pub c_as_byte : {a : ℕ} {x : Low ℕ} → Costs a x → Costs (a + 1) (as_byte x)
c_as_byte p = at_most (seq p (λ a. seq (done Byte (a ∷ [])) (λ _. free a))) (omega arith)

pub c_length_of : {a : ℕ} {d : Low Named} (n : Option ℕ) → Costs a d → Costs (a + 2) (length_of d n)
c_length_of n p = at_most (seq p (λ h. seq (c_address_in h 0) (λ _. c_length_in n h))) (omega arith)

pub c_by_word : {a : ℕ} {x : Low ℕ} → Costs a x → Costs a (by_word x)
c_by_word p = at_most (seq p (λ a. free (a ∷ []))) (omega arith)

pub c_address : {a : ℕ} {d : Low Named} → Costs a d → Costs (a + 1) (address d)
c_address p = seq p (λ h. c_address_in h 0)

pub c_tag_in : (g : ℕ) (h : Named) → Costs 1 (tag_in g h)
c_tag_in g (At a) = emitted _ _
c_tag_in g (Beside a b) = at_most (free b) (omega arith)
c_tag_in g (Object p) = emitted _ _
c_tag_in g (Held x) = c_const 0

pub c_by_record : {a : ℕ} {d : Low Named} (g : ℕ) → Costs a d → Costs (a + 2) (by_record d g)
c_by_record g p = at_most (seq p (λ h. seq (c_address_in h 0) (λ a. seq (c_tag_in g h) (λ t. free (a ∷ t ∷ []))))) (omega arith)

pub c_by_open : {a : ℕ} {d : Low Named} (n : Option ℕ) → Costs a d → Costs (a + 2) (by_open d n)
c_by_open n p = at_most (seq p (λ h. seq (c_address_in h 0) (λ a. seq (c_length_in n h) (λ l. free (a ∷ l ∷ []))))) (omega arith)

pub c_also : {a b : ℕ} {x more : Low (List ℕ)} → Costs a x → Costs b more → Costs (a + b) (also x more)
c_also p q = at_most (seq p (λ a. seq q (λ b. free (a ++ b)))) (omega arith)

pub c_call : {a : ℕ} {words : Low (List ℕ)} (g : ℕ) → Costs a words → Costs a (call g words)
c_call g q = at_most (seq q (λ ws. free (record { code = Call g; words = ws }))) (omega arith)

pub c_call_at : {a b : ℕ} {x : Low ℕ} {words : Low (List ℕ)} → Costs a x → Costs b words → Costs (a + b + 1) (call_at x words)
c_call_at p q = at_most (seq p (λ t. seq q (λ ws. seq (done NotNil (t ∷ [])) (λ _. free (record { code = CallAt; words = t ∷ ws }))))) (omega arith)

pub c_with_result : {a : ℕ} {m : Low Request} → Costs a m → Costs (a + 1) (with_result m)
c_with_result p = seq p (λ r. emitted r.code r.words)

pub c_without_result : {a : ℕ} {m : Low Request} → Costs a m → Costs (a + 1) (without_result m)
c_without_result p = seq p (λ r. done r.code r.words)

pub c_current : (h : Home) → Costs 1 (current h)
c_current (InRegister x) = c_variable x
c_current (InMemory a is_small) = emitted _ _

pub c_home_in : (is_small : Bool) (h : Named) → Costs 1 (home_in is_small h)
c_home_in is_small (At a) = seq (c_address_in (At a) 0) (λ b. free (InMemory b is_small))
c_home_in is_small (Beside a b) = seq (c_address_in (Beside a b) 0) (λ b. free (InMemory b is_small))
c_home_in is_small (Object p) = seq (c_address_in (Object p) 0) (λ b. free (InMemory b is_small))
c_home_in is_small (Held x) = at_most (free (InRegister x)) (omega arith)

pub c_home_of : {a : ℕ} {d : Low Named} (is_small : Bool) → Costs a d → Costs (a + 1) (home_of d is_small)
c_home_of is_small q = seq q (λ h. c_home_in is_small h)

pub c_load : {a : ℕ} {d : Low Home} → Costs a d → Costs (a + 1) (load d)
c_load p = seq p c_current

pub record Good (n : ℕ) (x : Lowers) : Type 0 where
  pub value : Costs n x.value
  pub test : CostsTest n x.test

pub g_valued : {n k : ℕ} {x : Low ℕ} → Costs n x → suc n ≤ k → Good k (valued x)
g_valued p l = record { value = at_most p (omega (arith, l)); test = test_at_most (f_value p) l }

pub g_tested : {n k : ℕ} {t : Test} → CostsTest n t → n + 4 ≤ k → Good k (tested t)
g_tested p l = record { value = at_most (c_flag p) l; test = test_at_most p (omega (arith, l)) }

pub g_one : {n k : ℕ} {x : Lowers} (op : Unary) → Good n x → n + 2 ≤ k → Good k (one_of op x)
g_one Not p l = record { value = at_most (c_unary Not p.value) (omega (arith, l)); test = test_at_most (f_not p.test) (omega (arith, l)) }
g_one Negate p l = g_valued (c_unary Negate p.value) (omega (arith, l))
g_one Complement p l = g_valued (c_unary Complement p.value) (omega (arith, l))
g_one Abs p l = g_valued (c_unary Abs p.value) (omega (arith, l))
g_one Odd p l = g_valued (c_unary Odd p.value) (omega (arith, l))

---- Statements without blocks of their own

pub c_store : (is_small : Bool) (a v : ℕ) → Costs 1 (store is_small a v)
c_store is_small a v = done (if is_small then StoreByte else StoreOp) (a ∷ v ∷ [])

pub c_change : (h : Home) (v : ℕ) → Costs 1 (change h v)
c_change (InRegister x) v = record { by = λ c. omega arith }
c_change (InMemory a is_small) v = c_store is_small a v

pub c_assign : {a b : ℕ} {d : Low Home} {x : Low ℕ} → Costs a d → Costs b x → Costs (a + b + 1) (assign d x)
c_assign p q = at_most (seq p (λ h. seq q (λ v. c_change h v))) (omega arith)

pub c_if : {n : ℕ} (b : Bool) {m k : Deed} → Costs n m → Costs n k → Costs n (if b then m else k)
c_if true p q = p
c_if false p q = q

pub c_change_number : {a b : ℕ} {d : Low Home} {x : Low ℕ} (op : Binary) (is_byte : Bool) → Costs a d → Costs b x → Costs (a + b + 6) (change_number op d x is_byte)
c_change_number op is_byte p q = at_most (seq p (λ h. seq q (λ n. seq (c_current h) (λ v. seq (c_two_operands op v n) (λ w. seq (c_if is_byte (done Byte (w ∷ [])) (at_most (free tt) (omega arith))) (λ _. c_change h w)))))) (omega arith)

pub c_change_set : {a b : ℕ} {d : Low Home} {x : Low ℕ} (op : Binary) → Costs a d → Costs b x → Costs (a + b + 7) (change_set op d x)
c_change_set op p q = at_most (seq p (λ h. seq (c_member q) (λ a. seq (emitted Bit (a ∷ [])) (λ e. seq (c_current h) (λ v. seq (c_two_operands op v e) (λ w. c_change h w)))))) (omega arith)

pub c_new : {a : ℕ} {d : Low Home} (cells bytes g : ℕ) → Costs a d → Costs (a + 5) (new d cells bytes g)
c_new cells bytes g p = at_most (seq p (λ h. seq (c_const (cells + 1)) (λ n. seq (c_const (bytes + 8)) (λ b. seq (emitted (GlobalOp g) []) (λ x. seq (emitted NewOp (n ∷ b ∷ x ∷ [])) (λ o. c_change h o)))))) (omega arith)

pub c_fits_one : (n m : Option ℕ) (to from : Named) → Costs 3 (length_in n to >>= λ a. length_in m from >>= λ b. does Fits (b ∷ a ∷ []))
c_fits_one n m to from = seq (c_length_in n to) (λ a. seq (c_length_in m from) (λ b. done Fits (b ∷ a ∷ [])))

pub c_fits : (n m : Option ℕ) (to from : Named) → Costs 3 (fits n to m from)
c_fits None None to from = c_fits_one None None to from
c_fits None (Some m) to from = c_fits_one None (Some m) to from
c_fits (Some n) None to from = c_fits_one (Some n) None to from
c_fits (Some n) (Some m) to from = at_most (free tt) (omega arith)

pub c_copy_array : {a b : ℕ} {d e : Low Named} (n m : Option ℕ) (size : ℕ) → Costs a d → Costs b e → Costs (a + b + 9) (copy_array d n e m size)
c_copy_array n m size p q = at_most (seq p (λ to. seq (c_address_in to 0) (λ a. seq q (λ from. seq (c_address_in from 0) (λ b. seq (c_fits n m to from) (λ _. seq (c_bytes_in size m from) (λ bytes. done Copy (a ∷ b ∷ bytes ∷ [])))))))) (omega arith)

pub c_copy_record : {a b : ℕ} {d e : Low Named} (size : ℕ) → Costs a d → Costs b e → Costs (a + b + 4) (copy_record d e size)
c_copy_record size p q = at_most (seq p (λ to. seq (c_address_in to 0) (λ a. seq q (λ from. seq (c_address_in from 0) (λ b. seq (c_const size) (λ bytes. done Copy (a ∷ b ∷ bytes ∷ []))))))) (omega arith)

pub c_assert : {a : ℕ} {x : Low ℕ} → Costs a x → Costs (a + 1) (assert x)
c_assert p = seq p (λ a. done True (a ∷ []))

pub c_out_char : {a : ℕ} {x : Low ℕ} → Costs a x → Costs (a + 1) (out_char x)
c_out_char p = seq p (λ a. done (Svc 1) (a ∷ []))

pub c_out_int : {a b : ℕ} {x n : Low ℕ} → Costs a x → Costs b n → Costs (a + b + 1) (out_int x n)
c_out_int p q = at_most (seq p (λ a. seq q (λ b. done (Svc 2) (a ∷ b ∷ [])))) (omega arith)

pub c_out_string : {a : ℕ} {d : Low Named} (size : ℕ) (n : Option ℕ) → Costs a d → Costs (a + 4) (out_string size d n)
c_out_string size n p = at_most (seq p (λ h. seq (c_address_in h 0) (λ a. seq (c_length_in n h) (λ l. seq (c_const size) (λ s. done (Svc 3) (a ∷ l ∷ s ∷ [])))))) (omega arith)

pub c_in_char : {a : ℕ} {d : Low Named} (b c : Bool) → Costs a d → Costs (a + 8) (in_char d b c)
c_in_char b c p = at_most (seq p (λ h. seq (c_address_in h 0) (λ a. seq (emitted (Svc 4) []) (λ x. seq (c_const 0) (λ z. seq (emitted (Set 10) (x ∷ z ∷ [])) (λ ok. seq (emitted (GlobalOp 0) []) (λ g. seq (c_store b g ok) (λ _. seq (emitted Max0 (x ∷ [])) (λ v. c_store c a v))))))))) (omega arith)

pub c_for : {a b d e : ℕ} {first body : Deed} {limit current : Low ℕ} (mask : Mask) (k : ℕ) → Costs a first → Costs b limit → Costs d current → Costs e body → Costs (a + (b + (d + (e + 3)))) (for mask k first limit current body)
c_for {a} {b} {d} {e} {body = body} {current = current} mask k p q r t =
    at_most (seq p (λ _. seq q (λ l. c_loop (suc (d + 0) + (e + 1)) mask (record { test = fork_branch k current (give l); body = body } ∷ []) (suc (d + 0), e, 0, f_branch k r (free l), t, tt, omega arith)))) (omega arith)
