-- Each operation of a well-formed program's procedures has the uses and the result, and the number, that it must have.
use Rattle.std.proofs.Common.{◌≡◌, ℕ, zero, suc, ◌+◌, ◌*◌, ◌<◌, ◌≤◌, List, [], ◌∷◌, ◌++◌, length, length-append, Bool, true, false, Option, Some, None, refl, slice_get, arith}
use Rattle.std.specs.Prelude.{if◌then◌else◌, nat_lt, nat_le}
use Rattle.std.proofs.lemmas.Bool.{lt-ltb, le-leb, and_from}
use Rattle.ob_types.specs.Meaning.{is_byte}
use Rattle.ob_types.specs.declared.tree.Unary.{Unary}
use Rattle.ob_types.specs.declared.tree.Unary.TheVariants.{Negate, Complement, Not, Abs, Odd}
use Rattle.ob_types.specs.declared.tree.Binary.{Binary}
use Rattle.ob_types.specs.declared.tree.Binary.TheVariants.{Add, Subtract, Multiply, Div, Mod, Union, Difference, Intersection, SymmetricDifference, Subset, Superset, Lsl, Asr, Ror}
use Rattle.ob_types.specs.declared.tree.Relation.{Relation}
use Rattle.ob_types.specs.declared.tree.Relation.TheVariants.{Equal, Unequal, Less, LessEqual, Greater, GreaterEqual}
use Rattle.block_runs.specs.declared.code.Code.TheVariants.{Svc, Max0, Copy, Fits, Set, True, Const, Plus, Call, CallAt, StoreByte, Mul, MulAdd, Below, NotNil, GuardPtr, GuardTag, IsPtr, IsTag, Bic, Compare, Elem, Has, Bit, Span, Or, Byte}
use Rattle.block_runs.specs.declared.code.Code.TheVariants.{Local as LocalOp, Global as GlobalOp, New as NewOp, Store as StoreOp, Load as LoadOp}
use Rattle.block_runs.specs.Valid.{fits, in_24_bits, operation_fits}
use Rattle.block_runs.specs.declared.code.Code.{Code}
use Rattle.block_runs.specs.declared.code.Code.TheVariants.{LoadByte}
use Rattle.block_runs.specs.declared.end.End.{End}
use Rattle.block_runs.specs.declared.end.End.TheVariants.{Jump, Branch, Nonzero}
use Rattle.ssa_core.specs.Procedures.{operation_of}
use Rattle.ssa_lowered.specs.Pieces.{Cursor, Start, Piece, Appends, Closes, Low, skip, give, ◌>>=◌, emits, does, fetched, variable, becomes, close, fresh, plain, Mask, picked, join, join_start}
use Rattle.ssa_lowered.specs.Control.{half, often, at_freq, Test, fork_value, fork_branch, fork_not, fork_and, fork_or, flag, Lowers, valued, tested, choose, Round, behind, rounds, loop, repeat, for, Rung, ladder, limbs, case}
use Rattle.ssa_lowered.specs.Values.{const, condition, Named, At, Beside, Object, Held, past, address_in, second, length_in, bytes_in, address, data_at, local_at, element, field, dereferenced, narrowed, one_operand, two_operands, included, unary, binary, compared, texts_compared, guarded, member, contained, with_element, with_range, is_pointer, is_tag, tag_of, tag_in, as_byte, length_of, by_word, by_record, by_open, also, Request, call, call_at, with_result, without_result, home_in, home_of, load, Home, current, change, store}
use Rattle.ssa_lowered.specs.Values.{Register as InRegister, Memory as InMemory}
use Rattle.ssa_lowered.specs.Statements
use Rattle.ssa_lowered.specs.Statements.{Deed, assign, change_number, change_set, new, copy_array, copy_record, assert, out_char, out_int, out_string, in_char}
use Rattle.ssa_lowered.specs.Lowered.{one_of}
use Rattle.ssa_lowered.proofs.Everywhere.{Each}

---- Pieces

module _ (args : ℕ) where
  abbrev pub AllFit : List Piece → Type 0
  AllFit [] = Unit {0}
  AllFit (Appends b i op ∷ ps) = (operation_fits args (operation_of op) ≡ true) × AllFit ps
  AllFit (Closes b i end start ∷ ps) = AllFit ps

  fit_on : (xs ys : List Piece) → AllFit xs → AllFit ys → AllFit (xs ++ ys)
  fit_on [] ys p q = q
  fit_on (Appends b i op ∷ xs) ys p q = (p.0, fit_on xs ys p.1 q)
  fit_on (Closes b i end start ∷ xs) ys p q = fit_on xs ys p q

  pub record Fine (ps : List Piece) : Type 0 where
    pub all : AllFit ps

  joined : {xs ys : List Piece} → Fine xs → Fine ys → Fine (xs ++ ys)
  joined {xs} {ys} x y = record { all = fit_on xs ys x.all y.all }

  closing : (c : Cursor) (end : End) (start : Start) {ps : List Piece} → Fine ps → Fine (close c end start ∷ ps)
  closing c end start x = record { all = x.all }

  none : Fine []
  none = record { all = tt }

  abbrev pub Any : {A : Type 0} → A → Type 0
  Any a = Unit {0}

  -- wherever it is, its pieces fit, and something holds of its result
  pub record Fit {A : Type 0} (P : A → Type 0) (m : Low A) : Type 0 where
    pub by : (c : Cursor) → Fine (m c).pieces × P (m c).result

  pub record FitTest (t : Test) : Type 0 where
    pub by : (c : Cursor) (y n q : ℕ) → Fine ((t c).pieces y n q)

  abbrev pub Plainly : {A : Type 0} → Low A → Type 0
  Plainly m = Fit Any m

  pub bind : {A B : Type 0} {P : A → Type 0} {Q : B → Type 0} {m : Low A} {k : A → Low B} → Fit P m → ((a : A) → P a → Fit Q (k a)) → Fit Q (m >>= k)
  bind {m = m} p q = record { by = λ c. let a = p.by c in let b = (q (m c).result a.1).by (m c).after in (joined a.0 b.0, b.1) }

  pub seq : {A B : Type 0} {Q : B → Type 0} {m : Low A} {k : A → Low B} → Plainly m → ((a : A) → Fit Q (k a)) → Fit Q (m >>= k)
  seq p q = bind p (λ a _. q a)

  pub gives : {A : Type 0} {P : A → Type 0} (a : A) → P a → Fit P (give a)
  gives a i = record { by = λ c. (none, i) }

  pub plainly : {A : Type 0} (a : A) → Plainly (give a)
  plainly a = gives a tt

  pub emitted : (code : Code) (uses : List ℕ) → fits args code (length uses) true ≡ true → Plainly (emits code uses)
  emitted code uses e = record { by = λ c. (record { all = (e, tt) }, tt) }

  pub done : (code : Code) (uses : List ℕ) → fits args code (length uses) false ≡ true → Plainly (does code uses)
  done code uses e = record { by = λ c. (record { all = (e, tt) }, tt) }

  pub s_const : (n : ℕ) → Plainly (const n)
  s_const n = emitted (Const n) [] refl

  fetched_by : (o : Option ℕ) → Plainly (fetched o)
  fetched_by (Some v) = plainly v
  fetched_by None = s_const 0

  pub s_variable : (x : ℕ) → Plainly (variable x)
  s_variable x = record { by = λ c. (fetched_by (slice_get c.env x)).by c }

  pub s_becomes : (x v : ℕ) → Plainly (becomes x v)
  s_becomes x v = record { by = λ c. (none, tt) }

  ---- Numbers

  number_fits : (n : ℕ) → n < 16777216 → in_24_bits n ≡ true
  number_fits n l = lt-ltb n 16777216 l

  pub s_global : (n : ℕ) → n < 16777216 → Plainly (emits (GlobalOp n) [])
  s_global n l = emitted (GlobalOp n) [] (and_from (in_24_bits n) true (number_fits n l) refl)

  pub s_local : (n : ℕ) → n < 16777216 → Plainly (emits (LocalOp n) [])
  s_local n l = emitted (LocalOp n) [] (and_from (in_24_bits n) true (number_fits n l) refl)

  pub s_plus : (n a : ℕ) → n < 16777216 → Plainly (emits (Plus n) (a ∷ []))
  s_plus n a l = emitted (Plus n) (a ∷ []) (and_from (in_24_bits n) true (number_fits n l) refl)

  ---- Tests and what has blocks of its own

  pub f_value : {x : Low ℕ} → Plainly x → FitTest (fork_value x)
  f_value {x = x} p = record { by = λ c y n q. joined (joined (p.by c).0 none) (closing (x c).after (Nonzero (x c).result y n) (plain q c.seen) none) }

  pub f_branch : {x y : Low ℕ} (k : ℕ) → Plainly x → Plainly y → FitTest (fork_branch k x y)
  f_branch {x = x} {y = y} k p r = record {
    by = λ c one other q.
        let a = x c in
        let b = y a.after in
        joined (joined (p.by c).0 (joined (r.by a.after).0 none)) (closing b.after (Branch k a.result b.result one other) (plain q c.seen) none);
  }

  pub f_not : {t : Test} → FitTest t → FitTest (fork_not t)
  f_not p = record { by = λ c y n q. p.by c n y q }

  pub f_and : {t u : Test} → FitTest t → FitTest u → FitTest (fork_and t u)
  f_and {t = t} p r = record { by = λ c y n q. joined (p.by c (t c).after.block n c.freq) (r.by (t c).after y n q) }

  pub f_or : {t u : Test} → FitTest t → FitTest u → FitTest (fork_or t u)
  f_or {t = t} p r = record { by = λ c y n q. joined (p.by c y (t c).after.block c.freq) (r.by (t c).after y n q) }

  pub s_flag : {t : Test} → FitTest t → Plainly (flag t)
  s_flag {t = t} p = record {
    by = λ c.
        let x = t c in
        let one = const 1 (at_freq x.after (half c.freq)) in
        let no : Cursor = record (fresh one.after) { seen = x.after.seen } in
        (joined (p.by c x.after.block no.block (half c.freq)) (record { all = (refl, (refl, tt)) }), tt);
  }

  pub s_choose : {t : Test} {g k : Deed} (mask : Mask) → FitTest t → Plainly g → Plainly k → Plainly (choose mask t g k)
  s_choose {t = t} {g = g} {k = k} mask p q r = record {
    by = λ c.
        let x = t c in
        let arm = at_freq x.after (half c.freq) in
        let one = g arm in
        let other : Cursor = record (fresh one.after) { freq = half c.freq; env = x.after.env; seen = x.after.seen } in
        let two = k other in
        let out = join mask two.after other c.freq in (
          joined (p.by c x.after.block other.block (half c.freq)) (joined (q.by arm).0 (closing one.after (Jump out.block (picked mask one.after.env)) (plain other.freq other.seen)
              (joined (r.by other).0 (closing two.after (Jump out.block (picked mask two.after.env)) (join_start mask two.after other c.freq None) none)))),
          tt,
        );
  }

  abbrev pub FitRound : Round → Type 0
  FitRound r = FitTest r.test × Plainly r.body

  pub s_rounds : (mask : Mask) (head outside : ℕ) (rs : List Round) → Each FitRound rs → (c : Cursor) → Fine (rounds mask head outside rs c).pieces
  s_rounds mask head outside [] q c = none
  s_rounds mask head outside (r ∷ rs) q c =
      let t = r.test c in
      let arm = at_freq t.after c.freq in
      let one = r.body arm in
      let next : Cursor = record (fresh one.after) { freq = behind rs c.freq outside; env = t.after.env; seen = t.after.seen } in
      joined (q.0.0.by c t.after.block next.block c.freq) (joined (q.0.1.by arm).0 (closing one.after (Jump head (picked mask one.after.env)) (plain next.freq next.seen) (s_rounds mask head outside rs q.1 next)))

  pub s_loop : (mask : Mask) (rs : List Round) → Each FitRound rs → Plainly (loop mask rs)
  s_loop mask rs q = record {
    by = λ c.
        let head = join mask c c (often c.freq) in
        (closing c (Jump head.block (picked mask c.env)) (join_start mask c c head.freq (Some c.block)) (s_rounds mask head.block c.freq rs q head), tt);
  }

  pub s_repeat : {g : Deed} {t : Test} (mask : Mask) → Plainly g → FitTest t → Plainly (repeat mask g t)
  s_repeat {g = g} {t = t} mask q p = record {
    by = λ c.
        let head = join mask c c (often c.freq) in
        let one = g head in
        let x = t one.after in
        let back = at_freq x.after head.freq in
        let exit = at_freq (fresh back) c.freq in (
          closing c (Jump head.block (picked mask c.env)) (join_start mask c c head.freq (Some c.block))
              (joined (q.by head).0 (joined (p.by one.after exit.block back.block back.freq) (closing back (Jump head.block (picked mask back.env)) (plain exit.freq exit.seen) none))),
          tt,
        );
  }

  abbrev FitRung : Rung → Type 0
  FitRung r = FitTest r.test

  pub s_ladder : (last : ℕ) (rs : List Rung) → Each FitRung rs → (to : ℕ → ℕ) (c : Cursor) → Fine ((ladder last rs c).pieces to)
  s_ladder last [] q to c = closing c (Jump (suc c.block) []) (plain last c.seen) none
  s_ladder last (r ∷ []) q to c = q.0.by c (to r.part) (r.test c).after.block last
  s_ladder last (r ∷ s ∷ rs) q to c = joined (q.0.by c (to r.part) (r.test c).after.block c.freq) (s_ladder last (s ∷ rs) q.1 to (r.test c).after)

  pub s_limbs : (mask : Mask) (s : Cursor) (bodies : List Deed) → Each (λ (b : Deed). Plainly b) bodies → (c : Cursor) (end : ℕ → End) (out : ℕ) → Fine ((limbs mask s bodies c end).pieces out)
  s_limbs mask s [] q c end out = closing c (end out) (join_start mask c s s.freq None) none
  s_limbs mask s (body ∷ bodies) q c end out =
      let start : Cursor = record (fresh c) { freq = half s.freq; env = s.env; seen = s.seen } in
      let one = body start in
      closing c (end out) (plain start.freq start.seen) (joined (q.0.by start).0 (s_limbs mask s bodies q.1 one.after (λ to. Jump to (picked mask one.after.env)) out))

  pub s_case : (mask : Mask) (rungs : List Rung) (bodies : List Deed) (unmatched : ℕ → List ℕ → End) → Each FitRung rungs → Each (λ (b : Deed). Plainly b) bodies → Plainly (case mask rungs bodies unmatched)
  s_case mask rungs bodies unmatched p q = record {
    by = λ c.
        let t = ladder (half c.freq) rungs c in
        let end : ℕ → End = λ out. unmatched out (picked mask c.env) in
        let a = limbs mask c bodies t.after end in
        (joined (s_ladder (half c.freq) rungs p a.starts c) (s_limbs mask c bodies q t.after end a.after.block), tt);
  }

  ---- Values

  pub s_past : (a n : ℕ) → n < 16777216 → Plainly (past a n)
  s_past a zero l = plainly a
  s_past a (suc n) l = s_plus (suc n) a l

  -- so many bytes further, behind a tag too
  pub s_address_in : (h : Named) (n : ℕ) → 8 + n < 16777216 → Plainly (address_in h n)
  s_address_in (At a) n l = s_past a n (omega (arith, l))
  s_address_in (Beside a b) n l = s_past a n (omega (arith, l))
  s_address_in (Object p) n l = s_plus (8 + n) p l
  s_address_in (Held x) n l = s_const 0

  pub s_start : (h : Named) → Plainly (address_in h 0)
  s_start h = s_address_in h 0 (omega arith)

  pub s_second : (h : Named) → Plainly (second h)
  s_second (At a) = s_const 0
  s_second (Beside a b) = plainly b
  s_second (Object p) = emitted LoadOp (p ∷ []) refl
  s_second (Held x) = s_const 0

  pub s_length_in : (n : Option ℕ) (h : Named) → Plainly (length_in n h)
  s_length_in None h = s_second h
  s_length_in (Some n) h = s_const n

  pub s_bytes_in : (size : ℕ) (n : Option ℕ) (h : Named) → Plainly (bytes_in size n h)
  s_bytes_in size None h = seq (s_second h) (λ n. seq (s_const size) (λ s. emitted Mul (n ∷ s ∷ []) refl))
  s_bytes_in size (Some n) h = s_const (n * size)

  pub s_data_at : (n : ℕ) → n < 16777216 → Plainly (data_at n)
  s_data_at n l = seq (s_global n l) (λ a. plainly (At a))

  pub s_local_at : (n : ℕ) → n < 16777216 → Plainly (local_at n)
  s_local_at n l = seq (s_local n l) (λ a. plainly (At a))

  pub s_element : {d : Low Named} {x : Low ℕ} (n : Option ℕ) (size : ℕ) → Plainly d → Plainly x → Plainly (element d n size x)
  s_element n size p q = seq p (λ h. seq (s_start h) (λ a. seq q (λ i. seq (s_length_in n h) (λ l. seq (done Below (i ∷ l ∷ []) refl) (λ _. seq (s_const size) (λ s. seq (emitted MulAdd (i ∷ s ∷ a ∷ []) refl) (λ e. plainly (At e))))))))

  pub s_field : {d : Low Named} (n : ℕ) → 8 + n < 16777216 → Plainly d → Plainly (field d n)
  s_field n l p = seq p (λ h. seq (s_address_in h n l) (λ a. plainly (At a)))

  pub s_dereferenced : {x : Low ℕ} → Plainly x → Plainly (dereferenced x)
  s_dereferenced q = seq q (λ a. seq (done NotNil (a ∷ []) refl) (λ _. plainly (Object a)))

  pub s_narrowed : {d : Low Named} (g j : ℕ) → g < 16777216 → j < 16 → Plainly d → Plainly (narrowed d g j)
  s_narrowed g j l k p = seq p (λ h. seq (s_second h) (λ t. seq (s_global g l) (λ x. seq (done (GuardTag j) (t ∷ x ∷ []) (and_from (nat_lt j 16) true (lt-ltb j 16 k) refl)) (λ _. plainly h))))

  pub s_one_operand : (op : Unary) (x : ℕ) → Plainly (one_operand op x)
  s_one_operand Negate x = emitted _ _ refl
  s_one_operand Complement x = emitted _ _ refl
  s_one_operand Not x = emitted _ _ refl
  s_one_operand Abs x = emitted _ _ refl
  s_one_operand Odd x = emitted _ _ refl

  pub s_included : (x y : ℕ) → Plainly (included x y)
  s_included x y = seq (emitted Bic (x ∷ y ∷ []) refl) (λ d. seq (s_const 0) (λ z. emitted (Set 0) (d ∷ z ∷ []) refl))

  pub s_two_operands : (op : Binary) (x y : ℕ) → Plainly (two_operands op x y)
  s_two_operands Add x y = emitted _ _ refl
  s_two_operands Subtract x y = emitted _ _ refl
  s_two_operands Multiply x y = emitted _ _ refl
  s_two_operands Div x y = emitted _ _ refl
  s_two_operands Mod x y = emitted _ _ refl
  s_two_operands Union x y = emitted _ _ refl
  s_two_operands Difference x y = emitted _ _ refl
  s_two_operands Intersection x y = emitted _ _ refl
  s_two_operands SymmetricDifference x y = emitted _ _ refl
  s_two_operands Subset x y = s_included x y
  s_two_operands Superset x y = s_included y x
  s_two_operands Lsl x y = emitted _ _ refl
  s_two_operands Asr x y = emitted _ _ refl
  s_two_operands Ror x y = emitted _ _ refl

  pub s_unary : {x : Low ℕ} (op : Unary) → Plainly x → Plainly (unary op x)
  s_unary op p = seq p (λ a. s_one_operand op a)

  pub s_binary : {x y : Low ℕ} (op : Binary) → Plainly x → Plainly y → Plainly (binary op x y)
  s_binary op p q = seq p (λ a. seq q (λ b. s_two_operands op a b))

  pub s_set : (r : Relation) (a b : ℕ) → Plainly (emits (Set (condition r)) (a ∷ b ∷ []))
  s_set Equal a b = emitted _ _ refl
  s_set Unequal a b = emitted _ _ refl
  s_set Less a b = emitted _ _ refl
  s_set LessEqual a b = emitted _ _ refl
  s_set Greater a b = emitted _ _ refl
  s_set GreaterEqual a b = emitted _ _ refl

  pub s_compared : {x y : Low ℕ} (r : Relation) → Plainly x → Plainly y → Plainly (compared r x y)
  s_compared r p q = seq p (λ a. seq q (λ b. s_set r a b))

  pub s_texts : {d e : Low Named} (size : ℕ) (r : Relation) (n m : Option ℕ) → Plainly d → Plainly e → Plainly (texts_compared size r d n e m)
  s_texts size r n m p q = seq p (λ x. seq (s_start x) (λ a. seq (s_bytes_in size n x) (λ i. seq q (λ y. seq (s_start y) (λ b. seq (s_bytes_in size m y) (λ j. seq (emitted Compare (a ∷ i ∷ b ∷ j ∷ []) refl) (λ c. seq (s_const 0) (λ z. s_set r c z))))))))

  pub s_guarded : {x : Low ℕ} (g j : ℕ) → g < 16777216 → j < 16 → Plainly x → Plainly (guarded x g j)
  s_guarded g j l k p = seq p (λ a. seq (s_global g l) (λ b. seq (done (GuardPtr j) (a ∷ b ∷ []) (and_from (nat_lt j 16) true (lt-ltb j 16 k) refl)) (λ _. plainly a)))

  pub s_member : {x : Low ℕ} → Plainly x → Plainly (member x)
  s_member p = seq p (λ a. seq (done Elem (a ∷ []) refl) (λ _. plainly a))

  pub s_contained : {x s : Low ℕ} → Plainly x → Plainly s → Plainly (contained x s)
  s_contained p q = seq (s_member p) (λ a. seq q (λ b. emitted Has (a ∷ b ∷ []) refl))

  pub s_with_element : {s x : Low ℕ} → Plainly s → Plainly x → Plainly (with_element s x)
  s_with_element q p = seq q (λ b. seq (s_member p) (λ a. seq (emitted Bit (a ∷ []) refl) (λ e. emitted Or (b ∷ e ∷ []) refl)))

  pub s_with_range : {s x y : Low ℕ} → Plainly s → Plainly x → Plainly y → Plainly (with_range s x y)
  s_with_range q p r = seq q (λ b. seq (s_member p) (λ a. seq (s_member r) (λ c. seq (emitted Span (a ∷ c ∷ []) refl) (λ e. emitted Or (b ∷ e ∷ []) refl))))

  -- a test of a type's level
  abbrev pub TypeTest : (ℕ → ℕ → ℕ → Low ℕ) → Type 0
  TypeTest is = (g j x : ℕ) → g < 16777216 → j < 16 → Plainly (is g j x)

  pub s_is_pointer : TypeTest is_pointer
  s_is_pointer g j x l k = seq (s_global g l) (λ a. emitted (IsPtr j) (x ∷ a ∷ []) (and_from (nat_lt j 16) true (lt-ltb j 16 k) refl))

  pub s_is_tag : TypeTest is_tag
  s_is_tag g j x l k = seq (s_global g l) (λ a. emitted (IsTag j) (x ∷ a ∷ []) (and_from (nat_lt j 16) true (lt-ltb j 16 k) refl))

  pub s_tag_of : {d : Low Named} → Plainly d → Plainly (tag_of d)
  s_tag_of p = seq p s_second

  pub s_as_byte : {x : Low ℕ} → Plainly x → Plainly (as_byte x)
  s_as_byte p = seq p (λ a. seq (done Byte (a ∷ []) refl) (λ _. plainly a))

  pub s_length_of : {d : Low Named} (n : Option ℕ) → Plainly d → Plainly (length_of d n)
  s_length_of n p = seq p (λ h. seq (s_start h) (λ _. s_length_in n h))

  ---- Arguments: so many words

  abbrev pub Long : ℕ → List ℕ → Type 0
  Long n words = length words ≡ n

  pub s_by_word : {x : Low ℕ} → Plainly x → Fit (Long 1) (by_word x)
  s_by_word p = seq p (λ a. gives (a ∷ []) refl)

  pub s_address : {d : Low Named} → Plainly d → Plainly (address d)
  s_address p = seq p (λ h. s_start h)

  pub s_tag_in : (g : ℕ) (h : Named) → g < 16777216 → Plainly (tag_in g h)
  s_tag_in g (At a) l = s_global g l
  s_tag_in g (Beside a b) l = plainly b
  s_tag_in g (Object p) l = emitted _ _ refl
  s_tag_in g (Held x) l = s_const 0

  pub s_by_record : {d : Low Named} (g : ℕ) → g < 16777216 → Plainly d → Fit (Long 2) (by_record d g)
  s_by_record g l p = seq p (λ h. seq (s_start h) (λ a. seq (s_tag_in g h l) (λ t. gives (a ∷ t ∷ []) refl)))

  pub s_by_open : {d : Low Named} (n : Option ℕ) → Plainly d → Fit (Long 2) (by_open d n)
  s_by_open n p = seq p (λ h. seq (s_start h) (λ a. seq (s_length_in n h) (λ l. gives (a ∷ l ∷ []) refl)))

  pub s_also : {x more : Low (List ℕ)} (n m k : ℕ) → k ≡ n + m → Fit (Long n) x → Fit (Long m) more → Fit (Long k) (also x more)
  s_also n m k e p q = bind p (λ a i. bind q (λ b j. gives (a ++ b) (let s = length-append a b in omega (arith, s, i, j, e))))

  -- a call with or without a result
  pub record OfRequest (r : Request) : Type 0 where
    pub with_one : fits args r.code (length r.words) true ≡ true
    pub with_none : fits args r.code (length r.words) false ≡ true

  pub s_call : {words : Low (List ℕ)} (g n : ℕ) → n ≤ 24 → Fit (Long n) words → Fit OfRequest (call g words)
  s_call g n l q = bind q (λ ws i. let e = le-leb (length ws) 24 (omega (arith, i, l)) in gives (record { code = Call g; words = ws }) (record { with_one = e; with_none = e }))

  pub s_call_at : {x : Low ℕ} {words : Low (List ℕ)} (n : ℕ) → n ≤ 24 → Plainly x → Fit (Long n) words → Fit OfRequest (call_at x words)
  s_call_at n l p q = seq p (λ t. bind q (λ ws i.
      let e = and_from (nat_le 1 (suc (length ws))) (nat_le (suc (length ws)) 25) (le-leb 1 (suc (length ws)) (omega arith)) (le-leb (suc (length ws)) 25 (omega (arith, i, l))) in
      seq (done NotNil (t ∷ []) refl) (λ _. gives (record { code = CallAt; words = t ∷ ws }) (record { with_one = e; with_none = e }))))

  pub s_with_result : {m : Low Request} → Fit OfRequest m → Plainly (with_result m)
  s_with_result p = bind p (λ r i. emitted r.code r.words i.with_one)

  pub s_without_result : {m : Low Request} → Fit OfRequest m → Plainly (without_result m)
  s_without_result p = bind p (λ r i. done r.code r.words i.with_none)

  pub s_current : (h : Home) → Plainly (current h)
  s_current (InRegister x) = s_variable x
  s_current (InMemory a true) = emitted LoadByte (a ∷ []) refl
  s_current (InMemory a false) = emitted LoadOp (a ∷ []) refl

  pub s_home_in : (is_small : Bool) (h : Named) → Plainly (home_in is_small h)
  s_home_in is_small (At a) = seq (s_start (At a)) (λ b. plainly (InMemory b is_small))
  s_home_in is_small (Beside a b) = seq (s_start (Beside a b)) (λ b. plainly (InMemory b is_small))
  s_home_in is_small (Object p) = seq (s_start (Object p)) (λ b. plainly (InMemory b is_small))
  s_home_in is_small (Held x) = plainly (InRegister x)

  pub s_home_of : {d : Low Named} (is_small : Bool) → Plainly d → Plainly (home_of d is_small)
  s_home_of is_small q = seq q (λ h. s_home_in is_small h)

  pub s_load : {d : Low Home} → Plainly d → Plainly (load d)
  s_load p = seq p s_current

  pub record Good (x : Lowers) : Type 0 where
    pub value : Plainly x.value
    pub test : FitTest x.test

  pub g_valued : {x : Low ℕ} → Plainly x → Good (valued x)
  g_valued p = record { value = p; test = f_value p }

  pub g_tested : {t : Test} → FitTest t → Good (tested t)
  g_tested p = record { value = s_flag p; test = p }

  pub g_one : {x : Lowers} (op : Unary) → Good x → Good (one_of op x)
  g_one Not p = record { value = s_unary Not p.value; test = f_not p.test }
  g_one Negate p = g_valued (s_unary Negate p.value)
  g_one Complement p = g_valued (s_unary Complement p.value)
  g_one Abs p = g_valued (s_unary Abs p.value)
  g_one Odd p = g_valued (s_unary Odd p.value)

  ---- Statements without blocks of their own

  pub s_skip : Plainly skip
  s_skip = plainly tt

  pub s_store : (is_small : Bool) (a v : ℕ) → Plainly (store is_small a v)
  s_store true a v = done StoreByte (a ∷ v ∷ []) refl
  s_store false a v = done StoreOp (a ∷ v ∷ []) refl

  pub s_change : (h : Home) (v : ℕ) → Plainly (change h v)
  s_change (InRegister x) v = s_becomes x v
  s_change (InMemory a is_small) v = s_store is_small a v

  pub s_assign : {d : Low Home} {x : Low ℕ} → Plainly d → Plainly x → Plainly (assign d x)
  s_assign p q = seq p (λ h. seq q (λ v. s_change h v))

  pub s_if : (b : Bool) {m n : Deed} → Plainly m → Plainly n → Plainly (if b then m else n)
  s_if true p q = p
  s_if false p q = q

  pub s_change_number : {d : Low Home} {x : Low ℕ} (op : Binary) (is_byte : Bool) → Plainly d → Plainly x → Plainly (change_number op d x is_byte)
  s_change_number op is_byte p q = seq p (λ h. seq q (λ n. seq (s_current h) (λ v. seq (s_two_operands op v n) (λ w. seq (s_if is_byte (done Byte (w ∷ []) refl) s_skip) (λ _. s_change h w)))))

  pub s_change_set : {d : Low Home} {x : Low ℕ} (op : Binary) → Plainly d → Plainly x → Plainly (change_set op d x)
  s_change_set op p q = seq p (λ h. seq (s_member q) (λ a. seq (emitted Bit (a ∷ []) refl) (λ e. seq (s_current h) (λ v. seq (s_two_operands op v e) (λ w. s_change h w)))))

  pub s_new : {d : Low Home} (cells bytes g : ℕ) → g < 16777216 → Plainly d → Plainly (new d cells bytes g)
  s_new cells bytes g l p = seq p (λ h. seq (s_const (cells + 1)) (λ n. seq (s_const (bytes + 8)) (λ b. seq (s_global g l) (λ x. seq (emitted NewOp (n ∷ b ∷ x ∷ []) refl) (λ o. s_change h o)))))

  pub s_fits_one : (n m : Option ℕ) (to from : Named) → Plainly (length_in n to >>= λ a. length_in m from >>= λ b. does Fits (b ∷ a ∷ []))
  s_fits_one n m to from = seq (s_length_in n to) (λ a. seq (s_length_in m from) (λ b. done Fits (b ∷ a ∷ []) refl))

  pub s_fits : (n m : Option ℕ) (to from : Named) → Plainly (Statements.fits n to m from)
  s_fits None None to from = s_fits_one None None to from
  s_fits None (Some m) to from = s_fits_one None (Some m) to from
  s_fits (Some n) None to from = s_fits_one (Some n) None to from
  s_fits (Some n) (Some m) to from = s_skip

  pub s_copy_array : {d e : Low Named} (n m : Option ℕ) (size : ℕ) → Plainly d → Plainly e → Plainly (copy_array d n e m size)
  s_copy_array n m size p q = seq p (λ to. seq (s_start to) (λ a. seq q (λ from. seq (s_start from) (λ b. seq (s_fits n m to from) (λ _. seq (s_bytes_in size m from) (λ bytes. done Copy (a ∷ b ∷ bytes ∷ []) refl))))))

  pub s_copy_record : {d e : Low Named} (size : ℕ) → Plainly d → Plainly e → Plainly (copy_record d e size)
  s_copy_record size p q = seq p (λ to. seq (s_start to) (λ a. seq q (λ from. seq (s_start from) (λ b. seq (s_const size) (λ bytes. done Copy (a ∷ b ∷ bytes ∷ []) refl)))))

  pub s_assert : {x : Low ℕ} → Plainly x → Plainly (assert x)
  s_assert p = seq p (λ a. done True (a ∷ []) refl)

  pub s_out_char : {x : Low ℕ} → Plainly x → Plainly (out_char x)
  s_out_char p = seq p (λ a. done (Svc 1) (a ∷ []) refl)

  pub s_out_int : {x n : Low ℕ} → Plainly x → Plainly n → Plainly (out_int x n)
  s_out_int p q = seq p (λ a. seq q (λ b. done (Svc 2) (a ∷ b ∷ []) refl))

  pub s_out_string : {d : Low Named} (size : ℕ) (n : Option ℕ) → Plainly d → Plainly (out_string size d n)
  s_out_string size n p = seq p (λ h. seq (s_start h) (λ a. seq (s_length_in n h) (λ l. seq (s_const size) (λ s. done (Svc 3) (a ∷ l ∷ s ∷ []) refl))))

  pub s_in_char : {d : Low Named} (b c : Bool) → Plainly d → Plainly (in_char d b c)
  s_in_char b c p = seq p (λ h. seq (s_start h) (λ a. seq (emitted (Svc 4) [] refl) (λ x. seq (s_const 0) (λ z. seq (emitted (Set 10) (x ∷ z ∷ []) refl) (λ ok. seq (s_global 0 (omega arith)) (λ g. seq (s_store b g ok) (λ _. seq (emitted Max0 (x ∷ []) refl) (λ v. s_store c a v))))))))

  pub s_for : {first body : Deed} {limit current : Low ℕ} (mask : Mask) (k : ℕ) → Plainly first → Plainly limit → Plainly current → Plainly body → Plainly (for mask k first limit current body)
  s_for {body = body} {current = current} mask k p q r t = seq p (λ _. seq q (λ l. s_loop mask (record { test = fork_branch k current (give l); body = body } ∷ []) ((f_branch k r (plainly l), t), tt)))
