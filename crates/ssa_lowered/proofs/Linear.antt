-- The pieces of each construct follow one another, from where lowering stands to where it stands behind it.
use Rattle.std.proofs.Common.{◌≡◌, ℕ, suc, List, [], ◌∷◌, ◌++◌, Option, Some, None, refl, sym, subst, slice_get}
use Rattle.block_runs.specs.declared.code.Code.{Code}
use Rattle.block_runs.specs.declared.code.Code.TheVariants.{Const}
use Rattle.block_runs.specs.declared.end.End.{End}
use Rattle.block_runs.specs.declared.end.End.TheVariants.{Jump}
use Rattle.ob_types.specs.declared.program.Program.{Program}
use Rattle.ssa_lowered.specs.Data.{Layout}
use Rattle.ssa_lowered.specs.Pieces.{Cursor, Start, Piece, Appends, Closes, Low, give, ◌>>=◌, emits, does, fetched, variable, becomes, close, fresh, plain, Mask, picked, join, join_start}
use Rattle.ssa_lowered.specs.Control.{half, often, at_freq, Test, fork, fork_not, fork_and, fork_or, flag, choose, Round, behind, rounds, loop, repeat, Rung, ladder, limbs, case}
use Rattle.ssa_lowered.specs.Values.{const}
use Rattle.ssa_lowered.specs.Statements.{Deed}
use Rattle.ssa_lowered.specs.Lowered.{Here, whole}
use Rattle.ssa_lowered.proofs.Everywhere.{Each, s_whole}

-- from operation i of block b to operation j of block c
abbrev pub Linear : ℕ → ℕ → List Piece → ℕ → ℕ → Type 0
Linear b i [] c j = (c ≡ b) × (j ≡ i)
Linear b i (Appends at k op ∷ ps) c j = (at ≡ b) × (k ≡ i) × Linear b (suc i) ps c j
Linear b i (Closes at k end start ∷ ps) c j = (at ≡ b) × (k ≡ i) × Linear (suc b) 0 ps c j

linear_on : (b i : ℕ) (xs : List Piece) (c j : ℕ) (ys : List Piece) (d k : ℕ) → Linear b i xs c j → Linear c j ys d k → Linear b i (xs ++ ys) d k
linear_on b i [] c j ys d k x y = subst (λ z. Linear z i ys d k) x.0 (subst (λ z. Linear c z ys d k) x.1 y)
linear_on b i (Appends at o op ∷ xs) c j ys d k x y = (x.0, x.1, linear_on b (suc i) xs c j ys d k x.2 y)
linear_on b i (Closes at o end start ∷ xs) c j ys d k x y = (x.0, x.1, linear_on (suc b) 0 xs c j ys d k x.2 y)

pub record From (c : Cursor) (ps : List Piece) (d : Cursor) : Type 0 where
  pub by : Linear c.block c.op ps d.block d.op

pub joined : {c d e : Cursor} {xs ys : List Piece} → From c xs d → From d ys e → From c (xs ++ ys) e
joined {c} {d} {e} {xs} {ys} x y = record { by = linear_on c.block c.op xs d.block d.op ys e.block e.op x.by y.by }

-- a close, and what follows in the block that it begins
closing : {c d e : Cursor} {ps : List Piece} (end : End) (start : Start) → d.block ≡ suc c.block → d.op ≡ 0 → From d ps e → From c (close c end start ∷ ps) e
closing {c} {d} {e} {ps} end start b i x = record { by = (refl, refl, subst (λ z. Linear z 0 ps e.block e.op) b (subst (λ z. Linear d.block z ps e.block e.op) i x.by)) }

-- a close that ends the list
closes : {c d : Cursor} (end : End) (start : Start) → d.block ≡ suc c.block → d.op ≡ 0 → From c (close c end start ∷ []) d
closes end start b i = record { by = (refl, refl, (b, i)) }

abbrev pub Line : (A : Type 0) → Low A → Type 0
Line A m = (c : Cursor) → From c (m c).pieces (m c).after

pub record Tine (t : Test) : Type 0 where
  pub by : (c : Cursor) (y n f : ℕ) → From c ((t c).pieces y n f) (t c).after

line_bind : (A B : Type 0) (m : Low A) (f : A → Low B) → Line A m → ((a : A) → Line B (f a)) → Line B (m >>= f)
line_bind A B m f p q c = joined (p c) (q (m c).result (m c).after)

line_give : (A : Type 0) (a : A) → Line A (give a)
line_give A a c = record { by = (refl, refl) }

line_emits : (code : Code) (uses : List ℕ) → Line ℕ (emits code uses)
line_emits code uses c = record { by = (refl, refl, (refl, refl)) }

line_does : (code : Code) (uses : List ℕ) → Line (Unit {0}) (does code uses)
line_does code uses c = record { by = (refl, refl, (refl, refl)) }

line_fetched : (v : Option ℕ) → Line ℕ (fetched v)
line_fetched (Some v) = line_give ℕ v
line_fetched None = line_emits (Const 0) []

line_variable : (x : ℕ) → Line ℕ (variable x)
line_variable x c = line_fetched (slice_get c.env x) c

line_becomes : (x v : ℕ) → Line (Unit {0}) (becomes x v)
line_becomes x v c = record { by = (refl, refl) }

tine_fork : (m : Low (ℕ → ℕ → End)) → Line (ℕ → ℕ → End) m → Tine (fork m)
tine_fork m p = record { by = λ c y n f. joined (p c) (closes ((m c).result y n) (plain f c.seen) refl refl) }

tine_not : (t : Test) → Tine t → Tine (fork_not t)
tine_not t p = record { by = λ c y n f. p.by c n y f }

tine_and : (t u : Test) → Tine t → Tine u → Tine (fork_and t u)
tine_and t u p q = record { by = λ c y n f. joined (p.by c (t c).after.block n c.freq) (q.by (t c).after y n f) }

tine_or : (t u : Test) → Tine t → Tine u → Tine (fork_or t u)
tine_or t u p q = record { by = λ c y n f. joined (p.by c y (t c).after.block c.freq) (q.by (t c).after y n f) }

-- the same place with another frequency and other variables
moved : {c d e : Cursor} {ps : List Piece} → e.block ≡ d.block → e.op ≡ d.op → From c ps d → From c ps e
moved {c} {d} {e} {ps} b i x = record { by = subst (λ z. Linear c.block c.op ps z e.op) (sym b) (subst (λ z. Linear c.block c.op ps d.block z) (sym i) x.by) }

line_flag : (t : Test) → Tine t → Line ℕ (flag t)
line_flag t p c =
    let x = t c in
    let yes = at_freq x.after (half c.freq) in
    let one = const 1 yes in
    let no : Cursor = record (fresh one.after) { seen = x.after.seen } in
    let zero = const 0 no in
    let out : Cursor = record (fresh zero.after) { freq = c.freq; values = suc zero.after.values; seen = zero.after.values ∷ x.after.seen } in
    joined {d = yes} (moved refl refl (p.by c yes.block no.block yes.freq))
    (record { by = (refl, refl, (refl, refl, (refl, refl, (refl, refl, (refl, refl))))) })

line_choose : (mask : Mask) (t : Test) (f g : Deed) → Tine t → Line (Unit {0}) f → Line (Unit {0}) g → Line (Unit {0}) (choose mask t f g)
line_choose mask t f g p q r c =
    let x = t c in
    let then = at_freq x.after (half c.freq) in
    let one = f then in
    let other : Cursor = record (fresh one.after) { freq = half c.freq; env = x.after.env; seen = x.after.seen } in
    let two = g other in
    let out = join mask two.after other c.freq in
    joined {d = then} (moved refl refl (p.by c x.after.block other.block (half c.freq)))
    (joined (q then) (closing {d = other} (Jump out.block (picked mask one.after.env)) (plain other.freq other.seen) refl refl
    (joined (r other) (closes (Jump out.block (picked mask two.after.env)) (join_start mask two.after other c.freq None) refl refl))))

abbrev Lines : List Round → Type 0
Lines rs = Each (λ (r : Round). Tine r.test × Line (Unit {0}) r.body) rs

line_rounds : (mask : Mask) (head outside : ℕ) (rs : List Round) → Lines rs → Line (Unit {0}) (rounds mask head outside rs)
line_rounds mask head outside [] q c = record { by = (refl, refl) }
line_rounds mask head outside (r ∷ rs) q c =
    let t = r.test c in
    let then = at_freq t.after c.freq in
    let one = r.body then in
    let next : Cursor = record (fresh one.after) { freq = behind rs c.freq outside; env = t.after.env; seen = t.after.seen } in
    joined {d = then} (moved refl refl (q.0.0.by c t.after.block next.block c.freq))
    (joined (q.0.1 then) (closing {d = next} (Jump head (picked mask one.after.env)) (plain next.freq next.seen) refl refl (line_rounds mask head outside rs q.1 next)))

line_loop : (mask : Mask) (rs : List Round) → Lines rs → Line (Unit {0}) (loop mask rs)
line_loop mask rs q c =
    let head = join mask c c (often c.freq) in
    closing {d = head} (Jump head.block (picked mask c.env)) (join_start mask c c head.freq (Some c.block)) refl refl (line_rounds mask head.block c.freq rs q head)

line_repeat : (mask : Mask) (f : Deed) (t : Test) → Line (Unit {0}) f → Tine t → Line (Unit {0}) (repeat mask f t)
line_repeat mask f t q p c =
    let head = join mask c c (often c.freq) in
    let one = f head in
    let x = t one.after in
    let back = at_freq x.after head.freq in
    let exit = at_freq (fresh back) c.freq in
    closing {d = head} (Jump head.block (picked mask c.env)) (join_start mask c c head.freq (Some c.block)) refl refl
    (joined (q head) (joined {d = back} (moved refl refl (p.by one.after exit.block back.block back.freq))
    (closes (Jump head.block (picked mask back.env)) (plain exit.freq exit.seen) refl refl)))

line_ladder : (last : ℕ) (rs : List Rung) → Each (λ (r : Rung). Tine r.test) rs → (to : ℕ → ℕ) (c : Cursor) → From c ((ladder last rs c).pieces to) (ladder last rs c).after
line_ladder last [] q to c = closes (Jump (suc c.block) []) (plain last c.seen) refl refl
line_ladder last (r ∷ []) q to c = moved refl refl (q.0.by c (to r.part) (r.test c).after.block last)
line_ladder last (r ∷ s ∷ rs) q to c = joined (q.0.by c (to r.part) (r.test c).after.block c.freq) (line_ladder last (s ∷ rs) q.1 to (r.test c).after)

line_limbs : (mask : Mask) (s : Cursor) (bodies : List Deed) → Each (Line (Unit {0})) bodies → (c : Cursor) (end : ℕ → End) (out : ℕ) → From c ((limbs mask s bodies c end).pieces out) (limbs mask s bodies c end).after
line_limbs mask s [] q c end out = closes (end out) (join_start mask c s s.freq None) refl refl
line_limbs mask s (body ∷ bodies) q c end out =
    let start : Cursor = record (fresh c) { freq = half s.freq; env = s.env; seen = s.seen } in
    let one = body start in
    closing {d = start} (end out) (plain start.freq start.seen) refl refl (joined (q.0 start) (line_limbs mask s bodies q.1 one.after (λ to. Jump to (picked mask one.after.env)) out))

line_case : (mask : Mask) (rungs : List Rung) (bodies : List Deed) (unmatched : ℕ → List ℕ → End) → Each (λ (r : Rung). Tine r.test) rungs → Each (Line (Unit {0})) bodies → Line (Unit {0}) (case mask rungs bodies unmatched)
line_case mask rungs bodies unmatched p q c =
    let t = ladder (half c.freq) rungs c in
    let a = limbs mask c bodies t.after (λ out. unmatched out (picked mask c.env)) in
    joined (line_ladder (half c.freq) rungs p a.starts c) (line_limbs mask c bodies q t.after (λ out. unmatched out (picked mask c.env)) a.after.block)

-- of a whole procedure
pub line_whole : (p : Program) (l : Layout) (here : Here) (words zeroed : ℕ) → Line (Option ℕ) (whole p l here words zeroed)
line_whole p l here words zeroed =
    s_whole Line Tine line_bind line_give line_emits line_does line_variable tine_fork tine_not tine_and tine_or line_flag line_becomes line_choose line_loop line_repeat line_case
    p l here (λ env c. record { by = (refl, refl) }) words zeroed
