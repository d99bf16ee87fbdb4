-- Values are only added.
use Rattle.std.proofs.Common.{ℕ, suc, ◌≤◌, List, [], ◌∷◌, Bool, true, false, cond, Option, Some, None, slice_get, arith}
use Rattle.block_runs.specs.declared.end.End.{End}
use Rattle.block_runs.specs.declared.end.End.TheVariants.{Jump}
use Rattle.ob_types.specs.declared.program.Program.{Program}
use Rattle.ssa_lowered.specs.Data.{Layout}
use Rattle.ssa_lowered.specs.Pieces.{Cursor, Low, ◌>>=◌, fetched, fresh, Mask, rest, beyond, picked, join}
use Rattle.ssa_lowered.specs.Control.{half, often, at_freq, Test, fork_and, fork_or, flag, choose, Round, behind, rounds, loop, repeat, Rung, ladder, limbs, case}
use Rattle.ssa_lowered.specs.Statements.{Deed}
use Rattle.ssa_lowered.specs.Lowered.{Here, whole}
use Rattle.ssa_lowered.proofs.Everywhere.{Each, s_whole}

abbrev pub Grows : (A : Type 0) → Low A → Type 0
Grows A m = (c : Cursor) → c.values ≤ (m c).after.values

pub record Leads (t : Test) : Type 0 where
  pub by : (c : Cursor) → c.values ≤ (t c).after.values

-- a join makes its parameters
either_more : (b : Bool) (v m n : ℕ) → suc v ≤ m → v ≤ n → v ≤ cond b m n
either_more true v m n p q = omega (arith, p)
either_more false v m n p q = q

beyond_more : (mask : Mask) (v : ℕ) (env : List ℕ) → v ≤ beyond mask v env
beyond_more mask v [] = omega arith
beyond_more mask v (u ∷ env) = either_more (mask 0) v (beyond (rest mask) (suc v) env) (beyond (rest mask) v env) (beyond_more (rest mask) (suc v) env) (beyond_more (rest mask) v env)

grows_fetched : (v : Option ℕ) → Grows ℕ (fetched v)
grows_fetched (Some v) c = omega arith
grows_fetched None c = omega arith

grows_bind : (A B : Type 0) (m : Low A) (f : A → Low B) → Grows A m → ((a : A) → Grows B (f a)) → Grows B (m >>= f)
grows_bind A B m f p q c = let x = p c in let y = q (m c).result (m c).after in omega (arith, x, y)

leads_and : (t u : Test) → Leads t → Leads u → Leads (fork_and t u)
leads_and t u p q = record { by = λ c. let x = p.by c in let y = q.by (t c).after in omega (arith, x, y) }

leads_or : (t u : Test) → Leads t → Leads u → Leads (fork_or t u)
leads_or t u p q = record { by = λ c. let x = p.by c in let y = q.by (t c).after in omega (arith, x, y) }

grows_flag : (t : Test) → Leads t → Grows ℕ (flag t)
grows_flag t p c = let x = p.by c in omega (arith, x)

grows_choose : (mask : Mask) (t : Test) (f g : Deed) → Leads t → Grows (Unit {0}) f → Grows (Unit {0}) g → Grows (Unit {0}) (choose mask t f g)
grows_choose mask t f g p q r c =
    let x = t c in
    let then = at_freq x.after (half c.freq) in
    let other : Cursor = record (fresh (f then).after) { freq = half c.freq; env = x.after.env; seen = x.after.seen } in
    let a = p.by c in let b = q then in let d = r other in let e = beyond_more mask (g other).after.values other.env in omega (arith, a, b, d, e)

abbrev Grown : List Round → Type 0
Grown rs = Each (λ (r : Round). Leads r.test × Grows (Unit {0}) r.body) rs

grows_rounds : (mask : Mask) (head outside : ℕ) (rs : List Round) → Grown rs → Grows (Unit {0}) (rounds mask head outside rs)
grows_rounds mask head outside [] q c = omega arith
grows_rounds mask head outside (r ∷ rs) q c =
    let t = r.test c in
    let then = at_freq t.after c.freq in
    let next : Cursor = record (fresh (r.body then).after) { freq = behind rs c.freq outside; env = t.after.env; seen = t.after.seen } in
    let a = q.0.0.by c in let b = q.0.1 then in let d = grows_rounds mask head outside rs q.1 next in omega (arith, a, b, d)

grows_loop : (mask : Mask) (rs : List Round) → Grown rs → Grows (Unit {0}) (loop mask rs)
grows_loop mask rs q c =
    let head = join mask c c (often c.freq) in
    let a = beyond_more mask c.values c.env in let b = grows_rounds mask head.block c.freq rs q head in omega (arith, a, b)

grows_repeat : (mask : Mask) (f : Deed) (t : Test) → Grows (Unit {0}) f → Leads t → Grows (Unit {0}) (repeat mask f t)
grows_repeat mask f t q p c =
    let head = join mask c c (often c.freq) in
    let a = beyond_more mask c.values c.env in let b = q head in let d = p.by (f head).after in omega (arith, a, b, d)

grows_ladder : (last : ℕ) (rs : List Rung) → Each (λ (r : Rung). Leads r.test) rs → (c : Cursor) → c.values ≤ (ladder last rs c).after.values
grows_ladder last [] q c = omega arith
grows_ladder last (r ∷ []) q c = q.0.by c
grows_ladder last (r ∷ s ∷ rs) q c = let a = q.0.by c in let b = grows_ladder last (s ∷ rs) q.1 (r.test c).after in omega (arith, a, b)

grows_limbs : (mask : Mask) (s : Cursor) (bodies : List Deed) → Each (Grows (Unit {0})) bodies → (c : Cursor) (end : ℕ → End) → c.values ≤ (limbs mask s bodies c end).after.values
grows_limbs mask s [] q c end = beyond_more mask c.values s.env
grows_limbs mask s (body ∷ bodies) q c end =
    let start : Cursor = record (fresh c) { freq = half s.freq; env = s.env; seen = s.seen } in
    let one = body start in
    let a = q.0 start in let b = grows_limbs mask s bodies q.1 one.after (λ out. Jump out (picked mask one.after.env)) in omega (arith, a, b)

grows_case : (mask : Mask) (rungs : List Rung) (bodies : List Deed) (unmatched : ℕ → List ℕ → End) → Each (λ (r : Rung). Leads r.test) rungs → Each (Grows (Unit {0})) bodies → Grows (Unit {0}) (case mask rungs bodies unmatched)
grows_case mask rungs bodies unmatched p q c =
    let t = ladder (half c.freq) rungs c in
    let a = grows_ladder (half c.freq) rungs p c in let b = grows_limbs mask c bodies q t.after (λ out. unmatched out (picked mask c.env)) in omega (arith, a, b)

pub grows_whole : (p : Program) (l : Layout) (here : Here) (words zeroed : ℕ) → Grows (Option ℕ) (whole p l here words zeroed)
grows_whole p l here words zeroed =
    s_whole Grows Leads grows_bind (λ A a c. omega arith) (λ code uses c. omega arith) (λ code uses c. omega arith) (λ x c. grows_fetched (slice_get c.env x) c)
    (λ m p. record { by = λ c. p c }) (λ t p. record { by = λ c. p.by c }) leads_and leads_or grows_flag (λ x v c. omega arith) grows_choose grows_loop grows_repeat grows_case
    p l here (λ env c. omega arith) words zeroed
