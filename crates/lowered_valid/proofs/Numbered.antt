-- Values are made in order, each once, and what is seen where a block begins was made before.
use Rattle.std.proofs.Common.{◌≡◌, ℕ, suc, ◌≤◌, ◌<◌, List, [], ◌∷◌, ◌++◌, Bool, true, false, cond, Option, Some, None, refl, sym, subst, arith, slice_get}
use Rattle.std.specs.Prelude.{option_to_list}
use Rattle.block_runs.specs.declared.code.Code.{Code}
use Rattle.block_runs.specs.declared.code.Code.TheVariants.{Const}
use Rattle.block_runs.specs.declared.end.End.{End}
use Rattle.block_runs.specs.declared.end.End.TheVariants.{Jump}
use Rattle.ob_types.specs.declared.program.Program.{Program}
use Rattle.ssa_lowered.specs.Data.{Layout}
use Rattle.ssa_lowered.specs.Pieces.{Cursor, Piece, Appends, Closes, Low, ◌>>=◌, emits, does, fetched, close, fresh, plain, Mask, rest, params, beyond, picked, join, join_start}
use Rattle.ssa_lowered.specs.Control.{half, often, at_freq, Test, fork, fork_and, fork_or, flag, choose, Round, behind, rounds, loop, repeat, Rung, ladder, limbs, case}
use Rattle.ssa_lowered.specs.Values.{const}
use Rattle.ssa_lowered.specs.Statements.{Deed}
use Rattle.ssa_lowered.specs.Lowered.{Here, whole}
use Rattle.ssa_lowered.proofs.Everywhere.{Each, s_whole}

-- these are the numbers from n on
abbrev pub Counts : ℕ → List ℕ → Type 0
Counts n [] = Unit {0}
Counts n (x ∷ xs) = (x ≡ n) × Counts (suc n) xs

abbrev pub after_all : List ℕ → ℕ → ℕ
after_all [] n = n
after_all (x ∷ xs) n = after_all xs (suc n)

abbrev pub Under : ℕ → List ℕ → Type 0
Under n [] = Unit {0}
Under n (x ∷ xs) = x < n × Under n xs

pub up_under : (m n : ℕ) (xs : List ℕ) → m ≤ n → Under m xs → Under n xs
up_under m n [] l u = tt
up_under m n (x ∷ xs) l u = (let a = u.0 in omega (arith, a, l), up_under m n xs l u.1)

-- the values made by pieces are the numbers from n up to m
abbrev pub Numbered : ℕ → List Piece → ℕ → Type 0
Numbered n [] m = n ≡ m
Numbered n (Appends b i op ∷ ps) m = Counts n (option_to_list op.def) × Numbered (after_all (option_to_list op.def) n) ps m
Numbered n (Closes b i end start ∷ ps) m = Counts n start.params × Under n start.seen × Numbered (after_all start.params n) ps m

numbered_on : (n m k : ℕ) (xs ys : List Piece) → Numbered n xs m → Numbered m ys k → Numbered n (xs ++ ys) k
numbered_on n m k [] ys p q = subst (λ z. Numbered z ys k) (sym p) q
numbered_on n m k (Appends b i op ∷ xs) ys p q = (p.0, numbered_on (after_all (option_to_list op.def) n) m k xs ys p.1 q)
numbered_on n m k (Closes b i end start ∷ xs) ys p q = (p.0, p.1, numbered_on (after_all start.params n) m k xs ys p.2 q)

pub record Steps (c : Cursor) (ps : List Piece) (d : Cursor) : Type 0 where
  pub by : Numbered c.values ps d.values
  pub grows : c.values ≤ d.values
  pub under : Under d.values d.seen

joined : {c d e : Cursor} {xs ys : List Piece} → Steps c xs d → Steps d ys e → Steps c (xs ++ ys) e
joined {c} {d} {e} {xs} {ys} x y = record { by = numbered_on c.values d.values e.values xs ys x.by y.by; grows = let a = x.grows in let b = y.grows in omega (arith, a, b); under = y.under }

abbrev pub Counted : (A : Type 0) → Low A → Type 0
Counted A m = (c : Cursor) → Under c.values c.seen → Steps c (m c).pieces (m c).after

pub record Counting (t : Test) : Type 0 where
  pub by : (c : Cursor) (y n f : ℕ) → Under c.values c.seen → Steps c ((t c).pieces y n f) (t c).after

-- parameters of a join
counts_by : (b : Bool) (v : ℕ) (ps qs : List ℕ) → Counts (suc v) ps → Counts v qs → Counts v (cond b (v ∷ ps) qs)
counts_by true v ps qs p q = (refl, p)
counts_by false v ps qs p q = q

counts_params : (mask : Mask) (v : ℕ) (env : List ℕ) → Counts v (params mask v env)
counts_params mask v [] = tt
counts_params mask v (u ∷ env) = counts_by (mask 0) v (params (rest mask) (suc v) env) (params (rest mask) v env) (counts_params (rest mask) (suc v) env) (counts_params (rest mask) v env)

after_by : (b : Bool) (v m n : ℕ) (ps qs : List ℕ) → after_all ps (suc v) ≡ m → after_all qs v ≡ n → after_all (cond b (v ∷ ps) qs) v ≡ cond b m n
after_by true v m n ps qs p q = p
after_by false v m n ps qs p q = q

after_params : (mask : Mask) (v : ℕ) (env : List ℕ) → after_all (params mask v env) v ≡ beyond mask v env
after_params mask v [] = refl
after_params mask v (u ∷ env) = after_by (mask 0) v (beyond (rest mask) (suc v) env) (beyond (rest mask) v env) (params (rest mask) (suc v) env) (params (rest mask) v env) (after_params (rest mask) (suc v) env) (after_params (rest mask) v env)

pub after_more : (xs : List ℕ) (n : ℕ) → n ≤ after_all xs n
after_more [] n = omega arith
after_more (x ∷ xs) n = let a = after_more xs (suc n) in omega (arith, a)

pub under_counts : (n m : ℕ) (xs w : List ℕ) → Counts n xs → after_all xs n ≤ m → Under m w → Under m (xs ++ w)
under_counts n m [] w c l u = u
under_counts n m (x ∷ xs) w c l u = (let a = after_more xs (suc n) in let e = c.0 in omega (arith, a, e, l), under_counts (suc n) m xs w c.1 l u)

-- a join after some pieces
begins : (mask : Mask) (c from : Cursor) (end : End) (f : ℕ) (enter : Option ℕ) → Under c.values from.seen → Steps c (close c end (join_start mask c from f enter) ∷ []) (join mask c from f)
begins mask c from end f enter u =
    let e = after_params mask c.values from.env in
    let l = after_more (params mask c.values from.env) c.values in
    let more : c.values ≤ beyond mask c.values from.env = omega (arith, e, l) in
    record {
      by = (counts_params mask c.values from.env, u, e);
      grows = more;
      under = under_counts c.values (beyond mask c.values from.env) (params mask c.values from.env) from.seen (counts_params mask c.values from.env) (omega (arith, e)) (up_under c.values (beyond mask c.values from.env) from.seen more u);
    }

-- a block without parameters
begins_plain : (c d : Cursor) (end : End) (f : ℕ) (w : List ℕ) → Under c.values w → d.values ≡ c.values → d.seen ≡ w → Steps c (close c end (plain f w) ∷ []) d
begins_plain c d end f w u e q = record { by = (tt, u, sym e); grows = omega (arith, e); under = subst (λ z. Under z d.seen) (sym e) (subst (λ z. Under c.values z) (sym q) u) }

counted_bind : (A B : Type 0) (m : Low A) (f : A → Low B) → Counted A m → ((a : A) → Counted B (f a)) → Counted B (m >>= f)
counted_bind A B m f p q c u = let a = p c u in joined a (q (m c).result (m c).after a.under)

counted_emits : (code : Code) (uses : List ℕ) → Counted ℕ (emits code uses)
counted_emits code uses c u = record { by = ((refl, tt), refl); grows = omega arith; under = (omega arith, up_under c.values (suc c.values) c.seen (omega arith) u) }

counted_does : (code : Code) (uses : List ℕ) → Counted (Unit {0}) (does code uses)
counted_does code uses c u = record { by = (tt, refl); grows = omega arith; under = u }

still : (c d : Cursor) → Under c.values c.seen → d.values ≡ c.values → d.seen ≡ c.seen → Steps c [] d
still c d u e q = record { by = sym e; grows = omega (arith, e); under = subst (λ z. Under z d.seen) (sym e) (subst (λ z. Under c.values z) (sym q) u) }

counted_fetched : (v : Option ℕ) → Counted ℕ (fetched v)
counted_fetched (Some v) c u = still c c u refl refl
counted_fetched None c u = counted_emits (Const 0) [] c u

counting_fork : (m : Low (ℕ → ℕ → End)) → Counted (ℕ → ℕ → End) m → Counting (fork m)
counting_fork m p = record { by = λ c y n f u. let a = p c u in joined a (begins_plain (m c).after (fork m c).after ((m c).result y n) f c.seen (up_under c.values (m c).after.values c.seen a.grows u) refl refl) }

counting_and : (t u : Test) → Counting t → Counting u → Counting (fork_and t u)
counting_and t u p q = record { by = λ c y n f i. let a = p.by c (t c).after.block n c.freq i in joined a (q.by (t c).after y n f a.under) }

counting_or : (t u : Test) → Counting t → Counting u → Counting (fork_or t u)
counting_or t u p q = record { by = λ c y n f i. let a = p.by c y (t c).after.block c.freq i in joined a (q.by (t c).after y n f a.under) }

-- with other variables and another frequency
moved : {c d : Cursor} {ps : List Piece} (e : Cursor) → e.values ≡ d.values → e.seen ≡ d.seen → Steps c ps d → Steps c ps e
moved {c} {d} {ps} e p q x = record { by = subst (λ z. Numbered c.values ps z) (sym p) x.by; grows = let g = x.grows in omega (arith, p, g); under = subst (λ z. Under z e.seen) (sym p) (subst (λ z. Under d.values z) (sym q) x.under) }

counted_flag : (t : Test) → Counting t → Counted ℕ (flag t)
counted_flag t p c u =
    let x = t c in
    let yes = at_freq x.after (half c.freq) in
    let one = const 1 yes in
    let no : Cursor = record (fresh one.after) { seen = x.after.seen } in
    let zero = const 0 no in
    let out : Cursor = record (fresh zero.after) { freq = c.freq; values = suc zero.after.values; seen = zero.after.values ∷ x.after.seen } in
    let a = p.by c yes.block no.block yes.freq u in
    let v = a.under in
    let w1 = up_under x.after.values (suc x.after.values) x.after.seen (omega arith) v in
    let w2 = up_under x.after.values (suc (suc x.after.values)) x.after.seen (omega arith) v in
    let w3 = up_under x.after.values (suc (suc (suc x.after.values))) x.after.seen (omega arith) v in
    joined {d = x.after} {e = out} a (record { by = ((refl, tt), (tt, w1, ((refl, tt), ((refl, tt), w2, refl)))); grows = omega arith; under = (omega arith, w3) })

counted_choose : (mask : Mask) (t : Test) (f g : Deed) → Counting t → Counted (Unit {0}) f → Counted (Unit {0}) g → Counted (Unit {0}) (choose mask t f g)
counted_choose mask t f g p q r c u =
    let x = t c in
    let first_arm = at_freq x.after (half c.freq) in
    let one = f first_arm in
    let other : Cursor = record (fresh one.after) { freq = half c.freq; env = x.after.env; seen = x.after.seen } in
    let two = g other in
    let out = join mask two.after other c.freq in
    let a = p.by c x.after.block other.block (half c.freq) u in
    let b = q first_arm a.under in
    let s = up_under x.after.values one.after.values x.after.seen b.grows a.under in
    let d = r other s in
    joined {d = first_arm} (moved first_arm refl refl a)
    (joined b (joined {xs = close one.after (Jump out.block (picked mask one.after.env)) (plain other.freq other.seen) ∷ []} (begins_plain one.after other (Jump out.block (picked mask one.after.env)) other.freq other.seen s refl refl)
    (joined d (begins mask two.after other (Jump out.block (picked mask two.after.env)) c.freq None (up_under one.after.values two.after.values x.after.seen d.grows s)))))

abbrev CountedAll : List Round → Type 0
CountedAll rs = Each (λ (r : Round). Counting r.test × Counted (Unit {0}) r.body) rs

counted_rounds : (mask : Mask) (head outside : ℕ) (rs : List Round) → CountedAll rs → Counted (Unit {0}) (rounds mask head outside rs)
counted_rounds mask head outside [] q c u = still c c u refl refl
counted_rounds mask head outside (r ∷ rs) q c u =
    let t = r.test c in
    let first_arm = at_freq t.after c.freq in
    let one = r.body first_arm in
    let next : Cursor = record (fresh one.after) { freq = behind rs c.freq outside; env = t.after.env; seen = t.after.seen } in
    let a = q.0.0.by c t.after.block next.block c.freq u in
    let b = q.0.1 first_arm a.under in
    let s = up_under t.after.values one.after.values t.after.seen b.grows a.under in
    joined {d = first_arm} (moved first_arm refl refl a)
    (joined b (joined {xs = close one.after (Jump head (picked mask one.after.env)) (plain next.freq next.seen) ∷ []} (begins_plain one.after next (Jump head (picked mask one.after.env)) next.freq next.seen s refl refl) (counted_rounds mask head outside rs q.1 next s)))

counted_loop : (mask : Mask) (rs : List Round) → CountedAll rs → Counted (Unit {0}) (loop mask rs)
counted_loop mask rs q c u =
    let head = join mask c c (often c.freq) in
    let a = begins mask c c (Jump head.block (picked mask c.env)) head.freq (Some c.block) u in
    joined {d = head} {xs = close c (Jump head.block (picked mask c.env)) (join_start mask c c head.freq (Some c.block)) ∷ []} a (counted_rounds mask head.block c.freq rs q head a.under)

counted_repeat : (mask : Mask) (f : Deed) (t : Test) → Counted (Unit {0}) f → Counting t → Counted (Unit {0}) (repeat mask f t)
counted_repeat mask f t q p c u =
    let head = join mask c c (often c.freq) in
    let one = f head in
    let x = t one.after in
    let back = at_freq x.after head.freq in
    let exit = at_freq (fresh back) c.freq in
    let a = begins mask c c (Jump head.block (picked mask c.env)) head.freq (Some c.block) u in
    let b = q head a.under in
    let d = p.by one.after exit.block back.block back.freq b.under in
    joined {d = head} {xs = close c (Jump head.block (picked mask c.env)) (join_start mask c c head.freq (Some c.block)) ∷ []} a
    (joined b (joined {d = back} (moved back refl refl d) (begins_plain back exit (Jump head.block (picked mask back.env)) exit.freq exit.seen d.under refl refl)))

counted_ladder : (last : ℕ) (rs : List Rung) → Each (λ (r : Rung). Counting r.test) rs → (to : ℕ → ℕ) (c : Cursor) → Under c.values c.seen → Steps c ((ladder last rs c).pieces to) (ladder last rs c).after
counted_ladder last [] q to c u = begins_plain c (at_freq (fresh c) last) (Jump (suc c.block) []) last c.seen u refl refl
counted_ladder last (r ∷ []) q to c u = moved (at_freq (r.test c).after last) refl refl (q.0.by c (to r.part) (r.test c).after.block last u)
counted_ladder last (r ∷ s ∷ rs) q to c u = let a = q.0.by c (to r.part) (r.test c).after.block c.freq u in joined a (counted_ladder last (s ∷ rs) q.1 to (r.test c).after a.under)

counted_limbs : (mask : Mask) (s : Cursor) (bodies : List Deed) → Each (Counted (Unit {0})) bodies → (c : Cursor) (end : ℕ → End) (out : ℕ) → Under c.values s.seen → Steps c ((limbs mask s bodies c end).pieces out) (limbs mask s bodies c end).after
counted_limbs mask s [] q c end out u = begins mask c s (end out) s.freq None u
counted_limbs mask s (body ∷ bodies) q c end out u =
    let start : Cursor = record (fresh c) { freq = half s.freq; env = s.env; seen = s.seen } in
    let one = body start in
    let next : ℕ → End = λ to. Jump to (picked mask one.after.env) in
    let b = q.0 start u in
    joined {d = start} {xs = close c (end out) (plain start.freq start.seen) ∷ []} (begins_plain c start (end out) start.freq start.seen u refl refl)
    (joined b (counted_limbs mask s bodies q.1 one.after next out (up_under c.values one.after.values s.seen b.grows u)))

counted_case : (mask : Mask) (rungs : List Rung) (bodies : List Deed) (unmatched : ℕ → List ℕ → End) → Each (λ (r : Rung). Counting r.test) rungs → Each (Counted (Unit {0})) bodies → Counted (Unit {0}) (case mask rungs bodies unmatched)
counted_case mask rungs bodies unmatched p q c u =
    let t = ladder (half c.freq) rungs c in
    let end : ℕ → End = λ out. unmatched out (picked mask c.env) in
    let a = limbs mask c bodies t.after end in
    let x = counted_ladder (half c.freq) rungs p a.starts c u in
    joined x (counted_limbs mask c bodies q t.after end a.after.block (up_under c.values t.after.values c.seen x.grows u))

pub counted_whole : (p : Program) (l : Layout) (here : Here) (words zeroed : ℕ) → Counted (Option ℕ) (whole p l here words zeroed)
counted_whole p l here words zeroed =
    s_whole Counted Counting counted_bind (λ A a c u. still c c u refl refl) counted_emits counted_does (λ x c u. counted_fetched (slice_get c.env x) c u)
    counting_fork (λ t p. record { by = λ c y n f u. p.by c n y f u }) counting_and counting_or counted_flag (λ x v c u. still c _ u refl refl) counted_choose counted_loop counted_repeat counted_case
    p l here (λ env c u. still c _ u refl refl) words zeroed
