-- Stamps tell whether blocks read what they make only later.
use Rattle.std.proofs.Common.{◌≡◌, ℕ, zero, suc, ◌<◌, ◌≤◌, ◌==◌, Bool, true, false, not, ◌||◌, cond, List, [], ◌∷◌, ◌++◌, length, Option, Some, None, refl, sym, ap, ◌∙◌, subst, arith, inl, inr, ◌⊎◌}
use Rattle.std.specs.Prelude.{option_to_list}
use Rattle.std.proofs.lemmas.List.{length-set}
use Rattle.std.proofs.lemmas.Bool.{eqb-true, eq-eqb, cases_eq, and_parts, and_from, not-true}
use Rattle.block_runs.specs.Blocks.{Operation, CodeBlock, block_at}
use Rattle.block_runs.specs.declared.end.End.{End}
use Rattle.block_runs.specs.Live.{has, defs_of, reads}
use Rattle.block_runs.specs.Valid.{times, uses_of}
use Rattle.global_live.proofs.Lists.{has-append, has_one, has_front, has_back, in_parts, times-append, times_of_in}
use Rattle.ssa_valid.specs.Order.{is_stamped, stamped, all_stamped, is_fresh, read_by, in_order, all_in_order}
use Rattle.ssa_valid.proofs.Stamping.{stamp_in, stamp_beside, stamp_from}

---- Stamps

length-all_stamped : (stamps : List (Option ℕ)) (ks : List ℕ) (n : ℕ) → length (all_stamped stamps ks n) ≡ length stamps
length-all_stamped stamps [] n = refl
length-all_stamped stamps (k ∷ ks) n = length-all_stamped (stamped stamps k n) ks n ∙ length-set stamps k (Some n)

or_true : (a : Bool) → (a || true) ≡ true
or_true true = refl
or_true false = refl

-- behind stamps of n, what had it before and what got it has it
all_stamped-has : (stamps : List (Option ℕ)) (ks : List ℕ) (n v : ℕ) → v < length stamps → is_stamped (all_stamped stamps ks n) v n ≡ (is_stamped stamps v n || has ks v)
all_stamped-has stamps [] n v there = or_false (is_stamped stamps v n)
  where
    or_false : (a : Bool) → a ≡ (a || false)
    or_false true = refl
    or_false false = refl
all_stamped-has stamps (k ∷ ks) n v there = all_stamped-has (stamped stamps k n) ks n v (subst (λ m. v < m) (sym (length-set stamps k (Some n))) there) ∙ by (cases_eq v k)
  where
    by : ◌⊎◌ (v ≡ k) (v ≡ k → ⊥) → (is_stamped (stamped stamps k n) v n || has ks v) ≡ (is_stamped stamps v n || cond (k == v) true (has ks v))
    by (inl e) =
        let lt : k < length stamps = omega (arith, e) in
        let a : is_stamped (stamped stamps k n) v n ≡ true = ap (λ i. is_stamped (stamped stamps k n) i n) e ∙ stamp_in stamps k n lt in
        let b : (k == v) ≡ true = eq-eqb k v (sym e) in
        ap (λ x. x || has ks v) a ∙ sym (ap (λ x. is_stamped stamps v n || cond x true (has ks v)) b ∙ or_true (is_stamped stamps v n))
    by (inr d) =
        let b : (k == v) ≡ false = not_same (k == v) refl in
        ap (λ x. x || has ks v) (stamp_beside stamps k n v n d) ∙ sym (ap (λ x. is_stamped stamps v n || cond x true (has ks v)) b)
      where
        not_same : (b : Bool) → (k == v) ≡ b → (k == v) ≡ false
        not_same true e = let q = eqb-true k v e in absurd (d (sym q))
        not_same false e = e

-- stamps are of this block or of earlier ones
abbrev pub IsUpTo : ℕ → List (Option ℕ) → Type 0
IsUpTo n stamps = (v w : ℕ) → is_stamped stamps v w ≡ true → w < n

-- all numbers are below the length, and so each stamp is put
all_stamped-up_to : (stamps : List (Option ℕ)) (ks : List ℕ) (n : ℕ) → IsUpTo (suc n) stamps → ((k : ℕ) → has ks k ≡ true → k < length stamps) → IsUpTo (suc n) (all_stamped stamps ks n)
all_stamped-up_to stamps [] n up inside = up
all_stamped-up_to stamps (k ∷ ks) n up inside = all_stamped-up_to (stamped stamps k n) ks n (λ v w h. by v w (stamp_from stamps k n v w (inside k (has_first k ks)) h)) (λ i h. subst (λ m. i < m) (sym (length-set stamps k (Some n))) (inside i (has_back (k ∷ []) ks i h)))
  where
    has_first : (x : ℕ) (xs : List ℕ) → has (x ∷ xs) x ≡ true
    has_first x xs = ap (λ b. cond b true (has xs x)) (eq-eqb x x refl)

    by : (v w : ℕ) → ◌⊎◌ (is_stamped stamps v w ≡ true) ((v ≡ k) × (w ≡ n)) → w < suc n
    by v w (inl h) = up v w h
    by v w (inr q) = let e = q.1 in omega (arith, e)

---- Operations

-- what has been read bears the stamp
pub record Bears (values n : ℕ) (stamps : List (Option ℕ)) (read : List ℕ) : Type 0 where
  pub size : length stamps ≡ values
  pub bears : (v : ℕ) → v < values → is_stamped stamps v n ≡ has read v

bears_more : (values n : ℕ) (stamps : List (Option ℕ)) (read us : List ℕ) → Bears values n stamps read → Bears values n (all_stamped stamps us n) (read ++ us)
bears_more values n stamps read us b = record {
  size = length-all_stamped stamps us n ∙ b.size;
  bears = λ v lt. let s = b.size in all_stamped-has stamps us n v (omega (arith, s)) ∙ ap (λ x. x || has us v) (b.bears v lt) ∙ sym (has-append read us v);
}

-- operations that make a value that they, or something before them, read first
abbrev pub Late : List ℕ → List Operation → End → ℕ → Type 0
Late read ops end v = (has (defs_of ops) v ≡ true) × ◌⊎◌ (has read v ≡ true) (reads ops end v ≡ true)

module _ (values n : ℕ) (end : End) where
  -- a value that is made behind an operation and read before that is read by this one or behind it
  later : (read : List ℕ) (op : Operation) (ops : List Operation) (v : ℕ) → times (option_to_list op.def ++ defs_of ops) v ≤ 1 → has (defs_of ops) v ≡ true → ◌⊎◌ (has read v ≡ true) (reads (op ∷ ops) end v ≡ true) → Late (read ++ op.uses) ops end v
  later read op ops v once made (inl h) = (made, inl (has_front read op.uses v h))
  later read op ops v once made (inr h) = (made, by (has op.uses v) refl (has (option_to_list op.def) v) refl h)
    where
      by : (a : Bool) → has op.uses v ≡ a → (b : Bool) → has (option_to_list op.def) v ≡ b → cond a true (cond b false (reads ops end v)) ≡ true → ◌⊎◌ (has (read ++ op.uses) v ≡ true) (reads ops end v ≡ true)
      by true e b f r = inl (has_back read op.uses v e)
      by false e true f r = cc
      by false e false f r = inr r

  earlier : (read : List ℕ) (op : Operation) (ops : List Operation) (v : ℕ) → times (option_to_list op.def ++ defs_of ops) v ≤ 1 → Late (read ++ op.uses) ops end v → Late read (op ∷ ops) end v
  earlier read op ops v once late = (has_back (option_to_list op.def) (defs_of ops) v late.0, by (has op.uses v) refl late.1)
    where
      not_here : has (option_to_list op.def) v ≡ true → ⊥
      not_here h =
          let a = times-append (option_to_list op.def) (defs_of ops) v in
          let b = times_of_in (option_to_list op.def) v h in
          let d = times_of_in (defs_of ops) v late.0 in
          omega arith

      behind : (b : Bool) → has (option_to_list op.def) v ≡ b → reads ops end v ≡ true → cond b false (reads ops end v) ≡ true
      behind true e r = absurd (not_here e)
      behind false e r = r

      by : (a : Bool) → has op.uses v ≡ a → ◌⊎◌ (has (read ++ op.uses) v ≡ true) (reads ops end v ≡ true) → ◌⊎◌ (has read v ≡ true) (cond a true (cond (has (option_to_list op.def) v) false (reads ops end v)) ≡ true)
      by true e h = inr refl
      by false e (inr r) = inr (behind (has (option_to_list op.def) v) refl r)
      by false e (inl h) = read_before (in_parts read op.uses v h)
        where
          read_before : ◌⊎◌ (has read v ≡ true) (has op.uses v ≡ true) → ◌⊎◌ (has read v ≡ true) (cond false true (cond (has (option_to_list op.def) v) false (reads ops end v)) ≡ true)
          read_before (inl t) = inl t
          read_before (inr t) = let z : true ≡ false = sym t ∙ e in cc

  -- what an operation makes has been read
  late_here : (read : List ℕ) (op : Operation) (ops : List Operation) (v : ℕ) → has (option_to_list op.def) v ≡ true → ◌⊎◌ (has read v ≡ true) (reads (op ∷ ops) end v ≡ true) → has (read ++ op.uses) v ≡ true
  late_here read op ops v here (inl h) = has_front read op.uses v h
  late_here read op ops v here (inr h) = by (has op.uses v) refl (has (option_to_list op.def) v) here h
    where
      by : (a : Bool) → has op.uses v ≡ a → (b : Bool) → b ≡ true → cond a true (cond b false (reads ops end v)) ≡ true → has (read ++ op.uses) v ≡ true
      by true e b f r = has_back read op.uses v e
      by false e true f r = cc
      by false e false f r = cc

  here_late : (read : List ℕ) (op : Operation) (ops : List Operation) (v : ℕ) → has (option_to_list op.def) v ≡ true → has (read ++ op.uses) v ≡ true → Late read (op ∷ ops) end v
  here_late read op ops v here h = (has_front (option_to_list op.def) (defs_of ops) v here, by (in_parts read op.uses v h))
    where
      by : ◌⊎◌ (has read v ≡ true) (has op.uses v ≡ true) → ◌⊎◌ (has read v ≡ true) (reads (op ∷ ops) end v ≡ true)
      by (inl t) = inl t
      by (inr t) = inr (ap (λ a. cond a true (cond (has (option_to_list op.def) v) false (reads ops end v))) t)

  fresh_to : (stamps : List (Option ℕ)) (read : List ℕ) (def : Option ℕ) (v : ℕ) → Bears values n stamps read → is_fresh stamps def n ≡ true → v < values → has (option_to_list def) v ≡ true → has read v ≡ true → ⊥
  fresh_to stamps read None v b fresh lt here h = let z : false ≡ true = here in cc
  fresh_to stamps read (Some w) v b fresh lt here h =
      let e : w ≡ v = has_one w v here in
      let a : is_stamped stamps w n ≡ false = not-true _ fresh in
      let z : false ≡ true = sym a ∙ ap (λ i. is_stamped stamps i n) e ∙ b.bears v lt ∙ h in
      cc

  fresh_from : (stamps : List (Option ℕ)) (read : List ℕ) (def : Option ℕ) → Bears values n stamps read → ((v : ℕ) → has (option_to_list def) v ≡ true → v < values) → ((v : ℕ) → has (option_to_list def) v ≡ true → has read v ≡ true → ⊥) → is_fresh stamps def n ≡ true
  fresh_from stamps read None b inside none = refl
  fresh_from stamps read (Some w) b inside none = by (is_stamped stamps w n) refl
    where
      here : has (w ∷ []) w ≡ true
      here = ap (λ b. cond b true false) (eq-eqb w w refl)

      by : (s : Bool) → is_stamped stamps w n ≡ s → not s ≡ true
      by true e = absurd (none w here (sym (b.bears w (inside w here)) ∙ e))
      by false e = refl

  pub ordered_to : (stamps : List (Option ℕ)) (read : List ℕ) (ops : List Operation) (v : ℕ) → Bears values n stamps read → in_order stamps ops n ≡ true → v < values → times (defs_of ops) v ≤ 1 → Late read ops end v → ⊥
  ordered_to stamps read [] v b order lt once late = let z : false ≡ true = late.0 in cc
  ordered_to stamps read (op ∷ ops) v b order lt once late = by (in_parts (option_to_list op.def) (defs_of ops) v late.0) (ordered_to (all_stamped stamps op.uses n) (read ++ op.uses) ops v (bears_more values n stamps read op.uses b) parts.1 lt)
    where
      parts : (is_fresh (all_stamped stamps op.uses n) op.def n ≡ true) × (in_order (all_stamped stamps op.uses n) ops n ≡ true)
      parts = and_parts (is_fresh (all_stamped stamps op.uses n) op.def n) _ order

      by : ◌⊎◌ (has (option_to_list op.def) v ≡ true) (has (defs_of ops) v ≡ true) → (times (defs_of ops) v ≤ 1 → Late (read ++ op.uses) ops end v → ⊥) → ⊥
      by (inl here) on = fresh_to (all_stamped stamps op.uses n) (read ++ op.uses) op.def v (bears_more values n stamps read op.uses b) parts.0 lt here (late_here read op ops v here late.1)
      by (inr behind) on =
          let a = times-append (option_to_list op.def) (defs_of ops) v in
          on (omega arith) (later read op ops v once behind late.1)

  pub ordered_from : (stamps : List (Option ℕ)) (read : List ℕ) (ops : List Operation) → Bears values n stamps read → ((v : ℕ) → has (defs_of ops) v ≡ true → v < values) → ((v : ℕ) → times (defs_of ops) v ≤ 1) → ((v : ℕ) → Late read ops end v → ⊥) → in_order stamps ops n ≡ true
  ordered_from stamps read [] b inside once none = refl
  ordered_from stamps read (op ∷ ops) b inside once none = and_from _ _
      (fresh_from (all_stamped stamps op.uses n) (read ++ op.uses) op.def (bears_more values n stamps read op.uses b) (λ v h. inside v (has_front (option_to_list op.def) (defs_of ops) v h)) (λ v here h. none v (here_late read op ops v here h)))
      (ordered_from (all_stamped stamps op.uses n) (read ++ op.uses) ops (bears_more values n stamps read op.uses b) (λ v h. inside v (has_back (option_to_list op.def) (defs_of ops) v h)) (λ v. let a = times-append (option_to_list op.def) (defs_of ops) v in let o = once v in omega (arith, a, o)) (λ v late. none v (earlier read op ops v (once v) late)))

---- Blocks

length-read_by : (stamps : List (Option ℕ)) (ops : List Operation) (n : ℕ) → length (read_by stamps ops n) ≡ length stamps
length-read_by stamps [] n = refl
length-read_by stamps (op ∷ ops) n = length-read_by (all_stamped stamps op.uses n) ops n ∙ length-all_stamped stamps op.uses n

read_by-up_to : (stamps : List (Option ℕ)) (ops : List Operation) (n : ℕ) → IsUpTo (suc n) stamps → ((k : ℕ) → has (uses_of ops) k ≡ true → k < length stamps) → IsUpTo (suc n) (read_by stamps ops n)
read_by-up_to stamps [] n up inside = up
read_by-up_to stamps (op ∷ ops) n up inside =
    let l = length-all_stamped stamps op.uses n in
    read_by-up_to (all_stamped stamps op.uses n) ops n (all_stamped-up_to stamps op.uses n up (λ k h. inside k (has_front op.uses (uses_of ops) k h))) (λ k h. let a = inside k (has_back op.uses (uses_of ops) k h) in omega (arith, a, l))

-- no operation of a block makes what it or one before it reads
abbrev pub IsOrdered : CodeBlock → Type 0
IsOrdered bl = (v : ℕ) → has (defs_of bl.ops) v ≡ true → reads bl.ops bl.end v ≡ true → ⊥

-- what operations read and make are values, and each is made at most once in a block
pub record AreInside (values : ℕ) (bls : List CodeBlock) : Type 0 where
  pub uses : (j v : ℕ) → has (uses_of (block_at bls j).ops) v ≡ true → v < values
  pub defs : (j v : ℕ) → has (defs_of (block_at bls j).ops) v ≡ true → v < values
  pub once : (j v : ℕ) → times (defs_of (block_at bls j).ops) v ≤ 1

behind_first : (values : ℕ) (bl : CodeBlock) (bls : List CodeBlock) → AreInside values (bl ∷ bls) → AreInside values bls
behind_first values bl bls inside = record { uses = λ j. inside.uses (suc j); defs = λ j. inside.defs (suc j); once = λ j. inside.once (suc j) }

-- no stamp of this block yet
bears_none : (values n : ℕ) (stamps : List (Option ℕ)) → length stamps ≡ values → IsUpTo n stamps → Bears values n stamps []
bears_none values n stamps size up = record { size = size; bears = λ v lt. by v (is_stamped stamps v n) refl }
  where
    by : (v : ℕ) (b : Bool) → is_stamped stamps v n ≡ b → is_stamped stamps v n ≡ false
    by v true e = let a = up v n e in absurd (omega arith)
    by v false e = e

module _ (values : ℕ) where
  next_size : (stamps : List (Option ℕ)) (bl : CodeBlock) (n : ℕ) → length stamps ≡ values → length (read_by stamps bl.ops n) ≡ values
  next_size stamps bl n size = length-read_by stamps bl.ops n ∙ size

  next_up : (stamps : List (Option ℕ)) (bl : CodeBlock) (bls : List CodeBlock) (n : ℕ) → length stamps ≡ values → IsUpTo n stamps → AreInside values (bl ∷ bls) → IsUpTo (suc n) (read_by stamps bl.ops n)
  next_up stamps bl bls n size up inside = read_by-up_to stamps bl.ops n (λ v w h. let a = up v w h in omega arith) (λ k h. let a = inside.uses 0 k h in omega (arith, a, size))

  pub all_ordered_to : (stamps : List (Option ℕ)) (bls : List CodeBlock) (n : ℕ) → length stamps ≡ values → IsUpTo n stamps → AreInside values bls → all_in_order stamps bls n ≡ true → (j : ℕ) → IsOrdered (block_at bls j)
  all_ordered_to stamps [] n size up inside order j v made read = let z : false ≡ true = made in cc
  all_ordered_to stamps (bl ∷ bls) n size up inside order zero v made read =
      ordered_to values n bl.end stamps [] bl.ops v (bears_none values n stamps size up) (and_parts (in_order stamps bl.ops n) _ order).0 (inside.defs 0 v made) (inside.once 0 v) (made, inr read)
  all_ordered_to stamps (bl ∷ bls) n size up inside order (suc j) v made read =
      all_ordered_to (read_by stamps bl.ops n) bls (suc n) (next_size stamps bl n size) (next_up stamps bl bls n size up inside) (behind_first values bl bls inside) (and_parts (in_order stamps bl.ops n) _ order).1 j v made read

  pub all_ordered_from : (stamps : List (Option ℕ)) (bls : List CodeBlock) (n : ℕ) → length stamps ≡ values → IsUpTo n stamps → AreInside values bls → ((j : ℕ) → IsOrdered (block_at bls j)) → all_in_order stamps bls n ≡ true
  all_ordered_from stamps [] n size up inside ordered = refl
  all_ordered_from stamps (bl ∷ bls) n size up inside ordered = and_from _ _
      (ordered_from values n bl.end stamps [] bl.ops (bears_none values n stamps size up) (inside.defs 0) (inside.once 0) (λ v late. at_first v late.0 late.1))
      (all_ordered_from (read_by stamps bl.ops n) bls (suc n) (next_size stamps bl n size) (next_up stamps bl bls n size up inside) (behind_first values bl bls inside) (λ j. ordered (suc j)))
    where
      at_first : (v : ℕ) → has (defs_of bl.ops) v ≡ true → ◌⊎◌ (has [] v ≡ true) (reads bl.ops bl.end v ≡ true) → ⊥
      at_first v made (inl h) = let z : false ≡ true = h in cc
      at_first v made (inr h) = ordered 0 v made h
