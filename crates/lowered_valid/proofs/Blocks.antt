-- From pieces to blocks: what `Scoped` and `Numbered` say of pieces, said of each block.
use Rattle.std.proofs.Common.{◌≡◌, ◌⊎◌, ⊎_elim, inl, inr, ℕ, zero, suc, ◌+◌, ◌≤◌, ◌<◌, List, [], ◌∷◌, ◌++◌, map, Bool, true, false, cond, Option, Some, None, refl, sym, ap, ◌∙◌, subst, arith, append_assoc, length, length-append, slice_get}
use Rattle.std.specs.Prelude.{option_to_list, ◌==◌, nat_lt}
use Rattle.std.specs.List.{list_all}
use Rattle.std.proofs.lemmas.Bool.{eqb-true, eq-eqb, lt-ltb, and_from}
use Rattle.block_runs.specs.Blocks.{Operation, CodeBlock, end_uses, successors, block_at}
use Rattle.block_runs.specs.Live.{has, defs_of, block_makes, reads, Live, Here, Later}
use Rattle.block_runs.specs.Valid.{IsPlaced, params_of, condition_fits, arguments_fit, all_below, uses_of, block_reads, enter_below}
use Rattle.block_runs.specs.declared.end.End.{End}
use Rattle.block_runs.specs.declared.end.End.TheVariants.{Jump, Branch, Nonzero, Return, Trap}
use Rattle.ssa_core.specs.declared.procedure.Op.{Op}
use Rattle.ssa_core.specs.declared.procedure.Block.{Block}
use Rattle.ssa_core.specs.Procedures.{operation_of, code_block, code_blocks}
use Rattle.ssa_lowered.specs.Pieces.{Start, Piece, Appends, Closes, blocks_of, plain}
use Rattle.ssa_lowered.proofs.Linear.{Linear}
use Rattle.ob_types.proofs.Tests.{no, none_some, some_same, and_of}
use Rattle.lowered_valid.proofs.Lists.{In, Sub, AllIn}
use Rattle.lowered_valid.proofs.Scoped.{Opens, Leads, Enters, Starts, Sound}
use Rattle.lowered_valid.proofs.Numbered.{Counts, after_all, Under, Numbered, after_more}

---- Being among numbers, as a test

in_of : (xs : List ℕ) (v : ℕ) → has xs v ≡ true → In v xs
in_of [] v h = no h
in_of (x ∷ xs) v h = by (x == v) refl h (in_of xs v)
  where
    by : (b : Bool) → (x == v) ≡ b → cond b true (has xs v) ≡ true → (has xs v ≡ true → In v xs) → In v (x ∷ xs)
    by true e h more = inl (sym (eqb-true x v e))
    by false e h more = inr (more h)

has_in : (xs : List ℕ) (v : ℕ) → In v xs → has xs v ≡ true
has_in [] v i = absurd i
has_in (x ∷ xs) v i = by (x == v) refl i (has_in xs v)
  where
    by : (b : Bool) → (x == v) ≡ b → In v (x ∷ xs) → (In v xs → has xs v ≡ true) → cond b true (has xs v) ≡ true
    by true e i more = refl
    by false e (inl q) more = no (sym e ∙ eq-eqb x v (sym q))
    by false e (inr j) more = more j

not_in : (xs : List ℕ) (v : ℕ) → has xs v ≡ false → In v xs → ⊥
not_in xs v h i = no (sym h ∙ has_in xs v i)

in_all : (xs w : List ℕ) (v : ℕ) → AllIn xs w → In v xs → In v w
in_all [] w v a i = absurd i
in_all (x ∷ xs) w v a (inl e) = subst (λ z. In z w) (sym e) a.0
in_all (x ∷ xs) w v a (inr j) = in_all xs w v a.1 j

in_parts : (xs w : List ℕ) (v : ℕ) → In v (xs ++ w) → In v xs ⊎ In v w
in_parts [] w v i = inr i
in_parts (x ∷ xs) w v (inl e) = inl (inl e)
in_parts (x ∷ xs) w v (inr j) = ⊎_elim (λ (k : In v xs). inl (inr k)) (λ (k : In v w). inr k) (in_parts xs w v j)

in_front : (xs w : List ℕ) (v : ℕ) → In v xs → In v (xs ++ w)
in_front [] w v i = absurd i
in_front (x ∷ xs) w v (inl e) = inl e
in_front (x ∷ xs) w v (inr j) = inr (in_front xs w v j)

in_back : (xs w : List ℕ) (v : ℕ) → In v w → In v (xs ++ w)
in_back [] w v i = i
in_back (x ∷ xs) w v i = inr (in_back xs w v i)

outside : (xs w : List ℕ) (v : ℕ) → (In v xs → ⊥) → In v (xs ++ w) → In v w
outside xs w v n i = ⊎_elim (λ (j : In v xs). absurd (n j)) (λ (j : In v w). j) (in_parts xs w v i)

under_in : (n : ℕ) (xs : List ℕ) (v : ℕ) → Under n xs → In v xs → v < n
under_in n [] v u i = absurd i
under_in n (x ∷ xs) v u (inl e) = let a = u.0 in omega (arith, a, e)
under_in n (x ∷ xs) v u (inr j) = under_in n xs v u.1 j

---- Blocks by their numbers

-- each block, from number b on
abbrev pub Every : (ℕ → CodeBlock → Type 0) → ℕ → List CodeBlock → Type 0
Every P b [] = Unit {0}
Every P b (k ∷ ks) = P b k × Every P (suc b) ks

pub every_at : (P : ℕ → CodeBlock → Type 0) (a b : ℕ) (ks : List CodeBlock) (k : CodeBlock) → Every P a ks → slice_get ks b ≡ Some k → P (b + a) k
every_at P a b [] k e g = none_some k g
every_at P a zero (x ∷ ks) k e g = subst (λ z. P z k) (omega arith) (subst (λ z. P a z) (some_same x k g) e.0)
every_at P a (suc b) (x ∷ ks) k e g = subst (λ z. P z k) (omega arith) (every_at P (suc a) b ks k e.1 g)

pub every_tests : (P : ℕ → CodeBlock → Type 0) (test : CodeBlock → Bool) → ((b : ℕ) (bl : CodeBlock) → P b bl → test bl ≡ true) → (b : ℕ) (ks : List CodeBlock) → Every P b ks → list_all test ks ≡ true
every_tests P test f b [] e = refl
every_tests P test f b (k ∷ ks) e = and_from (test k) (list_all test ks) (f b k e.0) (every_tests P test f (suc b) ks e.1)

-- a block that is there
at_block : (ks : List CodeBlock) (b : ℕ) → b < length ks → slice_get ks b ≡ Some (block_at ks b)
at_block [] b l = absurd (omega (arith, l))
at_block (k ∷ ks) zero l = refl
at_block (k ∷ ks) (suc b) l = at_block ks b (omega (arith, l))

-- a block from its start, its operations and its end
abbrev pub block_of : Start → List Op → End → Block
block_of s ops end = record { params = s.params; ops = ops; end = end; freq = s.freq; enter = s.enter }

-- how many there are
pub count_blocks : (b i c j : ℕ) (s : Start) (ops : List Op) (last : End) (ps : List Piece) → Linear b i ps c j → length (code_blocks (blocks_of s ops last ps)) + b ≡ suc c
count_blocks b i c j s ops last [] l = let e = l.0 in omega (arith, e)
count_blocks b i c j s ops last (Appends at k op ∷ ps) l = count_blocks b (suc i) c j s (ops ++ op ∷ []) last ps l.2
count_blocks b i c j s ops last (Closes at k end next ∷ ps) l = let e = count_blocks (suc b) 0 c j next [] last ps l.2 in omega (arith, e)

---- What is seen in blocks

module _ (start_at : ℕ → Start) (total : ℕ) where
  abbrev EndClean : List ℕ → End → Type 0
  EndClean w end = AllIn (end_uses end) w × Leads start_at total w end

  -- operations and the end, from where w is seen
  abbrev pub Clean : List ℕ → List Operation → End → Type 0
  Clean w [] end = EndClean w end
  Clean w (op ∷ ops) end = AllIn op.uses w × Clean (option_to_list op.def ++ w) ops end

  pub record CleanBlock (b : ℕ) (bl : CodeBlock) : Type 0 where
    pub code : Clean (bl.params ++ (start_at b).seen) bl.ops bl.end
    pub params : bl.params ≡ (start_at b).params

  -- operations, to where x is seen
  abbrev Opened : List ℕ → List Op → List ℕ → Type 0
  Opened w [] x = w ≡ x
  Opened w (op ∷ ops) x = AllIn op.uses w × Opened (option_to_list op.def ++ w) ops x

  opened_on : (w x : List ℕ) (ops : List Op) (op : Op) → Opened w ops x → AllIn op.uses x → Opened w (ops ++ op ∷ []) (option_to_list op.def ++ x)
  opened_on w x [] op c a = (subst (λ z. AllIn op.uses z) (sym c) a, ap (λ z. option_to_list op.def ++ z) c)
  opened_on w x (o ∷ ops) op c a = (c.0, opened_on (option_to_list o.def ++ w) x ops op c.1 a)

  closed : (w x : List ℕ) (ops : List Op) (end : End) → Opened w ops x → EndClean x end → Clean w (map operation_of ops) end
  closed w x [] end c e = subst (λ z. EndClean z end) (sym c) e
  closed w x (o ∷ ops) end c e = (c.0, closed (option_to_list o.def ++ w) x ops end c.1 e)

  clean_here : (b : ℕ) (s : Start) (ops : List Op) (end : End) (w : List ℕ) → start_at b ≡ s → Opened (s.params ++ s.seen) ops w → EndClean w end → CleanBlock b (code_block (block_of s ops end))
  clean_here b s ops end w v o e = record {
    code = subst (λ (z : Start). Clean (s.params ++ z.seen) (map operation_of ops) end) (sym v) (closed (s.params ++ s.seen) w ops end o e);
    params = ap (λ (z : Start). z.params) (sym v);
  }

  pub clean_blocks : (b i c j : ℕ) (s : Start) (ops : List Op) (last : End) (ps : List Piece) (w x : List ℕ) → start_at b ≡ s → Opened (s.params ++ s.seen) ops w → Linear b i ps c j
      → Starts start_at total ps → Sound start_at total w ps x → EndClean x last → Every CleanBlock b (code_blocks (blocks_of s ops last ps))
  clean_blocks b i c j s ops last [] w x v o l h q e = (clean_here b s ops last w v o (subst (λ z. EndClean z last) (sym q) e), tt)
  clean_blocks b i c j s ops last (Appends at k op ∷ ps) w x v o l h q e =
      clean_blocks b (suc i) c j s (ops ++ op ∷ []) last ps (option_to_list op.def ++ w) x v (opened_on (s.params ++ s.seen) w ops op o q.0) l.2 h q.1 e
  clean_blocks b i c j s ops last (Closes at k end next ∷ ps) w x v o l h q e =
      (clean_here b s ops end w v o (q.0, q.1), clean_blocks (suc b) 0 c j next [] last ps (next.params ++ next.seen) x (subst (λ z. start_at (suc z) ≡ next) l.0 h.1) refl l.2 h.2 q.3 e)

  enters_fit : (e : Option ℕ) → Enters start_at total e → enter_below total e ≡ true
  enters_fit None l = refl
  enters_fit (Some b) l = lt-ltb b total l

  pub enters_below : (s : Start) (ops : List Op) (last : End) (ps : List Piece) (w x : List ℕ) → Enters start_at total s.enter → Sound start_at total w ps x → list_all (λ (k : Block). enter_below total k.enter) (blocks_of s ops last ps) ≡ true
  enters_below s ops last [] w x e q = and_from (enter_below total s.enter) true (enters_fit s.enter e) refl
  enters_below s ops last (Appends at k op ∷ ps) w x e q = enters_below s (ops ++ op ∷ []) last ps (option_to_list op.def ++ w) x e q.1
  enters_below s ops last (Closes at k end next ∷ ps) w x e q =
      and_from (enter_below total s.enter) (list_all (λ (k : Block). enter_below total k.enter) (blocks_of next [] last ps)) (enters_fit s.enter e) (enters_below next [] last ps (next.params ++ next.seen) x q.2 q.3)

  ---- Live values

  -- what is read and not made before is seen
  read_seen : (w : List ℕ) (ops : List Operation) (end : End) (v : ℕ) → Clean w ops end → reads ops end v ≡ true → In v w
  read_seen w [] end v c r = in_all (end_uses end) w v c.0 (in_of (end_uses end) v r)
  read_seen w (op ∷ ops) end v c r = by (has op.uses v) (has (option_to_list op.def) v) refl refl r (read_seen (option_to_list op.def ++ w) ops end v c.1)
    where
      by : (a b : Bool) → has op.uses v ≡ a → has (option_to_list op.def) v ≡ b → cond a true (cond b false (reads ops end v)) ≡ true → (reads ops end v ≡ true → In v (option_to_list op.def ++ w)) → In v w
      by true b d e h more = in_all op.uses w v c.0 (in_of op.uses v d)
      by false true d e h more = no h
      by false false d e h more = outside (option_to_list op.def) w v (not_in (option_to_list op.def) v e) (more h)

  led_to : (w : List ℕ) (end : End) (to : ℕ) → Leads start_at total w end → In to (successors end) → Sub (start_at to).seen w
  led_to w (Jump t args) to l (inl e) = subst (λ z. Sub (start_at z).seen w) (sym e) l.seen
  led_to w (Jump t args) to l (inr j) = absurd j
  led_to w (Branch k a b one other) to l (inl e) = subst (λ z. Sub (start_at z).seen w) (sym e) l.1.seen
  led_to w (Branch k a b one other) to l (inr (inl e)) = subst (λ z. Sub (start_at z).seen w) (sym e) l.2.seen
  led_to w (Branch k a b one other) to l (inr (inr j)) = absurd j
  led_to w (Nonzero a one other) to l (inl e) = subst (λ z. Sub (start_at z).seen w) (sym e) l.0.seen
  led_to w (Nonzero a one other) to l (inr (inl e)) = subst (λ z. Sub (start_at z).seen w) (sym e) l.1.seen
  led_to w (Nonzero a one other) to l (inr (inr j)) = absurd j
  led_to w (Return a) to l i = absurd i
  led_to w (Trap kind) to l i = absurd i

  -- what is seen where the end leads and not made here is seen here
  led_seen : (w : List ℕ) (ops : List Operation) (end : End) (v to : ℕ) → Clean w ops end → (In v (defs_of ops) → ⊥) → In to (successors end) → In v (start_at to).seen → In v w
  led_seen w [] end v to c n t i = led_to w end to c.1 t v i
  led_seen w (op ∷ ops) end v to c n t i =
      let d = option_to_list op.def in
      outside d w v (λ j. n (in_front d (defs_of ops) v j)) (led_seen (d ++ w) ops end v to c.1 (λ j. n (in_back d (defs_of ops) v j)) t i)

  live_seen : (bs : List CodeBlock) (v b : ℕ) → ((b : ℕ) (bl : CodeBlock) → slice_get bs b ≡ Some bl → CleanBlock b bl) → Live bs v b → In v (start_at b).seen
  live_seen bs v _ c (Here b bl g n r) = outside bl.params (start_at b).seen v (not_in bl.params v n) (read_seen (bl.params ++ (start_at b).seen) bl.ops bl.end v (c b bl g).code r)
  live_seen bs v _ c (Later b to bl g n t l) =
      outside bl.params (start_at b).seen v (λ i. not_in (block_makes bl) v n (in_front bl.params (defs_of bl.ops) v i))
      (led_seen (bl.params ++ (start_at b).seen) bl.ops bl.end v to (c b bl g).code (λ i. not_in (block_makes bl) v n (in_back bl.params (defs_of bl.ops) v i)) (in_of (successors bl.end) to t) (live_seen bs v to c l))

  ---- What is made

  -- no value that a block makes is seen where it begins, and all these are below m
  pub record Fresh (m b : ℕ) (bl : CodeBlock) : Type 0 where
    pub new : (v : ℕ) → In v (block_makes bl) → In v (start_at b).seen → ⊥
    pub made : (v : ℕ) → In v (block_makes bl) → v < m
    pub seen : (v : ℕ) → In v (start_at b).seen → v < m

  counts_from : (n : ℕ) (xs : List ℕ) (v : ℕ) → Counts n xs → In v xs → (n ≤ v) × (v < after_all xs n)
  counts_from n [] v c i = absurd i
  counts_from n (x ∷ xs) v c (inl e) = let a = c.0 in let b = after_more xs (suc n) in (omega (arith, e, a), omega (arith, e, a, b))
  counts_from n (x ∷ xs) v c (inr j) = let a = counts_from (suc n) xs v c.1 j in let b = a.0 in (omega (arith, b), a.1)

  defs_on : (ops : List Op) (op : Op) (v : ℕ) → In v (defs_of (map operation_of (ops ++ op ∷ []))) → In v (defs_of (map operation_of ops)) ⊎ In v (option_to_list op.def)
  defs_on [] op v i = ⊎_elim (λ (j : In v (option_to_list op.def)). inr j) (λ (j : ⊥). absurd j) (in_parts (option_to_list op.def) [] v i)
  defs_on (o ∷ ops) op v i =
      let d = option_to_list o.def in
      ⊎_elim (λ (j : In v d). inl (in_front d (defs_of (map operation_of ops)) v j))
      (λ (j : In v (defs_of (map operation_of (ops ++ op ∷ [])))). ⊎_elim (λ (k : In v (defs_of (map operation_of ops))). inl (in_back d (defs_of (map operation_of ops)) v k)) (λ (k : In v (option_to_list op.def)). inr k) (defs_on ops op v j))
      (in_parts d (defs_of (map operation_of (ops ++ op ∷ []))) v i)

  numbered_more : (n m : ℕ) (ps : List Piece) → Numbered n ps m → n ≤ m
  numbered_more n m [] z = omega (arith, z)
  numbered_more n m (Appends b i op ∷ ps) z = let a = numbered_more (after_all (option_to_list op.def) n) m ps z.1 in let b = after_more (option_to_list op.def) n in omega (arith, a, b)
  numbered_more n m (Closes b i end start ∷ ps) z = let a = numbered_more (after_all start.params n) m ps z.2 in let b = after_more start.params n in omega (arith, a, b)

  -- what an open block makes stands between o, where it began, and n
  abbrev pub Between : ℕ → ℕ → Start → List Op → Type 0
  Between o n s ops = (v : ℕ) → In v (s.params ++ defs_of (map operation_of ops)) → (o ≤ v) × (v < n)

  fresh_here : (b : ℕ) (s : Start) (ops : List Op) (end : End) (o n m : ℕ) → start_at b ≡ s → Under o s.seen → Between o n s ops → o ≤ n → n ≤ m → Fresh m b (code_block (block_of s ops end))
  fresh_here b s ops end o n m e u q l k =
      let low : (v : ℕ) → In v (start_at b).seen → v < o = λ v i. under_in o s.seen v u (subst (λ (z : Start). In v z.seen) e i) in
      record {
        new = λ v i j. let a = (q v i).0 in let d = low v j in omega (arith, a, d);
        made = λ v i. let a = (q v i).1 in omega (arith, a, k);
        seen = λ v j. let d = low v j in omega (arith, d, l, k);
      }

  between_on : (o n k : ℕ) (s : Start) (ops : List Op) (op : Op) → Between o n s ops → o ≤ n → Counts n (option_to_list op.def) → after_all (option_to_list op.def) n ≤ k → n ≤ k → Between o k s (ops ++ op ∷ [])
  between_on o n k s ops op q l c a g v i =
      ⊎_elim (λ (j : In v s.params). let r = q v (in_front s.params (defs_of (map operation_of ops)) v j) in let x = r.1 in (r.0, omega (arith, x, g)))
      (λ (j : In v (defs_of (map operation_of (ops ++ op ∷ [])))). ⊎_elim
      (λ (d : In v (defs_of (map operation_of ops))). let r = q v (in_back s.params (defs_of (map operation_of ops)) v d) in let x = r.1 in (r.0, omega (arith, x, g)))
      (λ (d : In v (option_to_list op.def)). let r = counts_from n (option_to_list op.def) v c d in let x = r.0 in let y = r.1 in (omega (arith, x, l), omega (arith, y, a)))
      (defs_on ops op v j))
      (in_parts s.params (defs_of (map operation_of (ops ++ op ∷ []))) v i)

  pub between_start : (n : ℕ) (s : Start) → Counts n s.params → Between n (after_all s.params n) s []
  between_start n s c v i = ⊎_elim (λ (j : In v s.params). counts_from n s.params v c j) (λ (j : ⊥). absurd j) (in_parts s.params [] v i)

  pub fresh_blocks : (b i c j : ℕ) (s : Start) (ops : List Op) (last : End) (ps : List Piece) (o n m : ℕ) → start_at b ≡ s → Under o s.seen → Between o n s ops → o ≤ n → Linear b i ps c j
      → Starts start_at total ps → Numbered n ps m → Every (Fresh m) b (code_blocks (blocks_of s ops last ps))
  fresh_blocks b i c j s ops last [] o n m v u q g l h z = (fresh_here b s ops last o n m v u q g (omega (arith, z)), tt)
  fresh_blocks b i c j s ops last (Appends at k op ∷ ps) o n m v u q g l h z =
      let d = option_to_list op.def in
      let a = after_more d n in
      fresh_blocks b (suc i) c j s (ops ++ op ∷ []) last ps o (after_all d n) m v u (between_on o n (after_all d n) s ops op q g z.0 (omega arith) a) (omega (arith, a, g)) l.2 h z.1
  fresh_blocks b i c j s ops last (Closes at k end next ∷ ps) o n m v u q g l h z = (
    fresh_here b s ops end o n m v u q g (numbered_more n m (Closes at k end next ∷ ps) z),
    fresh_blocks (suc b) 0 c j next [] last ps n (after_all next.params n) m (subst (λ x. start_at (suc x) ≡ next) l.0 h.1) z.1 (between_start n next z.0) (after_more next.params n) l.2 h.2 z.2,
  )

  ---- The conditions, of blocks that are clean and fresh

  module _ (m : ℕ) (bs : List CodeBlock) (clean : Every CleanBlock 0 bs) (fresh : Every (Fresh m) 0 bs) (count : length bs ≡ total) where
    clean_at : (b : ℕ) (bl : CodeBlock) → slice_get bs b ≡ Some bl → CleanBlock b bl
    clean_at b bl g = subst (λ z. CleanBlock z bl) (omega arith) (every_at CleanBlock 0 b bs bl clean g)

    pub placed : (start_at 0).seen ≡ [] → IsPlaced bs
    placed none = record {
      first = λ v l. subst (λ z. In v z) none (live_seen bs v 0 clean_at l);
      own = λ v b bl g made l. (subst (λ z. Fresh m z bl) (omega arith) (every_at (Fresh m) 0 b bs bl fresh g)).new v (in_of (block_makes bl) v made) (live_seen bs v b clean_at l);
    }

    -- what is read

    all_from : (xs : List ℕ) → ((v : ℕ) → In v xs → v < m) → all_below m xs ≡ true
    all_from [] f = refl
    all_from (x ∷ xs) f = and_from (nat_lt x m) (all_below m xs) (lt-ltb x m (f x (inl refl))) (all_from xs (λ v i. f v (inr i)))

    all_parts : (xs ys : List ℕ) → all_below m xs ≡ true → all_below m ys ≡ true → all_below m (xs ++ ys) ≡ true
    all_parts [] ys a b = b
    all_parts (x ∷ xs) ys a b = let q = and_of (nat_lt x m) (all_below m xs) a in and_from (nat_lt x m) (all_below m (xs ++ ys)) q.0 (all_parts xs ys q.1 b)

    reads_below : (w : List ℕ) (ops : List Operation) (end : End) → Clean w ops end → ((v : ℕ) → In v w → v < m) → ((v : ℕ) → In v (defs_of ops) → v < m) → all_below m (uses_of ops ++ end_uses end) ≡ true
    reads_below w [] end c f g = all_from (end_uses end) (λ v i. f v (in_all (end_uses end) w v c.0 i))
    reads_below w (op ∷ ops) end c f g =
        let d = option_to_list op.def in
        let more = reads_below (d ++ w) ops end c.1 (λ v i. ⊎_elim (λ (j : In v d). g v (in_front d (defs_of ops) v j)) (λ (j : In v w). f v j) (in_parts d w v i)) (λ v i. g v (in_back d (defs_of ops) v i)) in
        subst (λ z. all_below m z ≡ true) (sym (append_assoc op.uses (uses_of ops) (end_uses end))) (all_parts op.uses (uses_of ops ++ end_uses end) (all_from op.uses (λ v i. f v (in_all op.uses w v c.0 i))) more)

    block_below : (b : ℕ) (bl : CodeBlock) → CleanBlock b bl → Fresh m b bl → all_below m (block_reads bl) ≡ true
    block_below b bl c f =
        reads_below (bl.params ++ (start_at b).seen) bl.ops bl.end c.code
        (λ v i. ⊎_elim (λ (j : In v bl.params). f.made v (in_front bl.params (defs_of bl.ops) v j)) (λ (j : In v (start_at b).seen). f.seen v j) (in_parts bl.params (start_at b).seen v i))
        (λ v i. f.made v (in_back bl.params (defs_of bl.ops) v i))

    each_below : (b : ℕ) (ks : List CodeBlock) → Every CleanBlock b ks → Every (Fresh m) b ks → list_all (λ bl. all_below m (block_reads bl)) ks ≡ true
    each_below b [] c f = refl
    each_below b (k ∷ ks) c f = and_from (all_below m (block_reads k)) (list_all (λ bl. all_below m (block_reads bl)) ks) (block_below b k c.0 f.0) (each_below (suc b) ks c.1 f.1)

    pub read_below : list_all (λ bl. all_below m (block_reads bl)) bs ≡ true
    read_below = each_below 0 bs clean fresh

    -- where ends lead

    end_of : (w : List ℕ) (ops : List Operation) (end : End) → Clean w ops end → (x : List ℕ) × Leads start_at total x end
    end_of w [] end c = (w, c.1)
    end_of w (op ∷ ops) end c = end_of (option_to_list op.def ++ w) ops end c.1

    there : (t : ℕ) → t < total → nat_lt t (length bs) ≡ true
    there t l = lt-ltb t (length bs) (omega (arith, l, count))

    one_there : (t : ℕ) → t < total → all_below (length bs) (t ∷ []) ≡ true
    one_there t l = and_from (nat_lt t (length bs)) true (there t l) refl

    two_there : (s t : ℕ) → s < total → t < total → all_below (length bs) (s ∷ t ∷ []) ≡ true
    two_there s t k l = and_from (nat_lt s (length bs)) (all_below (length bs) (t ∷ [])) (there s k) (one_there t l)

    targets_there : (w : List ℕ) (end : End) → Leads start_at total w end → all_below (length bs) (successors end) ≡ true
    targets_there w (Jump to args) l = one_there to l.there
    targets_there w (Branch k a b one other) l = two_there one other l.1.there l.2.there
    targets_there w (Nonzero a one other) l = two_there one other l.0.there l.1.there
    targets_there w (Return a) l = refl
    targets_there w (Trap kind) l = refl

    pub targets : list_all (λ bl. all_below (length bs) (successors bl.end)) bs ≡ true
    targets = every_tests CleanBlock (λ bl. all_below (length bs) (successors bl.end)) (λ b bl c. let r = end_of (bl.params ++ (start_at b).seen) bl.ops bl.end c.code in targets_there r.0 bl.end r.1) 0 bs clean

    condition_fit : (w : List ℕ) (end : End) → Leads start_at total w end → condition_fits end ≡ true
    condition_fit w (Jump to args) l = refl
    condition_fit w (Branch k a b one other) l = lt-ltb k 14 l.0
    condition_fit w (Nonzero a one other) l = refl
    condition_fit w (Return a) l = refl
    condition_fit w (Trap kind) l = refl

    pub conditions : list_all (λ bl. condition_fits bl.end) bs ≡ true
    conditions = every_tests CleanBlock (λ bl. condition_fits bl.end) (λ b bl c. let r = end_of (bl.params ++ (start_at b).seen) bl.ops bl.end c.code in condition_fit r.0 bl.end r.1) 0 bs clean

    -- a block takes as many arguments as the certificate says
    pub params_there : (to : ℕ) → to < total → params_of bs to ≡ length (start_at to).params
    params_there to l = ap length (clean_at to (block_at bs to) (at_block bs to (omega (arith, l, count)))).params

    taken : (to k : ℕ) (w : List ℕ) → Opens start_at total to k w → params_of bs to ≡ k
    taken to k w o = params_there to o.there ∙ o.takes

    argument_fit : (w : List ℕ) (end : End) → Leads start_at total w end → arguments_fit bs end ≡ true
    argument_fit w (Jump to args) l = eq-eqb (length args) (params_of bs to) (sym (taken to (length args) w l))
    argument_fit w (Branch k a b one other) l = and_from (params_of bs one == 0) (params_of bs other == 0) (eq-eqb (params_of bs one) 0 (taken one 0 w l.1)) (eq-eqb (params_of bs other) 0 (taken other 0 w l.2))
    argument_fit w (Nonzero a one other) l = and_from (params_of bs one == 0) (params_of bs other == 0) (eq-eqb (params_of bs one) 0 (taken one 0 w l.0)) (eq-eqb (params_of bs other) 0 (taken other 0 w l.1))
    argument_fit w (Return a) l = refl
    argument_fit w (Trap kind) l = refl

    pub arguments : list_all (λ bl. arguments_fit bs bl.end) bs ≡ true
    arguments = every_tests CleanBlock (λ bl. arguments_fit bs bl.end) (λ b bl c. let r = end_of (bl.params ++ (start_at b).seen) bl.ops bl.end c.code in argument_fit r.0 bl.end r.1) 0 bs clean

---- The certificate of pieces

pub starts_of : List Piece → List Start
starts_of [] = []
starts_of (Appends b i op ∷ ps) = starts_of ps
starts_of (Closes b i end start ∷ ps) = start ∷ starts_of ps

abbrev pub nth : List Start → ℕ → Start
nth [] k = plain 0 []
nth (x ∷ xs) zero = x
nth (x ∷ xs) (suc k) = nth xs k

nth_on : (pre : List Start) (x : Start) (more : List Start) → nth (pre ++ x ∷ more) (length pre) ≡ x
nth_on [] x more = refl
nth_on (y ∷ pre) x more = nth_on pre x more

length_on : (xs : List Start) (x : Start) → length (xs ++ x ∷ []) ≡ suc (length xs)
length_on xs x = let e = length-append xs (x ∷ []) in omega (arith, e)

blocks_more : (b i c j : ℕ) (ps : List Piece) → Linear b i ps c j → b ≤ c
blocks_more b i c j [] l = let e = l.0 in omega (arith, e)
blocks_more b i c j (Appends at k op ∷ ps) l = blocks_more b (suc i) c j ps l.2
blocks_more b i c j (Closes at k end start ∷ ps) l = let e = blocks_more (suc b) 0 c j ps l.2 in omega (arith, e)

pub starts_from : (start_at : ℕ → Start) (pre : List Start) (b i c j : ℕ) (ps : List Piece) → Linear b i ps c j → suc b ≡ length pre → ((k : ℕ) → start_at k ≡ nth (pre ++ starts_of ps) k) → Starts start_at (suc c) ps
unfolding starts_of
starts_from start_at pre b i c j [] l e q = tt
starts_from start_at pre b i c j (Appends at k op ∷ ps) l e q = starts_from start_at pre b (suc i) c j ps l.2 e q
starts_from start_at pre b i c j (Closes at k end start ∷ ps) l e q =
    let more = blocks_more (suc b) 0 c j ps l.2 in
    let here = l.0 in (
      omega (arith, more, here),
      ap (λ z. start_at (suc z)) here ∙ ap start_at e ∙ q (length pre) ∙ nth_on pre start (starts_of ps),
      starts_from start_at (pre ++ start ∷ []) (suc b) 0 c j ps l.2 (ap suc e ∙ sym (length_on pre start)) (λ k. q k ∙ ap (λ z. nth z k) (sym (append_assoc pre (start ∷ []) (starts_of ps)))),
    )
