-- Each value that is read was made on every way to where it is read, and each end leads to blocks that are there, with an argument for each of
-- their parameters: what is kept, and how tests, choices, loops and cases keep it.
--
-- The certificate is what each block says of how it begins: the values that are seen there, and its parameters.
use Rattle.std.proofs.Common.{◌≡◌, inl, inr, ℕ, zero, suc, ◌<◌, List, [], ◌∷◌, ◌++◌, Bool, true, false, cond, Option, Some, None, refl, sym, ap, ◌∙◌, subst, slice_get, slice_set, length, arith}
use Rattle.std.specs.Prelude.{option_to_list}
use Rattle.block_runs.specs.Blocks.{end_uses}
use Rattle.block_runs.specs.declared.code.Code.{Code}
use Rattle.block_runs.specs.declared.code.Code.TheVariants.{Const}
use Rattle.block_runs.specs.declared.end.End.{End}
use Rattle.block_runs.specs.declared.end.End.TheVariants.{Jump, Branch, Nonzero, Return, Trap}
use Rattle.ssa_lowered.specs.Pieces.{Cursor, Start, Piece, Appends, Closes, Made, Low, give, ◌>>=◌, emits, does, fetched, variable, becomes, close, fresh, plain, Mask, rest, params, merged, picked, join, join_start}
use Rattle.ssa_lowered.specs.Control.{half, often, at_freq, Fork, Test, fork_value, fork_branch, fork_not, fork_and, fork_or, flag, choose, Round, behind, rounds, loop, repeat, Rung, ladder, limbs, before, case}
use Rattle.ssa_lowered.specs.Values.{const}
use Rattle.ssa_lowered.specs.Statements.{Deed}
use Rattle.ssa_lowered.proofs.Everywhere.{Each}
use Rattle.lowered_valid.proofs.Lists.{In, Sub, AllIn, up_all, behind_all, set_long, merged_long, params_long}

---- The certificate: how each block begins, and how many blocks there are

module _ (start_at : ℕ → Start) (total : ℕ) where
  -- a block may follow with so many arguments, where these values are seen
  pub record Opens (to k : ℕ) (w : List ℕ) : Type 0 where
    pub there : to < total
    pub takes : length (start_at to).params ≡ k
    pub seen : Sub (start_at to).seen w

  -- to where an end leads
  abbrev pub Leads : List ℕ → End → Type 0
  Leads w (Jump to args) = Opens to (length args) w
  Leads w (Branch k a b one other) = (k < 14) × Opens one 0 w × Opens other 0 w
  Leads w (Nonzero a one other) = Opens one 0 w × Opens other 0 w
  Leads w (Return a) = Unit {0}
  Leads w (Trap kind) = Unit {0}

  abbrev pub Enters : Option ℕ → Type 0
  Enters None = Unit {0}
  Enters (Some b) = b < total

  -- the blocks begin as the certificate says
  abbrev pub Starts : List Piece → Type 0
  Starts [] = Unit {0}
  Starts (Appends b i op ∷ ps) = Starts ps
  Starts (Closes b i end start ∷ ps) = (suc b < total) × (start_at (suc b) ≡ start) × Starts ps

  -- from where w is seen to where x is: what is read is seen, and ends lead to where no more is seen than there
  abbrev pub Sound : List ℕ → List Piece → List ℕ → Type 0
  Sound w [] x = w ≡ x
  Sound w (Appends b i op ∷ ps) x = AllIn op.uses w × Sound (option_to_list op.def ++ w) ps x
  Sound w (Closes b i end start ∷ ps) x = AllIn (end_uses end) w × Leads w end × Enters start.enter × Sound (start.params ++ start.seen) ps x

  pub starts_left : (xs ys : List Piece) → Starts (xs ++ ys) → Starts xs
  starts_left [] ys s = tt
  starts_left (Appends b i op ∷ xs) ys s = starts_left xs ys s
  starts_left (Closes b i end start ∷ xs) ys s = (s.0, s.1, starts_left xs ys s.2)

  pub starts_right : (xs ys : List Piece) → Starts (xs ++ ys) → Starts ys
  starts_right [] ys s = s
  starts_right (Appends b i op ∷ xs) ys s = starts_right xs ys s
  starts_right (Closes b i end start ∷ xs) ys s = starts_right xs ys s.2

  pub sound_on : (w x y : List ℕ) (xs ys : List Piece) → Sound w xs x → Sound x ys y → Sound w (xs ++ ys) y
  sound_on w x y [] ys p q = subst (λ z. Sound z ys y) (sym p) q
  sound_on w x y (Appends b i op ∷ xs) ys p q = (p.0, sound_on (option_to_list op.def ++ w) x y xs ys p.1 q)
  sound_on w x y (Closes b i end start ∷ xs) ys p q = (p.0, p.1, p.2, sound_on (start.params ++ start.seen) x y xs ys p.3 q)

  pub up_opens : {to k : ℕ} {v w : List ℕ} → Sub v w → Opens to k v → Opens to k w
  up_opens s o = record { there = o.there; takes = o.takes; seen = λ x i. s x (o.seen x i) }

  -- a block that begins so
  pub opens : {to k : ℕ} {w : List ℕ} (start : Start) → to < total → start_at to ≡ start → length start.params ≡ k → Sub start.seen w → Opens to k w
  opens {to} {k} {w} start l e n s = record { there = l; takes = ap (λ (z : Start). length z.params) e ∙ n; seen = subst (λ (z : Start). Sub z.seen w) (sym e) s }

---- Values of variables

-- the values of the register variables are seen, and those that are given from the start
abbrev pub Env : List ℕ → Mask → List ℕ → List ℕ → Type 0
Env given regs [] w = Sub given w
Env given regs (u ∷ env) w = (regs 0 ≡ true → In u w) × Env given (rest regs) env w

pub up_env : (given : List ℕ) (regs : Mask) (env v w : List ℕ) → Sub v w → Env given regs env v → Env given regs env w
up_env given regs [] v w s e = λ x i. s x (e x i)
up_env given regs (u ∷ env) v w s e = ((λ r. s u (e.0 r)), up_env given (rest regs) env v w s e.1)

pub given_in : (given : List ℕ) (regs : Mask) (env w : List ℕ) → Env given regs env w → Sub given w
given_in given regs [] w e = e
given_in given regs (u ∷ env) w e = given_in given (rest regs) env w e.1

abbrev Fetched : Option ℕ → List ℕ → Type 0
Fetched None w = Unit {0}
Fetched (Some v) w = In v w

fetch_env : (given : List ℕ) (regs : Mask) (env w : List ℕ) (x : ℕ) → regs x ≡ true → Env given regs env w → Fetched (slice_get env x) w
fetch_env given regs [] w x r e = tt
fetch_env given regs (u ∷ env) w zero r e = e.0 r
fetch_env given regs (u ∷ env) w (suc x) r e = fetch_env given (rest regs) env w x r e.1

set_env : (given : List ℕ) (regs : Mask) (env w : List ℕ) (x v : ℕ) → In v w → Env given regs env w → Env given regs (slice_set env x v) w
set_env given regs [] w x v i e = e
set_env given regs (u ∷ env) w zero v i e = ((λ r. i), e.1)
set_env given regs (u ∷ env) w (suc x) v i e = (e.0, set_env given (rest regs) env w x v i e.1)

-- a mask that takes register variables alone
abbrev pub Masks : Mask → Mask → Type 0
Masks mask regs = (x : ℕ) → mask x ≡ true → regs x ≡ true

pick_by : (b : Bool) (u : ℕ) (more w : List ℕ) → (b ≡ true → In u w) → AllIn more w → AllIn (cond b (u ∷ more) more) w
pick_by true u more w i a = (i refl, a)
pick_by false u more w i a = a

all_picked : (given : List ℕ) (regs mask : Mask) (env w : List ℕ) → Masks mask regs → Env given regs env w → AllIn (picked mask env) w
all_picked given regs mask [] w m e = tt
all_picked given regs mask (u ∷ env) w m e = pick_by (mask 0) u (picked (rest mask) env) w (λ q. e.0 (m 0 q)) (all_picked given (rest regs) (rest mask) env w (λ x q. m (suc x) q) e.1)

-- behind a join
merge_by : (given : List ℕ) (regs : Mask) (b : Bool) (u v : ℕ) (ps qs ms ns w : List ℕ) → (regs 0 ≡ true → In u w) → ((x : List ℕ) → Sub (ps ++ w) x → Env given (rest regs) ms x) → ((x : List ℕ) → Sub (qs ++ w) x → Env given (rest regs) ns x)
    → (x : List ℕ) → Sub (cond b (v ∷ ps) qs ++ w) x → Env given regs (cond b (v ∷ ms) (u ∷ ns)) x
merge_by given regs true u v ps qs ms ns w i f g x s = ((λ r. s v (inl refl)), f x (λ z j. s z (inr j)))
merge_by given regs false u v ps qs ms ns w i f g x s = ((λ r. s u (behind_all qs w u (i r))), g x s)

merge_env : (given : List ℕ) (regs mask : Mask) (v : ℕ) (env w : List ℕ) → Env given regs env w → (x : List ℕ) → Sub (params mask v env ++ w) x → Env given regs (merged mask v env) x
merge_env given regs mask v [] w e x s = λ y i. s y (e y i)
merge_env given regs mask v (u ∷ env) w e x s =
    merge_by given regs (mask 0) u v (params (rest mask) (suc v) env) (params (rest mask) v env) (merged (rest mask) (suc v) env) (merged (rest mask) v env) w e.0
    (merge_env given (rest regs) (rest mask) (suc v) env w e.1) (merge_env given (rest regs) (rest mask) v env w e.1) x s

---- What is kept

-- how blocks begin and how many there are, the values that are given from the start, which variables are in registers, and how many there are
pub record Certificate : Type 0 where
  pub start_at : ℕ → Start
  pub total : ℕ
  pub given : List ℕ
  pub regs : Mask
  pub size : ℕ

abbrev pub OfValue : ℕ → List ℕ → Type 0
OfValue v w = In v w

abbrev pub OfNone : {A : Type 0} → A → List ℕ → Type 0
OfNone a w = Unit {0}

module _ (f : Certificate) where
  abbrev pub Begins : List Piece → Type 0
  Begins ps = Starts f.start_at f.total ps

  abbrev pub Certified : List ℕ → List Piece → List ℕ → Type 0
  Certified w ps x = Sound f.start_at f.total w ps x

  abbrev pub Ahead : ℕ → ℕ → List ℕ → Type 0
  Ahead to k w = Opens f.start_at f.total to k w

  abbrev left : (xs ys : List Piece) → Begins (xs ++ ys) → Begins xs
  left xs ys h = starts_left f.start_at f.total xs ys h

  abbrev right : (xs ys : List Piece) → Begins (xs ++ ys) → Begins ys
  right xs ys h = starts_right f.start_at f.total xs ys h

  abbrev on : (w x y : List ℕ) (xs ys : List Piece) → Certified w xs x → Certified x ys y → Certified w (xs ++ ys) y
  on w x y xs ys p q = sound_on f.start_at f.total w x y xs ys p q

  up : {to k : ℕ} {v w : List ℕ} → Sub v w → Ahead to k v → Ahead to k w
  up s o = up_opens f.start_at f.total s o

  -- the same, where what is seen is written otherwise
  seen_as : {to k : ℕ} {v w : List ℕ} → v ≡ w → Ahead to k v → Ahead to k w
  seen_as {to} {k} e o = subst (λ z. Ahead to k z) e o

  -- what is known of the variables
  pub record Known (env w : List ℕ) : Type 0 where
    pub values : Env f.given f.regs env w
    pub long : length env ≡ f.size

  pub up_known : {env v w : List ℕ} → Sub v w → Known env v → Known env w
  up_known {env} {v} {w} s e = record { values = up_env f.given f.regs env v w s e.values; long = e.long }

  pub record Goes {A : Type 0} (P : A → List ℕ → Type 0) (c : Cursor) (m : Made A) : Type 0 where
    pub sound : Certified c.seen m.pieces m.after.seen
    pub more : Sub c.seen m.after.seen
    pub env : Known m.after.env m.after.seen
    pub result : P m.result m.after.seen

  -- where w is seen, and whatever else
  pub record Scoped {A : Type 0} (P : A → List ℕ → Type 0) (w : List ℕ) (m : Low A) : Type 0 where
    pub by : (c : Cursor) → Sub w c.seen → Known c.env c.seen → Begins (m c).pieces → Goes P c (m c)

  -- a test leads on with what was seen before it
  pub record Leading (w : List ℕ) (t : Test) : Type 0 where
    pub by : (c : Cursor) (y n q : ℕ) → Sub w c.seen → Known c.env c.seen → Begins ((t c).pieces y n q) → Ahead y 0 c.seen → Ahead n 0 c.seen → Certified c.seen ((t c).pieces y n q) (t c).after.seen
    pub begun : (c : Cursor) (y n q : ℕ) → Begins ((t c).pieces y n q) → Ahead (t c).after.block 0 c.seen
    pub env : (c : Cursor) → (t c).after.env ≡ c.env
    pub seen : (c : Cursor) → (t c).after.seen ≡ c.seen

  pub bind : {A B : Type 0} {P : A → List ℕ → Type 0} {Q : B → List ℕ → Type 0} {w : List ℕ} {m : Low A} {k : A → Low B}
      → Scoped P w m → ((a : A) (x : List ℕ) → Sub w x → P a x → Scoped Q x (k a)) → Scoped Q w (m >>= k)
  bind {A} {B} {P} {Q} {w} {m} {k} p q = record {
    by = λ c s e h.
        let a = m c in
        let b = k a.result a.after in
        let r = p.by c s e (left a.pieces b.pieces h) in
        let t = (q a.result a.after.seen (λ v i. r.more v (s v i)) r.result).by a.after (λ v i. i) r.env (right a.pieces b.pieces h) in
        record {
          sound = on c.seen a.after.seen b.after.seen a.pieces b.pieces r.sound t.sound;
          more = λ v i. t.more v (r.more v i);
          env = t.env;
          result = t.result;
        };
  }

  -- a result that needs only what is seen
  pub gives : {A : Type 0} {P : A → List ℕ → Type 0} {w : List ℕ} (a : A) → ((x : List ℕ) → Sub w x → P a x) → Scoped P w (give a)
  gives a p = record { by = λ c s e h. record { sound = refl; more = λ v i. i; env = e; result = p c.seen s } }

  -- a result of what is given from the start
  pub gives_first : {A : Type 0} {P : A → List ℕ → Type 0} (a : A) → ((x : List ℕ) → Sub f.given x → P a x) → Scoped P [] (give a)
  gives_first a p = record { by = λ c s e h. record { sound = refl; more = λ v i. i; env = e; result = p c.seen (given_in f.given f.regs c.env c.seen e.values) } }

  -- what holds where less is seen
  pub lift : {A : Type 0} {P : A → List ℕ → Type 0} {m : Low A} (w : List ℕ) → Scoped P [] m → Scoped P w m
  lift w p = record { by = λ c s e h. p.by c (λ v i. absurd i) e h }

  pub emitted : {w : List ℕ} (code : Code) (uses : List ℕ) → AllIn uses w → Scoped OfValue w (emits code uses)
  emitted {w} code uses a = record {
    by = λ c s e h. record {
      sound = (up_all uses w c.seen s a, refl);
      more = λ v i. inr i;
      env = up_known (λ v i. inr i) e;
      result = inl refl;
    };
  }

  pub done : {w : List ℕ} (code : Code) (uses : List ℕ) → AllIn uses w → Scoped OfNone w (does code uses)
  done {w} code uses a = record { by = λ c s e h. record { sound = (up_all uses w c.seen s a, refl); more = λ v i. i; env = e; result = tt } }

  fetch_by : (o : Option ℕ) (c : Cursor) → Fetched o c.seen → Known c.env c.seen → Goes OfValue c (fetched o c)
  fetch_by (Some v) c i e = record { sound = refl; more = λ v i. i; env = e; result = i }
  fetch_by None c i e = (emitted {w = []} (Const 0) [] tt).by c (λ v i. absurd i) e tt

  pub variables : {w : List ℕ} (x : ℕ) → f.regs x ≡ true → Scoped OfValue w (variable x)
  variables x r = record { by = λ c s e h. fetch_by (slice_get c.env x) c (fetch_env f.given f.regs c.env c.seen x r e.values) e }

  pub becoming : {w : List ℕ} (x v : ℕ) → In v w → Scoped OfNone w (becomes x v)
  becoming x v i = record {
    by = λ c s e h. record {
      sound = refl;
      more = λ v i. i;
      env = record { values = set_env f.given f.regs c.env c.seen x v (s v i) e.values; long = set_long c.env x v ∙ e.long };
      result = tt;
    };
  }

  ---- Tests

  begun_by : (c : Cursor) (end : End) (q : ℕ) (ps : List Piece) (w : List ℕ) → Begins (ps ++ close c end (plain q w) ∷ []) → Ahead (suc c.block) 0 w
  begun_by c end q ps w h =
      let r = right ps (close c end (plain q w) ∷ []) h in
      opens f.start_at f.total (plain q w) r.0 r.1 refl (λ v i. i)

  pub f_value : {w : List ℕ} {x : Low ℕ} → Scoped OfValue w x → Leading w (fork_value x)
  f_value {w} {x} p = record {
    by = λ c y n q s e h y_in n_in.
        let a = x c in
        let last = close a.after (Nonzero a.result y n) (plain q c.seen) ∷ [] in
        let r = p.by c s e (left a.pieces [] (left (a.pieces ++ []) last h)) in
        on c.seen a.after.seen c.seen (a.pieces ++ []) last
        (on c.seen a.after.seen a.after.seen a.pieces [] r.sound refl)
        ((r.result, tt), (up r.more y_in, up r.more n_in), tt, refl);
    begun = λ c y n q h. begun_by (x c).after (Nonzero (x c).result y n) q ((x c).pieces ++ []) c.seen h;
    env = λ c. refl;
    seen = λ c. refl;
  }

  pub f_branch : {w : List ℕ} {x y : Low ℕ} (k : ℕ) → k < 14 → Scoped OfValue w x → ((a : ℕ) (v : List ℕ) → Sub w v → In a v → Scoped OfValue v y) → Leading w (fork_branch k x y)
  f_branch {w} {x} {y} k few p next = record {
    by = λ c yes no freq s e h y_in n_in.
        let a = x c in
        let b = y a.after in
        let last = close b.after (Branch k a.result b.result yes no) (plain freq c.seen) ∷ [] in
        let g = left (a.pieces ++ (b.pieces ++ [])) last h in
        let r = p.by c s e (left a.pieces (b.pieces ++ []) g) in
        let t = (next a.result a.after.seen (λ v i. r.more v (s v i)) r.result).by a.after (λ v i. i) r.env (left b.pieces [] (right a.pieces (b.pieces ++ []) g)) in
        let more : Sub c.seen b.after.seen = λ v i. t.more v (r.more v i) in
        on c.seen b.after.seen c.seen (a.pieces ++ (b.pieces ++ [])) last
        (on c.seen a.after.seen b.after.seen a.pieces (b.pieces ++ []) r.sound (on a.after.seen b.after.seen b.after.seen b.pieces [] t.sound refl))
        ((t.more a.result r.result, (t.result, tt)), (few, up more y_in, up more n_in), tt, refl);
    begun = λ c yes no freq h. begun_by (y (x c).after).after (Branch k (x c).result (y (x c).after).result yes no) freq ((x c).pieces ++ ((y (x c).after).pieces ++ [])) c.seen h;
    env = λ c. refl;
    seen = λ c. refl;
  }

  pub f_not : {w : List ℕ} {t : Test} → Leading w t → Leading w (fork_not t)
  f_not p = record { by = λ c y n q s e h y_in n_in. p.by c n y q s e h n_in y_in; begun = λ c y n q h. p.begun c n y q h; env = p.env; seen = p.seen }

  -- what is known where the test has led on
  sub_after : {w : List ℕ} {t : Test} → Leading w t → (c : Cursor) (x : List ℕ) → Sub x c.seen → Sub x (t c).after.seen
  sub_after {w} {t} p c x s = subst (λ a. Sub x a) (sym (p.seen c)) s

  known_after : {w : List ℕ} {t : Test} → Leading w t → (c : Cursor) → Known c.env c.seen → Known (t c).after.env (t c).after.seen
  known_after {w} {t} p c e = subst (λ a. Known a (t c).after.seen) (sym (p.env c)) (subst (λ b. Known c.env b) (sym (p.seen c)) e)

  follows_after : {w : List ℕ} {t : Test} {to k : ℕ} → Leading w t → (c : Cursor) → Ahead to k c.seen → Ahead to k (t c).after.seen
  follows_after p c o = seen_as (sym (p.seen c)) o

  two_tests : {w : List ℕ} {t u : Test} → Leading w t → Leading w u → (c : Cursor) (a b q y n r : ℕ) → Sub w c.seen → Known c.env c.seen → Begins ((t c).pieces a b q ++ (u (t c).after).pieces y n r)
      → Ahead a 0 c.seen → Ahead b 0 c.seen → Ahead y 0 c.seen → Ahead n 0 c.seen → Certified c.seen ((t c).pieces a b q ++ (u (t c).after).pieces y n r) (u (t c).after).after.seen
  two_tests {w} {t} {u} p g c a b q y n r s e h a_in b_in y_in n_in =
      let d = (t c).after in
      on c.seen d.seen (u d).after.seen ((t c).pieces a b q) ((u d).pieces y n r)
      (p.by c a b q s e (left ((t c).pieces a b q) ((u d).pieces y n r) h) a_in b_in)
      (g.by d y n r (sub_after p c w s) (known_after p c e) (right ((t c).pieces a b q) ((u d).pieces y n r) h) (follows_after p c y_in) (follows_after p c n_in))

  pub f_and : {w : List ℕ} {t u : Test} → Leading w t → Leading w u → Leading w (fork_and t u)
  f_and {w} {t} {u} p g = record {
    by = λ c y n q s e h y_in n_in.
        let d = (t c).after in
        two_tests p g c d.block n c.freq y n q s e h (p.begun c d.block n c.freq (left ((t c).pieces d.block n c.freq) ((u d).pieces y n q) h)) n_in y_in n_in;
    begun = λ c y n q h. let d = (t c).after in seen_as (p.seen c) (g.begun d y n q (right ((t c).pieces d.block n c.freq) ((u d).pieces y n q) h));
    env = λ c. g.env (t c).after ∙ p.env c;
    seen = λ c. g.seen (t c).after ∙ p.seen c;
  }

  pub f_or : {w : List ℕ} {t u : Test} → Leading w t → Leading w u → Leading w (fork_or t u)
  f_or {w} {t} {u} p g = record {
    by = λ c y n q s e h y_in n_in.
        let d = (t c).after in
        two_tests p g c y d.block c.freq y n q s e h y_in (p.begun c y d.block c.freq (left ((t c).pieces y d.block c.freq) ((u d).pieces y n q) h)) y_in n_in;
    begun = λ c y n q h. let d = (t c).after in seen_as (p.seen c) (g.begun d y n q (right ((t c).pieces y d.block c.freq) ((u d).pieces y n q) h));
    env = λ c. g.env (t c).after ∙ p.env c;
    seen = λ c. g.seen (t c).after ∙ p.seen c;
  }

  abbrev flag_rest : Cursor → Fork → List Piece
  flag_rest c x =
      let yes = at_freq x.after (half c.freq) in
      let one = const 1 yes in
      let no : Cursor = record (fresh one.after) { seen = x.after.seen } in
      let zero' = const 0 no in
      let v = zero'.after.values in
      one.pieces ++ (close one.after (Jump (suc no.block) (one.result ∷ [])) (plain no.freq no.seen)
      ∷ (zero'.pieces ++ (close zero'.after (Jump (suc no.block) (zero'.result ∷ [])) (record { params = v ∷ []; freq = c.freq; enter = None; seen = x.after.seen })
      ∷ [])))

  pub flags : {w : List ℕ} {t : Test} → Leading w t → Scoped OfValue w (flag t)
  flags {w} {t} p = record {
    by = λ c s e h.
        let x = t c in
        let yes = at_freq x.after (half c.freq) in
        let one = const 1 yes in
        let no : Cursor = record (fresh one.after) { seen = x.after.seen } in
        let zero' = const 0 no in
        let v = zero'.after.values in
        let start : Start = record { params = v ∷ []; freq = c.freq; enter = None; seen = x.after.seen } in
        let tests = x.pieces yes.block no.block yes.freq in
        let k = right tests (flag_rest c x) h in
        let h_t = left tests (flag_rest c x) h in
        let out : Ahead (suc no.block) 1 x.after.seen = opens f.start_at f.total start k.2.0 k.2.1 refl (λ v i. i) in
        record {
          sound = on c.seen x.after.seen (v ∷ x.after.seen) tests (flag_rest c x)
              (p.by c yes.block no.block yes.freq s e h_t (p.begun c yes.block no.block yes.freq h_t)
              (seen_as (p.seen c) (opens f.start_at f.total (plain no.freq no.seen) k.0 k.1 refl (λ v i. i)))) (
                tt,
                (
                  (inl refl, tt),
                  up (λ v i. inr i) out,
                  tt,
                  (tt, ((inl refl, tt), up (λ v i. inr i) out, tt, refl)),
                ),
              );
          more = λ u i. inr (sub_after p c c.seen (λ v i. i) u i);
          env = up_known (λ u i. inr i) (known_after p c e);
          result = inl refl;
        };
  }

  ---- Joins and what leads to them

  join_known : (mask : Mask) (c from : Cursor) (q : ℕ) → Known from.env from.seen → Known (join mask c from q).env (join mask c from q).seen
  join_known mask c from q e = record {
    values = merge_env f.given f.regs mask c.values from.env from.seen e.values (params mask c.values from.env ++ from.seen) (λ v i. i);
    long = merged_long mask c.values from.env ∙ e.long;
  }

  -- a join follows with the values of as many variables
  joins : (mask : Mask) (c from : Cursor) (q : ℕ) (enter : Option ℕ) (env w : List ℕ) → suc c.block < f.total → f.start_at (suc c.block) ≡ join_start mask c from q enter
      → length from.env ≡ f.size → length env ≡ f.size → Sub from.seen w → Ahead (suc c.block) (length (picked mask env)) w
  joins mask c from q enter env w l e m n s = opens f.start_at f.total (join_start mask c from q enter) l e (params_long mask c.values from.env env (m ∙ sym n)) s

  -- a block without parameters follows
  plains : (c : Cursor) (q : ℕ) (v w : List ℕ) → suc c.block < f.total → f.start_at (suc c.block) ≡ plain q v → Sub v w → Ahead (suc c.block) 0 w
  plains c q v w l e s = opens f.start_at f.total (plain q v) l e refl s

  abbrev choose_rest : Mask → Cursor → Fork → Deed → Deed → List Piece
  choose_rest mask c x g k =
      let one = g (at_freq x.after (half c.freq)) in
      let other : Cursor = record (fresh one.after) { freq = half c.freq; env = x.after.env; seen = x.after.seen } in
      let two = k other in
      let out = join mask two.after other c.freq in
      one.pieces ++ (close one.after (Jump out.block (picked mask one.after.env)) (plain other.freq other.seen)
      ∷ (two.pieces ++ (close two.after (Jump out.block (picked mask two.after.env)) (join_start mask two.after other c.freq None) ∷ [])))

  pub chooses : {w : List ℕ} {t : Test} {g k : Deed} (mask : Mask) → Masks mask f.regs → Leading w t → Scoped OfNone w g → Scoped OfNone w k → Scoped OfNone w (choose mask t g k)
  chooses {w} {t} {g} {k} mask m p q r = record {
    by = λ c s e h.
        let x = t c in
        let then = at_freq x.after (half c.freq) in
        let one = g then in
        let other : Cursor = record (fresh one.after) { freq = half c.freq; env = x.after.env; seen = x.after.seen } in
        let two = k other in
        let out = join mask two.after other c.freq in
        let tests = x.pieces x.after.block other.block (half c.freq) in
        let more = choose_rest mask c x g k in
        let last = close two.after (Jump out.block (picked mask two.after.env)) (join_start mask two.after other c.freq None) ∷ [] in
        let middle = close one.after (Jump out.block (picked mask one.after.env)) (plain other.freq other.seen) ∷ (two.pieces ++ last) in
        let h_t = left tests more h in
        let h_more = right tests more h in
        let h_middle = right one.pieces middle h_more in
        let h_last = right two.pieces last h_middle.2 in
        let s_x = sub_after p c w s in
        let e_x = known_after p c e in
        let a = q.by then s_x e_x (left one.pieces middle h_more) in
        let b = r.by other s_x e_x (left two.pieces last h_middle.2) in
        record {
          sound = on c.seen x.after.seen out.seen tests more
              (p.by c x.after.block other.block (half c.freq) s e h_t
              (p.begun c x.after.block other.block (half c.freq) h_t)
              (seen_as (p.seen c) (plains one.after other.freq other.seen x.after.seen h_middle.0 h_middle.1 (λ v i. i))))
              (on x.after.seen one.after.seen out.seen one.pieces middle a.sound (
                all_picked f.given f.regs mask one.after.env one.after.seen m a.env.values,
                joins mask two.after other c.freq None one.after.env one.after.seen h_last.0 h_last.1 e_x.long a.env.long a.more,
                tt,
                on x.after.seen two.after.seen out.seen two.pieces last b.sound (
                  all_picked f.given f.regs mask two.after.env two.after.seen m b.env.values,
                  joins mask two.after other c.freq None two.after.env two.after.seen h_last.0 h_last.1 e_x.long b.env.long b.more,
                  tt,
                  refl,
                ),
              ));
          more = λ v i. behind_all (params mask two.after.values other.env) x.after.seen v (sub_after p c c.seen (λ v i. i) v i);
          env = join_known mask two.after other c.freq e_x;
          result = tt;
        };
  }

  abbrev pub Both : List ℕ → Round → Type 0
  Both w r = Leading w r.test × Scoped OfNone w r.body

  -- the header, as each guard sees it: it follows with as many values as there are variables in the mask
  abbrev Heads : Mask → ℕ → List ℕ → Type 0
  Heads mask head w = (env : List ℕ) → length env ≡ f.size → Ahead head (length (picked mask env)) w

  goes_rounds : (w : List ℕ) (mask : Mask) → Masks mask f.regs → (head outside : ℕ) (rs : List Round) → Each (Both w) rs
      → (c : Cursor) → Sub w c.seen → Known c.env c.seen → Heads mask head c.seen → Begins (rounds mask head outside rs c).pieces → Goes OfNone c (rounds mask head outside rs c)
  goes_rounds w mask m head outside [] q c s e k h = record { sound = refl; more = λ v i. i; env = e; result = tt }
  goes_rounds w mask m head outside (r ∷ rs) q c s e k h =
      let t = r.test c in
      let then = at_freq t.after c.freq in
      let one = r.body then in
      let next : Cursor = record (fresh one.after) { freq = behind rs c.freq outside; env = t.after.env; seen = t.after.seen } in
      let more = rounds mask head outside rs next in
      let tests = t.pieces t.after.block next.block c.freq in
      let tail = close one.after (Jump head (picked mask one.after.env)) (plain next.freq next.seen) ∷ more.pieces in
      let h_t = left tests (one.pieces ++ tail) h in
      let h_more = right tests (one.pieces ++ tail) h in
      let h_tail = right one.pieces tail h_more in
      let p = q.0.0 in
      let s_t = sub_after p c w s in
      let e_t = known_after p c e in
      let k_t : Heads mask head t.after.seen = λ env n. follows_after p c (k env n) in
      let a = q.0.1.by then s_t e_t (left one.pieces tail h_more) in
      let b = goes_rounds w mask m head outside rs q.1 next s_t e_t k_t h_tail.2 in
      record {
        sound = on c.seen t.after.seen more.after.seen tests (one.pieces ++ tail)
            (p.by c t.after.block next.block c.freq s e h_t
            (p.begun c t.after.block next.block c.freq h_t)
            (seen_as (p.seen c) (plains one.after next.freq next.seen t.after.seen h_tail.0 h_tail.1 (λ v i. i))))
            (on t.after.seen one.after.seen more.after.seen one.pieces tail a.sound
            (all_picked f.given f.regs mask one.after.env one.after.seen m a.env.values, up a.more (k_t one.after.env a.env.long), tt, b.sound));
        more = λ v i. b.more v (sub_after p c c.seen (λ v i. i) v i);
        env = b.env;
        result = tt;
      }

  pub loops : {w : List ℕ} (mask : Mask) → Masks mask f.regs → (rs : List Round) → Each (Both w) rs → Scoped OfNone w (loop mask rs)
  loops {w} mask m rs q = record {
    by = λ c s e h.
        let head = join mask c c (often c.freq) in
        let ps = params mask c.values c.env in
        let follows : (env v : List ℕ) → length env ≡ f.size → Sub c.seen v → Ahead head.block (length (picked mask env)) v = λ env v n s. joins mask c c head.freq (Some c.block) env v h.0 h.1 e.long n s in
        let a = goes_rounds w mask m head.block c.freq rs q head (λ v i. behind_all ps c.seen v (s v i)) (join_known mask c c (often c.freq) e) (λ env n. follows env head.seen n (behind_all ps c.seen)) h.2 in
        let within = h.0 in
        record {
          sound = (all_picked f.given f.regs mask c.env c.seen m e.values, follows c.env c.seen e.long (λ v i. i), omega (arith, within), a.sound);
          more = λ v i. a.more v (behind_all ps c.seen v i);
          env = a.env;
          result = tt;
        };
  }

  pub repeats : {w : List ℕ} {g : Deed} {t : Test} (mask : Mask) → Masks mask f.regs → Scoped OfNone w g → Leading w t → Scoped OfNone w (repeat mask g t)
  repeats {w} {g} {t} mask m q l = record {
    by = λ c s e h.
        let head = join mask c c (often c.freq) in
        let one = g head in
        let x = t one.after in
        let back = at_freq x.after head.freq in
        let exit = at_freq (fresh back) c.freq in
        let ps = params mask c.values c.env in
        let tests = x.pieces exit.block back.block back.freq in
        let last = close back (Jump head.block (picked mask back.env)) (plain exit.freq exit.seen) ∷ [] in
        let h_more = right one.pieces (tests ++ last) h.2 in
        let h_t = left tests last h_more in
        let h_last = right tests last h_more in
        let follows : (env v : List ℕ) → length env ≡ f.size → Sub c.seen v → Ahead head.block (length (picked mask env)) v = λ env v n s. joins mask c c head.freq (Some c.block) env v h.0 h.1 e.long n s in
        let a = q.by head (λ v i. behind_all ps c.seen v (s v i)) (join_known mask c c (often c.freq) e) (left one.pieces (tests ++ last) h.2) in
        let e_x = known_after l one.after a.env in
        let within = h.0 in
        record {
          sound = (
            all_picked f.given f.regs mask c.env c.seen m e.values,
            follows c.env c.seen e.long (λ v i. i),
            omega (arith, within),
            on head.seen one.after.seen x.after.seen one.pieces (tests ++ last) a.sound
                (on one.after.seen x.after.seen x.after.seen tests last
                (l.by one.after exit.block back.block back.freq (λ v i. a.more v (behind_all ps c.seen v (s v i))) a.env h_t
                (seen_as (l.seen one.after) (plains back exit.freq exit.seen x.after.seen h_last.0 h_last.1 (λ v i. i)))
                (l.begun one.after exit.block back.block back.freq h_t)) (
                  all_picked f.given f.regs mask back.env x.after.seen m e_x.values,
                  follows back.env x.after.seen e_x.long (sub_after l one.after c.seen (λ v i. a.more v (behind_all ps c.seen v i))),
                  tt,
                  refl,
                )),
          );
          more = λ v i. sub_after l one.after one.after.seen (λ v i. i) v (a.more v (behind_all ps c.seen v i));
          env = e_x;
          result = tt;
        };
  }

  ---- CASE: its tests lead to its parts, and each of these sees what is seen before the tests

  -- a test of some part among so many
  abbrev pub Among : List ℕ → ℕ → Rung → Type 0
  Among w n r = Leading w r.test × (r.part < n)

  abbrev Parts : (to : ℕ → ℕ) (n : ℕ) → List ℕ → Type 0
  Parts to n w = (i : ℕ) → i < n → Ahead (to i) 0 w

  sound_ladder : (w : List ℕ) (n last : ℕ) (rs : List Rung) → Each (Among w n) rs → (to : ℕ → ℕ) (c : Cursor)
      → Sub w c.seen → Known c.env c.seen → Begins ((ladder last rs c).pieces to) → Parts to n c.seen → Certified c.seen ((ladder last rs c).pieces to) (ladder last rs c).after.seen
  sound_ladder w n last [] q to c s e h k = (tt, plains c last c.seen c.seen h.0 h.1 (λ v i. i), tt, refl)
  sound_ladder w n last (r ∷ []) q to c s e h k =
      let d = (r.test c).after in
      q.0.0.by c (to r.part) d.block last s e h (k r.part q.0.1) (q.0.0.begun c (to r.part) d.block last h)
  sound_ladder w n last (r ∷ x ∷ rs) q to c s e h k =
      let d = (r.test c).after in
      let tests = (r.test c).pieces (to r.part) d.block c.freq in
      let more = ladder last (x ∷ rs) d in
      let h_t = left tests (more.pieces to) h in
      on c.seen d.seen more.after.seen tests (more.pieces to)
      (q.0.0.by c (to r.part) d.block c.freq s e h_t (k r.part q.0.1) (q.0.0.begun c (to r.part) d.block c.freq h_t))
      (sound_ladder w n last (x ∷ rs) q.1 to d (sub_after q.0.0 c w s) (known_after q.0.0 c e) (right tests (more.pieces to) h) (λ i l. follows_after q.0.0 c (k i l)))

  ladder_seen : (w : List ℕ) (n last : ℕ) (rs : List Rung) → Each (Among w n) rs → (c : Cursor) → ((ladder last rs c).after.seen ≡ c.seen) × ((ladder last rs c).after.env ≡ c.env)
  ladder_seen w n last [] q c = (refl, refl)
  ladder_seen w n last (r ∷ []) q c = (q.0.0.seen c, q.0.0.env c)
  ladder_seen w n last (r ∷ x ∷ rs) q c = let m = ladder_seen w n last (x ∷ rs) q.1 (r.test c).after in (m.0 ∙ q.0.0.seen c, m.1 ∙ q.0.0.env c)

  -- an end that reads what is seen and leads on, once the join has its number
  abbrev Ends : (ℕ → End) → Mask → ℕ → List ℕ → Type 0
  Ends end mask out w = Heads mask out w → AllIn (end_uses (end out)) w × Leads f.start_at f.total w (end out)

  sound_limbs : (w : List ℕ) (mask : Mask) → Masks mask f.regs → (s : Cursor) (bodies : List Deed) → Each (λ (b : Deed). Scoped OfNone w b) bodies → (c : Cursor) (end : ℕ → End) (out : ℕ)
      → Sub w s.seen → Known s.env s.seen → Sub s.seen c.seen → Ends end mask out c.seen → Heads mask out s.seen → Begins ((limbs mask s bodies c end).pieces out)
      → Certified c.seen ((limbs mask s bodies c end).pieces out) (limbs mask s bodies c end).after.seen
  sound_limbs w mask m s [] q c end out i e k n v h = let r = n (λ env l. up k (v env l)) in (r.0, r.1, tt, refl)
  sound_limbs w mask m s (body ∷ bodies) q c end out i e k n v h =
      let start : Cursor = record (fresh c) { freq = half s.freq; env = s.env; seen = s.seen } in
      let one = body start in
      let next : ℕ → End = λ to. Jump to (picked mask one.after.env) in
      let more = limbs mask s bodies one.after next in
      let a = q.0.by start i e (left one.pieces (more.pieces out) h.2) in
      let p = all_picked f.given f.regs mask one.after.env one.after.seen m a.env.values in
      let r = n (λ env l. up k (v env l)) in (
        r.0,
        r.1,
        tt,
        on s.seen one.after.seen more.after.seen one.pieces (more.pieces out) a.sound
            (sound_limbs w mask m s bodies q.1 one.after next out i e a.more (λ heads. (p, heads one.after.env a.env.long)) v (right one.pieces (more.pieces out) h.2)),
      )

  -- the join begins behind the pieces
  limbs_begun : (mask : Mask) (s : Cursor) (bodies : List Deed) (c : Cursor) (end : ℕ → End) (out : ℕ) → length s.env ≡ f.size → Begins ((limbs mask s bodies c end).pieces out) → Heads mask (limbs mask s bodies c end).after.block s.seen
  limbs_begun mask s [] c end out n h = λ env l. joins mask c s s.freq None env s.seen h.0 h.1 n l (λ v i. i)
  limbs_begun mask s (body ∷ bodies) c end out n h =
      let start : Cursor = record (fresh c) { freq = half s.freq; env = s.env; seen = s.seen } in
      let one = body start in
      let next : ℕ → End = λ to. Jump to (picked mask one.after.env) in
      limbs_begun mask s bodies one.after next out n (right one.pieces ((limbs mask s bodies one.after next).pieces out) h.2)

  limbs_after : (mask : Mask) (s : Cursor) (bodies : List Deed) (c : Cursor) (end : ℕ → End) → Known s.env s.seen
      → Sub s.seen (limbs mask s bodies c end).after.seen × Known (limbs mask s bodies c end).after.env (limbs mask s bodies c end).after.seen
  limbs_after mask s [] c end e = (behind_all (params mask c.values s.env) s.seen, join_known mask c s s.freq e)
  limbs_after mask s (body ∷ bodies) c end e =
      let start : Cursor = record (fresh c) { freq = half s.freq; env = s.env; seen = s.seen } in
      let one = body start in
      limbs_after mask s bodies one.after (λ to. Jump to (picked mask one.after.env)) e

  before_by : (b : ℕ) (starts : ℕ → ℕ) (n : ℕ) (w : List ℕ) → Ahead b 0 w → Parts starts n w → Parts (before b starts) (suc n) w
  before_by b starts n w p q zero l = p
  before_by b starts n w p q (suc i) l = q i (omega (arith, l))

  limbs_starts : (mask : Mask) (s : Cursor) (bodies : List Deed) (c : Cursor) (end : ℕ → End) (out : ℕ) → Begins ((limbs mask s bodies c end).pieces out) → Parts (limbs mask s bodies c end).starts (length bodies) s.seen
  limbs_starts mask s [] c end out h i l = absurd (omega (arith, l))
  limbs_starts mask s (body ∷ bodies) c end out h i l =
      let start : Cursor = record (fresh c) { freq = half s.freq; env = s.env; seen = s.seen } in
      let one = body start in
      let next : ℕ → End = λ to. Jump to (picked mask one.after.env) in
      let more = limbs mask s bodies one.after next in
      before_by start.block more.starts (length bodies) s.seen (plains c start.freq s.seen s.seen h.0 h.1 (λ v j. j)) (limbs_starts mask s bodies one.after next out (right one.pieces (more.pieces out) h.2)) i l

  -- how a CASE without a match goes on: nothing is read but what the jump takes, and it leads to the join alone
  abbrev pub Quiet : (ℕ → List ℕ → End) → Type 0
  Quiet unmatched = (args w : List ℕ) (out : ℕ) → AllIn args w → Ahead out (length args) w → AllIn (end_uses (unmatched out args)) w × Leads f.start_at f.total w (unmatched out args)

  pub cases : {w : List ℕ} (mask : Mask) → Masks mask f.regs → (rungs : List Rung) (bodies : List Deed) (unmatched : ℕ → List ℕ → End) → Quiet unmatched
      → Each (Among w (length bodies)) rungs → Each (λ (b : Deed). Scoped OfNone w b) bodies → Scoped OfNone w (case mask rungs bodies unmatched)
  cases {w} mask m rungs bodies unmatched u p q = record {
    by = λ c s e h.
        let t = ladder (half c.freq) rungs c in
        let end : ℕ → End = λ out. unmatched out (picked mask c.env) in
        let a = limbs mask c bodies t.after end in
        let out = a.after.block in
        let l = ladder_seen w (length bodies) (half c.freq) rungs p c in
        let h_t = left (t.pieces a.starts) (a.pieces out) h in
        let h_a = right (t.pieces a.starts) (a.pieces out) h in
        let same : Sub c.seen t.after.seen = subst (λ z. Sub c.seen z) (sym l.0) (λ v i. i) in
        let z = limbs_after mask c bodies t.after end e in
        record {
          sound = on c.seen t.after.seen a.after.seen (t.pieces a.starts) (a.pieces out)
              (sound_ladder w (length bodies) (half c.freq) rungs p a.starts c s e h_t (limbs_starts mask c bodies t.after end out h_a))
              (sound_limbs w mask m c bodies q t.after end out s e same
              (λ heads. u (picked mask c.env) t.after.seen out (up_all (picked mask c.env) c.seen t.after.seen same (all_picked f.given f.regs mask c.env c.seen m e.values)) (heads c.env e.long))
              (limbs_begun mask c bodies t.after end out e.long h_a) h_a);
          more = z.0;
          env = z.1;
          result = tt;
        };
  }
