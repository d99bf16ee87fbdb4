-- How parts are put together, as the definitions put them together.
use Rattle.std.proofs.Common.{◌≡◌, ℕ, suc, nat_le, Ok, Err, IfOk, Result, List, [], ◌∷◌, ◌++◌, Option, Some, None, Bool, true, false, refl, sym, ap, ap₂, ◌∙◌, subst, arith, append_assoc, slice_get, if◌then◌else◌, option_to_list}
use Rattle.block_runs.specs.declared.code.Code.TheVariants.{Const}
use Rattle.size_limits.specs.Limits.{most_blocks}
use Rattle.ssa_lowered.specs.Pieces.{Made, Low, give, ◌>>=◌, emits, fetched, variable, Appends, Closes}
use Rattle.ssa_lowered.specs.Pieces.{Piece as Placed}
use Rattle.ssa_lowered.specs.Limits.{passed, too_many}
use Rattle.ssa_exprs.specs.declared.making.Piece.{Piece}
use Rattle.ssa_exprs.specs.Making.{View, bare, all_bare, resolve, resolved, Fits, later, cursor_at, Came, Follows, Once, Gives}

pub bare_on : (xs ys : List Placed) → all_bare (xs ++ ys) ≡ all_bare xs ++ all_bare ys
bare_on [] ys = refl
bare_on (x ∷ xs) ys = ap (λ zs. bare x ∷ zs) (bare_on xs ys)

pub append_nil : {X : Type 0} (xs : List X) → xs ++ [] ≡ xs
append_nil [] = refl
append_nil (x ∷ xs) = ap (λ ys. x ∷ ys) (append_nil xs)

pub resolved_on : (place : ℕ → ℕ) (xs ys : List Piece) → resolved place (xs ++ ys) ≡ resolved place xs ++ resolved place ys
resolved_on place [] ys = refl
resolved_on place (x ∷ xs) ys = ap (λ l. resolve place x ∷ l) (resolved_on place xs ys)

---- Limits

pub later_none : (o : Option ℕ) → later o None ≡ o
later_none None = refl
later_none (Some n) = refl

pub later_first : (a b : Option ℕ) → later a b ≡ None → a ≡ None
later_first None b e = refl
later_first (Some n) b e = absurd (cc)

later_if : (b : Bool) (n : ℕ) (p q r : Option ℕ) → p ≡ later q r → (if b then Some n else p) ≡ later (if b then Some n else q) r
later_if true n p q r e = refl
later_if false n p q r e = e

pub passed_on : (xs ys : List Placed) → passed (xs ++ ys) ≡ later (passed xs) (passed ys)
passed_on [] ys = refl
passed_on (Appends b i op ∷ xs) ys = later_if (too_many (option_to_list op.def)) 50 _ _ _ (passed_on xs ys)
passed_on (Closes b i end s ∷ xs) ys = later_if (nat_le most_blocks (suc b)) 51 _ _ _ (later_if (too_many s.params) 50 _ _ _ (passed_on xs ys))

pub limit_on : {b c q : Option ℕ} (a p r : Option ℕ) → b ≡ later a p → c ≡ later b q → (b ≡ None → r ≡ q) → c ≡ later a (later p r)
limit_on {q = q} (Some n) p r x y h = y ∙ ap (λ o. later o q) x
limit_on {q = q} None (Some n) r x y h = y ∙ ap (λ o. later o q) x
limit_on {q = q} None None r x y h = y ∙ ap (λ o. later o q) x ∙ sym (h x)

---- Parts

-- what is made at one cursor is made at an equal one
pub came_as : {A : Type 0} {v w : View} {place : ℕ → ℕ} {m n : Made A} {r : A} → n ≡ m → Came v w place m r → Came v w place n r
came_as {v = v} {w = w} {place = place} {r = r} e d = subst (λ x. Came v w place x r) (sym e) d

pub came_on : {A B : Type 0} {u v w : View} {place : ℕ → ℕ} {k : Made A} {l : Made B} {a : A} {b : B} → Came u v place k a → Came v w place l b → Came u w place (record { pieces = k.pieces ++ l.pieces; result = l.result; after = l.after }) b
came_on {u = u} {place = place} {k = k} {l = l} x y = record {
  adds =
      y.adds
      ∙ ap (λ z. z ++ all_bare l.pieces) x.adds
      ∙ append_assoc (resolved place u.made) (all_bare k.pieces) (all_bare l.pieces)
      ∙ ap (λ z. resolved place u.made ++ z) (sym (bare_on k.pieces l.pieces));
  after = y.after;
  result = y.result;
}

-- nothing was made
pub follows_give : {A : Type 0} (v : View) (a : (ℕ → ℕ) → A) → Follows v v (λ place. give (a place)) a
follows_give v a = record {
  fits = λ place f. f;
  limit = λ place f op seen. sym (later_none v.over);
  by = λ e place f op seen. record { adds = sym (append_nil (resolved place v.made)); after = refl; result = refl };
}

-- where a limit is passed, nothing is made any more
pub follows_over : {A : Type 0} (v : View) (n : ℕ) (m : (ℕ → ℕ) → Low A) (r : (ℕ → ℕ) → A) → v.over ≡ Some n → Follows v v m r
follows_over v n m r e = record {
  fits = λ place f. f;
  limit = λ place f op seen. e ∙ ap (λ o. later o (passed (m place (cursor_at v op seen)).pieces)) (sym e);
  by = λ h place f op seen. absurd (cc);
}

-- and what was said to be made doesn't matter
pub follows_any : {A B : Type 0} {v w : View} (n : ℕ) (m : (ℕ → ℕ) → Low A) (k : (ℕ → ℕ) → Low B) (r : (ℕ → ℕ) → A) (q : (ℕ → ℕ) → B) → v.over ≡ Some n → Follows v w m r → Follows v w k q
follows_any {v = v} {w = w} n m k r q e x =
    let over : (place : ℕ → ℕ) → Fits place w.bounds → (op : ℕ) (seen : List ℕ) → w.over ≡ Some n = λ place f op seen. x.limit place f op seen ∙ ap (λ o. later o (passed (m place (cursor_at v op seen)).pieces)) e in
    record {
      fits = x.fits;
      limit = λ place f op seen. over place f op seen ∙ sym (ap (λ o. later o (passed (k place (cursor_at v op seen)).pieces)) e);
      by = λ h place f op seen. absurd (let some = over place f op seen in cc);
    }

pub follows_bind : {A B : Type 0} {u v w : View} {m : (ℕ → ℕ) → Low A} {a : (ℕ → ℕ) → A} {b : (ℕ → ℕ) → B} (f : (ℕ → ℕ) → A → Low B) → Follows u v m a → Follows v w (λ place. f place (a place)) b → Follows u w (λ place. m place >>= f place) b
follows_bind {A = A} {B = B} {u = u} {v = v} {w = w} {m = m} {a = a} {b = b} f x y =
    let same : v.over ≡ None → (place : ℕ → ℕ) → Fits place w.bounds → (op : ℕ) (seen : List ℕ) → f place (m place (cursor_at u op seen)).result (m place (cursor_at u op seen)).after ≡ f place (a place) (cursor_at v (m place (cursor_at u op seen)).after.op (m place (cursor_at u op seen)).after.seen) =
    λ e place h op seen. let one = x.by e place (y.fits place h) op seen in ap₂ (λ r z. f place r z) one.result one.after in
    record {
      fits = λ place h. x.fits place (y.fits place h);
      limit = λ place h op seen.
          let k = m place (cursor_at u op seen) in
          limit_on u.over (passed k.pieces) (passed (f place k.result k.after).pieces) (x.limit place (y.fits place h) op seen) (y.limit place h k.after.op k.after.seen) (λ e. ap (λ (z : Made B). passed z.pieces) (same e place h op seen))
          ∙ ap (λ o. later u.over o) (sym (passed_on k.pieces (f place k.result k.after).pieces));
      by = λ e place h op seen.
          let k = m place (cursor_at u op seen) in
          let before : v.over ≡ None = later_first v.over _ (sym (y.limit place h k.after.op k.after.seen) ∙ e) in
          came_on (x.by before place (y.fits place h) op seen) (came_as (same before place h op seen) (y.by e place h k.after.op k.after.seen));
    }

-- by another definition of the same
pub follows_as : {A : Type 0} {v w : View} {m n : (ℕ → ℕ) → Low A} {r : (ℕ → ℕ) → A} → ((place : ℕ → ℕ) (op : ℕ) (seen : List ℕ) → n place (cursor_at v op seen) ≡ m place (cursor_at v op seen)) → Follows v w m r → Follows v w n r
follows_as {A = A} {v = v} e x = record {
  fits = x.fits;
  limit = λ place f op seen. x.limit place f op seen ∙ ap (λ (k : Made A). later v.over (passed k.pieces)) (sym (e place op seen));
  by = λ h place f op seen. came_as (e place op seen) (x.by h place f op seen);
}

pub once_none : (v : View) → Once v v
once_none v = record { by = λ t. omega arith }

pub once_on : {u v w : View} → Once u v → Once v w → Once u w
once_on x y = record { by = λ t. let a = x.by t in let b = y.by t in omega (arith, a, b) }

pub gives_give : {A : Type 0} (v : View) (a : A) → Gives v v (give a) a
gives_give v a = record { follows = follows_give v (λ _. a); once = once_none v; freq = refl; known = refl }

pub gives_bind : {A B : Type 0} {u v w : View} {m : Low A} {a : A} {b : B} (f : A → Low B) → Gives u v m a → Gives v w (f a) b → Gives u w (m >>= f) b
gives_bind f x y = record {
  follows = follows_bind (λ _. f) x.follows y.follows;
  once = once_on x.once y.once;
  freq = y.freq ∙ x.freq;
  known = y.known ∙ x.known;
}

-- by another definition of the same
pub gives_as : {A : Type 0} {v w : View} {m n : Low A} {r : A} → n ≡ m → Gives v w m r → Gives v w n r
gives_as {v = v} {w = w} {r = r} e g = subst (λ x. Gives v w x r) (sym e) g

pub gives_at : {A : Type 0} {v w : View} {m n : Low A} {r : A} → ((op : ℕ) (seen : List ℕ) → n (cursor_at v op seen) ≡ m (cursor_at v op seen)) → Gives v w m r → Gives v w n r
gives_at e g = record { follows = follows_as (λ place op seen. e op seen) g.follows; once = g.once; freq = g.freq; known = g.known }

-- where the last part answers for the whole
pub gives_last : {A B E : Type 0} {u v : View} {m : Low A} {a : A} (w : View) (r : Result B E) (f : A → Low B) → Gives u v m a → IfOk r (λ b. Gives v w (f a) b) → IfOk r (λ b. Gives u w (m >>= f) b)
gives_last w (Ok b) f x y = gives_bind f x y
gives_last w (Err e) f x y = tt

pub gives_last_as : {A E : Type 0} {m n : Low A} (v w : View) (r : Result A E) → n ≡ m → IfOk r (λ b. Gives v w m b) → IfOk r (λ b. Gives v w n b)
gives_last_as v w (Ok b) e g = gives_as e g
gives_last_as v w (Err x) e g = tt

-- a register variable that is there, and one that isn't
pub gives_variable : (v : View) (x u : ℕ) → slice_get v.known.env x ≡ Some u → Gives v v (variable x) u
gives_variable v x u is = gives_at (λ op seen. ap (λ o. fetched o (cursor_at v op seen)) is) (gives_give v u)

pub gives_no_variable : {E : Type 0} (v w : View) (x : ℕ) (r : Result ℕ E) → slice_get v.known.env x ≡ None → IfOk r (λ u. Gives v w (emits (Const 0) []) u) → IfOk r (λ u. Gives v w (variable x) u)
gives_no_variable v w x (Ok u) is g = gives_at (λ op seen. ap (λ o. fetched o (cursor_at v op seen)) is) g
gives_no_variable v w x (Err e) is g = tt
