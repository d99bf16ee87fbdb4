-- How conditions are put together.
use Rattle.std.proofs.Common.{◌≡◌, ℕ, zero, suc, ◌+◌, List, [], ◌∷◌, ◌++◌, Option, None, refl, sym, ap, ap₂, ◌∙◌, subst, arith, append_assoc}
use Rattle.block_runs.specs.declared.end.End.{End}
use Rattle.block_runs.specs.declared.end.End.TheVariants.{Branch, Nonzero}
use Rattle.ssa_lowered.specs.Pieces.{Cursor, Made, Low, give, ◌>>=◌, close, fresh, plain, numbers}
use Rattle.ssa_lowered.specs.Pieces.{Piece as Placed}
use Rattle.ssa_lowered.specs.Limits.{passed}
use Rattle.ssa_lowered.specs.Control.{Fork, Test, fork, fork_value, fork_branch, fork_not, fork_and, fork_or}
use Rattle.ssa_exprs.specs.declared.making.Piece.TheVariants.{Ends}
use Rattle.ssa_exprs.specs.declared.making.Bound.{Bound}
use Rattle.ssa_exprs.specs.Making.{View, Known, all_bare, resolve_end, resolved, Fits, times, same, given, later, cursor_at, Came, Follows, Once, Gives, asked, bound, begins, within, closed, as_part, Blind, Tests}
use Rattle.ssa_exprs.proofs.Giving.{append_nil, bare_on, resolved_on, later_none, later_first, limit_on, passed_on, follows_as, came_as, gives_give, gives_bind}

---- Labels

fits_first : (place : ℕ → ℕ) (xs : List Bound) (x : Bound) → Fits place (xs ++ x ∷ []) → Fits place xs
fits_first place [] x f = tt
fits_first place (y ∷ xs) x f = (f.0, fits_first place xs x f.1)

fits_last : (place : ℕ → ℕ) (xs : List Bound) (x : Bound) → Fits place (xs ++ x ∷ []) → place x.label ≡ x.block
fits_last place [] x f = f.0
fits_last place (y ∷ xs) x f = fits_last place xs x f.1

times_last : (xs : List Bound) (x : Bound) (t : ℕ) → times (xs ++ x ∷ []) t ≡ times xs t + same x.label t
times_last [] x t = omega arith
times_last (y ∷ xs) x t = let e = times_last xs x t in omega (arith, e)

-- one more label is given out
pub given_more : (n t : ℕ) → given (suc n) t ≡ given n t + same n t
given_more zero zero = refl
given_more zero (suc t) = refl
given_more (suc n) zero = refl
given_more (suc n) (suc t) = given_more n t

pub fits_bound : (v : View) (t : ℕ) (place : ℕ → ℕ) → Fits place (bound v t).bounds → Fits place v.bounds
fits_bound v t place f = fits_first place v.bounds _ f

pub place_bound : (v : View) (t : ℕ) (place : ℕ → ℕ) → Fits place (bound v t).bounds → place t ≡ v.block
place_bound v t place f = fits_last place v.bounds (record { label = t; block = v.block }) f

pub times_bound : (v : View) (l t : ℕ) → times (bound v l).bounds t ≡ times v.bounds t + same l t
times_bound v l t = times_last v.bounds (record { label = l; block = v.block }) t

-- the number of the open block
abbrev pub mark : Low ℕ
mark c = record { pieces = []; result = c.block; after = c }

-- a label gets the open block
pub follows_bound : (v : View) (t : ℕ) → Follows v (bound v t) (λ _. mark) (λ place. place t)
follows_bound v t = record {
  fits = fits_bound v t;
  limit = λ place f op seen. sym (later_none v.over);
  by = λ e place f op seen. record { adds = sym (append_nil (resolved place v.made)); after = refl; result = sym (place_bound v t place f) };
}

---- The open block is closed

-- pieces were made
pub record Adding (v w : View) (place : ℕ → ℕ) (xs : List Placed) : Type 0 where
  pub is : resolved place w.made ≡ resolved place v.made ++ all_bare xs

pub adding_on : {u v w : View} {place : ℕ → ℕ} {xs ys : List Placed} → Adding u v place xs → Adding v w place ys → Adding u w place (xs ++ ys)
adding_on {u = u} {place = place} {xs = xs} {ys = ys} x y = record {
  is = y.is ∙ ap (λ z. z ++ all_bare ys) x.is ∙ append_assoc (resolved place u.made) (all_bare xs) (all_bare ys) ∙ ap (λ z. resolved place u.made ++ z) (sym (bare_on xs ys));
}

pub adding_of : {A : Type 0} {v w : View} {place : ℕ → ℕ} {k : Made A} {r : A} → Came v w place k r → Adding v w place k.pieces
adding_of x = record { is = x.adds }

pub adding_as : {v w : View} {place : ℕ → ℕ} {xs ys : List Placed} → ys ≡ xs → Adding v w place xs → Adding v w place ys
adding_as {v = v} {w = w} {place = place} e x = subst (λ z. Adding v w place z) (sym e) x

pub closed_before : (v : View) (end : End) (count freq : ℕ) (enter : Option ℕ) → (closed v end count freq enter).over ≡ None → v.over ≡ None
closed_before v end count freq enter h = later_first v.over (begins v.block (numbers v.values count)) h

-- by an end, which names labels; the next block begins so
pub adding_closed : (v : View) (end : End) (count freq : ℕ) (enter : Option ℕ) (place : ℕ → ℕ) (placed : End) (c : Cursor) (seen : List ℕ) → (closed v end count freq enter).over ≡ None → resolve_end place end ≡ placed
    → Adding v (closed v end count freq enter) place (close c placed (record { params = numbers v.values count; freq = freq; enter = enter; seen = seen }) ∷ [])
adding_closed v end count freq enter place placed c seen e same_end = record {
  is = ap (λ o. resolved place (within o (v.made ++ Ends end (numbers v.values count) freq enter ∷ []) v.made)) e
      ∙ resolved_on place v.made (Ends end (numbers v.values count) freq enter ∷ [])
      ∙ ap (λ k. resolved place v.made ++ Ends k (numbers v.values count) freq enter ∷ []) same_end;
}

pub at_closed : (v : View) (end : End) (count freq : ℕ) (enter : Option ℕ) (op : ℕ) (seen : List ℕ) → (closed v end count freq enter).over ≡ None
    → cursor_at (closed v end count freq enter) op seen ≡ record { block = suc v.block; op = op; freq = freq; values = v.values + count; env = v.known.env; seen = seen }
at_closed v end count freq enter op seen h =
    ap (λ o. record { block = within o (suc v.block) v.block; op = op; freq = freq; values = within o (v.values + count) v.values; env = v.known.env; seen = seen }) h

pub at_plain : (v : View) (end : End) (freq : ℕ) (enter : Option ℕ) (op : ℕ) (seen : List ℕ) → (closed v end 0 freq enter).over ≡ None
    → cursor_at (closed v end 0 freq enter) op seen ≡ record { block = suc v.block; op = op; freq = freq; values = v.values; env = v.known.env; seen = seen }
at_plain v end freq enter op seen h =
    let zero_more : v.values + 0 ≡ v.values = omega arith in
    at_closed v end 0 freq enter op seen h ∙ ap (λ n. record { block = suc v.block; op = op; freq = freq; values = n; env = v.known.env; seen = seen }) zero_more

---- Conditions

-- values, and an end that reads them
pub tests_fork : {v u : View} {m : Low (ℕ → ℕ → End)} {e : ℕ → ℕ → End} (yes_to no_to next : ℕ) → Gives v u m e → ((place : ℕ → ℕ) → resolve_end place (e yes_to no_to) ≡ e (place yes_to) (place no_to))
    → Tests v (closed u (e yes_to no_to) 0 next None) (fork m) yes_to no_to next
tests_fork {v = v} {u = u} {m = m} {e = e} yes_to no_to next g same_end =
    let w = closed u (e yes_to no_to) 0 next None in
    let before : w.over ≡ None → u.over ≡ None = λ h. closed_before u (e yes_to no_to) 0 next None h in
    record {
      follows = record {
        fits = g.follows.fits;
        limit = λ place f op seen.
            let a = m (cursor_at v op seen) in
            limit_on v.over (passed a.pieces) (begins a.after.block []) (g.follows.limit place f op seen) refl (λ h. ap (λ (c : Cursor). begins c.block []) (g.follows.by h place f op seen).after)
            ∙ ap (λ o. later v.over o) (sym (passed_on a.pieces (close a.after (a.result (place yes_to) (place no_to)) (plain next seen) ∷ [])));
        by = λ h place f op seen.
            let a = m (cursor_at v op seen) in
            let one = g.follows.by (before h) place f op seen in
            let ended : Adding u w place (close a.after (e (place yes_to) (place no_to)) (plain next seen) ∷ []) = adding_closed u (e yes_to no_to) 0 next None place (e (place yes_to) (place no_to)) a.after seen h (same_end place) in
            let all = adding_on (adding_of one) ended in
            record {
              adds = all.is ∙ ap (λ (q : ℕ → ℕ → End). resolved place v.made ++ all_bare (a.pieces ++ (close a.after (q (place yes_to) (place no_to)) (plain next seen) ∷ []))) (sym one.result);
              after =
                  ap (λ (x : Cursor). record (fresh x) { env = v.known.env; seen = seen; freq = next }) one.after
                  ∙ ap (λ (k : Known). record { block = suc u.block; op = 0; freq = next; values = u.values; env = k.env; seen = seen }) (sym g.known)
                  ∙ sym (at_plain u (e yes_to no_to) next None 0 seen h);
              result = refl;
            };
      };
      once = record { by = g.once.by };
      blind = record { by = λ c a b q d s z. passed_on (m c).pieces (close (m c).after ((m c).result a b) (plain q c.seen) ∷ []) ∙ sym (passed_on (m c).pieces (close (m c).after ((m c).result d s) (plain z c.seen) ∷ [])) };
      same = λ h place f op seen. ap (λ (x : Cursor). x.freq) (g.follows.by (before h) place f op seen).after ∙ g.freq;
      freq = refl;
      known = g.known;
    }

pub tests_value : {v u : View} {x : Low ℕ} {a : ℕ} (yes_to no_to next : ℕ) → Gives v u x a → Tests v (closed u (Nonzero a yes_to no_to) 0 next None) (fork_value x) yes_to no_to next
tests_value {a = a} yes_to no_to next g = tests_fork yes_to no_to next (gives_bind (λ a. give (λ y n. Nonzero a y n)) g (gives_give _ (λ y n. Nonzero a y n))) (λ place. refl)

pub tests_branch : {v w u : View} {x y : Low ℕ} {a b : ℕ} (k yes_to no_to next : ℕ) → Gives v w x a → Gives w u y b → Tests v (closed u (Branch k a b yes_to no_to) 0 next None) (fork_branch k x y) yes_to no_to next
tests_branch {y = y} {a = a} {b = b} k yes_to no_to next g h =
    tests_fork yes_to no_to next (gives_bind (λ a. y >>= λ b. give (λ s t. Branch k a b s t)) g (gives_bind (λ b. give (λ s t. Branch k a b s t)) h (gives_give _ (λ s t. Branch k a b s t)))) (λ place. refl)

pub tests_not : {v w : View} {t : Test} {yes_to no_to next : ℕ} → Tests v w t no_to yes_to next → Tests v w (fork_not t) yes_to no_to next
tests_not {v = v} {w = w} {t = t} {yes_to = yes_to} {no_to = no_to} {next = next} x = record {
  follows = follows_as {m = λ place. as_part t (place no_to) (place yes_to) next} (λ place op seen. refl) x.follows;
  once = x.once;
  blind = record { by = λ c a b q d e z. x.blind.by c b a q e d z };
  same = x.same;
  freq = x.freq;
  known = x.known;
}

pub tests_as : {v w : View} {t s : Test} {yes_to no_to next : ℕ} → s ≡ t → Tests v w t yes_to no_to next → Tests v w s yes_to no_to next
tests_as {v = v} {w = w} {yes_to = yes_to} {no_to = no_to} {next = next} e x = subst (λ t. Tests v w t yes_to no_to next) (sym e) x

blind_two : (f g : Test) → Blind f → Blind g → (c : Cursor) (a b p d e q a2 b2 p2 d2 e2 q2 : ℕ)
    → passed ((f c).pieces a b p ++ (g (f c).after).pieces d e q) ≡ passed ((f c).pieces a2 b2 p2 ++ (g (f c).after).pieces d2 e2 q2)
blind_two f g x y c a b p d e q a2 b2 p2 d2 e2 q2 =
    passed_on ((f c).pieces a b p) _ ∙ ap₂ later (x.by c a b p a2 b2 p2) (y.by (f c).after d e q d2 e2 q2) ∙ sym (passed_on ((f c).pieces a2 b2 p2) _)

-- a condition and then another one, from the label that the first one leads to
module _ {v u w : View} {f g : Test} {y1 n1 y2 n2 next : ℕ} (x : Tests (asked v) u f y1 n1 v.freq) (y : Tests (bound u v.labels) w g y2 n2 next) where
  fits_before : (place : ℕ → ℕ) → Fits place w.bounds → Fits place u.bounds
  fits_before place i = fits_bound u v.labels place (y.follows.fits place i)

  abbrev one_at : ℕ → List ℕ → Fork
  one_at op seen = f (cursor_at v op seen)

  behind_one : u.over ≡ None → (place : ℕ → ℕ) → Fits place w.bounds → (op : ℕ) (seen : List ℕ) → (one_at op seen).after ≡ cursor_at (bound u v.labels) (one_at op seen).after.op (one_at op seen).after.seen
  behind_one h place i op seen =
      ap (λ n. record (one_at op seen).after { freq = n }) (x.same h place (fits_before place i) op seen)
      ∙ (x.follows.by h place (fits_before place i) op seen).after

  two_before : w.over ≡ None → (place : ℕ → ℕ) → Fits place w.bounds → u.over ≡ None
  two_before h place i = later_first u.over _ (sym (y.follows.limit place i 0 []) ∙ h)

  pub middle : w.over ≡ None → (place : ℕ → ℕ) → Fits place w.bounds → (op : ℕ) (seen : List ℕ) → place v.labels ≡ (one_at op seen).after.block
  middle h place i op seen = place_bound u v.labels place (y.follows.fits place i) ∙ sym (ap (λ (z : Cursor). z.block) (behind_one (two_before h place i) place i op seen))

  second : w.over ≡ None → (place : ℕ → ℕ) → Fits place w.bounds → (op : ℕ) (seen : List ℕ) → Came (bound u v.labels) w place (as_part g (place y2) (place n2) next (one_at op seen).after) tt
  second h place i op seen =
      came_as (ap (as_part g (place y2) (place n2) next) (behind_one (two_before h place i) place i op seen)) (y.follows.by h place i (one_at op seen).after.op (one_at op seen).after.seen)

  pub both_adding : w.over ≡ None → (place : ℕ → ℕ) → Fits place w.bounds → (op : ℕ) (seen : List ℕ)
      → resolved place w.made ≡ resolved place v.made ++ all_bare ((one_at op seen).pieces (place y1) (place n1) v.freq ++ (g (one_at op seen).after).pieces (place y2) (place n2) next)
  both_adding h place i op seen =
      let first : Adding v u place ((one_at op seen).pieces (place y1) (place n1) v.freq) = record { is = (x.follows.by (two_before h place i) place (fits_before place i) op seen).adds } in
      let last : Adding u w place ((g (one_at op seen).after).pieces (place y2) (place n2) next) = record { is = (second h place i op seen).adds } in
      (adding_on first last).is

  pub both_limit : (place : ℕ → ℕ) → Fits place w.bounds → (op : ℕ) (seen : List ℕ)
      → w.over ≡ later v.over (passed ((one_at op seen).pieces (place y1) (place n1) v.freq ++ (g (one_at op seen).after).pieces (place y2) (place n2) next))
  both_limit place i op seen =
      limit_on v.over (passed ((one_at op seen).pieces (place y1) (place n1) v.freq)) (passed ((g (one_at op seen).after).pieces (place y2) (place n2) next)) (x.follows.limit place (fits_before place i) op seen) (y.follows.limit place i (one_at op seen).after.op (one_at op seen).after.seen)
      (λ h. ap (λ z. passed ((g z).pieces (place y2) (place n2) next)) (behind_one h place i op seen))
      ∙ ap (λ o. later v.over o) (sym (passed_on ((one_at op seen).pieces (place y1) (place n1) v.freq) ((g (one_at op seen).after).pieces (place y2) (place n2) next)))

  pub both_after : w.over ≡ None → (place : ℕ → ℕ) → Fits place w.bounds → (op : ℕ) (seen : List ℕ)
      → record (g (one_at op seen).after).after { freq = next } ≡ cursor_at w (g (one_at op seen).after).after.op (g (one_at op seen).after).after.seen
  both_after h place i op seen = (second h place i op seen).after

  pub both_same : w.over ≡ None → (place : ℕ → ℕ) → Fits place w.bounds → (op : ℕ) (seen : List ℕ) → (g (one_at op seen).after).after.freq ≡ v.freq
  both_same h place i op seen =
      ap (λ z. (g z).after.freq) (behind_one (two_before h place i) place i op seen) ∙ y.same h place i (one_at op seen).after.op (one_at op seen).after.seen ∙ x.freq

  pub both_once : Once v w
  both_once = record { by = λ t. let p = x.once.by t in let q = y.once.by t in let r = times_bound u v.labels t in let s = given_more v.labels t in omega (arith, p, q, r, s) }

-- `&`: the middle block is the first label's
pub tests_and : {v u w : View} {f g : Test} {yes_to no_to next : ℕ} → Tests (asked v) u f v.labels no_to v.freq → Tests (bound u v.labels) w g yes_to no_to next → Tests v w (fork_and f g) yes_to no_to next
tests_and {v = v} {u = u} {w = w} {f = f} {g = g} {yes_to = yes_to} {no_to = no_to} {next = next} x y = record {
  follows = record {
    fits = λ place i. x.follows.fits place (fits_bound u v.labels place (y.follows.fits place i));
    limit = λ place i op seen.
        let c = cursor_at v op seen in
        both_limit x y place i op seen ∙ ap (λ o. later v.over o) (blind_two f g x.blind y.blind c (place v.labels) (place no_to) v.freq (place yes_to) (place no_to) next (f c).after.block (place no_to) v.freq (place yes_to) (place no_to) next);
    by = λ h place i op seen.
        let c = cursor_at v op seen in
        record {
          adds = both_adding x y h place i op seen
              ∙ ap (λ n. resolved place v.made ++ all_bare ((f c).pieces n (place no_to) v.freq ++ (g (f c).after).pieces (place yes_to) (place no_to) next)) (middle x y h place i op seen);
          after = both_after x y h place i op seen;
          result = refl;
        };
  };
  once = both_once x y;
  blind = record { by = λ c a b p d e q. blind_two f g x.blind y.blind c (f c).after.block b c.freq a b p (f c).after.block e c.freq d e q };
  same = λ h place i op seen. both_same x y h place i op seen;
  freq = y.freq;
  known = y.known ∙ x.known;
}

pub tests_or : {v u w : View} {f g : Test} {yes_to no_to next : ℕ} → Tests (asked v) u f yes_to v.labels v.freq → Tests (bound u v.labels) w g yes_to no_to next → Tests v w (fork_or f g) yes_to no_to next
tests_or {v = v} {u = u} {w = w} {f = f} {g = g} {yes_to = yes_to} {no_to = no_to} {next = next} x y = record {
  follows = record {
    fits = λ place i. x.follows.fits place (fits_bound u v.labels place (y.follows.fits place i));
    limit = λ place i op seen.
        let c = cursor_at v op seen in
        both_limit x y place i op seen ∙ ap (λ o. later v.over o) (blind_two f g x.blind y.blind c (place yes_to) (place v.labels) v.freq (place yes_to) (place no_to) next (place yes_to) (f c).after.block v.freq (place yes_to) (place no_to) next);
    by = λ h place i op seen.
        let c = cursor_at v op seen in
        record {
          adds = both_adding x y h place i op seen
              ∙ ap (λ n. resolved place v.made ++ all_bare ((f c).pieces (place yes_to) n v.freq ++ (g (f c).after).pieces (place yes_to) (place no_to) next)) (middle x y h place i op seen);
          after = both_after x y h place i op seen;
          result = refl;
        };
  };
  once = both_once x y;
  blind = record { by = λ c a b p d e q. blind_two f g x.blind y.blind c a (f c).after.block c.freq a b p d (f c).after.block c.freq d e q };
  same = λ h place i op seen. both_same x y h place i op seen;
  freq = y.freq;
  known = y.known ∙ x.known;
}
