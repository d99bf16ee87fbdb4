-- Loops: the header, the guards with what is done where they hold, and REPEAT.
use Rattle.std.proofs.Common.{◌≡◌, ℕ, suc, List, [], ◌∷◌, ◌++◌, length, Some, None, refl, sym, ap, ap₂, ◌∙◌, arith}
use Rattle.block_runs.specs.declared.end.End.{End}
use Rattle.block_runs.specs.declared.end.End.TheVariants.{Jump}
use Rattle.ssa_lowered.specs.Pieces.{Cursor, Made, close, fresh, plain, Mask, picked, join, join_start, numbers}
use Rattle.ssa_lowered.specs.Pieces.{Piece as Placed}
use Rattle.ssa_lowered.specs.Limits.{passed}
use Rattle.ssa_lowered.specs.Statements.{Deed}
use Rattle.ssa_lowered.specs.Control.{Fork, Test, Round, rounds, behind, loop, often, at_freq}
use Rattle.ssa_exprs.specs.Making.{View, Known, all_bare, resolved, Fits, later, cursor_at, Came, asked, bound, begins, closed, as_part, Tests}
use Rattle.ssa_exprs.specs.Changes.{rewound, Undoes, chosen, values_of, joined}
use Rattle.ssa_exprs.proofs.Giving.{later_first, later_none, append_nil, passed_on, came_as, once_none}
use Rattle.ssa_exprs.proofs.Flags.{limit_list}
use Rattle.ssa_exprs.proofs.Forks.{Adding, adding_on, adding_closed, closed_before, at_plain, fits_bound, place_bound, times_bound, given_more}
use Rattle.ssa_exprs.proofs.Changes.{undoes_none, undoes_on, undoes_same, rewound_is, params_are}
use Rattle.ssa_statements.specs.Steps.{Steps, Rounds}
use Rattle.ssa_statements.proofs.Joining.{picked_later, at_joined, undoes_joined}

-- no guard more
pub rounds_none : (v : View) (mask : Mask) (head outside : ℕ) → Rounds v v mask head outside []
rounds_none v mask head outside = record {
  follows = record {
    fits = λ place f. f;
    limit = λ place f op seen. sym (later_none v.over);
    by = λ h place f op seen. record { adds = sym (append_nil (resolved place v.made)); after = refl; result = refl };
  };
  once = once_none v;
  undoes = undoes_none v.known;
}

-- a guard, what is done where it holds, and the guards behind it
module _ (v u u2 w : View) (t : Test) (f : Deed) (mask : Mask) (head outside next : ℕ) (args : List ℕ) (rs : List Round) where
  abbrev xs : List ℕ
  xs = chosen mask 0 v.known.env

  abbrev end1 : End
  end1 = Jump head args

  abbrev u3 : View
  u3 = closed u2 end1 0 next None

  abbrev u4 : View
  u4 = record u3 { known = rewound u3.known (length v.known.log) }

  module _
      (x : Tests (asked (asked v)) u t v.labels (suc v.labels) v.freq)
      (y : Steps (bound u v.labels) u2 f)
      (a : u2.over ≡ None → args ≡ values_of u2.known.env xs)
      (n : next ≡ behind rs v.freq outside)
      (z : Rounds (bound u4 (suc v.labels)) w mask head outside rs) where
    know2 : Undoes v.known u2.known
    know2 = undoes_on (undoes_same x.known) y.undoes

    pub know4 : u4.known ≡ v.known
    know4 = rewound_is know2

    module _ (op : ℕ) (seen : List ℕ) where
      abbrev k : Fork
      k = t (cursor_at v op seen)

      abbrev s : List ℕ
      s = k.after.seen

      abbrev one : Made (Unit {0})
      one = f (at_freq k.after v.freq)

      abbrev next_at : Cursor → List ℕ → Cursor
      next_at c e = record (fresh c) { freq = behind rs v.freq outside; env = e; seen = s }

      abbrev part_rest : ℕ → Cursor → List Placed
      part_rest hd c = (rounds mask hd outside rs c).pieces

      abbrev part_jump : ℕ → Cursor → List ℕ → List Placed
      part_jump hd c e = close c (Jump hd (picked mask c.env)) (plain (behind rs v.freq outside) s) ∷ part_rest hd (next_at c e)

      abbrev part_one : ℕ → Cursor → List ℕ → List Placed
      part_one hd c e = (f c).pieces ++ part_jump hd (f c).after e

      next_from : u4.over ≡ None → (o : ℕ) (l : List ℕ) → next_at (cursor_at u2 o l) v.known.env ≡ cursor_at u4 0 s
      next_from h o l =
          ap₂ (λ (q : ℕ) (m : Known). record { block = suc u2.block; op = 0; freq = q; values = u2.values; env = m.env; seen = s }) (sym n) (sym know4)
          ∙ ap (λ (c : Cursor). record c { env = u4.known.env }) (sym (at_plain u2 end1 next None 0 s h))

      module _ (place : ℕ → ℕ) (i : Fits place w.bounds) where
        fits4 : Fits place (bound u4 (suc v.labels)).bounds
        fits4 = z.follows.fits place i

        fits2 : Fits place u2.bounds
        fits2 = fits_bound u4 (suc v.labels) place fits4

        fits1 : Fits place (bound u v.labels).bounds
        fits1 = y.follows.fits place fits2

        fits0 : Fits place u.bounds
        fits0 = fits_bound u v.labels place fits1

        limit_jump : (o : ℕ) (l : List ℕ) → w.over ≡ later u2.over (passed (part_jump (place head) (cursor_at u2 o l) v.known.env))
        limit_jump o l =
            let c = cursor_at u2 o l in
            limit_list u2.over (close c (Jump (place head) (picked mask c.env)) (plain (behind rs v.freq outside) s) ∷ []) (part_rest (place head) (next_at c v.known.env)) refl (z.follows.limit place i 0 s)
            (λ h. ap (λ d. passed (part_rest (place head) d)) (next_from h o l))

        limit_one : (o : ℕ) → w.over ≡ later u.over (passed (part_one (place head) (cursor_at u o s) v.known.env))
        limit_one o =
            let c = cursor_at u o s in
            limit_list u.over (f c).pieces (part_jump (place head) (f c).after v.known.env) (y.follows.limit place fits2 o s) (limit_jump (f c).after.op (f c).after.seen)
            (λ h. ap (λ d. passed (part_jump (place head) d v.known.env)) (y.follows.by h place fits2 o s).after)

        env_known : u.over ≡ None → k.after.env ≡ v.known.env
        env_known h = ap (λ (c : Cursor). c.env) (x.follows.by h place fits0 op seen).after ∙ ap (λ (m : Known). m.env) x.known

        limit_all : w.over ≡ later v.over (passed (rounds mask (place head) outside (record { test = t; body = f } ∷ rs) (cursor_at v op seen)).pieces)
        limit_all =
            let last = part_one (place head) (at_freq k.after v.freq) k.after.env in
            limit_list v.over (k.pieces (place v.labels) (place (suc v.labels)) v.freq) last (x.follows.limit place fits0 op seen) (limit_one k.after.op)
            (λ h. ap₂ (λ c e. passed (part_one (place head) c e)) (x.follows.by h place fits0 op seen).after (env_known h))
            ∙ ap (λ o. later v.over o) (passed_on (k.pieces (place v.labels) (place (suc v.labels)) v.freq) last
            ∙ ap (λ o. later o (passed last)) (x.blind.by (cursor_at v op seen) (place v.labels) (place (suc v.labels)) v.freq k.after.block (next_at one.after k.after.env).block v.freq)
            ∙ sym (passed_on (k.pieces k.after.block (next_at one.after k.after.env).block v.freq) last))

        module _ (h : w.over ≡ None) where
          over4 : u4.over ≡ None
          over4 = later_first u4.over _ (sym (z.follows.limit place i 0 []) ∙ h)

          over2 : u2.over ≡ None
          over2 = closed_before u2 end1 0 next None over4

          over0 : u.over ≡ None
          over0 = later_first u.over _ (sym (y.follows.limit place fits2 0 []) ∙ over2)

          test_made : Came (asked (asked v)) u place (as_part t (place v.labels) (place (suc v.labels)) v.freq (cursor_at v op seen)) tt
          test_made = x.follows.by over0 place fits0 op seen

          one_came : Came (bound u v.labels) u2 place one tt
          one_came = came_as (ap f test_made.after) (y.follows.by over2 place fits2 k.after.op s)

          abbrev behind_it : Cursor
          behind_it = next_at one.after k.after.env

          next_is : behind_it ≡ cursor_at u4 0 s
          next_is = ap₂ (λ c e. next_at c e) one_came.after (env_known over0) ∙ next_from over4 one.after.op one.after.seen

          rest_came : Came (bound u4 (suc v.labels)) w place (rounds mask (place head) outside rs behind_it) tt
          rest_came = came_as (ap (rounds mask (place head) outside rs) next_is) (z.follows.by h place i 0 s)

          abbrev shape : (yb nb : ℕ) (p : List ℕ) (q : ℕ) → List Placed
          shape yb nb p q = k.pieces yb nb v.freq ++ (one.pieces ++ (close one.after (Jump (place head) p) (plain q s) ∷ (rounds mask (place head) outside rs behind_it).pieces))

          chain : Adding v w place (shape (place v.labels) (place (suc v.labels)) args next)
          chain =
              let b1 : Adding v u place (k.pieces (place v.labels) (place (suc v.labels)) v.freq) = record { is = test_made.adds } in
              let b2 : Adding u u2 place one.pieces = record { is = one_came.adds } in
              let b3 : Adding u2 u4 place (close one.after (Jump (place head) args) (plain next s) ∷ []) = record { is = (adding_closed u2 end1 0 next None place (Jump (place head) args) one.after s over4 refl).is } in
              let b4 : Adding u4 w place (rounds mask (place head) outside rs behind_it).pieces = record { is = rest_came.adds } in
              adding_on b1 (adding_on b2 (adding_on b3 b4))

          block_yes : place v.labels ≡ k.after.block
          block_yes = place_bound u v.labels place fits1 ∙ sym (ap (λ (c : Cursor). c.block) test_made.after)

          block_no : place (suc v.labels) ≡ behind_it.block
          block_no = place_bound u4 (suc v.labels) place fits4 ∙ sym (ap (λ (c : Cursor). c.block) next_is)

          picked_all : args ≡ picked mask one.after.env
          picked_all = a over2 ∙ picked_later mask know2 ∙ sym (ap (λ (c : Cursor). picked mask c.env) one_came.after)

          came_all : Came v w place (rounds mask (place head) outside (record { test = t; body = f } ∷ rs) (cursor_at v op seen)) tt
          came_all = record {
            adds =
                chain.is
                ∙ ap₂ (λ c d. resolved place v.made ++ all_bare (shape c d args next)) block_yes block_no
                ∙ ap₂ (λ c d. resolved place v.made ++ all_bare (shape k.after.block behind_it.block c d)) picked_all n;
            after = rest_came.after;
            result = refl;
          }

    pub rounds_more : Rounds v w mask head outside (record { test = t; body = f } ∷ rs)
    rounds_more = record {
      follows = record {
        fits = λ place i. x.follows.fits place (fits0 0 [] place i);
        limit = λ place i op seen. limit_all op seen place i;
        by = λ h place i op seen. came_all op seen place i h;
      };
      once = record {
        by = λ l.
            let b1 = x.once.by l in
            let b2 = y.once.by l in
            let b3 = z.once.by l in
            let e1 = given_more v.labels l in
            let e2 = given_more (suc v.labels) l in
            let t1 = times_bound u v.labels l in
            let t2 = times_bound u4 (suc v.labels) l in
            omega (arith, b1, b2, b3, e1, e2, t1, t2);
      };
      undoes = undoes_on (undoes_same know4) z.undoes;
    }

-- the header and its guards
module _ (v w : View) (mask : Mask) (args : List ℕ) (rs : List Round) where
  abbrev ys : List ℕ
  ys = chosen mask 0 v.known.env

  abbrev end0 : End
  end0 = Jump v.labels args

  abbrev u1 : View
  u1 = joined (asked v) end0 ys (often v.freq) (Some v.block)

  module _ (a : v.over ≡ None → args ≡ values_of v.known.env ys) (z : Rounds (bound u1 v.labels) w mask v.labels v.freq rs) where
    module _ (op : ℕ) (seen : List ℕ) where
      abbrev head_at : Cursor
      head_at = join mask (cursor_at v op seen) (cursor_at v op seen) (often v.freq)

      head_is : u1.over ≡ None → cursor_at u1 0 head_at.seen ≡ head_at
      head_is h = at_joined mask (asked v) v.known end0 (often v.freq) (Some v.block) 0 head_at.seen refl h

      module _ (place : ℕ → ℕ) (i : Fits place w.bounds) where
        fits1' : Fits place (bound u1 v.labels).bounds
        fits1' = z.follows.fits place i

        block_head : u1.over ≡ None → place v.labels ≡ head_at.block
        block_head h = place_bound u1 v.labels place fits1' ∙ ap (λ (c : Cursor). c.block) (head_is h)

        limit_loop : w.over ≡ later v.over (passed (loop mask rs (cursor_at v op seen)).pieces)
        limit_loop =
            let c = cursor_at v op seen in
            limit_list v.over (close c (Jump head_at.block (picked mask c.env)) (join_start mask c c (often v.freq) (Some v.block)) ∷ []) (rounds mask head_at.block v.freq rs head_at).pieces
            (ap (λ ps. later v.over (begins v.block ps)) (sym (params_are mask 0 v.values v.known.env)))
            (z.follows.limit place i 0 head_at.seen)
            (λ h. ap₂ (λ b d. passed (rounds mask b v.freq rs d).pieces) (sym (block_head h)) (sym (head_is h)))

        module _ (h : w.over ≡ None) where
          over1 : u1.over ≡ None
          over1 = later_first u1.over _ (sym (z.follows.limit place i 0 []) ∙ h)

          over_v : v.over ≡ None
          over_v = closed_before (asked v) end0 (length ys) (often v.freq) (Some v.block) over1

          rounds_came : Came (bound u1 v.labels) w place (rounds mask head_at.block v.freq rs head_at) tt
          rounds_came = came_as (ap₂ (λ b d. rounds mask b v.freq rs d) (sym (block_head over1)) (sym (head_is over1))) (z.follows.by h place i 0 head_at.seen)

          abbrev loop_shape : (hb : ℕ) (p ps : List ℕ) → List Placed
          loop_shape hb p ps = close (cursor_at v op seen) (Jump hb p) (record { params = ps; freq = often v.freq; enter = Some v.block; seen = seen }) ∷ (rounds mask head_at.block v.freq rs head_at).pieces

          came_loop : Came v w place (loop mask rs (cursor_at v op seen)) tt
          came_loop = record {
            adds =
                (let b1 : Adding v u1 place (close (cursor_at v op seen) (Jump (place v.labels) args) (record { params = numbers v.values (length ys); freq = often v.freq; enter = Some v.block; seen = seen }) ∷ []) =
                record { is = (adding_closed (asked v) end0 (length ys) (often v.freq) (Some v.block) place (Jump (place v.labels) args) (cursor_at v op seen) seen over1 refl).is } in
                let b2 : Adding u1 w place (rounds mask head_at.block v.freq rs head_at).pieces = record { is = rounds_came.adds } in
                (adding_on b1 b2).is)
                ∙ ap₂ (λ c d. resolved place v.made ++ all_bare (loop_shape c d (numbers v.values (length ys)))) (block_head over1) (a over_v ∙ picked_later mask (undoes_none v.known))
                ∙ ap (λ d. resolved place v.made ++ all_bare (loop_shape head_at.block (picked mask v.known.env) d)) (sym (params_are mask 0 v.values v.known.env));
            after = rounds_came.after;
            result = refl;
          }

    pub steps_loop : Steps v w (loop mask rs)
    steps_loop = record {
      follows = record {
        fits = λ place i. fits_bound u1 v.labels place (z.follows.fits place i);
        limit = λ place i op seen. limit_loop op seen place i;
        by = λ h place i op seen. came_loop op seen place i h;
      };
      once = record {
        by = λ l.
            let b3 = z.once.by l in
            let e1 = given_more v.labels l in
            let t1 = times_bound u1 v.labels l in
            omega (arith, b3, e1, t1);
      };
      undoes = undoes_on (undoes_joined (asked v) end0 ys (often v.freq) (Some v.block)) z.undoes;
    }
