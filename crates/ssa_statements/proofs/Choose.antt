-- One of two, by a condition, and a join behind them.
use Rattle.std.proofs.Common.{◌≡◌, ℕ, suc, List, [], ◌∷◌, ◌++◌, length, None, refl, sym, ap, ap₂, ◌∙◌, arith}
use Rattle.block_runs.specs.declared.end.End.{End}
use Rattle.block_runs.specs.declared.end.End.TheVariants.{Jump}
use Rattle.ssa_lowered.specs.Pieces.{Cursor, Made, close, fresh, plain, Mask, params, beyond, merged, picked, join, join_start, numbers}
use Rattle.ssa_lowered.specs.Pieces.{Piece as Placed}
use Rattle.ssa_lowered.specs.Limits.{passed}
use Rattle.ssa_lowered.specs.Statements.{Deed}
use Rattle.ssa_lowered.specs.Control.{Fork, Test, choose, half, at_freq}
use Rattle.ssa_exprs.specs.Making.{View, Known, all_bare, resolved, Fits, later, cursor_at, Came, asked, bound, begins, closed, as_part, Tests}
use Rattle.ssa_exprs.specs.Changes.{rewound, Undoes, chosen, values_of, joined}
use Rattle.ssa_exprs.proofs.Giving.{later_first, passed_on, came_as}
use Rattle.ssa_exprs.proofs.Flags.{limit_list}
use Rattle.ssa_exprs.proofs.Forks.{Adding, adding_on, adding_closed, closed_before, at_plain, fits_bound, place_bound, times_bound, given_more}
use Rattle.ssa_exprs.proofs.Changes.{undoes_on, undoes_same, rewound_is, params_are}
use Rattle.ssa_statements.specs.Steps.{Steps}
use Rattle.ssa_statements.proofs.Joining.{picked_later, at_joined, undoes_joined}

module _ (v u u2 u5 : View) (t : Test) (f g : Deed) (mask : Mask) (args1 args2 : List ℕ) where
  abbrev out_to : ℕ
  out_to = suc (suc v.labels)

  abbrev q : ℕ
  q = half v.freq

  abbrev given_out : View
  given_out = asked (asked (asked v))

  abbrev xs : List ℕ
  xs = chosen mask 0 v.known.env

  abbrev end1 : End
  end1 = Jump out_to args1

  abbrev end2 : End
  end2 = Jump out_to args2

  abbrev u3 : View
  u3 = closed u2 end1 0 q None

  -- the variables are as before again
  abbrev u4 : View
  u4 = record u3 { known = rewound u3.known (length v.known.log) }

  abbrev u6 : View
  u6 = record u5 { known = rewound u5.known (length v.known.log) }

  abbrev u7 : View
  u7 = joined u6 end2 xs v.freq None

  abbrev w : View
  w = bound u7 out_to

  module _
      (x : Tests given_out u t v.labels (suc v.labels) q)
      (y : Steps (bound u v.labels) u2 f)
      (a1 : u2.over ≡ None → args1 ≡ values_of u2.known.env xs)
      (z : Steps (bound u4 (suc v.labels)) u5 g)
      (a2 : u5.over ≡ None → args2 ≡ values_of u5.known.env xs) where
    know2 : Undoes v.known u2.known
    know2 = undoes_on (undoes_same x.known) y.undoes

    know4 : u4.known ≡ v.known
    know4 = rewound_is know2

    know5 : Undoes v.known u5.known
    know5 = undoes_on (undoes_same know4) z.undoes

    know6 : u6.known ≡ v.known
    know6 = rewound_is know5

    module _ (op : ℕ) (seen : List ℕ) where
      abbrev k : Fork
      k = t (cursor_at v op seen)

      abbrev s : List ℕ
      s = k.after.seen

      abbrev one : Made (Unit {0})
      one = f (at_freq k.after q)

      abbrev other : Cursor
      other = record (fresh one.after) { freq = q; env = k.after.env; seen = s }

      abbrev two : Made (Unit {0})
      two = g other

      abbrev out : Cursor
      out = join mask two.after other v.freq

      abbrev part_two : Cursor → ℕ → List Placed
      part_two o ob = (g o).pieces ++ (close (g o).after (Jump ob (picked mask (g o).after.env)) (join_start mask (g o).after o v.freq None) ∷ [])

      abbrev other_at : Cursor → List ℕ → Cursor
      other_at c e = record (fresh c) { freq = q; env = e; seen = s }

      abbrev part_jump : Cursor → List ℕ → ℕ → List Placed
      part_jump c e ob = close c (Jump ob (picked mask c.env)) (plain q s) ∷ part_two (other_at c e) ob

      abbrev part_one : Cursor → List ℕ → ℕ → List Placed
      part_one c e ob = (f c).pieces ++ part_jump (f c).after e ob

      other_from : u4.over ≡ None → (o : ℕ) (n : List ℕ) → other_at (cursor_at u2 o n) v.known.env ≡ cursor_at u4 0 s
      other_from h o n =
          ap (λ (m : Known). record { block = suc u2.block; op = 0; freq = q; values = u2.values; env = m.env; seen = s }) (sym know4)
          ∙ ap (λ (c : Cursor). record c { env = u4.known.env }) (sym (at_plain u2 end1 q None 0 s h))

      module _ (place : ℕ → ℕ) (i : Fits place w.bounds) where
        fits5 : Fits place u5.bounds
        fits5 = fits_bound u7 out_to place i

        fits4 : Fits place (bound u4 (suc v.labels)).bounds
        fits4 = z.follows.fits place fits5

        fits2 : Fits place u2.bounds
        fits2 = fits_bound u4 (suc v.labels) place fits4

        fits1 : Fits place (bound u v.labels).bounds
        fits1 = y.follows.fits place fits2

        fits0 : Fits place u.bounds
        fits0 = fits_bound u v.labels place fits1

        params_in : (n : ℕ) → params mask n u4.known.env ≡ numbers n (length xs)
        params_in n = ap (λ (m : Known). params mask n m.env) know4 ∙ params_are mask 0 n v.known.env

        limit_two : (ob : ℕ) → w.over ≡ later u4.over (passed (part_two (cursor_at u4 0 s) ob))
        limit_two ob =
            let o = cursor_at u4 0 s in
            limit_list u4.over (g o).pieces (close (g o).after (Jump ob (picked mask (g o).after.env)) (join_start mask (g o).after o v.freq None) ∷ []) (z.follows.limit place fits5 0 s) refl
            (λ h. ap (λ (c : Cursor). begins c.block (params mask c.values u4.known.env)) (z.follows.by h place fits5 0 s).after ∙ ap (begins u5.block) (params_in u5.values))

        limit_jump : (o : ℕ) (n : List ℕ) (ob : ℕ) → w.over ≡ later u2.over (passed (part_jump (cursor_at u2 o n) v.known.env ob))
        limit_jump o n ob =
            let c = cursor_at u2 o n in
            limit_list u2.over (close c (Jump ob (picked mask c.env)) (plain q s) ∷ []) (part_two (other_at c v.known.env) ob) refl (limit_two ob) (λ h. ap (λ d. passed (part_two d ob)) (other_from h o n))

        limit_one : (o : ℕ) (ob : ℕ) → w.over ≡ later u.over (passed (part_one (cursor_at u o s) v.known.env ob))
        limit_one o ob =
            let c = cursor_at u o s in
            limit_list u.over (f c).pieces (part_jump (f c).after v.known.env ob) (y.follows.limit place fits2 o s) (limit_jump (f c).after.op (f c).after.seen ob)
            (λ h. ap (λ d. passed (part_jump d v.known.env ob)) (y.follows.by h place fits2 o s).after)

        env_known : u.over ≡ None → k.after.env ≡ v.known.env
        env_known h = ap (λ (c : Cursor). c.env) (x.follows.by h place fits0 op seen).after ∙ ap (λ (m : Known). m.env) x.known

        limit_all : w.over ≡ later v.over (passed (choose mask t f g (cursor_at v op seen)).pieces)
        limit_all =
            limit_list v.over (k.pieces (place v.labels) (place (suc v.labels)) q) (part_one (at_freq k.after q) k.after.env out.block) (x.follows.limit place fits0 op seen) (limit_one k.after.op out.block)
            (λ h. ap₂ (λ c e. passed (part_one c e out.block)) (x.follows.by h place fits0 op seen).after (env_known h))
            ∙ ap (λ o. later v.over o) (passed_on (k.pieces (place v.labels) (place (suc v.labels)) q) (part_one (at_freq k.after q) k.after.env out.block)
            ∙ ap (λ o. later o (passed (part_one (at_freq k.after q) k.after.env out.block))) (x.blind.by (cursor_at v op seen) (place v.labels) (place (suc v.labels)) q k.after.block other.block q)
            ∙ sym (passed_on (k.pieces k.after.block other.block q) (part_one (at_freq k.after q) k.after.env out.block)))

        module _ (h : w.over ≡ None) where
          over5 : u5.over ≡ None
          over5 = closed_before u6 end2 (length xs) v.freq None h

          over4 : u4.over ≡ None
          over4 = later_first u4.over _ (sym (z.follows.limit place fits5 0 []) ∙ over5)

          over2 : u2.over ≡ None
          over2 = closed_before u2 end1 0 q None over4

          over0 : u.over ≡ None
          over0 = later_first u.over _ (sym (y.follows.limit place fits2 0 []) ∙ over2)

          test_made : Came given_out u place (as_part t (place v.labels) (place (suc v.labels)) q (cursor_at v op seen)) tt
          test_made = x.follows.by over0 place fits0 op seen

          one_came : Came (bound u v.labels) u2 place one tt
          one_came = came_as (ap f test_made.after) (y.follows.by over2 place fits2 k.after.op s)

          other_is : other ≡ cursor_at u4 0 s
          other_is = ap₂ (λ c e. other_at c e) one_came.after (env_known over0) ∙ other_from over4 one.after.op one.after.seen

          two_came : Came (bound u4 (suc v.labels)) u5 place two tt
          two_came = came_as (ap g other_is) (z.follows.by over5 place fits5 0 s)

          abbrev shape : (yb nb ob : ℕ) (p1 p2 ps : List ℕ) → List Placed
          shape yb nb ob p1 p2 ps =
              k.pieces yb nb q
              ++ (one.pieces ++ (close one.after (Jump ob p1) (plain q s)
              ∷ (two.pieces ++ (close two.after (Jump ob p2) (record { params = ps; freq = v.freq; enter = None; seen = s })
              ∷ []))))

          chain : Adding v w place (shape (place v.labels) (place (suc v.labels)) (place out_to) args1 args2 (numbers u5.values (length xs)))
          chain =
              let b1 : Adding v u place (k.pieces (place v.labels) (place (suc v.labels)) q) = record { is = test_made.adds } in
              let b2 : Adding u u2 place one.pieces = record { is = one_came.adds } in
              let b3 : Adding u2 u4 place (close one.after (Jump (place out_to) args1) (plain q s) ∷ []) = record { is = (adding_closed u2 end1 0 q None place (Jump (place out_to) args1) one.after s over4 refl).is } in
              let b4 : Adding u4 u5 place two.pieces = record { is = two_came.adds } in
              let b5 : Adding u5 w place (close two.after (Jump (place out_to) args2) (record { params = numbers u5.values (length xs); freq = v.freq; enter = None; seen = s }) ∷ []) =
              record { is = (adding_closed u6 end2 (length xs) v.freq None place (Jump (place out_to) args2) two.after s h refl).is } in
              adding_on b1 (adding_on b2 (adding_on b3 (adding_on b4 b5)))

          block_yes : place v.labels ≡ k.after.block
          block_yes = place_bound u v.labels place fits1 ∙ sym (ap (λ (c : Cursor). c.block) test_made.after)

          block_no : place (suc v.labels) ≡ other.block
          block_no = place_bound u4 (suc v.labels) place fits4 ∙ sym (ap (λ (c : Cursor). c.block) other_is)

          out_is : cursor_at u7 0 out.seen ≡ out
          out_is =
              at_joined mask u6 v.known end2 v.freq None 0 out.seen know6 h
              ∙ ap₂ (λ (c : Cursor) (e : List ℕ). record { block = suc c.block; op = 0; freq = v.freq; values = beyond mask c.values e; env = merged mask c.values e; seen = out.seen }) (sym two_came.after) (sym (env_known over0))

          block_out : place out_to ≡ out.block
          block_out = place_bound u7 out_to place i ∙ ap (λ (c : Cursor). c.block) out_is

          picked1 : args1 ≡ picked mask one.after.env
          picked1 = a1 over2 ∙ picked_later mask know2 ∙ sym (ap (λ (c : Cursor). picked mask c.env) one_came.after)

          picked2 : args2 ≡ picked mask two.after.env
          picked2 = a2 over5 ∙ picked_later mask know5 ∙ sym (ap (λ (c : Cursor). picked mask c.env) two_came.after)

          params_out : numbers u5.values (length xs) ≡ params mask two.after.values other.env
          params_out = sym (params_are mask 0 u5.values v.known.env) ∙ ap₂ (λ (c : Cursor) (e : List ℕ). params mask c.values e) (sym two_came.after) (sym (env_known over0))

          came_all : Came v w place (choose mask t f g (cursor_at v op seen)) tt
          came_all = record {
            adds =
                chain.is
                ∙ ap₂ (λ a b. resolved place v.made ++ all_bare (shape a b (place out_to) args1 args2 (numbers u5.values (length xs)))) block_yes block_no
                ∙ ap₂ (λ a b. resolved place v.made ++ all_bare (shape k.after.block other.block a b args2 (numbers u5.values (length xs)))) block_out picked1
                ∙ ap₂ (λ a b. resolved place v.made ++ all_bare (shape k.after.block other.block out.block (picked mask one.after.env) a b)) picked2 params_out;
            after = sym out_is;
            result = refl;
          }

    pub steps_choose : Steps v w (choose mask t f g)
    steps_choose = record {
      follows = record {
        fits = λ place i. x.follows.fits place (fits0 0 [] place i);
        limit = λ place i op seen. limit_all op seen place i;
        by = λ h place i op seen. came_all op seen place i h;
      };
      once = record {
        by = λ n.
            let a = x.once.by n in
            let b = y.once.by n in
            let d = z.once.by n in
            let e1 = given_more v.labels n in
            let e2 = given_more (suc v.labels) n in
            let e3 = given_more (suc (suc v.labels)) n in
            let t1 = times_bound u v.labels n in
            let t2 = times_bound u4 (suc v.labels) n in
            let t3 = times_bound u7 out_to n in
            omega (arith, a, b, d, e1, e2, e3, t1, t2, t3);
      };
      undoes = undoes_on (undoes_same know6) (undoes_joined u6 end2 xs v.freq None);
    }
