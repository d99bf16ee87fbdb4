-- A condition as a value.
use Rattle.std.proofs.Common.{◌≡◌, ℕ, suc, ◌+◌, List, [], ◌∷◌, ◌++◌, Option, None, refl, sym, ap, ◌∙◌, arith}
use Rattle.block_runs.specs.declared.end.End.{End}
use Rattle.block_runs.specs.declared.end.End.TheVariants.{Jump}
use Rattle.ssa_lowered.specs.Pieces.{Cursor, Made, close, fresh, plain}
use Rattle.ssa_lowered.specs.Pieces.{Piece as Placed}
use Rattle.ssa_lowered.specs.Values.{const}
use Rattle.ssa_lowered.specs.Limits.{passed}
use Rattle.ssa_lowered.specs.Control.{Fork, Test, flag, half, at_freq}
use Rattle.ssa_exprs.specs.Making.{View, all_bare, resolved, Fits, later, cursor_at, Came, Gives, asked, bound, begins, closed, as_part, Tests}
use Rattle.ssa_exprs.proofs.Giving.{later_first, limit_on, passed_on, came_as}
use Rattle.ssa_exprs.proofs.Forks.{Adding, adding_on, adding_closed, closed_before, at_closed, at_plain, fits_bound, place_bound, times_bound, given_more}

-- one list of pieces and then another one
pub limit_list : {b c q : Option ℕ} (a : Option ℕ) (xs ys : List Placed) → b ≡ later a (passed xs) → c ≡ later b q → (b ≡ None → passed ys ≡ q) → c ≡ later a (passed (xs ++ ys))
limit_list a xs ys x y h = limit_on a (passed xs) (passed ys) x y h ∙ ap (λ o. later a o) (sym (passed_on xs ys))

module _ {v u u2 u6 : View} {t : Test} {r1 r2 : ℕ}
    (x : Tests (asked (asked v)) u t v.labels (suc v.labels) (half v.freq))
    (g1 : Gives (bound u v.labels) u2 (const 1) r1)
    (g2 : Gives (bound (closed (asked u2) (Jump u2.labels (r1 ∷ [])) 0 (half v.freq) None) (suc v.labels)) u6 (const 0) r2) where
  abbrev q : ℕ
  q = half v.freq

  abbrev end1 : End
  end1 = Jump u2.labels (r1 ∷ [])

  abbrev end2 : End
  end2 = Jump u2.labels (r2 ∷ [])

  abbrev u4 : View
  u4 = closed (asked u2) end1 0 q None

  abbrev u8 : View
  u8 = closed u6 end2 1 v.freq None

  abbrev w : View
  w = bound u8 u2.labels

  freq2 : u2.freq ≡ q
  freq2 = g1.freq ∙ x.freq

  module _ (op : ℕ) (seen : List ℕ) where
    abbrev k : Fork
    k = t (cursor_at v op seen)

    abbrev s : List ℕ
    s = k.after.seen

    abbrev yes_at : Cursor
    yes_at = at_freq k.after q

    abbrev one : Made ℕ
    one = const 1 yes_at

    abbrev no_at : Cursor
    no_at = record (fresh one.after) { seen = s }

    abbrev zero_made : Made ℕ
    zero_made = const 0 no_at

    -- what stands behind the blocks' beginnings
    abbrev part_zero : Cursor → ℕ → List Placed
    part_zero z ob = (const 0 z).pieces ++ (close (const 0 z).after (Jump ob ((const 0 z).result ∷ [])) (record { params = (const 0 z).after.values ∷ []; freq = v.freq; enter = None; seen = s }) ∷ [])

    abbrev part_jump : Cursor → ℕ → ℕ → List Placed
    part_jump o r ob = close o (Jump ob (r ∷ [])) (plain o.freq s) ∷ part_zero (record (fresh o) { seen = s }) ob

    abbrev part_one : Cursor → ℕ → List Placed
    part_one y ob = (const 1 y).pieces ++ part_jump (const 1 y).after (const 1 y).result ob

    no_from : u4.over ≡ None → (o : ℕ) (z : List ℕ) → record (fresh (cursor_at u2 o z)) { seen = s } ≡ cursor_at u4 0 s
    no_from h o z =
        ap (λ n. record { block = suc u2.block; op = 0; freq = n; values = u2.values; env = u2.known.env; seen = s }) freq2
        ∙ sym (at_plain (asked u2) end1 q None 0 s h)

    module _ (place : ℕ → ℕ) (i : Fits place w.bounds) where
      fits8 : Fits place u6.bounds
      fits8 = fits_bound u8 u2.labels place i

      fits5 : Fits place (bound u4 (suc v.labels)).bounds
      fits5 = g2.follows.fits place fits8

      fits4 : Fits place u2.bounds
      fits4 = fits_bound u4 (suc v.labels) place fits5

      fits1 : Fits place (bound u v.labels).bounds
      fits1 = g1.follows.fits place fits4

      fits0 : Fits place u.bounds
      fits0 = fits_bound u v.labels place fits1

      limit_zero : (ob : ℕ) → w.over ≡ later u4.over (passed (part_zero (cursor_at u4 0 s) ob))
      limit_zero ob =
          let z = cursor_at u4 0 s in
          limit_list u4.over (const 0 z).pieces (close (const 0 z).after (Jump ob ((const 0 z).result ∷ [])) (record { params = (const 0 z).after.values ∷ []; freq = v.freq; enter = None; seen = s }) ∷ [])
          (g2.follows.limit place fits8 0 s) refl (λ h. ap (λ (c : Cursor). begins c.block (c.values ∷ [])) (g2.follows.by h place fits8 0 s).after)

      limit_jump : (o : ℕ) (z : List ℕ) (r ob : ℕ) → w.over ≡ later u2.over (passed (part_jump (cursor_at u2 o z) r ob))
      limit_jump o z r ob =
          let c = cursor_at u2 o z in
          limit_list u2.over (close c (Jump ob (r ∷ [])) (plain c.freq s) ∷ []) (part_zero (record (fresh c) { seen = s }) ob) refl (limit_zero ob) (λ h. ap (λ y. passed (part_zero y ob)) (no_from h o z))

      limit_one : (o : ℕ) (ob : ℕ) → w.over ≡ later u.over (passed (part_one (cursor_at u o s) ob))
      limit_one o ob =
          let c = cursor_at u o s in
          let m = const 1 c in
          limit_list u.over m.pieces (part_jump m.after m.result ob) (g1.follows.limit place fits4 o s) (limit_jump m.after.op m.after.seen m.result ob)
          (λ h. ap (λ y. passed (part_jump y m.result ob)) (g1.follows.by h place fits4 o s).after)

      limit_flag : w.over ≡ later v.over (passed (flag t (cursor_at v op seen)).pieces)
      limit_flag =
          limit_list v.over (k.pieces (place v.labels) (place (suc v.labels)) q) (part_one yes_at (suc zero_made.after.block)) (x.follows.limit place fits0 op seen) (limit_one k.after.op (suc zero_made.after.block))
          (λ h. ap (λ y. passed (part_one y (suc zero_made.after.block))) (x.follows.by h place fits0 op seen).after)
          ∙ ap (λ o. later v.over o) (passed_on (k.pieces (place v.labels) (place (suc v.labels)) q) (part_one yes_at (suc zero_made.after.block))
          ∙ ap (λ o. later o (passed (part_one yes_at (suc zero_made.after.block)))) (x.blind.by (cursor_at v op seen) (place v.labels) (place (suc v.labels)) q yes_at.block no_at.block q)
          ∙ sym (passed_on (k.pieces yes_at.block no_at.block q) (part_one yes_at (suc zero_made.after.block))))

      module _ (h : w.over ≡ None) where
        over6 : u6.over ≡ None
        over6 = closed_before u6 end2 1 v.freq None h

        over4 : u4.over ≡ None
        over4 = later_first u4.over _ (sym (g2.follows.limit place fits8 0 []) ∙ over6)

        over2 : u2.over ≡ None
        over2 = closed_before (asked u2) end1 0 q None over4

        over0 : u.over ≡ None
        over0 = later_first u.over _ (sym (g1.follows.limit place fits4 0 []) ∙ over2)

        test_made : Came (asked (asked v)) u place (as_part t (place v.labels) (place (suc v.labels)) q (cursor_at v op seen)) tt
        test_made = x.follows.by over0 place fits0 op seen

        one_came : Came (bound u v.labels) u2 place one r1
        one_came = came_as (ap (const 1) test_made.after) (g1.follows.by over2 place fits4 k.after.op s)

        no_is : no_at ≡ cursor_at u4 0 s
        no_is = ap (λ (c : Cursor). record (fresh c) { seen = s }) one_came.after ∙ no_from over4 one.after.op one.after.seen

        zero_came : Came (bound u4 (suc v.labels)) u6 place zero_made r2
        zero_came = came_as (ap (const 0) no_is) (g2.follows.by over6 place fits8 0 s)

        abbrev shape : (yb nb ob a f b d : ℕ) → List Placed
        shape yb nb ob a f b d =
            k.pieces yb nb q
            ++ (one.pieces ++ (close one.after (Jump ob (a ∷ [])) (plain f s)
            ∷ (zero_made.pieces ++ (close zero_made.after (Jump ob (b ∷ [])) (record { params = d ∷ []; freq = v.freq; enter = None; seen = s })
            ∷ []))))

        chain : Adding v w place (shape (place v.labels) (place (suc v.labels)) (place u2.labels) r1 q r2 u6.values)
        chain =
            let a1 : Adding v u place (k.pieces (place v.labels) (place (suc v.labels)) q) = record { is = test_made.adds } in
            let a2 : Adding u u2 place one.pieces = record { is = one_came.adds } in
            let a3 : Adding u2 u4 place (close one.after (Jump (place u2.labels) (r1 ∷ [])) (plain q s) ∷ []) = record { is = (adding_closed (asked u2) end1 0 q None place (Jump (place u2.labels) (r1 ∷ [])) one.after s over4 refl).is } in
            let a4 : Adding u4 u6 place zero_made.pieces = record { is = zero_came.adds } in
            let a5 : Adding u6 w place (close zero_made.after (Jump (place u2.labels) (r2 ∷ [])) (record { params = u6.values ∷ []; freq = v.freq; enter = None; seen = s }) ∷ []) =
            record { is = (adding_closed u6 end2 1 v.freq None place (Jump (place u2.labels) (r2 ∷ [])) zero_made.after s h refl).is } in
            adding_on a1 (adding_on a2 (adding_on a3 (adding_on a4 a5)))

        block_yes : place v.labels ≡ yes_at.block
        block_yes = place_bound u v.labels place fits1 ∙ sym (ap (λ (c : Cursor). c.block) test_made.after)

        block_no : place (suc v.labels) ≡ no_at.block
        block_no = place_bound u4 (suc v.labels) place fits5 ∙ sym (ap (λ (c : Cursor). c.block) no_is)

        block_out : place u2.labels ≡ suc zero_made.after.block
        block_out = place_bound u8 u2.labels place i ∙ sym (ap (λ (c : Cursor). suc c.block) zero_came.after ∙ sym (ap (λ (c : Cursor). c.block) (at_closed u6 end2 1 v.freq None 0 [] h)))

        came_flag : Came v w place (flag t (cursor_at v op seen)) u6.values
        came_flag = record {
          adds =
              chain.is
              ∙ ap (λ n. resolved place v.made ++ all_bare (shape n (place (suc v.labels)) (place u2.labels) r1 q r2 u6.values)) block_yes
              ∙ ap (λ n. resolved place v.made ++ all_bare (shape yes_at.block n (place u2.labels) r1 q r2 u6.values)) block_no
              ∙ ap (λ n. resolved place v.made ++ all_bare (shape yes_at.block no_at.block n r1 q r2 u6.values)) block_out
              ∙ ap (λ n. resolved place v.made ++ all_bare (shape yes_at.block no_at.block (suc zero_made.after.block) n q r2 u6.values)) (sym one_came.result)
              ∙ ap (λ n. resolved place v.made ++ all_bare (shape yes_at.block no_at.block (suc zero_made.after.block) one.result n r2 u6.values)) (sym (ap (λ (c : Cursor). c.freq) one_came.after ∙ freq2))
              ∙ ap (λ n. resolved place v.made ++ all_bare (shape yes_at.block no_at.block (suc zero_made.after.block) one.result no_at.freq n u6.values)) (sym zero_came.result)
              ∙ ap (λ n. resolved place v.made ++ all_bare (shape yes_at.block no_at.block (suc zero_made.after.block) one.result no_at.freq zero_made.result n)) (sym (ap (λ (c : Cursor). c.values) zero_came.after));
          after =
              let one_more : suc u6.values ≡ u6.values + 1 = omega arith in
              ap (λ (c : Cursor). record (fresh c) { freq = v.freq; values = suc c.values; seen = c.values ∷ s }) zero_came.after
              ∙ ap (λ n. record { block = suc u6.block; op = 0; freq = v.freq; values = n; env = u6.known.env; seen = u6.values ∷ s }) one_more
              ∙ sym (at_closed u6 end2 1 v.freq None 0 (u6.values ∷ s) h)
              ∙ ap (λ n. cursor_at w 0 (n ∷ s)) (sym (ap (λ (c : Cursor). c.values) zero_came.after));
          result = ap (λ (c : Cursor). c.values) zero_came.after;
        }

  pub gives_flag : Gives v w (flag t) u6.values
  gives_flag = record {
    follows = record {
      fits = λ place i. x.follows.fits place (fits0 0 [] place i);
      limit = λ place i op seen. limit_flag op seen place i;
      by = λ h place i op seen. came_flag op seen place i h;
    };
    once = record {
      by = λ n.
          let a = x.once.by n in
          let b = g1.once.by n in
          let d = g2.once.by n in
          let e1 = given_more v.labels n in
          let e2 = given_more (suc v.labels) n in
          let e3 = given_more u2.labels n in
          let t1 = times_bound u v.labels n in
          let t2 = times_bound u4 (suc v.labels) n in
          let t3 = times_bound u8 u2.labels n in
          omega (arith, a, b, d, e1, e2, e3, t1, t2, t3);
    };
    freq = refl;
    known = g2.known ∙ g1.known ∙ x.known;
  }
