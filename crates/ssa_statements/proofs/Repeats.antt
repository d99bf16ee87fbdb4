-- REPEAT: the header, the body, the condition behind it, and the way back.
use Rattle.std.proofs.Common.{◌≡◌, ℕ, suc, List, [], ◌∷◌, ◌++◌, length, Some, None, refl, sym, ap, ap₂, ◌∙◌, arith}
use Rattle.block_runs.specs.declared.end.End.{End}
use Rattle.block_runs.specs.declared.end.End.TheVariants.{Jump}
use Rattle.ssa_lowered.specs.Pieces.{Cursor, Made, close, fresh, plain, Mask, picked, join, join_start, numbers}
use Rattle.ssa_lowered.specs.Pieces.{Piece as Placed}
use Rattle.ssa_lowered.specs.Limits.{passed}
use Rattle.ssa_lowered.specs.Statements.{Deed}
use Rattle.ssa_lowered.specs.Control.{Fork, Test, repeat, often, at_freq}
use Rattle.ssa_exprs.specs.Making.{View, all_bare, resolved, Fits, later, cursor_at, Came, asked, bound, begins, closed, as_part, Tests}
use Rattle.ssa_exprs.specs.Changes.{Undoes, chosen, values_of, joined}
use Rattle.ssa_exprs.proofs.Giving.{later_first, came_as}
use Rattle.ssa_exprs.proofs.Flags.{limit_list}
use Rattle.ssa_exprs.proofs.Forks.{Adding, adding_on, adding_closed, closed_before, at_plain, fits_bound, place_bound, times_bound, given_more}
use Rattle.ssa_exprs.proofs.Changes.{undoes_none, undoes_on, undoes_same, params_are}
use Rattle.ssa_statements.specs.Steps.{Steps}
use Rattle.ssa_statements.proofs.Joining.{picked_later, at_joined, undoes_joined}

module _ (v u3 u4 : View) (t : Test) (body : Deed) (mask : Mask) (args1 args2 : List ℕ) where
  abbrev xs : List ℕ
  xs = chosen mask 0 v.known.env

  abbrev q : ℕ
  q = often v.freq

  abbrev end1 : End
  end1 = Jump v.labels args1

  abbrev end2 : End
  end2 = Jump v.labels args2

  abbrev u1 : View
  u1 = joined (asked v) end1 xs q (Some v.block)

  abbrev exit_to : ℕ
  exit_to = u3.labels

  abbrev u5 : View
  u5 = closed (bound u4 (suc exit_to)) end2 0 v.freq None

  abbrev w : View
  w = bound u5 exit_to

  module _
      (a1 : v.over ≡ None → args1 ≡ values_of v.known.env xs)
      (y : Steps (bound u1 v.labels) u3 body)
      (x : Tests (asked (asked u3)) u4 t u3.labels (suc u3.labels) q)
      (a2 : u4.over ≡ None → args2 ≡ values_of u4.known.env xs) where
    know4 : Undoes v.known u4.known
    know4 = undoes_on (undoes_joined (asked v) end1 xs q (Some v.block)) (undoes_on y.undoes (undoes_same x.known))

    module _ (op : ℕ) (seen : List ℕ) where
      abbrev c0 : Cursor
      c0 = cursor_at v op seen

      abbrev head_at : Cursor
      head_at = join mask c0 c0 q

      abbrev one : Made (Unit {0})
      one = body head_at

      abbrev k : Fork
      k = t one.after

      abbrev back : Cursor
      back = at_freq k.after q

      abbrev exit : Cursor
      exit = at_freq (fresh back) v.freq

      abbrev part_back : Cursor → ℕ → List Placed
      part_back c hb = close c (Jump hb (picked mask c.env)) (plain v.freq c.seen) ∷ []

      abbrev part_test : Cursor → (yb nb hb : ℕ) → List Placed
      part_test o yb nb hb = (t o).pieces yb nb q ++ part_back (at_freq (t o).after q) hb

      abbrev part_body : Cursor → (yb nb hb : ℕ) → List Placed
      part_body c yb nb hb = (body c).pieces ++ part_test (body c).after yb nb hb

      head_is : u1.over ≡ None → cursor_at u1 0 head_at.seen ≡ head_at
      head_is h = at_joined mask (asked v) v.known end1 q (Some v.block) 0 head_at.seen refl h

      module _ (place : ℕ → ℕ) (i : Fits place w.bounds) where
        fits5 : Fits place (bound u4 (suc exit_to)).bounds
        fits5 = fits_bound u5 exit_to place i

        fits4 : Fits place u4.bounds
        fits4 = fits_bound u4 (suc exit_to) place fits5

        fits3 : Fits place u3.bounds
        fits3 = x.follows.fits place fits4

        fits1 : Fits place (bound u1 v.labels).bounds
        fits1 = y.follows.fits place fits3

        limit_test : (o : ℕ) (n : List ℕ) (yb nb hb : ℕ) → w.over ≡ later u3.over (passed (part_test (cursor_at u3 o n) yb nb hb))
        limit_test o n yb nb hb =
            let c = cursor_at u3 o n in
            limit_list u3.over ((t c).pieces yb nb q) (part_back (at_freq (t c).after q) hb)
            (x.follows.limit place fits4 o n ∙ ap (λ p. later u3.over p) (x.blind.by c (place u3.labels) (place (suc u3.labels)) q yb nb q))
            refl (λ h. ap (λ (d : Cursor). begins d.block []) (x.follows.by h place fits4 o n).after)

        limit_body : (n : List ℕ) (yb nb hb : ℕ) → w.over ≡ later u1.over (passed (part_body (cursor_at u1 0 n) yb nb hb))
        limit_body n yb nb hb =
            let c = cursor_at u1 0 n in
            limit_list u1.over (body c).pieces (part_test (body c).after yb nb hb) (y.follows.limit place fits3 0 n) (limit_test (body c).after.op (body c).after.seen yb nb hb)
            (λ h. ap (λ d. passed (part_test d yb nb hb)) (y.follows.by h place fits3 0 n).after)

        limit_all : w.over ≡ later v.over (passed (repeat mask body t c0).pieces)
        limit_all =
            limit_list v.over (close c0 (Jump head_at.block (picked mask c0.env)) (join_start mask c0 c0 q (Some v.block)) ∷ []) (part_body head_at exit.block back.block head_at.block)
            (ap (λ ps. later v.over (begins v.block ps)) (sym (params_are mask 0 v.values v.known.env)))
            (limit_body head_at.seen exit.block back.block head_at.block)
            (λ h. ap (λ d. passed (part_body d exit.block back.block head_at.block)) (sym (head_is h)))

        module _ (h : w.over ≡ None) where
          over4 : u4.over ≡ None
          over4 = closed_before (bound u4 (suc exit_to)) end2 0 v.freq None h

          over3 : u3.over ≡ None
          over3 = later_first u3.over _ (sym (x.follows.limit place fits4 0 []) ∙ over4)

          over1 : u1.over ≡ None
          over1 = later_first u1.over _ (sym (y.follows.limit place fits3 0 []) ∙ over3)

          over_v : v.over ≡ None
          over_v = closed_before (asked v) end1 (length xs) q (Some v.block) over1

          one_came : Came (bound u1 v.labels) u3 place one tt
          one_came = came_as (ap body (sym (head_is over1))) (y.follows.by over3 place fits3 0 head_at.seen)

          test_came : Came (asked (asked u3)) u4 place (as_part t (place u3.labels) (place (suc u3.labels)) q one.after) tt
          test_came = came_as (ap (as_part t (place u3.labels) (place (suc u3.labels)) q) one_came.after) (x.follows.by over4 place fits4 one.after.op one.after.seen)

          abbrev shape : (hb : ℕ) (p1 ps : List ℕ) (yb nb hb2 : ℕ) (p2 : List ℕ) → List Placed
          shape hb p1 ps yb nb hb2 p2 =
              close c0 (Jump hb p1) (record { params = ps; freq = q; enter = Some v.block; seen = seen })
              ∷ (one.pieces ++ (k.pieces yb nb q ++ (close back (Jump hb2 p2) (plain v.freq back.seen) ∷ [])))

          chain : Adding v w place (shape (place v.labels) args1 (numbers v.values (length xs)) (place u3.labels) (place (suc u3.labels)) (place v.labels) args2)
          chain =
              let b1 : Adding v u1 place (close c0 (Jump (place v.labels) args1) (record { params = numbers v.values (length xs); freq = q; enter = Some v.block; seen = seen }) ∷ []) =
              record { is = (adding_closed (asked v) end1 (length xs) q (Some v.block) place (Jump (place v.labels) args1) c0 seen over1 refl).is } in
              let b2 : Adding u1 u3 place one.pieces = record { is = one_came.adds } in
              let b3 : Adding u3 u4 place (k.pieces (place u3.labels) (place (suc u3.labels)) q) = record { is = test_came.adds } in
              let b4 : Adding u4 w place (close back (Jump (place v.labels) args2) (plain v.freq back.seen) ∷ []) =
              record { is = (adding_closed (bound u4 (suc exit_to)) end2 0 v.freq None place (Jump (place v.labels) args2) back back.seen h refl).is } in
              adding_on b1 (adding_on b2 (adding_on b3 b4))

          block_head : place v.labels ≡ head_at.block
          block_head = place_bound u1 v.labels place fits1 ∙ ap (λ (c : Cursor). c.block) (head_is over1)

          block_back : place (suc u3.labels) ≡ back.block
          block_back = place_bound u4 (suc exit_to) place fits5 ∙ sym (ap (λ (c : Cursor). c.block) test_came.after)

          exit_is : exit ≡ cursor_at u5 0 exit.seen
          exit_is =
              ap (λ (c : Cursor). record (fresh c) { freq = v.freq; seen = exit.seen }) test_came.after
              ∙ sym (at_plain (bound u4 (suc exit_to)) end2 v.freq None 0 exit.seen h)

          block_exit : place u3.labels ≡ exit.block
          block_exit = place_bound u5 exit_to place i ∙ sym (ap (λ (c : Cursor). c.block) exit_is)

          picked1 : args1 ≡ picked mask v.known.env
          picked1 = a1 over_v ∙ picked_later mask (undoes_none v.known)

          picked2 : args2 ≡ picked mask back.env
          picked2 = a2 over4 ∙ picked_later mask know4 ∙ sym (ap (λ (c : Cursor). picked mask c.env) test_came.after)

          came_all : Came v w place (repeat mask body t c0) tt
          came_all = record {
            adds =
                chain.is
                ∙ ap₂ (λ a b. resolved place v.made ++ all_bare (shape a b (numbers v.values (length xs)) (place u3.labels) (place (suc u3.labels)) a args2)) block_head picked1
                ∙ ap₂ (λ a b. resolved place v.made ++ all_bare (shape head_at.block (picked mask v.known.env) (numbers v.values (length xs)) a b head_at.block args2)) block_exit block_back
                ∙ ap₂ (λ a b. resolved place v.made ++ all_bare (shape head_at.block (picked mask v.known.env) a exit.block back.block head_at.block b)) (sym (params_are mask 0 v.values v.known.env)) picked2;
            after = exit_is;
            result = refl;
          }

    pub steps_repeat : Steps v w (repeat mask body t)
    steps_repeat = record {
      follows = record {
        fits = λ place i. fits_bound u1 v.labels place (fits1 0 [] place i);
        limit = λ place i op seen. limit_all op seen place i;
        by = λ h place i op seen. came_all op seen place i h;
      };
      once = record {
        by = λ n.
            let b1 = y.once.by n in
            let b2 = x.once.by n in
            let e1 = given_more v.labels n in
            let e2 = given_more u3.labels n in
            let e3 = given_more (suc u3.labels) n in
            let t1 = times_bound u1 v.labels n in
            let t2 = times_bound u4 (suc exit_to) n in
            let t3 = times_bound u5 exit_to n in
            omega (arith, b1, b2, e1, e2, e3, t1, t2, t3);
      };
      undoes = know4;
    }
