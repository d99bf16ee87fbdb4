-- The parts of CASE, one after the other.
use Rattle.std.proofs.Common.{◌≡◌, ℕ, zero, suc, ◌+◌, ◌<◌, List, [], ◌∷◌, ◌++◌, length, Option, Some, None, refl, sym, ap, ap₂, ◌∙◌, arith}
use Rattle.block_runs.specs.declared.end.End.TheVariants.{Jump}
use Rattle.ssa_lowered.specs.Pieces.{Cursor, Made, close, fresh, plain, Mask, params, beyond, merged, picked, join, numbers}
use Rattle.ssa_lowered.specs.Pieces.{Piece as Placed}
use Rattle.ssa_lowered.specs.Limits.{passed}
use Rattle.ssa_lowered.specs.Statements.{Deed}
use Rattle.ssa_lowered.specs.Control.{Limbs, limbs, half}
use Rattle.ssa_exprs.specs.Making.{View, Known, all_bare, resolve_end, resolved, Fits, later, cursor_at, Came, bound, begins, closed, given}
use Rattle.ssa_exprs.specs.Changes.{rewound, Undoes, chosen, values_of, joined}
use Rattle.ssa_exprs.proofs.Giving.{later_first, came_as}
use Rattle.ssa_exprs.proofs.Flags.{limit_list}
use Rattle.ssa_exprs.proofs.Forks.{Adding, adding_on, adding_closed, at_plain, fits_bound, place_bound, times_bound, given_more}
use Rattle.ssa_exprs.proofs.Changes.{undoes_on, undoes_same, rewound_is, params_are}
use Rattle.ssa_statements.specs.Steps.{Steps}
use Rattle.ssa_statements.specs.Cases.{ends, entered, left_all, Parts}
use Rattle.ssa_statements.proofs.Joining.{picked_later, at_joined, undoes_joined}

-- an end with a block in the place of its label
ends_placed : (place : ℕ → ℕ) (leave : Option (List ℕ)) (to block : ℕ) → place to ≡ block → resolve_end place (ends leave to) ≡ ends leave block
ends_placed place None to block e = refl
ends_placed place (Some args) to block e = ap (λ n. Jump n args) e

-- no part: the join begins behind the block before
module _ (start v : View) (mask : Mask) (leave : Option (List ℕ)) (to first : ℕ) (k : Undoes start.known v.known) where
  abbrev xs : List ℕ
  xs = chosen mask 0 start.known.env

  abbrev u1 : View
  u1 = record v { known = rewound v.known (length start.known.log) }

  abbrev u2 : View
  u2 = joined u1 (ends leave to) xs start.freq None

  abbrev w0 : View
  w0 = left_all start v mask leave to

  know1 : u1.known ≡ start.known
  know1 = rewound_is k

  module _ (op : ℕ) (seen : List ℕ) (s : Cursor) (sf : s.freq ≡ start.freq) (se : s.env ≡ start.known.env) where
    abbrev c0 : Cursor
    c0 = cursor_at v op seen

    abbrev out : Cursor
    out = join mask c0 s s.freq

    params_in : params mask v.values s.env ≡ numbers v.values (length xs)
    params_in = ap (params mask v.values) se ∙ params_are mask 0 v.values start.known.env

    out_is : w0.over ≡ None → cursor_at w0 0 out.seen ≡ out
    out_is h =
        at_joined mask u1 start.known (ends leave to) start.freq None 0 out.seen know1 h
        ∙ ap₂ (λ (f : ℕ) (e : List ℕ). record { block = suc v.block; op = 0; freq = f; values = beyond mask v.values e; env = merged mask v.values e; seen = out.seen }) (sym sf) (sym se)

    limit_end : (by : Option (List ℕ)) (o : ℕ) → w0.over ≡ later v.over (passed ((limbs mask s [] c0 (ends by)).pieces o))
    limit_end by o = ap (λ ps. later v.over (begins v.block ps)) (sym params_in)

    adds_end : w0.over ≡ None → (place : ℕ → ℕ) → Fits place w0.bounds → resolved place w0.made ≡ resolved place v.made ++ all_bare ((limbs mask s [] c0 (ends leave)).pieces w0.block)
    adds_end h place i =
        (adding_closed u1 (ends leave to) (length xs) start.freq None place (ends leave w0.block) c0 s.seen h (ends_placed place leave to w0.block (place_bound u2 to place i))).is
        ∙ ap₂ (λ (p : List ℕ) (f : ℕ). resolved place v.made ++ all_bare (close c0 (ends leave w0.block) (record { params = p; freq = f; enter = None; seen = s.seen }) ∷ [])) (sym params_in) (sym sf)

  pub parts_none : Parts start v w0 mask leave to first []
  parts_none = record {
    fits = λ place i. fits_bound u2 to place i;
    joins = λ place i. place_bound u2 to place i;
    limit = λ place i op seen s sf se by o. limit_end op seen s sf se by o;
    adds = λ h place i op seen s sf se. adds_end op seen s sf se h place i;
    after = λ h place i op seen s sf se. sym (out_is op seen s sf se h);
    starts = λ h place i op seen s sf se n lt. absurd (omega (arith, lt));
    once = λ t.
        let b = times_bound u2 to t in
        let as_many : given (first + 0) t ≡ given first t = ap (λ n. given n t) (omega arith) in
        omega (arith, b, as_many);
    undoes = undoes_on (undoes_same know1) (undoes_joined u1 (ends leave to) xs start.freq None);
  }

-- a part, and those behind it
module _ (start v u2 w : View) (mask : Mask) (leave : Option (List ℕ)) (to first : ℕ) (body : Deed) (bodies : List Deed) (args : List ℕ) where
  abbrev q : ℕ
  q = half start.freq

  abbrev ys : List ℕ
  ys = chosen mask 0 start.known.env

  abbrev v1 : View
  v1 = closed v (ends leave to) 0 q None

  abbrev u : View
  u = entered start v leave to

  module _
      (k : Undoes start.known v.known)
      (y : Steps (bound u first) u2 body)
      (a : u2.over ≡ None → args ≡ values_of u2.known.env ys)
      (z : Parts start u2 w mask (Some args) to (suc first) bodies) where
    know : u.known ≡ start.known
    know = rewound_is k

    know2 : Undoes start.known u2.known
    know2 = undoes_on (undoes_same know) y.undoes

    module _ (op : ℕ) (seen : List ℕ) (s : Cursor) (sf : s.freq ≡ start.freq) (se : s.env ≡ start.known.env) where
      abbrev c : Cursor
      c = cursor_at v op seen

      abbrev begin : Cursor
      begin = record (fresh c) { freq = half s.freq; env = s.env; seen = s.seen }

      abbrev one : Made (Unit {0})
      one = body begin

      abbrev behind : Cursor → Limbs
      behind d = limbs mask s bodies d (ends (Some (picked mask d.env)))

      abbrev part_rest : ℕ → Cursor → List Placed
      part_rest o d = (body d).pieces ++ (behind (body d).after).pieces o

      begin_from : u.over ≡ None → begin ≡ cursor_at u 0 s.seen
      begin_from h =
          ap₂ (λ (f : ℕ) (e : List ℕ). record { block = suc v.block; op = 0; freq = half f; values = v.values; env = e; seen = s.seen }) sf (se ∙ sym (ap (λ (m : Known). m.env) know))
          ∙ ap (λ (d : Cursor). record d { env = u.known.env }) (sym (at_plain v (ends leave to) q None 0 s.seen h))

      module _ (place : ℕ → ℕ) (i : Fits place w.bounds) where
        fits2 : Fits place u2.bounds
        fits2 = z.fits place i

        fits1 : Fits place (bound u first).bounds
        fits1 = y.follows.fits place fits2

        limit_rest : (o : ℕ) → w.over ≡ later u.over (passed (part_rest o (cursor_at u 0 s.seen)))
        limit_rest o =
            let d = cursor_at u 0 s.seen in
            let m = body d in
            limit_list u.over m.pieces ((behind m.after).pieces o) (y.follows.limit place fits2 0 s.seen) (z.limit place i m.after.op m.after.seen s sf se (Some (picked mask u2.known.env)) o)
            (λ h. ap (λ e. passed ((behind e).pieces o)) (y.follows.by h place fits2 0 s.seen).after)

        limit_all : (by : Option (List ℕ)) (o : ℕ) → w.over ≡ later v.over (passed ((limbs mask s (body ∷ bodies) c (ends by)).pieces o))
        limit_all by o =
            limit_list v.over (close c (ends by o) (plain begin.freq begin.seen) ∷ []) (part_rest o begin) refl (limit_rest o) (λ h. ap (λ d. passed (part_rest o d)) (begin_from h))

        module _ (h : w.over ≡ None) where
          over2 : u2.over ≡ None
          over2 = later_first u2.over _ (sym (z.limit place i 0 [] s sf se None 0) ∙ h)

          over1 : u.over ≡ None
          over1 = later_first u.over _ (sym (y.follows.limit place fits2 0 []) ∙ over2)

          begin_is : begin ≡ cursor_at u 0 s.seen
          begin_is = begin_from over1

          one_came : Came (bound u first) u2 place one tt
          one_came = came_as (ap body begin_is) (y.follows.by over2 place fits2 0 s.seen)

          -- what the code left to is what the definition says
          behind_is : behind one.after ≡ limbs mask s bodies (cursor_at u2 one.after.op one.after.seen) (ends (Some args))
          behind_is =
              ap behind one_came.after
              ∙ ap (λ l. limbs mask s bodies (cursor_at u2 one.after.op one.after.seen) (ends (Some l))) (sym (a over2 ∙ picked_later mask know2))

          adds_all : resolved place w.made ≡ resolved place v.made ++ all_bare ((limbs mask s (body ∷ bodies) c (ends leave)).pieces w.block)
          adds_all =
              let b1 : Adding v u place (close c (ends leave w.block) (plain begin.freq begin.seen) ∷ []) =
              record { is = (adding_closed v (ends leave to) 0 q None place (ends leave w.block) c s.seen over1 (ends_placed place leave to w.block (z.joins place i))).is ∙ ap (λ f. resolved place v.made ++ all_bare (close c (ends leave w.block) (plain (half f) s.seen) ∷ [])) (sym sf) } in
              let b2 : Adding u u2 place one.pieces = record { is = one_came.adds } in
              let b3 : Adding u2 w place ((behind one.after).pieces w.block) =
              record { is = z.adds h place i one.after.op one.after.seen s sf se ∙ ap (λ (l : Limbs). resolved place u2.made ++ all_bare (l.pieces w.block)) (sym behind_is) } in
              (adding_on b1 (adding_on b2 b3)).is

          after_all : (limbs mask s (body ∷ bodies) c (ends leave)).after ≡ cursor_at w 0 (limbs mask s (body ∷ bodies) c (ends leave)).after.seen
          after_all =
              ap (λ (l : Limbs). l.after) behind_is ∙ z.after h place i one.after.op one.after.seen s sf se
              ∙ ap (λ (l : Limbs). cursor_at w 0 l.after.seen) (sym behind_is)

          starts_all : (n : ℕ) → n < suc (length bodies) → (limbs mask s (body ∷ bodies) c (ends leave)).starts n ≡ place (first + n)
          starts_all zero lt =
              let more : first + 0 ≡ first = omega arith in
              ap (λ (d : Cursor). d.block) begin_is ∙ sym (ap place more ∙ place_bound u first place fits1)
          starts_all (suc n) lt =
              let more : suc first + n ≡ first + suc n = omega arith in
              ap (λ (l : Limbs). l.starts n) behind_is ∙ z.starts h place i one.after.op one.after.seen s sf se n (omega (arith, lt)) ∙ ap place more

    pub parts_more : Parts start v w mask leave to first (body ∷ bodies)
    parts_more = record {
      fits = λ place i. fits_bound u first place (fits1 0 [] (cursor_at start 0 []) refl refl place i);
      joins = λ place i. z.joins place i;
      limit = λ place i op seen s sf se by o. limit_all op seen s sf se place i by o;
      adds = λ h place i op seen s sf se. adds_all op seen s sf se place i h;
      after = λ h place i op seen s sf se. after_all op seen s sf se place i h;
      starts = λ h place i op seen s sf se n lt. starts_all op seen s sf se place i h n lt;
      once = λ t.
          let b1 = y.once.by t in
          let b2 = z.once t in
          let t1 = times_bound u first t in
          let e1 = given_more first t in
          let as_many : given (suc first + length bodies) t ≡ given (first + suc (length bodies)) t = ap (λ n. given n t) (omega arith) in
          omega (arith, b1, b2, t1, e1, as_many);
      undoes = z.undoes;
    }
