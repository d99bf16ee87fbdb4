-- Procedures, by turns; bodies; and the whole program, which makes sense.
use Rattle.std.proofs.Common.{◌≡◌, ℕ, zero, suc, ◌+◌, ◌<◌, List, [], ◌∷◌, ◌++◌, map, length, true, ◌&&◌, Some, refl, sym, ap₂, subst, arith, filter}
use Rattle.std.specs.Prelude.{slice_get, slice_index_or, replicate, nat_lt, nat_le}
use Rattle.run_laws.specs.Turns.{Ending, Gives, Fails, Spent, ◌>>=◌, give, look, spend, outcome}
use Rattle.ob_types.specs.Layout.{kind_of, cells_of_all}
use Rattle.ob_types.specs.Store.{Cell, Bits, Area, Globals, Frames, Heap, Strings, Store, Trap, objects, cell_of, trap}
use Rattle.ob_types.specs.Expressions.{Calls}
use Rattle.ob_types.specs.Meaning.{procedure_of, locals_of, is_value, texts_of, effects_of, answer, received, zeroed, cells_in, invoked, at_most, bodies, zeros, start, meaning}
use Rattle.ob_types.specs.declared.program.Module.{Module}
use Rattle.ob_types.specs.declared.program.Program.{Program}
use Rattle.ob_types.specs.Forms.{Form, Truth, Small, repeated, joined, all, all_below, types_fine, forms}
use Rattle.ob_types.specs.Sense.{MakesSense}
use Rattle.ob_types.specs.LegalTypes.{is_no_kind, formal_legal}
use Rattle.ob_types.specs.WellFormed
use Rattle.ob_types.specs.WellFormed.{Named, Cells, Of, OpenOf, Dynamic, Characters, Elementary, Letter, provided, is_number, is_small, is_truth, unary_form, binary_form, is_pointer, is_code, holds_of, with_some, gives_number, gives_pointer, is_equality, comparable, literal_by, literal, is_writable, element_by, open_element, record_by, is_char, is_empty, matched, pointed, changes, is_full, well_formed}
use Rattle.ob_types.proofs.Tests.{none_some, some_same, no, and_of, below}
use Rattle.ob_sound.proofs.Tables.{all_joined, starts, all_cells_length, starts_all}
use Rattle.ob_sound.proofs.Typed.{Any, Fits, Good, Sound, Typed, form_at, global_forms, lt_of, older_refl, older_trans, s_bind, s_give, s_given, s_spend, s_unless, s_within, string_forms, zeros_fit}
use Rattle.ob_sound.proofs.Constructs.{s_spend_all}
use Rattle.ob_sound.proofs.Handing.{AllTaken, CallsSound, FitAll, all_taken_older, all_taken_push, answers_older, fit_append, fit_at, fit_older, fit_zeros, joined_append, receive_all}
use Rattle.ob_sound.proofs.Tree.{t_answer, t_effects_of}

module _ (p : Program) where
  module _ (fine : types_fine p.types ≡ true) where
    -- procedures, by turns

    pub last_index : (fs : List (List Form)) (own : List Form) → slice_index_or (fs ++ own ∷ []) (length fs) [] ≡ own
    last_index [] own = refl
    last_index (f ∷ fs) own = last_index fs own

    pub s_look : {A : Type 0} {fs : List (List Form)} {tags : List ℕ} (f : Store → A) → Sound p fs tags (Any p) (look f)
    s_look f = record { by = λ s x typed. (typed, older_refl s.store.tags, tt) }

    module _ (bodies_fine : (f : ℕ) → f < length p.procedures → WellFormed.procedure_fine p f ≡ true) where
      pub s_invoked : (calls : Calls) (fuel : ℕ) → CallsSound p fine calls → CallsSound p fine (invoked p calls fuel)
      s_invoked calls fuel sound_calls fs tags g hs l taken =
          let q = procedure_of p g in
          let ok = and_of (all (formal_legal p.types) q.formals) (all (WellFormed.fine p g) q.body && WellFormed.answer_fine p g (WellFormed.form_of p q.result) q.answer) (bodies_fine g l) in
          let rest = and_of (all (WellFormed.fine p g) q.body) (WellFormed.answer_fine p g (WellFormed.form_of p q.result) q.answer) ok.1 in
          let r = receive_all p fine fs tags q.formals hs taken ok.0 in
          let own = joined (forms p.types) (locals_of q) in
          s_bind p {P = λ t values. FitAll p fine t (joined (forms p.types) (map (λ x. x.type_number) (filter (λ x. is_value x.mode) q.formals))) values} (s_given p (received q.formals hs) r.0 r.1 (λ more e. fit_older p fine tags more e (joined (forms p.types) (map (λ x. x.type_number) (filter (λ x. is_value x.mode) q.formals))) r.0 r.2)) (λ t1 values e1 fit. s_bind p (s_look (λ s. s.frames)) (λ t2 frames e2 u2. s_bind p (s_unless p g 8 (nat_lt (length frames) 8192)) (λ t3 u3 e3 v3. s_bind p (s_unless p g 9 (nat_le (cells_in frames + (length values + cells_of_all p.types q.locals)) 1048576)) (λ t4 u4 e4 v4. s_bind p (s_spend_all p fine (zeroed p q)) (λ t5 u5 e5 v5.
          let older = older_trans t1 t2 t5 e2 (older_trans t2 t3 t5 e3 (older_trans t3 t4 t5 e4 e5)) in
          s_within p own (values ++ replicate (cells_of_all p.types q.locals) (Bits 0)) (λ frame. effects_of p calls (record { procedure = g; frame = frame; arguments = hs }) fuel q.body >>= λ _. answer p calls (record { procedure = g; frame = frame; arguments = hs }) q.answer >>= λ c. spend >>= λ _. give c)
          (λ more e. fit_at p fine more own (values ++ replicate (cells_of_all p.types q.locals) (Bits 0)) (subst (λ xs. FitAll p fine more xs (values ++ replicate (cells_of_all p.types q.locals) (Bits 0))) (sym (joined_append p fine (map (λ x. x.type_number) (filter (λ x. is_value x.mode) q.formals)) q.locals))
          (fit_append p fine more (joined (forms p.types) (map (λ x. x.type_number) (filter (λ x. is_value x.mode) q.formals))) (joined (forms p.types) q.locals) values (replicate (cells_of_all p.types q.locals) (Bits 0)) (fit_older p fine t1 more (older_trans t1 t5 more older e) (joined (forms p.types) (map (λ x. x.type_number) (filter (λ x. is_value x.mode) q.formals))) values fit)
          (fit_zeros p fine more (joined (forms p.types) q.locals) (cells_of_all p.types q.locals) (all_cells_length p.types q.locals) (all_joined starts (forms p.types) (starts_all p.types) q.locals)))))
          (let inside = all_taken_push p fine fs own t5 q.formals hs (all_taken_older p fine fs tags t5 (older_trans tags t1 t5 e1 older) q.formals hs taken) in
          s_bind p (t_effects_of p fine calls sound_calls (record { procedure = g; frame = length fs; arguments = hs }) (fs ++ own ∷ []) t5 (last_index fs own) inside fuel q.body rest.0) (λ t6 u6 e6 v6.
          s_bind p (t_answer p fine calls sound_calls (record { procedure = g; frame = length fs; arguments = hs }) (fs ++ own ∷ []) t6 (last_index fs own) (all_taken_older p fine (fs ++ own ∷ []) t5 t6 e6 q.formals hs inside) (WellFormed.form_of p q.result) q.answer rest.1) (λ t7 c e7 a.
          s_bind p (s_spend p) (λ t8 u8 e8 v8. s_give p c (λ t9 e9. answers_older p fine t7 t9 (older_trans t7 t8 t9 e8 e9) (WellFormed.form_of p q.result) c a))))))))))

      pub s_at_most : (fuel : ℕ) → CallsSound p fine (at_most p fuel)
      s_at_most zero fs tags g hs l taken = record { by = λ s x typed. tt }
      s_at_most (suc fuel) fs tags g hs l taken = record { by = λ s x typed. (s_bind p (s_spend p) (λ more u e v. s_invoked (at_most p fuel) fuel (s_at_most fuel) fs more g hs l (all_taken_older p fine fs tags more e (procedure_of p g).formals hs taken))).by s x typed }

      empty_is : {A : Type 0} (xs : List A) → is_empty xs ≡ true → xs ≡ []
      empty_is [] h = refl
      empty_is (x ∷ xs) h = no h

      pub s_bodies : (fuel : ℕ) (tags : List ℕ) (ms : List Module) → all (WellFormed.module_fine p) ms ≡ true → Sound p [] tags (Any p) (bodies p fuel ms)
      s_bodies fuel tags [] h = s_give p tt (λ _ _. tt)
      s_bodies fuel tags (m ∷ ms) h =
          let y = and_of (WellFormed.module_fine p m) (all (WellFormed.module_fine p) ms) h in
          let alone = is_empty (procedure_of p m.body).formals && is_empty (procedure_of p m.body).locals in
          let silent = is_no_kind (kind_of p.types (procedure_of p m.body).result) && WellFormed.no_answer (procedure_of p m.body).answer in
          let u = and_of (nat_lt m.body (length p.procedures) && (procedure_of p m.body).is_body) (alone && silent) y.0 in
          let w = and_of (nat_lt m.body (length p.procedures)) (procedure_of p m.body).is_body u.0 in
          let v = and_of (is_empty (procedure_of p m.body).formals) (is_empty (procedure_of p m.body).locals) (and_of alone silent u.1).0 in
          let none = empty_is (procedure_of p m.body).formals v.0 in
          let ok = and_of (all (formal_legal p.types) (procedure_of p m.body).formals) (all (WellFormed.fine p m.body) (procedure_of p m.body).body && WellFormed.answer_fine p m.body (WellFormed.form_of p (procedure_of p m.body).result) (procedure_of p m.body).answer) (bodies_fine m.body (lt_of p m.body (length p.procedures) w.0)) in
          let body = and_of (all (WellFormed.fine p m.body) (procedure_of p m.body).body) (WellFormed.answer_fine p m.body (WellFormed.form_of p (procedure_of p m.body).result) (procedure_of p m.body).answer) ok.1 in
          s_bind p (t_effects_of p fine (at_most p fuel) (s_at_most fuel) (record { procedure = m.body; frame = 0; arguments = [] }) [] tags
          (sym (ap₂ (λ a b. joined (forms p.types) (map (λ x. x.type_number) (filter (λ x. is_value x.mode) a) ++ b)) none (empty_is (procedure_of p m.body).locals v.1)))
          (subst (λ xs. AllTaken p fine [] tags xs []) (sym none) tt) fuel (procedure_of p m.body).body body.0)
          (λ more w e z. s_bodies fuel more ms y.1)

      -- the store at the start

      text_cells : (xs : List ℕ) → all (λ c. nat_lt c 256) xs ≡ true → (i : ℕ) (k : Form) → slice_get (repeated (suc (length xs)) (Small ∷ [])) i ≡ Some k → (c : Cell) × (slice_get (map Bits xs ++ Bits 0 ∷ []) i ≡ Some c) × Fits p [] k c
      text_cells [] h zero k at = (Bits 0, refl, subst (λ k. Fits p [] k (Bits 0)) (some_same Small k at) (omega arith))
      text_cells [] h (suc i) k at = none_some k at
      text_cells (x ∷ xs) h zero k at = let parts = and_of (nat_lt x 256) (all (λ c. nat_lt c 256) xs) h in (Bits x, refl, subst (λ k. Fits p [] k (Bits x)) (some_same Small k at) (lt_of p x 256 parts.0))
      text_cells (x ∷ xs) h (suc i) k at = let parts = and_of (nat_lt x 256) (all (λ c. nat_lt c 256) xs) h in text_cells xs parts.1 i k at

      texts_typed : (ts : List (List ℕ)) → all (all (λ c. nat_lt c 256)) ts ≡ true → (o i : ℕ) (k : Form) → slice_get (slice_index_or (map (λ xs. repeated (suc (length xs)) (Small ∷ [])) ts) o []) i ≡ Some k → (c : Cell) × (cell_of (map (λ xs. map Bits xs ++ Bits 0 ∷ []) ts) o i ≡ Some c) × Fits p [] k c
      texts_typed [] h o i k at = none_some k at
      texts_typed (t ∷ ts) h zero i k at = let parts = and_of (all (λ c. nat_lt c 256) t) (all (all (λ c. nat_lt c 256)) ts) h in text_cells t parts.0 i k at
      texts_typed (t ∷ ts) h (suc o) i k at = let parts = and_of (all (λ c. nat_lt c 256) t) (all (all (λ c. nat_lt c 256)) ts) h in texts_typed ts parts.1 o i k at

      units_typed : (us : List Module) (o i : ℕ) (k : Form) → slice_get (slice_index_or (map (λ m. joined (forms p.types) m.variables) us) o []) i ≡ Some k → (c : Cell) × (cell_of (map (λ m. zeros p m.variables) us) o i ≡ Some c) × Fits p [] k c
      units_typed [] o i k at = none_some k at
      units_typed (u ∷ us) zero i k at = zeros_fit p [] (joined (forms p.types) u.variables) (cells_of_all p.types u.variables) (all_cells_length p.types u.variables) (all_joined starts (forms p.types) (starts_all p.types) u.variables) i k at
      units_typed (u ∷ us) (suc o) i k at = units_typed us o i k at

      pub start_typed : (input : List ℕ) → all (all (λ c. nat_lt c 256)) (texts_of p.procedures) ≡ true → all (λ x. nat_lt x 256) input ≡ true → Typed p [] (start p input)
      unfolding global_forms string_forms
      start_typed input texts bytes = record { cells = λ a k at. by a.area a.object a.cell k at; depth = refl; tagged = refl; bytes = bytes }
        where
          by : (area : Area) (o i : ℕ) (k : Form) → form_at p [] [] area o i ≡ Some k → (c : Cell) × (cell_of (objects area (start p input)) o i ≡ Some c) × Fits p [] k c
          by Globals zero zero k at = (Bits 0, refl, subst (λ k. Fits p [] k (Bits 0)) (some_same Truth k at) (omega arith))
          by Globals zero (suc i) k at = none_some k at
          by Globals (suc o) i k at = units_typed p.modules o i k at
          by Frames o i k at = none_some k at
          by Heap o i k at = none_some k at
          by Strings o i k at = texts_typed (texts_of p.procedures) texts o i k at

  pub good_sense : (fs : List (List Form)) (tags : List ℕ) (e : Ending Store Trap (Unit {0})) → Good p fs (Any p) tags e → MakesSense (outcome e)
  good_sense fs tags (Gives a t) g = tt
  good_sense fs tags (Fails trap out) g = g
  good_sense fs tags (Spent out) g = g

-- a well-formed program makes sense, on every input of bytes, with any number of turns
pub makes_sense : (p : Program) (input : List ℕ) (n : ℕ) → well_formed p ≡ true → all (λ x. nat_lt x 256) input ≡ true → MakesSense (meaning p input n)
makes_sense p input n h bytes =
    let rest = all (WellFormed.module_fine p) p.modules && all_below (length p.procedures) (WellFormed.procedure_fine p) in
    let a = and_of (types_fine p.types && WellFormed.declarations_fine p) (all (all (λ c. nat_lt c 256)) (texts_of p.procedures) && rest) h in
    let table = and_of (types_fine p.types) (WellFormed.declarations_fine p) a.0 in
    let b = and_of (all (all (λ c. nat_lt c 256)) (texts_of p.procedures)) rest a.1 in
    let c = and_of (all (WellFormed.module_fine p) p.modules) (all_below (length p.procedures) (WellFormed.procedure_fine p)) b.1 in
    let bodies_fine = below (length p.procedures) (WellFormed.procedure_fine p) c.1 in
    good_sense p [] [] (bodies p n p.modules (record { store = start p input; out = []; turns = n }))
    ((s_bodies p table.0 bodies_fine n [] p.modules c.0).by (record { store = start p input; out = []; turns = n }) (older_refl []) (start_typed p table.0 bodies_fine input b.0 bytes))
