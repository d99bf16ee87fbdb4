-- Turns are only spent, output and objects only added: of each small act, and so of every program.
use Rattle.std.proofs.Common.{◌≡◌, ℕ, zero, suc, ◌+◌, List, [], ◌∷◌, ◌++◌, length, take, Bool, true, false, Option, Some, None, refl, sym, ap, ◌∙◌, subst, arith, append_assoc}
use Rattle.std.specs.Prelude.{if◌then◌else◌}
use Rattle.std.proofs.lemmas.List.{length-set, length-map, map-append, take-map, length-append}
use Rattle.std.proofs.Math.Seq.{take-append_seam}
use Rattle.run_laws.specs.Runs.{StartsWith}
use Rattle.run_laws.specs.Turns.{State, Ending, Gives, Fails, Spent, after, ◌>>=◌, give, fail, look, change, spend, spend_of, repeat}
use Rattle.run_laws.proofs.BoundedRuns.{StartsWith_refl, StartsWith_trans}
use Rattle.ob_types.specs.Store.{Cell, Area, Globals, Frames, Heap, Strings, Address, Store, Trap, Senseless, Act, senseless, given, Handed, Here, objects, with_objects, cell_of, cell_put, can_write, put, write}
use Rattle.ob_types.specs.Expressions.{Calls}
use Rattle.ob_types.specs.Statements.{made, next_byte, next_byte_of}
use Rattle.ob_types.specs.Meaning.{value, effect, within, invoked, at_most, bodies}
use Rattle.ob_types.specs.declared.tree.Expr.{Expr}
use Rattle.ob_types.specs.declared.statements.Stmt.{Stmt}
use Rattle.ob_types.specs.declared.program.Module.{Module}
use Rattle.ob_types.specs.declared.program.Program.{Program}
use Rattle.ob_laws.specs.Laws.{shape, Later, Grows, OnlyAdds}
use Rattle.ob_laws.proofs.Related.{r_invoked, r_bodies, r_value, r_effect}

-- the order of states

pub later_refl : (s : State Store) → Later s s
later_refl s = record { turns = omega arith; out = StartsWith_refl s.out; globals = refl; frames = refl; strings = refl; heap = StartsWith_refl (shape s.store.heap); tags = StartsWith_refl s.store.tags; tagged = λ e. e; used = ([], refl) }

pub later_trans : (s t u : State Store) → Later s t → Later t u → Later s u
later_trans s t u a b = record {
  turns = let x = a.turns in let y = b.turns in omega (arith, x, y);
  out = StartsWith_trans u.out t.out s.out b.out a.out;
  globals = b.globals ∙ a.globals;
  frames = b.frames ∙ a.frames;
  strings = b.strings ∙ a.strings;
  heap = StartsWith_trans (shape u.store.heap) (shape t.store.heap) (shape s.store.heap) b.heap a.heap;
  tags = StartsWith_trans u.store.tags t.store.tags s.store.tags b.tags a.tags;
  tagged = λ e. b.tagged (a.tagged e);
  used = (a.used.0 ++ b.used.0, a.used.1 ∙ ap (λ x. a.used.0 ++ x) b.used.1 ∙ sym (append_assoc a.used.0 b.used.0 u.store.input));
}

grows_on : {A : Type 0} (s t : State Store) (e : Ending Store Trap A) → Later s t → Grows t e → Grows s e
grows_on s t (Gives a u) l g = later_trans s t u l g
grows_on s t (Fails trap out) l g = StartsWith_trans out t.out s.out g l.out
grows_on s t (Spent out) l g = StartsWith_trans out t.out s.out g l.out

grows_after : {A B : Type 0} (s : State Store) (e : Ending Store Trap A) (f : A → Act B) → Grows s e → ((a : A) → OnlyAdds (f a)) → Grows s (after e f)
grows_after s (Gives a t) f g h = grows_on s t (f a t) g ((h a).by t)
grows_after s (Fails trap out) f g h = g
grows_after s (Spent out) f g h = g

-- the monad

pub adds_bind : {A B : Type 0} {m : Act A} {f : A → Act B} → OnlyAdds m → ((a : A) → OnlyAdds (f a)) → OnlyAdds (m >>= f)
adds_bind {m = m} {f = f} p q = record { by = λ s. grows_after s (m s) f (p.by s) q }

pub adds_give : {A : Type 0} (a : A) → OnlyAdds (give a)
adds_give a = record { by = λ s. later_refl s }

pub adds_fail : {A : Type 0} (t : Trap) → OnlyAdds (fail {A = A} t)
adds_fail t = record { by = λ s. StartsWith_refl s.out }

pub adds_look : {A : Type 0} (f : Store → A) → OnlyAdds (look f)
adds_look f = record { by = λ s. later_refl s }

pub adds_given : {A : Type 0} (o : Option A) → OnlyAdds (given o)
adds_given None = adds_fail Senseless
adds_given (Some a) = adds_give a

pub adds_if : {A : Type 0} (b : Bool) {m n : Act A} → OnlyAdds m → OnlyAdds n → OnlyAdds (if b then m else n)
adds_if true p q = p
adds_if false p q = q

pub adds_spend : OnlyAdds spend
adds_spend = record { by = λ s. at s s.turns refl }
  where
    at : (s : State Store) (n : ℕ) → s.turns ≡ n → Grows s (spend_of n s)
    at s zero is = StartsWith_refl s.out
    at s (suc n) is = record { turns = omega (arith, is); out = StartsWith_refl s.out; globals = refl; frames = refl; strings = refl; heap = StartsWith_refl (shape s.store.heap); tags = StartsWith_refl s.store.tags; tagged = λ e. e; used = ([], refl) }

pub adds_repeat : (fuel : ℕ) {round : Act Bool} → OnlyAdds round → OnlyAdds (repeat fuel round)
adds_repeat zero p = record { by = λ s. StartsWith_refl s.out }
adds_repeat (suc fuel) p = record { by = λ s. (adds_bind adds_spend (λ _. adds_bind p (λ b. adds_if b (adds_repeat fuel p) (adds_give tt)))).by s }

-- the store

shape_put : (all : List (List Cell)) (o i : ℕ) (c : Cell) → shape (cell_put all o i c) ≡ shape all
shape_put [] o i c = refl
shape_put (cs ∷ all) zero i c = ap (λ n. n ∷ shape all) (length-set cs i c)
shape_put (cs ∷ all) (suc o) i c = ap (λ ns. length cs ∷ ns) (shape_put all o i c)

length_shape : (a b : List (List Cell)) → shape a ≡ shape b → length a ≡ length b
length_shape a b e = sym (length-map a (λ cs. length cs)) ∙ ap (λ x. length x) e ∙ length-map b (λ cs. length cs)

pub adds_write : (xs : List ℕ) → OnlyAdds (write xs)
adds_write xs = record { by = λ s. record { turns = omega arith; out = (xs, refl); globals = refl; frames = refl; strings = refl; heap = StartsWith_refl (shape s.store.heap); tags = StartsWith_refl s.store.tags; tagged = λ e. e; used = ([], refl) } }

grows_put : (s : State Store) (area : Area) (o i : ℕ) (c : Cell) → Grows s ((if can_write area then change (with_objects area (cell_put (objects area s.store) o i c)) else senseless) s)
grows_put s Globals o i c = record { turns = omega arith; out = StartsWith_refl s.out; globals = shape_put s.store.globals o i c; frames = refl; strings = refl; heap = StartsWith_refl (shape s.store.heap); tags = StartsWith_refl s.store.tags; tagged = λ e. e; used = ([], refl) }
grows_put s Frames o i c = record { turns = omega arith; out = StartsWith_refl s.out; globals = refl; frames = shape_put s.store.frames o i c; strings = refl; heap = StartsWith_refl (shape s.store.heap); tags = StartsWith_refl s.store.tags; tagged = λ e. e; used = ([], refl) }
grows_put s Heap o i c = record { turns = omega arith; out = StartsWith_refl s.out; globals = refl; frames = refl; strings = refl; heap = subst (λ x. StartsWith x (shape s.store.heap)) (sym (shape_put s.store.heap o i c)) (StartsWith_refl (shape s.store.heap)); tags = StartsWith_refl s.store.tags; tagged = λ e. e ∙ sym (length_shape (cell_put s.store.heap o i c) s.store.heap (shape_put s.store.heap o i c)); used = ([], refl) }
grows_put s Strings o i c = StartsWith_refl s.out

pub adds_put : (a : Address) (c : Cell) → OnlyAdds (put a c)
adds_put a c = record { by = λ s. at s (cell_of (objects a.area s.store) a.object a.cell) }
  where
    at : (s : State Store) (o : Option Cell) → Grows s (after (given o s) (λ _. look (objects a.area) >>= λ all. if can_write a.area then change (with_objects a.area (cell_put all a.object a.cell c)) else senseless))
    at s None = StartsWith_refl s.out
    at s (Some v) = grows_put s a.area a.object a.cell c

pub adds_made : (cells : List Cell) (tag : ℕ) → OnlyAdds (made cells tag)
adds_made cells tag = record {
  by = λ s. record {
    turns = omega arith;
    out = StartsWith_refl s.out;
    globals = refl;
    frames = refl;
    strings = refl;
    heap = (length cells ∷ [], map-append (λ cs. length cs) s.store.heap (cells ∷ []));
    tags = (tag ∷ [], refl);
    tagged = λ e. length-append s.store.tags (tag ∷ []) ∙ ap (λ n. n + 1) e ∙ sym (length-append s.store.heap (cells ∷ []));
    used = ([], refl);
  };
}

-- In.Char

pub adds_next_byte : OnlyAdds next_byte
adds_next_byte = record { by = λ s. at s s.store.input refl }
  where
    at : (s : State Store) (xs : List ℕ) → s.store.input ≡ xs → Grows s (next_byte_of xs s)
    at s [] is = later_refl s
    at s (x ∷ xs) is = record { turns = omega arith; out = StartsWith_refl s.out; globals = refl; frames = refl; strings = refl; heap = StartsWith_refl (shape s.store.heap); tags = StartsWith_refl s.store.tags; tagged = λ e. e; used = (x ∷ [], is) }

-- a call's own object

shape_back : (before : List (List Cell)) (own : List Cell) (now : List (List Cell)) → shape now ≡ shape (before ++ own ∷ []) → shape (take (length before) now) ≡ shape before
shape_back before own now e =
    sym (take-map (λ cs. length cs) (length before) now)
    ∙ ap (take (length before)) (e ∙ map-append (λ cs. length cs) before (own ∷ []))
    ∙ ap (λ n. take n (shape before ++ length own ∷ [])) (sym (length-map before (λ cs. length cs)))
    ∙ take-append_seam (shape before) (length own ∷ [])

pub adds_within : {A : Type 0} (own : List Cell) {body : ℕ → Act A} → ((k : ℕ) → OnlyAdds (body k)) → OnlyAdds (within own body)
adds_within {A = A} own {body = body} p = record { by = λ s. at s (body (length s.store.frames) (record s { store = record s.store { frames = s.store.frames ++ own ∷ [] } })) ((p (length s.store.frames)).by (record s { store = record s.store { frames = s.store.frames ++ own ∷ [] } })) }
  where
    at : (s : State Store) (e : Ending Store Trap A) → Grows (record s { store = record s.store { frames = s.store.frames ++ own ∷ [] } }) e → Grows s (after e (λ a t. Gives a (record t { store = record t.store { frames = take (length s.store.frames) t.store.frames } })))
    at s (Gives a t) g = record { turns = g.turns; out = g.out; globals = g.globals; frames = shape_back s.store.frames own t.store.frames g.frames; strings = g.strings; heap = g.heap; tags = g.tags; tagged = g.tagged; used = g.used }
    at s (Fails trap out) g = g
    at s (Spent out) g = g

-- the whole: every construct, by what holds of the small acts
module _ (p : Program) (fuel : ℕ) (calls : Calls) (adds : (g : ℕ) (hs : List Handed) → OnlyAdds (calls g hs)) where
  pub adds_invoked : (f : ℕ) (hs : List Handed) → OnlyAdds (invoked p calls fuel f hs)
  adds_invoked f hs =
      r_invoked (λ A m n. OnlyAdds n) fuel fuel
      (λ A B m n f g. adds_bind) (λ A a. adds_give a) (λ A t. adds_fail t) (λ A f. adds_look f) adds_spend
      (λ round again. adds_repeat fuel)
      adds_put adds_write adds_made adds_next_byte
      (λ A own body other. adds_within own)
      p calls calls adds f hs

  pub adds_value : (here : Here) (e : Expr) → OnlyAdds (value p calls here e)
  adds_value here e =
      r_value (λ A m n. OnlyAdds n) fuel fuel
      (λ A B m n f g. adds_bind) (λ A a. adds_give a) (λ A t. adds_fail t) (λ A f. adds_look f) adds_spend
      (λ round again. adds_repeat fuel)
      adds_put adds_write adds_made adds_next_byte
      (λ A own body other. adds_within own)
      p calls calls here adds e

  pub adds_effect : (here : Here) (s : Stmt) → OnlyAdds (effect p calls here fuel s)
  adds_effect here s =
      r_effect (λ A m n. OnlyAdds n) fuel fuel
      (λ A B m n f g. adds_bind) (λ A a. adds_give a) (λ A t. adds_fail t) (λ A f. adds_look f) adds_spend
      (λ round again. adds_repeat fuel)
      adds_put adds_write adds_made adds_next_byte
      (λ A own body other. adds_within own)
      p calls calls here adds s

pub adds_at_most : (p : Program) (fuel f : ℕ) (hs : List Handed) → OnlyAdds (at_most p fuel f hs)
adds_at_most p zero f hs = record { by = λ s. StartsWith_refl s.out }
adds_at_most p (suc fuel) f hs = record { by = λ s. (adds_bind adds_spend (λ _. adds_invoked p fuel (at_most p fuel) (adds_at_most p fuel) f hs)).by s }

pub adds_bodies : (p : Program) (fuel : ℕ) (ms : List Module) → OnlyAdds (bodies p fuel ms)
adds_bodies p fuel ms =
    r_bodies (λ A m n. OnlyAdds n) fuel fuel
    (λ A B m n f g. adds_bind) (λ A a. adds_give a) (λ A t. adds_fail t) (λ A f. adds_look f) adds_spend
    (λ round again. adds_repeat fuel)
    adds_put adds_write adds_made adds_next_byte
    (λ A own body other. adds_within own)
    p (adds_at_most p fuel) ms
