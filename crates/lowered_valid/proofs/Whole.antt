-- A whole procedure, from its entry on.
use Rattle.std.proofs.Common.{◌≡◌, ⊎_elim, inl, inr, ℕ, zero, suc, ◌-◌, List, [], ◌∷◌, length, take, Bool, true, false, Option, Some, None, refl, sym, ap, ◌∙◌, subst, slice_get}
use Rattle.std.specs.Prelude.{slice_index_or}
use Rattle.ob_types.specs.Layout.{kind_of}
use Rattle.ob_types.specs.declared.types.Formal.{Formal}
use Rattle.ob_types.specs.declared.program.Program.{Program}
use Rattle.block_runs.specs.declared.code.Code.TheVariants.{Arg, Zero}
use Rattle.block_runs.specs.declared.code.Code.TheVariants.{Local as LocalOp}
use Rattle.ssa_lowered.specs.Data.{Layout}
use Rattle.ssa_lowered.specs.Pieces.{Cursor, Low, ◌>>=◌, emits, Mask, rest, numbers}
use Rattle.ssa_lowered.specs.Variables.{Site, Register, Memory, Variable, some_structured, is_structured, further, zeroing, first_value, store_first, stored, first_of, opened, words_of}
use Rattle.ssa_lowered.specs.Lowered.{Here, by_mode, variable_of, in_register, deeds_of, answer, enters, whole}
use Rattle.ssa_lowered.proofs.Everywhere.{Each}
use Rattle.ob_types.proofs.Tests.{no}
use Rattle.lowered_valid.proofs.Lists.{In, Sub}
use Rattle.lowered_valid.proofs.Scoped.{Certificate, OfValue, OfNone, Known, Scoped, Begins, Certified, Env, up_env, starts_left, starts_right, sound_on, bind, gives, gives_first, lift, emitted, done}
use Rattle.lowered_valid.proofs.Tree.{OfWord, OfAnswer, OfNamed, s_const, s_skip, s_store, s_if, s_rest}

-- as `Scoped`, but for the variables behind it
pub record Concludes {A : Type 0} (f : Certificate) (P : A → List ℕ → Type 0) (w : List ℕ) (m : Low A) : Type 0 where
  pub by : (c : Cursor) → Sub w c.seen → Known f c.env c.seen → Begins f (m c).pieces → Certified f c.seen (m c).pieces (m c).after.seen × P (m c).result (m c).after.seen

bind_end : {A B : Type 0} {f : Certificate} {P : A → List ℕ → Type 0} {Q : B → List ℕ → Type 0} {w : List ℕ} {m : Low A} {k : A → Low B}
    → Scoped f P w m → ((a : A) (x : List ℕ) → Sub w x → P a x → Concludes f Q x (k a)) → Concludes f Q w (m >>= k)
bind_end {A} {B} {f} {P} {Q} {w} {m} {k} p q = record {
  by = λ c s e h.
      let a = m c in
      let b = k a.result a.after in
      let r = p.by c s e (starts_left f.start_at f.total a.pieces b.pieces h) in
      let t = (q a.result a.after.seen (λ v i. r.more v (s v i)) r.result).by a.after (λ v i. i) r.env (starts_right f.start_at f.total a.pieces b.pieces h) in
      (sound_on f.start_at f.total c.seen a.after.seen b.after.seen a.pieces b.pieces r.sound t.0, t.1);
}

-- before the variables have values there are none
abbrev pub before_all : Certificate → Certificate
before_all f = record f { size = 0 }

further_env : (i n : ℕ) (c : Cursor) → (further i n c).after.env ≡ c.env
further_env i zero c = refl
further_env i (suc n) c = further_env (suc i) n (emits (Arg i) [] c).after

module _ (f : Certificate) where
  -- the further argument words are seen behind them
  further_goes : (i n : ℕ) (c : Cursor) → Certified f c.seen (further i n c).pieces (further i n c).after.seen × (Sub c.seen (further i n c).after.seen × Sub (numbers c.values n) (further i n c).after.seen)
  further_goes i zero c = (refl, ((λ v j. j), (λ v j. absurd j)))
  further_goes i (suc n) c =
      let d = (emits (Arg i) [] c).after in
      let r = further_goes (suc i) n d in
      ((tt, r.0), ((λ v j. r.1.0 v (inr j)), (λ v j. ⊎_elim (λ (q : v ≡ c.values). r.1.0 v (inl q)) (λ (k : In v (numbers d.values n)). r.1.1 v k) j)))

  s_zeroing : (b : Bool) (all n : ℕ) → Scoped f OfNone [] (zeroing b all n)
  s_zeroing false all n = s_skip f
  s_zeroing true all n = bind f (emitted f (LocalOp all) [] tt) (λ a w1 s1 ia. bind f (s_const f n) (λ b w2 s2 ib. done f Zero (a ∷ b ∷ []) (s2 a ia, (ib, tt))))

  s_first_value : (w : Option ℕ) → OfWord f.given w → Scoped f OfValue [] (first_value w)
  s_first_value None i = s_const f 0
  s_first_value (Some w) i = gives_first f w (λ x s. s w i)

  module _ (p : Program) (l : Layout) (here : Here) where
    s_store_first : (v : Variable) (s : Site) → OfWord f.given v.word → Scoped f OfNone [] (store_first p.types l here.bytes v s)
    s_store_first v Register i = s_skip f
    s_store_first v (Memory n) i = s_if f (is_structured (kind_of p.types v.type_number)) (s_skip f)
        (bind f (emitted f (LocalOp (here.bytes - n)) [] tt) (λ a w1 s1 ia. bind f (lift f w1 (s_first_value v.word i)) (λ u w2 s2 iu. s_store f (l.is_small (kind_of p.types v.type_number)) a u (s2 a ia) iu)))

    s_stored : (vs : List Variable) → Each (λ (v : Variable). OfWord f.given v.word) vs → Scoped f OfNone [] (stored p.types l here.bytes vs)
    s_stored [] i = s_skip f
    s_stored (v ∷ vs) i = bind f (s_store_first v v.site i.0) (λ _ w s _. lift f w (s_stored vs i.1))

    abbrev OfFirst : Bool → ℕ → List ℕ → Type 0
    OfFirst b u w = b ≡ true → In u w

    weaker : {m : Low ℕ} (b : Bool) → Scoped f OfValue [] m → Scoped f (OfFirst b) [] m
    weaker b p = record { by = λ c s e h. let r = p.by c s e h in record { sound = r.sound; more = r.more; env = r.env; result = λ _. r.result } }

    s_first_of : (w : Option ℕ) (s : Site) → OfWord f.given w → Scoped f (OfFirst (in_register p l here s)) [] (first_of w s)
    s_first_of w Register i = weaker true (s_first_value w i)
    s_first_of w (Memory n) i = gives f 0 (λ x s e. no e)

    -- the first values of so many variables
    abbrev OfFirsts : Mask → ℕ → List ℕ → List ℕ → Type 0
    OfFirsts r n env w = Env f.given r env w × (length env ≡ n)

    s_opened : (vs : List Variable) (r : Mask) → ((x : ℕ) → in_register p l here (slice_index_or vs x (record { type_number = 0; word = None; site = Register })).site ≡ r x) → Each (λ (v : Variable). OfWord f.given v.word) vs
        → Scoped f (OfFirsts r (length vs)) [] (opened vs)
    s_opened [] r e i = gives_first f [] (λ x s. (s, refl))
    s_opened (v ∷ vs) r e i = bind f (s_first_of v.word v.site i.0) (λ u w1 s1 iu. bind f (lift f w1 (s_opened vs (rest r) (λ x. e (suc x)) i.1)) (λ more w2 s2 im.
        gives f (u ∷ more) (λ x s. (((λ q. s u (s2 u (iu (e 0 ∙ q)))), up_env f.given (rest r) more w2 x s im.0), ap suc im.1))))

module _ (f : Certificate) (p : Program) (l : Layout) (here : Here)
    (same : (x : ℕ) → in_register p l here (variable_of p l here x).site ≡ f.regs x)
    (words : (k : ℕ) (x : Formal) → slice_get here.procedure.formals k ≡ Some x → OfNamed f.regs (by_mode x.mode (words_of (take k here.procedure.formals))) f.given)
    (many : length here.variables ≡ f.size)
    (first : Each (λ (v : Variable). OfWord f.given v.word) here.variables) where
  abbrev behind_entry : Low (Option ℕ)
  behind_entry = deeds_of p l here here.procedure.body >>= λ _. answer p l here here.procedure.answer

  entered : {w : List ℕ} (env : List ℕ) → Env f.given f.regs env w → length env ≡ f.size → Concludes (before_all f) OfAnswer w (enters p l here env >>= λ _. behind_entry)
  entered {w} env i n = record {
    by = λ c s e h.
        let at : Cursor = record c { env = env } in
        let r = (s_rest f p l here same words here.procedure.body here.procedure.answer).by at (λ v j. absurd j) (record { values = up_env f.given f.regs env w c.seen s i; long = n }) h in
        (r.sound, r.result);
  }

  abbrev behind_words : ℕ → Low (Option ℕ)
  behind_words zeroed =
      zeroing (some_structured p.types here.procedure.locals) here.bytes zeroed >>= λ _. stored p.types l here.bytes here.variables >>= λ _. opened here.variables >>= λ env. enters p l here env >>= λ _. behind_entry

  from_words : (zeroed : ℕ) → Concludes (before_all f) OfAnswer [] (behind_words zeroed)
  from_words zeroed =
      let g = before_all f in
      bind_end (s_zeroing g (some_structured p.types here.procedure.locals) here.bytes zeroed) (λ _ w1 s1 _. bind_end (lift g w1 (s_stored g p l here here.variables first)) (λ _ w2 s2 _. bind_end (lift g w2 (s_opened g p l here here.variables f.regs same first)) (λ env w3 s3 ie.
      entered env ie.0 (ie.1 ∙ many))))

  -- from a cursor without variables, where the given values are those seen there and the further argument words
  pub sound_whole : (count zeroed : ℕ) (c : Cursor) → c.env ≡ [] → ((w : List ℕ) → Sub c.seen w → Sub (numbers c.values (count - 4)) w → Sub f.given w) → Begins f (whole p l here count zeroed c).pieces
      → Certified f c.seen (whole p l here count zeroed c).pieces (whole p l here count zeroed c).after.seen × OfAnswer (whole p l here count zeroed c).result (whole p l here count zeroed c).after.seen
  sound_whole count zeroed c empty g h =
      let a = further 4 (count - 4) c in
      let b = behind_words zeroed a.after in
      let r = further_goes f 4 (count - 4) c in
      let none = further_env 4 (count - 4) c ∙ empty in
      let e : Known (before_all f) a.after.env a.after.seen = record { values = subst (λ z. Env f.given f.regs z a.after.seen) (sym none) (g a.after.seen r.1.0 r.1.1); long = ap length none } in
      let t = (from_words zeroed).by a.after (λ v j. absurd j) e (starts_right f.start_at f.total a.pieces b.pieces h) in
      (sound_on f.start_at f.total c.seen a.after.seen b.after.seen a.pieces b.pieces r.0 t.0, t.1)
