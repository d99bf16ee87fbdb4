-- What is typed stays typed: objects have forms that never change, and each small act keeps them.
use Rattle.std.proofs.Common.{◌≡◌, ℕ, zero, suc, ◌+◌, ◌^◌, ◌<◌, List, [], ◌∷◌, ◌++◌, map, length, take, Bool, true, false, ◌&&◌, Option, Some, None, refl, sym, ap, ◌∙◌, subst, arith, ◌⊎◌, inl, inr, eqb-true, ltb→lt}
use Rattle.std.specs.Prelude.{slice_get, slice_set, slice_index_or, if◌then◌else◌, replicate, ◌==◌, nat_lt, nat_le}
use Rattle.std.proofs.lemmas.List.{length-append}
use Rattle.run_laws.specs.Turns.{State, Ending, Gives, Fails, Spent, after, ◌>>=◌, give, fail, look, change, spend, spend_of, repeat}
use Rattle.ob_types.specs.Layout.{extends}
use Rattle.ob_types.specs.Store.{Cell, Bits, Pointer, Code, Area, Globals, Frames, Heap, Strings, Address, Store, Trap, Kind, Act, senseless, given, Handed, At, Sized, Tagged, Span, objects, with_objects, cell_of, cell_put, can_write, fetch, put, address_in, write, trap, unless, tag_of, place}
use Rattle.ob_types.specs.Statements.{heap_cells, made, next_byte, next_byte_of}
use Rattle.ob_types.specs.Meaning.{texts_of, within}
use Rattle.ob_types.specs.declared.types.TypeKind.{TypeKind}
use Rattle.ob_types.specs.declared.types.TypeKind.TheVariants.{Array}
use Rattle.ob_types.specs.declared.program.Program.{Program}
use Rattle.ob_types.specs.Forms.{Form, Zero, Truth, Small, Number, ToRecord, Routines, Exactly, repeated, joined, all, forms, record_forms}
use Rattle.ob_types.specs.Sense.{HasSense}
use Rattle.ob_types.specs.WellFormed
use Rattle.ob_types.specs.WellFormed.{Named, Cells, Of, OpenOf, Dynamic, Characters, Elementary, Letter, provided, is_number, is_small, is_truth, unary_form, binary_form, is_pointer, is_code, holds_of, with_some, gives_number, gives_pointer, is_equality, comparable, literal_by, literal, is_writable, element_by, open_element, record_by, is_char, is_empty, matched, pointed, changes, is_full, well_formed}
use Rattle.ob_types.proofs.Tests.{none_some, some_same, no, and_of, all_at}
use Rattle.ob_sound.proofs.Tables.{get_left, get_right, starts, record_starts_all}

-- every object that is there stays, with its type
abbrev pub Older : List ℕ → List ℕ → Type 0
Older tags more = (o t : ℕ) → slice_get tags o ≡ Some t → slice_get more o ≡ Some t

pub older_refl : (tags : List ℕ) → Older tags tags
older_refl tags o t is = is

pub older_trans : (a b c : List ℕ) → Older a b → Older b c → Older a c
older_trans a b c p q o t is = q o t (p o t is)

-- a cell after another was written, or that one itself
pub set_get : (cs : List Cell) (i j : ℕ) (c : Cell) → ((i ≡ j) × ((v : Cell) → slice_get cs i ≡ Some v → slice_get (slice_set cs i c) j ≡ Some c)) ⊎ (slice_get (slice_set cs i c) j ≡ slice_get cs j)
set_get [] i j c = inr refl
set_get (x ∷ cs) zero zero c = inl (refl, λ v h. refl)
set_get (x ∷ cs) zero (suc j) c = inr refl
set_get (x ∷ cs) (suc i) zero c = inr refl
set_get (x ∷ cs) (suc i) (suc j) c = elim (set_get cs i j c) [ inl h ↦ inl (ap suc h.0, h.1) | inr e ↦ inr e ]

pub put_get : (all : List (List Cell)) (o i p j : ℕ) (c : Cell) → ((o ≡ p) × (i ≡ j) × ((v : Cell) → cell_of all o i ≡ Some v → cell_of (cell_put all o i c) p j ≡ Some c)) ⊎ (cell_of (cell_put all o i c) p j ≡ cell_of all p j)
put_get [] o i p j c = inr refl
put_get (cs ∷ all) zero i zero j c = elim (set_get cs i j c) [ inl h ↦ inl (refl, h.0, h.1) | inr e ↦ inr e ]
put_get (cs ∷ all) zero i (suc p) j c = inr refl
put_get (cs ∷ all) (suc o) i zero j c = inr refl
put_get (cs ∷ all) (suc o) i (suc p) j c = elim (put_get all o i p j c) [ inl h ↦ inl (ap suc h.0, h.1, h.2) | inr e ↦ inr e ]

pub put_length : (all : List (List Cell)) (o i : ℕ) (c : Cell) → length (cell_put all o i c) ≡ length all
put_length [] o i c = refl
put_length (cs ∷ all) zero i c = refl
put_length (cs ∷ all) (suc o) i c = ap suc (put_length all o i c)

abbrev pub Written : Store → Area → ℕ → ℕ → Cell → Area → ℕ → ℕ → Type 0
Written s a o i c b p j = ((a ≡ b) × (o ≡ p) × (i ≡ j) × ((v : Cell) → cell_of (objects a s) o i ≡ Some v → cell_of (objects b (with_objects a (cell_put (objects a s) o i c) s)) p j ≡ Some c)) ⊎ (cell_of (objects b (with_objects a (cell_put (objects a s) o i c) s)) p j ≡ cell_of (objects b s) p j)

pub written : (s : Store) (a : Area) (o i : ℕ) (c : Cell) (b : Area) (p j : ℕ) → Written s a o i c b p j
written s Globals o i c Globals p j = elim (put_get s.globals o i p j c) [ inl h ↦ inl (refl, h.0, h.1, h.2) | inr e ↦ inr e ]
written s Frames o i c Frames p j = elim (put_get s.frames o i p j c) [ inl h ↦ inl (refl, h.0, h.1, h.2) | inr e ↦ inr e ]
written s Heap o i c Heap p j = elim (put_get s.heap o i p j c) [ inl h ↦ inl (refl, h.0, h.1, h.2) | inr e ↦ inr e ]
written s Strings o i c b p j = inr refl
written s Globals o i c Frames p j = inr refl
written s Globals o i c Heap p j = inr refl
written s Globals o i c Strings p j = inr refl
written s Frames o i c Globals p j = inr refl
written s Frames o i c Heap p j = inr refl
written s Frames o i c Strings p j = inr refl
written s Heap o i c Globals p j = inr refl
written s Heap o i c Frames p j = inr refl
written s Heap o i c Strings p j = inr refl

pub tags_stay : (s : Store) (a : Area) (all : List (List Cell)) → (with_objects a all s).tags ≡ s.tags
tags_stay s Globals all = refl
tags_stay s Frames all = refl
tags_stay s Heap all = refl
tags_stay s Strings all = refl

pub input_stays : (s : Store) (a : Area) (all : List (List Cell)) → (with_objects a all s).input ≡ s.input
input_stays s Globals all = refl
input_stays s Frames all = refl
input_stays s Heap all = refl
input_stays s Strings all = refl

pub frames_stay : (s : Store) (a : Area) (o i : ℕ) (c : Cell) → length (with_objects a (cell_put (objects a s) o i c) s).frames ≡ length s.frames
frames_stay s Globals o i c = refl
frames_stay s Frames o i c = put_length s.frames o i c
frames_stay s Heap o i c = refl
frames_stay s Strings o i c = refl

pub heap_stays : (s : Store) (a : Area) (o i : ℕ) (c : Cell) → length (with_objects a (cell_put (objects a s) o i c) s).heap ≡ length s.heap
heap_stays s Globals o i c = refl
heap_stays s Frames o i c = refl
heap_stays s Heap o i c = put_length s.heap o i c
heap_stays s Strings o i c = refl

module _ (p : Program) where
  unfoldable pub global_forms : List (List Form)
  global_forms = (Truth ∷ []) ∷ map (λ m. joined (forms p.types) m.variables) p.modules

  unfoldable pub string_forms : List (List Form)
  string_forms = map (λ xs. repeated (suc (length xs)) (Small ∷ [])) (texts_of p.procedures)

  -- a cell that has a form
  abbrev pub Fits : List ℕ → Form → Cell → Type 0
  Fits tags Zero (Bits n) = n ≡ 0
  Fits tags Truth (Bits n) = n < 2
  Fits tags Small (Bits n) = n < 256
  Fits tags Number (Bits n) = n < 2 ^ 64
  Fits tags (ToRecord r) (Bits n) = n ≡ 0
  Fits tags (ToRecord r) (Pointer o) = (t : ℕ) × (slice_get tags o ≡ Some t) × (extends p.types t r ≡ true)
  Fits tags (Routines k) (Bits n) = n ≡ 0
  Fits tags (Routines k) (Code f) = WellFormed.is_of_type p f k ≡ true
  Fits tags (Exactly g) (Code f) = f ≡ g
  Fits tags _ _ = ⊥

  abbrev pub HasForm : Form → List ℕ → Cell → Type 0
  HasForm k tags c = Fits tags k c

  abbrev pub object_forms : Option ℕ → List Form
  object_forms None = []
  object_forms (Some t) = record_forms p.types t

  -- the form of a cell, where the active calls' objects have these forms and the heap's objects these tags
  abbrev pub form_at : List (List Form) → List ℕ → Area → ℕ → ℕ → Option Form
  form_at fs tags Globals o i = slice_get (slice_index_or global_forms o []) i
  form_at fs tags Frames o i = slice_get (slice_index_or fs o []) i
  form_at fs tags Heap o i = slice_get (object_forms (slice_get tags o)) i
  form_at fs tags Strings o i = slice_get (slice_index_or string_forms o []) i

  abbrev pub Formed : List (List Form) → List ℕ → Address → Form → Type 0
  Formed fs tags a k = form_at fs tags a.area a.object a.cell ≡ Some k

  -- each cell that has a form is there and fits it
  pub record Typed (fs : List (List Form)) (s : Store) : Type 0 where
    pub cells : (a : Address) (k : Form) → Formed fs s.tags a k → (c : Cell) × (cell_of (objects a.area s) a.object a.cell ≡ Some c) × Fits s.tags k c
    pub depth : length s.frames ≡ length fs
    pub tagged : length s.tags ≡ length s.heap
    pub bytes : all (λ x. nat_lt x 256) s.input ≡ true

  pub fits_older : (tags more : List ℕ) → Older tags more → (k : Form) (c : Cell) → Fits tags k c → Fits more k c
  fits_older tags more e Zero (Bits n) f = f
  fits_older tags more e Truth (Bits n) f = f
  fits_older tags more e Small (Bits n) f = f
  fits_older tags more e Number (Bits n) f = f
  fits_older tags more e (ToRecord r) (Bits n) f = f
  fits_older tags more e (ToRecord r) (Pointer o) f = (f.0, e o f.0 f.1, f.2)
  fits_older tags more e (Routines k) (Bits n) f = f
  fits_older tags more e (Routines k) (Code g) f = f
  fits_older tags more e (Exactly g) (Code h) f = f
  fits_older tags more e _ _ f = absurd f

  abbrev pub Good : {A : Type 0} → List (List Form) → (List ℕ → A → Type 0) → List ℕ → Ending Store Trap A → Type 0
  Good fs P tags (Gives a t) = Typed fs t.store × Older tags t.store.tags × P t.store.tags a
  Good fs P tags (Fails trap out) = HasSense trap
  Good fs P tags (Spent out) = Unit {0}

  -- where at least these objects are there, the part makes sense, keeps all forms, and gives what P says
  pub record Sound {A : Type 0} (fs : List (List Form)) (tags : List ℕ) (P : List ℕ → A → Type 0) (m : Act A) : Type 0 where
    pub by : (s : State Store) → Older tags s.store.tags → Typed fs s.store → Good fs P s.store.tags (m s)

  pub good_after : {A B : Type 0} (fs : List (List Form)) (tags : List ℕ) (P : List ℕ → A → Type 0) (Q : List ℕ → B → Type 0) (now : List ℕ) → Older tags now → (e : Ending Store Trap A) (f : A → Act B) → Good fs P now e → ((more : List ℕ) (a : A) → Older tags more → P more a → Sound fs more Q (f a)) → Good fs Q now (after e f)
  good_after {B = B} fs tags P Q now x (Gives a t) f g q = good_on (f a t) ((q t.store.tags a (older_trans tags now t.store.tags x g.1) g.2).by t (older_refl t.store.tags) g.0)
    where
      good_on : (e : Ending Store Trap B) → Good fs Q t.store.tags e → Good fs Q now e
      good_on (Gives b u) h = (h.0, older_trans now t.store.tags u.store.tags g.1 h.1, h.2)
      good_on (Fails trap out) h = h
      good_on (Spent out) h = h
  good_after fs tags P Q now x (Fails trap out) f g q = g
  good_after fs tags P Q now x (Spent out) f g q = g

  pub s_bind : {A B : Type 0} {fs : List (List Form)} {tags : List ℕ} {P : List ℕ → A → Type 0} {Q : List ℕ → B → Type 0} {m : Act A} {f : A → Act B} → Sound fs tags P m → ((more : List ℕ) (a : A) → Older tags more → P more a → Sound fs more Q (f a)) → Sound fs tags Q (m >>= f)
  s_bind {fs = fs} {tags = tags} {P = P} {Q = Q} {m = m} {f = f} x q = record { by = λ s y typed. good_after fs tags P Q s.store.tags y (m s) f (x.by s y typed) q }

  pub s_older : {A : Type 0} {fs : List (List Form)} {tags more : List ℕ} {P : List ℕ → A → Type 0} {m : Act A} → Older tags more → Sound fs tags P m → Sound fs more P m
  s_older {tags = tags} {more = more} x q = record { by = λ s y typed. q.by s (older_trans tags more s.store.tags x y) typed }

  pub weaker : {A : Type 0} (fs : List (List Form)) (tags : List ℕ) (P Q : List ℕ → A → Type 0) (e : Ending Store Trap A) → ((t : List ℕ) (a : A) → P t a → Q t a) → Good fs P tags e → Good fs Q tags e
  weaker fs tags P Q (Gives a t) f g = (g.0, g.1, f t.store.tags a g.2)
  weaker fs tags P Q (Fails trap out) f g = g
  weaker fs tags P Q (Spent out) f g = g

  pub s_weaker : {A : Type 0} {fs : List (List Form)} {tags : List ℕ} {P Q : List ℕ → A → Type 0} {m : Act A} → ((t : List ℕ) (a : A) → P t a → Q t a) → Sound fs tags P m → Sound fs tags Q m
  s_weaker {fs = fs} {P = P} {Q = Q} {m = m} f q = record { by = λ s y typed. weaker fs s.store.tags P Q (m s) f (q.by s y typed) }

  pub s_give : {A : Type 0} {fs : List (List Form)} {tags : List ℕ} {P : List ℕ → A → Type 0} (a : A) → ((more : List ℕ) → Older tags more → P more a) → Sound fs tags P (give a)
  s_give a q = record { by = λ s x typed. (typed, older_refl s.store.tags, q s.store.tags x) }

  pub s_trap : {A : Type 0} {fs : List (List Form)} {tags : List ℕ} {P : List ℕ → A → Type 0} (kind f : ℕ) → Sound fs tags P (fail (Kind kind f))
  s_trap kind f = record { by = λ s x typed. tt }

  pub s_given : {A : Type 0} {fs : List (List Form)} {tags : List ℕ} {P : List ℕ → A → Type 0} (o : Option A) (a : A) → o ≡ Some a → ((more : List ℕ) → Older tags more → P more a) → Sound fs tags P (given o)
  s_given {fs = fs} {tags = tags} {P = P} o a is q = subst (λ x. Sound fs tags P (given x)) (sym is) (s_give a q)

  abbrev pub Any : {A : Type 0} → List ℕ → A → Type 0
  Any tags a = Unit {0}

  -- after a test its being true is known
  pub s_unless : {fs : List (List Form)} {tags : List ℕ} (f kind : ℕ) (b : Bool) → Sound fs tags (λ t u. b ≡ true) (unless f kind b)
  s_unless f kind true = s_give tt (λ _ _. refl)
  s_unless f kind false = s_trap kind f

  pub spend_good : (fs : List (List Form)) (n : ℕ) (s : State Store) → Typed fs s.store → Good fs Any s.store.tags (spend_of n s)
  spend_good fs zero s typed = tt
  spend_good fs (suc n) s typed = (typed, older_refl s.store.tags, tt)

  pub s_spend : {fs : List (List Form)} {tags : List ℕ} → Sound fs tags Any spend
  s_spend {fs = fs} = record { by = λ s x typed. spend_good fs s.turns s typed }

  pub s_repeat : {fs : List (List Form)} {tags : List ℕ} (fuel : ℕ) (round : Act Bool) → Sound fs tags Any round → Sound fs tags Any (repeat fuel round)
  s_repeat zero round q = record { by = λ s x typed. tt }
  s_repeat {fs = fs} (suc fuel) round q = record { by = λ s x typed. (s_bind s_spend (λ more a e u. s_bind (s_older e q) (λ most b e2 v. s_if b (s_repeat fuel round (s_older (older_trans _ more most e e2) q)) (s_give tt (λ _ _. tt))))).by s x typed }
    where
      s_if : {tags : List ℕ} (b : Bool) {m n : Act (Unit {0})} → Sound fs tags Any m → Sound fs tags Any n → Sound fs tags Any (if b then m else n)
      s_if true m n = m
      s_if false m n = n

  pub s_if : {A : Type 0} {fs : List (List Form)} {tags : List ℕ} {P : List ℕ → A → Type 0} (b : Bool) {m n : Act A} → Sound fs tags P m → Sound fs tags P n → Sound fs tags P (if b then m else n)
  s_if true m n = m
  s_if false m n = n

  pub s_write : {fs : List (List Form)} {tags : List ℕ} (xs : List ℕ) → Sound fs tags Any (write xs)
  s_write xs = record { by = λ s x typed. (typed, older_refl s.store.tags, tt) }

  pub form_older : (fs : List (List Form)) (tags more : List ℕ) → Older tags more → (area : Area) (o i : ℕ) (k : Form) → form_at fs tags area o i ≡ Some k → form_at fs more area o i ≡ Some k
  form_older fs tags more e Globals o i k is = is
  form_older fs tags more e Frames o i k is = is
  form_older fs tags more e Strings o i k is = is
  form_older fs tags more e Heap o i k is = by_tag (slice_get tags o) refl
    where
      by_tag : (t : Option ℕ) → slice_get tags o ≡ t → slice_get (object_forms (slice_get more o)) i ≡ Some k
      by_tag None at = none_some k (subst (λ t. slice_get (object_forms t) i ≡ Some k) at is)
      by_tag (Some t) at = subst (λ u. slice_get (object_forms u) i ≡ Some k) (sym (e o t at)) (subst (λ u. slice_get (object_forms u) i ≡ Some k) at is)

  pub s_fetch : {fs : List (List Form)} {tags : List ℕ} (a : Address) (k : Form) → Formed fs tags a k → Sound fs tags (HasForm k) (fetch a)
  s_fetch {fs = fs} {tags = tags} a k is = record {
    by = λ s x typed.
        let c = typed.cells a k (form_older fs tags s.store.tags x a.area a.object a.cell k is) in
        subst (λ q. Good fs (HasForm k) s.store.tags (given q s)) (sym c.1) (typed, older_refl s.store.tags, c.2);
  }

  pub typed_put : (fs : List (List Form)) (s : Store) (a : Address) (k : Form) (c : Cell) → Formed fs s.tags a k → Fits s.tags k c → Typed fs s → Typed fs (with_objects a.area (cell_put (objects a.area s) a.object a.cell c) s)
  typed_put fs s a k c is fits typed = record {
    cells = λ b l at. by b l (subst (λ tags. Formed fs tags b l) (tags_stay s a.area (cell_put (objects a.area s) a.object a.cell c)) at) (written s a.area a.object a.cell c b.area b.object b.cell);
    depth = frames_stay s a.area a.object a.cell c ∙ typed.depth;
    tagged = ap (λ t. length t) (tags_stay s a.area (cell_put (objects a.area s) a.object a.cell c)) ∙ typed.tagged ∙ sym (heap_stays s a.area a.object a.cell c);
    bytes = subst (λ xs. all (λ x. nat_lt x 256) xs ≡ true) (sym (input_stays s a.area (cell_put (objects a.area s) a.object a.cell c))) typed.bytes;
  }
    where
      with_tags : (l : Form) (d : Cell) → Fits s.tags l d → Fits (with_objects a.area (cell_put (objects a.area s) a.object a.cell c) s).tags l d
      with_tags l d f = subst (λ tags. Fits tags l d) (sym (tags_stay s a.area (cell_put (objects a.area s) a.object a.cell c))) f

      by : (b : Address) (l : Form) → Formed fs s.tags b l → Written s a.area a.object a.cell c b.area b.object b.cell → (d : Cell) × (cell_of (objects b.area (with_objects a.area (cell_put (objects a.area s) a.object a.cell c) s)) b.object b.cell ≡ Some d) × Fits (with_objects a.area (cell_put (objects a.area s) a.object a.cell c) s).tags l d
      by b l at (inr e) = let d = typed.cells b l at in (d.0, e ∙ d.1, with_tags l d.0 d.2)
      by b l at (inl h) =
          let d = typed.cells a k is in
          let there : Formed fs s.tags b k = subst (λ x. form_at fs s.tags x b.object b.cell ≡ Some k) h.0 (subst (λ x. form_at fs s.tags a.area x b.cell ≡ Some k) h.1 (subst (λ x. form_at fs s.tags a.area a.object x ≡ Some k) h.2 is)) in
          (c, h.3 d.0 d.1, with_tags l c (subst (λ m. Fits s.tags m c) (some_same k l (sym there ∙ at)) fits))

  pub s_put : {fs : List (List Form)} {tags : List ℕ} (a : Address) (k : Form) (c : Cell) → Formed fs tags a k → can_write a.area ≡ true → Fits tags k c → Sound fs tags Any (put a c)
  s_put {fs = fs} {tags = tags} a k c is ok fits = record {
    by = λ s x typed.
        let here = form_older fs tags s.store.tags x a.area a.object a.cell k is in
        let d = typed.cells a k here in
        let new = cell_put (objects a.area s.store) a.object a.cell c in
        subst (λ q. Good fs Any s.store.tags (after (given q s) (λ _. look (objects a.area) >>= λ all. if can_write a.area then change (with_objects a.area (cell_put all a.object a.cell c)) else senseless))) (sym d.1)
        (subst (λ w. Good fs Any s.store.tags ((if w then change (with_objects a.area new) else senseless) s)) (sym ok)
        (typed_put fs s.store a k c here (fits_older tags s.store.tags x k c fits) typed, subst (λ t. Older s.store.tags t) (sym (tags_stay s.store a.area new)) (older_refl s.store.tags), tt));
  }

  pub s_tag_of : {fs : List (List Form)} {tags : List ℕ} (o t : ℕ) → slice_get tags o ≡ Some t → Sound fs tags (λ more u. (slice_get more o ≡ Some u) × (u ≡ t)) (tag_of o)
  s_tag_of {fs = fs} {tags = tags} o t is = record {
    by = λ s x typed.
        subst (λ q. Good fs (λ more u. (slice_get more o ≡ Some u) × (u ≡ t)) s.store.tags (given q s)) (sym (x o t is)) (typed, older_refl s.store.tags, (x o t is, refl));
  }

  -- the input

  pub typed_input : (fs : List (List Form)) (s : Store) (xs : List ℕ) → all (λ x. nat_lt x 256) xs ≡ true → Typed fs s → Typed fs (record s { input = xs })
  typed_input fs s xs ok typed = record { cells = λ a k at. by a.area a.object a.cell k (typed.cells a k at); depth = typed.depth; tagged = typed.tagged; bytes = ok }
    where
      by : (area : Area) (o i : ℕ) (k : Form) → (c : Cell) × (cell_of (objects area s) o i ≡ Some c) × Fits s.tags k c → (c : Cell) × (cell_of (objects area (record s { input = xs })) o i ≡ Some c) × Fits s.tags k c
      by Globals o i k h = h
      by Frames o i k h = h
      by Heap o i k h = h
      by Strings o i k h = h

  abbrev pub InputByte : List ℕ → Option ℕ → Type 0
  InputByte tags None = Unit {0}
  InputByte tags (Some x) = x < 256

  pub next_good : (fs : List (List Form)) (s : State Store) (xs : List ℕ) → all (λ x. nat_lt x 256) xs ≡ true → Typed fs s.store → Good fs InputByte s.store.tags (next_byte_of xs s)
  next_good fs s [] ok typed = (typed, older_refl s.store.tags, tt)
  next_good fs s (x ∷ xs) ok typed =
      let parts = and_of (nat_lt x 256) (all (λ x. nat_lt x 256) xs) ok in
      (typed_input fs s.store xs parts.1 typed, older_refl s.store.tags, less x 256 parts.0)
    where
      less : (a b : ℕ) → nat_lt a b ≡ true → a < b
      less a b h = grind (arith, ltb→lt)

  pub s_next_byte : {fs : List (List Form)} {tags : List ℕ} → Sound fs tags InputByte next_byte
  s_next_byte {fs = fs} = record { by = λ s x typed. next_good fs s s.store.input typed.bytes typed }

  -- where forms stand

  abbrev pub Stands : List (List Form) → List ℕ → Address → List Form → Type 0
  Stands fs tags a xs = (i : ℕ) (k : Form) → slice_get xs i ≡ Some k → form_at fs tags a.area a.object (a.cell + i) ≡ Some k

  pub stands_older : (fs : List (List Form)) (tags more : List ℕ) → Older tags more → (a : Address) (xs : List Form) → Stands fs tags a xs → Stands fs more a xs
  stands_older fs tags more e a xs h i k at = form_older fs tags more e a.area a.object (a.cell + i) k (h i k at)

  -- a new object of the heap

  pub added : (tags : List ℕ) (heap : List (List Cell)) → length tags ≡ length heap → (r : ℕ) (cs : List Cell) (o : ℕ) → ((t : ℕ) × (slice_get (tags ++ r ∷ []) o ≡ Some t) × (slice_get tags o ≡ Some t) × (slice_index_or (heap ++ cs ∷ []) o [] ≡ slice_index_or heap o [])) ⊎ (((slice_get (tags ++ r ∷ []) o ≡ Some r) × (slice_index_or (heap ++ cs ∷ []) o [] ≡ cs)) ⊎ (slice_get (tags ++ r ∷ []) o ≡ None))
  added [] [] e r cs zero = inr (inl (refl, refl))
  added [] [] e r cs (suc o) = inr (inr refl)
  added [] (h ∷ hs) e r cs o = absurd (omega (arith, e))
  added (t ∷ ts) [] e r cs o = absurd (omega (arith, e))
  added (t ∷ ts) (h ∷ hs) e r cs zero = inl (t, refl, refl, refl)
  added (t ∷ ts) (h ∷ hs) e r cs (suc o) = added ts hs (omega (arith, e)) r cs o

  pub added_older : (tags : List ℕ) (r : ℕ) → Older tags (tags ++ r ∷ [])
  added_older tags r o t is = get_left tags (r ∷ []) o t is

  pub zero_at : (n i : ℕ) → i < n → slice_get (replicate n (Bits 0)) i ≡ Some (Bits 0)
  zero_at zero i l = absurd (omega (arith, l))
  zero_at (suc n) zero l = refl
  zero_at (suc n) (suc i) l = zero_at n i (omega (arith, l))

  pub in_length : {A : Type 0} (xs : List A) (i : ℕ) (x : A) → slice_get xs i ≡ Some x → i < length xs
  in_length [] i x at = none_some x at
  in_length (y ∷ ys) zero x at = omega arith
  in_length (y ∷ ys) (suc i) x at = let l = in_length ys i x at in omega (arith, l)

  pub zero_fits : (tags : List ℕ) (k : Form) → starts k ≡ true → Fits tags k (Bits 0)
  zero_fits tags Zero h = refl
  zero_fits tags Truth h = omega arith
  zero_fits tags Small h = omega arith
  zero_fits tags Number h = omega arith
  zero_fits tags (ToRecord r) h = refl
  zero_fits tags (Routines r) h = refl
  zero_fits tags (Exactly f) h = no h

  -- cells that are zeros fit forms that may start so
  pub zeros_fit : (tags : List ℕ) (xs : List Form) (n : ℕ) → n ≡ length xs → all starts xs ≡ true → (i : ℕ) (k : Form) → slice_get xs i ≡ Some k → (c : Cell) × (slice_get (replicate n (Bits 0)) i ≡ Some c) × Fits tags k c
  zeros_fit tags xs n e ok i k at = let l = in_length xs i k at in (Bits 0, zero_at n i (omega (arith, l, e)), zero_fits tags k (all_at starts xs ok i k at))

  pub typed_made : (fs : List (List Form)) (s : Store) (r n : ℕ) → n ≡ length (record_forms p.types r) → Typed fs s → Typed fs (record s { heap = s.heap ++ replicate n (Bits 0) ∷ []; tags = s.tags ++ r ∷ [] })
  typed_made fs s r n e typed = record {
    cells = λ a k at. by a.area a.object a.cell k at;
    depth = typed.depth;
    tagged = (let x = length-append s.tags (r ∷ []) in let y = length-append s.heap (replicate n (Bits 0) ∷ []) in let z = typed.tagged in x ∙ ap (λ m. m + 1) z ∙ sym y);
    bytes = typed.bytes;
  }
    where
      older : (k : Form) (c : Cell) → Fits s.tags k c → Fits (s.tags ++ r ∷ []) k c
      older k c f = fits_older s.tags (s.tags ++ r ∷ []) (added_older s.tags r) k c f

      by : (area : Area) (o i : ℕ) (k : Form) → form_at fs (s.tags ++ r ∷ []) area o i ≡ Some k → (c : Cell) × (cell_of (objects area (record s { heap = s.heap ++ replicate n (Bits 0) ∷ []; tags = s.tags ++ r ∷ [] })) o i ≡ Some c) × Fits (s.tags ++ r ∷ []) k c
      by Globals o i k at = let d = typed.cells (record { area = Globals; object = o; cell = i }) k at in (d.0, d.1, older k d.0 d.2)
      by Frames o i k at = let d = typed.cells (record { area = Frames; object = o; cell = i }) k at in (d.0, d.1, older k d.0 d.2)
      by Strings o i k at = let d = typed.cells (record { area = Strings; object = o; cell = i }) k at in (d.0, d.1, older k d.0 d.2)
      by Heap o i k at = elim (added s.tags s.heap typed.tagged r (replicate n (Bits 0)) o) [
        | inl h ↦ (let d = typed.cells (record { area = Heap; object = o; cell = i }) k (subst (λ t. slice_get (object_forms t) i ≡ Some k) (sym h.2) (subst (λ t. slice_get (object_forms t) i ≡ Some k) h.1 at)) in
            (d.0, ap (λ cs. slice_get cs i) h.3 ∙ d.1, older k d.0 d.2))
        | inr rest ↦ elim rest [
          | inl h ↦ (let d = zeros_fit (s.tags ++ r ∷ []) (record_forms p.types r) n e (record_starts_all p.types r) i k (subst (λ t. slice_get (object_forms t) i ≡ Some k) h.0 at) in
              (d.0, ap (λ cs. slice_get cs i) h.1 ∙ d.1, d.2))
          | inr h ↦ none_some k (subst (λ t. slice_get (object_forms t) i ≡ Some k) h at)
        ]
      ]

  pub last_added : (tags : List ℕ) (r : ℕ) → slice_get (tags ++ r ∷ []) (length tags) ≡ Some r
  last_added tags r = get_right tags (r ∷ []) 0 (length tags) r (omega arith) refl

  pub Allocated : List (List Form) → ℕ → ℕ → ℕ → Address → State Store → Bool → Ending Store Trap (Unit {0})
  Allocated fs f r n a s b = ((unless f 10 b >>= λ _. made (replicate n (Bits 0)) r >>= λ _. put a (Pointer (length s.store.heap))) s)

  pub new_good : (fs : List (List Form)) (f r n b : ℕ) (a : Address) (s : State Store) → n ≡ length (record_forms p.types r) → extends p.types r b ≡ true → Formed fs s.store.tags a (ToRecord b) → can_write a.area ≡ true → Typed fs s.store → (fits : Bool) → Good fs Any s.store.tags (Allocated fs f r n a s fits)
  unfolding Allocated
  new_good fs f r n b a s e ext at w typed false = tt
  new_good fs f r n b a s e ext at w typed true =
      let later = added_older s.store.tags r in
      let q = (s_put {fs = fs} {tags = s.store.tags ++ r ∷ []} a (ToRecord b) (Pointer (length s.store.heap)) (form_older fs s.store.tags (s.store.tags ++ r ∷ []) later a.area a.object a.cell (ToRecord b) at) w (r, subst (λ m. slice_get (s.store.tags ++ r ∷ []) m ≡ Some r) typed.tagged (last_added s.store.tags r), ext)).by
      (record s { store = record s.store { heap = s.store.heap ++ replicate n (Bits 0) ∷ []; tags = s.store.tags ++ r ∷ [] } }) (older_refl (s.store.tags ++ r ∷ [])) (typed_made fs s.store r n e typed) in
      good_on (put a (Pointer (length s.store.heap)) (record s { store = record s.store { heap = s.store.heap ++ replicate n (Bits 0) ∷ []; tags = s.store.tags ++ r ∷ [] } })) q
    where
      good_on : (end : Ending Store Trap (Unit {0})) → Good fs Any (s.store.tags ++ r ∷ []) end → Good fs Any s.store.tags end
      good_on (Gives u t) h = (h.0, older_trans s.store.tags (s.store.tags ++ r ∷ []) t.store.tags (added_older s.store.tags r) h.1, tt)
      good_on (Fails trap out) h = h
      good_on (Spent out) h = h

  pub s_allocate : {fs : List (List Form)} {tags : List ℕ} (f r n b : ℕ) (a : Address) → n ≡ length (record_forms p.types r) → extends p.types r b ≡ true → Formed fs tags a (ToRecord b) → can_write a.area ≡ true → Sound fs tags Any (look (λ s. s.heap) >>= λ heap. unless f 10 (nat_le (heap_cells heap + suc n) 8388608) >>= λ _. made (replicate n (Bits 0)) r >>= λ _. put a (Pointer (length heap)))
  unfolding Allocated
  s_allocate {fs = fs} {tags = tags} f r n b a e ext at w = record { by = λ s x typed. new_good fs f r n b a s e ext (form_older fs tags s.store.tags x a.area a.object a.cell (ToRecord b) at) w typed (nat_le (heap_cells s.store.heap + suc n) 8388608) }

  -- a call's own object

  pub pushed : (fs : List (List Form)) (frames : List (List Cell)) → length frames ≡ length fs → (own : List Form) (cs : List Cell) (o : ℕ) → ((slice_index_or (fs ++ own ∷ []) o [] ≡ slice_index_or fs o []) × (slice_index_or (frames ++ cs ∷ []) o [] ≡ slice_index_or frames o [])) ⊎ ((slice_index_or (fs ++ own ∷ []) o [] ≡ own) × (slice_index_or (frames ++ cs ∷ []) o [] ≡ cs))
  pushed [] [] e own cs zero = inr (refl, refl)
  pushed [] [] e own cs (suc o) = inl (refl, refl)
  pushed [] (h ∷ hs) e own cs o = absurd (omega (arith, e))
  pushed (f ∷ fs) [] e own cs o = absurd (omega (arith, e))
  pushed (f ∷ fs) (h ∷ hs) e own cs zero = inl (refl, refl)
  pushed (f ∷ fs) (h ∷ hs) e own cs (suc o) = pushed fs hs (omega (arith, e)) own cs o

  abbrev pub AllFit : List ℕ → List Form → List Cell → Type 0
  AllFit tags xs cs = (i : ℕ) (k : Form) → slice_get xs i ≡ Some k → (c : Cell) × (slice_get cs i ≡ Some c) × Fits tags k c

  pub typed_push : (fs : List (List Form)) (s : Store) (own : List Form) (cs : List Cell) → AllFit s.tags own cs → Typed fs s → Typed (fs ++ own ∷ []) (record s { frames = s.frames ++ cs ∷ [] })
  typed_push fs s own cs fit typed = record {
    cells = λ a k at. by a.area a.object a.cell k at;
    depth = length-append s.frames (cs ∷ []) ∙ ap (λ m. m + 1) typed.depth ∙ sym (length-append fs (own ∷ []));
    tagged = typed.tagged;
    bytes = typed.bytes;
  }
    where
      by : (area : Area) (o i : ℕ) (k : Form) → form_at (fs ++ own ∷ []) s.tags area o i ≡ Some k → (c : Cell) × (cell_of (objects area (record s { frames = s.frames ++ cs ∷ [] })) o i ≡ Some c) × Fits s.tags k c
      by Globals o i k at = typed.cells (record { area = Globals; object = o; cell = i }) k at
      by Heap o i k at = typed.cells (record { area = Heap; object = o; cell = i }) k at
      by Strings o i k at = typed.cells (record { area = Strings; object = o; cell = i }) k at
      by Frames o i k at = elim (pushed fs s.frames typed.depth own cs o) [
        | inl h ↦ (let d = typed.cells (record { area = Frames; object = o; cell = i }) k (subst (λ xs. slice_get xs i ≡ Some k) h.0 at) in (d.0, ap (λ xs. slice_get xs i) h.1 ∙ d.1, d.2))
        | inr h ↦ (let d = fit i k (subst (λ xs. slice_get xs i ≡ Some k) h.0 at) in (d.0, ap (λ xs. slice_get xs i) h.1 ∙ d.1, d.2))
      ]

  pub index_left : (fs : List (List Form)) (own : List Form) (o i : ℕ) (k : Form) → slice_get (slice_index_or fs o []) i ≡ Some k → slice_get (slice_index_or (fs ++ own ∷ []) o []) i ≡ Some k
  index_left [] own o i k at = none_some k at
  index_left (f ∷ fs) own zero i k at = at
  index_left (f ∷ fs) own (suc o) i k at = index_left fs own o i k at

  pub take_index : (fs : List (List Form)) (frames : List (List Cell)) (o i : ℕ) (k : Form) → slice_get (slice_index_or fs o []) i ≡ Some k → slice_index_or (take (length fs) frames) o [] ≡ slice_index_or frames o []
  take_index [] frames o i k at = none_some k at
  take_index (f ∷ fs) [] o i k at = refl
  take_index (f ∷ fs) (h ∷ hs) zero i k at = refl
  take_index (f ∷ fs) (h ∷ hs) (suc o) i k at = take_index fs hs o i k at

  pub take_length : (fs : List (List Form)) (frames : List (List Cell)) → length frames ≡ length fs + 1 → length (take (length fs) frames) ≡ length fs
  take_length [] frames e = refl
  take_length (f ∷ fs) [] e = absurd (omega (arith, e))
  take_length (f ∷ fs) (h ∷ hs) e = ap suc (take_length fs hs (omega (arith, e)))

  pub typed_pop : (fs : List (List Form)) (s : Store) (own : List Form) (n : ℕ) → n ≡ length fs → Typed (fs ++ own ∷ []) s → Typed fs (record s { frames = take n s.frames })
  typed_pop fs s own n e typed = subst (λ m. Typed fs (record s { frames = take m s.frames })) (sym e) (record {
    cells = λ a k at. by a.area a.object a.cell k at;
    depth = take_length fs s.frames (typed.depth ∙ length-append fs (own ∷ []));
    tagged = typed.tagged;
    bytes = typed.bytes;
  })
    where
      by : (area : Area) (o i : ℕ) (k : Form) → form_at fs s.tags area o i ≡ Some k → (c : Cell) × (cell_of (objects area (record s { frames = take (length fs) s.frames })) o i ≡ Some c) × Fits s.tags k c
      by Globals o i k at = typed.cells (record { area = Globals; object = o; cell = i }) k at
      by Heap o i k at = typed.cells (record { area = Heap; object = o; cell = i }) k at
      by Strings o i k at = typed.cells (record { area = Strings; object = o; cell = i }) k at
      by Frames o i k at = let d = typed.cells (record { area = Frames; object = o; cell = i }) k (index_left fs own o i k at) in (d.0, ap (λ xs. slice_get xs i) (take_index fs s.frames o i k at) ∙ d.1, d.2)

  pub popped : {A : Type 0} (fs : List (List Form)) (own : List Form) (tags : List ℕ) (P : List ℕ → A → Type 0) (n : ℕ) → n ≡ length fs → (e : Ending Store Trap A) → Good (fs ++ own ∷ []) P tags e → Good fs P tags (after e (λ a t. Gives a (record t { store = record t.store { frames = take n t.store.frames } })))
  popped fs own tags P n e (Gives a t) h = (typed_pop fs t.store own n e h.0, h.1, h.2)
  popped fs own tags P n e (Fails trap out) h = h
  popped fs own tags P n e (Spent out) h = h

  pub s_within : {A : Type 0} {fs : List (List Form)} {tags : List ℕ} {P : List ℕ → A → Type 0} (own : List Form) (cs : List Cell) (body : ℕ → Act A) → ((more : List ℕ) → Older tags more → AllFit more own cs) → Sound (fs ++ own ∷ []) tags P (body (length fs)) → Sound fs tags P (within cs body)
  s_within {fs = fs} {tags = tags} {P = P} own cs body fit q = record {
    by = λ s x typed.
        popped fs own s.store.tags P (length s.store.frames) typed.depth (body (length s.store.frames) (record s { store = record s.store { frames = s.store.frames ++ cs ∷ [] } }))
        ((subst (λ n. Sound (fs ++ own ∷ []) tags P (body n)) (sym typed.depth) q).by (record s { store = record s.store { frames = s.store.frames ++ cs ∷ [] } }) x (typed_push fs s.store own cs (fit s.store.tags x) typed));
  }

  -- what designators name

  abbrev pub Writes : Bool → Address → Type 0
  Writes w a = w ≡ true → can_write a.area ≡ true

  -- a handed address, as its name says
  abbrev pub Names : List (List Form) → List ℕ → Named → Handed → Type 0
  Names fs tags (Cells f w) (At a) = Stands fs tags a (f ∷ []) × Writes w a
  Names fs tags (Of k w) (At a) = Stands fs tags a (forms p.types k) × Writes w a
  Names fs tags (OpenOf e w) (Sized a n) = Stands fs tags a (repeated n (forms p.types e)) × Writes w a × (n < 2 ^ 32)
  Names fs tags (Dynamic r) (Tagged a t) = Stands fs tags a (record_forms p.types t) × (extends p.types t r ≡ true) × (can_write a.area ≡ true)
  Names fs tags (Characters n) (At a) = Stands fs tags a (repeated n (Small ∷ []))
  Names fs tags _ _ = ⊥

  pub names_older : (fs : List (List Form)) (tags more : List ℕ) → Older tags more → (d : Named) (h : Handed) → Names fs tags d h → Names fs more d h
  names_older fs tags more e (Cells f w) (At a) h = (stands_older fs tags more e a (f ∷ []) h.0, h.1)
  names_older fs tags more e (Of k w) (At a) h = (stands_older fs tags more e a (forms p.types k) h.0, h.1)
  names_older fs tags more e (OpenOf k w) (Sized a n) h = (stands_older fs tags more e a (repeated n (forms p.types k)) h.0, h.1, h.2)
  names_older fs tags more e (Dynamic r) (Tagged a t) h = (stands_older fs tags more e a (record_forms p.types t) h.0, h.1, h.2)
  names_older fs tags more e (Characters n) (At a) h = stands_older fs tags more e a (repeated n (Small ∷ [])) h
  names_older fs tags more e _ _ h = absurd h

  abbrev pub NamesOf : List (List Form) → Named → List ℕ → Handed → Type 0
  NamesOf fs d tags h = Names fs tags d h

  -- an address where forms stand, and whether it may be written
  abbrev pub Placed : List (List Form) → List Form → Bool → List ℕ → Address → Type 0
  Placed fs xs w tags a = Stands fs tags a xs × Writes w a

  pub formed_of : (fs : List (List Form)) (tags : List ℕ) (a : Address) (k : Form) → Stands fs tags a (k ∷ []) → Formed fs tags a k
  formed_of fs tags a k h = let e : a.cell + 0 ≡ a.cell = omega arith in subst (λ i. form_at fs tags a.area a.object i ≡ Some k) e (h 0 k refl)

  pub s_placed : {fs : List (List Form)} {tags : List ℕ} {d : Act Handed} (n : Named) (xs : List Form) (w : Bool) → ((more : List ℕ) (h : Handed) → Names fs more n h → (a : Address) × (address_in h ≡ Some a) × Placed fs xs w more a) → Sound fs tags (NamesOf fs n) d → Sound fs tags (Placed fs xs w) (place d)
  s_placed {fs = fs} n xs w find q = s_bind q (λ more h e names. let f = find more h names in s_given (address_in h) f.0 f.1 (λ most e2. (stands_older fs more most e2 f.0 xs f.2.0, f.2.1)))

  abbrev pub element_forms : Elementary → List Form
  element_forms (WellFormed.OfType k) = forms p.types k
  element_forms Letter = Small ∷ []

  -- an array's address and length
  abbrev pub Spanned : List (List Form) → Elementary → Bool → List ℕ → Span → Type 0
  Spanned fs el w tags s = Stands fs tags s.at (repeated s.length (element_forms el)) × Writes w s.at × (s.length < 2 ^ 32)

  pub provided_is : {A : Type 0} (b : Bool) (o : Option A) (x : A) → provided b o ≡ Some x → (b ≡ true) × (o ≡ Some x)
  provided_is true o x e = (refl, e)
  provided_is false o x e = none_some x e

  pub lt_of : (a b : ℕ) → nat_lt a b ≡ true → a < b
  lt_of a b h = grind (arith, ltb→lt)

  pub element_is : (kind : TypeKind) (n : ℕ) (el : Elementary) → element_by kind n ≡ Some el → (e : ℕ) × (kind ≡ Array (Some n) e) × (WellFormed.OfType e ≡ el) × (n < 2 ^ 32)
  element_is (Array (Some m) e) n el is =
      let a = provided_is (m == n && nat_lt n (2 ^ 32)) (Some (WellFormed.OfType e)) el is in
      let b = and_of (m == n) (nat_lt n (2 ^ 32)) a.0 in
      (e, ap (λ m. Array (Some m) e) (eqb-true m n b.0), some_same (WellFormed.OfType e) el a.1, lt_of n (2 ^ 32) b.1)
  element_is _ n el is = none_some el is
