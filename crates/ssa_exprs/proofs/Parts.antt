-- What the parts of a construct give, put together as the construct: one line for each.
use Rattle.std.proofs.Common.{◌≡◌, ℕ, ap, if◌then◌else◌, List, [], ◌∷◌, ◌++◌, Bool, Option, Some, None, Result, Ok, Err, IfOk}
use Rattle.ob_types.specs.declared.tree.Unary.{Unary}
use Rattle.ob_types.specs.declared.tree.Binary.{Binary}
use Rattle.ob_types.specs.declared.tree.Relation.{Relation}
use Rattle.block_runs.specs.declared.code.Code.TheVariants.{Bic, Set, Mul, MulAdd, Global, Local, IsPtr, IsTag, Below, NotNil, GuardTag, GuardPtr, Compare, Elem, Has, Bit, Span, Or, Byte, Call, CallAt, Load, LoadByte}
use Rattle.ssa_lowered.specs.Pieces.{Low, give, ◌>>=◌, emits, does, variable}
use Rattle.ssa_lowered.specs.Values.{const, condition, Named, At, Beside, Object, Held, address_in, address, second, length_in, bytes_in, data_at, local_at, element, field, dereferenced, narrowed, one_operand, two_operands, included, unary, binary, compared, texts_compared, guarded, member, contained, with_element, with_range, is_pointer, is_tag, tag_of, tag_in, as_byte, length_of, by_word, by_record, by_open, also, Request, call, call_at, with_result, home_in, home_of, load, Home, Register, Memory, current}
use Rattle.ssa_exprs.specs.Making.{View, Gives}
use Rattle.ssa_exprs.proofs.Giving.{gives_give, gives_bind, gives_as}
use Rattle.ssa_exprs.specs.Named.{held_in}

abbrev held_or : Option ℕ → ℕ
held_or None = 0
held_or (Some a) = a

some_one : {a b : ℕ} → Some a ≡ Some b → a ≡ b
some_one {a} {b} e = ap held_or e

-- where the last part's answer is the whole's
pub last : {B E : Type 0} (r : Result B E) {P Q : B → Type 0} → ((b : B) → P b → Q b) → IfOk r P → IfOk r Q
last (Ok b) f x = f b x
last (Err e) f x = tt

pub gives_included : {v0 v1 v2 v3 : View} {x : ℕ} {y : ℕ} {d : ℕ} {z : ℕ} {r : ℕ} → Gives v0 v1 (emits Bic (x ∷ y ∷ [])) d → Gives v1 v2 (const 0) z → Gives v2 v3 (emits (Set 0) (d ∷ z ∷ [])) r → Gives v0 v3 (included x y) r
gives_included {d = d} {z = z} p0 p1 q = gives_bind (λ d. (const 0) >>= λ z. emits (Set 0) (d ∷ z ∷ [])) p0 (gives_bind (λ z. emits (Set 0) (d ∷ z ∷ [])) p1 q)

pub gives_open_bytes : {v0 v1 v2 v3 : View} {size : ℕ} {n : ℕ} {s : ℕ} {r : ℕ} (h : Named) → Gives v0 v1 (second h) n → Gives v1 v2 (const size) s → Gives v2 v3 (emits Mul (n ∷ s ∷ [])) r → Gives v0 v3 (bytes_in size None h) r
gives_open_bytes {size = size} {n = n} {s = s} h p0 p1 q = gives_bind (λ n. (const size) >>= λ s. emits Mul (n ∷ s ∷ [])) p0 (gives_bind (λ s. emits Mul (n ∷ s ∷ [])) p1 q)

pub gives_is_pointer : {v0 v1 v2 : View} {g : ℕ} {j : ℕ} {p : ℕ} {a : ℕ} {r : ℕ} → Gives v0 v1 (emits (Global g) []) a → Gives v1 v2 (emits (IsPtr j) (p ∷ a ∷ [])) r → Gives v0 v2 (is_pointer g j p) r
gives_is_pointer {j = j} {p = p} {a = a} p0 q = gives_bind (λ a. emits (IsPtr j) (p ∷ a ∷ [])) p0 q

pub gives_is_tag : {v0 v1 v2 : View} {g : ℕ} {j : ℕ} {t : ℕ} {a : ℕ} {r : ℕ} → Gives v0 v1 (emits (Global g) []) a → Gives v1 v2 (emits (IsTag j) (t ∷ a ∷ [])) r → Gives v0 v2 (is_tag g j t) r
gives_is_tag {j = j} {t = t} {a = a} p0 q = gives_bind (λ a. emits (IsTag j) (t ∷ a ∷ [])) p0 q

pub gives_data_at : {v0 v1 : View} {n : ℕ} {a : ℕ} → Gives v0 v1 (emits (Global n) []) a → Gives v0 v1 (data_at n) (At a)
gives_data_at {a = a} p0 = gives_bind (λ a. give (At a)) p0 (gives_give _ (At a))

pub gives_local_at : {v0 v1 : View} {n : ℕ} {a : ℕ} → Gives v0 v1 (emits (Local n) []) a → Gives v0 v1 (local_at n) (At a)
gives_local_at {a = a} p0 = gives_bind (λ a. give (At a)) p0 (gives_give _ (At a))

pub gives_address : {v0 v1 v2 : View} {d : Low Named} {h : Named} {r : ℕ} → Gives v0 v1 (d) h → Gives v1 v2 (address_in h 0) r → Gives v0 v2 (address d) r
gives_address {h = h} p0 q = gives_bind (λ h. address_in h 0) p0 q

pub gives_element : {v0 v1 v2 v3 v4 v5 v6 v7 : View} {d : Low Named} {size : ℕ} {x : Low ℕ} {h : Named} {a : ℕ} {i : ℕ} {n : ℕ} {s : ℕ} {e : ℕ} (length : Option ℕ) → Gives v0 v1 (d) h → Gives v1 v2 (address_in h 0) a → Gives v2 v3 (x) i → Gives v3 v4 (length_in length h) n → Gives v4 v5 (does Below (i ∷ n ∷ [])) tt → Gives v5 v6 (const size) s → Gives v6 v7 (emits MulAdd (i ∷ s ∷ a ∷ [])) e → Gives v0 v7 (element d length size x) (At e)
gives_element {size = size} {x = x} {h = h} {a = a} {i = i} {n = n} {s = s} {e = e} length p0 p1 p2 p3 p4 p5 p6 = gives_bind (λ h. (address_in h 0) >>= λ a. x >>= λ i. (length_in length h) >>= λ n. (does Below (i ∷ n ∷ [])) >>= λ _. (const size) >>= λ s. (emits MulAdd (i ∷ s ∷ a ∷ [])) >>= λ e. give (At e)) p0 (gives_bind (λ a. x >>= λ i. (length_in length h) >>= λ n. (does Below (i ∷ n ∷ [])) >>= λ _. (const size) >>= λ s. (emits MulAdd (i ∷ s ∷ a ∷ [])) >>= λ e. give (At e)) p1 (gives_bind (λ i. (length_in length h) >>= λ n. (does Below (i ∷ n ∷ [])) >>= λ _. (const size) >>= λ s. (emits MulAdd (i ∷ s ∷ a ∷ [])) >>= λ e. give (At e)) p2 (gives_bind (λ n. (does Below (i ∷ n ∷ [])) >>= λ _. (const size) >>= λ s. (emits MulAdd (i ∷ s ∷ a ∷ [])) >>= λ e. give (At e)) p3 (gives_bind (λ _. (const size) >>= λ s. (emits MulAdd (i ∷ s ∷ a ∷ [])) >>= λ e. give (At e)) p4 (gives_bind (λ s. (emits MulAdd (i ∷ s ∷ a ∷ [])) >>= λ e. give (At e)) p5 (gives_bind (λ e. give (At e)) p6 (gives_give _ (At e))))))))

pub gives_field : {v0 v1 v2 : View} {d : Low Named} {h : Named} {a : ℕ} (offset : ℕ) → Gives v0 v1 (d) h → Gives v1 v2 (address_in h offset) a → Gives v0 v2 (field d offset) (At a)
gives_field {h = h} {a = a} offset p0 p1 = gives_bind (λ h. (address_in h offset) >>= λ a. give (At a)) p0 (gives_bind (λ a. give (At a)) p1 (gives_give _ (At a)))

pub gives_dereferenced : {v0 v1 v2 : View} {x : Low ℕ} {p : ℕ} → Gives v0 v1 (x) p → Gives v1 v2 (does NotNil (p ∷ [])) tt → Gives v0 v2 (dereferenced x) (Object p)
gives_dereferenced {p = p} p0 p1 = gives_bind (λ p. (does NotNil (p ∷ [])) >>= λ _. give (Object p)) p0 (gives_bind (λ _. give (Object p)) p1 (gives_give _ (Object p)))

pub gives_narrowed : {v0 v1 v2 v3 v4 : View} {d : Low Named} {g : ℕ} {j : ℕ} {h : Named} {t : ℕ} {a : ℕ} → Gives v0 v1 (d) h → Gives v1 v2 (second h) t → Gives v2 v3 (emits (Global g) []) a → Gives v3 v4 (does (GuardTag j) (t ∷ a ∷ [])) tt → Gives v0 v4 (narrowed d g j) (h)
gives_narrowed {g = g} {j = j} {h = h} {t = t} {a = a} p0 p1 p2 p3 = gives_bind (λ h. (second h) >>= λ t. (emits (Global g) []) >>= λ a. (does (GuardTag j) (t ∷ a ∷ [])) >>= λ _. give (h)) p0 (gives_bind (λ t. (emits (Global g) []) >>= λ a. (does (GuardTag j) (t ∷ a ∷ [])) >>= λ _. give (h)) p1 (gives_bind (λ a. (does (GuardTag j) (t ∷ a ∷ [])) >>= λ _. give (h)) p2 (gives_bind (λ _. give (h)) p3 (gives_give _ (h)))))

pub gives_unary : {v0 v1 v2 : View} {x : Low ℕ} {a : ℕ} {r : ℕ} (op : Unary) → Gives v0 v1 (x) a → Gives v1 v2 (one_operand op a) r → Gives v0 v2 (unary op x) r
gives_unary {a = a} op p0 q = gives_bind (λ a. one_operand op a) p0 q

pub gives_binary : {v0 v1 v2 v3 : View} {x : Low ℕ} {y : Low ℕ} {a : ℕ} {b : ℕ} {r : ℕ} (op : Binary) → Gives v0 v1 (x) a → Gives v1 v2 (y) b → Gives v2 v3 (two_operands op a b) r → Gives v0 v3 (binary op x y) r
gives_binary {y = y} {a = a} {b = b} op p0 p1 q = gives_bind (λ a. y >>= λ b. two_operands op a b) p0 (gives_bind (λ b. two_operands op a b) p1 q)

pub gives_compared : {v0 v1 v2 v3 : View} {x : Low ℕ} {y : Low ℕ} {a : ℕ} {b : ℕ} {r : ℕ} (k : Relation) → Gives v0 v1 (x) a → Gives v1 v2 (y) b → Gives v2 v3 (emits (Set (condition k)) (a ∷ b ∷ [])) r → Gives v0 v3 (compared k x y) r
gives_compared {y = y} {a = a} {b = b} k p0 p1 q = gives_bind (λ a. y >>= λ b. emits (Set (condition k)) (a ∷ b ∷ [])) p0 (gives_bind (λ b. emits (Set (condition k)) (a ∷ b ∷ [])) p1 q)

pub gives_texts_compared : {v0 v1 v2 v3 v4 v5 v6 v7 v8 v9 : View} {d : Low Named} {e : Low Named} {x : Named} {a : ℕ} {i : ℕ} {y : Named} {b : ℕ} {j : ℕ} {c : ℕ} {z : ℕ} {r : ℕ} (size : ℕ) (k : Relation) (n : Option ℕ) (m : Option ℕ) → Gives v0 v1 (d) x → Gives v1 v2 (address_in x 0) a → Gives v2 v3 (bytes_in size n x) i → Gives v3 v4 (e) y → Gives v4 v5 (address_in y 0) b → Gives v5 v6 (bytes_in size m y) j → Gives v6 v7 (emits Compare (a ∷ i ∷ b ∷ j ∷ [])) c → Gives v7 v8 (const 0) z → Gives v8 v9 (emits (Set (condition k)) (c ∷ z ∷ [])) r → Gives v0 v9 (texts_compared size k d n e m) r
gives_texts_compared {e = e} {x = x} {a = a} {i = i} {y = y} {b = b} {j = j} {c = c} {z = z} size k n m p0 p1 p2 p3 p4 p5 p6 p7 q = gives_bind (λ x. (address_in x 0) >>= λ a. (bytes_in size n x) >>= λ i. e >>= λ y. (address_in y 0) >>= λ b. (bytes_in size m y) >>= λ j. (emits Compare (a ∷ i ∷ b ∷ j ∷ [])) >>= λ c. (const 0) >>= λ z. emits (Set (condition k)) (c ∷ z ∷ [])) p0 (gives_bind (λ a. (bytes_in size n x) >>= λ i. e >>= λ y. (address_in y 0) >>= λ b. (bytes_in size m y) >>= λ j. (emits Compare (a ∷ i ∷ b ∷ j ∷ [])) >>= λ c. (const 0) >>= λ z. emits (Set (condition k)) (c ∷ z ∷ [])) p1 (gives_bind (λ i. e >>= λ y. (address_in y 0) >>= λ b. (bytes_in size m y) >>= λ j. (emits Compare (a ∷ i ∷ b ∷ j ∷ [])) >>= λ c. (const 0) >>= λ z. emits (Set (condition k)) (c ∷ z ∷ [])) p2 (gives_bind (λ y. (address_in y 0) >>= λ b. (bytes_in size m y) >>= λ j. (emits Compare (a ∷ i ∷ b ∷ j ∷ [])) >>= λ c. (const 0) >>= λ z. emits (Set (condition k)) (c ∷ z ∷ [])) p3 (gives_bind (λ b. (bytes_in size m y) >>= λ j. (emits Compare (a ∷ i ∷ b ∷ j ∷ [])) >>= λ c. (const 0) >>= λ z. emits (Set (condition k)) (c ∷ z ∷ [])) p4 (gives_bind (λ j. (emits Compare (a ∷ i ∷ b ∷ j ∷ [])) >>= λ c. (const 0) >>= λ z. emits (Set (condition k)) (c ∷ z ∷ [])) p5 (gives_bind (λ c. (const 0) >>= λ z. emits (Set (condition k)) (c ∷ z ∷ [])) p6 (gives_bind (λ z. emits (Set (condition k)) (c ∷ z ∷ [])) p7 q)))))))

pub gives_guarded : {v0 v1 v2 v3 : View} {x : Low ℕ} {g : ℕ} {j : ℕ} {p : ℕ} {a : ℕ} → Gives v0 v1 (x) p → Gives v1 v2 (emits (Global g) []) a → Gives v2 v3 (does (GuardPtr j) (p ∷ a ∷ [])) tt → Gives v0 v3 (guarded x g j) (p)
gives_guarded {g = g} {j = j} {p = p} {a = a} p0 p1 p2 = gives_bind (λ p. (emits (Global g) []) >>= λ a. (does (GuardPtr j) (p ∷ a ∷ [])) >>= λ _. give (p)) p0 (gives_bind (λ a. (does (GuardPtr j) (p ∷ a ∷ [])) >>= λ _. give (p)) p1 (gives_bind (λ _. give (p)) p2 (gives_give _ (p))))

pub gives_member : {v0 v1 v2 : View} {x : Low ℕ} {a : ℕ} → Gives v0 v1 (x) a → Gives v1 v2 (does Elem (a ∷ [])) tt → Gives v0 v2 (member x) (a)
gives_member {a = a} p0 p1 = gives_bind (λ a. (does Elem (a ∷ [])) >>= λ _. give (a)) p0 (gives_bind (λ _. give (a)) p1 (gives_give _ (a)))

pub gives_contained : {v0 v1 v2 v3 : View} {s : Low ℕ} {a : ℕ} {b : ℕ} {r : ℕ} (x : Low ℕ) → Gives v0 v1 (member x) a → Gives v1 v2 (s) b → Gives v2 v3 (emits Has (a ∷ b ∷ [])) r → Gives v0 v3 (contained x s) r
gives_contained {s = s} {a = a} {b = b} x p0 p1 q = gives_bind (λ a. s >>= λ b. emits Has (a ∷ b ∷ [])) p0 (gives_bind (λ b. emits Has (a ∷ b ∷ [])) p1 q)

pub gives_with_element : {v0 v1 v2 v3 v4 : View} {s : Low ℕ} {b : ℕ} {a : ℕ} {e : ℕ} {r : ℕ} (x : Low ℕ) → Gives v0 v1 (s) b → Gives v1 v2 (member x) a → Gives v2 v3 (emits Bit (a ∷ [])) e → Gives v3 v4 (emits Or (b ∷ e ∷ [])) r → Gives v0 v4 (with_element s x) r
gives_with_element {b = b} {a = a} {e = e} x p0 p1 p2 q = gives_bind (λ b. (member x) >>= λ a. (emits Bit (a ∷ [])) >>= λ e. emits Or (b ∷ e ∷ [])) p0 (gives_bind (λ a. (emits Bit (a ∷ [])) >>= λ e. emits Or (b ∷ e ∷ [])) p1 (gives_bind (λ e. emits Or (b ∷ e ∷ [])) p2 q))

pub gives_with_range : {v0 v1 v2 v3 v4 v5 : View} {s : Low ℕ} {b : ℕ} {a : ℕ} {c : ℕ} {e : ℕ} {r : ℕ} (x : Low ℕ) (y : Low ℕ) → Gives v0 v1 (s) b → Gives v1 v2 (member x) a → Gives v2 v3 (member y) c → Gives v3 v4 (emits Span (a ∷ c ∷ [])) e → Gives v4 v5 (emits Or (b ∷ e ∷ [])) r → Gives v0 v5 (with_range s x y) r
gives_with_range {b = b} {a = a} {c = c} {e = e} x y p0 p1 p2 p3 q = gives_bind (λ b. (member x) >>= λ a. (member y) >>= λ c. (emits Span (a ∷ c ∷ [])) >>= λ e. emits Or (b ∷ e ∷ [])) p0 (gives_bind (λ a. (member y) >>= λ c. (emits Span (a ∷ c ∷ [])) >>= λ e. emits Or (b ∷ e ∷ [])) p1 (gives_bind (λ c. (emits Span (a ∷ c ∷ [])) >>= λ e. emits Or (b ∷ e ∷ [])) p2 (gives_bind (λ e. emits Or (b ∷ e ∷ [])) p3 q)))

pub gives_tag_of : {v0 v1 v2 : View} {d : Low Named} {h : Named} {r : ℕ} → Gives v0 v1 (d) h → Gives v1 v2 (second h) r → Gives v0 v2 (tag_of d) r
gives_tag_of {h = h} p0 q = gives_bind (λ h. second h) p0 q

pub gives_as_byte : {v0 v1 v2 : View} {x : Low ℕ} {a : ℕ} → Gives v0 v1 (x) a → Gives v1 v2 (does Byte (a ∷ [])) tt → Gives v0 v2 (as_byte x) (a)
gives_as_byte {a = a} p0 p1 = gives_bind (λ a. (does Byte (a ∷ [])) >>= λ _. give (a)) p0 (gives_bind (λ _. give (a)) p1 (gives_give _ (a)))

pub gives_length_of : {v0 v1 v2 v3 : View} {d : Low Named} {h : Named} {a : ℕ} {r : ℕ} (n : Option ℕ) → Gives v0 v1 (d) h → Gives v1 v2 (address_in h 0) a → Gives v2 v3 (length_in n h) r → Gives v0 v3 (length_of d n) r
gives_length_of {h = h} {a = a} n p0 p1 q = gives_bind (λ h. (address_in h 0) >>= λ a. length_in n h) p0 (gives_bind (λ a. length_in n h) p1 q)

pub gives_by_word : {v0 v1 : View} {x : Low ℕ} {a : ℕ} → Gives v0 v1 (x) a → Gives v0 v1 (by_word x) (a ∷ [])
gives_by_word {a = a} p0 = gives_bind (λ a. give (a ∷ [])) p0 (gives_give _ (a ∷ []))

pub gives_by_record : {v0 v1 v2 v3 : View} {d : Low Named} {h : Named} {a : ℕ} {t : ℕ} (g : ℕ) → Gives v0 v1 (d) h → Gives v1 v2 (address_in h 0) a → Gives v2 v3 (tag_in g h) t → Gives v0 v3 (by_record d g) (a ∷ t ∷ [])
gives_by_record {h = h} {a = a} {t = t} g p0 p1 p2 = gives_bind (λ h. (address_in h 0) >>= λ a. (tag_in g h) >>= λ t. give (a ∷ t ∷ [])) p0 (gives_bind (λ a. (tag_in g h) >>= λ t. give (a ∷ t ∷ [])) p1 (gives_bind (λ t. give (a ∷ t ∷ [])) p2 (gives_give _ (a ∷ t ∷ []))))

pub gives_by_open : {v0 v1 v2 v3 : View} {d : Low Named} {h : Named} {a : ℕ} {k : ℕ} (n : Option ℕ) → Gives v0 v1 (d) h → Gives v1 v2 (address_in h 0) a → Gives v2 v3 (length_in n h) k → Gives v0 v3 (by_open d n) (a ∷ k ∷ [])
gives_by_open {h = h} {a = a} {k = k} n p0 p1 p2 = gives_bind (λ h. (address_in h 0) >>= λ a. (length_in n h) >>= λ k. give (a ∷ k ∷ [])) p0 (gives_bind (λ a. (length_in n h) >>= λ k. give (a ∷ k ∷ [])) p1 (gives_bind (λ k. give (a ∷ k ∷ [])) p2 (gives_give _ (a ∷ k ∷ []))))

pub gives_also : {v0 v1 v2 : View} {x : Low (List ℕ)} {more : Low (List ℕ)} {a : List ℕ} {b : List ℕ} → Gives v0 v1 (x) a → Gives v1 v2 (more) b → Gives v0 v2 (also x more) (a ++ b)
gives_also {more = more} {a = a} {b = b} p0 p1 = gives_bind (λ a. more >>= λ b. give (a ++ b)) p0 (gives_bind (λ b. give (a ++ b)) p1 (gives_give _ (a ++ b)))

pub gives_call : {v0 v1 : View} {g : ℕ} {args : Low (List ℕ)} {ws : List ℕ} → Gives v0 v1 (args) ws → Gives v0 v1 (call g args) (record { code = Call g; words = ws })
gives_call {g = g} {ws = ws} p0 = gives_bind (λ ws. give (record { code = Call g; words = ws })) p0 (gives_give _ (record { code = Call g; words = ws }))

pub gives_call_at : {v0 v1 v2 v3 : View} {x : Low ℕ} {args : Low (List ℕ)} {t : ℕ} {ws : List ℕ} → Gives v0 v1 (x) t → Gives v1 v2 (args) ws → Gives v2 v3 (does NotNil (t ∷ [])) tt → Gives v0 v3 (call_at x args) (record { code = CallAt; words = t ∷ ws })
gives_call_at {args = args} {t = t} {ws = ws} p0 p1 p2 = gives_bind (λ t. args >>= λ ws. (does NotNil (t ∷ [])) >>= λ _. give (record { code = CallAt; words = t ∷ ws })) p0 (gives_bind (λ ws. (does NotNil (t ∷ [])) >>= λ _. give (record { code = CallAt; words = t ∷ ws })) p1 (gives_bind (λ _. give (record { code = CallAt; words = t ∷ ws })) p2 (gives_give _ (record { code = CallAt; words = t ∷ ws }))))

pub gives_with_result : {v0 v1 v2 : View} {m : Low Request} {k : Request} {r : ℕ} → Gives v0 v1 (m) k → Gives v1 v2 (emits k.code k.words) r → Gives v0 v2 (with_result m) r
gives_with_result {k = k} p0 q = gives_bind (λ k. emits k.code k.words) p0 q

pub gives_home : {v0 v1 v2 : View} {d : Low Named} {h : Named} {r : Home} (small : Bool) → Gives v0 v1 (d) h → Gives v1 v2 (home_in small h) r → Gives v0 v2 (home_of d small) r
gives_home {h = h} small p0 q = gives_bind (λ h. home_in small h) p0 q

pub gives_in_memory : {v0 v1 : View} {small : Bool} {a : ℕ} (h : Named) → Gives v0 v1 (address_in h 0) a → Gives v0 v1 (address_in h 0 >>= λ a. give (Memory a small)) (Memory a small)
gives_in_memory {small = small} {a = a} h p0 = gives_bind (λ a. give (Memory a small)) p0 (gives_give _ (Memory a small))

pub gives_load : {v0 v1 v2 : View} {d : Low Home} {h : Home} {r : ℕ} → Gives v0 v1 (d) h → Gives v1 v2 (current h) r → Gives v0 v2 (load d) r
gives_load {h = h} p0 q = gives_bind (λ h. current h) p0 q

-- the value of a scalar variable: in a register, and in memory
pub gives_held : {v u w : View} {d : Low Named} (small : Bool) (h : Named) (x : ℕ) {r : ℕ} → held_in h ≡ Some x → Gives v u d h → Gives u w (variable x) r → Gives v w (load (home_of d small)) r
gives_held small (At a) x e p q = absurd (cc)
gives_held small (Beside a s) x e p q = absurd (cc)
gives_held small (Object a) x e p q = absurd (cc)
gives_held {u = u} {w = w} {d = d} small (Held y) x {r = r} e p q = gives_load (gives_bind (λ h. home_in small h) p (gives_give _ (Register y))) (gives_as (ap variable (some_one e)) q)

gives_cell : {v u w1 : View} {d : Low Named} (small : Bool) (h : Named) {a : ℕ} → held_in h ≡ None → Gives v u d h → Gives u w1 (address_in h 0) a → Gives v w1 (home_of d small) (Memory a small)
gives_cell small (At b) {a = a} e p q = gives_bind (λ h. home_in small h) p (gives_bind (λ a. give (Memory a small)) q (gives_give _ (Memory a small)))
gives_cell small (Beside b s) {a = a} e p q = gives_bind (λ h. home_in small h) p (gives_bind (λ a. give (Memory a small)) q (gives_give _ (Memory a small)))
gives_cell small (Object b) {a = a} e p q = gives_bind (λ h. home_in small h) p (gives_bind (λ a. give (Memory a small)) q (gives_give _ (Memory a small)))
gives_cell small (Held y) e p q = absurd (cc)

pub gives_stored : {v u w1 w : View} {d : Low Named} (small : Bool) (h : Named) {a r : ℕ} → held_in h ≡ None → Gives v u d h → Gives u w1 (address_in h 0) a → Gives w1 w (emits (if small then LoadByte else Load) (a ∷ [])) r → Gives v w (load (home_of d small)) r
gives_stored small h e p q t = gives_load (gives_cell small h e p q) t
