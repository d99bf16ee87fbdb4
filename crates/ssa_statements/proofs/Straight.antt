-- The parts of statements without blocks, put together: one line for each.
use Rattle.std.proofs.Common.{◌≡◌, ℕ, [], ◌∷◌, Bool, true, false, Option, Some, None, refl, ap, if◌then◌else◌, ◌+◌}
use Rattle.ob_types.specs.declared.tree.Binary.{Binary}
use Rattle.ob_types.specs.declared.tree.Binary.TheVariants.{Add}
use Rattle.block_runs.specs.declared.code.Code.TheVariants.{Global, Set, Max0, Bit, Byte, Fits, True, New, Copy, Svc, Store, StoreByte}
use Rattle.ssa_lowered.specs.Pieces.{Low, ◌>>=◌, skip, emits, does}
use Rattle.ssa_lowered.specs.Values.{const, Named, address_in, length_in, bytes_in, member, two_operands, Home, load, binary, current, change, store, Request, without_result}
use Rattle.ssa_lowered.specs.Statements.{assign, change_number, change_set, new, fits, copy_array, copy_record, assert, out_char, out_int, out_string, in_char}
use Rattle.ssa_exprs.specs.Making.{View, Gives}
use Rattle.ssa_exprs.proofs.Giving.{gives_bind, gives_give, gives_as}
use Rattle.ssa_exprs.proofs.Parts.{gives_member, gives_load, gives_binary}
use Rattle.ssa_statements.specs.Steps.{Steps, tested}
use Rattle.ssa_statements.proofs.Joining.{steps_of, steps_after}

pub steps_assign : {v0 v1 v2 v3 : View} {d : Low Home} {x : Low ℕ} {h : Home} {a : ℕ} → Gives v0 v1 d h → Gives v1 v2 x a → Steps v2 v3 (change h a) → Steps v0 v3 (assign d x)
steps_assign {x = x} {h = h} p0 p1 q = steps_after (λ h. x >>= λ v. change h v) p0 (steps_after (λ v. change h v) p1 q)

-- INC and DEC of a BYTE and of another number
pub steps_number : {v0 v1 v2 v3 v4 v5 v6 : View} {d : Low Home} {x : Low ℕ} {h : Home} {n v w : ℕ} (op : Binary) (byte : Bool) → Gives v0 v1 d h → Gives v1 v2 x n → Gives v2 v3 (current h) v → Gives v3 v4 (two_operands op v n) w
    → Gives v4 v5 (if byte then does Byte (w ∷ []) else skip) tt → Steps v5 v6 (change h w) → Steps v0 v6 (change_number op d x byte)
steps_number {x = x} {h = h} {n = n} {v = v} {w = w} op byte p0 p1 p2 p3 p4 q =
    steps_after (λ h. x >>= λ n. (current h) >>= λ v. (two_operands op v n) >>= λ w. (if byte then does Byte (w ∷ []) else skip) >>= λ _. change h w) p0
    (steps_after (λ n. (current h) >>= λ v. (two_operands op v n) >>= λ w. (if byte then does Byte (w ∷ []) else skip) >>= λ _. change h w) p1
    (steps_after (λ v. (two_operands op v n) >>= λ w. (if byte then does Byte (w ∷ []) else skip) >>= λ _. change h w) p2
    (steps_after (λ w. (if byte then does Byte (w ∷ []) else skip) >>= λ _. change h w) p3
    (steps_after (λ _. change h w) p4 q))))

pub steps_number_byte : {v0 v1 v2 v3 v4 v5 v6 : View} {d : Low Home} {x : Low ℕ} {h : Home} {n v w : ℕ} (op : Binary) (byte : Bool) → byte ≡ true → Gives v0 v1 d h → Gives v1 v2 x n → Gives v2 v3 (current h) v → Gives v3 v4 (two_operands op v n) w
    → Gives v4 v5 (does Byte (w ∷ [])) tt → Steps v5 v6 (change h w) → Steps v0 v6 (change_number op d x byte)
steps_number_byte {w = w} op byte e p0 p1 p2 p3 p4 q = steps_number op byte p0 p1 p2 p3 (gives_as (ap (λ b. if b then does Byte (w ∷ []) else skip) e) p4) q

pub steps_number_other : {v0 v1 v2 v3 v4 v6 : View} {d : Low Home} {x : Low ℕ} {h : Home} {n v w : ℕ} (op : Binary) (byte : Bool) → byte ≡ false → Gives v0 v1 d h → Gives v1 v2 x n → Gives v2 v3 (current h) v → Gives v3 v4 (two_operands op v n) w
    → Steps v4 v6 (change h w) → Steps v0 v6 (change_number op d x byte)
steps_number_other {v4 = v4} {w = w} op byte e p0 p1 p2 p3 q = steps_number op byte p0 p1 p2 p3 (gives_as (ap (λ b. if b then does Byte (w ∷ []) else skip) e) (gives_give v4 tt)) q

pub steps_set : {v0 v1 v2 v3 v4 v5 v6 v7 : View} {d : Low Home} {x : Low ℕ} {h : Home} {a e v w : ℕ} (op : Binary) → Gives v0 v1 d h → Gives v1 v2 x a → Gives v2 v3 (does Rattle.block_runs.specs.declared.code.Code.TheVariants.Elem (a ∷ [])) tt → Gives v3 v4 (emits Bit (a ∷ [])) e
    → Gives v4 v5 (current h) v → Gives v5 v6 (two_operands op v e) w → Steps v6 v7 (change h w) → Steps v0 v7 (change_set op d x)
steps_set {x = x} {h = h} {a = a} {e = e} {v = v} op p0 p1 p2 p3 p4 p5 q =
    steps_after (λ h. (member x) >>= λ a. (emits Bit (a ∷ [])) >>= λ e. (current h) >>= λ v. (two_operands op v e) >>= λ w. change h w) p0
    (steps_after (λ a. (emits Bit (a ∷ [])) >>= λ e. (current h) >>= λ v. (two_operands op v e) >>= λ w. change h w) (gives_member p1 p2)
    (steps_after (λ e. (current h) >>= λ v. (two_operands op v e) >>= λ w. change h w) p3
    (steps_after (λ v. (two_operands op v e) >>= λ w. change h w) p4
    (steps_after (λ w. change h w) p5 q))))

pub steps_new : {v0 v1 v2 v3 v4 v5 v6 : View} {d : Low Home} {h : Home} {n b i p : ℕ} (cells bytes g : ℕ) → Gives v0 v1 d h → Gives v1 v2 (const (cells + 1)) n → Gives v2 v3 (const (bytes + 8)) b → Gives v3 v4 (emits (Global g) []) i
    → Gives v4 v5 (emits New (n ∷ b ∷ i ∷ [])) p → Steps v5 v6 (change h p) → Steps v0 v6 (new d cells bytes g)
steps_new {h = h} {n = n} {b = b} {i = i} cells bytes g p0 p1 p2 p3 p4 q =
    steps_after (λ h. (const (cells + 1)) >>= λ n. (const (bytes + 8)) >>= λ b. (emits (Global g) []) >>= λ g. (emits New (n ∷ b ∷ g ∷ [])) >>= λ p. change h p) p0
    (steps_after (λ n. (const (bytes + 8)) >>= λ b. (emits (Global g) []) >>= λ g. (emits New (n ∷ b ∷ g ∷ [])) >>= λ p. change h p) p1
    (steps_after (λ b. (emits (Global g) []) >>= λ g. (emits New (n ∷ b ∷ g ∷ [])) >>= λ p. change h p) p2
    (steps_after (λ g. (emits New (n ∷ b ∷ g ∷ [])) >>= λ p. change h p) p3
    (steps_after (λ p. change h p) p4 q))))

pub gives_tested : {v0 v1 v2 v3 : View} {a b : ℕ} (n m : Option ℕ) (to from : Named) → Gives v0 v1 (length_in n to) a → Gives v1 v2 (length_in m from) b → Gives v2 v3 (does Fits (b ∷ a ∷ [])) tt → Gives v0 v3 (tested n to m from) tt
gives_tested {a = a} n m to from p0 p1 p2 = gives_bind (λ a. (length_in m from) >>= λ b. does Fits (b ∷ a ∷ [])) p0 (gives_bind (λ b. does Fits (b ∷ a ∷ [])) p1 p2)

pub steps_copy_array : {v0 v1 v2 v3 v4 v5 v6 v7 : View} {d e : Low Named} {to from : Named} {a b k : ℕ} (n m : Option ℕ) (size : ℕ) → Gives v0 v1 d to → Gives v1 v2 (address_in to 0) a → Gives v2 v3 e from → Gives v3 v4 (address_in from 0) b
    → Gives v4 v5 (fits n to m from) tt → Gives v5 v6 (bytes_in size m from) k → Gives v6 v7 (does Copy (a ∷ b ∷ k ∷ [])) tt → Steps v0 v7 (copy_array d n e m size)
steps_copy_array {e = e} {to = to} {from = from} {a = a} {b = b} n m size p0 p1 p2 p3 p4 p5 p6 =
    steps_of (gives_bind (λ to. (address_in to 0) >>= λ a. e >>= λ from. (address_in from 0) >>= λ b. (fits n to m from) >>= λ _. (bytes_in size m from) >>= λ k. does Copy (a ∷ b ∷ k ∷ [])) p0
    (gives_bind (λ a. e >>= λ from. (address_in from 0) >>= λ b. (fits n to m from) >>= λ _. (bytes_in size m from) >>= λ k. does Copy (a ∷ b ∷ k ∷ [])) p1
    (gives_bind (λ from. (address_in from 0) >>= λ b. (fits n to m from) >>= λ _. (bytes_in size m from) >>= λ k. does Copy (a ∷ b ∷ k ∷ [])) p2
    (gives_bind (λ b. (fits n to m from) >>= λ _. (bytes_in size m from) >>= λ k. does Copy (a ∷ b ∷ k ∷ [])) p3
    (gives_bind (λ _. (bytes_in size m from) >>= λ k. does Copy (a ∷ b ∷ k ∷ [])) p4
    (gives_bind (λ k. does Copy (a ∷ b ∷ k ∷ [])) p5 p6))))))

pub steps_copy_record : {v0 v1 v2 v3 v4 v5 v6 : View} {d e : Low Named} {to from : Named} {a b k : ℕ} (size : ℕ) → Gives v0 v1 d to → Gives v1 v2 (address_in to 0) a → Gives v2 v3 e from → Gives v3 v4 (address_in from 0) b
    → Gives v4 v5 (const size) k → Gives v5 v6 (does Copy (a ∷ b ∷ k ∷ [])) tt → Steps v0 v6 (copy_record d e size)
steps_copy_record {e = e} {to = to} {from = from} {a = a} {b = b} size p0 p1 p2 p3 p4 p5 =
    steps_of (gives_bind (λ to. (address_in to 0) >>= λ a. e >>= λ from. (address_in from 0) >>= λ b. (const size) >>= λ k. does Copy (a ∷ b ∷ k ∷ [])) p0
    (gives_bind (λ a. e >>= λ from. (address_in from 0) >>= λ b. (const size) >>= λ k. does Copy (a ∷ b ∷ k ∷ [])) p1
    (gives_bind (λ from. (address_in from 0) >>= λ b. (const size) >>= λ k. does Copy (a ∷ b ∷ k ∷ [])) p2
    (gives_bind (λ b. (const size) >>= λ k. does Copy (a ∷ b ∷ k ∷ [])) p3
    (gives_bind (λ k. does Copy (a ∷ b ∷ k ∷ [])) p4 p5)))))

pub steps_assert : {v0 v1 v2 : View} {x : Low ℕ} {a : ℕ} → Gives v0 v1 x a → Gives v1 v2 (does True (a ∷ [])) tt → Steps v0 v2 (assert x)
steps_assert p0 p1 = steps_of (gives_bind (λ a. does True (a ∷ [])) p0 p1)

pub steps_out_char : {v0 v1 v2 : View} {x : Low ℕ} {a : ℕ} → Gives v0 v1 x a → Gives v1 v2 (does (Svc 1) (a ∷ [])) tt → Steps v0 v2 (out_char x)
steps_out_char p0 p1 = steps_of (gives_bind (λ a. does (Svc 1) (a ∷ [])) p0 p1)

pub steps_out_int : {v0 v1 v2 v3 : View} {x n : Low ℕ} {a b : ℕ} → Gives v0 v1 x a → Gives v1 v2 n b → Gives v2 v3 (does (Svc 2) (a ∷ b ∷ [])) tt → Steps v0 v3 (out_int x n)
steps_out_int {n = n} {a = a} p0 p1 p2 = steps_of (gives_bind (λ a. n >>= λ b. does (Svc 2) (a ∷ b ∷ [])) p0 (gives_bind (λ b. does (Svc 2) (a ∷ b ∷ [])) p1 p2))

pub steps_out_string : {v0 v1 v2 v3 v4 v5 : View} {d : Low Named} {h : Named} {a l s : ℕ} (character : ℕ) (n : Option ℕ) → Gives v0 v1 d h → Gives v1 v2 (address_in h 0) a → Gives v2 v3 (length_in n h) l → Gives v3 v4 (const character) s → Gives v4 v5 (does (Svc 3) (a ∷ l ∷ s ∷ [])) tt → Steps v0 v5 (out_string character d n)
steps_out_string {h = h} {a = a} {l = l} character n p0 p1 p2 p3 p4 =
    steps_of (gives_bind (λ h. (address_in h 0) >>= λ a. (length_in n h) >>= λ l. (const character) >>= λ s. does (Svc 3) (a ∷ l ∷ s ∷ [])) p0
    (gives_bind (λ a. (length_in n h) >>= λ l. (const character) >>= λ s. does (Svc 3) (a ∷ l ∷ s ∷ [])) p1
    (gives_bind (λ l. (const character) >>= λ s. does (Svc 3) (a ∷ l ∷ s ∷ [])) p2
    (gives_bind (λ s. does (Svc 3) (a ∷ l ∷ s ∷ [])) p3 p4))))

pub steps_in_char : {v0 v1 v2 v3 v4 v5 v6 v7 v8 v9 : View} {d : Low Named} {h : Named} {a c z k g v : ℕ} (flag small : Bool) → Gives v0 v1 d h → Gives v1 v2 (address_in h 0) a → Gives v2 v3 (emits (Svc 4) []) c → Gives v3 v4 (const 0) z → Gives v4 v5 (emits (Set 10) (c ∷ z ∷ [])) k
    → Gives v5 v6 (emits (Global 0) []) g → Gives v6 v7 (does (if flag then StoreByte else Store) (g ∷ k ∷ [])) tt → Gives v7 v8 (emits Max0 (c ∷ [])) v → Gives v8 v9 (does (if small then StoreByte else Store) (a ∷ v ∷ [])) tt → Steps v0 v9 (in_char d flag small)
steps_in_char {h = h} {a = a} {c = c} {z = z} {k = k} {g = g} flag small p0 p1 p2 p3 p4 p5 p6 p7 p8 =
    steps_of (gives_bind (λ h. (address_in h 0) >>= λ a. (emits (Svc 4) []) >>= λ c. (const 0) >>= λ z. (emits (Set 10) (c ∷ z ∷ [])) >>= λ k. (emits (Global 0) []) >>= λ g. (store flag g k) >>= λ _. (emits Max0 (c ∷ [])) >>= λ v. store small a v) p0
    (gives_bind (λ a. (emits (Svc 4) []) >>= λ c. (const 0) >>= λ z. (emits (Set 10) (c ∷ z ∷ [])) >>= λ k. (emits (Global 0) []) >>= λ g. (store flag g k) >>= λ _. (emits Max0 (c ∷ [])) >>= λ v. store small a v) p1
    (gives_bind (λ c. (const 0) >>= λ z. (emits (Set 10) (c ∷ z ∷ [])) >>= λ k. (emits (Global 0) []) >>= λ g. (store flag g k) >>= λ _. (emits Max0 (c ∷ [])) >>= λ v. store small a v) p2
    (gives_bind (λ z. (emits (Set 10) (c ∷ z ∷ [])) >>= λ k. (emits (Global 0) []) >>= λ g. (store flag g k) >>= λ _. (emits Max0 (c ∷ [])) >>= λ v. store small a v) p3
    (gives_bind (λ k. (emits (Global 0) []) >>= λ g. (store flag g k) >>= λ _. (emits Max0 (c ∷ [])) >>= λ v. store small a v) p4
    (gives_bind (λ g. (store flag g k) >>= λ _. (emits Max0 (c ∷ [])) >>= λ v. store small a v) p5
    (gives_bind (λ _. (emits Max0 (c ∷ [])) >>= λ v. store small a v) p6
    (gives_bind (λ v. store small a v) p7 p8))))))))

pub steps_invoke : {v0 v1 v2 : View} {m : Low Request} {r : Request} → Gives v0 v1 m r → Gives v1 v2 (does r.code r.words) tt → Steps v0 v2 (without_result m)
steps_invoke p0 p1 = steps_of (gives_bind (λ r. does r.code r.words) p0 p1)

-- FOR's step
pub steps_advance : {v0 v1 v2 v3 v4 v5 v6 : View} {d : Low Home} {h from : Home} {n v k w : ℕ} → Gives v0 v1 d h → Gives v1 v2 d from → Gives v2 v3 (current from) v → Gives v3 v4 (const n) k → Gives v4 v5 (two_operands Add v k) w → Steps v5 v6 (change h w)
    → Steps v0 v6 (assign d (binary Add (load d) (const n)))
steps_advance p0 p1 p2 p3 p4 q = steps_assign p0 (gives_binary Add (gives_load p1 p2) p3 p4) q

pub fits_tested : (n m : Option ℕ) (to from : Named) → n ≡ None → fits n to m from ≡ tested n to m from
fits_tested None m to from e = refl
fits_tested (Some n) m to from e = absurd (cc)

pub fits_tested_from : (n m : Option ℕ) (to from : Named) → m ≡ None → fits n to m from ≡ tested n to m from
fits_tested_from None m to from e = refl
fits_tested_from (Some n) None to from e = refl
fits_tested_from (Some n) (Some m) to from e = absurd (cc)
