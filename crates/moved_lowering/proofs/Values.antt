-- The code of values and addresses, and of statements without blocks, over alike parts.
use Rattle.std.proofs.Common.{ℕ, ◌+◌, List, [], ◌∷◌, ◌++◌, Bool, Option}
use Rattle.std.specs.Prelude.{if◌then◌else◌}
use Rattle.ob_types.specs.declared.tree.Unary.{Unary}
use Rattle.ob_types.specs.declared.tree.Binary.{Binary}
use Rattle.ob_types.specs.declared.tree.Relation.{Relation}
use Rattle.block_runs.specs.declared.code.Code.{Code}
use Rattle.block_runs.specs.declared.code.Code.TheVariants.{Global, MulAdd, Set, Bit, Span, Has, Below, Byte, Elem, NotNil, IsPtr, IsTag, GuardPtr, GuardTag, Compare, Or, New, Copy, Svc, True, Max0}
use Rattle.block_runs.specs.declared.code.Code.TheVariants.{Call as CallOp, CallAt as CallAtOp}
use Rattle.ssa_lowered.specs.Pieces.{Low, give, ◌>>=◌, emits, does, skip}
use Rattle.ssa_lowered.specs.Values.{const, condition, Named, At, Beside, Object, Held, address_in, second, length_in, bytes_in, data_at, element, field, dereferenced, narrowed, one_operand, two_operands, unary, binary, compared, texts_compared, guarded, member, contained, with_element, with_range, is_pointer, is_tag, tag_of, as_byte, length_of, by_word, address, tag_in, by_record, by_open, also, Request, call, call_at, with_result, without_result, Home, current, change, home_in, home_of, load, store}
use Rattle.ssa_lowered.specs.Statements.{assign, change_number, change_set, new, fits, copy_array, copy_record, assert, out_char, out_int, out_string, in_char}
use Rattle.moved_lowering.proofs.Making.{AreAlike, alike, and_then, same_behind, globals}

---- Designators

pub data_alike : (a b : ℕ) → AreAlike (data_at a) (data_at b)
data_alike a b = same_behind (λ x. give (At x)) (globals a b)

pub element_alike : {d e : Low Named} {x y : Low ℕ} (n : Option ℕ) (size : ℕ) → AreAlike d e → AreAlike x y → AreAlike (element d n size x) (element e n size y)
element_alike n size h g = and_then h (λ w. and_then (alike (address_in w 0)) (λ a. same_behind (λ i. length_in n w >>= λ l. does Below (i ∷ l ∷ []) >>= λ u. const size >>= λ s. emits MulAdd (i ∷ s ∷ a ∷ []) >>= λ e. give (At e)) g))

pub field_alike : {d e : Low Named} (offset : ℕ) → AreAlike d e → AreAlike (field d offset) (field e offset)
field_alike offset h = same_behind (λ w. address_in w offset >>= λ a. give (At a)) h

pub dereferenced_alike : {x y : Low ℕ} → AreAlike x y → AreAlike (dereferenced x) (dereferenced y)
dereferenced_alike h = same_behind (λ p. does NotNil (p ∷ []) >>= λ u. give (Object p)) h

pub narrowed_alike : {d e : Low Named} (a b level : ℕ) → AreAlike d e → AreAlike (narrowed d a level) (narrowed e b level)
narrowed_alike a b level h = and_then h (λ w. and_then (alike (second w)) (λ t. same_behind (λ g. does (GuardTag level) (t ∷ g ∷ []) >>= λ u. give w) (globals a b)))

---- Values

pub unary_alike : (op : Unary) {x y : Low ℕ} → AreAlike x y → AreAlike (unary op x) (unary op y)
unary_alike op h = same_behind (λ a. one_operand op a) h

pub binary_alike : (op : Binary) {x y u v : Low ℕ} → AreAlike x u → AreAlike y v → AreAlike (binary op x y) (binary op u v)
binary_alike op h g = and_then h (λ a. same_behind (λ b. two_operands op a b) g)

pub compared_alike : (r : Relation) {x y u v : Low ℕ} → AreAlike x u → AreAlike y v → AreAlike (compared r x y) (compared r u v)
compared_alike r h g = and_then h (λ a. same_behind (λ b. emits (Set (condition r)) (a ∷ b ∷ [])) g)

pub texts_alike : (size : ℕ) (r : Relation) {d e u v : Low Named} (n m : Option ℕ) → AreAlike d u → AreAlike e v → AreAlike (texts_compared size r d n e m) (texts_compared size r u n v m)
texts_alike size r n m h g = and_then h (λ x. and_then (alike (address_in x 0)) (λ a. and_then (alike (bytes_in size n x)) (λ i. same_behind (λ y. address_in y 0 >>= λ b. bytes_in size m y >>= λ j. emits Compare (a ∷ i ∷ b ∷ j ∷ []) >>= λ c. const 0 >>= λ z. emits (Set (condition r)) (c ∷ z ∷ [])) g)))

pub guarded_alike : {x y : Low ℕ} (a b level : ℕ) → AreAlike x y → AreAlike (guarded x a level) (guarded y b level)
guarded_alike a b level h = and_then h (λ p. same_behind (λ g. does (GuardPtr level) (p ∷ g ∷ []) >>= λ u. give p) (globals a b))

pub member_alike : {x y : Low ℕ} → AreAlike x y → AreAlike (member x) (member y)
member_alike h = same_behind (λ a. does Elem (a ∷ []) >>= λ u. give a) h

pub contained_alike : {x y u v : Low ℕ} → AreAlike x u → AreAlike y v → AreAlike (contained x y) (contained u v)
contained_alike h g = and_then (member_alike h) (λ a. same_behind (λ b. emits Has (a ∷ b ∷ [])) g)

pub with_element_alike : {x y u v : Low ℕ} → AreAlike x u → AreAlike y v → AreAlike (with_element x y) (with_element u v)
with_element_alike h g = and_then h (λ b. same_behind (λ a. emits Bit (a ∷ []) >>= λ e. emits Or (b ∷ e ∷ [])) (member_alike g))

pub with_range_alike : {s x y t u v : Low ℕ} → AreAlike s t → AreAlike x u → AreAlike y v → AreAlike (with_range s x y) (with_range t u v)
with_range_alike h g k = and_then h (λ b. and_then (member_alike g) (λ a. same_behind (λ c. emits Span (a ∷ c ∷ []) >>= λ e. emits Or (b ∷ e ∷ [])) (member_alike k)))

pub is_pointer_alike : (a b level p : ℕ) → AreAlike (is_pointer a level p) (is_pointer b level p)
is_pointer_alike a b level p = same_behind (λ g. emits (IsPtr level) (p ∷ g ∷ [])) (globals a b)

pub is_tag_alike : (a b level t : ℕ) → AreAlike (is_tag a level t) (is_tag b level t)
is_tag_alike a b level t = same_behind (λ g. emits (IsTag level) (t ∷ g ∷ [])) (globals a b)

pub tag_of_alike : {d e : Low Named} → AreAlike d e → AreAlike (tag_of d) (tag_of e)
tag_of_alike h = same_behind (λ w. second w) h

pub as_byte_alike : {x y : Low ℕ} → AreAlike x y → AreAlike (as_byte x) (as_byte y)
as_byte_alike h = same_behind (λ a. does Byte (a ∷ []) >>= λ u. give a) h

pub length_alike : {d e : Low Named} (n : Option ℕ) → AreAlike d e → AreAlike (length_of d n) (length_of e n)
length_alike n h = same_behind (λ w. address_in w 0 >>= λ u. length_in n w) h

---- Arguments and calls

abbrev request : Code → List ℕ → Request
request code words = record { code = code; words = words }

pub by_word_alike : {x y : Low ℕ} → AreAlike x y → AreAlike (by_word x) (by_word y)
by_word_alike h = same_behind (λ a. give (a ∷ [])) h

pub address_alike : {d e : Low Named} → AreAlike d e → AreAlike (address d) (address e)
address_alike h = same_behind (λ w. address_in w 0) h

tag_alike : (a b : ℕ) (w : Named) → AreAlike (tag_in a w) (tag_in b w)
tag_alike a b (At x) = globals a b
tag_alike a b (Beside x y) = alike (second (Beside x y))
tag_alike a b (Object p) = alike (second (Object p))
tag_alike a b (Held x) = alike (second (Held x))

pub by_record_alike : {d e : Low Named} (a b : ℕ) → AreAlike d e → AreAlike (by_record d a) (by_record e b)
by_record_alike a b h = and_then h (λ w. and_then (alike (address_in w 0)) (λ x. same_behind (λ t. give (x ∷ t ∷ [])) (tag_alike a b w)))

pub by_open_alike : {d e : Low Named} (n : Option ℕ) → AreAlike d e → AreAlike (by_open d n) (by_open e n)
by_open_alike n h = same_behind (λ w. address_in w 0 >>= λ a. length_in n w >>= λ l. give (a ∷ l ∷ [])) h

pub also_alike : {x y u v : Low (List ℕ)} → AreAlike x u → AreAlike y v → AreAlike (also x y) (also u v)
also_alike h g = and_then h (λ a. same_behind (λ b. give (a ++ b)) g)

pub call_alike : (g : ℕ) {x y : Low (List ℕ)} → AreAlike x y → AreAlike (call g x) (call g y)
call_alike g h = same_behind (λ words. give (request (CallOp g) words)) h

pub call_at_alike : {t u : Low ℕ} {x y : Low (List ℕ)} → AreAlike t u → AreAlike x y → AreAlike (call_at t x) (call_at u y)
call_at_alike h g = and_then h (λ t. same_behind (λ words. does NotNil (t ∷ []) >>= λ u. give (request CallAtOp (t ∷ words))) g)

pub with_result_alike : {m n : Low Request} → AreAlike m n → AreAlike (with_result m) (with_result n)
with_result_alike h = same_behind (λ r. emits r.code r.words) h

pub without_result_alike : {m n : Low Request} → AreAlike m n → AreAlike (without_result m) (without_result n)
without_result_alike h = same_behind (λ r. does r.code r.words) h

---- Scalar variables

pub home_alike : {d e : Low Named} (small : Bool) → AreAlike d e → AreAlike (home_of d small) (home_of e small)
home_alike small h = same_behind (λ w. home_in small w) h

pub load_alike : {d e : Low Home} → AreAlike d e → AreAlike (load d) (load e)
load_alike h = same_behind (λ w. current w) h

---- Statements

pub assign_alike : {d e : Low Home} {x y : Low ℕ} → AreAlike d e → AreAlike x y → AreAlike (assign d x) (assign e y)
assign_alike h g = and_then h (λ a. same_behind (λ v. change a v) g)

pub change_number_alike : (op : Binary) {d e : Low Home} {x y : Low ℕ} (is_byte : Bool) → AreAlike d e → AreAlike x y → AreAlike (change_number op d x is_byte) (change_number op e y is_byte)
change_number_alike op is_byte h g = and_then h (λ a. same_behind (λ n. current a >>= λ v. two_operands op v n >>= λ w. (if is_byte then does Byte (w ∷ []) else skip) >>= λ u. change a w) g)

pub change_set_alike : (op : Binary) {d e : Low Home} {x y : Low ℕ} → AreAlike d e → AreAlike x y → AreAlike (change_set op d x) (change_set op e y)
change_set_alike op h g = and_then h (λ a. same_behind (λ n. emits Bit (n ∷ []) >>= λ e. current a >>= λ v. two_operands op v e >>= λ w. change a w) (member_alike g))

pub new_alike : {d e : Low Home} (cells bytes a b : ℕ) → AreAlike d e → AreAlike (new d cells bytes a) (new e cells bytes b)
new_alike cells bytes a b h = and_then h (λ w. and_then (alike (const (cells + 1))) (λ n. and_then (alike (const (bytes + 8))) (λ m. same_behind (λ g. emits New (n ∷ m ∷ g ∷ []) >>= λ p. change w p) (globals a b))))

pub copy_array_alike : {d e u v : Low Named} (n m : Option ℕ) (size : ℕ) → AreAlike d u → AreAlike e v → AreAlike (copy_array d n e m size) (copy_array u n v m size)
copy_array_alike n m size h g = and_then h (λ to. and_then (alike (address_in to 0)) (λ a. same_behind (λ from. address_in from 0 >>= λ b. fits n to m from >>= λ u. bytes_in size m from >>= λ bytes. does Copy (a ∷ b ∷ bytes ∷ [])) g))

pub copy_record_alike : {d e u v : Low Named} (size : ℕ) → AreAlike d u → AreAlike e v → AreAlike (copy_record d e size) (copy_record u v size)
copy_record_alike size h g = and_then h (λ to. and_then (alike (address_in to 0)) (λ a. same_behind (λ from. address_in from 0 >>= λ b. const size >>= λ bytes. does Copy (a ∷ b ∷ bytes ∷ [])) g))

pub assert_alike : {x y : Low ℕ} → AreAlike x y → AreAlike (assert x) (assert y)
assert_alike h = same_behind (λ a. does True (a ∷ [])) h

pub out_char_alike : {x y : Low ℕ} → AreAlike x y → AreAlike (out_char x) (out_char y)
out_char_alike h = same_behind (λ a. does (Svc 1) (a ∷ [])) h

pub out_int_alike : {x y u v : Low ℕ} → AreAlike x u → AreAlike y v → AreAlike (out_int x y) (out_int u v)
out_int_alike h g = and_then h (λ a. same_behind (λ b. does (Svc 2) (a ∷ b ∷ [])) g)

pub out_string_alike : (size : ℕ) {d e : Low Named} (n : Option ℕ) → AreAlike d e → AreAlike (out_string size d n) (out_string size e n)
out_string_alike size n h = same_behind (λ w. address_in w 0 >>= λ a. length_in n w >>= λ l. const size >>= λ s. does (Svc 3) (a ∷ l ∷ s ∷ [])) h

pub in_char_alike : {d e : Low Named} (a b : Bool) → AreAlike d e → AreAlike (in_char d a b) (in_char e a b)
in_char_alike a b h = same_behind (λ w. address_in w 0 >>= λ x. emits (Svc 4) [] >>= λ c. const 0 >>= λ z. emits (Set 10) (c ∷ z ∷ []) >>= λ ok. emits (Global 0) [] >>= λ g. store a g ok >>= λ u. emits Max0 (c ∷ []) >>= λ v. store b x v) h
