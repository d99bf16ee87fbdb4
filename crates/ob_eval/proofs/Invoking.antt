-- A call, from its turn to its body.
use Rattle.std.proofs.Common.{◌≡◌, ◌≢◌, ℕ, zero, suc, ◌+◌, ◌-◌, ◌<◌, ◌≤◌, List, [], ◌∷◌, ◌++◌, length, get_or, drop, Bool, true, false, Option, Some, None, Ok, Err, refl, sym, ap, ap₂, ◌∙◌, arith, append_assoc}
use Rattle.std.specs.Prelude.{replicate, nat_lt, nat_le, if◌then◌else◌, Result}
use Rattle.std.specs.Result.{is_ok, is_err}
use Rattle.std.proofs.lemmas.Bool.Decides.{nat_tests}
use Rattle.std.proofs.lemmas.List.{append-nil}
use Rattle.run_laws.specs.Turns.{State, Gives, Fails, Spent, after, ◌>>=◌, give, look, spend}
use Rattle.ob_types.specs.Layout.{cells_of_all}
use Rattle.ob_types.specs.Store.{Cell, Bits, Store, Trap, Kind, Senseless, Act, given, Handed, At, Sized, Tagged, Value, Here, unless, spend_all}
use Rattle.ob_types.specs.Meaning.{procedure_of, effects_of, answer, received, receives, zeroed, cells_in, within, invoked, at_most}
use Rattle.ob_types.specs.declared.types.Mode.{Mode}
use Rattle.ob_types.specs.declared.types.Mode.TheVariants.{Place}
use Rattle.ob_types.specs.declared.types.Mode.TheVariants.{Value as OfValue, Record as OfRecord, Open as OfOpen}
use Rattle.ob_types.specs.declared.types.Formal.{Formal}
use Rattle.ob_types.specs.declared.statements.Stmt.{Stmt}
use Rattle.ob_types.specs.declared.statements.Checked.{Checked}
use Rattle.ob_types.specs.declared.program.Program.{Program}
use Rattle.eval_store.specs.Did.{Stopped}
use Rattle.eval_store.specs.declared.stop.Stop.{Stop}
use Rattle.eval_store.specs.declared.stop.Stop.TheVariants.{Trapped, TurnsSpent, NoSense, NoMemory}
use Rattle.eval_store.proofs.Endings.{assoc, same}
use Rattle.eval_at_once.specs.declared.active.Active.{Active}
use Rattle.eval_at_once.proofs.Going.{stops_first, at_item, no_item}
use Rattle.eval_tasks.specs.Tasks.{Next, results, performs_all}
use Rattle.eval_tasks.proofs.Calls.{i_body}
use Rattle.ob_eval.specs.Calling.{ReceivedOne, Received, behind, prepared, calls_with, answers, enters}

-- what a call does in its own object
abbrev in_frame : Program → ℕ → ℕ → List Handed → ℕ → Act (Option Cell)
in_frame p n g hs frame =
    let here : Here = record { procedure = g; frame = frame; arguments = hs } in do
      _ ← effects_of p (at_most p n) here n (procedure_of p g).body
      c ← answer p (at_most p n) here (procedure_of p g).answer
      _ ← spend
      give c

prepared_is : (p : Program) (n g : ℕ) (hs : List Handed) (s : State Store) → invoked p (at_most p n) n g hs s ≡ after (prepared p g hs s) (λ cells. within cells (in_frame p n g hs))
prepared_is p n g hs s = by (received (procedure_of p g).formals hs)
  where
    by : (o : Option (List Cell)) → after (given o s) (λ values. look (λ s. s.frames) >>= λ frames. unless g 8 (nat_lt (length frames) 8192) >>= λ _. unless g 9 (nat_le (cells_in frames + (length values + cells_of_all p.types (procedure_of p g).locals)) 1048576) >>= λ _. spend_all (zeroed p (procedure_of p g)) >>= λ _. within (values ++ replicate (cells_of_all p.types (procedure_of p g).locals) (Bits 0)) (in_frame p n g hs))
        ≡ after (after (given o s) (λ values. look (λ s. s.frames) >>= λ frames. unless g 8 (nat_lt (length frames) 8192) >>= λ _. unless g 9 (nat_le (cells_in frames + (length values + cells_of_all p.types (procedure_of p g).locals)) 1048576) >>= λ _. spend_all (zeroed p (procedure_of p g)) >>= λ _. give (values ++ replicate (cells_of_all p.types (procedure_of p g).locals) (Bits 0)))) (λ cells. within cells (in_frame p n g hs))
    by None = refl
    by (Some values) = sym (
        assoc (unless g 8 (nat_lt (length s.store.frames) 8192) s) _ (λ cells. within cells (in_frame p n g hs))
        ∙ same (unless g 8 (nat_lt (length s.store.frames) 8192) s) (λ _ t.
        assoc (unless g 9 (nat_le (cells_in s.store.frames + (length values + cells_of_all p.types (procedure_of p g).locals)) 1048576) t) _ (λ cells. within cells (in_frame p n g hs))
        ∙ same (unless g 9 (nat_le (cells_in s.store.frames + (length values + cells_of_all p.types (procedure_of p g).locals)) 1048576) t) (λ _ u.
        assoc (spend_all (zeroed p (procedure_of p g)) u) _ (λ cells. within cells (in_frame p n g hs)))))

one_less : (n : ℕ) → suc n - 1 ≡ n
one_less n = omega arith

-- behind its turn
turned : (p : Program) (fuel g : ℕ) (hs : List Handed) (s t : State Store) → fuel ≢ 0 → spend {C = Store} {U = Trap} s ≡ Gives tt t → at_most p fuel g hs s ≡ after (prepared p g hs t) (λ cells. within cells (in_frame p (fuel - 1) g hs))
turned p zero g hs s t some turn = absurd (some refl)
turned p (suc n) g hs s t some turn =
    ap (λ e. after e (λ _. invoked p (at_most p n) n g hs)) turn
    ∙ prepared_is p n g hs t
    ∙ ap (λ m. after (prepared p g hs t) (λ cells. within cells (in_frame p m g hs))) (sym (one_less n))

not_less : (a b : ℕ) → b ≤ a → nat_lt a b ≡ false
not_less a b h = grind (arith, nat_tests)

is_less : (a b : ℕ) → a < b → nat_lt a b ≡ true
is_less a b h = grind (arith, nat_tests)

-- no fuel: its turn isn't there
pub no_fuel : (p : Program) (k : Next) (x : Active) (vs : List Handed) (g : ℕ) (hs : List Handed) (wanted : Bool) (s : State Store) → x.fuel ≡ 0 → calls_with p g hs wanted k x vs s ≡ Spent s.out
no_fuel p k x vs g hs wanted s e = ap (λ n. after (at_most p n g hs s) (results wanted k x vs)) e

-- a call's body, by what stands behind it
body_is : (p : Program) (k : Next) (x : Active) (vs : List Handed) (u : State Store) (n g : ℕ) (hs : List Handed) (cells : List Cell) (body : List Stmt) (a : Option Checked) (wanted : Bool) → after (within cells (λ frame.
    let here : Here = record { procedure = g; frame = frame; arguments = hs } in
    effects_of p (at_most p n) here n body >>= λ _. answer p (at_most p n) here a >>= λ c. spend >>= λ _. give c) u) (results wanted k x vs)
    ≡ performs_all p body (answers p x a wanted k) (record { fuel = n; procedure = g; frame = length u.store.frames; arguments = hs }) vs (record u { store = record u.store { frames = u.store.frames ++ cells ∷ [] } })
body_is p k x vs u n g hs cells body (Some e) true = i_body p k x vs u n g hs cells body (Some e) true
body_is p k x vs u n g hs cells body (Some e) false = i_body p k x vs u n g hs cells body (Some e) false
body_is p k x vs u n g hs cells body None true = i_body p k x vs u n g hs cells body None true
body_is p k x vs u n g hs cells body None false = i_body p k x vs u n g hs cells body None false

module _ (p : Program) (k : Next) (x : Active) (vs : List Handed) (g : ℕ) (hs : List Handed) (wanted : Bool) (some : x.fuel ≢ 0) where
  -- a turn that isn't there
  pub no_turn : (s : State Store) (stop : Stop) (out : List ℕ) → Stopped (spend {C = Store} {U = Trap} s) stop out → Stopped (calls_with p g hs wanted k x vs s) stop out
  no_turn s stop out h = by x.fuel some
    where
      by : (n : ℕ) → n ≢ 0 → Stopped (after (at_most p n g hs s) (results wanted k x vs)) stop out
      by zero none = absurd (none refl)
      by (suc n) none = stops_first (after (spend s) (λ _. invoked p (at_most p n) n g hs)) (results wanted k x vs) (after (at_most p (suc n) g hs s) (results wanted k x vs)) stop out refl (stops_first (spend s) (λ _. invoked p (at_most p n) n g hs) (after (spend s) (λ _. invoked p (at_most p n) n g hs)) stop out refl h)

  -- a trap of the call, or turns that aren't there for its zeros
  pub not_prepared : (s t : State Store) (stop : Stop) (out : List ℕ) → spend {C = Store} {U = Trap} s ≡ Gives tt t → Stopped (prepared p g hs t) stop out → Stopped (calls_with p g hs wanted k x vs s) stop out
  not_prepared s t stop out turn h =
      stops_first (at_most p x.fuel g hs s) (results wanted k x vs) (calls_with p g hs wanted k x vs s) stop out refl
      (stops_first (prepared p g hs t) (λ cells. within cells (in_frame p (x.fuel - 1) g hs)) (at_most p x.fuel g hs s) stop out (turned p x.fuel g hs s t some turn) h)

  -- its body, with the call's object behind those of the others
  pub call_enters : (s t u : State Store) (cells : List Cell) → spend {C = Store} {U = Trap} s ≡ Gives tt t → prepared p g hs t ≡ Gives cells u → calls_with p g hs wanted k x vs s ≡ enters p g hs (length u.store.frames) wanted k x vs (record u { store = record u.store { frames = u.store.frames ++ cells ∷ [] } })
  call_enters s t u cells turn made =
      ap (λ e. after e (results wanted k x vs)) (turned p x.fuel g hs s t some turn ∙ ap (λ e. after e (λ cells. within cells (in_frame p (x.fuel - 1) g hs))) made)
      ∙ body_is p k x vs u (x.fuel - 1) g hs cells (procedure_of p g).body (procedure_of p g).answer wanted

-- what prepares a call, by its parts
module _ (p : Program) (g : ℕ) (hs : List Handed) (s : State Store) where
  abbrev own : ℕ
  own = cells_of_all p.types (procedure_of p g).locals

  abbrev Fills : List Cell → Unit {0} → Act (List Cell)
  Fills values u = give (values ++ replicate own (Bits 0))

  abbrev Zeroes : List Cell → Unit {0} → Act (List Cell)
  Zeroes values u = spend_all (zeroed p (procedure_of p g)) >>= Fills values

  abbrev Has : List Cell → List (List Cell) → Unit {0} → Act (List Cell)
  Has values frames u = unless g 9 (nat_le (cells_in frames + (length values + own)) 1048576) >>= Zeroes values

  abbrev With : List Cell → Act (List Cell)
  With values = look (λ s. s.frames) >>= λ frames. unless g 8 (nat_lt (length frames) 8192) >>= Has values frames

  pub received_nothing : received (procedure_of p g).formals hs ≡ None → prepared p g hs s ≡ Fails Senseless s.out
  received_nothing e = ap (λ o. after (given o s) With) e

  module _ (values : List Cell) (is : received (procedure_of p g).formals hs ≡ Some values) where
    begun : prepared p g hs s ≡ after (unless g 8 (nat_lt (length s.store.frames) 8192) s) (Has values s.store.frames)
    begun = ap (λ o. after (given o s) With) is

    pub too_deep : 8192 ≤ length s.store.frames → prepared p g hs s ≡ Fails (Kind 8 g) s.out
    too_deep h = begun ∙ ap (λ ok. after (unless g 8 ok s) (Has values s.store.frames)) (not_less (length s.store.frames) 8192 h)

    module _ (deep : length s.store.frames < 8192) where
      fits : prepared p g hs s ≡ after (unless g 9 (nat_le (cells_in s.store.frames + (length values + own)) 1048576) s) (Zeroes values)
      fits = begun ∙ ap (λ ok. after (unless g 8 ok s) (Has values s.store.frames)) (is_less (length s.store.frames) 8192 deep)

      pub too_large : nat_le (cells_in s.store.frames + (length values + own)) 1048576 ≡ false → prepared p g hs s ≡ Fails (Kind 9 g) s.out
      too_large e = fits ∙ ap (λ ok. after (unless g 9 ok s) (Zeroes values)) e

      module _ (small : nat_le (cells_in s.store.frames + (length values + own)) 1048576 ≡ true) where
        zeroes : prepared p g hs s ≡ after (spend_all (zeroed p (procedure_of p g)) s) (Fills values)
        zeroes = fits ∙ ap (λ ok. after (unless g 9 ok s) (Zeroes values)) small

        pub zeros_stop : (stop : Stop) (out : List ℕ) → Stopped (spend_all (zeroed p (procedure_of p g)) s) stop out → Stopped (prepared p g hs s) stop out
        zeros_stop stop out h = stops_first (spend_all (zeroed p (procedure_of p g)) s) (Fills values) (prepared p g hs s) stop out zeroes h

        pub is_prepared : (t : State Store) → spend_all (zeroed p (procedure_of p g)) s ≡ Gives tt t → prepared p g hs s ≡ Gives (values ++ replicate own (Bits 0)) t
        is_prepared t h = zeroes ∙ ap (λ e. after e (Fills values)) h

-- arguments, received from the first one on

nothing : (m : Mode) (h : Handed) → receives m h None ≡ None
nothing OfValue (At a) = refl
nothing OfValue (Sized a n) = refl
nothing OfValue (Tagged a t) = refl
nothing OfValue (Value c) = refl
nothing Place (At a) = refl
nothing Place (Sized a n) = refl
nothing Place (Tagged a t) = refl
nothing Place (Value c) = refl
nothing OfRecord (At a) = refl
nothing OfRecord (Sized a n) = refl
nothing OfRecord (Tagged a t) = refl
nothing OfRecord (Value c) = refl
nothing OfOpen (At a) = refl
nothing OfOpen (Sized a n) = refl
nothing OfOpen (Tagged a t) = refl
nothing OfOpen (Value c) = refl

pub received_none : (xs : List Formal) (hs : List Handed) → (length xs ≡ length hs → ⊥) → received xs hs ≡ None
received_none [] [] differ = absurd (differ refl)
received_none [] (h ∷ hs) differ = refl
received_none (x ∷ xs) [] differ = refl
received_none (x ∷ xs) (h ∷ hs) differ = ap (receives x.mode h) (received_none xs hs (λ e. differ (ap suc e))) ∙ nothing x.mode h

-- one argument more: a cell, or none
pub with_cell : (m : Mode) (h : Handed) (c : Cell) (cells : List Cell) → ((cs : List Cell) → receives m h (Some cs) ≡ Some (c ∷ cs)) → (o : Option (List Cell)) → behind cells (receives m h o) ≡ behind (cells ++ c ∷ []) o
with_cell m h c cells is None = ap (behind cells) (nothing m h)
with_cell m h c cells is (Some cs) = ap (behind cells) (is cs) ∙ ap Some (sym (append_assoc cells (c ∷ []) cs))

pub without : (m : Mode) (h : Handed) (cells : List Cell) → ((cs : List Cell) → receives m h (Some cs) ≡ Some cs) → (o : Option (List Cell)) → behind cells (receives m h o) ≡ behind cells o
without m h cells is None = ap (behind cells) (nothing m h)
without m h cells is (Some cs) = ap (behind cells) (is cs)

-- both lists at a place
pub at_both : (xs : List Formal) (hs : List Handed) (i : ℕ) (x : Formal) (h : Handed) → i < length xs → i < length hs → x ≡ get_or xs i x → h ≡ get_or hs i h → received (drop i xs) (drop i hs) ≡ receives x.mode h (received (drop (i + 1) xs) (drop (i + 1) hs))
at_both xs hs i x h l m ix ih = ap₂ received (at_item xs i x l ix) (at_item hs i h m ih)

-- one more was received, or it stopped
pub received_more : (xs : List Formal) (hs : List Handed) (i : ℕ) (x : Formal) (h : Handed) (cells more : List Cell) → i < length xs → i < length hs → x ≡ get_or xs i x → h ≡ get_or hs i h → ReceivedOne x.mode h cells (Ok tt) more → received xs hs ≡ behind cells (received (drop i xs) (drop i hs)) → received xs hs ≡ behind more (received (drop (i + 1) xs) (drop (i + 1) hs))
received_more xs hs i x h cells more l m ix ih is inv = inv ∙ ap (behind cells) (at_both xs hs i x h l m ix ih) ∙ is (received (drop (i + 1) xs) (drop (i + 1) hs))

pub received_bad : (xs : List Formal) (hs : List Handed) (i : ℕ) (x : Formal) (h : Handed) (cells more : List Cell) (stop : Stop) → i < length xs → i < length hs → x ≡ get_or xs i x → h ≡ get_or hs i h → ReceivedOne x.mode h cells (Err stop) more → received xs hs ≡ behind cells (received (drop i xs) (drop i hs)) → Received (received xs hs) (Err stop)
received_bad xs hs i x h cells more NoSense l m ix ih is inv = inv ∙ ap (behind cells) (at_both xs hs i x h l m ix ih ∙ is (received (drop (i + 1) xs) (drop (i + 1) hs)))
received_bad xs hs i x h cells more NoMemory l m ix ih is inv = tt
received_bad xs hs i x h cells more (Trapped kind f) l m ix ih is inv = is
received_bad xs hs i x h cells more TurnsSpent l m ix ih is inv = is

pub received_all : (xs : List Formal) (hs : List Handed) (i : ℕ) (cells : List Cell) → length xs ≤ i → length hs ≤ i → received xs hs ≡ behind cells (received (drop i xs) (drop i hs)) → received xs hs ≡ Some cells
received_all xs hs i cells l m inv = inv ∙ ap (behind cells) (ap₂ received (no_item xs i l) (no_item hs i m)) ∙ ap Some (append-nil cells)

-- none were received yet
pub behind_none : (o : Option (List Cell)) → o ≡ behind [] o
behind_none None = refl
behind_none (Some more) = refl

-- one more zero
replicate_end : (n : ℕ) (c : Cell) → replicate n c ++ c ∷ [] ≡ replicate (n + 1) c
replicate_end zero c = refl
replicate_end (suc n) c = ap (λ l. c ∷ l) (replicate_end n c) ∙ ap (λ k. replicate k c) (next n)
  where
    next : (n : ℕ) → suc (n + 1) ≡ suc n + 1
    next n = omega arith

pub zeros_more : (xs cells : List Cell) (n : ℕ) → cells ≡ xs ++ replicate n (Bits 0) → cells ++ Bits 0 ∷ [] ≡ xs ++ replicate (n + 1) (Bits 0)
zeros_more xs cells n h = ap (λ l. l ++ Bits 0 ∷ []) h ∙ append_assoc xs (replicate n (Bits 0)) (Bits 0 ∷ []) ∙ ap (λ l. xs ++ l) (replicate_end n (Bits 0))

-- one more cell was pushed
pub pushed : {E : Type 0} (r : Result (Unit {0}) E) (new a b : List Cell) → new ≡ (if is_ok r then a else b) → false ≡ is_err r → new ≡ a
pushed (Ok u) new a b h e = h
pushed (Err x) new a b h e = absurd (cc)
